use Rattle.std.proofs.Common.{not, ◌&&◌, ◌∙◌, sym}
use Rattle.hol_terms.specs.Name.{is_name, is_numbered}
use Rattle.hol_terms.specs.Signature.{is_new}
use Rattle.hol_terms.proofs.Tables.{and_left}
use Rattle.hol_terms.proofs.sig.Sig.may_introduce_type.Goals as goal

pub may_introduce_ends-requires : goal.may_introduce_ends-requires
may_introduce_ends-requires c =
    let n = c.args.name.now in
    and_left (is_name n) (not (is_numbered n)) (and_left (is_name n && not (is_numbered n)) (is_new c.args.self.now n) (sym c.may_introduce.ensures ∙ c.if-may_introduce.true))
