use Rattle.std.proofs.Common.{◌++◌, ◌∙◌, not, ap, sym, String, string_bytes, List}
use Rattle.std.specs.Prelude.{bytes_eq}
use Rattle.std.specs.List.{list_any}
use Rattle.std.specs.declared.alloc.Global.{Global}
use Rattle.hol_terms.proofs.DottedNames.{no_entry}
use Rattle.hol_terms.proofs.sig_types.lacks.Goals as goal

pub returns : goal.returns
returns g c =
    let m = c.args.name.now ++ c.args.end.now in
    ap not (c.has_joined.ensures ∙ ap (λ (ks : List (String Global)). list_any (λ k. bytes_eq (string_bytes k) m) ks) (c.as_slice.ensures ∙ c.keys.ensures.rest)) ∙ sym (no_entry c.args.table.now.entries m)
