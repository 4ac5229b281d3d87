use Rattle.std.proofs.Common.{◌≡◌, [], ◌∷◌, ◌++◌, string_bytes, ap, sym, ◌∙◌, subst, refl}
use Rattle.hol_terms.specs.Subst.{ty_pairs}
use Rattle.hol_terms.specs.Signature.{IsTyOver}
use Rattle.hol_terms.specs.Definition.{signature_of}
use Rattle.hol_terms.specs.Proves.{AreTypesOver}
use Rattle.hol_terms.proofs.Lists.{ty_pairs-push}
use Rattle.kernel_lines.proofs.Over.{types_push}
use Rattle.script_core.proofs.pairs.add_type.Goals as goal

pub returns-clause-put : goal.returns-clause-put
returns-clause-put c =
    let s = signature_of c.args.k.now.defs in
    let e : ty_pairs c.push.new.self.items ≡ ty_pairs c.args.found.now.items ++ (string_bytes c.in_ok-name.name, c.in_ok-ty.ty) ∷ [] =
    ap ty_pairs c.in_ok-push.ensures.items ∙ ty_pairs-push c.args.found.now.items (c.in_ok-name.name, c.in_ok-ty.ty) in
    subst (AreTypesOver s) (sym e)
    (types_push s (ty_pairs c.args.found.now.items) (string_bytes c.in_ok-name.name) c.in_ok-ty.ty c.requires.put
    (subst (IsTyOver s) (sym c.in_ok-ty.ensures) c.type_at.ensures.over))

pub returns-clause-exact : goal.returns-clause-exact
returns-clause-exact c =
    let e : ty_pairs c.push.new.self.items ≡ ty_pairs c.args.found.now.items ++ (string_bytes c.in_ok-name.name, c.in_ok-ty.ty) ∷ [] =
    ap ty_pairs c.in_ok-push.ensures.items ∙ ty_pairs-push c.args.found.now.items (c.in_ok-name.name, c.in_ok-ty.ty) in
    record { is = λ more. rw (e, c.type_at.ensures.exact, c.in_ok-ty.ensures, c.in_ok-name.ensures.ok) refl }
