-- One definition more.
use Rattle.std.proofs.Common.{◌≡◌, true, List, [], ◌∷◌, ◌++◌, map, refl, sym, ap, ◌∙◌, append-nil}
use Rattle.std.proofs.lemmas.Bool.{and_from}
use Rattle.hol_terms.specs.Name.{dot_abs, dot_rep}
use Rattle.hol_terms.specs.Definition.{Definition, const_def, type_def, signature_of}
use Rattle.hol_terms.specs.Table.{introduces_new}
use Rattle.hol_terms.specs.Proves.{IsConservative, AreConservative}
use Rattle.hol_terms.proofs.Defining.{may_introduce-new}
use Rattle.hol_terms.proofs.Weaken.{AreConservativeAfter-push}

-- a conservative definition introduces new names
pub conservative_new : (ds : List Definition) (d : Definition) → IsConservative ds d → introduces_new (signature_of ds) d ≡ true
conservative_new ds (const_def c t) h = may_introduce-new (signature_of ds) c h.named
conservative_new ds (type_def n p) h =
    let s = signature_of ds in
    and_from _ _ (and_from _ _ (may_introduce-new s n h.named) (may_introduce-new s (dot_abs n) h.named_abs)) (may_introduce-new s (dot_rep n) h.named_rep)

pub conservative_push : (ds : List Definition) (d : Definition) → AreConservative ds → IsConservative ds d → AreConservative (ds ++ d ∷ [])
conservative_push ds d h c = AreConservativeAfter-push [] ds d h c

pub map-push : {X Y : Type 0} (f : X → Y) (xs : List X) (x : X) → map f (xs ++ x ∷ []) ≡ map f xs ++ f x ∷ []
map-push f [] x = refl
map-push f (y ∷ xs) x = ap (λ ys. f y ∷ ys) (map-push f xs x)
