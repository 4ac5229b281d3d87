-- The base definitions by their places, and their signatures.
use Rattle.std.proofs.Common.{◌≡◌, ℕ, zero, suc, ◌+◌, true, List, [], ◌∷◌, ◌++◌, take, slice_get, Some, refl, ap, ◌∙◌, add-one}
use Rattle.std.proofs.lemmas.Bool.{and_from}
use Rattle.hol_terms.specs.Name.{dot_abs, dot_rep}
use Rattle.hol_terms.specs.Definition.{Definition, const_def, type_def, with_def, signature_of}
use Rattle.hol_terms.specs.Base.{base, base_definitions}
use Rattle.hol_terms.specs.Table.{introduces_new, IsPredicateOf}
use Rattle.hol_terms.specs.WellFormed.{IsWellFormed}
use Rattle.hol_terms.proofs.Defining.{may_introduce-new}
use Rattle.hol_terms.proofs.Weaken.{signature_of-push}
use Rattle.hol_terms.proofs.BaseTyped.{base_well_formed}

take-push : {X : Type 0} (xs : List X) (k : ℕ) (x : X) → slice_get xs k ≡ Some x → take k xs ++ x ∷ [] ≡ take (suc k) xs
take-push [] k x e = cc
take-push (y ∷ xs) zero x e = cc
take-push (y ∷ xs) (suc k) x e = ap (λ ys. y ∷ ys) (take-push xs k x e)

pub base-push : (k : ℕ) (d : Definition) → slice_get base_definitions k ≡ Some d → base k ++ d ∷ [] ≡ base (k + 1)
base-push k d e = rw add-one (take-push base_definitions k d e)

pub base_whole : base 52 ≡ base_definitions
unfolding base_definitions
base_whole = refl

-- a well formed definition introduces new names
new_by : (ds : List Definition) (d : Definition) → IsWellFormed ds d → introduces_new (signature_of ds) d ≡ true
new_by ds (const_def c t) h = may_introduce-new (signature_of ds) c h.named
new_by ds (type_def n p) h =
    let s = signature_of ds in
    and_from _ _ (and_from _ _ (may_introduce-new s n h.named) (may_introduce-new s (dot_abs n) h.named_abs)) (may_introduce-new s (dot_rep n) h.named_rep)

predicate_by : (ds : List Definition) (d : Definition) → IsWellFormed ds d → IsPredicateOf d
predicate_by ds (const_def c t) h = tt
predicate_by ds (type_def n p) h = h.predicate

pub base_new : (k : ℕ) (d : Definition) → slice_get base_definitions k ≡ Some d → introduces_new (signature_of (base k)) d ≡ true
base_new k d e = new_by (base k) d (base_well_formed k d e)

pub base_predicate : (k : ℕ) (d : Definition) → slice_get base_definitions k ≡ Some d → IsPredicateOf d
base_predicate k d e = predicate_by (base k) d (base_well_formed k d e)

pub next_signature : (k : ℕ) (d : Definition) → slice_get base_definitions k ≡ Some d → with_def (signature_of (base k)) d ≡ signature_of (base (k + 1))
next_signature k d e = signature_of-push (base k) d ∙ ap signature_of (base-push k d e)
