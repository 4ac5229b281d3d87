-- The generic types of the base definitions' constants are types over them.
use Rattle.std.proofs.Common.{◌≡◌, refl, ap, ◌∙◌, sym, ℕ, Bool, true, false, cond, ◌&&◌, List, [], ◌∷◌, Option, Some, None, eqb-true}
use Rattle.std.specs.Prelude.{bytes_eq}
use Rattle.std.specs.List.{list_all}
use Rattle.std.proofs.lemmas.Bool.{and_parts}
use Rattle.hol_terms.specs.Name.{Name}
use Rattle.hol_terms.specs.Ty.{Ty, ty_var, ty_app, Tys, no_tys, more_tys}
use Rattle.hol_terms.specs.Signature.{Signature, entry_at, arity_of, tys_count, IsTyOver, AreTysOver}
use Rattle.hol_terms.specs.Meaning.{is_count}
use Rattle.hol_terms.specs.Definition.{signature_of}
use Rattle.hol_terms.specs.Base.{base, base_definitions}
use Rattle.hol_terms.proofs.AsciiNames.{is_ascii_segment, is_segment_from_ascii}
use Rattle.hol_terms.proofs.BaseOpened.{opened_bases}
use Rattle.hol_text.specs.Over.{GivesTypes}
use Rattle.base_count.specs.InForce.{in_force}

-- a type over the signature whose type variables are ASCII
abbrev mutual
  is_over : Signature → Ty → Bool
  is_over s (ty_var n) = is_ascii_segment n
  is_over s (ty_app c ts) = is_count (arity_of s c) (tys_count ts) && are_over s ts

  are_over : Signature → Tys → Bool
  are_over s no_tys = true
  are_over s (more_tys t ts) = is_over s t && are_over s ts

counted : (o : Option ℕ) (k : ℕ) → is_count o k ≡ true → o ≡ Some k
counted None k h = cc
counted (Some n) k h = ap (λ m. Some m) (eqb-true n k h)

mutual
  over : (s : Signature) (t : Ty) → is_over s t ≡ true → IsTyOver s t
  over s (ty_var n) h = is_segment_from_ascii n h
  over s (ty_app c ts) h = let p = and_parts (is_count (arity_of s c) (tys_count ts)) (are_over s ts) h in (counted (arity_of s c) (tys_count ts) p.0, all_over s ts p.1)

  all_over : (s : Signature) (ts : Tys) → are_over s ts ≡ true → AreTysOver s ts
  all_over s no_tys h = tt
  all_over s (more_tys t ts) h = let p = and_parts (is_over s t) (are_over s ts) h in (over s t p.0, all_over s ts p.1)

same_some : {A : Type 0} (x y : A) → Some x ≡ Some y → x ≡ y
same_some x y e = cc

found_over : (s : Signature) (es : List (Name × Ty)) (c : Name) (g : Ty) → list_all (λ e. is_over s e.1) es ≡ true → entry_at es c ≡ Some g → IsTyOver s g
found_over s [] c g h e = cc
found_over s (p ∷ es) c g h e =
    let q = and_parts (is_over s p.1) (list_all (λ e. is_over s e.1) es) h in
    at (bytes_eq p.0 c) q.0 (found_over s es c g q.1) e
  where
    at : (b : Bool) → is_over s p.1 ≡ true → (entry_at es c ≡ Some g → IsTyOver s g) → cond b (Some p.1) (entry_at es c) ≡ Some g → IsTyOver s g
    at true o f k = over s g (ap (is_over s) (sym (same_some p.1 g k)) ∙ o)
    at false o f k = f k

all_generics : list_all (λ e. is_over (signature_of (base in_force)) e.1) (signature_of (base in_force)).consts ≡ true
unfolding opened_bases base_definitions
all_generics = refl

pub base_gives_types : GivesTypes (signature_of (base in_force))
base_gives_types = record { fun_takes_two = refl; generics = λ c g e. found_over (signature_of (base in_force)) (signature_of (base in_force)).consts c g all_generics e }
