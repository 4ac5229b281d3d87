-- Whether a function takes an argument.
use Rattle.std.proofs.Common.{◌≡◌, Bool, true, false, refl, ap, sym, ◌∙◌, true≢false}
use Rattle.hol_terms.specs.Ty.{Ty}
use Rattle.hol_terms.specs.Tm.{Tm}
use Rattle.hol_terms.specs.Typing.{tm_type, fun_ty, range_ty, domain_ty}
use Rattle.hol_terms.specs.Takes.{Takes}
use Rattle.hol_terms.specs.Rules.{fits}
use Rattle.hol_terms.proofs.Same.{same_ty-from}
use Rattle.strict_reading.proofs.TermTexts.{fits_is}

fits_where : (f x : Tm) → Takes f x → fits f x ≡ true
fits_where f x h = same_ty-from (tm_type f) (fun_ty (tm_type x) (range_ty (tm_type f))) h

pub fits_none : (f x : Tm) (u : Ty) → u ≡ tm_type f → ((a b : Ty) → u ≡ fun_ty a b → ⊥) → false ≡ fits f x
fits_none f x u e never = at (fits f x) refl
  where
    at : (b : Bool) → fits f x ≡ b → false ≡ b
    at true h = absurd (never (tm_type x) (range_ty (tm_type f)) (e ∙ fits_is f x h))
    at false h = refl

-- a test of the domain tells it
pub fits_told : (f x : Tm) (u a b v : Ty) (r : Bool) → u ≡ tm_type f → u ≡ fun_ty a b → v ≡ tm_type x → (r ≡ true → a ≡ v) → (a ≡ v → r ≡ true) → r ≡ fits f x
fits_told f x u a b v r e parts ev there back = at r refl (fits f x) refl
  where
    taken : a ≡ v → Takes f x
    taken h = (sym e ∙ parts) ∙ (λ j. fun_ty ((h ∙ ev) j) (range_ty (sym parts j))) ∙ (λ j. fun_ty (tm_type x) (range_ty (e j)))

    domain : fits f x ≡ true → a ≡ v
    domain h = ap domain_ty (sym parts ∙ e ∙ fits_is f x h) ∙ sym ev

    at : (b : Bool) → r ≡ b → (c : Bool) → fits f x ≡ c → r ≡ c
    at true p true q = p
    at true p false q = absurd (true≢false (sym (fits_where f x (taken (there p))) ∙ q))
    at false p true q = absurd (true≢false (sym (back (domain q)) ∙ p))
    at false p false q = p

pub takes_where : (f x : Tm) (r : Bool) → r ≡ fits f x → r ≡ true → Takes f x
takes_where f x r e h = fits_is f x (sym e ∙ h)
