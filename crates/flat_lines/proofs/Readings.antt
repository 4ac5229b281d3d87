-- What a reading gives, by what its parts gave.
use Rattle.std.proofs.Common.{◌≡◌, refl, sym, ap, ◌∙◌, subst, Bool, true, false, ◌==◌, Option, Some, None, length}
use Rattle.std.specs.Prelude.{is_some}
use Rattle.hol_terms.specs.Text.{Text}
use Rattle.strict_reading.specs.Steps.{◌>>=◌, when}
use Rattle.strict_reading.specs.Words.{behind}
use Rattle.strict_lines.specs.Operands.{parted, ended}
use Rattle.flat_lines.specs.Reads.{Reads}

pub bind_none : {A B : Type 0} (o : Option A) (f : A → Option B) → o ≡ None → (o >>= f) ≡ None
unfolding ◌>>=◌
bind_none o f e = ap (λ v. v >>= f) e

pub bind_on : {A B : Type 0} (o : Option A) (f : A → Option B) (a : A) → o ≡ Some a → (o >>= f) ≡ f a
unfolding ◌>>=◌
bind_on o f a e = ap (λ v. v >>= f) e

pub ended_none : {A B : Type 0} (o : Option (A × Text)) (f : A → B) → o ≡ None → ended o f ≡ None
unfolding ended
ended_none o f e = bind_none o _ e

pub ended_before : {A B : Type 0} (o : Option (A × Text)) (f : A → B) (a : A × Text) (rest : Text) → o ≡ Some a → rest ≡ a.1 → false ≡ (length rest == 0) → ended o f ≡ None
unfolding ended when
ended_before o f a rest e r h = bind_on o _ a e ∙ ap (λ b. when b (Some (f a.0))) (ap (λ y. length y == 0) (sym r) ∙ sym h)

pub ended_at : {A B : Type 0} (o : Option (A × Text)) (f : A → B) (a : A × Text) (rest : Text) → o ≡ Some a → rest ≡ a.1 → true ≡ (length rest == 0) → ended o f ≡ Some (f a.0)
unfolding ended when
ended_at o f a rest e r h = bind_on o _ a e ∙ ap (λ b. when b (Some (f a.0))) (ap (λ y. length y == 0) (sym r) ∙ sym h)

pub parted_none : {A B : Type 0} (o : Option (A × Text)) (sign : Text) (f : A → Text → Option B) → o ≡ None → parted o sign f ≡ None
unfolding parted
parted_none o sign f e = bind_none o _ e

pub parted_before : {A B : Type 0} (o : Option (A × Text)) (sign : Text) (f : A → Text → Option B) (a : A × Text) (rest : Text) → o ≡ Some a → rest ≡ a.1 → behind sign rest ≡ None → parted o sign f ≡ None
unfolding parted
parted_before o sign f a rest e r h = bind_on o _ a e ∙ bind_none (behind sign a.1) _ (ap (behind sign) (sym r) ∙ h)

pub parted_at : {A B : Type 0} (o : Option (A × Text)) (sign : Text) (f : A → Text → Option B) (a : A × Text) (rest y : Text) → o ≡ Some a → rest ≡ a.1 → behind sign rest ≡ Some y → parted o sign f ≡ f a.0 y
unfolding parted
parted_at o sign f a rest y e r h = bind_on o _ a e ∙ bind_on (behind sign a.1) _ y (ap (behind sign) (sym r) ∙ h)

-- a value with nothing behind it, and what is made of it
pub ended_made : {A B : Type 0} (o : Option (A × Text)) (f : A → B) → ended o f ≡ (ended o (λ a. a) >>= (λ a. Some (f a)))
unfolding ended when ◌>>=◌
ended_made None f = refl
ended_made (Some a) f = at (length a.1 == 0)
  where
    at : (b : Bool) → when b (Some (f a.0)) ≡ (when b (Some a.0) >>= (λ x. Some (f x)))
    at true = refl
    at false = refl

-- ---- readings in code that gave something, or nothing

pub gave_none : {A B : Type 0} (R : A → B → Type 0) (o : Option A) (p : Option B) → Reads R o p → o ≡ None → p ≡ None
gave_none R o p h e = subst (λ v. Reads R v p) e h

pub gave_some : {A B : Type 0} (R : A → B → Type 0) (o : Option A) (p : Option B) (a : A) → Reads R o p → o ≡ Some a → (b : B) × (p ≡ Some b) × R a b
gave_some R o p a h e = subst (λ v. Reads R v p) e h

pub gave_alike : {A B : Type 0} (R : A → B → Type 0) (o : Option A) (p : Option B) → Reads R o p → is_some o ≡ is_some p
gave_alike R None p h = ap is_some (sym h)
gave_alike R (Some a) p h = ap is_some (sym h.1)

pub made_alike : {A B : Type 0} (p : Option A) (f : A → B) → is_some (p >>= (λ a. Some (f a))) ≡ is_some p
unfolding ◌>>=◌
made_alike None f = refl
made_alike (Some a) f = refl

-- ---- what is made of what was read

pub ended_then : {A B C : Type 0} (o : Option (A × Text)) (g : A → B) (f : B → C) → ended o (λ a. f (g a)) ≡ (ended o g >>= (λ b. Some (f b)))
unfolding ended when ◌>>=◌
ended_then None g f = refl
ended_then (Some a) g f = at (length a.1 == 0)
  where
    at : (b : Bool) → when b (Some (f (g a.0))) ≡ (when b (Some (g a.0)) >>= (λ x. Some (f x)))
    at true = refl
    at false = refl

pub parted_then : {A B C : Type 0} (o : Option (A × Text)) (sign : Text) (g : A → Text → Option B) (h : B → Option C) (f : A → Text → Option C) → ((a : A) (y : Text) → f a y ≡ (g a y >>= h)) → parted o sign f ≡ (parted o sign g >>= h)
unfolding parted ◌>>=◌
parted_then None sign g h f e = refl
parted_then (Some a) sign g h f e = at (behind sign a.1)
  where
    at : (r : Option Text) → (r >>= (λ y. f a.0 y)) ≡ ((r >>= (λ y. g a.0 y)) >>= h)
    at None = refl
    at (Some y) = e a.0 y

pub some_of : {A : Type 0} (o : Option A) → is_some o ≡ true → (a : A) × (o ≡ Some a)
some_of None h = cc
some_of (Some a) h = (a, refl)

pub none_of : {A : Type 0} (o : Option A) → is_some o ≡ false → o ≡ None
none_of None h = refl
none_of (Some a) h = cc
