-- What a reading that gives something has read.
use Rattle.std.proofs.Common.{◌≡◌, refl, ap, ◌∙◌, Bool, true, false, Option, Some, None}
use Rattle.strict_reading.specs.Steps.{◌>>=◌, when, choose, either}

pub bind_case : {A B G : Type 0} (o : Option A) (f : A → Option B) (y : B) → (o >>= f) ≡ Some y → ((a : A) → o ≡ Some a → f a ≡ Some y → G) → G
unfolding ◌>>=◌
bind_case None f y h k = cc
bind_case (Some x) f y h k = k x refl h

pub when_case : {A G : Type 0} (b : Bool) (x : Option A) (y : A) → when b x ≡ Some y → (b ≡ true → x ≡ Some y → G) → G
unfolding when
when_case true x y h k = k refl h
when_case false x y h k = cc

pub choose_case : {A G : Type 0} (b : Bool) (x z : Option A) (y : A) → choose b x z ≡ Some y → (b ≡ true → x ≡ Some y → G) → (b ≡ false → z ≡ Some y → G) → G
unfolding choose
choose_case true x z y h k l = k refl h
choose_case false x z y h k l = l refl h

pub either_case : {A B G : Type 0} (o : Option A) (f : A → Option B) (z : Option B) (y : B) → either o f z ≡ Some y → ((a : A) → o ≡ Some a → f a ≡ Some y → G) → (o ≡ None → z ≡ Some y → G) → G
unfolding either
either_case None f z y h k l = l refl h
either_case (Some x) f z y h k l = k x refl h

-- ---- what a reading gives

pub bind_some : {A B : Type 0} (o : Option A) (f : A → Option B) (a : A) → o ≡ Some a → (o >>= f) ≡ f a
unfolding ◌>>=◌
bind_some o f a e = ap (λ v. v >>= f) e

pub when_true : {A : Type 0} (b : Bool) (x : Option A) → b ≡ true → when b x ≡ x
unfolding when
when_true b x e = ap (λ v. when v x) e

pub choose_true : {A : Type 0} (b : Bool) (x y : Option A) → b ≡ true → choose b x y ≡ x
unfolding choose
choose_true b x y e = ap (λ v. choose v x y) e

pub choose_false : {A : Type 0} (b : Bool) (x y : Option A) → b ≡ false → choose b x y ≡ y
unfolding choose
choose_false b x y e = ap (λ v. choose v x y) e

pub either_none : {A B : Type 0} (o : Option A) (f : A → Option B) (y : Option B) → o ≡ None → either o f y ≡ y
unfolding either
either_none o f y e = ap (λ v. either v f y) e

pub either_some : {A B : Type 0} (o : Option A) (f : A → Option B) (y : Option B) (a : A) → o ≡ Some a → either o f y ≡ f a
unfolding either
either_some o f y a e = ap (λ v. either v f y) e

-- ---- two readings that agree

bind_each : {A B : Type 0} (p : Option A) (f g : A → Option B) → ((a : A) → p ≡ Some a → f a ≡ g a) → (p >>= f) ≡ (p >>= g)
unfolding ◌>>=◌
bind_each None f g k = refl
bind_each (Some a) f g k = k a refl

pub bind_same : {A B : Type 0} (o p : Option A) (f g : A → Option B) → o ≡ p → ((a : A) → p ≡ Some a → f a ≡ g a) → (o >>= f) ≡ (p >>= g)
bind_same o p f g e k = ap (λ v. v >>= f) e ∙ bind_each p f g k

pub when_same : {A : Type 0} (b : Bool) (x y : Option A) → (b ≡ true → x ≡ y) → when b x ≡ when b y
unfolding when
when_same true x y k = k refl
when_same false x y k = refl

pub choose_same : {A : Type 0} (b : Bool) (x y z w : Option A) → (b ≡ true → x ≡ y) → z ≡ w → choose b x z ≡ choose b y w
unfolding choose
choose_same true x y z w k e = k refl
choose_same false x y z w k e = e

pub either_same : {A B : Type 0} (o : Option A) (f g : A → Option B) (y z : Option B) → ((a : A) → o ≡ Some a → f a ≡ g a) → y ≡ z → either o f y ≡ either o g z
unfolding either
either_same None f g y z k e = e
either_same (Some a) f g y z k e = k a refl
