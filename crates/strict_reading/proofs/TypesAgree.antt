-- A type is read by the same steps however deep the reading may go.
use Rattle.std.proofs.Common.{◌≡◌, refl, ap, ◌∙◌, ℕ, zero, suc, ◌+◌, ◌<◌, ◌≤◌, Some, length, length-append, arith}
use Rattle.std.specs.Prelude.{codes}
use Rattle.hol_terms.specs.Ty.{Ty, Tys}
use Rattle.hol_terms.specs.Signature.{Signature}
use Rattle.hol_terms.specs.Text.{Text, ty_text}
use Rattle.strict_reading.specs.Types.{TypeReadings, name_behind, range_behind, onward_step, variable_step, name_step, tuple_step, group_step, type_step, more_step, types_below, reads_type, reads_types, reads_onward, type_readings}
use Rattle.strict_reading.proofs.Steps.{bind_same, when_same, choose_same, either_same}
use Rattle.strict_reading.proofs.Words.{behind_long, word_long, word_longer}
use Rattle.strict_reading.proofs.TypesSound.{more_text, AreSound, are_sound}

-- the readings agree on texts of less than k bytes
record Agree (k : ℕ) (r q : TypeReadings) : Type 0 where
  whole : (x : Text) → length x < k → r.whole x ≡ q.whole x
  onward : (t : Ty) (x : Text) → length x < k → r.onward t x ≡ q.onward t x
  more : (x : Text) → length x < k → r.more x ≡ q.more x

-- what is left is no longer
whole_left : (s : Signature) (q : TypeReadings) → AreSound s q → (x : Text) (p : Ty × Text) → q.whole x ≡ Some p → length p.1 ≤ length x
whole_left s q sound x p e = let l = ap length (sound.whole x p.0 p.1 e).text in omega (arith, l, length-append (ty_text p.0) p.1)

more_left : (s : Signature) (q : TypeReadings) → AreSound s q → (x : Text) (p : Tys × Text) → q.more x ≡ Some p → length p.1 ≤ length x
more_left s q sound x p e = let l = ap length (sound.more x p.0 p.1 e).text in omega (arith, l, length-append (more_text p.0) p.1)

name_behind_same : (s : Signature) (k : ℕ) (r q : TypeReadings) → Agree k r q → (t : Ty) (x : Text) → length x < k → name_behind s r t x ≡ name_behind s q t x
name_behind_same s k r q a t x l = when_same _ _ _ (λ e. a.onward _ _ (let w = word_long x in omega arith))

range_behind_same : (s : Signature) (k : ℕ) (r q : TypeReadings) → Agree k r q → (t : Ty) (x : Text) → length x < k → range_behind s r t x ≡ range_behind s q t x
range_behind_same s k r q a t x l = when_same _ _ _ (λ e. bind_same _ _ _ _ (a.whole x l) (λ p f. refl))

onward_step_same : (s : Signature) (k : ℕ) (r q : TypeReadings) → Agree k r q → (t : Ty) (x : Text) → length x ≤ k → onward_step s r t x ≡ onward_step s q t x
onward_step_same s k r q a t x l =
    either_same _ _ _ _ _ (λ y e.
    let m = behind_long (codes " ") x y e in
    choose_same _ _ _ _ _ (λ b. name_behind_same s k r q a t y (omega (arith, m)))
    (either_same _ _ _ _ _ (λ z f. let n = behind_long (codes "-> ") y z f in range_behind_same s k r q a t z (omega (arith, m, n))) refl)) refl

variable_step_same : (k : ℕ) (r q : TypeReadings) → Agree k r q → (x : Text) → length x < k → variable_step r x ≡ variable_step q x
variable_step_same k r q a x l = when_same _ _ _ (λ e. a.onward _ _ (let w = word_long x in omega arith))

name_step_same : (s : Signature) (k : ℕ) (r q : TypeReadings) → Agree k r q → (x : Text) → length x ≤ k → name_step s r x ≡ name_step s q x
name_step_same s k r q a x l = when_same _ _ _ (λ b. when_same _ _ _ (λ e. a.onward _ _ (let w = word_longer x b in omega arith)))

tuple_step_same : (s : Signature) (k : ℕ) (r q : TypeReadings) → Agree k r q → (t : Ty) (ts : Tys) (x : Text) → length x < k → tuple_step s r t ts x ≡ tuple_step s q t ts x
tuple_step_same s k r q a t ts x l = when_same _ _ _ (λ e. when_same _ _ _ (λ f. when_same _ _ _ (λ g. a.onward _ _ (let w = word_long x in omega arith))))

group_step_same : (s : Signature) (k : ℕ) (r q : TypeReadings) → Agree k r q → AreSound s q → (t : Ty) (x : Text) → length x < k → group_step s r t x ≡ group_step s q t x
group_step_same s k r q a sound t x l =
    either_same _ _ _ _ _ (λ y e. when_same _ _ _ (λ f. a.onward t y (let n = behind_long (codes ")") x y e in omega (arith, n))))
    (bind_same _ _ _ _ (a.more x l) (λ p e. bind_same _ _ _ _ refl (λ y f.
    let m = more_left s q sound x p e in
    let n = behind_long (codes ") ") p.1 y f in
    tuple_step_same s k r q a t p.0 y (omega (arith, n)))))

type_step_same : (s : Signature) (k : ℕ) (r q : TypeReadings) → Agree k r q → AreSound s q → (x : Text) → length x ≤ k → type_step s r x ≡ type_step s q x
type_step_same s k r q a sound x l =
    either_same _ _ _ _ _ (λ y e. variable_step_same k r q a y (let n = behind_long (codes "'") x y e in omega (arith, n)))
    (either_same _ _ _ _ _ (λ y e.
    let n = behind_long (codes "(") x y e in
    bind_same _ _ _ _ (a.whole y (omega (arith, n))) (λ p f. let m = whole_left s q sound y p f in group_step_same s k r q a sound p.0 p.1 (omega (arith, n))))
    (name_step_same s k r q a x l))

more_step_same : (s : Signature) (k : ℕ) (r q : TypeReadings) → Agree k r q → AreSound s q → (x : Text) → length x ≤ k → more_step r x ≡ more_step q x
more_step_same s k r q a sound x l =
    either_same _ _ _ _ _ (λ y e.
    let n = behind_long (codes ",") x y e in
    bind_same _ _ _ _ (a.whole y (omega (arith, n))) (λ p f. let m = whole_left s q sound y p f in bind_same _ _ _ _ (a.more p.1 (omega (arith, n))) (λ u g. refl))) refl

agree : (s : Signature) (n m k : ℕ) → k ≤ n → k ≤ m → Agree k (types_below s n) (types_below s m)
unfolding types_below
agree s zero m k h g = record { whole = λ x l. absurd (omega arith); onward = λ t x l. absurd (omega arith); more = λ x l. absurd (omega arith) }
agree s (suc n) zero k h g = record { whole = λ x l. absurd (omega arith); onward = λ t x l. absurd (omega arith); more = λ x l. absurd (omega arith) }
agree s (suc n) (suc m) k h g = record {
  whole = λ x l. type_step_same s (length x) (types_below s n) (types_below s m) (agree s n m (length x) (omega arith) (omega arith)) (are_sound s m) x (omega arith);
  onward = λ t x l. onward_step_same s (length x) (types_below s n) (types_below s m) (agree s n m (length x) (omega arith) (omega arith)) t x (omega arith);
  more = λ x l. more_step_same s (length x) (types_below s n) (types_below s m) (agree s n m (length x) (omega arith) (omega arith)) (are_sound s m) x (omega arith);
}

readings_agree : (s : Signature) (n : ℕ) → Agree n (types_below s n) (type_readings s)
unfolding reads_type reads_types reads_onward
readings_agree s n = record {
  whole = λ x l. (agree s n (length x + 1) (length x + 1) (omega arith) (omega arith)).whole x (omega arith);
  onward = λ t x l. (agree s n (length x + 1) (length x + 1) (omega arith) (omega arith)).onward t x (omega arith);
  more = λ x l. (agree s n (length x + 1) (length x + 1) (omega arith) (omega arith)).more x (omega arith);
}

readings_sound : (s : Signature) → AreSound s (type_readings s)
unfolding reads_type reads_types reads_onward
readings_sound s = record {
  whole = λ x t rest h. (are_sound s (length x + 1)).whole x t rest h;
  onward = λ t x u rest o h. (are_sound s (length x + 1)).onward t x u rest o h;
  more = λ x ts rest h. (are_sound s (length x + 1)).more x ts rest h;
}

one_more : (x : Text) → length x + 1 ≡ suc (length x)
one_more x = omega arith

type_opened : (s : Signature) (x : Text) → reads_type s x ≡ type_step s (types_below s (length x)) x
unfolding reads_type types_below
type_opened s x = ap (λ n. (types_below s n).whole x) (one_more x)

onward_opened : (s : Signature) (t : Ty) (x : Text) → reads_onward s t x ≡ onward_step s (types_below s (length x)) t x
unfolding reads_onward types_below
onward_opened s t x = ap (λ n. (types_below s n).onward t x) (one_more x)

more_opened : (s : Signature) (x : Text) → reads_types s x ≡ more_step (types_below s (length x)) x
unfolding reads_types types_below
more_opened s x = ap (λ n. (types_below s n).more x) (one_more x)

pub reads_type_steps : (s : Signature) (x : Text) → reads_type s x ≡ type_step s (type_readings s) x
reads_type_steps s x = type_opened s x ∙ type_step_same s (length x) (types_below s (length x)) (type_readings s) (readings_agree s (length x)) (readings_sound s) x (omega arith)

pub reads_onward_steps : (s : Signature) (t : Ty) (x : Text) → reads_onward s t x ≡ onward_step s (type_readings s) t x
reads_onward_steps s t x = onward_opened s t x ∙ onward_step_same s (length x) (types_below s (length x)) (type_readings s) (readings_agree s (length x)) t x (omega arith)

pub reads_types_steps : (s : Signature) (x : Text) → reads_types s x ≡ more_step (type_readings s) x
reads_types_steps s x = more_opened s x ∙ more_step_same s (length x) (types_below s (length x)) (type_readings s) (readings_agree s (length x)) (readings_sound s) x (omega arith)
