-- A term is read by the same steps however deep the reading may go.
use Rattle.std.proofs.Common.{◌≡◌, refl, ap, ◌∙◌, ℕ, zero, suc, ◌+◌, ◌<◌, ◌≤◌, List, [], ◌∷◌, ◌++◌, Option, Some, length, length-append, arith}
use Rattle.std.specs.Prelude.{codes}
use Rattle.hol_terms.specs.Name.{Name}
use Rattle.hol_terms.specs.Ty.{Ty, tys}
use Rattle.hol_terms.specs.Tm.{Tm, tm_index, tm_free, tm_comb}
use Rattle.hol_terms.specs.Typing.{tm_type}
use Rattle.hol_terms.specs.Signature.{Signature, AreTysOver}
use Rattle.hol_terms.specs.Text.{Text, ty_text, bound_text}
use Rattle.strict_reading.specs.Words.{word_of, behind_word}
use Rattle.strict_reading.specs.Types.{reads_type}
use Rattle.strict_reading.specs.Terms.{arguments_step, constant_step, named_step, atom, TermReadings, enclosed, argument_step, head_step, operand_step, applied_step, behind_operand_step, connected_step, sign_step, negated_step, binder_step, abstracted, quantified, term_step, terms_below, reads_term, reads_arguments, term_readings}
use Rattle.strict_reading.proofs.Steps.{bind_case, when_case, either_case, bind_same, when_same, choose_same, either_same}
use Rattle.strict_reading.proofs.Words.{behind_long, word_longer}
use Rattle.strict_reading.proofs.TypesSound.{more_text, reads_type_sound, reads_types_sound}
use Rattle.strict_reading.proofs.TermTexts.{operand_text, argument_text}
use Rattle.strict_reading.proofs.TermsSound.{term_text, AreSound, are_sound, free_sound, enclosed_sound, argument_sound, operand_sound}

-- the readings agree on texts of less than k bytes, below well formed binders
record Agree (s : Signature) (k : ℕ) (r q : TermReadings) : Type 0 where
  whole : (bound : List Ty) (x : Text) → AreTysOver s (tys bound) → length x < k → r.whole bound x ≡ q.whole bound x
  onward : (bound : List Ty) (t : Tm) (x : Text) → AreTysOver s (tys bound) → length x < k → r.onward bound t x ≡ q.onward bound t x

-- ---- what is left is shorter

type_left : (s : Signature) (x : Text) (p : Ty × Text) → reads_type s x ≡ Some p → length p.1 ≤ length x
type_left s x p e = let l = ap length (reads_type_sound s x p.0 p.1 e).text in omega (arith, l, length-append (ty_text p.0) p.1)

same_text : {A : Type 0} (p q : A × Text) → Some p ≡ Some q → p.1 ≡ q.1
same_text p q e = let f : p ≡ q = cc in ap (λ v. v.1) f

-- the text of what was given is no longer than this one
given_left : (n : ℕ) (p q : Tm × Text) → length p.1 ≤ n → Some p ≡ Some q → length q.1 ≤ n
given_left n p q l e = let f = ap length (same_text p q e) in omega (arith, f)

arguments_left : (s : Signature) (c : Name) (x : Text) (u : Tm × Text) → arguments_step s c x ≡ Some u → length u.1 ≤ length x
arguments_left s c x u h =
    bind_case _ _ _ h (λ p e g. bind_case _ _ _ g (λ q f k. bind_case _ _ _ k (λ z m l. bind_case _ _ _ l (λ t o n.
    let a = type_left s x p e in
    let b = ap length (reads_types_sound s p.1 q.0 q.1 f).text in
    let d = behind_long (codes "}") q.1 z m in
    given_left (length x) (t, z) u (omega (arith, b, d, length-append (more_text q.0) q.1)) n))))

constant_left : (s : Signature) (c : Name) (x : Text) (u : Tm × Text) → constant_step s c x ≡ Some u → length u.1 ≤ length x
constant_left s c x u h =
    either_case _ _ _ _ h
    (λ y e g. let n = behind_long (codes "{") x y e in let l = arguments_left s c y u g in omega (arith, n))
    (λ e g. bind_case _ _ _ g (λ t k l. given_left (length x) (t, x) u (omega arith) l))

named_left : (s : Signature) (bound : List Ty) (c : Name) (x : Text) (u : Tm × Text) → named_step s bound c x ≡ Some u → length u.1 ≤ length x
named_left s bound c x u h = either_case _ _ _ _ h (λ b e g. given_left (length x) (tm_index b.0 b.1, x) u (omega arith) g) (λ e g. constant_left s c x u g)

bracket_long : (a b c : Text) → length c < length ((codes "[" ++ a ++ codes ":" ++ b ++ codes "]") ++ c)
bracket_long a b c = omega (arith, length-append (codes "[" ++ a ++ codes ":" ++ b ++ codes "]") c)

atom_left : (s : Signature) (bound : List Ty) (x : Text) (u : Tm × Text) → atom s bound x ≡ Some u → length u.1 < length x
unfolding atom
atom_left s bound x u h =
    either_case _ _ _ _ h
    (λ y e g. bind_case _ _ _ g (λ p f k.
    let q = ap length (free_sound s y p.0 p.1 f).text in
    let n = behind_long (codes "[") x y e in
    let m = ap length (same_text (tm_free p.0, p.1) u k) in
    let l = bracket_long p.0.name (ty_text p.0.ty) p.1 in
    omega (arith, q, n, m, l)))
    (λ e g. when_case _ _ _ g (λ b k. let l = named_left s bound (word_of x) (behind_word x) u k in let w = word_longer x b in omega arith))

pub enclosed_left : (s : Signature) (q : TermReadings) → AreSound s q → (bound : List Ty) (x : Text) (u : Tm × Text) → AreTysOver s (tys bound) → enclosed q bound x ≡ Some u → length u.1 ≤ length x
enclosed_left s q sound bound x u o h =
    let l = ap length (enclosed_sound s q sound bound x u.0 u.1 o h).text in
    let t = term_text (length bound) u.0 in
    omega (arith, l, length-append (codes "(" ++ t ++ codes ")") u.1, length-append (codes "(" ++ t) (codes ")"))

pub head_left : (s : Signature) (q : TermReadings) → AreSound s q → (bound : List Ty) (x : Text) (u : Tm × Text) → AreTysOver s (tys bound) → head_step s q bound x ≡ Some u → length u.1 < length x
head_left s q sound bound x u o h =
    either_case _ _ _ _ h
    (λ y e g. bind_case _ _ _ g (λ p f k. when_case _ _ _ k (λ a l.
    let n = behind_long (codes "(") x y e in
    let m = enclosed_left s q sound bound y p o f in
    let i = ap length (same_text p u l) in
    omega (arith, n, i))))
    (λ e g. atom_left s bound x u g)

pub operand_left : (s : Signature) (q : TermReadings) → AreSound s q → (bound : List Ty) (x : Text) (u : Tm × Text) → AreTysOver s (tys bound) → operand_step s q bound x ≡ Some u → length u.1 ≤ length x
operand_left s q sound bound x u o h =
    let l = ap length (operand_sound s q sound bound x u.0 u.1 o h).text in omega (arith, l, length-append (operand_text (length bound) u.0) u.1)

pub argument_left : (s : Signature) (q : TermReadings) → AreSound s q → (bound : List Ty) (x : Text) (u : Tm × Text) → AreTysOver s (tys bound) → argument_step s q bound x ≡ Some u → length u.1 ≤ length x
argument_left s q sound bound x u o h =
    let l = ap length (argument_sound s q sound bound x u.0 u.1 o h).text in omega (arith, l, length-append (argument_text (length bound) u.0) u.1)

-- ---- the steps

enclosed_same : (s : Signature) (k : ℕ) (r q : TermReadings) → Agree s k r q → (bound : List Ty) (x : Text) → AreTysOver s (tys bound) → length x < k → enclosed r bound x ≡ enclosed q bound x
enclosed_same s k r q a bound x o l = bind_same _ _ _ _ (a.whole bound x o l) (λ p e. refl)

argument_step_same : (s : Signature) (k : ℕ) (r q : TermReadings) → Agree s k r q → (bound : List Ty) (x : Text) → AreTysOver s (tys bound) → length x ≤ k → argument_step s r bound x ≡ argument_step s q bound x
unfolding argument_step
argument_step_same s k r q a bound x o l =
    either_same _ _ _ _ _ (λ y e. let n = behind_long (codes "(") x y e in bind_same _ _ _ _ (enclosed_same s k r q a bound y o (omega (arith, n))) (λ p f. refl)) refl

head_step_same : (s : Signature) (k : ℕ) (r q : TermReadings) → Agree s k r q → (bound : List Ty) (x : Text) → AreTysOver s (tys bound) → length x ≤ k → head_step s r bound x ≡ head_step s q bound x
head_step_same s k r q a bound x o l =
    either_same _ _ _ _ _ (λ y e. let n = behind_long (codes "(") x y e in bind_same _ _ _ _ (enclosed_same s k r q a bound y o (omega (arith, n))) (λ p f. refl)) refl

operand_step_same : (s : Signature) (k : ℕ) (r q : TermReadings) → Agree s k r q → AreSound s q → (bound : List Ty) (x : Text) → AreTysOver s (tys bound) → length x ≤ k → operand_step s r bound x ≡ operand_step s q bound x
unfolding operand_step
operand_step_same s k r q a sound bound x o l =
    bind_same _ _ _ _ (head_step_same s k r q a bound x o l) (λ p e. let m = head_left s q sound bound x p o e in a.onward bound p.0 p.1 o (omega arith))

applied_step_same : (s : Signature) (k : ℕ) (r q : TermReadings) → Agree s k r q → AreSound s q → (bound : List Ty) (t : Tm) (x : Text) → AreTysOver s (tys bound) → length x < k → applied_step s r bound t x ≡ applied_step s q bound t x
applied_step_same s k r q a sound bound t x o l =
    bind_same _ _ _ _ (argument_step_same s k r q a bound x o (omega arith)) (λ p e.
    let m = argument_left s q sound bound x p o e in
    when_same _ _ _ (λ f. when_same _ _ _ (λ g. a.onward bound (tm_comb t p.0) p.1 o (omega arith))))

onward_step_same : (s : Signature) (k : ℕ) (r q : TermReadings) → Agree s k r q → AreSound s q → (bound : List Ty) (t : Tm) (x : Text) → AreTysOver s (tys bound) → length x ≤ k → behind_operand_step s r bound t x ≡ behind_operand_step s q bound t x
onward_step_same s k r q a sound bound t x o l =
    either_same _ _ _ _ _ (λ y e. let n = behind_long (codes " ") x y e in choose_same _ _ _ _ _ (λ b. applied_step_same s k r q a sound bound t y o (omega (arith, n))) refl) refl

connected_step_same : (s : Signature) (k : ℕ) (r q : TermReadings) → Agree s k r q → AreSound s q → (bound : List Ty) (c : Name) (args : List Ty) (t : Tm) (x : Text) → AreTysOver s (tys bound) → length x ≤ k
    → connected_step s r bound c args t x ≡ connected_step s q bound c args t x
connected_step_same s k r q a sound bound c args t x o l = bind_same _ _ _ _ (operand_step_same s k r q a sound bound x o l) (λ p e. refl)

sign_step_same : (s : Signature) (k : ℕ) (r q : TermReadings) → Agree s k r q → AreSound s q → (bound : List Ty) (t : Tm) (x : Text) → AreTysOver s (tys bound) → length x ≤ k → sign_step s r bound t x ≡ sign_step s q bound t x
sign_step_same s k r q a sound bound t x o l =
    either_same _ _ _ _ _ (λ y e. let n = behind_long (codes " = ") x y e in connected_step_same s k r q a sound bound (codes "eq") (tm_type t ∷ []) t y o (omega (arith, n)))
    (either_same _ _ _ _ _ (λ y e. let n = behind_long (codes " /\\ ") x y e in connected_step_same s k r q a sound bound (codes "conj") [] t y o (omega (arith, n)))
    (either_same _ _ _ _ _ (λ y e. let n = behind_long (codes " \\/ ") x y e in connected_step_same s k r q a sound bound (codes "disj") [] t y o (omega (arith, n)))
    (either_same _ _ _ _ _ (λ y e. let n = behind_long (codes " ==> ") x y e in connected_step_same s k r q a sound bound (codes "imp") [] t y o (omega (arith, n))) refl)))

negated_step_same : (s : Signature) (k : ℕ) (r q : TermReadings) → Agree s k r q → AreSound s q → (bound : List Ty) (x : Text) → AreTysOver s (tys bound) → length x ≤ k → negated_step s r bound x ≡ negated_step s q bound x
negated_step_same s k r q a sound bound x o l = bind_same _ _ _ _ (operand_step_same s k r q a sound bound x o l) (λ p e. refl)

binder_step_same : (s : Signature) (k : ℕ) (r q : TermReadings) → Agree s k r q → (bound : List Ty) (made : Ty → Tm → Option Tm) (x : Text) → AreTysOver s (tys bound) → length x ≤ k → binder_step s r bound made x ≡ binder_step s q bound made x
binder_step_same s k r q a bound made x o l =
    bind_same _ _ _ _ refl (λ y e. bind_same _ _ _ _ refl (λ z f. bind_same _ _ _ _ refl (λ p g. bind_same _ _ _ _ refl (λ v h.
    let over = (reads_type_sound s z p.0 p.1 g).over in
    let e1 = behind_long (bound_text (length bound)) x y e in
    let e2 = behind_long (codes ":") y z f in
    let e3 = type_left s z p g in
    let e4 = behind_long (codes ". ") p.1 v h in
    bind_same _ _ _ _ (a.whole (p.0 ∷ bound) v (over, o) (omega (arith, e1, e2, e4))) (λ w i. refl)))))

term_step_same : (s : Signature) (k : ℕ) (r q : TermReadings) → Agree s k r q → AreSound s q → (bound : List Ty) (x : Text) → AreTysOver s (tys bound) → length x ≤ k → term_step s r bound x ≡ term_step s q bound x
term_step_same s k r q a sound bound x o l =
    either_same _ _ _ _ _ (λ y e. let n = behind_long (codes "\\") x y e in binder_step_same s k r q a bound abstracted y o (omega (arith, n)))
    (either_same _ _ _ _ _ (λ y e. let n = behind_long (codes "!") x y e in binder_step_same s k r q a bound (quantified s (codes "all")) y o (omega (arith, n)))
    (either_same _ _ _ _ _ (λ y e. let n = behind_long (codes "?") x y e in binder_step_same s k r q a bound (quantified s (codes "ex")) y o (omega (arith, n)))
    (either_same _ _ _ _ _ (λ y e. let n = behind_long (codes "~ ") x y e in negated_step_same s k r q a sound bound y o (omega (arith, n)))
    (bind_same _ _ _ _ (operand_step_same s k r q a sound bound x o l) (λ p e. let m = operand_left s q sound bound x p o e in sign_step_same s k r q a sound bound p.0 p.1 o (omega arith))))))

-- ---- readings of any depth

agree : (s : Signature) (n m k : ℕ) → k ≤ n → k ≤ m → Agree s k (terms_below s n) (terms_below s m)
unfolding terms_below
agree s zero m k h g = record { whole = λ bound x o l. absurd (omega arith); onward = λ bound t x o l. absurd (omega arith) }
agree s (suc n) zero k h g = record { whole = λ bound x o l. absurd (omega arith); onward = λ bound t x o l. absurd (omega arith) }
agree s (suc n) (suc m) k h g = record {
  whole = λ bound x o l. term_step_same s (length x) (terms_below s n) (terms_below s m) (agree s n m (length x) (omega arith) (omega arith)) (are_sound s m) bound x o (omega arith);
  onward = λ bound t x o l. onward_step_same s (length x) (terms_below s n) (terms_below s m) (agree s n m (length x) (omega arith) (omega arith)) (are_sound s m) bound t x o (omega arith);
}

readings_agree : (s : Signature) (n : ℕ) → Agree s n (terms_below s n) (term_readings s)
unfolding reads_term reads_arguments
readings_agree s n = record {
  whole = λ bound x o l. (agree s n (length x + 1) (length x + 1) (omega arith) (omega arith)).whole bound x o (omega arith);
  onward = λ bound t x o l. (agree s n (length x + 1) (length x + 1) (omega arith) (omega arith)).onward bound t x o (omega arith);
}

pub readings_sound : (s : Signature) → AreSound s (term_readings s)
unfolding reads_term reads_arguments
readings_sound s = record {
  whole = λ bound x t rest o h. (are_sound s (length x + 1)).whole bound x t rest o h;
  onward = λ bound t x u rest o k h. (are_sound s (length x + 1)).onward bound t x u rest o k h;
}

one_more : (x : Text) → length x + 1 ≡ suc (length x)
one_more x = omega arith

term_opened : (s : Signature) (bound : List Ty) (x : Text) → reads_term s bound x ≡ term_step s (terms_below s (length x)) bound x
unfolding reads_term terms_below
term_opened s bound x = ap (λ n. (terms_below s n).whole bound x) (one_more x)

arguments_opened : (s : Signature) (bound : List Ty) (t : Tm) (x : Text) → reads_arguments s bound t x ≡ behind_operand_step s (terms_below s (length x)) bound t x
unfolding reads_arguments terms_below
arguments_opened s bound t x = ap (λ n. (terms_below s n).onward bound t x) (one_more x)

pub reads_term_steps : (s : Signature) (bound : List Ty) (x : Text) → AreTysOver s (tys bound) → reads_term s bound x ≡ term_step s (term_readings s) bound x
reads_term_steps s bound x o =
    term_opened s bound x ∙ term_step_same s (length x) (terms_below s (length x)) (term_readings s) (readings_agree s (length x)) (readings_sound s) bound x o (omega arith)

pub reads_arguments_steps : (s : Signature) (bound : List Ty) (t : Tm) (x : Text) → AreTysOver s (tys bound) → reads_arguments s bound t x ≡ behind_operand_step s (term_readings s) bound t x
reads_arguments_steps s bound t x o =
    arguments_opened s bound t x ∙ onward_step_same s (length x) (terms_below s (length x)) (term_readings s) (readings_agree s (length x)) (readings_sound s) bound t x o (omega arith)
