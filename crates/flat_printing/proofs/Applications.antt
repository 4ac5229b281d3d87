-- Canonical text of applications, by the form in which they are written.
use Rattle.std.proofs.Common.{◌≡◌, ℕ, ◌+◌, ◌-◌, ◌++◌, not, refl, ap, arith, append_assoc}
use Rattle.std.specs.Prelude.{codes}
use Rattle.hol_terms.specs.Ty.{Ty}
use Rattle.hol_terms.specs.Tm.{Tm, tm_comb, tm_abs}
use Rattle.hol_terms.specs.Sequent.{argument}
use Rattle.hol_terms.specs.Text.{Text, parenthesized, between, before, binding, none, sugar, is_plain, is_atom, printed}
use Rattle.flat_printing.specs.Forms.{operator}

-- the binders around that of a bound variable
pub binders_around : (d i : ℕ) → (d - i) - 1 ≡ d - (i + 1)
binders_around d i = omega arith

pub printed-infix : (d : ℕ) (f x l : Tm) (sign : Text) → sugar f x ≡ between sign → f ≡ tm_comb (operator f) l
    → (printed d (tm_comb f x)).whole ≡ parenthesized (not (is_plain l)) (printed d l).whole ++ (sign ++ parenthesized (not (is_plain x)) (printed d x).whole)
printed-infix d f x l sign e h = rw (e, ap argument h, ap (λ t. (printed d t).operand) h, append_assoc) refl

pub printed-negation : (d : ℕ) (f x : Tm) → sugar f x ≡ before
    → (printed d (tm_comb f x)).whole ≡ codes "~ " ++ parenthesized (not (is_plain x)) (printed d x).whole
printed-negation d f x e = rw e refl

pub printed-binder : (d : ℕ) (f x b : Tm) (a : Ty) (sign : Text) → sugar f x ≡ binding sign → x ≡ tm_abs a b
    → (printed d (tm_comb f x)).whole ≡ sign ++ (printed d (tm_abs a b)).scope
printed-binder d f x b a sign e h = rw (e, ap (λ t. (printed d t).scope) h) refl

pub printed-plain : (d : ℕ) (f x : Tm) → sugar f x ≡ none
    → (printed d (tm_comb f x)).whole ≡ parenthesized (not (is_plain f)) (printed d f).whole ++ (codes " " ++ parenthesized (not (is_atom x)) (printed d x).whole)
printed-plain d f x e = rw (e, append_assoc) refl

pub ruleset application_lemmas = (append_assoc, binders_around, printed-infix, printed-negation, printed-binder, printed-plain)
