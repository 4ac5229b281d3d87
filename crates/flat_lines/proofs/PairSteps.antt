-- Pairs up to the end of a line, one after the other.
use Rattle.std.proofs.Common.{◌≡◌, refl, sym, ap, ◌∙◌, ℕ, zero, suc, ◌<◌, ◌≤◌, true, false, ◌==◌, List, [], ◌∷◌, ◌++◌, append_assoc, Option, Some, None, length, length-append, arith}
use Rattle.std.specs.Prelude.{codes}
use Rattle.hol_terms.specs.Text.{Text}
use Rattle.hol_terms.specs.Signature.{Signature}
use Rattle.hol_logs.specs.Step.{type_pair_text, pair_text}
use Rattle.strict_reading.specs.Steps.{◌>>=◌, when}
use Rattle.strict_reading.specs.Words.{behind}
use Rattle.strict_reading.proofs.Steps.{bind_same, either_same, either_none, either_some}
use Rattle.strict_reading.proofs.Words.{behind_long}
use Rattle.strict_lines.specs.Operands.{reads_type_pair, reads_pair, others_step, pairs_below}
use Rattle.strict_lines.proofs.Operands.{IsSound, type_pair_sound, pair_sound}
use Rattle.flat_lines.proofs.Readings.{bind_none, bind_on}

-- what is left is no longer than the text
abbrev pub Shrinks : {A : Type 0} → (Text → Option (A × Text)) → Type 0
Shrinks {A} pair = (x : Text) (p : A × Text) → pair x ≡ Some p → length p.1 ≤ length x

sound_shrinks : {A : Type 0} (pair : Text → Option (A × Text)) (show : A → Text) (Over : A → Type 0) → IsSound pair show Over → Shrinks pair
sound_shrinks pair show Over sound x p e = let q = ap length (sound x p.0 p.1 e).0 in omega (arith, q, length-append (show p.0) p.1)

pub pair_shrinks : (s : Signature) → Shrinks (reads_pair s)
pair_shrinks s = sound_shrinks (reads_pair s) pair_text _ (pair_sound s)

pub type_pair_shrinks : (s : Signature) → Shrinks (reads_type_pair s)
type_pair_shrinks s = sound_shrinks (reads_type_pair s) type_pair_text _ (type_pair_sound s)

pub shorter : (r y : Text) → behind (codes " ; ") r ≡ Some y → length y < length r
shorter r y h = let e = behind_long (codes " ; ") r y h in omega (arith, e)

pairs_enough : {A : Type 0} (pair : Text → Option (A × Text)) → Shrinks pair → (n m : ℕ) (x : Text) → length x < n → length x < m → pairs_below pair n x ≡ pairs_below pair m x
unfolding pairs_below
pairs_enough pair sh zero m x h k = absurd (omega arith)
pairs_enough pair sh (suc n) zero x h k = absurd (omega arith)
pairs_enough pair sh (suc n) (suc m) x h k =
    bind_same (pair x) (pair x) _ _ refl (λ p e. either_same (behind (codes " ; ") p.1) _ _ _ _ (λ y d.
    let a = sh x p e in
    let b = shorter p.1 y d in
    bind_same (pairs_below pair n y) (pairs_below pair m y) _ _ (pairs_enough pair sh n m y (omega arith) (omega arith)) (λ qs f. refl)) refl)

abbrev pub all_pairs : {A : Type 0} → (Text → Option (A × Text)) → Text → Option (List A)
all_pairs pair x = pairs_below pair (suc (length x)) x

step : {A : Type 0} (pair : Text → Option (A × Text)) → Shrinks pair → (x : Text) → all_pairs pair x ≡ (pair x >>= (λ p. others_step (all_pairs pair) p.0 p.1))
unfolding pairs_below
step {A = A} pair sh x = bind_same (pair x) (pair x) _ _ refl (λ p e. either_same (behind (codes " ; ") p.1) _ _ _ _ (λ y d. bind_same _ _ _ _ (next p e y d) (λ qs f. refl)) refl)
  where
    next : (p : A × Text) → pair x ≡ Some p → (y : Text) → behind (codes " ; ") p.1 ≡ Some y → pairs_below pair (length x) y ≡ pairs_below pair (suc (length y)) y
    next p e y d = let a = sh x p e in let b = shorter p.1 y d in pairs_enough pair sh (length x) (suc (length y)) y (omega arith) (omega arith)

-- the pairs in front were read, and others follow
pub record Goes {A : Type 0} (pair : Text → Option (A × Text)) (x : Text) (front : List A) (rest : Text) : Type 0 where
  pub is : all_pairs pair x ≡ (all_pairs pair rest >>= (λ qs. Some (front ++ qs)))

pub goes_start : {A : Type 0} (pair : Text → Option (A × Text)) (x : Text) → Goes pair x [] x
unfolding ◌>>=◌
goes_start {A = A} pair x = record { is = at (all_pairs pair x) }
  where
    at : (o : Option (List A)) → o ≡ (o >>= (λ qs. Some ([] ++ qs)))
    at None = refl
    at (Some qs) = refl

pub goes_wrong : {A : Type 0} (pair : Text → Option (A × Text)) → Shrinks pair → (x : Text) (front : List A) (rest : Text) → Goes pair x front rest → pair rest ≡ None → all_pairs pair x ≡ None
goes_wrong pair sh x front rest g e = g.is ∙ bind_none (all_pairs pair rest) _ (step pair sh rest ∙ bind_none (pair rest) _ e)

pub goes_further : {A : Type 0} (pair : Text → Option (A × Text)) → Shrinks pair → (x : Text) (front : List A) (rest : Text) (p : A × Text) (y : Text) → Goes pair x front rest → pair rest ≡ Some p → behind (codes " ; ") p.1 ≡ Some y
    → Goes pair x (front ++ p.0 ∷ []) y
unfolding ◌>>=◌
goes_further {A = A} pair sh x front rest p y g e d = record {
  is =
      g.is ∙ ap (λ o. o >>= (λ qs. Some (front ++ qs))) (step pair sh rest ∙ bind_on (pair rest) _ p e ∙ either_some _ _ _ y d)
      ∙ at (all_pairs pair y);
}
  where
    at : (o : Option (List A)) → ((o >>= (λ qs. Some (p.0 ∷ qs))) >>= (λ qs. Some (front ++ qs))) ≡ (o >>= (λ qs. Some ((front ++ p.0 ∷ []) ++ qs)))
    at None = refl
    at (Some qs) = ap Some (sym (append_assoc front (p.0 ∷ []) qs))

pub goes_last : {A : Type 0} (pair : Text → Option (A × Text)) → Shrinks pair → (x : Text) (front : List A) (rest : Text) (p : A × Text) → Goes pair x front rest → pair rest ≡ Some p → behind (codes " ; ") p.1 ≡ None
    → true ≡ (length p.1 == 0) → all_pairs pair x ≡ Some (front ++ p.0 ∷ [])
unfolding when
goes_last pair sh x front rest p g e d z =
    g.is
    ∙ bind_on (all_pairs pair rest) _ (p.0 ∷ []) (step pair sh rest ∙ bind_on (pair rest) _ p e ∙ either_none _ _ _ d ∙ ap (λ b. when b (Some (p.0 ∷ []))) (sym z))

pub goes_nowhere : {A : Type 0} (pair : Text → Option (A × Text)) → Shrinks pair → (x : Text) (front : List A) (rest : Text) (p : A × Text) → Goes pair x front rest → pair rest ≡ Some p → behind (codes " ; ") p.1 ≡ None
    → false ≡ (length p.1 == 0) → all_pairs pair x ≡ None
unfolding when
goes_nowhere pair sh x front rest p g e d z =
    g.is ∙ bind_none (all_pairs pair rest) _ (step pair sh rest ∙ bind_on (pair rest) _ p e ∙ either_none _ _ _ d ∙ ap (λ b. when b (Some (p.0 ∷ []))) (sym z))
