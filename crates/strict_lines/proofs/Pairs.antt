-- Pairs with semicolons between them.
use Rattle.std.proofs.Common.{◌≡◌, refl, ap, ◌∙◌, ℕ, zero, suc, ◌<◌, ◌^◌, Bool, true, List, [], ◌∷◌, ◌++◌, Option, Some, length, length-append, map, arith}
use Rattle.std.specs.Prelude.{codes}
use Rattle.std.specs.List.{flat_map}
use Rattle.hol_terms.specs.Rules.{some_pair}
use Rattle.hol_terms.specs.Text.{Text}
use Rattle.hol_logs.specs.Step.{with_semicolons}
use Rattle.strict_reading.specs.Words.{behind}
use Rattle.strict_reading.proofs.Steps.{bind_case, when_case, either_case, bind_some, when_true, either_none, either_some}
use Rattle.strict_reading.proofs.Words.{behind_is}
use Rattle.strict_lines.specs.Operands.{pairs_below}
use Rattle.strict_lines.proofs.Operands.{IsSound, IsComplete, given, nothing}

abbrev pub Each : {A : Type 0} → (A → Type 0) → List A → Type 0
Each Over [] = Unit {0}
Each Over (p ∷ ps) = Over p × Each Over ps

-- the texts behind the first
abbrev others_text : {A : Type 0} → (A → Text) → List A → Text
others_text show ps = flat_map (λ y. codes " ; " ++ y) (map show ps)

pub record ArePairs {A : Type 0} (show : A → Text) (Over : A → Type 0) (x : Text) (ps : List A) : Type 0 where
  pub text : x ≡ with_semicolons (map show ps)
  pub over : Each Over ps
  pub some : some_pair ps ≡ true

pub pairs_sound : {A : Type 0} (reads : Text → Option (A × Text)) (show : A → Text) (Over : A → Type 0) → IsSound reads show Over → (n : ℕ) (x : Text) (ps : List A) → pairs_below reads n x ≡ Some ps → ArePairs show Over x ps
unfolding pairs_below
pairs_sound {A} reads show Over sound zero x ps h = cc
pairs_sound {A} reads show Over sound (suc n) x ps h =
    bind_case _ _ _ h (λ p e g.
    let q = sound x p.0 p.1 e in
    either_case _ _ _ _ g
    (λ y d j. bind_case _ _ _ j (λ qs i k. given (ArePairs show Over x) (p.0 ∷ qs) ps (more p.0 qs p.1 y q.0 q.1 (behind_is (codes " ; ") p.1 y d) (pairs_sound reads show Over sound n y qs i)) k))
    (λ d j. when_case _ _ _ j (λ z k. given (ArePairs show Over x) (p.0 ∷ []) ps (record { text = q.0 ∙ ap (λ w. show p.0 ++ w) (nothing p.1 z); over = (q.1, tt); some = refl }) k)))
  where
    more : (a : A) (qs : List A) (rest y : Text) → x ≡ show a ++ rest → Over a → rest ≡ codes " ; " ++ y → ArePairs show Over y qs → ArePairs show Over x (a ∷ qs)
    more a [] rest y e o d r = absurd (none r.some)
      where
        none : some_pair {A = A} [] ≡ true → ⊥
        none f = cc
    more a (b ∷ qs) rest y e o d r = record { text = e ∙ ap (λ w. show a ++ w) (d ∙ ap (λ w. codes " ; " ++ w) r.text); over = (o, r.over); some = refl }

-- the others, and those behind them
pub pairs_complete : {A : Type 0} (reads : Text → Option (A × Text)) (show : A → Text) (Over : A → Type 0) (ends : Text → Bool) → IsComplete reads show (λ a. Over a × (length (show a) < 2 ^ 64)) ends
    → ends [] ≡ true → ((y : Text) → ends (codes " ; " ++ y) ≡ true) → (n : ℕ) (p : A) (ps : List A) → Over p → Each Over ps → length (with_semicolons (map show (p ∷ ps))) < n
    → length (with_semicolons (map show (p ∷ ps))) < 2 ^ 64 → pairs_below reads n (with_semicolons (map show (p ∷ ps))) ≡ Some (p ∷ ps)
unfolding pairs_below behind
pairs_complete reads show Over ends complete last semicolon zero p ps o os l k = absurd (omega arith)
pairs_complete reads show Over ends complete last semicolon (suc n) p [] o os l k =
    bind_some _ _ _ (complete p [] (o, omega (arith, k, length-append (show p) [])) last) ∙ either_none _ _ _ refl ∙ when_true _ _ refl
pairs_complete reads show Over ends complete last semicolon (suc n) p (q ∷ qs) o os l k =
    let rest = with_semicolons (map show (q ∷ qs)) in
    let whole = length-append (show p) (codes " ; " ++ rest) in
    bind_some _ _ _ (complete p (codes " ; " ++ rest) (o, omega (arith, k, whole)) (semicolon rest))
    ∙ either_some _ _ _ rest refl
    ∙ bind_some _ _ _ (pairs_complete reads show Over ends complete last semicolon n q qs os.0 os.1 (omega (arith, l, whole)) (omega (arith, k, whole)))
