-- A pair of words at the front of a list of them.
use Rattle.std.proofs.Common.{◌≡◌, ℕ, ◌-◌, ◌≤◌, arith, refl, sym, ap, ◌∙◌, List, [], ◌∷◌, length, take, drop, get_or}
use Rattle.std.specs.Borrow.{Bor}
use Rattle.std.proofs.lemmas.List.{take_all}
use Rattle.hol_terms.specs.Ty.{Ty}
use Rattle.hol_terms.specs.Tm.{Tm}
use Rattle.hol_terms.specs.Subst.{TySubst}
use Rattle.hol_terms.specs.Binding.{VarSubst}
use Rattle.hol_terms.specs.Text.{Text}
use Rattle.kernel_lines.specs.Ready.{behind}
use Rattle.script_core.specs.Steps.{types_put, terms_put}
use Rattle.script_core.specs.Ready.{TypeSteps, TermSteps}

front : (xs : List (Bor Text)) (d : Bor Text) → 2 ≤ length xs → behind xs ≡ (get_or xs 0 d).now ∷ (get_or xs 1 d).now ∷ behind (take (length xs - 2) (drop 2 xs))
front [] d h = absurd (omega arith)
front (x ∷ []) d h = absurd (omega arith)
front (x ∷ y ∷ ys) d h =
    let e : take (length (x ∷ y ∷ ys) - 2) ys ≡ ys = take_all (length (x ∷ y ∷ ys) - 2) ys (omega arith) in
    ap (λ zs. x.now ∷ y.now ∷ behind zs) (sym e)

pub type_step : {ys : List Ty} {found new : TySubst} (d : Bor Text) (xs : List (Bor Text)) → 2 ≤ length xs → TypeSteps ys found (get_or xs 0 d).now (get_or xs 1 d).now new
    → types_put ys found (behind xs) ≡ types_put ys new (behind (take (length xs - 2) (drop 2 xs)))
type_step {ys} {found} {new} d xs h s = ap (types_put ys found) (front xs d h) ∙ s.is (behind (take (length xs - 2) (drop 2 xs)))

pub term_step : {ts : List Tm} {found new : VarSubst} (d : Bor Text) (xs : List (Bor Text)) → 2 ≤ length xs → TermSteps ts found (get_or xs 0 d).now (get_or xs 1 d).now new
    → terms_put ts found (behind xs) ≡ terms_put ts new (behind (take (length xs - 2) (drop 2 xs)))
term_step {ts} {found} {new} d xs h s = ap (terms_put ts found) (front xs d h) ∙ s.is (behind (take (length xs - 2) (drop 2 xs)))

-- the words behind the first, and behind the first two
pub tail_is : (xs : List (Bor Text)) → 1 ≤ length xs → take (length xs - 1) (drop 1 xs) ≡ drop 1 xs
tail_is [] h = absurd (omega arith)
tail_is (x ∷ xs) h = take_all (length (x ∷ xs) - 1) xs (omega arith)

pub tails_is : (xs : List (Bor Text)) → 2 ≤ length xs → take (length xs - 2) (drop 2 xs) ≡ drop 2 xs
tails_is [] h = absurd (omega arith)
tails_is (x ∷ []) h = absurd (omega arith)
tails_is (x ∷ y ∷ xs) h = take_all (length (x ∷ y ∷ xs) - 2) xs (omega arith)

pub ruleset tail_lemmas = (tail_is, tails_is)
