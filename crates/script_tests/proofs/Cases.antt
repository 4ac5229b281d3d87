-- Tables that can all be run.
use Rattle.std.proofs.Common.{◌≡◌, sym, subst, Bool, true, ◌&&◌, [], ◌∷◌, List, All, is_some}
use Rattle.std.proofs.lemmas.List.Elements.{All-nil, All-cons, All-get_or}
use Rattle.std.specs.Prelude.{ℕ, ◌<◌, get_or, length}
use Rattle.std.specs.Borrow.{Bor}
use Rattle.hol_terms.specs.Definition.{Definition}
use Rattle.hol_terms.specs.Sequent.{Sequent}
use Rattle.hol_terms.specs.Text.{Text}
use Rattle.hol_terms.proofs.Tables.{and_left, and_right}
use Rattle.kernel_lines.specs.Bases.{HasBase}
use Rattle.script_core.specs.Tables.{table_sequent}
use Rattle.script_core.specs.Ready.{Fits, Gives}
use Rattle.script_core.proofs.Closed.{base_is}
use Rattle.script_tests.specs.Closed.{nothing, AllFit}

abbrev pub fits_all : List Definition → List (Bor Text × Bor Text) → Bool
fits_all ds [] = true
fits_all ds (c ∷ cases) = is_some (table_sequent ds [] nothing c.0.now) && fits_all ds cases

pub all_fit : (ds : List Definition) (cases : List (Bor Text × Bor Text)) → fits_all ds cases ≡ true → AllFit ds cases
all_fit ds [] e = record { all = All-nil (λ c. Fits ds [] nothing c.0.now) }
all_fit ds (c ∷ cases) e = record {
  all = All-cons (λ d. Fits ds [] nothing d.0.now) c cases (record { is = and_left _ _ e }) (all_fit ds cases (and_right _ _ e)).all;
}

pub fit_at : (ds : List Definition) (cases : List (Bor Text × Bor Text)) (i : ℕ) (d : Bor Text × Bor Text) → AllFit ds cases → i < length cases → Fits ds [] nothing (get_or cases i d).0.now
fit_at ds cases i d h l = All-get_or (λ c. Fits ds [] nothing c.0.now) cases i d l h.all

pub fit_same : (ds es : List Definition) (table : Text) → Fits ds [] nothing table → es ≡ ds → Fits es [] nothing table
fit_same ds es table h e = subst (λ fs. Fits fs [] nothing table) (sym e) h

pub gives_same : (ds es : List Definition) (table : Text) (a : Sequent) → Gives es [] nothing table a → es ≡ ds → Gives ds [] nothing table a
gives_same ds es table a h e = subst (λ fs. Gives fs [] nothing table a) e h

pub all_same : (ds es : List Definition) (cases : List (Bor Text × Bor Text)) → AllFit ds cases → es ≡ ds → AllFit es cases
all_same ds es cases h e = subst (λ fs. AllFit fs cases) (sym e) h

pub base_same : (ds es : List Definition) → HasBase ds → es ≡ ds → HasBase es
base_same ds es h e = subst HasBase (sym e) h

pub ruleset case_lemmas = (fit_at, fit_same, all_same, base_same, base_is)
