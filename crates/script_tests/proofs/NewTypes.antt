-- A kernel with one more type, and what tables give over it.
use Rattle.std.proofs.Common.{◌≡◌, ◌∙◌, refl, sym, ap, subst, [], ◌∷◌, ◌++◌, List, IsSome, true, codes}
use Rattle.std.specs.Borrow.{Bor}
use Rattle.hol_terms.specs.Name.{Name}
use Rattle.hol_terms.specs.Tm.{Tm}
use Rattle.hol_terms.specs.Definition.{Definition, type_def}
use Rattle.hol_terms.specs.Base.{base}
use Rattle.hol_kernel.specs.State.{State, Theorem}
use Rattle.hol_kernel.specs.NewType.{IsNewType}
use Rattle.hol_terms.specs.Text.{Text}
use Rattle.kernel_lines.specs.Bases.{HasBase}
use Rattle.script_core.specs.Tables.{table_sequent}
use Rattle.script_core.specs.Ready.{Fits}
use Rattle.script_core.proofs.Closed.{closed_table}
use Rattle.script_tests.specs.Closed.{nothing, HasType, AllFit}
use Rattle.script_tests.proofs.Cases.{fits_all, all_fit}

said : IsSome (table_sequent (base 10) [] nothing (codes "def 0\n"))
unfolding closed_table
said = refl

pub said_fits : (ds : List Definition) → ds ≡ base 10 → Fits ds [] nothing (codes "def 0\n")
said_fits ds e = record { is = subst (λ (es : List Definition). IsSome (table_sequent es [] nothing (codes "def 0\n"))) (sym e) said }

pub has_base : {ds : List Definition} → HasType ds → HasBase ds
has_base {ds} h = record { is = (type_def h.name h.predicate ∷ [], h.is) }

pub new_type_there : {old new : State} {n : Name} {p : Tm} {abs rep : Theorem} → old.defs ≡ base 10 → IsNewType old n p new abs rep → HasType new.defs
new_type_there {old} {new} {n} {p} {abs} {rep} e h = record {
  name = n;
  predicate = p;
  is = ap (λ (s : State). s.defs) h.state ∙ ap (λ (ds : List Definition). ds ++ type_def n p ∷ []) e;
}

pub told_fit : {ds : List Definition} {cases : List (Bor Text × Bor Text)} → HasType ds → ((n : Name) (p : Tm) → fits_all (base 10 ++ type_def n p ∷ []) cases ≡ true) → AllFit ds cases
told_fit {ds} {cases} h f = subst (λ es. AllFit es cases) (sym h.is) (all_fit _ cases (f h.name h.predicate))
