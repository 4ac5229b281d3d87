-- Shelves of no fact and of one, and what tables give from them.
use Rattle.std.proofs.Common.{◌≡◌, ◌∙◌, refl, sym, ap, subst, [], ◌∷◌, ◌++◌, List, Some, IsSome, codes, lit<}
use Rattle.std.specs.Prelude.{Contains}
use Rattle.std.proofs.lemmas.List.Elements.{All-nil, All-cons}
use Rattle.hol_terms.specs.Definition.{Definition}
use Rattle.hol_terms.specs.Base.{base}
use Rattle.hol_terms.specs.Sequent.{Sequent, seq, eq_tm}
use Rattle.hol_terms.specs.Logic.{const_T}
use Rattle.hol_terms.specs.Text.{Text}
use Rattle.hol_kernel.specs.State.{State, Theorem, Has, Grows}
use Rattle.kernel_lines.specs.Lines.{on}
use Rattle.library_facts.proofs.BaseSignature.{base_signature}
use Rattle.script_core.specs.Shelves.{Shelved, IsFact, IsOn, ShelfHad}
use Rattle.script_core.specs.Tables.{fact_sequent, facts_put, table_sequent}
use Rattle.script_core.specs.Ready.{Fits, Gives}
use Rattle.script_core.proofs.Closed.{closed_table, fact_reads_as, over_facts}
use Rattle.script_tests.specs.Closed.{nothing, truth_text}

-- each kernel has the theorems of a shelf without any
pub had_none : (k : State) (s : Shelved) → s ≡ [] → ShelfHad k s
had_none k s e = subst (λ (t : Shelved). ShelfHad k t) (sym e) (record { all = All-nil (λ (x : Text × Theorem). Has k x.1) })

-- and where only steps were added, those of any other
pub had_grows : (k l : State) (s : Shelved) → ShelfHad k s → Grows k l → ShelfHad l s
had_grows k l s h g = record { all = λ i d b. g.keeps _ (h.all i d b) }

-- a shelf of one fact
pub had_one : (k : State) (s t : Shelved) (fact : Text) (th : Theorem) → s ≡ [] → t ≡ s ++ (fact, th) ∷ [] → Has k th → ShelfHad k t
had_one k s t fact th e d h =
    let u : t ≡ (fact, th) ∷ [] = d ∙ ap (λ (r : Shelved). r ++ (fact, th) ∷ []) e in
    subst (λ (r : Shelved). ShelfHad k r) (sym u) (record { all = All-cons (λ (x : Text × Theorem). Has k x.1) (fact, th) [] h (All-nil (λ (x : Text × Theorem). Has k x.1)) })

pub on_one : (s t : Shelved) (fact : Text) (th : Theorem) → s ≡ [] → t ≡ s ++ (fact, th) ∷ [] → IsOn t fact
on_one s t fact th e d =
    let u : t ≡ (fact, th) ∷ [] = d ∙ ap (λ (r : Shelved). r ++ (fact, th) ∷ []) e in
    record { th = th; there = subst (λ (r : Shelved). Contains r (fact, th)) (sym u) (0, lit< tt, refl) }

abbrev pub truth_table : Text
truth_table = codes "term T\nrefl 0\neqt_e 0\n"

truth_given : table_sequent (base 10) [] nothing truth_table ≡ Some (seq [] const_T)
unfolding closed_table
truth_given = refl

truth_reads : fact_sequent truth_text ≡ Some (seq [] const_T)
unfolding closed_table base_signature
truth_reads = fact_reads_as truth_text const_T refl

pub truth_fits : (ds : List Definition) → ds ≡ base 10 → Fits ds [] nothing truth_table
truth_fits ds e = record { is = subst (λ (es : List Definition). IsSome (table_sequent es [] nothing truth_table)) (sym e) (subst IsSome (sym truth_given) refl) }

pub truth_stated : (ds : List Definition) (a : Sequent) → ds ≡ base 10 → Gives ds [] nothing truth_table a → IsFact truth_text a
truth_stated ds a e g = record { is = truth_reads ∙ (sym truth_given ∙ (ap (λ (es : List Definition). table_sequent es [] nothing truth_table) (sym e) ∙ g.is)) }

abbrev pub from_truth : Text
from_truth = codes "eqt_i 0\n"

put : facts_put [] (truth_text ∷ []) ≡ Some (seq [] const_T ∷ [])
put = ap (λ o. on o (λ a. facts_put (a ∷ []) [])) truth_reads

from_truth_given : table_sequent (base 10) (truth_text ∷ []) nothing from_truth ≡ Some (seq [] (eq_tm const_T const_T))
unfolding closed_table
from_truth_given = over_facts (base 10) (truth_text ∷ []) (seq [] const_T ∷ []) from_truth (seq [] (eq_tm const_T const_T)) put refl

pub from_truth_fits : (ds : List Definition) → ds ≡ base 10 → Fits ds (truth_text ∷ []) nothing from_truth
from_truth_fits ds e = record { is = subst (λ (es : List Definition). IsSome (table_sequent es (truth_text ∷ []) nothing from_truth)) (sym e) (subst IsSome (sym from_truth_given) refl) }
