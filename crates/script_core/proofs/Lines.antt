-- Tables over given values that are not known: what they give, line by line.
use Rattle.std.proofs.Common.{◌≡◌, ◌∙◌, ap, ⊎_elim, inr, List, ◌∷◌, Option, Some}
use Rattle.hol_terms.specs.Tm.{Tm}
use Rattle.hol_terms.specs.Definition.{Definition}
use Rattle.hol_terms.specs.Sequent.{Sequent, union}
use Rattle.hol_terms.specs.Text.{Text}
use Rattle.hol_kernel.specs.Ascending.{Ascends}
use Rattle.hol_kernel.proofs.Ascending.{union_ascends}
use Rattle.hol_kernel.proofs.Members.{union_has, same_list}
use Rattle.kernel_lines.specs.Lines.{on}
use Rattle.script_core.specs.Steps.{Registers}
use Rattle.script_core.specs.Tables.{with_thm, line_step, run}

-- A line puts the sequent that its rule gives. Where the text of the line is known, the first equation computes, `refl` by
-- `unfolding closed_table`.
pub by_rule : (ds : List Definition) (r : Registers) (line : Text) (more : List Text) (a : Sequent) (o : Option Sequent) → line_step ds r line ≡ on o (λ b. Some (with_thm r b)) → o ≡ Some a
    → run ds r (line ∷ more) ≡ run ds (with_thm r a) more
by_rule ds r line more a o e h = ap (λ p. on p (λ q. run ds q more)) (e ∙ ap (λ p. on p (λ b. Some (with_thm r b))) h)

-- a theorem's hypotheses, joined with themselves
pub hyps_twice : (hs : List Tm) → Ascends hs → union hs hs ≡ hs
hyps_twice hs a = same_list (union hs hs) hs (union_ascends hs hs a) a (λ t. (λ m. ⊎_elim (λ c. c) (λ c. c) ((union_has hs hs t).0 m), λ c. (union_has hs hs t).1 (inr c)))
