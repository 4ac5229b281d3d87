-- The entries of registers.
use Rattle.std.proofs.Common.{◌≡◌, ℕ, [], Option, Some, IsSome, List, slice_get, subst, refl, sym, ap, ◌∙◌}
use Rattle.std.proofs.lemmas.Option.{slice_get_within, get_or_from_slice_get}
use Rattle.hol_terms.specs.Ty.{Ty}
use Rattle.hol_terms.specs.Tm.{Tm}
use Rattle.hol_terms.specs.Signature.{IsTyOver, IsOver}
use Rattle.hol_terms.specs.Definition.{Definition, signature_of}
use Rattle.hol_kernel.specs.State.{State, Theorem, Has}
use Rattle.kernel_lines.proofs.Had.{over_at, had_at}
use Rattle.script_core.specs.Ready.{AllTypesOver, IsReady}
use Rattle.script_core.specs.declared.entries.Entries.{Entries}

pub type_over_at : (k : State) (r : Entries) (n : ℕ) (t : Ty) → IsReady k r → slice_get r.types.items n ≡ Some t → IsTyOver (signature_of k.defs) t
type_over_at k r n t h e = subst (IsTyOver (signature_of k.defs)) (get_or_from_slice_get r.types.items n t t e) (h.types.all n t (slice_get_within r.types.items n t e))

pub term_over_at : (k : State) (r : Entries) (n : ℕ) (t : Tm) → IsReady k r → slice_get r.terms.items n ≡ Some t → IsOver (signature_of k.defs) [] t
term_over_at k r n t h e = over_at k.defs r.terms.items n t h.terms e

pub thm_had_at : (k : State) (r : Entries) (n : ℕ) (t : Theorem) → IsReady k r → slice_get r.thms.items n ≡ Some t → Has k t
thm_had_at k r n t h e = had_at k r.thms.items n t h.thms e

pub ruleset entry_lemmas = (type_over_at, term_over_at, thm_had_at)
