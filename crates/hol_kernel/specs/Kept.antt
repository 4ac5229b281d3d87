-- What is always true of a kernel's fields.
use Rattle.std.specs.Prelude.{◌≡◌, ℕ, ◌+◌, List, length, map, slice_get, Some}
use Rattle.hol_terms.specs.Definition.{Definition, signature_of}
use Rattle.hol_terms.specs.DefShape.{definition_of}
use Rattle.hol_terms.specs.Sequent.{Sequent}
use Rattle.hol_terms.specs.Proves.{AreConservative, sequents_of}
use Rattle.hol_kernel.specs.Run.{IsRun}
use Rattle.hol_kernel.specs.declared.kernel.Kernel.TheInside.{Inside}

-- from the number that is kept of each definition on, the steps say what the definition says
pub record AreSaid (ds : List Definition) (steps : List Sequent) (made : List ℕ) : Type 0 where
  pub count : length made ≡ length ds
  pub said : (i n j : ℕ) (d : Definition) (c : Sequent) → slice_get made i ≡ Some n → slice_get ds i ≡ Some d → slice_get (sequents_of d) j ≡ Some c → slice_get steps (n + j) ≡ Some c

pub record IsKernel (a : Inside) : Type 0 where
  pub conservative : AreConservative a.history
  pub listed : map definition_of a.defs.items ≡ a.history
  pub table : a.sig ≡ signature_of a.history
  pub run : IsRun a.defs.items a.log.items (record { defs = a.history; steps = a.steps.items })
  pub said : AreSaid a.history a.steps.items a.made.items
