use Rattle.std.proofs.Common.{◌≡◌, drop}
use Rattle.strict_reading.specs.Terms.{binder_at}
use Rattle.flat_terms.specs.Plain.{types_of}
use Rattle.flat_reading.proofs.BinderSteps.{shifted}
use Rattle.flat_reading.proofs.signs.find_binder.Given as goal

abbrev pub invariant-loop-index : goal.invariant-loop-index
invariant-loop-index l = binder_at (types_of l.tables l.bound) l.word ≡ shifted l.index (binder_at (types_of l.tables (drop l.index l.bound)) l.word)
