use Rattle.std.proofs.Common.{◌≡◌}
use Rattle.hol_terms.specs.Definition.{signature_of}
use Rattle.hol_terms.specs.Base.{base}
use Rattle.library_facts.proofs.fact.base_signature.Given as goal

abbrev pub invariant-loop-place : goal.invariant-loop-place
invariant-loop-place l = l.sig ≡ signature_of (base l.place)
