use Rattle.std.proofs.Common.{◌≡◌, false}
use Rattle.std.specs.Str.{chars, IsUtf8}
use Rattle.proof_log.specs.Segments.{is_rest}
use Rattle.proof_log.proofs.segments.has_shape.Given as goal

-- what is left decides, from the state so far
abbrev pub invariant-loop-c : goal.invariant-loop-c
invariant-loop-c l = (is_rest false (chars l.text) ≡ is_rest l.within (chars l.c-iterator.rest.now)) × IsUtf8 l.c-iterator.rest.now
