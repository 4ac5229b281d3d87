use Rattle.std.proofs.Common.{◌≡◌, false}
use Rattle.std.specs.Str.{chars, IsUtf8}
use Rattle.flat_signatures.proofs.Segments.{is_rest}
use Rattle.flat_signatures.proofs.names.is_segment.Given as goal

-- what is left decides, from whether the segment has begun
abbrev pub invariant-loop-c : goal.invariant-loop-c
invariant-loop-c l = (is_rest false (chars l.text) ≡ is_rest l.begun (chars l.c-iterator.rest.now)) × IsUtf8 l.c-iterator.rest.now
