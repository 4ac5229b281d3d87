use Rattle.std.proofs.Common.{◌≡◌, false}
use Rattle.std.specs.Str.{chars, IsUtf8}
use Rattle.hol_terms.specs.Name.{are_segments_of}
use Rattle.flat_signatures.proofs.names.are_segments.Given as goal

-- what is left decides, from the state so far
abbrev pub invariant-loop-c : goal.invariant-loop-c
invariant-loop-c l = (are_segments_of false (chars l.text) ≡ are_segments_of l.within (chars l.c-iterator.rest.now)) × IsUtf8 l.c-iterator.rest.now
