use Rattle.std.proofs.Common.{◌≡◌, ◌++◌, false, string_bytes, drop}
use Rattle.proof_log.proofs.Texts.{types_left}
use Rattle.proof_log.proofs.lines.push_type_pairs.Given as goal

-- what is written so far, and what the pairs that are left come to
abbrev pub invariant-loop-pair : goal.invariant-loop-pair
invariant-loop-pair l = string_bytes l.line ++ types_left l.some (drop l.pair-index l.pairs) ≡ string_bytes l.initial.line ++ types_left false l.pairs
