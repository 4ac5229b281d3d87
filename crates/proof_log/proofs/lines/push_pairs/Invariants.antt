use Rattle.std.proofs.Common.{◌≡◌, ◌++◌, string_bytes, drop, map}
use Rattle.hol_logs.specs.Step.{pair_text}
use Rattle.proof_log.proofs.Texts.{behind_semicolons}
use Rattle.proof_log.proofs.lines.push_pairs.Given as goal

-- what is written so far, and each of the pairs that are left behind a semicolon
abbrev pub invariant-loop-pair : goal.invariant-loop-pair
invariant-loop-pair l = string_bytes l.line ++ behind_semicolons (map pair_text (drop l.pair-index l.rest)) ≡ string_bytes l.initial.line ++ behind_semicolons (map pair_text l.rest)
