use Rattle.std.proofs.Common.{◌≡◌, drop}
use Rattle.hol_terms.specs.Signature.{entry_at}
use Rattle.script_core.specs.Words.{rows}
use Rattle.script_core.proofs.rule.kind_in.Given as goal

abbrev pub invariant-loop-name : goal.invariant-loop-name
invariant-loop-name l = entry_at (rows l.table) l.word ≡ entry_at (rows (drop l.name-index l.table)) l.word
