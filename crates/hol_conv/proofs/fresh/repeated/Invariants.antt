use Rattle.std.proofs.Common.{◌≡◌, string_bytes}
use Rattle.hol_conv.specs.Fresh.{letters}
use Rattle.hol_conv.proofs.fresh.repeated.Given as goal

abbrev pub invariant-loop : goal.invariant-loop
invariant-loop l = string_bytes l.name ≡ letters l.counter
