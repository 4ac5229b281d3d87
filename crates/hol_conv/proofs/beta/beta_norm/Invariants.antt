use Rattle.std.proofs.Common.{◌-◌}
use Rattle.hol_kernel.specs.State.{Has, Grows}
use Rattle.hol_conv.specs.Conv.{Reaches}
use Rattle.hol_conv.proofs.beta.beta_norm.Given as goal

abbrev pub invariant-loop : goal.invariant-loop
invariant-loop l = Reaches l.fn.t l.fn.fuel (l.fn.fuel - l.counter) l.th × Has l.k l.th × Grows l.fn.k l.k
