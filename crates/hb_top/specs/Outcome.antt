-- What the parts of a run came to.
use Rattle.std.specs.Prelude.{Result, Ok, Err}
use Rattle.hb_top.specs.declared.input.InputError.{InputError}
use Rattle.hb_top.specs.declared.input.InputError.TheVariants.{Fault, Memory}

-- the fact, where the source failed
abbrev pub IfFault : {X : Type 0} → Result X InputError → Type 0 → Type 0
IfFault (Ok x) P = Unit {0}
IfFault (Err Fault) P = P
IfFault (Err Memory) P = Unit {0}
