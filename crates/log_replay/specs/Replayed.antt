-- What replaying a log comes to.
use Rattle.std.specs.Prelude.{◌≡◌, ℕ, suc, ◌≤◌, ◌^◌, List, Option, Result, Ok, Err, length, take}
use Rattle.hb_io.specs.Told.{Appends}
use Rattle.hol_terms.specs.Text.{Text}
use Rattle.hol_terms.specs.Sound.{complete_lines}
use Rattle.hol_logs.specs.Position.{LogPosition}
use Rattle.hol_logs.specs.Log.{unlines, Reads, IsGoodLog, IsBadLog, IsPartOfReport}
use Rattle.replay_check.specs.declared.why.Why.{Why as Cause}
use Rattle.replay_check.specs.declared.why.Why.TheVariants.{Endless}
use Rattle.base_count.specs.InForce.{in_force}
use Rattle.replay_check.specs.Positions.{cause_of}
use Rattle.log_replay.specs.declared.replay.ReplayError.{ReplayError}
use Rattle.log_replay.specs.declared.replay.ReplayError.TheVariants.{BadLog, WriteFault, Memory}

-- 2^62 bytes and no bad line: what the lines among them print, and the number of the line in which they end
pub record IsEndless (b report : Text) (number : ℕ) : Type 0 where
  pub position : LogPosition
  pub said : List Text
  pub long : 2 ^ 62 ≤ length b
  pub read : Reads in_force (complete_lines (take (2 ^ 62) b)) position said
  pub report_is : report ≡ unlines said
  pub number_is : number ≡ suc (length (complete_lines (take (2 ^ 62) b)))

-- the log isn't good: the report of the lines before the first bad one, the number of that line, and its first cause
abbrev pub IsFaultOf : Text → Text → ℕ → Cause → Type 0
IsFaultOf b report number Endless = IsEndless b report number
IsFaultOf b report number why = IsBadLog in_force b report number (cause_of why)

-- the sink gained the report of a good log
pub record GainsReport (b : Text) (old new : Option Text) : Type 0 where
  pub report : Text
  pub good : IsGoodLog in_force b report
  pub gained : Appends old new report

-- the sink gained the report of the lines before the first bad one
pub record GainsFaultReport (b : Text) (old new : Option Text) (number : ℕ) (why : Cause) : Type 0 where
  pub report : Text
  pub fault : IsFaultOf b report number why
  pub gained : Appends old new report

-- the sink gained a part of the report from its front
pub record GainsPart (b : Text) (old new : Option Text) : Type 0 where
  pub out : Text
  pub part : IsPartOfReport in_force b out
  pub gained : Appends old new out

-- a fact for a log that isn't good
abbrev pub IfBadLog : {X : Type 0} → Result X ReplayError → (ℕ → Cause → Type 0) → Type 0
IfBadLog (Ok x) P = Unit {0}
IfBadLog (Err (BadLog number why)) P = P number why
IfBadLog (Err WriteFault) P = Unit {0}
IfBadLog (Err Memory) P = Unit {0}

-- a fact for a report that was cut short
abbrev pub IfCut : {X : Type 0} → Result X ReplayError → Type 0 → Type 0
IfCut (Ok x) P = Unit {0}
IfCut (Err (BadLog number why)) P = Unit {0}
IfCut (Err WriteFault) P = P
IfCut (Err Memory) P = P

-- a fact for the error that a sink's fault makes
abbrev pub IfFault : {X : Type 0} → Result X ReplayError → Type 0 → Type 0
IfFault (Ok x) P = Unit {0}
IfFault (Err (BadLog number why)) P = Unit {0}
IfFault (Err WriteFault) P = P
IfFault (Err Memory) P = Unit {0}
