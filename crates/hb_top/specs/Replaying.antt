-- What the program promises of a log that it replays.
use Rattle.std.specs.Prelude.{◌≡◌, ℕ, ◌++◌, ◌^◌, Option, Some, drop}
use Rattle.hol_terms.specs.Text.{Text}
use Rattle.hol_logs.specs.Log.{IsGoodLog, IsPartOfReport}
use Rattle.replay_check.specs.declared.why.Why.{Why}
use Rattle.log_replay.specs.Replayed.{IsFaultOf}
use Rattle.base_count.specs.InForce.{in_force}
use Rattle.hb_top.specs.declared.top.Status.{Status}
use Rattle.hb_top.specs.declared.top.Status.TheVariants.{Done, BadLog}

-- the sink gained a text that is such a one to the source's bytes
abbrev pub Gains : (Text → Text → Type 0) → Option Text → Option Text → Option Text → Type 0
Gains P left old new = (b : Text) → left ≡ Some b → (kept : Text) → old ≡ Some kept → (out : Text) × (new ≡ Some (kept ++ out)) × P b out

-- the source's bytes are a good log, and the sink gained its report
abbrev pub Reports : Option Text → Option Text → Option Text → Type 0
Reports = Gains (IsGoodLog in_force)

-- they are no good log, of this first bad line and its first cause, and the sink gained the report of the lines before it
abbrev pub ReportsFault : Option Text → Option Text → Option Text → ℕ → Why → Type 0
ReportsFault left old new number why = Gains (λ b out. IsFaultOf b out number why) left old new

-- the source's bytes are a good log, whatever the sink tells
abbrev pub IsGood : Option Text → Type 0
IsGood left = (b : Text) → left ≡ Some b → (report : Text) × IsGoodLog in_force b report

-- they are no good log, of this first bad line and its first cause, whatever the sink tells
abbrev pub IsFaulty : Option Text → ℕ → Why → Type 0
IsFaulty left number why = (b : Text) → left ≡ Some b → (report : Text) × IsFaultOf b report number why

-- the sink gained a part of their report
abbrev pub ReportsInPart : Option Text → Option Text → Option Text → Type 0
ReportsInPart = Gains (IsPartOfReport in_force)

-- a fact for the statuses Done and BadLog
abbrev pub IfReplayed : Status → Type 0 → Type 0
IfReplayed Done P = P
IfReplayed BadLog P = P
IfReplayed s P = Unit {0}

-- the source has left what follows its first 2^62 bytes
abbrev pub LeavesLog : Option Text → Option Text → Type 0
LeavesLog old new = (b : Text) → old ≡ Some b → new ≡ Some (drop (2 ^ 62) b)
