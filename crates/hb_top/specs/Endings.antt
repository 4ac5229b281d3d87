-- What the parts of a run come to.
use Rattle.std.specs.Prelude.{◌≡◌, ℕ, ◌^◌, Option, take, String, string_bytes}
use Rattle.std.specs.declared.alloc.Global.{Global}
use Rattle.hol_terms.specs.Text.{Text}
use Rattle.replay_check.specs.declared.why.Why.{Why}
use Rattle.log_replay.specs.Messages.{bad_log_text}
use Rattle.log_replay.specs.Replayed.{GainsFaultReport}
use Rattle.hb_top.specs.declared.top.Status.{Status}
use Rattle.hb_top.specs.declared.top.Status.TheVariants.{Done, Refused, Usage, WriteFault, Memory, BadLog}
use Rattle.hb_top.specs.declared.top.Ending.{Ending}
use Rattle.hb_top.specs.declared.top.Ending.TheVariants.{Plain, BadLog as BadEnding}
use Rattle.hb_top.specs.Headline.{message_of}
use Rattle.hb_top.specs.Replaying.{ReportsFault, IsFaulty}

abbrev pub status_of : Ending → Status
status_of (Plain s) = s
status_of (BadEnding message) = BadLog

abbrev pub said_of : Ending → Text
said_of (Plain s) = message_of s
said_of (BadEnding message) = string_bytes message

-- the message tells the first bad line of the source's bytes
abbrev pub TellsFault : Option Text → Option Text → Option Text → Text → Type 0
TellsFault left old new message = (number : ℕ) × (why : Why) × (message ≡ bad_log_text number why) × ReportsFault left old new number why

-- the same, whatever the sink tells
abbrev pub NamesFault : Option Text → Text → Type 0
NamesFault left message = (number : ℕ) × (why : Why) × (message ≡ bad_log_text number why) × IsFaulty left number why

-- what a theory text may come to
abbrev pub IsTheoryStatus : Status → Type 0
IsTheoryStatus Usage = ⊥
IsTheoryStatus BadLog = ⊥
IsTheoryStatus s = Unit {0}

-- what a log may come to
abbrev pub IsLogStatus : Status → Type 0
IsLogStatus Usage = ⊥
IsLogStatus Refused = ⊥
IsLogStatus s = Unit {0}

-- what comes of a log once it was read
abbrev pub IsReplaying : Ending → Type 0
IsReplaying (BadEnding message) = Unit {0}
IsReplaying (Plain Done) = Unit {0}
IsReplaying (Plain WriteFault) = Unit {0}
IsReplaying (Plain Memory) = Unit {0}
IsReplaying (Plain s) = ⊥

abbrev pub IfBadLog : Ending → (String Global → Type 0) → Type 0
IfBadLog (BadEnding message) P = P message
IfBadLog (Plain s) P = Unit {0}

-- the message tells the first bad line of each log of which these are the first 2^62 bytes
abbrev pub TellsReport : Text → Option Text → Option Text → Text → Type 0
TellsReport given old new message = (number : ℕ) × (why : Why) × (message ≡ bad_log_text number why) × ((b : Text) → given ≡ take (2 ^ 62) b → GainsFaultReport b old new number why)
