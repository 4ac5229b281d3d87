-- What the lines of a log came to so far.
use Rattle.std.specs.Prelude.{◌≡◌, ℕ, suc, List, [], ◌∷◌, ◌++◌, Option, None, Result, Ok, Err, length, take}
use Rattle.hb_io.specs.Told.{Appends}
use Rattle.hol_terms.specs.Text.{Text}
use Rattle.hol_logs.specs.Position.{LogPosition}
use Rattle.hol_logs.specs.Log.{unlines, Reads, IsBad}
use Rattle.replay_check.specs.declared.why.Why.{Why as Cause}
use Rattle.replay_check.specs.Checked.{CheckerState}
use Rattle.base_count.specs.InForce.{in_force}
use Rattle.replay_check.specs.Positions.{cause_of}
use Rattle.log_replay.specs.declared.replay.ReplayError.{ReplayError}
use Rattle.log_replay.specs.declared.replay.ReplayError.TheVariants.{BadLog, WriteFault, Memory}
use Rattle.log_replay.specs.Replayed.{GainsReport, GainsFaultReport, GainsPart}

-- the bytes kept grew by a part of the text from its front
abbrev pub AppendsFront : Option Text → Option Text → Text → Type 0
AppendsFront old new text = (n : ℕ) × Appends old new (take n text)

-- the lines are good, the checker stands behind them, and the sink gained what they print
pub record IsAfter (texts : List Text) (s : CheckerState) (old new : Option Text) : Type 0 where
  pub said : List Text
  pub read : Reads in_force texts s.position said
  pub sound : s.failure ≡ None
  pub gained : Appends old new (unlines said)

-- the line behind them is bad
pub record IsBadBehind (texts : List Text) (text : Text) (old new : Option Text) (number : ℕ) (why : Cause) : Type 0 where
  pub position : LogPosition
  pub said : List Text
  pub read : Reads in_force texts position said
  pub bad : IsBad in_force position text (cause_of why)
  pub number_is : number ≡ suc (length texts)
  pub gained : Appends old new (unlines said)

-- a part of what the lines print was written
pub record IsPartBehind (texts : List Text) (old new : Option Text) : Type 0 where
  pub front : List Text
  pub rest : List Text
  pub position : LogPosition
  pub said : List Text
  pub out : Text
  pub more : Text
  pub lines : texts ≡ front ++ rest
  pub read : Reads in_force front position said
  pub begins : out ++ more ≡ unlines said
  pub gained : Appends old new out

-- what comes of a line behind them
abbrev pub IsFedLine : {X : Type 0} → List Text → Text → CheckerState → Option Text → Option Text → Result X ReplayError → Type 0
IsFedLine texts text s old new (Ok x) = IsAfter (texts ++ text ∷ []) s old new
IsFedLine texts text s old new (Err (BadLog number why)) = IsBadBehind texts text old new number why
IsFedLine texts text s old new (Err WriteFault) = IsPartBehind (texts ++ text ∷ []) old new
IsFedLine texts text s old new (Err Memory) = IsPartBehind (texts ++ text ∷ []) old new

-- what is known where the lines that a newline ends weren't all fed
abbrev pub IsStopped : {X : Type 0} → Text → Text → Option Text → Option Text → Result X ReplayError → Type 0
IsStopped given more old new (Ok x) = Unit {0}
IsStopped given more old new (Err (BadLog number why)) = GainsFaultReport (given ++ more) old new number why
IsStopped given more old new (Err WriteFault) = GainsPart (given ++ more) old new
IsStopped given more old new (Err Memory) = GainsPart (given ++ more) old new

-- what comes of the whole log, where it has fewer than 2^62 bytes
abbrev pub IsClosed : {X : Type 0} → Text → Option Text → Option Text → Result X ReplayError → Type 0
IsClosed b old new (Ok x) = GainsReport b old new
IsClosed b old new (Err (BadLog number why)) = GainsFaultReport b old new number why
IsClosed b old new (Err WriteFault) = GainsPart b old new
IsClosed b old new (Err Memory) = GainsPart b old new
