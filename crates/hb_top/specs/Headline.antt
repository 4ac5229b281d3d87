-- What the program promises of the words, the input, the output and the status.
use Rattle.std.specs.Prelude.{◌≡◌, ℕ, ◌+◌, Bool, true, false, [], ◌∷◌, ◌++◌, Option, Some, take, drop, codes}
use Rattle.hb_io.specs.Told.{Appends}
use Rattle.hol_terms.specs.Text.{Text}
use Rattle.hol_terms.specs.Sound.{IsSound}
use Rattle.hol_terms.specs.Base.{base}
use Rattle.hol_logs.specs.Log.{IsGoodLog}
use Rattle.base_count.specs.InForce.{in_force}
use Rattle.theory_answers.specs.Answer.{limit}
use Rattle.theory_answers.specs.Answered.{IsCheck, IsPart, IsLog}
use Rattle.hb_top.specs.declared.top.Status.{Status}
use Rattle.hb_top.specs.declared.top.Status.TheVariants.{Done, Refused, Usage, ReadFault, WriteFault, Memory, BadLog}

-- the exit code of a status
abbrev pub code_of : Status → ℕ
code_of Done = 0
code_of Refused = 1
code_of Usage = 2
code_of ReadFault = 3
code_of WriteFault = 4
code_of Memory = 5
code_of BadLog = 7

-- what a status says on the standard error; what BadLog says depends on the log
abbrev pub message_of : Status → Text
message_of Done = []
message_of Refused = []
message_of Usage = codes "usage: hbnf check|log|replay" ++ 10 ∷ []
message_of ReadFault = codes "read fault" ++ 10 ∷ []
message_of WriteFault = codes "write fault" ++ 10 ∷ []
message_of Memory = codes "out of memory" ++ 10 ∷ []
message_of BadLog = []

-- a fact for the statuses Done and Refused, which say whether the answer has a refusal
abbrev pub IfAnswered : Status → (Bool → Type 0) → Type 0
IfAnswered Done P = P false
IfAnswered Refused P = P true
IfAnswered s P = Unit {0}

-- the sink gained an output that answers the source's bytes
abbrev pub Answers : Option Text → Option Text → Option Text → Bool → Type 0
Answers left old new refused = (b : Text) → left ≡ Some b → (kept : Text) → old ≡ Some kept → (out : Text) × (new ≡ Some (kept ++ out)) × IsCheck b out refused

-- a fact for the statuses WriteFault and Memory
abbrev pub IfCut : Status → Type 0 → Type 0
IfCut WriteFault P = P
IfCut Memory P = P
IfCut s P = Unit {0}

-- the sink gained a part of an output to the source's bytes, or nothing
abbrev pub AnswersInPart : Option Text → Option Text → Option Text → Type 0
AnswersInPart left old new = (b : Text) → left ≡ Some b → (kept : Text) → old ≡ Some kept → (out : Text) × (new ≡ Some (kept ++ out)) × IsPart b out

-- the sink gained a log of the source's bytes: a good one, whose report is an output that answers them
abbrev pub LogsAnswers : Option Text → Option Text → Option Text → Bool → Type 0
LogsAnswers left old new refused = (b : Text) → left ≡ Some b → (kept : Text) → old ≡ Some kept → (log : Text) × (new ≡ Some (kept ++ log)) × IsLog b log refused

-- nothing, or a part of such a log from its front
pub data IsLogPart (b : Text) : Text → Type 0 where
  nothing : IsLogPart b []
  front : (log : Text) (refused : Bool) (n : ℕ) → IsLog b log refused → IsLogPart b (take n log)

-- the sink gained that
abbrev pub LogsInPart : Option Text → Option Text → Option Text → Type 0
LogsInPart left old new = (b : Text) → left ≡ Some b → (kept : Text) → old ≡ Some kept → (out : Text) × (new ≡ Some (kept ++ out)) × IsLogPart b out

-- the sink gained a text of which each theorem line is derivable over the definition lines before it, or nothing
abbrev pub GainsSound : Option Text → Option Text → Type 0
GainsSound old new = (kept : Text) → old ≡ Some kept → (out : Text) × (new ≡ Some (kept ++ out)) × IsSound (base in_force) out

-- nothing, or a part from its front of a good log whose report is sound
pub data IsGoodPart : Text → Type 0 where
  no_bytes : IsGoodPart []
  some_bytes : (log report : Text) (n : ℕ) → IsGoodLog in_force log report → IsSound (base in_force) report → IsGoodPart (take n log)

-- the sink gained that
abbrev pub GainsGoodPart : Option Text → Option Text → Type 0
GainsGoodPart old new = (kept : Text) → old ≡ Some kept → (out : Text) × (new ≡ Some (kept ++ out)) × IsGoodPart out

-- the sink gained the bytes, or a part of them from their front
abbrev pub AppendsFront : Option Text → Option Text → Text → Type 0
AppendsFront old new bytes = (n : ℕ) × Appends old new (take n bytes)

-- the sink gained the bytes where its faults did not rise, and else a part of them
abbrev pub Says : Type 0 → Option Text → Option Text → Text → Type 0
Says rose old new bytes = ((rose → ⊥) → Appends old new bytes) × AppendsFront old new bytes

-- the source has left what follows the bytes that an answer depends on
abbrev pub Leaves : Option Text → Option Text → Type 0
Leaves old new = (b : Text) → old ≡ Some b → new ≡ Some (drop (limit + 1) b)

-- the command was done, was refused, memory was wanting, or the log isn't good
abbrev pub IsCompletion : Status → Type 0
IsCompletion Done = Unit {0}
IsCompletion Refused = Unit {0}
IsCompletion Memory = Unit {0}
IsCompletion BadLog = Unit {0}
IsCompletion s = ⊥

-- what words that are no mode's may come to
abbrev pub IsUsage : Status → Type 0
IsUsage Usage = Unit {0}
IsUsage Memory = Unit {0}
IsUsage s = ⊥

-- what printing may answer
abbrev pub IsPrinting : Status → Type 0
IsPrinting Done = Unit {0}
IsPrinting Refused = Unit {0}
IsPrinting WriteFault = Unit {0}
IsPrinting s = ⊥

-- what writing a log may answer
abbrev pub IsWriting : Status → Type 0
IsWriting Memory = Unit {0}
IsWriting s = IsPrinting s

-- after Usage and ReadFault nothing was written
abbrev pub IsUnwritten : Status → Option Text → Option Text → Type 0
IsUnwritten Usage old new = new ≡ old
IsUnwritten ReadFault old new = new ≡ old
IsUnwritten s old new = Unit {0}
