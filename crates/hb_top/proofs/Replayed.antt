-- From what a replay gave to what the program promises.
use Rattle.std.proofs.Common.{◌≡◌, ℕ, ◌-◌, ◌<◌, ◌≤◌, ◌^◌, ◌++◌, length, take, Option, Some, refl, sym, ap, ◌∙◌, subst, arith, string_bytes}
use Rattle.std.proofs.lemmas.List.{take_all}
use Rattle.std.specs.Prelude.{Err}
use Rattle.std.specs.Io.KnownBytes.{IsAtEnd}
use Rattle.hb_io.specs.Told.{Takes, Appends, append_told}
use Rattle.hb_io.proofs.ToldLemmas.{append_told-Some}
use Rattle.hol_terms.specs.Text.{Text}
use Rattle.hol_logs.specs.Log.{IsGoodLog, IsPartOfReport}
use Rattle.log_laws.proofs.Reports.{good_sound, part_sound}
use Rattle.replay_check.specs.declared.why.Why.{Why}
use Rattle.log_replay.specs.Messages.{bad_log_text}
use Rattle.log_replay.specs.Replayed.{IsFaultOf, GainsReport, GainsFaultReport, GainsPart, IfBadLog as IfBad}
use Rattle.log_replay.specs.declared.replay.ReplayError.{ReplayError}
use Rattle.log_replay.specs.declared.replay.ReplayError.TheVariants.{BadLog as BadError}
use Rattle.log_replay.proofs.Closing.{gains_part}
use Rattle.base_count.specs.InForce.{in_force}
use Rattle.hb_top.specs.declared.top.Status.TheVariants.{Done, Refused, Usage, ReadFault, WriteFault, Memory, BadLog}
use Rattle.hb_top.specs.declared.top.Ending.{Ending}
use Rattle.hb_top.specs.declared.top.Ending.TheVariants.{Plain, BadLog as BadEnding}
use Rattle.hb_top.specs.Headline.{IfCut, GainsSound, IsUnwritten, Says}
use Rattle.hb_top.specs.Replaying.{Reports, ReportsFault, ReportsInPart, IsGood, IsFaulty, IfReplayed, LeavesLog}
use Rattle.hb_top.specs.Endings.{status_of, said_of, TellsFault, NamesFault, TellsReport, IfBadLog, IsReplaying, IsLogStatus}
use Rattle.hb_top.proofs.Running.{Front, front_is, gains}

-- the facts of a run that came to replaying
pub record Fed (left new_left : Option Text) (input : Text) : Type 0 where
  pub taken : Takes left new_left input
  pub within : length input ≤ 2 ^ 62
  pub whole : length input < 2 ^ 62 → IsAtEnd new_left

front : {left new_left : Option Text} {input : Text} → Fed left new_left input → (b : Text) → left ≡ Some b → Front (2 ^ 62 - 1) b input new_left
front {left} {new_left} {input} f b e = front_is (2 ^ 62 - 1) left new_left input b f.taken f.within (λ h. f.whole (omega arith)) e

pub fed : (left new_left : Option Text) (input given : Text) → given ≡ input → Takes left new_left input → length input ≤ 2 ^ 62 → (length input < 2 ^ 62 → IsAtEnd new_left) → Fed left new_left given
fed left new_left input given e t l w = subst (Fed left new_left) (sym e) (record { taken = t; within = l; whole = w })

told : (P : Text → Type 0) (old new : Option Text) (kept out : Text) → old ≡ Some kept → Appends old new out → P out → (x : Text) × (new ≡ Some (kept ++ x)) × P x
told P old new kept out k a p = (out, a ∙ ap (λ o. append_told o out) k ∙ append_told-Some kept out, p)

pub reports : (given : Text) (old new : Option Text) {left new_left : Option Text} → Fed left new_left given → ((b : Text) → given ≡ take (2 ^ 62) b → GainsReport b old new) → Reports left old new
reports given old new f r = λ b e kept k. let g = r b (front f b e).front in told (IsGoodLog in_force b) old new kept g.report k g.gained g.good

pub tells : (given message : Text) (old new : Option Text) {left new_left : Option Text} → Fed left new_left given → TellsReport given old new message → TellsFault left old new message
tells given message old new f t = (t.0, t.1, t.2, λ b e kept k. let g = t.3 b (front f b e).front in told (λ out. IsFaultOf b out t.0 t.1) old new kept g.report k g.gained g.fault)

pub is_good : (given : Text) (old new : Option Text) {left new_left : Option Text} → Fed left new_left given → ((b : Text) → given ≡ take (2 ^ 62) b → GainsReport b old new) → IsGood left
is_good given old new f r = λ b e. let g = r b (front f b e).front in (g.report, g.good)

names : (given message : Text) (old new : Option Text) {left new_left : Option Text} → Fed left new_left given → TellsReport given old new message → NamesFault left message
names given message old new f t = (t.0, t.1, t.2, λ b e. let g = t.3 b (front f b e).front in (g.report, g.fault))

pub reports_part : (given : Text) (old new : Option Text) {left new_left : Option Text} → Fed left new_left given → ((b : Text) → given ≡ take (2 ^ 62) b → GainsPart b old new) → ReportsInPart left old new
reports_part given old new f r = λ b e kept k. let g = r b (front f b e).front in told (IsPartOfReport in_force b) old new kept g.out k g.gained g.part

pub leaves : (given : Text) {left new_left : Option Text} → Fed left new_left given → LeavesLog left new_left
leaves given f = λ b e. (front f b e).left

-- ---- what the error says

pub known : (e : ReplayError) (number : ℕ) (why : Why) (b : Text) (old new : Option Text) → e ≡ BadError number why → IfBad {X = Unit {0}} (Err e) (GainsFaultReport b old new) → GainsFaultReport b old new number why
known e number why b old new is f = let g : IfBad {X = Unit {0}} (Err (BadError number why)) (GainsFaultReport b old new) = subst (λ x. IfBad {X = Unit {0}} (Err x) (GainsFaultReport b old new)) is f in g

-- ---- whatever the source

itself : (given : Text) → length given ≤ 2 ^ 62 → given ≡ take (2 ^ 62) given
itself given l = sym (take_all (2 ^ 62) given l)

part_gains : (b : Text) (old new : Option Text) → GainsPart b old new → GainsSound old new
part_gains b old new g = gains old new g.out g.gained (part_sound in_force b g.out g.part)

pub sound : (e : Ending) (given : Text) (old new : Option Text) → length given ≤ 2 ^ 62 → IsReplaying e → ((b : Text) → given ≡ take (2 ^ 62) b → status_of e ≡ Done → GainsReport b old new)
    → IfBadLog e (λ message. TellsReport given old new (string_bytes message)) → ((b : Text) → given ≡ take (2 ^ 62) b → IfCut (status_of e) (GainsPart b old new)) → GainsSound old new
sound (BadEnding message) given old new l i good bad part = part_gains given old new (gains_part given old new bad.0 bad.1 (bad.3 given (itself given l)))
sound (Plain Done) given old new l i good bad part = let g = good given (itself given l) refl in gains old new g.report g.gained (good_sound in_force given g.report g.good)
sound (Plain WriteFault) given old new l i good bad part = part_gains given old new (part given (itself given l))
sound (Plain Memory) given old new l i good bad part = part_gains given old new (part given (itself given l))
sound (Plain Refused) given old new l i good bad part = absurd i
sound (Plain Usage) given old new l i good bad part = absurd i
sound (Plain ReadFault) given old new l i good bad part = absurd i
sound (Plain BadLog) given old new l i good bad part = absurd i

-- ---- by the ending

pub plain_cut : (e : Ending) (given : Text) (old new : Option Text) {left new_left : Option Text} → Fed left new_left given → ((b : Text) → given ≡ take (2 ^ 62) b → IfCut (status_of e) (GainsPart b old new)) → IfCut (status_of e) (ReportsInPart left old new)
plain_cut (BadEnding message) given old new f part = tt
plain_cut (Plain Done) given old new f part = tt
plain_cut (Plain Refused) given old new f part = tt
plain_cut (Plain Usage) given old new f part = tt
plain_cut (Plain ReadFault) given old new f part = tt
plain_cut (Plain BadLog) given old new f part = tt
plain_cut (Plain WriteFault) given old new f part = reports_part given old new f part
plain_cut (Plain Memory) given old new f part = reports_part given old new f part

pub bad_tells : (e : Ending) (given : Text) (old new : Option Text) {left new_left : Option Text} → Fed left new_left given → IsReplaying e → IfBadLog e (λ message. TellsReport given old new (string_bytes message))
    → status_of e ≡ BadLog → TellsFault left old new (said_of e)
bad_tells (BadEnding message) given old new f i t s = tells given (string_bytes message) old new f t
bad_tells (Plain BadLog) given old new f i t s = absurd i
bad_tells (Plain Done) given old new f i t s = absurd cc
bad_tells (Plain Refused) given old new f i t s = absurd cc
bad_tells (Plain Usage) given old new f i t s = absurd cc
bad_tells (Plain ReadFault) given old new f i t s = absurd cc
bad_tells (Plain WriteFault) given old new f i t s = absurd cc
bad_tells (Plain Memory) given old new f i t s = absurd cc

pub bad_names : (e : Ending) (given : Text) (old new : Option Text) {left new_left : Option Text} → Fed left new_left given → IsReplaying e → IfBadLog e (λ message. TellsReport given old new (string_bytes message))
    → status_of e ≡ BadLog → NamesFault left (said_of e)
bad_names (BadEnding message) given old new f i t s = names given (string_bytes message) old new f t
bad_names (Plain BadLog) given old new f i t s = absurd i
bad_names (Plain Done) given old new f i t s = absurd cc
bad_names (Plain Refused) given old new f i t s = absurd cc
bad_names (Plain Usage) given old new f i t s = absurd cc
bad_names (Plain ReadFault) given old new f i t s = absurd cc
bad_names (Plain WriteFault) given old new f i t s = absurd cc
bad_names (Plain Memory) given old new f i t s = absurd cc

pub all_leave : (e : Ending) (P : Type 0) → P → IfReplayed (status_of e) P
all_leave (BadEnding message) P p = p
all_leave (Plain Done) P p = p
all_leave (Plain BadLog) P p = p
all_leave (Plain Refused) P p = tt
all_leave (Plain Usage) P p = tt
all_leave (Plain ReadFault) P p = tt
all_leave (Plain WriteFault) P p = tt
all_leave (Plain Memory) P p = tt

pub not_unwritten : (e : Ending) (old new : Option Text) → IsReplaying e → IsUnwritten (status_of e) old new
not_unwritten (BadEnding message) old new i = tt
not_unwritten (Plain Done) old new i = tt
not_unwritten (Plain WriteFault) old new i = tt
not_unwritten (Plain Memory) old new i = tt
not_unwritten (Plain BadLog) old new i = tt
not_unwritten (Plain Refused) old new i = tt
not_unwritten (Plain Usage) old new i = absurd i
not_unwritten (Plain ReadFault) old new i = absurd i

pub log_status : (e : Ending) → IsReplaying e → IsLogStatus (status_of e)
log_status (BadEnding message) i = tt
log_status (Plain Done) i = tt
log_status (Plain WriteFault) i = tt
log_status (Plain Memory) i = tt
log_status (Plain BadLog) i = tt
log_status (Plain ReadFault) i = tt
log_status (Plain Refused) i = i
log_status (Plain Usage) i = i

-- ---- what is said of it

pub say_fault : (rose : Type 0) (left old new said_old said_new : Option Text) (message : Text) → TellsFault left old new message → Says rose said_old said_new message
    → (number : ℕ) × (why : Why) × ReportsFault left old new number why × Says rose said_old said_new (bad_log_text number why)
say_fault rose left old new said_old said_new message t s = (t.0, t.1, t.3, subst (Says rose said_old said_new) t.2 s)

pub say_named : (rose : Type 0) (left said_old said_new : Option Text) (message : Text) → NamesFault left message → Says rose said_old said_new message
    → (number : ℕ) × (why : Why) × IsFaulty left number why × Says rose said_old said_new (bad_log_text number why)
say_named rose left said_old said_new message t s = (t.0, t.1, t.3, subst (Says rose said_old said_new) t.2 s)
