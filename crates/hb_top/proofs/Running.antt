-- From what was read and written to what the program promises.
use Rattle.std.proofs.Common.{◌≡◌, ℕ, ◌+◌, ◌≤◌, Bool, true, false, [], ◌++◌, length, take, drop, Option, Some, None, refl, sym, ap, ◌∙◌, subst, append-nil, inl, inr, arith}
use Rattle.std.proofs.lemmas.Bool.{cases_lt}
use Rattle.std.proofs.lemmas.List.{take_all, drop_all}
use Rattle.std.proofs.Math.Seq.{take-append_seam, drop-append_seam}
use Rattle.std.specs.Io.KnownBytes.{IsAtEnd}
use Rattle.hb_io.specs.Told.{Takes, Appends, AppendsPart, append_told, prepend_told}
use Rattle.hb_io.proofs.ToldLemmas.{prepend_told-None, prepend_told-Some, append_told-Some}
use Rattle.hol_terms.specs.Text.{Text}
use Rattle.hol_terms.specs.Base.{base}
use Rattle.hol_terms.specs.Sound.{IsSound}
use Rattle.base_count.specs.InForce.{in_force}
use Rattle.theory_answers.specs.Answer.{limit}
use Rattle.theory_answers.specs.Answered.{IsCheck, IsDecided, IsLog}
use Rattle.theory_answers.specs.Theories.{GainsLogOf, GainsPartOf}
use Rattle.hb_top.specs.Headline.{IfAnswered, Answers, LogsAnswers, Leaves, IfCut, AnswersInPart, IsLogPart, nothing, front, LogsInPart, GainsSound, IsGoodPart, no_bytes, some_bytes, GainsGoodPart, IsPrinting, IsWriting}
use Rattle.hb_top.specs.Replaying.{ReportsInPart}
use Rattle.log_replay.proofs.Closing.{nothing_reported}
use Rattle.hb_top.specs.declared.top.Status.{Status}
use Rattle.hb_top.specs.declared.top.Status.TheVariants.{Done, Refused, Usage, ReadFault, WriteFault, Memory, BadLog}
use Rattle.theory_answers.proofs.Checking.{check_front}
use Rattle.theory_answers.proofs.Parts.{part_of, no_part}

-- what holds of an answered status goes over to what follows from it
answered_maps : (s : Status) (P Q : Bool → Type 0) → ((refused : Bool) → P refused → Q refused) → IfAnswered s P → IfAnswered s Q
answered_maps Done P Q f h = f false h
answered_maps Refused P Q f h = f true h
answered_maps Usage P Q f h = tt
answered_maps ReadFault P Q f h = tt
answered_maps WriteFault P Q f h = tt
answered_maps Memory P Q f h = tt
answered_maps BadLog P Q f h = tt

-- what was read of a source that tells its bytes
pub record Front (n : ℕ) (b input : Text) (new : Option Text) : Type 0 where
  pub front : input ≡ take (n + 1) b
  pub left : new ≡ Some (drop (n + 1) b)

no_bytes_told : (input b : Text) → Some b ≡ prepend_told input None → ⊥
no_bytes_told input b e = let f : Some b ≡ None = e ∙ prepend_told-None input in cc

pub same_some : {A : Type 0} (x y : A) → Some x ≡ Some y → x ≡ y
same_some x y e = cc

split_at : (n : ℕ) (b input rest : Text) → b ≡ input ++ rest → length input ≤ n + 1 → (length input ≤ n → rest ≡ []) → Front n b input (Some rest)
split_at n b input rest e l whole =
    elim (cases_lt n (length input)) [
      | inl long ↦ (let k : n + 1 ≡ length input = omega arith in record {
        front = sym (ap (λ m. take m b) k ∙ ap (λ c. take (length input) c) e ∙ take-append_seam input rest);
        left = ap (λ r. Some r) (sym (ap (λ m. drop m b) k ∙ ap (λ c. drop (length input) c) e ∙ drop-append_seam input rest));
      })
      | inr short ↦ (let z = whole short in let f : b ≡ input = e ∙ ap (λ r. input ++ r) z ∙ append-nil input in record {
        front = sym (ap (λ c. take (n + 1) c) f ∙ take_all (n + 1) input l);
        left = ap (λ r. Some r) (z ∙ sym (ap (λ c. drop (n + 1) c) f ∙ drop_all (n + 1) input l));
      })
    ]

pub front_is : (n : ℕ) (old new : Option Text) (input b : Text) → Takes old new input → length input ≤ n + 1 → (length input ≤ n → IsAtEnd new) → old ≡ Some b → Front n b input new
front_is n old None input b t l whole e = absurd (no_bytes_told input b (sym e ∙ t))
front_is n old (Some rest) input b t l whole e = split_at n b input rest (same_some b (input ++ rest) (sym e ∙ t ∙ prepend_told-Some input rest)) l whole

-- the facts of a run that came to printing
pub record Ran (left new_left : Option Text) (input out : Text) (refused : Bool) : Type 0 where
  pub taken : Takes left new_left input
  pub within : length input ≤ limit + 1
  pub whole : length input ≤ limit → IsAtEnd new_left
  pub output : IsCheck input out refused

checked : {left new_left : Option Text} {input out : Text} {refused : Bool} → Ran left new_left input out refused → (b : Text) → left ≡ Some b → IsCheck b out refused
checked {left} {new_left} {input} {out} {refused} r b e =
    let f = front_is limit left new_left input b r.taken r.within r.whole e in
    check_front b out refused (subst (λ c. IsCheck c out refused) f.front r.output)

pub run_checks : (s : Status) (old new : Option Text) {left new_left : Option Text} {input out : Text} {refused : Bool} → Ran left new_left input out refused
    → IfAnswered s (λ r. (refused ≡ r) × Appends old new out) → IfAnswered s (Answers left old new)
run_checks s old new {left} {new_left} {input} {out} {refused} ran =
    answered_maps s (λ r. (refused ≡ r) × Appends old new out) (Answers left old new)
    (λ r w. λ b e kept k. (out, w.1 ∙ ap (λ o. append_told o out) k ∙ append_told-Some kept out, subst (λ (q : Bool). IsCheck b out q) w.0 (checked ran b e)))

pub run_decides : (s : Status) (old new : Option Text) {left new_left : Option Text} {input out : Text} {refused : Bool} → Ran left new_left input out refused
    → IfAnswered s (λ r. (refused ≡ r) × Appends old new out) → IfAnswered s (λ r. (b : Text) → left ≡ Some b → IsDecided b r)
run_decides s old new {left} {new_left} {input} {out} {refused} ran =
    answered_maps s (λ r. (refused ≡ r) × Appends old new out) (λ r. (b : Text) → left ≡ Some b → IsDecided b r)
    (λ r w. λ b e. let c : IsCheck b out r = subst (λ (q : Bool). IsCheck b out q) w.0 (checked ran b e) in c.decided)

pub run_leaves : (s : Status) (old new : Option Text) {left new_left : Option Text} {input out : Text} {refused : Bool} → Ran left new_left input out refused
    → IfAnswered s (λ r. (refused ≡ r) × Appends old new out) → IfAnswered s (λ r. Leaves left new_left)
run_leaves s old new {left} {new_left} {input} {out} {refused} ran =
    answered_maps s (λ r. (refused ≡ r) × Appends old new out) (λ r. Leaves left new_left)
    (λ r w. λ b e. let f = front_is limit left new_left input b ran.taken ran.within ran.whole e in f.left)

-- ---- what stands where the output was cut short

pub same_kept : (kept : Text) (old : Option Text) → old ≡ Some kept → old ≡ Some (kept ++ [])
same_kept kept old k = k ∙ ap (λ (t : Text). Some t) (sym (append-nil kept))

pub unwritten_part : (left old : Option Text) → AnswersInPart left old old
unwritten_part left old = λ b e kept k. ([], same_kept kept old k, no_part b)

pub unwritten_sound : (old : Option Text) → GainsSound old old
unwritten_sound old = λ kept k. ([], same_kept kept old k, tt)

pub unwritten_log : (left old : Option Text) → LogsInPart left old old
unwritten_log left old = λ b e kept k. ([], same_kept kept old k, nothing)

pub unwritten_good : (old : Option Text) → GainsGoodPart old old
unwritten_good old = λ kept k. ([], same_kept kept old k, no_bytes)

pub unwritten_report : (left old : Option Text) → ReportsInPart left old old
unwritten_report left old = λ b e kept k. ([], same_kept kept old k, nothing_reported b)

pub ruleset unwritten_lemmas = (unwritten_part, unwritten_sound, unwritten_log, unwritten_good)

pub run_cut : (s : Status) (old new : Option Text) {left new_left : Option Text} {input out : Text} {refused : Bool} → Ran left new_left input out refused
    → IsPrinting s → (s ≡ WriteFault → AppendsPart old new out) → IfCut s (AnswersInPart left old new)
run_cut WriteFault old new {left} {new_left} {input} {out} {refused} ran p w = λ b e kept k.
    let a = w refl in
    (take a.0 out, a.2 ∙ ap (λ o. append_told o (take a.0 out)) k ∙ append_told-Some kept (take a.0 out), part_of b out refused a.0 (checked ran b e))
run_cut Memory old new ran p w = absurd p
run_cut Done old new ran p w = tt
run_cut Refused old new ran p w = tt
run_cut Usage old new ran p w = tt
run_cut ReadFault old new ran p w = tt
run_cut BadLog old new ran p w = absurd p

pub gains : (old new : Option Text) (out : Text) → Appends old new out → IsSound (base in_force) out → GainsSound old new
gains old new out a s = λ kept k. (out, a ∙ ap (λ o. append_told o out) k ∙ append_told-Some kept out, s)

pub run_sound : (s : Status) (old new : Option Text) {input out : Text} {refused : Bool} → IsCheck input out refused
    → IsPrinting s → IfAnswered s (λ r. (refused ≡ r) × Appends old new out) → (s ≡ WriteFault → AppendsPart old new out) → GainsSound old new
run_sound Done old new {input} {out} c p a w = gains old new out a.1 c.sound
run_sound Refused old new {input} {out} c p a w = gains old new out a.1 c.sound
run_sound WriteFault old new {input} {out} {refused} c p a w = let x = w refl in gains old new (take x.0 out) x.2 (part_of input out refused x.0 c).sound
run_sound Memory old new c p a w = absurd p
run_sound Usage old new c p a w = absurd p
run_sound ReadFault old new c p a w = absurd p
run_sound BadLog old new c p a w = absurd p

-- ---- logs

-- the facts of a run that came to writing a log
pub record Read (left new_left : Option Text) (input : Text) : Type 0 where
  pub taken : Takes left new_left input
  pub within : length input ≤ limit + 1
  pub whole : length input ≤ limit → IsAtEnd new_left

log_of_all : {left new_left : Option Text} {input log : Text} {refused : Bool} → Read left new_left input → IsLog input log refused → (b : Text) → left ≡ Some b → IsLog b log refused
log_of_all {left} {new_left} {input} {log} {refused} r l b e =
    let f = front_is limit left new_left input b r.taken r.within r.whole e in
    record { report = l.report; good = l.good; reports = check_front b l.report refused (subst (λ (c : Text). IsCheck c l.report refused) f.front l.reports) }

-- the sink has a log of the input
abbrev pub Writes : Text → Bool → Option Text → Option Text → Bool → Type 0
Writes input stops old new r = (stops ≡ r) × GainsLogOf input stops old new

pub run_logs : (s : Status) (old new : Option Text) {left new_left : Option Text} {input : Text} (stops : Bool) → Read left new_left input
    → IfAnswered s (Writes input stops old new) → IfAnswered s (LogsAnswers left old new)
run_logs s old new {left} {new_left} {input} stops read =
    answered_maps s (Writes input stops old new) (LogsAnswers left old new)
    (λ r w. λ b e kept k. let g = w.1 in (g.log, g.gained ∙ ap (λ o. append_told o g.log) k ∙ append_told-Some kept g.log, subst (λ (q : Bool). IsLog b g.log q) w.0 (log_of_all read g.answers b e)))

pub log_decides : (s : Status) (old new : Option Text) {left new_left : Option Text} {input : Text} (stops : Bool) → Read left new_left input
    → IfAnswered s (Writes input stops old new) → IfAnswered s (λ r. (b : Text) → left ≡ Some b → IsDecided b r)
log_decides s old new {left} {new_left} {input} stops read =
    answered_maps s (Writes input stops old new) (λ r. (b : Text) → left ≡ Some b → IsDecided b r)
    (λ r w. λ b e. let l : IsLog b w.1.log r = subst (λ (q : Bool). IsLog b w.1.log q) w.0 (log_of_all read w.1.answers b e) in l.reports.decided)

pub log_leaves : (s : Status) (old new : Option Text) {left new_left : Option Text} {input : Text} (stops : Bool) → Read left new_left input
    → IfAnswered s (Writes input stops old new) → IfAnswered s (λ r. Leaves left new_left)
log_leaves s old new {left} {new_left} {input} stops read =
    answered_maps s (Writes input stops old new) (λ r. Leaves left new_left)
    (λ r w. λ b e. let f = front_is limit left new_left input b read.taken read.within read.whole e in f.left)

whole_log : {left new_left : Option Text} {input : Text} {stops : Bool} (old new : Option Text) → Read left new_left input → GainsLogOf input stops old new → LogsInPart left old new
whole_log {left} {new_left} {input} {stops} old new read g = λ b e kept k.
    let all : take (length g.log) g.log ≡ g.log = take_all (length g.log) g.log (omega arith) in
    (g.log, g.gained ∙ ap (λ o. append_told o g.log) k ∙ append_told-Some kept g.log, subst (IsLogPart b) all (front g.log stops (length g.log) (log_of_all read g.answers b e)))

part_log : {left new_left : Option Text} {input : Text} (old new : Option Text) → Read left new_left input → GainsPartOf input old new → LogsInPart left old new
part_log {left} {new_left} {input} old new read g = λ b e kept k.
    let out = take g.gained.0 g.log in
    (out, g.gained.1 ∙ ap (λ o. append_told o out) k ∙ append_told-Some kept out, front g.log g.refused g.gained.0 (log_of_all read g.answers b e))

pub log_parts : (s : Status) (old new : Option Text) {left new_left : Option Text} {input : Text} (stops : Bool) → Read left new_left input
    → IsWriting s → IfAnswered s (Writes input stops old new) → IfCut s (GainsPartOf input old new) → LogsInPart left old new
log_parts Done old new stops read w a p = whole_log old new read a.1
log_parts Refused old new stops read w a p = whole_log old new read a.1
log_parts WriteFault old new stops read w a p = part_log old new read p
log_parts Memory old new stops read w a p = part_log old new read p
log_parts Usage old new stops read w a p = absurd w
log_parts ReadFault old new stops read w a p = absurd w
log_parts BadLog old new stops read w a p = absurd w

whole_good : {input : Text} {stops : Bool} (old new : Option Text) → GainsLogOf input stops old new → GainsGoodPart old new
whole_good old new g = λ kept k.
    let all : take (length g.log) g.log ≡ g.log = take_all (length g.log) g.log (omega arith) in
    (g.log, g.gained ∙ ap (λ o. append_told o g.log) k ∙ append_told-Some kept g.log, subst IsGoodPart all (some_bytes g.log g.answers.report (length g.log) g.answers.good g.answers.reports.sound))

part_good : {input : Text} (old new : Option Text) → GainsPartOf input old new → GainsGoodPart old new
part_good old new g = λ kept k.
    let out = take g.gained.0 g.log in
    (out, g.gained.1 ∙ ap (λ o. append_told o out) k ∙ append_told-Some kept out, some_bytes g.log g.answers.report g.gained.0 g.answers.good g.answers.reports.sound)

pub log_good : (s : Status) (old new : Option Text) (input : Text) (stops : Bool) → IsWriting s → IfAnswered s (Writes input stops old new) → IfCut s (GainsPartOf input old new) → GainsGoodPart old new
log_good Done old new input stops w a p = whole_good old new a.1
log_good Refused old new input stops w a p = whole_good old new a.1
log_good WriteFault old new input stops w a p = part_good old new p
log_good Memory old new input stops w a p = part_good old new p
log_good Usage old new input stops w a p = absurd w
log_good ReadFault old new input stops w a p = absurd w
log_good BadLog old new input stops w a p = absurd w
