-- The lines of a log byte by byte.
use Rattle.std.proofs.Common.{◌≡◌, ◌≢◌, ℕ, ◌+◌, ◌-◌, ◌<◌, ◌≤◌, ◌^◌, false, ◌==◌, [], ◌∷◌, ◌++◌, length, take, drop, get_or, Option, None, refl, sym, ap, ◌∙◌, subst, append_assoc, arith}
use Rattle.std.specs.Prelude.{Err, slice_range}
use Rattle.std.proofs.lemmas.List.{length-take-le, length-drop, take-append-drop, take_more, take_all, drop_all, drop-take, drop-append-le}
use Rattle.hol_terms.specs.Text.{Text}
use Rattle.hol_terms.specs.Sound.{complete_lines}
use Rattle.hol_logs.specs.Position.{start_position}
use Rattle.hol_logs.specs.Log.{unended, log_lines}
use Rattle.replay_check.specs.Checked.{CheckerState}
use Rattle.log_replay.specs.declared.replay.ReplayError.{ReplayError}
use Rattle.log_replay.specs.declared.replay.ReplayError.TheVariants.{BadLog, WriteFault, Memory}
use Rattle.log_replay.specs.Lines.{IsAfter, IsFedLine, IsStopped}
use Rattle.log_replay.proofs.Texts.{lines_with_newline, unended_with_newline, lines_with_byte, unended_with_byte, lines_count, more_lines, lines_begin}
use Rattle.log_replay.proofs.Feeding.{nothing_fed, bad_in, part_in, reads_count}
use Rattle.base_count.specs.InForce.{in_force}

-- the lines among the first bytes were fed, and the bytes from `start` on are behind them
pub record Standing (log : Text) (at start : ℕ) (s : CheckerState) (old now : Option Text) : Type 0 where
  pub fed : IsAfter (complete_lines (take at log)) s old now
  pub rest : drop start (take at log) ≡ unended (take at log)
  pub within : start ≤ at

pub begin : (log : Text) (s : CheckerState) (o : Option Text) → s ≡ record { position = start_position; failure = None } → Standing log 0 0 s o o
begin log s o e = record { fed = nothing_fed s o e; rest = refl; within = omega arith }

-- the bytes behind the last newline are the line that is fed
line_is : (log : Text) (at start : ℕ) → start ≤ at → drop start (take at log) ≡ slice_range log start at
line_is log at start h = let e : start + (at - start) ≡ at = omega arith in subst (λ n. drop start (take n log) ≡ take (at - start) (drop start log)) e (drop-take start (at - start) log)

taken : (log : Text) (at b : ℕ) → at < length log → get_or log at 0 ≡ b → take (at + 1) log ≡ take at log ++ b ∷ []
taken log at b h e = take_more log at 0 h ∙ ap (λ c. take at log ++ c ∷ []) e

pub few : (log : Text) (at start : ℕ) (s : CheckerState) (old now : Option Text) → Standing log at start s old now → at < length log → length log ≤ 2 ^ 62 → s.position.lines < 2 ^ 62
few log at start s old now t h l =
    let a = reads_count in_force _ _ _ t.fed.read in
    let b = lines_count [] (take at log) in
    let c = length-take-le at log (omega arith) in
    omega arith

next_lines : (log : Text) (at start : ℕ) → at < length log → get_or log at 0 ≡ 10 → start ≤ at → drop start (take at log) ≡ unended (take at log)
    → complete_lines (take at log) ++ slice_range log start at ∷ [] ≡ complete_lines (take (at + 1) log)
next_lines log at start h e w r = sym (ap complete_lines (taken log at 10 h e) ∙ lines_with_newline (take at log) ∙ ap (λ t. complete_lines (take at log) ++ t ∷ []) (sym r ∙ line_is log at start w))

pub newline : (log : Text) (at start : ℕ) (s t : CheckerState) (old mid now : Option Text) → Standing log at start s old mid → at < length log → get_or log at 0 ≡ 10 → IsAfter (complete_lines (take at log) ++ slice_range log start at ∷ []) t old now
    → Standing log (at + 1) (at + 1) t old now
newline log at start s t old mid now p h e a = record {
  fed = subst (λ ls. IsAfter ls t old now) (next_lines log at start h e p.within p.rest) a;
  rest = drop_all (at + 1) (take (at + 1) log) (let l = length-take-le (at + 1) log (omega arith) in omega arith) ∙ sym (ap unended (taken log at 10 h e) ∙ unended_with_newline (take at log));
  within = omega arith;
}

not_newline : (b : ℕ) → b ≢ 10 → (b == 10) ≡ false
not_newline b h = grind arith

pub byte : (log : Text) (at start : ℕ) (s : CheckerState) (old now : Option Text) → Standing log at start s old now → at < length log → get_or log at 0 ≢ 10 → Standing log (at + 1) start s old now
byte log at start s old now p h n =
    let b = get_or log at 0 in
    let e = taken log at b h refl in
    let f = not_newline b n in
    let size = length-take-le at log (omega arith) in
    let w = p.within in
    record {
      fed = subst (λ ls. IsAfter ls s old now) (sym (ap complete_lines e ∙ lines_with_byte (take at log) b f)) p.fed;
      rest = ap (drop start) e ∙ drop-append-le start (take at log) (b ∷ []) (omega arith) ∙ ap (λ t. t ++ b ∷ []) p.rest ∙ sym (ap unended e ∙ unended_with_byte (take at log) b f);
      within = omega arith;
    }

-- ---- where a line stopped the reading

splits : (log more : Text) (n : ℕ) → log ++ more ≡ take n log ++ (drop n log ++ more)
splits log more n = ap (λ b. b ++ more) (sym (take-append-drop n log)) ∙ append_assoc (take n log) (drop n log) more

lines_of : (log more : Text) (at start : ℕ) → at < length log → get_or log at 0 ≡ 10 → start ≤ at → drop start (take at log) ≡ unended (take at log)
    → log_lines (log ++ more) ≡ (complete_lines (take at log) ++ slice_range log start at ∷ []) ++ more_lines (take (at + 1) log) (drop (at + 1) log ++ more)
lines_of log more at start h e w r =
    ap log_lines (splits log more (at + 1)) ∙ lines_begin (take (at + 1) log) (drop (at + 1) log ++ more)
    ∙ ap (λ ls. ls ++ more_lines (take (at + 1) log) (drop (at + 1) log ++ more)) (sym (next_lines log at start h e w r))

pub stopped : (X Y : Type 0) (log more : Text) (at start : ℕ) (s t : CheckerState) (old mid now : Option Text) (e : ReplayError) → Standing log at start s old mid → at < length log → get_or log at 0 ≡ 10
    → IsFedLine {X = X} (complete_lines (take at log)) (slice_range log start at) t old now (Err e) → IsStopped {X = Y} log more old now (Err e)
stopped X Y log more at start s t old mid now (BadLog number why) p h e f =
    bad_in (log ++ more) (complete_lines (take at log)) (more_lines (take (at + 1) log) (drop (at + 1) log ++ more)) (slice_range log start at) old now number why
    (lines_of log more at start h e p.within p.rest ∙ append_assoc (complete_lines (take at log)) (slice_range log start at ∷ []) _) f
stopped X Y log more at start s t old mid now WriteFault p h e f = part_in (log ++ more) _ _ old now (lines_of log more at start h e p.within p.rest) f
stopped X Y log more at start s t old mid now Memory p h e f = part_in (log ++ more) _ _ old now (lines_of log more at start h e p.within p.rest) f

-- ---- where all were read

pub all_fed : (log : Text) (at start : ℕ) (s : CheckerState) (old now : Option Text) → Standing log at start s old now → length log ≤ at → IsAfter (complete_lines log) s old now
all_fed log at start s old now p h = subst (λ b. IsAfter (complete_lines b) s old now) (take_all at log h) p.fed

pub rest_is : (log : Text) (at start : ℕ) (s : CheckerState) (old now : Option Text) → Standing log at start s old now → length log ≤ at → drop start log ≡ unended log
rest_is log at start s old now p h = subst (λ b. drop start b ≡ unended b) (take_all at log h) p.rest

pub lines_within : (log : Text) (s : CheckerState) (old now : Option Text) → IsAfter (complete_lines log) s old now → s.position.lines ≤ length log
lines_within log s old now a = let n = reads_count in_force _ _ _ a.read in let m = lines_count [] log in omega arith

pub rest_from : (log : Text) (start : ℕ) → drop start log ≡ unended log → slice_range log start (length log) ≡ unended log
rest_from log start e = let l = length-drop start log in take_all (length log - start) (drop start log) (omega arith) ∙ e
