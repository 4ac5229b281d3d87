-- What a log comes to once its lines were fed.
use Rattle.std.proofs.Common.{◌≡◌, ◌≢◌, ℕ, suc, ◌<◌, ◌^◌, Bool, true, false, not, ◌&&◌, ◌==◌, [], ◌∷◌, ◌++◌, length, take, drop, inl, inr, Option, refl, sym, ap, ◌∙◌, subst, append-nil, arith, true≢false}
use Rattle.std.specs.Prelude.{Result, Ok, Err, OnOk}
use Rattle.std.proofs.lemmas.Bool.{cases_lt}
use Rattle.std.proofs.lemmas.List.{length-append, length-take-le, take-append-drop, take_all}
use Rattle.hb_io.proofs.ToldLemmas.{append_told-nil}
use Rattle.hol_terms.specs.Text.{Text}
use Rattle.hol_terms.specs.Sound.{complete_lines}
use Rattle.hol_logs.specs.Position.{LogPosition, start_position, Why, by_cut}
use Rattle.hol_logs.specs.Log.{unended, line_unless_empty, log_lines, unlines, is_ended, Reads, no_line, good_log, IsBadLog, bad_line, cut_off, IsPartOfReport}
use Rattle.replay_check.specs.declared.why.Why.{Why as Cause}
use Rattle.replay_check.specs.declared.why.Why.TheVariants.{Form, Number, Rule, Unfit, Base, Text as Statement, Count, Cut, Endless}
use Rattle.replay_check.specs.Checked.{CheckerState}
use Rattle.base_count.specs.InForce.{in_force}
use Rattle.log_replay.specs.declared.replay.ReplayError.{ReplayError}
use Rattle.log_replay.specs.declared.replay.ReplayError.TheVariants.{BadLog, WriteFault, Memory}
use Rattle.log_replay.specs.Replayed.{IsEndless, IsFaultOf, GainsReport, GainsFaultReport, GainsPart, IfBadLog, IfCut}
use Rattle.log_replay.specs.Lines.{IsAfter, IsFedLine, IsStopped, IsClosed}
use Rattle.log_replay.proofs.Texts.{more_lines, lines_begin}
use Rattle.log_replay.proofs.Feeding.{reads_count, bad_in, part_in}

-- ---- without bytes behind the last newline

lines_ended : (b : Text) → unended b ≡ [] → log_lines b ≡ complete_lines b
lines_ended b e = ap (λ u. complete_lines b ++ line_unless_empty u) e ∙ append-nil (complete_lines b)

ended : (b : Text) (p : LogPosition) → unended b ≡ [] → p.is_over ≡ true → is_ended b p ≡ true
ended b p e h = rw (h, e) refl

not_over : (b : Text) (p : LogPosition) → p.is_over ≡ false → not (is_ended b p) ≡ true
not_over b p h = rw h refl

pub good : (b : Text) (s : CheckerState) (old new : Option Text) → unended b ≡ [] → s.position.is_over ≡ true → IsAfter (complete_lines b) s old new → GainsReport b old new
good b s old new e h a = record {
  report = unlines a.said;
  good = good_log s.position a.said (subst (λ ls. Reads in_force ls s.position a.said) (sym (lines_ended b e)) a.read) (ended b s.position e h);
  gained = a.gained;
}

cut_log : (b : Text) (s : CheckerState) (old new : Option Text) (number : ℕ) → not (is_ended b s.position) ≡ true → number ≡ suc s.position.lines → IsAfter (log_lines b) s old new → GainsFaultReport b old new number Cut
cut_log b s old new number h n a = record {
  report = unlines a.said;
  fault = subst (λ k. IsBadLog in_force b (unlines a.said) k by_cut) (sym (n ∙ ap suc (reads_count in_force (log_lines b) s.position a.said a.read))) (cut_off s.position a.said a.read h);
  gained = a.gained;
}

pub unfinished : (b : Text) (s : CheckerState) (old new : Option Text) (number : ℕ) → unended b ≡ [] → s.position.is_over ≡ false → number ≡ suc s.position.lines → IsAfter (complete_lines b) s old new → GainsFaultReport b old new number Cut
unfinished b s old new number e h n a = cut_log b s old new number (not_over b s.position h) n (subst (λ ls. IsAfter ls s old new) (sym (lines_ended b e)) a)

-- ---- with some

one_line : (u : Text) → u ≢ [] → line_unless_empty u ≡ u ∷ []
one_line [] h = absurd (h refl)
one_line (x ∷ u) h = refl

lines_unended : (b rest : Text) → rest ≡ unended b → rest ≢ [] → log_lines b ≡ complete_lines b ++ rest ∷ []
lines_unended b rest e h = ap (λ u. complete_lines b ++ line_unless_empty u) (sym e) ∙ ap (λ ls. complete_lines b ++ ls) (one_line rest h)

not_none : (n : ℕ) → (suc n == 0) ≡ false
not_none n = grind arith

pub none_left : (xs : Text) (b : Bool) → b ≡ (length xs == 0) → b ≡ true → xs ≡ []
none_left [] b e t = refl
none_left (x ∷ xs) b e t = let f : b ≡ false = e ∙ not_none (length xs) in absurd (true≢false (sym t ∙ f))

pub some_left : (xs : Text) (b : Bool) → b ≡ (length xs == 0) → b ≡ false → xs ≢ []
some_left [] b e f = absurd (true≢false (sym e ∙ f))
some_left (x ∷ xs) b e f = λ h. cc

never_ended : (o : Bool) (u : Text) → u ≢ [] → not (o && (length u == 0)) ≡ true
never_ended o [] h = absurd (h refl)
never_ended true (x ∷ u) h = rw (not_none (length u)) refl
never_ended false (x ∷ u) h = refl

pub unended_cut : (b rest : Text) (s : CheckerState) (old new : Option Text) (number : ℕ) → rest ≡ unended b → rest ≢ [] → number ≡ suc s.position.lines → IsAfter (complete_lines b ++ rest ∷ []) s old new → GainsFaultReport b old new number Cut
unended_cut b rest s old new number e h n a =
    cut_log b s old new number (never_ended s.position.is_over (unended b) (subst (λ u. u ≢ []) e h)) n (subst (λ ls. IsAfter ls s old new) (sym (lines_unended b rest e h)) a)

pub last_line_stops : (X Y : Type 0) (b rest : Text) (s : CheckerState) (old new : Option Text) (e : ReplayError) → rest ≡ unended b → rest ≢ [] → IsFedLine {X = X} (complete_lines b) rest s old new (Err e) → IsClosed {X = Y} b old new (Err e)
last_line_stops X Y b rest s old new (BadLog number why) e h f = bad_in b (complete_lines b) [] rest old new number why (lines_unended b rest e h) f
last_line_stops X Y b rest s old new WriteFault e h f = part_in b (complete_lines b ++ rest ∷ []) [] old new (lines_unended b rest e h ∙ sym (append-nil (complete_lines b ++ rest ∷ []))) f
last_line_stops X Y b rest s old new Memory e h f = part_in b (complete_lines b ++ rest ∷ []) [] old new (lines_unended b rest e h ∙ sym (append-nil (complete_lines b ++ rest ∷ []))) f

-- ---- the whole log, of which the first 2^62 bytes are given

with_more : (given b : Text) → given ≡ take (2 ^ 62) b → given ++ drop (2 ^ 62) b ≡ b
with_more given b e = ap (λ g. g ++ drop (2 ^ 62) b) e ∙ take-append-drop (2 ^ 62) b

whole : (given b : Text) → given ≡ take (2 ^ 62) b → length given < 2 ^ 62 → given ≡ b
whole given b e h =
    elim (cases_lt (length b) (2 ^ 62)) [
      | inl short ↦ e ∙ take_all (2 ^ 62) b (omega arith)
      | inr long ↦ (let size = length-take-le (2 ^ 62) b long in let same = ap length e in absurd (omega arith))
    ]

pub endless : (given b : Text) (s : CheckerState) (old new : Option Text) (number : ℕ) → given ≡ take (2 ^ 62) b → length given ≡ 2 ^ 62 → number ≡ suc s.position.lines → IsAfter (complete_lines given) s old new → GainsFaultReport b old new number Endless
endless given b s old new number e l n a = record {
  report = unlines a.said;
  fault = record {
    position = s.position;
    said = a.said;
    long = let whole = length-append given (drop (2 ^ 62) b) in let same = ap length (with_more given b e) in omega arith;
    read = subst (λ g. Reads in_force (complete_lines g) s.position a.said) e a.read;
    report_is = refl;
    number_is = n ∙ ap suc (reads_count in_force (complete_lines given) s.position a.said a.read) ∙ ap (λ g. suc (length (complete_lines g))) e;
  };
  gained = a.gained;
}

pub stopped_bad : (X Y : Type 0) (given b : Text) (old new : Option Text) (e : ReplayError) → given ≡ take (2 ^ 62) b → ((more : Text) → IsStopped {X = X} given more old new (Err e)) → IfBadLog {X = Y} (Err e) (GainsFaultReport b old new)
stopped_bad X Y given b old new (BadLog number why) e h = subst (λ c. GainsFaultReport c old new number why) (with_more given b e) (h (drop (2 ^ 62) b))
stopped_bad X Y given b old new WriteFault e h = tt
stopped_bad X Y given b old new Memory e h = tt

pub stopped_part : (X Y : Type 0) (given b : Text) (old new : Option Text) (e : ReplayError) → given ≡ take (2 ^ 62) b → ((more : Text) → IsStopped {X = X} given more old new (Err e)) → IfCut {X = Y} (Err e) (GainsPart b old new)
stopped_part X Y given b old new (BadLog number why) e h = tt
stopped_part X Y given b old new WriteFault e h = subst (λ c. GainsPart c old new) (with_more given b e) (h (drop (2 ^ 62) b))
stopped_part X Y given b old new Memory e h = subst (λ c. GainsPart c old new) (with_more given b e) (h (drop (2 ^ 62) b))

pub closed_good : {X : Type 0} (given b : Text) (old new : Option Text) (r : Result X ReplayError) → given ≡ take (2 ^ 62) b → length given < 2 ^ 62 → IsClosed given old new r → OnOk r (GainsReport b old new)
closed_good given b old new (Ok x) e l h = subst (λ c. GainsReport c old new) (whole given b e l) h
closed_good given b old new (Err x) e l h = tt

pub closed_bad : {X : Type 0} (given b : Text) (old new : Option Text) (r : Result X ReplayError) → given ≡ take (2 ^ 62) b → length given < 2 ^ 62 → IsClosed given old new r → IfBadLog r (GainsFaultReport b old new)
closed_bad given b old new (Ok x) e l h = tt
closed_bad given b old new (Err (BadLog number why)) e l h = subst (λ c. GainsFaultReport c old new number why) (whole given b e l) h
closed_bad given b old new (Err WriteFault) e l h = tt
closed_bad given b old new (Err Memory) e l h = tt

pub closed_part : {X : Type 0} (given b : Text) (old new : Option Text) (r : Result X ReplayError) → given ≡ take (2 ^ 62) b → length given < 2 ^ 62 → IsClosed given old new r → IfCut r (GainsPart b old new)
closed_part given b old new (Ok x) e l h = tt
closed_part given b old new (Err (BadLog number why)) e l h = tt
closed_part given b old new (Err WriteFault) e l h = subst (λ c. GainsPart c old new) (whole given b e l) h
closed_part given b old new (Err Memory) e l h = subst (λ c. GainsPart c old new) (whole given b e l) h

-- nothing was written
pub nothing_reported : (b : Text) → IsPartOfReport in_force b []
nothing_reported b = record { texts = []; rest = log_lines b; position = start_position; said = []; more = []; lines = refl; read = no_line; begins = refl }

pub nothing_written : (b : Text) (o : Option Text) → GainsPart b o o
nothing_written b o = record { out = []; part = nothing_reported b; gained = sym (append_told-nil o) }

-- ---- a report up to the first bad line is a part of the log's

lines_of_front : (b : Text) → log_lines b ≡ complete_lines (take (2 ^ 62) b) ++ more_lines (take (2 ^ 62) b) (drop (2 ^ 62) b)
lines_of_front b = ap log_lines (sym (take-append-drop (2 ^ 62) b)) ∙ lines_begin (take (2 ^ 62) b) (drop (2 ^ 62) b)

endless_part : (b report : Text) (number : ℕ) → IsEndless b report number → IsPartOfReport in_force b report
endless_part b report number f = record {
  texts = complete_lines (take (2 ^ 62) b);
  rest = more_lines (take (2 ^ 62) b) (drop (2 ^ 62) b);
  position = f.position;
  said = f.said;
  more = [];
  lines = lines_of_front b;
  read = f.read;
  begins = append-nil report ∙ f.report_is;
}

bad_part : (b report : Text) (number : ℕ) (why : Why) → IsBadLog in_force b report number why → IsPartOfReport in_force b report
bad_part b report number why (bad_line texts rest said p text w e r bad) = record { texts = texts; rest = text ∷ rest; position = p; said = said; more = []; lines = e; read = r; begins = append-nil (unlines said) }
bad_part b report number why (cut_off p said r e) = record { texts = log_lines b; rest = []; position = p; said = said; more = []; lines = sym (append-nil (log_lines b)); read = r; begins = append-nil (unlines said) }

pub fault_part : (b report : Text) (number : ℕ) (why : Cause) → IsFaultOf b report number why → IsPartOfReport in_force b report
fault_part b report number Form f = bad_part b report number _ f
fault_part b report number Number f = bad_part b report number _ f
fault_part b report number Rule f = bad_part b report number _ f
fault_part b report number Unfit f = bad_part b report number _ f
fault_part b report number Base f = bad_part b report number _ f
fault_part b report number Statement f = bad_part b report number _ f
fault_part b report number Count f = bad_part b report number _ f
fault_part b report number Cut f = bad_part b report number _ f
fault_part b report number Endless f = endless_part b report number f

pub gains_part : (b : Text) (old new : Option Text) (number : ℕ) (why : Cause) → GainsFaultReport b old new number why → GainsPart b old new
gains_part b old new number why g = record { out = g.report; part = fault_part b g.report number why g.fault; gained = g.gained }
