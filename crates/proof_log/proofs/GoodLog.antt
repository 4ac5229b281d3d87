-- The log of a run with fit marks and an end is good.
use Rattle.std.proofs.Common.{◌≡◌, ℕ, suc, ◌+◌, ◌≤◌, true, false, not, ◌&&◌, ◌==◌, List, [], ◌∷◌, ◌++◌, length, map, refl, sym, ap, ◌∙◌, subst, append_assoc, append-nil, arith, string_bytes, nat_lt}
use Rattle.std.specs.List.{list_all}
use Rattle.std.proofs.lemmas.Bool.{and_parts, and_from, not-true}
use Rattle.std.proofs.lemmas.Bool.Decides.{nat_tests}
use Rattle.std.proofs.lemmas.List.Elements.{All-head}
use Rattle.hol_terms.specs.Text.{Text}
use Rattle.hol_terms.specs.Sound.{lines_after, complete_lines}
use Rattle.hol_terms.specs.declared.defs.Def.{Def}
use Rattle.hol_kernel.specs.State.{State}
use Rattle.hol_kernel.specs.Run.{IsRun}
use Rattle.hol_kernel.specs.declared.step.Step.{Step}
use Rattle.hol_logs.specs.Line.{LogLine, line_first, line_text}
use Rattle.hol_logs.specs.Position.{LogPosition, start_position, after, report_of}
use Rattle.hol_logs.specs.Log.{unended_after, unended, line_unless_empty, log_lines, unlines, Reads, no_line, one_more, IsGoodLog, good_log}
use Rattle.log_laws.proofs.Lines.{is_line}
use Rattle.log_laws.proofs.Reports.{reads_conservative}
use Rattle.proof_log.specs.declared.marks.Mark.{Mark}
use Rattle.proof_log.specs.declared.marks.End.{End}
use Rattle.proof_log.specs.declared.marks.End.TheVariants.{Done, Stop}
use Rattle.proof_log.specs.Lines.{end_line}
use Rattle.proof_log.specs.Marks.{IsPlace, IsFitEnd, AreFitFrom, AreFit}
use Rattle.proof_log.specs.Written.{steps_from, body, log_of, text_of, said_by, report_text}
use Rattle.proof_log.proofs.Good.{after_all, AllGood, Leads, leads_append, leads_to, lines_counted, reads_on}
use Rattle.proof_log.proofs.GoodLines.{standing, over, first_leads, end_leads, stop_leads}
use Rattle.proof_log.proofs.Fronts.{whole_front}
use Rattle.proof_log.proofs.Places.{all_later}
use Rattle.proof_log.proofs.Runs.{AreGiven, nothing, reaches}
use Rattle.proof_log.proofs.OneLine.{line_is_line}

-- ---- lines are read back

line_read : (read bs rest : Text) → is_line bs ≡ true → lines_after read ((bs ++ 10 ∷ []) ++ rest) ≡ (read ++ bs) ∷ lines_after [] rest
line_read read [] rest h = ap (λ l. l ∷ lines_after [] rest) (sym (append-nil read))
line_read read (b ∷ bs) rest h =
    let p = and_parts (not (b == 10)) (is_line bs) h in
    rw (not-true (b == 10) p.0) (line_read (read ++ b ∷ []) bs rest p.1 ∙ ap (λ l. l ∷ lines_after [] rest) (append_assoc read (b ∷ []) bs))

lines_read : (ls : List Text) → list_all is_line ls ≡ true → complete_lines (unlines ls) ≡ ls
lines_read [] h = refl
lines_read (l ∷ ls) h = let p = and_parts (is_line l) (list_all is_line ls) h in line_read [] l (unlines ls) p.0 ∙ ap (λ ms. l ∷ ms) (lines_read ls p.1)

line_ended : (read bs rest : Text) → is_line bs ≡ true → unended_after read ((bs ++ 10 ∷ []) ++ rest) ≡ unended_after [] rest
line_ended read [] rest h = refl
line_ended read (b ∷ bs) rest h = let p = and_parts (not (b == 10)) (is_line bs) h in rw (not-true (b == 10) p.0) (line_ended (read ++ b ∷ []) bs rest p.1)

lines_ended : (ls : List Text) → list_all is_line ls ≡ true → unended (unlines ls) ≡ []
lines_ended [] h = refl
lines_ended (l ∷ ls) h = let p = and_parts (is_line l) (list_all is_line ls) h in line_ended [] l (unlines ls) p.0 ∙ lines_ended ls p.1

log_read : (ls : List Text) → list_all is_line ls ≡ true → log_lines (unlines ls) ≡ ls
log_read ls h = (λ i. lines_read ls h i ++ line_unless_empty (lines_ended ls h i)) ∙ append-nil ls

-- ---- good lines are lines

all_lines : (n : ℕ) (texts said : List Text) (p : LogPosition) (ls : List LogLine) → Reads n texts p said → AllGood n p ls → list_all is_line (map line_text ls) ≡ true
all_lines n texts said p [] r h = refl
all_lines n texts said p (l ∷ ls) r h =
    and_from (is_line (line_text l)) (list_all is_line (map line_text ls)) (line_is_line p.defs l (reads_conservative n texts p said r) h.0.form.over)
    (all_lines n (texts ++ line_text l ∷ []) (said ++ report_of p l) (after p l) ls (one_more texts said p (line_text l) l r h.0) h.1)

ended : (p : LogPosition) (b : Text) → p.is_over ≡ true → unended b ≡ [] → (p.is_over && (length (unended b) == 0)) ≡ true
ended p b o e = λ i. o i && (length (e i) == 0)

-- lines that lead from the start to a position behind a last line are a good log
good_from : (n : ℕ) (ls : List LogLine) (q : LogPosition) → Leads n start_position ls q → q.is_over ≡ true → IsGoodLog n (text_of ls) (report_text ls)
good_from n ls q h o =
    let lines = all_lines n [] [] start_position ls no_line h.good in
    let reads = reads_on n [] [] start_position ls no_line h.good in
    good_log (after_all start_position ls) (said_by start_position ls) (subst (λ ts. Reads n ts (after_all start_position ls) (said_by start_position ls)) (sym (log_read (map line_text ls) lines)) reads)
    (ended (after_all start_position ls) (text_of ls) (ap (λ p. p.is_over) h.behind ∙ o) (lines_ended (map line_text ls) lines))

-- ---- the whole log

end_leads_over : (n : ℕ) (k : State) (count m : ℕ) (end : End) → m ≡ suc count → IsFitEnd end → Leads n (standing k count true) (end_line m end ∷ []) (over k count)
end_leads_over n k count m Done e h = end_leads n k count m e
end_leads_over n k count m (Stop test name place) e h = stop_leads n k count m (string_bytes test) (string_bytes name) place e h.0 h.1

reached : (a b : ℕ) → a ≤ b → nat_lt a (suc b) ≡ true
reached a b h = grind (arith, nat_tests)

pub good_with : (n : ℕ) (ds : List Def) (ss : List Step) (k : State) (first : Mark) (others : List Mark) (end : End) → IsRun ds ss k → AreFitFrom n k first others end
    → IsGoodLog n (text_of (log_of k ds ss (first ∷ others) end)) (report_text (log_of k ds ss (first ∷ others) end))
good_with n ds ss k first others end r fit =
    let marks = first ∷ others in
    let place : IsPlace ss first.at = All-head (λ m. IsPlace ss m.at) first others (fit.placed ds ss r) in
    let given : AreGiven n k ss first others = record { based = fit.based; said = fit.said; later = all_later first.at first.at others (omega arith) fit.ordered; placed = fit.placed ds ss r; exact = fit.exact ds ss r } in
    let run = reaches n k ds ss first others ds ss k given (whole_front ds ss k) r in
    let b = nat_lt first.at (suc (length ss)) in
    let lines = body k ds ss marks in
    let front : Leads n start_position lines (standing k run.total b) = leads_append n start_position (standing nothing 0 false) (standing k run.total b) (line_first ∷ []) (steps_from k ds marks 0 ss) (first_leads n) run.leads in
    let based : Leads n start_position lines (standing k run.total true) = leads_to n start_position (standing k run.total b) (standing k run.total true) lines (ap (standing k run.total) (reached first.at (length ss) place.within)) front in
    let counted : length lines ≡ suc run.total = let m = lines_counted start_position lines in let e = ap (λ p. p.lines) based.behind in counts _ _ _ m e in
    let last = end_leads_over n k run.total (length lines) end counted fit.ended in
    good_from n (log_of k ds ss marks end) (over k run.total) (leads_append n start_position (standing k run.total true) (over k run.total) lines (end_line (length lines) end ∷ []) based last) refl
  where
    counts : (a m c : ℕ) → a ≡ 0 + m → a ≡ c → m ≡ c
    counts a m c e f = omega arith

pub good : (n : ℕ) (ds : List Def) (ss : List Step) (k : State) (marks : List Mark) (end : End) → IsRun ds ss k → AreFit n k marks end
    → IsGoodLog n (text_of (log_of k ds ss marks end)) (report_text (log_of k ds ss marks end))
good n ds ss k [] end r fit = absurd fit
good n ds ss k (first ∷ others) end r fit = good_with n ds ss k first others end r fit
