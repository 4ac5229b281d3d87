-- A whole log that is written: its first line, the steps with the marks, and its last line.
use Rattle.std.proofs.Common.{◌≡◌, ℕ, suc, ◌+◌, ◌≤◌, List, [], ◌∷◌, ◌++◌, length, codes, Option, Some, None, refl, sym, ap, ◌∙◌, subst, arith, slice_get}
use Rattle.std.specs.Prelude.{All, IsSome, IsSomeAnd}
use Rattle.std.proofs.lemmas.List.Elements.{All-cons, All-weaker}
use Rattle.hb_io.specs.Told.{Appends}
use Rattle.hol_terms.specs.Text.{Text}
use Rattle.hol_terms.specs.Sequent.{Sequent}
use Rattle.hol_terms.specs.declared.defs.Def.{Def}
use Rattle.hol_kernel.specs.State.{State}
use Rattle.hol_kernel.specs.Run.{IsRun}
use Rattle.hol_kernel.specs.declared.step.Step.{Step}
use Rattle.hol_logs.specs.Line.{LogLine, line_first, line_text}
use Rattle.proof_log.specs.declared.marks.Mark.{Mark}
use Rattle.proof_log.specs.declared.marks.MarkKind.{MarkKind}
use Rattle.proof_log.specs.declared.marks.MarkKind.TheVariants.{Base, Section, Name}
use Rattle.proof_log.specs.declared.marks.End.{End}
use Rattle.proof_log.specs.Lines.{end_line, NamesStep}
use Rattle.proof_log.specs.Marks.{IsPlace, IsFitKind, IsFitMark, AreInOrder, AreFit}
use Rattle.proof_log.specs.Written.{steps_from, body, log_of, text_of}
use Rattle.proof_log.specs.Gained.{AppendsFront, marked_lines, GainsLog}
use Rattle.proof_log.proofs.GoodLog.{good}
use Rattle.proof_log.proofs.Marked.{marked_whole}
use Rattle.proof_log.proofs.Writing.{Progress, start, advance, front, finished, line_is}

-- ---- what fit marks meet

pub fit_ordered : (n : ℕ) (k : State) (marks : List Mark) (end : End) → AreFit n k marks end → AreInOrder 0 marks
fit_ordered n k [] end h = absurd h
fit_ordered n k (m ∷ ms) end h = (omega arith, h.ordered)

pub fit_placed : (n : ℕ) (k : State) (marks : List Mark) (end : End) (ds : List Def) (ss : List Step) → AreFit n k marks end → IsRun ds ss k → All (λ m. m.at ≤ length ss) marks
fit_placed n k [] end ds ss h r = absurd h
fit_placed n k (m ∷ ms) end ds ss h r = All-weaker (λ x. IsPlace ss x.at) (λ x. x.at ≤ length ss) (λ x p. p.within) (m ∷ ms) (h.placed ds ss r)

is_there : (o : Option Sequent) → IsSomeAnd o (λ a. a.hyps ≡ []) → IsSome o
is_there None h = absurd h
is_there (Some a) h = refl

kind_names : (k : State) (at : ℕ) (kind : MarkKind) → IsFitKind k at kind → NamesStep k kind
kind_names k at (Base m) h = absurd h
kind_names k at (Section text) h = tt
kind_names k at (Name name i) h = is_there (slice_get k.steps i) h.2

pub fit_named : (n : ℕ) (k : State) (marks : List Mark) (end : End) → AreFit n k marks end → All (λ m. NamesStep k m.kind) marks
fit_named n k [] end h = absurd h
fit_named n k (m ∷ ms) end h =
    All-cons (λ x. NamesStep k x.kind) m ms (subst (NamesStep k) (sym h.based) tt) (All-weaker (IsFitMark k) (λ x. NamesStep k x.kind) (λ x f. kind_names k x.at x.kind f) ms h.said)

-- ---- the three parts

pub first_front : (old now : Option Text) (k : State) (ds : List Def) (ss : List Step) (marks : List Mark) (end : End) (line : Text) → line ≡ codes "hbnf-log 1" → AppendsFront old now (line ++ 10 ∷ []) → AppendsFront old now (text_of (log_of k ds ss marks end))
first_front old now k ds ss marks end line e f =
    front old old now 0 (log_of k ds ss marks end) (line_first ∷ []) (steps_from k ds marks 0 ss ++ end_line (length (body k ds ss marks)) end ∷ []) (start old (log_of k ds ss marks end)) (subst (AppendsFront old now) (line_is line_first line e) f)

pub first_written : (old now : Option Text) (k : State) (ds : List Def) (ss : List Step) (marks : List Mark) (end : End) (line : Text) → line ≡ codes "hbnf-log 1" → Appends old now (line ++ 10 ∷ [])
    → AreInOrder 0 marks → All (λ m. m.at ≤ length ss) marks
    → Progress old now 1 (log_of k ds ss marks end) (marked_lines k ds ss 0 marks ++ end_line (length (body k ds ss marks)) end ∷ [])
first_written old now k ds ss marks end line e w o a =
    let rest = end_line (length (body k ds ss marks)) end ∷ [] in
    let p = advance old old now 0 1 1 (log_of k ds ss marks end) (line_first ∷ []) (steps_from k ds marks 0 ss ++ rest) (start old (log_of k ds ss marks end)) (subst (Appends old now) (line_is line_first line e) w) refl refl in
    subst (λ ls. Progress old now 1 (log_of k ds ss marks end) (ls ++ rest)) (sym (marked_whole k ds ss marks o a)) p

pub last_front : (old mid now : Option Text) (count n : ℕ) (k : State) (ds : List Def) (ss : List Step) (marks : List Mark) (end : End) (line : Text)
    → Progress old mid count (log_of k ds ss marks end) (end_line (length (body k ds ss marks)) end ∷ []) → n ≡ length (body k ds ss marks) → line ≡ line_text (end_line n end)
    → AppendsFront mid now (line ++ 10 ∷ []) → AppendsFront old now (text_of (log_of k ds ss marks end))
last_front old mid now count n k ds ss marks end line p c e f =
    let last = end_line (length (body k ds ss marks)) end in
    front old mid now count (log_of k ds ss marks end) (last ∷ []) [] p (subst (AppendsFront mid now) (line_is last line (e ∙ ap (λ m. line_text (end_line m end)) c)) f)

pub last_written : (old mid now : Option Text) (count n : ℕ) (k : State) (ds : List Def) (ss : List Step) (marks : List Mark) (end : End) (line : Text)
    → Progress old mid count (log_of k ds ss marks end) (end_line (length (body k ds ss marks)) end ∷ []) → n ≡ length (body k ds ss marks) → line ≡ line_text (end_line n end)
    → Appends mid now (line ++ 10 ∷ []) → Appends old now (text_of (log_of k ds ss marks end))
last_written old mid now count n k ds ss marks end line p c e w =
    let last = end_line (length (body k ds ss marks)) end in
    let whole = advance old mid now count 1 (count + 1) (log_of k ds ss marks end) (last ∷ []) [] p (subst (Appends mid now) (line_is last line (e ∙ ap (λ m. line_text (end_line m end)) c)) w) refl refl in
    (finished old now (count + 1) (log_of k ds ss marks end) whole).0

-- the count that the last line has
pub counted_whole : (count : ℕ) (k : State) (ds : List Def) (ss : List Step) (marks : List Mark) → AreInOrder 0 marks → All (λ m. m.at ≤ length ss) marks → count ≡ length (marked_lines k ds ss 0 marks) → count + 1 ≡ length (body k ds ss marks)
counted_whole count k ds ss marks o a e =
    let same : length (marked_lines k ds ss 0 marks) ≡ length (steps_from k ds marks 0 ss) = ap (λ (ls : List LogLine). length ls) (marked_whole k ds ss marks o a) in
    more count (length (steps_from k ds marks 0 ss)) (e ∙ same)
  where
    more : (m l : ℕ) → m ≡ l → m + 1 ≡ suc l
    more m l h = omega arith

pub gains_log : (n : ℕ) (k : State) (marks : List Mark) (end : End) (old new : Option Text) (ds : List Def) (ss : List Step) → AreFit n k marks end → IsRun ds ss k → Appends old new (text_of (log_of k ds ss marks end)) → GainsLog n k marks end old new
gains_log n k marks end old new ds ss h r w = record { defs = ds; steps = ss; run = r; gained = w; good = good n ds ss k marks end r h }
