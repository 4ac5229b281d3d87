-- Steps with the marks among them, mark by mark: the same lines.
use Rattle.std.proofs.Common.{◌≡◌, ℕ, zero, suc, ◌+◌, ◌-◌, ◌<◌, ◌≤◌, ◌==◌, false, List, [], ◌∷◌, ◌++◌, length, take, drop, refl, sym, ap, ◌∙◌, append_assoc, arith, eq-eqb}
use Rattle.std.specs.Prelude.{All}
use Rattle.std.proofs.lemmas.Bool.{ne_eqb}
use Rattle.std.proofs.lemmas.List.{drop-drop, length-drop}
use Rattle.std.proofs.lemmas.List.Elements.{All-nil, All-cons, All-head, All-tail}
use Rattle.hol_terms.specs.declared.defs.Def.{Def}
use Rattle.hol_kernel.specs.State.{State}
use Rattle.hol_kernel.specs.declared.step.Step.{Step}
use Rattle.proof_log.specs.declared.marks.Mark.{Mark}
use Rattle.proof_log.specs.Lines.{step_lines, mark_line}
use Rattle.proof_log.specs.Marks.{AreInOrder}
use Rattle.proof_log.specs.Written.{marks_at, steps_from}
use Rattle.proof_log.specs.Gained.{steps_lines, marked_lines}
use Rattle.proof_log.proofs.Places.{all_later}

unmarked : (k : State) (ds : List Def) (i : ℕ) (ss : List Step) → steps_from k ds [] i ss ≡ steps_lines ds ss
unmarked k ds i [] = refl
unmarked k ds i (s ∷ ss) = ap (λ ls. step_lines ds s ++ ls) (unmarked k ds (suc i) ss)

apart : (a b : ℕ) → b < a → (a == b) ≡ false
apart a b h = ne_eqb a b (λ e. omega arith)

before : (a b : ℕ) → a < b → (a == b) ≡ false
before a b h = ne_eqb a b (λ e. omega arith)

-- no mark stands below the first place
none_yet : (k : State) (i : ℕ) (marks : List Mark) → All (λ m. suc i ≤ m.at) marks → marks_at k marks i ≡ []
none_yet k i [] h = refl
none_yet k i (m ∷ ms) h = rw (apart m.at i (All-head (λ x. suc i ≤ x.at) m ms h)) (none_yet k i ms (All-tail (λ x. suc i ≤ x.at) m ms h))

all_above : (i j : ℕ) (marks : List Mark) → i ≤ j → All (λ m. j ≤ m.at) marks → All (λ m. i ≤ m.at) marks
all_above i j [] h a = All-nil (λ m. i ≤ m.at)
all_above i j (m ∷ ms) h a =
    let here : j ≤ m.at = All-head (λ x. j ≤ x.at) m ms a in
    let low : i ≤ m.at = omega arith in
    All-cons (λ x. i ≤ x.at) m ms low (all_above i j ms h (All-tail (λ x. j ≤ x.at) m ms a))

to_first : (k : State) (ds : List Def) (marks : List Mark) (i j : ℕ) (ss : List Step) → j ≤ length ss → All (λ m. i + j ≤ m.at) marks
    → steps_from k ds marks i ss ≡ steps_lines ds (take j ss) ++ steps_from k ds marks (i + j) (drop j ss)
to_first k ds marks i zero ss h a = let same : i ≡ i + 0 = omega arith in ap (λ n. steps_from k ds marks n ss) same
to_first k ds marks i (suc j) [] h a = absurd (omega arith)
to_first k ds marks i (suc j) (s ∷ ss) h a =
    let same : suc i + j ≡ i + suc j = omega arith in
    let nearer : All (λ m. suc i + j ≤ m.at) marks = all_above (suc i + j) (i + suc j) marks (omega arith) a in
    let none = none_yet k i marks (all_above (suc i) (i + suc j) marks (omega arith) a) in
    ap (λ ls. ls ++ step_lines ds s ++ steps_from k ds marks (suc i) ss) none
    ∙ ap (λ ls. step_lines ds s ++ ls) (to_first k ds marks (suc i) j ss (omega arith) nearer)
    ∙ sym (append_assoc (step_lines ds s) (steps_lines ds (take j ss)) (steps_from k ds marks (suc i + j) (drop j ss)))
    ∙ ap (λ n. (step_lines ds s ++ steps_lines ds (take j ss)) ++ steps_from k ds marks n (drop j ss)) same

passed : (k : State) (m : Mark) (ms : List Mark) (i : ℕ) → m.at < i → marks_at k (m ∷ ms) i ≡ marks_at k ms i
passed k m ms i h = rw (before m.at i h) refl

behind : (k : State) (ds : List Def) (m : Mark) (ms : List Mark) (i : ℕ) (ss : List Step) → m.at < i → steps_from k ds (m ∷ ms) i ss ≡ steps_from k ds ms i ss
behind k ds m ms i [] h = passed k m ms i h
behind k ds m ms i (s ∷ ss) h = λ j. passed k m ms i h j ++ step_lines ds s ++ behind k ds m ms (suc i) ss (omega arith) j

here : (k : State) (m : Mark) (ms : List Mark) → marks_at k (m ∷ ms) m.at ≡ mark_line k m.kind ∷ marks_at k ms m.at
here k m ms = rw (eq-eqb m.at m.at refl) refl

at_first : (k : State) (ds : List Def) (m : Mark) (ms : List Mark) (ss : List Step) → steps_from k ds (m ∷ ms) m.at ss ≡ mark_line k m.kind ∷ steps_from k ds ms m.at ss
at_first k ds m ms [] = here k m ms
at_first k ds m ms (s ∷ ss) = λ j. here k m ms j ++ step_lines ds s ++ behind k ds m ms (suc m.at) ss (omega arith) j

marked_from : (k : State) (ds : List Def) (ss : List Step) (i : ℕ) (marks : List Mark) → AreInOrder i marks → All (λ m. m.at ≤ length ss) marks → i ≤ length ss
    → steps_from k ds marks i (drop i ss) ≡ marked_lines k ds ss i marks
marked_from k ds ss i [] o a h = unmarked k ds i (drop i ss)
marked_from k ds ss i (m ∷ ms) o a h =
    let low = o.0 in
    let place : m.at ≤ length ss = All-head (λ x. x.at ≤ length ss) m ms a in
    let gap : i + (m.at - i) ≡ m.at = omega arith in
    let size = length-drop i ss in
    let later : All (λ x. i + (m.at - i) ≤ x.at) (m ∷ ms) = all_above (i + (m.at - i)) m.at (m ∷ ms) (omega arith) (all_later m.at m.at (m ∷ ms) (omega arith) (omega arith, o.1)) in
    to_first k ds (m ∷ ms) i (m.at - i) (drop i ss) (omega arith) later
    ∙ ap (λ xs. steps_lines ds (take (m.at - i) (drop i ss)) ++ steps_from k ds (m ∷ ms) (i + (m.at - i)) xs) (drop-drop (m.at - i) i ss)
    ∙ ap (λ n. steps_lines ds (take (m.at - i) (drop i ss)) ++ steps_from k ds (m ∷ ms) n (drop n ss)) gap
    ∙ ap (λ ls. steps_lines ds (take (m.at - i) (drop i ss)) ++ ls) (at_first k ds m ms (drop m.at ss))
    ∙ ap (λ ls. steps_lines ds (take (m.at - i) (drop i ss)) ++ (mark_line k m.kind ∷ ls)) (marked_from k ds ss m.at ms o.1 (All-tail (λ x. x.at ≤ length ss) m ms a) place)

pub marked_whole : (k : State) (ds : List Def) (ss : List Step) (marks : List Mark) → AreInOrder 0 marks → All (λ m. m.at ≤ length ss) marks → marked_lines k ds ss 0 marks ≡ steps_from k ds marks 0 ss
marked_whole k ds ss marks o a = sym (marked_from k ds ss 0 marks o a (omega arith))
