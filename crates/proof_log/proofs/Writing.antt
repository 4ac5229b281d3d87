-- What a sink gained while lines are written one after another.
use Rattle.std.proofs.Common.{◌≡◌, ℕ, zero, suc, ◌+◌, ◌-◌, ◌<◌, ◌≤◌, List, [], ◌∷◌, ◌++◌, length, map, get_or, take, drop, drop-cons, add-one, Option, Some, None, refl, sym, ap, ◌∙◌, subst, append_assoc, append-nil, arith, string_bytes, String}
use Rattle.std.specs.declared.alloc.Global.{Global}
use Rattle.std.proofs.lemmas.List.{length-append, take-append-drop, take_at, take_rest}
use Rattle.hb_io.specs.Told.{Appends, AppendsPart, append_told}
use Rattle.hb_io.proofs.ToldLemmas.{append_told-nil, append_told-append}
use Rattle.hol_terms.specs.Text.{Text}
use Rattle.hol_terms.specs.declared.defs.Def.{Def}
use Rattle.hol_kernel.specs.declared.step.Step.{Step}
use Rattle.hol_logs.specs.Line.{LogLine, line_text}
use Rattle.proof_log.specs.Lines.{step_lines, mark_line, IsLineOf}
use Rattle.hol_kernel.specs.State.{State}
use Rattle.hb_io.specs.Faults.{Rose}
use Rattle.std.specs.Prelude.{All, Result, Ok, Err}
use Rattle.std.proofs.lemmas.List.Elements.{All-get_or}
use Rattle.std.proofs.Common.{inl, inr, drop_of_length-le}
use Rattle.proof_log.specs.Written.{text_of}
use Rattle.proof_log.specs.declared.marks.Mark.{Mark}
use Rattle.proof_log.specs.declared.write.LogError.{LogError}
use Rattle.proof_log.specs.declared.write.LogError.TheVariants.{WriteFault, Memory}
use Rattle.proof_log.specs.Marks.{AreInOrder}
use Rattle.proof_log.specs.Gained.{AppendsFront, IfFault, steps_lines, marked_lines}

text_append : (a b : List LogLine) → text_of (a ++ b) ≡ text_of a ++ text_of b
text_append [] b = refl
text_append (l ∷ a) b = ap (λ t. (line_text l ++ 10 ∷ []) ++ t) (text_append a b) ∙ sym (append_assoc (line_text l ++ 10 ∷ []) (text_of a) (text_of b))

-- the first lines of the whole are written, of this count, and the rest is left
pub record Progress (old now : Option Text) (count : ℕ) (whole rest : List LogLine) : Type 0 where
  pub done : List LogLine
  pub splits : whole ≡ done ++ rest
  pub written : Appends old now (text_of done)
  pub counted : count ≡ length done

pub start : (old : Option Text) (whole : List LogLine) → Progress old old 0 whole whole
start old whole = record { done = []; splits = refl; written = sym (append_told-nil old); counted = refl }

pub advance : (old mid now : Option Text) (count n m : ℕ) (whole new rest : List LogLine) → Progress old mid count whole (new ++ rest) → Appends mid now (text_of new) → n ≡ length new → m ≡ count + n → Progress old now m whole rest
advance old mid now count n m whole new rest p w l e = record {
  done = p.done ++ new;
  splits = p.splits ∙ sym (append_assoc p.done new rest);
  written = w ∙ ap (λ o. append_told o (text_of new)) p.written ∙ sym (append_told-append old (text_of p.done) (text_of new)) ∙ ap (append_told old) (sym (text_append p.done new));
  counted = let size = length-append p.done new in let c = p.counted in omega arith;
}

-- a front behind a part that is written is a front of the whole
front_on : (old mid now : Option Text) (a b c whole : Text) → whole ≡ a ++ (b ++ c) → Appends old mid a → AppendsFront mid now b → AppendsFront old now whole
front_on old mid now a b c whole e w f =
    let part = take f.0 b in
    let split : whole ≡ (a ++ part) ++ (drop f.0 b ++ c) =
    e ∙ ap (λ x. a ++ (x ++ c)) (sym (take-append-drop f.0 b)) ∙ ap (λ x. a ++ x) (append_assoc part (drop f.0 b) c) ∙ sym (append_assoc a part (drop f.0 b ++ c)) in
    let front : take (length (a ++ part)) whole ≡ a ++ part = ap (take (length (a ++ part))) split ∙ take_at (a ++ part) (drop f.0 b ++ c) (length (a ++ part)) refl in
    (length (a ++ part), f.1 ∙ ap (λ o. append_told o part) w ∙ sym (append_told-append old a part) ∙ ap (append_told old) (sym front))

pub front : (old mid now : Option Text) (count : ℕ) (whole new rest : List LogLine) → Progress old mid count whole (new ++ rest) → AppendsFront mid now (text_of new) → AppendsFront old now (text_of whole)
front old mid now count whole new rest p f =
    front_on old mid now (text_of p.done) (text_of new) (text_of rest) (text_of whole) (ap text_of p.splits ∙ text_append p.done (new ++ rest) ∙ ap (λ t. text_of p.done ++ t) (text_append new rest)) p.written f

-- nothing more was written
pub unmoved : (o : Option Text) (text : Text) → AppendsFront o o text
unmoved o text = (0, sym (append_told-nil o))

pub stopped : (old now : Option Text) (count : ℕ) (whole rest : List LogLine) → Progress old now count whole rest → AppendsFront old now (text_of whole)
stopped old now count whole rest p = front old now now count whole [] rest p (unmoved now [])

pub finished : (old now : Option Text) (count : ℕ) (whole : List LogLine) → Progress old now count whole [] → Appends old now (text_of whole) × (count ≡ length whole)
finished old now count whole p =
    let all : p.done ≡ whole = sym (append-nil p.done) ∙ sym p.splits in
    (p.written ∙ ap (λ ls. append_told old (text_of ls)) all, p.counted ∙ ap (λ (ls : List LogLine). length ls) all)

-- ---- one line

pub line_is : (l : LogLine) (text : Text) → text ≡ line_text l → text ++ 10 ∷ [] ≡ text_of (l ∷ [])
line_is l text e = ap (λ t. t ++ 10 ∷ []) e ∙ sym (append-nil (line_text l ++ 10 ∷ []))

-- the text of the one line of a step
pub one_text : (text : Text) (ls : List LogLine) → map line_text ls ≡ text ∷ [] → (text ++ 10 ∷ [] ≡ text_of ls) × (1 ≡ length ls)
one_text text [] e = cc
one_text text (l ∷ []) e = let same : line_text l ≡ text = cc in (line_is l text (sym same), refl)
one_text text (l ∷ m ∷ ls) e = cc

-- ---- steps

pub step_splits : (ds : List Def) (ss : List Step) (i : ℕ) (d : Step) → i < length ss → steps_lines ds (drop i ss) ≡ step_lines ds (get_or ss i d) ++ steps_lines ds (drop (i + 1) ss)
step_splits ds ss i d h = rw (add-one, drop-cons ss i d h) refl

pub part_front : (old new : Option Text) (bytes text : Text) → bytes ≡ text → AppendsPart old new bytes → AppendsFront old new text
part_front old new bytes text e p = (p.0, p.2 ∙ ap (λ t. append_told old (take p.0 t)) e)

-- ---- faults

pub rose_later : (a b c : ℕ) → a ≤ b → Rose b c → Rose a c
rose_later a b c h (inl r) = inl (omega arith)
rose_later a b c h (inr e) = inr e

pub same_fault : (A B : Type 0) (e : LogError) (a b c : ℕ) → a ≤ b → IfFault {A = A} (Err e) (Rose b c) → IfFault {A = B} (Err e) (Rose a c)
same_fault A B WriteFault a b c h r = rose_later a b c h r
same_fault A B Memory a b c h r = tt

pub later_fault : (A : Type 0) (r : Result A LogError) (a b c : ℕ) → a ≤ b → IfFault r (Rose b c) → IfFault r (Rose a c)
later_fault A (Ok x) a b c h f = tt
later_fault A (Err e) a b c h f = same_fault A A e a b c h f

-- ---- a step more

some_text : (o : Option (String Global)) (line : String Global) (ls : List LogLine) → o ≡ Some line → IsLineOf o ls → (string_bytes line ++ 10 ∷ [] ≡ text_of ls) × (1 ≡ length ls)
some_text o line ls e h = one_text (string_bytes line) ls (subst (λ x. IsLineOf x ls) e h)

next_step : (old mid : Option Text) (count : ℕ) (ds : List Def) (ss : List Step) (s : Step) (i : ℕ) → i < length ss → s ≡ get_or ss i s → Progress old mid count (steps_lines ds ss) (steps_lines ds (drop i ss))
    → Progress old mid count (steps_lines ds ss) (step_lines ds s ++ steps_lines ds (drop (i + 1) ss))
next_step old mid count ds ss s i h e p =
    subst (λ t. Progress old mid count (steps_lines ds ss) (step_lines ds t ++ steps_lines ds (drop (i + 1) ss))) (sym e) (subst (Progress old mid count (steps_lines ds ss)) (step_splits ds ss i s h) p)

pub step_front : (old mid now : Option Text) (count : ℕ) (ds : List Def) (ss : List Step) (s : Step) (i : ℕ) (o : Option (String Global)) (line : String Global) → i < length ss → s ≡ get_or ss i s
    → Progress old mid count (steps_lines ds ss) (steps_lines ds (drop i ss)) → o ≡ Some line → IsLineOf o (step_lines ds s) → AppendsFront mid now (string_bytes line ++ 10 ∷ []) → AppendsFront old now (text_of (steps_lines ds ss))
step_front old mid now count ds ss s i o line h e p is one f =
    front old mid now count (steps_lines ds ss) (step_lines ds s) (steps_lines ds (drop (i + 1) ss)) (next_step old mid count ds ss s i h e p) (subst (AppendsFront mid now) (some_text o line (step_lines ds s) is one).0 f)

pub step_written : (old mid now : Option Text) (count : ℕ) (ds : List Def) (ss : List Step) (s : Step) (i : ℕ) (o : Option (String Global)) (line : String Global) → i < length ss → s ≡ get_or ss i s
    → Progress old mid count (steps_lines ds ss) (steps_lines ds (drop i ss)) → o ≡ Some line → IsLineOf o (step_lines ds s) → Appends mid now (string_bytes line ++ 10 ∷ []) → Progress old now (count + 1) (steps_lines ds ss) (steps_lines ds (drop (i + 1) ss))
step_written old mid now count ds ss s i o line h e p is one w =
    let text = some_text o line (step_lines ds s) is one in
    advance old mid now count 1 (count + 1) (steps_lines ds ss) (step_lines ds s) (steps_lines ds (drop (i + 1) ss)) (next_step old mid count ds ss s i h e p) (subst (Appends mid now) text.0 w) text.1 refl

pub step_silent : (old mid : Option Text) (count : ℕ) (ds : List Def) (ss : List Step) (s : Step) (i : ℕ) (o : Option (String Global)) → i < length ss → s ≡ get_or ss i s
    → Progress old mid count (steps_lines ds ss) (steps_lines ds (drop i ss)) → o ≡ None → IsLineOf o (step_lines ds s) → Progress old mid count (steps_lines ds ss) (steps_lines ds (drop (i + 1) ss))
step_silent old mid count ds ss s i o h e p is none =
    let no_line : step_lines ds s ≡ [] = subst (λ x. IsLineOf x (step_lines ds s)) is none in
    subst (λ ls. Progress old mid count (steps_lines ds ss) (ls ++ steps_lines ds (drop (i + 1) ss))) no_line (next_step old mid count ds ss s i h e p)

pub steps_finished : (old now : Option Text) (count : ℕ) (ds : List Def) (ss : List Step) (i : ℕ) → length ss ≤ i → Progress old now count (steps_lines ds ss) (steps_lines ds (drop i ss)) → Appends old now (text_of (steps_lines ds ss)) × (count ≡ length (steps_lines ds ss))
steps_finished old now count ds ss i h p = finished old now count (steps_lines ds ss) (subst (λ xs. Progress old now count (steps_lines ds ss) (steps_lines ds xs)) (drop_of_length-le ss h) p)

-- ---- a mark more

pub order_here : (done i : ℕ) (marks : List Mark) (m : Mark) → i < length marks → m ≡ get_or marks i m → AreInOrder done (drop i marks) → (done ≤ m.at) × AreInOrder m.at (drop (i + 1) marks)
order_here done i marks m h e o =
    let here : AreInOrder done (get_or marks i m ∷ drop (i + 1) marks) = subst (AreInOrder done) (ap (λ xs. drop i xs) refl ∙ cut) o in
    subst (λ x. (done ≤ x.at) × AreInOrder x.at (drop (i + 1) marks)) (sym e) here
  where
    cut : drop i marks ≡ get_or marks i m ∷ drop (i + 1) marks
    cut = rw (add-one, drop-cons marks i m h) refl

pub mark_within : (k i : ℕ) (marks : List Mark) (m : Mark) → i < length marks → m ≡ get_or marks i m → All (λ x. x.at ≤ k) marks → m.at ≤ k
mark_within k i marks m h e a = subst (λ x. x.at ≤ k) (sym e) (All-get_or (λ x. x.at ≤ k) marks i m h a)

pub marked_splits : (k : State) (ds : List Def) (ss : List Step) (done i : ℕ) (marks : List Mark) (m : Mark) → i < length marks → m ≡ get_or marks i m
    → marked_lines k ds ss done (drop i marks) ≡ steps_lines ds (take (m.at - done) (drop done ss)) ++ (mark_line k m.kind ∷ marked_lines k ds ss m.at (drop (i + 1) marks))
marked_splits k ds ss done i marks m h e =
    subst (λ x. marked_lines k ds ss done (drop i marks) ≡ steps_lines ds (take (x.at - done) (drop done ss)) ++ (mark_line k x.kind ∷ marked_lines k ds ss x.at (drop (i + 1) marks))) (sym e) cut
  where
    cut : marked_lines k ds ss done (drop i marks)
        ≡ steps_lines ds (take ((get_or marks i m).at - done) (drop done ss)) ++ (mark_line k (get_or marks i m).kind ∷ marked_lines k ds ss (get_or marks i m).at (drop (i + 1) marks))
    cut = rw (add-one, drop-cons marks i m h) refl

pub next_mark : (old mid : Option Text) (count : ℕ) (k : State) (ds : List Def) (ss : List Step) (done i : ℕ) (marks : List Mark) (m : Mark) (whole : List LogLine) → i < length marks → m ≡ get_or marks i m
    → Progress old mid count whole (marked_lines k ds ss done (drop i marks))
    → Progress old mid count whole (steps_lines ds (take (m.at - done) (drop done ss)) ++ (mark_line k m.kind ∷ marked_lines k ds ss m.at (drop (i + 1) marks)))
next_mark old mid count k ds ss done i marks m whole h e p = subst (Progress old mid count whole) (marked_splits k ds ss done i marks m h e) p

pub marks_done : (old mid : Option Text) (count : ℕ) (k : State) (ds : List Def) (ss : List Step) (done i : ℕ) (marks : List Mark) (whole : List LogLine) → length marks ≤ i
    → Progress old mid count whole (marked_lines k ds ss done (drop i marks)) → Progress old mid count whole (steps_lines ds (take (length ss - done) (drop done ss)) ++ [])
marks_done old mid count k ds ss done i marks whole h p =
    subst (Progress old mid count whole) (ap (marked_lines k ds ss done) (drop_of_length-le marks h) ∙ ap (steps_lines ds) (sym (take_rest ss done)) ∙ sym (append-nil (steps_lines ds (take (length ss - done) (drop done ss))))) p

pub part_within : {A : Type 0} (n : ℕ) (xs : List A) → length (take n xs) ≤ n
part_within zero xs = omega arith
part_within (suc n) [] = omega arith
part_within (suc n) (x ∷ xs) = let rest = part_within n xs in omega arith

pub ruleset place_lemmas = (order_here, mark_within)
