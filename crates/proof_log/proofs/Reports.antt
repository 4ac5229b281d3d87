-- What the logs of a theory without a command, and of a theory of one definition, report.
use Rattle.std.specs.declared.alloc.Global.{Global}
use Rattle.std.proofs.Common.{◌≡◌, ℕ, ◌+◌, ◌-◌, ◌≤◌, Bool, true, false, cond, ◌||◌, List, [], ◌∷◌, ◌++◌, length, map, Option, Some, None, take, drop, take_all, refl, sym, ap, ◌∙◌, append_assoc, append-nil, arith, slice_get, string_bytes, String}
use Rattle.std.specs.Prelude.{All}
use Rattle.std.specs.List.{list_all}
use Rattle.std.proofs.lemmas.Bool.{and_parts, and_from}
use Rattle.std.proofs.lemmas.List.{take_at, drop_all}
use Rattle.std.proofs.lemmas.List.Elements.{All-nil, All-cons}
use Rattle.hol_terms.specs.Name.{Name}
use Rattle.hol_terms.specs.Tm.{Tm}
use Rattle.hol_terms.specs.Typing.{tm_type}
use Rattle.hol_terms.specs.TyVars.{own_const}
use Rattle.hol_terms.specs.Definition.{const_def}
use Rattle.hol_terms.specs.Sequent.{eq_tm}
use Rattle.hol_terms.specs.Text.{Text, definition_line, theorem_line}
use Rattle.hol_terms.specs.declared.defs.Def.{Def}
use Rattle.hol_terms.specs.declared.defs.Def.TheVariants as def
use Rattle.hol_kernel.specs.State.{State}
use Rattle.hol_kernel.specs.Run.{IsRun}
use Rattle.hol_kernel.specs.declared.step.Step.{Step}
use Rattle.hol_kernel.specs.declared.step.Step.TheVariants.{Refl, Trans, Comb, Abs, Beta, Assume, Mp, Deduct, InstType, Inst, Axiom, Const, TypeAbs, TypeRep}
use Rattle.hol_logs.specs.Step.{sequent_at}
use Rattle.hol_logs.specs.Line.{LogLine, line_first, line_step, line_const, line_type, line_base, line_section, line_name, line_end, line_stop, line_text}
use Rattle.hol_logs.specs.Position.{LogPosition, start_position, after, definitions_by, report_of}
use Rattle.hol_logs.specs.Log.{unlines}
use Rattle.proof_log.specs.declared.marks.Mark.{Mark}
use Rattle.proof_log.specs.declared.marks.MarkKind.TheVariants.{Section, Name as Named}
use Rattle.proof_log.specs.declared.marks.End.{End}
use Rattle.proof_log.specs.declared.marks.End.TheVariants.{Done, Stop}
use Rattle.proof_log.specs.Lines.{definition_lines, step_lines, end_line}
use Rattle.proof_log.specs.Written.{steps_from, body, log_of, said_by, report_text}
use Rattle.proof_log.specs.Gained.{steps_lines}
use Rattle.proof_log.specs.Theories.{said_last, base_mark, base_report, says, IsDefinedNext, define_marks, define_report}
use Rattle.proof_log.proofs.Good.{after_all}
use Rattle.proof_log.proofs.RuleLines.{at_number}
use Rattle.proof_log.proofs.Fronts.{run_counts}
use Rattle.proof_log.proofs.Marked.{marked_whole}
use Rattle.proof_log.proofs.FitMarks.{longer, at_end, ends_in_definition}

-- ---- lines that print nothing before the base line

abbrev is_quiet : LogLine → Bool
is_quiet (line_step s) = true
is_quiet (line_const c t) = true
is_quiet (line_type c i) = true
is_quiet l = false

definition_quiet : (o : Option Def) → list_all is_quiet (definition_lines o) ≡ true
definition_quiet None = refl
definition_quiet (Some (def.Const name t)) = refl
definition_quiet (Some (def.NewType name p from)) = refl

step_quiet : (ds : List Def) (s : Step) → list_all is_quiet (step_lines ds s) ≡ true
step_quiet ds (Refl t) = refl
step_quiet ds (Trans i j) = refl
step_quiet ds (Comb i j) = refl
step_quiet ds (Abs v i) = refl
step_quiet ds (Beta t) = refl
step_quiet ds (Assume p) = refl
step_quiet ds (Mp i j) = refl
step_quiet ds (Deduct i j) = refl
step_quiet ds (InstType i s) = refl
step_quiet ds (Inst i s) = refl
step_quiet ds (Axiom k) = refl
step_quiet ds (Const i) = definition_quiet (slice_get ds i)
step_quiet ds (TypeAbs i) = definition_quiet (slice_get ds i)
step_quiet ds (TypeRep i) = refl

both_quiet : (xs ys : List LogLine) → list_all is_quiet xs ≡ true → list_all is_quiet ys ≡ true → list_all is_quiet (xs ++ ys) ≡ true
both_quiet [] ys h g = g
both_quiet (x ∷ xs) ys h g = let p = and_parts (is_quiet x) (list_all is_quiet xs) h in and_from (is_quiet x) (list_all is_quiet (xs ++ ys)) p.0 (both_quiet xs ys p.1 g)

steps_quiet : (ds : List Def) (ss : List Step) → list_all is_quiet (steps_lines ds ss) ≡ true
steps_quiet ds [] = refl
steps_quiet ds (s ∷ ss) = both_quiet (step_lines ds s) (steps_lines ds ss) (step_quiet ds s) (steps_quiet ds ss)

one_quiet : (p : LogPosition) (l : LogLine) → is_quiet l ≡ true → p.is_based ≡ false → (report_of p l ≡ []) × ((after p l).is_based ≡ false)
one_quiet p (line_step s) h e = (ap (λ b. cond b (map definition_line (definitions_by p (line_step s))) []) e, ap (λ b. b || false) e)
one_quiet p (line_const c t) h e = (ap (λ b. cond b (map definition_line (definitions_by p (line_const c t))) []) e, ap (λ b. b || false) e)
one_quiet p (line_type c i) h e = (ap (λ b. cond b (map definition_line (definitions_by p (line_type c i))) []) e, ap (λ b. b || false) e)
one_quiet p line_first h e = cc
one_quiet p (line_base m) h e = cc
one_quiet p (line_section t) h e = cc
one_quiet p (line_name c i t) h e = cc
one_quiet p (line_end k) h e = cc
one_quiet p (line_stop k test name place) h e = cc

quiet : (p : LogPosition) (ls ms : List LogLine) → list_all is_quiet ls ≡ true → p.is_based ≡ false → said_by p (ls ++ ms) ≡ said_by (after_all p ls) ms
quiet p [] ms h e = refl
quiet p (l ∷ ls) ms h e =
    let q = and_parts (is_quiet l) (list_all is_quiet ls) h in
    let one = one_quiet p l q.0 e in
    ap (λ r. r ++ said_by (after p l) (ls ++ ms)) one.0 ∙ quiet (after p l) ls ms q.1 one.1

-- ---- the last line

nothing_more : (b : Bool) → cond b (map definition_line []) [] ≡ []
nothing_more true = refl
nothing_more false = refl

last_says : (p : LogPosition) (m : ℕ) (end : End) → said_by p (end_line m end ∷ []) ≡ said_last end
last_says p m Done = ap (λ r. r ++ []) (nothing_more p.is_based)
last_says p m (Stop test name place) = refl

-- ---- the lines behind the steps of the base definitions

-- a log, from its lines behind the first one
front_says : (k : State) (ds : List Def) (ss : List Step) (marks : List Mark) (end : End) (quiets rest : List LogLine) → steps_from k ds marks 0 ss ≡ quiets ++ rest → list_all is_quiet quiets ≡ true
    → report_text (log_of k ds ss marks end) ≡ unlines (said_by (after_all (after start_position line_first) quiets) (rest ++ end_line (length (body k ds ss marks)) end ∷ []))
front_says k ds ss marks end quiets rest e h =
    let last = end_line (length (body k ds ss marks)) end ∷ [] in
    ap (λ ls. unlines (said_by (after start_position line_first) (ls ++ last))) e
    ∙ ap (λ ls. unlines (said_by (after start_position line_first) ls)) (append_assoc quiets rest last)
    ∙ ap unlines (quiet (after start_position line_first) quiets (rest ++ last) h refl)

-- ---- no command

behind_all : (ds : List Def) (ss : List Step) (at : ℕ) → length ss ≤ at → steps_lines ds (take (at - 0) (drop 0 ss)) ≡ steps_lines ds ss
behind_all ds ss at h = let none : at - 0 ≡ at = omega arith in ap (λ m. steps_lines ds (take m ss)) none ∙ ap (steps_lines ds) (take_all at ss h)

no_more_steps : (ds : List Def) (ss : List Step) (at : ℕ) → length ss ≤ at → steps_lines ds (drop at ss) ≡ []
no_more_steps ds ss at h = ap (steps_lines ds) (drop_all at ss h)

pub base_reports : (n : ℕ) (k : State) (end : End) (ds : List Def) (ss : List Step) → IsRun ds ss k → report_text (log_of k ds ss (base_mark n k ∷ []) end) ≡ unlines (base_report n end)
base_reports n k end ds ss r =
    let at = length k.steps in
    let mark = base_mark n k in
    let size = (run_counts ds ss k r).steps in
    let last : length ss ≤ at = omega arith in
    let low : 0 ≤ at = omega arith in
    let up : at ≤ length ss = omega arith in
    let placed : All (λ m. m.at ≤ length ss) (mark ∷ []) = All-cons (λ (m : Mark). m.at ≤ length ss) mark [] up (All-nil (λ (m : Mark). m.at ≤ length ss)) in
    let lines : steps_from k ds (mark ∷ []) 0 ss ≡ steps_lines ds ss ++ (line_base n ∷ []) =
    sym (marked_whole k ds ss (mark ∷ []) (low, tt) placed)
    ∙ (λ i. behind_all ds ss at last i ++ (line_base n ∷ no_more_steps ds ss at last i)) in
    front_says k ds ss (mark ∷ []) end (steps_lines ds ss) (line_base n ∷ []) lines (steps_quiet ds ss)
    ∙ ap (λ ls. unlines (line_text (line_base n) ∷ ls)) (last_says (after (after_all (after start_position line_first) (steps_lines ds ss)) (line_base n)) (length (body k ds ss (mark ∷ []))) end)

-- ---- one definition

or_true : (b : Bool) → (b || true) ≡ true
or_true true = refl
or_true false = refl

constant_says : (p : LogPosition) (c : Name) (t : Tm) → p.is_based ≡ true → report_of p (line_const c t) ≡ definition_line (const_def c t) ∷ []
constant_says p c t e = ap (λ b. cond b (definition_line (const_def c t) ∷ []) []) e

or_false : (b : Bool) → b ≡ true → (b || false) ≡ true
or_false b e = ap (λ c. c || false) e

-- behind the steps: the base line, the section, the definition, its theorem and the end
rest_says : (p : LogPosition) (n m i : ℕ) (text : Text) (c name : Name) (t fact : Tm) (end : End)
    → said_by p (line_base n ∷ line_section text ∷ line_const c t ∷ line_name name i fact ∷ end_line m end ∷ []) ≡ line_text (line_base n) ∷ text ∷ definition_line (const_def c t) ∷ theorem_line name fact ∷ said_last end
rest_says p n m i text c name t fact end =
    let q = after (after p (line_base n)) (line_section text) in
    let based : q.is_based ≡ true = or_false (p.is_based || true) (or_true p.is_based) in
    (λ j. line_text (line_base n) ∷ text ∷ (constant_says q c t based j ++ (theorem_line name fact ∷ last_says (after (after q (line_const c t)) (line_name name i fact)) m end j)))

two_taken : {A : Type 0} (xs zs : List A) (y : A) (m : ℕ) → zs ≡ xs ++ y ∷ [] → m ≡ length xs → (take m zs ≡ xs) × (drop m zs ≡ y ∷ [])
two_taken {A = A} xs zs y m e f = (ap (take m) e ∙ take_at xs (y ∷ []) m (sym f), (λ i. drop (f i) (e i)) ∙ behind xs)
  where
    behind : (xs : List A) → drop (length xs) (xs ++ y ∷ []) ≡ y ∷ []
    behind [] = refl
    behind (x ∷ xs) = behind xs

none_between : (ds : List Def) (ss : List Step) (at : ℕ) → steps_lines ds (take (at - at) (drop at ss)) ≡ []
none_between ds ss at = let zero : at - at ≡ 0 = omega arith in ap (λ m. steps_lines ds (take m (drop at ss))) zero

one_step : (ds : List Def) (ss : List Step) (s : Step) (at : ℕ) → drop at ss ≡ s ∷ [] → steps_lines ds (take ((at + 1) - at) (drop at ss)) ≡ step_lines ds s
one_step ds ss s at e = let one : (at + 1) - at ≡ 1 = omega arith in (λ i. steps_lines ds (take (one i) (e i))) ∙ append-nil (step_lines ds s)

pub define_reports : (n : ℕ) (old new : State) (c : Name) (t : Tm) (text name : String Global) (end : End) (ds : List Def) (ss : List Step) → IsDefinedNext n old new c t → IsRun ds ss new
    → report_text (log_of new ds ss (define_marks n old text name) end) ≡ unlines (define_report n (string_bytes text) c t (string_bytes name) end)
define_reports n old new c t text name end ds ss h r =
    let at = length old.steps in
    let l = ends_in_definition n old new c t ds ss h r in
    let marks = define_marks n old text name in
    let section : Mark = record { at = at; kind = Section text } in
    let named : Mark = record { at = at + 1; kind = Named name at } in
    let fact = eq_tm (own_const c (tm_type t)) t in
    let parts = two_taken l.steps ss (Const l.number) at l.ends (sym l.as_many) in
    let size : length ss ≡ at + 1 = let p = longer l.steps (Const l.number) in let q : length ss ≡ length (l.steps ++ Const l.number ∷ []) = ap length l.ends in let z = l.as_many in omega arith in
    let last : length ss ≤ at + 1 = omega arith in
    let low : 0 ≤ at = omega arith in
    let same : at ≤ at = omega arith in
    let up : at ≤ at + 1 = omega arith in
    let first_in : at ≤ length ss = omega arith in
    let last_in : at + 1 ≤ length ss = omega arith in
    let placed : All (λ m. m.at ≤ length ss) marks =
    All-cons (λ (m : Mark). m.at ≤ length ss) (base_mark n old) (section ∷ named ∷ []) first_in
    (All-cons (λ (m : Mark). m.at ≤ length ss) section (named ∷ []) first_in (All-cons (λ (m : Mark). m.at ≤ length ss) named [] last_in (All-nil (λ (m : Mark). m.at ≤ length ss)))) in
    let none : at - 0 ≡ at = omega arith in
    let front : steps_lines ds (take (at - 0) (drop 0 ss)) ≡ steps_lines ds l.steps = ap (λ m. steps_lines ds (take m ss)) none ∙ ap (steps_lines ds) parts.0 in
    let step : slice_get new.steps at ≡ Some (says c t) = ap (λ k. slice_get k.steps at) h.after ∙ at_end old.steps (says c t) in
    let concl : (sequent_at new.steps at).concl ≡ fact = ap (λ a. a.concl) (at_number new.steps at (says c t) step) in
    let here : steps_lines ds (take ((at + 1) - at) (drop at ss)) ≡ line_const c t ∷ [] = one_step ds ss (Const l.number) at parts.1 ∙ l.line in
    let rest : List LogLine = line_base n ∷ line_section (string_bytes text) ∷ line_const c t ∷ line_name (string_bytes name) at fact ∷ [] in
    let lines : steps_from new ds marks 0 ss ≡ steps_lines ds l.steps ++ rest =
    sym (marked_whole new ds ss marks (low, (same, (up, tt))) placed)
    ∙ (λ i. front i ++ (line_base n ∷ (none_between ds ss at i ++ (line_section (string_bytes text) ∷ (here i ++ (line_name (string_bytes name) at (concl i) ∷ no_more_steps ds ss (at + 1) last i)))))) in
    front_says new ds ss marks end (steps_lines ds l.steps) rest lines (steps_quiet ds l.steps)
    ∙ ap unlines (rest_says (after_all (after start_position line_first) (steps_lines ds l.steps)) n (length (body new ds ss marks)) at (string_bytes text) c (string_bytes name) t fact end)
