-- The steps of a run, with the marks among them, lead from the first line to the run's state.
use Rattle.std.proofs.Common.{◌≡◌, ℕ, suc, ◌+◌, ◌≤◌, false, List, [], ◌∷◌, ◌++◌, length, take, sym, ap, ◌∙◌, subst, append_assoc, append-nil, arith, slice_get, string_bytes, nat_lt}
use Rattle.std.specs.Prelude.{All}
use Rattle.std.proofs.lemmas.Bool.Decides.{nat_tests}
use Rattle.std.proofs.lemmas.List.{length-append}
use Rattle.std.proofs.lemmas.List.Elements.{All-head}
use Rattle.hol_terms.specs.Typing.{tm_type}
use Rattle.hol_terms.specs.TyVars.{own_const}
use Rattle.hol_terms.specs.Definition.{const_def, type_def}
use Rattle.hol_terms.specs.Sequent.{Sequent, seq, eq_tm}
use Rattle.hol_terms.specs.Base.{base}
use Rattle.hol_terms.specs.Proves.{abs_rep, rep_abs}
use Rattle.hol_terms.specs.declared.defs.Def.{Def}
use Rattle.hol_terms.specs.declared.defs.Def.TheVariants as def
use Rattle.hol_terms.proofs.Weaken.{Proves-typed}
use Rattle.hol_kernel.specs.State.{State}
use Rattle.hol_kernel.specs.Run.{IsRun, run_start, run_rule, run_const, run_type}
use Rattle.hol_kernel.specs.declared.step.Step.{Step}
use Rattle.hol_kernel.specs.declared.step.Step.TheVariants.{Const, TypeAbs, TypeRep}
use Rattle.hol_kernel.proofs.Calculus.{run_derives}
use Rattle.hol_logs.specs.Line.{line_const, line_type}
use Rattle.proof_log.specs.declared.marks.Mark.{Mark}
use Rattle.proof_log.specs.declared.marks.MarkKind.TheVariants.{Base}
use Rattle.proof_log.specs.Lines.{definition_lines, step_lines}
use Rattle.proof_log.specs.Marks.{IsPlace, IsFitMark, made_by}
use Rattle.proof_log.specs.Written.{marks_at, steps_from}
use Rattle.proof_log.proofs.Good.{Leads, leads_append, leads_by}
use Rattle.proof_log.proofs.RuleLines.{AreStepsTyped}
use Rattle.proof_log.proofs.GoodLines.{standing, step_leads, const_leads, type_leads}
use Rattle.proof_log.proofs.Fronts.{steps_more, run_counts, IsFront, earlier, earlier_step, last_def}
use Rattle.proof_log.proofs.Places.{base_there, next_there, not_between, none_between}
use Rattle.proof_log.proofs.MarkLines.{LeadsFar, marks_lead}

-- what is fit of the marks, for one run of the kernel's steps
pub record AreGiven (n : ℕ) (K : State) (SS : List Step) (first : Mark) (others : List Mark) : Type 0 where
  pub based : first.kind ≡ Base n
  pub said : All (IsFitMark K) others
  pub later : All (λ m. first.at ≤ m.at) others
  pub placed : All (λ m. IsPlace SS m.at) (first ∷ others)
  pub exact : take (made_by (take first.at SS)) K.defs ≡ base n

-- the state before any step
abbrev pub nothing : State
nothing = record { defs = []; steps = [] }

pub record Reaches (n : ℕ) (K : State) (DS : List Def) (first : Mark) (others : List Mark) (ss : List Step) (k : State) : Type 0 where
  pub total : ℕ
  pub leads : Leads n (standing nothing 0 false) (steps_from K DS (first ∷ others) 0 ss) (standing k total (nat_lt first.at (suc (length ss))))

-- ---- tests of places

none_below : (a : ℕ) → nat_lt a 0 ≡ false
none_below a = grind (arith, nat_tests)

not_yet : (a b : ℕ) → nat_lt a b ≡ false → b ≤ a
not_yet a b e = grind (arith, nat_tests)

passes : (a b : ℕ) → (a ≡ b → ⊥) → nat_lt a (suc b) ≡ nat_lt a b
passes a b e = grind (arith, nat_tests)

-- ---- lines of one step more

one_longer : {A : Type 0} (xs : List A) (x : A) → length (xs ++ x ∷ []) ≡ suc (length xs)
one_longer xs x = let p = length-append xs (x ∷ []) in omega arith

two_longer : {A : Type 0} (xs : List A) (x y : A) → length (xs ++ x ∷ y ∷ []) ≡ suc (suc (length xs))
two_longer xs x y = let p = length-append xs (x ∷ y ∷ []) in omega arith

one_step : (K : State) (DS : List Def) (marks : List Mark) (ss : List Step) (s : Step)
    → steps_from K DS marks 0 (ss ++ s ∷ []) ≡ steps_from K DS marks 0 ss ++ (step_lines DS s ++ marks_at K marks (length (ss ++ s ∷ [])))
one_step K DS marks ss s =
    let place : suc 0 + length ss ≡ length (ss ++ s ∷ []) = let p = one_longer ss s in omega arith in
    steps_more K DS marks 0 ss s ∙ ap (λ i. steps_from K DS marks 0 ss ++ (step_lines DS s ++ marks_at K marks i)) place

two_steps : (K : State) (DS : List Def) (marks : List Mark) (ss : List Step) (i : ℕ) → marks_at K marks (suc (length ss)) ≡ []
    → steps_from K DS marks 0 (ss ++ TypeAbs i ∷ TypeRep i ∷ []) ≡ steps_from K DS marks 0 ss ++ (step_lines DS (TypeAbs i) ++ marks_at K marks (length (ss ++ TypeAbs i ∷ TypeRep i ∷ [])))
two_steps K DS marks ss i none =
    let split : (ss ++ TypeAbs i ∷ []) ++ TypeRep i ∷ [] ≡ ss ++ TypeAbs i ∷ TypeRep i ∷ [] = append_assoc ss (TypeAbs i ∷ []) (TypeRep i ∷ []) in
    let size = one_longer ss (TypeAbs i) in
    let front : steps_from K DS marks 0 (ss ++ TypeAbs i ∷ []) ≡ steps_from K DS marks 0 ss ++ step_lines DS (TypeAbs i) =
    one_step K DS marks ss (TypeAbs i) ∙ ap (λ j. steps_from K DS marks 0 ss ++ (step_lines DS (TypeAbs i) ++ marks_at K marks j)) size
    ∙ ap (λ ls. steps_from K DS marks 0 ss ++ (step_lines DS (TypeAbs i) ++ ls)) none ∙ ap (λ ls. steps_from K DS marks 0 ss ++ ls) (append-nil (step_lines DS (TypeAbs i))) in
    ap (steps_from K DS marks 0) (sym split) ∙ one_step K DS marks (ss ++ TypeAbs i ∷ []) (TypeRep i)
    ∙ ap (λ ts. steps_from K DS marks 0 (ss ++ TypeAbs i ∷ []) ++ marks_at K marks (length ts)) split
    ∙ ap (λ ls. ls ++ marks_at K marks (length (ss ++ TypeAbs i ∷ TypeRep i ∷ []))) front
    ∙ append_assoc (steps_from K DS marks 0 ss) (step_lines DS (TypeAbs i)) (marks_at K marks (length (ss ++ TypeAbs i ∷ TypeRep i ∷ [])))

-- ---- the marks of the place behind a front

marks_here : (n : ℕ) (K : State) (DS : List Def) (SS : List Step) (first : Mark) (others : List Mark) (ds : List Def) (ss : List Step) (k : State) → AreGiven n K SS first others → IsFront DS SS K ds ss k → IsRun ds ss k
    → (count : ℕ) → LeadsFar n k count (nat_lt first.at (length ss)) (marks_at K (first ∷ others) (length ss)) (nat_lt first.at (suc (length ss)))
marks_here n K DS SS first others ds ss k g f r count =
    let counts = run_counts ds ss k r in
    marks_lead n K ds ss k count f.more_steps first (length ss) others r f.steps_are (sym counts.steps) g.based (λ e. base_there n first.at DS SS K ds ss k f counts.made e g.exact) g.said g.later

reach_more : (n : ℕ) (K : State) (DS : List Def) (first : Mark) (others : List Mark) (ss ts : List Step) (s : Step) (k j : State)
    → steps_from K DS (first ∷ others) 0 ts ≡ steps_from K DS (first ∷ others) 0 ss ++ (step_lines DS s ++ marks_at K (first ∷ others) (length ts))
    → nat_lt first.at (length ts) ≡ nat_lt first.at (suc (length ss))
    → Reaches n K DS first others ss k
    → ((total : ℕ) → Leads n (standing k total (nat_lt first.at (suc (length ss)))) (step_lines DS s) (standing j (suc total) (nat_lt first.at (suc (length ss)))))
    → ((count : ℕ) → LeadsFar n j count (nat_lt first.at (length ts)) (marks_at K (first ∷ others) (length ts)) (nat_lt first.at (suc (length ts))))
    → Reaches n K DS first others ts j
reach_more n K DS first others ss ts s k j lines same before step marks =
    let b = nat_lt first.at (suc (length ss)) in
    let c = nat_lt first.at (suc (length ts)) in
    let new = marks_at K (first ∷ others) (length ts) in
    let rest = marks (suc before.total) in
    let last : Leads n (standing j (suc before.total) b) new (standing j rest.total c) = subst (λ t. Leads n (standing j (suc before.total) t) new (standing j rest.total c)) same rest.leads in
    let more : Leads n (standing k before.total b) (step_lines DS s ++ new) (standing j rest.total c) =
    leads_append n (standing k before.total b) (standing j (suc before.total) b) (standing j rest.total c) (step_lines DS s) new (step before.total) last in
    record {
      total = rest.total;
      leads = leads_by n (standing nothing 0 false) (standing j rest.total c) (steps_from K DS (first ∷ others) 0 ss ++ (step_lines DS s ++ new)) (steps_from K DS (first ∷ others) 0 ts) (sym lines)
          (leads_append n (standing nothing 0 false) (standing k before.total b) (standing j rest.total c) (steps_from K DS (first ∷ others) 0 ss) (step_lines DS s ++ new) before.leads more);
    }

-- ---- each step

-- what a run's steps give is derivable, so well typed
pub typed : (ds : List Def) (ss : List Step) (k : State) → IsRun ds ss k → AreStepsTyped k
typed ds ss k r = λ i a e. Proves-typed (run_derives ds ss k i a r e).proof

same_place : (first : Mark) (ss : List Step) (s : Step) → nat_lt first.at (length (ss ++ s ∷ [])) ≡ nat_lt first.at (suc (length ss))
same_place first ss s = ap (nat_lt first.at) (one_longer ss s)

behind_both : (SS ss more : List Step) (i at : ℕ) → SS ≡ (ss ++ TypeAbs i ∷ TypeRep i ∷ []) ++ more → IsPlace SS at → nat_lt at (length (ss ++ TypeAbs i ∷ TypeRep i ∷ [])) ≡ nat_lt at (suc (length ss))
behind_both SS ss more i at e h = ap (nat_lt at) (two_longer ss (TypeAbs i) (TypeRep i)) ∙ passes at (suc (length ss)) (not_between SS ss more i at e h)

pub reaches : (n : ℕ) (K : State) (DS : List Def) (SS : List Step) (first : Mark) (others : List Mark) (ds : List Def) (ss : List Step) (k : State) → AreGiven n K SS first others → IsFront DS SS K ds ss k → IsRun ds ss k
    → Reaches n K DS first others ss k
reaches n K DS SS first others ds ss k g f run_start =
    let here = marks_here n K DS SS first others [] [] nothing g f run_start 0 in
    record { total = here.total; leads = subst (λ b. Leads n (standing nothing 0 b) (marks_at K (first ∷ others) 0) (standing nothing here.total (nat_lt first.at 1))) (none_below first.at) here.leads }
reaches n K DS SS first others ds ss k g f (run_rule es ts j s c r h) =
    let before = reaches n K DS SS first others es ts j g (earlier_step DS SS K es ts (s ∷ []) j.defs j.steps (c ∷ []) f) r in
    reach_more n K DS first others ts (ts ++ s ∷ []) s j (record { defs = j.defs; steps = j.steps ++ c ∷ [] }) (one_step K DS (first ∷ others) ts s) (same_place first ts s) before
    (λ total. step_leads n j total (nat_lt first.at (suc (length ts))) DS s c h (typed es ts j r))
    (marks_here n K DS SS first others es (ts ++ s ∷ []) (record { defs = j.defs; steps = j.steps ++ c ∷ [] }) g f (run_rule es ts j s c r h))
reaches n K DS SS first others ds ss k g f (run_const es ts j name t r h) =
    let c = string_bytes name in
    let s : Step = Const (length es) in
    let said : Sequent = seq [] (eq_tm (own_const c (tm_type t)) t) in
    let now : State = record { defs = j.defs ++ const_def c t ∷ []; steps = j.steps ++ said ∷ [] } in
    let run = run_const es ts j name t r h in
    let before = reaches n K DS SS first others es ts j g (earlier DS SS K es (def.Const name t ∷ []) ts (s ∷ []) j.defs (const_def c t ∷ []) j.steps (said ∷ []) f) r in
    let lines : definition_lines (slice_get DS (length es)) ≡ line_const c t ∷ [] = ap definition_lines (last_def DS SS K es (def.Const name t) (ts ++ s ∷ []) now f) in
    let size = one_longer ts s in
    reach_more n K DS first others ts (ts ++ s ∷ []) s j now (one_step K DS (first ∷ others) ts s) (same_place first ts s) before
    (λ total. leads_by n (standing j total (nat_lt first.at (suc (length ts)))) (standing now (suc total) (nat_lt first.at (suc (length ts)))) (line_const c t ∷ []) (step_lines DS s) (sym lines)
    (const_leads n j total (nat_lt first.at (suc (length ts))) c t h
    (λ e. let late = not_yet first.at (suc (length ts)) e in next_there n first.at DS SS K (es ++ def.Const name t ∷ []) (ts ++ s ∷ []) j.defs (const_def c t) (j.steps ++ said ∷ []) f (run_counts _ _ now run).made (omega arith) g.exact)))
    (marks_here n K DS SS first others (es ++ def.Const name t ∷ []) (ts ++ s ∷ []) now g f run)
reaches n K DS SS first others ds ss k g f (run_type es ts j name p t from r h e) =
    let c = string_bytes name in
    let i = length es in
    let both : List Step = TypeAbs i ∷ TypeRep i ∷ [] in
    let said : List Sequent = seq [] (abs_rep c p) ∷ seq [] (rep_abs c p) ∷ [] in
    let now : State = record { defs = j.defs ++ type_def c p ∷ []; steps = j.steps ++ said } in
    let run = run_type es ts j name p t from r h e in
    let before = reaches n K DS SS first others es ts j g (earlier DS SS K es (def.NewType name p from ∷ []) ts both j.defs (type_def c p ∷ []) j.steps said f) r in
    let lines : definition_lines (slice_get DS i) ≡ line_type c from ∷ [] = ap definition_lines (last_def DS SS K es (def.NewType name p from) (ts ++ both) now f) in
    let size = two_longer ts (TypeAbs i) (TypeRep i) in
    let place : IsPlace SS first.at = All-head (λ m. IsPlace SS m.at) first others g.placed in
    let apart : first.at ≡ suc (length ts) → ⊥ = not_between SS ts f.more_ss i first.at f.ss_are place in
    reach_more n K DS first others ts (ts ++ both) (TypeAbs i) j now (two_steps K DS (first ∷ others) ts i (none_between K SS ts f.more_ss i (first ∷ others) f.ss_are g.placed)) (behind_both SS ts f.more_ss i first.at f.ss_are place) before
    (λ total. leads_by n (standing j total (nat_lt first.at (suc (length ts)))) (standing now (suc total) (nat_lt first.at (suc (length ts)))) (line_type c from ∷ []) (step_lines DS (TypeAbs i)) (sym lines)
    (type_leads n j total (nat_lt first.at (suc (length ts))) c from p t e h
    (λ x. let late = not_yet first.at (suc (length ts)) x in next_there n first.at DS SS K (es ++ def.NewType name p from ∷ []) (ts ++ both) j.defs (type_def c p) (j.steps ++ said) f (run_counts _ _ now run).made (beyond first.at (length ts) (length (ts ++ both)) size late apart) g.exact)))
    (marks_here n K DS SS first others (es ++ def.NewType name p from ∷ []) (ts ++ both) now g f run)
  where
    beyond : (a m l : ℕ) → l ≡ suc (suc m) → suc m ≤ a → (a ≡ suc m → ⊥) → l ≤ a
    beyond a m l e h g = grind arith
