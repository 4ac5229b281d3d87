-- The marks of a place are good there.
use Rattle.std.proofs.Common.{◌≡◌, ℕ, suc, ◌<◌, ◌≤◌, Bool, true, false, cond, ◌==◌, List, [], ◌∷◌, ◌++◌, length, map, Option, Some, None, refl, sym, ap, ◌∙◌, subst, arith, slice_get, string_bytes, nat_lt}
use Rattle.std.specs.Prelude.{All, IsSomeAnd, filter}
use Rattle.std.proofs.lemmas.Bool.{eqb-true, eqb-false}
use Rattle.std.proofs.lemmas.Bool.Decides.{nat_tests}
use Rattle.std.proofs.lemmas.List.Elements.{All-head, All-tail}
use Rattle.hol_terms.specs.Signature.{IsOver}
use Rattle.hol_terms.specs.Definition.{signature_of}
use Rattle.hol_terms.specs.Sequent.{Sequent}
use Rattle.hol_terms.specs.Base.{base}
use Rattle.hol_terms.specs.declared.defs.Def.{Def}
use Rattle.hol_terms.proofs.Weaken.{Proves-typed}
use Rattle.hol_kernel.specs.State.{State}
use Rattle.hol_kernel.specs.Run.{IsRun}
use Rattle.hol_kernel.specs.declared.step.Step.{Step}
use Rattle.hol_kernel.proofs.Calculus.{run_derives}
use Rattle.hol_logs.specs.Line.{LogLine, line_name}
use Rattle.proof_log.specs.declared.marks.Mark.{Mark}
use Rattle.proof_log.specs.declared.marks.MarkKind.{MarkKind}
use Rattle.proof_log.specs.declared.marks.MarkKind.TheVariants.{Base, Section, Name}
use Rattle.proof_log.specs.Lines.{mark_line}
use Rattle.proof_log.specs.Marks.{IsFitKind, IsFitMark}
use Rattle.proof_log.specs.Written.{marks_at}
use Rattle.proof_log.proofs.Good.{Leads, leads_nowhere, leads_append, leads_by}
use Rattle.proof_log.proofs.RuleLines.{at_number}
use Rattle.proof_log.proofs.GoodLines.{standing, base_leads, section_leads, name_leads}
use Rattle.proof_log.proofs.Fronts.{get_front}

some_and : {A : Type 0} (o : Option A) (P : A → Type 0) → IsSomeAnd o P → (x : A) × (o ≡ Some x) × P x
some_and None P h = absurd h
some_and (Some x) P h = (x, refl, h)

-- a section, or a name of a step below the place
kind_leads : (n : ℕ) (K : State) (ds : List Def) (ss : List Step) (k : State) (count : ℕ) (more : List Sequent) (at : ℕ) (kind : MarkKind) → IsRun ds ss k → K.steps ≡ k.steps ++ more → at ≡ length k.steps
    → IsFitKind K at kind → Leads n (standing k count true) (mark_line K kind ∷ []) (standing k (suc count) true)
kind_leads n K ds ss k count more at (Base m) r e l h = absurd h
kind_leads n K ds ss k count more at (Section text) r e l h = section_leads n k count (string_bytes text) h
kind_leads n K ds ss k count more at (Name name i) r e l h =
    let step = some_and (slice_get K.steps i) (λ a. a.hyps ≡ []) h.2 in
    let below : i < length k.steps = let low = h.1 in omega arith in
    let here : slice_get k.steps i ≡ Some step.0 = sym (get_front k.steps more i below) ∙ ap (λ xs. slice_get xs i) (sym e) ∙ step.1 in
    let over : IsOver (signature_of k.defs) [] step.0.concl = (Proves-typed (run_derives ds ss k i step.0 r here).proof).concl_is.0 in
    leads_by n (standing k count true) (standing k (suc count) true) (line_name (string_bytes name) i step.0.concl ∷ []) (mark_line K (Name name i) ∷ [])
    (ap (λ a. line_name (string_bytes name) i a.concl ∷ []) (sym (at_number K.steps i step.0 step.1))) (name_leads n k count (string_bytes name) i step.0 h.0 here step.2 over)

-- how far lines lead from a position on
pub record LeadsFar (n : ℕ) (k : State) (count : ℕ) (b : Bool) (ls : List LogLine) (c : Bool) : Type 0 where
  pub total : ℕ
  pub leads : Leads n (standing k count b) ls (standing k total c)

-- marks behind the base mark
others_lead : (n : ℕ) (K : State) (ds : List Def) (ss : List Step) (k : State) (count : ℕ) (more : List Sequent) (first at : ℕ) (b : Bool) (others : List Mark) → IsRun ds ss k → K.steps ≡ k.steps ++ more → at ≡ length k.steps
    → (first ≤ at → b ≡ true) → All (IsFitMark K) others → All (λ m. first ≤ m.at) others → LeadsFar n k count b (marks_at K others at) b
others_lead n K ds ss k count more first at b [] r e l known fit later = record { total = count; leads = leads_nowhere n (standing k count b) }
others_lead n K ds ss k count more first at b (m ∷ ms) r e l known fit later =
    by (m.at == at) refl (λ total. others_lead n K ds ss k total more first at b ms r e l known (All-tail (IsFitMark K) m ms fit) (All-tail (λ x. first ≤ x.at) m ms later))
  where
    by : (t : Bool) → (m.at == at) ≡ t → ((total : ℕ) → LeadsFar n k total b (marks_at K ms at) b)
        → LeadsFar n k count b (map (λ x. mark_line K x.kind) (cond t (m ∷ filter (λ x. x.at == at) ms) (filter (λ x. x.at == at) ms))) b
    by false s rest = rest count
    by true s rest =
        let here : m.at ≡ at = eqb-true m.at at s in
        let low : first ≤ m.at = All-head (λ x. first ≤ x.at) m ms later in
        let based : b ≡ true = known (omega arith) in
        let fits : IsFitKind K m.at m.kind = All-head (IsFitMark K) m ms fit in
        let one = kind_leads n K ds ss k count more m.at m.kind r e (here ∙ l) fits in
        let one_here : Leads n (standing k count b) (mark_line K m.kind ∷ []) (standing k (suc count) b) = subst (λ c. Leads n (standing k count c) (mark_line K m.kind ∷ []) (standing k (suc count) c)) (sym based) one in
        let others = rest (suc count) in
        record {
          total = others.total;
          leads = leads_append n (standing k count b) (standing k (suc count) b) (standing k others.total b) (mark_line K m.kind ∷ []) (marks_at K ms at) one_here others.leads;
        }

-- all marks of a place; the base line is read once the base mark's place is reached
pub marks_lead : (n : ℕ) (K : State) (ds : List Def) (ss : List Step) (k : State) (count : ℕ) (more : List Sequent) (first : Mark) (at : ℕ) (others : List Mark) → IsRun ds ss k → K.steps ≡ k.steps ++ more → at ≡ length k.steps
    → first.kind ≡ Base n → (first.at ≡ at → k.defs ≡ base n) → All (IsFitMark K) others → All (λ m. first.at ≤ m.at) others
    → LeadsFar n k count (nat_lt first.at at) (marks_at K (first ∷ others) at) (nat_lt first.at (suc at))
marks_lead n K ds ss k count more first at others r e l kind exact fit later = by (first.at == at) refl
  where
    below : (a b : ℕ) → a ≡ b → (nat_lt a b ≡ false) × (nat_lt a (suc b) ≡ true)
    below a b e = (grind (arith, nat_tests), grind (arith, nat_tests))

    same : (a b : ℕ) → (a ≡ b → ⊥) → nat_lt a b ≡ nat_lt a (suc b)
    same a b e = grind (arith, nat_tests)

    reached : (a b : ℕ) → a ≤ b → nat_lt a (suc b) ≡ true
    reached a b h = grind (arith, nat_tests)

    by : (t : Bool) → (first.at == at) ≡ t
        → LeadsFar n k count (nat_lt first.at at) (map (λ x. mark_line K x.kind) (cond t (first ∷ filter (λ x. x.at == at) others) (filter (λ x. x.at == at) others))) (nat_lt first.at (suc at))
    by false s =
        let rest = others_lead n K ds ss k count more first.at at (nat_lt first.at (suc at)) others r e l (reached first.at at) fit later in
        subst (λ b. LeadsFar n k count b (marks_at K others at) (nat_lt first.at (suc at))) (sym (same first.at at (eqb-false first.at at s))) rest
    by true s =
        let here : first.at ≡ at = eqb-true first.at at s in
        let tests = below first.at at here in
        let rest = others_lead n K ds ss k (suc count) more first.at at true others r e l (λ _. refl) fit later in
        let one = leads_by n (standing k count false) (standing k (suc count) true) _ (mark_line K first.kind ∷ []) (ap (λ x. mark_line K x ∷ []) (sym kind)) (base_leads n k count (exact here)) in
        let both : LeadsFar n k count false (mark_line K first.kind ∷ marks_at K others at) true =
        record { total = rest.total; leads = leads_append n (standing k count false) (standing k (suc count) true) (standing k rest.total true) (mark_line K first.kind ∷ []) (marks_at K others at) one rest.leads } in
        subst (λ c. LeadsFar n k count (nat_lt first.at at) (mark_line K first.kind ∷ marks_at K others at) c) (sym tests.1)
        (subst (λ b. LeadsFar n k count b (mark_line K first.kind ∷ marks_at K others at) true) (sym tests.0) both)
