-- The kernel after a step: what is new is had, and what was had still is.
use Rattle.std.proofs.Common.{◌≡◌, ℕ, zero, suc, ◌+◌, arith, List, [], ◌∷◌, ◌++◌, refl, sym, ap, ◌∙◌, subst, subst₂, slice_get, Some, length, append_assoc, append-nil}
use Rattle.hol_terms.specs.Definition.{Definition, type_def, signature_of}
use Rattle.hol_terms.specs.Tm.{Tm}
use Rattle.hol_terms.specs.Signature.{IsOver}
use Rattle.hol_terms.specs.Sequent.{Sequent, seq, eq_tm}
use Rattle.hol_terms.specs.Proves.{Proves, by_refl, IsPrefix, abs_rep, rep_abs}
use Rattle.hol_terms.proofs.Typed.{eq_over, no_hyps}
use Rattle.hol_terms.proofs.Weaken.{Proves-append}
use Rattle.hol_terms.specs.Name.{Name}
use Rattle.hol_kernel.specs.NewType.{IsNewType}
use Rattle.hol_kernel.specs.State.{Theorem, State, Has, IsNewStep, KeepsAll, Grows}

pub slice_get-append : {X : Type 0} (xs ys : List X) (i : ℕ) (x : X) → slice_get xs i ≡ Some x → slice_get (xs ++ ys) i ≡ Some x
slice_get-append [] ys i x e = cc
slice_get-append (y ∷ xs) ys zero x e = e
slice_get-append (y ∷ xs) ys (suc i) x e = slice_get-append xs ys i x e

slice_get-last : {X : Type 0} (xs ys : List X) (x : X) → slice_get (xs ++ x ∷ ys) (length xs) ≡ Some x
slice_get-last [] ys x = refl
slice_get-last (y ∷ xs) ys x = slice_get-last xs ys x

pub slice_get-after : {X : Type 0} (xs ys : List X) (j : ℕ) → slice_get (xs ++ ys) (length xs + j) ≡ slice_get ys j
slice_get-after [] ys j = let e : 0 + j ≡ j = omega arith in rw e refl
slice_get-after (x ∷ xs) ys j = let e : suc (length xs) + j ≡ suc (length xs + j) = omega arith in rw e (slice_get-after xs ys j)

pub made_has : {old new : State} {defs : List Definition} {th : Theorem} {a : Sequent} → IsNewStep old defs new th a → Has new th
made_has {old} {new} {defs} {th} {a} s =
    subst₂ (λ (k : State) (t : Theorem). Has k t) (sym s.state) (sym s.theorem) (record { at = slice_get-last old.steps [] a; older = ([], sym (append-nil defs)) })

-- definitions are only added
pub made_keeps : {old new : State} {defs : List Definition} {th : Theorem} {a : Sequent} → IsPrefix old.defs defs → IsNewStep old defs new th a → KeepsAll old new
made_keeps {old} {new} {defs} {th} {a} more s = λ t h. subst (λ (k : State). Has k t) (sym s.state) (record {
  at = slice_get-append old.steps (a ∷ []) t.step t.sequent h.at;
  older = (h.older.0 ++ more.0, more.1 ∙ ap (λ ds. ds ++ more.0) h.older.1 ∙ append_assoc t.defs h.older.0 more.0);
})

-- a step more, over the same definitions
pub made_grows : {old new : State} {th : Theorem} {a : Sequent} → IsNewStep old old.defs new th a → Grows old new
made_grows {old} {new} {th} {a} s = record {
  defs = ap (λ (k : State). k.defs) s.state;
  steps = λ i b e. subst (λ (k : State). slice_get k.steps i ≡ Some b) (sym s.state) (slice_get-append old.steps (a ∷ []) i b e);
  keeps = made_keeps ([], sym (append-nil old.defs)) s;
}

-- both theorems of a new type
pub type_has : {old new : State} {n : Name} {p : Tm} {abs rep : Theorem} → IsNewType old n p new abs rep → Has new abs × Has new rep
type_has {old} {new} {n} {p} {abs} {rep} s =
    let a = seq [] (abs_rep n p) in
    let b = seq [] (rep_abs n p) in
    let all = sym (append-nil (old.defs ++ type_def n p ∷ [])) in (
      subst₂ (λ (k : State) (t : Theorem). Has k t) (sym s.state) (sym s.abs_is) (record { at = slice_get-last old.steps (b ∷ []) a; older = ([], all) }),
      subst₂ (λ (k : State) (t : Theorem). Has k t) (sym s.state) (sym s.rep_is) (record { at = slice_get-after old.steps (a ∷ b ∷ []) 1; older = ([], all) }),
    )

pub type_keeps : {old new : State} {n : Name} {p : Tm} {abs rep : Theorem} → IsNewType old n p new abs rep → KeepsAll old new
type_keeps {old} {new} {n} {p} {abs} {rep} s = λ t h. subst (λ (k : State). Has k t) (sym s.state) (record {
  at = slice_get-append old.steps (seq [] (abs_rep n p) ∷ seq [] (rep_abs n p) ∷ []) t.step t.sequent h.at;
  older = (h.older.0 ++ type_def n p ∷ [], ap (λ ds. ds ++ type_def n p ∷ []) h.older.1 ∙ append_assoc t.defs h.older.0 (type_def n p ∷ []));
})

pub no_more : (ds : List Definition) → IsPrefix ds ds
no_more ds = ([], sym (append-nil ds))

pub one_more : (ds : List Definition) (d : Definition) → IsPrefix ds (ds ++ d ∷ [])
one_more ds d = (d ∷ [], refl)

-- a theorem that the kernel has follows from the kernel's definitions
pub moved : (k : State) (a : Theorem) → Has k a → Proves a.defs a.sequent → Proves k.defs a.sequent
moved k a h p = subst (λ (fs : List Definition). Proves fs a.sequent) (sym h.older.1) (Proves-append h.older.0 p)

pub made_as : {ds : List Definition} {a : List Tm} {p : Tm} (b : List Tm) (q : Tm) → Proves ds (seq a p) → b ≡ a → q ≡ p → Proves ds (seq b q)
made_as b q h e f = rw (e, f) h

pub refl_made : (ds : List Definition) (t : Tm) → IsOver (signature_of ds) [] t → Proves ds (seq [] (eq_tm t t))
refl_made ds t h = by_refl t _ refl (no_hyps (signature_of ds) (eq_tm t t) (eq_over ds [] t t h h refl, refl))
