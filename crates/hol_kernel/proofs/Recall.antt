-- What a definition says is read off the kernel's steps.
use Rattle.std.proofs.Common.{◌≡◌, ℕ, zero, suc, ◌+◌, ◌<◌, true, List, [], ◌∷◌, Option, Some, None, IsSome, IsSomeAnd, length, get_or, slice_get, refl, sym, ap, ◌∙◌, arith, subst}
use Rattle.std.proofs.lemmas.Option.{slice_get_within, slice_get_read, get_or_from_slice_get}
use Rattle.hol_terms.specs.Tm.{Tm}
use Rattle.hol_terms.specs.Definition.{Definition, const_def, type_def}
use Rattle.hol_terms.specs.Sequent.{Sequent, seq}
use Rattle.hol_terms.specs.Proves.{IsDerivable, sequents_of}
use Rattle.hol_kernel.specs.State.{State, Theorem, Has}
use Rattle.hol_kernel.specs.Kept.{IsKernel}
use Rattle.hol_kernel.specs.Said.{is_const_def, is_type_def}
use Rattle.hol_kernel.specs.declared.kernel.Kernel.TheInside.{Inside}
use Rattle.hol_kernel.proofs.Steps.{no_more}
use Rattle.hol_kernel.proofs.Sound.{run_proves}

-- the sequent of number j that the definition of place i says, at the step j after n
pub record Recalled (k : State) (i j n : ℕ) : Type 0 where
  pub definition : Definition
  pub concl : Tm
  pub defined : slice_get k.defs i ≡ Some definition
  pub says : slice_get (sequents_of definition) j ≡ Some (seq [] concl)
  pub at : slice_get k.steps (n + j) ≡ Some (seq [] concl)
  pub derivable : IsDerivable k.defs (seq [] concl)

known : {A : Type 0} (o : Option A) (P : A → Type 0) → IsSomeAnd o P → (x : A) × (o ≡ Some x) × P x
known None P h = absurd h
known (Some x) P h = (x, refl, h)

-- what a definition says has no hypothesis
no_hyps_said : (d : Definition) (j : ℕ) → IsSome (slice_get (sequents_of d) j) → (p : Tm) × (slice_get (sequents_of d) j ≡ Some (seq [] p))
no_hyps_said (const_def c t) zero h = (_, refl)
no_hyps_said (const_def c t) (suc j) h = cc
no_hyps_said (type_def n p) zero h = (_, refl)
no_hyps_said (type_def n p) (suc zero) h = (_, refl)
no_hyps_said (type_def n p) (suc (suc j)) h = cc

pub recall : (a : Inside) (k : State) (i j n : ℕ) → IsKernel a → record { defs = a.history; steps = a.steps.items } ≡ k → IsSomeAnd (slice_get k.defs i) (λ d. IsSome (slice_get (sequents_of d) j)) → n ≡ get_or a.made.items i n → Recalled k i j n
recall a k i j n h v g e =
    let given = subst (λ (s : State). IsSomeAnd (slice_get s.defs i) (λ d. IsSome (slice_get (sequents_of d) j))) (sym v) g in
    let d = known (slice_get a.history i) (λ d. IsSome (slice_get (sequents_of d) j)) given in
    let p = no_hyps_said d.0 j d.2 in
    let below : i < length a.made.items = omega (arith, slice_get_within a.history i d.0 d.1, h.said.count) in
    let made = slice_get_read a.made.items (length a.made.items) i n refl below e in
    let at = h.said.said i n j d.0 (seq [] p.0) made d.1 p.1 in
    subst (λ (s : State). Recalled s i j n) v (record {
      definition = d.0;
      concl = p.0;
      defined = d.1;
      says = p.1;
      at = at;
      derivable = record { conservative = h.conservative; proof = (run_proves h.run).1 (n + j) (seq [] p.0) at };
    })

pub recalled_below : {k : State} {i j n : ℕ} (steps : List Sequent) → steps ≡ k.steps → Recalled k i j n → n + j < length steps
recalled_below {k} {i} {j} {n} steps e r = slice_get_within steps (n + j) (seq [] r.concl) (ap (λ cs. slice_get cs (n + j)) e ∙ r.at)

-- the row of a step that is read
pub recalled_row : {k : State} {i j n : ℕ} (steps : List Sequent) (row here : Sequent) → steps ≡ k.steps → (r : Recalled k i j n) → here ≡ row → row ≡ get_or steps (n + j) row → here.concl ≡ r.concl
recalled_row {k} {i} {j} {n} steps row here e r f g =
    ap (λ s. s.concl) (f ∙ g ∙ get_or_from_slice_get steps (n + j) (seq [] r.concl) row (ap (λ cs. slice_get cs (n + j)) e ∙ r.at))

-- the theorem that is read, in the words of the contract
pub recalled_says : {k : State} {i j n : ℕ} (th : Theorem) (p : Tm) (r : Recalled k i j n) → p ≡ r.concl → th.sequent ≡ seq [] p → IsSomeAnd (slice_get k.defs i) (λ d. slice_get (sequents_of d) j ≡ Some th.sequent)
recalled_says {k} {i} {j} {n} th p r e f = rw r.defined (r.says ∙ ap (λ q. Some (seq [] q)) (sym e) ∙ ap Some (sym f))

pub recalled_has : {k : State} {i j n : ℕ} (th : Theorem) (ds : List Definition) (p : Tm) (r : Recalled k i j n) → p ≡ r.concl → ds ≡ k.defs → th ≡ record { defs = ds; sequent = seq [] p; step = n + j } → Has k th
recalled_has {k} {i} {j} {n} th ds p r e f g =
    subst (λ (t : Theorem). Has k t) (sym (g ∙ (λ l. record { defs = f l; sequent = seq [] (e l); step = n + j }))) (record { at = r.at; older = no_more k.defs })

-- all that a definition says
pub one_said : (o : Option Definition) (a : Sequent) → IsSomeAnd o (λ d. is_const_def d ≡ true) → IsSomeAnd o (λ d. slice_get (sequents_of d) 0 ≡ Some a) → IsSomeAnd o (λ d. sequents_of d ≡ a ∷ [])
one_said None a h g = h
one_said (Some (const_def c t)) a h g = cc
one_said (Some (type_def n p)) a h g = cc

pub two_said : (o : Option Definition) (a b : Sequent) → IsSomeAnd o (λ d. is_type_def d ≡ true) → IsSomeAnd o (λ d. slice_get (sequents_of d) 0 ≡ Some a) → IsSomeAnd o (λ d. slice_get (sequents_of d) 1 ≡ Some b)
    → IsSomeAnd o (λ d. sequents_of d ≡ a ∷ b ∷ [])
two_said None a b h g f = h
two_said (Some (const_def c t)) a b h g f = cc
two_said (Some (type_def n p)) a b h g f = cc

pub const_says : (o : Option Definition) → IsSomeAnd o (λ d. is_const_def d ≡ true) → IsSomeAnd o (λ d. IsSome (slice_get (sequents_of d) 0))
const_says None h = h
const_says (Some (const_def c t)) h = refl
const_says (Some (type_def n p)) h = cc

pub type_says : (o : Option Definition) → IsSomeAnd o (λ d. is_type_def d ≡ true) → IsSomeAnd o (λ d. IsSome (slice_get (sequents_of d) 0)) × IsSomeAnd o (λ d. IsSome (slice_get (sequents_of d) 1))
type_says None h = (h, h)
type_says (Some (const_def c t)) h = cc
type_says (Some (type_def n p)) h = (refl, refl)
