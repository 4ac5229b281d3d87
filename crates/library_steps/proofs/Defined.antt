-- Base definitions by their places, and the theorems that make types.
use Rattle.std.proofs.Common.{◌≡◌, ℕ, ◌+◌, true, sym, ap, ◌∙◌, subst, List, [], ◌∷◌, ◌++◌, Option, Some, None, IsSome, IsSomeAnd, slice_get, refl}
use Rattle.std.proofs.lemmas.List.{append-nil, append_assoc}
use Rattle.hol_terms.specs.Name.{Name}
use Rattle.hol_terms.specs.Tm.{Tm}
use Rattle.hol_terms.specs.Definition.{Definition, const_def, type_def}
use Rattle.hol_terms.specs.Base.{base, base_definitions}
use Rattle.hol_terms.specs.Sequent.{Sequent}
use Rattle.hol_terms.specs.Text.{Text}
use Rattle.hol_kernel.specs.Fault.{type_fault, predicate_of}
use Rattle.hol_kernel.specs.Said.{is_const_def}
use Rattle.hol_kernel.specs.State.{State, Theorem, Grows, KeepsAll, IsNewStep}
use Rattle.hol_kernel.specs.NewType.{IsNewType}
use Rattle.hol_kernel.proofs.Steps.{slice_get-append}
use Rattle.stmt_core.proofs.BaseSteps.{base-push}
use Rattle.script_core.specs.Tables.{table_sequent}
use Rattle.script_core.specs.Ready.{Fits, Gives}
use Rattle.library_steps.specs.Closed.{nothing, ShowsElement}
use Rattle.library_steps.specs.Building.{IsConstantAt, IsTypeAt, Keeps}

constant_by : (o : Option Definition) (n : Name) (p : Tm) → IsSomeAnd o (λ d. is_const_def d ≡ true) → o ≡ Some (type_def n p) → ⊥
constant_by None n p h e = h
constant_by (Some (const_def c t)) n p h e = cc
constant_by (Some (type_def m q)) n p h e = cc

pub constant_there : (place : ℕ) (n : Name) (p : Tm) → IsConstantAt place → slice_get base_definitions place ≡ Some (type_def n p) → ⊥
constant_there place n p h e = constant_by (slice_get base_definitions place) n p h.is e

other_kind : (n c : Name) (p t : Tm) → Some (type_def n p) ≡ Some (const_def c t) → ⊥
other_kind n c p t e = cc

pub type_there : (place : ℕ) (table : Text) (c : Name) (t : Tm) → IsTypeAt place table → slice_get base_definitions place ≡ Some (const_def c t) → ⊥
type_there place table c t h e = other_kind h.name c (predicate_of h.shows.shown) t (sym h.shows.next ∙ e)

same_name : (m n : Name) (p q : Tm) → Some (type_def m p) ≡ Some (type_def n q) → m ≡ n
same_name m n p q e = cc

pub type_shown : (place : ℕ) (table : Text) (n : Name) (p : Tm) → IsTypeAt place table → slice_get base_definitions place ≡ Some (type_def n p) → ShowsElement place table n
type_shown place table n p h e =
    subst (λ (m : Name). ShowsElement place table m) (same_name h.name n (predicate_of h.shows.shown) p (sym h.shows.next ∙ e)) h.shows

pub ruleset place_lemmas = (constant_there, type_there, type_shown)

is_some_of : {A : Type 0} (o : Option A) (x : A) → o ≡ Some x → IsSome o
is_some_of o x e = subst IsSome (sym e) refl

pub shows_fits : (ds : List Definition) (place : ℕ) (table : Text) (n : Name) → ds ≡ base place → ShowsElement place table n → Fits ds [] nothing table
shows_fits ds place table n e h =
    record { is = subst (λ (es : List Definition). IsSome (table_sequent es [] nothing table)) (sym e) (is_some_of (table_sequent (base place) [] nothing table) h.shown h.is) }

same_value : (a b : Sequent) → Some a ≡ Some b → a ≡ b
same_value a b e = cc

pub shown_is : (ds : List Definition) (place : ℕ) (table : Text) (n : Name) (a : Sequent) → ds ≡ base place → (h : ShowsElement place table n) → Gives ds [] nothing table a → h.shown ≡ a
shown_is ds place table n a e h g =
    same_value h.shown a (sym h.is ∙ subst (λ (es : List Definition). table_sequent es [] nothing table ≡ Some a) e g.is)

-- what the kernel asks of a new type, and its definitions then
pub may_make : (ds es : List Definition) (place : ℕ) (table : Text) (n : Name) (a : Sequent) → ds ≡ base place → es ≡ ds → ShowsElement place table n → Gives ds [] nothing table a → type_fault es n a ≡ None
may_make ds es place table n a e f h g =
    ap (λ (fs : List Definition). type_fault fs n a) (f ∙ e) ∙ subst (λ (b : Sequent). type_fault (base place) n b ≡ None) (shown_is ds place table n a e h g) h.fit

pub made_next : (ds es : List Definition) (place : ℕ) (table : Text) (n : Name) (a : Sequent) → ds ≡ base place → es ≡ ds → ShowsElement place table n → Gives ds [] nothing table a → es ++ type_def n (predicate_of a) ∷ [] ≡ base (place + 1)
made_next ds es place table n a e f h g =
    let d : Definition = type_def n (predicate_of a) in
    ap (λ (fs : List Definition). fs ++ d ∷ []) (f ∙ e)
    ∙ base-push place d (subst (λ (b : Sequent). slice_get base_definitions place ≡ Some (type_def n (predicate_of b))) (shown_is ds place table n a e h g) h.next)

pub grows_keeps : (k l : State) → Grows k l → Keeps k l
grows_keeps k l g = record { more = []; defs = g.defs ∙ sym (append-nil k.defs); steps = g.steps; theorems = g.keeps }

pub keeps_itself : (k : State) → Keeps k k
keeps_itself k = record { more = []; defs = sym (append-nil k.defs); steps = λ i a e. e; theorems = λ th h. h }

pub keeps_same : (k l : State) → l ≡ k → Keeps k l
keeps_same k l e = subst (λ (m : State). Keeps k m) (sym e) (keeps_itself k)

pub keeps_on : (k l m : State) → Keeps k l → Keeps l m → Keeps k m
keeps_on k l m g h = record {
  more = g.more ++ h.more;
  defs = h.defs ∙ ap (λ (ds : List Definition). ds ++ h.more) g.defs ∙ append_assoc k.defs g.more h.more;
  steps = λ i a e. h.steps i a (g.steps i a e);
  theorems = λ th e. h.theorems th (g.theorems th e);
}

pub step_keeps : (k l : State) (d : Definition) (th : Theorem) (a : Sequent) → IsNewStep k (k.defs ++ d ∷ []) l th a → KeepsAll k l → Keeps k l
step_keeps k l d th a h g = record {
  more = d ∷ [];
  defs = ap (λ (m : State). m.defs) h.state;
  steps = λ i b e. subst (λ (m : State). slice_get m.steps i ≡ Some b) (sym h.state) (slice_get-append k.steps (a ∷ []) i b e);
  theorems = g;
}

pub type_keeps : (k l m : State) (n : Name) (p : Tm) (x y : Theorem) → Grows k l → IsNewType l n p m x y → KeepsAll l m → Keeps k m
type_keeps k l m n p x y f h g = record {
  more = type_def n p ∷ [];
  defs = ap (λ (q : State). q.defs) h.state ∙ ap (λ (ds : List Definition). ds ++ type_def n p ∷ []) f.defs;
  steps = λ i b e. subst (λ (q : State). slice_get q.steps i ≡ Some b) (sym h.state) (slice_get-append l.steps _ i b (f.steps i b e));
  theorems = λ th e. g th (f.keeps th e);
}

pub grows_same : (k l m : State) → Grows k l → m ≡ l → Keeps k m
grows_same k l m f e = subst (λ (q : State). Keeps k q) (sym e) (grows_keeps k l f)

pub ruleset keeps_lemmas = (grows_keeps, keeps_itself, keeps_same)
