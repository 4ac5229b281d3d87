-- Lemmas on the terms and theorems of a table.
use Rattle.std.proofs.Common.{◌≡◌, ℕ, ◌≤◌, refl, subst, List, [], ◌∷◌, ◌++◌, length, drop, Bool, true, false, Option, Some, IsSome, slice_get}
use Rattle.std.specs.Option.{option_to_list}
use Rattle.std.proofs.lemmas.Option.{slice_get_within, get_or_from_slice_get}
use Rattle.std.proofs.lemmas.List.{map_push, drop_all}
use Rattle.std.proofs.lemmas.List.Elements.{All-pop}
use Rattle.hol_terms.specs.Tm.{Tm}
use Rattle.hol_terms.specs.Typing.{tm_type, fun_ty, range_ty}
use Rattle.hol_terms.specs.Loose.{IsClosedAt}
use Rattle.hol_terms.specs.Signature.{IsOver}
use Rattle.hol_terms.specs.Definition.{Definition, signature_of}
use Rattle.hol_terms.specs.Sequent.{Sequent, IsEq}
use Rattle.hol_terms.specs.Rules.{if_so, fits, is_variable, variable, is_equation}
use Rattle.hol_terms.proofs.Checked.{same_ty-is}
use Rattle.hol_terms.proofs.Same.{same-is}
use Rattle.hol_terms.proofs.InstLemmas.{IsOver-closed}
use Rattle.hol_kernel.specs.State.{State, Theorem, Has}
use Rattle.kernel_lines.specs.Lines.{on, run, last}
use Rattle.kernel_lines.specs.Ready.{sequents, AllOver, AllHad}
use Rattle.kernel_lines.specs.declared.line.Line.{Line}

pub over_at : (ds : List Definition) (ts : List Tm) (n : ℕ) (t : Tm) → AllOver ds ts → slice_get ts n ≡ Some t → IsOver (signature_of ds) [] t
over_at ds ts n t h e = subst (IsOver (signature_of ds) []) (get_or_from_slice_get ts n t t e) (h.all n t (slice_get_within ts n t e))

pub had_at : (k : State) (ts : List Theorem) (n : ℕ) (t : Theorem) → AllHad k ts → slice_get ts n ≡ Some t → Has k t
had_at k ts n t h e = subst (Has k) (get_or_from_slice_get ts n t t e) (h.all n t (slice_get_within ts n t e))

pub ruleset at_lemmas = (over_at, had_at)

pub if_true : {A : Type 0} (b : Bool) (x : A) → IsSome (if_so b x) → b ≡ true
if_true true x h = refl
if_true false x h = cc

pub if_some : {A : Type 0} (b : Bool) (x : A) → IsSome (if_so b x) → if_so b x ≡ Some x
if_some true x h = refl
if_some false x h = cc

-- a term that is a free variable
pub var_is : (t : Tm) (o : Option Tm) → o ≡ Some t → IsSome (on o (λ u. if_so (is_variable u) (variable u))) → is_variable t ≡ true
var_is t o e h = if_true (is_variable t) (variable t) (subst (λ (p : Option Tm). IsSome (on p (λ u. if_so (is_variable u) (variable u)))) e h)

pub ruleset var_lemmas = (var_is)

pub apply_fits : (f x y : Tm) → IsSome (if_so (fits f x) y) → tm_type f ≡ fun_ty (tm_type x) (range_ty (tm_type f))
apply_fits f x y h = same_ty-is _ _ (if_true (fits f x) y h)

pub applied : (f x y : Tm) → IsSome (if_so (fits f x) y) → if_so (fits f x) y ≡ Some y
applied f x y h = if_some (fits f x) y h

pub ruleset fit_lemmas = (apply_fits, applied)

pub closed : (ds : List Definition) (t : Tm) → IsOver (signature_of ds) [] t → IsClosedAt 0 t
closed ds t o = IsOver-closed (signature_of ds) [] t o

-- the sides of an equation
pub sides_is : (a : Sequent) (x : Tm) → IsSome (if_so (is_equation a.concl) x) → IsEq a.concl
sides_is a x h = same-is _ _ (if_true (is_equation a.concl) x h)

pub side_gives : (a : Sequent) (x : Tm) → IsSome (if_so (is_equation a.concl) x) → if_so (is_equation a.concl) x ≡ Some x
side_gives a x h = if_some (is_equation a.concl) x h

pub ruleset side_lemmas = (sides_is, side_gives)

-- the end of a table
pub last_push : (xs : List Sequent) (x : Sequent) → last (xs ++ x ∷ []) ≡ Some x
last_push [] x = refl
last_push (y ∷ []) x = refl
last_push (y ∷ z ∷ zs) x = last_push (z ∷ zs) x

pub run_end : (ts : List Tm) (hs us : List Theorem) (t : Theorem) (ls : List Line) (i : ℕ) → length ls ≤ i → hs ≡ us ++ option_to_list (Some t) → run ts (sequents hs) (drop i ls) ≡ Some t.sequent
run_end ts hs us t ls i h e = rw (drop_all i ls h, e, map_push (λ (th : Theorem). th.sequent) us t) (last_push (sequents us) t.sequent)

pub had_last : (k : State) (ts us : List Theorem) (t : Theorem) → AllHad k ts → ts ≡ us ++ option_to_list (Some t) → Has k t
had_last k ts us t h e = (All-pop (Has k) ts us (Some t) e h.all).1
