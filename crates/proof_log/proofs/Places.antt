-- Where the base mark stands: there are exactly the base definitions, and before it only these are made.
use Rattle.std.proofs.Common.{◌≡◌, ℕ, suc, ◌<◌, ◌≤◌, false, ◌==◌, List, [], ◌∷◌, ◌++◌, length, Some, take, refl, sym, ap, ◌∙◌, arith, slice_get}
use Rattle.std.specs.Prelude.{All, option_to_list}
use Rattle.std.specs.List.{list_any}
use Rattle.std.proofs.lemmas.Bool.{both_ways, ne_eqb}
use Rattle.std.proofs.lemmas.List.{take_at, length-append}
use Rattle.std.proofs.lemmas.List.Elements.{All-nil, All-cons, All-head, All-tail}
use Rattle.hol_terms.specs.Definition.{Definition}
use Rattle.hol_terms.specs.Sequent.{Sequent}
use Rattle.hol_terms.specs.Base.{base}
use Rattle.hol_terms.specs.declared.defs.Def.{Def}
use Rattle.hol_kernel.specs.State.{State}
use Rattle.hol_kernel.specs.declared.step.Step.{Step}
use Rattle.hol_kernel.specs.declared.step.Step.TheVariants.{TypeAbs, TypeRep}
use Rattle.proof_log.specs.declared.marks.Mark.{Mark}
use Rattle.proof_log.specs.Marks.{is_second, IsPlace, made_by, AreInOrder}
use Rattle.proof_log.specs.Written.{marks_at}
use Rattle.proof_log.proofs.Fronts.{get_last, get_taken, made_at_least, IsFront}

-- a state that is the front of another has its first definitions
front_defs : (k : State) (K : State) (more : List Definition) (m : ℕ) → K.defs ≡ k.defs ++ more → m ≡ length k.defs → take m K.defs ≡ k.defs
front_defs k K more m e h = ap (take m) e ∙ take_at k.defs more m (sym h)

-- the definitions at the base mark's place
pub base_there : (n at : ℕ) (DS : List Def) (SS : List Step) (K : State) (ds : List Def) (ss : List Step) (k : State) → IsFront DS SS K ds ss k → made_by ss ≡ length k.defs → at ≡ length ss
    → take (made_by (take at SS)) K.defs ≡ base n → k.defs ≡ base n
base_there n at DS SS K ds ss k f made here exact =
    let front : take at SS ≡ ss = ap (take at) f.ss_are ∙ take_at ss f.more_ss at (sym here) in
    let count : made_by (take at SS) ≡ length k.defs = ap made_by front ∙ made in
    sym (front_defs k K f.more_defs (made_by (take at SS)) f.defs_are count) ∙ exact

-- the definition that the front's last step makes, where the base mark comes later
pub next_there : (n at : ℕ) (DS : List Def) (SS : List Step) (K : State) (ds : List Def) (ss : List Step) (defs : List Definition) (d : Definition) (steps : List Sequent)
    → IsFront DS SS K ds ss (record { defs = defs ++ d ∷ []; steps = steps }) → made_by ss ≡ length (defs ++ d ∷ []) → length ss ≤ at
    → take (made_by (take at SS)) K.defs ≡ base n → slice_get (base n) (length defs) ≡ Some d
next_there n at DS SS K ds ss defs d steps f made later exact =
    let least : made_by ss ≤ made_by (take at (ss ++ f.more_ss)) = made_at_least ss f.more_ss at later in
    let same : made_by (take at SS) ≡ made_by (take at (ss ++ f.more_ss)) = ap (λ ts. made_by (take at ts)) f.ss_are in
    let size = length-append defs (d ∷ []) in
    let within : length defs < made_by (take at SS) = omega arith in
    ap (λ es. slice_get es (length defs)) (sym exact) ∙ get_taken K.defs (made_by (take at SS)) (length defs) within ∙ ap (λ es. slice_get es (length defs)) f.defs_are ∙ get_last defs d f.more_defs

-- ---- order

pub all_later : (first at : ℕ) (ms : List Mark) → first ≤ at → AreInOrder at ms → All (λ m. first ≤ m.at) ms
all_later first at [] h o = All-nil (λ m. first ≤ m.at)
all_later first at (m ∷ ms) h o = let here : first ≤ m.at = let low = o.0 in omega arith in All-cons (λ x. first ≤ x.at) m ms here (all_later first m.at ms here o.1)

-- ---- between the two steps of a type's definition

pub not_between : (SS ss more : List Step) (i at : ℕ) → SS ≡ (ss ++ TypeAbs i ∷ TypeRep i ∷ []) ++ more → IsPlace SS at → at ≡ suc (length ss) → ⊥
not_between SS ss more i at e h g =
    let second : slice_get SS at ≡ Some (TypeRep i) = (λ j. slice_get (e j) (g j)) ∙ there ss in
    both_ways (list_any is_second (option_to_list (slice_get SS at))) h.apart (ap (λ o. list_any is_second (option_to_list o)) second)
  where
    there : (xs : List Step) → slice_get ((xs ++ TypeAbs i ∷ TypeRep i ∷ []) ++ more) (suc (length xs)) ≡ Some (TypeRep i)
    there [] = refl
    there (x ∷ xs) = there xs

pub apart_from : (SS ss more : List Step) (i at : ℕ) → SS ≡ (ss ++ TypeAbs i ∷ TypeRep i ∷ []) ++ more → IsPlace SS at → (at == suc (length ss)) ≡ false
apart_from SS ss more i at e h = ne_eqb at (suc (length ss)) (not_between SS ss more i at e h)

pub none_between : (K : State) (SS ss more : List Step) (i : ℕ) (marks : List Mark) → SS ≡ (ss ++ TypeAbs i ∷ TypeRep i ∷ []) ++ more → All (λ m. IsPlace SS m.at) marks → marks_at K marks (suc (length ss)) ≡ []
none_between K SS ss more i [] e h = refl
none_between K SS ss more i (m ∷ ms) e h = rw (apart_from SS ss more i m.at e (All-head (λ x. IsPlace SS x.at) m ms h)) (none_between K SS ss more i ms e (All-tail (λ x. IsPlace SS x.at) m ms h))
