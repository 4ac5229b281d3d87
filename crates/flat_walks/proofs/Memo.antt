-- What is known of the entries of a memo, and numbers that later tables keep.
use Rattle.std.proofs.Common.{◌≡◌, ◌⊎◌, inl, inr, Bool, true, false, cond, List, [], ◌∷◌, Some, refl, sym, subst, ◌∙◌}
use Rattle.std.specs.Map.{lookup}
use Rattle.indexmap.specs.IndexMap.{insert_entry}
use Rattle.hol_terms.specs.Tm.{Tm}
use Rattle.flat_terms.specs.declared.nodes.TermId.{TermId}
use Rattle.flat_terms.specs.Plain.{PlainTables, IsTermAdded}
use Rattle.flat_walks.specs.Walk.{Grows}
use Rattle.flat_walks.specs.Number.{IsNumber, AreAll}
use Rattle.flat_walks.proofs.Steps.{added_has, added_is}

pub number_later : (t u : PlainTables) (r : TermId) (x : Tm) → IsNumber t r x → Grows t u → IsNumber u r x
number_later t u r x n g = record { has = g.has r n.has; tree = g.same r n.has ∙ n.tree }

pub number_is : (t : PlainTables) (r : TermId) (x y : Tm) → IsNumber t r x → x ≡ y → IsNumber t r y
number_is t r x y n e = record { has = n.has; tree = n.tree ∙ e }

pub number_added : (t u : PlainTables) (r : TermId) (x : Tm) → IsTermAdded t u r x → IsNumber u r x
number_added t u r x a = record { has = added_has t u r x a; tree = added_is t u r x a }

pub all_weaker : {K V : Type 0} (P Q : K → V → Type 0) (es : List (K × V)) → ((k : K) (v : V) → P k v → Q k v) → AreAll P es → AreAll Q es
all_weaker P Q [] f a = tt
all_weaker P Q (e ∷ es) f a = (f e.0 e.1 a.0, all_weaker P Q es f a.1)

-- a memo whose keys are told apart by a test
module _ {K V : Type 0} (same : K → K → Bool) (sound : (p q : K) → same p q ≡ true → p ≡ q) (P : K → V → Type 0) where
  pub found_all : (es : List (K × V)) (p : K) (r : V) → AreAll P es → lookup (λ k. same p k) es ≡ Some r → P p r
  found_all [] p r a e = cc
  found_all (x ∷ es) p r a e = at (same p x.0) refl (found_all es p r a.1) e
    where
      at : (b : Bool) → same p x.0 ≡ b → (lookup (λ k. same p k) es ≡ Some r → P p r) → cond b (Some x.1) (lookup (λ k. same p k) es) ≡ Some r → P p r
      at true s later h =
          let value : x.1 ≡ r = cc in
          subst (λ (y : V). P p y) value (subst (λ (q : K). P q x.1) (sym (sound p x.0 s)) a.0)
      at false s later h = later h

  pub inserted_all : (es : List (K × V)) (p : K) (r : V) → AreAll P es → P p r → AreAll P (insert_entry same es p r)
  inserted_all [] p r a h = (h, tt)
  inserted_all (x ∷ es) p r a h = at (same p x.0) refl (inserted_all es p r a.1 h)
    where
      at : (b : Bool) → same p x.0 ≡ b → AreAll P (insert_entry same es p r) → AreAll P (cond b ((x.0, r) ∷ es) (x ∷ insert_entry same es p r))
      at true s later = (subst (λ (q : K). P q r) (sound p x.0 s) h, a.1)
      at false s later = (a.0, later)

  -- a list that stays, or has the entry
  pub noted_all : (es fs : List (K × V)) (p : K) (r : V) → AreAll P es → P p r → (fs ≡ es) ⊎ (fs ≡ insert_entry same es p r) → AreAll P fs
  noted_all es fs p r a h (inl e) = subst (λ (l : List (K × V)). AreAll P l) (sym e) a
  noted_all es fs p r a h (inr e) = subst (λ (l : List (K × V)). AreAll P l) (sym e) (inserted_all es p r a h)
