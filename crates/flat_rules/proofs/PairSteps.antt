-- Pairs in tables that grew, and tests of pairs, a pair at a time.
use Rattle.std.proofs.Common.{◌≡◌, ℕ, zero, suc, ◌+◌, ◌<◌, ◌≤◌, Bool, true, false, List, [], ◌∷◌, length, get_or, drop, ◌-◌, ◌||◌, bytes_eq, nat_eq, take, refl, ap, sym, subst, ◌∙◌, arith, add-one, drop-cons, drop_of_length-le, true≢false, length-drop}
use Rattle.std.proofs.lemmas.List.{take_all}
use Rattle.std.proofs.lemmas.Bool.{eqb-true, eq-eqb}
use Rattle.std.proofs.lemmas.Slice.Eq.{bytes_eq-Decides}
use Rattle.std.specs.Ordering.{is_eq}
use Rattle.std.specs.List.{list_any}
use Rattle.hol_terms.specs.Ty.{Ty}
use Rattle.hol_terms.specs.Tm.{Tm, tm_free}
use Rattle.hol_terms.specs.Typing.{tm_type}
use Rattle.hol_terms.specs.Binding.{var_eq}
use Rattle.hol_terms.specs.Subst.{ty_cmp}
use Rattle.hol_terms.specs.Rules.{both, no, same_ty, are_distinct_types, are_distinct_vars, keeps_types}
use Rattle.hol_terms.proofs.Order.{var_eq-same, is_eq-same, ty_cmp-same}
use Rattle.hol_terms.proofs.Same.{same_ty-from}
use Rattle.hol_terms.proofs.Opened.{var_self}
use Rattle.flat_terms.specs.declared.nodes.NameId.{NameId}
use Rattle.flat_terms.specs.declared.nodes.TypeId.{TypeId}
use Rattle.flat_terms.specs.declared.nodes.TermId.{TermId}
use Rattle.flat_terms.specs.Plain.{PlainTables, HasName, HasTerm, name_of, name_at, type_of, term_of}
use Rattle.flat_terms.specs.Trees.{Distinct}
use Rattle.flat_walks.specs.Walk.{IsVariable, var_of}
use Rattle.flat_instances.specs.Types.{HasTypePairs, type_pairs}
use Rattle.flat_instances.specs.Terms.{HasTermPairs, term_pairs}
use Rattle.flat_instances.specs.TablesGrow.{TablesGrow}
use Rattle.flat_instances.proofs.TypeSteps.{pair_has}
use Rattle.flat_rules.specs.Sequents.{HasVariablePairs}

pub variable_later : (s t : PlainTables) (v : TermId) → TablesGrow s t → IsVariable s v → IsVariable t v
variable_later s t v g i = (g.has_term v i.0, subst (λ (x : Tm). x ≡ tm_free (var_of x)) (sym (g.same_term v i.0)) i.1)

pub term_pairs_there : (s t : PlainTables) (ps : List (TermId × TermId)) → TablesGrow s t → HasTermPairs s ps → HasTermPairs t ps
term_pairs_there s t [] g h = tt
term_pairs_there s t (p ∷ ps) g h =
    (variable_later s t p.0 g h.0, g.has_term p.1 h.1, ap tm_type (g.same_term p.1 h.1) ∙ h.2 ∙ sym (ap (λ x. (var_of x).ty) (g.same_term p.0 h.0.0)), term_pairs_there s t ps g h.3)

pub term_pairs_same : (s t : PlainTables) (ps : List (TermId × TermId)) → TablesGrow s t → HasTermPairs s ps → term_pairs t ps ≡ term_pairs s ps
term_pairs_same s t [] g h = refl
term_pairs_same s t (p ∷ ps) g h = λ j. (var_of (g.same_term p.0 h.0.0 j), g.same_term p.1 h.1 j) ∷ term_pairs_same s t ps g h.3 j

pub type_pairs_there : (s t : PlainTables) (ps : List (NameId × TypeId)) → TablesGrow s t → HasTypePairs s ps → HasTypePairs t ps
type_pairs_there s t [] g h = tt
type_pairs_there s t (p ∷ ps) g h = (g.has_name p.0 h.0, g.has_type p.1 h.1, type_pairs_there s t ps g h.2)

pub type_pairs_same : (s t : PlainTables) (ps : List (NameId × TypeId)) → TablesGrow s t → HasTypePairs s ps → type_pairs t ps ≡ type_pairs s ps
type_pairs_same s t [] g h = refl
type_pairs_same s t (p ∷ ps) g h = λ j. (g.same_name p.0 h.0 j, g.same_type p.1 h.1 j) ∷ type_pairs_same s t ps g h.2 j

pub type_pairs_from : (t : PlainTables) (ps : List (NameId × TypeId)) (i : ℕ) → HasTypePairs t ps → HasTypePairs t (drop i ps)
type_pairs_from t [] zero h = tt
type_pairs_from t [] (suc i) h = tt
type_pairs_from t (p ∷ ps) zero h = h
type_pairs_from t (p ∷ ps) (suc i) h = type_pairs_from t ps i h.2

pub variable_pairs_from : (t : PlainTables) (ps : List (TermId × TermId)) (i : ℕ) → HasVariablePairs t ps → HasVariablePairs t (drop i ps)
variable_pairs_from t [] zero h = tt
variable_pairs_from t [] (suc i) h = tt
variable_pairs_from t (p ∷ ps) zero h = h
variable_pairs_from t (p ∷ ps) (suc i) h = variable_pairs_from t ps i h.2

pub variable_pair_has : (t : PlainTables) (ps : List (TermId × TermId)) (i : ℕ) (d : TermId × TermId) → HasVariablePairs t ps → i < length ps → IsVariable t (get_or ps i d).0 × HasTerm t (get_or ps i d).1
variable_pair_has t [] i d h l = absurd (omega arith)
variable_pair_has t (p ∷ ps) zero d h l = (h.0, h.1)
variable_pair_has t (p ∷ ps) (suc i) d h l = let k : i < length ps = omega arith in variable_pair_has t ps i d h.2 k

-- a test of the names, or of the variables, of what is left
abbrev pub any_name : PlainTables → NameId → List (NameId × TypeId) → Bool
any_name t n ps = list_any (λ q. bytes_eq (name_of t n) q.0) (type_pairs t ps)

pub any_name_here : (t : PlainTables) (n : NameId) (ps : List (NameId × TypeId)) (i : ℕ) (d : NameId × TypeId) → i < length ps → any_name t n (drop i ps) ≡ (bytes_eq (name_of t n) (name_of t (get_or ps i d).0) || any_name t n (drop (i + 1) ps))
any_name_here t n ps i d h = rw (add-one, drop-cons ps i d h) refl

pub any_name_over : (t : PlainTables) (n : NameId) (ps : List (NameId × TypeId)) (i : ℕ) → length ps ≤ i → any_name t n (drop i ps) ≡ false
any_name_over t n ps i h = rw (drop_of_length-le ps h) refl

abbrev pub any_variable : PlainTables → TermId → List (TermId × TermId) → Bool
any_variable t n ps = list_any (λ q. var_eq (var_of (term_of t n)) q.0) (term_pairs t ps)

pub any_variable_here : (t : PlainTables) (n : TermId) (ps : List (TermId × TermId)) (i : ℕ) (d : TermId × TermId) → i < length ps
    → any_variable t n (drop i ps) ≡ (var_eq (var_of (term_of t n)) (var_of (term_of t (get_or ps i d).0)) || any_variable t n (drop (i + 1) ps))
any_variable_here t n ps i d h = rw (add-one, drop-cons ps i d h) refl

pub any_variable_over : (t : PlainTables) (n : TermId) (ps : List (TermId × TermId)) (i : ℕ) → length ps ≤ i → any_variable t n (drop i ps) ≡ false
any_variable_over t n ps i h = rw (drop_of_length-le ps h) refl

pub any_variable_found : (t : PlainTables) (n : TermId) (ps : List (TermId × TermId)) (i : ℕ) (d : TermId × TermId) → i < length ps → term_of t (get_or ps i d).0 ≡ term_of t n → any_variable t n (drop i ps) ≡ true
any_variable_found t n ps i d h e = any_variable_here t n ps i d h ∙ ap (λ b. b || any_variable t n (drop (i + 1) ps)) (ap (λ x. var_eq (var_of (term_of t n)) (var_of x)) e ∙ var_self (var_of (term_of t n)))

pub any_variable_more : (t : PlainTables) (n : TermId) (ps : List (TermId × TermId)) (i : ℕ) (d : TermId × TermId) → i < length ps → IsVariable t (get_or ps i d).0 → IsVariable t n → (term_of t (get_or ps i d).0 ≡ term_of t n → ⊥)
    → any_variable t n (drop i ps) ≡ any_variable t n (drop (i + 1) ps)
any_variable_more t n ps i d h k w other = any_variable_here t n ps i d h ∙ at (var_eq (var_of (term_of t n)) (var_of (term_of t (get_or ps i d).0))) refl
  where
    at : (b : Bool) → var_eq (var_of (term_of t n)) (var_of (term_of t (get_or ps i d).0)) ≡ b → (b || any_variable t n (drop (i + 1) ps)) ≡ any_variable t n (drop (i + 1) ps)
    at true e = absurd (other (k.1 ∙ ap tm_free (sym (var_eq-same (var_of (term_of t n)) (var_of (term_of t (get_or ps i d).0)) e)) ∙ sym w.1))
    at false e = refl

-- the tests of all pairs
pub distinct_names_here : (t : PlainTables) (ps : List (NameId × TypeId)) (i : ℕ) (d : NameId × TypeId) → i < length ps
    → are_distinct_types (type_pairs t (drop i ps)) ≡ both (no (any_name t (get_or ps i d).0 (drop (i + 1) ps))) (are_distinct_types (type_pairs t (drop (i + 1) ps)))
distinct_names_here t ps i d h = rw (add-one, drop-cons ps i d h) refl

pub distinct_names_over : (t : PlainTables) (ps : List (NameId × TypeId)) (i : ℕ) → length ps ≤ i → are_distinct_types (type_pairs t (drop i ps)) ≡ true
distinct_names_over t ps i h = rw (drop_of_length-le ps h) refl

pub distinct_variables_here : (t : PlainTables) (ps : List (TermId × TermId)) (i : ℕ) (d : TermId × TermId) → i < length ps
    → are_distinct_vars (term_pairs t (drop i ps)) ≡ both (no (any_variable t (get_or ps i d).0 (drop (i + 1) ps))) (are_distinct_vars (term_pairs t (drop (i + 1) ps)))
distinct_variables_here t ps i d h = rw (add-one, drop-cons ps i d h) refl

pub distinct_variables_over : (t : PlainTables) (ps : List (TermId × TermId)) (i : ℕ) → length ps ≤ i → are_distinct_vars (term_pairs t (drop i ps)) ≡ true
distinct_variables_over t ps i h = rw (drop_of_length-le ps h) refl

pub types_here : (t : PlainTables) (ps : List (TermId × TermId)) (i : ℕ) (d : TermId × TermId) → i < length ps
    → keeps_types (term_pairs t (drop i ps)) ≡ both (same_ty (tm_type (term_of t (get_or ps i d).1)) (var_of (term_of t (get_or ps i d).0)).ty) (keeps_types (term_pairs t (drop (i + 1) ps)))
types_here t ps i d h = rw (add-one, drop-cons ps i d h) refl

pub types_over : (t : PlainTables) (ps : List (TermId × TermId)) (i : ℕ) → length ps ≤ i → keeps_types (term_pairs t (drop i ps)) ≡ true
types_over t ps i h = rw (drop_of_length-le ps h) refl

-- all that a slice from a place on has
pub rest_of : {A : Type 0} (ps : List A) (i : ℕ) → take (length ps - i) (drop i ps) ≡ drop i ps
rest_of ps i = take_all (length ps - i) (drop i ps) (omega (arith, length-drop i ps))

pub name_found : (t : PlainTables) (n : NameId) (ps : List (NameId × TypeId)) (i : ℕ) (d : NameId × TypeId) → i < length ps → nat_eq (get_or ps i d).0.0 n.0 ≡ true → any_name t n (drop i ps) ≡ true
name_found t n ps i d h e =
    let number : (get_or ps i d).0.0 ≡ n.0 = eqb-true (get_or ps i d).0.0 n.0 e in
    any_name_here t n ps i d h ∙ ap (λ b. b || any_name t n (drop (i + 1) ps)) (ap (λ k. bytes_eq (name_of t n) (name_at t.names k)) number ∙ (bytes_eq-Decides (name_of t n) (name_of t n)).1 refl)

pub name_more : (t : PlainTables) (n : NameId) (ps : List (NameId × TypeId)) (i : ℕ) (d : NameId × TypeId) → i < length ps → Distinct [] t.names → HasName t (get_or ps i d).0 → HasName t n → nat_eq (get_or ps i d).0.0 n.0 ≡ false
    → any_name t n (drop i ps) ≡ any_name t n (drop (i + 1) ps)
name_more t n ps i d h once k w e = any_name_here t n ps i d h ∙ at (bytes_eq (name_of t n) (name_of t (get_or ps i d).0)) refl
  where
    at : (b : Bool) → bytes_eq (name_of t n) (name_of t (get_or ps i d).0) ≡ b → (b || any_name t n (drop (i + 1) ps)) ≡ any_name t n (drop (i + 1) ps)
    at true s =
        let number : n.0 ≡ (get_or ps i d).0.0 = once n.0 (get_or ps i d).0.0 w k ((bytes_eq-Decides (name_of t n) (name_of t (get_or ps i d).0)).0 s) in
        absurd (true≢false (sym (eq-eqb (get_or ps i d).0.0 n.0 (sym number)) ∙ e))
    at false s = refl

pub type_pair_has : (t : PlainTables) (ps : List (NameId × TypeId)) (i : ℕ) (d : NameId × TypeId) → HasTypePairs t ps → i < length ps → HasName t (get_or ps i d).0
type_pair_has t ps i d h l = (pair_has t ps i d h l).0

-- a test of the rest, in a slice
pub distinct_names_not : (t : PlainTables) (ps : List (NameId × TypeId)) (i : ℕ) (d : NameId × TypeId) → i < length ps → true ≡ any_name t (get_or ps i d).0 (take (length ps - (i + 1)) (drop (i + 1) ps)) → are_distinct_types (type_pairs t (drop i ps)) ≡ false
distinct_names_not t ps i d h e = distinct_names_here t ps i d h ∙ ap (λ b. both (no b) (are_distinct_types (type_pairs t (drop (i + 1) ps)))) (sym (e ∙ ap (any_name t (get_or ps i d).0) (rest_of ps (i + 1))))

pub distinct_names_more : (t : PlainTables) (ps : List (NameId × TypeId)) (i : ℕ) (d : NameId × TypeId) → i < length ps → false ≡ any_name t (get_or ps i d).0 (take (length ps - (i + 1)) (drop (i + 1) ps))
    → are_distinct_types (type_pairs t (drop i ps)) ≡ are_distinct_types (type_pairs t (drop (i + 1) ps))
distinct_names_more t ps i d h e = distinct_names_here t ps i d h ∙ ap (λ b. both (no b) (are_distinct_types (type_pairs t (drop (i + 1) ps)))) (sym (e ∙ ap (any_name t (get_or ps i d).0) (rest_of ps (i + 1))))

pub distinct_variables_not : (t : PlainTables) (ps : List (TermId × TermId)) (i : ℕ) (d : TermId × TermId) → i < length ps → true ≡ any_variable t (get_or ps i d).0 (take (length ps - (i + 1)) (drop (i + 1) ps)) → are_distinct_vars (term_pairs t (drop i ps)) ≡ false
distinct_variables_not t ps i d h e = distinct_variables_here t ps i d h ∙ ap (λ b. both (no b) (are_distinct_vars (term_pairs t (drop (i + 1) ps)))) (sym (e ∙ ap (any_variable t (get_or ps i d).0) (rest_of ps (i + 1))))

pub distinct_variables_more : (t : PlainTables) (ps : List (TermId × TermId)) (i : ℕ) (d : TermId × TermId) → i < length ps → false ≡ any_variable t (get_or ps i d).0 (take (length ps - (i + 1)) (drop (i + 1) ps))
    → are_distinct_vars (term_pairs t (drop i ps)) ≡ are_distinct_vars (term_pairs t (drop (i + 1) ps))
distinct_variables_more t ps i d h e = distinct_variables_here t ps i d h ∙ ap (λ b. both (no b) (are_distinct_vars (term_pairs t (drop (i + 1) ps)))) (sym (e ∙ ap (any_variable t (get_or ps i d).0) (rest_of ps (i + 1))))

-- types of a term and a variable, by numbers
pub same_ty_no : (a b : Ty) → (a ≡ b → ⊥) → same_ty a b ≡ false
unfolding same_ty
same_ty_no a b n = at (is_eq (ty_cmp a b)) refl
  where
    at : (o : Bool) → is_eq (ty_cmp a b) ≡ o → is_eq (ty_cmp a b) ≡ false
    at true e = absurd (n (ty_cmp-same a b (is_eq-same (ty_cmp a b) e)))
    at false e = e

pub same_ty_as : (a b x y : Ty) (r : Bool) → x ≡ a → y ≡ b → (r ≡ true → x ≡ y) × (x ≡ y → r ≡ true) → same_ty a b ≡ r
same_ty_as a b x y true e f h = same_ty-from a b (sym e ∙ h.0 refl ∙ f)
same_ty_as a b x y false e f h = same_ty_no a b (λ k. true≢false (sym (h.1 (e ∙ k ∙ sym f))))

pub types_step : (t : PlainTables) (ps : List (TermId × TermId)) (i : ℕ) (d : TermId × TermId) (x y : TypeId) (r : Bool) → i < length ps → HasVariablePairs t ps → type_of t x ≡ tm_type (term_of t (get_or ps i d).1) → type_of t y ≡ tm_type (term_of t (get_or ps i d).0)
    → (r ≡ true → type_of t x ≡ type_of t y) × (type_of t x ≡ type_of t y → r ≡ true) → keeps_types (term_pairs t (drop i ps)) ≡ both r (keeps_types (term_pairs t (drop (i + 1) ps)))
types_step t ps i d x y r h hp e f k =
    types_here t ps i d h ∙ ap (λ b. both b (keeps_types (term_pairs t (drop (i + 1) ps)))) (same_ty_as (tm_type (term_of t (get_or ps i d).1)) (var_of (term_of t (get_or ps i d).0)).ty (type_of t x) (type_of t y) r e (f ∙ ap tm_type (variable_pair_has t ps i d hp h).0.1) k)

pub same_ty_yes : (a b : Ty) → same_ty a b ≡ true → a ≡ b
unfolding same_ty
same_ty_yes a b e = ty_cmp-same a b (is_eq-same (ty_cmp a b) e)
