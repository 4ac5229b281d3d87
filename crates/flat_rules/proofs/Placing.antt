-- Hypothesis lists over the tables, a hypothesis at a time.
use Rattle.std.proofs.Common.{◌≡◌, ℕ, ◌+◌, ◌<◌, ◌≤◌, Bool, true, false, List, [], ◌∷◌, ◌++◌, length, get_or, take, drop, Some, refl, ap, sym, subst, ◌∙◌, arith, add-one, drop-cons, drop_of_length-le, take-suc, append_assoc}
use Rattle.std.proofs.lemmas.List.{map-append, take-map, drop-map, length-map, take-append-drop, append-nil}
use Rattle.std.specs.List.{insert}
use Rattle.std.specs.declared.cmp.Ordering.TheVariants.{Less, Equal, Greater}
use Rattle.hol_terms.specs.Tm.{Tm, FreeVar}
use Rattle.hol_terms.specs.Binding.{tm_cmp, has_free}
use Rattle.hol_terms.specs.Sequent.{insert_hyp, union}
use Rattle.hol_terms.specs.Rules.{same, keep_if, without, both, no, free_in_none}
use Rattle.hol_terms.proofs.Same.{same-is, same_refl}
use Rattle.flat_terms.specs.declared.nodes.TermId.{TermId}
use Rattle.flat_terms.specs.Plain.{PlainTables, HasTerm, term_of}
use Rattle.flat_rules.specs.Sequents.{HasTerms, terms_of, AreNumbers}
use Rattle.flat_rules.specs.Places.{IsPlace}
use Rattle.flat_rules.proofs.Numbers.{has_append, has_insert, terms-insert}

-- what is put in so far, and what is left
abbrev pub IsPlacing : PlainTables → TermId → List TermId → ℕ → Type 0
IsPlacing t n ns i = insert_hyp (term_of t n) (terms_of t ns) ≡ terms_of t (take i ns) ++ insert_hyp (term_of t n) (terms_of t (drop i ns))

placed_at : (t : PlainTables) (n : TermId) (ns : List TermId) (i : ℕ) → IsPlacing t n ns i → insert_hyp (term_of t n) (terms_of t (drop i ns)) ≡ term_of t n ∷ terms_of t (drop i ns)
    → insert_hyp (term_of t n) (terms_of t ns) ≡ insert (terms_of t ns) i (term_of t n)
placed_at t n ns i p e = p ∙ ap (λ l. terms_of t (take i ns) ++ l) e ∙ (λ j. sym (take-map (term_of t) i ns) j ++ term_of t n ∷ sym (drop-map (term_of t) i ns) j)

pub place_less : (t : PlainTables) (n : TermId) (ns : List TermId) (i : ℕ) (d : TermId) → i < length ns → IsPlacing t n ns i → tm_cmp (term_of t n) (term_of t (get_or ns i d)) ≡ Less → IsPlace (term_of t n) (terms_of t ns) (Some i)
place_less t n ns i d h p e = (within, placed_at t n ns i p here)
  where
    here : insert_hyp (term_of t n) (terms_of t (drop i ns)) ≡ term_of t n ∷ terms_of t (drop i ns)
    here = rw (drop-cons ns i d h, e) refl

    within : i ≤ length (terms_of t ns)
    within = omega (arith, length-map ns (term_of t))

pub place_equal : (t : PlainTables) (n : TermId) (ns : List TermId) (i : ℕ) (d : TermId) → i < length ns → IsPlacing t n ns i → tm_cmp (term_of t n) (term_of t (get_or ns i d)) ≡ Equal → insert_hyp (term_of t n) (terms_of t ns) ≡ terms_of t ns
place_equal t n ns i d h p e = p ∙ ap (λ l. terms_of t (take i ns) ++ l) here ∙ sym (map-append (term_of t) (take i ns) (drop i ns)) ∙ ap (terms_of t) (take-append-drop i ns)
  where
    here : insert_hyp (term_of t n) (terms_of t (drop i ns)) ≡ terms_of t (drop i ns)
    here = rw (drop-cons ns i d h, e) refl

pub place_greater : (t : PlainTables) (n : TermId) (ns : List TermId) (i : ℕ) (d : TermId) → i < length ns → IsPlacing t n ns i → tm_cmp (term_of t n) (term_of t (get_or ns i d)) ≡ Greater → IsPlacing t n ns (i + 1)
place_greater t n ns i d h p e = p ∙ ap (λ l. terms_of t (take i ns) ++ l) here ∙ sym (append_assoc (terms_of t (take i ns)) (term_of t (get_or ns i d) ∷ []) _) ∙ ap (λ l. l ++ insert_hyp (term_of t n) (terms_of t (drop (i + 1) ns))) front
  where
    here : insert_hyp (term_of t n) (terms_of t (drop i ns)) ≡ term_of t (get_or ns i d) ∷ insert_hyp (term_of t n) (terms_of t (drop (i + 1) ns))
    here = rw (add-one, drop-cons ns i d h, e) refl

    front : terms_of t (take i ns) ++ term_of t (get_or ns i d) ∷ [] ≡ terms_of t (take (i + 1) ns)
    front = sym (map-append (term_of t) (take i ns) (get_or ns i d ∷ [])) ∙ sym (ap (terms_of t) (rw add-one (take-suc ns i d h)))

pub place_end : (t : PlainTables) (n : TermId) (ns : List TermId) (i : ℕ) → length ns ≤ i → i ≤ length ns → IsPlacing t n ns i → IsPlace (term_of t n) (terms_of t ns) (Some (length ns))
place_end t n ns i h k p = subst (λ (j : ℕ). IsPlace (term_of t n) (terms_of t ns) (Some j)) same_place (within, placed_at t n ns i p here)
  where
    same_place : i ≡ length ns
    same_place = omega arith

    here : insert_hyp (term_of t n) (terms_of t (drop i ns)) ≡ term_of t n ∷ terms_of t (drop i ns)
    here = rw (drop_of_length-le ns h) refl

    within : i ≤ length (terms_of t ns)
    within = omega (arith, length-map ns (term_of t))

pub inserted : (t : PlainTables) (n : TermId) (ns : List TermId) (i : ℕ) → HasTerms t ns → HasTerm t n → insert_hyp (term_of t n) (terms_of t ns) ≡ insert (terms_of t ns) i (term_of t n)
    → AreNumbers t (insert ns i n) (insert_hyp (term_of t n) (terms_of t ns))
inserted t n ns i h k e = record { has = has_insert t ns i n h k; trees = terms-insert t ns i n ∙ sym e }

-- the union of what is left with what was put in
pub record IsUniting (t : PlainTables) (a b ns : List TermId) (i : ℕ) : Type 0 where
  pub has : HasTerms t ns
  pub rest : union (terms_of t a) (terms_of t b) ≡ union (terms_of t (drop i a)) (terms_of t ns)

pub union_more : (t : PlainTables) (a b ns ms : List TermId) (i : ℕ) (d : TermId) → i < length a → IsUniting t a b ns i → AreNumbers t ms (insert_hyp (term_of t (get_or a i d)) (terms_of t ns)) → IsUniting t a b ms (i + 1)
union_more t a b ns ms i d h u m = record { has = m.has; rest = u.rest ∙ here ∙ ap (λ l. union (terms_of t (drop (i + 1) a)) l) (sym m.trees) }
  where
    here : union (terms_of t (drop i a)) (terms_of t ns) ≡ union (terms_of t (drop (i + 1) a)) (insert_hyp (term_of t (get_or a i d)) (terms_of t ns))
    here = rw (add-one, drop-cons a i d h) refl

pub union_done : (t : PlainTables) (a b ns : List TermId) (i : ℕ) → length a ≤ i → IsUniting t a b ns i → AreNumbers t ns (union (terms_of t a) (terms_of t b))
union_done t a b ns i h u = record { has = u.has; trees = sym (u.rest ∙ over) }
  where
    over : union (terms_of t (drop i a)) (terms_of t ns) ≡ terms_of t ns
    over = rw (drop_of_length-le a h) refl

pub same_no : (x y : Tm) → (x ≡ y → ⊥) → same x y ≡ false
same_no x y n = at (same x y) refl
  where
    at : (b : Bool) → same x y ≡ b → b ≡ false
    at true e = absurd (n (same-is x y e))
    at false e = refl

pub same_yes : (x y : Tm) → x ≡ y → same x y ≡ true
same_yes x y e = subst (λ (z : Tm). same x z ≡ true) e (same_refl x)

-- the hypotheses but for one, as far as they were looked at
pub record IsLeaving (t : PlainTables) (n : TermId) (hs ns : List TermId) (i : ℕ) : Type 0 where
  pub has : HasTerms t ns
  pub rest : without (term_of t n) (terms_of t hs) ≡ terms_of t ns ++ without (term_of t n) (terms_of t (drop i hs))

without_here : (t : PlainTables) (n : TermId) (hs : List TermId) (i : ℕ) (d : TermId) → i < length hs
    → without (term_of t n) (terms_of t (drop i hs)) ≡ keep_if (same (term_of t n) (term_of t (get_or hs i d))) (term_of t (get_or hs i d)) (without (term_of t n) (terms_of t (drop (i + 1) hs)))
without_here t n hs i d h = rw (add-one, drop-cons hs i d h) refl

pub leave_out : (t : PlainTables) (n : TermId) (hs ns : List TermId) (i : ℕ) (d : TermId) → i < length hs → IsLeaving t n hs ns i → term_of t n ≡ term_of t (get_or hs i d) → IsLeaving t n hs ns (i + 1)
leave_out t n hs ns i d h l e =
    let rest : List Tm = without (term_of t n) (terms_of t (drop (i + 1) hs)) in
    record { has = l.has; rest = l.rest ∙ ap (λ r. terms_of t ns ++ r) (without_here t n hs i d h ∙ ap (λ b. keep_if b (term_of t (get_or hs i d)) rest) (same_yes (term_of t n) (term_of t (get_or hs i d)) e)) }

pub leave_in : (t : PlainTables) (n : TermId) (hs ns : List TermId) (i : ℕ) (d : TermId) → i < length hs → HasTerm t (get_or hs i d) → IsLeaving t n hs ns i → (term_of t n ≡ term_of t (get_or hs i d) → ⊥)
    → IsLeaving t n hs (ns ++ get_or hs i d ∷ []) (i + 1)
leave_in t n hs ns i d h k l e =
    let rest : List Tm = without (term_of t n) (terms_of t (drop (i + 1) hs)) in
    let hyp : TermId = get_or hs i d in
    record {
      has = has_append t ns (hyp ∷ []) l.has (k, tt);
      rest = l.rest ∙ ap (λ r. terms_of t ns ++ r) (without_here t n hs i d h ∙ ap (λ b. keep_if b (term_of t hyp) rest) (same_no (term_of t n) (term_of t hyp) e)) ∙ sym (append_assoc (terms_of t ns) (term_of t hyp ∷ []) rest)
          ∙ ap (λ r. r ++ rest) (sym (map-append (term_of t) ns (hyp ∷ [])));
    }

pub leave_done : (t : PlainTables) (n : TermId) (hs ns : List TermId) (i : ℕ) → length hs ≤ i → IsLeaving t n hs ns i → AreNumbers t ns (without (term_of t n) (terms_of t hs))
leave_done t n hs ns i h l = record { has = l.has; trees = sym (l.rest ∙ over) }
  where
    over : terms_of t ns ++ without (term_of t n) (terms_of t (drop i hs)) ≡ terms_of t ns
    over = rw (drop_of_length-le hs h) (append-nil (terms_of t ns))

-- whether a variable is free in what is left
free_here : (t : PlainTables) (v : FreeVar) (hs : List TermId) (i : ℕ) (d : TermId) → i < length hs
    → free_in_none v (terms_of t (drop i hs)) ≡ both (no (has_free v (term_of t (get_or hs i d)))) (free_in_none v (terms_of t (drop (i + 1) hs)))
free_here t v hs i d h = rw (add-one, drop-cons hs i d h) refl

pub free_found : (t : PlainTables) (v : FreeVar) (hs : List TermId) (i : ℕ) (d : TermId) → i < length hs → true ≡ has_free v (term_of t (get_or hs i d)) → false ≡ free_in_none v (terms_of t (drop i hs))
free_found t v hs i d h e = sym (free_here t v hs i d h ∙ ap (λ b. both (no b) (free_in_none v (terms_of t (drop (i + 1) hs)))) (sym e))

pub free_more : (t : PlainTables) (v : FreeVar) (hs : List TermId) (i : ℕ) (d : TermId) → i < length hs → false ≡ has_free v (term_of t (get_or hs i d)) → free_in_none v (terms_of t (drop i hs)) ≡ free_in_none v (terms_of t (drop (i + 1) hs))
free_more t v hs i d h e = free_here t v hs i d h ∙ ap (λ b. both (no b) (free_in_none v (terms_of t (drop (i + 1) hs)))) (sym e)

pub free_over : (t : PlainTables) (v : FreeVar) (hs : List TermId) (i : ℕ) → length hs ≤ i → free_in_none v (terms_of t (drop i hs)) ≡ true
free_over t v hs i h = rw (drop_of_length-le hs h) refl
