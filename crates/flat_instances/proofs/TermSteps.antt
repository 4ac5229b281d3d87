-- The steps of a walk that takes a term's instance.
use Rattle.std.proofs.Common.{◌≡◌, ℕ, zero, suc, ◌+◌, ◌<◌, ◌≤◌, Bool, true, false, cond, List, [], ◌∷◌, length, drop, get_or, Some, refl, ap, sym, subst, ◌∙◌, arith, add-one, drop-cons, drop_of_length-le}
use Rattle.std.proofs.lemmas.Bool.{eqb-true}
use Rattle.hol_terms.specs.Tm.{Tm, FreeVar, tm_free, tm_comb, tm_abs}
use Rattle.hol_terms.specs.Typing.{tm_type, fun_ty}
use Rattle.hol_terms.specs.Takes.{Takes}
use Rattle.hol_terms.specs.Keeps.{KeepsTypes}
use Rattle.hol_terms.specs.Binding.{tm_inst, var_eq, var_lookup}
use Rattle.hol_terms.proofs.KeptTypes.{tm_type-inst}
use Rattle.hol_terms.proofs.Order.{var_eq-same}
use Rattle.hol_terms.proofs.Opened.{var_self}
use Rattle.flat_terms.specs.declared.nodes.TermId.{TermId}
use Rattle.flat_terms.specs.declared.nodes.TypeId.{TypeId}
use Rattle.flat_terms.specs.Plain.{PlainTables, HasTerm, term_of, type_of, IsTermAdded}
use Rattle.flat_walks.specs.Walk.{var_of, IsVariable, Grows}
use Rattle.flat_walks.specs.Number.{IsNumber, AreAll}
use Rattle.flat_walks.proofs.Steps.{grows_itself, grows_further, grows_added, below_has, variable_kept}
use Rattle.flat_walks.proofs.Memo.{number_later, number_is, number_added, all_weaker, found_all, noted_all}
use Rattle.flat_walks.proofs.Opening.{takes_kept}
use Rattle.flat_instances.specs.Terms.{HasTermPairs, term_pairs, instance_of, IsInstance, TakesTerms, same_term_id, found_term, IsTermNoted}

pub term_id_same : (a b : TermId) → same_term_id a b ≡ true → a ≡ b
term_id_same a b e =
    let number : a.0 ≡ b.0 = eqb-true a.0 b.0 e in
    λ j. record { 0 = number j }

pub pairs_there : (s t : PlainTables) (ps : List (TermId × TermId)) → Grows s t → HasTermPairs s ps → HasTermPairs t ps
pairs_there s t [] g h = tt
pairs_there s t (p ∷ ps) g h =
    (variable_kept s t p.0 g h.0, g.has p.1 h.1, ap tm_type (g.same p.1 h.1) ∙ h.2 ∙ sym (ap (λ x. (var_of x).ty) (g.same p.0 h.0.0)), pairs_there s t ps g h.3)

pub pairs_same : (s t : PlainTables) (ps : List (TermId × TermId)) → Grows s t → HasTermPairs s ps → term_pairs t ps ≡ term_pairs s ps
pairs_same s t [] g h = refl
pairs_same s t (p ∷ ps) g h = λ j. (var_of (g.same p.0 h.0.0 j), g.same p.1 h.1 j) ∷ pairs_same s t ps g h.3 j

pub pairs_keep : (t : PlainTables) (ps : List (TermId × TermId)) → HasTermPairs t ps → KeepsTypes (term_pairs t ps)
pairs_keep t [] h = tt
pairs_keep t (p ∷ ps) h = (h.2, pairs_keep t ps h.3)

pub instance_there : (s t : PlainTables) (ps : List (TermId × TermId)) (n : TermId) → Grows s t → HasTermPairs s ps → HasTerm s n → instance_of t ps n ≡ instance_of s ps n
instance_there s t ps n g h hn = λ j. tm_inst (pairs_same s t ps g h j) (g.same n hn j)

pub term_memo_later : (s t : PlainTables) (ps es : List (TermId × TermId)) → Grows s t → HasTermPairs s ps → AreAll (IsInstance s ps) es → AreAll (IsInstance t ps) es
term_memo_later s t ps es g h a = all_weaker (IsInstance s ps) (IsInstance t ps) es later a
  where
    later : (n r : TermId) → IsInstance s ps n r → IsInstance t ps n r
    later n r i = record { has = g.has n i.has; number = number_is t r (instance_of s ps n) (instance_of t ps n) (number_later s t r (instance_of s ps n) i.number g) (sym (instance_there s t ps n g h i.has)) }

pub found_instance : (t : PlainTables) (ps es : List (TermId × TermId)) (n r : TermId) → AreAll (IsInstance t ps) es → found_term es n ≡ Some r → IsNumber t r (instance_of t ps n)
found_instance t ps es n r a e = (found_all same_term_id term_id_same (IsInstance t ps) es n r a e).number

pub takes_itself : (t : PlainTables) (ps es : List (TermId × TermId)) → AreAll (IsInstance t ps) es → TakesTerms t t ps es
takes_itself t ps es a = record { grows = grows_itself t; memo = a }

pub takes_further : (s t u : PlainTables) (ps es fs : List (TermId × TermId)) → TakesTerms s t ps es → TakesTerms t u ps fs → TakesTerms s u ps fs
takes_further s t u ps es fs a b = record { grows = grows_further s t u a.grows b.grows; memo = b.memo }

pub takes_same : (s t u : PlainTables) (ps es : List (TermId × TermId)) → TakesTerms s t ps es → u ≡ t → TakesTerms s u ps es
takes_same s t u ps es a e = subst (λ (x : PlainTables). TakesTerms s x ps es) (sym e) a

-- a walk that ends with a new term and a note
pub takes_noted : (s t w : PlainTables) (ps : List (TermId × TermId)) (n r : TermId) (x : Tm) (es fs : List (TermId × TermId)) → HasTermPairs s ps → HasTerm s n → TakesTerms s t ps es → IsTermAdded t w r x → x ≡ instance_of s ps n
    → IsTermNoted es fs n r → TakesTerms s w ps fs × IsNumber w r (instance_of s ps n)
takes_noted s t w ps n r x es fs hp hn o a e noted =
    (record { grows = all; memo = noted_all same_term_id term_id_same (IsInstance w ps) es fs n r (term_memo_later t w ps es last (pairs_there s t ps o.grows hp) o.memo) right noted }, made)
  where
    last : Grows t w
    last = grows_added t w r x a

    all : Grows s w
    all = grows_further s t w o.grows last

    made : IsNumber w r (instance_of s ps n)
    made = number_is w r x (instance_of s ps n) (number_added t w r x a) e

    right : IsInstance w ps n r
    right = record { has = all.has n hn; number = number_is w r (instance_of s ps n) (instance_of w ps n) made (sym (instance_there s w ps n all hp hn)) }

-- the parts of an application, taken one after the other
pub record InstanceParts (s u : PlainTables) (ps : List (TermId × TermId)) (f x g y : TermId) : Type 0 where
  pub function : IsNumber u g (instance_of s ps f)
  pub argument : IsNumber u y (instance_of s ps x)

pub instance_parts : (s t u : PlainTables) (ps : List (TermId × TermId)) (n f x g y : TermId) (es fs : List (TermId × TermId)) → HasTermPairs s ps → HasTerm s n → x.0 < n.0 → TakesTerms s t ps es → IsNumber t g (instance_of s ps f)
    → TakesTerms t u ps fs → IsNumber u y (instance_of t ps x) → InstanceParts s u ps f x g y
instance_parts s t u ps n f x g y es fs hp hn l o1 n1 o2 n2 =
    record { function = number_later t u g (instance_of s ps f) n1 o2.grows; argument = number_is u y (instance_of t ps x) (instance_of s ps x) n2 (instance_there s t ps x o1.grows hp (below_has s n x hn l)) }

pub comb_takes : (s u : PlainTables) (ps : List (TermId × TermId)) (f x g y : TermId) → HasTermPairs s ps → Takes (term_of s f) (term_of s x) → InstanceParts s u ps f x g y → Takes (term_of u g) (term_of u y)
comb_takes s u ps f x g y h takes p =
    let keeps = pairs_keep s ps h in
    takes_kept (term_of s f) (term_of s x) (term_of u g) (term_of u y) (ap tm_type p.function.tree ∙ tm_type-inst (term_pairs s ps) (term_of s f) keeps) (ap tm_type p.argument.tree ∙ tm_type-inst (term_pairs s ps) (term_of s x) keeps) takes

pub comb_instance : (s u : PlainTables) (ps : List (TermId × TermId)) (n f x g y : TermId) → term_of s n ≡ tm_comb (term_of s f) (term_of s x) → InstanceParts s u ps f x g y → tm_comb (term_of u g) (term_of u y) ≡ instance_of s ps n
comb_instance s u ps n f x g y e p = (λ j. tm_comb (p.function.tree j) (p.argument.tree j)) ∙ sym (ap (tm_inst (term_pairs s ps)) e)

type_there : (s t : PlainTables) (a : TypeId) → Grows s t → type_of t a ≡ type_of s a
type_there s t a g = ap (λ ts. type_of (record { names = []; types = ts; terms = [] }) a) g.types

pub abs_instance : (s t : PlainTables) (ps : List (TermId × TermId)) (n : TermId) (a : TypeId) (b c : TermId) → Grows s t → term_of s n ≡ tm_abs (type_of s a) (term_of s b) → IsNumber t c (instance_of s ps b)
    → tm_abs (type_of t a) (term_of t c) ≡ instance_of s ps n
abs_instance s t ps n a b c g e m = (λ j. tm_abs (type_there s t a g j) (m.tree j)) ∙ sym (ap (tm_inst (term_pairs s ps)) e)

pub abs_typed : (s t : PlainTables) (ps : List (TermId × TermId)) (n : TermId) (a : TypeId) (b c : TermId) (y : TypeId) → Grows s t → HasTermPairs s ps → term_of s n ≡ tm_abs (type_of s a) (term_of s b) → IsNumber t c (instance_of s ps b)
    → type_of s y ≡ tm_type (term_of s n) → type_of t y ≡ fun_ty (type_of t a) (tm_type (term_of t c))
abs_typed s t ps n a b c y g h e m ey =
    let kept : tm_type (term_of t c) ≡ tm_type (term_of s b) = ap tm_type m.tree ∙ tm_type-inst (term_pairs s ps) (term_of s b) (pairs_keep s ps h) in
    type_there s t y g ∙ ey ∙ ap tm_type e ∙ (λ j. fun_ty (sym (type_there s t a g) j) (sym kept j))

-- looking up, a pair at a time
lookup_here : (t : PlainTables) (ps : List (TermId × TermId)) (v : FreeVar) (i : ℕ) (d : TermId × TermId) → i < length ps
    → var_lookup (term_pairs t (drop i ps)) v ≡ cond (var_eq (var_of (term_of t (get_or ps i d).0)) v) (term_of t (get_or ps i d).1) (var_lookup (term_pairs t (drop (i + 1) ps)) v)
lookup_here t ps v i d h = rw (add-one, drop-cons ps i d h) refl

pub lookup_over : (t : PlainTables) (ps : List (TermId × TermId)) (v : FreeVar) (i : ℕ) → length ps ≤ i → var_lookup (term_pairs t (drop i ps)) v ≡ tm_free v
lookup_over t ps v i h = rw (drop_of_length-le ps h) refl

pub pair_has : (t : PlainTables) (ps : List (TermId × TermId)) (i : ℕ) (d : TermId × TermId) → HasTermPairs t ps → i < length ps → IsVariable t (get_or ps i d).0 × HasTerm t (get_or ps i d).1
pair_has t [] i d h l = absurd (omega arith)
pair_has t (p ∷ ps) zero d h l = (h.0, h.1)
pair_has t (p ∷ ps) (suc i) d h l = let k : i < length ps = omega arith in pair_has t ps i d h.3 k

-- the pair has the variable, or it hasn't
pub lookup_found : (t : PlainTables) (ps : List (TermId × TermId)) (v : TermId) (i : ℕ) (d : TermId × TermId) → i < length ps → term_of t (get_or ps i d).0 ≡ term_of t v
    → var_lookup (term_pairs t (drop i ps)) (var_of (term_of t v)) ≡ term_of t (get_or ps i d).1
lookup_found t ps v i d h e =
    let var : FreeVar = var_of (term_of t v) in
    let rest : Tm = var_lookup (term_pairs t (drop (i + 1) ps)) var in
    lookup_here t ps var i d h ∙ ap (λ b. cond b (term_of t (get_or ps i d).1) rest) (ap (λ x. var_eq (var_of x) var) e ∙ var_self var)

pub lookup_other : (t : PlainTables) (ps : List (TermId × TermId)) (v : TermId) (i : ℕ) (d : TermId × TermId) → i < length ps → IsVariable t (get_or ps i d).0 → IsVariable t v → (term_of t (get_or ps i d).0 ≡ term_of t v → ⊥)
    → var_lookup (term_pairs t (drop i ps)) (var_of (term_of t v)) ≡ var_lookup (term_pairs t (drop (i + 1) ps)) (var_of (term_of t v))
lookup_other t ps v i d h k w n = lookup_here t ps var i d h ∙ at (var_eq (var_of (term_of t key)) var) refl
  where
    var : FreeVar
    var = var_of (term_of t v)

    key : TermId
    key = (get_or ps i d).0

    rest : Tm
    rest = var_lookup (term_pairs t (drop (i + 1) ps)) var

    at : (b : Bool) → var_eq (var_of (term_of t key)) var ≡ b → cond b (term_of t (get_or ps i d).1) rest ≡ rest
    at true s = absurd (n (k.1 ∙ ap tm_free (var_eq-same (var_of (term_of t key)) var s) ∙ sym w.1))
    at false s = refl

-- a free variable's entry
pub free_variable : (t : PlainTables) (n : TermId) (x : FreeVar) → HasTerm t n → term_of t n ≡ tm_free x → IsVariable t n
free_variable t n x h e = (h, subst (λ (y : Tm). y ≡ tm_free (var_of y)) (sym e) refl)

pub free_instance : (t : PlainTables) (ps : List (TermId × TermId)) (n r : TermId) (x : FreeVar) → term_of t n ≡ tm_free x → IsNumber t r (var_lookup (term_pairs t ps) (var_of (term_of t n))) → IsNumber t r (instance_of t ps n)
free_instance t ps n r x e m = number_is t r (var_lookup (term_pairs t ps) (var_of (term_of t n))) (instance_of t ps n) m (subst (λ (y : Tm). var_lookup (term_pairs t ps) (var_of y) ≡ tm_inst (term_pairs t ps) y) (sym e) refl)
