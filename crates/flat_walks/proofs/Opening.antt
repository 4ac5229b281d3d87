-- The steps of a walk that opens a term.
use Rattle.std.proofs.Common.{◌≡◌, ℕ, ◌+◌, ◌<◌, Bool, true, false, cond, List, [], Some, nat_eq, refl, ap, sym, subst, ◌∙◌}
use Rattle.std.proofs.lemmas.Bool.{eqb-true}
use Rattle.hol_terms.specs.Tm.{Tm, FreeVar, tm_index, tm_free, tm_const, tm_comb, tm_abs}
use Rattle.hol_terms.specs.Typing.{tm_type, fun_ty, range_ty}
use Rattle.hol_terms.specs.Takes.{Takes}
use Rattle.hol_terms.specs.Loose.{HasAt}
use Rattle.hol_terms.specs.Binding.{tm_open}
use Rattle.flat_terms.specs.declared.nodes.TermId.{TermId}
use Rattle.flat_terms.specs.declared.nodes.TypeId.{TypeId}
use Rattle.flat_terms.specs.Plain.{PlainTables, HasTerm, term_of, type_of, IsTermAdded}
use Rattle.flat_walks.specs.declared.bind.Place.{Place}
use Rattle.flat_walks.specs.Walk.{var_of, Grows, same_place, found, IsNoted}
use Rattle.flat_walks.specs.Number.{IsNumber, AreAll}
use Rattle.flat_walks.specs.Opens.{IsOpenable, opened, IsOpened, Opens}
use Rattle.flat_walks.proofs.Steps.{grows_further, grows_added, lookup_found, place_same, below_has}
use Rattle.flat_walks.proofs.Memo.{number_later, number_is, number_added, all_weaker, found_all, noted_all}

-- opening keeps the type, where the indices have the variable's type
pub tm_type-open : (k : ℕ) (v : FreeVar) (t : Tm) → HasAt k v.ty t → tm_type (tm_open k v t) ≡ tm_type t
tm_type-open k v (tm_index i t) h = at (nat_eq i k) refl
  where
    at : (c : Bool) → nat_eq i k ≡ c → tm_type (cond c (tm_free v) (tm_index i t)) ≡ t
    at true e = sym (h (eqb-true i k e))
    at false e = refl
tm_type-open k v (tm_free w) h = refl
tm_type-open k v (tm_const c ts t) h = refl
tm_type-open k v (tm_comb f x) h = ap range_ty (tm_type-open k v f h.0)
tm_type-open k v (tm_abs t b) h = ap (λ u. fun_ty t u) (tm_type-open (k + 1) v b h)

-- a function and its argument still fit where their types stayed
pub takes_kept : (f x g y : Tm) → tm_type g ≡ tm_type f → tm_type y ≡ tm_type x → Takes f x → Takes g y
takes_kept f x g y tg ty takes = tg ∙ takes ∙ (λ j. fun_ty (sym ty j) (range_ty (sym tg j)))

pub opened_there : (s t : PlainTables) (v : TermId) (k : ℕ) (n : TermId) → HasTerm s v → HasTerm s n → Grows s t → opened t v k n ≡ opened s v k n
opened_there s t v k n hv hn g = λ j. tm_open k (var_of (g.same v hv j)) (g.same n hn j)

pub openable_there : (s t : PlainTables) (v : TermId) (k : ℕ) (n : TermId) → HasTerm s v → HasTerm s n → Grows s t → IsOpenable s v k n → IsOpenable t v k n
openable_there s t v k n hv hn g h = subst (λ (x : Tm × Tm). HasAt k (var_of x.0).ty x.1) (λ j. (sym (g.same v hv) j, sym (g.same n hn) j)) h

pub memo_later : (s t : PlainTables) (v : TermId) (es : List (Place × TermId)) → HasTerm s v → Grows s t → AreAll (IsOpened s v) es → AreAll (IsOpened t v) es
memo_later s t v es hv g a = all_weaker (IsOpened s v) (IsOpened t v) es later a
  where
    later : (p : Place) (r : TermId) → IsOpened s v p r → IsOpened t v p r
    later p r o = record { has = g.has p.term o.has; number = number_is t r (opened s v p.depth p.term) (opened t v p.depth p.term) (number_later s t r (opened s v p.depth p.term) o.number g) (sym (opened_there s t v p.depth p.term hv o.has g)) }

pub opens_further : (s t u : PlainTables) (v : TermId) (es fs : List (Place × TermId)) → Opens s t v es → Opens t u v fs → Opens s u v fs
opens_further s t u v es fs a b = record { grows = grows_further s t u a.grows b.grows; memo = b.memo }

pub opens_same : (s t u : PlainTables) (v : TermId) (es : List (Place × TermId)) → Opens s t v es → u ≡ t → Opens s u v es
opens_same s t u v es a e = subst (λ (x : PlainTables). Opens s x v es) (sym e) a

-- a place that was noted
pub found_opened : (t : PlainTables) (v : TermId) (es : List (Place × TermId)) (p : Place) (r : TermId) → AreAll (IsOpened t v) es → found es p ≡ Some r → IsNumber t r (opened t v p.depth p.term)
found_opened t v es p r a e = (found_all same_place place_same (IsOpened t v) es p r a (lookup_found es p ∙ e)).number

-- a walk that ends with a new term and a note
pub opens_noted : (s t w : PlainTables) (v : TermId) (k : ℕ) (n r : TermId) (x : Tm) (es fs : List (Place × TermId)) → HasTerm s v → HasTerm s n → Opens s t v es → IsTermAdded t w r x → x ≡ opened s v k n
    → IsNoted es fs (record { term = n; depth = k }) r → Opens s w v fs × IsNumber w r (opened s v k n)
opens_noted s t w v k n r x es fs hv hn o a e noted = (record { grows = all; memo = noted_all same_place place_same (IsOpened w v) es fs place r (memo_later t w v es (o.grows.has v hv) last o.memo) right noted }, made)
  where
    place : Place
    place = record { term = n; depth = k }

    last : Grows t w
    last = grows_added t w r x a

    all : Grows s w
    all = grows_further s t w o.grows last

    made : IsNumber w r (opened s v k n)
    made = number_is w r x (opened s v k n) (number_added t w r x a) e

    right : IsOpened w v place r
    right = record { has = all.has n hn; number = number_is w r (opened s v k n) (opened w v k n) made (sym (opened_there s w v k n hv hn all)) }

-- the parts of an application, opened one after the other
pub record OpenedParts (s u : PlainTables) (v : TermId) (k : ℕ) (f x g y : TermId) : Type 0 where
  pub function : IsNumber u g (opened s v k f)
  pub argument : IsNumber u y (opened s v k x)

pub opened_parts : (s t u : PlainTables) (v : TermId) (k : ℕ) (n f x g y : TermId) (es fs : List (Place × TermId)) → HasTerm s v → HasTerm s n → x.0 < n.0 → Opens s t v es → IsNumber t g (opened s v k f) → Opens t u v fs
    → IsNumber u y (opened t v k x) → OpenedParts s u v k f x g y
opened_parts s t u v k n f x g y es fs hv hn l o1 n1 o2 n2 =
    record { function = number_later t u g (opened s v k f) n1 o2.grows; argument = number_is u y (opened t v k x) (opened s v k x) n2 (opened_there s t v k x hv (below_has s n x hn l) o1.grows) }

pub comb_takes : (s u : PlainTables) (v : TermId) (k : ℕ) (n f x g y : TermId) → IsOpenable s v k n → term_of s n ≡ tm_comb (term_of s f) (term_of s x) → Takes (term_of s f) (term_of s x) → OpenedParts s u v k f x g y
    → Takes (term_of u g) (term_of u y)
comb_takes s u v k n f x g y h e takes p =
    let var : FreeVar = var_of (term_of s v) in
    let both : HasAt k var.ty (term_of s f) × HasAt k var.ty (term_of s x) = subst (λ (z : Tm). HasAt k var.ty z) e h in
    takes_kept (term_of s f) (term_of s x) (term_of u g) (term_of u y) (ap tm_type p.function.tree ∙ tm_type-open k var (term_of s f) both.0) (ap tm_type p.argument.tree ∙ tm_type-open k var (term_of s x) both.1) takes

pub comb_opened : (s u : PlainTables) (v : TermId) (k : ℕ) (n f x g y : TermId) → term_of s n ≡ tm_comb (term_of s f) (term_of s x) → OpenedParts s u v k f x g y → tm_comb (term_of u g) (term_of u y) ≡ opened s v k n
comb_opened s u v k n f x g y e p = (λ j. tm_comb (p.function.tree j) (p.argument.tree j)) ∙ sym (ap (tm_open k (var_of (term_of s v))) e)

-- types stay while terms are added
type_there : (s t : PlainTables) (a : TypeId) → Grows s t → type_of t a ≡ type_of s a
type_there s t a g = ap (λ ts. type_of (record { names = []; types = ts; terms = [] }) a) g.types

pub body_opened : (s t : PlainTables) (v : TermId) (k d : ℕ) (b c : TermId) → d ≡ k + 1 → IsNumber t c (opened s v d b) → term_of t c ≡ tm_open (k + 1) (var_of (term_of s v)) (term_of s b)
body_opened s t v k d b c e n = n.tree ∙ ap (λ i. opened s v i b) e

pub abs_opened : (s t : PlainTables) (v : TermId) (k d : ℕ) (n : TermId) (a : TypeId) (b c : TermId) → Grows s t → term_of s n ≡ tm_abs (type_of s a) (term_of s b) → d ≡ k + 1 → IsNumber t c (opened s v d b)
    → tm_abs (type_of t a) (term_of t c) ≡ opened s v k n
abs_opened s t v k d n a b c g e l m = (λ j. tm_abs (type_there s t a g j) (body_opened s t v k d b c l m j)) ∙ sym (ap (tm_open k (var_of (term_of s v))) e)

pub abs_typed : (s t : PlainTables) (v : TermId) (k d : ℕ) (n : TermId) (a : TypeId) (b c : TermId) (y : TypeId) → Grows s t → IsOpenable s v k n → term_of s n ≡ tm_abs (type_of s a) (term_of s b) → d ≡ k + 1
    → IsNumber t c (opened s v d b) → type_of s y ≡ tm_type (term_of s n) → type_of t y ≡ fun_ty (type_of t a) (tm_type (term_of t c))
abs_typed s t v k d n a b c y g h e l m ey =
    let var : FreeVar = var_of (term_of s v) in
    let deeper : HasAt (k + 1) var.ty (term_of s b) = subst (λ (z : Tm). HasAt k var.ty z) e h in
    let kept : tm_type (term_of t c) ≡ tm_type (term_of s b) = ap tm_type (body_opened s t v k d b c l m) ∙ tm_type-open (k + 1) var (term_of s b) deeper in
    type_there s t y g ∙ ey ∙ ap tm_type e ∙ (λ j. fun_ty (sym (type_there s t a g) j) (sym kept j))
