-- The steps of a walk.
use Rattle.std.proofs.Common.{◌≡◌, ◌⊎◌, inl, inr, ℕ, ◌+◌, ◌<◌, Bool, true, false, cond, List, [], ◌∷◌, ◌++◌, length, Some, Result, Ok, Err, nat_eq, refl, ap, sym, subst, ◌∙◌, arith, length-append}
use Rattle.std.proofs.lemmas.Bool.{and_parts, eqb-true}
use Rattle.std.proofs.lemmas.Option.{slice_get_within, get_or_from_slice_get}
use Rattle.std.proofs.Math.ListN.{get_or-append}
use Rattle.std.specs.Map.{lookup}
use Rattle.std.specs.Result.{IfOk, OnErr}
use Rattle.indexmap.specs.IndexMap.{insert_entry}
use Rattle.flat_walks.specs.contracts.bind.PlacePartialEq.TheImpl.{eq-value as place_eq}
use Rattle.hol_terms.specs.Ty.{Ty, ty_var}
use Rattle.hol_terms.specs.Tm.{Tm, FreeVar, tm_index, tm_free, tm_comb, tm_abs}
use Rattle.hol_terms.specs.Typing.{tm_type, fun_ty, range_ty}
use Rattle.hol_terms.specs.Takes.{Takes}
use Rattle.hol_terms.specs.Binding.{tm_bind, var_eq}
use Rattle.hol_terms.proofs.KeptTypes.{tm_type-bind}
use Rattle.hol_terms.proofs.Order.{var_eq-same}
use Rattle.hol_terms.proofs.Opened.{var_self}
use Rattle.flat_terms.specs.declared.nodes.TermId.{TermId}
use Rattle.flat_terms.specs.declared.nodes.TypeId.{TypeId}
use Rattle.flat_terms.specs.Plain.{PlainTables, HasTerm, HasType, term_of, type_of, tm_at, IsTermAdded}
use Rattle.flat_walks.specs.declared.bind.Place.{Place}
use Rattle.flat_walks.specs.Walk.{var_of, IsVariable, Grows, IsBound, IsRight, AreBound, Walks, same_place, found, IsNoted}

pub grows_itself : (t : PlainTables) → Grows t t
grows_itself t = record { names = refl; types = refl; has = λ n h. h; same = λ n h. refl }

pub grows_same : (t u : PlainTables) → u ≡ t → Grows t u
grows_same t u e = subst (λ (w : PlainTables). Grows t w) (sym e) (grows_itself t)

pub grows_further : (t u w : PlainTables) → Grows t u → Grows u w → Grows t w
grows_further t u w g h = record { names = h.names ∙ g.names; types = h.types ∙ g.types; has = λ n p. h.has n (g.has n p); same = λ n p. h.same n (g.has n p) ∙ g.same n p }

pub grows_added : (t u : PlainTables) (r : TermId) (x : Tm) → IsTermAdded t u r x → Grows t u
grows_added t u r x a = record { names = a.names; types = a.types; has = has; same = same }
  where
    has : (n : TermId) → HasTerm t n → HasTerm u n
    has n h = by a.terms
      where
        by : (u.terms ≡ t.terms) ⊎ (u.terms ≡ t.terms ++ x ∷ []) → HasTerm u n
        by (inl e) = subst (λ (l : List Tm). n.0 < length l) (sym e) h
        by (inr e) = subst (λ (l : List Tm). n.0 < length l) (sym e) (omega (arith, length-append t.terms (x ∷ []), h))

    same : (n : TermId) → HasTerm t n → term_of u n ≡ term_of t n
    same n h = by a.terms
      where
        by : (u.terms ≡ t.terms) ⊎ (u.terms ≡ t.terms ++ x ∷ []) → term_of u n ≡ term_of t n
        by (inl e) = ap (λ l. tm_at l n.0) e
        by (inr e) = ap (λ l. tm_at l n.0) e ∙ get_or-append t.terms (x ∷ []) (tm_index 0 (ty_var [])) n.0 h

pub added_has : (t u : PlainTables) (r : TermId) (x : Tm) → IsTermAdded t u r x → HasTerm u r
added_has t u r x a = slice_get_within u.terms r.0 x a.at

pub added_is : (t u : PlainTables) (r : TermId) (x : Tm) → IsTermAdded t u r x → term_of u r ≡ x
added_is t u r x a = get_or_from_slice_get u.terms r.0 x (tm_index 0 (ty_var [])) a.at

pub variable_kept : (t u : PlainTables) (v : TermId) → Grows t u → IsVariable t v → IsVariable u v
variable_kept t u v g i = (g.has v i.0, subst (λ (x : Tm). x ≡ tm_free (var_of x)) (sym (g.same v i.0)) i.1)

-- what was bound in smaller tables is bound in larger ones, and so for where it began
pub bound_later : (s t u : PlainTables) (v : TermId) (k : ℕ) (n r : TermId) → IsBound s t v k n r → Grows t u → IsBound s u v k n r
bound_later s t u v k n r b g = record { has = g.has r b.has; bound = g.same r b.has ∙ b.bound }

pub bound_from : (s t u : PlainTables) (v : TermId) (k : ℕ) (n r : TermId) → HasTerm s v → HasTerm s n → Grows s t → IsBound t u v k n r → IsBound s u v k n r
bound_from s t u v k n r hv hn g b = record { has = b.has; bound = b.bound ∙ (λ j. tm_bind k (var_of (g.same v hv j)) (g.same n hn j)) }

pub bound_now : (s t : PlainTables) (v : TermId) (k : ℕ) (n r : TermId) → HasTerm s v → HasTerm s n → Grows s t → IsBound s t v k n r → IsBound t t v k n r
bound_now s t v k n r hv hn g b = record { has = b.has; bound = b.bound ∙ sym (λ j. tm_bind k (var_of (g.same v hv j)) (g.same n hn j)) }

pub memo_grown : (t u : PlainTables) (v : TermId) (es : List (Place × TermId)) → HasTerm t v → Grows t u → AreBound t v es → AreBound u v es
memo_grown t u v [] hv g m = tt
memo_grown t u v (e ∷ es) hv g m =
    (record { has = g.has e.0.term m.0.has; bound = bound_now t u v e.0.depth e.0.term e.1 hv m.0.has g (bound_later t t u v e.0.depth e.0.term e.1 m.0.bound g) }, memo_grown t u v es hv g m.1)

pub walks_on : (t u : PlainTables) (v : TermId) (es : List (Place × TermId)) → HasTerm t v → Grows t u → AreBound t v es → Walks t u v es
walks_on t u v es hv g m = record { grows = g; memo = memo_grown t u v es hv g m }

pub walks_further : (t u w : PlainTables) (v : TermId) (es fs : List (Place × TermId)) → Walks t u v es → Walks u w v fs → Walks t w v fs
walks_further t u w v es fs a b = record { grows = grows_further t u w a.grows b.grows; memo = b.memo }

pub walks_same : (t u w : PlainTables) (v : TermId) (es : List (Place × TermId)) → Walks t u v es → w ≡ u → Walks t w v es
walks_same t u w v es a e = subst (λ (x : PlainTables). Walks t x v es) (sym e) a

-- places that are the same by the test
pub place_same : (p q : Place) → same_place p q ≡ true → p ≡ q
place_same p q e =
    let both = and_parts (nat_eq p.term.0 q.term.0) (nat_eq p.depth q.depth) e in
    let term : p.term.0 ≡ q.term.0 = eqb-true p.term.0 q.term.0 both.0 in
    let depth : p.depth ≡ q.depth = eqb-true p.depth q.depth both.1 in
    λ j. record { term = record { 0 = term j }; depth = depth j }

pub found_bound : (t : PlainTables) (v : TermId) (es : List (Place × TermId)) (p : Place) (r : TermId) → AreBound t v es → found es p ≡ Some r → IsBound t t v p.depth p.term r
found_bound t v [] p r m e = cc
found_bound t v (x ∷ es) p r m e = at (same_place p x.0) refl (found_bound t v es p r m.1) e
  where
    at : (b : Bool) → same_place p x.0 ≡ b → (found es p ≡ Some r → IsBound t t v p.depth p.term r) → cond b (Some x.1) (found es p) ≡ Some r → IsBound t t v p.depth p.term r
    at true s later h =
        let value : x.1 ≡ r = cc in
        subst (λ (y : TermId). IsBound t t v p.depth p.term y) value (subst (λ (q : Place). IsBound t t v q.depth q.term x.1) (sym (place_same p x.0 s)) m.0.bound)
    at false s later h = later h

inserted : (t : PlainTables) (v : TermId) (es : List (Place × TermId)) (p : Place) (r : TermId) → AreBound t v es → IsRight t v p r → AreBound t v (insert_entry same_place es p r)
inserted t v [] p r m i = (i, tt)
inserted t v (x ∷ es) p r m i = at (same_place p x.0) refl (inserted t v es p r m.1 i)
  where
    at : (b : Bool) → same_place p x.0 ≡ b → AreBound t v (insert_entry same_place es p r) → AreBound t v (cond b ((x.0, r) ∷ es) (x ∷ insert_entry same_place es p r))
    at true s later = (subst (λ (q : Place). IsRight t v q r) (place_same p x.0 s) i, m.1)
    at false s later = (m.0, later)

-- a walk that ends with a note
pub walks_noted : (s t : PlainTables) (v : TermId) (es fs : List (Place × TermId)) (n r : TermId) (k : ℕ) → HasTerm s v → HasTerm s n → Walks s t v es → IsBound s t v k n r
    → IsNoted es fs (record { term = n; depth = k }) r → Walks s t v fs
walks_noted s t v es fs n r k hv hn w b noted = record { grows = w.grows; memo = by noted }
  where
    place : Place
    place = record { term = n; depth = k }

    right : IsRight t v place r
    right = record { has = w.grows.has n hn; bound = bound_now s t v k n r hv hn w.grows b }

    by : (fs ≡ es) ⊎ (fs ≡ insert_entry same_place es place r) → AreBound t v fs
    by (inl e) = subst (λ (l : List (Place × TermId)). AreBound t v l) (sym e) w.memo
    by (inr e) = subst (λ (l : List (Place × TermId)). AreBound t v l) (sym e) (inserted t v es place r w.memo right)

-- a function and its argument, both bound, still fit
pub takes_bound : (k : ℕ) (w : FreeVar) (f x g y : Tm) → g ≡ tm_bind k w f → y ≡ tm_bind k w x → Takes f x → Takes g y
takes_bound k w f x g y eg ey takes =
    let tg : tm_type g ≡ tm_type f = ap tm_type eg ∙ tm_type-bind k w f in
    let ty : tm_type y ≡ tm_type x = ap tm_type ey ∙ tm_type-bind k w x in
    tg ∙ takes ∙ (λ j. fun_ty (sym ty j) (range_ty (sym tg j)))

-- the parts of an application, bound one after the other
pub record CombSteps (s t u : PlainTables) (v : TermId) (k : ℕ) (n f x g y : TermId) : Type 0 where
  pub function : term_of u g ≡ tm_bind k (var_of (term_of s v)) (term_of s f)
  pub argument : term_of u y ≡ tm_bind k (var_of (term_of s v)) (term_of s x)
  pub has_function : HasTerm u g
  pub has_argument : HasTerm u y

pub comb_steps : (s t u : PlainTables) (v : TermId) (k : ℕ) (n f x g y : TermId) → HasTerm s v → HasTerm s x → Grows s t → IsBound s t v k f g → Grows t u → IsBound t u v k x y → CombSteps s t u v k n f x g y
comb_steps s t u v k n f x g y hv hx gs bf gt bx =
    let function = bound_later s t u v k f g bf gt in
    let argument = bound_from s t u v k x y hv hx gs bx in
    record { function = function.bound; argument = argument.bound; has_function = function.has; has_argument = argument.has }

pub comb_bound : (s t u w : PlainTables) (v : TermId) (k : ℕ) (n f x g y r : TermId) → CombSteps s t u v k n f x g y → term_of s n ≡ tm_comb (term_of s f) (term_of s x)
    → IsTermAdded u w r (tm_comb (term_of u g) (term_of u y)) → IsBound s w v k n r
comb_bound s t u w v k n f x g y r c e a =
    record {
      has = added_has u w r (tm_comb (term_of u g) (term_of u y)) a;
      bound = added_is u w r (tm_comb (term_of u g) (term_of u y)) a ∙ (λ j. tm_comb (c.function j) (c.argument j)) ∙ sym (ap (tm_bind k (var_of (term_of s v))) e);
    }

pub abs_bound : (s t w : PlainTables) (v : TermId) (k : ℕ) (n : TermId) (a : TypeId) (b c r : TermId) → Grows s t → IsBound s t v (k + 1) b c → term_of s n ≡ tm_abs (type_of s a) (term_of s b)
    → IsTermAdded t w r (tm_abs (type_of t a) (term_of t c)) → IsBound s w v k n r
abs_bound s t w v k n a b c r g bb e ad =
    record {
      has = added_has t w r (tm_abs (type_of t a) (term_of t c)) ad;
      bound = added_is t w r (tm_abs (type_of t a) (term_of t c)) ad ∙ (λ j. tm_abs (type_there j) (bb.bound j)) ∙ sym (ap (tm_bind k (var_of (term_of s v))) e);
    }
  where
    type_there : type_of t a ≡ type_of s a
    type_there = ap (λ ts. type_of (record { names = []; types = ts; terms = [] }) a) g.types

-- the type of an abstraction stays the type of the bound one
pub abs_typed : (s t : PlainTables) (v : TermId) (k : ℕ) (n : TermId) (a : TypeId) (b c : TermId) (y : TypeId) → Grows s t → IsBound s t v (k + 1) b c → term_of s n ≡ tm_abs (type_of s a) (term_of s b)
    → type_of s y ≡ tm_type (term_of s n) → type_of t y ≡ fun_ty (type_of t a) (tm_type (term_of t c))
abs_typed s t v k n a b c y g bb e ey =
    there y ∙ ey ∙ ap tm_type e ∙ (λ j. fun_ty (sym (there a) j) (sym (ap tm_type bb.bound ∙ tm_type-bind (k + 1) (var_of (term_of s v)) (term_of s b)) j))
  where
    there : (z : TypeId) → type_of t z ≡ type_of s z
    there z = ap (λ ts. type_of (record { names = []; types = ts; terms = [] }) z) g.types

pub type_has : (s t : PlainTables) (a : TypeId) → Grows s t → HasType s a → HasType t a
type_has s t a g h = subst (λ (ts : List Ty). a.0 < length ts) (sym g.types) h

-- leaves
pub free_bound : (s w : PlainTables) (v : TermId) (k : ℕ) (n : TermId) (y : TypeId) (r : TermId) → IsVariable s v → term_of s n ≡ term_of s v → type_of s y ≡ tm_type (term_of s n) → IsTermAdded s w r (tm_index k (type_of s y)) → IsBound s w v k n r
free_bound s w v k n y r i e ey a =
    let var = var_of (term_of s v) in
    let tree : term_of s n ≡ tm_free var = e ∙ i.1 in
    let own : tm_bind k var (tm_free var) ≡ tm_index k var.ty = ap (λ b. cond b (tm_index k var.ty) (tm_free var)) (var_self var) in
    record {
      has = added_has s w r (tm_index k (type_of s y)) a;
      bound = added_is s w r (tm_index k (type_of s y)) a ∙ ap (tm_index k) (ey ∙ ap tm_type tree) ∙ sym own ∙ sym (ap (tm_bind k var) tree);
    }

pub other_bound : (s : PlainTables) (v : TermId) (k : ℕ) (n : TermId) (x : FreeVar) → IsVariable s v → HasTerm s n → term_of s n ≡ tm_free x → (term_of s n ≡ term_of s v → ⊥) → IsBound s s v k n n
other_bound s v k n x i h e other = record { has = h; bound = e ∙ sym (at (var_eq var x) refl) ∙ sym (ap (tm_bind k var) e) }
  where
    var : FreeVar
    var = var_of (term_of s v)

    at : (b : Bool) → var_eq var x ≡ b → tm_bind k var (tm_free x) ≡ tm_free x
    at true q = absurd (other (e ∙ ap tm_free (sym (var_eq-same var x q)) ∙ sym i.1))
    at false q = ap (λ c. cond c (tm_index k x.ty) (tm_free x)) q

-- looking up by the derived equality
pub lookup_found : (es : List (Place × TermId)) (p : Place) → lookup (λ k. place_eq.it p k) es ≡ found es p
lookup_found [] p = refl
lookup_found (e ∷ es) p = ap (λ r. cond (same_place p e.0) (Some e.1) r) (lookup_found es p)

pub below_has : (s : PlainTables) (n x : TermId) → HasTerm s n → x.0 < n.0 → HasTerm s x
below_has s n x h l = omega (arith, h, l)

pub bound_deeper : (s t : PlainTables) (v : TermId) (d k : ℕ) (n r : TermId) → d ≡ k → IsBound s t v d n r → IsBound s t v k n r
bound_deeper s t v d k n r e b = subst (λ (i : ℕ). IsBound s t v i n r) e b

-- an application whose parts were bound is bound and noted
pub comb_done : (s t u w : PlainTables) (v : TermId) (k : ℕ) (n f x g y r : TermId) (es fs hs : List (Place × TermId)) → IsVariable s v → HasTerm s n → x.0 < n.0 → Walks s t v es → IsBound s t v k f g → Walks t u v fs → IsBound t u v k x y
    → term_of s n ≡ tm_comb (term_of s f) (term_of s x) → IsTermAdded u w r (tm_comb (term_of u g) (term_of u y)) → IsNoted fs hs (record { term = n; depth = k }) r → Walks s w v hs × IsBound s w v k n r
comb_done s t u w v k n f x g y r es fs hs i hn l w1 b1 w2 b2 e a noted =
    let steps = comb_steps s t u v k n f x g y i.0 (below_has s n x hn l) w1.grows b1 w2.grows b2 in
    let bound = comb_bound s t u w v k n f x g y r steps e a in
    let far = walks_further s t u v es fs w1 w2 in
    let last = walks_on u w v fs (far.grows.has v i.0) (grows_added u w r (tm_comb (term_of u g) (term_of u y)) a) w2.memo in
    (walks_noted s w v fs hs n r k i.0 hn (walks_further s u w v fs fs far last) bound noted, bound)

-- an abstraction whose body was bound is bound and noted
pub abs_done : (s t w : PlainTables) (v : TermId) (k : ℕ) (n : TermId) (a : TypeId) (b c r : TermId) (es fs : List (Place × TermId)) → IsVariable s v → HasTerm s n → Walks s t v es → IsBound s t v (k + 1) b c
    → term_of s n ≡ tm_abs (type_of s a) (term_of s b) → IsTermAdded t w r (tm_abs (type_of t a) (term_of t c)) → IsNoted es fs (record { term = n; depth = k }) r → Walks s w v fs × IsBound s w v k n r
abs_done s t w v k n a b c r es fs i hn w1 b1 e ad noted =
    let bound = abs_bound s t w v k n a b c r w1.grows b1 e ad in
    let last = walks_on t w v es (w1.grows.has v i.0) (grows_added t w r (tm_abs (type_of t a) (term_of t c)) ad) w1.memo in
    (walks_noted s w v es fs n r k i.0 hn (walks_further s t w v es es w1 last) bound noted, bound)

pub grows_either : {E : Type 0} (s w : PlainTables) (x : Tm) (r : Result TermId E) → IfOk r (λ t. IsTermAdded s w t x) → OnErr r (w ≡ s) → Grows s w
grows_either s w x (Ok t) a e = grows_added s w t x a
grows_either s w x (Err d) a e = grows_same s w e
