-- Types put for the variables that a line may name do what types put for all of them do: terms over a signature have no others.
use Rattle.std.proofs.Common.{◌≡◌, Bool, true, false, cond, ◌||◌, List, [], ◌∷◌, map, Some, refl, sym, ap, ◌∙◌}
use Rattle.std.specs.Prelude.{All, filter, bytes_eq, codes}
use Rattle.std.specs.List.{list_any, list_all}
use Rattle.std.proofs.lemmas.Bool.{and_from, true≢false}
use Rattle.std.proofs.lemmas.List.Elements.{All-head, All-tail}
use Rattle.std.proofs.lemmas.Slice.Eq.{bytes_eq-Decides}
use Rattle.hol_terms.specs.Name.{Name, is_segment}
use Rattle.hol_terms.specs.Ty.{Ty, ty_var, ty_app, Tys, no_tys, more_tys, tys}
use Rattle.hol_terms.specs.Tm.{Tm, tm_index, tm_free, tm_const, tm_comb, tm_abs}
use Rattle.hol_terms.specs.Subst.{TySubst, ty_lookup, ty_subst, tys_subst}
use Rattle.hol_terms.specs.Binding.{tm_ty_subst}
use Rattle.hol_terms.specs.Signature.{Signature, IsTyOver, AreTysOver, IsOver}
use Rattle.hol_terms.specs.Sequent.{Sequent, seq, union, IsFormula, IsTyped}
use Rattle.hol_terms.specs.Rules.{both, no, if_so, some_pair, are_distinct_types, inst_type_rule}
use Rattle.hol_terms.specs.Proves.{AreTypesOver}
use Rattle.hol_terms.proofs.AsciiNames.{is_segment_from_ascii}
use Rattle.hol_kernel.proofs.Guards.{passed, both_parts, no_is}
use Rattle.proof_log.specs.Lines.{segment_pairs, or_no_change, written_pairs}

-- ---- what is put for a variable

other : (m n : Name) → is_segment m ≡ false → is_segment n ≡ true → bytes_eq m n ≡ false
other m n f t = by (bytes_eq m n) refl
  where
    by : (b : Bool) → bytes_eq m n ≡ b → b ≡ false
    by false e = refl
    by true e = absurd (true≢false (sym t ∙ ap is_segment (sym ((bytes_eq-Decides m n).0 e)) ∙ f))

lookup_segment : (s : TySubst) (n : Name) → is_segment n ≡ true → ty_lookup (segment_pairs s) n ≡ ty_lookup s n
lookup_segment [] n h = refl
lookup_segment (p ∷ s) n h = by (is_segment p.0) refl (lookup_segment s n h)
  where
    by : (b : Bool) → is_segment p.0 ≡ b → ty_lookup (segment_pairs s) n ≡ ty_lookup s n → ty_lookup (cond b (p ∷ segment_pairs s) (segment_pairs s)) n ≡ cond (bytes_eq p.0 n) p.1 (ty_lookup s n)
    by true e rest = ap (λ t. cond (bytes_eq p.0 n) p.1 t) rest
    by false e rest = rest ∙ ap (λ b. cond b p.1 (ty_lookup s n)) (sym (other p.0 n e h))

lookup_no_change : (s : TySubst) (n : Name) → ty_lookup (or_no_change s) n ≡ ty_lookup s n
lookup_no_change [] n = by (bytes_eq (codes "a") n) refl
  where
    by : (b : Bool) → bytes_eq (codes "a") n ≡ b → cond b (ty_var (codes "a")) (ty_var n) ≡ ty_var n
    by true e = ap ty_var ((bytes_eq-Decides (codes "a") n).0 e)
    by false e = refl
lookup_no_change (p ∷ s) n = refl

lookup_written : (s : TySubst) (n : Name) → is_segment n ≡ true → ty_lookup (written_pairs s) n ≡ ty_lookup s n
lookup_written s n h = lookup_no_change (segment_pairs s) n ∙ lookup_segment s n h

-- ---- types and terms

mutual
  ty_same : (sig : Signature) (s : TySubst) (t : Ty) → IsTyOver sig t → ty_subst (written_pairs s) t ≡ ty_subst s t
  ty_same sig s (ty_var n) h = lookup_written s n h
  ty_same sig s (ty_app n ts) h = ap (ty_app n) (tys_same sig s ts h.1)

  tys_same : (sig : Signature) (s : TySubst) (ts : Tys) → AreTysOver sig ts → tys_subst (written_pairs s) ts ≡ tys_subst s ts
  tys_same sig s no_tys h = refl
  tys_same sig s (more_tys t ts) h = λ i. more_tys (ty_same sig s t h.0 i) (tys_same sig s ts h.1 i)

list_same : (sig : Signature) (s : TySubst) (ts : List Ty) → AreTysOver sig (tys ts) → map (ty_subst (written_pairs s)) ts ≡ map (ty_subst s) ts
list_same sig s [] h = refl
list_same sig s (t ∷ ts) h = λ i. ty_same sig s t h.0 i ∷ list_same sig s ts h.1 i

tm_same : (sig : Signature) (s : TySubst) (bound : List Ty) (t : Tm) → IsOver sig bound t → tm_ty_subst (written_pairs s) t ≡ tm_ty_subst s t
tm_same sig s bound (tm_index i t) h = ap (tm_index i) (ty_same sig s t h.1)
tm_same sig s bound (tm_free v) h = ap (λ t. tm_free (record { name = v.name; ty = t })) (ty_same sig s v.ty h.1)
tm_same sig s bound (tm_const c ts t) h = λ i. tm_const c (list_same sig s ts h.over i) (ty_same sig s t h.ty_over i)
tm_same sig s bound (tm_comb f x) h = λ i. tm_comb (tm_same sig s bound f h.0 i) (tm_same sig s bound x h.1 i)
tm_same sig s bound (tm_abs t b) h = λ i. tm_abs (ty_same sig s t h.0 i) (tm_same sig s (t ∷ bound) b h.1 i)

hyps_same : (sig : Signature) (s : TySubst) (hs : List Tm) → All (IsFormula sig) hs → map (tm_ty_subst (written_pairs s)) hs ≡ map (tm_ty_subst s) hs
hyps_same sig s [] h = refl
hyps_same sig s (t ∷ hs) h = λ i. tm_same sig s [] t (All-head (IsFormula sig) t hs h).0 i ∷ hyps_same sig s hs (All-tail (IsFormula sig) t hs h) i

-- ---- the pairs of a line

none_kept : (f g : Name × Ty → Bool) (s : TySubst) → list_any f s ≡ false → list_any f (filter g s) ≡ false
none_kept f g [] h = refl
none_kept f g (p ∷ s) h = by (g p) (f p) refl (none_kept f g s)
  where
    by : (b c : Bool) → f p ≡ c → (list_any f s ≡ false → list_any f (filter g s) ≡ false) → list_any f (cond b (p ∷ filter g s) (filter g s)) ≡ false
    by b true e rest = absurd (true≢false (sym (ap (λ d. d || list_any f s) e) ∙ h))
    by false false e rest = rest (sym (ap (λ d. d || list_any f s) e) ∙ h)
    by true false e rest = ap (λ d. d || list_any f (filter g s)) e ∙ rest (sym (ap (λ d. d || list_any f s) e) ∙ h)

no_from : (b : Bool) → b ≡ false → no b ≡ true
no_from b e = ap no e

both_from : (a b : Bool) → a ≡ true → b ≡ true → both a b ≡ true
both_from a b e f = ap (λ c. both c b) e ∙ f

distinct_kept : (s : TySubst) → are_distinct_types s ≡ true → are_distinct_types (segment_pairs s) ≡ true
distinct_kept [] h = refl
distinct_kept (p ∷ s) h =
    let parts = both_parts (no (list_any (λ q. bytes_eq p.0 q.0) s)) (are_distinct_types s) h in
    by (is_segment p.0) (no_is (list_any (λ q. bytes_eq p.0 q.0) s) parts.0) (distinct_kept s parts.1)
  where
    by : (b : Bool) → list_any (λ q. bytes_eq p.0 q.0) s ≡ false → are_distinct_types (segment_pairs s) ≡ true → are_distinct_types (cond b (p ∷ segment_pairs s) (segment_pairs s)) ≡ true
    by false first rest = rest
    by true first rest = both_from (no (list_any (λ q. bytes_eq p.0 q.0) (segment_pairs s))) (are_distinct_types (segment_pairs s)) (no_from _ (none_kept (λ q. bytes_eq p.0 q.0) (λ q. is_segment q.0) s first)) rest

distinct_written : (s : TySubst) → are_distinct_types s ≡ true → are_distinct_types (or_no_change s) ≡ true
distinct_written [] h = refl
distinct_written (p ∷ s) h = h

pub some_written : (s : TySubst) → some_pair (written_pairs s) ≡ true
some_written s = some (segment_pairs s)
  where
    some : (r : TySubst) → some_pair (or_no_change r) ≡ true
    some [] = refl
    some (p ∷ r) = refl

a_is_segment : is_segment (codes "a") ≡ true
a_is_segment = is_segment_from_ascii (codes "a") refl

all_kept : (s : TySubst) → list_all (λ p. is_segment p.0) (segment_pairs s) ≡ true
all_kept [] = refl
all_kept (p ∷ s) = by (is_segment p.0) refl (all_kept s)
  where
    by : (b : Bool) → is_segment p.0 ≡ b → list_all (λ q. is_segment q.0) (segment_pairs s) ≡ true → list_all (λ q. is_segment q.0) (cond b (p ∷ segment_pairs s) (segment_pairs s)) ≡ true
    by false e rest = rest
    by true e rest = and_from (is_segment p.0) (list_all (λ q. is_segment q.0) (segment_pairs s)) e rest

pub all_segments : (s : TySubst) → list_all (λ p. is_segment p.0) (written_pairs s) ≡ true
all_segments s = all (segment_pairs s) (all_kept s)
  where
    all : (r : TySubst) → list_all (λ p. is_segment p.0) r ≡ true → list_all (λ p. is_segment p.0) (or_no_change r) ≡ true
    all [] h = and_from (is_segment (codes "a")) true a_is_segment refl
    all (p ∷ r) h = h

over_kept : (sig : Signature) (s : TySubst) → AreTypesOver sig s → AreTypesOver sig (segment_pairs s)
over_kept sig [] h = tt
over_kept sig (p ∷ s) h = by (is_segment p.0) (over_kept sig s h.1)
  where
    by : (b : Bool) → AreTypesOver sig (segment_pairs s) → AreTypesOver sig (cond b (p ∷ segment_pairs s) (segment_pairs s))
    by false rest = rest
    by true rest = (h.0, rest)

pub over_written : (sig : Signature) (s : TySubst) → AreTypesOver sig s → AreTypesOver sig (written_pairs s)
over_written sig s h = over (segment_pairs s) (over_kept sig s h)
  where
    over : (r : TySubst) → AreTypesOver sig r → AreTypesOver sig (or_no_change r)
    over [] h = (a_is_segment, tt)
    over (p ∷ r) h = h

-- ---- the rule

-- on a well typed sequent the rule gives the same
pub inst_type_written : (sig : Signature) (s : TySubst) (a c : Sequent) → IsTyped sig a → inst_type_rule s a ≡ Some c → inst_type_rule (written_pairs s) a ≡ Some c
inst_type_written sig s a c t e =
    let given = passed (both (some_pair s) (are_distinct_types s)) (seq (union (map (tm_ty_subst s) a.hyps) []) (tm_ty_subst s a.concl)) c e in
    let distinct = distinct_written (segment_pairs s) (distinct_kept s (both_parts (some_pair s) (are_distinct_types s) given.0).1) in
    let fits : both (some_pair (written_pairs s)) (are_distinct_types (written_pairs s)) ≡ true = both_from (some_pair (written_pairs s)) (are_distinct_types (written_pairs s)) (some_written s) distinct in
    (λ i. if_so (fits i) (seq (union (hyps_same sig s a.hyps t.hyps_are i) []) (tm_same sig s [] a.concl t.concl_is.0 i))) ∙ ap (λ x. Some x) given.1
