-- Hypotheses ascend: putting one in, joining two lists, and leaving one out.
use Rattle.std.proofs.Common.{◌≡◌, Bool, true, false, List, [], ◌∷◌, map, Contains, refl, sym, ap, ◌∙◌, subst}
use Rattle.std.specs.Ordering.{ordering_reverse}
use Rattle.std.specs.declared.cmp.Ordering.{Ordering}
use Rattle.std.specs.declared.cmp.Ordering.TheVariants.{Less, Equal, Greater}
use Rattle.hol_terms.specs.Tm.{Tm}
use Rattle.hol_terms.specs.Binding.{tm_cmp, tm_inst, tm_ty_subst}
use Rattle.hol_terms.specs.Definition.{Definition, const_def, type_def}
use Rattle.hol_terms.specs.Sequent.{Sequent, seq, eq_tm, insert_at, insert_hyp, union}
use Rattle.hol_terms.specs.Rules.{same, keep_if, without}
use Rattle.hol_terms.proofs.TotalOrder.{tm_cmp_total}
use Rattle.hol_terms.specs.Logic.{axioms}
use Rattle.hol_terms.specs.Proves.{sequents_of, Proves, by_refl, by_trans, by_comb, by_abs, by_beta, by_assume, by_eq_mp, by_deduct, by_inst_type, by_inst, by_axiom, by_definition}
use Rattle.std.proofs.lemmas.List.Elements.{All-contains, All-from_recursion}
use Rattle.std.specs.List.{AllByRecursion}
use Rattle.hol_kernel.proofs.Guards.{some_is, passed}
use Rattle.hol_kernel.specs.Ascending.{IsBefore, Ascends}

before-insert : (u t : Tm) (hs : List Tm) → IsBefore u hs → tm_cmp u t ≡ Less → IsBefore u (insert_hyp t hs)
before-insert u t [] b l = l
before-insert u t (h ∷ hs) b l = at (tm_cmp t h)
  where
    at : (o : Ordering) → IsBefore u (insert_at o t h hs (insert_hyp t hs))
    at Less = l
    at Equal = b
    at Greater = b

turned : (t h : Tm) → tm_cmp t h ≡ Greater → tm_cmp h t ≡ Less
turned t h e = tm_cmp_total.antisymm h t ∙ ap ordering_reverse e

insert_ascends : (t : Tm) (hs : List Tm) → Ascends hs → Ascends (insert_hyp t hs)
insert_ascends t [] a = (tt, tt)
insert_ascends t (h ∷ hs) a = at (insert_ascends t hs a.1) (tm_cmp t h) refl
  where
    at : Ascends (insert_hyp t hs) → (o : Ordering) → tm_cmp t h ≡ o → Ascends (insert_at o t h hs (insert_hyp t hs))
    at r Less e = (e, a)
    at r Equal e = a
    at r Greater e = (before-insert h t hs a.0 (turned t h e), r)

pub union_ascends : (ts hs : List Tm) → Ascends hs → Ascends (union ts hs)
union_ascends [] hs a = a
union_ascends (t ∷ ts) hs a = union_ascends ts (insert_hyp t hs) (insert_ascends t hs a)

-- what is less than a term is less than all after it
before_rest : (u h : Tm) (hs : List Tm) → tm_cmp u h ≡ Less → IsBefore h hs → IsBefore u hs
before_rest u h [] l b = tt
before_rest u h (g ∷ hs) l b = tm_cmp_total.trans u h g l b

before-without : (u t : Tm) (hs : List Tm) → Ascends hs → IsBefore u hs → IsBefore u (without t hs)
before-without u t [] a b = tt
before-without u t (h ∷ hs) a b = at (before-without u t hs a.1 (before_rest u h hs b a.0)) (same t h)
  where
    at : IsBefore u (without t hs) → (c : Bool) → IsBefore u (keep_if c h (without t hs))
    at r true = r
    at r false = b

pub without_ascends : (t : Tm) (hs : List Tm) → Ascends hs → Ascends (without t hs)
without_ascends t [] a = tt
without_ascends t (h ∷ hs) a = at (without_ascends t hs a.1) (same t h)
  where
    at : Ascends (without t hs) → (c : Bool) → Ascends (keep_if c h (without t hs))
    at r true = r
    at r false = (before-without h t hs a.1 a.0, r)

-- the hypotheses of what a rule gave
given : (hs : List Tm) (p : Tm) (c : Sequent) → seq hs p ≡ c → Ascends hs → Ascends c.hyps
given hs p c e a = subst (λ (d : Sequent). Ascends d.hyps) e a

no_hyps_ascend : (list : List Sequent) (c : Sequent) → AllByRecursion (λ (a : Sequent). a.hyps ≡ []) list → Contains list c → Ascends c.hyps
no_hyps_ascend list c h m = subst Ascends (sym (All-contains (λ (a : Sequent). a.hyps ≡ []) list c (All-from_recursion (λ (a : Sequent). a.hyps ≡ []) list h) m)) tt

definition_ascends : (d : Definition) (c : Sequent) → Contains (sequents_of d) c → Ascends c.hyps
definition_ascends (const_def n t) c m = no_hyps_ascend (sequents_of (const_def n t)) c (refl, tt) m
definition_ascends (type_def n p) c m = no_hyps_ascend (sequents_of (type_def n p)) c (refl, (refl, tt)) m

pub proved_ascends : {ds : List Definition} {a : Sequent} → Proves ds a → Ascends a.hyps
proved_ascends (by_refl t c r w) = given [] (eq_tm t t) c (some_is _ c r) tt
proved_ascends (by_trans a b c h g r w) = given _ _ c (passed _ _ c r).1 (union_ascends a.hyps b.hyps (proved_ascends g))
proved_ascends (by_comb a b c h g r w) = given _ _ c (passed _ _ c r).1 (union_ascends a.hyps b.hyps (proved_ascends g))
proved_ascends (by_abs v a c o h r w) = given _ _ c (passed _ _ c r).1 (proved_ascends h)
proved_ascends (by_beta t c r w) = given _ _ c (passed _ _ c r).1 tt
proved_ascends (by_assume p c r w) = given _ _ c (passed _ _ c r).1 (tt, tt)
proved_ascends (by_eq_mp a b c h g r w) = given _ _ c (passed _ _ c r).1 (union_ascends a.hyps b.hyps (proved_ascends g))
proved_ascends (by_deduct a b c h g r w) =
    given (union (without b.concl a.hyps) (without a.concl b.hyps)) (eq_tm a.concl b.concl) c (some_is _ c r) (union_ascends (without b.concl a.hyps) (without a.concl b.hyps) (without_ascends a.concl b.hyps (proved_ascends g)))
proved_ascends (by_inst_type s a c o h r w) = given _ _ c (passed _ _ c r).1 (union_ascends (map (tm_ty_subst s) a.hyps) [] tt)
proved_ascends (by_inst s a c o h r w) = given _ _ c (passed _ _ c r).1 (union_ascends (map (tm_inst s) a.hyps) [] tt)
proved_ascends (by_axiom c b m w) = no_hyps_ascend axioms c (refl, (refl, (refl, tt))) m
proved_ascends (by_definition d c m n w) = definition_ascends d c n
