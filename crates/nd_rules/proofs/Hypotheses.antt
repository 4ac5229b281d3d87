-- Hypotheses that come together.
use Rattle.std.proofs.Common.{◌≡◌, inl, inr, ⊎_elim, List, [], ◌∷◌, refl, ap, arith}
use Rattle.std.specs.declared.cmp.Ordering.{Ordering}
use Rattle.std.specs.declared.cmp.Ordering.TheVariants.{Less, Equal, Greater}
use Rattle.hol_terms.specs.Tm.{Tm}
use Rattle.hol_terms.specs.Binding.{tm_cmp}
use Rattle.hol_terms.specs.Definition.{Definition}
use Rattle.hol_terms.specs.Sequent.{Sequent, insert_hyp, insert_at, union}
use Rattle.hol_terms.specs.Rules.{same, keep_if, without}
use Rattle.hol_terms.specs.Proves.{IsDerivable}
use Rattle.hol_terms.proofs.Same.{same_refl}
use Rattle.hol_kernel.specs.Ascending.{Ascends}
use Rattle.hol_kernel.proofs.Ascending.{union_ascends, proved_ascends}
use Rattle.hol_kernel.proofs.Members.{union_has, without_has, same_list}

pub ascends : {ds : List Definition} {a : Sequent} → IsDerivable ds a → Ascends a.hyps
ascends d = proved_ascends d.proof

-- a hypothesis put in and taken out
pub without-insert : (t : Tm) (hs : List Tm) → without t (insert_hyp t hs) ≡ without t hs
without-insert t [] = rw (same_refl t) refl
without-insert t (h ∷ hs) = at (without-insert t hs) (tm_cmp t h)
  where
    at : without t (insert_hyp t hs) ≡ without t hs → (o : Ordering) → without t (insert_at o t h hs (insert_hyp t hs)) ≡ without t (h ∷ hs)
    at r Less = rw (same_refl t) refl
    at r Equal = refl
    at r Greater = ap (λ ks. keep_if (same t h) h ks) r

-- a part of the hypotheses adds none
pub cut_hyps : (t : Tm) (hs : List Tm) → Ascends hs → union (union (without t hs) []) hs ≡ hs
cut_hyps t hs a = same_list (union (union (without t hs) []) hs) hs (union_ascends (union (without t hs) []) hs a) a (λ u. (
  λ c. ⊎_elim (λ m. ⊎_elim (λ w. ((without_has t hs u).0 w).0) (λ n. let l = n.1 in absurd (omega arith)) ((union_has (without t hs) [] u).0 m)) (λ m. m) ((union_has (union (without t hs) []) hs u).0 c),
  λ c. (union_has (union (without t hs) []) hs u).1 (inr c),
))

-- joined in another order
pub joined : (a b c : List Tm) → Ascends a → Ascends c → union (union b c) a ≡ union (union a b) c
joined a b c ha hc = same_list (union (union b c) a) (union (union a b) c) (union_ascends (union b c) a ha) (union_ascends (union a b) c hc) (λ u. (
  λ m. (union_has (union a b) c u).1 (⊎_elim
      (λ n. ⊎_elim (λ o. inl ((union_has a b u).1 (inr o))) (λ o. inr o) ((union_has b c u).0 n))
      (λ n. inl ((union_has a b u).1 (inl n))) ((union_has (union b c) a u).0 m)),
  λ m. (union_has (union b c) a u).1 (⊎_elim
      (λ n. ⊎_elim (λ o. inr o) (λ o. inl ((union_has b c u).1 (inl o))) ((union_has a b u).0 n))
      (λ n. inl ((union_has b c u).1 (inr n))) ((union_has (union a b) c u).0 m)),
))

-- joined the other way round
pub exchanged : (a b : List Tm) → Ascends a → Ascends b → union b a ≡ union a b
exchanged a b ha hb = same_list (union b a) (union a b) (union_ascends b a ha) (union_ascends a b hb) (λ u. (
  λ m. (union_has a b u).1 (⊎_elim (λ n. inr n) (λ n. inl n) ((union_has b a u).0 m)),
  λ m. (union_has b a u).1 (⊎_elim (λ n. inr n) (λ n. inl n) ((union_has a b u).0 m)),
))
