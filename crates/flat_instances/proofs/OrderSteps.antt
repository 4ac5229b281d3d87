-- The order of entries, by their parts.
use Rattle.std.proofs.Common.{◌≡◌, ◌≢◌, List, [], ◌∷◌, refl, ap, sym, ◌∙◌}
use Rattle.std.specs.Cmp.{tied_itself}
use Rattle.std.specs.Ordering.{ordering_then}
use Rattle.std.specs.Cmp.Lexicographic.{slice_cmp}
use Rattle.std.specs.declared.cmp.Ordering.{Ordering}
use Rattle.std.specs.declared.cmp.Ordering.TheVariants.{Less, Equal, Greater}
use Rattle.hol_terms.specs.Ty.{Ty, tys}
use Rattle.hol_terms.specs.Tm.{Tm}
use Rattle.hol_terms.specs.Subst.{ty_cmp, tys_cmp, tys_cmp-tys}
use Rattle.hol_terms.specs.Binding.{tm_cmp}
use Rattle.hol_terms.proofs.TotalOrder.{ty_cmp_total, tm_cmp_total}
use Rattle.flat_terms.specs.Plain.{PlainTables, types_of}
use Rattle.flat_terms.specs.declared.nodes.TypeId.{TypeId}
use Rattle.flat_instances.specs.Orders.{type_order}

-- what is the same is equal
pub types_tie : (a b : Ty) → a ≡ b → Equal ≡ ty_cmp a b
types_tie a b e = sym (ap (λ x. ty_cmp x b) e ∙ tied_itself ty_cmp_total b)

pub terms_tie : (a b : Tm) → a ≡ b → Equal ≡ tm_cmp a b
terms_tie a b e = sym (ap (λ x. tm_cmp x b) e ∙ tied_itself tm_cmp_total b)

-- the first parts decide, or the rest does
pub decided : (o p q : Ordering) → o ≡ p → (o ≢ Equal) → o ≡ ordering_then p q
decided o p q e n = e ∙ at p (λ f. n (e ∙ f))
  where
    at : (r : Ordering) → (r ≢ Equal) → r ≡ ordering_then r q
    at Less m = refl
    at Equal m = absurd (m refl)
    at Greater m = refl

pub undecided : (p q : Ordering) → Equal ≡ p → q ≡ ordering_then p q
undecided p q e = ap (λ o. ordering_then o q) e

-- an order of entries by the trees that they are
pub by_types : (a b x y : Ty) (o : Ordering) → a ≡ x → b ≡ y → o ≡ ty_cmp x y → o ≡ ty_cmp a b
by_types a b x y o e f g = g ∙ (λ j. ty_cmp (sym e j) (sym f j))

pub by_terms : (a b x y : Tm) (o : Ordering) → a ≡ x → b ≡ y → o ≡ tm_cmp x y → o ≡ tm_cmp a b
by_terms a b x y o e f g = g ∙ (λ j. tm_cmp (sym e j) (sym f j))

-- the order of lists of numbers is that of their types
pub lists_order : (t : PlainTables) (xs ys : List TypeId) → slice_cmp (type_order t) xs ys ≡ slice_cmp ty_cmp (types_of t xs) (types_of t ys)
lists_order t [] [] = refl
lists_order t [] (y ∷ ys) = refl
lists_order t (x ∷ xs) [] = refl
lists_order t (x ∷ xs) (y ∷ ys) = ap (λ o. ordering_then (type_order t x y) o) (lists_order t xs ys)

pub args_order : (t : PlainTables) (xs ys : List TypeId) (o : Ordering) → o ≡ slice_cmp (type_order t) xs ys → o ≡ tys_cmp (tys (types_of t xs)) (tys (types_of t ys))
args_order t xs ys o e = e ∙ lists_order t xs ys ∙ sym (tys_cmp-tys (types_of t xs) (types_of t ys))
