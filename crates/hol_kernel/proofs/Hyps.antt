-- What holds of each hypothesis.
use Rattle.std.proofs.Common.{Bool, true, false, List, [], ◌∷◌, All}
use Rattle.std.proofs.lemmas.List.Elements.{All-cons, All-head, All-tail}
use Rattle.std.specs.declared.cmp.Ordering.{Ordering}
use Rattle.std.specs.declared.cmp.Ordering.TheVariants.{Less, Equal, Greater}
use Rattle.hol_terms.specs.Tm.{Tm}
use Rattle.hol_terms.specs.Binding.{tm_cmp}
use Rattle.hol_terms.specs.Sequent.{insert_at, insert_hyp, union}
use Rattle.hol_terms.specs.Rules.{same, keep_if, without}

All-insert_hyp : (P : Tm → Type 0) (t : Tm) (hs : List Tm) → P t → All P hs → All P (insert_hyp t hs)
All-insert_hyp P t [] p h = All-cons P t [] p h
All-insert_hyp P t (x ∷ hs) p h = at (tm_cmp t x) (All-insert_hyp P t hs p (All-tail P x hs h))
  where
    at : (o : Ordering) → All P (insert_hyp t hs) → All P (insert_at o t x hs (insert_hyp t hs))
    at Less r = All-cons P t (x ∷ hs) p h
    at Equal r = h
    at Greater r = All-cons P x (insert_hyp t hs) (All-head P x hs h) r

pub All-union : (P : Tm → Type 0) (a b : List Tm) → All P a → All P b → All P (union a b)
All-union P [] b h g = g
All-union P (t ∷ a) b h g = All-union P a (insert_hyp t b) (All-tail P t a h) (All-insert_hyp P t b (All-head P t a h) g)

pub All-without : (P : Tm → Type 0) (t : Tm) (hs : List Tm) → All P hs → All P (without t hs)
All-without P t [] h = h
All-without P t (x ∷ hs) h = at (same t x) (All-without P t hs (All-tail P x hs h))
  where
    at : (b : Bool) → All P (without t hs) → All P (keep_if b x (without t hs))
    at true r = r
    at false r = All-cons P x (without t hs) (All-head P x hs h) r
