-- Hypothesis lists, a hypothesis at a time, and pairs that are copied.
use Rattle.std.proofs.Common.{◌≡◌, ℕ, ◌+◌, ◌<◌, ◌≤◌, List, [], ◌∷◌, ◌++◌, length, get_or, take, drop, refl, add-one, drop-cons, drop_of_length-le, take-suc, append_assoc, String, string_bytes}
use Rattle.std.specs.declared.alloc.Global.{Global}
use Rattle.std.specs.declared.cmp.Ordering.TheVariants.{Less, Equal, Greater}
use Rattle.hol_terms.specs.Ty.{Ty}
use Rattle.hol_terms.specs.Tm.{Tm}
use Rattle.hol_terms.specs.Subst.{ty_pairs}
use Rattle.hol_terms.specs.Binding.{tm_cmp}
use Rattle.hol_terms.specs.Sequent.{insert_hyp, union}
use Rattle.hol_terms.specs.Rules.{same, keep_if, without}
use Rattle.hol_terms.proofs.Lists.{ty_pairs-push}

pub insert_hyp-less : (t : Tm) (hs : List Tm) (i : ℕ) (d : Tm) → i < length hs → tm_cmp t (get_or hs i d) ≡ Less → insert_hyp t (drop i hs) ≡ t ∷ drop i hs
insert_hyp-less t hs i d h e = rw (drop-cons hs i d h, e) refl

pub insert_hyp-equal : (t : Tm) (hs : List Tm) (i : ℕ) (d : Tm) → i < length hs → tm_cmp t (get_or hs i d) ≡ Equal → insert_hyp t (drop i hs) ≡ drop i hs
insert_hyp-equal t hs i d h e = rw (drop-cons hs i d h, e) refl

pub insert_hyp-greater : (t : Tm) (hs : List Tm) (i : ℕ) (d : Tm) → i < length hs → tm_cmp t (get_or hs i d) ≡ Greater
    → take i hs ++ insert_hyp t (drop i hs) ≡ take (i + 1) hs ++ insert_hyp t (drop (i + 1) hs)
insert_hyp-greater t hs i d h e = rw (add-one, take-suc hs i d h, drop-cons hs i d h, e, append_assoc) refl

pub insert_hyp-end : (t : Tm) (hs : List Tm) (i : ℕ) → length hs ≤ i → insert_hyp t (drop i hs) ≡ t ∷ []
insert_hyp-end t hs i h = rw (drop_of_length-le hs h) refl

pub ruleset place_lemmas = (insert_hyp-less, insert_hyp-equal, insert_hyp-greater, insert_hyp-end)

pub union-at : (a b : List Tm) (i : ℕ) (d : Tm) → i < length a → union (drop i a) b ≡ union (drop (i + 1) a) (insert_hyp (get_or a i d) b)
union-at a b i d h = rw (add-one, drop-cons a i d h) refl

pub union-end : (a b : List Tm) (i : ℕ) → length a ≤ i → union (drop i a) b ≡ b
union-end a b i h = rw (drop_of_length-le a h) refl

pub ruleset union_lemmas = (union-at, union-end)

pub without-at : (t : Tm) (hs : List Tm) (i : ℕ) (d : Tm) → i < length hs → without t (drop i hs) ≡ keep_if (same t (get_or hs i d)) (get_or hs i d) (without t (drop (i + 1) hs))
without-at t hs i d h = rw (add-one, drop-cons hs i d h) refl

pub without-end : (t : Tm) (hs : List Tm) (i : ℕ) → length hs ≤ i → without t (drop i hs) ≡ []
without-end t hs i h = rw (drop_of_length-le hs h) refl

pub ruleset without_lemmas = (without-at, without-end)

-- the pairs copied so far, and a copy of the next
pub ty_pairs-copied : (done s : List (String Global × Ty)) (p : String Global × Ty) (i : ℕ) (d : String Global × Ty) → i < length s → ty_pairs done ≡ ty_pairs (take i s)
    → string_bytes p.0 ≡ string_bytes (get_or s i d).0 → p.1 ≡ (get_or s i d).1 → ty_pairs (done ++ p ∷ []) ≡ ty_pairs (take (i + 1) s)
ty_pairs-copied done s p i d h e n t = rw (add-one, take-suc s i d h, ty_pairs-push done p, ty_pairs-push (take i s) (get_or s i d), e, n, t) refl

pub ruleset pairs_lemmas = (ty_pairs-copied)
