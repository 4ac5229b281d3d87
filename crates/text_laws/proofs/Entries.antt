-- Tables by name whose entries all meet something.
use Rattle.std.proofs.Common.{◌≡◌, Bool, true, false, List, [], ◌∷◌, ◌++◌, cond, Some, bytes_eq, refl, subst}
use Rattle.std.proofs.lemmas.Slice.Eq.{bytes_eq-Decides}
use Rattle.hol_terms.specs.Name.{Name}
use Rattle.hol_terms.specs.Signature.{entry_at}

abbrev pub Entries : {A : Type 0} → (Name → A → Type 0) → List (Name × A) → Type 0
Entries P [] = Unit {0}
Entries P (e ∷ es) = P e.0 e.1 × Entries P es

pub entries-append : {A : Type 0} (P : Name → A → Type 0) (es fs : List (Name × A)) → Entries P es → Entries P fs → Entries P (es ++ fs)
entries-append P [] fs h g = g
entries-append P (e ∷ es) fs h g = (h.0, entries-append P es fs h.1 g)

pub entries-map : {A : Type 0} (P Q : Name → A → Type 0) → ((n : Name) (x : A) → P n x → Q n x) → (es : List (Name × A)) → Entries P es → Entries Q es
entries-map P Q f [] h = tt
entries-map P Q f (e ∷ es) h = (f e.0 e.1 h.0, entries-map P Q f es h.1)

some_is : {A : Type 0} (x y : A) → Some x ≡ Some y → x ≡ y
some_is x y e = cc

-- what is found in the table meets it
pub entries-found : {A : Type 0} (P : Name → A → Type 0) (es : List (Name × A)) (n : Name) (x : A) → Entries P es → entry_at es n ≡ Some x → P n x
entries-found P [] n x h e = cc
entries-found {A} P (p ∷ es) n x h e = at (bytes_eq p.0 n) refl (entries-found P es n x h.1) e
  where
    at : (b : Bool) → bytes_eq p.0 n ≡ b → (entry_at es n ≡ Some x → P n x) → cond b (Some p.1) (entry_at es n) ≡ Some x → P n x
    at true s f g = subst (λ (m : Name). P m x) ((bytes_eq-Decides p.0 n).0 s) (subst (P p.0) (some_is p.1 x g) h.0)
    at false s f g = f g
