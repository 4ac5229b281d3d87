-- What is on a shelf.
use Rattle.std.proofs.Common.{◌≡◌, ◌≢◌, ℕ, suc, ◌<◌, ◌≤◌, ◌-◌, arith, refl, sym, ap, ◌∙◌, subst, List, [], ◌∷◌, ◌++◌, All, length, take, drop, get_or}
use Rattle.std.proofs.lemmas.List.{get_or_default, take-append-drop, map-append, map_push, length-map, get_or-map}
use Rattle.std.proofs.lemmas.List.Elements.{All-push, All-cons, All-map, All-contains, All-head, All-tail, All-get_or}
use Rattle.std.proofs.Math.Seq.{drop-cons}
use Rattle.hol_kernel.specs.State.{State, Theorem, Has}
use Rattle.hol_terms.specs.Sequent.{Sequent}
use Rattle.hol_terms.specs.Text.{Text}
use Rattle.library_facts.specs.declared.fact.Fact.{Fact}
use Rattle.library_facts.specs.Facts.{statement_of, statements_of}
use Rattle.script_core.specs.Shelves.{Shelved, shelved, IsFact, IsOn, AreOn, ShelfHad, AreStated, IsLastPut}
use Rattle.script_core.specs.Tables.{facts_put}

abbrev Entry : Type 0
Entry = Fact × Theorem

abbrev read_as : Entry → Text × Theorem
read_as e = (statement_of e.0, e.1)

pub shelved_push : (es ds : List Entry) (fact : Fact) (th : Theorem) → ds ≡ es ++ (fact, th) ∷ [] → shelved ds ≡ shelved es ++ (statement_of fact, th) ∷ []
shelved_push es ds fact th e = ap shelved e ∙ map_push read_as es (fact, th)

pub stated_push : (es ds : List Entry) (fact : Fact) (th : Theorem) → AreStated (shelved es) → IsFact (statement_of fact) th.sequent → ds ≡ es ++ (fact, th) ∷ [] → AreStated (shelved ds)
stated_push es ds fact th h f e = record {
  all = subst (λ s. All (λ x. IsFact x.0 x.1.sequent) s) (sym (shelved_push es ds fact th e)) (All-push (λ x. IsFact x.0 x.1.sequent) (shelved es) (statement_of fact, th) h.all f);
}

-- the list around a place
around : (s : List Entry) (i : ℕ) (x : Entry) → i < length s → x ≡ get_or s i x → s ≡ take i s ++ x ∷ drop (suc i) s
around s i x h e = sym (take-append-drop i s) ∙ ap (λ t. take i s ++ t) (drop-cons s i x h ∙ ap (λ y. y ∷ drop (suc i) s) (sym e))

suc_of : (n : ℕ) → 0 < n → suc (n - 1) ≡ n
suc_of n h = omega arith

pub none_in : (es : List Entry) (fact : Fact) → All (λ e. statement_of e.0 ≢ statement_of fact) es → All (λ e. e.0 ≢ statement_of fact) (shelved es)
none_in es fact a = All-map (λ e. e.0 ≢ statement_of fact) read_as es a

-- x and y are read at the same place, where y is the fact's
pub last_at : (es : List Entry) (v : Shelved) (n : ℕ) (fact : Fact) (x y : Entry) → shelved es ≡ v → 0 < n → n ≤ length es → x ≡ get_or es (n - 1) x → y ≡ get_or es (n - 1) y → statement_of y.0 ≡ statement_of fact
    → All (λ e. statement_of e.0 ≢ statement_of fact) (drop n es) → IsLastPut v (statement_of fact) x.1
last_at es v n fact x y f h l e d g a =
    let below : n - 1 < length es = omega arith in
    let same : x ≡ y = e ∙ get_or_default es (n - 1) x y below ∙ sym d in
    let is_fact : read_as x ≡ (statement_of fact, x.1) = λ i. ((ap (λ (p : Entry). statement_of p.0) same ∙ g) i, x.1) in
    record {
      before = shelved (take (n - 1) es);
      after = shelved (drop (suc (n - 1)) es);
      is = sym f
          ∙ ap shelved (around es (n - 1) x below e)
          ∙ map-append read_as (take (n - 1) es) (x ∷ drop (suc (n - 1)) es)
          ∙ ap (λ p. shelved (take (n - 1) es) ++ p ∷ shelved (drop (suc (n - 1)) es)) is_fact;
      none_after = none_in (drop (suc (n - 1)) es) fact (subst (λ m. All (λ e. statement_of e.0 ≢ statement_of fact) (drop m es)) (sym (suc_of n h)) a);
    }

-- none is the fact's, from one place further on, and in the whole shelf
pub none_more : (es : List Entry) (n : ℕ) (fact : Fact) (y : Entry) → 0 < n → n ≤ length es → y ≡ get_or es (n - 1) y → statement_of y.0 ≢ statement_of fact → All (λ e. statement_of e.0 ≢ statement_of fact) (drop n es)
    → All (λ e. statement_of e.0 ≢ statement_of fact) (drop (n - 1) es)
none_more es n fact y h l d g a =
    let below : n - 1 < length es = omega arith in
    let rest = subst (λ m. All (λ e. statement_of e.0 ≢ statement_of fact) (drop m es)) (sym (suc_of n h)) a in
    subst (All (λ e. statement_of e.0 ≢ statement_of fact)) (ap (λ z. z ∷ drop (suc (n - 1)) es) d ∙ sym (drop-cons es (n - 1) y below))
    (All-cons (λ e. statement_of e.0 ≢ statement_of fact) y (drop (suc (n - 1)) es) g rest)

zero_of : (n : ℕ) → n ≤ 0 → n ≡ 0
zero_of n h = omega arith

pub none_left : (es : List Entry) (v : Shelved) (n : ℕ) (fact : Fact) → shelved es ≡ v → n ≤ 0 → All (λ e. statement_of e.0 ≢ statement_of fact) (drop n es) → All (λ e. e.0 ≢ statement_of fact) v
none_left es v n fact f h a =
    subst (All (λ e. e.0 ≢ statement_of fact)) f (none_in es fact (subst (λ m. All (λ e. statement_of e.0 ≢ statement_of fact) (drop m es)) (zero_of n h) a))

middle : {X : Type 0} (P : X → Type 0) (xs : List X) (x : X) (ys : List X) → All P (xs ++ x ∷ ys) → P x
middle P [] x ys h = All-head P x ys h
middle P (y ∷ xs) x ys h = middle P xs x ys (All-tail P y (xs ++ x ∷ ys) h)

-- so its theorem is that of the fact
pub stated_last : (s v : Shelved) (fact : Text) (th : Theorem) → s ≡ v → AreStated s → IsLastPut v fact th → IsFact fact th.sequent
stated_last s v fact th e h l = middle (λ e. IsFact e.0 e.1.sequent) l.before (fact, th) l.after (subst (λ es. All (λ e. IsFact e.0 e.1.sequent) es) (e ∙ l.is) h.all)

pub known_there : (s : Shelved) (fact : Text) → IsOn s fact → All (λ e. e.0 ≢ fact) s → ⊥
known_there s fact h a = All-contains (λ e. e.0 ≢ fact) s (fact, h.th) a h.there refl

pub known_had : (k : State) (s : Shelved) (fact : Text) (th : Theorem) → ShelfHad k s → IsLastPut s fact th → Has k th
known_had k s fact th h l = middle (λ e. Has k e.1) l.before (fact, th) l.after (subst (λ es. All (λ e. Has k e.1) es) l.is h.all)

pub ruleset known_lemmas = (known_there, known_had)

pub fact_on : (s : Shelved) (facts : List Fact) (i : ℕ) (d : Fact) → AreOn s (statements_of facts) → i < length facts → IsOn s (statement_of (get_or facts i d))
fact_on s facts i d h l =
    let long = length-map facts statement_of in
    let within : i < length (statements_of facts) = omega arith in
    subst (IsOn s) (get_or-map statement_of facts i d (statement_of d) l) (All-get_or (IsOn s) (statements_of facts) i (statement_of d) within h.all)

pub fact_put : (found : List Sequent) (fact : Text) (facts : List Text) (a : Sequent) → IsFact fact a → facts_put found (fact ∷ facts) ≡ facts_put (found ++ a ∷ []) facts
fact_put found fact facts a h = rw (h.is) refl

pub ruleset premise_lemmas = (fact_on, fact_put)
