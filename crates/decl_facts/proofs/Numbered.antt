-- Lists that loops make, one element more at a time.
use Rattle.std.proofs.Common.{◌≡◌, ℕ, zero, suc, ◌+◌, ◌<◌, ◌∙◌, sym, List, [], ◌∷◌, ◌++◌, length, map, take, get_or, ap, refl, arith, add-one, append_assoc, append-nil}
use Rattle.std.proofs.lemmas.List.{take_more, map_more}
use Rattle.std.proofs.lemmas.Grind.{flat_map-append}
use Rattle.std.specs.List.{flat_map}
use Rattle.decl_core.specs.Statements.{each_from, flat_map_from}

each_from-suc : {A B : Type 0} (f : ℕ → A → B) (k : ℕ) (xs : List A) (i : ℕ) (d : A) → i < length xs → each_from f k (take (suc i) xs) ≡ each_from f k (take i xs) ++ f (k + i) (get_or xs i d) ∷ []
each_from-suc f k [] i d h = absurd (omega arith)
each_from-suc f k (x ∷ xs) zero d h = let e : k ≡ k + 0 = omega arith in ap (λ n. f n x ∷ []) e
each_from-suc f k (x ∷ xs) (suc i) d h =
    let e : k + 1 + i ≡ k + suc i = omega arith in
    ap (λ ys. f k x ∷ ys) (each_from-suc f (k + 1) xs i d (omega arith)) ∙ ap (λ n. f k x ∷ (each_from f (k + 1) (take i xs) ++ f n (get_or xs i d) ∷ [])) e

-- numbers from 1
pub each_from_more : {A B : Type 0} (f : ℕ → A → B) (xs : List A) (i : ℕ) (d : A) → i < length xs → each_from f 1 (take (i + 1) xs) ≡ each_from f 1 (take i xs) ++ f (i + 1) (get_or xs i d) ∷ []
each_from_more f xs i d h =
    let e : 1 + i ≡ suc i = omega arith in
    rw add-one (each_from-suc f 1 xs i d h ∙ ap (λ n. each_from f 1 (take i xs) ++ f n (get_or xs i d) ∷ []) e)

pub flat_map_take_more : {A B : Type 0} (f : A → List B) (xs : List A) (i : ℕ) (d : A) → i < length xs → flat_map f (take (i + 1) xs) ≡ flat_map f (take i xs) ++ f (get_or xs i d)
flat_map_take_more f xs i d h =
    ap (flat_map f) (take_more xs i d h) ∙ flat_map-append f (take i xs) (get_or xs i d ∷ []) ∙ ap (λ ys. flat_map f (take i xs) ++ ys) (append-nil (f (get_or xs i d)))

flat_map_from-suc : {A B : Type 0} (f : ℕ → A → List B) (k : ℕ) (xs : List A) (i : ℕ) (d : A) → i < length xs → flat_map_from f k (take (suc i) xs) ≡ flat_map_from f k (take i xs) ++ f (k + i) (get_or xs i d)
flat_map_from-suc f k [] i d h = absurd (omega arith)
flat_map_from-suc f k (x ∷ xs) zero d h = let e : k ≡ k + 0 = omega arith in append-nil (f k x) ∙ ap (λ n. f n x) e
flat_map_from-suc f k (x ∷ xs) (suc i) d h =
    let e : k + 1 + i ≡ k + suc i = omega arith in
    ap (λ ys. f k x ++ ys) (flat_map_from-suc f (k + 1) xs i d (omega arith))
    ∙ ap (λ n. f k x ++ (flat_map_from f (k + 1) (take i xs) ++ f n (get_or xs i d))) e
    ∙ sym (append_assoc (f k x) (flat_map_from f (k + 1) (take i xs)) (f (k + suc i) (get_or xs i d)))

pub flat_map_from_more : {A B : Type 0} (f : ℕ → A → List B) (xs : List A) (i : ℕ) (d : A) → i < length xs → flat_map_from f 1 (take (i + 1) xs) ≡ flat_map_from f 1 (take i xs) ++ f (i + 1) (get_or xs i d)
flat_map_from_more f xs i d h =
    let e : 1 + i ≡ suc i = omega arith in
    rw add-one (flat_map_from-suc f 1 xs i d h ∙ ap (λ n. flat_map_from f 1 (take i xs) ++ f n (get_or xs i d)) e)

added : {B : Type 0} (new old start before piece after : List B) → new ≡ old ++ piece → old ≡ start ++ before → after ≡ before ++ piece → new ≡ start ++ after
added new old start before piece after e inv more = e ∙ ap (λ ys. ys ++ piece) inv ∙ append_assoc start before piece ∙ ap (λ ys. start ++ ys) (sym more)

-- a step of a loop that adds to a list what F gives of the element d at i
pub flat_map_step : {A B : Type 0} (F : A → List B) (xs : List A) (i : ℕ) (d : A) (new old start : List B) → i < length xs → d ≡ get_or xs i d
    → new ≡ old ++ F d → old ≡ start ++ flat_map F (take i xs) → new ≡ start ++ flat_map F (take (i + 1) xs)
flat_map_step F xs i d new old start h is e inv =
    added new old start (flat_map F (take i xs)) (F d) (flat_map F (take (i + 1) xs)) e inv
    (flat_map_take_more F xs i d h ∙ ap (λ x. flat_map F (take i xs) ++ F x) (sym is))

pub flat_map_from_step : {A B : Type 0} (F : ℕ → A → List B) (xs : List A) (i : ℕ) (d : A) (new old start : List B) → i < length xs → d ≡ get_or xs i d
    → new ≡ old ++ F (i + 1) d → old ≡ start ++ flat_map_from F 1 (take i xs) → new ≡ start ++ flat_map_from F 1 (take (i + 1) xs)
flat_map_from_step F xs i d new old start h is e inv =
    added new old start (flat_map_from F 1 (take i xs)) (F (i + 1) d) (flat_map_from F 1 (take (i + 1) xs)) e inv
    (flat_map_from_more F xs i d h ∙ ap (λ x. flat_map_from F 1 (take i xs) ++ F (i + 1) x) (sym is))

pub each_from_step : {A B : Type 0} (F : ℕ → A → B) (xs : List A) (i : ℕ) (d : A) (y : B) (new old start : List B) → i < length xs → d ≡ get_or xs i d
    → new ≡ old ++ y ∷ [] → y ≡ F (i + 1) d → old ≡ start ++ each_from F 1 (take i xs) → new ≡ start ++ each_from F 1 (take (i + 1) xs)
each_from_step F xs i d y new old start h is e f inv =
    added new old start (each_from F 1 (take i xs)) (F (i + 1) d ∷ []) (each_from F 1 (take (i + 1) xs)) (e ∙ ap (λ z. old ++ z ∷ []) f) inv
    (each_from_more F xs i d h ∙ ap (λ x. each_from F 1 (take i xs) ++ F (i + 1) x ∷ []) (sym is))

-- the same where the list was empty
pub each_from_first : {A B : Type 0} (F : ℕ → A → B) (xs : List A) (i : ℕ) (d : A) (y : B) (new old : List B) → i < length xs → d ≡ get_or xs i d
    → new ≡ old ++ y ∷ [] → y ≡ F (i + 1) d → old ≡ each_from F 1 (take i xs) → new ≡ each_from F 1 (take (i + 1) xs)
each_from_first F xs i d y new old h is e f inv = each_from_step F xs i d y new old [] h is e f inv

pub map_first : {A B : Type 0} (F : A → B) (xs : List A) (i : ℕ) (d : A) (y : B) (new old : List B) → i < length xs → d ≡ get_or xs i d
    → new ≡ old ++ y ∷ [] → y ≡ F d → old ≡ map F (take i xs) → new ≡ map F (take (i + 1) xs)
map_first F xs i d y new old h is e f inv =
    e ∙ ap (λ ys. ys ++ y ∷ []) inv ∙ ap (λ z. map F (take i xs) ++ z ∷ []) (f ∙ ap F is) ∙ sym (map_more F xs i d h)

pub ruleset append_lemmas = (append_assoc)
