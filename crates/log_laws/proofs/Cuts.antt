-- Texts that are joined by a byte which the first parts lack are cut there.
use Rattle.std.proofs.Common.{◌≡◌, ℕ, ◌<◌, ◌^◌, true, not, ◌==◌, List, [], ◌∷◌, ◌++◌, length, codes, refl, sym, ap, ◌∙◌, subst, append_assoc, append-nil, arith, eq-eqb}
use Rattle.std.specs.List.{list_all, flat_map}
use Rattle.std.proofs.lemmas.Bool.{and_parts, both_ways, not-true}
use Rattle.std.proofs.lemmas.List.{append_cancel_right, length-append}
use Rattle.std.proofs.lemmas.List.Folds.{list_all-append}
use Rattle.hol_terms.specs.Text.{Text}
use Rattle.hol_logs.specs.Step.{with_semicolons}
use Rattle.log_laws.proofs.Lacking.{lacks, lacks_append}

clash : (c bad : ℕ) → not (c == bad) ≡ true → c ≡ bad → ⊥
clash c bad h e = both_ways (c == bad) (not-true (c == bad) h) (eq-eqb c bad e)

pub cut : (bad : ℕ) (a b x y : Text) → lacks bad a ≡ true → lacks bad b ≡ true → a ++ bad ∷ x ≡ b ++ bad ∷ y → (a ≡ b) × (x ≡ y)
cut bad [] [] x y h g e = (refl, cc)
cut bad [] (d ∷ b) x y h g e = let heads : d ≡ bad = cc in absurd (clash d bad (and_parts (not (d == bad)) (lacks bad b) g).0 heads)
cut bad (c ∷ a) [] x y h g e = let heads : c ≡ bad = cc in absurd (clash c bad (and_parts (not (c == bad)) (lacks bad a) h).0 heads)
cut bad (c ∷ a) (d ∷ b) x y h g e =
    let heads : c ≡ d = cc in
    let tails : a ++ bad ∷ x ≡ b ++ bad ∷ y = cc in
    let r = cut bad a b x y (and_parts (not (c == bad)) (lacks bad a) h).1 (and_parts (not (d == bad)) (lacks bad b) g).1 tails in
    (λ i. heads i ∷ r.0 i, r.1)

-- a text with the byte in it does not lack it
has : (bad : ℕ) (a x : Text) → lacks bad (a ++ bad ∷ x) ≡ true → ⊥
has bad a x h =
    let p = and_parts (lacks bad a) (lacks bad (bad ∷ x)) (sym (list_all-append (λ b. not (b == bad)) a (bad ∷ x)) ∙ h) in
    clash bad bad (and_parts (not (bad == bad)) (lacks bad x) p.1).0 refl

-- ---- lists with semicolons

abbrev rest : List Text → Text
rest xs = flat_map (λ y. codes " ; " ++ y) xs

parts : (x y : Text) (xs ys : List Text) → lacks 59 x ≡ true → lacks 59 y ≡ true → list_all (lacks 59) xs ≡ true → list_all (lacks 59) ys ≡ true → x ++ rest xs ≡ y ++ rest ys → x ∷ xs ≡ y ∷ ys
parts x y [] [] h g hs gs e = ap (λ t. t ∷ []) (sym (append-nil x) ∙ e ∙ append-nil y)
parts x y [] (z ∷ ys) h g hs gs e =
    let alone : x ≡ (y ++ 32 ∷ []) ++ 59 ∷ (32 ∷ (z ++ rest ys)) = sym (append-nil x) ∙ e ∙ sym (append_assoc y (32 ∷ []) (59 ∷ 32 ∷ (z ++ rest ys))) in
    absurd (has 59 (y ++ 32 ∷ []) (32 ∷ (z ++ rest ys)) (subst (λ t. lacks 59 t ≡ true) alone h))
parts x y (w ∷ xs) [] h g hs gs e =
    let alone : y ≡ (x ++ 32 ∷ []) ++ 59 ∷ (32 ∷ (w ++ rest xs)) = sym (append-nil y) ∙ sym e ∙ sym (append_assoc x (32 ∷ []) (59 ∷ 32 ∷ (w ++ rest xs))) in
    absurd (has 59 (x ++ 32 ∷ []) (32 ∷ (w ++ rest xs)) (subst (λ t. lacks 59 t ≡ true) alone g))
parts x y (w ∷ xs) (z ∷ ys) h g hs gs e =
    let ws = and_parts (lacks 59 w) (list_all (lacks 59) xs) hs in
    let zs = and_parts (lacks 59 z) (list_all (lacks 59) ys) gs in
    let joined : (x ++ 32 ∷ []) ++ 59 ∷ (32 ∷ (w ++ rest xs)) ≡ (y ++ 32 ∷ []) ++ 59 ∷ (32 ∷ (z ++ rest ys)) =
    append_assoc x (32 ∷ []) (59 ∷ 32 ∷ (w ++ rest xs)) ∙ e ∙ sym (append_assoc y (32 ∷ []) (59 ∷ 32 ∷ (z ++ rest ys))) in
    let c = cut 59 (x ++ 32 ∷ []) (y ++ 32 ∷ []) (32 ∷ (w ++ rest xs)) (32 ∷ (z ++ rest ys)) (lacks_append 59 x (32 ∷ []) h refl) (lacks_append 59 y (32 ∷ []) g refl) joined in
    let t = c.1 in
    let tails : w ++ rest xs ≡ z ++ rest ys = cc in
    let r = parts w z xs ys ws.0 zs.0 ws.1 zs.1 tails in
    λ i. append_cancel_right x y (32 ∷ []) c.0 i ∷ r i

-- lists that aren't empty, of texts without semicolons, are told by their text
pub same_parts : (xs ys : List Text) → 0 < length xs → 0 < length ys → list_all (lacks 59) xs ≡ true → list_all (lacks 59) ys ≡ true → with_semicolons xs ≡ with_semicolons ys → xs ≡ ys
same_parts [] ys m k hs gs e = absurd (omega arith)
same_parts (x ∷ xs) [] m k hs gs e = absurd (omega arith)
same_parts (x ∷ xs) (y ∷ ys) m k hs gs e =
    let p = and_parts (lacks 59 x) (list_all (lacks 59) xs) hs in
    let q = and_parts (lacks 59 y) (list_all (lacks 59) ys) gs in
    parts x y xs ys p.0 q.0 p.1 q.1 e

-- each of them is short where their text is
abbrev pub AreShort : List Text → Type 0
AreShort [] = Unit {0}
AreShort (x ∷ xs) = (length x < 2 ^ 64) × AreShort xs

rest_short : (xs : List Text) → length (rest xs) < 2 ^ 64 → AreShort xs
rest_short [] h = tt
rest_short (x ∷ xs) h = let l = length-append (codes " ; " ++ x) (rest xs) in (omega arith, rest_short xs (omega arith))

pub parts_short : (xs : List Text) → length (with_semicolons xs) < 2 ^ 64 → AreShort xs
parts_short [] h = tt
parts_short (x ∷ xs) h = let l = length-append x (rest xs) in (omega arith, rest_short xs (omega arith))
