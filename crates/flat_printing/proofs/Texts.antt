-- Canonical text of types by their numbers, a piece at a time.
use Rattle.std.proofs.Common.{◌≡◌, ℕ, zero, suc, ◌+◌, ◌<◌, ◌≤◌, List, [], ◌∷◌, ◌++◌, length, get_or, take, map, Bool, true, false, bytes_eq, nat_eq, refl, ap, sym, ◌∙◌, arith, append_assoc, add-one, take-suc}
use Rattle.std.proofs.lemmas.List.{map-append, append-nil, length-map, length-take-le}
use Rattle.std.proofs.lemmas.Bool.Decides.{nat_tests}
use Rattle.std.proofs.lemmas.Grind.{flat_map-append}
use Rattle.std.specs.Prelude.{codes}
use Rattle.std.specs.List.{flat_map}
use Rattle.hol_terms.specs.Name.{Name}
use Rattle.hol_terms.specs.Ty.{Ty, ty_app, tys}
use Rattle.hol_terms.specs.Typing.{fun_name}
use Rattle.hol_terms.specs.Text.{Text, is_arrow, ty_text, tys_texts, with_commas, with_arguments}
use Rattle.flat_terms.specs.declared.nodes.TypeId.{TypeId}
use Rattle.flat_terms.specs.Plain.{PlainTables, type_of, types_of}
use Rattle.flat_printing.specs.Commas.{comma_before}

tys_texts-map : (ts : List Ty) → tys_texts (tys ts) ≡ map ty_text ts
tys_texts-map [] = refl
tys_texts-map (t ∷ ts) = ap (λ xs. ty_text t ∷ xs) (tys_texts-map ts)

-- one more text behind its comma
commas_more : (xs : List Text) (y : Text) (i : ℕ) → length xs ≡ i → with_commas (xs ++ y ∷ []) ≡ with_commas xs ++ (comma_before i ++ y)
commas_more [] y zero h = append-nil y
commas_more [] y (suc i) h = absurd (omega arith)
commas_more (x ∷ xs) y zero h = absurd (omega arith)
commas_more (x ∷ xs) y (suc i) h =
    ap (λ l. x ++ l) (flat_map-append (λ (z : Text). codes "," ++ z) xs (y ∷ []) ∙ ap (λ l. flat_map (λ (z : Text). codes "," ++ z) xs ++ l) (append-nil (codes "," ++ y))) ∙ sym (append_assoc x (flat_map (λ (z : Text). codes "," ++ z) xs) (codes "," ++ y))

-- the texts of the types at the front of a list
abbrev pub front_text : PlainTables → List TypeId → ℕ → Text
front_text t ns i = with_commas (tys_texts (tys (types_of t (take i ns))))

pub front_more : (t : PlainTables) (ns : List TypeId) (i : ℕ) (d : TypeId) → i < length ns → front_text t ns (i + 1) ≡ front_text t ns i ++ (comma_before i ++ ty_text (type_of t (get_or ns i d)))
front_more t ns i d h = ap with_commas (tys_texts-map (types_of t (take (i + 1) ns)) ∙ ap (λ l. map ty_text (types_of t l)) (rw add-one (take-suc ns i d h)) ∙ ap (map ty_text) (map-append (type_of t) (take i ns) (get_or ns i d ∷ [])) ∙ map-append ty_text (types_of t (take i ns)) (type_of t (get_or ns i d) ∷ []))
    ∙ commas_more (map ty_text (types_of t (take i ns))) (ty_text (type_of t (get_or ns i d))) i count ∙ ap (λ l. with_commas l ++ (comma_before i ++ ty_text (type_of t (get_or ns i d)))) (sym (tys_texts-map (types_of t (take i ns))))
  where
    count : length (map ty_text (types_of t (take i ns))) ≡ i
    count = let within : i ≤ length ns = omega arith in length-map (types_of t (take i ns)) ty_text ∙ length-map (take i ns) (type_of t) ∙ length-take-le i ns within

pub front_written : (t : PlainTables) (ns : List TypeId) (i : ℕ) (d : TypeId) (start before between after : Text) → i < length ns → before ≡ start ++ front_text t ns i → between ≡ before ++ comma_before i → after ≡ between ++ ty_text (type_of t (get_or ns i d))
    → after ≡ start ++ front_text t ns (i + 1)
front_written t ns i d start before between after h e f g =
    let y = ty_text (type_of t (get_or ns i d)) in
    g ∙ ap (λ l. l ++ y) (f ∙ ap (λ l. l ++ comma_before i) e) ∙ append_assoc (start ++ front_text t ns i) (comma_before i) y ∙ append_assoc start (front_text t ns i) (comma_before i ++ y) ∙ ap (λ l. start ++ l) (sym (front_more t ns i d h))

-- the texts of names applied to types
three : (n : ℕ) → nat_eq (suc (suc (suc n))) 2 ≡ false
three n = grind (arith, nat_tests)

pub arrow_test : (t : PlainTables) (c : Name) (ns : List TypeId) → bytes_eq c fun_name ≡ true → nat_eq (length ns) 2 ≡ is_arrow c (tys (types_of t ns))
arrow_test t c [] e = refl
arrow_test t c (a ∷ []) e = refl
arrow_test t c (a ∷ b ∷ []) e = sym e
arrow_test t c (a ∷ b ∷ d ∷ ns) e = three (length ns)

pub listed : (t : PlainTables) (c : Name) (ns : List TypeId) → 2 ≤ length ns → is_arrow c (tys (types_of t ns)) ≡ false
    → ty_text (ty_app c (tys (types_of t ns))) ≡ codes "(" ++ (with_commas (tys_texts (tys (types_of t ns))) ++ (codes ") " ++ c))
listed t c [] h e = absurd (omega arith)
listed t c (a ∷ []) h e = absurd (omega arith)
listed t c (a ∷ b ∷ ns) h e = rw e (simp append_assoc)

pub with_some : (t : PlainTables) (c : Name) (ns : List TypeId) → 1 ≤ length ns → with_arguments c (tys_texts (tys (types_of t ns))) ≡ c ++ (codes "{" ++ (with_commas (tys_texts (tys (types_of t ns))) ++ codes "}"))
with_some t c [] h = absurd (omega arith)
with_some t c (a ∷ ns) h = simp append_assoc

pub ruleset named_lemmas = (append_assoc, listed)

pub ruleset constant_lemmas = (append_assoc, with_some)
