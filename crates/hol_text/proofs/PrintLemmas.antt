-- Lemmas on canonical text, a piece at a time.
use Rattle.std.proofs.Common.{◌≡◌, Bool, true, false, ◌&&◌, ℕ, zero, suc, arith, ◌+◌, ◌-◌, ◌*◌, ◌<◌, ◌≤◌, List, [], ◌∷◌, ◌++◌, append_assoc, length, get_or, drop, drop-cons, drop_of_length-le, take, add-one, refl, sym, ap, ◌∙◌, bytes_eq, not}
use Rattle.std.specs.Prelude.{◌==◌, codes}
use Rattle.std.specs.List.{flat_map}
use Rattle.std.proofs.lemmas.Bool.Decides.{nat_tests}
use Rattle.hol_terms.specs.Name.{Name}
use Rattle.hol_terms.specs.Ty.{Ty, ty_app, tys, ty_size, tys_size}
use Rattle.hol_terms.specs.Tm.{Tm, tm_index, tm_free, tm_const, tm_comb, tm_abs, tm_size}
use Rattle.hol_terms.specs.Typing.{fun_name}
use Rattle.hol_terms.specs.Sequent.{argument}
use Rattle.hol_terms.specs.Text.{Text, is_arrow, ty_text, tys_texts, with_commas, with_arguments, parenthesized, between, before, binding, none, sugar, is_plain, is_atom, printed}
use Rattle.hol_terms.proofs.Lists.{ty_size-at}
use Rattle.hol_text.specs.Printing.{operator}

-- a list of type arguments is an arrow's
and_false : (b : Bool) → false ≡ (b && false)
and_false true = refl
and_false false = refl

and_true : (b : Bool) → b ≡ (b && true)
and_true true = refl
and_true false = refl

not_two : (n : ℕ) → (suc (suc (suc n)) == 2) ≡ false
not_two n = grind (arith, nat_tests)

pub is_arrow-tys : (c : Name) (ts : List Ty) → is_arrow c (tys ts) ≡ (bytes_eq c fun_name && (length ts == 2))
is_arrow-tys c [] = and_false (bytes_eq c fun_name)
is_arrow-tys c (t ∷ []) = and_false (bytes_eq c fun_name)
is_arrow-tys c (t ∷ u ∷ []) = and_true (bytes_eq c fun_name)
is_arrow-tys c (t ∷ u ∷ v ∷ ts) = rw (not_two (length ts)) (and_false (bytes_eq c fun_name))

pub ruleset arrow_lemmas = (is_arrow-tys)

tys_size-take : (k : ℕ) (ts : List Ty) → tys_size (tys (take k ts)) ≤ tys_size (tys ts)
tys_size-take zero ts = omega arith
tys_size-take (suc k) [] = omega arith
tys_size-take (suc k) (t ∷ ts) = omega (arith, tys_size-take k ts)

tys_size-drop : (k : ℕ) (ts : List Ty) → tys_size (tys (drop k ts)) ≤ tys_size (tys ts)
tys_size-drop zero ts = omega arith
tys_size-drop (suc k) [] = omega arith
tys_size-drop (suc k) (t ∷ ts) = omega (arith, tys_size-drop k ts)

-- a type of a part of the list
pub ty_size-at_part : (ts : List Ty) (j k i : ℕ) (d t : Ty) → i < length (take j (drop k ts)) → t ≡ get_or (take j (drop k ts)) i d → ty_size t ≤ tys_size (tys ts)
ty_size-at_part ts j k i d t h e = omega (arith, ap ty_size e, ty_size-at (take j (drop k ts)) i d h, tys_size-take j (drop k ts), tys_size-drop k ts)

-- each text behind a comma
abbrev pub after_commas : List Text → Text
after_commas xs = flat_map (λ y. codes "," ++ y) xs

pub after_commas-at : (ts : List Ty) (i : ℕ) (d : Ty) → i < length ts
    → after_commas (tys_texts (tys (drop i ts))) ≡ codes "," ++ (ty_text (get_or ts i d) ++ after_commas (tys_texts (tys (drop (i + 1) ts))))
after_commas-at ts i d h = rw (add-one, drop-cons ts i d h) refl

pub after_commas-end : (ts : List Ty) (i : ℕ) → length ts ≤ i → after_commas (tys_texts (tys (drop i ts))) ≡ []
after_commas-end ts i h = rw (drop_of_length-le ts h) refl

-- a name before whose type arguments no arrow stands
pub ty_text-listed : (c : Name) (ts : List Ty) → 2 ≤ length ts → is_arrow c (tys ts) ≡ false
    → ty_text (ty_app c (tys ts)) ≡ codes "(" ++ (with_commas (tys_texts (tys ts)) ++ (codes ") " ++ c))
ty_text-listed c [] h e = absurd (omega arith)
ty_text-listed c (t ∷ []) h e = absurd (omega arith)
ty_text-listed c (t ∷ u ∷ ts) h e = rw e (simp append_assoc)

pub with_arguments-some : (c : Name) (ts : List Ty) → 1 ≤ length ts
    → with_arguments c (tys_texts (tys ts)) ≡ c ++ (codes "{" ++ (with_commas (tys_texts (tys ts)) ++ codes "}"))
with_arguments-some c [] h = absurd (omega arith)
with_arguments-some c (t ∷ ts) h = simp append_assoc

pub ruleset constant_lemmas = (append_assoc, with_arguments-some)

pub ruleset type_lemmas = (append_assoc, ty_size-at, after_commas-at, after_commas-end, ty_text-listed)

-- the number of a bound variable
pub sub_sub : (d i : ℕ) → (d - i) - 1 ≡ d - (i + 1)
sub_sub d i = omega arith

-- what is written of an application, by its sugar
pub printed-infix : (d : ℕ) (f x l : Tm) (sign : Text) → sugar f x ≡ between sign → f ≡ tm_comb (operator f) l
    → (printed d (tm_comb f x)).whole ≡ parenthesized (not (is_plain l)) (printed d l).whole ++ (sign ++ parenthesized (not (is_plain x)) (printed d x).whole)
printed-infix d f x l sign e h = rw (e, ap argument h, ap (λ t. (printed d t).operand) h, append_assoc) refl

pub printed-negation : (d : ℕ) (f x : Tm) → sugar f x ≡ before
    → (printed d (tm_comb f x)).whole ≡ codes "~ " ++ parenthesized (not (is_plain x)) (printed d x).whole
printed-negation d f x e = rw e refl

pub printed-binder : (d : ℕ) (f x b : Tm) (a : Ty) (sign : Text) → sugar f x ≡ binding sign → x ≡ tm_abs a b
    → (printed d (tm_comb f x)).whole ≡ sign ++ (printed d (tm_abs a b)).scope
printed-binder d f x b a sign e h = rw (e, ap (λ t. (printed d t).scope) h) refl

pub printed-plain : (d : ℕ) (f x : Tm) → sugar f x ≡ none
    → (printed d (tm_comb f x)).whole ≡ parenthesized (not (is_plain f)) (printed d f).whole ++ (codes " " ++ parenthesized (not (is_atom x)) (printed d x).whole)
printed-plain d f x e = rw (e, append_assoc) refl

pub tm_size-positive : (t : Tm) → 1 ≤ tm_size t
tm_size-positive (tm_index i t) = omega arith
tm_size-positive (tm_free v) = omega arith
tm_size-positive (tm_const c ts t) = omega arith
tm_size-positive (tm_comb f x) = omega arith
tm_size-positive (tm_abs t b) = omega arith

pub left_falls : (f l : Tm) → f ≡ tm_comb (operator f) l → tm_size l < tm_size f
left_falls f l h = omega (arith, ap tm_size h)

pub body_falls : (x b : Tm) (a : Ty) → x ≡ tm_abs a b → tm_size b < tm_size x
body_falls x b a h = omega (arith, ap tm_size h)

pub ruleset term_lemmas = (append_assoc, sub_sub, printed-infix, printed-negation, printed-binder, printed-plain, tm_size-positive, left_falls, body_falls)
