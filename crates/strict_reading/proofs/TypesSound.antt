-- What is read as a type is a well formed type, and its canonical text stands there.
use Rattle.std.proofs.Common.{◌≡◌, refl, sym, ap, ◌∙◌, ℕ, zero, suc, ◌+◌, Bool, true, false, not, ◌++◌, append_assoc, subst, Option, Some, None, length, eqb-true}
use Rattle.std.specs.Prelude.{codes}
use Rattle.std.specs.List.{flat_map}
use Rattle.hol_terms.specs.Name.{Name}
use Rattle.hol_terms.specs.Ty.{Ty, ty_var, ty_app, Tys, no_tys, more_tys}
use Rattle.hol_terms.specs.Typing.{fun_name, fun_ty}
use Rattle.hol_terms.specs.Signature.{Signature, arity_of, tys_count, IsTyOver, AreTysOver}
use Rattle.hol_terms.specs.Text.{Text, parenthesized, is_arrow, is_function, ty_text, tys_texts}
use Rattle.strict_reading.specs.Words.{word_of, behind_word}
use Rattle.strict_reading.specs.Types.{is_number, has_arity, TypeReadings, stop_type, name_behind, range_behind, onward_step, variable_step, name_step, some_types, tuple_step, group_step, type_step, more_step, types_below, reads_type, reads_types}
use Rattle.strict_reading.proofs.Steps.{bind_case, when_case, choose_case, either_case}
use Rattle.strict_reading.proofs.Words.{word_parts, behind_is}

pub has_arity-is : (s : Signature) (c : Name) (k : ℕ) → has_arity s c k ≡ true → arity_of s c ≡ Some k
has_arity-is s c k h = at (arity_of s c) h
  where
    at : (o : Option ℕ) → is_number o k ≡ true → o ≡ Some k
    at None h = cc
    at (Some n) h = ap Some (eqb-true n k h)

-- the text of a type where more of the type follows
abbrev pub domain_text : Ty → Text
domain_text t = parenthesized (is_function t) (ty_text t)

-- the texts behind the first of several types
abbrev pub more_text : Tys → Text
more_text ts = flat_map (λ y. codes "," ++ y) (tys_texts ts)

pub record IsType (s : Signature) (x : Text) (t : Ty) (rest : Text) : Type 0 where
  pub text : x ≡ ty_text t ++ rest
  pub over : IsTyOver s t

pub record AreTypes (s : Signature) (x : Text) (ts : Tys) (rest : Text) : Type 0 where
  pub text : x ≡ more_text ts ++ rest
  pub over : AreTysOver s ts

-- the readings give what stands there
pub record AreSound (s : Signature) (r : TypeReadings) : Type 0 where
  pub whole : (x : Text) (t : Ty) (rest : Text) → r.whole x ≡ Some (t, rest) → IsType s x t rest
  pub onward : (t : Ty) (x : Text) (u : Ty) (rest : Text) → IsTyOver s t → r.onward t x ≡ Some (u, rest) → IsType s (domain_text t ++ x) u rest
  pub more : (x : Text) (ts : Tys) (rest : Text) → r.more x ≡ Some (ts, rest) → AreTypes s x ts rest

-- the reading went on from a type
goes_on_from : (s : Signature) (r : TypeReadings) (sound : AreSound s r) → (x : Text) (t : Ty) (y : Text) (u : Ty) (rest : Text) → x ≡ domain_text t ++ y → IsTyOver s t → r.onward t y ≡ Some (u, rest) → IsType s x u rest
goes_on_from s r sound x t y u rest e o h = let q = sound.onward t y u rest o h in record { text = e ∙ q.text; over = q.over }

pub not_true : (b : Bool) → not b ≡ true → b ≡ false
not_true true h = cc
not_true false h = refl

-- what was given is what is asked for
given : (s : Signature) (x : Text) (p q : Ty × Text) → IsType s x p.0 p.1 → Some p ≡ Some q → IsType s x q.0 q.1
given s x p q h e = let P : Ty × Text → Type 0 = λ r. IsType s x r.0 r.1 in let f : p ≡ q = cc in subst P f h

given_types : (s : Signature) (x : Text) (p q : Tys × Text) → AreTypes s x p.0 p.1 → Some p ≡ Some q → AreTypes s x q.0 q.1
given_types s x p q h e = let P : Tys × Text → Type 0 = λ r. AreTypes s x r.0 r.1 in let f : p ≡ q = cc in subst P f h

stopped : (s : Signature) (t : Ty) (x : Text) (u : Ty) (rest : Text) → IsTyOver s t → stop_type t x ≡ Some (u, rest) → IsType s (domain_text t ++ x) u rest
stopped s t x u rest o h =
    when_case _ _ _ h (λ e g. given s (domain_text t ++ x) (t, x) (u, rest) (record { text = ap (λ b. parenthesized b (ty_text t) ++ x) (not_true (is_function t) e); over = o }) g)

-- a name behind its only argument
named : (s : Signature) (r : TypeReadings) (sound : AreSound s r) → (t : Ty) (x : Text) (u : Ty) (rest : Text) → IsTyOver s t → name_behind s r t x ≡ Some (u, rest) → IsType s (domain_text t ++ (codes " " ++ x)) u rest
named s r sound t x u rest o h =
    when_case _ _ _ h (λ e g. goes_on_from s r sound _ (ty_app (word_of x) (more_tys t no_tys)) (behind_word x) u rest
    (ap (λ z. domain_text t ++ (codes " " ++ z)) (word_parts x) ∙ apart (domain_text t) (codes " ") (word_of x) (behind_word x)) (has_arity-is s (word_of x) 1 e, (o, tt)) g)
  where
    apart : (a b c d : Text) → a ++ (b ++ (c ++ d)) ≡ ((a ++ b) ++ c) ++ d
    apart a b c d = simp append_assoc

-- a function type from its domain
ranged : (s : Signature) (r : TypeReadings) (sound : AreSound s r) → (t : Ty) (x : Text) (u : Ty) (rest : Text) → IsTyOver s t → range_behind s r t x ≡ Some (u, rest) → IsType s (domain_text t ++ (codes " " ++ (codes "-> " ++ x))) u rest
ranged s r sound t x u rest o h =
    when_case _ _ _ h (λ e g. bind_case _ _ _ g (λ p f k. let q = sound.whole x p.0 p.1 f in given s _ (fun_ty t p.0, p.1) (u, rest)
    (record { text = ap (λ z. domain_text t ++ (codes " -> " ++ z)) q.text ∙ apart (domain_text t) (codes " -> ") (ty_text p.0) p.1; over = (has_arity-is s fun_name 2 e, (o, (q.over, tt))) }) k))
  where
    apart : (a b c d : Text) → a ++ (b ++ (c ++ d)) ≡ ((a ++ b) ++ c) ++ d
    apart a b c d = simp append_assoc

onward_sound : (s : Signature) (r : TypeReadings) (sound : AreSound s r) → (t : Ty) (x : Text) (u : Ty) (rest : Text) → IsTyOver s t → onward_step s r t x ≡ Some (u, rest) → IsType s (domain_text t ++ x) u rest
onward_sound s r sound t x u rest o h =
    either_case _ _ _ _ h
    (λ y e g.
    let front : x ≡ codes " " ++ y = behind_is (codes " ") x y e in
    choose_case _ _ _ _ g
    (λ b k. onto x (codes " " ++ y) front (named s r sound t y u rest o k))
    (λ b k. either_case _ _ _ _ k
    (λ z f l. onto x (codes " " ++ (codes "-> " ++ z)) (front ∙ ap (λ v. codes " " ++ v) (behind_is (codes "-> ") y z f)) (ranged s r sound t z u rest o l))
    (λ f l. stopped s t x u rest o l)))
    (λ e g. stopped s t x u rest o g)
  where
    onto : (x y : Text) → x ≡ y → IsType s (domain_text t ++ y) u rest → IsType s (domain_text t ++ x) u rest
    onto x y e i = record { text = ap (λ z. domain_text t ++ z) e ∙ i.text; over = i.over }

-- ---- the first part of a type

variable_sound : (s : Signature) (r : TypeReadings) (sound : AreSound s r) → (x : Text) (u : Ty) (rest : Text) → variable_step r x ≡ Some (u, rest) → IsType s (codes "'" ++ x) u rest
variable_sound s r sound x u rest h =
    when_case _ _ _ h (λ e g. goes_on_from s r sound _ (ty_var (word_of x)) (behind_word x) u rest (ap (λ z. codes "'" ++ z) (word_parts x)) e g)

name_sound : (s : Signature) (r : TypeReadings) (sound : AreSound s r) → (x : Text) (u : Ty) (rest : Text) → name_step s r x ≡ Some (u, rest) → IsType s x u rest
name_sound s r sound x u rest h =
    when_case _ _ _ h (λ b f. when_case _ _ _ f (λ e g. goes_on_from s r sound _ (ty_app (word_of x) no_tys) (behind_word x) u rest (word_parts x) (has_arity-is s (word_of x) 0 e, tt) g))

-- several types in parentheses, and a name
pub tuple_text : (c : Name) (t : Ty) (ts : Tys) → some_types ts ≡ true → is_arrow c (more_tys t ts) ≡ false → domain_text (ty_app c (more_tys t ts)) ≡ ((codes "(" ++ (ty_text t ++ more_text ts)) ++ codes ")") ++ codes " " ++ c
tuple_text c t no_tys h e = cc
tuple_text c t (more_tys v vs) h e = rw e refl

tuple_sound : (s : Signature) (r : TypeReadings) (sound : AreSound s r) → (t : Ty) (ts : Tys) (x : Text) (u : Ty) (rest : Text) → IsTyOver s t → AreTysOver s ts → tuple_step s r t ts x ≡ Some (u, rest)
    → IsType s (codes "(" ++ (ty_text t ++ (more_text ts ++ (codes ") " ++ x)))) u rest
tuple_sound s r sound t ts x u rest o os h =
    when_case _ _ _ h (λ many g. when_case _ _ _ g (λ e k. when_case _ _ _ k (λ a l. goes_on_from s r sound _ (ty_app (word_of x) (more_tys t ts)) (behind_word x) u rest
    (ap (λ z. codes "(" ++ (ty_text t ++ (more_text ts ++ (codes ") " ++ z)))) (word_parts x) ∙ apart (ty_text t) (more_text ts) (word_of x) (behind_word x)
    ∙ ap (λ z. z ++ behind_word x) (sym (tuple_text (word_of x) t ts many (not_true _ a))))
    (has_arity-is s (word_of x) (tys_count (more_tys t ts)) e, (o, os)) l)))
  where
    apart : (a b c d : Text) → codes "(" ++ (a ++ (b ++ (codes ") " ++ (c ++ d)))) ≡ (((codes "(" ++ (a ++ b)) ++ codes ")") ++ codes " " ++ c) ++ d
    apart a b c d = simp append_assoc

group_sound : (s : Signature) (r : TypeReadings) (sound : AreSound s r) → (t : Ty) (x : Text) (u : Ty) (rest : Text) → IsTyOver s t → group_step s r t x ≡ Some (u, rest) → IsType s (codes "(" ++ (ty_text t ++ x)) u rest
group_sound s r sound t x u rest o h =
    either_case _ _ _ _ h
    (λ y e g. when_case _ _ _ g (λ f k. goes_on_from s r sound _ t y u rest
    (ap (λ z. codes "(" ++ (ty_text t ++ z)) (behind_is (codes ")") x y e) ∙ apart (ty_text t) y ∙ ap (λ b. parenthesized b (ty_text t) ++ y) (sym f)) o k))
    (λ e g. bind_case _ _ _ g (λ p f k. bind_case _ _ _ k (λ y m l.
    let q = sound.more x p.0 p.1 f in
    let i = tuple_sound s r sound t p.0 y u rest o q.over l in
    record { text = ap (λ z. codes "(" ++ (ty_text t ++ z)) (q.text ∙ ap (λ z. more_text p.0 ++ z) (behind_is (codes ") ") p.1 y m)) ∙ i.text; over = i.over })))
  where
    apart : (a b : Text) → codes "(" ++ (a ++ (codes ")" ++ b)) ≡ ((codes "(" ++ a) ++ codes ")") ++ b
    apart a b = simp append_assoc

type_sound : (s : Signature) (r : TypeReadings) (sound : AreSound s r) → (x : Text) (u : Ty) (rest : Text) → type_step s r x ≡ Some (u, rest) → IsType s x u rest
type_sound s r sound x u rest h =
    either_case _ _ _ _ h
    (λ y e g. onto x (codes "'" ++ y) (behind_is (codes "'") x y e) (variable_sound s r sound y u rest g))
    (λ e g. either_case _ _ _ _ g
    (λ y f k. bind_case _ _ _ k (λ p m l.
    let q = sound.whole y p.0 p.1 m in
    onto x (codes "(" ++ (ty_text p.0 ++ p.1)) (behind_is (codes "(") x y f ∙ ap (λ z. codes "(" ++ z) q.text) (group_sound s r sound p.0 p.1 u rest q.over l)))
    (λ f k. name_sound s r sound x u rest k))
  where
    onto : (x y : Text) → x ≡ y → IsType s y u rest → IsType s x u rest
    onto x y e i = record { text = e ∙ i.text; over = i.over }

more_sound : (s : Signature) (r : TypeReadings) (sound : AreSound s r) → (x : Text) (ts : Tys) (rest : Text) → more_step r x ≡ Some (ts, rest) → AreTypes s x ts rest
more_sound s r sound x ts rest h =
    either_case _ _ _ _ h
    (λ y e g. bind_case _ _ _ g (λ p f k. bind_case _ _ _ k (λ q m l.
    let a = sound.whole y p.0 p.1 f in
    let b = sound.more p.1 q.0 q.1 m in
    given_types s x (more_tys p.0 q.0, q.1) (ts, rest)
    (record { text = behind_is (codes ",") x y e ∙ ap (λ z. codes "," ++ z) (a.text ∙ ap (λ z. ty_text p.0 ++ z) b.text) ∙ apart (ty_text p.0) (more_text q.0) q.1; over = (a.over, b.over) }) l)))
    (λ e g. given_types s x (no_tys, x) (ts, rest) (record { text = refl; over = tt }) g)
  where
    apart : (a b c : Text) → codes "," ++ (a ++ (b ++ c)) ≡ ((codes "," ++ a) ++ b) ++ c
    apart a b c = simp append_assoc

pub are_sound : (s : Signature) (n : ℕ) → AreSound s (types_below s n)
unfolding types_below
are_sound s zero = record { whole = λ x t rest h. cc; onward = λ t x u rest o h. cc; more = λ x ts rest h. cc }
are_sound s (suc n) = record { whole = type_sound s (types_below s n) (are_sound s n); onward = onward_sound s (types_below s n) (are_sound s n); more = more_sound s (types_below s n) (are_sound s n) }

pub reads_type_sound : (s : Signature) (x : Text) (t : Ty) (rest : Text) → reads_type s x ≡ Some (t, rest) → IsType s x t rest
unfolding reads_type
reads_type_sound s x t rest h = (are_sound s (length x + 1)).whole x t rest h

pub reads_types_sound : (s : Signature) (x : Text) (ts : Tys) (rest : Text) → reads_types s x ≡ Some (ts, rest) → AreTypes s x ts rest
unfolding reads_types
reads_types_sound s x ts rest h = (are_sound s (length x + 1)).more x ts rest h
