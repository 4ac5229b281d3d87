-- The canonical text of a well formed type is read as the type.
use Rattle.std.proofs.Common.{◌≡◌, refl, sym, ap, ◌∙◌, subst, ℕ, zero, suc, ◌+◌, ◌<◌, Bool, true, false, not, [], ◌++◌, append_assoc, Option, Some, None, length, length-append, eq-eqb, arith}
use Rattle.std.specs.Prelude.{codes, is_some, bytes_eq}
use Rattle.std.proofs.lemmas.Slice.Eq.{bytes_eq-Decides}
use Rattle.std.proofs.lemmas.Bool.{and_parts, or_parts}
use Rattle.hol_terms.specs.Name.{Name, is_segment, is_name}
use Rattle.hol_terms.specs.Ty.{Ty, ty_var, ty_app, Tys, no_tys, more_tys}
use Rattle.hol_terms.specs.Typing.{fun_name, fun_ty}
use Rattle.hol_terms.specs.Signature.{Signature, arity_of, tys_count, IsTyOver, AreTysOver}
use Rattle.hol_terms.specs.Text.{Text, parenthesized, is_arrow, is_function, ty_text}
use Rattle.strict_reading.specs.Steps.{◌>>=◌, when, choose, either}
use Rattle.strict_reading.specs.Words.{begins_word, ends_word, behind}
use Rattle.strict_reading.specs.Types.{is_number, has_arity, TypeReadings, stop_type, name_behind, range_behind, onward_step, name_step, some_types, tuple_step, group_step, type_step, more_step, types_below, reads_type, reads_types, goes_on, ends_type}
use Rattle.strict_reading.proofs.Steps.{when_true}
use Rattle.strict_reading.proofs.Words.{behind_first, begins_long, word_case}
use Rattle.strict_reading.proofs.NameWords.{IsNameWord, name_word, segment_word, begins_append}
use Rattle.strict_reading.proofs.TypesSound.{domain_text, more_text, not_true, tuple_text}

-- types are called by names
abbrev pub AreNamed : Signature → Type 0
AreNamed s = (c : Name) (k : ℕ) → arity_of s c ≡ Some k → is_name c ≡ true

pub has_arity-from : (s : Signature) (c : Name) (k : ℕ) → arity_of s c ≡ Some k → has_arity s c k ≡ true
has_arity-from s c k e = ap (λ o. is_number o k) e ∙ eq-eqb k k refl

-- ---- the steps

type_step_word : (s : Signature) (r : TypeReadings) (x : Text) → begins_word x ≡ true → type_step s r x ≡ name_step s r x
unfolding either
type_step_word s r x h = rw (behind_first 39 [] x refl h, behind_first 40 [] x refl h) refl

type_step_variable : (s : Signature) (r : TypeReadings) (v rest : Text) → is_segment v ≡ true → ends_word rest ≡ true → type_step s r (codes "'" ++ (v ++ rest)) ≡ r.onward (ty_var v) rest
unfolding either when behind
type_step_variable s r v rest h e =
    word_case (λ w y. when (is_segment w) (r.onward (ty_var w) y)) v rest (segment_word v h) e ∙ ap (λ b. when b (r.onward (ty_var v) rest)) h

type_step_name : (s : Signature) (r : TypeReadings) (c rest : Text) → IsNameWord c → has_arity s c 0 ≡ true → ends_word rest ≡ true → type_step s r (c ++ rest) ≡ r.onward (ty_app c no_tys) rest
unfolding when
type_step_name s r c rest h a e =
    type_step_word s r (c ++ rest) (begins_append c rest h.begins)
    ∙ when_true _ _ (begins_append c rest h.begins)
    ∙ word_case (λ w y. when (has_arity s w 0) (r.onward (ty_app w no_tys) y)) c rest h.word e ∙ ap (λ b. when b (r.onward (ty_app c no_tys) rest)) a

onward_step_name : (s : Signature) (r : TypeReadings) (t : Ty) (c rest : Text) → IsNameWord c → has_arity s c 1 ≡ true → ends_word rest ≡ true
    → onward_step s r t (codes " " ++ (c ++ rest)) ≡ r.onward (ty_app c (more_tys t no_tys)) rest
unfolding either choose when behind
onward_step_name s r t c rest h a e =
    let y = c ++ rest in
    ap (λ b. choose b (name_behind s r t y) (either (behind (codes "-> ") y) (λ z. range_behind s r t z) (stop_type t (codes " " ++ y)))) (begins_append c rest h.begins)
    ∙ word_case (λ w y. when (has_arity s w 1) (r.onward (ty_app w (more_tys t no_tys)) y)) c rest h.word e ∙ ap (λ b. when b (r.onward (ty_app c (more_tys t no_tys)) rest)) a

onward_step_arrow : (s : Signature) (r : TypeReadings) (t : Ty) (x : Text) (u : Ty) (rest : Text) → has_arity s fun_name 2 ≡ true → r.whole x ≡ Some (u, rest) → onward_step s r t (codes " -> " ++ x) ≡ Some (fun_ty t u, rest)
unfolding either choose when behind ◌>>=◌
onward_step_arrow s r t x u rest a e =
    ap (λ b. when b (r.whole x >>= (λ p. Some (fun_ty t p.0, p.1)))) a ∙ ap (λ o. o >>= (λ p. Some (fun_ty t p.0, p.1))) e

stop_is : (t : Ty) (x : Text) → is_function t ≡ false → stop_type t x ≡ Some (t, x)
unfolding when
stop_is t x e = ap (λ b. when (not b) (Some (t, x))) e

onward_step_stops : (s : Signature) (r : TypeReadings) (t : Ty) (x : Text) → is_function t ≡ false → goes_on (behind (codes " ") x) ≡ false → onward_step s r t x ≡ Some (t, x)
unfolding either choose
onward_step_stops s r t x e h = at (behind (codes " ") x) h
  where
    last : (o : Option Text) → is_some o ≡ false → either o (λ z. range_behind s r t z) (stop_type t x) ≡ Some (t, x)
    last None h = stop_is t x e
    last (Some z) h = cc

    at : (o : Option Text) → goes_on o ≡ false
        → either o (λ y. choose (begins_word y) (name_behind s r t y) (either (behind (codes "-> ") y) (λ z. range_behind s r t z) (stop_type t x))) (stop_type t x) ≡ Some (t, x)
    at None h = stop_is t x e
    at (Some y) h =
        let p = or_parts (begins_word y) (is_some (behind (codes "-> ") y)) h in
        ap (λ b. choose b (name_behind s r t y) (either (behind (codes "-> ") y) (λ z. range_behind s r t z) (stop_type t x))) p.0 ∙ last (behind (codes "-> ") y) p.1

-- a function type in parentheses
type_step_group : (s : Signature) (r : TypeReadings) (t : Ty) (rest : Text) → is_function t ≡ true → r.whole (ty_text t ++ (codes ")" ++ rest)) ≡ Some (t, codes ")" ++ rest)
    → type_step s r (codes "(" ++ (ty_text t ++ (codes ")" ++ rest))) ≡ r.onward t rest
unfolding either when behind ◌>>=◌
type_step_group s r t rest f e = ap (λ o. o >>= (λ p. group_step s r p.0 p.1)) e ∙ ap (λ b. when b (r.onward t rest)) f

-- several types in parentheses
no_close : (ts : Tys) (y : Text) → some_types ts ≡ true → behind (codes ")") (more_text ts ++ y) ≡ None
unfolding behind
no_close no_tys y h = cc
no_close (more_tys t ts) y h = refl

tuple_is : (s : Signature) (r : TypeReadings) (t : Ty) (ts : Tys) (c rest : Text) → IsNameWord c → some_types ts ≡ true → has_arity s c (tys_count (more_tys t ts)) ≡ true → is_arrow c (more_tys t ts) ≡ false → ends_word rest ≡ true
    → tuple_step s r t ts (c ++ rest) ≡ r.onward (ty_app c (more_tys t ts)) rest
unfolding when
tuple_is s r t ts c rest h m a f e =
    word_case (λ w y. when (some_types ts) (when (has_arity s w (tys_count (more_tys t ts))) (when (not (is_arrow w (more_tys t ts))) (r.onward (ty_app w (more_tys t ts)) y)))) c rest h.word e
    ∙ (λ i. when (m i) (when (a i) (when (not (f i)) (r.onward (ty_app c (more_tys t ts)) rest))))

type_step_tuple : (s : Signature) (r : TypeReadings) (t : Ty) (ts : Tys) (c rest : Text) → IsNameWord c → some_types ts ≡ true → has_arity s c (tys_count (more_tys t ts)) ≡ true → is_arrow c (more_tys t ts) ≡ false → ends_word rest ≡ true
    → (let y = codes ") " ++ (c ++ rest) in (r.whole (ty_text t ++ (more_text ts ++ y)) ≡ Some (t, more_text ts ++ y)) × (r.more (more_text ts ++ y) ≡ Some (ts, y)))
    → type_step s r (codes "(" ++ (ty_text t ++ (more_text ts ++ (codes ") " ++ (c ++ rest))))) ≡ r.onward (ty_app c (more_tys t ts)) rest
unfolding either behind ◌>>=◌
type_step_tuple s r t ts c rest h m a f e g =
    let x = more_text ts ++ (codes ") " ++ (c ++ rest)) in
    ap (λ o. o >>= (λ p. group_step s r p.0 p.1)) g.0
    ∙ ap (λ o. either o (λ y. when (is_function t) (r.onward t y)) (r.more x >>= (λ p. behind (codes ") ") p.1 >>= (λ y. tuple_step s r t p.0 y)))) (no_close ts (codes ") " ++ (c ++ rest)) m)
    ∙ ap (λ o. o >>= (λ p. behind (codes ") ") p.1 >>= (λ y. tuple_step s r t p.0 y))) g.1
    ∙ tuple_is s r t ts c rest h m a f e

-- ---- what is read

-- the reading comes to what stands behind a type
pub record ComesTo (s : Signature) (n : ℕ) (x : Text) (t : Ty) (rest : Text) : Type 0 where
  pub left : ℕ
  pub enough : length rest < left
  pub is : (types_below s n).whole x ≡ (types_below s left).onward t rest

pub record ReadsType (s : Signature) (t : Ty) : Type 0 where
  -- as the first part of a type
  pub part : (n : ℕ) (rest : Text) → ends_word rest ≡ true → length (domain_text t ++ rest) < n → ComesTo s n (domain_text t ++ rest) t rest
  pub whole : (n : ℕ) (rest : Text) → ends_type rest ≡ true → length (ty_text t ++ rest) < n → (types_below s n).whole (ty_text t ++ rest) ≡ Some (t, rest)

stops : (s : Signature) (n : ℕ) (t : Ty) (rest : Text) → is_function t ≡ false → length rest < n → goes_on (behind (codes " ") rest) ≡ false → (types_below s n).onward t rest ≡ Some (t, rest)
unfolding types_below
stops s zero t rest e l g = absurd (omega arith)
stops s (suc n) t rest e l g = onward_step_stops s (types_below s n) t rest e g

-- a type other than a function type
not_function : (s : Signature) (t : Ty) → is_function t ≡ false → ((n : ℕ) (rest : Text) → ends_word rest ≡ true → length (ty_text t ++ rest) < n → ComesTo s n (ty_text t ++ rest) t rest) → ReadsType s t
not_function s t e part = record {
  part = λ n rest f l. at (domain_text t) (ap (λ b. parenthesized b (ty_text t)) e) n rest f l;
  whole = λ n rest f l.
      let p = and_parts (ends_word rest) (not (goes_on (behind (codes " ") rest))) f in
      let c = part n rest p.0 l in
      c.is ∙ stops s c.left t rest e c.enough (not_true _ p.1);
}
  where
    at : (x : Text) → x ≡ ty_text t → (n : ℕ) (rest : Text) → ends_word rest ≡ true → length (x ++ rest) < n → ComesTo s n (x ++ rest) t rest
    at x g n rest f l =
        let c = part n rest f (subst (λ (y : Text). length (y ++ rest) < n) g l) in
        record { left = c.left; enough = c.enough; is = ap (λ y. (types_below s n).whole (y ++ rest)) g ∙ c.is }

variable_reads : (s : Signature) (v : Name) → is_segment v ≡ true → ReadsType s (ty_var v)
unfolding types_below
variable_reads s v h = not_function s (ty_var v) refl part
  where
    part : (n : ℕ) (rest : Text) → ends_word rest ≡ true → length ((codes "'" ++ v) ++ rest) < n → ComesTo s n ((codes "'" ++ v) ++ rest) (ty_var v) rest
    part zero rest e l = absurd (omega arith)
    part (suc n) rest e l = record { left = n; enough = omega (arith, length-append v rest); is = type_step_variable s (types_below s n) v rest h e }

name_reads : (s : Signature) (c : Name) → IsNameWord c → arity_of s c ≡ Some 0 → ReadsType s (ty_app c no_tys)
unfolding types_below
name_reads s c h a = not_function s (ty_app c no_tys) refl part
  where
    part : (n : ℕ) (rest : Text) → ends_word rest ≡ true → length (c ++ rest) < n → ComesTo s n (c ++ rest) (ty_app c no_tys) rest
    part zero rest e l = absurd (omega arith)
    part (suc n) rest e l = record { left = n; enough = omega (arith, length-append c rest, begins_long c h.begins); is = type_step_name s (types_below s n) c rest h (has_arity-from s c 0 a) e }

onward_name : (s : Signature) (n : ℕ) (t : Ty) (c rest : Text) (x : Text) (f : ℕ) → IsNameWord c → has_arity s c 1 ≡ true → ends_word rest ≡ true → length (codes " " ++ (c ++ rest)) < n → (types_below s f).whole x ≡ (types_below s n).onward t (codes " " ++ (c ++ rest))
    → ComesTo s f x (ty_app c (more_tys t no_tys)) rest
unfolding types_below
onward_name s zero t c rest x f h a e l k = absurd (omega arith)
onward_name s (suc n) t c rest x f h a e l k = record { left = n; enough = omega (arith, length-append c rest); is = k ∙ onward_step_name s (types_below s n) t c rest h a e }

argument_reads : (s : Signature) (c : Name) (t : Ty) → IsNameWord c → arity_of s c ≡ Some 1 → ReadsType s t → ReadsType s (ty_app c (more_tys t no_tys))
argument_reads s c t h a r = not_function s (ty_app c (more_tys t no_tys)) refl part
  where
    apart : (a b c d : Text) → ((a ++ b) ++ c) ++ d ≡ a ++ (b ++ (c ++ d))
    apart a b c d = simp append_assoc

    part : (n : ℕ) (rest : Text) → ends_word rest ≡ true → length (((domain_text t ++ codes " ") ++ c) ++ rest) < n → ComesTo s n (((domain_text t ++ codes " ") ++ c) ++ rest) (ty_app c (more_tys t no_tys)) rest
    part n rest e l =
        let same = apart (domain_text t) (codes " ") c rest in
        let k = r.part n (codes " " ++ (c ++ rest)) refl (subst (λ (y : Text). length y < n) same l) in
        onward_name s k.left t c rest (((domain_text t ++ codes " ") ++ c) ++ rest) n h (has_arity-from s c 1 a) e k.enough (ap (λ y. (types_below s n).whole y) same ∙ k.is)

-- ---- function types

onward_range : (s : Signature) (n : ℕ) (t u : Ty) (rest : Text) → has_arity s fun_name 2 ≡ true → ReadsType s u → ends_type rest ≡ true → length (codes " -> " ++ (ty_text u ++ rest)) < n
    → (types_below s n).onward t (codes " -> " ++ (ty_text u ++ rest)) ≡ Some (fun_ty t u, rest)
unfolding types_below
onward_range s zero t u rest a r e l = absurd (omega arith)
onward_range s (suc n) t u rest a r e l = onward_step_arrow s (types_below s n) t (ty_text u ++ rest) u rest a (r.whole n rest e (omega arith))

function_whole : (s : Signature) (t u : Ty) → arity_of s fun_name ≡ Some 2 → ReadsType s t → ReadsType s u → (n : ℕ) (rest : Text) → ends_type rest ≡ true → length (ty_text (fun_ty t u) ++ rest) < n
    → (types_below s n).whole (ty_text (fun_ty t u) ++ rest) ≡ Some (fun_ty t u, rest)
function_whole s t u a r q n rest e l =
    let same : ty_text (fun_ty t u) ++ rest ≡ domain_text t ++ (codes " -> " ++ (ty_text u ++ rest)) = apart (domain_text t) (codes " -> ") (ty_text u) rest in
    let k = r.part n (codes " -> " ++ (ty_text u ++ rest)) refl (subst (λ (y : Text). length y < n) same l) in
    ap (λ y. (types_below s n).whole y) same ∙ k.is ∙ onward_range s k.left t u rest (has_arity-from s fun_name 2 a) q e k.enough
  where
    apart : (a b c d : Text) → ((a ++ b) ++ c) ++ d ≡ a ++ (b ++ (c ++ d))
    apart a b c d = simp append_assoc

-- a function type as a part
group_part : (s : Signature) (t : Ty) → is_function t ≡ true → ((n : ℕ) (rest : Text) → ends_type rest ≡ true → length (ty_text t ++ rest) < n → (types_below s n).whole (ty_text t ++ rest) ≡ Some (t, rest))
    → (n : ℕ) (rest : Text) → ends_word rest ≡ true → length (domain_text t ++ rest) < n → ComesTo s n (domain_text t ++ rest) t rest
unfolding types_below behind
group_part s t f whole zero rest e l = absurd (omega arith)
group_part s t f whole (suc n) rest e l =
    let same : domain_text t ++ rest ≡ codes "(" ++ (ty_text t ++ (codes ")" ++ rest)) = ap (λ b. parenthesized b (ty_text t) ++ rest) f ∙ apart (ty_text t) rest in
    let m : length (codes "(" ++ (ty_text t ++ (codes ")" ++ rest))) < suc n = subst (λ (y : Text). length y < suc n) same l in
    let k = length-append (ty_text t) (codes ")" ++ rest) in
    record {
      left = n;
      enough = omega arith;
      is = ap (λ y. type_step s (types_below s n) y) same ∙ type_step_group s (types_below s n) t rest f (whole n (codes ")" ++ rest) refl (omega arith));
    }
  where
    apart : (a b : Text) → ((codes "(" ++ a) ++ codes ")") ++ b ≡ codes "(" ++ (a ++ (codes ")" ++ b))
    apart a b = simp append_assoc

function_reads : (s : Signature) (t u : Ty) → arity_of s fun_name ≡ Some 2 → ReadsType s t → ReadsType s u → ReadsType s (fun_ty t u)
function_reads s t u a r q = record { part = group_part s (fun_ty t u) refl (function_whole s t u a r q); whole = function_whole s t u a r q }

-- ---- several types

abbrev pub AllRead : Signature → Tys → Type 0
AllRead s no_tys = Unit {0}
AllRead s (more_tys t ts) = ReadsType s t × AllRead s ts

pub more_ends : (ts : Tys) (z : Text) → ends_type z ≡ true → ends_type (more_text ts ++ z) ≡ true
unfolding behind
more_ends no_tys z h = h
more_ends (more_tys t ts) z h = refl

more_step_none : (r : TypeReadings) (x : Text) → behind (codes ",") x ≡ None → more_step r x ≡ Some (no_tys, x)
unfolding either
more_step_none r x e = ap (λ o. either o (λ y. r.whole y >>= (λ p. r.more p.1 >>= (λ q. Some (more_tys p.0 q.0, q.1)))) (Some (no_tys, x))) e

more_step_one : (r : TypeReadings) (x : Text) (t : Ty) (y : Text) (ts : Tys) (z : Text) → r.whole x ≡ Some (t, y) → r.more y ≡ Some (ts, z) → more_step r (codes "," ++ x) ≡ Some (more_tys t ts, z)
unfolding either behind ◌>>=◌
more_step_one r x t y ts z e f = ap (λ o. o >>= (λ p. r.more p.1 >>= (λ q. Some (more_tys p.0 q.0, q.1)))) e ∙ ap (λ o. o >>= (λ q. Some (more_tys t q.0, q.1))) f

mores_read : (s : Signature) (ts : Tys) → AllRead s ts → (n : ℕ) (z : Text) → behind (codes ",") z ≡ None → ends_type z ≡ true → length (more_text ts ++ z) < n → (types_below s n).more (more_text ts ++ z) ≡ Some (ts, z)
unfolding types_below
mores_read s ts h zero z c e l = absurd (omega arith)
mores_read s no_tys h (suc n) z c e l = more_step_none (types_below s n) z c
mores_read s (more_tys t ts) h (suc n) z c e l =
    let same : more_text (more_tys t ts) ++ z ≡ codes "," ++ (ty_text t ++ (more_text ts ++ z)) = apart (ty_text t) (more_text ts) z in
    let m : length (codes "," ++ (ty_text t ++ (more_text ts ++ z))) < suc n = subst (λ (y : Text). length y < suc n) same l in
    let k = length-append (ty_text t) (more_text ts ++ z) in
    ap (λ y. more_step (types_below s n) y) same
    ∙ more_step_one (types_below s n) (ty_text t ++ (more_text ts ++ z)) t (more_text ts ++ z) ts z (h.0.whole n (more_text ts ++ z) (more_ends ts z e) (omega arith)) (mores_read s ts h.1 n z c e (omega arith))
  where
    apart : (a b c : Text) → ((codes "," ++ a) ++ b) ++ c ≡ codes "," ++ (a ++ (b ++ c))
    apart a b c = simp append_assoc

tuple_part : (s : Signature) (c : Name) (t : Ty) (ts : Tys) → IsNameWord c → some_types ts ≡ true → arity_of s c ≡ Some (tys_count (more_tys t ts)) → is_arrow c (more_tys t ts) ≡ false → ReadsType s t → AllRead s ts
    → (n : ℕ) (rest : Text) → ends_word rest ≡ true → length ((((codes "(" ++ (ty_text t ++ more_text ts)) ++ codes ")") ++ codes " " ++ c) ++ rest) < n
    → ComesTo s n ((((codes "(" ++ (ty_text t ++ more_text ts)) ++ codes ")") ++ codes " " ++ c) ++ rest) (ty_app c (more_tys t ts)) rest
unfolding types_below behind
tuple_part s c t ts h m a f r rs zero rest e l = absurd (omega arith)
tuple_part s c t ts h m a f r rs (suc n) rest e l =
    let y = codes ") " ++ (c ++ rest) in
    let same = apart (ty_text t) (more_text ts) c rest in
    let long : length (codes "(" ++ (ty_text t ++ (more_text ts ++ y))) < suc n = subst (λ (z : Text). length z < suc n) same l in
    let k = length-append (ty_text t) (more_text ts ++ y) in
    let k2 = length-append (more_text ts) y in
    let k3 = length-append c rest in
    record {
      left = n;
      enough = omega arith;
      is = ap (λ z. type_step s (types_below s n) z) same
          ∙ type_step_tuple s (types_below s n) t ts c rest h m (has_arity-from s c (tys_count (more_tys t ts)) a) f e
          (r.whole n (more_text ts ++ y) (more_ends ts y refl) (omega arith), mores_read s ts rs n y refl refl (omega arith));
    }
  where
    apart : (a b c d : Text) → (((codes "(" ++ (a ++ b)) ++ codes ")") ++ codes " " ++ c) ++ d ≡ codes "(" ++ (a ++ (b ++ (codes ") " ++ (c ++ d))))
    apart a b c d = simp append_assoc

tuple_reads : (s : Signature) (c : Name) (t : Ty) (ts : Tys) → IsNameWord c → some_types ts ≡ true → arity_of s c ≡ Some (tys_count (more_tys t ts)) → is_arrow c (more_tys t ts) ≡ false → ReadsType s t → AllRead s ts
    → ReadsType s (ty_app c (more_tys t ts))
tuple_reads s c t ts h m a f r rs =
    let text : ty_text (ty_app c (more_tys t ts)) ≡ ((codes "(" ++ (ty_text t ++ more_text ts)) ++ codes ")") ++ codes " " ++ c =
    sym (ap (λ b. parenthesized b (ty_text (ty_app c (more_tys t ts)))) f) ∙ tuple_text c t ts m f in
    not_function s (ty_app c (more_tys t ts)) f
    (subst (λ (x : Text). (n : ℕ) (rest : Text) → ends_word rest ≡ true → length (x ++ rest) < n → ComesTo s n (x ++ rest) (ty_app c (more_tys t ts)) rest) (sym text) (tuple_part s c t ts h m a f r rs))

-- ---- all types

applied_reads : (s : Signature) (c : Name) (ts : Tys) → IsNameWord c → arity_of s c ≡ Some (tys_count ts) → AllRead s ts → ReadsType s (ty_app c ts)
applied_reads s c no_tys h a r = name_reads s c h a
applied_reads s c (more_tys t no_tys) h a r = argument_reads s c t h a r.0
applied_reads s c (more_tys t (more_tys u no_tys)) h a r = at (bytes_eq c fun_name) refl
  where
    at : (b : Bool) → bytes_eq c fun_name ≡ b → ReadsType s (ty_app c (more_tys t (more_tys u no_tys)))
    at true e =
        let f = (bytes_eq-Decides c fun_name).0 e in
        subst (λ (d : Name). ReadsType s (ty_app d (more_tys t (more_tys u no_tys)))) (sym f) (function_reads s t u (ap (arity_of s) (sym f) ∙ a) r.0 r.1.0)
    at false e = tuple_reads s c t (more_tys u no_tys) h refl a e r.0 r.1
applied_reads s c (more_tys t (more_tys u (more_tys v ts))) h a r = tuple_reads s c t (more_tys u (more_tys v ts)) h refl a refl r.0 r.1

mutual
  type_reads : (s : Signature) → AreNamed s → (t : Ty) → IsTyOver s t → ReadsType s t
  type_reads s named (ty_var v) h = variable_reads s v h
  type_reads s named (ty_app c ts) h = applied_reads s c ts (name_word c (named c (tys_count ts) h.0)) h.0 (types_read s named ts h.1)

  types_read : (s : Signature) → AreNamed s → (ts : Tys) → AreTysOver s ts → AllRead s ts
  types_read s named no_tys h = tt
  types_read s named (more_tys t ts) h = (type_reads s named t h.0, types_read s named ts h.1)

pub reads_type_complete : (s : Signature) → AreNamed s → (t : Ty) (rest : Text) → IsTyOver s t → ends_type rest ≡ true → reads_type s (ty_text t ++ rest) ≡ Some (t, rest)
unfolding reads_type
reads_type_complete s named t rest h e = (type_reads s named t h).whole (length (ty_text t ++ rest) + 1) rest e (omega arith)

pub reads_types_complete : (s : Signature) → AreNamed s → (ts : Tys) (z : Text) → AreTysOver s ts → behind (codes ",") z ≡ None → ends_type z ≡ true → reads_types s (more_text ts ++ z) ≡ Some (ts, z)
unfolding reads_types
reads_types_complete s named ts z h c e = mores_read s ts (types_read s named ts h) (length (more_text ts ++ z) + 1) z c e (omega arith)
