-- The steps of reading a type, each as one equation.
use Rattle.std.proofs.Common.{◌≡◌, ◌<◌, ◌≤◌, ℕ, Bool, true, false, not, ◌&&◌, ◌==◌, nat_lt, bytes_eq, List, [], ◌∷◌, ◌++◌, length, length-append, Option, Some, None, refl, ap, sym, ◌∙◌, arith}
use Rattle.std.specs.Prelude.{codes}
use Rattle.std.proofs.lemmas.Bool.Decides.{nat_tests}
use Rattle.hol_terms.specs.Name.{Name, is_segment}
use Rattle.hol_terms.specs.Ty.{Ty, ty_var, ty_app, Tys, no_tys, more_tys, tys}
use Rattle.hol_terms.specs.Typing.{fun_name, fun_ty}
use Rattle.hol_terms.specs.Signature.{Signature, tys_count}
use Rattle.hol_terms.specs.Text.{Text, is_arrow, is_function, ty_text}
use Rattle.strict_reading.specs.Steps.{◌>>=◌, when}
use Rattle.strict_reading.specs.Words.{begins_word, word_of, behind_word, behind}
use Rattle.strict_reading.specs.Types.{has_arity, some_types, stop_type, name_behind, range_behind, name_step, tuple_step, group_step, reads_type, reads_types, reads_onward, type_readings}
use Rattle.strict_reading.proofs.Steps.{bind_some, when_true, choose_true, choose_false, either_none, either_some}
use Rattle.strict_reading.proofs.TypesSound.{more_text, reads_type_sound, reads_types_sound}
use Rattle.strict_reading.proofs.TypesAgree.{reads_type_steps, reads_onward_steps, reads_types_steps}
use Rattle.flat_signatures.specs.Behind.{may_stand_behind, stands_behind, in_front, with_front}
use Rattle.flat_signatures.proofs.ConstantSteps.{bind_none, when_false}

-- ---- the end

pub stop_function : (t : Ty) (x : Text) → is_function t ≡ true → stop_type t x ≡ None
stop_function t x e = when_false _ _ (ap not e)

pub stop_here : (t : Ty) (x : Text) → is_function t ≡ false → stop_type t x ≡ Some (t, x)
stop_here t x e = when_true _ _ (ap not e)

stands_large : (c : Name) (k : ℕ) → 2 < k → may_stand_behind c k ≡ true
stands_large c k h =
    let more : nat_lt 1 k ≡ true = grind (arith, nat_tests) in
    let other : (k == 2) ≡ false = grind (arith, nat_tests) in
    λ j. more j && not (other j && bytes_eq c fun_name)

module _ (s : Signature) where
  -- ---- a type

  quote_step : (x y : Text) → behind (codes "'") x ≡ Some y → reads_type s x ≡ when (is_segment (word_of y)) (reads_onward s (ty_var (word_of y)) (behind_word y))
  quote_step x y q = reads_type_steps s x ∙ either_some _ _ _ y q

  pub variable_read : (x y w r : Text) → behind (codes "'") x ≡ Some y → w ≡ word_of y → r ≡ behind_word y → is_segment w ≡ true → reads_type s x ≡ reads_onward s (ty_var w) r
  variable_read x y w r q ew er e = quote_step x y q ∙ when_true _ _ (ap is_segment (sym ew) ∙ e) ∙ (λ j. reads_onward s (ty_var (sym ew j)) (sym er j))

  pub variable_wrong : (x y w : Text) → behind (codes "'") x ≡ Some y → w ≡ word_of y → is_segment w ≡ false → reads_type s x ≡ None
  variable_wrong x y w q ew e = quote_step x y q ∙ when_false _ _ (ap is_segment (sym ew) ∙ e)

  open_step : (x y : Text) → behind (codes "'") x ≡ None → behind (codes "(") x ≡ Some y → reads_type s x ≡ (reads_type s y >>= (λ p. group_step s (type_readings s) p.0 p.1))
  open_step x y q o = reads_type_steps s x ∙ either_none _ _ _ q ∙ either_some _ _ _ y o

  pub group_read : (x y : Text) (p : Ty × Text) → behind (codes "'") x ≡ None → behind (codes "(") x ≡ Some y → reads_type s y ≡ Some p → reads_type s x ≡ group_step s (type_readings s) p.0 p.1
  group_read x y p q o e = open_step x y q o ∙ bind_some _ _ p e

  pub group_wrong : (x y : Text) → behind (codes "'") x ≡ None → behind (codes "(") x ≡ Some y → reads_type s y ≡ None → reads_type s x ≡ None
  group_wrong x y q o e = open_step x y q o ∙ bind_none _ _ e

  plain_step : (x : Text) → behind (codes "'") x ≡ None → behind (codes "(") x ≡ None → reads_type s x ≡ name_step s (type_readings s) x
  plain_step x q o = reads_type_steps s x ∙ either_none _ _ _ q ∙ either_none _ _ _ o

  pub no_type : (x : Text) → behind (codes "'") x ≡ None → behind (codes "(") x ≡ None → begins_word x ≡ false → reads_type s x ≡ None
  no_type x q o b = plain_step x q o ∙ when_false _ _ b

  pub name_wrong : (x w : Text) → behind (codes "'") x ≡ None → behind (codes "(") x ≡ None → begins_word x ≡ true → w ≡ word_of x → has_arity s w 0 ≡ false → reads_type s x ≡ None
  name_wrong x w q o b ew e = plain_step x q o ∙ when_true _ _ b ∙ when_false _ _ (ap (λ c. has_arity s c 0) (sym ew) ∙ e)

  pub name_read : (x w r : Text) → behind (codes "'") x ≡ None → behind (codes "(") x ≡ None → begins_word x ≡ true → w ≡ word_of x → r ≡ behind_word x → has_arity s w 0 ≡ true → reads_type s x ≡ reads_onward s (ty_app w no_tys) r
  name_read x w r q o b ew er e = plain_step x q o ∙ when_true _ _ b ∙ when_true _ _ (ap (λ c. has_arity s c 0) (sym ew) ∙ e) ∙ (λ j. reads_onward s (ty_app (sym ew j) no_tys) (sym er j))

  -- ---- behind a type

  pub onward_stops : (t : Ty) (x : Text) → behind (codes " ") x ≡ None → reads_onward s t x ≡ stop_type t x
  onward_stops t x q = reads_onward_steps s t x ∙ either_none _ _ _ q

  word_step : (t : Ty) (x y : Text) → behind (codes " ") x ≡ Some y → begins_word y ≡ true → reads_onward s t x ≡ name_behind s (type_readings s) t y
  word_step t x y q b = reads_onward_steps s t x ∙ either_some _ _ _ y q ∙ choose_true _ _ _ b

  pub argument_taken : (t : Ty) (x y w r : Text) → behind (codes " ") x ≡ Some y → begins_word y ≡ true → w ≡ word_of y → r ≡ behind_word y → has_arity s w 1 ≡ true → reads_onward s t x ≡ reads_onward s (ty_app w (more_tys t no_tys)) r
  argument_taken t x y w r q b ew er e = word_step t x y q b ∙ when_true _ _ (ap (λ c. has_arity s c 1) (sym ew) ∙ e) ∙ (λ j. reads_onward s (ty_app (sym ew j) (more_tys t no_tys)) (sym er j))

  pub argument_wrong : (t : Ty) (x y w : Text) → behind (codes " ") x ≡ Some y → begins_word y ≡ true → w ≡ word_of y → has_arity s w 1 ≡ false → reads_onward s t x ≡ None
  argument_wrong t x y w q b ew e = word_step t x y q b ∙ when_false _ _ (ap (λ c. has_arity s c 1) (sym ew) ∙ e)

  pub no_arrow : (t : Ty) (x y : Text) → behind (codes " ") x ≡ Some y → begins_word y ≡ false → behind (codes "-> ") y ≡ None → reads_onward s t x ≡ stop_type t x
  no_arrow t x y q b a = reads_onward_steps s t x ∙ either_some _ _ _ y q ∙ choose_false _ _ _ b ∙ either_none _ _ _ a

  arrow_step : (t : Ty) (x y z : Text) → behind (codes " ") x ≡ Some y → begins_word y ≡ false → behind (codes "-> ") y ≡ Some z → reads_onward s t x ≡ range_behind s (type_readings s) t z
  arrow_step t x y z q b a = reads_onward_steps s t x ∙ either_some _ _ _ y q ∙ choose_false _ _ _ b ∙ either_some _ _ _ z a

  no_range : (t : Ty) (z : Text) → reads_type s z ≡ None → range_behind s (type_readings s) t z ≡ None
  unfolding when
  no_range t z e = at (has_arity s fun_name 2)
    where
      at : (b : Bool) → when {A = Ty × Text} b (reads_type s z >>= (λ p. Some (fun_ty t p.0, p.1))) ≡ None
      at true = bind_none _ _ e
      at false = refl

  pub range_wrong : (t : Ty) (x y z : Text) → behind (codes " ") x ≡ Some y → begins_word y ≡ false → behind (codes "-> ") y ≡ Some z → reads_type s z ≡ None → reads_onward s t x ≡ None
  range_wrong t x y z q b a e = arrow_step t x y z q b a ∙ no_range t z e

  pub no_functions : (t : Ty) (x y z : Text) → behind (codes " ") x ≡ Some y → begins_word y ≡ false → behind (codes "-> ") y ≡ Some z → has_arity s fun_name 2 ≡ false → reads_onward s t x ≡ None
  no_functions t x y z q b a e = arrow_step t x y z q b a ∙ when_false _ _ e

  pub range_read : (t : Ty) (x y z : Text) (p : Ty × Text) → behind (codes " ") x ≡ Some y → begins_word y ≡ false → behind (codes "-> ") y ≡ Some z → reads_type s z ≡ Some p → has_arity s fun_name 2 ≡ true → reads_onward s t x ≡ Some (fun_ty t p.0, p.1)
  range_read t x y z p q b a e h = arrow_step t x y z q b a ∙ when_true _ _ h ∙ bind_some _ _ p e

  -- ---- several types

  abbrev step : Ty → Text → Option (Ty × Text)
  step = group_step s (type_readings s)

  pub one_enclosed : (t : Ty) (x y : Text) → behind (codes ")") x ≡ Some y → is_function t ≡ true → step t x ≡ reads_onward s t y
  one_enclosed t x y q e = either_some _ _ _ y q ∙ when_true _ _ e

  pub one_wrong : (t : Ty) (x y : Text) → behind (codes ")") x ≡ Some y → is_function t ≡ false → step t x ≡ None
  one_wrong t x y q e = either_some _ _ _ y q ∙ when_false _ _ e

  pub no_more : (t : Ty) (x : Text) → behind (codes ")") x ≡ None → reads_types s x ≡ None → step t x ≡ None
  no_more t x q e = either_none _ _ _ q ∙ bind_none _ _ e

  pub not_closed : (t : Ty) (x : Text) (p : Tys × Text) → behind (codes ")") x ≡ None → reads_types s x ≡ Some p → behind (codes ") ") p.1 ≡ None → step t x ≡ None
  not_closed t x p q e o = either_none _ _ _ q ∙ bind_some _ _ p e ∙ bind_none _ _ o

  closed : (t : Ty) (x y : Text) (p : Tys × Text) → behind (codes ")") x ≡ None → reads_types s x ≡ Some p → behind (codes ") ") p.1 ≡ Some y → step t x ≡ tuple_step s (type_readings s) t p.0 y
  closed t x y p q e o = either_none _ _ _ q ∙ bind_some _ _ p e ∙ bind_some _ _ y o

  -- the three tests of a name behind several types, as one
  tests : (t : Ty) (ts : Tys) (c : Name) (r : Option (Ty × Text)) → when (some_types ts) (when (has_arity s c (tys_count (more_tys t ts))) (when (not (is_arrow c (more_tys t ts))) r)) ≡ when (stands_behind s c (tys_count (more_tys t ts))) r
  unfolding when
  tests t no_tys c r = refl
  tests t (more_tys u no_tys) c r = at (has_arity s c 2) (bytes_eq c fun_name)
    where
      at : (b d : Bool) → when b (when (not d) r) ≡ when (not d && b) r
      at true true = refl
      at true false = refl
      at false true = refl
      at false false = refl
  tests t (more_tys u (more_tys v ts)) c r =
      let k : ℕ = tys_count (more_tys t (more_tys u (more_tys v ts))) in
      sym (ap (λ b. when (b && has_arity s c k) r) (stands_large c k (omega arith)))

  pub tuple_read : (t : Ty) (x y w r : Text) (p : Tys × Text) (k : ℕ) (us : Tys) → behind (codes ")") x ≡ None → reads_types s x ≡ Some p → behind (codes ") ") p.1 ≡ Some y → w ≡ word_of y → r ≡ behind_word y → us ≡ more_tys t p.0 → tys_count us ≡ k
      → stands_behind s w k ≡ true → step t x ≡ reads_onward s (ty_app w us) r
  tuple_read t x y w r p k us q e o ew er eu ek h =
      closed t x y p q e o ∙ tests t p.0 (word_of y) _ ∙ when_true _ _ ((λ j. stands_behind s (sym ew j) ((ap tys_count (sym eu) ∙ ek) j)) ∙ h) ∙ (λ j. reads_onward s (ty_app (sym ew j) (sym eu j)) (sym er j))

  pub tuple_wrong : (t : Ty) (x y w : Text) (p : Tys × Text) (k : ℕ) (us : Tys) → behind (codes ")") x ≡ None → reads_types s x ≡ Some p → behind (codes ") ") p.1 ≡ Some y → w ≡ word_of y → us ≡ more_tys t p.0 → tys_count us ≡ k
      → stands_behind s w k ≡ false → step t x ≡ None
  tuple_wrong t x y w p k us q e o ew eu ek h = closed t x y p q e o ∙ tests t p.0 (word_of y) _ ∙ when_false _ _ ((λ j. stands_behind s (sym ew j) ((ap tys_count (sym eu) ∙ ek) j)) ∙ h)

  -- ---- types behind commas

  pub more_stop : (x : Text) → behind (codes ",") x ≡ None → reads_types s x ≡ Some (no_tys, x)
  more_stop x q = reads_types_steps s x ∙ either_none _ _ _ q

  pub more_wrong : (x y : Text) → behind (codes ",") x ≡ Some y → reads_type s y ≡ None → reads_types s x ≡ None
  more_wrong x y q e = reads_types_steps s x ∙ either_some _ _ _ y q ∙ bind_none _ _ e

  one_front : (t : Ty) (o : Option (Tys × Text)) → (o >>= (λ q. Some (more_tys t q.0, q.1))) ≡ with_front (t ∷ []) o
  unfolding ◌>>=◌
  one_front t None = refl
  one_front t (Some p) = refl

  pub more_read : (x y : Text) (p : Ty × Text) → behind (codes ",") x ≡ Some y → reads_type s y ≡ Some p → reads_types s x ≡ with_front (p.0 ∷ []) (reads_types s p.1)
  more_read x y p q e = reads_types_steps s x ∙ either_some _ _ _ y q ∙ bind_some _ _ p e ∙ one_front p.0 (reads_types s p.1)

  -- ---- what is left is no longer

  pub type_left : (x y : Text) (t : Ty) → reads_type s x ≡ Some (t, y) → length y ≤ length x
  type_left x y t e = let l = ap length (reads_type_sound s x t y e).text in omega (arith, l, length-append (ty_text t) y)

  pub types_left : (x y : Text) (ts : Tys) → reads_types s x ≡ Some (ts, y) → length y ≤ length x
  types_left x y ts e = let l = ap length (reads_types_sound s x ts y e).text in omega (arith, l, length-append (more_text ts) y)

in_front_further : (ts : List Ty) (t : Ty) (us : Tys) → in_front ts (more_tys t us) ≡ in_front (ts ++ t ∷ []) us
in_front_further [] t us = refl
in_front_further (v ∷ ts) t us = ap (λ l. more_tys v l) (in_front_further ts t us)

pub front_further : (ts : List Ty) (t : Ty) (o : Option (Tys × Text)) → with_front ts (with_front (t ∷ []) o) ≡ with_front (ts ++ t ∷ []) o
front_further ts t None = refl
front_further ts t (Some p) = λ j. Some (in_front_further ts t p.0 j, p.1)

pub front_end : (ts : List Ty) → in_front ts no_tys ≡ tys ts
front_end [] = refl
front_end (t ∷ ts) = ap (λ l. more_tys t l) (front_end ts)

pub front_none : (o : Option (Tys × Text)) → with_front [] o ≡ o
front_none None = refl
front_none (Some p) = refl
