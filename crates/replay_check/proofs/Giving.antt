-- What a step over the tables gives is what the step gives that it stands for.
use Rattle.std.proofs.Common.{◌≡◌, ℕ, zero, suc, Bool, true, false, not, List, [], ◌∷◌, Option, Some, None, Result, Ok, Err, refl, sym, ap, ◌∙◌, subst, slice_get}
use Rattle.std.specs.List.{list_any}
use Rattle.std.specs.Prelude.{unwrap_or, IfOk, IfSome}
use Rattle.std.proofs.lemmas.Bool.{or_parts}
use Rattle.hol_terms.specs.Ty.{ty_var}
use Rattle.hol_terms.specs.Tm.{tm_index}
use Rattle.hol_terms.specs.Typing.{tm_type}
use Rattle.hol_terms.specs.Definition.{bool_ty}
use Rattle.hol_terms.specs.Sequent.{Sequent, seq, left_of, argument, union}
use Rattle.hol_terms.specs.Rules.{both, if_so, is_equation, same, eq_mp_rule, inst_type_rule}
use Rattle.hol_terms.specs.Subst.{TySubst}
use Rattle.hol_logs.specs.Step.{LogStep, sequent_at}
use Rattle.flat_terms.specs.Plain.{PlainTables, term_of}
use Rattle.flat_terms.specs.declared.nodes.TermId.{TermId}
use Rattle.flat_instances.specs.Retypings.{KeepsType}
use Rattle.flat_rules.specs.Equations.{AreSides}
use Rattle.flat_rules.specs.declared.sequent.FlatSequent.{FlatSequent}
use Rattle.flat_rules.specs.Sequents.{sequent_of, HasSequent, IsAnswer}
use Rattle.flat_lines.specs.declared.numbers.Number.{Number}
use Rattle.flat_lines.specs.declared.numbers.Number.TheVariants.{Small, Huge}
use Rattle.flat_lines.specs.Numbers.{IsNumber}
use Rattle.flat_lines.specs.Lines.{IsOf, IsOfTwo}
use Rattle.replay_check.specs.Definitions.{AreSequents, sequents_of, IsBooleanAnswer}
use Rattle.replay_check.specs.Steps.{is_there, IsAt}
use Rattle.replay_check.proofs.Booleans.{IsBoolean, mp_boolean, inst_type_boolean}

-- ---- the steps that are named are there

not_not : (b : Bool) → not b ≡ false → b ≡ true
not_not true e = refl
not_not false e = cc

pub one_there : (n : ℕ) (i : Number) → list_any (λ k. not (is_there n k)) (i ∷ []) ≡ false → is_there n i ≡ true
one_there n i e = not_not (is_there n i) (or_parts (not (is_there n i)) false e).0

pub two_there : (n : ℕ) (i j : Number) → list_any (λ k. not (is_there n k)) (i ∷ j ∷ []) ≡ false → (is_there n i ≡ true) × (is_there n j ≡ true)
two_there n i j e = let p = or_parts (not (is_there n i)) (list_any (λ k. not (is_there n k)) (j ∷ [])) e in (not_not (is_there n i) p.0, one_there n j p.1)

get_has : (t : PlainTables) (qs : List FlatSequent) (n : ℕ) (q : FlatSequent) → AreSequents t qs → slice_get qs n ≡ Some q → HasSequent t q × (tm_type (sequent_of t q).concl ≡ bool_ty)
get_has t [] n q h e = cc
get_has t (p ∷ qs) zero q h e = let same : p ≡ q = cc in subst (λ r. HasSequent t r × (tm_type (sequent_of t r).concl ≡ bool_ty)) same (h.0, h.1)
get_has t (p ∷ qs) (suc n) q h e = get_has t qs n q h.2 e

-- the sequent at a number has numbers of the tables, and concludes a boolean term
pub at_has : (t : PlainTables) (qs : List FlatSequent) (i : Number) (q : FlatSequent) → AreSequents t qs → IsAt qs i q → HasSequent t q × (tm_type (sequent_of t q).concl ≡ bool_ty)
at_has t qs (Small n) q h e = get_has t qs n q h e
at_has t qs Huge q h e = absurd e

get_map : (t : PlainTables) (qs : List FlatSequent) (n : ℕ) (q : FlatSequent) → slice_get qs n ≡ Some q → slice_get (sequents_of t qs) n ≡ Some (sequent_of t q)
get_map t [] n q e = cc
get_map t (p ∷ qs) zero q e = let same : p ≡ q = cc in ap (λ r. Some (sequent_of t r)) same
get_map t (p ∷ qs) (suc n) q e = get_map t qs n q e

pub stands_at : (t : PlainTables) (qs : List FlatSequent) (i : Number) (q : FlatSequent) (n : ℕ) → IsAt qs i q → IsNumber i n → sequent_at (sequents_of t qs) n ≡ sequent_of t q
stands_at t qs (Small m) q n e h = ap (sequent_at (sequents_of t qs)) (sym h) ∙ ap (λ o. unwrap_or o (seq [] (tm_index 0 (ty_var [])))) (get_map t qs m q e)
stands_at t qs Huge q n e h = absurd e

-- ---- rules on one step and on two

moved : (u : PlainTables) (o p : Option Sequent) (r : Option FlatSequent) → p ≡ o → IsAnswer u o r → IsAnswer u p r
moved u o p r e h = subst (λ x. IsAnswer u x r) (sym e) h

pub one_given : (t u : PlainTables) (qs : List FlatSequent) (i : Number) (a : FlatSequent) (r : Option FlatSequent) (give : LogStep → Option Sequent) (rule : Sequent → Option Sequent) (f : ℕ → LogStep)
    → ((n : ℕ) → give (f n) ≡ rule (sequent_at (sequents_of t qs) n)) → IsAt qs i a → IsAnswer u (rule (sequent_of t a)) r → (l : LogStep) → IsOf i f l → IsAnswer u (give l) r
one_given t u qs i a r give rule f gives at h l of = moved u (rule (sequent_of t a)) (give l) r (ap give of.2 ∙ gives of.0 ∙ ap rule (stands_at t qs i a of.0 at of.1)) h

pub two_given : (t u : PlainTables) (qs : List FlatSequent) (i j : Number) (a b : FlatSequent) (r : Option FlatSequent) (give : LogStep → Option Sequent) (rule : Sequent → Sequent → Option Sequent) (f : ℕ → ℕ → LogStep)
    → ((m n : ℕ) → give (f m n) ≡ rule (sequent_at (sequents_of t qs) m) (sequent_at (sequents_of t qs) n)) → IsAt qs i a → IsAt qs j b → IsAnswer u (rule (sequent_of t a) (sequent_of t b)) r
    → (l : LogStep) → IsOfTwo i j f l → IsAnswer u (give l) r
two_given t u qs i j a b r give rule f gives at bt h l of =
    moved u (rule (sequent_of t a) (sequent_of t b)) (give l) r (ap give of.4 ∙ gives of.0 of.1 ∙ (λ k. rule (stands_at t qs i a of.0 at of.2 k) (stands_at t qs j b of.1 bt of.3 k))) h

pub none_given : (u : PlainTables) (r : Option FlatSequent) (give : LogStep → Option Sequent) (s l : LogStep) → l ≡ s → IsAnswer u (give s) r → IsAnswer u (give l) r
none_given u r give s l e h = moved u (give s) (give l) r (ap give e) h

-- ---- what is given is boolean

pub boolean_answer : (u : PlainTables) (o : Option Sequent) (r : Option FlatSequent) → IsAnswer u o r → ((c : Sequent) → o ≡ Some c → IsBoolean c) → IsBooleanAnswer u r
boolean_answer u o None h f = tt
boolean_answer u o (Some q) h f = f (sequent_of u q) h.1

pub no_equation : (a b : Sequent) → is_equation a.concl ≡ false → eq_mp_rule a b ≡ None
no_equation a b e = ap (λ c. if_so (both c (same (left_of a.concl) b.concl)) (seq (union a.hyps b.hyps) (argument a.concl))) e

-- ---- answers that may have failed

pub if_ok_of : {A E : Type 0} (r : Result A E) {P Q : A → Type 0} → IfOk r P → ((x : A) → P x → Q x) → IfOk r Q
if_ok_of (Ok x) h f = f x h
if_ok_of (Err e) h f = tt

pub if_ok_both : {A E : Type 0} (r : Result A E) {P Q R : A → Type 0} → IfOk r P → IfOk r Q → ((x : A) → P x → Q x → R x) → IfOk r R
if_ok_both (Ok x) h g f = f x h g
if_ok_both (Err e) h g f = tt

-- a type instance is boolean where its type is that instance of bool
pub typed_answer : (u : PlainTables) (a : Sequent) (s : TySubst) (r : Option FlatSequent) → IsBoolean a → IsAnswer u (inst_type_rule s a) r → IfSome r (λ q. KeepsType s a.concl) → IsBooleanAnswer u r
typed_answer u a s None b h k = tt
typed_answer u a s (Some q) b h k = inst_type_boolean s a (sequent_of u q) b k h.1

-- by an equation, whose sides have one type
pub mp_answer : (t : PlainTables) (a b : FlatSequent) (p q : TermId) (r : Option FlatSequent) → AreSides t (sequent_of t a).concl p q → IsBoolean (sequent_of t b) → IsAnswer t (eq_mp_rule (sequent_of t a) (sequent_of t b)) r → IsBooleanAnswer t r
mp_answer t a b p q r s i h = boolean_answer t _ r h (λ c e. mp_boolean (sequent_of t a) (sequent_of t b) c (term_of t p) (term_of t q) s.tree s.typed i e)
