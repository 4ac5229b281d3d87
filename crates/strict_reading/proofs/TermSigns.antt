-- The canonical text of an equation, a connective, a negation and a binder is read as it.
use Rattle.std.proofs.Common.{◌≡◌, refl, sym, ap, ◌∙◌, subst, ℕ, zero, suc, ◌+◌, ◌<◌, ◌≤◌, true, false, not, List, [], ◌∷◌, ◌++◌, append_assoc, Option, Some, length, length-append, arith}
use Rattle.std.specs.Prelude.{codes}
use Rattle.hol_terms.specs.Name.{Name}
use Rattle.hol_terms.specs.Ty.{Ty}
use Rattle.hol_terms.specs.Tm.{Tm, tm_index, tm_free, tm_const, tm_comb, tm_abs}
use Rattle.hol_terms.specs.Typing.{tm_type, fun_ty, range_ty}
use Rattle.hol_terms.specs.TyVars.{ty_vars, instance_at}
use Rattle.hol_terms.specs.Definition.{bool_ty, alpha, eq_ty}
use Rattle.hol_terms.specs.Signature.{Signature, entry_at, IsTyOver, IsConstOver, IsOver}
use Rattle.hol_terms.specs.Rules.{fits}
use Rattle.hol_terms.specs.Text.{Text, ty_text, bound_text, between, binding, sign_between, sign_binding, sign_before, is_sugar, is_plain, printed}
use Rattle.hol_terms.specs.ReadsBack.{ReadsBack, signed}
use Rattle.hol_terms.proofs.Same.{same_ty-from}
use Rattle.strict_reading.specs.Steps.{either}
use Rattle.strict_reading.specs.Words.{behind}
use Rattle.strict_reading.specs.Terms.{constant, TermReadings, connected, connected_step, sign_step, negated, negated_step, binder_step, abstracted, quantified, term_step, terms_below, ends_atom, argument_follows, ends_term}
use Rattle.strict_reading.proofs.Steps.{bind_some, when_true}
use Rattle.strict_reading.proofs.Words.{behind_sign}
use Rattle.strict_reading.proofs.TypesComplete.{AreNamed, reads_type_complete}
use Rattle.strict_reading.proofs.TermTexts.{operand_text, scope_text, connected_text, negated_text, quantified_text}
use Rattle.strict_reading.proofs.TermsSound.{term_text}
use Rattle.strict_reading.proofs.TermSteps.{operand_ends, term_ends, term_step_operand, WholeReads, ReadsTm, operand_stops, sugared_reads}
use Rattle.strict_reading.proofs.TermLeaves.{constant_from}

-- ---- the constants of signs

no_types : (ts : List Ty) → length ts ≡ 0 → ts ≡ []
no_types [] e = refl
no_types (t ∷ ts) e = absurd (omega arith)

record OneType (ts : List Ty) : Type 0 where
  type : Ty
  is : ts ≡ type ∷ []

one_type_of : (ts : List Ty) → length ts ≡ 1 → OneType ts
one_type_of [] e = absurd (omega arith)
one_type_of (t ∷ []) e = record { type = t; is = refl }
one_type_of (t ∷ u ∷ ts) e = absurd (omega arith)

pub closed_types : (s : Signature) (c : Name) (ts : List Ty) (ty t : Ty) → ReadsBack s → IsConstOver s c ts ty → entry_at signed c ≡ Some t → length (ty_vars t []) ≡ 0 → ts ≡ []
closed_types s c ts ty t b o e z = no_types ts (o.as_many ∙ ap (λ u. length (ty_vars u [])) (b.usual c o.generic t o.known e) ∙ z)

eq_domain : (A a r ty : Ty) → ty ≡ eq_ty A → ty ≡ fun_ty a r → A ≡ a
eq_domain A a r ty e h = cc

pub eq_types : (s : Signature) (ts : List Ty) (ty a r : Ty) → ReadsBack s → IsConstOver s (codes "eq") ts ty → ty ≡ fun_ty a r → ts ≡ a ∷ []
eq_types s ts ty a r b o h =
    let g = b.usual (codes "eq") o.generic (eq_ty alpha) o.known refl in
    let w = one_type_of ts (o.as_many ∙ ap (λ u. length (ty_vars u [])) g) in
    let e : ty ≡ eq_ty w.type = o.instance ∙ (λ i. instance_at (g i) (w.is i)) in
    w.is ∙ ap (λ v. v ∷ []) (eq_domain w.type a r ty e h)

binder_domain : (A u v r ty : Ty) → ty ≡ fun_ty (fun_ty A bool_ty) bool_ty → ty ≡ fun_ty (fun_ty u v) r → A ≡ u
binder_domain A u v r ty e h = cc

pub binder_types : (s : Signature) (c : Name) (ts : List Ty) (ty u v r : Ty) → ReadsBack s → entry_at signed c ≡ Some (fun_ty (fun_ty alpha bool_ty) bool_ty) → IsConstOver s c ts ty → ty ≡ fun_ty (fun_ty u v) r → ts ≡ u ∷ []
binder_types s c ts ty u v r b f o h =
    let g = b.usual c o.generic (fun_ty (fun_ty alpha bool_ty) bool_ty) o.known f in
    let w = one_type_of ts (o.as_many ∙ ap (λ u. length (ty_vars u [])) g) in
    let e : ty ≡ fun_ty (fun_ty w.type bool_ty) bool_ty = o.instance ∙ (λ i. instance_at (g i) (w.is i)) in
    w.is ∙ ap (λ v. v ∷ []) (binder_domain w.type u v r ty e h)

pub fits_from : (s : Signature) (bound : List Ty) (f x : Tm) → IsOver s bound (tm_comb f x) → fits f x ≡ true
fits_from s bound f x o = same_ty-from (tm_type f) (fun_ty (tm_type x) (range_ty (tm_type f))) o.2

-- ---- signs between two operands

abbrev pub around : Name → List Ty → Ty → Tm → Tm → Tm
around c ts ty a x = tm_comb (tm_comb (tm_const c ts ty) a) x

connected_is : (s : Signature) (bound : List Ty) (c : Name) (ts args : List Ty) (ty : Ty) (a x : Tm) → ts ≡ args → IsOver s bound (around c ts ty a x) → connected s c args a x ≡ Some (around c ts ty a x)
connected_is s bound c ts args ty a x e o =
    bind_some _ _ _ (ap (λ us. constant s c us) (sym e) ∙ constant_from s c ts ty o.0.0)
    ∙ when_true _ _ (fits_from s bound (tm_const c ts ty) a o.0) ∙ when_true _ _ (fits_from s bound (tm_comb (tm_const c ts ty) a) x o)

-- the sign of a constant, where it follows an operand
record IsSign (s : Signature) (bound : List Ty) (a : Tm) (c : Name) (args : List Ty) (sign : Text) : Type 0 where
  step : (r : TermReadings) (y : Text) → sign_step s r bound a (sign ++ y) ≡ connected_step s r bound c args a y
  parts : (y : Text) → argument_follows (behind (codes " ") (sign ++ y)) ≡ false
  ends : (y : Text) → ends_atom (sign ++ y) ≡ true
  is : sign_between c ≡ between sign

eq_sign : (s : Signature) (bound : List Ty) (a : Tm) → IsSign s bound a (codes "eq") (tm_type a ∷ []) (codes " = ")
unfolding either behind
eq_sign s bound a = record { step = λ r y. refl; parts = λ y. refl; ends = λ y. refl; is = refl }

conj_sign : (s : Signature) (bound : List Ty) (a : Tm) → IsSign s bound a (codes "conj") [] (codes " /\\ ")
unfolding either behind
conj_sign s bound a = record { step = λ r y. refl; parts = λ y. refl; ends = λ y. refl; is = refl }

disj_sign : (s : Signature) (bound : List Ty) (a : Tm) → IsSign s bound a (codes "disj") [] (codes " \\/ ")
unfolding either behind
disj_sign s bound a = record { step = λ r y. refl; parts = λ y. refl; ends = λ y. refl; is = refl }

imp_sign : (s : Signature) (bound : List Ty) (a : Tm) → IsSign s bound a (codes "imp") [] (codes " ==> ")
unfolding either behind
imp_sign s bound a = record { step = λ r y. refl; parts = λ y. refl; ends = λ y. refl; is = refl }

between_whole : (s : Signature) (bound : List Ty) (c : Name) (args : List Ty) (sign : Text) (a x t : Tm) → IsSign s bound a c args sign → connected s c args a x ≡ Some t → ReadsTm s bound a → ReadsTm s bound x
    → WholeReads s bound t (operand_text (length bound) a ++ sign ++ operand_text (length bound) x)
unfolding terms_below
between_whole s bound c args sign a x t g k ra rx zero rest e l = absurd (omega arith)
between_whole s bound c args sign a x t g k ra rx (suc n) rest e l =
    let A = operand_text (length bound) a in
    let X = operand_text (length bound) x in
    let f = operand_ends rest (term_ends rest e).0 in
    let m : length (A ++ (sign ++ (X ++ rest))) < suc n = subst (λ (y : Text). length y < suc n) (apart A sign X rest) l in
    ap (λ y. term_step s (terms_below s n) bound y) (apart A sign X rest)
    ∙ term_step_operand s (terms_below s n) bound (A ++ (sign ++ (X ++ rest))) (ra.operand_begins (sign ++ (X ++ rest)))
    ∙ bind_some _ _ _ (operand_stops s bound a A ra.operand n (sign ++ (X ++ rest)) (g.ends (X ++ rest)) (g.parts (X ++ rest)) (omega arith))
    ∙ g.step (terms_below s n) (X ++ rest)
    ∙ bind_some _ _ _ (operand_stops s bound x X rx.operand n rest f.0 f.1 (omega (arith, length-append A (sign ++ (X ++ rest)), length-append sign (X ++ rest))))
    ∙ bind_some _ _ _ k
  where
    apart : (a b c d : Text) → (a ++ b ++ c) ++ d ≡ a ++ (b ++ (c ++ d))
    apart a b c d = simp append_assoc

between_reads : (s : Signature) (bound : List Ty) (c : Name) (ts args : List Ty) (ty : Ty) (sign : Text) (a x : Tm) → IsSign s bound a c args sign → ts ≡ args → IsOver s bound (around c ts ty a x) → ReadsTm s bound a → ReadsTm s bound x
    → ReadsTm s bound (around c ts ty a x)
between_reads s bound c ts args ty sign a x g e o ra rx =
    sugared_reads s bound (around c ts ty a x) (ap (λ u. not (is_sugar u)) g.is) refl
    (subst (WholeReads s bound (around c ts ty a x)) (sym (connected_text (length bound) c ts ty a x sign g.is)) (between_whole s bound c args sign a x (around c ts ty a x) g (connected_is s bound c ts args ty a x e o) ra rx))

pub eq_reads : (s : Signature) (bound ts : List Ty) (ty : Ty) (a x : Tm) → ReadsBack s → IsOver s bound (around (codes "eq") ts ty a x) → ReadsTm s bound a → ReadsTm s bound x → ReadsTm s bound (around (codes "eq") ts ty a x)
eq_reads s bound ts ty a x b o ra rx = between_reads s bound (codes "eq") ts (tm_type a ∷ []) ty (codes " = ") a x (eq_sign s bound a) (eq_types s ts ty (tm_type a) (range_ty ty) b o.0.0 o.0.2) o ra rx

abbrev connective_ty : Ty
connective_ty = fun_ty bool_ty (fun_ty bool_ty bool_ty)

pub conj_reads : (s : Signature) (bound ts : List Ty) (ty : Ty) (a x : Tm) → ReadsBack s → IsOver s bound (around (codes "conj") ts ty a x) → ReadsTm s bound a → ReadsTm s bound x → ReadsTm s bound (around (codes "conj") ts ty a x)
conj_reads s bound ts ty a x b o ra rx = between_reads s bound (codes "conj") ts [] ty (codes " /\\ ") a x (conj_sign s bound a) (closed_types s (codes "conj") ts ty connective_ty b o.0.0 refl refl) o ra rx

pub disj_reads : (s : Signature) (bound ts : List Ty) (ty : Ty) (a x : Tm) → ReadsBack s → IsOver s bound (around (codes "disj") ts ty a x) → ReadsTm s bound a → ReadsTm s bound x → ReadsTm s bound (around (codes "disj") ts ty a x)
disj_reads s bound ts ty a x b o ra rx = between_reads s bound (codes "disj") ts [] ty (codes " \\/ ") a x (disj_sign s bound a) (closed_types s (codes "disj") ts ty connective_ty b o.0.0 refl refl) o ra rx

pub imp_reads : (s : Signature) (bound ts : List Ty) (ty : Ty) (a x : Tm) → ReadsBack s → IsOver s bound (around (codes "imp") ts ty a x) → ReadsTm s bound a → ReadsTm s bound x → ReadsTm s bound (around (codes "imp") ts ty a x)
imp_reads s bound ts ty a x b o ra rx = between_reads s bound (codes "imp") ts [] ty (codes " ==> ") a x (imp_sign s bound a) (closed_types s (codes "imp") ts ty connective_ty b o.0.0 refl refl) o ra rx

-- ---- negations

negated_is : (s : Signature) (bound ts : List Ty) (ty : Ty) (x : Tm) → ts ≡ [] → IsOver s bound (tm_comb (tm_const (codes "not") ts ty) x) → negated s x ≡ Some (tm_comb (tm_const (codes "not") ts ty) x)
negated_is s bound ts ty x e o =
    bind_some _ _ _ (ap (λ us. constant s (codes "not") us) (sym e) ∙ constant_from s (codes "not") ts ty o.0) ∙ when_true _ _ (fits_from s bound (tm_const (codes "not") ts ty) x o)

negation_step : (s : Signature) (r : TermReadings) (bound : List Ty) (y : Text) → term_step s r bound (codes "~ " ++ y) ≡ negated_step s r bound y
unfolding either behind
negation_step s r bound y = refl

not_whole : (s : Signature) (bound : List Ty) (x t : Tm) → negated s x ≡ Some t → ReadsTm s bound x → WholeReads s bound t (codes "~ " ++ operand_text (length bound) x)
unfolding terms_below
not_whole s bound x t k rx zero rest e l = absurd (omega arith)
not_whole s bound x t k rx (suc n) rest e l =
    let f = operand_ends rest (term_ends rest e).0 in
    negation_step s (terms_below s n) bound (operand_text (length bound) x ++ rest)
    ∙ bind_some _ _ _ (operand_stops s bound x (operand_text (length bound) x) rx.operand n rest f.0 f.1 (omega arith)) ∙ bind_some _ _ _ k

not_plain : (x : Tm) (ts : List Ty) (ty : Ty) → is_plain (tm_comb (tm_const (codes "not") ts ty) x) ≡ false
not_plain (tm_index i t) ts ty = refl
not_plain (tm_free v) ts ty = refl
not_plain (tm_const c us t) ts ty = refl
not_plain (tm_comb f y) ts ty = refl
not_plain (tm_abs t d) ts ty = refl

pub not_reads : (s : Signature) (bound ts : List Ty) (ty : Ty) (x : Tm) → ReadsBack s → IsOver s bound (tm_comb (tm_const (codes "not") ts ty) x) → ReadsTm s bound x → ReadsTm s bound (tm_comb (tm_const (codes "not") ts ty) x)
not_reads s bound ts ty x b o rx =
    let t = tm_comb (tm_const (codes "not") ts ty) x in
    let k = negated_is s bound ts ty x (closed_types s (codes "not") ts ty (fun_ty bool_ty bool_ty) b o.0 refl refl) o in
    sugared_reads s bound t (not_plain x ts ty) refl (subst (WholeReads s bound t) (sym (negated_text (length bound) ts ty x)) (not_whole s bound x t k rx))

-- ---- binders

scope_apart : (bound : List Ty) (u : Ty) (b : Tm) (rest : Text) → scope_text (length bound) u b ++ rest ≡ bound_text (length bound) ++ (codes ":" ++ (ty_text u ++ (codes ". " ++ (term_text (length (u ∷ bound)) b ++ rest))))
scope_apart bound u b rest =
    apart (bound_text (length bound)) (ty_text u) (printed (length bound + 1) b).whole rest
    ∙ ap (λ n. bound_text (length bound) ++ (codes ":" ++ (ty_text u ++ (codes ". " ++ ((printed n b).whole ++ rest))))) one_more
  where
    one_more : length bound + 1 ≡ suc (length bound)
    one_more = omega arith

    apart : (a b c d : Text) → (a ++ codes ":" ++ b ++ codes ". " ++ c) ++ d ≡ a ++ (codes ":" ++ (b ++ (codes ". " ++ (c ++ d))))
    apart a b c d = simp append_assoc

binder_reads : (s : Signature) → AreNamed s → (bound : List Ty) (made : Ty → Tm → Option Tm) (u : Ty) (b t : Tm) → IsTyOver s u → made u b ≡ Some t → ReadsTm s (u ∷ bound) b
    → (n : ℕ) (rest : Text) → ends_term rest ≡ true → length (scope_text (length bound) u b ++ rest) ≤ n → binder_step s (terms_below s n) bound made (scope_text (length bound) u b ++ rest) ≡ Some (t, rest)
unfolding behind
binder_reads s named bound made u b t o k rb n rest e l =
    let B = term_text (length (u ∷ bound)) b in
    let X = bound_text (length bound) in
    let T = ty_text u in
    let m : length (X ++ (codes ":" ++ (T ++ (codes ". " ++ (B ++ rest))))) ≤ n = subst (λ (y : Text). length y ≤ n) (scope_apart bound u b rest) l in
    let fewer : length (B ++ rest) < n = omega (arith, length-append X (codes ":" ++ (T ++ (codes ". " ++ (B ++ rest)))), length-append T (codes ". " ++ (B ++ rest))) in
    ap (λ y. binder_step s (terms_below s n) bound made y) (scope_apart bound u b rest)
    ∙ bind_some _ _ _ (behind_sign X (codes ":" ++ (T ++ (codes ". " ++ (B ++ rest))))) ∙ bind_some _ _ _ refl
    ∙ bind_some _ _ _ (reads_type_complete s named u (codes ". " ++ (B ++ rest)) o refl) ∙ bind_some _ _ (B ++ rest) refl
    ∙ bind_some _ _ _ (rb.whole n rest e fewer) ∙ bind_some _ _ _ k

binding_whole : (s : Signature) → AreNamed s → (bound : List Ty) (sign : Text) (made : Ty → Tm → Option Tm) (u : Ty) (b t : Tm) → ((r : TermReadings) (y : Text) → term_step s r bound (sign ++ y) ≡ binder_step s r bound made y) → 0 < length sign
    → IsTyOver s u → made u b ≡ Some t → ReadsTm s (u ∷ bound) b → WholeReads s bound t (sign ++ scope_text (length bound) u b)
unfolding terms_below
binding_whole s named bound sign made u b t step some o k rb zero rest e l = absurd (omega arith)
binding_whole s named bound sign made u b t step some o k rb (suc n) rest e l =
    let Y = scope_text (length bound) u b in
    let m : length (sign ++ (Y ++ rest)) < suc n = subst (λ (y : Text). length y < suc n) (append_assoc sign Y rest) l in
    ap (λ y. term_step s (terms_below s n) bound y) (append_assoc sign Y rest) ∙ step (terms_below s n) (Y ++ rest)
    ∙ binder_reads s named bound made u b t o k rb n rest e (omega (arith, length-append sign (Y ++ rest)))

abs_step : (s : Signature) (bound : List Ty) (r : TermReadings) (y : Text) → term_step s r bound (codes "\\" ++ y) ≡ binder_step s r bound abstracted y
unfolding either behind
abs_step s bound r y = refl

all_step : (s : Signature) (bound : List Ty) (r : TermReadings) (y : Text) → term_step s r bound (codes "!" ++ y) ≡ binder_step s r bound (quantified s (codes "all")) y
unfolding either behind
all_step s bound r y = refl

ex_step : (s : Signature) (bound : List Ty) (r : TermReadings) (y : Text) → term_step s r bound (codes "?" ++ y) ≡ binder_step s r bound (quantified s (codes "ex")) y
unfolding either behind
ex_step s bound r y = refl

pub abs_reads : (s : Signature) (bound : List Ty) (u : Ty) (b : Tm) → AreNamed s → IsOver s bound (tm_abs u b) → ReadsTm s (u ∷ bound) b → ReadsTm s bound (tm_abs u b)
abs_reads s bound u b named o rb = sugared_reads s bound (tm_abs u b) refl refl (binding_whole s named bound (codes "\\") abstracted u b (tm_abs u b) (abs_step s bound) (omega arith) o.0 refl rb)

quantified_is : (s : Signature) (bound : List Ty) (c : Name) (ts : List Ty) (ty u : Ty) (b : Tm) → ts ≡ u ∷ [] → IsOver s bound (tm_comb (tm_const c ts ty) (tm_abs u b)) → quantified s c u b ≡ Some (tm_comb (tm_const c ts ty) (tm_abs u b))
quantified_is s bound c ts ty u b e o =
    bind_some _ _ _ (ap (λ us. constant s c us) (sym e) ∙ constant_from s c ts ty o.0) ∙ when_true _ _ (fits_from s bound (tm_const c ts ty) (tm_abs u b) o)

quantified_reads : (s : Signature) (bound : List Ty) (c : Name) (sign : Text) (ts : List Ty) (ty u : Ty) (b : Tm) → ReadsBack s → sign_before c (sign_binding c) ≡ binding sign → 0 < length sign → entry_at signed c ≡ Some (fun_ty (fun_ty alpha bool_ty) bool_ty)
    → ((r : TermReadings) (y : Text) → term_step s r bound (sign ++ y) ≡ binder_step s r bound (quantified s c) y) → IsOver s bound (tm_comb (tm_const c ts ty) (tm_abs u b)) → ReadsTm s (u ∷ bound) b → ReadsTm s bound (tm_comb (tm_const c ts ty) (tm_abs u b))
quantified_reads s bound c sign ts ty u b back g some f step o rb =
    let t = tm_comb (tm_const c ts ty) (tm_abs u b) in
    let k = quantified_is s bound c ts ty u b (binder_types s c ts ty u (tm_type b) (range_ty ty) back f o.0 o.2) o in
    sugared_reads s bound t (ap (λ v. not (is_sugar v)) g) refl
    (subst (WholeReads s bound t) (sym (quantified_text (length bound) c ts ty u b sign g)) (binding_whole s back.types_named bound sign (quantified s c) u b t step some o.1.0 k rb))

pub all_reads : (s : Signature) (bound ts : List Ty) (ty u : Ty) (b : Tm) → ReadsBack s → IsOver s bound (tm_comb (tm_const (codes "all") ts ty) (tm_abs u b)) → ReadsTm s (u ∷ bound) b → ReadsTm s bound (tm_comb (tm_const (codes "all") ts ty) (tm_abs u b))
all_reads s bound ts ty u b back o rb = quantified_reads s bound (codes "all") (codes "!") ts ty u b back refl (omega arith) refl (all_step s bound) o rb

pub ex_reads : (s : Signature) (bound ts : List Ty) (ty u : Ty) (b : Tm) → ReadsBack s → IsOver s bound (tm_comb (tm_const (codes "ex") ts ty) (tm_abs u b)) → ReadsTm s (u ∷ bound) b → ReadsTm s bound (tm_comb (tm_const (codes "ex") ts ty) (tm_abs u b))
ex_reads s bound ts ty u b back o rb = quantified_reads s bound (codes "ex") (codes "?") ts ty u b back refl (omega arith) refl (ex_step s bound) o rb
