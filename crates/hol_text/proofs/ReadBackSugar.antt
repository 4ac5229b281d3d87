-- The canonical text of an equation, a connective, a negation and a binder reads as it.
use Rattle.std.proofs.Common.{◌≡◌, ℕ, zero, suc, ◌+◌, ◌<◌, ◌^◌, true, false, List, [], ◌∷◌, ◌++◌, length, length-append, append_assoc, Some, add-one, refl, ap, sym, ◌∙◌, arith}
use Rattle.std.specs.Prelude.{codes, bytes_eq}
use Rattle.std.specs.Fmt.{decimal}
use Rattle.std.proofs.lemmas.Slice.Eq.{bytes_eq-Decides}
use Rattle.hol_terms.specs.Name.{Name}
use Rattle.hol_terms.specs.Ty.{Ty}
use Rattle.hol_terms.specs.Tm.{Tm, tm_index, tm_free, tm_const, tm_comb, tm_abs}
use Rattle.hol_terms.specs.Typing.{tm_type, fun_ty, range_ty}
use Rattle.hol_terms.specs.TyVars.{ty_vars, instance_at}
use Rattle.hol_terms.specs.Rules.{lambda}
use Rattle.hol_terms.specs.Definition.{bool_ty, alpha, eq_ty}
use Rattle.hol_terms.specs.Signature.{Signature, entry_at, IsTyOver, IsConstOver, IsOver}
use Rattle.hol_terms.specs.Text.{Text, ty_text, bound_text, sugar, before, is_plain, is_atom, printed}
use Rattle.hol_terms.specs.Tokens.{Kind, a_name, equals, and_sign, or_sign, implies_sign, all_sign, ex_sign, Token, token, sign, head_kind, head_place, tail, tokens_from}
use Rattle.hol_terms.specs.Meaning.{means, given, constant, Operand, operand, apply, equation, connective, negation, abstraction, quantified}
use Rattle.hol_terms.specs.Reading.{Front, got, ◌>>=◌, expect_by, is_dot, typed_at, Scope, begins_atom, application_at, infix_by, bound_by, bound_at, Binder, body_at, binder_at, term_by, term_at}
use Rattle.hol_terms.specs.ReadsBack.{ReadsBack, signed}
use Rattle.hol_text.proofs.ReadBackTokens.{Ends, ends_sign, ends_dot, at_colon, at_dot, at_equals, at_and, at_or, at_implies, at_not, at_all, at_ex, at_lambda, at_name}
use Rattle.hol_text.proofs.ReadBackTypes.{has_names, Rest, reads_type}
use Rattle.hol_text.proofs.ReadBackBinders.{bound_name, bound_undotted, scope, opened_type, above, close}
use Rattle.hol_text.proofs.ReadBackAtoms.{text_at, in_scope, is_brace, Follows, Closed, Gives, leads, no_atom, ReadsTm, by_atom}
use Rattle.hol_text.proofs.ReadBackLeaves.{constant_is}
use Rattle.hol_text.proofs.ReadBackApplications.{operand_text, operand_starts, operand_gives, apply_is, fits_in}

-- ---- signs between two operands

-- the text of a sign, and the kind of its token
pub record SignAt (text : Text) (k : Kind) (p : ℕ) (r : Text) : Type 0 where
  pub first : ℕ
  pub place : ℕ
  pub is : tokens_from p (text ++ r) ≡ sign k first ∷ tokens_from place r

pub record Between (text : Text) (k : Kind) : Type 0 where
  pub at : (p : ℕ) (r : Text) → SignAt text k p r
  pub ends : (r : Text) → Ends (text ++ r)
  pub unbraced : is_brace k ≡ false
  pub no_atom : begins_atom k ≡ false

pub between_equals : Between (codes " = ") equals
between_equals = record { at = λ p r. record { first = p + 1; place = ((p + 1) + 1) + 1; is = at_equals p r }; ends = λ r. ends_sign 32 (codes "= " ++ r) refl refl; unbraced = refl; no_atom = refl }

pub between_and : Between (codes " /\\ ") and_sign
between_and = record { at = λ p r. record { first = p + 1; place = (((p + 1) + 1) + 1) + 1; is = at_and p r }; ends = λ r. ends_sign 32 (codes "/\\ " ++ r) refl refl; unbraced = refl; no_atom = refl }

pub between_or : Between (codes " \\/ ") or_sign
between_or = record { at = λ p r. record { first = p + 1; place = (((p + 1) + 1) + 1) + 1; is = at_or p r }; ends = λ r. ends_sign 32 (codes "\\/ " ++ r) refl refl; unbraced = refl; no_atom = refl }

pub between_implies : Between (codes " ==> ") implies_sign
between_implies = record { at = λ p r. record { first = p + 1; place = ((((p + 1) + 1) + 1) + 1) + 1; is = at_implies p r }; ends = λ r. ends_sign 32 (codes "==> " ++ r) refl refl; unbraced = refl; no_atom = refl }

-- two operands around a sign
pub infix_whole : (s : Signature) (bound : List Ty) (a x m : Tm) (text : Text) (k : Kind) (joined : ℕ → Operand → Operand → Operand)
    → ReadsTm s bound a → ReadsTm s bound x → Between text k
    → ((read : List Token → Front Operand) (left : Operand) (ts : List Token) → infix_by k s read left ts ≡ (read (tail ts) >>= (λ right rest. got (joined (head_place ts) left right) rest)))
    → ((p i j : ℕ) → joined p (operand (means (in_scope bound a)) i) (operand (means (in_scope bound x)) j) ≡ operand (means m) i)
    → (n p : ℕ) (r : Text) → length (operand_text bound a) + length (operand_text bound x) < n → Closed r
    → Gives (term_at s n (scope bound) (tokens_from p (operand_text bound a ++ (text ++ (operand_text bound x ++ r))))) m r
unfolding term_at
infix_whole s bound a x m text k joined ra rx sg by value zero p r l c = absurd (omega arith)
infix_whole s bound a x m text k joined ra rx sg by value (suc n) p r l c =
    let rest = operand_text bound x ++ r in
    let ts = tokens_from p (operand_text bound a ++ (text ++ rest)) in
    let app = application_at s (term_at s n) n (scope bound) in
    let kinds = λ (q : ℕ). ap head_kind (sg.at q rest).is in
    let f : Follows (text ++ rest) = record { ends = sg.ends rest; unbraced = λ q. ap is_brace (kinds q) ∙ sg.unbraced } in
    let g = operand_gives s bound a ra n p (text ++ rest) (omega arith) f (λ q. ap begins_atom (kinds q) ∙ sg.no_atom) in
    let z = sg.at g.place rest in
    let h = operand_gives s bound x rx n z.place r (omega arith) c.follows (λ q. no_atom (head_kind (tokens_from q r)) (c.closed q)) in
    record {
      first = g.first;
      place = h.place;
      is = by_atom (head_kind ts) s (term_at s n) n (scope bound) ts (operand_starts s bound a ra p (text ++ rest) (sg.ends rest))
          ∙ ap (λ y. y >>= (λ left after. infix_by (head_kind after) s app left after)) g.is
          ∙ ap (λ us. infix_by (head_kind us) s app (operand (means (in_scope bound a)) g.first) us) z.is
          ∙ by app (operand (means (in_scope bound a)) g.first) (sign k z.first ∷ tokens_from z.place rest)
          ∙ ap (λ y. y >>= (λ right after. got (joined z.first (operand (means (in_scope bound a)) g.first) right) after)) h.is
          ∙ ap (λ o. got o (tokens_from h.place r)) (value z.first g.first h.first);
    }

-- ---- the constants of signs

-- a constant with a sign, and its type
usual_type : (s : Signature) (b : ReadsBack s) (c : Name) (ts : List Ty) (ty t : Ty) → (o : IsConstOver s c ts ty) → entry_at signed c ≡ Some t → o.generic ≡ t
usual_type s b c ts ty t o e = b.usual c o.generic t o.known e

no_types : (ts : List Ty) → length ts ≡ 0 → ts ≡ []
no_types [] e = refl
no_types (t ∷ ts) e = absurd (omega arith)

pub record OneType (ts : List Ty) : Type 0 where
  pub type : Ty
  pub is : ts ≡ type ∷ []

one_type_of : (ts : List Ty) → length ts ≡ 1 → OneType ts
one_type_of [] e = absurd (omega arith)
one_type_of (t ∷ []) e = record { type = t; is = refl }
one_type_of (t ∷ u ∷ ts) e = absurd (omega arith)

-- without type arguments
pub constant_closed : (s : Signature) (c : Name) (ts : List Ty) (ty t : Ty) → ReadsBack s → IsConstOver s c ts ty → entry_at signed c ≡ Some t → length (ty_vars t []) ≡ 0 → (p : ℕ) → constant s c p (given []) ≡ means (tm_const c ts ty)
constant_closed s c ts ty t b o e z p =
    let n : length ts ≡ 0 = o.as_many ∙ ap (λ u. length (ty_vars u [])) (usual_type s b c ts ty t o e) ∙ z in
    ap (λ us. constant s c p (given us)) (sym (no_types ts n)) ∙ constant_is s c ts ty p o

-- `a = b`
eq_domain : (A a r ty : Ty) → ty ≡ eq_ty A → ty ≡ fun_ty a r → A ≡ a
eq_domain A a r ty e h = cc

pub same_name : (c n : Name) → bytes_eq c n ≡ true → c ≡ n
same_name c n e = (bytes_eq-Decides c n).0 e

-- with one type argument
constant_typed : (s : Signature) (c : Name) (ts : List Ty) (ty a : Ty) → IsConstOver s c ts ty → (w : OneType ts) → w.type ≡ a → (p : ℕ) → constant s c p (given (a ∷ [])) ≡ means (tm_const c ts ty)
constant_typed s c ts ty a o w e p = ap (λ us. constant s c p (given us)) (ap (λ v. v ∷ []) (sym e) ∙ sym w.is) ∙ constant_is s c ts ty p o

eq_typed : (s : Signature) (ts : List Ty) (ty a r : Ty) → ReadsBack s → IsConstOver s (codes "eq") ts ty → ty ≡ fun_ty a r → (p : ℕ) → constant s (codes "eq") p (given (a ∷ [])) ≡ means (tm_const (codes "eq") ts ty)
eq_typed s ts ty a r b o h p =
    let g = usual_type s b (codes "eq") ts ty (eq_ty alpha) o refl in
    let w = one_type_of ts (o.as_many ∙ ap (λ u. length (ty_vars u [])) g) in
    let e : ty ≡ eq_ty w.type = o.instance ∙ (λ i. instance_at (g i) (w.is i)) in
    constant_typed s (codes "eq") ts ty a o w (eq_domain w.type a r ty e h) p

pub equation_is : (s : Signature) (bound : List Ty) (a x : Tm) (ts : List Ty) (ty : Ty) → ReadsBack s → IsOver s bound (tm_comb (tm_comb (tm_const (codes "eq") ts ty) a) x) → (p i j : ℕ)
    → equation s p (operand (means (in_scope bound a)) i) (operand (means (in_scope bound x)) j) ≡ operand (means (in_scope bound (tm_comb (tm_comb (tm_const (codes "eq") ts ty) a) x))) i
unfolding equation
equation_is s bound a x ts ty b o p i j =
    let c = tm_const (codes "eq") ts ty in
    let l = operand (means (in_scope bound a)) i in
    let r = operand (means (in_scope bound x)) j in
    let e = ap (λ t. constant s (codes "eq") p (given (t ∷ []))) (opened_type s [] bound a o.0.1) ∙ eq_typed s ts ty (tm_type a) (range_ty ty) b o.0.0 o.0.2 p in
    ap (λ m. apply (apply (operand m i) l) r) e
    ∙ ap (λ f. apply f r) (apply_is c (in_scope bound a) i i (fits_in s bound c a o.0))
    ∙ apply_is (tm_comb c (in_scope bound a)) (in_scope bound x) i j (fits_in s bound (tm_comb c a) x o)

-- `a /\ b`, `a \/ b`, `a ==> b`
pub connective_is : (s : Signature) (bound : List Ty) (n : Name) (a x : Tm) (ts : List Ty) (ty : Ty) → ReadsBack s → entry_at signed n ≡ Some (fun_ty bool_ty (fun_ty bool_ty bool_ty)) → IsOver s bound (tm_comb (tm_comb (tm_const n ts ty) a) x) → (p i j : ℕ)
    → connective s n p (operand (means (in_scope bound a)) i) (operand (means (in_scope bound x)) j) ≡ operand (means (in_scope bound (tm_comb (tm_comb (tm_const n ts ty) a) x))) i
unfolding connective
connective_is s bound n a x ts ty b e o p i j =
    let c = tm_const n ts ty in
    let l = operand (means (in_scope bound a)) i in
    let r = operand (means (in_scope bound x)) j in
    ap (λ m. apply (apply (operand m i) l) r) (constant_closed s n ts ty (fun_ty bool_ty (fun_ty bool_ty bool_ty)) b o.0.0 e refl p)
    ∙ ap (λ f. apply f r) (apply_is c (in_scope bound a) i i (fits_in s bound c a o.0))
    ∙ apply_is (tm_comb c (in_scope bound a)) (in_scope bound x) i j (fits_in s bound (tm_comb c a) x o)

-- `~ a`
negation_is : (s : Signature) (bound : List Ty) (x : Tm) (ts : List Ty) (ty : Ty) → ReadsBack s → IsOver s bound (tm_comb (tm_const (codes "not") ts ty) x) → (p i : ℕ)
    → negation s p (operand (means (in_scope bound x)) i) ≡ operand (means (in_scope bound (tm_comb (tm_const (codes "not") ts ty) x))) p
unfolding negation
negation_is s bound x ts ty b o p i =
    let c = tm_const (codes "not") ts ty in
    ap (λ m. apply (operand m p) (operand (means (in_scope bound x)) i)) (constant_closed s (codes "not") ts ty (fun_ty bool_ty bool_ty) b o.0 refl refl p)
    ∙ apply_is c (in_scope bound x) p i (fits_in s bound c x o)

-- `!x:t. p`, `?x:t. p`
binder_domain : (A u v r ty : Ty) → ty ≡ fun_ty (fun_ty A bool_ty) bool_ty → ty ≡ fun_ty (fun_ty u v) r → A ≡ u
binder_domain A u v r ty e h = cc

quantified_is : (s : Signature) (bound : List Ty) (n : Name) (u : Ty) (d : Tm) (ts : List Ty) (ty : Ty) → ReadsBack s → entry_at signed n ≡ Some (fun_ty (fun_ty alpha bool_ty) bool_ty) → IsOver s bound (tm_comb (tm_const n ts ty) (tm_abs u d)) → (p : ℕ)
    → quantified s n p (means u) (means (in_scope bound (tm_abs u d))) ≡ operand (means (in_scope bound (tm_comb (tm_const n ts ty) (tm_abs u d)))) p
unfolding quantified
quantified_is s bound n u d ts ty b h o p =
    let c = tm_const n ts ty in
    let oc : IsConstOver s n ts ty = o.0 in
    let g = usual_type s b n ts ty (fun_ty (fun_ty alpha bool_ty) bool_ty) oc h in
    let w = one_type_of ts (oc.as_many ∙ ap (λ u. length (ty_vars u [])) g) in
    let e : ty ≡ fun_ty (fun_ty w.type bool_ty) bool_ty = oc.instance ∙ (λ i. instance_at (g i) (w.is i)) in
    ap (λ m. apply (operand m p) (operand (means (in_scope bound (tm_abs u d))) p)) (constant_typed s n ts ty u oc w (binder_domain w.type u (tm_type d) (range_ty ty) ty e o.2) p)
    ∙ apply_is c (in_scope bound (tm_abs u d)) p p (fits_in s bound c (tm_abs u d) o)

-- ---- binders

-- a binder was read, up to r
pub record Binds (x : Front Binder) (u : Ty) (m : Tm) (r : Text) : Type 0 where
  pub place : ℕ
  pub is : x ≡ got (means u, means m) (tokens_from place r)

rest_dot : (r : Text) → Rest (codes ". " ++ r)
rest_dot r = record { ends = ends_dot r; closed = λ q. rw at_dot refl }

-- the body under its variable is the abstraction
abstraction_is : (s : Signature) (bound : List Ty) (u : Ty) (d : Tm) → length bound < 2 ^ 64 → IsOver s (u ∷ bound) d → lambda (above bound u) (in_scope (u ∷ bound) d) ≡ in_scope bound (tm_abs u d)
abstraction_is s bound u d h o = ap (λ e. tm_abs u e) (close s [] bound u d h o)

-- `x:t. b`, from the name on
binder_gives : (s : Signature) (bound : List Ty) (u : Ty) (d : Tm) → ReadsBack s → length bound < 2 ^ 64 → IsTyOver s u → IsOver s (u ∷ bound) d → ReadsTm s (u ∷ bound) d
    → (n p : ℕ) (r : Text) → length (ty_text u) < n → length (text_at (u ∷ bound) d) < n → Closed r
    → Binds (binder_at s (term_at s n) n (scope bound) (tokens_from p (bound_text (length bound) ++ (codes ":" ++ (ty_text u ++ (codes ". " ++ (text_at (u ∷ bound) d ++ r))))))) u (in_scope bound (tm_abs u d)) r
unfolding binder_at bound_at typed_at body_at
binder_gives s bound u d b h over o k n p r lt ld c =
    let x = bound_text (length bound) in
    let body = text_at (u ∷ bound) d ++ r in
    let typed = ty_text u ++ (codes ". " ++ body) in
    let q = p + length x in
    let c1 = (reads_type s (has_names b) u over).whole n (q + 1) (codes ". " ++ body) lt (rest_dot body) in
    let g = k.whole n ((c1.place + 1) + 1) r ld c in
    let read_body = body_at (term_at s n) (scope bound) x in
    record {
      place = g.place;
      is = ap (binder_at s (term_at s n) n (scope bound)) (at_name p x (codes ":" ++ typed) (bound_name (length bound) h) (ends_sign 58 typed refl refl))
          ∙ ap (λ e. bound_by true e (token a_name x p ∷ tokens_from q (codes ":" ++ typed)) >>= (λ x rest. typed_at s n rest >>= (λ t after. expect_by (is_dot (head_kind after)) t after >>= body_at (term_at s n) (scope bound) x))) (bound_undotted (length bound) h)
          ∙ ap (λ ts. typed_at s n ts >>= (λ t after. expect_by (is_dot (head_kind after)) t after >>= read_body)) (at_colon q typed)
          ∙ ap (λ y. y >>= (λ t after. expect_by (is_dot (head_kind after)) t after >>= read_body)) c1.is
          ∙ ap (λ ts. expect_by (is_dot (head_kind ts)) (means u) ts >>= read_body) (at_dot c1.place body)
          ∙ ap (λ y. y >>= (λ z rest. got (means u, abstraction (means u) (above bound u) z.meaning) rest)) g.is
          ∙ ap (λ m. got (means u, means m) (tokens_from g.place r)) (abstraction_is s bound u d h o);
    }

-- ---- terms with sugar, and abstractions

-- what is shown of a term that is neither an atom nor plain
sugared : (s : Signature) (bound : List Ty) (t : Tm) → is_plain t ≡ false → is_atom t ≡ false
    → ((n p : ℕ) (r : Text) → length (text_at bound t) < n → Closed r → Gives (term_at s n (scope bound) (tokens_from p (text_at bound t ++ r))) (in_scope bound t) r) → ReadsTm s bound t
sugared s bound t e h one = record {
  starts = λ g. absurd (unlike (sym e ∙ g));
  atom = λ g. absurd (unlike (sym h ∙ g));
  spine = λ g. absurd (unlike (sym e ∙ g));
  whole = one;
}
  where
    unlike : false ≡ true → ⊥
    unlike g = cc

-- two operands around a sign
infix_reads : (s : Signature) (bound : List Ty) (a x t : Tm) (text : Text) (k : Kind) (joined : ℕ → Operand → Operand → Operand)
    → text_at bound t ≡ (operand_text bound a ++ text) ++ operand_text bound x → is_plain t ≡ false → is_atom t ≡ false
    → ReadsTm s bound a → ReadsTm s bound x → Between text k
    → ((read : List Token → Front Operand) (left : Operand) (ts : List Token) → infix_by k s read left ts ≡ (read (tail ts) >>= (λ right rest. got (joined (head_place ts) left right) rest)))
    → ((p i j : ℕ) → joined p (operand (means (in_scope bound a)) i) (operand (means (in_scope bound x)) j) ≡ operand (means (in_scope bound t)) i)
    → ReadsTm s bound t
infix_reads s bound a x t text k joined e f h ra rx sg by value = sugared s bound t f h (λ n p r l c.
    let sum = length-append (operand_text bound a ++ text) (operand_text bound x) in
    let more = length-append (operand_text bound a) text in
    leads (ap (λ y. term_at s n (scope bound) (tokens_from p y)) (ap (λ y. y ++ r) e ∙ apart r))
    (infix_whole s bound a x (in_scope bound t) text k joined ra rx sg by value n p r (omega (arith, ap length e, sum, more)) c))
  where
    apart : (r : Text) → ((operand_text bound a ++ text) ++ operand_text bound x) ++ r ≡ operand_text bound a ++ (text ++ (operand_text bound x ++ r))
    apart r = append_assoc (operand_text bound a ++ text) (operand_text bound x) r ∙ append_assoc (operand_text bound a) text (operand_text bound x ++ r)

abbrev pub around : Name → List Ty → Ty → Tm → Tm → Tm
around c ts ty a x = tm_comb (tm_comb (tm_const c ts ty) a) x

pub eq_reads : (s : Signature) (bound : List Ty) (a x : Tm) (ts : List Ty) (ty : Ty) → ReadsBack s → IsOver s bound (around (codes "eq") ts ty a x) → ReadsTm s bound a → ReadsTm s bound x → ReadsTm s bound (around (codes "eq") ts ty a x)
eq_reads s bound a x ts ty b o ra rx =
    infix_reads s bound a x (around (codes "eq") ts ty a x) (codes " = ") equals (equation s) refl refl refl ra rx between_equals (λ read left us. refl) (equation_is s bound a x ts ty b o)

pub conj_reads : (s : Signature) (bound : List Ty) (a x : Tm) (ts : List Ty) (ty : Ty) → ReadsBack s → IsOver s bound (around (codes "conj") ts ty a x) → ReadsTm s bound a → ReadsTm s bound x → ReadsTm s bound (around (codes "conj") ts ty a x)
conj_reads s bound a x ts ty b o ra rx =
    infix_reads s bound a x (around (codes "conj") ts ty a x) (codes " /\\ ") and_sign (connective s (codes "conj")) refl refl refl ra rx between_and (λ read left us. refl) (connective_is s bound (codes "conj") a x ts ty b refl o)

pub disj_reads : (s : Signature) (bound : List Ty) (a x : Tm) (ts : List Ty) (ty : Ty) → ReadsBack s → IsOver s bound (around (codes "disj") ts ty a x) → ReadsTm s bound a → ReadsTm s bound x → ReadsTm s bound (around (codes "disj") ts ty a x)
disj_reads s bound a x ts ty b o ra rx =
    infix_reads s bound a x (around (codes "disj") ts ty a x) (codes " \\/ ") or_sign (connective s (codes "disj")) refl refl refl ra rx between_or (λ read left us. refl) (connective_is s bound (codes "disj") a x ts ty b refl o)

pub imp_reads : (s : Signature) (bound : List Ty) (a x : Tm) (ts : List Ty) (ty : Ty) → ReadsBack s → IsOver s bound (around (codes "imp") ts ty a x) → ReadsTm s bound a → ReadsTm s bound x → ReadsTm s bound (around (codes "imp") ts ty a x)
imp_reads s bound a x ts ty b o ra rx =
    infix_reads s bound a x (around (codes "imp") ts ty a x) (codes " ==> ") implies_sign (connective s (codes "imp")) refl refl refl ra rx between_implies (λ read left us. refl) (connective_is s bound (codes "imp") a x ts ty b refl o)

not_whole : (s : Signature) (bound : List Ty) (x : Tm) (ts : List Ty) (ty : Ty) → ReadsBack s → IsOver s bound (tm_comb (tm_const (codes "not") ts ty) x) → ReadsTm s bound x
    → (n p : ℕ) (r : Text) → length (operand_text bound x) + 1 < n → Closed r
    → Gives (term_at s n (scope bound) (tokens_from p (codes "~ " ++ (operand_text bound x ++ r)))) (in_scope bound (tm_comb (tm_const (codes "not") ts ty) x)) r
unfolding term_at
not_whole s bound x ts ty b o rx zero p r l c = absurd (omega arith)
not_whole s bound x ts ty b o rx (suc n) p r l c =
    let g = operand_gives s bound x rx n ((p + 1) + 1) r (omega arith) c.follows (λ q. no_atom (head_kind (tokens_from q r)) (c.closed q)) in
    record {
      first = p;
      place = g.place;
      is = ap (λ us. term_by (head_kind us) s (term_at s n) n (scope bound) us) (at_not p (operand_text bound x ++ r))
          ∙ ap (λ y. y >>= (λ z rest. got (negation s p z) rest)) g.is
          ∙ ap (λ z. got z (tokens_from g.place r)) (negation_is s bound x ts ty b o p g.first);
    }

not_sugar : (x : Tm) (ts : List Ty) (ty : Ty) → sugar (tm_const (codes "not") ts ty) x ≡ before
not_sugar (tm_index i t) ts ty = refl
not_sugar (tm_free v) ts ty = refl
not_sugar (tm_const c us t) ts ty = refl
not_sugar (tm_comb f y) ts ty = refl
not_sugar (tm_abs t d) ts ty = refl

pub not_text : (bound : List Ty) (x : Tm) (ts : List Ty) (ty : Ty) → text_at bound (tm_comb (tm_const (codes "not") ts ty) x) ≡ codes "~ " ++ operand_text bound x
not_text bound x ts ty = rw (not_sugar x ts ty) refl

not_plain : (x : Tm) (ts : List Ty) (ty : Ty) → is_plain (tm_comb (tm_const (codes "not") ts ty) x) ≡ false
not_plain x ts ty = rw (not_sugar x ts ty) refl

pub not_reads : (s : Signature) (bound : List Ty) (x : Tm) (ts : List Ty) (ty : Ty) → ReadsBack s → IsOver s bound (tm_comb (tm_const (codes "not") ts ty) x) → ReadsTm s bound x → ReadsTm s bound (tm_comb (tm_const (codes "not") ts ty) x)
not_reads s bound x ts ty b o rx = sugared s bound (tm_comb (tm_const (codes "not") ts ty) x) (not_plain x ts ty) refl (λ n p r l c.
    leads (ap (λ y. term_at s n (scope bound) (tokens_from p (y ++ r))) (not_text bound x ts ty)) (not_whole s bound x ts ty b o rx n p r (omega (arith, ap length (not_text bound x ts ty))) c))

-- the text of a binder behind its sign
abbrev pub scope_text : List Ty → Ty → Tm → Text
scope_text bound u d = (printed (length bound) (tm_abs u d)).scope

scope_is : (bound : List Ty) (u : Ty) (d : Tm) → scope_text bound u d ≡ bound_text (length bound) ++ codes ":" ++ ty_text u ++ codes ". " ++ text_at (u ∷ bound) d
scope_is bound u d = rw (add-one (length bound)) refl

scope_apart : (bound : List Ty) (u : Ty) (d : Tm) (r : Text) → scope_text bound u d ++ r ≡ bound_text (length bound) ++ (codes ":" ++ (ty_text u ++ (codes ". " ++ (text_at (u ∷ bound) d ++ r))))
scope_apart bound u d r = ap (λ y. y ++ r) (scope_is bound u d) ∙ apart (bound_text (length bound)) (ty_text u) (text_at (u ∷ bound) d)
  where
    apart : (x y z : Text) → (x ++ codes ":" ++ y ++ codes ". " ++ z) ++ r ≡ x ++ (codes ":" ++ (y ++ (codes ". " ++ (z ++ r))))
    apart x y z = simp append_assoc

pub scope_length_is : (bound : List Ty) (u : Ty) (d : Tm) → length (scope_text bound u d) ≡ length (bound_text (length bound)) + 1 + length (ty_text u) + 2 + length (text_at (u ∷ bound) d)
scope_length_is bound u d =
    let x = bound_text (length bound) in
    let a = length-append (x ++ codes ":" ++ ty_text u ++ codes ". ") (text_at (u ∷ bound) d) in
    let b = length-append (x ++ codes ":" ++ ty_text u) (codes ". ") in
    let c = length-append (x ++ codes ":") (ty_text u) in
    let d1 = length-append x (codes ":") in
    omega (arith, ap length (scope_is bound u d), a, b, c, d1)

-- an abstraction
abs_whole : (s : Signature) (bound : List Ty) (u : Ty) (d : Tm) → ReadsBack s → length bound < 2 ^ 64 → IsOver s bound (tm_abs u d) → ReadsTm s (u ∷ bound) d
    → (n p : ℕ) (r : Text) → length (scope_text bound u d) + 1 < n → Closed r → Gives (term_at s n (scope bound) (tokens_from p (codes "\\" ++ (scope_text bound u d ++ r)))) (in_scope bound (tm_abs u d)) r
unfolding term_at
abs_whole s bound u d b h o k zero p r l c = absurd (omega arith)
abs_whole s bound u d b h o k (suc n) p r l c =
    let size = scope_length_is bound u d in
    let z = binder_gives s bound u d b h o.0 o.1 k n (p + 1) r (omega (arith, size)) (omega (arith, size)) c in
    let rest = codes ":" ++ (ty_text u ++ (codes ". " ++ (text_at (u ∷ bound) d ++ r))) in
    record {
      first = p;
      place = z.place;
      is = ap (λ y. term_at s (suc n) (scope bound) (tokens_from p (codes "\\" ++ y))) (scope_apart bound u d r)
          ∙ ap (λ us. term_by (head_kind us) s (term_at s n) n (scope bound) us) (at_lambda p (decimal (length bound) ++ rest))
          ∙ ap (λ y. y >>= (λ x after. got (operand x.1 p) after)) z.is;
    }

pub abs_reads : (s : Signature) (bound : List Ty) (u : Ty) (d : Tm) → ReadsBack s → length bound < 2 ^ 64 → IsOver s bound (tm_abs u d) → ReadsTm s (u ∷ bound) d → ReadsTm s bound (tm_abs u d)
abs_reads s bound u d b h o k = sugared s bound (tm_abs u d) refl refl (λ n p r l c. abs_whole s bound u d b h o k n p r (omega arith) c)

-- `!` and `?`
pub record Quantifies (n : Name) (text : Text) (k : Kind) : Type 0 where
  pub at : (p : ℕ) (r : Text) → tokens_from p (text ++ r) ≡ sign k p ∷ tokens_from (p + 1) r
  pub by : (s : Signature) (read : Scope → List Token → Front Operand) (m : ℕ) (b : Scope) (ts : List Token) → term_by k s read m b ts ≡ (binder_at s read m b (tail ts) >>= (λ x rest. got (quantified s n (head_place ts) x.0 x.1) rest))
  pub usual : entry_at signed n ≡ Some (fun_ty (fun_ty alpha bool_ty) bool_ty)
  pub long : length text ≡ 1

quantifies_all : Quantifies (codes "all") (codes "!") all_sign
quantifies_all = record { at = at_all; by = λ s read m b ts. refl; usual = refl; long = refl }

quantifies_ex : Quantifies (codes "ex") (codes "?") ex_sign
quantifies_ex = record { at = at_ex; by = λ s read m b ts. refl; usual = refl; long = refl }

quantified_whole : (s : Signature) (bound : List Ty) (m : Name) (text : Text) (w : Kind) (u : Ty) (d : Tm) (ts : List Ty) (ty : Ty) → Quantifies m text w → ReadsBack s → length bound < 2 ^ 64 → IsOver s bound (tm_comb (tm_const m ts ty) (tm_abs u d)) → ReadsTm s (u ∷ bound) d
    → (n p : ℕ) (r : Text) → length (scope_text bound u d) + 1 < n → Closed r
    → Gives (term_at s n (scope bound) (tokens_from p (text ++ (scope_text bound u d ++ r)))) (in_scope bound (tm_comb (tm_const m ts ty) (tm_abs u d))) r
unfolding term_at
quantified_whole s bound m text w u d ts ty q b h o k zero p r l c = absurd (omega arith)
quantified_whole s bound m text w u d ts ty q b h o k (suc n) p r l c =
    let size = scope_length_is bound u d in
    let oa : IsOver s bound (tm_abs u d) = o.1 in
    let z = binder_gives s bound u d b h oa.0 oa.1 k n (p + 1) r (omega (arith, size)) (omega (arith, size)) c in
    let rest = bound_text (length bound) ++ (codes ":" ++ (ty_text u ++ (codes ". " ++ (text_at (u ∷ bound) d ++ r)))) in
    record {
      first = p;
      place = z.place;
      is = ap (λ y. term_at s (suc n) (scope bound) (tokens_from p (text ++ y))) (scope_apart bound u d r)
          ∙ ap (λ us. term_by (head_kind us) s (term_at s n) n (scope bound) us) (q.at p rest)
          ∙ q.by s (term_at s n) n (scope bound) (sign w p ∷ tokens_from (p + 1) rest)
          ∙ ap (λ y. y >>= (λ x after. got (quantified s m p x.0 x.1) after)) z.is
          ∙ ap (λ y. got y (tokens_from z.place r)) (quantified_is s bound m u d ts ty b q.usual o p);
    }

pub all_reads : (s : Signature) (bound : List Ty) (u : Ty) (d : Tm) (ts : List Ty) (ty : Ty) → ReadsBack s → length bound < 2 ^ 64 → IsOver s bound (tm_comb (tm_const (codes "all") ts ty) (tm_abs u d)) → ReadsTm s (u ∷ bound) d → ReadsTm s bound (tm_comb (tm_const (codes "all") ts ty) (tm_abs u d))
all_reads s bound u d ts ty b h o k = sugared s bound (tm_comb (tm_const (codes "all") ts ty) (tm_abs u d)) refl refl
    (λ n p r l c. quantified_whole s bound (codes "all") (codes "!") all_sign u d ts ty quantifies_all b h o k n p r (omega arith) c)

pub ex_reads : (s : Signature) (bound : List Ty) (u : Ty) (d : Tm) (ts : List Ty) (ty : Ty) → ReadsBack s → length bound < 2 ^ 64 → IsOver s bound (tm_comb (tm_const (codes "ex") ts ty) (tm_abs u d)) → ReadsTm s (u ∷ bound) d → ReadsTm s bound (tm_comb (tm_const (codes "ex") ts ty) (tm_abs u d))
ex_reads s bound u d ts ty b h o k = sugared s bound (tm_comb (tm_const (codes "ex") ts ty) (tm_abs u d)) refl refl
    (λ n p r l c. quantified_whole s bound (codes "ex") (codes "?") ex_sign u d ts ty quantifies_ex b h o k n p r (omega arith) c)
