-- The theorems that contract a part give the theorem that contracts the whole.
use Rattle.std.proofs.Common.{◌≡◌, ◌<◌, arith, true, false, [], Some, None, IsSome, refl, ap, sym, ◌∙◌, subst}
use Rattle.hol_terms.specs.Ty.{Ty}
use Rattle.hol_terms.specs.Tm.{Tm, tm_comb, tm_abs, tm_size, FreeVar}
use Rattle.hol_terms.specs.Takes.{Takes}
use Rattle.hol_terms.specs.Binding.{tm_open, has_free}
use Rattle.hol_terms.specs.Loose.{HasAt}
use Rattle.hol_terms.specs.Name.{is_name}
use Rattle.hol_terms.specs.Opening.{body_of}
use Rattle.hol_terms.specs.Signature.{Signature, IsOver}
use Rattle.hol_terms.specs.Sequent.{seq, eq_tm}
use Rattle.hol_terms.specs.Rules.{is_abstraction, comb_rule, abs_rule, lambda}
use Rattle.hol_terms.proofs.Opened.{bind_open}
use Rattle.hol_terms.proofs.Bound.{IsOver-HasAt, IsOver-open}
use Rattle.hol_kernel.specs.State.{Theorem}
use Rattle.hol_conv.specs.Fresh.{IsFresh}
use Rattle.hol_conv.specs.Reduction.{reduct, contracted}
use Rattle.hol_conv.specs.Conv.{Contracts, IsEquationOf}
use Rattle.hol_conv.proofs.Contracting.{below_binder, none_below, size_open}
use Rattle.hol_conv.proofs.RuleLemmas.{given, some_of, comb_eqs, abs_eqs}

-- a redex
pub contracts_redex : (t f u : Tm) (th : Theorem) → t ≡ tm_comb f u → is_abstraction f ≡ true → IsEquationOf (tm_comb f u) (reduct f u) th → Contracts t th
contracts_redex t f u th e a h = subst (λ s. Contracts s th) (sym e) (record { to = reduct f u; step = rw (a) refl; exact = h })

-- a function that is contracted
function_is : (f u : Tm) (i : Theorem) → Takes f u → (s : Contracts f i) → comb_rule i.sequent (seq [] (eq_tm u u)) ≡ Some (seq [] (eq_tm (tm_comb f u) (tm_comb s.to u)))
function_is f u i h s = ap (λ a. comb_rule a (seq [] (eq_tm u u))) s.exact ∙ comb_eqs f s.to u u h

pub function_fits : (f u : Tm) (i : Theorem) → Takes f u → Contracts f i → IsSome (comb_rule i.sequent (seq [] (eq_tm u u)))
function_fits f u i h s = some_of (function_is f u i h s)

pub contracts_function : (t f u : Tm) (i th : Theorem) → t ≡ tm_comb f u → is_abstraction f ≡ false → Takes f u → Contracts f i → comb_rule i.sequent (seq [] (eq_tm u u)) ≡ Some th.sequent → Contracts t th
contracts_function t f u i th d a h s e = subst (λ r. Contracts r th) (sym d) (record { to = tm_comb s.to u; step = rw (a, s.step) refl; exact = given (function_is f u i h s) e })

-- an argument that is contracted
argument_is : (f u : Tm) (i : Theorem) → Takes f u → (s : Contracts u i) → comb_rule (seq [] (eq_tm f f)) i.sequent ≡ Some (seq [] (eq_tm (tm_comb f u) (tm_comb f s.to)))
argument_is f u i h s = ap (comb_rule (seq [] (eq_tm f f))) s.exact ∙ comb_eqs f f u s.to h

pub argument_fits : (f u : Tm) (i : Theorem) → Takes f u → Contracts u i → IsSome (comb_rule (seq [] (eq_tm f f)) i.sequent)
argument_fits f u i h s = some_of (argument_is f u i h s)

pub contracts_argument : (t f u : Tm) (i th : Theorem) → t ≡ tm_comb f u → is_abstraction f ≡ false → contracted f ≡ None → Takes f u → Contracts u i
    → comb_rule (seq [] (eq_tm f f)) i.sequent ≡ Some th.sequent → Contracts t th
contracts_argument t f u i th d a n h s e = subst (λ r. Contracts r th) (sym d) (record { to = tm_comb f s.to; step = rw (a, n, s.step) refl; exact = given (argument_is f u i h s) e })

-- a body that is contracted, opened with a fresh variable
body_is : (t b : Tm) (v : FreeVar) (i : Theorem) → t ≡ tm_abs v.ty b → has_free v b ≡ false → HasAt 0 v.ty b → (s : Contracts (tm_open 0 v b) i)
    → abs_rule v i.sequent ≡ Some (seq [] (eq_tm (tm_abs v.ty b) (lambda v s.to)))
body_is t b v i d f h s =
    ap (abs_rule v) s.exact ∙ abs_eqs v (tm_open 0 v b) s.to ∙ ap (λ c. Some (seq [] (eq_tm (tm_abs v.ty c) (lambda v s.to)))) (bind_open 0 v b f h)

pub body_fits : (t b : Tm) (v : FreeVar) (i : Theorem) → t ≡ tm_abs v.ty b → has_free v b ≡ false → HasAt 0 v.ty b → Contracts (tm_open 0 v b) i → IsSome (abs_rule v i.sequent)
body_fits t b v i d f h s = some_of (body_is t b v i d f h s)

pub contracts_body : (t b : Tm) (v : FreeVar) (i th : Theorem) → t ≡ tm_abs v.ty b → has_free v b ≡ false → HasAt 0 v.ty b → Contracts (tm_open 0 v b) i
    → abs_rule v i.sequent ≡ Some th.sequent → Contracts t th
contracts_body t b v i th d f h s e =
    subst (λ r. Contracts r th) (sym d) (record { to = lambda v s.to; step = below_binder v b s.to f h s.step; exact = given (body_is t b v i d f h s) e })

-- an abstraction, opened with a fresh variable
pub record Opens (sig : Signature) (t : Tm) (v : FreeVar) : Type 0 where
  pub is : t ≡ tm_abs v.ty (body_of t)
  pub absent : has_free v (body_of t) ≡ false
  pub at : HasAt 0 v.ty (body_of t)
  pub over : IsOver sig [] (tm_open 0 v (body_of t))
  pub smaller : tm_size (tm_open 0 v (body_of t)) < tm_size t

opened : (sig : Signature) (b : Tm) (v : FreeVar) → is_name v.name ≡ true → has_free v b ≡ false → IsOver sig [] (tm_abs v.ty b) → Opens sig (tm_abs v.ty b) v
opened sig b v n f o =
    let s = size_open 0 v b in
    record { is = refl; absent = f; at = IsOver-HasAt sig [] v.ty b o.1; over = IsOver-open sig [] v b (n, o.0) o.1; smaller = omega arith }

pub opens : (sig : Signature) (t b : Tm) (a : Ty) (v : FreeVar) → t ≡ tm_abs a b → IsFresh t [] a v → IsOver sig [] t → Opens sig t v
opens sig t b a v d f o =
    let e : t ≡ tm_abs v.ty b = d ∙ ap (λ c. tm_abs c b) (sym f.typed) in
    subst (λ s. Opens sig s v) (sym e) (opened sig b v f.named (sym (ap (has_free v) e) ∙ f.absent) (subst (IsOver sig []) e o))

pub none_in_body : (sig : Signature) (t : Tm) (v : FreeVar) → Opens sig t v → contracted (tm_open 0 v (body_of t)) ≡ None → contracted t ≡ None
none_in_body sig t v o e = ap contracted o.is ∙ none_below 0 v v.ty (body_of t) e
