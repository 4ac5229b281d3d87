-- Terms and hypotheses behind the rules of the quantifiers.
use Rattle.std.proofs.Common.{◌≡◌, inl, ⊎_elim, ℕ, ◌+◌, ◌-◌, arith, Bool, true, false, cond, nat_eq, nat_lt, List, [], ◌∷◌, Contains, refl, ap, sym, ◌∙◌}
use Rattle.std.proofs.lemmas.Bool.Decides.{nat_tests}
use Rattle.hol_terms.specs.Tm.{Tm, tm_index, tm_free, tm_const, tm_comb, tm_abs, FreeVar}
use Rattle.hol_terms.specs.Typing.{tm_type}
use Rattle.hol_terms.specs.Notation.{◌·◌}
use Rattle.hol_terms.specs.Binding.{tm_bind, tm_inst, has_free, var_eq}
use Rattle.hol_terms.specs.Loose.{IsClosedAt}
use Rattle.hol_terms.specs.Sequent.{union}
use Rattle.hol_terms.specs.Rules.{lambda}
use Rattle.hol_terms.specs.Logic.{const_all}
use Rattle.hol_terms.proofs.Opened.{var_self}
use Rattle.hol_kernel.specs.Ascending.{Ascends}
use Rattle.hol_kernel.proofs.Ascending.{union_ascends}
use Rattle.hol_kernel.proofs.Members.{union_has, same_list}
use Rattle.hol_conv.specs.Reduction.{shift, put}
use Rattle.hol_conv.proofs.Contracting.{shift_closed, none_left, none_right}
use Rattle.nd_rules.specs.Connectives.{imp_tm}
use Rattle.nd_rules.specs.Quantifiers.{each_case}

-- hypotheses joined with none
in_none : (t : Tm) (hs : List Tm) → Contains [] t → Contains hs t
in_none t hs c = let l = c.1 in absurd (omega arith)

pub union_none : (hs : List Tm) → Ascends hs → union hs [] ≡ hs
union_none hs a = same_list (union hs []) hs (union_ascends hs [] tt) a (λ t. (λ c. ⊎_elim (λ m. m) (in_none t hs) ((union_has hs [] t).0 c), λ c. (union_has hs [] t).1 (inl c)))

-- nothing is put where no index points
pub put_none : (k : ℕ) (u t : Tm) → IsClosedAt k t → put k u t ≡ t
put_none k u (tm_index i t) h = at (nat_eq i k) (nat_lt i k) refl refl
  where
    at : (b d : Bool) → nat_eq i k ≡ b → nat_lt i k ≡ d → cond b (shift k 0 u) (cond d (tm_index i t) (tm_index (i - 1) t)) ≡ tm_index i t
    at true d p q = absurd (grind (arith, nat_tests))
    at false true p q = refl
    at false false p q = absurd (grind (arith, nat_tests))
put_none k u (tm_free v) h = refl
put_none k u (tm_const c ts t) h = refl
put_none k u (tm_comb f x) h = λ i. tm_comb (put_none k u f h.0 i) (put_none k u x h.1 i)
put_none k u (tm_abs t b) h = ap (tm_abs t) (put_none (k + 1) u b h)

-- a variable that isn't there is bound nowhere
pub bind_none : (k : ℕ) (v : FreeVar) (t : Tm) → has_free v t ≡ false → tm_bind k v t ≡ t
bind_none k v (tm_index i t) h = refl
bind_none k v (tm_free w) h = ap (λ (b : Bool). cond b (tm_index k w.ty) (tm_free w)) h
bind_none k v (tm_const c ts t) h = refl
bind_none k v (tm_comb f x) h = λ i. tm_comb (bind_none k v f (none_left _ _ h) i) (bind_none k v x (none_right (has_free v f) _ h) i)
bind_none k v (tm_abs t b) h = ap (tm_abs t) (bind_none (k + 1) v b h)

same_index : (k : ℕ) → nat_eq k k ≡ true
same_index k = grind (arith, nat_tests)

-- a variable that is bound, and a term in its place, is the term for the variable
pub filled_inst : (k : ℕ) (v : FreeVar) (u t : Tm) → IsClosedAt 0 u → IsClosedAt k t → put k u (tm_bind k v t) ≡ tm_inst ((v, u) ∷ []) t
filled_inst k v u (tm_index i t) c h = put_none k u (tm_index i t) h
filled_inst k v u (tm_free w) c h = at (var_eq v w)
  where
    at : (b : Bool) → put k u (cond b (tm_index k w.ty) (tm_free w)) ≡ cond b u (tm_free w)
    at true = ap (λ (b : Bool). cond b (shift k 0 u) (cond (nat_lt k k) (tm_index k w.ty) (tm_index (k - 1) w.ty))) (same_index k) ∙ shift_closed k 0 u c
    at false = refl
filled_inst k v u (tm_const d ts t) c h = refl
filled_inst k v u (tm_comb f x) c h = λ i. tm_comb (filled_inst k v u f c h.0 i) (filled_inst k v u x c h.1 i)
filled_inst k v u (tm_abs t b) c h = ap (tm_abs t) (filled_inst (k + 1) v u b c h)

-- a case with a variable, generalised
pub each_bound : (v : FreeVar) (p q : Tm) → has_free v p ≡ false → has_free v q ≡ false
    → tm_comb (const_all v.ty) (lambda v (imp_tm (p · tm_free v) q)) ≡ each_case v.ty p q
each_bound v p q f g = rw (bind_none 0 v p f, bind_none 0 v q g, var_self v) refl

pub each_is : (v : FreeVar) (x p q r : Tm) → x ≡ tm_free v → q ≡ r → has_free v p ≡ false → has_free v r ≡ false
    → tm_comb (const_all v.ty) (lambda v (imp_tm (tm_comb p x) q)) ≡ each_case (tm_type x) p r
each_is v x p q r e d f g =
    (λ i. tm_comb (const_all v.ty) (lambda v (imp_tm (tm_comb p (e i)) (d i)))) ∙ each_bound v p r f g ∙ ap (λ t. each_case (tm_type t) p r) (sym e)
