-- The rules of the quantifiers, and of substitution: each one partial function, its condition and the sequent that it gives.
use Rattle.std.specs.Prelude.{Bool, [], ◌∷◌, Option}
use Rattle.hol_terms.specs.Ty.{Ty}
use Rattle.hol_terms.specs.Tm.{Tm, tm_free, tm_comb, tm_abs, FreeVar}
use Rattle.hol_terms.specs.Typing.{tm_type}
use Rattle.hol_terms.specs.Opening.{body_of}
use Rattle.hol_terms.specs.Binding.{tm_inst, has_free}
use Rattle.hol_terms.specs.Sequent.{Sequent, seq, left_of, argument, union}
use Rattle.hol_terms.specs.Rules.{same, same_ty, both, no, if_so, is_equation, without, lambda, free_in_none}
use Rattle.hol_terms.specs.Logic.{const_all, const_ex}
use Rattle.hol_conv.specs.Reduction.{put}

-- `!x. p` and `?x. p`, where x has the type
abbrev pub is_all : Ty → Tm → Bool
is_all a s = same s (tm_comb (const_all a) (tm_abs a (body_of (argument s))))

abbrev pub is_ex : Ty → Tm → Bool
is_ex a s = same s (tm_comb (const_ex a) (tm_abs a (body_of (argument s))))

-- of `!x. p` or `?x. p`, p with the term for x
abbrev pub case_of : Tm → Tm → Tm
case_of s t = put 0 t (body_of (argument s))

-- GEN: `A |- p`, where v is free in no hypothesis, gives `A |- !v. p`
abbrev pub gen_rule : FreeVar → Sequent → Option Sequent
gen_rule v a = if_so (free_in_none v a.hyps) (seq a.hyps (tm_comb (const_all v.ty) (lambda v a.concl)))

-- SPEC: `A |- !x. p`, where t has the type of x, gives `A |- p` with t for x
abbrev pub spec_rule : Tm → Sequent → Option Sequent
spec_rule t a = if_so (is_all (tm_type t) a.concl) (seq a.hyps (case_of a.concl t))

-- EXISTS: `A |- p` with t for x, where t has the type of x, gives `A |- ?x. p`, which is e
abbrev pub ex_i_rule : Tm → Tm → Sequent → Option Sequent
ex_i_rule e t a = if_so (both (is_ex (tm_type t) e) (same a.concl (case_of e t))) (seq a.hyps e)

-- CHOOSE: `A |- ?x. p` and `B |- q`, where v has the type of x and is free neither in `?x. p`, nor in q, nor in a hypothesis
-- of B other than p with v for x, give `A, (B without p with v for x) |- q`
abbrev pub choose_rule : FreeVar → Sequent → Sequent → Option Sequent
choose_rule v a b =
    if_so (both (is_ex v.ty a.concl) (both (no (has_free v a.concl)) (both (no (has_free v b.concl)) (free_in_none v (without (case_of a.concl (tm_free v)) b.hyps)))))
    (seq (union a.hyps (without (case_of a.concl (tm_free v)) b.hyps)) b.concl)

-- SUBST: `A |- s = u` and `B |- t` with s for v, where v has the type of s, give `A, B |- t` with u for v
abbrev pub subst_rule : FreeVar → Tm → Sequent → Sequent → Option Sequent
subst_rule v t a b =
    if_so (both (is_equation a.concl) (both (same_ty (tm_type (left_of a.concl)) v.ty) (same b.concl (tm_inst ((v, left_of a.concl) ∷ []) t))))
    (seq (union a.hyps b.hyps) (tm_inst ((v, argument a.concl) ∷ []) t))
