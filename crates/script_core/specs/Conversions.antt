-- The conversions, each one partial function: its condition, and the sequent that it gives.
use Rattle.std.specs.Prelude.{ℕ, ◌+◌, Bool, true, false, List, [], Option, Some, None, nat_lt}
use Rattle.hol_terms.specs.Tm.{Tm, tm_index, tm_free, tm_const, tm_comb, tm_abs}
use Rattle.hol_terms.specs.Rules.{same, both, if_so, is_equation, is_abstraction, function}
use Rattle.hol_terms.specs.Replacing.{subterm_at, replaced, replaced_at}
use Rattle.hol_terms.specs.Sequent.{Sequent, seq, eq_tm, left_of, argument}
use Rattle.hol_conv.specs.Reduction.{reduct, beta_steps}
use Rattle.hol_conv.specs.Eta.{expanded, applied_in}
use Rattle.hol_conv.specs.Rewriting.{rewriting_hyps}

abbrev pub is_application : Tm → Bool
is_application (tm_index i t) = false
is_application (tm_free v) = false
is_application (tm_const c ts t) = false
is_application (tm_comb f x) = true
is_application (tm_abs t b) = false

-- the term has no index that points out of it, below k binders
abbrev pub is_closed_at : ℕ → Tm → Bool
is_closed_at k (tm_index i t) = nat_lt i k
is_closed_at k (tm_free v) = true
is_closed_at k (tm_const c ts t) = true
is_closed_at k (tm_comb f x) = both (is_closed_at k f) (is_closed_at k x)
is_closed_at k (tm_abs t b) = is_closed_at (k + 1) b

-- BETA_CONV: `|- (\x. b) u = b` with u for x
abbrev pub beta_conv_rule : Tm → Option Sequent
beta_conv_rule t = if_so (both (is_application t) (is_abstraction (function t))) (seq [] (eq_tm t (reduct (function t) (argument t))))

-- ETA_CONV: `|- (\x. f x) = f`, where x is not in f
abbrev pub eta_conv_rule : Tm → Option Sequent
eta_conv_rule t = if_so (both (same t (expanded (applied_in t))) (is_closed_at 0 (applied_in t))) (seq [] (eq_tm t (applied_in t)))

-- as many contractions as a normal form may take: 2^64 - 1
unfoldable pub most_steps : ℕ
most_steps = 18446744073709551615

-- the beta normal form, where it is reached within that many contractions
abbrev pub normal : Tm → Tm
normal t = beta_steps most_steps t

-- `|- t = u`, where u is the normal form of t
abbrev pub beta_norm_rule : Tm → Option Sequent
beta_norm_rule t = Some (seq [] (eq_tm t (normal t)))

-- `A |- p` gives `A |- q`, where q is the normal form of p
abbrev pub norm_rule : Sequent → Option Sequent
norm_rule a = Some (seq a.hyps (normal a.concl))

-- `A |- l = r` gives `A |- t = u`, where u is t with r in place of each topmost l, and A is dropped where there is none
abbrev pub rewrite_all_rule : Tm → Sequent → Option Sequent
rewrite_all_rule t a = if_so (is_equation a.concl) (seq (rewriting_hyps t a) (eq_tm t (replaced (left_of a.concl) (argument a.concl) t)))

abbrev pub is_there : Option Tm → Tm → Bool
is_there None t = false
is_there (Some s) t = same s t

-- `A |- l = r` gives `A |- t = u`, where l stands in t at the path, and u has r there
abbrev pub rewrite_at_rule : List ℕ → Tm → Sequent → Option Sequent
rewrite_at_rule path t a = if_so (both (is_equation a.concl) (is_there (subterm_at path t) (left_of a.concl)))
    (seq a.hyps (eq_tm t (replaced_at path (argument a.concl) t)))
