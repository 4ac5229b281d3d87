-- What definitions say, and the numbers of axioms.
use Rattle.std.proofs.Common.{◌≡◌, ℕ, zero, suc, ◌<◌, ◌^◌, refl, sym, ap, ◌∙◌, arith, true, [], ◌∷◌, Option, Some, None, IsSome, IsSomeAnd}
use Rattle.hol_terms.specs.Definition.{Definition, const_def, type_def}
use Rattle.hol_terms.specs.Sequent.{Sequent}
use Rattle.hol_terms.specs.Proves.{sequents_of}
use Rattle.hol_kernel.specs.Run.{axiom_at}
use Rattle.hol_kernel.specs.Said.{is_const_def, is_type_def}
use Rattle.kernel_lines.specs.Lines.{on}
use Rattle.script_core.specs.Steps.{said_rule}
use Rattle.script_core.specs.declared.rule.DefRule.TheVariants.{Constant, TypeAbs, TypeRep}

pub const_there : (o : Option Definition) → IsSome (on o (said_rule Constant)) → IsSomeAnd o (λ d. is_const_def d ≡ true)
const_there None h = cc
const_there (Some (const_def c t)) h = refl
const_there (Some (type_def n p)) h = cc

pub const_says : (o : Option Definition) (a : Sequent) → IsSomeAnd o (λ d. sequents_of d ≡ a ∷ []) → on o (said_rule Constant) ≡ Some a
const_says None a e = absurd e
const_says (Some (const_def c t)) a e = cc
const_says (Some (type_def n p)) a e = cc

pub abs_there : (o : Option Definition) → IsSome (on o (said_rule TypeAbs)) → IsSomeAnd o (λ d. is_type_def d ≡ true)
abs_there None h = cc
abs_there (Some (const_def c t)) h = cc
abs_there (Some (type_def n p)) h = refl

pub rep_there : (o : Option Definition) → IsSome (on o (said_rule TypeRep)) → IsSomeAnd o (λ d. is_type_def d ≡ true)
rep_there None h = cc
rep_there (Some (const_def c t)) h = cc
rep_there (Some (type_def n p)) h = refl

pub abs_says : (o : Option Definition) (a b : Sequent) → IsSomeAnd o (λ d. sequents_of d ≡ a ∷ b ∷ []) → on o (said_rule TypeAbs) ≡ Some a
abs_says None a b e = absurd e
abs_says (Some (const_def c t)) a b e = cc
abs_says (Some (type_def n p)) a b e = cc

pub rep_says : (o : Option Definition) (a b : Sequent) → IsSomeAnd o (λ d. sequents_of d ≡ a ∷ b ∷ []) → on o (said_rule TypeRep) ≡ Some b
rep_says None a b e = absurd e
rep_says (Some (const_def c t)) a b e = cc
rep_says (Some (type_def n p)) a b e = cc

pub ruleset said_lemmas = (const_there, const_says, abs_there, rep_there, abs_says, rep_says)

pub axiom_small : (n : ℕ) → IsSome (axiom_at n) → n < 4
axiom_small zero h = cc
axiom_small (suc zero) h = omega arith
axiom_small (suc (suc zero)) h = omega arith
axiom_small (suc (suc (suc zero))) h = omega arith
axiom_small (suc (suc (suc (suc n)))) h = cc

pub ruleset axiom_lemmas = (axiom_small)
