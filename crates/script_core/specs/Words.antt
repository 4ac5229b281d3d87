-- The words of a line, and the numbers that words are.
use Rattle.std.specs.Prelude.{ℕ, ◌+◌, ◌*◌, ◌-◌, ◌==◌, Bool, true, false, List, [], ◌∷◌, Option, Some, None, map, nat_lt, codes}
use Rattle.std.specs.Borrow.{Bor}
use Rattle.std.specs.List.{slice_split, before_first, after_first}
use Rattle.std.specs.Str.{all_ascii_digits}
use Rattle.hol_terms.specs.Rules.{both, if_so, some_pair}
use Rattle.hol_terms.specs.Signature.{entry_at}
use Rattle.hol_terms.specs.Text.{Text}
use Rattle.script_core.specs.declared.rule.TermRule.{TermRule}
use Rattle.script_core.specs.declared.rule.TermRule.TheVariants.{Refl, Assume, Beta, BetaConv, EtaConv, BetaNorm}
use Rattle.script_core.specs.declared.rule.ThmRule.{ThmRule}
use Rattle.script_core.specs.declared.rule.ThmRule.TheVariants.{ConjL, ConjR, NotI, NotE, Sym, EqtI, EqtE, Norm}
use Rattle.script_core.specs.declared.rule.TwoThmRule.{TwoThmRule}
use Rattle.script_core.specs.declared.rule.TwoThmRule.TheVariants.{Trans, Comb, EqMp, Deduct, ConjI, Mp}
use Rattle.script_core.specs.declared.rule.TermThmRule.{TermThmRule}
use Rattle.script_core.specs.declared.rule.TermThmRule.TheVariants.{Abs, Gen, DisjR, Disch, Spec, RewriteAll}
use Rattle.script_core.specs.declared.rule.DefRule.{DefRule}
use Rattle.script_core.specs.declared.rule.DefRule.TheVariants.{Constant, TypeAbs, TypeRep}
use Rattle.script_core.specs.declared.rule.Rule.{Rule}
use Rattle.script_core.specs.declared.rule.Rule.TheVariants.{OfTerm, OfThm, OfTwoThms, OfTermAndThm, OfDefinition, Axiom, DisjL, DisjE, ExI, Choose, Subst, InstType, Inst, RewriteAt}
use Rattle.script_core.specs.declared.rule.LineKind.{LineKind}
use Rattle.script_core.specs.declared.rule.LineKind.TheVariants.{TypeText, TermText, Step}

-- the first word of a line, and what stands behind the blank after it
unfoldable pub first_word : Text → Text
first_word line = before_first (λ b. b == 32) line

unfoldable pub after_word : Text → Text
after_word line = after_first (λ b. b == 32) line

-- the words, between single blanks
unfoldable pub words : Text → List Text
words line = slice_split (λ b. b == 32) line

-- what decimal digits say, after the number so far
abbrev pub digits_on : ℕ → Text → ℕ
digits_on n [] = n
digits_on n (c ∷ cs) = digits_on (10 * n + (c - 48)) cs

-- the number below 2^64 that a word of decimal digits is
unfoldable pub number : Text → Option ℕ
number w = if_so (both (some_pair w) (both (all_ascii_digits w) (nat_lt (digits_on 0 w) 18446744073709551616))) (digits_on 0 w)

-- the first words of lines
abbrev pub kinds : List (Text × LineKind)
kinds =
    (codes "type", TypeText)
    ∷ (codes "term", TermText)
    ∷ (codes "refl", Step (OfTerm Refl))
    ∷ (codes "assume", Step (OfTerm Assume))
    ∷ (codes "beta", Step (OfTerm Beta))
    ∷ (codes "trans", Step (OfTwoThms Trans))
    ∷ (codes "comb", Step (OfTwoThms Comb))
    ∷ (codes "eq_mp", Step (OfTwoThms EqMp))
    ∷ (codes "deduct", Step (OfTwoThms Deduct))
    ∷ (codes "abs", Step (OfTermAndThm Abs))
    ∷ (codes "inst_type", Step InstType)
    ∷ (codes "inst", Step Inst)
    ∷ (codes "axiom", Step Axiom)
    ∷ (codes "def", Step (OfDefinition Constant))
    ∷ (codes "type_abs", Step (OfDefinition TypeAbs))
    ∷ (codes "type_rep", Step (OfDefinition TypeRep))
    ∷ (codes "conj_i", Step (OfTwoThms ConjI))
    ∷ (codes "conj_l", Step (OfThm ConjL))
    ∷ (codes "conj_r", Step (OfThm ConjR))
    ∷ (codes "disj_l", Step DisjL)
    ∷ (codes "disj_r", Step (OfTermAndThm DisjR))
    ∷ (codes "disj_e", Step DisjE)
    ∷ (codes "not_i", Step (OfThm NotI))
    ∷ (codes "not_e", Step (OfThm NotE))
    ∷ (codes "disch", Step (OfTermAndThm Disch))
    ∷ (codes "mp", Step (OfTwoThms Mp))
    ∷ (codes "gen", Step (OfTermAndThm Gen))
    ∷ (codes "spec", Step (OfTermAndThm Spec))
    ∷ (codes "ex_i", Step ExI)
    ∷ (codes "choose", Step Choose)
    ∷ (codes "subst", Step Subst)
    ∷ (codes "sym", Step (OfThm Sym))
    ∷ (codes "eqt_i", Step (OfThm EqtI))
    ∷ (codes "eqt_e", Step (OfThm EqtE))
    ∷ (codes "beta_conv", Step (OfTerm BetaConv))
    ∷ (codes "eta_conv", Step (OfTerm EtaConv))
    ∷ (codes "beta_norm", Step (OfTerm BetaNorm))
    ∷ (codes "norm", Step (OfThm Norm))
    ∷ (codes "rewrite_all", Step (OfTermAndThm RewriteAll))
    ∷ (codes "rewrite_at", Step RewriteAt)
    ∷ []

unfoldable pub kind_named : Text → Option LineKind
kind_named w = entry_at kinds w

-- the rows of a static table of words
abbrev pub rows : {A : Type 0} → List (Bor Text × A) → List (Text × A)
rows ps = map (λ p. (p.0.now, p.1)) ps
