-- The steps of a proof log that a rule or an axiom gives: their text, what they stand on, and the sequent that they give.
use Rattle.std.specs.Prelude.{◌≡◌, ℕ, zero, suc, Bool, true, false, List, [], ◌∷◌, ◌++◌, Option, None, map, take, codes, slice_get, unwrap_or, not, ◌&&◌, ◌==◌}
use Rattle.std.specs.List.{list_all, flat_map}
use Rattle.std.specs.Char.{is_ascii_digit}
use Rattle.std.specs.Fmt.{digits_onto}
use Rattle.std.specs.Cmp.Lexicographic.{pointwise}
use Rattle.hol_terms.specs.Name.{Name, is_segment}
use Rattle.hol_terms.specs.Ty.{Ty, ty_var}
use Rattle.hol_terms.specs.Tm.{Tm, tm_index, tm_free, FreeVar}
use Rattle.hol_terms.specs.Subst.{TySubst}
use Rattle.hol_terms.specs.Binding.{VarSubst}
use Rattle.hol_terms.specs.Signature.{Signature, IsOver}
use Rattle.hol_terms.specs.Definition.{Definition, const_def, type_def}
use Rattle.hol_terms.specs.Sequent.{Sequent, seq}
use Rattle.hol_terms.specs.Rules.{same, both, some_pair, refl_rule, trans_rule, comb_rule, abs_rule, beta_rule, assume_rule, eq_mp_rule, deduct_rule, inst_type_rule, inst_rule}
use Rattle.hol_terms.specs.Logic.{axioms}
use Rattle.hol_terms.specs.Base.{base}
use Rattle.hol_terms.specs.Proves.{AreTypesOver, AreOver}
use Rattle.hol_terms.specs.Text.{Text, ty_text, tm_text}
use Rattle.std.specs.Prelude.{bytes_eq}

-- a rule with what it is used on: the numbers of earlier steps, and terms, types and variables
pub data LogStep : Type 0 where
  step_refl : Tm → LogStep
  step_trans : ℕ → ℕ → LogStep
  step_comb : ℕ → ℕ → LogStep
  step_abs : FreeVar → ℕ → LogStep
  step_beta : Tm → LogStep
  step_assume : Tm → LogStep
  step_mp : ℕ → ℕ → LogStep
  step_deduct : ℕ → ℕ → LogStep
  step_inst_type : ℕ → TySubst → LogStep
  step_inst : ℕ → VarSubst → LogStep
  step_axiom : ℕ → LogStep

-- ---- text

-- a number in decimal digits, without leading zeros; it may be of any length
unfoldable pub numeral : ℕ → Text
numeral n = digits_onto (suc n) 10 false n []

-- decimal digits without leading zeros
abbrev pub is_numeral : Text → Bool
is_numeral [] = false
is_numeral (d ∷ []) = is_ascii_digit d
is_numeral (d ∷ e ∷ ds) = is_ascii_digit d && not (d == 48) && list_all is_ascii_digit (e ∷ ds)

abbrev pub numerals : ℕ → ℕ → Text
numerals i j = numeral i ++ codes " " ++ numeral j

abbrev pub with_semicolons : List Text → Text
with_semicolons [] = []
with_semicolons (x ∷ xs) = x ++ flat_map (λ y. codes " ; " ++ y) xs

-- `'v := TYPE`
abbrev pub type_pair_text : Name × Ty → Text
type_pair_text p = codes "'" ++ p.0 ++ codes " := " ++ ty_text p.1

-- `[v:TYPE] := TERM`
abbrev pub pair_text : FreeVar × Tm → Text
pair_text p = tm_text (tm_free p.0) ++ codes " := " ++ tm_text p.1

abbrev pub step_text : LogStep → Text
step_text (step_refl t) = codes "refl " ++ tm_text t
step_text (step_trans i j) = codes "trans " ++ numerals i j
step_text (step_comb i j) = codes "comb " ++ numerals i j
step_text (step_abs v i) = codes "abs " ++ tm_text (tm_free v) ++ codes " " ++ numeral i
step_text (step_beta t) = codes "beta " ++ tm_text t
step_text (step_assume t) = codes "assume " ++ tm_text t
step_text (step_mp i j) = codes "mp " ++ numerals i j
step_text (step_deduct i j) = codes "deduct " ++ numerals i j
step_text (step_inst_type i s) = codes "insttype " ++ numeral i ++ codes " " ++ with_semicolons (map type_pair_text s)
step_text (step_inst i s) = codes "inst " ++ numeral i ++ codes " " ++ with_semicolons (map pair_text s)
step_text (step_axiom k) = codes "axiom " ++ numeral k

-- ---- what a step is made of

-- terms are well typed and types well formed over the signature, type variables are segments, and there is at least one pair
abbrev pub IsStepOver : Signature → LogStep → Type 0
IsStepOver s (step_refl t) = IsOver s [] t
IsStepOver s (step_trans i j) = Unit {0}
IsStepOver s (step_comb i j) = Unit {0}
IsStepOver s (step_abs v i) = IsOver s [] (tm_free v)
IsStepOver s (step_beta t) = IsOver s [] t
IsStepOver s (step_assume t) = IsOver s [] t
IsStepOver s (step_mp i j) = Unit {0}
IsStepOver s (step_deduct i j) = Unit {0}
IsStepOver s (step_inst_type i ps) = (some_pair ps ≡ true) × (list_all (λ p. is_segment p.0) ps ≡ true) × AreTypesOver s ps
IsStepOver s (step_inst i ps) = (some_pair ps ≡ true) × AreOver s ps
IsStepOver s (step_axiom k) = Unit {0}

-- the numbers of the earlier steps that it stands on
abbrev pub premises : LogStep → List ℕ
premises (step_refl t) = []
premises (step_trans i j) = i ∷ j ∷ []
premises (step_comb i j) = i ∷ j ∷ []
premises (step_abs v i) = i ∷ []
premises (step_beta t) = []
premises (step_assume t) = []
premises (step_mp i j) = i ∷ j ∷ []
premises (step_deduct i j) = i ∷ j ∷ []
premises (step_inst_type i ps) = i ∷ []
premises (step_inst i ps) = i ∷ []
premises (step_axiom k) = []

-- ---- what a step gives

-- the sequent of the step of that number; a number that no step has is a fault of its own
abbrev pub sequent_at : List Sequent → ℕ → Sequent
sequent_at steps i = unwrap_or (slice_get steps i) (seq [] (tm_index 0 (ty_var [])))

abbrev pub same_definition : Definition → Definition → Bool
same_definition (const_def c t) (const_def d u) = both (bytes_eq c d) (same t u)
same_definition (type_def c t) (type_def d u) = both (bytes_eq c d) (same t u)
same_definition (const_def c t) (type_def d u) = false
same_definition (type_def c t) (const_def d u) = false

-- the definitions are exactly the first n base definitions
abbrev pub are_base : ℕ → List Definition → Bool
are_base n ds = pointwise same_definition ds (base n)

abbrev pub axiom_of : ℕ → Option Sequent
axiom_of zero = None
axiom_of (suc k) = slice_get axioms k

-- an axiom has a number from 1 to 3, and is there once the ten definitions of the connectives and quantifiers are
abbrev pub if_connectives : Bool → Option Sequent → Option Sequent
if_connectives true o = o
if_connectives false o = None

-- the rule's sequent, and None where a condition of the rule fails
abbrev pub step_gives : List Definition → List Sequent → LogStep → Option Sequent
step_gives ds steps (step_refl t) = refl_rule t
step_gives ds steps (step_trans i j) = trans_rule (sequent_at steps i) (sequent_at steps j)
step_gives ds steps (step_comb i j) = comb_rule (sequent_at steps i) (sequent_at steps j)
step_gives ds steps (step_abs v i) = abs_rule v (sequent_at steps i)
step_gives ds steps (step_beta t) = beta_rule t
step_gives ds steps (step_assume t) = assume_rule t
step_gives ds steps (step_mp i j) = eq_mp_rule (sequent_at steps i) (sequent_at steps j)
step_gives ds steps (step_deduct i j) = deduct_rule (sequent_at steps i) (sequent_at steps j)
step_gives ds steps (step_inst_type i ps) = inst_type_rule ps (sequent_at steps i)
step_gives ds steps (step_inst i ps) = inst_rule ps (sequent_at steps i)
step_gives ds steps (step_axiom k) = if_connectives (are_base 10 (take 10 ds)) (axiom_of k)
