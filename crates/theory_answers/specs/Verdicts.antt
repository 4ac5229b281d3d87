-- What a text comes to over the base definitions.
use Rattle.std.specs.Prelude.{◌≡◌, ℕ, ◌<◌, ◌^◌, Bool, true, false, List, [], ◌∷◌, ◌++◌, string_bytes, codes}
use Rattle.std.specs.Fmt.{decimal}
use Rattle.hol_terms.specs.Typing.{tm_type}
use Rattle.hol_terms.specs.TyVars.{tm_within}
use Rattle.hol_terms.specs.Definition.{const_def, signature_of}
use Rattle.hol_terms.specs.Base.{base}
use Rattle.hol_terms.specs.Proves.{AreConservative}
use Rattle.hol_terms.specs.Text.{Text, definition_line}
use Rattle.hol_logs.specs.Line.{is_word}
use Rattle.theory_text.specs.Command as Command
use Rattle.theory_text.specs.Definable.{IsDefinable}
use Rattle.theory_text.specs.Views.{define_view}
use Rattle.base_count.specs.InForce.{in_force}
use Rattle.theory_answers.specs.Answer.{base_line, section_line, define_fact}
use Rattle.theory_answers.specs.Layout.{unlines}
use Rattle.theory_answers.specs.Answered.{IsCheck}
use Rattle.theory_answers.specs.declared.verdict.Refusal.{Refusal}
use Rattle.theory_answers.specs.declared.verdict.Verdict.{Verdict}
use Rattle.theory_answers.specs.declared.verdict.Verdict.TheVariants.{Empty, Define, Refused}

-- ---- lines

abbrev pub refusal_line : Refusal → Text
refusal_line r = codes "refused " ++ string_bytes r.test ++ codes " " ++ string_bytes r.name ++ codes " " ++ decimal r.place

-- all lines to a definition
abbrev pub defined_lines : Command.Define → List Text
defined_lines d = base_line ∷ section_line d ∷ definition_line (const_def d.name d.body) ∷ define_fact d ∷ []

-- ---- refusals

pub record IsRefusalOf (r : Refusal) (test name : Text) (place : ℕ) : Type 0 where
  pub test_is : string_bytes r.test ≡ test
  pub name_is : string_bytes r.name ≡ name
  pub place_is : r.place ≡ place
  pub fits : r.place < 2 ^ 64

abbrev pub IsRefused : Verdict → Text → Text → ℕ → Type 0
IsRefused Empty test name place = ⊥
IsRefused (Define c) test name place = ⊥
IsRefused (Refused r) test name place = IsRefusalOf r test name place

-- ---- definitions

abbrev pub is_conservative : Command.Define → Bool
is_conservative d = tm_within d.body (tm_type d.body)

-- it may be made, or its first type variable that its type has not is refused
abbrev pub IsOutcome : Command.Define → Verdict → Type 0
IsOutcome d Empty = ⊥
IsOutcome d (Define c) = (define_view c ≡ d) × (is_conservative d ≡ true)
IsOutcome d (Refused r) = IsRefusalOf r (codes "conservativity") (codes "'" ++ d.stray) d.stray_place × (is_conservative d ≡ false)

-- ---- verdicts

-- a definition that may be made, whose lines answer the text
pub record IsDefine (b : Text) (d : Command.Define) : Type 0 where
  pub definable : IsDefinable (signature_of (base in_force)) d
  pub conservative : is_conservative d ≡ true
  pub checked : AreConservative (base in_force) → IsCheck b (unlines (defined_lines d)) false

-- a refusal by two words, whose line answers the text
pub record IsRefusal (b : Text) (r : Refusal) : Type 0 where
  pub test : is_word (string_bytes r.test) ≡ true
  pub name : is_word (string_bytes r.name) ≡ true
  pub fits : r.place < 2 ^ 64
  pub checked : IsCheck b (unlines (base_line ∷ refusal_line r ∷ [])) true

abbrev pub IsVerdict : Text → Verdict → Type 0
IsVerdict b Empty = IsCheck b (unlines (base_line ∷ [])) false
IsVerdict b (Define c) = IsDefine b (define_view c)
IsVerdict b (Refused r) = IsRefusal b r
