-- Outputs and logs that answer a text.
use Rattle.std.specs.Prelude.{◌≡◌, Bool, List, ◌++◌}
use Rattle.std.specs.List.{list_any}
use Rattle.hol_terms.specs.Text.{Text}
use Rattle.hol_terms.specs.Sound.{IsSound}
use Rattle.hol_terms.specs.Base.{base}
use Rattle.hol_logs.specs.Log.{IsGoodLog}
use Rattle.base_count.specs.InForce.{in_force}
use Rattle.theory_answers.specs.Answer.{answer, answers, is_refusal}
use Rattle.theory_answers.specs.Layout.{IsOwned}

-- the text's answer has a refusal, or has none
abbrev pub IsDecided : Text → Bool → Type 0
IsDecided b refused = list_any is_refusal (answer b) ≡ refused

-- the output answers the text, each theorem line is derivable over the definition lines before it, and definitions stand where
-- they belong
pub record IsCheck (b out : Text) (refused : Bool) : Type 0 where
  pub answered : answers out ≡ answer b
  pub decided : IsDecided b refused
  pub sound : IsSound (base in_force) out
  pub owned : IsOwned out

-- the output was cut short: its answer lines begin the answer, and each theorem line is derivable over the definition lines before it
pub record IsPart (b out : Text) : Type 0 where
  pub answered : (rest : List Text) × (answers out ++ rest ≡ answer b)
  pub sound : IsSound (base in_force) out

-- the log is good with the base definitions in force, and its report is an output that answers the text
pub record IsLog (b log : Text) (refused : Bool) : Type 0 where
  pub report : Text
  pub good : IsGoodLog in_force log report
  pub reports : IsCheck b report refused
