-- What a contract sees of the checker: the position behind the lines so far, and what it failed by.
use Rattle.std.specs.Prelude.{◌≡◌, ℕ, suc, List, [], ◌∷◌, Option, Some, None, String, slice_get, unwrap_or, refl}
use Rattle.std.specs.declared.alloc.Global.{Global}
use Rattle.std.specs.Coded.{Coded, code_by, coded×, coded_ℕ, coded_option}
use Rattle.hol_terms.specs.Text.{Text}
use Rattle.hol_logs.specs.Line.{LogLine}
use Rattle.hol_logs.specs.Position.{LogPosition, position_code, after, report_of}
use Rattle.hol_logs.specs.Log.{IsGood, IsBad}
use Rattle.replay_check.specs.declared.why.Why.{Why as Cause}
use Rattle.replay_check.specs.declared.why.Why.TheVariants.{Form, Number, Rule, Unfit, Base, Text as Statement, Count, Cut, Endless}
use Rattle.replay_check.specs.declared.checker.FeedError.{FeedError}
use Rattle.replay_check.specs.declared.checker.FeedError.TheVariants.{BadLine, Memory}
use Rattle.base_count.specs.InForce.{in_force}
use Rattle.replay_check.specs.Positions.{reported, cause_of}

pub record CheckerState : Type 0 where
  pub position : LogPosition
  pub failure : Option FeedError

-- ---- the state as a code

abbrev number_of : Cause → ℕ
number_of Form = 0
number_of Number = 1
number_of Rule = 2
number_of Unfit = 3
number_of Base = 4
number_of Statement = 5
number_of Count = 6
number_of Cut = 7
number_of Endless = 8

abbrev causes : List Cause
causes = Form ∷ Number ∷ Rule ∷ Unfit ∷ Base ∷ Statement ∷ Count ∷ Cut ∷ Endless ∷ []

abbrev cause_at : ℕ → Cause
cause_at n = unwrap_or (slice_get causes n) Form

pub same_cause : (w : Cause) → cause_at (number_of w) ≡ w
same_cause Form = refl
same_cause Number = refl
same_cause Rule = refl
same_cause Unfit = refl
same_cause Base = refl
same_cause Statement = refl
same_cause Count = refl
same_cause Cut = refl
same_cause Endless = refl

abbrev error_parts : FeedError → Option (ℕ × ℕ)
error_parts (BadLine n w) = Some (n, number_of w)
error_parts Memory = None

abbrev error_by : Option (ℕ × ℕ) → FeedError
error_by (Some p) = BadLine p.0 (cause_at p.1)
error_by None = Memory

pub same_error : (e : FeedError) → error_by (error_parts e) ≡ e
same_error (BadLine n w) = λ i. BadLine n (same_cause w i)
same_error Memory = refl

abbrev error_code : Coded FeedError
error_code = code_by (Option (ℕ × ℕ)) (coded_option (coded× coded_ℕ coded_ℕ)) error_parts error_by same_error

abbrev pub checker_code : Coded CheckerState
checker_code = code_by (LogPosition × Option FeedError) (coded× position_code (coded_option error_code)) (λ c. (c.position, c.failure)) (λ t. record { position = t.0; failure = t.1 }) (λ _. refl)

-- ---- lines

-- the line is good, the position is the one behind it, and this is what it prints
abbrev pub IsFed : CheckerState → CheckerState → Text → Option (String Global) → Type 0
IsFed p q text r = (l : LogLine) × IsGood in_force p.position text l × (q.position ≡ after p.position l) × (q.failure ≡ None) × (reported r ≡ report_of p.position l)

-- the line, by its number counted from 1, is bad by that cause; or memory was refused
abbrev pub IsFeedError : CheckerState → Text → FeedError → Type 0
IsFeedError p text (BadLine n w) = (n ≡ suc p.position.lines) × IsBad in_force p.position text (cause_of w)
IsFeedError p text Memory = Unit {0}
