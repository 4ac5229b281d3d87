-- What is said of a log that isn't good.
use Rattle.std.specs.Prelude.{ℕ, [], ◌∷◌, ◌++◌, codes}
use Rattle.std.specs.Fmt.{decimal}
use Rattle.hol_terms.specs.Text.{Text}
use Rattle.replay_check.specs.declared.why.Why.{Why as Cause}
use Rattle.replay_check.specs.declared.why.Why.TheVariants.{Form, Number, Rule, Unfit, Base, Text as Statement, Count, Cut, Endless}

abbrev pub word_of : Cause → Text
word_of Form = codes "form"
word_of Number = codes "number"
word_of Rule = codes "rule"
word_of Unfit = codes "unfit"
word_of Base = codes "base"
word_of Statement = codes "text"
word_of Count = codes "count"
word_of Cut = codes "cut"
word_of Endless = codes "endless"

abbrev pub bad_log_text : ℕ → Cause → Text
bad_log_text number why = codes "badlog " ++ decimal number ++ codes " " ++ word_of why ++ 10 ∷ []
