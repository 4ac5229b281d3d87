-- What a reader returned, beside what is read.
use Rattle.std.specs.Prelude.{◌≡◌, List, Result, Ok, Err}
use Rattle.std.specs.Borrow.{Bor}
use Rattle.hol_terms.specs.Reading.{Front, got, stop}
use Rattle.hol_text.specs.TokenViews.{tokens_of}
use Rattle.hol_text.specs.declared.tokens.Token.{Token}
use Rattle.hol_text.specs.declared.types.Stop.{Stop}
use Rattle.hol_text.specs.declared.types.Stop.TheVariants.{Memory, Grammar}

abbrev pub Fails : {A : Type 0} → Stop → Front A → Type 0
Fails Memory front = Unit {0}
Fails (Grammar p) front = front ≡ stop p

-- what was returned, seen by view, is what is read, with the tokens after it, unless memory ran out
abbrev pub Gives : {X A : Type 0} → (X → A) → Result (X × Bor (List Token)) Stop → Front A → Type 0
Gives view (Ok x) front = front ≡ got (view x.0) (tokens_of x.1.now)
Gives view (Err e) front = Fails e front
