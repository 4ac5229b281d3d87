use Rattle.std.proofs.Common.{sym, ◌∙◌}
use Rattle.hol_text.proofs.Fits.{app_then, app_else}
use Rattle.hol_text.proofs.meaning.is_from.Goals as goal

pub returns-then-eq : goal.returns-then-eq
returns-then-eq c = app_then _ _ _ _ _ c.in-App.ensures (sym c.eq.ensures ∙ c.if-eq.true) c.is_first_of_two.ensures

pub returns-else-eq : goal.returns-else-eq
returns-else-eq c = app_else _ _ _ _ _ c.in-App.ensures (sym c.eq.ensures ∙ c.if-eq.false) c.if-eq.false
