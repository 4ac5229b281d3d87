-- How an application is written, by the nodes at its top.
use Rattle.std.specs.Prelude.{◌≡◌, Option, Some, None}
use Rattle.hol_terms.specs.Tm.{Tm, tm_comb, tm_abs}
use Rattle.hol_terms.specs.Text.{Text, Sugar, between, before, binding, none, sugar}
use Rattle.hol_text.specs.declared.print.Form.{Form}
use Rattle.hol_text.specs.declared.print.Form.TheVariants.{Infix, Negation, Binder, Plain}

-- the function of an application
abbrev pub operator : Tm → Tm
operator (tm_comb f x) = f
operator t = t

abbrev pub infix_sugar : Option Text → Sugar
infix_sugar (Some sign) = between sign
infix_sugar None = none

abbrev pub binder_sugar : Option Text → Sugar
binder_sugar (Some sign) = binding sign
binder_sugar None = none

-- the form of `f x`, with the parts that are written
abbrev pub IsForm : Tm → Tm → Form → Type 0
IsForm f x (Infix sign left) = (sugar f x ≡ between sign.now) × (f ≡ tm_comb (operator f) left.now)
IsForm f x Negation = sugar f x ≡ before
IsForm f x (Binder sign a b) = (sugar f x ≡ binding sign.now) × (x ≡ tm_abs a.now b.now)
IsForm f x Plain = sugar f x ≡ none
