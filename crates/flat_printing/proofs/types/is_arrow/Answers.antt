use Rattle.std.proofs.Common.{◌≡◌, List, ℕ, true, bytes_eq, sym, subst, ◌∙◌}
use Rattle.hol_terms.specs.Typing.{fun_name}
use Rattle.flat_terms.specs.Plain.{name_of}
use Rattle.flat_printing.proofs.Texts.{arrow_test}
use Rattle.flat_printing.proofs.types.is_arrow.Goals as goal

pub returns-then-eq : goal.returns-then-eq
returns-then-eq c = arrow_test c.args.tables.now (name_of c.args.tables.now c.args.name) c.args.args.now (subst (λ (n : List ℕ). bytes_eq n fun_name ≡ true) c.name_text.ensures (sym c.eq.ensures ∙ c.if-eq.true))
