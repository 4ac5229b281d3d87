-- The text of the base definitions and of the axioms, computed.
use Rattle.std.proofs.Common.{◌≡◌, map, refl}
use Rattle.std.specs.Fmt.{digits}
use Rattle.hol_terms.specs.Base.{base_definitions}
use Rattle.hol_terms.specs.Logic.{axioms}
use Rattle.hol_terms.specs.Text.{definition_line, tm_text}
use Rattle.hol_terms.specs.BaseLines.{base_lines, axiom_lines}
use Rattle.hol_terms.proofs.BaseOpened.{opened_bases}

pub base_lines-read : map definition_line base_definitions ≡ base_lines
unfolding opened_bases base_definitions base_lines digits
base_lines-read = refl

pub axiom_lines-read : map (λ a. tm_text a.concl) axioms ≡ axiom_lines
unfolding axiom_lines digits
axiom_lines-read = refl
