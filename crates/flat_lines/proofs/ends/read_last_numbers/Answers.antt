use Rattle.std.proofs.Common.{ℕ, ◌∙◌}
use Rattle.hol_terms.specs.Text.{Text}
use Rattle.std.specs.Prelude.{codes, Option}
use Rattle.strict_lines.specs.Operands.{reads_number}
use Rattle.strict_lines.specs.Lines.{number_line}
use Rattle.flat_lines.proofs.Readings.{parted_none, parted_before, parted_at, ended_made, bind_none, bind_on}
use Rattle.flat_lines.proofs.ends.read_last_numbers.Goals as goal

abbrev last : ℕ → Text → Option (ℕ × ℕ)
last m y = number_line (λ n. (m, n)) y

pub returns-in_default : goal.returns-in_default
returns-in_default c = parted_none _ _ _ c.in_default.ensures

pub returns-in_default-behind : goal.returns-in_default-behind
returns-in_default-behind c =
    let k = c.in-Some.ensures in parted_before (reads_number c.args.text.now) (codes " ") last k.0 c.in-Some.read.rest.now k.1 k.2.1 c.in_default-behind.ensures.none

pub returns-in_default-read_last_number : goal.returns-in_default-read_last_number
returns-in_default-read_last_number c =
    let k = c.in-Some.ensures in
    let y = c.in-Some-behind.rest.now in
    parted_at (reads_number c.args.text.now) (codes " ") last k.0 c.in-Some.read.rest.now y k.1 k.2.1 c.in-Some-behind.ensures.some
    ∙ ended_made (reads_number y) (λ n. (k.0.0, n)) ∙ bind_none _ _ c.in_default-read_last_number.ensures

pub returns : goal.returns
returns c =
    let k = c.in-Some.ensures in
    let y = c.in-Some-behind.rest.now in
    let l = c.in-Some-read_last_number.ensures in (
      (k.0.0, l.0),
      parted_at (reads_number c.args.text.now) (codes " ") last k.0 c.in-Some.read.rest.now y k.1 k.2.1 c.in-Some-behind.ensures.some ∙ ended_made (reads_number y) (λ n. (k.0.0, n)) ∙ bind_on _ _ l.0 l.1,
      (k.2.0, l.2),
    )
