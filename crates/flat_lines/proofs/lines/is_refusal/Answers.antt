use Rattle.std.proofs.Common.{◌≡◌, ℕ, sym, ap, ◌∙◌, Option, None, false}
use Rattle.std.specs.Prelude.{codes, is_some}
use Rattle.hol_terms.specs.Text.{Text}
use Rattle.strict_lines.specs.Operands.{reads_number, reads_word, parted}
use Rattle.strict_lines.specs.Lines.{number_line}
use Rattle.flat_lines.specs.Numbers.{IsNumber}
use Rattle.flat_lines.specs.Lines.{refusal_of}
use Rattle.flat_lines.proofs.Readings.{parted_none, parted_before, parted_at, ended_made, gave_alike, made_alike}
use Rattle.flat_lines.proofs.lines.is_refusal.Goals as goal

abbrev last : Text → Text → Text → Option (Text × (Text × ℕ))
last test name z = number_line (λ n. (test, (name, n))) z

abbrev second : Text → Text → Option (Text × (Text × ℕ))
second test y = parted (reads_word y) (codes " ") (last test)

none : (x : Text) → refusal_of x ≡ None → false ≡ is_some (refusal_of x)
none x e = ap is_some (sym e)

pub returns-in_default : goal.returns-in_default
returns-in_default c = none c.args.text.now (parted_none _ _ _ c.in_default.ensures)

pub returns-in_default-behind : goal.returns-in_default-behind
returns-in_default-behind c =
    let k = c.in-Some.ensures in none c.args.text.now (parted_before (reads_word c.args.text.now) (codes " ") second k.0 c.in-Some.rest.now k.1 k.2 c.in_default-behind.ensures.none)

pub returns-in_default-behind_word : goal.returns-in_default-behind_word
returns-in_default-behind_word c =
    let k = c.in-Some.ensures in
    let y = c.in-Some-behind.name.now in
    none c.args.text.now
    (parted_at (reads_word c.args.text.now) (codes " ") second k.0 c.in-Some.rest.now y k.1 k.2 c.in-Some-behind.ensures.some ∙ parted_none (reads_word y) (codes " ") (last k.0.0) c.in_default-behind_word.ensures)

pub returns-in_default-behind-2 : goal.returns-in_default-behind-2
returns-in_default-behind-2 c =
    let k = c.in-Some.ensures in
    let y = c.in-Some-behind.name.now in
    let l = c.in-Some-behind_word.ensures in
    none c.args.text.now
    (parted_at (reads_word c.args.text.now) (codes " ") second k.0 c.in-Some.rest.now y k.1 k.2 c.in-Some-behind.ensures.some
    ∙ parted_before (reads_word y) (codes " ") (last k.0.0) l.0 c.in-Some-behind_word.rest.now l.1 l.2 c.in_default-behind-2.ensures.none)

pub returns : goal.returns
returns c =
    let k = c.in-Some.ensures in
    let y = c.in-Some-behind.name.now in
    let l = c.in-Some-behind_word.ensures in
    let z = c.in-Some-behind-2.place.now in
    c.is_some.ensures
    ∙ gave_alike IsNumber c.read_last_number.result (number_line (λ n. n) z) c.read_last_number.ensures
    ∙ sym (made_alike (number_line (λ n. n) z) (λ n. (k.0.0, (l.0.0, n))))
    ∙ ap is_some
    (sym
    (parted_at (reads_word c.args.text.now) (codes " ") second k.0 c.in-Some.rest.now y k.1 k.2 c.in-Some-behind.ensures.some
    ∙ parted_at (reads_word y) (codes " ") (last k.0.0) l.0 c.in-Some-behind_word.rest.now z l.1 l.2 c.in-Some-behind-2.ensures.some ∙ ended_made (reads_number z) (λ n. (k.0.0, (l.0.0, n)))))
