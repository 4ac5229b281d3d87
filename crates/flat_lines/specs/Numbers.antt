-- Numbers of lines, which may be larger than a machine word.
use Rattle.std.specs.Prelude.{◌≡◌, ℕ, ◌≤◌, ◌^◌}
use Rattle.hol_terms.specs.Text.{Text}
use Rattle.flat_lines.specs.declared.numbers.Number.{Number}
use Rattle.flat_lines.specs.declared.numbers.Number.TheVariants.{Small, Huge}
use Rattle.flat_lines.specs.declared.numbers.NumberRead.{NumberRead}

-- it stands for n
abbrev pub IsNumber : Number → ℕ → Type 0
IsNumber (Small m) n = m ≡ n
IsNumber Huge n = 2 ^ 64 ≤ n

abbrev pub AreNumbers : Number × Number → ℕ × ℕ → Type 0
AreNumbers r p = IsNumber r.0 p.0 × IsNumber r.1 p.1

-- the number that was read, and what is left
abbrev pub IsNumberRead : NumberRead → ℕ × Text → Type 0
IsNumberRead r p = IsNumber r.number p.0 × (r.rest.now ≡ p.1)
