-- What makes the lines of an output sound.
use Rattle.std.specs.Prelude.{◌≡◌, Bool, ◌||◌, ◌==◌, List, [], ◌∷◌, ◌++◌, if◌then◌else◌, codes, take, length, bytes_eq}
use Rattle.hol_terms.specs.Name.{Name}
use Rattle.hol_terms.specs.Tm.{Tm}
use Rattle.hol_terms.specs.Definition.{Definition}
use Rattle.hol_terms.specs.Sequent.{seq}
use Rattle.hol_terms.specs.Proves.{IsConservative, IsDerivable}
use Rattle.hol_terms.specs.Text.{Text, definition_line, theorem_line}

-- the lines that a newline ends, without it; what follows the last newline is no complete line
abbrev pub lines_after : Text → Text → List Text
lines_after line [] = []
lines_after line (b ∷ bs) = if b == 10 then line ∷ lines_after [] bs else lines_after (line ++ b ∷ []) bs

abbrev pub complete_lines : Text → List Text
complete_lines bs = lines_after [] bs

abbrev pub begins_with : Text → Text → Bool
begins_with front line = bytes_eq (take (length front) line) front

pub data LineKind : Type 0 where
  defines : LineKind
  states : LineKind
  other : LineKind

-- definition lines begin with `def` or `type`, theorem lines with `thm`
abbrev pub kind_of : Text → LineKind
kind_of line = if begins_with (codes "def ") line || begins_with (codes "type ") line then defines else (if begins_with (codes "thm ") line then states else other)

abbrev pub by_kind : LineKind → Type 0 → Type 0 → Type 0 → Type 0
by_kind defines A B C = A
by_kind states A B C = B
by_kind other A B C = C

-- Each definition line is the text of a definition that is conservative after those held, and is then held too. Each theorem
-- line is the text of a term that is derivable, without hypotheses, over the definitions held at that line.
abbrev pub AreSoundAfter : List Definition → List Text → Type 0
AreSoundAfter held [] = Unit {0}
AreSoundAfter held (line ∷ lines) =
    by_kind (kind_of line)
    ((d : Definition) × (line ≡ definition_line d) × IsConservative held d × AreSoundAfter (held ++ d ∷ []) lines)
    ((n : Name) × (p : Tm) × (line ≡ theorem_line n p) × IsDerivable held (seq [] p) × AreSoundAfter held lines)
    (AreSoundAfter held lines)

-- the output is sound over the definitions that are held at its start
abbrev pub IsSound : List Definition → Text → Type 0
IsSound held out = AreSoundAfter held (complete_lines out)
