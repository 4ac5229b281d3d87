-- Which words the program takes.
use Rattle.std.specs.Prelude.{◌≡◌, ℕ, Bool, false, ◌==◌, List, [], ◌∷◌, if◌then◌else◌, Option, Some, None, bytes_eq, codes}
use Rattle.clap.specs.Matches.{found_of, first_value}
use Rattle.clap.specs.declared.parser.matches.ArgMatches.{ArgMatches}
use Rattle.program_words.specs.declared.Mode.{Mode}
use Rattle.program_words.specs.declared.Mode.TheVariants.{Check, Log, Replay}

abbrev pub Word : Type 0
Word = List ℕ

abbrev pub begins_with_minus : Word → Bool
begins_with_minus [] = false
begins_with_minus (c ∷ cs) = c == 45

abbrev pub with_mode : Word → Option (List Word) → Option (List Word)
with_mode w None = None
with_mode w (Some ws) = Some (w ∷ ws)

-- Read from left to right, the first word `--` ends the options; each other word before it that begins with `-` fails. The words that
-- are left are modes.
abbrev pub modes : List Word → Option (List Word)
modes [] = Some []
modes (w ∷ ws) = if bytes_eq w (codes "--") then Some ws else (if begins_with_minus w then None else with_mode w (modes ws))

abbrev pub mode_named : Word → Option Mode
mode_named w = if bytes_eq w (codes "check") then Some Check else (if bytes_eq w (codes "log") then Some Log else (if bytes_eq w (codes "replay") then Some Replay else None))

-- there is exactly one mode
abbrev pub only_mode : Option (List Word) → Option Mode
only_mode None = None
only_mode (Some []) = None
only_mode (Some (m ∷ [])) = mode_named m
only_mode (Some (m ∷ n ∷ ms)) = None

-- the words behind the program's name are one mode
abbrev pub mode_of : List Word → Option Mode
mode_of [] = None
mode_of (program ∷ words) = only_mode (modes words)

-- what was found is the mode of the words
pub record HasMode (words : List Word) (m : ArgMatches) : Type 0 where
  pub word : Word
  pub found : first_value (found_of m) (codes "mode") ≡ Some word
  pub mode : mode_of words ≡ mode_named word
