-- What a table gives.
use Rattle.std.specs.Prelude.{List, [], ◌∷◌, ◌++◌, Option, Some, None}
use Rattle.std.specs.Str.Lines.{lines}
use Rattle.hol_terms.specs.Ty.{Ty}
use Rattle.hol_terms.specs.Tm.{Tm}
use Rattle.hol_terms.specs.Definition.{Definition, signature_of}
use Rattle.hol_terms.specs.Base.{base_definitions}
use Rattle.hol_terms.specs.Sequent.{Sequent, seq}
use Rattle.hol_terms.specs.Reading.{Reading, reads, no_syntax, unknown, ill_typed, reading_of_type, reading_of_term}
use Rattle.hol_terms.specs.Text.{Text}
use Rattle.kernel_lines.specs.Lines.{on, last}
use Rattle.script_core.specs.Words.{kind_named, first_word, after_word, words}
use Rattle.script_core.specs.Steps.{Registers, inferred}
use Rattle.script_core.specs.declared.rule.LineKind.{LineKind}
use Rattle.script_core.specs.declared.rule.LineKind.TheVariants.{TypeText, TermText, Step}

-- what a text reads as
abbrev pub read : {A : Type 0} → Reading A → Option A
read (reads x) = Some x
read (no_syntax p) = None
read (unknown n p) = None
read (ill_typed p) = None

abbrev pub with_type : Registers → Ty → Registers
with_type r y = record { types = r.types ++ y ∷ []; terms = r.terms; thms = r.thms }

abbrev pub with_term : Registers → Tm → Registers
with_term r t = record { types = r.types; terms = r.terms ++ t ∷ []; thms = r.thms }

abbrev pub with_thm : Registers → Sequent → Registers
with_thm r a = record { types = r.types; terms = r.terms; thms = r.thms ++ a ∷ [] }

-- the registers after a line of a kind, by the text behind its first word
abbrev pub stepped : List Definition → Registers → LineKind → Text → Option Registers
stepped ds r TypeText text = on (read (reading_of_type (signature_of ds) text)) (λ y. Some (with_type r y))
stepped ds r TermText text = on (read (reading_of_term (signature_of ds) text)) (λ t. Some (with_term r t))
stepped ds r (Step rule) text = on (inferred ds r rule (words text)) (λ a. Some (with_thm r a))

-- the registers after a line
abbrev pub line_step : List Definition → Registers → Text → Option Registers
line_step ds r line = on (kind_named (first_word line)) (λ k. stepped ds r k (after_word line))

-- the last sequent of all, after the lines
abbrev pub run : List Definition → Registers → List Text → Option Sequent
run ds r [] = last r.thms
run ds r (line ∷ more) = on (line_step ds r line) (λ q. run ds q more)

-- `|- p`, where p is what the text of a fact reads as over the base definitions
abbrev pub fact_sequent : Text → Option Sequent
fact_sequent fact = on (read (reading_of_term (signature_of base_definitions) fact)) (λ p. Some (seq [] p))

-- the sequents of the facts, each given by its text, after those found
abbrev pub facts_put : List Sequent → List Text → Option (List Sequent)
facts_put found [] = Some found
facts_put found (fact ∷ facts) = on (fact_sequent fact) (λ a. facts_put (found ++ a ∷ []) facts)

-- the same of a table, which has at least one line
abbrev pub run_whole : List Definition → Registers → List Text → Option Sequent
run_whole ds r [] = None
run_whole ds r (line ∷ more) = run ds r (line ∷ more)

-- the last sequent of a table over these definitions, facts, and given types, terms and sequents
abbrev pub table_sequent : List Definition → List Text → Registers → Text → Option Sequent
table_sequent ds facts given table =
    on (facts_put [] facts) (λ hs. run_whole ds (record { types = given.types; terms = given.terms; thms = hs ++ given.thms }) (lines table))
