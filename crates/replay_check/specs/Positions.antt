-- Positions over the tables, and what comes of a line.
use Rattle.std.specs.Prelude.{◌≡◌, suc, Bool, List, [], ◌∷◌, ◌++◌, true, false, not, ◌==◌, if◌then◌else◌, Option, Some, None, string_bytes, String}
use Rattle.std.specs.declared.alloc.Global.{Global}
use Rattle.hol_terms.specs.Definition.{Definition, signature_of}
use Rattle.hol_terms.specs.Proves.{sequents_of as said_by}
use Rattle.hol_terms.specs.Text.{Text, definition_line}
use Rattle.hol_logs.specs.Line.{LogLine, IsLineOver}
use Rattle.flat_lines.specs.declared.lines.FlatLine.{FlatLine}
use Rattle.flat_lines.specs.Lines.{IsFlatLine}
use Rattle.hol_logs.specs.Position.{LogPosition, after, report_of, first_cause, is_next_base, Why, by_form, by_number, by_rule, by_unfit, by_base, by_text, by_count, by_cut}
use Rattle.hol_logs.specs.Log.{HasForm, IsBad}
use Rattle.hol_logs.proofs.Standing.{Stands}
use Rattle.flat_instances.specs.TablesGrow.{TablesGrow}
use Rattle.flat_signatures.specs.FlatNames.{plain_signature, HasSignature}
use Rattle.replay_check.specs.declared.why.Why.{Why as Cause}
use Rattle.replay_check.specs.declared.why.Why.TheVariants.{Form, Number, Rule, Unfit, Base, Text as Statement, Count, Cut, Endless}
use Rattle.replay_check.specs.declared.why.Verdict.{Verdict}
use Rattle.replay_check.specs.declared.why.Verdict.TheVariants.{Good, Bad}
use Rattle.replay_check.specs.declared.position.Position.{Position}
use Rattle.replay_check.specs.Named.{AreNamed}
use Rattle.base_count.specs.InForce.{in_force}
use Rattle.replay_check.specs.Definitions.{definitions_of, HasDefinitions, AreSequents, sequents_of}

-- what the lines so far gave
abbrev pub log_position : Position → LogPosition
log_position p = record { defs = definitions_of p.tables p.definitions.items; steps = sequents_of p.tables p.sequents.items; lines = p.lines; is_based = p.is_based; is_over = p.is_over }

-- the tables have all numbers, the signature is that of the definitions, and canonical text reads back over it
pub record IsPosition (p : Position) : Type 0 where
  pub signature : HasSignature p.tables p.signature
  pub plain : plain_signature p.tables p.signature ≡ signature_of (definitions_of p.tables p.definitions.items)
  pub definitions : HasDefinitions p.tables p.definitions.items
  pub sequents : AreSequents p.tables p.sequents.items
  pub named : AreNamed (signature_of (definitions_of p.tables p.definitions.items))
  pub stands : Stands in_force p.is_based (definitions_of p.tables p.definitions.items)

-- only the tables grew
pub record Gains (p q : Position) : Type 0 where
  pub grows : TablesGrow p.tables q.tables
  pub signature : q.signature ≡ p.signature
  pub definitions : q.definitions ≡ p.definitions
  pub sequents : q.sequents ≡ p.sequents
  pub lines : q.lines ≡ p.lines
  pub is_based : q.is_based ≡ p.is_based
  pub is_over : q.is_over ≡ p.is_over

abbrev pub reported : Option (String Global) → List Text
reported None = []
reported (Some s) = string_bytes s ∷ []

-- the cause in the definitions' words; an endless log is cut
abbrev pub cause_of : Cause → Why
cause_of Form = by_form
cause_of Number = by_number
cause_of Rule = by_rule
cause_of Unfit = by_unfit
cause_of Base = by_base
cause_of Statement = by_text
cause_of Count = by_count
cause_of Cut = by_cut
cause_of Endless = by_cut

-- what comes of a line of the log: it is good, the position is the one behind it, and this is what it prints; or it is bad
abbrev pub IsVerdict : Position → Position → LogLine → Verdict → Type 0
IsVerdict p q l (Good r) = (first_cause in_force (log_position p) l ≡ None) × IsPosition q × (log_position q ≡ after (log_position p) l) × (reported r ≡ report_of (log_position p) l)
IsVerdict p q l (Bad w) = first_cause in_force (log_position p) l ≡ Some (cause_of w)

-- and the same of the line of a text
abbrev pub IsTaken : Position → Position → Text → Verdict → Type 0
IsTaken p q text (Good r) = (l : LogLine) × HasForm (log_position p) text l × IsVerdict p q l (Good r)
IsTaken p q text (Bad w) = IsBad in_force (log_position p) text (cause_of w)

-- a place at which neither the first line nor the last was to come
pub record IsInside (p : Position) : Type 0 where
  pub not_over : p.is_over ≡ false
  pub not_first : (p.lines == 0) ≡ false

-- the line that was read stands for one over the signature
abbrev pub IsLineRead : Position → FlatLine → Type 0
IsLineRead p f = (l : LogLine) × IsFlatLine p.tables f l × IsLineOver (plain_signature p.tables p.signature) l

-- the definition stands before the base line and isn't the next base definition
abbrev pub off_base : LogPosition → Definition → Bool
off_base p d = if p.is_based then false else not (is_next_base in_force p.defs d)

-- what a definition prints, which is nothing before the base line
abbrev pub definition_report : LogPosition → Definition → List Text
definition_report p d = if p.is_based then definition_line d ∷ [] else []

-- the definition stands behind the others, and nothing else is new but entries of the tables
pub record IsDefined (p q : Position) (d : Definition) : Type 0 where
  pub position : IsPosition q
  pub grows : TablesGrow p.tables q.tables
  pub definitions : definitions_of q.tables q.definitions.items ≡ definitions_of p.tables p.definitions.items ++ d ∷ []
  pub sequents : q.sequents ≡ p.sequents
  pub lines : q.lines ≡ p.lines
  pub is_based : q.is_based ≡ p.is_based
  pub is_over : q.is_over ≡ p.is_over

-- the position with a definition, what it says, and one line more
abbrev pub with_definition : LogPosition → Definition → LogPosition
with_definition p d = record { defs = p.defs ++ d ∷ []; steps = p.steps ++ said_by d; lines = suc p.lines; is_based = p.is_based; is_over = p.is_over }

-- what comes of a definition that isn't unfit
abbrev pub IsDefinitionVerdict : Position → Position → Definition → Verdict → Type 0
IsDefinitionVerdict p q d (Good r) = (off_base (log_position p) d ≡ false) × IsPosition q × (log_position q ≡ with_definition (log_position p) d) × (reported r ≡ definition_report (log_position p) d)
IsDefinitionVerdict p q d (Bad w) = (w ≡ Base) × (off_base (log_position p) d ≡ true)
