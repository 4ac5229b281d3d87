-- Short logs, line by line.
use Rattle.std.proofs.Common.{◌≡◌, ℕ, true, List, [], ◌∷◌, ◌++◌, refl, codes}
use Rattle.hol_terms.specs.Tm.{Tm, FreeVar, tm_free}
use Rattle.hol_terms.specs.Typing.{tm_type}
use Rattle.hol_terms.specs.TyVars.{own_const}
use Rattle.hol_terms.specs.Notation.{ix, lam}
use Rattle.hol_terms.specs.Signature.{IsTyOver, IsOver}
use Rattle.hol_terms.specs.Sequent.{eq_tm}
use Rattle.hol_terms.specs.Proves.{IsConstDef}
use Rattle.hol_terms.proofs.AsciiNames.{is_segment_from_ascii}
use Rattle.hol_terms.proofs.Defining.{const_proves}
use Rattle.hol_terms.proofs.Weaken.{Proves-typed}
use Rattle.std.specs.Prelude.{take}
use Rattle.std.specs.Str.{is_utf8, chars}
use lib.Utf8.{encode}
use Rattle.std.specs.Fmt.{digits}
use Rattle.hol_terms.specs.Name.{Name}
use Rattle.hol_terms.specs.Definition.{bool_ty, alpha, const_def, signature_of}
use Rattle.hol_terms.specs.Rules.{same}
use Rattle.hol_terms.specs.Text.{Text}
use Rattle.hol_terms.specs.Base.{base_definitions}
use Rattle.hol_terms.proofs.AsciiNames.{is_name_from_ascii}
use Rattle.hol_terms.proofs.BaseOpened.{opened_bases}
use Rattle.hol_logs.specs.Step.{numeral, step_refl, step_trans}
use Rattle.hol_logs.specs.Line.{line_first, line_step, line_const, line_base, line_section, line_name, line_end, is_section}
use Rattle.hol_logs.specs.Position.{LogPosition, start_position, after, by_form, by_number, by_rule, by_base, by_cut}
use Rattle.hol_logs.specs.Log.{unlines, IsGood, IsBad, a_cause, Reads, no_line, one_more, IsGoodLog, good_log, IsBadLog, bad_line, cut_off}

abbrev first : Text
first = codes "hbnf-log 1"

abbrev first_read : LogPosition
first_read = after start_position line_first

begins : (n : ℕ) → Reads n (first ∷ []) first_read []
begins n = one_more [] [] start_position first line_first no_line (record { form = record { reads = refl; over = tt }; no_cause = refl })

pub empty_cut : (n : ℕ) → IsBadLog n [] [] 1 by_cut
empty_cut n = cut_off start_position [] no_line refl

-- ---- ends

early_end : (n : ℕ) → IsBad n first_read (codes "end 1") by_base
unfolding numeral
early_end n = a_cause (line_end 1) by_base (record { reads = refl; over = tt }) refl

pub end_before_base : (n : ℕ) → IsBadLog n (unlines (first ∷ codes "end 1" ∷ [])) [] 2 by_base
end_before_base n = bad_line (first ∷ []) [] [] first_read (codes "end 1") by_base refl (begins n) (early_end n)

no_first : (n : ℕ) → IsBad n start_position (codes "end 0") by_form
unfolding numeral
no_first n = a_cause (line_end 0) by_form (record { reads = refl; over = tt }) refl

pub other_first : (n : ℕ) → IsBadLog n (unlines (codes "end 0" ∷ [])) [] 1 by_form
other_first n = bad_line [] [] [] start_position (codes "end 0") by_form refl no_line (no_first n)

-- ---- steps

abbrev boolean : Name → FreeVar
boolean n = record { name = n; ty = bool_ty }

abbrev a_read : LogPosition
a_read = after first_read (line_step (step_refl (tm_free (boolean (codes "a")))))

abbrev b_read : LogPosition
b_read = after a_read (line_step (step_refl (tm_free (boolean (codes "b")))))

a_good : (n : ℕ) → IsGood n first_read (codes "refl [a:bool]") (line_step (step_refl (tm_free (boolean (codes "a")))))
a_good n = record { form = record { reads = refl; over = (is_name_from_ascii (codes "a") refl, (refl, tt)) }; no_cause = refl }

b_good : (n : ℕ) → IsGood n a_read (codes "refl [b:bool]") (line_step (step_refl (tm_free (boolean (codes "b")))))
b_good n = record { form = record { reads = refl; over = (is_name_from_ascii (codes "b") refl, (refl, tt)) }; no_cause = refl }

reads_a : (n : ℕ) → Reads n (first ∷ codes "refl [a:bool]" ∷ []) a_read []
reads_a n = one_more (first ∷ []) [] first_read (codes "refl [a:bool]") (line_step (step_refl (tm_free (boolean (codes "a"))))) (begins n) (a_good n)

reads_b : (n : ℕ) → Reads n (first ∷ codes "refl [a:bool]" ∷ codes "refl [b:bool]" ∷ []) b_read []
reads_b n = one_more (first ∷ codes "refl [a:bool]" ∷ []) [] a_read (codes "refl [b:bool]") (line_step (step_refl (tm_free (boolean (codes "b"))))) (reads_a n) (b_good n)

no_step : (n : ℕ) → IsBad n a_read (codes "trans 0 1") by_number
unfolding numeral
no_step n = a_cause (line_step (step_trans 0 1)) by_number (record { reads = refl; over = tt }) refl

pub later_step : (n : ℕ) → IsBadLog n (unlines (first ∷ codes "refl [a:bool]" ∷ codes "trans 0 1" ∷ [])) [] 3 by_number
later_step n = bad_line (first ∷ codes "refl [a:bool]" ∷ []) [] [] a_read (codes "trans 0 1") by_number refl (reads_a n) (no_step n)

no_rule : (n : ℕ) → IsBad n b_read (codes "trans 0 1") by_rule
unfolding numeral same
no_rule n = a_cause (line_step (step_trans 0 1)) by_rule (record { reads = refl; over = tt }) refl

pub rule_fails : (n : ℕ) → IsBadLog n (unlines (first ∷ codes "refl [a:bool]" ∷ codes "refl [b:bool]" ∷ codes "trans 0 1" ∷ [])) [] 4 by_rule
rule_fails n = bad_line (first ∷ codes "refl [a:bool]" ∷ codes "refl [b:bool]" ∷ []) [] [] b_read (codes "trans 0 1") by_rule refl (reads_b n) (no_rule n)

-- ---- a good log

abbrev base_read : LogPosition
base_read = after first_read (line_base 0)

base_good : IsGood 0 first_read (codes "base 0") (line_base 0)
unfolding numeral opened_bases base_definitions
base_good = record { form = record { reads = refl; over = tt }; no_cause = refl }

end_good : IsGood 0 base_read (codes "end 2") (line_end 2)
unfolding numeral
end_good = record { form = record { reads = refl; over = tt }; no_cause = refl }

reads_base : Reads 0 (first ∷ codes "base 0" ∷ []) base_read (codes "base 0" ∷ [])
unfolding numeral
reads_base = one_more (first ∷ []) [] first_read (codes "base 0") (line_base 0) (begins 0) base_good

reads_end : Reads 0 (first ∷ codes "base 0" ∷ codes "end 2" ∷ []) (after base_read (line_end 2)) (codes "base 0" ∷ [])
reads_end = one_more (first ∷ codes "base 0" ∷ []) (codes "base 0" ∷ []) base_read (codes "end 2") (line_end 2) reads_base end_good

pub shortest_good : IsGoodLog 0 (unlines (first ∷ codes "base 0" ∷ codes "end 2" ∷ [])) (unlines (codes "base 0" ∷ []))
shortest_good = good_log (after base_read (line_end 2)) (codes "base 0" ∷ []) reads_end refl

pub shortest_cut : IsBadLog 0 (unlines (first ∷ codes "base 0" ∷ []) ++ codes "end 2") (unlines (codes "base 0" ∷ [])) 4 by_cut
shortest_cut = cut_off (after base_read (line_end 2)) (codes "base 0" ∷ []) reads_end refl

-- ---- a log of one definition

abbrev ident : Name
ident = codes "ident"

abbrev identity : Tm
identity = lam alpha (ix 0 alpha)

abbrev equation : Tm
equation = eq_tm (own_const ident (tm_type identity)) identity

abbrev section_read : LogPosition
section_read = after base_read (line_section (codes "command 1 define ident"))

abbrev const_read : LogPosition
const_read = after section_read (line_const ident identity)

abbrev name_read : LogPosition
name_read = after const_read (line_name (codes "ident.def") 0 equation)

alpha_over : IsTyOver (signature_of []) alpha
alpha_over = is_segment_from_ascii (codes "a") refl

identity_over : IsOver (signature_of []) [] identity
identity_over = (alpha_over, (refl, alpha_over))

ident_fits : IsConstDef [] ident identity
ident_fits = record { named = rw (is_name_from_ascii (codes "ident") refl) refl; closed = refl; covered = refl; typed = identity_over }

equation_over : IsOver (signature_of (const_def ident identity ∷ [])) [] equation
equation_over = (Proves-typed (const_proves [] ident identity ident_fits)).concl_is.0

section_is : is_section (codes "command 1 define ident") ≡ true
unfolding is_utf8 chars encode
section_is = refl

section_good : IsGood 0 base_read (codes "section command 1 define ident") (line_section (codes "command 1 define ident"))
section_good = record { form = record { reads = refl; over = section_is }; no_cause = refl }

const_good : IsGood 0 section_read (codes "const ident := \\x0:'a. x0") (line_const ident identity)
unfolding digits
const_good = record { form = record { reads = refl; over = (is_name_from_ascii (codes "ident") refl, identity_over) }; no_cause = rw (is_name_from_ascii (codes "ident") refl) refl }

name_good : IsGood 0 const_read (codes "name ident.def 0 ident{'a} = (\\x0:'a. x0)") (line_name (codes "ident.def") 0 equation)
unfolding digits numeral same
name_good = record { form = record { reads = refl; over = (is_name_from_ascii (codes "ident.def") refl, equation_over) }; no_cause = refl }

last_good : IsGood 0 name_read (codes "end 5") (line_end 5)
unfolding numeral
last_good = record { form = record { reads = refl; over = tt }; no_cause = refl }

abbrev one_definition : List Text
one_definition =
    first ∷ codes "base 0" ∷ codes "section command 1 define ident" ∷ codes "const ident := \\x0:'a. x0" ∷ codes "name ident.def 0 ident{'a} = (\\x0:'a. x0)" ∷ codes "end 5" ∷ []

abbrev one_report : List Text
one_report = codes "base 0" ∷ codes "command 1 define ident" ∷ codes "def ident : 'a -> 'a = \\x0:'a. x0" ∷ codes "thm ident.def : ident{'a} = (\\x0:'a. x0)" ∷ []

reads_section : Reads 0 (take 3 one_definition) section_read (take 2 one_report)
reads_section = one_more (take 2 one_definition) (take 1 one_report) base_read (codes "section command 1 define ident") (line_section (codes "command 1 define ident")) reads_base section_good

reads_const : Reads 0 (take 4 one_definition) const_read (take 3 one_report)
unfolding digits
reads_const = one_more (take 3 one_definition) (take 2 one_report) section_read (codes "const ident := \\x0:'a. x0") (line_const ident identity) reads_section const_good

reads_name : Reads 0 (take 5 one_definition) name_read one_report
unfolding digits
reads_name = one_more (take 4 one_definition) (take 3 one_report) const_read (codes "name ident.def 0 ident{'a} = (\\x0:'a. x0)") (line_name (codes "ident.def") 0 equation) reads_const name_good

reads_last : Reads 0 one_definition (after name_read (line_end 5)) one_report
reads_last = one_more (take 5 one_definition) one_report name_read (codes "end 5") (line_end 5) reads_name last_good

pub one_definition_good : IsGoodLog 0 (unlines one_definition) (unlines one_report)
one_definition_good = good_log (after name_read (line_end 5)) one_report reads_last refl
