-- The outputs of `check`: nothing, one `define`, its refusal, an input over the limit, and what isn't read. What each answers, that it
-- is sound, and how it is laid out.
use Rattle.std.proofs.Common.{◌≡◌, ◌≢◌, inl, inr, ◌+◌, ◌<◌, ◌≤◌, arith, Bool, true, false, cond, not, ◌&&◌, List, [], ◌∷◌, ◌++◌, All, filter, length, take, take_all, length-take, codes, Option, Some, None, refl, ap, sym, ◌∙◌, subst}
use Rattle.std.specs.Prelude.{nat_lt}
use Rattle.std.specs.List.{list_all, list_any, flat_map}
use Rattle.std.specs.Fmt.{decimal, digits}
use Rattle.std.proofs.lemmas.Bool.{and_parts, cases_lt}
use Rattle.std.proofs.lemmas.Bool.Decides.{nat_tests}
use Rattle.std.proofs.lemmas.List.Elements.{All-nil, All-cons}
use Rattle.hol_terms.specs.Name.{is_name, is_numbered}
use Rattle.hol_terms.specs.Typing.{tm_type}
use Rattle.hol_terms.specs.TyVars.{own_const}
use Rattle.hol_terms.specs.Signature.{is_new}
use Rattle.hol_terms.specs.Definition.{Definition, const_def, signature_of}
use Rattle.hol_terms.specs.Sequent.{eq_tm}
use Rattle.hol_terms.specs.Proves.{IsConstDef, AreConservative}
use Rattle.hol_terms.specs.Text.{Text, ty_text, tm_text, definition_line}
use Rattle.hol_terms.specs.Sound.{AreSoundAfter}
use Rattle.hol_terms.specs.Base.{base}
use Rattle.hol_terms.proofs.Defining.{const_derivable}
use Rattle.hol_terms.proofs.Typed.{IsOver-type}
use Rattle.theory_text.specs.Command.{Define, define_of}
use Rattle.theory_text.specs.Definable.{IsDefinable}
use Rattle.base_count.specs.InForce.{in_force}
use Rattle.theory_answers.specs.Answer.{limit, base_line, section_line, define_fact, stray_line, limit_line, unbuilt_line, command_lines, text_lines, answer, is_refusal, is_answer_line}
use Rattle.theory_answers.specs.Layout.{unlines, Section, section_lines, IsTheoremLine, IsEnding, accepted, refused}
use Rattle.theory_answers.specs.Answered.{IsCheck}
use Rattle.theory_answers.specs.Verdicts.{is_conservative, defined_lines}
use Rattle.theory_answers.proofs.OutputLines.{is_line, answers_read, sound_from_lines, owned_from_lines}
use Rattle.theory_answers.proofs.Lines.{line_append, segment_line, name_line, decimal_line, base_lines, is_type_line, type_is_line, type_line, is_term_line, term_is_line, term_line, fact_line}

-- ---- the answer to each kind of text

pub answer_limit : (b : Text) → limit < length b → answer b ≡ base_line ∷ limit_line ∷ []
answer_limit b h =
    let long : nat_lt limit (length b) ≡ true = grind (arith, nat_tests) in
    ap (λ t. base_line ∷ cond t (limit_line ∷ []) (text_lines b)) long

pub answer_short : (b : Text) → length b ≤ limit → answer b ≡ base_line ∷ text_lines b
answer_short b h =
    let short : nat_lt limit (length b) ≡ false = grind (arith, nat_tests) in
    ap (λ t. base_line ∷ cond t (limit_line ∷ []) (text_lines b)) short

pub text_lines-some : (b : Text) → b ≢ [] → text_lines b ≡ command_lines (define_of (signature_of (base in_force)) b)
text_lines-some [] n = absurd (n refl)
text_lines-some (c ∷ b) n = refl

answer_nothing : (b : Text) → b ≡ [] → answer b ≡ base_line ∷ []
answer_nothing b e = ap answer e

pub answer_read : (b : Text) → length b ≤ limit → b ≢ [] → (o : Option Define) → define_of (signature_of (base in_force)) b ≡ o → answer b ≡ base_line ∷ command_lines o
answer_read b h n o e = answer_short b h ∙ ap (λ ls. base_line ∷ ls) (text_lines-some b n ∙ ap command_lines e)

-- one byte past the limit settles the answer
pub answer_front : (b : Text) → answer (take (limit + 1) b) ≡ answer b
answer_front b =
    elim (cases_lt limit (length b)) [
      | inl long ↦ (let front : limit < length (take (limit + 1) b) = omega (arith, length-take (limit + 1) b) in
          answer_limit (take (limit + 1) b) front ∙ sym (answer_limit b long))
      | inr short ↦ ap answer (take_all (limit + 1) b (omega arith))
    ]

-- ---- outputs from their lines

-- lines that answer the text are an output to it
check_lines : (b : Text) (decided : Bool) (ls : List Text) (sections : List Section) (ending : List Text) → list_all is_line ls ≡ true → filter is_answer_line ls ≡ answer b
    → list_any is_refusal (filter is_answer_line ls) ≡ decided → AreSoundAfter (base in_force) ls → ls ≡ base_line ∷ flat_map section_lines sections ++ ending
    → All (λ s. All IsTheoremLine s.theorems) sections → IsEnding ending → IsCheck b (unlines ls) decided
check_lines b decided ls sections ending l a r s e t i = record {
  answered = answers_read ls l ∙ a;
  decided = ap (list_any is_refusal) (sym a) ∙ r;
  sound = sound_from_lines (base in_force) ls l s;
  owned = owned_from_lines sections ending ls l e t i;
}

abbrev nothing_lines : List Text
nothing_lines = base_line ∷ []

abbrev refusal_lines : Text → List Text
refusal_lines line = base_line ∷ line ∷ []

base_is_line : is_line base_line ≡ true
unfolding digits
base_is_line = refl

two_lines : (a b : Text) → is_line a ≡ true → is_line b ≡ true → list_all is_line (a ∷ b ∷ []) ≡ true
two_lines a b e f = rw (e, f) refl

four_lines : (a b c d : Text) → is_line a ≡ true → is_line b ≡ true → is_line c ≡ true → is_line d ≡ true → list_all is_line (a ∷ b ∷ c ∷ d ∷ []) ≡ true
four_lines a b c d e f g h = rw (e, f, g, h) refl

line_of_four : (a b c d : Text) → is_line a ≡ true → is_line b ≡ true → is_line c ≡ true → is_line d ≡ true → is_line (a ++ b ++ c ++ d) ≡ true
line_of_four a b c d p q r s = line_append (a ++ b ++ c) d (line_append (a ++ b) c (line_append a b p q) r) s

nothing_are_lines : list_all is_line nothing_lines ≡ true
unfolding digits
nothing_are_lines = refl

-- ---- a definition

-- the lines of a refused definition
abbrev pub refused_lines : Define → List Text
refused_lines d = base_line ∷ stray_line d ∷ []

record AreLines (d : Define) : Type 0 where
  name : is_line d.name ≡ true
  ty : is_type_line (tm_type d.body) ≡ true
  body : is_term_line d.body ≡ true
  stray : is_line d.stray ≡ true

stray_is_line : (d : Define) → IsDefinable (signature_of (base in_force)) d → is_line d.stray ≡ true
stray_is_line d h = elim h.stray [ inl e ↦ ap is_line e | inr s ↦ segment_line d.stray s ]

are_lines : (d : Define) → IsDefinable (signature_of (base in_force)) d → AreLines d
are_lines d h =
    let s = signature_of (base in_force) in
    let named = and_parts (is_name d.name && not (is_numbered d.name)) (is_new s d.name) h.named in
    record {
      name = name_line d.name (and_parts (is_name d.name) (not (is_numbered d.name)) named.0).0;
      ty = type_is_line s (tm_type d.body) base_lines (IsOver-type s refl [] d.body h.typed);
      body = term_is_line s [] d.body base_lines h.typed;
      stray = stray_is_line d h;
    }

defined_are_lines : (d : Define) → AreLines d → list_all is_line (defined_lines d) ≡ true
defined_are_lines d l =
    let ty : is_line (ty_text (tm_type d.body)) ≡ true = type_line (tm_type d.body) l.ty in
    let named : is_line (d.name ++ codes ".def") ≡ true = line_append d.name (codes ".def") l.name refl in
    let definition : is_line (definition_line (const_def d.name d.body)) ≡ true =
    line_append (codes "def " ++ d.name ++ codes " : " ++ ty_text (tm_type d.body) ++ codes " = ") (tm_text d.body)
    (line_append (codes "def " ++ d.name ++ codes " : " ++ ty_text (tm_type d.body)) (codes " = ") (line_of_four (codes "def ") d.name (codes " : ") (ty_text (tm_type d.body)) refl l.name refl ty) refl) (term_line d.body l.body) in
    let fact : is_line (define_fact d) ≡ true =
    line_of_four (codes "thm ") (d.name ++ codes ".def") (codes " : ") (tm_text (eq_tm (own_const d.name (tm_type d.body)) d.body)) refl named refl (fact_line d.name d.body l.name l.ty l.body) in
    four_lines base_line (section_line d) (definition_line (const_def d.name d.body)) (define_fact d) base_is_line l.name definition fact

refused_are_lines : (d : Define) → AreLines d → list_all is_line (refused_lines d) ≡ true
refused_are_lines d l =
    two_lines base_line (stray_line d) base_is_line (line_of_four (codes "refused conservativity '") d.stray (codes " ") (decimal d.stray_place) refl l.stray refl (decimal_line d.stray_place))

-- the section of a `define`
abbrev section_of : Define → Section
section_of d = record { number = 1; name = d.name; body = d.body; theorems = define_fact d ∷ [] }

section_laid_out : (d : Define) → defined_lines d ≡ base_line ∷ flat_map section_lines (section_of d ∷ []) ++ []
unfolding digits
section_laid_out d = refl

const_def_of : (d : Define) → IsDefinable (signature_of (base in_force)) d → is_conservative d ≡ true → IsConstDef (base in_force) d.name d.body
const_def_of d h c = record { named = h.named; closed = h.closed; covered = c; typed = h.typed }

section_sound : (ds : List Definition) (d : Define) → AreConservative ds → IsConstDef ds d.name d.body → AreSoundAfter ds (definition_line (const_def d.name d.body) ∷ define_fact d ∷ [])
section_sound ds d h k = (const_def d.name d.body, refl, k, (d.name ++ codes ".def", eq_tm (own_const d.name (tm_type d.body)) d.body, refl, const_derivable ds d.name d.body h k, tt))

-- ---- the outputs

pub check_limit : (b out : Text) (r : Bool) → limit < length b → out ≡ unlines (base_line ∷ limit_line ∷ []) → r ≡ true → IsCheck b out r
check_limit b out r h e f =
    subst (λ o. IsCheck b o r) (sym e) (check_lines b r (refusal_lines limit_line) [] (limit_line ∷ []) (two_lines base_line limit_line base_is_line refl) (sym (answer_limit b h)) (sym f) tt refl (All-nil _) (refused limit_line refl))

pub check_nothing : (b out : Text) → b ≡ [] → out ≡ unlines (base_line ∷ []) → IsCheck b out false
check_nothing b out n e =
    subst (λ o. IsCheck b o false) (sym e) (check_lines b false nothing_lines [] [] nothing_are_lines (sym (answer_nothing b n)) refl tt refl (All-nil _) accepted)

pub check_unbuilt : (b out : Text) (r : Bool) → length b ≤ limit → b ≢ [] → define_of (signature_of (base in_force)) b ≡ None → out ≡ unlines (base_line ∷ unbuilt_line ∷ []) → r ≡ true → IsCheck b out r
check_unbuilt b out r h n o e f =
    subst (λ o. IsCheck b o r) (sym e) (check_lines b r (refusal_lines unbuilt_line) [] (unbuilt_line ∷ []) (two_lines base_line unbuilt_line base_is_line refl) (sym (answer_read b h n None o)) (sym f) tt refl (All-nil _) (refused unbuilt_line refl))

pub defined : (b : Text) (d : Define) → AreConservative (base in_force) → IsDefinable (signature_of (base in_force)) d → is_conservative d ≡ true → answer b ≡ base_line ∷ command_lines (Some d) → IsCheck b (unlines (defined_lines d)) false
defined b d k h c a =
    let same : base_line ∷ section_line d ∷ define_fact d ∷ [] ≡ answer b = sym (a ∙ ap (λ (t : Bool). base_line ∷ cond t (section_line d ∷ define_fact d ∷ []) (stray_line d ∷ [])) c) in
    check_lines b false (defined_lines d) (section_of d ∷ []) [] (defined_are_lines d (are_lines d h)) same refl (section_sound (base in_force) d k (const_def_of d h c)) (section_laid_out d)
    (All-cons (λ s. All IsTheoremLine s.theorems) (section_of d) [] (All-cons IsTheoremLine (define_fact d) [] refl (All-nil IsTheoremLine)) (All-nil _))
    accepted

pub strayed : (b : Text) (d : Define) → IsDefinable (signature_of (base in_force)) d → is_conservative d ≡ false → answer b ≡ base_line ∷ command_lines (Some d) → IsCheck b (unlines (refused_lines d)) true
strayed b d h c a =
    let same : base_line ∷ stray_line d ∷ [] ≡ answer b = sym (a ∙ ap (λ (t : Bool). base_line ∷ cond t (section_line d ∷ define_fact d ∷ []) (stray_line d ∷ [])) c) in
    check_lines b true (refused_lines d) [] (stray_line d ∷ []) (refused_are_lines d (are_lines d h)) same refl tt refl (All-nil _) (refused (stray_line d) refl)
