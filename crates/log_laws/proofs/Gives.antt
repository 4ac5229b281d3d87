-- What a good line gives: definitions that are conservative, sequents that follow, and report lines that are sound.
use Rattle.std.proofs.Common.{◌≡◌, ℕ, zero, suc, Bool, true, false, cond, not, ◌&&◌, ◌==◌, List, [], ◌∷◌, ◌++◌, Option, Some, None, codes, length, take, drop, refl, sym, ap, ◌∙◌, subst, append-nil}
use Rattle.std.specs.Prelude.{option_to_list}
use Rattle.std.specs.List.{list_all}
use Rattle.std.proofs.lemmas.Bool.{and_parts, and_from, or_cases, not-false}
use Rattle.std.proofs.lemmas.List.{take-append-drop}
use Rattle.std.proofs.lemmas.Slice.Eq.{bytes_eq-Decides}
use Rattle.std.proofs.Common.{inl, inr}
use Rattle.std.specs.Str.{is_utf8}
use Rattle.hol_terms.specs.Name.{Name}
use Rattle.hol_terms.specs.Tm.{Tm}
use Rattle.hol_terms.specs.Definition.{Definition, const_def, type_def, signature_of}
use Rattle.hol_terms.specs.Sequent.{Sequent, seq}
use Rattle.hol_terms.specs.Base.{base}
use Rattle.hol_terms.specs.Proves.{Proves, IsConstDef, IsTypeDef, IsConservative, AreConservative, AreConservativeAfter, IsDerivable, sequents_of, abs_rep, rep_abs}
use Rattle.hol_terms.specs.Text.{Text, definition_line, theorem_line}
use Rattle.hol_terms.specs.Sound.{begins_with, LineKind, other, kind_of, by_kind, AreSoundAfter}
use Rattle.hol_terms.proofs.Defining.{const_proves}
use Rattle.hol_terms.proofs.TypeDefining.{type_proves}
use Rattle.hol_terms.proofs.Weaken.{Proves-append}
use Rattle.hol_logs.specs.Step.{LogStep, numeral, sequent_at, are_base, step_gives}
use Rattle.hol_logs.specs.Line.{LogLine, line_first, line_step, line_const, line_type, line_base, line_section, line_name, line_end, line_stop, line_text, is_section, is_word, IsLineOver}
use Rattle.hol_logs.specs.Position.{LogPosition, predicate_of, definitions_by, sequents_by, is_base_line, report_of}
use Rattle.log_laws.proofs.Lacking.{numeral_lacks}
use Rattle.log_laws.proofs.Lines.{is_line, line_append, foreign}
use Rattle.log_laws.proofs.DefinitionLines.{const_line, type_def_line, theorem_is_line}
use Rattle.hol_logs.proofs.BaseStands.{base_is}
use Rattle.log_laws.proofs.Fit.{const_fits, type_fits, stated}
use Rattle.log_laws.proofs.StepsProve.{AllFollow, one_there, step_follows}
use Rattle.hol_logs.proofs.Causes.{HasNoCause}

-- What the report lines say, where the definitions are ds and es are added. Behind the base line they are sound; the base line
-- itself leads from the base definitions; before it nothing is printed.
abbrev pub GoesOn : ℕ → Bool → Bool → List Definition → List Definition → List Text → Type 0
GoesOn n true based ds es new = (ls : List Text) → AreSoundAfter (ds ++ es) ls → AreSoundAfter ds (new ++ ls)
GoesOn n false true ds es new = (ls : List Text) → AreSoundAfter (ds ++ es) ls → AreSoundAfter (base n) (new ++ ls)
GoesOn n false false ds es new = new ≡ []

pub record Gives (n : ℕ) (ds : List Definition) (before based : Bool) (es : List Definition) (cs : List Sequent) (new : List Text) : Type 0 where
  pub conservative : AreConservativeAfter ds es
  pub follow : AllFollow (ds ++ es) cs
  pub lines : list_all is_line new ≡ true
  pub sound : GoesOn n before based ds es new

-- ---- sequents

none_follow : (ds : List Definition) → AllFollow ds []
none_follow ds i a e = cc

some_is : {A : Type 0} (x y : A) → Some x ≡ Some y → x ≡ y
some_is x y e = cc

first_follows : (ds : List Definition) (c : Sequent) (cs : List Sequent) → Proves ds c → AllFollow ds cs → AllFollow ds (c ∷ cs)
first_follows ds c cs p h zero a e = subst (Proves ds) (some_is c a e) p
first_follows ds c cs p h (suc i) a e = h i a e

-- ---- lines that make no definition

unchanged : (ds : List Definition) (ls : List Text) → AreSoundAfter (ds ++ []) ls → AreSoundAfter ds ls
unchanged ds ls h = subst (λ es. AreSoundAfter es ls) (append-nil ds) h

-- such a line, which prints nothing
silent : (n : ℕ) (ds : List Definition) (b : Bool) → GoesOn n b false ds [] (cond b [] [])
silent n ds true = λ ls h. unchanged ds ls h
silent n ds false = refl

no_lines : (b : Bool) → list_all is_line (cond b [] []) ≡ true
no_lines true = refl
no_lines false = refl

-- one that prints a line of another kind than definitions and theorems
other_sound : (ds : List Definition) (line : Text) (ls : List Text) → kind_of line ≡ other → AreSoundAfter (ds ++ []) ls → AreSoundAfter ds (line ∷ ls)
other_sound ds line ls e h = at (kind_of line) e
  where
    at : (k : LineKind) → k ≡ other → by_kind k ((d : Definition) × (line ≡ definition_line d) × IsConservative ds d × AreSoundAfter (ds ++ d ∷ []) ls)
        ((c : Name) × (p : Tm) × (line ≡ theorem_line c p) × IsDerivable ds (seq [] p) × AreSoundAfter ds ls) (AreSoundAfter ds ls)
    at k q = subst (λ j. by_kind j ((d : Definition) × (line ≡ definition_line d) × IsConservative ds d × AreSoundAfter (ds ++ d ∷ []) ls)
        ((c : Name) × (p : Tm) × (line ≡ theorem_line c p) × IsDerivable ds (seq [] p) × AreSoundAfter ds ls) (AreSoundAfter ds ls)) (sym q) (unchanged ds ls h)

one_line : (t : Text) → is_line t ≡ true → list_all is_line (t ∷ []) ≡ true
one_line t h = and_from (is_line t) true h refl

-- a line that comes only behind the base line
behind : (n : ℕ) (ds : List Definition) (b : Bool) (t : Text) → cond b false true ≡ false → ((ls : List Text) → AreSoundAfter (ds ++ []) ls → AreSoundAfter ds (t ∷ ls)) → GoesOn n b false ds [] (t ∷ [])
behind n ds true t e s = s
behind n ds false t e s = cc

-- ---- steps

step_given : (n : ℕ) (p : LogPosition) (s : LogStep) → AllFollow p.defs p.steps → IsLineOver (signature_of p.defs) (line_step s) → HasNoCause n p (line_step s)
    → Gives n p.defs p.is_based false [] (option_to_list (step_gives p.defs p.steps s)) (cond p.is_based [] [])
step_given n p s had o h = record {
  conservative = tt;
  follow = at (step_gives p.defs p.steps s) refl;
  lines = no_lines p.is_based;
  sound = silent n p.defs p.is_based;
}
  where
    at : (r : Option Sequent) → step_gives p.defs p.steps s ≡ r → AllFollow (p.defs ++ []) (option_to_list r)
    at None e = none_follow (p.defs ++ [])
    at (Some c) e = first_follows (p.defs ++ []) c [] (Proves-append [] (step_follows p.defs p.steps s c had o h.numbered e)) (none_follow (p.defs ++ []))

-- ---- definitions

-- a definition, which is printed behind the base line
defined : (n : ℕ) (ds : List Definition) (b : Bool) (d : Definition) → IsConservative ds d → ((ls : List Text) → AreSoundAfter (ds ++ d ∷ []) ls → AreSoundAfter ds (definition_line d ∷ ls))
    → GoesOn n b false ds (d ∷ []) (cond b (definition_line d ∷ []) [])
defined n ds true d c s = s
defined n ds false d c s = refl

defined_lines : (b : Bool) (t : Text) → is_line t ≡ true → list_all is_line (cond b (t ∷ []) []) ≡ true
defined_lines true t h = one_line t h
defined_lines false t h = refl

const_given : (n : ℕ) (ds : List Definition) (b : Bool) (c : Name) (t : Tm) → AreConservative ds → IsConstDef ds c t
    → Gives n ds b false (const_def c t ∷ []) (sequents_of (const_def c t) ++ []) (cond b (definition_line (const_def c t) ∷ []) [])
const_given n ds b c t h d = record {
  conservative = (d, tt);
  follow = first_follows (ds ++ const_def c t ∷ []) _ [] (const_proves ds c t d) (none_follow (ds ++ const_def c t ∷ []));
  lines = defined_lines b (definition_line (const_def c t)) (const_line ds c t h d);
  sound = defined n ds b (const_def c t) d (λ ls s. (const_def c t, refl, d, s));
}

type_given : (n : ℕ) (ds : List Definition) (b : Bool) (c : Name) (p : Tm) → AreConservative ds → IsTypeDef ds c p
    → Gives n ds b false (type_def c p ∷ []) (sequents_of (type_def c p) ++ []) (cond b (definition_line (type_def c p) ∷ []) [])
type_given n ds b c p h d =
    let says = type_proves ds c p d in
    let es : List Definition = ds ++ type_def c p ∷ [] in
    record {
      conservative = (d, tt);
      follow = first_follows es (seq [] (abs_rep c p)) (seq [] (rep_abs c p) ∷ []) says.0 (first_follows es (seq [] (rep_abs c p)) [] says.1 (none_follow es));
      lines = defined_lines b (definition_line (type_def c p)) (type_def_line ds c p h d);
      sound = defined n ds b (type_def c p) d (λ ls s. (type_def c p, refl, d, s));
    }

-- ---- the base line

base_given : (n : ℕ) (p : LogPosition) (m : ℕ) → HasNoCause n p (line_base m) → Gives n p.defs p.is_based true [] [] (line_text (line_base m) ∷ [])
base_given n p m h = record {
  conservative = tt;
  follow = none_follow (p.defs ++ []);
  lines = one_line (codes "base " ++ numeral m) (line_append (codes "base ") (numeral m) refl (numeral_lacks 10 foreign m));
  sound = at p.is_based h.based;
}
  where
    at : (b : Bool) → cond b true (not ((m == n) && are_base n p.defs)) ≡ false → GoesOn n b true p.defs [] (line_text (line_base m) ∷ [])
    at true e = cc
    at false e =
        let exact = base_is n p.defs (and_parts (m == n) (are_base n p.defs) (not-false _ e)).1 in
        λ ls s. subst (λ ds. AreSoundAfter ds ls) (append-nil p.defs ∙ exact) s

-- ---- sections, theorems and refusals

begun : (front t : Text) → begins_with front t ≡ true → t ≡ front ++ drop (length front) t
begun front t e = sym (take-append-drop (length front) t) ∙ ap (λ f. f ++ drop (length front) t) ((bytes_eq-Decides (take (length front) t) front).0 e)

section_kind : (t : Text) → is_section t ≡ true → kind_of t ≡ other
section_kind t h =
    elim (or_cases (begins_with (codes "command ") t) (begins_with (codes "plugin ") t) (and_parts (is_utf8 t && is_line t) _ h).1) [
      | inl c ↦ ap kind_of (begun (codes "command ") t c)
      | inr c ↦ ap kind_of (begun (codes "plugin ") t c)
    ]

section_given : (n : ℕ) (p : LogPosition) (t : Text) → is_section t ≡ true → HasNoCause n p (line_section t) → Gives n p.defs p.is_based false [] [] (t ∷ [])
section_given n p t o h = record {
  conservative = tt;
  follow = none_follow (p.defs ++ []);
  lines = one_line t (and_parts (is_utf8 t) (is_line t) (and_parts (is_utf8 t && is_line t) _ o).0).1;
  sound = behind n p.defs p.is_based t h.based (λ ls s. other_sound p.defs t ls (section_kind t o) s);
}

name_given : (n : ℕ) (p : LogPosition) (c : Name) (i : ℕ) (t : Tm) → AreConservative p.defs → AllFollow p.defs p.steps → IsLineOver (signature_of p.defs) (line_name c i t)
    → HasNoCause n p (line_name c i t) → Gives n p.defs p.is_based false [] [] (theorem_line c t ∷ [])
name_given n p c i t k had o h =
    let says = stated (sequent_at p.steps i) t (not-false _ h.stated) in
    let proof : Proves p.defs (seq [] t) = subst (Proves p.defs) says (one_there p.defs p.steps i had h.numbered) in
    record {
      conservative = tt;
      follow = none_follow (p.defs ++ []);
      lines = one_line (theorem_line c t) (theorem_is_line p.defs c t k o.0 o.1);
      sound = behind n p.defs p.is_based (theorem_line c t) h.based (λ ls s. (c, t, refl, record { conservative = k; proof = proof }, unchanged p.defs ls s));
    }

word_line : (w : Text) → list_all (λ b. not (b == 32) && not (b == 10)) w ≡ true → is_line w ≡ true
word_line [] h = refl
word_line (b ∷ w) h =
    let p = and_parts (not (b == 32) && not (b == 10)) (list_all (λ b. not (b == 32) && not (b == 10)) w) h in
    and_from (not (b == 10)) (is_line w) (and_parts (not (b == 32)) (not (b == 10)) p.0).1 (word_line w p.1)

word_is_line : (w : Text) → is_word w ≡ true → is_line w ≡ true
word_is_line w h = word_line w (and_parts (is_utf8 w && not (length w == 0)) _ h).1

abbrev refusal : Text → Text → ℕ → Text
refusal test name place = codes "refused " ++ test ++ codes " " ++ name ++ codes " " ++ numeral place

refusal_line : (test name : Text) (place : ℕ) → is_word test ≡ true → is_word name ≡ true → is_line (refusal test name place) ≡ true
refusal_line test name place t m =
    let first = line_append (codes "refused ") test refl (word_is_line test t) in
    let second = line_append (codes "refused " ++ test ++ codes " ") name (line_append (codes "refused " ++ test) (codes " ") first refl) (word_is_line name m) in
    line_append (codes "refused " ++ test ++ codes " " ++ name ++ codes " ") (numeral place) (line_append (codes "refused " ++ test ++ codes " " ++ name) (codes " ") second refl) (numeral_lacks 10 foreign place)

stop_given : (n : ℕ) (p : LogPosition) (k : ℕ) (test name : Text) (place : ℕ) → IsLineOver (signature_of p.defs) (line_stop k test name place) → HasNoCause n p (line_stop k test name place)
    → Gives n p.defs p.is_based false [] [] (refusal test name place ∷ [])
stop_given n p k test name place o h = record {
  conservative = tt;
  follow = none_follow (p.defs ++ []);
  lines = one_line (refusal test name place) (refusal_line test name place o.0 o.1);
  sound = behind n p.defs p.is_based (refusal test name place) h.based (λ ls s. other_sound p.defs (refusal test name place) ls refl s);
}

silent_given : (n : ℕ) (p : LogPosition) → Gives n p.defs p.is_based false [] [] (cond p.is_based [] [])
silent_given n p = record { conservative = tt; follow = none_follow (p.defs ++ []); lines = no_lines p.is_based; sound = silent n p.defs p.is_based }

-- ---- each line

pub line_gives : (n : ℕ) (p : LogPosition) (l : LogLine) → AreConservative p.defs → AllFollow p.defs p.steps → IsLineOver (signature_of p.defs) l → HasNoCause n p l
    → Gives n p.defs p.is_based (is_base_line l) (definitions_by p l) (sequents_by p l) (report_of p l)
line_gives n p line_first k had o h = silent_given n p
line_gives n p (line_step s) k had o h = step_given n p s had o h
line_gives n p (line_const c t) k had o h = const_given n p.defs p.is_based c t k (const_fits p.defs c t h.fit o.1)
line_gives n p (line_type c i) k had o h =
    type_given n p.defs p.is_based c (predicate_of (sequent_at p.steps i)) k (type_fits p.defs c (sequent_at p.steps i) h.fit (one_there p.defs p.steps i had h.numbered))
line_gives n p (line_base m) k had o h = base_given n p m h
line_gives n p (line_section t) k had o h = section_given n p t o h
line_gives n p (line_name c i t) k had o h = name_given n p c i t k had o h
line_gives n p (line_end m) k had o h = silent_given n p
line_gives n p (line_stop m test name place) k had o h = stop_given n p m test name place o h
