-- Closed tables and base definitions by computation.
use Rattle.std.proofs.Common.{◌≡◌, ℕ, ◌<◌, ◌≤◌, Bool, true, false, List, [], ◌∷◌, Option, Some, None, refl, sym, ap, ◌∙◌}
use Rattle.std.specs.Prelude.{IsSome, IsSomeAnd, not, ◌&&◌, if◌then◌else◌, bytes_eq, codes, slice_get, nat_lt, Contains}
use Rattle.std.specs.Str.{chars}
use lib.Utf8.{encode}
use Rattle.std.proofs.lemmas.List.Elements.{All-nil, All-cons}
use Rattle.std.proofs.lemmas.Bool.{ltb-true, and_parts, and_from}
use Rattle.std.proofs.lemmas.Option.{slice_get_within, get_or_from_slice_get}
use Rattle.hol_terms.specs.Name.{Name, is_segment, is_name, is_numbered, dot_abs, dot_rep}
use Rattle.hol_terms.specs.Signature.{Signature, is_new, may_introduce}
use Rattle.hol_terms.specs.TypeNames.{may_introduce_type}
use Rattle.hol_terms.proofs.AsciiNames.{is_ascii_name, is_name_from_ascii}
use Rattle.hol_terms.proofs.DottedNames.{ends_introduced}
use Rattle.hol_terms.specs.Tm.{Tm}
use Rattle.hol_terms.specs.Definition.{Definition, const_def, type_def, signature_of, has_frees}
use Rattle.hol_terms.specs.Sequent.{Sequent, seq}
use Rattle.hol_terms.specs.Text.{Text}
use Rattle.hol_terms.specs.Tokens.{tokens}
use Rattle.hol_terms.specs.Meaning.{applied, function, constant, fitted, apply, equation, connective, negation, quantified}
use Rattle.hol_terms.specs.Reading.{types_at, dtype_at, type_at, typed_at, braces_at, atom_at, atoms_at, application_at, bound_at, body_at, binder_at, term_at, reading_of_type, reading_of_term}
use Rattle.hol_terms.specs.Rules.{both, same, same_ty}
use Rattle.hol_terms.specs.Logic.{base_1, base_2, base_3, base_4, base_5, base_6, base_7, base_8, base_9, base_10}
use Rattle.hol_terms.specs.Base.{base, base_definitions, base_11, base_12, base_13, base_14, base_15, base_16, base_17, base_18, base_19, base_20, base_21, base_22, base_23, base_24, base_25, base_26, base_27, base_28, base_29, base_30, base_31, base_32, base_33, base_34, base_35, base_36, base_37, base_38, base_39, base_40, base_41, base_42, base_43, base_44, base_45, base_46, base_47, base_48, base_49}
use Rattle.hol_terms.proofs.Same.{same-is}
use Rattle.hol_kernel.specs.Fault.{type_fault, predicate_of, shows_inhabited}
use Rattle.hol_kernel.specs.declared.kernel.Unfit.TheVariants as unfit
use Rattle.hol_kernel.specs.Said.{is_const_def}
use Rattle.script_core.specs.Words.{first_word, after_word, words, number, kind_named}
use Rattle.script_core.specs.Conversions.{most_steps}
use Rattle.script_core.specs.Tables.{fact_sequent, table_sequent}
use Rattle.library_steps.proofs.Taken.{above_nine}
use Rattle.library_steps.specs.Closed.{nothing, Proves}
use Rattle.library_steps.specs.Building.{IsConstantAt, IsTypeAt, AreAmong}

-- an answer that names this on its `unfolding` line computes the tables of the library
unfoldable pub library_table : Unit {0}
unfolding first_word after_word words number kind_named most_steps same same_ty is_segment is_name tokens chars encode reading_of_type reading_of_term types_at dtype_at type_at typed_at braces_at atom_at atoms_at application_at bound_at body_at binder_at term_at applied function constant fitted apply equation connective negation quantified base_definitions base_1 base_2 base_3 base_4 base_5 base_6 base_7 base_8 base_9 base_10 base_11 base_12 base_13 base_14 base_15 base_16 base_17 base_18 base_19 base_20 base_21 base_22 base_23 base_24 base_25 base_26 base_27 base_28 base_29 base_30 base_31 base_32 base_33 base_34 base_35 base_36 base_37 base_38 base_39 base_40 base_41 base_42 base_43 base_44 base_45 base_46 base_47 base_48 base_49
library_table = tt

both_parts : (a b : Bool) → both a b ≡ true → (a ≡ true) × (b ≡ true)
both_parts true b h = (refl, h)
both_parts false b h = cc

-- ---- what tables give

abbrev pub no_terms : List Tm → Bool
no_terms [] = true
no_terms (t ∷ ts) = false

-- the same sequent, without hypotheses
abbrev pub agree : Option Sequent → Option Sequent → Bool
agree None r = false
agree (Some a) None = false
agree (Some a) (Some b) = both (no_terms a.hyps) (both (no_terms b.hyps) (same a.concl b.concl))

none_there : (ts : List Tm) → no_terms ts ≡ true → ts ≡ []
none_there [] h = refl
none_there (t ∷ ts) h = cc

same_sequents : (a b : Sequent) → both (no_terms a.hyps) (both (no_terms b.hyps) (same a.concl b.concl)) ≡ true → a ≡ b
same_sequents a b h =
    let p = both_parts (no_terms a.hyps) (both (no_terms b.hyps) (same a.concl b.concl)) h in
    let q = both_parts (no_terms b.hyps) (same a.concl b.concl) p.1 in
    λ i. seq ((none_there a.hyps p.0 ∙ sym (none_there b.hyps q.0)) i) (same-is a.concl b.concl q.1 i)

agree_is : (o r : Option Sequent) → agree o r ≡ true → (IsSome r) × (o ≡ r)
agree_is None r h = cc
agree_is (Some a) None h = cc
agree_is (Some a) (Some b) h = (refl, ap Some (same_sequents a b h))

pub proves : {ds : List Definition} {from : List Text} {table : Text} {fact : Text} → agree (table_sequent ds from nothing table) (fact_sequent fact) ≡ true → Proves ds from table fact
proves {ds} {from} {table} {fact} h =
    let p = agree_is (table_sequent ds from nothing table) (fact_sequent fact) h in
    record { stated = p.0; is = p.1 }

-- the facts of a table, by their places among those proved
pub from_none : {facts : List Text} → AreAmong facts []
from_none {facts} = record { all = All-nil (Contains facts) }

pub from_more : {facts from : List Text} {fact : Text} (i : ℕ) → slice_get facts i ≡ Some fact → AreAmong facts from → AreAmong facts (fact ∷ from)
from_more {facts} {from} {fact} i e h =
    record { all = All-cons (Contains facts) fact from (i, slice_get_within facts i fact e, get_or_from_slice_get facts i fact fact e) h.all }

-- ---- definitions

abbrev pub constant_there : Option Definition → Bool
constant_there None = false
constant_there (Some d) = is_const_def d

constant_is : (o : Option Definition) → constant_there o ≡ true → IsSomeAnd o (λ d. is_const_def d ≡ true)
constant_is None h = cc
constant_is (Some d) h = h

-- behind the first ten base definitions
abbrev pub is_place : ℕ → Bool
is_place place = both (nat_lt 9 place) (nat_lt place 52)

place_is : (place : ℕ) → is_place place ≡ true → (10 ≤ place) × (place < 52)
place_is place h =
    let p = both_parts (nat_lt 9 place) (nat_lt place 52) h in
    (above_nine place (ltb-true 9 place p.0), ltb-true place 52 p.1)

pub constant_at : {place : ℕ} → both (is_place place) (constant_there (slice_get base_definitions place)) ≡ true → IsConstantAt place
constant_at {place} h =
    let p = both_parts (is_place place) (constant_there (slice_get base_definitions place)) h in
    let b = place_is place p.0 in
    record { above = b.0; below = b.1; is = constant_is (slice_get base_definitions place) p.1 }

-- a name that a new type may have where it and its two functions' are new
abbrev pub is_plain_name : Name → Bool
is_plain_name n = both (is_ascii_name n) (both (not (is_numbered n)) (not (bytes_eq n (codes "0"))))

abbrev pub are_new : Signature → Name → Bool
are_new s n = is_new s n && (is_new s (dot_abs n) && is_new s (dot_rep n))

-- a predicate without free variables, shown to hold of something
abbrev pub shows_closed : Sequent → Bool
shows_closed a = both (shows_inhabited a) (not (has_frees (predicate_of a)))

-- the theorem of a table makes the type of that definition
abbrev pub makes : ℕ → Option Definition → Option Sequent → Bool
makes place None o = false
makes place (Some (const_def c t)) o = false
makes place (Some (type_def n p)) None = false
makes place (Some (type_def n p)) (Some a) = both (both (is_plain_name n) (are_new (signature_of (base place)) n)) (both (shows_closed a) (same (predicate_of a) p))

is_false : (b : Bool) → not b ≡ true → b ≡ false
is_false true h = cc
is_false false h = refl

introduced : (s : Signature) (n : Name) → is_plain_name n ≡ true → are_new s n ≡ true → may_introduce_type s n ≡ true
introduced s n h e =
    let p = both_parts (is_ascii_name n) (both (not (is_numbered n)) (not (bytes_eq n (codes "0")))) h in
    let q = both_parts (not (is_numbered n)) (not (bytes_eq n (codes "0"))) p.1 in
    let i = is_name_from_ascii n p.0 in
    let u = and_parts (is_new s n) (is_new s (dot_abs n) && is_new s (dot_rep n)) e in
    let m : may_introduce s n ≡ true = and_from (is_name n && not (is_numbered n)) (is_new s n) (and_from (is_name n) (not (is_numbered n)) i q.0) u.0 in
    let w = and_parts (may_introduce s (dot_abs n)) (may_introduce s (dot_rep n)) (ends_introduced s n i (is_false (bytes_eq n (codes "0")) q.1) ∙ u.1) in
    and_from (may_introduce s n && may_introduce s (dot_abs n)) (may_introduce s (dot_rep n)) (and_from (may_introduce s n) (may_introduce s (dot_abs n)) m w.0) w.1

no_fault : (ds : List Definition) (n : Name) (a : Sequent) → may_introduce_type (signature_of ds) n ≡ true → shows_closed a ≡ true → type_fault ds n a ≡ None
no_fault ds n a h e =
    let p = both_parts (shows_inhabited a) (not (has_frees (predicate_of a))) e in
    let f = is_false (has_frees (predicate_of a)) p.1 in
    λ k. if not (h k) then Some unfit.Name else (if not (p.0 k) then Some unfit.Shape else (if f k then Some unfit.Free else None))

made_by : (place : ℕ) (table : Text) (d : Option Definition) (o : Option Sequent) → slice_get base_definitions place ≡ d → table_sequent (base place) [] nothing table ≡ o → (10 ≤ place) × (place < 52) → makes place d o ≡ true → IsTypeAt place table
made_by place table None o e f b h = cc
made_by place table (Some (const_def c t)) o e f b h = cc
made_by place table (Some (type_def n p)) None e f b h = cc
made_by place table (Some (type_def n p)) (Some a) e f b h =
    let q = both_parts (both (is_plain_name n) (are_new (signature_of (base place)) n)) (both (shows_closed a) (same (predicate_of a) p)) h in
    let r = both_parts (is_plain_name n) (are_new (signature_of (base place)) n) q.0 in
    let u = both_parts (shows_closed a) (same (predicate_of a) p) q.1 in
    record {
      above = b.0;
      below = b.1;
      name = n;
      shows = record {
        shown = a;
        is = f;
        fit = no_fault (base place) n a (introduced (signature_of (base place)) n r.0 r.1) u.0;
        next = e ∙ ap (λ (t : Tm). Some (type_def n t)) (sym (same-is (predicate_of a) p u.1));
      };
    }

pub new_type_at : {place : ℕ} {table : Text} → both (is_place place) (makes place (slice_get base_definitions place) (table_sequent (base place) [] nothing table)) ≡ true → IsTypeAt place table
new_type_at {place} {table} h =
    let p = both_parts (is_place place) (makes place (slice_get base_definitions place) (table_sequent (base place) [] nothing table)) h in
    made_by place table (slice_get base_definitions place) (table_sequent (base place) [] nothing table) refl refl (place_is place p.0) p.1
