-- What comes of the line of a text, and where a line may stand.
use Rattle.std.proofs.Common.{◌≡◌, ℕ, Bool, true, false, cond, not, ◌&&◌, ◌||◌, ◌==◌, ◌<◌, ◌^◌, [], ◌∷◌, ◌++◌, Some, None, codes, length, refl, sym, ap, ◌∙◌, subst, arith}
use Rattle.std.specs.Borrow.{Bor}
use Rattle.std.specs.Char.{is_ascii_digit}
use Rattle.std.specs.List.{list_all}
use Rattle.std.specs.Str.{is_utf8, IsAscii}
use Rattle.std.proofs.lemmas.Bool.{and_parts}
use Rattle.std.proofs.lemmas.Str.{IsUtf8-append, IsUtf8-from_is_utf8, is_utf8-from_IsUtf8, IsUtf8-from_ascii}
use Rattle.std.proofs.lemmas.Str.Ascii.{IsAscii-nil, IsAscii-cons}
use Rattle.hol_terms.specs.Definition.{signature_of}
use Rattle.hol_terms.specs.Text.{Text}
use Rattle.hol_logs.specs.Step.{numeral}
use Rattle.hol_logs.specs.Line.{LogLine, line_section, line_stop, is_section, is_word, IsLineOver}
use Rattle.hol_logs.specs.Position.{is_misplaced, by_form, first_cause, after, report_of}
use Rattle.hol_logs.specs.Log.{HasForm, IsBad, no_form, a_cause}
use Rattle.std.proofs.lemmas.Bool.Decides.{nat_tests}
use Rattle.strict_lines.specs.Lines.{reads_line}
use Rattle.strict_lines.proofs.Forms.{line_sound, line_complete}
use Rattle.strict_lines.proofs.Numerals.{numeral_is, all_digits}
use Rattle.flat_lines.specs.declared.lines.FlatLine.{FlatLine}
use Rattle.flat_lines.specs.declared.lines.FlatLine.TheVariants.{Section, Stop}
use Rattle.flat_lines.specs.declared.numbers.Number.{Number}
use Rattle.flat_lines.specs.Reads.{Reads}
use Rattle.flat_lines.specs.Lines.{IsFlatLine, IsStop}
use Rattle.flat_terms.specs.Plain.{PlainTables}
use Rattle.flat_rules.specs.declared.sequent.FlatSequent.{FlatSequent}
use Rattle.flat_signatures.specs.FlatNames.{FlatNames, plain_signature, HasSignature}
use Rattle.replay_check.specs.declared.definitions.FlatDefinition.{FlatDefinition}
use Rattle.replay_check.specs.Definitions.{definitions_of, HasDefinitions, AreSequents, sequents_of}
use Rattle.hol_terms.specs.ReadsBack.{ReadsBack}
use Rattle.hol_terms.specs.Base.{base}
use Rattle.std.specs.Prelude.{Vec, Option, Result, Ok, Err, IfOk}
use Rattle.std.specs.declared.alloc.Global.{Global}
use Rattle.flat_signatures.proofs.Signatures.{signature_there, signature_same}
use Rattle.replay_check.specs.declared.position.Position.{Position}
use Rattle.replay_check.specs.declared.why.Verdict.{Verdict}
use Rattle.replay_check.specs.declared.why.Verdict.TheVariants.{Good, Bad}
use Rattle.base_count.specs.InForce.{in_force}
use Rattle.replay_check.specs.Named.{AreNamed}
use Rattle.replay_check.specs.Positions.{log_position, IsPosition, IsInside, IsLineRead, Gains, IsVerdict, IsTaken, cause_of, reported}
use Rattle.replay_check.proofs.Later.{definitions_same, definitions_stay, sequents_same, sequents_stay}
use Rattle.replay_check.proofs.Named.{reads_back, start_named}
use Rattle.hol_logs.proofs.Standing.{Stands}

-- ---- places

neither : (a b : Bool) → (a || b) ≡ false → (a ≡ false) × (b ≡ false)
neither true b e = cc
neither false b e = (refl, e)

started : (b : Bool) → cond b true false ≡ false → b ≡ false
started true e = cc
started false e = refl

pub section_inside : (p : Position) (f : FlatLine) (x : Bor Text) (r : Bool) → f ≡ Section x → ((l : LogLine) → IsFlatLine p.tables f l → r ≡ is_misplaced (log_position p) l) → r ≡ false → IsInside p
section_inside p f x r e h n =
    let placed : is_misplaced (log_position p) (line_section x.now) ≡ false = sym (h (line_section x.now) (subst (λ g. IsFlatLine p.tables g (line_section x.now)) (sym e) refl)) ∙ n in
    let q = neither p.is_over _ placed in
    record { not_over = q.0; not_first = started (p.lines == 0) q.1 }

pub placed : (p : Position) → IsInside p → (p.is_over || cond (p.lines == 0) true false) ≡ false
placed p h = ap (λ b. b || cond (p.lines == 0) true false) h.not_over ∙ ap (λ b. cond b true false) h.not_first

-- ---- texts

pub joined_utf8 : (a b : Text) → is_utf8 a ≡ true → is_utf8 b ≡ true → is_utf8 (a ++ b) ≡ true
joined_utf8 a b h g = is_utf8-from_IsUtf8 (a ++ b) (IsUtf8-append a b (IsUtf8-from_is_utf8 a h) (IsUtf8-from_is_utf8 b g))

digit_ascii : (d : ℕ) → is_ascii_digit d ≡ true → d < 128
digit_ascii d h = grind (arith, nat_tests)

digits_ascii : (ds : Text) → list_all is_ascii_digit ds ≡ true → IsAscii ds
digits_ascii [] h = IsAscii-nil
digits_ascii (d ∷ ds) h =
    let p = and_parts (is_ascii_digit d) (list_all is_ascii_digit ds) h in
    IsAscii-cons d ds (digit_ascii d p.0) (digits_ascii ds p.1)

numeral_utf8 : (n : ℕ) → is_utf8 (numeral n) ≡ true
numeral_utf8 n = is_utf8-from_IsUtf8 (numeral n) (IsUtf8-from_ascii (numeral n) (digits_ascii (numeral n) (all_digits (numeral n) (numeral_is n))))

word_utf8 : (w : Text) → is_word w ≡ true → is_utf8 w ≡ true
word_utf8 w h = (and_parts (is_utf8 w) (not (length w == 0)) (and_parts (is_utf8 w && not (length w == 0)) _ h).0).0

pub section_utf8 : (t : Text) → is_section t ≡ true → is_utf8 t ≡ true
section_utf8 t h = (and_parts (is_utf8 t) _ (and_parts _ _ h).0).0

refusal_utf8 : (test name : Text) (place : ℕ) → is_word test ≡ true → is_word name ≡ true → is_utf8 (test ++ codes " " ++ name ++ codes " " ++ numeral place) ≡ true
refusal_utf8 test name place h g =
    let space : is_utf8 (codes " ") ≡ true = is_utf8-from_IsUtf8 (codes " ") (IsUtf8-from_ascii (codes " ") (IsAscii-cons 32 [] (omega arith) IsAscii-nil)) in
    let first = joined_utf8 test (codes " ") (word_utf8 test h) space in
    let second = joined_utf8 (test ++ codes " ") name first (word_utf8 name g) in
    let third = joined_utf8 (test ++ codes " " ++ name) (codes " ") second space in
    joined_utf8 (test ++ codes " " ++ name ++ codes " ") (numeral place) third (numeral_utf8 place)

pub stop_utf8 : (p : Position) (f : FlatLine) (i : Number) (x : Bor Text) → f ≡ Stop i x → IsLineRead p f → is_utf8 x.now ≡ true
stop_utf8 p f i x e h =
    let g : IsStop i x.now h.0 = subst (λ y. IsFlatLine p.tables y h.0) e h.1 in
    let o : IsLineOver (plain_signature p.tables p.signature) (line_stop g.0 g.1 g.2 g.3) = subst (λ l. IsLineOver (plain_signature p.tables p.signature) l) g.6 h.2 in
    subst (λ (b : Text). is_utf8 b ≡ true) (sym g.5) (refusal_utf8 g.1 g.2 g.3 o.0 o.1)

-- ---- while the tables grow

pub position_stays : (p q : Position) → Gains p q → IsPosition p → IsPosition q
position_stays p q g h =
    let same : definitions_of q.tables q.definitions.items ≡ definitions_of p.tables p.definitions.items =
    ap (λ ds. definitions_of q.tables ds.items) g.definitions ∙ definitions_same p.tables q.tables p.definitions.items g.grows h.definitions in
    record {
      signature = subst (λ s. HasSignature q.tables s) (sym g.signature) (signature_there p.tables q.tables p.signature g.grows h.signature);
      plain = ap (plain_signature q.tables) g.signature ∙ signature_same p.tables q.tables p.signature g.grows h.signature ∙ h.plain ∙ ap signature_of (sym same);
      definitions = subst (λ ds. HasDefinitions q.tables ds.items) (sym g.definitions) (definitions_stay p.tables q.tables p.definitions.items g.grows h.definitions);
      sequents = subst (λ qs. AreSequents q.tables qs.items) (sym g.sequents) (sequents_stay p.tables q.tables p.sequents.items g.grows h.sequents);
      named = subst (λ ds. AreNamed (signature_of ds)) (sym same) h.named;
      stands = subst (λ b. Stands in_force b (definitions_of q.tables q.definitions.items)) (sym g.is_based) (subst (λ ds. Stands in_force p.is_based ds) (sym same) h.stands);
    }

pub position_same : (p q : Position) → Gains p q → IsPosition p → log_position q ≡ log_position p
position_same p q g h =
    let ds : definitions_of q.tables q.definitions.items ≡ definitions_of p.tables p.definitions.items =
    ap (λ ds. definitions_of q.tables ds.items) g.definitions ∙ definitions_same p.tables q.tables p.definitions.items g.grows h.definitions in
    let qs : sequents_of q.tables q.sequents.items ≡ sequents_of p.tables p.sequents.items =
    ap (λ qs. sequents_of q.tables qs.items) g.sequents ∙ sequents_same p.tables q.tables p.sequents.items g.grows h.sequents in
    λ i. record { defs = ds i; steps = qs i; lines = g.lines i; is_based = g.is_based i; is_over = g.is_over i }

-- where no line was read
pub start_is : (t : PlainTables) (s : FlatNames) (ds : Vec FlatDefinition Global) (qs : Vec FlatSequent Global) → ds.items ≡ [] → qs.items ≡ [] → HasSignature t s → plain_signature t s ≡ signature_of []
    → IsPosition record { tables = t; signature = s; definitions = ds; sequents = qs; lines = 0; is_based = false; is_over = false }
start_is t s ds qs d q h e =
    record {
      signature = h;
      plain = e ∙ ap (λ es. signature_of (definitions_of t es)) (sym d);
      definitions = subst (λ es. HasDefinitions t es) (sym d) tt;
      sequents = subst (λ es. AreSequents t es) (sym q) tt;
      named = subst (λ es. AreNamed (signature_of (definitions_of t es))) (sym d) start_named;
      stands = subst (λ es. Stands in_force false (definitions_of t es)) (sym d) (base in_force, refl);
    }

-- ---- the line of a text

found : (t u : PlainTables) (s : FlatNames) (f : FlatLine) (o : Option FlatLine) (x : Text) → o ≡ Some f → Reads (IsFlatLine u) o (reads_line (plain_signature t s) x)
    → (l : LogLine) × (reads_line (plain_signature t s) x ≡ Some l) × IsFlatLine u f l
found t u s f o x e h = subst (λ (p : Option FlatLine). Reads (IsFlatLine u) p (reads_line (plain_signature t s) x)) e h

pub line_read : (p q : Position) (f : FlatLine) (o : Option FlatLine) (x : Text) → Gains p q → IsPosition p → o ≡ Some f → Reads (IsFlatLine q.tables) o (reads_line (plain_signature p.tables p.signature) x) → IsLineRead q f
line_read p q f o x g h e r =
    let l = found p.tables q.tables p.signature f o x e r in
    let same : plain_signature q.tables q.signature ≡ plain_signature p.tables p.signature = ap (plain_signature q.tables) g.signature ∙ signature_same p.tables q.tables p.signature g.grows h.signature in
    (l.0, l.2, subst (λ s. IsLineOver s l.0) (sym same) (line_sound (plain_signature p.tables p.signature) x l.0 l.1).over)

taken_by : (p q r : Position) (l : LogLine) (x : Text) (v : Verdict) → log_position q ≡ log_position p → HasForm (log_position p) x l → IsVerdict q r l v → IsTaken p r x v
taken_by p q r l x (Good o) e h g = (l, h, subst (λ a. (first_cause in_force a l ≡ None) × IsPosition r × (log_position r ≡ after a l) × (reported o ≡ report_of a l)) e g)
taken_by p q r l x (Bad w) e h g = a_cause l (cause_of w) h (subst (λ a. first_cause in_force a l ≡ Some (cause_of w)) e g)

pub line_taken : {E : Type 0} (p q r : Position) (f : FlatLine) (o : Option FlatLine) (x : Text) (v : Result Verdict E) → Gains p q → IsPosition p → o ≡ Some f
    → Reads (IsFlatLine q.tables) o (reads_line (plain_signature p.tables p.signature) x) → IfOk v (λ w. (l : LogLine) → IsFlatLine q.tables f l → IsVerdict q r l w) → IfOk v (λ w. IsTaken p r x w)
line_taken p q r f o x (Ok v) g h e s t =
    let l = found p.tables q.tables p.signature f o x e s in
    let read = line_sound (plain_signature p.tables p.signature) x l.0 l.1 in
    let form : HasForm (log_position p) x l.0 = record { reads = read.text; over = subst (λ s. IsLineOver s l.0) h.plain read.over } in
    taken_by p q r l.0 x v (position_same p q g h) form (t l.0 l.2)
line_taken p q r f o x (Err e) g h i s t = tt

pub none_read : (t u : PlainTables) (s : FlatNames) (o : Option FlatLine) (x : Text) → o ≡ None → Reads (IsFlatLine u) o (reads_line (plain_signature t s) x) → reads_line (plain_signature t s) x ≡ None
none_read t u s o x e h = subst (λ (p : Option FlatLine). Reads (IsFlatLine u) p (reads_line (plain_signature t s) x)) e h

pub position_reads_back : (p : Position) → IsPosition p → ReadsBack (plain_signature p.tables p.signature)
position_reads_back p h = subst ReadsBack (sym h.plain) (reads_back in_force p.is_based (definitions_of p.tables p.definitions.items) (omega arith) h.stands h.named)

pub not_read : (p : Position) (x : Text) → IsPosition p → length x < 2 ^ 64 → reads_line (plain_signature p.tables p.signature) x ≡ None → IsBad in_force (log_position p) x by_form
not_read p x h k e = no_form (λ l f.
    let over : IsLineOver (plain_signature p.tables p.signature) l = subst (λ s. IsLineOver s l) (sym h.plain) f.over in
    let read = line_complete (plain_signature p.tables p.signature) (position_reads_back p h) l over (subst (λ (y : Text). length y < 2 ^ 64) f.reads k) in
    never l (sym (ap (reads_line (plain_signature p.tables p.signature)) f.reads ∙ read) ∙ e))
  where
    never : (l : LogLine) → Some l ≡ None → ⊥
    never l e = cc
