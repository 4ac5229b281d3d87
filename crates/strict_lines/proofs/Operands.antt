-- What the readings of operands give stands there, and the texts of operands are read.
use Rattle.std.proofs.Common.{◌≡◌, refl, sym, ap, ◌∙◌, subst, ℕ, ◌<◌, ◌^◌, Bool, true, not, ◌&&◌, ◌==◌, [], ◌∷◌, ◌++◌, append_assoc, Option, Some, length, length-append, eqb-true, arith}
use Rattle.std.specs.Prelude.{take, drop, codes}
use Rattle.std.specs.List.{list_all, prefix_len, take_while}
use Rattle.std.specs.Char.{is_ascii_digit}
use Rattle.std.specs.Str.{is_utf8}
use Rattle.std.specs.Str.Parse.{digits_value}
use Rattle.std.proofs.Math.Seq.{take-append_seam, drop-append_seam}
use Rattle.std.proofs.lemmas.Bool.{and_parts, and_from}
use Rattle.std.proofs.lemmas.List.{take-append-drop}
use Rattle.hol_terms.specs.Name.{Name, is_segment, is_name}
use Rattle.hol_terms.specs.Ty.{Ty}
use Rattle.hol_terms.specs.Tm.{Tm, tm_free, FreeVar}
use Rattle.hol_terms.specs.Signature.{Signature, IsTyOver, IsOver}
use Rattle.hol_terms.specs.ReadsBack.{ReadsBack}
use Rattle.hol_terms.specs.Text.{Text, ty_text, tm_text}
use Rattle.hol_logs.specs.Step.{numeral, is_numeral, type_pair_text, pair_text}
use Rattle.hol_logs.specs.Line.{is_word}
use Rattle.hol_logs.proofs.Numerals.{value-numeral, numeral-value}
use Rattle.strict_reading.specs.Steps.{when}
use Rattle.strict_reading.specs.Words.{word_of, behind_word, ends_word, behind}
use Rattle.strict_reading.specs.Types.{reads_type, ends_type}
use Rattle.strict_reading.specs.Terms.{reads_term, reads_free, ends_term}
use Rattle.strict_reading.proofs.Steps.{bind_case, when_case, bind_some, when_true}
use Rattle.strict_reading.proofs.Words.{word_parts, word_case, behind_is, behind_sign}
use Rattle.strict_reading.proofs.NameWords.{name_word, segment_word}
use Rattle.strict_reading.proofs.TypesSound.{reads_type_sound}
use Rattle.strict_reading.proofs.TypesComplete.{reads_type_complete}
use Rattle.strict_reading.proofs.TermsSound.{reads_term_sound, reads_free_sound}
use Rattle.strict_reading.proofs.TermLeaves.{reads_free_complete}
use Rattle.strict_reading.proofs.TermsComplete.{reads_term_complete}
use Rattle.strict_lines.specs.Operands.{drop_while, reads_number, reads_name, reads_segment, is_no_space, reads_word, parted, ended, reads_type_pair, reads_pair}
use Rattle.strict_lines.proofs.Numerals.{numeral_is, all_digits, stops, front_long}

-- what is read stands there, as the text of something that is well formed
abbrev pub IsSound : {A : Type 0} → (Text → Option (A × Text)) → (A → Text) → (A → Type 0) → Type 0
IsSound {A} reads show Over = (x : Text) (a : A) (rest : Text) → reads x ≡ Some (a, rest) → (x ≡ show a ++ rest) × Over a

-- the text of what is well formed is read, where it ends
abbrev pub IsComplete : {A : Type 0} → (Text → Option (A × Text)) → (A → Text) → (A → Type 0) → (Text → Bool) → Type 0
IsComplete {A} reads show Over ends = (a : A) (rest : Text) → Over a → ends rest ≡ true → reads (show a ++ rest) ≡ Some (a, rest)

-- what was given is what is asked for
pub given : {A : Type 0} (P : A → Type 0) (p q : A) → P p → Some p ≡ Some q → P q
given P p q h e = let f : p ≡ q = cc in subst P f h

abbrev pub Stands : {A : Type 0} → (A → Text) → (A → Type 0) → Text → A × Text → Type 0
Stands show Over x p = (x ≡ show p.0 ++ p.1) × Over p.0

abbrev pub itself : Text → Text
itself x = x

abbrev pub Any : {A : Type 0} → A → Type 0
Any a = Unit {0}

abbrev pub anywhere : Text → Bool
anywhere x = true

-- ---- numbers, names and words

pub number_sound : IsSound reads_number numeral Any
unfolding reads_number
number_sound x n rest h =
    let ds = take_while is_ascii_digit x in
    when_case _ _ _ h (λ e g. given (Stands numeral Any x) (digits_value 10 ds, drop_while is_ascii_digit x) (n, rest)
    (sym (take-append-drop (prefix_len is_ascii_digit x) x) ∙ ap (λ w. w ++ drop_while is_ascii_digit x) (sym (numeral-value ds e)), tt) g)

-- what is made of the front and of what is left
front_case : {A : Type 0} (f : Text → Text → A) (p : ℕ → Bool) (w rest : Text) → list_all p w ≡ true → stops p rest ≡ true → f (take_while p (w ++ rest)) (drop_while p (w ++ rest)) ≡ f w rest
front_case f p w rest h e =
    ap (λ n. f (take n (w ++ rest)) (drop n (w ++ rest))) (front_long p w rest h e) ∙ (λ i. f (take-append_seam w rest i) (drop-append_seam w rest i))

pub number_complete : IsComplete reads_number numeral Any (stops is_ascii_digit)
unfolding reads_number
number_complete n rest o e =
    front_case (λ w y. when (is_numeral w) (Some (digits_value 10 w, y))) is_ascii_digit (numeral n) rest (all_digits (numeral n) (numeral_is n)) e
    ∙ when_true _ _ (numeral_is n) ∙ ap (λ m. Some (m, rest)) (value-numeral n)

abbrev pub IsName : Name → Type 0
IsName c = is_name c ≡ true

pub name_sound : IsSound reads_name itself IsName
unfolding reads_name
name_sound x c rest h = when_case _ _ _ h (λ e g. given (Stands itself IsName x) (word_of x, behind_word x) (c, rest) (word_parts x, e) g)

pub name_complete : IsComplete reads_name itself IsName ends_word
unfolding reads_name
name_complete c rest o e = word_case (λ w y. when (is_name w) (Some (w, y))) c rest (name_word c o).word e ∙ when_true _ _ o

abbrev pub IsSegment : Name → Type 0
IsSegment c = is_segment c ≡ true

pub segment_sound : IsSound reads_segment itself IsSegment
unfolding reads_segment
segment_sound x c rest h = when_case _ _ _ h (λ e g. given (Stands itself IsSegment x) (word_of x, behind_word x) (c, rest) (word_parts x, e) g)

pub segment_complete : IsComplete reads_segment itself IsSegment ends_word
unfolding reads_segment
segment_complete c rest o e = word_case (λ w y. when (is_segment w) (Some (w, y))) c rest (segment_word c o) e ∙ when_true _ _ o

abbrev pub IsWord : Text → Type 0
IsWord w = is_word w ≡ true

pub word_sound : IsSound reads_word itself IsWord
unfolding reads_word
word_sound x w rest h =
    when_case _ _ _ h (λ e g. given (Stands itself IsWord x) (take_while is_no_space x, drop_while is_no_space x) (w, rest) (sym (take-append-drop (prefix_len is_no_space x) x), e) g)

spaceless : (w : Text) → list_all (λ b. not (b == 32) && not (b == 10)) w ≡ true → list_all is_no_space w ≡ true
spaceless [] g = refl
spaceless (b ∷ w) g =
    let p = and_parts (not (b == 32) && not (b == 10)) (list_all (λ c. not (c == 32) && not (c == 10)) w) g in
    and_from (not (b == 32)) (list_all is_no_space w) (and_parts (not (b == 32)) (not (b == 10)) p.0).0 (spaceless w p.1)

pub word_complete : IsComplete reads_word itself IsWord (stops is_no_space)
unfolding reads_word
word_complete w rest o e =
    front_case (λ v y. when (is_word v) (Some (v, y))) is_no_space w rest (spaceless w (and_parts (is_utf8 w && not (length w == 0)) _ o).1) e ∙ when_true _ _ o

-- ---- types and terms

abbrev pub free_text : FreeVar → Text
free_text v = tm_text (tm_free v)

abbrev pub IsFreeOver : Signature → FreeVar → Type 0
IsFreeOver s v = IsOver s [] (tm_free v)

pub free_sound : (s : Signature) → IsSound (reads_free s) free_text (IsFreeOver s)
free_sound s x v rest h = let r = reads_free_sound s x v rest h in (r.text, (r.named, r.over))

pub free_complete : (s : Signature) → ReadsBack s → IsComplete (reads_free s) free_text (IsFreeOver s) anywhere
free_complete s b v rest o e = reads_free_complete s b.types_named v rest o.0 o.1

pub type_sound : (s : Signature) → IsSound (reads_type s) ty_text (IsTyOver s)
type_sound s x t rest h = let r = reads_type_sound s x t rest h in (r.text, r.over)

pub type_complete : (s : Signature) → ReadsBack s → IsComplete (reads_type s) ty_text (IsTyOver s) ends_type
type_complete s b t rest o e = reads_type_complete s b.types_named t rest o e

-- a closed term
pub term_sound : (s : Signature) → IsSound (reads_term s []) tm_text (IsOver s [])
term_sound s x t rest h = let r = reads_term_sound s [] x t rest tt h in (r.text, r.over)

-- ... and one of not too long a text
abbrev pub IsShort : Signature → Tm → Type 0
IsShort s t = IsOver s [] t × (length (tm_text t) < 2 ^ 64)

pub term_complete : (s : Signature) → ReadsBack s → IsComplete (reads_term s []) tm_text (IsShort s) ends_term
term_complete s b t rest o e = let l = o.1 in reads_term_complete s [] t rest b o.0 (omega (arith, l)) e

-- ---- one after the other

pub parted_case : {A B G : Type 0} (reads : Text → Option (A × Text)) (show : A → Text) (Over : A → Type 0) → IsSound reads show Over → (x sign : Text) (f : A → Text → Option B) (b : B) → parted (reads x) sign f ≡ Some b
    → ((a : A) (y : Text) → x ≡ show a ++ (sign ++ y) → Over a → f a y ≡ Some b → G) → G
unfolding parted
parted_case reads show Over sound x sign f b h k =
    bind_case _ _ _ h (λ p e g. bind_case _ _ _ g (λ y d j. let q = sound x p.0 p.1 e in k p.0 y (q.0 ∙ ap (λ z. show p.0 ++ z) (behind_is sign p.1 y d)) q.1 j))

pub parted_some : {A B : Type 0} (reads : Text → Option (A × Text)) (show : A → Text) (Over : A → Type 0) (ends : Text → Bool) → IsComplete reads show Over ends → (a : A) (sign y : Text) (f : A → Text → Option B) → Over a
    → ends (sign ++ y) ≡ true → parted (reads (show a ++ (sign ++ y))) sign f ≡ f a y
unfolding parted
parted_some reads show Over ends complete a sign y f o e = bind_some _ _ _ (complete a (sign ++ y) o e) ∙ bind_some _ _ _ (behind_sign sign y)

pub nothing : (x : Text) → (length x == 0) ≡ true → x ≡ []
nothing [] h = refl
nothing (c ∷ x) h = let e = eqb-true (length (c ∷ x)) 0 h in absurd (omega arith)

pub no_more : (x : Text) → x ++ [] ≡ x
no_more [] = refl
no_more (c ∷ x) = ap (λ y. c ∷ y) (no_more x)

pub ended_case : {A B G : Type 0} (reads : Text → Option (A × Text)) (show : A → Text) (Over : A → Type 0) → IsSound reads show Over → (x : Text) (f : A → B) (b : B) → ended (reads x) f ≡ Some b
    → ((a : A) → x ≡ show a → Over a → Some (f a) ≡ Some b → G) → G
unfolding ended
ended_case reads show Over sound x f b h k =
    bind_case _ _ _ h (λ p e g. when_case _ _ _ g (λ z j. let q = sound x p.0 p.1 e in k p.0 (q.0 ∙ ap (λ y. show p.0 ++ y) (nothing p.1 z) ∙ no_more (show p.0)) q.1 j))

pub ended_some : {A B : Type 0} (reads : Text → Option (A × Text)) (show : A → Text) (Over : A → Type 0) (ends : Text → Bool) → IsComplete reads show Over ends → (a : A) (f : A → B) → Over a → ends [] ≡ true
    → ended (reads (show a)) f ≡ Some (f a)
unfolding ended
ended_some reads show Over ends complete a f o e = bind_some _ _ _ (ap reads (sym (no_more (show a))) ∙ complete a [] o e) ∙ when_true _ _ refl

-- ---- pairs

abbrev pub IsTypePairOver : Signature → Name × Ty → Type 0
IsTypePairOver s p = IsSegment p.0 × IsTyOver s p.1

pub type_pair_sound : (s : Signature) → IsSound (reads_type_pair s) type_pair_text (IsTypePairOver s)
unfolding reads_type_pair
type_pair_sound s x p rest h =
    bind_case _ _ _ h (λ y e g. parted_case reads_segment itself IsSegment segment_sound y (codes " := ") _ _ g (λ v z d o j. bind_case _ _ _ j (λ q i k.
    let r = type_sound s z q.0 q.1 i in
    given (Stands type_pair_text (IsTypePairOver s) x) ((v, q.0), q.1) (p, rest)
    (behind_is (codes "'") x y e ∙ ap (λ w. 39 ∷ w) (d ∙ ap (λ w. v ++ (codes " := " ++ w)) r.0 ∙ apart v (ty_text q.0) q.1), (o, r.1)) k)))
  where
    apart : (a b c : Text) → a ++ (codes " := " ++ (b ++ c)) ≡ ((a ++ codes " := ") ++ b) ++ c
    apart a b c = simp append_assoc

pub type_pair_complete : (s : Signature) → ReadsBack s → IsComplete (reads_type_pair s) type_pair_text (IsTypePairOver s) ends_type
unfolding reads_type_pair behind
type_pair_complete s b p rest o e =
    ap (λ w. reads_type_pair s (39 ∷ w)) (apart p.0 (ty_text p.1) rest)
    ∙ bind_some _ _ (p.0 ++ (codes " := " ++ (ty_text p.1 ++ rest))) refl
    ∙ parted_some reads_segment itself IsSegment ends_word segment_complete p.0 (codes " := ") (ty_text p.1 ++ rest) _ o.0 refl
    ∙ bind_some _ _ _ (type_complete s b p.1 rest o.1 e)
  where
    apart : (a b c : Text) → ((a ++ codes " := ") ++ b) ++ c ≡ a ++ (codes " := " ++ (b ++ c))
    apart a b c = simp append_assoc

abbrev pub IsPairOver : Signature → FreeVar × Tm → Type 0
IsPairOver s p = IsFreeOver s p.0 × IsOver s [] p.1

pub pair_sound : (s : Signature) → IsSound (reads_pair s) pair_text (IsPairOver s)
unfolding reads_pair
pair_sound s x p rest h =
    parted_case (reads_free s) free_text (IsFreeOver s) (free_sound s) x (codes " := ") _ _ h (λ v y d o j. bind_case _ _ _ j (λ q i k.
    let r = term_sound s y q.0 q.1 i in
    given (Stands pair_text (IsPairOver s) x) ((v, q.0), q.1) (p, rest) (d ∙ ap (λ w. free_text v ++ (codes " := " ++ w)) r.0 ∙ apart (free_text v) (tm_text q.0) q.1, (o, r.1)) k))
  where
    apart : (a b c : Text) → a ++ (codes " := " ++ (b ++ c)) ≡ ((a ++ codes " := ") ++ b) ++ c
    apart a b c = simp append_assoc

abbrev pub IsShortPair : Signature → FreeVar × Tm → Type 0
IsShortPair s p = IsPairOver s p × (length (pair_text p) < 2 ^ 64)

pub pair_complete : (s : Signature) → ReadsBack s → IsComplete (reads_pair s) pair_text (IsShortPair s) ends_term
unfolding reads_pair
pair_complete s b p rest o e =
    let l = o.1 in
    ap (reads_pair s) (apart (free_text p.0) (tm_text p.1) rest)
    ∙ parted_some (reads_free s) free_text (IsFreeOver s) anywhere (free_complete s b) p.0 (codes " := ") (tm_text p.1 ++ rest) _ o.0.0 refl
    ∙ bind_some _ _ _ (term_complete s b p.1 rest (o.0.1, omega (arith, l, length-append (free_text p.0 ++ codes " := ") (tm_text p.1))) e)
  where
    apart : (a b c : Text) → ((a ++ codes " := ") ++ b) ++ c ≡ a ++ (codes " := " ++ (b ++ c))
    apart a b c = simp append_assoc
