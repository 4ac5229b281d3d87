-- Forms of lines: what is read by one is such a line, and each line is read.
use Rattle.std.proofs.Common.{◌≡◌, refl, sym, ap, ◌∙◌, ℕ, suc, ◌<◌, ◌^◌, true, ◌==◌, List, [], ◌∷◌, ◌++◌, append_assoc, Option, Some, None, length, length-append, map, arith}
use Rattle.std.specs.Prelude.{codes}
use Rattle.std.specs.List.{list_all}
use Rattle.std.specs.Char.{is_ascii_digit}
use Rattle.std.proofs.lemmas.Bool.{and_parts, and_from}
use Rattle.hol_terms.specs.Name.{Name, is_segment}
use Rattle.hol_terms.specs.Tm.{Tm}
use Rattle.hol_terms.specs.Subst.{TySubst}
use Rattle.hol_terms.specs.Binding.{VarSubst}
use Rattle.hol_terms.specs.Signature.{Signature, IsOver}
use Rattle.hol_terms.specs.Rules.{some_pair}
use Rattle.hol_terms.specs.Proves.{AreTypesOver, AreOver}
use Rattle.hol_terms.specs.ReadsBack.{ReadsBack}
use Rattle.hol_terms.specs.Text.{Text, tm_text}
use Rattle.hol_logs.specs.Step.{LogStep, step_refl, step_trans, step_comb, step_abs, step_beta, step_assume, step_mp, step_deduct, step_inst_type, step_inst, step_axiom, numeral, numerals, with_semicolons, type_pair_text, pair_text, step_text, IsStepOver}
use Rattle.hol_logs.specs.Line.{LogLine, line_first, line_step, line_const, line_type, line_base, line_section, line_name, line_end, line_stop, line_text, IsLineOver}
use Rattle.strict_reading.specs.Steps.{when, either}
use Rattle.strict_reading.specs.Words.{ends_word, behind}
use Rattle.strict_reading.specs.Types.{ends_type}
use Rattle.strict_reading.specs.Terms.{reads_term, reads_free, ends_term}
use Rattle.strict_reading.proofs.Steps.{bind_case, when_case, either_case, bind_some, when_true}
use Rattle.strict_reading.proofs.Words.{behind_is}
use Rattle.strict_lines.specs.Operands.{reads_number, reads_name, is_no_space, reads_word, parted, reads_type_pair, reads_pair, reads_type_pairs, reads_pairs}
use Rattle.strict_lines.specs.Lines.{number_line, numbers_line, term_line, Form, by_form_of, abs_step, inst_type_step, inst_step, step_forms, reads_step, const_line, type_line, section_line, name_line, stop_line, line_forms, reads_line}
use Rattle.strict_lines.proofs.Numerals.{stops}
use Rattle.strict_lines.proofs.Operands.{given, itself, Any, IsName, IsWord, free_text, IsFreeOver, IsShort, IsTypePairOver, IsPairOver, anywhere, number_sound, number_complete, name_sound, name_complete, word_sound, word_complete, free_sound, free_complete, term_sound, term_complete, parted_case, parted_some, nothing, ended_case, ended_some, type_pair_sound, type_pair_complete, pair_sound, pair_complete}
use Rattle.strict_lines.proofs.Pairs.{Each, pairs_sound, pairs_complete}

-- ---- what is read

-- the text is that of the value, which is well formed
pub record IsOf {A : Type 0} (show : A → Text) (Over : A → Type 0) (x : Text) (a : A) : Type 0 where
  pub text : x ≡ show a
  pub over : Over a

abbrev IsForm : {A : Type 0} → (A → Text) → (A → Type 0) → Form A → Type 0
IsForm {A} show Over f = (y : Text) (a : A) → f.1 y ≡ Some a → IsOf show Over (f.0 ++ y) a

abbrev AreForms : {A : Type 0} → (A → Text) → (A → Type 0) → List (Form A) → Type 0
AreForms show Over [] = Unit {0}
AreForms show Over (f ∷ fs) = IsForm show Over f × AreForms show Over fs

by_form_sound : {A : Type 0} (show : A → Text) (Over : A → Type 0) (fs : List (Form A)) (o : Option A) (x : Text) (a : A) → AreForms show Over fs → (o ≡ Some a → IsOf show Over x a) → by_form_of fs o x ≡ Some a → IsOf show Over x a
unfolding by_form_of
by_form_sound show Over [] o x a fine k h = k h
by_form_sound show Over (f ∷ fs) o x a fine k h =
    either_case _ _ _ _ h (λ y e g. let r = fine.0 y a g in record { text = behind_is f.0 x y e ∙ r.text; over = r.over }) (λ e g. by_form_sound show Over fs o x a fine.1 k g)

-- a value by the parts that were read
is_of : {A : Type 0} (show : A → Text) (Over : A → Type 0) (x : Text) (b a : A) → x ≡ show b → Over b → Some b ≡ Some a → IsOf show Over x a
is_of show Over x b a e o h = given (λ c. IsOf show Over x c) b a (record { text = e; over = o }) h

number_form : {A : Type 0} (show : A → Text) (Over : A → Type 0) (word : Text) (f : ℕ → A) → ((i : ℕ) → show (f i) ≡ word ++ numeral i) → ((i : ℕ) → Over (f i)) → IsForm show Over (word, number_line f)
number_form show Over word f e o x a h = ended_case reads_number numeral Any number_sound x f a h (λ i d q j. is_of show Over (word ++ x) (f i) a (ap (λ w. word ++ w) d ∙ sym (e i)) (o i) j)

numbers_form : {A : Type 0} (show : A → Text) (Over : A → Type 0) (word : Text) (f : ℕ → ℕ → A) → ((i j : ℕ) → show (f i j) ≡ word ++ numerals i j) → ((i j : ℕ) → Over (f i j)) → IsForm show Over (word, numbers_line f)
numbers_form show Over word f e o x a h =
    parted_case reads_number numeral Any number_sound x (codes " ") _ _ h (λ i y d q g. ended_case reads_number numeral Any number_sound y (f i) a g (λ j c p k.
    is_of show Over (word ++ x) (f i j) a (ap (λ w. word ++ w) (d ∙ ap (λ w. numeral i ++ (codes " " ++ w)) c ∙ sym (append_assoc (numeral i) (codes " ") (numeral j))) ∙ sym (e i j)) (o i j) k))

term_form : {A : Type 0} (show : A → Text) (Over : A → Type 0) (s : Signature) (word : Text) (f : Tm → A) → ((t : Tm) → show (f t) ≡ word ++ tm_text t) → ((t : Tm) → IsOver s [] t → Over (f t))
    → IsForm show Over (word, term_line s f)
term_form show Over s word f e o x a h =
    ended_case (reads_term s []) tm_text (IsOver s []) (term_sound s) x f a h (λ t d q j. is_of show Over (word ++ x) (f t) a (ap (λ w. word ++ w) d ∙ sym (e t)) (o t q) j)

two : (a b c : Text) → a ++ (codes " " ++ (b ++ (codes " " ++ c))) ≡ ((((a ++ codes " ") ++ b) ++ codes " ") ++ c)
two a b c = simp append_assoc

four : (a b c d : Text) → a ++ (codes " " ++ (b ++ (codes " " ++ (c ++ (codes " " ++ d))))) ≡ ((((((a ++ codes " ") ++ b) ++ codes " ") ++ c) ++ codes " ") ++ d)
four a b c d = simp append_assoc

pairs_over : (s : Signature) (ps : VarSubst) → Each (IsPairOver s) ps → AreOver s ps
pairs_over s [] o = tt
pairs_over s (p ∷ ps) o = (o.0.0, o.0.1, pairs_over s ps o.1)

types_over : (s : Signature) (ps : TySubst) → Each (IsTypePairOver s) ps → (list_all (λ p. is_segment p.0) ps ≡ true) × AreTypesOver s ps
types_over s [] o = (refl, tt)
types_over s (p ∷ ps) o = let r = types_over s ps o.1 in (and_from (is_segment p.0) (list_all (λ q. is_segment q.0) ps) o.0.0 r.0, (o.0.1, r.1))

step_forms_sound : (s : Signature) → AreForms step_text (IsStepOver s) (step_forms s)
unfolding reads_type_pairs reads_pairs
step_forms_sound s = (
  terms (codes "refl ") step_refl (λ t. refl) (λ t o. o),
  (
    numbers (codes "trans ") step_trans (λ i j. refl) (λ i j. tt),
    (
      numbers (codes "comb ") step_comb (λ i j. refl) (λ i j. tt),
      (
        abs,
        (
          terms (codes "beta ") step_beta (λ t. refl) (λ t o. o),
          (
            terms (codes "assume ") step_assume (λ t. refl) (λ t o. o),
            (
              numbers (codes "mp ") step_mp (λ i j. refl) (λ i j. tt),
              (
                numbers (codes "deduct ") step_deduct (λ i j. refl) (λ i j. tt),
                (
                  inst_type,
                  (
                    inst,
                    (number_form step_text (IsStepOver s) (codes "axiom ") step_axiom (λ k. refl) (λ k. tt), tt),
                  ),
                ),
              ),
            ),
          ),
        ),
      ),
    ),
  ),
)
  where
    terms : (word : Text) (f : Tm → LogStep) → ((t : Tm) → step_text (f t) ≡ word ++ tm_text t) → ((t : Tm) → IsOver s [] t → IsStepOver s (f t)) → IsForm step_text (IsStepOver s) (word, term_line s f)
    terms word f e o = term_form step_text (IsStepOver s) s word f e o

    numbers : (word : Text) (f : ℕ → ℕ → LogStep) → ((i j : ℕ) → step_text (f i j) ≡ word ++ numerals i j) → ((i j : ℕ) → IsStepOver s (f i j)) → IsForm step_text (IsStepOver s) (word, numbers_line f)
    numbers word f e o = numbers_form step_text (IsStepOver s) word f e o

    abs : (x : Text) (a : LogStep) → abs_step s x ≡ Some a → IsOf step_text (IsStepOver s) (codes "abs " ++ x) a
    abs x a h =
        parted_case (reads_free s) free_text (IsFreeOver s) (free_sound s) x (codes " ") _ _ h (λ v y d q g. ended_case reads_number numeral Any number_sound y (step_abs v) a g (λ i c p k.
        is_of step_text (IsStepOver s) (codes "abs " ++ x) (step_abs v i) a (ap (λ w. codes "abs " ++ w) (d ∙ ap (λ w. free_text v ++ (codes " " ++ w)) c ∙ sym (append_assoc (free_text v) (codes " ") (numeral i)))) q k))

    inst_type : (x : Text) (a : LogStep) → inst_type_step s x ≡ Some a → IsOf step_text (IsStepOver s) (codes "insttype " ++ x) a
    inst_type x a h =
        parted_case reads_number numeral Any number_sound x (codes " ") _ _ h (λ i y d q g. bind_case _ _ _ g (λ ps c k.
        let r = pairs_sound (reads_type_pair s) type_pair_text (IsTypePairOver s) (type_pair_sound s) (suc (length y)) y ps c in
        let t = types_over s ps r.over in
        is_of step_text (IsStepOver s) (codes "insttype " ++ x) (step_inst_type i ps) a
        (ap (λ w. codes "insttype " ++ w) (d ∙ ap (λ w. numeral i ++ (codes " " ++ w)) r.text ∙ sym (append_assoc (numeral i) (codes " ") (with_semicolons (map type_pair_text ps))))) (r.some, t.0, t.1) k))

    inst : (x : Text) (a : LogStep) → inst_step s x ≡ Some a → IsOf step_text (IsStepOver s) (codes "inst " ++ x) a
    inst x a h =
        parted_case reads_number numeral Any number_sound x (codes " ") _ _ h (λ i y d q g. bind_case _ _ _ g (λ ps c k.
        let r = pairs_sound (reads_pair s) pair_text (IsPairOver s) (pair_sound s) (suc (length y)) y ps c in
        is_of step_text (IsStepOver s) (codes "inst " ++ x) (step_inst i ps) a
        (ap (λ w. codes "inst " ++ w) (d ∙ ap (λ w. numeral i ++ (codes " " ++ w)) r.text ∙ sym (append_assoc (numeral i) (codes " ") (with_semicolons (map pair_text ps))))) (r.some, pairs_over s ps r.over) k))

line_forms_sound : (s : Signature) → AreForms line_text (IsLineOver s) (line_forms s)
line_forms_sound s =
    (first, (const, (type, (number_form line_text (IsLineOver s) (codes "base ") line_base (λ k. refl) (λ k. tt), (section, (name, (number_form line_text (IsLineOver s) (codes "end ") line_end (λ k. refl) (λ k. tt), (stop, tt))))))))
  where
    first : (x : Text) (a : LogLine) → when (length x == 0) (Some line_first) ≡ Some a → IsOf line_text (IsLineOver s) (codes "hbnf-log 1" ++ x) a
    first x a h = when_case _ _ _ h (λ e g. is_of line_text (IsLineOver s) (codes "hbnf-log 1" ++ x) line_first a (ap (λ w. codes "hbnf-log 1" ++ w) (nothing x e)) tt g)

    const : (x : Text) (a : LogLine) → const_line s x ≡ Some a → IsOf line_text (IsLineOver s) (codes "const " ++ x) a
    const x a h =
        parted_case reads_name itself IsName name_sound x (codes " := ") _ _ h (λ c y d q g. ended_case (reads_term s []) tm_text (IsOver s []) (term_sound s) y (line_const c) a g (λ t e o k.
        is_of line_text (IsLineOver s) (codes "const " ++ x) (line_const c t) a (ap (λ w. codes "const " ++ w) (d ∙ ap (λ w. c ++ (codes " := " ++ w)) e ∙ sym (append_assoc c (codes " := ") (tm_text t)))) (q, o) k))

    type : (x : Text) (a : LogLine) → type_line x ≡ Some a → IsOf line_text (IsLineOver s) (codes "type " ++ x) a
    type x a h =
        parted_case reads_name itself IsName name_sound x (codes " ") _ _ h (λ c y d q g. ended_case reads_number numeral Any number_sound y (line_type c) a g (λ i e o k.
        is_of line_text (IsLineOver s) (codes "type " ++ x) (line_type c i) a (ap (λ w. codes "type " ++ w) (d ∙ ap (λ w. c ++ (codes " " ++ w)) e ∙ sym (append_assoc c (codes " ") (numeral i)))) q k))

    section : (x : Text) (a : LogLine) → section_line x ≡ Some a → IsOf line_text (IsLineOver s) (codes "section " ++ x) a
    section x a h = when_case _ _ _ h (λ e g. is_of line_text (IsLineOver s) (codes "section " ++ x) (line_section x) a refl e g)

    name : (x : Text) (a : LogLine) → name_line s x ≡ Some a → IsOf line_text (IsLineOver s) (codes "name " ++ x) a
    name x a h =
        parted_case reads_name itself IsName name_sound x (codes " ") _ _ h (λ c y d q g. parted_case reads_number numeral Any number_sound y (codes " ") _ _ g (λ i z e o j.
        ended_case (reads_term s []) tm_text (IsOver s []) (term_sound s) z (line_name c i) a j (λ t f p k.
        is_of line_text (IsLineOver s) (codes "name " ++ x) (line_name c i t) a
        (ap (λ w. codes "name " ++ w) (d ∙ ap (λ w. c ++ (codes " " ++ w)) (e ∙ ap (λ w. numeral i ++ (codes " " ++ w)) f) ∙ two c (numeral i) (tm_text t))) (q, p) k)))

    stop : (x : Text) (a : LogLine) → stop_line x ≡ Some a → IsOf line_text (IsLineOver s) (codes "stop " ++ x) a
    stop x a h =
        parted_case reads_number numeral Any number_sound x (codes " ") _ _ h (λ n y d q g. parted_case reads_word itself IsWord word_sound y (codes " ") _ _ g (λ test z e o j.
        parted_case reads_word itself IsWord word_sound z (codes " ") _ _ j (λ c v f p k. ended_case reads_number numeral Any number_sound v (line_stop n test c) a k (λ i m r l.
        is_of line_text (IsLineOver s) (codes "stop " ++ x) (line_stop n test c i) a
        (ap (λ w. codes "stop " ++ w) (d ∙ ap (λ w. numeral n ++ (codes " " ++ w)) (e ∙ ap (λ w. test ++ (codes " " ++ w)) (f ∙ ap (λ w. c ++ (codes " " ++ w)) m)) ∙ four (numeral n) test c (numeral i))) (o, p) l))))

pub line_sound : (s : Signature) (x : Text) (l : LogLine) → reads_line s x ≡ Some l → IsOf line_text (IsLineOver s) x l
unfolding reads_line reads_step
line_sound s x l h =
    by_form_sound line_text (IsLineOver s) (line_forms s) _ x l (line_forms_sound s) (λ e. bind_case _ _ _ e (λ a d g.
    let r = by_form_sound step_text (IsStepOver s) (step_forms s) None x a (step_forms_sound s) (λ f. none a f) d in
    is_of line_text (IsLineOver s) x (line_step a) l r.text r.over g)) h
  where
    none : (a : LogStep) → None ≡ Some a → IsOf step_text (IsStepOver s) x a
    none a f = cc

-- ---- each line is read

term_end : {A : Type 0} (s : Signature) → ReadsBack s → (f : Tm → A) (t : Tm) → IsOver s [] t → length (tm_text t) < 2 ^ 64 → term_line s f (tm_text t) ≡ Some (f t)
unfolding behind
term_end s b f t o l = ended_some (reads_term s []) tm_text (IsShort s) ends_term (term_complete s b) t f (o, l) refl

number_end : {A : Type 0} (f : ℕ → A) (n : ℕ) → number_line f (numeral n) ≡ Some (f n)
number_end f n = ended_some reads_number numeral Any (stops is_ascii_digit) number_complete n f tt refl

-- a number and the space behind it
number_then : {A : Type 0} (i : ℕ) (y : Text) (f : ℕ → Text → Option A) → parted (reads_number (numeral i ++ (codes " " ++ y))) (codes " ") f ≡ f i y
number_then i y f = parted_some reads_number numeral Any (stops is_ascii_digit) number_complete i (codes " ") y f tt refl

numbers_end : {A : Type 0} (f : ℕ → ℕ → A) (i j : ℕ) → numbers_line f (numerals i j) ≡ Some (f i j)
numbers_end f i j = ap (numbers_line f) (append_assoc (numeral i) (codes " ") (numeral j)) ∙ number_then i (numeral j) _ ∙ number_end (f i) j

word_then : {A : Type 0} (w y : Text) (f : Text → Text → Option A) → IsWord w → parted (reads_word (w ++ (codes " " ++ y))) (codes " ") f ≡ f w y
word_then w y f o = parted_some reads_word itself IsWord (stops is_no_space) word_complete w (codes " ") y f o refl

name_then : {A : Type 0} (c sign y : Text) (f : Name → Text → Option A) → IsName c → ends_word (sign ++ y) ≡ true → parted (reads_name (c ++ (sign ++ y))) sign f ≡ f c y
name_then c sign y f o e = parted_some reads_name itself IsName ends_word name_complete c sign y f o e

each_type : (s : Signature) (ps : TySubst) → list_all (λ p. is_segment p.0) ps ≡ true → AreTypesOver s ps → Each (IsTypePairOver s) ps
each_type s [] h o = tt
each_type s (p ∷ ps) h o = let q = and_parts (is_segment p.0) (list_all (λ r. is_segment r.0) ps) h in ((q.0, o.0), each_type s ps q.1 o.1)

each_pair : (s : Signature) (ps : VarSubst) → AreOver s ps → Each (IsPairOver s) ps
each_pair s [] o = tt
each_pair s (p ∷ ps) o = ((o.0, o.1), each_pair s ps o.2)

type_pairs_read : (s : Signature) → ReadsBack s → (ps : TySubst) → some_pair ps ≡ true → list_all (λ p. is_segment p.0) ps ≡ true → AreTypesOver s ps → length (with_semicolons (map type_pair_text ps)) < 2 ^ 64
    → reads_type_pairs s (with_semicolons (map type_pair_text ps)) ≡ Some ps
unfolding reads_type_pairs behind
type_pairs_read s b [] h g o l = cc
type_pairs_read s b (p ∷ ps) h g o l =
    let e = each_type s (p ∷ ps) g o in
    pairs_complete (reads_type_pair s) type_pair_text (IsTypePairOver s) ends_type (λ q rest k z. type_pair_complete s b q rest k.0 z) refl (λ y. refl) (suc (length (with_semicolons (map type_pair_text (p ∷ ps))))) p ps e.0 e.1 (omega arith) l

pairs_read : (s : Signature) → ReadsBack s → (ps : VarSubst) → some_pair ps ≡ true → AreOver s ps → length (with_semicolons (map pair_text ps)) < 2 ^ 64 → reads_pairs s (with_semicolons (map pair_text ps)) ≡ Some ps
unfolding reads_pairs behind
pairs_read s b [] h o l = cc
pairs_read s b (p ∷ ps) h o l =
    let e = each_pair s (p ∷ ps) o in
    pairs_complete (reads_pair s) pair_text (IsPairOver s) ends_term (λ q rest k z. pair_complete s b q rest (k.0, k.1) z) refl (λ y. refl) (suc (length (with_semicolons (map pair_text (p ∷ ps))))) p ps e.0 e.1 (omega arith) l

step_read : (s : Signature) → ReadsBack s → (l : LogStep) → IsStepOver s l → length (step_text l) < 2 ^ 64 → reads_step s (step_text l) ≡ Some l
unfolding reads_step by_form_of either behind
step_read s b (step_refl t) o k = term_end s b step_refl t o (omega (arith, k))
step_read s b (step_trans i j) o k = numbers_end step_trans i j
step_read s b (step_comb i j) o k = numbers_end step_comb i j
step_read s b (step_abs v i) o k =
    ap (abs_step s) (append_assoc (free_text v) (codes " ") (numeral i)) ∙ parted_some (reads_free s) free_text (IsFreeOver s) anywhere (free_complete s b) v (codes " ") (numeral i) _ o refl ∙ number_end (step_abs v) i
step_read s b (step_beta t) o k = term_end s b step_beta t o (omega (arith, k))
step_read s b (step_assume t) o k = term_end s b step_assume t o (omega (arith, k))
step_read s b (step_mp i j) o k = numbers_end step_mp i j
step_read s b (step_deduct i j) o k = numbers_end step_deduct i j
step_read s b (step_inst_type i ps) o k =
    let pairs = with_semicolons (map type_pair_text ps) in
    ap (inst_type_step s) (append_assoc (numeral i) (codes " ") pairs) ∙ number_then i pairs _
    ∙ bind_some _ _ ps (type_pairs_read s b ps o.0 o.1 o.2 (omega (arith, k, length-append (numeral i ++ codes " ") pairs)))
step_read s b (step_inst i ps) o k =
    let pairs = with_semicolons (map pair_text ps) in
    ap (inst_step s) (append_assoc (numeral i) (codes " ") pairs) ∙ number_then i pairs _
    ∙ bind_some _ _ ps (pairs_read s b ps o.0 o.1 (omega (arith, k, length-append (numeral i ++ codes " ") pairs)))
step_read s b (step_axiom i) o k = number_end step_axiom i

-- the forms of other lines begin otherwise
no_line_form : (s : Signature) (o : Option LogLine) (l : LogStep) → by_form_of (line_forms s) o (step_text l) ≡ o
unfolding by_form_of either behind
no_line_form s o (step_refl t) = refl
no_line_form s o (step_trans i j) = refl
no_line_form s o (step_comb i j) = refl
no_line_form s o (step_abs v i) = refl
no_line_form s o (step_beta t) = refl
no_line_form s o (step_assume t) = refl
no_line_form s o (step_mp i j) = refl
no_line_form s o (step_deduct i j) = refl
no_line_form s o (step_inst_type i ps) = refl
no_line_form s o (step_inst i ps) = refl
no_line_form s o (step_axiom i) = refl

pub line_complete : (s : Signature) → ReadsBack s → (l : LogLine) → IsLineOver s l → length (line_text l) < 2 ^ 64 → reads_line s (line_text l) ≡ Some l
unfolding reads_line by_form_of either behind when
line_complete s b line_first o k = refl
line_complete s b (line_step l) o k = no_line_form s _ l ∙ bind_some _ _ l (step_read s b l o k)
line_complete s b (line_const c t) o k =
    ap (const_line s) (append_assoc c (codes " := ") (tm_text t)) ∙ name_then c (codes " := ") (tm_text t) _ o.0 refl
    ∙ term_end s b (line_const c) t o.1 (omega (arith, k, length-append (c ++ codes " := ") (tm_text t)))
line_complete s b (line_type c i) o k = ap type_line (append_assoc c (codes " ") (numeral i)) ∙ name_then c (codes " ") (numeral i) _ o refl ∙ number_end (line_type c) i
line_complete s b (line_base m) o k = number_end line_base m
line_complete s b (line_section t) o k = when_true _ _ o
line_complete s b (line_name c i t) o k =
    ap (name_line s) (sym (two c (numeral i) (tm_text t))) ∙ name_then c (codes " ") (numeral i ++ (codes " " ++ tm_text t)) _ o.0 refl ∙ number_then i (tm_text t) _
    ∙ term_end s b (line_name c i) t o.1 (omega (arith, k, length-append (((c ++ codes " ") ++ numeral i) ++ codes " ") (tm_text t)))
line_complete s b (line_end m) o k = number_end line_end m
line_complete s b (line_stop n test c i) o k =
    ap stop_line (sym (four (numeral n) test c (numeral i))) ∙ number_then n (test ++ (codes " " ++ (c ++ (codes " " ++ numeral i)))) _ ∙ word_then test (c ++ (codes " " ++ numeral i)) _ o.0
    ∙ word_then c (numeral i) _ o.1 ∙ number_end (line_stop n test c) i
