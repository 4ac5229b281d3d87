-- The text of a line over conservative definitions has no newline.
use Rattle.std.proofs.Common.{◌≡◌, ℕ, true, not, ◌&&◌, ◌==◌, List, [], ◌∷◌, ◌++◌, length, map, refl, codes}
use Rattle.std.specs.List.{list_all, flat_map}
use Rattle.std.specs.Str.{is_utf8}
use Rattle.std.proofs.lemmas.Bool.{and_parts, and_from}
use Rattle.hol_terms.specs.Name.{is_segment}
use Rattle.hol_terms.specs.Ty.{Ty}
use Rattle.hol_terms.specs.Tm.{tm_free}
use Rattle.hol_terms.specs.Subst.{TySubst}
use Rattle.hol_terms.specs.Binding.{VarSubst}
use Rattle.hol_terms.specs.Signature.{IsTyOver}
use Rattle.hol_terms.specs.Definition.{Definition, signature_of}
use Rattle.hol_terms.specs.Proves.{AreConservative, AreTypesOver, AreOver}
use Rattle.hol_terms.specs.Text.{Text, ty_text, tm_text}
use Rattle.hol_logs.specs.Step.{LogStep, step_refl, step_trans, step_comb, step_abs, step_beta, step_assume, step_mp, step_deduct, step_inst_type, step_inst, step_axiom, numeral, numerals, with_semicolons, type_pair_text, pair_text, step_text, IsStepOver}
use Rattle.hol_logs.specs.Line.{LogLine, line_first, line_step, line_const, line_type, line_base, line_section, line_name, line_end, line_stop, line_text, is_word, IsLineOver}
use Rattle.log_laws.proofs.Lacking.{numeral_lacks, segment_lacks, name_lacks, type_lacks_over, type_text_lacks}
use Rattle.log_laws.proofs.Lines.{is_line, line_append, foreign, no_type}
use Rattle.log_laws.proofs.DefinitionLines.{names_are_names, text_of_term}

number : (i : ℕ) → is_line (numeral i) ≡ true
number i = numeral_lacks 10 foreign i

text_of_type : (ds : List Definition) (t : Ty) → AreConservative ds → IsTyOver (signature_of ds) t → is_line (ty_text t) ≡ true
text_of_type ds t c o = type_text_lacks 10 no_type t (type_lacks_over 10 foreign (signature_of ds) t (names_are_names ds c) o)

two_numbers : (i j : ℕ) → is_line (numerals i j) ≡ true
two_numbers i j = line_append (numeral i ++ codes " ") (numeral j) (line_append (numeral i) (codes " ") (number i) refl) (number j)

-- ---- pairs

rest_lines : (xs : List Text) → list_all is_line xs ≡ true → is_line (flat_map (λ y. codes " ; " ++ y) xs) ≡ true
rest_lines [] h = refl
rest_lines (x ∷ xs) h =
    let p = and_parts (is_line x) (list_all is_line xs) h in
    line_append (codes " ; " ++ x) (flat_map (λ y. codes " ; " ++ y) xs) (line_append (codes " ; ") x refl p.0) (rest_lines xs p.1)

all_pairs : (xs : List Text) → list_all is_line xs ≡ true → is_line (with_semicolons xs) ≡ true
all_pairs [] h = refl
all_pairs (x ∷ xs) h = let p = and_parts (is_line x) (list_all is_line xs) h in line_append x (flat_map (λ y. codes " ; " ++ y) xs) p.0 (rest_lines xs p.1)

type_pairs : (ds : List Definition) (s : TySubst) → AreConservative ds → list_all (λ p. is_segment p.0) s ≡ true → AreTypesOver (signature_of ds) s → list_all is_line (map type_pair_text s) ≡ true
type_pairs ds [] c h o = refl
type_pairs ds (q ∷ s) c h o =
    let p = and_parts (is_segment q.0) (list_all (λ r. is_segment r.0) s) h in
    let named = line_append (codes "'") q.0 refl (segment_lacks 10 foreign q.0 p.0) in
    let one : is_line (type_pair_text q) ≡ true = line_append (codes "'" ++ q.0 ++ codes " := ") (ty_text q.1) (line_append (codes "'" ++ q.0) (codes " := ") named refl) (text_of_type ds q.1 c o.0) in
    and_from (is_line (type_pair_text q)) (list_all is_line (map type_pair_text s)) one (type_pairs ds s c p.1 o.1)

pairs : (ds : List Definition) (s : VarSubst) → AreConservative ds → AreOver (signature_of ds) s → list_all is_line (map pair_text s) ≡ true
pairs ds [] c o = refl
pairs ds (q ∷ s) c o =
    let var = text_of_term ds (tm_free q.0) c o.0 in
    let one : is_line (pair_text q) ≡ true = line_append (tm_text (tm_free q.0) ++ codes " := ") (tm_text q.1) (line_append (tm_text (tm_free q.0)) (codes " := ") var refl) (text_of_term ds q.1 c o.1) in
    and_from (is_line (pair_text q)) (list_all is_line (map pair_text s)) one (pairs ds s c o.2)

-- ---- steps

step_is_line : (ds : List Definition) (s : LogStep) → AreConservative ds → IsStepOver (signature_of ds) s → is_line (step_text s) ≡ true
step_is_line ds (step_refl t) c o = line_append (codes "refl ") (tm_text t) refl (text_of_term ds t c o)
step_is_line ds (step_trans i j) c o = line_append (codes "trans ") (numerals i j) refl (two_numbers i j)
step_is_line ds (step_comb i j) c o = line_append (codes "comb ") (numerals i j) refl (two_numbers i j)
step_is_line ds (step_abs v i) c o =
    let var = line_append (codes "abs ") (tm_text (tm_free v)) refl (text_of_term ds (tm_free v) c o) in
    line_append (codes "abs " ++ tm_text (tm_free v) ++ codes " ") (numeral i) (line_append (codes "abs " ++ tm_text (tm_free v)) (codes " ") var refl) (number i)
step_is_line ds (step_beta t) c o = line_append (codes "beta ") (tm_text t) refl (text_of_term ds t c o)
step_is_line ds (step_assume t) c o = line_append (codes "assume ") (tm_text t) refl (text_of_term ds t c o)
step_is_line ds (step_mp i j) c o = line_append (codes "mp ") (numerals i j) refl (two_numbers i j)
step_is_line ds (step_deduct i j) c o = line_append (codes "deduct ") (numerals i j) refl (two_numbers i j)
step_is_line ds (step_inst_type i s) c o =
    let front = line_append (codes "insttype " ++ numeral i) (codes " ") (line_append (codes "insttype ") (numeral i) refl (number i)) refl in
    line_append (codes "insttype " ++ numeral i ++ codes " ") (with_semicolons (map type_pair_text s)) front (all_pairs (map type_pair_text s) (type_pairs ds s c o.1 o.2))
step_is_line ds (step_inst i s) c o =
    let front = line_append (codes "inst " ++ numeral i) (codes " ") (line_append (codes "inst ") (numeral i) refl (number i)) refl in
    line_append (codes "inst " ++ numeral i ++ codes " ") (with_semicolons (map pair_text s)) front (all_pairs (map pair_text s) (pairs ds s c o.1))
step_is_line ds (step_axiom k) c o = line_append (codes "axiom ") (numeral k) refl (number k)

-- ---- lines

word_line : (w : Text) → list_all (λ b. not (b == 32) && not (b == 10)) w ≡ true → is_line w ≡ true
word_line [] h = refl
word_line (b ∷ w) h =
    let p = and_parts (not (b == 32) && not (b == 10)) (list_all (λ b. not (b == 32) && not (b == 10)) w) h in
    and_from (not (b == 10)) (is_line w) (and_parts (not (b == 32)) (not (b == 10)) p.0).1 (word_line w p.1)

word_is_line : (w : Text) → is_word w ≡ true → is_line w ≡ true
word_is_line w h = word_line w (and_parts (is_utf8 w && not (length w == 0)) _ h).1

spaced : (a b : Text) → is_line a ≡ true → is_line b ≡ true → is_line (a ++ codes " " ++ b) ≡ true
spaced a b h g = line_append (a ++ codes " ") b (line_append a (codes " ") h refl) g

pub line_is_line : (ds : List Definition) (l : LogLine) → AreConservative ds → IsLineOver (signature_of ds) l → is_line (line_text l) ≡ true
line_is_line ds line_first c o = refl
line_is_line ds (line_step s) c o = step_is_line ds s c o
line_is_line ds (line_const n t) c o =
    let front = line_append (codes "const ") n refl (name_lacks 10 foreign n o.0) in
    line_append (codes "const " ++ n ++ codes " := ") (tm_text t) (line_append (codes "const " ++ n) (codes " := ") front refl) (text_of_term ds t c o.1)
line_is_line ds (line_type n i) c o = spaced (codes "type " ++ n) (numeral i) (line_append (codes "type ") n refl (name_lacks 10 foreign n o)) (number i)
line_is_line ds (line_base m) c o = line_append (codes "base ") (numeral m) refl (number m)
line_is_line ds (line_section t) c o = line_append (codes "section ") t refl (and_parts (is_utf8 t) (is_line t) (and_parts (is_utf8 t && is_line t) _ o).0).1
line_is_line ds (line_name n i t) c o =
    let front = spaced (codes "name " ++ n) (numeral i) (line_append (codes "name ") n refl (name_lacks 10 foreign n o.0)) (number i) in
    spaced (codes "name " ++ n ++ codes " " ++ numeral i) (tm_text t) front (text_of_term ds t c o.1)
line_is_line ds (line_end k) c o = line_append (codes "end ") (numeral k) refl (number k)
line_is_line ds (line_stop k test name place) c o =
    let counted = line_append (codes "stop ") (numeral k) refl (number k) in
    let tested = spaced (codes "stop " ++ numeral k) test counted (word_is_line test o.0) in
    let named = spaced (codes "stop " ++ numeral k ++ codes " " ++ test) name tested (word_is_line name o.1) in
    spaced (codes "stop " ++ numeral k ++ codes " " ++ test ++ codes " " ++ name) (numeral place) named (number place)
