-- Two lines over one signature with the same text are the same line.
use Rattle.std.proofs.Common.{◌≡◌, ℕ, suc, ◌<◌, ◌^◌, true, not, ◌&&◌, ◌==◌, List, [], ◌∷◌, ◌++◌, length, map, codes, refl, sym, ap, ◌∙◌, subst, append_assoc, arith}
use Rattle.std.specs.Prelude.{bytes_eq, nat_lt, if◌then◌else◌}
use Rattle.std.specs.List.{list_all}
use Rattle.std.specs.Str.{is_utf8}
use Rattle.std.proofs.lemmas.Bool.{and_parts, and_from}
use Rattle.std.proofs.lemmas.List.{append_cancel_left, length-append}
use Rattle.hol_terms.specs.Name.{Name, is_segment}
use Rattle.hol_terms.specs.Ty.{Ty}
use Rattle.hol_terms.specs.Tm.{Tm, tm_free, FreeVar}
use Rattle.hol_terms.specs.Subst.{TySubst}
use Rattle.hol_terms.specs.Binding.{VarSubst}
use Rattle.hol_terms.specs.Signature.{Signature, IsTyOver, IsOver}
use Rattle.hol_terms.specs.Rules.{some_pair}
use Rattle.hol_terms.specs.Proves.{AreTypesOver, AreOver}
use Rattle.hol_terms.specs.ReadsBack.{ReadsBack}
use Rattle.hol_terms.specs.Text.{Text, ty_text, tm_text}
use Rattle.hol_text.proofs.ReadBack.{type_by_text, term_by_text}
use Rattle.hol_logs.specs.Step.{LogStep, step_refl, step_trans, step_comb, step_abs, step_beta, step_assume, step_mp, step_deduct, step_inst_type, step_inst, step_axiom, numeral, with_semicolons, type_pair_text, pair_text}
use Rattle.hol_logs.specs.Line.{LogLine, line_first, line_step, line_const, line_type, line_base, line_section, line_name, line_end, line_stop, line_text, is_word, IsLineOver}
use Rattle.hol_logs.proofs.Numerals.{same_number}
use Rattle.log_laws.proofs.Lacking.{lacks, lacks_append, AreNamed, IsForeign, IsNoType, IsNoTerm, segment_lacks, name_lacks, numeral_lacks, type_lacks_over, type_text_lacks, term_lacks_over, term_text_lacks}
use Rattle.log_laws.proofs.Cuts.{cut, same_parts, AreShort, parts_short}

-- ---- bytes that part what stands beside them

space : IsForeign 32
space = record { ascii = omega arith; start = refl; more = refl; dot = refl; digit = refl }

bracket : IsNoType 93
bracket = record { foreign = record { ascii = omega arith; start = refl; more = refl; dot = refl; digit = refl }; types = refl }

semicolon : IsNoTerm 59
semicolon = record { outside = record { foreign = record { ascii = omega arith; start = refl; more = refl; dot = refl; digit = refl }; types = refl }; terms = refl }

named : (s : Signature) → ReadsBack s → AreNamed s
named s r = record { types = r.types_named; consts = r.constants_named }

-- ---- a line's first word, and what stands behind it

abbrev word : LogLine → Text
word line_first = codes "hbnf-log"
word (line_step (step_refl t)) = codes "refl"
word (line_step (step_trans i j)) = codes "trans"
word (line_step (step_comb i j)) = codes "comb"
word (line_step (step_abs v i)) = codes "abs"
word (line_step (step_beta t)) = codes "beta"
word (line_step (step_assume t)) = codes "assume"
word (line_step (step_mp i j)) = codes "mp"
word (line_step (step_deduct i j)) = codes "deduct"
word (line_step (step_inst_type i ps)) = codes "insttype"
word (line_step (step_inst i ps)) = codes "inst"
word (line_step (step_axiom k)) = codes "axiom"
word (line_const c t) = codes "const"
word (line_type c i) = codes "type"
word (line_base m) = codes "base"
word (line_section t) = codes "section"
word (line_name c i t) = codes "name"
word (line_end k) = codes "end"
word (line_stop k test name place) = codes "stop"

-- `[v:TYPE` of a free variable
abbrev front : FreeVar → Text
front v = codes "[" ++ v.name ++ codes ":" ++ ty_text v.ty

abbrev body : LogLine → Text
body line_first = codes "1"
body (line_step (step_refl t)) = tm_text t
body (line_step (step_trans i j)) = numeral i ++ 32 ∷ numeral j
body (line_step (step_comb i j)) = numeral i ++ 32 ∷ numeral j
body (line_step (step_abs v i)) = front v ++ 93 ∷ 32 ∷ numeral i
body (line_step (step_beta t)) = tm_text t
body (line_step (step_assume t)) = tm_text t
body (line_step (step_mp i j)) = numeral i ++ 32 ∷ numeral j
body (line_step (step_deduct i j)) = numeral i ++ 32 ∷ numeral j
body (line_step (step_inst_type i ps)) = numeral i ++ 32 ∷ with_semicolons (map type_pair_text ps)
body (line_step (step_inst i ps)) = numeral i ++ 32 ∷ with_semicolons (map pair_text ps)
body (line_step (step_axiom k)) = numeral k
body (line_const c t) = c ++ 32 ∷ 58 ∷ 61 ∷ 32 ∷ tm_text t
body (line_type c i) = c ++ 32 ∷ numeral i
body (line_base m) = numeral m
body (line_section t) = t
body (line_name c i t) = c ++ 32 ∷ (numeral i ++ 32 ∷ tm_text t)
body (line_end k) = numeral k
body (line_stop k test name place) = numeral k ++ 32 ∷ (test ++ 32 ∷ (name ++ 32 ∷ numeral place))

two : (i j : Text) → (i ++ codes " ") ++ j ≡ i ++ 32 ∷ j
two i j = append_assoc i (codes " ") j

line_text-parts : (l : LogLine) → line_text l ≡ word l ++ 32 ∷ body l
line_text-parts line_first = refl
line_text-parts (line_step (step_refl t)) = refl
line_text-parts (line_step (step_trans i j)) = ap (λ x. codes "trans " ++ x) (two (numeral i) (numeral j))
line_text-parts (line_step (step_comb i j)) = ap (λ x. codes "comb " ++ x) (two (numeral i) (numeral j))
line_text-parts (line_step (step_abs v i)) = ap (λ x. codes "abs " ++ x) (two (front v ++ codes "]") (numeral i) ∙ append_assoc (front v) (codes "]") (32 ∷ numeral i))
line_text-parts (line_step (step_beta t)) = refl
line_text-parts (line_step (step_assume t)) = refl
line_text-parts (line_step (step_mp i j)) = ap (λ x. codes "mp " ++ x) (two (numeral i) (numeral j))
line_text-parts (line_step (step_deduct i j)) = ap (λ x. codes "deduct " ++ x) (two (numeral i) (numeral j))
line_text-parts (line_step (step_inst_type i ps)) = ap (λ x. codes "insttype " ++ x) (two (numeral i) (with_semicolons (map type_pair_text ps)))
line_text-parts (line_step (step_inst i ps)) = ap (λ x. codes "inst " ++ x) (two (numeral i) (with_semicolons (map pair_text ps)))
line_text-parts (line_step (step_axiom k)) = refl
line_text-parts (line_const c t) = ap (λ x. codes "const " ++ x) (append_assoc c (codes " := ") (tm_text t))
line_text-parts (line_type c i) = ap (λ x. codes "type " ++ x) (two c (numeral i))
line_text-parts (line_base m) = refl
line_text-parts (line_section t) = refl
line_text-parts (line_name c i t) =
    ap (λ x. codes "name " ++ x) (two ((c ++ codes " ") ++ numeral i) (tm_text t) ∙ append_assoc (c ++ codes " ") (numeral i) (32 ∷ tm_text t) ∙ append_assoc c (codes " ") (numeral i ++ 32 ∷ tm_text t))
line_text-parts (line_end k) = refl
line_text-parts (line_stop k test name place) =
    let tail = name ++ 32 ∷ numeral place in
    ap (λ x. codes "stop " ++ x) (
    two ((((numeral k ++ codes " ") ++ test) ++ codes " ") ++ name) (numeral place)
    ∙ append_assoc (((numeral k ++ codes " ") ++ test) ++ codes " ") name (32 ∷ numeral place)
    ∙ append_assoc ((numeral k ++ codes " ") ++ test) (codes " ") tail
    ∙ append_assoc (numeral k ++ codes " ") test (32 ∷ tail)
    ∙ append_assoc (numeral k) (codes " ") (test ++ 32 ∷ tail))

word_lacks : (l : LogLine) → lacks 32 (word l) ≡ true
word_lacks line_first = refl
word_lacks (line_step (step_refl t)) = refl
word_lacks (line_step (step_trans i j)) = refl
word_lacks (line_step (step_comb i j)) = refl
word_lacks (line_step (step_abs v i)) = refl
word_lacks (line_step (step_beta t)) = refl
word_lacks (line_step (step_assume t)) = refl
word_lacks (line_step (step_mp i j)) = refl
word_lacks (line_step (step_deduct i j)) = refl
word_lacks (line_step (step_inst_type i ps)) = refl
word_lacks (line_step (step_inst i ps)) = refl
word_lacks (line_step (step_axiom k)) = refl
word_lacks (line_const c t) = refl
word_lacks (line_type c i) = refl
word_lacks (line_base m) = refl
word_lacks (line_section t) = refl
word_lacks (line_name c i t) = refl
word_lacks (line_end k) = refl
word_lacks (line_stop k test name place) = refl

-- ---- lines by the number of their first word

abbrev words : List Text
words =
    codes "hbnf-log" ∷ codes "refl" ∷ codes "trans" ∷ codes "comb" ∷ codes "abs" ∷ codes "beta" ∷ codes "assume" ∷ codes "mp" ∷ codes "deduct" ∷ codes "insttype" ∷ codes "inst" ∷ codes "axiom"
    ∷ codes "const" ∷ codes "type" ∷ codes "base" ∷ codes "section" ∷ codes "name" ∷ codes "end" ∷ codes "stop" ∷ []

abbrev place_in : List Text → Text → ℕ
place_in [] w = 0
place_in (x ∷ xs) w = if bytes_eq x w then 0 else suc (place_in xs w)

abbrev number_of : LogLine → ℕ
number_of line_first = 0
number_of (line_step (step_refl t)) = 1
number_of (line_step (step_trans i j)) = 2
number_of (line_step (step_comb i j)) = 3
number_of (line_step (step_abs v i)) = 4
number_of (line_step (step_beta t)) = 5
number_of (line_step (step_assume t)) = 6
number_of (line_step (step_mp i j)) = 7
number_of (line_step (step_deduct i j)) = 8
number_of (line_step (step_inst_type i ps)) = 9
number_of (line_step (step_inst i ps)) = 10
number_of (line_step (step_axiom k)) = 11
number_of (line_const c t) = 12
number_of (line_type c i) = 13
number_of (line_base m) = 14
number_of (line_section t) = 15
number_of (line_name c i t) = 16
number_of (line_end k) = 17
number_of (line_stop k test name place) = 18

place_in-word : (l : LogLine) → place_in words (word l) ≡ number_of l
place_in-word line_first = refl
place_in-word (line_step (step_refl t)) = refl
place_in-word (line_step (step_trans i j)) = refl
place_in-word (line_step (step_comb i j)) = refl
place_in-word (line_step (step_abs v i)) = refl
place_in-word (line_step (step_beta t)) = refl
place_in-word (line_step (step_assume t)) = refl
place_in-word (line_step (step_mp i j)) = refl
place_in-word (line_step (step_deduct i j)) = refl
place_in-word (line_step (step_inst_type i ps)) = refl
place_in-word (line_step (step_inst i ps)) = refl
place_in-word (line_step (step_axiom k)) = refl
place_in-word (line_const c t) = refl
place_in-word (line_type c i) = refl
place_in-word (line_base m) = refl
place_in-word (line_section t) = refl
place_in-word (line_name c i t) = refl
place_in-word (line_end k) = refl
place_in-word (line_stop k test name place) = refl

-- the steps are of one kind, each other line of its own
abbrev kind_of : LogLine → ℕ
kind_of line_first = 0
kind_of (line_step s) = 1
kind_of (line_const c t) = 12
kind_of (line_type c i) = 13
kind_of (line_base m) = 14
kind_of (line_section t) = 15
kind_of (line_name c i t) = 16
kind_of (line_end k) = 17
kind_of (line_stop k test name place) = 18

abbrev kind_by : ℕ → ℕ
kind_by n = if nat_lt n 12 then (if n == 0 then 0 else 1) else n

kind_by-number : (l : LogLine) → kind_by (number_of l) ≡ kind_of l
kind_by-number line_first = refl
kind_by-number (line_step (step_refl t)) = refl
kind_by-number (line_step (step_trans i j)) = refl
kind_by-number (line_step (step_comb i j)) = refl
kind_by-number (line_step (step_abs v i)) = refl
kind_by-number (line_step (step_beta t)) = refl
kind_by-number (line_step (step_assume t)) = refl
kind_by-number (line_step (step_mp i j)) = refl
kind_by-number (line_step (step_deduct i j)) = refl
kind_by-number (line_step (step_inst_type i ps)) = refl
kind_by-number (line_step (step_inst i ps)) = refl
kind_by-number (line_step (step_axiom k)) = refl
kind_by-number (line_const c t) = refl
kind_by-number (line_type c i) = refl
kind_by-number (line_base m) = refl
kind_by-number (line_section t) = refl
kind_by-number (line_name c i t) = refl
kind_by-number (line_end k) = refl
kind_by-number (line_stop k test name place) = refl

-- ---- operands by their text

numbers : (i j k m : ℕ) → numeral i ++ 32 ∷ numeral j ≡ numeral k ++ 32 ∷ numeral m → (i ≡ k) × (j ≡ m)
numbers i j k m e =
    let c = cut 32 (numeral i) (numeral k) (numeral j) (numeral m) (numeral_lacks 32 space i) (numeral_lacks 32 space k) e in (same_number i k c.0, same_number j m c.1)

front_lacks : (s : Signature) (v : FreeVar) → ReadsBack s → IsOver s [] (tm_free v) → lacks 93 (front v) ≡ true
front_lacks s v r o =
    let ty = type_text_lacks 93 bracket v.ty (type_lacks_over 93 bracket.foreign s v.ty (named s r) o.1) in
    let opened = lacks_append 93 (codes "[") v.name refl (name_lacks 93 bracket.foreign v.name o.0) in
    lacks_append 93 (codes "[" ++ v.name ++ codes ":") (ty_text v.ty) (lacks_append 93 (codes "[" ++ v.name) (codes ":") opened refl) ty

variable_of : (v w : FreeVar) → tm_free v ≡ tm_free w → v ≡ w
variable_of v w e = cc

-- a free variable, with more behind it
same_variable : (s : Signature) (v w : FreeVar) (x y : Text) → ReadsBack s → IsOver s [] (tm_free v) → IsOver s [] (tm_free w) → length (front v ++ 93 ∷ x) < 2 ^ 64
    → front v ++ 93 ∷ x ≡ front w ++ 93 ∷ y → (v ≡ w) × (x ≡ y)
same_variable s v w x y r o p short e =
    let c = cut 93 (front v) (front w) x y (front_lacks s v r o) (front_lacks s w r p) e in
    let whole = length-append (front v) (93 ∷ x) in
    let part = length-append (front v) (codes "]") in
    let less : length (tm_text (tm_free v)) < 2 ^ 64 = omega arith in
    (variable_of v w (term_by_text s (tm_free v) (tm_free w) r o p less (ap (λ t. t ++ codes "]") c.0)), c.1)

type_pair_parts : (p : Name × Ty) → type_pair_text p ≡ 39 ∷ (p.0 ++ 32 ∷ 58 ∷ 61 ∷ 32 ∷ ty_text p.1)
type_pair_parts p = ap (λ x. 39 ∷ x) (append_assoc p.0 (codes " := ") (ty_text p.1))

cons_tail : (a : ℕ) (x y : Text) → a ∷ x ≡ a ∷ y → x ≡ y
cons_tail a x y e = cc

same_type_pair : (s : Signature) (p q : Name × Ty) → ReadsBack s → is_segment p.0 ≡ true → is_segment q.0 ≡ true → IsTyOver s p.1 → IsTyOver s q.1 → type_pair_text p ≡ type_pair_text q → p ≡ q
same_type_pair s p q r g h o u e =
    let tails = cons_tail 39 (p.0 ++ 32 ∷ 58 ∷ 61 ∷ 32 ∷ ty_text p.1) (q.0 ++ 32 ∷ 58 ∷ 61 ∷ 32 ∷ ty_text q.1) (sym (type_pair_parts p) ∙ e ∙ type_pair_parts q) in
    let c = cut 32 p.0 q.0 (58 ∷ 61 ∷ 32 ∷ ty_text p.1) (58 ∷ 61 ∷ 32 ∷ ty_text q.1) (segment_lacks 32 space p.0 g) (segment_lacks 32 space q.0 h) tails in
    let types = type_by_text s p.1 q.1 r o u (append_cancel_left (58 ∷ 61 ∷ 32 ∷ []) (ty_text p.1) (ty_text q.1) c.1) in
    λ i. (c.0 i, types i)

pair_parts : (p : FreeVar × Tm) → pair_text p ≡ front p.0 ++ 93 ∷ 32 ∷ 58 ∷ 61 ∷ 32 ∷ tm_text p.1
pair_parts p = append_assoc (front p.0 ++ codes "]") (codes " := ") (tm_text p.1) ∙ append_assoc (front p.0) (codes "]") (codes " := " ++ tm_text p.1)

same_pair : (s : Signature) (p q : FreeVar × Tm) → ReadsBack s → IsOver s [] (tm_free p.0) → IsOver s [] p.1 → IsOver s [] (tm_free q.0) → IsOver s [] q.1 → length (pair_text p) < 2 ^ 64
    → pair_text p ≡ pair_text q → p ≡ q
same_pair s p q r v t w u short e =
    let x = 32 ∷ 58 ∷ 61 ∷ 32 ∷ tm_text p.1 in
    let y = 32 ∷ 58 ∷ 61 ∷ 32 ∷ tm_text q.1 in
    let size : length (front p.0 ++ 93 ∷ x) < 2 ^ 64 = subst (λ z. length z < 2 ^ 64) (pair_parts p) short in
    let c = same_variable s p.0 q.0 x y r v w size (sym (pair_parts p) ∙ e ∙ pair_parts q) in
    let l = length-append (front p.0) (93 ∷ x) in
    let less : length (tm_text p.1) < 2 ^ 64 = omega arith in
    let terms = term_by_text s p.1 q.1 r t u less (append_cancel_left (codes " := ") (tm_text p.1) (tm_text q.1) c.1) in
    λ i. (c.0 i, terms i)

same_type_pairs : (s : Signature) (ps qs : TySubst) → ReadsBack s → list_all (λ p. is_segment p.0) ps ≡ true → list_all (λ p. is_segment p.0) qs ≡ true → AreTypesOver s ps → AreTypesOver s qs
    → map type_pair_text ps ≡ map type_pair_text qs → ps ≡ qs
same_type_pairs s [] [] r g h o u e = refl
same_type_pairs s [] (q ∷ qs) r g h o u e = cc
same_type_pairs s (p ∷ ps) [] r g h o u e = cc
same_type_pairs s (p ∷ ps) (q ∷ qs) r g h o u e =
    let a = and_parts (is_segment p.0) (list_all (λ x. is_segment x.0) ps) g in
    let b = and_parts (is_segment q.0) (list_all (λ x. is_segment x.0) qs) h in
    let heads : type_pair_text p ≡ type_pair_text q = cc in
    let tails : map type_pair_text ps ≡ map type_pair_text qs = cc in
    let first = same_type_pair s p q r a.0 b.0 o.0 u.0 heads in
    let others = same_type_pairs s ps qs r a.1 b.1 o.1 u.1 tails in
    λ i. first i ∷ others i

same_pairs : (s : Signature) (ps qs : VarSubst) → ReadsBack s → AreOver s ps → AreOver s qs → AreShort (map pair_text ps) → map pair_text ps ≡ map pair_text qs → ps ≡ qs
same_pairs s [] [] r o u k e = refl
same_pairs s [] (q ∷ qs) r o u k e = cc
same_pairs s (p ∷ ps) [] r o u k e = cc
same_pairs s (p ∷ ps) (q ∷ qs) r o u k e =
    let heads : pair_text p ≡ pair_text q = cc in
    let tails : map pair_text ps ≡ map pair_text qs = cc in
    let first = same_pair s p q r o.0 o.1 u.0 u.1 k.0 heads in
    let others = same_pairs s ps qs r o.2 u.2 k.1 tails in
    λ i. first i ∷ others i

type_pair_lacks : (s : Signature) (p : Name × Ty) → ReadsBack s → is_segment p.0 ≡ true → IsTyOver s p.1 → lacks 59 (type_pair_text p) ≡ true
type_pair_lacks s p r g o =
    let ty = type_text_lacks 59 semicolon.outside p.1 (type_lacks_over 59 semicolon.outside.foreign s p.1 (named s r) o) in
    let quoted = lacks_append 59 (codes "'") p.0 refl (segment_lacks 59 semicolon.outside.foreign p.0 g) in
    lacks_append 59 (codes "'" ++ p.0 ++ codes " := ") (ty_text p.1) (lacks_append 59 (codes "'" ++ p.0) (codes " := ") quoted refl) ty

type_pairs_lack : (s : Signature) (ps : TySubst) → ReadsBack s → list_all (λ p. is_segment p.0) ps ≡ true → AreTypesOver s ps → list_all (lacks 59) (map type_pair_text ps) ≡ true
type_pairs_lack s [] r g o = refl
type_pairs_lack s (p ∷ ps) r g o =
    let a = and_parts (is_segment p.0) (list_all (λ x. is_segment x.0) ps) g in
    and_from (lacks 59 (type_pair_text p)) (list_all (lacks 59) (map type_pair_text ps)) (type_pair_lacks s p r a.0 o.0) (type_pairs_lack s ps r a.1 o.1)

term_lacks_it : (s : Signature) (t : Tm) → ReadsBack s → IsOver s [] t → lacks 59 (tm_text t) ≡ true
term_lacks_it s t r o = term_text_lacks 59 semicolon t (term_lacks_over 59 semicolon.outside.foreign s [] t (named s r) o)

pairs_lack : (s : Signature) (ps : VarSubst) → ReadsBack s → AreOver s ps → list_all (lacks 59) (map pair_text ps) ≡ true
pairs_lack s [] r o = refl
pairs_lack s (p ∷ ps) r o =
    let first = lacks_append 59 (tm_text (tm_free p.0) ++ codes " := ") (tm_text p.1) (lacks_append 59 (tm_text (tm_free p.0)) (codes " := ") (term_lacks_it s (tm_free p.0) r o.0) refl) (term_lacks_it s p.1 r o.1) in
    and_from (lacks 59 (pair_text p)) (list_all (lacks 59) (map pair_text ps)) first (pairs_lack s ps r o.2)

some_text : {A : Type 0} (f : A → Text) (ps : List A) → some_pair ps ≡ true → 0 < length (map f ps)
some_text f [] e = cc
some_text f (p ∷ ps) e = omega arith

word_is : (w : Text) → is_word w ≡ true → lacks 32 w ≡ true
word_is w h = spaceless w (and_parts (is_utf8 w && not (length w == 0)) _ h).1
  where
    spaceless : (x : Text) → list_all (λ b. not (b == 32) && not (b == 10)) x ≡ true → lacks 32 x ≡ true
    spaceless [] g = refl
    spaceless (b ∷ x) g =
        let p = and_parts (not (b == 32) && not (b == 10)) (list_all (λ c. not (c == 32) && not (c == 10)) x) g in
        and_from (not (b == 32)) (lacks 32 x) (and_parts (not (b == 32)) (not (b == 10)) p.0).0 (spaceless x p.1)

-- ---- each line

same_inst_type : (s : Signature) (i j : ℕ) (ps qs : TySubst) → ReadsBack s → IsLineOver s (line_step (step_inst_type i ps)) → IsLineOver s (line_step (step_inst_type j qs))
    → body (line_step (step_inst_type i ps)) ≡ body (line_step (step_inst_type j qs)) → line_step (step_inst_type i ps) ≡ line_step (step_inst_type j qs)
same_inst_type s i j ps qs r o u e =
    let xs = map type_pair_text ps in
    let ys = map type_pair_text qs in
    let c = cut 32 (numeral i) (numeral j) (with_semicolons xs) (with_semicolons ys) (numeral_lacks 32 space i) (numeral_lacks 32 space j) e in
    let texts = same_parts xs ys (some_text type_pair_text ps o.0) (some_text type_pair_text qs u.0) (type_pairs_lack s ps r o.1 o.2) (type_pairs_lack s qs r u.1 u.2) c.1 in
    let pairs = same_type_pairs s ps qs r o.1 u.1 o.2 u.2 texts in
    λ k. line_step (step_inst_type (same_number i j c.0 k) (pairs k))

same_inst : (s : Signature) (i j : ℕ) (ps qs : VarSubst) → ReadsBack s → IsLineOver s (line_step (step_inst i ps)) → IsLineOver s (line_step (step_inst j qs)) → length (body (line_step (step_inst i ps))) < 2 ^ 64
    → body (line_step (step_inst i ps)) ≡ body (line_step (step_inst j qs)) → line_step (step_inst i ps) ≡ line_step (step_inst j qs)
same_inst s i j ps qs r o u k e =
    let xs = map pair_text ps in
    let ys = map pair_text qs in
    let l = length-append (numeral i) (32 ∷ with_semicolons xs) in
    let c = cut 32 (numeral i) (numeral j) (with_semicolons xs) (with_semicolons ys) (numeral_lacks 32 space i) (numeral_lacks 32 space j) e in
    let texts = same_parts xs ys (some_text pair_text ps o.0) (some_text pair_text qs u.0) (pairs_lack s ps r o.1) (pairs_lack s qs r u.1) c.1 in
    let pairs = same_pairs s ps qs r o.1 u.1 (parts_short xs (omega arith)) texts in
    λ n. line_step (step_inst (same_number i j c.0 n) (pairs n))

same_const : (s : Signature) (c d : Name) (t u : Tm) → ReadsBack s → IsLineOver s (line_const c t) → IsLineOver s (line_const d u) → length (body (line_const c t)) < 2 ^ 64
    → body (line_const c t) ≡ body (line_const d u) → line_const c t ≡ line_const d u
same_const s c d t u r o p k e =
    let l = length-append c (32 ∷ 58 ∷ 61 ∷ 32 ∷ tm_text t) in
    let x = cut 32 c d (58 ∷ 61 ∷ 32 ∷ tm_text t) (58 ∷ 61 ∷ 32 ∷ tm_text u) (name_lacks 32 space c o.0) (name_lacks 32 space d p.0) e in
    let terms = term_by_text s t u r o.1 p.1 (omega arith) (append_cancel_left (58 ∷ 61 ∷ 32 ∷ []) (tm_text t) (tm_text u) x.1) in
    λ i. line_const (x.0 i) (terms i)

same_name : (s : Signature) (c d : Name) (i j : ℕ) (t u : Tm) → ReadsBack s → IsLineOver s (line_name c i t) → IsLineOver s (line_name d j u) → length (body (line_name c i t)) < 2 ^ 64
    → body (line_name c i t) ≡ body (line_name d j u) → line_name c i t ≡ line_name d j u
same_name s c d i j t u r o p k e =
    let l = length-append c (32 ∷ (numeral i ++ 32 ∷ tm_text t)) in
    let m = length-append (numeral i) (32 ∷ tm_text t) in
    let x = cut 32 c d (numeral i ++ 32 ∷ tm_text t) (numeral j ++ 32 ∷ tm_text u) (name_lacks 32 space c o.0) (name_lacks 32 space d p.0) e in
    let y = cut 32 (numeral i) (numeral j) (tm_text t) (tm_text u) (numeral_lacks 32 space i) (numeral_lacks 32 space j) x.1 in
    let terms = term_by_text s t u r o.1 p.1 (omega arith) y.1 in
    λ n. line_name (x.0 n) (same_number i j y.0 n) (terms n)

same_stop : (s : Signature) (k m : ℕ) (a b x y : Text) (p q : ℕ) → IsLineOver s (line_stop k a x p) → IsLineOver s (line_stop m b y q) → body (line_stop k a x p) ≡ body (line_stop m b y q)
    → line_stop k a x p ≡ line_stop m b y q
same_stop s k m a b x y p q o u e =
    let f = cut 32 (numeral k) (numeral m) (a ++ 32 ∷ (x ++ 32 ∷ numeral p)) (b ++ 32 ∷ (y ++ 32 ∷ numeral q)) (numeral_lacks 32 space k) (numeral_lacks 32 space m) e in
    let g = cut 32 a b (x ++ 32 ∷ numeral p) (y ++ 32 ∷ numeral q) (word_is a o.0) (word_is b u.0) f.1 in
    let h = cut 32 x y (numeral p) (numeral q) (word_is x o.1) (word_is y u.1) g.1 in
    λ i. line_stop (same_number k m f.0 i) (g.0 i) (h.0 i) (same_number p q h.1 i)

same_type : (s : Signature) (c d : Name) (i j : ℕ) → IsLineOver s (line_type c i) → IsLineOver s (line_type d j) → body (line_type c i) ≡ body (line_type d j) → line_type c i ≡ line_type d j
same_type s c d i j o p e =
    let x = cut 32 c d (numeral i) (numeral j) (name_lacks 32 space c o) (name_lacks 32 space d p) e in
    λ n. line_type (x.0 n) (same_number i j x.1 n)

same_abs : (s : Signature) (v w : FreeVar) (i j : ℕ) → ReadsBack s → IsLineOver s (line_step (step_abs v i)) → IsLineOver s (line_step (step_abs w j)) → length (body (line_step (step_abs v i))) < 2 ^ 64
    → body (line_step (step_abs v i)) ≡ body (line_step (step_abs w j)) → line_step (step_abs v i) ≡ line_step (step_abs w j)
same_abs s v w i j r o p k e =
    let x = same_variable s v w (32 ∷ numeral i) (32 ∷ numeral j) r o p k e in
    let n = same_number i j (cons_tail 32 (numeral i) (numeral j) x.1) in
    λ m. line_step (step_abs (x.0 m) (n m))

same_step : (s : Signature) (x y : LogStep) → ReadsBack s → IsLineOver s (line_step x) → IsLineOver s (line_step y) → number_of (line_step x) ≡ number_of (line_step y) → length (body (line_step x)) < 2 ^ 64
    → body (line_step x) ≡ body (line_step y) → line_step x ≡ line_step y
same_step s (step_refl t) (step_refl u) r o p n k e = ap (λ x. line_step (step_refl x)) (term_by_text s t u r o p k e)
same_step s (step_refl t) _ r o p n k e = cc
same_step s (step_trans i j) (step_trans a b) r o p n k e = let x = numbers i j a b e in λ q. line_step (step_trans (x.0 q) (x.1 q))
same_step s (step_trans i j) _ r o p n k e = cc
same_step s (step_comb i j) (step_comb a b) r o p n k e = let x = numbers i j a b e in λ q. line_step (step_comb (x.0 q) (x.1 q))
same_step s (step_comb i j) _ r o p n k e = cc
same_step s (step_abs v i) (step_abs w j) r o p n k e = same_abs s v w i j r o p k e
same_step s (step_abs v i) _ r o p n k e = cc
same_step s (step_beta t) (step_beta u) r o p n k e = ap (λ x. line_step (step_beta x)) (term_by_text s t u r o p k e)
same_step s (step_beta t) _ r o p n k e = cc
same_step s (step_assume t) (step_assume u) r o p n k e = ap (λ x. line_step (step_assume x)) (term_by_text s t u r o p k e)
same_step s (step_assume t) _ r o p n k e = cc
same_step s (step_mp i j) (step_mp a b) r o p n k e = let x = numbers i j a b e in λ q. line_step (step_mp (x.0 q) (x.1 q))
same_step s (step_mp i j) _ r o p n k e = cc
same_step s (step_deduct i j) (step_deduct a b) r o p n k e = let x = numbers i j a b e in λ q. line_step (step_deduct (x.0 q) (x.1 q))
same_step s (step_deduct i j) _ r o p n k e = cc
same_step s (step_inst_type i ps) (step_inst_type j qs) r o p n k e = same_inst_type s i j ps qs r o p e
same_step s (step_inst_type i ps) _ r o p n k e = cc
same_step s (step_inst i ps) (step_inst j qs) r o p n k e = same_inst s i j ps qs r o p k e
same_step s (step_inst i ps) _ r o p n k e = cc
same_step s (step_axiom i) (step_axiom j) r o p n k e = ap (λ x. line_step (step_axiom x)) (same_number i j e)
same_step s (step_axiom i) _ r o p n k e = cc

same_line : (s : Signature) (l m : LogLine) → ReadsBack s → IsLineOver s l → IsLineOver s m → kind_of l ≡ kind_of m → number_of l ≡ number_of m → length (body l) < 2 ^ 64 → body l ≡ body m → l ≡ m
same_line s (line_step x) (line_step y) r o p q n k e = same_step s x y r o p n k e
same_line s (line_step x) _ r o p q n k e = cc q
same_line s line_first line_first r o p q n k e = refl
same_line s line_first _ r o p q n k e = cc q
same_line s (line_const c t) (line_const d u) r o p q n k e = same_const s c d t u r o p k e
same_line s (line_const c t) _ r o p q n k e = cc q
same_line s (line_type c i) (line_type d j) r o p q n k e = same_type s c d i j o p e
same_line s (line_type c i) _ r o p q n k e = cc q
same_line s (line_base i) (line_base j) r o p q n k e = ap line_base (same_number i j e)
same_line s (line_base i) _ r o p q n k e = cc q
same_line s (line_section t) (line_section u) r o p q n k e = ap line_section e
same_line s (line_section t) _ r o p q n k e = cc q
same_line s (line_name c i t) (line_name d j u) r o p q n k e = same_name s c d i j t u r o p k e
same_line s (line_name c i t) _ r o p q n k e = cc q
same_line s (line_end i) (line_end j) r o p q n k e = ap line_end (same_number i j e)
same_line s (line_end i) _ r o p q n k e = cc q
same_line s (line_stop i a x g) (line_stop j b y h) r o p q n k e = same_stop s i j a b x y g h o p e
same_line s (line_stop i a x g) _ r o p q n k e = cc q

pub line_by_text : (s : Signature) (l m : LogLine) → ReadsBack s → IsLineOver s l → IsLineOver s m → length (line_text l) < 2 ^ 64 → line_text l ≡ line_text m → l ≡ m
line_by_text s l m r o p k e =
    let c = cut 32 (word l) (word m) (body l) (body m) (word_lacks l) (word_lacks m) (sym (line_text-parts l) ∙ e ∙ line_text-parts m) in
    let whole : length (word l ++ 32 ∷ body l) < 2 ^ 64 = subst (λ x. length x < 2 ^ 64) (line_text-parts l) k in
    let size = length-append (word l) (32 ∷ body l) in
    let n = sym (place_in-word l) ∙ ap (place_in words) c.0 ∙ place_in-word m in
    same_line s l m r o p (sym (kind_by-number l) ∙ ap kind_by n ∙ kind_by-number m) n (omega arith) c.1
