-- Verdicts, and that their lines answer the text.
use Rattle.std.specs.declared.alloc.Global.{Global}
use Rattle.std.proofs.Common.{◌≡◌, ◌≢◌, ◌⊎◌, inl, inr, ℕ, ◌<◌, ◌≤◌, Bool, true, not, ◌&&◌, ◌==◌, [], ◌∷◌, ◌++◌, length, Some, None, refl, sym, ap, ◌∙◌, subst, codes, arith, string_bytes, String}
use Rattle.std.specs.List.{list_all}
use Rattle.std.specs.Str.{is_utf8}
use Rattle.std.specs.Fmt.{decimal, digits}
use Rattle.std.proofs.lemmas.Bool.{and_parts, and_from, ne_eqb, not_from_false}
use Rattle.std.proofs.lemmas.Str.{is_utf8-from_IsUtf8, IsUtf8-string_bytes}
use Rattle.hol_terms.specs.Name.{Name, is_segment}
use Rattle.hol_terms.specs.Definition.{signature_of}
use Rattle.hol_terms.specs.Base.{base}
use Rattle.hol_terms.specs.Text.{Text}
use Rattle.hol_logs.specs.Line.{is_word}
use Rattle.log_laws.proofs.Lacking.{lacks, IsForeign, segment_lacks}
use Rattle.log_laws.proofs.Lines.{foreign}
use Rattle.theory_text.specs.Command.{Define as Stated, define_of}
use Rattle.theory_text.specs.Definable.{IsDefinable}
use Rattle.theory_answers.specs.declared.verdict.Refusal.{Refusal}
use Rattle.theory_answers.specs.declared.verdict.Verdict.{Verdict}
use Rattle.theory_answers.specs.declared.verdict.Verdict.TheVariants.{Empty, Define, Refused}
use Rattle.base_count.specs.InForce.{in_force}
use Rattle.theory_answers.specs.Answer.{limit, base_line, limit_line, unbuilt_line, stray_line}
use Rattle.theory_answers.specs.Layout.{unlines}
use Rattle.theory_answers.specs.Answered.{IsCheck}
use Rattle.theory_answers.specs.Verdicts.{refusal_line, IsRefusalOf, IsRefused, is_conservative, IsOutcome, IsDefine, IsVerdict}
use Rattle.theory_answers.proofs.Outputs.{answer_read, check_limit, check_nothing, check_unbuilt, defined, strayed}

-- ---- words

abbrev in_word : ℕ → Bool
in_word b = not (b == 32) && not (b == 10)

word_from : (s : String Global) (w : Text) → string_bytes s ≡ w → not (length w == 0) ≡ true → list_all in_word w ≡ true → is_word (string_bytes s) ≡ true
word_from s w e h g =
    let utf8 : is_utf8 (string_bytes s) ≡ true = is_utf8-from_IsUtf8 (string_bytes s) (IsUtf8-string_bytes s) in
    let some : not (length (string_bytes s) == 0) ≡ true = ap (λ t. not (length t == 0)) e ∙ h in
    let all : list_all in_word (string_bytes s) ≡ true = ap (list_all in_word) e ∙ g in
    and_from _ _ (and_from _ _ utf8 some) all

both_lack : (w : Text) → lacks 32 w ≡ true → lacks 10 w ≡ true → list_all in_word w ≡ true
both_lack [] h g = refl
both_lack (b ∷ w) h g =
    let p = and_parts (not (b == 32)) (lacks 32 w) h in
    let q = and_parts (not (b == 10)) (lacks 10 w) g in
    and_from _ _ (and_from _ _ p.0 q.0) (both_lack w p.1 q.1)

space : IsForeign 32
space = record { ascii = omega arith; start = refl; more = refl; dot = refl; digit = refl }

stray_word : (n : Name) → (n ≡ []) ⊎ (is_segment n ≡ true) → list_all in_word (codes "'" ++ n) ≡ true
stray_word n (inl e) = ap (λ m. list_all in_word (codes "'" ++ m)) e
stray_word n (inr s) = both_lack n (segment_lacks 32 space n s) (segment_lacks 10 foreign n s)

some_byte : (b : ℕ) (w : Text) → not (length (b ∷ w) == 0) ≡ true
some_byte b w = not_from_false (length (b ∷ w) == 0) (ne_eqb (length (b ∷ w)) 0 (λ e. omega arith))

-- ---- lines

line_is : (r : Refusal) (test name : Text) (place : ℕ) → IsRefusalOf r test name place → refusal_line r ≡ codes "refused " ++ test ++ codes " " ++ name ++ codes " " ++ decimal place
line_is r test name place h = λ i. codes "refused " ++ h.test_is i ++ codes " " ++ h.name_is i ++ codes " " ++ decimal (h.place_is i)

limit_text : codes "refused " ++ codes "limit" ++ codes " " ++ codes "input" ++ codes " " ++ decimal limit ≡ limit_line
unfolding digits
limit_text = refl

unbuilt_text : codes "refused " ++ codes "unbuilt" ++ codes " " ++ codes "-" ++ codes " " ++ decimal 0 ≡ unbuilt_line
unfolding digits
unbuilt_text = refl

two_lines_are : (line other : Text) → line ≡ other → unlines (base_line ∷ line ∷ []) ≡ unlines (base_line ∷ other ∷ [])
two_lines_are line other e = ap (λ l. unlines (base_line ∷ l ∷ [])) e

-- ---- verdicts

pub verdict_limit : (b : Text) (v : Verdict) → limit < length b → IsRefused v (codes "limit") (codes "input") limit → IsVerdict b v
verdict_limit b Empty h e = absurd e
verdict_limit b (Define c) h e = absurd e
verdict_limit b (Refused r) h e = record {
  test = word_from r.test (codes "limit") e.test_is refl refl;
  name = word_from r.name (codes "input") e.name_is refl refl;
  fits = e.fits;
  checked = check_limit b (unlines (base_line ∷ refusal_line r ∷ [])) true h (two_lines_are (refusal_line r) limit_line (line_is r (codes "limit") (codes "input") limit e ∙ limit_text)) refl;
}

pub verdict_nothing : (b : Text) → b ≡ [] → IsVerdict b Empty
verdict_nothing b n = check_nothing b (unlines (base_line ∷ [])) n refl

pub verdict_unbuilt : (b : Text) (v : Verdict) → length b ≤ limit → b ≢ [] → define_of (signature_of (base in_force)) b ≡ None → IsRefused v (codes "unbuilt") (codes "-") 0 → IsVerdict b v
verdict_unbuilt b Empty h n d e = absurd e
verdict_unbuilt b (Define c) h n d e = absurd e
verdict_unbuilt b (Refused r) h n d e = record {
  test = word_from r.test (codes "unbuilt") e.test_is refl refl;
  name = word_from r.name (codes "-") e.name_is refl refl;
  fits = e.fits;
  checked = check_unbuilt b (unlines (base_line ∷ refusal_line r ∷ [])) true h n d (two_lines_are (refusal_line r) unbuilt_line (line_is r (codes "unbuilt") (codes "-") 0 e ∙ unbuilt_text)) refl;
}

is_define : (b : Text) (d : Stated) → length b ≤ limit → b ≢ [] → define_of (signature_of (base in_force)) b ≡ Some d → IsDefinable (signature_of (base in_force)) d → is_conservative d ≡ true → IsDefine b d
is_define b d l n e h c = record { definable = h; conservative = c; checked = λ k. defined b d k h c (answer_read b l n (Some d) e) }

pub verdict_define : (b : Text) (v : Verdict) (d : Stated) → length b ≤ limit → b ≢ [] → define_of (signature_of (base in_force)) b ≡ Some d → IsDefinable (signature_of (base in_force)) d → IsOutcome d v → IsVerdict b v
verdict_define b Empty d l n e h o = absurd o
verdict_define b (Define c) d l n e h o = subst (λ (x : Stated). IsDefine b x) (sym o.0) (is_define b d l n e h o.1)
verdict_define b (Refused r) d l n e h o = record {
  test = word_from r.test (codes "conservativity") o.0.test_is refl refl;
  name = word_from r.name (codes "'" ++ d.stray) o.0.name_is (some_byte 39 d.stray) (stray_word d.stray h.stray);
  fits = o.0.fits;
  checked = subst (λ (x : Text). IsCheck b x true) (sym (two_lines_are (refusal_line r) (stray_line d) (line_is r (codes "conservativity") (codes "'" ++ d.stray) d.stray_place o.0))) (strayed b d h o.1 (answer_read b l n (Some d) e));
}
