use Rattle.std.proofs.Common.{◌≡◌, refl, sym, ap, ◌∙◌, true, false, Some, None, Bool, ◌&&◌}
use Rattle.std.proofs.lemmas.Str.{IsUtf8-from_is_utf8}
use Rattle.std.specs.Prelude.{bytes_eq, codes, not, ◌||◌}
use Rattle.std.specs.Str.{is_utf8, IsUtf8, chars}
use Rattle.hol_terms.specs.Name.{is_name, are_segments_of, is_keyword}
use Rattle.hol_terms.specs.Text.{Text}
use Rattle.strict_reading.specs.Steps.{when}
use Rattle.strict_reading.specs.Words.{word_of, behind_word}
use Rattle.strict_lines.specs.Operands.{reads_name}
use Rattle.flat_terms.specs.Plain.{name_of}
use Rattle.flat_lines.proofs.words.read_name.Goals as goal

at : (b x y : Bool) → (b ≡ true → ⊥) → (b && x && y) ≡ false
at true x y h = absurd (h refl)
at false x y h = refl

no_text : (w : Text) → ¬ IsUtf8 w → is_name w ≡ false
unfolding is_name
no_text w h = at (is_utf8 w) (are_segments_of false (chars w) || bytes_eq w (codes "0")) (not (is_keyword w)) (λ e. h (IsUtf8-from_is_utf8 w e))

none : (x w : Text) → w ≡ word_of x → is_name w ≡ false → reads_name x ≡ None
unfolding reads_name when
none x w e h = ap (λ b. when b (Some (word_of x, behind_word x))) (ap is_name (sym e) ∙ h)

some : (x w rest : Text) → w ≡ word_of x → rest ≡ behind_word x → is_name w ≡ true → reads_name x ≡ Some (w, rest)
unfolding reads_name when
some x w rest e f h = ap (λ b. when b (Some (word_of x, behind_word x))) (ap is_name (sym e) ∙ h) ∙ (λ i. Some (sym e i, sym f i))

pub returns-in_default-clause-ok : goal.returns-in_default-clause-ok
returns-in_default-clause-ok c = let w = c.split_word.result.0.now in none c.args.text.now w c.split_word.ensures.word (no_text w c.in_default.ensures.cases.0)

pub returns-then-not-is_name-clause-ok : goal.returns-then-not-is_name-clause-ok
returns-then-not-is_name-clause-ok c =
    none c.args.text.now c.split_word.result.0.now c.split_word.ensures.word (ap is_name (sym c.in-Ok.ensures.cases.0) ∙ sym c.is_name.ensures ∙ c.if-not-is_name.true)

pub returns-clause-ok : goal.returns-clause-ok
returns-clause-ok c =
    let u = c.put_name.new.tables in
    let n = c.in_ok-name.name in
    let rest = c.split_word.result.1.now in (
      (name_of u n, rest),
      some c.args.text.now c.split_word.result.0.now rest c.split_word.ensures.word c.split_word.ensures.rest (ap is_name (sym c.in-Ok.ensures.cases.0) ∙ sym c.is_name.ensures ∙ c.if-not-is_name.false)
          ∙ ap (λ v. Some (v, rest)) (sym (c.in_ok-name.ensures.ok.text ∙ c.in-Ok.ensures.cases.0)),
      (c.in_ok-name.ensures.ok.has, refl),
    )
