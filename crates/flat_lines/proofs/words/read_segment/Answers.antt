use Rattle.std.proofs.Common.{◌≡◌, refl, sym, ap, ◌∙◌, true, false, Some, None, Bool, ◌&&◌}
use Rattle.std.proofs.lemmas.Str.{IsUtf8-from_is_utf8}
use Rattle.std.specs.Str.{is_utf8, IsUtf8, chars}
use Rattle.hol_terms.specs.Name.{is_segment, is_segment_of}
use Rattle.hol_terms.specs.Text.{Text}
use Rattle.strict_reading.specs.Steps.{when}
use Rattle.strict_reading.specs.Words.{word_of, behind_word}
use Rattle.strict_lines.specs.Operands.{reads_segment}
use Rattle.flat_terms.specs.Plain.{name_of}
use Rattle.flat_lines.proofs.words.read_segment.Goals as goal

at : (b x : Bool) → (b ≡ true → ⊥) → (b && x) ≡ false
at true x h = absurd (h refl)
at false x h = refl

no_text : (w : Text) → ¬ IsUtf8 w → is_segment w ≡ false
unfolding is_segment
no_text w h = at (is_utf8 w) (is_segment_of (chars w)) (λ e. h (IsUtf8-from_is_utf8 w e))

none : (x w : Text) → w ≡ word_of x → is_segment w ≡ false → reads_segment x ≡ None
unfolding reads_segment when
none x w e h = ap (λ b. when b (Some (word_of x, behind_word x))) (ap is_segment (sym e) ∙ h)

some : (x w rest : Text) → w ≡ word_of x → rest ≡ behind_word x → is_segment w ≡ true → reads_segment x ≡ Some (w, rest)
unfolding reads_segment when
some x w rest e f h = ap (λ b. when b (Some (word_of x, behind_word x))) (ap is_segment (sym e) ∙ h) ∙ (λ i. Some (sym e i, sym f i))

pub returns-in_default-clause-ok : goal.returns-in_default-clause-ok
returns-in_default-clause-ok c = let w = c.split_word.result.0.now in none c.args.text.now w c.split_word.ensures.word (no_text w c.in_default.ensures.cases.0)

pub returns-then-not-is_segment-clause-ok : goal.returns-then-not-is_segment-clause-ok
returns-then-not-is_segment-clause-ok c =
    none c.args.text.now c.split_word.result.0.now c.split_word.ensures.word (ap is_segment (sym c.in-Ok.ensures.cases.0) ∙ sym c.is_segment.ensures ∙ c.if-not-is_segment.true)

pub returns-clause-ok : goal.returns-clause-ok
returns-clause-ok c =
    let u = c.put_name.new.tables in
    let n = c.in_ok-name.name in
    let rest = c.split_word.result.1.now in (
      (name_of u n, rest),
      some c.args.text.now c.split_word.result.0.now rest c.split_word.ensures.word c.split_word.ensures.rest (ap is_segment (sym c.in-Ok.ensures.cases.0) ∙ sym c.is_segment.ensures ∙ c.if-not-is_segment.false)
          ∙ ap (λ v. Some (v, rest)) (sym (c.in_ok-name.ensures.ok.text ∙ c.in-Ok.ensures.cases.0)),
      (c.in_ok-name.ensures.ok.has, refl),
    )
