-- Lines that are written one below another are read back. What an output answers, its layout and its soundness, by its lines.
use Rattle.std.proofs.Common.{◌≡◌, Bool, true, not, ◌==◌, List, [], ◌∷◌, ◌++◌, All, filter, append_assoc, append-nil, refl, ap, sym, subst, ◌∙◌}
use Rattle.std.specs.List.{list_all, flat_map}
use Rattle.std.proofs.lemmas.Bool.{and_parts, not-true}
use Rattle.hol_terms.specs.Definition.{Definition}
use Rattle.hol_terms.specs.Text.{Text}
use Rattle.hol_terms.specs.Sound.{lines_after, complete_lines, AreSoundAfter, IsSound}
use Rattle.theory_answers.specs.Answer.{base_line, is_answer_line, answers}
use Rattle.theory_answers.specs.Layout.{unlines, Section, section_lines, IsTheoremLine, IsEnding, IsOwned}

-- no byte is a newline
abbrev pub is_line : Text → Bool
is_line bs = list_all (λ b. not (b == 10)) bs

line_read : (read bs rest : Text) → is_line bs ≡ true → lines_after read ((bs ++ 10 ∷ []) ++ rest) ≡ (read ++ bs) ∷ lines_after [] rest
line_read read [] rest h = ap (λ l. l ∷ lines_after [] rest) (sym (append-nil read))
line_read read (b ∷ bs) rest h =
    let p = and_parts (not (b == 10)) (is_line bs) h in
    rw (not-true (b == 10) p.0) (line_read (read ++ b ∷ []) bs rest p.1 ∙ ap (λ l. l ∷ lines_after [] rest) (append_assoc read (b ∷ []) bs))

pub lines_read : (ls : List Text) → list_all is_line ls ≡ true → complete_lines (unlines ls) ≡ ls
lines_read [] h = refl
lines_read (l ∷ ls) h =
    let p = and_parts (is_line l) (list_all is_line ls) h in
    line_read [] l (unlines ls) p.0 ∙ ap (λ ms. l ∷ ms) (lines_read ls p.1)

pub answers_read : (ls : List Text) → list_all is_line ls ≡ true → answers (unlines ls) ≡ filter is_answer_line ls
answers_read ls h = ap (filter is_answer_line) (lines_read ls h)

pub sound_from_lines : (held : List Definition) (ls : List Text) → list_all is_line ls ≡ true → AreSoundAfter held ls → IsSound held (unlines ls)
sound_from_lines held ls h s = subst (AreSoundAfter held) (sym (lines_read ls h)) s

pub owned_from_lines : (sections : List Section) (ending ls : List Text) → list_all is_line ls ≡ true → ls ≡ base_line ∷ flat_map section_lines sections ++ ending
    → All (λ s. All IsTheoremLine s.theorems) sections → IsEnding ending → IsOwned (unlines ls)
owned_from_lines sections ending ls h e t i = record {
  sections = sections;
  ending = ending;
  complete = ap unlines (sym (lines_read ls h));
  laid_out = lines_read ls h ∙ e;
  theorems_are = t;
  ending_is = i;
}
