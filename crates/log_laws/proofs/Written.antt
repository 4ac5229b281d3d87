-- Lines that are written one below another are read back; and what a front of them says is sound where they are.
use Rattle.std.proofs.Common.{◌≡◌, refl, sym, ap, ◌∙◌, subst, ◌==◌, not, Bool, true, false, cond, List, [], ◌∷◌, ◌++◌, append_assoc, append-nil}
use Rattle.std.specs.List.{list_all}
use Rattle.std.proofs.lemmas.Bool.{and_parts, not-true}
use Rattle.hol_terms.specs.Definition.{Definition}
use Rattle.hol_terms.specs.Text.{Text}
use Rattle.hol_terms.specs.Sound.{lines_after, complete_lines, LineKind, defines, states, other, kind_of, by_kind, AreSoundAfter, IsSound}
use Rattle.hol_logs.specs.Log.{unlines}
use Rattle.log_laws.proofs.Lines.{is_line}

line_read : (read bs rest : Text) → is_line bs ≡ true → lines_after read ((bs ++ 10 ∷ []) ++ rest) ≡ (read ++ bs) ∷ lines_after [] rest
line_read read [] rest h = ap (λ l. l ∷ lines_after [] rest) (sym (append-nil read))
line_read read (b ∷ bs) rest h =
    let p = and_parts (not (b == 10)) (is_line bs) h in
    rw (not-true (b == 10) p.0) (line_read (read ++ b ∷ []) bs rest p.1 ∙ ap (λ l. l ∷ lines_after [] rest) (append_assoc read (b ∷ []) bs))

lines_read : (ls : List Text) → list_all is_line ls ≡ true → complete_lines (unlines ls) ≡ ls
lines_read [] h = refl
lines_read (l ∷ ls) h =
    let p = and_parts (is_line l) (list_all is_line ls) h in
    line_read [] l (unlines ls) p.0 ∙ ap (λ ms. l ∷ ms) (lines_read ls p.1)

pub sound_from_lines : (held : List Definition) (ls : List Text) → list_all is_line ls ≡ true → AreSoundAfter held ls → IsSound held (unlines ls)
sound_from_lines held ls h s = subst (AreSoundAfter held) (sym (lines_read ls h)) s

-- the lines of bytes begin those of the bytes with more behind them
lines_begin : (line bs more : Text) → (rest : List Text) × (lines_after line bs ++ rest ≡ lines_after line (bs ++ more))
lines_begin line [] more = (lines_after line more, refl)
lines_begin line (b ∷ bs) more = at (b == 10) (lines_begin [] bs more) (lines_begin (line ++ b ∷ []) bs more)
  where
    at : (t : Bool) → (rest : List Text) × (lines_after [] bs ++ rest ≡ lines_after [] (bs ++ more)) → (rest : List Text) × (lines_after (line ++ b ∷ []) bs ++ rest ≡ lines_after (line ++ b ∷ []) (bs ++ more))
        → (rest : List Text) × (cond t (line ∷ lines_after [] bs) (lines_after (line ++ b ∷ []) bs) ++ rest ≡ cond t (line ∷ lines_after [] (bs ++ more)) (lines_after (line ++ b ∷ []) (bs ++ more)))
    at true h g = (h.0, ap (λ ls. line ∷ ls) h.1)
    at false h g = g

kinds : {A B C D E F : Type 0} (k : LineKind) → (A → D) → (B → E) → (C → F) → by_kind k A B C → by_kind k D E F
kinds defines f g h x = f x
kinds states f g h x = g x
kinds other f g h x = h x

sound_front : (held : List Definition) (xs ys : List Text) → AreSoundAfter held (xs ++ ys) → AreSoundAfter held xs
sound_front held [] ys h = tt
sound_front held (l ∷ xs) ys h =
    kinds (kind_of l) (λ x. (x.0, x.1, x.2, sound_front (held ++ x.0 ∷ []) xs ys x.3)) (λ x. (x.0, x.1, x.2, x.3, sound_front held xs ys x.4)) (λ x. sound_front held xs ys x) h

-- bytes that begin an output that is sound are sound
pub sound_part : (held : List Definition) (out more whole : Text) → out ++ more ≡ whole → IsSound held whole → IsSound held out
sound_part held out more whole e h =
    let l = lines_begin [] out more in
    sound_front held (complete_lines out) l.0 (subst (AreSoundAfter held) (sym (l.1 ∙ ap complete_lines e)) h)
