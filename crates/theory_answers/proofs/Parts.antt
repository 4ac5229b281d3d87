-- A front of an output answers a front of the answer, and is sound.
use Rattle.std.proofs.Common.{◌≡◌, refl, sym, ap, ◌∙◌, subst, ℕ, zero, suc, ◌==◌, Bool, true, false, cond, List, [], ◌∷◌, ◌++◌, take, filter}
use Rattle.hol_terms.specs.Definition.{Definition}
use Rattle.hol_terms.specs.Text.{Text}
use Rattle.hol_terms.specs.Base.{base}
use Rattle.hol_terms.specs.Sound.{lines_after, complete_lines, LineKind, defines, states, other, kind_of, by_kind, AreSoundAfter}
use Rattle.base_count.specs.InForce.{in_force}
use Rattle.theory_answers.specs.Answer.{is_answer_line, answer}
use Rattle.theory_answers.specs.Answered.{IsCheck, IsPart}

-- the list, with something behind it
Begins : List Text → List Text → Type 0
Begins xs all = (rest : List Text) × (xs ++ rest ≡ all)

lines_begin : (n : ℕ) (line bs : Text) → (rest : List Text) × (lines_after line (take n bs) ++ rest ≡ lines_after line bs)
lines_begin zero line bs = (lines_after line bs, refl)
lines_begin (suc n) line [] = ([], refl)
lines_begin (suc n) line (b ∷ bs) = at (b == 10) (lines_begin n [] bs) (lines_begin n (line ++ b ∷ []) bs)
  where
    at : (t : Bool) → (rest : List Text) × (lines_after [] (take n bs) ++ rest ≡ lines_after [] bs) → (rest : List Text) × (lines_after (line ++ b ∷ []) (take n bs) ++ rest ≡ lines_after (line ++ b ∷ []) bs)
        → (rest : List Text) × (cond t (line ∷ lines_after [] (take n bs)) (lines_after (line ++ b ∷ []) (take n bs)) ++ rest ≡ cond t (line ∷ lines_after [] bs) (lines_after (line ++ b ∷ []) bs))
    at true h g = (h.0, ap (λ ls. line ∷ ls) h.1)
    at false h g = g

filter_append : (p : Text → Bool) (xs ys : List Text) → filter p (xs ++ ys) ≡ filter p xs ++ filter p ys
filter_append p [] ys = refl
filter_append p (x ∷ xs) ys = at (p x) (filter_append p xs ys)
  where
    at : (t : Bool) → filter p (xs ++ ys) ≡ filter p xs ++ filter p ys → cond t (x ∷ filter p (xs ++ ys)) (filter p (xs ++ ys)) ≡ cond t (x ∷ filter p xs) (filter p xs) ++ filter p ys
    at true h = ap (λ l. x ∷ l) h
    at false h = h

kinds : {A B C D E F : Type 0} (k : LineKind) → (A → D) → (B → E) → (C → F) → by_kind k A B C → by_kind k D E F
kinds defines f g h x = f x
kinds states f g h x = g x
kinds other f g h x = h x

sound_front : (held : List Definition) (xs ys : List Text) → AreSoundAfter held (xs ++ ys) → AreSoundAfter held xs
sound_front held [] ys h = tt
sound_front held (l ∷ xs) ys h =
    kinds (kind_of l) (λ x. (x.0, x.1, x.2, sound_front (held ++ x.0 ∷ []) xs ys x.3)) (λ x. (x.0, x.1, x.2, x.3, sound_front held xs ys x.4)) (λ x. sound_front held xs ys x) h

pub part_of : (b out : Text) (r : Bool) (n : ℕ) → IsCheck b out r → IsPart b (take n out)
part_of b out r n h =
    let l = lines_begin n [] out in
    record {
      answered = (filter is_answer_line l.0, sym (filter_append is_answer_line (complete_lines (take n out)) l.0) ∙ ap (filter is_answer_line) l.1 ∙ h.answered);
      sound = sound_front (base in_force) (complete_lines (take n out)) l.0 (subst (AreSoundAfter (base in_force)) (sym l.1) h.sound);
    }

pub no_part : (b : Text) → IsPart b []
no_part b = record { answered = (answer b, refl); sound = tt }
