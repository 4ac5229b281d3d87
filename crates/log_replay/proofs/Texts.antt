-- The lines of bytes that are read one after the other.
use Rattle.std.proofs.Common.{◌≡◌, ℕ, suc, ◌≤◌, Bool, true, false, cond, ◌==◌, List, [], ◌∷◌, ◌++◌, length, refl, ap, ◌∙◌, append_assoc, append-nil, arith}
use Rattle.std.proofs.lemmas.Grind.{flat_map-append}
use Rattle.hol_terms.specs.Text.{Text}
use Rattle.hol_terms.specs.Sound.{lines_after, complete_lines}
use Rattle.hol_logs.specs.Log.{unended_after, unended, line_unless_empty, log_lines, unlines}

pub unlines_append : (xs ys : List Text) → unlines (xs ++ ys) ≡ unlines xs ++ unlines ys
unlines_append xs ys = flat_map-append (λ line. line ++ 10 ∷ []) xs ys

pub lines_append : (line xs ys : Text) → lines_after line (xs ++ ys) ≡ lines_after line xs ++ lines_after (unended_after line xs) ys
lines_append line [] ys = refl
lines_append line (b ∷ xs) ys = at (b == 10) (lines_append [] xs ys) (lines_append (line ++ b ∷ []) xs ys)
  where
    at : (t : Bool) → lines_after [] (xs ++ ys) ≡ lines_after [] xs ++ lines_after (unended_after [] xs) ys
        → lines_after (line ++ b ∷ []) (xs ++ ys) ≡ lines_after (line ++ b ∷ []) xs ++ lines_after (unended_after (line ++ b ∷ []) xs) ys
        → cond t (line ∷ lines_after [] (xs ++ ys)) (lines_after (line ++ b ∷ []) (xs ++ ys))
        ≡ cond t (line ∷ lines_after [] xs) (lines_after (line ++ b ∷ []) xs) ++ lines_after (cond t (unended_after [] xs) (unended_after (line ++ b ∷ []) xs)) ys
    at true x y = ap (λ ls. line ∷ ls) x
    at false x y = y

pub unended_append : (line xs ys : Text) → unended_after line (xs ++ ys) ≡ unended_after (unended_after line xs) ys
unended_append line [] ys = refl
unended_append line (b ∷ xs) ys = at (b == 10) (unended_append [] xs ys) (unended_append (line ++ b ∷ []) xs ys)
  where
    at : (t : Bool) → unended_after [] (xs ++ ys) ≡ unended_after (unended_after [] xs) ys
        → unended_after (line ++ b ∷ []) (xs ++ ys) ≡ unended_after (unended_after (line ++ b ∷ []) xs) ys
        → cond t (unended_after [] (xs ++ ys)) (unended_after (line ++ b ∷ []) (xs ++ ys)) ≡ unended_after (cond t (unended_after [] xs) (unended_after (line ++ b ∷ []) xs)) ys
    at true x y = x
    at false x y = y

-- ---- one byte more

pub lines_with_newline : (xs : Text) → complete_lines (xs ++ 10 ∷ []) ≡ complete_lines xs ++ unended xs ∷ []
lines_with_newline xs = lines_append [] xs (10 ∷ [])

pub unended_with_newline : (xs : Text) → unended (xs ++ 10 ∷ []) ≡ []
unended_with_newline xs = unended_append [] xs (10 ∷ [])

no_line_more : (line : Text) (b : ℕ) → (b == 10) ≡ false → lines_after line (b ∷ []) ≡ []
no_line_more line b h = rw h refl

goes_on : (line : Text) (b : ℕ) → (b == 10) ≡ false → unended_after line (b ∷ []) ≡ line ++ b ∷ []
goes_on line b h = rw h refl

pub lines_with_byte : (xs : Text) (b : ℕ) → (b == 10) ≡ false → complete_lines (xs ++ b ∷ []) ≡ complete_lines xs
lines_with_byte xs b h = lines_append [] xs (b ∷ []) ∙ ap (λ ls. complete_lines xs ++ ls) (no_line_more (unended xs) b h) ∙ append-nil (complete_lines xs)

pub unended_with_byte : (xs : Text) (b : ℕ) → (b == 10) ≡ false → unended (xs ++ b ∷ []) ≡ unended xs ++ b ∷ []
unended_with_byte xs b h = unended_append [] xs (b ∷ []) ∙ goes_on (unended xs) b h

-- ---- counts

pub lines_count : (line xs : Text) → length (lines_after line xs) ≤ length xs
lines_count line [] = omega arith
lines_count line (b ∷ xs) = at (b == 10) (lines_count [] xs) (lines_count (line ++ b ∷ []) xs)
  where
    at : (t : Bool) → length (lines_after [] xs) ≤ length xs → length (lines_after (line ++ b ∷ []) xs) ≤ length xs → length (cond t (line ∷ lines_after [] xs) (lines_after (line ++ b ∷ []) xs)) ≤ suc (length xs)
    at true x y = omega arith
    at false x y = omega arith

-- ---- the lines of bytes begin those of a log that goes on

abbrev pub more_lines : Text → Text → List Text
more_lines xs ys = lines_after (unended xs) ys ++ line_unless_empty (unended (xs ++ ys))

pub lines_begin : (xs ys : Text) → log_lines (xs ++ ys) ≡ complete_lines xs ++ more_lines xs ys
lines_begin xs ys = ap (λ ls. ls ++ line_unless_empty (unended (xs ++ ys))) (lines_append [] xs ys) ∙ append_assoc (complete_lines xs) (lines_after (unended xs) ys) (line_unless_empty (unended (xs ++ ys)))
