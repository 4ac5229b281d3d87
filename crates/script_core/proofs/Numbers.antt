-- What std's `parse` answers is the number that a word is.
use Rattle.std.proofs.Common.{rules, ◌≡◌, ◌≢◌, ℕ, ◌+◌, ◌*◌, ◌-◌, ◌^◌, ◌<◌, List, [], ◌∷◌, length, true, false, Bool, Option, Some, None, Result, Ok, Err, arith, refl, sym, get_or, nat_lt, ap, ◌∙◌}
use Rattle.std.specs.Str.{all_ascii_digits}
use Rattle.std.specs.Result.{OkIff}
use Rattle.std.specs.Str.Parse.{ParsesUnsigned}
use Rattle.std.proofs.lemmas.Bool.Decides.{nat_tests}
use Rattle.std.proofs.lemmas.Str.Parse.{IsNumeralModel, numerals_by_fold, parse_plain}
use Rattle.script_core.specs.Words.{number, digits_on}
use Rattle.hol_terms.specs.Rules.{both, if_so, some_pair}

own : IsNumeralModel (λ ds. all_ascii_digits ds ≡ true) (digits_on 0)
own = numerals_by_fold _ (search rules) digits_on (search rules)

if_all : (a b c : Bool) (n : ℕ) → a ≡ true → b ≡ true → c ≡ true → if_so (both a (both b c)) n ≡ Some n
if_all a b c n h i j = rw (h, i, j) refl

if_not_all : (a b c : Bool) (n : ℕ) → (a ≡ true → b ≡ true → c ≡ true → ⊥) → if_so (both a (both b c)) n ≡ None
if_not_all true true true n h = absurd (h refl refl refl)
if_not_all true true false n h = refl
if_not_all true false c n h = refl
if_not_all false b c n h = refl

longer : (w : List ℕ) → 0 < length w → some_pair w ≡ true
longer [] h = absurd (omega arith)
longer (c ∷ cs) h = refl

longer_if : (w : List ℕ) → some_pair w ≡ true → 0 < length w
longer_if [] h = cc
longer_if (c ∷ cs) h = omega arith

below : (n m : ℕ) → n < m → nat_lt n m ≡ true
below n m h = grind (arith, nat_tests)

below_if : (n m : ℕ) → nat_lt n m ≡ true → n < m
below_if n m h = grind (arith, nat_tests)

pub reads_number : {E : Type 0} (w : List ℕ) (r : Result ℕ E) (n : ℕ) → ParsesUnsigned 64 10 w r → get_or w 0 0 ≢ 43 → r ≡ Ok n → Some n ≡ number w
unfolding number
reads_number {E} w r n h p e =
    let k : OkIff r ((all_ascii_digits w ≡ true) × (0 < length w) × (digits_on 0 w < 2 ^ 64)) (digits_on 0 w) = parse_plain own 64 w r h p in
    let j = rw e at k in
    sym (if_all _ _ _ (digits_on 0 w) (longer w j.0.1) j.0.0 (below _ _ j.0.2) ∙ ap Some (sym j.1))

pub reads_none : {E : Type 0} (w : List ℕ) (r : Result ℕ E) (x : E) → ParsesUnsigned 64 10 w r → get_or w 0 0 ≢ 43 → r ≡ Err x → None ≡ number w
unfolding number
reads_none {E} w r x h p e =
    let k : OkIff r ((all_ascii_digits w ≡ true) × (0 < length w) × (digits_on 0 w < 2 ^ 64)) (digits_on 0 w) = parse_plain own 64 w r h p in
    let j = rw e at k in
    sym (if_not_all _ _ _ (digits_on 0 w) (λ a b c. j (b, longer_if w a, below_if _ _ c)))

pub empty_none : (w : List ℕ) → length w ≡ 0 → None ≡ number w
unfolding number
empty_none [] h = refl
empty_none (c ∷ cs) h = absurd (omega arith)

pub plus_none : (w : List ℕ) → get_or w 0 0 ≡ 43 → None ≡ number w
unfolding number
plus_none [] h = refl
plus_none (c ∷ cs) h = let e : c ≡ 43 = h in rw e refl

pub ruleset number_lemmas = (reads_number, reads_none, empty_none, plus_none)
