-- Definitions that the test says are the base definitions are these.
use Rattle.std.proofs.Common.{◌≡◌, ℕ, Bool, true, false, List, [], ◌∷◌, ◌++◌, refl, sym, ap, ◌∙◌, bytes_eq, take, drop}
use Rattle.std.specs.Cmp.Lexicographic.{pointwise}
use Rattle.std.proofs.lemmas.Bool.{and_parts, and_from}
use Rattle.std.proofs.lemmas.List.{take-append-drop}
use Rattle.std.proofs.lemmas.Slice.Eq.{bytes_eq-Decides}
use Rattle.hol_terms.specs.Definition.{Definition, const_def, type_def}
use Rattle.hol_terms.specs.Rules.{both, same}
use Rattle.hol_terms.specs.Base.{base, base_definitions}
use Rattle.hol_terms.specs.Proves.{IsPrefix}
use Rattle.hol_terms.proofs.Same.{same-is, same_refl}
use Rattle.hol_logs.specs.Step.{same_definition, are_base}

both_hold : (a b : Bool) → both a b ≡ true → (a ≡ true) × (b ≡ true)
both_hold true b e = (refl, e)
both_hold false b e = cc

pub same_definition-is : (d e : Definition) → same_definition d e ≡ true → d ≡ e
same_definition-is (const_def c t) (const_def d u) h =
    let p = both_hold (bytes_eq c d) (same t u) h in λ i. const_def ((bytes_eq-Decides c d).0 p.0 i) (same-is t u p.1 i)
same_definition-is (type_def c t) (type_def d u) h =
    let p = both_hold (bytes_eq c d) (same t u) h in λ i. type_def ((bytes_eq-Decides c d).0 p.0 i) (same-is t u p.1 i)
same_definition-is (const_def c t) (type_def d u) h = cc
same_definition-is (type_def c t) (const_def d u) h = cc

same_definitions-are : (ds es : List Definition) → pointwise same_definition ds es ≡ true → ds ≡ es
same_definitions-are [] [] h = refl
same_definitions-are [] (e ∷ es) h = cc
same_definitions-are (d ∷ ds) [] h = cc
same_definitions-are (d ∷ ds) (e ∷ es) h =
    let p = and_parts (same_definition d e) (pointwise same_definition ds es) h in λ i. same_definition-is d e p.0 i ∷ same_definitions-are ds es p.1 i

pub base_is : (n : ℕ) (ds : List Definition) → are_base n ds ≡ true → ds ≡ base n
base_is n ds h = same_definitions-are ds (base n) h

pub begins_with_base : (ds : List Definition) → are_base 10 (take 10 ds) ≡ true → IsPrefix (base 10) ds
begins_with_base ds h = (drop 10 ds, sym (take-append-drop 10 ds) ∙ ap (λ es. es ++ drop 10 ds) (base_is 10 (take 10 ds) h))

-- ---- the base definitions pass their test

pub same_itself : (d : Definition) → same_definition d d ≡ true
same_itself (const_def c t) = ap (λ b. both b (same t t)) ((bytes_eq-Decides c c).1 refl) ∙ same_refl t
same_itself (type_def c t) = ap (λ b. both b (same t t)) ((bytes_eq-Decides c c).1 refl) ∙ same_refl t

all_same : (ds : List Definition) → pointwise same_definition ds ds ≡ true
all_same [] = refl
all_same (d ∷ ds) = and_from (same_definition d d) (pointwise same_definition ds ds) (same_itself d) (all_same ds)

pub are_base-from : (n : ℕ) (ds : List Definition) → ds ≡ base n → are_base n ds ≡ true
are_base-from n ds e = ap (λ es. pointwise same_definition es (base n)) e ∙ all_same (base n)

first_ten : (more : List Definition) → take 10 (base 10 ++ more) ≡ base 10
unfolding base_definitions
first_ten more = refl

pub connectives_there : (ds : List Definition) → IsPrefix (base 10) ds → are_base 10 (take 10 ds) ≡ true
connectives_there ds p = are_base-from 10 (take 10 ds) (ap (take 10) p.1 ∙ first_ten p.0)
