-- Definitions are the same where their numbers are.
use Rattle.std.proofs.Common.{◌≡◌, Bool, true, false, refl, sym, ap, ◌∙◌, bytes_eq}
use Rattle.hol_terms.specs.Tm.{Tm}
use Rattle.hol_terms.specs.Rules.{both, same}
use Rattle.hol_terms.proofs.Same.{same-is, same_refl}
use Rattle.hol_logs.specs.Step.{same_definition}
use Rattle.flat_terms.specs.Plain.{PlainTables, name_of, term_of}
use Rattle.flat_terms.specs.declared.nodes.NameId.{NameId}
use Rattle.flat_terms.specs.declared.nodes.TermId.{TermId}
use Rattle.replay_check.specs.declared.definitions.FlatDefinition.{FlatDefinition}
use Rattle.replay_check.specs.declared.definitions.FlatDefinition.TheVariants.{Constant, NewType}
use Rattle.replay_check.specs.Definitions.{definition_of}

pub same_by : (x y : Tm) (r : Bool) → (r ≡ true → x ≡ y) → (x ≡ y → r ≡ true) → r ≡ same x y
same_by x y r there back = at r refl
  where
    at : (b : Bool) → r ≡ b → r ≡ same x y
    at true e = e ∙ sym (same_refl x) ∙ ap (same x) (there e)
    at false e = e ∙ at_same (same x y) refl
      where
        at_same : (c : Bool) → same x y ≡ c → false ≡ same x y
        at_same false f = sym f
        at_same true f = absurd (never (sym e ∙ back (same-is x y f)))
          where
            never : false ≡ true → ⊥
            never g = cc

both_true : (a b r : Bool) → true ≡ a → r ≡ b → r ≡ both a b
both_true true b r e f = f
both_true false b r e f = cc

pub constants_same : (t : PlainTables) (a b : FlatDefinition) (c d : NameId) (x y : TermId) → a ≡ Constant c x → b ≡ Constant d y → true ≡ bytes_eq (name_of t c) (name_of t d) → (r : Bool) → (r ≡ true → term_of t x ≡ term_of t y)
    → (term_of t x ≡ term_of t y → r ≡ true) → r ≡ same_definition (definition_of t a) (definition_of t b)
constants_same t a b c d x y e f n r there back =
    both_true (bytes_eq (name_of t c) (name_of t d)) (same (term_of t x) (term_of t y)) r n (same_by (term_of t x) (term_of t y) r there back)
    ∙ (λ i. same_definition (definition_of t (sym e i)) (definition_of t (sym f i)))

pub types_same : (t : PlainTables) (a b : FlatDefinition) (c d : NameId) (x y : TermId) → a ≡ NewType c x → b ≡ NewType d y → true ≡ bytes_eq (name_of t c) (name_of t d) → (r : Bool) → (r ≡ true → term_of t x ≡ term_of t y)
    → (term_of t x ≡ term_of t y → r ≡ true) → r ≡ same_definition (definition_of t a) (definition_of t b)
types_same t a b c d x y e f n r there back =
    both_true (bytes_eq (name_of t c) (name_of t d)) (same (term_of t x) (term_of t y)) r n (same_by (term_of t x) (term_of t y) r there back)
    ∙ (λ i. same_definition (definition_of t (sym e i)) (definition_of t (sym f i)))
