-- What the texts in the tables of base definitions and axioms say.
use Rattle.std.specs.Prelude.{◌≡◌, Bool, true, false, ◌&&◌, List, [], ◌∷◌, bytes_eq}
use Rattle.std.specs.Borrow.{Bor}
use Rattle.hol_terms.specs.Definition.{Definition, const_def, type_def}
use Rattle.hol_terms.specs.Sequent.{Sequent}
use Rattle.hol_terms.specs.Text.{Text, tm_text}
use Rattle.replay_check.specs.declared.base_texts.BaseKind.{BaseKind}
use Rattle.replay_check.specs.declared.base_texts.BaseKind.TheVariants.{Constant, NewType}
use Rattle.replay_check.specs.declared.base_texts.BaseText.{BaseText}

-- the kind, the name and the term are those of the definition
abbrev pub IsTextOf : BaseText → Definition → Type 0
IsTextOf b (const_def c t) = (b.kind ≡ Constant) × (b.name.now ≡ c) × (b.«term».now ≡ tm_text t)
IsTextOf b (type_def c t) = (b.kind ≡ NewType) × (b.name.now ≡ c) × (b.«term».now ≡ tm_text t)

-- and as tests on whole tables
abbrev pub is_constant : BaseKind → Bool
is_constant Constant = true
is_constant NewType = false

abbrev pub is_type : BaseKind → Bool
is_type Constant = false
is_type NewType = true

abbrev pub is_text_of : BaseText → Definition → Bool
is_text_of b (const_def c t) = is_constant b.kind && bytes_eq b.name.now c && bytes_eq b.«term».now (tm_text t)
is_text_of b (type_def c t) = is_type b.kind && bytes_eq b.name.now c && bytes_eq b.«term».now (tm_text t)

abbrev pub are_texts : List BaseText → List Definition → Bool
are_texts [] [] = true
are_texts (b ∷ bs) (d ∷ ds) = is_text_of b d && are_texts bs ds
are_texts [] (d ∷ ds) = false
are_texts (b ∷ bs) [] = false

abbrev pub are_conclusions : List (Bor Text) → List Sequent → Bool
are_conclusions [] [] = true
are_conclusions (b ∷ bs) (a ∷ rest) = bytes_eq b.now (tm_text a.concl) && are_conclusions bs rest
are_conclusions [] (a ∷ rest) = false
are_conclusions (b ∷ bs) [] = false
