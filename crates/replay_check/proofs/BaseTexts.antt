-- The entries of a table that says what the base definitions or the axioms do.
use Rattle.std.proofs.Common.{◌≡◌, ◌≤◌, ℕ, zero, suc, true, ◌&&◌, List, [], ◌∷◌, length, Some, refl, subst, arith, slice_get, bytes_eq, Bor}
use Rattle.std.proofs.lemmas.Bool.{and_parts}
use Rattle.std.proofs.lemmas.Slice.Eq.{bytes_eq-Decides}
use Rattle.hol_terms.specs.Definition.{Definition, const_def, type_def}
use Rattle.hol_terms.specs.Sequent.{Sequent}
use Rattle.hol_terms.specs.Text.{Text, tm_text}
use Rattle.replay_check.specs.declared.base_texts.BaseKind.{BaseKind}
use Rattle.replay_check.specs.declared.base_texts.BaseKind.TheVariants.{Constant, NewType}
use Rattle.replay_check.specs.declared.base_texts.BaseText.{BaseText}
use Rattle.replay_check.specs.BaseTexts.{IsTextOf, is_constant, is_type, is_text_of, are_texts, are_conclusions}

constant_is : (k : BaseKind) → is_constant k ≡ true → k ≡ Constant
constant_is Constant e = refl
constant_is NewType e = cc

type_is : (k : BaseKind) → is_type k ≡ true → k ≡ NewType
type_is Constant e = cc
type_is NewType e = refl

text_of_is : (b : BaseText) (d : Definition) → is_text_of b d ≡ true → IsTextOf b d
text_of_is b (const_def c t) e =
    let p = and_parts (is_constant b.kind && bytes_eq b.name.now c) (bytes_eq b.«term».now (tm_text t)) e in
    let q = and_parts (is_constant b.kind) (bytes_eq b.name.now c) p.0 in
    (constant_is b.kind q.0, (bytes_eq-Decides b.name.now c).0 q.1, (bytes_eq-Decides b.«term».now (tm_text t)).0 p.1)
text_of_is b (type_def c t) e =
    let p = and_parts (is_type b.kind && bytes_eq b.name.now c) (bytes_eq b.«term».now (tm_text t)) e in
    let q = and_parts (is_type b.kind) (bytes_eq b.name.now c) p.0 in
    (type_is b.kind q.0, (bytes_eq-Decides b.name.now c).0 q.1, (bytes_eq-Decides b.«term».now (tm_text t)).0 p.1)

pub text_at : (bs : List BaseText) (ds : List Definition) (i : ℕ) (b : BaseText) → are_texts bs ds ≡ true → slice_get bs i ≡ Some b → (d : Definition) × (slice_get ds i ≡ Some d) × IsTextOf b d
text_at [] ds i b e f = cc
text_at (c ∷ bs) [] i b e f = cc
text_at (c ∷ bs) (d ∷ ds) zero b e f =
    let same : c ≡ b = cc in (d, refl, subst (λ x. IsTextOf x d) same (text_of_is c d (and_parts (is_text_of c d) (are_texts bs ds) e).0))
text_at (c ∷ bs) (d ∷ ds) (suc i) b e f = text_at bs ds i b (and_parts (is_text_of c d) (are_texts bs ds) e).1 f

pub no_text_at : (bs : List BaseText) (ds : List Definition) (i : ℕ) → are_texts bs ds ≡ true → length bs ≤ i → length ds ≤ i
no_text_at [] [] i e f = omega arith
no_text_at [] (d ∷ ds) i e f = cc
no_text_at (c ∷ bs) [] i e f = cc
no_text_at (c ∷ bs) (d ∷ ds) zero e f = absurd (omega arith)
no_text_at (c ∷ bs) (d ∷ ds) (suc i) e f = let h = no_text_at bs ds i (and_parts (is_text_of c d) (are_texts bs ds) e).1 (omega arith) in omega (arith, h)

pub conclusion_at : (bs : List (Bor Text)) (seqs : List Sequent) (i : ℕ) (b : Bor Text) → are_conclusions bs seqs ≡ true → slice_get bs i ≡ Some b → (a : Sequent) × (slice_get seqs i ≡ Some a) × (b.now ≡ tm_text a.concl)
conclusion_at [] seqs i b e f = cc
conclusion_at (c ∷ bs) [] i b e f = cc
conclusion_at (c ∷ bs) (a ∷ seqs) zero b e f =
    let same : c ≡ b = cc in (a, refl, subst (λ (x : Bor Text). x.now ≡ tm_text a.concl) same ((bytes_eq-Decides c.now (tm_text a.concl)).0 (and_parts (bytes_eq c.now (tm_text a.concl)) (are_conclusions bs seqs) e).0))
conclusion_at (c ∷ bs) (a ∷ seqs) (suc i) b e f = conclusion_at bs seqs i b (and_parts (bytes_eq c.now (tm_text a.concl)) (are_conclusions bs seqs) e).1 f

pub no_conclusion_at : (bs : List (Bor Text)) (seqs : List Sequent) (i : ℕ) → are_conclusions bs seqs ≡ true → length bs ≤ i → length seqs ≤ i
no_conclusion_at [] [] i e f = omega arith
no_conclusion_at [] (a ∷ seqs) i e f = cc
no_conclusion_at (c ∷ bs) [] i e f = cc
no_conclusion_at (c ∷ bs) (a ∷ seqs) zero e f = absurd (omega arith)
no_conclusion_at (c ∷ bs) (a ∷ seqs) (suc i) e f = let h = no_conclusion_at bs seqs i (and_parts (bytes_eq c.now (tm_text a.concl)) (are_conclusions bs seqs) e).1 (omega arith) in omega (arith, h)
