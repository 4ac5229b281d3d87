-- The texts of base definitions and axioms are read as these.
use Rattle.std.proofs.Common.{◌≡◌, ◌⊎◌, inl, inr, ℕ, zero, suc, ◌<◌, ◌≤◌, ◌^◌, ◌+◌, Bool, true, false, List, [], ◌∷◌, ◌++◌, length, Option, Some, None, refl, sym, ap, ◌∙◌, subst, arith, slice_get, take, append-nil}
use Rattle.std.proofs.lemmas.List.{length-take, length-append}
use Rattle.hol_terms.specs.Tm.{Tm}
use Rattle.hol_terms.specs.Typing.{tm_type}
use Rattle.hol_terms.specs.Text.{Text, tm_text}
use Rattle.hol_terms.specs.Signature.{Signature, IsOver}
use Rattle.hol_terms.specs.Definition.{Definition, const_def, type_def, bool_ty, signature_of}
use Rattle.hol_terms.specs.Sequent.{Sequent, seq}
use Rattle.hol_terms.specs.Logic.{axioms}
use Rattle.hol_terms.specs.Base.{base, base_definitions}
use Rattle.hol_terms.specs.Proves.{IsPrefix}
use Rattle.hol_terms.specs.ReadsBack.{ReadsBack}
use Rattle.hol_terms.proofs.BaseTyped.{base_well_formed}
use Rattle.hol_logs.specs.Step.{are_base, if_connectives}
use Rattle.hol_logs.proofs.BaseStands.{base_is, connectives_there}
use Rattle.strict_reading.specs.Terms.{reads_term}
use Rattle.strict_reading.proofs.TermsComplete.{whole_complete}
use Rattle.flat_terms.specs.Plain.{PlainTables, HasName, HasTerm, name_of, term_of}
use Rattle.flat_terms.specs.declared.nodes.NameId.{NameId}
use Rattle.flat_terms.specs.declared.nodes.TermId.{TermId}
use Rattle.flat_instances.specs.TablesGrow.{TablesGrow}
use Rattle.flat_signatures.specs.Reads.{IsNameNumber}
use Rattle.replay_check.specs.declared.base_texts.BaseKind.TheVariants.{Constant, NewType}
use Rattle.replay_check.proofs.Axioms.{axiom_form}
use Rattle.replay_check.specs.declared.base_texts.BaseText.{BaseText}
use Rattle.replay_check.specs.BaseTexts.{IsTextOf}
use Rattle.base_count.specs.InForce.{in_force}
use Rattle.replay_check.specs.Definitions.{IsTermText, IsTermOfText}

-- ---- texts of closed terms

some_none : {A : Type 0} (o : Option A) (x : A) → o ≡ None → o ≡ Some x → ⊥
some_none o x e f = cc

some_is : {A : Type 0} (x y : A) → Some x ≡ Some y → x ≡ y
some_is x y e = cc

pub reads_it : (s : Signature) (x : Text) → ReadsBack s → length x < 2 ^ 64 → IsTermText s x → reads_term s [] x ≡ None → ⊥
reads_it s x r l t e = some_none (reads_term s [] x) (t.0, []) e (whole_complete s x t.0 r l t.1 t.2)

pub the_term : (t : PlainTables) (s : Signature) (x y : Text) (n : TermId) (rest : Text) → ReadsBack s → length x < 2 ^ 64 → y ≡ x → HasTerm t n → reads_term s [] y ≡ Some (term_of t n, rest) → IsTermOfText t s x n
the_term t s x y n rest r l same h e = (
  h,
  λ u f o.
      let whole = whole_complete s x u r l f o in
      ap (λ (p : Tm × Text). p.0) (some_is (term_of t n, rest) (u, []) (sym e ∙ ap (reads_term s []) same ∙ whole)),
)

-- ---- places among the base definitions

get_take : {A : Type 0} (n i : ℕ) (xs : List A) → i < n → slice_get (take n xs) i ≡ slice_get xs i
get_take zero i xs h = absurd (omega arith)
get_take (suc n) i [] h = refl
get_take (suc n) zero (x ∷ xs) h = refl
get_take (suc n) (suc i) (x ∷ xs) h = get_take n i xs (omega arith)

get_past : {A : Type 0} (n i : ℕ) (xs : List A) → n ≤ i → slice_get (take n xs) i ≡ None
get_past zero i xs h = refl
get_past (suc n) i [] h = refl
get_past (suc n) zero (x ∷ xs) h = absurd (omega arith)
get_past (suc n) (suc i) (x ∷ xs) h = get_past n i xs (omega arith)

pub not_in_force : (place : ℕ) → 33 ≤ place → slice_get (base in_force) place ≡ None
not_in_force place h = get_past 33 place base_definitions h

pub stands_in_force : (place : ℕ) (d : Definition) → place < 33 → slice_get base_definitions place ≡ Some d → slice_get (base in_force) place ≡ Some d
stands_in_force place d h e = get_take 33 place base_definitions h ∙ e

-- there are enough of them
fifty_two : length base_definitions ≡ 52
unfolding base_definitions
fifty_two = refl

pub never_past : (place : ℕ) → place < 33 → length base_definitions ≤ place → ⊥
never_past place h l = let n = fifty_two in absurd (omega (arith, n))

-- ---- texts of base definitions

pub text_over : (b : BaseText) (s : Signature) (place : ℕ) (d : Definition) → slice_get base_definitions place ≡ Some d → IsTextOf b d → s ≡ signature_of (base place) → IsTermText s b.«term».now
text_over b s place (const_def c t) e i f = (t, i.2, subst (λ r. IsOver r [] t) (sym f) (base_well_formed place (const_def c t) e).typed)
text_over b s place (type_def c t) e i f = (t, i.2, subst (λ r. IsOver r [] t) (sym f) (base_well_formed place (type_def c t) e).typed)

-- ---- the next base definition

prefix_take : {A : Type 0} (xs ys more : List A) (n : ℕ) → take n xs ≡ ys ++ more → length ys < n → ys ≡ take (length ys) xs
prefix_take xs [] more n e h = refl
prefix_take [] (y ∷ ys) more zero e h = absurd (omega arith)
prefix_take [] (y ∷ ys) more (suc n) e h = cc
prefix_take (x ∷ xs) (y ∷ ys) more zero e h = absurd (omega arith)
prefix_take (x ∷ xs) (y ∷ ys) more (suc n) e h =
    let heads : x ≡ y = cc in
    let tails : take n xs ≡ ys ++ more = cc in
    let rest = prefix_take xs ys more n tails (omega arith) in
    λ i. sym heads i ∷ rest i

pub prefix_is : (ds : List Definition) → IsPrefix ds (base in_force) → length ds < 33 → ds ≡ base (length ds)
prefix_is ds p h = prefix_take base_definitions ds p.0 33 p.1 h

-- ---- axioms

ten_long : length (base 10) ≡ 10
unfolding base_definitions
ten_long = refl

pub few_definitions : (ds : List Definition) → length ds < 10 → are_base 10 (take 10 ds) ≡ false
few_definitions ds h = at (are_base 10 (take 10 ds)) refl
  where
    at : (b : Bool) → are_base 10 (take 10 ds) ≡ b → are_base 10 (take 10 ds) ≡ false
    at false e = e
    at true e =
        let size : length (take 10 ds) ≡ 10 = ap length (base_is 10 (take 10 ds) e) ∙ ten_long in
        absurd (omega (arith, size, length-take 10 ds, h))

nothing_more : {A : Type 0} (xs : List A) → length xs ≤ 0 → xs ≡ []
nothing_more [] h = refl
nothing_more (x ∷ xs) h = absurd (omega arith)

-- ten definitions or more that begin with the ten or begin them begin with them
pub ten_stand : (ds : List Definition) → 10 ≤ length ds → (IsPrefix (base 10) ds ⊎ IsPrefix ds (base 10)) → IsPrefix (base 10) ds
ten_stand ds h (inl p) = p
ten_stand ds h (inr p) =
    let sizes : length (base 10) ≡ length ds + length p.0 = ap length p.1 ∙ length-append ds p.0 in
    let none : p.0 ≡ [] = nothing_more p.0 (omega (arith, h, sizes, ten_long)) in
    ([], sym (p.1 ∙ ap (λ m. ds ++ m) none ∙ append-nil ds) ∙ sym (append-nil (base 10)))

pub no_axiom : (ds : List Definition) (o : Option Sequent) → length ds < 10 → if_connectives (are_base 10 (take 10 ds)) o ≡ None
no_axiom ds o h = ap (λ b. if_connectives b o) (few_definitions ds h)

pub axiom_there : (ds : List Definition) (o : Option Sequent) → IsPrefix (base 10) ds → if_connectives (are_base 10 (take 10 ds)) o ≡ o
axiom_there ds o p = ap (λ b. if_connectives b o) (connectives_there ds p)

-- ---- base definitions by their numbers

kinds_differ : Constant ≡ NewType → ⊥
kinds_differ e = cc

pub put_constant : (b : BaseText) (s : Signature) (t u : PlainTables) (place : ℕ) (d : Definition) (c : NameId) (n : TermId) → place < 33 → slice_get base_definitions place ≡ Some d → IsTextOf b d
    → s ≡ signature_of (base place) → b.kind ≡ Constant → IsTermOfText t s b.«term».now n → TablesGrow t u → IsNameNumber u c b.name.now
    → (HasName u c × HasTerm u n) × (slice_get (base in_force) place ≡ Some (const_def (name_of u c) (term_of u n)))
put_constant b s t u place (const_def x y) c n h e i f k o g m =
    let over : IsOver s [] y = subst (λ r. IsOver r [] y) (sym f) (base_well_formed place (const_def x y) e).typed in
    let tree : term_of u n ≡ y = g.same_term n o.0 ∙ o.1 y i.2 over in
    let name : name_of u c ≡ x = m.text ∙ i.1 in
    ((m.has, g.has_term n o.0), stands_in_force place (const_def x y) h e ∙ (λ j. Some (const_def (sym name j) (sym tree j))))
put_constant b s t u place (type_def x y) c n h e i f k o g m = absurd (kinds_differ (sym k ∙ i.0))

pub put_type : (b : BaseText) (s : Signature) (t u : PlainTables) (place : ℕ) (d : Definition) (c : NameId) (n : TermId) → place < 33 → slice_get base_definitions place ≡ Some d → IsTextOf b d
    → s ≡ signature_of (base place) → b.kind ≡ NewType → IsTermOfText t s b.«term».now n → TablesGrow t u → IsNameNumber u c b.name.now
    → (HasName u c × HasTerm u n) × (slice_get (base in_force) place ≡ Some (type_def (name_of u c) (term_of u n)))
put_type b s t u place (const_def x y) c n h e i f k o g m = absurd (kinds_differ (sym i.0 ∙ k))
put_type b s t u place (type_def x y) c n h e i f k o g m =
    let over : IsOver s [] y = subst (λ r. IsOver r [] y) (sym f) (base_well_formed place (type_def x y) e).typed in
    let tree : term_of u n ≡ y = g.same_term n o.0 ∙ o.1 y i.2 over in
    let name : name_of u c ≡ x = m.text ∙ i.1 in
    ((m.has, g.has_term n o.0), stands_in_force place (type_def x y) h e ∙ (λ j. Some (type_def (sym name j) (sym tree j))))

-- ---- axioms by their numbers

pub axiom_text_over : (ds : List Definition) (s : Signature) (k : ℕ) (a : Sequent) (x : Text) → IsPrefix (base 10) ds → s ≡ signature_of ds → slice_get axioms k ≡ Some a → x ≡ tm_text a.concl → IsTermText s x
axiom_text_over ds s k a x p f e i = (a.concl, i, subst (λ r. IsOver r [] a.concl) (sym f) (axiom_form ds k a p e).over)

pub axiom_is : (ds : List Definition) (s : Signature) (t : PlainTables) (k : ℕ) (a : Sequent) (x : Text) (n : TermId) → IsPrefix (base 10) ds → s ≡ signature_of ds → slice_get axioms k ≡ Some a → x ≡ tm_text a.concl → IsTermOfText t s x n
    → a ≡ seq [] (term_of t n)
axiom_is ds s t k a x n p f e i o =
    let form = axiom_form ds k a p e in
    form.bare ∙ ap (λ u. seq [] u) (sym (o.1 a.concl i (subst (λ r. IsOver r [] a.concl) (sym f) form.over)))

pub axiom_boolean : (ds : List Definition) (k : ℕ) (a : Sequent) → IsPrefix (base 10) ds → slice_get axioms k ≡ Some a → tm_type a.concl ≡ bool_ty
axiom_boolean ds k a p e = (axiom_form ds k a p e).boolean
