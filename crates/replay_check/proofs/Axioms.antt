-- The three axioms: they have no hypotheses, and are boolean terms that are well typed over the definitions of the connectives and quantifiers.
use Rattle.std.proofs.Common.{◌≡◌, ℕ, zero, suc, true, List, [], Some, refl, sym, subst, slice_get}
use Rattle.hol_terms.specs.Tm.{Tm}
use Rattle.hol_terms.specs.Typing.{tm_type}
use Rattle.hol_terms.specs.Signature.{IsOver}
use Rattle.hol_terms.specs.Definition.{Definition, bool_ty, signature_of}
use Rattle.hol_terms.specs.Sequent.{Sequent, seq}
use Rattle.hol_terms.specs.Rules.{same_ty}
use Rattle.hol_terms.specs.Logic.{axioms, axiom_1, axiom_2, axiom_3}
use Rattle.hol_terms.specs.Base.{base, base_definitions}
use Rattle.hol_terms.specs.Proves.{IsPrefix}
use Rattle.hol_terms.proofs.BaseOpened.{opened_bases}
use Rattle.hol_terms.proofs.Checked.{is_over, IsOver-checked}
use Rattle.hol_terms.proofs.Weaken.{Extends, extends, IsOver-extend}

pub record IsAxiomForm (ds : List Definition) (a : Sequent) : Type 0 where
  pub bare : a ≡ seq [] a.concl
  pub over : IsOver (signature_of ds) [] a.concl
  pub boolean : tm_type a.concl ≡ bool_ty

checked : (t : Tm) → is_over (signature_of (base 10)) [] t ≡ true → tm_type t ≡ bool_ty → IsAxiomForm (base 10) (seq [] t)
checked t o b = record { bare = refl; over = IsOver-checked (signature_of (base 10)) [] t o; boolean = b }

forms : (IsAxiomForm (base 10) (seq [] axiom_1)) × (IsAxiomForm (base 10) (seq [] axiom_2)) × (IsAxiomForm (base 10) (seq [] axiom_3))
unfolding opened_bases base_definitions same_ty
forms = (checked axiom_1 refl refl, checked axiom_2 refl refl, checked axiom_3 refl refl)

form_at : (k : ℕ) (a : Sequent) → slice_get axioms k ≡ Some a → IsAxiomForm (base 10) a
form_at zero a e = let same : seq [] axiom_1 ≡ a = cc in subst (IsAxiomForm (base 10)) same forms.0
form_at (suc zero) a e = let same : seq [] axiom_2 ≡ a = cc in subst (IsAxiomForm (base 10)) same forms.1
form_at (suc (suc zero)) a e = let same : seq [] axiom_3 ≡ a = cc in subst (IsAxiomForm (base 10)) same forms.2
form_at (suc (suc (suc k))) a e = cc

pub axiom_form : (ds : List Definition) (k : ℕ) (a : Sequent) → IsPrefix (base 10) ds → slice_get axioms k ≡ Some a → IsAxiomForm ds a
axiom_form ds k a p e =
    let f = form_at k a e in
    record {
      bare = f.bare;
      over = IsOver-extend (subst (λ es. Extends (signature_of (base 10)) (signature_of es)) (sym p.1) (extends (base 10) p.0)) [] a.concl f.over;
      boolean = f.boolean;
    }
