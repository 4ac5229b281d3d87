-- What a table is given.
use Rattle.std.proofs.Common.{◌≡◌, refl, sym, subst, [], ◌∷◌, List, All, IsSome, codes}
use Rattle.std.proofs.lemmas.List.Elements.{All-nil, All-cons}
use Rattle.hol_terms.specs.Ty.{Ty}
use Rattle.hol_terms.specs.Tm.{Tm, tm_free}
use Rattle.hol_terms.specs.Signature.{IsTyOver, IsOver}
use Rattle.hol_terms.specs.Definition.{Definition, bool_ty, signature_of}
use Rattle.hol_terms.specs.Base.{base}
use Rattle.hol_terms.specs.Sequent.{Sequent, seq}
use Rattle.hol_terms.specs.Text.{Text}
use Rattle.hol_terms.proofs.AsciiNames.{is_name_from_ascii}
use Rattle.hol_kernel.specs.State.{State, Theorem, Has}
use Rattle.kernel_lines.specs.Ready.{AllOver, AllHad}
use Rattle.script_core.specs.Tables.{table_sequent}
use Rattle.script_core.specs.Ready.{AllTypesOver, Fits}
use Rattle.script_core.proofs.Closed.{closed_table}
use Rattle.script_tests.specs.Closed.{variable}

pub over : (ds : List Definition) → IsOver (signature_of ds) [] (tm_free variable)
over ds = (is_name_from_ascii (112 ∷ []) refl, (refl, tt))

pub types_over : (ds : List Definition) (ys : List Ty) → ys ≡ bool_ty ∷ [] → AllTypesOver ds ys
types_over ds ys e =
    let h : IsTyOver (signature_of ds) bool_ty = (refl, tt) in
    subst (λ (zs : List Ty). AllTypesOver ds zs) (sym e) (record { all = All-cons (IsTyOver (signature_of ds)) bool_ty [] h (All-nil (IsTyOver (signature_of ds))) })

pub no_types : (ds : List Definition) → AllTypesOver ds []
no_types ds = record { all = All-nil (IsTyOver (signature_of ds)) }

pub terms_over : (ds : List Definition) (ts : List Tm) → ts ≡ tm_free variable ∷ [] → AllOver ds ts
terms_over ds ts e =
    subst (λ (us : List Tm). AllOver ds us) (sym e) (record { all = All-cons (IsOver (signature_of ds) []) (tm_free variable) [] (over ds) (All-nil (IsOver (signature_of ds) [])) })

pub had : (k : State) (th : Theorem) → Has k th → AllHad k (th ∷ [])
had k th h = record { all = All-cons (Has k) th [] h (All-nil (Has k)) }

abbrev table : Text
table = codes "refl 0\nconj_i 0 1\nterm [x:'a]\nrefl 1\ninst_type 3 a 0\nconj_i 2 4\n"

computes : IsSome (table_sequent (base 10) [] (record { types = bool_ty ∷ []; terms = tm_free variable ∷ []; thms = seq (tm_free variable ∷ []) (tm_free variable) ∷ [] }) table)
unfolding closed_table
computes = refl

pub given_fits : (ds : List Definition) (ys : List Ty) (ts : List Tm) (a : Sequent) → ds ≡ base 10 → ys ≡ bool_ty ∷ [] → ts ≡ tm_free variable ∷ [] → a ≡ seq (tm_free variable ∷ []) (tm_free variable)
    → Fits ds [] (record { types = ys; terms = ts; thms = a ∷ [] }) (codes "refl 0\nconj_i 0 1\nterm [x:'a]\nrefl 1\ninst_type 3 a 0\nconj_i 2 4\n")
given_fits ds ys ts a d y t e = record { is = subst IsSome (sym (λ i. table_sequent (d i) [] (record { types = y i; terms = t i; thms = e i ∷ [] }) table)) computes }
