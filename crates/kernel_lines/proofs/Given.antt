-- For callers of the runner: the given terms and theorems, what a table does, and kernels that have grown.
use Rattle.std.proofs.Common.{◌≡◌, sym, ◌∙◌, subst, List, [], ◌∷◌, Option, Some, IsSome}
use Rattle.std.proofs.lemmas.List.Elements.{All-cons, All-nil}
use Rattle.hol_terms.specs.Tm.{Tm}
use Rattle.hol_terms.specs.Typing.{tm_type}
use Rattle.hol_terms.specs.Signature.{IsOver}
use Rattle.hol_terms.specs.Definition.{Definition, signature_of, bool_ty}
use Rattle.hol_terms.specs.Sequent.{Sequent}
use Rattle.hol_terms.specs.Proves.{IsDerivable}
use Rattle.hol_terms.proofs.Weaken.{Proves-typed}
use Rattle.hol_kernel.specs.State.{State, Theorem, Has, Grows}
use Rattle.kernel_lines.specs.Bases.{HasBase}
use Rattle.kernel_lines.specs.Lines.{run}
use Rattle.kernel_lines.specs.Ready.{AllOver, AllHad, Fits, Gives}
use Rattle.kernel_lines.specs.declared.line.Line.{Line}

pub over_none : (ds : List Definition) → AllOver ds []
over_none ds = record { all = All-nil (IsOver (signature_of ds) []) }

pub over_more : (ds : List Definition) (t : Tm) (ts : List Tm) → IsOver (signature_of ds) [] t → AllOver ds ts → AllOver ds (t ∷ ts)
over_more ds t ts o h = record { all = All-cons (IsOver (signature_of ds) []) t ts o h.all }

pub had_none : (k : State) → AllHad k []
had_none k = record { all = All-nil (Has k) }

pub had_more : (k : State) (th : Theorem) (ths : List Theorem) → Has k th → AllHad k ths → AllHad k (th ∷ ths)
had_more k th ths h g = record { all = All-cons (Has k) th ths h g.all }

pub base_grows : (k l : State) → HasBase k.defs → Grows k l → HasBase l.defs
base_grows k l h g = subst HasBase (sym g.defs) h

pub over_grows : (k l : State) (t : Tm) → IsOver (signature_of k.defs) [] t → Grows k l → IsOver (signature_of l.defs) [] t
over_grows k l t h g = subst (λ (ds : List Definition). IsOver (signature_of ds) [] t) (sym g.defs) h

pub had_grows : (k l : State) (th : Theorem) → Has k th → Grows k l → Has l th
had_grows k l th h g = g.keeps th h

pub grows_on : {a b c : State} → Grows a b → Grows b c → Grows a c
grows_on {a} {b} {c} g h = record {
  defs = h.defs ∙ g.defs;
  steps = λ i s e. h.steps i s (g.steps i s e);
  keeps = λ th e. h.keeps th (g.keeps th e);
}

pub ruleset given_lemmas = (over_none, over_more, had_none, had_more)

pub ruleset grows_lemmas = (grows_on, base_grows, had_grows, over_grows)

-- a theorem's conclusion is boolean
pub concl_bool : {ds : List Definition} {a : Sequent} → IsDerivable ds a → tm_type a.concl ≡ bool_ty
concl_bool d = (Proves-typed d.proof).concl_is.1

-- a table that computes what a rule gives
pub fits_by : {ls : List Line} {ts : List Tm} {hs : List Sequent} {r : Option Sequent} → run ts hs ls ≡ r → IsSome r → Fits ts hs ls
fits_by {ls} {ts} {hs} {r} e h = record { is = subst IsSome (sym e) h }

pub gives_by : {ls : List Line} {ts : List Tm} {hs : List Sequent} {r : Option Sequent} {a : Sequent} → run ts hs ls ≡ r → Gives ts hs ls a → r ≡ Some a
gives_by {ls} {ts} {hs} {r} {a} e g = sym e ∙ g.is
