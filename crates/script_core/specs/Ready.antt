-- What a table needs of the kernel and of what is given.
use Rattle.std.specs.Prelude.{◌≡◌, List, [], ◌∷◌, ◌++◌, IsSome, All, Some}
use Rattle.hol_terms.specs.Ty.{Ty}
use Rattle.hol_terms.specs.Tm.{Tm}
use Rattle.hol_terms.specs.Subst.{TySubst}
use Rattle.hol_terms.specs.Binding.{VarSubst}
use Rattle.hol_terms.specs.Signature.{IsTyOver}
use Rattle.hol_terms.specs.Definition.{Definition, signature_of}
use Rattle.hol_terms.specs.Sequent.{Sequent}
use Rattle.hol_terms.specs.Text.{Text}
use Rattle.hol_kernel.specs.State.{State}
use Rattle.kernel_lines.specs.Ready.{behind, sequents, AllOver, AllHad}
use Rattle.script_core.specs.Steps.{Registers, types_put, terms_put}
use Rattle.script_core.specs.Tables.{run, facts_put, table_sequent}
use Rattle.script_core.specs.declared.entries.Entries.{Entries}
use Rattle.script_core.specs.declared.run.Given.{Given}

-- each type is well formed over the definitions
pub record AllTypesOver (ds : List Definition) (ys : List Ty) : Type 0 where
  pub all : All (IsTyOver (signature_of ds)) ys

-- the plain values of the registers
abbrev pub values : Entries → Registers
values r = record { types = r.types.items; terms = r.terms.items; thms = sequents r.thms.items }

-- types and terms are well formed over the kernel's definitions, and the kernel has the theorems
pub record IsReady (k : State) (r : Entries) : Type 0 where
  pub types : AllTypesOver k.defs r.types.items
  pub terms : AllOver k.defs r.terms.items
  pub thms : AllHad k r.thms.items

-- the same of what is given to a table
abbrev pub given_values : Given → Registers
given_values g = record { types = g.types.now; terms = g.terms.now; thms = sequents (behind g.thms.now) }

pub record IsGiven (k : State) (g : Given) : Type 0 where
  pub types : AllTypesOver k.defs g.types.now
  pub terms : AllOver k.defs g.terms.now
  pub thms : AllHad k (behind g.thms.now)

-- the table can be run, and what it gives
pub record Fits (ds : List Definition) (facts : List Text) (given : Registers) (table : Text) : Type 0 where
  pub is : IsSome (table_sequent ds facts given table)

pub record Gives (ds : List Definition) (facts : List Text) (given : Registers) (table : Text) (a : Sequent) : Type 0 where
  pub is : table_sequent ds facts given table ≡ Some a

-- A line can be followed where some further lines give something after it, and what it makes is then what further lines start
-- from.
pub record LineFits (ds : List Definition) (r : Registers) (line : Text) : Type 0 where
  pub rest : List Text
  pub is : IsSome (run ds r (line ∷ rest))

pub record LineSteps (ds : List Definition) (r : Registers) (line : Text) (q : Registers) : Type 0 where
  pub is : (more : List Text) → run ds r (line ∷ more) ≡ run ds q more

-- The same of a pair of words.
pub record TypeFits (ys : List Ty) (found : TySubst) (name word : Text) : Type 0 where
  pub rest : List Text
  pub is : IsSome (types_put ys found (name ∷ word ∷ rest))

pub record TypeSteps (ys : List Ty) (found : TySubst) (name word : Text) (new : TySubst) : Type 0 where
  pub is : (more : List Text) → types_put ys found (name ∷ word ∷ more) ≡ types_put ys new more

pub record TermFits (ts : List Tm) (found : VarSubst) (variable word : Text) : Type 0 where
  pub rest : List Text
  pub is : IsSome (terms_put ts found (variable ∷ word ∷ rest))

pub record TermSteps (ts : List Tm) (found : VarSubst) (variable word : Text) (new : VarSubst) : Type 0 where
  pub is : (more : List Text) → terms_put ts found (variable ∷ word ∷ more) ≡ terms_put ts new more

-- the registers before the first line: what is given, its theorems behind those of the facts
pub record StartsFrom (facts : List Text) (given r : Registers) : Type 0 where
  pub known : List Sequent
  pub stated : facts_put [] facts ≡ Some known
  pub is : r ≡ record { types = given.types; terms = given.terms; thms = known ++ given.thms }
