-- The base definitions that lines name, and what they say.
use Rattle.std.specs.Prelude.{ℕ, List, [], Option, Some, None}
use Rattle.hol_terms.specs.Typing.{tm_type}
use Rattle.hol_terms.specs.TyVars.{own_const}
use Rattle.hol_terms.specs.Definition.{Definition, const_def, type_def}
use Rattle.hol_terms.specs.Sequent.{Sequent, seq, eq_tm}
use Rattle.hol_terms.specs.Logic.{base_1, base_2, base_3, base_4, base_5, base_6, base_7, base_8, base_9, base_10}
use Rattle.hol_terms.specs.Base.{base}
use Rattle.hol_terms.specs.Proves.{IsPrefix}
use Rattle.kernel_lines.specs.declared.line.BaseName.{BaseName}
use Rattle.kernel_lines.specs.declared.line.BaseName.TheVariants.{Truth, Conj, Imp, All, Ex, Disj, Falsity, Not, OneOne, Onto}

abbrev pub base_of : BaseName → Definition
base_of Truth = base_1
base_of Conj = base_2
base_of Imp = base_3
base_of All = base_4
base_of Ex = base_5
base_of Disj = base_6
base_of Falsity = base_7
base_of Not = base_8
base_of OneOne = base_9
base_of Onto = base_10

-- its place among the definitions
abbrev pub place_of : BaseName → ℕ
place_of Truth = 0
place_of Conj = 1
place_of Imp = 2
place_of All = 3
place_of Ex = 4
place_of Disj = 5
place_of Falsity = 6
place_of Not = 7
place_of OneOne = 8
place_of Onto = 9

-- `c = t`, where the definition is a constant's
abbrev pub said : Definition → Option Sequent
said (const_def c t) = Some (seq [] (eq_tm (own_const c (tm_type t)) t))
said (type_def n p) = None

-- the definitions begin with the first ten base definitions
pub record HasBase (ds : List Definition) : Type 0 where
  pub is : IsPrefix (base 10) ds
