-- What the reader's values stand for.
use Rattle.std.specs.Prelude.{string_bytes}
use Rattle.hol_terms.specs.Meaning as Read
use Rattle.hol_text.specs.declared.meaning.Fault.{Fault}
use Rattle.hol_text.specs.declared.meaning.Fault.TheVariants.{Unknown, IllTyped}
use Rattle.hol_text.specs.declared.meaning.Meaning.{Meaning}
use Rattle.hol_text.specs.declared.meaning.Meaning.TheVariants.{Means, Faulty}
use Rattle.hol_text.specs.declared.meaning.Arguments.{Arguments}
use Rattle.hol_text.specs.declared.meaning.Arguments.TheVariants.{Given, Flawed}
use Rattle.hol_text.specs.declared.meaning.Operand.{Operand}

abbrev pub fault_of : Fault → Read.Fault
fault_of (Unknown n p) = Read.unknown_at (string_bytes n) p
fault_of (IllTyped p) = Read.ill_at p

abbrev pub meaning_of : {A : Type 0} → Meaning A → Read.Meaning A
meaning_of (Means x) = Read.means x
meaning_of (Faulty e) = Read.fault (fault_of e)

abbrev pub arguments_of : Arguments → Read.Arguments
arguments_of (Given ts) = Read.given ts.items
arguments_of (Flawed k e) = Read.faulty k (fault_of e)

abbrev pub operand_of : Operand → Read.Operand
operand_of o = Read.operand (meaning_of o.meaning) o.first
