-- Why a constant or a type may not be defined: the first of the faults.
use Rattle.std.specs.Prelude.{◌==◌, Bool, true, false, not, ◌&&◌, List, length, Option, Some, None, if◌then◌else◌}
use Rattle.hol_terms.specs.Name.{Name}
use Rattle.hol_terms.specs.Tm.{Tm, tm_comb}
use Rattle.hol_terms.specs.Typing.{tm_type}
use Rattle.hol_terms.specs.TyVars.{tm_within}
use Rattle.hol_terms.specs.Signature.{may_introduce}
use Rattle.hol_terms.specs.TypeNames.{may_introduce_type}
use Rattle.hol_terms.specs.Sequent.{Sequent}
use Rattle.hol_terms.specs.Definition.{Definition, signature_of, has_frees}
use Rattle.hol_kernel.specs.declared.kernel.Unfit.{Unfit}
use Rattle.hol_kernel.specs.declared.kernel.Unfit.TheVariants as unfit

-- a name that may not be introduced; a free variable; a type variable that the type lacks
abbrev pub const_fault : List Definition → Name → Tm → Option Unfit
const_fault ds c t =
    if not (may_introduce (signature_of ds) c) then Some unfit.Name else
    (if has_frees t then Some unfit.Free else
    (if not (tm_within t (tm_type t)) then Some unfit.TypeVar else None))

-- the function of an application
abbrev pub function_of : Tm → Tm
function_of (tm_comb f x) = f
function_of t = t

abbrev pub is_application : Tm → Bool
is_application (tm_comb f x) = true
is_application t = false

-- a theorem `|- P t` shows that the predicate P holds of something
abbrev pub shows_inhabited : Sequent → Bool
shows_inhabited a = (length a.hyps == 0) && is_application a.concl

abbrev pub predicate_of : Sequent → Tm
predicate_of a = function_of a.concl

-- a name that a new type may not have; a theorem that shows no predicate inhabited; a free variable in the predicate
abbrev pub type_fault : List Definition → Name → Sequent → Option Unfit
type_fault ds n a =
    if not (may_introduce_type (signature_of ds) n) then Some unfit.Name else
    (if not (shows_inhabited a) then Some unfit.Shape else
    (if has_frees (predicate_of a) then Some unfit.Free else None))
