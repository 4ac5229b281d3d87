-- Reading the canonical text of a type strictly, from front to back.
use Rattle.std.specs.Prelude.{ℕ, zero, suc, ◌+◌, Bool, true, false, not, ◌&&◌, ◌||◌, ◌==◌, length, Option, Some, None, is_some, codes}
use Rattle.hol_terms.specs.Name.{Name, is_segment}
use Rattle.hol_terms.specs.Ty.{Ty, ty_var, ty_app, Tys, no_tys, more_tys}
use Rattle.hol_terms.specs.Typing.{fun_name, fun_ty}
use Rattle.hol_terms.specs.Signature.{Signature, arity_of, tys_count}
use Rattle.hol_terms.specs.Text.{Text, is_arrow, is_function}
use Rattle.strict_reading.specs.Steps.{◌>>=◌, when, choose, either}
use Rattle.strict_reading.specs.Words.{begins_word, word_of, behind_word, ends_word, behind}

abbrev pub is_number : Option ℕ → ℕ → Bool
is_number None k = false
is_number (Some n) k = n == k

-- the signature has a type of that name and number of arguments
abbrev pub has_arity : Signature → Name → ℕ → Bool
has_arity s c k = is_number (arity_of s c) k

-- Readings of smaller texts: a type; what follows a type, which is taken up in it; the types that follow commas. Each with what is left.
pub record TypeReadings : Type 0 where
  pub whole : Text → Option (Ty × Text)
  pub onward : Ty → Text → Option (Ty × Text)
  pub more : Text → Option (Tys × Text)

-- a function type stood in parentheses, and something had to follow
abbrev pub stop_type : Ty → Text → Option (Ty × Text)
stop_type t x = when (not (is_function t)) (Some (t, x))

-- a name behind its only argument
abbrev pub name_behind : Signature → TypeReadings → Ty → Text → Option (Ty × Text)
name_behind s r t x = when (has_arity s (word_of x) 1) (r.onward (ty_app (word_of x) (more_tys t no_tys)) (behind_word x))

-- the range of a function type
abbrev pub range_behind : Signature → TypeReadings → Ty → Text → Option (Ty × Text)
range_behind s r t x = when (has_arity s fun_name 2) (r.whole x >>= (λ p. Some (fun_ty t p.0, p.1)))

-- behind a type: a name of one argument, an arrow, or the end
abbrev pub onward_step : Signature → TypeReadings → Ty → Text → Option (Ty × Text)
onward_step s r t x =
    either (behind (codes " ") x) (λ y. choose (begins_word y) (name_behind s r t y) (either (behind (codes "-> ") y) (λ z. range_behind s r t z) (stop_type t x))) (stop_type t x)

-- behind the quote of a type variable
abbrev pub variable_step : TypeReadings → Text → Option (Ty × Text)
variable_step r x = when (is_segment (word_of x)) (r.onward (ty_var (word_of x)) (behind_word x))

abbrev pub name_step : Signature → TypeReadings → Text → Option (Ty × Text)
name_step s r x = when (begins_word x) (when (has_arity s (word_of x) 0) (r.onward (ty_app (word_of x) no_tys) (behind_word x)))

abbrev pub some_types : Tys → Bool
some_types no_tys = false
some_types (more_tys t ts) = true

-- the name behind several types in parentheses
abbrev pub tuple_step : Signature → TypeReadings → Ty → Tys → Text → Option (Ty × Text)
tuple_step s r t ts x =
    when (some_types ts) (when (has_arity s (word_of x) (tys_count (more_tys t ts))) (when (not (is_arrow (word_of x) (more_tys t ts))) (r.onward (ty_app (word_of x) (more_tys t ts)) (behind_word x))))

-- behind the first type in parentheses
abbrev pub group_step : Signature → TypeReadings → Ty → Text → Option (Ty × Text)
group_step s r t x =
    either (behind (codes ")") x) (λ y. when (is_function t) (r.onward t y)) (r.more x >>= (λ p. behind (codes ") ") p.1 >>= (λ y. tuple_step s r t p.0 y)))

abbrev pub type_step : Signature → TypeReadings → Text → Option (Ty × Text)
type_step s r x = either (behind (codes "'") x) (λ y. variable_step r y) (either (behind (codes "(") x) (λ y. r.whole y >>= (λ p. group_step s r p.0 p.1)) (name_step s r x))

abbrev pub more_step : TypeReadings → Text → Option (Tys × Text)
more_step r x = either (behind (codes ",") x) (λ y. r.whole y >>= (λ p. r.more p.1 >>= (λ q. Some (more_tys p.0 q.0, q.1)))) (Some (no_tys, x))

-- readings of texts of less than so many bytes
unfoldable pub types_below : Signature → ℕ → TypeReadings
types_below s zero = record { whole = λ x. None; onward = λ t x. None; more = λ x. None }
types_below s (suc n) = record { whole = type_step s (types_below s n); onward = onward_step s (types_below s n); more = more_step (types_below s n) }

-- the type whose canonical text the text begins with, and what is left
unfoldable pub reads_type : Signature → Text → Option (Ty × Text)
reads_type s x = (types_below s (length x + 1)).whole x

-- the types that follow commas
unfoldable pub reads_types : Signature → Text → Option (Tys × Text)
reads_types s x = (types_below s (length x + 1)).more x

-- what follows a type that was read: names of one argument and ranges, which are taken up in it
unfoldable pub reads_onward : Signature → Ty → Text → Option (Ty × Text)
reads_onward s t x = (types_below s (length x + 1)).onward t x

-- the readings of texts of any length
abbrev pub type_readings : Signature → TypeReadings
type_readings s = record { whole = reads_type s; onward = reads_onward s; more = reads_types s }

-- no type goes on with the text: behind a space stands no word, and no arrow
abbrev pub goes_on : Option Text → Bool
goes_on None = false
goes_on (Some x) = begins_word x || is_some (behind (codes "-> ") x)

abbrev pub ends_type : Text → Bool
ends_type x = ends_word x && not (goes_on (behind (codes " ") x))
