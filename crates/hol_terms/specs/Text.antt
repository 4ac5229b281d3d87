-- Canonical text of types, terms, definitions and theorems: one text for each.
use Rattle.std.specs.Prelude.{ℕ, ◌+◌, ◌-◌, Bool, true, false, not, List, [], ◌∷◌, ◌++◌, if◌then◌else◌, bytes_eq, codes}
use Rattle.std.specs.List.{flat_map}
use Rattle.std.specs.Fmt.{decimal}
use Rattle.hol_terms.specs.Name.{Name}
use Rattle.hol_terms.specs.Ty.{Ty, ty_var, ty_app, Tys, no_tys, more_tys, tys}
use Rattle.hol_terms.specs.Tm.{Tm, tm_index, tm_free, tm_const, tm_comb, tm_abs}
use Rattle.hol_terms.specs.Typing.{tm_type, first_ty, fun_name}
use Rattle.hol_terms.specs.Definition.{Definition, const_def, type_def, new_type}
use Rattle.hol_terms.specs.Sequent.{argument}

abbrev pub Text : Type 0
Text = List ℕ

abbrev pub in_parentheses : Text → Text
in_parentheses x = codes "(" ++ x ++ codes ")"

abbrev pub parenthesized : Bool → Text → Text
parenthesized true x = in_parentheses x
parenthesized false x = x

-- the texts, with commas between them
abbrev pub with_commas : List Text → Text
with_commas [] = []
with_commas (x ∷ xs) = x ++ flat_map (λ y. codes "," ++ y) xs

-- the name is `fun`, of two arguments
abbrev pub is_arrow : Name → Tys → Bool
is_arrow c (more_tys a (more_tys b no_tys)) = bytes_eq c fun_name
is_arrow c ts = false

abbrev pub is_function : Ty → Bool
is_function (ty_var n) = false
is_function (ty_app c ts) = is_arrow c ts

-- `c`; `ARG c`; `DOM -> t`; `(t,u) c`, from the texts of the arguments
abbrev pub application_text : Name → Tys → List Text → Text
application_text c ts [] = c
application_text c ts (x ∷ []) = parenthesized (is_function (first_ty ts)) x ++ codes " " ++ c
application_text c ts (x ∷ y ∷ ys) =
    if is_arrow c ts then parenthesized (is_function (first_ty ts)) x ++ codes " -> " ++ y else in_parentheses (with_commas (x ∷ y ∷ ys)) ++ codes " " ++ c

-- the text of a type; a function type stands in parentheses as a domain and as the only argument of a name
abbrev mutual
  pub ty_text : Ty → Text
  ty_text (ty_var n) = codes "'" ++ n
  ty_text (ty_app c ts) = application_text c ts (tys_texts ts)

  pub tys_texts : Tys → List Text
  tys_texts no_tys = []
  tys_texts (more_tys t ts) = ty_text t ∷ tys_texts ts

-- a name with its type arguments in braces, which are absent where there are none
abbrev pub with_arguments : Name → List Text → Text
with_arguments c [] = c
with_arguments c (x ∷ xs) = c ++ codes "{" ++ with_commas (x ∷ xs) ++ codes "}"

-- the bound variable of a binder that d binders enclose
abbrev pub bound_text : ℕ → Text
bound_text d = codes "x" ++ decimal d

-- the signs of the constants that have sugar
pub data Sugar : Type 0 where
  between : Text → Sugar
  before : Sugar
  binding : Text → Sugar
  none : Sugar

abbrev pub sign_between : Name → Sugar
sign_between c =
    if bytes_eq c (codes "eq") then between (codes " = ") else
    (if bytes_eq c (codes "conj") then between (codes " /\\ ") else
    (if bytes_eq c (codes "disj") then between (codes " \\/ ") else
    (if bytes_eq c (codes "imp") then between (codes " ==> ") else none)))

abbrev pub sign_binding : Name → Sugar
sign_binding c = if bytes_eq c (codes "all") then binding (codes "!") else (if bytes_eq c (codes "ex") then binding (codes "?") else none)

abbrev pub sign_before : Name → Sugar → Sugar
sign_before c s = if bytes_eq c (codes "not") then before else s

-- the sugar of an application: `a = b`, `~ a`, `!x:t. p`
abbrev pub sugar : Tm → Tm → Sugar
sugar (tm_comb (tm_const c ts t) a) x = sign_between c
sugar (tm_const c ts t) (tm_abs u b) = sign_before c (sign_binding c)
sugar (tm_const c ts t) x = sign_before c none
sugar f x = none

abbrev pub is_sugar : Sugar → Bool
is_sugar none = false
is_sugar s = true

abbrev pub is_atom : Tm → Bool
is_atom (tm_comb f x) = false
is_atom (tm_abs t b) = false
is_atom t = true

-- a variable, a constant, or an application that isn't sugar
abbrev pub is_plain : Tm → Bool
is_plain (tm_comb f x) = not (is_sugar (sugar f x))
is_plain (tm_abs t b) = false
is_plain t = true

-- The text of a term, that of its argument where it is an application, and what stands behind the sign where it is an
-- abstraction.
pub record Printed : Type 0 where
  pub whole : Text
  pub operand : Text
  pub scope : Text

abbrev pub whole_text : Sugar → Tm → Tm → Printed → Printed → Text
whole_text (between sign) f x F X = parenthesized (not (is_plain (argument f))) F.operand ++ sign ++ parenthesized (not (is_plain x)) X.whole
whole_text before f x F X = codes "~ " ++ parenthesized (not (is_plain x)) X.whole
whole_text (binding sign) f x F X = sign ++ X.scope
whole_text none f x F X = parenthesized (not (is_plain f)) F.whole ++ codes " " ++ parenthesized (not (is_atom x)) X.whole

-- a term below d binders
abbrev pub printed : ℕ → Tm → Printed
printed d (tm_index i t) = record { whole = bound_text (d - (i + 1)); operand = []; scope = [] }
printed d (tm_free v) = record { whole = codes "[" ++ v.name ++ codes ":" ++ ty_text v.ty ++ codes "]"; operand = []; scope = [] }
printed d (tm_const c ts t) = record { whole = with_arguments c (tys_texts (tys ts)); operand = []; scope = [] }
printed d (tm_comb f x) =
    let F = printed d f in
    let X = printed d x in
    record { whole = whole_text (sugar f x) f x F X; operand = X.whole; scope = [] }
printed d (tm_abs t b) =
    let inner = bound_text d ++ codes ":" ++ ty_text t ++ codes ". " ++ (printed (d + 1) b).whole in
    record { whole = codes "\\" ++ inner; operand = []; scope = inner }

-- the text of a term that no binder encloses
abbrev pub tm_text : Tm → Text
tm_text t = (printed 0 t).whole

-- a definition line, and a theorem line
abbrev pub definition_line : Definition → Text
definition_line (const_def c t) = codes "def " ++ c ++ codes " : " ++ ty_text (tm_type t) ++ codes " = " ++ tm_text t
definition_line (type_def n p) = codes "type " ++ ty_text (new_type n p) ++ codes " = " ++ tm_text p

abbrev pub theorem_line : Name → Tm → Text
theorem_line n p = codes "thm " ++ n ++ codes " : " ++ tm_text p
