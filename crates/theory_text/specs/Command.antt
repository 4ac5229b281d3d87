-- The text of one command `define NAME : TYPE = TERM;`, with white space and comments between its tokens: what it means over a
-- signature, where it is one.
use Rattle.std.specs.Prelude.{ℕ, ◌+◌, ◌-◌, Bool, true, false, not, ◌&&◌, ◌==◌, nat_le, List, [], ◌∷◌, length, if◌then◌else◌, Option, Some, None, bytes_eq, codes}
use Rattle.std.specs.Ordering.{is_eq}
use Rattle.std.specs.Str.{is_utf8}
use Rattle.hol_terms.specs.Name.{Name, is_numbered}
use Rattle.hol_terms.specs.Ty.{Ty}
use Rattle.hol_terms.specs.Tm.{Tm}
use Rattle.hol_terms.specs.Typing.{tm_type}
use Rattle.hol_terms.specs.TyVars.{occurs}
use Rattle.hol_terms.specs.Subst.{ty_cmp}
use Rattle.hol_terms.specs.Signature.{Signature, may_introduce}
use Rattle.hol_terms.specs.Definition.{has_frees}
use Rattle.hol_terms.specs.Text.{Text}
use Rattle.hol_terms.specs.Tokens.{Kind, a_name, a_variable, a_keyword, open_paren, close_paren, open_brace, comma, colon, semicolon, equals, arrow, the_end, Token, token, tokens, head_kind, head_text, head_place, tail}
use Rattle.hol_terms.specs.Meaning.{Meaning, means, fault}
use Rattle.hol_terms.specs.Reading.{Front, got, stop, ◌>>=◌, stop_at, expect_by, is_name_token, is_dotted, typed_at, term_at}

-- ---- limits

-- a type has at most so many tokens, a term with the types in it so many
abbrev pub type_limit : ℕ
type_limit = 256

abbrev pub term_limit : ℕ
term_limit = 1024

-- Within types: how many parentheses are open, and one for the type itself, or 0 outside of types; and how many tokens of the type
-- there are so far. A type stands behind a colon, and between braces and the commas in them.
abbrev pub Run : Type 0
Run = ℕ × ℕ

-- the first token behind a type's sign begins it
abbrev pub run_outside : Kind → Run
run_outside colon = (1, 0)
run_outside open_brace = (1, 0)
run_outside k = (0, 0)

-- at a comma in braces the next type begins
abbrev pub run_inside : Kind → ℕ → ℕ → Run
run_inside a_name d n = (d, n + 1)
run_inside a_variable d n = (d, n + 1)
run_inside arrow d n = (d, n + 1)
run_inside open_paren d n = (d + 1, n + 1)
run_inside close_paren d n = (d - 1, n + 1)
run_inside comma d n = if d == 1 then (1, 0) else (d, n + 1)
run_inside k d n = (0, 0)

abbrev pub run_by : Kind → Run → Run
run_by k r = if r.0 == 0 then run_outside k else run_inside k r.0 r.1

-- none of the types is longer than the limit
abbrev pub types_fit : Run → List Token → Bool
types_fit r [] = true
types_fit r (token k w p ∷ ts) = nat_le (run_by k r).1 type_limit && types_fit (run_by k r) ts

-- ---- by the grammar

-- a command as it is written: the new name, what its type and its term mean, and the tokens from the term on
pub record Written : Type 0 where
  pub name : Name
  pub ty : Meaning Ty
  pub term : Meaning Tm
  pub from_term : List Token

abbrev pub is_keyword_token : Kind → Bool
is_keyword_token a_keyword = true
is_keyword_token k = false

abbrev pub is_equals : Kind → Bool
is_equals equals = true
is_equals k = false

abbrev pub is_semicolon : Kind → Bool
is_semicolon semicolon = true
is_semicolon k = false

abbrev pub is_end : Kind → Bool
is_end the_end = true
is_end k = false

-- the word `define` is the first of the text
abbrev pub begins : List Token → Bool
begins ts = is_keyword_token (head_kind ts) && bytes_eq (head_text ts) (codes "define") && (head_place ts == 0)

-- the `;` is the last of the text
abbrev pub ends : List Token → Bool
ends ts = is_semicolon (head_kind ts) && is_end (head_kind (tail ts)) && (head_place (tail ts) - head_place ts == 1)

-- `define NAME`
abbrev pub named_by : Bool → List Token → Front Name
named_by true ts = expect_by (is_name_token (head_kind (tail ts))) (head_text (tail ts)) (tail ts)
named_by false ts = stop_at ts

unfoldable pub named_at : List Token → Front Name
named_at ts = named_by (begins ts) ts

-- `: TYPE =`
unfoldable pub stated_at : Signature → ℕ → List Token → Front (Meaning Ty)
stated_at s n ts = typed_at s n ts >>= (λ t rest. expect_by (is_equals (head_kind rest)) t rest)

-- `TERM;`, where the `;` and the end are two tokens behind the term
abbrev pub body_by : Bool → Signature → ℕ → List Token → Front (Meaning Tm)
body_by true s n ts = term_at s n [] ts >>= (λ x rest. expect_by (ends rest) x.meaning rest)
body_by false s n ts = stop_at ts

unfoldable pub body_at : Signature → ℕ → List Token → Front (Meaning Tm)
body_at s n ts = body_by (nat_le (length ts) (term_limit + 2)) s n ts

unfoldable pub written_at : Signature → ℕ → List Token → Front Written
written_at s n ts = named_at ts >>= (λ name rest. stated_at s n rest >>= (λ t from. body_at s n from
    >>= (λ b end. got (record { name = name; ty = t; term = b; from_term = from }) end)))

-- ---- what it means

-- A definition: the new name and its term, and, as it stands in the text, the first type variable of the term that its type has
-- not. Where there is none, these are empty and 0.
pub record Define : Type 0 where
  pub name : Name
  pub body : Tm
  pub stray : Name
  pub stray_place : ℕ

-- the tokens from the first type variable on that the type has not
abbrev pub is_stray : Ty → Token → Bool
is_stray t (token a_variable w p) = not (occurs w t)
is_stray t (token k w p) = false

abbrev pub strays : Ty → List Token → List Token
strays t [] = []
strays t (x ∷ xs) = if is_stray t x then x ∷ xs else strays t xs

-- a name that is new, has no dot and isn't reserved: `plugin`, `x` and digits, and `0`, which is the number's
abbrev pub is_free_name : Signature → Name → Bool
is_free_name s n = may_introduce s n && not (is_dotted n) && not (bytes_eq n (codes "plugin")) && not (bytes_eq n (codes "0"))

-- no type variable is called `x` and digits
abbrev pub is_numbered_variable : Token → Bool
is_numbered_variable (token a_variable w p) = is_numbered w
is_numbered_variable (token k w p) = false

abbrev pub are_unnumbered : List Token → Bool
are_unnumbered [] = true
are_unnumbered (t ∷ ts) = not (is_numbered_variable t) && are_unnumbered ts

-- a term without free variables, of the stated type
abbrev pub is_body : Ty → Tm → Bool
is_body t b = is_eq (ty_cmp (tm_type b) t) && not (has_frees b)

abbrev pub stated : Name → Ty → Tm → List Token → Option Define
stated n t b from = if is_body t b then Some (record { name = n; body = b; stray = head_text (strays t from); stray_place = head_place (strays t from) }) else None

abbrev pub meant_by : Name → Meaning Ty → Meaning Tm → List Token → Option Define
meant_by n (means t) (means b) from = stated n t b from
meant_by n (means t) (fault e) from = None
meant_by n (fault e) (means b) from = None
meant_by n (fault e) (fault d) from = None

abbrev pub meant : Signature → Name → Meaning Ty → Meaning Tm → List Token → Option Define
meant s n t b from = if is_free_name s n then meant_by n t b from else None

abbrev pub accepted : Signature → Front Written → Option Define
accepted s (got w ts) = meant s w.name w.ty w.term w.from_term
accepted s (stop p) = None

-- the definition that the tokens of a text of so many bytes state
unfoldable pub define_in : Signature → ℕ → List Token → Option Define
define_in s n ts = if types_fit (0, 0) ts && are_unnumbered ts then accepted s (written_at s (n + 1) ts) else None

-- the definition that the text states, if it is one command that passes each test but that of the type variables
unfoldable pub define_of : Signature → Text → Option Define
define_of s t = if is_utf8 t then define_in s (length t) (tokens t) else None
