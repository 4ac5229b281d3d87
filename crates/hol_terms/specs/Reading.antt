-- Reading types and terms, from left to right. One reading gives all three refusals: a text that is no type or term by the
-- grammar, and else the first fault. A number bounds how deep a text nests and how long its lists are: one more than
-- its bytes is enough, since each level and each member takes a byte, and the end one more.
use Rattle.std.specs.Prelude.{ℕ, zero, suc, ◌+◌, Bool, true, false, ◌==◌, List, [], ◌∷◌, ◌++◌, length, if◌then◌else◌, Option, Some, None, bytes_eq, codes}
use Rattle.std.specs.List.{list_any}
use Rattle.hol_terms.specs.Name.{Name}
use Rattle.hol_terms.specs.Ty.{Ty, ty_var}
use Rattle.hol_terms.specs.Tm.{Tm, tm_free, FreeVar}
use Rattle.hol_terms.specs.Signature.{Signature}
use Rattle.hol_terms.specs.Text.{Text}
use Rattle.hol_terms.specs.Tokens.{Kind, a_name, a_variable, open_paren, close_paren, open_brace, close_brace, open_bracket, close_bracket, comma, colon, dot, equals, arrow, lambda_sign, all_sign, ex_sign, not_sign, and_sign, or_sign, implies_sign, the_end, Token, tokens, head_kind, head_text, head_place, tail}
use Rattle.hol_terms.specs.Meaning.{unknown_at, ill_at, Meaning, means, fault, Arguments, given, with_one, applied, function, constant, Operand, operand, apply, equation, connective, negation, abstraction, quantified}

-- a value, and the tokens after it; or the place of a token that the grammar does not have there
pub data Front (A : Type 0) : Type 0 where
  got : A → List Token → Front A
  stop : ℕ → Front A

infixl 10 ◌>>=◌
abbrev pub ◌>>=◌ : {A B : Type 0} → Front A → (A → List Token → Front B) → Front B
(got x ts) >>= f = f x ts
(stop p) >>= f = stop p

abbrev pub stop_at : {A : Type 0} → List Token → Front A
stop_at ts = stop (head_place ts)

-- the value, where a closing sign follows
abbrev pub expect_by : {A : Type 0} → Bool → A → List Token → Front A
expect_by true x ts = got x (tail ts)
expect_by false x ts = stop_at ts

abbrev pub is_dot : Kind → Bool
is_dot dot = true
is_dot k = false

abbrev pub is_colon : Kind → Bool
is_colon colon = true
is_colon k = false

abbrev pub is_name_token : Kind → Bool
is_name_token a_name = true
is_name_token k = false

abbrev pub is_close_paren : Kind → Bool
is_close_paren close_paren = true
is_close_paren k = false

abbrev pub is_close_brace : Kind → Bool
is_close_brace close_brace = true
is_close_brace k = false

abbrev pub is_close_bracket : Kind → Bool
is_close_bracket close_bracket = true
is_close_bracket k = false

-- ---- types

-- type names behind a type, each applied to what stands before it
abbrev pub postfix_by : Kind → Signature → Meaning Ty → List Token → (Meaning Ty → Front (Meaning Ty)) → Front (Meaning Ty)
postfix_by a_name s t ts next = next (applied s (head_text ts) (head_place ts) (with_one (given []) t))
postfix_by k s t ts next = got t ts

abbrev pub postfix : Signature → Meaning Ty → List Token → Front (Meaning Ty)
postfix s t [] = got t []
postfix s t (x ∷ xs) = postfix_by (head_kind (x ∷ xs)) s t (x ∷ xs) (λ u. postfix s u xs)

-- one more type, and those that follow a comma
abbrev pub more_types : Kind → (Arguments → List Token → Front Arguments) → Arguments → List Token → Front Arguments
more_types comma next args ts = next args (tail ts)
more_types k next args ts = got args ts

unfoldable pub types_at : (List Token → Front (Meaning Ty)) → ℕ → Arguments → List Token → Front Arguments
types_at read zero args ts = stop_at ts
types_at read (suc k) args ts = read ts >>= (λ t rest. more_types (head_kind rest) (types_at read k) (with_one args t) rest)

-- the name behind several types in parentheses
abbrev pub tuple_by : Bool → Signature → Arguments → List Token → Front (Meaning Ty)
tuple_by true s args ts = postfix s (applied s (head_text ts) (head_place ts) args) (tail ts)
tuple_by false s args ts = stop_at ts

abbrev pub tuple : Signature → Arguments → List Token → Front (Meaning Ty)
tuple s args ts = tuple_by (is_name_token (head_kind ts)) s args ts

-- behind the first type in parentheses
abbrev pub group_by : Kind → Signature → (List Token → Front (Meaning Ty)) → ℕ → Meaning Ty → List Token → Front (Meaning Ty)
group_by close_paren s read n t ts = postfix s t (tail ts)
group_by comma s read n t ts =
    types_at read n (with_one (given []) t) (tail ts) >>= (λ args rest. expect_by (is_close_paren (head_kind rest)) args rest) >>= tuple s
group_by k s read n t ts = stop_at ts

abbrev pub dtype_by : Kind → Signature → (List Token → Front (Meaning Ty)) → ℕ → List Token → Front (Meaning Ty)
dtype_by a_variable s read n ts = postfix s (means (ty_var (head_text ts))) (tail ts)
dtype_by a_name s read n ts = postfix s (applied s (head_text ts) (head_place ts) (given [])) (tail ts)
dtype_by open_paren s read n ts = read (tail ts) >>= (λ t rest. group_by (head_kind rest) s read n t rest)
dtype_by k s read n ts = stop_at ts

unfoldable pub dtype_at : Signature → (List Token → Front (Meaning Ty)) → ℕ → List Token → Front (Meaning Ty)
dtype_at s read n ts = dtype_by (head_kind ts) s read n ts

-- the range, where an arrow follows the domain
abbrev pub range_by : Kind → Signature → (List Token → Front (Meaning Ty)) → Meaning Ty → List Token → Front (Meaning Ty)
range_by arrow s read dom ts = read (tail ts) >>= (λ ran rest. got (function s (head_place ts) dom ran) rest)
range_by k s read dom ts = got dom ts

-- a type
unfoldable pub type_at : Signature → ℕ → List Token → Front (Meaning Ty)
type_at s zero ts = stop_at ts
type_at s (suc n) ts = dtype_at s (type_at s n) n ts >>= (λ dom rest. range_by (head_kind rest) s (type_at s n) dom rest)

-- a type behind a colon
abbrev pub typed_by : Bool → Signature → ℕ → List Token → Front (Meaning Ty)
typed_by true s n ts = type_at s n (tail ts)
typed_by false s n ts = stop_at ts

unfoldable pub typed_at : Signature → ℕ → List Token → Front (Meaning Ty)
typed_at s n ts = typed_by (is_colon (head_kind ts)) s n ts

-- ---- terms

-- the binders around, the innermost first, each with the free variable that its body is read with
abbrev pub Scope : Type 0
Scope = List (Name × FreeVar)

abbrev pub innermost : Scope → Name → Option FreeVar
innermost [] n = None
innermost (b ∷ bs) n = if bytes_eq b.0 n then Some b.1 else innermost bs n

-- A bound variable is read as a free one whose name no text has: its own behind a dot, or behind one dot more than that of the
-- binder that it hides.
abbrev pub hidden : Option FreeVar → Name → Name
hidden (Some v) n = v.name
hidden None n = n

abbrev pub stand_in : Scope → Name → Ty → FreeVar
stand_in b n t = record { name = codes "." ++ hidden (innermost b n) n; ty = t }

-- what a name without braces means: its innermost binder, or else a constant
abbrev pub plain_by : Option FreeVar → Signature → Name → ℕ → Meaning Tm
plain_by (Some v) s n p = means (tm_free v)
plain_by None s n p = constant s n p (given [])

-- type arguments in braces
unfoldable pub braces_at : Signature → ℕ → List Token → Front Arguments
braces_at s n ts = types_at (type_at s n) n (given []) ts >>= (λ args rest. expect_by (is_close_brace (head_kind rest)) args rest)

-- a name, and what follows it
abbrev pub name_by : Kind → Signature → ℕ → Scope → Name → ℕ → List Token → Front Operand
name_by open_brace s n b c p ts = braces_at s n (tail ts) >>= (λ args rest. got (operand (constant s c p args) p) rest)
name_by k s n b c p ts = got (operand (plain_by (innermost b c) s c p) p) ts

-- a free variable in brackets, whose first token is its bracket
abbrev pub free_of : Name → Meaning Ty → Meaning Tm
free_of n (means t) = means (tm_free (record { name = n; ty = t }))
free_of n (fault e) = fault e

abbrev pub free_by : Bool → Signature → ℕ → ℕ → List Token → Front Operand
free_by true s n p ts =
    typed_at s n (tail ts) >>= (λ t rest. expect_by (is_close_bracket (head_kind rest)) (operand (free_of (head_text ts) t) p) rest)
free_by false s n p ts = stop_at ts

-- reads a term in a scope
abbrev pub Reader : Type 0
Reader = Scope → List Token → Front Operand

abbrev pub atom_by : Kind → Signature → Reader → ℕ → Scope → List Token → Front Operand
atom_by a_name s read n b ts = name_by (head_kind (tail ts)) s n b (head_text ts) (head_place ts) (tail ts)
atom_by open_bracket s read n b ts = free_by (is_name_token (head_kind (tail ts))) s n (head_place ts) (tail ts)
atom_by open_paren s read n b ts = read b (tail ts) >>= (λ t rest. expect_by (is_close_paren (head_kind rest)) t rest)
atom_by k s read n b ts = stop_at ts

unfoldable pub atom_at : Signature → Reader → ℕ → Scope → List Token → Front Operand
atom_at s read n b ts = atom_by (head_kind ts) s read n b ts

abbrev pub begins_atom : Kind → Bool
begins_atom a_name = true
begins_atom open_bracket = true
begins_atom open_paren = true
begins_atom k = false

-- further atoms, each an argument of what stands before it
abbrev pub atoms_by : Bool → (List Token → Front Operand) → (Operand → List Token → Front Operand) → Operand → List Token → Front Operand
atoms_by true read next f ts = read ts >>= (λ x rest. next (apply f x) rest)
atoms_by false read next f ts = got f ts

unfoldable pub atoms_at : (List Token → Front Operand) → ℕ → Operand → List Token → Front Operand
atoms_at read zero f ts = stop_at ts
atoms_at read (suc k) f ts = atoms_by (begins_atom (head_kind ts)) read (atoms_at read k) f ts

-- an atom and its arguments
unfoldable pub application_at : Signature → Reader → ℕ → Scope → List Token → Front Operand
application_at s read n b ts = atom_at s read n b ts >>= atoms_at (atom_at s read n b) n

-- the right side of a sign, where one follows
abbrev pub infix_by : Kind → Signature → (List Token → Front Operand) → Operand → List Token → Front Operand
infix_by equals s read a ts = read (tail ts) >>= (λ x rest. got (equation s (head_place ts) a x) rest)
infix_by and_sign s read a ts = read (tail ts) >>= (λ x rest. got (connective s (codes "conj") (head_place ts) a x) rest)
infix_by or_sign s read a ts = read (tail ts) >>= (λ x rest. got (connective s (codes "disj") (head_place ts) a x) rest)
infix_by implies_sign s read a ts = read (tail ts) >>= (λ x rest. got (connective s (codes "imp") (head_place ts) a x) rest)
infix_by k s read a ts = got a ts

-- the name of a binder, which has no dot
abbrev pub is_dotted : Name → Bool
is_dotted n = list_any (λ c. c == 46) n

abbrev pub bound_by : Bool → Bool → List Token → Front Name
bound_by true false ts = got (head_text ts) (tail ts)
bound_by true true ts = stop_at ts
bound_by false d ts = stop_at ts

unfoldable pub bound_at : List Token → Front Name
bound_at ts = bound_by (is_name_token (head_kind ts)) (is_dotted (head_text ts)) ts

-- the type that the body is read with; where there is a fault, the body is read for its grammar alone
abbrev pub type_or_none : Meaning Ty → Ty
type_or_none (means t) = t
type_or_none (fault e) = ty_var []

-- what a binder is made of: its type, and its body as an abstraction
abbrev pub Binder : Type 0
Binder = Meaning Ty × Meaning Tm

-- the body of a binder
unfoldable pub body_at : Reader → Scope → Name → Meaning Ty → List Token → Front Binder
body_at read b n t ts =
    read ((n, stand_in b n (type_or_none t)) ∷ b) ts >>= (λ x rest. got (t, abstraction t (stand_in b n (type_or_none t)) x.meaning) rest)

-- `x:t. b`, behind the sign of its binder
unfoldable pub binder_at : Signature → Reader → ℕ → Scope → List Token → Front Binder
binder_at s read n b ts =
    bound_at ts >>= (λ x rest. typed_at s n rest >>= (λ t after. expect_by (is_dot (head_kind after)) t after >>= body_at read b x))

abbrev pub term_by : Kind → Signature → Reader → ℕ → Scope → List Token → Front Operand
term_by lambda_sign s read n b ts = binder_at s read n b (tail ts) >>= (λ x rest. got (operand x.1 (head_place ts)) rest)
term_by all_sign s read n b ts = binder_at s read n b (tail ts) >>= (λ x rest. got (quantified s (codes "all") (head_place ts) x.0 x.1) rest)
term_by ex_sign s read n b ts = binder_at s read n b (tail ts) >>= (λ x rest. got (quantified s (codes "ex") (head_place ts) x.0 x.1) rest)
term_by not_sign s read n b ts = application_at s read n b (tail ts) >>= (λ x rest. got (negation s (head_place ts) x) rest)
term_by k s read n b ts =
    application_at s read n b ts >>= (λ a rest. infix_by (head_kind rest) s (application_at s read n b) a rest)

-- a term
unfoldable pub term_at : Signature → ℕ → Scope → List Token → Front Operand
term_at s zero b ts = stop_at ts
term_at s (suc n) b ts = term_by (head_kind ts) s (term_at s n) n b ts

-- ---- whole texts

-- what a text is: a type or a term; no type or term by the grammar, with the place of the first token that is wrong; or one with
-- an unknown name, or else with an ill-typed application
pub data Reading (A : Type 0) : Type 0 where
  reads : A → Reading A
  no_syntax : ℕ → Reading A
  unknown : Name → ℕ → Reading A
  ill_typed : ℕ → Reading A

abbrev pub reading_of : {A : Type 0} → Meaning A → Reading A
reading_of (means x) = reads x
reading_of (fault (unknown_at n p)) = unknown n p
reading_of (fault (ill_at p)) = ill_typed p

abbrev pub ended : {A : Type 0} → Kind → Meaning A → List Token → Reading A
ended the_end m ts = reading_of m
ended k m ts = no_syntax (head_place ts)

abbrev pub whole : {A : Type 0} → Front (Meaning A) → Reading A
whole (got m ts) = ended (head_kind ts) m ts
whole (stop p) = no_syntax p

abbrev pub only_meaning : Front Operand → Front (Meaning Tm)
only_meaning (got x ts) = got x.meaning ts
only_meaning (stop p) = stop p

unfoldable pub reading_of_type : Signature → Text → Reading Ty
reading_of_type s t = whole (type_at s (length t + 1) (tokens t))

unfoldable pub reading_of_term : Signature → Text → Reading Tm
reading_of_term s t = whole (only_meaning (term_at s (length t + 1) [] (tokens t)))
