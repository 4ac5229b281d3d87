-- The grammar of types and terms, over tokens. Each constructor is one production.
use Rattle.std.specs.Prelude.{◌≡◌, false, List, [], ◌∷◌, ◌++◌}
use Rattle.hol_terms.specs.Name.{Name}
use Rattle.hol_terms.specs.Tokens.{Kind, a_name, a_variable, open_paren, close_paren, open_brace, close_brace, open_bracket, close_bracket, comma, colon, dot, equals, arrow, lambda_sign, all_sign, ex_sign, not_sign, and_sign, or_sign, implies_sign, the_end, Token, token}
use Rattle.hol_terms.specs.Reading.{is_dotted}

abbrev pub kind : Token → Kind
kind (token k w p) = k

abbrev pub word_of : Token → Name
word_of (token k w p) = w

-- a token of a kind
abbrev pub Is : Kind → Token → Type 0
Is k x = kind x ≡ k

-- type = dtype [ "->" type ]
-- dtype = tyvar | name | "(" type ")" | "(" type "," types ")" name | dtype name
-- types = type { "," type }
mutual
  pub data IsType : List Token → Type 0 where
    a_domain : (d : List Token) → IsDomain d → IsType d
    a_function : (d r : List Token) (x : Token) → IsDomain d → Is arrow x → IsType r → IsType (d ++ x ∷ r)

  pub data IsDomain : List Token → Type 0 where
    variable : (x : Token) → Is a_variable x → IsDomain (x ∷ [])
    constructor : (x : Token) → Is a_name x → IsDomain (x ∷ [])
    in_parentheses : (t : List Token) (o c : Token) → Is open_paren o → IsType t → Is close_paren c → IsDomain (o ∷ (t ++ c ∷ []))
    of_several : (t ts : List Token) (o x c n : Token) → Is open_paren o → IsType t → Is comma x → AreTypes ts → Is close_paren c → Is a_name n → IsDomain (o ∷ (t ++ x ∷ (ts ++ c ∷ n ∷ [])))
    of_one : (d : List Token) (n : Token) → IsDomain d → Is a_name n → IsDomain (d ++ n ∷ [])

  pub data AreTypes : List Token → Type 0 where
    one : (t : List Token) → IsType t → AreTypes t
    more : (t ts : List Token) (x : Token) → IsType t → Is comma x → AreTypes ts → AreTypes (t ++ x ∷ ts)

-- the signs of binders, and those between two operands
pub data IsBinderSign : Kind → Type 0 where
  by_lambda : IsBinderSign lambda_sign
  by_all : IsBinderSign all_sign
  by_ex : IsBinderSign ex_sign

pub data IsInfixSign : Kind → Type 0 where
  by_equals : IsInfixSign equals
  by_and : IsInfixSign and_sign
  by_or : IsInfixSign or_sign
  by_implies : IsInfixSign implies_sign

-- term = sign name ":" type "." term | "~" atoms | atoms | atoms sign atoms, where the name of a binder has no dot
-- atoms = atom { atom }
-- atom = name | name "{" types "}" | "[" name ":" type "]" | "(" term ")"
mutual
  pub data IsTerm : List Token → Type 0 where
    a_binder : (t b : List Token) (x n c d : Token) → IsBinderSign (kind x) → Is a_name n → is_dotted (word_of n) ≡ false → Is colon c → IsType t → Is dot d → IsTerm b → IsTerm (x ∷ n ∷ c ∷ (t ++ d ∷ b))
    a_negation : (a : List Token) (x : Token) → Is not_sign x → AreAtoms a → IsTerm (x ∷ a)
    an_application : (a : List Token) → AreAtoms a → IsTerm a
    an_infix : (a b : List Token) (x : Token) → AreAtoms a → IsInfixSign (kind x) → AreAtoms b → IsTerm (a ++ x ∷ b)

  pub data AreAtoms : List Token → Type 0 where
    first : (a : List Token) → IsAtom a → AreAtoms a
    further : (f a : List Token) → AreAtoms f → IsAtom a → AreAtoms (f ++ a)

  pub data IsAtom : List Token → Type 0 where
    bare : (n : Token) → Is a_name n → IsAtom (n ∷ [])
    at_types : (ts : List Token) (n o c : Token) → Is a_name n → Is open_brace o → AreTypes ts → Is close_brace c → IsAtom (n ∷ o ∷ (ts ++ c ∷ []))
    free : (t : List Token) (o n x c : Token) → Is open_bracket o → Is a_name n → Is colon x → IsType t → Is close_bracket c → IsAtom (o ∷ n ∷ x ∷ (t ++ c ∷ []))
    grouped : (t : List Token) (o c : Token) → Is open_paren o → IsTerm t → Is close_paren c → IsAtom (o ∷ (t ++ c ∷ []))

-- the tokens before the end of the text
abbrev pub before_end : List Token → List Token
before_end [] = []
before_end (token the_end w p ∷ ts) = []
before_end (token k w p ∷ ts) = token k w p ∷ before_end ts
