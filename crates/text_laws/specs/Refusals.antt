-- The first token of a text with which nothing by the grammar begins.
use Rattle.std.specs.Prelude.{◌≡◌, ℕ, List, ◌∷◌, ◌++◌}
use Rattle.hol_terms.specs.Tokens.{Token, token}

abbrev pub place_of : Token → ℕ
place_of (token k w p) = p

-- the tokens before the one at the place p begin something of the form, and these and that token begin nothing of it
pub record FirstWrong (IsForm : List Token → Type 0) (ts : List Token) (p : ℕ) : Type 0 where
  pub front : List Token
  pub wrong : Token
  pub rest : List Token
  pub is : ts ≡ front ++ wrong ∷ rest
  pub place : place_of wrong ≡ p
  pub begins : (more : List Token) × IsForm (front ++ more)
  pub begins_none : (more : List Token) → IsForm (front ++ wrong ∷ more) → ⊥
