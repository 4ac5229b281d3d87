-- The tokens of a text of types and terms, by longest match.
use Rattle.std.specs.Prelude.{ℕ, ◌+◌, Bool, true, false, ◌||◌, ◌==◌, nat_lt, List, [], ◌∷◌, ◌++◌, length, if◌then◌else◌, codes}
use Rattle.std.specs.Char.{encode_utf8, is_ascii_alphabetic, is_ascii_alphanumeric}
use Rattle.std.specs.Str.{chars}
use Rattle.unicode_ident.specs.Ident.{is_xid_start, is_xid_continue}
use Rattle.hol_terms.specs.Name.{Name, is_keyword}
use Rattle.hol_terms.specs.Text.{Text}

-- a name, a type variable, a word of the theory language, a symbol, the end of the text, or a character of no token
pub data Kind : Type 0 where
  a_name : Kind
  a_variable : Kind
  a_keyword : Kind
  open_paren : Kind
  close_paren : Kind
  open_brace : Kind
  close_brace : Kind
  open_bracket : Kind
  close_bracket : Kind
  comma : Kind
  colon : Kind
  semicolon : Kind
  dot : Kind
  bar : Kind
  equals : Kind
  arrow : Kind
  lambda_sign : Kind
  all_sign : Kind
  ex_sign : Kind
  not_sign : Kind
  and_sign : Kind
  or_sign : Kind
  implies_sign : Kind
  the_end : Kind
  no_token : Kind

-- its kind, the text of a name or a type variable (without the quote), and the byte at which it begins
pub data Token : Type 0 where
  token : Kind → Name → ℕ → Token

abbrev pub sign : Kind → ℕ → Token
sign k p = token k [] p

-- segments joined by dots, unless they are a word of the theory language
abbrev pub word_kind : Bool → Kind
word_kind true = a_keyword
word_kind false = a_name

abbrev pub word : Name → ℕ → Token
word w p = token (word_kind (is_keyword w)) w p

-- ---- characters

-- what a character is where no token has begun: white space, the sign that begins a comment, the quote of a type variable, the
-- name 0, the first character of a name, that of a symbol of several characters, or any other
pub data Class : Type 0 where
  blank : Class
  hash : Class
  quote : Class
  zero_name : Class
  letter : Class
  minus : Class
  equal : Class
  slash : Class
  backslash : Class
  other : Class

-- a character that may begin a segment, XID_Start or the low line, and one that may continue it, XID_Continue; for ASCII
-- characters the two are letters and the low line, and these and digits
abbrev pub starts_by : Bool → ℕ → Bool
starts_by true c = is_ascii_alphabetic c || (c == 95)
starts_by false c = is_xid_start c

abbrev pub starts : ℕ → Bool
starts c = starts_by (nat_lt c 128) c

abbrev pub continues_by : Bool → ℕ → Bool
continues_by true c = is_ascii_alphanumeric c || (c == 95)
continues_by false c = is_xid_continue c

abbrev pub continues : ℕ → Bool
continues c = continues_by (nat_lt c 128) c

abbrev pub class_of : ℕ → Class
class_of c =
    if (c == 32) || (c == 9) || (c == 10) || (c == 13) then blank else
    (if c == 35 then hash else
    (if c == 39 then quote else
    (if c == 48 then zero_name else
    (if c == 45 then minus else
    (if c == 61 then equal else
    (if c == 47 then slash else
    (if c == 92 then backslash else
    (if starts c then letter else other))))))))

-- the symbol that the character is, if it is one
abbrev pub symbol_of : ℕ → Kind
symbol_of c =
    if c == 40 then open_paren else
    (if c == 41 then close_paren else
    (if c == 123 then open_brace else
    (if c == 125 then close_brace else
    (if c == 91 then open_bracket else
    (if c == 93 then close_bracket else
    (if c == 44 then comma else
    (if c == 58 then colon else
    (if c == 59 then semicolon else
    (if c == 46 then dot else
    (if c == 124 then bar else
    (if c == 33 then all_sign else
    (if c == 63 then ex_sign else
    (if c == 126 then not_sign else no_token)))))))))))))

-- what a character is within a name: a part of its segment, a dot, or neither
pub data Part : Type 0 where
  of_segment : Part
  of_dot : Part
  outside : Part

abbrev pub part_of : ℕ → Part
part_of c = if c == 46 then of_dot else (if continues c then of_segment else outside)

-- ---- the text, character by character

-- what the characters before have begun, and where
pub data State : Type 0 where
  between : State
  comment : State
  in_name : ℕ → Name → State
  -- a name, and where a dot stands behind it
  after_dot : ℕ → Name → ℕ → State
  after_quote : ℕ → State
  in_variable : ℕ → Name → State
  after_minus : ℕ → State
  after_equal : ℕ → State
  -- where each of two stands
  after_equals : ℕ → ℕ → State
  after_slash : ℕ → State
  after_backslash : ℕ → State

-- the tokens that a character ends, and what it begins
abbrev pub Step : Type 0
Step = List Token × State

abbrev pub behind : Token → Step → Step
behind t s = (t ∷ s.0, s.1)

abbrev pub begin_by : Class → ℕ → ℕ → Step
begin_by blank p c = ([], between)
begin_by hash p c = ([], comment)
begin_by quote p c = ([], after_quote p)
begin_by zero_name p c = (token a_name (codes "0") p ∷ [], between)
begin_by letter p c = ([], in_name p (encode_utf8 c))
begin_by minus p c = ([], after_minus p)
begin_by equal p c = ([], after_equal p)
begin_by slash p c = ([], after_slash p)
begin_by backslash p c = ([], after_backslash p)
begin_by other p c = (sign (symbol_of c) p ∷ [], between)

-- a character at the byte p, where no token has begun
abbrev pub begin : ℕ → ℕ → Step
begin p c = begin_by (class_of c) p c

abbrev pub name_by : Part → ℕ → Name → ℕ → ℕ → Step
name_by of_segment q w p c = ([], in_name q (w ++ encode_utf8 c))
name_by of_dot q w p c = ([], after_dot q w p)
name_by outside q w p c = behind (word w q) (begin p c)

-- a dot between a segment and the first character of one belongs to the name
abbrev pub dot_by : Bool → ℕ → Name → ℕ → ℕ → ℕ → Step
dot_by true q w d p c = ([], in_name q ((w ++ codes ".") ++ encode_utf8 c))
dot_by false q w d p c = behind (word w q) (behind (sign dot d) (begin p c))

abbrev pub quote_by : Bool → ℕ → ℕ → ℕ → Step
quote_by true q p c = ([], in_variable q (encode_utf8 c))
quote_by false q p c = behind (sign no_token q) (begin p c)

abbrev pub variable_by : Bool → ℕ → Name → ℕ → ℕ → Step
variable_by true q w p c = ([], in_variable q (w ++ encode_utf8 c))
variable_by false q w p c = behind (token a_variable w q) (begin p c)

-- the symbol k where the character is its last one, or else the symbol j before the character
abbrev pub pair_by : Bool → Kind → Kind → ℕ → ℕ → ℕ → Step
pair_by true k j q p c = (sign k q ∷ [], between)
pair_by false k j q p c = behind (sign j q) (begin p c)

abbrev pub equal_by : Bool → ℕ → ℕ → ℕ → Step
equal_by true q p c = ([], after_equals q p)
equal_by false q p c = behind (sign equals q) (begin p c)

-- `==>`, or else `=` and then the same of what follows it
abbrev pub equals_by : Bool → ℕ → ℕ → ℕ → ℕ → Step
equals_by true q r p c = (sign implies_sign q ∷ [], between)
equals_by false q r p c = behind (sign equals q) (equal_by (c == 61) r p c)

abbrev pub comment_by : Bool → Step
comment_by true = ([], between)
comment_by false = ([], comment)

-- the character c at the byte p
abbrev pub step : State → ℕ → ℕ → Step
step between p c = begin p c
step comment p c = comment_by (c == 10)
step (in_name q w) p c = name_by (part_of c) q w p c
step (after_dot q w d) p c = dot_by (starts c) q w d p c
step (after_quote q) p c = quote_by (starts c) q p c
step (in_variable q w) p c = variable_by (continues c) q w p c
step (after_minus q) p c = pair_by (c == 62) arrow no_token q p c
step (after_equal q) p c = equal_by (c == 61) q p c
step (after_equals q r) p c = equals_by (c == 62) q r p c
step (after_slash q) p c = pair_by (c == 92) and_sign no_token q p c
step (after_backslash q) p c = pair_by (c == 47) or_sign lambda_sign q p c

-- the tokens that the end of the text ends
abbrev pub last : State → List Token
last between = []
last comment = []
last (in_name q w) = word w q ∷ []
last (after_dot q w d) = word w q ∷ sign dot d ∷ []
last (after_quote q) = sign no_token q ∷ []
last (in_variable q w) = token a_variable w q ∷ []
last (after_minus q) = sign no_token q ∷ []
last (after_equal q) = sign equals q ∷ []
last (after_equals q r) = sign equals q ∷ sign equals r ∷ []
last (after_slash q) = sign no_token q ∷ []
last (after_backslash q) = sign lambda_sign q ∷ []

-- the tokens of the characters that follow the byte p, in a state
abbrev pub tokens_in : State → ℕ → List ℕ → List Token
tokens_in s p [] = last s ++ sign the_end p ∷ []
tokens_in s p (c ∷ cs) = (step s p c).0 ++ tokens_in (step s p c).1 (p + length (encode_utf8 c)) cs

-- the tokens of what stands at the byte p, between tokens; the last one is the end
abbrev pub tokens_from : ℕ → Text → List Token
tokens_from p t = tokens_in between p (chars t)

unfoldable pub tokens : Text → List Token
tokens t = tokens_from 0 t

-- ---- the front of a list of tokens

abbrev pub head_kind : List Token → Kind
head_kind [] = the_end
head_kind (token k w p ∷ ts) = k

abbrev pub head_text : List Token → Name
head_text [] = []
head_text (token k w p ∷ ts) = w

abbrev pub head_place : List Token → ℕ
head_place [] = 0
head_place (token k w p ∷ ts) = p

abbrev pub tail : List Token → List Token
tail [] = []
tail (t ∷ ts) = ts
