-- Words of canonical text: names, type variables without their quote, and numbered variables.
use Rattle.std.specs.Prelude.{ℕ, Bool, true, false, not, ◌&&◌, ◌||◌, ◌==◌, nat_lt, [], ◌∷◌, Option, Some, None}
use Rattle.std.specs.Char.{is_ascii_alphanumeric}
use Rattle.hol_terms.specs.Text.{Text}

-- a byte that stands in words: of a character beyond ASCII, a letter, a digit or the low line
abbrev pub is_word_byte : ℕ → Bool
is_word_byte c = nat_lt 127 c || is_ascii_alphanumeric c || (c == 95)

abbrev pub begins_word : Text → Bool
begins_word [] = false
begins_word (c ∷ cs) = is_word_byte c

-- the byte belongs to a word, by what follows it: a dot does where such a byte follows
abbrev pub in_word : ℕ → Text → Bool
in_word c cs = is_word_byte c || ((c == 46) && begins_word cs)

abbrev pub if_word : Bool → ℕ → Text → Text
if_word true c w = c ∷ w
if_word false c w = []

abbrev pub past_word : Bool → Text → Text → Text
past_word true x y = x
past_word false x y = y

-- the longest front of such bytes, and what is left
unfoldable pub word_of : Text → Text
word_of [] = []
word_of (c ∷ cs) = if_word (in_word c cs) c (word_of cs)

unfoldable pub behind_word : Text → Text
behind_word [] = []
behind_word (c ∷ cs) = past_word (in_word c cs) (behind_word cs) (c ∷ cs)

-- no word goes on with the text
abbrev pub ends_word : Text → Bool
ends_word [] = true
ends_word (c ∷ cs) = not (in_word c cs)

abbrev pub if_same : Bool → Option Text → Option Text
if_same true x = x
if_same false x = None

-- what is left behind a sign
unfoldable pub behind : Text → Text → Option Text
behind [] x = Some x
behind (c ∷ p) [] = None
behind (c ∷ p) (d ∷ x) = if_same (c == d) (behind p x)
