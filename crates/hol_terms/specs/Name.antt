-- Names. A name is kept as its bytes in UTF-8.
use Rattle.std.specs.Prelude.{ℕ, Bool, Option, Some, None, length, true, false, not, ◌&&◌, ◌||◌, ◌==◌, List, [], ◌∷◌, ◌++◌, if◌then◌else◌, bytes_eq, codes}
use Rattle.std.specs.List.{list_all, list_any}
use Rattle.std.specs.Char.{is_ascii_digit}
use Rattle.std.specs.Str.{chars, is_utf8}
use Rattle.unicode_ident.specs.Ident.{is_xid_start, is_xid_continue}

abbrev pub Name : Type 0
Name = List ℕ

-- a character that may begin a segment: XID_Start, or the low line
abbrev pub is_start : ℕ → Bool
is_start c = is_xid_start c || (c == 95)

-- a segment begins with such a character, and goes on with characters that have XID_Continue
abbrev pub is_segment_of : List ℕ → Bool
is_segment_of [] = false
is_segment_of (c ∷ cs) = is_start c && list_all is_xid_continue cs

-- whether a segment has begun once a character is read: in a segment a dot ends it, and each segment begins anew
abbrev pub segment_step : Bool → ℕ → Option Bool
segment_step true c = if c == 46 then Some false else (if is_xid_continue c then Some true else None)
segment_step false c = if is_start c then Some true else None

abbrev pub on_step : Option Bool → (Bool → Bool) → Bool
on_step None f = false
on_step (Some within) f = f within

-- segments joined by dots
abbrev pub are_segments_of : Bool → List ℕ → Bool
are_segments_of within [] = within
are_segments_of within (c ∷ cs) = on_step (segment_step within c) (λ next. are_segments_of next cs)

-- the words of the theory language, which are no names
abbrev pub keywords : List Name
keywords = codes "define" ∷ codes "datatype" ∷ codes "codatatype" ∷ codes "primrec" ∷ codes "primcorec" ∷ codes "where" ∷ codes "and" ∷ []

abbrev pub is_keyword : Name → Bool
is_keyword n = list_any (bytes_eq n) keywords

-- what a type variable may be called, without its quote
unfoldable pub is_segment : Name → Bool
is_segment n = is_utf8 n && is_segment_of (chars n)

-- what a type, a constant or a free variable may be called: segments joined by dots, or 0, and no keyword
unfoldable pub is_name : Name → Bool
is_name n = is_utf8 n && (are_segments_of false (chars n) || bytes_eq n (codes "0")) && not (is_keyword n)

-- `x` and at least one digit, which is what canonical text calls bound variables
abbrev pub is_numbered : Name → Bool
is_numbered [] = false
is_numbered (c ∷ digits) = (c == 120) && not (length digits == 0) && list_all is_ascii_digit digits

-- the names of the two constants of a type definition
abbrev pub dot_abs : Name → Name
dot_abs n = n ++ codes ".abs"

abbrev pub dot_rep : Name → Name
dot_rep n = n ++ codes ".rep"
