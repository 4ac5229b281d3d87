-- A segment, a character at a time.
use Rattle.std.specs.Prelude.{ℕ, Bool, true, false}
use Rattle.unicode_ident.specs.Ident.{is_xid_continue}
use Rattle.hol_terms.specs.Name.{is_start}

-- a segment that has begun, or one that hasn't, goes on with the character
abbrev pub goes_on : Bool → ℕ → Bool
goes_on true c = is_xid_continue c
goes_on false c = is_start c
