-- Segments, a character at a time.
use Rattle.std.specs.Prelude.{ℕ, Bool, true, false, ◌&&◌, List, [], ◌∷◌}
use Rattle.unicode_ident.specs.Ident.{is_xid_continue}
use Rattle.hol_terms.specs.Name.{is_start}

-- whether the character may come, at the start of a segment or within one
abbrev pub goes_on : Bool → ℕ → Bool
goes_on true c = is_xid_continue c
goes_on false c = is_start c

-- whether the characters are what is left of a segment, or all of it
abbrev pub is_rest : Bool → List ℕ → Bool
is_rest within [] = within
is_rest within (c ∷ cs) = goes_on within c && is_rest true cs
