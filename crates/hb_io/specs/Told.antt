-- What a read takes of the bytes that a source has left, and a write adds to those that a sink keeps, where they are told.
use Rattle.std.specs.Prelude.{◌≡◌, ℕ, ◌<◌, List, ◌++◌, length, take, Option, None, Some}

-- the bytes, and then those that are told
unfoldable pub prepend_told : List ℕ → Option (List ℕ) → Option (List ℕ)
prepend_told bytes None = None
prepend_told bytes (Some told) = Some (bytes ++ told)

-- those that are told, and then the bytes
unfoldable pub append_told : Option (List ℕ) → List ℕ → Option (List ℕ)
append_told None bytes = None
append_told (Some told) bytes = Some (told ++ bytes)

-- the bytes left began with `bytes`, and lost them
abbrev pub Takes : Option (List ℕ) → Option (List ℕ) → List ℕ → Type 0
Takes old new bytes = old ≡ prepend_told bytes new

-- the bytes kept grew by `bytes`
abbrev pub Appends : Option (List ℕ) → Option (List ℕ) → List ℕ → Type 0
Appends old new bytes = new ≡ append_told old bytes

-- the bytes kept grew by a part of `bytes` from its front, and not by all of it
abbrev pub AppendsPart : Option (List ℕ) → Option (List ℕ) → List ℕ → Type 0
AppendsPart old new bytes = (n : ℕ) × (n < length bytes) × Appends old new (take n bytes)
