-- Types that are known to be well formed over a signature.
use Rattle.std.specs.Prelude.{◌≡◌, ◌⊎◌, true, List, [], ◌∷◌, nat_eq}
use Rattle.indexmap.specs.IndexSet.{insert_key}
use Rattle.strict_reading.specs.Terms.{is_type_over}
use Rattle.flat_terms.specs.Plain.{PlainTables, type_of}
use Rattle.flat_terms.specs.declared.nodes.TypeId.{TypeId}
use Rattle.flat_signatures.specs.FlatNames.{FlatNames, plain_signature}

abbrev pub AllOver : PlainTables → FlatNames → List TypeId → Type 0
AllOver t s [] = Unit {0}
AllOver t s (n ∷ ns) = (is_type_over (plain_signature t s) (type_of t n) ≡ true) × AllOver t s ns

-- the list stays, or has the type
abbrev pub IsTypeAdded : List TypeId → List TypeId → TypeId → Type 0
IsTypeAdded old new n = (new ≡ old) ⊎ (new ≡ insert_key (λ a b. nat_eq a.0 b.0) old n)
