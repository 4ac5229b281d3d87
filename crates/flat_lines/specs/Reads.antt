-- A reading in code beside the one that it carries out.
use Rattle.std.specs.Prelude.{◌≡◌, Option, Some, None}

-- both give something, of which R holds, or neither does
abbrev pub Reads : {A B : Type 0} → (A → B → Type 0) → Option A → Option B → Type 0
Reads R None o = o ≡ None
Reads {B = B} R (Some a) o = (b : B) × (o ≡ Some b) × R a b
