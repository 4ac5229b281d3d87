-- Steps of a reading, of which the first that fails makes the whole fail.
use Rattle.std.specs.Prelude.{Bool, true, false, Option, Some, None}

-- what comes of the value, where there is one
infixl 10 ◌>>=◌
unfoldable pub ◌>>=◌ : {A B : Type 0} → Option A → (A → Option B) → Option B
None >>= f = None
(Some x) >>= f = f x

-- only where the test holds
unfoldable pub when : {A : Type 0} → Bool → Option A → Option A
when true x = x
when false x = None

-- one of two readings, by a test
unfoldable pub choose : {A : Type 0} → Bool → Option A → Option A → Option A
choose true x y = x
choose false x y = y

-- one of two readings: what comes of the value, or where there is none another
unfoldable pub either : {A B : Type 0} → Option A → (A → Option B) → Option B → Option B
either None f y = y
either (Some x) f y = f x
