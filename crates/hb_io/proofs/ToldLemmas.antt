-- What is told over several calls.
use Rattle.std.proofs.Common.{◌≡◌, refl, sym, ap, List, ℕ, ◌+◌, [], ◌++◌, take, drop, append_assoc, Option, None, Some}
use Rattle.std.proofs.Math.Seq.{take-add}
use Rattle.std.proofs.lemmas.Grind.{common_steps}
use Rattle.std.proofs.lemmas.List.{append-nil}
use Rattle.hb_io.specs.Told.{prepend_told, append_told}

pub prepend_told-None : (bytes : List ℕ) → prepend_told bytes None ≡ None
unfolding prepend_told
prepend_told-None bytes = refl

pub prepend_told-Some : (bytes told : List ℕ) → prepend_told bytes (Some told) ≡ Some (bytes ++ told)
unfolding prepend_told
prepend_told-Some bytes told = refl

pub append_told-None : (bytes : List ℕ) → append_told None bytes ≡ None
unfolding append_told
append_told-None bytes = refl

pub append_told-Some : (told bytes : List ℕ) → append_told (Some told) bytes ≡ Some (told ++ bytes)
unfolding append_told
append_told-Some told bytes = refl

pub prepend_told-nil : (known : Option (List ℕ)) → prepend_told [] known ≡ known
unfolding prepend_told
prepend_told-nil None = refl
prepend_told-nil (Some told) = refl

pub append_told-nil : (known : Option (List ℕ)) → append_told known [] ≡ known
unfolding append_told
append_told-nil None = refl
append_told-nil (Some told) = ap (λ s. Some s) (append-nil told)

pub prepend_told-append : (xs ys : List ℕ) (known : Option (List ℕ)) → prepend_told (xs ++ ys) known ≡ prepend_told xs (prepend_told ys known)
unfolding prepend_told
prepend_told-append xs ys None = refl
prepend_told-append xs ys (Some told) = ap (λ s. Some s) (append_assoc xs ys told)

pub append_told-append : (known : Option (List ℕ)) (xs ys : List ℕ) → append_told known (xs ++ ys) ≡ append_told (append_told known xs) ys
unfolding append_told
append_told-append None xs ys = refl
append_told-append (Some told) xs ys = ap (λ s. Some s) (sym (append_assoc told xs ys))

-- a write of the next n bytes, after one of the first k
pub append_told-take : (known : Option (List ℕ)) (k n : ℕ) (bytes : List ℕ) → append_told known (take (k + n) bytes) ≡ append_told (append_told known (take k bytes)) (take n (drop k bytes))
append_told-take known k n bytes = rw (take-add, append_told-append)

-- what those and the usual steps say of a call more
pub ruleset told = (common_steps, prepend_told-None, prepend_told-Some, append_told-None, append_told-Some, prepend_told-nil, append_told-nil, prepend_told-append, append_told-append, append_told-take)
