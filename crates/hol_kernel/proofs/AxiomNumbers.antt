-- There are three axioms.
use Rattle.std.specs.Prelude.{◌≢◌, ℕ, zero, suc, IsSome}
use Rattle.std.proofs.Common.{refl}
use Rattle.hol_kernel.specs.Run.{axiom_at}

pub axiom_numbers : (n : ℕ) → IsSome (axiom_at n) → n ≢ 1 → n ≢ 2 → n ≢ 3 → ⊥
axiom_numbers zero h a b c = cc
axiom_numbers (suc zero) h a b c = a refl
axiom_numbers (suc (suc zero)) h a b c = b refl
axiom_numbers (suc (suc (suc zero))) h a b c = c refl
axiom_numbers (suc (suc (suc (suc n)))) h a b c = cc

pub ruleset number_lemmas = (axiom_numbers)
