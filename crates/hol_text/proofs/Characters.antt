-- The characters of names, where an ASCII character is asked by itself.
use Rattle.std.proofs.Common.{◌≡◌, refl, sym, ap, ℕ, ◌<◌, Bool, true, false, ◌||◌, arith}
use Rattle.std.specs.Prelude.{◌==◌, nat_lt}
use Rattle.std.proofs.lemmas.Bool.Decides.{nat_tests}
use Rattle.unicode_ident.specs.Ident.{is_xid_start, is_xid_continue}
use Rattle.unicode_ident.proofs.IdentLemmas.{is_xid_start-ascii, is_xid_continue-ascii}
use Rattle.hol_terms.specs.Name.{is_start}
use Rattle.hol_terms.specs.Tokens.{starts_by, starts, continues_by, continues}

low_line : (c : ℕ) → nat_lt c 128 ≡ false → (c == 95) ≡ false
low_line c h = grind (arith, nat_tests)

below : (c : ℕ) → nat_lt c 128 ≡ true → c < 128
below c h = grind (arith, nat_tests)

or_false : (b c : Bool) → c ≡ false → (b || c) ≡ b
or_false true c e = refl
or_false false c e = e

pub starts-is : (c : ℕ) → starts c ≡ is_start c
starts-is c = at (nat_lt c 128) refl
  where
    at : (b : Bool) → nat_lt c 128 ≡ b → starts_by b c ≡ is_start c
    at true e = ap (λ x. x || (c == 95)) (sym (is_xid_start-ascii c (below c e)))
    at false e = sym (or_false (is_xid_start c) (c == 95) (low_line c e))

pub continues-is : (c : ℕ) → continues c ≡ is_xid_continue c
continues-is c = at (nat_lt c 128) refl
  where
    at : (b : Bool) → nat_lt c 128 ≡ b → continues_by b c ≡ is_xid_continue c
    at true e = sym (is_xid_continue-ascii c (below c e))
    at false e = refl

pub ruleset character_lemmas = (starts-is, continues-is)
