-- What the rules' conditions tell.
use Rattle.std.proofs.Common.{◌≡◌, Bool, true, false, [], ◌∷◌, Option, Some, None, refl}
use Rattle.hol_terms.specs.Binding.{VarSubst}
use Rattle.hol_terms.specs.Keeps.{KeepsTypes}
use Rattle.hol_terms.specs.Sequent.{Sequent}
use Rattle.hol_terms.specs.Rules.{no, both, if_so, keeps_types}
use Rattle.hol_terms.proofs.Checked.{same_ty-is}
use Rattle.hol_kernel.specs.Run.{on_premise}

pub both_parts : (a b : Bool) → both a b ≡ true → (a ≡ true) × (b ≡ true)
both_parts true b e = (refl, e)
both_parts false b e = cc

pub no_is : (b : Bool) → no b ≡ true → b ≡ false
no_is true e = cc
no_is false e = refl

pub some_is : {A : Type 0} (x y : A) → Some x ≡ Some y → x ≡ y
some_is x y e = cc

-- the condition holds, and the value is that
pub passed : {A : Type 0} (b : Bool) (x c : A) → if_so b x ≡ Some c → (b ≡ true) × (x ≡ c)
passed true x c e = (refl, some_is x c e)
passed false x c e = cc

pub keeps : (s : VarSubst) → keeps_types s ≡ true → KeepsTypes s
keeps [] e = tt
keeps (p ∷ s) e = let k = both_parts _ (keeps_types s) e in (same_ty-is _ _ k.0, keeps s k.1)

-- a rule that gave something had its premise
pub premise : (o : Option Sequent) (rule : Sequent → Option Sequent) (c : Sequent) → on_premise o rule ≡ Some c → (a : Sequent) × (o ≡ Some a) × (rule a ≡ Some c)
premise None rule c e = cc
premise (Some a) rule c e = (a, refl, e)
