use Rattle.hol_conv.proofs.beta.+contract.Given as goal

abbrev pub decreases-contract : goal.decreases-contract
decreases-contract l = goal.size-contract l
