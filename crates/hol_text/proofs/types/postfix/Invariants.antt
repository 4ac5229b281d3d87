use Rattle.std.proofs.Common.{◌≡◌, length}
use Rattle.hol_text.specs.MeaningViews.{meaning_of}
use Rattle.hol_terms.specs.Reading.{postfix}
use Rattle.hol_text.specs.TokenViews.{tokens_of}
use Rattle.hol_text.proofs.types.postfix.Given as goal

abbrev pub invariant-loop-rest : goal.invariant-loop-rest
invariant-loop-rest l = postfix l.sig (meaning_of l.whole) (tokens_of l.rest) ≡ postfix l.sig (meaning_of l.fn.ty) (tokens_of l.tokens)

abbrev pub decreases-loop-rest : goal.decreases-loop-rest
decreases-loop-rest l = length l.rest
