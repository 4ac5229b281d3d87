use Rattle.std.proofs.Common.{◌≡◌, [], ◌∷◌}
use Rattle.script_tests.proofs.Conjunctions.{exchange_fits, exchange_gives, both_over}
use Rattle.script_tests.proofs.exchange.exchanged.Goals as goal

pub run_over-requires-clause-over : goal.run_over-requires-clause-over
run_over-requires-clause-over c = both_over _ _ c.args.p.now c.args.q.now (λ i. c.in_ok-copy.ensures i ∷ c.in_ok-copy-2.ensures i ∷ []) c.requires.over_p c.requires.over_q

pub run_over-requires-clause-fits : goal.run_over-requires-clause-fits
run_over-requires-clause-fits c = exchange_fits _ _ c.args.p.now c.args.q.now _ (λ i. c.in_ok-copy.ensures i ∷ c.in_ok-copy-2.ensures i ∷ []) c.requires.conjunction

pub returns-clause-exact : goal.returns-clause-exact
returns-clause-exact c =
    exchange_gives _ _ _ c.args.p.now c.args.q.now _ _ (λ i. c.in_ok-copy.ensures i ∷ c.in_ok-copy-2.ensures i ∷ []) c.requires.conjunction c.concl.ensures.derivable c.in_ok-th.ensures.exact
