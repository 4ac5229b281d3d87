use Rattle.std.proofs.Common.{◌∙◌, sym, refl}
use Rattle.std.proofs.lemmas.Result.{err_from_is_err_and}
use Rattle.hol_terms.specs.Sound.{complete_lines}
use Rattle.log_replay.proofs.Closing.{none_left, some_left, good, unfinished, unended_cut, last_line_stops}
use Rattle.log_replay.proofs.replay.close.Goals as goal

pub returns-in-Ok-clause-closed : goal.returns-in-Ok-clause-closed
returns-in-Ok-clause-closed g c = λ log kept e a. good log _ kept _ (sym e ∙ none_left _ _ c.is_empty.ensures c.if-is_empty.true) c.in-Ok.ensures.ended.0 a

pub returns-in-Err-Cut-clause-closed : goal.returns-in-Err-Cut-clause-closed
returns-in-Err-Cut-clause-closed g c = λ log kept e a. let cut = c.in-Err-Cut.ensures.cut in unfinished log _ kept _ _ (sym e ∙ none_left _ _ c.is_empty.ensures c.if-is_empty.true) cut.0 (rw cut.1 refl) a

pub returns-in_err-feed_line-clause-closed : goal.returns-in_err-feed_line-clause-closed
returns-in_err-feed_line-clause-closed g c =
    let p = err_from_is_err_and c.from_residual.result c.from_residual.ensures.1 in
    rw (p.1, p.2) (λ log kept e a. last_line_stops (Unit {0}) (Unit {0}) log _ c.feed_line.new.checker kept _ _ e (some_left _ _ c.is_empty.ensures c.if-is_empty.false) (c.in_err-feed_line.ensures.fed (complete_lines log) kept a))

pub returns-clause-closed : goal.returns-clause-closed
returns-clause-closed g c = λ log kept e a. unended_cut log _ _ kept _ _ e (some_left _ _ c.is_empty.ensures c.if-is_empty.false) c.next_number-number.ensures (c.in_ok-feed_line.ensures.fed (complete_lines log) kept a)

pub returns-in_err-feed_line-clause-fault : goal.returns-in_err-feed_line-clause-fault
returns-in_err-feed_line-clause-fault g c =
    let p = err_from_is_err_and c.from_residual.result c.from_residual.ensures.1 in
    rw (p.1, p.2) c.in_err-feed_line.ensures.fault
