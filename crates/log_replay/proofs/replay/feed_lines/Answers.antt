use Rattle.std.proofs.Common.{ℕ, take, arith}
use Rattle.std.proofs.lemmas.Result.{err_from_is_err_and}
use Rattle.hol_terms.specs.Sound.{complete_lines}
use Rattle.log_replay.proofs.Bytes.{begin, few, newline, byte, stopped, all_fed, rest_is}
use Rattle.log_replay.proofs.replay.feed_lines.Goals as goal
use Rattle.log_replay.proofs.replay.feed_lines.Goals.{then-log-at-eq10+in_ok-feed_line, else-log-at-eq10}

pub loop-at-init : goal.loop-at-init
loop-at-init g c = record { standing = begin _ _ _ c.requires.start; counted = omega arith }

pub feed_line-requires-clause-few : goal.feed_line-requires-clause-few
feed_line-requires-clause-few g c = few _ _ _ _ _ _ c.loop-at.invariant.standing (omega arith) c.requires.short

pub returns-in_err-feed_line-clause-stopped : goal.returns-in_err-feed_line-clause-stopped
returns-in_err-feed_line-clause-stopped g c =
    let p = err_from_is_err_and c.from_residual.result c.from_residual.ensures.1 in
    rw (p.1, p.2) (λ more. stopped (Unit {0}) ℕ c.args.log.now more c.loop-at.at c.loop-at.start _ c.feed_line.new.checker _ _ _ _ c.loop-at.invariant.standing (omega arith) c.if-log-at-eq10.true
    (c.in_err-feed_line.ensures.fed (complete_lines (take c.loop-at.at c.args.log.now)) _ c.loop-at.invariant.standing.fed))

pub loop-at-preserved : goal.loop-at-preserved
loop-at-preserved g c =
    elim c.if-log-at-eq10.branch [
      | then-log-at-eq10+in_ok-feed_line w ↦ rw (w.checker-is, w.out-is, w.start-is) (record {
        standing = newline _ _ _ _ _ _ _ _ c.loop-at.invariant.standing (omega arith) w.if-log-at-eq10.true (w.in_ok-feed_line.ensures.fed (complete_lines (take c.loop-at.at c.args.log.now)) _ c.loop-at.invariant.standing.fed);
        counted = omega (arith, c.loop-at.invariant.counted, w.feed_line.ensures.counted);
      })
      | else-log-at-eq10 w ↦ rw (w.checker-is, w.out-is, w.start-is) (record {
        standing = byte _ _ _ _ _ _ c.loop-at.invariant.standing (omega arith) w.if-log-at-eq10.false;
        counted = c.loop-at.invariant.counted;
      })
    ]

pub returns-clause-fed : goal.returns-clause-fed
returns-clause-fed g c = all_fed _ _ _ _ _ _ c.loop-at.invariant.standing (omega arith)

pub returns-clause-rest : goal.returns-clause-rest
returns-clause-rest g c = rest_is _ _ _ _ _ _ c.loop-at.invariant.standing (omega arith)
