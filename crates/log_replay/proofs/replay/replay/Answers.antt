use Rattle.std.proofs.Common.{ℕ, ◌<◌, ◌^◌, length, arith}
use Rattle.std.proofs.lemmas.Result.{err_from_is_err_and}
use Rattle.log_replay.proofs.Bytes.{lines_within, rest_from}
use Rattle.log_replay.proofs.Closing.{nothing_written, endless, stopped_bad, stopped_part, closed_good, closed_bad, closed_part}
use Rattle.log_replay.proofs.replay.replay.Goals as goal

pub returns-in_err-checker-clause-part : goal.returns-in_err-checker-clause-part
returns-in_err-checker-clause-part g c =
    let p = err_from_is_err_and c.from_residual.result c.from_residual.ensures.1 in
    rw (p.1, p.2) (λ b e. nothing_written b _)

pub returns-in_err-start-clause-bad : goal.returns-in_err-start-clause-bad
returns-in_err-start-clause-bad g c =
    let p = err_from_is_err_and c.from_residual-in_err-start.result c.from_residual-in_err-start.ensures.1 in
    rw (p.1, p.2) (λ b e. stopped_bad ℕ (Unit {0}) _ b _ _ _ e c.in_err-start.ensures.stopped)

pub returns-in_err-start-clause-part : goal.returns-in_err-start-clause-part
returns-in_err-start-clause-part g c =
    let p = err_from_is_err_and c.from_residual-in_err-start.result c.from_residual-in_err-start.ensures.1 in
    rw (p.1, p.2) (λ b e. stopped_part ℕ (Unit {0}) _ b _ _ _ e c.in_err-start.ensures.stopped)

pub next_number-number-requires-clause-few : goal.next_number-number-requires-clause-few
next_number-number-requires-clause-few g c = let l = lines_within c.args.log.now c.feed_lines.new.checker (g.O.Sink.kept c.args.out.now) (g.O.Sink.kept c.feed_lines.new.out) c.in_ok-start.ensures.fed in omega (arith, l, c.requires)

pub returns-then-log-eq-MOST_BYTES-clause-bad : goal.returns-then-log-eq-MOST_BYTES-clause-bad
returns-then-log-eq-MOST_BYTES-clause-bad g c = λ b e. endless _ b _ _ _ _ e c.if-log-eq-MOST_BYTES.true c.next_number-number.ensures c.in_ok-start.ensures.fed

pub close-requires-clause-few : goal.close-requires-clause-few
close-requires-clause-few g c = let l = lines_within c.args.log.now c.feed_lines.new.checker (g.O.Sink.kept c.args.out.now) (g.O.Sink.kept c.feed_lines.new.out) c.in_ok-start.ensures.fed in omega (arith, l, c.requires, c.if-log-eq-MOST_BYTES.false)

pub returns-clause-good : goal.returns-clause-good
returns-clause-good g c = λ b e. let short : length c.args.log.now < 2 ^ 62 = omega (arith, c.requires, c.if-log-eq-MOST_BYTES.false) in closed_good _ b _ _ _ e short (c.close.ensures.closed c.args.log.now _ (rest_from c.args.log.now c.in_ok-start.start c.in_ok-start.ensures.rest) c.in_ok-start.ensures.fed)

pub returns-clause-bad : goal.returns-clause-bad
returns-clause-bad g c = λ b e. let short : length c.args.log.now < 2 ^ 62 = omega (arith, c.requires, c.if-log-eq-MOST_BYTES.false) in closed_bad _ b _ _ _ e short (c.close.ensures.closed c.args.log.now _ (rest_from c.args.log.now c.in_ok-start.start c.in_ok-start.ensures.rest) c.in_ok-start.ensures.fed)

pub returns-clause-part : goal.returns-clause-part
returns-clause-part g c = λ b e. let short : length c.args.log.now < 2 ^ 62 = omega (arith, c.requires, c.if-log-eq-MOST_BYTES.false) in closed_part _ b _ _ _ e short (c.close.ensures.closed c.args.log.now _ (rest_from c.args.log.now c.in_ok-start.start c.in_ok-start.ensures.rest) c.in_ok-start.ensures.fed)

pub returns-in_err-start-clause-fault : goal.returns-in_err-start-clause-fault
returns-in_err-start-clause-fault g c =
    let p = err_from_is_err_and c.from_residual-in_err-start.result c.from_residual-in_err-start.ensures.1 in
    rw (p.1, p.2) c.in_err-start.ensures.fault
