use Rattle.std.proofs.Common.{refl, sym, subst}
use Rattle.hb_io.specs.Faults.{Rose}
use Rattle.hb_top.specs.Endings.{NamesFault}
use Rattle.hb_top.proofs.Replayed.{say_named}
use Rattle.hb_top.proofs.top.hbnf.Goals as goal

pub returns-in-BadLog-clause-replay_faulty : goal.returns-in-BadLog-clause-replay_faulty
returns-in-BadLog-clause-replay_faulty g c = λ m s.
    let left = g.S.Source.left c.args.src.now in
    let rose = Rose (g.E.Sink.faults c.args.err.now) (g.E.Sink.faults c.say-in-BadLog.new.err) in
    let named : NamesFault left c.as_str.result.now = subst (NamesFault left) (sym c.as_str.ensures.value) (c.in-BadLog.ensures.replay_faulty m refl) in
    say_named rose left (g.E.Sink.kept c.args.err.now) (g.E.Sink.kept c.say-in-BadLog.new.err) c.as_str.result.now named c.say-in-BadLog.ensures
