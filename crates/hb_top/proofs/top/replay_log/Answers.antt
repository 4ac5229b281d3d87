use Rattle.hb_top.proofs.Running.{unwritten_report}
use Rattle.hb_top.proofs.Replayed.{Fed, fed, reports, is_good, leaves, plain_cut, bad_tells, bad_names, all_leave, sound, not_unwritten, log_status}
use Rattle.hb_top.proofs.top.replay_log.Goals as goal

pub returns-clause-replay : goal.returns-clause-replay
returns-clause-replay g c = λ s.
    let e = c.in-Ok.ensures in
    let given = c.deref.result.now in
    let f : Fed (g.S.Source.left c.args.src.now) (g.S.Source.left c.read_input.new.src) given = fed _ _ _ given c.deref.ensures.value e.taken e.within e.whole in
    reports given _ _ f (λ b h. c.replayed.ensures.good b h s)

pub returns-clause-bad_log : goal.returns-clause-bad_log
returns-clause-bad_log g c = λ s.
    let e = c.in-Ok.ensures in
    let given = c.deref.result.now in
    let f : Fed (g.S.Source.left c.args.src.now) (g.S.Source.left c.read_input.new.src) given = fed _ _ _ given c.deref.ensures.value e.taken e.within e.whole in
    bad_tells c.replayed.result given _ _ f c.replayed.ensures.ending c.replayed.ensures.bad s

pub returns-clause-replay_good : goal.returns-clause-replay_good
returns-clause-replay_good g c = λ s.
    let e = c.in-Ok.ensures in
    let given = c.deref.result.now in
    let f : Fed (g.S.Source.left c.args.src.now) (g.S.Source.left c.read_input.new.src) given = fed _ _ _ given c.deref.ensures.value e.taken e.within e.whole in
    is_good given _ _ f (λ b h. c.replayed.ensures.good b h s)

pub returns-clause-replay_faulty : goal.returns-clause-replay_faulty
returns-clause-replay_faulty g c = λ s.
    let e = c.in-Ok.ensures in
    let given = c.deref.result.now in
    let f : Fed (g.S.Source.left c.args.src.now) (g.S.Source.left c.read_input.new.src) given = fed _ _ _ given c.deref.ensures.value e.taken e.within e.whole in
    bad_names c.replayed.result given _ _ f c.replayed.ensures.ending c.replayed.ensures.bad s

pub returns-clause-replay_left : goal.returns-clause-replay_left
returns-clause-replay_left g c =
    let e = c.in-Ok.ensures in
    let given = c.deref.result.now in
    let f : Fed (g.S.Source.left c.args.src.now) (g.S.Source.left c.read_input.new.src) given = fed _ _ _ given c.deref.ensures.value e.taken e.within e.whole in
    all_leave c.replayed.result _ (leaves given f)

pub returns-clause-replay_end : goal.returns-clause-replay_end
returns-clause-replay_end g c = λ s.
    let e = c.in-Ok.ensures in
    let given = c.deref.result.now in
    let f : Fed (g.S.Source.left c.args.src.now) (g.S.Source.left c.read_input.new.src) given = fed _ _ _ given c.deref.ensures.value e.taken e.within e.whole in
    f.whole (c.replayed.ensures.whole s)

pub returns-clause-replay_cut : goal.returns-clause-replay_cut
returns-clause-replay_cut g c =
    let e = c.in-Ok.ensures in
    let given = c.deref.result.now in
    let f : Fed (g.S.Source.left c.args.src.now) (g.S.Source.left c.read_input.new.src) given = fed _ _ _ given c.deref.ensures.value e.taken e.within e.whole in
    plain_cut c.replayed.result given _ _ f c.replayed.ensures.part

pub returns-clause-sound : goal.returns-clause-sound
returns-clause-sound g c =
    let e = c.in-Ok.ensures in
    let given = c.deref.result.now in
    let f : Fed (g.S.Source.left c.args.src.now) (g.S.Source.left c.read_input.new.src) given = fed _ _ _ given c.deref.ensures.value e.taken e.within e.whole in
    sound c.replayed.result given _ _ f.within c.replayed.ensures.ending c.replayed.ensures.good c.replayed.ensures.bad c.replayed.ensures.part

pub returns-clause-unwritten : goal.returns-clause-unwritten
returns-clause-unwritten g c = not_unwritten c.replayed.result _ _ c.replayed.ensures.ending

pub returns-clause-log : goal.returns-clause-log
returns-clause-log g c = log_status c.replayed.result c.replayed.ensures.ending

pub returns-in-Err-Memory-clause-replay_cut : goal.returns-in-Err-Memory-clause-replay_cut
returns-in-Err-Memory-clause-replay_cut g c = unwritten_report (g.S.Source.left c.args.src.now) (g.O.Sink.kept c.args.out.now)
