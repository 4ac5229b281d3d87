use Rattle.replay_check.proofs.Giving.{if_ok_of, mp_answer}
use Rattle.replay_check.proofs.steps.modus_ponens.Goals as goal

pub returns-in-Some-clause-boolean : goal.returns-in-Some-clause-boolean
returns-in-Some-clause-boolean c = if_ok_of c.eq_mp.result c.eq_mp.ensures (λ r h. mp_answer c.args.tables.now c.args.a.now c.args.b.now _ _ r c.in-Some.ensures c.requires.boolean h)
