use Rattle.hb_top.proofs.Saying.{said, said_part}
use Rattle.hb_top.proofs.top.say.Goals as goal

pub returns-in-Ok : goal.returns-in-Ok
returns-in-Ok g c = said _ _ _ _ _ c.in-Ok.ensures.ok c.as_bytes.ensures.value

pub returns-in-Err : goal.returns-in-Err
returns-in-Err g c = said_part _ _ _ _ _ c.in-Err.ensures.failed c.in-Err.ensures.err c.as_bytes.ensures.value
