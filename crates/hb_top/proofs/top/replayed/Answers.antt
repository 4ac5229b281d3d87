use Rattle.log_replay.proofs.Closing.{gains_part}
use Rattle.hb_top.proofs.Replayed.{known}
use Rattle.hb_top.proofs.top.replayed.Goals as goal

pub returns-in-Ok-bad_log_message-clause-bad : goal.returns-in-Ok-bad_log_message-clause-bad
returns-in-Ok-bad_log_message-clause-bad g c =
    let e = c.in-Err-BadLog in
    (e.number, e.why, c.in-Ok-bad_log_message.ensures, λ b h. known e.field-0 e.number e.why b _ _ e.field-0-is (e.ensures.bad b h))

pub returns-in-Err-clause-part : goal.returns-in-Err-clause-part
returns-in-Err-clause-part g c =
    let e = c.in-Err-BadLog in
    λ b h. gains_part b _ _ e.number e.why (known e.field-0 e.number e.why b _ _ e.field-0-is (e.ensures.bad b h))
