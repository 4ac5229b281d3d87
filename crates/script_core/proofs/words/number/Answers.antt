use Rattle.std.proofs.Common.{rules, ◌≡◌, ap, get_or, ◌∙◌}
use Rattle.script_core.proofs.Numbers.{reads_number, reads_none}
use Rattle.script_core.proofs.words.number.Goals as goal

pub returns-in-Ok : goal.returns-in-Ok
returns-in-Ok c = reads_number c.args.word.now c.parse.result c.in-Ok.n c.parse.ensures.value.0 (λ e. c.if-bytes-eq43.false (ap (λ w. get_or w 0 0) c.as_bytes-bytes.ensures.value ∙ e)) c.in-Ok.is

pub returns-in-Err : goal.returns-in-Err
returns-in-Err c = reads_none c.args.word.now c.parse.result c.in-Err.field-0 c.parse.ensures.value.0 (λ e. c.if-bytes-eq43.false (ap (λ w. get_or w 0 0) c.as_bytes-bytes.ensures.value ∙ e)) c.in-Err.is
