use Rattle.std.proofs.Common.{refl, length, ◌<◌, ◌^◌, rules}
use Rattle.replay_check.proofs.Taking.{position_stays, line_read, line_taken, none_read, not_read}
use Rattle.replay_check.proofs.position.Position.take.Goals as goal

pub take_line-requires-clause-position : goal.take_line-requires-clause-position
take_line-requires-clause-position c =
    position_stays c.args.self.now _ (record { grows = c.read_line.ensures.grows; signature = refl; definitions = refl; sequents = refl; lines = refl; is_based = refl; is_over = refl }) c.requires.position

pub take_line-requires-clause-line : goal.take_line-requires-clause-line
take_line-requires-clause-line c =
    line_read c.args.self.now (record { tables = c.read_line.new.tables; signature = c.args.self.now.signature; definitions = c.args.self.now.definitions; sequents = c.args.self.now.sequents; lines = c.args.self.now.lines; is_based = c.args.self.now.is_based; is_over = c.args.self.now.is_over }) c.in-Some.line _ c.args.text.now
    (record { grows = c.read_line.ensures.grows; signature = refl; definitions = refl; sequents = refl; lines = refl; is_based = refl; is_over = refl }) c.requires.position c.in-Some.is c.in_ok-line.ensures.ok

pub returns-in-Some : goal.returns-in-Some
returns-in-Some c =
    line_taken c.args.self.now (record { tables = c.read_line.new.tables; signature = c.args.self.now.signature; definitions = c.args.self.now.definitions; sequents = c.args.self.now.sequents; lines = c.args.self.now.lines; is_based = c.args.self.now.is_based; is_over = c.args.self.now.is_over }) _ c.in-Some.line _ c.args.text.now c.take_line.result
    (record { grows = c.read_line.ensures.grows; signature = refl; definitions = refl; sequents = refl; lines = refl; is_based = refl; is_over = refl }) c.requires.position c.in-Some.is c.in_ok-line.ensures.ok c.take_line.ensures

pub returns-in-None : goal.returns-in-None
returns-in-None c =
    let small : length c.args.text.now < 2 ^ 64 = search rules in
    not_read c.args.self.now c.args.text.now c.requires.position small (none_read c.args.self.now.tables c.read_line.new.tables c.args.self.now.signature _ c.args.text.now c.in-None.is c.in_ok-line.ensures.ok)
