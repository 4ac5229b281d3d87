use Rattle.log_replay.proofs.Feeding.{fed_some, fed_none, fed_bad, cut_before}
use Rattle.log_replay.proofs.replay.feed_line.Goals as goal

pub returns-in-Ok-Some-clause-fed : goal.returns-in-Ok-Some-clause-fed
returns-in-Ok-Some-clause-fed g c = λ texts kept a. fed_some texts _ _ _ kept _ _ c.in-Ok-Some.report c.in-Ok-Some.field-0 _ c.in-Ok-Some.field-0-is (c.in-Ok-Some.ensures.good c.requires.sound) c.write_line.ensures.ok c.write_line.ensures.cut c.write_line.ensures.not_bad a

pub returns-in-Ok-None-clause-fed : goal.returns-in-Ok-None-clause-fed
returns-in-Ok-None-clause-fed g c = λ texts kept a. fed_none texts _ _ _ kept _ c.in-Ok-None.field-0 c.in-Ok-None.field-0-is (c.in-Ok-None.ensures.good c.requires.sound) a

pub returns-in-Err-BadLine-clause-fed : goal.returns-in-Err-BadLine-clause-fed
returns-in-Err-BadLine-clause-fed g c = λ texts kept a. fed_bad texts _ _ kept _ _ _ c.in-Err-BadLine.field-0 c.in-Err-BadLine.field-0-is (c.in-Err-BadLine.ensures.bad c.requires.sound) a

pub returns-in-Err-Memory-clause-fed : goal.returns-in-Err-Memory-clause-fed
returns-in-Err-Memory-clause-fed g c = λ texts kept a. cut_before texts _ _ kept _ a
