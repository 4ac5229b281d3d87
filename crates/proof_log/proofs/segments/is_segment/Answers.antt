use Rattle.std.proofs.Common.{◌∙◌}
use Rattle.proof_log.proofs.SegmentChars.{segment-is}
use Rattle.proof_log.proofs.segments.is_segment.Goals as goal

pub returns : goal.returns
returns c = c.has_shape.ensures ∙ segment-is c.args.text.now c.utf8.text
