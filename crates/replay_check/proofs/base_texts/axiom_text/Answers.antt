use Rattle.std.proofs.Common.{refl}
use Rattle.std.specs.Fmt.{digits}
use Rattle.replay_check.proofs.base_texts.axiom_text.Goals as goal

pub conclusion_at-requires : goal.conclusion_at-requires
unfolding digits
conclusion_at-requires c = refl
