use Rattle.std.proofs.Common.{refl}
use Rattle.std.specs.Fmt.{digits}
use Rattle.hol_terms.specs.Base.{base_definitions}
use Rattle.hol_terms.proofs.BaseOpened.{opened_bases}
use Rattle.replay_check.proofs.base_texts.base_text.Goals as goal

pub definition_at-requires : goal.definition_at-requires
unfolding opened_bases base_definitions digits
definition_at-requires c = refl
