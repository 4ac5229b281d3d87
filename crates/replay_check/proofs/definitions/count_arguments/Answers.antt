use Rattle.std.proofs.Common.{ap, sym, ◌∙◌}
use Rattle.replay_check.specs.Definitions.{count_of}
use Rattle.replay_check.proofs.TypeNames.{counted}
use Rattle.replay_check.proofs.definitions.count_arguments.Goals as goal

pub returns-in-App : goal.returns-in-App
returns-in-App c = counted c.args.tables.now c.in-App.args.now ∙ ap count_of (sym c.in-App.ensures.2)
