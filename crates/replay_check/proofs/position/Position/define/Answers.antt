use Rattle.std.proofs.Common.{refl}
use Rattle.replay_check.proofs.Defining.{defined}
use Rattle.replay_check.proofs.position.Position.define.Goals as goal

pub returns : goal.returns
returns c =
    defined c.args.self.now _ c.args.definition c.requires.position c.requires.definition c.requires.new c.requires.stands c.introduce.ensures.grows c.in_ok-introduce.ensures.has c.in_ok-introduce.ensures.ok c.in_ok-push.ensures.items refl refl refl refl
