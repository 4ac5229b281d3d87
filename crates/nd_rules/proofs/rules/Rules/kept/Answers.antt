use Rattle.nd_rules.proofs.Keeping.{kept_at}
use Rattle.nd_rules.proofs.rules.Rules.kept.Goals as goal

pub returns-clause-is : goal.returns-clause-is
returns-clause-is c = kept_at c.self.inside.kept.items c.args.place _ c.self.invariant c.requires.there c.index.ensures
