use Rattle.script_core.proofs.ShelfLemmas.{shelved_push, stated_push}
use Rattle.script_core.proofs.shelf.Shelf.put.Goals as goal

pub invariant_of-self-2 : goal.invariant_of-self-2
invariant_of-self-2 c = stated_push _ _ c.args.fact _ c.self.invariant c.requires c.in_ok-push.ensures.items

pub returns-clause-ok : goal.returns-clause-ok
returns-clause-ok c = rw (← c.self.view_is) (shelved_push _ _ c.args.fact _ c.in_ok-push.ensures.items)
