use Rattle.std.proofs.Common.{◌∙◌, sym}
use Rattle.flat_walks.proofs.Steps.{lookup_found}
use Rattle.flat_walks.proofs.bind.find.Goals as goal

pub returns : goal.returns
returns c = sym (c.copied.ensures ∙ c.get.ensures.value ∙ lookup_found c.args.memo.now.done.entries c.args.place)
