use Rattle.kernel_lines.proofs.Base.{base_is_const, base_says}
use Rattle.kernel_lines.proofs.run.definition.Goals as goal

pub def_at-requires : goal.def_at-requires
def_at-requires c = base_is_const c.args.k.now.defs c.args.d.now c.place.result c.requires c.place.ensures

pub returns-clause-exact : goal.returns-clause-exact
returns-clause-exact c = base_says c.args.k.now.defs c.args.d.now c.place.result c.in_ok-th.th.sequent c.requires c.place.ensures c.in_ok-th.ensures.said
