use Rattle.std.proofs.Common.{refl}
use Rattle.kernel_lines.specs.declared.line.BaseName.TheVariants.{Truth}
use Rattle.kernel_lines.proofs.Base.{base_is_const}
use Rattle.script_core.proofs.TableLemmas.{types_from}
use Rattle.script_core.proofs.run.check_types.Goals as goal

pub def_at-requires : goal.def_at-requires
def_at-requires c = base_is_const c.args.k.now.defs Truth 0 c.requires refl

pub returns : goal.returns
returns c = types_from c.args.k.now c.in_ok-th.th c.in_ok-th.ensures.defs c.concl.ensures.derivable
