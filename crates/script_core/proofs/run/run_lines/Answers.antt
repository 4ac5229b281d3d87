use Rattle.std.proofs.Common.{◌∙◌, refl}
use Rattle.script_core.specs.Ready.{values}
use Rattle.kernel_lines.proofs.Given.{grows_on}
use Rattle.kernel_lines.proofs.Had.{had_last}
use Rattle.nd_rules.proofs.Keeping.{rules_grow}
use Rattle.script_core.proofs.TableLemmas.{typed_on, turn_fits, turn_rest, table_end}
use Rattle.script_core.proofs.run.run_lines.Goals as goal

pub run_line-requires-clause-fits : goal.run_line-requires-clause-fits
run_line-requires-clause-fits c = turn_fits _ c.args.lines.now c.loop-line.line-index _ c.loop-line-test.true c.requires.fits c.loop-line.invariant.rest

pub loop-line-preserved : goal.loop-line-preserved
loop-line-preserved c = record {
  grows = grows_on c.loop-line.invariant.grows c.run_line.ensures.grows;
  rules = rules_grow _ _ _ c.loop-line.invariant.rules c.run_line.ensures.grows;
  typed = typed_on _ _ c.loop-line.invariant.typed c.run_line.ensures.grows;
  ready = c.in_ok-run_line.ensures.ready;
  rest = c.loop-line.invariant.rest ∙ turn_rest c.args.lines.now c.loop-line.line-index _ c.loop-line-test.true c.run_line.ensures.grows c.in_ok-run_line.ensures.exact;
}

pub returns-clause-exact : goal.returns-clause-exact
returns-clause-exact c = c.loop-line.invariant.rest ∙ table_end c.loop-line.k.defs (values c.loop-line.r) c.loop-line.r.thms.items _ _ c.args.lines.now _ c.loop-line-test.false refl c.in-Some.ensures.items

pub returns-clause-has : goal.returns-clause-has
returns-clause-has c = had_last _ _ _ _ c.loop-line.invariant.ready.thms c.in-Some.ensures.items
