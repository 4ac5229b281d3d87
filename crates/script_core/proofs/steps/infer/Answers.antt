use Rattle.script_core.proofs.steps.infer.Goals as goal

pub axiom-requires-clause-base : goal.axiom-requires-clause-base
axiom-requires-clause-base c = c.requires.rules.base
