use Rattle.script_core.proofs.by_term.by_term.Goals as goal

pub eta_converted-requires-clause-base : goal.eta_converted-requires-clause-base
eta_converted-requires-clause-base c = c.requires.rules.base
