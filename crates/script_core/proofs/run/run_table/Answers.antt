use Rattle.script_core.proofs.run.run_table.Goals as goal

pub check_types-requires : goal.check_types-requires
check_types-requires c = c.requires.rules.base
