use Rattle.base_count.specs.InForce.{in_force}
use Rattle.theory_answers.proofs.theory.Theory.write_log.Given as goal

abbrev pub ghost-write_log : goal.ghost-write_log
ghost-write_log g a = in_force
