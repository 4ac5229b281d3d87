use Rattle.std.proofs.Common.{refl}
use Rattle.script_core.proofs.Closed.{closed_table}
use Rattle.script_tests.proofs.Cases.{all_fit}
use Rattle.script_tests.proofs.conversions.each_conversion_line_gives_its_sequent.Goals as goal

pub first_wrong_of_base-requires : goal.first_wrong_of_base-requires
unfolding closed_table
first_wrong_of_base-requires c d = all_fit _ _ refl
