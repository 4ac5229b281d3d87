use Rattle.std.proofs.Common.{◌≡◌, ◌++◌, ◌+◌, ◌*◌, string_bytes}
use Rattle.flat_instances.proofs.TypeSteps.{most}
use Rattle.flat_printing.proofs.Texts.{front_text}
use Rattle.flat_printing.proofs.types.+types.Given as goal

abbrev pub decreases-push_type : goal.decreases-push_type
decreases-push_type l = 4 * l.ty.0 + 3

abbrev pub decreases-push_domain : goal.decreases-push_domain
decreases-push_domain l = 4 * l.ty.0 + 4

abbrev pub decreases-push_named : goal.decreases-push_named
decreases-push_named l = 4 * most l.args.now + 2

abbrev pub decreases-push_types : goal.decreases-push_types
decreases-push_types l = 4 * most l.types.now + 1

abbrev pub invariant-push_types-loop-i : goal.invariant-push_types-loop-i
invariant-push_types-loop-i l = string_bytes l.out ≡ string_bytes l.initial.out ++ front_text l.tables l.types l.i
