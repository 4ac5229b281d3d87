use Rattle.std.proofs.Common.{◌≡◌, ◌++◌, ◌+◌, ◌*◌, string_bytes, drop}
use Rattle.hol_terms.specs.Ty.{ty_size, tys, tys_size}
use Rattle.hol_terms.specs.Text.{tys_texts}
use Rattle.hol_text.proofs.PrintLemmas.{after_commas}
use Rattle.hol_text.proofs.print.+types.Given as goal

abbrev pub decreases-push_type : goal.decreases-push_type
decreases-push_type l = 3 * ty_size l.t.now

abbrev pub decreases-push_domain : goal.decreases-push_domain
decreases-push_domain l = 3 * ty_size l.t.now + 1

abbrev pub decreases-push_types : goal.decreases-push_types
decreases-push_types l = 3 * tys_size (tys l.types.now) + 1

abbrev pub decreases-push_named : goal.decreases-push_named
decreases-push_named l = 3 * tys_size (tys l.args.now) + 2

-- what is written so far, and each of the types that are left behind a comma
abbrev pub invariant-push_types-loop-t : goal.invariant-push_types-loop-t
invariant-push_types-loop-t l = string_bytes l.out ++ after_commas (tys_texts (tys (drop l.t-index l.rest))) ≡ string_bytes l.initial.out ++ after_commas (tys_texts (tys l.rest))
