use Rattle.std.proofs.Common.{ap, ◌∙◌, ◌++◌}
use Rattle.flat_terms.proofs.Build.{list_found, list_interned}
use Rattle.flat_terms.proofs.tables.put_list.Goals as goal

pub returns-in-Some-clause-ok : goal.returns-in-Some-clause-ok
returns-in-Some-clause-ok c = list_found _ _ _ c.in-Some.ensures.index

pub returns-clause-ok : goal.returns-clause-ok
returns-clause-ok c = list_interned _ _ _ _ _ (c.in_ok-extend_from_slice.ensures.items ∙ ap (λ l. l ++ c.args.args.now) c.new-list.ensures.items) c.in_ok-place.ensures.keys c.in_ok-place.ensures.stored
