use Rattle.std.proofs.Common.{◌∙◌, sym}
use Rattle.flat_terms.proofs.Read.{term_count}
use Rattle.flat_terms.proofs.tables.Tables.count_terms.Goals as goal

pub returns : goal.returns
returns c = c.len.ensures.len ∙ sym (term_count c.args.self.now _ _ _ _ c.self.view_is c.self.invariant)
