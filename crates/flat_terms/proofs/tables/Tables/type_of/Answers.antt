use Rattle.std.proofs.Common.{◌<◌, subst, sym, ap, ◌∙◌, ℕ}
use Rattle.flat_terms.specs.declared.nodes.TypeId.{TypeId}
use Rattle.flat_terms.specs.Plain.{HasType, type_of}
use Rattle.flat_terms.proofs.Read.{term_read, term_count, read_type}
use Rattle.flat_terms.proofs.tables.Tables.type_of.Goals as goal

pub term_node-requires : goal.term_node-requires
term_node-requires c = subst (λ (n : ℕ). c.args.term.0 < n) (term_count c.args.self.now _ _ _ _ c.self.view_is c.self.invariant) c.requires

pub returns-clause-has : goal.returns-clause-has
returns-clause-has c =
    let r = term_read c.args.self.now _ _ _ _ _ c.term_node.result c.self.view_is c.self.invariant c.term_node.ensures in
    subst (λ (t : TypeId). HasType c.args.self.now t) (sym c.named_type.ensures) r.fits.has_type

pub returns-clause-ty : goal.returns-clause-ty
returns-clause-ty c =
    let r = term_read c.args.self.now _ _ _ _ _ c.term_node.result c.self.view_is c.self.invariant c.term_node.ensures in
    ap (λ t. type_of c.args.self.now t) c.named_type.ensures ∙ read_type c.args.self.now _ _ c.term_node.result r
