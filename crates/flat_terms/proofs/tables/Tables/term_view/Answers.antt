use Rattle.std.proofs.Common.{◌<◌, subst, ℕ}
use Rattle.flat_terms.specs.declared.nodes.TermNode.TheVariants.{Index, Free, Const, Comb, Abs}
use Rattle.flat_terms.proofs.Read.{term_read, term_count, const_view, comb_view, abs_view, list_stored}
use Rattle.flat_terms.proofs.tables.Tables.term_view.Goals as goal

pub term_node-requires : goal.term_node-requires
term_node-requires c = subst (λ (n : ℕ). c.args.term.0 < n) (term_count c.args.self.now _ _ _ _ c.self.view_is c.self.invariant) c.requires

pub list_items-requires : goal.list_items-requires
list_items-requires c = list_stored _ c.in-Const.list (term_read c.args.self.now _ _ _ _ _ (Const c.in-Const.name c.in-Const.list c.in-Const.ty) c.self.view_is c.self.invariant c.in-Const.ensures).fits.parts.1

pub returns-in-Index : goal.returns-in-Index
returns-in-Index c =
    let r = term_read c.args.self.now _ _ _ _ _ (Index c.in-Index.index c.in-Index.ty) c.self.view_is c.self.invariant c.in-Index.ensures in
    (r.fits.has_type, r.tree)

pub returns-in-Free : goal.returns-in-Free
returns-in-Free c =
    let r = term_read c.args.self.now _ _ _ _ _ (Free c.in-Free.name c.in-Free.ty) c.self.view_is c.self.invariant c.in-Free.ensures in
    (r.fits.parts, r.fits.has_type, r.tree)

pub returns-in-Const : goal.returns-in-Const
returns-in-Const c = const_view _ c.in-Const.list _ c.list_items.ensures c.args.self.now _ c.in-Const.name c.in-Const.ty (term_read c.args.self.now _ _ _ _ _ (Const c.in-Const.name c.in-Const.list c.in-Const.ty) c.self.view_is c.self.invariant c.in-Const.ensures)

pub returns-in-Comb : goal.returns-in-Comb
returns-in-Comb c = comb_view c.args.self.now _ _ c.in-Comb.f c.in-Comb.x c.in-Comb.field-2 (term_read c.args.self.now _ _ _ _ _ (Comb c.in-Comb.f c.in-Comb.x c.in-Comb.field-2) c.self.view_is c.self.invariant c.in-Comb.ensures)

pub returns-in-Abs : goal.returns-in-Abs
returns-in-Abs c = abs_view c.args.self.now _ _ c.in-Abs.bound c.in-Abs.body c.in-Abs.field-2 (term_read c.args.self.now _ _ _ _ _ (Abs c.in-Abs.bound c.in-Abs.body c.in-Abs.field-2) c.self.view_is c.self.invariant c.in-Abs.ensures)
