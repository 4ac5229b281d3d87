use Rattle.std.proofs.Common.{◌<◌, subst, ℕ}
use Rattle.flat_terms.specs.declared.nodes.TypeNode.TheVariants.{Var, App}
use Rattle.flat_terms.proofs.Read.{type_read, type_count, app_view, list_stored}
use Rattle.flat_terms.proofs.tables.Tables.type_view.Goals as goal

pub type_node-requires : goal.type_node-requires
type_node-requires c = subst (λ (n : ℕ). c.args.ty.0 < n) (type_count c.args.self.now _ _ _ _ c.self.view_is c.self.invariant) c.requires

pub list_items-requires : goal.list_items-requires
list_items-requires c = list_stored _ c.in-App.list (type_read c.args.self.now _ _ _ _ _ (App c.in-App.name c.in-App.list) c.self.view_is c.self.invariant c.in-App.ensures).fits.1

pub returns-in-Var : goal.returns-in-Var
returns-in-Var c =
    let r = type_read c.args.self.now _ _ _ _ _ (Var c.in-Var.name) c.self.view_is c.self.invariant c.in-Var.ensures in
    (r.fits, r.tree)

pub returns-in-App : goal.returns-in-App
returns-in-App c = app_view _ c.in-App.list _ c.list_items.ensures c.args.self.now _ c.in-App.name (type_read c.args.self.now _ _ _ _ _ (App c.in-App.name c.in-App.list) c.self.view_is c.self.invariant c.in-App.ensures)
