use Rattle.std.proofs.Common.{◌≡◌, Some, rules, subst, sym}
use Rattle.hol_tables.specs.Building.{term_made, AllClosed}
use Rattle.hol_tables.proofs.BuildingLemmas.{term_made-closed, closed_push}
use Rattle.hol_tables.proofs.build.add_term.Goals as goal

pub returns-clause-closed : goal.returns-clause-closed
returns-clause-closed c =
    let t = c.in_ok-t.t in
    let e : term_made c.args.types.now c.args.terms.now.items c.args.line.now ≡ Some t = search rules in
    let closed = term_made-closed c.args.types.now c.args.terms.now.items c.args.line.now t c.requires.closed e in
    subst AllClosed (sym c.in_ok-push.ensures.items) (closed_push c.args.terms.now.items t c.requires.closed closed)
