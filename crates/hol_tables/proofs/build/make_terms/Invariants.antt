use Rattle.std.proofs.Common.{◌≡◌, [], drop}
use Rattle.hol_tables.specs.Building.{terms_made, AllClosed}
use Rattle.hol_tables.proofs.build.make_terms.Given as goal

abbrev pub invariant-loop-line : goal.invariant-loop-line
invariant-loop-line l = record {
  closed : AllClosed l.terms.items;
  rest : terms_made l.types [] l.lines ≡ terms_made l.types l.terms.items (drop l.line-index l.lines);
}
