use Rattle.flat_terms.specs.contracts.nodes.TypeNodePartialEq.TheImpl.{eq-value}
use Rattle.flat_terms.proofs.Equal.{same_type_node, type_node_same}
use Rattle.flat_terms.proofs.Spots.{interned_keys}
use Rattle.flat_terms.proofs.tables.put_type.Goals as goal

pub returns-clause-ok : goal.returns-clause-ok
returns-clause-ok c = interned_keys eq-value.it same_type_node type_node_same _ _ _ _ c.in_ok-place.ensures.keys c.in_ok-place.ensures.stored
