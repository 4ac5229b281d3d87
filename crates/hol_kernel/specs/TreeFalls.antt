-- The trees inside a tree hold fewer definitions.
use Rattle.std.specs.Prelude.{◌≤◌, length}
use Rattle.std.proofs.Common.{arith, length-append}
use Rattle.hol_kernel.specs.Shape.{defs_of_tree, IsTree}
use Rattle.hol_kernel.specs.declared.history.TreeNode.{TreeNode}
use Rattle.hol_kernel.specs.declared.history.TreeNode.TheVariants.{Leaf, Fork}
use Rattle.hol_kernel.specs.declared.history.Tree.TheDeep.{deep-TreeNode}

pub tree_falls : (n : TreeNode) → IsTree n → deep-TreeNode n ≤ length (defs_of_tree n)
tree_falls (Leaf d) h = omega arith
tree_falls (Fork older newer) h = omega (arith, length-append older newer, h.0, h.1)
