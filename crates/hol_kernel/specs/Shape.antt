-- The definitions that a stored tree or forest holds, the oldest first. No tree is empty.
use Rattle.std.specs.Prelude.{◌<◌, List, [], ◌∷◌, ◌++◌, length}
use Rattle.hol_terms.specs.Definition.{Definition}
use Rattle.hol_terms.specs.DefShape.{definition_of}
use Rattle.hol_kernel.specs.declared.history.TreeNode.{TreeNode}
use Rattle.hol_kernel.specs.declared.history.TreeNode.TheVariants.{Leaf, Fork}
use Rattle.hol_kernel.specs.declared.history.Forest.{Forest}
use Rattle.hol_kernel.specs.declared.history.Forest.TheVariants.{Start, More}

abbrev pub defs_of_tree : TreeNode → List Definition
defs_of_tree (Leaf d) = definition_of d ∷ []
defs_of_tree (Fork older newer) = older ++ newer

abbrev pub IsTree : TreeNode → Type 0
IsTree (Leaf d) = Unit {0}
IsTree (Fork older newer) = (0 < length older) × (0 < length newer)

abbrev pub defs_of_forest : Forest → List Definition
defs_of_forest Start = []
defs_of_forest (More older newest rank) = older ++ newest

abbrev pub IsForest : Forest → Type 0
IsForest Start = Unit {0}
IsForest (More older newest rank) = 0 < length newest
