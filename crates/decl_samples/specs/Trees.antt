-- `datatype 'a tree = Leaf | Node ('a tree) 'a ('a tree);` and its facts in canonical text.
use Rattle.std.specs.Prelude.{List, [], ◌∷◌, None, codes}
use Rattle.hol_terms.specs.Ty.{ty_var, ty_app, tys}
use Rattle.hol_terms.specs.Text.{Text}
use Rattle.decl_core.specs.Declaration.{Decl}
use Rattle.decl_core.specs.Statements.{Fact}
use Rattle.decl_core.specs.Functors.{basic_lives}
use Rattle.decl_core.specs.Liveness.{with_group}
use Rattle.decl_core.specs.CharacteristicList.{datatype_facts}

abbrev pub declared : List Decl
declared =
    record {
      params = (codes "a" ∷ []);
      name = codes "tree";
      ctors = (
          record { name = codes "Leaf"; args = [] } ∷
          record { name = codes "Node"; args = (record { selector = None; ty = (ty_app (codes "tree") (tys ((ty_var (codes "a")) ∷ []))) } ∷ record { selector = None; ty = (ty_var (codes "a")) } ∷ record { selector = None; ty = (ty_app (codes "tree") (tys ((ty_var (codes "a")) ∷ []))) } ∷ []) } ∷ []);
    }
    ∷ []

abbrev pub facts : List Fact
facts = datatype_facts (with_group basic_lives declared) declared

unfoldable pub lines : List Text
lines =
    codes "tree.inject.Node : !x0:'a tree. !x1:'a. !x2:'a tree. !x3:'a tree. !x4:'a. !x5:'a tree. (Node{'a} x0 x1 x2 = Node{'a} x3 x4 x5) = ((x0 = x3) /\\ ((x1 = x4) /\\ (x2 = x5)))"
    ∷ codes "tree.distinct.Leaf.Node : !x0:'a tree. !x1:'a. !x2:'a tree. ~ (Leaf{'a} = Node{'a} x0 x1 x2)"
    ∷ codes "tree.exhaust : !x0:'a tree. !x1:bool. ((x0 = Leaf{'a}) ==> x1) ==> ((!x2:'a tree. !x3:'a. !x4:'a tree. (x0 = Node{'a} x2 x3 x4) ==> x1) ==> x1)"
    ∷ codes "tree.case.Leaf : !x0:'x1. !x1:'a tree -> 'a -> 'a tree -> 'x1. tree.case{'x1,'a} x0 x1 Leaf{'a} = x0"
    ∷ codes "tree.case.Node : !x0:'x1. !x1:'a tree -> 'a -> 'a tree -> 'x1. !x2:'a tree. !x3:'a. !x4:'a tree. tree.case{'x1,'a} x0 x1 (Node{'a} x2 x3 x4) = x1 x2 x3 x4"
    ∷ codes "tree.split : !x0:'x1 -> bool. !x1:'x1. !x2:'a tree -> 'a -> 'a tree -> 'x1. !x3:'a tree. x0 (tree.case{'x1,'a} x1 x2 x3) = (((x3 = Leaf{'a}) ==> x0 x1) /\\ (!x4:'a tree. !x5:'a. !x6:'a tree. (x3 = Node{'a} x4 x5 x6) ==> x0 (x2 x4 x5 x6)))"
    ∷ codes "tree.disc.Leaf.Leaf : tree.is_Leaf{'a} Leaf{'a}"
    ∷ codes "tree.disc.Leaf.Node : !x0:'a tree. !x1:'a. !x2:'a tree. ~ tree.is_Leaf{'a} (Node{'a} x0 x1 x2)"
    ∷ codes "tree.disc.Node.Leaf : ~ tree.is_Node{'a} Leaf{'a}"
    ∷ codes "tree.disc.Node.Node : !x0:'a tree. !x1:'a. !x2:'a tree. tree.is_Node{'a} (Node{'a} x0 x1 x2)"
    ∷ codes "tree.map.Leaf : !x0:'a -> 'x1. tree.map{'a,'x1} x0 Leaf{'a} = Leaf{'x1}"
    ∷ codes "tree.map.Node : !x0:'a -> 'x1. !x1:'a tree. !x2:'a. !x3:'a tree. tree.map{'a,'x1} x0 (Node{'a} x1 x2 x3) = Node{'x1} (tree.map{'a,'x1} x0 x1) (x0 x2) (tree.map{'a,'x1} x0 x3)"
    ∷ codes "tree.set1.Leaf : !x0:'a. tree.set1{'a} Leaf{'a} x0 = F"
    ∷ codes "tree.set1.Node : !x0:'a tree. !x1:'a. !x2:'a tree. !x3:'a. tree.set1{'a} (Node{'a} x0 x1 x2) x3 = (tree.set1{'a} x0 x3 \\/ ((x3 = x1) \\/ tree.set1{'a} x2 x3))"
    ∷ codes "tree.rel_inject.Leaf : !x0:'a -> 'x1 -> bool. tree.rel{'a,'x1} x0 Leaf{'a} Leaf{'x1} = T"
    ∷ codes "tree.rel_inject.Node : !x0:'a -> 'x1 -> bool. !x1:'a tree. !x2:'a. !x3:'a tree. !x4:'x1 tree. !x5:'x1. !x6:'x1 tree. tree.rel{'a,'x1} x0 (Node{'a} x1 x2 x3) (Node{'x1} x4 x5 x6) = (tree.rel{'a,'x1} x0 x1 x4 /\\ (x0 x2 x5 /\\ tree.rel{'a,'x1} x0 x3 x6))"
    ∷ codes "tree.rel_distinct.Leaf.Node : !x0:'a -> 'x1 -> bool. !x1:'x1 tree. !x2:'x1. !x3:'x1 tree. ~ tree.rel{'a,'x1} x0 Leaf{'a} (Node{'x1} x1 x2 x3)"
    ∷ codes "tree.rel_distinct.Node.Leaf : !x0:'a -> 'x1 -> bool. !x1:'a tree. !x2:'a. !x3:'a tree. ~ tree.rel{'a,'x1} x0 (Node{'a} x1 x2 x3) Leaf{'x1}"
    ∷ codes "tree.map_id : !x0:'a tree. tree.map{'a,'a} id{'a} x0 = x0"
    ∷ codes "tree.map_comp : !x0:'a -> 'x1. !x1:'x1 -> 'x5. !x2:'a tree. tree.map{'x1,'x5} x1 (tree.map{'a,'x1} x0 x2) = tree.map{'a,'x5} (fun.map{'x1,'x5,'a} x1 x0) x2"
    ∷ codes "tree.map_cong : !x0:'a -> 'x1. !x1:'a -> 'x1. !x2:'a tree. (!x3:'a. tree.set1{'a} x2 x3 ==> (x0 x3 = x1 x3)) ==> (tree.map{'a,'x1} x0 x2 = tree.map{'a,'x1} x1 x2)"
    ∷ codes "tree.set1_map : !x0:'a -> 'x1. !x1:'a tree. !x2:'x1. tree.set1{'x1} (tree.map{'a,'x1} x0 x1) x2 = (?x3:'a. tree.set1{'a} x1 x3 /\\ (x2 = x0 x3))"
    ∷ codes "tree.set1_count : !x0:'a tree. countable{'a} (tree.set1{'a} x0)"
    ∷ codes "tree.rel_comp : !x0:'a -> 'x1 -> bool. !x1:'x1 -> 'x5 -> bool. !x2:'a tree. !x3:'x5 tree. tree.rel{'a,'x5} (\\x4:'a. \\x5:'x5. ?x6:'x1. x0 x4 x6 /\\ x1 x6 x5) x2 x3 = (?x4:'x1 tree. tree.rel{'a,'x1} x0 x2 x4 /\\ tree.rel{'x1,'x5} x1 x4 x3)"
    ∷ codes "tree.rel_in : !x0:'a -> 'x1 -> bool. !x1:'a tree. !x2:'x1 tree. tree.rel{'a,'x1} x0 x1 x2 = (?x3:('a,'x1) prod tree. (!x4:('a,'x1) prod. tree.set1{('a,'x1) prod} x3 x4 ==> x0 (fst{'a,'x1} x4) (snd{'a,'x1} x4)) /\\ ((tree.map{('a,'x1) prod,'a} fst{'a,'x1} x3 = x1) /\\ (tree.map{('a,'x1) prod,'x1} snd{'a,'x1} x3 = x2)))"
    ∷ codes "tree.induct : !x0:'a tree -> bool. x0 Leaf{'a} ==> ((!x1:'a tree. !x2:'a. !x3:'a tree. x0 x1 ==> (x0 x3 ==> x0 (Node{'a} x1 x2 x3))) ==> (!x1:'a tree. x0 x1))"
    ∷ codes "tree.rec.Leaf : !x0:'x1. !x1:('a tree,'x1) prod -> 'a -> ('a tree,'x1) prod -> 'x1. tree.rec{'x1,'a} x0 x1 Leaf{'a} = x0"
    ∷ codes "tree.rec.Node : !x0:'x1. !x1:('a tree,'x1) prod -> 'a -> ('a tree,'x1) prod -> 'x1. !x2:'a tree. !x3:'a. !x4:'a tree. tree.rec{'x1,'a} x0 x1 (Node{'a} x2 x3 x4) = x1 (pair{'a tree,'x1} x2 (tree.rec{'x1,'a} x0 x1 x2)) x3 (pair{'a tree,'x1} x4 (tree.rec{'x1,'a} x0 x1 x4))"
    ∷ []
