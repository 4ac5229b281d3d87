-- `datatype 'a tree = Node 'a ('a forest) and 'a forest = FNil | FCons ('a tree) ('a forest);` and its facts in canonical text.
use Rattle.std.specs.Prelude.{List, [], ◌∷◌, None, codes}
use Rattle.hol_terms.specs.Ty.{ty_var, ty_app, tys}
use Rattle.hol_terms.specs.Text.{Text}
use Rattle.decl_core.specs.Declaration.{Decl}
use Rattle.decl_core.specs.Statements.{Fact}
use Rattle.decl_core.specs.Functors.{basic_lives}
use Rattle.decl_core.specs.Liveness.{with_group}
use Rattle.decl_core.specs.CharacteristicList.{datatype_facts}

abbrev pub declared : List Decl
declared =
    record {
      params = (codes "a" ∷ []);
      name = codes "tree";
      ctors = (
          record { name = codes "Node"; args = (record { selector = None; ty = (ty_var (codes "a")) } ∷ record { selector = None; ty = (ty_app (codes "forest") (tys ((ty_var (codes "a")) ∷ []))) } ∷ []) } ∷ []);
    }
    ∷ record {
      params = (codes "a" ∷ []);
      name = codes "forest";
      ctors = (
          record { name = codes "FNil"; args = [] } ∷
          record { name = codes "FCons"; args = (record { selector = None; ty = (ty_app (codes "tree") (tys ((ty_var (codes "a")) ∷ []))) } ∷ record { selector = None; ty = (ty_app (codes "forest") (tys ((ty_var (codes "a")) ∷ []))) } ∷ []) } ∷ []);
    }
    ∷ []

abbrev pub facts : List Fact
facts = datatype_facts (with_group basic_lives declared) declared

unfoldable pub lines : List Text
lines =
    codes "tree.inject.Node : !x0:'a. !x1:'a forest. !x2:'a. !x3:'a forest. (Node{'a} x0 x1 = Node{'a} x2 x3) = ((x0 = x2) /\\ (x1 = x3))"
    ∷ codes "tree.exhaust : !x0:'a tree. !x1:bool. (!x2:'a. !x3:'a forest. (x0 = Node{'a} x2 x3) ==> x1) ==> x1"
    ∷ codes "tree.case.Node : !x0:'a -> 'a forest -> 'x1. !x1:'a. !x2:'a forest. tree.case{'a,'x1} x0 (Node{'a} x1 x2) = x0 x1 x2"
    ∷ codes "tree.split : !x0:'x1 -> bool. !x1:'a -> 'a forest -> 'x1. !x2:'a tree. x0 (tree.case{'a,'x1} x1 x2) = (!x3:'a. !x4:'a forest. (x2 = Node{'a} x3 x4) ==> x0 (x1 x3 x4))"
    ∷ codes "tree.disc.Node.Node : !x0:'a. !x1:'a forest. tree.is_Node{'a} (Node{'a} x0 x1)"
    ∷ codes "forest.inject.FCons : !x0:'a tree. !x1:'a forest. !x2:'a tree. !x3:'a forest. (FCons{'a} x0 x1 = FCons{'a} x2 x3) = ((x0 = x2) /\\ (x1 = x3))"
    ∷ codes "forest.distinct.FNil.FCons : !x0:'a tree. !x1:'a forest. ~ (FNil{'a} = FCons{'a} x0 x1)"
    ∷ codes "forest.exhaust : !x0:'a forest. !x1:bool. ((x0 = FNil{'a}) ==> x1) ==> ((!x2:'a tree. !x3:'a forest. (x0 = FCons{'a} x2 x3) ==> x1) ==> x1)"
    ∷ codes "forest.case.FNil : !x0:'x1. !x1:'a tree -> 'a forest -> 'x1. forest.case{'x1,'a} x0 x1 FNil{'a} = x0"
    ∷ codes "forest.case.FCons : !x0:'x1. !x1:'a tree -> 'a forest -> 'x1. !x2:'a tree. !x3:'a forest. forest.case{'x1,'a} x0 x1 (FCons{'a} x2 x3) = x1 x2 x3"
    ∷ codes "forest.split : !x0:'x1 -> bool. !x1:'x1. !x2:'a tree -> 'a forest -> 'x1. !x3:'a forest. x0 (forest.case{'x1,'a} x1 x2 x3) = (((x3 = FNil{'a}) ==> x0 x1) /\\ (!x4:'a tree. !x5:'a forest. (x3 = FCons{'a} x4 x5) ==> x0 (x2 x4 x5)))"
    ∷ codes "forest.disc.FNil.FNil : forest.is_FNil{'a} FNil{'a}"
    ∷ codes "forest.disc.FNil.FCons : !x0:'a tree. !x1:'a forest. ~ forest.is_FNil{'a} (FCons{'a} x0 x1)"
    ∷ codes "forest.disc.FCons.FNil : ~ forest.is_FCons{'a} FNil{'a}"
    ∷ codes "forest.disc.FCons.FCons : !x0:'a tree. !x1:'a forest. forest.is_FCons{'a} (FCons{'a} x0 x1)"
    ∷ codes "tree.map.Node : !x0:'a -> 'x1. !x1:'a. !x2:'a forest. tree.map{'a,'x1} x0 (Node{'a} x1 x2) = Node{'x1} (x0 x1) (forest.map{'a,'x1} x0 x2)"
    ∷ codes "tree.set1.Node : !x0:'a. !x1:'a forest. !x2:'a. tree.set1{'a} (Node{'a} x0 x1) x2 = ((x2 = x0) \\/ forest.set1{'a} x1 x2)"
    ∷ codes "tree.rel_inject.Node : !x0:'a -> 'x1 -> bool. !x1:'a. !x2:'a forest. !x3:'x1. !x4:'x1 forest. tree.rel{'a,'x1} x0 (Node{'a} x1 x2) (Node{'x1} x3 x4) = (x0 x1 x3 /\\ forest.rel{'a,'x1} x0 x2 x4)"
    ∷ codes "tree.map_id : !x0:'a tree. tree.map{'a,'a} id{'a} x0 = x0"
    ∷ codes "tree.map_comp : !x0:'a -> 'x1. !x1:'x1 -> 'x5. !x2:'a tree. tree.map{'x1,'x5} x1 (tree.map{'a,'x1} x0 x2) = tree.map{'a,'x5} (fun.map{'x1,'x5,'a} x1 x0) x2"
    ∷ codes "tree.map_cong : !x0:'a -> 'x1. !x1:'a -> 'x1. !x2:'a tree. (!x3:'a. tree.set1{'a} x2 x3 ==> (x0 x3 = x1 x3)) ==> (tree.map{'a,'x1} x0 x2 = tree.map{'a,'x1} x1 x2)"
    ∷ codes "tree.set1_map : !x0:'a -> 'x1. !x1:'a tree. !x2:'x1. tree.set1{'x1} (tree.map{'a,'x1} x0 x1) x2 = (?x3:'a. tree.set1{'a} x1 x3 /\\ (x2 = x0 x3))"
    ∷ codes "tree.set1_count : !x0:'a tree. countable{'a} (tree.set1{'a} x0)"
    ∷ codes "tree.rel_comp : !x0:'a -> 'x1 -> bool. !x1:'x1 -> 'x5 -> bool. !x2:'a tree. !x3:'x5 tree. tree.rel{'a,'x5} (\\x4:'a. \\x5:'x5. ?x6:'x1. x0 x4 x6 /\\ x1 x6 x5) x2 x3 = (?x4:'x1 tree. tree.rel{'a,'x1} x0 x2 x4 /\\ tree.rel{'x1,'x5} x1 x4 x3)"
    ∷ codes "tree.rel_in : !x0:'a -> 'x1 -> bool. !x1:'a tree. !x2:'x1 tree. tree.rel{'a,'x1} x0 x1 x2 = (?x3:('a,'x1) prod tree. (!x4:('a,'x1) prod. tree.set1{('a,'x1) prod} x3 x4 ==> x0 (fst{'a,'x1} x4) (snd{'a,'x1} x4)) /\\ ((tree.map{('a,'x1) prod,'a} fst{'a,'x1} x3 = x1) /\\ (tree.map{('a,'x1) prod,'x1} snd{'a,'x1} x3 = x2)))"
    ∷ codes "forest.map.FNil : !x0:'a -> 'x1. forest.map{'a,'x1} x0 FNil{'a} = FNil{'x1}"
    ∷ codes "forest.map.FCons : !x0:'a -> 'x1. !x1:'a tree. !x2:'a forest. forest.map{'a,'x1} x0 (FCons{'a} x1 x2) = FCons{'x1} (tree.map{'a,'x1} x0 x1) (forest.map{'a,'x1} x0 x2)"
    ∷ codes "forest.set1.FNil : !x0:'a. forest.set1{'a} FNil{'a} x0 = F"
    ∷ codes "forest.set1.FCons : !x0:'a tree. !x1:'a forest. !x2:'a. forest.set1{'a} (FCons{'a} x0 x1) x2 = (tree.set1{'a} x0 x2 \\/ forest.set1{'a} x1 x2)"
    ∷ codes "forest.rel_inject.FNil : !x0:'a -> 'x1 -> bool. forest.rel{'a,'x1} x0 FNil{'a} FNil{'x1} = T"
    ∷ codes "forest.rel_inject.FCons : !x0:'a -> 'x1 -> bool. !x1:'a tree. !x2:'a forest. !x3:'x1 tree. !x4:'x1 forest. forest.rel{'a,'x1} x0 (FCons{'a} x1 x2) (FCons{'x1} x3 x4) = (tree.rel{'a,'x1} x0 x1 x3 /\\ forest.rel{'a,'x1} x0 x2 x4)"
    ∷ codes "forest.rel_distinct.FNil.FCons : !x0:'a -> 'x1 -> bool. !x1:'x1 tree. !x2:'x1 forest. ~ forest.rel{'a,'x1} x0 FNil{'a} (FCons{'x1} x1 x2)"
    ∷ codes "forest.rel_distinct.FCons.FNil : !x0:'a -> 'x1 -> bool. !x1:'a tree. !x2:'a forest. ~ forest.rel{'a,'x1} x0 (FCons{'a} x1 x2) FNil{'x1}"
    ∷ codes "forest.map_id : !x0:'a forest. forest.map{'a,'a} id{'a} x0 = x0"
    ∷ codes "forest.map_comp : !x0:'a -> 'x1. !x1:'x1 -> 'x5. !x2:'a forest. forest.map{'x1,'x5} x1 (forest.map{'a,'x1} x0 x2) = forest.map{'a,'x5} (fun.map{'x1,'x5,'a} x1 x0) x2"
    ∷ codes "forest.map_cong : !x0:'a -> 'x1. !x1:'a -> 'x1. !x2:'a forest. (!x3:'a. forest.set1{'a} x2 x3 ==> (x0 x3 = x1 x3)) ==> (forest.map{'a,'x1} x0 x2 = forest.map{'a,'x1} x1 x2)"
    ∷ codes "forest.set1_map : !x0:'a -> 'x1. !x1:'a forest. !x2:'x1. forest.set1{'x1} (forest.map{'a,'x1} x0 x1) x2 = (?x3:'a. forest.set1{'a} x1 x3 /\\ (x2 = x0 x3))"
    ∷ codes "forest.set1_count : !x0:'a forest. countable{'a} (forest.set1{'a} x0)"
    ∷ codes "forest.rel_comp : !x0:'a -> 'x1 -> bool. !x1:'x1 -> 'x5 -> bool. !x2:'a forest. !x3:'x5 forest. forest.rel{'a,'x5} (\\x4:'a. \\x5:'x5. ?x6:'x1. x0 x4 x6 /\\ x1 x6 x5) x2 x3 = (?x4:'x1 forest. forest.rel{'a,'x1} x0 x2 x4 /\\ forest.rel{'x1,'x5} x1 x4 x3)"
    ∷ codes "forest.rel_in : !x0:'a -> 'x1 -> bool. !x1:'a forest. !x2:'x1 forest. forest.rel{'a,'x1} x0 x1 x2 = (?x3:('a,'x1) prod forest. (!x4:('a,'x1) prod. forest.set1{('a,'x1) prod} x3 x4 ==> x0 (fst{'a,'x1} x4) (snd{'a,'x1} x4)) /\\ ((forest.map{('a,'x1) prod,'a} fst{'a,'x1} x3 = x1) /\\ (forest.map{('a,'x1) prod,'x1} snd{'a,'x1} x3 = x2)))"
    ∷ codes "tree.induct : !x0:'a tree -> bool. !x1:'a forest -> bool. (!x2:'a. !x3:'a forest. x1 x3 ==> x0 (Node{'a} x2 x3)) ==> (x1 FNil{'a} ==> ((!x2:'a tree. !x3:'a forest. x0 x2 ==> (x1 x3 ==> x1 (FCons{'a} x2 x3))) ==> ((!x2:'a tree. x0 x2) /\\ (!x2:'a forest. x1 x2))))"
    ∷ codes "tree.rec.Node : !x0:'a -> ('a forest,'x2) prod -> 'x1. !x1:'x2. !x2:('a tree,'x1) prod -> ('a forest,'x2) prod -> 'x2. !x3:'a. !x4:'a forest. tree.rec{'a,'x2,'x1} x0 x1 x2 (Node{'a} x3 x4) = x0 x3 (pair{'a forest,'x2} x4 (forest.rec{'a,'x2,'x1} x0 x1 x2 x4))"
    ∷ codes "forest.rec.FNil : !x0:'a -> ('a forest,'x2) prod -> 'x1. !x1:'x2. !x2:('a tree,'x1) prod -> ('a forest,'x2) prod -> 'x2. forest.rec{'a,'x2,'x1} x0 x1 x2 FNil{'a} = x1"
    ∷ codes "forest.rec.FCons : !x0:'a -> ('a forest,'x2) prod -> 'x1. !x1:'x2. !x2:('a tree,'x1) prod -> ('a forest,'x2) prod -> 'x2. !x3:'a tree. !x4:'a forest. forest.rec{'a,'x2,'x1} x0 x1 x2 (FCons{'a} x3 x4) = x2 (pair{'a tree,'x1} x3 (tree.rec{'a,'x2,'x1} x0 x1 x2 x3)) (pair{'a forest,'x2} x4 (forest.rec{'a,'x2,'x1} x0 x1 x2 x4))"
    ∷ []
