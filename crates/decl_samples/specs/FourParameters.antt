-- `datatype ('a,'b,'c,'d) q = Q 'a 'b ('c cset) (num -> 'd);` and its facts in canonical text.
use Rattle.std.specs.Prelude.{List, [], ◌∷◌, None, codes}
use Rattle.hol_terms.specs.Ty.{ty_var, ty_app, tys}
use Rattle.hol_terms.specs.Notation.{◌⇒◌}
use Rattle.hol_terms.specs.Text.{Text}
use Rattle.decl_core.specs.Declaration.{Decl}
use Rattle.decl_core.specs.Statements.{Fact}
use Rattle.decl_core.specs.Functors.{basic_lives}
use Rattle.decl_core.specs.Liveness.{with_group}
use Rattle.decl_core.specs.CharacteristicList.{datatype_facts}

abbrev pub declared : List Decl
declared =
    record {
      params = (codes "a" ∷ codes "b" ∷ codes "c" ∷ codes "d" ∷ []);
      name = codes "q";
      ctors = (
          record { name = codes "Q"; args = (record { selector = None; ty = (ty_var (codes "a")) } ∷ record { selector = None; ty = (ty_var (codes "b")) } ∷ record { selector = None; ty = (ty_app (codes "cset") (tys ((ty_var (codes "c")) ∷ []))) } ∷ record { selector = None; ty = ((ty_app (codes "num") (tys [])) ⇒ (ty_var (codes "d"))) } ∷ []) } ∷ []);
    }
    ∷ []

abbrev pub facts : List Fact
facts = datatype_facts (with_group basic_lives declared) declared

unfoldable pub lines : List Text
lines =
    codes "q.inject.Q : !x0:'a. !x1:'b. !x2:'c cset. !x3:num -> 'd. !x4:'a. !x5:'b. !x6:'c cset. !x7:num -> 'd. (Q{'a,'b,'c,'d} x0 x1 x2 x3 = Q{'a,'b,'c,'d} x4 x5 x6 x7) = ((x0 = x4) /\\ ((x1 = x5) /\\ ((x2 = x6) /\\ (x3 = x7))))"
    ∷ codes "q.exhaust : !x0:('a,'b,'c,'d) q. !x1:bool. (!x2:'a. !x3:'b. !x4:'c cset. !x5:num -> 'd. (x0 = Q{'a,'b,'c,'d} x2 x3 x4 x5) ==> x1) ==> x1"
    ∷ codes "q.case.Q : !x0:'a -> 'b -> 'c cset -> (num -> 'd) -> 'x1. !x1:'a. !x2:'b. !x3:'c cset. !x4:num -> 'd. q.case{'a,'b,'c,'d,'x1} x0 (Q{'a,'b,'c,'d} x1 x2 x3 x4) = x0 x1 x2 x3 x4"
    ∷ codes "q.split : !x0:'x1 -> bool. !x1:'a -> 'b -> 'c cset -> (num -> 'd) -> 'x1. !x2:('a,'b,'c,'d) q. x0 (q.case{'a,'b,'c,'d,'x1} x1 x2) = (!x3:'a. !x4:'b. !x5:'c cset. !x6:num -> 'd. (x2 = Q{'a,'b,'c,'d} x3 x4 x5 x6) ==> x0 (x1 x3 x4 x5 x6))"
    ∷ codes "q.disc.Q.Q : !x0:'a. !x1:'b. !x2:'c cset. !x3:num -> 'd. q.is_Q{'a,'b,'c,'d} (Q{'a,'b,'c,'d} x0 x1 x2 x3)"
    ∷ codes "q.map.Q : !x0:'a -> 'x1. !x1:'b -> 'x2. !x2:'c -> 'x3. !x3:'d -> 'x4. !x4:'a. !x5:'b. !x6:'c cset. !x7:num -> 'd. q.map{'a,'x1,'b,'x2,'c,'x3,'d,'x4} x0 x1 x2 x3 (Q{'a,'b,'c,'d} x4 x5 x6 x7) = Q{'x1,'x2,'x3,'x4} (x0 x4) (x1 x5) (cset.map{'c,'x3} x2 x6) (fun.map{'d,'x4,num} x3 x7)"
    ∷ codes "q.set1.Q : !x0:'a. !x1:'b. !x2:'c cset. !x3:num -> 'd. !x4:'a. q.set1{'a,'b,'c,'d} (Q{'a,'b,'c,'d} x0 x1 x2 x3) x4 = (x4 = x0)"
    ∷ codes "q.set2.Q : !x0:'a. !x1:'b. !x2:'c cset. !x3:num -> 'd. !x4:'b. q.set2{'a,'b,'c,'d} (Q{'a,'b,'c,'d} x0 x1 x2 x3) x4 = (x4 = x1)"
    ∷ codes "q.set3.Q : !x0:'a. !x1:'b. !x2:'c cset. !x3:num -> 'd. !x4:'c. q.set3{'a,'b,'c,'d} (Q{'a,'b,'c,'d} x0 x1 x2 x3) x4 = cset.set1{'c} x2 x4"
    ∷ codes "q.set4.Q : !x0:'a. !x1:'b. !x2:'c cset. !x3:num -> 'd. !x4:'d. q.set4{'a,'b,'c,'d} (Q{'a,'b,'c,'d} x0 x1 x2 x3) x4 = fun.set2{num,'d} x3 x4"
    ∷ codes "q.rel_inject.Q : !x0:'a -> 'x1 -> bool. !x1:'b -> 'x2 -> bool. !x2:'c -> 'x3 -> bool. !x3:'d -> 'x4 -> bool. !x4:'a. !x5:'b. !x6:'c cset. !x7:num -> 'd. !x8:'x1. !x9:'x2. !x10:'x3 cset. !x11:num -> 'x4. q.rel{'a,'x1,'b,'x2,'c,'x3,'d,'x4} x0 x1 x2 x3 (Q{'a,'b,'c,'d} x4 x5 x6 x7) (Q{'x1,'x2,'x3,'x4} x8 x9 x10 x11) = (x0 x4 x8 /\\ (x1 x5 x9 /\\ (cset.rel{'c,'x3} x2 x6 x10 /\\ fun.rel{'d,'x4,num} x3 x7 x11)))"
    ∷ codes "q.map_id : !x0:('a,'b,'c,'d) q. q.map{'a,'a,'b,'b,'c,'c,'d,'d} id{'a} id{'b} id{'c} id{'d} x0 = x0"
    ∷ codes "q.map_comp : !x0:'a -> 'x1. !x1:'b -> 'x2. !x2:'c -> 'x3. !x3:'d -> 'x4. !x4:'x1 -> 'x5. !x5:'x2 -> 'x6. !x6:'x3 -> 'x7. !x7:'x4 -> 'x8. !x8:('a,'b,'c,'d) q. q.map{'x1,'x5,'x2,'x6,'x3,'x7,'x4,'x8} x4 x5 x6 x7 (q.map{'a,'x1,'b,'x2,'c,'x3,'d,'x4} x0 x1 x2 x3 x8) = q.map{'a,'x5,'b,'x6,'c,'x7,'d,'x8} (fun.map{'x1,'x5,'a} x4 x0) (fun.map{'x2,'x6,'b} x5 x1) (fun.map{'x3,'x7,'c} x6 x2) (fun.map{'x4,'x8,'d} x7 x3) x8"
    ∷ codes "q.map_cong : !x0:'a -> 'x1. !x1:'b -> 'x2. !x2:'c -> 'x3. !x3:'d -> 'x4. !x4:'a -> 'x1. !x5:'b -> 'x2. !x6:'c -> 'x3. !x7:'d -> 'x4. !x8:('a,'b,'c,'d) q. (!x9:'a. q.set1{'a,'b,'c,'d} x8 x9 ==> (x0 x9 = x4 x9)) ==> ((!x9:'b. q.set2{'a,'b,'c,'d} x8 x9 ==> (x1 x9 = x5 x9)) ==> ((!x9:'c. q.set3{'a,'b,'c,'d} x8 x9 ==> (x2 x9 = x6 x9)) ==> ((!x9:'d. q.set4{'a,'b,'c,'d} x8 x9 ==> (x3 x9 = x7 x9)) ==> (q.map{'a,'x1,'b,'x2,'c,'x3,'d,'x4} x0 x1 x2 x3 x8 = q.map{'a,'x1,'b,'x2,'c,'x3,'d,'x4} x4 x5 x6 x7 x8))))"
    ∷ codes "q.set1_map : !x0:'a -> 'x1. !x1:'b -> 'x2. !x2:'c -> 'x3. !x3:'d -> 'x4. !x4:('a,'b,'c,'d) q. !x5:'x1. q.set1{'x1,'x2,'x3,'x4} (q.map{'a,'x1,'b,'x2,'c,'x3,'d,'x4} x0 x1 x2 x3 x4) x5 = (?x6:'a. q.set1{'a,'b,'c,'d} x4 x6 /\\ (x5 = x0 x6))"
    ∷ codes "q.set2_map : !x0:'a -> 'x1. !x1:'b -> 'x2. !x2:'c -> 'x3. !x3:'d -> 'x4. !x4:('a,'b,'c,'d) q. !x5:'x2. q.set2{'x1,'x2,'x3,'x4} (q.map{'a,'x1,'b,'x2,'c,'x3,'d,'x4} x0 x1 x2 x3 x4) x5 = (?x6:'b. q.set2{'a,'b,'c,'d} x4 x6 /\\ (x5 = x1 x6))"
    ∷ codes "q.set3_map : !x0:'a -> 'x1. !x1:'b -> 'x2. !x2:'c -> 'x3. !x3:'d -> 'x4. !x4:('a,'b,'c,'d) q. !x5:'x3. q.set3{'x1,'x2,'x3,'x4} (q.map{'a,'x1,'b,'x2,'c,'x3,'d,'x4} x0 x1 x2 x3 x4) x5 = (?x6:'c. q.set3{'a,'b,'c,'d} x4 x6 /\\ (x5 = x2 x6))"
    ∷ codes "q.set4_map : !x0:'a -> 'x1. !x1:'b -> 'x2. !x2:'c -> 'x3. !x3:'d -> 'x4. !x4:('a,'b,'c,'d) q. !x5:'x4. q.set4{'x1,'x2,'x3,'x4} (q.map{'a,'x1,'b,'x2,'c,'x3,'d,'x4} x0 x1 x2 x3 x4) x5 = (?x6:'d. q.set4{'a,'b,'c,'d} x4 x6 /\\ (x5 = x3 x6))"
    ∷ codes "q.set1_count : !x0:('a,'b,'c,'d) q. countable{'a} (q.set1{'a,'b,'c,'d} x0)"
    ∷ codes "q.set2_count : !x0:('a,'b,'c,'d) q. countable{'b} (q.set2{'a,'b,'c,'d} x0)"
    ∷ codes "q.set3_count : !x0:('a,'b,'c,'d) q. countable{'c} (q.set3{'a,'b,'c,'d} x0)"
    ∷ codes "q.set4_count : !x0:('a,'b,'c,'d) q. countable{'d} (q.set4{'a,'b,'c,'d} x0)"
    ∷ codes "q.rel_comp : !x0:'a -> 'x1 -> bool. !x1:'b -> 'x2 -> bool. !x2:'c -> 'x3 -> bool. !x3:'d -> 'x4 -> bool. !x4:'x1 -> 'x5 -> bool. !x5:'x2 -> 'x6 -> bool. !x6:'x3 -> 'x7 -> bool. !x7:'x4 -> 'x8 -> bool. !x8:('a,'b,'c,'d) q. !x9:('x5,'x6,'x7,'x8) q. q.rel{'a,'x5,'b,'x6,'c,'x7,'d,'x8} (\\x10:'a. \\x11:'x5. ?x12:'x1. x0 x10 x12 /\\ x4 x12 x11) (\\x10:'b. \\x11:'x6. ?x12:'x2. x1 x10 x12 /\\ x5 x12 x11) (\\x10:'c. \\x11:'x7. ?x12:'x3. x2 x10 x12 /\\ x6 x12 x11) (\\x10:'d. \\x11:'x8. ?x12:'x4. x3 x10 x12 /\\ x7 x12 x11) x8 x9 = (?x10:('x1,'x2,'x3,'x4) q. q.rel{'a,'x1,'b,'x2,'c,'x3,'d,'x4} x0 x1 x2 x3 x8 x10 /\\ q.rel{'x1,'x5,'x2,'x6,'x3,'x7,'x4,'x8} x4 x5 x6 x7 x10 x9)"
    ∷ codes "q.rel_in : !x0:'a -> 'x1 -> bool. !x1:'b -> 'x2 -> bool. !x2:'c -> 'x3 -> bool. !x3:'d -> 'x4 -> bool. !x4:('a,'b,'c,'d) q. !x5:('x1,'x2,'x3,'x4) q. q.rel{'a,'x1,'b,'x2,'c,'x3,'d,'x4} x0 x1 x2 x3 x4 x5 = (?x6:(('a,'x1) prod,('b,'x2) prod,('c,'x3) prod,('d,'x4) prod) q. (!x7:('a,'x1) prod. q.set1{('a,'x1) prod,('b,'x2) prod,('c,'x3) prod,('d,'x4) prod} x6 x7 ==> x0 (fst{'a,'x1} x7) (snd{'a,'x1} x7)) /\\ ((!x7:('b,'x2) prod. q.set2{('a,'x1) prod,('b,'x2) prod,('c,'x3) prod,('d,'x4) prod} x6 x7 ==> x1 (fst{'b,'x2} x7) (snd{'b,'x2} x7)) /\\ ((!x7:('c,'x3) prod. q.set3{('a,'x1) prod,('b,'x2) prod,('c,'x3) prod,('d,'x4) prod} x6 x7 ==> x2 (fst{'c,'x3} x7) (snd{'c,'x3} x7)) /\\ ((!x7:('d,'x4) prod. q.set4{('a,'x1) prod,('b,'x2) prod,('c,'x3) prod,('d,'x4) prod} x6 x7 ==> x3 (fst{'d,'x4} x7) (snd{'d,'x4} x7)) /\\ ((q.map{('a,'x1) prod,'a,('b,'x2) prod,'b,('c,'x3) prod,'c,('d,'x4) prod,'d} fst{'a,'x1} fst{'b,'x2} fst{'c,'x3} fst{'d,'x4} x6 = x4) /\\ (q.map{('a,'x1) prod,'x1,('b,'x2) prod,'x2,('c,'x3) prod,'x3,('d,'x4) prod,'x4} snd{'a,'x1} snd{'b,'x2} snd{'c,'x3} snd{'d,'x4} x6 = x5))))))"
    ∷ codes "q.induct : !x0:('a,'b,'c,'d) q -> bool. (!x1:'a. !x2:'b. !x3:'c cset. !x4:num -> 'd. x0 (Q{'a,'b,'c,'d} x1 x2 x3 x4)) ==> (!x1:('a,'b,'c,'d) q. x0 x1)"
    ∷ codes "q.rec.Q : !x0:'a -> 'b -> 'c cset -> (num -> 'd) -> 'x1. !x1:'a. !x2:'b. !x3:'c cset. !x4:num -> 'd. q.rec{'a,'b,'c,'d,'x1} x0 (Q{'a,'b,'c,'d} x1 x2 x3 x4) = x0 x1 x2 x3 x4"
    ∷ []
