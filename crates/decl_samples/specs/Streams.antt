-- `codatatype 'a stream = SCons (shd : 'a) (stl : 'a stream);` and its facts in canonical text.
use Rattle.std.specs.Prelude.{List, [], ◌∷◌, Some, codes}
use Rattle.hol_terms.specs.Ty.{ty_var, ty_app, tys}
use Rattle.hol_terms.specs.Text.{Text}
use Rattle.decl_core.specs.Declaration.{Decl}
use Rattle.decl_core.specs.Statements.{Fact}
use Rattle.decl_core.specs.Functors.{basic_lives}
use Rattle.decl_core.specs.Liveness.{with_group}
use Rattle.decl_core.specs.CharacteristicList.{codatatype_facts}

abbrev pub declared : List Decl
declared =
    record {
      params = (codes "a" ∷ []);
      name = codes "stream";
      ctors = (
          record { name = codes "SCons"; args = (record { selector = Some (codes "shd"); ty = (ty_var (codes "a")) } ∷ record { selector = Some (codes "stl"); ty = (ty_app (codes "stream") (tys ((ty_var (codes "a")) ∷ []))) } ∷ []) } ∷ []);
    }
    ∷ []

abbrev pub facts : List Fact
facts = codatatype_facts (with_group basic_lives declared) declared

unfoldable pub lines : List Text
lines =
    codes "stream.inject.SCons : !x0:'a. !x1:'a stream. !x2:'a. !x3:'a stream. (SCons{'a} x0 x1 = SCons{'a} x2 x3) = ((x0 = x2) /\\ (x1 = x3))"
    ∷ codes "stream.exhaust : !x0:'a stream. !x1:bool. (!x2:'a. !x3:'a stream. (x0 = SCons{'a} x2 x3) ==> x1) ==> x1"
    ∷ codes "stream.case.SCons : !x0:'a -> 'a stream -> 'x1. !x1:'a. !x2:'a stream. stream.case{'a,'x1} x0 (SCons{'a} x1 x2) = x0 x1 x2"
    ∷ codes "stream.split : !x0:'x1 -> bool. !x1:'a -> 'a stream -> 'x1. !x2:'a stream. x0 (stream.case{'a,'x1} x1 x2) = (!x3:'a. !x4:'a stream. (x2 = SCons{'a} x3 x4) ==> x0 (x1 x3 x4))"
    ∷ codes "stream.disc.SCons.SCons : !x0:'a. !x1:'a stream. stream.is_SCons{'a} (SCons{'a} x0 x1)"
    ∷ codes "stream.sel.shd : !x0:'a. !x1:'a stream. shd{'a} (SCons{'a} x0 x1) = x0"
    ∷ codes "stream.sel.stl : !x0:'a. !x1:'a stream. stl{'a} (SCons{'a} x0 x1) = x1"
    ∷ codes "stream.collapse.SCons : !x0:'a stream. stream.is_SCons{'a} x0 ==> (SCons{'a} (shd{'a} x0) (stl{'a} x0) = x0)"
    ∷ codes "stream.map.SCons : !x0:'a -> 'x1. !x1:'a. !x2:'a stream. stream.map{'a,'x1} x0 (SCons{'a} x1 x2) = SCons{'x1} (x0 x1) (stream.map{'a,'x1} x0 x2)"
    ∷ codes "stream.set1.SCons : !x0:'a. !x1:'a stream. !x2:'a. stream.set1{'a} (SCons{'a} x0 x1) x2 = ((x2 = x0) \\/ stream.set1{'a} x1 x2)"
    ∷ codes "stream.rel_inject.SCons : !x0:'a -> 'x1 -> bool. !x1:'a. !x2:'a stream. !x3:'x1. !x4:'x1 stream. stream.rel{'a,'x1} x0 (SCons{'a} x1 x2) (SCons{'x1} x3 x4) = (x0 x1 x3 /\\ stream.rel{'a,'x1} x0 x2 x4)"
    ∷ codes "stream.map_id : !x0:'a stream. stream.map{'a,'a} id{'a} x0 = x0"
    ∷ codes "stream.map_comp : !x0:'a -> 'x1. !x1:'x1 -> 'x5. !x2:'a stream. stream.map{'x1,'x5} x1 (stream.map{'a,'x1} x0 x2) = stream.map{'a,'x5} (fun.map{'x1,'x5,'a} x1 x0) x2"
    ∷ codes "stream.map_cong : !x0:'a -> 'x1. !x1:'a -> 'x1. !x2:'a stream. (!x3:'a. stream.set1{'a} x2 x3 ==> (x0 x3 = x1 x3)) ==> (stream.map{'a,'x1} x0 x2 = stream.map{'a,'x1} x1 x2)"
    ∷ codes "stream.set1_map : !x0:'a -> 'x1. !x1:'a stream. !x2:'x1. stream.set1{'x1} (stream.map{'a,'x1} x0 x1) x2 = (?x3:'a. stream.set1{'a} x1 x3 /\\ (x2 = x0 x3))"
    ∷ codes "stream.set1_count : !x0:'a stream. countable{'a} (stream.set1{'a} x0)"
    ∷ codes "stream.rel_comp : !x0:'a -> 'x1 -> bool. !x1:'x1 -> 'x5 -> bool. !x2:'a stream. !x3:'x5 stream. stream.rel{'a,'x5} (\\x4:'a. \\x5:'x5. ?x6:'x1. x0 x4 x6 /\\ x1 x6 x5) x2 x3 = (?x4:'x1 stream. stream.rel{'a,'x1} x0 x2 x4 /\\ stream.rel{'x1,'x5} x1 x4 x3)"
    ∷ codes "stream.rel_in : !x0:'a -> 'x1 -> bool. !x1:'a stream. !x2:'x1 stream. stream.rel{'a,'x1} x0 x1 x2 = (?x3:('a,'x1) prod stream. (!x4:('a,'x1) prod. stream.set1{('a,'x1) prod} x3 x4 ==> x0 (fst{'a,'x1} x4) (snd{'a,'x1} x4)) /\\ ((stream.map{('a,'x1) prod,'a} fst{'a,'x1} x3 = x1) /\\ (stream.map{('a,'x1) prod,'x1} snd{'a,'x1} x3 = x2)))"
    ∷ codes "stream.coinduct : !x0:'a stream -> 'a stream -> bool. (!x1:'a stream. !x2:'a stream. x0 x1 x2 ==> (?x3:'a. ?x4:'a stream. ?x5:'a. ?x6:'a stream. (x1 = SCons{'a} x3 x4) /\\ ((x2 = SCons{'a} x5 x6) /\\ ((x3 = x5) /\\ x0 x4 x6)))) ==> (!x1:'a stream. !x2:'a stream. x0 x1 x2 ==> (x1 = x2))"
    ∷ codes "stream.ctor.SCons : !x0:'a. !x1:'a stream. stream.ctor{'a} (pair{'a,'a stream} x0 x1) = SCons{'a} x0 x1"
    ∷ codes "stream.corec : !x0:'x1 -> ('a,('a stream,'x1) sum) prod. !x1:'x1. stream.corec{'x1,'a} x0 x1 = stream.ctor{'a} (prod.map{'a,'a,('a stream,'x1) sum,'a stream} id{'a} (sum.case{'a stream,'a stream,'x1} id{'a stream} (stream.corec{'x1,'a} x0)) (x0 x1))"
    ∷ []
