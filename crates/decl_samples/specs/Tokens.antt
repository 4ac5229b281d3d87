-- `datatype tok = Num num | Plus | Times | Open | Close | Name (num -> bool);` and its facts in canonical text.
use Rattle.std.specs.Prelude.{List, [], ◌∷◌, None, codes}
use Rattle.hol_terms.specs.Ty.{ty_app, tys}
use Rattle.hol_terms.specs.Notation.{◌⇒◌}
use Rattle.hol_terms.specs.Text.{Text}
use Rattle.decl_core.specs.Declaration.{Decl}
use Rattle.decl_core.specs.Statements.{Fact}
use Rattle.decl_core.specs.Functors.{basic_lives}
use Rattle.decl_core.specs.Liveness.{with_group}
use Rattle.decl_core.specs.CharacteristicList.{datatype_facts}

abbrev pub declared : List Decl
declared =
    record {
      params = [];
      name = codes "tok";
      ctors = (
          record { name = codes "Num"; args = (record { selector = None; ty = (ty_app (codes "num") (tys [])) } ∷ []) } ∷
          record { name = codes "Plus"; args = [] } ∷
          record { name = codes "Times"; args = [] } ∷
          record { name = codes "Open"; args = [] } ∷
          record { name = codes "Close"; args = [] } ∷
          record { name = codes "Name"; args = (record { selector = None; ty = ((ty_app (codes "num") (tys [])) ⇒ (ty_app (codes "bool") (tys []))) } ∷ []) } ∷ []);
    }
    ∷ []

abbrev pub facts : List Fact
facts = datatype_facts (with_group basic_lives declared) declared

unfoldable pub lines : List Text
lines =
    codes "tok.inject.Num : !x0:num. !x1:num. (Num x0 = Num x1) = (x0 = x1)"
    ∷ codes "tok.inject.Name : !x0:num -> bool. !x1:num -> bool. (Name x0 = Name x1) = (x0 = x1)"
    ∷ codes "tok.distinct.Num.Plus : !x0:num. ~ (Num x0 = Plus)"
    ∷ codes "tok.distinct.Num.Times : !x0:num. ~ (Num x0 = Times)"
    ∷ codes "tok.distinct.Num.Open : !x0:num. ~ (Num x0 = Open)"
    ∷ codes "tok.distinct.Num.Close : !x0:num. ~ (Num x0 = Close)"
    ∷ codes "tok.distinct.Num.Name : !x0:num. !x1:num -> bool. ~ (Num x0 = Name x1)"
    ∷ codes "tok.distinct.Plus.Times : ~ (Plus = Times)"
    ∷ codes "tok.distinct.Plus.Open : ~ (Plus = Open)"
    ∷ codes "tok.distinct.Plus.Close : ~ (Plus = Close)"
    ∷ codes "tok.distinct.Plus.Name : !x0:num -> bool. ~ (Plus = Name x0)"
    ∷ codes "tok.distinct.Times.Open : ~ (Times = Open)"
    ∷ codes "tok.distinct.Times.Close : ~ (Times = Close)"
    ∷ codes "tok.distinct.Times.Name : !x0:num -> bool. ~ (Times = Name x0)"
    ∷ codes "tok.distinct.Open.Close : ~ (Open = Close)"
    ∷ codes "tok.distinct.Open.Name : !x0:num -> bool. ~ (Open = Name x0)"
    ∷ codes "tok.distinct.Close.Name : !x0:num -> bool. ~ (Close = Name x0)"
    ∷ codes "tok.exhaust : !x0:tok. !x1:bool. (!x2:num. (x0 = Num x2) ==> x1) ==> (((x0 = Plus) ==> x1) ==> (((x0 = Times) ==> x1) ==> (((x0 = Open) ==> x1) ==> (((x0 = Close) ==> x1) ==> ((!x2:num -> bool. (x0 = Name x2) ==> x1) ==> x1)))))"
    ∷ codes "tok.case.Num : !x0:num -> 'x1. !x1:'x1. !x2:'x1. !x3:'x1. !x4:'x1. !x5:(num -> bool) -> 'x1. !x6:num. tok.case{'x1} x0 x1 x2 x3 x4 x5 (Num x6) = x0 x6"
    ∷ codes "tok.case.Plus : !x0:num -> 'x1. !x1:'x1. !x2:'x1. !x3:'x1. !x4:'x1. !x5:(num -> bool) -> 'x1. tok.case{'x1} x0 x1 x2 x3 x4 x5 Plus = x1"
    ∷ codes "tok.case.Times : !x0:num -> 'x1. !x1:'x1. !x2:'x1. !x3:'x1. !x4:'x1. !x5:(num -> bool) -> 'x1. tok.case{'x1} x0 x1 x2 x3 x4 x5 Times = x2"
    ∷ codes "tok.case.Open : !x0:num -> 'x1. !x1:'x1. !x2:'x1. !x3:'x1. !x4:'x1. !x5:(num -> bool) -> 'x1. tok.case{'x1} x0 x1 x2 x3 x4 x5 Open = x3"
    ∷ codes "tok.case.Close : !x0:num -> 'x1. !x1:'x1. !x2:'x1. !x3:'x1. !x4:'x1. !x5:(num -> bool) -> 'x1. tok.case{'x1} x0 x1 x2 x3 x4 x5 Close = x4"
    ∷ codes "tok.case.Name : !x0:num -> 'x1. !x1:'x1. !x2:'x1. !x3:'x1. !x4:'x1. !x5:(num -> bool) -> 'x1. !x6:num -> bool. tok.case{'x1} x0 x1 x2 x3 x4 x5 (Name x6) = x5 x6"
    ∷ codes "tok.split : !x0:'x1 -> bool. !x1:num -> 'x1. !x2:'x1. !x3:'x1. !x4:'x1. !x5:'x1. !x6:(num -> bool) -> 'x1. !x7:tok. x0 (tok.case{'x1} x1 x2 x3 x4 x5 x6 x7) = ((!x8:num. (x7 = Num x8) ==> x0 (x1 x8)) /\\ (((x7 = Plus) ==> x0 x2) /\\ (((x7 = Times) ==> x0 x3) /\\ (((x7 = Open) ==> x0 x4) /\\ (((x7 = Close) ==> x0 x5) /\\ (!x8:num -> bool. (x7 = Name x8) ==> x0 (x6 x8)))))))"
    ∷ codes "tok.disc.Num.Num : !x0:num. tok.is_Num (Num x0)"
    ∷ codes "tok.disc.Num.Plus : ~ tok.is_Num Plus"
    ∷ codes "tok.disc.Num.Times : ~ tok.is_Num Times"
    ∷ codes "tok.disc.Num.Open : ~ tok.is_Num Open"
    ∷ codes "tok.disc.Num.Close : ~ tok.is_Num Close"
    ∷ codes "tok.disc.Num.Name : !x0:num -> bool. ~ tok.is_Num (Name x0)"
    ∷ codes "tok.disc.Plus.Num : !x0:num. ~ tok.is_Plus (Num x0)"
    ∷ codes "tok.disc.Plus.Plus : tok.is_Plus Plus"
    ∷ codes "tok.disc.Plus.Times : ~ tok.is_Plus Times"
    ∷ codes "tok.disc.Plus.Open : ~ tok.is_Plus Open"
    ∷ codes "tok.disc.Plus.Close : ~ tok.is_Plus Close"
    ∷ codes "tok.disc.Plus.Name : !x0:num -> bool. ~ tok.is_Plus (Name x0)"
    ∷ codes "tok.disc.Times.Num : !x0:num. ~ tok.is_Times (Num x0)"
    ∷ codes "tok.disc.Times.Plus : ~ tok.is_Times Plus"
    ∷ codes "tok.disc.Times.Times : tok.is_Times Times"
    ∷ codes "tok.disc.Times.Open : ~ tok.is_Times Open"
    ∷ codes "tok.disc.Times.Close : ~ tok.is_Times Close"
    ∷ codes "tok.disc.Times.Name : !x0:num -> bool. ~ tok.is_Times (Name x0)"
    ∷ codes "tok.disc.Open.Num : !x0:num. ~ tok.is_Open (Num x0)"
    ∷ codes "tok.disc.Open.Plus : ~ tok.is_Open Plus"
    ∷ codes "tok.disc.Open.Times : ~ tok.is_Open Times"
    ∷ codes "tok.disc.Open.Open : tok.is_Open Open"
    ∷ codes "tok.disc.Open.Close : ~ tok.is_Open Close"
    ∷ codes "tok.disc.Open.Name : !x0:num -> bool. ~ tok.is_Open (Name x0)"
    ∷ codes "tok.disc.Close.Num : !x0:num. ~ tok.is_Close (Num x0)"
    ∷ codes "tok.disc.Close.Plus : ~ tok.is_Close Plus"
    ∷ codes "tok.disc.Close.Times : ~ tok.is_Close Times"
    ∷ codes "tok.disc.Close.Open : ~ tok.is_Close Open"
    ∷ codes "tok.disc.Close.Close : tok.is_Close Close"
    ∷ codes "tok.disc.Close.Name : !x0:num -> bool. ~ tok.is_Close (Name x0)"
    ∷ codes "tok.disc.Name.Num : !x0:num. ~ tok.is_Name (Num x0)"
    ∷ codes "tok.disc.Name.Plus : ~ tok.is_Name Plus"
    ∷ codes "tok.disc.Name.Times : ~ tok.is_Name Times"
    ∷ codes "tok.disc.Name.Open : ~ tok.is_Name Open"
    ∷ codes "tok.disc.Name.Close : ~ tok.is_Name Close"
    ∷ codes "tok.disc.Name.Name : !x0:num -> bool. tok.is_Name (Name x0)"
    ∷ codes "tok.induct : !x0:tok -> bool. (!x1:num. x0 (Num x1)) ==> (x0 Plus ==> (x0 Times ==> (x0 Open ==> (x0 Close ==> ((!x1:num -> bool. x0 (Name x1)) ==> (!x1:tok. x0 x1))))))"
    ∷ codes "tok.rec.Num : !x0:num -> 'x1. !x1:'x1. !x2:'x1. !x3:'x1. !x4:'x1. !x5:(num -> bool) -> 'x1. !x6:num. tok.rec{'x1} x0 x1 x2 x3 x4 x5 (Num x6) = x0 x6"
    ∷ codes "tok.rec.Plus : !x0:num -> 'x1. !x1:'x1. !x2:'x1. !x3:'x1. !x4:'x1. !x5:(num -> bool) -> 'x1. tok.rec{'x1} x0 x1 x2 x3 x4 x5 Plus = x1"
    ∷ codes "tok.rec.Times : !x0:num -> 'x1. !x1:'x1. !x2:'x1. !x3:'x1. !x4:'x1. !x5:(num -> bool) -> 'x1. tok.rec{'x1} x0 x1 x2 x3 x4 x5 Times = x2"
    ∷ codes "tok.rec.Open : !x0:num -> 'x1. !x1:'x1. !x2:'x1. !x3:'x1. !x4:'x1. !x5:(num -> bool) -> 'x1. tok.rec{'x1} x0 x1 x2 x3 x4 x5 Open = x3"
    ∷ codes "tok.rec.Close : !x0:num -> 'x1. !x1:'x1. !x2:'x1. !x3:'x1. !x4:'x1. !x5:(num -> bool) -> 'x1. tok.rec{'x1} x0 x1 x2 x3 x4 x5 Close = x4"
    ∷ codes "tok.rec.Name : !x0:num -> 'x1. !x1:'x1. !x2:'x1. !x3:'x1. !x4:'x1. !x5:(num -> bool) -> 'x1. !x6:num -> bool. tok.rec{'x1} x0 x1 x2 x3 x4 x5 (Name x6) = x5 x6"
    ∷ []
