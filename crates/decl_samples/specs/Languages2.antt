-- `datatype exp = Var num | Lam typ exp | App exp exp | Lit num;` and its facts in canonical text.
use Rattle.std.specs.Prelude.{List, [], ◌∷◌, None, codes}
use Rattle.hol_terms.specs.Ty.{ty_app, tys}
use Rattle.hol_terms.specs.Text.{Text}
use Rattle.decl_core.specs.Declaration.{Decl}
use Rattle.decl_core.specs.Statements.{Fact}
use Rattle.decl_core.specs.Functors.{basic_lives}
use Rattle.decl_core.specs.Liveness.{with_group}
use Rattle.decl_core.specs.CharacteristicList.{datatype_facts}
use Rattle.decl_samples.specs.Languages1 as Languages1

abbrev pub declared : List Decl
declared =
    record {
      params = [];
      name = codes "exp";
      ctors = (
          record { name = codes "Var"; args = (record { selector = None; ty = (ty_app (codes "num") (tys [])) } ∷ []) } ∷
          record { name = codes "Lam"; args = (record { selector = None; ty = (ty_app (codes "typ") (tys [])) } ∷ record { selector = None; ty = (ty_app (codes "exp") (tys [])) } ∷ []) } ∷
          record { name = codes "App"; args = (record { selector = None; ty = (ty_app (codes "exp") (tys [])) } ∷ record { selector = None; ty = (ty_app (codes "exp") (tys [])) } ∷ []) } ∷
          record { name = codes "Lit"; args = (record { selector = None; ty = (ty_app (codes "num") (tys [])) } ∷ []) } ∷ []);
    }
    ∷ []

abbrev pub facts : List Fact
facts = datatype_facts (with_group (with_group basic_lives Languages1.declared) declared) declared

unfoldable pub lines : List Text
lines =
    codes "exp.inject.Var : !x0:num. !x1:num. (Var x0 = Var x1) = (x0 = x1)"
    ∷ codes "exp.inject.Lam : !x0:typ. !x1:exp. !x2:typ. !x3:exp. (Lam x0 x1 = Lam x2 x3) = ((x0 = x2) /\\ (x1 = x3))"
    ∷ codes "exp.inject.App : !x0:exp. !x1:exp. !x2:exp. !x3:exp. (App x0 x1 = App x2 x3) = ((x0 = x2) /\\ (x1 = x3))"
    ∷ codes "exp.inject.Lit : !x0:num. !x1:num. (Lit x0 = Lit x1) = (x0 = x1)"
    ∷ codes "exp.distinct.Var.Lam : !x0:num. !x1:typ. !x2:exp. ~ (Var x0 = Lam x1 x2)"
    ∷ codes "exp.distinct.Var.App : !x0:num. !x1:exp. !x2:exp. ~ (Var x0 = App x1 x2)"
    ∷ codes "exp.distinct.Var.Lit : !x0:num. !x1:num. ~ (Var x0 = Lit x1)"
    ∷ codes "exp.distinct.Lam.App : !x0:typ. !x1:exp. !x2:exp. !x3:exp. ~ (Lam x0 x1 = App x2 x3)"
    ∷ codes "exp.distinct.Lam.Lit : !x0:typ. !x1:exp. !x2:num. ~ (Lam x0 x1 = Lit x2)"
    ∷ codes "exp.distinct.App.Lit : !x0:exp. !x1:exp. !x2:num. ~ (App x0 x1 = Lit x2)"
    ∷ codes "exp.exhaust : !x0:exp. !x1:bool. (!x2:num. (x0 = Var x2) ==> x1) ==> ((!x2:typ. !x3:exp. (x0 = Lam x2 x3) ==> x1) ==> ((!x2:exp. !x3:exp. (x0 = App x2 x3) ==> x1) ==> ((!x2:num. (x0 = Lit x2) ==> x1) ==> x1)))"
    ∷ codes "exp.case.Var : !x0:num -> 'x1. !x1:typ -> exp -> 'x1. !x2:exp -> exp -> 'x1. !x3:num -> 'x1. !x4:num. exp.case{'x1} x0 x1 x2 x3 (Var x4) = x0 x4"
    ∷ codes "exp.case.Lam : !x0:num -> 'x1. !x1:typ -> exp -> 'x1. !x2:exp -> exp -> 'x1. !x3:num -> 'x1. !x4:typ. !x5:exp. exp.case{'x1} x0 x1 x2 x3 (Lam x4 x5) = x1 x4 x5"
    ∷ codes "exp.case.App : !x0:num -> 'x1. !x1:typ -> exp -> 'x1. !x2:exp -> exp -> 'x1. !x3:num -> 'x1. !x4:exp. !x5:exp. exp.case{'x1} x0 x1 x2 x3 (App x4 x5) = x2 x4 x5"
    ∷ codes "exp.case.Lit : !x0:num -> 'x1. !x1:typ -> exp -> 'x1. !x2:exp -> exp -> 'x1. !x3:num -> 'x1. !x4:num. exp.case{'x1} x0 x1 x2 x3 (Lit x4) = x3 x4"
    ∷ codes "exp.split : !x0:'x1 -> bool. !x1:num -> 'x1. !x2:typ -> exp -> 'x1. !x3:exp -> exp -> 'x1. !x4:num -> 'x1. !x5:exp. x0 (exp.case{'x1} x1 x2 x3 x4 x5) = ((!x6:num. (x5 = Var x6) ==> x0 (x1 x6)) /\\ ((!x6:typ. !x7:exp. (x5 = Lam x6 x7) ==> x0 (x2 x6 x7)) /\\ ((!x6:exp. !x7:exp. (x5 = App x6 x7) ==> x0 (x3 x6 x7)) /\\ (!x6:num. (x5 = Lit x6) ==> x0 (x4 x6)))))"
    ∷ codes "exp.disc.Var.Var : !x0:num. exp.is_Var (Var x0)"
    ∷ codes "exp.disc.Var.Lam : !x0:typ. !x1:exp. ~ exp.is_Var (Lam x0 x1)"
    ∷ codes "exp.disc.Var.App : !x0:exp. !x1:exp. ~ exp.is_Var (App x0 x1)"
    ∷ codes "exp.disc.Var.Lit : !x0:num. ~ exp.is_Var (Lit x0)"
    ∷ codes "exp.disc.Lam.Var : !x0:num. ~ exp.is_Lam (Var x0)"
    ∷ codes "exp.disc.Lam.Lam : !x0:typ. !x1:exp. exp.is_Lam (Lam x0 x1)"
    ∷ codes "exp.disc.Lam.App : !x0:exp. !x1:exp. ~ exp.is_Lam (App x0 x1)"
    ∷ codes "exp.disc.Lam.Lit : !x0:num. ~ exp.is_Lam (Lit x0)"
    ∷ codes "exp.disc.App.Var : !x0:num. ~ exp.is_App (Var x0)"
    ∷ codes "exp.disc.App.Lam : !x0:typ. !x1:exp. ~ exp.is_App (Lam x0 x1)"
    ∷ codes "exp.disc.App.App : !x0:exp. !x1:exp. exp.is_App (App x0 x1)"
    ∷ codes "exp.disc.App.Lit : !x0:num. ~ exp.is_App (Lit x0)"
    ∷ codes "exp.disc.Lit.Var : !x0:num. ~ exp.is_Lit (Var x0)"
    ∷ codes "exp.disc.Lit.Lam : !x0:typ. !x1:exp. ~ exp.is_Lit (Lam x0 x1)"
    ∷ codes "exp.disc.Lit.App : !x0:exp. !x1:exp. ~ exp.is_Lit (App x0 x1)"
    ∷ codes "exp.disc.Lit.Lit : !x0:num. exp.is_Lit (Lit x0)"
    ∷ codes "exp.induct : !x0:exp -> bool. (!x1:num. x0 (Var x1)) ==> ((!x1:typ. !x2:exp. x0 x2 ==> x0 (Lam x1 x2)) ==> ((!x1:exp. !x2:exp. x0 x1 ==> (x0 x2 ==> x0 (App x1 x2))) ==> ((!x1:num. x0 (Lit x1)) ==> (!x1:exp. x0 x1))))"
    ∷ codes "exp.rec.Var : !x0:num -> 'x1. !x1:typ -> (exp,'x1) prod -> 'x1. !x2:(exp,'x1) prod -> (exp,'x1) prod -> 'x1. !x3:num -> 'x1. !x4:num. exp.rec{'x1} x0 x1 x2 x3 (Var x4) = x0 x4"
    ∷ codes "exp.rec.Lam : !x0:num -> 'x1. !x1:typ -> (exp,'x1) prod -> 'x1. !x2:(exp,'x1) prod -> (exp,'x1) prod -> 'x1. !x3:num -> 'x1. !x4:typ. !x5:exp. exp.rec{'x1} x0 x1 x2 x3 (Lam x4 x5) = x1 x4 (pair{exp,'x1} x5 (exp.rec{'x1} x0 x1 x2 x3 x5))"
    ∷ codes "exp.rec.App : !x0:num -> 'x1. !x1:typ -> (exp,'x1) prod -> 'x1. !x2:(exp,'x1) prod -> (exp,'x1) prod -> 'x1. !x3:num -> 'x1. !x4:exp. !x5:exp. exp.rec{'x1} x0 x1 x2 x3 (App x4 x5) = x2 (pair{exp,'x1} x4 (exp.rec{'x1} x0 x1 x2 x3 x4)) (pair{exp,'x1} x5 (exp.rec{'x1} x0 x1 x2 x3 x5))"
    ∷ codes "exp.rec.Lit : !x0:num -> 'x1. !x1:typ -> (exp,'x1) prod -> 'x1. !x2:(exp,'x1) prod -> (exp,'x1) prod -> 'x1. !x3:num -> 'x1. !x4:num. exp.rec{'x1} x0 x1 x2 x3 (Lit x4) = x3 x4"
    ∷ []
