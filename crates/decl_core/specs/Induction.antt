-- Induction over the datatypes of a group, and coinduction over its codatatypes. In the comments T1, T2 and so on are the types of the
-- group, and l is one of them.
use Rattle.std.specs.Prelude.{List, [], ◌∷◌, ◌++◌, map, flat_map, zip, if◌then◌else◌, codes}
use Rattle.hol_terms.specs.Ty.{Ty}
use Rattle.hol_terms.specs.Tm.{Tm, FreeVar, tm_free}
use Rattle.hol_terms.specs.Notation.{◌⇒◌, ◌·◌}
use Rattle.hol_terms.specs.Definition.{bool_ty}
use Rattle.stmt_core.specs.Formulas.{conj_of, disj_of, imp_of, all_of, ex_of}
use Rattle.decl_core.specs.Declaration.{Ctor, Decl, type_of, arg_types}
use Rattle.decl_core.specs.Statements.{Fact, when, ◌≐◌, ◌⟹◌, variables, variable, frees}
use Rattle.decl_core.specs.FreeConstructors.{xs, ys, of_xs, of_ys, t}
use Rattle.decl_core.specs.Functors.{Lives, Names, same_type, has_name, mem_term}
use Rattle.decl_core.specs.FunctorFacts.{relates}

-- the types of the group
abbrev pub group_types : List Decl → List Ty
group_types ds = map type_of ds

-- a second value of the type
abbrev pub u : Decl → FreeVar
u d = variable (codes "u") (type_of d)

-- ---- induction

-- a property of each type of the group
abbrev pub properties : List Decl → List FreeVar
properties ds = variables (codes "P") (map (λ d. type_of d ⇒ bool_ty) ds)

-- what is known of an argument x for the type l: `P x` where x is of that type, and else `!z. (z is in x) ==> P z`
abbrev pub hypothesis : Lives → Ty → FreeVar → Ty × FreeVar → Tm
hypothesis ls a x e =
    let z = variable (codes "y") e.0 in
    if same_type e.0 a then tm_free e.1 · tm_free x else all_of (z ∷ []) (mem_term ls e.0 a (tm_free x) (tm_free z) ⟹ (tm_free e.1 · tm_free z))

-- for each argument, one for each type of the group that occurs in the argument's type
abbrev pub hypotheses : Lives → List (Ty × FreeVar) → List Ty → List FreeVar → List Tm
hypotheses ls Ps [] vs = []
hypotheses ls Ps (a ∷ rest) [] = []
hypotheses ls Ps (a ∷ rest) (x ∷ vs) = flat_map (λ e. when (has_name e.0 a) (hypothesis ls a x e)) Ps ++ hypotheses ls Ps rest vs

-- `!xs. H ==> .. ==> P (C xs)`
abbrev pub step : Lives → List (Ty × FreeVar) → Decl → FreeVar → Ctor → Tm
step ls Ps d P c = all_of (xs c) (imp_of (hypotheses ls Ps (arg_types c) (xs c)) (tm_free P · of_xs d c))

-- `!P1 P2 .. . (the steps of all constructors) ==> (!t. P1 t) /\ (!t. P2 t) /\ ..`
abbrev pub induct : Lives → List Decl → Tm
induct ls ds =
    let Ps = properties ds in
    all_of Ps (imp_of (flat_map (λ e. map (step ls (zip (group_types ds) Ps) e.0 e.1) e.0.ctors) (zip ds Ps))
    (conj_of (map (λ e. all_of (t e.0 ∷ []) (tm_free e.1 · tm_free (t e.0))) (zip ds Ps))))

-- ---- coinduction

-- a relation of each type of the group
abbrev pub bisimulations : List Decl → List FreeVar
bisimulations ds = variables (codes "R") (map (λ d. type_of d ⇒ type_of d ⇒ bool_ty) ds)

-- `?xs ys. t = C xs /\ u = C ys /\` xs and ys are related
abbrev pub same_ctor : Lives → Names → Decl → Ctor → Tm
same_ctor ls r d c =
    ex_of (xs c) (ex_of (ys c) (conj_of ((tm_free (t d) ≐ of_xs d c) ∷ (tm_free (u d) ≐ of_ys d c) ∷ relates ls r (arg_types c) (xs c) (ys c))))

-- `!t u. R t u ==> (the same constructor made both) \/ ..`
abbrev pub destruct : Lives → Names → Decl × FreeVar → Tm
destruct ls r e = all_of (t e.0 ∷ u e.0 ∷ []) ((tm_free e.1 · tm_free (t e.0) · tm_free (u e.0)) ⟹ disj_of (map (same_ctor ls r e.0) e.0.ctors))

-- `!R1 R2 .. . (what they say of each type) ==> (!t u. R1 t u ==> (t = u)) /\ ..`
abbrev pub coinduct : Lives → List Decl → Tm
coinduct ls ds =
    let Rs = bisimulations ds in
    all_of Rs (imp_of (map (destruct ls (zip (group_types ds) (frees Rs))) (zip ds Rs))
    (conj_of (map (λ e. all_of (t e.0 ∷ u e.0 ∷ []) ((tm_free e.1 · tm_free (t e.0) · tm_free (u e.0)) ⟹ (tm_free (t e.0) ≐ tm_free (u e.0)))) (zip ds Rs))))

-- T1.induct for datatypes, and T1.coinduct for codatatypes
abbrev pub induct_facts : Lives → List Decl → List Fact
induct_facts ls [] = []
induct_facts ls (d ∷ ds) = (d.name ++ codes ".induct", induct ls (d ∷ ds)) ∷ []

abbrev pub coinduct_facts : Lives → List Decl → List Fact
coinduct_facts ls [] = []
coinduct_facts ls (d ∷ ds) = (d.name ++ codes ".coinduct", coinduct ls (d ∷ ds)) ∷ []
