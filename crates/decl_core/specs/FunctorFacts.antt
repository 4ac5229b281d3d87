-- The facts that a declared type with live parameters has as a functor of them. In the comments T is the type, C and D are
-- constructors, and xs and ys are their arguments; fs and gs are functions and rs and ss relations, one for each live parameter.
use Rattle.std.specs.Prelude.{ℕ, ◌+◌, Bool, if◌then◌else◌, not, bytes_eq, List, [], ◌∷◌, ◌++◌, map, flat_map, zip, decimal, codes}
use Rattle.hol_terms.specs.Name.{Name}
use Rattle.hol_terms.specs.Ty.{Ty, ty_var, ty_app, tys}
use Rattle.hol_terms.specs.Tm.{Tm, FreeVar, tm_free}
use Rattle.hol_terms.specs.Typing.{domain_ty, range_ty}
use Rattle.hol_terms.specs.Subst.{TySubst, ty_subst}
use Rattle.hol_terms.specs.Notation.{◌·◌}
use Rattle.hol_terms.specs.Rules.{lambda}
use Rattle.hol_terms.specs.Base.{const_id, const_fst, const_snd, const_fun_map, const_countable}
use Rattle.stmt_core.specs.Formulas.{conj_of, disj_of, imp_of, all_of, ex_of}
use Rattle.decl_core.specs.Declaration.{Ctor, Decl, arg_types}
use Rattle.decl_core.specs.Statements.{Fact, when, ◌≐◌, ◌⟹◌, not_of, flat_map_from, variables, variable, frees, applied, call}
use Rattle.decl_core.specs.FreeConstructors.{xs, of_xs}
use Rattle.decl_core.specs.Functors.{Lives, lives_of, live_among, functions, relations, map_const, rel_const, set_const, Names, has_name, map_at, mem_term, rel_term}

-- ---- the type at its parameters, at their targets and at second targets

abbrev pub lives : Lives → Decl → List Bool
lives ls d = lives_of ls d.name

-- the numbers of the live parameters, from 1
abbrev pub live_numbers : Lives → Decl → List ℕ
live_numbers ls d = flat_map_from (λ k l. when l k) 1 (lives ls d)

-- F of its number for a live parameter, and the others as they are
abbrev pub at_live : (ℕ → Ty) → ℕ → List Bool → List Name → List Ty
at_live F k [] ps = map ty_var ps
at_live F k (l ∷ ls) [] = []
at_live F k (l ∷ ls) (p ∷ ps) = (if l then F k else ty_var p) ∷ at_live F (k + 1) ls ps

abbrev pub sources : Decl → List Ty
sources d = map ty_var d.params

-- the target of the k-th parameter is the type variable 'xk, and its second target is that of k + 4
abbrev pub targets : Lives → Decl → List Ty
targets ls d = at_live (λ k. ty_var (codes "x" ++ decimal k)) 1 (lives ls d) d.params

abbrev pub second_targets : Lives → Decl → List Ty
second_targets ls d = at_live (λ k. ty_var (codes "x" ++ decimal (k + 4))) 1 (lives ls d) d.params

abbrev pub type_with : Decl → List Ty → Ty
type_with d args = ty_app d.name (tys args)

-- a type with targets for the parameters
abbrev pub pairs_with : List Name → List Ty → TySubst
pairs_with [] bs = []
pairs_with (p ∷ ps) [] = []
pairs_with (p ∷ ps) (b ∷ bs) = (p, b) ∷ pairs_with ps bs

abbrev pub at_targets : Lives → Decl → Ty → Ty
at_targets ls d a = ty_subst (pairs_with d.params (targets ls d)) a

-- functions and relations of the live among these arguments
abbrev pub functions_between : Name → Lives → Decl → List Ty → List Ty → List FreeVar
functions_between letter ls d as₁ as₂ = variables letter (functions (live_among (lives ls d) as₁) (live_among (lives ls d) as₂))

abbrev pub relations_between : Name → Lives → Decl → List Ty → List Ty → List FreeVar
relations_between letter ls d as₁ as₂ = variables letter (relations (live_among (lives ls d) as₁) (live_among (lives ls d) as₂))

abbrev pub fs : Lives → Decl → List FreeVar
fs ls d = functions_between (codes "f") ls d (sources d) (targets ls d)

abbrev pub gs : Lives → Decl → List FreeVar
gs ls d = functions_between (codes "g") ls d (targets ls d) (second_targets ls d)

abbrev pub rs : Lives → Decl → List FreeVar
rs ls d = relations_between (codes "r") ls d (sources d) (targets ls d)

abbrev pub ss : Lives → Decl → List FreeVar
ss ls d = relations_between (codes "s") ls d (targets ls d) (second_targets ls d)

-- `T.map hs v`, `T.rel qs v w` and `T.setI v`, from some arguments of T to others
abbrev pub map_of : Lives → Decl → List Ty → List Ty → List Tm → Tm → Tm
map_of ls d as₁ as₂ hs v = applied (map_const d.name (lives ls d) as₁ as₂) (hs ++ v ∷ [])

abbrev pub rel_of : Lives → Decl → List Ty → List Ty → List Tm → Tm → Tm → Tm
rel_of ls d as₁ as₂ qs v w = applied (rel_const d.name (lives ls d) as₁ as₂) (qs ++ v ∷ w ∷ [])

abbrev pub set_of : Decl → ℕ → List Ty → Ty → Tm → Tm
set_of d k as₁ a v = set_const d.name k as₁ a · v

abbrev pub map_fs : Lives → Decl → Tm → Tm
map_fs ls d v = map_of ls d (sources d) (targets ls d) (frees (fs ls d)) v

abbrev pub rel_rs : Lives → Decl → Tm → Tm → Tm
rel_rs ls d v w = rel_of ls d (sources d) (targets ls d) (frees (rs ls d)) v w

-- terms for the live parameters
abbrev pub for_live : Lives → Decl → List FreeVar → Names
for_live ls d vs = zip (live_among (lives ls d) (sources d)) (frees vs)

abbrev pub t : Decl → FreeVar
t d = variable (codes "t") (type_with d (sources d))

abbrev pub u : Decl → List Ty → FreeVar
u d args = variable (codes "u") (type_with d args)

abbrev pub w : Decl → List Ty → FreeVar
w d args = variable (codes "w") (type_with d args)

-- ---- 9. The map goes through a constructor

abbrev pub images : Lives → Names → List Ty → List FreeVar → List Tm
images ls g [] vs = []
images ls g (a ∷ rest) [] = []
images ls g (a ∷ rest) (v ∷ vs) = map_at ls g a (tm_free v) ∷ images ls g rest vs

-- `!fs xs. T.map fs (C xs) = C` of the images of xs
abbrev pub map_ctor : Lives → Decl → Ctor → Tm
map_ctor ls d c = all_of (fs ls d) (all_of (xs c) (map_fs ls d (of_xs d c) ≐ call c.name (images ls (for_live ls d (fs ls d)) (arg_types c) (xs c)) (type_with d (targets ls d))))

-- T.map.C for each C
abbrev pub map_facts : Lives → Decl → List Fact
map_facts ls d = map (λ c. (d.name ++ codes ".map." ++ c.name, map_ctor ls d c)) d.ctors

-- ---- 10. The members of a value of a constructor are those of its arguments

abbrev pub members : Lives → Ty → List Ty → List FreeVar → Tm → List Tm
members ls a [] vs y = []
members ls a (b ∷ rest) [] y = []
members ls a (b ∷ rest) (v ∷ vs) y = when (has_name a b) (mem_term ls a b (tm_free v) y) ++ members ls a rest vs y

-- `!xs y. T.setI (C xs) y =` y is a member of one of xs
abbrev pub set_ctor : Lives → Decl → ℕ → Ty → Ctor → Tm
set_ctor ls d k a c =
    let y = variable (codes "y") a in
    all_of (xs c) (all_of (y ∷ []) ((set_of d k (sources d) a (of_xs d c) · tm_free y) ≐ disj_of (members ls a (arg_types c) (xs c) (tm_free y))))

-- T.setI.C for the I-th parameter, where it is live, and each C
abbrev pub set_facts : Lives → Decl → List Fact
set_facts ls d =
    flat_map (λ e. map (λ c. (d.name ++ codes ".set" ++ decimal e.0 ++ codes "." ++ c.name, set_ctor ls d e.0 e.1 c)) d.ctors)
    (zip (live_numbers ls d) (live_among (lives ls d) (sources d)))

-- ---- 11. Values of a constructor are related where their arguments are

abbrev pub ys : Lives → Decl → Ctor → List FreeVar
ys ls d c = variables (codes "y") (map (at_targets ls d) (arg_types c))

-- `D ys`
abbrev pub of_ys : Lives → Decl → Ctor → Tm
of_ys ls d c = call c.name (frees (ys ls d c)) (type_with d (targets ls d))

abbrev pub relates : Lives → Names → List Ty → List FreeVar → List FreeVar → List Tm
relates ls r [] vs vs₂ = []
relates ls r (a ∷ rest) [] vs₂ = []
relates ls r (a ∷ rest) (x ∷ vs) [] = []
relates ls r (a ∷ rest) (x ∷ vs) (y ∷ vs₂) = (rel_term ls r a · tm_free x · tm_free y) ∷ relates ls r rest vs vs₂

-- `!rs xs ys. T.rel rs (C xs) (C ys) =` xs and ys are related
abbrev pub rel_inject : Lives → Decl → Ctor → Tm
rel_inject ls d c =
    all_of (rs ls d) (all_of (xs c) (all_of (ys ls d c) (rel_rs ls d (of_xs d c) (of_ys ls d c) ≐ conj_of (relates ls (for_live ls d (rs ls d)) (arg_types c) (xs c) (ys ls d c)))))

-- T.rel_inject.C for each C
abbrev pub rel_inject_facts : Lives → Decl → List Fact
rel_inject_facts ls d = map (λ c. (d.name ++ codes ".rel_inject." ++ c.name, rel_inject ls d c)) d.ctors

-- ---- 12. Values of different constructors are not related

-- `!rs xs ys. ~ T.rel rs (C xs) (D ys)`
abbrev pub rel_distinct : Lives → Decl → Ctor → Ctor → Tm
rel_distinct ls d c e = all_of (rs ls d) (all_of (xs c) (all_of (ys ls d e) (not_of (rel_rs ls d (of_xs d c) (of_ys ls d e)))))

-- T.rel_distinct.C.D for each C and each other D
abbrev pub rel_distinct_facts : Lives → Decl → List Fact
rel_distinct_facts ls d =
    flat_map (λ c. flat_map (λ e. when (not (bytes_eq c.name e.name)) (d.name ++ codes ".rel_distinct." ++ c.name ++ codes "." ++ e.name, rel_distinct ls d c e)) d.ctors) d.ctors

-- ---- 13. The laws of functors

-- `!t. T.map id t = t`
abbrev pub map_id : Lives → Decl → Tm
map_id ls d = all_of (t d ∷ []) (map_of ls d (sources d) (sources d) (map const_id (live_among (lives ls d) (sources d))) (tm_free (t d)) ≐ tm_free (t d))

-- the composition of two functions, `fun.map g f`
abbrev pub composed : FreeVar × FreeVar → Tm
composed e = const_fun_map (domain_ty e.0.ty) (range_ty e.0.ty) (domain_ty e.1.ty) · tm_free e.0 · tm_free e.1

-- `!fs gs t. T.map gs (T.map fs t) = T.map (fun.map g f ..) t`
abbrev pub map_comp : Lives → Decl → Tm
map_comp ls d =
    all_of (fs ls d) (all_of (gs ls d) (all_of (t d ∷ [])
    (map_of ls d (targets ls d) (second_targets ls d) (frees (gs ls d)) (map_fs ls d (tm_free (t d)))
    ≐ map_of ls d (sources d) (second_targets ls d) (map composed (zip (gs ls d) (fs ls d))) (tm_free (t d)))))

-- `!fs gs t. (!z. T.setI t z ==> (f z = g z)) ==> .. ==> (T.map fs t = T.map gs t)`
abbrev pub agree_on : Decl → ℕ × (FreeVar × FreeVar) → Tm
agree_on d e =
    let z = variable (codes "z") (domain_ty e.1.0.ty) in
    all_of (z ∷ []) ((set_of d e.0 (sources d) z.ty (tm_free (t d)) · tm_free z) ⟹ ((tm_free e.1.0 · tm_free z) ≐ (tm_free e.1.1 · tm_free z)))

abbrev pub map_cong : Lives → Decl → Tm
map_cong ls d =
    let hs = functions_between (codes "g") ls d (sources d) (targets ls d) in
    all_of (fs ls d) (all_of hs (all_of (t d ∷ []) (imp_of (map (agree_on d) (zip (live_numbers ls d) (zip (fs ls d) hs)))
    (map_fs ls d (tm_free (t d)) ≐ map_of ls d (sources d) (targets ls d) (frees hs) (tm_free (t d))))))

-- `!fs t y. T.setI (T.map fs t) y = (?z. T.setI t z /\ (y = f z))`
abbrev pub set_map : Lives → Decl → ℕ × FreeVar → Tm
set_map ls d e =
    let z = variable (codes "z") (domain_ty e.1.ty) in
    let y = variable (codes "y") (range_ty e.1.ty) in
    all_of (fs ls d) (all_of (t d ∷ y ∷ []) ((set_of d e.0 (targets ls d) y.ty (map_fs ls d (tm_free (t d))) · tm_free y)
    ≐ ex_of (z ∷ []) (conj_of ((set_of d e.0 (sources d) z.ty (tm_free (t d)) · tm_free z) ∷ (tm_free y ≐ (tm_free e.1 · tm_free z)) ∷ []))))

-- `!t. countable (T.setI t)`
abbrev pub set_count : Decl → ℕ × Ty → Tm
set_count d e = all_of (t d ∷ []) (const_countable e.1 · set_of d e.0 (sources d) e.1 (tm_free (t d)))

-- the composition of two relations, `\x. \z. ?y. r x y /\ s y z`
abbrev pub related_through : FreeVar × FreeVar → Tm
related_through e =
    let x = variable (codes "x") (domain_ty e.0.ty) in
    let y = variable (codes "y") (domain_ty e.1.ty) in
    let z = variable (codes "z") (domain_ty (range_ty e.1.ty)) in
    lambda x (lambda z (ex_of (y ∷ []) (conj_of ((tm_free e.0 · tm_free x · tm_free y) ∷ (tm_free e.1 · tm_free y · tm_free z) ∷ []))))

-- `!rs ss t u. T.rel (the compositions) t u = (?w. T.rel rs t w /\ T.rel ss w u)`
abbrev pub rel_comp : Lives → Decl → Tm
rel_comp ls d =
    let v = u d (second_targets ls d) in
    let m = w d (targets ls d) in
    all_of (rs ls d) (all_of (ss ls d) (all_of (t d ∷ v ∷ [])
    (rel_of ls d (sources d) (second_targets ls d) (map related_through (zip (rs ls d) (ss ls d))) (tm_free (t d)) (tm_free v)
    ≐ ex_of (m ∷ []) (conj_of (rel_rs ls d (tm_free (t d)) (tm_free m) ∷ rel_of ls d (targets ls d) (second_targets ls d) (frees (ss ls d)) (tm_free m) (tm_free v) ∷ [])))))

-- pairs of a source and its target, for live parameters
abbrev pub pair_ty : Ty → Ty → Ty
pair_ty a b = ty_app (codes "prod") (tys (a ∷ b ∷ []))

abbrev pub pairs_at : List Bool → List Ty → List Ty → List Ty
pairs_at [] as₁ as₂ = as₁
pairs_at (l ∷ ls) [] as₂ = []
pairs_at (l ∷ ls) (a ∷ as₁) [] = []
pairs_at (l ∷ ls) (a ∷ as₁) (b ∷ as₂) = (if l then pair_ty a b else a) ∷ pairs_at ls as₁ as₂

abbrev pub pairs : Lives → Decl → List Ty
pairs ls d = pairs_at (lives ls d) (sources d) (targets ls d)

-- `!z. T.setI w z ==> r (fst z) (snd z)`
abbrev pub related_pairs : Lives → Decl → ℕ × FreeVar → Tm
related_pairs ls d e =
    let a = domain_ty e.1.ty in
    let b = domain_ty (range_ty e.1.ty) in
    let z = variable (codes "z") (pair_ty a b) in
    all_of (z ∷ []) ((set_of d e.0 (pairs ls d) z.ty (tm_free (w d (pairs ls d))) · tm_free z) ⟹ (tm_free e.1 · (const_fst a b · tm_free z) · (const_snd a b · tm_free z)))

abbrev pub firsts : FreeVar → Tm
firsts r = const_fst (domain_ty r.ty) (domain_ty (range_ty r.ty))

abbrev pub seconds : FreeVar → Tm
seconds r = const_snd (domain_ty r.ty) (domain_ty (range_ty r.ty))

-- `!rs t u. T.rel rs t u = (?w. (!z. T.setI w z ==> r (fst z) (snd z)) /\ .. /\ T.map fst w = t /\ T.map snd w = u)`
abbrev pub rel_in : Lives → Decl → Tm
rel_in ls d =
    let v = u d (targets ls d) in
    let m = w d (pairs ls d) in
    all_of (rs ls d) (all_of (t d ∷ v ∷ []) (rel_rs ls d (tm_free (t d)) (tm_free v)
    ≐ ex_of (m ∷ []) (conj_of (map (related_pairs ls d) (zip (live_numbers ls d) (rs ls d))
    ++ (map_of ls d (pairs ls d) (sources d) (map firsts (rs ls d)) (tm_free m) ≐ tm_free (t d))
    ∷ (map_of ls d (pairs ls d) (targets ls d) (map seconds (rs ls d)) (tm_free m) ≐ tm_free v) ∷ []))))

abbrev pub law_facts : Lives → Decl → List Fact
law_facts ls d =
    (d.name ++ codes ".map_id", map_id ls d) ∷ (d.name ++ codes ".map_comp", map_comp ls d) ∷ (d.name ++ codes ".map_cong", map_cong ls d)
    ∷ (map (λ e. (d.name ++ codes ".set" ++ decimal e.0 ++ codes "_map", set_map ls d e)) (zip (live_numbers ls d) (fs ls d))
    ++ map (λ e. (d.name ++ codes ".set" ++ decimal e.0 ++ codes "_count", set_count d e)) (zip (live_numbers ls d) (live_among (lives ls d) (sources d)))
    ++ (d.name ++ codes ".rel_comp", rel_comp ls d) ∷ (d.name ++ codes ".rel_in", rel_in ls d) ∷ [])

-- ---- all of them, in this order. A type without live parameters has none
abbrev pub functor_facts : Lives → Decl → List Fact
functor_facts ls d = map_facts ls d ++ set_facts ls d ++ rel_inject_facts ls d ++ rel_distinct_facts ls d ++ law_facts ls d
