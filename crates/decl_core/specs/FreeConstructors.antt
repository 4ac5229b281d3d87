-- The facts that a declared type shares with every type that has free constructors: on its constructors, its case function, its
-- discriminators and its selectors. In the comments T is the type, C and D are constructors of it, and xs are the arguments of one.
use Rattle.std.specs.Prelude.{ℕ, ◌==◌, ◌&&◌, not, length, Bool, List, [], ◌∷◌, ◌++◌, map, flat_map, unwrap_or, is_some, if◌then◌else◌, bytes_eq, codes}
use Rattle.std.specs.List.{list_all}
use Rattle.hol_terms.specs.Name.{Name}
use Rattle.hol_terms.specs.Tm.{Tm, FreeVar, tm_free}
use Rattle.hol_terms.specs.Notation.{◌⇒◌, ◌·◌}
use Rattle.hol_terms.specs.Definition.{bool_ty}
use Rattle.stmt_core.specs.Formulas.{conj_of, imp_of, all_of}
use Rattle.decl_core.specs.Declaration.{Arg, Ctor, Decl, type_of, arg_types}
use Rattle.decl_core.specs.Statements.{Fact, when, for_some, ◌≐◌, ◌⟹◌, not_of, each_from, flat_map_from, numbered, variables, variable, frees, function_ty, applied, call, equations, result_ty}

-- ---- what the statements speak of

-- variables for the arguments of C
abbrev pub xs : Ctor → List FreeVar
xs c = variables (codes "x") (arg_types c)

abbrev pub ys : Ctor → List FreeVar
ys c = variables (codes "y") (arg_types c)

abbrev pub has_args : Ctor → Bool
has_args c = not (length c.args == 0)

-- `C ts`
abbrev pub value : Decl → Ctor → List Tm → Tm
value d c ts = call c.name ts (type_of d)

-- `C xs` and `C ys`
abbrev pub of_xs : Decl → Ctor → Tm
of_xs d c = value d c (frees (xs c))

abbrev pub of_ys : Decl → Ctor → Tm
of_ys d c = value d c (frees (ys c))

-- `T.is_C v`
abbrev pub is_of : Decl → Ctor → Tm → Tm
is_of d c v = call (d.name ++ codes ".is_" ++ c.name) (v ∷ []) bool_ty

-- f1, f2 and so on: for each constructor a function of its arguments
abbrev pub branch : ℕ → Ctor → FreeVar
branch k c = numbered (codes "f") k (function_ty (arg_types c) result_ty)

abbrev pub fs : Decl → List FreeVar
fs d = each_from branch 1 d.ctors

-- `f xs` for the function of C, which is the k-th constructor
abbrev pub branch_xs : ℕ → Ctor → Tm
branch_xs k c = applied (tm_free (branch k c)) (frees (xs c))

-- `T.case fs v`
abbrev pub case_of : Decl → Tm → Tm
case_of d v = call (d.name ++ codes ".case") (frees (fs d) ++ v ∷ []) result_ty

-- any value t of the type, a proposition p, and a property P of results
abbrev pub t : Decl → FreeVar
t d = variable (codes "t") (type_of d)

abbrev pub p : FreeVar
p = variable (codes "p") bool_ty

abbrev pub P : FreeVar
P = variable (codes "P") (result_ty ⇒ bool_ty)

-- ---- 1. Two values of a constructor are equal where their arguments are

-- `!xs ys. (C xs = C ys) = (x1 = y1 /\ x2 = y2 ..)`
abbrev pub inject : Decl → Ctor → Tm
inject d c = all_of (xs c) (all_of (ys c) ((of_xs d c ≐ of_ys d c) ≐ conj_of (equations (frees (xs c)) (frees (ys c)))))

-- T.inject.C for each C with arguments
abbrev pub inject_fact : Decl → Ctor → Fact
inject_fact d c = (d.name ++ codes ".inject." ++ c.name, inject d c)

abbrev pub inject_facts : Decl → List Fact
inject_facts d = flat_map (λ c. when (has_args c) (inject_fact d c)) d.ctors

-- ---- 2. Values of different constructors are different

-- `!xs ys. ~ (C xs = D ys)`
abbrev pub distinct : Decl → Ctor → Ctor → Tm
distinct d c e = all_of (xs c) (all_of (ys e) (not_of (of_xs d c ≐ of_ys d e)))

-- T.distinct.C.D for each C and each D behind it
abbrev pub distinct_fact : Decl → Ctor → Ctor → Fact
distinct_fact d c e = (d.name ++ codes ".distinct." ++ c.name ++ codes "." ++ e.name, distinct d c e)

abbrev pub distinct_from : Decl → List Ctor → List Fact
distinct_from d [] = []
distinct_from d (c ∷ cs) = map (distinct_fact d c) cs ++ distinct_from d cs

abbrev pub distinct_facts : Decl → List Fact
distinct_facts d = distinct_from d d.ctors

-- ---- 3. There are no other values than those of the constructors

-- `!t p. (!xs. (t = C xs) ==> p) ==> .. ==> p`, with a premise for each C
abbrev pub case_premise : Decl → Ctor → Tm
case_premise d c = all_of (xs c) ((tm_free (t d) ≐ of_xs d c) ⟹ tm_free p)

abbrev pub exhaust : Decl → Tm
exhaust d = all_of (t d ∷ p ∷ []) (imp_of (map (case_premise d) d.ctors) (tm_free p))

-- T.exhaust
abbrev pub exhaust_facts : Decl → List Fact
exhaust_facts d = (d.name ++ codes ".exhaust", exhaust d) ∷ []

-- ---- 4. The case function calls the function of the value's constructor

-- `!fs xs. T.case fs (C xs) = f xs`
abbrev pub case_at : Decl → ℕ → Ctor → Tm
case_at d k c = all_of (fs d) (all_of (xs c) (case_of d (of_xs d c) ≐ branch_xs k c))

-- T.case.C for each C
abbrev pub case_fact : Decl → ℕ → Ctor → Fact
case_fact d k c = (d.name ++ codes ".case." ++ c.name, case_at d k c)

abbrev pub case_facts : Decl → List Fact
case_facts d = each_from (case_fact d) 1 d.ctors

-- ---- 5. What holds of a case function's result holds in each case

-- `!P fs t. P (T.case fs t) = ((!xs. (t = C xs) ==> P (f xs)) /\ ..)`, with a part for each C
abbrev pub split_part : Decl → ℕ → Ctor → Tm
split_part d k c = all_of (xs c) ((tm_free (t d) ≐ of_xs d c) ⟹ (tm_free P · branch_xs k c))

abbrev pub split : Decl → Tm
split d = all_of (P ∷ []) (all_of (fs d) (all_of (t d ∷ []) ((tm_free P · case_of d (tm_free (t d))) ≐ conj_of (each_from (split_part d) 1 d.ctors))))

-- T.split
abbrev pub split_facts : Decl → List Fact
split_facts d = (d.name ++ codes ".split", split d) ∷ []

-- ---- 6. A discriminator holds of the values of its constructor alone

-- `!xs. T.is_C (C xs)`, and `!xs. ~ T.is_C (D xs)` for another D
abbrev pub disc : Decl → Ctor → Ctor → Tm
disc d c e = all_of (xs e) (if bytes_eq c.name e.name then is_of d c (of_xs d e) else not_of (is_of d c (of_xs d e)))

-- T.disc.C.D for all C and D
abbrev pub disc_fact : Decl → Ctor → Ctor → Fact
disc_fact d c e = (d.name ++ codes ".disc." ++ c.name ++ codes "." ++ e.name, disc d c e)

abbrev pub disc_facts : Decl → List Fact
disc_facts d = flat_map (λ c. map (disc_fact d c) d.ctors) d.ctors

-- ---- 7. A selector gives its argument

-- `!xs. s (C xs) = x`, x being the k-th of xs
abbrev pub sel : Decl → Ctor → ℕ → Arg → Name → Tm
sel d c k a s = all_of (xs c) (call s (of_xs d c ∷ []) a.ty ≐ tm_free (numbered (codes "x") k a.ty))

-- T.sel.s for each selector s
abbrev pub sel_fact : Decl → Ctor → ℕ → Arg → Name → Fact
sel_fact d c k a s = (d.name ++ codes ".sel." ++ s, sel d c k a s)

abbrev pub sel_facts_of : Decl → Ctor → ℕ → Arg → List Fact
sel_facts_of d c k a = for_some (sel_fact d c k a) a.selector

abbrev pub sel_facts : Decl → List Fact
sel_facts d = flat_map (λ c. flat_map_from (sel_facts_of d c) 1 c.args) d.ctors

-- ---- 8. A value is made again of what its selectors give

-- `!t. T.is_C t ==> (C (s1 t) (s2 t) .. = t)`
abbrev pub selection : Decl → Arg → Tm
selection d a = call (unwrap_or a.selector []) (tm_free (t d) ∷ []) a.ty

abbrev pub collapse : Decl → Ctor → Tm
collapse d c = all_of (t d ∷ []) (is_of d c (tm_free (t d)) ⟹ (value d c (map (selection d) c.args) ≐ tm_free (t d)))

-- T.collapse.C for each C with arguments that all have selectors
abbrev pub have_selectors : List Arg → Bool
have_selectors args = list_all (λ a. is_some a.selector) args

abbrev pub collapse_fact : Decl → Ctor → Fact
collapse_fact d c = (d.name ++ codes ".collapse." ++ c.name, collapse d c)

abbrev pub collapse_facts : Decl → List Fact
collapse_facts d = flat_map (λ c. when (has_args c && have_selectors c.args) (collapse_fact d c)) d.ctors

-- ---- all of them, in this order
abbrev pub free_constructor_facts : Decl → List Fact
free_constructor_facts d =
    inject_facts d ++ distinct_facts d ++ exhaust_facts d ++ case_facts d ++ split_facts d ++ disc_facts d ++ sel_facts d ++ collapse_facts d
