-- Short words to write terms with.
use Rattle.std.specs.Prelude.{ℕ, codes}
use Rattle.hol_terms.specs.Ty.{Ty, ty_var}
use Rattle.hol_terms.specs.Tm.{Tm, tm_index, tm_comb, tm_abs}
use Rattle.hol_terms.specs.Typing.{fun_ty}

infixr 40 ◌⇒◌
infixl 50 ◌·◌
-- the type of functions
abbrev pub ◌⇒◌ : Ty → Ty → Ty
a ⇒ b = fun_ty a b

-- an application
abbrev pub ◌·◌ : Tm → Tm → Tm
f · x = tm_comb f x

-- an index with its type
abbrev pub ix : ℕ → Ty → Tm
ix i t = tm_index i t

-- an abstraction
abbrev pub lam : Ty → Tm → Tm
lam t b = tm_abs t b

abbrev pub beta : Ty
beta = ty_var (codes "b")

abbrev pub gamma : Ty
gamma = ty_var (codes "c")

abbrev pub delta : Ty
delta = ty_var (codes "d")
