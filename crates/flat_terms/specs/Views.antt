-- What a node that was read says of the tree at its number. The parts of a type or a term have lower numbers.
use Rattle.std.specs.Prelude.{◌≡◌, ℕ, ◌<◌, List, [], ◌∷◌, Option, Some, None}
use Rattle.hol_terms.specs.Ty.{Ty, ty_var, ty_app, tys}
use Rattle.hol_terms.specs.Tm.{tm_index, tm_free, tm_const, tm_comb, tm_abs}
use Rattle.hol_terms.specs.Typing.{fun_ty}
use Rattle.hol_terms.specs.Takes.{Takes}
use Rattle.flat_terms.specs.Plain.{PlainTables, HasName, HasType, HasTypes, name_of, type_of, types_of, term_of}
use Rattle.flat_terms.specs.declared.nodes.TypeId.{TypeId}
use Rattle.flat_terms.specs.declared.nodes.TermId.{TermId}
use Rattle.flat_terms.specs.declared.nodes.TypeView.{TypeView}
use Rattle.flat_terms.specs.declared.nodes.TypeView.TheVariants.{Var, App}
use Rattle.flat_terms.specs.declared.nodes.TermView.{TermView}
use Rattle.flat_terms.specs.declared.nodes.TermView.TheVariants.{Index, Free, Const, Comb, Abs}

-- each number is below n
abbrev pub AreBelow : ℕ → List TypeId → Type 0
AreBelow n [] = Unit {0}
AreBelow n (a ∷ rest) = (a.0 < n) × AreBelow n rest

abbrev pub IsTypeView : PlainTables → TypeId → TypeView → Type 0
IsTypeView t y (Var n) = HasName t n × (type_of t y ≡ ty_var (name_of t n))
IsTypeView t y (App n args) = HasName t n × AreBelow y.0 args.now × (type_of t y ≡ ty_app (name_of t n) (tys (types_of t args.now)))

abbrev pub IsTermView : PlainTables → TermId → TermView → Type 0
IsTermView t m (Index i y) = HasType t y × (term_of t m ≡ tm_index i (type_of t y))
IsTermView t m (Free n y) = HasName t n × HasType t y × (term_of t m ≡ tm_free (record { name = name_of t n; ty = type_of t y }))
IsTermView t m (Const n args y) = HasName t n × HasTypes t args.now × HasType t y × (term_of t m ≡ tm_const (name_of t n) (types_of t args.now) (type_of t y))
IsTermView t m (Comb f x) = (f.0 < m.0) × (x.0 < m.0) × Takes (term_of t f) (term_of t x) × (term_of t m ≡ tm_comb (term_of t f) (term_of t x))
IsTermView t m (Abs a b) = HasType t a × (b.0 < m.0) × (term_of t m ≡ tm_abs (type_of t a) (term_of t b))

-- a and b are the numbers of the domain and the range
abbrev pub AreParts : PlainTables → Ty → TypeId → TypeId → Type 0
AreParts t y a b = HasType t a × HasType t b × (y ≡ fun_ty (type_of t a) (type_of t b))

-- the two items of a list of two
abbrev pub pair_of : List TypeId → Option (TypeId × TypeId)
pair_of [] = None
pair_of (a ∷ []) = None
pair_of (a ∷ b ∷ []) = Some (a, b)
pair_of (a ∷ b ∷ c ∷ rest) = None
