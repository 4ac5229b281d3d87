-- The base definitions among the kernel's.
use Rattle.std.proofs.Common.{◌≡◌, ℕ, refl, sym, subst, true, List, [], ◌∷◌, ◌++◌, Some, IsSomeAnd, slice_get}
use Rattle.hol_terms.specs.Definition.{Definition}
use Rattle.hol_terms.specs.Logic.{base_1, base_2, base_3, base_4, base_5, base_6, base_7, base_8, base_9, base_10}
use Rattle.hol_terms.specs.Base.{base, base_definitions}
use Rattle.hol_terms.specs.Sequent.{Sequent}
use Rattle.hol_terms.specs.Proves.{sequents_of}
use Rattle.hol_kernel.specs.Said.{is_const_def}
use Rattle.kernel_lines.specs.Bases.{HasBase, base_of, place_of, said}
use Rattle.kernel_lines.specs.declared.line.BaseName.{BaseName}
use Rattle.kernel_lines.specs.declared.line.BaseName.TheVariants.{Truth, Conj, Imp, All, Ex, Disj, Falsity, Not, OneOne, Onto}

after : (more : List Definition) (d : BaseName) → slice_get (base 10 ++ more) (place_of d) ≡ Some (base_of d)
unfolding base_definitions
after more Truth = refl
after more Conj = refl
after more Imp = refl
after more All = refl
after more Ex = refl
after more Disj = refl
after more Falsity = refl
after more Not = refl
after more OneOne = refl
after more Onto = refl

at_place : (ds : List Definition) (d : BaseName) → HasBase ds → slice_get ds (place_of d) ≡ Some (base_of d)
at_place ds d h = subst (λ (es : List Definition). slice_get es (place_of d) ≡ Some (base_of d)) (sym h.is.1) (after h.is.0 d)

is_const : (d : BaseName) → is_const_def (base_of d) ≡ true
unfolding base_1 base_2 base_3 base_4 base_5 base_6 base_7 base_8 base_9 base_10
is_const Truth = refl
is_const Conj = refl
is_const Imp = refl
is_const All = refl
is_const Ex = refl
is_const Disj = refl
is_const Falsity = refl
is_const Not = refl
is_const OneOne = refl
is_const Onto = refl

says : (d : BaseName) (a : Sequent) → sequents_of (base_of d) ≡ a ∷ [] → said (base_of d) ≡ Some a
unfolding base_1 base_2 base_3 base_4 base_5 base_6 base_7 base_8 base_9 base_10
says Truth a e = cc
says Conj a e = cc
says Imp a e = cc
says All a e = cc
says Ex a e = cc
says Disj a e = cc
says Falsity a e = cc
says Not a e = cc
says OneOne a e = cc
says Onto a e = cc

pub base_is_const : (ds : List Definition) (d : BaseName) (n : ℕ) → HasBase ds → n ≡ place_of d → IsSomeAnd (slice_get ds n) (λ e. is_const_def e ≡ true)
base_is_const ds d n h e = rw (e, at_place ds d h) (is_const d)

pub base_says : (ds : List Definition) (d : BaseName) (n : ℕ) (a : Sequent) → HasBase ds → n ≡ place_of d → IsSomeAnd (slice_get ds n) (λ e. sequents_of e ≡ a ∷ []) → said (base_of d) ≡ Some a
base_says ds d n a h e g = says d a (rw (e, at_place ds d h) at g)
