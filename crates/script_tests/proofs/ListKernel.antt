-- A kernel with a type of lists and constants of their types: each definition is the one that its table says.
use Rattle.std.proofs.Common.{◌≡◌, ◌∙◌, refl, sym, ap, subst, [], ◌∷◌, ◌++◌, append_assoc, List, Option, Some, IsSome, codes}
use Rattle.std.specs.Prelude.{IfSome}
use Rattle.hol_terms.specs.Name.{Name}
use Rattle.hol_terms.specs.Ty.{Ty, ty_var}
use Rattle.hol_terms.specs.Tm.{Tm}
use Rattle.hol_terms.specs.Signature.{IsOver}
use Rattle.hol_terms.specs.Definition.{Definition, const_def, type_def, alpha, bool_ty, signature_of}
use Rattle.hol_terms.specs.Notation.{◌⇒◌, ◌·◌, ix, lam}
use Rattle.hol_terms.specs.Logic.{const_some, const_T}
use Rattle.hol_terms.specs.Base.{base}
use Rattle.hol_terms.specs.Sequent.{Sequent, seq, eq_tm, argument, IsEq}
use Rattle.hol_terms.specs.Proves.{IsDerivable}
use Rattle.hol_terms.specs.Text.{Text}
use Rattle.hol_kernel.specs.State.{State, Theorem, Has}
use Rattle.hol_kernel.specs.Fault.{predicate_of}
use Rattle.hol_kernel.specs.NewType.{IsNewType}
use Rattle.hol_conv.proofs.RewriteLemmas.{sides}
use Rattle.kernel_lines.specs.Bases.{HasBase}
use Rattle.script_core.specs.Tables.{table_sequent}
use Rattle.script_core.specs.Ready.{Fits, Gives}
use Rattle.script_core.proofs.Closed.{closed_table, base_is}
use Rattle.script_tests.specs.Closed.{nothing}
use Rattle.script_tests.specs.Lists.{IsSide, IsConstantOf, list_of, with_list, with_nil, with_cons, with_set, with_map}

some_same : (a b : Sequent) → Some a ≡ Some b → a ≡ b
some_same a b e = cc

-- a table that gives an equation of a term with itself
gives_one : {ds : List Definition} {table : Text} {a b : Sequent} → Gives ds [] nothing table a → Gives ds [] nothing table b → a ≡ b
gives_one {ds} {table} {a} {b} g h = some_same a b (sym g.is ∙ h.is)

pub side_fits : (ds : List Definition) (table : Text) → IsSide ds table → Fits ds [] nothing table
side_fits ds table h = record { is = subst IsSome (sym h.gives.is) refl }

pub side_is_eq : (ds : List Definition) (table : Text) (a : Sequent) → IsSide ds table → Gives ds [] nothing table a → IsEq a.concl
side_is_eq ds table a h g = subst (λ (b : Sequent). IsEq b.concl) (gives_one h.gives g) refl

pub side_gives : (ds : List Definition) (table : Text) (a : Sequent) (p t : Tm) → IsSide ds table → Gives ds [] nothing table a → p ≡ a.concl → t ≡ argument p → Gives ds [] nothing table (seq [] (eq_tm t t))
side_gives ds table a p t h g e f =
    let is_term : h.term ≡ t = ap (λ (b : Sequent). argument b.concl) (gives_one h.gives g) ∙ (ap argument (sym e) ∙ sym f) in
    subst (λ s. Gives ds [] nothing table (seq [] (eq_tm s s))) is_term h.gives

pub over_right : (k : State) (a : Theorem) (p r : Tm) → Has k a → IsDerivable a.defs a.sequent → IsEq a.sequent.concl → p ≡ a.sequent.concl → r ≡ argument p → IsOver (signature_of k.defs) [] r
over_right k a p r h d e f g = subst (IsOver (signature_of k.defs) []) (sym (g ∙ ap argument f)) (sides k a h d e).right

pub ruleset side_lemmas = (side_fits, side_is_eq, side_gives, over_right)

-- the table gives the equation of that term with itself over those definitions
pub record Says (ds : List Definition) (table : Text) (t : Tm) : Type 0 where
  pub is : table_sequent ds [] nothing table ≡ Some (seq [] (eq_tm t t))

says_at : {ds es : List Definition} {table : Text} {t : Tm} → ds ≡ es → Says es table t → Gives ds [] nothing table (seq [] (eq_tm t t))
says_at {ds} {es} {table} {t} e s = record { is = ap (λ fs. table_sequent fs [] nothing table) e ∙ s.is }

pub side_at : {ds es : List Definition} {table : Text} {t : Tm} → ds ≡ es → Says es table t → IsSide ds table
side_at {ds} {es} {table} {t} e s = record { term = t; gives = says_at e s }

pub constant_is : {ds es new : List Definition} {name : Name} {table : Text} {t : Tm} → ds ≡ es → Says es table t → IsConstantOf ds name table new → new ≡ es ++ const_def name t ∷ []
constant_is {ds} {es} {new} {name} {table} {t} e s h =
    let same : seq [] (eq_tm h.term h.term) ≡ seq [] (eq_tm t t) = gives_one h.gives (says_at e s) in
    h.is ∙ (λ i. e i ++ const_def name (argument (same i).concl) ∷ [])

pub is_constant : {ds es : List Definition} {new : State} {steps : List Sequent} {name : Name} {table : Text} {t : Tm} → Gives ds [] nothing table (seq [] (eq_tm t t)) → es ≡ ds
    → new ≡ record { defs = es ++ const_def name t ∷ []; steps = steps } → IsConstantOf ds name table new.defs
is_constant {ds} {es} {new} {steps} {name} {table} {t} g e d = record {
  term = t;
  gives = g;
  is = ap (λ (s : State). s.defs) d ∙ ap (λ fs. fs ++ const_def name t ∷ []) e;
}

pub ruleset constant_lemmas = (is_constant)

-- each begins with the first ten base definitions
base_more : {ds : List Definition} (more : List Definition) → HasBase ds → HasBase (ds ++ more)
base_more {ds} more h = record { is = (h.is.0 ++ more, ap (λ es. es ++ more) h.is.1 ∙ append_assoc (base 10) h.is.0 more) }

pub list_base : HasBase with_list
list_base = base_more _ (base_is (base 10) refl)

pub nil_base : HasBase with_nil
nil_base = base_more _ list_base

pub cons_base : HasBase with_cons
cons_base = base_more _ nil_base

pub set_base : HasBase with_set
set_base = base_more _ cons_base

pub map_base : HasBase with_map
map_base = base_more _ set_base

pub base_at : {ds es : List Definition} → ds ≡ es → HasBase es → HasBase ds
base_at {ds} {es} e h = subst HasBase (sym e) h

-- the type
abbrev identity : Tm
identity = lam alpha (ix 0 alpha)

list_said : Says (base 10) (codes "term \\x0:'a. x0\nrefl 0\n") identity
unfolding closed_table
list_said = record { is = refl }

pub list_fits : (ds : List Definition) → ds ≡ base 10 → Fits ds [] nothing (codes "term \\x0:'a. x0\nrefl 0\n")
list_fits ds e = side_fits ds _ (side_at e list_said)

pub list_is : {old new : State} {a : Sequent} {abs rep : Theorem} (ds : List Definition) → ds ≡ base 10 → Gives ds [] nothing (codes "term \\x0:'a. x0\nrefl 0\n") a → old.defs ≡ ds
    → IsNewType old (codes "list") (predicate_of a) new abs rep → new.defs ≡ with_list
list_is {old} {new} {a} {abs} {rep} ds e g d h =
    let same : a ≡ seq [] (eq_tm identity identity) = gives_one g (says_at e list_said) in
    ap (λ (s : State). s.defs) h.state ∙ (λ i. (d ∙ e) i ++ type_def (codes "list") (predicate_of (same i)) ∷ [])

-- the constants
abbrev something : Ty → Tm
something t = const_some t · lam t const_T

pub nil_said : Says with_list (codes "term some{'a list} (\\x0:'a list. T)\nrefl 0\n") (something (list_of alpha))
unfolding closed_table
nil_said = record { is = refl }

pub cons_said : Says with_nil (codes "term some{'a -> 'a list -> 'a list} (\\x0:'a -> 'a list -> 'a list. T)\nrefl 0\n") (something (alpha ⇒ list_of alpha ⇒ list_of alpha))
unfolding closed_table
cons_said = record { is = refl }

pub set_said : Says with_cons (codes "term some{'a list -> 'a -> bool} (\\x0:'a list -> 'a -> bool. T)\nrefl 0\n") (something (list_of alpha ⇒ alpha ⇒ bool_ty))
unfolding closed_table
set_said = record { is = refl }

pub map_said : Says with_set (codes "term some{('a -> 'x1) -> 'a list -> 'x1 list} (\\x0:('a -> 'x1) -> 'a list -> 'x1 list. T)\nrefl 0\n") (something ((alpha ⇒ ty_var (codes "x1")) ⇒ list_of alpha ⇒ list_of (ty_var (codes "x1"))))
unfolding closed_table
map_said = record { is = refl }

-- the kernel that is there
pub made_is : {o : Option State} {k : State} → IfSome o (λ l. l.defs ≡ with_map) → o ≡ Some k → k.defs ≡ with_map
made_is {o} {k} h e = subst (λ p. IfSome p (λ l. l.defs ≡ with_map)) e h
