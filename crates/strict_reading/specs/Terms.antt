-- Reading the canonical text of a term strictly, from front to back.
use Rattle.std.specs.Prelude.{ℕ, zero, suc, ◌+◌, Bool, true, false, not, ◌&&◌, ◌||◌, ◌==◌, List, [], ◌∷◌, length, Option, Some, None, is_some, bytes_eq, codes}
use Rattle.hol_terms.specs.Name.{Name, is_segment, is_name}
use Rattle.hol_terms.specs.Ty.{Ty, ty_var, ty_app, Tys, no_tys, more_tys, tys, ty_list}
use Rattle.hol_terms.specs.Tm.{Tm, tm_index, tm_free, tm_comb, tm_abs, FreeVar}
use Rattle.hol_terms.specs.Typing.{tm_type}
use Rattle.hol_terms.specs.TyVars.{ty_vars, instance_at, const_at}
use Rattle.hol_terms.specs.Signature.{Signature, generic_of, tys_count}
use Rattle.hol_terms.specs.Rules.{fits}
use Rattle.hol_terms.specs.Text.{Text, bound_text, sugar, is_sugar, is_atom, is_plain}
use Rattle.strict_reading.specs.Steps.{◌>>=◌, when, choose, either}
use Rattle.strict_reading.specs.Words.{is_word_byte, begins_word, word_of, behind_word, ends_word, behind}
use Rattle.strict_reading.specs.Types.{has_arity, reads_type, reads_types}

-- ---- names

-- the type is well formed over the signature
abbrev mutual
  pub is_type_over : Signature → Ty → Bool
  is_type_over s (ty_var n) = is_segment n
  is_type_over s (ty_app c ts) = has_arity s c (tys_count ts) && are_types_over s ts

  pub are_types_over : Signature → Tys → Bool
  are_types_over s no_tys = true
  are_types_over s (more_tys t ts) = is_type_over s t && are_types_over s ts

abbrev pub one_further : Option (ℕ × Ty) → Option (ℕ × Ty)
one_further None = None
one_further (Some b) = Some (suc b.0, b.1)

abbrev pub binder_by : Bool → Ty → Option (ℕ × Ty) → Option (ℕ × Ty)
binder_by true t o = Some (0, t)
binder_by false t o = one_further o

-- the binder whose variable is called so: its index and its type, among binders of these types, the innermost first
unfoldable pub binder_at : List Ty → Name → Option (ℕ × Ty)
binder_at [] w = None
binder_at (t ∷ ts) w = binder_by (bytes_eq w (bound_text (length ts))) t (binder_at ts w)

-- the constant of that name at type arguments
unfoldable pub constant : Signature → Name → List Ty → Option Tm
constant s c args =
    generic_of s c >>= (λ g. when (length args == length (ty_vars g [])) (when (are_types_over s (tys args)) (when (is_type_over s (instance_at g args)) (Some (const_at c g args)))))

-- ---- atoms

-- behind the bracket of a free variable
abbrev pub free_step : Signature → Text → Option (FreeVar × Text)
free_step s x =
    when (is_name (word_of x)) (behind (codes ":") (behind_word x) >>= (λ y. reads_type s y >>= (λ p. behind (codes "]") p.1 >>= (λ z. Some (record { name = word_of x; ty = p.0 }, z)))))

-- behind a name that has type arguments
abbrev pub arguments_step : Signature → Name → Text → Option (Tm × Text)
arguments_step s c x =
    reads_type s x >>= (λ p. reads_types s p.1 >>= (λ q. behind (codes "}") q.1 >>= (λ z. constant s c (p.0 ∷ ty_list q.0) >>= (λ t. Some (t, z)))))

-- behind a name
abbrev pub constant_step : Signature → Name → Text → Option (Tm × Text)
constant_step s c x = either (behind (codes "{") x) (λ y. arguments_step s c y) (constant s c [] >>= (λ t. Some (t, x)))

abbrev pub named_step : Signature → List Ty → Name → Text → Option (Tm × Text)
named_step s bound c x = either (binder_at bound c) (λ b. Some (tm_index b.0 b.1, x)) (constant_step s c x)

-- a variable or a constant
unfoldable pub atom : Signature → List Ty → Text → Option (Tm × Text)
atom s bound x = either (behind (codes "[") x) (λ y. free_step s y >>= (λ p. Some (tm_free p.0, p.1))) (when (begins_word x) (named_step s bound (word_of x) (behind_word x)))

-- ---- terms

-- Readings of smaller texts, below binders of these types: a term; what follows an operand, which is taken up as its arguments. Each with
-- what is left.
pub record TermReadings : Type 0 where
  pub whole : List Ty → Text → Option (Tm × Text)
  pub onward : List Ty → Tm → Text → Option (Tm × Text)

-- behind a parenthesis
abbrev pub enclosed : TermReadings → List Ty → Text → Option (Tm × Text)
enclosed r bound x = r.whole bound x >>= (λ p. behind (codes ")") p.1 >>= (λ y. Some (p.0, y)))

-- an argument: an atom, or another term in parentheses
unfoldable pub argument_step : Signature → TermReadings → List Ty → Text → Option (Tm × Text)
argument_step s r bound x = either (behind (codes "(") x) (λ y. enclosed r bound y >>= (λ p. when (not (is_atom p.0)) (Some p))) (atom s bound x)

-- what an operand begins with: an atom, or in parentheses a term that is neither an atom nor an application without sugar
abbrev pub head_step : Signature → TermReadings → List Ty → Text → Option (Tm × Text)
head_step s r bound x = either (behind (codes "(") x) (λ y. enclosed r bound y >>= (λ p. when (not (is_plain p.0)) (Some p))) (atom s bound x)

-- an operand: a head and its arguments
unfoldable pub operand_step : Signature → TermReadings → List Ty → Text → Option (Tm × Text)
operand_step s r bound x = head_step s r bound x >>= (λ p. r.onward bound p.0 p.1)

abbrev pub starts_argument : ℕ → Bool
starts_argument c = is_word_byte c || (c == 40) || (c == 91)

abbrev pub begins_argument : Text → Bool
begins_argument [] = false
begins_argument (c ∷ cs) = starts_argument c

-- one more argument
abbrev pub applied_step : Signature → TermReadings → List Ty → Tm → Text → Option (Tm × Text)
applied_step s r bound t x =
    argument_step s r bound x >>= (λ p. when (fits t p.0) (when (not (is_sugar (sugar t p.0))) (r.onward bound (tm_comb t p.0) p.1)))

abbrev pub behind_operand_step : Signature → TermReadings → List Ty → Tm → Text → Option (Tm × Text)
behind_operand_step s r bound t x = either (behind (codes " ") x) (λ y. choose (begins_argument y) (applied_step s r bound t y) (Some (t, x))) (Some (t, x))

-- two operands between which the sign of the constant stands
abbrev pub connected : Signature → Name → List Ty → Tm → Tm → Option Tm
connected s c args a b = constant s c args >>= (λ f. when (fits f a) (when (fits (tm_comb f a) b) (Some (tm_comb (tm_comb f a) b))))

abbrev pub connected_step : Signature → TermReadings → List Ty → Name → List Ty → Tm → Text → Option (Tm × Text)
connected_step s r bound c args a x = operand_step s r bound x >>= (λ p. connected s c args a p.0 >>= (λ t. Some (t, p.1)))

-- behind the first operand
abbrev pub sign_step : Signature → TermReadings → List Ty → Tm → Text → Option (Tm × Text)
sign_step s r bound a x =
    either (behind (codes " = ") x) (λ y. connected_step s r bound (codes "eq") (tm_type a ∷ []) a y)
    (either (behind (codes " /\\ ") x) (λ y. connected_step s r bound (codes "conj") [] a y)
    (either (behind (codes " \\/ ") x) (λ y. connected_step s r bound (codes "disj") [] a y)
    (either (behind (codes " ==> ") x) (λ y. connected_step s r bound (codes "imp") [] a y)
    (when (is_plain a) (Some (a, x))))))

abbrev pub negated : Signature → Tm → Option Tm
negated s a = constant s (codes "not") [] >>= (λ f. when (fits f a) (Some (tm_comb f a)))

abbrev pub negated_step : Signature → TermReadings → List Ty → Text → Option (Tm × Text)
negated_step s r bound x = operand_step s r bound x >>= (λ p. negated s p.0 >>= (λ t. Some (t, p.1)))

-- what the type of the bound variable and the body make, behind the sign of a binder
abbrev pub binder_step : Signature → TermReadings → List Ty → (Ty → Tm → Option Tm) → Text → Option (Tm × Text)
binder_step s r bound made x =
    behind (bound_text (length bound)) x >>= (λ y. behind (codes ":") y >>= (λ z. reads_type s z >>= (λ p. behind (codes ". ") p.1 >>= (λ v. r.whole (p.0 ∷ bound) v >>= (λ q. made p.0 q.0 >>= (λ t. Some (t, q.1)))))))

abbrev pub abstracted : Ty → Tm → Option Tm
abstracted t b = Some (tm_abs t b)

abbrev pub quantified : Signature → Name → Ty → Tm → Option Tm
quantified s c t b = constant s c (t ∷ []) >>= (λ f. when (fits f (tm_abs t b)) (Some (tm_comb f (tm_abs t b))))

abbrev pub term_step : Signature → TermReadings → List Ty → Text → Option (Tm × Text)
term_step s r bound x =
    either (behind (codes "\\") x) (λ y. binder_step s r bound abstracted y)
    (either (behind (codes "!") x) (λ y. binder_step s r bound (quantified s (codes "all")) y)
    (either (behind (codes "?") x) (λ y. binder_step s r bound (quantified s (codes "ex")) y)
    (either (behind (codes "~ ") x) (λ y. negated_step s r bound y)
    (operand_step s r bound x >>= (λ p. sign_step s r bound p.0 p.1)))))

-- readings of texts of less than so many bytes
unfoldable pub terms_below : Signature → ℕ → TermReadings
terms_below s zero = record { whole = λ bound x. None; onward = λ bound t x. None }
terms_below s (suc n) = record { whole = term_step s (terms_below s n); onward = behind_operand_step s (terms_below s n) }

-- the term whose canonical text the text begins with, below binders of these types, the innermost first, and what is left
unfoldable pub reads_term : Signature → List Ty → Text → Option (Tm × Text)
reads_term s bound x = (terms_below s (length x + 1)).whole bound x

-- what follows an operand that was read: its arguments
unfoldable pub reads_arguments : Signature → List Ty → Tm → Text → Option (Tm × Text)
reads_arguments s bound t x = (terms_below s (length x + 1)).onward bound t x

-- the readings of texts of any length
abbrev pub term_readings : Signature → TermReadings
term_readings s = record { whole = reads_term s; onward = reads_arguments s }

-- the free variable that the text begins with
unfoldable pub reads_free : Signature → Text → Option (FreeVar × Text)
reads_free s x = behind (codes "[") x >>= (λ y. free_step s y)

-- ---- where a term ends

-- neither a word nor type arguments go on with the text
abbrev pub ends_atom : Text → Bool
ends_atom x = ends_word x && not (is_some (behind (codes "{") x))

abbrev pub argument_follows : Option Text → Bool
argument_follows None = false
argument_follows (Some x) = begins_argument x

-- nor does an argument
abbrev pub ends_operand : Text → Bool
ends_operand x = ends_atom x && not (argument_follows (behind (codes " ") x))

abbrev pub begins_sign : Text → Bool
begins_sign x = is_some (behind (codes " = ") x) || is_some (behind (codes " /\\ ") x) || is_some (behind (codes " \\/ ") x) || is_some (behind (codes " ==> ") x)

-- nor a sign
abbrev pub ends_term : Text → Bool
ends_term x = ends_operand x && not (begins_sign x)
