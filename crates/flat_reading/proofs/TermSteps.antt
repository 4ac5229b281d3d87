-- The steps of reading a term, each as one equation.
use Rattle.std.proofs.Common.{◌≡◌, ◌<◌, ◌≤◌, ℕ, Bool, true, false, not, List, [], ◌∷◌, length, Option, Some, None, refl, ap, sym, subst, ◌∙◌, arith}
use Rattle.std.specs.Prelude.{codes}
use Rattle.hol_terms.specs.Ty.{Ty, tys}
use Rattle.hol_terms.specs.Tm.{Tm, tm_comb}
use Rattle.hol_terms.specs.Signature.{Signature, AreTysOver}
use Rattle.hol_terms.specs.Rules.{fits}
use Rattle.hol_terms.specs.Text.{Text, bound_text, is_atom, is_plain, sugar, is_sugar}
use Rattle.strict_reading.specs.Steps.{◌>>=◌, when, either}
use Rattle.strict_reading.specs.Words.{behind}
use Rattle.strict_reading.specs.Types.{reads_type}
use Rattle.strict_reading.specs.Terms.{TermReadings, enclosed, argument_step, head_step, operand_step, begins_argument, applied_step, sign_step, negated, negated_step, binder_step, reads_term, reads_arguments, term_readings, atom}
use Rattle.strict_reading.proofs.Steps.{bind_some, bind_same, when_true, choose_true, choose_false, either_none, either_some}
use Rattle.strict_reading.proofs.Words.{behind_long}
use Rattle.strict_reading.proofs.TermsAgree.{reads_term_steps, reads_arguments_steps, readings_sound, head_left, operand_left, argument_left}
use Rattle.flat_signatures.proofs.ConstantSteps.{bind_none, when_false, when_none}
use Rattle.flat_reading.specs.declared.signs.BinderSign.{BinderSign}
use Rattle.flat_reading.specs.declared.signs.BinderSign.TheVariants.{Lambda, All, Exists}
use Rattle.flat_reading.specs.declared.signs.Connective.{Connective}
use Rattle.flat_reading.specs.declared.signs.Connective.TheVariants.{Equals, And, Or, Implies}
use Rattle.flat_reading.specs.Signs.{some_sign, binder_sign, connective_sign, bound_by, connected_by}
use Rattle.flat_reading.specs.Scopes.{Scope, scope_step}
use Rattle.flat_reading.proofs.ApplySteps.{applied}

bind_assoc : {A B C : Type 0} (o : Option A) (f : A → Option B) (g : B → Option C) → ((o >>= f) >>= g) ≡ (o >>= (λ a. f a >>= g))
unfolding ◌>>=◌
bind_assoc None f g = refl
bind_assoc (Some a) f g = refl

-- what is read by the sign, or where there is none
abbrev by_sign : {K A : Type 0} → Option (K × Text) → (K → Text → A) → A → A
by_sign None f z = z
by_sign (Some p) f z = f p.0 p.1

three_signs : {A : Type 0} (f : BinderSign → Text → Option A) (z : Option A) (o p q : Option Text) → either o (f Lambda) (either p (f All) (either q (f Exists) z)) ≡ by_sign (some_sign Lambda o (some_sign All p (some_sign Exists q None))) f z
unfolding either
three_signs f z (Some x) p q = refl
three_signs f z None (Some x) q = refl
three_signs f z None None (Some x) = refl
three_signs f z None None None = refl

four_signs : {A : Type 0} (f : Connective → Text → Option A) (z : Option A) (o p q r : Option Text)
    → either o (f Equals) (either p (f And) (either q (f Or) (either r (f Implies) z))) ≡ by_sign (some_sign Equals o (some_sign And p (some_sign Or q (some_sign Implies r None)))) f z
unfolding either
four_signs f z (Some x) p q r = refl
four_signs f z None (Some x) q r = refl
four_signs f z None None (Some x) r = refl
four_signs f z None None None (Some x) = refl
four_signs f z None None None None = refl

module _ (s : Signature) (b : List Ty) where
  abbrev r : TermReadings
  r = term_readings s

  -- ---- behind the sign of a binder

  pub no_variable : (x : Text) → behind (bound_text (length b)) x ≡ None → scope_step s r b x ≡ None
  no_variable x e = bind_none _ _ e

  pub no_colon : (x y : Text) → behind (bound_text (length b)) x ≡ Some y → behind (codes ":") y ≡ None → scope_step s r b x ≡ None
  no_colon x y e f = bind_some _ _ y e ∙ bind_none _ _ f

  pub no_type : (x y z : Text) → behind (bound_text (length b)) x ≡ Some y → behind (codes ":") y ≡ Some z → reads_type s z ≡ None → scope_step s r b x ≡ None
  no_type x y z e f g = bind_some _ _ y e ∙ bind_some _ _ z f ∙ bind_none _ _ g

  pub no_dot : (x y z : Text) (p : Ty × Text) → behind (bound_text (length b)) x ≡ Some y → behind (codes ":") y ≡ Some z → reads_type s z ≡ Some p → behind (codes ". ") p.1 ≡ None → scope_step s r b x ≡ None
  no_dot x y z p e f g h = bind_some _ _ y e ∙ bind_some _ _ z f ∙ bind_some _ _ p g ∙ bind_none _ _ h

  pub no_body : (x y z v : Text) (p : Ty × Text) (c : List Ty) → behind (bound_text (length b)) x ≡ Some y → behind (codes ":") y ≡ Some z → reads_type s z ≡ Some p → behind (codes ". ") p.1 ≡ Some v → c ≡ p.0 ∷ b → reads_term s c v ≡ None
      → scope_step s r b x ≡ None
  no_body x y z v p c e f g h ec k = bind_some _ _ y e ∙ bind_some _ _ z f ∙ bind_some _ _ p g ∙ bind_some _ _ v h ∙ bind_none _ _ (ap (λ l. reads_term s l v) (sym ec) ∙ k)

  pub scope_read : (x y z v : Text) (p : Ty × Text) (c : List Ty) (q : Tm × Text) → behind (bound_text (length b)) x ≡ Some y → behind (codes ":") y ≡ Some z → reads_type s z ≡ Some p → behind (codes ". ") p.1 ≡ Some v → c ≡ p.0 ∷ b
      → reads_term s c v ≡ Some q → scope_step s r b x ≡ Some (record { ty = p.0; body = q.0 }, q.1)
  scope_read x y z v p c q e f g h ec k = bind_some _ _ y e ∙ bind_some _ _ z f ∙ bind_some _ _ p g ∙ bind_some _ _ v h ∙ bind_some _ _ q (ap (λ l. reads_term s l v) (sym ec) ∙ k)

  -- what is made of the scope
  made : (k : BinderSign) (x : Text) → binder_step s r b (bound_by s k) x ≡ (scope_step s r b x >>= (λ p. bound_by s k p.0.ty p.0.body >>= (λ t. Some (t, p.1))))
  made k x = sym (bind_assoc _ _ g ∙ bind_same _ _ _ _ refl (λ y e. bind_assoc _ _ g ∙ bind_same _ _ _ _ refl (λ z f. bind_assoc _ _ g ∙ bind_same _ _ _ _ refl (λ p h. bind_assoc _ _ g ∙ bind_same _ _ _ _ refl (λ v i. bind_assoc _ _ g ∙ bind_same _ _ _ _ refl (λ q j. bind_some _ g (record { ty = p.0; body = q.0 }, q.1) refl))))))
    where
      g : Scope × Text → Option (Tm × Text)
      g p = bound_by s k p.0.ty p.0.body >>= (λ t. Some (t, p.1))

  -- ---- parentheses

  pub not_enclosed : (x : Text) → reads_term s b x ≡ None → enclosed r b x ≡ None
  not_enclosed x e = bind_none _ _ e

  pub unclosed : (x : Text) (p : Tm × Text) → reads_term s b x ≡ Some p → behind (codes ")") p.1 ≡ None → enclosed r b x ≡ None
  unclosed x p e f = bind_some _ _ p e ∙ bind_none _ _ f

  pub closed : (x y : Text) (p : Tm × Text) → reads_term s b x ≡ Some p → behind (codes ")") p.1 ≡ Some y → enclosed r b x ≡ Some (p.0, y)
  closed x y p e f = bind_some _ _ p e ∙ bind_some _ _ y f

  pub head_atom : (x : Text) → behind (codes "(") x ≡ None → head_step s r b x ≡ atom s b x
  head_atom x e = either_none _ _ _ e

  pub head_none : (x y : Text) → behind (codes "(") x ≡ Some y → enclosed r b y ≡ None → head_step s r b x ≡ None
  head_none x y e f = either_some _ _ _ y e ∙ bind_none _ _ f

  pub head_plain : (x y : Text) (p : Tm × Text) → behind (codes "(") x ≡ Some y → enclosed r b y ≡ Some p → is_plain p.0 ≡ true → head_step s r b x ≡ None
  head_plain x y p e f g = either_some _ _ _ y e ∙ bind_some _ _ p f ∙ when_false _ _ (ap not g)

  pub head_some : (x y : Text) (p : Tm × Text) → behind (codes "(") x ≡ Some y → enclosed r b y ≡ Some p → is_plain p.0 ≡ false → head_step s r b x ≡ Some p
  head_some x y p e f g = either_some _ _ _ y e ∙ bind_some _ _ p f ∙ when_true _ _ (ap not g)

  pub argument_atom : (x : Text) → behind (codes "(") x ≡ None → argument_step s r b x ≡ atom s b x
  unfolding argument_step
  argument_atom x e = either_none _ _ _ e

  pub argument_none : (x y : Text) → behind (codes "(") x ≡ Some y → enclosed r b y ≡ None → argument_step s r b x ≡ None
  unfolding argument_step
  argument_none x y e f = either_some _ _ _ y e ∙ bind_none _ _ f

  pub argument_simple : (x y : Text) (p : Tm × Text) → behind (codes "(") x ≡ Some y → enclosed r b y ≡ Some p → is_atom p.0 ≡ true → argument_step s r b x ≡ None
  unfolding argument_step
  argument_simple x y p e f g = either_some _ _ _ y e ∙ bind_some _ _ p f ∙ when_false _ _ (ap not g)

  pub argument_some : (x y : Text) (p : Tm × Text) → behind (codes "(") x ≡ Some y → enclosed r b y ≡ Some p → is_atom p.0 ≡ false → argument_step s r b x ≡ Some p
  unfolding argument_step
  argument_some x y p e f g = either_some _ _ _ y e ∙ bind_some _ _ p f ∙ when_true _ _ (ap not g)

  -- ---- operands

  pub no_operand : (x : Text) → head_step s r b x ≡ None → operand_step s r b x ≡ None
  unfolding operand_step
  no_operand x e = bind_none _ _ e

  pub operand_read : (x : Text) (p : Tm × Text) → head_step s r b x ≡ Some p → operand_step s r b x ≡ reads_arguments s b p.0 p.1
  unfolding operand_step
  operand_read x p e = bind_some _ _ p e

  module _ (o : AreTysOver s (tys b)) where
    pub no_arguments : (t : Tm) (x : Text) → behind (codes " ") x ≡ None → reads_arguments s b t x ≡ Some (t, x)
    no_arguments t x e = reads_arguments_steps s b t x o ∙ either_none _ _ _ e

    pub no_argument : (t : Tm) (x y : Text) → behind (codes " ") x ≡ Some y → begins_argument y ≡ false → reads_arguments s b t x ≡ Some (t, x)
    no_argument t x y e f = reads_arguments_steps s b t x o ∙ either_some _ _ _ y e ∙ choose_false _ _ _ f

    argument_next : (t : Tm) (x y : Text) → behind (codes " ") x ≡ Some y → begins_argument y ≡ true → reads_arguments s b t x ≡ applied_step s r b t y
    argument_next t x y e f = reads_arguments_steps s b t x o ∙ either_some _ _ _ y e ∙ choose_true _ _ _ f

    pub argument_wrong : (t : Tm) (x y : Text) → behind (codes " ") x ≡ Some y → begins_argument y ≡ true → argument_step s r b y ≡ None → reads_arguments s b t x ≡ None
    argument_wrong t x y e f g = argument_next t x y e f ∙ bind_none _ _ g

    pub argument_sugar : (t : Tm) (x y : Text) (p : Tm × Text) → behind (codes " ") x ≡ Some y → begins_argument y ≡ true → argument_step s r b y ≡ Some p → is_sugar (sugar t p.0) ≡ true → reads_arguments s b t x ≡ None
    argument_sugar t x y p e f g h = argument_next t x y e f ∙ bind_some _ _ p g ∙ when_none _ _ (when_false _ _ (ap not h))

    unfit : (f x : Tm) → applied f x ≡ None → fits f x ≡ false
    unfolding when
    unfit f x e = at (fits f x) e
      where
        at : (q : Bool) → when q (Some (tm_comb f x)) ≡ None → q ≡ false
        at true h = cc
        at false h = refl

    pub argument_unfit : (t : Tm) (x y : Text) (p : Tm × Text) → behind (codes " ") x ≡ Some y → begins_argument y ≡ true → argument_step s r b y ≡ Some p → applied t p.0 ≡ None → reads_arguments s b t x ≡ None
    argument_unfit t x y p e f g h = argument_next t x y e f ∙ bind_some _ _ p g ∙ when_false _ _ (unfit t p.0 h)

    -- the tests in the other order
    turned : (t u g : Tm) (z : Text) → is_sugar (sugar t u) ≡ false → applied t u ≡ Some g → when (fits t u) (when (not (is_sugar (sugar t u))) (reads_arguments s b (tm_comb t u) z)) ≡ reads_arguments s b g z
    unfolding when
    turned t u g z h k = ap (λ c. when (fits t u) (when (not c) (reads_arguments s b (tm_comb t u) z))) h ∙ at (fits t u) k
      where
        at : (q : Bool) → when q (Some (tm_comb t u)) ≡ Some g → when q (reads_arguments s b (tm_comb t u) z) ≡ reads_arguments s b g z
        at true e = let same : tm_comb t u ≡ g = cc in ap (λ m. reads_arguments s b m z) same
        at false e = cc

    pub argument_read : (t g : Tm) (x y : Text) (p : Tm × Text) → behind (codes " ") x ≡ Some y → begins_argument y ≡ true → argument_step s r b y ≡ Some p → is_sugar (sugar t p.0) ≡ false → applied t p.0 ≡ Some g → reads_arguments s b t x ≡ reads_arguments s b g p.1
    argument_read t g x y p e f h k l = argument_next t x y e f ∙ bind_some _ _ p h ∙ turned t p.0 g p.1 k l

    -- ---- terms

    whole : (x : Text) → reads_term s b x ≡ by_sign (binder_sign x) (λ k y. binder_step s r b (bound_by s k) y) (either (behind (codes "~ ") x) (λ y. negated_step s r b y) (operand_step s r b x >>= (λ p. sign_step s r b p.0 p.1)))
    whole x = reads_term_steps s b x o ∙ three_signs (λ k y. binder_step s r b (bound_by s k) y) _ (behind (codes "\\") x) (behind (codes "!") x) (behind (codes "?") x)

    binder_next : (x y : Text) (k : BinderSign) → binder_sign x ≡ Some (k, y) → reads_term s b x ≡ (scope_step s r b y >>= (λ p. bound_by s k p.0.ty p.0.body >>= (λ t. Some (t, p.1))))
    binder_next x y k e = whole x ∙ ap (λ q. by_sign q (λ k y. binder_step s r b (bound_by s k) y) (either (behind (codes "~ ") x) (λ y. negated_step s r b y) (operand_step s r b x >>= (λ p. sign_step s r b p.0 p.1)))) e ∙ made k y

    pub no_scope : (x y : Text) (k : BinderSign) → binder_sign x ≡ Some (k, y) → scope_step s r b y ≡ None → reads_term s b x ≡ None
    no_scope x y k e f = binder_next x y k e ∙ bind_none _ _ f

    pub unbound : (x y : Text) (k : BinderSign) (p : Scope × Text) → binder_sign x ≡ Some (k, y) → scope_step s r b y ≡ Some p → bound_by s k p.0.ty p.0.body ≡ None → reads_term s b x ≡ None
    unbound x y k p e f g = binder_next x y k e ∙ bind_some _ _ p f ∙ bind_none _ _ g

    pub binder_read : (x y : Text) (k : BinderSign) (p : Scope × Text) (t : Tm) → binder_sign x ≡ Some (k, y) → scope_step s r b y ≡ Some p → bound_by s k p.0.ty p.0.body ≡ Some t → reads_term s b x ≡ Some (t, p.1)
    binder_read x y k p t e f g = binder_next x y k e ∙ bind_some _ _ p f ∙ bind_some _ _ t g

    no_binder : (x : Text) → binder_sign x ≡ None → reads_term s b x ≡ either (behind (codes "~ ") x) (λ y. negated_step s r b y) (operand_step s r b x >>= (λ p. sign_step s r b p.0 p.1))
    no_binder x e = whole x ∙ ap (λ q. by_sign q (λ k y. binder_step s r b (bound_by s k) y) (either (behind (codes "~ ") x) (λ y. negated_step s r b y) (operand_step s r b x >>= (λ p. sign_step s r b p.0 p.1)))) e

    pub negation_wrong : (x y : Text) → binder_sign x ≡ None → behind (codes "~ ") x ≡ Some y → operand_step s r b y ≡ None → reads_term s b x ≡ None
    negation_wrong x y e f g = no_binder x e ∙ either_some _ _ _ y f ∙ bind_none _ _ g

    pub unnegated_read : (x y : Text) (p : Tm × Text) → binder_sign x ≡ None → behind (codes "~ ") x ≡ Some y → operand_step s r b y ≡ Some p → negated s p.0 ≡ None → reads_term s b x ≡ None
    unnegated_read x y p e f g h = no_binder x e ∙ either_some _ _ _ y f ∙ bind_some _ _ p g ∙ bind_none _ _ h

    pub negation_read : (x y : Text) (p : Tm × Text) (t : Tm) → binder_sign x ≡ None → behind (codes "~ ") x ≡ Some y → operand_step s r b y ≡ Some p → negated s p.0 ≡ Some t → reads_term s b x ≡ Some (t, p.1)
    negation_read x y p t e f g h = no_binder x e ∙ either_some _ _ _ y f ∙ bind_some _ _ p g ∙ bind_some _ _ t h

    pub first_wrong : (x : Text) → binder_sign x ≡ None → behind (codes "~ ") x ≡ None → operand_step s r b x ≡ None → reads_term s b x ≡ None
    first_wrong x e f g = no_binder x e ∙ either_none _ _ _ f ∙ bind_none _ _ g

    pub first_read : (x : Text) (p : Tm × Text) → binder_sign x ≡ None → behind (codes "~ ") x ≡ None → operand_step s r b x ≡ Some p → reads_term s b x ≡ sign_step s r b p.0 p.1
    first_read x p e f g = no_binder x e ∙ either_none _ _ _ f ∙ bind_some _ _ p g

    -- ---- what is left is no longer

    pub operand_rest : (x y : Text) (t : Tm) → operand_step s r b x ≡ Some (t, y) → length y ≤ length x
    operand_rest x y t e = operand_left s r (readings_sound s) b x (t, y) o e

    pub head_rest : (x y : Text) (t : Tm) → head_step s r b x ≡ Some (t, y) → length y < length x
    head_rest x y t e = head_left s r (readings_sound s) b x (t, y) o e

    pub argument_rest : (x y : Text) (t : Tm) → argument_step s r b x ≡ Some (t, y) → length y ≤ length x
    argument_rest x y t e = argument_left s r (readings_sound s) b x (t, y) o e

  -- ---- behind the first operand

  signs : (a : Tm) (x : Text) → sign_step s r b a x ≡ by_sign (connective_sign x) (λ k y. operand_step s r b y >>= (λ p. connected_by s k a p.0 >>= (λ t. Some (t, p.1)))) (when (is_plain a) (Some (a, x)))
  signs a x = four_signs (λ k y. operand_step s r b y >>= (λ p. connected_by s k a p.0 >>= (λ t. Some (t, p.1)))) _ (behind (codes " = ") x) (behind (codes " /\\ ") x) (behind (codes " \\/ ") x) (behind (codes " ==> ") x)

  sign_next : (a : Tm) (x : Text) (o : Option (Connective × Text)) → connective_sign x ≡ o → sign_step s r b a x ≡ by_sign o (λ k y. operand_step s r b y >>= (λ p. connected_by s k a p.0 >>= (λ t. Some (t, p.1)))) (when (is_plain a) (Some (a, x)))
  sign_next a x o e = signs a x ∙ ap (λ q. by_sign q (λ k y. operand_step s r b y >>= (λ p. connected_by s k a p.0 >>= (λ t. Some (t, p.1)))) (when (is_plain a) (Some (a, x)))) e

  pub sign_end : (a : Tm) (x : Text) → connective_sign x ≡ None → is_plain a ≡ true → sign_step s r b a x ≡ Some (a, x)
  sign_end a x e f = sign_next a x None e ∙ when_true _ _ f

  pub sign_wrong : (a : Tm) (x : Text) → connective_sign x ≡ None → is_plain a ≡ false → sign_step s r b a x ≡ None
  sign_wrong a x e f = sign_next a x None e ∙ when_false _ _ f

  pub second_wrong : (a : Tm) (x y : Text) (k : Connective) → connective_sign x ≡ Some (k, y) → operand_step s r b y ≡ None → sign_step s r b a x ≡ None
  second_wrong a x y k e f = sign_next a x (Some (k, y)) e ∙ bind_none _ _ f

  pub unconnected_read : (a : Tm) (x y : Text) (k : Connective) (p : Tm × Text) → connective_sign x ≡ Some (k, y) → operand_step s r b y ≡ Some p → connected_by s k a p.0 ≡ None → sign_step s r b a x ≡ None
  unconnected_read a x y k p e f g = sign_next a x (Some (k, y)) e ∙ bind_some _ _ p f ∙ bind_none _ _ g

  pub connected_read : (a : Tm) (x y : Text) (k : Connective) (p : Tm × Text) (t : Tm) → connective_sign x ≡ Some (k, y) → operand_step s r b y ≡ Some p → connected_by s k a p.0 ≡ Some t → sign_step s r b a x ≡ Some (t, p.1)
  connected_read a x y k p t e f g = sign_next a x (Some (k, y)) e ∙ bind_some _ _ p f ∙ bind_some _ _ t g

-- ---- behind a sign the text is shorter

abbrev ShorterBy : {K : Type 0} → Text → Option (K × Text) → Type 0
ShorterBy x None = Unit {0}
ShorterBy x (Some p) = length p.1 < length x

sign_shorter : {K : Type 0} (k : K) (c : ℕ) (p x : Text) (o : Option (K × Text)) → ShorterBy x o → ShorterBy x (some_sign k (behind (c ∷ p) x) o)
sign_shorter k c p x o h = at (behind (c ∷ p) x) refl
  where
    at : (q : Option Text) → behind (c ∷ p) x ≡ q → ShorterBy x (some_sign k q o)
    at None e = h
    at (Some y) e = let l = behind_long (c ∷ p) x y e in omega (arith, l)

pub binder_shorter : (x y : Text) (k : BinderSign) → binder_sign x ≡ Some (k, y) → length y < length x
binder_shorter x y k e = subst (λ (o : Option (BinderSign × Text)). ShorterBy x o) e (sign_shorter Lambda 92 [] x _ (sign_shorter All 33 [] x _ (sign_shorter Exists 63 [] x None tt)))

pub connective_shorter : (x y : Text) (k : Connective) → connective_sign x ≡ Some (k, y) → length y < length x
connective_shorter x y k e =
    subst (λ (o : Option (Connective × Text)). ShorterBy x o) e
    (sign_shorter Equals 32 (61 ∷ 32 ∷ []) x _ (sign_shorter And 32 (47 ∷ 92 ∷ 32 ∷ []) x _ (sign_shorter Or 32 (92 ∷ 47 ∷ 32 ∷ []) x _ (sign_shorter Implies 32 (61 ∷ 61 ∷ 62 ∷ 32 ∷ []) x None tt))))
