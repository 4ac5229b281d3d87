-- How a term is read from its text: as a whole, as an operand and as an argument.
use Rattle.std.proofs.Common.{◌≡◌, refl, sym, ap, ◌∙◌, subst, ℕ, zero, suc, ◌<◌, ◌≤◌, Bool, true, false, not, ◌||◌, ◌==◌, List, [], ◌∷◌, ◌++◌, append_assoc, Option, Some, None, length, length-append, eqb-true, arith}
use Rattle.std.specs.Prelude.{codes, is_some}
use Rattle.std.proofs.lemmas.Bool.{and_parts, or_parts}
use Rattle.hol_terms.specs.Ty.{Ty}
use Rattle.hol_terms.specs.Tm.{Tm, tm_comb}
use Rattle.hol_terms.specs.Signature.{Signature}
use Rattle.hol_terms.specs.Rules.{fits}
use Rattle.hol_terms.specs.Text.{Text, parenthesized, sugar, is_sugar, is_atom, is_plain}
use Rattle.strict_reading.specs.Steps.{◌>>=◌, choose, either}
use Rattle.strict_reading.specs.Words.{if_same, behind}
use Rattle.strict_reading.specs.Terms.{atom, TermReadings, enclosed, argument_step, operand_step, starts_argument, begins_argument, applied_step, behind_operand_step, sign_step, term_step, terms_below, ends_atom, argument_follows, ends_operand, begins_sign, ends_term}
use Rattle.strict_reading.proofs.Steps.{bind_some, when_true, choose_true, choose_false, either_none, either_some}
use Rattle.strict_reading.proofs.TypesSound.{not_true}
use Rattle.strict_reading.proofs.TermTexts.{operand_text, argument_text, applied_text, plain_operand}
use Rattle.strict_reading.proofs.TermsSound.{term_text, atom_plain}

-- ---- signs

-- a sign that begins with another byte
pub behind_other : (test : ℕ → Bool) (b d : ℕ) (p x : Text) → test b ≡ false → test d ≡ true → behind (b ∷ p) (d ∷ x) ≡ None
unfolding behind
behind_other test b d p x h e = at (b == d) refl
  where
    unlike : false ≡ true → ⊥
    unlike e = cc

    at : (c : Bool) → (b == d) ≡ c → if_same c (behind p x) ≡ None
    at true f = absurd (unlike (sym h ∙ ap test (eqb-true b d f) ∙ e))
    at false f = refl

-- where an argument begins stands no other sign
pub no_sign : (b : ℕ) (p x : Text) → starts_argument b ≡ false → begins_argument x ≡ true → behind (b ∷ p) x ≡ None
no_sign b p [] h e = cc
no_sign b p (d ∷ x) h e = behind_other starts_argument b d p x h e

pub nothing : (o : Option Text) → is_some o ≡ false → o ≡ None
nothing None h = refl
nothing (Some x) h = cc

-- ---- ends

pub operand_ends : (x : Text) → ends_operand x ≡ true → (ends_atom x ≡ true) × (argument_follows (behind (codes " ") x) ≡ false)
operand_ends x h = let p = and_parts (ends_atom x) (not (argument_follows (behind (codes " ") x))) h in (p.0, not_true _ p.1)

pub term_ends : (x : Text) → ends_term x ≡ true → (ends_operand x ≡ true) × (begins_sign x ≡ false)
term_ends x h = let p = and_parts (ends_operand x) (not (begins_sign x)) h in (p.0, not_true _ p.1)

pub onward_step_stops : (s : Signature) (r : TermReadings) (bound : List Ty) (t : Tm) (x : Text) → argument_follows (behind (codes " ") x) ≡ false → behind_operand_step s r bound t x ≡ Some (t, x)
onward_step_stops s r bound t x h = at (behind (codes " ") x) h
  where
    at : (o : Option Text) → argument_follows o ≡ false → either o (λ y. choose (begins_argument y) (applied_step s r bound t y) (Some (t, x))) (Some (t, x)) ≡ Some (t, x)
    at None h = either_none _ _ _ refl
    at (Some y) h = either_some _ _ _ y refl ∙ choose_false _ _ _ h

pub onward_stops : (s : Signature) (n : ℕ) (bound : List Ty) (t : Tm) (x : Text) → length x < n → argument_follows (behind (codes " ") x) ≡ false → (terms_below s n).onward bound t x ≡ Some (t, x)
unfolding terms_below
onward_stops s zero bound t x l h = absurd (omega arith)
onward_stops s (suc n) bound t x l h = onward_step_stops s (terms_below s n) bound t x h

sign_step_stops : (s : Signature) (r : TermReadings) (bound : List Ty) (t : Tm) (x : Text) → begins_sign x ≡ false → is_plain t ≡ true → sign_step s r bound t x ≡ Some (t, x)
sign_step_stops s r bound t x h e =
    let a = is_some (behind (codes " = ") x) in
    let b = is_some (behind (codes " /\\ ") x) in
    let c = is_some (behind (codes " \\/ ") x) in
    let d = is_some (behind (codes " ==> ") x) in
    let p = or_parts (a || b || c) d h in
    let q = or_parts (a || b) c p.0 in
    let k = or_parts a b q.0 in
    either_none _ _ _ (nothing _ k.0) ∙ either_none _ _ _ (nothing _ k.1) ∙ either_none _ _ _ (nothing _ q.1) ∙ either_none _ _ _ (nothing _ p.1) ∙ when_true _ _ e

-- where an operand begins
pub term_step_operand : (s : Signature) (r : TermReadings) (bound : List Ty) (x : Text) → begins_argument x ≡ true → term_step s r bound x ≡ (operand_step s r bound x >>= (λ p. sign_step s r bound p.0 p.1))
term_step_operand s r bound x h =
    either_none _ _ _ (no_sign 92 [] x refl h) ∙ either_none _ _ _ (no_sign 33 [] x refl h) ∙ either_none _ _ _ (no_sign 63 [] x refl h) ∙ either_none _ _ _ (no_sign 126 (codes " ") x refl h)

-- ---- what is read

-- the reading comes to what stands behind an operand
pub record ComesTo (s : Signature) (bound : List Ty) (n : ℕ) (x : Text) (t : Tm) (rest : Text) : Type 0 where
  pub left : ℕ
  pub enough : length rest < left
  pub is : operand_step s (terms_below s n) bound x ≡ (terms_below s left).onward bound t rest

abbrev pub OperandReads : Signature → List Ty → Tm → Text → Type 0
OperandReads s bound t x = (n : ℕ) (rest : Text) → ends_atom rest ≡ true → length (x ++ rest) ≤ n → ComesTo s bound n (x ++ rest) t rest

abbrev pub ArgumentReads : Signature → List Ty → Tm → Text → Type 0
ArgumentReads s bound t x = (n : ℕ) (rest : Text) → ends_atom rest ≡ true → length (x ++ rest) ≤ n → argument_step s (terms_below s n) bound (x ++ rest) ≡ Some (t, rest)

abbrev pub WholeReads : Signature → List Ty → Tm → Text → Type 0
WholeReads s bound t x = (n : ℕ) (rest : Text) → ends_term rest ≡ true → length (x ++ rest) < n → (terms_below s n).whole bound (x ++ rest) ≡ Some (t, rest)

abbrev pub Begins : Text → Type 0
Begins x = (rest : Text) → begins_argument (x ++ rest) ≡ true

pub record ReadsTm (s : Signature) (bound : List Ty) (t : Tm) : Type 0 where
  pub operand_begins : Begins (operand_text (length bound) t)
  pub argument_begins : Begins (argument_text (length bound) t)
  pub operand : OperandReads s bound t (operand_text (length bound) t)
  pub argument : ArgumentReads s bound t (argument_text (length bound) t)
  pub whole : WholeReads s bound t (term_text (length bound) t)

-- an operand that no argument follows
pub operand_stops : (s : Signature) (bound : List Ty) (t : Tm) (x : Text) → OperandReads s bound t x → (n : ℕ) (rest : Text) → ends_atom rest ≡ true → argument_follows (behind (codes " ") rest) ≡ false → length (x ++ rest) ≤ n
    → operand_step s (terms_below s n) bound (x ++ rest) ≡ Some (t, rest)
operand_stops s bound t x o n rest e f l = let c = o n rest e l in c.is ∙ onward_stops s c.left bound t rest c.enough f

whole_of_operand : (s : Signature) (bound : List Ty) (t : Tm) (x : Text) → is_plain t ≡ true → Begins x → OperandReads s bound t x → WholeReads s bound t x
unfolding terms_below
whole_of_operand s bound t x p b o zero rest e l = absurd (omega arith)
whole_of_operand s bound t x p b o (suc n) rest e l =
    let f = term_ends rest e in
    let g = operand_ends rest f.0 in
    term_step_operand s (terms_below s n) bound (x ++ rest) (b rest)
    ∙ bind_some _ _ _ (operand_stops s bound t x o n rest g.0 g.1 (omega arith))
    ∙ sign_step_stops s (terms_below s n) bound t rest f.1 p

-- ---- in parentheses

enclosed_is : (r : TermReadings) (bound : List Ty) (t : Tm) (x rest : Text) → r.whole bound (x ++ (codes ")" ++ rest)) ≡ Some (t, codes ")" ++ rest) → enclosed r bound (x ++ (codes ")" ++ rest)) ≡ Some (t, rest)
unfolding behind
enclosed_is r bound t x rest e = bind_some _ _ _ e ∙ bind_some _ _ rest refl

inside : (x rest : Text) → (codes "(" ++ x ++ codes ")") ++ rest ≡ codes "(" ++ (x ++ (codes ")" ++ rest))
inside x rest = simp append_assoc

enclosed_reads : (s : Signature) (bound : List Ty) (t : Tm) (x : Text) → WholeReads s bound t x → (n : ℕ) (rest : Text) → length ((codes "(" ++ x ++ codes ")") ++ rest) ≤ n → enclosed (terms_below s n) bound (x ++ (codes ")" ++ rest)) ≡ Some (t, rest)
unfolding behind
enclosed_reads s bound t x w n rest l =
    let m : length (codes "(" ++ (x ++ (codes ")" ++ rest))) ≤ n = subst (λ (y : Text). length y ≤ n) (inside x rest) l in
    enclosed_is (terms_below s n) bound t x rest (w n (codes ")" ++ rest) refl (omega arith))

argument_in : (s : Signature) (bound : List Ty) (t : Tm) (x : Text) → is_atom t ≡ false → WholeReads s bound t x → ArgumentReads s bound t (codes "(" ++ x ++ codes ")")
unfolding argument_step behind
argument_in s bound t x a w n rest e l =
    ap (λ y. argument_step s (terms_below s n) bound y) (inside x rest)
    ∙ either_some _ _ _ (x ++ (codes ")" ++ rest)) refl ∙ bind_some _ _ _ (enclosed_reads s bound t x w n rest l) ∙ when_true _ _ (ap not a)

shorter : (x rest : Text) (n : ℕ) → length ((codes "(" ++ x ++ codes ")") ++ rest) ≤ n → length rest < n
shorter x rest n l =
    let m : length (codes "(" ++ (x ++ (codes ")" ++ rest))) ≤ n = subst (λ (y : Text). length y ≤ n) (inside x rest) l in
    omega (arith, length-append x (codes ")" ++ rest))

operand_in : (s : Signature) (bound : List Ty) (t : Tm) (x : Text) → is_plain t ≡ false → WholeReads s bound t x → OperandReads s bound t (codes "(" ++ x ++ codes ")")
unfolding operand_step behind
operand_in s bound t x a w n rest e l = record {
  left = n;
  enough = shorter x rest n l;
  is = ap (λ y. operand_step s (terms_below s n) bound y) (inside x rest)
      ∙ bind_some _ _ _ (either_some _ _ _ (x ++ (codes ")" ++ rest)) refl ∙ bind_some _ _ _ (enclosed_reads s bound t x w n rest l) ∙ when_true _ _ (ap not a));
}

begins_in : (x : Text) → Begins (codes "(" ++ x ++ codes ")")
begins_in x rest = ap begins_argument (inside x rest)

-- a term that stands in parentheses wherever it is a part
pub sugared_reads : (s : Signature) (bound : List Ty) (t : Tm) → is_plain t ≡ false → is_atom t ≡ false → WholeReads s bound t (term_text (length bound) t) → ReadsTm s bound t
sugared_reads s bound t p a w =
    let x = term_text (length bound) t in
    let as_operand : codes "(" ++ x ++ codes ")" ≡ operand_text (length bound) t = ap (λ b. parenthesized (not b) x) (sym p) in
    let as_argument : codes "(" ++ x ++ codes ")" ≡ argument_text (length bound) t = ap (λ b. parenthesized (not b) x) (sym a) in
    record {
      operand_begins = subst Begins as_operand (begins_in x);
      argument_begins = subst Begins as_argument (begins_in x);
      operand = subst (OperandReads s bound t) as_operand (operand_in s bound t x p w);
      argument = subst (ArgumentReads s bound t) as_argument (argument_in s bound t x a w);
      whole = w;
    }

-- an application without sugar
pub plain_reads : (s : Signature) (bound : List Ty) (t : Tm) → is_plain t ≡ true → is_atom t ≡ false → Begins (term_text (length bound) t) → OperandReads s bound t (term_text (length bound) t) → ReadsTm s bound t
plain_reads s bound t p a b o =
    let x = term_text (length bound) t in
    let w = whole_of_operand s bound t x p b o in
    let as_operand : x ≡ operand_text (length bound) t = sym (plain_operand (length bound) t p) in
    let as_argument : codes "(" ++ x ++ codes ")" ≡ argument_text (length bound) t = ap (λ b. parenthesized (not b) x) (sym a) in
    record {
      operand_begins = subst Begins as_operand b;
      argument_begins = subst Begins as_argument (begins_in x);
      operand = subst (OperandReads s bound t) as_operand o;
      argument = subst (ArgumentReads s bound t) as_argument (argument_in s bound t x a w);
      whole = w;
    }

-- ---- atoms

pub record StartsAtom (x : Text) : Type 0 where
  pub begins : begins_argument x ≡ true
  pub bare : behind (codes "(") x ≡ None

-- how an atom is read
pub record AtomReads (s : Signature) (bound : List Ty) (t : Tm) : Type 0 where
  pub starts : (rest : Text) → StartsAtom (term_text (length bound) t ++ rest)
  pub nonempty : 0 < length (term_text (length bound) t)
  pub reads : (rest : Text) → ends_atom rest ≡ true → atom s bound (term_text (length bound) t ++ rest) ≡ Some (t, rest)

atom_argument : (s : Signature) (bound : List Ty) (t : Tm) → AtomReads s bound t → ArgumentReads s bound t (term_text (length bound) t)
unfolding argument_step
atom_argument s bound t a n rest e l = either_none _ _ _ (a.starts rest).bare ∙ a.reads rest e

atom_operand : (s : Signature) (bound : List Ty) (t : Tm) → AtomReads s bound t → OperandReads s bound t (term_text (length bound) t)
unfolding operand_step
atom_operand s bound t a n rest e l = record {
  left = n;
  enough = let k = a.nonempty in omega (arith, length-append (term_text (length bound) t) rest);
  is = bind_some _ _ _ (either_none _ _ _ (a.starts rest).bare ∙ a.reads rest e);
}

pub atom_reads : (s : Signature) (bound : List Ty) (t : Tm) → is_atom t ≡ true → AtomReads s bound t → ReadsTm s bound t
atom_reads s bound t h a =
    let x = term_text (length bound) t in
    let p = atom_plain t h in
    let b : Begins x = λ rest. (a.starts rest).begins in
    let as_operand : x ≡ operand_text (length bound) t = sym (plain_operand (length bound) t p) in
    let as_argument : x ≡ argument_text (length bound) t = ap (λ b. parenthesized (not b) x) (sym h) in
    record {
      operand_begins = subst Begins as_operand b;
      argument_begins = subst Begins as_argument b;
      operand = subst (OperandReads s bound t) as_operand (atom_operand s bound t a);
      argument = subst (ArgumentReads s bound t) as_argument (atom_argument s bound t a);
      whole = whole_of_operand s bound t x p b (atom_operand s bound t a);
    }

-- ---- applications without sugar

onward_step_more : (s : Signature) (n : ℕ) (bound : List Ty) (f x : Tm) (rest : Text) → ReadsTm s bound x → fits f x ≡ true → is_sugar (sugar f x) ≡ false → ends_atom rest ≡ true → length (argument_text (length bound) x ++ rest) ≤ n
    → behind_operand_step s (terms_below s n) bound f (codes " " ++ (argument_text (length bound) x ++ rest)) ≡ (terms_below s n).onward bound (tm_comb f x) rest
unfolding behind
onward_step_more s n bound f x rest r h u e l =
    either_some _ _ _ (argument_text (length bound) x ++ rest) refl ∙ choose_true _ _ _ (r.argument_begins rest)
    ∙ bind_some _ _ _ (r.argument n rest e l) ∙ when_true _ _ h ∙ when_true _ _ (ap not u)

applied_comes : (s : Signature) (bound : List Ty) (f x : Tm) (rest : Text) (k : ℕ) (y : Text) → ReadsTm s bound x → fits f x ≡ true → is_sugar (sugar f x) ≡ false → ends_atom rest ≡ true → (n : ℕ)
    → length (codes " " ++ (argument_text (length bound) x ++ rest)) < n → operand_step s (terms_below s k) bound y ≡ (terms_below s n).onward bound f (codes " " ++ (argument_text (length bound) x ++ rest)) → ComesTo s bound k y (tm_comb f x) rest
unfolding terms_below
applied_comes s bound f x rest k y r h u e zero l g = absurd (omega arith)
applied_comes s bound f x rest k y r h u e (suc n) l g = record {
  left = n;
  enough = omega (arith, length-append (argument_text (length bound) x) rest);
  is = g ∙ onward_step_more s n bound f x rest r h u e (omega arith);
}

sugarless : (f x : Tm) → is_sugar (sugar f x) ≡ false → is_plain (tm_comb f x) ≡ true
sugarless f x u = ap not u

pub application_reads : (s : Signature) (bound : List Ty) (f x : Tm) → is_sugar (sugar f x) ≡ false → fits f x ≡ true → ReadsTm s bound f → ReadsTm s bound x → ReadsTm s bound (tm_comb f x)
unfolding behind
application_reads s bound f x u h rf rx =
    let p = sugarless f x u in
    let text : operand_text (length bound) f ++ codes " " ++ argument_text (length bound) x ≡ term_text (length bound) (tm_comb f x) = sym (applied_text (length bound) f x u) ∙ plain_operand (length bound) (tm_comb f x) p in
    plain_reads s bound (tm_comb f x) p refl (subst Begins text begins) (subst (OperandReads s bound (tm_comb f x)) text operand)
  where
    F : Text
    F = operand_text (length bound) f

    X : Text
    X = argument_text (length bound) x

    apart : (a b c : Text) → (a ++ codes " " ++ b) ++ c ≡ a ++ (codes " " ++ (b ++ c))
    apart a b c = simp append_assoc

    begins : Begins (F ++ codes " " ++ X)
    begins rest = ap begins_argument (apart F X rest) ∙ rf.operand_begins (codes " " ++ (X ++ rest))

    operand : OperandReads s bound (tm_comb f x) (F ++ codes " " ++ X)
    operand n rest e l =
        let c = rf.operand n (codes " " ++ (X ++ rest)) refl (subst (λ (y : Text). length y ≤ n) (apart F X rest) l) in
        applied_comes s bound f x rest n ((F ++ codes " " ++ X) ++ rest) rx h u e c.left c.enough (ap (λ y. operand_step s (terms_below s n) bound y) (apart F X rest) ∙ c.is)
