-- What is read as a term is a well typed term, and its canonical text stands there.
use Rattle.std.proofs.Common.{◌≡◌, refl, sym, ap, ◌∙◌, subst, ℕ, zero, suc, ◌+◌, true, not, List, [], ◌∷◌, ◌++◌, append_assoc, Option, Some, length, arith}
use Rattle.std.specs.Prelude.{codes}
use Rattle.hol_terms.specs.Name.{Name, is_name}
use Rattle.hol_terms.specs.Ty.{Ty, tys, ty_list, tys-ty_list}
use Rattle.hol_terms.specs.Tm.{Tm, tm_index, tm_free, tm_const, tm_comb, tm_abs, FreeVar}
use Rattle.hol_terms.specs.Typing.{tm_type}
use Rattle.hol_terms.specs.Signature.{Signature, IsTyOver, AreTysOver, IsConstOver, IsOver}
use Rattle.hol_terms.specs.Rules.{fits}
use Rattle.hol_terms.specs.Text.{Text, parenthesized, with_arguments, ty_text, tys_texts, bound_text, between, binding, sign_between, sign_binding, sign_before, is_atom, is_plain, printed}
use Rattle.strict_reading.specs.Words.{word_of, behind_word, behind}
use Rattle.strict_reading.specs.Terms.{constant, free_step, arguments_step, constant_step, named_step, atom, TermReadings, enclosed, argument_step, head_step, operand_step, applied_step, behind_operand_step, connected, connected_step, sign_step, negated, negated_step, binder_step, abstracted, quantified, term_step, terms_below, reads_term, reads_free}
use Rattle.strict_reading.proofs.Steps.{bind_case, when_case, choose_case, either_case}
use Rattle.strict_reading.proofs.Words.{word_parts, behind_is}
use Rattle.strict_reading.proofs.TypesSound.{more_text, not_true, reads_type_sound, reads_types_sound}
use Rattle.strict_reading.proofs.TermTexts.{constant_is, fits_is, binder_is, bound_over, operand_text, argument_text, scope_text, applied_text, connected_text, negated_text, quantified_text, plain_operand}

-- the text of the term, and the rest, stand there
pub record IsRead (s : Signature) (bound : List Ty) (show : ℕ → Tm → Text) (x : Text) (t : Tm) (rest : Text) : Type 0 where
  pub text : x ≡ show (length bound) t ++ rest
  pub over : IsOver s bound t

-- the text of a whole term
abbrev pub term_text : ℕ → Tm → Text
term_text d t = (printed d t).whole

-- what was given is what is asked for
given : {A : Type 0} (P : A → Type 0) (p q : A) → P p → Some p ≡ Some q → P q
given P p q h e = let f : p ≡ q = cc in subst P f h

abbrev ReadAs : Signature → List Ty → (ℕ → Tm → Text) → Text → Tm × Text → Type 0
ReadAs s bound show x p = IsRead s bound show x p.0 p.1

-- the same behind another text
onto : (s : Signature) (bound : List Ty) (show : ℕ → Tm → Text) (x y : Text) (t : Tm) (rest : Text) → x ≡ y → IsRead s bound show y t rest → IsRead s bound show x t rest
onto s bound show x y t rest e h = record { text = e ∙ h.text; over = h.over }

-- ---- atoms

pub record IsFree (s : Signature) (x : Text) (v : FreeVar) (rest : Text) : Type 0 where
  pub text : x ≡ (codes "[" ++ v.name ++ codes ":" ++ ty_text v.ty ++ codes "]") ++ rest
  pub named : is_name v.name ≡ true
  pub over : IsTyOver s v.ty

abbrev FreeAs : Signature → Text → FreeVar × Text → Type 0
FreeAs s x p = IsFree s x p.0 p.1

pub free_sound : (s : Signature) (x : Text) (v : FreeVar) (rest : Text) → free_step s x ≡ Some (v, rest) → IsFree s (codes "[" ++ x) v rest
free_sound s x v rest h =
    when_case _ _ _ h (λ n g. bind_case _ _ _ g (λ y e k. bind_case _ _ _ k (λ p f l. bind_case _ _ _ l (λ z c m.
    let q = reads_type_sound s y p.0 p.1 f in
    given (FreeAs s (codes "[" ++ x)) (record { name = word_of x; ty = p.0 }, z) (v, rest) (record {
      text = ap (λ u. codes "[" ++ u) (word_parts x ∙ ap (λ u. word_of x ++ u) (behind_is (codes ":") (behind_word x) y e ∙ ap (λ u. codes ":" ++ u) (q.text ∙ ap (λ u. ty_text p.0 ++ u) (behind_is (codes "]") p.1 z c))))
          ∙ apart (word_of x) (ty_text p.0) z;
      named = n;
      over = q.over;
    }) m))))
  where
    apart : (a b c : Text) → codes "[" ++ (a ++ (codes ":" ++ (b ++ (codes "]" ++ c)))) ≡ (codes "[" ++ a ++ codes ":" ++ b ++ codes "]") ++ c
    apart a b c = simp append_assoc

pub reads_free_sound : (s : Signature) (x : Text) (v : FreeVar) (rest : Text) → reads_free s x ≡ Some (v, rest) → IsFree s x v rest
unfolding reads_free
reads_free_sound s x v rest h =
    bind_case _ _ _ h (λ y e g. let q = free_sound s y v rest g in record { text = behind_is (codes "[") x y e ∙ q.text; named = q.named; over = q.over })

-- an atom was read
record IsAtom (s : Signature) (bound : List Ty) (x : Text) (t : Tm) (rest : Text) : Type 0 where
  text : x ≡ term_text (length bound) t ++ rest
  over : IsOver s bound t
  simple : is_atom t ≡ true

abbrev AtomAs : Signature → List Ty → Text → Tm × Text → Type 0
AtomAs s bound x p = IsAtom s bound x p.0 p.1

atom_onto : (s : Signature) (bound : List Ty) (x y : Text) (t : Tm) (rest : Text) → x ≡ y → IsAtom s bound y t rest → IsAtom s bound x t rest
atom_onto s bound x y t rest e h = record { text = e ∙ h.text; over = h.over; simple = h.simple }

-- the constant that was made
constant_read : (s : Signature) (bound : List Ty) (c : Name) (args : List Ty) (x : Text) (z : Text) (t : Tm) → constant s c args ≡ Some t → x ≡ with_arguments c (tys_texts (tys args)) ++ z → IsAtom s bound x t z
constant_read s bound c args x z t h f =
    let k = constant_is s c args t h in
    subst (λ (v : Tm). IsAtom s bound x v z) (sym k.is) (made k.ty k.over)
  where
    made : (ty : Ty) → IsConstOver s c args ty → IsAtom s bound x (tm_const c args ty) z
    made ty o = record { text = f; over = o; simple = refl }

arguments_sound : (s : Signature) (bound : List Ty) (c : Name) (x : Text) (u : Tm) (rest : Text) → arguments_step s c x ≡ Some (u, rest) → IsAtom s bound (c ++ (codes "{" ++ x)) u rest
arguments_sound s bound c x u rest h =
    bind_case _ _ _ h (λ p e g. bind_case _ _ _ g (λ q f k. bind_case _ _ _ k (λ z m l. bind_case _ _ _ l (λ t o n.
    let a = reads_type_sound s x p.0 p.1 e in
    let b = reads_types_sound s p.1 q.0 q.1 f in
    given (AtomAs s bound (c ++ (codes "{" ++ x))) (t, z) (u, rest)
    (constant_read s bound c (p.0 ∷ ty_list q.0) (c ++ (codes "{" ++ x)) z t o
    (ap (λ v. c ++ (codes "{" ++ v)) (a.text ∙ ap (λ v. ty_text p.0 ++ v) (b.text ∙ ap (λ v. more_text q.0 ++ v) (behind_is (codes "}") q.1 z m))) ∙ apart c (ty_text p.0) (more_text q.0) z
    ∙ ap (λ us. (c ++ codes "{" ++ (ty_text p.0 ++ more_text us) ++ codes "}") ++ z) (sym (tys-ty_list q.0)))) n))))
  where
    apart : (a b c d : Text) → a ++ (codes "{" ++ (b ++ (c ++ (codes "}" ++ d)))) ≡ (a ++ codes "{" ++ (b ++ c) ++ codes "}") ++ d
    apart a b c d = simp append_assoc

constant_sound : (s : Signature) (bound : List Ty) (c : Name) (x : Text) (u : Tm) (rest : Text) → constant_step s c x ≡ Some (u, rest) → IsAtom s bound (c ++ x) u rest
constant_sound s bound c x u rest h =
    either_case _ _ _ _ h
    (λ y e g. atom_onto s bound (c ++ x) (c ++ (codes "{" ++ y)) u rest (ap (λ v. c ++ v) (behind_is (codes "{") x y e)) (arguments_sound s bound c y u rest g))
    (λ e g. bind_case _ _ _ g (λ t k l. given (AtomAs s bound (c ++ x)) (t, x) (u, rest) (constant_read s bound c [] (c ++ x) x t k refl) l))

named_sound : (s : Signature) (bound : List Ty) (c : Name) (x : Text) (u : Tm) (rest : Text) → AreTysOver s (tys bound) → named_step s bound c x ≡ Some (u, rest) → IsAtom s bound (c ++ x) u rest
named_sound s bound c x u rest o h =
    either_case _ _ _ _ h
    (λ b e g.
    let k = binder_is bound c b e in
    given (AtomAs s bound (c ++ x)) (tm_index b.0 b.1, x) (u, rest) (record { text = ap (λ v. v ++ x) k.called; over = (k.at, bound_over s bound b.0 b.1 o k.at); simple = refl }) g)
    (λ e g. constant_sound s bound c x u rest g)

atom_sound : (s : Signature) (bound : List Ty) (x : Text) (u : Tm) (rest : Text) → AreTysOver s (tys bound) → atom s bound x ≡ Some (u, rest) → IsAtom s bound x u rest
unfolding atom
atom_sound s bound x u rest o h =
    either_case _ _ _ _ h
    (λ y e g. bind_case _ _ _ g (λ p f k.
    let q = free_sound s y p.0 p.1 f in
    given (AtomAs s bound x) (tm_free p.0, p.1) (u, rest) (record { text = behind_is (codes "[") x y e ∙ q.text; over = (q.named, q.over); simple = refl }) k))
    (λ e g. when_case _ _ _ g (λ b k. atom_onto s bound x (word_of x ++ behind_word x) u rest (word_parts x) (named_sound s bound (word_of x) (behind_word x) u rest o k)))

pub atom_plain : (t : Tm) → is_atom t ≡ true → is_plain t ≡ true
atom_plain (tm_index i t) h = refl
atom_plain (tm_free v) h = refl
atom_plain (tm_const c ts t) h = refl
atom_plain (tm_comb f x) h = cc
atom_plain (tm_abs t b) h = cc

-- ---- arguments and operands

pub record AreSound (s : Signature) (r : TermReadings) : Type 0 where
  pub whole : (bound : List Ty) (x : Text) (t : Tm) (rest : Text) → AreTysOver s (tys bound) → r.whole bound x ≡ Some (t, rest) → IsRead s bound term_text x t rest
  pub onward : (bound : List Ty) (t : Tm) (x : Text) (u : Tm) (rest : Text) → AreTysOver s (tys bound) → IsOver s bound t → r.onward bound t x ≡ Some (u, rest)
      → IsRead s bound operand_text (operand_text (length bound) t ++ x) u rest

pub record IsEnclosed (s : Signature) (bound : List Ty) (x : Text) (t : Tm) (rest : Text) : Type 0 where
  pub text : codes "(" ++ x ≡ (codes "(" ++ term_text (length bound) t ++ codes ")") ++ rest
  pub over : IsOver s bound t

abbrev EnclosedAs : Signature → List Ty → Text → Tm × Text → Type 0
EnclosedAs s bound x p = IsEnclosed s bound x p.0 p.1

pub enclosed_sound : (s : Signature) (r : TermReadings) (sound : AreSound s r) → (bound : List Ty) (x : Text) (t : Tm) (rest : Text) → AreTysOver s (tys bound) → enclosed r bound x ≡ Some (t, rest) → IsEnclosed s bound x t rest
enclosed_sound s r sound bound x t rest o h =
    bind_case _ _ _ h (λ p e g. bind_case _ _ _ g (λ y f k.
    let q = sound.whole bound x p.0 p.1 o e in
    given (EnclosedAs s bound x) (p.0, y) (t, rest)
    (record { text = ap (λ v. codes "(" ++ v) (q.text ∙ ap (λ v. term_text (length bound) p.0 ++ v) (behind_is (codes ")") p.1 y f)) ∙ apart (term_text (length bound) p.0) y; over = q.over }) k))
  where
    apart : (a b : Text) → codes "(" ++ (a ++ (codes ")" ++ b)) ≡ (codes "(" ++ a ++ codes ")") ++ b
    apart a b = simp append_assoc

pub argument_sound : (s : Signature) (r : TermReadings) (sound : AreSound s r) → (bound : List Ty) (x : Text) (u : Tm) (rest : Text) → AreTysOver s (tys bound) → argument_step s r bound x ≡ Some (u, rest) → IsRead s bound argument_text x u rest
unfolding argument_step
argument_sound s r sound bound x u rest o h =
    either_case _ _ _ _ h
    (λ y e g. bind_case _ _ _ g (λ p f k. when_case _ _ _ k (λ a l.
    let q = enclosed_sound s r sound bound y p.0 p.1 o f in
    given (ReadAs s bound argument_text x) p (u, rest) (record { text = behind_is (codes "(") x y e ∙ q.text ∙ ap (λ b. parenthesized b (term_text (length bound) p.0) ++ p.1) (sym a); over = q.over }) l)))
    (λ e g.
    let q = atom_sound s bound x u rest o g in
    record { text = q.text ∙ ap (λ b. parenthesized (not b) (term_text (length bound) u) ++ rest) (sym q.simple); over = q.over })

head_sound : (s : Signature) (r : TermReadings) (sound : AreSound s r) → (bound : List Ty) (x : Text) (u : Tm) (rest : Text) → AreTysOver s (tys bound) → head_step s r bound x ≡ Some (u, rest) → IsRead s bound operand_text x u rest
head_sound s r sound bound x u rest o h =
    either_case _ _ _ _ h
    (λ y e g. bind_case _ _ _ g (λ p f k. when_case _ _ _ k (λ a l.
    let q = enclosed_sound s r sound bound y p.0 p.1 o f in
    given (ReadAs s bound operand_text x) p (u, rest) (record { text = behind_is (codes "(") x y e ∙ q.text ∙ ap (λ b. parenthesized b (term_text (length bound) p.0) ++ p.1) (sym a); over = q.over }) l)))
    (λ e g.
    let q = atom_sound s bound x u rest o g in
    record { text = q.text ∙ ap (λ b. parenthesized (not b) (term_text (length bound) u) ++ rest) (sym (atom_plain u q.simple)); over = q.over })

pub operand_sound : (s : Signature) (r : TermReadings) (sound : AreSound s r) → (bound : List Ty) (x : Text) (u : Tm) (rest : Text) → AreTysOver s (tys bound) → operand_step s r bound x ≡ Some (u, rest) → IsRead s bound operand_text x u rest
unfolding operand_step
operand_sound s r sound bound x u rest o h =
    bind_case _ _ _ h (λ p e g.
    let q = head_sound s r sound bound x p.0 p.1 o e in
    let k = sound.onward bound p.0 p.1 u rest o q.over g in
    record { text = q.text ∙ k.text; over = k.over })

-- one more argument
applied_sound : (s : Signature) (r : TermReadings) (sound : AreSound s r) → (bound : List Ty) (t : Tm) (x : Text) (u : Tm) (rest : Text) → AreTysOver s (tys bound) → IsOver s bound t → applied_step s r bound t x ≡ Some (u, rest)
    → IsRead s bound operand_text (operand_text (length bound) t ++ (codes " " ++ x)) u rest
applied_sound s r sound bound t x u rest o ot h =
    bind_case _ _ _ h (λ p e g. when_case _ _ _ g (λ f k. when_case _ _ _ k (λ n l.
    let q = argument_sound s r sound bound x p.0 p.1 o e in
    let z = sound.onward bound (tm_comb t p.0) p.1 u rest o (ot, q.over, fits_is t p.0 f) l in
    record {
      text = ap (λ v. operand_text (length bound) t ++ (codes " " ++ v)) q.text ∙ apart (operand_text (length bound) t) (argument_text (length bound) p.0) p.1
          ∙ ap (λ v. v ++ p.1) (sym (applied_text (length bound) t p.0 (not_true _ n))) ∙ z.text;
      over = z.over;
    })))
  where
    apart : (a b c : Text) → a ++ (codes " " ++ (b ++ c)) ≡ (a ++ codes " " ++ b) ++ c
    apart a b c = simp append_assoc

onward_sound : (s : Signature) (r : TermReadings) (sound : AreSound s r) → (bound : List Ty) (t : Tm) (x : Text) (u : Tm) (rest : Text) → AreTysOver s (tys bound) → IsOver s bound t → behind_operand_step s r bound t x ≡ Some (u, rest)
    → IsRead s bound operand_text (operand_text (length bound) t ++ x) u rest
onward_sound s r sound bound t x u rest o ot h =
    either_case _ _ _ _ h
    (λ y e g. choose_case _ _ _ _ g
    (λ b k. onto s bound operand_text (operand_text (length bound) t ++ x) (operand_text (length bound) t ++ (codes " " ++ y)) u rest (ap (λ v. operand_text (length bound) t ++ v) (behind_is (codes " ") x y e))
    (applied_sound s r sound bound t y u rest o ot k))
    (λ b k. ended k))
    (λ e g. ended g)
  where
    ended : (let p : Tm × Text = (t, x) in let q : Tm × Text = (u, rest) in Some p ≡ Some q) → IsRead s bound operand_text (operand_text (length bound) t ++ x) u rest
    ended g = given (ReadAs s bound operand_text (operand_text (length bound) t ++ x)) (t, x) (u, rest) (record { text = refl; over = ot }) g

-- ---- signs

-- the term that was made has the text
record IsMade (s : Signature) (bound : List Ty) (x : Text) (t : Tm) : Type 0 where
  text : x ≡ term_text (length bound) t
  over : IsOver s bound t

connected_sound : (s : Signature) (bound : List Ty) (c : Name) (args : List Ty) (sign : Text) (a b t : Tm) → sign_between c ≡ between sign → IsOver s bound a → IsOver s bound b → connected s c args a b ≡ Some t
    → IsMade s bound (operand_text (length bound) a ++ sign ++ operand_text (length bound) b) t
connected_sound s bound c args sign a b t e oa ob h =
    bind_case _ _ _ h (λ f k g. when_case _ _ _ g (λ m l. when_case _ _ _ l (λ n j.
    let q = constant_is s c args f k in
    subst Made (sym q.is) (made q.ty q.over) m n j)))
  where
    Made : Tm → Type 0
    Made f = fits f a ≡ true → fits (tm_comb f a) b ≡ true → Some (tm_comb (tm_comb f a) b) ≡ Some t → IsMade s bound (operand_text (length bound) a ++ sign ++ operand_text (length bound) b) t

    made : (ty : Ty) → IsConstOver s c args ty → Made (tm_const c args ty)
    made ty o m n j =
        let f = tm_const c args ty in
        given (IsMade s bound (operand_text (length bound) a ++ sign ++ operand_text (length bound) b)) (tm_comb (tm_comb f a) b) t
        (record { text = sym (connected_text (length bound) c args ty a b sign e); over = ((o, oa, fits_is f a m), ob, fits_is (tm_comb f a) b n) }) j

connected_step_sound : (s : Signature) (r : TermReadings) (sound : AreSound s r) → (bound : List Ty) (c : Name) (args : List Ty) (sign : Text) (a : Tm) (x : Text) (u : Tm) (rest : Text) → sign_between c ≡ between sign → AreTysOver s (tys bound) → IsOver s bound a
    → connected_step s r bound c args a x ≡ Some (u, rest) → IsRead s bound term_text (operand_text (length bound) a ++ (sign ++ x)) u rest
connected_step_sound s r sound bound c args sign a x u rest e o oa h =
    bind_case _ _ _ h (λ p f g. bind_case _ _ _ g (λ t k l.
    let q = operand_sound s r sound bound x p.0 p.1 o f in
    let m = connected_sound s bound c args sign a p.0 t e oa q.over k in
    let A = operand_text (length bound) a in
    given (ReadAs s bound term_text (A ++ (sign ++ x))) (t, p.1) (u, rest)
    (record { text = ap (λ v. A ++ (sign ++ v)) q.text ∙ apart A sign (operand_text (length bound) p.0) p.1 ∙ ap (λ v. v ++ p.1) m.text; over = m.over }) l))
  where
    apart : (a b c d : Text) → a ++ (b ++ (c ++ d)) ≡ (a ++ b ++ c) ++ d
    apart a b c d = simp append_assoc

sign_sound : (s : Signature) (r : TermReadings) (sound : AreSound s r) → (bound : List Ty) (a : Tm) (x : Text) (u : Tm) (rest : Text) → AreTysOver s (tys bound) → IsOver s bound a → sign_step s r bound a x ≡ Some (u, rest)
    → IsRead s bound term_text (operand_text (length bound) a ++ x) u rest
sign_sound s r sound bound a x u rest o oa h =
    either_case _ _ _ _ h (λ y e g. at (codes " = ") y e (connected_step_sound s r sound bound (codes "eq") (tm_type a ∷ []) (codes " = ") a y u rest refl o oa g))
    (λ e g. either_case _ _ _ _ g (λ y e g. at (codes " /\\ ") y e (connected_step_sound s r sound bound (codes "conj") [] (codes " /\\ ") a y u rest refl o oa g))
    (λ e g. either_case _ _ _ _ g (λ y e g. at (codes " \\/ ") y e (connected_step_sound s r sound bound (codes "disj") [] (codes " \\/ ") a y u rest refl o oa g))
    (λ e g. either_case _ _ _ _ g (λ y e g. at (codes " ==> ") y e (connected_step_sound s r sound bound (codes "imp") [] (codes " ==> ") a y u rest refl o oa g))
    (λ e g. when_case _ _ _ g (λ p k. given (ReadAs s bound term_text (operand_text (length bound) a ++ x)) (a, x) (u, rest) (record { text = ap (λ v. v ++ x) (plain_operand (length bound) a p); over = oa }) k)))))
  where
    at : (sign y : Text) → behind sign x ≡ Some y → IsRead s bound term_text (operand_text (length bound) a ++ (sign ++ y)) u rest → IsRead s bound term_text (operand_text (length bound) a ++ x) u rest
    at sign y e q = onto s bound term_text (operand_text (length bound) a ++ x) (operand_text (length bound) a ++ (sign ++ y)) u rest (ap (λ v. operand_text (length bound) a ++ v) (behind_is sign x y e)) q

negated_sound : (s : Signature) (bound : List Ty) (a t : Tm) → IsOver s bound a → negated s a ≡ Some t → IsMade s bound (codes "~ " ++ operand_text (length bound) a) t
negated_sound s bound a t oa h =
    bind_case _ _ _ h (λ f k g. when_case _ _ _ g (λ m j. let q = constant_is s (codes "not") [] f k in subst Made (sym q.is) (made q.ty q.over) m j))
  where
    Made : Tm → Type 0
    Made f = fits f a ≡ true → Some (tm_comb f a) ≡ Some t → IsMade s bound (codes "~ " ++ operand_text (length bound) a) t

    made : (ty : Ty) → IsConstOver s (codes "not") [] ty → Made (tm_const (codes "not") [] ty)
    made ty o m j =
        let f = tm_const (codes "not") [] ty in
        given (IsMade s bound (codes "~ " ++ operand_text (length bound) a)) (tm_comb f a) t (record { text = sym (negated_text (length bound) [] ty a); over = (o, oa, fits_is f a m) }) j

negated_step_sound : (s : Signature) (r : TermReadings) (sound : AreSound s r) → (bound : List Ty) (x : Text) (u : Tm) (rest : Text) → AreTysOver s (tys bound) → negated_step s r bound x ≡ Some (u, rest) → IsRead s bound term_text (codes "~ " ++ x) u rest
negated_step_sound s r sound bound x u rest o h =
    bind_case _ _ _ h (λ p f g. bind_case _ _ _ g (λ t k l.
    let q = operand_sound s r sound bound x p.0 p.1 o f in
    let m = negated_sound s bound p.0 t q.over k in
    given (ReadAs s bound term_text (codes "~ " ++ x)) (t, p.1) (u, rest) (record { text = ap (λ v. codes "~ " ++ v) q.text ∙ ap (λ v. v ++ p.1) m.text; over = m.over }) l))

-- ---- binders

abstracted_sound : (s : Signature) (bound : List Ty) (t : Ty) (b u : Tm) → IsTyOver s t → IsOver s (t ∷ bound) b → abstracted t b ≡ Some u → IsMade s bound (codes "\\" ++ scope_text (length bound) t b) u
abstracted_sound s bound t b u o ob h = given (IsMade s bound (codes "\\" ++ scope_text (length bound) t b)) (tm_abs t b) u (record { text = refl; over = (o, ob) }) h

quantified_sound : (s : Signature) (bound : List Ty) (c : Name) (sign : Text) → sign_before c (sign_binding c) ≡ binding sign → (t : Ty) (b u : Tm) → IsTyOver s t → IsOver s (t ∷ bound) b → quantified s c t b ≡ Some u → IsMade s bound (sign ++ scope_text (length bound) t b) u
quantified_sound s bound c sign e t b u o ob h =
    bind_case _ _ _ h (λ f k g. when_case _ _ _ g (λ m j. let q = constant_is s c (t ∷ []) f k in subst Made (sym q.is) (made q.ty q.over) m j))
  where
    Made : Tm → Type 0
    Made f = fits f (tm_abs t b) ≡ true → Some (tm_comb f (tm_abs t b)) ≡ Some u → IsMade s bound (sign ++ scope_text (length bound) t b) u

    made : (ty : Ty) → IsConstOver s c (t ∷ []) ty → Made (tm_const c (t ∷ []) ty)
    made ty k m j =
        let f = tm_const c (t ∷ []) ty in
        given (IsMade s bound (sign ++ scope_text (length bound) t b)) (tm_comb f (tm_abs t b)) u (record { text = sym (quantified_text (length bound) c (t ∷ []) ty t b sign e); over = (k, (o, ob), fits_is f (tm_abs t b) m) }) j

binder_sound : (s : Signature) (r : TermReadings) (sound : AreSound s r) → (bound : List Ty) (made : Ty → Tm → Option Tm) (front : Text)
    → ((t : Ty) (b u : Tm) → IsTyOver s t → IsOver s (t ∷ bound) b → made t b ≡ Some u → IsMade s bound (front ++ scope_text (length bound) t b) u)
    → (x : Text) (u : Tm) (rest : Text) → AreTysOver s (tys bound) → binder_step s r bound made x ≡ Some (u, rest) → IsRead s bound term_text (front ++ x) u rest
binder_sound s r sound bound made front makes x u rest o h =
    bind_case _ _ _ h (λ y e g. bind_case _ _ _ g (λ z f k. bind_case _ _ _ k (λ p i l. bind_case _ _ _ l (λ v j m. bind_case _ _ _ m (λ q n w. bind_case _ _ _ w (λ t c last.
    let a = reads_type_sound s z p.0 p.1 i in
    let b = sound.whole (p.0 ∷ bound) v q.0 q.1 (a.over, o) n in
    let k = makes p.0 q.0 t a.over b.over c in
    given (ReadAs s bound term_text (front ++ x)) (t, q.1) (u, rest)
    (record {
      text = ap (λ w. front ++ w) (behind_is (bound_text (length bound)) x y e ∙ ap (λ w. bound_text (length bound) ++ w) (behind_is (codes ":") y z f ∙ ap (λ w. codes ":" ++ w) (a.text ∙ ap (λ w. ty_text p.0 ++ w)
          (behind_is (codes ". ") p.1 v j ∙ ap (λ w. codes ". " ++ w) (b.text ∙ ap (λ d. (printed d q.0).whole ++ q.1) one_more)))))
          ∙ apart front (bound_text (length bound)) (ty_text p.0) (printed (length bound + 1) q.0).whole q.1 ∙ ap (λ w. w ++ q.1) k.text;
      over = k.over;
    }) last))))))
  where
    one_more : suc (length bound) ≡ length bound + 1
    one_more = omega arith

    apart : (f a b c d : Text) → f ++ (a ++ (codes ":" ++ (b ++ (codes ". " ++ (c ++ d))))) ≡ (f ++ (a ++ codes ":" ++ b ++ codes ". " ++ c)) ++ d
    apart f a b c d = simp append_assoc

-- ---- whole terms

term_sound : (s : Signature) (r : TermReadings) (sound : AreSound s r) → (bound : List Ty) (x : Text) (u : Tm) (rest : Text) → AreTysOver s (tys bound) → term_step s r bound x ≡ Some (u, rest) → IsRead s bound term_text x u rest
term_sound s r sound bound x u rest o h =
    either_case _ _ _ _ h (λ y e g. at (codes "\\") y e (binder_sound s r sound bound abstracted (codes "\\") (abstracted_sound s bound) y u rest o g))
    (λ e g. either_case _ _ _ _ g (λ y e g. at (codes "!") y e (binder_sound s r sound bound (quantified s (codes "all")) (codes "!") (quantified_sound s bound (codes "all") (codes "!") refl) y u rest o g))
    (λ e g. either_case _ _ _ _ g (λ y e g. at (codes "?") y e (binder_sound s r sound bound (quantified s (codes "ex")) (codes "?") (quantified_sound s bound (codes "ex") (codes "?") refl) y u rest o g))
    (λ e g. either_case _ _ _ _ g (λ y e g. at (codes "~ ") y e (negated_step_sound s r sound bound y u rest o g))
    (λ e g. bind_case _ _ _ g (λ p f k.
    let q = operand_sound s r sound bound x p.0 p.1 o f in
    onto s bound term_text x (operand_text (length bound) p.0 ++ p.1) u rest q.text (sign_sound s r sound bound p.0 p.1 u rest o q.over k))))))
  where
    at : (sign y : Text) → behind sign x ≡ Some y → IsRead s bound term_text (sign ++ y) u rest → IsRead s bound term_text x u rest
    at sign y e q = onto s bound term_text x (sign ++ y) u rest (behind_is sign x y e) q

pub are_sound : (s : Signature) (n : ℕ) → AreSound s (terms_below s n)
unfolding terms_below
are_sound s zero = record { whole = λ bound x t rest o h. cc; onward = λ bound t x u rest o k h. cc }
are_sound s (suc n) = record { whole = term_sound s (terms_below s n) (are_sound s n); onward = onward_sound s (terms_below s n) (are_sound s n) }

pub reads_term_sound : (s : Signature) (bound : List Ty) (x : Text) (t : Tm) (rest : Text) → AreTysOver s (tys bound) → reads_term s bound x ≡ Some (t, rest) → IsRead s bound term_text x t rest
unfolding reads_term
reads_term_sound s bound x t rest o h = (are_sound s (length x + 1)).whole bound x t rest o h
