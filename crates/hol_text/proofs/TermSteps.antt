-- One level of the recursion on terms, and one turn of the loop over atoms.
use Rattle.std.proofs.Common.{◌≡◌, refl, sym, ap, ◌∙◌, ℕ, zero, suc, ◌-◌, ◌<◌, List, Bool, true, false, arith}
use Rattle.hol_terms.specs.Signature.{Signature}
use Rattle.hol_terms.specs.Tokens.{Kind, Token, head_kind, head_place}
use Rattle.hol_terms.specs.Meaning.{Operand, apply}
use Rattle.hol_text.specs.Reads.{Fails}
use Rattle.hol_text.specs.declared.types.Stop.{Stop}
use Rattle.hol_text.specs.declared.types.Stop.TheVariants.{Memory, Grammar}
use Rattle.hol_terms.specs.Reading.{Front, ◌>>=◌, got, stop, Scope, begins_atom, atoms_by, atoms_at, term_by, term_at}

pub term_step : (s : Signature) (n : ℕ) (b : Scope) (ts : List Token) → 0 < n →
    term_at s n b ts ≡ term_by (head_kind ts) s (term_at s (n - 1)) (n - 1) b ts
unfolding term_at
term_step s zero b ts h = absurd (omega arith)
term_step s (suc n) b ts h =
    let e : n ≡ suc n - 1 = omega arith in
    ap (λ (k : ℕ). term_by (head_kind ts) s (term_at s k) k b ts) e

pub term_none : (s : Signature) (b : Scope) (ts : List Token) → term_at s 0 b ts ≡ stop (head_place ts)
unfolding term_at
term_none s b ts = refl

pub atoms_step : (read : List Token → Front Operand) (k : ℕ) (f : Operand) (ts : List Token) → 0 < k →
    atoms_at read k f ts ≡ atoms_by (begins_atom (head_kind ts)) read (atoms_at read (k - 1)) f ts
unfolding atoms_at
atoms_step read zero f ts h = absurd (omega arith)
atoms_step read (suc k) f ts h =
    let e : k ≡ suc k - 1 = omega arith in
    ap (λ (n : ℕ). atoms_by (begins_atom (head_kind ts)) read (atoms_at read n) f ts) e

atoms_none : (read : List Token → Front Operand) (k : ℕ) (f : Operand) (ts : List Token) → k ≡ 0 → atoms_at read k f ts ≡ stop (head_place ts)
unfolding atoms_at
atoms_none read zero f ts h = refl
atoms_none read (suc k) f ts h = absurd (omega arith)

pub begins-is : (r b : Bool) (j k : Kind) → r ≡ begins_atom j → j ≡ k → r ≡ b → begins_atom k ≡ b
begins-is r b j k e q h = sym (ap begins_atom q) ∙ sym e ∙ h

-- ---- the loop over atoms: what is read by a turn, and by the turns that are left

pub atoms-over : (read : List Token → Front Operand) (k : ℕ) (f : Operand) (ts : List Token) (whole : Front Operand) → 0 < k →
    begins_atom (head_kind ts) ≡ false → atoms_at read k f ts ≡ whole → whole ≡ got f ts
atoms-over read k f ts whole l e h =
    sym h ∙ atoms_step read k f ts l ∙ ap (λ (b : Bool). atoms_by b read (atoms_at read (k - 1)) f ts) e

one_more : (read : List Token → Front Operand) (k : ℕ) (f : Operand) (ts : List Token) → 0 < k → begins_atom (head_kind ts) ≡ true →
    atoms_at read k f ts ≡ (read ts >>= (λ x rest. atoms_at read (k - 1) (apply f x) rest))
one_more read k f ts l e = atoms_step read k f ts l ∙ ap (λ (b : Bool). atoms_by b read (atoms_at read (k - 1)) f ts) e

pub atoms-go_on : (read : List Token → Front Operand) (k : ℕ) (f g x : Operand) (ts rest : List Token) (whole : Front Operand) → 0 < k →
    begins_atom (head_kind ts) ≡ true → read ts ≡ got x rest → g ≡ apply f x → atoms_at read k f ts ≡ whole → atoms_at read (k - 1) g rest ≡ whole
atoms-go_on read k f g x ts rest whole l e r q h =
    rw q (sym (ap (λ (o : Front Operand). o >>= (λ y us. atoms_at read (k - 1) (apply f y) us)) r) ∙ sym (one_more read k f ts l e) ∙ h)

pub atoms-fail : (e : Stop) (read : List Token → Front Operand) (k : ℕ) (f : Operand) (ts : List Token) (whole : Front Operand) → 0 < k →
    begins_atom (head_kind ts) ≡ true → Fails e (read ts) → atoms_at read k f ts ≡ whole → Fails e whole
atoms-fail Memory read k f ts whole l b r h = tt
atoms-fail (Grammar p) read k f ts whole l b r h =
    sym h ∙ one_more read k f ts l b ∙ ap (λ (o : Front Operand). o >>= (λ y us. atoms_at read (k - 1) (apply f y) us)) r

pub atoms-end : (e : Stop) (read : List Token → Front Operand) (k : ℕ) (f : Operand) (ts : List Token) (whole : Front Operand) → k ≡ 0 →
    e ≡ Grammar (head_place ts) → atoms_at read k f ts ≡ whole → Fails e whole
atoms-end e read k f ts whole z q h = rw q (sym h ∙ atoms_none read k f ts z)

pub ruleset term_lemmas = (term_step, term_none)
