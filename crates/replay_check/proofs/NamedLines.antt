-- The base line, and the lines that name theorems.
use Rattle.std.proofs.Common.{◌≡◌, ℕ, ◌+◌, Bool, true, false, cond, not, ◌&&◌, ◌||◌, ◌==◌, List, [], ◌∷◌, ◌++◌, Some, codes, length, nat_lt, refl, sym, ap, ◌∙◌, subst, arith, append-nil}
use Rattle.std.specs.Prelude.{String, string_bytes, Vec}
use Rattle.std.specs.Vec.{vec_len}
use Rattle.std.specs.Fmt.{decimal, digits}
use Rattle.std.specs.declared.alloc.Global.{Global}
use Rattle.std.proofs.lemmas.Bool.{not-false}
use Rattle.std.proofs.lemmas.List.{length-map, length-append, nil_from_length}
use Rattle.hol_terms.specs.Definition.{Definition}
use Rattle.hol_terms.specs.Rules.{same}
use Rattle.hol_terms.specs.Base.{base, base_definitions}
use Rattle.hol_terms.specs.Text.{theorem_line}
use Rattle.hol_logs.specs.Step.{numeral, are_base}
use Rattle.hol_logs.specs.Line.{line_base, line_name}
use Rattle.hol_logs.specs.Position.{is_off_base, is_too_early, states, by_base, by_text, first_cause}
use Rattle.hol_logs.proofs.BaseStands.{base_is, are_base-from}
use Rattle.hol_logs.proofs.Standing.{Stands}
use Rattle.flat_lines.specs.declared.numbers.Number.{Number}
use Rattle.flat_lines.specs.declared.numbers.Number.TheVariants.{Small, Huge}
use Rattle.flat_lines.specs.Numbers.{IsNumber}
use Rattle.flat_terms.specs.Plain.{PlainTables, name_of, term_of}
use Rattle.flat_terms.specs.declared.nodes.NameId.{NameId}
use Rattle.flat_terms.specs.declared.nodes.TermId.{TermId}
use Rattle.flat_rules.specs.declared.sequent.FlatSequent.{FlatSequent}
use Rattle.flat_rules.specs.Sequents.{sequent_of}
use Rattle.replay_check.specs.declared.position.Position.{Position}
use Rattle.replay_check.specs.declared.why.Verdict.TheVariants.{Good}
use Rattle.base_count.specs.InForce.{in_force}
use Rattle.replay_check.specs.Definitions.{definitions_of, definition_of, sequents_of}
use Rattle.replay_check.specs.Steps.{is_there, IsAt}
use Rattle.replay_check.specs.Positions.{log_position, IsPosition, IsInside, IsVerdict}
use Rattle.replay_check.proofs.Taking.{placed}
use Rattle.replay_check.proofs.Giving.{stands_at}
use Rattle.replay_check.proofs.SameNumbers.{same_by}
use Rattle.replay_check.proofs.Verdicts.{base_bad, base_good, name_other, name_good, position_is, adds_nothing, or_false}

-- ---- the base line

always : (b : Bool) → cond b true true ≡ true
always true = refl
always false = refl

no_and : (b : Bool) → (b && false) ≡ false
no_and true = refl
no_and false = refl

off : (p : Position) (m : ℕ) → ((m == 33) && are_base in_force (definitions_of p.tables p.definitions.items)) ≡ false → is_off_base in_force (log_position p) (line_base m) ≡ true
off p m e = ap (λ b. cond p.is_based true (not b)) e ∙ always p.is_based

pub base_again : (p : Position) (m : ℕ) → IsInside p → p.is_based ≡ true → first_cause in_force (log_position p) (line_base m) ≡ Some by_base
base_again p m h e = base_bad in_force m (log_position p) (placed p h) (ap (λ b. cond b true (is_too_early in_force (log_position p) (line_base m))) e)

pub base_miscounted : (p : Position) (m : ℕ) → IsInside p → (m == 33) ≡ false → first_cause in_force (log_position p) (line_base m) ≡ Some by_base
base_miscounted p m h e = base_bad in_force m (log_position p) (placed p h) (off p m (ap (λ b. b && are_base in_force (definitions_of p.tables p.definitions.items)) e))

long : length (base in_force) ≡ 33
unfolding base_definitions
long = refl

not_base : (ds : List Definition) → (length ds ≡ 33 → ⊥) → are_base in_force ds ≡ false
not_base ds h = at (are_base in_force ds) refl
  where
    at : (b : Bool) → are_base in_force ds ≡ b → are_base in_force ds ≡ false
    at true e = absurd (h (ap length (base_is in_force ds e) ∙ long))
    at false e = e

pub base_missing : (p : Position) (m : ℕ) → IsInside p → (length p.definitions.items ≡ 33 → ⊥) → first_cause in_force (log_position p) (line_base m) ≡ Some by_base
base_missing p m h e =
    let ds = definitions_of p.tables p.definitions.items in
    let none = not_base ds (λ k. e (sym (length-map p.definitions.items (definition_of p.tables)) ∙ k)) in
    base_bad in_force m (log_position p) (placed p h) (off p m (ap (λ b. (m == 33) && b) none ∙ no_and (m == 33)))

whole : (ds : List Definition) → Stands in_force false ds → length ds ≡ 33 → ds ≡ base in_force
whole ds p h =
    let sizes : length (base in_force) ≡ length ds + length p.0 = ap length p.1 ∙ length-append ds p.0 in
    let size = long in
    let nothing : p.0 ≡ [] = nil_from_length p.0 (omega arith) in
    sym (p.1 ∙ ap (λ m. ds ++ m) nothing ∙ append-nil ds)

thirty_three : decimal 33 ≡ numeral 33
unfolding digits numeral
thirty_three = refl

pub base_taken : (p : Position) (m : ℕ) (s : String Global) → IsPosition p → IsInside p → p.is_based ≡ false → m ≡ 33 → length p.definitions.items ≡ 33 → string_bytes s ≡ codes "base " ++ decimal 33
    → IsVerdict p record { tables = p.tables; signature = p.signature; definitions = p.definitions; sequents = p.sequents; lines = p.lines + 1; is_based = true; is_over = p.is_over } (line_base m) (Good (Some s))
base_taken p m s h i b e k t =
    let ds = definitions_of p.tables p.definitions.items in
    let all : ds ≡ base in_force = whole ds (subst (λ b. Stands in_force b ds) b h.stands) (length-map p.definitions.items (definition_of p.tables) ∙ k) in
    let fits : ((m == 33) && are_base in_force ds) ≡ true = (λ j. (e j == 33) && are_base-from in_force ds all j) in
    let good : is_off_base in_force (log_position p) (line_base m) ≡ false = (λ j. cond (b j) true (not (fits j))) in (
      base_good in_force m (log_position p) (placed p i) good,
      record { signature = h.signature; plain = h.plain; definitions = h.definitions; sequents = h.sequents; named = h.named; stands = ([], all ∙ sym (append-nil (base in_force))) },
      position_is (log_position p) (line_base m) (adds_nothing ds) (adds_nothing (sequents_of p.tables p.sequents.items)) (omega arith) (sym (ap (λ b. b || true) b)) (or_false p.is_over),
      ap (λ x. x ∷ []) (t ∙ ap (λ x. codes "base " ++ x) thirty_three ∙ ap (λ n. codes "base " ++ numeral n) (sym e)),
    )

-- ---- named theorems

pub step_there : (t : PlainTables) (qs : List FlatSequent) (i : Number) (n : ℕ) → IsNumber i n → is_there (length qs) i ≡ true → (not (nat_lt n (length (sequents_of t qs))) || false) ≡ false
step_there t qs (Small m) n i e =
    ap (λ k. not (nat_lt k (length (sequents_of t qs))) || false) (sym i) ∙ ap (λ k. not (nat_lt m k) || false) (length-map qs (sequent_of t)) ∙ ap (λ b. not b || false) e
step_there t qs Huge n i e = cc

some_hypothesis : (t : PlainTables) (q : FlatSequent) (n : TermId) → (length q.hyps.items == 0) ≡ false → states (sequent_of t q) (term_of t n) ≡ false
some_hypothesis t q n e = ap (λ k. (k == 0) && same (term_of t q.concl) (term_of t n)) (length-map q.hyps.items (term_of t)) ∙ ap (λ b. b && same (term_of t q.concl) (term_of t n)) e

another : (t : PlainTables) (q : FlatSequent) (n : TermId) (r : Bool) → r ≡ false → r ≡ same (term_of t q.concl) (term_of t n) → states (sequent_of t q) (term_of t n) ≡ false
another t q n r e s = ap (λ b. (length (sequent_of t q).hyps == 0) && b) (sym s ∙ e) ∙ no_and _

the_same : (t : PlainTables) (q : FlatSequent) (n : TermId) (r : Bool) → (length q.hyps.items == 0) ≡ true → r ≡ true → r ≡ same (term_of t q.concl) (term_of t n) → states (sequent_of t q) (term_of t n) ≡ true
the_same t q n r h e s = (λ j. (length-map q.hyps.items (term_of t) j == 0) && same (term_of t q.concl) (term_of t n)) ∙ (λ j. h j && (sym s ∙ e) j)

pub counted : (qs : Vec FlatSequent Global) (i : Number) (k : ℕ) (b : Bool) → k ≡ vec_len qs → b ≡ not (is_there k i) → b ≡ false → is_there (length qs.items) i ≡ true
counted qs i k b l e f = not-false (is_there (length qs.items) i) (ap (λ n. not (is_there n i)) (sym (l ∙ qs.ok.0)) ∙ sym e ∙ f)

pub emptiness : (ns : Vec TermId Global) (b c : Bool) → b ≡ (vec_len ns == 0) → b ≡ c → (length ns.items == 0) ≡ c
emptiness ns b c e f = ap (λ n. n == 0) (sym ns.ok.0) ∙ sym e ∙ f

-- the line names that step, which stands
pub record Names (p : Position) (step : Number) (q : FlatSequent) : Type 0 where
  pub inside : IsInside p
  pub there : is_there (length p.sequents.items) step ≡ true
  pub at : IsAt p.sequents.items step q
  pub based : p.is_based ≡ true

named_other : (p : Position) (c : NameId) (step : Number) (n : TermId) (q : FlatSequent) (i : ℕ) → Names p step q → IsNumber step i → states (sequent_of p.tables q) (term_of p.tables n) ≡ false
    → first_cause in_force (log_position p) (line_name (name_of p.tables c) i (term_of p.tables n)) ≡ Some by_text
named_other p c step n q i h k s =
    name_other in_force (log_position p) (name_of p.tables c) i (term_of p.tables n) (placed p h.inside) (step_there p.tables p.sequents.items step i k h.there) h.based
    (ap (λ a. states a (term_of p.tables n)) (stands_at p.tables p.sequents.items step q i h.at k) ∙ s)

pub named_with_hypotheses : (p : Position) (c : NameId) (step : Number) (n : TermId) (q : FlatSequent) (i : ℕ) → Names p step q → IsNumber step i → (length q.hyps.items == 0) ≡ false
    → first_cause in_force (log_position p) (line_name (name_of p.tables c) i (term_of p.tables n)) ≡ Some by_text
named_with_hypotheses p c step n q i h k e = named_other p c step n q i h k (some_hypothesis p.tables q n e)

pub named_another : (p : Position) (c : NameId) (step : Number) (n : TermId) (q : FlatSequent) (i : ℕ) (r : Bool) → Names p step q → IsNumber step i → r ≡ false
    → (r ≡ true → term_of p.tables q.concl ≡ term_of p.tables n) → (term_of p.tables q.concl ≡ term_of p.tables n → r ≡ true)
    → first_cause in_force (log_position p) (line_name (name_of p.tables c) i (term_of p.tables n)) ≡ Some by_text
named_another p c step n q i r h k e there back = named_other p c step n q i h k (another p.tables q n r e (same_by (term_of p.tables q.concl) (term_of p.tables n) r there back))

pub name_taken : (p : Position) (c : NameId) (step : Number) (n : TermId) (q : FlatSequent) (i : ℕ) (r : Bool) (s : String Global) → IsPosition p → Names p step q → IsNumber step i → (length q.hyps.items == 0) ≡ true → r ≡ true
    → (r ≡ true → term_of p.tables q.concl ≡ term_of p.tables n) → (term_of p.tables q.concl ≡ term_of p.tables n → r ≡ true) → string_bytes s ≡ theorem_line (name_of p.tables c) (term_of p.tables n)
    → IsVerdict p record { tables = p.tables; signature = p.signature; definitions = p.definitions; sequents = p.sequents; lines = p.lines + 1; is_based = p.is_based; is_over = p.is_over }
    (line_name (name_of p.tables c) i (term_of p.tables n)) (Good (Some s))
name_taken p c step n q i r s g h k z e there back t =
    let l = line_name (name_of p.tables c) i (term_of p.tables n) in (
      name_good in_force (log_position p) (name_of p.tables c) i (term_of p.tables n) (placed p h.inside) (step_there p.tables p.sequents.items step i k h.there) h.based
          (ap (λ a. states a (term_of p.tables n)) (stands_at p.tables p.sequents.items step q i h.at k) ∙ the_same p.tables q n r z e (same_by (term_of p.tables q.concl) (term_of p.tables n) r there back)),
      record { signature = g.signature; plain = g.plain; definitions = g.definitions; sequents = g.sequents; named = g.named; stands = g.stands },
      position_is (log_position p) l (adds_nothing (definitions_of p.tables p.definitions.items)) (adds_nothing (sequents_of p.tables p.sequents.items)) (omega arith) (or_false p.is_based) (or_false p.is_over),
      ap (λ x. x ∷ []) t,
    )
