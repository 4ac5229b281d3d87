-- The names that a type definition introduces.
use Rattle.std.proofs.Common.{◌≡◌, ℕ, suc, Bool, true, false, cond, not, ◌&&◌, List, [], ◌∷◌, ◌++◌, Option, Some, None, Result, length, bytes_eq, refl, sym, ap, ◌∙◌}
use Rattle.std.specs.Prelude.{is_none}
use Rattle.std.proofs.lemmas.Bool.{and_parts}
use Rattle.std.specs.Result.{OnOk}
use Rattle.std.proofs.lemmas.Result.{on_ok_weaker}
use Rattle.hol_terms.specs.Name.{Name, is_name, is_numbered, dot_abs, dot_rep}
use Rattle.hol_terms.specs.Ty.{Ty, tys}
use Rattle.hol_terms.specs.Tm.{Tm}
use Rattle.hol_terms.specs.Typing.{tm_type, fun_ty, domain_ty}
use Rattle.hol_terms.specs.Definition.{bool_ty, new_type, abs_ty, rep_ty, type_def, with_def}
use Rattle.hol_terms.specs.TyVars.{tm_ty_vars}
use Rattle.hol_terms.specs.Signature.{Signature, entry_at, arity_of, generic_of, is_new, may_introduce, tys_count}
use Rattle.hol_terms.specs.TypeNames.{may_introduce_type}
use Rattle.hol_terms.specs.Table.{with_type, with_const}
use Rattle.hol_terms.proofs.Tables.{abs_is_not_rep}
use Rattle.flat_terms.specs.Plain.{PlainTables, HasName, HasType, HasTerm, name_of, type_of, types_of, term_of}
use Rattle.flat_terms.specs.Views.{AreParts}
use Rattle.flat_instances.specs.Types.{IsTypeNumber}
use Rattle.flat_instances.specs.TablesGrow.{TablesGrow}
use Rattle.replay_check.specs.declared.definitions.BridgeTypes.{BridgeTypes}
use Rattle.replay_check.specs.Bridges.{AreBridgeTypes, with_bridge}
use Rattle.flat_terms.specs.declared.nodes.NameId.{NameId}
use Rattle.flat_terms.specs.declared.nodes.TypeId.{TypeId}
use Rattle.flat_terms.specs.declared.nodes.TermId.{TermId}
use Rattle.flat_instances.proofs.TablesGrow.{tables_grow_further}
use Rattle.flat_signatures.specs.FlatNames.{FlatNames, plain_signature, HasSignature}
use Rattle.flat_signatures.proofs.Signatures.{signature_same}

pub counted : (t : PlainTables) (ns : List TypeId) → length ns ≡ tys_count (tys (types_of t ns))
counted t [] = refl
counted t (n ∷ ns) = ap suc (counted t ns)

domains : (a b c d : Ty) → fun_ty a b ≡ fun_ty c d → a ≡ c
domains a b c d e = ap domain_ty e

-- the types of a new type's functions, one made after the other
pub bridge_types : (s t u v : PlainTables) (n : Name) (p : Tm) (y d r : TypeId) (b : BridgeTypes) → HasType s y → type_of s y ≡ tm_type p → AreParts s (type_of s y) d r → tm_type p ≡ fun_ty (domain_ty (tm_type p)) bool_ty
    → TablesGrow s t → TablesGrow t u → TablesGrow u v → IsTypeNumber t b.new (new_type n p) → IsTypeNumber u b.abs (fun_ty (type_of t d) (type_of t b.new)) → IsTypeNumber v b.rep (fun_ty (type_of u b.new) (type_of u d))
    → AreBridgeTypes v n p b
bridge_types s t u v n p y d r b h e parts i g k l new abs rep =
    let domain : type_of s d ≡ domain_ty (tm_type p) = domains (type_of s d) (type_of s r) (domain_ty (tm_type p)) bool_ty (sym parts.2 ∙ e ∙ i) in
    let domain_t : type_of t d ≡ domain_ty (tm_type p) = g.same_type d parts.0 ∙ domain in
    let domain_u : type_of u d ≡ domain_ty (tm_type p) = k.same_type d (g.has_type d parts.0) ∙ domain_t in
    let new_u : type_of u b.new ≡ new_type n p = k.same_type b.new new.has ∙ new.tree in
    record {
      new = record { has = l.has_type b.new (k.has_type b.new new.has); tree = l.same_type b.new (k.has_type b.new new.has) ∙ new_u };
      to = record { has = l.has_type b.abs abs.has; tree = l.same_type b.abs abs.has ∙ abs.tree ∙ (λ j. fun_ty (domain_t j) (new.tree j)) };
      from = record { has = rep.has; tree = rep.tree ∙ (λ j. fun_ty (new_u j) (domain_u j)) };
    }

-- ---- the names are new, one after the other

entry_further : {A : Type 0} (es : List (Name × A)) (m n : Name) (x : A) → entry_at es n ≡ None → bytes_eq m n ≡ false → entry_at (es ++ (m, x) ∷ []) n ≡ None
entry_further [] m n x e f = ap (λ b. cond b (Some x) None) f
entry_further (p ∷ es) m n x e f = at (bytes_eq p.0 n) refl e (λ g. entry_further es m n x g f)
  where
    at : (b : Bool) → bytes_eq p.0 n ≡ b → cond (bytes_eq p.0 n) (Some p.1) (entry_at es n) ≡ None → (entry_at es n ≡ None → entry_at (es ++ (m, x) ∷ []) n ≡ None) → cond (bytes_eq p.0 n) (Some p.1) (entry_at (es ++ (m, x) ∷ []) n) ≡ None
    at true s h k = absurd (some_none p.1 (ap (λ b. cond b (Some p.1) (entry_at es n)) (sym s) ∙ h))
      where
        some_none : {A : Type 0} (y : A) → Some y ≡ None → ⊥
        some_none y g = cc
    at false s h k = ap (λ b. cond b (Some p.1) (entry_at (es ++ (m, x) ∷ []) n)) s ∙ k (ap (λ b. cond b (Some p.1) (entry_at es n)) (sym s) ∙ h)

none_from : {A : Type 0} (o : Option A) → is_none o ≡ true → o ≡ None
none_from None e = refl
none_from (Some x) e = cc

pub rep_is_new : (s : Signature) (n : Name) → may_introduce_type s n ≡ true → generic_of s (dot_rep n) ≡ None
rep_is_new s n e =
    let rep = (and_parts (may_introduce s n && may_introduce s (dot_abs n)) (may_introduce s (dot_rep n)) e).1 in
    let new = (and_parts (is_name (dot_rep n) && not (is_numbered (dot_rep n))) (is_new s (dot_rep n)) rep).1 in
    none_from (generic_of s (dot_rep n)) (and_parts (is_none (arity_of s (dot_rep n))) (is_none (generic_of s (dot_rep n))) new).1

-- the second function's name is new behind the first
pub rep_behind_abs : (s r q : Signature) (n m l : Name) (k : ℕ) (to : Ty) → may_introduce_type s n ≡ true → r ≡ with_type s n k → m ≡ dot_abs n → q ≡ with_const r m to → l ≡ dot_rep n → generic_of q l ≡ None
rep_behind_abs s r q n m l k to e f a g b =
    let found = entry_further s.consts (dot_abs n) (dot_rep n) to (rep_is_new s n e) (abs_is_not_rep n) in
    ap (λ (x : Signature). generic_of x l) g ∙ ap (λ (x : Signature). generic_of (with_const x m to) l) f ∙ (λ i. entry_at (s.consts ++ (a i, to) ∷ []) (b i)) ∙ found

pub still_new : (t u : PlainTables) (s : FlatNames) (n : NameId) → TablesGrow t u → HasSignature t s → HasName t n → may_introduce_type (plain_signature t s) (name_of t n) ≡ true → may_introduce_type (plain_signature u s) (name_of u n) ≡ true
still_new t u s n g h k e = (λ i. may_introduce_type (signature_same t u s g h i) (g.same_name n k i)) ∙ e

tys_length : (ts : List Ty) → tys_count (tys ts) ≡ length ts
tys_length [] = refl
tys_length (t ∷ ts) = ap suc (tys_length ts)

bridged : (s : Signature) (n : Name) (p : Tm) → with_bridge s n (new_type n p) (abs_ty n p) (rep_ty n p) ≡ with_def s (type_def n p)
bridged s n p = λ i. record { types = s.types ++ (n, tys_length (tm_ty_vars p []) i) ∷ []; consts = s.consts ++ (dot_abs n, abs_ty n p) ∷ (dot_rep n, rep_ty n p) ∷ [] }

-- the signature with the new names is that of the definition
pub defined_type : (s t u : PlainTables) (a b : FlatNames) (n : NameId) (p : TermId) (y : BridgeTypes) {A E : Type 0} (result : Result A E) → TablesGrow s t → TablesGrow t u → HasSignature s a → HasName s n → HasTerm s p
    → AreBridgeTypes t (name_of s n) (term_of s p) y
    → OnOk result (plain_signature u b ≡ with_bridge (plain_signature u a) (name_of u n) (type_of u y.new) (type_of u y.abs) (type_of u y.rep))
    → OnOk result (plain_signature u b ≡ with_def (plain_signature s a) (type_def (name_of s n) (term_of s p)))
defined_type s t u a b n p y result g h sig name pred types = on_ok_weaker result (λ e. e ∙ (λ i. with_bridge (same i) (named i) (new i) (to i) (from i)) ∙ bridged (plain_signature s a) (name_of s n) (term_of s p))
  where
    all : TablesGrow s u
    all = tables_grow_further s t u g h

    same : plain_signature u a ≡ plain_signature s a
    same = signature_same s u a all sig

    named : name_of u n ≡ name_of s n
    named = all.same_name n name

    new : type_of u y.new ≡ new_type (name_of s n) (term_of s p)
    new = h.same_type y.new types.new.has ∙ types.new.tree

    to : type_of u y.abs ≡ abs_ty (name_of s n) (term_of s p)
    to = h.same_type y.abs types.to.has ∙ types.to.tree

    from : type_of u y.rep ≡ rep_ty (name_of s n) (term_of s p)
    from = h.same_type y.rep types.from.has ∙ types.from.tree
