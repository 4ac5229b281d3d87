-- Pairs of type variables and arguments, one at a time.
use Rattle.std.proofs.Common.{◌≡◌, ℕ, ◌+◌, ◌<◌, List, [], ◌∷◌, ◌++◌, length, drop, get_or, refl, ap, sym, ◌∙◌, add-one, drop-cons}
use Rattle.hol_terms.specs.Name.{Name}
use Rattle.hol_terms.specs.Ty.{Ty}
use Rattle.hol_terms.specs.TyVars.{pairs_of, var_name}
use Rattle.flat_terms.specs.declared.nodes.NameId.{NameId}
use Rattle.flat_terms.specs.declared.nodes.TypeId.{TypeId}
use Rattle.flat_terms.specs.Plain.{PlainTables, HasName, HasType, name_of, type_of, types_of}
use Rattle.flat_instances.specs.Types.{HasTypePairs, type_pairs}

pub pairs_pushed : (t : PlainTables) (ps : List (NameId × TypeId)) (n : NameId) (a : TypeId) → HasTypePairs t ps → HasName t n → HasType t a → HasTypePairs t (ps ++ (n, a) ∷ [])
pairs_pushed t [] n a h hn ha = (hn, ha, tt)
pairs_pushed t (p ∷ ps) n a h hn ha = (h.0, h.1, pairs_pushed t ps n a h.2 hn ha)

type_pairs_pushed : (t : PlainTables) (ps : List (NameId × TypeId)) (n : NameId) (a : TypeId) (rest : List (Name × Ty)) → type_pairs t (ps ++ (n, a) ∷ []) ++ rest ≡ type_pairs t ps ++ (name_of t n, type_of t a) ∷ rest
type_pairs_pushed t [] n a rest = refl
type_pairs_pushed t (p ∷ ps) n a rest = ap (λ l. (name_of t p.0, type_of t p.1) ∷ l) (type_pairs_pushed t ps n a rest)

pub pairs_further : (t : PlainTables) (ps : List (NameId × TypeId)) (vs us : List TypeId) (i : ℕ) (d e : TypeId) (n : NameId) → i < length vs → i < length us → name_of t n ≡ var_name (type_of t (get_or vs i d))
    → type_pairs t ps ++ pairs_of (types_of t (drop i vs)) (types_of t (drop i us)) ≡ type_pairs t (ps ++ (n, get_or us i e) ∷ []) ++ pairs_of (types_of t (drop (i + 1) vs)) (types_of t (drop (i + 1) us))
pairs_further t ps vs us i d e n h k named = sym (type_pairs_pushed t ps n (get_or us i e) (pairs_of (types_of t (drop (i + 1) vs)) (types_of t (drop (i + 1) us))) ∙ ap (λ l. type_pairs t ps ++ l) one)
  where
    ahead : (l : List TypeId) (x : TypeId) → i < length l → drop i l ≡ get_or l i x ∷ drop (i + 1) l
    ahead l x q = rw (add-one, drop-cons l i x q) refl

    one : (name_of t n, type_of t (get_or us i e)) ∷ pairs_of (types_of t (drop (i + 1) vs)) (types_of t (drop (i + 1) us)) ≡ pairs_of (types_of t (drop i vs)) (types_of t (drop i us))
    one = (λ j. (named j, type_of t (get_or us i e)) ∷ pairs_of (types_of t (drop (i + 1) vs)) (types_of t (drop (i + 1) us))) ∙ (λ j. pairs_of (types_of t (sym (ahead vs d h) j)) (types_of t (sym (ahead us e k) j)))
