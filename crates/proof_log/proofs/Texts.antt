-- Lists of pairs in a line, a pair at a time.
use Rattle.std.proofs.Common.{◌≡◌, ℕ, suc, Bool, true, false, append-nil, ◌+◌, ◌<◌, ◌≤◌, List, [], ◌∷◌, ◌++◌, append_assoc, length, get_or, drop, drop-cons, drop_of_length-le, add-one, refl, map, codes, string_bytes, String}
use Rattle.std.specs.declared.alloc.Global.{Global}
use Rattle.std.specs.List.{flat_map}
use Rattle.hol_terms.specs.Name.{Name, is_segment}
use Rattle.hol_terms.specs.Ty.{Ty}
use Rattle.hol_terms.specs.Tm.{Tm, FreeVar}
use Rattle.hol_terms.specs.Subst.{TySubst, ty_pairs}
use Rattle.hol_terms.specs.Text.{Text}
use Rattle.hol_logs.specs.Step.{with_semicolons, type_pair_text, pair_text}
use Rattle.proof_log.specs.Lines.{segment_pairs, written_pairs, separator}

-- each text behind a semicolon
abbrev pub behind_semicolons : List Text → Text
behind_semicolons xs = flat_map (λ y. codes " ; " ++ y) xs

-- what is left to write of types for variables, behind another pair or as the first
abbrev pub with_pairs : Bool → TySubst → Text
with_pairs false s = with_semicolons (map type_pair_text (written_pairs s))
with_pairs true s = behind_semicolons (map type_pair_text (segment_pairs s))

abbrev pub types_left : Bool → List (String Global × Ty) → Text
types_left some ps = with_pairs some (ty_pairs ps)

kept : (some : Bool) (n : Name) (t : Ty) (s : TySubst) → is_segment n ≡ true
    → with_pairs some ((n, t) ∷ s) ≡ separator some ++ (type_pair_text (n, t) ++ with_pairs true s)
kept true n t s h = rw h refl
kept false n t s h = rw h refl

skipped : (some : Bool) (n : Name) (t : Ty) (s : TySubst) → is_segment n ≡ false → with_pairs some ((n, t) ∷ s) ≡ with_pairs some s
skipped true n t s h = rw h refl
skipped false n t s h = rw h refl

pub types_left-kept : (some : Bool) (ps : List (String Global × Ty)) (i : ℕ) (d : String Global × Ty) → i < length ps → is_segment (string_bytes (get_or ps i d).0) ≡ true
    → types_left some (drop i ps) ≡ separator some ++ (type_pair_text (string_bytes (get_or ps i d).0, (get_or ps i d).1) ++ types_left true (drop (i + 1) ps))
types_left-kept some ps i d h k = rw (add-one, drop-cons ps i d h) (kept some (string_bytes (get_or ps i d).0) (get_or ps i d).1 (ty_pairs (drop (suc i) ps)) k)

pub types_left-skipped : (some : Bool) (ps : List (String Global × Ty)) (i : ℕ) (d : String Global × Ty) → i < length ps → is_segment (string_bytes (get_or ps i d).0) ≡ false
    → types_left some (drop i ps) ≡ types_left some (drop (i + 1) ps)
types_left-skipped some ps i d h k = rw (add-one, drop-cons ps i d h) (skipped some (string_bytes (get_or ps i d).0) (get_or ps i d).1 (ty_pairs (drop (suc i) ps)) k)

pub types_left-some : (ps : List (String Global × Ty)) (i : ℕ) → length ps ≤ i → types_left true (drop i ps) ≡ []
types_left-some ps i h = rw (drop_of_length-le ps h) refl

pub types_left-none : (ps : List (String Global × Ty)) (i : ℕ) → length ps ≤ i → types_left false (drop i ps) ≡ codes "'a := 'a"
types_left-none ps i h = rw (drop_of_length-le ps h) refl

pub pair_texts-at : (ps : List (FreeVar × Tm)) (i : ℕ) (d : FreeVar × Tm) → i < length ps
    → behind_semicolons (map pair_text (drop i ps)) ≡ codes " ; " ++ (pair_text (get_or ps i d) ++ behind_semicolons (map pair_text (drop (i + 1) ps)))
pair_texts-at ps i d h = rw (add-one, drop-cons ps i d h) refl

pub pair_texts-end : (ps : List (FreeVar × Tm)) (i : ℕ) → length ps ≤ i → behind_semicolons (map pair_text (drop i ps)) ≡ []
pair_texts-end ps i h = rw (drop_of_length-le ps h) refl

pub ruleset joined = (append_assoc)

pub ruleset pair_lemmas = (append_assoc, pair_texts-at, pair_texts-end)

pub ruleset type_pair_lemmas = (append_assoc, append-nil, types_left-kept, types_left-skipped, types_left-some, types_left-none)
