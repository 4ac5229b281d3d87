-- A walk that collects type variables passes by the types of which all were seen.
use Rattle.std.proofs.Common.{◌≡◌, inl, inr, Result, Ok, Err, OnOk, ℕ, Bool, true, false, ◌||◌, if◌then◌else◌, List, [], ◌∷◌, ◌++◌, nat_eq, refl, ap, sym, subst, ◌∙◌, true≢false}
use Rattle.std.specs.List.{list_any}
use Rattle.std.specs.Ordering.{is_eq}
use Rattle.std.proofs.lemmas.Bool.{eqb-true, or_left, or_right}
use Rattle.hol_terms.specs.Name.{Name}
use Rattle.hol_terms.specs.Ty.{Ty, ty_var, ty_app, Tys, no_tys, more_tys}
use Rattle.hol_terms.specs.Subst.{ty_cmp}
use Rattle.hol_terms.specs.TyVars.{is_among, with_var, ty_vars, tys_vars}
use Rattle.flat_terms.specs.declared.nodes.TypeId.{TypeId}
use Rattle.flat_terms.specs.Plain.{PlainTables, type_of}
use Rattle.flat_signatures.specs.Over.{IsTypeAdded}
use Rattle.flat_signatures.specs.Walked.{IsSeen, AreSeen, AllWalked}
use Rattle.flat_signatures.proofs.VariableSteps.{is_same}

-- what was seen is still seen
abbrev pub Gains : List Ty → List Ty → Type 0
Gains s u = (v : Ty) → is_among v s ≡ true → is_among v u ≡ true

among_pushed : (v w : Ty) (s : List Ty) → is_among v s ≡ true → is_among v (s ++ w ∷ []) ≡ true
among_pushed v w [] e = absurd (true≢false (sym e))
among_pushed v w (u ∷ s) e = at (is_eq (ty_cmp u v)) (among_pushed v w s) e
  where
    at : (b : Bool) → (is_among v s ≡ true → is_among v (s ++ w ∷ []) ≡ true) → (b || is_among v s) ≡ true → (b || is_among v (s ++ w ∷ [])) ≡ true
    at true f h = refl
    at false f h = f h

among_last : (v : Ty) (s : List Ty) → is_among v (s ++ v ∷ []) ≡ true
among_last v [] = or_left (is_eq (ty_cmp v v)) false (is_same v v refl)
among_last v (u ∷ s) = or_right (is_eq (ty_cmp u v)) _ (among_last v s)

pub with_var_gains : (w : Ty) (s : List Ty) → Gains s (with_var w s)
with_var_gains w s v h = at (is_among w s)
  where
    at : (b : Bool) → is_among v (if b then s else s ++ w ∷ []) ≡ true
    at true = h
    at false = among_pushed v w s h

with_var_has : (w : Ty) (s : List Ty) → is_among w (with_var w s) ≡ true
with_var_has w s = at (is_among w s) refl
  where
    at : (b : Bool) → is_among w s ≡ b → is_among w (if b then s else s ++ w ∷ []) ≡ true
    at true e = e
    at false e = among_last w s

mutual
  pub vars_gain : (x : Ty) (s : List Ty) → Gains s (ty_vars x s)
  vars_gain (ty_var n) s v h = with_var_gains (ty_var n) s v h
  vars_gain (ty_app n ts) s v h = all_vars_gain ts s v h

  pub all_vars_gain : (ts : Tys) (s : List Ty) → Gains s (tys_vars ts s)
  all_vars_gain no_tys s v h = h
  all_vars_gain (more_tys t ts) s v h = all_vars_gain ts (ty_vars t s) v (vars_gain t s v h)

mutual
  pub seen_later : (x : Ty) (s u : List Ty) → Gains s u → IsSeen s x → IsSeen u x
  seen_later (ty_var n) s u g h = g (ty_var n) h
  seen_later (ty_app n ts) s u g h = all_seen_later ts s u g h

  pub all_seen_later : (ts : Tys) (s u : List Ty) → Gains s u → AreSeen s ts → AreSeen u ts
  all_seen_later no_tys s u g h = tt
  all_seen_later (more_tys t ts) s u g h = (seen_later t s u g h.0, all_seen_later ts s u g h.1)

mutual
  pub seen_then : (x : Ty) (s : List Ty) → IsSeen (ty_vars x s) x
  seen_then (ty_var n) s = with_var_has (ty_var n) s
  seen_then (ty_app n ts) s = all_seen_then ts s

  pub all_seen_then : (ts : Tys) (s : List Ty) → AreSeen (tys_vars ts s) ts
  all_seen_then no_tys s = tt
  all_seen_then (more_tys t ts) s = (seen_later t (ty_vars t s) (tys_vars ts (ty_vars t s)) (all_vars_gain ts (ty_vars t s)) (seen_then t s), all_seen_then ts (ty_vars t s))

mutual
  pub seen_stay : (x : Ty) (s : List Ty) → IsSeen s x → ty_vars x s ≡ s
  seen_stay (ty_var n) s h = ap (λ b. if b then s else s ++ ty_var n ∷ []) h
  seen_stay (ty_app n ts) s h = all_seen_stay ts s h

  pub all_seen_stay : (ts : Tys) (s : List Ty) → AreSeen s ts → tys_vars ts s ≡ s
  all_seen_stay no_tys s h = refl
  all_seen_stay (more_tys t ts) s h = ap (tys_vars ts) (seen_stay t s h.0) ∙ all_seen_stay ts s h.1

-- ---- the types that were walked

pub walked_later : (t : PlainTables) (s u : List Ty) (ns : List TypeId) → Gains s u → AllWalked t s ns → AllWalked t u ns
walked_later t s u [] g h = tt
walked_later t s u (n ∷ ns) g h = (seen_later (type_of t n) s u g h.0, walked_later t s u ns g h.1)

pub listed_seen : (t : PlainTables) (s : List Ty) (ns : List TypeId) (n : TypeId) → AllWalked t s ns → list_any (λ m. nat_eq n.0 m.0) ns ≡ true → IsSeen s (type_of t n)
listed_seen t s [] n l e = absurd (true≢false (sym e))
listed_seen t s (m ∷ ns) n l e = at (nat_eq n.0 m.0) refl (listed_seen t s ns n l.1) e
  where
    at : (b : Bool) → nat_eq n.0 m.0 ≡ b → (list_any (λ k. nat_eq n.0 k.0) ns ≡ true → IsSeen s (type_of t n)) → (b || list_any (λ k. nat_eq n.0 k.0) ns) ≡ true → IsSeen s (type_of t n)
    at true same later h = subst (λ (k : ℕ). IsSeen s (type_of t (record { 0 = k }))) (sym (eqb-true n.0 m.0 same)) l.0
    at false same later h = later h

push_walked : (t : PlainTables) (s : List Ty) (ns : List TypeId) (n : TypeId) → AllWalked t s ns → IsSeen s (type_of t n) → AllWalked t s (ns ++ n ∷ [])
push_walked t s [] n l e = (e, tt)
push_walked t s (m ∷ ns) n l e = (l.0, push_walked t s ns n l.1 e)

pub added_walked : (t : PlainTables) (s : List Ty) (old new : List TypeId) (n : TypeId) → AllWalked t s old → IsSeen s (type_of t n) → IsTypeAdded old new n → AllWalked t s new
added_walked t s old new n l e (inl q) = subst (λ (ns : List TypeId). AllWalked t s ns) (sym q) l
added_walked t s old new n l e (inr q) = subst (λ (ns : List TypeId). AllWalked t s ns) (sym q) (at (list_any (λ m. nat_eq n.0 m.0) old))
  where
    at : (b : Bool) → AllWalked t s (if b then old else old ++ n ∷ [])
    at true = l
    at false = push_walked t s old n l e

-- a variable that was added
pub walked_var : (t : PlainTables) (s u : List Ty) (v : Ty) (ns : List TypeId) → u ≡ with_var v s → AllWalked t s ns → AllWalked t u ns
walked_var t s u v ns e h = subst (λ (w : List Ty). AllWalked t w ns) (sym e) (walked_later t s (with_var v s) ns (with_var_gains v s) h)

-- an application whose arguments were walked
pub app_seen : (s u : List Ty) (x : Ty) (c : Name) (ts : Tys) → x ≡ ty_app c ts → u ≡ tys_vars ts s → IsSeen u x
app_seen s u x c ts e w = subst (λ (y : Ty). IsSeen u y) (sym e) (subst (λ (z : List Ty). AreSeen z ts) (sym w) (all_seen_then ts s))

pub on_ok_always : {A E : Type 0} (r : Result A E) (P : Type 0) → P → OnOk r P
on_ok_always (Ok x) P p = p
on_ok_always (Err e) P p = tt
