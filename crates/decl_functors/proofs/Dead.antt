-- Dead arguments, one at a time.
use Rattle.std.proofs.Common.{◌≡◌, ℕ, ◌+◌, ◌<◌, ◌≤◌, Bool, true, false, ◌||◌, ◌==◌, List, [], ◌∷◌, length, map, get_or, drop, refl, arith, add-one, drop-cons, drop_of_length-le, if◌then◌else◌, bytes_eq}
use Rattle.std.specs.List.{list_any}
use Rattle.hol_terms.specs.Name.{Name}
use Rattle.hol_terms.specs.Ty.{Ty, ty_app, tys}
use Rattle.hol_terms.specs.Typing.{fun_name}
use Rattle.hol_terms.specs.TyVars.{occurs}
use Rattle.hol_terms.proofs.Lists.{ty_size-at}
use Rattle.decl_core.specs.Declaration.{Ctor, Decl, type_of}
use Rattle.decl_core.specs.Functors.{Lives, lives_of, same_type}
use Rattle.decl_core.specs.Liveness.{is_countable, lives_here, dead_in, dead_in_any, dead_in_ctor, dead_in_decl}

pub among-at : (a : Ty) (ds : List Decl) (i : ℕ) (d : Decl) → i < length ds → list_any (same_type a) (map type_of (drop i ds)) ≡ (same_type a (type_of (get_or ds i d)) || list_any (same_type a) (map type_of (drop (i + 1) ds)))
among-at a ds i d h = rw (add-one, drop-cons ds i d h) refl

pub among-end : (a : Ty) (ds : List Decl) (i : ℕ) → length ds ≤ i → list_any (same_type a) (map type_of (drop i ds)) ≡ false
among-end a ds i h = rw (drop_of_length-le ds h) refl

pub ruleset among_lemmas = (among-at, among-end)

pub dead_in-group : (ls : Lives) (g : List Ty) (p c : Name) (ts : List Ty) → list_any (same_type (ty_app c (tys ts))) g ≡ true → dead_in ls g p (ty_app c (tys ts)) ≡ false
dead_in-group ls g p c ts h = rw h refl

pub dead_in-app : (ls : Lives) (g : List Ty) (p c : Name) (ts : List Ty) → list_any (same_type (ty_app c (tys ts))) g ≡ false → dead_in ls g p (ty_app c (tys ts)) ≡ dead_in_any ls g p (lives_here ls c (tys ts)) (tys ts)
dead_in-app ls g p c ts h = rw h refl

pub lives_here-fun : (ls : Lives) (c : Name) (ts : List Ty) (d : Ty) → bytes_eq c fun_name ≡ true → (length ts == 0) ≡ false → lives_here ls c (tys ts) ≡ false ∷ is_countable (get_or ts 0 d) ∷ []
lives_here-fun ls c [] d h k = absurd (grind arith)
lives_here-fun ls c (t ∷ ts) d h k = rw h refl

pub lives_here-other : (ls : Lives) (c : Name) (ts : List Ty) → bytes_eq c fun_name ≡ false → lives_here ls c (tys ts) ≡ lives_of ls c
lives_here-other ls c [] h = refl
lives_here-other ls c (t ∷ ts) h = rw h refl

pub lives_here-none : (ls : Lives) (c : Name) (ts : List Ty) → (length ts == 0) ≡ true → lives_here ls c (tys ts) ≡ lives_of ls c
lives_here-none ls c [] h = refl
lives_here-none ls c (t ∷ ts) h = absurd (grind arith)

pub dead_in_any-at : (ls : Lives) (g : List Ty) (p : Name) (bs : List Bool) (ts : List Ty) (i : ℕ) (b : Bool) (d : Ty) → i < length bs → i < length ts
    → dead_in_any ls g p (drop i bs) (tys (drop i ts)) ≡ ((if get_or bs i b then dead_in ls g p (get_or ts i d) else occurs p (get_or ts i d)) || dead_in_any ls g p (drop (i + 1) bs) (tys (drop (i + 1) ts)))
dead_in_any-at ls g p bs ts i b d h k = rw (add-one, drop-cons bs i b h, drop-cons ts i d k) refl

pub dead_in_any-end : (ls : Lives) (g : List Ty) (p : Name) (bs : List Bool) (ts : List Ty) (i : ℕ) → length ts ≤ i → dead_in_any ls g p (drop i bs) (tys (drop i ts)) ≡ false
dead_in_any-end ls g p bs ts i h = rw (drop_of_length-le ts h) refl

pub dead_in_any-short : (ls : Lives) (g : List Ty) (p : Name) (bs : List Bool) (ts : List Ty) (i : ℕ) (d : Ty) → length bs ≤ i → i < length ts → dead_in_any ls g p (drop i bs) (tys (drop i ts)) ≡ false
dead_in_any-short ls g p bs ts i d h k = rw (drop_of_length-le bs h, drop-cons ts i d k) refl

pub ruleset dead_lemmas = (dead_in-group, dead_in-app, lives_here-fun, lives_here-other, lives_here-none, dead_in_any-at, dead_in_any-end, dead_in_any-short, ty_size-at)

pub ctors-at : (ls : Lives) (g : List Ty) (p : Name) (cs : List Ctor) (i : ℕ) (d : Ctor) → i < length cs
    → list_any (dead_in_ctor ls g p) (drop i cs) ≡ (dead_in_ctor ls g p (get_or cs i d) || list_any (dead_in_ctor ls g p) (drop (i + 1) cs))
ctors-at ls g p cs i d h = rw (add-one, drop-cons cs i d h) refl

pub ctors-end : (ls : Lives) (g : List Ty) (p : Name) (cs : List Ctor) (i : ℕ) → length cs ≤ i → list_any (dead_in_ctor ls g p) (drop i cs) ≡ false
ctors-end ls g p cs i h = rw (drop_of_length-le cs h) refl

pub decls-at : (ls : Lives) (g : List Ty) (p : Name) (ds : List Decl) (i : ℕ) (d : Decl) → i < length ds
    → list_any (dead_in_decl ls g p) (drop i ds) ≡ (dead_in_decl ls g p (get_or ds i d) || list_any (dead_in_decl ls g p) (drop (i + 1) ds))
decls-at ls g p ds i d h = rw (add-one, drop-cons ds i d h) refl

pub decls-end : (ls : Lives) (g : List Ty) (p : Name) (ds : List Decl) (i : ℕ) → length ds ≤ i → list_any (dead_in_decl ls g p) (drop i ds) ≡ false
decls-end ls g p ds i h = rw (drop_of_length-le ds h) refl

pub ruleset group_lemmas = (ctors-at, ctors-end, decls-at, decls-end)
