-- The canonical text of a variable and of a constant is read as it.
use Rattle.std.proofs.Common.{◌≡◌, ◌≢◌, refl, sym, ap, ◌∙◌, subst, ℕ, zero, suc, ◌+◌, ◌-◌, ◌<◌, ◌^◌, Bool, true, false, not, List, [], ◌∷◌, ◌++◌, append_assoc, Option, Some, None, length, length-append, slice_get, eq-eqb, arith}
use Rattle.std.specs.Prelude.{◌==◌, codes, bytes_eq, is_some}
use Rattle.std.specs.List.{list_all}
use Rattle.std.specs.Fmt.{decimal}
use Rattle.std.specs.Char.{is_ascii_digit, digit_value}
use Rattle.std.specs.Str.Parse.{AllDigits}
use Rattle.std.proofs.lemmas.Bool.{and_parts, and_from}
use Rattle.std.proofs.lemmas.Bool.Decides.{nat_tests}
use Rattle.std.proofs.lemmas.Fmt.{decimal_is_IsNumeral, decimal_injective}
use Rattle.std.proofs.lemmas.Slice.Eq.{bytes_eq-Decides}
use Rattle.hol_terms.specs.Name.{Name, is_name, is_numbered}
use Rattle.hol_terms.specs.Ty.{Ty, ty_var, ty_app, Tys, no_tys, more_tys, tys, ty_list, ty_list-tys}
use Rattle.hol_terms.specs.Tm.{tm_index, tm_free, tm_const, FreeVar}
use Rattle.hol_terms.specs.TyVars.{ty_vars, instance_at}
use Rattle.hol_terms.specs.Signature.{Signature, tys_count, IsTyOver, AreTysOver, IsConstOver}
use Rattle.hol_terms.specs.Text.{Text, ty_text, bound_text}
use Rattle.hol_terms.specs.ReadsBack.{ReadsBack}
use Rattle.strict_reading.specs.Steps.{◌>>=◌, when}
use Rattle.strict_reading.specs.Words.{is_word_byte, begins_word, ends_word, behind}
use Rattle.strict_reading.specs.Types.{has_arity, reads_type}
use Rattle.strict_reading.specs.Terms.{is_type_over, are_types_over, one_further, binder_by, binder_at, constant, free_step, arguments_step, constant_step, named_step, atom, begins_argument, ends_atom, reads_free}
use Rattle.strict_reading.proofs.Steps.{bind_some, when_true, either_none, either_some}
use Rattle.strict_reading.proofs.Words.{is_word, word_case, behind_first, begins_long}
use Rattle.strict_reading.proofs.NameWords.{IsNameWord, name_word, begins_append, bytes_word}
use Rattle.strict_reading.proofs.TypesSound.{more_text, not_true}
use Rattle.strict_reading.proofs.TypesComplete.{AreNamed, has_arity-from, more_ends, reads_type_complete, reads_types_complete}
use Rattle.strict_reading.proofs.TermSteps.{nothing, StartsAtom, AtomReads, ReadsTm, atom_reads}

-- ---- numbered words

digit_is : (c : ℕ) → digit_value c < 10 → is_ascii_digit c ≡ true
digit_is c h = grind (arith, nat_tests)

digits_are : (ds : List ℕ) → AllDigits 10 ds → list_all is_ascii_digit ds ≡ true
digits_are [] h = refl
digits_are (c ∷ ds) h = and_from _ _ (digit_is c h.0) (digits_are ds h.1)

decimal_digits : (n : ℕ) → n < 2 ^ 64 → list_all is_ascii_digit (decimal n) ≡ true
decimal_digits n h = digits_are (decimal n) (decimal_is_IsNumeral n h).0.1

digit_byte : (c : ℕ) → is_ascii_digit c ≡ true → is_word_byte c ≡ true
digit_byte c h = grind (arith, nat_tests)

digit_bytes : (ds : List ℕ) → list_all is_ascii_digit ds ≡ true → list_all is_word_byte ds ≡ true
digit_bytes [] h = refl
digit_bytes (c ∷ ds) h = let p = and_parts (is_ascii_digit c) (list_all is_ascii_digit ds) h in and_from (is_word_byte c) (list_all is_word_byte ds) (digit_byte c p.0) (digit_bytes ds p.1)

bound_word : (d : ℕ) → d < 2 ^ 64 → is_word (bound_text d) ≡ true
bound_word d h = bytes_word (bound_text d) (and_from (is_word_byte 120) (list_all is_word_byte (decimal d)) refl (digit_bytes (decimal d) (decimal_digits d h)))

nonempty : (n : ℕ) → 0 < n → not (n == 0) ≡ true
nonempty n h = grind (arith, nat_tests)

bound_numbered : (d : ℕ) → d < 2 ^ 64 → is_numbered (bound_text d) ≡ true
bound_numbered d h = and_from _ _ (nonempty (length (decimal d)) (decimal_is_IsNumeral d h).0.0) (decimal_digits d h)

behind_x : (b : ℕ) (m n : List ℕ) → b ∷ m ≡ b ∷ n → m ≡ n
behind_x b m n e = cc

bound_apart : (m n : ℕ) → m < 2 ^ 64 → n < 2 ^ 64 → m ≢ n → bytes_eq (bound_text m) (bound_text n) ≡ false
bound_apart m n h g ne = at (bytes_eq (bound_text m) (bound_text n)) refl
  where
    at : (b : Bool) → bytes_eq (bound_text m) (bound_text n) ≡ b → b ≡ false
    at false e = refl
    at true e = absurd (ne (decimal_injective m n h g (behind_x 120 (decimal m) (decimal n) ((bytes_eq-Decides (bound_text m) (bound_text n)).0 e))))

-- ---- bound variables

in_range : (bound : List Ty) (i : ℕ) (t : Ty) → slice_get bound i ≡ Some t → i < length bound
in_range [] i t e = cc
in_range (u ∷ bound) zero t e = omega arith
in_range (u ∷ bound) (suc i) t e = let h = in_range bound i t e in omega arith

binder_first : (bound : List Ty) (u : Ty) → binder_at (u ∷ bound) (bound_text (length bound)) ≡ Some (0, u)
unfolding binder_at
binder_first bound u = ap (λ b. binder_by b u (binder_at bound (bound_text (length bound)))) ((bytes_eq-Decides (bound_text (length bound)) (bound_text (length bound))).1 refl)

binder_next : (bound : List Ty) (u : Ty) (w : Name) (i : ℕ) (t : Ty) → bytes_eq w (bound_text (length bound)) ≡ false → binder_at bound w ≡ Some (i, t) → binder_at (u ∷ bound) w ≡ Some (suc i, t)
unfolding binder_at
binder_next bound u w i t e h = ap (λ b. binder_by b u (binder_at bound w)) e ∙ ap one_further h

found : (bound : List Ty) (i : ℕ) (t : Ty) → slice_get bound i ≡ Some t → length bound < 2 ^ 64 → binder_at bound (bound_text (length bound - (i + 1))) ≡ Some (i, t)
found [] i t e h = cc
found (u ∷ bound) zero t e h =
    let k : length (u ∷ bound) - (0 + 1) ≡ length bound = omega arith in
    let f : u ≡ t = cc in
    let g : Ty → Option (ℕ × Ty) = λ v. Some (0, v) in
    ap (λ n. binder_at (u ∷ bound) (bound_text n)) k ∙ binder_first bound u ∙ ap g f
found (u ∷ bound) (suc i) t e h =
    let r = in_range bound i t e in
    let m = length bound - (i + 1) in
    let k : length (u ∷ bound) - (suc i + 1) ≡ m = omega arith in
    let ne : m ≢ length bound = λ f. omega arith in
    ap (λ n. binder_at (u ∷ bound) (bound_text n)) k
    ∙ binder_next bound u (bound_text m) i t (bound_apart m (length bound) (omega arith) (omega arith) ne) (found bound i t e (omega arith))

-- no binder of them is called so
not_bound : (bound : List Ty) (c : Name) → length bound < 2 ^ 64 → is_numbered c ≡ false → binder_at bound c ≡ None
unfolding binder_at
not_bound [] c h f = refl
not_bound (t ∷ bound) c h f = at (not_bound bound c (omega arith) f) (bytes_eq c (bound_text (length bound))) refl
  where
    unlike : true ≡ false → ⊥
    unlike e = cc

    at : binder_at bound c ≡ None → (b : Bool) → bytes_eq c (bound_text (length bound)) ≡ b → binder_by b t (binder_at bound c) ≡ None
    at g true e = absurd (unlike (sym (bound_numbered (length bound) (omega arith)) ∙ ap is_numbered (sym ((bytes_eq-Decides c (bound_text (length bound))).0 e)) ∙ f))
    at g false e = ap one_further g

atom_ends : (x : Text) → ends_atom x ≡ true → (ends_word x ≡ true) × (behind (codes "{") x ≡ None)
atom_ends x h = let p = and_parts (ends_word x) (not (is_some (behind (codes "{") x))) h in (p.0, nothing _ (not_true _ p.1))

index_atom : (s : Signature) (bound : List Ty) (i : ℕ) (t : Ty) → slice_get bound i ≡ Some t → length bound < 2 ^ 64 → AtomReads s bound (tm_index i t)
unfolding atom behind
index_atom s bound i t e h =
    let m = length bound - (i + 1) in
    record {
      starts = λ rest. record { begins = refl; bare = refl };
      nonempty = omega arith;
      reads = λ rest f.
          either_none _ _ _ refl
          ∙ when_true _ _ refl
          ∙ word_case (λ w y. named_step s bound w y) (bound_text m) rest (bound_word m (omega arith)) (atom_ends rest f).0
          ∙ either_some _ _ _ _ (found bound i t e h);
    }

pub index_reads : (s : Signature) (bound : List Ty) (i : ℕ) (t : Ty) → slice_get bound i ≡ Some t → length bound < 2 ^ 64 → ReadsTm s bound (tm_index i t)
index_reads s bound i t e h = atom_reads s bound (tm_index i t) refl (index_atom s bound i t e h)

-- ---- free variables

abbrev free_by : Signature → Text → Text → Option (FreeVar × Text)
free_by s w x = when (is_name w) (behind (codes ":") x >>= (λ y. reads_type s y >>= (λ p. behind (codes "]") p.1 >>= (λ z. Some (record { name = w; ty = p.0 }, z)))))

free_is : (s : Signature) → AreNamed s → (v : FreeVar) → is_name v.name ≡ true → IsTyOver s v.ty → (rest : Text) → free_step s (v.name ++ (codes ":" ++ (ty_text v.ty ++ (codes "]" ++ rest)))) ≡ Some (v, rest)
unfolding behind
free_is s named v n o rest =
    word_case (λ w y. free_by s w y) v.name (codes ":" ++ (ty_text v.ty ++ (codes "]" ++ rest))) (name_word v.name n).word refl
    ∙ when_true _ _ n ∙ bind_some _ _ _ refl ∙ bind_some _ _ _ (reads_type_complete s named v.ty (codes "]" ++ rest) o refl) ∙ bind_some _ _ rest refl

free_apart : (a b c : Text) → (codes "[" ++ a ++ codes ":" ++ b ++ codes "]") ++ c ≡ codes "[" ++ (a ++ (codes ":" ++ (b ++ (codes "]" ++ c))))
free_apart a b c = simp append_assoc

free_atom : (s : Signature) (bound : List Ty) → AreNamed s → (v : FreeVar) → is_name v.name ≡ true → IsTyOver s v.ty → AtomReads s bound (tm_free v)
unfolding atom behind
free_atom s bound named v n o = record {
  starts = λ rest. record { begins = refl; bare = refl };
  nonempty = omega arith;
  reads = λ rest f.
      ap (λ y. atom s bound y) (free_apart v.name (ty_text v.ty) rest)
      ∙ either_some _ _ _ (v.name ++ (codes ":" ++ (ty_text v.ty ++ (codes "]" ++ rest)))) refl ∙ bind_some _ _ _ (free_is s named v n o rest);
}

pub free_reads : (s : Signature) (bound : List Ty) → AreNamed s → (v : FreeVar) → is_name v.name ≡ true → IsTyOver s v.ty → ReadsTm s bound (tm_free v)
free_reads s bound named v n o = atom_reads s bound (tm_free v) refl (free_atom s bound named v n o)

-- ---- constants

mutual
  is_type_over-from : (s : Signature) (t : Ty) → IsTyOver s t → is_type_over s t ≡ true
  is_type_over-from s (ty_var n) h = h
  is_type_over-from s (ty_app c ts) h = and_from (has_arity s c (tys_count ts)) (are_types_over s ts) (has_arity-from s c (tys_count ts) h.0) (are_types_over-from s ts h.1)

  are_types_over-from : (s : Signature) (ts : Tys) → AreTysOver s ts → are_types_over s ts ≡ true
  are_types_over-from s no_tys h = refl
  are_types_over-from s (more_tys t ts) h = and_from (is_type_over s t) (are_types_over s ts) (is_type_over-from s t h.0) (are_types_over-from s ts h.1)

pub constant_from : (s : Signature) (c : Name) (ts : List Ty) (ty : Ty) → IsConstOver s c ts ty → constant s c ts ≡ Some (tm_const c ts ty)
unfolding constant
constant_from s c ts ty o =
    bind_some _ _ _ o.known ∙ when_true _ _ (eq-eqb (length ts) (length (ty_vars o.generic [])) o.as_many) ∙ when_true _ _ (are_types_over-from s (tys ts) o.over)
    ∙ when_true _ _ (is_type_over-from s (instance_at o.generic ts) (subst (IsTyOver s) o.instance o.ty_over)) ∙ ap (λ v. Some (tm_const c ts v)) (sym o.instance)

word_argument : (x : Text) → begins_word x ≡ true → begins_argument x ≡ true
word_argument [] h = cc
word_argument (c ∷ x) h = rw h refl

name_starts : (c rest : Text) → IsNameWord c → StartsAtom (c ++ rest)
name_starts c rest w = let b = begins_append c rest w.begins in record { begins = word_argument (c ++ rest) b; bare = behind_first 40 [] (c ++ rest) refl b }

-- behind a name that is no bound variable
named_constant : (s : Signature) (bound : List Ty) (c : Name) (x : Text) → IsNameWord c → binder_at bound c ≡ None → ends_word x ≡ true → atom s bound (c ++ x) ≡ constant_step s c x
unfolding atom
named_constant s bound c x w h e =
    either_none _ _ _ (behind_first 91 [] (c ++ x) refl (begins_append c x w.begins)) ∙ when_true _ _ (begins_append c x w.begins) ∙ word_case (λ w y. named_step s bound w y) c x w.word e ∙ either_none _ _ _ h

plain_atom : (s : Signature) (bound : List Ty) (c : Name) (ty : Ty) → IsNameWord c → binder_at bound c ≡ None → IsConstOver s c [] ty → AtomReads s bound (tm_const c [] ty)
plain_atom s bound c ty w h o = record {
  starts = λ rest. name_starts c rest w;
  nonempty = begins_long c w.begins;
  reads = λ rest f.
      let e = atom_ends rest f in
      named_constant s bound c rest w h e.0 ∙ either_none _ _ _ e.1 ∙ bind_some _ _ _ (constant_from s c [] ty o);
}

arguments_are : (s : Signature) → AreNamed s → (c : Name) (t : Ty) (us : List Ty) (ty : Ty) → IsConstOver s c (t ∷ us) ty → (rest : Text)
    → arguments_step s c (ty_text t ++ (more_text (tys us) ++ (codes "}" ++ rest))) ≡ Some (tm_const c (t ∷ us) ty, rest)
unfolding behind
arguments_are s named c t us ty o rest =
    let over : IsTyOver s t × AreTysOver s (tys us) = o.over in
    let args : constant s c (t ∷ ty_list (tys us)) ≡ Some (tm_const c (t ∷ us) ty) = ap (λ vs. constant s c (t ∷ vs)) (ty_list-tys us) ∙ constant_from s c (t ∷ us) ty o in
    bind_some _ _ _ (reads_type_complete s named t (more_text (tys us) ++ (codes "}" ++ rest)) over.0 (more_ends (tys us) (codes "}" ++ rest) refl))
    ∙ bind_some _ _ _ (reads_types_complete s named (tys us) (codes "}" ++ rest) over.1 refl refl) ∙ bind_some _ _ rest refl ∙ bind_some _ _ _ args

braced_atom : (s : Signature) (bound : List Ty) → AreNamed s → (c : Name) (t : Ty) (us : List Ty) (ty : Ty) → IsNameWord c → binder_at bound c ≡ None → IsConstOver s c (t ∷ us) ty → AtomReads s bound (tm_const c (t ∷ us) ty)
unfolding behind
braced_atom s bound named c t us ty w h o = record {
  starts = λ rest. subst StartsAtom (sym (apart c (ty_text t) (more_text (tys us)) rest)) (name_starts c (codes "{" ++ (ty_text t ++ (more_text (tys us) ++ (codes "}" ++ rest)))) w);
  nonempty =
      let k = begins_long c w.begins in
      let x = ty_text t ++ more_text (tys us) in
      omega (arith, length-append (c ++ codes "{" ++ x) (codes "}"), length-append (c ++ codes "{") x, length-append c (codes "{"));
  reads = λ rest f.
      let y = ty_text t ++ (more_text (tys us) ++ (codes "}" ++ rest)) in
      ap (λ z. atom s bound z) (apart c (ty_text t) (more_text (tys us)) rest)
      ∙ named_constant s bound c (codes "{" ++ y) w h refl ∙ either_some _ _ _ y refl ∙ arguments_are s named c t us ty o rest;
}
  where
    apart : (a b c d : Text) → (a ++ codes "{" ++ (b ++ c) ++ codes "}") ++ d ≡ a ++ (codes "{" ++ (b ++ (c ++ (codes "}" ++ d))))
    apart a b c d = simp append_assoc

pub constant_reads : (s : Signature) (bound : List Ty) (c : Name) (ts : List Ty) (ty : Ty) → ReadsBack s → length bound < 2 ^ 64 → IsConstOver s c ts ty → ReadsTm s bound (tm_const c ts ty)
constant_reads s bound c [] ty b h o =
    atom_reads s bound (tm_const c [] ty) refl (plain_atom s bound c ty (name_word c (b.constants_named c o.generic o.known)) (not_bound bound c h (b.unnumbered c o.generic o.known)) o)
constant_reads s bound c (t ∷ us) ty b h o =
    atom_reads s bound (tm_const c (t ∷ us) ty) refl (braced_atom s bound b.types_named c t us ty (name_word c (b.constants_named c o.generic o.known)) (not_bound bound c h (b.unnumbered c o.generic o.known)) o)

-- ---- a free variable alone

pub reads_free_complete : (s : Signature) → AreNamed s → (v : FreeVar) (rest : Text) → is_name v.name ≡ true → IsTyOver s v.ty → reads_free s ((codes "[" ++ v.name ++ codes ":" ++ ty_text v.ty ++ codes "]") ++ rest) ≡ Some (v, rest)
unfolding reads_free behind
reads_free_complete s named v rest n o =
    ap (λ y. reads_free s y) (free_apart v.name (ty_text v.ty) rest) ∙ bind_some _ _ (v.name ++ (codes ":" ++ (ty_text v.ty ++ (codes "]" ++ rest)))) refl ∙ free_is s named v n o rest
