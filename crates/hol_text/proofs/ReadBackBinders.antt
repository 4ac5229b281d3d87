-- Bound variables: their numbered names, what they are read as, and that binding them again gives the index.
use Rattle.std.proofs.Common.{◌≡◌, ◌≢◌, ℕ, zero, suc, ◌+◌, ◌-◌, ◌<◌, ◌≤◌, ◌^◌, Bool, true, false, not, ◌&&◌, List, [], ◌∷◌, ◌++◌, length, Some, None, slice_get, cond, refl, ap, sym, ◌∙◌, subst, add-one, arith}
use Rattle.std.specs.Prelude.{◌==◌, nat_lt, codes, bytes_eq}
use Rattle.std.specs.List.{list_all, list_any}
use Rattle.std.specs.Fmt.{decimal}
use Rattle.std.specs.Char.{is_ascii_digit, digit_value}
use Rattle.std.specs.Str.{chars, is_utf8}
use Rattle.std.specs.Str.Parse.{AllDigits}
use Rattle.std.proofs.lemmas.Bool.{and_parts, and_from}
use Rattle.std.proofs.lemmas.Bool.Decides.{nat_tests}
use Rattle.std.proofs.lemmas.Fmt.{decimal_is_IsNumeral, decimal_injective}
use Rattle.std.proofs.lemmas.Slice.Eq.{bytes_eq-Decides}
use Rattle.unicode_ident.proofs.IdentLemmas.{is_xid_start-ascii}
use Rattle.hol_terms.specs.Name.{Name, is_name, is_keyword, is_numbered}
use Rattle.hol_terms.specs.Ty.{Ty}
use Rattle.hol_terms.specs.Tm.{Tm, tm_index, tm_free, tm_const, tm_comb, tm_abs, FreeVar}
use Rattle.hol_terms.specs.Typing.{tm_type, fun_ty, range_ty}
use Rattle.hol_terms.specs.Binding.{tm_bind, var_eq}
use Rattle.hol_terms.specs.Signature.{Signature, IsOver}
use Rattle.hol_terms.specs.Text.{bound_text}
use Rattle.hol_terms.proofs.AsciiNames.{are_ascii_segments, is_ascii_more, is_name_from_ascii}
use Rattle.hol_terms.proofs.Opened.{var_self}
use Rattle.hol_terms.proofs.Order.{var_eq-same}
use Rattle.hol_terms.proofs.Tables.{same_bytes}
use Rattle.hol_terms.specs.Reading.{Scope, innermost, stand_in, is_dotted}

-- ---- numbered names

digit_is : (c : ℕ) → digit_value c < 10 → is_ascii_digit c ≡ true
digit_is c h = grind (arith, nat_tests)

digits_are : (ds : List ℕ) → AllDigits 10 ds → list_all is_ascii_digit ds ≡ true
digits_are [] h = refl
digits_are (c ∷ ds) h = and_from _ _ (digit_is c h.0) (digits_are ds h.1)

decimal_digits : (n : ℕ) → n < 2 ^ 64 → list_all is_ascii_digit (decimal n) ≡ true
decimal_digits n h = digits_are (decimal n) (decimal_is_IsNumeral n h).0.1

digit_no_dot : (c : ℕ) → is_ascii_digit c ≡ true → (c == 46) ≡ false
digit_no_dot c h = grind (arith, nat_tests)

digit_more : (c : ℕ) → is_ascii_digit c ≡ true → is_ascii_more c ≡ true
digit_more c h = grind (arith, nat_tests)

digits_segment : (ds : List ℕ) → list_all is_ascii_digit ds ≡ true → are_ascii_segments true ds ≡ true
digits_segment [] h = refl
digits_segment (c ∷ ds) h =
    let a = and_parts (is_ascii_digit c) (list_all is_ascii_digit ds) h in
    rw (digit_no_dot c a.0, digit_more c a.0) (digits_segment ds a.1)

digits_no_dot : (ds : List ℕ) → list_all is_ascii_digit ds ≡ true → list_any (λ c. c == 46) ds ≡ false
digits_no_dot [] h = refl
digits_no_dot (c ∷ ds) h =
    let a = and_parts (is_ascii_digit c) (list_all is_ascii_digit ds) h in
    rw (digit_no_dot c a.0) (digits_no_dot ds a.1)

pub bound_name : (d : ℕ) → d < 2 ^ 64 → is_name (bound_text d) ≡ true
bound_name d h = is_name_from_ascii (bound_text d) (rw (digits_segment (decimal d) (decimal_digits d h)) refl)

pub bound_undotted : (d : ℕ) → d < 2 ^ 64 → is_dotted (bound_text d) ≡ false
bound_undotted d h = digits_no_dot (decimal d) (decimal_digits d h)

nonempty : (n : ℕ) → 0 < n → not (n == 0) ≡ true
nonempty n h = grind (arith, nat_tests)

pub bound_numbered : (d : ℕ) → d < 2 ^ 64 → is_numbered (bound_text d) ≡ true
bound_numbered d h = and_from _ _ (nonempty (length (decimal d)) (decimal_is_IsNumeral d h).0.0) (decimal_digits d h)

behind_x : (b : ℕ) (m n : List ℕ) → b ∷ m ≡ b ∷ n → m ≡ n
behind_x b m n e = cc

pub bound_apart : (m n : ℕ) → m < 2 ^ 64 → n < 2 ^ 64 → m ≢ n → bytes_eq (bound_text m) (bound_text n) ≡ false
bound_apart m n h g ne = at (bytes_eq (bound_text m) (bound_text n)) refl
  where
    at : (b : Bool) → bytes_eq (bound_text m) (bound_text n) ≡ b → b ≡ false
    at false e = refl
    at true e = absurd (ne (decimal_injective m n h g (behind_x 120 (decimal m) (decimal n) ((bytes_eq-Decides (bound_text m) (bound_text n)).0 e))))

-- ---- the scope of binders of these types, the innermost first

abbrev pub scope : List Ty → Scope
scope [] = []
scope (t ∷ ts) = (bound_text (length ts), stand_in (scope ts) (bound_text (length ts)) t) ∷ scope ts

no_binder : (bound : List Ty) (m : ℕ) → length bound ≤ m → m < 2 ^ 64 → innermost (scope bound) (bound_text m) ≡ None
no_binder [] m h g = refl
no_binder (t ∷ bound) m h g =
    let ne : length bound ≢ m = λ f. omega arith in
    rw (bound_apart (length bound) m (omega arith) g ne) (no_binder bound m (omega arith) g)

-- no binder of them is called so
pub not_bound : (bound : List Ty) (c : Name) → length bound < 2 ^ 64 → is_numbered c ≡ false → innermost (scope bound) c ≡ None
not_bound [] c h f = refl
not_bound (t ∷ bound) c h f = at (not_bound bound c (omega arith) f) (bytes_eq (bound_text (length bound)) c) refl
  where
    unlike : true ≡ false → ⊥
    unlike e = cc

    at : innermost (scope bound) c ≡ None → (b : Bool) → bytes_eq (bound_text (length bound)) c ≡ b → innermost (scope (t ∷ bound)) c ≡ None
    at g true e = absurd (unlike (sym (bound_numbered (length bound) (omega arith)) ∙ ap is_numbered ((bytes_eq-Decides (bound_text (length bound)) c).0 e) ∙ f))
    at g false e = rw e g

-- the free variable that stands for the binder above these, which has the type t
abbrev pub above : List Ty → Ty → FreeVar
above bound t = stand_in (scope bound) (bound_text (length bound)) t

above_name : (bound : List Ty) (t : Ty) → length bound < 2 ^ 64 → (above bound t).name ≡ codes "." ++ bound_text (length bound)
above_name bound t h = rw (no_binder bound (length bound) (omega arith) h) refl

-- what the i-th of them is read as, or else another term
abbrev pub standing : Scope → ℕ → Tm → Tm
standing [] i u = u
standing (b ∷ bs) zero u = tm_free b.1
standing (b ∷ bs) (suc i) u = standing bs i u

-- a term below k binders and these, with their free variables for its loose indices
abbrev pub opened : ℕ → Scope → Tm → Tm
opened k b (tm_index i t) = cond (nat_lt i k) (tm_index i t) (standing b (i - k) (tm_index i t))
opened k b (tm_free w) = tm_free w
opened k b (tm_const c ts t) = tm_const c ts t
opened k b (tm_comb f x) = tm_comb (opened k b f) (opened k b x)
opened k b (tm_abs t u) = tm_abs t (opened (k + 1) b u)

-- the index of a binder is read as its free variable
pub record Found (bound : List Ty) (i : ℕ) (t : Ty) : Type 0 where
  pub var : FreeVar
  pub typed : var.ty ≡ t
  pub known : innermost (scope bound) (bound_text (length bound - (i + 1))) ≡ Some var
  pub stands : (u : Tm) → standing (scope bound) i u ≡ tm_free var

number_here : (n : ℕ) → suc n - (0 + 1) ≡ n
number_here n = omega arith

number_there : (n i : ℕ) → suc n - (suc i + 1) ≡ n - (i + 1)
number_there n i = omega arith

within : (bound : List Ty) (i : ℕ) (t : Ty) → slice_get bound i ≡ Some t → i < length bound
within [] i t e = cc
within (u ∷ bound) zero t e = omega arith
within (u ∷ bound) (suc i) t e = omega (arith, within bound i t e)

pub found : (bound : List Ty) (i : ℕ) (t : Ty) → slice_get bound i ≡ Some t → length bound < 2 ^ 64 → Found bound i t
found [] i t e h = cc
found (u ∷ bound) zero t e h = record {
  var = stand_in (scope bound) (bound_text (length bound)) u;
  typed = cc;
  known = rw (number_here (length bound), same_bytes (bound_text (length bound))) refl;
  stands = λ v. refl;
}
found (u ∷ bound) (suc i) t e h =
    let f = found bound i t e (omega arith) in
    let w = within bound i t e in
    let ne : length bound ≢ length bound - (i + 1) = λ g. omega arith in
    record {
      var = f.var;
      typed = f.typed;
      known = rw (number_there (length bound) i, bound_apart (length bound) (length bound - (i + 1)) (omega arith) (omega arith) ne) f.known;
      stands = f.stands;
    }

-- ---- binding again

neither : (a b : Bool) → ((a && false) && b) ≡ false
neither true b = refl
neither false b = refl

no_name : (n : Name) → is_name (codes "." ++ n) ≡ false
unfolding is_name chars
no_name [] = rw (is_xid_start-ascii 46 (omega arith)) (neither (is_utf8 (codes "." ++ [])) (not (is_keyword (codes "." ++ []))))
no_name (b ∷ n) = rw (is_xid_start-ascii 46 (omega arith)) (neither (is_utf8 (codes "." ++ b ∷ n)) (not (is_keyword (codes "." ++ b ∷ n))))

other_name : (v w : FreeVar) → v.name ≢ w.name → var_eq v w ≡ false
other_name v w ne = at (var_eq v w) refl
  where
    at : (b : Bool) → var_eq v w ≡ b → b ≡ false
    at false e = refl
    at true e = absurd (ne (ap (λ (u : FreeVar). u.name) (var_eq-same v w e)))

behind_dot : (m n : Name) → codes "." ++ m ≡ codes "." ++ n → m ≡ n
behind_dot m n e = cc

-- those of the binders below are not this variable
pub others : (k : ℕ) (v : FreeVar) (n : ℕ) → v.name ≡ codes "." ++ bound_text n → n < 2 ^ 64 → (bound : List Ty) (i j : ℕ) (t : Ty) → length bound ≤ n
    → tm_bind k v (standing (scope bound) i (tm_index j t)) ≡ standing (scope bound) i (tm_index j t)
others k v n e h [] i j t l = refl
others k v n e h (u ∷ bound) zero j t l =
    let ne : v.name ≢ (above bound u).name = λ f. apart (behind_x 120 _ _ (behind_dot _ _ (sym e ∙ f ∙ above_name bound u (omega arith)))) in
    ap (λ b. cond b (tm_index k u) (tm_free (above bound u))) (other_name v (above bound u) ne)
  where
    apart : decimal n ≡ decimal (length bound) → ⊥
    apart f = let g = decimal_injective n (length bound) h (omega arith) f in omega arith
others k v n e h (u ∷ bound) (suc i) j t l = others k v n e h bound i j t (omega arith)

get_here : (pre bound : List Ty) (a t : Ty) → slice_get (pre ++ a ∷ bound) (length pre) ≡ Some t → a ≡ t
get_here [] bound a t e = cc
get_here (u ∷ pre) bound a t e = get_here pre bound a t e

below_more : (i k : ℕ) → nat_lt i k ≡ true → nat_lt i (k + 1) ≡ true
below_more i k e = grind (arith, nat_tests)

is_at : (i k : ℕ) → nat_lt i k ≡ false → i - k ≡ 0 → i ≡ k
is_at i k e z = grind (arith, nat_tests)

at_below : (i k : ℕ) → i ≡ k → nat_lt i (k + 1) ≡ true
at_below i k e = grind (arith, nat_tests)

past : (i k j : ℕ) → i - k ≡ suc j → nat_lt i (k + 1) ≡ false
past i k j e = grind (arith, nat_tests)

past_by : (i k j : ℕ) → i - k ≡ suc j → i - (k + 1) ≡ j
past_by i k j e = omega arith

-- an index, below the binders of `pre` and one more
bound_again : (pre bound : List Ty) (a : Ty) (i : ℕ) (t : Ty) → length bound < 2 ^ 64 → slice_get (pre ++ a ∷ bound) i ≡ Some t
    → tm_bind (length pre) (above bound a) (opened (length pre) (scope (a ∷ bound)) (tm_index i t)) ≡ opened (length pre + 1) (scope bound) (tm_index i t)
bound_again pre bound a i t h e = at (nat_lt i (length pre)) refl
  where
    behind : (j : ℕ) → nat_lt i (length pre) ≡ false → i - length pre ≡ j
        → tm_bind (length pre) (above bound a) (standing (scope (a ∷ bound)) j (tm_index i t)) ≡ cond (nat_lt i (length pre + 1)) (tm_index i t) (standing (scope bound) (i - (length pre + 1)) (tm_index i t))
    behind zero f g =
        let k = is_at i (length pre) f g in
        let y = get_here pre bound a t (subst (λ (j : ℕ). slice_get (pre ++ a ∷ bound) j ≡ Some t) k e) in
        rw (at_below i (length pre) k) (ap (λ (b : Bool). cond b (tm_index (length pre) a) (tm_free (above bound a))) (var_self (above bound a)) ∙ (λ z. tm_index (sym k z) (y z)))
    behind (suc j) f g =
        rw (past i (length pre) j g, past_by i (length pre) j g) (others (length pre) (above bound a) (length bound) (above_name bound a h) h bound j i t (omega arith))

    at : (b : Bool) → nat_lt i (length pre) ≡ b
        → tm_bind (length pre) (above bound a) (cond b (tm_index i t) (standing (scope (a ∷ bound)) (i - length pre) (tm_index i t))) ≡ cond (nat_lt i (length pre + 1)) (tm_index i t) (standing (scope bound) (i - (length pre + 1)) (tm_index i t))
    at true f = rw (below_more i (length pre) f) refl
    at false f = behind (i - length pre) f refl

pub close : (s : Signature) (pre bound : List Ty) (a : Ty) (u : Tm) → length bound < 2 ^ 64 → IsOver s (pre ++ a ∷ bound) u
    → tm_bind (length pre) (above bound a) (opened (length pre) (scope (a ∷ bound)) u) ≡ opened (length pre + 1) (scope bound) u
close s pre bound a (tm_index i t) h o = bound_again pre bound a i t h o.0
close s pre bound a (tm_free w) h o = ap (λ (b : Bool). cond b (tm_index (length pre) w.ty) (tm_free w)) (other_name (above bound a) w (λ f. unlike (sym o.0 ∙ ap is_name (sym f ∙ above_name bound a h) ∙ no_name (bound_text (length bound)))))
  where
    unlike : true ≡ false → ⊥
    unlike e = cc
close s pre bound a (tm_const c ts t) h o = refl
close s pre bound a (tm_comb f x) h o = λ i. tm_comb (close s pre bound a f h o.0 i) (close s pre bound a x h o.1 i)
close s pre bound a (tm_abs t b) h o = ap (λ d. tm_abs t d) (rw (add-one (length pre)) (close s (t ∷ pre) bound a b h o.1))

-- types

none_below : (k : ℕ) → nat_lt 0 (suc k) ≡ false → ⊥
none_below k f = grind (arith, nat_tests)

both_less : (i k : ℕ) → nat_lt (suc i) (suc k) ≡ false → nat_lt i k ≡ false
both_less i k f = grind (arith, nat_tests)

get_behind : (pre bound : List Ty) (i : ℕ) (t : Ty) → nat_lt i (length pre) ≡ false → slice_get (pre ++ bound) i ≡ Some t → slice_get bound (i - length pre) ≡ Some t
get_behind [] bound i t f e = let z : i - 0 ≡ i = omega arith in rw z e
get_behind (u ∷ pre) bound zero t f e = absurd (none_below (length pre) f)
get_behind (u ∷ pre) bound (suc i) t f e =
    let z : suc i - suc (length pre) ≡ i - length pre = omega arith in
    rw z (get_behind pre bound i t (both_less i (length pre) f) e)

standing_type : (bound : List Ty) (j : ℕ) (t : Ty) (u : Tm) → slice_get bound j ≡ Some t → tm_type (standing (scope bound) j u) ≡ t
standing_type [] j t u e = cc
standing_type (a ∷ bound) zero t u e = cc
standing_type (a ∷ bound) (suc j) t u e = standing_type bound j t u e

pub opened_type : (s : Signature) (pre bound : List Ty) (u : Tm) → IsOver s (pre ++ bound) u → tm_type (opened (length pre) (scope bound) u) ≡ tm_type u
opened_type s pre bound (tm_index i t) o = at (nat_lt i (length pre)) refl
  where
    at : (b : Bool) → nat_lt i (length pre) ≡ b → tm_type (cond b (tm_index i t) (standing (scope bound) (i - length pre) (tm_index i t))) ≡ t
    at true e = refl
    at false e = standing_type bound (i - length pre) t (tm_index i t) (get_behind pre bound i t e o.0)
opened_type s pre bound (tm_free w) o = refl
opened_type s pre bound (tm_const c ts t) o = refl
opened_type s pre bound (tm_comb f x) o = ap range_ty (opened_type s pre bound f o.0)
opened_type s pre bound (tm_abs t b) o = ap (fun_ty t) (rw (add-one (length pre)) (opened_type s (t ∷ pre) bound b o.1))
