-- The name of a definition's theorem is a name.
use Rattle.std.proofs.Common.{◌≡◌, Bool, true, false, not, ◌&&◌, ◌||◌, ℕ, List, [], ◌∷◌, ◌++◌, Option, Some, None, refl, ap, sym, ◌∙◌, subst}
use Rattle.std.specs.Prelude.{◌==◌, bytes_eq, codes}
use Rattle.std.specs.List.{list_any}
use Rattle.std.specs.Str.{chars, is_utf8, IsUtf8}
use Rattle.std.proofs.lemmas.Str.{is_utf8-from_IsUtf8, IsUtf8-from_is_utf8, IsUtf8-from_ascii, IsUtf8-append, chars-append, chars-IsAscii}
use Rattle.std.proofs.lemmas.Bool.{and_parts, and_from, or_left, true≢false}
use Rattle.std.proofs.lemmas.List.Folds.{list_any-append}
use Rattle.std.proofs.lemmas.Slice.Eq.{bytes_eq-Decides}
use Rattle.hol_terms.specs.Name.{Name, segment_step, on_step, are_segments_of, is_keyword, is_name}
use Rattle.hol_terms.proofs.AsciiNames.{segments_are}

abbrev has_dot : Name → Bool
has_dot n = list_any (λ c. c == 46) n

-- more segments behind a name's
segments_joined : (w : Bool) (cs end : List ℕ) → are_segments_of true end ≡ true → are_segments_of w cs ≡ true → are_segments_of w (cs ++ end) ≡ true
segments_joined w [] end e h = subst (λ (v : Bool). are_segments_of v end ≡ true) (sym h) e
segments_joined w (c ∷ cs) end e h = at (segment_step w c) (λ next. segments_joined next cs end e) h
  where
    at : (o : Option Bool) → ((next : Bool) → are_segments_of next cs ≡ true → are_segments_of next (cs ++ end) ≡ true) → on_step o (λ next. are_segments_of next cs) ≡ true → on_step o (λ next. are_segments_of next (cs ++ end)) ≡ true
    at None f g = g
    at (Some next) f g = f next g

differs : (m k : Name) → has_dot m ≡ true → has_dot k ≡ false → bytes_eq m k ≡ false
differs m k h g = at (bytes_eq m k) refl
  where
    at : (b : Bool) → bytes_eq m k ≡ b → b ≡ false
    at false e = refl
    at true e = absurd (true≢false (sym h ∙ ap has_dot ((bytes_eq-Decides m k).0 e) ∙ g))

no_keyword : (m : Name) → has_dot m ≡ true → is_keyword m ≡ false
no_keyword m h = rw (differs m (codes "define") h refl, differs m (codes "datatype") h refl, differs m (codes "codatatype") h refl, differs m (codes "primrec") h refl, differs m (codes "primcorec") h refl, differs m (codes "where") h refl, differs m (codes "and") h refl) refl

not_zero : (a b : Bool) → (a || b) ≡ true → b ≡ false → a ≡ true
not_zero true b h e = refl
not_zero false b h e = absurd (true≢false (sym h ∙ e))

pub fact_name : (n : Name) → is_name n ≡ true → bytes_eq n (codes "0") ≡ false → is_name (n ++ codes ".def") ≡ true
unfolding is_name
fact_name n h z =
    let p = and_parts (is_utf8 n && (are_segments_of false (chars n) || bytes_eq n (codes "0"))) (not (is_keyword n)) h in
    let q = and_parts (is_utf8 n) (are_segments_of false (chars n) || bytes_eq n (codes "0")) p.0 in
    let s = not_zero (are_segments_of false (chars n)) (bytes_eq n (codes "0")) q.1 z in
    let u : IsUtf8 n = IsUtf8-from_is_utf8 n q.0 in
    let more = segments_are true (codes ".def") refl in
    let all : chars (n ++ codes ".def") ≡ chars n ++ codes ".def" = chars-append n (codes ".def") u ∙ ap (λ cs. chars n ++ cs) (chars-IsAscii (codes ".def") more.1) in
    let joined : are_segments_of false (chars (n ++ codes ".def")) ≡ true = ap (are_segments_of false) all ∙ segments_joined false (chars n) (codes ".def") more.0 s in
    let dotted : has_dot (n ++ codes ".def") ≡ true = list_any-append (λ c. c == 46) n (codes ".def") ∙ with_dot (list_any (λ c. c == 46) n) in
    let word : not (is_keyword (n ++ codes ".def")) ≡ true = ap not (no_keyword (n ++ codes ".def") dotted) in
    and_from _ _ (and_from _ _ (is_utf8-from_IsUtf8 (n ++ codes ".def") (IsUtf8-append n (codes ".def") u (IsUtf8-from_ascii (codes ".def") more.1))) (or_left _ _ joined)) word
  where
    with_dot : (b : Bool) → (b || true) ≡ true
    with_dot true = refl
    with_dot false = refl
