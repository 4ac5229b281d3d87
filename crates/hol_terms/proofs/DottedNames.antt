-- A name followed by a dot and a segment is a name, but for `0`.
use Rattle.std.proofs.Common.{◌≡◌, ℕ, Bool, true, false, not, ◌&&◌, ◌||◌, List, [], ◌∷◌, ◌++◌, ◌≢◌, length, eq-eqb, arith, Option, Some, None, is_none, cond, refl, ap, sym, ◌∙◌, subst, String, string_bytes}
use Rattle.std.specs.Prelude.{◌==◌, bytes_eq, codes}
use Rattle.std.specs.declared.alloc.Global.{Global}
use Rattle.std.specs.List.{list_any, list_all}
use Rattle.std.specs.Char.{is_ascii_digit}
use Rattle.std.specs.Str.{chars, is_utf8, IsUtf8, IsAscii}
use Rattle.std.proofs.lemmas.Str.{is_utf8-from_IsUtf8, IsUtf8-from_is_utf8, IsUtf8-from_ascii, IsUtf8-append, chars-append, chars-IsAscii}
use Rattle.std.specs.Map.{keys_of}
use Rattle.std.proofs.lemmas.Str.Ascii.{IsAscii-nil, IsAscii-cons}
use Rattle.std.proofs.lemmas.Bool.{and_parts, and_from, or_left}
use Rattle.std.proofs.lemmas.List.Folds.{list_any-append, list_all-append}
use Rattle.std.proofs.lemmas.Slice.Eq.{bytes_eq-Decides}
use Rattle.unicode_ident.proofs.IdentLemmas.{is_xid_start-ascii}
use Rattle.hol_terms.specs.Name.{Name, dot_abs, dot_rep, segment_step, on_step, are_segments_of, is_keyword, is_name, is_numbered}
use Rattle.hol_terms.specs.Signature.{Signature, entry_at, is_new, may_introduce}
use Rattle.hol_terms.specs.Table.{named}
use Rattle.hol_terms.proofs.AsciiNames.{are_ascii_segments, segments_are}

abbrev has_dot : Name → Bool
has_dot n = list_any (λ c. c == 46) n

-- more segments after a name's
segments_joined : (w : Bool) (cs end : List ℕ) → are_segments_of true end ≡ true → are_segments_of w cs ≡ true → are_segments_of w (cs ++ end) ≡ true
segments_joined w [] end e h = subst (λ (v : Bool). are_segments_of v end ≡ true) (sym h) e
segments_joined w (c ∷ cs) end e h = at (segment_step w c) (λ next. segments_joined next cs end e) h
  where
    at : (o : Option Bool) → ((next : Bool) → are_segments_of next cs ≡ true → are_segments_of next (cs ++ end) ≡ true) → on_step o (λ next. are_segments_of next cs) ≡ true → on_step o (λ next. are_segments_of next (cs ++ end)) ≡ true
    at None f g = g
    at (Some next) f g = f next g

differs : (m k : Name) → has_dot m ≡ true → has_dot k ≡ false → bytes_eq m k ≡ false
differs m k h g = at (bytes_eq m k) refl
  where
    at : (b : Bool) → bytes_eq m k ≡ b → b ≡ false
    at false e = refl
    at true e = absurd (apart (sym h ∙ ap has_dot ((bytes_eq-Decides m k).0 e) ∙ g))
      where
        apart : true ≡ false → ⊥
        apart f = cc

no_keyword : (m : Name) → has_dot m ≡ true → is_keyword m ≡ false
no_keyword m h =
    rw (differs m (codes "define") h refl, differs m (codes "datatype") h refl, differs m (codes "codatatype") h refl, differs m (codes "primrec") h refl, differs m (codes "primcorec") h refl, differs m (codes "where") h refl, differs m (codes "and") h refl) refl

not_zero : (a b : Bool) → (a || b) ≡ true → b ≡ false → a ≡ true
not_zero true b h e = refl
not_zero false b h e = absurd (apart (sym h ∙ e))
  where
    apart : true ≡ false → ⊥
    apart f = cc

name_dotted : (n end : Name) → is_name n ≡ true → bytes_eq n (codes "0") ≡ false → are_ascii_segments true end ≡ true → has_dot end ≡ true → is_name (n ++ end) ≡ true
unfolding is_name
name_dotted n end h z e d =
    let p = and_parts (is_utf8 n && (are_segments_of false (chars n) || bytes_eq n (codes "0"))) (not (is_keyword n)) h in
    let q = and_parts (is_utf8 n) (are_segments_of false (chars n) || bytes_eq n (codes "0")) p.0 in
    let s = not_zero (are_segments_of false (chars n)) (bytes_eq n (codes "0")) q.1 z in
    let u : IsUtf8 n = IsUtf8-from_is_utf8 n q.0 in
    let more = segments_are true end e in
    let all : chars (n ++ end) ≡ chars n ++ end = chars-append n end u ∙ ap (λ cs. chars n ++ cs) (chars-IsAscii end more.1) in
    let joined : are_segments_of false (chars (n ++ end)) ≡ true = ap (are_segments_of false) all ∙ segments_joined false (chars n) end more.0 s in
    let word : not (is_keyword (n ++ end)) ≡ true = ap not (no_keyword (n ++ end) (list_any-append (λ c. c == 46) n end ∙ with_dot (list_any (λ c. c == 46) n) d)) in
    and_from _ _ (and_from _ _ (is_utf8-from_IsUtf8 (n ++ end) (IsUtf8-append n end u (IsUtf8-from_ascii end more.1))) (or_left _ _ joined)) word
  where
    with_dot : (b : Bool) → has_dot end ≡ true → (b || has_dot end) ≡ true
    with_dot true f = refl
    with_dot false f = f

and_false : (b : Bool) → (b && false) ≡ false
and_false true = refl
and_false false = refl

not_numbered : (n end : Name) → list_all is_ascii_digit end ≡ false → is_numbered end ≡ false → is_numbered (n ++ end) ≡ false
not_numbered [] end e z = z
not_numbered (c ∷ n) end e z =
    rw (list_all-append is_ascii_digit n end, e) (ap (λ b. (c == 120) && not (length (n ++ end) == 0) && b) (and_false (list_all is_ascii_digit n)) ∙ and_false ((c == 120) && not (length (n ++ end) == 0)))

introduced : (s : Signature) (n end : Name) → is_name n ≡ true → bytes_eq n (codes "0") ≡ false → are_ascii_segments true end ≡ true → has_dot end ≡ true → list_all is_ascii_digit end ≡ false → is_numbered end ≡ false
    → may_introduce s (n ++ end) ≡ is_new s (n ++ end)
introduced s n end h z e d f g = rw (name_dotted n end h z e d, not_numbered n end f g) refl

-- where the name is not `0`, what the code tests of both ends
pub ends_introduced : (s : Signature) (n : Name) → is_name n ≡ true → bytes_eq n (codes "0") ≡ false → (may_introduce s (dot_abs n) && may_introduce s (dot_rep n)) ≡ (is_new s (dot_abs n) && is_new s (dot_rep n))
ends_introduced s n h z = rw (introduced s n (codes ".abs") h z refl refl refl refl, introduced s n (codes ".rep") h z refl refl refl refl) refl

ascii_zero_abs : IsAscii (codes "0.abs")
ascii_zero_abs =
    IsAscii-cons 48 (codes ".abs") (grind arith) (IsAscii-cons 46 (codes "abs") (grind arith) (IsAscii-cons 97 (codes "bs") (grind arith) (IsAscii-cons 98 (codes "s") (grind arith) (IsAscii-cons 115 [] (grind arith) IsAscii-nil))))

no_name : is_name (codes "0.abs") ≡ false
unfolding is_name
no_name = rw (is_utf8-from_IsUtf8 (codes "0.abs") (IsUtf8-from_ascii (codes "0.abs") ascii_zero_abs), chars-IsAscii (codes "0.abs") ascii_zero_abs, is_xid_start-ascii 48 (grind arith)) refl

pub zero_not_introduced : (s : Signature) (n : Name) → bytes_eq n (codes "0") ≡ true → (may_introduce s (dot_abs n) && may_introduce s (dot_rep n)) ≡ false
zero_not_introduced s n z =
    let e : dot_abs n ≡ codes "0.abs" = ap dot_abs ((bytes_eq-Decides n (codes "0")).0 z) in
    rw (ap is_name e ∙ no_name) refl

-- a table has no entry of a name just where none of its keys is the name
pub no_entry : {A : Type 0} (es : List (String Global × A)) (m : Name) → is_none (entry_at (named es) m) ≡ not (list_any (λ k. bytes_eq (string_bytes k) m) (keys_of es))
no_entry [] m = refl
no_entry (e ∷ es) m = at (bytes_eq (string_bytes e.0) m) (no_entry es m)
  where
    at : (b : Bool) → is_none (entry_at (named es) m) ≡ not (list_any (λ k. bytes_eq (string_bytes k) m) (keys_of es)) → is_none (cond b (Some e.1) (entry_at (named es) m)) ≡ not (b || list_any (λ k. bytes_eq (string_bytes k) m) (keys_of es))
    at true h = refl
    at false h = h

-- one text is another followed by a third
pub joined_some : (key n end rest : Name) → key ≡ n ++ rest → bytes_eq rest end ≡ bytes_eq key (n ++ end)
joined_some key n end rest e = after n ∙ ap (λ k. bytes_eq k (n ++ end)) (sym e)
  where
    after : (m : Name) → bytes_eq rest end ≡ bytes_eq (m ++ rest) (m ++ end)
    after [] = refl
    after (b ∷ m) = rw (eq-eqb b b refl) (after m)

pub joined_none : (key n end : Name) → ((rest : Name) → key ≢ n ++ rest) → false ≡ bytes_eq key (n ++ end)
joined_none key n end h = at (bytes_eq key (n ++ end)) refl
  where
    at : (b : Bool) → bytes_eq key (n ++ end) ≡ b → false ≡ b
    at false e = refl
    at true e = absurd (h end ((bytes_eq-Decides key (n ++ end)).0 e))
