-- Of a log's lines those that are good lead to one position and print one report, and the first bad one has one first cause.
use Rattle.std.proofs.Common.{◌≡◌, inl, inr, ◌⊎◌, ℕ, suc, ◌+◌, ◌<◌, ◌≤◌, ◌^◌, Bool, true, false, cond, ◌==◌, List, [], ◌∷◌, ◌++◌, Option, Some, None, length, refl, sym, ap, ◌∙◌, subst, append_assoc, append-nil, arith}
use Rattle.std.proofs.lemmas.Bool.{not-true, both_ways}
use Rattle.std.proofs.lemmas.List.{length-append}
use Rattle.hol_terms.specs.Definition.{Definition, signature_of}
use Rattle.hol_terms.specs.Signature.{Signature}
use Rattle.hol_terms.specs.Base.{base}
use Rattle.hol_terms.specs.Proves.{AreConservative}
use Rattle.hol_terms.specs.ReadsBack.{ReadsBack}
use Rattle.hol_terms.specs.Text.{Text}
use Rattle.hol_terms.specs.Sound.{lines_after, complete_lines}
use Rattle.hol_terms.proofs.BaseTyped.{base_conservative}
use Rattle.hol_terms.proofs.Weaken.{Extends, extends}
use Rattle.text_laws.proofs.Named.{reads_back}
use Rattle.hol_logs.specs.Line.{LogLine}
use Rattle.hol_logs.specs.Position.{LogPosition, after, report_of, Why, first_cause}
use Rattle.hol_logs.specs.Log.{unended_after, unended, line_unless_empty, log_lines, unlines, HasForm, IsGood, IsBad, no_form, a_cause, Reads, no_line, one_more, is_ended, IsGoodLog, good_log, IsBadLog, bad_line, cut_off}
use Rattle.hol_logs.proofs.Standing.{Stands, stands_after, about_ten}
use Rattle.hol_logs.proofs.Causes.{no_causes}
use Rattle.log_laws.proofs.Cuts.{AreShort}
use Rattle.log_laws.proofs.OneReading.{line_by_text}
use Rattle.log_laws.proofs.Reports.{reads_conservative}

-- ---- lists

no_snoc : {A : Type 0} (xs : List A) (x : A) → [] ≡ xs ++ x ∷ [] → ⊥
no_snoc [] x e = cc
no_snoc (y ∷ xs) x e = cc

snoc_same : {A : Type 0} (xs ys : List A) (x y : A) → xs ++ x ∷ [] ≡ ys ++ y ∷ [] → (xs ≡ ys) × (x ≡ y)
snoc_same [] [] x y e = (refl, cc)
snoc_same [] (b ∷ ys) x y e = let tails : [] ≡ ys ++ y ∷ [] = cc in absurd (no_snoc ys y tails)
snoc_same (a ∷ xs) [] x y e = let tails : [] ≡ xs ++ x ∷ [] = cc in absurd (no_snoc xs x tails)
snoc_same (a ∷ xs) (b ∷ ys) x y e =
    let heads : a ≡ b = cc in
    let tails : xs ++ x ∷ [] ≡ ys ++ y ∷ [] = cc in
    let r = snoc_same xs ys x y tails in
    (λ i. heads i ∷ r.0 i, r.1)

-- a list has no last member, or one
last_of : {A : Type 0} (xs : List A) → (xs ≡ []) ⊎ ((ys : List A) × (y : A) × (xs ≡ ys ++ y ∷ []))
last_of [] = inl refl
last_of (x ∷ xs) =
    elim (last_of xs) [
      | inl e ↦ inr ([], x, ap (λ ys. x ∷ ys) e)
      | inr p ↦ inr (x ∷ p.0, p.1, ap (λ ys. x ∷ ys) p.2)
    ]

-- two places in one list are the same, or one stands before the other
abbrev Apart : {A : Type 0} → List A → A → List A → Type 0
Apart {A} xs y us = (more : List A) × (us ≡ xs ++ y ∷ more)

places : {A : Type 0} (xs ys us vs : List A) (y v : A) → xs ++ y ∷ ys ≡ us ++ v ∷ vs → ((xs ≡ us) × (y ≡ v)) ⊎ (Apart xs y us ⊎ Apart us v xs)
places [] ys [] vs y v e = inl (refl, cc)
places [] ys (u ∷ us) vs y v e = let heads : y ≡ u = cc in inr (inl (us, λ i. sym heads i ∷ us))
places (x ∷ xs) ys [] vs y v e = let heads : x ≡ v = cc in inr (inr (xs, λ i. heads i ∷ xs))
places (x ∷ xs) ys (u ∷ us) vs y v e =
    let heads : x ≡ u = cc in
    let tails : xs ++ y ∷ ys ≡ us ++ v ∷ vs = cc in
    elim (places xs ys us vs y v tails) [
      | inl p ↦ inl (λ i. heads i ∷ p.0 i, p.1)
      | inr q ↦ inr (elim q [ inl p ↦ inl (p.0, λ i. sym heads i ∷ p.1 i) | inr p ↦ inr (p.0, λ i. heads i ∷ p.1 i) ])
    ]

-- ---- the definitions at a position

stands : (n : ℕ) (texts : List Text) (p : LogPosition) (said : List Text) → Reads n texts p said → Stands n p.is_based p.defs
stands n texts p said no_line = (base n, refl)
stands n texts p said (one_more ts ss q t l r good) = stands_after n q l (no_causes n q l good.no_cause) (stands n ts q ss r)

-- ---- canonical text reads back at each position

fewer : (s t : Signature) → Extends s t → ReadsBack t → ReadsBack s
fewer s t x h = record {
  types_named = λ c k e. h.types_named c k (x.types c k e);
  constants_named = λ c g e. h.constants_named c g (x.consts c g e);
  unnumbered = λ c g e. h.unnumbered c g (x.consts c g e);
  usual = λ c g u e f. h.usual c g u (x.consts c g e) f;
}

position_reads_back : (n : ℕ) (b : Bool) (ds : List Definition) → 10 ≤ n → AreConservative ds → Stands n b ds → ReadsBack (signature_of ds)
position_reads_back n b ds k c h =
    elim (about_ten n b ds k h) [
      | inl p ↦ reads_back ds c p
      | inr p ↦ fewer (signature_of ds) (signature_of (base 10)) (subst (λ es. Extends (signature_of ds) (signature_of es)) (sym p.1) (extends ds p.0)) (reads_back (base 10) base_conservative ([], sym (append-nil (base 10))))
    ]

reads_reads_back : (n : ℕ) (texts : List Text) (p : LogPosition) (said : List Text) → 10 ≤ n → Reads n texts p said → ReadsBack (signature_of p.defs)
reads_reads_back n texts p said k r = position_reads_back n p.is_based p.defs k (reads_conservative n texts p said r) (stands n texts p said r)

-- ---- one line at a position

same_form : (p : LogPosition) (text : Text) (l m : LogLine) → ReadsBack (signature_of p.defs) → length text < 2 ^ 64 → HasForm p text l → HasForm p text m → l ≡ m
same_form p text l m r short f g = line_by_text (signature_of p.defs) l m r f.over g.over (subst (λ t. length t < 2 ^ 64) f.reads short) (sym f.reads ∙ g.reads)

none_some : {A : Type 0} (o : Option A) (x : A) → o ≡ None → o ≡ Some x → ⊥
none_some o x e f = cc

some_same : {A : Type 0} (x y : A) → Some x ≡ Some y → x ≡ y
some_same x y e = cc

good_not_bad : (n : ℕ) (p : LogPosition) (text : Text) (l : LogLine) (why : Why) → ReadsBack (signature_of p.defs) → length text < 2 ^ 64 → IsGood n p text l → IsBad n p text why → ⊥
good_not_bad n p text l why r short g (no_form none) = none l g.form
good_not_bad n p text l why r short g (a_cause m w f e) =
    let same = same_form p text l m r short g.form f in none_some (first_cause n p m) why (subst (λ x. first_cause n p x ≡ None) same g.no_cause) e

one_cause : (n : ℕ) (p : LogPosition) (text : Text) (why other : Why) → ReadsBack (signature_of p.defs) → length text < 2 ^ 64 → IsBad n p text why → IsBad n p text other → why ≡ other
one_cause n p text why other r short (no_form none) (no_form nor) = refl
one_cause n p text why other r short (no_form none) (a_cause m w f e) = absurd (none m f)
one_cause n p text why other r short (a_cause l w f e) (no_form nor) = absurd (nor l f)
one_cause n p text why other r short (a_cause l w f e) (a_cause m v g d) =
    let same = same_form p text l m r short f g in some_same why other (sym e ∙ ap (first_cause n p) same ∙ d)

-- ---- lines from the start on

short_snoc : (ts : List Text) (t : Text) → AreShort (ts ++ t ∷ []) → AreShort ts × (length t < 2 ^ 64)
short_snoc [] t h = (tt, h.0)
short_snoc (x ∷ ts) t h = let r = short_snoc ts t h.1 in ((h.0, r.0), r.1)

short_front : (ts us : List Text) → AreShort (ts ++ us) → AreShort ts
short_front [] us h = tt
short_front (x ∷ ts) us h = (h.0, short_front ts us h.1)

short_at : (ts us : List Text) (t : Text) → AreShort (ts ++ t ∷ us) → length t < 2 ^ 64
short_at [] us t h = h.0
short_at (x ∷ ts) us t h = short_at ts us t h.1

-- the same lines lead to one position and print one report
one_way : (n : ℕ) (ts us : List Text) (p q : LogPosition) (said spoken : List Text) → 10 ≤ n → AreShort ts → ts ≡ us → Reads n ts p said → Reads n us q spoken → (p ≡ q) × (said ≡ spoken)
one_way n ts us p q said spoken k short e no_line no_line = (refl, refl)
one_way n ts us p q said spoken k short e no_line (one_more vs ws o v m r g) = absurd (no_snoc vs v e)
one_way n ts us p q said spoken k short e (one_more vs ws o v m r g) no_line = absurd (no_snoc vs v (sym e))
one_way n ts us p q said spoken k short e (one_more xs ys a x l r g) (one_more vs ws o v m s h) =
    let same = snoc_same xs vs x v e in
    let sizes = short_snoc xs x short in
    let before = one_way n xs vs a o ys ws k sizes.0 same.0 r s in
    let form : HasForm a x m = subst (λ t. HasForm a t m) (sym same.1) (subst (λ c. HasForm c v m) (sym before.0) h.form) in
    let line : l ≡ m = same_form a x l m (reads_reads_back n xs a ys k r) sizes.1 g.form form in
    (λ i. after (before.0 i) (line i), λ i. before.1 i ++ report_of (before.0 i) (line i))

-- of good lines each one is good at the position behind those before it
record GoodAt (n : ℕ) (xs : List Text) (y : Text) : Type 0 where
  position : LogPosition
  said : List Text
  line : LogLine
  read : Reads n xs position said
  good : IsGood n position y line

good_at : (n : ℕ) (ts xs ys : List Text) (y : Text) (p : LogPosition) (said : List Text) → ts ≡ xs ++ y ∷ ys → Reads n ts p said → GoodAt n xs y
good_at n ts xs ys y p said e no_line = absurd (no_cons xs e)
  where
    no_cons : (zs : List Text) → [] ≡ zs ++ y ∷ ys → ⊥
    no_cons [] f = cc
    no_cons (z ∷ zs) f = cc
good_at n ts xs ys y p said e (one_more us ss q u l r g) = at (last_of ys) (λ zs f. good_at n us xs zs y q ss f r)
  where
    at : ((ys ≡ []) ⊎ ((zs : List Text) × (z : Text) × (ys ≡ zs ++ z ∷ []))) → ((zs : List Text) → us ≡ xs ++ y ∷ zs → GoodAt n xs y) → GoodAt n xs y
    at (inl none) more =
        let same = snoc_same us xs u y (e ∙ ap (λ vs. xs ++ y ∷ vs) none) in
        record { position = q; said = ss; line = l; read = subst (λ vs. Reads n vs q ss) same.0 r; good = subst (λ v. IsGood n q v l) same.1 g }
    at (inr (zs, z, is)) more = more zs (snoc_same us (xs ++ y ∷ zs) u z (e ∙ ap (λ vs. xs ++ y ∷ vs) is ∙ sym (append_assoc xs (y ∷ zs) (z ∷ [])))).0

-- a line that is bad behind good ones does not stand among good lines
not_among : (n : ℕ) (ts xs ys : List Text) (y : Text) (p q : LogPosition) (said spoken : List Text) (why : Why) → 10 ≤ n → AreShort ts → ts ≡ xs ++ y ∷ ys → Reads n ts q spoken → Reads n xs p said
    → IsBad n p y why → ⊥
not_among n ts xs ys y p q said spoken why k short e r s bad =
    let sizes : AreShort (xs ++ y ∷ ys) = subst AreShort e short in
    let g = good_at n ts xs ys y q spoken e r in
    let same = one_way n xs xs g.position p g.said said k (short_front xs (y ∷ ys) sizes) refl g.read s in
    good_not_bad n p y g.line why (reads_reads_back n xs p said k s) (short_at xs ys y sizes) (subst (λ o. IsGood n o y g.line) same.0 g.good) bad

-- ---- lines of bytes are no longer than these

lines_short : (line bs : Text) → length line + length bs < 2 ^ 64 → AreShort (lines_after line bs)
lines_short line [] h = tt
lines_short line (b ∷ bs) h =
    let l = length-append line (b ∷ []) in
    at (b == 10) (lines_short [] bs (omega arith)) (lines_short (line ++ b ∷ []) bs (omega arith))
  where
    at : (t : Bool) → AreShort (lines_after [] bs) → AreShort (lines_after (line ++ b ∷ []) bs) → AreShort (cond t (line ∷ lines_after [] bs) (lines_after (line ++ b ∷ []) bs))
    at true x y = (omega arith, x)
    at false x y = y

unended_short : (line bs : Text) → length line + length bs < 2 ^ 64 → length (unended_after line bs) < 2 ^ 64
unended_short line [] h = omega arith
unended_short line (b ∷ bs) h =
    let l = length-append line (b ∷ []) in
    at (b == 10) (unended_short [] bs (omega arith)) (unended_short (line ++ b ∷ []) bs (omega arith))
  where
    at : (t : Bool) → length (unended_after [] bs) < 2 ^ 64 → length (unended_after (line ++ b ∷ []) bs) < 2 ^ 64 → length (cond t (unended_after [] bs) (unended_after (line ++ b ∷ []) bs)) < 2 ^ 64
    at true x y = x
    at false x y = y

one_short : (x : Text) → length x < 2 ^ 64 → AreShort (line_unless_empty x)
one_short [] h = tt
one_short (b ∷ x) h = (h, tt)

short_append : (xs ys : List Text) → AreShort xs → AreShort ys → AreShort (xs ++ ys)
short_append [] ys h g = g
short_append (x ∷ xs) ys h g = (h.0, short_append xs ys h.1 g)

log_short : (b : Text) → length b < 2 ^ 64 → AreShort (log_lines b)
log_short b h = short_append (complete_lines b) (line_unless_empty (unended b)) (lines_short [] b (omega arith)) (one_short (unended b) (unended_short [] b (omega arith)))

-- ---- outcomes

pub one_report : (n : ℕ) (b report other : Text) → 10 ≤ n → length b < 2 ^ 64 → IsGoodLog n b report → IsGoodLog n b other → report ≡ other
one_report n b report other k h (good_log p said r e) (good_log q spoken s f) = ap unlines (one_way n (log_lines b) (log_lines b) p q said spoken k (log_short b h) refl r s).1

pub one_outcome : (n : ℕ) (b report other : Text) (number : ℕ) (why : Why) → 10 ≤ n → length b < 2 ^ 64 → IsGoodLog n b report → IsBadLog n b other number why → ⊥
one_outcome n b report other number why k h (good_log p said r e) (bad_line texts rest spoken q text w is s bad) =
    not_among n (log_lines b) texts rest text q p spoken said why k (log_short b h) is r s bad
one_outcome n b report other number why k h (good_log p said r e) (cut_off q spoken s f) =
    let same = one_way n (log_lines b) (log_lines b) p q said spoken k (log_short b h) refl r s in
    both_ways (is_ended b q) (not-true (is_ended b q) f) (subst (λ o. is_ended b o ≡ true) same.0 e)

abbrev SameFault : Text → Text → ℕ → ℕ → Why → Why → Type 0
SameFault report other number place why cause = (report ≡ other) × (number ≡ place) × (why ≡ cause)

pub one_fault : (n : ℕ) (b report other : Text) (number place : ℕ) (why cause : Why) → 10 ≤ n → length b < 2 ^ 64 → IsBadLog n b report number why → IsBadLog n b other place cause
    → SameFault report other number place why cause
one_fault n b report other number place why cause k h (cut_off p said r e) (cut_off q spoken s f) =
    (ap unlines (one_way n (log_lines b) (log_lines b) p q said spoken k (log_short b h) refl r s).1, refl, refl)
one_fault n b report other number place why cause k h (cut_off p said r e) (bad_line texts rest spoken q text w is s bad) =
    absurd (not_among n (log_lines b) texts rest text q p spoken said cause k (log_short b h) is r s bad)
one_fault n b report other number place why cause k h (bad_line texts rest said p text w is r bad) (cut_off q spoken s f) =
    absurd (not_among n (log_lines b) texts rest text p q said spoken why k (log_short b h) is s r bad)
one_fault n b report other number place why cause k h (bad_line xs ys said p x w is r bad) (bad_line us vs spoken q u v are s ill) =
    let sizes : AreShort (xs ++ x ∷ ys) = subst AreShort is (log_short b h) in
    let short : AreShort xs = short_front xs (x ∷ ys) sizes in
    let more : AreShort us = short_front us (u ∷ vs) (subst AreShort are (log_short b h)) in
    elim (places xs ys us vs x u (sym is ∙ are)) [
      | inl e ↦ (let way = one_way n xs us p q said spoken k short e.0 r s in
          let text : IsBad n p u cause = subst (λ o. IsBad n o u cause) (sym way.0) ill in
          let other_bad : IsBad n p x cause = subst (λ t. IsBad n p t cause) (sym e.1) text in
          (ap unlines way.1, ap (λ t. suc (length t)) e.0, one_cause n p x why cause (reads_reads_back n xs p said k r) (short_at xs ys x sizes) bad other_bad))
      | inr z ↦ (elim z [
        | inl a ↦ absurd (not_among n us xs a.0 x p q said spoken why k more a.1 s r bad)
        | inr a ↦ absurd (not_among n xs us a.0 u q p spoken said cause k short a.1 r s ill)
      ])
    ]
