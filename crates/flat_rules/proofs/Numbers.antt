-- Lists of terms by their numbers.
use Rattle.std.proofs.Common.{◌≡◌, ℕ, zero, suc, ◌+◌, ◌<◌, List, [], ◌∷◌, ◌++◌, length, get_or, take, drop, map, refl, ap, sym, ◌∙◌, arith, add-one, take-suc}
use Rattle.std.proofs.lemmas.List.{map-append, take-map, drop-map}
use Rattle.std.specs.List.{insert}
use Rattle.hol_terms.specs.Tm.{Tm}
use Rattle.flat_terms.specs.declared.nodes.TermId.{TermId}
use Rattle.flat_terms.specs.Plain.{PlainTables, HasTerm, term_of}
use Rattle.flat_walks.specs.Number.{IsNumber}
use Rattle.flat_instances.specs.TablesGrow.{TablesGrow}
use Rattle.flat_rules.specs.Sequents.{HasTerms, terms_of, AreNumbers}

pub has_at : (t : PlainTables) (ns : List TermId) (i : ℕ) (d : TermId) → HasTerms t ns → i < length ns → HasTerm t (get_or ns i d)
has_at t [] i d h l = absurd (omega arith)
has_at t (n ∷ ns) zero d h l = h.0
has_at t (n ∷ ns) (suc i) d h l = let k : i < length ns = omega arith in has_at t ns i d h.1 k

pub has_append : (t : PlainTables) (ns ms : List TermId) → HasTerms t ns → HasTerms t ms → HasTerms t (ns ++ ms)
has_append t [] ms h k = k
has_append t (n ∷ ns) ms h k = (h.0, has_append t ns ms h.1 k)

has_take : (t : PlainTables) (ns : List TermId) (i : ℕ) → HasTerms t ns → HasTerms t (take i ns)
has_take t [] zero h = tt
has_take t [] (suc i) h = tt
has_take t (n ∷ ns) zero h = tt
has_take t (n ∷ ns) (suc i) h = (h.0, has_take t ns i h.1)

has_drop : (t : PlainTables) (ns : List TermId) (i : ℕ) → HasTerms t ns → HasTerms t (drop i ns)
has_drop t [] zero h = tt
has_drop t [] (suc i) h = tt
has_drop t (n ∷ ns) zero h = h
has_drop t (n ∷ ns) (suc i) h = has_drop t ns i h.1

pub has_insert : (t : PlainTables) (ns : List TermId) (i : ℕ) (n : TermId) → HasTerms t ns → HasTerm t n → HasTerms t (insert ns i n)
has_insert t ns i n h k = has_append t (take i ns) (n ∷ drop i ns) (has_take t ns i h) (k, has_drop t ns i h)

pub terms-insert : (t : PlainTables) (ns : List TermId) (i : ℕ) (n : TermId) → terms_of t (insert ns i n) ≡ insert (terms_of t ns) i (term_of t n)
terms-insert t ns i n = map-append (term_of t) (take i ns) (n ∷ drop i ns) ∙ (λ j. sym (take-map (term_of t) i ns) j ++ term_of t n ∷ sym (drop-map (term_of t) i ns) j)

pub has_later : (s t : PlainTables) (ns : List TermId) → TablesGrow s t → HasTerms s ns → HasTerms t ns
has_later s t [] g h = tt
has_later s t (n ∷ ns) g h = (g.has_term n h.0, has_later s t ns g h.1)

pub terms_later : (s t : PlainTables) (ns : List TermId) → TablesGrow s t → HasTerms s ns → terms_of t ns ≡ terms_of s ns
terms_later s t [] g h = refl
terms_later s t (n ∷ ns) g h = λ j. g.same_term n h.0 j ∷ terms_later s t ns g h.1 j

pub numbers_later : (s t : PlainTables) (ns : List TermId) (xs : List Tm) → AreNumbers s ns xs → TablesGrow s t → AreNumbers t ns xs
numbers_later s t ns xs a g = record { has = has_later s t ns g a.has; trees = terms_later s t ns g a.has ∙ a.trees }

pub numbers_are : (t : PlainTables) (ns : List TermId) (xs ys : List Tm) → AreNumbers t ns xs → xs ≡ ys → AreNumbers t ns ys
numbers_are t ns xs ys a e = record { has = a.has; trees = a.trees ∙ e }

pub number_later : (s t : PlainTables) (r : TermId) (x : Tm) → IsNumber s r x → TablesGrow s t → IsNumber t r x
number_later s t r x n g = record { has = g.has_term r n.has; tree = g.same_term r n.has ∙ n.tree }

-- one more
pub numbers_more : (s t u : PlainTables) (f : Tm → Tm) (hs ns : List TermId) (i : ℕ) (d r : TermId) → i < length hs → TablesGrow t u → AreNumbers t ns (map f (terms_of s (take i hs))) → IsNumber u r (f (term_of s (get_or hs i d)))
    → AreNumbers u (ns ++ r ∷ []) (map f (terms_of s (take (i + 1) hs)))
numbers_more s t u f hs ns i d r l g a n = record { has = has_append u ns (r ∷ []) kept.has (n.has, tt); trees = trees }
  where
    kept : AreNumbers u ns (map f (terms_of s (take i hs)))
    kept = numbers_later t u ns (map f (terms_of s (take i hs))) a g

    last : map f (terms_of s (take i hs)) ++ f (term_of s (get_or hs i d)) ∷ [] ≡ map f (terms_of s (take (i + 1) hs))
    last =
        sym (map-append f (terms_of s (take i hs)) (term_of s (get_or hs i d) ∷ [])) ∙ ap (map f) (sym (map-append (term_of s) (take i hs) (get_or hs i d ∷ []))) ∙ sym (ap (λ l. map f (terms_of s l)) (rw add-one (take-suc hs i d l)))

    trees : terms_of u (ns ++ r ∷ []) ≡ map f (terms_of s (take (i + 1) hs))
    trees = map-append (term_of u) ns (r ∷ []) ∙ (λ j. kept.trees j ++ n.tree j ∷ []) ∙ last

pub number_moved : (t : PlainTables) (r : TermId) (x y : Tm) → IsNumber t r x → x ≡ y → IsNumber t r y
number_moved t r x y n e = record { has = n.has; tree = n.tree ∙ e }
