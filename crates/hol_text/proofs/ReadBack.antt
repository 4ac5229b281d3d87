-- What is printed reads as what it was printed from.
use Rattle.std.proofs.Common.{◌≡◌, ℕ, ◌+◌, ◌<◌, ◌≤◌, ◌^◌, Bool, true, false, cond, [], length, refl, ap, sym, ◌∙◌, arith}
use Rattle.std.specs.Prelude.{nat_lt}
use Rattle.hol_terms.specs.Ty.{Ty}
use Rattle.hol_terms.specs.Tm.{Tm, tm_index, tm_free, tm_const, tm_comb, tm_abs, tm_size}
use Rattle.hol_terms.specs.Signature.{Signature, IsTyOver, IsOver}
use Rattle.hol_terms.specs.Text.{ty_text, tm_text}
use Rattle.hol_terms.specs.Tokens.{head_kind, tokens_from, tokens}
use Rattle.hol_terms.specs.Meaning.{means}
use Rattle.hol_terms.specs.Reading.{type_at, term_at, reads, ended, whole, only_meaning, reading_of_type, reading_of_term}
use Rattle.hol_terms.specs.ReadsBack.{ReadsBack}
use Rattle.hol_text.proofs.ReadBackTokens.{ends_text, no_more, at_end}
use Rattle.hol_text.proofs.ReadBackTypes.{has_names, Rest, reads_type}
use Rattle.hol_text.proofs.ReadBackBinders.{opened}
use Rattle.hol_text.proofs.ReadBackAtoms.{closed_end}
use Rattle.hol_text.proofs.ReadBackTerms.{reads_term}

rest_end : Rest []
rest_end = record { ends = ends_text; closed = λ q. rw at_end refl }

pub type_read_back : (s : Signature) (t : Ty) → ReadsBack s → IsTyOver s t → reading_of_type s (ty_text t) ≡ reads t
unfolding reading_of_type tokens
type_read_back s t b h =
    let c = (reads_type s (has_names b) t h).whole (length (ty_text t) + 1) 0 [] (omega arith) rest_end in
    ap (λ x. whole (type_at s (length (ty_text t) + 1) (tokens_from 0 x))) (sym (no_more (ty_text t))) ∙ ap whole c.is ∙ ap (λ ts. ended (head_kind ts) (means t) ts) (at_end c.place)

same_type : (t u : Ty) → reads t ≡ reads u → t ≡ u
same_type t u e = cc

pub type_by_text : (s : Signature) (t u : Ty) → ReadsBack s → IsTyOver s t → IsTyOver s u → ty_text t ≡ ty_text u → t ≡ u
type_by_text s t u b h g e = same_type t u (sym (type_read_back s t b h) ∙ ap (reading_of_type s) e ∙ type_read_back s u b g)

-- ---- terms

opened_none : (k : ℕ) (t : Tm) → opened k [] t ≡ t
opened_none k (tm_index i t) = at (nat_lt i k)
  where
    at : (b : Bool) → cond b (tm_index i t) (tm_index i t) ≡ tm_index i t
    at true = refl
    at false = refl
opened_none k (tm_free v) = refl
opened_none k (tm_const c ts t) = refl
opened_none k (tm_comb f x) = λ i. tm_comb (opened_none k f i) (opened_none k x i)
opened_none k (tm_abs t d) = ap (λ e. tm_abs t e) (opened_none (k + 1) d)

pub term_read_back : (s : Signature) (t : Tm) → ReadsBack s → IsOver s [] t → length (tm_text t) < 2 ^ 64 → reading_of_term s (tm_text t) ≡ reads t
unfolding reading_of_term tokens
term_read_back s t b o l =
    let small : tm_size t ≤ tm_size t = omega arith in
    let g = (reads_term (tm_size t) s b [] t small (omega (arith, l)) o).whole (length (tm_text t) + 1) 0 [] (omega arith) closed_end in
    ap (λ x. whole (only_meaning (term_at s (length (tm_text t) + 1) [] (tokens_from 0 x)))) (sym (no_more (tm_text t)))
    ∙ ap (λ y. whole (only_meaning y)) g.is
    ∙ ap (λ ts. ended (head_kind ts) (means (opened 0 [] t)) ts) (at_end g.place)
    ∙ ap reads (opened_none 0 t)

same_term : (t u : Tm) → reads t ≡ reads u → t ≡ u
same_term t u e = cc

pub term_by_text : (s : Signature) (t u : Tm) → ReadsBack s → IsOver s [] t → IsOver s [] u → length (tm_text t) < 2 ^ 64 → tm_text t ≡ tm_text u → t ≡ u
term_by_text s t u b h g l e =
    same_term t u (sym (term_read_back s t b h l) ∙ ap (reading_of_term s) e ∙ term_read_back s u b g (omega (arith, ap length e, l)))
