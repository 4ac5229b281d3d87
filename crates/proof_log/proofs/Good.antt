-- Lines that are good one after another are a log that is read.
use Rattle.std.proofs.Common.{◌≡◌, ℕ, suc, ◌+◌, List, [], ◌∷◌, ◌++◌, length, map, refl, sym, ap, ◌∙◌, subst, append_assoc, append-nil, arith}
use Rattle.hol_terms.specs.Text.{Text}
use Rattle.hol_logs.specs.Line.{LogLine, line_text}
use Rattle.hol_logs.specs.Position.{LogPosition, after, report_of}
use Rattle.hol_logs.specs.Log.{IsGood, Reads, one_more}
use Rattle.proof_log.specs.Written.{said_by}

-- the position behind the lines
abbrev pub after_all : LogPosition → List LogLine → LogPosition
after_all p [] = p
after_all p (l ∷ ls) = after_all (after p l) ls

abbrev pub AllGood : ℕ → LogPosition → List LogLine → Type 0
AllGood n p [] = Unit {0}
AllGood n p (l ∷ ls) = IsGood n p (line_text l) l × AllGood n (after p l) ls

-- lines that are good from a position on, and lead to another
pub record Leads (n : ℕ) (p : LogPosition) (ls : List LogLine) (q : LogPosition) : Type 0 where
  pub good : AllGood n p ls
  pub behind : after_all p ls ≡ q

good_append : (n : ℕ) (p : LogPosition) (ls ms : List LogLine) → AllGood n p ls → AllGood n (after_all p ls) ms → AllGood n p (ls ++ ms)
good_append n p [] ms h g = g
good_append n p (l ∷ ls) ms h g = (h.0, good_append n (after p l) ls ms h.1 g)

after_append : (p : LogPosition) (ls ms : List LogLine) → after_all p (ls ++ ms) ≡ after_all (after_all p ls) ms
after_append p [] ms = refl
after_append p (l ∷ ls) ms = after_append (after p l) ls ms

pub leads_nowhere : (n : ℕ) (p : LogPosition) → Leads n p [] p
leads_nowhere n p = record { good = tt; behind = refl }

pub leads_one : (n : ℕ) (p : LogPosition) (l : LogLine) (q : LogPosition) → IsGood n p (line_text l) l → after p l ≡ q → Leads n p (l ∷ []) q
leads_one n p l q g e = record { good = (g, tt); behind = e }

pub leads_append : (n : ℕ) (p q r : LogPosition) (ls ms : List LogLine) → Leads n p ls q → Leads n q ms r → Leads n p (ls ++ ms) r
leads_append n p q r ls ms h g = record {
  good = good_append n p ls ms h.good (subst (λ s. AllGood n s ms) (sym h.behind) g.good);
  behind = after_append p ls ms ∙ ap (λ s. after_all s ms) h.behind ∙ g.behind;
}

pub leads_to : (n : ℕ) (p q r : LogPosition) (ls : List LogLine) → q ≡ r → Leads n p ls q → Leads n p ls r
leads_to n p q r ls e h = subst (Leads n p ls) e h

pub leads_by : (n : ℕ) (p q : LogPosition) (ls ms : List LogLine) → ls ≡ ms → Leads n p ls q → Leads n p ms q
leads_by n p q ls ms e h = subst (λ xs. Leads n p xs q) e h

-- as many more lines were read
pub lines_counted : (p : LogPosition) (ls : List LogLine) → (after_all p ls).lines ≡ p.lines + length ls
lines_counted p [] = omega arith
lines_counted p (l ∷ ls) = let more = lines_counted (after p l) ls in more ∙ count p.lines (length ls)
  where
    count : (m k : ℕ) → suc m + k ≡ m + suc k
    count m k = omega arith

pub reads_on : (n : ℕ) (texts said : List Text) (p : LogPosition) (ls : List LogLine) → Reads n texts p said → AllGood n p ls → Reads n (texts ++ map line_text ls) (after_all p ls) (said ++ said_by p ls)
reads_on n texts said p [] r h = subst (λ ts. Reads n ts p (said ++ [])) (sym (append-nil texts)) (subst (Reads n texts p) (sym (append-nil said)) r)
reads_on n texts said p (l ∷ ls) r h =
    let rest = reads_on n (texts ++ line_text l ∷ []) (said ++ report_of p l) (after p l) ls (one_more texts said p (line_text l) l r h.0) h.1 in
    let whole = subst (λ ts. Reads n ts (after_all (after p l) ls) ((said ++ report_of p l) ++ said_by (after p l) ls)) (append_assoc texts (line_text l ∷ []) (map line_text ls)) rest in
    subst (Reads n (texts ++ line_text l ∷ map line_text ls) (after_all (after p l) ls)) (append_assoc said (report_of p l) (said_by (after p l) ls)) whole
