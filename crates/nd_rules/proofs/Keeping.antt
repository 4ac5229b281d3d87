-- Rules go on being usable while a kernel grows.
use Rattle.std.proofs.Common.{◌≡◌, ℕ, ◌+◌, ◌<◌, List, [], ◌∷◌, ◌++◌, length, drop, get_or, Bor, Some, ap, sym, ◌∙◌, subst}
use Rattle.std.proofs.lemmas.List.{drop_more, map_push, get_or-map, length-map}
use Rattle.std.proofs.lemmas.List.Elements.{All-push}
use Rattle.hol_terms.specs.Sequent.{Sequent}
use Rattle.hol_kernel.specs.State.{State, Theorem, Has, Grows, KeepsAll}
use Rattle.kernel_lines.specs.Bases.{HasBase}
use Rattle.kernel_lines.specs.Lines.{on, run}
use Rattle.kernel_lines.specs.Ready.{sequents, AllHad}
use Rattle.kernel_lines.specs.declared.line.Line.{Line}
use Rattle.kernel_lines.proofs.Given.{base_grows}
use Rattle.nd_rules.specs.Facts.{kept_facts, fact_at, truth_holds_fact}
use Rattle.nd_rules.specs.Kept.{HasRules, derived}

pub rules_grow : (k l : State) (kept : List Theorem) → HasRules k kept → Grows k l → HasRules l kept
rules_grow k l kept h g = record { base = base_grows k l h.base g; had = record { all = λ i x b. g.keeps _ (h.had.all i x b) } }

-- also over more definitions
pub rules_keep : (k l : State) (kept : List Theorem) → HasRules k kept → HasBase l.defs → KeepsAll k l → HasRules l kept
rules_keep k l kept h b g = record { base = b; had = record { all = λ i x b. g _ (h.had.all i x b) } }

pub rules_base : (k : State) (kept : List Theorem) → HasRules k kept → HasBase k.defs
rules_base k kept h = h.base

-- one more theorem is kept
pub had_pushed : (k l : State) (ths us : List Theorem) (th : Theorem) → AllHad k ths → Grows k l → Has l th → us ≡ ths ++ th ∷ [] → AllHad l us
had_pushed k l ths us th h g t e = subst (AllHad l) (sym e) (record { all = All-push (Has l) ths th (λ i x b. g.keeps _ (h.all i x b)) t })

pub derived_next : (tables : List (Bor (List Line))) (i : ℕ) (d : Bor (List Line)) (ths vs us : List Theorem) (th : Theorem) → i < length tables → vs ≡ ths
    → run [] (sequents vs) (get_or tables i d).now ≡ Some th.sequent → us ≡ ths ++ th ∷ []
    → derived (sequents ths) (drop i tables) ≡ derived (sequents us) (drop (i + 1) tables)
derived_next tables i d ths vs us th b v r e =
    ap (derived (sequents ths)) (drop_more tables i d b)
    ∙ ap (λ o. on o (λ a. derived (sequents ths ++ a ∷ []) (drop (i + 1) tables))) (ap (λ ws. run [] (sequents ws) (get_or tables i d).now) (sym v) ∙ r)
    ∙ ap (λ hs. derived hs (drop (i + 1) tables)) (sym (ap sequents e ∙ map_push (λ (t : Theorem). t.sequent) ths th))

-- what is derived is what is listed
pub listed : (xs ys : List Sequent) → Some ys ≡ Some xs → ys ≡ xs
listed xs ys e = cc

-- what stands at a place
pub kept_at : (ths : List Theorem) (place : ℕ) (th : Theorem) → sequents ths ≡ kept_facts → place < length kept_facts → th ≡ get_or ths place th → th.sequent ≡ fact_at place
kept_at ths place th e b h =
    ap (λ (t : Theorem). t.sequent) h
    ∙ sym (get_or-map (λ (t : Theorem). t.sequent) ths place th truth_holds_fact (subst (λ n. place < n) (sym (ap length e) ∙ length-map ths (λ (t : Theorem). t.sequent)) b))
    ∙ ap (λ hs. get_or hs place truth_holds_fact) e

pub ruleset keeping_lemmas = (rules_grow, rules_base)
