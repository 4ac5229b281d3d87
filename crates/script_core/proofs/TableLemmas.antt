-- The registers along a table, and its end.
use Rattle.std.proofs.Common.{◌≡◌, ℕ, suc, ◌+◌, ◌<◌, ◌≤◌, All, add-one, get_or, refl, sym, ap, ◌∙◌, subst, List, [], ◌∷◌, ◌++◌, length, drop, map, Option, Some, None, IsSome}
use Rattle.std.specs.Option.{option_to_list}
use Rattle.std.specs.Borrow.{Bor}
use Rattle.std.proofs.lemmas.List.{map_push, drop_all, map-append}
use Rattle.std.proofs.Math.Seq.{drop-cons}
use Rattle.std.proofs.lemmas.List.Elements.{All-push, All-append, All-weaker}
use Rattle.hol_terms.specs.Ty.{Ty}
use Rattle.hol_terms.specs.Tm.{Tm}
use Rattle.hol_terms.specs.Signature.{IsTyOver, IsOver}
use Rattle.hol_terms.specs.Definition.{Definition, signature_of}
use Rattle.hol_terms.specs.Proves.{IsDerivable}
use Rattle.hol_terms.specs.Sequent.{Sequent}
use Rattle.hol_terms.specs.Text.{Text}
use Rattle.std.specs.Str.Lines.{lines}
use Rattle.hol_terms.specs.Reading.{reading_of_type, reading_of_term}
use Rattle.hol_text.specs.Over.{GivesTypes}
use Rattle.text_laws.proofs.Given.{gives_types}
use Rattle.hol_kernel.specs.State.{State, Theorem, Has, Grows}
use Rattle.kernel_lines.specs.Lines.{on}
use Rattle.kernel_lines.specs.Ready.{behind, sequents, AllOver, AllHad}
use Rattle.kernel_lines.proofs.Had.{last_push, had_last}
use Rattle.nd_rules.proofs.Keeping.{rules_grow}
use Rattle.script_core.specs.Steps.{Registers, inferred}
use Rattle.script_core.specs.Words.{first_word, after_word, words, kind_named}
use Rattle.script_core.specs.Tables.{read, with_type, with_term, with_thm, stepped, line_step, run, run_whole, facts_put, table_sequent}
use Rattle.script_core.specs.Ready.{AllTypesOver, values, given_values, IsReady, IsGiven, Fits, Gives, StartsFrom, LineFits, LineSteps}
use Rattle.script_core.specs.declared.entries.Entries.{Entries}
use Rattle.script_core.specs.declared.run.Given.{Given}
use Rattle.script_core.specs.declared.rule.Rule.{Rule}
use Rattle.script_core.specs.declared.rule.LineKind.{LineKind}
use Rattle.script_core.specs.declared.rule.LineKind.TheVariants.{TypeText, TermText, Step}

-- what a kernel had ready, it has where only steps were added
pub ready_on : (k l : State) (r : Entries) → IsReady k r → Grows k l → IsReady l r
ready_on k l r h g = record {
  types = subst (λ (ds : List Definition). AllTypesOver ds r.types.items) (sym g.defs) h.types;
  terms = subst (λ (ds : List Definition). AllOver ds r.terms.items) (sym g.defs) h.terms;
  thms = record { all = All-weaker (Has k) (Has l) (λ th a. g.keeps th a) r.thms.items h.thms.all };
}

pub typed_on : (k l : State) → GivesTypes (signature_of k.defs) → Grows k l → GivesTypes (signature_of l.defs)
typed_on k l h g = subst (λ (ds : List Definition). GivesTypes (signature_of ds)) (sym g.defs) h

pub ready_type : (k : State) (r q : Entries) (y : Ty) → IsReady k r → IsTyOver (signature_of k.defs) y → q.types.items ≡ r.types.items ++ y ∷ [] → q.terms.items ≡ r.terms.items → q.thms.items ≡ r.thms.items
    → IsReady k q
ready_type k r q y h o a b c = record {
  types = record { all = subst (λ ys. All (IsTyOver (signature_of k.defs)) ys) (sym a) (All-push (IsTyOver (signature_of k.defs)) r.types.items y h.types.all o) };
  terms = subst (AllOver k.defs) (sym b) h.terms;
  thms = subst (AllHad k) (sym c) h.thms;
}

pub ready_term : (k : State) (r q : Entries) (t : Tm) → IsReady k r → IsOver (signature_of k.defs) [] t → q.types.items ≡ r.types.items → q.terms.items ≡ r.terms.items ++ t ∷ [] → q.thms.items ≡ r.thms.items
    → IsReady k q
ready_term k r q t h o a b c = record {
  types = subst (AllTypesOver k.defs) (sym a) h.types;
  terms = record { all = subst (λ ts. All (IsOver (signature_of k.defs) []) ts) (sym b) (All-push (IsOver (signature_of k.defs) []) r.terms.items t h.terms.all o) };
  thms = subst (AllHad k) (sym c) h.thms;
}

pub ready_thm : (k : State) (r q : Entries) (th : Theorem) → IsReady k r → Has k th → q.types.items ≡ r.types.items → q.terms.items ≡ r.terms.items → q.thms.items ≡ r.thms.items ++ th ∷ []
    → IsReady k q
ready_thm k r q th h o a b c = record {
  types = subst (AllTypesOver k.defs) (sym a) h.types;
  terms = subst (AllOver k.defs) (sym b) h.terms;
  thms = record { all = subst (λ ths. All (Has k) ths) (sym c) (All-push (Has k) r.thms.items th h.thms.all o) };
}

pub values_type : (r q : Entries) (y : Ty) → q.types.items ≡ r.types.items ++ y ∷ [] → q.terms.items ≡ r.terms.items → q.thms.items ≡ r.thms.items → values q ≡ with_type (values r) y
values_type r q y a b c = λ i. record { types = a i; terms = b i; thms = sequents (c i) }

pub values_term : (r q : Entries) (t : Tm) → q.types.items ≡ r.types.items → q.terms.items ≡ r.terms.items ++ t ∷ [] → q.thms.items ≡ r.thms.items → values q ≡ with_term (values r) t
values_term r q t a b c = λ i. record { types = a i; terms = b i; thms = sequents (c i) }

pub values_thm : (r q : Entries) (th : Theorem) → q.types.items ≡ r.types.items → q.terms.items ≡ r.terms.items → q.thms.items ≡ r.thms.items ++ th ∷ [] → values q ≡ with_thm (values r) th.sequent
values_thm r q th a b c =
    let e : sequents q.thms.items ≡ sequents r.thms.items ++ th.sequent ∷ [] = ap sequents c ∙ map_push (λ (t : Theorem). t.sequent) r.thms.items th in
    λ i. record { types = a i; terms = b i; thms = e i }

pub ruleset push_lemmas = (ready_type, ready_term, ready_thm, values_type, values_term, values_thm)

-- a line of a kind
pub type_stepped : (ds : List Definition) (r q : Registers) (text : Text) (y : Ty) → read (reading_of_type (signature_of ds) text) ≡ Some y → q ≡ with_type r y → stepped ds r TypeText text ≡ Some q
type_stepped ds r q text y e d = rw (e, d) refl

pub term_stepped : (ds : List Definition) (r q : Registers) (text : Text) (t : Tm) → read (reading_of_term (signature_of ds) text) ≡ Some t → q ≡ with_term r t → stepped ds r TermText text ≡ Some q
term_stepped ds r q text t e d = rw (e, d) refl

pub thm_stepped : (ds : List Definition) (r q : Registers) (rule : Rule) (text : Text) (a : Sequent) → inferred ds r rule (words text) ≡ Some a → q ≡ with_thm r a → stepped ds r (Step rule) text ≡ Some q
thm_stepped ds r q rule text a e d = rw (e, d) refl

on_is : {A B : Type 0} (o : Option A) (f : A → Option B) → IsSome (on o f) → IsSome o
on_is None f h = cc
on_is (Some a) f h = refl

pub type_fits : (ds : List Definition) (r : Registers) (text : Text) → IsSome (stepped ds r TypeText text) → IsSome (read (reading_of_type (signature_of ds) text))
type_fits ds r text h = on_is (read (reading_of_type (signature_of ds) text)) (λ y. Some (with_type r y)) h

pub term_fits : (ds : List Definition) (r : Registers) (text : Text) → IsSome (stepped ds r TermText text) → IsSome (read (reading_of_term (signature_of ds) text))
term_fits ds r text h = on_is (read (reading_of_term (signature_of ds) text)) (λ t. Some (with_term r t)) h

pub thm_fits : (ds : List Definition) (r : Registers) (rule : Rule) (text : Text) → IsSome (stepped ds r (Step rule) text) → IsSome (inferred ds r rule (words text))
thm_fits ds r rule text h = on_is (inferred ds r rule (words text)) (λ a. Some (with_thm r a)) h

pub ruleset step_lemmas = (type_stepped, term_stepped, thm_stepped, type_fits, term_fits, thm_fits, ready_on)

-- a line, by its first word
of_kind : (ds : List Definition) (r : Registers) (line word text : Text) (kind : LineKind) → word ≡ first_word line → text ≡ after_word line → kind_named word ≡ Some kind → line_step ds r line ≡ stepped ds r kind text
of_kind ds r line word text kind e d h =
    ap (λ o. on o (λ k. stepped ds r k (after_word line))) (ap kind_named (sym e) ∙ h) ∙ ap (stepped ds r kind) (sym d)

step_is : (ds : List Definition) (r : Registers) (line : Text) → LineFits ds r line → IsSome (line_step ds r line)
step_is ds r line h = on_is (line_step ds r line) (λ q. run ds q h.rest) h.is

pub kind_fits : (ds : List Definition) (r : Registers) (line word text : Text) (kind : LineKind) → LineFits ds r line → word ≡ first_word line → text ≡ after_word line → kind_named word ≡ Some kind
    → IsSome (stepped ds r kind text)
kind_fits ds r line word text kind h e d g = subst IsSome (of_kind ds r line word text kind e d g) (step_is ds r line h)

pub kind_steps : (ds : List Definition) (r q : Registers) (line word text : Text) (kind : LineKind) → word ≡ first_word line → text ≡ after_word line → kind_named word ≡ Some kind → stepped ds r kind text ≡ Some q
    → LineSteps ds r line q
kind_steps ds r q line word text kind e d g h = record { is = λ more. ap (λ o. on o (λ p. run ds p more)) (of_kind ds r line word text kind e d g ∙ h) }

no_kind : (o : Option LineKind) (ds : List Definition) (r : Registers) (text : Text) → IsSome (on o (λ k. stepped ds r k text)) → o ≡ None → ⊥
no_kind None ds r text h e = cc
no_kind (Some k) ds r text h e = cc

pub kind_there : (ds : List Definition) (r : Registers) (line word : Text) → LineFits ds r line → word ≡ first_word line → kind_named word ≡ None → ⊥
kind_there ds r line word h e g = no_kind (kind_named (first_word line)) ds r (after_word line) (step_is ds r line h) (ap kind_named (sym e) ∙ g)

pub ruleset line_lemmas = (kind_fits, kind_steps, kind_there)

-- the end of a table
pub table_end : (ds : List Definition) (r : Registers) (hs us : List Theorem) (th : Theorem) (ls : List (Bor Text)) (i : ℕ) → length ls ≤ i → r.thms ≡ sequents hs → hs ≡ us ++ option_to_list (Some th)
    → run ds r (map (λ l. l.now) (drop i ls)) ≡ Some th.sequent
table_end ds r hs us th ls i h e d =
    rw (drop_all i ls h, e, d, map_push (λ (t : Theorem). t.sequent) us th) (last_push (sequents us) th.sequent)

-- a turn of the loop over the lines
pub turn_fits : (o : Option Sequent) {es : List Definition} {q : Registers} (xs : List (Bor Text)) (i : ℕ) (d : Bor Text) → i < length xs → IsSome o → o ≡ run es q (behind (drop i xs))
    → LineFits es q (get_or xs i d).now
turn_fits o {es} {q} xs i d h f e =
    record { rest = behind (drop (suc i) xs); is = subst IsSome (e ∙ ap (λ ys. run es q (behind ys)) (drop-cons xs i d h)) f }

pub turn_rest : {k l : State} {r q : Registers} (xs : List (Bor Text)) (i : ℕ) (d : Bor Text) → i < length xs → Grows k l → LineSteps k.defs r (get_or xs i d).now q
    → run k.defs r (behind (drop i xs)) ≡ run l.defs q (behind (drop (i + 1) xs))
turn_rest {k} {l} {r} {q} xs i d h g s =
    ap (λ ys. run k.defs r (behind ys)) (drop-cons xs i d h)
    ∙ s.is (behind (drop (suc i) xs))
    ∙ ap (λ ds. run ds q (behind (drop (suc i) xs))) (sym g.defs)
    ∙ ap (λ m. run l.defs q (behind (drop m xs))) (sym (add-one i))

pub ruleset loop_lemmas = (ready_on, typed_on, rules_grow, table_end, had_last)

pub types_from : (k : State) (th : Theorem) → th.defs ≡ k.defs → IsDerivable th.defs th.sequent → GivesTypes (signature_of k.defs)
types_from k th e d = subst (λ (ds : List Definition). GivesTypes (signature_of ds)) e (gives_types th.defs d.conservative)

pub ruleset type_lemmas = (types_from)

-- the start
pub start_ready : (k : State) (g : Given) (r : Entries) (hs : List Theorem) → IsGiven k g → AllHad k hs → r.types.items ≡ g.types.now → r.terms.items ≡ g.terms.now → r.thms.items ≡ hs ++ behind g.thms.now
    → IsReady k r
start_ready k g r hs h f a b c = record {
  types = subst (AllTypesOver k.defs) (sym a) h.types;
  terms = subst (AllOver k.defs) (sym b) h.terms;
  thms = record { all = subst (λ ths. All (Has k) ths) (sym c) (All-append (Has k) hs (behind g.thms.now) f.all h.thms.all) };
}

pub start_from : (facts : List Text) (g : Given) (r : Entries) (hs : List Theorem) → facts_put [] facts ≡ Some (sequents hs) → r.types.items ≡ g.types.now → r.terms.items ≡ g.terms.now → r.thms.items ≡ hs ++ behind g.thms.now
    → StartsFrom facts (given_values g) (values r)
start_from facts g r hs f a b c =
    let e : sequents r.thms.items ≡ sequents hs ++ sequents (behind g.thms.now) = ap sequents c ∙ map-append (λ (t : Theorem). t.sequent) hs (behind g.thms.now) in
    record { known = sequents hs; stated = f; is = λ i. record { types = a i; terms = b i; thms = e i } }

pub ruleset start_lemmas = (start_ready, start_from)

-- the whole
of_start : (ds : List Definition) (facts : List Text) (g r : Registers) (table : Text) (ls : List Text) → StartsFrom facts g r → ls ≡ lines table → table_sequent ds facts g table ≡ run_whole ds r ls
of_start ds facts g r table ls s e =
    ap (λ o. on o (λ hs. run_whole ds (record { types = g.types; terms = g.terms; thms = hs ++ g.thms }) (lines table))) s.stated
    ∙ (λ i. run_whole ds (sym s.is i) (sym e i))

whole_is : (ds : List Definition) (r : Registers) (ls : List Text) → IsSome (run_whole ds r ls) → run_whole ds r ls ≡ run ds r ls
whole_is ds r [] h = cc
whole_is ds r (l ∷ ls) h = refl

runs : (ds : List Definition) (facts : List Text) (g r : Registers) (table : Text) (ls : List Text) → Fits ds facts g table → StartsFrom facts g r → ls ≡ lines table → table_sequent ds facts g table ≡ run ds r ls
runs ds facts g r table ls h s e =
    let f = of_start ds facts g r table ls s e in
    f ∙ whole_is ds r ls (subst IsSome f h.is)

pub table_fits : (ds : List Definition) (facts : List Text) (g r : Registers) (table : Text) (ls : List Text) → Fits ds facts g table → StartsFrom facts g r → ls ≡ lines table → IsSome (run ds r ls)
table_fits ds facts g r table ls h s e = subst IsSome (runs ds facts g r table ls h s e) h.is

pub table_gives : (ds : List Definition) (facts : List Text) (g r : Registers) (table : Text) (ls : List Text) (a : Sequent) → Fits ds facts g table → StartsFrom facts g r → ls ≡ lines table → run ds r ls ≡ Some a
    → Gives ds facts g table a
table_gives ds facts g r table ls a h s e f = record { is = runs ds facts g r table ls h s e ∙ f }

pub ruleset table_lemmas = (table_fits, table_gives)
