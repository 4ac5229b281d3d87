-- What is there after steps.
use Rattle.std.proofs.Common.{◌≡◌, ℕ, zero, suc, ⊎_elim, Contains, map, ◌+◌, ◌<◌, ◌≤◌, arith, length, get_or, Bor, refl, sym, ap, ◌∙◌, subst, List, [], ◌∷◌, ◌++◌, Some, slice_get, take}
use Rattle.std.proofs.lemmas.List.{append-nil, append_assoc, take_more, map_push, length-map, get_or-map}
use Rattle.std.proofs.lemmas.Option.{slice_get-get_or}
use Rattle.std.proofs.lemmas.List.Elements.{All-nil, All-map, All-append, All-contains, Contains-append_left, Contains-get_or, Contains-push, Contains-push_cases}
use Rattle.hol_terms.specs.Base.{base}
use Rattle.hol_terms.specs.Definition.{Definition}
use Rattle.hol_terms.specs.Text.{Text}
use Rattle.hol_kernel.specs.State.{State, Theorem}
use Rattle.library_facts.specs.declared.fact.Fact.{Fact}
use Rattle.library_facts.specs.Facts.{statement_of, statements_of}
use Rattle.kernel_lines.specs.Bases.{HasBase}
use Rattle.nd_rules.specs.Kept.{HasRules}
use Rattle.nd_rules.proofs.Keeping.{rules_keep}
use Rattle.script_core.specs.Shelves.{Shelved, ShelfHad, IsOn, AreOn}
use Rattle.library_steps.specs.Closed.{Proves}
use Rattle.library_steps.specs.Building.{Keeps, Extends, facts_on, defs_after, facts_after, made, proved, FitsAt, AllFit, CanTake, Makes, Puts, AreAmong, IsConstantAt, IsTypeAt}
use Rattle.library_steps.specs.declared.step.Step.{Step}
use Rattle.library_steps.specs.declared.step.Step.TheVariants.{Constant, NewType, Prove}

-- ---- one step

pub constant_fits : (ds : List Definition) (facts : List Text) (step : Step) (place : ℕ) → FitsAt ds facts step → step ≡ Constant place → (ds ≡ base place) × IsConstantAt place
constant_fits ds facts step place h e = subst (FitsAt ds facts) e h

pub type_fits : (ds : List Definition) (facts : List Text) (step : Step) (place : ℕ) (table : Bor Text) → FitsAt ds facts step → step ≡ NewType place table → (ds ≡ base place) × IsTypeAt place table.now
type_fits ds facts step place table h e = subst (FitsAt ds facts) e h

pub fact_fits : (ds : List Definition) (facts : List Text) (step : Step) (fact : Fact) (from : Bor (List Fact)) (table : Bor Text) → FitsAt ds facts step → step ≡ Prove fact from table
    → AreAmong facts (statements_of from.now) × Proves ds (statements_of from.now) table.now (statement_of fact)
fact_fits ds facts step fact from table h e = subst (FitsAt ds facts) e h

pub above_nine : (n : ℕ) → 9 < n → 10 ≤ n
above_nine n b = omega arith

-- rules go on being usable
pub rules_kept : {k l : State} {kept : List Theorem} → HasRules k kept → Keeps k l → HasRules l kept
rules_kept {k} {l} {kept} h g =
    let more : HasBase l.defs = record { is = (h.base.is.0 ++ g.more, g.defs ∙ ap (λ (ds : List Definition). ds ++ g.more) h.base.is.1 ∙ append_assoc (base 10) h.base.is.0 g.more) } in
    rules_keep k l kept h more g.theorems

pub had_keeps : (k l : State) (s : Shelved) → ShelfHad k s → Keeps k l → ShelfHad l s
had_keeps k l s h g = record { all = λ i d b. g.theorems _ (h.all i d b) }

pub extends_itself : (s : Shelved) → Extends s s
extends_itself s = record { more = []; is = sym (append-nil s) }

pub extends_on : (s t u : Shelved) → Extends s t → Extends t u → Extends s u
extends_on s t u g h = record { more = g.more ++ h.more; is = h.is ∙ ap (λ (v : Shelved). v ++ h.more) g.is ∙ append_assoc s g.more h.more }

pub among_on : (s : Shelved) (facts from : List Text) → AreOn s facts → AreAmong facts from → AreOn s from
among_on s facts from o h = record { all = λ i d b. subst (IsOn s) (h.all i d b).2 (o.all (h.all i d b).0 _ (h.all i d b).1) }

pub none_on : (s : Shelved) → AreOn s []
none_on s = record { all = All-nil (IsOn s) }

-- ---- the facts of a shelf

contains_map : {X Y : Type 0} (f : X → Y) (xs : List X) (x : X) → Contains xs x → Contains (map f xs) (f x)
contains_map f xs x h =
    let long = length-map xs f in
    let lt = h.1 in
    (h.0, omega arith, get_or-map f xs h.0 x (f x) h.1 ∙ ap f h.2)

pub facts_put : (s t : Shelved) (fact : Text) (th : Theorem) → t ≡ s ++ (fact, th) ∷ [] → facts_on t ≡ facts_on s ++ fact ∷ []
facts_put s t fact th e = ap facts_on e ∙ map_push (λ (x : Text × Theorem). x.0) s (fact, th)

-- a fact that is on the shelf is among its facts, and the other way round
pub on_among : (s : Shelved) (fact : Text) → IsOn s fact → Contains (facts_on s) fact
on_among s fact o = contains_map (λ (x : Text × Theorem). x.0) s (fact, o.th) o.there

all_on : (s : Shelved) → AreOn s (facts_on s)
all_on s = record { all = All-map (IsOn s) (λ (x : Text × Theorem). x.0) s (λ i d b. record { th = (get_or s i d).1; there = Contains-get_or s i d b }) }

pub premises_on : (s : Shelved) (from : List Text) → AreAmong (facts_on s) from → AreOn s from
premises_on s from h = among_on s (facts_on s) from (all_on s) h

pub both_on : {s : Shelved} {facts gs : List Text} → AreOn s facts → AreOn s gs → AreOn s (facts ++ gs)
both_on {s} {facts} {gs} h g = record { all = All-append (IsOn s) facts gs h.all g.all }

-- what was on the shelf still is
on_more : (s t : Shelved) (fact : Text) → IsOn s fact → Extends s t → IsOn t fact
on_more s t fact o h = subst (λ (v : Shelved). IsOn v fact) (sym h.is) (record { th = o.th; there = Contains-append_left s h.more (fact, o.th) o.there })

pub all_more : (s t : Shelved) (facts : List Text) → AreOn s facts → Extends s t → AreOn t facts
all_more s t facts o h = record { all = λ i d b. on_more s t _ (o.all i d b) h }

-- ---- steps

pub made_push : (ds : List Definition) (steps : List Step) (step : Step) → made ds (steps ++ step ∷ []) ≡ defs_after (made ds steps) step
made_push ds [] step = refl
made_push ds (x ∷ xs) step = made_push (defs_after ds x) xs step

pub proved_push : (facts : List Text) (steps : List Step) (step : Step) → proved facts (steps ++ step ∷ []) ≡ facts_after (proved facts steps) step
proved_push facts [] step = refl
proved_push facts (x ∷ xs) step = proved_push (facts_after facts x) xs step

same_step : (x y : Step) → Some x ≡ Some y → x ≡ y
same_step x y e = cc

fits_at : (ds : List Definition) (facts : List Text) (steps : List Step) (i : ℕ) (step : Step) → AllFit ds facts steps → slice_get steps i ≡ Some step → FitsAt (made ds (take i steps)) (proved facts (take i steps)) step
fits_at ds facts [] i step h e = cc
fits_at ds facts (x ∷ xs) zero step h e = subst (FitsAt ds facts) (same_step x step e) h.0
fits_at ds facts (x ∷ xs) (suc i) step h e = fits_at (defs_after ds x) (facts_after facts x) xs i step h.1 e

-- the next step fits after those before it
pub next_fits : (ds es : List Definition) (facts gs : List Text) (steps : List Step) (i : ℕ) (d : Step) → AllFit ds facts steps → i < length steps → es ≡ made ds (take i steps) → gs ≡ proved facts (take i steps) → FitsAt es gs (get_or steps i d)
next_fits ds es facts gs steps i d h b e f =
    subst (λ (fs : List Definition). FitsAt fs gs (get_or steps i d)) (sym e)
    (subst (λ (hs : List Text). FitsAt (made ds (take i steps)) hs (get_or steps i d)) (sym f)
    (fits_at ds facts steps i (get_or steps i d) h (slice_get-get_or steps i d b)))

pub defs_next : (ds es fs : List Definition) (steps : List Step) (i : ℕ) (d : Step) → i < length steps → es ≡ made ds (take i steps) → fs ≡ defs_after es (get_or steps i d) → fs ≡ made ds (take (i + 1) steps)
defs_next ds es fs steps i d b e f =
    f ∙ ap (λ (hs : List Definition). defs_after hs (get_or steps i d)) e ∙ sym (made_push ds (take i steps) (get_or steps i d)) ∙ ap (made ds) (sym (take_more steps i d b))

pub facts_next : (facts gs hs : List Text) (steps : List Step) (i : ℕ) (d : Step) → i < length steps → gs ≡ proved facts (take i steps) → hs ≡ facts_after gs (get_or steps i d) → hs ≡ proved facts (take (i + 1) steps)
facts_next facts gs hs steps i d b e f =
    f ∙ ap (λ (fs : List Text). facts_after fs (get_or steps i d)) e ∙ sym (proved_push facts (take i steps) (get_or steps i d)) ∙ ap (proved facts) (sym (take_more steps i d b))

-- ---- a library that takes facts of others

-- what fits where these facts are proved also fits where more are
more_after : (facts gs : List Text) (step : Step) → ((x : Text) → Contains facts x → Contains gs x) → (x : Text) → Contains (facts_after facts step) x → Contains (facts_after gs step) x
more_after facts gs (Constant place) h x c = h x c
more_after facts gs (NewType place table) h x c = h x c
more_after facts gs (Prove fact from table) h x c =
    ⊎_elim (λ (before : Contains facts x). Contains-append_left gs (statement_of fact ∷ []) x (h x before))
    (λ (same : statement_of fact ≡ x). subst (Contains (gs ++ statement_of fact ∷ [])) same (Contains-push gs (statement_of fact)))
    (Contains-push_cases facts (statement_of fact) x c)

fits_more : (ds : List Definition) (facts gs : List Text) (step : Step) → ((x : Text) → Contains facts x → Contains gs x) → FitsAt ds facts step → FitsAt ds gs step
fits_more ds facts gs (Constant place) h f = f
fits_more ds facts gs (NewType place table) h f = f
fits_more ds facts gs (Prove fact from table) h f = (record { all = λ i d b. h _ (f.0.all i d b) }, f.1)

all_fit_more : (ds : List Definition) (facts gs : List Text) (steps : List Step) → ((x : Text) → Contains facts x → Contains gs x) → AllFit ds facts steps → AllFit ds gs steps
all_fit_more ds facts gs [] h f = tt
all_fit_more ds facts gs (step ∷ steps) h f =
    (fits_more ds facts gs step h f.0, all_fit_more (defs_after ds step) (facts_after facts step) (facts_after gs step) steps (more_after facts gs step h) f.1)

pub can_take : {ds es : List Definition} {s : Shelved} {known : List Text} {steps : List Step} → es ≡ ds → AreOn s known → CanTake ds known steps → CanTake es (facts_on s) steps
can_take {ds} {es} {s} {known} {steps} e o h =
    subst (λ (fs : List Definition). CanTake fs (facts_on s) steps) (sym e)
    (record { all = all_fit_more ds known (facts_on s) steps (λ x c. on_among s x (All-contains (IsOn s) known x o.all c)) h.all })

pub made_to : {ds es fs gs : List Definition} {steps : List Step} → Makes es fs steps → es ≡ ds → made ds steps ≡ gs → fs ≡ gs
made_to {ds} {es} {fs} {gs} {steps} h e f = h.is ∙ ap (λ (ms : List Definition). made ms steps) e ∙ f

-- the facts that the steps prove are on the shelf then
kept_after : (facts : List Text) (step : Step) (x : Text) → Contains facts x → Contains (facts_after facts step) x
kept_after facts (Constant place) x c = c
kept_after facts (NewType place table) x c = c
kept_after facts (Prove fact from table) x c = Contains-append_left facts (statement_of fact ∷ []) x c

proved_more : (facts gs : List Text) (steps : List Step) → ((x : Text) → Contains facts x → Contains gs x) → (x : Text) → Contains (proved facts steps) x → Contains (proved gs steps) x
proved_more facts gs [] h x c = h x c
proved_more facts gs (step ∷ steps) h x c = proved_more (facts_after facts step) (facts_after gs step) steps (more_after facts gs step h) x c

contains_none : (gs : List Text) (x : Text) → Contains [] x → Contains gs x
contains_none gs x c = absurd (omega (arith, c.1))

proved_on : (s t : Shelved) (steps : List Step) → facts_on t ≡ proved (facts_on s) steps → AreOn t (proved [] steps)
proved_on s t steps e = premises_on t (proved [] steps) (record { all = λ i d b. subst (λ (hs : List Text). Contains hs (get_or (proved [] steps) i d)) (sym e) (proved_more [] (facts_on s) steps (contains_none (facts_on s)) _ (Contains-get_or (proved [] steps) i d b)) })

pub facts_to : {s t : Shelved} {steps : List Step} {facts : List Text} → Puts s t steps → proved [] steps ≡ facts → AreOn t facts
facts_to {s} {t} {steps} h e = subst (AreOn t) e (proved_on s t steps h.is)
