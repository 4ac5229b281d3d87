-- What stands in tables stands in those that they grow to.
use Rattle.std.proofs.Common.{◌≡◌, ◌⊎◌, ℕ, ◌<◌, ◌≤◌, take, Bool, true, false, ◌||◌, List, [], ◌∷◌, length, Option, Some, None, refl, sym, ap, ◌∙◌, subst, slice_get}
use Rattle.std.proofs.lemmas.List.{length-map}
use Rattle.std.specs.Prelude.{option_to_list}
use Rattle.std.specs.List.{list_any}
use Rattle.hol_terms.specs.Typing.{tm_type}
use Rattle.hol_terms.specs.Signature.{Signature}
use Rattle.hol_terms.specs.Definition.{Definition, const_def, type_def, signature_of}
use Rattle.hol_terms.specs.Sequent.{Sequent, seq}
use Rattle.hol_terms.specs.Base.{base}
use Rattle.hol_terms.specs.Proves.{IsPrefix}
use Rattle.hol_logs.specs.Step.{same_definition, are_base, if_connectives}
use Rattle.hol_logs.specs.Position.{is_next_base}
use Rattle.flat_terms.specs.Plain.{PlainTables}
use Rattle.flat_terms.specs.declared.nodes.TermId.{TermId}
use Rattle.flat_instances.specs.TablesGrow.{TablesGrow}
use Rattle.flat_rules.specs.declared.sequent.FlatSequent.{FlatSequent}
use Rattle.flat_rules.specs.Sequents.{HasTerms, terms_of, sequent_of, HasSequent}
use Rattle.replay_check.specs.declared.definitions.FlatDefinition.{FlatDefinition}
use Rattle.replay_check.specs.declared.definitions.FlatDefinition.TheVariants.{Constant, NewType}
use Rattle.base_count.specs.InForce.{in_force}
use Rattle.replay_check.specs.Definitions.{definition_of, HasDefinition, definitions_of, HasDefinitions, AreSequents, sequents_of}
use Rattle.replay_check.proofs.BaseReads.{prefix_is, no_axiom, ten_stand}

pub definition_stays : (t u : PlainTables) (d : FlatDefinition) → TablesGrow t u → HasDefinition t d → HasDefinition u d
definition_stays t u (Constant c n) g h = (g.has_name c h.0, g.has_term n h.1)
definition_stays t u (NewType c n) g h = (g.has_name c h.0, g.has_term n h.1)

pub definition_same : (t u : PlainTables) (d : FlatDefinition) → TablesGrow t u → HasDefinition t d → definition_of u d ≡ definition_of t d
definition_same t u (Constant c n) g h = λ i. const_def (g.same_name c h.0 i) (g.same_term n h.1 i)
definition_same t u (NewType c n) g h = λ i. type_def (g.same_name c h.0 i) (g.same_term n h.1 i)

pub definitions_stay : (t u : PlainTables) (ds : List FlatDefinition) → TablesGrow t u → HasDefinitions t ds → HasDefinitions u ds
definitions_stay t u [] g h = tt
definitions_stay t u (d ∷ ds) g h = (definition_stays t u d g h.0, definitions_stay t u ds g h.1)

pub definitions_same : (t u : PlainTables) (ds : List FlatDefinition) → TablesGrow t u → HasDefinitions t ds → definitions_of u ds ≡ definitions_of t ds
definitions_same t u [] g h = refl
definitions_same t u (d ∷ ds) g h = λ i. definition_same t u d g h.0 i ∷ definitions_same t u ds g h.1 i

terms_same : (t u : PlainTables) (ns : List TermId) → TablesGrow t u → HasTerms t ns → terms_of u ns ≡ terms_of t ns
terms_same t u [] g h = refl
terms_same t u (n ∷ ns) g h = λ i. g.same_term n h.0 i ∷ terms_same t u ns g h.1 i

terms_stay : (t u : PlainTables) (ns : List TermId) → TablesGrow t u → HasTerms t ns → HasTerms u ns
terms_stay t u [] g h = tt
terms_stay t u (n ∷ ns) g h = (g.has_term n h.0, terms_stay t u ns g h.1)

pub sequent_same : (t u : PlainTables) (q : FlatSequent) → TablesGrow t u → HasSequent t q → sequent_of u q ≡ sequent_of t q
sequent_same t u q g h = λ i. seq (terms_same t u q.hyps.items g h.hyps i) (g.same_term q.concl h.concl i)

pub sequent_stays : (t u : PlainTables) (q : FlatSequent) → TablesGrow t u → HasSequent t q → HasSequent u q
sequent_stays t u q g h = record { hyps = terms_stay t u q.hyps.items g h.hyps; concl = g.has_term q.concl h.concl }

pub sequents_stay : (t u : PlainTables) (qs : List FlatSequent) → TablesGrow t u → AreSequents t qs → AreSequents u qs
sequents_stay t u [] g h = tt
sequents_stay t u (q ∷ qs) g h = (sequent_stays t u q g h.0, ap (λ (a : Sequent). tm_type a.concl) (sequent_same t u q g h.0) ∙ h.1, sequents_stay t u qs g h.2)

pub sequents_same : (t u : PlainTables) (qs : List FlatSequent) → TablesGrow t u → AreSequents t qs → sequents_of u qs ≡ sequents_of t qs
sequents_same t u [] g h = refl
sequents_same t u (q ∷ qs) g h = λ i. sequent_same t u q g h.0 i ∷ sequents_same t u qs g h.2 i

-- ---- the next base definition

pub prefix_before : (t : PlainTables) (ds : List FlatDefinition) (s : Signature) → IsPrefix (definitions_of t ds) (base in_force) → s ≡ signature_of (definitions_of t ds) → length ds < 33 → s ≡ signature_of (base (length ds))
prefix_before t ds s p e h =
    let size : length (definitions_of t ds) ≡ length ds = length-map ds (definition_of t) in
    let same = prefix_is (definitions_of t ds) p (subst (λ (k : ℕ). k < 33) (sym size) h) in
    e ∙ ap signature_of (same ∙ ap base size)

one_of : (d : Definition) (b : Bool) (o : Option Definition) (e : Definition) → o ≡ Some e → b ≡ same_definition d e → b ≡ list_any (same_definition d) (option_to_list o)
one_of d b o e f g = g ∙ or_nothing (same_definition d e) ∙ ap (λ p. list_any (same_definition d) (option_to_list p)) (sym f)
  where
    or_nothing : (c : Bool) → c ≡ (c || false)
    or_nothing true = refl
    or_nothing false = refl

pub next_is : (t u : PlainTables) (ds : List FlatDefinition) (d e : FlatDefinition) (b : Bool) → TablesGrow t u → HasDefinition t d → slice_get (base in_force) (length ds) ≡ Some (definition_of u e) → b ≡ same_definition (definition_of u d) (definition_of u e)
    → b ≡ is_next_base in_force (definitions_of t ds) (definition_of t d)
next_is t u ds d e b g h f r =
    one_of (definition_of t d) b (slice_get (base in_force) (length (definitions_of t ds))) (definition_of u e) (ap (slice_get (base in_force)) (length-map ds (definition_of t)) ∙ f) (r ∙ ap (λ x. same_definition x (definition_of u e)) (definition_same t u d g h))

pub next_not : (t : PlainTables) (ds : List FlatDefinition) (d : Definition) → slice_get (base in_force) (length ds) ≡ None → false ≡ is_next_base in_force (definitions_of t ds) d
next_not t ds d f = ap (λ o. list_any (same_definition d) (option_to_list o)) (sym (ap (slice_get (base in_force)) (length-map ds (definition_of t)) ∙ f))

-- ---- the definitions of the connectives and quantifiers

pub too_few : (t : PlainTables) (ds : List FlatDefinition) (o : Option Sequent) → length ds < 10 → if_connectives (are_base 10 (take 10 (definitions_of t ds))) o ≡ None
too_few t ds o h = no_axiom (definitions_of t ds) o (subst (λ (k : ℕ). k < 10) (sym (length-map ds (definition_of t))) h)

pub enough : (t : PlainTables) (ds : List FlatDefinition) → 10 ≤ length ds → (IsPrefix (base 10) (definitions_of t ds) ⊎ IsPrefix (definitions_of t ds) (base 10)) → IsPrefix (base 10) (definitions_of t ds)
enough t ds h s = ten_stand (definitions_of t ds) (subst (λ (k : ℕ). 10 ≤ k) (sym (length-map ds (definition_of t))) h) s
