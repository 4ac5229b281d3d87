-- Closed tables: over definitions that are known and facts alone. Their sequents compute.
use Rattle.std.proofs.Common.{◌≡◌, refl, sym, ap, ◌∙◌, subst, [], ◌∷◌, ◌++◌, append-nil, List, Some, IsSome, All}
use Rattle.std.proofs.lemmas.List.Elements.{All-nil, All-cons}
use Rattle.std.specs.Str.{chars}
use lib.Utf8.{encode}
use Rattle.hol_terms.specs.Signature.{IsTyOver, IsOver}
use Rattle.hol_terms.specs.Definition.{Definition, signature_of}
use Rattle.hol_terms.specs.Sequent.{Sequent, seq}
use Rattle.hol_terms.specs.Tm.{Tm}
use Rattle.hol_terms.specs.Text.{Text}
use Rattle.hol_terms.specs.Rules.{same, same_ty}
use Rattle.hol_terms.specs.Tokens.{tokens}
use Rattle.hol_terms.specs.Meaning.{applied, function, constant, fitted, apply, equation, connective, negation, quantified}
use Rattle.hol_terms.specs.Reading.{types_at, dtype_at, type_at, typed_at, braces_at, atom_at, atoms_at, application_at, bound_at, body_at, binder_at, term_at, reads, reading_of_type, reading_of_term}
use Rattle.hol_terms.specs.Logic.{base_1, base_2, base_3, base_4, base_5, base_6, base_7, base_8, base_9, base_10}
use Rattle.hol_terms.specs.Base.{base, base_definitions}
use Rattle.hol_kernel.specs.State.{State, Has}
use Rattle.kernel_lines.specs.Ready.{behind, sequents}
use Rattle.std.specs.Str.Lines.{lines}
use Rattle.kernel_lines.specs.Lines.{on}
use Rattle.kernel_lines.specs.Bases.{HasBase}
use Rattle.script_core.specs.Shelves.{Shelved, IsOn, AreOn}
use Rattle.library_facts.proofs.BaseSignature.{base_signature, same_signature}
use Rattle.script_core.specs.Steps.{Registers}
use Rattle.script_core.specs.Tables.{read, fact_sequent, facts_put, run_whole, table_sequent}
use Rattle.script_core.specs.Ready.{given_values, IsGiven, Fits, Gives}
use Rattle.script_core.specs.declared.run.Given.{Given}
use Rattle.script_core.specs.Words.{first_word, after_word, words, number, kind_named}
use Rattle.script_core.specs.Conversions.{most_steps}

-- an answer that names this on its `unfolding` line computes tables over the first ten base definitions
unfoldable pub closed_table : Unit {0}
unfolding first_word after_word words number kind_named most_steps same same_ty tokens chars encode reading_of_type reading_of_term types_at dtype_at type_at typed_at braces_at atom_at atoms_at application_at bound_at body_at binder_at term_at applied function constant fitted apply equation connective negation quantified base_definitions base_1 base_2 base_3 base_4 base_5 base_6 base_7 base_8 base_9 base_10
closed_table = tt

-- nothing is given beside facts
abbrev pub nothing : Registers
nothing = record { types = []; terms = []; thms = [] }

pub none_given : (k : State) (g : Given) → g.types.now ≡ [] → g.terms.now ≡ [] → g.thms.now ≡ [] → IsGiven k g
none_given k g a b c = record {
  types = record { all = subst (λ ys. All (IsTyOver (signature_of k.defs)) ys) (sym a) (All-nil (IsTyOver (signature_of k.defs))) };
  terms = record { all = subst (λ ts. All (IsOver (signature_of k.defs) []) ts) (sym b) (All-nil (IsOver (signature_of k.defs) [])) };
  thms = record { all = subst (λ ths. All (Has k) (behind ths)) (sym c) (All-nil (Has k)) };
}

none_values : (g : Given) → g.types.now ≡ [] → g.terms.now ≡ [] → g.thms.now ≡ [] → given_values g ≡ nothing
none_values g a b c = λ i. record { types = a i; terms = b i; thms = sequents (behind (c i)) }

some_same : (a b : Sequent) → Some a ≡ Some b → a ≡ b
some_same a b e = cc

-- a closed table fits where it computes to a sequent, and gives that one
pub closed_fits : {ds es : List Definition} {facts : List Text} (g : Given) {table : Text} {a : Sequent} → ds ≡ es → g.types.now ≡ [] → g.terms.now ≡ [] → g.thms.now ≡ [] → table_sequent es facts nothing table ≡ Some a
    → Fits ds facts (given_values g) table
closed_fits {ds} {es} {facts} g {table} {a} d x y z e =
    let f : table_sequent ds facts (given_values g) table ≡ Some a = (λ i. table_sequent (d i) facts (none_values g x y z i) table) ∙ e in
    record { is = subst IsSome (sym f) refl }

pub closed_gives : {ds es : List Definition} {facts : List Text} (g : Given) {table : Text} {a b : Sequent} → ds ≡ es → g.types.now ≡ [] → g.terms.now ≡ [] → g.thms.now ≡ [] → table_sequent es facts nothing table ≡ Some a
    → Gives ds facts (given_values g) table b → b ≡ a
closed_gives {ds} {es} {facts} g {table} {a} {b} d x y z e h =
    let f : table_sequent ds facts (given_values g) table ≡ table_sequent es facts nothing table = λ i. table_sequent (d i) facts (none_values g x y z i) table in
    some_same b a (sym h.is ∙ f ∙ e)

-- a table over facts whose sequents are known
pub over_facts : (ds : List Definition) (facts : List Text) (hs : List Sequent) (table : Text) (a : Sequent) → facts_put [] facts ≡ Some hs → run_whole ds (record { types = []; terms = []; thms = hs ++ [] }) (lines table) ≡ Some a
    → table_sequent ds facts nothing table ≡ Some a
over_facts ds facts hs table a f e = ap (λ o. on o (λ ks. run_whole ds (record { types = []; terms = []; thms = ks ++ [] }) (lines table))) f ∙ e

-- a fact's sequent, read over the signature that is written out
pub fact_reads_as : (fact : Text) (p : Tm) → reading_of_term base_signature fact ≡ reads p → fact_sequent fact ≡ Some (seq [] p)
fact_reads_as fact p e =
    ap (λ r. on (read r) (λ q. Some (seq [] q))) (ap (λ s. reading_of_term s fact) (sym same_signature) ∙ e)

pub on_none : (s : Shelved) → AreOn s []
on_none s = record { all = All-nil (IsOn s) }

pub on_more : (s : Shelved) (fact : Text) (facts : List Text) → IsOn s fact → AreOn s facts → AreOn s (fact ∷ facts)
on_more s fact facts h g = record { all = All-cons (IsOn s) fact facts h g.all }

pub base_is : (ds : List Definition) → ds ≡ base 10 → HasBase ds
base_is ds e = record { is = ([], e ∙ sym (append-nil (base 10))) }
