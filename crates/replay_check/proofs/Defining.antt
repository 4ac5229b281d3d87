-- One more definition at a position.
use Rattle.std.proofs.Common.{◌≡◌, suc, Bool, true, false, cond, not, ◌||◌, List, [], ◌∷◌, ◌++◌, Option, String, refl, sym, ap, ◌∙◌, subst}
use Rattle.std.specs.declared.alloc.Global.{Global}
use Rattle.hol_terms.specs.Typing.{tm_type}
use Rattle.hol_terms.specs.Sequent.{Sequent}
use Rattle.hol_terms.specs.Proves.{sequents_of as said_by}
use Rattle.hol_terms.specs.Signature.{Signature}
use Rattle.hol_terms.specs.Definition.{Definition, const_def, type_def, bool_ty, with_def, signature_of}
use Rattle.hol_terms.proofs.Weaken.{signature_of-push}
use Rattle.hol_logs.specs.Position.{is_next_base}
use Rattle.hol_logs.proofs.Standing.{Stands, defines_more}
use Rattle.flat_terms.specs.Plain.{PlainTables}
use Rattle.flat_instances.specs.TablesGrow.{TablesGrow}
use Rattle.flat_instances.proofs.TablesGrow.{tables_grow_itself, tables_grow_further}
use Rattle.flat_rules.specs.declared.sequent.FlatSequent.{FlatSequent}
use Rattle.flat_rules.specs.Sequents.{sequent_of}
use Rattle.flat_rules.specs.Said.{HasSequents, AreSaid}
use Rattle.flat_signatures.proofs.Signatures.{signature_same}
use Rattle.flat_signatures.specs.FlatNames.{plain_signature, HasSignature}
use Rattle.replay_check.specs.declared.definitions.FlatDefinition.{FlatDefinition}
use Rattle.replay_check.specs.declared.definitions.FlatDefinition.TheVariants.{Constant, NewType}
use Rattle.replay_check.specs.declared.position.Position.{Position}
use Rattle.base_count.specs.InForce.{in_force}
use Rattle.replay_check.specs.Named.{AreNamed}
use Rattle.replay_check.specs.Definitions.{definition_of, HasDefinition, definitions_of, HasDefinitions, AreSequents, sequents_of, IsTypedDefinition, MayDefine}
use Rattle.replay_check.specs.Positions.{IsPosition, log_position, Gains, reported, off_base, definition_report, IsDefined, with_definition, IsDefinitionVerdict}
use Rattle.replay_check.specs.declared.why.Verdict.TheVariants.{Good}
use Rattle.replay_check.proofs.Taking.{position_same}
use Rattle.replay_check.proofs.Named.{constant_named, type_named}
use Rattle.replay_check.proofs.Later.{definition_stays, definition_same, definitions_stay, definitions_same, sequents_stay, sequents_same}

push_definition : (t : PlainTables) (ds : List FlatDefinition) (d : FlatDefinition) → HasDefinitions t ds → HasDefinition t d → HasDefinitions t (ds ++ d ∷ [])
push_definition t [] d h g = (g, tt)
push_definition t (e ∷ ds) d h g = (h.0, push_definition t ds d h.1 g)

pushed_definitions : (t : PlainTables) (ds : List FlatDefinition) (d : FlatDefinition) → definitions_of t (ds ++ d ∷ []) ≡ definitions_of t ds ++ definition_of t d ∷ []
pushed_definitions t [] d = refl
pushed_definitions t (e ∷ ds) d = ap (λ es. definition_of t e ∷ es) (pushed_definitions t ds d)

named_further : (t : PlainTables) (ds : List Definition) (s : Signature) (d : FlatDefinition) → s ≡ signature_of ds → MayDefine s (definition_of t d) → AreNamed (signature_of ds) → AreNamed (signature_of (ds ++ definition_of t d ∷ []))
named_further t ds s (Constant c n) e m h = constant_named ds _ _ (subst (λ r. MayDefine r (definition_of t (Constant c n))) e m) h
named_further t ds s (NewType c n) e m h = type_named ds _ _ (subst (λ r. MayDefine r (definition_of t (NewType c n))) e m).0 h

stands_further : (b : Bool) (ds : List Definition) (d : Definition) → cond b false (not (is_next_base in_force ds d)) ≡ false → Stands in_force b ds → Stands in_force b (ds ++ d ∷ [])
stands_further b ds d e h = subst (λ c. Stands in_force c (ds ++ d ∷ [])) (sym (same b)) (defines_more in_force b ds d e h)
  where
    same : (c : Bool) → c ≡ (c || false)
    same true = refl
    same false = refl

pub defined : (p q : Position) (d : FlatDefinition) → IsPosition p → HasDefinition p.tables d → MayDefine (plain_signature p.tables p.signature) (definition_of p.tables d) → off_base (log_position p) (definition_of p.tables d) ≡ false
    → TablesGrow p.tables q.tables → HasSignature q.tables q.signature → plain_signature q.tables q.signature ≡ with_def (plain_signature p.tables p.signature) (definition_of p.tables d)
    → q.definitions.items ≡ p.definitions.items ++ d ∷ [] → q.sequents ≡ p.sequents → q.lines ≡ p.lines → q.is_based ≡ p.is_based → q.is_over ≡ p.is_over → IsDefined p q (definition_of p.tables d)
defined p q d h has may off g sig plain defs seqs lines based over =
    let ds : List Definition = definitions_of p.tables p.definitions.items in
    let more : definitions_of q.tables q.definitions.items ≡ ds ++ definition_of p.tables d ∷ [] =
    ap (definitions_of q.tables) defs ∙ pushed_definitions q.tables p.definitions.items d ∙ (λ i. definitions_same p.tables q.tables p.definitions.items g h.definitions i ++ definition_same p.tables q.tables d g has i ∷ []) in
    record {
      position = record {
        signature = sig;
        plain = plain ∙ ap (λ s. with_def s (definition_of p.tables d)) h.plain ∙ signature_of-push ds (definition_of p.tables d) ∙ ap signature_of (sym more);
        definitions = subst (λ x. HasDefinitions q.tables x) (sym defs) (push_definition q.tables p.definitions.items d (definitions_stay p.tables q.tables p.definitions.items g h.definitions) (definition_stays p.tables q.tables d g has));
        sequents = subst (λ x. AreSequents q.tables x.items) (sym seqs) (sequents_stay p.tables q.tables p.sequents.items g h.sequents);
        named = subst (λ x. AreNamed (signature_of x)) (sym more) (named_further p.tables ds (plain_signature p.tables p.signature) d h.plain may h.named);
        stands = subst (λ b. Stands in_force b (definitions_of q.tables q.definitions.items)) (sym based) (subst (λ x. Stands in_force p.is_based x) (sym more) (stands_further p.is_based ds (definition_of p.tables d) off h.stands));
      };
      grows = g;
      definitions = more;
      sequents = seqs;
      lines = lines;
      is_based = based;
      is_over = over;
    }

-- ---- while only the tables grow

pub gains_itself : (p : Position) → Gains p p
gains_itself p = record { grows = tables_grow_itself p.tables; signature = refl; definitions = refl; sequents = refl; lines = refl; is_based = refl; is_over = refl }

pub gains_further : (p q r : Position) → Gains p q → Gains q r → Gains p r
gains_further p q r g h = record {
  grows = tables_grow_further p.tables q.tables r.tables g.grows h.grows;
  signature = h.signature ∙ g.signature;
  definitions = h.definitions ∙ g.definitions;
  sequents = h.sequents ∙ g.sequents;
  lines = h.lines ∙ g.lines;
  is_based = h.is_based ∙ g.is_based;
  is_over = h.is_over ∙ g.is_over;
}

pub may_still : (p q : Position) (d : FlatDefinition) → Gains p q → IsPosition p → HasDefinition p.tables d → MayDefine (plain_signature p.tables p.signature) (definition_of p.tables d) → MayDefine (plain_signature q.tables q.signature) (definition_of q.tables d)
may_still p q d g h has may =
    subst (λ s. MayDefine (plain_signature q.tables s) (definition_of q.tables d)) (sym g.signature)
    (subst (λ (x : Signature × Definition). MayDefine x.0 x.1) (λ i. (sym (signature_same p.tables q.tables p.signature g.grows h.signature) i, sym (definition_same p.tables q.tables d g.grows has) i)) may)

pub off_still : (p q : Position) (d : FlatDefinition) (b : Bool) → Gains p q → IsPosition p → HasDefinition p.tables d → off_base (log_position p) (definition_of p.tables d) ≡ b → off_base (log_position q) (definition_of q.tables d) ≡ b
off_still p q d b g h has off = (λ i. off_base (position_same p q g h i) (definition_same p.tables q.tables d g.grows has i)) ∙ off

typed_definition : (s : Signature) (d : Definition) → MayDefine s d → IsTypedDefinition d
typed_definition s (const_def c t) h = tt
typed_definition s (type_def n p) h = h.1

pub typed_still : (p q : Position) (d : FlatDefinition) → Gains p q → IsPosition p → HasDefinition p.tables d → MayDefine (plain_signature p.tables p.signature) (definition_of p.tables d) → IsTypedDefinition (definition_of q.tables d)
typed_still p q d g h has may = typed_definition (plain_signature q.tables q.signature) (definition_of q.tables d) (may_still p q d g h has may)

pub gains_tables : (p q : Position) (t : PlainTables) → Gains p q → TablesGrow q.tables t
    → Gains p (record { tables = t; signature = q.signature; definitions = q.definitions; sequents = q.sequents; lines = q.lines; is_based = q.is_based; is_over = q.is_over })
gains_tables p q t g h = record {
  grows = tables_grow_further p.tables q.tables t g.grows h;
  signature = g.signature;
  definitions = g.definitions;
  sequents = g.sequents;
  lines = g.lines;
  is_based = g.is_based;
  is_over = g.is_over;
}

pub report_still : (p q : Position) (d : FlatDefinition) → Gains p q → IsPosition p → HasDefinition p.tables d → definition_report (log_position q) (definition_of q.tables d) ≡ definition_report (log_position p) (definition_of p.tables d)
report_still p q d g h has = λ i. definition_report (position_same p q g h i) (definition_same p.tables q.tables d g.grows has i)

-- ---- what a definition says is boolean

abbrev AllBoolean : List Sequent → Type 0
AllBoolean [] = Unit {0}
AllBoolean (a ∷ rest) = (tm_type a.concl ≡ bool_ty) × AllBoolean rest

all_boolean : (d : Definition) → AllBoolean (said_by d)
all_boolean (const_def c t) = (refl, tt)
all_boolean (type_def n p) = (refl, (refl, tt))

are_sequents : (t : PlainTables) (qs : List FlatSequent) (rest : List Sequent) → HasSequents t qs → sequents_of t qs ≡ rest → AllBoolean rest → AreSequents t qs
are_sequents t [] rest h e b = tt
are_sequents t (q ∷ qs) [] h e b = cc
are_sequents t (q ∷ qs) (a ∷ rest) h e b =
    let heads : sequent_of t q ≡ a = cc in
    let tails : sequents_of t qs ≡ rest = cc in
    (h.0, ap (λ (x : Sequent). tm_type x.concl) heads ∙ b.0, are_sequents t qs rest h.1 tails b.1)

both_sequents : (t : PlainTables) (qs rs : List FlatSequent) → AreSequents t qs → AreSequents t rs → AreSequents t (qs ++ rs)
both_sequents t [] rs h g = g
both_sequents t (q ∷ qs) rs h g = (h.0, h.1, both_sequents t qs rs h.2 g)

sequents_join : (t : PlainTables) (qs rs : List FlatSequent) → sequents_of t (qs ++ rs) ≡ sequents_of t qs ++ sequents_of t rs
sequents_join t [] rs = refl
sequents_join t (q ∷ qs) rs = ap (λ xs. sequent_of t q ∷ xs) (sequents_join t qs rs)

-- ---- what comes of a definition

-- m is the position p with more in its tables, r with the definition, and q with what it says
pub accepted : (p k m r q : Position) (d : FlatDefinition) (news : List FlatSequent) (o : Option (String Global)) → IsPosition p → HasDefinition p.tables d → off_base (log_position p) (definition_of p.tables d) ≡ false
    → Gains p k → Gains p m → AreSaid m.tables (definition_of k.tables d) news → IsDefined m r (definition_of m.tables d)
    → q.tables ≡ r.tables → q.signature ≡ r.signature → q.definitions ≡ r.definitions → q.sequents.items ≡ r.sequents.items ++ news → q.lines ≡ suc r.lines → q.is_based ≡ r.is_based → q.is_over ≡ r.is_over
    → reported o ≡ definition_report (log_position p) (definition_of p.tables d) → IsDefinitionVerdict p q (definition_of p.tables d) (Good o)
accepted p k m r q d news o h has off gk gm said def tabs sig defs seqs lines based over says =
    (off, position, after, says)
  where
    x : Definition
    x = definition_of p.tables d

    same_k : definition_of k.tables d ≡ x
    same_k = definition_same p.tables k.tables d gk.grows has

    same_m : definition_of m.tables d ≡ x
    same_m = definition_same p.tables m.tables d gm.grows has

    grown : TablesGrow p.tables r.tables
    grown = tables_grow_further p.tables m.tables r.tables gm.grows def.grows

    news_m : AreSequents m.tables news
    news_m = are_sequents m.tables news (said_by (definition_of k.tables d)) said.has said.said (all_boolean (definition_of k.tables d))

    news_r : AreSequents r.tables news
    news_r = sequents_stay m.tables r.tables news def.grows news_m

    news_are : sequents_of r.tables news ≡ said_by x
    news_are = sequents_same m.tables r.tables news def.grows news_m ∙ said.said ∙ ap said_by same_k

    old : sequents_of r.tables r.sequents.items ≡ (log_position p).steps
    old = ap (λ v. sequents_of r.tables v.items) (def.sequents ∙ gm.sequents) ∙ sequents_same p.tables r.tables p.sequents.items grown h.sequents

    steps : sequents_of r.tables (r.sequents.items ++ news) ≡ (log_position p).steps ++ said_by x
    steps = sequents_join r.tables r.sequents.items news ∙ (λ i. old i ++ news_are i)

    listed : definitions_of r.tables r.definitions.items ≡ (log_position p).defs ++ x ∷ []
    listed = def.definitions ∙ (λ i. (position_same p m gm h i).defs ++ same_m i ∷ [])

    held : AreSequents r.tables (r.sequents.items ++ news)
    held = both_sequents r.tables r.sequents.items news def.position.sequents news_r

    position : IsPosition q
    position = record {
      signature = subst (λ t. HasSignature t q.signature) (sym tabs) (subst (λ s. HasSignature r.tables s) (sym sig) def.position.signature);
      plain = (λ i. plain_signature (tabs i) (sig i)) ∙ def.position.plain ∙ (λ i. signature_of (definitions_of (sym tabs i) (sym defs i).items));
      definitions = subst (λ t. HasDefinitions t q.definitions.items) (sym tabs) (subst (λ v. HasDefinitions r.tables v.items) (sym defs) def.position.definitions);
      sequents = subst (λ t. AreSequents t q.sequents.items) (sym tabs) (subst (λ v. AreSequents r.tables v) (sym seqs) held);
      named = subst (λ ds. AreNamed (signature_of ds)) (λ i. definitions_of (sym tabs i) (sym defs i).items) def.position.named;
      stands = subst (λ b. Stands in_force b (definitions_of q.tables q.definitions.items)) (sym based) (subst (λ ds. Stands in_force r.is_based ds) (λ i. definitions_of (sym tabs i) (sym defs i).items) def.position.stands);
    }

    after : log_position q ≡ with_definition (log_position p) x
    after =
        let ds : definitions_of q.tables q.definitions.items ≡ (log_position p).defs ++ x ∷ [] = (λ i. definitions_of (tabs i) (defs i).items) ∙ listed in
        let qs : sequents_of q.tables q.sequents.items ≡ (log_position p).steps ++ said_by x = (λ i. sequents_of (tabs i) (seqs i)) ∙ steps in
        let ls : q.lines ≡ suc p.lines = lines ∙ ap suc (def.lines ∙ gm.lines) in
        λ i. record { defs = ds i; steps = qs i; lines = ls i; is_based = (based ∙ def.is_based ∙ gm.is_based) i; is_over = (over ∙ def.is_over ∙ gm.is_over) i }
