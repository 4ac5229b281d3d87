-- Pairs that a loop has read, of either kind.
use Rattle.std.proofs.Common.{◌≡◌, refl, sym, ap, ◌∙◌, subst, true, false, ◌==◌, List, [], ◌∷◌, ◌++◌, Option, Some, None, length, ◌<◌, arith}
use Rattle.std.specs.Prelude.{codes}
use Rattle.hol_terms.specs.Text.{Text}
use Rattle.hol_terms.specs.Signature.{Signature}
use Rattle.strict_reading.specs.Words.{behind}
use Rattle.strict_lines.specs.Operands.{reads_type_pair, reads_pair}
use Rattle.flat_terms.specs.Plain.{PlainTables}
use Rattle.flat_instances.specs.Types.{HasTypePairs, type_pairs}
use Rattle.flat_instances.specs.Terms.{term_pairs}
use Rattle.flat_instances.specs.TablesGrow.{TablesGrow}
use Rattle.flat_instances.proofs.TablesGrow.{tables_grow_itself, tables_grow_further}
use Rattle.flat_signatures.specs.FlatNames.{FlatNames, plain_signature, HasSignature}
use Rattle.flat_signatures.proofs.Signatures.{signature_same}
use Rattle.flat_lines.specs.Operands.{HasPairs}
use Rattle.flat_lines.proofs.Grown.{type_pairs_there, same_type_pairs, more_type_pairs, type_pairs_append, pairs_there, same_pairs, more_pairs, pairs_append}
use Rattle.flat_lines.proofs.PairSteps.{Shrinks, Goes, all_pairs, shorter, pair_shrinks, type_pair_shrinks, goes_start, goes_wrong, goes_further, goes_last, goes_nowhere}

-- a kind of pairs: what it is that tables have them, what they stand for, and how one is read
pub record PairKind {E V : Type 0} (Has : PlainTables → List E → Type 0) (values : PlainTables → List E → List V) (pair : Signature → Text → Option (V × Text)) : Type 0 where
  pub none : (t : PlainTables) → Has t []
  pub no_values : (t : PlainTables) → values t [] ≡ []
  pub there : (t u : PlainTables) (ps : List E) → TablesGrow t u → Has t ps → Has u ps
  pub same : (t u : PlainTables) (ps : List E) → TablesGrow t u → Has t ps → values u ps ≡ values t ps
  pub more : (t : PlainTables) (ps : List E) (e : E) → Has t ps → Has t (e ∷ []) → Has t (ps ++ e ∷ [])
  pub append : (t : PlainTables) (ps : List E) (e : E) → values t (ps ++ e ∷ []) ≡ values t ps ++ values t (e ∷ [])
  pub shrinks : (s : Signature) → Shrinks (pair s)

pub term_kind : PairKind HasPairs term_pairs reads_pair
term_kind = record {
  none = λ t. tt;
  no_values = λ t. refl;
  there = pairs_there;
  same = same_pairs;
  more = λ t ps e h o. more_pairs t ps e h o.0 o.1;
  append = pairs_append;
  shrinks = pair_shrinks;
}

pub type_kind : PairKind HasTypePairs type_pairs reads_type_pair
type_kind = record {
  none = λ t. tt;
  no_values = λ t. refl;
  there = type_pairs_there;
  same = same_type_pairs;
  more = λ t ps e h o. more_type_pairs t ps e h o.0 o.1;
  append = type_pairs_append;
  shrinks = type_pair_shrinks;
}

module _ {E V : Type 0} (Has : PlainTables → List E → Type 0) (values : PlainTables → List E → List V) (pair : Signature → Text → Option (V × Text)) where
  -- the tables have the pairs, and what is left of the text goes on with others
  pub record SoFar (old t : PlainTables) (s : FlatNames) (x : Text) (ps : List E) (rest : Text) : Type 0 where
    pub grows : TablesGrow old t
    pub has : Has t ps
    pub goes : Goes (pair (plain_signature old s)) x (values t ps) rest

  -- a pair was read, and what is left
  pub record OneRead (t u : PlainTables) (s : FlatNames) (rest : Text) (e : E) (left : Text) : Type 0 where
    pub grows : TablesGrow t u
    pub has : Has u (e ∷ [])
    pub value : V
    pub is : value ∷ [] ≡ values u (e ∷ [])
    pub read : pair (plain_signature t s) rest ≡ Some (value, left)

module _ {E V : Type 0} {Has : PlainTables → List E → Type 0} {values : PlainTables → List E → List V} {pair : Signature → Text → Option (V × Text)} (kind : PairKind Has values pair) where
  pub so_far_start : (t : PlainTables) (s : FlatNames) (x : Text) (ps : List E) → ps ≡ [] → SoFar Has values pair t t s x ps x
  so_far_start t s x ps e = subst (λ (l : List E). SoFar Has values pair t t s x l x) (sym e) (record {
    grows = tables_grow_itself t;
    has = kind.none t;
    goes = subst (λ l. Goes (pair (plain_signature t s)) x l x) (sym (kind.no_values t)) (goes_start (pair (plain_signature t s)) x);
  })

  read_same : (old t : PlainTables) (s : FlatNames) (rest : Text) → TablesGrow old t → HasSignature old s → pair (plain_signature old s) rest ≡ pair (plain_signature t s) rest
  read_same old t s rest g h = ap (λ r. pair r rest) (sym (signature_same old t s g h))

  pub so_far_wrong : (old t : PlainTables) (s : FlatNames) (x : Text) (ps : List E) (rest : Text) → HasSignature old s → SoFar Has values pair old t s x ps rest → pair (plain_signature t s) rest ≡ None
      → all_pairs (pair (plain_signature old s)) x ≡ None
  so_far_wrong old t s x ps rest h f e =
      goes_wrong (pair (plain_signature old s)) (kind.shrinks (plain_signature old s)) x (values t ps) rest f.goes (read_same old t s rest f.grows h ∙ e)

  -- the pairs, and one more, in tables that grew
  appended : (t u : PlainTables) (s : FlatNames) (ps qs : List E) (rest : Text) (e : E) (left : Text) → (r : OneRead Has values pair t u s rest e left) → Has t ps → qs ≡ ps ++ e ∷ [] → values t ps ++ r.value ∷ [] ≡ values u qs
  appended t u s ps qs rest e left r has q = (λ i. sym (kind.same t u ps r.grows has) i ++ r.is i) ∙ sym (kind.append u ps e) ∙ ap (values u) (sym q)

  has_more : (t u : PlainTables) (s : FlatNames) (ps qs : List E) (rest : Text) (e : E) (left : Text) → (r : OneRead Has values pair t u s rest e left) → Has t ps → qs ≡ ps ++ e ∷ [] → Has u qs
  has_more t u s ps qs rest e left r has q = subst (Has u) (sym q) (kind.more u ps e (kind.there t u ps r.grows has) r.has)

  pub so_far_further : (old t u : PlainTables) (s : FlatNames) (x : Text) (ps qs : List E) (rest : Text) (e : E) (left y : Text) → HasSignature old s → SoFar Has values pair old t s x ps rest → OneRead Has values pair t u s rest e left
      → qs ≡ ps ++ e ∷ [] → behind (codes " ; ") left ≡ Some y → SoFar Has values pair old u s x qs y
  so_far_further old t u s x ps qs rest e left y h f r q d = record {
    grows = tables_grow_further old t u f.grows r.grows;
    has = has_more t u s ps qs rest e left r f.has q;
    goes =
        subst (λ l. Goes (pair (plain_signature old s)) x l y) (appended t u s ps qs rest e left r f.has q)
        (goes_further (pair (plain_signature old s)) (kind.shrinks (plain_signature old s)) x (values t ps) rest (r.value, left) y f.goes (read_same old t s rest f.grows h ∙ r.read) d);
  }

  pub so_far_last : (old t u : PlainTables) (s : FlatNames) (x : Text) (ps qs : List E) (rest : Text) (e : E) (left : Text) → HasSignature old s → SoFar Has values pair old t s x ps rest → OneRead Has values pair t u s rest e left
      → qs ≡ ps ++ e ∷ [] → behind (codes " ; ") left ≡ None → true ≡ (length left == 0) → (all_pairs (pair (plain_signature old s)) x ≡ Some (values u qs)) × Has u qs
  so_far_last old t u s x ps qs rest e left h f r q d z = (
    goes_last (pair (plain_signature old s)) (kind.shrinks (plain_signature old s)) x (values t ps) rest (r.value, left) f.goes (read_same old t s rest f.grows h ∙ r.read) d z
        ∙ ap Some (appended t u s ps qs rest e left r f.has q),
    has_more t u s ps qs rest e left r f.has q,
  )

  pub so_far_nowhere : (old t u : PlainTables) (s : FlatNames) (x : Text) (ps : List E) (rest : Text) (e : E) (left : Text) → HasSignature old s → SoFar Has values pair old t s x ps rest → OneRead Has values pair t u s rest e left
      → behind (codes " ; ") left ≡ None → false ≡ (length left == 0) → all_pairs (pair (plain_signature old s)) x ≡ None
  so_far_nowhere old t u s x ps rest e left h f r d z =
      goes_nowhere (pair (plain_signature old s)) (kind.shrinks (plain_signature old s)) x (values t ps) rest (r.value, left) f.goes (read_same old t s rest f.grows h ∙ r.read) d z

  -- the next text is shorter
  pub so_far_shorter : (t u : PlainTables) (s : FlatNames) (rest : Text) (e : E) (left y : Text) → OneRead Has values pair t u s rest e left → behind (codes " ; ") left ≡ Some y → length y < length rest
  so_far_shorter t u s rest e left y r d =
      let a = kind.shrinks (plain_signature t s) rest (r.value, left) r.read in
      let b = shorter left y d in omega arith
