-- What was read of a line, by numbers of the tables, and what is left.
use Rattle.std.specs.Prelude.{◌≡◌, List, [], ◌∷◌, Vec}
use Rattle.std.specs.declared.alloc.Global.{Global}
use Rattle.hol_terms.specs.Name.{Name}
use Rattle.hol_terms.specs.Ty.{Ty}
use Rattle.hol_terms.specs.Tm.{Tm, FreeVar}
use Rattle.hol_terms.specs.Subst.{TySubst}
use Rattle.hol_terms.specs.Binding.{VarSubst}
use Rattle.hol_terms.specs.Text.{Text}
use Rattle.flat_terms.specs.declared.nodes.NameId.{NameId}
use Rattle.flat_terms.specs.declared.nodes.TypeId.{TypeId}
use Rattle.flat_terms.specs.declared.nodes.TermId.{TermId}
use Rattle.flat_terms.specs.Plain.{PlainTables, HasName, HasType, HasTerm, name_of, type_of, term_of}
use Rattle.flat_walks.specs.Walk.{var_of, IsVariable}
use Rattle.flat_instances.specs.Types.{HasTypePairs, type_pairs}
use Rattle.flat_instances.specs.Terms.{term_pairs}
use Rattle.flat_lines.specs.declared.words.NameRead.{NameRead}
use Rattle.flat_lines.specs.declared.pairs.TypePairRead.{TypePairRead}
use Rattle.flat_lines.specs.declared.pairs.PairRead.{PairRead}

abbrev pub IsNameRead : PlainTables → NameRead → Name × Text → Type 0
IsNameRead t r p = HasName t r.name × (p ≡ (name_of t r.name, r.rest.now))

abbrev pub IsTypePairRead : PlainTables → TypePairRead → (Name × Ty) × Text → Type 0
IsTypePairRead t r p = HasName t r.variable × HasType t r.ty × (p ≡ ((name_of t r.variable, type_of t r.ty), r.rest.now))

abbrev pub IsPairRead : PlainTables → PairRead → (FreeVar × Tm) × Text → Type 0
IsPairRead t r p = IsVariable t r.variable × HasTerm t r.term × (p ≡ ((var_of (term_of t r.variable), term_of t r.term), r.rest.now))

-- pairs of a variable and a term, which need not be of its type
abbrev pub HasPairs : PlainTables → List (TermId × TermId) → Type 0
HasPairs t [] = Unit {0}
HasPairs t (p ∷ ps) = IsVariable t p.0 × HasTerm t p.1 × HasPairs t ps

abbrev pub AreTypePairs : PlainTables → Vec (NameId × TypeId) Global → TySubst → Type 0
AreTypePairs t v ps = HasTypePairs t v.items × (ps ≡ type_pairs t v.items)

abbrev pub ArePairs : PlainTables → Vec (TermId × TermId) Global → VarSubst → Type 0
ArePairs t v ps = HasPairs t v.items × (ps ≡ term_pairs t v.items)

-- the number of the term
abbrev pub IsTerm : PlainTables → TermId → Tm → Type 0
IsTerm t n x = HasTerm t n × (x ≡ term_of t n)

-- what is left behind a word
abbrev pub IsLeft : Text → Text × Text → Type 0
IsLeft rest p = rest ≡ p.1
