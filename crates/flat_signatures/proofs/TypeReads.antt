-- What the readers of types give, beside the readings.
use Rattle.std.proofs.Common.{◌≡◌, ◌<◌, ◌≤◌, List, [], ◌∷◌, ◌++◌, length, Option, Some, None, Result, Ok, Err, IfOk, refl, ap, sym, subst, ◌∙◌, true}
use Rattle.std.specs.Prelude.{codes}
use Rattle.std.proofs.lemmas.List.{map-append}
use Rattle.hol_terms.specs.Ty.{Ty, Tys, more_tys, tys}
use Rattle.hol_terms.specs.Signature.{Signature}
use Rattle.hol_terms.specs.Text.{Text}
use Rattle.strict_reading.specs.Words.{begins_word, behind_word, behind}
use Rattle.strict_reading.specs.Types.{reads_type, reads_types}
use Rattle.strict_reading.proofs.Words.{word_long, word_longer}
use Rattle.flat_terms.specs.declared.nodes.TypeId.{TypeId}
use Rattle.flat_terms.specs.Plain.{PlainTables, HasType, HasTypes, type_of, types_of}
use Rattle.flat_instances.specs.TablesGrow.{TablesGrow}
use Rattle.flat_signatures.specs.declared.types.TypeRead.{TypeRead}
use Rattle.flat_signatures.specs.declared.types.TypesRead.{TypesRead}
use Rattle.flat_signatures.specs.Reads.{IsTypeRead, AreTypesRead}
use Rattle.flat_signatures.specs.Behind.{with_front}
use Rattle.flat_signatures.proofs.Numbers.{types_there}
use Rattle.flat_signatures.proofs.VariableSteps.{types_pushed}
use Rattle.flat_signatures.proofs.TypeSteps.{more_read, more_stop, front_further, front_end}

pub type_none : (t : PlainTables) (r : Option TypeRead) (o : Option (Ty × Text)) → IsTypeRead t r o → r ≡ None → o ≡ None
type_none t r o h e = subst (λ (p : Option TypeRead). IsTypeRead t p o) e h

pub type_some : (t : PlainTables) (r : Option TypeRead) (x : TypeRead) (o : Option (Ty × Text)) → IsTypeRead t r o → r ≡ Some x → HasType t x.ty × (o ≡ Some (type_of t x.ty, x.rest.now))
type_some t r x o h e = subst (λ (p : Option TypeRead). IsTypeRead t p o) e h

pub type_read_is : (t : PlainTables) (r : Option TypeRead) (o p : Option (Ty × Text)) → o ≡ p → IsTypeRead t r o → IsTypeRead t r p
type_read_is t r o p e h = subst (λ (q : Option (Ty × Text)). IsTypeRead t r q) e h

pub type_result_is : {E : Type 0} (t : PlainTables) (r : Result (Option TypeRead) E) (o p : Option (Ty × Text)) → o ≡ p → IfOk r (λ k. IsTypeRead t k o) → IfOk r (λ k. IsTypeRead t k p)
type_result_is t (Ok k) o p e h = type_read_is t k o p e h
type_result_is t (Err d) o p e h = tt

types_none : (t : PlainTables) (r : Option TypesRead) (o : Option (Tys × Text)) → AreTypesRead t r o → r ≡ None → o ≡ None
types_none t r o h e = subst (λ (p : Option TypesRead). AreTypesRead t p o) e h

types_some : (t : PlainTables) (r : Option TypesRead) (x : TypesRead) (o : Option (Tys × Text)) → AreTypesRead t r o → r ≡ Some x → HasTypes t x.types.items × (o ≡ Some (tys (types_of t x.types.items), x.rest.now))
types_some t r x o h e = subst (λ (p : Option TypesRead). AreTypesRead t p o) e h

-- ---- words

pub rest_long : (y r : Text) → r ≡ behind_word y → length r ≤ length y
rest_long y r e = subst (λ (z : Text). length z ≤ length y) (sym e) (word_long y)

pub rest_shorter : (y r : Text) → begins_word y ≡ true → r ≡ behind_word y → length r < length y
rest_shorter y r b e = subst (λ (z : Text). length z < length y) (sym e) (word_longer y b)

-- ---- types behind the first one

front_nothing : (t : Ty) (o : Option (Tys × Text)) → with_front (t ∷ []) o ≡ None → o ≡ None
front_nothing t None e = refl
front_nothing t (Some p) e = cc

pub record ReadBehind (t : Ty) (o : Option (Tys × Text)) (us : Tys) (y : Text) : Type 0 where
  pub types : Tys
  pub read : o ≡ Some (types, y)
  pub all : us ≡ more_tys t types

abbrev read_or : Tys × Text → Option (Tys × Text) → Tys × Text
read_or d None = d
read_or d (Some p) = p

front_something : (t : Ty) (o : Option (Tys × Text)) (us : Tys) (y : Text) → with_front (t ∷ []) o ≡ Some (us, y) → ReadBehind t o us y
front_something t None us y e = cc
front_something t (Some p) us y e =
    let pair : (more_tys t p.0, p.1) ≡ (us, y) = ap (read_or (us, y)) e in
    record { types = p.0; read = λ j. Some (p.0, (pair j).1); all = λ j. (sym pair j).0 }

pub no_types : (t u : PlainTables) (ty : TypeId) (items : List TypeId) (r : Option TypesRead) (o : Option (Tys × Text)) → items ≡ ty ∷ [] → AreTypesRead u r (with_front (types_of t items) o) → r ≡ None → o ≡ None
no_types t u ty items r o e h n = front_nothing (type_of t ty) o (ap (λ l. with_front (types_of t l) o) (sym e) ∙ types_none u r _ h n)

pub has_types : (t u : PlainTables) (items : List TypeId) (r : Option TypesRead) (x : TypesRead) (o : Option (Tys × Text)) → AreTypesRead u r (with_front (types_of t items) o) → r ≡ Some x → HasTypes u x.types.items
has_types t u items r x o h s = (types_some u r x _ h s).0

pub some_types_read : (t u : PlainTables) (ty : TypeId) (items : List TypeId) (r : Option TypesRead) (x : TypesRead) (o : Option (Tys × Text)) → items ≡ ty ∷ [] → AreTypesRead u r (with_front (types_of t items) o) → r ≡ Some x
    → ReadBehind (type_of t ty) o (tys (types_of u x.types.items)) x.rest.now
some_types_read t u ty items r x o e h s = front_something (type_of t ty) o _ _ (ap (λ l. with_front (types_of t l) o) (sym e) ∙ (types_some u r x _ h s).1)

-- ---- one more type

pub types_kept : (t u : PlainTables) (ns ms : List TypeId) (n : TypeId) → TablesGrow t u → HasTypes t ns → HasType u n → ms ≡ ns ++ n ∷ [] → HasTypes u ms
types_kept t u ns ms n g h hn e = subst (λ (l : List TypeId). HasTypes u l) (sym e) (types_pushed u ns n (types_there t u ns g h).has hn)

pub front_kept : (t u : PlainTables) (s : Signature) (ns ms : List TypeId) (n : TypeId) (x y z : Text) → TablesGrow t u → HasTypes t ns → ms ≡ ns ++ n ∷ [] → behind (codes ",") x ≡ Some y → reads_type s y ≡ Some (type_of u n, z)
    → with_front (types_of t ns) (reads_types s x) ≡ with_front (types_of u ms) (reads_types s z)
front_kept t u s ns ms n x y z g h e q r =
    ap (with_front (types_of t ns)) (more_read s x y (type_of u n, z) q r) ∙ front_further (types_of t ns) (type_of u n) (reads_types s z)
    ∙ ap (λ l. with_front l (reads_types s z)) ((λ j. sym ((types_there t u ns g h).trees) j ++ type_of u n ∷ []) ∙ sym (map-append (type_of u) ns (n ∷ [])) ∙ ap (types_of u) (sym e))

pub front_done : (t : PlainTables) (s : Signature) (ns : List TypeId) (x : Text) → behind (codes ",") x ≡ None → with_front (types_of t ns) (reads_types s x) ≡ Some (tys (types_of t ns), x)
front_done t s ns x q = ap (with_front (types_of t ns)) (more_stop s x q) ∙ ap (λ l. Some (l, x)) (front_end (types_of t ns))
