-- Abstractions over a variable.
use Rattle.std.proofs.Common.{◌≡◌, ap, sym, ◌∙◌}
use Rattle.hol_terms.specs.Tm.{Tm, FreeVar, tm_abs}
use Rattle.hol_terms.specs.Typing.{tm_type, fun_ty}
use Rattle.hol_terms.specs.Binding.{tm_bind}
use Rattle.hol_terms.specs.Rules.{lambda}
use Rattle.hol_terms.proofs.KeptTypes.{tm_type-bind}
use Rattle.flat_terms.specs.declared.nodes.TypeId.{TypeId}
use Rattle.flat_terms.specs.declared.nodes.TermId.{TermId}
use Rattle.flat_terms.specs.Plain.{PlainTables, HasType, HasTerm, type_of, term_of, IsTermAdded}
use Rattle.flat_walks.specs.Walk.{IsVariable, var_of, Grows, IsBound}
use Rattle.flat_walks.specs.Number.{IsNumber}
use Rattle.flat_walks.proofs.Steps.{added_has, added_is}
use Rattle.flat_instances.specs.Types.{IsTypeNumber}
use Rattle.flat_instances.specs.TablesGrow.{TablesGrow}
use Rattle.flat_instances.proofs.TablesGrow.{tables_grow_further, tables_grow_terms}
use Rattle.flat_rules.proofs.Numbers.{number_later}

-- the numbers that an abstraction is made of, before it is added
pub record IsAbstracting (s u : PlainTables) (v n b : TermId) (a y : TypeId) : Type 0 where
  pub grows : TablesGrow s u
  pub body : term_of u b ≡ tm_bind 0 (var_of (term_of s v)) (term_of s n)
  pub bound : type_of u a ≡ (var_of (term_of s v)).ty
  pub typed : type_of u y ≡ fun_ty (type_of u a) (tm_type (term_of u b))

pub abstracting : (s t u : PlainTables) (v n body : TermId) (bound range ty : TypeId) → IsVariable s v → HasTerm s n → HasType s bound → type_of s bound ≡ tm_type (term_of s v) → HasType s range → type_of s range ≡ tm_type (term_of s n) → TablesGrow s t
    → IsTypeNumber t ty (fun_ty (type_of s bound) (type_of s range)) → Grows t u → IsBound t u v 0 n body → IsAbstracting s u v n body bound ty
abstracting s t u v n body bound range ty hv hn hb eb hr er g k h b = record { grows = all; body = made; bound = there ∙ eb ∙ ap tm_type hv.1; typed = later.same_type ty k.has ∙ k.tree ∙ (λ j. fun_ty (sym there j) (sym kept j)) }
  where
    later : TablesGrow t u
    later = tables_grow_terms t u h

    all : TablesGrow s u
    all = tables_grow_further s t u g later

    there : type_of u bound ≡ type_of s bound
    there = all.same_type bound hb

    made : term_of u body ≡ tm_bind 0 (var_of (term_of s v)) (term_of s n)
    made = b.bound ∙ (λ j. tm_bind 0 (var_of (g.same_term v hv.0 j)) (g.same_term n hn j))

    kept : tm_type (term_of u body) ≡ type_of s range
    kept = ap tm_type made ∙ tm_type-bind 0 (var_of (term_of s v)) (term_of s n) ∙ sym er

pub abstraction_made : (s u w : PlainTables) (v n body r : TermId) (bound ty : TypeId) → IsAbstracting s u v n body bound ty → IsTermAdded u w r (tm_abs (type_of u bound) (term_of u body)) → IsNumber w r (lambda (var_of (term_of s v)) (term_of s n))
abstraction_made s u w v n body r bound ty i a = record { has = added_has u w r _ a; tree = added_is u w r _ a ∙ (λ j. tm_abs (i.bound j) (i.body j)) }

-- both sides of an equation, abstracted one after the other
pub both_abstracted : (s t u : PlainTables) (v l r x y : TermId) → HasTerm s v → HasTerm s r → TablesGrow s t → IsNumber t x (lambda (var_of (term_of s v)) (term_of s l)) → TablesGrow t u → IsNumber u y (lambda (var_of (term_of t v)) (term_of t r))
    → IsNumber u x (lambda (var_of (term_of s v)) (term_of s l)) × IsNumber u y (lambda (var_of (term_of s v)) (term_of s r))
both_abstracted s t u v l r x y hv hr g n h m = (number_later t u x _ n h, record { has = m.has; tree = m.tree ∙ (λ j. lambda (var_of (g.same_term v hv j)) (g.same_term r hr j)) })

pub abstracted_typed : (v : FreeVar) (l r : Tm) → tm_type r ≡ tm_type l → tm_type (lambda v r) ≡ tm_type (lambda v l)
abstracted_typed v l r e = ap (λ t. fun_ty v.ty t) (tm_type-bind 0 v r ∙ e ∙ sym (tm_type-bind 0 v l))
