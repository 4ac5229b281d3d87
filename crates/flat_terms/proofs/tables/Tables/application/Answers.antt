use Rattle.std.proofs.Common.{refl, sym, ap, ◌∙◌}
use Rattle.hol_terms.specs.Typing.{range_ty}
use Rattle.flat_terms.proofs.Build.{term_built, same_lists}
use Rattle.flat_terms.proofs.tables.Tables.application.Goals as goal

pub invariant_of-self-2 : goal.invariant_of-self-2
invariant_of-self-2 c =
    let parts = c.in-Some.ensures.parts in
    let typed = sym (ap range_ty parts.2) ∙ ap range_ty c.type_of.ensures.ty in
    (term_built _ _ _ _ _ _ _ _ _ _ c.self.view_is (same_lists _ _ _ _ c.self.invariant) (record { parts = (c.requires.function, c.requires.argument, c.requires.takes); has_type = parts.1; typed = typed }) refl c.in_ok-place.ensures.ok).1

pub returns-clause-ok : goal.returns-clause-ok
returns-clause-ok c =
    let parts = c.in-Some.ensures.parts in
    let typed = sym (ap range_ty parts.2) ∙ ap range_ty c.type_of.ensures.ty in
    (term_built _ _ _ _ _ _ _ _ _ _ c.self.view_is (same_lists _ _ _ _ c.self.invariant) (record { parts = (c.requires.function, c.requires.argument, c.requires.takes); has_type = parts.1; typed = typed }) refl c.in_ok-place.ensures.ok).0
