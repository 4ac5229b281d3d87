use Rattle.std.proofs.Common.{◌+◌, ◌&&◌, true, false, drop, get_or, sym, ap, ◌∙◌}
use Rattle.flat_terms.specs.declared.nodes.TypeId.{TypeId}
use Rattle.flat_instances.proofs.TypeSteps.{has_at}
use Rattle.flat_rules.proofs.Within.{AllIn, in_at, in_end, in_is}
use Rattle.flat_rules.proofs.variables.are_among.Goals as goal

pub returns-then-not-contains : goal.returns-then-not-contains
returns-then-not-contains c =
    let types = c.args.types.now in
    let keys = c.args.set.now.keys in
    let i = c.loop-ty.ty-index in
    let n : TypeId = get_or types i (record { 0 = 0 }) in
    sym (c.loop-ty.invariant ∙ in_at c.args.tables.now keys types i (record { 0 = 0 }) c.loop-ty-test.true ∙ ap (λ b. b && AllIn c.args.tables.now keys (drop (i + 1) types))
    (in_is c.args.tables.now keys n false c.entries_once.ensures.types c.requires.set (has_at c.args.tables.now types i (record { 0 = 0 }) c.requires.types c.loop-ty-test.true) (sym c.if-not-contains.true ∙ c.contains.ensures)))

pub loop-ty-preserved : goal.loop-ty-preserved
loop-ty-preserved c =
    let types = c.args.types.now in
    let keys = c.args.set.now.keys in
    let i = c.loop-ty.ty-index in
    let n : TypeId = get_or types i (record { 0 = 0 }) in
    c.loop-ty.invariant ∙ in_at c.args.tables.now keys types i (record { 0 = 0 }) c.loop-ty-test.true ∙ ap (λ b. b && AllIn c.args.tables.now keys (drop (i + 1) types))
    (in_is c.args.tables.now keys n true c.entries_once.ensures.types c.requires.set (has_at c.args.tables.now types i (record { 0 = 0 }) c.requires.types c.loop-ty-test.true) (sym c.if-not-contains.false ∙ c.contains.ensures))

pub returns : goal.returns
returns c = sym (c.loop-ty.invariant ∙ in_end c.args.tables.now c.args.set.now.keys c.args.types.now c.loop-ty.ty-index c.loop-ty-test.false)
