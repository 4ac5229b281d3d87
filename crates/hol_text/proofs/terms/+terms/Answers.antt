use Rattle.std.proofs.Common.{◌≡◌, ◌-◌, ◌+◌, ◌<◌, arith}
use Rattle.std.proofs.lemmas.Result.{err_from_is_err_and}
use Rattle.hol_text.proofs.TermSteps.{begins-is, atoms-over, atoms-go_on, atoms-fail, atoms-end}
use Rattle.hol_text.proofs.terms.+terms.Goals as goal

pub atoms_at-returns-then-not-begins_atom : goal.atoms_at-returns-then-not-begins_atom
atoms_at-returns-then-not-begins_atom t c =
    let left : 0 < c.args.fuel - c.loop.counter = omega arith in
    atoms-over _ _ _ _ _ left (begins-is _ _ _ _ c.begins_atom.ensures c.head_kind.ensures c.if-not-begins_atom.true) c.loop.invariant

pub atoms_at-returns-in_err-arg : goal.atoms_at-returns-in_err-arg
atoms_at-returns-in_err-arg t c =
    let left : 0 < c.args.fuel - c.loop.counter = omega arith in
    let p = err_from_is_err_and c.from_residual.result c.from_residual.ensures.1 in
    rw (p.1, p.2) (atoms-fail c.in_err-arg.field-0.0 _ _ _ _ _ left (begins-is _ _ _ _ c.begins_atom.ensures c.head_kind.ensures c.if-not-begins_atom.false) c.in_err-arg.ensures c.loop.invariant)

pub atoms_at-loop-preserved : goal.atoms_at-loop-preserved
atoms_at-loop-preserved t c =
    let left : 0 < c.args.fuel - c.loop.counter = omega arith in
    let less : c.args.fuel - (c.loop.counter + 1) ≡ c.args.fuel - c.loop.counter - 1 = omega arith in
    rw less (atoms-go_on _ _ _ _ _ _ _ _ left (begins-is _ _ _ _ c.begins_atom.ensures c.head_kind.ensures c.if-not-begins_atom.false) c.in_ok-arg.ensures c.in_ok-whole.ensures c.loop.invariant)

pub atoms_at-returns : goal.atoms_at-returns
atoms_at-returns t c =
    atoms-end _ _ _ _ _ _ (omega arith) c.stop_at.ensures c.loop.invariant
