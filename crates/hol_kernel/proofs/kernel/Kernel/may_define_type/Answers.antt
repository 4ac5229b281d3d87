use Rattle.std.proofs.Common.{◌≡◌, None, rules}
use Rattle.hol_kernel.specs.Fault.{type_fault}
use Rattle.hol_kernel.proofs.Fitting.{theorem_fits}
use Rattle.hol_kernel.proofs.kernel.Kernel.may_define_type.Goals as goal

pub returns-else-has_frees-clause-conservative : goal.returns-else-has_frees-clause-conservative
returns-else-has_frees-clause-conservative c = λ e h.
    let fit : type_fault c.args.self.now.defs c.args.name.now c.args.a.now.sequent ≡ None = search rules in
    theorem_fits c.args.self.now c.args.name.now c.args.a.now h fit c.predicate.ensures.derivable
