use Rattle.std.proofs.Common.{sym, subst₂}
use Rattle.hol_terms.specs.Name.{Name}
use Rattle.hol_terms.specs.Tm.{Tm}
use Rattle.hol_terms.specs.Proves.{IsConstDef}
use Rattle.hol_kernel.proofs.Fitting.{no_fault}
use Rattle.hol_kernel.proofs.kernel.Kernel.define.Goals as goal

pub add_const-requires-clause-fit : goal.add_const-requires-clause-fit
add_const-requires-clause-fit c =
    subst₂ (λ (n : Name) (b : Tm). IsConstDef c.args.self.now.defs n b) (sym c.in_ok-name.ensures.ok) (sym c.in_ok-body.ensures) (no_fault _ _ _ c.requires.fit c.requires.typed)
