use Rattle.std.proofs.Common.{map, refl, sym, ap, ◌∙◌, subst}
use Rattle.hol_terms.specs.Definition.{signature_of}
use Rattle.hol_terms.specs.DefShape.{definition_of}
use Rattle.hol_terms.specs.Proves.{AreConservative}
use Rattle.hol_kernel.specs.Run.{run_start}
use Rattle.hol_kernel.proofs.kernel.Kernel.new.Goals as goal

pub invariant_of-result : goal.invariant_of-result
invariant_of-result c =
    let none = c.in_ok-history.ensures in
    record {
      conservative = subst AreConservative (sym none) tt;
      listed = ap (λ v. map definition_of v) c.new.ensures.items ∙ sym none;
      table = c.in_ok-sig.ensures ∙ ap signature_of (sym none);
      run = rw (none, c.new.ensures.items, c.new-2.ensures.items, c.new-3.ensures.items) run_start;
      said = rw (none, c.new-2.ensures.items, c.new-4.ensures.items) (record { count = refl; said = λ i n j d a p q r. cc });
    }
