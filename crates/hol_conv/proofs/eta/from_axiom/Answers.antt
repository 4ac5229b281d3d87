use Rattle.std.proofs.Common.{◌≡◌, sym, Some}
use Rattle.hol_terms.specs.Rules.{same, same_ty}
use Rattle.hol_terms.specs.Logic.{base_1, base_4}
use Rattle.hol_terms.specs.Definition.{alpha}
use Rattle.hol_terms.specs.Notation.{beta}
use Rattle.kernel_lines.proofs.Given.{gives_by}
use Rattle.hol_conv.specs.Eta.{eta_fact}
use Rattle.hol_conv.proofs.EtaLemmas.{some_is}
use Rattle.hol_conv.proofs.eta.from_axiom.Goals as goal

pub run_lines-requires-clause-fits : goal.run_lines-requires-clause-fits
unfolding same same_ty base_1 base_4
run_lines-requires-clause-fits c = record { is = simp (c.requires.function, c.requires.is_axiom) }

pub returns-clause-exact : goal.returns-clause-exact
unfolding same same_ty base_1 base_4 eta_fact
returns-clause-exact c = sym (some_is (gives_by {r = Some (eta_fact alpha beta)} (simp (c.requires.function, c.requires.is_axiom)) c.in_ok-th.ensures.exact))
