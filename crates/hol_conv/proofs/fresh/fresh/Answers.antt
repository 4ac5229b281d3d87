use Rattle.std.proofs.Common.{◌≡◌, ◌++◌, [], ◌∷◌, ap, ◌∙◌, rules}
use Rattle.hol_terms.specs.Name.{is_name}
use Rattle.hol_terms.specs.Tm.{FreeVar}
use Rattle.hol_conv.specs.Fresh.{letters}
use Rattle.hol_conv.proofs.FreshLemmas.{letters-name, long_absent, long_none, more_within}
use Rattle.hol_conv.proofs.fresh.fresh.Goals as goal

pub returns : goal.returns
returns c =
    let n = c.longest-most.result in
    let e : c.in_ok-v.v.name ≡ letters n ++ 118 ∷ [] = search rules in
    record {
      typed = ap (λ (v : FreeVar). v.ty) c.in_ok-v.ensures;
      named = ap is_name e ∙ letters-name n;
      absent = long_absent n c.in_ok-v.v c.args.t.now e c.longest-most.ensures.within;
      none = long_none n c.in_ok-v.v c.args.hyps.now e (more_within c.longest_of.result n c.args.hyps.now c.longest-most.ensures.more c.longest_of.ensures);
    }
