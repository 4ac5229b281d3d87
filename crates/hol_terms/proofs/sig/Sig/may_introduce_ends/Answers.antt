use Rattle.std.proofs.Common.{◌≡◌, Bool, true, false, not, ◌∙◌, refl, sym}
use Rattle.hol_terms.proofs.DottedNames.{ends_introduced, zero_not_introduced}
use Rattle.hol_terms.proofs.sig.Sig.may_introduce_ends.Goals as goal

turned : (b c : Bool) → not b ≡ c → b ≡ not c
turned true true e = cc
turned true false e = refl
turned false true e = refl
turned false false e = cc

pub returns-then-ne : goal.returns-then-ne
returns-then-ne c = c.are_ends_new.ensures ∙ sym (ends_introduced c.args.self.now c.args.name.now c.requires (turned _ true (sym c.ne.ensures ∙ c.if-ne.true)))

pub returns-else-ne : goal.returns-else-ne
returns-else-ne c = c.if-ne.false ∙ sym (zero_not_introduced c.args.self.now c.args.name.now (turned _ false (sym c.ne.ensures ∙ c.if-ne.false)))
