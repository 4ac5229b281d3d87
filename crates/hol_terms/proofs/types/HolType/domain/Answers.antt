use Rattle.std.proofs.Common.{arith, ap, ◌∙◌, length, get_or}
use Rattle.hol_terms.specs.Typing.{domain_ty, range_ty}
use Rattle.hol_terms.proofs.Lists.{fun_args}
use Rattle.hol_terms.proofs.types.HolType.domain.Goals as goal

pub bounds-args-0 : goal.bounds-args-0
bounds-args-0 c = let e = ap length (fun_args c.args.self.now c.in-App.field-0.now c.in-App.args.now (domain_ty c.args.self.now) (range_ty c.args.self.now) c.in-App.ensures c.requires) in omega arith

pub returns : goal.returns
returns c = let e = fun_args c.args.self.now c.in-App.field-0.now c.in-App.args.now (domain_ty c.args.self.now) (range_ty c.args.self.now) c.in-App.ensures c.requires in c.index-args-0.is ∙ ap (λ xs. get_or xs 0 c.index-args-0.result) e
