use Rattle.std.proofs.Common.{◌≡◌, ◌≢◌, [], arith, Some, None}
use Rattle.hol_terms.specs.Base.{base}
use Rattle.hol_terms.specs.Definition.{signature_of}
use Rattle.theory_text.specs.Command.{define_of}
use Rattle.theory_text.specs.Views.{define_view}
use Rattle.base_count.specs.InForce.{in_force}
use Rattle.theory_answers.proofs.Checking.{one_ok, no_bytes, some_bytes, no_define, a_define, over_base, definable_here}
use Rattle.theory_answers.proofs.Deciding.{verdict_limit, verdict_nothing, verdict_unbuilt, verdict_define}
use Rattle.theory_answers.proofs.verdict.verdict_of.Goals as goal

pub returns-then-input-gt-LIMIT : goal.returns-then-input-gt-LIMIT
returns-then-input-gt-LIMIT c = one_ok c.refuse.result c.refuse.ensures (λ v e. verdict_limit c.args.input.now v (omega arith) e)

pub returns-then-is_empty : goal.returns-then-is_empty
returns-then-is_empty c = verdict_nothing c.args.input.now (no_bytes _ _ c.is_empty.ensures c.if-is_empty.true)

pub returns-in_default : goal.returns-in_default
returns-in_default c =
    let some : c.args.input.now ≢ [] = some_bytes _ _ c.is_empty.ensures c.if-is_empty.false in
    let none : define_of (signature_of (base in_force)) c.args.input.now ≡ None =
    over_base c.sig.result.now _ c.args.input.now None c.sig.ensures c.requires (no_define c.in_ok-command.field-0 c.sig.result.now c.args.input.now c.in_ok-command.ensures.exact c.in_default.is) in
    one_ok c.refuse-in_default.result c.refuse-in_default.ensures (λ v e. verdict_unbuilt c.args.input.now v (omega arith) some none e)

pub returns : goal.returns
returns c =
    let some : c.args.input.now ≢ [] = some_bytes _ _ c.is_empty.ensures c.if-is_empty.false in
    let stated : define_of (signature_of (base in_force)) c.args.input.now ≡ Some (define_view c.in-Some.command) =
    over_base c.sig.result.now _ c.args.input.now _ c.sig.ensures c.requires (a_define c.in_ok-command.field-0 c.in-Some.command c.sig.result.now c.args.input.now c.in_ok-command.ensures.exact c.in-Some.is) in
    one_ok c.verdict_of_define.result c.verdict_of_define.ensures
    (λ v o. verdict_define c.args.input.now v (define_view c.in-Some.command) (omega arith) some stated (definable_here c.args.input.now (define_view c.in-Some.command) stated) o)
