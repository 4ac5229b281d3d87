use Rattle.std.proofs.Common.{◌≡◌, ◌++◌, ◌∷◌, [], ap, ◌∙◌, arith, string_bytes}
use Rattle.std.proofs.lemmas.Result.{err_from_is_err_and}
use Rattle.hb_io.specs.Told.{append_told}
use Rattle.proof_log.proofs.Writing.{unmoved, part_front}
use Rattle.proof_log.proofs.write.write_line.Goals as goal

pub returns-in_err-push_str : goal.returns-in_err-push_str
returns-in_err-push_str g c =
    let p = err_from_is_err_and c.from_residual.result c.from_residual.ensures.1 in
    rw (p.1, p.2) (record { ok = tt; err = unmoved _ _; fault = tt; counted = omega arith })

pub returns-in_err-write_all : goal.returns-in_err-write_all
returns-in_err-write_all g c =
    let p = err_from_is_err_and c.from_residual-in_err-write_all.result c.from_residual-in_err-write_all.ensures.1 in
    let text : c.as_bytes.result.now ≡ string_bytes c.args.line ++ 10 ∷ [] = c.as_bytes.ensures.value ∙ c.in_ok-push_str.ensures.bytes in
    rw (p.1, p.2) (record { ok = tt; err = part_front _ _ _ _ text c.in_err-write_all.ensures.err; fault = c.in_err-write_all.ensures.failed; counted = c.write_all.ensures.counted })

pub returns-clause-ok : goal.returns-clause-ok
returns-clause-ok g c =
    let text : c.as_bytes.result.now ≡ string_bytes c.args.line ++ 10 ∷ [] = c.as_bytes.ensures.value ∙ c.in_ok-push_str.ensures.bytes in
    c.in_ok-write_all.ensures.ok ∙ ap (append_told _) text

pub returns-clause-counted : goal.returns-clause-counted
returns-clause-counted g c = c.write_all.ensures.counted
