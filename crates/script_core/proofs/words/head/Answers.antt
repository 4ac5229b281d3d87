use Rattle.std.proofs.Common.{◌≡◌, ◌==◌, ◌+◌, sym, lit<, arith}
use Rattle.std.specs.List.{position_or_len}
use Rattle.std.proofs.lemmas.Str.Pattern.{split_once_first}
use Rattle.std.proofs.lemmas.List.{take_all, drop_all}
use Rattle.script_core.specs.Words.{first_word, after_word}
use Rattle.script_core.proofs.words.head.Goals as goal

pub returns-in-Some-clause-first : goal.returns-in-Some-clause-first
unfolding first_word
returns-in-Some-clause-first c = (rw c.in-Some.is at (split_once_first 32 c.args.line.now c.split_once.result c.split_once.ensures.cases (lit< tt))).1

pub returns-in-Some-clause-rest : goal.returns-in-Some-clause-rest
unfolding after_word
returns-in-Some-clause-rest c = (rw c.in-Some.is at (split_once_first 32 c.args.line.now c.split_once.result c.split_once.ensures.cases (lit< tt))).2

pub returns-in-None-clause-first : goal.returns-in-None-clause-first
unfolding first_word
returns-in-None-clause-first c =
    let e = rw c.in-None.is at (split_once_first 32 c.args.line.now c.split_once.result c.split_once.ensures.cases (lit< tt)) in
    sym (take_all (position_or_len (λ b. b == 32) c.args.line.now) c.args.line.now (omega arith))

pub returns-in-None-clause-rest : goal.returns-in-None-clause-rest
unfolding after_word
returns-in-None-clause-rest c =
    let e = rw c.in-None.is at (split_once_first 32 c.args.line.now c.split_once.result c.split_once.ensures.cases (lit< tt)) in
    sym (drop_all (position_or_len (λ b. b == 32) c.args.line.now + 1) c.args.line.now (omega arith))
