use Rattle.std.proofs.Common.{ℕ, Bool, List, ◌≡◌, ◌+◌, ◌-◌, length, take, drop, get_or, sym, ap, ◌∙◌, arith, drop_of_length-le}
use Rattle.strict_reading.specs.Words.{word_of, in_word}
use Rattle.flat_signatures.proofs.Fronts.{front_further, front_stops, word_nil, rest_taken}
use Rattle.flat_signatures.proofs.words.word_len.Goals as goal

seen : (x : List ℕ) (i : ℕ) (r : Bool) → r ≡ in_word (get_or x i 0) (take (length x - (i + 1)) (drop (i + 1) x)) → r ≡ in_word (get_or x i 0) (drop (i + 1) x)
seen x i r e = e ∙ ap (in_word (get_or x i 0)) (rest_taken x (i + 1))

pub returns-then-not-is_in_word : goal.returns-then-not-is_in_word
returns-then-not-is_in_word c =
    let e = front_stops c.args.text.now c.loop-len.len c.loop-len-test.true (sym (seen c.args.text.now c.loop-len.len _ c.is_in_word.ensures) ∙ c.if-not-is_in_word.true) in
    let f = c.loop-len.invariant.front in
    omega (arith, e, f)

pub loop-len-preserved : goal.loop-len-preserved
loop-len-preserved c =
    let e = front_further c.args.text.now c.loop-len.len c.loop-len-test.true (sym (seen c.args.text.now c.loop-len.len _ c.is_in_word.ensures) ∙ c.if-not-is_in_word.false) in
    let f = c.loop-len.invariant.front in
    record { within = omega (arith, c.loop-len-test.true); front = omega (arith, e, f) }

pub returns : goal.returns
returns c =
    let f = c.loop-len.invariant.front in
    let e = ap (λ y. length (word_of y)) (drop_of_length-le c.args.text.now c.loop-len-test.false) ∙ word_nil in
    omega (arith, e, f)
