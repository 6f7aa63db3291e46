use Rattle.std.proofs.Common.{arith, ap₂, ◌∙◌, ◌≡◌, ◌+◌, ◌<◌}
use Rattle.npp_frac.specs.Gcd.{gcd}
use Rattle.npp_frac.proofs.Pairs.{whole_of_unslashed, halves_of_slashed, pair_text_whole, tail_is}
use Rattle.npp_frac.proofs.text.pair_of.Goals as goal

pub returns-in_err-whole_number-in-None-clause-each :
    goal.returns-in_err-whole_number-in-None-clause-each
returns-in_err-whole_number-in-None-clause-each c n d p =
    let whole = whole_of_unslashed c.args.bytes.now n d p c.in-None.ensures.none in
    cc (c.in_err-whole_number-in-None.ensures.each n p.num_below whole.1)

pub returns-in_err-num-in-Some-clause-each : goal.returns-in_err-num-in-Some-clause-each
returns-in_err-num-in-Some-clause-each c n d p =
    let halves = halves_of_slashed c.args.bytes.now c.in-Some.at n d p c.in-Some.ensures.found.0 c.in-Some.ensures.found.1 c.in-Some.ensures.before in
    cc (c.in_err-num-in-Some.ensures.each n p.num_below halves.num)

pub returns-in_err-den-in-Some-clause-each : goal.returns-in_err-den-in-Some-clause-each
returns-in_err-den-in-Some-clause-each c n d p =
    let halves = halves_of_slashed c.args.bytes.now c.in-Some.at n d p c.in-Some.ensures.found.0 c.in-Some.ensures.found.1 c.in-Some.ensures.before in
    cc (c.in_err-den-in-Some.ensures.each d p.den_below (tail_is c.args.bytes.now (c.in-Some.at + 1) ∙ halves.den))

pub returns-in_ok-whole_number-in-None-clause-text :
    goal.returns-in_ok-whole_number-in-None-clause-text
returns-in_ok-whole_number-in-None-clause-text c =
    let whole = c.in_ok-whole_number-in-None.ensures.text in pair_text_whole c.args.bytes.now _ whole.0 whole.1

pub returns-in_ok-whole_number-in-None-clause-each :
    goal.returns-in_ok-whole_number-in-None-clause-each
returns-in_ok-whole_number-in-None-clause-each c n d p =
    let whole = whole_of_unslashed c.args.bytes.now n d p c.in-None.ensures.none in
    cc (c.in_ok-whole_number-in-None.ensures.each n p.num_below whole.1, whole.0)

pub returns-then-is_proper-clause-each : goal.returns-then-is_proper-clause-each
returns-then-is_proper-clause-each c n d p =
    let halves = halves_of_slashed c.args.bytes.now c.in-Some.at n d p c.in-Some.ensures.found.0 c.in-Some.ensures.found.1 c.in-Some.ensures.before in
    cc (c.in_ok-num-in-Some.ensures.each n p.num_below halves.num, c.in_ok-den-in-Some.ensures.each d p.den_below (tail_is c.args.bytes.now (c.in-Some.at + 1) ∙ halves.den))

pub returns-else-is_proper-clause-each : goal.returns-else-is_proper-clause-each
returns-else-is_proper-clause-each c n d p =
    let halves = halves_of_slashed c.args.bytes.now c.in-Some.at n d p c.in-Some.ensures.found.0 c.in-Some.ensures.found.1 c.in-Some.ensures.before in
    let num : c.in_ok-num-in-Some.num ≡ n = cc (c.in_ok-num-in-Some.ensures.each n p.num_below halves.num) in
    let den : c.in_ok-den-in-Some.den ≡ d = cc (c.in_ok-den-in-Some.ensures.each d p.den_below (tail_is c.args.bytes.now (c.in-Some.at + 1) ∙ halves.den)) in
    let more : 1 < c.in_ok-den-in-Some.den = omega (arith, den, halves.above) in
    cc (c.if-is_proper.ensures.1 (more, ap₂ gcd num den ∙ p.reduced))
