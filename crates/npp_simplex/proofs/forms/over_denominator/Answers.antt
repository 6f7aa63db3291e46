use Rattle.std.proofs.Common.{rules, ◌≡◌, ◌*◌, nat_abs, FitsSigned, to_z, of_z, to_z-of_z, ap, sym, ◌∙◌, arith}
use Rattle.std.specs.Int.{w128}
use Rattle.npp_simplex.proofs.WordForms.{times_at_most, over_word}
use Rattle.npp_simplex.proofs.forms.over_denominator.Goals as goal

pub returns-then-unsigned_abs-limit-clause-value : goal.returns-then-unsigned_abs-limit-clause-value
returns-then-unsigned_abs-limit-clause-value g c =
    let q = g.N.Exact.rational c.args.number in
    let d = c.args.denominator in
    let times = c.in_ok-times.times in
    let part_fits : FitsSigned w128 c.den.result = search rules in
    let number_fits : FitsSigned w128 c.num-number.result = search rules in
    let is : nat_abs (to_z w128 (of_z w128 c.den.result)) ≡ (g.N.Exact.rational c.args.number).den = ap nat_abs (to_z-of_z part_fits ∙ c.den.ensures) in
    let whole : c.in_ok-times.times * (g.N.Exact.rational c.args.number).den ≡ c.args.denominator = ap (λ t. times * t) (sym is) ∙ c.in_ok-times.ensures in
    over_word q c.num-number.result times d c.args.limit c.num-number.ensures number_fits whole (times_at_most times q.den d q.positive whole) c.requires.positive (omega arith) c.requires.limit (omega arith) (omega arith)
