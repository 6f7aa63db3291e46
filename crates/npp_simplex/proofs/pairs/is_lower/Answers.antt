use Rattle.std.proofs.Common.{rules, ◌≡◌, pos, ◌*ℤ◌, FitsSigned, w64, to_z, of_z, to_z-of_z, ap, ap₂, sym, ◌∙◌}
use Rattle.std.specs.Int.{w128}
use Rattle.npp_simplex.proofs.WordPairs.{lower_words, zeros_not_lower}
use Rattle.npp_simplex.proofs.pairs.is_lower.Goals as goal

pub returns-then-other-eq0 : goal.returns-then-other-eq0
returns-then-other-eq0 c =
    let first : FitsSigned w64 c.args.number = c.ranges.number in
    let second : FitsSigned w64 c.args.other = c.ranges.other in
    let none : c.args.number ≡ pos 0 = sym (to_z-of_z first) ∙ ap (to_z w64) c.if-number-eq0.true in
    let neither : c.args.other ≡ pos 0 = sym (to_z-of_z second) ∙ ap (to_z w64) c.if-other-eq0.true in
    zeros_not_lower c.args.number c.args.other c.args.divisor c.args.by none neither

pub returns : goal.returns
returns c =
    let number : FitsSigned w64 c.args.number = c.ranges.number in
    let divisor : FitsSigned w64 c.args.divisor = c.ranges.divisor in
    let other : FitsSigned w64 c.args.other = c.ranges.other in
    let by : FitsSigned w64 c.args.by = c.ranges.by in
    let first : FitsSigned w128 c.product.result = search rules in
    let second : FitsSigned w128 c.product-2.result = search rules in
    let left : to_z w128 (of_z w128 c.product.result) ≡ c.args.number *ℤ c.args.by = to_z-of_z first ∙ c.product.ensures ∙ ap₂ ◌*ℤ◌ (to_z-of_z number) (to_z-of_z by) in
    let right : to_z w128 (of_z w128 c.product-2.result) ≡ c.args.other *ℤ c.args.divisor = to_z-of_z second ∙ c.product-2.ensures ∙ ap₂ ◌*ℤ◌ (to_z-of_z other) (to_z-of_z divisor) in
    lower_words c.args.number c.args.other c.args.divisor c.args.by (to_z w128 (of_z w128 c.product.result)) (to_z w128 (of_z w128 c.product-2.result)) c.requires.divisor c.requires.by left right
