use Rattle.std.proofs.Common.{rules, ◌≡◌, ◌-◌, FitsSigned, w64, to_z, of_z, to_z-of_z, ap, ap₂, sym, ◌∙◌, arith}
use Rattle.std.specs.List.{range_with_len}
use Rattle.npp_frac.specs.Rational.{whole, is_less, ◌/ℚ◌}
use Rattle.npp_simplex.specs.CommonForm.{number_in}
use Rattle.npp_simplex.specs.RowOrder.{comes_before, divided}
use Rattle.npp_simplex.proofs.RowPairs.{column_lower, column_higher, column_level}
use Rattle.npp_simplex.proofs.WordPairs.{zeros_passed}
use Rattle.npp_simplex.proofs.pairs.words_before.Goals as goal

pub returns-then-k-end : goal.returns-then-k-end
returns-then-k-end c =
    let first : FitsSigned w64 c.args.divisor = c.ranges.divisor in
    let second : FitsSigned w64 c.args.by = c.ranges.by in
    let f = divided c.args.words.now (to_z w64 (of_z w64 c.args.divisor)) in
    let g = divided c.args.others.now (to_z w64 (of_z w64 c.args.by)) in
    let told = c.next_nonzero_of-k.ensures in
    let passed = zeros_passed c.args.words.now c.args.others.now (to_z w64 (of_z w64 c.args.divisor)) (to_z w64 (of_z w64 c.args.by)) c.args.from c.loop-next.next c.next_nonzero_of-k.result c.args.end told.from told.end told.words told.others c.loop-next.invariant.same in
    let none : c.args.end - c.next_nonzero_of-k.result ≡ 0 = omega (arith, c.if-k-end.true) in
    sym (passed ∙ ap (λ n. comes_before f g (range_with_len c.next_nonzero_of-k.result n)) none)
    ∙ ap₂ (λ d b. comes_before (divided c.args.words.now d) (divided c.args.others.now b) (range_with_len c.args.from (c.args.end - c.args.from))) (to_z-of_z first) (to_z-of_z second)

pub returns-then-is_lower : goal.returns-then-is_lower
returns-then-is_lower c =
    let first : FitsSigned w64 c.args.divisor = c.ranges.divisor in
    let second : FitsSigned w64 c.args.by = c.ranges.by in
    let number : FitsSigned w64 (number_in c.args.words.now c.next_nonzero_of-k.result) = search rules in
    let other : FitsSigned w64 (number_in c.args.others.now c.next_nonzero_of-k.result) = search rules in
    let f = divided c.args.words.now (to_z w64 (of_z w64 c.args.divisor)) in
    let g = divided c.args.others.now (to_z w64 (of_z w64 c.args.by)) in
    let told = c.next_nonzero_of-k.ensures in
    let passed = zeros_passed c.args.words.now c.args.others.now (to_z w64 (of_z w64 c.args.divisor)) (to_z w64 (of_z w64 c.args.by)) c.args.from c.loop-next.next c.next_nonzero_of-k.result c.args.end told.from told.end told.words told.others c.loop-next.invariant.same in
    let lower : c.is_lower.result ≡ is_less (divided c.args.words.now (to_z w64 (of_z w64 c.args.divisor)) c.next_nonzero_of-k.result) (divided c.args.others.now (to_z w64 (of_z w64 c.args.by)) c.next_nonzero_of-k.result) =
    c.is_lower.ensures ∙ ap₂ (λ x y. is_less (whole x /ℚ whole (to_z w64 (of_z w64 c.args.divisor))) (whole y /ℚ whole (to_z w64 (of_z w64 c.args.by)))) (to_z-of_z number) (to_z-of_z other) in
    column_lower f g c.args.from c.next_nonzero_of-k.result c.args.end (omega arith) passed (sym lower ∙ c.if-is_lower.true)
    ∙ ap₂ (λ d b. comes_before (divided c.args.words.now d) (divided c.args.others.now b) (range_with_len c.args.from (c.args.end - c.args.from))) (to_z-of_z first) (to_z-of_z second)

pub returns-then-is_lower-2 : goal.returns-then-is_lower-2
returns-then-is_lower-2 c =
    let first : FitsSigned w64 c.args.divisor = c.ranges.divisor in
    let second : FitsSigned w64 c.args.by = c.ranges.by in
    let number : FitsSigned w64 (number_in c.args.words.now c.next_nonzero_of-k.result) = search rules in
    let other : FitsSigned w64 (number_in c.args.others.now c.next_nonzero_of-k.result) = search rules in
    let f = divided c.args.words.now (to_z w64 (of_z w64 c.args.divisor)) in
    let g = divided c.args.others.now (to_z w64 (of_z w64 c.args.by)) in
    let told = c.next_nonzero_of-k.ensures in
    let passed = zeros_passed c.args.words.now c.args.others.now (to_z w64 (of_z w64 c.args.divisor)) (to_z w64 (of_z w64 c.args.by)) c.args.from c.loop-next.next c.next_nonzero_of-k.result c.args.end told.from told.end told.words told.others c.loop-next.invariant.same in
    let lower : c.is_lower.result ≡ is_less (divided c.args.words.now (to_z w64 (of_z w64 c.args.divisor)) c.next_nonzero_of-k.result) (divided c.args.others.now (to_z w64 (of_z w64 c.args.by)) c.next_nonzero_of-k.result) =
    c.is_lower.ensures ∙ ap₂ (λ x y. is_less (whole x /ℚ whole (to_z w64 (of_z w64 c.args.divisor))) (whole y /ℚ whole (to_z w64 (of_z w64 c.args.by)))) (to_z-of_z number) (to_z-of_z other) in
    let higher : c.is_lower-in-loop-next.result ≡ is_less (divided c.args.others.now (to_z w64 (of_z w64 c.args.by)) c.next_nonzero_of-k.result) (divided c.args.words.now (to_z w64 (of_z w64 c.args.divisor)) c.next_nonzero_of-k.result) =
    c.is_lower-in-loop-next.ensures ∙ ap₂ (λ x y. is_less (whole x /ℚ whole (to_z w64 (of_z w64 c.args.by))) (whole y /ℚ whole (to_z w64 (of_z w64 c.args.divisor)))) (to_z-of_z other) (to_z-of_z number) in
    column_higher f g c.args.from c.next_nonzero_of-k.result c.args.end (omega arith) passed (sym lower ∙ c.if-is_lower.false) (sym higher ∙ c.if-is_lower-2.true)
    ∙ ap₂ (λ d b. comes_before (divided c.args.words.now d) (divided c.args.others.now b) (range_with_len c.args.from (c.args.end - c.args.from))) (to_z-of_z first) (to_z-of_z second)

pub loop-next-preserved : goal.loop-next-preserved
loop-next-preserved c =
    let first : FitsSigned w64 c.args.divisor = c.ranges.divisor in
    let second : FitsSigned w64 c.args.by = c.ranges.by in
    let number : FitsSigned w64 (number_in c.args.words.now c.next_nonzero_of-k.result) = search rules in
    let other : FitsSigned w64 (number_in c.args.others.now c.next_nonzero_of-k.result) = search rules in
    let f = divided c.args.words.now (to_z w64 (of_z w64 c.args.divisor)) in
    let g = divided c.args.others.now (to_z w64 (of_z w64 c.args.by)) in
    let told = c.next_nonzero_of-k.ensures in
    let passed = zeros_passed c.args.words.now c.args.others.now (to_z w64 (of_z w64 c.args.divisor)) (to_z w64 (of_z w64 c.args.by)) c.args.from c.loop-next.next c.next_nonzero_of-k.result c.args.end told.from told.end told.words told.others c.loop-next.invariant.same in
    let lower : c.is_lower.result ≡ is_less (divided c.args.words.now (to_z w64 (of_z w64 c.args.divisor)) c.next_nonzero_of-k.result) (divided c.args.others.now (to_z w64 (of_z w64 c.args.by)) c.next_nonzero_of-k.result) =
    c.is_lower.ensures ∙ ap₂ (λ x y. is_less (whole x /ℚ whole (to_z w64 (of_z w64 c.args.divisor))) (whole y /ℚ whole (to_z w64 (of_z w64 c.args.by)))) (to_z-of_z number) (to_z-of_z other) in
    let higher : c.is_lower-in-loop-next.result ≡ is_less (divided c.args.others.now (to_z w64 (of_z w64 c.args.by)) c.next_nonzero_of-k.result) (divided c.args.words.now (to_z w64 (of_z w64 c.args.divisor)) c.next_nonzero_of-k.result) =
    c.is_lower-in-loop-next.ensures ∙ ap₂ (λ x y. is_less (whole x /ℚ whole (to_z w64 (of_z w64 c.args.by))) (whole y /ℚ whole (to_z w64 (of_z w64 c.args.divisor)))) (to_z-of_z other) (to_z-of_z number) in
    record {
      end = omega arith;
      same = column_level f g c.args.from c.next_nonzero_of-k.result c.args.end (omega arith) passed (sym lower ∙ c.if-is_lower.false) (sym higher ∙ c.if-is_lower-2.false);
    }
