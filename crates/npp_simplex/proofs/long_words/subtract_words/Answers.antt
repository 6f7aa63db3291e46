use Rattle.std.proofs.Common.{slice_index_or, ◌-ℤ◌, ◌*ℤ◌, FitsSigned, rules, w64, ap, to_z, of_z, to_z-of_z, sym, ap₂, ◌∙◌, arith}
use Rattle.std.specs.Int.{w128}
use Rattle.npp_simplex.specs.CommonForm.{number_in}
use Rattle.npp_simplex.proofs.WordRows.{begins, goes_on, within, unchanged, difference_fits, difference_is}
use Rattle.npp_simplex.proofs.long_words.subtract_words.Goals as goal

-- the invariant speaks of the factor as the word that the loop reads
pub loop-s-init : goal.loop-s-init
loop-s-init c = begins c.args.numbers.now (to_z w128 (of_z w128 c.args.factor)) c.args.other.now c.args.columns.now c.requires.columns

pub slice_copy_out-numbers : goal.slice_copy_out-numbers
slice_copy_out-numbers c =
    let less = within c.args.numbers.now c.args.factor c.args.other.now c.args.columns.now c.requires.columns c.loop-s.s (omega arith) in
    omega (arith, less, c.loop-s.auto.numbers)

pub bounds-other-j : goal.bounds-other-j
bounds-other-j c =
    let less = within c.args.numbers.now c.args.factor c.args.other.now c.args.columns.now c.requires.columns c.loop-s.s (omega arith) in
    omega (arith, less, c.requires.lengths)

pub bounds-numbers-j : goal.bounds-numbers-j
bounds-numbers-j c =
    let less = within c.args.numbers.now c.args.factor c.args.other.now c.args.columns.now c.requires.columns c.loop-s.s (omega arith) in
    omega (arith, less, c.loop-s.auto.numbers)

pub overflow_sub-numbers : goal.overflow_sub-numbers
overflow_sub-numbers c =
    let fits : FitsSigned w128 c.args.factor = c.ranges.factor in
    let j = slice_index_or c.args.columns.now c.loop-s.s 0 in
    let same = unchanged c.args.numbers.now (to_z w128 (of_z w128 c.args.factor)) c.args.other.now c.args.columns.now c.requires.columns c.loop-s.numbers c.loop-s.s c.loop-s.invariant (omega arith) in
    let inner : FitsSigned w64 (number_in c.args.other.now (slice_index_or c.args.columns.now c.loop-s.s 0)) = search rules in
    difference_fits w128 (number_in c.loop-s.numbers j) c.args.factor (to_z w64 (of_z w64 (number_in c.args.other.now j))) fits (rw (to_z-of_z inner) (rw same (c.requires.sizes j)))

pub loop-s-preserved : goal.loop-s-preserved
loop-s-preserved c =
    let fits : FitsSigned w128 c.args.factor = c.ranges.factor in
    let j = slice_index_or c.args.columns.now c.loop-s.s 0 in
    let f = to_z w128 (of_z w128 c.args.factor) in
    let same = unchanged c.args.numbers.now f c.args.other.now c.args.columns.now c.requires.columns c.loop-s.numbers c.loop-s.s c.loop-s.invariant (omega arith) in
    let inner : FitsSigned w64 (number_in c.args.other.now (slice_index_or c.args.columns.now c.loop-s.s 0)) = search rules in
    let exact = difference_is w128 (number_in c.loop-s.numbers j) c.args.factor (to_z w64 (of_z w64 (number_in c.args.other.now j))) fits (rw (to_z-of_z inner) (rw same (c.requires.sizes j))) in
    goes_on c.args.numbers.now f c.args.other.now c.args.columns.now c.requires.columns c.loop-s.numbers c.loop-s.s c.loop-s.invariant (omega arith) _
    (exact ∙ ap₂ (λ x t. x -ℤ (t *ℤ to_z w64 (of_z w64 (number_in c.args.other.now (slice_index_or c.args.columns.now c.loop-s.s 0))))) same (sym (to_z-of_z fits)) ∙ ap (λ z. number_in c.args.numbers.now (slice_index_or c.args.columns.now c.loop-s.s 0) -ℤ (to_z w128 (of_z w128 c.args.factor) *ℤ z)) (to_z-of_z inner))
