use Rattle.std.proofs.Common.{take, get_or, arith}
use Rattle.std.proofs.lemmas.Int.Digits.{digits_value_push}
use Rattle.std.proofs.lemmas.List.{take_more}
use Rattle.npp_reader.proofs.FieldLemmas.{number_digit, number_short, value_fits, value_grows, digit_is}
use Rattle.npp_reader.proofs.field.value_of.Goals as goal

pub overflow_mul-value : goal.overflow_mul-value
overflow_mul-value c =
    let short = number_short c.args.field.now c.requires in
    let fits = value_fits c.loop-byte.value c.loop-byte.byte-index 48 c.loop-byte.invariant.1 (omega arith) (omega arith) in
    omega arith

pub overflow_sub-value : goal.overflow_sub-value
overflow_sub-value c = (number_digit c.args.field.now c.loop-byte.byte-index c.requires c.loop-byte-test.true).0

pub overflow_add-value : goal.overflow_add-value
overflow_add-value c =
    let short = number_short c.args.field.now c.requires in
    let digit = number_digit c.args.field.now c.loop-byte.byte-index c.requires c.loop-byte-test.true in
    let fits = value_fits c.loop-byte.value c.loop-byte.byte-index (get_or c.args.field.now c.loop-byte.byte-index 0) c.loop-byte.invariant.1 (omega arith) digit.1 in
    omega arith

pub loop-byte-preserved : goal.loop-byte-preserved
loop-byte-preserved c =
    let byte = get_or c.args.field.now c.loop-byte.byte-index 0 in
    let digit = number_digit c.args.field.now c.loop-byte.byte-index c.requires c.loop-byte-test.true in
    let more = take_more c.args.field.now c.loop-byte.byte-index 0 c.loop-byte-test.true in (
      rw (more, digits_value_push 10 (take c.loop-byte.byte-index c.args.field.now) byte, digit_is byte digit.0 digit.1, ← c.loop-byte.invariant.0),
      value_grows c.loop-byte.value c.loop-byte.byte-index byte c.loop-byte.invariant.1 digit.1,
    )
