use Rattle.std.proofs.Common.{◌<◌, length, arith}
use Rattle.std.proofs.lemmas.Bool.Decides.{nat_tests}
use Rattle.std.proofs.lemmas.List.{nil_from_length}
use Rattle.npp_stream.proofs.PieceLemmas.{open_at_end, ends}
use Rattle.npp_stream.proofs.stream.TextCheck.finish.Goals as goal

pub returns-then-not-is_empty : goal.returns-then-not-is_empty
returns-then-not-is_empty c =
    let some : 0 < length c.args.self.open.items = grind (arith, nat_tests) in
    open_at_end c.args.self some

pub returns : goal.returns
returns c =
    let none = nil_from_length c.args.self.open.items (grind (arith, nat_tests)) in
    ends c.args.self c.finish.result none c.finish.ensures
