use Rattle.std.proofs.Common.{◌≡◌, ◌+◌, ◌-◌, length, arith}
use Rattle.npp_rows.proofs.ShareLaws.{found_piece, passed_piece}
use Rattle.npp_rows.proofs.search.piece_of.Goals as goal

pub returns-in-Ok : goal.returns-in-Ok
returns-in-Ok c =
    let size : length c.args.starts.now - 1 + 1 ≡ length c.args.starts.now = omega (arith, c.requires.some) in
    found_piece c.args.starts.now c.args.place c.in-Ok.at c.requires.rising (rw c.in-Ok.is at c.binary_search.ensures.position) (length c.args.starts.now - 1) size c.requires.high

pub returns-in-Err : goal.returns-in-Err
returns-in-Err c =
    let size : length c.args.starts.now - 1 + 1 ≡ length c.args.starts.now = omega (arith, c.requires.some) in
    (passed_piece c.args.starts.now c.args.place c.in-Err.gap c.requires.rising (rw c.in-Err.is at c.binary_search.ensures.position) (length c.args.starts.now - 1) size c.requires.low c.requires.high).1

pub overflow_sub-result : goal.overflow_sub-result
overflow_sub-result c =
    let size : length c.args.starts.now - 1 + 1 ≡ length c.args.starts.now = omega (arith, c.requires.some) in
    let some = (passed_piece c.args.starts.now c.args.place c.in-Err.gap c.requires.rising (rw c.in-Err.is at c.binary_search.ensures.position) (length c.args.starts.now - 1) size c.requires.low c.requires.high).0 in
    omega (arith, some)
