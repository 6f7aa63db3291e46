use Rattle.std.proofs.Common.{length, arith}
use Rattle.npp_rows.proofs.FamilyLaws.{shares_within, paid_within, paid_same, lists_size}
use Rattle.npp_rows.proofs.index.RelaxationIndex.new.Goals as goal

pub list_starts-requires : goal.list_starts-requires
list_starts-requires c =
    let m = c.args.table.now in
    let parts = c.args.allowed.now.parts in
    rw c.entries.ensures (shares_within m parts c.in_ok-used.ensures.limits c.requires (length parts) (omega (arith, c.requires.size)))

pub list_starts-requires-2 : goal.list_starts-requires-2
list_starts-requires-2 c =
    let m = c.args.table.now in
    let parts = c.args.allowed.now.parts in
    let lists = c.in_ok-used.used.items in
    let size = lists_size m parts lists c.in_ok-used.ensures.used in
    rw c.deref.ensures.value
    (omega (arith, paid_same m parts lists (length lists) c.in_ok-used.ensures.used (omega (arith, size)), paid_within m parts c.in_ok-used.ensures.limits c.requires (length lists) (omega (arith, size))))

pub invariant_of-result : goal.invariant_of-result
invariant_of-result c = record {
  limits = c.in_ok-used.ensures.limits;
  allowed = c.requires;
  used = c.in_ok-used.ensures.used;
  shares = rw c.entries.ensures at c.in_ok-shares.ensures;
  paid = rw c.deref.ensures.value at c.in_ok-paid.ensures;
}
