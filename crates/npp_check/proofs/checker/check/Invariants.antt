use Rattle.std.proofs.Common.{All}
use Rattle.npp_frac.specs.Fits.{limit_of}
use Rattle.npp_tree.specs.Items.{items_of, HasShortLists}
use Rattle.npp_check.proofs.CheckerLemmas.{IsUnderWay}
use Rattle.npp_check.proofs.checker.check.Given as goal

-- the items so far were taken, and the verdict on all is that on the rest
abbrev pub invariant-loop-item : goal.invariant-loop-item
invariant-loop-item g l = record {
  short : All HasShortLists l.item-iterator.rest.items;
  under_way : IsUnderWay (limit_of g.N.Exact.WIDTH) l.instance l.checker (items_of g.N.Exact.rational l.item-iterator.rest.items) (items_of g.N.Exact.rational l.fn.items.items);
}
