use Rattle.std.proofs.Common.{◌≡◌, ◌++◌, map}
use Rattle.std.specs.List.{range_with_len}
use Rattle.npp_net.specs.Network.{ceiling_of}
use Rattle.npp_tree.specs.declared.item.Item.TheVariants as item
use Rattle.npp_report.specs.Lines.{text_of}
use Rattle.npp_upgrade.proofs.instance.write_limits.Given as goal

abbrev pub invariant-loop-toll : goal.invariant-loop-toll
invariant-loop-toll l =
    l.text.items ≡ l.initial.text.items ++ text_of (map (λ a. item.Limit a (ceiling_of l.instance.arcs a)) (range_with_len 0 l.toll))
