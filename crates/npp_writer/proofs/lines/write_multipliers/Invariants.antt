use Rattle.std.proofs.Common.{◌≡◌, ◌++◌, map, take, string_bytes}
use Rattle.npp_rows.specs.Meaning.{multiplier_value}
use Rattle.npp_tree.specs.declared.item.Item.TheVariants as item
use Rattle.npp_report.specs.Lines.{text_of}
use Rattle.npp_writer.proofs.lines.write_multipliers.Given as goal

abbrev pub invariant-loop-multiplier : goal.invariant-loop-multiplier
invariant-loop-multiplier g l =
    string_bytes l.text ≡ string_bytes l.initial.text ++ text_of (map item.Mult (map (multiplier_value g.N.Exact.rational) (take l.multiplier-index l.multipliers)))
