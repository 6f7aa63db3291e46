use Rattle.std.proofs.Common.{◌++◌}
use Rattle.std.specs.Fmt.{decimal}
use Rattle.npp_report.proofs.Growth.{grown_by_more}
use Rattle.npp_cli.proofs.Growth.{map_first_more, texts_more}
use Rattle.npp_cli.proofs.generator.add_names.Goals as goal

pub loop-i-preserved : goal.loop-i-preserved
loop-i-preserved c =
    let letter = c.args.letter.now in
    grown_by_more _ _ _ _ _ _ c.loop-i.invariant
    (texts_more c.loop-i.names.items c.push.new.self.items c.in_ok-format.field-0 _ c.in_ok-push.ensures.items c.in_ok-format.ensures.ok)
    (map_first_more (λ i. letter ++ decimal i) c.loop-i.i-counter)
