use Rattle.std.proofs.Common.{◌≡◌, [], ◌∷◌, ◌++◌, map, sym, ap, ◌∙◌}
use Rattle.std.proofs.lemmas.List.{map-append}
use Rattle.npp_frac.specs.Rational.{zero_ℚ}
use Rattle.npp_start.proofs.StartLaws.{replicate_more}
use Rattle.npp_start.proofs.start.zero_tolls.Goals as goal

pub loop-toll-preserved : goal.loop-toll-preserved
loop-toll-preserved g c =
    rw (c.in_ok-push.ensures.items, map-append, c.loop-toll.invariant, c.of_whole-zero.ensures) (sym (replicate_more c.loop-toll._toll zero_ℚ))
