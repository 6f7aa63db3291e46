use Rattle.std.proofs.Common.{◌^◌, lit<}
use Rattle.npp_frac.specs.NarrowLaws.{floor_fits}
use Rattle.npp_frac.proofs.frac32_exact.Frac32Exact.floor.Goals as goal

pub of_words-requires : goal.of_words-requires
of_words-requires c =
    floor_fits (2 ^ 31) c.words.result c.floor.result (lit< tt) c.words.ensures.below c.floor.ensures.num c.floor.ensures.den
