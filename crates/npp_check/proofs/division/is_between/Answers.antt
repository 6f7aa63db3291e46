use Rattle.std.proofs.Common.{arith, refl}
use Rattle.npp_check.proofs.DivisionLemmas.{between_places}
use Rattle.npp_check.proofs.division.is_between.Goals as goal

pub returns : goal.returns
returns c = λ is.
    between_places c.args.list.now c.args.place c.args.number c.requires (omega (arith, c.if-list-place.false)) (c.if-not-is_behind.ensures refl) (c.is_before.ensures is)
