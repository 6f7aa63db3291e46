use Rattle.std.proofs.Common.{ap, ◌∙◌}
use Rattle.std.specs.Ordering.{is_eq}
use Rattle.npp_frac.specs.Rational.{one_ℚ, rational_cmp}
use Rattle.npp_rows.proofs.MarkLaws.{same_by_order}
use Rattle.npp_rows.proofs.pair.is_one.Goals as goal

pub returns : goal.returns
returns g c =
    c.is_eq.ensures ∙ ap is_eq (c.cmp.ensures ∙ ap (rational_cmp (g.N.Exact.rational c.args.number)) c.of_whole.ensures)
    ∙ same_by_order (g.N.Exact.rational c.args.number) one_ℚ
