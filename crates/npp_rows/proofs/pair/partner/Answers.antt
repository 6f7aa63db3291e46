use Rattle.std.proofs.Common.{sym, ◌∙◌, arith}
use Rattle.npp_rows.specs.Cuts.{conflict_cut}
use Rattle.npp_rows.specs.Meaning.{cut_value}
use Rattle.npp_rows.proofs.DerivationLaws.{cut_same}
use Rattle.npp_rows.proofs.pair.partner.Goals as goal

pub returns : goal.returns
returns g c = (
  omega (arith, c.if-path-count.false),
  cut_same (cut_value g.N.Exact.rational c.args.cut.now) (conflict_cut c.args.pair.k c.args.pair.p c.args.pair.l c.in_ok-path.path) (sym c.is_conflict.ensures ∙ c.if-not-is_conflict.false),
)
