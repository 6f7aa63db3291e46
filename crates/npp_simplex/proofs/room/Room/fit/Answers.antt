use Rattle.std.proofs.Common.{length, ap, ◌∙◌}
use Rattle.std.proofs.lemmas.List.{length-map}
use Rattle.std.proofs.lemmas.List.FromFn.{length-range_with_len}
use Rattle.npp_simplex.proofs.room.Room.fit.Goals as goal

pub returns : goal.returns
returns g c = record {
  candidates = ap length c.in_ok-candidates.ensures ∙ length-range_with_len 0 c.args.shape.rows;
  numbers = c.in_ok-numbers.ensures ∙ c.width.ensures;
  divided = ap length c.in_ok-divided.ensures ∙ length-map c.in_ok-fractions.fractions.items g.N.Exact.rational ∙ c.in_ok-fractions.ensures ∙ c.width-3.ensures;
  columns = ap length c.in_ok-columns.ensures ∙ length-range_with_len 0 c.width-2.result ∙ c.width-2.ensures;
}
