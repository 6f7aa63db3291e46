use Rattle.std.proofs.Common.{sym, ◌∙◌}
use Rattle.std.proofs.lemmas.List.Folds.{list_all-map}
use Rattle.npp_frac.specs.Rational.{zero_ℚ, is_less}
use Rattle.npp_rows.specs.declared.names.Multiplier.{Multiplier}
use Rattle.npp_rows.specs.Meaning.{multiplier_value}
use Rattle.npp_rows.proofs.TakenLaws.{passes_more, passes_not, passes_all}
use Rattle.npp_rows.proofs.multipliers.are_positive.Goals as goal

pub returns-then-not-is_positive : goal.returns-then-not-is_positive
returns-then-not-is_positive g c =
    passes_not (λ (y : Multiplier g.row.N.Denot). is_less zero_ℚ (g.N.Exact.rational y.value)) c.args.multipliers.now c.loop-multiplier.multiplier-index c.multiplier-item.result c.loop-multiplier-test.true c.multiplier-item.is (sym c.is_positive.ensures ∙ c.if-not-is_positive.true)
    ∙ sym (list_all-map (λ z. is_less zero_ℚ z.value) (multiplier_value g.N.Exact.rational) c.args.multipliers.now)

pub loop-multiplier-preserved : goal.loop-multiplier-preserved
loop-multiplier-preserved g c =
    passes_more (λ (y : Multiplier g.row.N.Denot). is_less zero_ℚ (g.N.Exact.rational y.value)) c.args.multipliers.now c.loop-multiplier.multiplier-index c.multiplier-item.result c.loop-multiplier-test.true c.multiplier-item.is (sym c.is_positive.ensures ∙ c.if-not-is_positive.false) c.loop-multiplier.invariant

pub returns : goal.returns
returns g c =
    passes_all (λ (y : Multiplier g.row.N.Denot). is_less zero_ℚ (g.N.Exact.rational y.value)) c.args.multipliers.now c.loop-multiplier.multiplier-index c.loop-multiplier-test.false c.loop-multiplier.invariant
    ∙ sym (list_all-map (λ z. is_less zero_ℚ z.value) (multiplier_value g.N.Exact.rational) c.args.multipliers.now)
