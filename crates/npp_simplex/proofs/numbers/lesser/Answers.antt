use Rattle.std.proofs.Common.{refl, sym, ◌∙◌, inl, inr}
use Rattle.npp_frac.specs.Order.{is_less_yes, is_less_no, ≤ℚ_of_<ℚ, ≤ℚ_refl}
use Rattle.npp_simplex.proofs.numbers.lesser.Goals as goal

pub returns-then-is_below : goal.returns-then-is_below
returns-then-is_below g c =
    let v = g.N.Exact.rational in
    record { one_of = inr refl; first = ≤ℚ_of_<ℚ (is_less_yes (v c.args.second) (v c.args.first) (sym c.is_below.ensures ∙ c.if-is_below.true)); second = ≤ℚ_refl (v c.args.second) }

pub returns-else-is_below : goal.returns-else-is_below
returns-else-is_below g c =
    let v = g.N.Exact.rational in
    record { one_of = inl refl; first = ≤ℚ_refl (v c.args.first); second = is_less_no (v c.args.second) (v c.args.first) (sym c.is_below.ensures ∙ c.if-is_below.false) }
