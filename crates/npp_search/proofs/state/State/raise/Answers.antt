use Rattle.std.proofs.Common.{◌≡◌, inl, inr, Some, Option, List, refl, sym, subst, ap, ◌∙◌}
use Rattle.std.specs.Prelude.{IfSome, option_map}
use Rattle.npp_frac.specs.Rational.{Rational, ◌≤ℚ◌, ◌<ℚ◌}
use Rattle.npp_frac.specs.Order.{is_less_yes, is_less_no}
use Rattle.npp_frac.specs.Wide.{value_of_wide}
use Rattle.npp_rows.specs.declared.response.Response.{Response}
use Rattle.npp_leaf.specs.Found.{best_value}
use Rattle.npp_search.proofs.state.State.raise.Goals as goal

pub returns-then-is_below : goal.returns-then-is_below
returns-then-is_below g c =
    let v = g.N.Exact.rational in
    let b = best_value v (c.in-Some.tolls, c.in-Some.reply) in
    let is : c.args.offer ≡ Some (c.in-Some.tolls, c.in-Some.reply) = cc in
    let below = is_less_yes (value_of_wide c.args.self.now.lower) (value_of_wide c.widen-revenue.result) (sym c.is_below.ensures ∙ c.if-is_below.true) in
    record {
      keeps = record { tree = refl; waiting = refl; opened = refl; made = refl };
      cases = inr (
        b,
        ap (option_map (best_value v)) is,
        record {
          more = subst (λ (q : Rational). value_of_wide c.args.self.now.lower <ℚ q) c.widen-revenue.ensures below;
          lower = c.widen-revenue.ensures;
          best = refl;
        },
      );
    }

pub returns-else-is_below : goal.returns-else-is_below
returns-else-is_below g c =
    let v = g.N.Exact.rational in
    let is : Some (c.in-Some.tolls, c.in-Some.reply) ≡ c.args.offer = cc in
    let above = is_less_no (value_of_wide c.args.self.now.lower) (value_of_wide c.widen-revenue.result) (sym c.is_below.ensures ∙ c.if-is_below.false) in
    let no_more : v c.in-Some.reply.revenue ≤ℚ value_of_wide c.args.self.now.lower = subst (λ (q : Rational). q ≤ℚ value_of_wide c.args.self.now.lower) c.widen-revenue.ensures above in
    record {
      keeps = record { tree = refl; waiting = refl; opened = refl; made = refl };
      cases = inl (record {
        same = refl;
        no_more = subst (λ (o : Option (List g.row.N.Denot × Response g.row.N.Denot)). IfSome (option_map (best_value v) o) (λ b. b.reply.revenue ≤ℚ value_of_wide c.args.self.now.lower)) is no_more;
      });
    }
