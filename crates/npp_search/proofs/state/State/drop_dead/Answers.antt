use Rattle.std.proofs.Common.{◌∙◌, List, All, refl, sym, subst}
use Rattle.std.specs.List.Sorted.{IsPermutation}
use Rattle.std.proofs.lemmas.List.Sorted.{IsPermutation-refl}
use Rattle.npp_frac.specs.Rational.{◌≤ℚ◌, ◌<ℚ◌}
use Rattle.npp_frac.specs.Order.{is_less_no, <ℚ_of_≤ℚ-<ℚ}
use Rattle.npp_frac.specs.Wide.{value_of_wide}
use Rattle.npp_search.specs.declared.waiting.Waiting.{Waiting}
use Rattle.npp_search.specs.Search.{bound_at}
use Rattle.npp_search.proofs.WaitingLaws.{none_dropped}
use Rattle.npp_search.proofs.state.State.drop_dead.Goals as goal

pub returns-then-not-is_below : goal.returns-then-not-is_below
returns-then-not-is_below g c =
    let before = value_of_wide c.args.before in
    let lower = value_of_wide c.args.self.now.lower in
    let waiting = c.args.self.now.waiting in
    let no_more : lower ≤ℚ before = is_less_no before lower (sym c.is_below.ensures ∙ c.if-not-is_below.true) in
    let above : All (λ w. lower <ℚ bound_at w) waiting = λ k d lt. <ℚ_of_≤ℚ-<ℚ no_more (c.requires k d lt) in
    record {
      waiting = subst (λ (ws : List Waiting). IsPermutation ws waiting) (none_dropped lower waiting above) (IsPermutation-refl waiting);
      tree = refl;
      opened = refl;
      made = refl;
      lower = refl;
      best = refl;
    }
