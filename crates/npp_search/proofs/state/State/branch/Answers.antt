use Rattle.std.proofs.Common.{inl, inr, refl, sym, ap, ◌∙◌}
use Rattle.std.proofs.lemmas.Result.{on_ok_weaker}
use Rattle.npp_rows.specs.Parts.{is_full}
use Rattle.npp_frac.specs.Wide.{value_of_wide}
use Rattle.npp_tree.specs.Bounds.{bound_value}
use Rattle.npp_search.specs.Rule.{division_by}
use Rattle.npp_search.proofs.BranchLaws.{up_to_of_not_below, above_of_below}
use Rattle.npp_search.proofs.RuleLaws.{has_several}
use Rattle.npp_search.proofs.state.State.branch.Goals as goal
use Rattle.npp_search.proofs.state.State.branch.Goals.{then-not-is_below-via-then-not-is_below, then-not-is_below-via-else-not-is_below+then-is_full}

pub returns-then-not-is_below : goal.returns-then-not-is_below
returns-then-not-is_below g c =
    elim c.then-not-is_below.branch [
      | then-not-is_below-via-then-not-is_below w ↦
          inl (record { same = refl; settled = inl (up_to_of_not_below (bound_value c.args.bound) (value_of_wide c.args.self.now.lower) (sym c.is_below.ensures ∙ w.if-not-is_below.true)) })
      | then-not-is_below-via-else-not-is_below+then-is_full w ↦
          inl (record { same = refl; settled = inr (ap is_full (sym w.entries.ensures) ∙ (sym w.is_full.ensures ∙ w.if-is_full.true)) })
    ]

pub division_of-division-requires-clause-several : goal.division_of-division-requires-clause-several
division_of-division-requires-clause-several g c =
    has_several c.args.setting.now.table c.args.node.allowed.parts c.requires.allowed (ap is_full (sym c.entries.ensures) ∙ (sym c.is_full.ensures ∙ c.if-is_full.false))

pub returns : goal.returns
returns g c =
    on_ok_weaker c.split.result
    (λ s. inr (record {
      division = division_by c.division_of-division.result.commodity c.division_of-division.result.path;
      divides = c.division_of-division.ensures.divides;
      rule = c.division_of-division.ensures.rule;
      above = above_of_below (bound_value c.args.bound) (value_of_wide c.args.self.now.lower) (sym c.is_below.ensures ∙ c.if-not-is_below.false);
      splits = s;
    }))
    c.split.ensures
