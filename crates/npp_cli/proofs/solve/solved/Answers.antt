use Rattle.std.proofs.Common.{◌≤◌, List, refl, sym, subst, arith}
use Rattle.npp_frac.specs.Fits.{limit_of}
use Rattle.npp_frac.specs.Narrow.{value_of_64}
use Rattle.npp_cover.specs.Replaces.{CoverValue}
use Rattle.npp_labels.specs.Covers.{AreUsefulCovers, path_total}
use Rattle.npp_tree.specs.Outcome.{outcome_value}
use Rattle.npp_start.proofs.CoverShape.{are_closed, same_total}
use Rattle.npp_start.proofs.StartLaws.{capped_allowed}
use Rattle.npp_search.specs.Problem.{problem_of}
use Rattle.npp_search.specs.Outcome.{IsGrownOutcome}
use Rattle.npp_cli.specs.Headline.{IsSearched}
use Rattle.npp_cli.proofs.AcceptLemmas.{grown_accepted, text_accepted}
use Rattle.npp_cli.proofs.solve.solved.Goals as goal

pub search-requires-clause-few : goal.search-requires-clause-few
search-requires-clause-few c =
    let same = same_total c.deref.result.now in
    let few = subst (λ (covers : List CoverValue). path_total covers ≤ 2000) (sym c.deref.ensures.value) c.requires.few in
    omega (arith, same, few)

pub returns : goal.returns
returns c =
    let net = c.args.instance in
    let o = outcome_value value_of_64 c.in_ok-outcome.outcome in
    let found = c.in_ok-outcome.ensures in
    let shown = found.grown.shows in
    let earns = shown.report.earns in
    let useful = subst (λ (covers : List CoverValue). AreUsefulCovers net.arcs net.commodities covers) (sym c.deref.ensures.value) c.requires.covers in
    let searched : IsSearched (problem_of (limit_of 64) net c.deref.result.now) c.args.budget o = record {
      grown = found.grown;
      best_first = found.best_first refl;
      few_nodes = found.few_nodes;
      between = found.between;
      must_come = found.optimal;
      loud = found.loud;
    } in
    let accepted = grown_accepted c.outcomes_are_accepted.ensures c.args.budget net c.args.covers.items o c.nodes-nodes.ensures.limits c.requires.covers c.requires.few c.ranges.budget.fits
    (subst (λ (covers : List CoverValue). IsGrownOutcome (problem_of (limit_of 64) net covers) c.args.budget o) c.deref.ensures.value found.grown)
    (c.outcomes_have_numbers.ensures c.in_ok-outcome.outcome) in
    record {
      covers = c.args.covers.items;
      are_useful = c.requires.covers;
      within = c.requires.few;
      kept = c.requires.kept;
      outcome = o;
      searched = subst (λ (covers : List CoverValue). IsSearched (problem_of (limit_of 64) net covers) c.args.budget o) c.deref.ensures.value searched;
      is_report = record {
        allowed = capped_allowed net c.deref.result.now o.tolls (are_closed net c.deref.result.now useful) earns.size earns.capped;
        reply = found.lower;
        bounded = found.upper;
        status = shown.status.optimal;
      };
      is_text = refl;
      is_accepted = text_accepted c.args.brief net c.args.covers.items o accepted;
      is_status = c.exit_status-status.ensures;
    }
