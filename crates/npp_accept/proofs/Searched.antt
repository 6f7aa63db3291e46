-- What a search comes to is accepted, where the tree of its outcome is read and its end agrees.
use Rattle.std.specs.Prelude.{◌≡◌, ℕ, ◌≤◌, true, List, [], Ok, refl}
use Rattle.std.specs.List.{flat_map}
use Rattle.std.proofs.Common.{ap, sym, ◌∙◌, subst, inr}
use Rattle.npp_frac.specs.Fits.{limit_of, IsWidth}
use Rattle.npp_frac.specs.FitsLaws.{limit_at_most}
use Rattle.npp_frac.specs.Rational.{Rational}
use Rattle.npp_net.specs.Network.{Network}
use Rattle.npp_cover.specs.Replaces.{CoverValue}
use Rattle.npp_rows.specs.Caps.{path_model}
use Rattle.npp_rows.specs.Lowering.{AreClosedCovers}
use Rattle.npp_rows.specs.PathModel.{PathModel}
use Rattle.npp_rows.specs.Response.{Reply, reply, reply_fits}
use Rattle.npp_tree.specs.declared.outcome.PathLine.{PathLine}
use Rattle.npp_tree.specs.declared.item.Item.TheVariants as item
use Rattle.npp_tree.specs.Lines.{numbered, entry_lines}
use Rattle.npp_tree.specs.Outcome.{OutcomeValue}
use Rattle.npp_tree.specs.Tree.{Tree, Node, opened_in, tree_bound}
use Rattle.npp_start.specs.Allowed.{AreAllowed}
use Rattle.npp_start.specs.Walks.{reply_lines, IsReplyTo}
use Rattle.npp_inverse.proofs.CoverLaws.{has_useful_paths, is_model}
use Rattle.npp_start.proofs.CoverShape.{are_closed}
use Rattle.npp_start.proofs.StartLaws.{capped_allowed}
use Rattle.npp_start.proofs.WalkLaws.{is_reply_to}
use Rattle.npp_search.specs.Outcome.{IsReport}
use Rattle.npp_search.specs.Problem.{problem_of}
use Rattle.npp_search.proofs.OutcomeLaws.{reply_of_earns}
use Rattle.npp_check.specs.CutLines.{cuts_line}
use Rattle.npp_check.specs.EndLine.{end_line}
use Rattle.npp_check.specs.NodeLines.{root_place, tree_at}
use Rattle.npp_check.specs.PathLines.{path_lines}
use Rattle.npp_check.specs.Verdict.{IsVerdict}
use Rattle.npp_accept.specs.Accepted.{lines_of, IsOutcomeOfSearch}
use Rattle.npp_accept.proofs.GivesLemmas.{Gives}
use Rattle.npp_accept.proofs.TollLemmas.{gives_tolls}
use Rattle.npp_accept.proofs.ReplyFits.{fits_of}
use Rattle.npp_accept.proofs.PathLemmas.{gives_paths}
use Rattle.npp_accept.proofs.CoverLemmas.{gives_covers}
use Rattle.npp_accept.proofs.CutsLineLemmas.{cuts_says}
use Rattle.npp_accept.proofs.Distances.{some_measures}
use Rattle.npp_accept.proofs.Whole.{accepted}

module _ (width budget : ℕ) (net : Network) (covers : List CoverValue) (o : OutcomeValue) (s : IsOutcomeOfSearch width budget net covers o) where
  abbrev m : PathModel
  m = path_model net covers

  report : IsReport (problem_of (limit_of width) net covers) o
  report = s.grown.shows.report

  closed : AreClosedCovers net covers
  closed = are_closed net covers s.useful

  widest : IsWidth 128
  widest = inr (inr refl)

  wider : limit_of width ≤ limit_of 128
  wider = limit_at_most width s.a_width

  fits : reply_fits (limit_of width) m o.tolls ≡ true
  fits = fits_of (limit_of width) m o.tolls report.response report.earns.replied

  response_is : report.response ≡ reply m o.tolls
  response_is = reply_of_earns (problem_of (limit_of width) net covers) o.lower (record { tolls = o.tolls; reply = report.response }) report.earns

  paths_are : o.paths ≡ reply_lines m (reply m o.tolls)
  paths_are = report.lines ∙ ap (reply_lines m) response_is

  lower_is : (reply m o.tolls).revenue ≡ o.lower
  lower_is = sym (ap (λ (r : Reply). r.revenue) response_is) ∙ report.earns.revenue

  allowed : AreAllowed net o.tolls
  allowed = capped_allowed net covers o.tolls closed report.earns.size report.earns.capped

  -- the printed walks are the reply to the printed tolls
  pub replied : IsReplyTo net o.tolls o.paths o.lower
  replied =
      subst (λ (lines : List (PathLine Rational)). IsReplyTo net o.tolls lines o.lower) (sym paths_are)
      (subst (λ (lower : Rational). IsReplyTo net o.tolls (reply_lines m (reply m o.tolls)) lower) lower_is
      (is_reply_to net m o.tolls (is_model net covers closed) s.useful (has_useful_paths net covers closed) report.earns.size allowed))

  paths_read : Gives (path_lines (limit_of 128) net o.tolls) (numbered (λ k p. item.Path k p.cost p.paid p.arcs) 0 o.paths) o.paths
  paths_read =
      subst (λ (lines : List (PathLine Rational)). Gives (path_lines (limit_of 128) net o.tolls) (numbered (λ k p. item.Path k p.cost p.paid p.arcs) 0 lines) lines) (sym paths_are)
      (gives_paths width 128 widest wider net covers closed o.tolls fits)

  earns : cuts_line (limit_of 128) net m o.tolls o.paths o.lower (item.Cuts 0) ≡ Ok 0
  earns =
      subst (λ (lines : List (PathLine Rational)). cuts_line (limit_of 128) net m o.tolls lines o.lower (item.Cuts 0) ≡ Ok 0) (sym paths_are)
      (subst (λ (lower : Rational). cuts_line (limit_of 128) net m o.tolls (reply_lines m (reply m o.tolls)) lower (item.Cuts 0) ≡ Ok 0) lower_is
      (cuts_says width 128 widest wider net s.network covers closed s.few o.tolls fits))

  -- the tree of the outcome is read, and the head agrees with it
  pub record IsTreeRead : Type 0 where
    pub tree : Tree Node
    pub gives : Gives (tree_at (record { limit = limit_of 128; model = path_model net covers; cuts = [] }) (root_place (path_model net covers))) (flat_map entry_lines o.entries) tree
    pub ends : end_line (record { status = o.status; lower = o.lower; upper = o.upper; opened = o.opened }) (opened_in tree) (tree_bound tree) item.End ≡ Ok tt

  pub accepted_with : IsTreeRead → IsVerdict (limit_of 128) net (lines_of width net covers o) (Ok (record { lower = o.lower; upper = o.upper }))
  accepted_with read =
      let measures = some_measures net covers s.useful in (
        measures.0,
        measures.1,
        accepted (limit_of 128) width net measures.0 covers o read.tree (gives_tolls net o.tolls allowed) paths_read (gives_covers net measures.0 s.network measures.1 covers s.useful s.few) earns read.gives read.ends
            s.grown.shows.cuts,
      )
