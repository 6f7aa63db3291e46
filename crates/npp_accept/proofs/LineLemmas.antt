-- Each item of the certificate of a grown outcome has a line.
use Rattle.std.proofs.Common.{◌≡◌, ◌∙◌, ap, sym, subst, refl, inl, inr, ℕ, ◌+◌, ◌<◌, ◌≤◌, ◌^◌, Bool, true, false, cond, List, [], ◌∷◌, ◌++◌, length, map, get_or, filter, All, Contains, Option, Some, None, arith}
use Rattle.std.specs.Prelude.{IfSome, MatchOption}
use Rattle.std.specs.List.{AllZip, range_with_len, flat_map}
use Rattle.std.proofs.Math.ListN.{get_or-eq_default}
use Rattle.std.proofs.lemmas.Bool.{cases_lt}
use Rattle.std.proofs.lemmas.List.{length-map, get_or_default}
use Rattle.std.proofs.lemmas.List.Elements.{All-nil, All-cons, All-head, All-tail, All-append, All-map, All-filter, All-contains, Contains-push}
use Rattle.std.proofs.lemmas.List.FromFn.{length-range_with_len}
use Rattle.npp_frac.specs.Fits.{limit_of, IsWidth}
use Rattle.npp_frac.specs.Rational.{Rational}
use Rattle.npp_net.specs.declared.types.ArcId.{ArcId}
use Rattle.npp_net.specs.declared.types.NetArc.{NetArc}
use Rattle.npp_net.specs.declared.types.NodeId.{NodeId}
use Rattle.npp_net.specs.declared.types.Commodity.{Commodity}
use Rattle.npp_net.specs.declared.types.Span.{Span}
use Rattle.npp_net.specs.Network.{Network, IsNetwork, IsArc, IsCommodity, toll_count, ceiling_of, no_arc}
use Rattle.npp_net.specs.Walk.{RepeatsNoNode}
use Rattle.npp_net.specs.Toll.{TollVector}
use Rattle.npp_net.specs.Outcome.{AreCheapest}
use Rattle.npp_cover.specs.declared.label.Label.{Label}
use Rattle.npp_cover.specs.Closed.{AreClosed, GoesBy, IsStartOrGoes}
use Rattle.npp_cover.specs.Labels.{label_at, no_label, start_label}
use Rattle.npp_cover.specs.Paths.{PathValue, path_of, free_path}
use Rattle.npp_cover.specs.Replaces.{CoverValue}
use Rattle.npp_labels.specs.Covers.{IsUsefulCover, AreUsefulCovers}
use Rattle.npp_labels.proofs.UsefulLaws.{closed_covers}
use Rattle.npp_rows.specs.Caps.{path_model}
use Rattle.npp_rows.specs.Limits.{IsWithinLimits, path_total}
use Rattle.npp_rows.specs.Lowering.{AreClosedCovers}
use Rattle.npp_rows.specs.Parts.{chosen}
use Rattle.npp_rows.specs.PathModel.{PathModel, commodities}
use Rattle.npp_rows.specs.Response.{Reply}
use Rattle.npp_rows.proofs.LimitLaws.{limits_kept}
use Rattle.npp_rows.proofs.RelaxationLaws.{all_range}
use Rattle.npp_rows.proofs.WholeLaws.{covers_allowed}
use Rattle.npp_tree.specs.declared.item.Item.{Item}
use Rattle.npp_tree.specs.declared.item.Item.TheVariants as item
use Rattle.npp_tree.specs.declared.outcome.PathLine.{PathLine}
use Rattle.npp_tree.specs.Lines.{label_item, label_line, last_arcs, cover_lines, cover_list, instance_lines, report_lines, cut_lines, entry_lines, certificate_lines}
use Rattle.npp_tree.specs.Lines as written
use Rattle.npp_tree.specs.Outcome.{OutcomeValue}
use Rattle.npp_tree.specs.Tree.{Entry, preorder}
use Rattle.npp_start.specs.Walks.{walks_of, reply_lines, taken_line, IsReplyTo}
use Rattle.npp_search.specs.Problem.{Problem, problem_of}
use Rattle.npp_search.specs.Outcome.{IsGrownOutcome, whole_task}
use Rattle.npp_cert_text.specs.Form.{HasLine, IsCeiling, IsFraction}
use Rattle.npp_cert_text.proofs.ShortLines.{short_lines}
use Rattle.npp_accept.specs.Numbers.{HasNumbers, HaveValues, multipliers_in}
use Rattle.npp_accept.proofs.ShortWalks.{IsWalkForm, walk_form}
use Rattle.npp_accept.proofs.EntryLines.{plain_line, one_line, nodes_have}

-- ---- numbered lines

numbered_have : {X : Type 0} (line : ℕ → X → Item Rational) (Q : X → Type 0) (top n : ℕ) (xs : List X) → ((k : ℕ) (x : X) → k < top → Q x → HasLine (line k x))
    → n + length xs ≤ top → All Q xs → All HasLine (written.numbered line n xs)
numbered_have line Q top n [] has fits all = All-nil HasLine
numbered_have line Q top n (x ∷ xs) has fits all =
    All-cons HasLine (line n x) (written.numbered line (n + 1) xs) (has n x (omega (arith, fits)) (All-head Q x xs all))
    (numbered_have line Q top (n + 1) xs has (omega (arith, fits)) (All-tail Q x xs all))

-- ---- covers

label_has : (o : Option ArcId) (parent : ℕ) → IfSome o (λ a. (parent < 65536) × (a.0 < 5000)) → HasLine (label_item o parent)
label_has None parent h = plain_line item.Start tt refl
label_has (Some a) parent h = plain_line (item.Step parent a) (omega (arith, h.0), omega (arith, h.1)) refl

goes_by : (arcs : List NetArc) (origin : NodeId) (i : ℕ) (l from : Label) → i < 65536 → length arcs ≤ 5000 → IsStartOrGoes arcs origin i l from
    → IfSome l.last (λ a. (l.parent < 65536) × (a.0 < 5000))
goes_by arcs origin i l from lt few is = by l.last is
  where
    by : (o : Option ArcId) → MatchOption o (l ≡ start_label origin) (GoesBy arcs i l from) → IfSome o (λ a. (l.parent < 65536) × (a.0 < 5000))
    by None h = tt
    by (Some a) h = (omega (arith, h.lower, lt), omega (arith, h.in_range, few))

labels_have : (arcs : List NetArc) (k : Commodity) (span : Span) (labels : List Label) → length arcs ≤ 5000 → AreClosed arcs k span labels → All HasLine (map label_line labels)
labels_have arcs k span labels few closed =
    All-map HasLine label_line labels (λ i d l.
    subst (λ (x : Label). HasLine (label_line x)) (get_or_default labels i no_label d l)
    (label_has (label_at labels i).last (label_at labels i).parent
    (goes_by arcs k.origin i (label_at labels i) (label_at labels (label_at labels i).parent) (omega (arith, l, closed.few)) few (closed.each i l))))

last_of_push : (paths : List PathValue) (p : PathValue) → last_arcs (paths ++ p ∷ []) ≡ p.arcs
last_of_push [] p = refl
last_of_push (q ∷ []) p = refl
last_of_push (q ∷ r ∷ paths) p = last_of_push (r ∷ paths) p

module _ (net : Network) (limits : IsNetwork net) where
  free_has : (k : Commodity) (c : CoverValue) → IsCommodity net.nodes k → IsUsefulCover net.arcs k c → HasLine (item.Free (last_arcs c.paths))
  free_has k c ends is =
      let made = is.cover.made in
      let front : List PathValue = map (path_of c.labels) made.2.0 in
      let last : PathValue = free_path is.span.free made.0 in
      let paths : c.paths ≡ front ++ last ∷ [] = made.2.2 in
      let simple : RepeatsNoNode net.arcs k.origin.0 made.0 =
      All-contains (λ (p : PathValue). RepeatsNoNode net.arcs k.origin.0 p.arcs) c.paths last is.simple.paths (subst (λ (ps : List PathValue). Contains ps last) (sym paths) (Contains-push front last)) in
      let walk : IsWalkForm made.0 = walk_form net limits k ends made.0 made.1.leads.path simple in
      subst (λ (w : List ArcId). HasLine (item.Free w)) (sym (ap last_arcs paths ∙ last_of_push front last))
      (short_lines (item.Free made.0) (walk.arcs, walk.some) walk.few)

  cover_has : (n : ℕ) (k : Commodity) (c : CoverValue) → n < 100 → IsCommodity net.nodes k → IsUsefulCover net.arcs k c → All HasLine (cover_lines n c)
  cover_has n k c lt ends is =
      All-cons HasLine (item.Cover n (length c.labels)) (map label_line c.labels ++ item.Free (last_arcs c.paths) ∷ [])
      (plain_line (item.Cover n (length c.labels)) (omega (arith, lt), omega (arith, is.cover.closed.few)) refl)
      (All-append HasLine (map label_line c.labels) (item.Free (last_arcs c.paths) ∷ []) (labels_have net.arcs k is.span c.labels limits.arcs is.cover.closed)
      (one_line (item.Free (last_arcs c.paths)) (free_has k c ends is)))

  covers_have : (n : ℕ) (ks : List Commodity) (covers : List CoverValue) → n + length ks ≤ 100 → All (IsCommodity net.nodes) ks → AreUsefulCovers net.arcs ks covers
      → All HasLine (cover_list n covers)
  covers_have n [] [] fits ends are = All-nil HasLine
  covers_have n [] (c ∷ covers) fits ends are = absurd are
  covers_have n (k ∷ ks) [] fits ends are = absurd are
  covers_have n (k ∷ ks) (c ∷ covers) fits ends are =
      All-append HasLine (cover_lines n c) (cover_list (n + 1) covers)
      (cover_has n k c (omega (arith, fits)) (All-head (IsCommodity net.nodes) k ks ends) are.0)
      (covers_have (n + 1) ks covers (omega (arith, fits)) (All-tail (IsCommodity net.nodes) k ks ends) are.1)

  -- ---- the instance

  arc_ceiling : (x : NetArc) → IsArc net.nodes x → IsCeiling x.ceiling
  arc_ceiling x is = by x.ceiling refl
    where
      by : (o : Option ℕ) → x.ceiling ≡ o → IsCeiling o
      by None e = tt
      by (Some u) e = omega (arith, is.ceiling u e)

  toll_ceiling : (a : ℕ) → IsCeiling (ceiling_of net.arcs a)
  toll_ceiling a =
      let tolls : List NetArc = filter (λ x. x.toll) net.arcs in
      elim (cases_lt a (length tolls)) [
        | inl l ↦ arc_ceiling (get_or tolls a no_arc) (All-filter (λ x. x.toll) (IsArc net.nodes) net.arcs limits.each_arc a no_arc l)
        | inr l ↦ subst (λ (x : NetArc). IsCeiling x.ceiling) (sym (get_or-eq_default tolls no_arc l)) tt
      ]

  instance_have : All HasLine (instance_lines net)
  instance_have =
      All-cons HasLine (item.InstanceIs net.nodes (length net.arcs) (toll_count net.arcs) (length net.commodities))
      (map (λ a. item.Limit a (ceiling_of net.arcs a)) (range_with_len 0 (toll_count net.arcs)))
      (plain_line (item.InstanceIs net.nodes (length net.arcs) (toll_count net.arcs) (length net.commodities))
      (omega (arith, limits.nodes), omega (arith, limits.arcs), omega (arith, limits.tolls), omega (arith, limits.commodities)) refl)
      (All-map HasLine (λ a. item.Limit a (ceiling_of net.arcs a)) (range_with_len 0 (toll_count net.arcs))
      (all_range (λ a. HasLine (item.Limit a (ceiling_of net.arcs a))) (toll_count net.arcs) (λ a l.
      plain_line (item.Limit a (ceiling_of net.arcs a)) (omega (arith, l, limits.tolls), toll_ceiling a) refl)))

  -- ---- the walks

  walks_form : (t : TollVector) (ks : List Commodity) (lines : List (PathLine Rational)) → All (IsCommodity net.nodes) ks → AreCheapest net.arcs t ks (walks_of lines)
      → AllZip (λ k walk. RepeatsNoNode net.arcs k.origin.0 walk) ks (walks_of lines) → All (λ (p : PathLine Rational). IsWalkForm p.arcs) lines
  walks_form t [] [] ends cheapest simple = All-nil (λ (p : PathLine Rational). IsWalkForm p.arcs)
  walks_form t [] (p ∷ lines) ends cheapest simple = absurd cheapest
  walks_form t (k ∷ ks) [] ends cheapest simple = absurd cheapest
  walks_form t (k ∷ ks) (p ∷ lines) ends cheapest simple =
      All-cons (λ (q : PathLine Rational). IsWalkForm q.arcs) p lines
      (walk_form net limits k (All-head (IsCommodity net.nodes) k ks ends) p.arcs cheapest.0.leads simple.0)
      (walks_form t ks lines (All-tail (IsCommodity net.nodes) k ks ends) cheapest.1 simple.1)

-- what a path line owes
pub record IsPathForm (p : PathLine Rational) : Type 0 where
  pub cost : p.cost < 2 ^ 64
  pub paid : IsFraction p.paid
  pub walk : IsWalkForm p.arcs

path_has : (k : ℕ) (p : PathLine Rational) → k < 100 → IsPathForm p → HasLine (item.Path k p.cost p.paid p.arcs)
path_has k p l is = short_lines (item.Path k p.cost p.paid p.arcs) (omega (arith, l), is.cost, is.paid, is.walk.arcs, is.walk.some) is.walk.few

costs_small : (m : PathModel) (r : Reply) → IsWithinLimits m → All (λ (p : PathLine Rational). p.cost < 2 ^ 64) (reply_lines m r)
costs_small m r limits =
    All-map (λ (p : PathLine Rational). p.cost < 2 ^ 64) (taken_line m r) (commodities m)
    (λ i d l. let k : ℕ = get_or (commodities m) i d in omega (arith, limits.cost k (chosen r.paths k), limits.free k))

-- ---- all lines

module _ (two : Bool) (width budget : ℕ) (net : Network) (covers : List CoverValue) (o : OutcomeValue)
    (is_width : IsWidth width) (network : IsNetwork net) (useful : AreUsefulCovers net.arcs net.commodities covers) (few : path_total covers ≤ 2000) (small : budget < 2 ^ 32)
    (is : IsGrownOutcome (problem_of (limit_of width) net covers) budget o) (reply : IsReplyTo net o.tolls o.paths o.lower) (numbers : HasNumbers o) where
  closed : AreClosedCovers net covers
  closed = closed_covers net covers useful

  limits : IsWithinLimits (path_model net covers)
  limits = limits_kept net covers network closed (omega (arith, few))

  head_has : (b : Bool) → HasLine (cond b item.HeaderTwo item.Header)
  head_has true = plain_line item.HeaderTwo tt refl
  head_has false = plain_line item.Header tt refl

  instance_if : (b : Bool) → All HasLine (cond b (instance_lines net) [])
  instance_if true = instance_have net network
  instance_if false = All-nil HasLine

  tolls_have : All HasLine (written.numbered (λ a v. item.Toll a v) 0 o.tolls)
  tolls_have =
      numbered_have (λ a v. item.Toll a v) IsFraction 128 0 o.tolls (λ k v l fits. plain_line (item.Toll k v) (omega (arith, l), fits) refl)
      (omega (arith, is.shows.report.earns.size, limits.tolls)) numbers.tolls

  paths_form : All IsPathForm o.paths
  paths_form k d l =
      let t : TollVector = reply.common.0 in
      let costs : All (λ (p : PathLine Rational). p.cost < 2 ^ 64) o.paths =
      subst (λ (lines : List (PathLine Rational)). All (λ (p : PathLine Rational). p.cost < 2 ^ 64) lines) (sym is.shows.report.lines) (costs_small (path_model net covers) is.shows.report.response limits) in
      let walks : All (λ (p : PathLine Rational). IsWalkForm p.arcs) o.paths =
      walks_form net network t net.commodities o.paths network.each_commodity (reply.over t reply.common.1).earned.outcome.cheapest reply.simple in
      record { cost = costs k d l; paid = numbers.paid k d l; walk = walks k d l }

  paths_few : length o.paths ≤ 100
  paths_few =
      omega (
        arith,
        ap length is.shows.report.lines,
        length-map (commodities (path_model net covers)) (taken_line (path_model net covers) is.shows.report.response),
        length-range_with_len 0 (length covers),
        limits.commodities,
      )

  paths_have : All HasLine (written.numbered (λ k p. item.Path k p.cost p.paid p.arcs) 0 o.paths)
  paths_have = numbered_have (λ k p. item.Path k p.cost p.paid p.arcs) IsPathForm 100 0 o.paths path_has (omega (arith, paths_few)) paths_form

  opened_small : o.opened < 2 ^ 32
  opened_small = omega (arith, is.shows.opened, is.grown.growing.within_budget, small)

  -- the six lines of the head, and those behind them
  head_have : (rest : List (Item Rational)) → All HasLine rest
      → All HasLine (cond two item.HeaderTwo item.Header ∷ item.StatusIs o.status ∷ item.Width width ∷ item.Lower o.lower ∷ item.Upper o.upper ∷ item.Opened o.opened ∷ rest)
  head_have rest all =
      All-cons HasLine (cond two item.HeaderTwo item.Header) (item.StatusIs o.status ∷ item.Width width ∷ item.Lower o.lower ∷ item.Upper o.upper ∷ item.Opened o.opened ∷ rest) (head_has two)
      (All-cons HasLine (item.StatusIs o.status) (item.Width width ∷ item.Lower o.lower ∷ item.Upper o.upper ∷ item.Opened o.opened ∷ rest) (plain_line (item.StatusIs o.status) tt refl)
      (All-cons HasLine (item.Width width) (item.Lower o.lower ∷ item.Upper o.upper ∷ item.Opened o.opened ∷ rest) (plain_line (item.Width width) is_width refl)
      (All-cons HasLine (item.Lower o.lower) (item.Upper o.upper ∷ item.Opened o.opened ∷ rest) (plain_line (item.Lower o.lower) numbers.lower refl)
      (All-cons HasLine (item.Upper o.upper) (item.Opened o.opened ∷ rest) (plain_line (item.Upper o.upper) numbers.upper refl)
      (All-cons HasLine (item.Opened o.opened) rest (plain_line (item.Opened o.opened) opened_small refl) all)))))

  report_have : All HasLine (report_lines two width net o)
  report_have =
      let tolls : List (Item Rational) = written.numbered (λ a v. item.Toll a v) 0 o.tolls in
      let paths : List (Item Rational) = written.numbered (λ k p. item.Path k p.cost p.paid p.arcs) 0 o.paths in
      head_have (cond two (instance_lines net) [] ++ tolls ++ paths)
      (All-append HasLine (cond two (instance_lines net) [] ++ tolls) paths (All-append HasLine (cond two (instance_lines net) []) tolls (instance_if two) tolls_have) paths_have)

  cuts_have : All HasLine (item.Cuts (length o.cuts) ∷ flat_map cut_lines o.cuts)
  cuts_have =
      subst (λ cuts. All HasLine (item.Cuts (length cuts) ∷ flat_map cut_lines cuts)) (sym is.shows.cuts) (one_line (item.Cuts 0) (plain_line (item.Cuts 0) (omega arith) refl))

  tree_have : All HasLine (flat_map entry_lines o.entries)
  tree_have =
      let P : Problem = problem_of (limit_of width) net covers in
      let values : All (λ (e : Entry). HaveValues (multipliers_in e.node.evidence)) (preorder is.growth.tree) =
      subst (λ (entries : List Entry). All (λ (e : Entry). HaveValues (multipliers_in e.node.evidence)) entries) is.shows.entries numbers.multipliers in
      subst (λ (entries : List Entry). All HasLine (flat_map entry_lines entries)) (sym is.shows.entries)
      (nodes_have P limits few (whole_task P budget) is.growth (covers_allowed net covers closed) is.grown.growing values)

  pub lines_have : All HasLine (certificate_lines two width net covers o)
  lines_have =
      let head : List (Item Rational) = report_lines two width net o ++ cover_list 0 covers in
      let cuts : List (Item Rational) = item.Cuts (length o.cuts) ∷ flat_map cut_lines o.cuts in
      let tree : List (Item Rational) = item.Tree ∷ flat_map entry_lines o.entries in
      All-append HasLine (head ++ cuts ++ tree) (item.End ∷ [])
      (All-append HasLine (head ++ cuts) tree
      (All-append HasLine head cuts
      (All-append HasLine (report_lines two width net o) (cover_list 0 covers) report_have
      (covers_have net network 0 net.commodities covers (omega (arith, network.commodities)) network.each_commodity useful))
      cuts_have)
      (All-cons HasLine item.Tree (flat_map entry_lines o.entries) (plain_line item.Tree tt refl) tree_have))
      (one_line item.End (plain_line item.End tt refl))
