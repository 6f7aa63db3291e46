-- The path lines are read.
use Rattle.std.specs.Prelude.{◌≡◌, ℕ, zero, suc, ◌<◌, ◌≤◌, pos, true, false, not, ◌==◌, List, [], length, Ok, refl}
use Rattle.std.specs.Int.{bit_at}
use Rattle.std.proofs.Common.{arith, ap, sym, ◌∙◌, subst, eq-eqb, eqb-true}
use Rattle.std.proofs.lemmas.Bool.{and_from}
use Rattle.npp_frac.specs.Rational.{Rational, whole}
use Rattle.npp_frac.specs.Fits.{IsWidth, limit_of}
use Rattle.npp_frac.specs.ZeroLaws.{wide_enough}
use Rattle.npp_lp.specs.Programs.{at}
use Rattle.npp_lp.specs.Sums.{checked_sum}
use Rattle.npp_net.specs.declared.types.NetArc.{NetArc}
use Rattle.npp_net.specs.declared.types.Commodity.{Commodity}
use Rattle.npp_net.specs.Network.{Network, toll_count, no_commodity}
use Rattle.npp_net.specs.Walk.{walk_cost, walk_tolls}
use Rattle.npp_cover.specs.Paths.{PathValue}
use Rattle.npp_cover.specs.Replaces.{CoverValue, IsPath, no_path}
use Rattle.npp_cover.specs.Useful.{commodity_at}
use Rattle.npp_rows.specs.Caps.{path_model}
use Rattle.npp_rows.specs.Lowering.{IsClosedCover, AreClosedCovers}
use Rattle.npp_rows.specs.PathModel.{PathModel, path_count, useful_path, uses, no_cover}
use Rattle.npp_rows.specs.Response.{reply, path_toll, taken_path, taken_toll, reply_fits}
use Rattle.npp_rows.proofs.ListLaws.{zip_size, zip_at}
use Rattle.npp_inverse.proofs.CoverLaws.{caps_size, has_useful_paths}
use Rattle.npp_inverse.proofs.BestReplies.{taken_inside}
use Rattle.npp_tree.specs.declared.outcome.PathLine.{PathLine}
use Rattle.npp_tree.specs.declared.item.Item.{Item}
use Rattle.npp_tree.specs.declared.item.Item.TheVariants as item
use Rattle.npp_tree.specs.Lines.{numbered}
use Rattle.npp_start.specs.Walks.{reply_lines}
use Rattle.npp_check.specs.declared.refusal.Rule.TheVariants.{Order, Path}
use Rattle.npp_check.specs.PathLines.{is_walk, is_walk_of, toll_of_walk, path_rules, path_line, path_lines}
use Rattle.npp_check.specs.Prices.{no_path_line}
use Rattle.npp_check.specs.Reads.{line, more}
use Rattle.npp_check.specs.Rules.{and_then, broken_if, same}
use Rattle.npp_check.proofs.WalkLemmas.{walk_passes}
use Rattle.npp_accept.proofs.FittingSums.{formed_with_counts}
use Rattle.npp_accept.proofs.GivesLemmas.{Gives, gives_each}
use Rattle.npp_accept.proofs.Passes.{keeps, same_self, numbered_so, counted_passes}
use Rattle.npp_accept.proofs.ReplyFits.{tolls_fit, line_at, lines_size, line_is}

-- a walk with its cost and what it pays
path_says : (limit : ℕ) (net : Network) (tolls : List Rational) (k : ℕ) (p : PathLine Rational) → is_walk_of net.arcs (commodity_at net k) p.cost p.arcs ≡ true
    → toll_of_walk limit net.arcs tolls p.arcs ≡ Ok p.paid → path_line limit net tolls k (item.Path k p.cost p.paid p.arcs) ≡ Ok p
path_says limit net tolls k p walk pays =
    numbered_so k Order (path_rules limit net tolls k p)
    ∙ keeps (is_walk_of net.arcs (commodity_at net k) p.cost p.arcs) Path (and_then (toll_of_walk limit net.arcs tolls p.arcs) (λ paid. broken_if (not (same paid p.paid)) Path (Ok p))) walk
    ∙ ap (λ r. and_then r (λ paid. broken_if (not (same paid p.paid)) Path (Ok p))) pays
    ∙ keeps (same p.paid p.paid) Path (Ok p) (same_self p.paid)

-- ---- how often a path uses a toll

module _ (arcs : List NetArc) (k : Commodity) (p : PathValue) (is : IsPath arcs k p) where
  used_once : (a : ℕ) → (bit_at p.tolls a == 1) ≡ true → walk_tolls arcs p.arcs a ≡ 1
  used_once a e = omega (arith, (is.uses a).0 (eqb-true (bit_at p.tolls a) 1 e), is.once a)

  not_used : (a : ℕ) → (bit_at p.tolls a == 1) ≡ false → walk_tolls arcs p.arcs a ≡ 0
  not_used a e = by_count (walk_tolls arcs p.arcs a) refl
    where
      by_count : (n : ℕ) → walk_tolls arcs p.arcs a ≡ n → n ≡ 0
      by_count zero same = refl
      by_count (suc n) same =
          let used : 1 ≤ walk_tolls arcs p.arcs a = omega (arith, same) in
          let test : (bit_at p.tolls a == 1) ≡ true = eq-eqb (bit_at p.tolls a) 1 ((is.uses a).1 used) in
          absurd (let clash : true ≡ false = sym test ∙ e in cc)

-- ---- the lines of a reply that fits a width, at a wider one

module _ (w v : ℕ) (width : IsWidth v) (le : limit_of w ≤ limit_of v) (net : Network) (covers : List CoverValue) (closed : AreClosedCovers net covers) (T : List Rational)
    (fits : reply_fits (limit_of w) (path_model net covers) T ≡ true) where
  abbrev m : PathModel
  m = path_model net covers

  module _ (k : ℕ) (lt : k < length covers) where
    abbrev q : ℕ
    q = taken_path m T k

    inside : q < path_count m k
    inside = taken_inside m T k ((has_useful_paths net covers closed).some k lt)

    a_path : IsPath net.arcs (commodity_at net k) (useful_path m k q)
    a_path = (zip_at (IsClosedCover net.arcs) net.commodities covers no_commodity no_cover k closed lt).2.each q no_path inside

    is_walk_there : is_walk_of net.arcs (commodity_at net k) (useful_path m k q).cost (useful_path m k q).arcs ≡ true
    is_walk_there =
        and_from (is_walk net.arcs (commodity_at net k).origin.0 (commodity_at net k).destination.0 (useful_path m k q).arcs) (walk_cost net.arcs (useful_path m k q).arcs == (useful_path m k q).cost)
        (walk_passes net.arcs (commodity_at net k).origin.0 (commodity_at net k).destination.0 (useful_path m k q).arcs a_path.leads)
        (eq-eqb (walk_cost net.arcs (useful_path m k q).arcs) (useful_path m k q).cost a_path.costs)

    pays_there : toll_of_walk (limit_of v) net.arcs T (useful_path m k q).arcs ≡ Ok (taken_toll m T k)
    pays_there =
        let uses_of : ℕ → ℕ = λ a. walk_tolls net.arcs (useful_path m k q).arcs a in
        let small : (a : ℕ) → a < toll_count net.arcs → uses_of a < limit_of v = λ a l. omega (arith, a_path.once a, wide_enough v width) in
        let sum : checked_sum (limit_of v) (length m.caps) (λ a. whole (pos (walk_tolls net.arcs (useful_path m k q).arcs a))) (at T) ≡ Ok (path_toll m T k q) =
        formed_with_counts v width (λ a. walk_tolls net.arcs (useful_path m k q).arcs a) (uses m k q) (at T)
        (used_once net.arcs (commodity_at net k) (useful_path m k q) a_path) (not_used net.arcs (commodity_at net k) (useful_path m k q) a_path) (length m.caps)
        (tolls_fit (limit_of w) (limit_of v) le m T fits k q lt inside) in
        counted_passes (limit_of v) (toll_count net.arcs) (λ a. walk_tolls net.arcs (useful_path m k q).arcs a) (at T) (path_toll m T k q) small
        (subst (λ (n : ℕ). checked_sum (limit_of v) n (λ a. whole (pos (walk_tolls net.arcs (useful_path m k q).arcs a))) (at T) ≡ Ok (path_toll m T k q)) (caps_size net covers closed) sum)

    line_says : path_line (limit_of v) net T k (item.Path k (line_at m T k).cost (line_at m T k).paid (line_at m T k).arcs) ≡ Ok (line_at m T k)
    line_says = path_says (limit_of v) net T k (line_at m T k) is_walk_there pays_there

  -- the walks of the reply
  pub gives_paths : Gives (path_lines (limit_of v) net T) (numbered (λ k p. item.Path k p.cost p.paid p.arcs) 0 (reply_lines m (reply m T))) (reply_lines m (reply m T))
  gives_paths =
      let lines : List (PathLine Rational) = reply_lines m (reply m T) in
      let make : ℕ → PathLine Rational → Item Rational = λ k p. item.Path k p.cost p.paid p.arcs in
      let size : length (reply_lines m (reply m T)) ≡ length net.commodities = lines_size m T ∙ sym (zip_size (IsClosedCover net.arcs) net.commodities covers closed) in
      subst (λ (n : ℕ). Gives (more (λ above. line (path_line (limit_of v) net T (length above))) n []) (numbered make 0 (reply_lines m (reply m T))) (reply_lines m (reply m T))) size
      (gives_each (path_line (limit_of v) net T) make no_path_line (reply_lines m (reply m T)) (λ i lt.
      let within : i < length covers = omega (arith, lt, lines_size m T) in
      subst (λ (x : PathLine Rational). path_line (limit_of v) net T i (make i x) ≡ Ok x) (sym (line_is m T i no_path_line within)) (line_says i within)))
