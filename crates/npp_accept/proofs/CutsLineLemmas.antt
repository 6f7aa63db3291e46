-- The line of how many cuts follow is read: the printed walks are cheapest, and earn the lower value.
use Rattle.std.specs.Prelude.{◌≡◌, ℕ, zero, suc, ◌+◌, ◌<◌, ◌≤◌, pos, Bool, true, not, nat_lt, List, [], ◌∷◌, length, slice_index_or, Ok, Err, cond, refl}
use Rattle.std.specs.List.{range_with_len}
use Rattle.std.proofs.Common.{arith, ap, ap₂, sym, ◌∙◌, subst}
use Rattle.npp_frac.specs.Rational.{Rational, whole, is_less, ◌≤ℚ◌, ◌+ℚ◌, ◌*ℚ◌}
use Rattle.npp_frac.specs.Fits.{IsWidth, limit_of, fits_add}
use Rattle.npp_frac.specs.FitsLaws.{limit_at_least}
use Rattle.npp_frac.specs.Order.{is_less_of_≤ℚ}
use Rattle.npp_frac.specs.Sums.{sum_to}
use Rattle.npp_lp.specs.SumLaws.{joined_sum_fits, checked_sum_none, checked_sum_more}
use Rattle.npp_lp.specs.Sums.{joined_sum, checked_sum}
use Rattle.npp_net.specs.Network.{Network, IsNetwork, no_commodity}
use Rattle.npp_cover.specs.Replaces.{CoverValue}
use Rattle.npp_cover.proofs.TestLemmas.{test_of_less}
use Rattle.npp_rows.specs.Caps.{path_model}
use Rattle.npp_rows.specs.Limits.{path_total, IsWithinLimits}
use Rattle.npp_rows.specs.Lowering.{IsClosedCover, AreClosedCovers}
use Rattle.npp_rows.specs.PathModel.{PathModel, paths, path_count, path_cost}
use Rattle.npp_rows.specs.Response.{reply, path_price, path_fits, taken_path, taken_toll, demand, revenue_below, reply_fits}
use Rattle.npp_rows.proofs.ListLaws.{zip_size}
use Rattle.npp_rows.proofs.ModelLaws.{demand_is}
use Rattle.npp_inverse.proofs.CoverLaws.{has_useful_paths}
use Rattle.npp_inverse.proofs.BestReplies.{taken_inside, taken_cheapest}
use Rattle.npp_tree.specs.declared.outcome.PathLine.{PathLine}
use Rattle.npp_tree.specs.declared.item.Item.TheVariants as item
use Rattle.npp_start.specs.Walks.{reply_lines}
use Rattle.npp_check.specs.declared.refusal.Rule.TheVariants.{Cut, Lower, Overflow, Path}
use Rattle.npp_check.specs.CutLines.{cuts_line}
use Rattle.npp_check.specs.Prices.{printed_price, useful_price, none_cheaper, walks_are_cheapest, no_path_line, revenue_of, earns_lower}
use Rattle.npp_check.specs.Rules.{and_then, broken_if, same, whole_number, sum_of}
use Rattle.npp_check.proofs.CoverFacts.{are_within}
use Rattle.npp_accept.proofs.Passes.{same_self, passes, keeps, counted_passes}
use Rattle.npp_accept.proofs.ReplyFits.{price_fits, path_fits_wider, payment_fits, revenue_fits_wider, line_at, lines_size, line_is}

-- ---- prices

whole_formed : (limit n : ℕ) → n < limit → whole_number limit n ≡ Ok (whole (pos n))
whole_formed limit n lt = ap (λ (b : Bool). cond b (Ok (whole (pos n))) (Err Overflow)) (test_of_less n limit lt)

sum_formed : (limit : ℕ) (q r : Rational) → fits_add limit q r ≡ true → sum_of limit q r ≡ Ok (q +ℚ r)
sum_formed limit q r e = ap (λ (b : Bool). cond b (Ok (q +ℚ r)) (Err Overflow)) e

price_formed : (limit : ℕ) (p : PathLine Rational) → p.cost < limit → fits_add limit (whole (pos p.cost)) p.paid ≡ true → printed_price limit p ≡ Ok (whole (pos p.cost) +ℚ p.paid)
price_formed limit p lt e = ap (λ r. and_then r (λ cost. sum_of limit cost p.paid)) (whole_formed limit p.cost lt) ∙ sum_formed limit (whole (pos p.cost)) p.paid e

useful_formed : (limit : ℕ) (m : PathModel) (T : List Rational) (k q : ℕ) → path_fits limit m T k q ≡ true → useful_price limit m T k q ≡ Ok (path_price m T k q)
useful_formed limit m T k q e = ap (λ (b : Bool). cond b (Ok (path_price m T k q)) (Err Overflow)) e

-- paths none of which is cheaper
none_there : (limit : ℕ) (m : PathModel) (T : List Rational) (k : ℕ) (printed : Rational) (a n : ℕ) → ((q : ℕ) → a ≤ q → q < a + n → path_fits limit m T k q ≡ true)
    → ((q : ℕ) → a ≤ q → q < a + n → printed ≤ℚ path_price m T k q) → none_cheaper limit m T k printed (range_with_len a n) ≡ Ok tt
none_there limit m T k printed a zero fits least = refl
none_there limit m T k printed a (suc n) fits least =
    let rest : none_cheaper limit m T k printed (range_with_len (a + 1) n) ≡ Ok tt = none_there limit m T k printed (a + 1) n (λ q l u. fits q (omega arith) (omega arith)) (λ q l u. least q (omega arith) (omega arith)) in
    ap (λ r. and_then r (λ price. broken_if (is_less price printed) Path (none_cheaper limit m T k printed (range_with_len (a + 1) n)))) (useful_formed limit m T k a (fits a (omega arith) (omega arith)))
    ∙ passes (is_less (path_price m T k a) printed) Path (none_cheaper limit m T k printed (range_with_len (a + 1) n)) (is_less_of_≤ℚ (path_price m T k a) printed (least a (omega arith) (omega arith)))
    ∙ rest

-- what is printed of commodity k has a price, and no useful path of it is cheaper
record IsCheapestLine (limit : ℕ) (m : PathModel) (T : List Rational) (k : ℕ) (p : PathLine Rational) : Type 0 where
  price : Rational
  formed : printed_price limit p ≡ Ok price
  none : none_cheaper limit m T k price (paths m k) ≡ Ok tt

lines_cheapest : (limit : ℕ) (m : PathModel) (T : List Rational) (d : PathLine Rational) (k : ℕ) (lines : List (PathLine Rational)) → ((i : ℕ) → i < length lines → IsCheapestLine limit m T (k + i) (slice_index_or lines i d))
    → walks_are_cheapest limit m T k lines ≡ Ok tt
lines_cheapest limit m T d k [] each = refl
lines_cheapest limit m T d k (p ∷ lines) each =
    let here : k + 0 ≡ k = omega arith in
    let first : IsCheapestLine limit m T k p = subst (λ (n : ℕ). IsCheapestLine limit m T n p) here (each 0 (omega arith)) in
    let rest : walks_are_cheapest limit m T (k + 1) lines ≡ Ok tt =
    lines_cheapest limit m T d (k + 1) lines (λ i lt.
    let next : k + suc i ≡ k + 1 + i = omega arith in
    subst (λ (n : ℕ). IsCheapestLine limit m T n (slice_index_or lines i d)) next (each (suc i) (omega (arith, lt)))) in
    ap (λ r. and_then r (λ printed. and_then (none_cheaper limit m T k printed (paths m k)) (λ _. walks_are_cheapest limit m T (k + 1) lines))) first.formed
    ∙ ap (λ r. and_then r (λ _. walks_are_cheapest limit m T (k + 1) lines)) first.none
    ∙ rest

-- ---- the lines of a reply that fits a width, at a wider one

module _ (w v : ℕ) (width : IsWidth v) (le : limit_of w ≤ limit_of v) (net : Network) (limits : IsNetwork net) (covers : List CoverValue) (closed : AreClosedCovers net covers) (few : path_total covers ≤ 2000)
    (T : List Rational) (fits : reply_fits (limit_of w) (path_model net covers) T ≡ true) where
  abbrev m : PathModel
  m = path_model net covers

  line_cheapest : (k : ℕ) → k < length covers → IsCheapestLine (limit_of v) m T k (line_at m T k)
  line_cheapest k lt =
      let some : 0 < path_count (path_model net covers) k = (has_useful_paths net covers closed).some k lt in
      let inside : taken_path (path_model net covers) T k < path_count (path_model net covers) k = taken_inside m T k some in
      let within : IsWithinLimits (path_model net covers) = are_within net limits covers closed few in
      let cost : path_cost (path_model net covers) k (taken_path (path_model net covers) T k) < limit_of v =
      omega (arith, within.cost k (taken_path (path_model net covers) T k), within.free k, limit_at_least v width) in
      record {
        price = path_price m T k (taken_path m T k);
        formed = price_formed (limit_of v) (line_at m T k) cost (price_fits (limit_of w) (limit_of v) le m T fits k (taken_path m T k) lt inside);
        none = none_there (limit_of v) m T k (path_price m T k (taken_path m T k)) 0 (path_count m k)
            (λ q l u. path_fits_wider (limit_of w) (limit_of v) le m T fits k q lt (omega (arith, u))) (λ q l u. taken_cheapest m T k some q (omega (arith, u)));
      }

  walks_cheapest : walks_are_cheapest (limit_of v) m T 0 (reply_lines m (reply m T)) ≡ Ok tt
  walks_cheapest =
      lines_cheapest (limit_of v) m T no_path_line 0 (reply_lines m (reply m T)) (λ i lt.
      let within : i < length covers = omega (arith, lt, lines_size m T) in
      let e : i ≡ 0 + i = omega arith in
      subst (λ (n : ℕ). IsCheapestLine (limit_of v) m T n (slice_index_or (reply_lines m (reply m T)) i no_path_line)) e
      (subst (λ (x : PathLine Rational). IsCheapestLine (limit_of v) m T i x) (sym (line_is m T i no_path_line within)) (line_cheapest i within)))

  -- ---- the revenue

  abbrev demands : ℕ → ℕ
  demands k = (slice_index_or net.commodities k no_commodity).demand

  abbrev payments : ℕ → Rational
  payments k = (slice_index_or (reply_lines m (reply m T)) k no_path_line).paid

  size : length net.commodities ≡ length covers
  size = zip_size (IsClosedCover net.arcs) net.commodities covers closed

  revenue_more : (n : ℕ) → n < length covers → checked_sum (limit_of v) n (λ k. whole (pos (demands k))) payments ≡ Ok (revenue_below m T n)
      → checked_sum (limit_of v) (n + 1) (λ k. whole (pos (demands k))) payments ≡ Ok (revenue_below m T n +ℚ demand m n *ℚ taken_toll m T n)
  revenue_more n lt before =
      let wanted : whole (pos (demands n)) ≡ demand m n = ap (λ (d : ℕ). whole (pos d)) (sym (demand_is net covers n (omega (arith, lt, size)))) in
      let pays : payments n ≡ taken_toll m T n = ap (λ (p : PathLine Rational). p.paid) (line_is m T n no_path_line lt) in
      checked_sum_more (limit_of v) (λ k. whole (pos (demands k))) payments n (revenue_below m T n) (revenue_below m T n +ℚ demand m n *ℚ taken_toll m T n) before
      (ap₂ (joined_sum (limit_of v) (revenue_below m T n)) wanted pays
      ∙ joined_sum_fits (limit_of v) (revenue_below m T n) (demand m n) (taken_toll m T n) (payment_fits (limit_of w) (limit_of v) le m T fits n lt) (revenue_fits_wider (limit_of w) (limit_of v) le m T fits n lt))

  revenue_formed : (n : ℕ) → n ≤ length covers → checked_sum (limit_of v) n (λ k. whole (pos (demands k))) payments ≡ Ok (revenue_below m T n)
  unfolding sum_to
  revenue_formed zero within = checked_sum_none (limit_of v) (λ k. whole (pos (demands k))) payments
  revenue_formed (suc n) within =
      let e : n + 1 ≡ suc n = omega arith in
      subst (λ (i : ℕ). checked_sum (limit_of v) i (λ k. whole (pos (demands k))) payments ≡ Ok (revenue_below m T n +ℚ demand m n *ℚ taken_toll m T n)) e
      (revenue_more n (omega (arith, within)) (revenue_formed n (omega (arith, within))))

  revenue_is : revenue_of (limit_of v) net (reply_lines m (reply m T)) ≡ Ok (revenue_below m T (length covers))
  revenue_is =
      counted_passes (limit_of v) (length net.commodities) demands payments (revenue_below m T (length covers))
      (λ k l. omega (arith, (limits.each_commodity k no_commodity l).demand, limit_at_least v width))
      (subst (λ (n : ℕ). checked_sum (limit_of v) n (λ k. whole (pos (demands k))) payments ≡ Ok (revenue_below m T (length covers))) (sym size) (revenue_formed (length covers) (omega arith)))

  earns : earns_lower (limit_of v) net m T (reply_lines m (reply m T)) (revenue_below m T (length covers)) ≡ Ok tt
  earns =
      let lower : Rational = revenue_below m T (length covers) in
      ap (λ r. and_then r (λ _. and_then (revenue_of (limit_of v) net (reply_lines m (reply m T))) (λ revenue. broken_if (not (same revenue (revenue_below m T (length covers)))) Lower (Ok tt)))) walks_cheapest
      ∙ ap (λ r. and_then r (λ revenue. broken_if (not (same revenue (revenue_below m T (length covers)))) Lower (Ok tt))) revenue_is
      ∙ keeps (same (revenue_below m T (length covers)) (revenue_below m T (length covers))) Lower (Ok tt) (same_self (revenue_below m T (length covers)))

  -- no cuts follow
  pub cuts_says : cuts_line (limit_of v) net m T (reply_lines m (reply m T)) (reply m T).revenue (item.Cuts 0) ≡ Ok 0
  cuts_says = ap (λ r. and_then r (λ _. broken_if (nat_lt 1000 0) Cut (Ok 0))) earns
