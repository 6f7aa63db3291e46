-- The items of a certificate in the second form have lines.
use Rattle.std.proofs.Common.{◌≡◌, ◌<◌, ◌≤◌, ◌^◌, ◌+◌, arith, refl, filter, ℕ, zero, suc, List, [], ◌∷◌, ◌++◌, length, map, All, Option, Some, None}
use Rattle.std.specs.Prelude.{slice_index_or}
use Rattle.std.specs.List.{range_with_len}
use Rattle.std.proofs.lemmas.List.Elements.{All-nil, All-cons, All-head, All-tail, All-append, All-filter}
use Rattle.npp_frac.specs.Rational.{Rational}
use Rattle.npp_net.specs.declared.types.NetArc.{NetArc}
use Rattle.npp_net.specs.Network.{Network, IsNetwork, IsArc, no_arc, toll_count, ceiling_of}
use Rattle.npp_tree.specs.declared.item.Item.{Item}
use Rattle.npp_tree.specs.declared.item.Item.TheVariants as item
use Rattle.npp_tree.specs.Lines.{instance_lines}
use Rattle.npp_cert_text.specs.Form.{HasLine, IsCeiling}
use Rattle.npp_cert_text.proofs.ShortLines.{short_lines}
use Rattle.npp_upgrade.specs.Upgraded.{behind_opened, upgraded}

ceiling_small : (o : Option ℕ) → ((u : ℕ) → o ≡ Some u → u ≤ 1000000000) → IsCeiling o
ceiling_small None most = tt
ceiling_small (Some u) most = let small : u ≤ 1000000000 = most u refl in omega (arith, small)

ceiling_in : (nodes : ℕ) (arcs : List NetArc) (a : ℕ) → All (IsArc nodes) arcs → IsCeiling (slice_index_or arcs a no_arc).ceiling
ceiling_in nodes [] a all = tt
ceiling_in nodes (x ∷ arcs) zero all = ceiling_small x.ceiling (All-head (IsArc nodes) x arcs all).ceiling
ceiling_in nodes (x ∷ arcs) (suc a) all = ceiling_in nodes arcs a (All-tail (IsArc nodes) x arcs all)

module _ (net : Network) (limits : IsNetwork net) where
  pub limit_has_line : (a : ℕ) → a < 2 ^ 32 → HasLine (item.Limit a (ceiling_of net.arcs a))
  limit_has_line a small =
      short_lines (item.Limit a (ceiling_of net.arcs a))
      (small, ceiling_in net.nodes (filter (λ x. x.toll) net.arcs) a (All-filter (λ x. x.toll) (IsArc net.nodes) net.arcs limits.each_arc)) (omega arith)

  limits_have_lines : (n a : ℕ) → a + n < 2 ^ 32 → All HasLine (map (λ b. item.Limit b (ceiling_of net.arcs b)) (range_with_len a n))
  limits_have_lines zero a small = All-nil HasLine
  limits_have_lines (suc n) a small =
      All-cons HasLine (item.Limit a (ceiling_of net.arcs a)) (map (λ b. item.Limit b (ceiling_of net.arcs b)) (range_with_len (a + 1) n))
      (limit_has_line a (omega (arith, small))) (limits_have_lines n (a + 1) (omega (arith, small)))

  pub sizes_have_line : HasLine (item.InstanceIs net.nodes (length net.arcs) (toll_count net.arcs) (length net.commodities))
  sizes_have_line =
      short_lines (item.InstanceIs net.nodes (length net.arcs) (toll_count net.arcs) (length net.commodities))
      (omega (arith, limits.nodes), omega (arith, limits.arcs), omega (arith, limits.tolls), omega (arith, limits.commodities)) (omega arith)

  instance_has_lines : All HasLine (instance_lines net)
  instance_has_lines =
      All-cons HasLine (item.InstanceIs net.nodes (length net.arcs) (toll_count net.arcs) (length net.commodities)) (map (λ b. item.Limit b (ceiling_of net.arcs b)) (range_with_len 0 (toll_count net.arcs)))
      sizes_have_line (limits_have_lines (toll_count net.arcs) 0 (omega (arith, limits.tolls)))

  goes_behind : (more : List (Item Rational)) → All HasLine more → (items : List (Item Rational)) → All HasLine items → All HasLine (behind_opened more items)
  goes_behind more h [] all = all
  goes_behind more h (item.Opened n ∷ items) all =
      All-cons HasLine (item.Opened n) (more ++ items) (All-head HasLine (item.Opened n) items all) (All-append HasLine more items h (All-tail HasLine (item.Opened n) items all))
  goes_behind more h (other ∷ items) all =
      All-cons HasLine other (behind_opened more items) (All-head HasLine other items all) (goes_behind more h items (All-tail HasLine other items all))

  pub upgraded_has_lines : (items : List (Item Rational)) → All HasLine items → All HasLine (upgraded net items)
  upgraded_has_lines [] all = all
  upgraded_has_lines (item.Header ∷ items) all =
      All-cons HasLine item.HeaderTwo (behind_opened (instance_lines net) items) (short_lines item.HeaderTwo tt (omega arith))
      (goes_behind (instance_lines net) instance_has_lines items (All-tail HasLine item.Header items all))
  upgraded_has_lines (other ∷ items) all = all
