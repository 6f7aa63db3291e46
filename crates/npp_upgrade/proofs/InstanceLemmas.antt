-- The lines that name an instance are read for that instance, and each of them has a text.
use Rattle.std.specs.Prelude.{◌≡◌, ℕ, zero, suc, ◌+◌, Bool, true, false, not, ◌==◌, ◌&&◌, List, [], ◌∷◌, ◌++◌, length, map, Option, Some, None, Result, Ok, refl}
use Rattle.std.specs.List.{range_with_len}
use Rattle.std.proofs.Common.{ap, ◌∙◌, eq-eqb, length-append}
use Rattle.npp_frac.specs.Rational.{Rational}
use Rattle.npp_net.specs.Network.{Network, toll_count, ceiling_of}
use Rattle.npp_tree.specs.declared.item.Item.{Item}
use Rattle.npp_tree.specs.declared.item.Item.TheVariants as item
use Rattle.npp_tree.specs.Lines.{instance_lines as instance_items}
use Rattle.npp_check.specs.declared.refusal.Rule.{Rule}
use Rattle.npp_check.specs.declared.refusal.Rule.TheVariants.{Order, Instance}
use Rattle.npp_check.specs.HeadLines.{instance_line, same_ceiling, limit_line, instance_lines}
use Rattle.npp_check.specs.Reads.{line, more, read_behind, at_line}
use Rattle.npp_check.specs.Rules.{broken_if}
use Rattle.npp_upgrade.proofs.ShiftedLemmas.{said}

keeps : {X : Type 0} (test : Bool) (rule : Rule) (r : Result X Rule) → test ≡ true → broken_if (not test) rule r ≡ r
keeps true rule r e = refl
keeps false rule r e = cc

four_pass : (a b c d : Bool) → a ≡ true → b ≡ true → c ≡ true → d ≡ true → (a && b && c && d) ≡ true
four_pass true true true true e f g h = refl
four_pass true true true false e f g h = h
four_pass true true false d e f g h = cc
four_pass true false c d e f g h = cc
four_pass false b c d e f g h = cc

same_ceiling_self : (u : Option ℕ) → same_ceiling u u ≡ true
same_ceiling_self None = refl
same_ceiling_self (Some u) = eq-eqb u u refl

sizes_say : (net : Network) → instance_line net (item.InstanceIs net.nodes (length net.arcs) (toll_count net.arcs) (length net.commodities)) ≡ Ok tt
sizes_say net =
    keeps ((net.nodes == net.nodes) && (length net.arcs == length net.arcs) && (toll_count net.arcs == toll_count net.arcs) && (length net.commodities == length net.commodities)) Instance (Ok tt)
    (four_pass (net.nodes == net.nodes) (length net.arcs == length net.arcs) (toll_count net.arcs == toll_count net.arcs) (length net.commodities == length net.commodities)
    (eq-eqb net.nodes net.nodes refl) (eq-eqb (length net.arcs) (length net.arcs) refl) (eq-eqb (toll_count net.arcs) (toll_count net.arcs) refl) (eq-eqb (length net.commodities) (length net.commodities) refl))

limit_says : (net : Network) (a : ℕ) → limit_line net a (item.Limit a (ceiling_of net.arcs a)) ≡ Ok (ceiling_of net.arcs a)
limit_says net a =
    let u : Option ℕ = ceiling_of net.arcs a in
    keeps (a == a) Order (broken_if (not (same_ceiling u u)) Instance (Ok u)) (eq-eqb a a refl)
    ∙ keeps (same_ceiling u u) Instance (Ok u) (same_ceiling_self u)

abbrev limit_items : Network → ℕ → ℕ → List (Item Rational)
limit_items net a n = map (λ b. item.Limit b (ceiling_of net.arcs b)) (range_with_len a n)

limits_are_read : (net : Network) (n : ℕ) (above : List (Option ℕ)) (a number : ℕ) (rest : List (Item Rational)) → length above ≡ a
    → (all : List (Option ℕ)) × (said (more (λ so_far. line (limit_line net (length so_far))) n above (record { number = number; items = limit_items net a n ++ rest })) ≡ Some (all, rest))
limits_are_read net zero above a number rest e = (above, refl)
limits_are_read net (suc n) above a number rest e =
    let u : Option ℕ = ceiling_of net.arcs a in
    let judged : limit_line net (length above) (item.Limit a u) ≡ Ok u = ap (λ (k : ℕ). limit_line net k (item.Limit a u)) e ∙ limit_says net a in
    let later = limits_are_read net n (above ++ u ∷ []) (a + 1) (number + 1) rest (length-append above (u ∷ []) ∙ ap (λ (k : ℕ). k + 1) e) in (
      later.0,
      ap (λ r. said (read_behind (at_line number r (record { number = number + 1; items = limit_items net (a + 1) n ++ rest })) (λ x. more (λ so_far. line (limit_line net (length so_far))) n (above ++ x ∷ [])))) judged
          ∙ later.1,
    )

-- they are read, and what stands behind them is left
pub instance_is_read : (net : Network) (number : ℕ) (rest : List (Item Rational))
    → (all : List (Option ℕ)) × (said (instance_lines net true (record { number = number; items = instance_items net ++ rest })) ≡ Some (all, rest))
instance_is_read net number rest =
    let later = limits_are_read net (toll_count net.arcs) [] 0 (number + 1) rest refl in (
      later.0,
      ap (λ r. said (read_behind (at_line number r (record { number = number + 1; items = limit_items net 0 (toll_count net.arcs) ++ rest })) (λ _. more (λ so_far. line (limit_line net (length so_far))) (toll_count net.arcs) []))) (sizes_say net)
          ∙ later.1,
    )
