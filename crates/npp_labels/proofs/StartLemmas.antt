-- What is known when the start is taken.
use Rattle.std.proofs.Common.{◌≡◌, ℕ, ◌+◌, ◌<◌, ◌≤◌, Bool, true, cond, List, [], ◌∷◌, length, Option, Some, None, refl, sym, ◌∙◌, ap, subst, arith}
use Rattle.std.proofs.lemmas.Nat.Bits.{bit_at-zero}
use Rattle.std.specs.Int.{bit_at}
use Rattle.npp_cover.specs.declared.fault.CoverFault.TheVariants.{Useless}
use Rattle.npp_net.specs.declared.types.Commodity.{Commodity}
use Rattle.npp_net.specs.Network.{Network, IsNetwork, IsCommodity}
use Rattle.npp_net.specs.Distance.{IsDistance}
use Rattle.npp_net.specs.TollSets.{IsWithin}
use Rattle.npp_cover.specs.declared.label.Label.{Label}
use Rattle.npp_cover.specs.Labels.{label_at, start_label}
use Rattle.npp_cover.specs.Useful.{CanWin, IsUsefulLabel}
use Rattle.npp_cover.specs.Fault.{can_win}
use Rattle.npp_cover.proofs.FaultLemmas.{faultless_first, wins_by}
use Rattle.npp_labels.specs.declared.pending.Pending.{Pending}
use Rattle.npp_cover.specs.Needed.{NeededValue}
use Rattle.npp_labels.specs.Search.{Advances, AreWaiting, ways_of}
use Rattle.npp_labels.proofs.WaitLemmas.{waiting_one_more}
use Rattle.npp_labels.proofs.SizeLemmas.{size_le, size_same}
use Rattle.npp_labels.proofs.Searching.{IsSearching}

module _ (net : Network) (limits : IsNetwork net) (k : Commodity) (ends : IsCommodity net.nodes k) (free : ℕ) (onward : ℕ → Option ℕ)
    (distances : (v : ℕ) → v < net.nodes → IsDistance net.arcs true v k.destination.0 (onward v)) where
  nothing_within : (s : ℕ) → IsWithin s 0 → s ≡ 0
  nothing_within s h = size_same s 0 h (size_le 0 s (λ b has. absurd (omega (arith, has, bit_at-zero b))))

  none_or_some : (bit : ℕ) → bit ≡ 0 → ((bit ≡ 1) → 1 ≤ 0) × ((1 ≤ 0) → bit ≡ 1)
  none_or_some bit e = ((λ one. absurd (omega arith)), (λ le. absurd (omega arith)))

  first_only : (i : ℕ) → i < 1 → i ≡ 0
  first_only i lt = omega arith

  start_useful : CanWin net.arcs k free k.origin.0 0 → IsUsefulLabel net.arcs k free k.origin.0 0 0
  start_useful wins = record {
    pair = ([], record { leads = refl; uses = λ a. none_or_some (bit_at 0 a) (bit_at-zero a); costs = refl; wins = wins });
    minimal = λ s c pair up. (nothing_within s up.within, omega (arith, up.cheaper));
  }

  pub searching_start : (needed : NeededValue) (pending : List Pending) → can_win onward free k.origin.0 0 ≡ true
      → Advances net.arcs onward free needed (start_label k.origin ∷ []) 0 (length (ways_of needed (start_label k.origin ∷ []) 0)) [] pending
      → IsSearching net k free onward needed (start_label k.origin ∷ []) pending
  searching_start needed pending can_start adv =
      let start : List Label = start_label k.origin ∷ [] in
      let wins = wins_by net.arcs k free k.origin.0 0 (onward k.origin.0) (distances k.origin.0 ends.origin) can_start in
      record {
        good = faultless_first net limits k free onward distances ends.origin (ap (λ (b : Bool). cond b None (Some (Useless 0))) can_start);
        some = omega arith;
        few = omega arith;
        useful = record {
          each = λ i lt. subst (λ (j : ℕ). IsUsefulLabel net.arcs k free (label_at start j).node.0 (label_at start j).tolls (label_at start j).cost) (sym (first_only i lt)) (start_useful wins);
          once = λ i j li lj same. first_only i li ∙ sym (first_only j lj);
        };
        waiting = subst (λ (n : ℕ). AreWaiting net.arcs onward free needed start n pending) (let e : 0 + 1 ≡ 1 = omega arith in e)
            (waiting_one_more net.arcs onward free needed start 0 [] pending
            (record { each = λ q h. absurd (omega (arith, h.1)); tried = λ i j lt within. absurd (omega arith) }) adv);
      }
