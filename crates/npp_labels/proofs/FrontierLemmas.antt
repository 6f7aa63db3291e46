-- Along a walk that can still win, either a label at its end dominates it, or a label waits that comes no later.
use Rattle.std.proofs.Common.{◌≡◌, inl, inr, ◌⊎◌, ℕ, ◌+◌, ◌<◌, ◌≤◌, true, List, [], ◌∷◌, ◌++◌, length, Option, Some, sym, ◌∙◌, ap, subst, arith, Contains}
use Rattle.std.proofs.lemmas.Nat.Bits.{bit_at-zero, bit_at-lt}
use Rattle.std.proofs.lemmas.List.Sums.{sum_by-append}
use Rattle.std.specs.Int.{bit_at}
use Rattle.npp_net.specs.declared.types.ArcId.{ArcId}
use Rattle.npp_net.specs.declared.types.NetArc.{NetArc}
use Rattle.npp_net.specs.declared.types.Commodity.{Commodity}
use Rattle.npp_net.specs.Network.{arc_at}
use Rattle.npp_net.specs.Walk.{IsWalk, walk_cost, walk_tolls}
use Rattle.npp_net.specs.Distance.{IsLeast, IsDistance}
use Rattle.npp_net.specs.TollSets.{IsWithin, size_of}
use Rattle.npp_cover.specs.declared.label.Label.{Label}
use Rattle.npp_cover.specs.Labels.{label_at, with_arc, start_label}
use Rattle.npp_cover.specs.Useful.{CanWin, IsPairAt}
use Rattle.npp_cover.specs.Closed.{IsDominated}
use Rattle.npp_cover.proofs.SumLemmas.{walk_tolls-cons}
use Rattle.npp_cover.proofs.TreeLemmas.{within_with}
use Rattle.npp_cover.proofs.ReplaceLemmas.{Reaches, one_or_none, walk_cost-cons, all_usable}
use Rattle.npp_labels.specs.declared.pending.Pending.{Pending}

-- one waits with no greater bound, or with as great a one and no more tolls
pub record IsNoLaterThan (p : Pending) (b s : ℕ) : Type 0 where
  pub bound : p.bound ≤ b
  pub size : p.bound ≡ b → p.size ≤ s

abbrev pub IsBehind : List Pending → ℕ → ℕ → Type 0
IsBehind pending bound size = (w : Pending) × Contains pending w × IsNoLaterThan w bound size

-- each extension that can win is dominated, or one waits that comes no later
abbrev pub IsFrontier : List NetArc → Commodity → ℕ → (ℕ → Option ℕ) → List Label → List Pending → Type 0
IsFrontier arcs k free onward labels pending = (i : ℕ) (a : ArcId) → i < length labels → a.0 < length arcs → (arc_at arcs a).tail.0 ≡ (label_at labels i).node.0
    → CanWin arcs k free (arc_at arcs a).head.0 ((label_at labels i).cost + (arc_at arcs a).cost)
    → IsDominated labels (arc_at arcs a).head.0 (with_arc arcs (label_at labels i).tolls a) ((label_at labels i).cost + (arc_at arcs a).cost)
    ⊎ ((more : ℕ) × (onward (arc_at arcs a).head.0 ≡ Some more)
    × IsBehind pending ((label_at labels i).cost + (arc_at arcs a).cost + more) (size_of (with_arc arcs (label_at labels i).tolls a)))

-- a set and a bound that one which waits comes no later than: with the rest of a walk from a label on, the bound is no more, and
-- the set has no toll besides theirs
pub record IsAhead (arcs : List NetArc) (pending : List Pending) (from : Label) (rest : List ArcId) (onward bound set : ℕ) : Type 0 where
  pub waits : IsBehind pending bound (size_of set)
  pub most : bound ≤ from.cost + walk_cost arcs rest + onward
  pub tolls : (b : ℕ) → bit_at set b ≤ bit_at from.tolls b + walk_tolls arcs rest b

pub walk_append : (arcs : List NetArc) (u v w : ℕ) (walk rest : List ArcId) → IsWalk arcs u v walk → IsWalk arcs v w rest → IsWalk arcs u w (walk ++ rest)
walk_append arcs u v w [] rest path more = subst (λ (x : ℕ). IsWalk arcs x w rest) (sym path) more
walk_append arcs u v w (a ∷ walk) rest path more = (path.0, path.1, walk_append arcs (arc_at arcs a).head.0 v w walk rest path.2 more)

pub cost_append : (arcs : List NetArc) (walk rest : List ArcId) → walk_cost arcs (walk ++ rest) ≡ walk_cost arcs walk + walk_cost arcs rest
cost_append arcs walk rest = sum_by-append (λ x. (arc_at arcs x).cost) walk rest

-- the least cost onward is no more than that of a walk and then of the least one
least_by : (arcs : List NetArc) (k : Commodity) (u v more onward : ℕ) (walk : List ArcId) → IsWalk arcs u v walk → IsLeast arcs true v k.destination.0 onward
    → IsLeast arcs true u k.destination.0 more → more ≤ walk_cost arcs walk + onward
least_by arcs k u v more onward walk path there here =
    let w = there.attained in
    let least = here.least (walk ++ w.0) (record { path = walk_append arcs u v k.destination.0 walk w.0 path w.1.path; usable = all_usable arcs (walk ++ w.0) }) in
    omega (arith, least, cost_append arcs walk w.0, w.2)

module _ (arcs : List NetArc) (nodes : ℕ) (heads : (a : ArcId) → a.0 < length arcs → (arc_at arcs a).head.0 < nodes) (k : Commodity) (free : ℕ) (onward : ℕ → Option ℕ)
    (distances : (v : ℕ) → v < nodes → IsDistance arcs true v k.destination.0 (onward v))
    (labels : List Label) (pending : List Pending) (frontier : IsFrontier arcs k free onward labels pending) where
  ahead_first : (i : ℕ) (a : ArcId) (rest : List ArcId) (v least more : ℕ) → a.0 < length arcs → IsWalk arcs (arc_at arcs a).head.0 v rest → IsLeast arcs true v k.destination.0 least
      → onward (arc_at arcs a).head.0 ≡ Some more → IsBehind pending ((label_at labels i).cost + (arc_at arcs a).cost + more) (size_of (with_arc arcs (label_at labels i).tolls a))
      → (bound : ℕ) × (set : ℕ) × IsAhead arcs pending (label_at labels i) (a ∷ rest) least bound set
  ahead_first i a rest v least more arc path there is w =
      let here : IsLeast arcs true (arc_at arcs a).head.0 k.destination.0 more =
      subst (λ (o : Option ℕ). IsDistance arcs true (arc_at arcs a).head.0 k.destination.0 o) is (distances (arc_at arcs a).head.0 (heads a arc)) in
      let le = least_by arcs k (arc_at arcs a).head.0 v more least rest path there here in (
        (label_at labels i).cost + (arc_at arcs a).cost + more,
        with_arc arcs (label_at labels i).tolls a,
        record {
          waits = w;
          most = omega (arith, le, walk_cost-cons arcs a rest);
          tolls = λ b. omega (arith, within_with arcs (label_at labels i).tolls a b, walk_tolls-cons arcs a rest b);
        },
      )

  -- along the rest of a walk from a label on
  meets : (rest : List ArcId) (i v least : ℕ) → i < length labels → IsWalk arcs (label_at labels i).node.0 v rest → IsLeast arcs true v k.destination.0 least
      → (label_at labels i).cost + walk_cost arcs rest + least < free
      → ((j : ℕ) × Reaches arcs labels v (label_at labels i) rest j) ⊎ ((bound : ℕ) × (set : ℕ) × IsAhead arcs pending (label_at labels i) rest least bound set)
  meets [] i v least in_range path there below =
      inl (i, record { in_range = in_range; there = path; cheaper = omega arith; tolls = λ b. omega arith })
  meets (a ∷ rest) i v least in_range path there below =
      let here : Label = label_at labels i in
      let w = there.attained in
      let cost = walk_cost-cons arcs a rest in
      let wins : CanWin arcs k free (arc_at arcs a).head.0 (here.cost + (arc_at arcs a).cost) =
      (rest ++ w.0, walk_append arcs (arc_at arcs a).head.0 v k.destination.0 rest w.0 path.2 w.1.path, omega (arith, cost_append arcs rest w.0, w.2)) in
      elim (frontier i a in_range path.0 path.1 wins) [
        | inr waits ↦ inr (ahead_first i a rest v least waits.0 path.0 path.2 there waits.1 waits.2)
        | inl next ↦
            let after : Label = label_at labels next.0 in
            let path' : IsWalk arcs after.node.0 v rest = subst (λ (u : ℕ). IsWalk arcs u v rest) (sym next.1.there) path.2 in
            let bits : (b : ℕ) → bit_at after.tolls b ≤ bit_at (with_arc arcs here.tolls a) b =
            λ b. one_or_none (bit_at after.tolls b) (bit_at (with_arc arcs here.tolls a) b) (bit_at-lt after.tolls b) (next.1.dominates.within b) in
            elim (meets rest next.0 v least next.1.in_range path' there (omega (arith, next.1.dominates.cheaper))) [
              | inl found ↦ inl (
                found.0,
                record {
                  in_range = found.1.in_range;
                  there = found.1.there;
                  cheaper = omega (arith, found.1.cheaper, next.1.dominates.cheaper);
                  tolls = λ b. omega (arith, found.1.tolls b, walk_tolls-cons arcs a rest b, within_with arcs here.tolls a b, bits b);
                },
              )
              | inr ahead ↦ inr (
                ahead.0,
                ahead.1,
                record {
                  waits = ahead.2.waits;
                  most = omega (arith, ahead.2.most, next.1.dominates.cheaper, walk_cost-cons arcs a rest);
                  tolls = λ b. omega (arith, ahead.2.tolls b, walk_tolls-cons arcs a rest b, within_with arcs here.tolls a b, bits b);
                },
              )
            ]
      ]

  -- a pair at v is dominated by a label there, or one waits that comes no later than some set within its own, at no greater bound
  pub record IsBefore (s m bound set : ℕ) : Type 0 where
    pub waits : IsBehind pending bound (size_of set)
    pub most : bound ≤ m
    pub within : IsWithin set s

  uses_one : (bit uses : ℕ) → bit ≡ 1 → bit ≤ uses → 1 ≤ uses
  uses_one bit uses one le = omega arith

  pub pair_meets : (v s c least : ℕ) → 0 < length labels → label_at labels 0 ≡ start_label k.origin → IsPairAt arcs k free v s c → IsLeast arcs true v k.destination.0 least
      → IsDominated labels v s c ⊎ ((bound : ℕ) × (set : ℕ) × IsBefore s (c + least) bound set)
  pair_meets v s c least some first pair there =
      let walk : List ArcId = pair.0 in
      let is = pair.1 in
      let path : IsWalk arcs (label_at labels 0).node.0 v walk = subst (λ (l : Label). IsWalk arcs l.node.0 v walk) (sym first) is.leads in
      let cost : (label_at labels 0).cost ≡ 0 = ap (λ (l : Label). l.cost) first in
      let zero_bits : (b : ℕ) → bit_at (label_at labels 0).tolls b ≡ 0 = λ b. ap (λ (l : Label). bit_at l.tolls b) first ∙ bit_at-zero b in
      let onward_least = there.least is.wins.0 (record { path = is.wins.1; usable = all_usable arcs is.wins.0 }) in
      elim (meets walk 0 v least some path there (omega (arith, is.wins.2, is.costs))) [
        | inl found ↦ inl (
          found.0,
          record {
            in_range = found.1.in_range;
            there = found.1.there;
            dominates = record {
              within = λ b has. (is.uses b).1 (uses_one (bit_at (label_at labels found.0).tolls b) (walk_tolls arcs walk b) has (omega (arith, found.1.tolls b, zero_bits b)));
              cheaper = omega (arith, found.1.cheaper, is.costs);
            };
          },
        )
        | inr ahead ↦ inr (
          ahead.0,
          ahead.1,
          record {
            waits = ahead.2.waits;
            most = omega (arith, ahead.2.most, is.costs, cost);
            within = λ b has. (is.uses b).1 (uses_one (bit_at ahead.1 b) (walk_tolls arcs walk b) has (omega (arith, ahead.2.tolls b, zero_bits b)));
          },
        )
      ]
