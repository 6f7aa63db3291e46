-- In a closed cover each cheapest walk has a path that replaces it.
use Rattle.std.proofs.Common.{◌≡◌, ℕ, ◌+◌, ◌*◌, ◌<◌, ◌≤◌, true, List, [], ◌∷◌, length, Option, Some, None, MatchOption, sym, ap, subst, arith}
use Rattle.std.proofs.Math.Nat.{mul-le-mul_left}
use Rattle.std.proofs.lemmas.List.Sums.{sum_by-cons}
use Rattle.std.proofs.lemmas.Nat.Bits.{bit_at-zero, bit_at-lt}
use Rattle.std.specs.Int.{bit_at}
use Rattle.npp_net.specs.declared.types.ArcId.{ArcId}
use Rattle.npp_net.specs.declared.types.NetArc.{NetArc}
use Rattle.npp_net.specs.declared.types.Commodity.{Commodity}
use Rattle.npp_net.specs.declared.types.Span.{Span}
use Rattle.npp_net.specs.Network.{arc_at}
use Rattle.npp_net.specs.Walk.{IsWalk, walk_cost, walk_tolls}
use Rattle.npp_net.specs.Distance.{IsSpan, IsUsableWalk}
use Rattle.npp_net.specs.Toll.{TollVector, IsCheapest, toll_paid}
use Rattle.npp_cover.specs.declared.label.Label.{Label}
use Rattle.npp_cover.specs.Labels.{label_at, with_arc, start_label}
use Rattle.npp_cover.specs.Closed.{AreClosed, GoesBy}
use Rattle.npp_cover.specs.Paths.{PathValue, walk_of}
use Rattle.npp_cover.specs.Replaces.{Replaces}
use Rattle.npp_cover.proofs.SumLemmas.{walk_tolls-cons}
use Rattle.npp_cover.proofs.TreeLemmas.{label_walk, within_with}

-- a label at v that costs no more than a label and the rest of a walk, and has no toll besides theirs
pub record Reaches (arcs : List NetArc) (labels : List Label) (v : ℕ) (from : Label) (rest : List ArcId) (j : ℕ) : Type 0 where
  pub in_range : j < length labels
  pub there : (label_at labels j).node.0 ≡ v
  pub cheaper : (label_at labels j).cost ≤ from.cost + walk_cost arcs rest
  pub tolls : (b : ℕ) → bit_at (label_at labels j).tolls b ≤ bit_at from.tolls b + walk_tolls arcs rest b

pub one_or_none : (x y : ℕ) → x < 2 → (x ≡ 1 → y ≡ 1) → x ≤ y
one_or_none x y lt h = grind arith

pub walk_cost-cons : (arcs : List NetArc) (a : ArcId) (rest : List ArcId) → walk_cost arcs (a ∷ rest) ≡ (arc_at arcs a).cost + walk_cost arcs rest
walk_cost-cons arcs a rest = sum_by-cons (λ x. (arc_at arcs x).cost) a rest

pub all_usable : (arcs : List NetArc) (walk : List ArcId) → IsUsableWalk true arcs walk
all_usable arcs [] = tt
all_usable arcs (a ∷ rest) = (tt, all_usable arcs rest)

module _ (arcs : List NetArc) (k : Commodity) (span : Span) (labels : List Label) (closed : AreClosed arcs k span labels) where
  -- along the rest of a walk that stays below the toll-free cost
  reach : (rest : List ArcId) (i : ℕ) → i < length labels → IsWalk arcs (label_at labels i).node.0 k.destination.0 rest
      → (label_at labels i).cost + walk_cost arcs rest < span.free → (j : ℕ) × Reaches arcs labels k.destination.0 (label_at labels i) rest j
  reach [] i in_range path below =
      (i, record { in_range = in_range; there = path; cheaper = omega arith; tolls = λ b. omega arith })
  reach (a ∷ rest) i in_range path below =
      let here : Label = label_at labels i in
      let head : ℕ = (arc_at arcs a).head.0 in
      let cost = walk_cost-cons arcs a rest in
      let next = closed.closed i a in_range path.0 path.1 (rest, path.2, omega arith) in
      let after : Label = label_at labels next.0 in
      let path' : IsWalk arcs after.node.0 k.destination.0 rest = subst (λ (u : ℕ). IsWalk arcs u k.destination.0 rest) (sym next.1.there) path.2 in
      let more = reach rest next.0 next.1.in_range path' (omega (arith, next.1.dominates.cheaper)) in (
        more.0,
        record {
          in_range = more.1.in_range;
          there = more.1.there;
          cheaper = omega (arith, more.1.cheaper, next.1.dominates.cheaper);
          tolls = λ b. omega (
            arith,
            more.1.tolls b,
            walk_tolls-cons arcs a rest b,
            within_with arcs here.tolls a b,
            one_or_none (bit_at after.tolls b) (bit_at (with_arc arcs here.tolls a) b) (bit_at-lt after.tolls b) (next.1.dominates.within b),
          );
        },
      )

  not_from : (l from : Label) (o : Option ArcId) → MatchOption o (l ≡ start_label k.origin) (GoesBy arcs 0 l from) → l ≡ start_label k.origin
  not_from l from None start = start
  not_from l from (Some a) goes = absurd (omega (arith, goes.lower))

  first_is_start : 0 < length labels → label_at labels 0 ≡ start_label k.origin
  first_is_start some = not_from (label_at labels 0) (label_at labels (label_at labels 0).parent) (label_at labels 0).last (closed.each 0 some)

  -- label j at the destination costs no more than the walk, and its walk uses no toll more often
  pub record IsNoWorse (walk : List ArcId) (j : ℕ) : Type 0 where
    pub in_range : j < length labels
    pub there : (label_at labels j).node.0 ≡ k.destination.0
    pub cost : walk_cost arcs (walk_of labels j) ≤ walk_cost arcs walk
    pub tolls : (b : ℕ) → walk_tolls arcs (walk_of labels j) b ≤ walk_tolls arcs walk b

  pub no_worse : (walk : List ArcId) → IsSpan arcs k span → IsWalk arcs k.origin.0 k.destination.0 walk → walk_cost arcs walk < span.free
      → (j : ℕ) × IsNoWorse walk j
  no_worse walk is_span path below =
      let least = is_span.zero_least.least walk (record { path = path; usable = all_usable arcs walk }) in
      let some : 0 < length labels = closed.start (omega arith) in
      let first = first_is_start some in
      let cost : (label_at labels 0).cost ≡ 0 = ap (λ (l : Label). l.cost) first in
      let path' : IsWalk arcs (label_at labels 0).node.0 k.destination.0 walk = subst (λ (l : Label). IsWalk arcs l.node.0 k.destination.0 walk) (sym first) path in
      let found = reach walk 0 some path' (omega arith) in
      let w = label_walk arcs k.origin labels closed.each found.0 found.1.in_range in (
        found.0,
        record {
          in_range = found.1.in_range;
          there = found.1.there;
          cost = omega (arith, found.1.cheaper, w.costs);
          tolls = λ b. omega (arith, found.1.tolls b, w.tolls b, ap (λ (l : Label). bit_at l.tolls b) first, bit_at-zero b);
        },
      )

-- prices that are least, from costs and tolls that are no more
equal_parts : (d c c' p p' : ℕ) → d * c ≤ d * c' → p ≤ p' → d * c' + p' ≤ d * c + p → p ≡ p'
equal_parts d c c' p p' le le' least = omega arith

-- a walk that costs no more than a cheapest walk and pays no more is cheapest too, and pays the same
pub as_cheap : (arcs : List NetArc) (k : Commodity) (t : TollVector) (walk : List ArcId) (p : PathValue) → IsCheapest arcs t k.origin.0 k.destination.0 walk
    → IsWalk arcs k.origin.0 k.destination.0 p.arcs → walk_cost arcs p.arcs ≤ walk_cost arcs walk → toll_paid arcs t p.arcs ≤ toll_paid arcs t walk
    → Replaces arcs k t walk p
as_cheap arcs k t walk p cheapest path cost toll =
    let costs = mul-le-mul_left t.denominator cost in
    let least = cheapest.least p.arcs path in
    record {
      cheapest = record { leads = path; least = λ other path'. omega (arith, cheapest.least other path') };
      pays = equal_parts t.denominator (walk_cost arcs p.arcs) (walk_cost arcs walk) (toll_paid arcs t p.arcs) (toll_paid arcs t walk) costs toll least;
    }
