-- Tolls that are not negative have a common denominator.
use Rattle.std.specs.Prelude.{◌≡◌, ℕ, zero, suc, ◌*◌, ◌<◌, ◌≤◌, ℤ, pos, negsuc, List, [], ◌∷◌, length, map, slice_index, refl}
use Rattle.std.proofs.Common.{arith, ap, ◌∙◌}
use Rattle.std.proofs.Math.Nat.{mul-pos}
use borrow.Author.Differences.{up, down}
use Rattle.npp_frac.specs.Rational.{Rational, zero_ℚ, ◌≤ℚ◌, Is, Is-self, Is-whole, Is-ratio, Is-same, Is-equal, le-Is}
use Rattle.npp_net.specs.Toll.{TollVector}
use Rattle.npp_lp.specs.Programs.{at}
use Rattle.npp_rows.specs.TollVectors.{HasTolls}

-- the product of the denominators
common : List Rational → ℕ
common [] = 1
common (q ∷ qs) = q.den * common qs

-- each number over it
over_common : List Rational → List ℕ
over_common [] = []
over_common (q ∷ qs) = up q.num * common qs ∷ map (λ n. q.den * n) (over_common qs)

common_positive : (qs : List Rational) → 0 < common qs
unfolding common
common_positive [] = omega arith
common_positive (q ∷ qs) = mul-pos q.positive (common_positive qs)

map_size : (f : ℕ → ℕ) (ns : List ℕ) → length (map f ns) ≡ length ns
map_size f [] = refl
map_size f (n ∷ ns) = omega (arith, map_size f ns)

over_size : (qs : List Rational) → length (over_common qs) ≡ length qs
unfolding over_common
over_size [] = refl
over_size (q ∷ qs) = let size = map_size (λ n. q.den * n) (over_common qs) in omega (arith, size, over_size qs)

scaled_at : (d : ℕ) (ns : List ℕ) (i : ℕ) → slice_index (map (λ n. d * n) ns) i ≡ d * slice_index ns i
scaled_at d [] i = omega arith
scaled_at d (n ∷ ns) zero = refl
scaled_at d (n ∷ ns) (suc i) = scaled_at d ns i

-- both the number over it and the denominator are so often what they are in the fraction itself
record IsExpanded (n d up den : ℕ) : Type 0 where
  times : ℕ
  number : n ≡ up * times
  denominator : d ≡ den * times

swapped : (a b c : ℕ) → a * (b * c) ≡ b * (a * c)
swapped a b c = omega arith

expanded : (qs : List Rational) (i : ℕ) → i < length qs → IsExpanded (slice_index (over_common qs) i) (common qs) (up (at qs i).num) (at qs i).den
unfolding common over_common
expanded [] i lt = absurd (omega (arith, lt))
expanded (q ∷ qs) zero lt = record { times = common qs; number = refl; denominator = refl }
expanded (q ∷ qs) (suc i) lt =
    let rest = expanded qs i (omega (arith, lt)) in
    record {
      times = q.den * rest.times;
      number = scaled_at q.den (over_common qs) i ∙ ap (λ z. q.den * z) rest.number ∙ swapped q.den (up (at qs i).num) rest.times;
      denominator = ap (λ z. q.den * z) rest.denominator ∙ swapped q.den (at qs i).den rest.times;
    }

no_down : (z : ℤ) → down z ≤ up z → 0 ≡ down z
no_down (pos a) h = refl
no_down (negsuc a) h = absurd (omega (arith, h))

not_negative : (q : Rational) → zero_ℚ ≤ℚ q → 0 ≡ down q.num
not_negative q h = let cross = le-Is (Is-whole (pos 0)) (Is-self q) h in no_down q.num (omega (arith, cross))

expanded_is : (q : Rational) (n d : ℕ) → 0 < d → 0 ≡ down q.num → IsExpanded n d (up q.num) q.den → Is q n 0 d
expanded_is q n d positive none is =
    Is-equal (Is-self q) positive (omega (arith, ap (λ z. up q.num * z) is.denominator, ap (λ z. z * q.den) is.number, ap (λ z. z * d) none))

pub common_tolls : List Rational → TollVector
common_tolls qs = record { denominator = common qs; numerators = over_common qs }

pub has_common : (qs : List Rational) → ((a : ℕ) → a < length qs → zero_ℚ ≤ℚ at qs a) → HasTolls qs (common_tolls qs)
unfolding common_tolls
has_common qs least = record {
  positive = common_positive qs;
  size = over_size qs;
  each = λ a lt. Is-same (expanded_is (at qs a) (slice_index (over_common qs) a) (common qs) (common_positive qs) (not_negative (at qs a) (least a lt)) (expanded qs a lt))
      (Is-ratio (pos (slice_index (over_common qs) a)) (common qs) (common_positive qs)) (omega arith);
}
