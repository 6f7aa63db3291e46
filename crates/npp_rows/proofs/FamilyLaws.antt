-- How many shares and tolls the commodities of an allowed family have.
use Rattle.std.proofs.Common.{◌≡◌, ℕ, zero, suc, ◌+◌, ◌*◌, ◌<◌, ◌≤◌, Bool, true, false, cond, List, [], ◌∷◌, length, map, filter, get_or, All, inl, inr, ap, ◌∙◌, arith}
use Rattle.std.specs.List.{AllPairs, list_any}
use Rattle.std.proofs.lemmas.List.FromFn.{length-range_with_len, length-map-range_with_len, get_or-map-range_with_len}
use Rattle.std.proofs.Math.ListN.{get_or-eq_default}
use Rattle.std.proofs.lemmas.Bool.{cases_lt}
use Rattle.std.proofs.lemmas.List.Kept.{AllPairs-filter}
use Rattle.std.specs.Prelude.{Contains}
use Rattle.std.proofs.lemmas.List.Elements.{All-filter}
use Rattle.npp_rows.proofs.ValueLaws.{range_rises}
use Rattle.npp_rows.proofs.RelaxationLaws.{all_range}
use Rattle.npp_cover.specs.Replaces.{CoverValue, sum_below}
use Rattle.npp_rows.specs.PathModel.{PathModel, no_cover, path_count, commodities, tolls, uses}
use Rattle.npp_rows.specs.Limits.{IsWithinLimits}
use Rattle.npp_rows.specs.Parts.{IsPart, IsAllowed, part_at}
use Rattle.npp_rows.specs.Relax.{allowed_tolls}
use Rattle.npp_rows.specs.Family.{share_count, paid_count}
use Rattle.npp_rows.proofs.StartLaws.{piece_within, sum_below_rises, sum_below_mono, sum_below_same, sum_by_places}

-- ---- numbers that rise

rising_short : (a n : ℕ) (xs : List ℕ) → a ≤ n → AllPairs (λ p q. p < q) xs → All (λ p. a ≤ p) xs → All (λ p. p < n) xs → length xs + a ≤ n
rising_short a n [] l rising low high = omega (arith, l)
rising_short a n (x ∷ xs) l rising low high =
    let first : x < n = high 0 x (omega arith) in
    let rest = rising_short (x + 1) n xs (omega arith) (λ i j d u w. rising (suc i) (suc j) d (omega (arith, u)) (omega (arith, w)))
    (λ k d i. let r : x < get_or xs k d = rising 0 (suc k) d (omega arith) (omega (arith, i)) in omega (arith, r)) (λ k d i. high (suc k) d (omega (arith, i))) in
    omega (arith, rest, low 0 x (omega arith))

-- a part has no more paths than there are
pub part_short : (n : ℕ) (part : List ℕ) → IsPart n part → length part ≤ n
part_short n part h = omega (arith, rising_short 0 n part (omega arith) h.rising (λ k d i. omega arith) h.in_range)

filter_short : (test : ℕ → Bool) (xs : List ℕ) → length (filter test xs) ≤ length xs
filter_short test [] = omega arith
filter_short test (x ∷ xs) = by (test x) (filter_short test xs)
  where
    by : (b : Bool) → length (filter test xs) ≤ length xs → length (cond b (x ∷ filter test xs) (filter test xs)) ≤ suc (length xs)
    by true h = omega (arith, h)
    by false h = omega (arith, h)

below_constant : (f : ℕ → ℕ) (top n : ℕ) → ((k : ℕ) → f k ≤ top) → sum_below f n ≤ n * top
below_constant f top zero h = omega arith
below_constant f top (suc n) h = omega (arith, below_constant f top n h, h n)

-- ---- of an allowed family

module _ (m : PathModel) (parts : List (List ℕ)) (limits : IsWithinLimits m) (allowed : IsAllowed m parts) where
  pub shares_within : (k : ℕ) → k ≤ length m.covers → sum_below (share_count parts) k ≤ 16777216
  shares_within k h =
      omega (
        arith,
        sum_below_mono (share_count parts) (path_count m) k (λ l u. part_short (path_count m l) (part_at parts l) (allowed.each l (omega (arith, allowed.size)))),
        sum_below_rises (path_count m) k (length m.covers) h,
        sum_by_places (λ (c : CoverValue). length c.paths) no_cover m.covers,
        limits.paths,
      )

  pub paid_short : (k : ℕ) → paid_count m parts k ≤ 128
  paid_short k = omega (arith, filter_short (λ a. list_any (λ p. uses m k p a) (part_at parts k)) (tolls m), length-range_with_len 0 (length m.caps), limits.tolls)

  pub paid_within : (k : ℕ) → k ≤ length m.covers → sum_below (paid_count m parts) k ≤ 12800
  paid_within k h = omega (arith, below_constant (paid_count m parts) 128 k paid_short, limits.commodities)

-- the tolls of a commodity in the lists of all
pub used_at : (m : PathModel) (parts lists : List (List ℕ)) (k : ℕ) → lists ≡ map (allowed_tolls m parts) (commodities m) → k < length m.covers → part_at lists k ≡ allowed_tolls m parts k
used_at m parts lists k e h = ap (λ (l : List (List ℕ)). get_or l k []) e ∙ get_or-map-range_with_len (allowed_tolls m parts) 0 (length m.covers) k k [] h (omega arith)

pub lists_size : (m : PathModel) (parts lists : List (List ℕ)) → lists ≡ map (allowed_tolls m parts) (commodities m) → length lists ≡ length m.covers
lists_size m parts lists e = ap length e ∙ length-map-range_with_len (allowed_tolls m parts) 0 (length m.covers)

pub paid_same : (m : PathModel) (parts lists : List (List ℕ)) (k : ℕ) → lists ≡ map (allowed_tolls m parts) (commodities m) → k ≤ length m.covers
    → sum_below (share_count lists) k ≡ sum_below (paid_count m parts) k
paid_same m parts lists k e h = sum_below_same (share_count lists) (paid_count m parts) k (λ l u. ap length (used_at m parts lists l e (omega arith)))

pub used_rises : (m : PathModel) (parts : List (List ℕ)) (k : ℕ) → AllPairs (λ a b. a < b) (allowed_tolls m parts k)
used_rises m parts k = AllPairs-filter (λ a b. a < b) (λ a. list_any (λ p. uses m k p a) (part_at parts k)) (tolls m) (range_rises 0 (length m.caps))

-- no commodity has more paths than all have
pub path_count_within : (m : PathModel) (k : ℕ) → IsWithinLimits m → path_count m k ≤ 16777216
path_count_within m k limits = elim (cases_lt k (length m.covers)) [
  | inl h ↦ omega (arith, piece_within (path_count m) k (length m.covers) h, sum_by_places (λ (c : CoverValue). length c.paths) no_cover m.covers, limits.paths)
  | inr h ↦ rw (get_or-eq_default m.covers no_cover h) (omega arith)
]

-- each of these tolls is a toll of the network
pub used_inside : (m : PathModel) (parts : List (List ℕ)) (k a : ℕ) → Contains (allowed_tolls m parts k) a → a < length m.caps
used_inside m parts k a (i, l, e) =
    let all = All-filter (λ b. list_any (λ p. uses m k p b) (part_at parts k)) (λ b. b < length m.caps) (tolls m) (all_range (λ b. b < length m.caps) (length m.caps) (λ b h. h)) in
    rw e at (all i a l)
