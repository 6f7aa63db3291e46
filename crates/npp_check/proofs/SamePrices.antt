-- The judgement of the printed walks by names of paths is that by the lists of paths.
use Rattle.std.specs.Prelude.{◌≡◌, ℕ, zero, suc, ◌+◌, ◌<◌, pos, Bool, true, false, not, cond, ◌&&◌, ◌==◌, List, [], ◌∷◌, length, map, filter, slice_index_or, Result, Ok, Err, refl}
use Rattle.std.specs.Int.{bit_at}
use Rattle.std.specs.List.{range_with_len}
use Rattle.std.proofs.Common.{arith, ap, sym, ◌∙◌}
use Rattle.std.proofs.lemmas.List.FromFn.{length-map-range_with_len}
use Rattle.npp_frac.specs.Rational.{Rational, zero_ℚ, whole, is_less, ◌+ℚ◌}
use Rattle.npp_frac.specs.Fits.{fits_add}
use Rattle.npp_frac.specs.Ring.{+ℚ-zero, zero-+ℚ, +ℚ_assoc}
use Rattle.npp_frac.specs.Sums.{sum_by, sum_by-nil, sum_by-cons, sum_by-map}
use Rattle.npp_lp.specs.Programs.{at}
use Rattle.npp_net.specs.Network.{Network, toll_count}
use Rattle.npp_cover.specs.Paths.{PathValue}
use Rattle.npp_cover.specs.Replaces.{CoverValue, path_at}
use Rattle.npp_rows.specs.PathModel.{PathModel, cover_at, paths, useful_path, no_cover}
use Rattle.npp_rows.specs.Caps.{path_model, toll_cap}
use Rattle.npp_rows.specs.Response.{additions_fit}
use Rattle.npp_tree.specs.declared.outcome.PathLine.{PathLine}
use Rattle.npp_check.specs.declared.refusal.Rule.{Rule}
use Rattle.npp_check.specs.declared.refusal.Rule.TheVariants.{Overflow, Path, Lower}
use Rattle.npp_check.specs.Rules.{and_then, broken_if, same, sum_of}
use Rattle.npp_check.specs.Prices.{printed_price, useful_price, none_cheaper, walks_are_cheapest, revenue_of, earns_lower}
use Rattle.npp_check.specs.PathPrices.{sum_all, priced, none_below, walk_below, walks_below}

if_fits : Bool → Rational → Result Rational Rule
if_fits b q = cond b (Ok q) (Err Overflow)

-- a sum that is formed is the sum, where each addition fits
sum_all-is : (limit : ℕ) (sum : Rational) (xs : List Rational) → sum_all limit sum xs ≡ cond (additions_fit limit sum xs) (Ok (sum +ℚ sum_by (λ x. x) xs)) (Err Overflow)
sum_all-is limit sum [] = ap (λ z. Ok z) (sym (ap (λ z. sum +ℚ z) (sum_by-nil (λ (x : Rational). x)) ∙ +ℚ-zero sum))
sum_all-is limit sum (x ∷ xs) = by_test (fits_add limit sum x) (sum_all-is limit (sum +ℚ x) xs)
  where
    total : (sum +ℚ x) +ℚ sum_by (λ y. y) xs ≡ sum +ℚ sum_by (λ y. y) (x ∷ xs)
    total = +ℚ_assoc sum x (sum_by (λ y. y) xs) ∙ ap (λ z. sum +ℚ z) (sym (sum_by-cons (λ (y : Rational). y) x xs))

    by_test : (b : Bool) → sum_all limit (sum +ℚ x) xs ≡ cond (additions_fit limit (sum +ℚ x) xs) (Ok ((sum +ℚ x) +ℚ sum_by (λ y. y) xs)) (Err Overflow)
        → and_then (cond b (Ok (sum +ℚ x)) (Err Overflow)) (λ more. sum_all limit more xs) ≡ cond (b && additions_fit limit (sum +ℚ x) xs) (Ok (sum +ℚ sum_by (λ y. y) (x ∷ xs))) (Err Overflow)
    by_test true h = h ∙ ap (λ z. cond (additions_fit limit (sum +ℚ x) xs) (Ok z) (Err Overflow)) total
    by_test false h = refl

after_sum : (limit : ℕ) (a : Bool) (c s : Rational) → and_then (cond a (Ok s) (Err Overflow)) (λ t. sum_of limit c t) ≡ cond (a && fits_add limit c s) (Ok (c +ℚ s)) (Err Overflow)
after_sum limit true c s = refl
after_sum limit false c s = refl

module _ (limit : ℕ) (m : PathModel) (T : List Rational) (size : length T ≡ length m.caps) where
  useful_same : (k q : ℕ) → useful_price limit m T k q ≡ priced limit T (useful_path m k q)
  useful_same k q =
      let set : ℕ = (useful_path m k q).tolls in
      let all : List ℕ = filter (λ a. bit_at (useful_path m k q).tolls a == 1) (range_with_len 0 (length T)) in
      let sum : zero_ℚ +ℚ sum_by (λ x. x) (map (at T) all) ≡ sum_by (at T) all = zero-+ℚ (sum_by (λ (x : Rational). x) (map (at T) all)) ∙ sum_by-map (λ (x : Rational). x) (at T) all in
      sym (ap (λ r. and_then r (λ toll. sum_of limit (whole (pos (useful_path m k q).cost)) toll))
      (sum_all-is limit zero_ℚ (map (at T) all) ∙ ap (λ z. cond (additions_fit limit zero_ℚ (map (at T) all)) (Ok z) (Err Overflow)) sum)
      ∙ after_sum limit (additions_fit limit zero_ℚ (map (at T) all)) (whole (pos (useful_path m k q).cost)) (sum_by (at T) all)
      ∙ ap (λ n. cond (additions_fit limit zero_ℚ (map (at T) (filter (λ a. bit_at (useful_path m k q).tolls a == 1) (range_with_len 0 n)))
      && fits_add limit (whole (pos (useful_path m k q).cost)) (sum_by (at T) (filter (λ a. bit_at (useful_path m k q).tolls a == 1) (range_with_len 0 n))))
      (Ok (whole (pos (useful_path m k q).cost) +ℚ sum_by (at T) (filter (λ a. bit_at (useful_path m k q).tolls a == 1) (range_with_len 0 n)))) (Err Overflow)) size)

  none_same : (k : ℕ) (printed : Rational) (qs : List ℕ) → none_cheaper limit m T k printed qs ≡ none_below limit T printed (map (useful_path m k) qs)
  none_same k printed [] = refl
  none_same k printed (q ∷ qs) =
      ap (λ r. and_then r (λ price. broken_if (is_less price printed) Path (none_cheaper limit m T k printed qs))) (useful_same k q)
      ∙ ap (λ z. and_then (priced limit T (useful_path m k q)) (λ price. broken_if (is_less price printed) Path z)) (none_same k printed qs)

  map_shift : (f : ℕ → PathValue) (a n : ℕ) → map f (range_with_len (a + 1) n) ≡ map (λ k. f (suc k)) (range_with_len a n)
  map_shift f a zero = refl
  map_shift f a (suc n) = let e : a + 1 ≡ suc a = omega arith in λ j. f (e j) ∷ map_shift f (a + 1) n j

  all_paths : (ps : List PathValue) → map (path_at ps) (range_with_len 0 (length ps)) ≡ ps
  all_paths [] = refl
  all_paths (p ∷ ps) = ap (λ z. p ∷ z) (map_shift (path_at (p ∷ ps)) 0 (length ps) ∙ all_paths ps)

  walk_same : (k : ℕ) (line : PathLine Rational) → and_then (printed_price limit line) (λ printed. none_cheaper limit m T k printed (paths m k)) ≡ walk_below limit T (cover_at m k) line
  walk_same k line = by_price (printed_price limit line)
    where
      by_price : (r : Result Rational Rule) → and_then r (λ printed. none_cheaper limit m T k printed (paths m k)) ≡ and_then r (λ printed. none_below limit T printed (cover_at m k).paths)
      by_price (Ok printed) = none_same k printed (paths m k) ∙ ap (none_below limit T printed) (all_paths (cover_at m k).paths)
      by_price (Err rule) = refl

  regroup : (k : ℕ) (line : PathLine Rational) (next : Result (Unit {0}) Rule) (r : Result Rational Rule)
      → and_then r (λ printed. and_then (none_cheaper limit m T k printed (paths m k)) (λ _. next)) ≡ and_then (and_then r (λ printed. none_cheaper limit m T k printed (paths m k))) (λ _. next)
  regroup k line next (Ok printed) = refl
  regroup k line next (Err rule) = refl

  walks_from : (k : ℕ) (cs : List CoverValue) (lines : List (PathLine Rational)) → length cs ≡ length lines → ((i : ℕ) → i < length cs → cover_at m (k + i) ≡ slice_index_or cs i no_cover)
      → walks_are_cheapest limit m T k lines ≡ walks_below limit T cs lines
  walks_from k [] [] count each = refl
  walks_from k (c ∷ cs) [] count each = refl
  walks_from k [] (line ∷ lines) count each = absurd (omega (arith, count))
  walks_from k (c ∷ cs) (line ∷ lines) count each =
      let here : k ≡ k + 0 = omega arith in
      let first : cover_at m k ≡ c = ap (cover_at m) here ∙ each 0 (omega arith) in
      regroup k line (walks_are_cheapest limit m T (k + 1) lines) (printed_price limit line)
      ∙ ap (λ r. and_then r (λ _. walks_are_cheapest limit m T (k + 1) lines)) (walk_same k line ∙ ap (λ x. walk_below limit T x line) first)
      ∙ ap (λ z. and_then (walk_below limit T c line) (λ _. z))
      (walks_from (k + 1) cs lines (omega (arith, count)) (λ i lt. let next : k + 1 + i ≡ k + suc i = omega arith in ap (cover_at m) next ∙ each (suc i) (omega (arith, lt))))

-- of an instance with its covers
pub walks_same : (limit : ℕ) (net : Network) (covers : List CoverValue) (T : List Rational) (lines : List (PathLine Rational)) → length T ≡ toll_count net.arcs → length covers ≡ length lines
    → walks_are_cheapest limit (path_model net covers) T 0 lines ≡ walks_below limit T covers lines
walks_same limit net covers T lines size count =
    walks_from limit (path_model net covers) T (size ∙ sym (length-map-range_with_len (toll_cap net covers) 0 (toll_count net.arcs))) 0 covers lines count
    (λ i lt. let e : 0 + i ≡ i = omega arith in ap (λ k. slice_index_or covers k no_cover) e)

-- ---- the walks and what they earn

module _ (limit : ℕ) (net : Network) (covers : List CoverValue) (T : List Rational) (lines : List (PathLine Rational)) (lower : Rational) (size : length T ≡ toll_count net.arcs) (count : length covers ≡ length lines) where
  earns_as : earns_lower limit net (path_model net covers) T lines lower
      ≡ and_then (walks_below limit T covers lines) (λ _. and_then (revenue_of limit net lines) (λ revenue. broken_if (not (same revenue lower)) Lower (Ok tt)))
  earns_as = ap (λ r. and_then r (λ _. and_then (revenue_of limit net lines) (λ revenue. broken_if (not (same revenue lower)) Lower (Ok tt)))) (walks_same limit net covers T lines size count)

  pub dearer : (e : Rule) → Err e ≡ walks_below limit T covers lines → Err e ≡ earns_lower limit net (path_model net covers) T lines lower
  dearer e h = sym (earns_as ∙ ap (λ r. and_then r (λ _. and_then (revenue_of limit net lines) (λ revenue. broken_if (not (same revenue lower)) Lower (Ok tt)))) (sym h))

  cheapest : (u : Unit {0}) → Ok u ≡ walks_below limit T covers lines
      → earns_lower limit net (path_model net covers) T lines lower ≡ and_then (revenue_of limit net lines) (λ revenue. broken_if (not (same revenue lower)) Lower (Ok tt))
  cheapest u h = earns_as ∙ ap (λ r. and_then r (λ _. and_then (revenue_of limit net lines) (λ revenue. broken_if (not (same revenue lower)) Lower (Ok tt)))) (sym h)

  pub unsummed : (u : Unit {0}) (e : Rule) → Ok u ≡ walks_below limit T covers lines → Err e ≡ revenue_of limit net lines → Err e ≡ earns_lower limit net (path_model net covers) T lines lower
  unsummed u e h k = sym (cheapest u h ∙ ap (λ r. and_then r (λ revenue. broken_if (not (same revenue lower)) Lower (Ok tt))) (sym k))

  pub summed : (u : Unit {0}) (sum : Rational) (b : Bool) → Ok u ≡ walks_below limit T covers lines → Ok sum ≡ revenue_of limit net lines → b ≡ not (same sum lower)
      → broken_if b Lower (Ok tt) ≡ earns_lower limit net (path_model net covers) T lines lower
  summed u sum b h k test =
      ap (λ t. broken_if t Lower (Ok tt)) test
      ∙ sym (cheapest u h ∙ ap (λ r. and_then r (λ revenue. broken_if (not (same revenue lower)) Lower (Ok tt))) (sym k))
