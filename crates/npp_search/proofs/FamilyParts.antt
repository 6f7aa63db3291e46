-- The parts of the children of a node, and how little their paths can earn.
use Rattle.std.proofs.Common.{◌≡◌, ◌≢◌, ℕ, ◌+◌, ◌*◌, ◌<◌, ◌≤◌, Bool, false, not, nat_eq, List, [], ◌∷◌, ◌++◌, length, take, cond, sym, ◌∙◌, ap, arith, get_or, ◌-◌}
use Rattle.std.specs.Prelude.{◌||◌}
use Rattle.std.proofs.lemmas.Bool.{ne_eqb, eq-eqb}
use Rattle.std.proofs.Math.Nat.{mul-le-mul}
use Rattle.std.proofs.lemmas.List.{append-nil}
use Rattle.std.proofs.lemmas.List.FromFn.{length-range_with_len}
use Rattle.std.proofs.lemmas.List.Elements.{filter_more}
use Rattle.std.proofs.lemmas.List.Sums.{sum_by-le}
use Rattle.npp_rows.specs.PathModel.{PathModel, commodities, cover_at, demand_at}
use Rattle.npp_rows.specs.Parts.{part_at}
use Rattle.npp_rows.specs.Basic.{basic_of, least_cost}
use Rattle.npp_rows.specs.Limits.{IsWithinLimits}
use Rattle.npp_tree.specs.Family.{Family, rest_of}

-- ---- the paths other than one

module _ (path : ℕ) (xs : List ℕ) (i q : ℕ) (old new : List ℕ) (lt : i < length xs) (at : get_or xs i q ≡ q) (so_far : old ≡ rest_of (path ∷ []) (take i xs)) where
  abbrev is_kept : ℕ → Bool
  is_kept r = not (nat_eq r path || false)

  abbrev piece : ℕ → List ℕ
  piece r = cond (not (nat_eq r path || false)) (r ∷ []) []

  pub other_kept : q ≢ path → new ≡ old ++ q ∷ [] → new ≡ rest_of (path ∷ []) (take (i + 1) xs)
  other_kept apart is =
      let here : piece (get_or xs i q) ≡ q ∷ [] = ap piece at ∙ ap (λ b. cond (not (b || false)) (q ∷ []) []) (ne_eqb q path apart) in
      is ∙ (ap (λ (ys : List ℕ). ys ++ q ∷ []) so_far ∙ (ap (λ (ys : List ℕ). rest_of (path ∷ []) (take i xs) ++ ys) (sym here) ∙ sym (filter_more is_kept xs i q lt)))

  pub other_left : q ≡ path → new ≡ old → new ≡ rest_of (path ∷ []) (take (i + 1) xs)
  other_left same is =
      let here : piece (get_or xs i q) ≡ [] = ap piece at ∙ ap (λ b. cond (not (b || false)) (q ∷ []) []) (eq-eqb q path same) in
      is ∙ (so_far ∙ (sym (append-nil (rest_of (path ∷ []) (take i xs))) ∙ (ap (λ (ys : List ℕ). rest_of (path ∷ []) (take i xs) ++ ys) (sym here) ∙ sym (filter_more is_kept xs i q lt))))

-- ---- the basic bound is small

term_small : (m : PathModel) → IsWithinLimits m → (parts : Family) (k : ℕ) → demand_at m k * ((cover_at m k).free - least_cost m k (part_at parts k)) ≤ 1000000 * 1000000000
term_small m limits parts k =
    let gap : (cover_at m k).free - least_cost m k (part_at parts k) ≤ 1000000000 = (let small = limits.free k in omega (arith, small)) in
    mul-le-mul (limits.demand k) gap

pub basic_small : (m : PathModel) → IsWithinLimits m → (parts : Family) → basic_of m parts ≤ 100000000000000000
basic_small m limits parts =
    let most = sum_by-le (λ (k : ℕ). demand_at m k * ((cover_at m k).free - least_cost m k (part_at parts k))) (1000000 * 1000000000) (commodities m) (λ i d lt. term_small m limits parts (get_or (commodities m) i d)) in
    let few : length (commodities m) ≤ 100 = omega (arith, length-range_with_len 0 (length m.covers), limits.commodities) in
    omega (arith, most, few)
