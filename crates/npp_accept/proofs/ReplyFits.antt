-- A reply that fits a width: each of its sums fits each wider one, and the lines that are printed of it.
use Rattle.std.specs.Prelude.{◌≡◌, ℕ, zero, suc, ◌+◌, ◌<◌, ◌≤◌, pos, Bool, true, false, cond, List, length, map, slice_index_or, Option, Some, None, refl}
use Rattle.std.specs.List.{list_all, range_with_len}
use Rattle.std.proofs.Common.{arith, ap, ap₂, sym, ◌∙◌, inl, inr, eq-or-lt_of_le}
use Rattle.std.proofs.lemmas.List.FromFn.{get_or-map-range_with_len, length-map-range_with_len}
use Rattle.std.proofs.lemmas.Bool.{and_from}
use Rattle.npp_frac.specs.Rational.{Rational, zero_ℚ, whole, ◌≤ℚ◌, ◌*ℚ◌}
use Rattle.npp_frac.specs.Fits.{fits_add, fits_mul}
use Rattle.npp_frac.specs.FitsLaws.{fits_add_wider, fits_mul_wider}
use Rattle.npp_cover.specs.Paths.{PathValue}
use Rattle.npp_cover.proofs.TestLemmas.{both}
use Rattle.npp_lp.specs.Programs.{at}
use Rattle.npp_lp.specs.VerdictLaws.{first_below_none}
use Rattle.npp_rows.specs.PathModel.{PathModel, paths, path_count, path_cost, path_tolls, useful_path}
use Rattle.npp_rows.specs.Response.{Reply, reply, path_toll, path_price, taken_path, taken_toll, demand, revenue_below, additions_fit, path_fits, revenue_fits, commodity_fits, reply_stop, is_whole_reply, reply_fits, fitting_reply}
use Rattle.npp_tree.specs.declared.outcome.PathLine.{PathLine}
use Rattle.npp_start.specs.Walks.{IsReply, taken_line, reply_lines}
use Rattle.npp_start.proofs.StartLaws.{whole_of}
use Rattle.npp_start.proofs.ReplyShape.{path_is, paid_is}
use Rattle.npp_accept.proofs.FittingSums.{additions_wider}

-- ---- the sums of a reply

pub fits_of : (limit : ℕ) (m : PathModel) (T : List Rational) (r : Reply) → fitting_reply limit m T ≡ Some r → reply_fits limit m T ≡ true
fits_of limit m T r e = by (reply_fits limit m T) e
  where
    by : (b : Bool) → cond b (Some (reply m T)) None ≡ Some r → b ≡ true
    by true e = refl
    by false e = absurd (let clash : None ≡ Some r = e in cc)

passed : (b : Bool) (k : ℕ) → cond b None (Some k) ≡ None → b ≡ true
passed true k e = refl
passed false k e = absurd (let clash : Some k ≡ None = e in cc)

all_in_range : (f : ℕ → Bool) (a n : ℕ) → list_all f (range_with_len a n) ≡ true → (q : ℕ) → a ≤ q → q < a + n → f q ≡ true
all_in_range f a zero e q l u = absurd (omega arith)
all_in_range f a (suc n) e q l u =
    let parts = both (f a) (list_all f (range_with_len (a + 1) n)) e in
    elim (eq-or-lt_of_le l) [
      | inl same ↦ ap f (sym same) ∙ parts.0
      | inr lt ↦ all_in_range f (a + 1) n parts.1 q (omega arith) (omega arith)
    ]

module _ (limit wide : ℕ) (le : limit ≤ wide) (m : PathModel) (T : List Rational) (fits : reply_fits limit m T ≡ true) where
  commodity_passes : (k : ℕ) → k < length m.covers → commodity_fits limit m T k ≡ true
  commodity_passes k lt = passed (commodity_fits limit m T k) k (first_below_none (λ j. cond (commodity_fits limit m T j) None (Some j)) (length m.covers) k (whole_of (reply_stop limit m T) fits) lt)

  path_passes : (k q : ℕ) → k < length m.covers → q < path_count m k → path_fits limit m T k q ≡ true
  path_passes k q lt inside =
      all_in_range (path_fits limit m T k) 0 (path_count m k) (both (list_all (path_fits limit m T k) (paths m k)) (revenue_fits limit m T k) (commodity_passes k lt)).0 q (omega arith) (omega (arith, inside))

  -- what a path pays, toll by toll
  pub tolls_fit : (k q : ℕ) → k < length m.covers → q < path_count m k → additions_fit wide zero_ℚ (map (at T) (path_tolls m k q)) ≡ true
  tolls_fit k q lt inside =
      additions_wider limit wide zero_ℚ (map (at T) (path_tolls m k q)) le
      (both (additions_fit limit zero_ℚ (map (at T) (path_tolls m k q))) (fits_add limit (whole (pos (path_cost m k q))) (path_toll m T k q)) (path_passes k q lt inside)).0

  -- its cost with them
  pub price_fits : (k q : ℕ) → k < length m.covers → q < path_count m k → fits_add wide (whole (pos (path_cost m k q))) (path_toll m T k q) ≡ true
  price_fits k q lt inside =
      sym (fits_add_wider limit wide (whole (pos (path_cost m k q))) (path_toll m T k q) le
      (sym (both (additions_fit limit zero_ℚ (map (at T) (path_tolls m k q))) (fits_add limit (whole (pos (path_cost m k q))) (path_toll m T k q)) (path_passes k q lt inside)).1))

  pub path_fits_wider : (k q : ℕ) → k < length m.covers → q < path_count m k → path_fits wide m T k q ≡ true
  path_fits_wider k q lt inside =
      and_from (additions_fit wide zero_ℚ (map (at T) (path_tolls m k q))) (fits_add wide (whole (pos (path_cost m k q))) (path_toll m T k q)) (tolls_fit k q lt inside) (price_fits k q lt inside)

  revenue_passes : (k : ℕ) → k < length m.covers → (fits_mul limit (demand m k) (taken_toll m T k) ≡ true) × (fits_add limit (revenue_below m T k) (demand m k *ℚ taken_toll m T k) ≡ true)
  revenue_passes k lt =
      both (fits_mul limit (demand m k) (taken_toll m T k)) (fits_add limit (revenue_below m T k) (demand m k *ℚ taken_toll m T k))
      (both (list_all (path_fits limit m T k) (paths m k)) (revenue_fits limit m T k) (commodity_passes k lt)).1

  -- what a commodity pays together, and with those before it
  pub payment_fits : (k : ℕ) → k < length m.covers → true ≡ fits_mul wide (demand m k) (taken_toll m T k)
  payment_fits k lt = fits_mul_wider limit wide (demand m k) (taken_toll m T k) le (sym (revenue_passes k lt).0)

  pub revenue_fits_wider : (k : ℕ) → k < length m.covers → true ≡ fits_add wide (revenue_below m T k) (demand m k *ℚ taken_toll m T k)
  revenue_fits_wider k lt = fits_add_wider limit wide (revenue_below m T k) (demand m k *ℚ taken_toll m T k) le (sym (revenue_passes k lt).1)

-- ---- the lines of a reply

-- the line of a path with what it pays
abbrev pub line_of : PathValue → Rational → PathLine Rational
line_of p paid = record { cost = p.cost; paid = paid; arcs = p.arcs }

-- what commodity k takes and pays
abbrev pub line_at : PathModel → List Rational → ℕ → PathLine Rational
line_at m T k = line_of (useful_path m k (taken_path m T k)) (taken_toll m T k)

module _ (m : PathModel) (T : List Rational) where
  abbrev is : IsReply m (reply m T)
  is = record { tolls = T; same = refl }

  pub lines_size : length (reply_lines m (reply m T)) ≡ length m.covers
  lines_size = length-map-range_with_len (taken_line m (reply m T)) 0 (length m.covers)

  pub line_is : (k : ℕ) (d : PathLine Rational) → k < length m.covers → slice_index_or (reply_lines m (reply m T)) k d ≡ line_at m T k
  line_is k d lt =
      get_or-map-range_with_len (taken_line m (reply m T)) 0 (length m.covers) k k d lt (omega arith)
      ∙ ap₂ line_of (ap (useful_path m k) (path_is m (reply m T) is k lt)) (paid_is m (reply m T) is k lt)
