-- The first path of each commodity has the least cost of all, so zero tolls are a point of the program of the choice of zeros.
use Rattle.std.specs.Prelude.{◌≡◌, ℕ, ◌<◌, ◌≤◌, pos, ◌-ℤ◌, List, length, map, flat_map, slice_index_or, Some, All, Result, Ok, Err, IfOk}
use Rattle.std.proofs.Common.{arith, ◌∙◌}
use Rattle.std.proofs.lemmas.Int.{ints}
use Rattle.std.proofs.lemmas.List.{length-map}
use Rattle.std.proofs.lemmas.List.Elements.{All-append, All-map}
use Rattle.npp_frac.specs.Rational.{Rational, zero_ℚ, whole, ◌*ℚ◌, ◌≤ℚ◌}
use Rattle.npp_frac.specs.Ring.{*ℚ-zero}
use Rattle.npp_frac.specs.Order.{≤ℚ_refl, whole_mono}
use Rattle.npp_frac.specs.Sums.{sum_by-map}
use Rattle.npp_net.specs.Network.{Network, no_commodity}
use Rattle.npp_cover.specs.Replaces.{no_path}
use Rattle.npp_cover.proofs.CoverLaws.{first_is_least}
use Rattle.npp_lp.specs.Programs.{IsPoint, terms_at}
use Rattle.npp_lp.specs.Duals.{IsFarkasAnswer}
use Rattle.npp_lp.specs.DualLaws.{no_point_of_farkas}
use Rattle.npp_rows.specs.declared.names.RowName.{RowName}
use Rattle.npp_rows.specs.declared.names.RowName.TheVariants.{Cap, Follow}
use Rattle.npp_rows.specs.declared.names.ColumnName.{ColumnName}
use Rattle.npp_rows.specs.declared.names.ColumnName.TheVariants.{Toll}
use Rattle.npp_rows.specs.PathModel.{PathModel, no_cover, cover_at, tolls, commodities, paths, path_count, path_cost, cap_at}
use Rattle.npp_rows.specs.Parts.{chosen}
use Rattle.npp_rows.specs.Named.{numbered, vector, terms_from}
use Rattle.npp_rows.specs.Relax.{follow_rows}
use Rattle.npp_rows.specs.Rows.{IsChoice}
use Rattle.npp_rows.specs.Inverse.{inverse, choice_rows, choice_entry, choice_right}
use Rattle.npp_rows.specs.Lowering.{IsClosedCover}
use Rattle.npp_rows.specs.Promises.{IsModelOf}
use Rattle.npp_rows.proofs.ListLaws.{zip_at}
use Rattle.npp_rows.proofs.NamedLaws.{row_value}
use Rattle.npp_rows.proofs.RowLaws.{sum_zero}
use Rattle.npp_rows.proofs.RelaxationLaws.{all_range, all_flat}
use Rattle.npp_inverse.specs.declared.best.Best.{Best}
use Rattle.npp_inverse.specs.declared.best.Best.TheVariants as best
use Rattle.npp_inverse.specs.Best.{IsProvedBest, LeavesTolls}
use Rattle.npp_inverse.proofs.BestLaws.{in_order}

-- no difference of costs is below 0
not_below : (a b : ℕ) → a ≤ b → zero_ℚ ≤ℚ whole (pos b -ℤ pos a)
not_below a b h = whole_mono {m = pos 0} {n = pos b -ℤ pos a} (omega (arith, ints))

module _ (net : Network) (m : PathModel) (choice : List ℕ) (model : IsModelOf net m) (picks : IsChoice m choice) (zeros : All (λ path. path ≡ 0) choice) where
  first_least : (k q : ℕ) → k < length m.covers → q < path_count m k → path_cost m k 0 ≤ path_cost m k q
  first_least k q u h =
      let cover = zip_at (IsClosedCover net.arcs) net.commodities m.covers no_commodity no_cover k model.covers u in
      omega (arith, first_is_least net.arcs (slice_index_or net.commodities k no_commodity) cover.0 (cover_at m k) cover.2 cover.1, cover.2.least q no_path h)

  chosen_first : (k : ℕ) → k < length m.covers → chosen choice k ≡ 0
  chosen_first k u = zeros k 0 (omega (arith, u, picks.size))

  abbrev Kept : RowName → Type 0
  Kept r = zero_ℚ ≤ℚ choice_right m (λ k. Some (chosen choice k)) r

  cap_kept : (a : ℕ) → Kept (Cap a)
  cap_kept a = whole_mono {m = pos 0} {n = pos (cap_at m a)} (omega (arith, ints))

  follow_kept : (k q : ℕ) → k < length m.covers → q < path_count m k → Kept (Follow k q)
  follow_kept k q u h = rw (chosen_first k u) (not_below (path_cost m k 0) (path_cost m k q) (first_least k q u h))

  rows_kept : All Kept (choice_rows m (λ k. Some (chosen choice k)))
  rows_kept =
      All-append Kept (map Cap (tolls m)) (flat_map (follow_rows m) (commodities m))
      (All-map Kept Cap (tolls m) (all_range (λ a. Kept (Cap a)) (length m.caps) (λ a l. cap_kept a)))
      (all_flat Kept (follow_rows m) (commodities m) (all_range (λ k. All Kept (follow_rows m k)) (length m.covers) (λ k u.
      All-map Kept (Follow k) (paths m k) (all_range (λ q. Kept (Follow k q)) (path_count m k) (λ q h. follow_kept k q u h)))))

  at_zero : (e : ColumnName → Rational) → terms_at (terms_from 0 e (map Toll (tolls m))) (map (λ c. zero_ℚ) (map Toll (tolls m))) ≡ zero_ℚ
  at_zero e =
      row_value e (λ c. zero_ℚ) (map Toll (tolls m))
      ∙ sum_by-map (λ c. e c *ℚ zero_ℚ) Toll (tolls m)
      ∙ sum_zero 0 (length m.caps) (λ a. e (Toll a) *ℚ zero_ℚ) (λ a l. *ℚ-zero (e (Toll a)))

  -- zero tolls are a point
  pub zero_point : IsPoint (numbered (inverse m choice)) (vector (inverse m choice) (λ c. zero_ℚ))
  zero_point = record {
    size = length-map (map Toll (tolls m)) (λ c. zero_ℚ);
    not_negative = All-map (λ q. zero_ℚ ≤ℚ q) (λ c. zero_ℚ) (map Toll (tolls m)) (λ k d l. ≤ℚ_refl zero_ℚ);
    rows = All-map (λ r. terms_at r.terms (map (λ c. zero_ℚ) (map Toll (tolls m))) ≤ℚ r.right) (λ r. record { terms = terms_from 0 (choice_entry m (λ k. Some (chosen choice k)) r) (map Toll (tolls m)); right = choice_right m (λ k. Some (chosen choice k)) r }) (choice_rows m (λ k. Some (chosen choice k))) (λ i d l.
        rw (at_zero (choice_entry m (λ k. Some (chosen choice k)) (slice_index_or (choice_rows m (λ k. Some (chosen choice k))) i d))) (rows_kept i d l));
  }

  -- so no multipliers show that there is none
  pub not_none : (y : List Rational) → IsFarkasAnswer (numbered (inverse m choice)) y → ⊥
  not_none y answer = no_point_of_farkas (numbered (inverse m choice)) y (in_order m choice) answer (vector (inverse m choice) (λ c. zero_ℚ)) zero_point

-- whatever the code's numbers
module _ {N : Type 0} (value : N → Rational) (m : PathModel) (choice : List ℕ) (none : (y : List Rational) → IsFarkasAnswer (numbered (inverse m choice)) y → ⊥) where
  leaves_tolls : (b : Best N) → IsProvedBest value m choice b → LeavesTolls b
  leaves_tolls (best.Found tolls v y r) h = tt
  leaves_tolls (best.NoTolls y) h = none (map value y.items) h
  leaves_tolls (best.Loud k) h = tt

  pub all_leave_tolls : {E : Type 0} (r : Result (Best N) E) → IfOk r (IsProvedBest value m choice) → IfOk r LeavesTolls
  all_leave_tolls {E} (Ok b) h = leaves_tolls b h
  all_leave_tolls {E} (Err e) h = tt
