-- The points of the inverse program of a choice are exactly the tolls up to the caps under which its paths are cheapest over
-- all walks, and its goal there is what they earn.
use Rattle.std.specs.Prelude.{◌≡◌, ℕ, ◌+◌, ◌<◌, ◌≤◌, pos, List, [], length, map, slice_index, Option, Some, None}
use Rattle.std.specs.List.{range_with_len}
use Rattle.std.proofs.Common.{arith, sym, ap, ◌∙◌, subst}
use Rattle.std.proofs.Math.Nat.{mul-le-mul_right}
use Rattle.std.proofs.lemmas.List.FromFn.{length-map-range_with_len, get_or-map-range_with_len}
use Rattle.npp_frac.specs.Rational.{Rational, zero_ℚ, whole, ◌≤ℚ◌, Is-ratio, Is-whole, le-Is}
use Rattle.npp_net.specs.Network.{Network, toll_count, ceiling_of}
use Rattle.npp_net.specs.Toll.{TollVector, KeepsCeilings}
use Rattle.npp_net.specs.Outcome.{AreCheapest}
use Rattle.npp_cover.specs.Caps.{within_ceiling}
use Rattle.npp_lp.specs.Programs.{goal_at, IsPoint}
use Rattle.npp_rows.specs.declared.names.ColumnName.TheVariants.{Toll}
use Rattle.npp_rows.specs.PathModel.{PathModel, tolls, paths, path_count, useful_path, cap_at}
use Rattle.npp_rows.specs.Caps.{toll_cap, greatest_gap}
use Rattle.npp_rows.specs.Parts.{part_at, chosen, all_paths}
use Rattle.npp_rows.specs.Named.{numbered, vector}
use Rattle.npp_rows.specs.Rows.{IsChoice}
use Rattle.npp_rows.specs.Inverse.{inverse, choice_right}
use Rattle.npp_rows.specs.Piece.{IsInPiece, AreCapped, walks_of, toll_value, outcome_number, earned}
use Rattle.npp_rows.specs.TollVectors.{HasTolls}
use Rattle.npp_rows.specs.Promises.{IsModelOf, AreTollsFor, InverseIsExact}
use Rattle.npp_rows.proofs.ListLaws.{map_twice}
use Rattle.npp_rows.proofs.ValueLaws.{range_has}
use Rattle.npp_rows.proofs.CutLaws.{all_allowed}
use Rattle.npp_rows.proofs.InverseLaws.{inverse_point}
use Rattle.npp_rows.proofs.CommonTolls.{common_tolls, has_common}
use Rattle.npp_rows.proofs.PriceLaws.{all_cheapest, vector as toll_vector, same_size, cheapest_of}
use Rattle.npp_rows.proofs.PointLaws.{by_places, cap_below, point_below, point_size, chosen_cheap}

-- a cap is at most the ceiling
at_most_ceiling : (u : ℕ) (ceiling : Option ℕ) (gap cap : ℕ) → ceiling ≡ Some u → cap ≡ within_ceiling ceiling gap → cap ≤ u
at_most_ceiling u None gap cap is e = cc
at_most_ceiling u (Some v) gap cap is e = let same : v ≡ u = cc in omega (arith, e, same)

module _ (net : Network) (m : PathModel) (choice : List ℕ) (model : IsModelOf net m) (picks : IsChoice m choice) where
  count : length m.caps ≡ toll_count net.arcs
  count = ap (λ z. length z.caps) model.same ∙ length-map-range_with_len (toll_cap net m.covers) 0 (toll_count net.arcs)

  cap_is : (a : ℕ) → a < toll_count net.arcs → cap_at m a ≡ within_ceiling (ceiling_of net.arcs a) (greatest_gap m.covers a)
  cap_is a h = ap (λ z. cap_at z a) model.same ∙ get_or-map-range_with_len (toll_cap net m.covers) 0 (toll_count net.arcs) a a 0 h (omega arith)

  -- ---- from a point to tolls

  module _ (T : List Rational) (point : IsPoint (numbered (inverse m choice)) T) (t : TollVector) (has : HasTolls T t) where
    size : length T ≡ length m.caps
    size = point_size m choice T point

    capped : AreCapped m t
    capped a l =
        let below = cap_below m choice T size (choice_right m (λ k. Some (chosen choice k))) (point_below m choice T size point) a l in
        let here = subst (λ (q : Rational). q ≤ℚ whole (pos (cap_at m a))) (has.each a (omega (arith, l, size))) below in
        omega (arith, le-Is (Is-ratio (pos (slice_index t.numerators a)) t.denominator has.positive) (Is-whole (pos (cap_at m a))) here)

    ceilings : KeepsCeilings net.arcs t
    ceilings a u h is =
        let l : a < length m.caps = omega (arith, h, count) in
        let most = at_most_ceiling u (ceiling_of net.arcs a) (greatest_gap m.covers a) (cap_at m a) is (cap_is a h) in
        omega (arith, capped a l, mul-le-mul_right t.denominator most)

    cheapest : AreCheapest net.arcs t net.commodities (walks_of m choice)
    cheapest =
        let same = same_size net m T t model size has in
        let all = all_cheapest net.arcs t (λ k. (useful_path m k (chosen choice k)).arcs) net.commodities 0 (λ k l.
        let e : 0 + k ≡ k = omega arith in
        let u : k < length m.covers = omega (arith, l, same) in
        rw e (cheapest_of net m T t model size has k u (chosen choice k) (picks.each k u) (λ q h. chosen_cheap m choice T point k q u h))) in
        subst (λ (n : ℕ). AreCheapest net.arcs t net.commodities (map (λ k. (useful_path m k (chosen choice k)).arcs) (range_with_len 0 n))) same all

    tolls_for : AreTollsFor net m choice T t
    tolls_for = record { tolls = has; outcome = record { vector = toll_vector net m T t model size has; ceilings = ceilings; cheapest = cheapest }; capped = capped }

  -- ---- from tolls to a point

  module _ (T : List Rational) (t : TollVector) (is : AreTollsFor net m choice T t) where
    long : length T ≡ length m.caps
    long = sym is.tolls.size ∙ is.outcome.vector.count ∙ sym count

    piece : IsInPiece net m (all_paths m) t choice
    piece = record {
      allowed = record {
        size = picks.size;
        each = λ k u.
            let part : part_at (all_paths m) k ≡ paths m k = get_or-map-range_with_len (paths m) 0 (length m.covers) k k [] u (omega arith) in
            rw part (range_has (path_count m k) (chosen choice k) (picks.each k u));
      };
      outcome = is.outcome;
      capped = is.capped;
    }

    same_vector : vector (inverse m choice) (outcome_number m t choice) ≡ T
    same_vector =
        sym (map_twice (outcome_number m t choice) Toll (tolls m))
        ∙ ap (λ n. map (toll_value t) (range_with_len 0 n)) (sym long)
        ∙ by_places (toll_value t) 0 T (λ i l. let e : 0 + i ≡ i = omega arith in rw e (sym (is.tolls.each i l)))

    a_point : IsPoint (numbered (inverse m choice)) T
    a_point = subst (λ (x : List Rational). IsPoint (numbered (inverse m choice)) x) same_vector (inverse_point net m (all_paths m) t choice model (all_allowed net m t choice piece) piece).point

    goal_earned : goal_at (numbered (inverse m choice)) T ≡ earned net m t choice
    goal_earned = subst (λ (x : List Rational). goal_at (numbered (inverse m choice)) x ≡ earned net m t choice) same_vector (inverse_point net m (all_paths m) t choice model (all_allowed net m t choice piece) piece).goal

  pub inverse_is_exact : InverseIsExact net m choice
  inverse_is_exact = record {
    points = λ T. (
      λ point. (common_tolls T, tolls_for T point (common_tolls T) (has_common T (λ a l. point.not_negative a zero_ℚ l))),
      λ (t, is). a_point T t is,
    );
    goal = goal_earned;
  }
