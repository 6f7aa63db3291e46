-- The program of a node has few rows and few columns.
use Rattle.std.proofs.Common.{◌≡◌, ◌∙◌, ℕ, ◌≤◌, Bool, true, false, cond, List, [], ◌++◌, length, arith}
use Rattle.std.specs.List.{flat_map}
use Rattle.std.proofs.lemmas.List.{length-append}
use Rattle.std.proofs.lemmas.List.FromFn.{length-map-range_with_len}
use Rattle.npp_cover.specs.Replaces.{CoverValue, sum_below}
use Rattle.npp_rows.specs.declared.names.ColumnName.TheVariants.{Toll}
use Rattle.npp_rows.specs.Inverse.{inverse}
use Rattle.npp_rows.specs.Limits.{IsWithinLimits}
use Rattle.npp_rows.specs.NodeProgram.{node_program}
use Rattle.npp_rows.specs.Parts.{IsAllowed, is_full, first_choice}
use Rattle.npp_rows.specs.PathModel.{PathModel, no_cover, path_count, commodities}
use Rattle.npp_rows.specs.Relax.{relaxation, relaxation_rows, relaxation_columns, cap_rows, follow_rows}
use Rattle.npp_rows.proofs.FamilyLaws.{shares_within, paid_within}
use Rattle.npp_rows.proofs.ProgramLaws.{columns_size}
use Rattle.npp_rows.proofs.RowPlaces.{caps_size}
use Rattle.npp_rows.proofs.SizeLaws.{rows_size, follows_size}
use Rattle.npp_rows.proofs.StartLaws.{sum_by_places}

module _ (m : PathModel) (limits : IsWithinLimits m) where
  paths_within : sum_below (path_count m) (length m.covers) ≤ 16777216
  paths_within = omega (arith, sum_by_places (λ (c : CoverValue). length c.paths) no_cover m.covers, limits.paths)

  pub relaxation_rows_few : (parts : List (List ℕ)) → IsAllowed m parts → length (relaxation_rows m parts 0) ≤ 67108864
  relaxation_rows_few parts allowed =
      omega (arith, rows_size m parts 0, limits.tolls, paths_within, paid_within m parts limits allowed (length m.covers) (omega arith), limits.commodities)

  pub choice_rows_few : length (cap_rows m ++ flat_map (follow_rows m) (commodities m)) ≤ 67108864
  choice_rows_few = omega (arith, length-append (cap_rows m) (flat_map (follow_rows m) (commodities m)), caps_size m, follows_size m, limits.tolls, paths_within)

  pub few_rows : (parts : List (List ℕ)) → IsAllowed m parts → length (node_program m [] parts).rows ≤ 67108864
  few_rows parts allowed = by (is_full parts)
    where
      by : (b : Bool) → length (cond b (inverse m (first_choice parts)) (relaxation m parts [])).rows ≤ 67108864
      by true = choice_rows_few
      by false = relaxation_rows_few parts allowed

  pub choice_columns_few : (choice : List ℕ) → length (inverse m choice).columns ≤ 67108864
  choice_columns_few choice = omega (arith, length-map-range_with_len Toll 0 (length m.caps), limits.tolls)

  pub relaxation_columns_few : (parts : List (List ℕ)) → IsAllowed m parts → length (relaxation_columns m parts) ≤ 67108864
  relaxation_columns_few parts allowed =
      let all : length m.covers ≤ length m.covers = omega arith in
      omega (arith, columns_size m parts, limits.tolls, shares_within m parts limits allowed (length m.covers) all, paid_within m parts limits allowed (length m.covers) all)
