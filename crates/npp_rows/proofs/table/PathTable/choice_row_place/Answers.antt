use Rattle.std.proofs.Common.{List, [], ℕ, Option, Some, None}
use Rattle.std.specs.Prelude.{◌≡◌, false, MatchOption}
use Rattle.npp_rows.specs.RowOrder.{has_row}
use Rattle.npp_rows.specs.PathModel.{PathModel}
use Rattle.npp_rows.specs.declared.names.RowName.{RowName}
use Rattle.npp_rows.specs.Places.{IsPlaceIn}
use Rattle.npp_rows.specs.Inverse.{inverse}
use Rattle.npp_rows.specs.Rows.{IsChoiceRow}
use Rattle.npp_rows.proofs.ProgramLaws.{all_choice_rows}
use Rattle.npp_rows.proofs.RowPlaces.{choice_row_is_placed, row_told}
use Rattle.npp_rows.proofs.table.PathTable.choice_row_place.Goals as goal

-- what holds of each choice
told : (m : PathModel) (r : RowName) (o : Option ℕ) → ((choice : List ℕ) → IsPlaceIn (inverse m choice).rows (IsChoiceRow m) r o)
    → MatchOption o ((choice : List ℕ) → has_row (inverse m choice).rows r ≡ false) (λ i. IsChoiceRow m r)
told m r None h = λ choice. row_told (IsChoiceRow m) (inverse m choice).rows r None (all_choice_rows m) (choice_row_is_placed m choice r None (h choice))
told m r (Some i) h = row_told (IsChoiceRow m) (inverse m []).rows r (Some i) (all_choice_rows m) (choice_row_is_placed m [] r (Some i) (h []))

pub returns-clause-place : goal.returns-clause-place
returns-clause-place c = λ choice. choice_row_is_placed c.args.self.now choice c.args.row c.find_choice_row.result (c.find_choice_row.ensures choice)

pub returns-clause-row : goal.returns-clause-row
returns-clause-row c = told c.args.self.now c.args.row c.find_choice_row.result c.find_choice_row.ensures
