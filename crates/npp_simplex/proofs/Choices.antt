-- What the choice of the next pivot says of its row and column.
use Rattle.std.proofs.Common.{◌≡◌, ◌≢◌, ℕ, List, [], ◌∷◌, Option, Some, None, ap, ◌∙◌, refl, subst}
use Rattle.npp_simplex.specs.declared.stage.Stage.{Stage}
use Rattle.npp_simplex.specs.Tableau.{Tableau}
use Rattle.npp_simplex.specs.Ratio.{entering, candidates, leaving}
use Rattle.npp_simplex.specs.Run.{State, PivotOn, NoColumn, NoRow, chosen_row, chosen_column, next}

-- what a pivot was chosen by
pub record IsChosen (s : Stage) (t : Tableau) (r c : ℕ) : Type 0 where
  pub column : entering s t ≡ Some c
  pub some : candidates s t c ≢ []
  pub row : r ≡ leaving s t c

chosen_by_row : (s : Stage) (t : Tableau) (d : ℕ) (rows : List ℕ) (r c : ℕ) → chosen_row s t d rows ≡ PivotOn r c → (rows ≢ []) × (r ≡ leaving s t d) × (d ≡ c)
chosen_by_row s t d [] r c e = cc
chosen_by_row s t d (i ∷ rows) r c e = (λ h. cc, cc, cc)

chosen_by_column : (s : Stage) (t : Tableau) (o : Option ℕ) (r c : ℕ) → chosen_column s t o ≡ PivotOn r c → (o ≡ Some c) × (candidates s t c ≢ []) × (r ≡ leaving s t c)
chosen_by_column s t None r c e = cc
chosen_by_column s t (Some d) r c e =
    let (some, row, same) = chosen_by_row s t d (candidates s t d) r c e in
    (ap Some same, subst (λ z. candidates s t z ≢ []) same some, row ∙ ap (leaving s t) same)

pub pivot_chosen : (x : State) (r c : ℕ) → next x ≡ PivotOn r c → IsChosen x.stage x.tableau r c
pivot_chosen x r c e =
    let (column, some, row) = chosen_by_column x.stage x.tableau (entering x.stage x.tableau) r c e in
    record { column = column; some = some; row = row }

no_chosen_row : (s : Stage) (t : Tableau) (d : ℕ) (rows : List ℕ) → chosen_row s t d rows ≡ NoColumn → ⊥
no_chosen_row s t d [] e = cc
no_chosen_row s t d (i ∷ rows) e = cc

column_none : (s : Stage) (t : Tableau) (o : Option ℕ) → chosen_column s t o ≡ NoColumn → o ≡ None
column_none s t None e = refl
column_none s t (Some d) e = absurd (no_chosen_row s t d (candidates s t d) e)

-- where no column enters
pub no_column_enters : (x : State) → next x ≡ NoColumn → entering x.stage x.tableau ≡ None
no_column_enters x e = column_none x.stage x.tableau (entering x.stage x.tableau) e

row_none : (s : Stage) (t : Tableau) (d : ℕ) (rows : List ℕ) (c : ℕ) → chosen_row s t d rows ≡ NoRow c → (rows ≡ []) × (d ≡ c)
row_none s t d [] c e = (refl, cc)
row_none s t d (i ∷ rows) c e = cc

column_some : (s : Stage) (t : Tableau) (o : Option ℕ) (c : ℕ) → chosen_column s t o ≡ NoRow c → (o ≡ Some c) × (candidates s t c ≡ [])
column_some s t None c e = cc
column_some s t (Some d) c e = let (none, same) = row_none s t d (candidates s t d) c e in (ap Some same, subst (λ z. candidates s t z ≡ []) same none)

-- where a column enters and no row may leave
pub no_row_leaves : (x : State) (c : ℕ) → next x ≡ NoRow c → (entering x.stage x.tableau ≡ Some c) × (candidates x.stage x.tableau c ≡ [])
no_row_leaves x c e = column_some x.stage x.tableau (entering x.stage x.tableau) c e
