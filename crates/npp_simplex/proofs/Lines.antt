-- A table by its rows: what is read there, and what a row that was replaced makes of it.
use Rattle.std.proofs.Common.{◌≡◌, ℕ, ◌+◌, ◌<◌, List, [], ◌∷◌, ◌++◌, map, length, get_or, set, Bool, true, false, cond, nat_eq, Option, Some, None, IfNone, IfSome, arith, ap, ap₂, sym, ◌∙◌, subst, inl, inr, eq-eqb, ne_eqb}
use Rattle.std.specs.List.{range_with_len}
use Rattle.std.proofs.lemmas.List.{get_or_read, get_or-set_same, get_or-set_other, length-set, map-append, same_lists, get_or_default}
use Rattle.std.proofs.lemmas.List.FromFn.{length-map-range_with_len, get_or-map-range_with_len}
use Rattle.std.proofs.lemmas.Bool.{cases_eq}
use Rattle.npp_frac.specs.Rational.{Rational, zero_ℚ}
use Rattle.npp_lp.specs.Programs.{LinearProgram, at}
use Rattle.npp_simplex.specs.declared.shape.Shape.{Shape}
use Rattle.npp_simplex.specs.Tableau.{Tableau, cell, height, width, table, with_cells, with_row}
use Rattle.npp_simplex.specs.Layout.{tableau_of, IsGrid}
use Rattle.npp_simplex.specs.Run.{first_cell, first_tableau}
use Rattle.npp_lp.specs.Verdict.{first_below}
use Rattle.npp_simplex.specs.Places.{column_unless}
use Rattle.npp_simplex.proofs.FirstPlaces.{first_below_same}
use Rattle.npp_simplex.proofs.Grids.{with_same, row_same}
use Rattle.npp_simplex.proofs.Reading.{range_upto}

-- ---- a list of rows is the table of its numbers

row_of_range : (xs : List Rational) (w : ℕ) → length xs ≡ w → xs ≡ map (λ j. at xs j) (range_with_len 0 w)
row_of_range xs w e =
    same_lists xs (map (λ j. at xs j) (range_with_len 0 w)) (e ∙ sym (length-map-range_with_len (λ j. at xs j) 0 w)) (λ k d l.
    get_or_default xs k d zero_ℚ l ∙ sym (get_or-map-range_with_len (λ j. at xs j) 0 w k k d (rw (← e) l) (omega arith)))

pub lines_table : (ls : List (List Rational)) (h w : ℕ) → length ls ≡ h → ((i : ℕ) → i < h → length (get_or ls i []) ≡ w) → ls ≡ table h w (λ i j. at (get_or ls i []) j)
lines_table ls h w e each =
    same_lists ls (table h w (λ i j. at (get_or ls i []) j)) (e ∙ sym (length-map-range_with_len (λ i. map (λ j. at (get_or ls i []) j) (range_with_len 0 w)) 0 h)) (λ k d l.
    let less : k < h = rw (← e) l in
    get_or_default ls k d [] l ∙ row_of_range (get_or ls k []) w (each k less) ∙ sym (get_or-map-range_with_len (λ i. map (λ j. at (get_or ls i []) j) (range_with_len 0 w)) 0 h k k d less (omega arith)))

-- ---- a tableau and its rows

module _ (s : Shape) (ls : List (List Rational)) (t : Tableau) (view : tableau_of s ls ≡ t) (grid : IsGrid s ls) where
  rows_is : s.rows ≡ t.rows
  rows_is = ap (λ u. u.rows) view

  columns_is : s.columns ≡ t.columns
  columns_is = ap (λ u. u.columns) view

  pub line_within : (i : ℕ) → i < height t → i < length ls
  line_within i l = omega (arith, l, rows_is, grid.height)

  -- a row that was read
  pub line_length : (i : ℕ) (x : List Rational) → i < height t → x ≡ get_or ls i x → length x ≡ width t
  line_length i x l e = ap length e ∙ grid.width i x (line_within i l) ∙ omega (arith, rows_is, columns_is)

  pub line_cell : (i : ℕ) (x : List Rational) → i < height t → x ≡ get_or ls i x → (j : ℕ) → at x j ≡ cell t i j
  line_cell i x l e j = ap (λ r. at r j) (get_or_read ls i x (line_within i l) e []) ∙ ap (λ u. cell u i j) view

  each_length : (i : ℕ) → i < s.rows + 2 → length (get_or ls i []) ≡ s.columns + s.rows + 2
  each_length i l = grid.width i [] (omega (arith, l, grid.height))

  pub whole : t ≡ with_cells t (cell t)
  whole =
      let is : tableau_of s ls ≡ with_cells (tableau_of s ls) (cell (tableau_of s ls)) = ap (tableau_of s) (lines_table ls (s.rows + 2) (s.columns + s.rows + 2) grid.height each_length) in
      sym view ∙ is ∙ ap (λ u. with_cells u (cell u)) view

  module _ (i : ℕ) (l : i < height t) (y : List Rational) (long : length y ≡ width t) where
    set_length : (k : ℕ) → k < s.rows + 2 → length (get_or (set ls i y) k []) ≡ s.columns + s.rows + 2
    set_length k m = elim (cases_eq k i) [
      | inl same ↦ ap (λ n. length (get_or (set ls i y) n [])) same ∙ ap length (get_or-set_same ls i y [] (line_within i l)) ∙ long ∙ omega (arith, rows_is, columns_is)
      | inr apart ↦ ap length (get_or-set_other ls i k y [] apart) ∙ each_length k m
    ]

    set_height : length (set ls i y) ≡ s.rows + 2
    set_height = length-set ls i y ∙ grid.height

    -- the rows with another one in its place
    pub set_grid : IsGrid s (set ls i y)
    set_grid = record {
      height = set_height;
      width = λ k d m. ap length (get_or_default (set ls i y) k d [] m) ∙ set_length k (rw set_height at m);
    }

    pub set_table : tableau_of s (set ls i y) ≡ with_row t i (at y)
    set_table =
        ap (tableau_of s) (lines_table (set ls i y) (s.rows + 2) (s.columns + s.rows + 2) set_height set_length)
        ∙ with_same (tableau_of s ls) (λ k j. at (get_or (set ls i y) k []) j) (λ k j. cond (nat_eq k i) (at y j) (cell (tableau_of s ls) k j)) (λ k j a b. elim (cases_eq k i) [
          | inl same ↦ (let yes : nat_eq k i ≡ true = eq-eqb k i same in rw yes (ap (λ n. at (get_or (set ls i y) n []) j) same ∙ ap (λ r. at r j) (get_or-set_same ls i y [] (line_within i l))))
          | inr apart ↦ (let no : nat_eq k i ≡ false = ne_eqb k i apart in rw no (ap (λ r. at r j) (get_or-set_other ls i k y [] apart)))
        ])
        ∙ ap (λ u. with_row u i (at y)) view

-- ---- the first table

pub lines_more : (f : ℕ → List Rational) (ls ms : List (List Rational)) (i : ℕ) (x : List Rational) → ms ≡ ls ++ x ∷ [] → ls ≡ map f (range_with_len 0 i) → x ≡ f i → ms ≡ map f (range_with_len 0 (i + 1))
lines_more f ls ms i x is done e =
    is ∙ ap₂ (λ a b. a ++ b ∷ []) done e ∙ sym (map-append f (range_with_len 0 i) (i ∷ [])) ∙ ap (map f) (sym (range_upto i))

pub grid_of_table : (s : Shape) (f : ℕ → ℕ → Rational) (ls : List (List Rational)) → ls ≡ table (s.rows + 2) (s.columns + s.rows + 2) f → IsGrid s ls
grid_of_table s f ls e = subst (IsGrid s) (sym e) (record {
  height = length-map-range_with_len (λ i. map (λ j. f i j) (range_with_len 0 (s.columns + s.rows + 2))) 0 (s.rows + 2);
  width = λ i d l.
      let less : i < s.rows + 2 = rw (length-map-range_with_len (λ i. map (λ j. f i j) (range_with_len 0 (s.columns + s.rows + 2))) 0 (s.rows + 2)) at l in
      ap length (get_or-map-range_with_len (λ i. map (λ j. f i j) (range_with_len 0 (s.columns + s.rows + 2))) 0 (s.rows + 2) i i d less (omega arith))
      ∙ length-map-range_with_len (λ j. f i j) 0 (s.columns + s.rows + 2);
})

pub made_of_lines : (s : Shape) (ls : List (List Rational)) (p : LinearProgram) → s.rows ≡ length p.rows → s.columns ≡ p.columns → ls ≡ table (s.rows + 2) (s.columns + s.rows + 2) (first_cell p) → tableau_of s ls ≡ first_tableau p
made_of_lines s ls p e f is =
    ap (tableau_of s) is ∙ ap₂ (λ m n. record { rows = m; columns = n; cells = table (m + 2) (n + m + 2) (first_cell p) }) e f

-- ---- a row that was changed, unless there was a stop

pub if_none : {T : Type 0} (o : Option T) (A B : Type 0) → (A → B) → IfNone o A → IfNone o B
if_none None A B f h = f h
if_none (Some x) A B f h = h

pub if_some : {T : Type 0} (o : Option T) (P Q : T → Type 0) → ((x : T) → P x → Q x) → IfSome o P → IfSome o Q
if_some None P Q f h = h
if_some (Some x) P Q f h = f x h

module _ (s : Shape) (ls : List (List Rational)) (t : Tableau) (view : tableau_of s ls ≡ t) (grid : IsGrid s ls) (i : ℕ) (l : i < height t) where
  pub changed_row : {T : Type 0} (o : Option T) (y x : List Rational) (g : ℕ → Rational) → length y ≡ length x → x ≡ get_or ls i x
      → IfNone o ((j : ℕ) → j < length x → at y j ≡ g j) → IfNone o (tableau_of s (set ls i y) ≡ with_row t i g)
  changed_row o y x g same read h =
      let long : length x ≡ width t = line_length s ls t view grid i x l read in
      if_none o ((j : ℕ) → j < length x → at y j ≡ g j) (tableau_of s (set ls i y) ≡ with_row t i g) (λ each.
      set_table s ls t view grid i l y (same ∙ long) ∙ row_same t i (at y) g (λ j k. each j (rw long k))) h

  -- tests of the numbers of a row are those of the cells
  pub tested_row : (x : List Rational) (test : Rational → Rational → ℕ → Bool) (c : ℕ) → x ≡ get_or ls i x
      → first_below (length x) (λ j. column_unless (test (at x j) (at x c) j) j) ≡ first_below (width t) (λ j. column_unless (test (cell t i j) (cell t i c) j) j)
  tested_row x test c read =
      let f : ℕ → Option ℕ = λ j. column_unless (test (at x j) (at x c) j) j in
      let k : ℕ → Option ℕ = λ j. column_unless (test (cell t i j) (cell t i c) j) j in
      let here : (j : ℕ) → at x j ≡ cell t i j = line_cell s ls t view grid i x l read in
      ap (λ n. first_below n f) (line_length s ls t view grid i x l read)
      ∙ first_below_same f k (width t) (λ j less. ap₂ (λ p q. column_unless (test p q j) j) (here j) (here c))
