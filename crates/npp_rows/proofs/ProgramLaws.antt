-- A relaxation as a program: its rows and columns are those that it has, and few.
use Rattle.std.proofs.Common.{◌≡◌, ℕ, ◌+◌, ◌<◌, ◌≤◌, List, [], ◌∷◌, ◌++◌, length, map, take, get_or, All, refl, sym, ap, ap₂, ◌∙◌, arith}
use Rattle.std.specs.List.{range_with_len, flat_map}
use Rattle.std.proofs.lemmas.List.{length-append, length-map, get_or_default, map-append, take_more, take_all}
use Rattle.std.proofs.lemmas.List.Elements.{All-append, All-map}
use Rattle.std.proofs.lemmas.List.FromFn.{length-range_with_len}
use Rattle.npp_cover.specs.Replaces.{sum_below}
use Rattle.npp_rows.specs.declared.names.RowName.{RowName}
use Rattle.npp_rows.specs.declared.names.RowName.TheVariants.{Cap, Follow, Below, Use, Link, One, OneLow, Cut}
use Rattle.npp_rows.specs.declared.names.ColumnName.TheVariants.{Toll, Share, Paid}
use Rattle.npp_rows.specs.PathModel.{PathModel, tolls, commodities, paths, path_count}
use Rattle.npp_rows.specs.Parts.{part_at}
use Rattle.npp_rows.specs.Relax.{relaxation_columns, relaxation_rows, shares, on_allowed_tolls, allowed_tolls, cap_rows, follow_rows}
use Rattle.npp_rows.specs.Family.{share_count, paid_count}
use Rattle.npp_rows.specs.Rows.{IsRow, IsChoiceRow, IsPaidOn}
use Rattle.npp_rows.proofs.StartLaws.{sum_below_same}
use Rattle.npp_rows.proofs.TermLaws.{flat_size}
use Rattle.npp_frac.specs.Rational.{Rational}
use Rattle.npp_lp.specs.declared.program.Entry.{Entry}
use Rattle.npp_lp.specs.Programs.{Term, Row, LinearProgram, AreTerms}
use Rattle.npp_lp.specs.Meaning.{terms_of, row_meant, linear_program}
use Rattle.npp_lp.specs.Building.{Started, started, program_of}
use Rattle.npp_rows.specs.Named.{NamedProgram, terms_from, numbered}
use Rattle.npp_rows.proofs.NamedLaws.{terms_are_in_order}
use Rattle.npp_rows.proofs.RelaxationLaws.{all_range, all_flat}

module _ (m : PathModel) (parts : List (List ℕ)) where
  pub columns_size : length (relaxation_columns m parts) ≡ length m.caps + sum_below (share_count parts) (length m.covers) + sum_below (paid_count m parts) (length m.covers)
  columns_size =
      let toll_size : length (map Toll (tolls m)) ≡ length m.caps = rw length-map (length-range_with_len 0 (length m.caps)) in
      let share_size = flat_size (λ l. map (Share l) (part_at parts l)) (length m.covers) ∙ sum_below_same (λ l. length (map (Share l) (part_at parts l))) (share_count parts) (length m.covers) (λ l w. rw length-map refl) in
      let paid_size = flat_size (λ l. map (λ a. Paid a l) (allowed_tolls m parts l)) (length m.covers) ∙ sum_below_same (λ l. length (map (λ a. Paid a l) (allowed_tolls m parts l))) (paid_count m parts) (length m.covers) (λ l w. rw length-map refl) in
      omega (arith, toll_size, share_size, paid_size, length-append (map Toll (tolls m) ++ shares m parts) (on_allowed_tolls m parts Paid), length-append (map Toll (tolls m)) (shares m parts))

  -- what holds of each toll and commodity that have a column
  pub pairs_all : {Y : Type 0} (P : Y → Type 0) (name : ℕ → ℕ → Y) → ((a k : ℕ) → IsPaidOn m parts a k → P (name a k)) → All P (on_allowed_tolls m parts name)
  pairs_all P name h =
      all_flat P (λ k. map (λ a. name a k) (allowed_tolls m parts k)) (commodities m) (all_range (λ k. All P (map (λ a. name a k) (allowed_tolls m parts k))) (length m.covers) (λ k u.
      All-map P (λ a. name a k) (allowed_tolls m parts k) (λ j d l.
      h (get_or (allowed_tolls m parts k) j d) k (record { commodity = u; used = (j, l, get_or_default (allowed_tolls m parts k) j (get_or (allowed_tolls m parts k) j d) d l) }))))

  -- the rows that the relaxation has
  pub all_rows : (n : ℕ) → All (IsRow m parts n) (relaxation_rows m parts n)
  all_rows n =
      let R : RowName → Type 0 = IsRow m parts n in
      let caps : All R (map Cap (tolls m)) = All-map R Cap (tolls m) (all_range (λ a. R (Cap a)) (length m.caps) (λ a l. l)) in
      let follows : All R (flat_map (follow_rows m) (commodities m)) =
      all_flat R (follow_rows m) (commodities m) (all_range (λ k. All R (follow_rows m k)) (length m.covers) (λ k u.
      All-map R (Follow k) (paths m k) (all_range (λ q. R (Follow k q)) (path_count m k) (λ q h. (u, h))))) in
      let belows = pairs_all R Below (λ a k h. h) in
      let use_rows = pairs_all R Use (λ a k h. h) in
      let links = pairs_all R Link (λ a k h. h) in
      let ones : All R (map One (commodities m)) = All-map R One (commodities m) (all_range (λ k. R (One k)) (length m.covers) (λ k u. u)) in
      let lows : All R (map OneLow (commodities m)) = All-map R OneLow (commodities m) (all_range (λ k. R (OneLow k)) (length m.covers) (λ k u. u)) in
      let cut_rows : All R (map Cut (range_with_len 0 n)) = All-map R Cut (range_with_len 0 n) (all_range (λ i. R (Cut i)) n (λ i l. l)) in
      All-append R _ _ (All-append R _ _ (All-append R _ _ (All-append R _ _ (All-append R _ _ (All-append R _ _ (All-append R _ _ caps follows) belows) use_rows) links) ones) lows) cut_rows

-- ---- row by row

-- a row of a named program with its right side
abbrev pub row_named : NamedProgram → RowName → Row
row_named p r = record { terms = terms_from 0 (p.entry r) p.columns; right = p.right r }

-- the first rows are written
pub record HasRows {N : Type 0} (value : N → Rational) (p : NamedProgram) (program : Started N) (names : List RowName) (i : ℕ) : Type 0 where
  pub columns : program.columns ≡ length p.columns
  pub rows : map (row_meant value) program.rows ≡ map (row_named p) (take i names)
  pub fresh : program.entries ≡ []
  pub first : program.next ≡ 0

module _ {N : Type 0} (value : N → Rational) (p : NamedProgram) where
  pub no_rows : (names : List RowName) → HasRows value p (started (length p.columns)) names 0
  no_rows names = record { columns = refl; rows = refl; fresh = refl; first = refl }

  pub one_row : (names : List RowName) (i : ℕ) (r : RowName) (before : Started N) (entries : List (Entry N)) (right : N) → i < length names → r ≡ get_or names i r → HasRows value p before names i
      → terms_of value entries ≡ terms_from 0 (p.entry r) p.columns → value right ≡ p.right r
      → HasRows value p (record { columns = before.columns; rows = before.rows ++ record { entries = entries; right = right } ∷ []; entries = []; next = 0 }) names (i + 1)
  one_row names i r before entries right h is w terms side = record {
    columns = w.columns;
    rows =
        map-append (row_meant value) before.rows (record { entries = entries; right = right } ∷ [])
        ∙ ap₂ (λ xs (x : Row). xs ++ x ∷ []) w.rows (ap₂ (λ (ts : List Term) (q : Rational). record { terms = ts; right = q }) terms side ∙ ap (row_named p) is)
        ∙ sym (ap (map (row_named p)) (take_more names i r h) ∙ map-append (row_named p) (take i names) (get_or names i r ∷ []));
    fresh = refl;
    first = refl;
  }

  -- the entries of a row stand in order
  pub row_form : (r : RowName) (n : ℕ) (entries : List (Entry N)) → n ≡ length p.columns → terms_of value entries ≡ terms_from 0 (p.entry r) p.columns → AreTerms n (terms_of value entries)
  row_form r n entries e terms = rw (terms, e) (terms_are_in_order (p.entry r) p.columns)

  same_program : (c c' : ℕ) (rows rows' : List Row) (g g' : List Rational) → c ≡ c' → rows ≡ rows' → g ≡ g'
      → (let a : LinearProgram = record { columns = c; rows = rows; goal = g } in let b : LinearProgram = record { columns = c'; rows = rows'; goal = g' } in a ≡ b)
  same_program c c' rows rows' g g' e f h = λ i. record { columns = e i; rows = f i; goal = h i }

  -- all rows and the goal are written
  pub finished : (names : List RowName) (i : ℕ) (s : Started N) (goal : List N) → HasRows value p s names i → length names ≤ i → names ≡ p.rows
      → map value goal ≡ map p.goal p.columns → linear_program value (program_of s goal) ≡ numbered p
  finished names i s goal w all names_are goal_is =
      same_program s.columns (length p.columns) _ _ _ _ w.columns
      (w.rows ∙ ap (map (row_named p)) (take_all i names all ∙ names_are)) goal_is

-- the rows of a choice
pub all_choice_rows : (m : PathModel) → All (IsChoiceRow m) (cap_rows m ++ flat_map (follow_rows m) (commodities m))
all_choice_rows m =
    let caps : All (IsChoiceRow m) (map Cap (tolls m)) = All-map (IsChoiceRow m) Cap (tolls m) (all_range (λ a. a < length m.caps) (length m.caps) (λ a l. l)) in
    let follows : All (IsChoiceRow m) (flat_map (follow_rows m) (commodities m)) =
    all_flat (IsChoiceRow m) (follow_rows m) (commodities m) (all_range (λ k. All (IsChoiceRow m) (follow_rows m k)) (length m.covers) (λ k u.
    All-map (IsChoiceRow m) (Follow k) (paths m k) (all_range (λ q. IsChoiceRow m (Follow k q)) (path_count m k) (λ q h. (u, h))))) in
    All-append (IsChoiceRow m) _ _ caps follows
