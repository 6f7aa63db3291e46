-- Multipliers that are taken one after the other stand for the dense ones of their program.
use Rattle.std.proofs.Common.{◌≡◌, ◌≢◌, ℕ, ◌+◌, ◌<◌, ◌≤◌, Bool, true, false, cond, List, [], ◌∷◌, ◌++◌, length, map, get_or, take, drop, Option, Some, None, All, refl, sym, ap, subst, ◌∙◌, arith, inl, inr}
use Rattle.std.specs.Prelude.{◌&&◌, not, is_some, IsSome, unwrap_or}
use Rattle.std.specs.List.{AllPairs, list_all}
use Rattle.std.proofs.lemmas.Bool.{and_parts, and_from, cases_Bool, false_from_ne_true, true_from_ne_false}
use Rattle.std.proofs.lemmas.List.{get_or-map, length-map, map_push, same_lists, get_or_default, take_more, take_all, take-append-drop}
use Rattle.std.proofs.lemmas.List.Elements.{All-nil, All-cons}
use Rattle.std.proofs.lemmas.List.Kept.{AllPairs-cons}
use Rattle.std.proofs.lemmas.List.Folds.{list_all-append, list_all_more, list_all_at, list_all-map}
use Rattle.std.proofs.lemmas.List.FromFn.{get_or-map-range_with_len, length-map-range_with_len}
use Rattle.npp_frac.specs.Rational.{Rational, zero_ℚ, is_less, ◌+ℚ◌}
use Rattle.npp_frac.specs.Ring.{zero-+ℚ}
use Rattle.npp_frac.specs.Fits.{IsWidth, limit_of}
use Rattle.npp_frac.specs.Sums.{sum_by, unit_other}
use Rattle.npp_lp.specs.declared.multiplier.RowMultiplier.{RowMultiplier}
use Rattle.npp_lp.specs.Programs.{Term, Row, row_of, no_row}
use Rattle.npp_lp.specs.Sparse.{AreRowMultipliers, multiplier_at, dense}
use Rattle.npp_lp.specs.SparseLaws.{RiseFrom, first_named}
use Rattle.npp_lp.specs.Checked.{checked_column, checked_right}
use Rattle.npp_lp.specs.DualVerdict.{dual_verdict}
use Rattle.npp_lp.specs.FarkasVerdict.{farkas_verdict}
use Rattle.npp_lp.specs.declared.program.Entry.{Entry}
use Rattle.npp_lp.specs.Verdict.{or_else}
use Rattle.npp_lp.specs.Meaning.{terms_of}
use Rattle.npp_lp.specs.ReadingLaws.{rise_of_terms, in_range_of_terms}
use Rattle.npp_lp.specs.RunningSums.{Sums, sums_meant, TakesRow, AreEmpty, AreSumsOf, column_of, dual_of_sums, farkas_of_sums}
use Rattle.npp_lp.specs.RunningSumsLaws.{sums_of_none, sums_of_more, column_is, right_is, dual_of_sums_is, farkas_of_sums_is}
use Rattle.npp_rows.specs.declared.names.RowName.{RowName}
use Rattle.npp_rows.specs.declared.names.RowName.TheVariants.{Cap}
use Rattle.npp_rows.specs.declared.names.Multiplier.{Multiplier}
use Rattle.npp_rows.specs.RowOrder.{has_row, is_before, is_same_row, row_key, are_rising, last_of, is_behind, are_rows, are_in_order, are_positive, multiplier_of, multipliers_of, DoRise}
use Rattle.npp_rows.specs.Places.{row_place, StandsAt}
use Rattle.npp_rows.specs.Named.{NamedProgram, numbered, terms_from}
use Rattle.npp_rows.specs.Meaning.{multiplier_value}
use Rattle.npp_rows.specs.declared.names.ColumnName.{ColumnName}
use Rattle.npp_rows.specs.declared.multiplier_fault.MultiplierFault.TheVariants.{NoSuchRow, NotAfter, NotPositive}
use Rattle.npp_rows.specs.Taken.{last_row, is_after, next_fault, placed_one, placed, Taken, AreAdded, AreTaken}
use Rattle.npp_rows.proofs.NamedLaws.{terms_are_in_order}
use Rattle.npp_rows.proofs.ProgramLaws.{row_named}
use Rattle.npp_rows.proofs.KeyLaws.{same_of, place_of, place_before}
use Rattle.npp_rows.proofs.RowPlaces.{row_same, place_has, no_place_has}

-- ---- one more multiplier

and_yes : (a : Bool) → (a && true) ≡ a
and_yes true = refl
and_yes false = refl

and_assoc : (a b c : Bool) → (a && (b && c)) ≡ ((a && b) && c)
and_assoc true b c = refl
and_assoc false b c = refl

module _ {X : Type 0} where
  last_of_push : (xs : List X) (x : X) → last_of (xs ++ x ∷ []) ≡ Some x
  last_of_push [] x = refl
  last_of_push (y ∷ []) x = refl
  last_of_push (y ∷ z ∷ rest) x = last_of_push (z ∷ rest) x

  module _ (before : X → X → Bool) where
    -- one more behind the last
    pub rising_push : (xs : List X) (x : X) → are_rising before (xs ++ x ∷ []) ≡ (are_rising before xs && is_behind before (last_of xs) x)
    rising_push [] x = refl
    rising_push (y ∷ []) x = and_yes (before y x)
    rising_push (y ∷ z ∷ rest) x = ap (λ b. before y z && b) (rising_push (z ∷ rest) x) ∙ and_assoc (before y z) (are_rising before (z ∷ rest)) (is_behind before (last_of (z ∷ rest)) x)

    -- the front of a list that rises
    pub rising_front : (xs ys : List X) → are_rising before (xs ++ ys) ≡ true → are_rising before xs ≡ true
    rising_front [] ys h = refl
    rising_front (x ∷ []) ys h = refl
    rising_front (x ∷ z ∷ rest) ys h =
        let parts = and_parts (before x z) (are_rising before (z ∷ rest ++ ys)) h in
        and_from (before x z) (are_rising before (z ∷ rest)) parts.0 (rising_front (z ∷ rest) ys parts.1)

    -- so far the list rises
    abbrev pub RisesTo : List X → ℕ → Option X → Type 0
    RisesTo xs i last = (are_rising before (take i xs) ≡ true) × (last ≡ last_of (take i xs))

    pub rises_more : (xs : List X) (i : ℕ) (x : X) (last : Option X) → i < length xs → x ≡ get_or xs i x → is_behind before last x ≡ true → RisesTo xs i last → RisesTo xs (i + 1) (Some x)
    rises_more xs i x last l is behind h =
        let more : take (i + 1) xs ≡ take i xs ++ x ∷ [] = take_more xs i x l ∙ ap (λ y. take i xs ++ y ∷ []) (sym is) in
        (ap (are_rising before) more ∙ rising_push (take i xs) x ∙ rw (h.0, ← h.1, behind) refl, sym (ap last_of more ∙ last_of_push (take i xs) x))

    pub rises_no_more : (xs : List X) (i : ℕ) (x : X) (last : Option X) → i < length xs → x ≡ get_or xs i x → is_behind before last x ≡ false → RisesTo xs i last → false ≡ are_rising before xs
    rises_no_more xs i x last l is behind h =
        let more : take (i + 1) xs ≡ take i xs ++ x ∷ [] = take_more xs i x l ∙ ap (λ y. take i xs ++ y ∷ []) (sym is) in
        let front : are_rising before (take (i + 1) xs) ≡ false = ap (are_rising before) more ∙ rising_push (take i xs) x ∙ rw (h.0, ← h.1, behind) refl in
        sym (false_from_ne_true (are_rising before xs) (λ whole. (let e = rising_front (take (i + 1) xs) (drop (i + 1) xs) (ap (are_rising before) (take-append-drop (i + 1) xs) ∙ whole) in cc)))

    pub rises_whole : (xs : List X) (i : ℕ) (last : Option X) → length xs ≤ i → RisesTo xs i last → true ≡ are_rising before xs
    rises_whole xs i last l h = sym (sym (ap (are_rising before) (take_all i xs l)) ∙ h.0)

pub last_push : (ys : List (Multiplier Rational)) (y : Multiplier Rational) → last_row (ys ++ y ∷ []) ≡ Some y.row
last_push ys y = ap last_of (map_push (λ (z : Multiplier Rational). z.row) ys y) ∙ last_of_push (map (λ (z : Multiplier Rational). z.row) ys) y.row

pub order_push : (ys : List (Multiplier Rational)) (y : Multiplier Rational) → are_in_order (ys ++ y ∷ []) ≡ (are_in_order ys && is_after (last_row ys) y.row)
order_push ys y = ap (are_rising is_before) (map_push (λ (z : Multiplier Rational). z.row) ys y) ∙ rising_push is_before (map (λ (z : Multiplier Rational). z.row) ys) y.row

all_push : {X : Type 0} (test : X → Bool) (xs : List X) (x : X) → list_all test xs ≡ true → test x ≡ true → list_all test (xs ++ x ∷ []) ≡ true
all_push test xs x e f = list_all-append test xs (x ∷ []) ∙ rw (e, f) refl

pub rows_push : (rows : List RowName) (ys : List (Multiplier Rational)) (y : Multiplier Rational) → are_rows rows ys ≡ true → has_row rows y.row ≡ true → are_rows rows (ys ++ y ∷ []) ≡ true
rows_push rows ys y e f = all_push (λ z. has_row rows z.row) ys y e f

pub positive_push : (ys : List (Multiplier Rational)) (y : Multiplier Rational) → are_positive ys ≡ true → is_less zero_ℚ y.value ≡ true → are_positive (ys ++ y ∷ []) ≡ true
positive_push ys y e f = all_push (λ z. is_less zero_ℚ z.value) ys y e f

pub in_order_push : (ys : List (Multiplier Rational)) (y : Multiplier Rational) → are_in_order ys ≡ true → is_after (last_row ys) y.row ≡ true → are_in_order (ys ++ y ∷ []) ≡ true
in_order_push ys y e f = order_push ys y ∙ rw (e, f) refl

-- ---- the sums with one more row

module _ (p : NamedProgram) where
  -- the row that stands at a place of the numbered program
  pub numbered_row : (r : RowName) (i : ℕ) → StandsAt p.rows i r → row_of (numbered p) i ≡ row_named p r
  numbered_row r i h = get_or-map (row_named p) p.rows i r no_row h.within ∙ ap (row_named p) h.is

  pub sums_more : (m : ℕ) (ys : List (Multiplier Rational)) (y : Multiplier Rational) (s t : Sums Rational) (place : ℕ) → row_place p.rows y.row ≡ Some place
      → TakesRow m s t place (terms_from 0 (p.entry y.row) p.columns) (p.right y.row) y.value
      → AreSumsOf m (numbered p) (placed p.rows ys) s → AreSumsOf m (numbered p) (placed p.rows (ys ++ y ∷ [])) t
  sums_more m ys y s t place e takes are =
      let here : (placed_one p.rows y).row ≡ place = ap (λ o. unwrap_or o (length p.rows)) e in
      let row : row_of (numbered p) (placed_one p.rows y).row ≡ row_named p y.row = ap (row_of (numbered p)) here ∙ numbered_row y.row place (place_has p.rows y.row place e).0 in
      let whole : TakesRow m s t (placed_one p.rows y).row (row_of (numbered p) (placed_one p.rows y).row).terms (row_of (numbered p) (placed_one p.rows y).row).right y.value =
      subst (λ (r : Row). TakesRow m s t (placed_one p.rows y).row r.terms r.right y.value) (sym row)
      (subst (λ (i : ℕ). TakesRow m s t i (terms_from 0 (p.entry y.row) p.columns) (p.right y.row) y.value) (sym here) takes) in
      subst (λ (zs : List (RowMultiplier Rational)). AreSumsOf m (numbered p) zs t) (sym (map_push (placed_one p.rows) ys y))
      (sums_of_more m (numbered p) (placed p.rows ys) (placed_one p.rows y) s t are whole)

  -- the same of the row that the code has
  pub sums_of_row : (m : ℕ) (ys : List (Multiplier Rational)) (y : Multiplier Rational) (s t : Sums Rational) (place : ℕ) (terms : List Term) (b : Rational) → row_place p.rows y.row ≡ Some place
      → TakesRow m s t place terms b y.value → terms ≡ terms_from 0 (p.entry y.row) p.columns → b ≡ p.right y.row
      → AreSumsOf m (numbered p) (placed p.rows ys) s → AreSumsOf m (numbered p) (placed p.rows (ys ++ y ∷ [])) t
  sums_of_row m ys y s t place terms b e takes is side are =
      sums_more m ys y s t place e
      (subst (λ (ts : List Term). TakesRow m s t place ts (p.right y.row) y.value) is
      (subst (λ (q : Rational). TakesRow m s t place terms q y.value) side takes)) are

-- ---- names and places

module _ (rows : List RowName) (rises : DoRise rows) where
  row_stands : (r : RowName) (o : Option ℕ) → row_place rows r ≡ o → has_row rows r ≡ true → StandsAt rows (unwrap_or o (length rows)) r
  row_stands r None e h = let none : has_row rows r ≡ false = no_place_has rows r e in cc
  row_stands r (Some i) e h = (place_has rows r i e).0

  pub stands_placed : (y : Multiplier Rational) → has_row rows y.row ≡ true → StandsAt rows (placed_one rows y).row y.row
  stands_placed y h = row_stands y.row (row_place rows y.row) refl h

  abbrev StartsFrom : ℕ → List (Multiplier Rational) → Type 0
  StartsFrom a [] = a ≤ length rows
  StartsFrom a (y ∷ ys) = a ≤ (placed_one rows y).row

  rise_placed : (a : ℕ) (ys : List (Multiplier Rational)) → StartsFrom a ys → are_rows rows ys ≡ true → are_in_order ys ≡ true → RiseFrom a (length rows) (placed rows ys)
  rise_placed a [] start are order = start
  rise_placed a (y ∷ []) start are order =
      let here = stands_placed y (and_parts (has_row rows y.row) true are).0 in
      (start, here.within, omega (arith, here.within))
  rise_placed a (y ∷ z ∷ rest) start are order =
      let two = and_parts (has_row rows y.row) (are_rows rows (z ∷ rest)) are in
      let orders = and_parts (is_before y.row z.row) (are_in_order (z ∷ rest)) order in
      let here = stands_placed y two.0 in
      let next = stands_placed z (and_parts (has_row rows z.row) (are_rows rows rest) two.1).0 in
      let before : (placed_one rows y).row < (placed_one rows z).row = place_before row_key rows y.row z.row (placed_one rows y).row (placed_one rows z).row rises here next orders.0 in
      (start, here.within, rise_placed ((placed_one rows y).row + 1) (z ∷ rest) (omega (arith, before)) two.1 orders.1)

  point_same : (a : ℕ) (ys : List (Multiplier Rational)) (i : ℕ) (r : RowName) → are_rows rows ys ≡ true → RiseFrom a (length rows) (placed rows ys) → StandsAt rows i r → multiplier_at (placed rows ys) i ≡ multiplier_of ys r
  unfolding sum_by
  point_same a [] i r are rise at = refl
  point_same a (y ∷ rest) i r are rise at =
      let two = and_parts (has_row rows y.row) (are_rows rows rest) are in
      let here = stands_placed y two.0 in
      elim (cases_Bool (is_same_row y.row r)) [
        | inl same ↦ (
            let e : y.row ≡ r = row_same y.row r same in
            let place : row_place rows y.row ≡ Some i = place_of row_key rows y.row i rises (subst (λ (x : RowName). StandsAt rows i x) (sym e) at) in
            let there : (placed_one rows y).row ≡ i = ap (λ o. unwrap_or o (length rows)) place in
            ap (multiplier_at (placed rows (y ∷ rest))) (sym there) ∙ first_named (length rows) a (placed_one rows y) (placed rows rest) rise ∙ rw same refl)
        | inr other ↦ (
            let apart : (placed_one rows y).row ≢ i = λ e. (
            let e2 : y.row ≡ r = sym here.is ∙ get_or_default rows (placed_one rows y).row y.row r here.within ∙ ap (λ k. get_or rows k r) e ∙ at.is in
            let yes : is_same_row y.row r ≡ true = same_self e2 in cc) in
            ap (λ q. q +ℚ multiplier_at (placed rows rest) i) (unit_other (placed_one rows y).row i y.value apart) ∙ zero-+ℚ (multiplier_at (placed rows rest) i)
            ∙ point_same ((placed_one rows y).row + 1) rest i r two.1 rise.2 at ∙ rw other refl)
      ]
    where
      same_self : {r s : RowName} → r ≡ s → is_same_row r s ≡ true
      same_self {r} {s} e = same_of (row_key r) (row_key s) (ap (λ z. (row_key z).0) e) (ap (λ z. (row_key z).1) e) (ap (λ z. (row_key z).2) e)

-- multipliers whose places rise are multipliers of rows
lows : (n a : ℕ) (ys : List (RowMultiplier Rational)) → RiseFrom a n ys → All (λ y. a ≤ y.row) ys
lows n a [] h = All-nil (λ y. a ≤ y.row)
lows n a (y ∷ ys) h = All-cons (λ z. a ≤ z.row) y ys h.0 (λ k d l. omega (arith, lows n (y.row + 1) ys h.2 k d l, h.0))

pub multipliers_of_rise : (n a : ℕ) (ys : List (RowMultiplier Rational)) → RiseFrom a n ys → AreRowMultipliers n ys
multipliers_of_rise n a [] h = record { rising = λ i j d l k. absurd (omega (arith, k)); in_range = All-nil (λ y. y.row < n) }
multipliers_of_rise n a (y ∷ ys) h =
    let rest = multipliers_of_rise n (y.row + 1) ys h.2 in
    record {
      rising = AllPairs-cons (λ s t. s.row < t.row) y ys (λ k d l. omega (arith, lows n (y.row + 1) ys h.2 k d l)) rest.rising;
      in_range = All-cons (λ z. z.row < n) y ys h.1 rest.in_range;
    }

-- ---- the dense multipliers

module _ (rows : List RowName) (rises : DoRise rows) (ys : List (Multiplier Rational)) (are : are_rows rows ys ≡ true) (order : are_in_order ys ≡ true) where
  from_start : (zs : List (Multiplier Rational)) → StartsFrom rows rises 0 zs
  from_start [] = omega arith
  from_start (z ∷ zs) = omega arith

  all_rise : RiseFrom 0 (length rows) (placed rows ys)
  all_rise = rise_placed rows rises 0 ys (from_start ys) are order

  pub placed_are_rows : AreRowMultipliers (length rows) (placed rows ys)
  placed_are_rows = multipliers_of_rise (length rows) 0 (placed rows ys) all_rise

  pub placed_are_dense : dense (length rows) (placed rows ys) ≡ multipliers_of rows ys
  placed_are_dense =
      same_lists (dense (length rows) (placed rows ys)) (multipliers_of rows ys)
      (length-map-range_with_len (multiplier_at (placed rows ys)) 0 (length rows) ∙ sym (length-map rows (multiplier_of ys)))
      (λ k d l. here k d (rw (length-map-range_with_len (multiplier_at (placed rows ys)) 0 (length rows)) at l))
    where
      here : (k : ℕ) (d : Rational) → k < length rows → get_or (dense (length rows) (placed rows ys)) k d ≡ get_or (multipliers_of rows ys) k d
      here k d l =
          let at : StandsAt rows k (get_or rows k (Cap 0)) = record { within = l; is = get_or_default rows k (get_or rows k (Cap 0)) (Cap 0) l } in
          get_or-map-range_with_len (multiplier_at (placed rows ys)) 0 (length rows) k k d l (omega arith)
          ∙ point_same rows rises 0 ys k (get_or rows k (Cap 0)) are all_rise at
          ∙ sym (get_or-map (multiplier_of ys) rows k (Cap 0) d l)

-- ---- the sums of taken rows are those of the dense multipliers

module _ (w : ℕ) (wide : IsWidth w) (p : NamedProgram) (rises : DoRise p.rows) (ys : List (Multiplier Rational)) (are : are_rows p.rows ys ≡ true) (order : are_in_order ys ≡ true) (s : Sums Rational) (sums : AreSumsOf (limit_of w) (numbered p) (placed p.rows ys) s) where
  rows_size : length (numbered p).rows ≡ length p.rows
  rows_size = length-map p.rows (row_named p)

  named : AreRowMultipliers (length (numbered p).rows) (placed p.rows ys)
  named = rw rows_size (placed_are_rows p.rows rises ys are order)

  vector : dense (length (numbered p).rows) (placed p.rows ys) ≡ multipliers_of p.rows ys
  vector = ap (λ n. dense n (placed p.rows ys)) rows_size ∙ placed_are_dense p.rows rises ys are order

  pub column_named : (j : ℕ) → j < length p.columns → column_of s j ≡ checked_column (limit_of w) (numbered p) (multipliers_of p.rows ys) j
  column_named j l = column_is w wide (numbered p) (placed p.rows ys) s named sums j l ∙ ap (λ y. checked_column (limit_of w) (numbered p) y j) vector

  pub right_named : s.right ≡ checked_right (limit_of w) (numbered p) (multipliers_of p.rows ys)
  right_named = right_is w wide (numbered p) (placed p.rows ys) s named sums ∙ ap (checked_right (limit_of w) (numbered p)) vector

  pub dual_named : dual_of_sums s (map p.goal p.columns) ≡ dual_verdict (limit_of w) (numbered p) (multipliers_of p.rows ys)
  dual_named = dual_of_sums_is w wide (numbered p) (placed p.rows ys) s named sums ∙ ap (dual_verdict (limit_of w) (numbered p)) vector

  pub farkas_named : farkas_of_sums s ≡ farkas_verdict (limit_of w) (numbered p) (multipliers_of p.rows ys)
  farkas_named = farkas_of_sums_is w wide (numbered p) (placed p.rows ys) s named sums ∙ ap (farkas_verdict (limit_of w) (numbered p)) vector

-- ---- sums of the code

module _ {N : Type 0} (value : N → Rational) (m : ℕ) (p : NamedProgram) where
  -- no row is taken at first
  pub nothing_taken : (n : ℕ) (t : Taken N) → length p.columns ≡ n → t.last ≡ None → AreEmpty n (sums_meant value t.sums) → AreTaken value m p [] t
  nothing_taken n t size last empty = record {
    rows = refl;
    order = refl;
    positive = refl;
    added = record { last = last; sums = sums_of_none m (numbered p) (sums_meant value t.sums) (rw (← size) at empty) };
  }

  -- one more row is added
  pub row_added : (ys : List (Multiplier Rational)) (y : Multiplier Rational) (old new : Taken N) (place : ℕ) (terms : List Term) (b : Rational) → row_place p.rows y.row ≡ Some place
      → TakesRow m (sums_meant value old.sums) (sums_meant value new.sums) place terms b y.value → terms ≡ terms_from 0 (p.entry y.row) p.columns → b ≡ p.right y.row → new.last ≡ Some y.row
      → AreAdded value m p ys old → AreAdded value m p (ys ++ y ∷ []) new
  row_added ys y old new place terms b e takes is side last are = record {
    last = last ∙ sym (last_push ys y);
    sums = sums_of_row p m ys y (sums_meant value old.sums) (sums_meant value new.sums) place terms b e takes is side are.sums;
  }

  -- one more multiplier is taken where it has no fault
  pub one_taken : (ys : List (Multiplier Rational)) (y : Multiplier Rational) (old new : Taken N) → next_fault p.rows old.last y ≡ None → AreAdded value m p (ys ++ y ∷ []) new
      → AreTaken value m p ys old → AreTaken value m p (ys ++ y ∷ []) new
  one_taken ys y old new none added are =
      let parts = no_next_fault (has_row p.rows y.row) (is_after old.last y.row) (is_less zero_ℚ y.value) none in
      record {
        rows = rows_push p.rows ys y are.rows parts.0;
        order = in_order_push ys y are.order (rw are.added.last at parts.1);
        positive = positive_push ys y are.positive parts.2;
        added = added;
      }
    where
      no_next_fault : (a b c : Bool) → or_else (cond a None (Some NoSuchRow)) (or_else (cond b None (Some NotAfter)) (cond c None (Some NotPositive))) ≡ None → (a ≡ true) × (b ≡ true) × (c ≡ true)
      no_next_fault true true true e = (refl, refl, refl)
      no_next_fault true true false e = cc
      no_next_fault true false c e = cc
      no_next_fault false b c e = cc

-- the entries of a row can be taken
pub entries_rise : {N : Type 0} (value : N → Rational) (e : ColumnName → Rational) (columns : List ColumnName) (entries : List (Entry N)) → terms_of value entries ≡ terms_from 0 e columns → AllPairs (λ s t. s.column < t.column) entries
entries_rise value e columns entries is = rise_of_terms value entries (rw is (terms_are_in_order e columns).rising)

pub entries_inside : {N : Type 0} (value : N → Rational) (e : ColumnName → Rational) (columns : List ColumnName) (entries : List (Entry N)) (n : ℕ) → length columns ≡ n → terms_of value entries ≡ terms_from 0 e columns → All (λ t. t.column < n) entries
entries_inside value e columns entries n size is = in_range_of_terms value n entries (rw (is, ← size) (terms_are_in_order e columns).in_range)

-- ---- tests of each element, one after another

module _ {X : Type 0} (p : X → Bool) (xs : List X) (i : ℕ) where
  pub passes_more : (x : X) → i < length xs → x ≡ get_or xs i x → p x ≡ true → list_all p (take i xs) ≡ true → list_all p (take (i + 1) xs) ≡ true
  passes_more x l is e h = list_all_more p xs i x l ∙ and_from (list_all p (take i xs)) (p (get_or xs i x)) h (ap p (sym is) ∙ e)

  pub passes_not : (x : X) → i < length xs → x ≡ get_or xs i x → p x ≡ false → false ≡ list_all p xs
  passes_not x l is e = sym (list_all_at p xs i x l (ap p (sym is) ∙ e))

  pub passes_all : length xs ≤ i → list_all p (take i xs) ≡ true → true ≡ list_all p xs
  passes_all l h = sym (sym (ap (list_all p) (take_all i xs l)) ∙ h)

  pub passes_each : (x : X) → i < length xs → x ≡ get_or xs i x → list_all p xs ≡ true → p x ≡ true
  passes_each x l is whole = true_from_ne_false (p x) (λ f. (let e = passes_not x l is f in cc))

-- a row that is sought is there where it has a place
pub sought : (rows : List RowName) (r : RowName) (o : Option ℕ) (b : Bool) → o ≡ row_place rows r → is_some o ≡ not b → has_row rows r ≡ not b
sought rows r None b e h = no_place_has rows r (sym e) ∙ h
sought rows r (Some i) b e h = (place_has rows r i (sym e)).1 ∙ h

pub some_place : (rows : List RowName) (r : RowName) (o : Option ℕ) → o ≡ row_place rows r → has_row rows r ≡ true → IsSome o
some_place rows r None e h = let none : has_row rows r ≡ false = no_place_has rows r (sym e) in cc
some_place rows r (Some i) e h = refl

-- the multipliers so far
pub meant_more : {N : Type 0} (value : N → Rational) (ys : List (Multiplier N)) (i : ℕ) (y : Multiplier N) → i < length ys → y ≡ get_or ys i y
    → map (multiplier_value value) (take (i + 1) ys) ≡ map (multiplier_value value) (take i ys) ++ multiplier_value value y ∷ []
meant_more value ys i y l is = ap (map (multiplier_value value)) (take_more ys i y l ∙ ap (λ z. take i ys ++ z ∷ []) (sym is)) ∙ map_push (multiplier_value value) (take i ys) y

-- the rows of multipliers of the code
pub rows_meant : {N : Type 0} (value : N → Rational) (rows : List RowName) (ys : List (Multiplier N)) → are_rows rows (map (multiplier_value value) ys) ≡ list_all (λ (y : Multiplier N). has_row rows y.row) ys
rows_meant value rows ys = list_all-map (λ z. has_row rows z.row) (multiplier_value value) ys
