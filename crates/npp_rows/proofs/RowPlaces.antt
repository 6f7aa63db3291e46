-- The rows and columns of the programs rise by name, and where each of them stands.
use Rattle.std.proofs.Common.{◌≡◌, ℕ, zero, suc, ◌+◌, ◌<◌, true, false, cond, List, [], ◌∷◌, ◌++◌, length, map, get_or, Option, Some, None, All, refl, sym, ap, subst, ◌∙◌, arith, inl, inr, eq-or-lt_of_le, le_of_suc-le-suc}
use Rattle.std.specs.Prelude.{◌==◌, MatchOption}
use Rattle.std.specs.List.{AllPairs, range_with_len, flat_map}
use Rattle.std.proofs.lemmas.Bool.{cases_lt}
use Rattle.std.proofs.lemmas.List.{get_or-map, length-map, length-append, get_or_append_left, get_or-append-add, get_or_past, append-nil}
use Rattle.std.proofs.lemmas.List.Elements.{All-append, All-map}
use Rattle.std.proofs.lemmas.List.FromFn.{length-range_with_len, get_or-range_with_len}
use Rattle.std.proofs.lemmas.Grind.{flat_map-append}
use Rattle.npp_cover.specs.Replaces.{sum_below}
use Rattle.npp_rows.specs.declared.names.RowName.{RowName}
use Rattle.npp_rows.specs.declared.names.RowName.TheVariants.{Cap, Follow, Below, Use, Link, One, OneLow, Cut}
use Rattle.npp_rows.specs.declared.names.ColumnName.{ColumnName}
use Rattle.npp_rows.specs.declared.names.ColumnName.TheVariants.{Toll, Share, Paid}
use Rattle.npp_rows.specs.PathModel.{PathModel, tolls, commodities, paths, path_count}
use Rattle.npp_rows.specs.Parts.{IsAllowed, part_at, chosen}
use Rattle.npp_rows.specs.Family.{share_count, paid_count}
use Rattle.npp_rows.specs.RowOrder.{row_key, is_same_row, has_row, DoRise}
use Rattle.npp_rows.specs.Places.{column_key, is_same_column, row_place, column_place, StandsAt, IsPlaceIn}
use Rattle.npp_rows.specs.Relax.{relaxation_columns, relaxation_rows, shares, on_allowed_tolls, allowed_tolls, cap_rows, follow_rows}
use Rattle.npp_rows.specs.Inverse.{inverse, choice_rows, chosen_rows}
use Rattle.npp_rows.specs.Rows.{IsRow, IsChoiceRow, IsChoiceColumn, HasColumn, pairs_from, shares_from, paid_from}
use Rattle.npp_rows.proofs.ValueLaws.{range_rises}
use Rattle.npp_rows.proofs.RelaxationLaws.{all_range, all_flat}
use Rattle.npp_rows.proofs.ListLaws.{range_push}
use Rattle.npp_rows.proofs.StartLaws.{sum_below_same}
use Rattle.npp_rows.proofs.TermLaws.{flat_size}
use Rattle.npp_rows.proofs.FamilyLaws.{used_rises}
use Rattle.npp_rows.proofs.ProgramLaws.{all_rows, all_choice_rows, pairs_all}
use Rattle.npp_rows.proofs.KeyLaws.{RiseBy, RisesAt, RisesBelow, first_kind, one_kind, singles_at, pairs_at, pieces_at, less_by_commodity, less_by_last, same_tells, place_of, place_none, place_some, place_absent}

-- ---- a name is known by its key

row_from : ℕ → ℕ → ℕ → RowName
row_from c k a =
    cond (c == 0) (Cap a)
    (cond (c == 1) (Follow k a)
    (cond (c == 2) (Below a k)
    (cond (c == 3) (Use a k)
    (cond (c == 4) (Link a k)
    (cond (c == 5) (One k)
    (cond (c == 6) (OneLow k)
    (Cut a)))))))

row_back : (r : RowName) → row_from (row_key r).0 (row_key r).1 (row_key r).2 ≡ r
unfolding row_from
row_back (Cap a) = refl
row_back (Follow k q) = refl
row_back (Below a k) = refl
row_back (Use a k) = refl
row_back (Link a k) = refl
row_back (One k) = refl
row_back (OneLow k) = refl
row_back (Cut i) = refl

pub row_same : (r s : RowName) → is_same_row r s ≡ true → r ≡ s
row_same r s h =
    let e = same_tells (row_key r) (row_key s) h in
    sym (row_back r) ∙ (λ i. row_from (e.0 i) (e.1 i) (e.2 i)) ∙ row_back s

column_from : ℕ → ℕ → ℕ → ColumnName
column_from c k a = cond (c == 0) (Toll a) (cond (c == 1) (Share k a) (Paid a k))

column_back : (c : ColumnName) → column_from (column_key c).0 (column_key c).1 (column_key c).2 ≡ c
unfolding column_from
column_back (Toll a) = refl
column_back (Share k p) = refl
column_back (Paid a k) = refl

pub column_same : (c d : ColumnName) → is_same_column c d ≡ true → c ≡ d
column_same c d h =
    let e = same_tells (column_key c) (column_key d) h in
    sym (column_back c) ∙ (λ i. column_from (e.0 i) (e.1 i) (e.2 i)) ∙ column_back d

-- ---- rows and columns rise

caps_rise : (m : PathModel) → RisesAt row_key 0 (cap_rows m)
caps_rise m = singles_at row_key 0 Cap (tolls m) (range_rises 0 (length m.caps)) (λ p q l. less_by_last (row_key (Cap p)) (row_key (Cap q)) refl refl l) (λ p. refl)

follows_rise : (m : PathModel) → RisesAt row_key 1 (flat_map (follow_rows m) (commodities m))
follows_rise m = pairs_at row_key 1 (λ q k. Follow k q) (paths m) (λ q k. refl) (λ q k. refl) (λ q k. refl) (λ k. range_rises 0 (path_count m k)) (length m.covers)

module _ (m : PathModel) (parts : List (List ℕ)) where
  belows_rise : RisesAt row_key 2 (on_allowed_tolls m parts Below)
  belows_rise = pairs_at row_key 2 Below (allowed_tolls m parts) (λ a k. refl) (λ a k. refl) (λ a k. refl) (used_rises m parts) (length m.covers)

  uses_rise : RisesAt row_key 3 (on_allowed_tolls m parts Use)
  uses_rise = pairs_at row_key 3 Use (allowed_tolls m parts) (λ a k. refl) (λ a k. refl) (λ a k. refl) (used_rises m parts) (length m.covers)

  links_rise : RisesAt row_key 4 (on_allowed_tolls m parts Link)
  links_rise = pairs_at row_key 4 Link (allowed_tolls m parts) (λ a k. refl) (λ a k. refl) (λ a k. refl) (used_rises m parts) (length m.covers)

  ones_rise : RisesAt row_key 5 (map One (commodities m))
  ones_rise = singles_at row_key 5 One (commodities m) (range_rises 0 (length m.covers)) (λ p q l. less_by_commodity (row_key (One p)) (row_key (One q)) refl l) (λ p. refl)

  lows_rise : RisesAt row_key 6 (map OneLow (commodities m))
  lows_rise = singles_at row_key 6 OneLow (commodities m) (range_rises 0 (length m.covers)) (λ p q l. less_by_commodity (row_key (OneLow p)) (row_key (OneLow q)) refl l) (λ p. refl)

  cuts_rise : (n : ℕ) → RisesAt row_key 7 (map Cut (range_with_len 0 n))
  cuts_rise n = singles_at row_key 7 Cut (range_with_len 0 n) (range_rises 0 n) (λ p q l. less_by_last (row_key (Cut p)) (row_key (Cut q)) refl refl l) (λ p. refl)

  -- the rows of a relaxation rise strictly
  pub relaxation_rows_rise : (n : ℕ) → DoRise (relaxation_rows m parts n)
  relaxation_rows_rise n =
      let kinds : RisesBelow row_key 8 (relaxation_rows m parts n) =
      one_kind row_key 7 8 _ _ (omega arith)
      (one_kind row_key 6 7 _ _ (omega arith)
      (one_kind row_key 5 6 _ _ (omega arith)
      (one_kind row_key 4 5 _ _ (omega arith)
      (one_kind row_key 3 4 _ _ (omega arith)
      (one_kind row_key 2 3 _ _ (omega arith)
      (one_kind row_key 1 2 _ _ (omega arith)
      (first_kind row_key 0 1 _ (omega arith) (caps_rise m))
      (follows_rise m)) belows_rise) uses_rise) links_rise) ones_rise) lows_rise) (cuts_rise n) in
      kinds.rises

  part_rises : IsAllowed m parts → (k : ℕ) → AllPairs (λ p q. p < q) (part_at parts k)
  part_rises allowed k = elim (cases_lt k (length parts)) [
    | inl inside ↦ (allowed.each k inside).rising
    | inr outside ↦ rw (get_or_past parts k [] outside) (λ i j d l u. absurd (omega (arith, u)))
  ]

  -- so do its columns
  pub relaxation_columns_rise : IsAllowed m parts → RiseBy column_key (relaxation_columns m parts)
  relaxation_columns_rise allowed =
      let kinds : RisesBelow column_key 3 (relaxation_columns m parts) =
      one_kind column_key 2 3 _ _ (omega arith)
      (one_kind column_key 1 2 _ _ (omega arith)
      (first_kind column_key 0 1 _ (omega arith)
      (singles_at column_key 0 Toll (tolls m) (range_rises 0 (length m.caps)) (λ p q l. less_by_last (column_key (Toll p)) (column_key (Toll q)) refl refl l) (λ p. refl)))
      (pairs_at column_key 1 (λ p k. Share k p) (part_at parts) (λ p k. refl) (λ p k. refl) (λ p k. refl) (part_rises allowed) (length m.covers)))
      (pairs_at column_key 2 Paid (allowed_tolls m parts) (λ a k. refl) (λ a k. refl) (λ a k. refl) (used_rises m parts) (length m.covers)) in
      kinds.rises

-- the rows of a choice rise strictly, whichever paths are chosen
pub choice_rows_rise : (m : PathModel) (choice : ℕ → Option ℕ) → DoRise (choice_rows m choice)
choice_rows_rise m choice =
    let kinds : RisesBelow row_key 2 (choice_rows m choice) =
    one_kind row_key 1 2 _ _ (omega arith)
    (first_kind row_key 0 1 _ (omega arith) (caps_rise m))
    (pieces_at row_key 1 (λ k. chosen_rows m k (choice k)) (λ k. own k (choice k)) (λ k. each k (choice k)) (length m.covers)) in
    kinds.rises
  where
    own : (k : ℕ) (o : Option ℕ) → All (λ r. ((row_key r).0 ≡ 1) × ((row_key r).1 ≡ k)) (chosen_rows m k o)
    own k None = λ i d l. absurd (omega (arith, l))
    own k (Some p) = All-map (λ r. ((row_key r).0 ≡ 1) × ((row_key r).1 ≡ k)) (Follow k) (paths m k) (λ i d l. (refl, refl))

    each : (k : ℕ) (o : Option ℕ) → RiseBy row_key (chosen_rows m k o)
    each k None = λ i j d l u. absurd (omega (arith, u))
    each k (Some p) = (singles_at row_key 1 (Follow k) (paths m k) (range_rises 0 (path_count m k)) (λ p q l. less_by_last (row_key (Follow k p)) (row_key (Follow k q)) refl refl l) (λ p. refl)).rises

pub choice_columns_rise : (m : PathModel) → RiseBy column_key (map Toll (tolls m))
choice_columns_rise m = (singles_at column_key 0 Toll (tolls m) (range_rises 0 (length m.caps)) (λ p q l. less_by_last (column_key (Toll p)) (column_key (Toll q)) refl refl l) (λ p. refl)).rises

-- ---- where things stand in lists that are made of blocks

module _ {X : Type 0} where
  pub stands_left : (xs ys : List X) (i : ℕ) (x : X) → StandsAt xs i x → StandsAt (xs ++ ys) i x
  stands_left xs ys i x h = record {
    within = omega (arith, length-append xs ys, h.within);
    is = get_or_append_left xs ys x i h.within ∙ h.is;
  }

  pub stands_right : (xs ys : List X) (n i j : ℕ) (x : X) → length xs ≡ n → j ≡ n + i → StandsAt ys i x → StandsAt (xs ++ ys) j x
  stands_right xs ys n i j x size e h =
      let there : j ≡ length xs + i = omega (arith, size, e) in
      record {
        within = omega (arith, length-append xs ys, h.within, there);
        is = ap (λ k. get_or (xs ++ ys) k x) there ∙ get_or-append-add xs ys i x ∙ h.is;
      }

  pub stands_map : {Y : Type 0} (f : Y → X) (ys : List Y) (i : ℕ) (y : Y) → StandsAt ys i y → StandsAt (map f ys) i (f y)
  stands_map f ys i y h = record {
    within = rw (length-map ys f) h.within;
    is = get_or-map f ys i y (f y) h.within ∙ ap f h.is;
  }

  pub stands_single : (f : ℕ → X) (n i : ℕ) → i < n → StandsAt (map f (range_with_len 0 n)) i (f i)
  stands_single f n i h = stands_map f (range_with_len 0 n) i i (record {
    within = rw (length-range_with_len 0 n) h;
    is = get_or-range_with_len 0 n i i h ∙ omega arith;
  })

  pieces_end : (g : ℕ → List X) (n : ℕ) → flat_map g (range_with_len 0 (suc n)) ≡ flat_map g (range_with_len 0 n) ++ g n
  pieces_end g n =
      let s : suc n ≡ n + 1 = omega arith in
      ap (λ j. flat_map g (range_with_len 0 j)) s ∙ ap (flat_map g) (range_push 0 n n (omega arith)) ∙ flat_map-append g (range_with_len 0 n) (n ∷ [])
      ∙ ap (λ u. flat_map g (range_with_len 0 n) ++ u) (append-nil (g n))

  pub stands_piece : (g : ℕ → List X) (n k i j : ℕ) (x : X) → k < n → j ≡ sum_below (λ l. length (g l)) k + i → StandsAt (g k) i x → StandsAt (flat_map g (range_with_len 0 n)) j x
  stands_piece g zero k i j x l e h = absurd (omega (arith, l))
  stands_piece g (suc n) k i j x l e h = subst (λ (xs : List X). StandsAt xs j x) (sym (pieces_end g n)) (elim (eq-or-lt_of_le (le_of_suc-le-suc l)) [
    | inl here ↦ stands_right (flat_map g (range_with_len 0 n)) (g n) (sum_below (λ l. length (g l)) n) i j x (flat_size g n) (rw here at e) (subst (λ (s : ℕ). StandsAt (g s) i x) here h)
    | inr below ↦ stands_left (flat_map g (range_with_len 0 n)) (g n) j x (stands_piece g n k i j x below e h)
  ])

-- ---- where the rows of a relaxation stand

module _ (m : PathModel) where
  follow_starts : (k : ℕ) → sum_below (λ l. length (follow_rows m l)) k ≡ sum_below (path_count m) k
  follow_starts k = sum_below_same (λ l. length (follow_rows m l)) (path_count m) k (λ l u. rw (length-map (paths m l) (Follow l)) (length-range_with_len 0 (path_count m l)))

  pub caps_size : length (cap_rows m) ≡ length m.caps
  caps_size = rw (length-map (tolls m) Cap) (length-range_with_len 0 (length m.caps))

  front_size : length (cap_rows m ++ flat_map (follow_rows m) (commodities m)) ≡ length m.caps + sum_below (path_count m) (length m.covers)
  front_size = omega (arith, length-append (cap_rows m) (flat_map (follow_rows m) (commodities m)), caps_size, flat_size (follow_rows m) (length m.covers), follow_starts (length m.covers))

  pub cap_stands : (a : ℕ) → a < length m.caps → StandsAt (cap_rows m ++ flat_map (follow_rows m) (commodities m)) a (Cap a)
  cap_stands a h = stands_left _ _ a (Cap a) (stands_single Cap (length m.caps) a h)

  pub follow_stands : (k q j : ℕ) → k < length m.covers → q < path_count m k → j ≡ length m.caps + sum_below (path_count m) k + q
      → StandsAt (cap_rows m ++ flat_map (follow_rows m) (commodities m)) j (Follow k q)
  follow_stands k q j h u e =
      stands_right _ _ (length m.caps) (sum_below (path_count m) k + q) j (Follow k q) caps_size (omega (arith, e))
      (stands_piece (follow_rows m) (length m.covers) k q _ (Follow k q) h (omega (arith, follow_starts k)) (stands_single (Follow k) (path_count m k) q u))

  module _ (parts : List (List ℕ)) where
    pairs_starts : {X : Type 0} (name : ℕ → ℕ → X) (k : ℕ) → sum_below (λ l. length (map (λ a. name a l) (allowed_tolls m parts l))) k ≡ sum_below (paid_count m parts) k
    pairs_starts name k = sum_below_same (λ l. length (map (λ a. name a l) (allowed_tolls m parts l))) (paid_count m parts) k (λ l u. length-map (allowed_tolls m parts l) (λ a. name a l))

    pairs_size : {X : Type 0} (name : ℕ → ℕ → X) → length (on_allowed_tolls m parts name) ≡ sum_below (paid_count m parts) (length m.covers)
    pairs_size name = flat_size (λ l. map (λ a. name a l) (allowed_tolls m parts l)) (length m.covers) ∙ pairs_starts name (length m.covers)

    pair_stands : {X : Type 0} (name : ℕ → ℕ → X) (a k i j : ℕ) → k < length m.covers → StandsAt (allowed_tolls m parts k) i a → j ≡ sum_below (paid_count m parts) k + i → StandsAt (on_allowed_tolls m parts name) j (name a k)
    pair_stands name a k i j h at e =
        stands_piece (λ l. map (λ b. name b l) (allowed_tolls m parts l)) (length m.covers) k i j (name a k) h (omega (arith, e, pairs_starts name k)) (stands_map (λ b. name b k) (allowed_tolls m parts k) i a at)

    -- how many rows stand before a kind
    belows_size : length (cap_rows m ++ flat_map (follow_rows m) (commodities m) ++ on_allowed_tolls m parts Below) ≡ pairs_from m parts 1
    belows_size = omega (arith, length-append (cap_rows m ++ flat_map (follow_rows m) (commodities m)) (on_allowed_tolls m parts Below), front_size, pairs_size Below)

    uses_size : length (cap_rows m ++ flat_map (follow_rows m) (commodities m) ++ on_allowed_tolls m parts Below ++ on_allowed_tolls m parts Use) ≡ pairs_from m parts 2
    uses_size = omega (arith, length-append (cap_rows m ++ flat_map (follow_rows m) (commodities m) ++ on_allowed_tolls m parts Below) (on_allowed_tolls m parts Use), belows_size, pairs_size Use)

    links_size : length (cap_rows m ++ flat_map (follow_rows m) (commodities m) ++ on_allowed_tolls m parts Below ++ on_allowed_tolls m parts Use ++ on_allowed_tolls m parts Link) ≡ pairs_from m parts 3
    links_size = omega (arith, length-append (cap_rows m ++ flat_map (follow_rows m) (commodities m) ++ on_allowed_tolls m parts Below ++ on_allowed_tolls m parts Use) (on_allowed_tolls m parts Link), uses_size, pairs_size Link)

    singles_size : (name : ℕ → RowName) → length (map name (commodities m)) ≡ length m.covers
    singles_size name = rw (length-map (commodities m) name) (length-range_with_len 0 (length m.covers))

    ones_size : length (cap_rows m ++ flat_map (follow_rows m) (commodities m) ++ on_allowed_tolls m parts Below ++ on_allowed_tolls m parts Use ++ on_allowed_tolls m parts Link ++ map One (commodities m)) ≡ pairs_from m parts 3 + length m.covers
    ones_size = omega (arith, length-append (cap_rows m ++ flat_map (follow_rows m) (commodities m) ++ on_allowed_tolls m parts Below ++ on_allowed_tolls m parts Use ++ on_allowed_tolls m parts Link) (map One (commodities m)), links_size, singles_size One)

    lows_size : length (cap_rows m ++ flat_map (follow_rows m) (commodities m) ++ on_allowed_tolls m parts Below ++ on_allowed_tolls m parts Use ++ on_allowed_tolls m parts Link ++ map One (commodities m) ++ map OneLow (commodities m)) ≡ pairs_from m parts 3 + length m.covers + length m.covers
    lows_size = omega (arith, length-append (cap_rows m ++ flat_map (follow_rows m) (commodities m) ++ on_allowed_tolls m parts Below ++ on_allowed_tolls m parts Use ++ on_allowed_tolls m parts Link ++ map One (commodities m)) (map OneLow (commodities m)), ones_size, singles_size OneLow)

    module _ (n : ℕ) where
      -- what stands among the caps and the paths
      pub front_in_rows : (j : ℕ) (r : RowName) → StandsAt (cap_rows m ++ flat_map (follow_rows m) (commodities m)) j r → StandsAt (relaxation_rows m parts n) j r
      front_in_rows j r h = stands_left _ _ j r (stands_left _ _ j r (stands_left _ _ j r (stands_left _ _ j r (stands_left _ _ j r (stands_left _ _ j r h)))))

      pub below_in_rows : (a k i j : ℕ) → k < length m.covers → StandsAt (allowed_tolls m parts k) i a → j ≡ pairs_from m parts 0 + sum_below (paid_count m parts) k + i → StandsAt (relaxation_rows m parts n) j (Below a k)
      below_in_rows a k i j h at e =
          stands_left _ _ j _ (stands_left _ _ j _ (stands_left _ _ j _ (stands_left _ _ j _ (stands_left _ _ j _
          (stands_right _ _ (pairs_from m parts 0) (sum_below (paid_count m parts) k + i) j (Below a k) (front_size ∙ omega arith) (omega (arith, e)) (pair_stands Below a k i _ h at refl))))))

      pub use_in_rows : (a k i j : ℕ) → k < length m.covers → StandsAt (allowed_tolls m parts k) i a → j ≡ pairs_from m parts 1 + sum_below (paid_count m parts) k + i → StandsAt (relaxation_rows m parts n) j (Use a k)
      use_in_rows a k i j h at e =
          stands_left _ _ j _ (stands_left _ _ j _ (stands_left _ _ j _ (stands_left _ _ j _
          (stands_right _ _ (pairs_from m parts 1) (sum_below (paid_count m parts) k + i) j (Use a k) belows_size (omega (arith, e)) (pair_stands Use a k i _ h at refl)))))

      pub link_in_rows : (a k i j : ℕ) → k < length m.covers → StandsAt (allowed_tolls m parts k) i a → j ≡ pairs_from m parts 2 + sum_below (paid_count m parts) k + i → StandsAt (relaxation_rows m parts n) j (Link a k)
      link_in_rows a k i j h at e =
          stands_left _ _ j _ (stands_left _ _ j _ (stands_left _ _ j _
          (stands_right _ _ (pairs_from m parts 2) (sum_below (paid_count m parts) k + i) j (Link a k) uses_size (omega (arith, e)) (pair_stands Link a k i _ h at refl))))

      pub one_in_rows : (k j : ℕ) → k < length m.covers → j ≡ pairs_from m parts 3 + k → StandsAt (relaxation_rows m parts n) j (One k)
      one_in_rows k j h e =
          stands_left _ _ j _ (stands_left _ _ j _ (stands_right _ _ (pairs_from m parts 3) k j (One k) links_size e (stands_single One (length m.covers) k h)))

      pub low_in_rows : (k j : ℕ) → k < length m.covers → j ≡ pairs_from m parts 3 + length m.covers + k → StandsAt (relaxation_rows m parts n) j (OneLow k)
      low_in_rows k j h e = stands_left _ _ j _ (stands_right _ _ (pairs_from m parts 3 + length m.covers) k j (OneLow k) ones_size e (stands_single OneLow (length m.covers) k h))

      pub cut_in_rows : (i j : ℕ) → i < n → j ≡ pairs_from m parts 3 + length m.covers + length m.covers + i → StandsAt (relaxation_rows m parts n) j (Cut i)
      cut_in_rows i j h e = stands_right _ _ (pairs_from m parts 3 + length m.covers + length m.covers) i j (Cut i) lows_size e (stands_single Cut n i h)

    -- ---- where its columns stand

    pub toll_columns_size : length (map Toll (tolls m)) ≡ length m.caps
    toll_columns_size = rw (length-map (tolls m) Toll) (length-range_with_len 0 (length m.caps))

    share_starts : (k : ℕ) → sum_below (λ l. length (map (Share l) (part_at parts l))) k ≡ sum_below (share_count parts) k
    share_starts k = sum_below_same (λ l. length (map (Share l) (part_at parts l))) (share_count parts) k (λ l u. length-map (part_at parts l) (Share l))

    pub shares_size : length (map Toll (tolls m) ++ shares m parts) ≡ shares_from m parts (length m.covers)
    shares_size = omega (arith, length-append (map Toll (tolls m)) (shares m parts), toll_columns_size, flat_size (λ l. map (Share l) (part_at parts l)) (length m.covers), share_starts (length m.covers))

    pub toll_in_columns : (a : ℕ) → a < length m.caps → StandsAt (relaxation_columns m parts) a (Toll a)
    toll_in_columns a h = stands_left _ _ a _ (stands_left _ _ a _ (stands_single Toll (length m.caps) a h))

    pub share_in_columns : (k p i j : ℕ) → k < length m.covers → StandsAt (part_at parts k) i p → j ≡ shares_from m parts k + i → StandsAt (relaxation_columns m parts) j (Share k p)
    share_in_columns k p i j h at e =
        stands_left _ _ j _ (stands_right _ _ (length m.caps) (sum_below (share_count parts) k + i) j (Share k p) toll_columns_size (omega (arith, e))
        (stands_piece (λ l. map (Share l) (part_at parts l)) (length m.covers) k i _ (Share k p) h (omega (arith, share_starts k)) (stands_map (Share k) (part_at parts k) i p at)))

    pub paid_in_columns : (a k i j : ℕ) → k < length m.covers → StandsAt (allowed_tolls m parts k) i a → j ≡ paid_from m parts k + i → StandsAt (relaxation_columns m parts) j (Paid a k)
    paid_in_columns a k i j h at e =
        stands_right _ _ (shares_from m parts (length m.covers)) (sum_below (paid_count m parts) k + i) j (Paid a k) shares_size (omega (arith, e)) (pair_stands Paid a k i _ h at refl)

    -- the columns that it has
    pub all_its_columns : All (HasColumn m parts) (relaxation_columns m parts)
    all_its_columns =
        let C : ColumnName → Type 0 = HasColumn m parts in
        let toll_columns : All C (map Toll (tolls m)) = All-map C Toll (tolls m) (all_range (λ a. C (Toll a)) (length m.caps) (λ a l. l)) in
        let share_columns : All C (shares m parts) =
        all_flat C (λ k. map (Share k) (part_at parts k)) (commodities m) (all_range (λ k. All C (map (Share k) (part_at parts k))) (length m.covers) (λ k u.
        All-map C (Share k) (part_at parts k) (λ i d l. (u, (i, l, stays (part_at parts k) i d l))))) in
        All-append C _ _ (All-append C _ _ toll_columns share_columns) (pairs_all m parts C Paid (λ a k h. h))
      where
        stays : (xs : List ℕ) (i d : ℕ) → i < length xs → get_or xs i (get_or xs i d) ≡ get_or xs i d
        stays [] i d l = absurd (omega (arith, l))
        stays (x ∷ xs) zero d l = refl
        stays (x ∷ xs) (suc i) d l = stays xs i d (omega (arith, l))

-- ---- places

-- the place that is found is the place of the name
pub row_is_placed : (m : PathModel) (parts : List (List ℕ)) (n : ℕ) (r : RowName) (o : Option ℕ) → IsPlaceIn (relaxation_rows m parts n) (IsRow m parts n) r o → o ≡ row_place (relaxation_rows m parts n) r
row_is_placed m parts n r None h = sym (place_absent row_key (IsRow m parts n) (relaxation_rows m parts n) r (row_same r) (all_rows m parts n) h)
row_is_placed m parts n r (Some i) h = sym (place_of row_key (relaxation_rows m parts n) r i (relaxation_rows_rise m parts n) h)

pub column_is_placed : (m : PathModel) (parts : List (List ℕ)) (c : ColumnName) (o : Option ℕ) → IsAllowed m parts → IsPlaceIn (relaxation_columns m parts) (HasColumn m parts) c o → o ≡ column_place (relaxation_columns m parts) c
column_is_placed m parts c None allowed h = sym (place_absent column_key (HasColumn m parts) (relaxation_columns m parts) c (column_same c) (all_its_columns m parts) h)
column_is_placed m parts c (Some i) allowed h = sym (place_of column_key (relaxation_columns m parts) c i (relaxation_columns_rise m parts allowed) h)

pub choice_row_is_placed : (m : PathModel) (choice : List ℕ) (r : RowName) (o : Option ℕ) → IsPlaceIn (inverse m choice).rows (IsChoiceRow m) r o → o ≡ row_place (inverse m choice).rows r
choice_row_is_placed m choice r None h = sym (place_absent row_key (IsChoiceRow m) (inverse m choice).rows r (row_same r) (all_choice_rows m) h)
choice_row_is_placed m choice r (Some i) h = sym (place_of row_key (inverse m choice).rows r i (choice_rows_rise m (λ k. Some (chosen choice k))) h)

pub choice_column_is_placed : (m : PathModel) (choice : List ℕ) (c : ColumnName) (o : Option ℕ) → IsPlaceIn (inverse m choice).columns (IsChoiceColumn m) c o → o ≡ column_place (inverse m choice).columns c
choice_column_is_placed m choice c None h =
    sym (place_absent column_key (IsChoiceColumn m) (inverse m choice).columns c (column_same c) (All-map (IsChoiceColumn m) Toll (tolls m) (all_range (λ a. a < length m.caps) (length m.caps) (λ a l. l))) h)
choice_column_is_placed m choice c (Some i) h = sym (place_of column_key (inverse m choice).columns c i (choice_columns_rise m) h)

-- what a place tells
pub place_has : (rows : List RowName) (r : RowName) (i : ℕ) → row_place rows r ≡ Some i → StandsAt rows i r × (has_row rows r ≡ true)
place_has rows r i e =
    let h = place_some row_key rows r i e in
    (record { within = h.0; is = sym (row_same r (get_or rows i r) h.1) }, h.2)

pub no_place_has : (rows : List RowName) (r : RowName) → row_place rows r ≡ None → has_row rows r ≡ false
no_place_has rows r e = place_none row_key rows r e

-- a row without a place is none of the rows, and one with a place has what all have
pub row_told : (P : RowName → Type 0) (rows : List RowName) (r : RowName) (o : Option ℕ) → All P rows → o ≡ row_place rows r → MatchOption o (has_row rows r ≡ false) (λ i. P r)
row_told P rows r None all e = no_place_has rows r (sym e)
row_told P rows r (Some i) all e = let h = (place_has rows r i (sym e)).0 in subst P h.is (all i r h.within)
