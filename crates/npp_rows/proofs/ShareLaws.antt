-- Which columns of a relaxation are shares, and of which paths.
use Rattle.std.proofs.Common.{◌≡◌, ℕ, ◌+◌, ◌-◌, ◌<◌, ◌≤◌, true, false, List, [], ◌++◌, length, map, get_or, Ok, Err, refl, ap, ◌∙◌, arith, inl, inr, All}
use Rattle.std.specs.List.{AllPairs}
use Rattle.std.specs.List.Sorted.{IsBinarySearchResult}
use Rattle.std.specs.Ordering.{nat_cmp}
use Rattle.std.proofs.lemmas.Bool.{cases_lt}
use Rattle.std.proofs.lemmas.List.{get_or_append_left, get_or-append_right, get_or_default, length-append}
use Rattle.std.proofs.lemmas.List.Elements.{All-map}
use Rattle.std.proofs.lemmas.List.Sorted.{searched}
use Rattle.npp_cover.specs.Replaces.{sum_below}
use Rattle.npp_rows.specs.declared.names.ColumnName.{ColumnName}
use Rattle.npp_rows.specs.declared.names.ColumnName.TheVariants.{Toll, Share, Paid}
use Rattle.npp_rows.specs.PathModel.{PathModel, tolls, commodities}
use Rattle.npp_rows.specs.Parts.{part_at}
use Rattle.npp_rows.specs.Family.{share_count}
use Rattle.npp_rows.specs.Relax.{relaxation_columns, shares, on_allowed_tolls, allowed_tolls}
use Rattle.npp_rows.specs.Rows.{shares_from}
use Rattle.npp_rows.specs.Derivations.{is_share, column_at, share_term}
use Rattle.npp_frac.specs.Rational.{Rational}
use Rattle.npp_rows.specs.Starts.{starts_of, IsPieceAt}
use Rattle.npp_rows.proofs.ListLaws.{rising_ordered}
use Rattle.npp_rows.proofs.StartLaws.{sum_push, sum_below_rises, start_at, starts_size}
use Rattle.npp_rows.proofs.RelaxationLaws.{all_flat}
use Rattle.npp_rows.proofs.RowPlaces.{toll_in_columns, share_in_columns, toll_columns_size, shares_size}

-- ---- the piece of a place

-- the starts of pieces that have some rise strictly
pub starts_rise : (f : ℕ → ℕ) (n : ℕ) → ((k : ℕ) → k < n → 0 < f k) → AllPairs (λ a b. a < b) (starts_of f n)
starts_rise f n some i j d l k =
    let inside : j < n + 1 = omega (arith, k, starts_size f n) in
    let up : sum_below f (i + 1) ≤ sum_below f j = sum_below_rises f (i + 1) j (omega (arith, l)) in
    omega (arith, start_at f n i d (omega (arith, l, inside)), start_at f n j d (omega (arith, inside)), up, sum_push f i, some i (omega (arith, l, inside)))

pub found_piece : (starts : List ℕ) (place at : ℕ) → AllPairs (λ a b. a < b) starts → IsBinarySearchResult (λ y. nat_cmp y place) starts (Ok at)
    → (last : ℕ) → last + 1 ≡ length starts → place < get_or starts last 0 → IsPieceAt starts place at
found_piece starts place at rising h last size below =
    let s = searched starts place (Ok at) h (rising_ordered starts rising) in
    let is : get_or starts at 0 ≡ place = s.1 in
    let before : at < last = not_last (omega (arith, s.0, size)) is in
    record {
      inside = omega (arith, before, size);
      low = omega (arith, is);
      high = let up : get_or starts at 0 < get_or starts (at + 1) 0 = rising at (at + 1) 0 (omega arith) (omega (arith, before, size)) in omega (arith, up, is);
    }
  where
    not_last : at ≤ last → get_or starts at 0 ≡ place → at < last
    not_last le is =
        let up : get_or starts at 0 ≤ get_or starts last 0 = rising_ordered starts rising at last le (omega (arith, size)) in
        elim (cases_lt at last) [
          | inl lt ↦ lt
          | inr ge ↦ (let same : at ≡ last = omega (arith, ge, le) in absurd (omega (arith, below, is, ap (λ i. get_or starts i 0) same)))
        ]

pub passed_piece : (starts : List ℕ) (place gap : ℕ) → AllPairs (λ a b. a < b) starts → IsBinarySearchResult (λ y. nat_cmp y place) starts (Err gap)
    → (last : ℕ) → last + 1 ≡ length starts → get_or starts 0 0 ≤ place → place < get_or starts last 0 → (0 < gap) × IsPieceAt starts place (gap - 1)
passed_piece starts place gap rising h last size first below =
    let s = searched starts place (Err gap) h (rising_ordered starts rising) in
    let some : 0 < gap = elim (cases_lt 0 gap) [
      | inl lt ↦ lt
      | inr ge ↦ (let up : place < get_or starts 0 0 = s.2 0 ge (omega (arith, size)) in absurd (omega (arith, up, first)))
    ] in
    let inside : gap ≤ last = elim (cases_lt last gap) [
      | inl lt ↦ (let up : get_or starts last 0 < place = s.1 last lt in absurd (omega (arith, up, below)))
      | inr ge ↦ ge
    ] in
    let next : gap - 1 + 1 ≡ gap = omega (arith, some) in
    let low : get_or starts (gap - 1) 0 < place = s.1 (gap - 1) (omega (arith, some)) in
    let high : place < get_or starts gap 0 = s.2 gap (omega arith) (omega (arith, inside, size)) in
    (some, record { inside = omega (arith, next, inside, size); low = omega (arith, low); high = rw next high })

-- ---- the columns

module _ (m : PathModel) (parts : List (List ℕ)) where
  toll_named : (j : ℕ) → j < length m.caps → column_at (relaxation_columns m parts) j ≡ Toll j
  toll_named j l =
      let at = toll_in_columns m parts j l in
      get_or_default (relaxation_columns m parts) j (Toll 0) (Toll j) at.within ∙ at.is

  -- the share of a place
  pub share_named : (j k place p : ℕ) → k < length m.covers → length m.caps + place ≡ j → sum_below (share_count parts) k ≤ place → place < sum_below (share_count parts) (k + 1)
      → get_or (part_at parts k) (place - sum_below (share_count parts) k) p ≡ p → column_at (relaxation_columns m parts) j ≡ Share k p
  share_named j k place p within e low high is =
      let inside : place - sum_below (share_count parts) k < length (part_at parts k) = omega (arith, low, high, sum_push (share_count parts) k) in
      let at = share_in_columns m parts k p (place - sum_below (share_count parts) k) j within (record { within = inside; is = is }) (omega (arith, e, low)) in
      get_or_default (relaxation_columns m parts) j (Toll 0) (Share k p) at.within ∙ at.is

  all_shares : All (λ c. is_share c ≡ true) (shares m parts)
  all_shares =
      all_flat (λ c. is_share c ≡ true) (λ k. map (Share k) (part_at parts k)) (commodities m)
      (λ i d l. All-map (λ c. is_share c ≡ true) (Share (get_or (commodities m) i d)) (part_at parts (get_or (commodities m) i d)) (λ j e u. refl))

  none_paid : All (λ c. is_share c ≡ false) (on_allowed_tolls m parts Paid)
  none_paid =
      all_flat (λ c. is_share c ≡ false) (λ k. map (λ a. Paid a k) (allowed_tolls m parts k)) (commodities m)
      (λ i d l. All-map (λ c. is_share c ≡ false) (λ a. Paid a (get_or (commodities m) i d)) (allowed_tolls m parts (get_or (commodities m) i d)) (λ j e u. refl))

  -- the columns before the shares
  pub no_share_before : (j : ℕ) → j < length m.caps → is_share (column_at (relaxation_columns m parts) j) ≡ false
  no_share_before j l = ap is_share (toll_named j l)

  -- those of the shares
  pub share_between : (j : ℕ) → length m.caps ≤ j → j < shares_from m parts (length m.covers) → is_share (column_at (relaxation_columns m parts) j) ≡ true
  share_between j low high =
      let inside : j < length (map Toll (tolls m) ++ shares m parts) = omega (arith, high, shares_size m parts) in
      let size : length (map Toll (tolls m)) ≡ length m.caps = toll_columns_size m parts in
      let place : j - length m.caps < length (shares m parts) = omega (arith, inside, low, size, length-append (map Toll (tolls m)) (shares m parts)) in
      ap is_share (get_or_append_left (map Toll (tolls m) ++ shares m parts) (on_allowed_tolls m parts Paid) (Toll 0) j inside
      ∙ get_or-append_right (map Toll (tolls m)) (shares m parts) (length m.caps) j (Toll 0) size low)
      ∙ all_shares (j - length m.caps) (Toll 0) place

  -- and those behind them
  pub no_share_behind : (j : ℕ) → shares_from m parts (length m.covers) ≤ j → j < length (relaxation_columns m parts) → is_share (column_at (relaxation_columns m parts) j) ≡ false
  no_share_behind j low high =
      let place : j - shares_from m parts (length m.covers) < length (on_allowed_tolls m parts Paid) =
      omega (arith, high, low, shares_size m parts, length-append (map Toll (tolls m) ++ shares m parts) (on_allowed_tolls m parts Paid)) in
      ap is_share (get_or-append_right (map Toll (tolls m) ++ shares m parts) (on_allowed_tolls m parts Paid) (shares_from m parts (length m.covers)) j (Toll 0) (shares_size m parts) low)
      ∙ none_paid (j - shares_from m parts (length m.covers)) (Toll 0) place

-- a column that is no share has no term
pub no_share_term : (c : ColumnName) (x : Rational) → is_share c ≡ false → share_term c x ≡ []
no_share_term (Toll a) x e = refl
no_share_term (Share k p) x e = cc
no_share_term (Paid a k) x e = refl
