-- The goal of a relaxation, written group by group.
use Rattle.std.proofs.Common.{◌≡◌, ℕ, ◌+◌, pos, List, [], ◌∷◌, ◌++◌, length, map, replicate, refl, sym, ap, ap₂, ◌∙◌, arith}
use Rattle.std.specs.List.{range_with_len, flat_map}
use Rattle.std.proofs.lemmas.List.{length-append, length-map, map-append, append-nil}
use lib.ListN.{replicate-append-replicate}
use Rattle.npp_frac.specs.Rational.{Rational, zero_ℚ, whole}
use Rattle.npp_rows.specs.declared.names.ColumnName.{ColumnName}
use Rattle.npp_rows.specs.declared.names.ColumnName.TheVariants.{Toll, Share, Paid}
use Rattle.npp_rows.specs.PathModel.{PathModel, tolls, commodities, demand_at}
use Rattle.npp_rows.specs.Parts.{part_at}
use Rattle.npp_rows.specs.Relax.{shares, allowed_tolls, paid_goal}
use Rattle.npp_rows.specs.Rows.{paid_from}
use Rattle.npp_rows.proofs.ListLaws.{pieces_next}
use Rattle.npp_rows.proofs.RowPlaces.{shares_size}

-- one number at each
named : {X Y Z : Type 0} (f : Y → Z) (name : X → Y) (z : Z) (h : (x : X) → f (name x) ≡ z) (xs : List X) → map f (map name xs) ≡ replicate (length (map name xs)) z
named f name z h [] = refl
named f name z h (x ∷ xs) = ap₂ ◌∷◌ (h x) (named f name z h xs)

joined : {Y Z : Type 0} (f : Y → Z) (z : Z) (xs ys : List Y) → map f xs ≡ replicate (length xs) z → map f ys ≡ replicate (length ys) z → map f (xs ++ ys) ≡ replicate (length (xs ++ ys)) z
joined f z xs ys e h =
    map-append f xs ys ∙ ap₂ ◌++◌ e h ∙ replicate-append-replicate (length xs) (length ys) z ∙ ap (λ n. replicate n z) (sym (length-append xs ys))

pieces : {X Y Z : Type 0} (f : Y → Z) (g : X → List Y) (z : Z) (h : (x : X) → map f (g x) ≡ replicate (length (g x)) z) (xs : List X) → map f (flat_map g xs) ≡ replicate (length (flat_map g xs)) z
pieces f g z h [] = refl
pieces f g z h (x ∷ xs) = joined f z (g x) (flat_map g xs) (h x) (pieces f g z h xs)

module _ (m : PathModel) (parts : List (List ℕ)) where
  -- what a commodity pays
  abbrev pub paid_by : ℕ → List ColumnName
  paid_by k = map (λ a. Paid a k) (allowed_tolls m parts k)

  -- the columns up to what the first commodities pay
  abbrev pub columns_below : ℕ → List ColumnName
  columns_below k = map Toll (tolls m) ++ shares m parts ++ flat_map paid_by (range_with_len 0 k)

  -- the goal is 0 at tolls and shares
  pub zeros_first : map (paid_goal m) (columns_below 0) ≡ replicate (paid_from m parts 0) (whole (pos 0))
  zeros_first =
      let toll_goals = named (paid_goal m) Toll zero_ℚ (λ a. refl) (tolls m) in
      let share_goals = pieces (paid_goal m) (λ k. map (Share k) (part_at parts k)) zero_ℚ (λ k. named (paid_goal m) (Share k) zero_ℚ (λ p. refl) (part_at parts k)) (commodities m) in
      let size : length (map Toll (tolls m) ++ shares m parts) ≡ paid_from m parts 0 = omega (arith, shares_size m parts) in
      let none : columns_below 0 ≡ map Toll (tolls m) ++ shares m parts = append-nil (map Toll (tolls m) ++ shares m parts) in
      ap (map (paid_goal m)) none ∙ joined (paid_goal m) zero_ℚ (map Toll (tolls m)) (shares m parts) toll_goals share_goals ∙ ap (λ n. replicate n zero_ℚ) size

  -- and the demand of the commodity at what it pays
  pub demands_next : (k : ℕ) (now next : List Rational) → now ≡ map (paid_goal m) (columns_below k)
      → next ≡ now ++ replicate (length (allowed_tolls m parts k)) (whole (pos (demand_at m k))) → next ≡ map (paid_goal m) (columns_below (k + 1))
  demands_next k now next e h =
      let first = map Toll (tolls m) ++ shares m parts in
      let own : map (paid_goal m) (paid_by k) ≡ replicate (length (allowed_tolls m parts k)) (whole (pos (demand_at m k))) =
      named (paid_goal m) (λ a. Paid a k) (whole (pos (demand_at m k))) (λ a. refl) (allowed_tolls m parts k) ∙ ap (λ n. replicate n (whole (pos (demand_at m k)))) (length-map (allowed_tolls m parts k) (λ a. Paid a k)) in
      h ∙ ap₂ ◌++◌ e (sym own) ∙ sym (map-append (paid_goal m) (columns_below k) (paid_by k)) ∙ ap (map (paid_goal m)) (pieces_next paid_by k first _ _ refl refl)
