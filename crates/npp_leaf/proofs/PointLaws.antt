-- The columns of a relaxation as tolls and shares.
use Rattle.std.proofs.Common.{◌≡◌, ℕ, ◌+◌, ◌<◌, ◌≤◌, List, [], ◌∷◌, ◌++◌, length, map, take, drop, get_or, sum_by, refl, sym, ap, ap₂, ◌∙◌, arith, add-one, drop-cons}
use Rattle.std.proofs.lemmas.List.{map-append, append_assoc, take-map, drop-map, get_or_append_left, length-append, append-nil, get_or-take, drop_all}
use Rattle.std.proofs.lemmas.List.Sums.{sum_by-cons}
use Rattle.std.proofs.lemmas.List.FromFn.{get_or-map-range_with_len, length-map-range_with_len}
use Rattle.npp_frac.specs.Rational.{Rational, zero_ℚ}
use Rattle.npp_cover.specs.Replaces.{sum_below}
use Rattle.npp_lp.specs.Programs.{at, IsPoint}
use Rattle.npp_rows.specs.declared.names.ColumnName.TheVariants.{Toll, Paid}
use Rattle.npp_rows.specs.PathModel.{PathModel, tolls}
use Rattle.npp_rows.specs.Parts.{IsAllowed}
use Rattle.npp_rows.specs.Family.{share_count}
use Rattle.npp_rows.specs.Named.{numbered}
use Rattle.npp_rows.specs.Cuts.{Cut}
use Rattle.npp_rows.specs.Relax.{relaxation, relaxation_columns, shares, on_allowed_tolls}
use Rattle.npp_rows.proofs.StartLaws.{sum_by_places}
use Rattle.npp_rows.proofs.ProgramLaws.{columns_size}
use Rattle.npp_inverse.specs.Best.{AreWithinCaps}
use Rattle.npp_tree.specs.declared.point.Point.{Point}
use Rattle.npp_tree.specs.Points.{shares_from, tolls_of, point_of}
use Rattle.npp_leaf.proofs.RayLaws.{toll_capped}

-- the tolls and shares stand among the columns
pub columns_hold : (m : PathModel) (parts : List (List ℕ)) → IsAllowed m parts → length m.caps + sum_by length parts ≤ length (relaxation_columns m parts)
columns_hold m parts allowed = omega (arith, columns_size m parts, sum_by_places length [] parts, ap (sum_below (share_count parts)) allowed.size)

-- ---- part after part

-- the shares of the first parts are taken, and those of the others are left
pub record AreSplit {N : Type 0} (value : N → Rational) (parts : List (List ℕ)) (all : List N) (k : ℕ) (taken : List (List N)) (left : List N) : Type 0 where
  pub shares : map (map value) taken ++ shares_from (drop k parts) (map value left) ≡ shares_from parts (map value all)
  pub room : sum_by length (drop k parts) ≤ length left

module _ {N : Type 0} (value : N → Rational) (parts : List (List ℕ)) (all : List N) where
  pub none_split : sum_by length parts ≤ length all → AreSplit value parts all 0 [] all
  none_split h = record { shares = refl; room = h }

  module _ (k : ℕ) (taken : List (List N)) (left : List N) (h : AreSplit value parts all k taken left) (u : k < length parts) where
    others : drop k parts ≡ get_or parts k [] ∷ drop (k + 1) parts
    others = rw (add-one, drop-cons parts k []) refl

    split_room : length (get_or parts k []) + sum_by length (drop (k + 1) parts) ≤ length left
    split_room = omega (arith, h.room, ap (sum_by length) others, sum_by-cons length (get_or parts k []) (drop (k + 1) parts))

    pub part_fits : length (get_or parts k []) ≤ length left
    part_fits = omega (arith, split_room)

    pub one_split : (part rest : List N) → part ≡ take (length (get_or parts k [])) left → rest ≡ drop (length (get_or parts k [])) left → length rest + length (get_or parts k []) ≡ length left
        → AreSplit value parts all (k + 1) (taken ++ part ∷ []) rest
    one_split part rest is others_are size = record {
      shares =
          ap (λ zs. zs ++ shares_from (drop (k + 1) parts) (map value rest)) (map-append (map value) taken (part ∷ []))
          ∙ append_assoc (map (map value) taken) (map value part ∷ []) (shares_from (drop (k + 1) parts) (map value rest))
          ∙ ap (λ zs. map (map value) taken ++ zs)
          (ap₂ (λ ps qs. map value ps ∷ shares_from (drop (k + 1) parts) (map value qs)) is others_are
          ∙ ap₂ (λ ps qs. ps ∷ shares_from (drop (k + 1) parts) qs) (sym (take-map value (length (get_or parts k [])) left)) (sym (drop-map value (length (get_or parts k [])) left))
          ∙ sym (ap (λ ps. shares_from ps (map value left)) others))
          ∙ h.shares;
      room = omega (arith, split_room, size);
    }

  -- at the end all are taken
  pub all_split : (k : ℕ) (taken : List (List N)) (left : List N) → AreSplit value parts all k taken left → length parts ≤ k → map (map value) taken ≡ shares_from parts (map value all)
  all_split k taken left h l =
      sym (append-nil (map (map value) taken))
      ∙ ap (λ ps. map (map value) taken ++ shares_from ps (map value left)) (sym (drop_all k parts l))
      ∙ h.shares

-- ---- the tolls of a point

module _ (m : PathModel) (parts : List (List ℕ)) (cuts : List Cut) (x : List Rational) (point : IsPoint (numbered (relaxation m parts cuts)) x) where
  toll_column : (a : ℕ) → a < length m.caps → get_or (relaxation_columns m parts) a (Toll 0) ≡ Toll a
  toll_column a l =
      let size : length (map Toll (tolls m)) ≡ length m.caps = length-map-range_with_len Toll 0 (length m.caps) in
      get_or_append_left (map Toll (tolls m) ++ shares m parts) (on_allowed_tolls m parts Paid) (Toll 0) a (omega (arith, l, size, length-append (map Toll (tolls m)) (shares m parts)))
      ∙ get_or_append_left (map Toll (tolls m)) (shares m parts) (Toll 0) a (omega (arith, l, size))
      ∙ get_or-map-range_with_len Toll 0 (length m.caps) a a (Toll 0) l (omega arith)

  -- they are from 0 to the caps
  pub tolls_capped : AreWithinCaps m (tolls_of m x)
  tolls_capped a l =
      let within = toll_capped m parts cuts x point a (omega (arith, l, columns_size m parts)) (toll_column a l) in
      let same : at (take (length m.caps) x) a ≡ at x a = get_or-take (length m.caps) x a zero_ℚ l in
      rw same within

-- ---- the point

-- the first numbers are the tolls, and the shares are taken from the others
pub point_is : {N : Type 0} (value : N → Rational) (m : PathModel) (parts : List (List ℕ)) (n : ℕ) (x taken : List N) (lists : List (List N)) → n ≡ length m.caps → taken ≡ take n x
    → map (map value) lists ≡ shares_from parts (map value (drop n x)) → (let p : Point Rational = record { tolls = map value taken; shares = map (map value) lists } in p ≡ point_of m parts (map value x))
point_is value m parts n x taken lists e f h =
    let first : map value taken ≡ take (length m.caps) (map value x) = ap (map value) f ∙ sym (take-map value n x) ∙ ap (λ k. take k (map value x)) e in
    let others : map (map value) lists ≡ shares_from parts (drop (length m.caps) (map value x)) = h ∙ ap (shares_from parts) (sym (drop-map value n x) ∙ ap (λ k. drop k (map value x)) e) in
    λ i. record { tolls = first i; shares = others i }
