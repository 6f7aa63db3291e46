-- The program of a conflict: which rows it has and where they stand; and rows of exclusions are cut rows.
use Rattle.std.proofs.Common.{◌≡◌, ◌≢◌, ℕ, zero, suc, ◌+◌, ◌<◌, ◌≤◌, Bool, true, false, cond, List, [], ◌∷◌, ◌++◌, length, map, get_or, Option, Some, None, All, refl, sym, ap, subst, arith, inl, inr, eq-eqb, ne_eqb}
use Rattle.std.specs.Prelude.{◌⊎◌, ◌==◌, nat_lt, pos, IsTrue}
use Rattle.std.specs.List.{AllPairs, flat_map}
use Rattle.std.proofs.lemmas.Bool.{lt-ltb, or_left, or_right, and_from, cases_lt, cases_eq}
use Rattle.std.proofs.lemmas.List.{length-map, get_or-map}
use Rattle.std.proofs.lemmas.List.Elements.{All-append, All-map, All-cons, All-nil}
use Rattle.std.proofs.lemmas.List.Kept.{AllPairs-cons}
use Rattle.std.proofs.lemmas.List.FromFn.{length-range_with_len}
use Rattle.npp_frac.specs.Rational.{Rational, zero_ℚ, one_ℚ}
use Rattle.npp_frac.specs.Sign.{nonzero_of_whole}
use Rattle.npp_cover.specs.Replaces.{sum_below}
use Rattle.npp_rows.specs.declared.names.RowName.{RowName}
use Rattle.npp_rows.specs.declared.names.RowName.TheVariants.{Cap, Follow}
use Rattle.npp_rows.specs.declared.cut.CutTerm.{CutTerm}
use Rattle.npp_rows.specs.PathModel.{PathModel, commodities, paths, path_count, tolls}
use Rattle.npp_rows.specs.RowOrder.{row_key}
use Rattle.npp_rows.specs.Places.{row_place, StandsAt, IsPlaceIn}
use Rattle.npp_rows.specs.Relax.{cap_rows, follow_rows}
use Rattle.npp_rows.specs.Inverse.{conflict_program, chosen_rows, two_chosen}
use Rattle.npp_rows.specs.Rows.{IsConflictRow}
use Rattle.npp_rows.specs.TwoPaths.{AreTwoPaths}
use Rattle.npp_rows.specs.Cuts.{IsCut, IsShareOf, is_share_before, share_of, exclusion}
use Rattle.npp_rows.proofs.RelaxationLaws.{all_range, all_flat}
use Rattle.npp_rows.proofs.KeyLaws.{pairs_append, place_of, place_absent, placed_by}
use Rattle.npp_rows.proofs.FoundLaws.{IsNumberedFrom}
use Rattle.npp_rows.proofs.RowPlaces.{row_same, choice_rows_rise, stands_left, stands_right, stands_single, stands_piece, caps_size}

-- ---- sums of sizes that are mostly 0

sum_none : (f : ℕ → ℕ) (n : ℕ) → ((c : ℕ) → c < n → f c ≡ 0) → sum_below f n ≡ 0
sum_none f zero h = refl
sum_none f (suc n) h = omega (arith, sum_none f n (λ c l. h c (omega (arith, l))), h n (omega arith))

sum_one : (f : ℕ → ℕ) (n i : ℕ) → i < n → ((c : ℕ) → c < n → c ≢ i → f c ≡ 0) → sum_below f n ≡ f i
sum_one f zero i l h = absurd (omega (arith, l))
sum_one f (suc n) i l h = elim (cases_lt i n) [
  | inl below ↦ omega (arith, sum_one f n i below (λ c u. h c (omega (arith, u))), h n (omega arith) (λ e. omega (arith, e, below)))
  | inr above ↦ (
      let here : i ≡ n = omega (arith, above, l) in
      omega (arith, sum_none f n (λ c u. h c (omega (arith, u)) (λ e. omega (arith, e, here, u))), ap f here))
]

-- ---- the rows of the program of a conflict

module _ (m : PathModel) (k p l q : ℕ) where
  -- the rows of a commodity of the two
  rows_first : (c : ℕ) → c ≡ k → chosen_rows m c (two_chosen k p l q c) ≡ follow_rows m c
  rows_first c e = let t : (c == k) ≡ true = eq-eqb c k e in rw t refl

  rows_second : (c : ℕ) → c ≢ k → c ≡ l → chosen_rows m c (two_chosen k p l q c) ≡ follow_rows m c
  rows_second c d e = let f : (c == k) ≡ false = ne_eqb c k d in let t : (c == l) ≡ true = eq-eqb c l e in rw (f, t) refl

  -- and of another commodity
  rows_other : (c : ℕ) → c ≢ k → c ≢ l → chosen_rows m c (two_chosen k p l q c) ≡ []
  rows_other c d e = let f : (c == k) ≡ false = ne_eqb c k d in let t : (c == l) ≡ false = ne_eqb c l e in rw (f, t) refl

  follows_all : (c : ℕ) → c < length m.covers → (c ≡ k) ⊎ (c ≡ l) → All (IsConflictRow m k l) (follow_rows m c)
  follows_all c h w = All-map (IsConflictRow m k l) (Follow c) (paths m c) (all_range (λ r. IsConflictRow m k l (Follow c r)) (path_count m c) (λ r u. (h, w, u)))

  piece_all : (c : ℕ) → c < length m.covers → All (IsConflictRow m k l) (chosen_rows m c (two_chosen k p l q c))
  piece_all c h = elim (cases_eq c k) [
    | inl e ↦ rw (rows_first c e) (follows_all c h (inl e))
    | inr d ↦ elim (cases_eq c l) [
      | inl e ↦ rw (rows_second c d e) (follows_all c h (inr e))
      | inr n ↦ rw (rows_other c d n) (All-nil (IsConflictRow m k l))
    ]
  ]

  pub all_conflict_rows : All (IsConflictRow m k l) (conflict_program m k p l q).rows
  all_conflict_rows =
      All-append (IsConflictRow m k l) (cap_rows m) (flat_map (λ c. chosen_rows m c (two_chosen k p l q c)) (commodities m))
      (All-map (IsConflictRow m k l) Cap (tolls m) (all_range (λ a. a < length m.caps) (length m.caps) (λ a u. u)))
      (all_flat (IsConflictRow m k l) (λ c. chosen_rows m c (two_chosen k p l q c)) (commodities m) (all_range (λ c. All (IsConflictRow m k l) (chosen_rows m c (two_chosen k p l q c))) (length m.covers) piece_all))

  -- ---- where they stand

  piece_size : (c : ℕ) → c ≢ k → c ≢ l → length (chosen_rows m c (two_chosen k p l q c)) ≡ 0
  piece_size c d e = ap length (rows_other c d e)

  follow_size : (c : ℕ) → length (follow_rows m c) ≡ path_count m c
  follow_size c = rw (length-map (paths m c) (Follow c)) (length-range_with_len 0 (path_count m c))

  pub conflict_cap_stands : (a : ℕ) → a < length m.caps → StandsAt (conflict_program m k p l q).rows a (Cap a)
  conflict_cap_stands a h = stands_left (cap_rows m) (flat_map (λ c. chosen_rows m c (two_chosen k p l q c)) (commodities m)) a (Cap a) (stands_single Cap (length m.caps) a h)

  module _ (two : AreTwoPaths m k p l q) where
    pub conflict_first_stands : (r j : ℕ) → r < path_count m k → j ≡ length m.caps + r → StandsAt (conflict_program m k p l q).rows j (Follow k r)
    conflict_first_stands r j h e =
        stands_right (cap_rows m) (flat_map (λ c. chosen_rows m c (two_chosen k p l q c)) (commodities m)) (length m.caps) r j (Follow k r) (caps_size m) e
        (stands_piece (λ c. chosen_rows m c (two_chosen k p l q c)) (length m.covers) k r r (Follow k r) two.first
        (omega (arith, sum_none (λ c. length (chosen_rows m c (two_chosen k p l q c))) k (λ c u. piece_size c (λ x. omega (arith, x, u)) (λ x. omega (arith, x, u, two.order)))))
        (subst (λ (rs : List RowName). StandsAt rs r (Follow k r)) (sym (rows_first k refl)) (stands_single (Follow k) (path_count m k) r h)))

    pub conflict_second_stands : (r j : ℕ) → r < path_count m l → j ≡ length m.caps + path_count m k + r → StandsAt (conflict_program m k p l q).rows j (Follow l r)
    conflict_second_stands r j h e =
        let other : l ≢ k = λ x. omega (arith, x, two.order) in
        stands_right (cap_rows m) (flat_map (λ c. chosen_rows m c (two_chosen k p l q c)) (commodities m)) (length m.caps) (path_count m k + r) j (Follow l r) (caps_size m) (omega (arith, e))
        (stands_piece (λ c. chosen_rows m c (two_chosen k p l q c)) (length m.covers) l r (path_count m k + r) (Follow l r) two.second
        (omega (arith, sum_one (λ c. length (chosen_rows m c (two_chosen k p l q c))) l k two.order (λ c u d. piece_size c d (λ x. omega (arith, x, u))), ap length (rows_first k refl), follow_size k))
        (subst (λ (rs : List RowName). StandsAt rs r (Follow l r)) (sym (rows_second l other refl)) (stands_single (Follow l) (path_count m l) r h)))

-- the place that is found is the place of the name
pub conflict_row_is_placed : (m : PathModel) (k p l q : ℕ) (r : RowName) (o : Option ℕ) → IsPlaceIn (conflict_program m k p l q).rows (IsConflictRow m k l) r o → o ≡ row_place (conflict_program m k p l q).rows r
conflict_row_is_placed m k p l q r None h = sym (place_absent row_key (IsConflictRow m k l) (conflict_program m k p l q).rows r (row_same r) (all_conflict_rows m k p l q) h)
conflict_row_is_placed m k p l q r (Some i) h = sym (place_of row_key (conflict_program m k p l q).rows r i (choice_rows_rise m (two_chosen k p l q)) h)

-- what the code finds by a name
module _ (m : PathModel) (k p l q : ℕ) where
  pub conflict_cap_found : (a t : ℕ) (o : Option ℕ) → t ≡ length m.caps → IsNumberedFrom 0 t a o → IsPlaceIn (conflict_program m k p l q).rows (IsConflictRow m k l) (Cap a) o
  conflict_cap_found a t o e h =
      placed_by (conflict_program m k p l q).rows (IsConflictRow m k l) (Cap a) o (t ≤ a) (λ j. (a < t) × (j ≡ 0 + a)) h (λ x y. omega (arith, x, y, e))
      (λ j r. let same : a ≡ j = omega (arith, r.1) in subst (λ (i : ℕ). StandsAt (conflict_program m k p l q).rows i (Cap a)) same (conflict_cap_stands m k p l q a (omega (arith, r.0, e))))

  pub conflict_first_found : (two : AreTwoPaths m k p l q) (r base t : ℕ) (o : Option ℕ) → base ≡ length m.caps → t ≡ path_count m k → IsNumberedFrom base t r o → IsPlaceIn (conflict_program m k p l q).rows (IsConflictRow m k l) (Follow k r) o
  conflict_first_found two r base t o b e h =
      placed_by (conflict_program m k p l q).rows (IsConflictRow m k l) (Follow k r) o (t ≤ r) (λ j. (r < t) × (j ≡ base + r)) h (λ x y. omega (arith, x, y.2, e))
      (λ j x. conflict_first_stands m k p l q two r j (omega (arith, x.0, e)) (omega (arith, x.1, b)))

  pub conflict_second_found : (two : AreTwoPaths m k p l q) (r base t : ℕ) (o : Option ℕ) → base ≡ length m.caps + path_count m k → t ≡ path_count m l → IsNumberedFrom base t r o → IsPlaceIn (conflict_program m k p l q).rows (IsConflictRow m k l) (Follow l r) o
  conflict_second_found two r base t o b e h =
      placed_by (conflict_program m k p l q).rows (IsConflictRow m k l) (Follow l r) o (t ≤ r) (λ j. (r < t) × (j ≡ base + r)) h (λ x y. omega (arith, x, y.2, e))
      (λ j x. conflict_second_stands m k p l q two r j (omega (arith, x.0, e)) (omega (arith, x.1, b)))

-- ---- rows of exclusions

one_nonzero : one_ℚ ≢ zero_ℚ
one_nonzero = nonzero_of_whole one_ℚ (pos 1) refl (λ e. cc)

-- shares of one commodity
shares_are : (m : PathModel) (l : ℕ) (qs : List ℕ) → l < length m.covers → All (λ q. q < path_count m l) qs → All (IsShareOf m) (map (share_of l) qs)
shares_are m l qs h all = All-map (IsShareOf m) (share_of l) qs (λ i d u. (h, all i d u))

shares_rise : (l : ℕ) (qs : List ℕ) → AllPairs (λ p q. p < q) qs → AllPairs (λ s t. IsTrue (is_share_before s t)) (map (share_of l) qs)
shares_rise l qs rising i j d u v =
    let w : j < length qs = rw (length-map qs (share_of l)) at v in
    rw (get_or-map (share_of l) qs i 0 d (omega (arith, u, w)), get_or-map (share_of l) qs j 0 d w)
    (or_right (nat_lt l l) _ (and_from (l == l) _ (eq-eqb l l refl) (lt-ltb (get_or qs i 0) (get_or qs j 0) (rising i j 0 u w))))

shares_nonzero : (l : ℕ) (qs : List ℕ) → All (λ (t : CutTerm Rational). t.value ≢ zero_ℚ) (map (share_of l) qs)
shares_nonzero l qs = All-map (λ (t : CutTerm Rational). t.value ≢ zero_ℚ) (share_of l) qs (λ i d u. one_nonzero)

pub exclusion_is_cut : (m : PathModel) (k p l : ℕ) (qs : List ℕ) → k < length m.covers → p < path_count m k → l < length m.covers → k ≢ l → All (λ q. q < path_count m l) qs → AllPairs (λ p q. p < q) qs → IsCut m (exclusion k p l qs)
exclusion_is_cut m k p l qs h u v other all rising = by (nat_lt k l) refl
  where
    above : (b : Bool) → nat_lt k l ≡ b → b ≡ false → l < k
    above b e f = elim (cases_lt k l) [
      | inl less ↦ (let yes : nat_lt k l ≡ true = lt-ltb k l less in cc)
      | inr more ↦ (let apart : k ≢ l = other in omega (arith, more, apart))
    ]

    first : CutTerm Rational
    first = share_of k p

    by : (b : Bool) → nat_lt k l ≡ b → IsCut m (record { terms = cond b (share_of k p ∷ map (share_of l) qs) (map (share_of l) qs ++ share_of k p ∷ []); right = one_ℚ })
    by true e = record {
      rising = AllPairs-cons (λ s t. IsTrue (is_share_before s t)) (share_of k p) (map (share_of l) qs)
          (All-map (λ t. IsTrue (is_share_before (share_of k p) t)) (share_of l) qs (λ i d w. or_left (nat_lt k l) _ e)) (shares_rise l qs rising);
      shares = All-cons (IsShareOf m) (share_of k p) (map (share_of l) qs) (h, u) (shares_are m l qs v all);
      nonzero = All-cons (λ (t : CutTerm Rational). t.value ≢ zero_ℚ) (share_of k p) (map (share_of l) qs) one_nonzero (shares_nonzero l qs);
    }
    by false e = record {
      rising = pairs_append (λ s t. IsTrue (is_share_before s t)) (map (share_of l) qs) (share_of k p ∷ []) (shares_rise l qs rising) (λ i j d w x. absurd (omega (arith, w, x)))
          (All-map (λ s. All (λ t. IsTrue (is_share_before s t)) (share_of k p ∷ [])) (share_of l) qs (λ i d w.
          All-cons (λ t. IsTrue (is_share_before (share_of l (get_or qs i d)) t)) (share_of k p) [] (or_left (nat_lt l k) _ (lt-ltb l k (above false e refl))) (All-nil (λ t. IsTrue (is_share_before (share_of l (get_or qs i d)) t)))));
      shares = All-append (IsShareOf m) (map (share_of l) qs) (share_of k p ∷ []) (shares_are m l qs v all) (All-cons (IsShareOf m) (share_of k p) [] (h, u) (All-nil (IsShareOf m)));
      nonzero = All-append (λ (t : CutTerm Rational). t.value ≢ zero_ℚ) (map (share_of l) qs) (share_of k p ∷ []) (shares_nonzero l qs)
          (All-cons (λ (t : CutTerm Rational). t.value ≢ zero_ℚ) (share_of k p) [] one_nonzero (All-nil (λ (t : CutTerm Rational). t.value ≢ zero_ℚ)));
    }
