-- Each row of the relaxation is met by each outcome of the piece.
use Rattle.std.specs.Prelude.{◌≡◌, ◌≢◌, ℕ, zero, suc, ◌+◌, ◌<◌, pos, List, [], ◌∷◌, length, slice_index, Bool, true, false, cond, ◌==◌, ◌&&◌, refl}
use Rattle.std.specs.List.{range_with_len}
use Rattle.std.proofs.Common.{arith, sym, ap, ap₂, ◌∙◌, ne_eqb, eq-eqb}
use Rattle.npp_frac.specs.Rational.{Rational, zero_ℚ, one_ℚ, whole, negative, ◌+ℚ◌, ◌*ℚ◌, ◌≤ℚ◌, Is-le, le-Is, Is-same, Is-ratio, Is-whole, Is-self, Is-add, Is-negative}
use Rattle.npp_frac.specs.Ring.{negative-+ℚ, +ℚ-zero, zero-+ℚ, zero-*ℚ, one-*ℚ, negative-*ℚ}
use Rattle.npp_frac.specs.Order.{≤ℚ_refl}
use Rattle.npp_frac.specs.Sums.{sum_by, sum_by_same}
use Rattle.npp_net.specs.Network.{Network}
use Rattle.npp_net.specs.Toll.{TollVector}
use Rattle.npp_rows.specs.declared.names.ColumnName.{ColumnName}
use Rattle.npp_rows.specs.declared.names.ColumnName.TheVariants.{Toll, Share, Paid}
use Rattle.npp_rows.specs.PathModel.{PathModel, tolls, uses, cap_at, path_cost, path_gap}
use Rattle.npp_rows.specs.Parts.{chosen, IsAllowed, IsChoiceFrom}
use Rattle.npp_rows.specs.Named.{one_if, value_over}
use Rattle.npp_rows.specs.Relax.{relaxation_columns, cap_entry, follow_entry, below_entry, use_entry, link_entry, one_entry}
use Rattle.npp_rows.specs.Piece.{IsInPiece, outcome_number, toll_value}
use Rattle.npp_rows.proofs.ValueLaws.{sum_one, range_rises, range_has, outcome_value, toll_value_sum, share_value_sum, paid_value_sum}

pub zero_negative : negative zero_ℚ ≡ zero_ℚ
zero_negative = Is-same (Is-negative (Is-whole (pos 0))) (Is-whole (pos 0)) (omega arith)

-- ---- sums that vanish, and sums at one place

pub sum_zero : (a n : ℕ) (f : ℕ → Rational) → ((k : ℕ) → k < a + n → f k ≡ zero_ℚ) → sum_by f (range_with_len a n) ≡ zero_ℚ
unfolding sum_by
sum_zero a zero f h = refl
sum_zero a (suc n) f h = ap₂ ◌+ℚ◌ (h a (omega arith)) (sum_zero (a + 1) n f (λ k l. h k (omega arith))) ∙ +ℚ-zero zero_ℚ

pub sum_at : (n c : ℕ) (f : ℕ → Rational) → c < n → ((p : ℕ) → p ≢ c → f p ≡ zero_ℚ) → sum_by f (range_with_len 0 n) ≡ f c
sum_at n c f h none = sum_one f c none (range_with_len 0 n) (range_rises 0 n) (range_has n c h)

pub same_test : (c : ℕ) → (c == c) ≡ true
same_test c = eq-eqb c c refl

pub other_test : (c p : ℕ) → p ≢ c → (c == p) ≡ false
other_test c p h = ne_eqb c p (λ e. h (sym e))

sum_negative : (f : ℕ → Rational) (xs : List ℕ) → sum_by (λ b. negative (f b)) xs ≡ negative (sum_by f xs)
unfolding sum_by
sum_negative f [] = sym zero_negative
sum_negative f (x ∷ xs) = ap (λ z. negative (f x) +ℚ z) (sum_negative f xs) ∙ sym (negative-+ℚ (f x) (sum_by f xs))

-- ---- comparisons

pub less_of_≤ : (x y : Rational) → x ≤ℚ y → (negative y +ℚ zero_ℚ +ℚ x) ≤ℚ zero_ℚ
less_of_≤ x y h = Is-le (Is-add (Is-add (Is-negative (Is-self y)) (Is-whole (pos 0))) (Is-self x)) (Is-whole (pos 0)) (omega (arith, le-Is (Is-self x) (Is-self y) h))

pub less_of_≤' : (x y : Rational) → x ≤ℚ y → (zero_ℚ +ℚ negative y +ℚ x) ≤ℚ zero_ℚ
less_of_≤' x y h = Is-le (Is-add (Is-add (Is-whole (pos 0)) (Is-negative (Is-self y))) (Is-self x)) (Is-whole (pos 0)) (omega (arith, le-Is (Is-self x) (Is-self y) h))

linked : (x y : Rational) → (x +ℚ y +ℚ negative x) ≤ℚ y
linked x y = Is-le (Is-add (Is-add (Is-self x) (Is-self y)) (Is-negative (Is-self x))) (Is-self y) (omega arith)

unlinked : (x y : Rational) → x ≤ℚ y → (x +ℚ zero_ℚ +ℚ negative zero_ℚ) ≤ℚ y
unlinked x y h = Is-le (Is-add (Is-add (Is-self x) (Is-whole (pos 0))) (Is-negative (Is-whole (pos 0)))) (Is-self y) (omega (arith, le-Is (Is-self x) (Is-self y) h))

-- ---- the three parts of a value

module _ (m : PathModel) (t : TollVector) (choice : List ℕ) (entry : ColumnName → Rational) where
  pub toll_none : ((b : ℕ) → entry (Toll b) ≡ zero_ℚ) → toll_value_sum m t choice entry ≡ zero_ℚ
  toll_none h = sum_zero 0 (length m.caps) (λ b. entry (Toll b) *ℚ toll_value t b) (λ b l. rw (h b) (zero-*ℚ (toll_value t b)))

  pub toll_one : (a : ℕ) → a < length m.caps → ((b : ℕ) → b ≢ a → entry (Toll b) ≡ zero_ℚ) → toll_value_sum m t choice entry ≡ entry (Toll a) *ℚ toll_value t a
  toll_one a l h = sum_at (length m.caps) a (λ b. entry (Toll b) *ℚ toll_value t b) l (λ b o. rw (h b o) (zero-*ℚ (toll_value t b)))

  pub share_none : ((k p : ℕ) → entry (Share k p) ≡ zero_ℚ) → share_value_sum m t choice entry ≡ zero_ℚ
  share_none h = sum_zero 0 (length m.covers) (λ k. entry (Share k (chosen choice k))) (λ k l. h k (chosen choice k))

  pub share_at : (k : ℕ) → k < length m.covers → ((l p : ℕ) → l ≢ k → entry (Share l p) ≡ zero_ℚ) → share_value_sum m t choice entry ≡ entry (Share k (chosen choice k))
  share_at k u h = sum_at (length m.covers) k (λ k. entry (Share k (chosen choice k))) u (λ l o. h l (chosen choice l) o)

  paid_by_none : (k : ℕ) → ((b : ℕ) → entry (Paid b k) ≡ zero_ℚ) → sum_by (λ b. entry (Paid b k) *ℚ outcome_number m t choice (Paid b k)) (tolls m) ≡ zero_ℚ
  paid_by_none k h = sum_zero 0 (length m.caps) (λ b. entry (Paid b k) *ℚ outcome_number m t choice (Paid b k)) (λ b l. rw (h b) (zero-*ℚ (outcome_number m t choice (Paid b k))))

  pub paid_none : ((b k : ℕ) → entry (Paid b k) ≡ zero_ℚ) → paid_value_sum m t choice entry ≡ zero_ℚ
  paid_none h = sum_zero 0 (length m.covers) (λ k. sum_by (λ b. entry (Paid b k) *ℚ outcome_number m t choice (Paid b k)) (tolls m)) (λ k l. paid_by_none k (λ b. h b k))

  pub paid_by : (k : ℕ) → k < length m.covers → ((b l : ℕ) → l ≢ k → entry (Paid b l) ≡ zero_ℚ)
      → paid_value_sum m t choice entry ≡ sum_by (λ b. entry (Paid b k) *ℚ outcome_number m t choice (Paid b k)) (tolls m)
  paid_by k u h = sum_at (length m.covers) k (λ k. sum_by (λ b. entry (Paid b k) *ℚ outcome_number m t choice (Paid b k)) (tolls m)) u (λ l o. paid_by_none l (λ b. h b l o))

  pub paid_at : (a k : ℕ) → a < length m.caps → k < length m.covers → ((b l : ℕ) → l ≢ k → entry (Paid b l) ≡ zero_ℚ) → ((b : ℕ) → b ≢ a → entry (Paid b k) ≡ zero_ℚ)
      → paid_value_sum m t choice entry ≡ entry (Paid a k) *ℚ outcome_number m t choice (Paid a k)
  paid_at a k l u h g =
      paid_by k u h
      ∙ sum_at (length m.caps) a (λ b. entry (Paid b k) *ℚ outcome_number m t choice (Paid b k)) l (λ b o. rw (g b o) (zero-*ℚ (outcome_number m t choice (Paid b k))))

-- ---- rows

both_false : (b : Bool) → (b && false) ≡ false
both_false true = refl
both_false false = refl

module _ (net : Network) (m : PathModel) (parts : List (List ℕ)) (t : TollVector) (choice : List ℕ) (allowed : IsAllowed m parts) (piece : IsInPiece net m parts t choice) where
  -- the value of a row, from its three parts
  value_parts : (entry : ColumnName → Rational) (x y z : Rational) → toll_value_sum m t choice entry ≡ x → share_value_sum m t choice entry ≡ y → paid_value_sum m t choice entry ≡ z
      → value_over (relaxation_columns m parts) entry (outcome_number m t choice) ≡ x +ℚ y +ℚ z
  value_parts entry x y z a b c = outcome_value m parts t choice allowed piece.allowed entry ∙ ap₂ ◌+ℚ◌ (ap₂ ◌+ℚ◌ a b) c

  pub toll_within : (a : ℕ) → a < length m.caps → toll_value t a ≤ℚ whole (pos (cap_at m a))
  toll_within a h =
      Is-le (Is-ratio (pos (slice_index t.numerators a)) t.denominator (omega (arith, piece.outcome.vector.positive))) (Is-whole (pos (cap_at m a)))
      (omega (arith, piece.capped a h))

  toll_not_negative : (a : ℕ) → zero_ℚ ≤ℚ toll_value t a
  toll_not_negative a = Is-le (Is-whole (pos 0)) (Is-ratio (pos (slice_index t.numerators a)) t.denominator (omega (arith, piece.outcome.vector.positive))) (omega arith)

  pub cap_holds : (a : ℕ) → a < length m.caps → value_over (relaxation_columns m parts) (cap_entry a) (outcome_number m t choice) ≤ℚ whole (pos (cap_at m a))
  cap_holds a h =
      let e = same_test a in
      let first : toll_value_sum m t choice (cap_entry a) ≡ toll_value t a =
      toll_one m t choice (cap_entry a) a h (λ b o. let e = other_test a b o in rw e refl) ∙ rw e (one-*ℚ (toll_value t a)) in
      rw (value_parts (cap_entry a) (toll_value t a) zero_ℚ zero_ℚ first (share_none m t choice (cap_entry a) (λ k p. refl)) (paid_none m t choice (cap_entry a) (λ b k. refl)), +ℚ-zero (toll_value t a +ℚ zero_ℚ), +ℚ-zero (toll_value t a))
      (toll_within a h)

  pub one_holds : (k : ℕ) → k < length m.covers → value_over (relaxation_columns m parts) (one_entry k) (outcome_number m t choice) ≤ℚ one_ℚ
  one_holds k u =
      let e = same_test k in
      let mid : share_value_sum m t choice (one_entry k) ≡ one_ℚ = share_at m t choice (one_entry k) k u (λ l p o. let e = other_test k l o in rw e refl) ∙ rw e refl in
      rw (value_parts (one_entry k) zero_ℚ one_ℚ zero_ℚ (toll_none m t choice (one_entry k) (λ b. refl)) mid (paid_none m t choice (one_entry k) (λ b k. refl)), +ℚ-zero (zero_ℚ +ℚ one_ℚ), zero-+ℚ one_ℚ)
      (≤ℚ_refl one_ℚ)

  pub one_low_holds : (k : ℕ) → k < length m.covers → value_over (relaxation_columns m parts) (λ c. negative (one_entry k c)) (outcome_number m t choice) ≤ℚ negative one_ℚ
  one_low_holds k u =
      let e = same_test k in
      let entry : ColumnName → Rational = λ c. negative (one_entry k c) in
      let mid : share_value_sum m t choice (λ c. negative (one_entry k c)) ≡ negative one_ℚ =
      share_at m t choice (λ c. negative (one_entry k c)) k u (λ l p o. let e = other_test k l o in rw e zero_negative) ∙ rw e refl in
      rw (value_parts (λ c. negative (one_entry k c)) zero_ℚ (negative one_ℚ) zero_ℚ (toll_none m t choice (λ c. negative (one_entry k c)) (λ b. zero_negative)) mid (paid_none m t choice (λ c. negative (one_entry k c)) (λ b k. zero_negative)), +ℚ-zero (zero_ℚ +ℚ negative one_ℚ), zero-+ℚ (negative one_ℚ))
      (≤ℚ_refl (negative one_ℚ))

  pair_paid : (entry : ColumnName → Rational) (q : Rational) (a k : ℕ) → a < length m.caps → k < length m.covers
      → ((b l : ℕ) → entry (Paid b l) ≡ cond ((a == b) && (k == l)) q zero_ℚ)
      → paid_value_sum m t choice entry ≡ q *ℚ outcome_number m t choice (Paid a k)
  pair_paid entry q a k h u is =
      let e = same_test a in
      let f = same_test k in
      paid_at m t choice entry a k h u
      (λ b l o. is b l ∙ (let e = other_test k l o in rw (e, both_false (a == b)) refl))
      (λ b o. is b k ∙ (let e = other_test a b o in rw e refl))
      ∙ ap (λ z. z *ℚ outcome_number m t choice (Paid a k)) (is a k ∙ rw (e, f) refl)

  paid_at_most : (a k : ℕ) (b : Bool) → uses m k (chosen choice k) a ≡ b → cond b (toll_value t a) zero_ℚ ≤ℚ toll_value t a
  paid_at_most a k true h = ≤ℚ_refl (toll_value t a)
  paid_at_most a k false h = toll_not_negative a

  pub below_holds : (a k : ℕ) → a < length m.caps → k < length m.covers → value_over (relaxation_columns m parts) (below_entry a k) (outcome_number m t choice) ≤ℚ zero_ℚ
  below_holds a k h u =
      let e = same_test a in
      let first : toll_value_sum m t choice (below_entry a k) ≡ negative (toll_value t a) =
      toll_one m t choice (below_entry a k) a h (λ b o. let e = other_test a b o in rw e zero_negative)
      ∙ rw e (negative-*ℚ one_ℚ (toll_value t a) ∙ ap negative (one-*ℚ (toll_value t a))) in
      let last : paid_value_sum m t choice (below_entry a k) ≡ outcome_number m t choice (Paid a k) =
      pair_paid (below_entry a k) one_ℚ a k h u (λ b l. refl) ∙ one-*ℚ (outcome_number m t choice (Paid a k)) in
      rw (value_parts (below_entry a k) (negative (toll_value t a)) zero_ℚ (outcome_number m t choice (Paid a k)) first (share_none m t choice (below_entry a k) (λ l p. refl)) last)
      (less_of_≤ (outcome_number m t choice (Paid a k)) (toll_value t a) (paid_at_most a k (uses m k (chosen choice k) a) refl))

  use_by : (g x : Rational) (b : Bool) → (b ≡ true → x ≤ℚ g) → (zero_ℚ +ℚ negative (cond b g zero_ℚ) +ℚ cond b x zero_ℚ) ≤ℚ zero_ℚ
  use_by g x true h = less_of_≤' x g (h refl)
  use_by g x false h = less_of_≤' zero_ℚ zero_ℚ (≤ℚ_refl zero_ℚ)

  pub use_holds : (a k : ℕ) → a < length m.caps → k < length m.covers
      → (uses m k (chosen choice k) a ≡ true → toll_value t a ≤ℚ whole (pos (path_gap m k (chosen choice k))))
      → value_over (relaxation_columns m parts) (use_entry m a k) (outcome_number m t choice) ≤ℚ zero_ℚ
  use_holds a k h u gap =
      let e = same_test k in
      let g : Rational = whole (pos (path_gap m k (chosen choice k))) in
      let mid : share_value_sum m t choice (use_entry m a k) ≡ negative (cond (uses m k (chosen choice k) a) (whole (pos (path_gap m k (chosen choice k)))) zero_ℚ) =
      share_at m t choice (use_entry m a k) k u (λ l p o. let e = other_test k l o in rw e zero_negative) ∙ rw e refl in
      let last : paid_value_sum m t choice (use_entry m a k) ≡ outcome_number m t choice (Paid a k) =
      pair_paid (use_entry m a k) one_ℚ a k h u (λ b l. refl) ∙ one-*ℚ (outcome_number m t choice (Paid a k)) in
      rw (value_parts (use_entry m a k) zero_ℚ (negative (cond (uses m k (chosen choice k) a) (whole (pos (path_gap m k (chosen choice k)))) zero_ℚ)) (outcome_number m t choice (Paid a k)) (toll_none m t choice (use_entry m a k) (λ b. refl)) mid last)
      (use_by g (toll_value t a) (uses m k (chosen choice k) a) gap)

  negative_one_if : (b : Bool) → negative (one_if b) ≡ cond b (negative one_ℚ) zero_ℚ
  negative_one_if true = refl
  negative_one_if false = zero_negative

  link_by : (g x : Rational) (b : Bool) → x ≤ℚ g → (x +ℚ cond b g zero_ℚ +ℚ negative (cond b x zero_ℚ)) ≤ℚ g
  link_by g x true h = linked x g
  link_by g x false h = unlinked x g h

  pub link_holds : (a k : ℕ) → a < length m.caps → k < length m.covers
      → value_over (relaxation_columns m parts) (link_entry m a k) (outcome_number m t choice) ≤ℚ whole (pos (cap_at m a))
  link_holds a k h u =
      let e = same_test a in
      let f = same_test k in
      let first : toll_value_sum m t choice (link_entry m a k) ≡ toll_value t a =
      toll_one m t choice (link_entry m a k) a h (λ b o. let e = other_test a b o in rw e refl) ∙ rw e (one-*ℚ (toll_value t a)) in
      let mid : share_value_sum m t choice (link_entry m a k) ≡ cond (uses m k (chosen choice k) a) (whole (pos (cap_at m a))) zero_ℚ =
      share_at m t choice (link_entry m a k) k u (λ l p o. let e = other_test k l o in rw e refl) ∙ rw f refl in
      let last : paid_value_sum m t choice (link_entry m a k) ≡ negative (outcome_number m t choice (Paid a k)) =
      pair_paid (link_entry m a k) (negative one_ℚ) a k h u (λ b l. negative_one_if ((a == b) && (k == l)))
      ∙ negative-*ℚ one_ℚ (outcome_number m t choice (Paid a k)) ∙ ap negative (one-*ℚ (outcome_number m t choice (Paid a k))) in
      rw (value_parts (link_entry m a k) (toll_value t a) (cond (uses m k (chosen choice k) a) (whole (pos (cap_at m a))) zero_ℚ) (negative (outcome_number m t choice (Paid a k))) first mid last)
      (link_by (whole (pos (cap_at m a))) (toll_value t a) (uses m k (chosen choice k) a) (toll_within a h))

  -- the value of a row at an outcome does not depend on the family
  pub same_value : (others : List (List ℕ)) (entry : ColumnName → Rational) → IsAllowed m others → IsChoiceFrom m others choice
      → value_over (relaxation_columns m parts) entry (outcome_number m t choice) ≡ value_over (relaxation_columns m others) entry (outcome_number m t choice)
  same_value others entry a c = outcome_value m parts t choice allowed piece.allowed entry ∙ sym (outcome_value m others t choice a c entry)

  -- what a path pays, as a rational number
  abbrev pub path_paid : ℕ → ℕ → Rational
  path_paid k q = sum_by (λ b. cond (uses m k q b) (toll_value t b) zero_ℚ) (tolls m)

  pub one_if_times : (b : Bool) (x : Rational) → one_if b *ℚ x ≡ cond b x zero_ℚ
  one_if_times true x = one-*ℚ x
  one_if_times false x = zero-*ℚ x

  -- the sum that has to be at most the cost of path q
  pub follow_value : (k q : ℕ) → k < length m.covers → value_over (relaxation_columns m parts) (follow_entry m k q) (outcome_number m t choice)
      ≡ negative (path_paid k q) +ℚ whole (pos (path_cost m k (chosen choice k))) +ℚ path_paid k (chosen choice k)
  follow_value k q u =
      let e = same_test k in
      let first : toll_value_sum m t choice (follow_entry m k q) ≡ negative (path_paid k q) =
      sum_by_same (λ b. negative (one_if (uses m k q b)) *ℚ toll_value t b) (λ b. negative (cond (uses m k q b) (toll_value t b) zero_ℚ)) (tolls m)
      (λ b. negative-*ℚ (one_if (uses m k q b)) (toll_value t b) ∙ ap negative (one_if_times (uses m k q b) (toll_value t b)))
      ∙ sum_negative (λ b. cond (uses m k q b) (toll_value t b) zero_ℚ) (tolls m) in
      let mid : share_value_sum m t choice (follow_entry m k q) ≡ whole (pos (path_cost m k (chosen choice k))) =
      share_at m t choice (follow_entry m k q) k u (λ l p o. let e = other_test k l o in rw e refl) ∙ rw e refl in
      let last : paid_value_sum m t choice (follow_entry m k q) ≡ path_paid k (chosen choice k) =
      paid_by m t choice (follow_entry m k q) k u (λ b l o. let e = other_test k l o in rw e refl)
      ∙ sum_by_same (λ b. one_if (k == k) *ℚ outcome_number m t choice (Paid b k)) (λ b. outcome_number m t choice (Paid b k)) (tolls m) (λ b. rw e (one-*ℚ (outcome_number m t choice (Paid b k)))) in
      value_parts (follow_entry m k q) (negative (path_paid k q)) (whole (pos (path_cost m k (chosen choice k)))) (path_paid k (chosen choice k)) first mid last
