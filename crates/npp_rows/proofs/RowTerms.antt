-- The terms of each kind of row of a relaxation.
use Rattle.std.proofs.Common.{◌≡◌, ◌≢◌, ℕ, ◌+◌, ◌<◌, pos, Bool, true, false, cond, ◌==◌, ◌&&◌, List, [], ◌++◌, length, map, get_or, refl, ap, ap₂, ◌∙◌, arith}
use Rattle.std.specs.List.{AllPairs}
use Rattle.std.proofs.lemmas.List.{append-nil}
use Rattle.std.proofs.lemmas.List.FromFn.{length-range_with_len, get_or-range_with_len}
use Rattle.npp_frac.specs.Rational.{Rational, zero_ℚ, one_ℚ, whole, negative}
use Rattle.npp_rows.specs.declared.names.ColumnName.{ColumnName}
use Rattle.npp_rows.specs.declared.names.ColumnName.TheVariants.{Toll, Share, Paid}
use Rattle.npp_rows.specs.PathModel.{PathModel, tolls, uses, path_cost, path_gap, cap_at}
use Rattle.npp_rows.specs.Parts.{part_at}
use Rattle.npp_lp.specs.Building.{term_at}
use Rattle.npp_rows.specs.Named.{one_if, terms_from, numbers_from}
use Rattle.npp_rows.specs.Relax.{relaxation_columns, allowed_tolls, cap_entry, follow_entry, below_entry, use_entry, link_entry, one_entry}
use Rattle.npp_rows.specs.Rows.{shares_from, paid_from}
use Rattle.npp_rows.proofs.RowLaws.{same_test, other_test, zero_negative}
use Rattle.npp_rows.proofs.ValueLaws.{range_rises}
use Rattle.npp_rows.proofs.TermLaws.{terms_none, terms_one, row_of_one, row_of_tolls}
use Rattle.npp_rows.proofs.NumberLaws.{numbers_of, numbers_same}

both_false : (b : Bool) → (b && false) ≡ false
both_false true = refl
both_false false = refl

module _ (m : PathModel) (parts : List (List ℕ)) where
  -- one toll of the first block
  pub toll_block : (e : ColumnName → Rational) (a : ℕ) → a < length m.caps → ((b : ℕ) → b ≢ a → e (Toll b) ≡ zero_ℚ) → terms_from 0 e (map Toll (tolls m)) ≡ term_at a (e (Toll a))
  toll_block e a h others =
      terms_one e Toll a others 0 a (tolls m) (range_rises 0 (length m.caps)) (rw (length-range_with_len 0 (length m.caps)) h) (get_or-range_with_len 0 (length m.caps) a a h ∙ omega arith)
      ∙ ap (λ j. term_at j (e (Toll a))) (omega arith)

  -- one toll of the last block
  paid_block : (e : ColumnName → Rational) (k a i n : ℕ) → AllPairs (λ p q. p < q) (allowed_tolls m parts k) → i < length (allowed_tolls m parts k) → get_or (allowed_tolls m parts k) i a ≡ a
      → ((b : ℕ) → b ≢ a → e (Paid b k) ≡ zero_ℚ) → terms_from n e (map (λ b. Paid b k) (allowed_tolls m parts k)) ≡ term_at (n + i) (e (Paid a k))
  paid_block e k a i n rising h is others = terms_one e (λ b. Paid b k) a others n i (allowed_tolls m parts k) rising h is

  pub cap_terms : (a : ℕ) → a < length m.caps → terms_from 0 (cap_entry a) (relaxation_columns m parts) ≡ term_at a one_ℚ
  cap_terms a h =
      let e = same_test a in
      row_of_tolls (cap_entry a) m parts 0 (λ l p. refl) (λ b l. refl)
      ∙ toll_block (cap_entry a) a h (λ b ne. let o = other_test a b ne in rw o refl)
      ∙ rw e refl

  pub follow_terms : (k q : ℕ) → k < length m.covers → terms_from 0 (follow_entry m k q) (relaxation_columns m parts) ≡
      (numbers_from 0 (λ b. negative (one_if (uses m k q b))) (tolls m)
      ++ numbers_from (shares_from m parts k) (λ p. whole (pos (path_cost m k p))) (part_at parts k))
      ++ numbers_from (paid_from m parts k) (λ a. one_ℚ) (allowed_tolls m parts k)
  follow_terms k q h =
      let e = same_test k in
      row_of_one (follow_entry m k q) m parts k h (λ l p ne. let o = other_test k l ne in rw o refl) (λ b l ne. let o = other_test k l ne in rw o refl)
      ∙ ap₂ ◌++◌
      (ap₂ ◌++◌ (numbers_of (follow_entry m k q) Toll 0 (tolls m))
      (numbers_of (follow_entry m k q) (Share k) (shares_from m parts k) (part_at parts k) ∙ numbers_same _ _ (shares_from m parts k) (part_at parts k) (λ p. rw e refl)))
      (numbers_of (follow_entry m k q) (λ a. Paid a k) (paid_from m parts k) (allowed_tolls m parts k) ∙ numbers_same _ _ (paid_from m parts k) (allowed_tolls m parts k) (λ b. rw e refl))

  pub one_terms : (k : ℕ) → k < length m.covers → terms_from 0 (one_entry k) (relaxation_columns m parts) ≡ numbers_from (shares_from m parts k) (λ p. one_ℚ) (part_at parts k)
  one_terms k h =
      let e = same_test k in
      row_of_one (one_entry k) m parts k h (λ l p ne. let o = other_test k l ne in rw o refl) (λ b l ne. refl)
      ∙ ap₂ ◌++◌
      (ap₂ ◌++◌ (terms_none (one_entry k) Toll 0 (tolls m) (λ b. refl))
      (numbers_of (one_entry k) (Share k) (shares_from m parts k) (part_at parts k) ∙ numbers_same _ _ (shares_from m parts k) (part_at parts k) (λ p. rw e refl)))
      (terms_none (one_entry k) (λ a. Paid a k) (paid_from m parts k) (allowed_tolls m parts k) (λ b. refl))
      ∙ append-nil _

  pub one_low_terms : (k : ℕ) → k < length m.covers
      → terms_from 0 (λ c. negative (one_entry k c)) (relaxation_columns m parts) ≡ numbers_from (shares_from m parts k) (λ p. negative one_ℚ) (part_at parts k)
  one_low_terms k h =
      let e = same_test k in
      row_of_one (λ c. negative (one_entry k c)) m parts k h (λ l p ne. let o = other_test k l ne in rw o zero_negative) (λ b l ne. zero_negative)
      ∙ ap₂ ◌++◌
      (ap₂ ◌++◌ (terms_none (λ c. negative (one_entry k c)) Toll 0 (tolls m) (λ b. zero_negative))
      (numbers_of (λ c. negative (one_entry k c)) (Share k) (shares_from m parts k) (part_at parts k) ∙ numbers_same _ _ (shares_from m parts k) (part_at parts k) (λ p. rw e refl)))
      (terms_none (λ c. negative (one_entry k c)) (λ a. Paid a k) (paid_from m parts k) (allowed_tolls m parts k) (λ b. zero_negative))
      ∙ append-nil _

  -- a row of a toll and a commodity whose paths use it
  module _ (a k i : ℕ) (toll : a < length m.caps) (h : k < length m.covers) (rising : AllPairs (λ p q. p < q) (allowed_tolls m parts k)) (inside : i < length (allowed_tolls m parts k)) (is : get_or (allowed_tolls m parts k) i a ≡ a) where
    pub below_terms : terms_from 0 (below_entry a k) (relaxation_columns m parts) ≡ term_at a (negative one_ℚ) ++ term_at (paid_from m parts k + i) one_ℚ
    below_terms =
        let e = same_test a in
        let f = same_test k in
        row_of_one (below_entry a k) m parts k h (λ l p ne. refl) (λ b l ne. let o = other_test k l ne in rw (o, both_false (a == b)) refl)
        ∙ ap₂ ◌++◌
        (ap₂ ◌++◌ (toll_block (below_entry a k) a toll (λ b ne. let o = other_test a b ne in rw o zero_negative) ∙ rw e refl)
        (terms_none (below_entry a k) (Share k) (shares_from m parts k) (part_at parts k) (λ p. refl))
        ∙ append-nil (term_at a (negative one_ℚ)))
        (paid_block (below_entry a k) k a i (paid_from m parts k) rising inside is (λ b ne. let o = other_test a b ne in rw o refl) ∙ rw (e, f) refl)

    pub use_terms : terms_from 0 (use_entry m a k) (relaxation_columns m parts) ≡
        numbers_from (shares_from m parts k) (λ p. negative (cond (uses m k p a) (whole (pos (path_gap m k p))) zero_ℚ)) (part_at parts k) ++ term_at (paid_from m parts k + i) one_ℚ
    use_terms =
        let e = same_test a in
        let f = same_test k in
        row_of_one (use_entry m a k) m parts k h (λ l p ne. let o = other_test k l ne in rw o zero_negative) (λ b l ne. let o = other_test k l ne in rw (o, both_false (a == b)) refl)
        ∙ ap₂ ◌++◌
        (ap₂ ◌++◌ (terms_none (use_entry m a k) Toll 0 (tolls m) (λ b. refl))
        (numbers_of (use_entry m a k) (Share k) (shares_from m parts k) (part_at parts k) ∙ numbers_same _ _ (shares_from m parts k) (part_at parts k) (λ p. rw f refl)))
        (paid_block (use_entry m a k) k a i (paid_from m parts k) rising inside is (λ b ne. let o = other_test a b ne in rw o refl) ∙ rw (e, f) refl)

    pub link_terms : terms_from 0 (link_entry m a k) (relaxation_columns m parts) ≡
        (term_at a one_ℚ ++ numbers_from (shares_from m parts k) (λ p. cond (uses m k p a) (whole (pos (cap_at m a))) zero_ℚ) (part_at parts k)) ++ term_at (paid_from m parts k + i) (negative one_ℚ)
    link_terms =
        let e = same_test a in
        let f = same_test k in
        row_of_one (link_entry m a k) m parts k h (λ l p ne. let o = other_test k l ne in rw o refl) (λ b l ne. let o = other_test k l ne in rw (o, both_false (a == b)) zero_negative)
        ∙ ap₂ ◌++◌
        (ap₂ ◌++◌ (toll_block (link_entry m a k) a toll (λ b ne. let o = other_test a b ne in rw o refl) ∙ rw e refl)
        (numbers_of (link_entry m a k) (Share k) (shares_from m parts k) (part_at parts k) ∙ numbers_same _ _ (shares_from m parts k) (part_at parts k) (λ p. rw f refl)))
        (paid_block (link_entry m a k) k a i (paid_from m parts k) rising inside is (λ b ne. let o = other_test a b ne in rw o zero_negative) ∙ rw (e, f) refl)

-- the row of a cap over the tolls alone
pub cap_on_tolls : (m : PathModel) (a : ℕ) → a < length m.caps → terms_from 0 (cap_entry a) (map Toll (tolls m)) ≡ term_at a one_ℚ
cap_on_tolls m a h = let e = same_test a in toll_block m [] (cap_entry a) a h (λ b ne. let o = other_test a b ne in rw o refl) ∙ rw e refl
