-- The laws of named programs: once numbered they are well formed, and a row has the value that its names say.
use Rattle.std.specs.Prelude.{◌≡◌, ◌≢◌, ℕ, ◌+◌, ◌<◌, ◌≤◌, pos, List, [], ◌∷◌, ◌++◌, length, map, Bool, true, false, cond, All, refl}
use Rattle.std.specs.List.{AllPairs}
use Rattle.std.proofs.Common.{arith, sym, ap, ap₂, ◌∙◌}
use Rattle.std.proofs.Math.Seq.{get_or-append_seam}
use Rattle.std.proofs.lemmas.List.{append_assoc, length-append}
use Rattle.std.proofs.lemmas.List.Elements.{All-cons}
use Rattle.std.proofs.lemmas.List.Kept.{AllPairs-cons}
use Rattle.std.proofs.lemmas.Bool.Decides.{Decides-int_eq}
use Rattle.npp_frac.specs.Rational.{Rational, zero_ℚ, ◌+ℚ◌, ◌*ℚ◌}
use Rattle.npp_frac.specs.Ring.{+ℚ-zero, zero-*ℚ}
use Rattle.npp_frac.specs.Sign.{zero_of_num, num_of_zero}
use Rattle.npp_frac.specs.Sums.{sum_by, sum_by-append}
use Rattle.npp_lp.specs.Programs.{Term, AreTerms, at, terms_at}
use Rattle.npp_rows.specs.declared.names.ColumnName.{ColumnName}
use Rattle.npp_frac.specs.Sign.{is_zero}
use Rattle.npp_lp.specs.Building.{term_at}
use Rattle.npp_rows.specs.Named.{terms_from, value_over}

pub zero_of_test : (q : Rational) → is_zero q ≡ true → q ≡ zero_ℚ
zero_of_test q h = zero_of_num q ((Decides-int_eq q.num (pos 0)).0 h)

nonzero_of_test : (q : Rational) → is_zero q ≡ false → q ≢ zero_ℚ
nonzero_of_test q h e = let yes : is_zero q ≡ true = (Decides-int_eq q.num (pos 0)).1 (num_of_zero q e) in cc

-- ---- the value of a row

module _ (n : ℕ) (q : Rational) (xs : List Rational) where
  term_by : (b : Bool) → is_zero q ≡ b → terms_at (cond b [] (record { column = n; value = q } ∷ [])) xs ≡ q *ℚ at xs n
  unfolding sum_by
  term_by true h = sym (ap (λ z. z *ℚ at xs n) (zero_of_test q h) ∙ zero-*ℚ (at xs n))
  term_by false h = +ℚ-zero (q *ℚ at xs n)

  one_term : terms_at (term_at n q) xs ≡ q *ℚ at xs n
  one_term = term_by (is_zero q) refl

module _ (e x : ColumnName → Rational) where
  terms_after : (n : ℕ) (cs : List ColumnName) (before : List Rational) → length before ≡ n → terms_at (terms_from n e cs) (before ++ map x cs) ≡ value_over cs e x
  unfolding sum_by
  terms_after n [] before h = refl
  terms_after n (c ∷ rest) before h =
      let xs : List Rational = before ++ x c ∷ map x rest in
      let here : at xs n ≡ x c = rw (← h) (get_or-append_seam before (x c) (map x rest) zero_ℚ) in
      let same : (before ++ x c ∷ []) ++ map x rest ≡ xs = append_assoc before (x c ∷ []) (map x rest) in
      let size : length (before ++ x c ∷ []) ≡ n + 1 = omega (arith, h, length-append before (x c ∷ [])) in
      let tail : terms_at (terms_from (n + 1) e rest) ((before ++ x c ∷ []) ++ map x rest) ≡ value_over rest e x = terms_after (n + 1) rest (before ++ x c ∷ []) size in
      sum_by-append (λ t. t.value *ℚ at xs t.column) (term_at n (e c)) (terms_from (n + 1) e rest)
      ∙ ap₂ ◌+ℚ◌ (one_term n (e c) xs ∙ ap (λ z. e c *ℚ z) here) (rw same at tail)

  -- a numbered row at the vector of named numbers
  pub row_value : (cs : List ColumnName) → terms_at (terms_from 0 e cs) (map x cs) ≡ value_over cs e x
  row_value cs = terms_after 0 cs [] refl

-- ---- the terms stand in order

-- a term at a number from n on, below top, that is not 0
record IsBetween (n top : ℕ) (t : Term) : Type 0 where
  low : n ≤ t.column
  high : t.column < top
  nonzero : t.value ≢ zero_ℚ

module _ (e : ColumnName → Rational) where
  between_by : (b : Bool) (n top : ℕ) (q : Rational) (rest : List Term) → is_zero q ≡ b → n < top → All (IsBetween (n + 1) top) rest
      → All (IsBetween n top) (cond b [] (record { column = n; value = q } ∷ []) ++ rest)
      × (AllPairs (λ s t. s.column < t.column) rest → AllPairs (λ s t. s.column < t.column) (cond b [] (record { column = n; value = q } ∷ []) ++ rest))
  between_by true n top q rest h l all = (λ k d i. let o = all k d i in record { low = omega (arith, o.low); high = o.high; nonzero = o.nonzero }, λ r. r)
  between_by false n top q rest h l all = (
    All-cons (IsBetween n top) (record { column = n; value = q }) rest (record { low = omega arith; high = l; nonzero = nonzero_of_test q h })
        (λ k d i. let o = all k d i in record { low = omega (arith, o.low); high = o.high; nonzero = o.nonzero }),
    λ r. AllPairs-cons (λ s t. s.column < t.column) (record { column = n; value = q }) rest (λ k d i. omega (arith, (all k d i).low)) r,
  )

  in_order : (n top : ℕ) (cs : List ColumnName) → n + length cs ≤ top
      → All (IsBetween n top) (terms_from n e cs) × AllPairs (λ s t. s.column < t.column) (terms_from n e cs)
  in_order n top [] h = (λ k d i. absurd (omega (arith, i)), λ i j d l k. absurd (omega (arith, k)))
  in_order n top (c ∷ rest) h =
      let tail = in_order (n + 1) top rest (omega arith) in
      let both = between_by (is_zero (e c)) n top (e c) (terms_from (n + 1) e rest) refl (omega arith) tail.0 in
      (both.0, both.1 tail.1)

  -- the terms of a numbered row rise, are in range, and none is 0
  pub terms_are_in_order : (cs : List ColumnName) → AreTerms (length cs) (terms_from 0 e cs)
  terms_are_in_order cs =
      let all = in_order 0 (length cs) cs (omega arith) in
      record { rising = all.1; in_range = λ k d i. (all.0 k d i).high; nonzero = λ k d i. (all.0 k d i).nonzero }
