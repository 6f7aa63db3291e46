-- The terms of a cut row in a relaxation: those of its terms whose path is allowed.
use Rattle.std.proofs.Common.{◌≡◌, ◌≢◌, ◌⊎◌, inl, inr, ℕ, zero, suc, ◌+◌, ◌<◌, ◌≤◌, List, [], ◌∷◌, ◌++◌, length, map, get_or, refl, sym, ap, ap₂, subst, ◌∙◌, arith, eq-or-lt_of_le, le_of_suc-le-suc}
use Rattle.std.specs.Prelude.{Contains}
use Rattle.std.specs.List.{AllPairs, range_with_len, flat_map}
use Rattle.std.proofs.lemmas.Bool.{cases_eq}
use Rattle.std.proofs.lemmas.List.{append_assoc, append-nil, get_or_default}
use Rattle.npp_frac.specs.Rational.{Rational, zero_ℚ}
use Rattle.npp_lp.specs.Building.{term_at}
use Rattle.npp_lp.specs.Programs.{Term}
use Rattle.npp_cover.specs.Replaces.{sum_below}
use Rattle.npp_rows.specs.declared.names.ColumnName.{ColumnName}
use Rattle.npp_rows.specs.declared.names.ColumnName.TheVariants.{Share}
use Rattle.npp_rows.specs.Parts.{part_at}
use Rattle.npp_rows.specs.Named.{terms_from}
use Rattle.npp_rows.proofs.TermLaws.{no_term_at, terms_append, pieces_push, flat_size}

-- a share at or behind that of a term
abbrev pub IsFrom : ℕ → ℕ → ℕ → ℕ → Type 0
IsFrom k p l q = (k < l) ⊎ ((k ≡ l) × (p ≤ q))

-- ---- a term more, behind all others

module _ (e e' : ColumnName → Rational) (k p : ℕ) (same : (l q : ℕ) → (l ≢ k) ⊎ (q ≢ p) → e' (Share l q) ≡ e (Share l q)) (none : (l q : ℕ) → IsFrom k p l q → e (Share l q) ≡ zero_ℚ) where
  -- past the term both are 0
  past_none : (n l : ℕ) (xs : List ℕ) → ((j d : ℕ) → j < length xs → IsFrom k p l (get_or xs j d) × ((l ≢ k) ⊎ (get_or xs j d ≢ p)))
      → (terms_from n e (map (Share l) xs) ≡ []) × (terms_from n e' (map (Share l) xs) ≡ [])
  past_none n l [] h = (refl, refl)
  past_none n l (x ∷ xs) h =
      let here = h 0 x (omega arith) in
      let rest = past_none (n + 1) l xs (λ j d u. h (suc j) d (omega (arith, u))) in
      let nothing : e (Share l x) ≡ zero_ℚ = none l x here.0 in
      (ap₂ ◌++◌ (no_term_at n (e (Share l x)) nothing) rest.0, ap₂ ◌++◌ (no_term_at n (e' (Share l x)) (same l x here.1 ∙ nothing)) rest.1)

  -- where another commodity or path stands, both are the same
  others_same : (n l : ℕ) (xs : List ℕ) → ((j d : ℕ) → j < length xs → (l ≢ k) ⊎ (get_or xs j d ≢ p)) → terms_from n e' (map (Share l) xs) ≡ terms_from n e (map (Share l) xs)
  others_same n l [] h = refl
  others_same n l (x ∷ xs) h = ap₂ ◌++◌ (ap (term_at n) (same l x (h 0 x (omega arith)))) (others_same (n + 1) l xs (λ j d u. h (suc j) d (omega (arith, u))))

  part_put : (n i : ℕ) (xs : List ℕ) → AllPairs (λ x y. x < y) xs → i < length xs → get_or xs i p ≡ p
      → terms_from n e' (map (Share k) xs) ≡ terms_from n e (map (Share k) xs) ++ term_at (n + i) (e' (Share k p))
  part_put n i [] rising l is = absurd (omega (arith, l))
  part_put n zero (x ∷ xs) rising l is =
      let rest = past_none (n + 1) k xs (λ j d u. let r : x < get_or xs j d = rising 0 (suc j) d (omega arith) (omega (arith, u)) in (inr (refl, omega (arith, r, is)), inr (λ q. omega (arith, q, r, is)))) in
      let nothing : e (Share k x) ≡ zero_ℚ = none k x (inr (refl, omega (arith, is))) in
      ap₂ ◌++◌ (ap₂ term_at {x = n} (omega arith) (ap (λ q. e' (Share k q)) is)) rest.1 ∙ append-nil (term_at (n + 0) (e' (Share k p)))
      ∙ sym (ap (λ t. t ++ term_at (n + 0) (e' (Share k p))) (ap₂ ◌++◌ (no_term_at n (e (Share k x)) nothing) rest.0))
  part_put n (suc i) (x ∷ xs) rising l is =
      let before : x < get_or xs i p = rising 0 (suc i) p (omega arith) l in
      ap₂ ◌++◌ (ap (term_at n) (same k x (inr (λ q. omega (arith, q, before, is))))) (part_put (n + 1) i xs (λ j d c u w. rising (suc j) (suc d) c (omega (arith, u)) (omega (arith, w))) (omega (arith, l)) is)
      ∙ sym (append_assoc (term_at n (e (Share k x))) (terms_from (n + 1) e (map (Share k) xs)) (term_at (n + 1 + i) (e' (Share k p))))
      ∙ ap (λ j. (term_at n (e (Share k x)) ++ terms_from (n + 1) e (map (Share k) xs)) ++ term_at j (e' (Share k p))) (omega arith)

  module _ (parts : List (List ℕ)) where
    abbrev share_piece : ℕ → List ColumnName
    share_piece l = map (Share l) (part_at parts l)

    front_same : (n size : ℕ) → ((l : ℕ) → l < size → l ≢ k) → terms_from n e' (flat_map share_piece (range_with_len 0 size)) ≡ terms_from n e (flat_map share_piece (range_with_len 0 size))
    front_same n zero h = refl
    front_same n (suc size) h =
        ap (terms_from n e') (pieces_push e share_piece size) ∙ terms_append e' n (flat_map share_piece (range_with_len 0 size)) (share_piece size)
        ∙ ap₂ ◌++◌ (front_same n size (λ l u. h l (omega arith))) (others_same (n + length (flat_map share_piece (range_with_len 0 size))) size (part_at parts size) (λ j d u. inl (h size (omega arith))))
        ∙ sym (ap (terms_from n e) (pieces_push e share_piece size) ∙ terms_append e n (flat_map share_piece (range_with_len 0 size)) (share_piece size))

    module _ (n i : ℕ) (rising : AllPairs (λ x y. x < y) (part_at parts k)) (inside : i < length (part_at parts k)) (is : get_or (part_at parts k) i p ≡ p) where
      abbrev put_term : List Term
      put_term = term_at (n + sum_below (λ l. length (share_piece l)) k + i) (e' (Share k p))

      abbrev front : (ColumnName → Rational) → ℕ → List Term
      front f size = terms_from n f (flat_map share_piece (range_with_len 0 size))

      abbrev behind : ℕ → ℕ
      behind size = n + length (flat_map share_piece (range_with_len 0 size))

      put_here : (size : ℕ) → k ≡ size → front e' size ++ terms_from (behind size) e' (share_piece size) ≡ (front e size ++ terms_from (behind size) e (share_piece size)) ++ put_term
      put_here size here =
          ap₂ ◌++◌ (front_same n size (λ l u q. omega (arith, u, q, here)))
          (ap (λ s. terms_from (behind size) e' (share_piece s)) (sym here) ∙ part_put (behind size) i (part_at parts k) rising inside is)
          ∙ sym (append_assoc (front e size) (terms_from (behind size) e (share_piece k)) (term_at (behind size + i) (e' (Share k p))))
          ∙ ap₂ (λ s j. (front e size ++ terms_from (behind size) e (share_piece s)) ++ term_at j (e' (Share k p))) here
          (let at : sum_below (λ l. length (share_piece l)) size ≡ sum_below (λ l. length (share_piece l)) k = ap (sum_below (λ l. length (share_piece l))) (sym here) in omega (arith, flat_size share_piece size, at))

      put_before : (size : ℕ) → k < size → front e' size ≡ front e size ++ put_term
          → front e' size ++ terms_from (behind size) e' (share_piece size) ≡ (front e size ++ terms_from (behind size) e (share_piece size)) ++ put_term
      put_before size below before =
          let past = past_none (behind size) size (part_at parts size) (λ j d u. (inl below, inl (λ q. omega (arith, q, below)))) in
          ap₂ ◌++◌ before past.1 ∙ append-nil (front e size ++ put_term)
          ∙ sym (ap (λ t. t ++ put_term) (ap (λ t. front e size ++ t) past.0 ∙ append-nil (front e size)))

      -- the term stands in its place
      pub shares_put : (size : ℕ) → k < size → front e' size ≡ front e size ++ put_term
      shares_put zero h = absurd (omega (arith, h))
      shares_put (suc size) h =
          ap (terms_from n e') (pieces_push e share_piece size) ∙ terms_append e' n (flat_map share_piece (range_with_len 0 size)) (share_piece size)
          ∙ elim (eq-or-lt_of_le (le_of_suc-le-suc h)) [
            | inl here ↦ put_here size here
            | inr below ↦ put_before size below (shares_put size below)
          ]
          ∙ ap (λ t. t ++ put_term) (sym (ap (terms_from n e) (pieces_push e share_piece size) ∙ terms_append e n (flat_map share_piece (range_with_len 0 size)) (share_piece size)))

    -- a share that is not allowed leaves all as it was
    pub shares_same : (n size : ℕ) → (k < size → Contains (part_at parts k) p → ⊥) → terms_from n e' (flat_map share_piece (range_with_len 0 size)) ≡ terms_from n e (flat_map share_piece (range_with_len 0 size))
    shares_same n zero h = refl
    shares_same n (suc size) h =
        ap (terms_from n e') (pieces_push e share_piece size) ∙ terms_append e' n (flat_map share_piece (range_with_len 0 size)) (share_piece size)
        ∙ ap₂ ◌++◌ (shares_same n size (λ u c. h (omega (arith, u)) c)) (others_same (n + length (flat_map share_piece (range_with_len 0 size))) size (part_at parts size) (λ j d u. other j d u))
        ∙ sym (ap (terms_from n e) (pieces_push e share_piece size) ∙ terms_append e n (flat_map share_piece (range_with_len 0 size)) (share_piece size))
      where
        other : (j d : ℕ) → j < length (part_at parts size) → (size ≢ k) ⊎ (get_or (part_at parts size) j d ≢ p)
        other j d u = elim (cases_eq size k) [
          | inr apart ↦ inl apart
          | inl here ↦ inr (λ q. h (omega (arith, here)) (let P : ℕ → Type 0 = λ s. Contains (part_at parts s) p in subst P here (j, u, get_or_default (part_at parts size) j p d u ∙ q)))
        ]
