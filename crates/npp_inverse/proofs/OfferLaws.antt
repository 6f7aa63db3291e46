-- Which offer is taken: the first of the best.
use Rattle.std.proofs.Common.{◌≡◌, ◌⊎◌, inl, inr, ℕ, zero, suc, ◌+◌, ◌<◌, ◌≤◌, eq-or-lt_of_le, le_of_suc-le-suc, Bool, true, false, cond, ◌&&◌, ◌∷◌, filter, MatchBool, Ordering, Less, Equal, Greater, refl, sym, ap, ◌∙◌, subst, arith}
use Rattle.std.specs.Prelude.{not, slice_index}
use Rattle.std.specs.List.{range_with_len, list_all}
use Rattle.npp_frac.specs.Rational.{Rational, is_less, rational_cmp, ◌≤ℚ◌, ◌<ℚ◌}
use Rattle.npp_frac.specs.Order.{≤ℚ_of_<ℚ, ≤ℚ_of_≡, <ℚ_trans, <ℚ_of_≤ℚ-<ℚ, <ℚ_of_Less, ≡_of_Equal, >ℚ_of_Greater, is_less_yes, is_less_no, is_less_of_<ℚ, is_less_of_≤ℚ}
use Rattle.npp_rows.specs.Response.{with_least, with_greatest}
use Rattle.npp_inverse.specs.Offers.{IsBetter, IsNoWorse, IsFirstBest}

-- ---- two offers

pub less_is_better : (p t p' t' : Rational) → Less ≡ rational_cmp p p' → IsBetter p t p' t'
less_is_better p t p' t' e = inl (<ℚ_of_Less p p' e)

pub greater_is_worse : (p t p' t' : Rational) → Greater ≡ rational_cmp p p' → IsNoWorse p' t' p t
greater_is_worse p t p' t' e = inl (>ℚ_of_Greater p p' e)

pub equal_by_toll : (p t p' t' : Rational) (b : Bool) → Equal ≡ rational_cmp p p' → b ≡ is_less t' t → MatchBool b (IsBetter p t p' t') (IsNoWorse p' t' p t)
equal_by_toll p t p' t' true e f = inr (≡_of_Equal p p' e, is_less_yes t' t (sym f))
equal_by_toll p t p' t' false e f = inr (sym (≡_of_Equal p p' e), is_less_no t' t (sym f))

better_than : {p t p' t' p'' t'' : Rational} → IsBetter p t p' t' → IsNoWorse p' t' p'' t'' → IsBetter p t p'' t''
better_than {p} {t} {p'} {t'} {p''} {t''} (inl lt) (inl less) = inl (<ℚ_trans lt less)
better_than {p} {t} {p'} {t'} {p''} {t''} (inl lt) (inr same) = inl (subst (λ (q : Rational). p <ℚ q) same.0 lt)
better_than {p} {t} {p'} {t'} {p''} {t''} (inr same) (inl less) = inl (subst (λ (q : Rational). q <ℚ p'') (sym same.0) less)
better_than {p} {t} {p'} {t'} {p''} {t''} (inr same) (inr also) = inr (same.0 ∙ also.0, <ℚ_of_≤ℚ-<ℚ also.1 same.1)

no_worse : {p t p' t' : Rational} → IsBetter p t p' t' → IsNoWorse p t p' t'
no_worse (inl lt) = inl lt
no_worse (inr same) = inr (same.0, ≤ℚ_of_<ℚ same.1)

-- ---- the first of the best

module _ (price toll : ℕ → Rational) where
  pub only_one : IsFirstBest price toll 1 0
  only_one = record {
    below = omega arith;
    best = λ r l. (let e : r ≡ 0 = omega arith in inr (ap price (sym e), ≤ℚ_of_≡ (ap toll e)));
    first = λ r l. absurd (omega (arith, l));
  }

  pub better_next : (n q : ℕ) → IsFirstBest price toll n q → IsBetter (price n) (toll n) (price q) (toll q) → IsFirstBest price toll (n + 1) n
  better_next n q h b = record {
    below = omega arith;
    best = λ r l. elim (eq-or-lt_of_le (le_of_suc-le-suc (next r l))) [
      | inl e ↦ inr (ap price (sym e), ≤ℚ_of_≡ (ap toll e))
      | inr lt ↦ no_worse (better_than b (h.best r lt))
    ];
    first = λ r l. better_than b (h.best r l);
  }
    where
      next : (r : ℕ) → r < n + 1 → r < suc n
      next r l = omega arith

  pub worse_next : (n q : ℕ) → IsFirstBest price toll n q → IsNoWorse (price q) (toll q) (price n) (toll n) → IsFirstBest price toll (n + 1) q
  worse_next n q h b = record {
    below = omega (arith, h.below);
    best = λ r l. elim (eq-or-lt_of_le (le_of_suc-le-suc (next r l))) [
      | inl e ↦ subst (λ (i : ℕ). IsNoWorse (price q) (toll q) (price i) (toll i)) (sym e) b
      | inr lt ↦ h.best r lt
    ];
    first = h.first;
  }
    where
      next : (r : ℕ) → r < n + 1 → r < suc n
      next r l = omega arith

-- ---- the definition takes it

pub all_range : (f : ℕ → Bool) (a n : ℕ) → ((i : ℕ) → a ≤ i → i < a + n → f i ≡ true) → list_all f (range_with_len a n) ≡ true
all_range f a zero h = refl
all_range f a (suc n) h = rw (h a (omega arith) (omega arith)) (all_range f (a + 1) n (λ i l u. h i (omega arith) (omega arith)))

pub not_all_range : (f : ℕ → Bool) (a n i : ℕ) → a ≤ i → i < a + n → f i ≡ false → list_all f (range_with_len a n) ≡ false
not_all_range f a zero i l u e = absurd (omega arith)
not_all_range f a (suc n) i l u e = elim (eq-or-lt_of_le l) [
  | inl same ↦ (let here : f a ≡ false = ap f same ∙ e in rw here refl)
  | inr lt ↦ ap (λ b. f a && b) (not_all_range f (a + 1) n i (omega arith) (omega arith) e) ∙ never (f a)
]
  where
    never : (b : Bool) → (b && false) ≡ false
    never true = refl
    never false = refl

all_kept : (f g : ℕ → Bool) (a n : ℕ) → ((i : ℕ) → a ≤ i → i < a + n → g i ≡ true → f i ≡ true) → list_all f (filter g (range_with_len a n)) ≡ true
all_kept f g a zero h = refl
all_kept f g a (suc n) h = by (g a) refl (all_kept f g (a + 1) n (λ i l u. h i (omega arith) (omega arith)))
  where
    by : (b : Bool) → g a ≡ b → list_all f (filter g (range_with_len (a + 1) n)) ≡ true → list_all f (cond (g a) (a ∷ filter g (range_with_len (a + 1) n)) (filter g (range_with_len (a + 1) n))) ≡ true
    by true e rest = rw (e, h a (omega arith) (omega arith) e) rest
    by false e rest = rw e rest

not_all_kept : (f g : ℕ → Bool) (a n i : ℕ) → a ≤ i → i < a + n → g i ≡ true → f i ≡ false → list_all f (filter g (range_with_len a n)) ≡ false
not_all_kept f g a zero i l u p e = absurd (omega arith)
not_all_kept f g a (suc n) i l u p e = elim (eq-or-lt_of_le l) [
  | inl same ↦ (let here : g a ≡ true = ap g same ∙ p in let fails : f a ≡ false = ap f same ∙ e in rw (here, fails) refl)
  | inr lt ↦ by (g a) (not_all_kept f g (a + 1) n i (omega arith) (omega arith) p e)
]
  where
    by : (b : Bool) → list_all f (filter g (range_with_len (a + 1) n)) ≡ false → list_all f (cond b (a ∷ filter g (range_with_len (a + 1) n)) (filter g (range_with_len (a + 1) n))) ≡ false
    by true rest = ap (λ b. f a && b) rest ∙ never (f a)
      where
        never : (b : Bool) → (b && false) ≡ false
        never true = refl
        never false = refl
    by false rest = rest

-- the first number that passes two tests, one after the other
first_kept : (f g : ℕ → Bool) (a n q : ℕ) → a ≤ q → q < a + n → g q ≡ true → f q ≡ true → ((r : ℕ) → a ≤ r → r < q → g r ≡ true → f r ≡ false)
    → slice_index (filter f (filter g (range_with_len a n))) 0 ≡ q
first_kept f g a zero q l u p k h = absurd (omega arith)
first_kept f g a (suc n) q l u p k h = elim (eq-or-lt_of_le l) [
  | inl same ↦ (let here : g a ≡ true = ap g same ∙ p in let passes : f a ≡ true = ap f same ∙ k in rw (here, passes) same)
  | inr lt ↦ by (g a) refl (h a (omega arith) lt) (first_kept f g (a + 1) n q (omega arith) (omega arith) p k (λ r m. h r (omega arith)))
]
  where
    by : (b : Bool) → g a ≡ b → (g a ≡ true → f a ≡ false) → slice_index (filter f (filter g (range_with_len (a + 1) n))) 0 ≡ q
        → slice_index (filter f (cond (g a) (a ∷ filter g (range_with_len (a + 1) n)) (filter g (range_with_len (a + 1) n)))) 0 ≡ q
    by true e fails rest = rw (e, fails e) rest
    by false e fails rest = rw e rest

not_less : (p q : Rational) → q ≤ℚ p → not (is_less p q) ≡ true
not_less p q h = ap not (is_less_of_≤ℚ p q h)

is_lesser : (p q : Rational) → p <ℚ q → not (is_less p q) ≡ false
is_lesser p q h = ap not (is_less_of_<ℚ p q h)

is_not_less : (p q : Rational) → not (is_less p q) ≡ true → q ≤ℚ p
is_not_less p q e = by (is_less p q) refl e
  where
    by : (b : Bool) → is_less p q ≡ b → not b ≡ true → q ≤ℚ p
    by true f n = cc
    by false f n = is_less_no p q f

-- ---- the first of the best is taken

module _ (price toll : ℕ → Rational) (n q : ℕ) (h : IsFirstBest price toll n q) where
  -- whether r has the least price, and the highest toll of those that have
  cheap : ℕ → Bool
  cheap r = list_all (λ s. not (is_less (price s) (price r))) (range_with_len 0 n)

  dear : ℕ → Bool
  dear r = list_all (λ s. not (is_less (toll r) (toll s))) (filter cheap (range_with_len 0 n))

  at_most : (s : ℕ) → s < n → price q ≤ℚ price s
  at_most s l = by (h.best s l)
    where
      by : IsNoWorse (price q) (toll q) (price s) (toll s) → price q ≤ℚ price s
      by (inl lt) = ≤ℚ_of_<ℚ lt
      by (inr same) = ≤ℚ_of_≡ same.0

  is_cheap : cheap q ≡ true
  unfolding cheap
  is_cheap = all_range (λ s. not (is_less (price s) (price q))) 0 n (λ s l u. not_less (price s) (price q) (at_most s (omega (arith, u))))

  not_above : (s : ℕ) → s < n → cheap s ≡ true → toll s ≤ℚ toll q
  unfolding cheap
  not_above s l e = by (h.best s l)
    where
      no_more : price q <ℚ price s → ⊥
      no_more lt = absurd_true (not_all_range (λ r. not (is_less (price r) (price s))) 0 n q (omega arith) (omega (arith, h.below)) (is_lesser (price q) (price s) lt))
        where
          absurd_true : cheap s ≡ false → ⊥
          absurd_true f = cc

      by : IsNoWorse (price q) (toll q) (price s) (toll s) → toll s ≤ℚ toll q
      by (inl lt) = absurd (no_more lt)
      by (inr same) = same.1

  is_dear : dear q ≡ true
  unfolding dear
  is_dear = all_kept (λ s. not (is_less (toll q) (toll s))) cheap 0 n (λ s l u e. not_less (toll q) (toll s) (not_above s (omega (arith, u)) e))

  not_before : (r : ℕ) → r < q → cheap r ≡ true → dear r ≡ false
  unfolding cheap dear
  not_before r l e = by (h.first r l)
    where
      not_both : cheap r ≡ false → ⊥
      not_both f = cc

      by : IsBetter (price q) (toll q) (price r) (toll r) → dear r ≡ false
      by (inl lt) = absurd (not_both (not_all_range (λ s. not (is_less (price s) (price r))) 0 n q (omega arith) (omega (arith, h.below)) (is_lesser (price q) (price r) lt)))
      by (inr same) = not_all_kept (λ s. not (is_less (toll r) (toll s))) cheap 0 n q (omega arith) (omega (arith, h.below)) is_cheap (is_lesser (toll r) (toll q) same.1)

  pub takes_first : slice_index (with_greatest toll (with_least price (range_with_len 0 n))) 0 ≡ q
  unfolding cheap dear
  takes_first = first_kept dear cheap 0 n q (omega arith) (omega (arith, h.below)) is_cheap is_dear (λ r m l e. not_before r l e)

-- ---- there is a first of the best

either : (p t p' t' : Rational) → IsBetter p t p' t' ⊎ IsNoWorse p' t' p t
either p t p' t' = by_order (rational_cmp p p') refl
  where
    by_toll : (b : Bool) → MatchBool b (IsBetter p t p' t') (IsNoWorse p' t' p t) → IsBetter p t p' t' ⊎ IsNoWorse p' t' p t
    by_toll true h = inl h
    by_toll false h = inr h

    by_order : (o : Ordering) → o ≡ rational_cmp p p' → IsBetter p t p' t' ⊎ IsNoWorse p' t' p t
    by_order Less e = inl (less_is_better p t p' t' e)
    by_order Equal e = by_toll (is_less t' t) (equal_by_toll p t p' t' (is_less t' t) e refl)
    by_order Greater e = inr (greater_is_worse p t p' t' e)

module _ (price toll : ℕ → Rational) where
  some_best : (n : ℕ) → (q : ℕ) × IsFirstBest price toll (n + 1) q
  some_best zero = (0, only_one price toll)
  some_best (suc n) = next (some_best n)
    where
      e : n + 1 ≡ suc n
      e = omega arith

      next : (q : ℕ) × IsFirstBest price toll (n + 1) q → (q : ℕ) × IsFirstBest price toll (suc n + 1) q
      next (q, h) =
          let so : IsFirstBest price toll (suc n) q = rw e at h in
          elim (either (price (suc n)) (toll (suc n)) (price q) (toll q)) [
            | inl b ↦ (suc n, better_next price toll (suc n) q so b)
            | inr b ↦ (q, worse_next price toll (suc n) q so b)
          ]

  pub first_best : (n : ℕ) → 0 < n → IsFirstBest price toll n (slice_index (with_greatest toll (with_least price (range_with_len 0 n))) 0)
  first_best zero l = absurd (omega arith)
  first_best (suc n) l = found (some_best n)
    where
      e : n + 1 ≡ suc n
      e = omega arith

      found : (q : ℕ) × IsFirstBest price toll (n + 1) q → IsFirstBest price toll (suc n) (slice_index (with_greatest toll (with_least price (range_with_len 0 (suc n)))) 0)
      found (q, h) =
          let so : IsFirstBest price toll (suc n) q = rw e at h in
          subst (λ (i : ℕ). IsFirstBest price toll (suc n) i) (sym (takes_first price toll (suc n) q so)) so
