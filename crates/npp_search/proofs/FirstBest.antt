-- A scan for the first of the best: of those places that count, it is as good as each, and better than those before it.
use Rattle.std.proofs.Common.{◌≡◌, inl, inr, ℕ, ◌+◌, ◌<◌, sym, subst, arith}
use Rattle.std.proofs.lemmas.Bool.{cases_lt}

-- `UpTo a b`: place b is as good as a; `Less a b`: it is better
module _ (Counts : ℕ → Type 0) (UpTo Less : ℕ → ℕ → Type 0) where
  -- among the places below n
  pub record IsFirstBest (n i : ℕ) : Type 0 where
    pub below : i < n
    pub counts : Counts i
    pub best : (j : ℕ) → j < n → Counts j → UpTo j i
    pub first : (j : ℕ) → j < i → Counts j → Less j i

  module _ (itself : (a : ℕ) → Counts a → UpTo a a) (weaker : (a b : ℕ) → Less a b → UpTo a b) (goes_on : (a b c : ℕ) → Counts b → UpTo a b → Less b c → Less a c) where
    -- the first that counts
    pub scan_begins : (i : ℕ) → Counts i → ((j : ℕ) → j < i → Counts j → ⊥) → IsFirstBest (i + 1) i
    scan_begins i counts none = record {
      below = omega arith;
      counts = counts;
      best = λ j lt here. elim (cases_lt j i) [
        | inl before ↦ absurd (none j before here)
        | inr after ↦ (let same : i ≡ j = omega arith in subst (λ (k : ℕ). UpTo k i) same (itself i counts))
      ];
      first = λ j lt here. absurd (none j lt here);
    }

    -- one place more, which is better
    pub scan_takes : (n i : ℕ) → IsFirstBest n i → Counts n → Less i n → IsFirstBest (n + 1) n
    scan_takes n i h counts less = record {
      below = omega arith;
      counts = counts;
      best = λ j lt here. elim (cases_lt j n) [
        | inl before ↦ weaker j n (goes_on j i n h.counts (h.best j before here) less)
        | inr after ↦ (let same : n ≡ j = omega arith in subst (λ (k : ℕ). UpTo k n) same (itself n counts))
      ];
      first = λ j lt here. goes_on j i n h.counts (h.best j lt here) less;
    }

    -- and one that is not, or does not count
    pub scan_keeps : (n i : ℕ) → IsFirstBest n i → (Counts n → UpTo n i) → IsFirstBest (n + 1) i
    scan_keeps n i h no_better = record {
      below = (let lt = h.below in omega arith);
      counts = h.counts;
      best = λ j lt here. elim (cases_lt j n) [
        | inl before ↦ h.best j before here
        | inr after ↦ (let same : n ≡ j = omega arith in subst (λ (k : ℕ). UpTo k i) same (no_better (subst Counts (sym same) here)))
      ];
      first = h.first;
    }
