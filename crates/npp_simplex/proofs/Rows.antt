-- A row that is replaced number by number, up to the first that does not fit.
use Rattle.std.proofs.Common.{◌≡◌, ◌≢◌, ℕ, zero, suc, ◌+◌, ◌<◌, ◌≤◌, List, [], ◌∷◌, map, length, set, Bool, true, false, Some, None, arith, ap, sym, ◌∙◌, refl, inl, inr, eq-or-lt_of_le, le_of_suc-le-suc}
use Rattle.npp_frac.specs.Rational.{Rational}
use Rattle.npp_lp.specs.Programs.{at}
use Rattle.npp_lp.specs.Verdict.{first_below}
use Rattle.npp_lp.specs.VerdictLaws.{first_below_more, first_below_found}
use Rattle.npp_simplex.specs.Places.{column_unless}

module _ {N : Type 0} (v : N → Rational) where
  pub at-set_same : (xs : List N) (j : ℕ) (x : N) → j < length xs → at (map v (set xs j x)) j ≡ v x
  at-set_same [] j x l = absurd (omega arith)
  at-set_same (y ∷ xs) zero x l = refl
  at-set_same (y ∷ xs) (suc j) x l = at-set_same xs j x (omega arith)

  pub at-set_other : (xs : List N) (j k : ℕ) (x : N) → k ≢ j → at (map v (set xs j x)) k ≡ at (map v xs) k
  at-set_other [] j k x e = refl
  at-set_other (y ∷ xs) zero zero x e = absurd (e refl)
  at-set_other (y ∷ xs) zero (suc k) x e = refl
  at-set_other (y ∷ xs) (suc j) zero x e = refl
  at-set_other (y ∷ xs) (suc j) (suc k) x e = at-set_other xs j k x (λ same. e (ap suc same))

  -- the first j numbers of a row are replaced by those of `new`, and each of them fits
  pub record IsReplacedUpTo (first now : List N) (new : ℕ → Rational) (fits : ℕ → Bool) (j : ℕ) : Type 0 where
    pub done : (k : ℕ) → k < j → at (map v now) k ≡ new k
    pub rest : (k : ℕ) → j ≤ k → at (map v now) k ≡ at (map v first) k
    pub stop : first_below j (λ k. column_unless (fits k) k) ≡ None

  replaced_at : (first now : List N) (new : ℕ → Rational) (fits : ℕ → Bool) (j : ℕ) (x : N) → IsReplacedUpTo first now new fits j → j < length now → v x ≡ new j → (k : ℕ) → k ≤ j → at (map v (set now j x)) k ≡ new k
  replaced_at first now new fits j x h l e k le = elim (eq-or-lt_of_le le) [
    | inl same ↦ ap (at (map v (set now j x))) same ∙ at-set_same now j x l ∙ e ∙ ap new (sym same)
    | inr less ↦ at-set_other now j k x (omega arith) ∙ h.done k less
  ]

  pub replaced_more : (first now : List N) (new : ℕ → Rational) (fits : ℕ → Bool) (j : ℕ) (x : N) → IsReplacedUpTo first now new fits j → j < length now → v x ≡ new j → fits j ≡ true → IsReplacedUpTo first (set now j x) new fits (j + 1)
  replaced_more first now new fits j x h l e holds = record {
    done = λ k less. replaced_at first now new fits j x h l e k (le_of_suc-le-suc (omega arith));
    rest = λ k less. at-set_other now j k x (omega arith) ∙ h.rest k (omega arith);
    stop = first_below_more (λ k. column_unless (fits k) k) j h.stop (ap (λ b. column_unless b j) holds);
  }

  pub stopped_at : (n : ℕ) (first now : List N) (new : ℕ → Rational) (fits : ℕ → Bool) (j : ℕ) → IsReplacedUpTo first now new fits j → j < n → fits j ≡ false → first_below n (λ k. column_unless (fits k) k) ≡ Some j
  stopped_at n first now new fits j h l fails = first_below_found (λ k. column_unless (fits k) k) n j j l h.stop (ap (λ b. column_unless b j) fails)

  pub filled_more : (now : List N) (new : ℕ → Rational) (j : ℕ) (x : N) → ((k : ℕ) → k < j → at (map v now) k ≡ new k) → j < length now → v x ≡ new j → (k : ℕ) → k < j + 1 → at (map v (set now j x)) k ≡ new k
  filled_more now new j x done l e k less = elim (eq-or-lt_of_le (let le : k ≤ j = omega arith in le)) [
    | inl same ↦ ap (at (map v (set now j x))) same ∙ at-set_same now j x l ∙ e ∙ ap new (sym same)
    | inr below ↦ at-set_other now j k x (omega arith) ∙ done k below
  ]
