-- How a program grows by an entry of a row, and by a row.
use Rattle.std.proofs.Common.{◌≡◌, ◌≢◌, ℕ, ◌+◌, ◌<◌, ◌≤◌, ◌^◌, List, [], ◌∷◌, ◌++◌, length, map, Bool, true, false, cond, refl, sym, ◌∙◌, ap, subst, append-nil, arith, All}
use Rattle.std.proofs.lemmas.List.{map-append, length-append}
use Rattle.std.proofs.lemmas.List.Elements.{All-push}
use Rattle.std.proofs.lemmas.List.Quantifiers.{all_pairs_push}
use Rattle.npp_frac.specs.Rational.{Rational, zero_ℚ}
use Rattle.npp_frac.specs.Sign.{is_zero, is_zero_yes, is_zero_no, is_zero_of}
use Rattle.npp_lp.specs.declared.program.Entry.{Entry}
use Rattle.npp_lp.specs.Programs.{Term, Row, AreTerms}
use Rattle.npp_lp.specs.Meaning.{term_of, terms_of, row_meant, linear_program}
use Rattle.npp_lp.specs.Building.{Started, IsStarted, entry_at, term_at, with_entry, with_row, program_of}

-- one more term, behind the columns of the others
pub terms_push : (n j : ℕ) (ts : List Term) (q : Rational) → n ≤ j → q ≢ zero_ℚ → AreTerms n ts → AreTerms (j + 1) (ts ++ record { column = j; value = q } ∷ [])
terms_push n j ts q le nonzero are = record {
  rising = all_pairs_push (λ (s t : Term). s.column < t.column) ts (record { column = j; value = q }) are.rising (λ k d lt. omega (arith, are.in_range k d lt));
  in_range = All-push (λ (t : Term). t.column < j + 1) ts (record { column = j; value = q }) (λ k d lt. omega (arith, are.in_range k d lt)) (omega arith);
  nonzero = All-push (λ (t : Term). t.value ≢ zero_ℚ) ts (record { column = j; value = q }) are.nonzero nonzero;
}

-- terms over fewer columns are terms over more
pub terms_among : (n m : ℕ) (ts : List Term) → n ≤ m → AreTerms n ts → AreTerms m ts
terms_among n m ts le are = record { rising = are.rising; in_range = λ k d lt. omega (arith, are.in_range k d lt); nonzero = are.nonzero }

entry_term : {N : Type 0} (value : N → Rational) (j : ℕ) (x : N) (b : Bool) → map (term_of value) (cond b [] (record { column = j; value = x } ∷ [])) ≡ cond b [] (record { column = j; value = value x } ∷ [])
entry_term value j x true = refl
entry_term value j x false = refl

-- the terms of a row with one more column
pub terms-entry_at : {N : Type 0} (value : N → Rational) (es : List (Entry N)) (j : ℕ) (x : N) → terms_of value (es ++ entry_at value j x) ≡ terms_of value es ++ term_at j (value x)
terms-entry_at value es j x = map-append (term_of value) es (entry_at value j x) ∙ ap (λ t. terms_of value es ++ t) (entry_term value j x (is_zero (value x)))

term_joins : (n j : ℕ) (ts : List Term) (q : Rational) (b : Bool) → is_zero q ≡ b → n ≤ j → AreTerms n ts → AreTerms (j + 1) (ts ++ cond b [] (record { column = j; value = q } ∷ []))
term_joins n j ts q true e le are = let P : List Term → Type 0 = λ xs. AreTerms (j + 1) xs in subst P (sym (append-nil ts)) (terms_among n (j + 1) ts (omega arith) are)
term_joins n j ts q false e le are = terms_push n j ts q le (is_zero_no q e) are

-- one more row
pub rows-with_row : {N : Type 0} (value : N → Rational) (s : Started N) (goal : List N) (b : N)
    → (linear_program value (program_of (with_row s b) goal)).rows ≡ (linear_program value (program_of s goal)).rows ++ record { terms = terms_of value s.entries; right = value b } ∷ []
rows-with_row value s goal b = map-append (row_meant value) s.rows (record { entries = s.entries; right = b } ∷ [])

module _ {N : Type 0} (value : N → Rational) (s : Started N) (is : IsStarted value s) where
  pub started_entry : (column : ℕ) (x : N) → s.next ≤ column → column < s.columns → IsStarted value (with_entry value s column x)
  started_entry column x le l = record {
    rows = is.rows;
    entries = let P : List Term → Type 0 = λ xs. AreTerms (column + 1) xs in subst P (sym (terms-entry_at value s.entries column x)) (term_joins s.next column (terms_of value s.entries) (value x) (is_zero (value x)) refl le is.entries);
    within = omega arith;
    numbered = is.numbered;
  }

  pub started_row : (b : N) → s.columns + length s.rows + 1 < 2 ^ 31 → IsStarted value (with_row s b)
  started_row b few = record {
    rows = let P : List Row → Type 0 = λ xs. All (λ (r : Row). AreTerms s.columns r.terms) xs in
        subst P (sym (rows-with_row value s [] b)) (All-push (λ (r : Row). AreTerms s.columns r.terms) (map (row_meant value) s.rows) (record { terms = terms_of value s.entries; right = value b }) is.rows (terms_among s.next s.columns (terms_of value s.entries) is.within is.entries));
    entries = record { rising = λ i j d l k. absurd (omega arith); in_range = λ k d l. absurd (omega arith); nonzero = λ k d l. absurd (omega arith) };
    within = omega arith;
    numbered = rw (length-append s.rows (record { entries = s.entries; right = b } ∷ [])) (omega arith);
  }

not_zero : (q : Rational) (b : Bool) → is_zero q ≡ b → q ≢ zero_ℚ → b ≡ false
not_zero q true e h = absurd (h (is_zero_yes q e))
not_zero q false e h = refl

-- the entry of a number that is 0, and of one that is not
pub entry_at_zero : {N : Type 0} (value : N → Rational) (j : ℕ) (x : N) → value x ≡ zero_ℚ → entry_at value j x ≡ []
entry_at_zero value j x e = let zero : is_zero (value x) ≡ true = is_zero_of (value x) e in rw zero refl

pub entry_at_other : {N : Type 0} (value : N → Rational) (j : ℕ) (x : N) → value x ≢ zero_ℚ → entry_at value j x ≡ record { column = j; value = x } ∷ []
entry_at_other value j x e = let other : is_zero (value x) ≡ false = not_zero (value x) (is_zero (value x)) refl e in rw other refl
