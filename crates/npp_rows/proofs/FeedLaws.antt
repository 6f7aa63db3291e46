-- A row, entry by entry.
use Rattle.std.proofs.Common.{◌≡◌, ◌≢◌, ℕ, ◌+◌, ◌<◌, ◌≤◌, List, [], ◌∷◌, ◌++◌, length, take, get_or, sym, ap, ◌∙◌, arith}
use Rattle.std.proofs.lemmas.List.{take_more, get_or-map, get_or_default, length-map}
use Rattle.npp_frac.specs.Rational.{Rational, zero_ℚ}
use Rattle.npp_lp.specs.declared.program.Entry.{Entry}
use Rattle.npp_lp.specs.Programs.{Term, AreTerms}
use Rattle.npp_lp.specs.Meaning.{term_of, terms_of}
use Rattle.npp_lp.specs.Building.{Started, with_entry, entry_at}
use Rattle.npp_lp.specs.BuildingLaws.{entry_at_other}

-- the first entries are written, and the next one stands behind them
pub record AreWritten {N : Type 0} (before now : Started N) (entries : List (Entry N)) (i : ℕ) : Type 0 where
  pub columns : now.columns ≡ before.columns
  pub rows : now.rows ≡ before.rows
  pub entries_are : now.entries ≡ take i entries
  pub behind : (d : Entry N) → i < length entries → now.next ≤ (get_or entries i d).column

module _ {N : Type 0} (value : N → Rational) (columns : ℕ) (entries : List (Entry N)) (form : AreTerms columns (terms_of value entries)) where
  term_is : (i : ℕ) (d : Entry N) → i < length entries → get_or (terms_of value entries) i (term_of value d) ≡ term_of value (get_or entries i d)
  term_is i d h = get_or-map (term_of value) entries i d (term_of value d) h

  pub column_within : (i : ℕ) (d : Entry N) → i < length entries → (get_or entries i d).column < columns
  column_within i d h =
      let here = form.in_range i (term_of value d) (rw length-map h) in
      omega (arith, here, ap (λ (t : Term). t.column) (term_is i d h))

  value_other : (i : ℕ) (d : Entry N) → i < length entries → value (get_or entries i d).value ≢ zero_ℚ
  value_other i d h e = form.nonzero i (term_of value d) (rw length-map h) (ap (λ (t : Term). t.value) (term_is i d h) ∙ e)

  column_rises : (i : ℕ) (d : Entry N) → i + 1 < length entries → (get_or entries i d).column < (get_or entries (i + 1) d).column
  column_rises i d h =
      let here = form.rising i (i + 1) (term_of value d) (omega arith) (rw length-map h) in
      omega (arith, here, ap (λ (t : Term). t.column) (term_is i d (omega (arith, h))), ap (λ (t : Term). t.column) (term_is (i + 1) d h))

  pub written_more : (i : ℕ) (before now : Started N) (x : Entry N) → i < length entries → x ≡ get_or entries i x → AreWritten before now entries i
      → AreWritten before (with_entry value now x.column x.value) entries (i + 1)
  written_more i before now x h is w = record {
    columns = w.columns;
    rows = w.rows;
    entries_are =
        (let other : value x.value ≢ zero_ℚ = rw is (value_other i x h) in
        ap (λ es. es ++ entry_at value x.column x.value) w.entries_are
        ∙ ap (λ es. take i entries ++ es) (entry_at_other value x.column x.value other)
        ∙ ap (λ e. take i entries ++ e ∷ []) is ∙ sym (take_more entries i x h));
    behind = λ d u. omega (arith, column_rises i d u, ap (λ (e : Entry N). e.column) (is ∙ get_or_default entries i x d h));
  }
