-- Rows and their right sides, where the entries of all rows stand in one list.
use Rattle.std.proofs.Common.{◌≡◌, ℕ, zero, suc, ◌-◌, ◌<◌, ◌≤◌, List, [], ◌∷◌, ◌++◌, length, map, get_or, take, drop, refl, sym, ◌∙◌, ap, ap₂, subst, arith}
use Rattle.std.proofs.lemmas.List.{length-drop, take-append-le, drop-append-le}
use Rattle.std.proofs.lemmas.List.Elements.{All-head, All-tail, All-push}
use Rattle.std.proofs.Math.Seq.{take-length, drop-length}
use Rattle.npp_lp.specs.declared.program.Entry.{Entry}
use Rattle.npp_lp.specs.declared.program.Span.{Span}
use Rattle.npp_lp.specs.ProgramOver.{RowOver, spanned, written_rows, AreSpans}
use Rattle.npp_lp.specs.Building.{Started, with_row}

-- rows among fewer entries are rows among more
pub spans_among : (n m : ℕ) (spans : List Span) → n ≤ m → AreSpans n spans → AreSpans m spans
spans_among n m spans le are k d l = let here = are k d l in (here.0, omega arith)

-- one more row, which ends at the last entry
pub spans_push : (n m : ℕ) (spans : List Span) (s : Span) → n ≤ m → AreSpans n spans → s.start ≤ s.end → s.end ≤ m → AreSpans m (spans ++ s ∷ [])
spans_push n m spans s le are up within =
    All-push (λ (t : Span). (t.start ≤ t.end) × (t.end ≤ m)) spans s (spans_among n m spans le are) (up, within)

-- the bounds of a row that was read
pub span_at : (n : ℕ) (spans : List Span) (i : ℕ) (s : Span) → AreSpans n spans → i < length spans → s ≡ get_or spans i s → (s.start ≤ s.end) × (s.end ≤ n)
span_at n spans i s are l is = let P : Span → Type 0 = λ t. (t.start ≤ t.end) × (t.end ≤ n) in subst P (sym is) (are i s l)

module _ {N : Type 0} where
  pub length-written_rows : (es : List (Entry N)) (spans : List Span) (right : List N) → length right ≡ length spans → length (written_rows es spans right) ≡ length spans
  length-written_rows es [] right h = refl
  length-written_rows es (s ∷ ss) [] h = absurd (omega arith)
  length-written_rows es (s ∷ ss) (b ∷ bs) h = ap suc (length-written_rows es ss bs (omega arith))

  pub entries_written : (es : List (Entry N)) (spans : List Span) (right : List N) → length right ≡ length spans → map (λ r. r.entries) (written_rows es spans right) ≡ map (spanned es) spans
  entries_written es [] right h = refl
  entries_written es (s ∷ ss) [] h = absurd (omega arith)
  entries_written es (s ∷ ss) (b ∷ bs) h = ap (λ t. spanned es s ∷ t) (entries_written es ss bs (omega arith))

  pub rights_written : (es : List (Entry N)) (spans : List Span) (right : List N) → length right ≡ length spans → map (λ r. r.right) (written_rows es spans right) ≡ right
  rights_written es [] [] h = refl
  rights_written es [] (b ∷ bs) h = absurd (omega arith)
  rights_written es (s ∷ ss) [] h = absurd (omega arith)
  rights_written es (s ∷ ss) (b ∷ bs) h = ap (λ t. b ∷ t) (rights_written es ss bs (omega arith))

  -- the entries of a row that was read
  pub row_written : (es : List (Entry N)) (spans : List Span) (i : ℕ) (s : Span) → i < length spans → s ≡ get_or spans i s → get_or (map (spanned es) spans) i [] ≡ spanned es s
  row_written es [] i s l is = absurd (omega arith)
  row_written es (t ∷ ss) zero s l is = ap (spanned es) (sym is)
  row_written es (t ∷ ss) (suc i) s l is = row_written es ss i s (omega arith) is

  -- further entries leave a row as it is
  spanned_more : (es fs : List (Entry N)) (s : Span) → s.start ≤ s.end → s.end ≤ length es → spanned (es ++ fs) s ≡ spanned es s
  spanned_more es fs s up within =
      let rest : length (drop s.start es) ≡ length es - s.start = length-drop s.start es in
      ap (take (s.end - s.start)) (drop-append-le s.start es fs (omega arith)) ∙ take-append-le (s.end - s.start) (drop s.start es) fs (omega arith)

  pub written_more : (es fs : List (Entry N)) (spans : List Span) (right : List N) → AreSpans (length es) spans → written_rows (es ++ fs) spans right ≡ written_rows es spans right
  written_more es fs [] right are = refl
  written_more es fs (s ∷ ss) [] are = refl
  written_more es fs (s ∷ ss) (b ∷ bs) are =
      let P : Span → Type 0 = λ t. (t.start ≤ t.end) × (t.end ≤ length es) in
      let here : P s = All-head P s ss are in
      ap₂ (λ xs (t : List (RowOver N)). record { entries = xs; right = b } ∷ t) (spanned_more es fs s here.0 here.1) (written_more es fs ss bs (All-tail P s ss are))

  -- a row of all entries from a place on
  spanned_rest : (es : List (Entry N)) (begin end : ℕ) → end ≡ length es → spanned es (record { start = begin; end = end }) ≡ drop begin es
  spanned_rest es begin end last = ap (λ n. take n (drop begin es)) (ap (λ n. n - begin) last ∙ sym (length-drop begin es)) ∙ take-length (drop begin es)

  written_push : (es : List (Entry N)) (spans : List Span) (right : List N) (s : Span) (b : N) → length right ≡ length spans → written_rows es (spans ++ s ∷ []) (right ++ b ∷ []) ≡ written_rows es spans right ++ record { entries = spanned es s; right = b } ∷ []
  written_push es [] [] s b h = refl
  written_push es [] (c ∷ bs) s b h = absurd (omega arith)
  written_push es (t ∷ ss) [] s b h = absurd (omega arith)
  written_push es (t ∷ ss) (c ∷ bs) s b h = ap (λ (r : List (RowOver N)). record { entries = spanned es t; right = c } ∷ r) (written_push es ss bs s b (omega arith))

  -- the rows and the row that is being written, once it has ended
  pub row_ended : (columns next begin end : ℕ) (es : List (Entry N)) (spans ss : List Span) (right bs : List N) (b : N) → length right ≡ length spans → end ≡ length es → ss ≡ spans ++ record { start = begin; end = end } ∷ [] → bs ≡ right ++ b ∷ []
      → ◌≡◌ {A = Started N} (record { columns = columns; rows = written_rows es ss bs; entries = drop end es; next = 0 }) (with_row (record { columns = columns; rows = written_rows es spans right; entries = drop begin es; next = next }) b)
  row_ended columns next begin end es spans ss right bs b h last se be =
      let s : Span = record { start = begin; end = end } in
      let all : written_rows es ss bs ≡ written_rows es spans right ++ record { entries = drop begin es; right = b } ∷ [] =
      ap₂ (written_rows es) se be ∙ written_push es spans right s b h ∙ ap (λ xs. written_rows es spans right ++ record { entries = xs; right = b } ∷ []) (spanned_rest es begin end last) in
      let none : drop end es ≡ [] = ap (λ n. drop n es) last ∙ drop-length es in
      ap₂ (λ xs ys. record { columns = columns; rows = xs; entries = ys; next = 0 }) all none
