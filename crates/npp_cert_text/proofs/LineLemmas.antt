-- The lines of a text that comes bit by bit.
use Rattle.std.proofs.Common.{◌≡◌, ◌∙◌, ◌<◌, ◌+◌, ◌==◌, ◌⊎◌, ap, ap₂, sym, refl, subst, ℕ, Bool, true, false, List, [], ◌∷◌, ◌++◌, length, map, Option, Some, None, arith, append_assoc, length-append, inl, inr, eqb-true}
use Rattle.std.specs.List.{AllByRecursion, slice_split, join_with_byte, count_by, flat_map}
use Rattle.std.proofs.lemmas.Bool.{lt-leb}
use Rattle.std.proofs.lemmas.List.Elements.{All-nil, All-cons, All-append}
use Rattle.std.proofs.lemmas.List.Splits.{slice_split_at, slice_split_none, length-slice_split, join_with_byte-slice_split}
use Rattle.npp_frac.specs.Rational.{Rational}
use Rattle.npp_tree.specs.declared.item.Item.{Item}
use Rattle.npp_report.specs.Lines.{line}
use Rattle.npp_cert_text.specs.Form.{line_limit}
use Rattle.npp_cert_text.proofs.LineFields.{line_of, HasFields}
use Rattle.npp_cert_text.specs.Reading.{item_in}
use Rattle.npp_cert_text.specs.Lines.{is_line_feed, unended, lines_said, text_items}
use Rattle.npp_cert_text.proofs.ValueLemmas.{Lacks}
use Rattle.npp_cert_text.proofs.RoundTrip.{line_is_read, read_is_line}
use Rattle.npp_cert_text.proofs.PlainLemmas.{line_lacks}

said_first : (line : List ℕ) (parts : List (List ℕ)) → 0 < length parts → lines_said (line ∷ parts) ≡ item_in line ∷ lines_said parts
said_first line [] some = absurd (omega arith)
said_first line (next ∷ parts) some = refl

-- a line up to its line feed, and the lines behind it
pub line_first : (line rest : List ℕ) → Lacks 10 line → text_items (line ++ 10 ∷ rest) ≡ item_in line ∷ text_items rest
unfolding text_items
line_first line rest lacks =
    ap lines_said (slice_split_at is_line_feed line 10 rest lacks refl)
    ∙ said_first line (slice_split is_line_feed rest) (omega (arith, length-slice_split is_line_feed rest))

pub no_lines : text_items [] ≡ []
unfolding text_items
no_lines = refl

some_unended : (bytes : List ℕ) → 0 < length bytes → unended bytes ≡ None ∷ []
some_unended [] some = absurd (omega arith)
some_unended (b ∷ bytes) some = refl

-- bytes without a line feed are a line that says nothing
pub open_line : (bytes : List ℕ) → Lacks 10 bytes → 0 < length bytes → text_items bytes ≡ None ∷ []
unfolding text_items
open_line bytes lacks some = ap lines_said (slice_split_none is_line_feed bytes lacks) ∙ some_unended bytes some

-- a byte is not among the bytes, or stands first somewhere
pub first_place : (c : ℕ) (bytes : List ℕ) → Lacks c bytes ⊎ ((a : List ℕ) × (b : List ℕ) × Lacks c a × (bytes ≡ a ++ c ∷ b))
first_place c [] = inl (All-nil (λ x. (x == c) ≡ false))
first_place c (x ∷ bytes) = here (x == c) refl (first_place c bytes)
  where
    here : (t : Bool) → (x == c) ≡ t → Lacks c bytes ⊎ ((a : List ℕ) × (b : List ℕ) × Lacks c a × (bytes ≡ a ++ c ∷ b))
        → Lacks c (x ∷ bytes) ⊎ ((a : List ℕ) × (b : List ℕ) × Lacks c a × (x ∷ bytes ≡ a ++ c ∷ b))
    here true test rest = inr ([], bytes, All-nil (λ y. (y == c) ≡ false), ap (λ y. y ∷ bytes) (eqb-true x c test))
    here false test (inl lacks) = inl (All-cons (λ y. (y == c) ≡ false) x bytes test lacks)
    here false test (inr found) = inr (x ∷ found.0, found.1, All-cons (λ y. (y == c) ≡ false) x found.0 test found.2, ap (λ bs. x ∷ bs) found.3)

-- a longer line says nothing
pub long_line : (line : List ℕ) → line_limit < length line → item_in line ≡ None
unfolding item_in
long_line line long = rw (lt-leb (length line) line_limit long) refl

-- once more bytes than a line may have came without a line feed, the line says nothing, whatever follows
pub long_open : (bytes rest : List ℕ) → Lacks 10 bytes → line_limit < length bytes → (more : List (Option (Item Rational))) × (text_items (bytes ++ rest) ≡ None ∷ more)
long_open bytes rest lacks long = elim (first_place 10 rest) [
  | inl none ↦ ([], open_line (bytes ++ rest) (All-append (λ x. (x == 10) ≡ false) bytes rest lacks none) (omega (arith, length-append bytes rest)))
  | inr found ↦ (
    text_items found.1,
    ap (λ r. text_items (bytes ++ r)) found.3 ∙ ap text_items (sym (append_assoc bytes found.0 (10 ∷ found.1)))
        ∙ line_first (bytes ++ found.0) found.1 (All-append (λ x. (x == 10) ≡ false) bytes found.0 lacks found.2)
        ∙ ap (λ o. o ∷ text_items found.1) (long_line (bytes ++ found.0) (omega (arith, length-append bytes found.0))),
  )
]

-- the lines of items, each from its fields
abbrev pub joined_text : List (Item Rational) → List ℕ
joined_text items = flat_map (λ i. line (line_of i)) items

-- the text of items says them
pub text_again : (items : List (Item Rational)) → AllByRecursion HasFields items → text_items (joined_text items) ≡ map (λ i. Some i) items
text_again [] has = no_lines
text_again (i ∷ items) has =
    ap text_items (append_assoc (line_of i) (10 ∷ []) (joined_text items))
    ∙ line_first (line_of i) (joined_text items) (line_lacks 10 (omega arith) i has.0.fits)
    ∙ ap₂ ◌∷◌ (line_is_read i has.0) (text_again items has.1)

-- a text that says items is their text
said_some : {X : Type 0} (o : Option X) (os : List (Option X)) (xs : List X) → o ∷ os ≡ map (λ x. Some x) xs → (x : X) × (ys : List X) × (xs ≡ x ∷ ys) × (o ≡ Some x) × (os ≡ map (λ y. Some y) ys)
said_some o os [] e = absurd cc
said_some o os (x ∷ xs) e = (x, xs, refl, cc, cc)

parts_read : (line : List ℕ) (parts : List (List ℕ)) (items : List (Item Rational)) → lines_said (line ∷ parts) ≡ map (λ i. Some i) items → AllByRecursion HasFields items × (join_with_byte 10 (line ∷ parts) ≡ joined_text items)
parts_read [] [] [] e = (tt, refl)
parts_read [] [] (i ∷ items) e = absurd cc
parts_read (b ∷ bytes) [] items e = let first = said_some None [] items e in absurd (let bad : None ≡ Some first.0 = first.3 in cc)
parts_read line (next ∷ parts) items e =
    let first = said_some (item_in line) (lines_said (next ∷ parts)) items e in
    let read = read_is_line line first.0 first.3 in
    let others = parts_read next parts first.1 first.4 in
    subst (λ xs. AllByRecursion HasFields xs × (line ++ 10 ∷ join_with_byte 10 (next ∷ parts) ≡ joined_text xs)) (sym first.2) (
      (read.0, others.0),
      ap₂ (λ l t. l ++ 10 ∷ t) read.1 others.1 ∙ sym (append_assoc (line_of first.0) (10 ∷ []) (joined_text first.1)),
    )

pub text_read : (bytes : List ℕ) (items : List (Item Rational)) → text_items bytes ≡ map (λ i. Some i) items → AllByRecursion HasFields items × (bytes ≡ joined_text items)
unfolding text_items
text_read bytes items e = step (slice_split is_line_feed bytes) refl (length-slice_split is_line_feed bytes) e
  where
    step : (parts : List (List ℕ)) → slice_split is_line_feed bytes ≡ parts → length parts ≡ count_by is_line_feed bytes + 1 → lines_said parts ≡ map (λ i. Some i) items → AllByRecursion HasFields items × (bytes ≡ joined_text items)
    step [] is many said = absurd (omega arith)
    step (line ∷ parts) is many said =
        let read = parts_read line parts items said in
        (read.0, sym (join_with_byte-slice_split 10 bytes) ∙ ap (join_with_byte 10) is ∙ read.1)
