-- A line of fields with one space between each two, read again.
use Rattle.std.proofs.Common.{◌≡◌, ℕ, zero, suc, ◌+◌, ◌-◌, ◌<◌, Bool, true, false, ◌&&◌, not, List, [], ◌∷◌, ◌++◌, length, map, filter, get_or, refl, sym, ◌∙◌, ap, subst, ◌≢◌, arith, append_assoc, nat_lt, All, Ok}
use Rattle.std.specs.List.{slice_split, flat_map, join_with_byte, list_all, AllByRecursion}
use Rattle.std.specs.Str.{is_utf8, IsAscii}
use Rattle.std.specs.Str.Lines.{strip_carriage_return}
use Rattle.std.proofs.lemmas.Bool.{ne_eqb}
use Rattle.std.proofs.lemmas.Bool.Decides.{nat_tests}
use Rattle.std.proofs.lemmas.List.Elements.{All-nil, All-cons, All-append, All-tail}
use Rattle.std.proofs.lemmas.List.Splits.{slice_split_at, slice_split_none, length-slice_split}
use Rattle.std.proofs.lemmas.List.Sums.{AllPass-from_list_all}
use Rattle.std.proofs.lemmas.Str.{IsUtf8-from_ascii, is_utf8-from_IsUtf8}
use Rattle.npp_reader.specs.Lines.{is_line_feed, is_blank, is_empty, without_empty_end, lines_of, fields_of}
use Rattle.npp_reader.specs.Canonical.{line_of}
use Rattle.npp_reader.specs.declared.document.Document.{Document}
use Rattle.npp_reader.specs.Grammar.{Declared, after_fields}
use Rattle.npp_reader.specs.Reading.{reading_from, at_end}
use Rattle.npp_reader.proofs.LineLemmas.{kept_part, kept_field, fields_nil}
use Rattle.npp_reader.proofs.GrammarLemmas.{line_good}
use Rattle.npp_reader.proofs.ReadLemmas.{reading_step, no_lines}

-- the bytes that are seen, with the space and without it
abbrev IsPrinted : ℕ → Type 0
IsPrinted b = (31 < b) × (b < 127)

abbrev IsVisible : ℕ → Type 0
IsVisible b = (32 < b) × (b < 127)

abbrev pub is_visible : ℕ → Bool
is_visible b = nat_lt 32 b && nat_lt b 127

-- some visible bytes
pub record IsField (field : List ℕ) : Type 0 where
  pub some : 0 < length field
  pub visible : All IsVisible field

abbrev pub AreFields : List (List ℕ) → Type 0
AreFields fields = AllByRecursion IsField fields

visible_byte : (b : ℕ) → is_visible b ≡ true → IsVisible b
visible_byte b e = grind (arith, nat_tests)

pub field_test : (field : List ℕ) → 0 < length field → list_all is_visible field ≡ true → IsField field
field_test field some e = record { some = some; visible = λ k d h. visible_byte (get_or field k d) (AllPass-from_list_all is_visible field e k d h) }

not_blank : (b : ℕ) → 32 < b → is_blank b ≡ false
not_blank b h = grind (arith, nat_tests)

no_blank : (field : List ℕ) → IsField field → All (λ b. is_blank b ≡ false) field
no_blank field is k d h = not_blank (get_or field k d) (is.visible k d h).0

field_joined : (field rest : List ℕ) → IsField field → fields_of (field ++ 32 ∷ rest) ≡ field ∷ fields_of rest
unfolding fields_of
field_joined field rest is =
    ap (filter (λ part. not (is_empty part))) (slice_split_at is_blank field 32 rest (no_blank field is) refl)
    ∙ kept_field field (slice_split is_blank rest) is.some

field_alone : (field : List ℕ) → IsField field → fields_of field ≡ field ∷ []
unfolding fields_of
field_alone field is =
    ap (filter (λ part. not (is_empty part))) (slice_split_none is_blank field (no_blank field is)) ∙ kept_field field [] is.some

-- the fields of a line are those that were joined
fields_joined : (fields : List (List ℕ)) → AreFields fields → fields_of (join_with_byte 32 fields) ≡ fields
fields_joined [] are = fields_nil
fields_joined (f ∷ []) are = field_alone f are.0
fields_joined (f ∷ g ∷ fields) are =
    field_joined f (join_with_byte 32 (g ∷ fields)) are.0 ∙ ap (λ (parts : List (List ℕ)). f ∷ parts) (fields_joined (g ∷ fields) are.1)

printed_field : (field : List ℕ) → IsField field → All IsPrinted field
printed_field field is k d h = let byte = is.visible k d h in (omega arith, byte.1)

printed_joined : (fields : List (List ℕ)) → AreFields fields → All IsPrinted (join_with_byte 32 fields)
printed_joined [] are = All-nil IsPrinted
printed_joined (f ∷ []) are = printed_field f are.0
printed_joined (f ∷ g ∷ fields) are =
    All-append IsPrinted f (32 ∷ join_with_byte 32 (g ∷ fields)) (printed_field f are.0)
    (All-cons IsPrinted 32 (join_with_byte 32 (g ∷ fields)) (omega arith, omega arith) (printed_joined (g ∷ fields) are.1))

printed_ascii : (line : List ℕ) → All IsPrinted line → IsAscii line
printed_ascii [] all i = omega arith
printed_ascii (b ∷ line) all zero = let byte = all 0 0 (omega arith) in omega arith
printed_ascii (b ∷ line) all (suc i) = printed_ascii line (All-tail IsPrinted b line all) i

printed_utf8 : (line : List ℕ) → All IsPrinted line → is_utf8 line ≡ true
printed_utf8 line all = is_utf8-from_IsUtf8 line (IsUtf8-from_ascii line (printed_ascii line all))

-- no carriage return ends the line
strip_same : (line : List ℕ) → All IsPrinted line → strip_carriage_return line ≡ line
strip_same [] all = refl
strip_same (b ∷ line) all =
    let last = all (length (b ∷ line) - 1) 0 (omega arith) in
    let other : get_or (b ∷ line) (length (b ∷ line) - 1) 0 ≢ 13 = omega arith in
    rw (ne_eqb (get_or (b ∷ line) (length (b ∷ line) - 1) 0) 13 other)

not_line_feed : (b : ℕ) → 31 < b → is_line_feed b ≡ false
not_line_feed b h = grind (arith, nat_tests)

line_joined : (line rest : List ℕ) → All IsPrinted line → lines_of (line ++ 10 ∷ rest) ≡ line ∷ lines_of rest
unfolding lines_of
line_joined line rest all =
    let parts = slice_split is_line_feed rest in
    let many = length-slice_split is_line_feed rest in
    ap (λ (ps : List (List ℕ)). map strip_carriage_return (without_empty_end ps))
    (slice_split_at is_line_feed line 10 rest (λ k d h. not_line_feed (get_or line k d) (all k d h).0) refl)
    ∙ (ap (map strip_carriage_return) (kept_part line parts (omega arith))
    ∙ ap (λ (l : List ℕ). l ∷ map strip_carriage_return (without_empty_end parts)) (strip_same line all))

-- the lines of a text are those that were written
pub lines_written : (lines : List (List (List ℕ))) → AllByRecursion AreFields lines → lines_of (flat_map line_of lines) ≡ map (join_with_byte 32) lines
lines_written [] are = no_lines
lines_written (fields ∷ lines) are =
    ap lines_of (append_assoc (join_with_byte 32 fields) (10 ∷ []) (flat_map line_of lines))
    ∙ (line_joined (join_with_byte 32 fields) (flat_map line_of lines) (printed_joined fields are.0)
    ∙ ap (λ (rest : List (List ℕ)). join_with_byte 32 fields ∷ rest) (lines_written lines are.1))

-- these lines have no fault below what is declared above, and then the last is declared
abbrev pub Declares : Declared → List (List (List ℕ)) → Declared → Type 0
Declares above [] final = above ≡ final
Declares above (fields ∷ lines) final = (next : Declared) × (after_fields above fields ≡ Ok next) × Declares next lines final

pub declares-append : (a : Declared) (front back : List (List (List ℕ))) (b c : Declared) → Declares a front b → Declares b back c → Declares a (front ++ back) c
declares-append a [] back b c x y = subst (λ (d : Declared). Declares d back c) (sym x) y
declares-append a (fields ∷ front) back b c x y = (x.0, x.1, declares-append x.0 front back b c x.2 y)

pub declares_reads : (number : ℕ) (a : Declared) (lines : List (List (List ℕ))) (b : Declared) (document : Document) → AllByRecursion AreFields lines
    → Declares a lines b → at_end b ≡ Ok document → reading_from number a (map (join_with_byte 32) lines) ≡ Ok document
declares_reads number a [] b document are x e = rw (x, e)
declares_reads number a (fields ∷ lines) b document are x e =
    let said = line_good a (join_with_byte 32 fields) fields (printed_utf8 (join_with_byte 32 fields) (printed_joined fields are.0)) (fields_joined fields are.0) ∙ x.1 in
    reading_step number a (join_with_byte 32 fields) (map (join_with_byte 32) lines) x.0 said
    ∙ declares_reads (number + 1) x.0 lines b document are.1 x.2 e
