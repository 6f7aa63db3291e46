-- In no field stands a byte below 45, such as a space or a line feed.
use Rattle.std.proofs.Common.{◌≡◌, ◌<◌, ◌≤◌, ◌^◌, ◌==◌, refl, ℕ, true, false, nat_le, List, [], ◌∷◌, ◌++◌, Option, Some, None, arith}
use Rattle.std.specs.Prelude.{⊤}
use Rattle.std.specs.List.{AllByRecursion, list_all, join_with_byte}
use Rattle.std.proofs.lemmas.Bool.{leb-true}
use Rattle.std.proofs.lemmas.List.Elements.{All-nil, All-append}
use Rattle.npp_frac.specs.Rational.{Rational}
use Rattle.npp_net.specs.declared.types.ArcId.{ArcId}
use Rattle.npp_rows.specs.declared.mark.Step.{Step}
use Rattle.npp_rows.specs.declared.mark.Step.TheVariants as step
use Rattle.npp_rows.specs.declared.mark.Mark.{Mark}
use Rattle.npp_rows.specs.declared.mark.Mark.TheVariants as mark
use Rattle.npp_rows.specs.declared.names.RowName.{RowName}
use Rattle.npp_rows.specs.declared.names.RowName.TheVariants as row
use Rattle.npp_tree.specs.declared.outcome.Status.{Status}
use Rattle.npp_tree.specs.declared.outcome.Status.TheVariants as status
use Rattle.npp_tree.specs.declared.item.Item.{Item}
use Rattle.npp_tree.specs.declared.item.Item.TheVariants as item
use Rattle.npp_cert_text.proofs.FieldText.{Field, text, below, number, fraction, field_text, FieldFits}
use Rattle.npp_cert_text.proofs.LineFields.{status_fields, step_fields, mark_fields, row_fields, ceiling_fields, numbers, arcs, line_fields, line_of}
use Rattle.npp_cert_text.proofs.ValueLemmas.{Lacks, both, not_one, decimal_lacks, fraction_lacks}
use Rattle.npp_cert_text.proofs.SoundLemmas.{texts, Fit, ◌▸◌}

-- a word has only such bytes, and a number is short
abbrev pub Plain : Field → Type 0
Plain (text word) = list_all (λ b. nat_le 45 b) word ≡ true
Plain (below limit n) = limit ≤ 2 ^ 64
Plain (fraction q) = ⊤

abbrev pub ArePlain : List Field → Type 0
ArePlain fields = AllByRecursion Plain fields

word_lacks : (c : ℕ) (word : List ℕ) → c < 45 → list_all (λ b. nat_le 45 b) word ≡ true → Lacks c word
word_lacks c [] low e = All-nil (λ x. (x == c) ≡ false)
word_lacks c (b ∷ word) low e =
    let parts = both (nat_le 45 b) (list_all (λ x. nat_le 45 x) word) e in
    let high : 45 ≤ b = leb-true 45 b parts.0 in
    not_one c b word (λ same. omega arith) (word_lacks c word low parts.1)

field_lacks : (c : ℕ) → c < 45 → (f : Field) → Plain f → FieldFits f → Lacks c (field_text f)
field_lacks c low (text word) plain fits = word_lacks c word low plain
field_lacks c low (below limit n) plain fits = decimal_lacks c n (λ r. omega (arith, r)) (omega arith)
field_lacks c low (fraction q) plain fits = fraction_lacks c q (λ r. omega (arith, r)) (λ e. omega arith) (λ e. omega arith) fits

pub fields_lack : (c : ℕ) → c < 45 → (fields : List Field) → ArePlain fields → Fit fields → AllByRecursion (Lacks c) (texts fields)
fields_lack c low [] plain fits = tt
fields_lack c low (f ∷ fields) plain fits = (field_lacks c low f plain.0 fits.0, fields_lack c low fields plain.1 fits.1)

p32 : 2 ^ 32 ≤ 2 ^ 64
p32 = omega arith

p64 : 2 ^ 64 ≤ 2 ^ 64
p64 = omega arith

plain_append : (xs ys : List Field) → ArePlain xs → ArePlain ys → ArePlain (xs ++ ys)
plain_append [] ys p q = q
plain_append (x ∷ xs) ys p q = (p.0, plain_append xs ys p.1 q)

numbers_plain : (ns : List ℕ) → ArePlain (numbers ns)
numbers_plain [] = tt
numbers_plain (n ∷ ns) = (p32, numbers_plain ns)

arcs_plain : (walk : List ArcId) → ArePlain (arcs walk)
arcs_plain [] = tt
arcs_plain (a ∷ walk) = (p32, arcs_plain walk)

status_plain : (s : Status) → ArePlain (status_fields s)
status_plain status.Optimal = refl ▸ tt
status_plain status.Budget = refl ▸ tt
status_plain status.Overflow = refl ▸ tt

step_plain : (s : Step) → ArePlain (step_fields s)
step_plain step.Ratio = refl ▸ tt
step_plain step.Pivot = refl ▸ tt

mark_plain : (m : Mark) → ArePlain (mark_fields m)
mark_plain mark.Large = refl ▸ tt
mark_plain mark.Capped = refl ▸ tt
mark_plain mark.Sum = refl ▸ tt
mark_plain (mark.Overflow pivot s r column) = refl ▸ p32 ▸ plain_append (step_fields s) (number r ∷ number column ∷ []) (step_plain s) (p32 ▸ p32 ▸ tt)

row_plain : (r : RowName) → ArePlain (row_fields r)
row_plain (row.Cap a) = refl ▸ p32 ▸ tt
row_plain (row.Follow k q) = refl ▸ p32 ▸ p32 ▸ tt
row_plain (row.Below a k) = refl ▸ p32 ▸ p32 ▸ tt
row_plain (row.Use a k) = refl ▸ p32 ▸ p32 ▸ tt
row_plain (row.Link a k) = refl ▸ p32 ▸ p32 ▸ tt
row_plain (row.One k) = refl ▸ p32 ▸ tt
row_plain (row.OneLow k) = refl ▸ p32 ▸ tt
row_plain (row.Cut n) = refl ▸ p32 ▸ tt

ceiling_plain : (c : Option ℕ) → ArePlain (ceiling_fields c)
ceiling_plain None = refl ▸ tt
ceiling_plain (Some u) = p32 ▸ tt

pub item_plain : (i : Item Rational) → ArePlain (line_fields i)
item_plain item.Header = refl ▸ refl ▸ tt
item_plain item.HeaderTwo = refl ▸ refl ▸ tt
item_plain (item.StatusIs s) = refl ▸ status_plain s
item_plain (item.Width w) = refl ▸ p32 ▸ tt
item_plain (item.Lower v) = refl ▸ tt ▸ tt
item_plain (item.Upper v) = refl ▸ tt ▸ tt
item_plain (item.Opened n) = refl ▸ p32 ▸ tt
item_plain (item.InstanceIs nodes arc_count tolls commodities) = refl ▸ p32 ▸ p32 ▸ p32 ▸ p32 ▸ tt
item_plain (item.Limit a ceiling) = refl ▸ p32 ▸ ceiling_plain ceiling
item_plain (item.Toll a v) = refl ▸ p32 ▸ tt ▸ tt
item_plain (item.Path k cost paid walk) = refl ▸ p32 ▸ p64 ▸ tt ▸ arcs_plain walk
item_plain (item.Cover k n) = refl ▸ p32 ▸ p32 ▸ tt
item_plain item.Start = refl ▸ tt
item_plain (item.Step parent arc) = refl ▸ p32 ▸ p32 ▸ tt
item_plain (item.Free walk) = refl ▸ arcs_plain walk
item_plain (item.Cuts n) = refl ▸ p32 ▸ tt
item_plain (item.Conflict k p l q n) = refl ▸ p32 ▸ p32 ▸ p32 ▸ p32 ▸ p32 ▸ tt
item_plain (item.Pair k p l cuts) = refl ▸ p32 ▸ p32 ▸ p32 ▸ numbers_plain cuts
item_plain (item.Round n) = refl ▸ p32 ▸ tt
item_plain (item.Mult y) = refl ▸ plain_append (row_fields y.row) (fraction y.value ∷ []) (row_plain y.row) (tt ▸ tt)
item_plain item.Tree = refl ▸ tt
item_plain item.Open = refl ▸ tt
item_plain (item.Basic m) = refl ▸ mark_plain m
item_plain (item.Dual n) = refl ▸ p32 ▸ tt
item_plain (item.Farkas n) = refl ▸ p32 ▸ tt
item_plain (item.Inverse n) = refl ▸ p32 ▸ tt
item_plain (item.NoInverse n) = refl ▸ p32 ▸ tt
item_plain item.Leaf = refl ▸ tt
item_plain (item.Split k part) = refl ▸ p32 ▸ numbers_plain part
item_plain item.End = refl ▸ tt

joined_lacks : (c : ℕ) → c < 32 → (ts : List (List ℕ)) → AllByRecursion (Lacks c) ts → Lacks c (join_with_byte 32 ts)
joined_lacks c low [] lack = All-nil (λ x. (x == c) ≡ false)
joined_lacks c low (t ∷ []) lack = lack.0
joined_lacks c low (t ∷ u ∷ ts) lack =
    All-append (λ x. (x == c) ≡ false) t (32 ∷ join_with_byte 32 (u ∷ ts)) lack.0
    (not_one c 32 (join_with_byte 32 (u ∷ ts)) (λ same. omega arith) (joined_lacks c low (u ∷ ts) lack.1))

-- no line has a byte below the space, such as a line feed
pub line_lacks : (c : ℕ) → c < 32 → (i : Item Rational) → Fit (line_fields i) → Lacks c (line_of i)
line_lacks c low i fits = joined_lacks c low (texts (line_fields i)) (fields_lack c (omega arith) (line_fields i) (item_plain i) fits)
