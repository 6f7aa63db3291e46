-- How long a line is at most, by its fields.
use Rattle.std.proofs.Common.{◌≡◌, ◌+◌, ◌*◌, ◌<◌, ◌≤◌, ◌^◌, ◌==◌, refl, ℕ, ℤ, suc, Bool, true, false, List, [], ◌∷◌, ◌++◌, length, cond, Some, None, arith}
use Rattle.std.specs.Prelude.{pos, negsuc, nat_abs}
use Rattle.std.specs.Fmt.{decimal, signed_decimal}
use Rattle.std.specs.List.{join_with_byte}
use Rattle.std.proofs.Math.ListN.{length-append}
use Rattle.std.proofs.lemmas.Fmt.{length-decimal-le_wide}
use Rattle.npp_frac.specs.Fits.{FitsBelow, limit_of}
use Rattle.npp_frac.specs.FractionText.{fraction_text, denominator_text}
use Rattle.npp_frac.specs.Rational.{Rational}
use Rattle.npp_net.specs.declared.types.ArcId.{ArcId}
use Rattle.npp_rows.specs.declared.mark.Step.TheVariants as step
use Rattle.npp_rows.specs.declared.mark.Mark.{Mark}
use Rattle.npp_rows.specs.declared.mark.Mark.TheVariants as mark
use Rattle.npp_rows.specs.declared.names.RowName.{RowName}
use Rattle.npp_rows.specs.declared.names.RowName.TheVariants as row
use Rattle.npp_tree.specs.declared.outcome.Status.{Status}
use Rattle.npp_tree.specs.declared.outcome.Status.TheVariants as status
use Rattle.npp_tree.specs.declared.item.Item.{Item}
use Rattle.npp_tree.specs.declared.item.Item.TheVariants as item
use Rattle.npp_cert_text.specs.Form.{IsInForm, HasLine, entries}
use Rattle.npp_cert_text.proofs.FieldText.{Field, text, below, fraction, field_text, FieldFits}
use Rattle.npp_cert_text.proofs.LineFields.{status_fields, mark_fields, row_fields, numbers, arcs, line_fields}
use Rattle.npp_cert_text.proofs.SoundLemmas.{texts, Fit}
use Rattle.npp_cert_text.proofs.PlainLemmas.{Plain, ArePlain, item_plain}
use Rattle.npp_cert_text.proofs.InForm.{fields_fit, lists_in_form, has_line}

-- the most bytes of a field and the space behind it
abbrev weight : Field → ℕ
weight (text word) = length word + 1
weight (below limit n) = 21
weight (fraction q) = 81

abbrev total : List Field → ℕ
total [] = 0
total (f ∷ fields) = weight f + total fields

signed_length : (z : ℤ) → nat_abs z < 2 ^ 127 → length (signed_decimal z) ≤ 40
signed_length (pos n) small = let most = length-decimal-le_wide 39 n (omega arith) (omega arith) (omega arith) in omega arith
signed_length (negsuc n) small = let most = length-decimal-le_wide 39 (suc n) (omega arith) (omega arith) (omega arith) in omega arith

denominator_length : (d : ℕ) → d < 2 ^ 127 → length (denominator_text d) ≤ 40
denominator_length d small = either (d == 1)
  where
    most : length (decimal d) ≤ 39
    most = length-decimal-le_wide 39 d (omega arith) (omega arith) (omega arith)

    either : (b : Bool) → length (cond b [] (47 ∷ decimal d)) ≤ 40
    either true = omega arith
    either false = omega (arith, most)

fraction_length : (q : Rational) → FitsBelow (limit_of 128) q → length (fraction_text q) ≤ 80
unfolding fraction_text
fraction_length q fits =
    omega (arith, length-append (signed_decimal q.num) (denominator_text q.den), signed_length q.num fits.num, denominator_length q.den fits.den)

field_length : (f : Field) → Plain f → FieldFits f → length (field_text f) + 1 ≤ weight f
field_length (text word) plain fits = omega arith
field_length (below limit n) plain fits = let most = length-decimal-le_wide 20 n (omega arith) (omega arith) (omega arith) in omega arith
field_length (fraction q) plain fits = omega (arith, fraction_length q fits)

joined_length : (fields : List Field) → ArePlain fields → Fit fields → length (join_with_byte 32 (texts fields)) ≤ total fields
joined_length [] plain fits = omega arith
joined_length (f ∷ []) plain fits = omega (arith, field_length f plain.0 fits.0)
joined_length (f ∷ g ∷ fields) plain fits =
    omega (
      arith,
      field_length f plain.0 fits.0,
      joined_length (g ∷ fields) plain.1 fits.1,
      length-append (field_text f) (32 ∷ join_with_byte 32 (texts (g ∷ fields))),
    )

numbers_total : (ns : List ℕ) → total (numbers ns) ≡ 21 * length ns
numbers_total [] = refl
numbers_total (n ∷ ns) = omega (arith, numbers_total ns)

arcs_total : (walk : List ArcId) → total (arcs walk) ≡ 21 * length walk
arcs_total [] = refl
arcs_total (a ∷ walk) = omega (arith, arcs_total walk)

status_total : (s : Status) → total (status_fields s) ≤ 10
status_total status.Optimal = omega arith
status_total status.Budget = omega arith
status_total status.Overflow = omega arith

mark_total : (m : Mark) → total (mark_fields m) ≤ 100
mark_total mark.Large = omega arith
mark_total mark.Capped = omega arith
mark_total mark.Sum = omega arith
mark_total (mark.Overflow pivot step.Ratio i j) = omega arith
mark_total (mark.Overflow pivot step.Pivot i j) = omega arith

row_total : (r : RowName) (q : Rational) → total (row_fields r ++ fraction q ∷ []) ≤ 200
row_total (row.Cap a) q = omega arith
row_total (row.Follow k p) q = omega arith
row_total (row.Below a k) q = omega arith
row_total (row.Use a k) q = omega arith
row_total (row.Link a k) q = omega arith
row_total (row.One k) q = omega arith
row_total (row.OneLow k) q = omega arith
row_total (row.Cut n) q = omega arith

item_total : (i : Item Rational) → total (line_fields i) ≤ 300 + 21 * entries i
item_total item.Header = omega arith
item_total item.HeaderTwo = omega arith
item_total (item.StatusIs s) = omega (arith, status_total s)
item_total (item.Width w) = omega arith
item_total (item.Lower v) = omega arith
item_total (item.Upper v) = omega arith
item_total (item.Opened n) = omega arith
item_total (item.InstanceIs nodes arc_count tolls commodities) = omega arith
item_total (item.Limit a None) = omega arith
item_total (item.Limit a (Some u)) = omega arith
item_total (item.Toll a v) = omega arith
item_total (item.Path k cost paid walk) = omega (arith, arcs_total walk)
item_total (item.Cover k n) = omega arith
item_total item.Start = omega arith
item_total (item.Step parent arc) = omega arith
item_total (item.Free walk) = omega (arith, arcs_total walk)
item_total (item.Cuts n) = omega arith
item_total (item.Conflict k p l q n) = omega arith
item_total (item.Pair k p l cuts) = omega (arith, numbers_total cuts)
item_total (item.Round n) = omega arith
item_total (item.Mult y) = omega (arith, row_total y.row y.value)
item_total item.Tree = omega arith
item_total item.Open = omega arith
item_total (item.Basic m) = omega (arith, mark_total m)
item_total (item.Dual n) = omega arith
item_total (item.Farkas n) = omega arith
item_total (item.Inverse n) = omega arith
item_total (item.NoInverse n) = omega arith
item_total item.Leaf = omega arith
item_total (item.Split k part) = omega (arith, numbers_total part)
item_total item.End = omega arith

-- an item in form with so few entries has a line
pub short_lines : (i : Item Rational) → IsInForm i → entries i ≤ 2000 → HasLine i
short_lines i form few =
    let fits = fields_fit i form in
    has_line i (record {
      fits = fits;
      lists = lists_in_form i form;
      short = omega (arith, joined_length (line_fields i) (item_plain i) fits, item_total i, few);
    })
