-- The numbers of an item are in range exactly where its fields have a text.
use Rattle.std.proofs.Common.{◌≡◌, ◌∙◌, ◌+◌, ◌<◌, ◌^◌, ap, sym, ℕ, List, [], ◌∷◌, ◌++◌, length, Some, None, arith, All, inl, inr}
use Rattle.std.proofs.Math.ListN.{length-append}
use Rattle.std.proofs.lemmas.List.Elements.{All-nil, All-cons, All-head, All-tail}
use Rattle.npp_frac.specs.Fits.{IsWidth}
use Rattle.npp_frac.specs.Rational.{Rational}
use Rattle.npp_net.specs.declared.types.ArcId.{ArcId}
use Rattle.npp_rows.specs.declared.mark.Step.TheVariants as step
use Rattle.npp_rows.specs.declared.mark.Mark.{Mark}
use Rattle.npp_rows.specs.declared.mark.Mark.TheVariants as mark
use Rattle.npp_rows.specs.declared.names.RowName.{RowName}
use Rattle.npp_rows.specs.declared.names.RowName.TheVariants as row
use Rattle.npp_tree.specs.declared.outcome.Status.{Status}
use Rattle.npp_tree.specs.declared.outcome.Status.TheVariants as status
use Rattle.npp_tree.specs.declared.item.Item.{Item}
use Rattle.npp_tree.specs.declared.item.Item.TheVariants as item
use Rattle.npp_report.specs.Lines.{item_line}
use Rattle.npp_cert_text.specs.Form.{IsNumber, AreArcs, IsMark, IsRow, IsInForm, HasLine}
use Rattle.npp_cert_text.proofs.FieldText.{fraction}
use Rattle.npp_cert_text.proofs.LineFields.{status_fields, mark_fields, row_fields, numbers, arcs, line_fields, line_of, HasLists, HasFields}
use Rattle.npp_cert_text.proofs.SoundLemmas.{Fit, ◌▸◌}
use Rattle.npp_cert_text.proofs.SameLine.{same_line}

numbers_fit : (ns : List ℕ) → All IsNumber ns → Fit (numbers ns)
numbers_fit [] all = tt
numbers_fit (n ∷ ns) all = (All-head IsNumber n ns all, numbers_fit ns (All-tail IsNumber n ns all))

numbers_in_range : (ns : List ℕ) → Fit (numbers ns) → All IsNumber ns
numbers_in_range [] fits = All-nil IsNumber
numbers_in_range (n ∷ ns) fits = All-cons IsNumber n ns fits.0 (numbers_in_range ns fits.1)

abbrev IsArc : ArcId → Type 0
IsArc a = IsNumber a.0

arcs_fit : (walk : List ArcId) → AreArcs walk → Fit (arcs walk)
arcs_fit [] all = tt
arcs_fit (a ∷ walk) all = (All-head IsArc a walk all, arcs_fit walk (All-tail IsArc a walk all))

arcs_in_range : (walk : List ArcId) → Fit (arcs walk) → AreArcs walk
arcs_in_range [] fits = All-nil IsArc
arcs_in_range (a ∷ walk) fits = All-cons IsArc a walk fits.0 (arcs_in_range walk fits.1)

status_fit : (s : Status) → Fit (status_fields s)
status_fit status.Optimal = tt ▸ tt
status_fit status.Budget = tt ▸ tt
status_fit status.Overflow = tt ▸ tt

mark_fit : (m : Mark) → IsMark m → Fit (mark_fields m)
mark_fit mark.Large h = tt ▸ tt
mark_fit mark.Capped h = tt ▸ tt
mark_fit mark.Sum h = tt ▸ tt
mark_fit (mark.Overflow pivot step.Ratio i j) h = tt ▸ h.0 ▸ tt ▸ h.1 ▸ h.2 ▸ tt
mark_fit (mark.Overflow pivot step.Pivot i j) h = tt ▸ h.0 ▸ tt ▸ h.1 ▸ h.2 ▸ tt

mark_in_range : (m : Mark) → Fit (mark_fields m) → IsMark m
mark_in_range mark.Large f = tt
mark_in_range mark.Capped f = tt
mark_in_range mark.Sum f = tt
mark_in_range (mark.Overflow pivot step.Ratio i j) f = (f.1.0, f.1.1.1.0, f.1.1.1.1.0)
mark_in_range (mark.Overflow pivot step.Pivot i j) f = (f.1.0, f.1.1.1.0, f.1.1.1.1.0)

row_fit : (r : RowName) (q : Rational) → IsRow r → Fit (fraction q ∷ []) → Fit (row_fields r ++ fraction q ∷ [])
row_fit (row.Cap a) q h f = tt ▸ h ▸ f
row_fit (row.Follow k p) q h f = tt ▸ h.0 ▸ h.1 ▸ f
row_fit (row.Below a k) q h f = tt ▸ h.0 ▸ h.1 ▸ f
row_fit (row.Use a k) q h f = tt ▸ h.0 ▸ h.1 ▸ f
row_fit (row.Link a k) q h f = tt ▸ h.0 ▸ h.1 ▸ f
row_fit (row.One k) q h f = tt ▸ h ▸ f
row_fit (row.OneLow k) q h f = tt ▸ h ▸ f
row_fit (row.Cut n) q h f = tt ▸ h ▸ f

row_in_range : (r : RowName) (q : Rational) → Fit (row_fields r ++ fraction q ∷ []) → IsInForm (item.Mult (record { row = r; value = q }))
row_in_range (row.Cap a) q f = (f.1.0, f.1.1.0)
row_in_range (row.Follow k p) q f = ((f.1.0, f.1.1.0), f.1.1.1.0)
row_in_range (row.Below a k) q f = ((f.1.0, f.1.1.0), f.1.1.1.0)
row_in_range (row.Use a k) q f = ((f.1.0, f.1.1.0), f.1.1.1.0)
row_in_range (row.Link a k) q f = ((f.1.0, f.1.1.0), f.1.1.1.0)
row_in_range (row.One k) q f = (f.1.0, f.1.1.0)
row_in_range (row.OneLow k) q f = (f.1.0, f.1.1.0)
row_in_range (row.Cut n) q f = (f.1.0, f.1.1.0)

width_small : (w : ℕ) → IsWidth w → w < 2 ^ 32
width_small w (inl e) = omega arith
width_small w (inr (inl e)) = omega arith
width_small w (inr (inr e)) = omega arith

-- the fields of an item in form have a text
pub fields_fit : (i : Item Rational) → IsInForm i → Fit (line_fields i)
fields_fit item.Header h = tt ▸ tt ▸ tt
fields_fit item.HeaderTwo h = tt ▸ tt ▸ tt
fields_fit (item.StatusIs s) h = tt ▸ status_fit s
fields_fit (item.Width w) h = tt ▸ width_small w h ▸ tt
fields_fit (item.Lower v) h = tt ▸ h ▸ tt
fields_fit (item.Upper v) h = tt ▸ h ▸ tt
fields_fit (item.Opened n) h = tt ▸ h ▸ tt
fields_fit (item.InstanceIs nodes arc_count tolls commodities) h = tt ▸ h.0 ▸ h.1 ▸ h.2 ▸ h.3 ▸ tt
fields_fit (item.Limit a None) h = tt ▸ h.0 ▸ tt ▸ tt
fields_fit (item.Limit a (Some u)) h = tt ▸ h.0 ▸ h.1 ▸ tt
fields_fit (item.Toll a v) h = tt ▸ h.0 ▸ h.1 ▸ tt
fields_fit (item.Path k cost paid walk) h = tt ▸ h.0 ▸ h.1 ▸ h.2 ▸ arcs_fit walk h.3
fields_fit (item.Cover k n) h = tt ▸ h.0 ▸ h.1 ▸ tt
fields_fit item.Start h = tt ▸ tt
fields_fit (item.Step parent arc) h = tt ▸ h.0 ▸ h.1 ▸ tt
fields_fit (item.Free walk) h = tt ▸ arcs_fit walk h.0
fields_fit (item.Cuts n) h = tt ▸ h ▸ tt
fields_fit (item.Conflict k p l q n) h = tt ▸ h.0 ▸ h.1 ▸ h.2 ▸ h.3 ▸ h.4 ▸ tt
fields_fit (item.Pair k p l cuts) h = tt ▸ h.0 ▸ h.1 ▸ h.2 ▸ numbers_fit cuts h.3
fields_fit (item.Round n) h = tt ▸ h ▸ tt
fields_fit (item.Mult y) h = tt ▸ row_fit y.row y.value h.0 (h.1 ▸ tt)
fields_fit item.Tree h = tt ▸ tt
fields_fit item.Open h = tt ▸ tt
fields_fit (item.Basic m) h = tt ▸ mark_fit m h
fields_fit (item.Dual n) h = tt ▸ h ▸ tt
fields_fit (item.Farkas n) h = tt ▸ h ▸ tt
fields_fit (item.Inverse n) h = tt ▸ h ▸ tt
fields_fit (item.NoInverse n) h = tt ▸ h ▸ tt
fields_fit item.Leaf h = tt ▸ tt
fields_fit (item.Split k part) h = tt ▸ h.0 ▸ numbers_fit part h.1
fields_fit item.End h = tt ▸ tt

pub lists_in_form : (i : Item Rational) → IsInForm i → HasLists i
lists_in_form item.Header h = tt
lists_in_form item.HeaderTwo h = tt
lists_in_form (item.StatusIs s) h = tt
lists_in_form (item.Width w) h = h
lists_in_form (item.Lower v) h = tt
lists_in_form (item.Upper v) h = tt
lists_in_form (item.Opened n) h = tt
lists_in_form (item.InstanceIs nodes arc_count tolls commodities) h = tt
lists_in_form (item.Limit a ceiling) h = tt
lists_in_form (item.Toll a v) h = tt
lists_in_form (item.Path k cost paid walk) h = h.4
lists_in_form (item.Cover k n) h = tt
lists_in_form item.Start h = tt
lists_in_form (item.Step parent arc) h = tt
lists_in_form (item.Free walk) h = h.1
lists_in_form (item.Cuts n) h = tt
lists_in_form (item.Conflict k p l q n) h = tt
lists_in_form (item.Pair k p l cuts) h = h.4
lists_in_form (item.Round n) h = tt
lists_in_form (item.Mult y) h = tt
lists_in_form item.Tree h = tt
lists_in_form item.Open h = tt
lists_in_form (item.Basic m) h = tt
lists_in_form (item.Dual n) h = tt
lists_in_form (item.Farkas n) h = tt
lists_in_form (item.Inverse n) h = tt
lists_in_form (item.NoInverse n) h = tt
lists_in_form item.Leaf h = tt
lists_in_form (item.Split k part) h = h.2
lists_in_form item.End h = tt

-- and an item whose fields have a text is in form
in_form : (i : Item Rational) → Fit (line_fields i) → HasLists i → IsInForm i
in_form item.Header f h = tt
in_form item.HeaderTwo f h = tt
in_form (item.StatusIs s) f h = tt
in_form (item.Width w) f h = h
in_form (item.Lower v) f h = f.1.0
in_form (item.Upper v) f h = f.1.0
in_form (item.Opened n) f h = f.1.0
in_form (item.InstanceIs nodes arc_count tolls commodities) f h = (f.1.0, f.1.1.0, f.1.1.1.0, f.1.1.1.1.0)
in_form (item.Limit a None) f h = (f.1.0, tt)
in_form (item.Limit a (Some u)) f h = (f.1.0, f.1.1.0)
in_form (item.Toll a v) f h = (f.1.0, f.1.1.0)
in_form (item.Path k cost paid walk) f h = (f.1.0, f.1.1.0, f.1.1.1.0, arcs_in_range walk f.1.1.1.1, h)
in_form (item.Cover k n) f h = (f.1.0, f.1.1.0)
in_form item.Start f h = tt
in_form (item.Step parent arc) f h = (f.1.0, f.1.1.0)
in_form (item.Free walk) f h = (arcs_in_range walk f.1, h)
in_form (item.Cuts n) f h = f.1.0
in_form (item.Conflict k p l q n) f h = (f.1.0, f.1.1.0, f.1.1.1.0, f.1.1.1.1.0, f.1.1.1.1.1.0)
in_form (item.Pair k p l cuts) f h = (f.1.0, f.1.1.0, f.1.1.1.0, numbers_in_range cuts f.1.1.1.1, h)
in_form (item.Round n) f h = f.1.0
in_form (item.Mult y) f h = row_in_range y.row y.value f.1
in_form item.Tree f h = tt
in_form item.Open f h = tt
in_form (item.Basic m) f h = mark_in_range m f.1
in_form (item.Dual n) f h = f.1.0
in_form (item.Farkas n) f h = f.1.0
in_form (item.Inverse n) f h = f.1.0
in_form (item.NoInverse n) f h = f.1.0
in_form item.Leaf f h = tt
in_form (item.Split k part) f h = (f.1.0, numbers_in_range part f.1.1, h)
in_form item.End f h = tt

-- a line is one byte shorter without its line feed
line_length : (i : Item Rational) → length (item_line i) ≡ length (line_of i) + 1
line_length i = ap length (sym (same_line i)) ∙ length-append (line_of i) (10 ∷ [])

pub has_fields : (i : Item Rational) → HasLine i → HasFields i
has_fields i has = record {
  fits = fields_fit i has.form;
  lists = lists_in_form i has.form;
  short = omega (arith, has.short, line_length i);
}

pub has_line : (i : Item Rational) → HasFields i → HasLine i
has_line i has = record {
  form = in_form i has.fits has.lists;
  short = omega (arith, has.short, line_length i);
}
