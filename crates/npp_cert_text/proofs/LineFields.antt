-- The fields of the line of an item.
use Rattle.std.specs.Prelude.{ℕ, ◌<◌, ◌≤◌, ⊤, List, [], ◌∷◌, ◌++◌, length, map, Option, Some, None, codes}
use Rattle.std.specs.List.{AllByRecursion}
use Rattle.npp_frac.specs.Fits.{IsWidth}
use Rattle.npp_frac.specs.Rational.{Rational}
use Rattle.npp_net.specs.declared.types.ArcId.{ArcId}
use Rattle.npp_rows.specs.declared.mark.Step.{Step}
use Rattle.npp_rows.specs.declared.mark.Step.TheVariants as step
use Rattle.npp_rows.specs.declared.mark.Mark.{Mark}
use Rattle.npp_rows.specs.declared.mark.Mark.TheVariants as mark
use Rattle.npp_rows.specs.declared.names.RowName.{RowName}
use Rattle.npp_rows.specs.declared.names.RowName.TheVariants as row
use Rattle.npp_tree.specs.declared.outcome.Status.{Status}
use Rattle.npp_tree.specs.declared.outcome.Status.TheVariants as status
use Rattle.npp_tree.specs.declared.item.Item.{Item}
use Rattle.npp_tree.specs.declared.item.Item.TheVariants as item
use Rattle.npp_cert_text.specs.Form.{line_limit}
use Rattle.npp_cert_text.proofs.FieldText.{Field, text, number, wide, fraction, FieldFits, joined}

abbrev pub status_fields : Status → List Field
status_fields status.Optimal = text (codes "optimal") ∷ []
status_fields status.Budget = text (codes "budget") ∷ []
status_fields status.Overflow = text (codes "overflow") ∷ []

abbrev pub step_fields : Step → List Field
step_fields step.Ratio = text (codes "ratio") ∷ []
step_fields step.Pivot = text (codes "pivot") ∷ []

abbrev pub mark_fields : Mark → List Field
mark_fields mark.Large = text (codes "large") ∷ []
mark_fields mark.Capped = text (codes "capped") ∷ []
mark_fields mark.Sum = text (codes "sum") ∷ []
mark_fields (mark.Overflow pivot s r column) =
    text (codes "overflow") ∷ number pivot ∷ (step_fields s ++ number r ∷ number column ∷ [])

abbrev pub row_fields : RowName → List Field
row_fields (row.Cap a) = text (codes "cap") ∷ number a ∷ []
row_fields (row.Follow k q) = text (codes "follow") ∷ number k ∷ number q ∷ []
row_fields (row.Below a k) = text (codes "below") ∷ number a ∷ number k ∷ []
row_fields (row.Use a k) = text (codes "use") ∷ number a ∷ number k ∷ []
row_fields (row.Link a k) = text (codes "link") ∷ number a ∷ number k ∷ []
row_fields (row.One k) = text (codes "one") ∷ number k ∷ []
row_fields (row.OneLow k) = text (codes "onelow") ∷ number k ∷ []
row_fields (row.Cut n) = text (codes "cut") ∷ number n ∷ []

-- a dash stands for no ceiling
abbrev pub ceiling_fields : Option ℕ → List Field
ceiling_fields None = text (codes "-") ∷ []
ceiling_fields (Some u) = number u ∷ []

abbrev pub numbers : List ℕ → List Field
numbers ns = map number ns

abbrev pub arcs : List ArcId → List Field
arcs walk = map (λ (a : ArcId). number a.0) walk

-- the fields of a line
abbrev pub line_fields : Item Rational → List Field
line_fields item.Header = text (codes "npp-certificate") ∷ text (codes "1") ∷ []
line_fields item.HeaderTwo = text (codes "npp-certificate") ∷ text (codes "2") ∷ []
line_fields (item.StatusIs s) = text (codes "status") ∷ status_fields s
line_fields (item.Width w) = text (codes "width") ∷ number w ∷ []
line_fields (item.Lower v) = text (codes "lower") ∷ fraction v ∷ []
line_fields (item.Upper v) = text (codes "upper") ∷ fraction v ∷ []
line_fields (item.Opened n) = text (codes "opened") ∷ number n ∷ []
line_fields (item.InstanceIs nodes arc_count tolls commodities) =
    text (codes "instance") ∷ number nodes ∷ number arc_count ∷ number tolls ∷ number commodities ∷ []
line_fields (item.Limit a ceiling) = text (codes "limit") ∷ number a ∷ ceiling_fields ceiling
line_fields (item.Toll a v) = text (codes "toll") ∷ number a ∷ fraction v ∷ []
line_fields (item.Path k cost paid walk) = text (codes "path") ∷ number k ∷ wide cost ∷ fraction paid ∷ arcs walk
line_fields (item.Cover k n) = text (codes "cover") ∷ number k ∷ number n ∷ []
line_fields item.Start = text (codes "start") ∷ []
line_fields (item.Step parent arc) = text (codes "step") ∷ number parent ∷ number arc.0 ∷ []
line_fields (item.Free walk) = text (codes "free") ∷ arcs walk
line_fields (item.Cuts n) = text (codes "cuts") ∷ number n ∷ []
line_fields (item.Conflict k p l q n) = text (codes "conflict") ∷ number k ∷ number p ∷ number l ∷ number q ∷ number n ∷ []
line_fields (item.Pair k p l cuts) = text (codes "pair") ∷ number k ∷ number p ∷ number l ∷ numbers cuts
line_fields (item.Round n) = text (codes "round") ∷ number n ∷ []
line_fields (item.Mult y) = text (codes "y") ∷ (row_fields y.row ++ fraction y.value ∷ [])
line_fields item.Tree = text (codes "tree") ∷ []
line_fields item.Open = text (codes "open") ∷ []
line_fields (item.Basic m) = text (codes "basic") ∷ mark_fields m
line_fields (item.Dual n) = text (codes "dual") ∷ number n ∷ []
line_fields (item.Farkas n) = text (codes "farkas") ∷ number n ∷ []
line_fields (item.Inverse n) = text (codes "inverse") ∷ number n ∷ []
line_fields (item.NoInverse n) = text (codes "none") ∷ number n ∷ []
line_fields item.Leaf = text (codes "leaf") ∷ []
line_fields (item.Split k part) = text (codes "split") ∷ number k ∷ numbers part
line_fields item.End = text (codes "end") ∷ []

-- these fields with a space between each two
abbrev pub line_of : Item Rational → List ℕ
line_of i = joined (line_fields i)

-- no list is empty, a pair names at least two cuts, and a width is one that there is
abbrev pub HasLists : Item Rational → Type 0
HasLists (item.Width w) = IsWidth w
HasLists (item.Path k cost paid walk) = 0 < length walk
HasLists (item.Free walk) = 0 < length walk
HasLists (item.Pair k p l cuts) = 1 < length cuts
HasLists (item.Split k part) = 0 < length part
HasLists other = ⊤

-- the fields have a text, and are short enough together
pub record HasFields (i : Item Rational) : Type 0 where
  pub fits : AllByRecursion FieldFits (line_fields i)
  pub lists : HasLists i
  pub short : length (line_of i) ≤ line_limit
