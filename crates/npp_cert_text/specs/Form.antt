-- Which items have a line, and which bytes are the line of an item.
use Rattle.std.specs.Prelude.{◌≡◌, ℕ, ◌+◌, ◌<◌, ◌≤◌, ◌^◌, ⊤, List, length, All, Option, Some, None}
use Rattle.npp_frac.specs.Fits.{FitsBelow, limit_of, IsWidth}
use Rattle.npp_frac.specs.Rational.{Rational}
use Rattle.npp_net.specs.declared.types.ArcId.{ArcId}
use Rattle.npp_rows.specs.declared.mark.Mark.{Mark}
use Rattle.npp_rows.specs.declared.mark.Mark.TheVariants as mark
use Rattle.npp_rows.specs.declared.names.RowName.{RowName}
use Rattle.npp_rows.specs.declared.names.RowName.TheVariants as row
use Rattle.npp_tree.specs.declared.item.Item.{Item}
use Rattle.npp_tree.specs.declared.item.Item.TheVariants as item
use Rattle.npp_report.specs.Lines.{line, item_line}

-- a number of a line: the one of a node, an arc, a toll, a commodity, a path, a row or a cut, or how many there are
abbrev pub IsNumber : ℕ → Type 0
IsNumber n = n < 2 ^ 32

-- the cost of a walk
abbrev pub IsCost : ℕ → Type 0
IsCost n = n < 2 ^ 64

-- a fraction of 128 bits
abbrev pub IsFraction : Rational → Type 0
IsFraction q = FitsBelow (limit_of 128) q

abbrev pub AreArcs : List ArcId → Type 0
AreArcs walk = All (λ (a : ArcId). IsNumber a.0) walk

-- a ceiling, or none
abbrev pub IsCeiling : Option ℕ → Type 0
IsCeiling None = ⊤
IsCeiling (Some u) = IsNumber u

-- the numbers of a mark
abbrev pub IsMark : Mark → Type 0
IsMark mark.Large = ⊤
IsMark mark.Capped = ⊤
IsMark mark.Sum = ⊤
IsMark (mark.Overflow pivot s i j) = IsNumber pivot × IsNumber i × IsNumber j

-- the numbers of a row's name
abbrev pub IsRow : RowName → Type 0
IsRow (row.Cap a) = IsNumber a
IsRow (row.Follow k q) = IsNumber k × IsNumber q
IsRow (row.Below a k) = IsNumber a × IsNumber k
IsRow (row.Use a k) = IsNumber a × IsNumber k
IsRow (row.Link a k) = IsNumber a × IsNumber k
IsRow (row.One k) = IsNumber k
IsRow (row.OneLow k) = IsNumber k
IsRow (row.Cut i) = IsNumber i

-- each number is in its range, a width is one that there is, no list is empty, and a pair names at least two cuts
abbrev pub IsInForm : Item Rational → Type 0
IsInForm item.Header = ⊤
IsInForm item.HeaderTwo = ⊤
IsInForm (item.StatusIs s) = ⊤
IsInForm (item.Width w) = IsWidth w
IsInForm (item.Lower v) = IsFraction v
IsInForm (item.Upper v) = IsFraction v
IsInForm (item.Opened n) = IsNumber n
IsInForm (item.InstanceIs nodes arcs tolls commodities) = IsNumber nodes × IsNumber arcs × IsNumber tolls × IsNumber commodities
IsInForm (item.Limit a u) = IsNumber a × IsCeiling u
IsInForm (item.Toll a v) = IsNumber a × IsFraction v
IsInForm (item.Path k cost paid walk) = IsNumber k × IsCost cost × IsFraction paid × AreArcs walk × (0 < length walk)
IsInForm (item.Cover k n) = IsNumber k × IsNumber n
IsInForm item.Start = ⊤
IsInForm (item.Step parent arc) = IsNumber parent × IsNumber arc.0
IsInForm (item.Free walk) = AreArcs walk × (0 < length walk)
IsInForm (item.Cuts n) = IsNumber n
IsInForm (item.Conflict k p l q n) = IsNumber k × IsNumber p × IsNumber l × IsNumber q × IsNumber n
IsInForm (item.Pair k p l cuts) = IsNumber k × IsNumber p × IsNumber l × All IsNumber cuts × (1 < length cuts)
IsInForm (item.Round n) = IsNumber n
IsInForm (item.Mult y) = IsRow y.row × IsFraction y.value
IsInForm item.Tree = ⊤
IsInForm item.Open = ⊤
IsInForm (item.Basic m) = IsMark m
IsInForm (item.Dual n) = IsNumber n
IsInForm (item.Farkas n) = IsNumber n
IsInForm (item.Inverse n) = IsNumber n
IsInForm (item.NoInverse n) = IsNumber n
IsInForm item.Leaf = ⊤
IsInForm (item.Split k part) = IsNumber k × All IsNumber part × (0 < length part)
IsInForm item.End = ⊤

-- how many entries the list of the item has
abbrev pub entries : Item Rational → ℕ
entries (item.Path k cost paid walk) = length walk
entries (item.Free walk) = length walk
entries (item.Pair k p l cuts) = length cuts
entries (item.Split k part) = length part
entries other = 0

-- the most bytes of a line, without its line feed
abbrev pub line_limit : ℕ
line_limit = 65536

-- the item is in form, and its line is short enough
pub record HasLine (i : Item Rational) : Type 0 where
  pub form : IsInForm i
  pub short : length (item_line i) ≤ line_limit + 1

-- with a line feed behind them the bytes are the line of the item, which has one
pub record IsLineOf (bytes : List ℕ) (i : Item Rational) : Type 0 where
  pub has : HasLine i
  pub text : line bytes ≡ item_line i
