-- The text of each line of a certificate, of which a report is the beginning.
use Rattle.std.specs.Prelude.{ℕ, ◌+◌, List, [], ◌∷◌, ◌++◌, Option, Some, None, codes}
use Rattle.std.specs.List.{flat_map}
use Rattle.std.specs.Fmt.{decimal}
use Rattle.npp_frac.specs.Rational.{Rational}
use Rattle.npp_frac.specs.FractionText.{fraction_text}
use Rattle.npp_net.specs.declared.types.ArcId.{ArcId}
use Rattle.npp_rows.specs.declared.mark.Step.{Step}
use Rattle.npp_rows.specs.declared.mark.Step.TheVariants as step
use Rattle.npp_rows.specs.declared.mark.Mark.{Mark}
use Rattle.npp_rows.specs.declared.mark.Mark.TheVariants as mark
use Rattle.npp_rows.specs.declared.names.RowName.{RowName}
use Rattle.npp_rows.specs.declared.names.RowName.TheVariants as row
use Rattle.npp_tree.specs.declared.outcome.PathLine.{PathLine}
use Rattle.npp_tree.specs.declared.outcome.Status.{Status}
use Rattle.npp_tree.specs.declared.outcome.Status.TheVariants.{Optimal, Budget, Overflow}
use Rattle.npp_tree.specs.declared.item.Item.{Item}
use Rattle.npp_tree.specs.declared.item.Item.TheVariants as item

-- a text and its line feed
abbrev pub line : List ℕ → List ℕ
line text = text ++ 10 ∷ []

-- the lines of the elements of a list, each with its number, from n on
abbrev pub numbered_lines : {X : Type 0} → (ℕ → X → List ℕ) → ℕ → List X → List ℕ
numbered_lines line_of n [] = []
numbered_lines line_of n (x ∷ xs) = line_of n x ++ numbered_lines line_of (n + 1) xs

-- numbers, each after a space
abbrev pub number_fields : List ℕ → List ℕ
number_fields ns = flat_map (λ n. 32 ∷ decimal n) ns

-- the numbers of the arcs, each after a space
abbrev pub arc_fields : List ArcId → List ℕ
arc_fields arcs = flat_map (λ (a : ArcId). 32 ∷ decimal a.0) arcs

-- how a search ended
abbrev pub status_word : Status → List ℕ
status_word Optimal = codes "optimal"
status_word Budget = codes "budget"
status_word Overflow = codes "overflow"

-- a ceiling, and a dash where there is none
abbrev pub ceiling_field : Option ℕ → List ℕ
ceiling_field None = codes "-"
ceiling_field (Some u) = decimal u

-- the two steps of a pivot
abbrev pub step_word : Step → List ℕ
step_word step.Ratio = codes "ratio"
step_word step.Pivot = codes "pivot"

-- why a program has no answer at the width
abbrev pub mark_fields : Mark → List ℕ
mark_fields mark.Large = codes "large"
mark_fields mark.Capped = codes "capped"
mark_fields mark.Sum = codes "sum"
mark_fields (mark.Overflow pivot s i j) = codes "overflow" ++ 32 ∷ decimal pivot ++ 32 ∷ step_word s ++ number_fields (i ∷ j ∷ [])

-- a row by its name
abbrev pub row_fields : RowName → List ℕ
row_fields (row.Cap a) = codes "cap" ++ number_fields (a ∷ [])
row_fields (row.Follow k q) = codes "follow" ++ number_fields (k ∷ q ∷ [])
row_fields (row.Below a k) = codes "below" ++ number_fields (a ∷ k ∷ [])
row_fields (row.Use a k) = codes "use" ++ number_fields (a ∷ k ∷ [])
row_fields (row.Link a k) = codes "link" ++ number_fields (a ∷ k ∷ [])
row_fields (row.One k) = codes "one" ++ number_fields (k ∷ [])
row_fields (row.OneLow k) = codes "onelow" ++ number_fields (k ∷ [])
row_fields (row.Cut i) = codes "cut" ++ number_fields (i ∷ [])

-- the toll of a toll arc
abbrev pub toll_line : ℕ → Rational → List ℕ
toll_line a toll = line (codes "toll " ++ decimal a ++ 32 ∷ fraction_text toll)

-- the walk of a commodity: what it costs, what it pays, and its arcs
abbrev pub path_line : ℕ → PathLine Rational → List ℕ
path_line k p = line (codes "path " ++ decimal k ++ 32 ∷ decimal p.cost ++ 32 ∷ fraction_text p.paid ++ arc_fields p.arcs)

-- the line of an item
abbrev pub item_line : Item Rational → List ℕ
item_line item.Header = line (codes "npp-certificate 1")
item_line item.HeaderTwo = line (codes "npp-certificate 2")
item_line (item.StatusIs s) = line (codes "status " ++ status_word s)
item_line (item.Width w) = line (codes "width " ++ decimal w)
item_line (item.Lower v) = line (codes "lower " ++ fraction_text v)
item_line (item.Upper v) = line (codes "upper " ++ fraction_text v)
item_line (item.Opened n) = line (codes "opened " ++ decimal n)
item_line (item.InstanceIs nodes arcs tolls commodities) = line (codes "instance" ++ number_fields (nodes ∷ arcs ∷ tolls ∷ commodities ∷ []))
item_line (item.Limit a u) = line (codes "limit " ++ decimal a ++ 32 ∷ ceiling_field u)
item_line (item.Toll a v) = toll_line a v
item_line (item.Path k cost paid arcs) = path_line k (record { cost = cost; paid = paid; arcs = arcs })
item_line (item.Cover k n) = line (codes "cover" ++ number_fields (k ∷ n ∷ []))
item_line item.Start = line (codes "start")
item_line (item.Step parent arc) = line (codes "step" ++ number_fields (parent ∷ arc.0 ∷ []))
item_line (item.Free arcs) = line (codes "free" ++ arc_fields arcs)
item_line (item.Cuts n) = line (codes "cuts" ++ number_fields (n ∷ []))
item_line (item.Conflict k p l q n) = line (codes "conflict" ++ number_fields (k ∷ p ∷ l ∷ q ∷ n ∷ []))
item_line (item.Pair k p l cuts) = line (codes "pair" ++ number_fields (k ∷ p ∷ l ∷ cuts))
item_line (item.Round n) = line (codes "round" ++ number_fields (n ∷ []))
item_line (item.Mult y) = line (codes "y " ++ row_fields y.row ++ 32 ∷ fraction_text y.value)
item_line item.Tree = line (codes "tree")
item_line item.Open = line (codes "open")
item_line (item.Basic m) = line (codes "basic " ++ mark_fields m)
item_line (item.Dual n) = line (codes "dual" ++ number_fields (n ∷ []))
item_line (item.Farkas n) = line (codes "farkas" ++ number_fields (n ∷ []))
item_line (item.Inverse n) = line (codes "inverse" ++ number_fields (n ∷ []))
item_line (item.NoInverse n) = line (codes "none" ++ number_fields (n ∷ []))
item_line item.Leaf = line (codes "leaf")
item_line (item.Split k part) = line (codes "split" ++ number_fields (k ∷ part))
item_line item.End = line (codes "end")

-- the lines of items, one after another
abbrev pub text_of : List (Item Rational) → List ℕ
text_of items = flat_map item_line items

-- the lines of all tolls, by their numbers
abbrev pub toll_lines : List Rational → List ℕ
toll_lines tolls = numbered_lines toll_line 0 tolls

-- the lines of all walks, by the numbers of their commodities
abbrev pub path_lines : List (PathLine Rational) → List ℕ
path_lines paths = numbered_lines path_line 0 paths
