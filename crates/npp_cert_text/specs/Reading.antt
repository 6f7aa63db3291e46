-- The item of a line.
use Rattle.std.specs.Prelude.{ℕ, ◌^◌, ◌==◌, ◌||◌, Bool, nat_le, List, [], ◌∷◌, length, map, Option, Some, None, codes, option_map, option_and_then, if◌then◌else◌}
use Rattle.std.specs.List.{slice_split}
use Rattle.std.specs.Str.{bytes_eq}
use Rattle.npp_frac.specs.Rational.{Rational}
use Rattle.npp_net.specs.declared.types.ArcId.{ArcId}
use Rattle.npp_rows.specs.declared.mark.Step.{Step}
use Rattle.npp_rows.specs.declared.mark.Step.TheVariants as step
use Rattle.npp_rows.specs.declared.mark.Mark.{Mark}
use Rattle.npp_rows.specs.declared.mark.Mark.TheVariants as mark
use Rattle.npp_rows.specs.declared.names.RowName.{RowName}
use Rattle.npp_rows.specs.declared.names.RowName.TheVariants as row
use Rattle.npp_tree.specs.declared.outcome.Status.{Status}
use Rattle.npp_tree.specs.declared.outcome.Status.TheVariants as status
use Rattle.npp_tree.specs.declared.item.Item.{Item}
use Rattle.npp_tree.specs.declared.item.Item.TheVariants as item
use Rattle.npp_cert_text.specs.Form.{line_limit}
use Rattle.npp_cert_text.specs.Values.{whole_in, where_true}
use Rattle.npp_cert_text.specs.Taking.{Takes, Forms, done, first_of, by_word, take_number, take_wide, take_fraction, take_numbers, ◌>>=◌}

abbrev pub Line : Type 0
Line = Takes (Item Rational)

abbrev pub arc_ids : List ℕ → List ArcId
arc_ids ns = map (λ (n : ℕ). record { 0 = n }) ns

-- all that is left, at least one arc number
abbrev pub take_arcs : Takes (List ArcId)
take_arcs = do
  ns ← take_numbers 1
  done (arc_ids ns)

-- a number more
abbrev pub counted : (ℕ → Item Rational) → Line
counted make = do
  n ← take_number
  done (make n)

abbrev pub valued : (Rational → Item Rational) → Line
valued make = do
  v ← take_fraction
  done (make v)

-- a width that there is
abbrev pub width_in : List ℕ → Option ℕ
width_in field = option_and_then (λ w. where_true ((w == 32) || ((w == 64) || (w == 128))) w) (whole_in (2 ^ 32) field)

abbrev pub status_forms : Forms Status
status_forms = (codes "optimal", done status.Optimal) ∷ (codes "budget", done status.Budget) ∷ (codes "overflow", done status.Overflow) ∷ []

abbrev pub take_status : Takes Status
take_status = by_word status_forms

abbrev pub step_forms : Forms Step
step_forms = (codes "ratio", done step.Ratio) ∷ (codes "pivot", done step.Pivot) ∷ []

abbrev pub take_step : Takes Step
take_step = by_word step_forms

abbrev pub take_place : Takes Mark
take_place = do
  pivot ← take_number
  s ← take_step
  r ← take_number
  column ← take_number
  done (mark.Overflow pivot s r column)

abbrev pub mark_forms : Forms Mark
mark_forms = (codes "large", done mark.Large) ∷ (codes "capped", done mark.Capped) ∷ (codes "sum", done mark.Sum) ∷ (codes "overflow", take_place) ∷ []

abbrev pub take_mark : Takes Mark
take_mark = by_word mark_forms

abbrev pub of_one : (ℕ → RowName) → Takes RowName
of_one make = do
  a ← take_number
  done (make a)

abbrev pub of_two : (ℕ → ℕ → RowName) → Takes RowName
of_two make = do
  a ← take_number
  b ← take_number
  done (make a b)

abbrev pub row_forms : Forms RowName
row_forms =
    (codes "cap", of_one row.Cap)
    ∷ (codes "follow", of_two row.Follow)
    ∷ (codes "below", of_two row.Below)
    ∷ (codes "use", of_two row.Use)
    ∷ (codes "link", of_two row.Link)
    ∷ (codes "one", of_one row.One)
    ∷ (codes "onelow", of_one row.OneLow)
    ∷ (codes "cut", of_one row.Cut)
    ∷ []

abbrev pub take_row : Takes RowName
take_row = by_word row_forms

-- a dash, or a number
abbrev pub ceiling_in : List ℕ → Option (Option ℕ)
ceiling_in field = if bytes_eq field (codes "-") then Some None else option_map (λ u. Some u) (whole_in (2 ^ 32) field)

abbrev pub header_forms : Forms (Item Rational)
header_forms = (codes "1", done item.Header) ∷ (codes "2", done item.HeaderTwo) ∷ []

abbrev pub header_line : Line
header_line = by_word header_forms

abbrev pub status_line : Line
status_line = do
  s ← take_status
  done (item.StatusIs s)

abbrev pub width_line : Line
width_line = do
  w ← first_of width_in
  done (item.Width w)

abbrev pub instance_line : Line
instance_line = do
  nodes ← take_number
  arc_count ← take_number
  tolls ← take_number
  commodities ← take_number
  done (item.InstanceIs nodes arc_count tolls commodities)

abbrev pub limit_line : Line
limit_line = do
  a ← take_number
  ceiling ← first_of ceiling_in
  done (item.Limit a ceiling)

abbrev pub toll_line : Line
toll_line = do
  a ← take_number
  v ← take_fraction
  done (item.Toll a v)

abbrev pub path_line : Line
path_line = do
  k ← take_number
  cost ← take_wide
  paid ← take_fraction
  walk ← take_arcs
  done (item.Path k cost paid walk)

abbrev pub cover_line : Line
cover_line = do
  k ← take_number
  n ← take_number
  done (item.Cover k n)

abbrev pub step_line : Line
step_line = do
  parent ← take_number
  arc ← take_number
  done (item.Step parent (record { 0 = arc }))

abbrev pub free_line : Line
free_line = do
  walk ← take_arcs
  done (item.Free walk)

abbrev pub conflict_line : Line
conflict_line = do
  k ← take_number
  p ← take_number
  l ← take_number
  q ← take_number
  n ← take_number
  done (item.Conflict k p l q n)

abbrev pub pair_line : Line
pair_line = do
  k ← take_number
  p ← take_number
  l ← take_number
  cuts ← take_numbers 2
  done (item.Pair k p l cuts)

abbrev pub multiplier_line : Line
multiplier_line = do
  r ← take_row
  v ← take_fraction
  done (item.Mult (record { row = r; value = v }))

abbrev pub basic_line : Line
basic_line = do
  m ← take_mark
  done (item.Basic m)

abbrev pub split_line : Line
split_line = do
  k ← take_number
  part ← take_numbers 1
  done (item.Split k part)

-- what follows each first word in the tree
abbrev pub tree_forms : Forms (Item Rational)
tree_forms =
    (codes "tree", done item.Tree)
    ∷ (codes "open", done item.Open)
    ∷ (codes "basic", basic_line)
    ∷ (codes "dual", counted item.Dual)
    ∷ (codes "farkas", counted item.Farkas)
    ∷ (codes "inverse", counted item.Inverse)
    ∷ (codes "none", counted item.NoInverse)
    ∷ (codes "leaf", done item.Leaf)
    ∷ (codes "split", split_line)
    ∷ (codes "end", done item.End)
    ∷ []

-- and in the covers and cuts
abbrev pub evidence_forms : Forms (Item Rational)
evidence_forms =
    (codes "cover", cover_line)
    ∷ (codes "start", done item.Start)
    ∷ (codes "step", step_line)
    ∷ (codes "free", free_line)
    ∷ (codes "cuts", counted item.Cuts)
    ∷ (codes "conflict", conflict_line)
    ∷ (codes "pair", pair_line)
    ∷ (codes "round", counted item.Round)
    ∷ (codes "y", multiplier_line)
    ∷ tree_forms

-- what follows each first word
abbrev pub line_forms : Forms (Item Rational)
line_forms =
    (codes "npp-certificate", header_line)
    ∷ (codes "status", status_line)
    ∷ (codes "width", width_line)
    ∷ (codes "lower", valued item.Lower)
    ∷ (codes "upper", valued item.Upper)
    ∷ (codes "opened", counted item.Opened)
    ∷ (codes "instance", instance_line)
    ∷ (codes "limit", limit_line)
    ∷ (codes "toll", toll_line)
    ∷ (codes "path", path_line)
    ∷ evidence_forms

-- 32 is the space
abbrev pub is_space : ℕ → Bool
is_space b = b == 32

-- the fields: the parts between single spaces
abbrev pub fields_of : List ℕ → List (List ℕ)
fields_of line = slice_split is_space line

-- what was said, where no field is left
abbrev pub alone : {X : Type 0} → X × List (List ℕ) → Option X
alone (x, []) = Some x
alone (x, field ∷ fields) = None

abbrev pub item_said : List (List ℕ) → Option (Item Rational)
item_said fields = option_and_then alone (by_word line_forms fields)

-- the item of a line without its line feed, where it is one of the forms
unfoldable pub item_in : List ℕ → Option (Item Rational)
item_in line = if nat_le (length line) line_limit then item_said (fields_of line) else None
