-- Lines of worked certificates, in both directions.
use Rattle.std.specs.Prelude.{◌≡◌, ℕ, List, [], ◌∷◌, ◌++◌, map, flat_map, Option, Some, None, codes, refl, pos}
use Rattle.std.specs.Option.{option_map}
use Rattle.std.specs.Fmt.{digits}
use Rattle.npp_frac.specs.Gcd.{gcd, gcd_within}
use Rattle.npp_frac.specs.FractionText.{fraction_text}
use Rattle.npp_frac.specs.Rational.{Rational, whole, ratio}
use Rattle.npp_rows.specs.declared.mark.Mark.TheVariants as mark
use Rattle.npp_rows.specs.declared.mark.Step.TheVariants as step
use Rattle.npp_tree.specs.declared.item.Item.{Item}
use Rattle.npp_tree.specs.declared.item.Item.TheVariants as item
use Rattle.npp_tree.specs.declared.outcome.Status.TheVariants as status
use Rattle.npp_report.specs.Lines.{line as ended, item_line}
use Rattle.npp_cert_text.proofs.LineFields.{line_of}
use Rattle.npp_cert_text.specs.Values.{whole_in, fraction_in}
use Rattle.npp_cert_text.specs.Taking.{and_then}
use Rattle.npp_cert_text.specs.Reading.{item_in}
use Rattle.npp_cert_text.specs.Lines.{text_items}

-- what a proof unfolds to compute lines
unfoldable lines_compute : Unit {0}
unfolding item_in and_then whole_in fraction_in fraction_text ratio whole gcd gcd_within digits text_items
lines_compute = tt

-- the line of what a line says, where it says anything
abbrev again : List ℕ → Option (List ℕ)
again line = option_map line_of (item_in line)

-- the lines of the worked certificate of one toll road, in the second form
abbrev lines : List (List ℕ)
lines =
    codes "npp-certificate 2"
    ∷ codes "status optimal"
    ∷ codes "width 64"
    ∷ codes "lower 40"
    ∷ codes "upper 40"
    ∷ codes "opened 0"
    ∷ codes "instance 2 2 1 1"
    ∷ codes "limit 0 -"
    ∷ codes "toll 0 8"
    ∷ codes "path 0 2 8 1"
    ∷ codes "cover 0 2"
    ∷ codes "start"
    ∷ codes "step 0 1"
    ∷ codes "free 0"
    ∷ codes "cuts 0"
    ∷ codes "tree"
    ∷ codes "open"
    ∷ codes "end"
    ∷ []

items : List (Item Rational)
items =
    item.HeaderTwo
    ∷ item.StatusIs status.Optimal
    ∷ item.Width 64
    ∷ item.Lower (whole (pos 40))
    ∷ item.Upper (whole (pos 40))
    ∷ item.Opened 0
    ∷ item.InstanceIs 2 2 1 1
    ∷ item.Limit 0 None
    ∷ item.Toll 0 (whole (pos 8))
    ∷ item.Path 0 2 (whole (pos 8)) (record { 0 = 1 } ∷ [])
    ∷ item.Cover 0 2
    ∷ item.Start
    ∷ item.Step 0 (record { 0 = 1 })
    ∷ item.Free (record { 0 = 0 } ∷ [])
    ∷ item.Cuts 0
    ∷ item.Tree
    ∷ item.Open
    ∷ item.End
    ∷ []

-- each item is written as its line
written : map item_line items ≡ map ended lines
unfolding lines_compute items
written = refl

-- each line says something whose line it is
read_again : map again lines ≡ map (λ line. Some line) lines
unfolding lines_compute
read_again = refl

-- the whole text, ended and unended
whole_text : map (option_map line_of) (text_items (flat_map ended lines)) ≡ map (λ line. Some line) lines
unfolding lines_compute
whole_text = refl

-- the last three bytes are cut off: the last line says nothing
cut_off : map (option_map line_of) (text_items (codes "tree" ++ 10 ∷ codes "open" ++ 10 ∷ codes "e")) ≡ Some (codes "tree") ∷ Some (codes "open") ∷ None ∷ []
unfolding lines_compute
cut_off = refl

-- an empty line says nothing
empty_line : map (option_map line_of) (text_items (codes "end" ++ 10 ∷ 10 ∷ [])) ≡ Some (codes "end") ∷ None ∷ []
unfolding lines_compute
empty_line = refl

-- the place of an overflow
overflow : item_in (codes "basic overflow 1 pivot 4 5") ≡ Some (item.Basic (mark.Overflow 1 step.Pivot 4 5))
unfolding lines_compute
overflow = refl

overflow_text : item_line (item.Basic (mark.Overflow 1 step.Pivot 4 5)) ≡ ended (codes "basic overflow 1 pivot 4 5")
unfolding lines_compute
overflow_text = refl

pair : item_in (codes "pair 0 1 2 3 7") ≡ Some (item.Pair 0 1 2 (3 ∷ 7 ∷ []))
unfolding lines_compute
pair = refl

multiplier : again (codes "y link 0 2 9/5") ≡ Some (codes "y link 0 2 9/5")
unfolding lines_compute
multiplier = refl

negative : again (codes "lower -7/3") ≡ Some (codes "lower -7/3")
unfolding lines_compute
negative = refl

-- ---- what is no line

abbrev nothing : List (List ℕ)
nothing =
    codes "toll 0 16/2"
    ∷ codes "toll 0 8/1"
    ∷ codes "toll 0 0/3"
    ∷ codes "toll 0 -0"
    ∷ codes "toll 0 +8"
    ∷ codes "toll 00 8"
    ∷ codes "toll 0 08"
    ∷ codes "toll 0 8/"
    ∷ codes "toll 0 /8"
    ∷ codes "toll 0 1/2/3"
    ∷ codes "toll 0"
    ∷ codes "toll  0 8"
    ∷ codes "toll 0 8 "
    ∷ codes " toll 0 8"
    ∷ codes "toll 4294967296 8"
    ∷ codes "toll 0 170141183460469231731687303715884105728"
    ∷ codes "split 0"
    ∷ codes "free"
    ∷ codes "path 0 2 8"
    ∷ codes "pair 0 1 2 3"
    ∷ codes "width 16"
    ∷ codes "npp-certificate 3"
    ∷ codes "limit 0 +"
    ∷ codes "basic overflow 1 piv 4 5"
    ∷ codes "End"
    ∷ []
    ∷ []

none : map (λ line. option_map line_of (item_in line)) nothing ≡ map (λ line. None) nothing
unfolding lines_compute
none = refl

-- the greatest values
greatest : again (codes "path 4294967295 18446744073709551615 170141183460469231731687303715884105727 4294967295") ≡ Some (codes "path 4294967295 18446744073709551615 170141183460469231731687303715884105727 4294967295")
unfolding lines_compute
greatest = refl
