-- A certificate whose bytes come bit by bit: where its check stands, and what more bytes do.
use Rattle.std.specs.Prelude.{◌≡◌, ◌⊎◌, ⊤, ℕ, ◌+◌, ◌≤◌, false, List, [], ◌++◌, length, All, Some, None, Result, Ok, Err}
use Rattle.npp_frac.specs.Fits.{limit_of}
use Rattle.npp_frac.specs.Rational.{Rational}
use Rattle.npp_net.specs.Network.{Network}
use Rattle.npp_tree.specs.declared.item.Item.{Item}
use Rattle.npp_tree.specs.declared.outcome.Pair.{Pair}
use Rattle.npp_report.specs.Lines.{text_of}
use Rattle.npp_cert_text.specs.Form.{line_limit, HasLine}
use Rattle.npp_cert_text.specs.Reading.{item_in}
use Rattle.npp_cert_text.specs.Lines.{is_line_feed}
use Rattle.npp_check.specs.declared.refusal.CheckRefusal.{CheckRefusal}
use Rattle.npp_check.specs.declared.refusal.CheckRefusal.TheVariants.{Broken, Memory}
use Rattle.npp_check.specs.declared.refusal.Rule.TheVariants.{Text}
use Rattle.npp_check.specs.Checking.{Checking, HasTaken, Takes, IsRefusalOf, IsClear, verdict_with}
use Rattle.npp_check.specs.Measures.{Measures, AreMeasures}
use Rattle.npp_check.specs.Verdict.{PairValue, verdict, pair_value}
use Rattle.npp_check.specs.Yes.{Proves}
use Rattle.npp_stream.specs.declared.stream.TextCheck.{TextCheck}
use Rattle.npp_stream.specs.Refusals.{line_refusal}
use Rattle.npp_stream.specs.TextVerdicts.{IsAcceptedText, IsTextRefusal}

-- bytes of one line
abbrev pub HasNoLineFeed : List ℕ → Type 0
HasNoLineFeed bytes = All (λ b. is_line_feed b ≡ false) bytes

-- the bytes so far are the text of the items that the checker has taken, and behind it those of a line that is still open
pub record HasRead (limit : ℕ) (net : Network) (f : Measures) (bytes : List ℕ) (c : Checking) (number : ℕ) (open_line : List ℕ) : Type 0 where
  pub items : List (Item Rational)
  pub have_lines : All HasLine items
  pub split : bytes ≡ text_of items ++ open_line
  pub no_line_feed : HasNoLineFeed open_line
  pub short : length open_line ≤ line_limit
  pub next : number ≡ c.number
  pub count : c.number ≡ length items + 1
  pub instance : c.on.net ≡ net
  pub measures : AreMeasures net f
  pub unrefused : c.refused ≡ None
  pub taken : HasTaken limit c items
  pub verdict : (rest : List (Item Rational)) → verdict_with limit c rest ≡ verdict limit net f (items ++ rest)
  pub clear : IsClear limit c

-- the line says an item, which the checker takes
abbrev pub TakesLine : ℕ → Checking → List ℕ → Checking → Type 0
TakesLine limit old line new = (i : Item Rational) × (item_in line ≡ Some i) × Takes limit old i new

-- the line is refused: it says no item, or one that the checker refuses; or memory is wanting
abbrev pub RefusesLine : ℕ → Checking → ℕ → List ℕ → CheckRefusal → Type 0
RefusesLine limit c number line Memory = ⊤
RefusesLine limit c number line (Broken n rule) =
    ((item_in line ≡ None) × (n ≡ number) × (rule ≡ Text))
    ⊎ ((i : Item Rational) × (item_in line ≡ Some i) × IsRefusalOf limit c.refused c i (Broken n rule))

-- no line comes any more, and the pair is proved by the items that were taken
pub record ProvesPair (limit : ℕ) (c : Checking) (pair : PairValue) : Type 0 where
  pub verdict : verdict_with limit c [] ≡ Ok pair
  pub proves : (items : List (Item Rational)) → HasTaken limit c items → Proves c.on.net items pair

-- a check of texts has these bytes
abbrev pub HasBytes : Network → Measures → List ℕ → TextCheck → Type 0
HasBytes net f bytes t = HasRead (limit_of 128) net f bytes t.lines.checker t.lines.number t.open.items

-- whatever comes behind these bytes, the text is refused so
abbrev pub IsRefusedFrom : Network → List ℕ → CheckRefusal → Type 0
IsRefusedFrom net bytes refusal = (rest : List ℕ) → IsTextRefusal net (bytes ++ rest) (line_refusal refusal)

-- more bytes are taken, or with those before them they are refused
abbrev pub TakesBytes : TextCheck → List ℕ → TextCheck → Result (Unit {0}) CheckRefusal → Type 0
TakesBytes old more new (Ok done) = (net : Network) (f : Measures) (bytes : List ℕ) → HasBytes net f bytes old → HasBytes net f (bytes ++ more) new
TakesBytes old more new (Err refusal) = (net : Network) (f : Measures) (bytes : List ℕ) → HasBytes net f bytes old → IsRefusedFrom net (bytes ++ more) refusal

-- the text ends here: it is accepted, or refused
abbrev pub Ends : TextCheck → Result Pair CheckRefusal → Type 0
Ends t (Ok pair) = (net : Network) (f : Measures) (bytes : List ℕ) → HasBytes net f bytes t → IsAcceptedText net bytes (pair_value pair)
Ends t (Err refusal) = (net : Network) (f : Measures) (bytes : List ℕ) → HasBytes net f bytes t → IsTextRefusal net bytes (line_refusal refusal)
