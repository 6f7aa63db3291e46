-- What a line says, judged against what the lines above it declare.
use Rattle.std.specs.Prelude.{ℕ, Bool, true, false, List, [], ◌∷◌, ◌++◌, length, Option, Some, None, is_some, Result, Ok, Err, codes, not, nat_lt, nat_le, ◌==◌, ◌&&◌, if◌then◌else◌, slice_index}
use Rattle.std.specs.Str.{bytes_eq, is_utf8}
use Rattle.std.specs.Str.Parse.{digits_value}
use Rattle.npp_net.specs.declared.types.NetArc.{NetArc}
use Rattle.npp_net.specs.declared.types.Commodity.{Commodity}
use Rattle.npp_net.specs.Network.{toll_count}
use Rattle.npp_net.specs.Refusal.{is_ceiling_too_large}
use Rattle.npp_reader.specs.declared.kind.LineKind.{LineKind}
use Rattle.npp_reader.specs.declared.kind.LineKind.TheVariants.{Utf8, Header, UnknownWord, FieldCount, BadName, BadNumber, NumberTooLarge, RepeatedNode, UnknownNode, SameEnds, ZeroDemand, TooManyNodes, TooManyArcs, TooManyTolls, TooManyCommodities}
use Rattle.npp_reader.specs.declared.link.Link.{Link}
use Rattle.npp_reader.specs.declared.format.Format.{Format}
use Rattle.npp_reader.specs.Lines.{fields_of}
use Rattle.npp_reader.specs.Format.{format_named, asks_ceiling}
use Rattle.npp_reader.specs.Fields.{is_name, is_number, is_ceiling, no_ceiling, ceiling_value}
use Rattle.npp_reader.specs.Names.{is_declared, node_of}

-- what some lines declare: the format that the header names, where it stood, and the names of the nodes, the arcs and
-- the commodities, each in order
pub record Declared : Type 0 where
  pub format : Option Format
  pub names : List (List ℕ)
  pub arcs : List NetArc
  pub commodities : List Commodity

-- what no line declares
abbrev pub nothing : Declared
nothing = record { format = None; names = []; arcs = []; commodities = [] }

-- the kind of the first row whose test holds, or the value where none does
abbrev pub judged : {X : Type 0} → List (Bool × LineKind) → X → Result X LineKind
judged [] x = Ok x
judged (row ∷ rows) x = if row.0 then Err row.1 else judged rows x

-- what follows from the value, where there is one
abbrev pub and_then : {X Y : Type 0} → Result X LineKind → (X → Result Y LineKind) → Result Y LineKind
and_then (Ok x) next = next x
and_then (Err kind) next = Err kind

-- the format stands from here on
abbrev pub with_format : Declared → Option Format → Result Declared LineKind
with_format above None = Err Header
with_format above (Some format) = Ok (record above { format = Some format })

-- the first line that is not skipped names the format
unfoldable pub after_header : Declared → List (List ℕ) → Result Declared LineKind
after_header above fields = with_format above (format_named fields)

-- what may be wrong with a node, in order
abbrev pub node_faults : Declared → List ℕ → List (Bool × LineKind)
node_faults above name =
    (not (is_name name), BadName)
    ∷ (is_declared above.names name, RepeatedNode)
    ∷ (nat_le 1000 (length above.names), TooManyNodes)
    ∷ []

-- `node` has one field behind it, a name
unfoldable pub after_node : Declared → List (List ℕ) → Result Declared LineKind
after_node above (name ∷ []) = judged (node_faults above name) (record above { names = above.names ++ name ∷ [] })
after_node above fields = Err FieldCount

-- what may be wrong with two names, a number and a ceiling, in order
abbrev pub link_faults : List (List ℕ) → List ℕ → List ℕ → List ℕ → List ℕ → List (Bool × LineKind)
link_faults names from to number ceiling =
    (not (is_name from), BadName)
    ∷ (not (is_name to), BadName)
    ∷ (not (is_number number), BadNumber)
    ∷ (not (is_ceiling ceiling), BadNumber)
    ∷ (nat_lt 1000000 (digits_value 10 number), NumberTooLarge)
    ∷ (is_ceiling_too_large (ceiling_value ceiling), NumberTooLarge)
    ∷ (not (is_declared names from), UnknownNode)
    ∷ (not (is_declared names to), UnknownNode)
    ∷ []

-- what these four fields say
abbrev pub link_said : List (List ℕ) → List ℕ → List ℕ → List ℕ → List ℕ → Link
link_said names from to number ceiling =
    record { from = node_of names from; to = node_of names to; number = digits_value 10 number; ceiling = ceiling_value ceiling }

-- `free`, `toll` and `pair` have three fields behind them: two names and a number. Where a ceiling is asked for, it
-- stands in a fourth; elsewhere there is none
unfoldable pub link_of : Bool → List (List ℕ) → List (List ℕ) → Result Link LineKind
link_of false names (from ∷ to ∷ number ∷ []) = judged (link_faults names from to number no_ceiling) (link_said names from to number no_ceiling)
link_of true names (from ∷ to ∷ number ∷ ceiling ∷ []) = judged (link_faults names from to number ceiling) (link_said names from to number ceiling)
link_of asked names fields = Err FieldCount

-- what may be wrong with an arc, in order
abbrev pub arc_faults : Declared → Bool → List (Bool × LineKind)
arc_faults above toll =
    (nat_le 5000 (length above.arcs), TooManyArcs)
    ∷ (toll && nat_le 128 (toll_count above.arcs), TooManyTolls)
    ∷ []

-- an arc from one node to another, with its cost and its ceiling
unfoldable pub after_arc : Declared → Bool → Link → Result Declared LineKind
after_arc above toll link = judged (arc_faults above toll)
    (record above { arcs = above.arcs ++ record { tail = link.from; head = link.to; cost = link.number; toll = toll; ceiling = link.ceiling } ∷ [] })

-- what may be wrong with a commodity, in order
abbrev pub pair_faults : Declared → Link → List (Bool × LineKind)
pair_faults above link =
    (link.from.0 == link.to.0, SameEnds)
    ∷ (link.number == 0, ZeroDemand)
    ∷ (nat_le 100 (length above.commodities), TooManyCommodities)
    ∷ []

-- a commodity from one node to another, with its demand
unfoldable pub after_pair : Declared → Link → Result Declared LineKind
after_pair above link = judged (pair_faults above link)
    (record above { commodities = above.commodities ++ record { origin = link.from; destination = link.to; demand = link.number } ∷ [] })

-- a line below the header, by its first field and those behind it
unfoldable pub after_word : Declared → List ℕ → List (List ℕ) → Result Declared LineKind
after_word above word fields =
    if bytes_eq word (codes "node") then after_node above fields
    else (if bytes_eq word (codes "free") then and_then (link_of false above.names fields) (after_arc above false)
    else (if bytes_eq word (codes "toll") then and_then (link_of (asks_ceiling above.format) above.names fields) (after_arc above true)
    else (if bytes_eq word (codes "pair") then and_then (link_of false above.names fields) (after_pair above)
    else Err UnknownWord)))

-- a line without fields is skipped, and so is one whose first field begins with `#`, which is 35
unfoldable pub after_fields : Declared → List (List ℕ) → Result Declared LineKind
after_fields above [] = Ok above
after_fields above (word ∷ fields) =
    if slice_index word 0 == 35 then Ok above
    else (if is_some above.format then after_word above word fields
    else after_header above (word ∷ fields))

-- what is declared once the line stands too, or the line's first kind of fault
unfoldable pub after_line : Declared → List ℕ → Result Declared LineKind
after_line above line = if is_utf8 line then after_fields above (fields_of line) else Err Utf8
