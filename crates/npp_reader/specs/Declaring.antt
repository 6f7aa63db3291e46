-- What the lines of a text declare, each line by itself.
use Rattle.std.specs.Prelude.{◌≡◌, ℕ, true, List, [], ◌∷◌, map, Option, Some, None, codes, ◌||◌, if◌then◌else◌}
use Rattle.std.specs.List.{filter_map}
use Rattle.std.specs.Str.{bytes_eq}
use Rattle.std.specs.Str.Parse.{digits_value}
use Rattle.npp_net.specs.declared.types.NetArc.{NetArc}
use Rattle.npp_net.specs.declared.types.Commodity.{Commodity}
use Rattle.npp_reader.specs.declared.document.Document.{Document}
use Rattle.npp_reader.specs.Lines.{lines_of, fields_of}
use Rattle.npp_reader.specs.Names.{node_of}
use Rattle.npp_reader.specs.Fields.{ceiling_value}

-- the name of a `node` line
abbrev pub name_declared : List (List ℕ) → Option (List ℕ)
name_declared (word ∷ name ∷ []) = if bytes_eq word (codes "node") then Some name else None
name_declared fields = None

-- the arc of a `free` or `toll` line, its ends by the places of their names; a fourth field behind `toll` is its ceiling
abbrev pub arc_declared : List (List ℕ) → List (List ℕ) → Option NetArc
arc_declared names (word ∷ tail ∷ head ∷ cost ∷ []) =
    if bytes_eq word (codes "free") || bytes_eq word (codes "toll")
    then Some (record { tail = node_of names tail; head = node_of names head; cost = digits_value 10 cost; toll = bytes_eq word (codes "toll"); ceiling = None })
    else None
arc_declared names (word ∷ tail ∷ head ∷ cost ∷ ceiling ∷ []) =
    if bytes_eq word (codes "toll")
    then Some (record { tail = node_of names tail; head = node_of names head; cost = digits_value 10 cost; toll = true; ceiling = ceiling_value ceiling })
    else None
arc_declared names fields = None

-- the commodity of a `pair` line, its ends by the places of their names
abbrev pub pair_declared : List (List ℕ) → List (List ℕ) → Option Commodity
pair_declared names (word ∷ origin ∷ destination ∷ demand ∷ []) =
    if bytes_eq word (codes "pair")
    then Some (record { origin = node_of names origin; destination = node_of names destination; demand = digits_value 10 demand })
    else None
pair_declared names fields = None

-- the names, the arcs and the commodities are those of the lines, each in order
pub record AreDeclared (lines : List (List (List ℕ))) (document : Document) : Type 0 where
  pub names : document.names ≡ filter_map name_declared lines
  pub arcs : document.instance.arcs ≡ filter_map (arc_declared document.names) lines
  pub commodities : document.instance.commodities ≡ filter_map (pair_declared document.names) lines

-- the document is what the lines of the bytes declare, in order
abbrev pub Declares : List ℕ → Document → Type 0
Declares bytes document = AreDeclared (map fields_of (lines_of bytes)) document
