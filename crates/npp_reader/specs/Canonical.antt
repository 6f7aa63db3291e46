-- The canonical text of a document.
use Rattle.std.specs.Prelude.{ℕ, List, [], ◌∷◌, ◌++◌, map, Option, Some, None, is_some, codes, if◌then◌else◌, slice_index_or}
use Rattle.std.specs.List.{flat_map, join_with_byte, list_any}
use Rattle.std.specs.Fmt.{decimal}
use Rattle.npp_net.specs.declared.types.NodeId.{NodeId}
use Rattle.npp_net.specs.declared.types.NetArc.{NetArc}
use Rattle.npp_net.specs.declared.types.Commodity.{Commodity}
use Rattle.npp_reader.specs.declared.document.Document.{Document}
use Rattle.npp_reader.specs.declared.format.Format.{Format}
use Rattle.npp_reader.specs.declared.format.Format.TheVariants.{One, Two}
use Rattle.npp_reader.specs.Format.{header_fields}
use Rattle.npp_reader.specs.Fields.{no_ceiling}

-- the name of a node
abbrev pub name_of : List (List ℕ) → NodeId → List ℕ
name_of names node = slice_index_or names node.0 []

-- format 2 exactly where some arc has a ceiling
abbrev pub format_for : List NetArc → Format
format_for arcs = if list_any (λ x. is_some x.ceiling) arcs then Two else One

-- the fields of a node's line
abbrev pub node_fields : List ℕ → List (List ℕ)
node_fields name = codes "node" ∷ name ∷ []

-- the field of a ceiling
abbrev pub ceiling_field : Option ℕ → List ℕ
ceiling_field None = no_ceiling
ceiling_field (Some u) = decimal u

-- the fields of a toll arc's ceiling: one in format 2
abbrev pub ceiling_fields : Format → NetArc → List (List ℕ)
ceiling_fields One x = []
ceiling_fields Two x = ceiling_field x.ceiling ∷ []

-- the fields of an arc's line
abbrev pub arc_fields : Format → List (List ℕ) → NetArc → List (List ℕ)
arc_fields format names x =
    (if x.toll then codes "toll" else codes "free") ∷ name_of names x.tail ∷ name_of names x.head ∷ decimal x.cost
    ∷ (if x.toll then ceiling_fields format x else [])

-- the fields of a commodity's line
abbrev pub pair_fields : List (List ℕ) → Commodity → List (List ℕ)
pair_fields names k = codes "pair" ∷ name_of names k.origin ∷ name_of names k.destination ∷ decimal k.demand ∷ []

-- the header, the nodes, the arcs and the commodities, each in order
unfoldable pub canonical_lines : Document → List (List (List ℕ))
canonical_lines document = let format = format_for document.instance.arcs in
    header_fields format
    ∷ (map node_fields document.names
    ++ (map (arc_fields format document.names) document.instance.arcs
    ++ map (pair_fields document.names) document.instance.commodities))

-- the fields with one space between each two, and a line feed, which is 10
abbrev pub line_of : List (List ℕ) → List ℕ
line_of fields = join_with_byte 32 fields ++ 10 ∷ []

-- the lines one after another
unfoldable pub canonical_text : Document → List ℕ
canonical_text document = flat_map line_of (canonical_lines document)
