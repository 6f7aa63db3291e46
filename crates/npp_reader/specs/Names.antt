-- The names of the nodes, in the order of their numbers.
use Rattle.std.specs.Prelude.{◌≡◌, ◌≢◌, ℕ, Bool, true, List, map, All, AllPairs, String, string_bytes}
use Rattle.std.specs.List.{list_any, position_or_len}
use Rattle.std.specs.Str.{bytes_eq}
use Rattle.std.specs.declared.alloc.Global.{Global}
use Rattle.npp_net.specs.declared.types.NodeId.{NodeId}
use Rattle.npp_reader.specs.Fields.{is_name}

-- the bytes of each text
abbrev pub texts : List (String Global) → List (List ℕ)
texts names = map string_bytes names

-- names that differ
pub record AreNames (names : List (List ℕ)) : Type 0 where
  pub each : All (λ name. is_name name ≡ true) names
  pub differ : AllPairs ◌≢◌ names

-- whether there is such a name
abbrev pub is_declared : List (List ℕ) → List ℕ → Bool
is_declared names name = list_any (bytes_eq name) names

-- the node of a name: its place among the names
abbrev pub node_of : List (List ℕ) → List ℕ → NodeId
node_of names name = record { 0 = position_or_len (bytes_eq name) names }
