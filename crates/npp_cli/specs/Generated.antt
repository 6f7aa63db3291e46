-- The generated instance of a number: a main road of toll arcs, a side road of toll-free arcs, and ramps between them.
use Rattle.std.specs.Prelude.{ℕ, ◌+◌, ◌*◌, ◌%◌, List, [], ◌∷◌, ◌++◌, flat_map, map, true, false, None, codes}
use Rattle.std.specs.List.{range_with_len}
use Rattle.std.specs.Fmt.{decimal}
use Rattle.npp_net.specs.declared.types.NodeId.{NodeId}
use Rattle.npp_net.specs.declared.types.NetArc.{NetArc}
use Rattle.npp_net.specs.declared.types.Commodity.{Commodity}
use Rattle.npp_reader.specs.declared.document.Document.{Document}

-- a number below m, which s and i decide
abbrev pub spread : ℕ → ℕ → ℕ → ℕ
spread s i m = (7 * s + 11 * i + (i * i) % 17) % m

-- the nodes of the main road and those of the side road, 13 each
abbrev pub main_node : ℕ → NodeId
main_node i = record { 0 = i }

abbrev pub side_node : ℕ → NodeId
side_node i = record { 0 = 13 + i }

-- the numbers from 0 on, n of them
abbrev pub first_numbers : ℕ → List ℕ
first_numbers n = range_with_len 0 n

-- m0 to m12, then t0 to t12
abbrev pub generated_names : List (List ℕ)
generated_names = map (λ i. codes "m" ++ decimal i) (first_numbers 13) ++ map (λ i. codes "t" ++ decimal i) (first_numbers 13)

-- a toll arc along the main road, without a ceiling
abbrev pub main_arc : ℕ → ℕ → NetArc
main_arc s i = record { tail = main_node i; head = main_node (i + 1); cost = 3 + spread s i 3; toll = true; ceiling = None }

-- toll-free arcs there and back
abbrev pub both_ways : NodeId → NodeId → ℕ → List NetArc
both_ways from to cost =
    record { tail = from; head = to; cost = cost; toll = false; ceiling = None }
    ∷ record { tail = to; head = from; cost = cost; toll = false; ceiling = None }
    ∷ []

-- the arcs along the side road
abbrev pub side_arcs : ℕ → ℕ → List NetArc
side_arcs s i = both_ways (side_node i) (side_node (i + 1)) (11 + spread s (i + 100) 4)

-- the arcs between the roads
abbrev pub ramp_arcs : ℕ → List NetArc
ramp_arcs i = both_ways (side_node i) (main_node i) 5

-- a commodity along the side road
abbrev pub side_pair : ℕ → ℕ → Commodity
side_pair s j = record {
  origin = side_node (spread s (j + 200) 7);
  destination = side_node (spread s (j + 200) 7 + 3 + spread s (j + 300) 4);
  demand = 1 + spread s (j + 400) 20;
}

abbrev pub generated_arcs : ℕ → List NetArc
generated_arcs s =
    map (main_arc s) (first_numbers 12)
    ++ flat_map (side_arcs s) (first_numbers 12)
    ++ flat_map ramp_arcs (0 ∷ 3 ∷ 6 ∷ 9 ∷ 12 ∷ [])

abbrev pub generated_pairs : ℕ → List Commodity
generated_pairs s = map (side_pair s) (first_numbers 10)

-- the instance of the number s
abbrev pub generated : ℕ → Document
generated s = record {
  names = generated_names;
  instance = record { nodes = 26; arcs = generated_arcs s; commodities = generated_pairs s };
}
