-- What `paths` prints.
use Rattle.std.specs.Prelude.{ℕ, List, ◌∷◌, ◌++◌, length, codes}
use Rattle.std.specs.Fmt.{decimal}
use Rattle.npp_net.specs.TollSets.{tolls_of}
use Rattle.npp_cover.specs.Paths.{PathValue}
use Rattle.npp_cover.specs.Replaces.{CoverValue}
use Rattle.npp_report.specs.Lines.{line, arc_fields, number_fields, numbered_lines}

-- the line of useful path q of commodity k: its cost, its tolls and the arcs of its walk
abbrev pub useful_line : ℕ → ℕ → PathValue → List ℕ
useful_line k q path =
    line (codes "useful " ++ decimal k ++ 32 ∷ decimal q ++ 32 ∷ decimal path.cost
    ++ codes " tolls" ++ number_fields (tolls_of path.tolls) ++ codes " arcs" ++ arc_fields path.arcs)

-- the lines of commodity k: how many useful paths it has, and each of them
abbrev pub commodity_lines : ℕ → CoverValue → List ℕ
commodity_lines k cover =
    line (codes "commodity " ++ decimal k ++ 32 ∷ decimal (length cover.paths)) ++ numbered_lines (useful_line k) 0 cover.paths

-- the lines of all commodities, in order
abbrev pub paths_text : List CoverValue → List ℕ
paths_text covers = numbered_lines commodity_lines 0 covers
