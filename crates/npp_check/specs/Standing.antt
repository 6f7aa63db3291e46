-- What is known of the lists that a checker holds between two lines.
use Rattle.std.specs.Prelude.{◌≡◌, ℕ, ◌+◌, ◌<◌, ◌≤◌, ◌^◌, true, List, length, slice_index_or, All}
use Rattle.npp_frac.specs.Rational.{Rational}
use Rattle.npp_net.specs.Network.{Network, toll_count}
use Rattle.npp_cover.specs.Useful.{commodity_at}
use Rattle.npp_cover.specs.Growing.{Growing, IsGrowing}
use Rattle.npp_cover.specs.Replaces.{CoverValue}
use Rattle.npp_rows.specs.declared.names.Multiplier.{Multiplier}
use Rattle.npp_rows.specs.PathModel.{no_cover}
use Rattle.npp_rows.specs.Parts.{IsAllowed}
use Rattle.npp_rows.specs.Named.{NamedProgram}
use Rattle.npp_rows.specs.RowOrder.{are_rows, are_in_order, are_positive}
use Rattle.npp_rows.specs.Caps.{path_model}
use Rattle.npp_rows.specs.Limits.{path_total}
use Rattle.npp_rows.specs.Lowering.{IsClosedCover, AreClosedCovers}
use Rattle.npp_rows.specs.Cuts.{Cut, IsCut}
use Rattle.npp_tree.specs.declared.outcome.PathLine.{PathLine}
use Rattle.npp_check.specs.Measures.{Measures, span_of}
use Rattle.npp_check.specs.NodeLines.{Place}

-- a toll for each toll arc, and for each commodity a walk of a cost that can be taken into a sum
pub record ArePrinted (net : Network) (tolls : List Rational) (paths : List (PathLine Rational)) : Type 0 where
  pub each_toll : length tolls ≡ toll_count net.arcs
  pub each_walk : length paths ≡ length net.commodities
  pub costs : All (λ p. p.cost < 2 ^ 63) paths

-- closed covers of the first commodities
abbrev pub AreClosedSoFar : Network → List CoverValue → Type 0
AreClosedSoFar net covers = (k : ℕ) → k < length covers → IsClosedCover net.arcs (commodity_at net k) (slice_index_or covers k no_cover)

-- of all but so many, with at most 2,000 paths
pub record AreCoversBut (net : Network) (left : ℕ) (covers : List CoverValue) : Type 0 where
  pub count : length covers + left ≡ length net.commodities
  pub closed : AreClosedSoFar net covers
  pub few : path_total covers ≤ 2000

-- a draft of commodity k, with room for so many more labels
pub record IsDraftFor (net : Network) (f : Measures) (k left : ℕ) (g : Growing) : Type 0 where
  pub draft : IsGrowing net g
  pub commodity : g.commodity ≡ k
  pub span : g.span ≡ span_of f k
  pub room : length g.labels + left ≤ 65536

-- closed covers of all commodities with at most 2,000 paths, and cuts over these paths, with room for so many more
pub record AreCutsBut (net : Network) (covers : List CoverValue) (left : ℕ) (cuts : List Cut) : Type 0 where
  pub closed : AreClosedCovers net covers
  pub few : path_total covers ≤ 2000
  pub good : All (IsCut (path_model net covers)) cuts
  pub room : length cuts + left ≤ 1000

-- so for a tree, with the places of its nodes to come
pub record IsTreeUnderWay (net : Network) (covers : List CoverValue) (cuts : List Cut) (places : List Place) : Type 0 where
  pub known : AreCutsBut net covers 0 cuts
  pub allowed : All (λ p. IsAllowed (path_model net covers) p.parts) places

-- multipliers above 0 of rows of a program, in the order of the rows
pub record AreOfRows (p : NamedProgram) (ys : List (Multiplier Rational)) : Type 0 where
  pub rows : are_rows p.rows ys ≡ true
  pub rising : are_in_order ys ≡ true
  pub positive : are_positive ys ≡ true
