-- What the measures of an instance say of one commodity.
use Rattle.std.specs.Prelude.{◌≡◌, ℕ, zero, suc, ◌<◌, List, [], ◌∷◌, length, map, option_map, true, slice_index_or, Option, None, refl}
use Rattle.std.proofs.Common.{arith, ap, sym, ◌∙◌, subst}
use Rattle.std.proofs.lemmas.List.{length-map, get_or-map, get_or_read}
use Rattle.npp_net.specs.declared.types.NetArc.{NetArc}
use Rattle.npp_net.specs.declared.types.Commodity.{Commodity}
use Rattle.npp_net.specs.declared.types.Span.{Span}
use Rattle.npp_net.specs.Network.{Network, no_commodity}
use Rattle.npp_net.specs.Distance.{IsDistance, IsSpan}
use Rattle.npp_short.specs.declared.reach.Reach.{Reach}
use Rattle.npp_short.specs.Reach.{cost_at}
use Rattle.npp_short.specs.Potentials.{AreDistances}
use Rattle.npp_bounds.specs.Spans.{AreSpans}
use Rattle.npp_cover.specs.Useful.{commodity_at}
use Rattle.npp_check.specs.Measures.{Measures, AreMeasures, AreOnward, AreAllOnward, span_of, onward_of}
use Rattle.npp_check.specs.Stages.{Case}
use Rattle.npp_check.proofs.MeasureLoop.{costs_of, cost_there}

-- ---- lists of measures

spans_at : (arcs : List NetArc) (ks : List Commodity) (ss : List Span) → AreSpans arcs ks ss → (k : ℕ) (d : Commodity) (s : Span) → k < length ks → IsSpan arcs (slice_index_or ks k d) (slice_index_or ss k s)
spans_at arcs [] ss are k d s lt = absurd (omega (arith, lt))
spans_at arcs (x ∷ ks) [] are k d s lt = absurd are
spans_at arcs (x ∷ ks) (y ∷ ss) are zero d s lt = are.0
spans_at arcs (x ∷ ks) (y ∷ ss) are (suc k) d s lt = spans_at arcs ks ss are.1 k d s (omega (arith, lt))

onward_at : (arcs : List NetArc) (nodes : ℕ) (ks : List Commodity) (os : List (List (Option ℕ))) → AreAllOnward arcs nodes ks os → (k : ℕ) (d : Commodity) → k < length ks
    → AreOnward arcs nodes (slice_index_or ks k d) (slice_index_or os k [])
onward_at arcs nodes [] os are k d lt = absurd (omega (arith, lt))
onward_at arcs nodes (x ∷ ks) [] are k d lt = absurd are
onward_at arcs nodes (x ∷ ks) (y ∷ os) are zero d lt = are.0
onward_at arcs nodes (x ∷ ks) (y ∷ os) are (suc k) d lt = onward_at arcs nodes ks os are.1 k d (omega (arith, lt))

pub spans_size : (arcs : List NetArc) (ks : List Commodity) (ss : List Span) → AreSpans arcs ks ss → length ss ≡ length ks
spans_size arcs [] [] are = refl
spans_size arcs [] (y ∷ ss) are = absurd are
spans_size arcs (x ∷ ks) [] are = absurd are
spans_size arcs (x ∷ ks) (y ∷ ss) are = omega (arith, spans_size arcs ks ss are.1)

pub onward_size : (arcs : List NetArc) (nodes : ℕ) (ks : List Commodity) (os : List (List (Option ℕ))) → AreAllOnward arcs nodes ks os → length os ≡ length ks
onward_size arcs nodes [] [] are = refl
onward_size arcs nodes [] (y ∷ os) are = absurd are
onward_size arcs nodes (x ∷ ks) [] are = absurd are
onward_size arcs nodes (x ∷ ks) (y ∷ os) are = omega (arith, onward_size arcs nodes ks os are.1)

-- ---- one commodity

module _ (net : Network) (f : Measures) (measures : AreMeasures net f) (k : ℕ) (lt : k < length net.commodities) where
  pub span_is : IsSpan net.arcs (commodity_at net k) (span_of f k)
  span_is = spans_at net.arcs net.commodities f.spans measures.spans k no_commodity _ lt

  pub onward_here : AreOnward net.arcs net.nodes (commodity_at net k) (slice_index_or f.onward k [])
  onward_here = onward_at net.arcs net.nodes net.commodities f.onward measures.onward k no_commodity lt

  pub distances_are : (v : ℕ) → v < net.nodes → IsDistance net.arcs true v (commodity_at net k).destination.0 (onward_of f k v)
  distances_are = onward_here.each

-- a table whose costs are the least ones
pub table_is : (arcs : List NetArc) (nodes : ℕ) (k : Commodity) (table : List (Option Reach)) → AreOnward arcs nodes k (costs_of table) → AreDistances arcs true nodes k.destination.0 table
table_is arcs nodes k table h = record {
  size = sym (length-map table (option_map (λ (r : Reach). r.cost))) ∙ h.size;
  each = λ v lt. subst (IsDistance arcs true v k.destination.0) (cost_there table v) (h.each v lt);
}

-- the costs of the table of a commodity are those of the measures
pub costs_here : (f : Measures) (tables : List (List (Option Reach))) → f.onward ≡ map costs_of tables → (k : ℕ) (table : List (Option Reach)) → k < length tables → table ≡ slice_index_or tables k table
    → costs_of table ≡ slice_index_or f.onward k []
costs_here f tables e k table lt is =
    ap costs_of is ∙ sym (get_or-map costs_of tables k table [] lt) ∙ ap (λ os. slice_index_or os k []) (sym e)

pub costs_same : (f : Measures) (k : ℕ) (table : List (Option Reach)) → costs_of table ≡ slice_index_or f.onward k [] → cost_at table ≡ onward_of f k
costs_same f k table e = λ i v. (sym (cost_there table v) ∙ ap (λ os. slice_index_or os v None) e) i

-- ---- as the code holds them: the value of an instance with its measures, and what it holds

module _ (held on : Case) (same : held ≡ on) (measures : AreMeasures held.net held.measures) (k : ℕ) (lt : k < length on.net.commodities) where
  inside : k < length held.net.commodities
  inside = subst (λ (c : Case). k < length c.net.commodities) (sym same) lt

  measures_there : AreMeasures on.net on.measures
  measures_there = subst (λ (c : Case). AreMeasures c.net c.measures) same measures

  pub span_within : k < length held.measures.spans
  span_within = omega (arith, inside, spans_size held.net.arcs held.net.commodities held.measures.spans measures.spans)

  pub span_held : (s : Span) → s ≡ slice_index_or held.measures.spans k s → s ≡ span_of on.measures k
  span_held s is = get_or_read held.measures.spans k s span_within is (record { free = 0; zero = 0 }) ∙ ap (λ (c : Case). span_of c.measures k) same

  pub span_held_is : (s : Span) → s ≡ slice_index_or held.measures.spans k s → IsSpan on.net.arcs (commodity_at on.net k) s
  span_held_is s is = subst (IsSpan on.net.arcs (commodity_at on.net k)) (sym (span_held s is)) (span_is on.net on.measures measures_there k lt)

  module _ (tables : List (List (Option Reach))) (are : held.measures.onward ≡ map costs_of tables) where
    pub table_within : k < length tables
    table_within =
        let size : length held.measures.onward ≡ length held.net.commodities = onward_size held.net.arcs held.net.nodes held.net.commodities held.measures.onward measures.onward in
        let long : length held.measures.onward ≡ length tables = ap length are ∙ length-map tables costs_of in
        omega (arith, inside, size, long)

    costs_held : (table : List (Option Reach)) → table ≡ slice_index_or tables k table → costs_of table ≡ slice_index_or on.measures.onward k []
    costs_held table is = costs_here held.measures tables are k table table_within is ∙ ap (λ (c : Case). slice_index_or c.measures.onward k []) same

    pub table_held_is : (table : List (Option Reach)) → table ≡ slice_index_or tables k table → AreDistances on.net.arcs true on.net.nodes (commodity_at on.net k).destination.0 table
    table_held_is table is =
        table_is on.net.arcs on.net.nodes (commodity_at on.net k) table
        (subst (AreOnward on.net.arcs on.net.nodes (commodity_at on.net k)) (sym (costs_held table is)) (onward_here on.net on.measures measures_there k lt))

    pub table_held : (table : List (Option Reach)) → table ≡ slice_index_or tables k table → cost_at table ≡ onward_of on.measures k
    table_held table is = costs_same on.measures k table (costs_held table is)
