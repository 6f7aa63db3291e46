-- What the calls of a growing draft owe to the lines of a cover.
use Rattle.std.specs.Prelude.{◌≡◌, ◌⊎◌, ℕ, suc, ◌+◌, ◌-◌, ◌<◌, ◌≤◌, Bool, true, false, nat_lt, List, [], ◌∷◌, ◌++◌, length, Option, Some, None, Ok, Err}
use Rattle.std.proofs.Common.{arith, ap, sym, ◌∙◌, subst}
use Rattle.std.proofs.lemmas.Bool.Decides.{nat_tests}
use Rattle.std.proofs.lemmas.List.{length-append}
use Rattle.npp_frac.specs.Rational.{Rational}
use Rattle.npp_net.specs.declared.types.ArcId.{ArcId}
use Rattle.npp_net.specs.declared.types.Span.{Span}
use Rattle.npp_net.specs.Network.{Network}
use Rattle.npp_short.specs.declared.reach.Reach.{Reach}
use Rattle.npp_short.specs.Potentials.{AreDistances}
use Rattle.npp_cover.specs.declared.fault.CoverFault.{CoverFault}
use Rattle.npp_cover.specs.declared.fault.CoverFault.TheVariants as fault
use Rattle.npp_cover.specs.declared.label.Label.{Label}
use Rattle.npp_cover.specs.declared.label.StepDraft.{StepDraft}
use Rattle.npp_cover.specs.Useful.{commodity_at}
use Rattle.npp_cover.specs.Growing.{Growing, IsGrowing}
use Rattle.npp_cover.specs.Labels.{start_label, step_label}
use Rattle.npp_cover.specs.Fault.{start_fault, step_fault, next_fault, closing_fault}
use Rattle.npp_cover.specs.Paths.{ArePathsOf}
use Rattle.npp_cover.specs.Replaces.{CoverValue, IsCoverOf}
use Rattle.npp_rows.specs.Limits.{path_total}
use Rattle.npp_tree.specs.declared.item.Item.TheVariants as item
use Rattle.npp_tree.specs.declared.outcome.PathLine.{PathLine}
use Rattle.npp_check.specs.declared.refusal.Rule.TheVariants as rule
use Rattle.npp_check.specs.declared.stop.Stop.TheVariants as stop
use Rattle.npp_check.specs.EndLine.{Head}
use Rattle.npp_check.specs.Measures.{AreMeasures, span_of, onward_of}
use Rattle.npp_check.specs.Rules.{broken_if}
use Rattle.npp_check.specs.CoverLines.{unless_fault, label_line, free_line, cover_of}
use Rattle.npp_check.specs.Stages.{Case, AtCovers, AtLabels}
use Rattle.npp_check.specs.Standing.{ArePrinted, AreCoversBut}
use Rattle.npp_check.specs.Stops.{stop_of_fault}
use Rattle.npp_check.specs.Steps.{Steps, AreLabelsBut}
use Rattle.npp_check.proofs.CoverStepLemmas.{label_goes, label_breaks, free_goes, free_breaks, fault_stops, start_judged, step_judged, free_judged, room_for, covers_more}
use Rattle.npp_check.proofs.MeasureReads.{span_is}
use Rattle.npp_check.proofs.RankOrder.{one_cover_of}

-- ---- a cover begins

pub labels_begin : (c : Case) (tolls : List Rational) (paths : List (PathLine Rational)) (above : List CoverValue) (count : ℕ) (draft : Growing)
    → ArePrinted c.net tolls paths × AreCoversBut c.net (length c.net.commodities - length above) above → length above < length c.net.commodities → count ≤ 65536
    → (k : ℕ) → k ≡ length above → (span : Span) → span ≡ span_of c.measures k → draft ≡ record { commodity = k; span = span; labels = [] } → IsGrowing c.net draft
    → AreLabelsBut c tolls paths (length c.net.commodities - (length above + 1)) above count draft
labels_begin c tolls paths above count draft is lt few k number span measured new growing = record {
  printed = is.0;
  covers = record { count = omega (arith, lt); closed = is.1.closed; few = is.1.few };
  growing = record {
    draft = growing;
    commodity = ap (λ (g : Growing). g.commodity) new ∙ number;
    span = ap (λ (g : Growing). g.span) new ∙ measured ∙ ap (λ (n : ℕ). span_of c.measures n) number;
    room = (let none : length draft.labels ≡ 0 = ap (λ (g : Growing). length g.labels) new in omega (arith, none, few));
  };
}

-- the code knows the network and the number of the commodity by other names
module _ (c : Case) (tolls : List Rational) (paths : List (PathLine Rational)) (left : ℕ) (above : List CoverValue) (count : ℕ) (g : Growing)
    (is : AreLabelsBut c tolls paths left above count g) (net : Network) (same : net ≡ c.net) (k : ℕ) (number : k ≡ length above) where
  pub draft_good : IsGrowing net g
  draft_good = subst (λ (n : Network). IsGrowing n g) (sym same) is.growing.draft

  pub number_good : k < length c.net.commodities
  number_good = omega (arith, is.covers.count, number)

  pub table_good : (table : List (Option Reach)) → AreDistances c.net.arcs true c.net.nodes (commodity_at c.net k).destination.0 table
      → AreDistances net.arcs true net.nodes (commodity_at net g.commodity).destination.0 table
  table_good table h =
      subst (λ (n : Network). AreDistances n.arcs true n.nodes (commodity_at n g.commodity).destination.0 table) (sym same)
      (subst (λ (i : ℕ). AreDistances c.net.arcs true c.net.nodes (commodity_at c.net i).destination.0 table) (number ∙ sym is.growing.commodity) h)

-- and its least costs
module _ (limit : ℕ) (c : Case) (head : Head) (tolls : List Rational) (paths : List (PathLine Rational)) (left : ℕ) (above : List CoverValue) (count : ℕ) (g : Growing)
    (is : AreLabelsBut c tolls paths left above count g) (net : Network) (same : net ≡ c.net) (k : ℕ) (number : k ≡ length above)
    (onward : ℕ → Option ℕ) (costs_of_k : onward ≡ onward_of c.measures k) where
  costs : onward ≡ onward_of c.measures (length above)
  costs = costs_of_k ∙ ap (λ (n : ℕ). onward_of c.measures n) number

  -- the draft with one label more
  labels_more : (rest : ℕ) → count ≡ suc rest → (l : Label) (new : Growing) → new ≡ record g { labels = g.labels ++ l ∷ [] } → IsGrowing net new
      → AreLabelsBut c tolls paths left above rest new
  labels_more rest some l new made growing = record {
    printed = is.printed;
    covers = is.covers;
    growing = record {
      draft = subst (λ (n : Network). IsGrowing n new) same growing;
      commodity = ap (λ (x : Growing). x.commodity) made ∙ is.growing.commodity;
      span = ap (λ (x : Growing). x.span) made ∙ is.growing.span;
      room = (let long : length new.labels ≡ length (g.labels ++ l ∷ []) = ap (λ (x : Growing). length x.labels) made in
          omega (arith, is.growing.room, some, long, length-append g.labels (l ∷ [])));
    };
  }

  -- ---- the start

  start_same : start_fault onward g.span.free (commodity_at net g.commodity).origin ≡ start_fault (onward_of c.measures (length above)) (span_of c.measures (length above)).free (commodity_at c.net (length above)).origin
  start_same = λ i. start_fault (costs i) (is.growing.span i).free (commodity_at (same i) (is.growing.commodity i)).origin

  pub start_takes : (rest : ℕ) → count ≡ suc rest → g.labels ≡ [] → (new : Growing) → start_fault onward g.span.free (commodity_at net g.commodity).origin ≡ None
      → new ≡ record g { labels = start_label (commodity_at net g.commodity).origin ∷ [] } → IsGrowing net new
      → Steps limit c (AtLabels head tolls paths left above count g) item.Start (Ok (AtLabels head tolls paths left above rest new))
  start_takes rest some none new free made growing =
      let l : Label = start_label (commodity_at c.net (length above)).origin in
      let put : new ≡ record g { labels = g.labels ++ start_label (commodity_at c.net (length above)).origin ∷ [] } =
      made ∙ (λ i. record g { labels = sym none i ++ start_label (commodity_at (same i) (is.growing.commodity i)).origin ∷ [] }) in
      let judged = start_judged c.net c.measures (length above) g.labels none
      ∙ ap (λ o. unless_fault o (Ok (start_label (commodity_at c.net (length above)).origin))) (sym start_same ∙ free) in (
        label_goes limit c head tolls paths left above count rest g item.Start some l new judged (ap (λ (x : Growing). x.labels) put),
        labels_more rest some l new put growing,
      )

  pub start_stops : (rest : ℕ) → count ≡ suc rest → g.labels ≡ [] → (e : CoverFault)
      → (e ≡ fault.Memory) ⊎ (start_fault onward g.span.free (commodity_at net g.commodity).origin ≡ Some e)
      → Steps limit c (AtLabels head tolls paths left above count g) item.Start (Err (stop_of_fault e))
  start_stops rest some none e cause =
      fault_stops limit c (AtLabels head tolls paths left above count g) item.Start e
      (start_fault onward g.span.free (commodity_at net g.commodity).origin)
      (Ok (start_label (commodity_at c.net (length above)).origin)) (label_line c.net c.measures (length above) g.labels item.Start) cause
      (start_judged c.net c.measures (length above) g.labels none ∙ ap (λ o. unless_fault o (Ok (start_label (commodity_at c.net (length above)).origin))) (sym start_same))
      (label_breaks limit c head tolls paths left above count rest g item.Start some)

  -- ---- a later label

  module _ (s : StepDraft) where
    step_same : (rest : ℕ) → count ≡ suc rest → next_fault net.arcs onward g.span.free g.labels s
        ≡ step_fault c.net.arcs (onward_of c.measures (length above)) (span_of c.measures (length above)).free g.labels s
    step_same rest some =
        (λ i. next_fault (same i).arcs (costs i) (is.growing.span i).free g.labels s)
        ∙ room_for c.net c.measures (length above) g.labels s (omega (arith, is.growing.room, some))

    pub next_takes : (rest : ℕ) → count ≡ suc rest → 0 < length g.labels → (new : Growing) → next_fault net.arcs onward g.span.free g.labels s ≡ None
        → new ≡ record g { labels = g.labels ++ step_label net.arcs g.labels s ∷ [] } → IsGrowing net new
        → Steps limit c (AtLabels head tolls paths left above count g) (item.Step s.parent s.arc) (Ok (AtLabels head tolls paths left above rest new))
    next_takes rest some later new free made growing =
        let put : new ≡ record g { labels = g.labels ++ step_label c.net.arcs g.labels s ∷ [] } = made ∙ (λ i. record g { labels = g.labels ++ step_label (same i).arcs g.labels s ∷ [] }) in
        let judged = step_judged c.net c.measures (length above) g.labels s later
        ∙ ap (λ o. unless_fault o (Ok (step_label c.net.arcs g.labels s))) (sym (step_same rest some) ∙ free) in (
          label_goes limit c head tolls paths left above count rest g (item.Step s.parent s.arc) some (step_label c.net.arcs g.labels s) new judged (ap (λ (x : Growing). x.labels) put),
          labels_more rest some (step_label c.net.arcs g.labels s) new put growing,
        )

    pub next_stops : (rest : ℕ) → count ≡ suc rest → 0 < length g.labels → (e : CoverFault)
        → (e ≡ fault.Memory) ⊎ (next_fault net.arcs onward g.span.free g.labels s ≡ Some e)
        → Steps limit c (AtLabels head tolls paths left above count g) (item.Step s.parent s.arc) (Err (stop_of_fault e))
    next_stops rest some later e cause =
        fault_stops limit c (AtLabels head tolls paths left above count g) (item.Step s.parent s.arc) e
        (next_fault net.arcs onward g.span.free g.labels s)
        (Ok (step_label c.net.arcs g.labels s)) (label_line c.net c.measures (length above) g.labels (item.Step s.parent s.arc)) cause
        (step_judged c.net c.measures (length above) g.labels s later ∙ ap (λ o. unless_fault o (Ok (step_label c.net.arcs g.labels s))) (sym (step_same rest some)))
        (label_breaks limit c head tolls paths left above count rest g (item.Step s.parent s.arc) some)

  -- ---- the toll-free walk

  module _ (none : count ≡ 0) (walk : List ArcId) where
    closing_same : closing_fault net.arcs onward (commodity_at net g.commodity) g.span g.labels walk
        ≡ closing_fault c.net.arcs (onward_of c.measures (length above)) (commodity_at c.net (length above)) (span_of c.measures (length above)) g.labels walk
    closing_same = λ i. closing_fault (same i).arcs (costs i) (commodity_at (same i) (is.growing.commodity i)) (is.growing.span i) g.labels walk

    pub free_stops : (e : CoverFault) → (e ≡ fault.Memory) ⊎ (closing_fault net.arcs onward (commodity_at net g.commodity) g.span g.labels walk ≡ Some e)
        → Steps limit c (AtLabels head tolls paths left above count g) (item.Free walk) (Err (stop_of_fault e))
    free_stops e cause =
        fault_stops limit c (AtLabels head tolls paths left above count g) (item.Free walk) e
        (closing_fault net.arcs onward (commodity_at net g.commodity) g.span g.labels walk)
        (broken_if (nat_lt 2000 (path_total above + length (cover_of (commodity_at c.net (length above)) (span_of c.measures (length above)).free g.labels walk).paths)) rule.TooManyPaths
        (Ok (cover_of (commodity_at c.net (length above)) (span_of c.measures (length above)).free g.labels walk)))
        (free_line c.net c.measures above g.labels (item.Free walk)) cause
        (ap (λ o. unless_fault o (broken_if (nat_lt 2000 (path_total above + length (cover_of (commodity_at c.net (length above)) (span_of c.measures (length above)).free g.labels walk).paths)) rule.TooManyPaths
        (Ok (cover_of (commodity_at c.net (length above)) (span_of c.measures (length above)).free g.labels walk)))) (sym closing_same))
        (free_breaks limit c head tolls paths left above count g (item.Free walk) none)

    module _ (cover : CoverValue) (closed : closing_fault net.arcs onward (commodity_at net g.commodity) g.span g.labels walk ≡ None) (labels : cover.labels ≡ g.labels)
        (made_there : ArePathsOf g.labels (commodity_at net g.commodity).destination.0 g.span.free walk cover.paths) (good_there : IsCoverOf net.arcs (commodity_at net g.commodity) g.span cover) where
      made : ArePathsOf g.labels (commodity_at c.net g.commodity).destination.0 g.span.free walk cover.paths
      made = subst (λ (n : Network). ArePathsOf g.labels (commodity_at n g.commodity).destination.0 g.span.free walk cover.paths) same made_there

      good : IsCoverOf c.net.arcs (commodity_at c.net g.commodity) g.span cover
      good = subst (λ (n : Network). IsCoverOf n.arcs (commodity_at n g.commodity) g.span cover) same good_there

      cover_is : cover ≡ cover_of (commodity_at c.net (length above)) (span_of c.measures (length above)).free g.labels walk
      cover_is =
          one_cover_of (commodity_at c.net (length above)) (span_of c.measures (length above)).free g.labels walk cover labels
          (subst (λ (n : ℕ). ArePathsOf g.labels (commodity_at c.net n).destination.0 (span_of c.measures (length above)).free walk cover.paths) is.growing.commodity
          (subst (λ (s : Span). ArePathsOf g.labels (commodity_at c.net g.commodity).destination.0 s.free walk cover.paths) is.growing.span made))
          (good.free ∙ ap (λ (s : Span). s.free) is.growing.span)

      judged_by : (test : Bool) → test ≡ nat_lt 2000 (path_total above + length cover.paths)
          → free_line c.net c.measures above g.labels (item.Free walk) ≡ broken_if test rule.TooManyPaths (Ok (cover_of (commodity_at c.net (length above)) (span_of c.measures (length above)).free g.labels walk))
      judged_by test e =
          free_judged c.net c.measures above g.labels walk test (sym closing_same ∙ closed)
          (e ∙ ap (λ (x : CoverValue). nat_lt 2000 (path_total above + length x.paths)) cover_is)

      pub too_many : 2000 < path_total above + length cover.paths → Steps limit c (AtLabels head tolls paths left above count g) (item.Free walk) (Err (stop.Broken rule.TooManyPaths))
      too_many many =
          let test : true ≡ nat_lt 2000 (path_total above + length cover.paths) = grind (arith, nat_tests) in
          free_breaks limit c head tolls paths left above count g (item.Free walk) none rule.TooManyPaths (judged_by true test)

      pub free_takes : path_total above + length cover.paths ≤ 2000 → (left' : ℕ) (covers : List CoverValue) → covers ≡ above ++ cover ∷ [] → left' ≡ left
          → AreMeasures c.net c.measures → Steps limit c (AtLabels head tolls paths left above count g) (item.Free walk) (Ok (AtCovers head tolls paths left' covers))
      free_takes few left' covers put same measures =
          let test : false ≡ nat_lt 2000 (path_total above + length cover.paths) = grind (arith, nat_tests) in
          let inside : length above < length c.net.commodities = omega (arith, is.covers.count) in (
            free_goes limit c head tolls paths left above count g (item.Free walk) none cover left' covers (judged_by false test ∙ ap Ok (sym cover_is)) put same,
            (
              is.printed,
              covers_more c.net (left + 1) left' above covers cover is.covers (
                span_of c.measures (length above),
                span_is c.net c.measures measures (length above) inside,
                subst (λ (n : ℕ). IsCoverOf c.net.arcs (commodity_at c.net n) (span_of c.measures (length above)) cover) is.growing.commodity
                    (subst (λ (s : Span). IsCoverOf c.net.arcs (commodity_at c.net g.commodity) s cover) is.growing.span good),
              )
                  few (omega (arith, same)) put,
            ),
          )
