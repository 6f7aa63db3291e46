-- The lines of the covers at their stages.
use Rattle.std.specs.Prelude.{◌≡◌, ◌⊎◌, ℕ, suc, ◌+◌, ◌-◌, ◌<◌, ◌≤◌, Bool, true, nat_lt, ◌^◌, List, [], ◌∷◌, ◌++◌, length, map, All, Option, Some, None, Result, Ok, Err, refl}
use Rattle.std.proofs.Common.{arith, ap, sym, ◌∙◌, subst, inl, inr}
use Rattle.std.proofs.lemmas.Bool.Decides.{nat_tests}
use Rattle.std.proofs.lemmas.List.{length-append, length-map}
use Rattle.std.proofs.lemmas.List.Sums.{sum_by-append}
use Rattle.std.proofs.lemmas.List.Elements.{All-nil}
use Rattle.std.proofs.lemmas.Bool.{ltb-false}
use Rattle.npp_frac.specs.Rational.{Rational}
use Rattle.npp_net.specs.declared.types.ArcId.{ArcId}
use Rattle.npp_net.specs.Network.{Network, toll_count}
use Rattle.npp_cover.specs.declared.fault.CoverFault.{CoverFault}
use Rattle.npp_cover.specs.declared.fault.CoverFault.TheVariants as fault
use Rattle.npp_cover.specs.declared.label.Label.{Label}
use Rattle.npp_cover.specs.declared.label.StepDraft.{StepDraft}
use Rattle.npp_cover.specs.Useful.{commodity_at}
use Rattle.npp_cover.specs.Growing.{Growing}
use Rattle.npp_cover.specs.Labels.{start_label, step_label}
use Rattle.npp_cover.specs.Fault.{start_fault, step_fault, next_fault, closing_fault}
use Rattle.npp_cover.specs.Replaces.{CoverValue}
use Rattle.npp_rows.specs.Limits.{path_total}
use Rattle.npp_rows.specs.Lowering.{IsClosedCover}
use Rattle.npp_rows.specs.PathModel.{PathModel}
use Rattle.npp_rows.specs.Caps.{path_model}
use Rattle.npp_rows.specs.Cuts.{IsCut}
use Rattle.npp_tree.specs.declared.item.Item.{Item}
use Rattle.npp_tree.specs.declared.item.Item.TheVariants as item
use Rattle.npp_tree.specs.declared.outcome.PathLine.{PathLine}
use Rattle.npp_tree.specs.Items.{item_of}
use Rattle.npp_tree.specs.Outcome.{path_line_value}
use Rattle.npp_check.specs.declared.refusal.Rule.{Rule}
use Rattle.npp_check.specs.declared.refusal.Rule.TheVariants as rule
use Rattle.npp_check.specs.EndLine.{Head}
use Rattle.npp_check.specs.Measures.{Measures, span_of, onward_of}
use Rattle.npp_check.specs.Rules.{broken_if}
use Rattle.npp_check.specs.CoverLines.{unless_fault, cover_line, label_line, free_line, cover_lines, cover_of}
use Rattle.npp_check.specs.Prices.{earns_lower}
use Rattle.npp_check.specs.CutLines.{cuts_line}
use Rattle.npp_check.specs.Stages.{Case, Stage, AtPaths, AtCovers, AtLabels, AtCuts, from_paths, from_covers, from_labels, from_cuts}
use Rattle.npp_check.specs.Standing.{ArePrinted, AreCoversBut, AreCutsBut}
use Rattle.npp_check.specs.Stops.{stop_of_fault}
use Rattle.npp_check.specs.Steps.{Steps, Stands, Goes, Breaks, ArePathsBut}
use Rattle.npp_check.specs.Verdict.{whole}
use Rattle.npp_check.specs.Reads.{Lines, read_behind, line, more, ◌>>=◌}
use Rattle.npp_check.proofs.CoverLemmas.{one_more, all_closed}
use Rattle.npp_check.proofs.LineLemmas.{line_goes, line_breaks, bind_four}
use Rattle.npp_check.proofs.RuleLemmas.{same_ok, unbroken, both_said}
use Rattle.npp_check.proofs.StepLemmas.{more_goes, more_breaks, one_less}

module _ (limit : ℕ) (c : Case) (head : Head) (tolls : List Rational) (paths : List (PathLine Rational)) where
  -- ---- the head of a cover

  cover_read : (left : ℕ) (above : List CoverValue) (lines : Lines)
      → from_covers limit c head tolls paths (suc left) above lines
      ≡ read_behind (line (cover_line (length above)) lines) (λ count. from_labels limit c head tolls paths left above count [])
  cover_read left above lines =
      by_line (line (cover_line (length above)) lines)
    where
      by_line : (v : Result (ℕ × Lines) _)
          → read_behind (read_behind (read_behind v (λ count. more (λ so_far. line (label_line c.net c.measures (length above) so_far)) count [] >>= λ labels. line (free_line c.net c.measures above labels)))
          (λ x. more (cover_lines c.net c.measures) left (above ++ x ∷ [])))
          (λ covers. line (cuts_line limit c.net (path_model c.net covers) tolls paths head.lower) >>= λ count. from_cuts limit c head covers count [])
          ≡ read_behind v (λ count. from_labels limit c head tolls paths left above count [])
      by_line (Ok read) =
          bind_four (more (λ so_far. line (label_line c.net c.measures (length above) so_far)) read.0 [] read.1)
          (λ labels. line (free_line c.net c.measures above labels))
          (λ x. more (cover_lines c.net c.measures) left (above ++ x ∷ []))
          (λ covers. line (cuts_line limit c.net (path_model c.net covers) tolls paths head.lower) >>= λ count. from_cuts limit c head covers count [])
      by_line (Err refusal) = refl

  module _ (above : List CoverValue) (i : Item Rational) (below : length above < length c.net.commodities) where
    pub cover_goes : (count : ℕ) (draft : Growing) → Ok count ≡ cover_line (length above) i → draft.labels ≡ []
        → Goes limit c (AtCovers head tolls paths (length c.net.commodities - length above) above) i
        (AtLabels head tolls paths (length c.net.commodities - (length above + 1)) above count draft)
    cover_goes count draft judged none number items =
        let more_left : length c.net.commodities - length above ≡ suc (length c.net.commodities - (length above + 1)) = one_less (length c.net.commodities) (length above) below in
        ap (λ n. from_covers limit c head tolls paths n above (record { number = number; items = i ∷ items })) more_left
        ∙ cover_read (length c.net.commodities - (length above + 1)) above (record { number = number; items = i ∷ items })
        ∙ line_goes (cover_line (length above)) (λ n. from_labels limit c head tolls paths (length c.net.commodities - (length above + 1)) above n []) i count (sym judged) number items
        ∙ ap (λ labels. from_labels limit c head tolls paths (length c.net.commodities - (length above + 1)) above count labels (record { number = number + 1; items = items })) (sym none)

    pub cover_breaks : (broken : Rule) → Err broken ≡ cover_line (length above) i
        → Breaks limit c (AtCovers head tolls paths (length c.net.commodities - length above) above) i broken
    cover_breaks broken judged number items =
        let more_left : length c.net.commodities - length above ≡ suc (length c.net.commodities - (length above + 1)) = one_less (length c.net.commodities) (length above) below in
        ap (λ n. whole (from_covers limit c head tolls paths n above (record { number = number; items = i ∷ items }))) more_left
        ∙ ap whole (cover_read (length c.net.commodities - (length above + 1)) above (record { number = number; items = i ∷ items }))
        ∙ line_breaks (cover_line (length above)) (λ n. from_labels limit c head tolls paths (length c.net.commodities - (length above + 1)) above n []) i broken (sym judged) number items

  -- ---- the number of cuts

  module _ (covers : List CoverValue) (i : Item Rational) (all : length c.net.commodities ≤ length covers) where
    none_left : length c.net.commodities - length covers ≡ 0
    none_left = omega (arith, all)

    pub cuts_goes : (count : ℕ) → Ok count ≡ cuts_line limit c.net (path_model c.net covers) tolls paths head.lower i
        → Goes limit c (AtCovers head tolls paths (length c.net.commodities - length covers) covers) i (AtCuts head covers count [])
    cuts_goes count judged number items =
        ap (λ n. from_covers limit c head tolls paths n covers (record { number = number; items = i ∷ items })) none_left
        ∙ line_goes (cuts_line limit c.net (path_model c.net covers) tolls paths head.lower) (λ n. from_cuts limit c head covers n []) i count (sym judged) number items

    pub cuts_breaks : (broken : Rule) → Err broken ≡ cuts_line limit c.net (path_model c.net covers) tolls paths head.lower i
        → Breaks limit c (AtCovers head tolls paths (length c.net.commodities - length covers) covers) i broken
    cuts_breaks broken judged number items =
        ap (λ n. whole (from_covers limit c head tolls paths n covers (record { number = number; items = i ∷ items }))) none_left
        ∙ line_breaks (cuts_line limit c.net (path_model c.net covers) tolls paths head.lower) (λ n. from_cuts limit c head covers n []) i broken (sym judged) number items

  -- ---- a label

  module _ (left : ℕ) (above : List CoverValue) (count rest : ℕ) (g : Growing) (i : Item Rational) (some : count ≡ suc rest) where
    pub label_goes : (l : Label) (more_labels : Growing) → label_line c.net c.measures (length above) g.labels i ≡ Ok l → more_labels.labels ≡ g.labels ++ l ∷ []
        → Goes limit c (AtLabels head tolls paths left above count g) i (AtLabels head tolls paths left above rest more_labels)
    label_goes l more_labels judged put number items =
        ap (λ n. from_labels limit c head tolls paths left above n g.labels (record { number = number; items = i ∷ items })) some
        ∙ more_goes (label_line c.net c.measures (length above)) (λ all. line (free_line c.net c.measures above all) >>= λ cover. from_covers limit c head tolls paths left (above ++ cover ∷ []))
        rest g.labels i l judged number items
        ∙ ap (λ labels. from_labels limit c head tolls paths left above rest labels (record { number = number + 1; items = items })) (sym put)

    pub label_breaks : (broken : Rule) → label_line c.net c.measures (length above) g.labels i ≡ Err broken → Breaks limit c (AtLabels head tolls paths left above count g) i broken
    label_breaks broken judged number items =
        ap (λ n. whole (from_labels limit c head tolls paths left above n g.labels (record { number = number; items = i ∷ items }))) some
        ∙ more_breaks (label_line c.net c.measures (length above)) (λ all. line (free_line c.net c.measures above all) >>= λ cover. from_covers limit c head tolls paths left (above ++ cover ∷ []))
        rest g.labels i broken judged number items

  -- ---- the free line

  module _ (left : ℕ) (above : List CoverValue) (count : ℕ) (g : Growing) (i : Item Rational) (none : count ≡ 0) where
    pub free_goes : (cover : CoverValue) (left' : ℕ) (covers : List CoverValue) → free_line c.net c.measures above g.labels i ≡ Ok cover → covers ≡ above ++ cover ∷ [] → left' ≡ left
        → Goes limit c (AtLabels head tolls paths left above count g) i (AtCovers head tolls paths left' covers)
    free_goes cover left' covers judged put same number items =
        ap (λ n. from_labels limit c head tolls paths left above n g.labels (record { number = number; items = i ∷ items })) none
        ∙ line_goes (free_line c.net c.measures above g.labels) (λ x. from_covers limit c head tolls paths left (above ++ x ∷ [])) i cover judged number items
        ∙ (λ j. from_covers limit c head tolls paths (sym same j) (sym put j) (record { number = number + 1; items = items }))

    pub free_breaks : (broken : Rule) → free_line c.net c.measures above g.labels i ≡ Err broken → Breaks limit c (AtLabels head tolls paths left above count g) i broken
    free_breaks broken judged number items =
        ap (λ n. whole (from_labels limit c head tolls paths left above n g.labels (record { number = number; items = i ∷ items }))) none
        ∙ line_breaks (free_line c.net c.measures above g.labels) (λ x. from_covers limit c head tolls paths left (above ++ x ∷ [])) i broken judged number items

-- ---- what the lines say

-- a fault of a line of the cover stops it
pub fault_stops : {X : Type 0} (limit : ℕ) (c : Case) (old : Stage) (i : Item Rational) (e : CoverFault) (o : Option CoverFault) (r judged : Result X Rule) → (e ≡ fault.Memory) ⊎ (o ≡ Some e)
    → judged ≡ unless_fault o r → ((broken : Rule) → judged ≡ Err broken → Breaks limit c old i broken) → Steps limit c old i (Err (stop_of_fault e))
fault_stops limit c old i e o r judged (inl memory) same h = subst (λ (x : CoverFault). Steps limit c old i (Err (stop_of_fault x))) (sym memory) tt
fault_stops limit c old i e o r judged (inr is) same h = by_fault e (same ∙ ap (λ x. unless_fault x r) is)
  where
    by_fault : (e : CoverFault) → judged ≡ Err (rule.Cover e) → Steps limit c old i (Err (stop_of_fault e))
    by_fault fault.Memory k = tt
    by_fault fault.TooManyLabels k = h (rule.Cover fault.TooManyLabels) k
    by_fault (fault.NotAStep n) k = h (rule.Cover (fault.NotAStep n)) k
    by_fault (fault.RepeatedToll n) k = h (rule.Cover (fault.RepeatedToll n)) k
    by_fault (fault.Useless n) k = h (rule.Cover (fault.Useless n)) k
    by_fault fault.BadFree k = h (rule.Cover fault.BadFree) k
    by_fault fault.MissingOrigin k = h (rule.Cover fault.MissingOrigin) k
    by_fault (fault.NotClosed n a) k = h (rule.Cover (fault.NotClosed n a)) k

module _ (net : Network) (f : Measures) (k : ℕ) where
  pub start_judged : (labels : List Label) → labels ≡ [] → label_line net f k labels item.Start
      ≡ unless_fault (start_fault (onward_of f k) (span_of f k).free (commodity_at net k).origin) (Ok (start_label (commodity_at net k).origin))
  start_judged labels none = ap (λ ls. label_line net f k ls item.Start) none

  pub step_judged : (labels : List Label) (s : StepDraft) → 0 < length labels → label_line net f k labels (item.Step s.parent s.arc)
      ≡ unless_fault (step_fault net.arcs (onward_of f k) (span_of f k).free labels s) (Ok (step_label net.arcs labels s))
  step_judged [] s some = absurd (omega (arith, some))
  step_judged (l ∷ labels) s some = refl

  -- every other line breaks Order
  pub not_first : {N : Type 0} (value : N → Rational) (i : Item N) (labels : List Label) → labels ≡ [] → (i ≡ item.Start → ⊥) → label_line net f k labels (item_of value i) ≡ Err rule.Order
  not_first value i labels none other = ap (λ ls. label_line net f k ls (item_of value i)) none ∙ by_item i other
    where
      by_item : (i : Item _) → (i ≡ item.Start → ⊥) → label_line net f k [] (item_of value i) ≡ Err rule.Order
      by_item item.Start h = absurd (h refl)
      by_item other h = refl

  pub not_later : {N : Type 0} (value : N → Rational) (i : Item N) (labels : List Label) → 0 < length labels → ((parent : ℕ) (arc : ArcId) → i ≡ item.Step parent arc → ⊥)
      → label_line net f k labels (item_of value i) ≡ Err rule.Order
  not_later value i [] some other = absurd (omega (arith, some))
  not_later value i (l ∷ labels) some other = by_item i other
    where
      by_item : (i : Item _) → ((parent : ℕ) (arc : ArcId) → i ≡ item.Step parent arc → ⊥) → label_line net f k (l ∷ labels) (item_of value i) ≡ Err rule.Order
      by_item (item.Step parent arc) h = absurd (h parent arc refl)
      by_item other h = refl

  -- where there is room, one more step has the fault of the step
  pub room_for : (labels : List Label) (s : StepDraft) → length labels < 65536 → next_fault net.arcs (onward_of f k) (span_of f k).free labels s ≡ step_fault net.arcs (onward_of f k) (span_of f k).free labels s
  room_for labels s lt = let test : nat_lt (length labels) 65536 ≡ true = grind (arith, nat_tests) in rw test refl

module _ (net : Network) (f : Measures) (above : List CoverValue) (labels : List Label) where
  pub not_free : {N : Type 0} (value : N → Rational) (i : Item N) → ((walk : List ArcId) → i ≡ item.Free walk → ⊥) → free_line net f above labels (item_of value i) ≡ Err rule.Order
  not_free value (item.Free walk) h = absurd (h walk refl)
  not_free value other h = refl

  -- a cover without fault and with few paths
  pub free_judged : (walk : List ArcId) (test : Bool)
      → closing_fault net.arcs (onward_of f (length above)) (commodity_at net (length above)) (span_of f (length above)) labels walk ≡ None
      → test ≡ nat_lt 2000 (path_total above + length (cover_of (commodity_at net (length above)) (span_of f (length above)).free labels walk).paths)
      → free_line net f above labels (item.Free walk) ≡ broken_if test rule.TooManyPaths (Ok (cover_of (commodity_at net (length above)) (span_of f (length above)).free labels walk))
  free_judged walk test none paths =
      ap (λ o. unless_fault o (broken_if (nat_lt 2000 (path_total above + length (cover_of (commodity_at net (length above)) (span_of f (length above)).free labels walk).paths)) rule.TooManyPaths
      (Ok (cover_of (commodity_at net (length above)) (span_of f (length above)).free labels walk)))) none
      ∙ ap (λ b. broken_if b rule.TooManyPaths (Ok (cover_of (commodity_at net (length above)) (span_of f (length above)).free labels walk))) (sym paths)

-- one more closed cover
pub covers_more : (net : Network) (left less : ℕ) (above covers : List CoverValue) (cover : CoverValue) → AreCoversBut net left above → IsClosedCover net.arcs (commodity_at net (length above)) cover
    → path_total above + length cover.paths ≤ 2000 → left ≡ less + 1 → covers ≡ above ++ cover ∷ [] → AreCoversBut net less covers
covers_more net left less above covers cover h closed few room put =
    subst (AreCoversBut net less) (sym put) (record {
      count = omega (arith, h.count, room, length-append above (cover ∷ []));
      closed = one_more net above cover h.closed closed;
      few = omega (arith, few, sum_by-append (λ (x : CoverValue). length x.paths) above (cover ∷ []));
    })

-- ---- all covers stand

-- the same of the network by another name
pub covers_stand : (net same_net : Network) (covers : List CoverValue) → same_net ≡ net → length net.commodities ≤ length covers
    → AreCoversBut net (length net.commodities - length covers) covers → AreCoversBut same_net 0 covers
covers_stand net same_net covers same all h =
    let none : length net.commodities - length covers ≡ 0 = omega (arith, all) in
    subst (λ (n : Network). AreCoversBut n 0 covers) (sym same) (subst (λ (k : ℕ). AreCoversBut net k covers) none h)

pub printed_stands : (net same_net : Network) (tolls : List Rational) (paths : List (PathLine Rational)) → same_net ≡ net → ArePrinted net tolls paths → ArePrinted same_net tolls paths
printed_stands net same_net tolls paths same h = subst (λ (n : Network). ArePrinted n tolls paths) (sym same) h

-- at most 1,000 cuts follow
pub few_cuts : (limit : ℕ) (net : Network) (m : PathModel) (tolls : List Rational) (paths : List (PathLine Rational)) (lower : Rational) (i : Item Rational) (n : ℕ)
    → cuts_line limit net m tolls paths lower i ≡ Ok n → n ≤ 1000
few_cuts limit net m tolls paths lower (item.Cuts x) n e =
    let earns = both_said (earns_lower limit net m tolls paths lower) (λ _. broken_if (nat_lt 1000 x) rule.Cut (Ok x)) n e in
    let few = unbroken (nat_lt 1000 x) rule.Cut (Ok x) n earns.2 in
    let same : x ≡ n = same_ok x n few.1 in
    omega (arith, same, ltb-false 1000 x few.0)
few_cuts limit net m tolls paths lower other n e = cc

-- and then none stands yet
pub cuts_begin : (net : Network) (covers : List CoverValue) (count : ℕ) → AreCoversBut net 0 covers → count ≤ 1000 → AreCutsBut net covers count []
cuts_begin net covers count h few = record {
  closed = all_closed net covers (omega (arith, h.count)) h.closed;
  few = h.few;
  good = All-nil (IsCut (path_model net covers));
  room = omega (arith, few);
}

-- ---- all walks stand

-- more walks are to come behind these
pub paths_left : {N : Type 0} (value : N → Rational) (c : Case) (tolls : List N) (paths : List (PathLine N)) → length paths < length c.net.commodities → length tolls ≡ toll_count c.net.arcs
    → All (λ p. p.cost < 2 ^ 63) (map (path_line_value value) paths)
    → ArePathsBut c.net (map value tolls) (length c.net.commodities - length paths) (map (path_line_value value) paths)
paths_left value c tolls paths below each costs = record {
  part = record { some = omega (arith, below); whole = omega (arith, below, length-map paths (path_line_value value)) };
  each_toll = length-map tolls value ∙ each;
  costs = costs;
}

pub all_printed : {N : Type 0} (value : N → Rational) (net : Network) (tolls : List N) (paths : List (PathLine N)) → length paths ≡ length net.commodities → length tolls ≡ toll_count net.arcs
    → All (λ p. p.cost < 2 ^ 63) (map (path_line_value value) paths) → ArePrinted net (map value tolls) (map (path_line_value value) paths)
all_printed value net tolls paths all each costs = record {
  each_toll = length-map tolls value ∙ each;
  each_walk = length-map paths (path_line_value value) ∙ all;
  costs = costs;
}

no_covers : (net : Network) (covers : List CoverValue) → covers ≡ [] → AreCoversBut net (length net.commodities - length covers) covers
no_covers net covers none =
    subst (λ (cs : List CoverValue). AreCoversBut net (length net.commodities - length cs) cs) (sym none)
    (record { count = omega arith; closed = λ k lt. absurd (omega (arith, lt)); few = omega arith })

-- behind the last walk come the covers
pub paths_end : (limit : ℕ) (c : Case) (head : Head) (tolls : List Rational) (paths : List (PathLine Rational)) (left : ℕ) (covers : List CoverValue) → left ≡ 0 → covers ≡ []
    → ArePrinted c.net tolls paths → Stands limit c (AtPaths head tolls left paths) (AtCovers head tolls paths (length c.net.commodities - length covers) covers)
paths_end limit c head tolls paths left covers all none printed =
    let count : length c.net.commodities ≡ length c.net.commodities - length covers = omega (arith, ap length none) in
    record {
      same = λ lines. ap (λ n. from_paths limit c head tolls n paths lines) all ∙ (λ j. from_covers limit c head tolls paths (count j) (sym none j) lines);
      stage = (printed, no_covers c.net covers none);
    }
