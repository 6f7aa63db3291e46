-- The lines of the covers are read.
use Rattle.std.specs.Prelude.{◌≡◌, ℕ, ◌+◌, ◌<◌, ◌≤◌, Bool, true, false, not, nat_lt, List, [], ◌∷◌, ◌++◌, length, map, slice_index_or, Option, Some, None, MatchOption, option_map, Result, Ok, refl}
use Rattle.std.specs.List.{cons_option}
use Rattle.std.proofs.Common.{arith, ap, sym, ◌∙◌, subst, append_assoc}
use Rattle.std.proofs.lemmas.Bool.{le-ltb}
use Rattle.std.proofs.lemmas.List.{length-append, append-nil}
use Rattle.std.proofs.lemmas.List.Sums.{sum_by-cons, sum_by-append}
use Rattle.std.proofs.Math.ListN.{get_or-append}
use Rattle.std.proofs.Math.Seq.{get_or-append_seam}
use Rattle.npp_frac.specs.Rational.{Rational}
use Rattle.npp_net.specs.declared.types.ArcId.{ArcId}
use Rattle.npp_net.specs.declared.types.NetArc.{NetArc}
use Rattle.npp_net.specs.declared.types.Commodity.{Commodity}
use Rattle.npp_net.specs.declared.types.Span.{Span}
use Rattle.npp_net.specs.Network.{Network, IsNetwork, no_commodity}
use Rattle.npp_cover.specs.declared.label.Label.{Label}
use Rattle.npp_cover.specs.declared.label.StepDraft.{StepDraft}
use Rattle.npp_cover.specs.declared.fault.CoverFault.{CoverFault}
use Rattle.npp_cover.specs.declared.fault.CoverFault.TheVariants.{TooManyLabels}
use Rattle.npp_cover.specs.Closed.{GoesBy, IsStartOrGoes}
use Rattle.npp_cover.specs.Drafts.{step_of, steps_of, StartsFirst}
use Rattle.npp_cover.specs.Fault.{is_no_label, start_fault, step_fault, steps_fault, labels_fault, closing_fault}
use Rattle.npp_cover.specs.Labels.{no_label, label_at, start_label, label_after, step_label}
use Rattle.npp_cover.specs.Paths.{PathValue, path_of, free_path}
use Rattle.npp_cover.specs.Replaces.{CoverValue, IsCoverOf}
use Rattle.npp_cover.specs.Useful.{commodity_at}
use Rattle.npp_cover.proofs.DraftLaws.{no_closing_fault}
use Rattle.npp_cover.proofs.DraftLabels.{GivesLabels, gives_labels}
use Rattle.npp_cover.proofs.OnwardLaws.{AreOnward}
use Rattle.npp_labels.specs.Covers.{IsUsefulCover, AreUsefulCovers}
use Rattle.npp_labels.proofs.UsefulLaws.{starts_first}
use Rattle.npp_rows.specs.Limits.{path_total}
use Rattle.npp_rows.specs.PathModel.{no_cover}
use Rattle.npp_rows.proofs.ListLaws.{zip_size, zip_at}
use Rattle.npp_tree.specs.declared.item.Item.{Item}
use Rattle.npp_tree.specs.declared.item.Item.TheVariants as item
use Rattle.npp_tree.specs.Lines.{label_item, label_line as label_item_of, last_arcs, cover_lines as cover_items, cover_list}
use Rattle.npp_check.specs.declared.refusal.Rule.{Rule}
use Rattle.npp_check.specs.declared.refusal.Rule.TheVariants.{Order, Cover, TooManyPaths}
use Rattle.npp_check.specs.CoverLines.{cover_of, cover_line, label_line, free_line, cover_lines, all_covers}
use Rattle.npp_check.specs.Measures.{Measures, AreMeasures, span_of, onward_of}
use Rattle.npp_check.specs.Reads.{line, more, ◌>>=◌}
use Rattle.npp_check.specs.Rules.{broken_if}
use Rattle.npp_check.proofs.CoverLemmas.{neither}
use Rattle.npp_check.proofs.MeasureLemmas.{one_span}
use Rattle.npp_check.proofs.MeasureReads.{span_is, distances_are}
use Rattle.npp_check.proofs.RankOrder.{one_cover_of}
use Rattle.npp_accept.proofs.GivesLemmas.{Gives, gives_as, gives_done, gives_line, gives_bind}
use Rattle.npp_accept.proofs.Passes.{passes, numbered_so, faultless}

-- ---- the toll-free walk is the last path

last_of : (xs : List PathValue) (p : PathValue) → last_arcs (xs ++ p ∷ []) ≡ p.arcs
last_of [] p = refl
last_of (x ∷ []) p = refl
last_of (x ∷ y ∷ xs) p = last_of (y ∷ xs) p

-- ---- the count of the labels

count_says : (k n : ℕ) → n ≤ 65536 → cover_line k (item.Cover k n) ≡ Ok n
count_says k n few =
    numbered_so k Order (broken_if (nat_lt 65536 n) (Cover TooManyLabels) (Ok n)) ∙ passes (nat_lt 65536 n) (Cover TooManyLabels) (Ok n) (le-ltb 65536 n few)

module _ (net : Network) (f : Measures) (limits : IsNetwork net) (measures : AreMeasures net f) where
  -- ---- one cover

  module _ (above : List CoverValue) (c : CoverValue) (lt : length above < length net.commodities) (useful : IsUsefulCover net.arcs (commodity_at net (length above)) c) where
    abbrev k : Commodity
    k = commodity_at net (length above)

    abbrev span : Span
    span = span_of f (length above)

    abbrev onward : ℕ → Option ℕ
    onward = onward_of f (length above)

    abbrev LabelsGive : ℕ → List Label → List (Item Rational) → List Label → Type 0
    LabelsGive n front items labels = Gives (more (λ so_far. line (label_line net f (length above) so_far)) n front) items labels

    are_onward : AreOnward net (commodity_at net (length above)) (onward_of f (length above))
    are_onward = distances_are net f measures (length above) lt

    cover : IsCoverOf net.arcs (commodity_at net (length above)) (span_of f (length above)) c
    cover =
        subst (λ (s : Span). IsCoverOf net.arcs (commodity_at net (length above)) s c)
        (one_span net.arcs (commodity_at net (length above)) useful.span (span_of f (length above)) useful.is_span (span_is net f measures (length above) lt)) useful.cover

    starts : StartsFirst c.labels
    starts = starts_first net.arcs (commodity_at net (length above)) c useful

    -- the label after some, which is written as its step
    step_says : (first : Label) (ls : List Label) (x : Label) (a : ArcId) → x.last ≡ Some a
        → (let s : StepDraft = record { parent = x.parent; arc = a } in
        (step_fault net.arcs (onward_of f (length above)) (span_of f (length above)).free (first ∷ ls) s ≡ None) → (step_label net.arcs (first ∷ ls) s ≡ x)
        → label_line net f (length above) (first ∷ ls) (label_item_of x) ≡ Ok x)
    step_says first ls x a last none same =
        let s : StepDraft = record { parent = x.parent; arc = a } in
        subst (λ (o : Option ArcId). label_line net f (length above) (first ∷ ls) (label_item o x.parent) ≡ Ok x) (sym last)
        (faultless (step_fault net.arcs (onward_of f (length above)) (span_of f (length above)).free (first ∷ ls) s) (Ok (step_label net.arcs (first ∷ ls) s)) none ∙ ap (λ (l : Label). Ok l) same)

    -- it stands among the labels of the cover, and goes on from one of those before it
    module _ (front : List Label) (x : Label) (rest : List Label) (is : front ++ x ∷ rest ≡ c.labels) where
      place : length front < length c.labels
      place = omega (arith, ap (λ (xs : List Label). length xs) is, length-append front (x ∷ rest))

      here : label_at c.labels (length front) ≡ x
      here = ap (λ (xs : List Label). label_at xs (length front)) (sym is) ∙ get_or-append_seam front x rest no_label

      goes : (o : Option ArcId) → x.last ≡ o → MatchOption o (x ≡ start_label (commodity_at net (length above)).origin) (GoesBy net.arcs (length front) x (label_at c.labels x.parent))
      goes o last =
          subst (λ (o : Option ArcId). MatchOption o (x ≡ start_label (commodity_at net (length above)).origin) (GoesBy net.arcs (length front) x (label_at c.labels x.parent))) last
          (subst (λ (l : Label). IsStartOrGoes net.arcs (commodity_at net (length above)).origin (length front) l (label_at c.labels l.parent)) here (cover.closed.each (length front) place))

      made_by : (a : ArcId) → x.last ≡ Some a → step_label net.arcs front (record { parent = x.parent; arc = a }) ≡ x
      made_by a last =
          let s : StepDraft = record { parent = x.parent; arc = a } in
          let by : GoesBy net.arcs (length front) x (label_at c.labels x.parent) a = goes (Some a) last in
          let from : label_at front x.parent ≡ label_at c.labels x.parent = sym (get_or-append front (x ∷ rest) no_label x.parent by.lower) ∙ ap (λ (xs : List Label). label_at xs x.parent) is in
          ap (λ (l : Label). label_after net.arcs l s) from ∙ sym by.same

      not_start : 0 < length front → x.last ≡ None → ⊥
      not_start some last = omega (arith, some, starts (length front) place (ap (λ (l : Label). l.last) here ∙ last))

    abbrev step_by : Label → ArcId → StepDraft
    step_by x a = record { parent = x.parent; arc = a }

    -- the labels behind the first
    later_labels : (rest ls : List Label) (first : Label) → (first ∷ ls) ++ rest ≡ c.labels
        → steps_fault net.arcs (onward_of f (length above)) (span_of f (length above)).free (first ∷ ls) (steps_of rest) ≡ None
        → LabelsGive (length rest) (first ∷ ls) (map label_item_of rest) ((first ∷ ls) ++ rest)
    later_labels [] ls first is none =
        gives_as (more (λ so_far. line (label_line net f (length above) so_far)) 0 (first ∷ ls)) [] (first ∷ ls) ((first ∷ ls) ++ []) (sym (append-nil (first ∷ ls))) (gives_done (first ∷ ls))
    later_labels (x ∷ rest) ls first is none = by_last x.last refl (later_labels rest (ls ++ x ∷ []) first)
      where
        by_last : (o : Option ArcId) → x.last ≡ o
            → (first ∷ (ls ++ x ∷ []) ++ rest ≡ c.labels → steps_fault net.arcs (onward_of f (length above)) (span_of f (length above)).free (first ∷ (ls ++ x ∷ [])) (steps_of rest) ≡ None
            → LabelsGive (length rest) (first ∷ (ls ++ x ∷ [])) (map label_item_of rest) (first ∷ (ls ++ x ∷ []) ++ rest))
            → LabelsGive (length (x ∷ rest)) (first ∷ ls) (map label_item_of (x ∷ rest)) ((first ∷ ls) ++ x ∷ rest)
        by_last None last next = absurd (not_start (first ∷ ls) x rest is (omega arith) last)
        by_last (Some a) last next =
            let s : StepDraft = record { parent = x.parent; arc = a } in
            let Faults : List StepDraft → Option CoverFault = λ steps. steps_fault net.arcs (onward_of f (length above)) (span_of f (length above)).free (first ∷ ls) steps in
            let steps : steps_of (x ∷ rest) ≡ s ∷ steps_of rest = ap (λ (o : Option ArcId). cons_option (option_map (λ b. step_by x b) o) (steps_of rest)) last in
            let parts = neither (step_fault net.arcs (onward_of f (length above)) (span_of f (length above)).free (first ∷ ls) s)
            (steps_fault net.arcs (onward_of f (length above)) (span_of f (length above)).free ((first ∷ ls) ++ step_label net.arcs (first ∷ ls) s ∷ []) (steps_of rest)) (ap Faults (sym steps) ∙ none) in
            let same : step_label net.arcs (first ∷ ls) s ≡ x = made_by (first ∷ ls) x rest is a last in
            let later_none : steps_fault net.arcs (onward_of f (length above)) (span_of f (length above)).free (first ∷ (ls ++ x ∷ [])) (steps_of rest) ≡ None =
            subst (λ (l : Label). steps_fault net.arcs (onward_of f (length above)) (span_of f (length above)).free ((first ∷ ls) ++ l ∷ []) (steps_of rest) ≡ None) same parts.1 in
            let later : LabelsGive (length rest) (first ∷ (ls ++ x ∷ [])) (map label_item_of rest) ((first ∷ (ls ++ x ∷ [])) ++ rest) =
            next (append_assoc (first ∷ ls) (x ∷ []) rest ∙ is) later_none in
            gives_as (more (λ so_far. line (label_line net f (length above) so_far)) (length (x ∷ rest)) (first ∷ ls)) (map label_item_of (x ∷ rest)) (((first ∷ ls) ++ x ∷ []) ++ rest) ((first ∷ ls) ++ x ∷ rest)
            (append_assoc (first ∷ ls) (x ∷ []) rest)
            (gives_bind (line (label_line net f (length above) (first ∷ ls))) (λ y. more (λ so_far. line (label_line net f (length above) so_far)) (length rest) ((first ∷ ls) ++ y ∷ []))
            (label_item_of x ∷ []) (map label_item_of rest) x (((first ∷ ls) ++ x ∷ []) ++ rest)
            (gives_line (label_line net f (length above) (first ∷ ls)) (label_item_of x) x (step_says first ls x a last parts.0 same)) later)

    -- the first label is the start
    first_is_start : (x : Label) (rest : List Label) → x ∷ rest ≡ c.labels → x ≡ start_label (commodity_at net (length above)).origin
    first_is_start x rest is = by_last x.last (goes [] x rest is x.last refl)
      where
        by_last : (o : Option ArcId) → MatchOption o (x ≡ start_label (commodity_at net (length above)).origin) (GoesBy net.arcs 0 x (label_at c.labels x.parent)) → x ≡ start_label (commodity_at net (length above)).origin
        by_last None start = start
        by_last (Some a) by = absurd (omega (arith, by.lower))

    start_says : (x : Label) → x ≡ start_label (commodity_at net (length above)).origin → start_fault (onward_of f (length above)) (span_of f (length above)).free (commodity_at net (length above)).origin ≡ None
        → label_line net f (length above) [] (label_item_of x) ≡ Ok x
    start_says x start none =
        subst (λ (l : Label). label_line net f (length above) [] (label_item_of l) ≡ Ok l) (sym start)
        (faultless (start_fault (onward_of f (length above)) (span_of f (length above)).free (commodity_at net (length above)).origin) (Ok (start_label (commodity_at net (length above)).origin)) none)

    gives_all_labels : (xs : List Label) → xs ≡ c.labels
        → labels_fault net.arcs (onward_of f (length above)) (span_of f (length above)).free (commodity_at net (length above)).origin (not (is_no_label xs)) (steps_of xs) ≡ None
        → LabelsGive (length xs) [] (map label_item_of xs) xs
    gives_all_labels [] is none = gives_done []
    gives_all_labels (x ∷ rest) is none =
        let start : x ≡ start_label (commodity_at net (length above)).origin = first_is_start x rest is in
        let parts = neither (start_fault (onward_of f (length above)) (span_of f (length above)).free (commodity_at net (length above)).origin)
        (steps_fault net.arcs (onward_of f (length above)) (span_of f (length above)).free (start_label (commodity_at net (length above)).origin ∷ []) (steps_of (x ∷ rest))) none in
        let steps : steps_of (x ∷ rest) ≡ steps_of rest = ap (λ (l : Label). cons_option (step_of l) (steps_of rest)) start in
        let none_later : steps_fault net.arcs (onward_of f (length above)) (span_of f (length above)).free (x ∷ []) (steps_of rest) ≡ None =
        ap (λ (l : Label). steps_fault net.arcs (onward_of f (length above)) (span_of f (length above)).free (l ∷ []) (steps_of rest)) start
        ∙ ap (λ (ss : List StepDraft). steps_fault net.arcs (onward_of f (length above)) (span_of f (length above)).free (start_label (commodity_at net (length above)).origin ∷ []) ss) (sym steps) ∙ parts.1 in
        gives_bind (line (label_line net f (length above) [])) (λ y. more (λ so_far. line (label_line net f (length above) so_far)) (length rest) ([] ++ y ∷ []))
        (label_item_of x ∷ []) (map label_item_of rest) x (x ∷ rest)
        (gives_line (label_line net f (length above) []) (label_item_of x) x (start_says x start parts.0)) (later_labels rest [] x is none_later)

    gives_cover_labels : LabelsGive (length c.labels) [] (map label_item_of c.labels) c.labels
    gives_cover_labels =
        let origin = (limits.each_commodity (length above) no_commodity lt).origin in
        let gives : GivesLabels net limits (commodity_at net (length above)) (span_of f (length above)) (onward_of f (length above)) are_onward c.labels cover.closed starts c.labels =
        gives_labels net limits (commodity_at net (length above)) (span_of f (length above)) (onward_of f (length above)) are_onward c.labels cover.closed starts origin c.labels refl in
        gives_all_labels c.labels refl gives.none

    -- the toll-free walk closes the cover
    free_says : path_total above + length c.paths ≤ 2000 → free_line net f above c.labels (item.Free (last_arcs c.paths)) ≡ Ok c
    free_says few =
        let walk : List ArcId = cover.made.0 in
        let last : last_arcs c.paths ≡ cover.made.0 = ap last_arcs cover.made.2.2 ∙ last_of (map (path_of c.labels) cover.made.2.0) (free_path (span_of f (length above)).free cover.made.0) in
        let same : c ≡ cover_of (commodity_at net (length above)) (span_of f (length above)).free c.labels cover.made.0 =
        one_cover_of (commodity_at net (length above)) (span_of f (length above)).free c.labels cover.made.0 c refl cover.made.2 cover.free in
        let none = no_closing_fault net limits (commodity_at net (length above)) (span_of f (length above)) (onward_of f (length above)) are_onward c.labels cover.closed cover.made.0 cover.made.1 in
        let Judged : CoverValue → Result CoverValue Rule = λ x. broken_if (nat_lt 2000 (path_total above + length x.paths)) TooManyPaths (Ok x) in
        ap (λ (arcs : List ArcId). free_line net f above c.labels (item.Free arcs)) last
        ∙ faultless (closing_fault net.arcs (onward_of f (length above)) (commodity_at net (length above)) (span_of f (length above)) c.labels cover.made.0)
        (Judged (cover_of (commodity_at net (length above)) (span_of f (length above)).free c.labels cover.made.0)) none
        ∙ ap Judged (sym same)
        ∙ passes (nat_lt 2000 (path_total above + length c.paths)) TooManyPaths (Ok c) (le-ltb 2000 (path_total above + length c.paths) few)

    gives_cover : path_total above + length c.paths ≤ 2000 → Gives (cover_lines net f above) (cover_items (length above) c) c
    gives_cover few =
        gives_bind (line (cover_line (length above))) (λ count. more (λ so_far. line (label_line net f (length above) so_far)) count [] >>= λ labels. line (free_line net f above labels))
        (item.Cover (length above) (length c.labels) ∷ []) (map label_item_of c.labels ++ item.Free (last_arcs c.paths) ∷ []) (length c.labels) c
        (gives_line (cover_line (length above)) (item.Cover (length above) (length c.labels)) (length c.labels) (count_says (length above) (length c.labels) cover.closed.few))
        (gives_bind (more (λ so_far. line (label_line net f (length above) so_far)) (length c.labels) []) (λ labels. line (free_line net f above labels))
        (map label_item_of c.labels) (item.Free (last_arcs c.paths) ∷ []) c.labels c gives_cover_labels
        (gives_line (free_line net f above c.labels) (item.Free (last_arcs c.paths)) c (free_says few)))

  -- ---- all covers

  total_split : (above : List CoverValue) (c : CoverValue) (rest : List CoverValue) → path_total above + length c.paths ≤ path_total (above ++ c ∷ rest)
  total_split above c rest =
      omega (arith, sum_by-append (λ (x : CoverValue). length x.paths) above (c ∷ rest), sum_by-cons (λ (x : CoverValue). length x.paths) c rest)

  module _ (covers : List CoverValue) (useful : AreUsefulCovers net.arcs net.commodities covers) (few : path_total covers ≤ 2000) where
    gives_covers_from : (rest above : List CoverValue) → above ++ rest ≡ covers → Gives (more (cover_lines net f) (length rest) above) (cover_list (length above) rest) (above ++ rest)
    gives_covers_from [] above is = gives_as (more (cover_lines net f) 0 above) [] above (above ++ []) (sym (append-nil above)) (gives_done above)
    gives_covers_from (c ∷ rest) above is =
        let long = length-append above (c ∷ rest) in
        let here : slice_index_or covers (length above) no_cover ≡ c = ap (λ (xs : List CoverValue). slice_index_or xs (length above) no_cover) (sym is) ∙ get_or-append_seam above c rest no_cover in
        let place : length above < length covers = omega (arith, ap (λ (xs : List CoverValue). length xs) is, long) in
        let within : length above < length net.commodities = omega (arith, place, zip_size (IsUsefulCover net.arcs) net.commodities covers useful) in
        let is_useful : IsUsefulCover net.arcs (commodity_at net (length above)) c =
        subst (λ (x : CoverValue). IsUsefulCover net.arcs (commodity_at net (length above)) x) here (zip_at (IsUsefulCover net.arcs) net.commodities covers no_commodity no_cover (length above) useful place) in
        let total : path_total above + length c.paths ≤ 2000 = omega (arith, total_split above c rest, ap (λ (xs : List CoverValue). path_total xs) is, few) in
        let longer : length (above ++ c ∷ []) ≡ length above + 1 = length-append above (c ∷ []) in
        let later : Gives (more (cover_lines net f) (length rest) (above ++ c ∷ [])) (cover_list (length (above ++ c ∷ [])) rest) ((above ++ c ∷ []) ++ rest) =
        gives_covers_from rest (above ++ c ∷ []) (append_assoc above (c ∷ []) rest ∙ is) in
        gives_as (more (cover_lines net f) (length (c ∷ rest)) above) (cover_list (length above) (c ∷ rest)) ((above ++ c ∷ []) ++ rest) (above ++ c ∷ rest) (append_assoc above (c ∷ []) rest)
        (gives_bind (cover_lines net f above) (λ y. more (cover_lines net f) (length rest) (above ++ y ∷ [])) (cover_items (length above) c) (cover_list (length above + 1) rest) c ((above ++ c ∷ []) ++ rest)
        (gives_cover above c within is_useful total)
        (subst (λ (n : ℕ). Gives (more (cover_lines net f) (length rest) (above ++ c ∷ [])) (cover_list n rest) ((above ++ c ∷ []) ++ rest)) longer later))

    -- useful covers with few paths
    pub gives_covers : Gives (all_covers net f) (cover_list 0 covers) covers
    gives_covers =
        subst (λ (n : ℕ). Gives (more (cover_lines net f) n []) (cover_list 0 covers) covers) (sym (zip_size (IsUsefulCover net.arcs) net.commodities covers useful)) (gives_covers_from covers [] refl)
