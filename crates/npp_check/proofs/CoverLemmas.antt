-- The covers that are read are closed covers.
use Rattle.std.specs.Prelude.{◌≡◌, ℕ, zero, suc, ◌+◌, ◌<◌, ◌≤◌, Bool, true, false, not, cond, ◌==◌, nat_lt, List, [], ◌∷◌, ◌++◌, length, slice_index_or, Option, Some, None, Ok, refl, Result}
use Rattle.std.specs.Option.{option_or}
use Rattle.std.specs.List.{AllZip}
use Rattle.std.proofs.Common.{arith, ap, sym, subst, inl, inr, eq-or-lt_of_le, le_of_suc-le-suc}
use Rattle.std.proofs.lemmas.Bool.Decides.{nat_tests}
use Rattle.std.proofs.lemmas.List.{length-append}
use Rattle.std.proofs.Math.ListN.{get_or-append}
use Rattle.std.proofs.Math.Seq.{get_or-append_seam}
use Rattle.npp_frac.specs.Rational.{Rational}
use Rattle.npp_net.specs.declared.types.ArcId.{ArcId}
use Rattle.npp_net.specs.declared.types.Commodity.{Commodity}
use Rattle.npp_net.specs.Network.{Network, IsNetwork, no_commodity}
use Rattle.npp_net.specs.Distance.{IsSpan}
use Rattle.npp_cover.specs.declared.fault.CoverFault.{CoverFault}
use Rattle.npp_cover.specs.declared.fault.CoverFault.TheVariants.{BadFree}
use Rattle.npp_cover.specs.declared.label.Label.{Label}
use Rattle.npp_cover.specs.declared.label.StepDraft.{StepDraft}
use Rattle.npp_cover.specs.Useful.{commodity_at}
use Rattle.npp_cover.specs.Labels.{start_label, step_label}
use Rattle.npp_cover.specs.Closed.{AreFaultless}
use Rattle.npp_cover.specs.Fault.{start_fault, step_fault, free_fault, origin_fault, open_fault, closing_fault}
use Rattle.npp_cover.specs.Replaces.{CoverValue}
use Rattle.npp_cover.proofs.FaultLemmas.{faultless_first, faultless_step, closed_of}
use Rattle.npp_cover.proofs.FreeLemmas.{is_free}
use Rattle.npp_cover.proofs.CoverLemmas.{is_cover}
use Rattle.npp_rows.specs.PathModel.{no_cover}
use Rattle.npp_rows.specs.Lowering.{IsClosedCover, AreClosedCovers}
use Rattle.npp_rows.specs.Limits.{path_total}
use Rattle.npp_tree.specs.declared.item.Item.{Item}
use Rattle.npp_tree.specs.declared.item.Item.TheVariants as item
use Rattle.npp_check.specs.declared.refusal.Rule.{Rule}
use Rattle.npp_check.specs.declared.refusal.Rule.TheVariants as rule
use Rattle.npp_check.specs.Measures.{Measures, AreMeasures, span_of, onward_of}
use Rattle.npp_check.specs.CoverLines.{cover_of, unless_fault, cover_line, label_line, free_line, cover_lines, all_covers}
use Rattle.npp_check.specs.Rules.{broken_if}
use Rattle.npp_check.specs.Standing.{AreClosedSoFar}
use Rattle.npp_check.specs.Reads.{Lines, line, more}
use Rattle.npp_check.proofs.RuleLemmas.{same_ok, unbroken}
use Rattle.npp_check.proofs.TreeLemmas.{bind_parts}
use Rattle.npp_check.proofs.NodeLemmas.{same_value, next_line_says}
use Rattle.npp_check.proofs.MeasureReads.{span_is, distances_are}
use Rattle.npp_check.proofs.RankOrder.{paths_in_order}

-- ---- what the lines say

unless_says : {X : Type 0} (o : Option CoverFault) (r : Result X Rule) (x : X) → unless_fault o r ≡ Ok x → (o ≡ None) × (r ≡ Ok x)
unless_says None r x e = (refl, e)
unless_says (Some y) r x e = cc

pub neither : (a b : Option CoverFault) → option_or a b ≡ None → (a ≡ None) × (b ≡ None)
neither None b e = (refl, e)
neither (Some x) b e = cc

pub count_says : (k : ℕ) (i : Item Rational) (n : ℕ) → cover_line k i ≡ Ok n → n ≤ 65536
count_says k (item.Cover l labels) n e =
    let first = unbroken (not (l == k)) _ (broken_if (nat_lt 65536 labels) _ (Ok labels)) n e in
    let second = unbroken (nat_lt 65536 labels) _ (Ok labels) n first.1 in
    let same : labels ≡ n = same_ok labels n second.1 in
    let few : labels ≤ 65536 = grind (arith, nat_tests) in
    omega (arith, few, same)
count_says k other n e = cc

free_says : (net : Network) (f : Measures) (above : List CoverValue) (labels : List Label) (i : Item Rational) (c : CoverValue) → free_line net f above labels i ≡ Ok c
    → (walk : List ArcId) × (closing_fault net.arcs (onward_of f (length above)) (commodity_at net (length above)) (span_of f (length above)) labels walk ≡ None)
    × (cover_of (commodity_at net (length above)) (span_of f (length above)).free labels walk ≡ c)
free_says net f above labels (item.Free walk) c e =
    let cover : CoverValue = cover_of (commodity_at net (length above)) (span_of f (length above)).free labels walk in
    let first = unless_says (closing_fault net.arcs (onward_of f (length above)) (commodity_at net (length above)) (span_of f (length above)) labels walk)
    (broken_if (nat_lt 2000 (path_total above + length (cover_of (commodity_at net (length above)) (span_of f (length above)).free labels walk).paths)) rule.TooManyPaths (Ok cover)) c e in
    let second = unbroken (nat_lt 2000 (path_total above + length (cover_of (commodity_at net (length above)) (span_of f (length above)).free labels walk).paths)) rule.TooManyPaths (Ok cover) c first.1 in
    (walk, first.0, same_ok _ c second.1)
free_says net f above labels other c e = cc

free_passes : (b : Bool) → (let o : Option CoverFault = cond b None (Some BadFree) in o ≡ None) → b ≡ true
free_passes true e = refl
free_passes false e = cc

module _ (net : Network) (f : Measures) (limits : IsNetwork net) (measures : AreMeasures net f) where
  -- ---- the labels of a commodity

  module _ (k : ℕ) (lt : k < length net.commodities) where
    abbrev AreGood : List Label → Type 0
    AreGood labels = AreFaultless net (commodity_at net k) (span_of f k).free labels

    start_says : (i : Item Rational) (l : Label) → label_line net f k [] i ≡ Ok l → (start_fault (onward_of f k) (span_of f k).free (commodity_at net k).origin ≡ None) × (start_label (commodity_at net k).origin ≡ l)
    start_says item.Start l e = let says = unless_says _ (Ok (start_label (commodity_at net k).origin)) l e in (says.0, same_ok _ l says.1)
    start_says other l e = cc

    step_says : (l : Label) (ls : List Label) (i : Item Rational) (x : Label) → label_line net f k (l ∷ ls) i ≡ Ok x
        → (s : StepDraft) × (step_fault net.arcs (onward_of f k) (span_of f k).free (l ∷ ls) s ≡ None) × (step_label net.arcs (l ∷ ls) s ≡ x)
    step_says l ls (item.Step parent arc) x e =
        let s : StepDraft = record { parent = parent; arc = arc } in
        let says = unless_says (step_fault net.arcs (onward_of f k) (span_of f k).free (l ∷ ls) s) (Ok (step_label net.arcs (l ∷ ls) s)) x e in
        (record { parent = parent; arc = arc }, says.0, same_ok _ x says.1)
    step_says l ls other x e = cc

    labels_behind : (n : ℕ) (l : Label) (ls : List Label) (lines behind : Lines) (labels : List Label) → AreGood (l ∷ ls)
        → more (λ so_far. line (label_line net f k so_far)) n (l ∷ ls) lines ≡ Ok (labels, behind) → AreGood labels × (length labels ≡ length (l ∷ ls) + n)
    labels_behind zero l ls lines behind labels good e =
        let same : l ∷ ls ≡ labels = same_value (l ∷ ls) labels lines behind e in
        (subst AreGood same good, omega (arith, ap (λ (xs : List Label). length xs) same))
    labels_behind (suc n) l ls lines behind labels good e =
        let one = bind_parts (line (label_line net f k (l ∷ ls)) lines) _ labels behind e in
        let says = next_line_says (label_line net f k (l ∷ ls)) lines.number lines.items one.1 one.0 one.2 in
        let step = step_says l ls says.0 one.0 says.1 in
        let more_good : AreGood (l ∷ (ls ++ one.0 ∷ [])) =
        subst (λ (x : Label). AreGood (l ∷ (ls ++ x ∷ []))) step.2
        (faultless_step net limits (commodity_at net k) (span_of f k).free (onward_of f k) (distances_are net f measures k lt) (l ∷ ls) step.0 good step.1) in
        let rest = labels_behind n l (ls ++ one.0 ∷ []) one.1 behind labels more_good one.3 in
        (rest.0, omega (arith, rest.1, length-append ls (one.0 ∷ [])))

    labels_say : (n : ℕ) (lines behind : Lines) (labels : List Label) → more (λ so_far. line (label_line net f k so_far)) n [] lines ≡ Ok (labels, behind)
        → AreGood labels × (length labels ≡ n)
    labels_say zero lines behind labels e =
        let same : [] ≡ labels = same_value [] labels lines behind e in
        let none : AreGood [] = record { each = λ i l. absurd (omega (arith, l)); wins = λ i l. absurd (omega (arith, l)); nodes = λ i l. absurd (omega (arith, l)) } in
        (subst AreGood same none, omega (arith, ap (λ (xs : List Label). length xs) same))
    labels_say (suc n) lines behind labels e =
        let one = bind_parts (line (label_line net f k []) lines) _ labels behind e in
        let says = next_line_says (label_line net f k []) lines.number lines.items one.1 one.0 one.2 in
        let start = start_says says.0 one.0 says.1 in
        let origin = (limits.each_commodity k no_commodity lt).origin in
        let good : AreGood (one.0 ∷ []) =
        subst (λ (x : Label). AreGood (x ∷ [])) start.1
        (faultless_first net limits (commodity_at net k) (span_of f k).free (onward_of f k) (distances_are net f measures k lt) origin start.0) in
        let rest = labels_behind n one.0 [] one.1 behind labels good one.3 in
        (rest.0, omega (arith, rest.1))

  -- ---- one cover

  one_cover : (above : List CoverValue) (lines behind : Lines) (c : CoverValue) → length above < length net.commodities → cover_lines net f above lines ≡ Ok (c, behind)
      → IsClosedCover net.arcs (commodity_at net (length above)) c
  one_cover above lines behind c lt e =
      let count = bind_parts (line (cover_line (length above)) lines) _ c behind e in
      let count_line = next_line_says (cover_line (length above)) lines.number lines.items count.1 count.0 count.2 in
      let few = count_says (length above) count_line.0 count.0 count_line.1 in
      let labels = bind_parts (more (λ so_far. line (label_line net f (length above) so_far)) count.0 [] count.1) _ c behind count.3 in
      let good = labels_say (length above) lt count.0 count.1 labels.1 labels.0 labels.2 in
      let free_at = next_line_says (free_line net f above labels.0) labels.1.number labels.1.items behind c labels.3 in
      let free = free_says net f above labels.0 free_at.0 c free_at.1 in
      let faults = neither (free_fault net.arcs (commodity_at net (length above)) (span_of f (length above)).free free.0) _ free.1 in
      let rest = neither (origin_fault (span_of f (length above)) labels.0) (open_fault net.arcs (onward_of f (length above)) (span_of f (length above)).free labels.0) faults.1 in
      let is_span : IsSpan net.arcs (commodity_at net (length above)) (span_of f (length above)) = span_is net f measures (length above) lt in
      let closed = closed_of net limits (commodity_at net (length above)) (span_of f (length above)) (onward_of f (length above)) (distances_are net f measures (length above) lt)
      labels.0 good.0 (omega (arith, good.1, few)) rest.0 rest.1 in
      let walk = is_free net.arcs (commodity_at net (length above)) (span_of f (length above)).free free.0 (free_passes _ faults.0) in
      let cover = is_cover net.arcs (commodity_at net (length above)) (span_of f (length above)) labels.0 free.0
      (cover_of (commodity_at net (length above)) (span_of f (length above)).free labels.0 free.0).paths is_span closed walk
      (paths_in_order labels.0 (commodity_at net (length above)).destination.0 (span_of f (length above)).free free.0) in
      subst (IsClosedCover net.arcs (commodity_at net (length above))) free.2 (span_of f (length above), is_span, cover)

module _ (net : Network) where
  pub one_more : (above : List CoverValue) (c : CoverValue) → AreClosedSoFar net above → IsClosedCover net.arcs (commodity_at net (length above)) c → AreClosedSoFar net (above ++ c ∷ [])
  one_more above c h is k lt = elim (eq-or-lt_of_le (le_of_suc-le-suc (let long = length-append above (c ∷ []) in omega (arith, lt, long)))) [
    | inl same ↦ subst (λ (i : ℕ). IsClosedCover net.arcs (commodity_at net i) (slice_index_or (above ++ c ∷ []) i no_cover)) (sym same)
        (subst (IsClosedCover net.arcs (commodity_at net (length above))) (sym (get_or-append_seam above c [] no_cover)) is)
    | inr less ↦ subst (IsClosedCover net.arcs (commodity_at net k)) (sym (get_or-append above (c ∷ []) no_cover k less)) (h k less)
  ]

  zip_from : (R : Commodity → CoverValue → Type 0) (ks : List Commodity) (cs : List CoverValue) → length cs ≡ length ks
      → ((k : ℕ) → k < length cs → R (slice_index_or ks k no_commodity) (slice_index_or cs k no_cover)) → AllZip R ks cs
  zip_from R [] [] size h = tt
  zip_from R [] (c ∷ cs) size h = absurd (omega (arith, size))
  zip_from R (k ∷ ks) [] size h = absurd (omega (arith, size))
  zip_from R (k ∷ ks) (c ∷ cs) size h = (h 0 (omega arith), zip_from R ks cs (omega (arith, size)) (λ i lt. h (suc i) (omega (arith, lt))))

  -- closed covers of all commodities
  pub all_closed : (covers : List CoverValue) → length covers ≡ length net.commodities → AreClosedSoFar net covers → AreClosedCovers net covers
  all_closed covers size h = zip_from (IsClosedCover net.arcs) net.commodities covers size h

module _ (net : Network) (f : Measures) (limits : IsNetwork net) (measures : AreMeasures net f) where
  more_covers : (n : ℕ) (above : List CoverValue) (lines behind : Lines) (covers : List CoverValue) → length above + n ≡ length net.commodities → AreClosedSoFar net above
      → more (cover_lines net f) n above lines ≡ Ok (covers, behind) → (length covers ≡ length net.commodities) × AreClosedSoFar net covers
  more_covers zero above lines behind covers size h e =
      let same : above ≡ covers = same_value above covers lines behind e in
      (omega (arith, size, ap length same), subst (AreClosedSoFar net) same h)
  more_covers (suc n) above lines behind covers size h e =
      let one = bind_parts (cover_lines net f above lines) _ covers behind e in
      more_covers n (above ++ one.0 ∷ []) one.1 behind covers (let long = length-append above (one.0 ∷ []) in omega (arith, size, long))
      (one_more net above one.0 h (one_cover net f limits measures above lines one.1 one.0 (omega (arith, size)) one.2)) one.3

  -- the covers that are read are closed
  pub covers_hold : (lines behind : Lines) (covers : List CoverValue) → all_covers net f lines ≡ Ok (covers, behind) → AreClosedCovers net covers
  covers_hold lines behind covers e =
      let all = more_covers (length net.commodities) [] lines behind covers (omega arith) (λ k lt. absurd (omega (arith, lt))) e in
      all_closed net covers all.0 all.1
