-- Useful covers are covers, and the draft of one has no fault and gives it again.
use Rattle.std.proofs.Common.{◌≡◌, ℕ, ◌<◌, List, [], ◌∷◌, length, Option, Some, None, MatchOption, refl, sym, ◌∙◌, ap, arith}
use Rattle.npp_net.specs.declared.types.ArcId.{ArcId}
use Rattle.npp_net.specs.declared.types.NetArc.{NetArc}
use Rattle.npp_net.specs.declared.types.Commodity.{Commodity}
use Rattle.npp_net.specs.Network.{Network, IsNetwork}
use Rattle.npp_cover.specs.declared.label.Label.{Label}
use Rattle.npp_cover.specs.declared.label.CoverDraft.{CoverDraft}
use Rattle.npp_cover.specs.Labels.{label_at, start_label}
use Rattle.npp_cover.specs.Closed.{GoesBy}
use Rattle.npp_cover.specs.Replaces.{CoverValue}
use Rattle.npp_cover.specs.Drafts.{StartsFirst, IsDraftOf, GivesCover}
use Rattle.std.specs.List.{AllZip}
use Rattle.npp_cover.specs.Choices.{IsClosedCover, AreClosedCovers}
use Rattle.npp_cover.proofs.OnwardLaws.{AreOnward}
use Rattle.npp_cover.proofs.DraftLaws.{draft_gives}
use Rattle.npp_labels.specs.Useful.{IsAs}
use Rattle.npp_labels.specs.Covers.{IsUsefulCover, AreUsefulCovers}

start_by : (arcs : List NetArc) (k : Commodity) (i : ℕ) (l from : Label) (o : Option ArcId) → l.last ≡ o → MatchOption o (l ≡ start_label k.origin) (GoesBy arcs i l from)
    → l.last ≡ None → l ≡ start_label k.origin
start_by arcs k i l from None last start none = start
start_by arcs k i l from (Some a) last goes none = let e : Some a ≡ None = sym last ∙ none in cc

first_by : (arcs : List NetArc) (k : Commodity) (l from : Label) (o : Option ArcId) → MatchOption o (l ≡ start_label k.origin) (GoesBy arcs 0 l from) → l ≡ start_label k.origin
first_by arcs k l from None start = start
first_by arcs k l from (Some a) goes = absurd (omega (arith, goes.lower))

same_as : (l m : Label) → l ≡ m → IsAs l m.node.0 m.tolls m.cost
same_as l m e = record { node = ap (λ (x : Label). x.node.0) e; tolls = ap (λ (x : Label). x.tolls) e; cost = ap (λ (x : Label). x.cost) e }

-- the start stands once
pub starts_first : (arcs : List NetArc) (k : Commodity) (c : CoverValue) → IsUsefulCover arcs k c → StartsFirst c.labels
starts_first arcs k c is i lt none =
    let some : 0 < length c.labels = omega arith in
    let closed = is.cover.closed in
    let here = start_by arcs k i (label_at c.labels i) (label_at c.labels (label_at c.labels i).parent) (label_at c.labels i).last refl (closed.each i lt) none in
    let first = first_by arcs k (label_at c.labels 0) (label_at c.labels (label_at c.labels 0).parent) (label_at c.labels 0).last (closed.each 0 some) in
    is.labels.useful.once i 0 lt some (same_as (label_at c.labels i) (label_at c.labels 0) (here ∙ sym first))

-- what is told of a useful cover has no fault, and gives the same labels and paths
pub useful_draft : (net : Network) → IsNetwork net → (k : Commodity) → k.origin.0 < net.nodes → (onward : ℕ → Option ℕ) → AreOnward net k onward
    → (c : CoverValue) (is : IsUsefulCover net.arcs k c) (d : CoverDraft) → IsDraftOf c d → GivesCover net.arcs onward k is.span d c
useful_draft net limits k origin onward are_onward c is d drafts =
    draft_gives net limits k origin is.span onward are_onward c is.cover (starts_first net.arcs k c is) d drafts

each_closed : (net : Network) (ks : List Commodity) (cs : List CoverValue) → AreUsefulCovers net.arcs ks cs → AllZip (IsClosedCover net.arcs) ks cs
each_closed net [] [] are = tt
each_closed net [] (c ∷ cs) are = absurd are
each_closed net (k ∷ ks) [] are = absurd are
each_closed net (k ∷ ks) (c ∷ cs) are = ((are.0.span, are.0.is_span, are.0.cover), each_closed net ks cs are.1)

pub closed_covers : (net : Network) (cs : List CoverValue) → AreUsefulCovers net.arcs net.commodities cs → AreClosedCovers net cs
closed_covers net cs are = each_closed net net.commodities cs are
