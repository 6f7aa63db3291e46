-- The first fault of a draft. The least cost from a node on to the destination, at zero tolls, is given as `onward`:
-- None where no walk leads there.
use Rattle.std.specs.Prelude.{◌≡◌, ◌⊎◌, ℕ, ◌+◌, Bool, true, false, List, [], ◌∷◌, ◌++◌, length, Option, Some, None, option_map, if◌then◌else◌, ◌==◌, ◌&&◌, nat_lt, nat_le, not, find, bit_and, Result, MatchResult}
use Rattle.std.specs.Int.{bit_at}
use Rattle.std.specs.List.{list_any}
use Rattle.std.specs.Option.{option_or}
use Rattle.npp_net.specs.declared.types.ArcId.{ArcId}
use Rattle.npp_net.specs.declared.types.NodeId.{NodeId}
use Rattle.npp_net.specs.declared.types.NetArc.{NetArc}
use Rattle.npp_net.specs.declared.types.Commodity.{Commodity}
use Rattle.npp_net.specs.declared.types.Span.{Span}
use Rattle.npp_net.specs.Network.{arc_at, toll_number}
use Rattle.npp_net.specs.Walk.{walk_cost}
use Rattle.npp_net.specs.Ends.{leaving_arcs}
use Rattle.npp_cover.specs.declared.label.Label.{Label}
use Rattle.npp_cover.specs.declared.label.StepDraft.{StepDraft}
use Rattle.npp_cover.specs.declared.label.CoverDraft.{CoverDraft}
use Rattle.npp_cover.specs.declared.fault.CoverFault.{CoverFault}
use Rattle.npp_cover.specs.declared.fault.CoverFault.TheVariants.{TooManyLabels, NotAStep, RepeatedToll, Useless, BadFree, MissingOrigin, NotClosed, Memory}
use Rattle.npp_cover.specs.Labels.{label_at, with_arc, step_label, first_labels, labels_of}

-- how many labels there are, the start included
abbrev pub label_count : CoverDraft → ℕ
label_count d = (if d.started then 1 else 0) + length d.steps.items

-- whether this cost, with the least cost onward, is below the toll-free cost
abbrev pub is_below : ℕ → ℕ → Option ℕ → Bool
is_below free cost None = false
is_below free cost (Some more) = nat_lt (cost + more) free

-- whether a walk to v of this cost can still win
abbrev pub can_win : (ℕ → Option ℕ) → ℕ → ℕ → ℕ → Bool
can_win onward free v cost = is_below free cost (onward v)

-- whether the parent is lower, and the arc begins at its node
abbrev pub is_step : List NetArc → List Label → StepDraft → Bool
is_step arcs labels s =
    nat_lt s.parent (length labels) && nat_lt s.arc.0 (length arcs) && ((arc_at arcs s.arc).tail.0 == (label_at labels s.parent).node.0)

-- whether the arc is a toll arc that the set has
abbrev pub has_arc : List NetArc → ℕ → ArcId → Bool
has_arc arcs s a = (arc_at arcs a).toll && (bit_at s (toll_number arcs a) == 1)

-- what is wrong with a step after these labels. Its label's number is how many they are
abbrev pub step_fault : List NetArc → (ℕ → Option ℕ) → ℕ → List Label → StepDraft → Option CoverFault
step_fault arcs onward free labels s =
    if not (is_step arcs labels s) then Some (NotAStep (length labels))
    else (if has_arc arcs (label_at labels s.parent).tolls s.arc then Some (RepeatedToll (length labels))
    else (if can_win onward free (step_label arcs labels s).node.0 (step_label arcs labels s).cost then None
    else Some (Useless (length labels))))

-- what is wrong with the first faulty step after these labels
abbrev pub steps_fault : List NetArc → (ℕ → Option ℕ) → ℕ → List Label → List StepDraft → Option CoverFault
steps_fault arcs onward free labels [] = None
steps_fault arcs onward free labels (s ∷ rest) =
    option_or (step_fault arcs onward free labels s) (steps_fault arcs onward free (labels ++ step_label arcs labels s ∷ []) rest)

-- what is wrong with a start
abbrev pub start_fault : (ℕ → Option ℕ) → ℕ → NodeId → Option CoverFault
start_fault onward free origin = if can_win onward free origin.0 0 then None else Some (Useless 0)

-- what is wrong with the first faulty label. Without a start each step is no step, since there is no label to go on from
abbrev pub labels_fault : List NetArc → (ℕ → Option ℕ) → ℕ → NodeId → Bool → List StepDraft → Option CoverFault
labels_fault arcs onward free origin started steps =
    option_or (if started then start_fault onward free origin else None) (steps_fault arcs onward free (first_labels origin started) steps)

-- what is wrong with one more step: it makes too many labels, or is faulty
abbrev pub next_fault : List NetArc → (ℕ → Option ℕ) → ℕ → List Label → StepDraft → Option CoverFault
next_fault arcs onward free labels s =
    if nat_lt (length labels) 65536 then step_fault arcs onward free labels s else Some TooManyLabels

-- whether the arcs are a toll-free walk from u to v
abbrev pub is_free_walk : List NetArc → ℕ → ℕ → List ArcId → Bool
is_free_walk arcs u v [] = u == v
is_free_walk arcs u v (a ∷ rest) =
    nat_lt a.0 (length arcs) && ((arc_at arcs a).tail.0 == u) && not (arc_at arcs a).toll && is_free_walk arcs (arc_at arcs a).head.0 v rest

-- what is wrong with the free walk
abbrev pub free_fault : List NetArc → Commodity → ℕ → List ArcId → Option CoverFault
free_fault arcs k free walk =
    if is_free_walk arcs k.origin.0 k.destination.0 walk && (walk_cost arcs walk == free) then None else Some BadFree

-- whether there is no label
abbrev pub is_no_label : List Label → Bool
is_no_label [] = true
is_no_label (l ∷ labels) = false

-- a start is wanted where some walk costs less than the toll-free one
abbrev pub origin_fault : Span → List Label → Option CoverFault
origin_fault span labels = if is_no_label labels && nat_lt span.zero span.free then Some MissingOrigin else None

-- whether the label has a set within this one, at a cost not above
abbrev pub is_no_worse : Label → ℕ → ℕ → Bool
is_no_worse l s cost = nat_le l.cost cost && (bit_and l.tolls s == l.tolls)

-- whether some label at v is no worse than this pair
abbrev pub is_dominated : List Label → ℕ → ℕ → ℕ → Bool
is_dominated labels v s cost = list_any (λ l. (l.node.0 == v) && is_no_worse l s cost) labels

-- whether the label after this one, by this arc, can still win and no label dominates it
abbrev pub is_open : List NetArc → (ℕ → Option ℕ) → ℕ → List Label → Label → ArcId → Bool
is_open arcs onward free labels l a =
    can_win onward free (arc_at arcs a).head.0 (l.cost + (arc_at arcs a).cost)
    && not (is_dominated labels (arc_at arcs a).head.0 (with_arc arcs l.tolls a) (l.cost + (arc_at arcs a).cost))

-- the first arc by which the label is open
abbrev pub open_arc : List NetArc → (ℕ → Option ℕ) → ℕ → List Label → Label → Option ArcId
open_arc arcs onward free labels l = find (is_open arcs onward free labels l) (leaving_arcs arcs l.node.0)

-- the first open label among these, the first of which has number n, with its first open arc
abbrev pub closure_fault : List NetArc → (ℕ → Option ℕ) → ℕ → List Label → ℕ → List Label → Option CoverFault
closure_fault arcs onward free labels n [] = None
closure_fault arcs onward free labels n (l ∷ rest) =
    option_or (option_map (λ a. NotClosed n a) (open_arc arcs onward free labels l)) (closure_fault arcs onward free labels (n + 1) rest)

-- an extension that no label dominates
abbrev pub open_fault : List NetArc → (ℕ → Option ℕ) → ℕ → List Label → Option CoverFault
open_fault arcs onward free labels = closure_fault arcs onward free labels 0 labels

-- what is wrong once the labels stand: with the free walk, the start, or an extension that no label dominates
abbrev pub closing_fault : List NetArc → (ℕ → Option ℕ) → Commodity → Span → List Label → List ArcId → Option CoverFault
closing_fault arcs onward k span labels walk =
    option_or (free_fault arcs k span.free walk)
    (option_or (origin_fault span labels) (open_fault arcs onward span.free labels))

-- the first fault of a draft, in the order in which the rules are judged
abbrev pub cover_fault : List NetArc → (ℕ → Option ℕ) → Commodity → Span → CoverDraft → Option CoverFault
cover_fault arcs onward k span d =
    if nat_lt 65536 (label_count d) then Some TooManyLabels
    else option_or (labels_fault arcs onward span.free k.origin d.started d.steps.items)
    (closing_fault arcs onward k span (labels_of arcs k.origin d.started d.steps.items) d.free.arcs.items)

-- an answer without fault, exactly where there is none; or the fault, or want of memory
abbrev pub Answers : {X : Type 0} → Result X CoverFault → Option CoverFault → Type 0
Answers r fault = MatchResult r (λ _. fault ≡ None) (λ e. (e ≡ Memory) ⊎ (fault ≡ Some e))
