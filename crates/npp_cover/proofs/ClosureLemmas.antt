-- What the code finds of a label's extension, and what that says of it.
use Rattle.std.proofs.Common.{◌≡◌, ℕ, ◌+◌, ◌-◌, ◌<◌, ◌^◌, min, Bool, true, List, length, Option, Some, None, refl, sym, ◌∙◌, ap, arith, not, ◌&&◌, get_or, All, subst, nat_eq, nat_le, bit_and}
use Rattle.std.proofs.lemmas.Bool.Decides.{nat_tests}
use Rattle.npp_net.specs.declared.types.ArcId.{ArcId}
use Rattle.npp_net.specs.declared.types.NodeId.{NodeId}
use Rattle.npp_net.specs.declared.types.NetArc.{NetArc}
use Rattle.npp_net.specs.Network.{Network, IsNetwork, arc_at, no_arc}
use Rattle.npp_net.specs.declared.ends.End.TheVariants.{Tail}
use Rattle.npp_net.specs.Ends.{leaving_arcs}
use Rattle.npp_net.proofs.EndLaws.{IsEndAt, leaving_node}
use Rattle.npp_net.proofs.TollSetLemmas.{within_test}
use Rattle.std.proofs.lemmas.List.Folds.{list_any_at}
use Rattle.npp_cover.proofs.TestLemmas.{test_of_equal, test_of_le}
use Rattle.npp_cover.specs.declared.label.Label.{Label}
use Rattle.npp_cover.specs.Closed.{IsDominated}
use Rattle.npp_cover.specs.Labels.{no_label, label_at, label_after, with_arc, IsCapped}
use Rattle.npp_cover.specs.Fault.{is_below, can_win, is_no_worse, is_dominated, is_open}
use Rattle.npp_cover.specs.Dominance.{TableValue, nodes_of, answer_of, AnswersFor}

-- where a capped cost can win, it is the cost
uncapped : (free cost capped : ℕ) (o : Option ℕ) → free < 2 ^ 64 → capped ≡ min cost (2 ^ 64 - 1) → is_below free capped o ≡ true → capped ≡ cost
uncapped free cost capped None fits is wins = cc
uncapped free cost capped (Some more) fits is wins = let lt : capped + more < free = grind (arith, nat_tests) in omega arith

-- an extension that can win is open where the table of the labels does not answer that one dominates
pub open_is : (arcs : List NetArc) (onward : ℕ → Option ℕ) (free : ℕ) (labels : List Label) (l : Label) (parent : ℕ) (a : ArcId) (next : Label)
    (table : TableValue) (found : Bool) → free < 2 ^ 64 → IsCapped (label_after arcs l (record { parent = parent; arc = a })) next
    → can_win onward free next.node.0 next.cost ≡ true → AnswersFor labels table → next.node.0 < nodes_of table
    → found ≡ answer_of table next.node.0 next.tolls next.cost → not found ≡ is_open arcs onward free labels l a
open_is arcs onward free labels l parent a next table found fits capped wins answers lt is_found =
    let cost : next.cost ≡ l.cost + (arc_at arcs a).cost = uncapped free (l.cost + (arc_at arcs a).cost) next.cost (onward next.node.0) fits capped.cost wins in
    let test : found ≡ is_dominated labels next.node.0 next.tolls next.cost = is_found ∙ answers.each next.node.0 next.tolls next.cost lt in
    ap not test
    ∙ (ap (λ (b : Bool). b && not (is_dominated labels next.node.0 next.tolls next.cost)) (sym wins)
    ∙ (ap (λ (n : NodeId). can_win onward free n.0 next.cost && not (is_dominated labels n.0 next.tolls next.cost)) capped.node
    ∙ (ap (λ (s : ℕ). can_win onward free (arc_at arcs a).head.0 next.cost && not (is_dominated labels (arc_at arcs a).head.0 s next.cost)) capped.tolls
    ∙ ap (λ (c : ℕ). can_win onward free (arc_at arcs a).head.0 c && not (is_dominated labels (arc_at arcs a).head.0 (with_arc arcs l.tolls a) c)) cost)))

-- the head of an arc is a node
pub head_within : (net : Network) (a : ArcId) → IsNetwork net → a.0 < length net.arcs → (arc_at net.arcs a).head.0 < net.nodes
head_within net a limits lt = (limits.each_arc a.0 no_arc lt).head

-- each arc that leaves a node is an arc
pub leaving_within : (arcs : List NetArc) (v : ℕ) (items : List ArcId) (i : ℕ) → items ≡ leaving_arcs arcs v → i < length items
    → (get_or items i (record { 0 = 0 })).0 < length arcs
leaving_within arcs v items i is lt =
    let all : All (IsEndAt Tail arcs v (length arcs)) items = subst (λ (xs : List ArcId). All (IsEndAt Tail arcs v (length arcs)) xs) (sym is) (leaving_node arcs v) in
    (all i (record { 0 = 0 }) lt).in_range

-- a label that dominates passes the test
passes : (l : Label) (v s c : ℕ) → l.node.0 ≡ v → nat_le l.cost c ≡ true → nat_eq (bit_and l.tolls s) l.tolls ≡ true → (nat_eq l.node.0 v && is_no_worse l s c) ≡ true
passes l v s c node cost within = let here : nat_eq l.node.0 v ≡ true = test_of_equal l.node.0 v node in rw (here, cost, within)

pub test_of_dominated : (labels : List Label) (v s c : ℕ) → IsDominated labels v s c → is_dominated labels v s c ≡ true
test_of_dominated labels v s c found =
    let l : Label = label_at labels found.0 in
    list_any_at (λ x. nat_eq x.node.0 v && is_no_worse x s c) labels found.0 no_label found.1.in_range
    (passes l v s c found.1.there (test_of_le l.cost c found.1.dominates.cheaper) ((within_test l.tolls s l.tolls s refl refl).1 found.1.dominates.within))
