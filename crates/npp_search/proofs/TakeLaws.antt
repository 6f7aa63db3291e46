-- The node that a picker names is taken out, and dead nodes are dropped: what pickers see stays the same as what waits.
use Rattle.std.proofs.Common.{◌≡◌, ◌<◌, ◌-◌, take, ap₂, ℕ, Bool, true, false, cond, List, [], ◌∷◌, length, map, refl, sym, ◌∙◌, subst, ap, arith}
use Rattle.std.specs.Prelude.{slice_index_or, slice_set, filter}
use Rattle.std.specs.List.{swap_remove, take-map}
use Rattle.std.proofs.Math.ListN as listn
use Rattle.std.proofs.lemmas.List.{get_or-map, length-map, map-set}
use Rattle.std.proofs.lemmas.List.Sorted.{IsPermutation-swap_remove}
use Rattle.npp_frac.specs.Rational.{◌≤ℚ◌}
use Rattle.npp_frac.specs.Wide.{value_of_wide}
use Rattle.npp_search.specs.declared.picker.OpenNode.{OpenNode}
use Rattle.npp_search.specs.declared.waiting.Waiting.{Waiting}
use Rattle.npp_search.specs.Picker.{IsGreatestAt}
use Rattle.npp_search.specs.Search.{bound_at, TakesOne, IsGreatest}

-- what pickers see of nodes
abbrev pub seen_of : List Waiting → List OpenNode
seen_of nodes = map (λ (n : Waiting). n.seen) nodes

seen_at : (nodes : List Waiting) (live : List OpenNode) (i : ℕ) (w : Waiting) → live ≡ seen_of nodes → i < length nodes → slice_index_or nodes i w ≡ w → slice_index_or live i w.seen ≡ w.seen
seen_at nodes live i w same lt at =
    ap (λ (ns : List OpenNode). slice_index_or ns i w.seen) same
    ∙ (get_or-map (λ (n : Waiting). n.seen) nodes i w w.seen lt ∙ ap (λ (n : Waiting). n.seen) at)

-- the node that is named has the greatest bound
pub greatest_of_place : (nodes : List Waiting) (live : List OpenNode) (place : ℕ) (w : Waiting) → live ≡ seen_of nodes → place < length nodes → slice_index_or nodes place w ≡ w
    → IsGreatestAt live place → IsGreatest nodes w
greatest_of_place nodes live place w same lt at most v c =
    let left = seen_at nodes live c.0 v same c.1 c.2 in
    let right = seen_at nodes live place w same lt at in
    let long : c.0 < length live = omega (arith, c.1, ap length same, length-map nodes (λ (n : Waiting). n.seen)) in
    subst (λ (n : OpenNode). value_of_wide n.bound ≤ℚ bound_at w) left
    (subst (λ (n : OpenNode). value_of_wide (slice_index_or live c.0 v.seen).bound ≤ℚ value_of_wide n.bound) right (most w.seen c.0 v.seen long))

-- it is taken out, and the others stay
pub takes_one : (nodes rest : List Waiting) (place : ℕ) (w : Waiting) → place < length nodes → slice_index_or nodes place w ≡ w → rest ≡ swap_remove nodes place w → TakesOne nodes rest w
takes_one nodes rest place w lt at is =
    subst (λ (ws : List Waiting). TakesOne nodes ws w) (sym is) (record { same = IsPermutation-swap_remove nodes place w lt (sym at) })

swap_remove_seen : (nodes : List Waiting) (i : ℕ) (w : Waiting) → seen_of (swap_remove nodes i w) ≡ swap_remove (seen_of nodes) i w.seen
swap_remove_seen nodes i w =
    let f : Waiting → OpenNode = λ n. n.seen in
    let n = length nodes - 1 in
    sym (take-map f n (slice_set nodes i (slice_index_or nodes n w)))
    ∙ (ap (λ (ns : List OpenNode). take n ns) (map-set f nodes i (slice_index_or nodes n w))
    ∙ (ap (λ (y : OpenNode). take n (slice_set (seen_of nodes) i y)) (sym (listn.get_or-map f nodes n w))
    ∙ ap (λ (k : ℕ). take (k - 1) (slice_set (seen_of nodes) i (slice_index_or (seen_of nodes) (k - 1) w.seen))) (sym (length-map nodes f))))

-- the same is taken out of both lists
pub seen_removed : (nodes rest : List Waiting) (live left : List OpenNode) (place : ℕ) (w : Waiting) (n : OpenNode) → live ≡ seen_of nodes → place < length nodes → w ≡ slice_index_or nodes place w
    → n ≡ slice_index_or live place n → left ≡ swap_remove live place n → rest ≡ swap_remove nodes place w → left ≡ seen_of rest
seen_removed nodes rest live left place w n same lt at seen is_left is_rest =
    let one : n ≡ w.seen = seen ∙ (ap (λ (ns : List OpenNode). slice_index_or ns place n) same ∙ (get_or-map (λ (x : Waiting). x.seen) nodes place w n lt ∙ ap (λ (x : Waiting). x.seen) (sym at))) in
    is_left ∙ (ap₂ (λ (ns : List OpenNode) (x : OpenNode). swap_remove ns place x) same one ∙ (sym (swap_remove_seen nodes place w) ∙ ap seen_of (sym is_rest)))

-- what a test keeps of an image is the image of what it keeps
pub filter_of_map : {X Y : Type 0} (f : X → Y) (test : Y → Bool) (xs : List X) → filter test (map f xs) ≡ map f (filter (λ x. test (f x)) xs)
filter_of_map f test [] = refl
filter_of_map f test (x ∷ xs) = by (test (f x)) (filter_of_map f test xs)
  where
    by : (b : Bool) → filter test (map f xs) ≡ map f (filter (λ z. test (f z)) xs)
        → cond b (f x ∷ filter test (map f xs)) (filter test (map f xs)) ≡ map f (cond b (x ∷ filter (λ z. test (f z)) xs) (filter (λ z. test (f z)) xs))
    by true further = ap (λ ys. f x ∷ ys) further
    by false further = further
