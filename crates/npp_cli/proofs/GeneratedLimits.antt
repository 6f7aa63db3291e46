-- A generated instance keeps all limits.
use Rattle.std.proofs.Common.{◌≡◌, ◌≢◌, ◌⊎◌, inl, inr, ℕ, zero, suc, ◌+◌, ◌<◌, Option, None, Some, List, [], ◌∷◌, ◌++◌, map, flat_map, refl, arith}
use Rattle.std.specs.List.{range_with_len}
use Rattle.std.proofs.lemmas.Bool.Decides.{nat_tests}
use Rattle.npp_net.specs.declared.types.NetArc.{NetArc}
use Rattle.npp_net.specs.declared.types.Commodity.{Commodity}
use Rattle.npp_net.specs.declared.refusal.NetRefusal.{NetRefusal}
use Rattle.npp_net.specs.declared.refusal.NetRefusal.TheVariants.{Memory}
use Rattle.npp_net.specs.Refusal.{or_else, first_of_list, refusal_of_counts, refusal_of_arc, refusal_of_commodity, refusal_of_none, refusal_of}
use Rattle.npp_cli.specs.Generated.{generated, generated_arcs, generated_pairs, first_numbers, spread, main_arc, side_arcs, side_pair, ramp_arcs}

neither : (a b : Option NetRefusal) → or_else a b ≡ None → (a ≡ None) × (b ≡ None)
neither None b none = (refl, none)
neither (Some r) b none = cc

-- no member of a joined list meets a refusal where none of either part does
append_none : {X : Type 0} (test : X → Option NetRefusal) (xs ys : List X)
    → first_of_list test xs ≡ None → first_of_list test ys ≡ None → first_of_list test (xs ++ ys) ≡ None
append_none test [] ys first second = second
append_none test (x ∷ xs) ys first second =
    let split = neither (test x) (first_of_list test xs) first in
    rw (split.0) (append_none test xs ys split.1 second)

map_none : {X : Type 0} (test : X → Option NetRefusal) (f : ℕ → X) (a n : ℕ) → ((i : ℕ) → i < a + n → test (f i) ≡ None)
    → first_of_list test (map f (range_with_len a n)) ≡ None
map_none test f a zero each = refl
map_none test f a (suc n) each = rw (each a (omega arith)) (map_none test f (a + 1) n (λ i lt. each i (omega arith)))

flat_map_none : {X : Type 0} (test : X → Option NetRefusal) (f : ℕ → List X) (a n : ℕ) → ((i : ℕ) → i < a + n → first_of_list test (f i) ≡ None)
    → first_of_list test (flat_map f (range_with_len a n)) ≡ None
flat_map_none test f a zero each = refl
flat_map_none test f a (suc n) each =
    append_none test (f a) (flat_map f (range_with_len (a + 1) n)) (each a (omega arith)) (flat_map_none test f (a + 1) n (λ i lt. each i (omega arith)))

main_arc_none : (s i : ℕ) → i < 12 → refusal_of_arc 26 (main_arc s i) ≡ None
main_arc_none s i lt =
    let small : spread s i 3 < 3 = omega arith in
    grind (arith, nat_tests)

side_arcs_none : (s i : ℕ) → i < 12 → first_of_list (refusal_of_arc 26) (side_arcs s i) ≡ None
side_arcs_none s i lt =
    let small : spread s (i + 100) 4 < 4 = omega arith in
    grind (arith, nat_tests)

side_pair_none : (s j : ℕ) → refusal_of_commodity 26 (side_pair s j) ≡ None
side_pair_none s j =
    let start : spread s (j + 200) 7 < 7 = omega arith in
    let end : spread s (j + 300) 4 < 4 = omega arith in
    let demand : spread s (j + 400) 20 < 20 = omega arith in
    grind (arith, nat_tests)

counts_none : (s : ℕ) → refusal_of_counts (generated s).instance ≡ None
counts_none s = refl

arcs_none : (s : ℕ) → first_of_list (refusal_of_arc 26) (generated_arcs s) ≡ None
arcs_none s =
    let main : List NetArc = map (main_arc s) (first_numbers 12) in
    let side : List NetArc = flat_map (side_arcs s) (first_numbers 12) in
    let ramps : List NetArc = flat_map ramp_arcs (0 ∷ 3 ∷ 6 ∷ 9 ∷ 12 ∷ []) in
    append_none (refusal_of_arc 26) main (side ++ ramps) (map_none (refusal_of_arc 26) (main_arc s) 0 12 (main_arc_none s))
    (append_none (refusal_of_arc 26) side ramps (flat_map_none (refusal_of_arc 26) (side_arcs s) 0 12 (side_arcs_none s)) refl)

pairs_none : (s : ℕ) → first_of_list (refusal_of_commodity 26) (generated_pairs s) ≡ None
pairs_none s = map_none (refusal_of_commodity 26) (side_pair s) 0 10 (λ j lt. side_pair_none s j)

some_pair : (s : ℕ) → refusal_of_none (generated_pairs s) ≡ None
some_pair s = refl

keeps_limits : (s : ℕ) → refusal_of (generated s).instance ≡ None
keeps_limits s = rw (counts_none s, arcs_none s, pairs_none s) (some_pair s)

-- so only memory can be wanting for it
pub only_memory : (s : ℕ) (arcs : List NetArc) (pairs : List Commodity) (refusal : NetRefusal) → arcs ≡ generated_arcs s → pairs ≡ generated_pairs s
    → (refusal ≡ Memory) ⊎ (refusal_of (record { nodes = 26; arcs = arcs; commodities = pairs }) ≡ Some refusal) → refusal ≢ Memory → ⊥
only_memory s arcs pairs refusal arcs_are pairs_are (inl memory) other = other memory
only_memory s arcs pairs refusal arcs_are pairs_are (inr refused) other =
    let none = keeps_limits s in
    let same = rw (arcs_are, pairs_are) at refused in
    cc
