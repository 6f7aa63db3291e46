-- The lines of the head are read: the form, and in the second form the instance.
use Rattle.std.specs.Prelude.{◌≡◌, ℕ, zero, suc, ◌+◌, Bool, true, false, not, ◌==◌, ◌&&◌, ◌||◌, nat_lt, if◌then◌else◌, List, [], ◌∷◌, length, map, slice_index_or, Option, Some, None, Ok, refl, is_some}
use Rattle.std.specs.List.{range_with_len, list_any}
use Rattle.std.proofs.Common.{arith, ap, sym, ◌∙◌, subst, eq-eqb}
use Rattle.std.proofs.lemmas.List.FromFn.{length-map-range_with_len, get_or-map-range_with_len}
use Rattle.std.proofs.lemmas.Bool.{and_from}
use Rattle.npp_frac.specs.Rational.{Rational}
use Rattle.npp_net.specs.Network.{Network, toll_count, ceiling_of}
use Rattle.npp_tree.specs.declared.item.Item.{Item}
use Rattle.npp_tree.specs.declared.item.Item.TheVariants as item
use Rattle.npp_tree.specs.Lines.{numbered, instance_lines as instance_items}
use Rattle.npp_report.specs.Report.{names_instance}
use Rattle.npp_check.specs.declared.refusal.Rule.TheVariants.{Order, Instance}
use Rattle.npp_check.specs.HeadLines.{header_line, instance_line, same_ceiling, limit_line, instance_lines}
use Rattle.npp_check.specs.Reads.{line, more}
use Rattle.npp_check.specs.Rules.{broken_if}
use Rattle.npp_accept.proofs.GivesLemmas.{Gives, gives_done, gives_line, gives_bind, gives_each}
use Rattle.npp_accept.proofs.Passes.{keeps, numbered_so}

-- ---- the form

form_says : (net : Network) (named many : Bool) → many ≡ nat_lt 64 (toll_count net.arcs)
    → header_line net (if named || many then item.HeaderTwo else item.Header) ≡ Ok (named || many)
form_says net true many e = refl
form_says net false true e = refl
form_says net false false e = ap (λ (b : Bool). broken_if b Instance (Ok false)) (sym e)

-- the first form stands only where there are few toll arcs
pub header_says : (net : Network) → header_line net (if names_instance net then item.HeaderTwo else item.Header) ≡ Ok (names_instance net)
header_says net = form_says net (list_any (λ x. is_some x.ceiling) net.arcs) (nat_lt 64 (toll_count net.arcs)) refl

-- ---- the instance

same_ceiling_self : (u : Option ℕ) → same_ceiling u u ≡ true
same_ceiling_self None = refl
same_ceiling_self (Some u) = eq-eqb u u refl

sizes_say : (net : Network) → instance_line net (item.InstanceIs net.nodes (length net.arcs) (toll_count net.arcs) (length net.commodities)) ≡ Ok tt
sizes_say net =
    let nodes = eq-eqb net.nodes net.nodes refl in
    let arcs = eq-eqb (length net.arcs) (length net.arcs) refl in
    let tolls = eq-eqb (toll_count net.arcs) (toll_count net.arcs) refl in
    let commodities = eq-eqb (length net.commodities) (length net.commodities) refl in
    keeps ((net.nodes == net.nodes) && (length net.arcs == length net.arcs) && (toll_count net.arcs == toll_count net.arcs) && (length net.commodities == length net.commodities)) Instance (Ok tt)
    (and_from ((net.nodes == net.nodes) && (length net.arcs == length net.arcs) && (toll_count net.arcs == toll_count net.arcs)) (length net.commodities == length net.commodities)
    (and_from ((net.nodes == net.nodes) && (length net.arcs == length net.arcs)) (toll_count net.arcs == toll_count net.arcs) (and_from (net.nodes == net.nodes) (length net.arcs == length net.arcs) nodes arcs) tolls) commodities)

limit_says : (net : Network) (a : ℕ) (u : Option ℕ) → u ≡ ceiling_of net.arcs a → limit_line net a (item.Limit a u) ≡ Ok u
limit_says net a u e =
    numbered_so a Order (broken_if (not (same_ceiling u (ceiling_of net.arcs a))) Instance (Ok u))
    ∙ keeps (same_ceiling u (ceiling_of net.arcs a)) Instance (Ok u) (ap (same_ceiling u) (sym e) ∙ same_ceiling_self u)

numbered-map-range : {X : Type 0} (make : ℕ → X → Item Rational) (f : ℕ → X) (a n : ℕ) → numbered make a (map f (range_with_len a n)) ≡ map (λ i. make i (f i)) (range_with_len a n)
numbered-map-range make f a zero = refl
numbered-map-range make f a (suc n) = ap (λ (items : List (Item Rational)). make a (f a) ∷ items) (numbered-map-range make f (a + 1) n)

-- the ceilings of all toll arcs
abbrev pub ceilings_of : Network → List (Option ℕ)
ceilings_of net = map (ceiling_of net.arcs) (range_with_len 0 (toll_count net.arcs))

gives_ceilings : (net : Network)
    → Gives (more (λ above. line (limit_line net (length above))) (toll_count net.arcs) []) (map (λ a. item.Limit a (ceiling_of net.arcs a)) (range_with_len 0 (toll_count net.arcs))) (ceilings_of net)
gives_ceilings net =
    let us : List (Option ℕ) = ceilings_of net in
    let make : ℕ → Option ℕ → Item Rational = λ a u. item.Limit a u in
    let size : length (ceilings_of net) ≡ toll_count net.arcs = length-map-range_with_len (ceiling_of net.arcs) 0 (toll_count net.arcs) in
    let items : numbered make 0 (ceilings_of net) ≡ map (λ a. make a (ceiling_of net.arcs a)) (range_with_len 0 (toll_count net.arcs)) = numbered-map-range make (ceiling_of net.arcs) 0 (toll_count net.arcs) in
    let all : Gives (more (λ above. line (limit_line net (length above))) (length (ceilings_of net)) []) (numbered make 0 (ceilings_of net)) (ceilings_of net) =
    gives_each (limit_line net) make None (ceilings_of net) (λ i lt.
    limit_says net i (slice_index_or (ceilings_of net) i None) (get_or-map-range_with_len (ceiling_of net.arcs) 0 (toll_count net.arcs) i i None (omega (arith, lt, size)) (omega arith))) in
    subst (λ (n : ℕ). Gives (more (λ above. line (limit_line net (length above))) n []) (map (λ a. make a (ceiling_of net.arcs a)) (range_with_len 0 (toll_count net.arcs))) (ceilings_of net)) size
    (subst (λ (xs : List (Item Rational)). Gives (more (λ above. line (limit_line net (length above))) (length (ceilings_of net)) []) xs (ceilings_of net)) items all)

-- what the second form says of the instance, and the first form leaves out
abbrev pub ceilings_named : Network → Bool → List (Option ℕ)
ceilings_named net two = if two then ceilings_of net else []

abbrev pub items_of_instance : Network → Bool → List (Item Rational)
items_of_instance net two = if two then instance_items net else []

pub gives_instance : (net : Network) (two : Bool) → Gives (instance_lines net two) (items_of_instance net two) (ceilings_named net two)
gives_instance net false = gives_done []
gives_instance net true =
    gives_bind (line (instance_line net)) (λ _. more (λ above. line (limit_line net (length above))) (toll_count net.arcs) [])
    (item.InstanceIs net.nodes (length net.arcs) (toll_count net.arcs) (length net.commodities) ∷ []) (map (λ a. item.Limit a (ceiling_of net.arcs a)) (range_with_len 0 (toll_count net.arcs)))
    tt (ceilings_of net)
    (gives_line (instance_line net) (item.InstanceIs net.nodes (length net.arcs) (toll_count net.arcs) (length net.commodities)) tt (sizes_say net)) (gives_ceilings net)
