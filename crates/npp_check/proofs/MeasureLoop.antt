-- The measures of the commodities are found one after another.
use Rattle.std.specs.Prelude.{◌≡◌, ℕ, zero, suc, List, [], ◌∷◌, ◌++◌, map, option_map, slice_index_or, true, Option, None, refl}
use Rattle.std.proofs.Common.{sym, ◌∙◌, subst}
use Rattle.std.proofs.lemmas.List.{length-map}
use Rattle.npp_net.specs.declared.types.NetArc.{NetArc}
use Rattle.npp_net.specs.declared.types.Commodity.{Commodity}
use Rattle.npp_net.specs.Distance.{IsDistance}
use Rattle.npp_short.specs.declared.reach.Reach.{Reach}
use Rattle.npp_short.specs.Reach.{cost_at}
use Rattle.npp_short.specs.Potentials.{AreDistances}
use Rattle.npp_check.specs.Measures.{AreOnward, AreAllOnward}

-- the costs of a table
abbrev pub costs_of : List (Option Reach) → List (Option ℕ)
costs_of table = map (option_map (λ r. r.cost)) table

pub cost_there : (table : List (Option Reach)) (v : ℕ) → slice_index_or (costs_of table) v None ≡ cost_at table v
cost_there [] v = refl
cost_there (r ∷ table) zero = refl
cost_there (r ∷ table) (suc v) = cost_there table v

pub onward_is : (arcs : List NetArc) (nodes : ℕ) (k : Commodity) (table : List (Option Reach)) → AreDistances arcs true nodes k.destination.0 table → AreOnward arcs nodes k (costs_of table)
onward_is arcs nodes k table h = record {
  size = length-map table (option_map (λ (r : Reach). r.cost)) ∙ h.size;
  each = λ v lt. subst (IsDistance arcs true v k.destination.0) (sym (cost_there table v)) (h.each v lt);
}

pub onward_push : (arcs : List NetArc) (nodes : ℕ) (ks : List Commodity) (os : List (List (Option ℕ))) (k : Commodity) (o : List (Option ℕ)) → AreAllOnward arcs nodes ks os → AreOnward arcs nodes k o
    → AreAllOnward arcs nodes (ks ++ k ∷ []) (os ++ o ∷ [])
onward_push arcs nodes [] [] k o h is = (is, tt)
onward_push arcs nodes [] (x ∷ os) k o h is = absurd h
onward_push arcs nodes (x ∷ ks) [] k o h is = absurd h
onward_push arcs nodes (x ∷ ks) (y ∷ os) k o h is = (h.0, onward_push arcs nodes ks os k o h.1 is)
