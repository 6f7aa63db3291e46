-- A node is opened: what the code finds of it, over the rational numbers.
use Rattle.std.proofs.Common.{◌≡◌, ◌+◌, ℕ, List, length, map, refl, sym, ◌∙◌, subst, ap, Option, Some, None}
use Rattle.std.specs.Prelude.{IfSome, option_map}
use Rattle.std.proofs.lemmas.List.{length-map}
use Rattle.npp_frac.specs.Rational.{Rational}
use Rattle.npp_frac.specs.Wide.{value_of_wide}
use Rattle.npp_tree.specs.declared.point.Point.{Point}
use Rattle.npp_tree.specs.Bounds.{BoundValue, At, bound_value}
use Rattle.npp_tree.specs.Evidence.{evidence_value}
use Rattle.npp_tree.specs.Keyed.{settled}
use Rattle.npp_tree.specs.Tree.{bound_after}
use Rattle.npp_leaf.specs.declared.work.LeafWork.{LeafWork}
use Rattle.npp_leaf.specs.Found.{Found, BestTolls, point_value, best_value, found_value}
use Rattle.npp_search.specs.declared.state.State.{State}
use Rattle.npp_search.specs.declared.waiting.Waiting.{Waiting}
use Rattle.npp_search.specs.Problem.{Problem}
use Rattle.npp_search.specs.Offer.{offer_with, offer_of}
use Rattle.npp_search.specs.Steps.{Raises, OpensNode}
use Rattle.npp_search.proofs.FoundLaws.{found_of}

module _ {N : Type 0} (value : N → Rational) where
  point_tolls : (o : Option (Point N)) → option_map (map value) (option_map (λ (x : Point N). x.tolls) o) ≡ option_map (λ (x : Point Rational). x.tolls) (option_map (point_value value) o)
  point_tolls None = refl
  point_tolls (Some x) = refl

  point_shares : (o : Option (Point N)) → option_map (map (map value)) (option_map (λ (x : Point N). x.shares) o) ≡ option_map (λ (x : Point Rational). x.shares) (option_map (point_value value) o)
  point_shares None = refl
  point_shares (Some x) = refl

  tolls_as_long : (n : ℕ) (o : Option (List N)) → IfSome (option_map (map value) o) (λ t. length t ≡ n) → IfSome o (λ t. length t ≡ n)
  tolls_as_long n None h = tt
  tolls_as_long n (Some t) h = sym (length-map t value) ∙ h

  module _ (work : LeafWork N) (f : Found) (found : found_value value work ≡ f) where
    -- what is offered
    pub offered_is : (P : Problem) (tolls : Option (List N)) → tolls ≡ option_map (λ (x : Point N). x.tolls) work.point
        → offer_with P (option_map (best_value value) work.best) (option_map (map value) tolls) ≡ offer_of P f
    offered_is P tolls same =
        ap (λ t. offer_with P (option_map (best_value value) work.best) (option_map (map value) t)) same
        ∙ (ap (offer_with P (option_map (best_value value) work.best)) (point_tolls work.point) ∙ ap (offer_of P) found)

    -- the shares of the point
    pub shares_are : (shares : Option (List (List N))) → shares ≡ option_map (λ (x : Point N). x.shares) work.point
        → option_map (map (map value)) shares ≡ option_map (λ (x : Point Rational). x.shares) f.point
    shares_are shares same =
        ap (option_map (map (map value))) same ∙ (point_shares work.point ∙ ap (λ (g : Found). option_map (λ (x : Point Rational). x.shares) g.point) found)

    -- the tolls of the point are as many as the toll arcs
    pub tolls_are : (n : ℕ) (tolls : Option (List N)) → tolls ≡ option_map (λ (x : Point N). x.tolls) work.point
        → IfSome (option_map (λ (x : Point Rational). x.tolls) f.point) (λ t. length t ≡ n) → IfSome tolls (λ t. length t ≡ n)
    tolls_are n tolls same h =
        let long : IfSome (option_map (map value) (option_map (λ (x : Point N). x.tolls) work.point)) (λ t. length t ≡ n) =
        subst (λ (o : Option (List Rational)). IfSome o (λ t. length t ≡ n)) (sym (point_tolls work.point ∙ ap (λ (g : Found). option_map (λ (x : Point Rational). x.tolls) g.point) found)) h in
        subst (λ (o : Option (List N)). IfSome o (λ t. length t ≡ n)) (sym same) (tolls_as_long n (option_map (λ (x : Point N). x.tolls) work.point) long)

-- a node is opened: it is settled with its evidence and its bound
module _ {N : Type 0} (value : N → Rational) (P : Problem) (old raised new : State N) (w : Waiting) (work : LeafWork N) (found : found_value value work ≡ found_of P w.allowed.parts) (b : BoundValue) where
  pub opens_node : (offer : Option BestTolls) → offer ≡ offer_of P (found_of P w.allowed.parts) → Raises value offer old raised
      → b ≡ bound_after (At (value_of_wide w.seen.bound)) (option_map bound_value work.value)
      → new.tree ≡ settled raised.tree (record { key = w.key; node = record { evidence = evidence_value value work.evidence; bound = b } })
      → new.waiting ≡ raised.waiting → new.opened ≡ raised.opened + 1 → new.made ≡ raised.made → new.lower ≡ raised.lower → new.best ≡ raised.best
      → OpensNode value P old new w b
  opens_node offer is raises bound tree waiting opened made lower best = record {
    raised = raised;
    raises = subst (λ (o : Option BestTolls). Raises value o old raised) is raises;
    bound = bound ∙ ap (λ (g : Found). bound_after (At (value_of_wide w.seen.bound)) g.value) found;
    tree = tree ∙ ap (λ (g : Found). settled raised.tree (record { key = w.key; node = record { evidence = g.evidence; bound = b } })) found;
    waiting = waiting;
    opened = opened;
    made = made;
    lower = lower;
    best = best;
  }
