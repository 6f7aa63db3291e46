-- What the steps of a turn do to a search.
use Rattle.std.specs.Prelude.{◌≡◌, ◌⊎◌, ℕ, ◌+◌, true, List, [], ◌∷◌, ◌++◌, Option, Some, IfSome, option_map, if◌then◌else◌}
use Rattle.std.specs.List.Sorted.{IsPermutation}
use Rattle.npp_frac.specs.Rational.{Rational, is_less, ◌≤ℚ◌, ◌<ℚ◌}
use Rattle.npp_frac.specs.declared.frac128.Frac128.{Frac128}
use Rattle.npp_frac.specs.Wide.{value_of_wide}
use Rattle.npp_rows.specs.declared.allowed.Allowed.{Allowed}
use Rattle.npp_rows.specs.PathModel.{PathModel}
use Rattle.npp_rows.specs.Parts.{is_full}
use Rattle.npp_tree.specs.declared.bound.Bound.{Bound}
use Rattle.npp_tree.specs.declared.bound.Bound.TheVariants as bound
use Rattle.npp_tree.specs.Bounds.{BoundValue, At, bound_value, IsAbove, IsUpTo}
use Rattle.npp_tree.specs.Family.{Family, Division, Divides, first_of, second_of}
use Rattle.npp_tree.specs.Tree.{bound_before, bound_after}
use Rattle.npp_tree.specs.Keyed.{AreFresh, split_at, settled, unopened}
use Rattle.npp_leaf.specs.Found.{BestTolls, best_value}
use Rattle.npp_leaf.specs.Work.{leaf_work}
use Rattle.npp_search.specs.Problem.{Problem}
use Rattle.npp_search.specs.Offer.{offer_of}
use Rattle.npp_search.specs.Rule.{IsByRule}
use Rattle.npp_search.specs.Search.{still_waiting}
use Rattle.npp_search.specs.declared.waiting.Waiting.{Waiting}
use Rattle.npp_search.specs.declared.state.State.{State}

-- ---- the lower value

-- all but the lower value and what earns it stay
pub record KeepsTree {N : Type 0} (old new : State N) : Type 0 where
  pub tree : new.tree ≡ old.tree
  pub waiting : new.waiting ≡ old.waiting
  pub opened : new.opened ≡ old.opened
  pub made : new.made ≡ old.made

-- the lower value is raised to what is offered
pub record RisesTo {N : Type 0} (value : N → Rational) (old new : State N) (b : BestTolls) : Type 0 where
  pub more : value_of_wide old.lower <ℚ b.reply.revenue
  pub lower : value_of_wide new.lower ≡ b.reply.revenue
  pub best : option_map (best_value value) new.best ≡ Some b

-- it stays, since no more is offered
pub record StaysAt {N : Type 0} (offer : Option BestTolls) (old new : State N) : Type 0 where
  pub same : new ≡ old
  pub no_more : IfSome offer (λ b. b.reply.revenue ≤ℚ value_of_wide old.lower)

-- it is raised to what is offered, if that is more
pub record Raises {N : Type 0} (value : N → Rational) (offer : Option BestTolls) (old new : State N) : Type 0 where
  pub keeps : KeepsTree old new
  pub cases : StaysAt offer old new ⊎ ((b : BestTolls) × (offer ≡ Some b) × RisesTo value old new b)

-- ---- children

-- a node that waits
abbrev pub waiting_at : ℕ → ℕ → ℕ → Allowed → Frac128 → Waiting
waiting_at number key depth allowed v = record { seen = record { number = number; depth = depth; bound = v }; key = key; allowed = allowed }

-- a child waits where its bound is above the lower value
abbrev pub child : ℕ → ℕ → ℕ → Allowed → Rational → Bound → List Waiting
child number key depth allowed lower bound.Empty = []
child number key depth allowed lower (bound.At v) =
    if is_less lower (value_of_wide v) then waiting_at number key depth allowed v ∷ [] else []

-- a node is made, and waits where it may be opened
pub record Makes {N : Type 0} (old new : State N) (added : List Waiting) : Type 0 where
  pub tree : new.tree ≡ old.tree
  pub waiting : new.waiting ≡ old.waiting ++ added
  pub opened : new.opened ≡ old.opened
  pub made : new.made ≡ old.made + 1
  pub lower : new.lower ≡ old.lower
  pub best : new.best ≡ old.best

-- a leaf is split, and its children wait where they may be opened
pub record Splits {N : Type 0} (m : PathModel) (old new : State N) (key depth : ℕ) (family : Family) (b : BoundValue) (d : Division) : Type 0 where
  pub one : ℕ
  pub other : ℕ
  pub first : Bound
  pub second : Bound
  pub fresh : AreFresh old.tree one other
  pub first_bound : bound_value first ≡ bound_before m (first_of family d) b
  pub second_bound : bound_value second ≡ bound_before m (second_of family d) b
  pub tree : new.tree ≡ split_at old.tree key d (unopened one (bound_value first)) (unopened other (bound_value second))
  pub waiting : new.waiting ≡ old.waiting
      ++ (child old.made one (depth + 1) (record { parts = first_of family d }) (value_of_wide old.lower) first
      ++ child (old.made + 1) other (depth + 1) (record { parts = second_of family d }) (value_of_wide old.lower) second)
  pub opened : new.opened ≡ old.opened
  pub made : new.made ≡ old.made + 2
  pub lower : new.lower ≡ old.lower
  pub best : new.best ≡ old.best

-- a node stays a leaf
pub record StaysLeaf {N : Type 0} (old new : State N) (family : Family) (b : BoundValue) : Type 0 where
  pub same : new ≡ old
  pub settled : IsUpTo b (value_of_wide old.lower) ⊎ (is_full family ≡ true)

-- or is split as the rule says, at a bound above the lower value
pub record IsSplitBy {N : Type 0} (m : PathModel) (old new : State N) (key depth : ℕ) (family : Family) (b : BoundValue) (shares : Option (List (List Rational))) : Type 0 where
  pub division : Division
  pub divides : Divides family division
  pub rule : IsByRule family shares division
  pub above : IsAbove b (value_of_wide old.lower)
  pub splits : Splits m old new key depth family b division

abbrev pub Branches : {N : Type 0} → PathModel → State N → State N → ℕ → ℕ → Family → BoundValue → Option (List (List Rational)) → Type 0
Branches m old new key depth family b shares = StaysLeaf old new family b ⊎ IsSplitBy m old new key depth family b shares

-- ---- a node is opened

-- its evidence is found, what it offers is taken, and it is settled with its bound
pub record OpensNode {N : Type 0} (value : N → Rational) (P : Problem) (old new : State N) (w : Waiting) (b : BoundValue) : Type 0 where
  pub raised : State N
  pub raises : Raises value (offer_of P (leaf_work P.limit P.paths w.allowed.parts [])) old raised
  pub bound : b ≡ bound_after (At (value_of_wide w.seen.bound)) (leaf_work P.limit P.paths w.allowed.parts []).value
  pub tree : new.tree ≡ settled raised.tree (record { key = w.key; node = record { evidence = (leaf_work P.limit P.paths w.allowed.parts []).evidence; bound = b } })
  pub waiting : new.waiting ≡ raised.waiting
  pub opened : new.opened ≡ raised.opened + 1
  pub made : new.made ≡ raised.made
  pub lower : new.lower ≡ raised.lower
  pub best : new.best ≡ raised.best

-- ---- dead nodes

-- the nodes that the lower value cuts off wait no longer; all else stays
pub record DropsOnly {N : Type 0} (old new : State N) : Type 0 where
  pub waiting : IsPermutation (still_waiting (value_of_wide old.lower) old.waiting) new.waiting
  pub tree : new.tree ≡ old.tree
  pub opened : new.opened ≡ old.opened
  pub made : new.made ≡ old.made
  pub lower : new.lower ≡ old.lower
  pub best : new.best ≡ old.best
