-- A search under way: its tree, the nodes that wait to be opened, and what is known of them between turns.
use Rattle.std.specs.Prelude.{◌≡◌, ℕ, ◌+◌, ◌*◌, ◌≤◌, Bool, true, List, ◌∷◌, All, Contains, count_by, filter, nat_eq, option_map}
use Rattle.std.specs.List.Sorted.{IsPermutation}
use Rattle.npp_frac.specs.Rational.{Rational, is_less, ◌≤ℚ◌}
use Rattle.npp_frac.specs.Wide.{value_of_wide}
use Rattle.npp_rows.specs.PathModel.{PathModel}
use Rattle.npp_rows.specs.Caps.{path_model}
use Rattle.npp_rows.specs.Limits.{path_total, IsWithinLimits}
use Rattle.npp_rows.specs.Lowering.{AreClosedCovers}
use Rattle.npp_rows.specs.Parts.{IsAllowed}
use Rattle.npp_tree.specs.Bounds.{At, bound_value}
use Rattle.npp_tree.specs.Tree.{Tree, Placed, placed}
use Rattle.npp_tree.specs.Keyed.{Held, HasKeys, without_key, without_keys}
use Rattle.npp_leaf.specs.Found.{best_value}
use Rattle.npp_search.specs.declared.setting.Setting.{Setting}
use Rattle.npp_search.specs.declared.waiting.Waiting.{Waiting}
use Rattle.npp_search.specs.declared.state.State.{State}
use Rattle.npp_search.specs.Problem.{Problem}
use Rattle.npp_search.specs.Grown.{Task, Growth, IsGrowing, IsLive, IsBestFirst, nodes_of}

-- ---- what is asked

abbrev pub problem_in : ℕ → Setting → Problem
problem_in limit s = record { limit = limit; paths = s.table }

abbrev pub task_in : Setting → Task
task_in s = record { family = s.allowed.now.parts; bound = bound_value s.bound; lower = value_of_wide s.lower; budget = s.budget }

-- closed covers with few paths, the table of them, and allowed paths of them
pub record IsSetting (s : Setting) : Type 0 where
  pub covers : AreClosedCovers s.instance.now s.covers.now
  pub few : path_total s.covers.now ≤ 16777216
  pub table : s.table ≡ path_model s.instance.now s.covers.now
  pub limits : IsWithinLimits s.table
  pub allowed : IsAllowed s.table s.allowed.now.parts

-- ---- the nodes that wait

abbrev pub bound_at : Waiting → Rational
bound_at w = value_of_wide w.seen.bound

-- it stands for this node of the tree
pub record StandsFor (w : Waiting) (p : Placed Held) : Type 0 where
  pub key : w.key ≡ p.node.key
  pub bound : At (bound_at w) ≡ p.node.node.bound
  pub family : w.allowed.parts ≡ p.family

-- how many have this key
abbrev pub waiting_count : List Waiting → ℕ → ℕ
waiting_count waiting key = count_by (λ w. nat_eq w.key key) waiting

-- exactly the live nodes wait, each once
pub record AreWaiting (nodes : List (Placed Held)) (lower : Rational) (waiting : List Waiting) : Type 0 where
  pub live : (w : Waiting) → Contains waiting w → (p : Placed Held) × Contains nodes p × StandsFor w p × IsLive lower (without_key p)
  pub all : (p : Placed Held) → Contains nodes p → IsLive lower (without_key p) → (w : Waiting) × Contains waiting w × StandsFor w p
  pub once : (key : ℕ) → waiting_count waiting key ≤ 1

-- one is taken out
pub record TakesOne (old new : List Waiting) (w : Waiting) : Type 0 where
  pub same : IsPermutation old (w ∷ new)

-- no other has a greater bound
abbrev pub IsGreatest : List Waiting → Waiting → Type 0
IsGreatest waiting w = (v : Waiting) → Contains waiting v → bound_at v ≤ℚ bound_at w

-- those whose bound is above a value
abbrev pub still_waiting : Rational → List Waiting → List Waiting
still_waiting lower waiting = filter (λ w. is_less lower (bound_at w)) waiting

-- ---- between turns

-- what was grown so far
abbrev pub growth_of : {N : Type 0} → (N → Rational) → State N → Growth
growth_of value s = record {
  tree = without_keys s.tree;
  opened = s.opened;
  lower = value_of_wide s.lower;
  best = option_map (best_value value) s.best;
}

-- its nodes with their keys
abbrev pub held_nodes : PathModel → Task → Tree Held → List (Placed Held)
held_nodes m task tree = placed (λ h. h.node.bound) m task.family task.bound tree

-- what is known between turns
pub record IsUnderWay {N : Type 0} (value : N → Rational) (P : Problem) (task : Task) (greatest_first : Bool) (s : State N) : Type 0 where
  pub growing : IsGrowing P task (growth_of value s)
  pub keys : HasKeys s.tree
  pub waiting : AreWaiting (held_nodes P.paths task s.tree) (value_of_wide s.lower) s.waiting
  pub best_first : greatest_first ≡ true → IsBestFirst (nodes_of P task (growth_of value s)) (value_of_wide s.lower)
  pub made : s.made ≤ 2 * s.opened + 1
  pub depths : All (λ w. w.seen.depth ≤ s.opened) s.waiting
