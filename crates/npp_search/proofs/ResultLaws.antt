-- What is answered of a search that ended is grown.
use Rattle.std.proofs.Common.{◌≡◌, ◌⊎◌, Bool, true, List, sym, subst, ap}
use Rattle.std.specs.Prelude.{option_map}
use Rattle.npp_frac.specs.Rational.{Rational}
use Rattle.npp_frac.specs.Wide.{value_of_wide}
use Rattle.npp_rows.specs.Parts.{IsAllowed}
use Rattle.npp_tree.specs.Keyed.{without_keys}
use Rattle.npp_tree.specs.Tree.{Entry, nodes_below, preorder}
use Rattle.npp_leaf.specs.Found.{best_value}
use Rattle.npp_search.specs.declared.grown.Grown.{Grown}
use Rattle.npp_search.specs.declared.state.State.{State}
use Rattle.npp_search.specs.Problem.{Problem}
use Rattle.npp_search.specs.Grown.{Task, Growth, IsGrown, NoneIsLive, IsBestFirst, IsGrownFrom, IsGrownBestFirst, HasFewNodes, growth_with, nodes_of}
use Rattle.npp_search.specs.Search.{growth_of, IsUnderWay}
use Rattle.npp_search.specs.Result.{grown_value}
use Rattle.npp_search.proofs.StartLaws.{few_grown}

module _ {N : Type 0} (value : N → Rational) (P : Problem) (task : Task) (first : Bool) (s : State N) (h : IsUnderWay value P task first s) (g : Grown N)
    (tree : (grown_value value g).entries ≡ preorder (without_keys s.tree)) (opened : g.opened ≡ s.opened) (lower : g.lower ≡ s.lower) (best : g.best ≡ s.best) where
  same : growth_with (grown_value value g) (without_keys s.tree) ≡ growth_of value s
  same = λ i. record { tree = without_keys s.tree; opened = opened i; lower = value_of_wide (lower i); best = option_map (best_value value) (best i) }

  pub grown_from : (s.opened ≡ task.budget) ⊎ NoneIsLive (nodes_of P task (growth_of value s)) (value_of_wide s.lower) → IsGrownFrom P task (grown_value value g)
  grown_from ended = (without_keys s.tree, tree, subst (λ (x : Growth). IsGrown P task x) (sym same) (record { growing = h.growing; ended = ended }))

  pub grown_few : IsAllowed P.paths task.family → HasFewNodes task.family (grown_value value g).entries
  grown_few allowed = subst (λ (es : List Entry). HasFewNodes task.family es) (sym tree) (few_grown P task (growth_of value s) allowed h.growing)

  pub grown_best_first : first ≡ true → IsGrownBestFirst P task (grown_value value g)
  grown_best_first e = (
    without_keys s.tree,
    tree,
    subst (λ (q : Rational). IsBestFirst (nodes_below P.paths task.family task.bound (without_keys s.tree)) q) (sym (ap value_of_wide lower)) (h.best_first e),
  )
