use Rattle.std.proofs.Common.{◌≡◌, List, Option, Some, None, sym, subst, arith}
use Rattle.std.specs.Prelude.{IfSome, IfNone}
use Rattle.npp_frac.specs.Rational.{Rational}
use Rattle.npp_frac.specs.Fits.{limit_of}
use Rattle.npp_rows.specs.PathModel.{PathModel}
use Rattle.npp_inverse.specs.Offers.{HasUsefulPaths}
use Rattle.npp_inverse.proofs.CoverLaws.{has_useful_paths}
use Rattle.npp_tree.specs.Bounds.{bound_value}
use Rattle.npp_search.specs.Scan.{AreSharesOf}
use Rattle.npp_search.specs.Search.{TakesOne, IsGreatest, problem_in, task_in}
use Rattle.npp_search.specs.Steps.{Branches}
use Rattle.npp_search.proofs.SharesLaws.{found_shares}
use Rattle.npp_search.proofs.StepLaws.{node_allowed, node_leaf, node_depth, leaf_now, made_two, all_above, goes_on, none_waits}
use Rattle.npp_search.proofs.state.State.turn.Goals as goal

some_of : {X : Type 0} (P : X → Type 0) (found : Option X) (x : X) → found ≡ Some x → IfSome found P → P x
some_of P found x is h = subst (λ o. IfSome o P) is h

none_of : {X P : Type 0} (found : Option X) → found ≡ None → IfNone found P → P
none_of {X} {P} found is h = subst (λ (o : Option X). IfNone o P) is h

pub returns-in_default-clause-ended : goal.returns-in_default-clause-ended
returns-in_default-clause-ended g c _ =
    none_waits g.N.Exact.rational (problem_in (limit_of g.N.Exact.WIDTH) c.args.setting.now) (task_in c.args.setting.now) (g.P.Picker.best_first c.args.picker.now) c.args.self.now c.requires.under_way
    (none_of c.in_ok-node.field-0 c.in_default.is c.in_ok-node.ensures.none)

pub open_node-requires-clause-allowed : goal.open_node-requires-clause-allowed
open_node-requires-clause-allowed g c =
    let v = g.N.Exact.rational in
    let setting = c.requires.setting in
    let P = problem_in (limit_of g.N.Exact.WIDTH) c.args.setting.now in
    let task = task_in c.args.setting.now in
    let first = g.P.Picker.best_first c.args.picker.now in
    let useful = subst (λ (m : PathModel). HasUsefulPaths m) (sym setting.table) (has_useful_paths c.args.setting.now.instance.now c.args.setting.now.covers.now setting.covers) in
    node_allowed v P task first useful setting.allowed c.args.self.now c.requires.under_way c.take.new.self c.in-Some.node (some_of (TakesOne c.args.self.now.waiting c.take.new.self) c.in_ok-node.field-0 c.in-Some.node c.in-Some.is c.in_ok-node.ensures.taken)

pub open_node-requires-clause-leaf : goal.open_node-requires-clause-leaf
open_node-requires-clause-leaf g c =
    let v = g.N.Exact.rational in
    let setting = c.requires.setting in
    let P = problem_in (limit_of g.N.Exact.WIDTH) c.args.setting.now in
    let task = task_in c.args.setting.now in
    let first = g.P.Picker.best_first c.args.picker.now in
    let useful = subst (λ (m : PathModel). HasUsefulPaths m) (sym setting.table) (has_useful_paths c.args.setting.now.instance.now c.args.setting.now.covers.now setting.covers) in
    node_leaf v P task first useful setting.allowed c.args.self.now c.requires.under_way c.take.new.self c.in-Some.node (some_of (TakesOne c.args.self.now.waiting c.take.new.self) c.in_ok-node.field-0 c.in-Some.node c.in-Some.is c.in_ok-node.ensures.taken)

pub open_node-requires-clause-room : goal.open_node-requires-clause-room
open_node-requires-clause-room g c = omega (arith, c.requires.room, c.requires.fits)

pub branch-self-requires-clause-allowed : goal.branch-self-requires-clause-allowed
branch-self-requires-clause-allowed g c =
    let v = g.N.Exact.rational in
    let setting = c.requires.setting in
    let P = problem_in (limit_of g.N.Exact.WIDTH) c.args.setting.now in
    let task = task_in c.args.setting.now in
    let first = g.P.Picker.best_first c.args.picker.now in
    let useful = subst (λ (m : PathModel). HasUsefulPaths m) (sym setting.table) (has_useful_paths c.args.setting.now.instance.now c.args.setting.now.covers.now setting.covers) in
    node_allowed v P task first useful setting.allowed c.args.self.now c.requires.under_way c.take.new.self c.in-Some.node (some_of (TakesOne c.args.self.now.waiting c.take.new.self) c.in_ok-node.field-0 c.in-Some.node c.in-Some.is c.in_ok-node.ensures.taken)

pub branch-self-requires-clause-shares : goal.branch-self-requires-clause-shares
branch-self-requires-clause-shares g c =
    let v = g.N.Exact.rational in
    let setting = c.requires.setting in
    let P = problem_in (limit_of g.N.Exact.WIDTH) c.args.setting.now in
    let task = task_in c.args.setting.now in
    let first = g.P.Picker.best_first c.args.picker.now in
    let useful = subst (λ (m : PathModel). HasUsefulPaths m) (sym setting.table) (has_useful_paths c.args.setting.now.instance.now c.args.setting.now.covers.now setting.covers) in
    let parts = c.in-Some.node.allowed.parts in
    subst (λ (o : Option (List (List Rational))). IfSome o (AreSharesOf parts)) (sym c.in_ok-bound.ensures.shares) (found_shares P parts (node_allowed v P task first useful setting.allowed c.args.self.now c.requires.under_way c.take.new.self c.in-Some.node (some_of (TakesOne c.args.self.now.waiting c.take.new.self) c.in_ok-node.field-0 c.in-Some.node c.in-Some.is c.in_ok-node.ensures.taken)))

pub branch-self-requires-clause-leaf : goal.branch-self-requires-clause-leaf
branch-self-requires-clause-leaf g c =
    let v = g.N.Exact.rational in
    let setting = c.requires.setting in
    let P = problem_in (limit_of g.N.Exact.WIDTH) c.args.setting.now in
    let task = task_in c.args.setting.now in
    let first = g.P.Picker.best_first c.args.picker.now in
    let useful = subst (λ (m : PathModel). HasUsefulPaths m) (sym setting.table) (has_useful_paths c.args.setting.now.instance.now c.args.setting.now.covers.now setting.covers) in
    leaf_now v P task first useful setting.allowed c.args.self.now c.requires.under_way c.take.new.self c.in-Some.node (some_of (TakesOne c.args.self.now.waiting c.take.new.self) c.in_ok-node.field-0 c.in-Some.node c.in-Some.is c.in_ok-node.ensures.taken) c.open_node.new.self (bound_value c.in_ok-bound.bound) c.in_ok-bound.ensures.opens

pub branch-self-requires-clause-depth : goal.branch-self-requires-clause-depth
branch-self-requires-clause-depth g c =
    let v = g.N.Exact.rational in
    let setting = c.requires.setting in
    let P = problem_in (limit_of g.N.Exact.WIDTH) c.args.setting.now in
    let task = task_in c.args.setting.now in
    let first = g.P.Picker.best_first c.args.picker.now in
    let useful = subst (λ (m : PathModel). HasUsefulPaths m) (sym setting.table) (has_useful_paths c.args.setting.now.instance.now c.args.setting.now.covers.now setting.covers) in
    let depth = node_depth v P task first useful setting.allowed c.args.self.now c.requires.under_way c.take.new.self c.in-Some.node (some_of (TakesOne c.args.self.now.waiting c.take.new.self) c.in_ok-node.field-0 c.in-Some.node c.in-Some.is c.in_ok-node.ensures.taken) in
    omega (arith, depth, c.requires.room, c.requires.fits)

pub branch-self-requires-clause-made : goal.branch-self-requires-clause-made
branch-self-requires-clause-made g c =
    let v = g.N.Exact.rational in
    let setting = c.requires.setting in
    let P = problem_in (limit_of g.N.Exact.WIDTH) c.args.setting.now in
    let task = task_in c.args.setting.now in
    let first = g.P.Picker.best_first c.args.picker.now in
    let useful = subst (λ (m : PathModel). HasUsefulPaths m) (sym setting.table) (has_useful_paths c.args.setting.now.instance.now c.args.setting.now.covers.now setting.covers) in
    let made = made_two v P task first useful setting.allowed c.args.self.now c.requires.under_way c.take.new.self c.in-Some.node (some_of (TakesOne c.args.self.now.waiting c.take.new.self) c.in_ok-node.field-0 c.in-Some.node c.in-Some.is c.in_ok-node.ensures.taken) c.open_node.new.self (bound_value c.in_ok-bound.bound) c.in_ok-bound.ensures.opens in
    let under_way = c.requires.under_way in
    omega (arith, made, under_way.made, c.requires.room, c.requires.fits)

pub drop_dead-requires : goal.drop_dead-requires
drop_dead-requires g c =
    let v = g.N.Exact.rational in
    let setting = c.requires.setting in
    let P = problem_in (limit_of g.N.Exact.WIDTH) c.args.setting.now in
    let task = task_in c.args.setting.now in
    let first = g.P.Picker.best_first c.args.picker.now in
    let useful = subst (λ (m : PathModel). HasUsefulPaths m) (sym setting.table) (has_useful_paths c.args.setting.now.instance.now c.args.setting.now.covers.now setting.covers) in
    let b = bound_value c.in_ok-bound.bound in
    let branches = subst (λ (o : Option (List (List Rational))). Branches c.args.setting.now.table c.open_node.new.self c.branch-self.new.self c.in-Some.node.key c.in-Some.node.seen.depth c.in-Some.node.allowed.parts b o)
    c.in_ok-bound.ensures.shares c.in_ok-branch.ensures in
    all_above v P task first useful setting.allowed c.args.self.now c.requires.under_way c.take.new.self c.in-Some.node (some_of (TakesOne c.args.self.now.waiting c.take.new.self) c.in_ok-node.field-0 c.in-Some.node c.in-Some.is c.in_ok-node.ensures.taken) c.open_node.new.self b c.in_ok-bound.ensures.opens c.branch-self.new.self branches

pub returns-clause-under_way : goal.returns-clause-under_way
returns-clause-under_way g c =
    let v = g.N.Exact.rational in
    let setting = c.requires.setting in
    let P = problem_in (limit_of g.N.Exact.WIDTH) c.args.setting.now in
    let task = task_in c.args.setting.now in
    let first = g.P.Picker.best_first c.args.picker.now in
    let useful = subst (λ (m : PathModel). HasUsefulPaths m) (sym setting.table) (has_useful_paths c.args.setting.now.instance.now c.args.setting.now.covers.now setting.covers) in
    let b = bound_value c.in_ok-bound.bound in
    let branches = subst (λ (o : Option (List (List Rational))). Branches c.args.setting.now.table c.open_node.new.self c.branch-self.new.self c.in-Some.node.key c.in-Some.node.seen.depth c.in-Some.node.allowed.parts b o)
    c.in_ok-bound.ensures.shares c.in_ok-branch.ensures in
    goes_on v P task first useful setting.allowed c.args.self.now c.requires.under_way c.take.new.self c.in-Some.node (some_of (TakesOne c.args.self.now.waiting c.take.new.self) c.in_ok-node.field-0 c.in-Some.node c.in-Some.is c.in_ok-node.ensures.taken) c.open_node.new.self b c.in_ok-bound.ensures.opens c.branch-self.new.self c.drop_dead.new.self branches c.drop_dead.ensures c.requires.room (λ greatest. some_of (IsGreatest c.args.self.now.waiting) c.in_ok-node.field-0 c.in-Some.node c.in-Some.is (c.in_ok-node.ensures.greatest greatest))
