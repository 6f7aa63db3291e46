use Rattle.std.proofs.Common.{◌≡◌, ◌<◌, ◌+◌, Ok, ℕ, List, ◌∷◌, ◌∙◌, true, length, sym, ap, subst, refl}
use Rattle.std.specs.Prelude.{slice_set, MatchOption, None, Some, Option}
use Rattle.npp_frac.specs.Fits.{limit_of}
use Rattle.npp_rows.specs.Parts.{part_at}
use Rattle.npp_tree.specs.Bounds.{BoundValue, bound_value}
use Rattle.npp_tree.specs.Family.{Division, divides, rest_of}
use Rattle.npp_tree.proofs.DivideLaws.{divides_is}
use Rattle.npp_check.specs.declared.refusal.Rule.TheVariants as rule
use Rattle.npp_check.specs.declared.stop.Stop.TheVariants as stop
use Rattle.npp_tree.specs.declared.item.Item.TheVariants as item
use Rattle.npp_check.specs.declared.descent.Descent.{Descent}
use Rattle.npp_check.specs.NodeLines.{Place}
use Rattle.npp_check.specs.PlaceStack.{PlaceList}
use Rattle.npp_check.specs.Stages.{AtNodes}
use Rattle.npp_check.specs.StageValue.{known_value, sum_value, branch_value}
use Rattle.npp_check.specs.Steps.{Steps}
use Rattle.npp_check.proofs.NodeStepLemmas.{branch_breaks, wants, splits, split_judged, no_split}
use Rattle.npp_check.proofs.branch_steps.split_step.Goals as goal

-- what is said of an option, by what it is
at_none : {X : Type 0} (o : Option X) (A : Type 0) (B : X → Type 0) → o ≡ None → MatchOption o A B → A
at_none {X} o A B e h = subst (λ (x : Option X). MatchOption x A B) e h

at_some : {X : Type 0} (o : Option X) (x : X) (A : Type 0) (B : X → Type 0) → o ≡ Some x → MatchOption o A B → B x
at_some {X} o x A B e h = subst (λ (y : Option X). MatchOption y A B) e h

-- the places of the children and of the nodes behind them
abbrev children : PlaceList → ℕ → List ℕ → List ℕ → BoundValue → List Place
children p k part rest parent = record { parts = slice_set p.first.parts k part; parent = parent } ∷ record { parts = slice_set p.first.parts k rest; parent = parent } ∷ p.later

pub divide-requires : goal.divide-requires
divide-requires g c =
    let here = c.allowed.ensures ∙ ap (λ (x : Descent g.row.N.Denot). x.places.first.parts) c.deref_mut-tree.ensures.value in
    rw here c.requires

pub returns-in_err-divided : goal.returns-in_err-divided
returns-in_err-divided g c = λ cse is.
    wants g.N.Exact.rational (limit_of g.N.Exact.WIDTH) cse (branch_value g.N.Exact.rational c.args.descent.value c.args.bound) (item.Split c.args.commodity c.args.part) c.from_residual.result stop.Memory c.from_residual.ensures.1 refl

pub returns-in_default : goal.returns-in_default
returns-in_default g c = λ cse is.
    let v = g.N.Exact.rational in
    let d = c.args.descent.value in
    let split : Division = record { commodity = c.args.commodity; part = c.args.part } in
    let here = c.allowed.ensures ∙ ap (λ (x : Descent g.row.N.Denot). x.places.first.parts) c.deref_mut-tree.ensures.value in
    let same : divides c.allowed.result.now.parts (record { commodity = c.args.commodity; part = c.entries.result.now }) ≡ divides d.places.first.parts split =
    λ i. divides (here i) (record { commodity = c.args.commodity; part = c.entries.ensures i }) in
    branch_breaks (limit_of g.N.Exact.WIDTH) cse (known_value v d.known) d.places.later (sum_value d.sum) d.places.first.parts (bound_value c.args.bound) (item.Split c.args.commodity c.args.part) rule.Split
    (no_split d.places.first.parts split (sym same ∙ at_none c.in_ok-divided.divided _ _ c.in_default.is c.in_ok-divided.ensures))

pub split-requires : goal.split-requires
split-requires g c =
    let d = c.args.descent.value in
    let split : Division = record { commodity = c.args.commodity; part = c.args.part } in
    let here = c.allowed.ensures ∙ ap (λ (x : Descent g.row.N.Denot). x.places.first.parts) c.deref_mut-tree.ensures.value in
    let same : divides c.allowed.result.now.parts (record { commodity = c.args.commodity; part = c.entries.result.now }) ≡ divides d.places.first.parts split =
    λ i. divides (here i) (record { commodity = c.args.commodity; part = c.entries.ensures i }) in
    let said = at_some c.in_ok-divided.divided c.in-Some.rest _ _ c.in-Some.is c.in_ok-divided.ensures in
    subst (λ (x : Descent g.row.N.Denot). c.args.commodity < length x.places.first.parts) (sym c.deref_mut-tree.ensures.value) (divides_is d.places.first.parts split (sym same ∙ said.0)).commodity

pub returns : goal.returns
returns g c = λ cse is.
    let v = g.N.Exact.rational in
    let d = c.args.descent.value in
    let split : Division = record { commodity = c.args.commodity; part = c.args.part } in
    let here = c.allowed.ensures ∙ ap (λ (x : Descent g.row.N.Denot). x.places.first.parts) c.deref_mut-tree.ensures.value in
    let same : divides c.allowed.result.now.parts (record { commodity = c.args.commodity; part = c.entries.result.now }) ≡ divides d.places.first.parts split =
    λ i. divides (here i) (record { commodity = c.args.commodity; part = c.entries.ensures i }) in
    let said = at_some c.in_ok-divided.divided c.in-Some.rest _ _ c.in-Some.is c.in_ok-divided.ensures in
    let divided : divides d.places.first.parts split ≡ true = sym same ∙ said.0 in
    let opened = c.in_ok-opened.ensures.next ∙ ap (λ (x : Descent g.row.N.Denot). x.sum.opened + 1) c.deref_mut-tree.ensures.value in
    let left : c.of.result ≡ rest_of c.args.part (part_at d.places.first.parts c.args.commodity) =
    c.of.ensures ∙ said.1 ∙ (λ i. rest_of (c.entries.ensures i) (part_at (here i) c.args.commodity)) in
    subst (λ (x : Descent g.row.N.Denot). Steps (limit_of g.N.Exact.WIDTH) cse (branch_value v d c.args.bound) (item.Split c.args.commodity c.args.part)
    (Ok (AtNodes (known_value v x.known) (c.split.new.self.first ∷ c.split.new.self.later) (record { opened = c.in_ok-opened.opened; bound = bound_value x.sum.bound }))))
    (sym c.deref_mut-tree.ensures.value)
    (splits (limit_of g.N.Exact.WIDTH) cse (known_value v d.known) d.places.later (sum_value d.sum) d.places.first.parts (bound_value c.args.bound) (item.Split c.args.commodity c.args.part)
    split (split_judged d.places.first.parts split divided) divided is c.of.result left (c.split.new.self.first ∷ c.split.new.self.later)
    (ap (λ (p : PlaceList). p.first ∷ p.later) c.in_ok-split.ensures ∙ ap (λ (x : Descent g.row.N.Denot). children x.places c.args.commodity c.args.part c.of.result (bound_value c.args.bound)) c.deref_mut-tree.ensures.value)
    (record { opened = c.in_ok-opened.opened; bound = bound_value d.sum.bound }) (λ i. record { opened = opened i; bound = bound_value d.sum.bound }))
