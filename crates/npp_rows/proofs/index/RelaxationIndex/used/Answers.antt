use Rattle.std.proofs.Common.{◌<◌, [], length, ap, ◌∙◌, arith}
use Rattle.std.proofs.lemmas.List.{get_or_read}
use Rattle.npp_rows.specs.Relax.{allowed_tolls}
use Rattle.npp_rows.specs.Family.{Family}
use Rattle.npp_rows.proofs.FamilyLaws.{lists_size, paid_short, used_at, used_rises}
use Rattle.npp_rows.proofs.index.RelaxationIndex.used.Goals as goal

pub index-requires : goal.index-requires
index-requires c =
    omega (arith, lists_size c.self.inside.table.now c.self.inside.allowed.now.parts c.self.inside.used.items c.self.invariant.used, c.requires, ap (λ (f : Family). length f.paths.covers) c.self.view_is, c.self.inside.used.ok.0)

pub returns-clause-tolls : goal.returns-clause-tolls
returns-clause-tolls c =
    let k = c.args.k in
    let m = c.self.inside.table.now in
    let parts = c.self.inside.allowed.now.parts in
    let lists = c.self.inside.used.items in
    let inside : k < length c.self.inside.table.now.covers = omega (arith, c.requires, ap (λ (f : Family). length f.paths.covers) c.self.view_is) in
    let there : k < length c.self.inside.used.items = omega (arith, inside, lists_size m parts lists c.self.invariant.used) in
    c.entries.ensures ∙ get_or_read lists k _ there c.index.ensures [] ∙ used_at m parts lists k c.self.invariant.used inside
    ∙ ap (λ (f : Family). allowed_tolls f.paths f.parts k) c.self.view_is

pub returns-clause-few : goal.returns-clause-few
returns-clause-few c =
    let m = c.self.inside.table.now in
    let parts = c.self.inside.allowed.now.parts in
    let lists = c.self.inside.used.items in
    let inside : c.args.k < length c.self.inside.table.now.covers = omega (arith, c.requires, ap (λ (f : Family). length f.paths.covers) c.self.view_is) in
    let there : c.args.k < length c.self.inside.used.items = omega (arith, inside, lists_size m parts lists c.self.invariant.used) in
    let is = c.entries.ensures ∙ get_or_read lists c.args.k _ there c.index.ensures [] ∙ used_at m parts lists c.args.k c.self.invariant.used inside in
    omega (arith, ap length is, paid_short m parts c.self.invariant.limits c.self.invariant.allowed c.args.k)

pub returns-clause-rising : goal.returns-clause-rising
returns-clause-rising c =
    let m = c.self.inside.table.now in
    let parts = c.self.inside.allowed.now.parts in
    let lists = c.self.inside.used.items in
    let inside : c.args.k < length c.self.inside.table.now.covers = omega (arith, c.requires, ap (λ (f : Family). length f.paths.covers) c.self.view_is) in
    let there : c.args.k < length c.self.inside.used.items = omega (arith, inside, lists_size m parts lists c.self.invariant.used) in
    let is = c.entries.ensures ∙ get_or_read lists c.args.k _ there c.index.ensures [] ∙ used_at m parts lists c.args.k c.self.invariant.used inside in
    rw is (used_rises m parts c.args.k)
