use Rattle.std.proofs.Common.{◌≤◌, length, ap, ◌∙◌, arith}
use Rattle.npp_cover.specs.Replaces.{sum_below}
use Rattle.npp_rows.specs.Family.{Family, share_count, paid_count}
use Rattle.npp_rows.proofs.StartLaws.{start_read, starts_size}
use Rattle.npp_rows.proofs.FamilyLaws.{paid_within, paid_same, lists_size}
use Rattle.npp_rows.proofs.index.RelaxationIndex.paid_below.Goals as goal

pub index-requires : goal.index-requires
index-requires c =
    let m = c.self.inside.table.now in
    let lists = c.self.inside.used.items in
    omega (arith, ap length c.self.invariant.paid, starts_size (share_count lists) (length lists), lists_size m c.self.inside.allowed.now.parts lists c.self.invariant.used, c.requires, ap (λ (f : Family). length f.paths.covers) c.self.view_is, c.self.inside.paid.ok.0)

pub returns-clause-value : goal.returns-clause-value
returns-clause-value c =
    let m = c.self.inside.table.now in
    let parts = c.self.inside.allowed.now.parts in
    let lists = c.self.inside.used.items in
    let covers : c.args.k ≤ length c.self.inside.table.now.covers = omega (arith, c.requires, ap (λ (f : Family). length f.paths.covers) c.self.view_is) in
    let within : c.args.k ≤ length c.self.inside.used.items = omega (arith, covers, lists_size m parts lists c.self.invariant.used) in
    start_read (share_count lists) (length lists) c.args.k c.index.result.now c.self.inside.paid.items c.self.invariant.paid within c.index.ensures
    ∙ paid_same m parts lists c.args.k c.self.invariant.used covers
    ∙ ap (λ (f : Family). sum_below (paid_count f.paths f.parts) c.args.k) c.self.view_is

pub returns-clause-small : goal.returns-clause-small
returns-clause-small c =
    let m = c.self.inside.table.now in
    let parts = c.self.inside.allowed.now.parts in
    let lists = c.self.inside.used.items in
    let covers : c.args.k ≤ length c.self.inside.table.now.covers = omega (arith, c.requires, ap (λ (f : Family). length f.paths.covers) c.self.view_is) in
    let within : c.args.k ≤ length c.self.inside.used.items = omega (arith, covers, lists_size m parts lists c.self.invariant.used) in
    omega (
      arith,
      start_read (share_count lists) (length lists) c.args.k c.index.result.now c.self.inside.paid.items c.self.invariant.paid within c.index.ensures,
      paid_same m parts lists c.args.k c.self.invariant.used covers,
      paid_within m parts c.self.invariant.limits c.self.invariant.allowed c.args.k covers,
    )
