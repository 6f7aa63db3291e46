use Rattle.std.proofs.Common.{◌≤◌, length, ap, ◌∙◌, arith}
use Rattle.npp_cover.specs.Replaces.{sum_below}
use Rattle.npp_rows.specs.Family.{Family, share_count}
use Rattle.npp_rows.proofs.StartLaws.{start_read, starts_size}
use Rattle.npp_rows.proofs.FamilyLaws.{shares_within}
use Rattle.npp_rows.proofs.index.RelaxationIndex.shares_below.Goals as goal

pub index-requires : goal.index-requires
index-requires c =
    let parts = c.self.inside.allowed.now.parts in
    omega (arith, ap length c.self.invariant.shares, starts_size (share_count parts) (length parts), c.self.invariant.allowed.size, c.requires, ap (λ (f : Family). length f.paths.covers) c.self.view_is, c.self.inside.shares.ok.0)

pub returns-clause-value : goal.returns-clause-value
returns-clause-value c =
    let parts = c.self.inside.allowed.now.parts in
    let within : c.args.k ≤ length c.self.inside.allowed.now.parts = omega (arith, c.self.invariant.allowed.size, c.requires, ap (λ (f : Family). length f.paths.covers) c.self.view_is) in
    start_read (share_count parts) (length parts) c.args.k c.index.result.now c.self.inside.shares.items c.self.invariant.shares within c.index.ensures
    ∙ ap (λ (f : Family). sum_below (share_count f.parts) c.args.k) c.self.view_is

pub returns-clause-small : goal.returns-clause-small
returns-clause-small c =
    let m = c.self.inside.table.now in
    let parts = c.self.inside.allowed.now.parts in
    let covers : c.args.k ≤ length c.self.inside.table.now.covers = omega (arith, c.requires, ap (λ (f : Family). length f.paths.covers) c.self.view_is) in
    let within : c.args.k ≤ length c.self.inside.allowed.now.parts = omega (arith, c.self.invariant.allowed.size, covers) in
    omega (
      arith,
      start_read (share_count parts) (length parts) c.args.k c.index.result.now c.self.inside.shares.items c.self.invariant.shares within c.index.ensures,
      shares_within m parts c.self.invariant.limits c.self.invariant.allowed c.args.k covers,
    )
