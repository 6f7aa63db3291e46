use Rattle.std.proofs.Common.{◌≡◌, ◌≤◌, ◌+◌, length, ap, ◌∙◌, arith}
use Rattle.std.specs.Prelude.{slice_index_or}
use Rattle.npp_cover.specs.Replaces.{CoverValue, sum_below}
use Rattle.npp_rows.specs.PathModel.{PathModel, no_cover, path_count}
use Rattle.npp_rows.proofs.StartLaws.{start_read, starts_size, sum_below_rises, sum_by_places}
use Rattle.npp_rows.proofs.table.PathTable.paths_below.Goals as goal

pub index-requires : goal.index-requires
index-requires c =
    let size : length c.self.inside.starts.items ≡ length c.self.inside.covers.now + 1 =
    ap length c.self.invariant.1 ∙ starts_size (λ k. length (slice_index_or c.self.inside.covers.now k no_cover).paths) (length c.self.inside.covers.now) in
    omega (arith, size, ap (λ (m : PathModel). length m.covers) c.self.view_is, c.self.inside.starts.ok.0)

pub returns-clause-value : goal.returns-clause-value
returns-clause-value c =
    let within : c.args.k ≤ length c.self.inside.covers.now = omega (arith, ap (λ (m : PathModel). length m.covers) c.self.view_is) in
    start_read (λ k. length (slice_index_or c.self.inside.covers.now k no_cover).paths) (length c.self.inside.covers.now) c.args.k c.index.result.now c.self.inside.starts.items c.self.invariant.1 within c.index.ensures
    ∙ ap (λ (m : PathModel). sum_below (path_count m) c.args.k) c.self.view_is

pub returns-clause-small : goal.returns-clause-small
returns-clause-small c =
    let covers = c.self.inside.covers.now in
    let within : c.args.k ≤ length c.self.inside.covers.now = omega (arith, ap (λ (m : PathModel). length m.covers) c.self.view_is) in
    omega (
      arith,
      start_read (λ k. length (slice_index_or covers k no_cover).paths) (length covers) c.args.k c.index.result.now c.self.inside.starts.items c.self.invariant.1 within c.index.ensures,
      sum_below_rises (λ k. length (slice_index_or covers k no_cover).paths) c.args.k (length covers) within,
      sum_by_places (λ (x : CoverValue). length x.paths) no_cover covers,
      c.self.invariant.0.paths,
    )
