use Rattle.std.proofs.Common.{◌≡◌, ◌+◌, ◌-◌, List, ℕ, length, get_or, ap, ◌∙◌, arith}
use Rattle.npp_cover.specs.Replaces.{sum_below}
use Rattle.npp_rows.specs.Family.{Family, share_count}
use Rattle.npp_rows.proofs.StartLaws.{start_at, starts_size}
use Rattle.npp_rows.proofs.ShareLaws.{starts_rise}
use Rattle.npp_rows.proofs.index.RelaxationIndex.commodity_of.Goals as goal

pub piece_of-requires-clause-rising : goal.piece_of-requires-clause-rising
piece_of-requires-clause-rising c =
    let parts = c.self.inside.allowed.now.parts in
    rw (c.deref.ensures.value, c.self.invariant.shares) (starts_rise (share_count parts) (length parts) (λ k l. (c.self.invariant.allowed.each k l).some))

pub piece_of-requires-clause-some : goal.piece_of-requires-clause-some
piece_of-requires-clause-some c =
    let parts = c.self.inside.allowed.now.parts in
    omega (arith, ap length (c.deref.ensures.value ∙ c.self.invariant.shares), starts_size (share_count parts) (length parts))

pub piece_of-requires-clause-low : goal.piece_of-requires-clause-low
piece_of-requires-clause-low c =
    let parts = c.self.inside.allowed.now.parts in
    let first : get_or c.deref.result.now 0 0 ≡ sum_below (share_count parts) 0 = ap (λ (xs : List ℕ). get_or xs 0 0) (c.deref.ensures.value ∙ c.self.invariant.shares) ∙ start_at (share_count parts) (length parts) 0 0 (omega arith) in
    omega (arith, first)

pub piece_of-requires-clause-high : goal.piece_of-requires-clause-high
piece_of-requires-clause-high c =
    let parts = c.self.inside.allowed.now.parts in
    let starts = c.deref.ensures.value ∙ c.self.invariant.shares in
    let last : length c.deref.result.now - 1 ≡ length c.self.inside.allowed.now.parts = omega (arith, ap length starts, starts_size (share_count parts) (length parts)) in
    let end : get_or c.deref.result.now (length c.deref.result.now - 1) 0 ≡ sum_below (share_count parts) (length parts) =
    ap (λ (i : ℕ). get_or c.deref.result.now i 0) last ∙ ap (λ (xs : List ℕ). get_or xs (length parts) 0) starts ∙ start_at (share_count parts) (length parts) (length parts) 0 (omega arith) in
    let total : sum_below (share_count parts) (length parts) ≡ sum_below (share_count c.args.self.now.parts) (length c.args.self.now.paths.covers) =
    ap (sum_below (share_count parts)) c.self.invariant.allowed.size ∙ ap (λ (f : Family). sum_below (share_count f.parts) (length f.paths.covers)) c.self.view_is in
    omega (arith, end, total, c.requires)

pub overflow_cast-result : goal.overflow_cast-result
overflow_cast-result c =
    let parts = c.self.inside.allowed.now.parts in
    omega (arith, ap length (c.deref.ensures.value ∙ c.self.invariant.shares), starts_size (share_count parts) (length parts), c.piece_of.ensures.inside, c.self.invariant.allowed.size, c.self.invariant.limits.commodities)

pub returns-clause-inside : goal.returns-clause-inside
returns-clause-inside c =
    let parts = c.self.inside.allowed.now.parts in
    omega (
      arith,
      ap length (c.deref.ensures.value ∙ c.self.invariant.shares),
      starts_size (share_count parts) (length parts),
      c.piece_of.ensures.inside,
      c.self.invariant.allowed.size,
      ap (λ (f : Family). length f.paths.covers) c.self.view_is,
    )

pub returns-clause-low : goal.returns-clause-low
returns-clause-low c =
    let parts = c.self.inside.allowed.now.parts in
    let k = c.piece_of.result in
    let starts = c.deref.ensures.value ∙ c.self.invariant.shares in
    let here : get_or c.deref.result.now k 0 ≡ sum_below (share_count c.args.self.now.parts) k =
    ap (λ (xs : List ℕ). get_or xs k 0) starts ∙ start_at (share_count parts) (length parts) k 0 (omega (arith, ap length starts, starts_size (share_count parts) (length parts), c.piece_of.ensures.inside))
    ∙ ap (λ (f : Family). sum_below (share_count f.parts) k) c.self.view_is in
    omega (arith, here, c.piece_of.ensures.low)

pub returns-clause-high : goal.returns-clause-high
returns-clause-high c =
    let parts = c.self.inside.allowed.now.parts in
    let k = c.piece_of.result in
    let starts = c.deref.ensures.value ∙ c.self.invariant.shares in
    let here : get_or c.deref.result.now (k + 1) 0 ≡ sum_below (share_count c.args.self.now.parts) (k + 1) =
    ap (λ (xs : List ℕ). get_or xs (k + 1) 0) starts ∙ start_at (share_count parts) (length parts) (k + 1) 0 (omega (arith, ap length starts, starts_size (share_count parts) (length parts), c.piece_of.ensures.inside))
    ∙ ap (λ (f : Family). sum_below (share_count f.parts) (k + 1)) c.self.view_is in
    omega (arith, here, c.piece_of.ensures.high)
