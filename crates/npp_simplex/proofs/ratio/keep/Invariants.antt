use Rattle.std.proofs.Common.{◌≡◌, ℕ, ◌≤◌, map, take, not, slice_index}
use Rattle.std.specs.List.{range_with_len, filter}
use Rattle.npp_frac.specs.Rational.{is_less}
use Rattle.npp_lp.specs.Programs.{at}
use Rattle.npp_simplex.proofs.ratio.keep.Given as goal

abbrev pub invariant-loop-s : goal.invariant-loop-s
invariant-loop-s g l = record {
  within : l.kept ≤ l.s;
  rest : (k : ℕ) → l.s ≤ k → slice_index l.candidates k ≡ slice_index l.initial.candidates k;
  rows : take l.kept l.candidates ≡ map (slice_index l.initial.candidates) (filter (λ k. not (is_less (g.N.Exact.rational l.best) (at (map g.N.Exact.rational l.numbers) k))) (range_with_len 0 l.s));
}
