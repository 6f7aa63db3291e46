-- What a scan of the shares of a point sees.
use Rattle.std.specs.Prelude.{◌≡◌, ℕ, ◌<◌, List, length}
use Rattle.npp_frac.specs.Rational.{Rational}
use Rattle.npp_lp.specs.Programs.{at}
use Rattle.npp_rows.specs.Parts.{part_at}
use Rattle.npp_tree.specs.Family.{Family}
use Rattle.npp_search.specs.declared.division.Candidate.{Candidate}
use Rattle.npp_search.specs.Rule.{IsFirstGreatest, shares_at}

-- a share for each allowed path
pub record AreSharesOf (family : Family) (shares : List (List Rational)) : Type 0 where
  pub size : length shares ≡ length family
  pub each : (k : ℕ) → k < length family → length (shares_at shares k) ≡ length (part_at family k)

-- the greatest share of a commodity, with its place. `value` says what a number stands for
pub record IsCandidate {N : Type 0} (value : N → Rational) (shares : List (List Rational)) (k : ℕ) (c : Candidate N) : Type 0 where
  pub commodity : c.commodity ≡ k
  pub greatest : IsFirstGreatest (shares_at shares k) c.place
  pub share : value c.share ≡ at (shares_at shares k) c.place
