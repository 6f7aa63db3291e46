-- What the exact work on a program proves of it, and that the sums of the check of its answer fit.
use Rattle.std.proofs.Common.{◌≡◌, ℕ, Bool, true, false, cond, List, Some, refl}
use Rattle.npp_frac.specs.Rational.{Rational}
use Rattle.npp_lp.specs.Programs.{LinearProgram, IsLinearProgram}
use Rattle.npp_simplex.specs.Run.{run, Outcome, Optimal, Infeasible, Unbounded, Overflow, Capped}
use Rattle.npp_simplex.specs.Proved.{IsProved}
use Rattle.npp_simplex.proofs.RunLemmas.{proved_run}
use Rattle.npp_rows.specs.declared.mark.Mark.TheVariants as mark
use Rattle.npp_rows.specs.PathModel.{PathModel}
use Rattle.npp_rows.specs.Named.{NamedProgram, numbered}
use Rattle.npp_rows.specs.Relax.{is_large}
use Rattle.npp_rows.specs.Inverse.{inverse}
use Rattle.npp_rows.specs.Response.{reply_fits}
use Rattle.npp_inverse.specs.Work.{Ending, AtPoint, WithoutPoint, AtMark, pivot_cap, sums_fit, judged, program_work, relaxation_work, with_reply, inverse_work, IsProvedEnding}

-- the sums of the check of an answer fit
abbrev pub SumsFit : ℕ → LinearProgram → Ending → Type 0
SumsFit limit p (AtPoint x y v) = sums_fit limit p y ≡ true
SumsFit limit p (WithoutPoint y) = sums_fit limit p y ≡ true
SumsFit limit p (AtMark k) = Unit {0}

-- what an ending has to show: an answer that is proved, with sums that fit
pub record IsAnswered (limit : ℕ) (p : LinearProgram) (e : Ending) : Type 0 where
  pub proved : IsProvedEnding p e
  pub fits : SumsFit limit p e

module _ (limit : ℕ) (p : LinearProgram) where
  optimal_by : (x y : List Rational) (v : Rational) (k : ℕ) (b : Bool) → sums_fit limit p y ≡ b → IsProved p (Optimal x y v k) → IsAnswered limit p (cond b (AtPoint x y v) (AtMark mark.Sum))
  optimal_by x y v k true e h = record { proved = h; fits = e }
  optimal_by x y v k false e h = record { proved = tt; fits = tt }

  infeasible_by : (y : List Rational) (k : ℕ) (b : Bool) → sums_fit limit p y ≡ b → IsProved p (Infeasible y k) → IsAnswered limit p (cond b (WithoutPoint y) (AtMark mark.Sum))
  infeasible_by y k true e h = record { proved = h; fits = e }
  infeasible_by y k false e h = record { proved = tt; fits = tt }

  judged_answered : (o : Outcome) → IsProved p o → IsAnswered limit p (judged limit p o)
  judged_answered (Optimal x y v k) h = optimal_by x y v k (sums_fit limit p y) refl h
  judged_answered (Infeasible y k) h = infeasible_by y k (sums_fit limit p y) refl h
  judged_answered (Unbounded d k) h = record { proved = tt; fits = tt }
  judged_answered (Overflow k place) h = record { proved = tt; fits = tt }
  judged_answered Capped h = record { proved = tt; fits = tt }

  pub work_answered : IsLinearProgram p → IsAnswered limit p (program_work limit p)
  unfolding program_work
  work_answered is = judged_answered (run (Some limit) pivot_cap p) (proved_run p is (Some limit) pivot_cap)

-- ---- a relaxation, which may be too large

pub relaxation_answered : (limit : ℕ) (p : NamedProgram) → IsLinearProgram (numbered p) → IsAnswered limit (numbered p) (relaxation_work limit p)
unfolding relaxation_work
relaxation_answered limit p is = by (is_large p)
  where
    by : (b : Bool) → IsAnswered limit (numbered p) (cond b (AtMark mark.Large) (program_work limit (numbered p)))
    by true = record { proved = tt; fits = tt }
    by false = work_answered limit (numbered p) is

-- ---- an inverse program, whose tolls have to have a reply that fits

module _ (limit : ℕ) (m : PathModel) (p : LinearProgram) where
  with_reply_answered : (e : Ending) → IsAnswered limit p e → IsAnswered limit p (with_reply limit m e)
  with_reply_answered (AtPoint x y v) h = by (reply_fits limit m x)
    where
      by : (b : Bool) → IsAnswered limit p (cond b (AtPoint x y v) (AtMark mark.Sum))
      by true = h
      by false = record { proved = tt; fits = tt }
  with_reply_answered (WithoutPoint y) h = h
  with_reply_answered (AtMark k) h = h

pub inverse_answered : (limit : ℕ) (m : PathModel) (choice : List ℕ) → IsLinearProgram (numbered (inverse m choice)) → IsAnswered limit (numbered (inverse m choice)) (inverse_work limit m choice)
unfolding inverse_work
inverse_answered limit m choice is =
    with_reply_answered limit m (numbered (inverse m choice)) (program_work limit (numbered (inverse m choice))) (work_answered limit (numbered (inverse m choice)) is)
