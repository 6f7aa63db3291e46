-- What given tolls earn, and the walks that travellers take under them.
use Rattle.std.specs.Prelude.{◌≡◌, ℕ, List, None, map}
use Rattle.npp_frac.specs.Rational.{Rational}
use Rattle.npp_frac.specs.Fits.{limit_of}
use Rattle.npp_net.specs.Network.{Network}
use Rattle.npp_bounds.specs.Spans.{AllHaveFreePaths}
use Rattle.npp_cover.specs.Replaces.{CoverValue}
use Rattle.npp_labels.specs.Covers.{AreUsefulCovers, PassesNoLimit}
use Rattle.npp_rows.specs.Caps.{path_model}
use Rattle.npp_rows.specs.Response.{reply, reply_stop}
use Rattle.npp_tree.specs.declared.outcome.PathLine.{PathLine}
use Rattle.npp_tree.specs.Outcome.{path_line_value}
use Rattle.npp_start.specs.Walks.{IsReplyTo, reply_lines}
use Rattle.npp_toll_text.specs.TollsText.{IsTollsText}
use Rattle.npp_eval.specs.declared.evaluation.Evaluation.{Evaluation}

-- what the walks earn together, and each of them with what it costs and pays
pub record EvaluationValue : Type 0 where
  pub revenue : Rational
  pub paths : List (PathLine Rational)

-- what an evaluation of the code stands for. `value` says what a number stands for
abbrev pub evaluation_value : {N : Type 0} → (N → Rational) → Evaluation N → EvaluationValue
evaluation_value value e = record { revenue = value e.revenue; paths = map (path_line_value value) e.paths }

-- each commodity has a toll-free walk, no limit is passed, and each number of the reply to the tolls over useful covers is
-- below the limit. The walks are those of this reply: they are cheapest over all walks, and earn exactly the revenue, which
-- is the most that cheapest walks earn
pub record IsEvaluated (limit : ℕ) (net : Network) (tolls : List Rational) (e : EvaluationValue) : Type 0 where
  pub connected : AllHaveFreePaths net.arcs net.commodities
  pub covers : List CoverValue
  pub are_useful : AreUsefulCovers net.arcs net.commodities covers
  pub kept : PassesNoLimit net.arcs net.commodities
  pub fits : reply_stop limit (path_model net covers) tolls ≡ None
  pub revenue : e.revenue ≡ (reply (path_model net covers) tolls).revenue
  pub paths : e.paths ≡ reply_lines (path_model net covers) (reply (path_model net covers) tolls)
  pub is_reply : IsReplyTo net tolls e.paths e.revenue

-- the bytes are the text of tolls, of which this is said with numbers of 128 bits
pub record IsTextEvaluated (net : Network) (bytes : List ℕ) (e : EvaluationValue) : Type 0 where
  pub tolls : List Rational
  pub is_text : IsTollsText net.arcs bytes tolls
  pub is_evaluated : IsEvaluated (limit_of 128) net tolls e
