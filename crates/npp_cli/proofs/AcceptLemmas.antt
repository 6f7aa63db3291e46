-- The certificate that is printed of a search is accepted.
use Rattle.std.proofs.Common.{◌≡◌, ◌∙◌, ◌<◌, ◌≤◌, ◌^◌, ℕ, Bool, true, false, List, Ok, inl, inr, refl, arith}
use Rattle.npp_frac.specs.Fits.{limit_of}
use Rattle.npp_net.specs.Network.{Network, IsNetwork}
use Rattle.npp_cover.specs.Replaces.{CoverValue}
use Rattle.npp_labels.specs.Covers.{AreUsefulCovers, path_total}
use Rattle.npp_tree.specs.Outcome.{OutcomeValue}
use Rattle.npp_start.proofs.CoverShape.{same_total}
use Rattle.npp_search.specs.Outcome.{IsGrownOutcome}
use Rattle.npp_search.specs.Problem.{problem_of}
use Rattle.npp_accept.specs.Accepted.{IsAcceptedOutcome, OutcomesAreAccepted, lines_of}
use Rattle.npp_accept.specs.Numbers.{HasNumbers}
use Rattle.npp_stream.specs.TextVerdicts.{IsTextVerdict}
use Rattle.npp_stream.proofs.StreamLemmas.{written_verdict}
use Rattle.npp_writer.specs.OutcomeText.{outcome_text}

-- a grown outcome at 64 bits is accepted
pub grown_accepted : OutcomesAreAccepted → (budget : ℕ) (net : Network) (covers : List CoverValue) (o : OutcomeValue) → IsNetwork net → AreUsefulCovers net.arcs net.commodities covers
    → path_total covers ≤ 2000 → budget < 2 ^ 32 → IsGrownOutcome (problem_of (limit_of 64) net covers) budget o → HasNumbers o → IsAcceptedOutcome 64 net covers o
grown_accepted law budget net covers o network useful few small grown numbers =
    let same = same_total covers in
    law 64 budget net covers o (record {
      a_width = inr (inl refl);
      network = network;
      useful = useful;
      few = omega (arith, same, few);
      small = small;
      grown = grown;
      numbers = numbers;
    })

-- so its text is, where it is printed whole
pub text_accepted : (brief : Bool) (net : Network) (covers : List CoverValue) (o : OutcomeValue) → IsAcceptedOutcome 64 net covers o → brief ≡ false
    → IsTextVerdict net (outcome_text brief 64 net covers o) (Ok (record { lower = o.lower; upper = o.upper }))
unfolding outcome_text
text_accepted true net covers o accepted e = cc
text_accepted false net covers o accepted e =
    (accepted.verdict.0, accepted.verdict.1, written_verdict (limit_of 128) net accepted.verdict.0 (lines_of 64 net covers o) accepted.lines ∙ accepted.verdict.2)
