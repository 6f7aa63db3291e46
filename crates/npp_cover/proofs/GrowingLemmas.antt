-- A draft that grows: it stays without fault, and what its calls answer is what the whole draft answers.
use Rattle.std.proofs.Common.{◌≡◌, ℕ, ◌<◌, Bool, true, List, [], ◌∷◌, ◌++◌, length, Option, None, sym, ap, subst, arith}
use Rattle.std.proofs.lemmas.List.{length-append}
use Rattle.npp_net.specs.declared.types.Commodity.{Commodity}
use Rattle.npp_net.specs.declared.types.Span.{Span}
use Rattle.npp_net.specs.Network.{Network, IsNetwork}
use Rattle.npp_net.specs.Distance.{IsDistance}
use Rattle.npp_cover.specs.declared.label.Label.{Label}
use Rattle.npp_cover.specs.declared.label.StepDraft.{StepDraft}
use Rattle.npp_cover.specs.Useful.{commodity_at}
use Rattle.npp_cover.specs.Labels.{step_label}
use Rattle.npp_cover.specs.Fault.{step_fault}
use Rattle.npp_cover.specs.Closed.{AreFaultless}
use Rattle.npp_cover.specs.Growing.{Growing, IsGrowing}
use Rattle.npp_cover.proofs.FaultLemmas.{faultless_step}
use Rattle.npp_cover.proofs.GrowthLaws.{IsJudged}

-- with one more label that has no fault
pub grows : (net : Network) (limits : IsNetwork net) (g : Growing) (onward : ℕ → Option ℕ)
    → ((v : ℕ) → v < net.nodes → IsDistance net.arcs true v (commodity_at net g.commodity).destination.0 (onward v))
    → (s : StepDraft) (l : Label) (labels : List Label) → IsGrowing net g → length g.labels < 65536
    → step_fault net.arcs onward g.span.free g.labels s ≡ None → l ≡ step_label net.arcs g.labels s → labels ≡ g.labels ++ l ∷ []
    → IsGrowing net (record { commodity = g.commodity; span = g.span; labels = labels })
grows net limits g onward distances s l labels is few none made put =
    let k : Commodity = commodity_at net g.commodity in record {
      commodity = is.commodity;
      span = is.span;
      few = omega (arith, ap (λ (xs : List Label). length xs) put, length-append g.labels (l ∷ []));
      labels = subst (λ (xs : List Label). AreFaultless net k g.span.free xs) (sym put)
          (subst (λ (x : Label). AreFaultless net k g.span.free (g.labels ++ x ∷ [])) (sym made)
          (faultless_step net limits k g.span.free onward distances g.labels s is.labels none));
    }

-- a draft of commodity k and this span that has grown by the first i of these steps, the rest of which decides
pub record IsJudgedDraft (net : Network) (onward : ℕ → Option ℕ) (k : ℕ) (span : Span) (started : Bool) (steps : List StepDraft) (i : ℕ) (g : Growing) : Type 0 where
  pub commodity : g.commodity ≡ k
  pub span_is : g.span ≡ span
  pub draft : IsGrowing net g
  pub judged : IsJudged net.arcs onward span.free (commodity_at net k).origin started steps i g.labels
