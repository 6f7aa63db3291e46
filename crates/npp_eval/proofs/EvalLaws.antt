-- From the steps of an evaluation to what it says of tolls.
use Rattle.std.proofs.Common.{ℕ, List, [], ◌∷◌}
use Rattle.std.proofs.lemmas.List.Elements.{All-cons, All-nil}
use Rattle.npp_frac.specs.Rational.{Rational}
use Rattle.npp_frac.specs.Fits.{limit_of}
use Rattle.npp_net.specs.declared.types.NetArc.{NetArc}
use Rattle.npp_net.specs.declared.types.Commodity.{Commodity}
use Rattle.npp_net.specs.declared.types.Span.{Span}
use Rattle.npp_net.specs.Network.{Network}
use Rattle.npp_net.specs.Distance.{HasNoFreePath}
use Rattle.npp_bounds.specs.Spans.{AreSpans, AllHaveFreePaths}
use Rattle.npp_labels.specs.declared.covers.CoversRefusal.{CoversRefusal}
use Rattle.npp_labels.specs.declared.covers.CoversRefusal.TheVariants as covers
use Rattle.npp_labels.specs.Covers.{IsCoversRefusal}
use Rattle.npp_start.specs.Allowed.{AreAllowed}
use Rattle.npp_toll_text.specs.TollsText.{IsTollsText}
use Rattle.npp_eval.specs.declared.refusal.EvalRefusal.{EvalRefusal}
use Rattle.npp_eval.specs.declared.refusal.EvalRefusal.TheVariants.{Line, NoFreePath, TooManyLabels, TooManyPaths, Overflow, Memory}
use Rattle.npp_eval.specs.Refused.{IsRefusalOfTolls, IsRefusalOfText, over_limit}

-- commodities with spans have toll-free walks
pub all_have_free_paths : (arcs : List NetArc) (ks : List Commodity) (ss : List Span) → AreSpans arcs ks ss → AllHaveFreePaths arcs ks
all_have_free_paths arcs [] [] are = All-nil (λ k. HasNoFreePath arcs k → ⊥)
all_have_free_paths arcs [] (s ∷ ss) are = absurd are
all_have_free_paths arcs (k ∷ ks) [] are = absurd are
all_have_free_paths arcs (k ∷ ks) (s ∷ ss) are =
    All-cons (λ k. HasNoFreePath arcs k → ⊥) k ks (λ none. none are.0.free_least.attained.0 are.0.free_least.attained.1)
    (all_have_free_paths arcs ks ss are.1)

-- the tolls of a tolls text may be set
pub allowed_tolls : (net : Network) (bytes : List ℕ) (tolls : List Rational) → IsTollsText net.arcs bytes tolls → AreAllowed net tolls
allowed_tolls net bytes tolls text = record {
  size = text.count;
  not_negative = λ a l. (text.allowed a l).not_negative;
  ceilings = λ a u l e. (text.allowed a l).ceiling u e;
}

-- a limit that is passed
pub over_limit_is : (limit : ℕ) (net : Network) (tolls : List Rational) (refusal : CoversRefusal) → AllHaveFreePaths net.arcs net.commodities
    → IsCoversRefusal net.arcs net.commodities refusal → IsRefusalOfTolls limit net tolls (over_limit refusal)
over_limit_is limit net tolls (covers.TooManyLabels k) connected is = (connected, is)
over_limit_is limit net tolls (covers.TooManyPaths k) connected is = (connected, is)
over_limit_is limit net tolls covers.Memory connected is = tt

-- why tolls are refused that come as a text
pub text_is_refused : (net : Network) (bytes : List ℕ) (tolls : List Rational) → IsTollsText net.arcs bytes tolls → (refusal : EvalRefusal)
    → IsRefusalOfTolls (limit_of 128) net tolls refusal → IsRefusalOfText net bytes refusal
text_is_refused net bytes tolls text (Line number) is = absurd is
text_is_refused net bytes tolls text (NoFreePath k) is = record { tolls = tolls; is_text = text; is_refused = is }
text_is_refused net bytes tolls text (TooManyLabels k) is = record { tolls = tolls; is_text = text; is_refused = is }
text_is_refused net bytes tolls text (TooManyPaths k) is = record { tolls = tolls; is_text = text; is_refused = is }
text_is_refused net bytes tolls text (Overflow k) is = record { tolls = tolls; is_text = text; is_refused = is }
text_is_refused net bytes tolls text Memory is = tt
