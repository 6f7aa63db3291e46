-- Why tolls are not evaluated.
use Rattle.std.specs.Prelude.{◌≡◌, ⊤, ℕ, List, Some}
use Rattle.npp_frac.specs.Rational.{Rational}
use Rattle.npp_frac.specs.Fits.{limit_of}
use Rattle.npp_net.specs.Network.{Network}
use Rattle.npp_bounds.specs.declared.refusal.BoundsRefusal.TheVariants as bounds
use Rattle.npp_bounds.specs.Spans.{IsBoundsRefusal, AllHaveFreePaths}
use Rattle.npp_cover.specs.Replaces.{CoverValue}
use Rattle.npp_labels.specs.declared.covers.CoversRefusal.{CoversRefusal}
use Rattle.npp_labels.specs.declared.covers.CoversRefusal.TheVariants as covers
use Rattle.npp_labels.specs.Covers.{AreUsefulCovers, IsCoversRefusal, PassesNoLimit}
use Rattle.npp_rows.specs.Caps.{path_model}
use Rattle.npp_rows.specs.Response.{reply_stop}
use Rattle.npp_toll_text.specs.TollsText.{IsTollsText}
use Rattle.npp_toll_text.specs.Refused.{IsRefusedLine}
use Rattle.npp_eval.specs.declared.refusal.EvalRefusal.{EvalRefusal}
use Rattle.npp_eval.specs.declared.refusal.EvalRefusal.TheVariants.{Line, NoFreePath, TooManyLabels, TooManyPaths, Overflow, Memory}

-- each commodity has a toll-free walk, and a limit is passed
abbrev pub IsOverLimit : Network → CoversRefusal → Type 0
IsOverLimit net refusal = AllHaveFreePaths net.arcs net.commodities × IsCoversRefusal net.arcs net.commodities refusal

-- each commodity has a toll-free walk, no limit is passed, and commodity k is the first of which a sum or product of the
-- reply over useful covers is not below the limit
pub record IsTooWide (limit : ℕ) (net : Network) (tolls : List Rational) (k : ℕ) : Type 0 where
  pub connected : AllHaveFreePaths net.arcs net.commodities
  pub covers : List CoverValue
  pub are_useful : AreUsefulCovers net.arcs net.commodities covers
  pub kept : PassesNoLimit net.arcs net.commodities
  pub stop : reply_stop limit (path_model net covers) tolls ≡ Some k

-- of tolls that are given: the first of the causes in this order; or want of memory
abbrev pub IsRefusalOfTolls : ℕ → Network → List Rational → EvalRefusal → Type 0
IsRefusalOfTolls limit net tolls (Line number) = ⊥
IsRefusalOfTolls limit net tolls (NoFreePath k) = IsBoundsRefusal net.arcs net.commodities (bounds.NoFreePath k)
IsRefusalOfTolls limit net tolls (TooManyLabels k) = IsOverLimit net (covers.TooManyLabels k)
IsRefusalOfTolls limit net tolls (TooManyPaths k) = IsOverLimit net (covers.TooManyPaths k)
IsRefusalOfTolls limit net tolls (Overflow k) = IsTooWide limit net tolls k
IsRefusalOfTolls limit net tolls Memory = ⊤

-- the bytes are the text of tolls, which are refused with numbers of 128 bits
pub record IsTextOfRefused (net : Network) (bytes : List ℕ) (refusal : EvalRefusal) : Type 0 where
  pub tolls : List Rational
  pub is_text : IsTollsText net.arcs bytes tolls
  pub is_refused : IsRefusalOfTolls (limit_of 128) net tolls refusal

-- of bytes: the line at which they are no tolls text; or why the tolls are refused of which they are the text; or want of memory
abbrev pub IsRefusalOfText : Network → List ℕ → EvalRefusal → Type 0
IsRefusalOfText net bytes (Line number) = IsRefusedLine net.arcs bytes number
IsRefusalOfText net bytes (NoFreePath k) = IsTextOfRefused net bytes (NoFreePath k)
IsRefusalOfText net bytes (TooManyLabels k) = IsTextOfRefused net bytes (TooManyLabels k)
IsRefusalOfText net bytes (TooManyPaths k) = IsTextOfRefused net bytes (TooManyPaths k)
IsRefusalOfText net bytes (Overflow k) = IsTextOfRefused net bytes (Overflow k)
IsRefusalOfText net bytes Memory = ⊤

-- the refusal of a limit that is passed
abbrev pub over_limit : CoversRefusal → EvalRefusal
over_limit (covers.TooManyLabels k) = TooManyLabels k
over_limit (covers.TooManyPaths k) = TooManyPaths k
over_limit covers.Memory = Memory
