-- What `paths` answers of an instance: its useful paths, or the first limit that is passed.
use Rattle.std.specs.Prelude.{◌≡◌, ℕ, ◌≤◌, List}
use Rattle.npp_net.specs.Network.{Network}
use Rattle.npp_cover.specs.Replaces.{CoverValue}
use Rattle.npp_labels.specs.declared.covers.CoversRefusal.{CoversRefusal}
use Rattle.npp_labels.specs.declared.covers.CoversRefusal.TheVariants.{TooManyLabels, TooManyPaths, Memory}
use Rattle.npp_labels.specs.Covers.{AreUsefulCovers, IsCoversRefusal, PassesNoLimit, path_total}
use Rattle.npp_cli.specs.PathsText.{paths_text}
use Rattle.npp_cli.specs.Texts.{too_many_labels_text, too_many_paths_text}

-- no limit is passed, and the text has the useful paths of each commodity, at most 2,000 of them together, with status 0
pub record IsListed (net : Network) (status : ℕ) (text : List ℕ) : Type 0 where
  pub covers : List CoverValue
  pub are_useful : AreUsefulCovers net.arcs net.commodities covers
  pub within : path_total covers ≤ 2000
  pub kept : PassesNoLimit net.arcs net.commodities
  pub is_text : text ≡ paths_text covers
  pub is_status : status ≡ 0

-- the first commodity that passes a limit is named with status 11
abbrev pub AnswersLimit : CoversRefusal → ℕ → List ℕ → Type 0
AnswersLimit (TooManyLabels k) status text = (status ≡ 11) × (text ≡ too_many_labels_text k)
AnswersLimit (TooManyPaths k) status text = (status ≡ 11) × (text ≡ too_many_paths_text k)
AnswersLimit Memory status text = ⊥

-- a limit is passed
pub record IsOverLimit (net : Network) (status : ℕ) (text : List ℕ) : Type 0 where
  pub refusal : CoversRefusal
  pub is_refusal : IsCoversRefusal net.arcs net.commodities refusal
  pub answers : AnswersLimit refusal status text
