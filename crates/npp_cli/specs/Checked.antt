-- What `check` and `upgrade` answer about the bytes of a certificate, and `check` about its file.
use Rattle.std.specs.Prelude.{◌≡◌, ◌⊎◌, ℕ, ◌<◌, ◌≤◌, List, ◌∷◌, ◌++◌, length, Option, None, Some, Err, codes}
use Rattle.std.specs.Fmt.{decimal}
use Rattle.npp_frac.specs.FractionText.{fraction_text}
use Rattle.npp_net.specs.Network.{Network}
use Rattle.npp_report.specs.Lines.{line}
use Rattle.npp_check.specs.declared.refusal.Rule.{Rule}
use Rattle.npp_check.specs.declared.refusal.CheckRefusal.TheVariants.{Broken}
use Rattle.npp_check.specs.Verdict.{PairValue}
use Rattle.npp_stream.specs.declared.refusal.FileRefusal.{FileRefusal}
use Rattle.npp_stream.specs.declared.refusal.FileRefusal.TheVariants as file
use Rattle.npp_stream.specs.TextVerdicts.{IsAcceptedText, IsTextVerdict, certificate_limit}
use Rattle.npp_upgrade.specs.Upgrade.{IsUpgrade}
use Rattle.npp_cli.specs.declared.words.CertificateJob.{CertificateJob}
use Rattle.npp_cli.specs.declared.words.CertificateJob.TheVariants.{Check, Upgrade}
use Rattle.npp_cli.specs.RuleWords.{rule_word}
use Rattle.npp_cli.specs.Texts.{missing_text, shelf_fault_text, too_long_text, no_free_path_text}

-- of a certificate that proves these two values
abbrev pub accepted_text : PairValue → List ℕ
accepted_text pair = line (codes "accepted lower " ++ fraction_text pair.lower ++ codes " upper " ++ fraction_text pair.upper)

-- of the first broken line of a certificate, and the name of the first rule that it breaks
abbrev pub refused_certificate_text : ℕ → List ℕ → List ℕ
refused_certificate_text number rule = line (codes "refused certificate line " ++ decimal number ++ 32 ∷ rule)

-- the bytes are the text of items that have this pair as verdict and so prove it, and the text says both values; status 0
pub record IsAccepted (net : Network) (bytes : List ℕ) (status : ℕ) (text : List ℕ) : Type 0 where
  pub within : length bytes ≤ certificate_limit
  pub pair : PairValue
  pub accepted : IsAcceptedText net bytes pair
  pub is_text : text ≡ accepted_text pair
  pub is_status : status ≡ 0

-- the bytes are those of a certificate that is accepted, and the text is this certificate in the second form, which is accepted with
-- the same pair; status 0
pub record IsUpgraded (net : Network) (bytes : List ℕ) (status : ℕ) (text : List ℕ) : Type 0 where
  pub is_upgrade : IsUpgrade net bytes text
  pub is_status : status ≡ 0

-- the verdict on the bytes is this line with this rule, and the text names both; status 9
pub record IsRefused (net : Network) (bytes : List ℕ) (status : ℕ) (text : List ℕ) : Type 0 where
  pub number : ℕ
  pub rule : Rule
  pub verdict : IsTextVerdict net bytes (Err (Broken number rule))
  pub is_text : text ≡ refused_certificate_text number (rule_word rule)
  pub is_status : status ≡ 9

-- what a job answers about the bytes of a certificate that is accepted
abbrev pub IsTaken : CertificateJob → Network → List ℕ → ℕ → List ℕ → Type 0
IsTaken Check net bytes status text = IsAccepted net bytes status text
IsTaken Upgrade net bytes status text = IsUpgraded net bytes status text

-- what it answers about the bytes of any
abbrev pub IsJudged : CertificateJob → Network → List ℕ → ℕ → List ℕ → Type 0
IsJudged job net bytes status text = IsTaken job net bytes status text ⊎ IsRefused net bytes status text

-- how many bytes a certificate that is upgraded may have
abbrev pub upgrade_limit : ℕ
upgrade_limit = 67108864

-- how many bytes the certificate of a job may have
abbrev pub limit_for : CertificateJob → ℕ
limit_for Check = certificate_limit
limit_for Upgrade = upgrade_limit

-- what `check` answers about a certificate file that is missing, with status 4, or has these bytes. Where they are more than there
-- may be the status is 12, unless a line is refused before they all were taken
abbrev pub AnswersCheck : Network → List ℕ → Option (List ℕ) → ℕ → List ℕ → Type 0
AnswersCheck net name None status text = (status ≡ 4) × (text ≡ missing_text name)
AnswersCheck net name (Some bytes) status text =
    IsJudged Check net bytes status text
    ⊎ ((certificate_limit < length bytes) × (status ≡ 12) × (text ≡ too_long_text name))

-- each cause by which the file is not accepted has its text and its status
abbrev pub AnswersFileRefusal : List ℕ → FileRefusal → ℕ → List ℕ → Type 0
AnswersFileRefusal name (file.NoFreePath k) status text = (status ≡ 10) × (text ≡ no_free_path_text k)
AnswersFileRefusal name file.Missing status text = (status ≡ 4) × (text ≡ missing_text name)
AnswersFileRefusal name file.Failed status text = (status ≡ 5) × (text ≡ shelf_fault_text name)
AnswersFileRefusal name file.TooLong status text = (status ≡ 12) × (text ≡ too_long_text name)
AnswersFileRefusal name (file.Broken number rule) status text = (status ≡ 9) × (text ≡ refused_certificate_text number (rule_word rule))
AnswersFileRefusal name file.Memory status text = ⊥
