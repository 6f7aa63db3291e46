-- Which status and which text answer the words, given what the shelf holds.
use Rattle.std.specs.Prelude.{◌≡◌, ◌⊎◌, ℕ, ◌≤◌, Bool, true, false, nat_lt, List, length, Option, None, Some, Ok, MatchBool, MatchResult}
use Rattle.npp_outside.specs.Shelf.{Files, file_at}
use Rattle.npp_net.specs.declared.types.Span.{Span}
use Rattle.npp_net.specs.Network.{Network}
use Rattle.npp_reader.specs.declared.refusal.ReadRefusal.{ReadRefusal}
use Rattle.npp_reader.specs.declared.refusal.ReadRefusal.TheVariants.{Line, Memory}
use Rattle.npp_reader.specs.Kind.{kind_word}
use Rattle.npp_reader.specs.Reading.{reading_of}
use Rattle.npp_reader.specs.Canonical.{canonical_text}
use Rattle.npp_bounds.specs.declared.refusal.BoundsRefusal.TheVariants.{NoFreePath}
use Rattle.npp_bounds.specs.Spans.{AreSpans, AllHaveFreePaths, IsBoundsRefusal, basic}
use Rattle.npp_cli.specs.declared.words.FileJob.{FileJob}
use Rattle.npp_cli.specs.declared.words.FileJob.TheVariants.{Solve, Bounds, Paths}
use Rattle.npp_cli.specs.declared.words.CertificateJob.{CertificateJob}
use Rattle.npp_cli.specs.declared.words.CertificateJob.TheVariants.{Check, Upgrade}
use Rattle.npp_cli.specs.Words.{Job, on_file, evaluate, on_certificate, generate, demonstrate, job_of}
use Rattle.npp_cli.specs.Evaluated.{AnswersTolls}
use Rattle.npp_cli.specs.Checked.{AnswersCheck, IsJudged, upgrade_limit}
use Rattle.npp_cli.specs.Generated.{generated}
use Rattle.npp_frac.specs.Fits.{limit_of}
use Rattle.npp_cover.specs.Replaces.{CoverValue}
use Rattle.npp_labels.specs.Covers.{AreUsefulCovers, PassesNoLimit, path_total}
use Rattle.npp_tree.specs.declared.outcome.Status.{Status}
use Rattle.npp_tree.specs.declared.outcome.Status.TheVariants.{Optimal, Budget, Overflow}
use Rattle.npp_tree.specs.Outcome.{OutcomeValue}
use Rattle.npp_search.specs.Problem.{problem_of}
use Rattle.npp_stream.specs.TextVerdicts.{IsTextVerdict}
use Rattle.npp_writer.specs.OutcomeText.{outcome_text}
use Rattle.npp_cli.specs.Headline.{IsReportOf, IsSearched, report_of}
use Rattle.npp_cli.specs.SpansText.{spans_text}
use Rattle.npp_cli.specs.Listed.{IsListed, IsOverLimit}
use Rattle.npp_cli.specs.Texts.{usage_text, missing_text, shelf_fault_text, too_long_text, faulty_line_text, no_free_path_text}

-- how many bytes an instance file may have
abbrev pub instance_limit : ℕ
instance_limit = 4194304

-- and a tolls file
abbrev pub tolls_limit : ℕ
tolls_limit = 65536

-- the status of the program for that of a report
abbrev pub exit_status : Status → ℕ
exit_status Optimal = 0
exit_status Budget = 1
exit_status Overflow = 8

-- no limit is passed, and the text is that of an outcome that a search over useful covers grew within the budget, at 64 bits:
-- its certificate, or its report alone. The report is true of the instance, and the certificate is accepted with the two values
pub record IsSolved (budget : ℕ) (brief : Bool) (net : Network) (status : ℕ) (text : List ℕ) : Type 0 where
  pub covers : List CoverValue
  pub are_useful : AreUsefulCovers net.arcs net.commodities covers
  pub within : path_total covers ≤ 2000
  pub kept : PassesNoLimit net.arcs net.commodities
  pub outcome : OutcomeValue
  pub searched : IsSearched (problem_of (limit_of 64) net covers) budget outcome
  pub is_report : IsReportOf net (report_of outcome)
  pub is_text : text ≡ outcome_text brief 64 net covers outcome
  pub is_accepted : brief ≡ false → IsTextVerdict net text (Ok (record { lower = outcome.lower; upper = outcome.upper }))
  pub is_status : status ≡ exit_status outcome.status

-- the least costs of each commodity and the basic bound, with status 0
pub record IsBounded (net : Network) (status : ℕ) (text : List ℕ) : Type 0 where
  pub spans : List Span
  pub are_spans : AreSpans net.arcs net.commodities spans
  pub is_text : text ≡ spans_text spans (basic net.commodities spans)
  pub is_status : status ≡ 0

-- what a job says of an instance
abbrev pub IsDone : FileJob → Network → ℕ → List ℕ → Type 0
IsDone (Solve budget brief) net status text = IsSolved budget brief net status text ⊎ IsOverLimit net status text
IsDone Bounds net status text = IsBounded net status text
IsDone Paths net status text = IsListed net status text ⊎ IsOverLimit net status text

-- the first commodity that has no toll-free walk is named with status 10; where each has one, `about` says what is answered
abbrev pub AnswersConnected : (ℕ → List ℕ → Type 0) → Network → ℕ → List ℕ → Type 0
AnswersConnected about net status text =
    ((k : ℕ) × IsBoundsRefusal net.arcs net.commodities (NoFreePath k) × (status ≡ 10) × (text ≡ no_free_path_text k))
    ⊎ (AllHaveFreePaths net.arcs net.commodities × about status text)

-- where each commodity has a toll-free walk the job is done
abbrev pub AnswersInstance : FileJob → Network → ℕ → List ℕ → Type 0
AnswersInstance job net status text = AnswersConnected (IsDone job net) net status text

-- the first faulty line is named with status 3
abbrev pub AnswersFault : ReadRefusal → ℕ → List ℕ → Type 0
AnswersFault (Line number kind) status text = (status ≡ 3) × (text ≡ faulty_line_text number (kind_word kind))
AnswersFault Memory status text = ⊥

-- the answer about the bytes of an instance file, where `about` says what is answered about an instance
abbrev pub AnswersBytes : (Network → ℕ → List ℕ → Type 0) → List ℕ → ℕ → List ℕ → Type 0
AnswersBytes about bytes status text =
    MatchResult (reading_of bytes)
    (λ document. about document.instance status text)
    (λ fault. AnswersFault fault status text)

-- the answer about a file that is missing, with status 4, or has these bytes: with more than the limit the status is 12, and
-- else `about` says what is answered about them
abbrev pub AnswersContent : (List ℕ → ℕ → List ℕ → Type 0) → ℕ → List ℕ → Option (List ℕ) → ℕ → List ℕ → Type 0
AnswersContent about limit name None status text = (status ≡ 4) × (text ≡ missing_text name)
AnswersContent about limit name (Some bytes) status text =
    MatchBool (nat_lt limit (length bytes))
    ((status ≡ 12) × (text ≡ too_long_text name))
    (about bytes status text)

-- where the shelf failed the status is 5; else `about` says what is answered about the file that the shelf holds under the name,
-- and about any file or none where the shelf does not tell
abbrev pub AnswersHeld : (Option (List ℕ) → ℕ → List ℕ → Type 0) → Option Files → List ℕ → ℕ → List ℕ → Type 0
AnswersHeld about (Some files) name status text = ((status ≡ 5) × (text ≡ shelf_fault_text name)) ⊎ about (file_at files name) status text
AnswersHeld about None name status text =
    ((status ≡ 5) × (text ≡ shelf_fault_text name)) ⊎ ((file : Option (List ℕ)) × about file status text)

-- the same where a file may have so many bytes, and `about` says what is answered about them
abbrev pub AnswersFile : (List ℕ → ℕ → List ℕ → Type 0) → ℕ → Option Files → List ℕ → ℕ → List ℕ → Type 0
AnswersFile about limit held name status text = AnswersHeld (AnswersContent about limit name) held name status text

-- the answer of a job on one file, about its bytes
abbrev pub AnswersOf : FileJob → List ℕ → ℕ → List ℕ → Type 0
AnswersOf job bytes status text = AnswersBytes (AnswersInstance job) bytes status text

-- the answer about the tolls file of this name for the instance of another file, about the bytes of that
abbrev pub AnswersWithTolls : Option Files → List ℕ → List ℕ → ℕ → List ℕ → Type 0
AnswersWithTolls held tolls bytes status text = AnswersBytes (λ net. AnswersFile (AnswersTolls net) tolls_limit held tolls) bytes status text

-- the answer of a job about a certificate file of this name that is missing or has these bytes. `upgrade` judges no line of one
-- that has more bytes than it may have
abbrev pub AnswersCertificate : CertificateJob → Network → List ℕ → Option (List ℕ) → ℕ → List ℕ → Type 0
AnswersCertificate Check net name file status text = AnswersCheck net name file status text
AnswersCertificate Upgrade net name file status text = AnswersContent (IsJudged Upgrade net) upgrade_limit name file status text

-- the answer about the certificate file of this name, for an instance
abbrev pub AnswersJudged : CertificateJob → Option Files → List ℕ → Network → ℕ → List ℕ → Type 0
AnswersJudged job held certificate net status text =
    AnswersConnected (AnswersHeld (AnswersCertificate job net certificate) held certificate) net status text

-- the same for the instance of another file, about the bytes of that
abbrev pub AnswersWithCertificate : CertificateJob → Option Files → List ℕ → List ℕ → ℕ → List ℕ → Type 0
AnswersWithCertificate job held certificate bytes status text = AnswersBytes (AnswersJudged job held certificate) bytes status text

-- the canonical text of the generated instance, with status 0
abbrev pub AnswersNumber : ℕ → ℕ → List ℕ → Type 0
AnswersNumber number status text = (status ≡ 0) × (text ≡ canonical_text (generated number))

-- what `solve --brief` says of the text of the generated instance
abbrev pub AnswersDemonstration : ℕ → ℕ → ℕ → List ℕ → Type 0
AnswersDemonstration number budget status text = AnswersOf (Solve budget true) (canonical_text (generated number)) status text

-- words that ask for no job are answered by the usage text, with status 2
abbrev pub AnswersJob : Option Job → Option Files → ℕ → List ℕ → Type 0
AnswersJob None held status text = (status ≡ 2) × (text ≡ usage_text)
AnswersJob (Some (on_file job name)) held status text = AnswersFile (AnswersOf job) instance_limit held name status text
AnswersJob (Some (evaluate name tolls)) held status text = AnswersFile (AnswersWithTolls held tolls) instance_limit held name status text
AnswersJob (Some (on_certificate job name certificate)) held status text =
    AnswersFile (AnswersWithCertificate job held certificate) instance_limit held name status text
AnswersJob (Some (generate number)) held status text = AnswersNumber number status text
AnswersJob (Some (demonstrate number budget)) held status text = AnswersDemonstration number budget status text

-- the answer to the words
abbrev pub Answers : List (List ℕ) → Option Files → ℕ → List ℕ → Type 0
Answers words held status text = AnswersJob (job_of words) held status text
