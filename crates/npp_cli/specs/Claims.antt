-- What a run owes where nothing stands in its way: the claims that a reader of the output can count on.
use Rattle.std.specs.Prelude.{◌≡◌, ◌≢◌, ◌↔◌, ℕ, ◌≤◌, List, length, Option, Some, Ok}
use Rattle.npp_outside.specs.Shelf.{Files, file_at}
use Rattle.npp_outside.specs.Sink.{GrewBy}
use Rattle.npp_net.specs.Network.{Network}
use Rattle.npp_reader.specs.Reading.{reading_of}
use Rattle.npp_bounds.specs.Spans.{AllHaveFreePaths}
use Rattle.npp_check.specs.Verdict.{PairValue}
use Rattle.npp_stream.specs.TextVerdicts.{IsAcceptedText}
use Rattle.npp_cli.specs.declared.words.CertificateJob.{CertificateJob}
use Rattle.npp_cli.specs.declared.words.FileJob.{FileJob}
use Rattle.npp_cli.specs.Words.{Job, on_file, job_of}
use Rattle.npp_cli.specs.Evaluated.{AnswersTolls}
use Rattle.npp_cli.specs.Checked.{IsJudged}
use Rattle.npp_cli.specs.Answers.{AnswersBytes, AnswersCertificate, AnswersConnected, AnswersContent, instance_limit, tolls_limit}

-- the words ask for this job on a file that is held, whose bytes are few enough and stand for this network,
-- and each commodity of it has a toll-free walk
pub record IsGiven (job : FileJob) (words : List (List ℕ)) (held : Option Files) (net : Network) : Type 0 where
  pub name : List ℕ
  pub files : Files
  pub bytes : List ℕ
  pub names : List (List ℕ)
  pub asks : job_of words ≡ Some (on_file job name)
  pub told : held ≡ Some files
  pub is_held : file_at files name ≡ Some bytes
  pub short : length bytes ≤ instance_limit
  pub stands_for : reading_of bytes ≡ Ok (record { names = names; instance = net })
  pub connected : AllHaveFreePaths net.arcs net.commodities

-- the words ask for this job on an instance file and a second file; both are held, and their bytes are few enough, the limit being
-- that of the second; those of the instance file stand for this network, and those of the second are these
pub record IsGivenTwo (job : List ℕ → List ℕ → Job) (limit : ℕ) (words : List (List ℕ)) (held : Option Files) (net : Network) (second : List ℕ) : Type 0 where
  pub name : List ℕ
  pub second_name : List ℕ
  pub files : Files
  pub bytes : List ℕ
  pub names : List (List ℕ)
  pub asks : job_of words ≡ Some (job name second_name)
  pub told : held ≡ Some files
  pub is_held : file_at files name ≡ Some bytes
  pub short : length bytes ≤ instance_limit
  pub stands_for : reading_of bytes ≡ Ok (record { names = names; instance = net })
  pub second_held : file_at files second_name ≡ Some second
  pub second_short : length second ≤ limit

-- the words ask for this job, and the shelf tells that it holds these files
pub record IsAsked (job : Job) (files : Files) (words : List (List ℕ)) (held : Option Files) : Type 0 where
  pub asks : job_of words ≡ Some job
  pub told : held ≡ Some files

-- the sink did not fail, and there was memory
pub record WasWritten (status : ℕ) : Type 0 where
  pub sink : status ≢ 6
  pub memory : status ≢ 7

-- neither shelf nor sink failed, and there was memory
pub record NothingFailed (status : ℕ) : Type 0 where
  pub shelf : status ≢ 5
  pub sink : status ≢ 6
  pub memory : status ≢ 7

-- all that was written is this text, and the status is this one
pub record Prints (text : List ℕ) (expected : ℕ) (old new : Option (List ℕ)) (status : ℕ) : Type 0 where
  pub grew : GrewBy old new text
  pub is_status : status ≡ expected

-- all that was written is a text that may be said so with the status
pub record PrintsSaid (may_say : ℕ → List ℕ → Type 0) (old new : Option (List ℕ)) (status : ℕ) : Type 0 where
  pub text : List ℕ
  pub said : may_say status text
  pub grew : GrewBy old new text

-- the answer about an instance file and a tolls file of these names, each of which is missing or has these bytes
abbrev pub AnswersTwoFiles : List ℕ → List ℕ → Option (List ℕ) → Option (List ℕ) → ℕ → List ℕ → Type 0
AnswersTwoFiles name tolls_name file tolls_file status text =
    AnswersContent (AnswersBytes (λ net. AnswersContent (AnswersTolls net) tolls_limit tolls_name tolls_file)) instance_limit name file status text

-- the answer of a job about an instance file and a certificate file of these names, each of which is missing or has these bytes
abbrev pub AnswersOnCertificate : CertificateJob → List ℕ → List ℕ → Option (List ℕ) → Option (List ℕ) → ℕ → List ℕ → Type 0
AnswersOnCertificate job name certificate_name file certificate status text =
    AnswersContent (AnswersBytes (λ net. AnswersConnected (AnswersCertificate job net certificate_name certificate) net)) instance_limit name file status text

-- what the job says of these bytes. The status is 0 exactly where they are the text of items that have a pair as verdict, which
-- proves both values of the pair
pub record SaysVerdict (job : CertificateJob) (net : Network) (certificate : List ℕ) (status : ℕ) (text : List ℕ) : Type 0 where
  pub judged : IsJudged job net certificate status text
  pub accepted : (status ≡ 0) ↔ ((pair : PairValue) × IsAcceptedText net certificate pair)
