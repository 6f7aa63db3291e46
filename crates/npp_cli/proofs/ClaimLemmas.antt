-- From the answer to the words to the claims on a run.
use Rattle.std.proofs.Common.{◌≡◌, ◌≢◌, ℕ, ◌≤◌, inl, inr, Bool, true, false, List, length, nat_lt, Option, None, Some, Result, Ok, Err, MatchBool, MatchResult, subst, refl, arith}
use Rattle.std.proofs.lemmas.Bool.Decides.{nat_tests}
use Rattle.npp_outside.specs.Shelf.{Files, file_at}
use Rattle.npp_net.specs.Network.{Network, no_commodity}
use Rattle.npp_bounds.specs.Spans.{AllHaveFreePaths}
use Rattle.npp_stream.specs.TextVerdicts.{certificate_limit}
use Rattle.npp_reader.specs.declared.document.Document.{Document}
use Rattle.npp_reader.specs.declared.refusal.ReadRefusal.{ReadRefusal}
use Rattle.npp_reader.specs.Reading.{reading_of}
use Rattle.npp_reader.specs.Canonical.{canonical_text}
use Rattle.npp_cli.specs.declared.words.CertificateJob.{CertificateJob}
use Rattle.npp_cli.specs.declared.words.CertificateJob.TheVariants.{Check, Upgrade}
use Rattle.npp_cli.specs.declared.words.FileJob.{FileJob}
use Rattle.npp_cli.specs.declared.words.FileJob.TheVariants.{Solve}
use Rattle.npp_cli.specs.Words.{Job, on_file, evaluate, on_certificate, generate, demonstrate, job_of}
use Rattle.npp_cli.specs.Generated.{generated}
use Rattle.npp_cli.specs.Texts.{too_long_text, usage_text}
use Rattle.npp_cli.specs.Evaluated.{AnswersTolls}
use Rattle.npp_cli.specs.Checked.{AnswersCheck, IsJudged, limit_for, upgrade_limit}
use Rattle.npp_cli.specs.Answers.{IsDone, AnswersInstance, AnswersFault, AnswersBytes, AnswersCertificate, AnswersConnected, AnswersContent, AnswersFile, AnswersDemonstration, AnswersHeld, AnswersJob, AnswersJudged, AnswersNumber, AnswersOf, AnswersWithCertificate, AnswersWithTolls, Answers, instance_limit, tolls_limit}
use Rattle.npp_cli.specs.Claims.{AnswersOnCertificate, AnswersTwoFiles, IsAsked, IsGiven, IsGivenTwo, NothingFailed, Prints, PrintsSaid, SaysVerdict, WasWritten}
use Rattle.npp_cli.specs.Runs.{Runs}
use Rattle.npp_cli.proofs.StatusLemmas.{bytes_status, other_2, no_shelf_2, on_certificate_status, on_file_status, on_two_status}
use Rattle.npp_cli.proofs.CheckLemmas.{judged_exactly}

module _ (status : ℕ) (text : List ℕ) where
  -- the shelf did not fail
  unfailed_held : (about : Option (List ℕ) → ℕ → List ℕ → Type 0) (files : Files) (name : List ℕ) → status ≢ 5
      → AnswersHeld about (Some files) name status text → about (file_at files name) status text
  unfailed_held about files name not_5 (inl failed) = absurd (not_5 failed.0)
  unfailed_held about files name not_5 (inr answers) = answers

  unfailed : (about : List ℕ → ℕ → List ℕ → Type 0) (limit : ℕ) (files : Files) (name : List ℕ) → status ≢ 5
      → AnswersFile about limit (Some files) name status text → AnswersContent about limit name (file_at files name) status text
  unfailed about limit files name not_5 answers = unfailed_held (AnswersContent about limit name) files name not_5 answers

  -- the file is held, and its bytes are few enough
  short_bytes : (about : List ℕ → ℕ → List ℕ → Type 0) (limit : ℕ) (name : List ℕ) (file : Option (List ℕ)) (bytes : List ℕ) → file ≡ Some bytes
      → length bytes ≤ limit → AnswersContent about limit name file status text → about bytes status text
  short_bytes about limit name file bytes held short answers =
      let OfFile : Option (List ℕ) → Type 0 = λ f. AnswersContent about limit name f status text in
      by_length (nat_lt limit (length bytes)) refl (subst OfFile held answers)
    where
      by_length : (long : Bool) → nat_lt limit (length bytes) ≡ long
          → MatchBool long ((status ≡ 12) × (text ≡ too_long_text name)) (about bytes status text) → about bytes status text
      by_length true is answers = absurd (grind (arith, nat_tests))
      by_length false is answers = answers

  -- the bytes stand for a network
  read_bytes : (about : Network → ℕ → List ℕ → Type 0) (bytes : List ℕ) (document : Document) → reading_of bytes ≡ Ok document
      → AnswersBytes about bytes status text → about document.instance status text
  read_bytes about bytes document stands answers =
      let OfReading : Result Document ReadRefusal → Type 0 = λ r. MatchResult r (λ d. about d.instance status text) (λ fault. AnswersFault fault status text) in
      subst OfReading stands answers

  -- each commodity has a toll-free walk
  connected_of : (about : ℕ → List ℕ → Type 0) (net : Network) → AllHaveFreePaths net.arcs net.commodities → AnswersConnected about net status text → about status text
  connected_of about net connected (inl refused) = absurd (connected refused.0 no_commodity refused.1.0 refused.1.1)
  connected_of about net connected (inr answers) = answers.1

  done_of : (job : FileJob) (net : Network) → AllHaveFreePaths net.arcs net.commodities → AnswersInstance job net status text → IsDone job net status text
  done_of job net connected answers = connected_of (IsDone job net) net connected answers

  -- what holds of each answer about a connected instance holds of the answer about an instance
  connected_weaker : (about other : ℕ → List ℕ → Type 0) (net : Network) → (about status text → other status text)
      → AnswersConnected about net status text → AnswersConnected other net status text
  connected_weaker about other net weaker (inl refused) = inl refused
  connected_weaker about other net weaker (inr answers) = inr (answers.0, weaker answers.1)

  -- what holds of each answer about bytes holds of the answer about the file
  content_weaker : (about other : List ℕ → ℕ → List ℕ → Type 0) (limit : ℕ) (name : List ℕ) (file : Option (List ℕ))
      → ((bytes : List ℕ) → about bytes status text → other bytes status text)
      → AnswersContent about limit name file status text → AnswersContent other limit name file status text
  content_weaker about other limit name None weaker answers = answers
  content_weaker about other limit name (Some bytes) weaker answers = by_length (nat_lt limit (length bytes)) answers
    where
      by_length : (long : Bool) → MatchBool long ((status ≡ 12) × (text ≡ too_long_text name)) (about bytes status text)
          → MatchBool long ((status ≡ 12) × (text ≡ too_long_text name)) (other bytes status text)
      by_length true answers = answers
      by_length false answers = weaker bytes answers

  -- and what holds of each about an instance holds of the answer about its bytes
  read_weaker : (about other : Network → ℕ → List ℕ → Type 0) → ((net : Network) → about net status text → other net status text)
      → (r : Result Document ReadRefusal) → MatchResult r (λ d. about d.instance status text) (λ fault. AnswersFault fault status text)
      → MatchResult r (λ d. other d.instance status text) (λ fault. AnswersFault fault status text)
  read_weaker about other weaker (Ok document) answers = weaker document.instance answers
  read_weaker about other weaker (Err fault) answers = answers

  -- the words ask for a job, and the shelf tells its files
  asked_answers : (job : Job) (files : Files) (words : List (List ℕ)) (held : Option Files) → IsAsked job files words held
      → Answers words held status text → AnswersJob (Some job) (Some files) status text
  asked_answers job files words held asked answers =
      let OfJob : Option Job → Type 0 = λ j. AnswersJob j held status text in
      let OfHeld : Option Files → Type 0 = λ h. AnswersJob (Some job) h status text in
      subst OfHeld asked.told (subst OfJob asked.asks answers)

  asked_content : (job : FileJob) (name : List ℕ) (files : Files) (words : List (List ℕ)) (held : Option Files)
      → IsAsked (on_file job name) files words held → status ≢ 5 → Answers words held status text
      → AnswersContent (AnswersOf job) instance_limit name (file_at files name) status text
  asked_content job name files words held asked not_5 answers =
      unfailed (AnswersOf job) instance_limit files name not_5 (asked_answers (on_file job name) files words held asked answers)

  asked_two : (name tolls_name : List ℕ) (files : Files) (words : List (List ℕ)) (held : Option Files)
      → IsAsked (evaluate name tolls_name) files words held → status ≢ 5 → Answers words held status text
      → AnswersTwoFiles name tolls_name (file_at files name) (file_at files tolls_name) status text
  asked_two name tolls_name files words held asked not_5 answers =
      let OnTolls : Network → ℕ → List ℕ → Type 0 = λ net. AnswersFile (AnswersTolls net) tolls_limit (Some files) tolls_name in
      let OnContent : Network → ℕ → List ℕ → Type 0 = λ net. AnswersContent (AnswersTolls net) tolls_limit tolls_name (file_at files tolls_name) in
      content_weaker (AnswersWithTolls (Some files) tolls_name) (AnswersBytes OnContent) instance_limit name (file_at files name)
      (λ bytes. read_weaker OnTolls OnContent (λ net. unfailed (AnswersTolls net) tolls_limit files tolls_name not_5) (reading_of bytes))
      (unfailed (AnswersWithTolls (Some files) tolls_name) instance_limit files name not_5
      (asked_answers (evaluate name tolls_name) files words held asked answers))

  asked_certificate : (job : CertificateJob) (name certificate_name : List ℕ) (files : Files) (words : List (List ℕ)) (held : Option Files)
      → IsAsked (on_certificate job name certificate_name) files words held → status ≢ 5 → Answers words held status text
      → AnswersOnCertificate job name certificate_name (file_at files name) (file_at files certificate_name) status text
  asked_certificate job name certificate_name files words held asked not_5 answers =
      let OnHeld : Network → ℕ → List ℕ → Type 0 = λ net. AnswersHeld (AnswersCertificate job net certificate_name) (Some files) certificate_name in
      let OnFile : Network → ℕ → List ℕ → Type 0 = λ net. AnswersCertificate job net certificate_name (file_at files certificate_name) in
      let OnContent : Network → ℕ → List ℕ → Type 0 = λ net. AnswersConnected (OnFile net) net in
      content_weaker (AnswersWithCertificate job (Some files) certificate_name) (AnswersBytes OnContent) instance_limit name (file_at files name)
      (λ bytes. read_weaker (AnswersJudged job (Some files) certificate_name) OnContent
      (λ net. connected_weaker (OnHeld net) (OnFile net) net (unfailed_held (AnswersCertificate job net certificate_name) files certificate_name not_5)) (reading_of bytes))
      (unfailed (AnswersWithCertificate job (Some files) certificate_name) instance_limit files name not_5
      (asked_answers (on_certificate job name certificate_name) files words held asked answers))

  given_done : (words : List (List ℕ)) (held : Option Files) (job : FileJob) (net : Network) → IsGiven job words held net → status ≢ 5
      → Answers words held status text → IsDone job net status text
  given_done words held job net given not_5 answers =
      let content = asked_content job given.name given.files words held (record { asks = given.asks; told = given.told }) not_5 answers in
      let on_bytes = short_bytes (AnswersOf job) instance_limit given.name (file_at given.files given.name) given.bytes given.is_held given.short content in
      done_of job net given.connected (read_bytes (AnswersInstance job) given.bytes (record { names = given.names; instance = net }) given.stands_for on_bytes)

  given_evaluation : (words : List (List ℕ)) (held : Option Files) (net : Network) (tolls : List ℕ)
      → IsGivenTwo evaluate tolls_limit words held net tolls → status ≢ 5 → Answers words held status text → AnswersTolls net tolls status text
  given_evaluation words held net tolls given not_5 answers =
      let OnContent : Network → ℕ → List ℕ → Type 0 = λ net. AnswersContent (AnswersTolls net) tolls_limit given.second_name (file_at given.files given.second_name) in
      let content = asked_two given.name given.second_name given.files words held (record { asks = given.asks; told = given.told }) not_5 answers in
      let on_bytes = short_bytes (AnswersBytes OnContent) instance_limit given.name (file_at given.files given.name) given.bytes given.is_held given.short content in
      let on_net = read_bytes OnContent given.bytes (record { names = given.names; instance = net }) given.stands_for on_bytes in
      short_bytes (AnswersTolls net) tolls_limit given.second_name (file_at given.files given.second_name) tolls given.second_held given.second_short on_net

  -- the certificate is held, and its bytes are few enough
  checked_bytes : (net : Network) (name : List ℕ) (file : Option (List ℕ)) (bytes : List ℕ) → file ≡ Some bytes → length bytes ≤ certificate_limit
      → AnswersCheck net name file status text → IsJudged Check net bytes status text
  checked_bytes net name file bytes held short answers =
      let OfFile : Option (List ℕ) → Type 0 = λ f. AnswersCheck net name f status text in
      within (subst OfFile held answers)
    where
      within : AnswersCheck net name (Some bytes) status text → IsJudged Check net bytes status text
      within (inl judged) = judged
      within (inr long) = absurd (let longer = long.0 in omega (arith, longer, short))

  judged_bytes : (job : CertificateJob) (net : Network) (name : List ℕ) (file : Option (List ℕ)) (bytes : List ℕ) → file ≡ Some bytes
      → length bytes ≤ limit_for job → AnswersCertificate job net name file status text → IsJudged job net bytes status text
  judged_bytes Check net name file bytes held short answers = checked_bytes net name file bytes held short answers
  judged_bytes Upgrade net name file bytes held short answers = short_bytes (IsJudged Upgrade net) upgrade_limit name file bytes held short answers

  given_verdict : (words : List (List ℕ)) (held : Option Files) (job : CertificateJob) (net : Network) (certificate : List ℕ)
      → IsGivenTwo (on_certificate job) (limit_for job) words held net certificate → AllHaveFreePaths net.arcs net.commodities → status ≢ 5
      → Answers words held status text → SaysVerdict job net certificate status text
  given_verdict words held job net certificate given connected not_5 answers =
      let OnFile : Network → ℕ → List ℕ → Type 0 = λ net. AnswersCertificate job net given.second_name (file_at given.files given.second_name) in
      let OnContent : Network → ℕ → List ℕ → Type 0 = λ net. AnswersConnected (OnFile net) net in
      let content = asked_certificate job given.name given.second_name given.files words held (record { asks = given.asks; told = given.told }) not_5 answers in
      let on_bytes = short_bytes (AnswersBytes OnContent) instance_limit given.name (file_at given.files given.name) given.bytes given.is_held given.short content in
      let on_net = read_bytes OnContent given.bytes (record { names = given.names; instance = net }) given.stands_for on_bytes in
      let judged = judged_bytes job net given.second_name (file_at given.files given.second_name) certificate given.second_held given.second_short
      (connected_of (OnFile net) net connected on_net) in
      record { judged = judged; accepted = judged_exactly job net certificate status text judged }

-- what is said by each text that answers the words is said by the one that was written
prints_said : (may_say : ℕ → List ℕ → Type 0) (words : List (List ℕ)) (held : Option Files) (old new : Option (List ℕ)) (status : ℕ)
    → Runs words held old new status → status ≢ 6 → status ≢ 7
    → ((text : List ℕ) → Answers words held status text → may_say status text) → PrintsSaid may_say old new status
prints_said may_say words held old new status runs not_6 not_7 says =
    let whole = runs.whole not_6 not_7 in
    record { text = whole.0; said = says whole.0 whole.1; grew = whole.2 }

pub prints_done : (words : List (List ℕ)) (held : Option Files) (old new : Option (List ℕ)) (status : ℕ) → Runs words held old new status
    → (job : FileJob) (net : Network) → IsGiven job words held net → NothingFailed status → PrintsSaid (IsDone job net) old new status
prints_done words held old new status runs job net given nothing =
    prints_said (IsDone job net) words held old new status runs nothing.sink nothing.memory
    (λ text. given_done status text words held job net given nothing.shelf)

pub prints_evaluation : (words : List (List ℕ)) (held : Option Files) (old new : Option (List ℕ)) (status : ℕ) → Runs words held old new status
    → (net : Network) (tolls : List ℕ) → IsGivenTwo evaluate tolls_limit words held net tolls → NothingFailed status
    → PrintsSaid (AnswersTolls net tolls) old new status
prints_evaluation words held old new status runs net tolls given nothing =
    prints_said (AnswersTolls net tolls) words held old new status runs nothing.sink nothing.memory
    (λ text. given_evaluation status text words held net tolls given nothing.shelf)

pub prints_verdict : (words : List (List ℕ)) (held : Option Files) (old new : Option (List ℕ)) (status : ℕ) → Runs words held old new status
    → (job : CertificateJob) (net : Network) (certificate : List ℕ) → IsGivenTwo (on_certificate job) (limit_for job) words held net certificate
    → AllHaveFreePaths net.arcs net.commodities → NothingFailed status → PrintsSaid (SaysVerdict job net certificate) old new status
prints_verdict words held old new status runs job net certificate given connected nothing =
    prints_said (SaysVerdict job net certificate) words held old new status runs nothing.sink nothing.memory
    (λ text. given_verdict status text words held job net certificate given connected nothing.shelf)

pub prints_about : (words : List (List ℕ)) (held : Option Files) (old new : Option (List ℕ)) (status : ℕ) → Runs words held old new status
    → (job : FileJob) (name : List ℕ) (files : Files) → IsAsked (on_file job name) files words held → NothingFailed status
    → PrintsSaid (AnswersContent (AnswersOf job) instance_limit name (file_at files name)) old new status
prints_about words held old new status runs job name files asked nothing =
    prints_said (AnswersContent (AnswersOf job) instance_limit name (file_at files name)) words held old new status runs nothing.sink nothing.memory
    (λ text. asked_content status text job name files words held asked nothing.shelf)

pub prints_about_two : (words : List (List ℕ)) (held : Option Files) (old new : Option (List ℕ)) (status : ℕ) → Runs words held old new status
    → (name tolls_name : List ℕ) (files : Files) → IsAsked (evaluate name tolls_name) files words held → NothingFailed status
    → PrintsSaid (AnswersTwoFiles name tolls_name (file_at files name) (file_at files tolls_name)) old new status
prints_about_two words held old new status runs name tolls_name files asked nothing =
    prints_said (AnswersTwoFiles name tolls_name (file_at files name) (file_at files tolls_name)) words held old new status runs nothing.sink nothing.memory
    (λ text. asked_two status text name tolls_name files words held asked nothing.shelf)

pub prints_on_certificate : (words : List (List ℕ)) (held : Option Files) (old new : Option (List ℕ)) (status : ℕ) → Runs words held old new status
    → (job : CertificateJob) (name certificate_name : List ℕ) (files : Files) → IsAsked (on_certificate job name certificate_name) files words held
    → NothingFailed status → PrintsSaid (AnswersOnCertificate job name certificate_name (file_at files name) (file_at files certificate_name)) old new status
prints_on_certificate words held old new status runs job name certificate_name files asked nothing =
    prints_said (AnswersOnCertificate job name certificate_name (file_at files name) (file_at files certificate_name)) words held old new status runs
    nothing.sink nothing.memory (λ text. asked_certificate status text job name certificate_name files words held asked nothing.shelf)

usage_of : (status : ℕ) (text : List ℕ) (held : Option Files) (job : Option Job) → job ≡ None → AnswersJob job held status text → (status ≡ 2) × (text ≡ usage_text)
usage_of status text held job none answers = let OfJob : Option Job → Type 0 = λ j. AnswersJob j held status text in subst OfJob none answers

pub prints_usage : (words : List (List ℕ)) (held : Option Files) (old new : Option (List ℕ)) (status : ℕ) → Runs words held old new status
    → job_of words ≡ None → WasWritten status → Prints usage_text 2 old new status
prints_usage words held old new status runs none written =
    let whole = runs.whole written.sink written.memory in
    let usage = usage_of status whole.0 held (job_of words) none whole.1 in
    record { grew = rw usage.1 at whole.2; is_status = usage.0 }

only_usage : (job : Option Job) (status : ℕ) → status ≡ 2 → (text : List ℕ) (held : Option Files) → AnswersJob job held status text → job ≡ None
only_usage None status two text held answers = refl
only_usage (Some (on_file job name)) status two text held answers = absurd (on_file_status 2 status other_2 no_shelf_2 two job held name text answers)
only_usage (Some (evaluate name tolls)) status two text held answers = absurd (on_two_status 2 status other_2 no_shelf_2 two held name tolls text answers)
only_usage (Some (on_certificate job name certificate)) status two text held answers =
    absurd (on_certificate_status 2 status other_2 no_shelf_2 two job held name certificate text answers)
only_usage (Some (generate number)) status two text held answers = absurd (let zero_is = answers.0 in omega (arith, two, zero_is))
only_usage (Some (demonstrate number budget)) status two text held answers =
    absurd (bytes_status 2 status other_2 two (Solve budget true) (canonical_text (generated number)) text answers)

pub usage_only : (words : List (List ℕ)) (held : Option Files) (old new : Option (List ℕ)) (status : ℕ) → Runs words held old new status
    → status ≡ 2 → job_of words ≡ None
usage_only words held old new status runs two =
    let whole = runs.whole (λ e. omega (arith, two, e)) (λ e. omega (arith, two, e)) in
    only_usage (job_of words) status two whole.0 held whole.1

number_of_job : (status : ℕ) (text : List ℕ) (held : Option Files) (number : ℕ) (job : Option Job) → job ≡ Some (generate number)
    → AnswersJob job held status text → AnswersNumber number status text
number_of_job status text held number job is answers = let OfJob : Option Job → Type 0 = λ j. AnswersJob j held status text in subst OfJob is answers

pub prints_generated : (words : List (List ℕ)) (held : Option Files) (old new : Option (List ℕ)) (status : ℕ) → Runs words held old new status
    → (number : ℕ) → job_of words ≡ Some (generate number) → WasWritten status → Prints (canonical_text (generated number)) 0 old new status
prints_generated words held old new status runs number is written =
    let whole = runs.whole written.sink written.memory in
    let printed = number_of_job status whole.0 held number (job_of words) is whole.1 in
    record { grew = rw printed.1 at whole.2; is_status = printed.0 }

demonstration_of : (status : ℕ) (text : List ℕ) (held : Option Files) (number budget : ℕ) (job : Option Job) → job ≡ Some (demonstrate number budget)
    → AnswersJob job held status text → AnswersDemonstration number budget status text
demonstration_of status text held number budget job is answers = let OfJob : Option Job → Type 0 = λ j. AnswersJob j held status text in subst OfJob is answers

pub prints_demonstration : (words : List (List ℕ)) (held : Option Files) (old new : Option (List ℕ)) (status : ℕ) → Runs words held old new status
    → (number budget : ℕ) → job_of words ≡ Some (demonstrate number budget) → WasWritten status
    → PrintsSaid (AnswersDemonstration number budget) old new status
prints_demonstration words held old new status runs number budget is written =
    prints_said (AnswersDemonstration number budget) words held old new status runs written.sink written.memory
    (λ text. demonstration_of status text held number budget (job_of words) is)
