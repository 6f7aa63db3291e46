-- Which statuses an answer may have.
use Rattle.std.proofs.Common.{◌≡◌, ◌≢◌, ℕ, List, Bool, true, false, Option, None, Some, Result, Ok, Err, MatchResult, MatchBool, inl, inr, nat_lt, length, sym, ◌∙◌, arith}
use Rattle.npp_outside.specs.Shelf.{Files, file_at}
use Rattle.npp_net.specs.Network.{Network}
use Rattle.npp_reader.specs.declared.document.Document.{Document}
use Rattle.npp_reader.specs.declared.refusal.ReadRefusal.{ReadRefusal}
use Rattle.npp_reader.specs.declared.refusal.ReadRefusal.TheVariants.{Line, Memory}
use Rattle.npp_reader.specs.Reading.{reading_of}
use Rattle.npp_cli.specs.declared.words.FileJob.{FileJob}
use Rattle.npp_cli.specs.declared.words.FileJob.TheVariants.{Solve, Bounds, Paths}
use Rattle.npp_labels.specs.declared.covers.CoversRefusal.{CoversRefusal}
use Rattle.npp_labels.specs.declared.covers.CoversRefusal.TheVariants.{TooManyLabels, TooManyPaths}
use Rattle.npp_tree.specs.declared.outcome.Status.{Status}
use Rattle.npp_tree.specs.declared.outcome.Status.TheVariants.{Optimal, Budget, Overflow}
use Rattle.npp_cli.specs.Texts.{too_long_text}
use Rattle.npp_cli.specs.Listed.{AnswersLimit}
use Rattle.npp_eval.specs.declared.refusal.EvalRefusal.{EvalRefusal}
use Rattle.npp_eval.specs.declared.refusal.EvalRefusal.TheVariants as eval
use Rattle.npp_cli.specs.Evaluated.{AnswersEvalRefusal, AnswersTolls}
use Rattle.npp_cli.specs.declared.words.CertificateJob.{CertificateJob}
use Rattle.npp_cli.specs.declared.words.CertificateJob.TheVariants.{Check, Upgrade}
use Rattle.npp_cli.specs.Checked.{AnswersCheck, IsJudged, IsTaken, upgrade_limit}
use Rattle.npp_cli.specs.Answers.{exit_status, IsDone, AnswersCertificate, AnswersConnected, AnswersContent, AnswersFault, AnswersFile, AnswersHeld, AnswersInstance, AnswersJudged, AnswersOf, AnswersWithCertificate, AnswersWithTolls, instance_limit, tolls_limit}
use Rattle.npp_cli.specs.Runs.{HasAnswerCause}

-- none of the statuses of an answer about the bytes of a file
pub record IsOther (n : ℕ) : Type 0 where
  pub not_0 : n ≢ 0
  pub not_1 : n ≢ 1
  pub not_3 : n ≢ 3
  pub not_8 : n ≢ 8
  pub not_9 : n ≢ 9
  pub not_10 : n ≢ 10
  pub not_11 : n ≢ 11

report_status : (n status : ℕ) → IsOther n → status ≡ n → (said : Status) → status ≡ exit_status said → ⊥
report_status n status other is Optimal e = other.not_0 (sym is ∙ e)
report_status n status other is Budget e = other.not_1 (sym is ∙ e)
report_status n status other is Overflow e = other.not_8 (sym is ∙ e)

limit_status : (n status : ℕ) → IsOther n → status ≡ n → (refusal : CoversRefusal) (text : List ℕ) → AnswersLimit refusal status text → ⊥
limit_status n status other is (TooManyLabels k) text answers = other.not_11 (sym is ∙ answers.0)
limit_status n status other is (TooManyPaths k) text answers = other.not_11 (sym is ∙ answers.0)
limit_status n status other is _ text answers = absurd answers

done_status : (n status : ℕ) → IsOther n → status ≡ n → (job : FileJob) (net : Network) (text : List ℕ) → IsDone job net status text → ⊥
done_status n status other is (Solve budget brief) net text (inl solved) = report_status n status other is solved.outcome.status solved.is_status
done_status n status other is (Solve budget brief) net text (inr over) = limit_status n status other is over.refusal text over.answers
done_status n status other is Bounds net text done = other.not_0 (sym is ∙ done.is_status)
done_status n status other is Paths net text (inl listed) = other.not_0 (sym is ∙ listed.is_status)
done_status n status other is Paths net text (inr over) = limit_status n status other is over.refusal text over.answers

-- where no answer about a connected instance has the status, none about an instance has
connected_status : (n status : ℕ) → IsOther n → status ≡ n → (about : ℕ → List ℕ → Type 0) (net : Network) (text : List ℕ)
    → (about status text → ⊥) → AnswersConnected about net status text → ⊥
connected_status n status other is about net text never (inl refused) = other.not_10 (sym is ∙ refused.2)
connected_status n status other is about net text never (inr answers) = never answers.1

instance_status : (n status : ℕ) → IsOther n → status ≡ n → (job : FileJob) (net : Network) (text : List ℕ) → AnswersInstance job net status text → ⊥
instance_status n status other is job net text answers =
    connected_status n status other is (IsDone job net) net text (done_status n status other is job net text) answers

-- of what is said about tolls
eval_refusal_status : (n status : ℕ) → IsOther n → status ≡ n → (refusal : EvalRefusal) (text : List ℕ) → AnswersEvalRefusal refusal status text → ⊥
eval_refusal_status n status other is (eval.Line number) text answers = other.not_9 (sym is ∙ answers.0)
eval_refusal_status n status other is (eval.NoFreePath k) text answers = other.not_10 (sym is ∙ answers.0)
eval_refusal_status n status other is (eval.TooManyLabels k) text answers = other.not_11 (sym is ∙ answers.0)
eval_refusal_status n status other is (eval.TooManyPaths k) text answers = other.not_11 (sym is ∙ answers.0)
eval_refusal_status n status other is (eval.Overflow k) text answers = other.not_8 (sym is ∙ answers.0)
eval_refusal_status n status other is eval.Memory text answers = absurd answers

pub tolls_status : (n status : ℕ) → IsOther n → status ≡ n → (net : Network) (bytes text : List ℕ) → AnswersTolls net bytes status text → ⊥
tolls_status n status other is net bytes text (inl replied) = other.not_0 (sym is ∙ replied.is_status)
tolls_status n status other is net bytes text (inr not_replied) = eval_refusal_status n status other is not_replied.refusal text not_replied.answers

-- where no answer about an instance has the status, none about the bytes of its file has
read_status : (n status : ℕ) → IsOther n → status ≡ n → (about : Network → ℕ → List ℕ → Type 0) (text : List ℕ)
    → ((net : Network) → about net status text → ⊥) → (r : Result Document ReadRefusal)
    → MatchResult r (λ document. about document.instance status text) (λ fault. AnswersFault fault status text) → ⊥
read_status n status other is about text never (Ok document) answers = never document.instance answers
read_status n status other is about text never (Err (Line number kind)) answers = other.not_3 (sym is ∙ answers.0)
read_status n status other is about text never (Err Memory) answers = absurd answers

pub bytes_status : (n status : ℕ) → IsOther n → status ≡ n → (job : FileJob) (bytes text : List ℕ) → AnswersOf job bytes status text → ⊥
bytes_status n status other is job bytes text answers =
    read_status n status other is (AnswersInstance job) text (λ net. instance_status n status other is job net text) (reading_of bytes) answers

-- none of the statuses of the shelf
pub record IsNoShelfStatus (n : ℕ) : Type 0 where
  pub not_4 : n ≢ 4
  pub not_5 : n ≢ 5
  pub not_12 : n ≢ 12

-- where no answer about the bytes of a file has the status, none about the file has
content_status : (n status : ℕ) → IsNoShelfStatus n → status ≡ n → (about : List ℕ → ℕ → List ℕ → Type 0) (limit : ℕ) (name text : List ℕ)
    → ((bytes : List ℕ) → about bytes status text → ⊥) → (file : Option (List ℕ)) → AnswersContent about limit name file status text → ⊥
content_status n status none is about limit name text never None answers = none.not_4 (sym is ∙ answers.0)
content_status n status none is about limit name text never (Some bytes) answers = by_length (nat_lt limit (length bytes)) answers
  where
    by_length : (long : Bool) → MatchBool long ((status ≡ 12) × (text ≡ too_long_text name)) (about bytes status text) → ⊥
    by_length true answers = none.not_12 (sym is ∙ answers.0)
    by_length false answers = never bytes answers

held_status : (n status : ℕ) → IsNoShelfStatus n → status ≡ n → (about : Option (List ℕ) → ℕ → List ℕ → Type 0) (name text : List ℕ)
    → ((file : Option (List ℕ)) → about file status text → ⊥) → (held : Option Files) → AnswersHeld about held name status text → ⊥
held_status n status none is about name text never None (inl failed) = none.not_5 (sym is ∙ failed.0)
held_status n status none is about name text never None (inr (file, answers)) = never file answers
held_status n status none is about name text never (Some files) (inl failed) = none.not_5 (sym is ∙ failed.0)
held_status n status none is about name text never (Some files) (inr answers) = never (file_at files name) answers

file_status : (n status : ℕ) → IsNoShelfStatus n → status ≡ n → (about : List ℕ → ℕ → List ℕ → Type 0) (limit : ℕ) (name text : List ℕ)
    → ((bytes : List ℕ) → about bytes status text → ⊥) → (held : Option Files) → AnswersFile about limit held name status text → ⊥
file_status n status none is about limit name text never held answers =
    held_status n status none is (AnswersContent about limit name) name text (content_status n status none is about limit name text never) held answers

pub on_file_status : (n status : ℕ) → IsOther n → IsNoShelfStatus n → status ≡ n
    → (job : FileJob) (held : Option Files) (name text : List ℕ) → AnswersFile (AnswersOf job) instance_limit held name status text → ⊥
on_file_status n status other none is job held name text answers =
    file_status n status none is (AnswersOf job) instance_limit name text (λ bytes. bytes_status n status other is job bytes text) held answers

pub on_two_status : (n status : ℕ) → IsOther n → IsNoShelfStatus n → status ≡ n
    → (held : Option Files) (name tolls text : List ℕ) → AnswersFile (AnswersWithTolls held tolls) instance_limit held name status text → ⊥
on_two_status n status other none is held name tolls text answers =
    let OnTolls : Network → ℕ → List ℕ → Type 0 = λ net. AnswersFile (AnswersTolls net) tolls_limit held tolls in
    file_status n status none is (AnswersWithTolls held tolls) instance_limit name text
    (λ bytes. read_status n status other is OnTolls text
    (λ net. file_status n status none is (AnswersTolls net) tolls_limit tolls text (λ bytes. tolls_status n status other is net bytes text) held) (reading_of bytes))
    held answers

-- of what is said about certificates
taken_status : (n status : ℕ) → IsOther n → status ≡ n → (job : CertificateJob) (net : Network) (bytes text : List ℕ) → IsTaken job net bytes status text → ⊥
taken_status n status other is Check net bytes text taken = other.not_0 (sym is ∙ taken.is_status)
taken_status n status other is Upgrade net bytes text taken = other.not_0 (sym is ∙ taken.is_status)

pub judged_status : (n status : ℕ) → IsOther n → status ≡ n → (job : CertificateJob) (net : Network) (bytes text : List ℕ) → IsJudged job net bytes status text → ⊥
judged_status n status other is job net bytes text (inl taken) = taken_status n status other is job net bytes text taken
judged_status n status other is job net bytes text (inr refused) = other.not_9 (sym is ∙ refused.is_status)

check_status : (n status : ℕ) → IsOther n → IsNoShelfStatus n → status ≡ n → (net : Network) (name text : List ℕ) (file : Option (List ℕ))
    → AnswersCheck net name file status text → ⊥
check_status n status other none is net name text None answers = none.not_4 (sym is ∙ answers.0)
check_status n status other none is net name text (Some bytes) (inl judged) = judged_status n status other is Check net bytes text judged
check_status n status other none is net name text (Some bytes) (inr long) = none.not_12 (sym is ∙ long.1)

certificate_status : (n status : ℕ) → IsOther n → IsNoShelfStatus n → status ≡ n → (job : CertificateJob) (net : Network) (name text : List ℕ) (file : Option (List ℕ))
    → AnswersCertificate job net name file status text → ⊥
certificate_status n status other none is Check net name text file answers = check_status n status other none is net name text file answers
certificate_status n status other none is Upgrade net name text file answers =
    content_status n status none is (IsJudged Upgrade net) upgrade_limit name text (λ bytes. judged_status n status other is Upgrade net bytes text) file answers

judged_file_status : (n status : ℕ) → IsOther n → IsNoShelfStatus n → status ≡ n
    → (job : CertificateJob) (held : Option Files) (certificate text : List ℕ) (net : Network) → AnswersJudged job held certificate net status text → ⊥
judged_file_status n status other none is job held certificate text net answers =
    connected_status n status other is (AnswersHeld (AnswersCertificate job net certificate) held certificate) net text
    (held_status n status none is (AnswersCertificate job net certificate) certificate text (certificate_status n status other none is job net certificate text) held)
    answers

pub on_certificate_status : (n status : ℕ) → IsOther n → IsNoShelfStatus n → status ≡ n
    → (job : CertificateJob) (held : Option Files) (name certificate text : List ℕ)
    → AnswersFile (AnswersWithCertificate job held certificate) instance_limit held name status text → ⊥
on_certificate_status n status other none is job held name certificate text answers =
    file_status n status none is (AnswersWithCertificate job held certificate) instance_limit name text
    (λ bytes. read_status n status other is (AnswersJudged job held certificate) text (judged_file_status n status other none is job held certificate text) (reading_of bytes))
    held answers

pub other_2 : IsOther 2
other_2 = record { not_0 = λ e. omega (arith, e); not_1 = λ e. omega (arith, e); not_3 = λ e. omega (arith, e); not_8 = λ e. omega (arith, e); not_9 = λ e. omega (arith, e); not_10 = λ e. omega (arith, e); not_11 = λ e. omega (arith, e) }

other_4 : IsOther 4
other_4 = record { not_0 = λ e. omega (arith, e); not_1 = λ e. omega (arith, e); not_3 = λ e. omega (arith, e); not_8 = λ e. omega (arith, e); not_9 = λ e. omega (arith, e); not_10 = λ e. omega (arith, e); not_11 = λ e. omega (arith, e) }

other_5 : IsOther 5
other_5 = record { not_0 = λ e. omega (arith, e); not_1 = λ e. omega (arith, e); not_3 = λ e. omega (arith, e); not_8 = λ e. omega (arith, e); not_9 = λ e. omega (arith, e); not_10 = λ e. omega (arith, e); not_11 = λ e. omega (arith, e) }

pub other_6 : IsOther 6
other_6 = record { not_0 = λ e. omega (arith, e); not_1 = λ e. omega (arith, e); not_3 = λ e. omega (arith, e); not_8 = λ e. omega (arith, e); not_9 = λ e. omega (arith, e); not_10 = λ e. omega (arith, e); not_11 = λ e. omega (arith, e) }

pub other_7 : IsOther 7
other_7 = record { not_0 = λ e. omega (arith, e); not_1 = λ e. omega (arith, e); not_3 = λ e. omega (arith, e); not_8 = λ e. omega (arith, e); not_9 = λ e. omega (arith, e); not_10 = λ e. omega (arith, e); not_11 = λ e. omega (arith, e) }

pub no_shelf_2 : IsNoShelfStatus 2
no_shelf_2 = record { not_4 = λ e. omega (arith, e); not_5 = λ e. omega (arith, e); not_12 = λ e. omega (arith, e) }

-- an answer that has none of these statuses has no status of the shelf
pub other_cause : (faults now_faults misses now_misses status : ℕ) → ((n : ℕ) → IsOther n → status ≡ n → ⊥)
    → HasAnswerCause faults now_faults misses now_misses status
other_cause faults now_faults misses now_misses status never =
    record { missing = λ e. absurd (never 4 other_4 e); failed = λ e. absurd (never 5 other_5 e) }
