-- From the check of a certificate file to the answer about it.
use Rattle.std.proofs.Common.{◌≡◌, ◌⊎◌, ◌↔◌, ℕ, List, Option, None, Some, Ok, Err, MatchResult, inl, inr, refl, sym, ◌∙◌, ap, subst, arith}
use Rattle.std.specs.Bool.{⊤}
use Rattle.npp_outside.specs.Shelf.{Files, file_at}
use Rattle.npp_frac.specs.Fits.{limit_of}
use Rattle.npp_net.specs.Network.{Network, no_commodity}
use Rattle.npp_bounds.specs.declared.refusal.BoundsRefusal.TheVariants as bounds
use Rattle.npp_bounds.specs.Spans.{AllHaveFreePaths, IsBoundsRefusal}
use Rattle.npp_tree.specs.declared.outcome.Pair.{Pair}
use Rattle.npp_check.specs.declared.refusal.CheckRefusal.TheVariants.{Broken}
use Rattle.npp_check.specs.declared.refusal.Rule.{Rule}
use Rattle.npp_check.specs.Measures.{Measures, AreMeasures}
use Rattle.npp_check.specs.Verdict.{PairValue, Verdict, IsVerdict, pair_value}
use Rattle.npp_check.proofs.MeasureLemmas.{one_verdict}
use Rattle.npp_stream.specs.declared.refusal.FileRefusal.{FileRefusal}
use Rattle.npp_stream.specs.declared.refusal.FileRefusal.TheVariants as file
use Rattle.npp_stream.specs.TextVerdicts.{AnswersContent, AnswersFile, HasFileCause, IsAcceptedText, MeasuresFile, bytes_verdict}
use Rattle.npp_stream.proofs.StreamLemmas.{written_verdict}
use Rattle.npp_eval.proofs.EvalLaws.{all_have_free_paths}
use Rattle.npp_cli.specs.declared.words.CertificateJob.{CertificateJob}
use Rattle.npp_cli.specs.declared.words.CertificateJob.TheVariants.{Check, Upgrade}
use Rattle.npp_cli.specs.Answers.{AnswersConnected, AnswersHeld, AnswersJudged}
use Rattle.npp_cli.specs.Checked.{AnswersCheck, AnswersFileRefusal, IsJudged, IsRefused, IsTaken, accepted_text}
use Rattle.npp_cli.specs.Runs.{HasAnswerCause}
use Rattle.npp_cli.specs.Texts.{shelf_fault_text}

module _ (net : Network) (name : List ℕ) (status : ℕ) (text : List ℕ) where
  -- the file is accepted
  accepted_content : (content : Option (List ℕ)) (pair : Pair) → AnswersContent net content (Ok pair)
      → status ≡ 0 → text ≡ accepted_text (pair_value pair) → AnswersCheck net name content status text
  accepted_content None pair checked is says = absurd checked
  accepted_content (Some bytes) pair checked is says =
      inl (inl (record { within = checked.0; pair = pair_value pair; accepted = checked.1; is_text = says; is_status = is }))

  accepted_answered : (held : Option Files) (pair : Pair) → AnswersFile net held name (Ok pair)
      → status ≡ 0 → text ≡ accepted_text (pair_value pair) → AnswersHeld (AnswersCheck net name) held name status text
  accepted_answered None pair checked is says = inr (checked.0, accepted_content checked.0 pair checked.1 is says)
  accepted_answered (Some files) pair checked is says = inr (accepted_content (file_at files name) pair checked is says)

  -- it is not accepted
  refused_none : AllHaveFreePaths net.arcs net.commodities → (refusal : FileRefusal) → AnswersContent net None (Err refusal)
      → AnswersFileRefusal name refusal status text → ((status ≡ 5) × (text ≡ shelf_fault_text name)) ⊎ AnswersCheck net name None status text
  refused_none connected (file.NoFreePath k) checked says = absurd (connected k no_commodity checked.0 checked.1)
  refused_none connected file.Missing checked says = inr says
  refused_none connected file.Failed checked says = inl says
  refused_none connected file.TooLong checked says = absurd checked
  refused_none connected (file.Broken number rule) checked says = absurd checked
  refused_none connected file.Memory checked says = absurd says

  refused_bytes : AllHaveFreePaths net.arcs net.commodities → (bytes : List ℕ) (refusal : FileRefusal) → AnswersContent net (Some bytes) (Err refusal)
      → AnswersFileRefusal name refusal status text → ((status ≡ 5) × (text ≡ shelf_fault_text name)) ⊎ AnswersCheck net name (Some bytes) status text
  refused_bytes connected bytes (file.NoFreePath k) checked says = absurd (connected k no_commodity checked.0 checked.1)
  refused_bytes connected bytes file.Missing checked says = absurd checked
  refused_bytes connected bytes file.Failed checked says = inl says
  refused_bytes connected bytes file.TooLong checked says = inr (inr (checked, says.0, says.1))
  refused_bytes connected bytes (file.Broken number rule) checked says =
      inr (inl (inr (record { number = number; rule = rule; verdict = checked; is_text = says.1; is_status = says.0 })))
  refused_bytes connected bytes file.Memory checked says = absurd says

  refused_content : AllHaveFreePaths net.arcs net.commodities → (content : Option (List ℕ)) (refusal : FileRefusal) → AnswersContent net content (Err refusal)
      → AnswersFileRefusal name refusal status text → ((status ≡ 5) × (text ≡ shelf_fault_text name)) ⊎ AnswersCheck net name content status text
  refused_content connected None refusal checked says = refused_none connected refusal checked says
  refused_content connected (Some bytes) refusal checked says = refused_bytes connected bytes refusal checked says

  -- some content is answered so where the shelf does not tell
  untold : (content : Option (List ℕ)) → ((status ≡ 5) × (text ≡ shelf_fault_text name)) ⊎ AnswersCheck net name content status text
      → AnswersHeld (AnswersCheck net name) None name status text
  untold content (inl failed) = inl failed
  untold content (inr answers) = inr (content, answers)

  refused_answered : AllHaveFreePaths net.arcs net.commodities → (held : Option Files) (refusal : FileRefusal) → AnswersFile net held name (Err refusal)
      → AnswersFileRefusal name refusal status text → AnswersHeld (AnswersCheck net name) held name status text
  refused_answered connected None refusal checked says = untold checked.0 (refused_content connected checked.0 refusal checked.1 says)
  refused_answered connected (Some files) refusal checked says = refused_content connected (file_at files name) refusal checked says

  -- ---- for an instance

  -- a measured instance has a toll-free walk for each commodity
  measured_answers : (held : Option Files) (f : Measures) → AreMeasures net f → AnswersHeld (AnswersCheck net name) held name status text → AnswersJudged Check held name net status text
  measured_answers held f are answers = inr (all_have_free_paths net.arcs net.commodities f.spans are.spans, answers)

  -- the refusal of a commodity, whatever stands in the file
  no_walk_there : (content : Option (List ℕ)) (k : ℕ) → AnswersContent net content (Err (file.NoFreePath k)) → IsBoundsRefusal net.arcs net.commodities (bounds.NoFreePath k)
  no_walk_there None k checked = checked
  no_walk_there (Some bytes) k checked = checked

  no_walk : (held : Option Files) (k : ℕ) → AnswersFile net held name (Err (file.NoFreePath k)) → IsBoundsRefusal net.arcs net.commodities (bounds.NoFreePath k)
  no_walk None k checked = no_walk_there checked.0 k checked.1
  no_walk (Some files) k checked = no_walk_there (file_at files name) k checked

  by_refusal : (held : Option Files) (refusal : FileRefusal) (f : Measures) → AreMeasures net f → AnswersFile net held name (Err refusal)
      → AnswersFileRefusal name refusal status text → AnswersJudged Check held name net status text
  by_refusal held refusal f are checked says =
      measured_answers held f are (refused_answered (all_have_free_paths net.arcs net.commodities f.spans are.spans) held refusal checked says)

  pub accepted_judged : (held : Option Files) (pair : Pair) → AnswersFile net held name (Ok pair) → MeasuresFile net (Ok pair)
      → status ≡ 0 → text ≡ accepted_text (pair_value pair) → AnswersJudged Check held name net status text
  accepted_judged held pair checked measured is says = measured_answers held measured.0 measured.1 (accepted_answered held pair checked is says)

  pub refused_judged : (held : Option Files) (refusal : FileRefusal) → AnswersFile net held name (Err refusal) → MeasuresFile net (Err refusal)
      → AnswersFileRefusal name refusal status text → AnswersJudged Check held name net status text
  refused_judged held (file.NoFreePath k) checked measured says = inl (k, no_walk held k checked, says.0, says.1)
  refused_judged held file.Missing checked measured says = by_refusal held file.Missing measured.0 measured.1 checked says
  refused_judged held file.Failed checked measured says = by_refusal held file.Failed measured.0 measured.1 checked says
  refused_judged held file.TooLong checked measured says = by_refusal held file.TooLong measured.0 measured.1 checked says
  refused_judged held (file.Broken number rule) checked measured says = by_refusal held (file.Broken number rule) measured.0 measured.1 checked says
  refused_judged held file.Memory checked measured says = absurd says

-- success has no status of the shelf
pub done_cause : (faults now_faults misses now_misses status : ℕ) → status ≡ 0 → HasAnswerCause faults now_faults misses now_misses status
done_cause faults now_faults misses now_misses status is =
    record { missing = λ e. absurd (omega (arith, e, is)); failed = λ e. absurd (omega (arith, e, is)) }

-- each refusal of the shelf was counted
pub file_cause : {T : Type 0} (faults now_faults misses now_misses : ℕ) (name : List ℕ) (status : ℕ) (text : List ℕ) (refusal : FileRefusal)
    → HasFileCause {T = T} faults now_faults misses now_misses (Err refusal) → AnswersFileRefusal name refusal status text
    → HasAnswerCause faults now_faults misses now_misses status
file_cause f g m n name status text (file.NoFreePath k) cause says =
    record { missing = λ e. absurd (let ten = says.0 in omega (arith, e, ten)); failed = λ e. absurd (let ten = says.0 in omega (arith, e, ten)) }
file_cause f g m n name status text file.Missing cause says =
    record { missing = λ e. cause.missing refl; failed = λ e. absurd (let four = says.0 in omega (arith, e, four)) }
file_cause f g m n name status text file.Failed cause says =
    record { missing = λ e. absurd (let five = says.0 in omega (arith, e, five)); failed = λ e. cause.failed refl }
file_cause f g m n name status text file.TooLong cause says =
    record { missing = λ e. absurd (let twelve = says.0 in omega (arith, e, twelve)); failed = λ e. absurd (let twelve = says.0 in omega (arith, e, twelve)) }
file_cause f g m n name status text (file.Broken number rule) cause says =
    record { missing = λ e. absurd (let nine = says.0 in omega (arith, e, nine)); failed = λ e. absurd (let nine = says.0 in omega (arith, e, nine)) }
file_cause f g m n name status text file.Memory cause says = absurd says

-- a pair is no broken line
no_error : (pair : PairValue) (number : ℕ) (rule : Rule) (v : Verdict) → v ≡ Ok pair → v ≡ Err (Broken number rule) → ⊥
no_error pair number rule v good bad =
    let IsPair : Verdict → Type 0 = λ w. MatchResult w (λ _. ⊤) (λ _. ⊥) in
    subst IsPair (sym good ∙ bad) tt

-- no line of an accepted text is broken
not_refused : (net : Network) (bytes : List ℕ) (status : ℕ) (text : List ℕ) (pair : PairValue) → IsAcceptedText net bytes pair → IsRefused net bytes status text → ⊥
not_refused net bytes status text pair accepted refused =
    let v : Verdict = Err (Broken refused.number refused.rule) in
    let f : Measures = refused.verdict.0 in
    let on_items : IsVerdict (limit_of 128) net accepted.items v = (
      f,
      refused.verdict.1,
      sym (written_verdict (limit_of 128) net f accepted.items accepted.lines)
          ∙ ap (λ (b : List ℕ). bytes_verdict (limit_of 128) net f b) (sym accepted.text)
          ∙ refused.verdict.2,
    ) in
    no_error pair refused.number refused.rule (Ok pair) refl (one_verdict (limit_of 128) net accepted.items (Ok pair) v accepted.verdict on_items)

-- what is taken has status 0 and is accepted
taken_accepted : (job : CertificateJob) (net : Network) (bytes : List ℕ) (status : ℕ) (text : List ℕ) → IsTaken job net bytes status text
    → (status ≡ 0) × ((pair : PairValue) × IsAcceptedText net bytes pair)
taken_accepted Check net bytes status text taken = (taken.is_status, (taken.pair, taken.accepted))
taken_accepted Upgrade net bytes status text taken = (taken.is_status, (taken.is_upgrade.pair, taken.is_upgrade.taken))

-- status 0 exactly where the bytes are accepted
judged_accepted : (job : CertificateJob) (net : Network) (bytes : List ℕ) (status : ℕ) (text : List ℕ) → IsJudged job net bytes status text
    → status ≡ 0 → (pair : PairValue) × IsAcceptedText net bytes pair
judged_accepted job net bytes status text (inl taken) zero_is = let found = taken_accepted job net bytes status text taken in found.1
judged_accepted job net bytes status text (inr refused) zero_is = absurd (let nine = refused.is_status in omega (arith, zero_is, nine))

judged_zero : (job : CertificateJob) (net : Network) (bytes : List ℕ) (status : ℕ) (text : List ℕ) → IsJudged job net bytes status text
    → (pair : PairValue) × IsAcceptedText net bytes pair → status ≡ 0
judged_zero job net bytes status text (inl taken) found = let zero_is = taken_accepted job net bytes status text taken in zero_is.0
judged_zero job net bytes status text (inr refused) found = absurd (not_refused net bytes status text found.0 found.1 refused)

pub judged_exactly : (job : CertificateJob) (net : Network) (bytes : List ℕ) (status : ℕ) (text : List ℕ) → IsJudged job net bytes status text
    → (status ≡ 0) ↔ ((pair : PairValue) × IsAcceptedText net bytes pair)
judged_exactly job net bytes status text judged = (judged_accepted job net bytes status text judged, judged_zero job net bytes status text judged)
