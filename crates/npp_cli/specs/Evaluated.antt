-- What `eval` answers about the bytes of a tolls file: what the tolls earn, and the walks that travellers take under them.
use Rattle.std.specs.Prelude.{◌≡◌, ◌⊎◌, ℕ, List}
use Rattle.npp_net.specs.Network.{Network}
use Rattle.npp_eval.specs.declared.refusal.EvalRefusal.{EvalRefusal}
use Rattle.npp_eval.specs.declared.refusal.EvalRefusal.TheVariants.{Line, NoFreePath, TooManyLabels, TooManyPaths, Overflow, Memory}
use Rattle.npp_eval.specs.Evaluated.{EvaluationValue, IsTextEvaluated}
use Rattle.npp_eval.specs.Refused.{IsRefusalOfText}
use Rattle.npp_eval.specs.Text.{evaluation_text}
use Rattle.npp_cli.specs.Texts.{refused_tolls_text, no_free_path_text, too_many_labels_text, too_many_paths_text, overflow_text}

-- the bytes are the text of tolls, and the text says what they earn and which walks are taken under them; status 0
pub record IsReplied (net : Network) (bytes : List ℕ) (status : ℕ) (text : List ℕ) : Type 0 where
  pub value : EvaluationValue
  pub is_evaluated : IsTextEvaluated net bytes value
  pub is_text : text ≡ evaluation_text value
  pub is_status : status ≡ 0

-- each cause has its text and its status
abbrev pub AnswersEvalRefusal : EvalRefusal → ℕ → List ℕ → Type 0
AnswersEvalRefusal (Line number) status text = (status ≡ 9) × (text ≡ refused_tolls_text number)
AnswersEvalRefusal (NoFreePath k) status text = (status ≡ 10) × (text ≡ no_free_path_text k)
AnswersEvalRefusal (TooManyLabels k) status text = (status ≡ 11) × (text ≡ too_many_labels_text k)
AnswersEvalRefusal (TooManyPaths k) status text = (status ≡ 11) × (text ≡ too_many_paths_text k)
AnswersEvalRefusal (Overflow k) status text = (status ≡ 8) × (text ≡ overflow_text k)
AnswersEvalRefusal Memory status text = ⊥

-- why it is not said what the tolls earn
pub record IsNotReplied (net : Network) (bytes : List ℕ) (status : ℕ) (text : List ℕ) : Type 0 where
  pub refusal : EvalRefusal
  pub is_refusal : IsRefusalOfText net bytes refusal
  pub answers : AnswersEvalRefusal refusal status text

-- what is answered about the bytes of a tolls file
abbrev pub AnswersTolls : Network → List ℕ → ℕ → List ℕ → Type 0
AnswersTolls net bytes status text = IsReplied net bytes status text ⊎ IsNotReplied net bytes status text
