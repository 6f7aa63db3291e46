-- The verdict on the text of a certificate, and what is answered about a text and about a file.
use Rattle.std.specs.Prelude.{◌≡◌, ℕ, ◌<◌, ◌≤◌, ◌^◌, ⊤, List, length, All, Option, Some, None, Result, Ok, Err, MatchOption, IsErrOf}
use Rattle.npp_outside.specs.Causes.{Rose}
use Rattle.npp_outside.specs.Shelf.{Files, file_at}
use Rattle.npp_frac.specs.Fits.{limit_of}
use Rattle.npp_frac.specs.Rational.{Rational}
use Rattle.npp_net.specs.Network.{Network}
use Rattle.npp_bounds.specs.declared.refusal.BoundsRefusal.TheVariants as bounds
use Rattle.npp_bounds.specs.Spans.{IsBoundsRefusal}
use Rattle.npp_tree.specs.declared.item.Item.{Item}
use Rattle.npp_tree.specs.declared.outcome.Pair.{Pair}
use Rattle.npp_report.specs.Lines.{text_of}
use Rattle.npp_cert_text.specs.Form.{HasLine}
use Rattle.npp_cert_text.specs.Lines.{text_items}
use Rattle.npp_check.specs.declared.refusal.CheckRefusal.TheVariants.{Broken}
use Rattle.npp_check.specs.Measures.{Measures, AreMeasures}
use Rattle.npp_check.specs.TextVerdict.{text_verdict}
use Rattle.npp_check.specs.Verdict.{PairValue, Verdict, pair_value, IsVerdict}
use Rattle.npp_check.specs.Yes.{Proves}
use Rattle.npp_stream.specs.declared.refusal.TextRefusal.{TextRefusal}
use Rattle.npp_stream.specs.declared.refusal.TextRefusal.TheVariants as text
use Rattle.npp_stream.specs.declared.refusal.FileRefusal.{FileRefusal}
use Rattle.npp_stream.specs.declared.refusal.FileRefusal.TheVariants as file

-- the verdict on bytes: sums are formed of numbers below the limit in size
abbrev pub bytes_verdict : ℕ → Network → Measures → List ℕ → Verdict
bytes_verdict limit net f bytes = text_verdict limit net f (text_items bytes)

-- the same for an instance, by its measures. Texts are judged at 128 bits, whatever the width that they name
abbrev pub IsTextVerdict : Network → List ℕ → Verdict → Type 0
IsTextVerdict net bytes v = (f : Measures) × AreMeasures net f × (bytes_verdict (limit_of 128) net f bytes ≡ v)

-- the bytes are the text of items that have this pair as verdict, and so prove it
pub record IsAcceptedText (net : Network) (bytes : List ℕ) (pair : PairValue) : Type 0 where
  pub items : List (Item Rational)
  pub lines : All HasLine items
  pub text : bytes ≡ text_of items
  pub verdict : IsVerdict (limit_of 128) net items (Ok pair)
  pub proves : Proves net items pair

-- why a text is not accepted: no certificate can be judged; or its verdict is this line with this rule; or memory is wanting
abbrev pub IsTextRefusal : Network → List ℕ → TextRefusal → Type 0
IsTextRefusal net bytes (text.NoFreePath k) = IsBoundsRefusal net.arcs net.commodities (bounds.NoFreePath k)
IsTextRefusal net bytes (text.Broken line rule) = IsTextVerdict net bytes (Err (Broken line rule))
IsTextRefusal net bytes text.Memory = ⊤

-- the most bytes of a certificate
abbrev pub certificate_limit : ℕ
certificate_limit = 2 ^ 40

-- what is answered about a file that has these bytes
abbrev pub AnswersBytes : Network → List ℕ → Result Pair FileRefusal → Type 0
AnswersBytes net bytes (Ok pair) = (length bytes ≤ certificate_limit) × IsAcceptedText net bytes (pair_value pair)
AnswersBytes net bytes (Err (file.NoFreePath k)) = IsTextRefusal net bytes (text.NoFreePath k)
AnswersBytes net bytes (Err file.Missing) = ⊥
AnswersBytes net bytes (Err file.Failed) = ⊤
AnswersBytes net bytes (Err file.TooLong) = certificate_limit < length bytes
AnswersBytes net bytes (Err (file.Broken line rule)) = IsTextRefusal net bytes (text.Broken line rule)
AnswersBytes net bytes (Err file.Memory) = ⊤

-- and about one that is not there
abbrev pub AnswersNone : Network → Result Pair FileRefusal → Type 0
AnswersNone net (Ok pair) = ⊥
AnswersNone net (Err (file.NoFreePath k)) = IsBoundsRefusal net.arcs net.commodities (bounds.NoFreePath k)
AnswersNone net (Err file.Missing) = ⊤
AnswersNone net (Err file.Failed) = ⊤
AnswersNone net (Err file.TooLong) = ⊥
AnswersNone net (Err (file.Broken line rule)) = ⊥
AnswersNone net (Err file.Memory) = ⊤

abbrev pub AnswersContent : Network → Option (List ℕ) → Result Pair FileRefusal → Type 0
AnswersContent net content result = MatchOption content (AnswersNone net result) (λ bytes. AnswersBytes net bytes result)

-- what is answered about the file that the shelf holds under the name, and about any file or none where the shelf does not tell
abbrev pub AnswersFile : Network → Option Files → List ℕ → Result Pair FileRefusal → Type 0
AnswersFile net None name result = (content : Option (List ℕ)) × AnswersContent net content result
AnswersFile net (Some files) name result = AnswersContent net (file_at files name) result

-- the instance is measured, so that each commodity has a toll-free walk, unless the answer is that one has none, or memory is wanting
abbrev pub MeasuresFile : Network → Result Pair FileRefusal → Type 0
MeasuresFile net (Ok pair) = (f : Measures) × AreMeasures net f
MeasuresFile net (Err (file.NoFreePath k)) = ⊤
MeasuresFile net (Err file.Missing) = (f : Measures) × AreMeasures net f
MeasuresFile net (Err file.Failed) = (f : Measures) × AreMeasures net f
MeasuresFile net (Err file.TooLong) = (f : Measures) × AreMeasures net f
MeasuresFile net (Err (file.Broken line rule)) = (f : Measures) × AreMeasures net f
MeasuresFile net (Err file.Memory) = ⊤

-- each refusal of the shelf has raised its count
pub record HasFileCause {T : Type 0} (faults now_faults misses now_misses : ℕ) (result : Result T FileRefusal) : Type 0 where
  pub faults_stay : faults ≤ now_faults
  pub misses_stay : misses ≤ now_misses
  pub failed : IsErrOf result file.Failed → Rose faults now_faults
  pub missing : IsErrOf result file.Missing → Rose misses now_misses
