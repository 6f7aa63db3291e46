-- From the taking of a file to the answer about it.
use Rattle.std.proofs.Common.{◌≡◌, ◌⊎◌, ℕ, ◌+◌, ◌<◌, ◌≤◌, inl, inr, Bool, true, false, List, length, replicate, nat_lt, Option, None, Some, Ok, Err, Vec, MatchBool, subst, refl, arith}
use Rattle.std.proofs.lemmas.List.{length-replicate}
use Rattle.std.proofs.lemmas.Bool.Decides.{nat_tests}
use Rattle.std.specs.declared.alloc.Global.{Global}
use Rattle.npp_outside.specs.Causes.{Rose}
use Rattle.npp_outside.specs.Shelf.{Files, file_at}
use Rattle.npp_cli.specs.declared.take.TakeRefusal.{TakeRefusal}
use Rattle.npp_cli.specs.declared.take.TakeRefusal.TheVariants.{Missing, Failed, TooLong, Memory}
use Rattle.npp_cli.specs.Taken.{Takes, TakesFile, IsRefusalOfHeld, IsRefusalOfNone, HasTakeCause}
use Rattle.npp_cli.specs.Texts.{shelf_fault_text, too_long_text}
use Rattle.npp_cli.specs.NotTaken.{AnswersRefusal}
use Rattle.npp_cli.specs.Runs.{HasAnswerCause}
use Rattle.npp_cli.specs.Answers.{AnswersContent, AnswersFile}

-- a list of more than n bytes
longer_than : (n : ℕ) → (bytes : List ℕ) × (n < length bytes)
longer_than n = (replicate (n + 1) 0, omega (arith, length-replicate {A = ℕ} (n + 1) 0))

module _ (about : List ℕ → ℕ → List ℕ → Type 0) (limit : ℕ) (name : List ℕ) (status : ℕ) (text : List ℕ) where
  -- the bytes are known
  short_content : (bytes : List ℕ) → length bytes ≤ limit → about bytes status text → AnswersContent about limit name (Some bytes) status text
  short_content bytes within answers = by_length (nat_lt limit (length bytes)) refl
    where
      by_length : (long : Bool) → nat_lt limit (length bytes) ≡ long
          → MatchBool long ((status ≡ 12) × (text ≡ too_long_text name)) (about bytes status text)
      by_length true is = absurd (grind (arith, nat_tests))
      by_length false is = answers

  long_content : (bytes : List ℕ) → limit < length bytes → status ≡ 12 → text ≡ too_long_text name → AnswersContent about limit name (Some bytes) status text
  long_content bytes longer is says = by_length (nat_lt limit (length bytes)) refl
    where
      by_length : (long : Bool) → nat_lt limit (length bytes) ≡ long
          → MatchBool long ((status ≡ 12) × (text ≡ too_long_text name)) (about bytes status text)
      by_length true e = (is, says)
      by_length false e = absurd (grind (arith, nat_tests))

  taken_content : (file : Option (List ℕ)) (v : Vec ℕ Global) → TakesFile limit file (Ok v) → about v.items status text
      → AnswersContent about limit name file status text
  taken_content None v takes answers = absurd takes
  taken_content (Some bytes) v takes answers =
      short_content bytes takes.1 (let OfBytes : List ℕ → Type 0 = λ b. about b status text in subst OfBytes takes.0 answers)

  pub taken_answered : (held : Option Files) (v : Vec ℕ Global) → Takes limit held name (Ok v) → length v.items ≤ limit
      → about v.items status text → AnswersFile about limit held name status text
  taken_answered None v takes within answers = inr (Some v.items, short_content v.items within answers)
  taken_answered (Some files) v takes within answers = inr (taken_content (file_at files name) v takes answers)

  not_taken_none : (refusal : TakeRefusal) → IsRefusalOfNone refusal → AnswersRefusal name refusal status text
      → ((status ≡ 5) × (text ≡ shelf_fault_text name)) ⊎ AnswersContent about limit name None status text
  not_taken_none Missing takes says = inr says
  not_taken_none Failed takes says = inl says
  not_taken_none TooLong takes says = absurd takes
  not_taken_none Memory takes says = absurd says

  not_taken_held : (bytes : List ℕ) (refusal : TakeRefusal) → IsRefusalOfHeld limit bytes refusal → AnswersRefusal name refusal status text
      → ((status ≡ 5) × (text ≡ shelf_fault_text name)) ⊎ AnswersContent about limit name (Some bytes) status text
  not_taken_held bytes Missing takes says = absurd takes
  not_taken_held bytes Failed takes says = inl says
  not_taken_held bytes TooLong takes says = inr (long_content bytes takes says.0 says.1)
  not_taken_held bytes Memory takes says = absurd says

  not_taken_file : (file : Option (List ℕ)) (refusal : TakeRefusal) → TakesFile limit file (Err refusal) → AnswersRefusal name refusal status text
      → ((status ≡ 5) × (text ≡ shelf_fault_text name)) ⊎ AnswersContent about limit name file status text
  not_taken_file None refusal takes says = not_taken_none refusal takes says
  not_taken_file (Some bytes) refusal takes says = not_taken_held bytes refusal takes says

  -- where the shelf does not tell, some file would be refused so
  not_taken_untold : (refusal : TakeRefusal) → AnswersRefusal name refusal status text → AnswersFile about limit None name status text
  not_taken_untold Missing says = inr (None, says)
  not_taken_untold Failed says = inl says
  not_taken_untold TooLong says = let many = longer_than limit in inr (Some many.0, long_content many.0 many.1 says.0 says.1)
  not_taken_untold Memory says = absurd says

  pub not_taken_answered : (held : Option Files) (refusal : TakeRefusal) → Takes limit held name (Err refusal) → AnswersRefusal name refusal status text
      → AnswersFile about limit held name status text
  not_taken_answered None refusal takes says = not_taken_untold refusal says
  not_taken_answered (Some files) refusal takes says = not_taken_file (file_at files name) refusal takes says

-- each refusal of the shelf was counted
pub refusal_cause : {T : Type 0} (faults now_faults misses now_misses : ℕ) (name : List ℕ) (status : ℕ) (text : List ℕ) (refusal : TakeRefusal)
    → HasTakeCause {T = T} faults now_faults misses now_misses (Err refusal) → AnswersRefusal name refusal status text
    → HasAnswerCause faults now_faults misses now_misses status
refusal_cause f g m n name status text Missing cause says =
    record { missing = λ e. cause.missing refl; failed = λ e. absurd (let four = says.0 in omega (arith, e, four)) }
refusal_cause f g m n name status text Failed cause says =
    record { missing = λ e. absurd (let five = says.0 in omega (arith, e, five)); failed = λ e. cause.failed refl }
refusal_cause f g m n name status text TooLong cause says =
    record { missing = λ e. absurd (let twelve = says.0 in omega (arith, e, twelve)); failed = λ e. absurd (let twelve = says.0 in omega (arith, e, twelve)) }
refusal_cause f g m n name status text Memory cause says = absurd says

-- what rose after another call rose over both
rose_later : (before between after : ℕ) → before ≤ between → Rose between after → Rose before after
rose_later before between after stays rose = omega (arith, rose)

-- what was counted after another call was counted
pub later_cause : (faults mid_faults now_faults misses mid_misses now_misses status : ℕ) → faults ≤ mid_faults → misses ≤ mid_misses
    → HasAnswerCause mid_faults now_faults mid_misses now_misses status → HasAnswerCause faults now_faults misses now_misses status
later_cause f g h m n o status faults_stay misses_stay cause = record {
  missing = λ e. rose_later m n o misses_stay (cause.missing e);
  failed = λ e. rose_later f g h faults_stay (cause.failed e);
}
