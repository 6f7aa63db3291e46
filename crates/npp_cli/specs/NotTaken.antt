-- What is answered about a file that is not taken.
use Rattle.std.specs.Prelude.{◌≡◌, ℕ, List}
use Rattle.npp_cli.specs.declared.take.TakeRefusal.{TakeRefusal}
use Rattle.npp_cli.specs.declared.take.TakeRefusal.TheVariants.{Missing, Failed, TooLong, Memory}
use Rattle.npp_cli.specs.Texts.{missing_text, shelf_fault_text, too_long_text}

-- its name, with the status of the cause
abbrev pub AnswersRefusal : List ℕ → TakeRefusal → ℕ → List ℕ → Type 0
AnswersRefusal name Missing status text = (status ≡ 4) × (text ≡ missing_text name)
AnswersRefusal name Failed status text = (status ≡ 5) × (text ≡ shelf_fault_text name)
AnswersRefusal name TooLong status text = (status ≡ 12) × (text ≡ too_long_text name)
AnswersRefusal name Memory status text = ⊥
