-- An answer of the code beside a judgement.
use Rattle.std.specs.Prelude.{◌≡◌, Result, Ok, Err}
use Rattle.npp_check.specs.declared.refusal.Rule.{Rule}
use Rattle.npp_check.specs.declared.stop.Stop.{Stop}
use Rattle.npp_check.specs.declared.stop.Stop.TheVariants as stop

-- an answer that is this judgement, or want of memory
abbrev pub Judges : {X Y : Type 0} → (X → Y) → Result X Stop → Result Y Rule → Type 0
Judges value (Ok x) judged = judged ≡ Ok (value x)
Judges value (Err (stop.Broken rule)) judged = judged ≡ Err rule
Judges value (Err stop.Memory) judged = Unit {0}
