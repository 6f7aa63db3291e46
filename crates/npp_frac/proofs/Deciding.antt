-- From a rule to the test of it.
use Rattle.std.specs.Prelude.{◌≡◌, ◌↔◌, Bool, true, false, Option, Some, None, is_some, IsSome, refl}
use Rattle.std.proofs.Common.{true≢false, sym}

pub is_some_by : {T P : Type 0} (o : Option T) (b : Bool) → (IsSome o ↔ P) → (P → true ≡ b) → ((P → ⊥) → false ≡ b) → is_some o ≡ b
is_some_by None b h holds fails = fails (λ p. true≢false (sym (h.1 p)))
is_some_by (Some x) b h holds fails = holds (h.0 refl)
