-- One write after another: what two writes leave.
use Rattle.std.proofs.Common.{◌≡◌, ℕ, ◌+◌, List, ◌++◌, take, drop, Option, Some, None, ◌∙◌, ap, append_assoc}
use Rattle.std.proofs.Math.Seq.{take-add}
use Rattle.npp_outside.specs.Sink.{GrewBy}

pub grew_more : (old mid new : Option (List ℕ)) (bytes : List ℕ) (n m : ℕ)
    → GrewBy old mid (take n bytes) → GrewBy mid new (take m (drop n bytes)) → GrewBy old new (take (n + m) bytes)
grew_more None None new bytes n m before after = after
grew_more None (Some w) new bytes n m before after = cc
grew_more (Some w) None new bytes n m before after = cc
grew_more (Some w) (Some v) new bytes n m before after =
    let v_is : v ≡ w ++ take n bytes = cc in
    after ∙ ap (λ (x : List ℕ). Some x) (rw (v_is, take-add) (append_assoc w (take n bytes) (take m (drop n bytes))))
