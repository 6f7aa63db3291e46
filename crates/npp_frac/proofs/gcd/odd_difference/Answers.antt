use Rattle.std.proofs.Common.{◌≡◌, ◌+◌, ◌-◌, ◌%◌, ◌^◌, arith, ◌∙◌, min}
use Rattle.npp_frac.specs.Gcd.{gcd_comm}
use Rattle.npp_frac.proofs.Halving.{shifted_whole, shifted_odd, negative_shifted, gcd_turn}
use Rattle.npp_frac.proofs.gcd.odd_difference.Goals as goal
use Rattle.npp_frac.proofs.gcd.odd_difference.Goals.{then-x-y, else-x-y}

pub returns-clause-odd : goal.returns-clause-odd
returns-clause-odd c =
    let e = (c.args.x + (2 ^ 64 - c.args.y)) % 2 ^ 64 in
    elim c.if-x-y.branch [
      | then-x-y w ↦ (negative_shifted c.if-x-y.distance e (omega arith) (omega arith) (omega arith)).1
      | else-x-y w ↦
          let same : (c.args.x + (2 ^ 64 - c.args.y)) % 2 ^ 64 ≡ c.if-x-y.distance = omega arith in
          rw same (shifted_odd c.if-x-y.distance (omega arith) (omega arith))
    ]

pub returns-clause-same : goal.returns-clause-same
returns-clause-same c =
    let e = (c.args.x + (2 ^ 64 - c.args.y)) % 2 ^ 64 in
    elim c.if-x-y.branch [
      | then-x-y w ↦
          let less : min c.args.x c.args.y ≡ c.args.x = omega arith in
          let whole = (negative_shifted c.if-x-y.distance e (omega arith) (omega arith) (omega arith)).0 in
          rw less (gcd_turn c.args.y c.args.x _ _ c.requires.x_odd (omega arith) (whole ∙ w.distance-is) ∙ gcd_comm c.args.y c.args.x)
      | else-x-y w ↦
          let less : min c.args.x c.args.y ≡ c.args.y = omega arith in
          let same : (c.args.x + (2 ^ 64 - c.args.y)) % 2 ^ 64 ≡ c.if-x-y.distance = omega arith in
          let whole = shifted_whole c.if-x-y.distance (omega arith) (omega arith) in
          let distance : c.if-x-y.distance ≡ c.args.x - c.args.y = omega arith in
          rw (less, same) (gcd_turn c.args.x c.args.y _ _ c.requires.y_odd (omega arith) (whole ∙ distance))
    ]
