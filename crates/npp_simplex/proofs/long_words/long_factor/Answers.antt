use Rattle.std.proofs.Common.{arith, subst}
use Rattle.std.specs.Int.{IsGcd}
use Rattle.std.proofs.lemmas.Nat.Gcd.{IsGcd-from_mod, IsGcd-from_zero, mod-eq-zero_of_dvd}
use Rattle.npp_simplex.proofs.long_words.long_factor.Goals as goal
use Rattle.npp_simplex.proofs.long_words.long_factor.Goals.{then-second-first, else-second-first}

-- the second number, or what the first leaves of it
pub loop-y-init : goal.loop-y-init
loop-y-init c = elim c.if-second-first.branch [
  | then-second-first w ↦ record { above = c.requires; same = λ g h. subst (λ y. IsGcd c.args.first y g) w.y-is h }
  | else-second-first w ↦ record {
    above = c.requires;
    same = λ g h.
        let turned : IsGcd c.args.second c.args.first g = IsGcd-from_mod c.args.second c.args.first g (subst (λ y. IsGcd c.args.first y g) w.y-is h) in
        (turned.1, turned.0, λ d a b. turned.2 d b a);
  }
]

pub loop-y-preserved : goal.loop-y-preserved
loop-y-preserved c = record {
  above = omega arith;
  same = λ g h. c.loop-y.invariant.same g (IsGcd-from_mod c.loop-y.x c.loop-y.y g h);
}

pub returns-clause-of_first : goal.returns-clause-of_first
returns-clause-of_first c =
    let both : IsGcd c.args.first c.args.second c.loop-y.x = c.loop-y.invariant.same c.loop-y.x (IsGcd-from_zero c.loop-y.x c.loop-y.y (omega arith)) in
    mod-eq-zero_of_dvd c.loop-y.x both.0

pub returns-clause-of_second : goal.returns-clause-of_second
returns-clause-of_second c =
    let both : IsGcd c.args.first c.args.second c.loop-y.x = c.loop-y.invariant.same c.loop-y.x (IsGcd-from_zero c.loop-y.x c.loop-y.y (omega arith)) in
    mod-eq-zero_of_dvd c.loop-y.x both.1
