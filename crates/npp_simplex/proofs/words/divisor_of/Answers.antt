use Rattle.std.proofs.Common.{rules, ◌≡◌, ◌%◌, nat_abs, to_z-of_z, ap, sym, ◌∙◌, inl, inr, arith}
use Rattle.std.proofs.lemmas.Bool.{cases_lt}
use Rattle.npp_simplex.specs.CommonForm.{number_in}
use Rattle.npp_simplex.proofs.CommonForms.{factor_through}
use Rattle.npp_simplex.proofs.words.divisor_of.Goals as goal

pub loop-j-preserved : goal.loop-j-preserved
loop-j-preserved c =
    let f = c.loop-j.divisor.value in
    let g = c.shared_with-divisor.result.value in
    let h = c.loop-j.invariant in
    let size : c.unsigned_abs.result ≡ nat_abs (number_in c.args.numbers.now c.loop-j.j) = search (rules, to_z-of_z) in
    record {
      above = c.shared_with-divisor.ensures.above;
      of_denominator = factor_through c.args.denominator f g h.of_denominator c.shared_with-divisor.ensures.of_self;
      of_numbers = λ k l. elim (cases_lt k c.loop-j.j) [
        | inl below ↦ factor_through (nat_abs (number_in c.args.numbers.now k)) f g (h.of_numbers k below) c.shared_with-divisor.ensures.of_self
        | inr past ↦ (let same : k ≡ c.loop-j.j = omega arith in ap (λ t. nat_abs (number_in c.args.numbers.now t) % c.shared_with-divisor.result.value) same ∙ ap (λ t. t % c.shared_with-divisor.result.value) (sym size) ∙ c.shared_with-divisor.ensures.of_number)
      ];
    }
