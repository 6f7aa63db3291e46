use Rattle.std.proofs.Common.{◌++◌, to_z, of_z, w64, get_or, refl, ap, ◌∙◌, arith}
use Rattle.std.proofs.lemmas.List.{take_all}
use Rattle.npp_frac.specs.Rational.{whole}
use Rattle.npp_lp.specs.Meaning.{terms_of}
use Rattle.npp_rows.specs.Named.{numbers_from}
use Rattle.npp_rows.proofs.EntryLaws.{small_read}
use Rattle.npp_rows.proofs.NumberLaws.{numbers_next}
use Rattle.npp_rows.proofs.entries.push_same.Goals as goal

pub loop-i-preserved : goal.loop-i-preserved
loop-i-preserved g c =
    numbers_next (λ x. whole (to_z w64 (of_z w64 c.args.number))) c.args.base c.loop-i.i _ (get_or c.args.block.now c.loop-i.i 0) (to_z w64 (of_z w64 c.args.number)) c.args.block.now _ _ _ c.loop-i-test.true c.loop-i.invariant c.in_ok-push_number.ensures refl refl refl

pub returns : goal.returns
returns g c =
    c.loop-i.invariant
    ∙ ap (λ xs. terms_of g.N.Exact.rational c.args.entries.now.items ++ numbers_from c.args.base (λ x. whole (to_z w64 (of_z w64 c.args.number))) xs) (take_all c.loop-i.i c.args.block.now (omega arith))
    ∙ ap (λ z. terms_of g.N.Exact.rational c.args.entries.now.items ++ numbers_from c.args.base (λ x. whole z) c.args.block.now) (small_read c.args.number c.requires.small)
