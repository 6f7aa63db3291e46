use Rattle.std.proofs.Common.{[], ◌∷◌, codes, refl, arith}
use Rattle.npp_reader.specs.Fields.{is_name}
use Rattle.npp_reader.specs.Names.{AreNames}
use Rattle.npp_reader.proofs.NameLemmas.{names_push}
use Rattle.npp_network_tests.proofs.reader.takes_names.Goals as goal

-- the two names of the test
names : AreNames (codes "a" ∷ codes "b-2" ∷ [])
unfolding is_name
names =
    names_push (codes "a" ∷ []) (codes "b-2")
    (names_push [] (codes "a") (record { each = λ k d h. absurd (omega arith); differ = λ i j d h g. absurd (omega arith) }) refl refl)
    refl refl

pub new-requires : goal.new-requires
new-requires g c =
    rw (c.in_ok-push-2.ensures.items, c.in_ok-push.ensures.items, c.new-texts.ensures.items, c.in_ok-from_str.ensures.ok, c.in_ok-from_str-2.ensures.ok) names
