-- What some words give.
use Rattle.std.specs.Prelude.{◌≡◌, [], ◌∷◌, Some, None, true, false, codes, refl}
use Rattle.clap.specs.Words.{fault_of, is_simple_and_free}
use Rattle.clap.specs.declared.error.kind.ErrorKind.TheVariants as kind
use Rattle.clap.proofs.OnLiterals.{clap_on_literals}
use Rattle.npp_words.specs.Given.{given_of, npp}

simple : is_simple_and_free npp ≡ true
simple = refl

solve : given_of (codes "npp" ∷ codes "solve" ∷ codes "i1" ∷ []) ≡ Some (record { job = codes "solve"; first = codes "i1"; second = None; budget = 1000; brief = false })
unfolding clap_on_literals
solve = refl

budget : given_of (codes "npp" ∷ codes "solve" ∷ codes "--budget" ∷ codes "+007" ∷ codes "--brief" ∷ codes "i1" ∷ []) ≡ Some (record { job = codes "solve"; first = codes "i1"; second = None; budget = 7; brief = true })
unfolding clap_on_literals
budget = refl

zero_budget : given_of (codes "npp" ∷ codes "check" ∷ codes "i1" ∷ codes "c1" ∷ codes "--budget=-0" ∷ []) ≡ Some (record { job = codes "check"; first = codes "i1"; second = Some (codes "c1"); budget = 0; brief = false })
unfolding clap_on_literals
zero_budget = refl

-- behind `--` a word may begin with a dash
dashes : given_of (codes "npp" ∷ codes "solve" ∷ codes "--" ∷ codes "--brief" ∷ []) ≡ Some (record { job = codes "solve"; first = codes "--brief"; second = None; budget = 1000; brief = false })
unfolding clap_on_literals
dashes = refl

one_word : given_of (codes "npp" ∷ codes "solve" ∷ []) ≡ None
unfolding clap_on_literals
one_word = refl

four_words : given_of (codes "npp" ∷ codes "solve" ∷ codes "i1" ∷ codes "i2" ∷ codes "i3" ∷ []) ≡ None
unfolding clap_on_literals
four_words = refl

large : given_of (codes "npp" ∷ codes "solve" ∷ codes "i1" ∷ codes "--budget" ∷ codes "100001" ∷ []) ≡ None
unfolding clap_on_literals
large = refl

twice : given_of (codes "npp" ∷ codes "solve" ∷ codes "i1" ∷ codes "--brief" ∷ codes "--brief" ∷ []) ≡ None
unfolding clap_on_literals
twice = refl

no_help : fault_of npp (codes "npp" ∷ codes "--help" ∷ []) ≡ kind.UnknownArgument ∷ []
unfolding clap_on_literals
no_help = refl

-- a dash alone is a word
dash : given_of (codes "npp" ∷ codes "solve" ∷ codes "-" ∷ []) ≡ Some (record { job = codes "solve"; first = codes "-"; second = None; budget = 1000; brief = false })
unfolding clap_on_literals
dash = refl

no_words : given_of [] ≡ None
unfolding clap_on_literals
no_words = refl
