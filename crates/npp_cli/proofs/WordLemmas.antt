-- The job of what the words give.
use Rattle.std.proofs.Common.{◌≡◌, List, ℕ, Some, None, ap}
use Rattle.std.specs.Prelude.{option_and_then}
use Rattle.npp_words.specs.Given.{GivenValue, given_of}
use Rattle.npp_cli.specs.Words.{job_in, job_of}

pub job_given : (words : List (List ℕ)) (given : GivenValue) → given_of words ≡ Some given → job_of words ≡ job_in given
job_given words given is = ap (option_and_then job_in) is

pub job_refused : (words : List (List ℕ)) → given_of words ≡ None → job_of words ≡ None
job_refused words is = ap (option_and_then job_in) is
