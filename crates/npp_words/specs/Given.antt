-- What the words of the command line give.
use Rattle.std.specs.Prelude.{ℕ, ◌^◌, ◌&&◌, Bool, true, false, nat_lt, List, Option, Some, None, pos, codes, map, option_map, option_and_then, String, string_bytes, if◌then◌else◌}
use Rattle.std.specs.Str.{bytes_eq}
use Rattle.std.specs.Str.Parse.{digits_value, without_leading_plus}
use Rattle.std.specs.declared.alloc.Global.{Global}
use Rattle.clap.specs.Words.{App, Row, Rule, Text, new_app, new_rule, with_rule, matches_of, fault_of, first_of, one_of}
use Rattle.clap.specs.Simple.{on_top}
use Rattle.clap.specs.Walk.{is_empty}
use Rattle.clap.specs.ValueTests.{is_numeral}
use Rattle.clap.specs.declared.builder.ArgAction.TheVariants.{SetTrue}
use Rattle.clap.specs.declared.builder.value_parser.ValueParser.TheVariants as parser
use Rattle.npp_words.specs.declared.Given.{Given}

-- the bytes of each word
abbrev pub texts : List (String Global) → List Text
texts words = map string_bytes words

-- a word that has to be there
abbrev pub required : Text → Rule
required id = record (new_rule id) { required = true }

-- `--budget` takes a whole number up to 100,000
abbrev pub budget : Rule
budget = record (new_rule (codes "budget")) { long = Some (codes "budget"); parser = Some (parser.Signed (pos 0) (pos 100000)) }

-- `--brief` takes nothing
abbrev pub brief : Rule
brief = record (new_rule (codes "brief")) { long = Some (codes "brief"); action = Some SetTrue }

-- the command: the words JOB and FIRST, the word SECOND that may be left out, and two options. There is no help
abbrev pub npp : App
npp =
    with_rule
    (with_rule
    (with_rule
    (with_rule
    (with_rule
    (on_top (λ s. record s { disable_help_flag = true }) (new_app (codes "npp")))
    (required (codes "job")))
    (required (codes "first")))
    (new_rule (codes "second")))
    budget)
    brief

-- what words give that clap takes
pub record GivenValue : Type 0 where
  pub job : Text
  pub first : Text
  pub second : Option Text
  pub budget : ℕ
  pub brief : Bool

-- what a value of the program gives
abbrev pub given_value : Given → GivenValue
given_value g = record { job = g.job.now; first = g.first.now; second = option_map (λ s. s.now) g.second; budget = g.budget; brief = g.brief }

-- decimal digits, with a plus sign or none before them, that write a number below 2 ^ 32
abbrev pub number_in : Text → Option ℕ
number_in text =
    let digits = without_leading_plus text in
    if is_numeral digits && nat_lt (digits_value 10 digits) (2 ^ 32) then Some (digits_value 10 digits) else None

-- the number that was given, or else this one
abbrev pub unless_none : ℕ → Option ℕ → ℕ
unless_none otherwise None = otherwise
unless_none otherwise (Some n) = n

abbrev pub number_or : ℕ → Option Text → ℕ
number_or otherwise text = unless_none otherwise (option_and_then number_in text)

-- whether the flag was given
abbrev pub is_set : Option Text → Bool
is_set None = false
is_set (Some text) = bytes_eq text (codes "true")

-- what the matches give: each option has its default where it was not given
abbrev pub given_with : List Row → Option Text → Option Text → Option GivenValue
given_with rows (Some job) (Some first) = Some (record {
  job = job;
  first = first;
  second = first_of (codes "second") rows;
  budget = number_or 1000 (one_of (codes "budget") rows);
  brief = is_set (one_of (codes "brief") rows);
})
given_with rows job first = None

abbrev pub given_in : List Row → Option GivenValue
given_in rows = given_with rows (first_of (codes "job") rows) (first_of (codes "first") rows)

-- what the words give, the first of which is the program's name; None where clap refuses them
abbrev pub given_of : List Text → Option GivenValue
given_of words = if is_empty (fault_of npp words) then given_in (matches_of npp words) else None
