-- Which job the words of the command line ask for.
use Rattle.std.specs.Prelude.{◌≤◌, ⊤, ℕ, ◌&&◌, Bool, List, length, nat_eq, nat_le, Option, Some, None, option_and_then, if◌then◌else◌, codes}
use Rattle.std.specs.Char.{is_ascii_digit}
use Rattle.std.specs.List.{list_all}
use Rattle.std.specs.Str.Parse.{digits_value}
use Rattle.std.specs.Cmp.Lexicographic.{pointwise}
use Rattle.npp_words.specs.Given.{GivenValue, given_of}
use Rattle.npp_cli.specs.declared.words.Command.{Command}
use Rattle.npp_cli.specs.declared.words.Command.TheVariants.{OnFile, Evaluate, OnCertificate, Generate, Demonstrate}
use Rattle.npp_cli.specs.declared.words.CertificateJob.{CertificateJob}
use Rattle.npp_cli.specs.declared.words.CertificateJob.TheVariants.{Check, Upgrade}
use Rattle.npp_cli.specs.declared.words.FileJob.{FileJob}
use Rattle.npp_cli.specs.declared.words.FileJob.TheVariants.{Solve, Bounds, Paths}

-- a job, with the name of its file, the names of its instance and of its tolls or its certificate, its number, or its number and
-- its budget
pub data Job : Type 0 where
  on_file : FileJob → List ℕ → Job
  evaluate : List ℕ → List ℕ → Job
  on_certificate : CertificateJob → List ℕ → List ℕ → Job
  generate : ℕ → Job
  demonstrate : ℕ → ℕ → Job

-- the job that a command stands for
abbrev pub job_meant : Command → Job
job_meant (OnFile job file) = on_file job file.now
job_meant (Evaluate file tolls) = evaluate file.now tolls.now
job_meant (OnCertificate job file certificate) = on_certificate job file.now certificate.now
job_meant (Generate number) = generate number
job_meant (Demonstrate number budget) = demonstrate number budget

-- the number of a generated instance has at most six digits
abbrev pub IsWithinDigits : Command → Type 0
IsWithinDigits (OnFile job file) = ⊤
IsWithinDigits (Evaluate file tolls) = ⊤
IsWithinDigits (OnCertificate job file certificate) = ⊤
IsWithinDigits (Generate number) = number ≤ 999999
IsWithinDigits (Demonstrate number budget) = number ≤ 999999

-- the number that one to six decimal digits stand for
abbrev pub number_of : List ℕ → Option ℕ
number_of text =
    if nat_le 1 (length text) && nat_le (length text) 6 && list_all is_ascii_digit text
    then Some (digits_value 10 text) else None

-- the job of this name that takes a number
abbrev pub job_for_number : ℕ → List ℕ → ℕ → Option Job
job_for_number budget job number =
    if pointwise nat_eq job (codes "gen") then Some (generate number)
    else (if pointwise nat_eq job (codes "demo") then Some (demonstrate number budget)
    else None)

-- the job of this name for one further word
abbrev pub job_for_one : ℕ → Bool → List ℕ → List ℕ → Option Job
job_for_one budget brief job first =
    if pointwise nat_eq job (codes "solve") then Some (on_file (Solve budget brief) first)
    else (if pointwise nat_eq job (codes "bounds") then Some (on_file Bounds first)
    else (if pointwise nat_eq job (codes "paths") then Some (on_file Paths first)
    else option_and_then (job_for_number budget job) (number_of first)))

-- the job of this name for two further words
abbrev pub job_for_two : List ℕ → List ℕ → List ℕ → Option Job
job_for_two job first second =
    if pointwise nat_eq job (codes "eval") then Some (evaluate first second)
    else (if pointwise nat_eq job (codes "check") then Some (on_certificate Check first second)
    else (if pointwise nat_eq job (codes "upgrade") then Some (on_certificate Upgrade first second)
    else None))

abbrev pub job_with : GivenValue → Option (List ℕ) → Option Job
job_with given None = job_for_one given.budget given.brief given.job given.first
job_with given (Some second) = job_for_two given.job given.first second

-- the job that what is given asks for. An option has no effect on a job that does not use it
abbrev pub job_in : GivenValue → Option Job
job_in given = job_with given given.second

-- the job that the words ask for, the first of which is the program's name
abbrev pub job_of : List (List ℕ) → Option Job
job_of words = option_and_then job_in (given_of words)
