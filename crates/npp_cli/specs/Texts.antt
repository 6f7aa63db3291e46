-- The texts of refusals.
use Rattle.std.specs.Prelude.{ℕ, List, ◌∷◌, ◌++◌, codes}
use Rattle.std.specs.Fmt.{decimal}
use Rattle.npp_report.specs.Lines.{line}

abbrev pub usage_text : List ℕ
usage_text =
    line (codes "usage: npp solve FILE [--budget N] [--cuts N] [--numbers W] [--brief]")
    ++ line (codes "       npp check FILE CERTIFICATE")
    ++ line (codes "       npp bounds FILE")
    ++ line (codes "       npp paths FILE")
    ++ line (codes "       npp eval FILE TOLLS")
    ++ line (codes "       npp gen NUMBER")
    ++ line (codes "       npp demo NUMBER [--budget N] [--cuts N] [--numbers W]")
    ++ line (codes "       npp upgrade FILE CERTIFICATE")

-- of a file that is not there
abbrev pub missing_text : List ℕ → List ℕ
missing_text name = line (codes "missing " ++ name)

-- of a file at which the shelf failed
abbrev pub shelf_fault_text : List ℕ → List ℕ
shelf_fault_text name = line (codes "shelf fault " ++ name)

-- of a file that has more bytes than its limit
abbrev pub too_long_text : List ℕ → List ℕ
too_long_text name = line (codes "refused too-long " ++ name)

-- of the first faulty line of an instance
abbrev pub faulty_line_text : ℕ → List ℕ → List ℕ
faulty_line_text number kind = line (codes "refused instance line " ++ decimal number ++ 32 ∷ kind)

-- of the first commodity that has no toll-free walk
abbrev pub no_free_path_text : ℕ → List ℕ
no_free_path_text k = line (codes "refused no-free-path " ++ decimal k)

-- of the first commodity that passes a limit, by its useful labels
abbrev pub too_many_labels_text : ℕ → List ℕ
too_many_labels_text k = line (codes "refused too-many-labels " ++ decimal k)

-- and by the useful paths up to it
abbrev pub too_many_paths_text : ℕ → List ℕ
too_many_paths_text k = line (codes "refused too-many-paths " ++ decimal k)

-- of the first line of a tolls text that is not the line that must stand there
abbrev pub refused_tolls_text : ℕ → List ℕ
refused_tolls_text number = line (codes "refused tolls line " ++ decimal number)

-- of the first commodity of which a sum or product of the reply to tolls does not fit 128 bits
abbrev pub overflow_text : ℕ → List ℕ
overflow_text k = line (codes "refused overflow " ++ decimal k)
