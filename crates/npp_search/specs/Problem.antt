-- What a search is about: the useful paths of an instance, and the limit of a width.
use Rattle.std.specs.Prelude.{ℕ, List, [], Option, if◌then◌else◌}
use Rattle.npp_frac.specs.Rational.{Rational}
use Rattle.npp_net.specs.Network.{Network}
use Rattle.npp_cover.specs.Replaces.{CoverValue}
use Rattle.npp_rows.specs.PathModel.{PathModel}
use Rattle.npp_rows.specs.Caps.{path_model}
use Rattle.npp_rows.specs.Parts.{is_full, first_choice}
use Rattle.npp_rows.specs.Named.{NamedProgram}
use Rattle.npp_rows.specs.Relax.{relaxation}
use Rattle.npp_rows.specs.NodeProgram.{node_program}
use Rattle.npp_rows.specs.Response.{Reply, fitting_reply}
use Rattle.npp_inverse.specs.Work.{Ending, inverse_work, relaxation_work}
use Rattle.npp_tree.specs.Family.{Family}

-- below the limit each number has to be in size
pub record Problem : Type 0 where
  pub limit : ℕ
  pub paths : PathModel

-- that of an instance with its covers
abbrev pub problem_of : ℕ → Network → List CoverValue → Problem
problem_of limit net covers = record { limit = limit; paths = path_model net covers }

-- the program of a node that allows a family: the inverse program of a full choice, and else the relaxation
abbrev pub program_of : Problem → Family → NamedProgram
program_of P family = node_program P.paths [] family

-- how the exact work on it ends
abbrev pub work_on : Problem → Family → Ending
work_on P family = if is_full family then inverse_work P.limit P.paths (first_choice family) else relaxation_work P.limit (relaxation P.paths family [])

-- the reply of the travellers to tolls, where it fits the width
abbrev pub reply_to : Problem → List Rational → Option Reply
reply_to P tolls = fitting_reply P.limit P.paths tolls
