-- The refusals of the parts of a check, as refusals of a text and of a file.
use Rattle.npp_outside.specs.declared.shelf.ShelfAnswer.{ShelfAnswer}
use Rattle.npp_outside.specs.declared.shelf.ShelfAnswer.TheVariants as shelf
use Rattle.npp_check.specs.declared.refusal.CheckRefusal.{CheckRefusal}
use Rattle.npp_check.specs.declared.refusal.CheckRefusal.TheVariants as check
use Rattle.npp_check.specs.declared.refusal.StartRefusal.{StartRefusal}
use Rattle.npp_check.specs.declared.refusal.StartRefusal.TheVariants as start
use Rattle.npp_stream.specs.declared.refusal.TextRefusal.{TextRefusal}
use Rattle.npp_stream.specs.declared.refusal.TextRefusal.TheVariants as text
use Rattle.npp_stream.specs.declared.refusal.FileRefusal.{FileRefusal}
use Rattle.npp_stream.specs.declared.refusal.FileRefusal.TheVariants as file

-- no check could start
abbrev pub start_refusal : StartRefusal → TextRefusal
start_refusal (start.NoFreePath k) = text.NoFreePath k
start_refusal start.Memory = text.Memory

-- a line was refused
abbrev pub line_refusal : CheckRefusal → TextRefusal
line_refusal (check.Broken line rule) = text.Broken line rule
line_refusal check.Memory = text.Memory

-- a text was refused
abbrev pub file_refusal : TextRefusal → FileRefusal
file_refusal (text.NoFreePath k) = file.NoFreePath k
file_refusal (text.Broken line rule) = file.Broken line rule
file_refusal text.Memory = file.Memory

-- the shelf gave no bytes
abbrev pub shelf_refusal : ShelfAnswer → FileRefusal
shelf_refusal shelf.Missing = file.Missing
shelf_refusal shelf.Failed = file.Failed
