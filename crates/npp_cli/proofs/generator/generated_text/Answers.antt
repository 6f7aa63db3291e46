use Rattle.std.proofs.Common.{ap, ◌∙◌}
use Rattle.std.proofs.lemmas.Result.{IfOk-weaker}
use Rattle.std.specs.Prelude.{String}
use Rattle.std.specs.declared.alloc.Global.{Global}
use Rattle.npp_reader.specs.Canonical.{canonical_text}
use Rattle.npp_cli.proofs.generator.generated_text.Goals as goal

pub returns : goal.returns
returns c =
    IfOk-weaker c.print.result _ _
    (λ (text : String Global) is. is ∙ ap canonical_text c.in_ok-document.ensures)
    c.print.ensures.text
