use Rattle.std.proofs.Common.{arith}
use Rattle.npp_frac.specs.WideLaws.{wide_fits}
use Rattle.npp_cert_text.proofs.ShortLines.{short_lines}
use Rattle.npp_text_tests.proofs.lines.an_item_is_written.Goals as goal

pub print_line-requires : goal.print_line-requires
print_line-requires g c = short_lines _ (omega arith, wide_fits _) (omega arith)
