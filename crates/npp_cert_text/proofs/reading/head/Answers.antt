use Rattle.std.proofs.Common.{◌≡◌, ◌∙◌, sym, true, codes}
use Rattle.std.specs.Str.{bytes_eq}
use Rattle.npp_cert_text.proofs.reading.head.Goals as goal

pub returns-then-is_word : goal.returns-then-is_word
returns-then-is_word c =
    let e : bytes_eq c.args.word.now (codes "npp-certificate") ≡ true = sym c.is_word.ensures ∙ c.if-is_word.true in
    rw e c.header.ensures
