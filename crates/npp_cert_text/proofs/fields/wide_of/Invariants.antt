use Rattle.std.proofs.Common.{◌^◌, ◌<◌, drop}
use Rattle.npp_cert_text.proofs.NumberLemmas.{SoFar}
use Rattle.npp_cert_text.proofs.fields.wide_of.Given as goal

-- the bytes above are digits that write the number
abbrev pub invariant-loop-byte : goal.invariant-loop-byte
invariant-loop-byte l = SoFar l.field (drop l.byte-index l.field) l.number × (l.number < 2 ^ 64)
