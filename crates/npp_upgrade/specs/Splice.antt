-- The bytes of a certificate of the first form, in the second form.
use Rattle.std.specs.Prelude.{ℕ, zero, suc, ◌+◌, List, ◌++◌, length, min, take, drop, if◌then◌else◌, nat_eq}
use Rattle.std.specs.List.{position_or_len, starts_with}
use Rattle.npp_net.specs.Network.{Network}
use Rattle.npp_tree.specs.declared.item.Item.TheVariants as item
use Rattle.npp_tree.specs.Lines.{instance_lines}
use Rattle.npp_report.specs.Lines.{item_line, text_of}
use Rattle.npp_cert_text.specs.Lines.{is_line_feed}

-- how many bytes the first line has, with its line feed
abbrev pub line_end : List ℕ → ℕ
line_end bytes = min (position_or_len is_line_feed bytes + 1) (length bytes)

-- how many bytes the first n lines have
unfoldable pub lines_end : ℕ → List ℕ → ℕ
lines_end zero bytes = 0
lines_end (suc n) bytes = line_end bytes + lines_end n (drop (line_end bytes) bytes)

-- more bytes behind the first n lines
abbrev pub behind_lines : ℕ → List ℕ → List ℕ → List ℕ
behind_lines n more bytes = take (lines_end n bytes) bytes ++ more ++ drop (lines_end n bytes) bytes

-- what stands in place of the first line and these bytes: behind the header there are five lines down to `opened`
abbrev pub named_text : Network → List ℕ → List ℕ
named_text net rest = item_line item.HeaderTwo ++ behind_lines 5 (text_of (instance_lines net)) rest

-- a text of the first form, in the second form
abbrev pub second_form : Network → List ℕ → List ℕ
second_form net bytes =
    if starts_with nat_eq bytes (item_line item.Header)
    then named_text net (drop (length (item_line item.Header)) bytes)
    else bytes
