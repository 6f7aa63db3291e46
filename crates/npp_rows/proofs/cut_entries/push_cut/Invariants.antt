use Rattle.std.proofs.Common.{◌≡◌, ◌++◌, map, take}
use Rattle.npp_lp.specs.Meaning.{terms_of}
use Rattle.npp_rows.specs.Named.{terms_from}
use Rattle.npp_rows.specs.Meaning.{cut_term_value}
use Rattle.npp_rows.specs.Relax.{relaxation_columns, cut_entry}
use Rattle.npp_rows.proofs.CutEntries.{row_of_terms}
use Rattle.npp_rows.proofs.cut_entries.push_cut.Given as goal

abbrev pub invariant-loop-term : goal.invariant-loop-term
invariant-loop-term g l =
    terms_of g.N.Exact.rational l.entries.items ≡ terms_of g.N.Exact.rational l.initial.entries.items
    ++ terms_from 0 (cut_entry (row_of_terms (take l.term-index (map (cut_term_value g.N.Exact.rational) l.cut.terms)))) (relaxation_columns l.index.paths l.index.parts)
