-- What a pair's cuts say, path by path.
use Rattle.std.specs.Prelude.{ℕ, List, length, filter, slice_index_or, Bool, false}
use Rattle.std.specs.List.{list_any, range_with_len}
use Rattle.npp_rows.specs.Cuts.{Cut, cut_at, conflict_cut, is_same_cut}

-- whether some of these cuts is exactly the conflict of path p of commodity k with path q of commodity l
abbrev pub is_choice : List Cut → ℕ → ℕ → ℕ → List ℕ → ℕ → Bool
is_choice earlier k p l cuts q = list_any (λ i. is_same_cut (cut_at earlier i) (conflict_cut k p l q)) cuts

-- the numbers of the marks that are set
abbrev pub marked : List Bool → List ℕ
marked marks = filter (λ q. slice_index_or marks q false) (range_with_len 0 (length marks))
