-- The line at which some bytes are no tolls text.
use Rattle.std.specs.Prelude.{◌≡◌, ◌≢◌, ◌⊎◌, ℕ, zero, suc, ◌+◌, ◌<◌, ◌≤◌, List, [], ◌++◌, length, slice_index_or}
use Rattle.std.specs.List.{concat}
use Rattle.npp_frac.specs.Rational.{Rational}
use Rattle.npp_net.specs.declared.types.NetArc.{NetArc}
use Rattle.npp_net.specs.Network.{toll_count}
use Rattle.npp_toll_text.specs.Allowed.{IsToll}
use Rattle.npp_toll_text.specs.TollsText.{header, toll_line}

-- a line that may stand at this place of the text: the header first, and then one of each toll arc, with a toll that may be set
abbrev pub MayStand : List NetArc → ℕ → List ℕ → Type 0
MayStand arcs zero line = line ≡ header
MayStand arcs (suc a) line = (toll : Rational) × (a < toll_count arcs) × IsToll arcs a toll × (line ≡ toll_line a toll)

-- the lines above may stand where they do; what follows them does not begin with a line that may stand next; and it is a
-- line, or one is missing
pub record IsRefusedLine (arcs : List NetArc) (bytes : List ℕ) (number : ℕ) : Type 0 where
  pub above : List (List ℕ)
  pub rest : List ℕ
  pub parts : bytes ≡ concat above ++ rest
  pub stand : (i : ℕ) → i < length above → MayStand arcs i (slice_index_or above i [])
  pub next : (line after : List ℕ) → rest ≡ line ++ after → MayStand arcs (length above) line → ⊥
  pub left : (rest ≢ []) ⊎ (length above ≤ toll_count arcs)
  pub is_next : number ≡ length above + 1
