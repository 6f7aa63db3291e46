-- The fold over the paths is the cap: the greatest gap of a path with the toll, or the ceiling where that is less.
use Rattle.std.specs.Prelude.{◌≡◌, ◌⊎◌, ℕ, suc, ◌+◌, ◌-◌, ◌≤◌, max, List, [], ◌∷◌, map, flat_map, fold, slice_index_or, true, false, ◌==◌, Contains, Result, Ok, Err, IfOk, refl}
use Rattle.std.specs.Int.{bit_at}
use Rattle.std.proofs.Common.{arith, sym, ◌∙◌, inl, inr, eqb-true, eq-eqb}
use Rattle.std.proofs.lemmas.Bool.{cases_lt, cases_Bool}
use Rattle.std.proofs.lemmas.List.{get_or_default}
use Rattle.std.proofs.lemmas.List.FromFn.{get_or-map-range_with_len}
use Rattle.npp_net.specs.Network.{Network, toll_count}
use Rattle.npp_net.specs.TollSets.{Has}
use Rattle.npp_cover.specs.Paths.{PathValue}
use Rattle.npp_cover.specs.Replaces.{CoverValue, path_at, no_path}
use Rattle.npp_cover.specs.Caps.{IsGap, IsGreatestGap}
use Rattle.npp_rows.specs.Caps.{toll_gap, greatest_gap, toll_cap, toll_caps, AreCaps}
use Rattle.npp_rows.proofs.LoweredSums.{gap_from, fold_more}

later : {X : Type 0} (x y : X) (xs : List X) → Contains xs y → Contains (x ∷ xs) y
later x y xs (i, l, e) = (i + 1, omega (arith, l), at_next x y xs i e)
  where
    at_next : {X : Type 0} (x y : X) (xs : List X) (i : ℕ) → slice_index_or xs i y ≡ y → slice_index_or (x ∷ xs) (i + 1) y ≡ y
    at_next x y xs i e = let s : i + 1 ≡ suc i = omega arith in rw s e

-- the greatest number of some paths is the one from which it began, or that of a path
one_reached : (f : PathValue → ℕ) (ps : List PathValue) (start : ℕ) → (fold max start (map f ps) ≡ start) ⊎ ((p : PathValue) × Contains ps p × (f p ≡ fold max start (map f ps)))
one_reached f [] start = inl refl
one_reached f (p ∷ ps) start = elim (one_reached f ps (max start (f p))) [
  | inr found ↦ inr (found.0, later p found.0 ps found.1, found.2)
  | inl e ↦ elim (cases_lt start (f p)) [
    | inl lt ↦ inr (p, (0, omega arith, refl), omega (arith, e, lt))
    | inr le ↦ inl (omega (arith, e, le))
  ]
]

-- the same of the gaps of all covers
module _ (a : ℕ) where
  abbrev IsReached : List CoverValue → ℕ → Type 0
  IsReached covers most = (c : CoverValue) × (p : PathValue) × Contains covers c × Contains c.paths p × (toll_gap a c.free p ≡ most)

  all_reached : (covers : List CoverValue) (start : ℕ)
      → (fold max start (flat_map (λ c. map (toll_gap a c.free) c.paths) covers) ≡ start) ⊎ IsReached covers (fold max start (flat_map (λ c. map (toll_gap a c.free) c.paths) covers))
  all_reached [] start = inl refl
  all_reached (c ∷ cs) start =
      let first : ℕ = fold max start (map (toll_gap a c.free) c.paths) in
      let e = fold_more (map (toll_gap a c.free) c.paths) (flat_map (λ c. map (toll_gap a c.free) c.paths) cs) start in
      elim (all_reached cs (fold max start (map (toll_gap a c.free) c.paths))) [
        | inr found ↦ inr (found.0, found.1, later c found.0 cs found.2, found.3, found.4 ∙ sym e)
        | inl same ↦ elim (one_reached (toll_gap a c.free) c.paths start) [
          | inl none ↦ inl (e ∙ same ∙ none)
          | inr found ↦ inr (c, found.0, (0, omega arith, refl), found.1, found.2 ∙ sym same ∙ sym e)
        ]
      ]

  -- a path with the toll has this gap
  gap_with : (free : ℕ) (p : PathValue) → Has p.tolls a → toll_gap a free p ≡ free - p.cost
  gap_with free p has = let test : (bit_at p.tolls a == 1) ≡ true = eq-eqb (bit_at p.tolls a) 1 has in rw test refl

  gap_without : (free : ℕ) (p : PathValue) → (bit_at p.tolls a == 1) ≡ false → toll_gap a free p ≡ 0
  gap_without free p test = rw test refl

  bounded : (covers : List CoverValue) (c : CoverValue) (p : PathValue) → Contains covers c → Contains c.paths p → toll_gap a c.free p ≤ greatest_gap covers a
  bounded covers c p (k, l, is) (q, u, same) =
      let path : path_at c.paths q ≡ p = get_or_default c.paths q no_path p u ∙ same in
      let here = gap_from covers 0 a k q c l (rw is u) in
      rw (is, path) at here

  is_greatest : (covers : List CoverValue) → IsGreatestGap covers a (greatest_gap covers a)
  is_greatest covers = record {
    bounds = λ gap (c, p, inside, has, tolls, costs). omega (arith, bounded covers c p inside has, gap_with c.free p tolls, costs);
    attained = elim (all_reached covers 0) [
      | inl none ↦ inr none
      | inr found ↦ by found.0 found.1 found.2 found.3 found.4
    ];
  }
    where
      above : (c : CoverValue) (p : PathValue) → Contains covers c → Contains c.paths p → toll_gap a c.free p ≡ greatest_gap covers a → Has p.tolls a → IsGap covers a (greatest_gap covers a) ⊎ (greatest_gap covers a ≡ 0)
      above c p inside has is tolls = elim (cases_lt p.cost c.free) [
        | inl lt ↦ inl (c, p, inside, has, tolls, omega (arith, gap_with c.free p tolls, is, lt))
        | inr le ↦ inr (omega (arith, gap_with c.free p tolls, is, le))
      ]

      by : (c : CoverValue) (p : PathValue) → Contains covers c → Contains c.paths p → toll_gap a c.free p ≡ greatest_gap covers a → IsGap covers a (greatest_gap covers a) ⊎ (greatest_gap covers a ≡ 0)
      by c p inside has is = elim (cases_Bool (bit_at p.tolls a == 1)) [
        | inl test ↦ above c p inside has is (eqb-true (bit_at p.tolls a) 1 test)
        | inr test ↦ inr (sym is ∙ gap_without c.free p test)
      ]

-- each of them is the cap of its toll
pub are_caps : (net : Network) (covers : List CoverValue) → AreCaps net covers (toll_caps net covers)
are_caps net covers a inside =
    let is : slice_index_or (toll_caps net covers) a 0 ≡ toll_cap net covers a = get_or-map-range_with_len (toll_cap net covers) 0 (toll_count net.arcs) a a 0 inside (omega arith) in
    rw is (greatest_gap covers a, is_greatest a covers, refl)

pub found_caps : {N E : Type 0} (value : N → List ℕ) (net : Network) (covers : List CoverValue) (r : Result N E) → IfOk r (λ v. value v ≡ toll_caps net covers) → IfOk r (λ v. AreCaps net covers (value v))
found_caps value net covers (Ok v) e = rw e (are_caps net covers)
found_caps value net covers (Err x) e = tt
