use Rattle.std.proofs.Common.{◌≡◌, ◌<◌, ◌==◌, ◌∙◌, List, ℕ, [], length, map, get_or, All, sym, ap, subst, arith}
use Rattle.std.specs.Int.{bit_at}
use Rattle.std.specs.List.{list_any}
use Rattle.std.proofs.lemmas.List.{get_or_read, length-map}
use Rattle.std.proofs.lemmas.List.FromFn.{length-map-range_with_len}
use Rattle.npp_net.specs.Network.{toll_count}
use Rattle.npp_cover.specs.PathValue.{path_value}
use Rattle.npp_cover.specs.Replaces.{CoverValue, path_at}
use Rattle.npp_rows.specs.Caps.{path_model, toll_cap, toll_caps}
use Rattle.npp_rows.specs.Parts.{part_at}
use Rattle.npp_rows.specs.PathModel.{PathModel, no_cover, path_count, uses}
use Rattle.npp_check.proofs.RowLemmas.{no_toll_paid, none_paid, paid_of, paid_test}
use Rattle.npp_check.proofs.node_rows.is_paid.Goals as goal
use Rattle.npp_check.proofs.node_rows.is_paid.Goals.{then-toll-tolls-via-then-toll-tolls, then-toll-tolls-via-else-toll-tolls+then-place-covers}

pub returns-then-toll-tolls : goal.returns-then-toll-tolls
returns-then-toll-tolls c =
    let m : PathModel = path_model c.args.instance.now c.args.covers.now in
    let size : length (toll_caps c.args.instance.now c.args.covers.now) ≡ toll_count c.args.instance.now.arcs = length-map-range_with_len (toll_cap c.args.instance.now c.args.covers.now) 0 (toll_count c.args.instance.now.arcs) in (
      λ e. cc,
      λ paid. elim c.then-toll-tolls.branch [
        | then-toll-tolls-via-then-toll-tolls w ↦ absurd (no_toll_paid m c.args.allowed.now.parts c.args.toll c.args.k (omega (arith, w.if-toll-tolls.true, size, c.tolls.ensures.count)) paid)
        | then-toll-tolls-via-else-toll-tolls+then-place-covers w ↦ absurd (none_paid m c.args.allowed.now.parts c.args.toll c.args.k (omega (arith, w.if-place-covers.true)) paid)
      ],
    )

pub is_used-requires-clause-part : goal.is_used-requires-clause-part
is_used-requires-clause-part c =
    let m : PathModel = path_model c.args.instance.now c.args.covers.now in
    let k = c.args.k in
    let inside : k < length c.entries.result.now = omega (arith, ap length c.entries.ensures, c.requires.allowed.size, c.if-place-covers.false) in
    let among : k < length c.args.allowed.now.parts = omega (arith, c.requires.allowed.size, c.if-place-covers.false) in
    let part : c.entries-part.result.now ≡ part_at c.args.allowed.now.parts k =
    c.entries-part.ensures ∙ get_or_read c.entries.result.now k c.index-entries-place.result inside c.index-entries-place.is [] ∙ ap (λ (l : List (List ℕ)). get_or l k []) c.entries.ensures in
    let cover = get_or_read c.args.covers.now k c.index-covers-place.result c.if-place-covers.false c.index-covers-place.is no_cover in
    let count : length c.paths.result.now ≡ path_count m k = sym (length-map c.paths.result.now path_value) ∙ ap length c.paths.ensures ∙ ap (λ (x : CoverValue). length x.paths) cover in
    let all = (c.requires.allowed.each k among).in_range in
    subst (λ (ps : List ℕ). All (λ p. p < length c.paths.result.now) ps) (sym part) (λ i d lt. omega (arith, all i d lt, count))

pub returns : goal.returns
returns c =
    let m : PathModel = path_model c.args.instance.now c.args.covers.now in
    let k = c.args.k in
    let a = c.args.toll in
    let parts = c.args.allowed.now.parts in
    let inside : k < length c.entries.result.now = omega (arith, ap length c.entries.ensures, c.requires.allowed.size, c.if-place-covers.false) in
    let part : c.entries-part.result.now ≡ part_at c.args.allowed.now.parts k =
    c.entries-part.ensures ∙ get_or_read c.entries.result.now k c.index-entries-place.result inside c.index-entries-place.is [] ∙ ap (λ (l : List (List ℕ)). get_or l k []) c.entries.ensures in
    let cover = get_or_read c.args.covers.now k c.index-covers-place.result c.if-place-covers.false c.index-covers-place.is no_cover in
    let paths : map path_value c.paths.result.now ≡ (get_or c.args.covers.now k no_cover).paths = c.paths.ensures ∙ ap (λ (x : CoverValue). x.paths) cover in
    let is : c.is_used.result ≡ list_any (λ p. uses m k p a) (part_at parts k) = c.is_used.ensures ∙ (λ i. list_any (λ p. bit_at (path_at (paths i) p).tolls a == 1) (part i)) in
    let size : length (toll_caps c.args.instance.now c.args.covers.now) ≡ toll_count c.args.instance.now.arcs = length-map-range_with_len (toll_cap c.args.instance.now c.args.covers.now) 0 (toll_count c.args.instance.now.arcs) in
    (paid_of m parts a k c.is_used.result is (omega (arith, size, c.tolls.ensures.count, c.if-toll-tolls.false)) c.if-place-covers.false, paid_test m parts a k c.is_used.result is)
