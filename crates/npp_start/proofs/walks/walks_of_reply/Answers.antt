use Rattle.std.proofs.Common.{◌≡◌, ℕ, ◌<◌, List, length, map, get_or, refl, sym, ap, ◌∙◌, subst, arith}
use Rattle.std.specs.Prelude.{slice_index, slice_index_or}
use Rattle.std.specs.List.{range_with_len}
use Rattle.std.proofs.lemmas.List.{length-map, map-append, get_or-map, get_or_default}
use Rattle.std.proofs.lemmas.List.FromFn.{map-range_with_len_more}
use Rattle.npp_frac.specs.Rational.{zero_ℚ}
use Rattle.npp_cover.specs.PathValue.{path_value}
use Rattle.npp_cover.specs.Replaces.{CoverValue}
use Rattle.npp_lp.specs.Programs.{at}
use Rattle.npp_rows.specs.PathModel.{PathModel, no_cover, cover_at, path_count, useful_path}
use Rattle.npp_rows.specs.Parts.{chosen}
use Rattle.npp_rows.specs.Caps.{path_model}
use Rattle.npp_rows.specs.Meaning.{reply_value}
use Rattle.npp_inverse.proofs.AskLaws.{read_path}
use Rattle.npp_inverse.proofs.CoverLaws.{has_useful_paths}
use Rattle.npp_start.specs.Walks.{taken_line}
use Rattle.npp_start.proofs.CoverShape.{are_closed, same_count}
use Rattle.npp_start.proofs.ReplyShape.{paths_size, paid_size, path_in_range, line_is}
use Rattle.npp_start.proofs.WalkLaws.{answers_as}
use Rattle.npp_start.proofs.walks.walks_of_reply.Goals as goal

pub bounds-covers-k : goal.bounds-covers-k
bounds-covers-k g c =
    let commodities = ap length c.commodities-k-end.ensures.list in
    let covers = same_count c.args.instance.now c.args.covers.now c.requires.covers in
    omega (arith, c.loop-k-test.true, commodities, covers)

pub bounds-paths-k : goal.bounds-paths-k
bounds-paths-k g c =
    let commodities = ap length c.commodities-k-end.ensures.list in
    let covers = same_count c.args.instance.now c.args.covers.now c.requires.covers in
    let paths = ap length c.entries-paths.ensures ∙ paths_size (path_model c.args.instance.now c.args.covers.now) (reply_value g.N.Exact.rational c.args.response.now) c.requires.reply in
    omega (arith, c.loop-k-test.true, commodities, covers, paths)

-- the cover of the commodity, as it is read
pub bounds-paths-paths : goal.bounds-paths-paths
bounds-paths-paths g c =
    let net = c.args.instance.now in
    let covers = c.args.covers.now in
    let inside : c.loop-k.k < length c.args.covers.now = omega (arith, c.loop-k-test.true, ap length c.commodities-k-end.ensures.list, same_count net covers c.requires.covers) in
    let cover : c.index-covers-k.result ≡ slice_index_or c.args.covers.now c.loop-k.k no_cover = c.index-covers-k.is ∙ get_or_default covers c.loop-k.k _ no_cover inside in
    let size : length c.paths.result.now ≡ path_count (path_model c.args.instance.now c.args.covers.now) c.loop-k.k =
    sym (length-map c.paths.result.now path_value) ∙ ap length c.paths.ensures ∙ ap (λ (v : CoverValue). length v.paths) cover in
    let read : slice_index_or c.entries-paths.result.now c.loop-k.k 0 ≡ slice_index c.args.response.now.paths c.loop-k.k = ap (λ (ps : List ℕ). slice_index ps c.loop-k.k) c.entries-paths.ensures in
    let taken = path_in_range (path_model net covers) (reply_value g.N.Exact.rational c.args.response.now) c.requires.reply (has_useful_paths net covers (are_closed net covers c.requires.covers)) c.loop-k.k inside in
    omega (arith, size, read, taken)

pub bounds-paid-k : goal.bounds-paid-k
bounds-paid-k g c =
    let v = g.N.Exact.rational in
    let commodities = ap length c.commodities-k-end.ensures.list in
    let covers = same_count c.args.instance.now c.args.covers.now c.requires.covers in
    let paid = paid_size (path_model c.args.instance.now c.args.covers.now) (reply_value v c.args.response.now) c.requires.reply in
    let read = ap length c.entries-paid.ensures ∙ sym (length-map c.args.response.now.paid v) in
    omega (arith, c.loop-k-test.true, commodities, covers, paid, read)

pub offset_bounds-paid-k : goal.offset_bounds-paid-k
offset_bounds-paid-k g c =
    let v = g.N.Exact.rational in
    let commodities = ap length c.commodities-k-end.ensures.list in
    let covers = same_count c.args.instance.now c.args.covers.now c.requires.covers in
    let paid = paid_size (path_model c.args.instance.now c.args.covers.now) (reply_value v c.args.response.now) c.requires.reply in
    let read = ap length c.entries-paid.ensures ∙ sym (length-map c.args.response.now.paid v) in
    omega (arith, c.loop-k-test.true, commodities, covers, paid, read)

pub loop-k-preserved : goal.loop-k-preserved
loop-k-preserved g c =
    let v = g.N.Exact.rational in
    let net = c.args.instance.now in
    let covers = c.args.covers.now in
    let m = path_model c.args.instance.now c.args.covers.now in
    let r = reply_value g.N.Exact.rational c.args.response.now in
    let inside : c.loop-k.k < length c.args.covers.now = omega (arith, c.loop-k-test.true, ap length c.commodities-k-end.ensures.list, same_count net covers c.requires.covers) in
    let cover : c.index-covers-k.result ≡ slice_index_or c.args.covers.now c.loop-k.k no_cover = c.index-covers-k.is ∙ get_or_default covers c.loop-k.k _ no_cover inside in
    let paths : map path_value c.paths.result.now ≡ (cover_at (path_model c.args.instance.now c.args.covers.now) c.loop-k.k).paths = c.paths.ensures ∙ ap (λ (x : CoverValue). x.paths) cover in
    let size : length c.paths.result.now ≡ path_count (path_model c.args.instance.now c.args.covers.now) c.loop-k.k = sym (length-map c.paths.result.now path_value) ∙ ap length paths in
    let read : slice_index_or c.entries-paths.result.now c.loop-k.k 0 ≡ slice_index c.args.response.now.paths c.loop-k.k = ap (λ (ps : List ℕ). slice_index ps c.loop-k.k) c.entries-paths.ensures in
    let taken = path_in_range m r c.requires.reply (has_useful_paths net covers (are_closed net covers c.requires.covers)) c.loop-k.k inside in
    let here : slice_index_or c.entries-paths.result.now c.loop-k.k 0 < length c.paths.result.now = omega (arith, size, read, taken) in
    let path = ap (useful_path m c.loop-k.k) (sym read) ∙ read_path m c.loop-k.k (slice_index_or c.entries-paths.result.now c.loop-k.k 0) c.paths.result.now c.index-paths-paths.result paths here c.index-paths-paths.is in
    let payments = ap length c.entries-paid.ensures ∙ sym (length-map c.args.response.now.paid v) ∙ paid_size m r c.requires.reply in
    let known : c.loop-k.k < length c.entries-paid.result.now = omega (arith, inside, payments) in
    let paid = ap (λ xs. at (map v xs) c.loop-k.k) (sym c.entries-paid.ensures) ∙ get_or-map v c.entries-paid.result.now c.loop-k.k c.index-paid-k.result zero_ℚ known ∙ ap v (sym c.index-paid-k.is) in
    rw (c.in_ok-push.ensures.items, map-append, c.loop-k.invariant, c.in_ok-taken_line.ensures, line_is m r c.loop-k.k c.index-paths-paths.result (v c.index-paid-k.result) path paid)
    (sym (map-range_with_len_more (taken_line m r) 0 c.loop-k.k c.loop-k.k (omega arith)))

-- at the end all commodities have their lines
pub returns-clause-lines : goal.returns-clause-lines
returns-clause-lines g c =
    let m = path_model c.args.instance.now c.args.covers.now in
    let r = reply_value g.N.Exact.rational c.args.response.now in
    let end : c.loop-k.k ≡ length c.args.covers.now =
    omega (arith, c.loop-k-test.false, c.loop-k.auto.k-end, ap length c.commodities-k-end.ensures.list, same_count c.args.instance.now c.args.covers.now c.requires.covers) in
    c.loop-k.invariant ∙ ap (λ n. map (taken_line m r) (range_with_len 0 n)) end

pub returns-clause-reply : goal.returns-clause-reply
returns-clause-reply g c =
    answers_as g.N.Exact.rational c.args.instance.now c.args.covers.now c.args.response.now _ c.requires.covers (returns-clause-lines g c)
