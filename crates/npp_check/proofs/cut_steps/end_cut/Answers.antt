use Rattle.std.proofs.Common.{ℕ, ◌∙◌, ◌+◌, ◌++◌, [], ◌∷◌, map, Result, Ok, Err, ap, sym, subst}
use Rattle.npp_frac.specs.Rational.{Rational}
use Rattle.npp_rows.specs.declared.cut.Derivation.{Derivation}
use Rattle.npp_rows.specs.declared.cut.CutRow.{CutRow}
use Rattle.npp_check.specs.declared.known.Known.{Known}
use Rattle.npp_check.specs.declared.stop.Stop.{Stop}
use Rattle.npp_check.specs.Standing.{AreCutsBut}
use Rattle.npp_check.specs.Steps.{Leads}
use Rattle.std.proofs.lemmas.List.{map-append}
use Rattle.npp_frac.specs.Fits.{limit_of}
use Rattle.npp_net.specs.Network.{Network}
use Rattle.npp_rows.specs.Caps.{path_model}
use Rattle.npp_rows.specs.Cuts.{IsCut}
use Rattle.npp_rows.specs.Derivations.{derivation_verdict}
use Rattle.npp_rows.specs.Meaning.{cut_value, derivation_value}
use Rattle.npp_check.specs.CutLines.{derived}
use Rattle.npp_check.specs.Judges.{Judges}
use Rattle.npp_check.specs.StageValue.{head_value}
use Rattle.npp_check.specs.Stages.{AtCuts, from_cut_multipliers}
use Rattle.npp_check.proofs.CutStepLemmas.{cuts_known, cuts_more, cut_ends, cut_stops, leads_refused}
use Rattle.npp_check.proofs.cut_steps.end_cut.Goals as goal

pub derived_row-requires : goal.derived_row-requires
derived_row-requires g c =
    let v = g.N.Exact.rational in
    subst (λ (k : Known g.row.N.Denot). AreCutsBut c.instance.result.now k.covers.items 0 (map (cut_value v) k.cuts.items)) (sym c.deref.ensures)
    (cuts_known c.args.measured.now.net c.instance.result.now c.args.known.value.covers.items (c.args.left + 1) (map (cut_value v) c.args.known.value.cuts.items) c.instance.ensures.instance c.requires)

-- what the row of a cut is judged to be
abbrev Said : {N : Type 0} → (N → Rational) → ℕ → Network → Known N → Derivation N → Result (CutRow N) Stop → Type 0
Said value limit n k cut r = Judges (cut_value value) r (derived (derivation_verdict limit (path_model n k.covers.items) (map (cut_value value) k.cuts.items) (derivation_value value cut)))

pub returns-in_err-row : goal.returns-in_err-row
returns-in_err-row g c =
    let v = g.N.Exact.rational in
    let limit = limit_of g.N.Exact.WIDTH in
    let k = c.args.known.value in
    let here = subst (λ (x : Known g.row.N.Denot). Said v limit c.instance.result.now x c.args.cut (Err c.in_err-row.field-0.0)) c.deref.ensures c.in_err-row.ensures.said in
    let said = subst (λ (n : Network). Said v limit n k c.args.cut (Err c.in_err-row.field-0.0)) c.instance.ensures.instance here in
    leads_refused v limit c.args.measured.now
    (from_cut_multipliers limit c.args.measured.now (head_value v k.head) k.covers.items c.args.left (map (cut_value v) k.cuts.items) (λ y. derivation_value v c.args.cut) 0 [])
    c.in_err-row.field-0.0 c.from_residual.result c.from_residual.ensures.1
    (cut_stops v limit c.args.measured.now (head_value v k.head) k.covers.items c.args.left (map (cut_value v) k.cuts.items) (λ y. derivation_value v c.args.cut) [] c.in_err-row.field-0.0 said)

pub returns : goal.returns
returns g c =
    let v = g.N.Exact.rational in
    let limit = limit_of g.N.Exact.WIDTH in
    let k = c.args.known.value in
    let row = c.in_ok-row.row in
    let here = subst (λ (x : Known g.row.N.Denot). Said v limit c.instance.result.now x c.args.cut (Ok row)) c.deref.ensures c.in_ok-row.ensures.said in
    let said = subst (λ (n : Network). Said v limit n k c.args.cut (Ok row)) c.instance.ensures.instance here in
    let good_here = subst (λ (x : Known g.row.N.Denot). IsCut (path_model c.instance.result.now x.covers.items) (cut_value v row)) c.deref.ensures c.in_ok-row.ensures.cut in
    let good = subst (λ (n : Network). IsCut (path_model n k.covers.items) (cut_value v row)) c.instance.ensures.instance good_here in
    let pushed = c.in_ok-push.ensures.items ∙ ap (λ (x : Known g.row.N.Denot). x.cuts.items ++ row ∷ []) c.deref_mut.ensures.value in
    let put = ap (map (cut_value v)) pushed ∙ map-append (cut_value v) k.cuts.items (row ∷ []) in
    let reads = from_cut_multipliers limit c.args.measured.now (head_value v k.head) k.covers.items c.args.left (map (cut_value v) k.cuts.items) (λ y. derivation_value v c.args.cut) 0 [] in
    subst (λ (x : Known g.row.N.Denot). Leads limit c.args.measured.now reads (Ok (AtCuts (head_value v x.head) x.covers.items c.args.left (map (cut_value v) c.push.new.self.items)))) (sym c.deref_mut.ensures.value)
    (cut_ends limit c.args.measured.now (head_value v k.head) k.covers.items c.args.left (map (cut_value v) k.cuts.items) (λ y. derivation_value v c.args.cut) [] (cut_value v row) (map (cut_value v) c.push.new.self.items) said put
    (cuts_more c.args.measured.now.net k.covers.items c.args.left (map (cut_value v) k.cuts.items) (map (cut_value v) c.push.new.self.items) (cut_value v row) c.requires good put))
