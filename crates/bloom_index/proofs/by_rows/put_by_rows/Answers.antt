use Rattle.std.proofs.Common.{◌≡◌, ◌∙◌, ◌∷◌, [], ◌<◌, Some, List, length, ap, sym, subst}
use Rattle.blz_pool.specs.Entries.{row_with_id}
use Rattle.bloom_forms.specs.declared.module.Collection.{Collection}
use Rattle.bloom_forms.specs.declared.module.Kind.TheVariants.{Input, Output}
use Rattle.bloom_forms.specs.Form.{Form}
use Rattle.bloom_forms.specs.Kinds.{of_kind, kind_at, place_in_kind}
use Rattle.bloom_forms.specs.Step.{Sets, at_end, sets_of_kind}
use Rattle.bloom_forms.proofs.Ends.Equated.{length-at_end}
use Rattle.bloom_eval.specs.Arrivals.{timestep_of}
use Rattle.bloom_index.proofs.ByRowsLemmas.{port_place, row_fits, row_put, row_few, on_ok, on_any}
use Rattle.bloom_index.proofs.by_rows.put_by_rows.Goals as goal

pub collection_at-port-requires : goal.collection_at-port-requires
collection_at-port-requires c =
    let entry = c.args.entry.now in
    let row = row_with_id c.args.pool.now entry.1 in
    let same = c.as_slice-collections.ensures ∙ ap (λ (f : Form). f.collections) c.module.ensures.form in
    subst (λ (cs : List Collection). entry.0 < length (of_kind Input cs)) (sym same) (port_place c.args.program.now.form.collections c.args.ports entry.0 row c.requires.port c.requires.ports)

pub put_outputs-requires-clause-fits : goal.put_outputs-requires-clause-fits
put_outputs-requires-clause-fits c =
    let a = c.args.program.now in
    let entry = c.args.entry.now in
    let row = row_with_id c.args.pool.now entry.1 in
    let port = c.collection_at-port.result in
    let same = c.as_slice-collections.ensures ∙ ap (λ (f : Form). f.collections) c.module.ensures.form in
    let kind : kind_at a.form.collections port ≡ Some Input = ap (λ (cs : List Collection). kind_at cs port) (sym same) ∙ c.collection_at-port.ensures.kind in
    let place : place_in_kind Input a.form.collections port ≡ entry.0 = ap (λ (cs : List Collection). place_in_kind Input cs port) (sym same) ∙ c.collection_at-port.ensures.place in
    row_fits a c.module.ensures.checked c.requires.chosen c.rules.result.now c.rules.ensures.numbered c.args.ports entry.0 port row kind place c.requires.ports

pub returns-clause-rows : goal.returns-clause-rows
returns-clause-rows c =
    let a = c.args.program.now in
    let entry = c.args.entry.now in
    let row = row_with_id c.args.pool.now entry.1 in
    let port = c.collection_at-port.result in
    let same = c.as_slice-collections.ensures ∙ ap (λ (f : Form). f.collections) c.module.ensures.form in
    let kind : kind_at a.form.collections port ≡ Some Input = ap (λ (cs : List Collection). kind_at cs port) (sym same) ∙ c.collection_at-port.ensures.kind in
    let place : place_in_kind Input a.form.collections port ≡ entry.0 = ap (λ (cs : List Collection). place_in_kind Input cs port) (sym same) ∙ c.collection_at-port.ensures.place in
    let end : Sets = at_end a [] (timestep_of c.args.ports ((entry.0, row) ∷ [])) in
    on_ok _ _ c.put_outputs.result (λ put.
    put end (length-at_end a [] (timestep_of c.args.ports ((entry.0, row) ∷ [])) ∙ ap (λ (cs : List Collection). length cs) (sym same))
    (λ k out. row_put a c.module.ensures.checked c.requires.chosen c.rules.result.now c.rules.ensures.numbered c.args.ports entry.0 port row kind place c.requires.ports k (ap (λ (cs : List Collection). kind_at cs k) (sym same) ∙ out))
    ∙ ap (λ (cs : List Collection). sets_of_kind Output cs end) same)
    c.put_outputs.ensures.rows

pub returns-clause-few : goal.returns-clause-few
returns-clause-few c =
    let a = c.args.program.now in
    let entry = c.args.entry.now in
    let row = row_with_id c.args.pool.now entry.1 in
    let port = c.collection_at-port.result in
    let same = c.as_slice-collections.ensures ∙ ap (λ (f : Form). f.collections) c.module.ensures.form in
    let kind : kind_at a.form.collections port ≡ Some Input = ap (λ (cs : List Collection). kind_at cs port) (sym same) ∙ c.collection_at-port.ensures.kind in
    let place : place_in_kind Input a.form.collections port ≡ entry.0 = ap (λ (cs : List Collection). place_in_kind Input cs port) (sym same) ∙ c.collection_at-port.ensures.place in
    on_any c.put_outputs.result (row_few a c.module.ensures.checked c.requires.chosen c.rules.result.now c.rules.ensures.numbered c.args.ports entry.0 port row kind place c.requires.ports)
