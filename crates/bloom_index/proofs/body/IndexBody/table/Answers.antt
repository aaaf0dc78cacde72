use Rattle.std.proofs.Common.{◌≡◌, ◌<◌, ◌∙◌, Option, Some, List, [], length, IfOk, ap, sym, subst, arith}
use Rattle.std.proofs.lemmas.List.{get_or_default}
use Rattle.blz_value.specs.Record.{Row}
use Rattle.bloom_forms.specs.declared.module.Kind.TheVariants.{Table}
use Rattle.bloom_forms.specs.declared.module.Collection.{Collection}
use Rattle.bloom_forms.specs.Form.{Form}
use Rattle.bloom_forms.specs.Kinds.{of_kind, kind_at, place_in_kind}
use Rattle.bloom_forms.specs.Step.{set_at}
use Rattle.bloom_index.specs.declared.step.Parts.{Parts}
use Rattle.bloom_index.specs.Code.Kept.{tables_in, kept_tables, PartsStand, KeptStands}
use Rattle.bloom_index.proofs.BodyLemmas.{table_within, table_rows, no_table}
use Rattle.bloom_index.proofs.body.IndexBody.table.Goals as goal

pub returns-in_default : goal.returns-in_default
returns-in_default c =
    let a = c.args.self.now.program in
    subst (λ (parts : Option Parts). c.new.result ≡ set_at (kept_tables a parts) c.args.table) (sym c.in_default.is) (c.new.ensures ∙ sym (no_table a c.args.table))

pub collection_at-number-requires : goal.collection_at-number-requires
collection_at-number-requires c =
    let a = c.args.self.now.program in
    let parts = c.in-Some.parts in
    let stands : PartsStand a parts = subst (KeptStands a) c.in-Some.is c.args.self.now.stands in
    let within : c.args.table < length (tables_in a parts.rows.items) = subst (λ (o : Option Parts). c.args.table < length (kept_tables a o)) c.in-Some.is c.requires in
    subst (λ (cs : List Collection). c.args.table < length (of_kind Table cs)) (sym (c.as_slice-collections.ensures ∙ ap (λ (form : Form). form.collections) c.module.ensures.form)) (table_within a parts stands c.args.table within)

pub returns : goal.returns
returns c =
    let a = c.args.self.now.program in
    let parts = c.in-Some.parts in
    let number = c.collection_at-number.result in
    let stands : PartsStand a parts = subst (KeptStands a) c.in-Some.is c.args.self.now.stands in
    let same = c.as_slice-collections.ensures ∙ ap (λ (form : Form). form.collections) c.module.ensures.form in
    let kind : kind_at a.form.collections number ≡ Some Table = ap (λ (cs : List Collection). kind_at cs number) (sym same) ∙ c.collection_at-number.ensures.kind in
    let place : place_in_kind Table a.form.collections number ≡ c.args.table = ap (λ (cs : List Collection). place_in_kind Table cs number) (sym same) ∙ c.collection_at-number.ensures.place in
    let rows : set_at parts.rows.items number ≡ set_at (kept_tables a c.args.self.now.parts) c.args.table = table_rows a parts stands c.args.table number kind place ∙ ap (λ (o : Option Parts). set_at (kept_tables a o) c.args.table) (sym c.in-Some.is) in
    let within : number < length parts.rows.items = omega (arith, c.collection_at-number.ensures.within, ap length same, stands.many) in
    let at : c.index.result.now ≡ set_at parts.rows.items number = c.index.ensures ∙ get_or_default parts.rows.items number c.index.result.now [] within in
    subst (λ (own : List Row). IfOk c.to_set.result (λ set. set ≡ own)) (at ∙ rows) c.to_set.ensures.rows
