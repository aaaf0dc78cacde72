-- The names are distinct, so each is added.
use Rattle.std.proofs.Common.{◌≡◌, ◌∙◌, [], ap}
use Rattle.std.proofs.lemmas.Result.{IfOk-weaker}
use Rattle.topo_forms.specs.Attributes.{with_columns}
use Rattle.topo_forms.proofs.CopiedNames.{copied_names}
use Rattle.shard_route.proofs.gates.attribute_names.Goals as goal

pub returns : goal.returns
returns c =
    let attributes = c.args.valid.now.view.attributes in
    IfOk-weaker c.names_of.result (λ n. n ≡ with_columns [] c.attr_names.result.now) (λ n. n ≡ c.args.valid.now.view.attributes)
    (λ n e. e ∙ ap (with_columns []) c.attr_names.ensures ∙ copied_names c.args.valid.now.view.attributes c.known.ensures.numbered.attribute_names) c.names_of.ensures
