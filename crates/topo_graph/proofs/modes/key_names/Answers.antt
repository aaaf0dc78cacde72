use Rattle.std.proofs.Common.{◌≡◌, inl, inr, subst, sym, IfOk}
use Rattle.bloom_forms.specs.declared.mode.Mode.{Mode}
use Rattle.topo_forms.specs.Modes.{key_names}
use Rattle.topo_graph.proofs.modes.key_names.Goals as goal

pub returns-in-Pass : goal.returns-in-Pass
returns-in-Pass c = elim c.in-Pass.is [
  | inl e ↦ subst (λ (m : Mode). IfOk c.names_in.result (λ key. key.items ≡ key_names c.args.names.now m)) (sym e) c.names_in.ensures
  | inr e ↦ subst (λ (m : Mode). IfOk c.names_in.result (λ key. key.items ≡ key_names c.args.names.now m)) (sym e) c.names_in.ensures
]
