-- An instance without a body emits nothing.
use Rattle.std.proofs.Common.{◌≡◌, ◌<◌, ℕ, None, Some, List, [], length, ap, ◌∙◌, subst}
use Rattle.blz_value.specs.Members.{Has}
use Rattle.blz_value.specs.Record.{Row}
use Rattle.topo_forms.specs.Data.{Data}
use Rattle.topo_forms.specs.Messages.{Message, row}
use Rattle.topo_forms.specs.Valid.{IsValid}
use Rattle.topo_forms.specs.View.{View, origin_of, program_of, replicas_of}
use Rattle.inbox.specs.Instances.{Instance}
use Rattle.inbox.specs.Wiring.{wiring_of}
use Rattle.inbox.specs.Executions.{Execution, emitted_list}
use Rattle.inbox.proofs.Lists.Origins.{output_list}
use Rattle.inbox.proofs.Lists.NoBody.{nothing_without}
use Rattle.confluence.proofs.Contents.Instances.{instance_is}

pub no_body_no_rows : (v : View) (d : Data) (x : Execution) → IsValid v → (s c o j : ℕ) → s < length v.streams → origin_of v s ≡ Some (c, o) → j < replicas_of v c → program_of v c ≡ None
    → (r : Row) → ¬ Has (row r) (emitted_list (wiring_of v) d x s j)
no_body_no_rows v d x valid s c o j within origin sender none r h =
    let is = instance_is v d x valid s c o j within origin sender in
    let list : emitted_list (wiring_of v) d x s j ≡ [] = output_list v d x s c o j within origin ∙ nothing_without _ (ap (λ (z : Instance). z.program) is ∙ none) (x.logs c) (x.lives c j) o in
    subst (λ (l : List Message). Has (row r) l) list h
