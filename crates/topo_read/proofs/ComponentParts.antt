-- A component that is read a part after the other is the one that is read field by field.
use Rattle.std.proofs.Common.{◌≡◌, ◌∙◌, Result, Ok, Err, codes, refl, subst}
use Rattle.toml.specs.Data.{Members, as_integer}
use Rattle.topo_forms.specs.declared.topology.ComponentEntry.{ComponentEntry}
use Rattle.topo_read.specs.declared.component.Frame.{Frame}
use Rattle.topo_read.specs.declared.component.Rest.{Rest}
use Rattle.topo_read.specs.declared.component.Running.{Running}
use Rattle.topo_read.specs.declared.fault.TopoTextFault.{TopoTextFault}
use Rattle.topo_read.specs.Gives.{Gives}
use Rattle.topo_read.specs.Values.{name_in, mode_in}
use Rattle.topo_read.specs.Tables.{declared_in}
use Rattle.topo_read.specs.Fields.{◌>>=◌, Path, required, optional, optional_list, only_keys}
use Rattle.topo_read.specs.Component.{body_of, sides_of, key_of, or_one, or_free, component_keys, component_of}
use Rattle.topo_read.specs.Code.ComponentParts.{frame_of, running_of, rest_of, by_parts}
use Rattle.topo_read.proofs.Steps.{inner, after}

frame_steps : (table : Members) (next : Frame → Result ComponentEntry Path) → (frame_of table >>= next) ≡ (body_of table >>= (λ body. sides_of body (codes "inputs") table >>= (λ inputs. sides_of body (codes "outputs") table >>= (λ outputs. next (record { body = body; inputs = inputs; outputs = outputs })))))
unfolding frame_of
frame_steps table next =
    inner (body_of table) _ next _ (λ body.
    inner (sides_of body (codes "inputs") table) _ next _ (λ inputs.
    inner (sides_of body (codes "outputs") table) _ next _ (λ outputs. refl)))

running_steps : (table : Members) (next : Running → Result ComponentEntry Path) → (running_of table >>= next) ≡ (optional as_integer (codes "replicas") table >>= (λ replicas. optional mode_in (codes "mode") table >>= (λ m. key_of (or_free m) table >>= (λ key. only_keys component_keys table >>= (λ only. next (record { replicas = or_one replicas; mode = or_free m; key = key }))))))
unfolding running_of
running_steps table next =
    inner (optional as_integer (codes "replicas") table) _ next _ (λ replicas.
    inner (optional mode_in (codes "mode") table) _ next _ (λ m.
    inner (key_of (or_free m) table) _ next _ (λ key.
    inner (only_keys component_keys table) _ next _ (λ only. refl))))

rest_steps : (table : Members) (next : Rest → Result ComponentEntry Path) → (rest_of table >>= next) ≡ (optional_list declared_in (codes "notes") table >>= (λ notes. running_of table >>= (λ running. next (record { notes = notes; running = running }))))
unfolding rest_of
rest_steps table next =
    inner (optional_list declared_in (codes "notes") table) _ next _ (λ notes.
    inner (running_of table) _ next _ (λ running. refl))

by_steps : (table : Members) → by_parts table ≡ component_of table
unfolding by_parts component_of
by_steps table =
    after (required name_in (codes "name") table) _ _ (λ name.
    frame_steps table _ ∙ after (body_of table) _ _ (λ body.
    after (sides_of body (codes "inputs") table) _ _ (λ inputs.
    after (sides_of body (codes "outputs") table) _ _ (λ outputs.
    rest_steps table _ ∙ after (optional_list declared_in (codes "notes") table) _ _ (λ notes. running_steps table _)))))

-- what is given by parts is given of the whole
pub is_whole : (r : Result ComponentEntry TopoTextFault) (table : Members) → Gives (λ (x : ComponentEntry). x) r (by_parts table) → Gives (λ (x : ComponentEntry). x) r (component_of table)
is_whole r table given = subst (λ (m : Result ComponentEntry Path). Gives (λ (x : ComponentEntry). x) r m) (by_steps table) given
