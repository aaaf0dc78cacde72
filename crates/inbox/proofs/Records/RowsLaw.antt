-- A record stands in an emitted list of an output exactly where it is a row over the timesteps of some life.
use Rattle.std.proofs.Common.{◌≡◌, ◌<◌, ℕ, Some, List, length, refl, sym, subst}
use Rattle.std.specs.Prelude.{◌↔◌}
use Rattle.blz_value.specs.Members.{Has}
use Rattle.blz_value.specs.Record.{Row}
use Rattle.blz_value.proofs.Membership.{Has-flat_map, Has-from_flat_map}
use Rattle.blz_value.proofs.SetLaws.{Has-set_of, Has-from_set_of}
use Rattle.blz_value.specs.Closure.{within}
use Rattle.bloom_forms.specs.declared.program.Program.{Program}
use Rattle.bloom_forms.specs.Runs.{output_over}
use Rattle.topo_forms.specs.Messages.{Message, row, row_in}
use Rattle.topo_forms.specs.View.{component_at}
use Rattle.messages.specs.Messages.{Entry}
use Rattle.inbox.specs.Instances.{Instance}
use Rattle.inbox.specs.Lives.{Life, Lives, all_lives, life_timesteps, emitted_by}
use Rattle.inbox.specs.Wiring.{instance_at, instance_for, wiring_of}
use Rattle.inbox.proofs.Lists.Rows.{life_rows, rows_of_list}
use Rattle.inbox.proofs.TimestepLemmas.Whole.{Has-filter_map}
use Rattle.inbox.proofs.WiringLemmas.{instance-wired, length-below}
use Rattle.inbox.proofs.Lists.Origins.{output_list}
use Rattle.inbox.proofs.TimestepLemmas.Entries.{Has-from_rows_in}
use Rattle.inbox.specs.StreamLaws.{RowsLaw}

-- a record that stands in the list of an output, and the lives in which it is a row
abbrev IsRowOfLives : Program → Instance → (log : List Entry) → Lives → (output : ℕ) → Row → Type 0
IsRowOfLives program i log lives output r =
    Has (row r) (emitted_by i log lives output) ↔ ((life : Life) × Has life (all_lives lives) × Has r (output_over program output (life_timesteps i log life)))

rows_of_instance : (program : Program) (i : Instance) → i.program ≡ Some program → (log : List Entry) (lives : Lives) (output : ℕ) (r : Row) → output < length i.outputs → IsRowOfLives program i log lives output r
rows_of_instance program i has log lives output r within =
    let list = emitted_by i log lives output in
    let same = rows_of_list program i has log lives output within in (
      λ h.
          let m = Has-from_flat_map (life_rows program i log output) r (all_lives lives) (same.0 r (Has-filter_map row_in (row r) r list h refl)) in
          (m.0, m.1, Has-set_of r _ m.2),
      λ h. Has-from_rows_in r list (same.1 r (Has-flat_map (life_rows program i log output) h.0 r (all_lives lives) h.1 (Has-from_set_of r _ h.2))),
    )

pub rows_law : RowsLaw
rows_law v d x s c o i program r valid within from has sends =
    let numbers = valid.numbered.origins s (c, o) within from in
    let there : o < length (instance_for v c i).outputs = subst (λ (n : ℕ). o < n) (sym (length-below _ (length (component_at v c).outputs))) numbers.1 in
    let own : IsRowOfLives program (instance_at (wiring_of v) c i) (x.logs c) (x.lives c i) o r = subst (λ (z : Instance). IsRowOfLives program z (x.logs c) (x.lives c i) o r) (sym (instance-wired v c i numbers.0 sends))
    (rows_of_instance program (instance_for v c i) has (x.logs c) (x.lives c i) o r there) in
    let list = output_list v d x s c o i within from in
    (λ h. own.0 (subst (λ (l : List Message). Has (row r) l) list h), λ h. subst (λ (l : List Message). Has (row r) l) (sym list) (own.1 h))
