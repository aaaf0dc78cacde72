-- The timesteps of a component are keyed for each output that carries a key.
use Rattle.std.proofs.Common.{◌≡◌, ◌<◌, ℕ, true, is_some, Option, None, Some, length, refl, sym, subst}
use Rattle.std.specs.List.{list_all}
use Rattle.blz_value.specs.Members.{Has}
use Rattle.blz_value.proofs.Membership.{Has-filter, Has-from_filter, Has-flat_map, all_member}
use Rattle.blz_value.specs.Bits.{bit_of, meets}
use Rattle.blz_value.specs.Closure.{within, closure}
use Rattle.blz_value.proofs.Members.{in-within}
use Rattle.bloom_forms.specs.declared.program.Program.{Program}
use Rattle.bloom_forms.specs.declared.note.Note.{Note}
use Rattle.bloom_forms.specs.Annotation.{note_of, gate_of_output}
use Rattle.topo_forms.specs.Carried.{streams_towards, carries_key}
use Rattle.topo_forms.specs.Dependencies.{usable_fds}
use Rattle.blz_value.specs.NumberSets.{below}
use Rattle.topo_forms.specs.Valid.{IsValid, IsCovered}
use Rattle.topo_forms.specs.View.{View, component_at, output_at, has_stream, note_at, port_attrs, port_numbers, program_of, ports_towards, streams_to}
use Rattle.topo_forms.proofs.Regions.Spreading.{in_below}
use Rattle.inbox.specs.StreamLaws.{OutputKeyedLaw}
use Rattle.inbox.specs.Agreement.{HaveKey}
use Rattle.inbox.proofs.Streams.CarriedKeys.{stream_key_law, may_carry-is}
use Rattle.inbox.proofs.Dependencies.JointLaw.{keyed_law}
use Rattle.inbox.proofs.Columns.Viewed.{runs}
use Rattle.inbox.proofs.Streams.IntoPorts.{end_there, some_stream, into_port, attrs_into}
use Rattle.blz_value.proofs.Members.{member_small}
use Rattle.blz_value.proofs.MembersInOrder.{members_within}
use Rattle.blz_value.specs.Bits.{members}

pub used_is : (used derived : Option Note) → IsCovered used derived → is_some derived ≡ true → is_some used ≡ true
used_is None None h e = cc
used_is (Some a) None h e = refl
used_is None (Some b) h e = absurd h
used_is (Some a) (Some b) h e = refl

-- a port with a derived note towards the output, and with a stream, has the key's columns
pub keys_towards : (v : View) → IsValid v → (c o key : ℕ) (program : Program) → c < length v.components → o < length (component_at v c).outputs → program_of v c ≡ Some program
    → list_all (carries_key v key) (streams_towards v c o) ≡ true → (p : ℕ) → is_some (note_of v.attributes program p o) ≡ true → has_stream v c p ≡ true → within key (port_attrs v c p).bits ≡ true
keys_towards v valid c o key program within_components within_outputs has carries p used streams =
    let there = (end_there v valid c p streams).1 in
    let noted : is_some (note_at v c p o) ≡ true = used_is (note_at v c p o) (note_of v.attributes program p o) ((runs v valid c within_components program has).notes p o there within_outputs) used in
    let towards : Has p (ports_towards v c o) = Has-filter (λ q. is_some (note_at v c q o)) p (port_numbers v c) (in_below (length (component_at v c).ports) p there) noted in
    let one = some_stream v c p streams in
    let own = all_member (carries_key v key) (streams_towards v c o) one.0 carries (Has-flat_map (streams_to v c) p one.0 (ports_towards v c o) towards (into_port v c p one.0 one.1.stands one.1.goes)) in
    subst (λ (n : ℕ). within key n ≡ true) (sym (attrs_into v valid c p one.0 one.1.stands one.1.goes)) (stream_key_law v key one.0 valid one.1.stands own)

pub output_keyed_law : OutputKeyedLaw
output_keyed_law v d x c o key program nows h holds within_components within_outputs has may carries sent =
    let have : HaveKey v c (λ port. is_some (note_of v.attributes program port o)) (members key) = λ p a used streams member.
    let in_key = (Has-from_filter (λ n. meets (bit_of n) key) a (below 64) member).1 in
    in-within a key (port_attrs v c p).bits (member_small a key in_key) in_key (keys_towards v h.valid c o key program within_components within_outputs has carries p used streams) in
    let gate : (output_at v c o).gate.bits ≡ gate_of_output v.attributes program o = (runs v h.valid c within_components program has).gates o within_outputs in (
      keyed_law v d x c program nows (λ port. is_some (note_of v.attributes program port o)) (members key) h holds within_components has sent have,
      members_within key (closure (gate_of_output v.attributes program o) (usable_fds v c)) (subst (λ (g : ℕ). within key (closure g (usable_fds v c)) ≡ true) gate (may_carry-is v key c o may).closed),
    )
