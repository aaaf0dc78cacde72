-- The key of a record at a port that has its columns is one, by the names of attributes, by their numbers and by the places of columns.
use Rattle.std.proofs.Common.{ap, ◌∙◌, sym}
use Rattle.blz_value.proofs.Membership.{Has-from_filter}
use Rattle.blz_value.specs.Bits.{bit_of, meets}
use Rattle.blz_value.proofs.Members.{in-within}
use Rattle.bloom_forms.specs.Classes.{columns_at}
use Rattle.blz_value.specs.NumberSets.{below}
use Rattle.topo_forms.specs.View.{port_attrs}
use Rattle.inbox.specs.Instances.{PortKey, Instance}
use Rattle.inbox.specs.Instances as instances
use Rattle.inbox.proofs.WiringLemmas.{instance-wired}
use Rattle.inbox.specs.Agreement.{port_roots, value_at}
use Rattle.inbox.specs.StreamLaws.{KeyLaw, EntryKeyLaw}
use Rattle.inbox.proofs.Dependencies.JointLaw.{has_attribute_is, value_is, key_values}
use Rattle.inbox.proofs.Streams.InstancePorts.{key_here}
use Rattle.blz_value.proofs.Members.{member_small}
use Rattle.bloom_forms.specs.Attributes.{value_in}
use Rattle.blz_value.proofs.Maps.{same_map}
use Rattle.blz_value.specs.Bits.{members}

pub key_law : KeyLaw
key_law v c p key program r valid there has inside =
    same_map (value_in v.attributes (columns_at program p) r) (value_at (port_roots v c p) r) (members key)
    (λ a h.
    let member = (Has-from_filter (λ n. meets (bit_of n) key) a (below 64) h).1 in
    value_is v valid c there program has p a r (has_attribute_is v valid c there program has p a (in-within a key (port_attrs v c p).bits (member_small a key member) member inside)))
    ∙ sym (key_values (port_roots v c p) r (members key))

pub entry_key_law : EntryKeyLaw
entry_key_law v c j key entry there replica mode within_ports inside =
    ap (λ (i : Instance). instances.key_of_entry i entry) (instance-wired v c j there replica)
    ∙ key_here v c j key mode entry.0 entry.1 within_ports inside
