-- The records of a class by the values of a key are those of the partition with these values.
use Rattle.std.proofs.Common.{◌≡◌, ap, sym, subst, ◌∙◌, ℕ, ◌<◌, ◌^◌, true, List, length, Some}
use Rattle.blz_value.specs.Record.{Row}
use Rattle.blz_value.proofs.Membership.{all_member, all_from}
use Rattle.blz_value.specs.declared.attrs.Attrs.{Attrs}
use Rattle.blz_value.specs.Bits.{members}
use Rattle.blz_value.specs.Closure.{within}
use Rattle.blz_value.proofs.MembersInOrder.{within_by_members, members_within}
use Rattle.bloom_forms.specs.declared.program.Program.{Program}
use Rattle.bloom_forms.specs.Query.{Name}
use Rattle.bloom_forms.specs.Attributes.{has_attribute}
use Rattle.bloom_forms.specs.Classes.{columns_at, has_key, of_class}
use Rattle.bloom_forms.proofs.Split.ClassesLemmas.{from_class, in_class}
use Rattle.topo_forms.specs.Valid.{IsValid, Runs}
use Rattle.topo_forms.specs.View.{View, component_at, port_attrs, program_of, mode_of, mode_key}
use Rattle.inbox.specs.Instances.{Instance}
use Rattle.inbox.specs.Wiring.{instance_for}
use Rattle.inbox.proofs.WiringLemmas.{instance-ports}
use Rattle.inbox.proofs.Dependencies.KeyLaw.{key_law}
use Rattle.inbox.proofs.Streams.InstancePorts.{as_many, key_here, key_given, has_columns}
use Rattle.inbox.proofs.Dependencies.JointLaw.{has_attribute_is, is_has_attribute}
use Rattle.confluence.proofs.Honest.Partitions.{IsRestriction}

module _ (v : View) (c j : ℕ) (key : Attrs) (mode : mode_key (mode_of v c) ≡ Some key) (valid : IsValid v) (there : c < length v.components)
    (program : Program) (body : program_of v c ≡ Some program) (small : key.bits < 2 ^ 64) where
  abbrev i : Instance
  i = instance_for v c j

  abbrev names : List Name
  names = v.attributes

  abbrev attributes : List ℕ
  attributes = members key.bits

  runs : Runs v c program
  runs = (valid.components c there).runs program body

  -- the columns of a port have the key by their names exactly where its set of attributes has
  key_inside : (port : ℕ) → has_key names (columns_at program port) attributes ≡ true → within key.bits (port_attrs v c port).bits ≡ true
  key_inside port keyed = within_by_members key.bits (port_attrs v c port).bits small (λ a h. is_has_attribute v valid c there program body port a (all_member (has_attribute names (columns_at program port)) attributes a keyed h))

  key_named : (port : ℕ) → within key.bits (port_attrs v c port).bits ≡ true → has_key names (columns_at program port) attributes ≡ true
  key_named port inside = all_from (has_attribute names (columns_at program port)) attributes (λ a h. has_attribute_is v valid c there program body port a (members_within key.bits (port_attrs v c port).bits inside a h))

  pub restricts : (k : Row) → IsRestriction i (of_class names program attributes (λ values. values) k) k
  restricts k = record {
    chosen = λ now port r h.
        let f = from_class names program attributes (λ values. values) k now port r h in
        let within_ports : port < length (component_at v c).ports = subst (λ n. port < n) (sym (as_many v c j key mode program runs)) f.within in
        let inside = key_inside port f.keyed in (
          subst (λ n. port < n) (sym (instance-ports v c j)) within_ports,
          f.stands,
          key_here v c j key mode port r within_ports inside ∙ ap Some (sym (key_law v c port key.bits program r valid there body inside) ∙ f.is),
        );
    kept = λ now port r of_instance h is.
        let within_ports : port < length (component_at v c).ports = subst (λ n. port < n) (instance-ports v c j) of_instance in
        let inside = has_columns v c j key mode port r k within_ports is in
        in_class names program attributes (λ values. values) k now port r (record {
          within = subst (λ n. port < n) (as_many v c j key mode program runs) within_ports;
          stands = h;
          keyed = key_named port inside;
          is = key_law v c port key.bits program r valid there body inside ∙ key_given v c j key mode port r k within_ports is;
        });
  }
