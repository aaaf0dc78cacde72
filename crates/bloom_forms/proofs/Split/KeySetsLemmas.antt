-- A key that is a set of attributes is the list of its members.
use Rattle.std.proofs.Common.{List}
use Rattle.blz_value.proofs.Membership.{all_member, all_from}
use Rattle.blz_value.specs.Bits.{members}
use Rattle.blz_value.specs.Closure.{within, closure}
use Rattle.blz_value.proofs.MembersInOrder.{from_members, within_by_members, members_within}
use Rattle.blz_value.proofs.Booleans.{same_truth}
use Rattle.bloom_forms.specs.declared.program.Program.{Program}
use Rattle.bloom_forms.specs.Proper.{IsProper, HasDistinctColumns}
use Rattle.bloom_forms.specs.Query.{Name}
use Rattle.bloom_forms.specs.Annotation.{gate_of_output}
use Rattle.bloom_forms.specs.Attributes.{has_attribute}
use Rattle.bloom_forms.proofs.Copies.AttributesLemmas.{has_in_set, in_set_has}
use Rattle.bloom_forms.specs.Classes.{has_key}
use Rattle.bloom_forms.specs.KeySets.{attributes_in, HasSetByMembers, SetIsInClosureByMembers, AnswersBySet}
use Rattle.bloom_forms.proofs.Split.SplitLaw.{answers_split}

pub has_set_by_members : HasSetByMembers
has_set_by_members names columns key small = same_truth (has_key names columns (members key.bits)) (within key.bits (attributes_in names columns))
    (λ has. within_by_members key.bits (attributes_in names columns) small (λ n h. has_in_set names columns n (from_members key.bits n h).0 (all_member (has_attribute names columns) (members key.bits) n has h)))
    (λ inside. all_from (has_attribute names columns) (members key.bits) (λ n h. in_set_has names columns n (members_within key.bits (attributes_in names columns) inside n h)))

pub set_by_members : SetIsInClosureByMembers
set_by_members key gate fds small = (
  λ each. within_by_members key.bits (closure gate fds) small each,
  λ inside. members_within key.bits (closure gate fds) inside,
)

pub answers_by_set : (names : List Name) (program : Program) → IsProper program → HasDistinctColumns program → AnswersBySet names program
answers_by_set names program proper distinct output now fds key small arrivals keyed inside row =
    answers_split names program proper distinct output now fds (members key.bits) arrivals keyed ((set_by_members key (gate_of_output names program output) fds small).1 inside) row
