-- A usable dependency is whole at each port of a component, and holds between any two records that were sent there.
use Rattle.std.proofs.Common.{◌≡◌, ◌<◌, ◌≤◌, ◌^◌, ℕ, true, ◌&&◌, List, [], ◌∷◌, length, map, get_or, refl, ap, ◌∙◌, sym, subst, inl, inr, arith, Option, None, Some}
use Rattle.std.specs.List.{list_all}
use Rattle.std.proofs.lemmas.Bool.{eq-eqb, eqb-true, and_parts, and_from}
use Rattle.blz_value.specs.declared.value.Value.{Value}
use Rattle.blz_value.specs.Members.{Has}
use Rattle.blz_value.specs.Record.{Row}
use Rattle.blz_value.specs.Test.{cell}
use Rattle.blz_value.proofs.Membership.{Has-from_filter, Has-filter, Has-from_any, any_from_Has, all_member, all_from}
use Rattle.blz_value.specs.declared.attrs.Fd.{Fd}
use Rattle.blz_value.specs.Bits.{bit_of, meets}
use Rattle.blz_value.specs.Closure.{within}
use Rattle.blz_value.proofs.Least.{closure-least}
use Rattle.blz_value.proofs.Members.{in-within}
use Rattle.bloom_forms.specs.declared.program.Program.{Program}
use Rattle.bloom_forms.specs.Query.{Name}
use Rattle.bloom_forms.specs.Gates.{set_of_roots}
use Rattle.bloom_forms.specs.HeadRoots.{attribute_roots}
use Rattle.bloom_forms.specs.Roots.{Roots, are_same}
use Rattle.bloom_forms.specs.Classes.{columns_at, Arriving}
use Rattle.bloom_forms.proofs.Copies.AttributesLemmas.{in_roots, in_set_of_roots as in_columns}
use Rattle.topo_forms.specs.Data.{Data, key_value, agree_on, has_both, place_of_attribute}
use Rattle.topo_forms.specs.Dependencies.{upholds, has_to_with_from, is_usable, usable_fds}
use Rattle.topo_forms.specs.Messages.{is_same_row}
use Rattle.blz_value.specs.NumberSets.{below}
use Rattle.topo_forms.specs.Valid.{IsValid}
use Rattle.topo_forms.specs.View.{View, port_at, stream_at, port_attrs, stream_attrs, has_stream, streams_into, goes_to, program_of}
use Rattle.topo_forms.proofs.Regions.Spreading.{in_below}
use Rattle.inbox.specs.Executions.{Execution}
use Rattle.messages.proofs.MessagesLemmas.{is_same_row-is, is_same_row-itself}
use Rattle.inbox.specs.Agreement.{port_roots, value_at, HaveSameValues, IsTraced}
use Rattle.inbox.specs.Sent.{IsHistory, IsSentTo}
use Rattle.inbox.specs.StreamLaws.{WholeLaw, ClosureLaw, JointLaw, KeyedLaw}
use Rattle.inbox.proofs.Columns.Attributes.{numbers_are_roots, value_in_is, attribute_within}
use Rattle.inbox.proofs.Records.TracedLaw.{traced_law}
use Rattle.inbox.proofs.Columns.Viewed.{port_is}
use Rattle.inbox.proofs.Streams.IntoPorts.{stream_into, attrs_into, goes_in, some_stream, has_some}
use Rattle.blz_value.proofs.Members.{member_small}
use Rattle.blz_value.proofs.MembersInOrder.{within_by_members, from_members}
use Rattle.bloom_forms.specs.Attributes.{has_attribute, value_in}
use Rattle.blz_value.proofs.Maps.{same_map}
use Rattle.blz_value.specs.Bits.{members}
use Rattle.blz_value.proofs.Booleans.{implied}

-- ---- the usable dependencies

pub usable_declared : (v : View) (c : ℕ) (fd : Fd) → Has fd (usable_fds v c) → Has fd v.fds × (list_all (λ s. upholds v fd s && has_to_with_from v fd s) (streams_into v c) ≡ true)
unfolding usable_fds
usable_declared v c fd h = Has-from_filter (is_usable v c) fd v.fds h

-- a stream into a component, for a dependency that is usable there
pub usable_stream : (v : View) (c p u : ℕ) (fd : Fd) → Has fd (usable_fds v c) → u < length v.streams → goes_to v c p u ≡ true → (upholds v fd u ≡ true) × (has_to_with_from v fd u ≡ true)
usable_stream v c p u fd h within goes =
    let both = all_member (λ s. upholds v fd s && has_to_with_from v fd s) (streams_into v c) u (usable_declared v c fd h).1 (goes_in v c p u within goes) in
    ((and_parts (upholds v fd u) (has_to_with_from v fd u) both).0, (and_parts (upholds v fd u) (has_to_with_from v fd u) both).1)

pub whole_law : WholeLaw
whole_law v c p fd valid has usable from =
    let one = some_stream v c p has in
    let attrs = attrs_into v valid c p one.0 one.1.stands one.1.goes in
    let both = usable_stream v c p one.0 fd usable one.1.stands one.1.goes in
    subst (λ (s : ℕ). within fd.to.bits s ≡ true) (sym attrs)
    (implied (within fd.from.bits (stream_attrs v one.0).bits) (within fd.to.bits (stream_attrs v one.0).bits) both.1 (subst (λ (s : ℕ). within fd.from.bits s ≡ true) attrs from))

pub closure_law : ClosureLaw
closure_law v c p gate valid has inside =
    (closure-least gate (usable_fds v c)).least (port_attrs v c p).bits inside (λ fd usable from. whole_law v c p fd valid has usable from)

-- ---- agreement

map_at : {X Y : Type 0} (f g : X → Y) (xs : List X) (x : X) → map f xs ≡ map g xs → Has x xs → f x ≡ g x
map_at f g [] x e h = absurd h
map_at {Y = Y} f g (y ∷ ys) x e (inl same) = subst (λ z. f z ≡ g z) same (ap (λ (l : List Y). get_or l 0 (f y)) e)
map_at {Y = Y} f g (y ∷ ys) x e (inr h) = map_at f g ys x (ap tail e) h
  where
    tail : List Y → List Y
    tail [] = []
    tail (z ∷ zs) = zs

pub key_values : (columns : Roots) (r : Row) (ns : List ℕ) → map (cell r) (map (place_of_attribute columns) ns) ≡ map (value_at columns r) ns
key_values columns r [] = refl
key_values columns r (n ∷ ns) = ap (λ (l : List Value). value_at columns r n ∷ l) (key_values columns r ns)

-- agreement by value is agreement on each attribute
pub from_agree : (set : ℕ) (left : Roots) (a : Row) (right : Roots) (b : Row) → agree_on set left a right b ≡ true → HaveSameValues set left a right b
from_agree set left a right b e attribute h =
    let keys : key_value left set a ≡ key_value right set b = is_same_row-is (key_value left set a) (key_value right set b) e in
    let values : map (value_at left a) (members set) ≡ map (value_at right b) (members set) = sym (key_values left a (members set)) ∙ keys ∙ key_values right b (members set) in
    let small = member_small attribute set h in
    map_at (value_at left a) (value_at right b) (members set) attribute values (Has-filter (λ n. meets (bit_of n) set) attribute (below 64) (in_below 64 attribute small) h)

-- records with the same value in each attribute of a key have the same key
pub same_keys : (set : ℕ) (left : Roots) (a : Row) (right : Roots) (b : Row) → HaveSameValues set left a right b → key_value left set a ≡ key_value right set b
same_keys set left a right b same =
    let values : map (value_at left a) (members set) ≡ map (value_at right b) (members set) = same_map (value_at left a) (value_at right b) (members set) (λ n h. same n (from_members set n h).1) in
    key_values left a (members set) ∙ values ∙ sym (key_values right b (members set))

pub to_agree : (set : ℕ) (left : Roots) (a : Row) (right : Roots) (b : Row) → HaveSameValues set left a right b → agree_on set left a right b ≡ true
to_agree set left a right b same = subst (λ (k : Row). is_same_row (key_value left set a) k ≡ true) (same_keys set left a right b same) (is_same_row-itself (key_value left set a))

-- ---- joint dependencies

-- a record that was sent to a port with all columns of a usable dependency is traced
pub traced_there : (v : View) (d : Data) (x : Execution) (c p : ℕ) (fd : Fd) (r : Row) → IsHistory v d x → Has fd (usable_fds v c) → IsSentTo v d x c p r → has_both fd (port_attrs v c p).bits ≡ true → IsTraced v d fd (port_roots v c p) r
traced_there v d x c p fd r h usable sent both =
    let up = (usable_stream v c p sent.stream fd usable sent.within sent.goes).0 in
    let all : has_both fd (stream_attrs v sent.stream).bits ≡ true = subst (λ (s : ℕ). has_both fd s ≡ true) (attrs_into v h.valid c p sent.stream sent.within sent.goes) both in
    subst (λ (z : Roots). IsTraced v d fd z r) (stream_into v h.valid c p sent.stream sent.within sent.goes)
    (traced_law v d x fd sent.stream sent.sender r h sent.within sent.sends up all sent.sent)

pub joint_law : JointLaw
joint_law v d x c p q fd a b h holds usable sent_a sent_b both_a both_b same attribute at =
    let s = traced_there v d x c p fd a h usable sent_a both_a in
    let t = traced_there v d x c q fd b h usable sent_b both_b in
    let left = (stream_at v s.source).columns in
    let right = (stream_at v t.source).columns in
    let sources : HaveSameValues fd.from.bits left s.origin right t.origin = λ n m. sym (s.same_from n m) ∙ same n m ∙ t.same_from n m in
    let holds_there = holds fd (usable_declared v c fd usable).0 s.source t.source s.origin t.origin s.is_source t.is_source s.has_all t.has_all s.there t.there in
    let to : agree_on fd.to.bits left s.origin right t.origin ≡ true = sym holds_there ∙ to_agree fd.from.bits left s.origin right t.origin sources in
    s.same_to attribute at ∙ from_agree fd.to.bits left s.origin right t.origin to attribute at ∙ sym (t.same_to attribute at)

-- ---- by the names of attributes

module _ (v : View) (valid : IsValid v) (c : ℕ) (there : c < length v.components) (program : Program) (has : program_of v c ≡ Some program) where
  abbrev columns : ℕ → List Name
  columns p = columns_at program p

  port_set : (p : ℕ) → (port_attrs v c p).bits ≡ set_of_roots (attribute_roots v.attributes (columns p))
  port_set p = numbers_are_roots (port_at v c p).columns ∙ ap set_of_roots (port_is v valid c there program has p)

  -- a port of the program has the attributes of the view's port
  pub has_attribute_is : (p a : ℕ) → meets (bit_of a) (port_attrs v c p).bits ≡ true → has_attribute v.attributes (columns p) a ≡ true
  has_attribute_is p a h =
      let roots = attribute_roots v.attributes (columns p) in
      any_from_Has (are_same (Some a)) (Some a) roots (in_roots roots a (subst (λ (s : ℕ). meets (bit_of a) s ≡ true) (port_set p) h)) (eq-eqb a a refl)

  pub is_has_attribute : (p a : ℕ) → has_attribute v.attributes (columns p) a ≡ true → meets (bit_of a) (port_attrs v c p).bits ≡ true
  is_has_attribute p a h =
      let roots = attribute_roots v.attributes (columns p) in
      let m = Has-from_any (are_same (Some a)) roots h in
      let small : a < 64 = (let lt = attribute_within v.attributes (columns p) a h in let few : length v.attributes ≤ 64 = valid.numbered.few_attributes in omega (arith, lt, few)) in
      subst (λ (s : ℕ). meets (bit_of a) s ≡ true) (sym (port_set p)) (in_columns roots a small (subst (λ (o : Option ℕ). Has o roots) (sym (flip m.0 m.2)) m.1))
    where
      flip : (o : Option ℕ) → are_same (Some a) o ≡ true → Some a ≡ o
      flip None e = cc
      flip (Some b) e = ap Some (eqb-true a b e)

  -- the value in an attribute that a port has
  pub value_is : (p a : ℕ) (r : Row) → has_attribute v.attributes (columns p) a ≡ true → value_in v.attributes (columns p) r a ≡ value_at (port_roots v c p) r a
  value_is p a r h =
      value_in_is v.attributes valid.numbered.attribute_names (columns p) r a (attribute_within v.attributes (columns p) a h)
      ∙ ap (λ (z : Roots). value_at z r a) (sym (port_is v valid c there program has p))

  -- a port has all of a set
  has_all : (p set : ℕ) → within set (port_attrs v c p).bits ≡ true → (a : ℕ) → meets (bit_of a) set ≡ true → has_attribute v.attributes (columns p) a ≡ true
  has_all p set inside a h = has_attribute_is p a (in-within a set (port_attrs v c p).bits (member_small a set h) h inside)

  all_within : (p set : ℕ) → set < 2 ^ 64 → ((a : ℕ) → meets (bit_of a) set ≡ true → has_attribute v.attributes (columns p) a ≡ true) → within set (port_attrs v c p).bits ≡ true
  all_within p set lt each = within_by_members set (port_attrs v c p).bits lt (λ a h. is_has_attribute p a (each a (from_members set a h).1))

-- a port to which a record was sent has a stream
pub sent_has_stream : (v : View) (d : Data) (x : Execution) (c p : ℕ) (r : Row) → IsSentTo v d x c p r → has_stream v c p ≡ true
sent_has_stream v d x c p r sent = has_some v c p sent.stream (record { stands = sent.within; goes = sent.goes })

pub keyed_law : KeyedLaw
keyed_law v d x c program nows is_used key h holds there has sent keys = record {
  keyed = λ a. all_from (has_attribute v.attributes (columns_at program a.port)) key (λ n stands.
      has_attribute_is v h.valid c there program has a.port n (keys a.port n a.used (streams a) stands));
  whole = λ a fd usable from.
      let sides = h.valid.numbered.sides fd (usable_declared v c fd usable).0 in
      has_all v h.valid c there program has a.port fd.to.bits (whole_law v c a.port fd h.valid (streams a) usable (all_within v h.valid c there program has a.port fd.from.bits sides.0 from));
  hold = λ a b fd usable from_a to_a from_b to_b agree n at.
      let sides = h.valid.numbered.sides fd (usable_declared v c fd usable).0 in
      let inside : (p set : ℕ) → set < 2 ^ 64 → ((k : ℕ) → meets (bit_of k) set ≡ true → has_attribute v.attributes (columns_at program p) k ≡ true) → within set (port_attrs v c p).bits ≡ true = all_within v h.valid c there program has in
      let value : (p k : ℕ) (r : Row) → has_attribute v.attributes (columns_at program p) k ≡ true → value_in v.attributes (columns_at program p) r k ≡ value_at (port_roots v c p) r k = value_is v h.valid c there program has in
      let both_a = and_from (within fd.from.bits (port_attrs v c a.port).bits) (within fd.to.bits (port_attrs v c a.port).bits) (inside a.port fd.from.bits sides.0 from_a) (inside a.port fd.to.bits sides.1 to_a) in
      let both_b = and_from (within fd.from.bits (port_attrs v c b.port).bits) (within fd.to.bits (port_attrs v c b.port).bits) (inside b.port fd.from.bits sides.0 from_b) (inside b.port fd.to.bits sides.1 to_b) in
      let same = joint_law v d x c a.port b.port fd a.row b.row h holds usable (sent a.now a.port a.row a.came a.stands) (sent b.now b.port b.row b.came b.stands) both_a both_b
      (λ k m. sym (value a.port k a.row (from_a k m)) ∙ agree k m ∙ value b.port k b.row (from_b k m)) n at in
      value a.port n a.row (to_a n at) ∙ same ∙ sym (value b.port n b.row (to_b n at));
}
  where
    streams : (a : Arriving program nows is_used) → has_stream v c a.port ≡ true
    streams a = sent_has_stream v d x c a.port a.row (sent a.now a.port a.row a.came a.stands)
