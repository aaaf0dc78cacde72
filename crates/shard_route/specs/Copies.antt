-- Copies of a module: one for each bucket of a column, with every port under the bucket's test.
use Rattle.std.specs.Prelude.{ℤ, ◌&&◌, not, Bool, nat_lt, List, map}
use Rattle.std.specs.List.{list_any}
use Rattle.bloom_forms.specs.declared.module.Collection.{Collection}
use Rattle.bloom_forms.specs.Bounds.{most_levels, query_levels}
use Rattle.bloom_forms.specs.Fits.{has_name}
use Rattle.bloom_forms.specs.Form.{Form, Accepted}
use Rattle.bloom_forms.specs.HeadOrder.{heads_of}
use Rattle.bloom_forms.specs.Kinds.{is_input}
use Rattle.bloom_forms.specs.Query.{Name, Formula}
use Rattle.bloom_forms.specs.Shards.{copied_rule}
use Rattle.shard_buckets.specs.Buckets.{bucket_tests}

-- the module with each port name in a rule's body under a select by the test
abbrev pub copied_form : Form → Formula → Form
copied_form m test = record { name = m.name; collections = m.collections; rules = map (copied_rule m.collections test) m.rules }

-- it as a module that was checked
abbrev pub copy_of : Accepted → Formula → Accepted
copy_of a test = record { form = copied_form a.form test; heads = heads_of (copied_form a.form test) }

-- the copies for all buckets, in order
abbrev pub copies_of : Accepted → Name → List ℤ → List Accepted
copies_of a column bounds = map (copy_of a) (bucket_tests column bounds)

-- a rule of a module has too many open levels
abbrev pub is_too_deep : Form → Bool
is_too_deep m = list_any (λ r. nat_lt most_levels (query_levels r.1)) m.rules

-- a rule of some copy has
abbrev pub has_deep_copy : Form → List Formula → Bool
has_deep_copy m tests = list_any (λ test. is_too_deep (copied_form m test)) tests

-- a port without the column
abbrev pub is_port_without : Name → Collection → Bool
is_port_without column c = is_input c.kind && not (has_name c.columns column)

-- a port of the module has no column of this name
abbrev pub lacks_column : Name → Form → Bool
lacks_column column m = list_any (is_port_without column) m.collections
