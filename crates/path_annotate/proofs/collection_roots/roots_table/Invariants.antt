-- the heads that are left make the table whole
use Rattle.std.proofs.Common.{◌≡◌, length, drop}
use Rattle.std.specs.List.{fold}
use Rattle.bloom_forms.specs.HeadRoots as spec
use Rattle.path_annotate.proofs.collection_roots.roots_table.Given as goal

abbrev pub invariant-loop-head : goal.invariant-loop-head
invariant-loop-head l = (length l.table.items ≡ length l.checked.form.collections) × (fold (spec.with_head_roots l.checked.form) l.table.items (drop l.head-index l.heads) ≡ spec.roots_table l.names l.checked)
