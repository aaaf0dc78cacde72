-- One step of a module.
use Rattle.std.specs.Prelude.{ℕ, ◌==◌, Option, None, Some, List, [], ◌++◌, map, filter, length, slice_index_or, slice_set}
use Rattle.std.specs.List.{flat_map, fold, zip, range_with_len}
use Rattle.blz_value.specs.Record.{Row}
use Rattle.blz_value.specs.Sets.{set_of}
use Rattle.bloom_forms.specs.declared.module.Kind.{Kind}
use Rattle.bloom_forms.specs.declared.module.Kind.TheVariants.{Input, Output, Table, Scratch}
use Rattle.bloom_forms.specs.declared.module.Collection.{Collection}
use Rattle.bloom_forms.specs.Query.{Name}
use Rattle.bloom_forms.specs.Form.{RuleForm, Form, Accepted}
use Rattle.bloom_forms.specs.Lookup.{collection_number, declared}
use Rattle.bloom_forms.specs.Kinds.{same_kind, kind_at, place_in_kind}
use Rattle.bloom_forms.specs.Rows.{rows_of}

-- sets of rows: of tables, ports or outputs in declared order, or of collections by their numbers
abbrev pub Sets : Type 0
Sets = List (List Row)

-- one of some sets; past the end the empty set
abbrev pub set_at : Sets → ℕ → List Row
set_at sets number = slice_index_or sets number []

-- ---- what a collection holds, by its kind; nothing where there is no collection

-- at the beginning of a step: a port what arrives, a table what was kept, a scratch and an output nothing
abbrev pub begun : Option Kind → (kept now : List Row) → List Row
begun None kept now = []
begun (Some Input) kept now = now
begun (Some Table) kept now = kept
begun (Some Output) kept now = []
begun (Some Scratch) kept now = []

-- at its end: a port what arrives, a table what was kept with the rows of its rules, a scratch and an output the rows of their rules alone
abbrev pub ended : Option Kind → (kept now ruled : List Row) → List Row
ended None kept now ruled = []
ended (Some Input) kept now ruled = now
ended (Some Table) kept now ruled = set_of (kept ++ ruled)
ended (Some Output) kept now ruled = set_of ruled
ended (Some Scratch) kept now ruled = set_of ruled

-- ---- the collections by their numbers

-- the rows of the collection of the name
abbrev pub rows_named : List Collection → Sets → Name → List Row
rows_named cs sets name = set_at sets (collection_number cs name)

-- what a collection holds at the beginning of a step
abbrev pub begun_at : List Collection → (kept now : Sets) → ℕ → List Row
begun_at cs kept now number = begun (kind_at cs number) (set_at kept (place_in_kind Table cs number)) (set_at now (place_in_kind Input cs number))

abbrev pub at_start : List Collection → (kept now : Sets) → Sets
at_start cs kept now = map (begun_at cs kept now) (range_with_len 0 (length cs))

-- the rules of a collection
abbrev pub rules_at : List Collection → List RuleForm → ℕ → List RuleForm
rules_at cs rules number = filter (λ rule. collection_number cs rule.0 == number) rules

-- the rows of all of some rules
abbrev pub union_of : (Name → List Name) → (Name → List Row) → List RuleForm → List Row
union_of columns env rules = flat_map (λ rule. rows_of columns env rule.1) rules

-- the rows that the rules of a head give
abbrev pub ruled_at : Form → Sets → ℕ → List Row
ruled_at form sets head = union_of (declared form.collections) (rows_named form.collections sets) (rules_at form.collections form.rules head)

-- the collections after a head is taken
abbrev pub with_head : Form → Sets → ℕ → Sets
with_head form sets head = slice_set sets head (ended (kind_at form.collections head) (set_at sets head) (set_at sets head) (ruled_at form sets head))

-- the collections at the end of a step: the heads are taken in their order
abbrev pub at_end : Accepted → (kept now : Sets) → Sets
at_end a kept now = fold (with_head a.form) (at_start a.form.collections kept now) a.heads

-- ---- what a step makes

-- the sets of the collections of a kind
abbrev pub sets_of_kind : Kind → List Collection → Sets → Sets
sets_of_kind kind cs sets = map (λ held. held.1) (filter (λ held. same_kind kind held.0.kind) (zip cs sets))

-- the tables after a step
abbrev pub tables_after : Accepted → (kept now : Sets) → Sets
tables_after a kept now = sets_of_kind Table a.form.collections (at_end a kept now)

-- the outputs of a step
abbrev pub outputs_of : Accepted → (kept now : Sets) → Sets
outputs_of a kept now = sets_of_kind Output a.form.collections (at_end a kept now)
