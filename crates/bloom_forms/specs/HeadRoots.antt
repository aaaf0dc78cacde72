-- Roots of collections: of ports by the names of their columns, of other collections by their rules, heads in the order in which a step takes them.
use Rattle.std.specs.Prelude.{ℕ, if◌then◌else◌, Option, None, List, [], ◌∷◌, map, length, slice_index_or, slice_set}
use Rattle.std.specs.List.{list_all, fold, range_with_len}
use Rattle.blz_value.specs.Names.{place_of}
use Rattle.bloom_forms.specs.declared.module.Collection.{Collection}
use Rattle.bloom_forms.specs.Form.{RuleForm, Form, Accepted}
use Rattle.bloom_forms.specs.Kinds.{is_input}
use Rattle.bloom_forms.specs.Lookup.{collection_number, declared}
use Rattle.bloom_forms.specs.Query.{Name}
use Rattle.bloom_forms.specs.Step.{rules_at}
use Rattle.bloom_forms.specs.Roots.{Roots, root_at, are_same, no_roots, roots_of}

-- the root that all of some rules give the column with the number; without rules there is none
abbrev pub agreed_root : List Roots → ℕ → Option ℕ
agreed_root [] number = None
agreed_root (roots ∷ more) number = if list_all (λ other. are_same (root_at roots number) (root_at other number)) more then root_at roots number else None

-- the roots of some names: a name of an attribute is the root itself
abbrev pub attribute_roots : (names : List Name) → List Name → Roots
attribute_roots names columns = map (place_of names) columns

-- the roots of a collection without rules: a port's columns are attributes, and other columns have none
abbrev pub first_roots : (names : List Name) → Collection → Roots
first_roots names c = if is_input c.kind then attribute_roots names c.columns else no_roots c.columns

-- of the roots of all collections those of one, by its number and by its name
abbrev pub roots_numbered : List Roots → ℕ → Roots
roots_numbered table number = slice_index_or table number []

abbrev pub roots_named : List Collection → List Roots → Name → Roots
roots_named cs table name = roots_numbered table (collection_number cs name)

-- the roots that a rule gives
abbrev pub rule_roots : List Collection → List Roots → RuleForm → Roots
rule_roots cs table rule = roots_of (declared cs) (roots_named cs table) rule.1

-- the roots of a head: each column has the root that all rules of the head give it
abbrev pub head_roots : Form → List Roots → ℕ → Roots
head_roots form table head = map (agreed_root (map (rule_roots form.collections table) (rules_at form.collections form.rules head))) (range_with_len 0 (length (roots_numbered table head)))

abbrev pub with_head_roots : Form → List Roots → ℕ → List Roots
with_head_roots form table head = slice_set table head (head_roots form table head)

-- the roots of all collections by their numbers
abbrev pub roots_table : (names : List Name) → Accepted → List Roots
roots_table names a = fold (with_head_roots a.form) (map (first_roots names) a.form.collections) a.heads
