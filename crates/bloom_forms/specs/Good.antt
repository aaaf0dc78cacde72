-- Tables whose rows at the end don't depend on the order of arrival.
use Rattle.std.specs.Prelude.{ℕ, ◌&&◌, not, Bool, if◌then◌else◌, List, bit_and, bit_or}
use Rattle.std.specs.List.{list_all, fold}
use Rattle.blz_value.specs.Bits.{bit_of, meets}
use Rattle.blz_value.specs.Closure.{within}
use Rattle.bloom_forms.specs.declared.module.Kind.TheVariants.{Table}
use Rattle.bloom_forms.specs.declared.module.Collection.{Collection}
use Rattle.bloom_forms.specs.Form.{RuleForm, Form, Accepted}
use Rattle.bloom_forms.specs.Kinds.{same_kind}
use Rattle.bloom_forms.specs.Query.{Query}
use Rattle.bloom_forms.specs.Reads.{direct, kind_set, is_momentary}
use Rattle.bloom_forms.specs.Step.{rules_at}
use Rattle.bloom_forms.specs.Plain.{is_free}

-- the tables of a module
abbrev pub all_tables : List Collection → ℕ
all_tables cs = kind_set (same_kind Table) cs

-- the tables that an expression reads
abbrev pub tables_read : List Collection → List RuleForm → Query → ℕ
tables_read cs rules q = bit_and (all_tables cs) (direct cs rules q)

abbrev pub reads_table : List Collection → List RuleForm → Query → Bool
reads_table cs rules q = meets (all_tables cs) (direct cs rules q)

-- all tables that an expression reads are good, where these are
abbrev pub reads_good : List Collection → List RuleForm → (good : ℕ) → Query → Bool
reads_good cs rules good q = within (tables_read cs rules q) good

-- a rule that a good table may have: momentary without reading a table, or table-only over good tables without group and notin
abbrev pub is_good_rule : List Collection → List RuleForm → (good : ℕ) → Query → Bool
is_good_rule cs rules good q = if is_momentary cs rules q then not (reads_table cs rules q) else reads_good cs rules good q && is_free cs rules q

-- each rule of a head is one that a good table may have
abbrev pub has_good_rules : Form → (good : ℕ) → ℕ → Bool
has_good_rules form good head = list_all (λ rule. is_good_rule form.collections form.rules good rule.1) (rules_at form.collections form.rules head)

-- the good tables with a head, if it is one
abbrev pub with_good : Form → (good : ℕ) → ℕ → ℕ
with_good form good head = if meets (bit_of head) (all_tables form.collections) && has_good_rules form good head then bit_or good (bit_of head) else good

-- the good tables, heads taken in the order in which a step takes them
abbrev pub good_tables : Accepted → ℕ
good_tables a = fold (with_good a.form) 0 a.heads
