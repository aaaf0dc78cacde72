-- What the collections hold over given tables: ports what arrives, tables what is given, scratches and outputs the rows of their rules.
use Rattle.std.specs.Prelude.{not, Option, None, Some, List, [], filter}
use Rattle.blz_value.specs.Record.{Row}
use Rattle.blz_value.specs.Sets.{set_of}
use Rattle.bloom_forms.specs.declared.module.Kind.{Kind}
use Rattle.bloom_forms.specs.declared.module.Kind.TheVariants.{Input, Output, Table, Scratch}
use Rattle.bloom_forms.specs.Equations.{Env, end_env}
use Rattle.bloom_forms.specs.Form.{RuleForm, Form, Accepted}
use Rattle.bloom_forms.specs.Kinds.{same_kind, has_kind}
use Rattle.bloom_forms.specs.Step.{Sets}

-- what a collection holds, by its kind; nothing where there is no collection
abbrev pub over : Option Kind → (table arriving ruled : List Row) → List Row
over None table arriving ruled = []
over (Some Input) table arriving ruled = arriving
over (Some Table) table arriving ruled = table
over (Some Output) table arriving ruled = set_of ruled
over (Some Scratch) table arriving ruled = set_of ruled

-- the rules whose heads are no tables
abbrev pub other_rules : Form → List RuleForm
other_rules form = filter (λ rule. not (has_kind (same_kind Table) form.collections rule.0)) form.rules

-- the module without the rules of its tables, so that these stay as they are
abbrev pub without_table_rules : Accepted → Accepted
without_table_rules a = record { form = record { name = a.form.name; collections = a.form.collections; rules = other_rules a.form }; heads = a.heads }

-- what each collection holds over given tables and what arrives
abbrev pub env_over : Accepted → (tables now : Sets) → Env
env_over a tables now = end_env (without_table_rules a) tables now
