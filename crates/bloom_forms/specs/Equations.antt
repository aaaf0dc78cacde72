-- One step of a module as equations, over what each collection holds by its name.
use Rattle.std.specs.Prelude.{◌≡◌, List, filter}
use Rattle.std.specs.Str.{bytes_eq}
use Rattle.blz_value.specs.Record.{Row}
use Rattle.bloom_forms.specs.declared.module.Kind.{Kind}
use Rattle.bloom_forms.specs.declared.module.Collection.{Collection}
use Rattle.bloom_forms.specs.Query.{Name}
use Rattle.bloom_forms.specs.Form.{RuleForm, Form, Accepted}
use Rattle.bloom_forms.specs.Lookup.{collection_number, kind_of, declared}
use Rattle.bloom_forms.specs.Kinds.{place_in_kind}
use Rattle.bloom_forms.specs.Step.{Sets, set_at, rows_named, ended, union_of, at_end}

-- what each collection holds
abbrev pub Env : Type 0
Env = Name → List Row

-- of sets for the collections of a kind in declared order, that of the collection of the name
abbrev pub set_named : Kind → List Collection → Sets → Env
set_named kind cs sets name = set_at sets (place_in_kind kind cs (collection_number cs name))

-- what the collections hold at the end of a step
abbrev pub end_env : Accepted → (kept now : Sets) → Env
end_env a kept now = rows_named a.form.collections (at_end a kept now)

-- the rules of a name
abbrev pub rules_of : List RuleForm → Name → List RuleForm
rules_of rules name = filter (λ rule. bytes_eq rule.0 name) rules

-- env is what a step makes of what is kept and what arrives: a port holds what arrives, a table what was kept with the rows of its rules, a scratch and an output the rows of their rules alone, where rules read env
abbrev pub Solves : Form → (kept now env : Env) → Type 0
Solves form kept now env = (name : Name) → env name ≡ ended (kind_of form.collections name) (kept name) (now name) (union_of (declared form.collections) env (rules_of form.rules name))
