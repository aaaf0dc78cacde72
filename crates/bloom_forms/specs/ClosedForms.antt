-- Closed forms of good tables and of what feeds them: each is one closure, and none asks for the order of heads.
use Rattle.std.specs.Prelude.{ℕ, ◌&&◌, not, Bool, if◌then◌else◌, List, map}
use Rattle.blz_value.specs.Closure.{closure}
use Rattle.bloom_forms.specs.declared.module.Kind.TheVariants.{Table}
use Rattle.bloom_forms.specs.declared.module.Collection.{Collection}
use Rattle.bloom_forms.specs.Form.{RuleForm}
use Rattle.bloom_forms.specs.Kinds.{same_kind, has_kind}
use Rattle.bloom_forms.specs.Lookup.{collection_number}
use Rattle.bloom_forms.specs.Query.{Query}
use Rattle.bloom_forms.specs.Reads.{arrows, is_momentary}
use Rattle.blz_value.specs.Arrows.{with_all, bit_if}
use Rattle.bloom_forms.specs.Plain.{is_free}
use Rattle.bloom_forms.specs.Good.{tables_read, reads_table}

-- the tables that an expression reads, and all that these read, directly or through others
abbrev pub behind : List Collection → List RuleForm → Query → ℕ
behind cs rules q = closure (tables_read cs rules q) (arrows cs rules)

-- a rule that no good table may have, whatever tables are good: momentary and reads a table, or table-only and not free of group and notin
abbrev pub is_bad_rule : List Collection → List RuleForm → Query → Bool
is_bad_rule cs rules q = if is_momentary cs rules q then reads_table cs rules q else not (is_free cs rules q)

-- a rule of a table that no good table may have
abbrev pub spoils : List Collection → List RuleForm → RuleForm → Bool
spoils cs rules rule = has_kind (same_kind Table) cs rule.0 && is_bad_rule cs rules rule.1

-- the tables with a rule that no good table may have
abbrev pub bad_tables : List Collection → List RuleForm → ℕ
bad_tables cs rules = with_all 0 (map (λ rule. bit_if (spoils cs rules rule) (collection_number cs rule.0)) rules)
