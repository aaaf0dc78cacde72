-- Expressions without group and notin, in themselves and in the scratches that they read.
use Rattle.std.specs.Prelude.{◌&&◌, Bool, true, false, List, filter}
use Rattle.std.specs.List.{list_all}
use Rattle.blz_value.specs.Bits.{meets}
use Rattle.bloom_forms.specs.declared.module.Collection.{Collection}
use Rattle.bloom_forms.specs.Form.{RuleForm}
use Rattle.bloom_forms.specs.Kinds.{has_kind, is_scratch}
use Rattle.bloom_forms.specs.Query.{Query}
use Rattle.bloom_forms.specs.Query.Query.{base, select, project, join, notin, group, at_least}
use Rattle.bloom_forms.specs.Reads.{set_of_name, direct}

-- no group and no notin stands in an expression
abbrev pub is_plain : Query → Bool
is_plain (base name) = true
is_plain (select q f) = is_plain q
is_plain (project q items) = is_plain q
is_plain (join a b pairs) = is_plain a && is_plain b
is_plain (notin a b pairs) = false
is_plain (group q keys agg name) = false
is_plain (at_least q keys bound) = is_plain q

-- the rules of the scratches that an expression reads, directly or through other scratches
abbrev pub scratch_rules_read : List Collection → List RuleForm → Query → List RuleForm
scratch_rules_read cs rules q = filter (λ rule. has_kind is_scratch cs rule.0 && meets (set_of_name cs rule.0) (direct cs rules q)) rules

-- no group and no notin stands in an expression, nor in a scratch that it reads
abbrev pub is_free : List Collection → List RuleForm → Query → Bool
is_free cs rules q = is_plain q && list_all (λ rule. is_plain rule.1) (scratch_rules_read cs rules q)
