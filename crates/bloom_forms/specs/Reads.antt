-- What an expression reads, as sets of collection numbers below 64.
use Rattle.std.specs.Prelude.{ℕ, Bool, IsTrue, if◌then◌else◌, List, [], map, bit_or}
use Rattle.std.specs.List.{enumerate_from}
use Rattle.blz_value.specs.Members.{Has}
use Rattle.blz_value.specs.declared.attrs.Fd.{Fd}
use Rattle.blz_value.specs.Bits.{bit_of, meets}
use Rattle.blz_value.specs.Closure.{closure}
use Rattle.bloom_forms.specs.declared.module.Kind.{Kind}
use Rattle.bloom_forms.specs.declared.module.Collection.{Collection}
use Rattle.bloom_forms.specs.declared.facts.Facts.{Facts}
use Rattle.bloom_forms.specs.Form.{RuleForm}
use Rattle.bloom_forms.specs.Kinds.{has_kind, is_input, is_scratch}
use Rattle.bloom_forms.specs.Lookup.{collection_number}
use Rattle.bloom_forms.specs.Query.{Name, Query}
use Rattle.bloom_forms.specs.Query.Query.{base, select, project, join, notin, group, at_least}
use Rattle.blz_value.specs.Arrows.{arrow_from, with_all, bit_if}

-- the set of the one collection of a name
abbrev pub set_of_name : List Collection → Name → ℕ
set_of_name cs name = bit_of (collection_number cs name)

-- the collections that stand in an expression
abbrev pub named : List Collection → Query → ℕ
named cs (base name) = set_of_name cs name
named cs (select q f) = named cs q
named cs (project q items) = named cs q
named cs (join a b pairs) = bit_or (named cs a) (named cs b)
named cs (notin a b pairs) = bit_or (named cs a) (named cs b)
named cs (group q keys agg name) = named cs q
named cs (at_least q keys bound) = named cs q

-- who reads a rule's head reads what its body names
abbrev pub arrow : List Collection → RuleForm → Fd
arrow cs r = arrow_from (set_of_name cs r.0) (named cs r.1)

abbrev pub arrows : List Collection → List RuleForm → List Fd
arrows cs rules = map (arrow cs) rules

-- the same through scratches alone: other heads lead to nothing
abbrev pub scratch_arrow : List Collection → RuleForm → Fd
scratch_arrow cs r = arrow_from (set_of_name cs r.0) (if has_kind is_scratch cs r.0 then named cs r.1 else 0)

abbrev pub scratch_arrows : List Collection → List RuleForm → List Fd
scratch_arrows cs rules = map (scratch_arrow cs) rules

-- the collections that an expression names, and those that their rules read, and so on
abbrev pub cone : List Collection → List RuleForm → Query → ℕ
cone cs rules q = closure (named cs q) (arrows cs rules)

-- what an expression reads: the collections that it names, and those that the rules of named scratches read, and so on
abbrev pub direct : List Collection → List RuleForm → Query → ℕ
direct cs rules q = closure (named cs q) (scratch_arrows cs rules)

-- the collections whose kind passes the test
abbrev pub kind_set : (Kind → Bool) → List Collection → ℕ
kind_set test cs = with_all 0 (map (λ place. bit_if (test place.1.kind) place.0) (enumerate_from 0 cs))

-- an expression is momentary where it reads an input, else table-only
abbrev pub is_momentary : List Collection → List RuleForm → Query → Bool
is_momentary cs rules q = meets (kind_set is_input cs) (direct cs rules q)

-- the same, told the arrows of scratches and the inputs
abbrev pub reads_input : List Collection → List Fd → ℕ → Query → Bool
reads_input cs through inputs q = meets inputs (closure (named cs q) through)

-- the heads that have a momentary rule
abbrev pub momentary_heads : List Collection → List Fd → ℕ → List RuleForm → ℕ
momentary_heads cs through inputs rules = with_all 0 (map (λ r. bit_if (reads_input cs through inputs r.1) (collection_number cs r.0)) rules)

-- what the rules of a module say of its collections
abbrev pub facts_of : List Collection → List RuleForm → Facts
facts_of cs rules = record {
  all = arrows cs rules;
  scratches = scratch_arrows cs rules;
  inputs = record { bits = kind_set is_input cs };
  momentary = record { bits = momentary_heads cs (scratch_arrows cs rules) (kind_set is_input cs) rules };
}

-- what is said where no fact is asked for
abbrev pub no_facts : Facts
no_facts = record { all = []; scratches = []; inputs = record { bits = 0 }; momentary = record { bits = 0 } }

-- what each collection reads through all rules, itself included: who reads another has the greater number
abbrev pub keys_of : List Collection → List Fd → List ℕ
keys_of cs all = map (λ place. closure (bit_of place.0) all) (enumerate_from 0 cs)

-- one of the rules, whose head stands in the expression
pub record NamesRule (cs : List Collection) (rules : List RuleForm) (q : Query) (r : RuleForm) : Type 0 where
  pub stands : Has r rules
  pub named : IsTrue (meets (set_of_name cs r.0) (named cs q))

-- such a rule of a scratch
pub record NamesScratchRule (cs : List Collection) (rules : List RuleForm) (q : Query) (r : RuleForm) : Type 0 where
  pub rule : NamesRule cs rules q r
  pub scratch : IsTrue (has_kind is_scratch cs r.0)
