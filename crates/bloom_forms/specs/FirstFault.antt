-- The first fault of a module, by what is read: what reads a port, itself or by scratches, is momentary, and a rule reads all that is in the cone of its body.
use Rattle.std.specs.Prelude.{ℕ, ◌==◌, ◌&&◌, ◌||◌, not, Bool, false, Option, None, List, [], ◌∷◌}
use Rattle.std.specs.List.{list_any}
use Rattle.std.specs.Option.{option_or}
use Rattle.blz_value.specs.FirstPlace.{first_place}
use Rattle.blz_value.specs.Bits.{meets}
use Rattle.bloom_forms.specs.declared.fault.ModuleFault.{ModuleFault}
use Rattle.bloom_forms.specs.declared.fault.ModuleKind.{ModuleKind}
use Rattle.bloom_forms.specs.declared.fault.ModuleKind.TheVariants as kind
use Rattle.bloom_forms.specs.declared.module.Collection.{Collection}
use Rattle.bloom_forms.specs.Faults.{too_many_rule, unknown_rule, columns_rule, bad_collection, at_places, later_kinds}
use Rattle.bloom_forms.specs.Form.{RuleForm, Form}
use Rattle.bloom_forms.specs.Kinds.{has_kind, is_scratch}
use Rattle.bloom_forms.specs.Lookup.{collection_number}
use Rattle.bloom_forms.specs.Query.{Name, Query}
use Rattle.bloom_forms.specs.Query.Query.{base, select, project, join, notin, group, at_least}
use Rattle.bloom_forms.specs.Reads.{set_of_name, cone, is_momentary}

-- Recursive: the head is read by the rule's own body, directly or through other rules
abbrev pub reads_itself : List Collection → List RuleForm → RuleForm → Bool
reads_itself cs rules r = meets (set_of_name cs r.0) (cone cs rules r.1)

-- MomentaryMix: both parts of a join, the right one of a notin, or that of a group or an atleast is momentary
abbrev pub mixes_momentary : List Collection → List RuleForm → Query → Bool
mixes_momentary cs rules (base n) = false
mixes_momentary cs rules (select q p) = mixes_momentary cs rules q
mixes_momentary cs rules (project q items) = mixes_momentary cs rules q
mixes_momentary cs rules (join a b pairs) = mixes_momentary cs rules a || (mixes_momentary cs rules b || (is_momentary cs rules a && is_momentary cs rules b))
mixes_momentary cs rules (notin a b pairs) = mixes_momentary cs rules a || (mixes_momentary cs rules b || is_momentary cs rules b)
mixes_momentary cs rules (group q keys agg name) = mixes_momentary cs rules q || is_momentary cs rules q
mixes_momentary cs rules (at_least q keys bound) = mixes_momentary cs rules q || is_momentary cs rules q

-- a rule of the name is momentary
abbrev pub has_momentary_rule : List Collection → List RuleForm → Name → Bool
has_momentary_rule cs rules name = list_any (λ r. collection_number cs r.0 == collection_number cs name && is_momentary cs rules r.1) rules

-- MixedScratch: a table-only rule of a scratch that has a momentary rule too
abbrev pub is_mixed_scratch : List Collection → List RuleForm → RuleForm → Bool
is_mixed_scratch cs rules r = has_kind is_scratch cs r.0 && (not (is_momentary cs rules r.1) && has_momentary_rule cs rules r.0)

-- the rule with the number has a fault of the kind
abbrev pub is_faulty : ModuleKind → List Collection → List RuleForm → ℕ → RuleForm → Bool
is_faulty kind.TooMany cs rules i r = too_many_rule i r
is_faulty kind.Twice cs rules i r = false
is_faulty kind.Unknown cs rules i r = unknown_rule cs r
is_faulty kind.Columns cs rules i r = columns_rule cs r
is_faulty kind.Recursive cs rules i r = reads_itself cs rules r
is_faulty kind.MomentaryMix cs rules i r = mixes_momentary cs rules r.1
is_faulty kind.MixedScratch cs rules i r = is_mixed_scratch cs rules r

-- the fault of the kind at its first place: collections, then rules
abbrev pub fault_at : ModuleKind → List Collection → List RuleForm → Option ModuleFault
fault_at k cs rules = at_places k (first_place (bad_collection k cs) 0 cs) (first_place (is_faulty k cs rules) 0 rules)

-- the fault of the first of these kinds that has one
abbrev pub fault_among : List ModuleKind → List Collection → List RuleForm → Option ModuleFault
fault_among [] cs rules = None
fault_among (k ∷ kinds) cs rules = option_or (fault_at k cs rules) (fault_among kinds cs rules)

-- the first fault of a module
abbrev pub first_fault : Form → Option ModuleFault
first_fault m = fault_among (kind.TooMany ∷ later_kinds) m.collections m.rules
