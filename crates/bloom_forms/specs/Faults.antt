-- The first fault of a module: kinds come before places, and collections before rules.
use Rattle.std.specs.Prelude.{ℕ, ◌+◌, ◌==◌, ◌&&◌, ◌||◌, not, Bool, false, nat_lt, Option, None, Some, List, [], ◌∷◌, length, take}
use Rattle.std.specs.List.{list_all, list_any, count_by}
use Rattle.std.specs.Option.{option_or}
use Rattle.blz_value.specs.FirstPlace.{first_place}
use Rattle.blz_value.specs.declared.attrs.Fd.{Fd}
use Rattle.blz_value.specs.Bits.{meets}
use Rattle.blz_value.specs.Closure.{closure}
use Rattle.bloom_forms.specs.declared.fault.ModuleFault.{ModuleFault}
use Rattle.bloom_forms.specs.declared.fault.ModuleKind.{ModuleKind}
use Rattle.bloom_forms.specs.declared.fault.ModuleKind.TheVariants as kind
use Rattle.bloom_forms.specs.declared.fault.ModulePlace.TheVariants as place
use Rattle.bloom_forms.specs.declared.module.Collection.{Collection}
use Rattle.bloom_forms.specs.declared.facts.Facts.{Facts}
use Rattle.bloom_forms.specs.Bounds.{passes_bounds}
use Rattle.bloom_forms.specs.Columns.{columns_of}
use Rattle.bloom_forms.specs.Fits.{is_width, repeats, query_fits}
use Rattle.bloom_forms.specs.Form.{RuleForm, Form}
use Rattle.bloom_forms.specs.Heads.{names_of}
use Rattle.bloom_forms.specs.Kinds.{has_kind, is_head, is_readable, is_input, is_output, is_scratch}
use Rattle.bloom_forms.specs.Lookup.{declared, is_named}
use Rattle.bloom_forms.specs.Query.{Query}
use Rattle.bloom_forms.specs.Query.Query.{base, select, project, join, notin, group, at_least}
use Rattle.bloom_forms.specs.Reads.{set_of_name, named, reads_input, facts_of}

-- ---- TooMany

-- the ninth input or output
abbrev pub is_ninth : List Collection → Collection → Bool
is_ninth before c =
    (is_input c.kind && nat_lt 7 (count_by (λ d. is_input d.kind) before))
    || (is_output c.kind && nat_lt 7 (count_by (λ d. is_output d.kind) before))

-- the 33rd collection; more than eight columns or none; the ninth input or output
abbrev pub too_many_collection : List Collection → ℕ → Collection → Bool
too_many_collection cs i c = nat_lt 31 i || (not (is_width (length c.columns)) || is_ninth (take i cs) c)

-- the 65th rule; a text that passes the bounds of the grammar
abbrev pub too_many_rule : ℕ → RuleForm → Bool
too_many_rule i r = nat_lt 63 i || passes_bounds r.1

-- ---- Twice

-- an earlier collection's name; a column twice
abbrev pub twice_collection : List Collection → ℕ → Collection → Bool
twice_collection cs i c = list_any (is_named c.name) (take i cs) || repeats c.columns

-- ---- Unknown

-- the head is no output, table or scratch, or the body names no input, table or scratch
abbrev pub unknown_rule : List Collection → RuleForm → Bool
unknown_rule cs r = not (has_kind is_head cs r.0 && list_all (has_kind is_readable cs) (names_of r.1))

-- ---- Columns

-- an operator doesn't fit, or the body has another number of columns than the head
abbrev pub columns_rule : List Collection → RuleForm → Bool
columns_rule cs r = not (query_fits (declared cs) r.1 && length (columns_of (declared cs) r.1) == length (declared cs r.0))

-- ---- Recursive

-- the head is in the cone of the body, told the arrows of the rules
abbrev pub recursive_rule : List Collection → List Fd → RuleForm → Bool
recursive_rule cs all r = meets (set_of_name cs r.0) (closure (named cs r.1) all)

-- ---- MomentaryMix

abbrev pub reads_now : List Collection → Facts → Query → Bool
reads_now cs f q = reads_input cs f.scratches f.inputs.bits q

-- both parts of a join, the right one of a notin, or that of a group or an atleast is momentary
abbrev pub mixes : List Collection → Facts → Query → Bool
mixes cs f (base n) = false
mixes cs f (select q p) = mixes cs f q
mixes cs f (project q items) = mixes cs f q
mixes cs f (join a b pairs) = mixes cs f a || (mixes cs f b || (reads_now cs f a && reads_now cs f b))
mixes cs f (notin a b pairs) = mixes cs f a || (mixes cs f b || reads_now cs f b)
mixes cs f (group q keys agg name) = mixes cs f q || reads_now cs f q
mixes cs f (at_least q keys bound) = mixes cs f q || reads_now cs f q

-- ---- MixedScratch

-- a table-only rule of a scratch that has a momentary rule too
abbrev pub is_mixed : List Collection → Facts → RuleForm → Bool
is_mixed cs f r = has_kind is_scratch cs r.0 && (not (reads_now cs f r.1) && meets (set_of_name cs r.0) f.momentary.bits)

-- ---- the first fault

-- the collection with this number has a fault of the kind; a kind without a line holds of no collection
abbrev pub bad_collection : ModuleKind → List Collection → ℕ → Collection → Bool
bad_collection kind.TooMany cs i c = too_many_collection cs i c
bad_collection kind.Twice cs i c = twice_collection cs i c
bad_collection k cs i c = false

-- the rule with this number has a fault of the kind, where the facts of the module are these
abbrev pub bad_rule : ModuleKind → List Collection → Facts → ℕ → RuleForm → Bool
bad_rule kind.TooMany cs f i r = too_many_rule i r
bad_rule kind.Twice cs f i r = false
bad_rule kind.Unknown cs f i r = unknown_rule cs r
bad_rule kind.Columns cs f i r = columns_rule cs r
bad_rule kind.Recursive cs f i r = recursive_rule cs f.all r
bad_rule kind.MomentaryMix cs f i r = mixes cs f r.1
bad_rule kind.MixedScratch cs f i r = is_mixed cs f r

-- a fault of the kind at the first of the numbers that is there: of a collection or a rule. Places count from 1
abbrev pub at_places : ModuleKind → Option ℕ → Option ℕ → Option ModuleFault
at_places k (Some i) rule = Some (record { kind = k; place = place.Collection (i + 1) })
at_places k None (Some i) = Some (record { kind = k; place = place.Rule (i + 1) })
at_places k None None = None

-- the fault of the kind at its first place: collections, then rules
abbrev pub kind_fault : Facts → ModuleKind → List Collection → List RuleForm → Option ModuleFault
kind_fault f k cs rules = at_places k (first_place (bad_collection k cs) 0 cs) (first_place (bad_rule k cs f) 0 rules)

-- the fault of the first of these kinds that has one
abbrev pub fault_in : Facts → List ModuleKind → List Collection → List RuleForm → Option ModuleFault
fault_in f [] cs rules = None
fault_in f (k ∷ kinds) cs rules = option_or (kind_fault f k cs rules) (fault_in f kinds cs rules)

-- the kinds after the first, in their order
abbrev pub later_kinds : List ModuleKind
later_kinds = kind.Twice ∷ kind.Unknown ∷ kind.Columns ∷ kind.Recursive ∷ kind.MomentaryMix ∷ kind.MixedScratch ∷ []

-- the first fault of a module
abbrev pub fault_of : Form → Option ModuleFault
fault_of m = fault_in (facts_of m.collections m.rules) (kind.TooMany ∷ later_kinds) m.collections m.rules
