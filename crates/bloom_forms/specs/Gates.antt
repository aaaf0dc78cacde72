-- Gates: the attributes by which all operators that bring records together keep them apart. A set of attributes is one number, whose bit k says that attribute k is in it.
use Rattle.std.specs.Prelude.{ℕ, if◌then◌else◌, Option, None, Some, List, [], ◌∷◌, ◌++◌, map, filter, bit_and}
use Rattle.std.specs.List.{flat_map, enumerate_from}
use Rattle.blz_value.specs.Operators.{Pairs}
use Rattle.blz_value.specs.Bits.{bit_of, meets}
use Rattle.bloom_forms.specs.Columns.{columns_of, pair_numbers}
use Rattle.bloom_forms.specs.Form.{Form}
use Rattle.bloom_forms.specs.Lookup.{declared}
use Rattle.bloom_forms.specs.Query.{Name, Query}
use Rattle.bloom_forms.specs.Query.Query.{base, select, project, join, notin, group, at_least}
use Rattle.bloom_forms.specs.Reads.{set_of_name, cone}
use Rattle.blz_value.specs.Arrows.{with_all}
use Rattle.bloom_forms.specs.Rows.{column_numbers}
use Rattle.bloom_forms.specs.Step.{rules_at}
use Rattle.bloom_forms.specs.Roots.{Roots, root_at, roots_at, are_same, roots_of}
use Rattle.bloom_forms.specs.HeadRoots.{roots_named}

-- the set of a root
abbrev pub root_set : Option ℕ → ℕ
root_set None = 0
root_set (Some attribute) = bit_of attribute

-- the set of some roots
abbrev pub set_of_roots : Roots → ℕ
set_of_roots roots = with_all 0 (map root_set roots)

-- the root of a pair, where both its columns have the same
abbrev pub pair_root : (left right : Roots) → ℕ × ℕ → Option ℕ
pair_root left right pair = if are_same (root_at left pair.0) (root_at right pair.1) then root_at left pair.0 else None

-- the set of the roots of a join's or an antijoin's pairs
abbrev pub pairs_set : Pairs → (left right : Roots) → ℕ
pairs_set pairs left right = set_of_roots (map (pair_root left right) pairs)

-- of each operator that stands in an expression the set of its roots: of a join and an antijoin those of its pairs, of a group and an atleast those of its keys
abbrev pub operator_sets : (Name → List Name) → (Name → Roots) → Query → List ℕ
operator_sets declared env (base name) = []
operator_sets declared env (select q f) = operator_sets declared env q
operator_sets declared env (project q items) = operator_sets declared env q
operator_sets declared env (join a b pairs) = pairs_set (pair_numbers (columns_of declared a) (columns_of declared b) pairs) (roots_of declared env a) (roots_of declared env b) ∷ (operator_sets declared env a ++ operator_sets declared env b)
operator_sets declared env (notin a b pairs) = pairs_set (pair_numbers (columns_of declared a) (columns_of declared b) pairs) (roots_of declared env a) (roots_of declared env b) ∷ (operator_sets declared env a ++ operator_sets declared env b)
operator_sets declared env (group q keys agg name) = set_of_roots (roots_at (roots_of declared env q) (column_numbers (columns_of declared q) keys)) ∷ operator_sets declared env q
operator_sets declared env (at_least q keys bound) = set_of_roots (roots_at (roots_of declared env q) (column_numbers (columns_of declared q) keys)) ∷ operator_sets declared env q

-- the set of all attributes
abbrev pub all_attributes : (names : List Name) → ℕ
all_attributes names = with_all 0 (map (λ place. bit_of place.0) (enumerate_from 0 names))

-- the attributes that are in all of some sets, where `all` are all attributes
abbrev pub in_all : (all : ℕ) → List ℕ → ℕ
in_all all [] = all
in_all all (set ∷ sets) = bit_and set (in_all all sets)

-- the bodies of the rules of each table and scratch that an expression reads, directly or through others
abbrev pub bodies_read : Form → Query → List Query
bodies_read form q = map (λ rule. rule.1) (filter (λ rule. meets (set_of_name form.collections rule.0) (cone form.collections form.rules q)) form.rules)

-- the gate of an expression: the attributes that are in the set of each operator of it and of all that it reads
abbrev pub query_gate : (names : List Name) → Form → (table : List Roots) → Query → ℕ
query_gate names form table q = in_all (all_attributes names) (flat_map (operator_sets (declared form.collections) (roots_named form.collections table)) (q ∷ bodies_read form q))

-- the gate of a head: the attributes that are in the gate of each of its rules
abbrev pub head_gate : (names : List Name) → Form → (table : List Roots) → ℕ → ℕ
head_gate names form table head = in_all (all_attributes names) (map (λ rule. query_gate names form table rule.1) (rules_at form.collections form.rules head))
