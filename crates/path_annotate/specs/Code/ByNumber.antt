-- What an expression by numbers says: the same as the expression by names.
use Rattle.std.specs.Prelude.{ℕ, ◌&&◌, ◌==◌, Bool, true, false, None, List, [], ◌∷◌, ◌++◌, map, filter, length, bit_and, bit_or}
use Rattle.std.specs.List.{range_with_len}
use Rattle.blz_value.specs.Bits.{bit_of}
use Rattle.bloom_forms.specs.declared.numbered.NumberedExpr.{NumberedExpr, Base, Select', Project', Join', NotIn', Group', AtLeast'}
use Rattle.bloom_forms.specs.declared.numbered.NumberedRule.{NumberedRule}
use Rattle.bloom_forms.specs.Gates.{pairs_set, set_of_roots}
use Rattle.bloom_forms.specs.HeadRoots.{roots_numbered, agreed_root}
use Rattle.path_facts.specs.declared.readings.RuleFacts.{RuleFacts}
use Rattle.bloom_forms.specs.Roots.{Roots, joined_roots, roots_at}

-- the collections that stand in an expression
abbrev pub named_by : NumberedExpr → ℕ
named_by (Base number) = bit_of number
named_by (Select' p e test) = named_by e
named_by (Project' p e numbers) = named_by e
named_by (Join' p a q b pairs) = bit_or (named_by a) (named_by b)
named_by (NotIn' p a q b pairs) = bit_or (named_by a) (named_by b)
named_by (Group' p e keys agg) = named_by e
named_by (AtLeast' p e keys count) = named_by e

-- no group and no notin stands in it
abbrev pub is_plain_by : NumberedExpr → Bool
is_plain_by (Base number) = true
is_plain_by (Select' p e test) = is_plain_by e
is_plain_by (Project' p e numbers) = is_plain_by e
is_plain_by (Join' p a q b pairs) = is_plain_by a && is_plain_by b
is_plain_by (NotIn' p a q b pairs) = false
is_plain_by (Group' p e keys agg) = false
is_plain_by (AtLeast' p e keys count) = is_plain_by e

-- the roots of its columns, where the collections have these
abbrev pub roots_by : List Roots → NumberedExpr → Roots
roots_by table (Base number) = roots_numbered table number
roots_by table (Select' p e test) = roots_by table e
roots_by table (Project' p e numbers) = roots_at (roots_by table e) numbers
roots_by table (Join' p a q b pairs) = joined_roots pairs (roots_by table a) (roots_by table b)
roots_by table (NotIn' p a q b pairs) = roots_by table a
roots_by table (Group' p e keys agg) = roots_at (roots_by table e) keys ++ None ∷ []
roots_by table (AtLeast' p e keys count) = roots_at (roots_by table e) keys

-- the attributes that are in the set of each of its operators
abbrev pub gate_by : (all : ℕ) → List Roots → NumberedExpr → ℕ
gate_by all table (Base number) = all
gate_by all table (Select' p e test) = gate_by all table e
gate_by all table (Project' p e numbers) = gate_by all table e
gate_by all table (Join' p a q b pairs) = bit_and (pairs_set pairs (roots_by table a) (roots_by table b)) (bit_and (gate_by all table a) (gate_by all table b))
gate_by all table (NotIn' p a q b pairs) = bit_and (pairs_set pairs (roots_by table a) (roots_by table b)) (bit_and (gate_by all table a) (gate_by all table b))
gate_by all table (Group' p e keys agg) = bit_and (set_of_roots (roots_at (roots_by table e) keys)) (gate_by all table e)
gate_by all table (AtLeast' p e keys count) = bit_and (set_of_roots (roots_at (roots_by table e) keys)) (gate_by all table e)

-- what a rule says by itself
abbrev pub facts_by : (all : ℕ) → List Roots → NumberedRule → RuleFacts
facts_by all table rule = record {
  head = rule.head;
  named = record { bits = named_by rule.body };
  is_plain = is_plain_by rule.body;
  gate = record { bits = gate_by all table rule.body };
}

-- the roots of a head
abbrev pub head_roots_by : List Roots → List NumberedRule → ℕ → Roots
head_roots_by table rules head = map (agreed_root (map (λ rule. roots_by table rule.body) (filter (λ rule. rule.head == head) rules))) (range_with_len 0 (length (roots_numbered table head)))
