-- Each name in a copy is one of its module or the bucket's column, and ports that have a column by their names.
use Rattle.std.proofs.Common.{◌≡◌, ◌⊎◌, ◌&&◌, ◌||◌, Bool, true, false, cond, Some, List, [], ◌∷◌, ◌++◌, map, refl, sym, subst, inl, inr}
use Rattle.std.specs.List.{list_any, flat_map, find}
use Rattle.std.specs.Option.{option_map, option_map_or}
use Rattle.std.specs.Str.{bytes_eq}
use Rattle.std.proofs.lemmas.Bool.{cases_Bool, true≢false}
use Rattle.std.proofs.lemmas.Slice.Eq.{bytes_eq-Decides}
use Rattle.blz_value.specs.Members.{Has}
use Rattle.blz_value.proofs.Membership.{all_member, all_from, Has-append_left, Has-append_right, Has-append_cases}
use Rattle.blz_value.proofs.Booleans.{neither, has_it}
use Rattle.bloom_forms.specs.declared.module.Collection.{Collection}
use Rattle.bloom_forms.specs.Fits.{has_name}
use Rattle.bloom_forms.specs.Form.{RuleForm, Form}
use Rattle.bloom_forms.specs.Kinds.{has_kind, is_input}
use Rattle.bloom_forms.specs.Lookup.{declared, is_named}
use Rattle.bloom_forms.specs.Query.{Name, Formula, Query}
use Rattle.bloom_forms.specs.Query.Query.{base, select, project, join, notin, group, at_least}
use Rattle.bloom_forms.specs.Reserved.{is_own_name, formula_names, pair_names, aggregate_names, query_names, module_names, HasOwnNames}
use Rattle.bloom_forms.specs.Shards.{over_bucket, copied_rule}
use Rattle.shard_route.specs.Copies.{copied_form, is_port_without, lacks_column}
use Rattle.shard_route.specs.Copying.{IsTestOf}

-- ---- a column by its name

second_true : (a b : Bool) → (a || b) ≡ true → a ≡ false → b ≡ true
second_true true b e f = absurd (true≢false f)
second_true false b e f = e

pub has_of_name : (names : List Name) (name : Name) → has_name names name ≡ true → Has name names
has_of_name [] name e = absurd (true≢false (sym e))
has_of_name (held ∷ names) name e = elim (cases_Bool (bytes_eq held name)) [
  | inl t ↦ inl ((bytes_eq-Decides held name).0 t)
  | inr f ↦ inr (has_of_name names name (second_true (bytes_eq held name) (has_name names name) e f))
]

-- each port has the column, told by its name
pub port_has : (column : Name) (cs : List Collection) → list_any (is_port_without column) cs ≡ false → (n : Name) → has_kind is_input cs n ≡ true → has_name (declared cs n) column ≡ true
port_has column [] e n t = absurd (true≢false (sym t))
port_has column (c ∷ cs) e n t = go (is_named n c) (λ f input. port_has column cs f n input) t
  where
    each : (is_port_without column c ≡ false) × (list_any (is_port_without column) cs ≡ false)
    each = neither (is_port_without column c) (list_any (is_port_without column) cs) e

    go : (b : Bool) → (list_any (is_port_without column) cs ≡ false → has_kind is_input cs n ≡ true → has_name (declared cs n) column ≡ true)
        → option_map_or is_input (option_map (λ (d : Collection). d.kind) (cond b (Some c) (find (is_named n) cs))) false ≡ true
        → has_name (option_map_or (λ (d : Collection). d.columns) (cond b (Some c) (find (is_named n) cs)) []) column ≡ true
    go true later input = has_it (is_input c.kind) (has_name c.columns column) each.0 input
    go false later input = later each.1 input

-- so it is a name of the collections
pub column_stands : (column : Name) (cs : List Collection) → list_any (is_port_without column) cs ≡ false → (n : Name) → has_kind is_input cs n ≡ true → Has column (flat_map (λ (c : Collection). c.name ∷ c.columns) cs)
column_stands column [] e n t = absurd (true≢false (sym t))
column_stands column (c ∷ cs) e n t = go (is_named n c) (λ f input. column_stands column cs f n input) t
  where
    each : (is_port_without column c ≡ false) × (list_any (is_port_without column) cs ≡ false)
    each = neither (is_port_without column c) (list_any (is_port_without column) cs) e

    go : (b : Bool) → (list_any (is_port_without column) cs ≡ false → has_kind is_input cs n ≡ true → Has column (flat_map (λ (d : Collection). d.name ∷ d.columns) cs))
        → option_map_or is_input (option_map (λ (d : Collection). d.kind) (cond b (Some c) (find (is_named n) cs))) false ≡ true
        → Has column (flat_map (λ (d : Collection). d.name ∷ d.columns) (c ∷ cs))
    go true later input = Has-append_left column (c.name ∷ c.columns) (flat_map (λ (d : Collection). d.name ∷ d.columns) cs) (inr (has_of_name c.columns column (has_it (is_input c.kind) (has_name c.columns column) each.0 input)))
    go false later input = Has-append_right column (c.name ∷ c.columns) (flat_map (λ (d : Collection). d.name ∷ d.columns) cs) (later each.1 input)

-- ---- names of a copy

both_more : (P : Type 0) (x : Name) (xs xs' ys ys' : List Name) → (Has x xs' → Has x xs ⊎ P) → (Has x ys' → Has x ys ⊎ P) → Has x (xs' ++ ys') → Has x (xs ++ ys) ⊎ P
both_more P x xs xs' ys ys' f g h = elim (Has-append_cases x xs' ys' h) [
  | inl a ↦ elim (f a) [ inl own ↦ inl (Has-append_left x xs ys own) | inr p ↦ inr p ]
  | inr b ↦ elim (g b) [ inl own ↦ inl (Has-append_right x xs ys own) | inr p ↦ inr p ]
]

module _ (cs : List Collection) (column : Name) (test : Formula) (is : IsTestOf column test) where
  -- the name is that of the column, and there is a port
  abbrev IsAdded : Name → Type 0
  IsAdded x = (x ≡ column) × ((n : Name) × (has_kind is_input cs n ≡ true))

  widened : (x : Name) (q : Query) → Has x (query_names (over_bucket cs test q)) → Has x (query_names q) ⊎ IsAdded x
  widened x (base name) h = go (has_kind is_input cs name) refl h
    where
      go : (b : Bool) → has_kind is_input cs name ≡ b → Has x (query_names (cond b (select (base name) test) (base name))) → Has x (name ∷ []) ⊎ IsAdded x
      go true t (inl e) = inl (inl e)
      go true t (inr more) = inr (is.names x more, (name, t))
      go false f own = inl own
  widened x (select q f) h = both_more (IsAdded x) x (query_names q) (query_names (over_bucket cs test q)) (formula_names f) (formula_names f) (widened x q) (λ a. inl a) h
  widened x (project q items) h = both_more (IsAdded x) x (query_names q) (query_names (over_bucket cs test q)) (pair_names items) (pair_names items) (widened x q) (λ a. inl a) h
  widened x (join a b pairs) h =
      both_more (IsAdded x) x (query_names a) (query_names (over_bucket cs test a)) (query_names b ++ pair_names pairs) (query_names (over_bucket cs test b) ++ pair_names pairs) (widened x a)
      (both_more (IsAdded x) x (query_names b) (query_names (over_bucket cs test b)) (pair_names pairs) (pair_names pairs) (widened x b) (λ p. inl p)) h
  widened x (notin a b pairs) h =
      both_more (IsAdded x) x (query_names a) (query_names (over_bucket cs test a)) (query_names b ++ pair_names pairs) (query_names (over_bucket cs test b) ++ pair_names pairs) (widened x a)
      (both_more (IsAdded x) x (query_names b) (query_names (over_bucket cs test b)) (pair_names pairs) (pair_names pairs) (widened x b) (λ p. inl p)) h
  widened x (group q keys agg name) h = both_more (IsAdded x) x (query_names q) (query_names (over_bucket cs test q)) (keys ++ (aggregate_names agg ++ name ∷ [])) (keys ++ (aggregate_names agg ++ name ∷ [])) (widened x q) (λ a. inl a) h
  widened x (at_least q keys bound) h = both_more (IsAdded x) x (query_names q) (query_names (over_bucket cs test q)) keys keys (widened x q) (λ a. inl a) h

  abbrev names_of_rule : RuleForm → List Name
  names_of_rule r = r.0 ∷ query_names r.1

  rules_widened : (x : Name) (rules : List RuleForm) → Has x (flat_map names_of_rule (map (copied_rule cs test) rules)) → Has x (flat_map names_of_rule rules) ⊎ IsAdded x
  rules_widened x [] h = absurd h
  rules_widened x (r ∷ rules) h = both_more (IsAdded x) x (names_of_rule r) (names_of_rule (copied_rule cs test r)) (flat_map names_of_rule rules) (flat_map names_of_rule (map (copied_rule cs test) rules)) head (rules_widened x rules) h
    where
      head : Has x (names_of_rule (copied_rule cs test r)) → Has x (names_of_rule r) ⊎ IsAdded x
      head (inl e) = inl (inl e)
      head (inr more) = elim (widened x r.1 more) [ inl own ↦ inl (inr own) | inr added ↦ inr added ]

-- a copy's names may stand in a module
pub own_names : (m : Form) (column : Name) (test : Formula) → IsTestOf column test → lacks_column column m ≡ false → HasOwnNames m → HasOwnNames (copied_form m test)
own_names m column test is ports own = all_from is_own_name (module_names (copied_form m test)) each
  where
    cs : List Collection
    cs = m.collections

    collection_names : List Name
    collection_names = flat_map (λ (c : Collection). c.name ∷ c.columns) cs

    of_rules : List Name
    of_rules = flat_map (λ (r : RuleForm). r.0 ∷ query_names r.1) m.rules

    given : (x : Name) → Has x (module_names m) → is_own_name x ≡ true
    given x h = all_member is_own_name (module_names m) x own h

    added : (x : Name) → IsAdded cs column test is x → is_own_name x ≡ true
    added x a = given x (subst (λ (y : Name). Has y (module_names m)) (sym a.0) (inr (Has-append_left column collection_names of_rules (column_stands column cs ports a.1.0 a.1.1))))

    each : (x : Name) → Has x (module_names (copied_form m test)) → is_own_name x ≡ true
    each x (inl e) = given x (inl e)
    each x (inr more) = elim (Has-append_cases x collection_names (flat_map (λ (r : RuleForm). r.0 ∷ query_names r.1) (map (copied_rule cs test) m.rules)) more) [
      | inl c ↦ given x (inr (Has-append_left x collection_names of_rules c))
      | inr r ↦ elim (rules_widened cs column test is x m.rules r) [
        | inl own_rule ↦ given x (inr (Has-append_right x collection_names of_rules own_rule))
        | inr a ↦ added x a
      ]
    ]
