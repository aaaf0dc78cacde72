-- A copy of a module for a bucket makes of all records what the module makes of the records of the bucket.
use Rattle.std.proofs.Common.{◌≡◌, ◌<◌, ◌++◌, ◌+◌, ℕ, Bool, true, false, if◌then◌else◌, cond, Option, None, Some, List, [], ◌∷◌, length, map, get_or, refl, ap, ◌∙◌, sym, subst, inl, inr, arith}
use Rattle.std.specs.Prelude.{◌==◌}
use Rattle.std.specs.List.{enumerate_from}
use Rattle.std.specs.Option.{option_map, option_map_or}
use Rattle.std.specs.Str.{bytes_eq}
use Rattle.std.proofs.lemmas.Bool.{cases_Bool, true≢false}
use Rattle.std.proofs.lemmas.List.{get_or-map}
use Rattle.std.proofs.lemmas.List.FromFn.{get_or-enumerate_from}
use Rattle.blz_value.specs.Groups.{group_rows, at_least_rows}
use Rattle.blz_value.specs.Members.{Has}
use Rattle.blz_value.specs.Operators.{select_rows, project_rows, join_rows, notin_rows}
use Rattle.blz_value.specs.Record.{Row}
use Rattle.blz_value.specs.Sets.{set_of}
use Rattle.blz_value.proofs.Membership.{Has-map, Has-from_map, Has-filter, Has-from_filter, Has-flat_map, Has-from_flat_map}
use Rattle.blz_value.proofs.SetLaws.{Has-set_of, Has-from_set_of}
use Rattle.bloom_forms.specs.declared.module.Kind.{Kind}
use Rattle.bloom_forms.specs.declared.module.Kind.TheVariants.{Input, Output, Table, Scratch}
use Rattle.bloom_forms.specs.declared.module.Collection.{Collection}
use Rattle.bloom_forms.specs.declared.program.Program.TheVariants.{Module}
use Rattle.bloom_forms.specs.Checks.{IsChecked}
use Rattle.bloom_forms.specs.Columns.{columns_of, pair_numbers, joined_columns}
use Rattle.bloom_forms.specs.Equations.{Env, Solves, end_env, set_named, rules_of}
use Rattle.bloom_forms.specs.Form.{RuleForm, Accepted}
use Rattle.bloom_forms.specs.Heads.{names_of, HasRule, InOrder, IsOrdered}
use Rattle.bloom_forms.specs.Kinds.{has_kind, is_input, place_in_kind}
use Rattle.bloom_forms.specs.Lookup.{collection_named, collection_number, kind_of, declared}
use Rattle.bloom_forms.specs.Program.{columns_of_kind, port_columns}
use Rattle.bloom_forms.specs.ProgramStep.{answer_of, empty_tables}
use Rattle.bloom_forms.specs.Query.{Name, Formula, Query}
use Rattle.bloom_forms.specs.Query.Query.{base, select, project, join, notin, group, at_least}
use Rattle.bloom_forms.specs.Rows.{formula_holds, item_numbers, column_numbers, numbered_agg, row_bound, rows_of}
use Rattle.bloom_forms.specs.Step.{Sets, set_at, ended, rules_at, union_of, ruled_at, at_end, sets_of_kind}
use Rattle.bloom_forms.specs.KindNumbers.{number_in_kind}
use Rattle.bloom_forms.proofs.Ends.Equated.{ends, end_solves, one_solution, length-at_end}
use Rattle.bloom_forms.proofs.Collections.Numbers.{get-number, kind-number, derived_or, set-of_kind}
use Rattle.bloom_forms.proofs.Collections.KindNumbersLemmas.{columns-of_kind, place_within, number_at_place, kind_self, at_place, output_within}
use Rattle.bloom_forms.specs.Classes.{columns_at}
use Rattle.bloom_forms.specs.Runs.{output_rows}
use Rattle.bloom_forms.specs.Shards.{over_bucket, copied_rule, copied}
use Rattle.bloom_forms.proofs.Split.ClassesLemmas.{length-enumerate}
use Rattle.bloom_forms.proofs.Rows.Outputs.{from_output, in_output_there}

-- How the proof goes.
-- The copy has the same collections, so the same order of heads (ordered).
-- A port under `select` has the rows of the port in the bucket.
-- So the step of the module over the bucket solves the equations of the copy's step (mixed_solves).
-- They have one solution, so the two agree on all that isn't a port.
-- The rows of an output in the copy are then those of the module over the bucket.

-- ---- expressions

module _ (cs : List Collection) (test : Formula) where
  abbrev columns : Name → List Name
  columns = declared cs

  same_names : (q : Query) → names_of (over_bucket cs test q) ≡ names_of q
  same_names (base name) = elim (cases_Bool (has_kind is_input cs name)) [ inl t ↦ rw t refl | inr f ↦ rw f refl ]
  same_names (select q f) = same_names q
  same_names (project q items) = same_names q
  same_names (join a b pairs) = λ i. same_names a i ++ same_names b i
  same_names (notin a b pairs) = λ i. same_names a i ++ same_names b i
  same_names (group q keys agg name) = same_names q
  same_names (at_least q keys bound) = same_names q

  same_columns : (q : Query) → columns_of columns (over_bucket cs test q) ≡ columns_of columns q
  same_columns (base name) = elim (cases_Bool (has_kind is_input cs name)) [ inl t ↦ rw t refl | inr f ↦ rw f refl ]
  same_columns (select q f) = same_columns q
  same_columns (project q items) = refl
  same_columns (join a b pairs) = λ i. joined_columns (same_columns a i) (same_columns b i) pairs
  same_columns (notin a b pairs) = same_columns a
  same_columns (group q keys agg name) = refl
  same_columns (at_least q keys bound) = refl

  -- what a copy names holds all rows of ports, and what the module names those that pass the test
  module _ (env other : Env) (ports : (n : Name) → has_kind is_input cs n ≡ true → other n ≡ set_of (select_rows (formula_holds (columns n) test) (env n))) (rest : (n : Name) → has_kind is_input cs n ≡ false → other n ≡ env n) where
    pub same_bucket : (q : Query) → rows_of columns env (over_bucket cs test q) ≡ rows_of columns other q
    same_bucket (base name) = elim (cases_Bool (has_kind is_input cs name)) [ inl t ↦ rw t (sym (ports name t)) | inr f ↦ rw f (sym (rest name f)) ]
    same_bucket (select q f) = λ i. set_of (select_rows (formula_holds (same_columns q i) f) (same_bucket q i))
    same_bucket (project q items) = λ i. set_of (project_rows (item_numbers (same_columns q i) items) (same_bucket q i))
    same_bucket (join a b pairs) = λ i. set_of (join_rows (pair_numbers (same_columns a i) (same_columns b i) pairs) (same_bucket a i) (same_bucket b i))
    same_bucket (notin a b pairs) = λ i. set_of (notin_rows (pair_numbers (same_columns a i) (same_columns b i) pairs) (same_bucket a i) (same_bucket b i))
    same_bucket (group q keys agg name) = λ i. set_of (group_rows (column_numbers (same_columns q i) keys) (numbered_agg (same_columns q i) agg) (same_bucket q i))
    same_bucket (at_least q keys bound) = λ i. set_of (at_least_rows (column_numbers (same_columns q i) keys) (row_bound bound) (same_bucket q i))

    -- so are the rows of the rules of a name
    pub same_unions : (name : Name) (rules : List RuleForm)
        → union_of columns env (rules_of (map (copied_rule cs test) rules) name) ≡ union_of columns other (rules_of rules name)
    same_unions name [] = refl
    same_unions name (rule ∷ rules) = go (bytes_eq rule.0 name) (same_unions name rules)
      where
        go : (b : Bool)
            → union_of columns env (rules_of (map (copied_rule cs test) rules) name) ≡ union_of columns other (rules_of rules name)
            → union_of columns env (cond b (copied_rule cs test rule ∷ rules_of (map (copied_rule cs test) rules) name) (rules_of (map (copied_rule cs test) rules) name)) ≡ union_of columns other (cond b (rule ∷ rules_of rules name) (rules_of rules name))
        go true e = λ i. same_bucket rule.1 i ++ e i
        go false e = e

-- ---- steps

module _ (a : Accepted) (checked : IsChecked a.form a.heads) (test : Formula) (arriving : Sets) where
  abbrev cs : List Collection
  cs = a.form.collections

  abbrev copy : Accepted
  copy = copied a test

  abbrev start : Sets
  start = empty_tables (Module a)

  -- the records of the bucket
  abbrev pub of_bucket : Sets
  of_bucket = map (λ (place : ℕ × List Name). set_of (select_rows (formula_holds place.1 test) (set_at arriving place.0))) (enumerate_from 0 (port_columns (Module a)))

  pub bucket_at : (port : ℕ) → port < length (port_columns (Module a))
      → set_at of_bucket port ≡ set_of (select_rows (formula_holds (columns_at (Module a) port) test) (set_at arriving port))
  bucket_at port lt =
      let places = enumerate_from 0 (port_columns (Module a)) in
      let kept : ℕ × List Name → List Row = λ place. set_of (select_rows (formula_holds place.1 test) (set_at arriving place.0)) in
      let here : port < length places = omega (arith, length-enumerate 0 (port_columns (Module a))) in
      let first : 0 + port ≡ port = omega arith in
      get_or-map kept places port (0, []) [] here ∙ ap kept (get_or-enumerate_from 0 (port_columns (Module a)) port (0, []) lt ∙ ap (λ (k : ℕ). (k, get_or (port_columns (Module a)) port [])) first)

  -- the heads stand in order for the copy too

  own_rule : (h m : ℕ) → HasRule cs copy.form.rules h m → HasRule cs a.form.rules h m
  own_rule h m r =
      let from = Has-from_map (copied_rule cs test) r.rule a.form.rules r.stands in
      let named : names_of r.rule.1 ≡ names_of from.0.1 = ap (λ (rule : RuleForm). names_of rule.1) (sym from.2) ∙ same_names cs test from.0.1 in
      record { rule = from.0; stands = from.1; head = ap (λ (rule : RuleForm). collection_number cs rule.0) from.2 ∙ r.head; name = r.name; read = subst (λ (names : List Name). Has r.name names) named r.read; is = r.is }

  in_order : (heads : List ℕ) → InOrder cs a.form.rules heads → InOrder cs copy.form.rules heads
  in_order [] order = tt
  in_order (h ∷ heads) order = (order.0, (λ m stands r. order.1 m stands (own_rule h m r)), in_order heads order.2)

  ordered : IsOrdered cs copy.form.rules a.heads
  ordered = record { all = checked.ordered.all; none_else = checked.ordered.none_else; order = in_order a.heads checked.ordered.order }

  -- what the collections hold at the end: of the copy, and of the module over the bucket
  abbrev copied_env : Env
  copied_env = end_env copy start arriving

  abbrev bucket_env : Env
  bucket_env = end_env a start of_bucket

  -- the copy's collections, with the bucket at the ports
  abbrev mixed : Env
  mixed name = if has_kind is_input cs name then set_named Input cs of_bucket name else copied_env name

  copied_solves : Solves copy.form (set_named Table cs start) (set_named Input cs arriving) copied_env
  copied_solves = end_solves copy start arriving ordered

  input_kind : (o : Option Kind) → option_map_or is_input o false ≡ true → o ≡ Some Input
  input_kind None e = absurd (true≢false (sym e))
  input_kind (Some Input) e = refl
  input_kind (Some Output) e = absurd (true≢false (sym e))
  input_kind (Some Table) e = absurd (true≢false (sym e))
  input_kind (Some Scratch) e = absurd (true≢false (sym e))

  -- the columns of a port by its name
  named_columns : (n : Name) → kind_of cs n ≡ Some Input
      → columns_at (Module a) (place_in_kind Input cs (collection_number cs n)) ≡ declared cs n
  named_columns n is = go (collection_named cs n) refl is
    where
      go : (o : Option Collection) → collection_named cs n ≡ o → option_map (λ (c : Collection). c.kind) o ≡ Some Input
          → columns_at (Module a) (place_in_kind Input cs (collection_number cs n)) ≡ declared cs n
      go None e none = absurd (let bad : None ≡ Some Input = none in cc)
      go (Some c) e some =
          let kind : c.kind ≡ Input = (let both : Some c.kind ≡ Some Input = some in cc) in
          columns-of_kind Input cs (collection_number cs n) c (get-number cs n ∙ e) (kind_self Input c.kind kind) ∙ sym (ap (λ (o : Option Collection). option_map_or (λ (d : Collection). d.columns) o []) e)

  -- ports hold the bucket, told by names
  port_bucket : (n : Name) → has_kind is_input cs n ≡ true
      → mixed n ≡ set_of (select_rows (formula_holds (declared cs n) test) (copied_env n))
  port_bucket n t =
      let is = input_kind (kind_of cs n) t in
      let k = collection_number cs n in
      let port = place_in_kind Input cs k in
      let lt = place_within Input cs k (kind-number cs n ∙ is) in
      let arrived : copied_env n ≡ set_at arriving port = copied_solves n ∙ ap (λ (o : Option Kind). ended o (set_named Table cs start n) (set_named Input cs arriving n) (union_of (declared cs) copied_env (rules_of copy.form.rules n))) is in
      rw t refl ∙ bucket_at port lt ∙ (λ i. set_of (select_rows (formula_holds (named_columns n is i) test) (sym arrived i)))

  other_same : (n : Name) → has_kind is_input cs n ≡ false → mixed n ≡ copied_env n
  other_same n f = rw f refl

  rows_same : (q : Query) → rows_of (declared cs) copied_env (over_bucket cs test q) ≡ rows_of (declared cs) mixed q
  rows_same q = same_bucket cs test copied_env mixed port_bucket other_same q

  mixed_solves : Solves a.form (set_named Table cs start) (set_named Input cs of_bucket) mixed
  mixed_solves name = go (kind_of cs name) refl
    where
      ruled : List Row
      ruled = union_of (declared cs) mixed (rules_of a.form.rules name)

      copies : (o : Option Kind) → kind_of cs name ≡ o → option_map_or is_input o false ≡ false
          → mixed name ≡ ended o (set_named Table cs start name) (set_named Input cs arriving name) (union_of (declared cs) mixed (rules_of a.form.rules name))
      copies o e f =
          other_same name (ap (λ (p : Option Kind). option_map_or is_input p false) e ∙ f) ∙ copied_solves name
          ∙ (λ i. ended (e i) (set_named Table cs start name) (set_named Input cs arriving name) (same_unions cs test copied_env mixed port_bucket other_same name a.form.rules i))

      go : (o : Option Kind) → kind_of cs name ≡ o
          → mixed name ≡ ended (kind_of cs name) (set_named Table cs start name) (set_named Input cs of_bucket name) (union_of (declared cs) mixed (rules_of a.form.rules name))
      go None e = copies None e refl ∙ sym (ap (λ (o : Option Kind). ended o (set_named Table cs start name) (set_named Input cs of_bucket name) (union_of (declared cs) mixed (rules_of a.form.rules name))) e)
      go (Some Input) e =
          let t : has_kind is_input cs name ≡ true = ap (λ (o : Option Kind). option_map_or is_input o false) e in
          rw t refl ∙ sym (ap (λ (o : Option Kind). ended o (set_named Table cs start name) (set_named Input cs of_bucket name) (union_of (declared cs) mixed (rules_of a.form.rules name))) e)
      go (Some Output) e = copies (Some Output) e refl ∙ sym (ap (λ (o : Option Kind). ended o (set_named Table cs start name) (set_named Input cs of_bucket name) (union_of (declared cs) mixed (rules_of a.form.rules name))) e)
      go (Some Table) e = copies (Some Table) e refl ∙ sym (ap (λ (o : Option Kind). ended o (set_named Table cs start name) (set_named Input cs of_bucket name) (union_of (declared cs) mixed (rules_of a.form.rules name))) e)
      go (Some Scratch) e = copies (Some Scratch) e refl ∙ sym (ap (λ (o : Option Kind). ended o (set_named Table cs start name) (set_named Input cs of_bucket name) (union_of (declared cs) mixed (rules_of a.form.rules name))) e)

  mixed_is : (name : Name) → mixed name ≡ bucket_env name
  mixed_is = one_solution a (set_named Table cs start) (set_named Input cs of_bucket) mixed bucket_env checked.ordered mixed_solves (end_solves a start of_bucket checked.ordered)

  -- an expression of the copy has the rows that the module's has over the bucket
  bucket_rows : (q : Query) → rows_of (declared cs) copied_env (over_bucket cs test q) ≡ rows_of (declared cs) bucket_env q
  bucket_rows q = rows_same q ∙ (let whole : mixed ≡ bucket_env = (λ i name. mixed_is name i) in ap (λ (env : Env). rows_of (declared cs) env q) whole)

  bucket_row : (q : Query) (row : Row) → Has row (rows_of (declared cs) copied_env (over_bucket cs test q))
      → Has row (rows_of (declared cs) bucket_env q)
  bucket_row q row h = subst (λ (rows : List Row). Has row rows) (bucket_rows q) h

  -- ---- outputs

  -- what the copy puts out
  copied_output : (output : ℕ) → output < length (columns_of_kind Output cs)
      → set_at (answer_of (Module copy) arriving) output ≡ set_of (union_of (declared cs) copied_env (rules_at cs copy.form.rules (number_in_kind Output cs output)))
  copied_output output lt =
      let m = at_place Output cs output lt in
      let sets = at_end copy start arriving in
      let same : m.number ≡ number_in_kind Output cs output = sym (number_at_place Output cs m.number m.is) ∙ ap (number_in_kind Output cs) m.stands in
      let found : set_at (sets_of_kind Output cs sets) output ≡ set_at sets m.number = subst (λ (place : ℕ). set_at (sets_of_kind Output cs sets) place ≡ set_at sets m.number) m.stands (set-of_kind Output cs sets m.number (length-at_end copy start arriving) m.is) in
      found ∙ ends copy start arriving ordered m.number (derived_or cs m.number)
      ∙ ap (λ (o : Option Kind). ended o (set_at start (place_in_kind Table cs m.number)) (set_at arriving (place_in_kind Input cs m.number)) (ruled_at copy.form sets m.number)) m.is
      ∙ ap (λ (k : ℕ). set_of (union_of (declared cs) copied_env (rules_at cs copy.form.rules k))) same

  pub from_copy : (output : ℕ) (row : Row) → Has row (set_at (answer_of (Module copy) arriving) output)
      → Has row (output_rows (Module a) output start of_bucket)
  from_copy output row h =
      let lt = output_within cs (at_end copy start arriving) output row h in
      let k = number_in_kind Output cs output in
      let rules = rules_at cs copy.form.rules k in
      let m = Has-from_flat_map (λ (r : RuleForm). rows_of (declared cs) copied_env r.1) row rules (Has-from_set_of row (union_of (declared cs) copied_env rules) (subst (λ (rows : List Row). Has row rows) (copied_output output lt) h)) in
      let kept = Has-from_filter (λ (r : RuleForm). collection_number cs r.0 == k) m.0 copy.form.rules m.1 in
      let from = Has-from_map (copied_rule cs test) m.0 a.form.rules kept.0 in
      let head : (collection_number cs from.0.0 == k) ≡ true = subst (λ (r : RuleForm). (collection_number cs r.0 == k) ≡ true) (sym from.2) kept.1 in
      let there : Has row (rows_of (declared cs) copied_env (over_bucket cs test from.0.1)) = subst (λ (r : RuleForm). Has row (rows_of (declared cs) copied_env r.1)) (sym from.2) m.2 in
      in_output_there a checked output lt start of_bucket row (record {
        rule = from.0;
        of_head = Has-filter (λ (r : RuleForm). collection_number cs r.0 == k) from.0 a.form.rules from.1 head;
        stands = bucket_row from.0.1 row there;
      })

  pub in_copy : (output : ℕ) (row : Row) → Has row (output_rows (Module a) output start of_bucket)
      → Has row (set_at (answer_of (Module copy) arriving) output)
  in_copy output row h =
      let lt = output_within cs (at_end a start of_bucket) output row h in
      let k = number_in_kind Output cs output in
      let rules = rules_at cs copy.form.rules k in
      let f = from_output a checked output start of_bucket row h in
      let kept = Has-from_filter (λ (r : RuleForm). collection_number cs r.0 == k) f.rule a.form.rules f.of_head in
      let of_head : Has (copied_rule cs test f.rule) rules = Has-filter (λ (r : RuleForm). collection_number cs r.0 == k) (copied_rule cs test f.rule) copy.form.rules (Has-map (copied_rule cs test) f.rule a.form.rules kept.0) kept.1 in
      let there : Has row (rows_of (declared cs) copied_env (over_bucket cs test f.rule.1)) = subst (λ (rows : List Row). Has row rows) (sym (bucket_rows f.rule.1)) f.stands in
      subst (λ (rows : List Row). Has row rows) (sym (copied_output output lt)) (Has-set_of row (union_of (declared cs) copied_env rules) (Has-flat_map (λ (r : RuleForm). rows_of (declared cs) copied_env r.1) (copied_rule cs test f.rule) row rules of_head there))
