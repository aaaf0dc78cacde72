-- Rows of one step are copies of records that arrived in it, or before it for kept rows.
use Rattle.std.proofs.Common.{◌≡◌, ◌<◌, ◌≤◌, ℕ, true, List, [], ◌∷◌, ◌++◌, length, map, slice_get, Option, None, Some, refl, ◌∙◌, sym, subst, ◌⊎◌, inl, inr, arith}
use Rattle.std.specs.Prelude.{◌==◌}
use Rattle.std.specs.List.{list_all, range_with_len}
use Rattle.std.proofs.lemmas.Bool.{cases_lt, eqb-true}
use Rattle.std.proofs.lemmas.List.{get_or_past}
use Rattle.std.proofs.lemmas.List.FromFn.{length-map-range_with_len, get_or-map-range_with_len}
use Rattle.blz_value.specs.Members.{Has}
use Rattle.blz_value.specs.Record.{Row}
use Rattle.blz_value.proofs.Membership.{Has-append_cases, Has-from_filter, Has-map, all_member}
use Rattle.blz_value.proofs.SetLaws.{Has-from_set_of}
use Rattle.blz_value.specs.Bits.{bit_of, meets}
use Rattle.blz_value.specs.Closure.{within, closure, IsLeastClosed}
use Rattle.blz_value.proofs.Members.{in-within}
use Rattle.blz_value.proofs.Least.{closure-least}
use Rattle.blz_value.proofs.Reached.{closed-map, closure-trans}
use Rattle.bloom_forms.proofs.Copies.AttributesLemmas.{same_roots}
use Rattle.bloom_forms.specs.declared.module.Kind.{Kind}
use Rattle.bloom_forms.specs.declared.module.Kind.TheVariants.{Input, Output, Table, Scratch}
use Rattle.bloom_forms.specs.declared.module.Collection.{Collection}
use Rattle.bloom_forms.specs.Form.{RuleForm, Accepted}
use Rattle.bloom_forms.specs.Heads.{names_of, IsOrdered, IsDerived}
use Rattle.bloom_forms.specs.Kinds.{place_in_kind}
use Rattle.bloom_forms.specs.Lookup.{collection_number, declared}
use Rattle.bloom_forms.specs.Query.{Name, Query}
use Rattle.bloom_forms.specs.Reads.{named, arrow, arrows}
use Rattle.bloom_forms.specs.Rows.{rows_of}
use Rattle.bloom_forms.specs.Step.{Sets, set_at, ended, rows_named, rules_at}
use Rattle.bloom_forms.proofs.Collections.Numbers.{get-within}
use Rattle.bloom_forms.proofs.Faults.Ordering.{in_named}
use Rattle.bloom_forms.specs.HeadRoots.{agreed_root, attribute_roots, roots_numbered, roots_named, rule_roots, head_roots, roots_table}
use Rattle.bloom_forms.specs.Roots.{Roots, root_at, are_same, roots_of}
use Rattle.bloom_forms.specs.RootsLaw.{AreRootsOf}
use Rattle.bloom_forms.proofs.Copies.Copying.{AreCopies, IsFull, KeepsRoots, chosen, copies-self, copies-trans, copies-fewer, full-fewer, root-within}
use Rattle.bloom_forms.proofs.Copies.Origins.{IsCopied, copied}
use Rattle.bloom_forms.proofs.Copies.RootsLaw.{table_solves}

-- a row with roots is a copy of a record that arrived at a port, and the port is read through the rules by who reads these collections
pub record IsArrived (names : List Name) (a : Accepted) (all : List Sets) (read : ℕ) (given : Roots) (row : Row) : Type 0 where
  pub number : ℕ
  pub port : Collection
  pub stands : slice_get a.form.collections number ≡ Some port
  pub is_port : port.kind ≡ Input
  pub fed : meets (bit_of number) (closure read (arrows a.form.collections a.form.rules)) ≡ true
  pub now : Sets
  pub came : Has now all
  pub source : Row
  pub arrived : Has source (set_at now (place_in_kind Input a.form.collections number))
  pub are : AreCopies (attribute_roots names port.columns) source given row
  pub full : IsFull given row

-- ---- roots that rules agree on

-- the root of a column that some rules agree on is that which each of them gives
agreed-each : (lists : List Roots) (roots : Roots) (number attribute : ℕ) → Has roots lists → agreed_root lists number ≡ Some attribute → root_at roots number ≡ Some attribute
agreed-each [] roots number attribute h is = absurd h
agreed-each (first ∷ lists) roots number attribute h is =
    let both = chosen (list_all (λ (other : Roots). are_same (root_at first number) (root_at other number)) lists) (root_at first number) attribute is in
    elim h [
      | inl e ↦ subst (λ (r : Roots). root_at r number ≡ Some attribute) e both.1
      | inr m ↦ same_roots (root_at first number) (root_at roots number) attribute (all_member (λ (other : Roots). are_same (root_at first number) (root_at other number)) lists roots both.0 m) both.1
    ]

keeps-numbered : (f : ℕ → Option ℕ) (count : ℕ) (roots : Roots) → ((number attribute : ℕ) → f number ≡ Some attribute → root_at roots number ≡ Some attribute) → KeepsRoots roots (map f (range_with_len 0 count))
keeps-numbered f count roots keeps number attribute is =
    let lt : number < count = omega (arith, root-within (map f (range_with_len 0 count)) number attribute is, length-map-range_with_len f 0 count) in
    keeps number attribute (sym (get_or-map-range_with_len f 0 count number number None lt (omega arith)) ∙ is)

-- ---- sets

set-within : (sets : Sets) (k : ℕ) (row : Row) → Has row (set_at sets k) → k < length sets
set-within sets k row h = elim (cases_lt k (length sets)) [
  | inl lt ↦ lt
  | inr le ↦ absurd (subst (λ (rows : List Row). Has row rows) (get_or_past sets k [] le) h)
]

-- a row at the end of a step arrived, was kept, or comes from a rule
abbrev pub Ended : Option Kind → (kept now ruled : List Row) → Row → Type 0
Ended o kept now ruled row = ((o ≡ Some Input) × Has row now) ⊎ ((o ≡ Some Table) × Has row kept) ⊎ Has row ruled

pub ended-cases : (o : Option Kind) (kept now ruled : List Row) (row : Row) → Has row (ended o kept now ruled) → Ended o kept now ruled row
ended-cases None kept now ruled row h = absurd h
ended-cases (Some Input) kept now ruled row h = inl (refl, h)
ended-cases (Some Table) kept now ruled row h = elim (Has-append_cases row kept ruled (Has-from_set_of row (kept ++ ruled) h)) [ inl k ↦ inr (inl (refl, k)) | inr r ↦ inr (inr r) ]
ended-cases (Some Output) kept now ruled row h = inr (inr (Has-from_set_of row ruled h))
ended-cases (Some Scratch) kept now ruled row h = inr (inr (Has-from_set_of row ruled h))

-- ---- one step

module _ (names : List Name) (a : Accepted) (all : List Sets) (few : length a.form.collections ≤ 32) where
  -- a copy, and what is read where the first sets are
  arrived_on : (read more : ℕ) (given other : Roots) (row copy : Row) → IsArrived names a all read given row
      → ((n : ℕ) → n < 64 → meets (bit_of n) (closure read (arrows a.form.collections a.form.rules)) ≡ true → meets (bit_of n) (closure more (arrows a.form.collections a.form.rules)) ≡ true)
      → AreCopies given row other copy → IsFull other copy → IsArrived names a all more other copy
  arrived_on read more given other row copy arrived inside are full = record {
    number = arrived.number;
    port = arrived.port;
    stands = arrived.stands;
    is_port = arrived.is_port;
    fed = inside arrived.number (omega (arith, get-within a.form.collections arrived.number arrived.port arrived.stands, few)) arrived.fed;
    now = arrived.now;
    came = arrived.came;
    source = arrived.source;
    arrived = arrived.arrived;
    are = copies-trans (attribute_roots names arrived.port.columns) arrived.source given row other copy arrived.are are;
    full = full;
  }

  -- each row of the collection with the number is a copy of a record that arrived
  abbrev pub HasArrived : Sets → ℕ → Type 0
  HasArrived sets k = (row : Row) → Has row (set_at sets k) → IsArrived names a all (bit_of k) (roots_numbered (roots_table names a) k) row

  -- the rows of an expression, where those of the collections that it names are
  pub query_arrived : (sets : Sets) → length sets ≡ length a.form.collections → (q : Query) → ((n : Name) → Has n (names_of q) → HasArrived sets (collection_number a.form.collections n))
      → (row : Row) → Has row (rows_of (declared a.form.collections) (rows_named a.form.collections sets) q)
      → IsArrived names a all (named a.form.collections q) (roots_of (declared a.form.collections) (roots_named a.form.collections (roots_table names a)) q) row
  query_arrived sets same q arrived row h =
      let cs = a.form.collections in
      let through = arrows cs a.form.rules in
      let roots = roots_named cs (roots_table names a) in
      let from : IsCopied (rows_named cs sets) roots (names_of q) (roots_of (declared cs) roots q) row = copied (declared cs) (rows_named cs sets) roots q (λ n m r stands. (arrived n m r stands).full) row h in
      let number = collection_number cs from.name in
      let small : number < 64 = omega (arith, set-within sets number from.source from.stands, same, few) in
      let least : IsLeastClosed (named cs q) through (closure (named cs q) through) = closure-least (named cs q) through in
      let there : meets (bit_of number) (closure (named cs q) through) ≡ true = in-within number (named cs q) (closure (named cs q) through) small (in_named cs q from.name from.named small) least.contains in
      arrived_on (bit_of number) (named cs q) (roots from.name) (roots_of (declared cs) roots q) from.source row (arrived from.name from.named from.source from.stands)
      (λ n lt fed. closure-trans through (named cs q) number n lt there fed) from.are from.full

  -- the rows of a rule, with the roots of its head
  pub rule_arrived : IsOrdered a.form.collections a.form.rules a.heads → (h : ℕ) → IsDerived a.form.collections h → (rule : RuleForm) → Has rule (rules_at a.form.collections a.form.rules h)
      → (row : Row) → IsArrived names a all (named a.form.collections rule.1) (rule_roots a.form.collections (roots_table names a) rule) row
      → IsArrived names a all (named a.form.collections rule.1) (roots_numbered (roots_table names a) h) row
  rule_arrived ordered h derived rule of_head row arrived =
      let cs = a.form.collections in
      let table = roots_table names a in
      let rules = rules_at cs a.form.rules h in
      let given = rule_roots cs table rule in
      let solves : AreRootsOf names a.form table = table_solves names a ordered in
      let agreed : KeepsRoots given (head_roots a.form table h) =
      keeps-numbered (agreed_root (map (rule_roots cs table) rules)) (length (roots_numbered table h)) given
      (λ number attribute is. agreed-each (map (rule_roots cs table) rules) given number attribute (Has-map (rule_roots cs table) rule rules of_head) is)
      in
      let keeps : KeepsRoots given (roots_numbered table h) = subst (λ (roots : Roots). KeepsRoots given roots) (sym (solves.heads h derived)) agreed in
      arrived_on (named cs rule.1) (named cs rule.1) given (roots_numbered table h) row row arrived (λ n lt fed. fed) (copies-fewer given (roots_numbered table h) row keeps) (full-fewer given (roots_numbered table h) row arrived.full keeps)

  -- the rows of a rule as rows of its head
  pub head_arrived : (h : ℕ) (rule : RuleForm) (given : Roots) (row : Row) → Has rule (rules_at a.form.collections a.form.rules h) → IsArrived names a all (named a.form.collections rule.1) given row → IsArrived names a all (bit_of h) given row
  head_arrived h rule given row of_head arrived =
      let cs = a.form.collections in
      let through = arrows cs a.form.rules in
      let member = Has-from_filter (λ (r : RuleForm). collection_number cs r.0 == h) rule a.form.rules of_head in
      let head : collection_number cs rule.0 ≡ h = eqb-true (collection_number cs rule.0) h member.1 in
      let own : IsLeastClosed (bit_of h) through (closure (bit_of h) through) = closure-least (bit_of h) through in
      let fires : within (bit_of (collection_number cs rule.0)) (closure (bit_of h) through) ≡ true = rw head own.contains in
      let whole : within (named cs rule.1) (closure (bit_of h) through) ≡ true = closed-map (arrow cs) a.form.rules (closure (bit_of h) through) own.closed rule member.0 fires in
      let least : IsLeastClosed (named cs rule.1) through (closure (named cs rule.1) through) = closure-least (named cs rule.1) through in
      let inside : within (closure (named cs rule.1) through) (closure (bit_of h) through) ≡ true = least.least (closure (bit_of h) through) whole own.closed in
      arrived_on (named cs rule.1) (bit_of h) given given row row arrived (λ n lt fed. in-within n (closure (named cs rule.1) through) (closure (bit_of h) through) lt fed inside) (copies-self given row) arrived.full
