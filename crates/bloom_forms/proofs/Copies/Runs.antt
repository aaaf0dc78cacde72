-- In each step of a module all rows are copies of records that arrived in it or before it.
use Rattle.std.proofs.Common.{◌≡◌, ◌<◌, ◌≤◌, ℕ, zero, suc, true, List, [], ◌∷◌, length, get_or, Option, None, Some, refl, ap, ◌∙◌, sym, subst, ◌⊎◌, inl, inr, arith}
use Rattle.std.proofs.lemmas.Bool.{cases_eq}
use Rattle.std.proofs.lemmas.List.{length-map}
use Rattle.blz_value.specs.Members.{Has}
use Rattle.blz_value.specs.Record.{Row}
use Rattle.blz_value.proofs.Membership.{All-of_member, Has-from_flat_map}
use Rattle.blz_value.specs.Bits.{bit_of}
use Rattle.blz_value.specs.Names.{place_of}
use Rattle.blz_value.proofs.Reached.{closure-self}
use Rattle.bloom_forms.specs.declared.module.Kind.{Kind}
use Rattle.bloom_forms.specs.declared.module.Kind.TheVariants.{Input, Output, Table, Scratch}
use Rattle.bloom_forms.specs.Form.{RuleForm, Accepted}
use Rattle.bloom_forms.specs.Heads.{names_of, InOrder, IsOrdered, IsDerived}
use Rattle.bloom_forms.specs.Kinds.{same_kind, kind_at, place_in_kind}
use Rattle.bloom_forms.specs.Lookup.{collection_number, declared}
use Rattle.bloom_forms.specs.Program.{columns_of_kind}
use Rattle.bloom_forms.specs.Query.{Name}
use Rattle.bloom_forms.specs.Reads.{arrows}
use Rattle.bloom_forms.specs.Rows.{rows_of}
use Rattle.bloom_forms.specs.Step.{Sets, set_at, ended, rows_named, rules_at, ruled_at, at_end, tables_after}
use Rattle.bloom_forms.specs.Widths.{AreWide, AreSetsOf}
use Rattle.bloom_forms.proofs.Ends.Equated.{names_none, ends, length-at_end}
use Rattle.bloom_forms.proofs.Collections.Numbers.{get-within, derived_or, derived-no_port, set-of_kind}
use Rattle.bloom_forms.proofs.Collections.KindSets.{get-kind}
use Rattle.bloom_forms.proofs.Collections.KindNumbersLemmas.{columns-of_kind}
use Rattle.bloom_forms.specs.HeadRoots.{attribute_roots, roots_numbered, roots_table}
use Rattle.bloom_forms.specs.Roots.{Roots}
use Rattle.bloom_forms.proofs.Copies.Arrived.{IsArrived, HasArrived, query_arrived, rule_arrived, head_arrived, ended-cases}
use Rattle.bloom_forms.proofs.Copies.Copying.{IsFull, copies-self, root-within}
use Rattle.bloom_forms.proofs.Copies.RootsLaw.{table_solves}

-- ---- ports

pub wide_at : (columns : List (List Name)) (sets : Sets) → AreSetsOf columns sets → (k : ℕ) → AreWide (length (get_or columns k [])) (set_at sets k)
wide_at [] [] wide k = λ i d lt. absurd (omega (arith, lt))
wide_at [] (rows ∷ sets) wide k = absurd wide
wide_at (names ∷ columns) [] wide k = absurd wide
wide_at (names ∷ columns) (rows ∷ sets) wide zero = wide.0
wide_at (names ∷ columns) (rows ∷ sets) wide (suc k) = wide_at columns sets wide.1 k

pub full-attributes : (names columns : List Name) (row : Row) → length row ≡ length columns → IsFull (attribute_roots names columns) row
full-attributes names columns row wide number attribute is = omega (arith, wide, root-within (attribute_roots names columns) number attribute is, length-map columns (place_of names))

pub input_same : (kind : Kind) → kind ≡ Input → same_kind Input kind ≡ true
input_same Input e = refl
input_same Output e = cc
input_same Table e = cc
input_same Scratch e = cc

-- ---- one step

-- each row of a table is a copy of a record that arrived
abbrev pub KeptArrived : (names : List Name) (a : Accepted) → List Sets → Sets → Type 0
KeptArrived names a all kept = (k : ℕ) → kind_at a.form.collections k ≡ Some Table → (row : Row) → Has row (set_at kept (place_in_kind Table a.form.collections k)) → IsArrived names a all (bit_of k) (roots_numbered (roots_table names a) k) row

module _ (names : List Name) (a : Accepted) (all : List Sets) (few : length a.form.collections ≤ 32) (ordered : IsOrdered a.form.collections a.form.rules a.heads)
    (kept now : Sets) (came : Has now all) (wide : AreSetsOf (columns_of_kind Input a.form.collections) now) (old : KeptArrived names a all kept) where
  port_arrived : (k : ℕ) → kind_at a.form.collections k ≡ Some Input → (row : Row) → Has row (set_at now (place_in_kind Input a.form.collections k)) → IsArrived names a all (bit_of k) (roots_numbered (roots_table names a) k) row
  port_arrived k port row h =
      let cs = a.form.collections in
      let c = get-kind cs k Input port in
      let lt : k < 64 = omega (arith, get-within cs k c.0 c.1, few) in
      let columns = columns-of_kind Input cs k c.0 c.1 (input_same c.0.kind c.2) in
      let width : length row ≡ length c.0.columns = All-of_member (λ (r : Row). length r ≡ length (get_or (columns_of_kind Input cs) (place_in_kind Input cs k) [])) (set_at now (place_in_kind Input cs k)) row (wide_at (columns_of_kind Input cs) now wide (place_in_kind Input cs k)) h ∙ ap length columns in
      let solves = table_solves names a ordered in
      subst (λ (roots : Roots). IsArrived names a all (bit_of k) roots row) (sym (solves.ports k c.0 c.1 c.2)) (record {
        number = k;
        port = c.0;
        stands = c.1;
        is_port = c.2;
        fed = closure-self (arrows cs a.form.rules) k lt;
        now = now;
        came = came;
        source = row;
        arrived = h;
        are = copies-self (attribute_roots names c.0.columns) row;
        full = full-attributes names c.0.columns row width;
      })

  -- what is no head
  begun_arrived : (k : ℕ) → ¬ Has k a.heads → HasArrived names a all few (at_end a kept now) k
  begun_arrived k lacks row h = elim (derived_or a.form.collections k) [
    | inl derived ↦ absurd (lacks (ordered.all k derived))
    | inr is ↦ go is (ends a kept now ordered k (inr is))
  ]
    where
      go : (kind_at a.form.collections k ≡ None) ⊎ (kind_at a.form.collections k ≡ Some Input)
          → set_at (at_end a kept now) k ≡ ended (kind_at a.form.collections k) (set_at kept (place_in_kind Table a.form.collections k)) (set_at now (place_in_kind Input a.form.collections k)) (ruled_at a.form (at_end a kept now) k)
          → IsArrived names a all (bit_of k) (roots_numbered (roots_table names a) k) row
      go (inl none) e = absurd (subst (λ (rows : List Row). Has row rows) (e ∙ ap (λ (o : Option Kind). ended o (set_at kept (place_in_kind Table a.form.collections k)) (set_at now (place_in_kind Input a.form.collections k)) (ruled_at a.form (at_end a kept now) k)) none) h)
      go (inr port) e = port_arrived k port row (subst (λ (rows : List Row). Has row rows) (e ∙ ap (λ (o : Option Kind). ended o (set_at kept (place_in_kind Table a.form.collections k)) (set_at now (place_in_kind Input a.form.collections k)) (ruled_at a.form (at_end a kept now) k)) port) h)

  -- a head whose rules name collections with such rows
  head_ends : (h : ℕ) → IsDerived a.form.collections h
      → ((rule : RuleForm) (n : Name) → Has rule (rules_at a.form.collections a.form.rules h) → Has n (names_of rule.1) → HasArrived names a all few (at_end a kept now) (collection_number a.form.collections n))
      → HasArrived names a all few (at_end a kept now) h
  head_ends h derived arrived row stands =
      let cs = a.form.collections in
      let end = at_end a kept now in
      let rules = rules_at cs a.form.rules h in
      let roots = roots_numbered (roots_table names a) h in
      let in_ended = subst (λ (rows : List Row). Has row rows) (ends a kept now ordered h (inl derived)) stands in
      elim (ended-cases (kind_at cs h) (set_at kept (place_in_kind Table cs h)) (set_at now (place_in_kind Input cs h)) (ruled_at a.form end h) row in_ended) [
        | inl port ↦ absurd (derived-no_port cs h derived port.0)
        | inr (inl table) ↦ old h table.0 row table.1
        | inr (inr ruled) ↦
            let m = Has-from_flat_map (λ (rule : RuleForm). rows_of (declared cs) (rows_named cs end) rule.1) row rules ruled in
            let from_rule = rule_arrived names a all few ordered h derived m.0 m.1 row (query_arrived names a all few end (length-at_end a kept now) m.0.1 (λ n read. arrived m.0 n m.1 read) row m.2) in
            head_arrived names a all few h m.0 roots row m.1 from_rule
      ]

  along : (heads : List ℕ) → InOrder a.form.collections a.form.rules heads → ((k : ℕ) → ¬ Has k heads → HasArrived names a all few (at_end a kept now) k) → ((k : ℕ) → Has k heads → IsDerived a.form.collections k)
      → (k : ℕ) → HasArrived names a all few (at_end a kept now) k
  along [] order arrived derived k = arrived k (λ h. h)
  along (h ∷ heads) order arrived derived k = along heads order.2 further (λ j m. derived j (inr m)) k
    where
      head : HasArrived names a all few (at_end a kept now) h
      head = head_ends h (derived h (inl refl)) (λ rule n of_head read. arrived (collection_number a.form.collections n) (names_none a.form h heads order rule n of_head read))

      further : (j : ℕ) → ¬ Has j heads → HasArrived names a all few (at_end a kept now) j
      further j lacks = elim (cases_eq h j) [
        | inl e ↦ subst (λ (i : ℕ). HasArrived names a all few (at_end a kept now) i) e head
        | inr ne ↦ arrived j (λ stands. elim stands [ inl e ↦ ne e | inr m ↦ lacks m ])
      ]

  -- each row at the end of a step
  pub all_arrived : (k : ℕ) → HasArrived names a all few (at_end a kept now) k
  all_arrived = along a.heads ordered.order begun_arrived ordered.none_else

  pub tables_arrived : KeptArrived names a all (tables_after a kept now)
  tables_arrived k is row h = all_arrived k row (subst (λ (rows : List Row). Has row rows) (set-of_kind Table a.form.collections (at_end a kept now) k (length-at_end a kept now) is) h)
