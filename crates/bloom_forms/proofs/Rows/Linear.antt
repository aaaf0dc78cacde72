-- Over the union of some environments a momentary expression has the union of its rows, and any other the same rows as over each.
use Rattle.std.proofs.Common.{◌≡◌, ◌||◌, ◌&&◌, Bool, true, false, List, refl, ap, ◌∙◌, sym, subst, inl, inr, ◌⊎◌}
use Rattle.std.proofs.lemmas.Bool.{cases_Bool, true≢false}
use Rattle.blz_value.specs.Groups.{group_rows, at_least_rows}
use Rattle.blz_value.specs.Members.{Has}
use Rattle.blz_value.specs.Operators.{select_rows, project_rows, join_rows, notin_rows}
use Rattle.blz_value.specs.Record.{Row}
use Rattle.blz_value.specs.Sets.{set_of}
use Rattle.blz_value.proofs.Membership.{Has-append_left, Has-append_right}
use Rattle.blz_value.proofs.OperatorsLemmas.{from_select, in_select, from_project, in_project, from_join, in_join, from_notin, in_notin}
use Rattle.blz_value.proofs.Booleans.{neither}
use Rattle.bloom_forms.specs.Checks.{IsChecked}
use Rattle.bloom_forms.specs.Columns.{columns_of, pair_numbers}
use Rattle.bloom_forms.specs.Equations.{Env}
use Rattle.bloom_forms.specs.Faults.{mixes}
use Rattle.bloom_forms.specs.Form.{Accepted}
use Rattle.bloom_forms.specs.Heads.{names_of}
use Rattle.bloom_forms.specs.Lookup.{declared}
use Rattle.bloom_forms.specs.Query.{Name, Query}
use Rattle.bloom_forms.specs.Query.Query.{base, select, project, join, notin, group, at_least}
use Rattle.bloom_forms.specs.Reads.{facts_of}
use Rattle.bloom_forms.specs.Rows.{formula_holds, item_numbers, column_numbers, numbered_agg, row_bound, rows_of}
use Rattle.bloom_forms.proofs.Reach.MomentaryLemmas.{now, join_now, left_now, right_now}

-- a list has the members of all lists of a family
pub record IsUnionOf {J : Type 0} (each : J → List Row) (whole : List Row) : Type 0 where
  pub some : (row : Row) → Has row whole → (j : J) × Has row (each j)
  pub inside : (j : J) (row : Row) → Has row (each j) → Has row whole

module _ (a : Accepted) (checked : IsChecked a.form a.heads) {J : Type 0} (each : J → Env) (whole : Env) where
  abbrev columns : Name → List Name
  columns = declared a.form.collections

  -- over the whole an expression has the rows of all where it is momentary, and the rows of each where it isn't
  pub record IsLinear (q : Query) : Type 0 where
    pub union : now a checked q ≡ true → IsUnionOf {J = J} (λ j. rows_of columns (each j) q) (rows_of columns whole q)
    pub same : now a checked q ≡ false → (j : J) → rows_of columns (each j) q ≡ rows_of columns whole q

  abbrev mixed : Query → Bool
  mixed q = mixes a.form.collections (facts_of a.form.collections a.form.rules) q

  never_now : {A : Type 0} (q : Query) → now a checked q ≡ false → now a checked q ≡ true → A
  never_now q f t = absurd (true≢false (sym t ∙ f))

  later_parts : (p q : Query) (pairs : List (Name × Name)) → now a checked (join p q pairs) ≡ false
      → (now a checked p ≡ false) × (now a checked q ≡ false)
  later_parts p q pairs f = (
    elim (cases_Bool (now a checked p)) [ inr g ↦ g | inl t ↦ never_now (join p q pairs) f (left_now a checked p q pairs t) ],
    elim (cases_Bool (now a checked q)) [ inr g ↦ g | inl t ↦ never_now (join p q pairs) f (right_now a checked p q pairs t) ],
  )

  pub linear : (q : Query) → mixed q ≡ false → ((n : Name) → Has n (names_of q) → IsLinear (base n)) → IsLinear q
  linear (base n) unmixed parts = parts n (inl refl)
  linear (select q f) unmixed parts =
      let part = linear q unmixed parts in
      let p = formula_holds (columns_of columns q) f in
      record {
        union = λ t. let u = part.union t in record {
          some = λ row h. let m = from_select p (rows_of columns whole q) row h in let s = u.some row m.0 in (s.0, in_select p (rows_of columns (each s.0) q) row s.1 m.1);
          inside = λ j row h. let m = from_select p (rows_of columns (each j) q) row h in in_select p (rows_of columns whole q) row (u.inside j row m.0) m.1;
        };
        same = λ g j. ap (λ (rows : List Row). set_of (select_rows p rows)) (part.same g j);
      }
  linear (project q items) unmixed parts =
      let part = linear q unmixed parts in
      let numbers = item_numbers (columns_of columns q) items in
      record {
        union = λ t. let u = part.union t in record {
          some = λ row h. let m = from_project numbers (rows_of columns whole q) row h in let s = u.some m.source m.stands in (s.0, in_project numbers (rows_of columns (each s.0) q) row (record { source = m.source; stands = s.1; is = m.is }));
          inside = λ j row h. let m = from_project numbers (rows_of columns (each j) q) row h in in_project numbers (rows_of columns whole q) row (record { source = m.source; stands = u.inside j m.source m.stands; is = m.is });
        };
        same = λ g j. ap (λ (rows : List Row). set_of (project_rows numbers rows)) (part.same g j);
      }
  linear (join p q pairs) unmixed parts =
      let numbers = pair_numbers (columns_of columns p) (columns_of columns q) pairs in
      let none = neither (mixed p) (mixed q || (now a checked p && now a checked q)) unmixed in
      let others = neither (mixed q) (now a checked p && now a checked q) none.1 in
      let left = linear p none.0 (λ n h. parts n (Has-append_left n (names_of p) (names_of q) h)) in
      let right = linear q others.0 (λ n h. parts n (Has-append_right n (names_of p) (names_of q) h)) in
      record {
        union = λ t. join_union p q pairs others.1 left right t (cases_Bool (now a checked p)) (cases_Bool (now a checked q));
        same = λ g j. let both = later_parts p q pairs g in
            ap (λ (rows : List Row). set_of (join_rows numbers rows (rows_of columns (each j) q))) (left.same both.0 j) ∙ ap (λ (rows : List Row). set_of (join_rows numbers (rows_of columns whole p) rows)) (right.same both.1 j);
      }
    where
      join_union : (p q : Query) (pairs : List (Name × Name)) → (now a checked p && now a checked q) ≡ false
          → IsLinear p → IsLinear q → now a checked (join p q pairs) ≡ true
          → (now a checked p ≡ true) ⊎ (now a checked p ≡ false) → (now a checked q ≡ true) ⊎ (now a checked q ≡ false)
          → IsUnionOf {J = J} (λ j. rows_of columns (each j) (join p q pairs)) (rows_of columns whole (join p q pairs))
      join_union p q pairs apart left right t (inl x) (inl y) = absurd (let bad : (now a checked p && now a checked q) ≡ true = rw (x, y) refl in true≢false (sym bad ∙ apart))
      join_union p q pairs apart left right t (inr x) (inr y) = absurd (elim (join_now a checked p q pairs t) [ inl z ↦ true≢false (sym z ∙ x) | inr z ↦ true≢false (sym z ∙ y) ])
      join_union p q pairs apart left right t (inl x) (inr y) =
          let numbers = pair_numbers (columns_of columns p) (columns_of columns q) pairs in
          let u = left.union x in let e = right.same y in
          record {
            some = λ row h.
                let m = from_join numbers (rows_of columns whole p) (rows_of columns whole q) row h in
                let s = u.some m.left m.left_stands in
                (s.0, in_join numbers (rows_of columns (each s.0) p) (rows_of columns (each s.0) q) row (record { left = m.left; left_stands = s.1; right = m.right; right_stands = subst (λ (rows : List Row). Has m.right rows) (sym (e s.0)) m.right_stands; agrees = m.agrees; is = m.is }));
            inside = λ j row h.
                let m = from_join numbers (rows_of columns (each j) p) (rows_of columns (each j) q) row h in
                in_join numbers (rows_of columns whole p) (rows_of columns whole q) row (record { left = m.left; left_stands = u.inside j m.left m.left_stands; right = m.right; right_stands = subst (λ (rows : List Row). Has m.right rows) (e j) m.right_stands; agrees = m.agrees; is = m.is });
          }
      join_union p q pairs apart left right t (inr x) (inl y) =
          let numbers = pair_numbers (columns_of columns p) (columns_of columns q) pairs in
          let u = right.union y in let e = left.same x in
          record {
            some = λ row h.
                let m = from_join numbers (rows_of columns whole p) (rows_of columns whole q) row h in
                let s = u.some m.right m.right_stands in
                (s.0, in_join numbers (rows_of columns (each s.0) p) (rows_of columns (each s.0) q) row (record { left = m.left; left_stands = subst (λ (rows : List Row). Has m.left rows) (sym (e s.0)) m.left_stands; right = m.right; right_stands = s.1; agrees = m.agrees; is = m.is }));
            inside = λ j row h.
                let m = from_join numbers (rows_of columns (each j) p) (rows_of columns (each j) q) row h in
                in_join numbers (rows_of columns whole p) (rows_of columns whole q) row (record { left = m.left; left_stands = subst (λ (rows : List Row). Has m.left rows) (e j) m.left_stands; right = m.right; right_stands = u.inside j m.right m.right_stands; agrees = m.agrees; is = m.is });
          }
  linear (notin p q pairs) unmixed parts =
      let numbers = pair_numbers (columns_of columns p) (columns_of columns q) pairs in
      let none = neither (mixed p) (mixed q || now a checked q) unmixed in
      let others = neither (mixed q) (now a checked q) none.1 in
      let left = linear p none.0 (λ n h. parts n (Has-append_left n (names_of p) (names_of q) h)) in
      let right = linear q others.0 (λ n h. parts n (Has-append_right n (names_of p) (names_of q) h)) in
      let e = right.same others.1 in
      record {
        union = λ t. let u = left.union (elim (join_now a checked p q pairs t) [ inl z ↦ z | inr z ↦ never_now q others.1 z ]) in record {
          some = λ row h.
              let m = from_notin numbers (rows_of columns whole p) (rows_of columns whole q) row h in
              let s = u.some row m.stands in
              (s.0, in_notin numbers (rows_of columns (each s.0) p) (rows_of columns (each s.0) q) row (record { stands = s.1; none = λ r stands. m.none r (subst (λ (rows : List Row). Has r rows) (e s.0) stands) }));
          inside = λ j row h.
              let m = from_notin numbers (rows_of columns (each j) p) (rows_of columns (each j) q) row h in
              in_notin numbers (rows_of columns whole p) (rows_of columns whole q) row (record { stands = u.inside j row m.stands; none = λ r stands. m.none r (subst (λ (rows : List Row). Has r rows) (sym (e j)) stands) });
        };
        same = λ g j. let both = later_parts p q pairs g in
            ap (λ (rows : List Row). set_of (notin_rows numbers rows (rows_of columns (each j) q))) (left.same both.0 j) ∙ ap (λ (rows : List Row). set_of (notin_rows numbers (rows_of columns whole p) rows)) (e j);
      }
  linear (group q keys agg name) unmixed parts =
      let none = neither (mixed q) (now a checked q) unmixed in
      let part = linear q none.0 parts in
      record {
        union = λ t. never_now q none.1 t;
        same = λ g j. ap (λ (rows : List Row). set_of (group_rows (column_numbers (columns_of columns q) keys) (numbered_agg (columns_of columns q) agg) rows)) (part.same g j);
      }
  linear (at_least q keys bound) unmixed parts =
      let none = neither (mixed q) (now a checked q) unmixed in
      let part = linear q none.0 parts in
      record {
        union = λ t. never_now q none.1 t;
        same = λ g j. ap (λ (rows : List Row). set_of (at_least_rows (column_numbers (columns_of columns q) keys) (row_bound bound) rows)) (part.same g j);
      }
