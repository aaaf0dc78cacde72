-- Each row of an output, and each row of a table, has as many values as its columns.
use Rattle.std.proofs.Common.{◌≡◌, ◌<◌, ◌+◌, ℕ, pos, Bool, List, [], ◌∷◌, ◌++◌, length, map, get_or, filter, refl, ap, ◌∙◌, sym, subst, inl, inr, arith, length-append}
use Rattle.std.specs.Prelude.{◌==◌}
use Rattle.std.specs.List.{remove, fold, list_any}
use Rattle.std.specs.Ordering.{eq_by_cmp}
use Rattle.std.proofs.lemmas.Bool.{eqb-true}
use Rattle.std.proofs.lemmas.List.Edits.{length-remove}
use Rattle.blz_value.specs.declared.value.Value.{Value}
use Rattle.blz_value.specs.declared.value.Value.TheVariants.{Int}
use Rattle.blz_value.specs.Members.{Has}
use Rattle.blz_value.specs.Operators.{cells}
use Rattle.blz_value.specs.Record.{Row, record_cmp}
use Rattle.blz_value.specs.Sets.{set_of}
use Rattle.blz_value.specs.Test.{cell}
use Rattle.blz_value.proofs.Membership.{Has-from_map, Has-from_filter, Has-from_flat_map, All-of_member}
use Rattle.blz_value.proofs.SetLaws.{Has-from_set_of}
use Rattle.bloom_forms.specs.declared.module.Kind.TheVariants.{Output, Table}
use Rattle.bloom_forms.specs.declared.program.Program.{Program}
use Rattle.bloom_forms.specs.declared.program.Program.TheVariants.{Module, Split, Latest, Number}
use Rattle.bloom_forms.specs.Checks.{IsChecked}
use Rattle.bloom_forms.specs.Columns.{columns_of}
use Rattle.bloom_forms.specs.Form.{RuleForm, Accepted}
use Rattle.bloom_forms.specs.Kinds.{kind_at}
use Rattle.bloom_forms.specs.Lookup.{collection_number, declared}
use Rattle.bloom_forms.specs.Program.{port_columns, output_columns, table_columns}
use Rattle.bloom_forms.specs.ProgramStep.{tables_after_step, outputs_of_step, empty_tables}
use Rattle.bloom_forms.specs.Query.{Name}
use Rattle.bloom_forms.specs.Rows.{rows_of}
use Rattle.bloom_forms.specs.Step.{Sets, set_at, rows_named, rules_at, ruled_at, ended, with_head, at_start, at_end}
use Rattle.bloom_forms.specs.StockSteps.{parts_of, split_row, keys_in_order, latest_kept, numbered, number_kept}
use Rattle.bloom_forms.specs.Widths.{AreWide, AreSetsOf}
use Rattle.bloom_forms.proofs.Ends.Wide.{wide_rows}
use Rattle.bloom_forms.proofs.Ends.StockWidths.{wide_by_rows, row_wide, numbered-wide, number_kept-wide, latest_kept-wide}
use Rattle.bloom_eval.proofs.Widths.{columns_at, none_wide, set_wide, columns-number, wide_named, kinds_wide, are_begun}
use Rattle.bloom_forms.proofs.Copies.Arrived.{ended-cases}
use Rattle.bloom_forms.proofs.Copies.ModuleOrigins.{stays, now_among, earlier_among}
use Rattle.bloom_forms.proofs.Copies.Runs.{wide_at}
use Rattle.bloom_forms.specs.Steps.{tables_after_steps, AreArrivals}
use Rattle.bloom_forms.specs.Proper.{IsProper}
use Rattle.bloom_forms.specs.declared.module.Collection.{Collection}

-- ---- modules

-- one set for each collection, with rows of its width
abbrev AreSetsOfAll : List Collection → Sets → Type 0
AreSetsOfAll collections sets = AreSetsOf (map (λ c. c.columns) collections) sets

module _ (a : Accepted) (checked : IsChecked a.form a.heads) where
  head_wide : (sets : Sets) (h : ℕ) → AreSetsOfAll a.form.collections sets → AreWide (length (columns_at a.form.collections h)) (ended (kind_at a.form.collections h) (set_at sets h) (set_at sets h) (ruled_at a.form sets h))
  head_wide sets h wide =
      let cs = a.form.collections in
      let n = length (columns_at cs h) in
      let old : (r : Row) → Has r (set_at sets h) → length r ≡ n = λ r m. row_wide n (set_at sets h) r (old_wide sets h wide) m in
      wide_by_rows n (ended (kind_at cs h) (set_at sets h) (set_at sets h) (ruled_at a.form sets h))
      (λ r m. elim (ended-cases (kind_at cs h) (set_at sets h) (set_at sets h) (ruled_at a.form sets h) r m) [
        | inl now ↦ old r now.1
        | inr more ↦ elim more [
          | inl kept ↦ old r kept.1
          | inr new ↦
              let env = rows_named cs sets in
              let of_rule = Has-from_flat_map (λ (rule : RuleForm). rows_of (declared cs) env rule.1) r (rules_at cs a.form.rules h) new in
              let rule = of_rule.0 in
              let own = Has-from_filter (λ (q : RuleForm). collection_number cs q.0 == h) rule a.form.rules of_rule.1 in
              row_wide (length (columns_of (declared cs) rule.1)) (rows_of (declared cs) env rule.1) r (wide_rows (declared cs) env (wide_named cs sets wide) rule.1) of_rule.2
              ∙ (checked.rules rule own.0).width
              ∙ ap length (sym (columns-number cs rule.0) ∙ ap (columns_at cs) (eqb-true (collection_number cs rule.0) h own.1))
        ]
      ])
    where
      old_wide : (sets : Sets) (h : ℕ) → AreSetsOfAll a.form.collections sets → AreWide (length (columns_at a.form.collections h)) (set_at sets h)
      old_wide sets h wide = Rattle.bloom_eval.proofs.Widths.wide_at a.form.collections sets wide h

  heads_wide : (heads : List ℕ) (sets : Sets) → AreSetsOfAll a.form.collections sets → AreSetsOfAll a.form.collections (fold (with_head a.form) sets heads)
  heads_wide [] sets wide = wide
  heads_wide (h ∷ heads) sets wide = heads_wide heads (with_head a.form sets h) (set_wide a.form.collections sets h (ended (kind_at a.form.collections h) (set_at sets h) (set_at sets h) (ruled_at a.form sets h)) wide (head_wide sets h wide))

  end_wide : (kept now : Sets) → AreSetsOf (table_columns (Module a)) kept → AreSetsOf (port_columns (Module a)) now → AreSetsOfAll a.form.collections (at_end a kept now)
  end_wide kept now tables ports = heads_wide a.heads (at_start a.form.collections kept now) (are_begun a.form.collections kept now tables ports).wide

-- ---- a step of any program

abbrev KeepsWidths : Program → (kept now : Sets) → Type 0
KeepsWidths program kept now = AreSetsOf (table_columns program) (tables_after_step program kept now) × AreSetsOf (output_columns program) (outputs_of_step program kept now)

-- a record without one column, with a number and a part
split_wide : (columns : List Name) (split : ℕ) (now : Sets) (more : List Name) → length more ≡ 2 → split < length columns → AreSetsOf (columns ∷ []) now → (r : Row) → Has r (set_at now 0) → (q : Row) → Has q (split_row split r) → length q ≡ length (remove columns split ++ more)
split_wide columns split now more two lt ports r h q out =
    let m = Has-from_map (λ (part : ℕ × Value). remove r split ++ Int (pos part.0) ∷ part.1 ∷ []) q (parts_of (cell r split)) out in
    let width = row_wide (length columns) (set_at now 0) r (wide_at (columns ∷ []) now ports 0) h in
    let here : split < length r = omega (arith, lt, width) in
    let longer : length (remove r split ++ Int (pos m.0.0) ∷ m.0.1 ∷ []) ≡ length (remove r split) + 2 = length-append (remove r split) (Int (pos m.0.0) ∷ m.0.1 ∷ []) in
    ap length (sym m.2) ∙ (let e : length (remove r split ++ Int (pos m.0.0) ∷ m.0.1 ∷ []) ≡ length (remove columns split ++ more) = omega (arith, longer, width, two, length-remove r split here, length-remove columns split lt, length-append (remove columns split) more) in e)

pub step_wide : (program : Program) → IsProper program → (kept now : Sets) → AreSetsOf (table_columns program) kept → AreSetsOf (port_columns program) now → KeepsWidths program kept now
step_wide (Module a) proper kept now tables ports =
    let all = end_wide a proper kept now tables ports in
    (kinds_wide Table a.form.collections (at_end a kept now) all, kinds_wide Output a.form.collections (at_end a kept now) all)
step_wide (Split columns split) proper kept now tables ports = (
  tt,
  (
    wide_by_rows _ _ (λ q h.
        let m = Has-from_flat_map (split_row split) q (set_at now 0) (Has-from_set_of q _ h) in
        split_wide columns split now _ refl proper.1 ports m.0 m.1 q m.2),
    tt,
  ),
)
step_wide (Latest columns keys) proper kept now tables ports =
    let in_order = keys_in_order (length columns) keys in
    let held = latest_kept in_order (set_at kept 0) (set_at now 0) in
    let wide : AreWide (length columns) held = latest_kept-wide (length columns) in_order (set_at kept 0) (set_at now 0) (wide_at (columns ∷ []) kept tables 0) (wide_at (port_columns (Latest columns keys)) now ports 0) in
    let asked : Row → Bool = λ (r : Row). list_any (eq_by_cmp record_cmp (cells in_order r)) (set_at now 1) in (
      (wide, tt),
      (wide_by_rows (length columns) (set_of (filter asked held)) (λ r h. row_wide (length columns) held r wide (Has-from_filter asked r held (Has-from_set_of r (filter asked held) h)).0), tt),
    )
step_wide (Number columns) proper kept now tables ports =
    let n = length columns in
    let longer : (more : List Name) → length more ≡ 1 → n + 1 ≡ length (columns ++ more) = λ more one. let both = length-append columns more in omega (arith, both, one) in
    let arriving : AreWide n (set_at now 0) = wide_at (columns ∷ []) now ports 0 in
    let same = longer _ refl in
    let old : AreWide (n + 1) (set_at kept 0) = subst (λ k. AreWide k (set_at kept 0)) (sym same) (wide_at (table_columns (Number columns)) kept tables 0) in
    let new = numbered (set_at kept 0) (set_at now 0) in (
      (subst (λ k. AreWide k (number_kept (set_at kept 0) (set_at now 0))) same (number_kept-wide n (set_at kept 0) (set_at now 0) old arriving), tt),
      (wide_by_rows _ (set_of new) (λ r h. numbered-wide n (set_at kept 0) (set_at now 0) arriving r (Has-from_set_of r new h) ∙ same), tt),
    )

-- ---- steps of any program

no_tables : (columns : List (List Name)) → AreSetsOf columns (map (λ (c : List Name). []) columns)
no_tables [] = tt
no_tables (c ∷ columns) = (none_wide (length c), no_tables columns)

pub tables_wide : (program : Program) → IsProper program → (earlier : List Sets) (now : Sets) → AreArrivals program (earlier ++ now ∷ []) → AreSetsOf (table_columns program) (tables_after_steps program earlier)
tables_wide program proper earlier now arrivals =
    stays (AreSetsOf (table_columns program)) (tables_after_step program) (earlier ++ now ∷ []) earlier
    (λ kept other h tables. (step_wide program proper kept other tables (All-of_member (AreSetsOf (port_columns program)) (earlier ++ now ∷ []) other arrivals h)).0)
    (earlier_among earlier now) (empty_tables program) (no_tables (table_columns program))

-- a row of an output in a step has as many values as the output has columns
pub output_wide : (program : Program) → IsProper program → (earlier : List Sets) (now : Sets) (output : ℕ) (r : Row) → AreArrivals program (earlier ++ now ∷ [])
    → Has r (set_at (outputs_of_step program (tables_after_steps program earlier) now) output) → length r ≡ length (get_or (output_columns program) output [])
output_wide program proper earlier now output r arrivals h =
    let kept = tables_after_steps program earlier in
    let ports = All-of_member (AreSetsOf (port_columns program)) (earlier ++ now ∷ []) now arrivals (now_among earlier now) in
    let both = step_wide program proper kept now (tables_wide program proper earlier now arrivals) ports in
    row_wide (length (get_or (output_columns program) output [])) (set_at (outputs_of_step program kept now) output) r (wide_at (output_columns program) (outputs_of_step program kept now) both.1 output) h
