-- What a step puts out is sets: each output is in record order, without repeats.
use Rattle.std.proofs.Common.{◌≡◌, ◌<◌, ℕ, zero, suc, Bool, true, false, cond, Some, List, [], ◌∷◌, length, map, filter, set, get_or, refl, ap, ◌∙◌, sym, subst, inl, inr, arith}
use Rattle.std.specs.List.{fold, zip, flat_map, list_any}
use Rattle.std.specs.Ordering.{eq_by_cmp}
use Rattle.std.proofs.lemmas.Bool.{cases_eq, cases_lt}
use Rattle.std.proofs.lemmas.List.{get_or-set_same, get_or-set_other, set_past}
use Rattle.std.proofs.lemmas.List.FromFn.{get_or-map-range_with_len}
use Rattle.blz_value.specs.Operators.{cells}
use Rattle.blz_value.specs.Record.{Row, record_cmp}
use Rattle.blz_value.specs.Sets.{IsRowSet}
use Rattle.blz_value.proofs.SetLaws.{sorted_set_of}
use Rattle.bloom_forms.proofs.Collections.KindSets.{kind-within}
use Rattle.bloom_forms.specs.declared.module.Kind.{Kind}
use Rattle.bloom_forms.specs.declared.module.Kind.TheVariants.{Input, Output, Table, Scratch}
use Rattle.bloom_forms.specs.declared.module.Collection.{Collection}
use Rattle.bloom_forms.specs.declared.program.Program.{Program}
use Rattle.bloom_forms.specs.declared.program.Program.TheVariants.{Module, Split, Latest, Number}
use Rattle.bloom_forms.specs.Form.{Accepted, Form}
use Rattle.bloom_forms.specs.Kinds.{same_kind, kind_at, place_in_kind}
use Rattle.bloom_forms.specs.ProgramStep.{outputs_of_step}
use Rattle.bloom_forms.specs.Step.{Sets, set_at, begun, ended, begun_at, at_start, ruled_at, with_head, at_end, sets_of_kind, outputs_of}
use Rattle.bloom_forms.specs.StockSteps.{keys_in_order, split_row, split_out, latest_kept, latest_out, numbered, number_out}

-- each collection that is an output holds a set
abbrev OutputsAreSets : List Collection → Sets → Type 0
OutputsAreSets cs sets = (n : ℕ) → kind_at cs n ≡ Some Output → IsRowSet (set_at sets n)

nothing_set : IsRowSet []
nothing_set = sorted_set_of []

started : (cs : List Collection) (kept now : Sets) → OutputsAreSets cs (at_start cs kept now)
started cs kept now n is =
    let within : n < length cs = kind-within cs n Output is in
    subst IsRowSet
    (sym (get_or-map-range_with_len (begun_at cs kept now) 0 (length cs) n n [] within (omega arith)
    ∙ ap (λ kind. begun kind (set_at kept (place_in_kind Table cs n)) (set_at now (place_in_kind Input cs n))) is))
    nothing_set

headed : (form : Form) (sets : Sets) (head : ℕ) → OutputsAreSets form.collections sets → OutputsAreSets form.collections (with_head form sets head)
headed form sets head all n is =
    let cs = form.collections in
    let new : List Row = ended (kind_at cs head) (set_at sets head) (set_at sets head) (ruled_at form sets head) in
    elim (cases_eq n head) [
      | inl same ↦
          let new_set : IsRowSet new = subst IsRowSet (sym (ap (λ kind. ended kind (set_at sets head) (set_at sets head) (ruled_at form sets head)) (ap (kind_at cs) (sym same) ∙ is))) (sorted_set_of (ruled_at form sets head)) in
          elim (cases_lt head (length sets)) [
            | inl within ↦ subst IsRowSet (sym (ap (λ k. get_or (set sets head new) k []) same ∙ get_or-set_same sets head new [] within)) new_set
            | inr past ↦ subst (λ l. IsRowSet (get_or l n [])) (sym (set_past sets head new past)) (all n is)
          ]
      | inr differ ↦ subst IsRowSet (sym (get_or-set_other sets head n new [] differ)) (all n is)
    ]

ended_sets : (form : Form) (sets : Sets) (heads : List ℕ) → OutputsAreSets form.collections sets → OutputsAreSets form.collections (fold (with_head form) sets heads)
ended_sets form sets [] all = all
ended_sets form sets (head ∷ heads) all = ended_sets form (with_head form sets head) heads (headed form sets head all)

is_output_kind : (kind : Kind) → same_kind Output kind ≡ true → kind ≡ Output
is_output_kind Input e = cc
is_output_kind Output e = refl
is_output_kind Table e = cc
is_output_kind Scratch e = cc

picked : (cs : List Collection) (sets : Sets) (output : ℕ) → OutputsAreSets cs sets → IsRowSet (set_at (sets_of_kind Output cs sets) output)
picked [] sets output all = nothing_set
picked (c ∷ cs) [] output all = nothing_set
picked (c ∷ cs) (s ∷ sets) output all = go (same_kind Output c.kind) refl output (λ n. picked cs sets n (λ k is. all (suc k) is))
  where
    first : (n : ℕ) → same_kind Output c.kind ≡ true → ((m : ℕ) → IsRowSet (set_at (sets_of_kind Output cs sets) m)) → IsRowSet (set_at (s ∷ sets_of_kind Output cs sets) n)
    first zero is later = all zero (ap (λ k. Some k) (is_output_kind c.kind is))
    first (suc n) is later = later n

    go : (b : Bool) → same_kind Output c.kind ≡ b → (n : ℕ) → ((m : ℕ) → IsRowSet (set_at (sets_of_kind Output cs sets) m))
        → IsRowSet (set_at (map (λ (held : Collection × List Row). held.1) (cond b ((c, s) ∷ filter (λ (held : Collection × List Row). same_kind Output held.0.kind) (zip cs sets)) (filter (λ (held : Collection × List Row). same_kind Output held.0.kind) (zip cs sets)))) n)
    go true is n later = first n is later
    go false is n later = later n

module_sets : (a : Accepted) (kept now : Sets) (output : ℕ) → IsRowSet (set_at (outputs_of a kept now) output)
module_sets a kept now output = picked a.form.collections (at_end a kept now) output (ended_sets a.form (at_start a.form.collections kept now) a.heads (started a.form.collections kept now))

only_set : (rows : List Row) (output : ℕ) → IsRowSet rows → IsRowSet (set_at (rows ∷ []) output)
only_set rows zero h = h
only_set rows (suc output) h = nothing_set

pub output_is_set : (program : Program) (kept now : Sets) (output : ℕ) → IsRowSet (set_at (outputs_of_step program kept now) output)
output_is_set (Module a) kept now output = module_sets a kept now output
output_is_set (Split columns split) kept now output = only_set (split_out split (set_at now 0)) output (sorted_set_of (flat_map (split_row split) (set_at now 0)))
output_is_set (Latest columns keys) kept now output =
    let in_order = keys_in_order (length columns) keys in
    only_set (latest_out in_order (latest_kept in_order (set_at kept 0) (set_at now 0)) (set_at now 1)) output (sorted_set_of (filter (λ row. list_any (eq_by_cmp record_cmp (cells in_order row)) (set_at now 1)) (latest_kept in_order (set_at kept 0) (set_at now 0))))
output_is_set (Number columns) kept now output = only_set (number_out (set_at kept 0) (set_at now 0)) output (sorted_set_of (numbered (set_at kept 0) (set_at now 0)))
