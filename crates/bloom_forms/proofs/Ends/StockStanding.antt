-- After a step of a stock body the next one, with nothing arriving, keeps the same and puts out nothing.
use Rattle.std.proofs.Common.{◌≡◌, ◌++◌, ℕ, zero, suc, false, not, List, [], ◌∷◌, length, filter, refl, ap, ◌∙◌, sym, subst}
use Rattle.std.specs.List.{list_any}
use Rattle.std.proofs.lemmas.List.{append-nil}
use Rattle.blz_value.specs.Members.{Has}
use Rattle.blz_value.specs.Operators.{cells}
use Rattle.blz_value.specs.Record.{Row}
use Rattle.blz_value.specs.Sets.{set_of}
use Rattle.blz_value.proofs.RowSets.{set_of-sorted}
use Rattle.blz_value.proofs.SetLaws.{sorted_set_of}
use Rattle.bloom_forms.specs.declared.program.Program.TheVariants.{Split, Latest, Number}
use Rattle.bloom_forms.specs.Laws.{StandsStill}
use Rattle.bloom_forms.specs.Query.{Name}
use Rattle.bloom_forms.specs.Step.{Sets, set_at}
use Rattle.bloom_forms.specs.StockSteps.{has_key, is_latest, keys_in_order, latest_kept, numbered}

-- Latest keeps its records where none is put
pub kept_first : (keys : List ℕ) (rows : List Row) → set_of rows ≡ latest_kept keys (set_of rows) []
kept_first keys rows = sym (ap set_of (append-nil (filter (λ (row : Row). not (list_any (has_key keys (cells keys row)) [])) (set_of rows)) ∙ all_stay (set_of rows)) ∙ set_of-sorted (set_of rows) (sorted_set_of rows))
  where
    all_stay : (rows : List Row) → filter (λ (row : Row). not (list_any (has_key keys (cells keys row)) [])) rows ≡ rows
    all_stay [] = refl
    all_stay (x ∷ rows) = ap (λ l. x ∷ l) (all_stay rows)

-- no row passes a test that none passes
none_pass : (rows : List Row) → filter (λ (row : Row). false) rows ≡ []
none_pass [] = refl
none_pass (row ∷ rows) = none_pass rows

-- one empty set has no row anywhere
one_empty : (rows : List Row) → rows ≡ [] → (place : ℕ) → set_at (rows ∷ []) place ≡ []
one_empty rows none zero = none
one_empty rows none (suc place) = refl

pub split_stands : (columns : List Name) (split : ℕ) → StandsStill (Split columns split)
split_stands columns split = record {
  tables = λ kept now. refl;
  outputs = λ kept now output row h. absurd (subst (λ (rows : List Row). Has row rows) (one_empty [] refl output) h);
  empty = one_empty [] refl;
}

pub latest_stands : (columns : List Name) (keys : List ℕ) → StandsStill (Latest columns keys)
latest_stands columns keys =
    let in_order = keys_in_order (length columns) keys in
    let kept_is : Sets → Sets → List Row = λ kept now. latest_kept in_order (set_at kept 0) (set_at now 0) in
    let kept_still : (kept now : Sets) → latest_kept in_order (kept_is kept now) [] ≡ kept_is kept now = λ kept now. sym (kept_first in_order (filter (λ (row : Row). not (list_any (has_key in_order (cells in_order row)) (set_at now 0))) (set_at kept 0) ++ filter (is_latest in_order (set_at now 0)) (set_at now 0))) in
    record {
      tables = λ kept now. ap (λ (rows : List Row). rows ∷ []) (kept_still kept now);
      outputs = λ kept now output row h. absurd (subst (λ (rows : List Row). Has row rows) (one_empty _ (ap set_of (none_pass (latest_kept in_order (kept_is kept now) []))) output) h);
      empty = one_empty _ (ap set_of (none_pass (latest_kept in_order [] [])));
    }

pub number_stands : (columns : List Name) → StandsStill (Number columns)
number_stands columns = record {
  tables = λ kept now.
      let all = set_at kept 0 ++ numbered (set_at kept 0) (set_at now 0) in
      ap (λ (rows : List Row). rows ∷ []) (ap set_of (append-nil (set_of all)) ∙ set_of-sorted (set_of all) (sorted_set_of all));
  outputs = λ kept now output row h. absurd (subst (λ (rows : List Row). Has row rows) (one_empty [] refl output) h);
  empty = one_empty [] refl;
}
