-- What is put out collection by collection: at each output one thing more, at any other collection nothing.
use Rattle.std.proofs.Common.{◌≡◌, ◌<◌, ◌+◌, ◌∙◌, ℕ, zero, suc, Some, List, [], ◌∷◌, ◌++◌, length, drop, get_or, refl, ap, sym, subst, arith}
use Rattle.std.specs.Prelude.{slice_set}
use Rattle.std.specs.List.{All}
use Rattle.std.specs.Option.{option_map}
use Rattle.std.proofs.lemmas.List.{map-append, append-nil, length-map, length-set}
use Rattle.std.proofs.lemmas.List.Elements.{All-append}
use Rattle.std.proofs.lemmas.Option.{slice_get-get_or}
use Rattle.blz_pool.specs.Entries.{EntryId}
use Rattle.blz_value.specs.Record.{Row}
use Rattle.bloom_forms.specs.declared.module.Collection.{Collection}
use Rattle.bloom_forms.specs.declared.module.Kind.{Kind}
use Rattle.bloom_forms.specs.declared.module.Kind.TheVariants.{Input, Output, Table, Scratch}
use Rattle.bloom_forms.specs.Kinds.{kind_at}
use Rattle.bloom_forms.specs.Step.{Sets, set_at, sets_of_kind}
use Rattle.bloom_eval.specs.declared.puts.Put.{Put}
use Rattle.bloom_eval.specs.Finish.{placed}
use Rattle.bloom_eval.specs.Puts.{put_rows, puts_in, IsPutOf, ArePutOf}
use Rattle.bloom_eval.proofs.Ending.{more_placed}
use Rattle.bloom_parts.specs.declared.change.Change.{Change}
use Rattle.bloom_parts.specs.Turns.{rows_in}
use Rattle.bloom_index.specs.Code.StepSets.{held_sets}

-- what is no output is put out nowhere
not_placed : (kind : Kind) (rows : List Row) → ¬ (kind ≡ Output) → placed Output kind rows ≡ []
not_placed Input rows other = refl
not_placed Output rows other = absurd (other refl)
not_placed Table rows other = refl
not_placed Scratch rows other = refl

-- the collection at a place has its kind
pub kind_here : (cs : List Collection) (i : ℕ) (c : Collection) (kind : Kind) → i < length cs → c ≡ get_or cs i c → c.kind ≡ kind → kind_at cs i ≡ Some kind
kind_here cs i c kind lt is of = ap (option_map (λ (d : Collection). d.kind)) (slice_get-get_or cs i c lt) ∙ ap (λ (d : Collection). Some d.kind) (sym is) ∙ ap Some of

module _ (records : List Row) (cs : List Collection) (sets : Sets) (puts : List Put) (i : ℕ) (c : Collection) (lt : i < length cs) (is : c ≡ get_or cs i c) (many : length sets ≡ length cs) (so_far : puts_in records puts ++ sets_of_kind Output (drop i cs) (drop i sets) ≡ sets_of_kind Output cs sets) where
  -- an output
  pub put_more : (longer : List Put) (put : Put) → c.kind ≡ Output → longer ≡ puts ++ put ∷ [] → put_rows records put ≡ set_at sets i → puts_in records longer ++ sets_of_kind Output (drop (i + 1) cs) (drop (i + 1) sets) ≡ sets_of_kind Output cs sets
  put_more longer put out are own =
      let grown : puts_in records longer ≡ puts_in records puts ++ placed Output c.kind (put_rows records put) =
      ap (puts_in records) are ∙ map-append (put_rows records) puts (put ∷ []) ∙ ap (λ (kind : Kind). puts_in records puts ++ placed Output kind (put_rows records put)) (sym out) in
      more_placed Output cs sets (puts_in records puts) (puts_in records longer) i c (put_rows records put) lt is many own grown so_far

  -- any other collection
  pub put_none : (same : List Put) → ¬ (c.kind ≡ Output) → same ≡ puts → puts_in records same ++ sets_of_kind Output (drop (i + 1) cs) (drop (i + 1) sets) ≡ sets_of_kind Output cs sets
  put_none same other are =
      let grown : puts_in records same ≡ puts_in records puts ++ placed Output c.kind (set_at sets i) =
      ap (puts_in records) are ∙ sym (append-nil (puts_in records puts)) ∙ ap (λ (more : Sets). puts_in records puts ++ more) (sym (not_placed c.kind (set_at sets i) other)) in
      more_placed Output cs sets (puts_in records puts) (puts_in records same) i c (set_at sets i) lt is many refl grown so_far

lone_all : {X : Type 0} (P : X → Type 0) (x : X) → P x → All P (x ∷ [])
lone_all P x h zero d lt = h
lone_all P x h (suc k) d lt = absurd (omega (arith, lt))

-- the ids are those of the entries
pub ids_more : (entries : List EntryId) (puts longer : List Put) (put : Put) → longer ≡ puts ++ put ∷ [] → ArePutOf entries puts → IsPutOf entries put → ArePutOf entries longer
ids_more entries puts longer put are ids own =
    subst (λ (p : List Put). ArePutOf entries p) (sym are) (All-append (IsPutOf entries) puts (put ∷ []) ids (lone_all (IsPutOf entries) put own))

-- as many are held when one is taken
pub many_left : (held left : List Change) (i : ℕ) → held_sets left ≡ slice_set (held_sets held) i [] → length left ≡ length held
many_left held left i is =
    sym (length-map left (λ (change : Change). rows_in change.rows)) ∙ ap (λ (sets : Sets). length sets) is ∙ length-set (held_sets held) i [] ∙ length-map held (λ (change : Change). rows_in change.rows)
