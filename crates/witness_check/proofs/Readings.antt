-- Lists by numbers that are read of a net grow number by number, of whatever data and steps its books stand for.
use Rattle.std.proofs.Common.{◌≡◌, ◌+◌, ◌<◌, ℕ, List, [], ◌∷◌, ◌++◌, map, length, length-append, ap, ◌∙◌, sym, subst, arith}
use Rattle.std.proofs.lemmas.List.FromFn.{map-range_with_len_more}
use Rattle.blz_value.specs.Record.{Row}
use Rattle.topo_forms.specs.Data.{Data}
use Rattle.blz_value.specs.NumberSets.{below}
use Rattle.topo_forms.specs.View.{View, stream_replicas}
use Rattle.inbox.specs.Executions.{Execution, contents}
use Rattle.inbox.specs.Wiring.{wiring_of}
use Rattle.sched_net.specs.Net.{BooksRun, execution_in}
use Rattle.sched_net.specs.declared.books.Books.{Books}
use Rattle.sched_net.specs.Reading.{IsRead}
use Rattle.witness_check.specs.Difference.{HasPlaces, snapshot}
use Rattle.witness_check.proofs.DifferenceLemmas.{has_places}

module _ {X : Type 0} (v : View) (b : Books) (of : Data → Execution → ℕ → X) where
  -- the list so far, of the numbers below one
  pub record HasSoFar (n : ℕ) (list : List X) : Type 0 where
    pub read : IsRead v b (λ given x. map (of given x) (below n)) list
    pub count : length list ≡ n

  pub one_more : (n : ℕ) (old new : List X) (item : X) → new ≡ old ++ item ∷ [] → IsRead v b (λ given x. of given x n) item → HasSoFar n old → HasSoFar (n + 1) new
  one_more n old new item grown is so_far = record {
    read = λ given steps stand.
        let f : ℕ → X = of given (execution_in stand) in
        grown
        ∙ ap (λ (l : List X). l ++ item ∷ []) (so_far.read given steps stand)
        ∙ ap (λ (z : X). map f (below n) ++ z ∷ []) (is given steps stand)
        ∙ sym (map-range_with_len_more f 0 n n (omega arith));
    count = omega (arith, ap length grown, length-append old (item ∷ []), so_far.count);
  }

  pub all_of : (n count : ℕ) (list : List X) → n ≡ count → HasSoFar n list → IsRead v b (λ given x. map (of given x) (below count)) list
  all_of n count list same so_far = subst (λ k. IsRead v b (λ given x. map (of given x) (below k)) list) same so_far.read

-- ---- a net of this topology

module _ (v own : View) (b : Books) (same : own ≡ v) where
  -- what is read of the contents of a sending replica
  pub contents_read : (stream replica : ℕ) (set : List Row) → replica < stream_replicas v stream
      → (replica < stream_replicas own stream → IsRead own b (λ given x. contents (wiring_of own) given x stream replica) set)
      → IsRead v b (λ given x. contents (wiring_of v) given x stream replica) set
  contents_read stream replica set within read =
      subst (λ w. IsRead w b (λ given x. contents (wiring_of w) given x stream replica) set) same (read (subst (λ w. replica < stream_replicas w stream) (sym same) within))

-- what was read has contents of each sending replica of each stream
pub places_read : (v : View) (b : Books) (taken : List (List (List Row))) → BooksRun v b → IsRead v b (snapshot v) taken → HasPlaces v taken
places_read v b taken runs read = subst (HasPlaces v) (sym (read runs.given runs.steps runs.stand)) (has_places v runs.given (execution_in runs.stand))
