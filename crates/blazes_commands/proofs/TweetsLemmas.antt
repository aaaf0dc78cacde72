-- Tweets are as wide as the source of a topology that takes them.
use Rattle.std.proofs.Common.{◌≡◌, ℕ, true, List, [], ◌∷◌, length, refl, sym, subst, arith}
use Rattle.std.specs.List.{All, flat_map}
use Rattle.std.proofs.lemmas.List.Concat.{flat_map-cons}
use Rattle.std.proofs.lemmas.List.Elements.{All-map, All-append}
use Rattle.blz_value.specs.Record.{Row}
use Rattle.topo_forms.specs.Data.{IsData, FitsSource, source_data}
use Rattle.blz_value.specs.NumberSets.{below}
use Rattle.topo_forms.specs.View.{View, source_count, stream_at}
use Rattle.blazes_commands.specs.Soak.{tweet, tweets, tweets_of, one_source, takes_tweets}

abbrev IsWide : Row → Type 0
IsWide row = length row ≡ 3

batch_wide : (batch : ℕ) → All IsWide (tweets_of batch)
unfolding tweets_of
batch_wide batch = All-map IsWide (tweet batch) (below 16) (λ k d within. refl)

batches_wide : (batches : List ℕ) → All IsWide (flat_map tweets_of batches)
batches_wide [] = λ k d within. absurd (omega (arith, within))
batches_wide (batch ∷ batches) = subst (All IsWide) (sym (flat_map-cons tweets_of batch batches)) (All-append IsWide (tweets_of batch) (flat_map tweets_of batches) (batch_wide batch) (batches_wide batches))

-- rows of three values fit one source of three columns
rows_fit : (v : View) (rows : List Row) → source_count v ≡ 1 → length (stream_at v 0).columns ≡ 3 → All IsWide rows → IsData v (one_source rows)
rows_fit v rows one wide all = record {
  each = sym one;
  fit = λ s within. at s (omega (arith, one, within));
}
  where
    first : FitsSource (stream_at v 0) (source_data (one_source rows) 0)
    first = record {
      rows = subst (λ n. All (λ row. length row ≡ n) rows) (sym wide) all;
      parts = λ k d within. absurd (omega (arith, within));
      none = λ none. refl;
    }

    at : (s : ℕ) → s ≡ 0 → FitsSource (stream_at v s) (source_data (one_source rows) s)
    at s is = subst (λ n. FitsSource (stream_at v n) (source_data (one_source rows) n)) (sym is) first

pub tweets_fit : (v : View) (batches : ℕ) → takes_tweets v ≡ true → IsData v (one_source (tweets batches))
tweets_fit v batches takes = rows_fit v (tweets batches) (grind (arith, takes)) (grind (arith, takes)) (batches_wide (below batches))
