-- Feeds and messages of word count.
use Rattle.std.proofs.Common.{◌≡◌, ℕ, pos, refl, [], ◌∷◌, map}
use Rattle.std.specs.Prelude.{codes}
use Rattle.blz_value.specs.Bits.{bit_of, meets}
use Rattle.blz_value.specs.declared.value.Value.{Value}
use Rattle.blz_value.specs.declared.value.Value.TheVariants.{Int, Text}
use Rattle.topo_forms.specs.Data.{Data}
use Rattle.topo_forms.specs.Feeds.{feeds}
use Rattle.topo_forms.specs.Messages.{row, seal, emitted_of_source}
use Rattle.topo_forms.proofs.Worked.WordCount.{word_count_with, free_at}

-- each replica of count hears the one sender of words, and each replica of commit its own count
pub count_feeds : map (feeds (word_count_with (free_at 3)) 1) (0 ∷ 1 ∷ 2 ∷ [])
    ≡ (record { port = 0; stream = 1; sender = 0 } ∷ []) ∷ (record { port = 0; stream = 1; sender = 0 } ∷ []) ∷ (record { port = 0; stream = 1; sender = 0 } ∷ []) ∷ []
count_feeds = refl

pub commit_feeds : map (feeds (word_count_with (free_at 3)) 2) (0 ∷ 1 ∷ 2 ∷ [])
    ≡ (record { port = 0; stream = 2; sender = 0 } ∷ []) ∷ (record { port = 0; stream = 2; sender = 1 } ∷ []) ∷ (record { port = 0; stream = 2; sender = 2 } ∷ []) ∷ []
commit_feeds = refl

abbrev pub int : ℕ → Value
int n = Int (pos n)

-- three tweets in two batches
abbrev pub tweets : Data
tweets = record {
  rows =
      (int 1 ∷ Text (codes "a b a") ∷ int 1 ∷ [])
      ∷ (int 2 ∷ Text (codes "b") ∷ int 1 ∷ [])
      ∷ (int 3 ∷ Text (codes "a") ∷ int 2 ∷ [])
      ∷ [];
  parts = [];
} ∷ []

-- the distinct rows, then a seal for each batch
pub tweet_messages : emitted_of_source (word_count_with (free_at 1)) tweets 0
    ≡ row (int 1 ∷ Text (codes "a b a") ∷ int 1 ∷ [])
    ∷ row (int 2 ∷ Text (codes "b") ∷ int 1 ∷ [])
    ∷ row (int 3 ∷ Text (codes "a") ∷ int 2 ∷ [])
    ∷ seal (int 1 ∷ []) 2
    ∷ seal (int 2 ∷ []) 1
    ∷ []
unfolding bit_of meets
tweet_messages = refl
