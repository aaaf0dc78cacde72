-- The order of heads that a check chooses: by what they read, as a number; who reads another has the greater number.
use Rattle.std.specs.Prelude.{ℕ, suc, ◌+◌, if◌then◌else◌, List, [], ◌∷◌, nat_lt, slice_index_or}
use Rattle.bloom_forms.specs.declared.module.Collection.{Collection}
use Rattle.bloom_forms.specs.Form.{Form}
use Rattle.bloom_forms.specs.Kinds.{is_input}
use Rattle.bloom_forms.specs.Reads.{arrows, keys_of}

-- the key of the collection with the number
abbrev pub key_at : List ℕ → ℕ → ℕ
key_at keys n = slice_index_or keys n 0

-- the place of the first head with a greater key, or their number
abbrev pub place_for : (ℕ → ℕ) → ℕ → List ℕ → ℕ
place_for key_of key [] = 0
place_for key_of key (g ∷ heads) = if nat_lt key (key_of g) then 0 else suc (place_for key_of key heads)

-- the heads with h, which stands before the first with a greater key
abbrev pub put_head : (ℕ → ℕ) → ℕ → List ℕ → List ℕ
put_head key_of h [] = h ∷ []
put_head key_of h (g ∷ heads) = if nat_lt (key_of h) (key_of g) then h ∷ g ∷ heads else g ∷ put_head key_of h heads

-- the heads with those collections that are no inputs, of which the first has the number `at`
abbrev pub heads_on : (ℕ → ℕ) → ℕ → List Collection → List ℕ → List ℕ
heads_on key_of at [] heads = heads
heads_on key_of at (c ∷ cs) heads = heads_on key_of (at + 1) cs (if is_input c.kind then heads else put_head key_of at heads)

-- the collections of a module that are no inputs, each before the first that reads more
abbrev pub heads_of : Form → List ℕ
heads_of m = heads_on (key_at (keys_of m.collections (arrows m.collections m.rules))) 0 m.collections []
