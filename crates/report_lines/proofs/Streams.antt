-- The numbers of sources, and the stream of an output.
use Rattle.std.proofs.Common.{◌≡◌, ◌<◌, ◌+◌, ℕ, zero, suc, Bool, true, false, cond, Option, None, Some, List, [], ◌∷◌, length, filter, get_or, take, refl, arith, ap, sym, subst, ◌∙◌}
use Rattle.std.specs.List.{position_from}
use Rattle.std.specs.Option.{option_map_or}
use Rattle.std.proofs.lemmas.List.Sums.{count_by-le-length, length-filter}
use Rattle.topo_forms.specs.View.{View, Stream, no_stream, is_source, is_stream_of, same_end, source_count, stream_of}

-- a source is a stream
pub source_within : (v : View) (s : ℕ) → s < source_count v → s < length v.streams
source_within v s lt = omega (arith, lt, length-filter is_source v.streams, count_by-le-length is_source v.streams)

-- ---- the first place at which a test holds

module _ {X : Type 0} (p : X → Bool) where
  none_suc : (at : ℕ) (xs : List X) (k : ℕ) (d : X) → k < length xs → position_from p at (take k xs) ≡ None → p (get_or xs k d) ≡ false → position_from p at (take (suc k) xs) ≡ None
  none_suc at [] k d lt none misses = absurd (omega arith)
  none_suc at (x ∷ xs) zero d lt none misses = rw misses refl
  none_suc at (x ∷ xs) (suc k) d lt none misses = by (p x) none (λ before. none_suc (at + 1) xs k d (omega arith) before misses)
    where
      by : (b : Bool) → cond b (Some at) (position_from p (at + 1) (take k xs)) ≡ None
          → (position_from p (at + 1) (take k xs) ≡ None → position_from p (at + 1) (take (suc k) xs) ≡ None)
          → cond b (Some at) (position_from p (at + 1) (take (suc k) xs)) ≡ None
      by true bad later = absurd (let no : Some at ≡ None = bad in cc)
      by false before later = later before

  some_from : (at : ℕ) (xs : List X) (k : ℕ) (d : X) → k < length xs → position_from p at (take k xs) ≡ None → p (get_or xs k d) ≡ true → position_from p at xs ≡ Some (at + k)
  some_from at [] k d lt none holds = absurd (omega arith)
  some_from at (x ∷ xs) zero d lt none holds = let z : at ≡ at + 0 = omega arith in rw holds (ap (λ (n : ℕ). Some n) z)
  some_from at (x ∷ xs) (suc k) d lt none holds = by (p x) none (λ before. some_from (at + 1) xs k d (omega arith) before holds)
    where
      by : (b : Bool) → cond b (Some at) (position_from p (at + 1) (take k xs)) ≡ None
          → (position_from p (at + 1) (take k xs) ≡ None → position_from p (at + 1) xs ≡ Some (at + 1 + k))
          → cond b (Some at) (position_from p (at + 1) xs) ≡ Some (at + suc k)
      by true bad later = absurd (let no : Some at ≡ None = bad in cc)
      by false before later = let z : at + 1 + k ≡ at + suc k = omega arith in later before ∙ ap (λ (n : ℕ). Some n) z

-- ---- the stream of an output

-- a stream is that of the output
abbrev pub is_of : (c o : ℕ) → Stream → Bool
is_of c o stream = option_map_or (same_end (c, o)) stream.origin false

pub none_further : (v : View) (c o s : ℕ) → s < length v.streams → position_from (is_of c o) 0 (take s v.streams) ≡ None → is_stream_of v c o s ≡ false → position_from (is_of c o) 0 (take (s + 1) v.streams) ≡ None
none_further v c o s lt none misses =
    let more : s + 1 ≡ suc s = omega arith in
    ap (λ (n : ℕ). position_from (is_of c o) 0 (take n v.streams)) more ∙ none_suc (is_of c o) 0 v.streams s no_stream lt none misses

pub found_at : (v : View) (c o s : ℕ) → s < length v.streams → position_from (is_of c o) 0 (take s v.streams) ≡ None → is_stream_of v c o s ≡ true → stream_of v c o ≡ Some s
found_at v c o s lt none holds = let own : 0 + s ≡ s = omega arith in some_from (is_of c o) 0 v.streams s no_stream lt none holds ∙ ap (λ (n : ℕ). Some n) own
