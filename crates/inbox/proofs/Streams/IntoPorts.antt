-- A stream into a port has the port's columns, and an output has one stream.
use Rattle.std.proofs.Common.{◌≡◌, refl, ap, sym, subst, ◌∙◌, ◌<◌, ◌+◌, ◌==◌, ℕ, zero, suc, Bool, true, false, cond, List, [], ◌∷◌, length, get_or, Option, None, Some, arith}
use Rattle.std.specs.List.{position_from}
use Rattle.std.specs.Option.{option_map_or}
use Rattle.std.proofs.lemmas.Bool.{eqb-true, eq-eqb, and_from}
use Rattle.blz_value.specs.Members.{Has}
use Rattle.blz_value.proofs.Membership.{Has-filter, Has-from_filter, Has-from_any, any_from_Has}
use Rattle.blz_value.proofs.Booleans.{both_true}
use Rattle.blz_value.proofs.Ranges.{Has-below as from_below}
use Rattle.bloom_forms.specs.Gates.{set_of_roots}
use Rattle.topo_forms.specs.Valid.{IsValid}
use Rattle.topo_forms.specs.View.{View, Stream, End, no_stream, origin_of, ends_of, stream_at, port_at, component_at, port_attrs, stream_attrs, has_stream, same_end, goes_to, goes_into, streams_to, streams_into, stream_numbers, stream_of}
use Rattle.topo_forms.proofs.Regions.Spreading.{in_below}
use Rattle.inbox.specs.Agreement.{port_roots}
use Rattle.inbox.proofs.Columns.Attributes.{numbers_are_roots}

-- a stream that goes to a port has the port as one of its ends
pub goes_is : (v : View) (c p s : ℕ) → goes_to v c p s ≡ true → Has {X = End} (c, p) (ends_of v s)
goes_is v c p s e =
    let m = Has-from_any (same_end (c, p)) (ends_of v s) e in
    let both = both_true (c == m.0.0) (p == m.0.1) m.2 in
    let first : c ≡ m.0.0 = eqb-true c m.0.0 both.0 in
    let second : p ≡ m.0.1 = eqb-true p m.0.1 both.1 in
    subst (λ (end : End). Has end (ends_of v s)) (let f : ℕ → ℕ → End = λ a b. (a, b) in sym (ap (λ a. f a p) first ∙ ap (f m.0.0) second)) m.1

-- it is one of the port's streams
pub into_port : (v : View) (c p s : ℕ) → s < length v.streams → goes_to v c p s ≡ true → Has s (streams_to v c p)
into_port v c p s lt goes = Has-filter (goes_to v c p) s (stream_numbers v) (in_below (length v.streams) s lt) goes

-- a stream that goes to a port has its columns
pub stream_into : (v : View) → IsValid v → (c p u : ℕ) → u < length v.streams → goes_to v c p u ≡ true → (stream_at v u).columns ≡ port_roots v c p
stream_into v valid c p u within goes = (valid.columns u within).of_port (c, p) (goes_is v c p u goes)

-- the attributes of a port are those of each stream into it
pub attrs_into : (v : View) → IsValid v → (c p u : ℕ) → u < length v.streams → goes_to v c p u ≡ true → (port_attrs v c p).bits ≡ (stream_attrs v u).bits
attrs_into v valid c p u within goes = numbers_are_roots (port_at v c p).columns ∙ sym (ap set_of_roots (stream_into v valid c p u within goes))

-- it goes into the component
pub goes_in : (v : View) (c p u : ℕ) → u < length v.streams → goes_to v c p u ≡ true → Has u (streams_into v c)
goes_in v c p u within goes = Has-filter (goes_into v c) u (stream_numbers v) (in_below (length v.streams) u within) (any_from_Has (λ end. c == end.0) (c, p) (ends_of v u) (goes_is v c p u goes) (eq-eqb c c refl))

-- ---- one of the streams of a port

pub record Leads (v : View) (c p s : ℕ) : Type 0 where
  pub stands : s < length v.streams
  pub goes : goes_to v c p s ≡ true

pub leads : (v : View) (c p s : ℕ) → Has s (streams_to v c p) → Leads v c p s
leads v c p s has = let kept = Has-from_filter (goes_to v c p) s (stream_numbers v) has in record { stands = from_below (length v.streams) s kept.0; goes = kept.1 }

-- a port that has a stream has one of them
pub some_stream : (v : View) (c p : ℕ) → has_stream v c p ≡ true → (s : ℕ) × Leads v c p s
some_stream v c p e = let found = Has-from_any (goes_to v c p) (stream_numbers v) e in (found.0, record { stands = from_below (length v.streams) found.0 found.1; goes = found.2 })

pub has_some : (v : View) (c p s : ℕ) → Leads v c p s → has_stream v c p ≡ true
has_some v c p s l = any_from_Has (goes_to v c p) s (stream_numbers v) (in_below (length v.streams) s l.stands) l.goes

-- a port with a stream is one of the component's
pub end_there : (v : View) → IsValid v → (c p : ℕ) → has_stream v c p ≡ true → (c < length v.components) × (p < length (component_at v c).ports)
end_there v valid c p has = let one = some_stream v c p has in valid.numbered.ends one.0 (c, p) one.1.stands (goes_is v c p one.0 one.1.goes)

-- ---- the stream of an output

found_at : (test : Stream → Bool) (streams : List Stream) (from k : ℕ) → k < length streams → test (get_or streams k no_stream) ≡ true
    → (n : ℕ) × (position_from test from streams ≡ Some (from + n)) × (n < length streams) × (test (get_or streams n no_stream) ≡ true)
found_at test [] from k lt e = absurd (omega arith)
found_at test (s ∷ streams) from zero lt e = (0, ap (λ b. cond b (Some from) (position_from test (from + 1) streams)) e ∙ (let n : from ≡ from + 0 = omega arith in ap Some n), omega arith, e)
found_at test (s ∷ streams) from (suc k) lt e =
    elim (test s) as (λ b. test s ≡ b → (n : ℕ) × (position_from test from (s ∷ streams) ≡ Some (from + n)) × (n < length (s ∷ streams)) × (test (get_or (s ∷ streams) n no_stream) ≡ true)) [
      | true ↦ λ t. (0, ap (λ b. cond b (Some from) (position_from test (from + 1) streams)) t ∙ (let n : from ≡ from + 0 = omega arith in ap Some n), omega arith, t)
      | false ↦ λ f.
          let r = found_at test streams (from + 1) k (omega (arith, lt)) e in
          (suc r.0, ap (λ b. cond b (Some from) (position_from test (from + 1) streams)) f ∙ r.1 ∙ (let n : (from + 1) + r.0 ≡ from + suc r.0 = omega arith in ap Some n), (let lt = r.2 in omega (arith, lt)), r.3)
    ] refl

origin_same : (c o : ℕ) (origin : Option End) → option_map_or (same_end (c, o)) origin false ≡ true → origin ≡ Some (c, o)
origin_same c o None e = cc
origin_same c o (Some end) e =
    let both = both_true (c == end.0) (o == end.1) e in
    let first : c ≡ end.0 = eqb-true c end.0 both.0 in
    let second : o ≡ end.1 = eqb-true o end.1 both.1 in
    let f : ℕ → ℕ → End = λ a b. (a, b) in
    ap Some (sym (ap (λ a. f a o) first ∙ ap (f end.0) second))

-- it is the one that comes from there
pub own_stream : (v : View) → IsValid v → (c o s : ℕ) → s < length v.streams → origin_of v s ≡ Some (c, o) → stream_of v c o ≡ Some s
own_stream v valid c o s lt is =
    let test : Stream → Bool = λ stream. option_map_or (same_end (c, o)) stream.origin false in
    let passes : test (stream_at v s) ≡ true = ap (λ origin. option_map_or (same_end (c, o)) origin false) is ∙ and_from (c == c) (o == o) (eq-eqb c c refl) (eq-eqb o o refl) in
    let f = found_at test v.streams 0 s lt passes in
    let same : f.0 ≡ s = valid.numbered.one_stream f.0 s (c, o) f.2 lt (origin_same c o (stream_at v f.0).origin f.3) is in
    let n : 0 + f.0 ≡ f.0 = omega arith in
    f.1 ∙ ap Some (n ∙ same)
