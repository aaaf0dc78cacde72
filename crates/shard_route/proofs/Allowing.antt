-- Where the new names can be given, the new topology is one that a topology file allows.
use Rattle.std.proofs.Common.{◌≡◌, ◌∙◌, ◌+◌, ◌<◌, ◌≤◌, ◌&&◌, ◌||◌, ℕ, nat_le, Bool, true, false, cond, List, [], ◌∷◌, ◌++◌, length, map, refl, ap, sym, subst, inl, inr, arith, length-append}
use Rattle.std.specs.Prelude.{◌==◌, codes}
use Rattle.std.specs.Fmt.{decimal}
use Rattle.std.specs.List.{flat_map, list_all, list_any}
use Rattle.std.specs.Str.{bytes_eq}
use Rattle.std.proofs.lemmas.Bool.{true≢false, ltb-false, le-leb, leb-true}
use Rattle.std.proofs.lemmas.Fmt.{decimal_digit}
use Rattle.std.proofs.lemmas.List.Folds.{list_all-append}
use Rattle.std.proofs.lemmas.Slice.Eq.{bytes_eq-Decides}
use Rattle.blz_value.specs.Members.{Has}
use Rattle.blz_value.specs.Name.{is_name, is_name_start, is_name_byte, starts_name}
use Rattle.blz_value.proofs.Booleans.{and_true, both_true, or_right, neither}
use Rattle.blz_value.proofs.Lists.{any-none as any_none}
use Rattle.bloom_forms.specs.Query.{Name}
use Rattle.topo_forms.specs.declared.topology.SourceEntry.{SourceEntry}
use Rattle.topo_forms.specs.declared.topology.ComponentEntry.{ComponentEntry}
use Rattle.topo_forms.specs.declared.topology.StreamEntry.{StreamEntry}
use Rattle.topo_forms.specs.declared.topology.FdEntry.{FdEntry}
use Rattle.topo_forms.specs.declared.topology.Spot.{Spot}
use Rattle.topo_forms.specs.declared.topology.Topology.{Topology}
use Rattle.topo_forms.specs.Allowed.{IsAllowed, are_names, are_some_names, is_spot, allows_source, allows_body, allows_note, allows_key, allows_component, allows_stream, most_names, allows_side, allows_fd}
use Rattle.shard_route.specs.Routing.{numbered, file_of, copied_spot, sharded_spot, sharded_ends, sharded_source, copied_component, sharded_component, copied_stream, sharded_stream, sharded_topology, is_long_name, has_file, has_bad_names}

-- ---- lists

all_flat : {X Y : Type 0} (p : X → Bool) (q : Y → Bool) (f : X → List Y) (xs : List X) → ((x : X) → p x ≡ true → list_all q (f x) ≡ true) → list_all p xs ≡ true → list_all q (flat_map f xs) ≡ true
all_flat p q f [] each all = refl
all_flat p q f (x ∷ xs) each all =
    let b = both_true (p x) (list_all p xs) all in
    list_all-append q (f x) (flat_map f xs) ∙ and_true (list_all q (f x)) (list_all q (flat_map f xs)) (each x b.0) (all_flat p q f xs each b.1)

all_map : {X Y : Type 0} (p : X → Bool) (q : Y → Bool) (f : X → Y) (xs : List X) → ((x : X) → p x ≡ true → q (f x) ≡ true) → list_all p xs ≡ true → list_all q (map f xs) ≡ true
all_map p q f [] each all = refl
all_map p q f (x ∷ xs) each all = let b = both_true (p x) (list_all p xs) all in and_true (q (f x)) (list_all q (map f xs)) (each x b.0) (all_map p q f xs each b.1)

all_copies : {Y : Type 0} (q : Y → Bool) (f : ℕ → Y) (numbers : List ℕ) → ((i : ℕ) → Has i numbers → q (f i) ≡ true) → list_all q (map f numbers) ≡ true
all_copies q f [] each = refl
all_copies q f (i ∷ numbers) each = and_true (q (f i)) (list_all q (map f numbers)) (each i (inl refl)) (all_copies q f numbers (λ j h. each j (inr h)))

any_append : {X : Type 0} (p : X → Bool) (xs ys : List X) → list_any p (xs ++ ys) ≡ false → (list_any p xs ≡ false) × (list_any p ys ≡ false)
any_append p [] ys e = (refl, e)
any_append p (x ∷ xs) ys e =
    let n = neither (p x) (list_any p (xs ++ ys)) e in
    let more = any_append p xs ys n.1 in
    (rw (n.0, more.0) refl, more.1)

-- ---- names

digit_named : (n : ℕ) → n < 10 → is_name_byte (48 + n) ≡ true
digit_named n lt = or_right (is_name_start (48 + n)) (nat_le 48 (48 + n) && nat_le (48 + n) 57) (and_true (nat_le 48 (48 + n)) (nat_le (48 + n) 57) (le-leb 48 (48 + n) (omega arith)) (le-leb (48 + n) 57 (omega (arith, lt))))

starts : (name more : Name) → starts_name name ≡ true → starts_name (name ++ more) ≡ true
starts [] more e = absurd (true≢false (sym e))
starts (x ∷ name) more e = e

-- a name with a digit behind it is one, where it isn't too long
numbered_named : (name : Name) (i : ℕ) → i < 10 → is_name name ≡ true → is_long_name (numbered name i) ≡ false → is_name (numbered name i) ≡ true
numbered_named name i lt named short =
    let b = both_true (starts_name name) (nat_le (length name) 64 && list_all is_name_byte name) named in
    let c = both_true (nat_le (length name) 64) (list_all is_name_byte name) b.1 in
    let digit : list_all is_name_byte (decimal i) ≡ true = ap (list_all is_name_byte) (decimal_digit i lt) ∙ and_true (is_name_byte (48 + i)) true (digit_named i lt) refl in
    let bytes : list_all is_name_byte (numbered name i) ≡ true = list_all-append is_name_byte name (codes "_" ++ decimal i) ∙ and_true (list_all is_name_byte name) (list_all is_name_byte (codes "_" ++ decimal i)) c.1 digit in
    let few : nat_le (length (numbered name i)) 64 ≡ true = le-leb (length (numbered name i)) 64 (ltb-false 64 (length (numbered name i)) short) in
    and_true (starts_name (numbered name i)) (nat_le (length (numbered name i)) 64 && list_all is_name_byte (numbered name i)) (starts name (codes "_" ++ decimal i) b.0)
    (and_true (nat_le (length (numbered name i)) 64) (list_all is_name_byte (numbered name i)) few bytes)

-- ---- parts

module _ (name : Name) (numbers : List ℕ) (small : (i : ℕ) → Has i numbers → i < 10) (short : (i : ℕ) → Has i numbers → is_long_name (numbered name i) ≡ false) where
  short_of : (own : Name) → bytes_eq own name ≡ true → (i : ℕ) → Has i numbers → is_long_name (numbered own i) ≡ false
  short_of own e i h = subst (λ (n : Name). is_long_name (numbered n i) ≡ false) (sym ((bytes_eq-Decides own name).0 e)) (short i h)

  spot_copied : (spot : Spot) → is_spot spot ≡ true → bytes_eq spot.component name ≡ true → (i : ℕ) → Has i numbers → is_spot (copied_spot spot i) ≡ true
  spot_copied spot ok e i h =
      let b = both_true (is_name spot.component) (is_name spot.port) ok in
      and_true (is_name (numbered spot.component i)) (is_name spot.port) (numbered_named spot.component i (small i h) b.0 (short_of spot.component e i h)) b.1

  spot_allowed : (spot : Spot) → is_spot spot ≡ true → list_all is_spot (sharded_spot name numbers spot) ≡ true
  spot_allowed spot ok = go (bytes_eq spot.component name) refl
    where
      go : (b : Bool) → bytes_eq spot.component name ≡ b → list_all is_spot (cond b (map (copied_spot spot) numbers) (spot ∷ [])) ≡ true
      go true e = all_copies is_spot (copied_spot spot) numbers (spot_copied spot ok e)
      go false e = and_true (is_spot spot) true ok refl

  ends_allowed : (ends : List Spot) → list_all is_spot ends ≡ true → list_all is_spot (sharded_ends name numbers ends) ≡ true
  ends_allowed ends all = all_flat is_spot is_spot (sharded_spot name numbers) ends spot_allowed all

  source_allowed : (s : SourceEntry) → allows_source s ≡ true → allows_source (sharded_source name numbers s) ≡ true
  source_allowed s ok =
      let a = both_true (is_name s.name) (are_some_names s.columns && (length s.types == length s.columns && (are_names s.seal && list_all is_spot s.to))) ok in
      let b = both_true (are_some_names s.columns) (length s.types == length s.columns && (are_names s.seal && list_all is_spot s.to)) a.1 in
      let c = both_true (length s.types == length s.columns) (are_names s.seal && list_all is_spot s.to) b.1 in
      let d = both_true (are_names s.seal) (list_all is_spot s.to) c.1 in
      let ends = sharded_ends name numbers s.to in
      and_true (is_name s.name) (are_some_names s.columns && (length s.types == length s.columns && (are_names s.seal && list_all is_spot ends))) a.0
      (and_true (are_some_names s.columns) (length s.types == length s.columns && (are_names s.seal && list_all is_spot ends)) b.0
      (and_true (length s.types == length s.columns) (are_names s.seal && list_all is_spot ends) c.0
      (and_true (are_names s.seal) (list_all is_spot ends) d.0 (ends_allowed s.to d.1))))

  file_fits : (own : Name) (i : ℕ) → is_long_name (numbered own i) ≡ false → (nat_le 1 (length (file_of own i)) && (nat_le (length (file_of own i)) 255 && (true && true))) ≡ true
  file_fits own i fits =
      let most = ltb-false 64 (length (numbered own i)) fits in
      let count = length-append (numbered own i) (codes ".bloom") in
      let some : 1 ≤ length (file_of own i) = omega (arith, count) in
      let few : length (file_of own i) ≤ 255 = omega (arith, count, most) in
      and_true (nat_le 1 (length (file_of own i))) (nat_le (length (file_of own i)) 255 && (true && true)) (le-leb 1 (length (file_of own i)) some) (and_true (nat_le (length (file_of own i)) 255) (true && true) (le-leb (length (file_of own i)) 255 few) refl)

  component_allowed : (c : ComponentEntry) → allows_component c ≡ true → list_all allows_component (sharded_component name numbers c) ≡ true
  component_allowed c ok = go (bytes_eq c.name name) refl
    where
      a : (is_name c.name ≡ true) × ((allows_body c.body c.inputs c.outputs && (list_all allows_note c.notes && allows_key c.mode c.key)) ≡ true)
      a = both_true (is_name c.name) (allows_body c.body c.inputs c.outputs && (list_all allows_note c.notes && allows_key c.mode c.key)) ok

      b : (allows_body c.body c.inputs c.outputs ≡ true) × ((list_all allows_note c.notes && allows_key c.mode c.key) ≡ true)
      b = both_true (allows_body c.body c.inputs c.outputs) (list_all allows_note c.notes && allows_key c.mode c.key) a.1

      go : (same : Bool) → bytes_eq c.name name ≡ same → list_all allows_component (cond same (map (copied_component c) numbers) (c ∷ [])) ≡ true
      go true e = all_copies allows_component (copied_component c) numbers (λ i h.
          let fits = short_of c.name e i h in
          and_true (is_name (numbered c.name i)) (allows_body (copied_component c i).body [] [] && (list_all allows_note c.notes && allows_key c.mode c.key)) (numbered_named c.name i (small i h) a.0 fits)
          (and_true (allows_body (copied_component c i).body [] []) (list_all allows_note c.notes && allows_key c.mode c.key) (file_fits c.name i fits) b.1))
      go false e = and_true (allows_component c) true ok refl

  -- ---- streams

  stream_allowed : (s : StreamEntry) → allows_stream s ≡ true → list_any (λ (t : StreamEntry). is_long_name t.name) (sharded_stream name numbers s) ≡ false → list_all allows_stream (sharded_stream name numbers s) ≡ true
  stream_allowed s ok fits = go (bytes_eq s.from.component name) refl fits
    where
      a : (is_name s.name ≡ true) × ((is_spot s.from && list_all is_spot s.to) ≡ true)
      a = both_true (is_name s.name) (is_spot s.from && list_all is_spot s.to) ok

      b : (is_spot s.from ≡ true) × (list_all is_spot s.to ≡ true)
      b = both_true (is_spot s.from) (list_all is_spot s.to) a.1

      ends : List Spot
      ends = sharded_ends name numbers s.to

      short_name : (some : List ℕ) → list_any (λ (t : StreamEntry). is_long_name t.name) (map (copied_stream ends s) some) ≡ false → (i : ℕ) → Has i some → is_long_name (numbered s.name i) ≡ false
      short_name [] e i h = absurd h
      short_name (j ∷ some) e i (inl same) = subst (λ (k : ℕ). is_long_name (numbered s.name k) ≡ false) same (neither (is_long_name (numbered s.name j)) (list_any (λ (t : StreamEntry). is_long_name t.name) (map (copied_stream ends s) some)) e).0
      short_name (j ∷ some) e i (inr h) = short_name some (neither (is_long_name (numbered s.name j)) (list_any (λ (t : StreamEntry). is_long_name t.name) (map (copied_stream ends s) some)) e).1 i h

      go : (same : Bool) → bytes_eq s.from.component name ≡ same
          → list_any (λ (t : StreamEntry). is_long_name t.name) (cond same (map (copied_stream ends s) numbers) (record { name = s.name; from = s.from; to = ends } ∷ [])) ≡ false
          → list_all allows_stream (cond same (map (copied_stream ends s) numbers) (record { name = s.name; from = s.from; to = ends } ∷ [])) ≡ true
      go true e names = all_copies allows_stream (copied_stream ends s) numbers (λ i h.
          and_true (is_name (numbered s.name i)) (is_spot (copied_spot s.from i) && list_all is_spot ends) (numbered_named s.name i (small i h) a.0 (short_name numbers names i h))
          (and_true (is_spot (copied_spot s.from i)) (list_all is_spot ends) (spot_copied s.from b.0 e i h) (ends_allowed s.to b.1)))
      go false e names = and_true (is_name s.name && (is_spot s.from && list_all is_spot ends)) true (and_true (is_name s.name) (is_spot s.from && list_all is_spot ends) a.0 (and_true (is_spot s.from) (list_all is_spot ends) b.0 (ends_allowed s.to b.1))) refl

  streams_allowed : (streams : List StreamEntry) → list_all allows_stream streams ≡ true → list_any (λ (t : StreamEntry). is_long_name t.name) (flat_map (sharded_stream name numbers) streams) ≡ false
      → list_all allows_stream (flat_map (sharded_stream name numbers) streams) ≡ true
  streams_allowed [] all fits = refl
  streams_allowed (s ∷ streams) all fits =
      let b = both_true (allows_stream s) (list_all allows_stream streams) all in
      let n = any_append (λ (t : StreamEntry). is_long_name t.name) (sharded_stream name numbers s) (flat_map (sharded_stream name numbers) streams) fits in
      list_all-append allows_stream (sharded_stream name numbers s) (flat_map (sharded_stream name numbers) streams) ∙ and_true (list_all allows_stream (sharded_stream name numbers s)) (list_all allows_stream (flat_map (sharded_stream name numbers) streams)) (stream_allowed s b.0 n.0) (streams_allowed streams b.1 n.1)

-- ---- dependencies, which format 2 allows where format 1 does

side_allowed : (format : ℕ) (names : List Name) → allows_side format names ≡ true → allows_side 2 names ≡ true
side_allowed format names ok = go (format == 1) ok
  where
    go : (b : Bool) → (are_some_names names && nat_le (length names) (most_names format b)) ≡ true → (are_some_names names && nat_le (length names) 8) ≡ true
    go true e =
        let p = both_true (are_some_names names) (nat_le (length names) 1) e in
        let few : length names ≤ 8 = omega (arith, leb-true (length names) 1 p.1) in
        and_true (are_some_names names) (nat_le (length names) 8) p.0 (le-leb (length names) 8 few)
    go false e = e

fd_allowed : (format : ℕ) (fd : FdEntry) → allows_fd format fd ≡ true → allows_fd 2 fd ≡ true
fd_allowed format fd ok =
    let b = both_true (allows_side format fd.from) (allows_side format fd.to) ok in
    and_true (allows_side 2 fd.from) (allows_side 2 fd.to) (side_allowed format fd.from b.0) (side_allowed format fd.to b.1)

fds_allowed : (format : ℕ) (fds : List FdEntry) → list_all (allows_fd format) fds ≡ true → list_all (allows_fd 2) fds ≡ true
fds_allowed format [] all = refl
fds_allowed format (fd ∷ fds) all =
    let b = both_true (allows_fd format fd) (list_all (allows_fd format) fds) all in
    and_true (allows_fd 2 fd) (list_all (allows_fd 2) fds) (fd_allowed format fd b.0) (fds_allowed format fds b.1)

-- ---- the whole

pub sharded_allowed : (t : Topology) (name : Name) (numbers : List ℕ) → ((i : ℕ) → Has i numbers → i < 10) → IsAllowed t → has_bad_names t name numbers ≡ false → IsAllowed (sharded_topology t name numbers)
sharded_allowed t name numbers small allowed good =
    let a = both_true (t.format == 1 || t.format == 2) (list_all allows_source t.sources && (list_all allows_component t.components && (list_all allows_stream t.streams && list_all (allows_fd t.format) t.fds))) allowed in
    let b = both_true (list_all allows_source t.sources) (list_all allows_component t.components && (list_all allows_stream t.streams && list_all (allows_fd t.format) t.fds)) a.1 in
    let c = both_true (list_all allows_component t.components) (list_all allows_stream t.streams && list_all (allows_fd t.format) t.fds) b.1 in
    let d = both_true (list_all allows_stream t.streams) (list_all (allows_fd t.format) t.fds) c.1 in
    let streams : List StreamEntry = flat_map (sharded_stream name numbers) t.streams in
    let n = neither (list_any (λ i. is_long_name (numbered name i)) numbers || list_any (λ (s : StreamEntry). is_long_name s.name) streams) (list_any (λ i. has_file t.components (file_of name i)) numbers) good in
    let m = neither (list_any (λ i. is_long_name (numbered name i)) numbers) (list_any (λ (s : StreamEntry). is_long_name s.name) streams) n.0 in
    let short : (i : ℕ) → Has i numbers → is_long_name (numbered name i) ≡ false = any_none (λ i. is_long_name (numbered name i)) numbers m.0 in
    and_true (list_all allows_source (map (sharded_source name numbers) t.sources)) _ (all_map allows_source allows_source (sharded_source name numbers) t.sources (source_allowed name numbers small short) b.0)
    (and_true (list_all allows_component (flat_map (sharded_component name numbers) t.components)) _ (all_flat allows_component allows_component (sharded_component name numbers) t.components (component_allowed name numbers small short) c.0)
    (and_true (list_all allows_stream (flat_map (sharded_stream name numbers) t.streams)) _ (streams_allowed name numbers small short t.streams d.0 m.1) (fds_allowed t.format t.fds d.1)))
