use Rattle.std.proofs.Common.{rules, ◌≡◌, ◌<◌, ◌≤◌, ◌∷◌, [], ◌++◌, ℕ, ◌+◌, ◌-◌, length, take, drop, get_or, List, arith, append_assoc, append-nil, ap, refl, sym, ◌∙◌}
use Rattle.std.proofs.lemmas.List.{take_more, drop_all, drop-append-le, drop-take, length-take-le, take_all, length-drop}
use Rattle.std.proofs.lemmas.Grind.{flat_map-append}
use Rattle.blz_value.specs.Text.{escaped_byte, escaped, BeginsWith}
use Rattle.blz_value.proofs.Beginnings.{begins_same, begins_on, begins_behind, begins_still, begins_either, appended_where_ok}
use Rattle.blz_value.proofs.write.push_escaped.Goals as goal
use Rattle.blz_value.proofs.write.push_escaped.Goals.{then-is_escaped+in_ok-extend_from_slice+in_ok-push_escaped_byte, else-is_escaped}

escaped-more : (bytes : List ℕ) (i : ℕ) → i < length bytes → escaped (take (i + 1) bytes) ≡ escaped (take i bytes) ++ escaped_byte (get_or bytes i 0)
escaped-more bytes i lt = ap escaped (take_more bytes i 0 lt) ∙ flat_map-append escaped_byte (take i bytes) (get_or bytes i 0 ∷ []) ∙ ap (λ z. escaped (take i bytes) ++ z) (append-nil (escaped_byte (get_or bytes i 0)))

-- the run in the list so far
run-taken : (bytes : List ℕ) (start i : ℕ) → start ≤ i → take (i - start) (drop start bytes) ≡ drop start (take i bytes)
run-taken bytes start i le =
    let whole : start + (i - start) ≡ i = omega arith in
    sym (drop-take start (i - start) bytes) ∙ ap (λ n. drop start (take n bytes)) whole

-- an escape ends the run
run-ended : (bytes into old : List ℕ) (i : ℕ) → i < length bytes → into ≡ old ++ escaped (take i bytes) → (into ++ escaped_byte (get_or bytes i 0)) ++ drop (i + 1) (take (i + 1) bytes) ≡ old ++ escaped (take (i + 1) bytes)
run-ended bytes into old i lt e =
    let none : drop (i + 1) (take (i + 1) bytes) ≡ [] = drop_all (i + 1) (take (i + 1) bytes) (omega (arith, length-take-le (i + 1) bytes)) in
    rw (none, append-nil, e, escaped-more bytes i lt) (append_assoc old (escaped (take i bytes)) (escaped_byte (get_or bytes i 0)))

-- a plain byte makes it longer
run-longer : (bytes into old : List ℕ) (start i : ℕ) → i < length bytes → start ≤ i → escaped_byte (get_or bytes i 0) ≡ get_or bytes i 0 ∷ [] → into ++ drop start (take i bytes) ≡ old ++ escaped (take i bytes) → into ++ drop start (take (i + 1) bytes) ≡ old ++ escaped (take (i + 1) bytes)
run-longer bytes into old start i lt le plain e =
    let more : drop start (take (i + 1) bytes) ≡ drop start (take i bytes) ++ get_or bytes i 0 ∷ [] =
    ap (drop start) (take_more bytes i 0 lt) ∙ drop-append-le start (take i bytes) (get_or bytes i 0 ∷ []) (omega (arith, length-take-le i bytes)) in
    rw (more, escaped-more bytes i lt, plain, ← append_assoc, e) (append_assoc old (escaped (take i bytes)) (get_or bytes i 0 ∷ []))

-- the last run goes to the end
run-last : (bytes text into old : List ℕ) (start i : ℕ) → length bytes ≤ i → bytes ≡ text → into ++ drop start (take i bytes) ≡ old ++ escaped (take i bytes) → into ++ take (length bytes - start) (drop start bytes) ≡ old ++ escaped text
run-last bytes text into old start i le same e =
    let all : take i bytes ≡ bytes = take_all i bytes le in
    let rest : take (length bytes - start) (drop start bytes) ≡ drop start bytes = take_all (length bytes - start) (drop start bytes) (omega (arith, length-drop start bytes)) in
    ap (λ z. into ++ z) (rest ∙ ap (drop start) (sym all)) ∙ e ∙ ap (λ z. old ++ escaped z) (all ∙ same)

pub loop-i-preserved : goal.loop-i-preserved
loop-i-preserved c = elim c.if-is_escaped.branch [
  | then-is_escaped+in_ok-extend_from_slice+in_ok-push_escaped_byte w ↦ (
      let run = run-taken c.as_bytes-bytes.result.now c.loop-i.start c.loop-i.i (omega arith) in
      let into : w.extend_from_slice.new.self.items ≡ c.args.into.now.items ++ escaped (take c.loop-i.i c.as_bytes-bytes.result.now) =
      w.in_ok-extend_from_slice.ensures.items ∙ ap (λ z. c.loop-i.into.items ++ z) run ∙ c.loop-i.invariant.written in
      let items : c.if-is_escaped.into.items ≡ w.extend_from_slice.new.self.items ++ escaped_byte (get_or c.as_bytes-bytes.result.now c.loop-i.i 0) = search rules in
      let old = c.args.into.now.items in
      let escape = escaped_byte (get_or c.as_bytes-bytes.result.now c.loop-i.i 0) in
      let begun : BeginsWith old w.extend_from_slice.new.self.items =
      begins_behind old c.loop-i.into.items w.extend_from_slice.new.self.items (take (c.loop-i.i - c.loop-i.start) (drop c.loop-i.start c.as_bytes-bytes.result.now)) c.loop-i.invariant.begins w.in_ok-extend_from_slice.ensures.items in
      rw (items, w.start-is) (record {
        before = omega arith;
        written = run-ended c.as_bytes-bytes.result.now w.extend_from_slice.new.self.items c.args.into.now.items c.loop-i.i (omega arith) into;
        begins = begins_behind old w.extend_from_slice.new.self.items (w.extend_from_slice.new.self.items ++ escape) escape begun refl;
      }))
  | else-is_escaped w ↦ (
      let plain : escaped_byte (get_or c.as_bytes-bytes.result.now c.loop-i.i 0) ≡ get_or c.as_bytes-bytes.result.now c.loop-i.i 0 ∷ [] = search rules in
      rw (w.into-is, w.start-is) (record {
        before = omega arith;
        written = run-longer c.as_bytes-bytes.result.now c.loop-i.into.items c.args.into.now.items c.loop-i.start c.loop-i.i (omega arith) (omega arith) plain c.loop-i.invariant.written;
        begins = c.loop-i.invariant.begins;
      }))
]

pub returns-in_err-push_escaped_byte-clause-begins : goal.returns-in_err-push_escaped_byte-clause-begins
returns-in_err-push_escaped_byte-clause-begins c =
    let old = c.args.into.now.items in
    let begun : BeginsWith old c.extend_from_slice.new.self.items =
    begins_behind old c.loop-i.into.items c.extend_from_slice.new.self.items (take (c.loop-i.i - c.loop-i.start) (drop c.loop-i.start c.as_bytes-bytes.result.now)) c.loop-i.invariant.begins c.in_ok-extend_from_slice.ensures.items in
    begins_on old c.extend_from_slice.new.self.items c.push_escaped_byte.new.into.items begun c.push_escaped_byte.ensures.begins

pub loop-i-init : goal.loop-i-init
loop-i-init c = record {
  before = omega arith;
  written = refl;
  begins = begins_same c.args.into.now.items;
}

pub returns-in_err-extend_from_slice-clause-begins : goal.returns-in_err-extend_from_slice-clause-begins
returns-in_err-extend_from_slice-clause-begins c =
    begins_still c.args.into.now.items c.loop-i.into.items c.extend_from_slice.new.self.items c.loop-i.invariant.begins c.in_err-extend_from_slice.ensures.items

pub returns-clause-ok : goal.returns-clause-ok
returns-clause-ok c =
    appended_where_ok c.extend_from_slice-2.result c.loop-i.into.items c.extend_from_slice-2.new.self.items _ _ c.extend_from_slice-2.ensures.items
    (run-last c.as_bytes-bytes.result.now c.args.text.now c.loop-i.into.items c.args.into.now.items c.loop-i.start c.loop-i.i c.loop-i-test.false c.as_bytes-bytes.ensures.value c.loop-i.invariant.written)

pub returns-clause-begins : goal.returns-clause-begins
returns-clause-begins c =
    begins_either _ c.args.into.now.items c.loop-i.into.items c.extend_from_slice-2.new.self.items _ c.loop-i.invariant.begins c.extend_from_slice-2.ensures.items

pub slice_bounds-extend_from_slice-count : goal.slice_bounds-extend_from_slice-count
slice_bounds-extend_from_slice-count c = omega (arith, c.loop-i.invariant.before)
