-- Rows that split by classes in each step split so over all steps.
use Rattle.std.proofs.Common.{◌≡◌, ◌++◌, ℕ, Bool, List, [], ◌∷◌, map, get_or, refl, ap, ◌∙◌, sym, subst, inl, inr}
use Rattle.std.specs.Prelude.{is_some}
use Rattle.std.specs.List.{fold}
use Rattle.std.proofs.lemmas.List.{map-append}
use Rattle.blz_value.specs.Members.{Has}
use Rattle.blz_value.specs.Record.{Row}
use Rattle.blz_value.proofs.Membership.{All-of_member, Has-get_or, Has-append_left, Has-append_right, Has-append_cases}
use Rattle.blz_value.proofs.SetLaws.{Has-set_of, Has-from_set_of}
use Rattle.blz_value.specs.declared.attrs.Fd.{Fd}
use Rattle.bloom_forms.specs.declared.program.Program.{Program}
use Rattle.bloom_forms.specs.Program.{port_columns}
use Rattle.bloom_forms.specs.ProgramStep.{tables_after_step, empty_tables}
use Rattle.bloom_forms.specs.Query.{Name}
use Rattle.bloom_forms.specs.Step.{Sets}
use Rattle.bloom_forms.specs.Widths.{AreSetsOf}
use Rattle.bloom_forms.specs.Steps.{tables_after_steps, AreArrivals}
use Rattle.bloom_forms.specs.Annotation.{note_of, gate_of_output}
use Rattle.bloom_forms.specs.Classes.{Arriving, AreKeyed, of_class}
use Rattle.bloom_forms.specs.Runs.{output_rows, over_steps}
use Rattle.bloom_forms.specs.Splitting.{StepsSplit, RunsSplit, SplitsByClass}

-- each output of a program splits in each step
abbrev pub OutputsSplitByStep : (names : List Name) → Program → Type 0
OutputsSplitByStep names program = (output : ℕ) → StepsSplit names program (output_rows program output) (λ port. is_some (note_of names program port output)) (gate_of_output names program output)

-- a row of a run, and the step that has it
pub record IsEmitted (program : Program) (rows : Sets → Sets → List Row) (kept : Sets) (nows : List Sets) (row : Row) : Type 0 where
  pub earlier : List Sets
  pub now : Sets
  pub later : List Sets
  pub is : nows ≡ earlier ++ now ∷ later
  pub stands : Has row (rows (fold (tables_after_step program) kept earlier) now)

pub emitted : (program : Program) (rows : Sets → Sets → List Row) (kept : Sets) (nows : List Sets) (row : Row)
    → Has row (over_steps program rows kept nows) → IsEmitted program rows kept nows row
emitted program rows kept [] row h = absurd h
emitted program rows kept (now ∷ nows) row h = elim (Has-append_cases row (rows kept now) (over_steps program rows (tables_after_step program kept now) nows) h) [
  | inl here ↦ record { earlier = []; now = now; later = nows; is = refl; stands = here }
  | inr after ↦ let e = emitted program rows (tables_after_step program kept now) nows row after in record { earlier = now ∷ e.earlier; now = e.now; later = e.later; is = λ i. now ∷ e.is i; stands = e.stands }
]

pub in_over : (program : Program) (rows : Sets → Sets → List Row) (kept : Sets) (earlier later : List Sets) (now : Sets) (row : Row)
    → Has row (rows (fold (tables_after_step program) kept earlier) now)
    → Has row (over_steps program rows kept (earlier ++ now ∷ later))
in_over program rows kept [] later now row h = Has-append_left row (rows kept now) (over_steps program rows (tables_after_step program kept now) later) h
in_over program rows kept (n ∷ earlier) later now row h = Has-append_right row (rows kept n) (over_steps program rows (tables_after_step program kept n) (earlier ++ now ∷ later)) (in_over program rows (tables_after_step program kept n) earlier later now row h)

-- a map of a list in three parts, and back
pub map_parts : {X Y : Type 0} (f : X → Y) (xs before after : List X) (x : X) → xs ≡ before ++ x ∷ after
    → map f xs ≡ map f before ++ f x ∷ map f after
map_parts f xs before after x is = ap (map f) is ∙ map-append f before (x ∷ after)

pub record IsMapped {X Y : Type 0} (f : X → Y) (xs : List X) (left : List Y) (y : Y) (right : List Y) : Type 0 where
  pub before : List X
  pub middle : X
  pub after : List X
  pub is : xs ≡ before ++ middle ∷ after
  pub lefts : map f before ≡ left
  pub here : f middle ≡ y

pub mapped : {X Y : Type 0} (f : X → Y) (xs : List X) (left : List Y) (y : Y) (right : List Y)
    → map f xs ≡ left ++ y ∷ right → IsMapped f xs left y right
mapped f [] [] y right e = cc
mapped f [] (l ∷ left) y right e = cc
mapped f (x ∷ xs) [] y right e = let first : f x ≡ y = cc in record { before = []; middle = x; after = xs; is = refl; lefts = refl; here = first }
mapped {X} {Y} f (x ∷ xs) (l ∷ left) y right e =
    let first : f x ≡ l = cc in
    let rest : map f xs ≡ left ++ y ∷ right = cc in
    let m = mapped f xs left y right rest in
    record { before = x ∷ m.before; middle = m.middle; after = m.after; is = λ i. x ∷ m.is i; lefts = λ i. first i ∷ m.lefts i; here = m.here }

module _ (names : List Name) (program : Program) (rows : Sets → Sets → List Row) (is_used : ℕ → Bool) (gate : ℕ) (steps : StepsSplit names program rows is_used gate) where
  abbrev start : Sets
  start = empty_tables program

  -- a first piece of a run
  fewer_keyed : (nows fewer : List Sets) (fds : List Fd) (key : List ℕ) → ((now : Sets) → Has now fewer → Has now nows)
      → AreKeyed names program nows is_used fds key → AreKeyed names program fewer is_used fds key
  fewer_keyed nows fewer fds key among keyed =
      let up : Arriving program fewer is_used → Arriving program nows is_used = λ x. record { port = x.port; used = x.used; now = x.now; came = among x.now x.came; row = x.row; stands = x.stands } in
      record {
        keyed = λ x. keyed.keyed (up x);
        whole = λ x fd stands from. keyed.whole (up x) fd stands from;
        hold = λ x y fd stands xf xt yf yt same. keyed.hold (up x) (up y) fd stands xf xt yf yt same;
      }

  fewer_arrivals : (nows fewer : List Sets) → ((now : Sets) → Has now fewer → Has now nows) → AreArrivals program nows
      → AreArrivals program fewer
  fewer_arrivals nows fewer among arrivals k d lt = All-of_member (AreSetsOf (port_columns program)) nows (get_or fewer k d) arrivals (among (get_or fewer k d) (Has-get_or fewer k d lt))

  moved : (first second : List Sets) (now other : Sets) (row : Row) → first ≡ second → now ≡ other
      → Has row (rows (tables_after_steps program second) other) → Has row (rows (tables_after_steps program first) now)
  moved first second now other row e f h = subst (λ (l : List Sets). Has row (rows (tables_after_steps program l) now)) (sym e) (subst (λ (n : Sets). Has row (rows (tables_after_steps program second) n)) (sym f) h)

  pub runs_split : RunsSplit names program rows is_used gate
  runs_split nows fds key class_of arrivals keyed closed row =
      let part : Row → Sets → Sets = λ class now. of_class names program key class_of class now in
      let piece : (earlier later : List Sets) (now : Sets) → nows ≡ earlier ++ now ∷ later → (other : Sets) → Has other (earlier ++ now ∷ []) → Has other nows = λ earlier later now is other h.
      subst (λ (l : List Sets). Has other l) (sym is) (elim (Has-append_cases other earlier (now ∷ []) h) [
        | inl e ↦ Has-append_left other earlier (now ∷ later) e
        | inr rest ↦ elim rest [ inl e ↦ Has-append_right other earlier (now ∷ later) (inl e) | inr never ↦ absurd never ]
      ]) in
      let law = λ (earlier later : List Sets) (now : Sets) (is : nows ≡ earlier ++ now ∷ later).
      steps earlier now fds key class_of (fewer_arrivals nows (earlier ++ now ∷ []) (piece earlier later now is) arrivals) (fewer_keyed nows (earlier ++ now ∷ []) fds key (piece earlier later now is) keyed) closed row in (
        λ h.
            let e = emitted program rows start nows row (Has-from_set_of row (over_steps program rows start nows) h) in
            let s = (law e.earlier e.later e.now e.is).0 e.stands in
            let all = map_parts (part s.0) nows e.earlier e.later e.now e.is in
            let there = in_over program rows start (map (part s.0) e.earlier) (map (part s.0) e.later) (part s.0 e.now) row s.1 in
            (s.0, Has-set_of row (over_steps program rows start (map (part s.0) nows)) (rw all there)),
        λ p.
            let parts = map (part p.0) nows in
            let e = emitted program rows start parts row (Has-from_set_of row (over_steps program rows start parts) p.1) in
            let m = mapped (part p.0) nows e.earlier e.now e.later e.is in
            let own = moved (map (part p.0) m.before) e.earlier (part p.0 m.middle) e.now row m.lefts m.here e.stands in
            let there = in_over program rows start m.before m.after m.middle row ((law m.before m.after m.middle m.is).1 (p.0, own)) in
            Has-set_of row (over_steps program rows start nows) (rw m.is there),
      )

  pub by_class : SplitsByClass names program rows is_used gate
  by_class = record { steps = steps; runs = runs_split }
