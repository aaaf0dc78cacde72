-- Where what arrives in timesteps is among what arrives in all, the rows of a part are among those of all at once; and they are these where all arrives.
use Rattle.std.proofs.Common.{◌≡◌, ◌<◌, ℕ, Bool, true, Option, None, Some, List, [], ◌∷◌, length, map, refl, ◌∙◌, sym, subst, inl, inr, ◌⊎◌, arith}
use Rattle.std.specs.Prelude.{is_some}
use Rattle.std.proofs.lemmas.Bool.{cases_lt}
use Rattle.std.proofs.lemmas.List.{get_or_past}
use Rattle.std.proofs.lemmas.List.FromFn.{length-map-range_with_len}
use Rattle.blz_value.specs.Members.{Has, IsWithin, HaveEqualMembers}
use Rattle.blz_value.specs.Record.{Row}
use Rattle.blz_value.proofs.Membership.{Has-map, Has-from_map}
use Rattle.blz_value.specs.declared.attrs.Fd.{Fd}
use Rattle.bloom_forms.specs.declared.program.Program.{Program}
use Rattle.bloom_forms.specs.Program.{port_columns}
use Rattle.bloom_forms.specs.Step.{Sets, set_at}
use Rattle.bloom_forms.specs.declared.note.Note.{Note}
use Rattle.bloom_forms.specs.Classes.{AreKeyed, IsInClosure, of_class}
use Rattle.bloom_forms.specs.Ports.{AreSilentAt}
use Rattle.bloom_forms.specs.Runs.{rows_over, at_once, arriving_at}
use Rattle.bloom_forms.proofs.Split.ClassesLemmas.{from_class, in_class}
use Rattle.bloom_forms.proofs.Ports.Rules.{at_once_union}
use Rattle.topo_forms.specs.View.{View}
use Rattle.confluence.proofs.Determined.Parts.{IsPart}
use Rattle.bloom_forms.specs.Steps.{AreArrivals}
use Rattle.bloom_forms.specs.Given.{AreAllC, is_o, is_w}

-- each record of the timesteps is among all
abbrev pub AreInside : List Sets → Sets → Type 0
AreInside nows all = (now : Sets) (port : ℕ) (r : Row) → Has now nows → Has r (set_at now port) → Has r (set_at all port)

-- all records are in the timesteps
abbrev pub AreAllIn : Program → List Sets → Sets → Type 0
AreAllIn program nows all = (port : ℕ) (r : Row) → port < length (port_columns program) → Has r (set_at all port) → (now : Sets) × Has now nows × Has r (set_at now port)

-- the rows over the timesteps are among those over all at once, and are these where the timesteps have all
pub record IsDetermined (program : Program) (over : List Sets → List Row) (nows : List Sets) (all : Sets) : Type 0 where
  pub within : IsWithin (over nows) (over (all ∷ []))
  pub whole : AreAllIn program nows all → IsWithin (over (all ∷ [])) (over nows)

-- ---- all records of timesteps at once

pub from_once : (program : Program) (nows : List Sets) (port : ℕ) (r : Row) → port < length (port_columns program) → Has r (set_at (at_once program nows) port) → (now : Sets) × Has now nows × Has r (set_at now port)
from_once program nows port r lt h = let m = (at_once_union program nows port lt).some r h in (m.0.0, m.0.1, m.1)

pub in_once : (program : Program) (nows : List Sets) (port : ℕ) (r : Row) → port < length (port_columns program) → (now : Sets) → Has now nows → Has r (set_at now port) → Has r (set_at (at_once program nows) port)
in_once program nows port r lt now came h = (at_once_union program nows port lt).inside (now, came) r h

pub once_inside : (program : Program) (nows : List Sets) (all : Sets) → AreInside nows all → (port : ℕ) → IsWithin (set_at (at_once program nows) port) (set_at all port)
once_inside program nows all inside port r h = elim (cases_lt port (length (port_columns program))) [
  | inl lt ↦ let m = from_once program nows port r lt h in inside m.0 port r m.1 m.2
  | inr past ↦ absurd (subst (λ (x : List Row). Has r x) (get_or_past (at_once program nows) port [] (omega (arith, past, length-map-range_with_len (λ k. arriving_at k nows) 0 (length (port_columns program))))) h)
]

once_all : (program : Program) (nows : List Sets) (all : Sets) → AreAllIn program nows all → (port : ℕ) → port < length (port_columns program) → IsWithin (set_at all port) (set_at (at_once program nows) port)
once_all program nows all full port lt r h = let m = full port r lt h in in_once program nows port r lt m.0 m.1 m.2

module _ (v : View) (program : Program) (output : ℕ) (rows : Sets → Sets → List Row) (given : ℕ → Option Note) (gate : ℕ) (part : IsPart v program output rows given gate) where
  abbrev over : List Sets → List Row
  over nows = rows_over program rows nows

  abbrev used : ℕ → Bool
  used port = is_some (given port)

  -- where all uses are C
  pub confluent_part : AreAllC program given → (nows : List Sets) (all : Sets) → AreInside nows all → IsDetermined program over nows all
  confluent_part c nows all inside =
      let law = part.confluent c in record {
        within = λ r h. law.grows (at_once program nows) all (once_inside program nows all inside) r (subst (λ (x : List Row). Has r x) (law.same nows) h);
        whole = λ full r h.
            let same = part.sees.only (all ∷ []) (at_once program nows ∷ []) ((λ port lt t. (once_all program nows all full port lt, once_inside program nows all inside port)), tt) in
            subst (λ (x : List Row). Has r x) (same ∙ sym (law.same nows)) h;
      }

  -- where nothing arrives at any port that is O, and some is
  pub silent_part : (port : ℕ) → port < length (port_columns program) → is_o (given port) ≡ true
      → (nows : List Sets) (all : Sets) → AreSilentAt program (λ other. is_o (given other)) nows → AreSilentAt program (λ other. is_o (given other)) (all ∷ []) → IsDetermined program over nows all
  silent_part port lt o nows all none none_at_all = record {
    within = λ r h. absurd (subst (λ (x : List Row). Has r x) (part.silent port lt o nows none) h);
    whole = λ full r h. absurd (subst (λ (x : List Row). Has r x) (part.silent port lt o (all ∷ []) none_at_all) h);
  }

  -- ---- partitions

  module _ (key : List ℕ) (nows : List Sets) (all : Sets) where
    abbrev of : Row → Sets → Sets
    of class now = of_class v.attributes program key (λ values. values) class now

    -- the rows of a partition are those of all its records that came, and at ports that are W these are all that there are
    pub record IsOpen (class : Row) : Type 0 where
      pub same : over (map (of class) nows) ≡ over (at_once program (map (of class) nows) ∷ [])
      pub full : (port : ℕ) → port < length (port_columns program) → is_w (given port) ≡ true → HaveEqualMembers (set_at (at_once program (map (of class) nows)) port) (set_at (of class all) port)

    -- the key keeps the records apart, and each partition is silent or open
    pub record IsApart (fds : List Fd) : Type 0 where
      pub arrivals : AreArrivals program nows
      pub all_arrivals : AreArrivals program (all ∷ [])
      pub keyed : AreKeyed v.attributes program nows used fds key
      pub all_keyed : AreKeyed v.attributes program (all ∷ []) used fds key
      pub closed : IsInClosure key gate fds
      pub each : (class : Row) → AreSilentAt program used (map (of class) nows) ⊎ IsOpen class

    of_inside : (class : Row) → AreInside nows all → AreInside (map (of class) nows) (of class all)
    of_inside class inside now port r came h =
        let m = Has-from_map (of class) now nows came in
        let f = from_class v.attributes program key (λ values. values) class m.0 port r (subst (λ (z : Sets). Has r (set_at z port)) (sym m.2) h) in
        in_class v.attributes program key (λ values. values) class all port r (record { within = f.within; stands = inside m.0 port r m.1 f.stands; keyed = f.keyed; is = f.is })

    of_all : (class : Row) → AreAllIn program nows all → AreAllIn program (map (of class) nows) (of class all)
    of_all class full port r lt h =
        let f = from_class v.attributes program key (λ values. values) class all port r h in
        let m = full port r lt f.stands in
        (of class m.0, Has-map (of class) m.0 nows m.1, in_class v.attributes program key (λ values. values) class m.0 port r (record { within = lt; stands = m.2; keyed = f.keyed; is = f.is }))

    o_used : (port : ℕ) → is_o (given port) ≡ true → used port ≡ true
    o_used port o = by (given port) o
      where
        by : (note : Option Note) → is_o note ≡ true → is_some note ≡ true
        by None o = cc
        by (Some note) o = refl

    pub apart_part : (port : ℕ) → port < length (port_columns program) → is_o (given port) ≡ true → (fds : List Fd) → IsApart fds → AreInside nows all → IsDetermined program over nows all
    apart_part port lt o fds apart inside =
        let id : Row → Row = λ values. values in
        let runs = part.splits.runs nows fds key id apart.arrivals apart.keyed apart.closed in
        let all_runs = part.splits.runs (all ∷ []) fds key id apart.all_arrivals apart.all_keyed apart.closed in
        let quiet : (class : Row) (steps : List Sets) → AreSilentAt program used steps → over steps ≡ [] =
        λ class steps none. part.silent port lt o steps (λ now came other below is. none now came other below (o_used other is)) in record {
          within = λ r h.
              let m = (runs r).0 h in
              (all_runs r).1 (
                m.0,
                elim (apart.each m.0) [
                  | inl none ↦ absurd (subst (λ (x : List Row). Has r x) (quiet m.0 (map (of m.0) nows) none) m.1)
                  | inr open_ ↦
                      part.sees.late (at_once program (map (of m.0) nows)) (of m.0 all) (λ other below t. once_inside program (map (of m.0) nows) (of m.0 all) (of_inside m.0 inside) other) (λ other below w. open_.full other below w)
                      r (subst (λ (x : List Row). Has r x) open_.same m.1)
                ],
              );
          whole = λ full r h.
              let m = (all_runs r).0 h in
              (runs r).1 (
                m.0,
                elim (apart.each m.0) [
                  | inl none ↦
                      absurd (subst (λ (x : List Row). Has r x) (quiet m.0 (of m.0 all ∷ []) (λ now came other below t. none_left m.0 (of_all m.0 full) none now came other below t)) m.1)
                  | inr open_ ↦
                      let same = part.sees.only (of m.0 all ∷ []) (at_once program (map (of m.0) nows) ∷ [])
                      ((λ other below t. (once_all program (map (of m.0) nows) (of m.0 all) (of_all m.0 full) other below, once_inside program (map (of m.0) nows) (of m.0 all) (of_inside m.0 inside) other)), tt) in
                      subst (λ (x : List Row). Has r x) (same ∙ sym open_.same) m.1
                ],
              );
        }
      where
        no_member : (xs : List Row) → ((r : Row) → ¬ Has r xs) → xs ≡ []
        no_member [] none = refl
        no_member (x ∷ xs) none = absurd (none x (inl refl))

        none_left : (class : Row) → AreAllIn program (map (of class) nows) (of class all) → AreSilentAt program used (map (of class) nows)
            → (now : Sets) → Has now (of class all ∷ []) → (other : ℕ) → other < length (port_columns program) → used other ≡ true → set_at now other ≡ []
        none_left class full none now (inl e) other below t = no_member (set_at now other) (λ r h.
            let m = full other r below (subst (λ (z : Sets). Has r (set_at z other)) (sym e) h) in
            subst (λ (x : List Row). Has r x) (none m.0 m.1 other below t) m.2)
        none_left class full none now (inr h) other below t = absurd h
