-- Rows that the steps of each run share out are confluent.
use Rattle.std.proofs.Common.{◌≡◌, ◌<◌, ◌++◌, ℕ, List, [], ◌∷◌, length, ◌∙◌, sym, subst, inl, inr, arith}
use Rattle.std.specs.List.{flat_map}
use Rattle.std.proofs.lemmas.List.FromFn.{get_or-map-range_with_len}
use Rattle.blz_value.specs.Members.{Has}
use Rattle.blz_value.specs.Record.{Row}
use Rattle.blz_value.specs.Sets.{set_of, IsRowSet}
use Rattle.blz_value.proofs.Membership.{Has-append_left, Has-append_cases, Has-flat_map, Has-from_flat_map}
use Rattle.blz_value.proofs.RowSets.{same_set_of, set_of-sorted}
use Rattle.blz_value.proofs.SetLaws.{Has-set_of, Has-from_set_of}
use Rattle.bloom_forms.specs.declared.program.Program.{Program}
use Rattle.bloom_forms.specs.Program.{port_columns}
use Rattle.bloom_forms.specs.ProgramStep.{empty_tables}
use Rattle.bloom_forms.specs.Step.{Sets, set_at}
use Rattle.bloom_forms.proofs.Ends.StepsLemmas.{StepOf, before, arrives, arrives_in, step_with}
use Rattle.bloom_forms.specs.Confluence.{AreAmong, IsConfluent}
use Rattle.bloom_forms.specs.Runs.{over_steps, arriving_at, at_once}
use Rattle.bloom_forms.proofs.Rows.Linear.{IsUnionOf}
use Rattle.bloom_forms.proofs.Rows.RunsLemmas.{from_steps, in_steps}

pub without_end : (row : Row) (rows : List Row) → Has row (rows ++ []) → Has row rows
without_end row rows h = elim (Has-append_cases row rows [] h) [ inl a ↦ a | inr b ↦ absurd b ]

pub set_of-end : (rows : List Row) → IsRowSet rows → set_of (rows ++ []) ≡ rows
set_of-end rows sorted = same_set_of (rows ++ []) rows (λ row h. without_end row rows h, λ row h. Has-append_left row rows [] h) ∙ set_of-sorted rows sorted

module _ (program : Program) (rows : Sets → Sets → List Row) where
  abbrev start : Sets
  start = empty_tables program

  -- all that arrives in a run arrives in one step
  abbrev pub IsUnionArriving : (nows : List Sets) → (once : Sets) → Type 0
  IsUnionArriving nows once = (port : ℕ) → port < length (port_columns program) → IsUnionOf {J = StepOf program start nows} (λ j. set_at (arrives program start nows j) port) (set_at once port)

  -- the rows in the steps of a run are those of one step
  abbrev pub AreShared : (nows : List Sets) → (once : Sets) → Type 0
  AreShared nows once = IsUnionOf {J = StepOf program start nows} (λ j. rows (before program start nows j) (arrives program start nows j)) (rows start once)

  once_union : (nows : List Sets) → IsUnionArriving nows (at_once program nows)
  once_union nows port lt =
      let is : set_at (at_once program nows) port ≡ arriving_at port nows = get_or-map-range_with_len (λ k. arriving_at k nows) 0 (length (port_columns program)) port port [] lt (omega arith) in
      record {
        some = λ row h.
            let m = Has-from_flat_map (λ now. set_at now port) row nows (Has-from_set_of row (flat_map (λ now. set_at now port) nows) (subst (λ (x : List Row). Has row x) is h)) in
            let s = step_with program start nows m.0 m.1 in
            (s.0, subst (λ (now : Sets). Has row (set_at now port)) (sym s.1) m.2);
        inside = λ j row h. subst (λ (x : List Row). Has row x) (sym is) (Has-set_of row (flat_map (λ now. set_at now port) nows) (Has-flat_map (λ now. set_at now port) (arrives program start nows j) row nows (arrives_in program start nows j) h));
      }

  more_union : (fewer more : Sets) → AreAmong fewer more → IsUnionArriving (fewer ∷ more ∷ []) more
  more_union fewer more among port lt = record {
    some = λ row h. (inr (inl tt), h);
    inside = λ j row h. elim j as (λ i. Has row (set_at (arrives program start (fewer ∷ more ∷ []) i) port) → Has row (set_at more port)) [
      | inl first ↦ λ g. among port row g
      | inr second ↦ λ g. elim second as (λ i. Has row (set_at (arrives program start (fewer ∷ more ∷ []) (inr i)) port) → Has row (set_at more port)) [ inl t ↦ λ f. f | inr none ↦ absurd none ] g
    ] h;
  }

  pub confluent : ((nows : List Sets) (once : Sets) → IsUnionArriving nows once → AreShared nows once)
      → IsConfluent program (λ nows. set_of (over_steps program rows start nows))
  confluent shared = record {
    same = λ nows.
        let s = shared nows (at_once program nows) (once_union nows) in
        same_set_of (over_steps program rows start nows) (rows start (at_once program nows) ++ []) (
          λ row h. let f = from_steps program rows start nows row h in Has-append_left row (rows start (at_once program nows)) [] (s.inside f.0 row f.1),
          λ row h. let f = s.some row (without_end row (rows start (at_once program nows)) h) in in_steps program rows start nows row f.0 f.1,
        );
    grows = λ fewer more among row h.
        let s = shared (fewer ∷ more ∷ []) more (more_union fewer more among) in
        Has-set_of row (rows start more ++ []) (Has-append_left row (rows start more) [] (s.inside (inl tt) row (without_end row (rows start fewer) (Has-from_set_of row (rows start fewer ++ []) h))));
  }
