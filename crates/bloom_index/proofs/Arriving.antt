-- What arrives where one record does, and what a step puts out of it.
use Rattle.std.proofs.Common.{◌≡◌, ◌∙◌, ℕ, ◌==◌, ◌<◌, ◌≤◌, Bool, true, false, cond, List, [], ◌∷◌, length, get_or, map, filter, Some, Result, Ok, Err, refl, ap, sym, subst, inl, arith}
use Rattle.std.specs.Prelude.{slice_get}
use Rattle.std.specs.Result.{IsErrAnd}
use Rattle.std.specs.List.{All}
use Rattle.std.proofs.lemmas.Option.{slice_get-get_or, same_Some}
use Rattle.std.proofs.lemmas.List.FromFn.{get_or-map-range_with_len, length-map-range_with_len}
use Rattle.blz_value.specs.Record.{Row}
use Rattle.blz_value.specs.Sets.{set_of}
use Rattle.blz_pool.specs.Entries.{EntryId, row_with_id, entries_with_ids}
use Rattle.bloom_forms.specs.Form.{Accepted}
use Rattle.bloom_forms.specs.Step.{Sets, set_at}
use Rattle.bloom_eval.specs.Arrivals.{timestep_of}
use Rattle.bloom_eval.specs.declared.fault.StepFault.{StepFault}
use Rattle.bloom_eval.specs.declared.fault.StepFault.TheVariants.{TooManyRows, NoMemory}
use Rattle.bloom_eval.specs.declared.puts.Put.{Put}
use Rattle.bloom_eval.specs.declared.puts.Put.TheVariants.{Arrived}
use Rattle.bloom_eval.specs.Puts.{IsPutOf}
use Rattle.bloom_eval.specs.StepAnswers.{SomeIsOver, counted_sets}
use Rattle.bloom_index.specs.declared.step.Parts.{Parts}
use Rattle.bloom_index.specs.Code.Steps.{StepsTo}

-- the set of one record, or none
one_or_none : (at : ℕ) (row : Row) (b : Bool) → set_of (map (λ (entry : ℕ × Row). entry.1) (cond b ((at, row) ∷ []) [])) ≡ cond b (row ∷ []) []
one_or_none at row true = refl
one_or_none at row false = refl

-- what arrives at a port with a number
abbrev at_number : (at : ℕ) (row : Row) → ℕ → List Row
at_number at row n = set_of (map (λ (entry : ℕ × Row). entry.1) (filter (λ (entry : ℕ × Row). entry.0 == n) ((at, row) ∷ [])))

module _ (ports at : ℕ) (row : Row) (port : ℕ) (lt : port < length (timestep_of ports ((at, row) ∷ []))) where
  within : port < ports
  within = subst (λ (n : ℕ). port < n) (length-map-range_with_len (at_number at row) 0 ports) lt

  read : set_at (timestep_of ports ((at, row) ∷ [])) port ≡ at_number at row port
  read = get_or-map-range_with_len (at_number at row) 0 ports port port [] within (omega arith)

  at_port_is : (b : Bool) → (at == port) ≡ b → set_at (timestep_of ports ((at, row) ∷ [])) port ≡ cond b (row ∷ []) []
  at_port_is b is =
      let own : at_number at row port ≡ set_of (map (λ (entry : ℕ × Row). entry.1) (cond b ((at, row) ∷ []) [])) = ap (λ (c : Bool). set_of (map (λ (entry : ℕ × Row). entry.1) (cond c ((at, row) ∷ []) []))) is in
      read ∙ own ∙ one_or_none at row b

  pub arrives_here : (at == port) ≡ true → row ∷ [] ≡ set_at (timestep_of ports ((at, row) ∷ [])) port
  arrives_here is = sym (at_port_is true is)

  pub arrives_elsewhere : (at == port) ≡ false → [] ≡ set_at (timestep_of ports ((at, row) ∷ [])) port
  arrives_elsewhere is = sym (at_port_is false is)

-- the timestep of one entry
pub one_entry : (ports port id : ℕ) (records : List Row) (row : Row) (entries : List EntryId) → entries ≡ (port, id) ∷ [] → row ≡ row_with_id records id → timestep_of ports ((port, row) ∷ []) ≡ timestep_of ports (entries_with_ids records entries)
one_entry ports port id records row entries is same =
    ap (λ (r : Row). timestep_of ports ((port, r) ∷ [])) same ∙ ap (λ (l : List EntryId). timestep_of ports (entries_with_ids records l)) (sym is)

-- a fault of a step
pub step_fault_on : (a : Accepted) (tables : Sets) (after : Parts) (now : Sets) (records : List Row) (entries : List EntryId) (puts : List Put) (r : Result (Unit {0}) StepFault) (fault : StepFault) → IsErrAnd r (λ d. d ≡ fault) → (fault ≡ TooManyRows → SomeIsOver (counted_sets a tables now)) → StepsTo a tables after now records entries puts r
step_fault_on a tables after now records entries puts (Ok x) fault is over = absurd is
step_fault_on a tables after now records entries puts (Err TooManyRows) fault is over = over (sym is)
step_fault_on a tables after now records entries puts (Err NoMemory) fault is over = tt

-- a fault that is handed on is TooManyRows where a set is too large
pub stepped_over : (X : Type 0) (a : Accepted) (tables : Sets) (after : Parts) (now : Sets) (records : List Row) (entries : List EntryId) (puts : List Put) (fault : StepFault) (r : Result X StepFault) → IsErrAnd r (λ d. d ≡ fault) → r ≡ Err TooManyRows → StepsTo a tables after now records entries puts (Err fault) → SomeIsOver (counted_sets a tables now)
stepped_over X a tables after now records entries puts TooManyRows r is many over = over
stepped_over X a tables after now records entries puts NoMemory r is many over = absurd (other r is many)
  where
    other : (r : Result X StepFault) → IsErrAnd r (λ d. d ≡ NoMemory) → r ≡ Err TooManyRows → ⊥
    other (Ok x) is many = is
    other (Err d) is many = let e : d ≡ NoMemory = is in cc

-- the record of an id
pub row_got : (records : List Row) (id : ℕ) (got : Row) → id < length records → slice_get records id ≡ Some got → got ≡ row_with_id records id
row_got records id got lt at = same_Some got (row_with_id records id) (sym at ∙ slice_get-get_or records id [] lt)

-- rows that are one row alone, which is that of an id
pub is_lone : (items rows records : List Row) (row got : Row) (id : ℕ) → items ≡ rows → 1 ≤ length items → length items < 2 → row ≡ get_or items 0 row → row ≡ got → got ≡ row_with_id records id → rows ≡ row_with_id records id ∷ []
is_lone [] rows records row got id same least below at eq is = absurd (omega (arith, least))
is_lone (x ∷ []) rows records row got id same least below at eq is = sym same ∙ ap (λ (r : Row). r ∷ []) (sym at ∙ eq ∙ is)
is_lone (x ∷ y ∷ xs) rows records row got id same least below at eq is = absurd (omega (arith, below))

-- one entry alone
pub lone_entry : (entries : List EntryId) (entry : EntryId) → 1 ≤ length entries → length entries < 2 → entry ≡ get_or entries 0 entry → entries ≡ entry ∷ []
lone_entry [] entry least below at = absurd (omega (arith, least))
lone_entry (x ∷ []) entry least below at = ap (λ (e : EntryId). e ∷ []) (sym at)
lone_entry (x ∷ y ∷ entries) entry least below at = absurd (omega (arith, below))

pub lone_given : (entries : List EntryId) (entry : EntryId) (count : ℕ) → entries ≡ entry ∷ [] → All (λ e. e.1 < count) entries → entry.1 < count
lone_given entries entry count is given = (subst (λ (l : List EntryId). All (λ e. e.1 < count) l) is given) 0 entry (omega arith)

-- and its id
pub lone_put : (entries : List EntryId) (entry : EntryId) → entries ≡ entry ∷ [] → IsPutOf entries (Arrived entry.1)
lone_put entries entry is = subst (λ (l : List EntryId). IsPutOf l (Arrived entry.1)) (sym is) (inl refl)
