-- A step by ids in the pool of some lists, read with their records.
use Rattle.std.proofs.Common.{◌≡◌, ◌<◌, ℕ, Option, List, [], ◌∷◌, length, subst, sym}
use Rattle.std.specs.List.{All}
use Rattle.blz_pool.specs.Entries.{EntryId, entries_with_ids}
use Rattle.blz_value.specs.Record.{Row}
use Rattle.blz_value.specs.Sets.{IsRowSet}
use Rattle.bloom_eval.specs.Arrivals.{timestep_of}
use Rattle.bloom_eval.specs.Changes.{AreChanges}
use Rattle.bloom_eval.specs.Puts.{puts_in, ArePutFrom}
use Rattle.bloom_eval.specs.Step.{Arrive, tables_next, outs_next, outs_still, counted_next}
use Rattle.bloom_eval.specs.StepAnswers.{AllFit, SomeIsOver}
use Rattle.bloom_eval.specs.declared.puts.Put.{Put}
use Rattle.bloom_forms.specs.declared.program.Program.{Program}
use Rattle.bloom_forms.specs.Step.{Sets, set_at}
use Rattle.topo_forms.specs.Messages.{Message}
use Rattle.inbox.specs.Running.{MeetsLimit}
use Rattle.inbox.specs.Limits.{too_many_rows}
use Rattle.inbox.specs.declared.outlets.Outlet.{Outlet}
use Rattle.inbox.proofs.RunningLemmas.{AreStepChanges, met_rows}

module _ (pool records : List Row) (is : pool ≡ records) (loaded : Option Program) (tables : Sets) (ports : ℕ) (entries : List EntryId) where
  pub called_given : All (λ entry. entry.1 < length records) entries → All (λ entry. entry.1 < length pool) entries
  called_given given = subst (λ (l : List Row). All (λ (entry : EntryId). entry.1 < length l) entries) (sym is) given

  pub called_arrives : Arrive loaded (timestep_of ports (entries_with_ids records entries)) → Arrive loaded (timestep_of ports (entries_with_ids pool entries))
  called_arrives arrives = subst (λ l. Arrive loaded (timestep_of ports (entries_with_ids l entries))) (sym is) arrives

  pub stepped_rows : (outlets : List Outlet) (before : List (List Message)) → SomeIsOver (counted_next loaded tables (timestep_of ports (entries_with_ids pool entries))) → MeetsLimit too_many_rows loaded outlets tables before (timestep_of ports (entries_with_ids records entries) ∷ [])
  stepped_rows outlets before over = met_rows loaded outlets tables before (timestep_of ports (entries_with_ids records entries)) (subst (λ l. SomeIsOver (counted_next loaded tables (timestep_of ports (entries_with_ids l entries)))) is over)

  pub stepped_tables : (next : Sets) → next ≡ tables_next loaded tables (timestep_of ports (entries_with_ids pool entries)) → next ≡ tables_next loaded tables (timestep_of ports (entries_with_ids records entries))
  stepped_tables next kept = subst (λ l. next ≡ tables_next loaded tables (timestep_of ports (entries_with_ids l entries))) is kept

  module _ (puts : List Put) where
    pub put_from : ArePutFrom pool puts → ArePutFrom records puts
    put_from from = subst (λ l. ArePutFrom l puts) is from

    pub stepped_changes : AllFit (counted_next loaded tables (timestep_of ports (entries_with_ids pool entries)))
        → AreChanges (outs_next loaded tables (timestep_of ports (entries_with_ids pool entries))) (outs_still loaded tables) (puts_in pool puts)
        → ((l : List Row) (n : ℕ) → IsRowSet (set_at (puts_in l puts) n))
        → AreStepChanges loaded tables (timestep_of ports (entries_with_ids records entries)) (puts_in records puts)
    stepped_changes fit changes sets =
        subst (λ l. AreStepChanges loaded tables (timestep_of ports (entries_with_ids l entries)) (puts_in l puts)) is
        (record { fit = fit; changes = changes; sets = sets pool })
