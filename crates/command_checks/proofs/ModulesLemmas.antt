-- A topology with its modules stops where its file, a module or its validity does, and else comes with them.
use Rattle.std.proofs.Common.{◌≡◌, Ok, Err, Option, Some, None, List, length, refl, sym, subst, ap}
use Rattle.std.specs.List.{filter_map}
use Rattle.bloom_forms.specs.Form.{Accepted}
use Rattle.topo_forms.specs.Allowed.{IsAllowed}
use Rattle.topo_forms.specs.Valid.{Validated, needs_module}
use Rattle.topo_forms.specs.Validity.{fault_of}
use Rattle.topo_forms.specs.ViewOf.{view_of}
use Rattle.topo_forms.specs.declared.fault.TopoFault.{TopoFault}
use Rattle.topo_forms.specs.declared.topology.Topology.{Topology}
use Rattle.command_checks.specs.FileChecks.{checked}
use Rattle.command_checks.specs.Ends.{Source, files_states, Came}
use Rattle.command_checks.specs.Ran.{Gives, Stopped}
use Rattle.command_checks.specs.Script.Script.{gives}
use Rattle.command_checks.specs.Script.Ending.{gave}
use Rattle.command_checks.specs.declared.stop.Stop.{Stop}
use Rattle.command_checks.proofs.ScriptLemmas.{came_then, came_at_once, came_checked, gives_ran, stop_then}
use Rattle.command_checks.specs.Checks.{WithModules, valid_with}
use Rattle.command_checks.specs.Code.Topologies.{from_modules}
use Rattle.command_checks.specs.Found.{HasModules}

module _ (files : Source) (t : Topology) (modules : List Accepted) where
  -- a topology that has a fault with its modules
  pub fault_stops : (stop : Stop) → Gives (λ (valid : Validated). valid) (Err stop) (valid_with t modules (fault_of t modules)) → Stopped (files_states files files) stop (from_modules t modules)
  fault_stops stop given =
      stop_then (files_states files files) stop (checked (valid_with t modules (fault_of t modules))) (λ valid. gives (record { valid = valid; modules = modules }))
      (gives_ran (λ (valid : Validated). valid) files (Err stop) (valid_with t modules (fault_of t modules)) given)

  -- a topology that has none
  pub modules_come : (valid : Validated) → valid_with t modules (fault_of t modules) ≡ Ok valid
      → Came (files_states files files) (from_modules t modules) (gave (record { valid = valid; modules = modules }))
  modules_come valid is =
      let found : WithModules = record { valid = valid; modules = modules } in
      came_then files files files (checked (valid_with t modules (fault_of t modules))) (λ valid. gives (record { valid = valid; modules = modules })) valid (gave found)
      (came_checked files (valid_with t modules (fault_of t modules)) valid is) (came_at_once files found)

-- it is the topology that was read, without a fault
valid_is : (t : Topology) (modules : List Accepted) (fault : Option TopoFault) (valid : Validated) → valid_with t modules fault ≡ Ok valid → (fault ≡ None) × (valid.topology ≡ t)
valid_is t modules None valid is = let same : record { topology = t; view = view_of t modules } ≡ valid = cc in (refl, sym (ap (λ (v : Validated). v.topology) same))
valid_is t modules (Some fault) valid is = absurd (cc)

-- it has a module for each component that needs one
pub has_modules : (t : Topology) (modules : List Accepted) (valid : Validated) → length modules ≡ length (filter_map needs_module t.components) → IsAllowed t
    → valid_with t modules (fault_of t modules) ≡ Ok valid → HasModules (record { valid = valid; modules = modules })
has_modules t modules valid as_many allowed is =
    let whole = valid_is t modules (fault_of t modules) valid is in
    record {
      each = subst (λ (s : Topology). length modules ≡ length (filter_map needs_module s.components)) (sym whole.1) as_many;
      allowed = subst IsAllowed (sym whole.1) allowed;
      accepted = subst (λ (s : Topology). fault_of s modules ≡ None) (sym whole.1) whole.0;
    }
