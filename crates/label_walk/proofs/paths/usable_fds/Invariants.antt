-- those so far that are usable
use Rattle.std.proofs.Common.{◌≡◌, filter, take}
use Rattle.topo_forms.specs.Dependencies.{is_usable}
use Rattle.label_walk.proofs.paths.usable_fds.Given as goal

abbrev pub invariant-loop-fd : goal.invariant-loop-fd
invariant-loop-fd l = l.fds.items ≡ filter (is_usable l.valid.view l.component) (take l.fd l.valid.view.fds)
