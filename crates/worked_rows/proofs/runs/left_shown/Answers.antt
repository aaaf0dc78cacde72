-- A run that is done, or incomplete, leaves the last shell with its program and its tables.
use Rattle.std.proofs.Common.{inl, inr, refl, sym, ap, map}
use Rattle.worked_rows.proofs.RunsLemmas.{left_in}
use Rattle.worked_rows.proofs.runs.left_shown.Goals as goal

pub last_shown-requires : goal.last_shown-requires
last_shown-requires g c =
    left_in _ _ c.args.files.now _ _ _ _ c.deref.result.now c.requires.runs c.requires.steady c.in-Done.ensures.outcome.1 refl (inl refl)
    (ap (map _) (sym c.deref.ensures.value)) (ap (map _) (sym c.deref.ensures.value))

pub last_shown-requires-in-Incomplete : goal.last_shown-requires-in-Incomplete
last_shown-requires-in-Incomplete g c =
    left_in _ _ c.args.files.now _ _ _ _ c.deref-in-Incomplete.result.now c.requires.runs c.requires.steady c.in-Incomplete.ensures.outcome.1 refl (inr refl)
    (ap (map _) (sym c.deref-in-Incomplete.ensures.value)) (ap (map _) (sym c.deref-in-Incomplete.ensures.value))
