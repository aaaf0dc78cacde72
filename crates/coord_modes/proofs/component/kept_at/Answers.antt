-- The key of the port decides.
use Rattle.std.proofs.Common.{◌≡◌, Option, None, Some, IfOk, ap, if◌then◌else◌, subst}
use Rattle.std.specs.Option.{option_and_then}
use Rattle.blz_value.specs.declared.attrs.Attrs.{Attrs}
use Rattle.coord_modes.specs.Plan.{is_good, trial}
use Rattle.coord_modes.proofs.component.kept_at.Goals as goal

pub returns-in-Some : goal.returns-in-Some
returns-in-Some c =
    let v = c.args.now.now.view in
    subst (λ (o : Option Attrs). IfOk c.if_kept.result (λ k. k ≡ option_and_then (λ key. if is_good (trial v c.args.component key) c.args.component then Some key else None) o)) c.in-Some.ensures c.if_kept.ensures

pub returns-in-None : goal.returns-in-None
returns-in-None c =
    let v = c.args.now.now.view in
    ap (option_and_then (λ (key : Attrs). if is_good (trial v c.args.component key) c.args.component then Some key else None)) c.in-None.ensures
