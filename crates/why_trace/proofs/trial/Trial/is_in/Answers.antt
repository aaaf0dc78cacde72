use Rattle.std.proofs.Common.{◌∙◌, List, Bor, ap}
use Rattle.std.specs.List.{list_any}
use Rattle.blz_value.specs.Record.{Row}
use Rattle.topo_forms.specs.Messages.{is_same_row}
use Rattle.why_trace.specs.Code.Trials.{sought_of}
use Rattle.why_trace.proofs.TrialLemmas.{record_in}
use Rattle.why_trace.proofs.trial.Trial.is_in.Goals as goal

pub returns : goal.returns
returns g c =
    record_in c.args.self.now.valid.now.view c.args.net.now.valid.now.view c.args.net.now.books (sought_of c.args.self.now).wanted c.in_ok-rows.rows.items c.contains.result
    (c.contains.ensures.value ∙ ap (λ (refs : List (Bor Row)). list_any (λ (y : Bor Row). is_same_row y.now c.args.self.now.row.now) refs) c.deref.ensures.value)
    c.requires.same c.in_ok-rows.ensures.contents c.in_ok-rows.ensures.past
