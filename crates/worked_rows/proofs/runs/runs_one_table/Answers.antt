-- The topology of the file is the one with which the checks of the run begin.
use Rattle.blazes_words.specs.Requests.{files_shown}
use Rattle.worked_rows.proofs.RunsLemmas.{runs_found}
use Rattle.worked_rows.proofs.runs.runs_one_table.Goals as goal

pub returns-clause-runs : goal.returns-clause-runs
returns-clause-runs c = λ one.
    runs_found c.args.files.now c.valid_of.new.files _ (files_shown c.in_ok-names.names) c.in_ok-valid.valid
    c.in_ok-names.ensures c.requires c.in_ok-valid.ensures.told c.in_ok-valid.ensures.ends (c.has_one_table.ensures one)
