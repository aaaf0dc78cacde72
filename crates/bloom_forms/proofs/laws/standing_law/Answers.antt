use Rattle.bloom_forms.proofs.Ends.Standing.{module_stands}
use Rattle.bloom_forms.proofs.Ends.StockStanding.{split_stands, latest_stands, number_stands}
use Rattle.bloom_forms.proofs.laws.standing_law.Goals as goal

pub returns-clause-modules : goal.returns-clause-modules
returns-clause-modules c = module_stands

pub returns-clause-split : goal.returns-clause-split
returns-clause-split c = split_stands

pub returns-clause-latest : goal.returns-clause-latest
returns-clause-latest c = latest_stands

pub returns-clause-number : goal.returns-clause-number
returns-clause-number c = number_stands
