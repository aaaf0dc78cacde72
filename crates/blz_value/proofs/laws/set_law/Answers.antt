use Rattle.blz_value.proofs.SetLaws.{sorted_set_of, members_set_of, same_row_sets}
use Rattle.blz_value.proofs.laws.set_law.Goals as goal

pub returns : goal.returns
returns c = record { sorted = sorted_set_of; members = members_set_of; one = same_row_sets }
