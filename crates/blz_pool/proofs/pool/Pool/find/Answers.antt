use Rattle.std.proofs.Common.{rules, ◌≡◌, None, Some}
use Rattle.blz_pool.specs.Pool.{number_of}
use Rattle.blz_pool.proofs.Records.{number_of-index, number_of-get, number_of-none, number_of-lacks}
use Rattle.blz_pool.proofs.pool.Pool.find.Goals as goal

number-found : (c : goal.After-new) → number_of c.args.self.now c.args.row.now ≡ Some c.new.result
number-found c = let is = number_of-index c.self.inside.records.keys c.args.row.now in search rules

number-none : (c : goal.After-from_residual) → number_of c.args.self.now c.args.row.now ≡ None
number-none c = let is = number_of-index c.self.inside.records.keys c.args.row.now in search rules

pub returns-clause-number : goal.returns-clause-number
returns-clause-number c = let is = number-found c in search rules

pub returns-clause-record : goal.returns-clause-record
returns-clause-record c = number_of-get c.args.self.now c.args.row.now c.new.result (number-found c)

pub returns-clause-new : goal.returns-clause-new
returns-clause-new c lacks = let is = number-found c in let none = number_of-lacks c.args.self.now c.args.row.now lacks in cc

pub returns-in_err-number-clause-number : goal.returns-in_err-number-clause-number
returns-in_err-number-clause-number c = let none = number-none c in search rules

pub returns-in_err-number-clause-held : goal.returns-in_err-number-clause-held
returns-in_err-number-clause-held c stands = absurd (number_of-none c.args.self.now c.args.row.now (number-none c) stands)
