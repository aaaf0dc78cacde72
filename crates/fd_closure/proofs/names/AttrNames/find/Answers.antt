use Rattle.std.proofs.Common.{◌≡◌, rules}
use Rattle.blz_value.specs.Names.{place_of}
use Rattle.blz_value.proofs.Places.{place_of-get, place_of-none, place_of-new}
use Rattle.fd_closure.proofs.names.AttrNames.find.Goals as goal

pub returns-clause-place : goal.returns-clause-place
returns-clause-place c = let is : c.map.result ≡ place_of c.args.self.now c.args.name.now = search rules in rw is (place_of-get c.args.self.now c.args.name.now)

pub returns-clause-none : goal.returns-clause-none
returns-clause-none c = let is : c.map.result ≡ place_of c.args.self.now c.args.name.now = search rules in rw is (place_of-none c.args.self.now c.args.name.now, place_of-new c.args.self.now c.args.name.now)
