use Rattle.std.proofs.Common.{◌≡◌, ◌≢◌, ◌++◌, [], ◌∷◌, length, None, rules}
use Rattle.blz_value.specs.Members.{Has}
use Rattle.blz_value.specs.Names.{place_of}
use Rattle.blz_value.proofs.Places.{place_of-last, slice_get-last, IsNameList-push}
use Rattle.fd_closure.proofs.names.AttrNames.add.Goals as goal

pub invariant_of-self-2 : goal.invariant_of-self-2
invariant_of-self-2 c =
    let names = c.self.inside.names.items in
    let room : length names ≢ 64 = search rules in
    let new : Has c.args.name.now names → ⊥ = search rules in
    let items : c.push.new.self.items ≡ names ++ c.args.name.now ∷ [] = search rules in
    rw items (IsNameList-push names c.args.name.now c.self.invariant room new)

pub returns-clause-place : goal.returns-clause-place
returns-clause-place c =
    let names = c.self.inside.names.items in
    let items : c.push.new.self.items ≡ names ++ c.args.name.now ∷ [] = search rules in
    let last : c.len-place.result ≡ length names = search rules in
    rw (items, last) (slice_get-last names c.args.name.now)

pub returns-clause-computed : goal.returns-clause-computed
returns-clause-computed c =
    let names = c.self.inside.names.items in
    let items : c.push.new.self.items ≡ names ++ c.args.name.now ∷ [] = search rules in
    let last : c.len-place.result ≡ length names = search rules in
    let none : place_of names c.args.name.now ≡ None = search rules in
    rw (items, last) (place_of-last names c.args.name.now none)
