use Rattle.std.proofs.Common.{◌≡◌, ◌∙◌, sym, length, Some, rules}
use Rattle.std.proofs.lemmas.List.{length-map}
use Rattle.bloom_forms.specs.Borrowed.{names_in}
use Rattle.bloom_ast.specs.Code.Fitting.{fitting}
use Rattle.bloom_forms.specs.Form.{query_of}
use Rattle.bloom_forms.specs.Lookup.{declared}
use Rattle.bloom_ast.proofs.Fitting.{misfit_some}
use Rattle.bloom_ast.proofs.fits.is_misfit.Goals as goal

pub returns-in-Some : goal.returns-in-Some
returns-in-Some c =
    let len : c.len.result ≡ length (names_in c.in-Some.columns.items) = (let plain : c.len.result ≡ length c.in-Some.columns.items = search rules in plain ∙ sym (length-map c.in-Some.columns.items (λ name. name.now))) in
    let found : fitting (declared c.args.collections.now) (query_of c.args.rule.now.body) ≡ Some (names_in c.in-Some.columns.items) = search rules in
    let head : length c.declared-head.result.now ≡ length (declared c.args.collections.now c.args.rule.now.head) = search rules in
    rw (len, head) (sym (misfit_some (declared c.args.collections.now) (query_of c.args.rule.now.body) (names_in c.in-Some.columns.items) (declared c.args.collections.now c.args.rule.now.head) found))
