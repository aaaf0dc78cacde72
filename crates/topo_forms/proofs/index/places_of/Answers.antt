use Rattle.std.proofs.Common.{◌≡◌, ℕ, cond, Bor, ◌+◌, Some, is_some, true, false, take, get_or, ap, sym, subst, ◌∙◌}
use Rattle.std.specs.BTreeMap.{BTreeMap, get, is_at}
use Rattle.bloom_forms.specs.Query.{Name}
use Rattle.topo_forms.specs.Code.Index.{name_cmp, Places}
use Rattle.topo_forms.proofs.Views.IndexLemmas.{shown, place_stays, place_grows}
use Rattle.topo_forms.proofs.index.places_of.Goals.{then-not-contains_key+in_ok-copy+in_ok-insert, else-not-contains_key}
use Rattle.topo_forms.proofs.index.places_of.Goals as goal

pub loop-place-preserved : goal.loop-place-preserved
loop-place-preserved c =
    let item = c.index-names-place.result in
    let own : item.now ≡ (get_or c.args.names.now c.loop-place.place item).now = ap (λ (b : Bor Name). b.now) c.index-names-place.is in
    elim c.if-not-contains_key.branch [
      | then-not-contains_key+in_ok-copy+in_ok-insert w ↦
          let copied : w.in_ok-copy.field-0 ≡ (get_or c.args.names.now c.loop-place.place item).now = w.in_ok-copy.ensures ∙ own in
          let inserted = w.in_ok-insert.ensures in
          subst (λ (m : BTreeMap Name ℕ). Places (shown (take (c.loop-place.place + 1) c.args.names.now)) m) (sym w.places-is)
          (place_grows c.args.names.now c.loop-place.place item c.loop-place-test.true c.loop-place.places w.insert.new.self c.loop-place.invariant
          (subst (λ (k : Name). is_some (get name_cmp c.loop-place.places k) ≡ false) own (sym c.contains_key.ensures ∙ w.if-not-contains_key.true))
          (λ name. subst (λ (k : Name). get name_cmp w.insert.new.self name ≡ cond (is_at (name_cmp k) name) (Some c.loop-place.place) (get name_cmp c.loop-place.places name)) copied (inserted.updates.0 name)))
      | else-not-contains_key w ↦
          subst (λ (m : BTreeMap Name ℕ). Places (shown (take (c.loop-place.place + 1) c.args.names.now)) m) (sym w.places-is)
          (place_stays c.args.names.now c.loop-place.place item c.loop-place-test.true c.loop-place.places c.loop-place.invariant
          (subst (λ (k : Name). is_some (get name_cmp c.loop-place.places k) ≡ true) own (sym c.contains_key.ensures ∙ w.if-not-contains_key.false)))
    ]
