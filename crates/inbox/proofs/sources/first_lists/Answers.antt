use Rattle.std.proofs.Common.{◌≡◌, ◌<◌, ◌++◌, [], ◌∷◌, List, refl, arith, length, subst, sym, ap, ◌∙◌, append_assoc, length-append}
use Rattle.topo_forms.specs.Data.{SourceData}
use Rattle.topo_forms.specs.Messages.{emitted_of_source, source_messages}
use Rattle.topo_forms.specs.DataCounts.{count_of}
use Rattle.topo_forms.specs.View.{stream_at}
use Rattle.topo_forms.proofs.KeyOfSource.{source_stream}
use Rattle.messages.specs.Lists.{OneListBecomes, read_lists, list_at}
use Rattle.inbox.specs.Places.{list_place}
use Rattle.inbox.proofs.SourceLists.{below_sources, source_held, none_emitted, no_messages, one_sender, place_there, place_empty, next_emitted, room_left, room_more}
use Rattle.inbox.proofs.sources.first_lists.Goals as goal

pub loop-held-init : goal.loop-held-init
loop-held-init c = record {
  all = c.into_iter-held-iterator.ensures.into_iter_gives.0 ∙ c.into_sources-held-items.ensures.lists;
  number = refl;
  sources = none_emitted c.args.valid.now.view c.args.given c.in_ok-lists.lists c.list_count.result c.list_count.ensures c.in_ok-lists.ensures.lists;
  exact = c.in_ok-lists.ensures.exact;
  room = omega (arith, no_messages c.in_ok-lists.lists c.list_count.result c.in_ok-lists.ensures.lists);
}

pub list-place-requires-clause-stream : goal.list-place-requires-clause-stream
list-place-requires-clause-stream c = omega (arith, below_sources c.args.valid.now.view c.args.given c.loop-held.source c.loop-held.yielded c.requires.data c.loop-held.invariant.number c.loop-held.invariant.all c.in-Some.ensures.steps.0, source_stream c.args.valid.now.view)

pub list-place-requires-clause-replica : goal.list-place-requires-clause-replica
list-place-requires-clause-replica c =
    let below = below_sources c.args.valid.now.view c.args.given c.loop-held.source c.loop-held.yielded c.requires.data c.loop-held.invariant.number c.loop-held.invariant.all c.in-Some.ensures.steps.0 in
    one_sender c.args.valid.now.view c.known.ensures c.args.given c.loop-held.source below

pub emit_source-requires-clause-source : goal.emit_source-requires-clause-source
emit_source-requires-clause-source c = below_sources c.args.valid.now.view c.args.given c.loop-held.source c.loop-held.yielded c.requires.data c.loop-held.invariant.number c.loop-held.invariant.all c.in-Some.ensures.steps.0

pub emit_source-requires-clause-place : goal.emit_source-requires-clause-place
emit_source-requires-clause-place c =
    let below = below_sources c.args.valid.now.view c.args.given c.loop-held.source c.loop-held.yielded c.requires.data c.loop-held.invariant.number c.loop-held.invariant.all c.in-Some.ensures.steps.0 in
    subst (λ n. n < length c.loop-held.lists.lists) (sym c.list-place.ensures)
    (place_there c.args.valid.now.view c.known.ensures c.args.given c.loop-held.source below c.loop-held.lists c.loop-held.invariant.sources)

pub emit_source-requires-clause-empty : goal.emit_source-requires-clause-empty
emit_source-requires-clause-empty c =
    let below = below_sources c.args.valid.now.view c.args.given c.loop-held.source c.loop-held.yielded c.requires.data c.loop-held.invariant.number c.loop-held.invariant.all c.in-Some.ensures.steps.0 in
    subst (λ n. list_at (read_lists c.loop-held.lists) n ≡ []) (sym c.list-place.ensures)
    (place_empty c.args.valid.now.view c.known.ensures c.args.given c.loop-held.source below c.loop-held.lists c.loop-held.invariant.sources)

pub emit_source-requires-clause-room : goal.emit_source-requires-clause-room
emit_source-requires-clause-room c =
    let below = below_sources c.args.valid.now.view c.args.given c.loop-held.source c.loop-held.yielded c.requires.data c.loop-held.invariant.number c.loop-held.invariant.all c.in-Some.ensures.steps.0 in
    omega (
      arith,
      room_left c.args.valid.now.view c.known.ensures c.args.given c.loop-held.source below c.requires.data c.into_sources-held-items.ensures.few c.loop-held.lists c.loop-held.invariant.room,
      ap count_of (source_held c.args.given c.loop-held.source c.loop-held.yielded c.loop-held.invariant.number c.loop-held.invariant.all c.in-Some.ensures.steps.0),
    )

pub overflow_add-source : goal.overflow_add-source
overflow_add-source c = omega (arith, below_sources c.args.valid.now.view c.args.given c.loop-held.source c.loop-held.yielded c.requires.data c.loop-held.invariant.number c.loop-held.invariant.all c.in-Some.ensures.steps.0, source_stream c.args.valid.now.view, c.known.ensures.numbered.few_streams)

pub loop-held-preserved : goal.loop-held-preserved
loop-held-preserved c =
    let v = c.args.valid.now.view in
    let given = c.args.given in
    let source = c.loop-held.source in
    let below = below_sources c.args.valid.now.view c.args.given c.loop-held.source c.loop-held.yielded c.requires.data c.loop-held.invariant.number c.loop-held.invariant.all c.in-Some.ensures.steps.0 in
    let held = source_held c.args.given c.loop-held.source c.loop-held.yielded c.loop-held.invariant.number c.loop-held.invariant.all c.in-Some.ensures.steps.0 in
    let becomes : OneListBecomes c.loop-held.lists c.emit_source.new.lists (list_place v source 0) (emitted_of_source v given source) =
    subst (λ n. OneListBecomes c.loop-held.lists c.emit_source.new.lists n (emitted_of_source v given source)) c.list-place.ensures
    (subst (λ (d : SourceData). OneListBecomes c.loop-held.lists c.emit_source.new.lists c.list-place.result (source_messages (stream_at v source) d)) (sym held) c.in_ok-emit_source.ensures.ok) in
    record {
      all = append_assoc c.loop-held.yielded (c.in-Some.held ∷ []) c.next.new.self.rest.items ∙ ap (λ (l : List SourceData). c.loop-held.yielded ++ l) (sym c.in-Some.ensures.steps.0) ∙ c.loop-held.invariant.all;
      number = omega (arith, c.loop-held.invariant.number, length-append c.loop-held.yielded (c.in-Some.held ∷ []));
      sources = next_emitted v c.known.ensures given source below c.loop-held.lists c.emit_source.new.lists c.loop-held.invariant.sources becomes;
      exact = c.in_ok-emit_source.ensures.exact;
      room = room_more v c.known.ensures given source below c.requires.data c.into_sources-held-items.ensures.few c.loop-held.lists c.emit_source.new.lists c.loop-held.invariant.sources c.loop-held.invariant.room becomes;
    }
