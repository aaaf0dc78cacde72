use Rattle.std.proofs.Common.{◌≡◌, ◌∙◌, ◌++◌, ℕ, false, List, ap, length, map, slice_index_or, subst, sym, arith}
use Rattle.blz_value.specs.Operators.{cells}
use Rattle.blz_value.specs.Record.{Row}
use Rattle.blz_value.specs.Sets.{set_of}
use Rattle.topo_forms.specs.Data.{SourceData}
use Rattle.topo_forms.specs.Messages.{Message, row, distinct_rows, source_messages}
use Rattle.topo_forms.specs.View.{stream_at}
use Rattle.messages.specs.Lists.{OneListBecomes, list_at, read_lists}
use Rattle.messages.specs.Emitted.{has_seal}
use Rattle.messages.specs.EmittedCounts.{seals_of}
use Rattle.messages.proofs.ListsLemmas.{same_count}
use Rattle.inbox.proofs.SourceLists.{becomes_then, grown, list_then}
use Rattle.inbox.proofs.SourceMessages.{keys_are, few_keys, few_rows, no_seal, all_messages_are}
use Rattle.inbox.proofs.sources.emit_keyed.Goals as goal

pub emit_records-requires-clause-room : goal.emit_records-requires-clause-room
emit_records-requires-clause-room c = omega (arith, c.requires.room, ap (λ (d : SourceData). length d.rows) c.held.view_is)

pub seal_partitions-requires-clause-place : goal.seal_partitions-requires-clause-place
seal_partitions-requires-clause-place c =
    omega (arith, c.requires.place, same_count c.args.lists.now c.emit_records.new.lists c.args.place _ c.in_ok-emit_records.ensures.ok)

pub seal_partitions-requires-clause-room : goal.seal_partitions-requires-clause-room
seal_partitions-requires-clause-room c =
    let d : SourceData = c.args.held in
    let rows : List Row = c.held.inside.rows.items in
    let same_rows : rows ≡ d.rows = ap (λ (s : SourceData). s.rows) c.held.view_is in
    let same_parts : c.held.inside.parts.items ≡ d.parts = ap (λ (s : SourceData). s.parts) c.held.view_is in
    let are =
    keys_are c.deref.result.now c.deref-2.result.now c.deref-3.result.now c.in_ok-keys.keys.keys d
    (c.deref-2.ensures.value ∙ same_rows) (c.deref-3.ensures.value ∙ same_parts) c.in_ok-keys.ensures in
    omega (
      arith,
      c.requires.room,
      ap (length {A = Row}) same_rows,
      few_rows rows,
      few_keys c.deref.result.now c.in_ok-keys.keys.keys d are,
      grown c.args.lists.now c.emit_records.new.lists c.args.place (map row (distinct_rows rows)) c.requires.place c.in_ok-emit_records.ensures.ok c.requires.empty,
    )

pub seal_partitions-requires-clause-unsealed : goal.seal_partitions-requires-clause-unsealed
seal_partitions-requires-clause-unsealed c k d lt =
    let rows : List Row = c.held.inside.rows.items in
    let key : Row = slice_index_or c.in_ok-keys.keys.keys k d in
    subst (λ (list : List Message). has_seal list key ≡ false)
    (sym (list_then c.args.lists.now c.emit_records.new.lists c.args.place (map row (distinct_rows rows)) c.requires.place c.in_ok-emit_records.ensures.ok))
    (no_seal (distinct_rows rows) key)

pub returns-clause-ok : goal.returns-clause-ok
returns-clause-ok c =
    let d : SourceData = c.args.held in
    let rows : List Row = c.held.inside.rows.items in
    let columns : List ℕ = c.deref-4.result.now in
    let line = stream_at c.args.valid.now.view c.args.source in
    let same : c.deref.result.now ≡ columns = c.deref.ensures.value ∙ sym c.deref-4.ensures.value in
    let same_rows : rows ≡ d.rows = ap (λ (s : SourceData). s.rows) c.held.view_is in
    let same_parts : c.held.inside.parts.items ≡ d.parts = ap (λ (s : SourceData). s.parts) c.held.view_is in
    let are =
    keys_are columns c.deref-2.result.now c.deref-3.result.now c.in_ok-keys.keys.keys d (c.deref-2.ensures.value ∙ same_rows) (c.deref-3.ensures.value ∙ same_parts)
    (c.in_ok-keys.ensures ∙ ap (λ (cs : List ℕ). set_of (map (cells cs) c.deref-2.result.now ++ c.deref-3.result.now)) same) in
    let emitted : list_at (read_lists c.emit_records.new.lists) c.args.place ≡ map row (distinct_rows d.rows) =
    list_then c.args.lists.now c.emit_records.new.lists c.args.place (map row (distinct_rows rows)) c.requires.place c.in_ok-emit_records.ensures.ok
    ∙ ap (λ (l : List Row). map row (distinct_rows l)) same_rows in
    becomes_then c.args.lists.now c.emit_records.new.lists c.seal_partitions.new.self c.args.place (map row (distinct_rows rows)) (source_messages line d)
    c.in_ok-emit_records.ensures.ok
    (subst (OneListBecomes c.emit_records.new.lists c.seal_partitions.new.self c.args.place)
    (ap (λ (list : List Message). list ++ seals_of columns list c.in_ok-keys.keys.keys) emitted
    ∙ all_messages_are line d c.args.key columns c.in_ok-keys.keys.keys c.requires.key (c.deref-4.ensures.value ∙ c.in_ok-columns.ensures) are)
    c.in_ok-seal_partitions.ensures.ok)
