-- A turn of the loop finds one more entry, and in the end there is none left.
use Rattle.std.proofs.Common.{◌≡◌, ◌<◌, ◌≤◌, ◌+◌, ◌∙◌, ℕ, List, [], ◌∷◌, ◌++◌, length, drop, get_or, map, ap, sym, refl, append_assoc, Result, Ok, Err}
use Rattle.std.proofs.lemmas.List.{append-nil, drop_all}
use Rattle.blz_value.proofs.Lists.{rest_is}
use Rattle.toml.specs.Data.{Members}
use Rattle.toml.specs.View.{table_view}
use Rattle.topo_read.specs.Fields.{◌>>=◌, Path}
use Rattle.topo_read.specs.Topology.{numbered, entries_from}
use Rattle.topo_read.proofs.Front.{with_entries}
use Rattle.topo_read.proofs.reading.entries.Goals as goal

moved : {X : Type 0} (front : List X) (x : X) (rest : Result (List X) Path) → with_entries (front ++ (x ∷ [])) rest ≡ with_entries front (rest >>= (λ others. Ok (x ∷ others)))
moved front x (Ok others) = ap Ok (append_assoc front (x ∷ []) others)
moved front x (Err path) = refl

-- an entry that is read moves from the rest to the front
one_more : {A X : Type 0} (seen : A → Members) (read : Members → Result X Path) (list : List ℕ) (front new : List X) (x : X) (table : A) (tables : List A) (i : ℕ) (all : Result (List X) Path) → i < length tables → table ≡ get_or tables i table → numbered list (i + 1) (read (seen table)) ≡ Ok x → new ≡ front ++ (x ∷ [])
    → with_entries front (entries_from read list (i + 1) (map seen (drop i tables))) ≡ all → with_entries new (entries_from read list (i + 1 + 1) (map seen (drop (i + 1) tables))) ≡ all
one_more {A} {X} seen read list front new x table tables i all below is given put before =
    let rest : Result (List X) Path = entries_from read list (i + 1 + 1) (map seen (drop (i + 1) tables)) in
    ap (λ (l : List X). with_entries l rest) put
    ∙ moved front x rest
    ∙ ap (λ (r : Result X Path). with_entries front (r >>= (λ first. rest >>= (λ others. Ok (first ∷ others))))) (sym given)
    ∙ ap (λ (l : List A). with_entries front (entries_from read list (i + 1) (map seen l))) (sym (rest_is tables i table below is))
    ∙ before

-- with no table left the front is all
none_left : {A X : Type 0} (seen : A → Members) (read : Members → Result X Path) (list : List ℕ) (front : List X) (tables : List A) (i : ℕ) (all : Result (List X) Path) → length tables ≤ i → with_entries front (entries_from read list (i + 1) (map seen (drop i tables))) ≡ all → all ≡ Ok front
none_left {A} {X} seen read list front tables i all past before =
    sym before
    ∙ ap (λ (l : List A). with_entries front (entries_from read list (i + 1) (map seen l))) (drop_all i tables past)
    ∙ ap Ok (append-nil front)

pub loop-place-preserved : goal.loop-place-preserved
loop-place-preserved g c =
    one_more (λ table. table_view table.now) (g.T.FromTable.reading c.args.format) c.args.list.now c.loop-place.entries.items c.push.new.self.items c.in_ok-numbered.field-0 c.index-tables-place.result c.args.tables.now c.loop-place.place _ c.loop-place-test.true c.index-tables-place.is c.in_ok-numbered.ensures c.in_ok-push.ensures.items c.loop-place.invariant

pub returns : goal.returns
returns g c = none_left (λ table. table_view table.now) (g.T.FromTable.reading c.args.format) c.args.list.now c.loop-place.entries.items c.args.tables.now c.loop-place.place _ c.loop-place-test.false c.loop-place.invariant ∙ ap Ok (sym c.from_vec.ensures)
