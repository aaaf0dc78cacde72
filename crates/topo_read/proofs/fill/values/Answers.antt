-- A turn of the loop writes one item more.
use Rattle.std.proofs.Common.{◌≡◌, ◌<◌, ◌+◌, ◌∙◌, ℕ, List, [], ◌∷◌, ◌++◌, length, get_or, map, take, ap, sym}
use Rattle.std.proofs.lemmas.List.{map_more, map_push}
use Rattle.toml.specs.Data.{Data}
use Rattle.toml.specs.View.{view}
use Rattle.toml.specs.declared.value.Value.{Value}
use Rattle.topo_read.proofs.fill.values.Goals as goal

-- the values of the items so far and of one more
one_more : {X : Type 0} (write : X → Data) (old new : List Value) (value : Value) (item : X) (items : List X) (i : ℕ) → i < length items → item ≡ get_or items i item → view value ≡ write item → new ≡ old ++ value ∷ [] → map view old ≡ map write (take i items) → map view new ≡ map write (take (i + 1) items)
one_more {X} write old new value item items i below is written put before =
    ap (λ (vs : List Value). map view vs) put
    ∙ map_push view old value
    ∙ ap (λ (l : List Data). l ++ view value ∷ []) before
    ∙ ap (λ (d : Data). map write (take i items) ++ d ∷ []) (written ∙ ap write is)
    ∙ sym (map_more write items i item below)

pub loop-item-preserved : goal.loop-item-preserved
loop-item-preserved g c =
    one_more g.T.IntoValue.written c.loop-item.values.items c.push.new.self.items c.in_ok-into_value.field-0 c.item-item.result c.args.items.now c.loop-item.item-index c.loop-item-test.true c.item-item.is c.in_ok-into_value.ensures c.in_ok-push.ensures.items c.loop-item.invariant
