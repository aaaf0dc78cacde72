-- A list in front of what is read.
use Rattle.std.proofs.Common.{◌≡◌, ◌<◌, ◌≤◌, ◌+◌, ◌∙◌, ℕ, List, [], ◌∷◌, ◌++◌, length, drop, get_or, ap, sym, refl, append_assoc, Option, Some, None, Result, Ok, Err}
use Rattle.std.specs.Prelude.{option_map}
use Rattle.std.proofs.lemmas.List.{append-nil, drop_all}
use Rattle.toml.proofs.Views.{items_view-drop}
use Rattle.toml.specs.Data.{Data, Items, item}
use Rattle.toml.specs.View.{view, items_view}
use Rattle.toml.specs.declared.value.Value.{Value}
use Rattle.topo_read.specs.Fields.{Path}
use Rattle.topo_read.specs.Values.{◌>>=◌, all_in}

abbrev pub with_front : {X : Type 0} → List X → Option (List X) → Option (List X)
with_front front = option_map (λ others. front ++ others)

abbrev pub with_entries : {X : Type 0} → List X → Result (List X) Path → Result (List X) Path
with_entries front (Ok others) = Ok (front ++ others)
with_entries front (Err path) = Err path

moved : {X : Type 0} (front : List X) (x : X) (rest : Option (List X)) → with_front (front ++ (x ∷ [])) rest ≡ with_front front (rest >>= (λ others. Some (x ∷ others)))
moved front x None = refl
moved front x (Some others) = ap Some (append_assoc front (x ∷ []) others)

-- an item that is read moves from the rest to the front
pub one_more : {X : Type 0} (read : Data → Option X) (front new : List X) (x : X) (value : Value) (values : List Value) (i : ℕ) (all : Option (List X)) → i < length values → value ≡ get_or values i value → read (view value) ≡ Some x → new ≡ front ++ (x ∷ [])
    → with_front front (all_in read (items_view (drop i values))) ≡ all → with_front new (all_in read (items_view (drop (i + 1) values))) ≡ all
one_more {X} read front new x value values i all below is given put before =
    let rest : Option (List X) = all_in read (items_view (drop (i + 1) values)) in
    ap (λ (l : List X). with_front l rest) put
    ∙ moved front x rest
    ∙ ap (λ (o : Option X). with_front front (o >>= (λ first. rest >>= (λ others. Some (first ∷ others))))) (sym given)
    ∙ ap (λ (v : Value). with_front front (all_in read (item (view v) (items_view (drop (i + 1) values))))) is
    ∙ ap (λ (items : Items). with_front front (all_in read items)) (sym (items_view-drop values i value below))
    ∙ before

-- with no item left the front is all
pub none_left : {X : Type 0} (read : Data → Option X) (front : List X) (values : List Value) (i : ℕ) (all : Option (List X)) → length values ≤ i → with_front front (all_in read (items_view (drop i values))) ≡ all → all ≡ Some front
none_left read front values i all past before =
    sym before
    ∙ ap (λ (l : List Value). with_front front (all_in read (items_view l))) (drop_all i values past)
    ∙ ap Some (append-nil front)
