-- A note of a component is O where one is in a row of its notes.
use Rattle.std.proofs.Common.{◌≡◌, ◌||◌, not, Bool, Option, None, Some, List, [], ◌∷◌, refl, ap, ◌∙◌}
use Rattle.std.specs.List.{filter_map, flat_map, list_any}
use Rattle.std.proofs.lemmas.List.Folds.{list_any-append}
use Rattle.bloom_forms.specs.declared.note.Note.{Note}
use Rattle.topo_forms.specs.Carried.{is_confluent}
use Rattle.coord_modes.specs.Code.Notes.{has_order_in}

abbrev is_o : Note → Bool
is_o note = not (is_confluent note)

order_row : (row : List (Option Note)) → list_any is_o (filter_map (λ n. n) row) ≡ has_order_in row
order_row [] = refl
order_row (None ∷ row) = order_row row
order_row (Some note ∷ row) = ap (λ (b : Bool). is_o note || b) (order_row row)

pub order_rows : (notes : List (List (Option Note))) → list_any is_o (flat_map (filter_map (λ n. n)) notes) ≡ list_any has_order_in notes
order_rows [] = refl
order_rows (row ∷ notes) =
    list_any-append is_o (filter_map (λ n. n) row) (flat_map (filter_map (λ n. n)) notes)
    ∙ ap (λ (b : Bool). b || list_any is_o (flat_map (filter_map (λ n. n)) notes)) (order_row row)
    ∙ ap (λ (b : Bool). has_order_in row || b) (order_rows notes)
