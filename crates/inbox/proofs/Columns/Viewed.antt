-- The columns of streams, ports and outputs in a view are those of programs.
use Rattle.std.proofs.Common.{◌≡◌, ◌<◌, ℕ, suc, arith, true, Some, List, [], ◌∷◌, length, map, get_or, ap, ◌∙◌, sym}
use Rattle.std.proofs.lemmas.List.{length-map}
use Rattle.blz_value.specs.Members.{Has}
use Rattle.blz_value.specs.Record.{Row}
use Rattle.blz_value.proofs.Membership.{Has-get_or}
use Rattle.bloom_forms.specs.declared.program.Program.{Program}
use Rattle.bloom_forms.specs.Program.{port_columns, output_columns}
use Rattle.bloom_forms.specs.Query.{Name}
use Rattle.bloom_forms.specs.Step.{Sets, set_at}
use Rattle.bloom_forms.specs.Widths.{AreWide, AreSetsOf}
use Rattle.bloom_forms.specs.HeadRoots.{attribute_roots}
use Rattle.bloom_forms.specs.Roots.{Roots}
use Rattle.topo_forms.specs.Valid.{IsValid, Runs}
use Rattle.topo_forms.specs.View.{View, Port, Output, no_port, no_output, component_at, stream_at, output_at, program_of, goes_to}
use Rattle.inbox.specs.Agreement.{port_roots}
use Rattle.inbox.proofs.Columns.Attributes.{get_or-map_default}
use Rattle.inbox.proofs.Streams.IntoPorts.{stream_into}
use Rattle.bloom_forms.specs.Steps.{AreArrivals}
use Rattle.bloom_forms.proofs.Ends.StockWidths.{wide_by_rows}

-- ---- streams into ports

-- ---- the columns of a program

module _ (v : View) (valid : IsValid v) (c : ℕ) (within : c < length v.components) (program : Program) (has : program_of v c ≡ Some program) where
  pub runs : Runs v c program
  runs = (valid.components c within).runs program has

  pub port_is : (p : ℕ) → port_roots v c p ≡ attribute_roots v.attributes (get_or (port_columns program) p [])
  port_is p =
      sym (get_or-map_default (λ (port : Port). map Some port.columns) (component_at v c).ports p no_port)
      ∙ ap (λ (l : List Roots). get_or l p []) runs.ports
      ∙ get_or-map_default (attribute_roots v.attributes) (port_columns program) p []

  pub output_is : (o : ℕ) → (output_at v c o).columns ≡ attribute_roots v.attributes (get_or (output_columns program) o [])
  output_is o =
      sym (get_or-map_default (λ (output : Output). output.columns) (component_at v c).outputs o no_output)
      ∙ ap (λ (l : List Roots). get_or l o []) runs.outputs
      ∙ get_or-map_default (attribute_roots v.attributes) (output_columns program) o []

  pub port_count : length (component_at v c).ports ≡ length (port_columns program)
  port_count = sym (length-map (component_at v c).ports (λ (port : Port). map Some port.columns)) ∙ ap length runs.ports ∙ length-map (port_columns program) (attribute_roots v.attributes)

  -- a stream into a port has the columns of the program's port
  pub stream_is : (p u : ℕ) → u < length v.streams → goes_to v c p u ≡ true → (stream_at v u).columns ≡ attribute_roots v.attributes (get_or (port_columns program) p [])
  stream_is p u inside goes = stream_into v valid c p u inside goes ∙ port_is p

-- ---- arrivals

sets_by_place : (columns : List (List Name)) (sets : Sets) → length sets ≡ length columns → ((k : ℕ) → AreWide (length (get_or columns k [])) (set_at sets k)) → AreSetsOf columns sets
sets_by_place [] [] same each = tt
sets_by_place [] (s ∷ sets) same each = absurd (omega (arith, same))
sets_by_place (names ∷ columns) [] same each = absurd (omega (arith, same))
sets_by_place (names ∷ columns) (s ∷ sets) same each = (each 0, sets_by_place columns sets (omega (arith, same)) (λ k. each (suc k)))

-- timesteps with one set for each port, and rows as wide as the ports
pub are_arrivals : (program : Program) (nows : List Sets) → ((now : Sets) → Has now nows → length now ≡ length (port_columns program))
    → ((now : Sets) (port : ℕ) (r : Row) → Has now nows → Has r (set_at now port) → length r ≡ length (get_or (port_columns program) port [])) → AreArrivals program nows
are_arrivals program nows shape wide k d lt =
    let now = get_or nows k d in
    let among = Has-get_or nows k d lt in
    sets_by_place (port_columns program) now (shape now among) (λ port. wide_by_rows (length (get_or (port_columns program) port [])) (set_at now port) (λ r h. wide now port r among h))
