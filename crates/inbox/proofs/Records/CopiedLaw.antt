-- A row of an output has, in the columns that are their own roots, the values of one record that arrived.
use Rattle.std.proofs.Common.{◌≡◌, ◌<◌, ℕ, true, Option, None, Some, List, [], ◌∷◌, ◌++◌, length, map, get_or, ap, ◌∙◌, sym, subst}
use Rattle.std.specs.List.{zip}
use Rattle.blz_value.specs.Members.{Has}
use Rattle.blz_value.specs.Record.{Row}
use Rattle.blz_value.proofs.Membership.{Has-get_or}
use Rattle.blz_value.specs.Closure.{within}
use Rattle.bloom_forms.specs.declared.program.Program.{Program}
use Rattle.bloom_forms.specs.Program.{port_columns, output_columns}
use Rattle.bloom_forms.specs.ProgramStep.{outputs_of_step}
use Rattle.bloom_forms.specs.Query.{Name}
use Rattle.bloom_forms.specs.Step.{Sets, set_at}
use Rattle.bloom_forms.specs.Annotation.{roots_of_output}
use Rattle.bloom_forms.specs.Copies.{feeds_output, HasOrigin}
use Rattle.bloom_forms.specs.Gates.{set_of_roots}
use Rattle.bloom_forms.specs.HeadRoots.{attribute_roots}
use Rattle.bloom_forms.specs.Roots.{Roots, root_at}
use Rattle.bloom_forms.proofs.Copies.AllOrigins.{outputs_origins}
use Rattle.bloom_forms.proofs.Reach.ProperLemmas.{distinct_columns}
use Rattle.bloom_forms.proofs.Copies.Copying.{root-within}
use Rattle.bloom_forms.proofs.Copies.AttributesLemmas.{in_roots}
use Rattle.topo_forms.specs.Data.{place_of_attribute}
use Rattle.topo_forms.specs.Valid.{IsValid}
use Rattle.topo_forms.specs.View.{View, component_at, port_at, output_at, program_of, own_root, own_attrs, port_attrs}
use Rattle.inbox.specs.Agreement.{port_roots, value_at, IsCopiedFrom}
use Rattle.inbox.specs.StreamLaws.{CopiedLaw}
use Rattle.inbox.proofs.Columns.Attributes.{value_of_place, numbers_are_roots, root_within, roots_within, own_column}
use Rattle.inbox.proofs.Columns.OwnColumns.{port_distinct, own_first}
use Rattle.inbox.proofs.Columns.Viewed.{runs, port_is, output_is}
use Rattle.bloom_forms.specs.Steps.{tables_after_steps, AreArrivals}

module _ (v : View) (c o : ℕ) (program : Program) (earlier : List Sets) (now : Sets) (r : Row) (valid : IsValid v) (there : c < length v.components) (has : program_of v c ≡ Some program)
    (is_output : o < length (component_at v c).outputs) (arrivals : AreArrivals program (earlier ++ now ∷ []))
    (stands : Has r (set_at (outputs_of_step program (tables_after_steps program earlier) now) o)) where
  abbrev names : List Name
  names = v.attributes

  abbrev port_columns_at : ℕ → List Name
  port_columns_at p = get_or (port_columns program) p []

  abbrev output_columns_at : List Name
  output_columns_at = get_or (output_columns program) o []

  origin : HasOrigin names program (earlier ++ now ∷ []) (feeds_output program o) (roots_of_output names program o) r
  origin = outputs_origins names program (runs v valid c there program has).proper earlier now o r arrivals stands

  abbrev own_roots : Roots
  own_roots = map own_root (zip (output_at v c o).columns (output_at v c o).roots)

  -- a column that is its own root is a copy of the column of its attribute in the record at the port
  record IsCopied (a : ℕ) : Type 0 where
    pub place : ℕ
    pub at : root_at (port_roots v c origin.port) place ≡ Some a
    pub same : value_at (output_at v c o).columns r a ≡ value_at (port_roots v c origin.port) origin.copied a

  copied_column : (a : ℕ) → Has (Some a) own_roots → IsCopied a
  copied_column a h =
      let own_at = own_column (output_at v c o) a h in
      let columns_are = output_is v valid c there program has o in
      let ports_are = port_is v valid c there program has origin.port in
      let roots : (output_at v c o).roots ≡ roots_of_output names program o = (runs v valid c there program has).roots o is_output in
      let column : root_at (attribute_roots names output_columns_at) own_at.0 ≡ Some a = subst (λ (z : Roots). root_at z own_at.0 ≡ Some a) columns_are own_at.1 in
      let root : root_at (roots_of_output names program o) own_at.0 ≡ Some a = subst (λ (z : Roots). root_at z own_at.0 ≡ Some a) roots own_at.2 in
      let first = own_first names program (runs v valid c there program has).proper (distinct_columns program (runs v valid c there program has).distinct) o own_at.0 a column root in
      let copy = origin.is (place_of_attribute (attribute_roots names output_columns_at) a) a first in
      record {
        place = copy.0;
        at = subst (λ (z : Roots). root_at z copy.0 ≡ Some a) (sym ports_are) copy.1;
        same =
            ap (λ (z : Roots). value_at z r a) columns_are
            ∙ copy.2
            ∙ sym (value_of_place names (port_columns_at origin.port) (port_distinct program (runs v valid c there program has).distinct origin.port) origin.copied copy.0 a copy.1)
            ∙ sym (ap (λ (z : Roots). value_at z origin.copied a) ports_are);
      }

  own_within : within (own_attrs (output_at v c o)) (port_attrs v c origin.port).bits ≡ true
  own_within =
      let cols = port_roots v c origin.port in
      subst (λ (n : ℕ). within (own_attrs (output_at v c o)) n ≡ true) (sym (numbers_are_roots (port_at v c origin.port).columns))
      (roots_within own_roots (set_of_roots cols) (λ a h.
      let copy = copied_column a h in
      root_within cols a (subst (λ (z : Option ℕ). Has z cols) copy.at (Has-get_or cols copy.place None (root-within cols copy.place a copy.at)))))

  copied_from : IsCopiedFrom v c o program (earlier ++ now ∷ []) r
  copied_from = record {
    now = origin.now;
    came = origin.came;
    port = origin.port;
    feeds = origin.source;
    copied = origin.copied;
    arrived = origin.arrived;
    has_all = own_within;
    same = λ a h. (copied_column a (in_roots own_roots a h)).same;
  }

pub copied_law : CopiedLaw
copied_law v c o program earlier now r valid there has is_output arrivals stands = copied_from v c o program earlier now r valid there has is_output arrivals stands
