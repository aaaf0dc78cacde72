-- Origins of rows: the arriving record of which all columns with roots are copies.
use Rattle.std.specs.Prelude.{ℕ, ◌≡◌, ◌==◌, Bool, IsTrue, Some, List, [], slice_index_or}
use Rattle.blz_value.specs.Members.{Has}
use Rattle.blz_value.specs.Record.{Row}
use Rattle.blz_value.specs.Test.{cell}
use Rattle.blz_value.specs.Bits.{bit_of, meets}
use Rattle.bloom_forms.specs.declared.module.Kind.TheVariants.{Input, Output}
use Rattle.bloom_forms.specs.declared.program.Program.{Program}
use Rattle.bloom_forms.specs.declared.program.Program.TheVariants.{Module, Split, Latest, Number}
use Rattle.bloom_forms.specs.Form.{Accepted}
use Rattle.bloom_forms.specs.Program.{port_columns}
use Rattle.bloom_forms.specs.Query.{Name, Query}
use Rattle.bloom_forms.specs.Reads.{cone}
use Rattle.bloom_forms.specs.Step.{Sets, set_at}
use Rattle.bloom_forms.specs.KindNumbers.{number_in_kind}
use Rattle.bloom_forms.specs.HeadRoots.{attribute_roots}
use Rattle.bloom_forms.specs.Roots.{Roots, root_at}
use Rattle.bloom_forms.specs.Uses.{feeds}

-- a port stands in the cone of an expression
abbrev pub feeds_query : Accepted → Query → (port : ℕ) → Bool
feeds_query a q port = meets (bit_of (number_in_kind Input a.form.collections port)) (cone a.form.collections a.form.rules q)

-- records of a port come to an output: of a module through its rules, of Latest from `put`, of the other stock bodies from their one port
abbrev pub feeds_output : Program → (output port : ℕ) → Bool
feeds_output (Module a) output port = feeds a.form.collections a.form.rules (number_in_kind Input a.form.collections port) (number_in_kind Output a.form.collections output)
feeds_output (Split columns split) output port = port == 0
feeds_output (Latest columns keys) output port = port == 0
feeds_output (Number columns) output port = port == 0

-- in each column with a root, a row has the value that a record with these columns has in the attribute of that name
abbrev pub IsCopyOf : (names columns : List Name) → (copied : Row) → Roots → Row → Type 0
IsCopyOf names columns copied roots row = (number attribute : ℕ) → root_at roots number ≡ Some attribute
    → (place : ℕ) × (root_at (attribute_roots names columns) place ≡ Some attribute) × (cell row number ≡ cell copied place)

-- one record, which arrived at a port that passes the test, is what all columns of the row with roots are copied from
pub record HasOrigin (names : List Name) (program : Program) (nows : List Sets) (is_source : ℕ → Bool) (roots : Roots) (row : Row) : Type 0 where
  pub now : Sets
  pub came : Has now nows
  pub port : ℕ
  pub source : IsTrue (is_source port)
  pub copied : Row
  pub arrived : Has copied (set_at now port)
  pub is : IsCopyOf names (slice_index_or (port_columns program) port []) copied roots row
