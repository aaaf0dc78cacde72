-- The set of a list of records: sorted, with the list's members, and the only such list.
use Rattle.std.proofs.Common.{◌≡◌, List}
use Rattle.blz_value.specs.Members.{Has, HaveEqualMembers}
use Rattle.blz_value.specs.Record.{Row, record_cmp}
use Rattle.blz_value.specs.RecordOrder.{record_cmp_total, record_cmp_exact}
use Rattle.blz_value.specs.Sets.{set_of, IsRowSet}
use Rattle.blz_value.proofs.SetLemmas.{sorted_set_by, Has-set_by, Has-from_set_by, same_sorted}

pub sorted_set_of : (rows : List Row) → IsRowSet (set_of rows)
sorted_set_of rows = sorted_set_by record_cmp record_cmp_total rows

pub Has-set_of : (row : Row) (rows : List Row) → Has row rows → Has row (set_of rows)
Has-set_of row rows h = Has-set_by record_cmp record_cmp_exact row rows h

pub Has-from_set_of : (row : Row) (rows : List Row) → Has row (set_of rows) → Has row rows
Has-from_set_of row rows h = Has-from_set_by record_cmp row rows h

pub members_set_of : (rows : List Row) → HaveEqualMembers (set_of rows) rows
members_set_of rows = (λ row h. Has-from_set_of row rows h, λ row h. Has-set_of row rows h)

pub same_row_sets : (xs ys : List Row) → IsRowSet xs → IsRowSet ys → HaveEqualMembers xs ys → xs ≡ ys
same_row_sets xs ys s t same = same_sorted record_cmp record_cmp_total xs ys s t same.0 same.1
