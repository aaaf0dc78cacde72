-- What a value gives is allowed where such a value stands.
use Rattle.std.proofs.Common.{◌≡◌, ◌≤◌, ◌&&◌, ◌||◌, ℕ, Bool, true, false, nat_le, List, [], ◌∷◌, length, Option, Some, None, refl, ap, sym, ◌∙◌, subst, option_map, ◌==◌, arith}
use Rattle.std.specs.List.{list_all}
use Rattle.std.specs.Prelude.{codes}
use Rattle.std.proofs.lemmas.Bool.Decides.{nat_tests}
use Rattle.toml.specs.Data.{Data, Items, no_items, item, Members, get_member, as_str, as_array, as_table}
use Rattle.blz_value.specs.Name.{is_name}
use Rattle.blz_value.proofs.Booleans.{and_true}
use Rattle.blz_value.proofs.Options.{same_some}
use Rattle.topo_forms.specs.Allowed.{are_names, are_some_names, is_spot, is_side, allows_gate, allows_note, allows_side}
use Rattle.topo_forms.specs.declared.topology.ColumnType.{ColumnType}
use Rattle.topo_forms.specs.declared.topology.Declared.{Declared}
use Rattle.topo_forms.specs.declared.topology.NoteName.{NoteName}
use Rattle.topo_forms.specs.declared.topology.NoteName.TheVariants.{CR, CW, OR, OW}
use Rattle.topo_forms.specs.declared.topology.Side.{Side}
use Rattle.topo_forms.specs.declared.topology.Spot.{Spot}
use Rattle.topo_read.specs.declared.values.FileName.{FileName}
use Rattle.topo_read.specs.declared.values.Format.{Format}
use Rattle.topo_read.specs.declared.values.Format.TheVariants.{One, Two}
use Rattle.topo_read.specs.Tables.{at_key, has_only, none_or_some, maybe_at_key, none_or_list, list_at_key, lacks, side_of, side_in, gate_of, declared_of, declared_in, fd_names_at, up_to_eight}
use Rattle.topo_read.specs.Values.{◌>>=◌, only_if, parts_of, note_in, name_of, name_in, all_in, list_in, names_in, one_or_more, some_names_in, spot_of, spot_in, is_file_name, file_of, file_in, type_in, of_length, types_in}

-- each x that the reading gives passes the test
abbrev pub Passes : {X : Type 0} → (Data → Option X) → (X → Bool) → Type 0
Passes {X} read test = (value : Data) (x : X) → read value ≡ Some x → test x ≡ true

-- ---- the steps of a reading

-- what went on was given
pub gave : {A B : Type 0} (m : Option A) (next : A → Option B) (y : B) → (m >>= next) ≡ Some y → (x : A) × (m ≡ Some x) × (next x ≡ Some y)
gave (Some x) next y e = (x, refl, e)
gave None next y e = cc

-- what is given under a test passed it
pub tested : {X : Type 0} (test : Bool) (x y : X) → only_if test x ≡ Some y → (test ≡ true) × (x ≡ y)
tested true x y e = (refl, (let same : x ≡ y = cc in same))
tested false x y e = cc

-- ---- values

pub name_passes : (text name : List ℕ) → name_of text ≡ Some name → is_name name ≡ true
name_passes text name e =
    let held = tested (is_name text) text name e in
    subst (λ (n : List ℕ). is_name n ≡ true) held.1 held.0

pub good_name : Passes name_in is_name
good_name value name e =
    let text = gave (as_str value) name_of name e in
    name_passes text.0 name text.2

all_pass : {X : Type 0} (read : Data → Option X) (test : X → Bool) → Passes read test → (values : Items) (xs : List X) → all_in read values ≡ Some xs → list_all test xs ≡ true
all_pass read test passes no_items [] e = refl
all_pass read test passes no_items (x ∷ xs) e = cc
all_pass read test passes (item value rest) xs e =
    let first = gave (read value) (λ first. all_in read rest >>= (λ others. Some (first ∷ others))) xs e in
    let others = gave (all_in read rest) (λ others. Some (first.0 ∷ others)) xs first.2 in
    subst (λ zs. list_all test zs ≡ true) (same_some (first.0 ∷ others.0) xs others.2)
    (and_true (test first.0) (list_all test others.0) (passes value first.0 first.1) (all_pass read test passes rest others.0 others.1))

pub good_list : {X : Type 0} (read : Data → Option X) (test : X → Bool) → Passes read test → Passes (list_in read) (list_all test)
good_list read test passes value xs e =
    let values = gave (as_array value) (all_in read) xs e in
    all_pass read test passes values.0 xs values.2

pub good_names : Passes names_in are_names
good_names = good_list name_in is_name good_name

has_one : {X : Type 0} (x : X) (xs : List X) → nat_le 1 (length (x ∷ xs)) ≡ true
has_one x xs = grind (arith, nat_tests)

some_of : {X : Type 0} (xs ys : List X) → one_or_more xs ≡ Some ys → (xs ≡ ys) × (nat_le 1 (length ys) ≡ true)
some_of [] ys e = cc
some_of (x ∷ xs) [] e = cc
some_of (x ∷ xs) (y ∷ ys) e = ((let same : (x ∷ xs) ≡ (y ∷ ys) = cc in same), has_one y ys)

pub good_some_names : Passes some_names_in are_some_names
good_some_names value names e =
    let listed = gave (names_in value) one_or_more names e in
    let one = some_of listed.0 names listed.2 in
    and_true (nat_le 1 (length names)) (are_names names) one.1 (subst (λ ns. are_names ns ≡ true) one.0 (good_names value listed.0 listed.1))

spot_passes : (text : List ℕ) (spot : Spot) → spot_of text ≡ Some spot → is_spot spot ≡ true
unfolding spot_of
spot_passes text spot e =
    let parts = gave (parts_of text) _ spot e in
    let component = gave (name_of parts.0.0) _ spot parts.2 in
    let port = gave (name_of parts.0.1) _ spot component.2 in
    subst (λ s. is_spot s ≡ true) (same_some {X = Spot} (record { component = component.0; port = port.0 }) spot port.2)
    (and_true (is_name component.0) (is_name port.0) (name_passes parts.0.0 component.0 component.1) (name_passes parts.0.1 port.0 port.1))

pub good_spot : Passes spot_in is_spot
good_spot value spot e =
    let text = gave (as_str value) spot_of spot e in
    spot_passes text.0 spot text.2

abbrev pub fits_file : FileName → Bool
fits_file file = is_file_name file.name

pub good_file : Passes file_in fits_file
good_file value file e =
    let text = gave (as_str value) file_of file e in
    let held = tested {X = FileName} (is_file_name text.0) (record { name = text.0 }) file text.2 in
    subst (λ f. fits_file f ≡ true) held.1 held.0

-- ---- keys

pub good_at_key : {X : Type 0} (read : Data → Option X) (test : X → Bool) → Passes read test → (key : List ℕ) (table : Members) (x : X) → at_key read key table ≡ Some x → test x ≡ true
good_at_key read test passes key table x e =
    let value = gave (get_member key table) read x e in
    passes value.0 x value.2

-- a test of what may be missing
abbrev pub passes_any : {X : Type 0} → (X → Bool) → Option X → Bool
passes_any test None = true
passes_any test (Some x) = test x

good_maybe : {X : Type 0} (read : Data → Option X) (test : X → Bool) → Passes read test → (value : Option Data) (x : Option X) → none_or_some read value ≡ Some x → passes_any test x ≡ true
good_maybe read test passes value None e = refl
good_maybe read test passes None (Some x) e = cc
good_maybe {X = X} read test passes (Some value) (Some x) e = go (read value) refl e
  where
    go : (given : Option X) → read value ≡ given → option_map Some given ≡ Some (Some x) → test x ≡ true
    go (Some y) was e = passes value x (was ∙ (let same : Some y ≡ Some x = cc in same))
    go None was e = cc

pub good_maybe_at_key : {X : Type 0} (read : Data → Option X) (test : X → Bool) → Passes read test → (key : List ℕ) (table : Members) (x : Option X) → maybe_at_key read key table ≡ Some x → passes_any test x ≡ true
good_maybe_at_key read test passes key table x e = good_maybe read test passes (get_member key table) x e

good_none_or_list : {X : Type 0} (read : Data → Option X) (test : X → Bool) → Passes read test → (value : Option Data) (xs : List X) → none_or_list read value ≡ Some xs → list_all test xs ≡ true
good_none_or_list read test passes None [] e = refl
good_none_or_list read test passes None (x ∷ xs) e = cc
good_none_or_list read test passes (Some value) xs e = good_list read test passes value xs e

pub good_list_at_key : {X : Type 0} (read : Data → Option X) (test : X → Bool) → Passes read test → (key : List ℕ) (table : Members) (xs : List X) → list_at_key read key table ≡ Some xs → list_all test xs ≡ true
good_list_at_key read test passes key table xs e = good_none_or_list read test passes (get_member key table) xs e

-- ---- tables in a list of an entry

side_passes : (table : Members) (side : Side) → side_of table ≡ Some side → is_side side ≡ true
unfolding side_of
side_passes table side e =
    let name = gave (at_key name_in (codes "name") table) _ side e in
    let columns = gave (at_key names_in (codes "columns") table) _ side name.2 in
    let held = tested {X = Side} (has_only (codes "name" ∷ codes "columns" ∷ []) table) (record { name = name.0; columns = columns.0 }) side columns.2 in
    subst (λ s. is_side s ≡ true) held.1
    (and_true (is_name name.0) (are_names columns.0) (good_at_key name_in is_name good_name (codes "name") table name.0 name.1) (good_at_key names_in are_names good_names (codes "columns") table columns.0 columns.1))

pub good_side : Passes side_in is_side
good_side value side e =
    let table = gave (as_table value) side_of side e in
    side_passes table.0 side table.2

gate_passes : (note : NoteName) (table : Members) (gate : List (List ℕ)) → gate_of note table ≡ Some gate → allows_gate note gate ≡ true
gate_passes CR table gate e = subst (λ g. allows_gate CR g ≡ true) (tested {X = List (List ℕ)} (lacks (codes "gate") table) [] gate e).1 refl
gate_passes CW table gate e = subst (λ g. allows_gate CW g ≡ true) (tested {X = List (List ℕ)} (lacks (codes "gate") table) [] gate e).1 refl
gate_passes OR table gate e = good_list_at_key name_in is_name good_name (codes "gate") table gate e
gate_passes OW table gate e = good_list_at_key name_in is_name good_name (codes "gate") table gate e

note_passes : (table : Members) (declared : Declared) → declared_of table ≡ Some declared → allows_note declared ≡ true
unfolding declared_of
note_passes table declared e =
    let from = gave (at_key name_in (codes "from") table) _ declared e in
    let to = gave (at_key name_in (codes "to") table) _ declared from.2 in
    let note = gave (at_key note_in (codes "note") table) _ declared to.2 in
    let gate = gave (gate_of note.0 table) _ declared note.2 in
    let held = tested {X = Declared} (has_only (codes "from" ∷ codes "to" ∷ codes "note" ∷ codes "gate" ∷ []) table) (record { from = from.0; to = to.0; note = note.0; gate = gate.0 }) declared gate.2 in
    subst (λ d. allows_note d ≡ true) held.1
    (and_true (is_name from.0) (is_name to.0 && allows_gate note.0 gate.0) (good_at_key name_in is_name good_name (codes "from") table from.0 from.1)
    (and_true (is_name to.0) (allows_gate note.0 gate.0) (good_at_key name_in is_name good_name (codes "to") table to.0 to.1) (gate_passes note.0 table gate.0 gate.1)))

pub good_note : Passes declared_in allows_note
good_note value declared e =
    let table = gave (as_table value) declared_of declared e in
    note_passes table.0 declared table.2

-- a side of a dependency is allowed in format 2, whichever format it is read from
pub good_fd_names : (format : Format) (key : List ℕ) (table : Members) (names : List (List ℕ)) → fd_names_at format key table ≡ Some names → allows_side 2 names ≡ true
good_fd_names One key table names e =
    let name = gave (at_key name_in key table) (λ name. Some (name ∷ [])) names e in
    subst (λ ns. allows_side 2 ns ≡ true) (same_some (name.0 ∷ []) names name.2)
    (and_true (are_some_names (name.0 ∷ [])) (nat_le 1 8) (and_true (nat_le 1 1) (is_name name.0 && true) refl (and_true (is_name name.0) true (good_at_key name_in is_name good_name key table name.0 name.1) refl)) refl)
good_fd_names Two key table names e =
    let listed = gave (at_key some_names_in key table) up_to_eight names e in
    let held = tested (nat_le (length listed.0) 8) listed.0 names listed.2 in
    subst (λ ns. allows_side 2 ns ≡ true) held.1
    (and_true (are_some_names listed.0) (nat_le (length listed.0) 8) (good_at_key some_names_in are_some_names good_some_names key table listed.0 listed.1) held.0)

-- as many types as columns
pub as_many_types : (count : ℕ) (value : Data) (types : List ColumnType) → types_in count value ≡ Some types → length types ≡ count
as_many_types count value types e =
    let listed = gave (list_in type_in value) (of_length count) types e in
    let held = tested (length listed.0 == count) listed.0 types listed.2 in
    subst (λ ts. length ts ≡ count) held.1 (equal (length listed.0) count held.0)
  where
    equal : (a b : ℕ) → (a == b) ≡ true → a ≡ b
    equal a b e = grind (arith, nat_tests)

pub equal_numbers : (a b : ℕ) → a ≡ b → (a == b) ≡ true
equal_numbers a b e = grind (arith, nat_tests)
