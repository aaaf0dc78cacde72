-- Names, lists and texts are read as they were written.
use Rattle.std.proofs.Common.{◌≡◌, ◌≤◌, ◌<◌, ◌+◌, ◌&&◌, inl, inr, ℕ, ℤ, pos, negsuc, suc, nat_eq, nat_lt, nat_le, Bool, true, false, cond, if◌then◌else◌, Option, None, Some, is_none, List, [], ◌∷◌, ◌++◌, length, map, take, drop, codes, refl, arith, ap, sym, subst, ◌∙◌, length-append, append_assoc}
use Rattle.std.specs.List.{list_all, position_or_len, before_first, after_first}
use Rattle.std.specs.Option.{option_map, unwrap_or}
use Rattle.std.proofs.lemmas.Bool.{eqb-true, true≢false}
use Rattle.std.proofs.lemmas.Bool.Decides.{nat_tests}
use Rattle.blz_value.specs.Members.{Has}
use Rattle.blz_value.specs.Name.{is_name, is_name_byte, starts_name}
use Rattle.blz_value.proofs.Membership.{all_member}
use Rattle.blz_value.proofs.Booleans.{both_true}
use Rattle.blz_value.proofs.Lists.{map_itself}
use Rattle.toml.specs.Data.{Data, string, Items, item, array, Members, get_member}
use Rattle.toml.specs.View.{items_of}
use Rattle.topo_forms.specs.declared.topology.ColumnType.{ColumnType}
use Rattle.topo_forms.specs.declared.topology.ColumnType.TheVariants as type
use Rattle.topo_forms.specs.declared.topology.NoteName.{NoteName}
use Rattle.topo_forms.specs.declared.topology.NoteName.TheVariants as note
use Rattle.topo_forms.specs.declared.topology.Declared.{Declared}
use Rattle.topo_forms.specs.declared.topology.Side.{Side}
use Rattle.topo_forms.specs.declared.topology.Spot.{Spot}
use Rattle.topo_forms.specs.Allowed.{is_empty, is_spot, are_names, are_some_names}
use Rattle.topo_read.specs.declared.values.Format.TheVariants.{Two}
use Rattle.topo_read.specs.Fill.{list_data, unless_empty}
use Rattle.topo_read.specs.Tables.{at_key, maybe_at_key, list_at_key, lacks, none_or_list, none_or_some, has_only, side_of, gate_of, declared_of, up_to_eight, fd_names_at}
use Rattle.topo_read.specs.Values.{◌>>=◌, only_if, name_of, name_in, names_in, some_names_in, one_or_more, all_in, list_in, is_dot, parts_of, spot_of, spot_in, type_in, types_in, of_length, note_in, file_in}
use Rattle.topo_read.specs.Written.{spot_data, type_data, note_data}

-- ---- lists

pub all_give : {X Y : Type 0} (read : Data → Option Y) (write : X → Data) (f : X → Y) (xs : List X) → ((x : X) → Has x xs → read (write x) ≡ Some (f x)) → all_in read (items_of (map write xs)) ≡ Some (map f xs)
all_give read write f [] each = refl
all_give read write f (x ∷ xs) each =
    ap (λ (o : Option _). o >>= (λ first. all_in read (items_of (map write xs)) >>= (λ others. Some (first ∷ others)))) (each x (inl refl))
    ∙ ap (λ (o : Option (List _)). o >>= (λ others. Some (f x ∷ others))) (all_give read write f xs (λ y has. each y (inr has)))

pub all_reads : {X : Type 0} (read : Data → Option X) (write : X → Data) (xs : List X) → ((x : X) → Has x xs → read (write x) ≡ Some x) → all_in read (items_of (map write xs)) ≡ Some xs
all_reads read write xs each = all_give read write (λ x. x) xs each ∙ ap (λ ys. Some ys) (map_itself xs)

pub list_reads : {X : Type 0} (read : Data → Option X) (write : X → Data) (xs : List X) → ((x : X) → Has x xs → read (write x) ≡ Some x) → list_in read (list_data write xs) ≡ Some xs
list_reads read write xs each = all_reads read write xs each

-- a list whose key isn't written where it is empty
pub maybe_list_reads : {X : Type 0} (read : Data → Option X) (write : X → Data) (xs : List X) → ((x : X) → Has x xs → read (write x) ≡ Some x) → none_or_list read (unless_empty write xs) ≡ Some xs
maybe_list_reads read write [] each = refl
maybe_list_reads read write (x ∷ xs) each = all_reads read write (x ∷ xs) each

-- ---- names

pub name_reads : (name : List ℕ) → is_name name ≡ true → name_in (string name) ≡ Some name
name_reads name e = ap (λ (b : Bool). if b then Some name else None) e

pub names_read : (names : List (List ℕ)) → are_names names ≡ true → names_in (list_data string names) ≡ Some names
names_read names e = list_reads name_in string names (λ name has. name_reads name (all_member is_name names name e has))

pub maybe_names_read : (names : List (List ℕ)) → are_names names ≡ true → none_or_list name_in (unless_empty string names) ≡ Some names
maybe_names_read names e = maybe_list_reads name_in string names (λ name has. name_reads name (all_member is_name names name e has))

some_is : (names : List (List ℕ)) → nat_le 1 (length names) ≡ true → one_or_more names ≡ Some names
some_is [] e = absurd (true≢false (sym e))
some_is (name ∷ names) e = refl

pub some_names_read : (names : List (List ℕ)) → are_some_names names ≡ true → some_names_in (list_data string names) ≡ Some names
some_names_read names e =
    let parts = both_true (nat_le 1 (length names)) (are_names names) e in
    ap (λ (o : Option (List (List ℕ))). o >>= one_or_more) (names_read names parts.1) ∙ some_is names parts.0

-- names whose key isn't written where there are none
abbrev pub given_names : List (List ℕ) → Option (List (List ℕ))
given_names [] = None
given_names (name ∷ names) = Some (name ∷ names)

pub given_names_read : (names : List (List ℕ)) → are_names names ≡ true → none_or_some some_names_in (unless_empty string names) ≡ Some (given_names names)
given_names_read [] e = refl
given_names_read (name ∷ names) e = ap (λ (o : Option (List (List ℕ))). option_map Some (o >>= one_or_more)) (names_read (name ∷ names) e)

pub given_names_are : (names : List (List ℕ)) → unwrap_or (given_names names) [] ≡ names
given_names_are [] = refl
given_names_are (name ∷ names) = refl

-- ---- ports

-- no byte of a name is a dot
no_dot : (byte : ℕ) → is_name_byte byte ≡ true → is_dot byte ≡ false
no_dot byte e = by (is_dot byte) refl
  where
    by : (b : Bool) → is_dot byte ≡ b → is_dot byte ≡ false
    by false d = d
    by true d = absurd (let same : byte ≡ 46 = eqb-true byte 46 d in true≢false (sym (subst (λ (n : ℕ). is_name_byte n ≡ true) same e)))

abbrev dotted : List ℕ → List ℕ → List ℕ
dotted component port = (component ++ codes ".") ++ port

dot_at : (component port : List ℕ) → list_all is_name_byte component ≡ true → position_or_len is_dot (dotted component port) ≡ length component
dot_at [] port e = refl
dot_at (byte ∷ component) port e =
    let parts = both_true (is_name_byte byte) (list_all is_name_byte component) e in
    let later : position_or_len is_dot (dotted component port) ≡ length component = dot_at component port parts.1 in
    let here : is_dot byte ≡ false = no_dot byte parts.0 in
    rw here (omega (arith, later))

front_is : (component port : List ℕ) → take (length component) (dotted component port) ≡ component
front_is [] port = refl
front_is (byte ∷ component) port = ap (λ (bs : List ℕ). byte ∷ bs) (front_is component port)

back_is : (component port : List ℕ) → drop (length component + 1) (dotted component port) ≡ port
back_is [] port = refl
back_is (byte ∷ component) port =
    let next : suc (length component) + 1 ≡ suc (length component + 1) = omega arith in
    ap (λ (n : ℕ). drop n (dotted (byte ∷ component) port)) next ∙ back_is component port

long_enough : (component port : List ℕ) → nat_lt (length component) (length (dotted component port)) ≡ true
long_enough component port =
    let whole = length-append (component ++ codes ".") port in
    let front = length-append component (codes ".") in
    let lt : length component < length (dotted component port) = omega (arith, whole, front) in
    grind (arith, nat_tests)

parts_are : (component port : List ℕ) → list_all is_name_byte component ≡ true → parts_of (dotted component port) ≡ Some (component, port)
parts_are component port e =
    ap (λ (n : ℕ). only_if (nat_lt n (length (dotted component port))) (take n (dotted component port), drop (n + 1) (dotted component port))) (dot_at component port e)
    ∙ ap (λ (b : Bool). only_if b (take (length component) (dotted component port), drop (length component + 1) (dotted component port))) (long_enough component port)
    ∙ (let front = front_is component port in let back = back_is component port in λ i. Some (front i, back i))

abbrev then_port : List ℕ → Option (List ℕ) → Option Spot
then_port component port = port >>= (λ named. Some (record { component = component; port = named }))

abbrev then_spot : List ℕ → Option (List ℕ) → Option Spot
then_spot port component = component >>= (λ named. then_port named (name_of port))

pub spot_reads : (spot : Spot) → is_spot spot ≡ true → spot_in (spot_data spot) ≡ Some spot
unfolding spot_of
spot_reads spot e =
    let named = both_true (is_name spot.component) (is_name spot.port) e in
    let bytes = both_true (starts_name spot.component) (nat_le (length spot.component) 64 && list_all is_name_byte spot.component) named.0 in
    let all = both_true (nat_le (length spot.component) 64) (list_all is_name_byte spot.component) bytes.1 in
    ap (λ (o : Option (List ℕ × List ℕ)). o >>= (λ parts. then_spot parts.1 (name_of parts.0))) (parts_are spot.component spot.port all.1)
    ∙ ap (λ (b : Bool). then_spot spot.port (only_if b spot.component)) named.0
    ∙ ap (λ (b : Bool). then_port spot.component (only_if b spot.port)) named.1

-- ---- words

pub type_reads : (t : ColumnType) → type_in (type_data t) ≡ Some t
type_reads type.Int = refl
type_reads type.Text = refl
type_reads type.Any = refl

pub note_reads : (n : NoteName) → note_in (note_data n) ≡ Some n
note_reads note.CR = refl
note_reads note.CW = refl
note_reads note.OR = refl
note_reads note.OW = refl

pub types_read : (types : List ColumnType) (count : ℕ) → nat_eq (length types) count ≡ true → types_in count (list_data type_data types) ≡ Some types
types_read types count e =
    ap (λ (o : Option (List ColumnType)). o >>= of_length count) (list_reads type_in type_data types (λ t has. type_reads t))
    ∙ ap (λ (b : Bool). if b then Some types else None) e

-- ---- what stands at a key

module _ (m : Members) (key : List ℕ) where
  pub at_reads : {X : Type 0} (read : Data → Option X) (d : Data) (x : X) → get_member key m ≡ Some d → read d ≡ Some x → at_key read key m ≡ Some x
  at_reads read d x is reads = ap (λ (o : Option Data). o >>= read) is ∙ reads

  pub maybe_reads : {X : Type 0} (read : Data → Option X) (o : Option Data) (x : Option X) → get_member key m ≡ o → none_or_some read o ≡ Some x → maybe_at_key read key m ≡ Some x
  maybe_reads read o x is reads = ap (none_or_some read) is ∙ reads

  pub list_at_reads : {X : Type 0} (read : Data → Option X) (o : Option Data) (xs : List X) → get_member key m ≡ o → none_or_list read o ≡ Some xs → list_at_key read key m ≡ Some xs
  list_at_reads read o xs is reads = ap (none_or_list read) is ∙ reads

  pub is_lacking : get_member key m ≡ None → lacks key m ≡ true
  is_lacking is = ap is_none is

  -- a side of a dependency
  pub sides_read : (names : List (List ℕ)) → get_member key m ≡ Some (list_data string names) → are_some_names names ≡ true → nat_le (length names) 8 ≡ true → fd_names_at Two key m ≡ Some names
  sides_read names is some few =
      ap (λ (o : Option (List (List ℕ))). o >>= up_to_eight) (at_reads some_names_in (list_data string names) names is (some_names_read names some))
      ∙ ap (λ (b : Bool). only_if b names) few

-- ---- tables in lists

-- a port or an output, where the table has its fields and no other
pub side_from : (m : Members) (side : Side) → at_key name_in (codes "name") m ≡ Some side.name → at_key names_in (codes "columns") m ≡ Some side.columns → has_only (codes "name" ∷ codes "columns" ∷ []) m ≡ true → side_of m ≡ Some side
unfolding side_of
side_from m side name columns own =
    ap (λ (o : Option (List ℕ)). o >>= (λ n. at_key names_in (codes "columns") m >>= (λ cs. only_if (has_only (codes "name" ∷ codes "columns" ∷ []) m) (record { name = n; columns = cs })))) name
    ∙ ap (λ (o : Option (List (List ℕ))). o >>= (λ cs. only_if (has_only (codes "name" ∷ codes "columns" ∷ []) m) (record { name = side.name; columns = cs }))) columns
    ∙ ap (λ (b : Bool). only_if b side) own

abbrev declared_keys : List (List ℕ)
declared_keys = codes "from" ∷ codes "to" ∷ codes "note" ∷ codes "gate" ∷ []

-- a declared note, likewise
pub declared_from : (m : Members) (d : Declared) → at_key name_in (codes "from") m ≡ Some d.from → at_key name_in (codes "to") m ≡ Some d.to → at_key note_in (codes "note") m ≡ Some d.note → gate_of d.note m ≡ Some d.gate → has_only declared_keys m ≡ true → declared_of m ≡ Some d
unfolding declared_of
declared_from m d from to note gate own =
    ap (λ (o : Option (List ℕ)). o >>= (λ f. at_key name_in (codes "to") m >>= (λ t. at_key note_in (codes "note") m >>= (λ n. gate_of n m >>= (λ g. only_if (has_only declared_keys m) (record { from = f; to = t; note = n; gate = g })))))) from
    ∙ ap (λ (o : Option (List ℕ)). o >>= (λ t. at_key note_in (codes "note") m >>= (λ n. gate_of n m >>= (λ g. only_if (has_only declared_keys m) (record { from = d.from; to = t; note = n; gate = g }))))) to
    ∙ ap (λ (o : Option NoteName). o >>= (λ n. gate_of n m >>= (λ g. only_if (has_only declared_keys m) (record { from = d.from; to = d.to; note = n; gate = g })))) note
    ∙ ap (λ (o : Option (List (List ℕ))). o >>= (λ g. only_if (has_only declared_keys m) (record { from = d.from; to = d.to; note = d.note; gate = g }))) gate
    ∙ ap (λ (b : Bool). only_if b d) own

-- beside a C note no gate stands
pub no_gate : (m : Members) (gate : List (List ℕ)) → is_empty gate ≡ true → get_member (codes "gate") m ≡ unless_empty string gate → only_if (lacks (codes "gate") m) [] ≡ Some gate
no_gate m [] e is = ap (λ (b : Bool). only_if b []) (is_lacking m (codes "gate") is)
no_gate m (name ∷ gate) e is = absurd (true≢false (sym e))

-- the file of a module
pub file_reads : (file : List ℕ) → nat_le 1 (length file) ≡ true → nat_le (length file) 255 ≡ true → file_in (string file) ≡ Some (record { name = file })
file_reads file some few = ap (λ (b : Bool). only_if (b && nat_le (length file) 255) (record { name = file })) some ∙ ap (λ (b : Bool). only_if b (record { name = file })) few
