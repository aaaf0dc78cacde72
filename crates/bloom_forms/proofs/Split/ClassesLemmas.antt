-- The records of a class are those that arrive at ports with the key and whose values are of the class.
use Rattle.std.proofs.Common.{◌≡◌, ◌<◌, ◌+◌, ℕ, suc, true, false, List, [], ◌∷◌, length, map, get_or, refl, ap, ◌∙◌, sym, subst, inl, inr, ◌⊎◌, arith}
use Rattle.std.specs.Cmp.{Equal-is, tied_itself}
use Rattle.std.specs.List.{enumerate_from}
use Rattle.std.specs.Ordering.{eq_by_cmp}
use Rattle.std.specs.declared.cmp.Ordering.TheVariants.{Equal}
use Rattle.std.proofs.lemmas.Bool.{cases_Bool, cases_lt}
use Rattle.std.proofs.lemmas.List.{get_or-map, get_or_past, length-map}
use Rattle.std.proofs.lemmas.List.FromFn.{get_or-enumerate_from}
use Rattle.blz_value.specs.Members.{Has}
use Rattle.blz_value.specs.Record.{Row, record_cmp}
use Rattle.blz_value.specs.RecordOrder.{record_cmp_total, record_cmp_exact}
use Rattle.blz_value.proofs.Membership.{All-of_member, Has-get_or, Has-filter, Has-from_filter, Has-from_map}
use Rattle.bloom_forms.specs.declared.program.Program.{Program}
use Rattle.bloom_forms.specs.Program.{port_columns}
use Rattle.bloom_forms.specs.Query.{Name}
use Rattle.bloom_forms.specs.Step.{Sets, set_at}
use Rattle.bloom_forms.specs.Widths.{AreWide, AreSetsOf}
use Rattle.bloom_forms.specs.Steps.{AreArrivals}
use Rattle.bloom_forms.proofs.Copies.Runs.{wide_at}
use Rattle.bloom_forms.specs.Classes.{columns_at, has_key, key_of, rows_of_class, of_class}

pub same_row : (x y : Row) → eq_by_cmp record_cmp x y ≡ true → x ≡ y
same_row x y e = record_cmp_exact x y ((Equal-is (record_cmp x y)).0 e)

pub row_itself : (x y : Row) → x ≡ y → eq_by_cmp record_cmp x y ≡ true
row_itself x y e = (Equal-is (record_cmp x y)).1 (subst (λ z. record_cmp x z ≡ Equal) e (tied_itself record_cmp_total x))

pub length-enumerate : {X : Type 0} (from : ℕ) (xs : List X) → length (enumerate_from from xs) ≡ length xs
length-enumerate from [] = refl
length-enumerate from (x ∷ xs) = ap suc (length-enumerate (from + 1) xs)

module _ (names : List Name) (program : Program) (key : List ℕ) (class_of : Row → Row) (class : Row) where
  abbrev of : Sets → Sets
  of now = of_class names program key class_of class now

  abbrev kept_rows : List Name → List Row → List Row
  kept_rows columns rows = rows_of_class names key class_of class columns rows

  pub of_at : (now : Sets) (port : ℕ) → port < length (port_columns program)
      → set_at (of now) port ≡ kept_rows (columns_at program port) (set_at now port)
  of_at now port lt =
      let places = enumerate_from 0 (port_columns program) in
      let here : port < length places = omega (arith, length-enumerate 0 (port_columns program)) in
      let first : 0 + port ≡ port = omega arith in
      get_or-map (λ (place : ℕ × List Name). kept_rows place.1 (set_at now place.0)) places port (0, []) [] here
      ∙ ap (λ (place : ℕ × List Name). kept_rows place.1 (set_at now place.0)) (get_or-enumerate_from 0 (port_columns program) port (0, []) lt ∙ ap (λ (k : ℕ). (k, get_or (port_columns program) port [])) first)

  -- a record of the class, where the port has the key
  pub record IsOfClass (now : Sets) (port : ℕ) (row : Row) : Type 0 where
    pub within : port < length (port_columns program)
    pub stands : Has row (set_at now port)
    pub keyed : has_key names (columns_at program port) key ≡ true
    pub is : class_of (key_of names (columns_at program port) key row) ≡ class

  pub from_class : (now : Sets) (port : ℕ) (row : Row) → Has row (set_at (of now) port) → IsOfClass now port row
  from_class now port row h = elim (cases_lt port (length (port_columns program))) [
    | inr past ↦ absurd (subst (λ (x : List Row). Has row x) (get_or_past (of now) port [] (omega (arith, past, length-map (enumerate_from 0 (port_columns program)) (λ (place : ℕ × List Name). kept_rows place.1 (set_at now place.0)), length-enumerate 0 (port_columns program)))) h)
    | inl lt ↦ go (cases_Bool (has_key names (columns_at program port) key)) lt (subst (λ (x : List Row). Has row x) (of_at now port lt) h)
  ]
    where
      go : (has_key names (columns_at program port) key ≡ true) ⊎ (has_key names (columns_at program port) key ≡ false)
          → port < length (port_columns program) → Has row (kept_rows (columns_at program port) (set_at now port))
          → IsOfClass now port row
      go (inl t) lt g = let m = Has-from_filter (λ (r : Row). eq_by_cmp record_cmp (class_of (key_of names (columns_at program port) key r)) class) row (set_at now port) (rw t at g) in record { within = lt; stands = m.0; keyed = t; is = same_row _ class m.1 }
      go (inr f) lt g = absurd (rw f at g)

  pub in_class : (now : Sets) (port : ℕ) (row : Row) → IsOfClass now port row → Has row (set_at (of now) port)
  in_class now port row c =
      let kept = Has-filter (λ (r : Row). eq_by_cmp record_cmp (class_of (key_of names (columns_at program port) key r)) class) row (set_at now port) c.stands (row_itself _ class c.is) in
      subst (λ (x : List Row). Has row x) (sym (of_at now port c.within)) (rw c.keyed kept)

  -- the records of a class have the widths of the ports
  wide_from : (from : ℕ) (columns : List (List Name)) (now : Sets)
      → ((k : ℕ) → AreWide (length (get_or columns k [])) (set_at now (from + k)))
      → AreSetsOf columns (map (λ (place : ℕ × List Name). kept_rows place.1 (set_at now place.0)) (enumerate_from from columns))
  wide_from from [] now wide = tt
  wide_from from (names_of_port ∷ columns) now wide = (
    λ k d lt. first (get_or (kept_rows names_of_port (set_at now from)) k d) (Has-get_or (kept_rows names_of_port (set_at now from)) k d lt),
    wide_from (from + 1) columns now (λ k. let e : from + suc k ≡ (from + 1) + k = omega arith in subst (λ (n : ℕ). AreWide (length (get_or columns k [])) (set_at now n)) e (wide (suc k))),
  )
    where
      first : (row : Row) → Has row (kept_rows names_of_port (set_at now from)) → length row ≡ length names_of_port
      first row h = elim (cases_Bool (has_key names names_of_port key)) [
        | inl t ↦
            let m = Has-from_filter (λ (r : Row). eq_by_cmp record_cmp (class_of (key_of names names_of_port key r)) class) row (set_at now from) (rw t at h) in
            let e : from + 0 ≡ from = omega arith in
            let own : AreWide (length names_of_port) (set_at now from) = subst (λ (n : ℕ). AreWide (length names_of_port) (set_at now n)) e (wide 0) in
            All-of_member (λ (r : Row). length r ≡ length names_of_port) (set_at now from) row own m.0
        | inr f ↦ absurd (rw f at h)
      ]

  wide_class : (now : Sets) → AreSetsOf (port_columns program) now → AreSetsOf (port_columns program) (of now)
  wide_class now wide = wide_from 0 (port_columns program) now (λ k. let e : k ≡ 0 + k = omega arith in subst (λ (n : ℕ). AreWide (length (get_or (port_columns program) k [])) (set_at now n)) e (wide_at (port_columns program) now wide k))

  pub arrivals_of_class : (nows : List Sets) → AreArrivals program nows → AreArrivals program (map of nows)
  arrivals_of_class nows arrivals k d lt =
      let m = Has-from_map of (get_or (map of nows) k d) nows (Has-get_or (map of nows) k d lt) in
      subst (λ (now : Sets). AreSetsOf (port_columns program) now) m.2 (wide_class m.0 (All-of_member (AreSetsOf (port_columns program)) nows m.0 arrivals m.1))
