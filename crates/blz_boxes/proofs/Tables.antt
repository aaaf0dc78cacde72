-- Empty sets for the tables of a module.
use Rattle.std.proofs.Common.{◌≡◌, ◌<◌, ℕ, suc, if◌then◌else◌, inl, inr, Option, Some, List, [], ◌∷◌, ◌++◌, length, map, slice_index_or, All, refl, sym, subst, arith, ap, ◌∙◌}
use Rattle.std.proofs.lemmas.Bool.{cases_Bool}
use Rattle.blz_value.specs.Record.{Row}
use Rattle.bloom_forms.specs.declared.module.Kind.{Kind}
use Rattle.bloom_forms.specs.declared.module.Kind.TheVariants.{Table}
use Rattle.bloom_forms.specs.declared.module.Collection.{Collection}
use Rattle.bloom_forms.specs.Kinds.{same_kind, of_kind}
use Rattle.bloom_forms.specs.declared.program.Program.{Program}
use Rattle.bloom_forms.specs.declared.program.Program.TheVariants.{Module, Split, Latest, Number}
use Rattle.bloom_forms.specs.Program.{columns_of_kind, table_columns}
use Rattle.bloom_forms.specs.ProgramStep.{tables_after_step}
use Rattle.bloom_forms.specs.Query.{Name}
use Rattle.bloom_forms.specs.Step.{Sets, sets_of_kind, at_end}
use Rattle.bloom_forms.proofs.Ends.Equated.{length-at_end}
use Rattle.std.proofs.lemmas.List.{length-map}
use Rattle.bloom_forms.specs.Widths.{AreSetsOf}
use Rattle.bloom_eval.specs.Step.{tables_next, nothing_kept}

-- one empty set for each table
abbrev pub empties : List Collection → Sets
empties cs = map (λ columns. []) (columns_of_kind Table cs)

-- one for a collection that is a table
abbrev pub empty_if : Kind → Sets
empty_if kind = if same_kind Table kind then [] ∷ [] else []

-- emptied sets are as many as there were
-- no rows for each name
abbrev pub none_each : {X : Type 0} → List X → Sets
none_each xs = map (λ x. []) xs

pub emptied_same : (columns : List (List Name)) (sets : Sets) → AreSetsOf columns sets → none_each sets ≡ none_each columns
emptied_same [] [] are = refl
emptied_same [] (rows ∷ sets) are = absurd are
emptied_same (names ∷ columns) [] are = absurd are
emptied_same (names ∷ columns) (rows ∷ sets) are = ap (λ (others : Sets). [] ∷ others) (emptied_same columns sets are.1)

-- one set with rows of two values arrives at one port of two columns
pub one_port_wide : (columns : List (List Name)) (rows : List Row) → length columns ≡ 1 → length (slice_index_or columns 0 []) ≡ 2 → All (λ row. length row ≡ 2) rows → AreSetsOf columns (rows ∷ [])
one_port_wide [] rows one two wide = absurd (omega (arith, one))
one_port_wide (names ∷ []) rows one two wide = (subst (λ width. All (λ (row : Row). length row ≡ width) rows) (sym two) wide, tt)
one_port_wide (names ∷ other ∷ columns) rows one two wide = absurd (omega (arith, one))

-- as many sets of a kind as collections of it
length-of_kind : (kind : Kind) (cs : List Collection) (sets : Sets) → length sets ≡ length cs → length (sets_of_kind kind cs sets) ≡ length (of_kind kind cs)
length-of_kind kind [] [] same = refl
length-of_kind kind [] (rows ∷ sets) same = absurd (omega (arith, same))
length-of_kind kind (c ∷ cs) [] same = absurd (omega (arith, same))
length-of_kind kind (c ∷ cs) (rows ∷ sets) same = elim (cases_Bool (same_kind kind c.kind)) [
  | inl e ↦ rw e (ap suc (length-of_kind kind cs sets (omega (arith, same))))
  | inr e ↦ rw e (length-of_kind kind cs sets (omega (arith, same)))
]

-- a step leaves one set for each table
pub as_many_tables : (program : Program) (kept now : Sets) → length (tables_after_step program kept now) ≡ length (table_columns program)
as_many_tables (Module a) kept now = length-of_kind Table a.form.collections (at_end a kept now) (length-at_end a kept now) ∙ sym (length-map (of_kind Table a.form.collections) (λ (c : Collection). c.columns))
as_many_tables (Split columns split) kept now = refl
as_many_tables (Latest columns keys) kept now = refl
as_many_tables (Number columns) kept now = refl

-- the same of a shell whose program is loaded
pub stepped_tables : (loaded : Option Program) (program : Program) (kept now new : Sets) → loaded ≡ Some program → new ≡ tables_next loaded kept now → length new ≡ length (table_columns program)
stepped_tables loaded program kept now new is made = ap length made ∙ ap (λ (held : Option Program). length (tables_next held kept now)) is ∙ as_many_tables program kept now

-- an emptied shell keeps one set for each table
pub emptied_tables : (loaded : Option Program) (program : Program) (new : Sets) → loaded ≡ Some program → new ≡ nothing_kept loaded → length new ≡ length (table_columns program)
emptied_tables loaded program new is made = ap length made ∙ ap (λ (held : Option Program). length (nothing_kept held)) is ∙ length-map (table_columns program) (λ (names : List Name). [])
