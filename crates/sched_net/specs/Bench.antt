-- Which shells of a bench a net takes: instance by instance, each the first that fits and isn't taken.
use Rattle.std.specs.Prelude.{◌≡◌, ℕ, ◌==◌, ◌++◌, Bool, false, is_none, if◌then◌else◌, List, [], ◌∷◌, replicate, Option, Some, None, Result, Ok, Err}
use Rattle.std.specs.List.{list_any, flat_map, position_from}
use Rattle.std.specs.Option.{option_map_or}
use Rattle.bloom_forms.specs.declared.program.Program.{Program}
use Rattle.bloom_eval.specs.declared.kind.ProgramKind.{ProgramKind}
use Rattle.bloom_eval.specs.declared.kind.ProgramKind.TheVariants.{Module, Split, Latest, Number}
use Rattle.bloom_eval.specs.Kind.{kind_of}
use Rattle.topo_forms.specs.View.{View, program_of, replicas_of, component_numbers}
use Rattle.sched_net.specs.declared.fault.OpenFault.{OpenFault}
use Rattle.sched_net.specs.declared.fault.OpenFault.TheVariants.{NoBody, NoShell, NoMemory}

-- ---- kinds

abbrev pub number_of_kind : ProgramKind → ℕ
number_of_kind Module = 0
number_of_kind Split = 1
number_of_kind Latest = 2
number_of_kind Number = 3

-- two kinds are one
abbrev pub same_kind : ProgramKind → ProgramKind → Bool
same_kind a b = number_of_kind a == number_of_kind b

-- a shell of this kind fits what a component runs
abbrev pub fits_kind : Option Program → ProgramKind → Bool
fits_kind program kind = option_map_or (λ p. same_kind kind (kind_of p)) program false

-- ---- what is wanted

-- the component of each instance, in component and replica order
abbrev pub instance_components : View → List ℕ
instance_components v = flat_map (λ c. replicate (replicas_of v c) c) (component_numbers v)

-- the first component without a body
abbrev pub first_without_body : View → Option ℕ
first_without_body v = position_from (λ component. is_none component.program) 0 v.components

-- a shell fits a component
abbrev pub fits_component : {X : Type 0} → View → (kind : X → ProgramKind) → (component : ℕ) → X → Bool
fits_component v kind c x = fits_kind (program_of v c) (kind x)

-- ---- what is taken, by any test of who fits whom

-- the list without its first member that passes
abbrev pub without_first : {X : Type 0} → (X → Bool) → List X → List X
without_first test [] = []
without_first test (x ∷ xs) = if test x then xs else x ∷ without_first test xs

-- the first member that passes, as a list
abbrev pub first_passing : {X : Type 0} → (X → Bool) → List X → List X
first_passing test [] = []
first_passing test (x ∷ xs) = if test x then x ∷ [] else first_passing test xs

-- what each of these in turn takes, the first that fits it and is left
abbrev pub taken_by : {X : Type 0} → (ℕ → X → Bool) → List ℕ → List X → List X
taken_by fit [] shells = []
taken_by fit (c ∷ cs) shells = first_passing (fit c) shells ++ taken_by fit cs (without_first (fit c) shells)

-- what is left
abbrev pub left_by : {X : Type 0} → (ℕ → X → Bool) → List ℕ → List X → List X
left_by fit [] shells = shells
left_by fit (c ∷ cs) shells = left_by fit cs (without_first (fit c) shells)

-- the first of these for which none is left
abbrev pub first_short : {X : Type 0} → (ℕ → X → Bool) → List ℕ → List X → Option ℕ
first_short fit [] shells = None
first_short fit (c ∷ cs) shells = if list_any (fit c) shells then first_short fit cs (without_first (fit c) shells) else Some c

-- ---- what an opening answers

-- the fault, if any: the first component without a body, else the first for which the bench has no shell left
abbrev pub fault_of_short : Option ℕ → Option OpenFault
fault_of_short None = None
fault_of_short (Some c) = Some (NoShell c)

abbrev pub fault_of_bodies : (bodiless short : Option ℕ) → Option OpenFault
fault_of_bodies None short = fault_of_short short
fault_of_bodies (Some c) short = Some (NoBody c)

abbrev pub fault_of_opening : {X : Type 0} → View → (kind : X → ProgramKind) → List X → Option OpenFault
fault_of_opening v kind shells = fault_of_bodies (first_without_body v) (first_short (fits_component v kind) (instance_components v) shells)

-- the answer is as the fault says, unless memory runs out
abbrev pub OpensAs : {X : Type 0} → Option OpenFault → Result X OpenFault → Type 0
OpensAs fault (Ok x) = fault ≡ None
OpensAs fault (Err (NoBody c)) = fault ≡ Some (NoBody c)
OpensAs fault (Err (NoShell c)) = fault ≡ Some (NoShell c)
OpensAs fault (Err NoMemory) = Unit {0}
