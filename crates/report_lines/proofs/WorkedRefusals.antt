-- The lines of worked refusals.
use Rattle.std.proofs.Common.{◌≡◌, refl, arith, [], ◌∷◌, pos}
use Rattle.std.specs.Prelude.{codes}
use Rattle.std.specs.Fmt.{decimal}
use Rattle.std.proofs.lemmas.Fmt.{decimal_digit}
use Rattle.blz_value.specs.declared.value.Value.TheVariants.{Int, Text}
use Rattle.bloom_forms.specs.declared.fault.ModuleKind.TheVariants.{MixedScratch}
use Rattle.bloom_forms.specs.declared.fault.ModulePlace.TheVariants.{Rule}
use Rattle.report_lines.specs.declared.refusal.Refusal.TheVariants.{Form, Module, FdBroken}
use Rattle.report_lines.specs.Refusals.{refusal_line}

one : decimal 1 ≡ 49 ∷ []
one = decimal_digit 1 (omega arith)

two : decimal 2 ≡ 50 ∷ []
two = decimal_digit 2 (omega arith)

-- a path with a quote
pub form_line : refusal_line (Form (codes "a\"b")) ≡ codes "refused Form a\\\"b\n"
form_line = refl

pub module_line : refusal_line (Module (codes "m.bloom") (record { kind = MixedScratch; place = Rule 2 })) ≡ codes "refused Module m.bloom MixedScratch rule 2\n"
module_line = rw two refl

-- one attribute on a side, and two on the other
pub broken_line : refusal_line (FdBroken (codes "site" ∷ []) (codes "name" ∷ codes "at" ∷ []) (Int (pos 1) ∷ []) (Int (pos 2) ∷ Text (codes "x") ∷ []))
    ≡ codes "refused FdBroken site [name, at] (1) (2, \"x\")\n"
broken_line = rw (one, two) refl
