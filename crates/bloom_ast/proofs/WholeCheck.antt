-- What the parts of the check say of a module.
use Rattle.std.proofs.Common.{◌≡◌, ◌==◌, ◌&&◌, not, rules, ℕ, Bool, true, false, Option, None, Some, Result, Ok, Err, List, length, refl, ◌∙◌, sym, subst}
use Rattle.std.specs.Global.{Vec}
use Rattle.std.specs.List.{list_all}
use Rattle.std.specs.Option.{option_or}
use Rattle.blz_value.specs.Members.{Has}
use Rattle.blz_value.proofs.Membership.{All-of_member}
use Rattle.bloom_forms.specs.declared.fault.CheckFault.{CheckFault}
use Rattle.bloom_forms.specs.declared.fault.CheckFault.TheVariants.{Bad, NoMemory}
use Rattle.bloom_forms.specs.declared.fault.ModuleFault.{ModuleFault}
use Rattle.bloom_forms.specs.declared.fault.ModuleKind.{ModuleKind}
use Rattle.bloom_forms.specs.declared.fault.ModuleKind.TheVariants as kind
use Rattle.bloom_forms.specs.declared.module.Collection.{Collection}
use Rattle.bloom_forms.specs.Checks.{IsRule}
use Rattle.bloom_ast.specs.Code.Checking.{ChecksHeads, Later}
use Rattle.bloom_forms.specs.Faults.{kind_fault, fault_in, later_kinds, fault_of, unknown_rule, columns_rule, recursive_rule, mixes, is_mixed}
use Rattle.bloom_forms.specs.Columns.{columns_of}
use Rattle.bloom_forms.specs.Fits.{query_fits}
use Rattle.bloom_forms.specs.Heads.{names_of}
use Rattle.bloom_forms.specs.Kinds.{has_kind, is_head, is_readable}
use Rattle.bloom_forms.specs.Literals.{HasLiterals, RulesHaveLiterals}
use Rattle.bloom_forms.specs.Lookup.{declared}
use Rattle.bloom_forms.specs.Form.{RuleForm, Form}
use Rattle.bloom_forms.specs.Reads.{arrows, facts_of}
use Rattle.bloom_forms.specs.Reserved.{HasOwnNames}
use Rattle.bloom_ast.proofs.FirstFaultLemmas.{fault_same}
use Rattle.bloom_forms.proofs.Faults.Firsts.{no_fault, are_few, each_collection, distinct_names}
use Rattle.bloom_ast.proofs.FaultPlaces.{rule_none, bounded}
use Rattle.bloom_forms.proofs.Faults.Ordering.{ordered}

not_both : (a b : Bool) → not (a && b) ≡ false → (a ≡ true) × (b ≡ true)
not_both true true e = (refl, refl)
not_both true false e = cc
not_both false b e = cc

same : (m n : ℕ) → (m == n) ≡ true → m ≡ n
same m n e = search rules

module _ (cs : List Collection) (rules : List RuleForm) where
  abbrev At : ModuleKind → Option ModuleFault
  At k = kind_fault (facts_of cs rules) k cs rules

  -- where none of the later kinds has a fault
  parts : fault_in (facts_of cs rules) later_kinds cs rules ≡ None → (At kind.Twice ≡ None) × (At kind.Unknown ≡ None) × (At kind.Columns ≡ None) × (At kind.Recursive ≡ None) × (At kind.MomentaryMix ≡ None) × (At kind.MixedScratch ≡ None)
  parts e =
      let a = no_fault (At kind.Twice) (option_or (At kind.Unknown) (option_or (At kind.Columns) (option_or (At kind.Recursive) (option_or (At kind.MomentaryMix) (option_or (At kind.MixedScratch) None))))) e in
      let b = no_fault (At kind.Unknown) (option_or (At kind.Columns) (option_or (At kind.Recursive) (option_or (At kind.MomentaryMix) (option_or (At kind.MixedScratch) None)))) a.1 in
      let c = no_fault (At kind.Columns) (option_or (At kind.Recursive) (option_or (At kind.MomentaryMix) (option_or (At kind.MixedScratch) None))) b.1 in
      let d = no_fault (At kind.Recursive) (option_or (At kind.MomentaryMix) (option_or (At kind.MixedScratch) None)) c.1 in
      let f = no_fault (At kind.MomentaryMix) (option_or (At kind.MixedScratch) None) d.1 in
      (a.0, b.0, c.0, d.0, f.0, (no_fault (At kind.MixedScratch) None f.1).0)

  each_rule : At kind.TooMany ≡ None → fault_in (facts_of cs rules) later_kinds cs rules ≡ None → RulesHaveLiterals rules → (r : RuleForm) → Has r rules → IsRule cs rules r
  each_rule size clean literals r n =
      let none = parts clean in
      let known = rule_none cs (facts_of cs rules) rules kind.Unknown (unknown_rule cs) (λ i x. refl) none.1 r n in
      let columns = rule_none cs (facts_of cs rules) rules kind.Columns (columns_rule cs) (λ i x. refl) none.2 r n in
      let names = not_both (has_kind is_head cs r.0) (list_all (has_kind is_readable cs) (names_of r.1)) known in
      let fit = not_both (query_fits (declared cs) r.1) (length (columns_of (declared cs) r.1) == length (declared cs r.0)) columns in
      record {
        bounded = bounded cs (facts_of cs rules) rules size r n;
        literals = All-of_member (λ x. HasLiterals x.1) rules r literals n;
        head = names.0;
        known = names.1;
        fits = fit.0;
        width = same (length (columns_of (declared cs) r.1)) (length (declared cs r.0)) fit.1;
        free = rule_none cs (facts_of cs rules) rules kind.Recursive (recursive_rule cs (arrows cs rules)) (λ i x. refl) none.3 r n;
        unmixed = rule_none cs (facts_of cs rules) rules kind.MomentaryMix (λ x. mixes cs (facts_of cs rules) x.1) (λ i x. refl) none.4 r n;
        pure = rule_none cs (facts_of cs rules) rules kind.MixedScratch (is_mixed cs (facts_of cs rules)) (λ i x. refl) none.5 r n;
      }

-- a fault of a later kind is the first where there is none of size
faulted : (m : Form) (o : Option ModuleFault) → kind_fault (facts_of m.collections m.rules) kind.TooMany m.collections m.rules ≡ None → fault_in (facts_of m.collections m.rules) later_kinds m.collections m.rules ≡ o → fault_of m ≡ o
faulted m o size later = rw size later

checks : (m : Form) (r : Result (Vec ℕ) CheckFault) → HasOwnNames m → kind_fault (facts_of m.collections m.rules) kind.TooMany m.collections m.rules ≡ None → Later m.collections m.rules r → ChecksHeads m r
checks m (Ok heads) names size later = (
  later.are,
  λ literals.
      let few = are_few m.collections (facts_of m.collections m.rules) m.rules size in
      let each = each_rule m.collections m.rules size later.clean literals in
      record {
        names = names;
        clean = sym (fault_same m) ∙ faulted m None size later.clean;
        few_collections = few.0;
        few_rules = few.1;
        collections = each_collection m.collections (facts_of m.collections m.rules) m.rules size (parts m.collections m.rules later.clean).0;
        distinct = distinct_names m.collections (facts_of m.collections m.rules) m.rules (parts m.collections m.rules later.clean).0;
        rules = each;
        ordered = rw later.are (ordered m.collections m.rules few.0 (λ r n. (each r n).free));
      },
)
checks m (Err (Bad fault)) names size later = sym (fault_same m) ∙ faulted m (Some fault) size later
checks m (Err NoMemory) names size later = tt

-- the same of what two calls lent
pub checks_lent : (m : Form) (cs : List Collection) (rules : List RuleForm) → cs ≡ m.collections → rules ≡ m.rules → (r : Result (Vec ℕ) CheckFault) → HasOwnNames m → kind_fault (facts_of cs rules) kind.TooMany cs rules ≡ None → Later cs rules r → ChecksHeads m r
checks_lent m cs rules e f r names size later = checks m r names
    (subst (λ (v : List RuleForm). kind_fault (facts_of m.collections v) kind.TooMany m.collections v ≡ None) f (subst (λ (v : List Collection). kind_fault (facts_of v rules) kind.TooMany v rules ≡ None) e size))
    (subst (λ (v : List RuleForm). Later m.collections v r) f (subst (λ (v : List Collection). Later v rules r) e later))
