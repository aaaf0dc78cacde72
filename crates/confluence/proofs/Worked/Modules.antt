-- The two modules of word count are such as a check accepts.
use Rattle.std.proofs.Common.{◌≡◌, refl, subst, [], ◌∷◌, inl, inr, None}
use Rattle.blz_value.specs.Members.{Has}
use Rattle.blz_value.specs.Bits.{bit_of, meets}
use Rattle.blz_value.specs.Closure.{within, closure, step}
use Rattle.bloom_forms.specs.declared.fault.ModuleKind.TheVariants as kind
use Rattle.bloom_forms.specs.Checks.{IsRule, IsChecked}
use Rattle.bloom_forms.specs.Faults.{kind_fault}
use Rattle.bloom_forms.specs.FirstFault.{first_fault}
use Rattle.bloom_forms.specs.Form.{RuleForm, Form}
use Rattle.bloom_forms.specs.HeadOrder.{heads_of}
use Rattle.bloom_forms.specs.Reads.{facts_of}
use Rattle.bloom_forms.specs.Reserved.{HasOwnNames}
use Rattle.bloom_forms.proofs.Faults.Firsts.{are_few, each_collection, distinct_names}
use Rattle.bloom_forms.proofs.Faults.Ordering.{ordered}
use Rattle.topo_forms.proofs.Worked.WordCount.{count_module, commit_module}

-- a module without a fault of size and with no name twice, whose rules are as they should be, is checked
module _ (m : Form) (names : HasOwnNames m) (clean : first_fault m ≡ None)
    (size : kind_fault (facts_of m.collections m.rules) kind.TooMany m.collections m.rules ≡ None)
    (once : kind_fault (facts_of m.collections m.rules) kind.Twice m.collections m.rules ≡ None)
    (rules : (r : RuleForm) → Has r m.rules → IsRule m.collections m.rules r) where
  checked : IsChecked m (heads_of m)
  checked =
      let few = are_few m.collections (facts_of m.collections m.rules) m.rules size in
      record {
        names = names;
        clean = clean;
        few_collections = few.0;
        few_rules = few.1;
        collections = each_collection m.collections (facts_of m.collections m.rules) m.rules size once;
        distinct = distinct_names m.collections (facts_of m.collections m.rules) m.rules once;
        rules = rules;
        ordered = ordered m.collections m.rules few.0 (λ r h. (rules r h).free);
      }

abbrev count_form : Form
count_form = count_module.form

count_rules : (r : RuleForm) → Has r count_form.rules → IsRule count_form.collections count_form.rules r
unfolding bit_of meets within closure step
count_rules r (inl e) = subst (IsRule count_form.collections count_form.rules) e (record { bounded = refl; literals = tt; head = refl; known = refl; fits = refl; width = refl; free = refl; unmixed = refl; pure = refl })
count_rules r (inr (inl e)) = subst (IsRule count_form.collections count_form.rules) e (record { bounded = refl; literals = tt; head = refl; known = refl; fits = refl; width = refl; free = refl; unmixed = refl; pure = refl })
count_rules r (inr (inr none)) = absurd none

count_heads : heads_of count_form ≡ 2 ∷ 1 ∷ []
unfolding bit_of meets within closure step
count_heads = refl

pub count_checked : IsChecked count_module.form count_module.heads
unfolding bit_of meets within closure step
count_checked = subst (IsChecked count_form) count_heads (checked count_form refl refl refl refl count_rules)

abbrev commit_form : Form
commit_form = commit_module.form

commit_rules : (r : RuleForm) → Has r commit_form.rules → IsRule commit_form.collections commit_form.rules r
unfolding bit_of meets within closure step
commit_rules r (inl e) = subst (IsRule commit_form.collections commit_form.rules) e (record { bounded = refl; literals = tt; head = refl; known = refl; fits = refl; width = refl; free = refl; unmixed = refl; pure = refl })
commit_rules r (inr (inl e)) = subst (IsRule commit_form.collections commit_form.rules) e (record { bounded = refl; literals = tt; head = refl; known = refl; fits = refl; width = refl; free = refl; unmixed = refl; pure = refl })
commit_rules r (inr (inr none)) = absurd none

commit_heads : heads_of commit_form ≡ 2 ∷ 1 ∷ []
unfolding bit_of meets within closure step
commit_heads = refl

pub commit_checked : IsChecked commit_module.form commit_module.heads
unfolding bit_of meets within closure step
commit_checked = subst (IsChecked commit_form) commit_heads (checked commit_form refl refl refl refl commit_rules)
