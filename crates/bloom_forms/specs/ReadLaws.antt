-- What holds of good tables, of what feeds a table, and of the uses of a port.
use Rattle.std.specs.Prelude.{ℕ, ◌≡◌, ◌↔◌, ◌⊎◌, IsTrue, IfSome, Some, List, not, is_some}
use Rattle.blz_value.specs.Members.{Has}
use Rattle.blz_value.specs.Bits.{bit_of, meets}
use Rattle.blz_value.specs.Closure.{closure}
use Rattle.bloom_forms.specs.declared.module.Kind.TheVariants.{Input, Table}
use Rattle.bloom_forms.specs.declared.module.Collection.{Collection}
use Rattle.bloom_forms.specs.Form.{RuleForm, Form, Accepted}
use Rattle.bloom_forms.specs.Kinds.{kind_at}
use Rattle.bloom_forms.specs.Query.{Query}
use Rattle.bloom_forms.specs.Reads.{arrows, cone, direct}
use Rattle.bloom_forms.specs.Step.{rules_at}
use Rattle.bloom_forms.specs.ClosedForms.{behind, bad_tables}
use Rattle.bloom_forms.specs.Good.{reads_good, is_good_rule, good_tables}
use Rattle.bloom_forms.specs.Note.{own_gate}
use Rattle.bloom_forms.specs.Uses.{reads_port, feeds, feeds_read, use_of}

-- ---- good tables

-- each rule of a table is one that a good table may have, where these tables are good
abbrev pub HasGoodRules : Form → (good table : ℕ) → Type 0
HasGoodRules form good table = (rule : RuleForm) → Has rule (rules_at form.collections form.rules table) → IsTrue (is_good_rule form.collections form.rules good rule.1)

-- a table is good exactly where each rule of it is one that a good table may have; this is told of the finished set, so no order of heads makes a difference
abbrev pub GoodByRules : Accepted → Type 0
GoodByRules a = (table : ℕ) → kind_at a.form.collections table ≡ Some Table
    → IsTrue (meets (bit_of table) (good_tables a)) ↔ HasGoodRules a.form (good_tables a) table

-- nothing but tables is good
abbrev pub OnlyTablesAreGood : Accepted → Type 0
OnlyTablesAreGood a = (number : ℕ) → IsTrue (meets (bit_of number) (good_tables a)) → kind_at a.form.collections number ≡ Some Table

-- a table is good exactly where no table that it reads through others, itself included, has a rule that no good table may have
abbrev pub GoodByClosure : Accepted → Type 0
GoodByClosure a = (table : ℕ) → kind_at a.form.collections table ≡ Some Table
    → meets (bit_of table) (good_tables a) ≡ not (meets (bad_tables a.form.collections a.form.rules) (closure (bit_of table) (arrows a.form.collections a.form.rules)))

-- all tables that an expression reads are good exactly where nothing behind it has such a rule
abbrev pub ReadsGoodByClosure : Accepted → Type 0
ReadsGoodByClosure a = (q : Query)
    → reads_good a.form.collections a.form.rules (good_tables a) q ≡ not (meets (bad_tables a.form.collections a.form.rules) (behind a.form.collections a.form.rules q))

-- ---- what feeds a table

-- an expression reads a table that a port feeds
pub record ReadsFedTable (cs : List Collection) (rules : List RuleForm) (port : ℕ) (q : Query) : Type 0 where
  pub table : ℕ
  pub is : kind_at cs table ≡ Some Table
  pub read : IsTrue (meets (bit_of table) (direct cs rules q))
  pub fed : IsTrue (feeds cs rules port table)

-- a rule of a table reads a port, or reads a table that the port feeds
pub record HasFedRule (cs : List Collection) (rules : List RuleForm) (port table : ℕ) : Type 0 where
  pub rule : RuleForm
  pub of_table : Has rule (rules_at cs rules table)
  pub fed : IsTrue (reads_port cs rules port rule.1) ⊎ ReadsFedTable cs rules port rule.1

-- a port feeds a table exactly where a rule of the table reads the port, or reads a table that the port feeds
abbrev pub FeedsByRules : Form → Type 0
FeedsByRules form = (port table : ℕ) → kind_at form.collections port ≡ Some Input → kind_at form.collections table ≡ Some Table
    → IsTrue (feeds form.collections form.rules port table) ↔ HasFedRule form.collections form.rules port table

-- a port feeds a table that an expression reads exactly where the port is behind the expression
abbrev pub FeedsByClosure : Form → Type 0
FeedsByClosure form = (port : ℕ) (q : Query)
    → feeds_read form.collections form.rules port q ≡ meets (bit_of port) (behind form.collections form.rules q)

-- ---- uses

-- a rule uses a port exactly where the port is in the cone of its body
abbrev pub UsesByCone : Form → Type 0
UsesByCone form = (rule : RuleForm) (port : ℕ) → Has rule form.rules → kind_at form.collections port ≡ Some Input
    → (good gate : ℕ) → is_some (use_of form.collections form.rules good gate port rule.1) ≡ meets (bit_of port) (cone form.collections form.rules rule.1)

-- a use that is O has the gate of its rule
abbrev pub UsesHaveGate : Form → Type 0
UsesHaveGate form = (good gate port : ℕ) (q : Query)
    → IfSome (use_of form.collections form.rules good gate port q) (λ note. IfSome (own_gate note) (λ own. own.bits ≡ gate))
