-- What is read as a list or an aggregate is one, a fault is where the machine stops, and each is read again.
use Rattle.std.proofs.Common.{◌≡◌, ℕ, ◌<◌, Bool, true, false, cond, List, [], ◌∷◌, ◌++◌, map, length, drop, All, Result, Ok, Err, refl, sym, ap, subst, ◌∙◌, arith}
use Rattle.blz_value.specs.declared.test.Op.TheVariants.{Eq}
use Rattle.blz_value.proofs.Lists.{map_itself}
use Rattle.bloom_forms.specs.Query.{Name}
use Rattle.bloom_parse.specs.declared.lexing.terminal.Terminal.{Terminal}
use Rattle.bloom_parse.specs.declared.lexing.terminal.Terminal.TheVariants as terminals
use Rattle.bloom_parse.specs.declared.lexing.terminal.Word.TheVariants as words
use Rattle.bloom_parse.specs.declared.lexing.terminal.Mark.TheVariants as marks
use Rattle.bloom_forms.specs.declared.expr.NamedAgg.{NamedAgg}
use Rattle.bloom_forms.specs.declared.expr.NamedAgg.TheVariants.{Count, Sum, Min, Max}
use Rattle.bloom_parse.specs.Trees.{word, mark, Item, item_text, item_pair, more_items_text, more_pairs_text, more_names_text, keys_text, agg_text}
use Rattle.bloom_parse.specs.Code.ReadingSingle.{◌>>=◌, mark_at, name_at, equals_at, has_comma, has_close_keys, has_as}
use Rattle.bloom_parse.specs.Code.ReadingLists.{many_at, with_front, past, item_at, pair_at, items_at, pairs_at, names_at, key_names_at, keys_at, column_at, agg_at}
use Rattle.bloom_parse.proofs.Machine.Machine.{Sym, run}
use Rattle.bloom_parse.proofs.Printed.TreesLemmas.{flat_keys}
use Rattle.bloom_parse.proofs.Grammar.SingleCorrect.{bind_reads, Stuck, ReadsMark, mark_reads, ReadsName, name_reads, ReadsEquals, equals_reads}
use Rattle.bloom_parse.proofs.Grammar.RepeatLemmas.{Repeated, ReadsOne, ReadsMany, Listed, many_reads, ReadsMore, more_reads, ReadAgain, listed, many_again}

pub all_fit : {T : Type 0} (ts : List T) → All (λ t. Unit {0}) ts
all_fit ts = λ k d lt. tt

-- a thing behind its comma
by_comma : {X T : Type 0} (kind : Repeated X T) (more : Sym) (one : List Terminal → Result (X × List Terminal) ℕ) → ((rest : List Terminal) → ReadsOne kind more (mark marks.Comma ∷ rest) (one rest)) → (ts : List Terminal) → has_comma ts ≡ true → ReadsOne kind more ts (past one ts)
by_comma kind more one reads [] e = absurd cc
by_comma kind more one reads (terminals.Mark marks.Comma ∷ rest) e = reads rest
by_comma kind more one reads (t ∷ rest) e = absurd cc

-- ---- names

abbrev pub name_kind : Repeated Name Name
name_kind = record { view = λ n. n; text = λ n. mark marks.Comma ∷ terminals.Name n ∷ []; Fits = λ n. Unit {0}; all_text = more_names_text }

names_cases : (more : Sym) → ((k : ℕ) (st : List Sym) (rest : List Terminal) → run k (more ∷ st) (mark marks.Comma ∷ rest) ≡ run k (Sym.a_name ∷ more ∷ st) rest) → (rest : List Terminal) (r : Result (Name × List Terminal) ℕ) → ReadsName rest r → ReadsOne name_kind more (mark marks.Comma ∷ rest) r
names_cases more comma rest (Ok x) e = record { tree = x.0; fits = tt; means = refl; texts = ap (λ (t : List Terminal). mark marks.Comma ∷ t) e; next = λ k. k; goes = λ k st. comma k st rest ∙ ap (λ (t : List Terminal). run k (Sym.a_name ∷ more ∷ st) t) (sym e); shorter = omega (arith, ap (λ (t : List Terminal). length t) e) }
names_cases more comma rest (Err n) h = λ k st. comma k st rest ∙ h k (more ∷ st)

names_stop : (k : ℕ) (st : List Sym) (ts : List Terminal) → has_comma ts ≡ false → run k (Sym.more_names ∷ st) ts ≡ run k (Sym.mark marks.Close ∷ st) ts
names_stop k st [] e = refl
names_stop k st (terminals.Mark marks.Comma ∷ rest) e = absurd cc
names_stop k st (t ∷ rest) e = refl

keys_stop : (k : ℕ) (st : List Sym) (ts : List Terminal) → has_comma ts ≡ false → run k (Sym.more_keys ∷ st) ts ≡ run k (Sym.mark marks.CloseKeys ∷ st) ts
keys_stop k st [] e = refl
keys_stop k st (terminals.Mark marks.Comma ∷ rest) e = absurd cc
keys_stop k st (t ∷ rest) e = refl

names_listed : Listed name_kind Sym.more_names (Sym.mark marks.Close) has_comma (past name_at)
names_listed = record { nil = refl; cons = λ t ts. refl; stop = names_stop; reads = by_comma name_kind Sym.more_names name_at (λ rest. names_cases Sym.more_names (λ k st rest. refl) rest (name_at rest) (name_reads rest)) }

keys_listed : Listed name_kind Sym.more_keys (Sym.mark marks.CloseKeys) has_comma (past name_at)
keys_listed = record { nil = refl; cons = λ t ts. refl; stop = keys_stop; reads = by_comma name_kind Sym.more_keys name_at (λ rest. names_cases Sym.more_keys (λ k st rest. refl) rest (name_at rest) (name_reads rest)) }

pub names_reads : (first : Name) (ts : List Terminal) → ReadsMore name_kind Sym.more_names (Sym.mark marks.Close) first ts (names_at first ts)
names_reads first ts = more_reads name_kind Sym.more_names (Sym.mark marks.Close) first ts (many_at has_comma (past name_at) (length ts) ts) (many_reads name_kind Sym.more_names (Sym.mark marks.Close) has_comma (past name_at) names_listed (length ts) ts (omega arith) refl)

key_list_reads : (first : Name) (ts : List Terminal) → ReadsMore name_kind Sym.more_keys (Sym.mark marks.CloseKeys) first ts (names_at first ts)
key_list_reads first ts = more_reads name_kind Sym.more_keys (Sym.mark marks.CloseKeys) first ts (many_at has_comma (past name_at) (length ts) ts) (many_reads name_kind Sym.more_keys (Sym.mark marks.CloseKeys) has_comma (past name_at) keys_listed (length ts) ts (omega arith) refl)

name_read_again : (rest : List Terminal) → has_comma rest ≡ false → ReadAgain name_kind has_comma (past name_at) rest
name_read_again rest e = record { nil = refl; cons = λ t ts. refl; begins = λ t more. refl; ends = e; longer = λ t more. omega arith; again = λ t ts f. refl }

pub names_again : (first : Name) (names : List Name) (rest : List Terminal) → has_comma rest ≡ false → names_at first (more_names_text names ++ rest) ≡ listed (first ∷ names) rest
names_again first names rest e =
    ap (λ (r : Result (List Name × List Terminal) ℕ). with_front (first ∷ []) r) (many_again name_kind has_comma (past name_at) rest (name_read_again rest e) names (all_fit names))
    ∙ ap (λ (ns : List Name). listed (first ∷ ns) rest) (map_itself names)

-- ---- keys

record IsKeyNames (ts : List Terminal) (x : List Name × List Terminal) : Type 0 where
  first : Name
  more : List Name
  means : first ∷ more ≡ x.0
  texts : terminals.Name first ∷ (more_names_text more ++ mark marks.CloseKeys ∷ x.1) ≡ ts
  next : ℕ → ℕ
  goes : (k : ℕ) (st : List Sym) → run k (Sym.a_name ∷ Sym.more_keys ∷ st) ts ≡ run (next k) st x.1

abbrev ReadsKeyNames : List Terminal → Result (List Name × List Terminal) ℕ → Type 0
ReadsKeyNames ts (Ok x) = IsKeyNames ts x
ReadsKeyNames ts (Err n) = Stuck (λ st. Sym.a_name ∷ Sym.more_keys ∷ st) ts n

key_names_reads : (ts : List Terminal) → ReadsKeyNames ts (key_names_at ts)
unfolding key_names_at
key_names_reads ts =
    bind_reads (ReadsName ts) (ReadsKeyNames ts) (λ f. names_at f.0 f.1 >>= λ ns. mark_at marks.CloseKeys ns.1 >>= λ c. Ok (ns.0, c)) (name_at ts) (name_reads ts)
    (λ f e.
    let p : (k : ℕ) (st : List Sym) → run k (Sym.a_name ∷ Sym.more_keys ∷ st) ts ≡ run k (Sym.more_keys ∷ st) f.1 = λ k st. ap (λ (t : List Terminal). run k (Sym.a_name ∷ Sym.more_keys ∷ st) t) (sym e) in
    bind_reads (ReadsMore name_kind Sym.more_keys (Sym.mark marks.CloseKeys) f.0 f.1) (ReadsKeyNames ts) (λ ns. mark_at marks.CloseKeys ns.1 >>= λ c. Ok (ns.0, c)) (names_at f.0 f.1) (key_list_reads f.0 f.1)
    (λ ns m. bind_reads (ReadsMark marks.CloseKeys ns.1) (ReadsKeyNames ts) (λ c. Ok (ns.0, c)) (mark_at marks.CloseKeys ns.1) (mark_reads marks.CloseKeys ns.1)
    (λ c e3. record {
      first = f.0;
      more = m.trees;
      means = ap (λ (ys : List Name). f.0 ∷ ys) (sym (map_itself m.trees)) ∙ m.means;
      texts = ap (λ (t : List Terminal). terminals.Name f.0 ∷ t) (ap (λ (t : List Terminal). more_names_text m.trees ++ t) e3 ∙ m.texts) ∙ e;
      next = m.next;
      goes = λ k st. p k st ∙ m.goes k st ∙ ap (λ (t : List Terminal). run (m.next k) (Sym.mark marks.CloseKeys ∷ st) t) (sym e3);
    })
    (λ n j k st. p k st ∙ m.goes k st ∙ j (m.next k) st))
    (λ n j k st. p k st ∙ j k st))
    (λ n h k st. h k (Sym.more_keys ∷ st))

pub record IsKeys (ts : List Terminal) (x : List Name × List Terminal) : Type 0 where
  pub text : keys_text x.0 ++ x.1 ≡ ts
  pub next : ℕ → ℕ
  pub goes : (k : ℕ) (st : List Sym) → run k (Sym.mark marks.OpenKeys ∷ Sym.first_key ∷ st) ts ≡ run (next k) st x.1

abbrev pub ReadsKeys : List Terminal → Result (List Name × List Terminal) ℕ → Type 0
ReadsKeys ts (Ok x) = IsKeys ts x
ReadsKeys ts (Err n) = Stuck (λ st. Sym.mark marks.OpenKeys ∷ Sym.first_key ∷ st) ts n

close_front : (ts : List Terminal) → has_close_keys ts ≡ true → mark marks.CloseKeys ∷ drop 1 ts ≡ ts
close_front [] e = absurd cc
close_front (terminals.Mark marks.CloseKeys ∷ rest) e = refl
close_front (t ∷ rest) e = absurd cc

first_key_goes : (k : ℕ) (st : List Sym) (ts : List Terminal) → has_close_keys ts ≡ false → run k (Sym.first_key ∷ st) ts ≡ run k (Sym.a_name ∷ Sym.more_keys ∷ st) ts
first_key_goes k st [] e = refl
first_key_goes k st (terminals.Mark marks.CloseKeys ∷ rest) e = absurd cc
first_key_goes k st (t ∷ rest) e = refl

keys_with : (ts o : List Terminal) → mark marks.OpenKeys ∷ o ≡ ts → has_close_keys o ≡ false → (r : Result (List Name × List Terminal) ℕ) → ReadsKeyNames o r → ReadsKeys ts r
keys_with ts o e none (Ok x) h = record {
  text = ap (λ (ns : List Name). keys_text ns ++ x.1) (sym h.means) ∙ flat_keys h.first h.more x.1 ∙ ap (λ (t : List Terminal). mark marks.OpenKeys ∷ t) h.texts ∙ e;
  next = h.next;
  goes = λ k st. ap (λ (t : List Terminal). run k (Sym.mark marks.OpenKeys ∷ Sym.first_key ∷ st) t) (sym e) ∙ first_key_goes k st o none ∙ h.goes k st;
}
keys_with ts o e none (Err n) h = λ k st. ap (λ (t : List Terminal). run k (Sym.mark marks.OpenKeys ∷ Sym.first_key ∷ st) t) (sym e) ∙ first_key_goes k st o none ∙ h k st

keys_cases : (ts o : List Terminal) → mark marks.OpenKeys ∷ o ≡ ts → (b : Bool) → has_close_keys o ≡ b → ReadsKeys ts (cond b (Ok ([], drop 1 o)) (key_names_at o))
keys_cases ts o e true closed =
    let all : mark marks.OpenKeys ∷ mark marks.CloseKeys ∷ drop 1 o ≡ ts = ap (λ (t : List Terminal). mark marks.OpenKeys ∷ t) (close_front o closed) ∙ e in
    record { text = all; next = λ k. k; goes = λ k st. ap (λ (t : List Terminal). run k (Sym.mark marks.OpenKeys ∷ Sym.first_key ∷ st) t) (sym all) }
keys_cases ts o e false none = keys_with ts o e none (key_names_at o) (key_names_reads o)

pub keys_reads : (ts : List Terminal) → ReadsKeys ts (keys_at ts)
unfolding keys_at
keys_reads ts =
    bind_reads (ReadsMark marks.OpenKeys ts) (ReadsKeys ts) (λ o. cond (has_close_keys o) (Ok ([], drop 1 o)) (key_names_at o)) (mark_at marks.OpenKeys ts) (mark_reads marks.OpenKeys ts)
    (λ o e. keys_cases ts o e (has_close_keys o) refl)
    (λ n h k st. h k (Sym.first_key ∷ st))

pub keys_again : (keys : List Name) (rest : List Terminal) → keys_at (keys_text keys ++ rest) ≡ listed keys rest
unfolding keys_at key_names_at
keys_again [] rest = refl
keys_again (n ∷ names) rest =
    ap (λ (t : List Terminal). keys_at t) (flat_keys n names rest)
    ∙ ap (λ (r : Result (List Name × List Terminal) ℕ). r >>= λ ns. mark_at marks.CloseKeys ns.1 >>= λ c. listed ns.0 c) (names_again n names (mark marks.CloseKeys ∷ rest) refl)

-- ---- aggregates

abbrev ReadsColumn : List Terminal → Result (Name × List Terminal) ℕ → Type 0
ReadsColumn ts (Ok x) = mark marks.Open ∷ terminals.Name x.0 ∷ mark marks.Close ∷ x.1 ≡ ts
ReadsColumn ts (Err n) = Stuck (λ st. Sym.mark marks.Open ∷ Sym.a_name ∷ Sym.mark marks.Close ∷ st) ts n

column_reads : (ts : List Terminal) → ReadsColumn ts (column_at ts)
unfolding column_at
column_reads ts =
    bind_reads (ReadsMark marks.Open ts) (ReadsColumn ts) (λ o. name_at o >>= λ n. mark_at marks.Close n.1 >>= λ c. Ok (n.0, c)) (mark_at marks.Open ts) (mark_reads marks.Open ts)
    (λ o e1. bind_reads (ReadsName o) (ReadsColumn ts) (λ n. mark_at marks.Close n.1 >>= λ c. Ok (n.0, c)) (name_at o) (name_reads o)
    (λ n e2.
    let two : mark marks.Open ∷ terminals.Name n.0 ∷ n.1 ≡ ts = ap (λ (t : List Terminal). mark marks.Open ∷ t) e2 ∙ e1 in
    bind_reads (ReadsMark marks.Close n.1) (ReadsColumn ts) (λ c. Ok (n.0, c)) (mark_at marks.Close n.1) (mark_reads marks.Close n.1)
    (λ c e3. ap (λ (t : List Terminal). mark marks.Open ∷ terminals.Name n.0 ∷ t) e3 ∙ two)
    (λ m h k st. ap (λ (t : List Terminal). run k (Sym.mark marks.Open ∷ Sym.a_name ∷ Sym.mark marks.Close ∷ st) t) (sym two) ∙ h k st))
    (λ m h k st. ap (λ (t : List Terminal). run k (Sym.mark marks.Open ∷ Sym.a_name ∷ Sym.mark marks.Close ∷ st) t) (sym e1) ∙ h k (Sym.mark marks.Close ∷ st)))
    (λ m h k st. h k (Sym.a_name ∷ Sym.mark marks.Close ∷ st))

abbrev pub ReadsAgg : List Terminal → Result (NamedAgg × List Terminal) ℕ → Type 0
ReadsAgg ts (Ok x) = agg_text x.0 ++ x.1 ≡ ts
ReadsAgg ts (Err n) = Stuck (λ st. Sym.an_agg ∷ st) ts n

pub agg_reads : (ts : List Terminal) → ReadsAgg ts (agg_at ts)
agg_reads [] = λ k st. refl
agg_reads (terminals.Word words.Count ∷ rest) = refl
agg_reads (terminals.Word words.Sum ∷ rest) = bind_reads (ReadsColumn rest) (ReadsAgg (word words.Sum ∷ rest)) (λ c. Ok (Sum c.0, c.1)) (column_at rest) (column_reads rest) (λ c e. ap (λ (t : List Terminal). word words.Sum ∷ t) e) (λ n h k st. h k st)
agg_reads (terminals.Word words.Min ∷ rest) = bind_reads (ReadsColumn rest) (ReadsAgg (word words.Min ∷ rest)) (λ c. Ok (Min c.0, c.1)) (column_at rest) (column_reads rest) (λ c e. ap (λ (t : List Terminal). word words.Min ∷ t) e) (λ n h k st. h k st)
agg_reads (terminals.Word words.Max ∷ rest) = bind_reads (ReadsColumn rest) (ReadsAgg (word words.Max ∷ rest)) (λ c. Ok (Max c.0, c.1)) (column_at rest) (column_reads rest) (λ c e. ap (λ (t : List Terminal). word words.Max ∷ t) e) (λ n h k st. h k st)
agg_reads (t ∷ rest) = λ k st. refl

pub agg_goes : (a : NamedAgg) (k : ℕ) (st : List Sym) (rest : List Terminal) → run k (Sym.an_agg ∷ st) (agg_text a ++ rest) ≡ run k st rest
agg_goes Count k st rest = refl
agg_goes (Sum n) k st rest = refl
agg_goes (Min n) k st rest = refl
agg_goes (Max n) k st rest = refl

pub agg_again : (a : NamedAgg) (rest : List Terminal) → agg_at (agg_text a ++ rest) ≡ Ok (a, rest)
unfolding column_at
agg_again Count rest = refl
agg_again (Sum n) rest = refl
agg_again (Min n) rest = refl
agg_again (Max n) rest = refl

-- ---- items

pub record IsItem (ts : List Terminal) (x : (Name × Name) × List Terminal) : Type 0 where
  pub tree : Item
  pub means : item_pair tree ≡ x.0
  pub texts : item_text tree ++ x.1 ≡ ts
  pub goes : (k : ℕ) (st : List Sym) → run k (Sym.a_name ∷ Sym.item_end ∷ st) ts ≡ run k (Sym.more_items ∷ st) x.1
  pub shorter : length x.1 < length ts

abbrev pub ReadsItem : List Terminal → Result ((Name × Name) × List Terminal) ℕ → Type 0
ReadsItem ts (Ok x) = IsItem ts x
ReadsItem ts (Err n) = Stuck (λ st. Sym.a_name ∷ Sym.item_end ∷ st) ts n

abbrev ItemBehind : Name → List Terminal → Result ((Name × Name) × List Terminal) ℕ → Type 0
ItemBehind n ts (Ok x) = IsItem (terminals.Name n ∷ ts) x
ItemBehind n ts (Err m) = Stuck (λ st. Sym.item_end ∷ st) ts m

abbrev behind_name : Name → List Terminal → Result ((Name × Name) × List Terminal) ℕ
behind_name n ts = cond (has_as ts) (name_at (drop 1 ts) >>= λ m. Ok ((n, m.0), m.1)) (Ok ((n, n), ts))

renamed_reads : (n : Name) (rest : List Terminal) → ItemBehind n (word words.As ∷ rest) (name_at rest >>= λ m. Ok ((n, m.0), m.1))
renamed_reads n rest =
    bind_reads (ReadsName rest) (ItemBehind n (word words.As ∷ rest)) (λ m. Ok ((n, m.0), m.1)) (name_at rest) (name_reads rest)
    (λ m e. record { tree = Item.renamed n m.0; means = refl; texts = ap (λ (t : List Terminal). terminals.Name n ∷ word words.As ∷ t) e; goes = λ k st. ap (λ (t : List Terminal). run k (Sym.a_name ∷ Sym.more_items ∷ st) t) (sym e); shorter = omega (arith, ap (λ (t : List Terminal). length t) e) })
    (λ j h k st. h k (Sym.more_items ∷ st))

item_behind : (n : Name) (ts : List Terminal) → ItemBehind n ts (behind_name n ts)
item_behind n [] = record { tree = Item.plain n; means = refl; texts = refl; goes = λ k st. refl; shorter = omega arith }
item_behind n (terminals.Word words.As ∷ rest) = renamed_reads n rest
item_behind n (t ∷ rest) = record { tree = Item.plain n; means = refl; texts = refl; goes = λ k st. refl; shorter = omega arith }

item_with : (n : Name) (ts : List Terminal) (r : Result ((Name × Name) × List Terminal) ℕ) → ItemBehind n ts r → ReadsItem (terminals.Name n ∷ ts) r
item_with n ts (Ok x) h = h
item_with n ts (Err m) h = h

pub item_reads : (ts : List Terminal) → ReadsItem ts (item_at ts)
unfolding item_at
item_reads ts =
    bind_reads (ReadsName ts) (ReadsItem ts) (λ n. behind_name n.0 n.1) (name_at ts) (name_reads ts)
    (λ n e. subst (λ t. ReadsItem t (behind_name n.0 n.1)) e (item_with n.0 n.1 (behind_name n.0 n.1) (item_behind n.0 n.1)))
    (λ m h k st. h k (Sym.item_end ∷ st))

abbrev pub item_kind : Repeated (Name × Name) Item
item_kind = record { view = item_pair; text = λ i. mark marks.Comma ∷ item_text i; Fits = λ i. Unit {0}; all_text = more_items_text }

item_cases : (rest : List Terminal) (r : Result ((Name × Name) × List Terminal) ℕ) → ReadsItem rest r → ReadsOne item_kind Sym.more_items (mark marks.Comma ∷ rest) r
item_cases rest (Ok x) h = record { tree = h.tree; fits = tt; means = h.means; texts = ap (λ (t : List Terminal). mark marks.Comma ∷ t) h.texts; next = λ k. k; goes = h.goes; shorter = omega (arith, h.shorter) }
item_cases rest (Err n) h = h

items_stop : (k : ℕ) (st : List Sym) (ts : List Terminal) → has_comma ts ≡ false → run k (Sym.more_items ∷ st) ts ≡ run k (Sym.mark marks.Close ∷ st) ts
items_stop k st [] e = refl
items_stop k st (terminals.Mark marks.Comma ∷ rest) e = absurd cc
items_stop k st (t ∷ rest) e = refl

items_listed : Listed item_kind Sym.more_items (Sym.mark marks.Close) has_comma (past item_at)
items_listed = record { nil = refl; cons = λ t ts. refl; stop = items_stop; reads = by_comma item_kind Sym.more_items item_at (λ rest. item_cases rest (item_at rest) (item_reads rest)) }

pub items_reads : (first : Name × Name) (ts : List Terminal) → ReadsMore item_kind Sym.more_items (Sym.mark marks.Close) first ts (items_at first ts)
items_reads first ts = more_reads item_kind Sym.more_items (Sym.mark marks.Close) first ts (many_at has_comma (past item_at) (length ts) ts) (many_reads item_kind Sym.more_items (Sym.mark marks.Close) has_comma (past item_at) items_listed (length ts) ts (omega arith) refl)

pub item_again : (i : Item) (rest : List Terminal) → has_as rest ≡ false → item_at (item_text i ++ rest) ≡ Ok (item_pair i, rest)
unfolding item_at
item_again (Item.plain n) rest e = ap (λ (b : Bool). cond {A = Result ((Name × Name) × List Terminal) ℕ} b (name_at (drop 1 rest) >>= λ m. Ok ((n, m.0), m.1)) (Ok ((n, n), rest))) e
item_again (Item.renamed n m) rest e = refl

pub no_as : (items : List Item) (rest : List Terminal) → has_as (more_items_text items ++ mark marks.Close ∷ rest) ≡ false
no_as [] rest = refl
no_as (i ∷ items) rest = refl

item_longer : (i : Item) (more : List Terminal) → length more < length (mark marks.Comma ∷ (item_text i ++ more))
item_longer (Item.plain n) more = omega arith
item_longer (Item.renamed n m) more = omega arith

item_read_again : (rest : List Terminal) → ReadAgain item_kind has_comma (past item_at) (mark marks.Close ∷ rest)
item_read_again rest = record { nil = refl; cons = λ t ts. refl; begins = λ t more. refl; ends = refl; longer = item_longer; again = λ t ts f. item_again t (more_items_text ts ++ mark marks.Close ∷ rest) (no_as ts rest) }

pub items_again : (first : Name × Name) (items : List Item) (rest : List Terminal) → items_at first (more_items_text items ++ mark marks.Close ∷ rest) ≡ listed (first ∷ map item_pair items) (mark marks.Close ∷ rest)
items_again first items rest = ap (λ (r : Result (List (Name × Name) × List Terminal) ℕ). with_front (first ∷ []) r) (many_again item_kind has_comma (past item_at) (mark marks.Close ∷ rest) (item_read_again rest) items (all_fit items))

-- ---- pairs

abbrev pub pair_kind : Repeated (Name × Name) (Name × Name)
pair_kind = record { view = λ p. p; text = λ p. mark marks.Comma ∷ terminals.Name p.0 ∷ terminals.Sign Eq ∷ terminals.Name p.1 ∷ []; Fits = λ p. Unit {0}; all_text = more_pairs_text }

pair_reads : (ts : List Terminal) → ReadsOne pair_kind Sym.more_pairs (mark marks.Comma ∷ ts) (pair_at ts)
unfolding pair_at
pair_reads ts =
    let G : Result ((Name × Name) × List Terminal) ℕ → Type 0 = ReadsOne pair_kind Sym.more_pairs (mark marks.Comma ∷ ts) in
    let syms : List Sym → List Sym = λ st. Sym.a_name ∷ Sym.equals ∷ Sym.a_name ∷ Sym.more_pairs ∷ st in
    bind_reads (ReadsName ts) G (λ a. equals_at a.1 >>= λ behind. name_at behind >>= λ b. Ok ((a.0, b.0), b.1)) (name_at ts) (name_reads ts)
    (λ a e. bind_reads (ReadsEquals a.1) G (λ behind. name_at behind >>= λ b. Ok ((a.0, b.0), b.1)) (equals_at a.1) (equals_reads a.1)
    (λ behind f.
    let two : terminals.Name a.0 ∷ terminals.Sign Eq ∷ behind ≡ ts = ap (λ (t : List Terminal). terminals.Name a.0 ∷ t) f ∙ e in
    bind_reads (ReadsName behind) G (λ b. Ok ((a.0, b.0), b.1)) (name_at behind) (name_reads behind)
    (λ b g.
    let all : terminals.Name a.0 ∷ terminals.Sign Eq ∷ terminals.Name b.0 ∷ b.1 ≡ ts = ap (λ (t : List Terminal). terminals.Name a.0 ∷ terminals.Sign Eq ∷ t) g ∙ two in
    record { tree = (a.0, b.0); fits = tt; means = refl; texts = ap (λ (t : List Terminal). mark marks.Comma ∷ t) all; next = λ k. k; goes = λ k st. ap (λ (t : List Terminal). run k (syms st) t) (sym all); shorter = omega (arith, ap (λ (t : List Terminal). length t) all) })
    (λ n h k st. ap (λ (t : List Terminal). run k (syms st) t) (sym two) ∙ h k (Sym.more_pairs ∷ st)))
    (λ n h k st. ap (λ (t : List Terminal). run k (syms st) t) (sym e) ∙ h k (Sym.a_name ∷ Sym.more_pairs ∷ st)))
    (λ n h k st. h k (Sym.equals ∷ Sym.a_name ∷ Sym.more_pairs ∷ st))

pairs_stop : (k : ℕ) (st : List Sym) (ts : List Terminal) → has_comma ts ≡ false → run k (Sym.more_pairs ∷ st) ts ≡ run k (Sym.mark marks.Close ∷ st) ts
pairs_stop k st [] e = refl
pairs_stop k st (terminals.Mark marks.Comma ∷ rest) e = absurd cc
pairs_stop k st (t ∷ rest) e = refl

pairs_listed : Listed pair_kind Sym.more_pairs (Sym.mark marks.Close) has_comma (past pair_at)
pairs_listed = record { nil = refl; cons = λ t ts. refl; stop = pairs_stop; reads = by_comma pair_kind Sym.more_pairs pair_at pair_reads }

pub record IsPairs (ts : List Terminal) (x : List (Name × Name) × List Terminal) : Type 0 where
  pub texts : more_pairs_text x.0 ++ x.1 ≡ ts
  pub next : ℕ → ℕ
  pub goes : (k : ℕ) (st : List Sym) → run k (Sym.more_pairs ∷ st) ts ≡ run (next k) (Sym.mark marks.Close ∷ st) x.1

abbrev pub ReadsPairs : List Terminal → Result (List (Name × Name) × List Terminal) ℕ → Type 0
ReadsPairs ts (Ok x) = IsPairs ts x
ReadsPairs ts (Err n) = Stuck (λ st. Sym.more_pairs ∷ st) ts n

pairs_with : (ts : List Terminal) (r : Result (List (Name × Name) × List Terminal) ℕ) → ReadsMany pair_kind Sym.more_pairs (Sym.mark marks.Close) ts r → ReadsPairs ts r
pairs_with ts (Ok x) h = record { texts = ap (λ (ps : List (Name × Name)). more_pairs_text ps ++ x.1) (sym h.means ∙ map_itself h.trees) ∙ h.texts; next = h.next; goes = h.goes }
pairs_with ts (Err n) h = h

pub pairs_reads : (ts : List Terminal) → ReadsPairs ts (pairs_at ts)
pairs_reads ts = pairs_with ts (pairs_at ts) (many_reads pair_kind Sym.more_pairs (Sym.mark marks.Close) has_comma (past pair_at) pairs_listed (length ts) ts (omega arith) refl)

pair_read_again : (rest : List Terminal) → ReadAgain pair_kind has_comma (past pair_at) (mark marks.Close ∷ rest)
unfolding pair_at
pair_read_again rest = record { nil = refl; cons = λ t ts. refl; begins = λ t more. refl; ends = refl; longer = λ t more. omega arith; again = λ t ts f. refl }

pub pairs_again : (pairs : List (Name × Name)) (rest : List Terminal) → pairs_at (more_pairs_text pairs ++ mark marks.Close ∷ rest) ≡ listed pairs (mark marks.Close ∷ rest)
pairs_again pairs rest =
    many_again pair_kind has_comma (past pair_at) (mark marks.Close ∷ rest) (pair_read_again rest) pairs (all_fit pairs)
    ∙ ap (λ (ps : List (Name × Name)). listed ps (mark marks.Close ∷ rest)) (map_itself pairs)
