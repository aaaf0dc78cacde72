-- Lists of things of one kind: what is read is one, a fault is where the machine stops, and each is read again.
use Rattle.std.proofs.Common.{◌≡◌, ℕ, zero, suc, ◌+◌, ◌-◌, ◌<◌, ◌≤◌, Bool, true, false, cond, List, [], ◌∷◌, ◌++◌, map, length, All, Result, Ok, Err, refl, sym, ap, subst, ◌∙◌, append_assoc, arith}
use Rattle.std.proofs.lemmas.List.{append-nil}
use Rattle.std.proofs.lemmas.List.Elements.{All-nil, All-cons, All-head, All-tail}
use Rattle.bloom_parse.specs.declared.lexing.terminal.Terminal.{Terminal}
use Rattle.bloom_parse.specs.declared.reading.read_fault.ReadFault.{ReadFault}
use Rattle.bloom_parse.specs.Code.ReadingSingle.{◌>>=◌, Fails}
use Rattle.bloom_parse.specs.Code.ReadingLists.{many_at, with_front}
use Rattle.bloom_parse.proofs.Machine.Machine.{Sym, run}
use Rattle.bloom_parse.proofs.Grammar.SingleCorrect.{bind_reads}
use Rattle.bloom_parse.proofs.Grammar.StepLemmas.{fails_first}

-- ---- what is read

-- trees of one kind that stand one behind the other: what each means, its text, what holds of it, and the text of many
pub record Repeated (X T : Type 0) : Type 1 where
  pub view : T → X
  pub text : T → List Terminal
  pub Fits : T → Type 0
  pub all_text : List T → List Terminal

-- what one thing of a list reads, where more may come behind it as before it
pub record IsOne {X T : Type 0} (kind : Repeated X T) (more : Sym) (ts : List Terminal) (x : X × List Terminal) : Type 0 where
  pub tree : T
  pub fits : kind.Fits tree
  pub means : kind.view tree ≡ x.0
  pub texts : kind.text tree ++ x.1 ≡ ts
  pub next : ℕ → ℕ
  pub goes : (k : ℕ) (st : List Sym) → run k (more ∷ st) ts ≡ run (next k) (more ∷ st) x.1
  pub shorter : length x.1 < length ts

abbrev pub ReadsOne : {X T : Type 0} → Repeated X T → Sym → List Terminal → Result (X × List Terminal) ℕ → Type 0
ReadsOne kind more ts (Ok x) = IsOne kind more ts x
ReadsOne kind more ts (Err n) = (k : ℕ) (st : List Sym) → run k (more ∷ st) ts ≡ Err n

pub record IsMany {X T : Type 0} (kind : Repeated X T) (more last : Sym) (ts : List Terminal) (x : List X × List Terminal) : Type 0 where
  pub trees : List T
  pub fits : All kind.Fits trees
  pub means : map kind.view trees ≡ x.0
  pub texts : kind.all_text trees ++ x.1 ≡ ts
  pub next : ℕ → ℕ
  pub goes : (k : ℕ) (st : List Sym) → run k (more ∷ st) ts ≡ run (next k) (last ∷ st) x.1

abbrev pub ReadsMany : {X T : Type 0} → Repeated X T → Sym → Sym → List Terminal → Result (List X × List Terminal) ℕ → Type 0
ReadsMany kind more last ts (Ok x) = IsMany kind more last ts x
ReadsMany kind more last ts (Err n) = (k : ℕ) (st : List Sym) → run k (more ∷ st) ts ≡ Err n

-- what { one } needs of its one thing
pub record Listed {X T : Type 0} (kind : Repeated X T) (more last : Sym) (starts : List Terminal → Bool) (one : List Terminal → Result (X × List Terminal) ℕ) : Type 0 where
  pub nil : kind.all_text [] ≡ []
  pub cons : (t : T) (ts : List T) → kind.all_text (t ∷ ts) ≡ kind.text t ++ kind.all_text ts
  pub stop : (k : ℕ) (st : List Sym) (ts : List Terminal) → starts ts ≡ false → run k (more ∷ st) ts ≡ run k (last ∷ st) ts
  pub reads : (ts : List Terminal) → starts ts ≡ true → ReadsOne kind more ts (one ts)

none_more : {X T : Type 0} (kind : Repeated X T) (more last : Sym) (starts : List Terminal → Bool) (one : List Terminal → Result (X × List Terminal) ℕ) (listed : Listed kind more last starts one) (ts : List Terminal) → ((k : ℕ) (st : List Sym) → run k (more ∷ st) ts ≡ run k (last ∷ st) ts) → IsMany kind more last ts ([], ts)
none_more kind more last starts one listed ts stop = record { trees = []; fits = All-nil kind.Fits; means = refl; texts = ap (λ (t : List Terminal). t ++ ts) listed.nil; next = λ k. k; goes = stop }

many_cases : {X T : Type 0} (kind : Repeated X T) (more last : Sym) (starts : List Terminal → Bool) (one : List Terminal → Result (X × List Terminal) ℕ) (listed : Listed kind more last starts one) (turns : ℕ)
    → ((ts : List Terminal) → length ts ≤ turns → ReadsMany kind more last ts (many_at starts one turns ts))
    → (ts : List Terminal) → length ts ≤ suc turns → (b : Bool) → starts ts ≡ b → ReadsMany kind more last ts (cond b (one ts >>= λ x. many_at starts one turns x.1 >>= λ xs. Ok (x.0 ∷ xs.0, xs.1)) (Ok ([], ts)))
many_cases kind more last starts one listed turns rec ts le false e = none_more kind more last starts one listed ts (λ k st. listed.stop k st ts e)
many_cases kind more last starts one listed turns rec ts le true e =
    bind_reads (ReadsOne kind more ts) (ReadsMany kind more last ts) (λ x. many_at starts one turns x.1 >>= λ xs. Ok (x.0 ∷ xs.0, xs.1)) (one ts) (listed.reads ts e)
    (λ x h. bind_reads (ReadsMany kind more last x.1) (ReadsMany kind more last ts) (λ xs. Ok (x.0 ∷ xs.0, xs.1)) (many_at starts one turns x.1) (rec x.1 (omega (arith, h.shorter, le)))
    (λ xs g. record {
      trees = h.tree ∷ g.trees;
      fits = All-cons kind.Fits h.tree g.trees h.fits g.fits;
      means = ap (λ y. y ∷ map kind.view g.trees) h.means ∙ ap (λ ys. x.0 ∷ ys) g.means;
      texts = ap (λ (t : List Terminal). t ++ xs.1) (listed.cons h.tree g.trees) ∙ append_assoc (kind.text h.tree) (kind.all_text g.trees) xs.1 ∙ ap (λ (t : List Terminal). kind.text h.tree ++ t) g.texts ∙ h.texts;
      next = λ k. g.next (h.next k);
      goes = λ k st. h.goes k st ∙ g.goes (h.next k) st;
    })
    (λ n g k st. h.goes k st ∙ g (h.next k) st))
    (λ n h. h)

pub many_reads : {X T : Type 0} (kind : Repeated X T) (more last : Sym) (starts : List Terminal → Bool) (one : List Terminal → Result (X × List Terminal) ℕ) (listed : Listed kind more last starts one) (turns : ℕ) (ts : List Terminal) → length ts ≤ turns → starts [] ≡ false → ReadsMany kind more last ts (many_at starts one turns ts)
unfolding many_at
many_reads kind more last starts one listed zero [] le none = none_more kind more last starts one listed [] (λ k st. listed.stop k st [] none)
many_reads kind more last starts one listed zero (t ∷ ts) le none = absurd (omega (arith, le))
many_reads kind more last starts one listed (suc turns) ts le none = many_cases kind more last starts one listed turns (λ ts le. many_reads kind more last starts one listed turns ts le none) ts le (starts ts) refl

-- a first thing, and what is behind it
pub record IsMore {X T : Type 0} (kind : Repeated X T) (more last : Sym) (first : X) (ts : List Terminal) (x : List X × List Terminal) : Type 0 where
  pub trees : List T
  pub fits : All kind.Fits trees
  pub means : first ∷ map kind.view trees ≡ x.0
  pub texts : kind.all_text trees ++ x.1 ≡ ts
  pub next : ℕ → ℕ
  pub goes : (k : ℕ) (st : List Sym) → run k (more ∷ st) ts ≡ run (next k) (last ∷ st) x.1

abbrev pub ReadsMore : {X T : Type 0} → Repeated X T → Sym → Sym → X → List Terminal → Result (List X × List Terminal) ℕ → Type 0
ReadsMore kind more last first ts (Ok x) = IsMore kind more last first ts x
ReadsMore kind more last first ts (Err n) = (k : ℕ) (st : List Sym) → run k (more ∷ st) ts ≡ Err n

pub more_reads : {X T : Type 0} (kind : Repeated X T) (more last : Sym) (first : X) (ts : List Terminal) (r : Result (List X × List Terminal) ℕ) → ReadsMany kind more last ts r → ReadsMore kind more last first ts (with_front (first ∷ []) r)
more_reads kind more last first ts (Ok x) h = record { trees = h.trees; fits = h.fits; means = ap (λ ys. first ∷ ys) h.means; texts = h.texts; next = h.next; goes = h.goes }
more_reads kind more last first ts (Err n) h = h

-- ---- each list is read again

pub record ReadAgain {X T : Type 0} (kind : Repeated X T) (starts : List Terminal → Bool) (one : List Terminal → Result (X × List Terminal) ℕ) (rest : List Terminal) : Type 0 where
  pub nil : kind.all_text [] ≡ []
  pub cons : (t : T) (ts : List T) → kind.all_text (t ∷ ts) ≡ kind.text t ++ kind.all_text ts
  pub begins : (t : T) (more : List Terminal) → starts (kind.text t ++ more) ≡ true
  pub ends : starts rest ≡ false
  pub longer : (t : T) (more : List Terminal) → length more < length (kind.text t ++ more)
  pub again : (t : T) (ts : List T) → kind.Fits t → one (kind.text t ++ (kind.all_text ts ++ rest)) ≡ Ok (kind.view t, kind.all_text ts ++ rest)

abbrev pub listed : {X : Type 0} → List X → List Terminal → Result (List X × List Terminal) ℕ
listed xs rest = Ok (xs, rest)

many_stops : {X : Type 0} (starts : List Terminal → Bool) (one : List Terminal → Result (X × List Terminal) ℕ) (turns : ℕ) (rest : List Terminal) → starts rest ≡ false → many_at starts one turns rest ≡ listed [] rest
unfolding many_at
many_stops starts one zero rest e = refl
many_stops {X} starts one (suc turns) rest e = ap (λ (b : Bool). cond {A = Result (List X × List Terminal) ℕ} b (one rest >>= λ x. many_at starts one turns x.1 >>= λ xs. Ok (x.0 ∷ xs.0, xs.1)) (Ok ([], rest))) e

many_goes_on : {X : Type 0} (starts : List Terminal → Bool) (one : List Terminal → Result (X × List Terminal) ℕ) (turns : ℕ) (ts : List Terminal) → starts ts ≡ true → many_at starts one (suc turns) ts ≡ (one ts >>= λ x. many_at starts one turns x.1 >>= λ xs. listed (x.0 ∷ xs.0) xs.1)
unfolding many_at
many_goes_on {X} starts one turns ts e = ap (λ (b : Bool). cond {A = Result (List X × List Terminal) ℕ} b (one ts >>= λ x. many_at starts one turns x.1 >>= λ xs. Ok (x.0 ∷ xs.0, xs.1)) (Ok ([], ts))) e

next_again : {X T : Type 0} (kind : Repeated X T) (starts : List Terminal → Bool) (one : List Terminal → Result (X × List Terminal) ℕ) (rest : List Terminal) (r : ReadAgain kind starts one rest) (t : T) (ts : List T) (turns : ℕ) → kind.Fits t
    → many_at starts one turns (kind.all_text ts ++ rest) ≡ listed (map kind.view ts) rest
    → many_at starts one (suc turns) (kind.text t ++ (kind.all_text ts ++ rest)) ≡ listed (kind.view t ∷ map kind.view ts) rest
next_again {X} kind starts one rest r t ts turns fits others =
    many_goes_on starts one turns (kind.text t ++ (kind.all_text ts ++ rest)) (r.begins t (kind.all_text ts ++ rest))
    ∙ ap (λ (y : Result (X × List Terminal) ℕ). y >>= λ x. many_at starts one turns x.1 >>= λ xs. listed (x.0 ∷ xs.0) xs.1) (r.again t ts fits)
    ∙ ap (λ (y : Result (List X × List Terminal) ℕ). y >>= λ xs. listed (kind.view t ∷ xs.0) xs.1) others

flat_cons : {X T : Type 0} (kind : Repeated X T) (starts : List Terminal → Bool) (one : List Terminal → Result (X × List Terminal) ℕ) (rest : List Terminal) (r : ReadAgain kind starts one rest) (t : T) (ts : List T) → kind.all_text (t ∷ ts) ++ rest ≡ kind.text t ++ (kind.all_text ts ++ rest)
flat_cons kind starts one rest r t ts = ap (λ (x : List Terminal). x ++ rest) (r.cons t ts) ∙ append_assoc (kind.text t) (kind.all_text ts) rest

turns_again : {X T : Type 0} (kind : Repeated X T) (starts : List Terminal → Bool) (one : List Terminal → Result (X × List Terminal) ℕ) (rest : List Terminal) (r : ReadAgain kind starts one rest) (ts : List T) (turns : ℕ) → All kind.Fits ts → length (kind.all_text ts ++ rest) ≤ turns
    → many_at starts one turns (kind.all_text ts ++ rest) ≡ listed (map kind.view ts) rest
turns_again kind starts one rest r [] turns fits le = ap (λ (x : List Terminal). many_at starts one turns (x ++ rest)) r.nil ∙ many_stops starts one turns rest r.ends
turns_again kind starts one rest r (t ∷ ts) zero fits le = absurd (omega (arith, le, ap (λ (x : List Terminal). length x) (flat_cons kind starts one rest r t ts), r.longer t (kind.all_text ts ++ rest)))
turns_again kind starts one rest r (t ∷ ts) (suc turns) fits le =
    ap (λ (x : List Terminal). many_at starts one (suc turns) x) (flat_cons kind starts one rest r t ts)
    ∙ next_again kind starts one rest r t ts turns (All-head kind.Fits t ts fits)
    (turns_again kind starts one rest r ts turns (All-tail kind.Fits t ts fits) (omega (arith, le, ap (λ (x : List Terminal). length x) (flat_cons kind starts one rest r t ts), r.longer t (kind.all_text ts ++ rest))))

pub many_again : {X T : Type 0} (kind : Repeated X T) (starts : List Terminal → Bool) (one : List Terminal → Result (X × List Terminal) ℕ) (rest : List Terminal) (r : ReadAgain kind starts one rest) (ts : List T) → All kind.Fits ts
    → many_at starts one (length (kind.all_text ts ++ rest)) (kind.all_text ts ++ rest) ≡ listed (map kind.view ts) rest
many_again kind starts one rest r ts fits = turns_again kind starts one rest r ts (length (kind.all_text ts ++ rest)) fits (omega arith)

-- ---- one turn of a loop that reads a list

front_more : {X : Type 0} (front : List X) (x : X) (r : Result (List X × List Terminal) ℕ) → with_front front (r >>= λ xs. Ok (x ∷ xs.0, xs.1)) ≡ with_front (front ++ x ∷ []) r
front_more front x (Ok xs) = ap (λ ys. Ok (ys, xs.1)) (sym (append_assoc front (x ∷ []) xs.0))
front_more front x (Err n) = refl

open_by : {X : Type 0} (starts : List Terminal → Bool) (one : List Terminal → Result (X × List Terminal) ℕ) (front : List X) (turns : ℕ) (r : Result (X × List Terminal) ℕ)
    → with_front front (r >>= λ x. many_at starts one turns x.1 >>= λ xs. Ok (x.0 ∷ xs.0, xs.1)) ≡ (r >>= λ x. with_front (front ++ x.0 ∷ []) (many_at starts one turns x.1))
open_by starts one front turns (Ok x) = front_more front x.0 (many_at starts one turns x.1)
open_by starts one front turns (Err n) = refl

open_if : {X : Type 0} (starts : List Terminal → Bool) (one : List Terminal → Result (X × List Terminal) ℕ) (front : List X) (turns : ℕ) (ts : List Terminal) (b : Bool)
    → with_front front (cond b (one ts >>= λ x. many_at starts one turns x.1 >>= λ xs. Ok (x.0 ∷ xs.0, xs.1)) (Ok ([], ts))) ≡ cond b (one ts >>= λ x. with_front (front ++ x.0 ∷ []) (many_at starts one turns x.1)) (Ok (front, ts))
open_if starts one front turns ts true = open_by starts one front turns (one ts)
open_if starts one front turns ts false = ap (λ ys. Ok (ys, ts)) (append-nil front)

pub many_open : {X : Type 0} (starts : List Terminal → Bool) (one : List Terminal → Result (X × List Terminal) ℕ) (front : List X) (n len : ℕ) (ts : List Terminal) → n < len
    → with_front front (many_at starts one (len - n) ts) ≡ cond (starts ts) (one ts >>= λ x. with_front (front ++ x.0 ∷ []) (many_at starts one (len - (n + 1)) x.1)) (Ok (front, ts))
unfolding many_at
many_open starts one front n len ts lt = ap (λ t. with_front front (many_at starts one t ts)) (let e : len - n ≡ suc (len - (n + 1)) = omega (arith, lt) in e) ∙ open_if starts one front (len - (n + 1)) ts (starts ts)

pub many_ended : {X : Type 0} (starts : List Terminal → Bool) (one : List Terminal → Result (X × List Terminal) ℕ) (front : List X) (n len : ℕ) (ts : List Terminal) → len ≤ n
    → with_front front (many_at starts one (len - n) ts) ≡ Ok (front, ts)
unfolding many_at
many_ended starts one front n len ts le = ap (λ t. with_front front (many_at starts one t ts)) (let e : len - n ≡ zero = omega (arith, le) in e) ∙ ap (λ ys. Ok (ys, ts)) (append-nil front)

many_by : {X : Type 0} (starts : List Terminal → Bool) (one : List Terminal → Result (X × List Terminal) ℕ) (front : List X) (n len : ℕ) (ts : List Terminal) (b : Bool) → n < len → starts ts ≡ b
    → with_front front (many_at starts one (len - n) ts) ≡ cond b (one ts >>= λ x. with_front (front ++ x.0 ∷ []) (many_at starts one (len - (n + 1)) x.1)) (Ok (front, ts))
many_by {X} starts one front n len ts b lt e =
    many_open starts one front n len ts lt
    ∙ ap (λ (b : Bool). cond {A = Result (List X × List Terminal) ℕ} b (one ts >>= λ x. with_front (front ++ x.0 ∷ []) (many_at starts one (len - (n + 1)) x.1)) (Ok (front, ts))) e

-- where no more begins, what was found is all
pub many_stopped : {X : Type 0} (starts : List Terminal → Bool) (one : List Terminal → Result (X × List Terminal) ℕ) (front : List X) (n len : ℕ) (ts : List Terminal) → n < len → starts ts ≡ false
    → with_front front (many_at starts one (len - n) ts) ≡ Ok (front, ts)
many_stopped starts one front n len ts lt e = many_by starts one front n len ts false lt e

-- the fault of one more is the fault of all
pub many_failed : {X : Type 0} (starts : List Terminal → Bool) (one : List Terminal → Result (X × List Terminal) ℕ) (front : List X) (n len : ℕ) (ts : List Terminal) (fault : ReadFault) → n < len → starts ts ≡ true → Fails fault (one ts)
    → Fails fault (with_front front (many_at starts one (len - n) ts))
many_failed {X} starts one front n len ts fault lt e fails =
    subst (λ (r : Result (List X × List Terminal) ℕ). Fails fault r) (sym (many_by starts one front n len ts true lt e))
    (fails_first fault (one ts) (λ x. with_front (front ++ x.0 ∷ []) (many_at starts one (len - (n + 1)) x.1)) fails)

-- one more is found
pub many_more : {X : Type 0} (starts : List Terminal → Bool) (one : List Terminal → Result (X × List Terminal) ℕ) (front : List X) (n len : ℕ) (ts after : List Terminal) (x : X) → n < len → starts ts ≡ true → one ts ≡ Ok (x, after)
    → with_front (front ++ x ∷ []) (many_at starts one (len - (n + 1)) after) ≡ with_front front (many_at starts one (len - n) ts)
many_more {X} starts one front n len ts after x lt e read =
    sym (many_by starts one front n len ts true lt e
    ∙ ap (λ (r : Result (X × List Terminal) ℕ). r >>= λ x. with_front (front ++ x.0 ∷ []) (many_at starts one (len - (n + 1)) x.1)) read)
