-- The place of a fault, in both directions.
use Rattle.std.proofs.Common.{◌≡◌, ℕ, List, [], ◌∷◌, ◌++◌, length, Option, Some, None, Result, Ok, Err, refl, sym, ap, subst, ◌∙◌, append_assoc}
use Rattle.std.proofs.lemmas.List.{append-nil}
use Rattle.bloom_forms.specs.Form.{Form}
use Rattle.bloom_parse.specs.declared.lexing.terminal.Terminal.{Terminal}
use Rattle.bloom_parse.specs.Code.ReadingModules.{module_at}
use Rattle.bloom_parse.specs.Places.{IsModuleText, NoneGoesOn, IsFault}
use Rattle.bloom_parse.specs.declared.reading.read_fault.ReadFault.TheVariants as faults
use Rattle.bloom_parse.specs.Code.ReadPlaces.{IsPlace}
use Rattle.bloom_parse.proofs.Machine.Machine.{Sym, State, step, run, closing, closes}
use Rattle.bloom_parse.proofs.Grammar.ModuleCorrect.{whole, IsRead, ReadsModule, module_reads}
use Rattle.bloom_parse.proofs.Grammar.ModuleComplete.{text_again}

-- ---- where the machine stops, and in which state

abbrev Dead : ℕ → List Sym → List Terminal → Type 0
Dead k st [] = (left : ℕ) → run k st [] ≡ Ok (left, []) → ⊥
Dead k st (t ∷ rest) = (more : List Terminal) (left : ℕ) → run k st (t ∷ more) ≡ Ok (left, []) → ⊥

record Stop (k : ℕ) (st : List Sym) (ts : List Terminal) (n : ℕ) : Type 0 where
  front : List Terminal
  behind : List Terminal
  left : ℕ
  state : List Sym
  parts : front ++ behind ≡ ts
  many : length behind ≡ n
  goes : (more : List Terminal) → run k st (front ++ more) ≡ run left state more
  dead : Dead left state behind

pub not_both : {A : Type 0} (r : Result A ℕ) (n : ℕ) (x : A) → r ≡ Err n → r ≡ Ok x → ⊥
not_both r n x e f = cc

err_is : (r : Result State ℕ) (m n : ℕ) → r ≡ Err m → r ≡ Err n → m ≡ n
err_is r m n e f = cc

stop_at : (k : ℕ) (st : List Sym) (t : Terminal) (ts : List Terminal) (n : ℕ) (o : Option State) → step k st t ≡ o
    → ((s : State) → run s.0 s.1 ts ≡ Err n → Stop s.0 s.1 ts n)
    → run k st (t ∷ ts) ≡ Err n → Stop k st (t ∷ ts) n
stop_at k st t ts n None e rec f =
    let now : (more : List Terminal) → run k st (t ∷ more) ≡ Err (length (t ∷ more)) = λ more. ap (λ (o : Option State). elim o as (λ s. Result State ℕ) [ None ↦ Err (length (t ∷ more)) | Some s ↦ run s.0 s.1 more ]) e in
    record {
      front = [];
      behind = t ∷ ts;
      left = k;
      state = st;
      parts = refl;
      many = err_is (run k st (t ∷ ts)) (length (t ∷ ts)) n (now ts) f;
      goes = λ more. refl;
      dead = λ more left g. not_both (run k st (t ∷ more)) (length (t ∷ more)) (left, []) (now more) g;
    }
stop_at k st t ts n (Some s) e rec f =
    let now : (more : List Terminal) → run k st (t ∷ more) ≡ run s.0 s.1 more = λ more. ap (λ (o : Option State). elim o as (λ s. Result State ℕ) [ None ↦ Err (length (t ∷ more)) | Some s ↦ run s.0 s.1 more ]) e in
    let r = rec s (sym (now ts) ∙ f) in
    record { front = t ∷ r.front; behind = r.behind; left = r.left; state = r.state; parts = ap (λ (x : List Terminal). t ∷ x) r.parts; many = r.many; goes = λ more. now (r.front ++ more) ∙ r.goes more; dead = r.dead }

stops : (ts : List Terminal) (k : ℕ) (st : List Sym) (n : ℕ) → run k st ts ≡ Err n → Stop k st ts n
stops [] k [] n e = absurd cc
stops [] k (s ∷ st) n e = record { front = []; behind = []; left = k; state = s ∷ st; parts = refl; many = err_is (run k (s ∷ st) []) 0 n refl e; goes = λ more. refl; dead = λ left f. not_both (run k (s ∷ st) []) 0 (left, []) refl f }
stops (t ∷ ts) k st n e = stop_at k st t ts n (step k st t) refl (λ s f. stops ts s.0 s.1 n f) e

-- ---- whole texts

-- the machine takes each text
pub text_goes : (ts : List Terminal) (m : Form) → IsModuleText ts m → (left : ℕ) × (run 0 whole ts ≡ Ok (left, []))
text_goes ts m h = let r : IsRead ts m = subst (ReadsModule ts) (text_again ts m h) (module_reads ts) in (r.left, r.runs)

accepted_as : (ts : List Terminal) (left : ℕ) (r : Result Form ℕ) → ReadsModule ts r → run 0 whole ts ≡ Ok (left, []) → (m : Form) × IsModuleText ts m
accepted_as ts left (Ok m) h e = (m, h.stands)
accepted_as ts left (Err n) h e = absurd (not_both (run 0 whole ts) n (left, []) h e)

-- the machine takes just the texts
pub accepted : (ts : List Terminal) (left : ℕ) → run 0 whole ts ≡ Ok (left, []) → (m : Form) × IsModuleText ts m
accepted ts left e = accepted_as ts left (module_at ts) (module_reads ts) e

none_goes_on : (front behind : List Terminal) (left : ℕ) (state : List Sym) → ((more : List Terminal) → run 0 whole (front ++ more) ≡ run left state more) → Dead left state behind → NoneGoesOn front behind
none_goes_on front [] left state goes dead = λ m text.
    let g = text_goes front m text in
    dead g.0 (sym (goes []) ∙ ap (λ (t : List Terminal). run 0 whole t) (append-nil front) ∙ g.1)
none_goes_on front (t ∷ rest) left state goes dead = λ b.
    let g = text_goes ((front ++ t ∷ []) ++ b.0) b.1 b.2 in
    dead b.0 g.0 (sym (goes (t ∷ b.0)) ∙ ap (λ (x : List Terminal). run 0 whole x) (sym (append_assoc front (t ∷ []) b.0)) ∙ g.1)

-- a stop of the machine is the first fault
stop_is_fault : (ts : List Terminal) (n : ℕ) → run 0 whole ts ≡ Err n → IsFault ts n
stop_is_fault ts n e =
    let s = stops ts 0 whole n e in
    let c = closes s.state s.left in
    let b = accepted (s.front ++ closing s.state) c.0 (s.goes (closing s.state) ∙ c.1) in
    record { front = s.front; behind = s.behind; parts = s.parts; many = s.many; good = (closing s.state, b.0, b.1); bad = none_goes_on s.front s.behind s.left s.state s.goes s.dead }

pub read_is_text : (ts : List Terminal) (m : Form) → module_at ts ≡ Ok m → IsModuleText ts m
read_is_text ts m e = let r : IsRead ts m = subst (ReadsModule ts) e (module_reads ts) in r.stands

pub fault_is_first : (ts : List Terminal) (n : ℕ) → module_at ts ≡ Err n → IsFault ts n
fault_is_first ts n e = stop_is_fault ts n (subst (ReadsModule ts) e (module_reads ts))

pub place_is_first : (ts : List Terminal) (n : ℕ) → module_at ts ≡ Err n → IsPlace ts (faults.Left n)
place_is_first ts n e = fault_is_first ts n e
