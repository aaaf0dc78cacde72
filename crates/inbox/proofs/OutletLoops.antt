-- Emission one by one: an outlet more.
use Rattle.std.proofs.Common.{◌≡◌, ◌<◌, ◌+◌, ℕ, List, length, take, drop, set, get_or, refl, ap, ◌∙◌, sym, subst, arith}
use Rattle.std.specs.List.{All}
use Rattle.std.proofs.lemmas.List.{length-set, take-append-drop}
use Rattle.blz_value.specs.Members.{Has}
use Rattle.blz_value.specs.Record.{Row}
use Rattle.blz_value.proofs.Membership.{Has-append_right, All-of_member}
use Rattle.blz_value.proofs.Lists.{rest_is}
use Rattle.bloom_eval.specs.Puts.{puts_in, ArePutFrom}
use Rattle.bloom_eval.specs.declared.puts.Put.{Put}
use Rattle.bloom_forms.specs.Step.{Sets, set_at}
use Rattle.topo_forms.specs.Messages.{Message}
use Rattle.inbox.specs.Emission.{with_rows, with_seals}
use Rattle.inbox.specs.Growth.{Continues}
use Rattle.messages.specs.Lists.{message_limit, Listed, read_lists, list_at, total}
use Rattle.inbox.specs.Outlets.{emit_outlets, seal_outlets}
use Rattle.inbox.specs.declared.outlets.Outlet.{Outlet}
use Rattle.messages.proofs.ListsLemmas.{length-read_lists}
use Rattle.inbox.proofs.EntriesOn.{puts_on}
use Rattle.inbox.proofs.OutletsLemmas.{total-emitted, total-sealed}

-- ---- outlet by outlet

-- one outlet more
pub emitted_more : (outlets : List Outlet) (index : ℕ) (o : Outlet) (outs : Sets) (lists next last : List (List Message)) → index < length outlets → o ≡ get_or outlets index o
    → emit_outlets (drop index outlets) outs lists ≡ last → next ≡ set lists o.place (with_rows (list_at lists o.place) (set_at outs o.output))
    → emit_outlets (drop (index + 1) outlets) outs next ≡ last
emitted_more outlets index o outs lists next last within at before is =
    ap (emit_outlets (drop (index + 1) outlets) outs) is
    ∙ sym (ap (λ l. emit_outlets l outs lists) (rest_is outlets index o within at))
    ∙ before

-- an outlet more of what is put out, read in a pool that went on
pub put_more : (outlets : List Outlet) (index : ℕ) (o : Outlet) (puts : List Put) (records : List Row) (now : Listed) (next last : List (List Message)) → index < length outlets → o ≡ get_or outlets index o
    → Continues records now.records → ArePutFrom records puts
    → emit_outlets (drop index outlets) (puts_in records puts) (read_lists now) ≡ last
    → next ≡ set (read_lists now) o.place (with_rows (list_at (read_lists now) o.place) (set_at (puts_in now.records puts) o.output))
    → emit_outlets (drop (index + 1) outlets) (puts_in records puts) next ≡ last
put_more outlets index o puts records now next last within at on given before is =
    emitted_more outlets index o (puts_in records puts) (read_lists now) next last within at before
    (is ∙ ap (λ outs. set (read_lists now) o.place (with_rows (list_at (read_lists now) o.place) (set_at outs o.output))) (puts_on records now.records puts on given))

pub emitted_over : (outlets : List Outlet) (index : ℕ) (o : Outlet) (outs : Sets) (lists last : List (List Message)) → index < length outlets → o ≡ get_or outlets index o
    → ((p : Outlet) → Has p outlets → p.place < length lists)
    → emit_outlets (drop index outlets) outs lists ≡ last → message_limit < total (set lists o.place (with_rows (list_at lists o.place) (set_at outs o.output)))
    → message_limit < total last
emitted_over outlets index o outs lists last within at places before over =
    let next : List (List Message) = set lists o.place (with_rows (list_at lists o.place) (set_at outs o.output)) in
    let is_last : emit_outlets (drop (index + 1) outlets) outs next ≡ last = emitted_more outlets index o outs lists next last within at before refl in
    omega (arith, over, ap total is_last, total-emitted (drop (index + 1) outlets) outs next (λ p h. subst (λ n. p.place < n) (sym (length-set lists o.place (with_rows (list_at lists o.place) (set_at outs o.output)))) (places p (Has-drop p outlets (index + 1) h))))
  where
    Has-drop : (p : Outlet) (xs : List Outlet) (n : ℕ) → Has p (drop n xs) → Has p xs
    Has-drop p xs n h = subst (λ l. Has p l) (take-append-drop n xs) (Has-append_right p (take n xs) (drop n xs) h)

pub put_over : (outlets : List Outlet) (index : ℕ) (o : Outlet) (puts : List Put) (records : List Row) (now : Listed) (last : List (List Message)) → index < length outlets → o ≡ get_or outlets index o
    → ((p : Outlet) → Has p outlets → p.place < length (read_lists now)) → Continues records now.records → ArePutFrom records puts
    → emit_outlets (drop index outlets) (puts_in records puts) (read_lists now) ≡ last
    → message_limit < total (set (read_lists now) o.place (with_rows (list_at (read_lists now) o.place) (set_at (puts_in now.records puts) o.output)))
    → message_limit < total last
put_over outlets index o puts records now last within at places on given before over =
    emitted_over outlets index o (puts_in records puts) (read_lists now) last within at places before
    (subst (λ outs. message_limit < total (set (read_lists now) o.place (with_rows (list_at (read_lists now) o.place) (set_at outs o.output)))) (puts_on records now.records puts on given) over)

pub sealed_more : (outlets : List Outlet) (index : ℕ) (o : Outlet) (keys : List Row) (lists next last : List (List Message)) → index < length outlets → o ≡ get_or outlets index o
    → seal_outlets (drop index outlets) keys lists ≡ last → next ≡ set lists o.place (with_seals o.key (list_at lists o.place) keys)
    → seal_outlets (drop (index + 1) outlets) keys next ≡ last
sealed_more outlets index o keys lists next last within at before is =
    ap (seal_outlets (drop (index + 1) outlets) keys) is
    ∙ sym (ap (λ l. seal_outlets l keys lists) (rest_is outlets index o within at))
    ∙ before

pub sealed_over : (outlets : List Outlet) (index : ℕ) (o : Outlet) (keys : List Row) (lists last : List (List Message)) → index < length outlets → o ≡ get_or outlets index o
    → ((p : Outlet) → Has p outlets → p.place < length lists)
    → seal_outlets (drop index outlets) keys lists ≡ last → message_limit < total (set lists o.place (with_seals o.key (list_at lists o.place) keys))
    → message_limit < total last
sealed_over outlets index o keys lists last within at places before over =
    let next : List (List Message) = set lists o.place (with_seals o.key (list_at lists o.place) keys) in
    let is_last : seal_outlets (drop (index + 1) outlets) keys next ≡ last = sealed_more outlets index o keys lists next last within at before refl in
    omega (arith, over, ap total is_last, total-sealed (drop (index + 1) outlets) keys next (λ p h. subst (λ n. p.place < n) (sym (length-set lists o.place (with_seals o.key (list_at lists o.place) keys))) (places p (Has-drop p outlets (index + 1) h))))
  where
    Has-drop : (p : Outlet) (xs : List Outlet) (n : ℕ) → Has p (drop n xs) → Has p xs
    Has-drop p xs n h = subst (λ l. Has p l) (take-append-drop n xs) (Has-append_right p (take n xs) (drop n xs) h)

-- the places of all outlets, from those by their numbers
pub all_places : (outlets : List Outlet) (count : ℕ) → All (λ o. o.place < count) outlets → (o : Outlet) → Has o outlets → o.place < count
all_places outlets count all o h = All-of_member (λ (p : Outlet). p.place < count) outlets o all h

-- an outlet by its number
pub outlet_within : (outlets : List Outlet) (i : ℕ) (o : Outlet) (old now : Listed) → All (λ p. p.place < length old.lists) outlets → i < length outlets → o ≡ get_or outlets i o → length now.lists ≡ length old.lists → o.place < length now.lists
outlet_within outlets i o old now all within at same = subst (λ n. o.place < n) (sym same) (subst (λ (p : Outlet). p.place < length old.lists) (sym at) (all i o within))

pub outlets_within : (outlets : List Outlet) (old now : Listed) → All (λ p. p.place < length old.lists) outlets → length now.lists ≡ length old.lists → (o : Outlet) → Has o outlets → o.place < length (read_lists now)
outlets_within outlets old now all same o h = subst (λ n. o.place < n) (sym (length-read_lists now ∙ same)) (all_places outlets (length old.lists) all o h)
