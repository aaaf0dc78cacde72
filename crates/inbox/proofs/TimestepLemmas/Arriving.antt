-- The timestep of some entries has exactly these records at their ports.
use Rattle.std.proofs.Common.{◌≡◌, refl, ap, sym, subst, ◌∙◌, ℕ, ◌+◌, ◌<◌, ◌≤◌, ◌==◌, List, [], ◌∷◌, length, map, filter, arith, inl, inr}
use Rattle.std.proofs.lemmas.Bool.{cases_lt, eqb-true, eq-eqb}
use Rattle.std.proofs.lemmas.List.{get_or_past}
use Rattle.std.proofs.lemmas.List.FromFn.{get_or-map-range_with_len, length-map-range_with_len}
use Rattle.blz_value.specs.Members.{Has}
use Rattle.blz_value.specs.Record.{Row}
use Rattle.blz_value.specs.Sets.{set_of}
use Rattle.blz_value.proofs.Membership.{Has-map, Has-from_map, Has-filter, Has-from_filter}
use Rattle.blz_value.proofs.SetLaws.{Has-set_of, Has-from_set_of}
use Rattle.bloom_forms.specs.Step.{set_at}
use Rattle.messages.specs.Messages.{Entry}
use Rattle.bloom_eval.specs.Arrivals.{timestep_of}
use Rattle.inbox.specs.Timesteps.{one_timestep, one_by_one, Stands}

-- the records at a port
abbrev pub at_port : List Entry → (port : ℕ) → List Row
at_port entries port = set_of (map (λ entry. entry.1) (filter (λ entry. entry.0 == port) entries))

pub set_at-arrivals : (ports : ℕ) (entries : List Entry) (port : ℕ) → port < ports → set_at (timestep_of ports entries) port ≡ at_port entries port
set_at-arrivals ports entries port within = get_or-map-range_with_len (at_port entries) 0 ports port port [] within (let e : 0 + port ≡ port = omega arith in e)

entry_same : (entry : Entry) (port : ℕ) (r : Row) → entry.0 ≡ port → entry.1 ≡ r → entry ≡ (port, r)
entry_same entry port r p q = let f : ℕ → Row → Entry = λ n y. (n, y) in ap (λ n. f n entry.1) p ∙ ap (λ y. f port y) q

pub Has-arrivals : (ports : ℕ) (entries : List Entry) (port : ℕ) (r : Row) → port < ports → Has (port, r) entries → Has r (set_at (timestep_of ports entries) port)
Has-arrivals ports entries port r within h =
    let entry : Entry = (port, r) in
    subst (λ rows. Has r rows) (sym (set_at-arrivals ports entries port within))
    (Has-set_of r (map (λ e. e.1) (filter (λ e. e.0 == port) entries))
    (Has-map (λ e. e.1) entry (filter (λ e. e.0 == port) entries) (Has-filter (λ e. e.0 == port) entry entries h (eq-eqb port port refl))))

pub Has-from_arrivals : (ports : ℕ) (entries : List Entry) (port : ℕ) (r : Row) → Has r (set_at (timestep_of ports entries) port) → (port < ports) × Has (port, r) entries
Has-from_arrivals ports entries port r h = elim (cases_lt port ports) [
  | inl within ↦
      let at = Has-from_set_of r (map (λ e. e.1) (filter (λ e. e.0 == port) entries)) (subst (λ rows. Has r rows) (set_at-arrivals ports entries port within) h) in
      let found = Has-from_map (λ e. e.1) r (filter (λ e. e.0 == port) entries) at in
      let kept = Has-from_filter (λ e. e.0 == port) found.0 entries found.1 in
      (within, subst (λ e. Has e entries) (entry_same found.0 port r (eqb-true found.0.0 port kept.1) found.2) kept.0)
  | inr past ↦
      let none : length (timestep_of ports entries) ≤ port = subst (λ n. n ≤ port) (sym (length-map-range_with_len (at_port entries) 0 ports)) past in
      absurd (subst (λ rows. Has r rows) (get_or_past (timestep_of ports entries) port [] none) h)
]

-- ---- an entry stands in a timestep

pub Stands-together : (ports : ℕ) (entries : List Entry) (entry : Entry) → entry.0 < ports → Has entry entries → Stands (one_timestep ports entries) entry
Stands-together ports [] entry within h = absurd h
Stands-together ports (e ∷ entries) entry within h = record { now = timestep_of ports (e ∷ entries); among = inl refl; there = Has-arrivals ports (e ∷ entries) entry.0 entry.1 within h }

pub Stands-from_together : (ports : ℕ) (entries : List Entry) (entry : Entry) → Stands (one_timestep ports entries) entry → Has entry entries
Stands-from_together ports [] entry s = absurd s.among
Stands-from_together ports (e ∷ entries) entry s = elim s.among [
  | inl same ↦ (Has-from_arrivals ports (e ∷ entries) entry.0 entry.1 (subst (λ now. Has entry.1 (set_at now entry.0)) (sym same) s.there)).1
  | inr none ↦ absurd none
]

pub Stands-one_by_one : (ports : ℕ) (entries : List Entry) (entry : Entry) → entry.0 < ports → Has entry entries → Stands (one_by_one ports entries) entry
Stands-one_by_one ports entries entry within h = record {
  now = timestep_of ports (entry ∷ []);
  among = Has-map (λ e. timestep_of ports (e ∷ [])) entry entries h;
  there = Has-arrivals ports (entry ∷ []) entry.0 entry.1 within (inl refl);
}

pub Stands-from_one_by_one : (ports : ℕ) (entries : List Entry) (entry : Entry) → Stands (one_by_one ports entries) entry → Has entry entries
Stands-from_one_by_one ports entries entry s =
    let found = Has-from_map (λ e. timestep_of ports (e ∷ [])) s.now entries s.among in
    let alone = (Has-from_arrivals ports (found.0 ∷ []) entry.0 entry.1 (subst (λ now. Has entry.1 (set_at now entry.0)) (sym found.2) s.there)).1 in
    elim alone [ inl same ↦ subst (λ e. Has e entries) same found.1 | inr none ↦ absurd none ]
