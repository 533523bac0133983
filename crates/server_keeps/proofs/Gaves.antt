-- Give-backs that change nothing: those of a fileset that isn't here, and those whose number was reached.
use Rattle.std.proofs.Common.{◌≡◌, ◌∙◌, ◌≤◌, ◌<◌, ℕ, zero, suc, ◌==◌, nat_lt, Bool, true, false, List, [], ◌∷◌}
use Rattle.std.proofs.Common.{Option, Some, None, refl, sym, ap, subst, arith}
use Rattle.std.proofs.lemmas.Bool.{eq-eqb, eqb-true, false≢true}
use Rattle.std.proofs.lemmas.Grind.{common_steps}
use Rattle.std.specs.Option.{option_map, option_map_or}
use Rattle.std.specs.Prelude.{if◌then◌else◌, option_and_then, slice_get, unwrap_or}
use Rattle.base_types.specs.Lists.{changed_at}
use Rattle.base_types.specs.declared.ids.Fid.{Fid}
use Rattle.base_types.specs.declared.ids.FilesetId.{FilesetId}
use Rattle.base_types.specs.declared.ids.HostId.{HostId}
use Rattle.base_types.specs.declared.limits.TheConstants.{HOSTS_MAX}
use Rattle.tree_calls.specs.declared.part.Piece.{Piece}
use Rattle.tree_calls.specs.declared.reply.Refusal.TheVariants.{NoFileset}
use Rattle.tree_calls.specs.declared.reply.Reply.TheVariants.{Ok as Accepted, Refused}
use Rattle.tree_calls.specs.declared.ship.Record.{Record}
use Rattle.store_acts.specs.Acts.{act_done}
use Rattle.store_acts.specs.Sound.{KeepsLimits}
use Rattle.store_acts.specs.declared.act.Act.TheVariants.{Give}
use Rattle.store_laws.proofs.Slots.{found_beside, found_changed, held_passes}
use Rattle.store_state.specs.Giving.{held_given}
use Rattle.store_state.specs.Outcomes.{applied_before, give_applied, not_fresh, fresh, unless_before}
use Rattle.store_state.specs.State.{held_at, held_noted, held_so, is_of, is_server, no_record, record_of, records_of}
use Rattle.store_state.specs.State.{slot_so, unless_gone, with_held, with_record}
use Rattle.store_state.specs.declared.done.Done.{Done}
use Rattle.store_state.specs.declared.state.Holding.{Holding}
use Rattle.store_state.specs.declared.state.StoreState.{StoreState}
use Rattle.server_keeps.proofs.Repeating.{give_is, given_again, given_by, given_first, given_place, given_state}
use Rattle.server_keeps.proofs.Repeating.{records_noted}

-- the number of the last give-back of a host that was applied to a fileset
abbrev pub gave : StoreState → FilesetId → HostId → Option ℕ
gave state id host = option_map (λ (rs : List Record). (record_of rs host).give) (records_of state id)

-- a number that was reached, or is of a fileset that isn't here
abbrev pub IsStale : StoreState → FilesetId → HostId → ℕ → Type 0
IsStale state id host number = (n : ℕ) → gave state id host ≡ Some n → number ≤ n

-- # Stale is what was applied before

not_less : (a b : ℕ) → nat_lt a b ≡ false → b ≤ a
not_less a b e = grind (arith, common_steps, e)

less_not : (a b : ℕ) → b ≤ a → nat_lt a b ≡ false
less_not a b l = grind (arith, common_steps, l)

is_less : (a b : ℕ) → nat_lt a b ≡ true → a < b
is_less a b e = grind (arith, common_steps, e)

stale_by : (state : StoreState) (id : FilesetId) (host : HostId) (number : ℕ) (done : Done)
    → applied_before state id host number ≡ Some done → IsStale state id host number
stale_by state id host number done e = by (records_of state id) refl e
  where
    kept : (rs : List Record) (b : Bool) → nat_lt (record_of rs host).give number ≡ b
        → (if b then None else Some (not_fresh Accepted)) ≡ Some done → (n : ℕ)
        → Some (record_of rs host).give ≡ Some n → number ≤ n
    kept rs true t k n same = absurd (cc)
    kept rs false t k n same =
        let l = not_less (record_of rs host).give number t in
        let is : (record_of rs host).give ≡ n = cc in omega (arith, l, is)

    by : (o : Option (List Record)) → records_of state id ≡ o → given_by host number o ≡ Some done → (n : ℕ)
        → option_map (λ (rs : List Record). (record_of rs host).give) o ≡ Some n → number ≤ n
    by None f k n same = absurd (cc)
    by (Some rs) f k n same = kept rs (nat_lt (record_of rs host).give number) refl k n same

applied_so : (state : StoreState) (id : FilesetId) (host : HostId) (number : ℕ) → IsStale state id host number
    → (done : Done) × (applied_before state id host number ≡ Some done)
applied_so state id host number stale = by (records_of state id) refl
  where
    by : (o : Option (List Record)) → records_of state id ≡ o
        → (done : Done) × (given_by host number o ≡ Some done)
    by None f = (not_fresh (Refused NoFileset), refl)
    by (Some rs) f =
        let l = stale (record_of rs host).give (ap (option_map (λ (r : List Record). (record_of r host).give)) f) in (
          not_fresh Accepted,
          ap (λ (b : Bool). if b then None else Some (not_fresh Accepted))
              (less_not (record_of rs host).give number l),
        )

-- # What a give-back leaves of numbers

-- a number that is kept afterwards was kept before, and isn't less
abbrev pub IsNoLess : Option ℕ → Option ℕ → Type 0
IsNoLess old new = (n : ℕ) → new ≡ Some n → (m : ℕ) × (old ≡ Some m) × (m ≤ n)

no_less_same : (old new : Option ℕ) → new ≡ old → IsNoLess old new
no_less_same old new e n is = (n, sym e ∙ is, omega arith)

grown_at : (g : Record → Record) (rs : List Record) (at i : ℕ)
    → (unwrap_or (slice_get rs at) no_record).give ≤ (g (unwrap_or (slice_get rs at) no_record)).give
    → (unwrap_or (slice_get rs i) no_record).give ≤ (unwrap_or (slice_get (changed_at rs at g) i) no_record).give
grown_at g [] at i l = omega arith
grown_at g (r ∷ rs) zero zero l = l
grown_at g (r ∷ rs) zero (suc i) l = omega arith
grown_at g (r ∷ rs) (suc at) zero l = omega arith
grown_at g (r ∷ rs) (suc at) (suc i) l = grown_at g rs at i l

-- another fileset's holding
held_elsewhere : (slots : List (Option Holding)) (id other : FilesetId) (host : HostId) (g : Record → Record)
    → (id.0 == other.0) ≡ false
    → held_so (is_of id) (changed_at slots (slot_so (is_of other) slots) (option_map (held_noted host g)))
    ≡ held_so (is_of id) slots
held_elsewhere slots id other host g apart =
    by (slot_so (is_of id) slots == slot_so (is_of other) slots) refl
  where
    both : (a : Holding) → is_of id a ≡ true → is_of other a ≡ true → ⊥
    both a p q =
        let same : id.0 ≡ other.0 = sym (eqb-true a.fileset.id.0 id.0 p) ∙ eqb-true a.fileset.id.0 other.0 q in
        false≢true (sym apart ∙ subst (λ n. (id.0 == n) ≡ true) same (eq-eqb id.0 id.0 refl))

    there : (o : Option Holding) → held_so (is_of id) slots ≡ o → held_so (is_of other) slots ≡ o
        → option_map (held_noted host g) o ≡ o
    there None e f = refl
    there (Some a) e f = absurd (both a (held_passes (is_of id) slots a e) (held_passes (is_of other) slots a f))

    by : (b : Bool) → (slot_so (is_of id) slots == slot_so (is_of other) slots) ≡ b
        → held_so (is_of id) (changed_at slots (slot_so (is_of other) slots) (option_map (held_noted host g)))
        ≡ held_so (is_of id) slots
    by true e =
        let at : slot_so (is_of id) slots ≡ slot_so (is_of other) slots =
        eqb-true (slot_so (is_of id) slots) (slot_so (is_of other) slots) e in
        ap (λ n. held_so (is_of id) (changed_at slots n (option_map (held_noted host g)))) (sym at)
        ∙ found_changed (is_of id) (held_noted host g) (λ h. refl) slots
        ∙ there (held_so (is_of id) slots) refl (ap (held_at slots) (sym at))
    by false e =
        found_beside (is_of id) (held_noted host g) (λ h. refl) slots (slot_so (is_of other) slots)
        (λ same. false≢true (sym e ∙ subst (λ n. (slot_so (is_of id) slots == n) ≡ true) same
        (eq-eqb (slot_so (is_of id) slots) (slot_so (is_of id) slots) refl)))

noted_elsewhere : (state : StoreState) (id other : FilesetId) (host : HostId) (g : Record → Record)
    → (id.0 == other.0) ≡ false → records_of (with_record state other host g) id ≡ records_of state id
noted_elsewhere state id other host g apart = by (is_server other) refl (is_server id) refl
  where
    by : (b : Bool) → is_server other ≡ b → (a : Bool) → is_server id ≡ a
        → (if a then Some (if b then record state { records = changed_at state.records host.0 g }
        else with_held state (slot_so (is_of other) state.slots) (held_noted host g)).records
        else option_and_then unless_gone (held_so (is_of id)
        (if b then record state { records = changed_at state.records host.0 g }
        else with_held state (slot_so (is_of other) state.slots) (held_noted host g)).slots))
        ≡ (if a then Some state.records else option_and_then unless_gone (held_so (is_of id) state.slots))
    by true q true p =
        let a : id.0 ≡ 0 = eqb-true id.0 0 p in let b : other.0 ≡ 0 = eqb-true other.0 0 q in
        absurd (false≢true (sym apart ∙ subst (λ n. (n == other.0) ≡ true) (sym a)
        (subst (λ n. (0 == n) ≡ true) (sym b) refl)))
    by true q false p = refl
    by false q true p = refl
    by false q false p = ap (option_and_then unless_gone) (held_elsewhere state.slots id other host g apart)

noted_no_less : (state : StoreState) (other : FilesetId) (h : HostId) (g : Record → Record)
    → ((rs : List Record) → records_of state other ≡ Some rs → (record_of rs h).give ≤ (g (record_of rs h)).give)
    → (id : FilesetId) (host : HostId)
    → IsNoLess (gave state id host) (gave (with_record state other h g) id host)
noted_no_less state other h g grows id host = by (id.0 == other.0) refl
  where
    give_in : List Record → ℕ
    give_in rs = (record_of rs host).give

    here : (o : Option (List Record)) → records_of state other ≡ o
        → IsNoLess (option_map give_in o)
        (option_map give_in (option_map (λ (rs : List Record). changed_at rs h.0 g) o))
    here None e n is = absurd (cc)
    here (Some rs) e n is =
        let l = grown_at g rs h.0 host.0 (grows rs e) in
        let same : give_in (changed_at rs h.0 g) ≡ n = cc in
        (give_in rs, refl, omega (arith, l, same))

    by : (b : Bool) → (id.0 == other.0) ≡ b
        → IsNoLess (gave state id host) (gave (with_record state other h g) id host)
    by true e =
        let same : id ≡ other = ap (λ (k : ℕ). record { 0 = k }) (eqb-true id.0 other.0 e) in
        subst (λ (i : FilesetId). IsNoLess (gave state i host) (gave (with_record state other h g) i host)) (sym same)
        (subst (λ o. IsNoLess (gave state other host) (option_map give_in o)) (sym (records_noted state other h g))
        (here (records_of state other) refl))
    by false e =
        no_less_same _ _ (ap (option_map give_in) (noted_elsewhere state id other h g e))

-- numbers that were reached stay so
pub give_no_less : (state : StoreState) (h : HostId) (number : ℕ) (fid : Fid) (pieces : List Piece) (given : Option ℕ)
    (limits : KeepsLimits state) (low : h.0 ≤ HOSTS_MAX) (id : FilesetId) (host : HostId)
    → IsNoLess (gave state id host) (gave (act_done state (Give h number fid pieces given)).state id host)
give_no_less state h number fid pieces given limits low id host =
    by (applied_before state fid.fileset h number) refl
  where
    below : (rs : List Record) (b : Bool) → nat_lt (record_of rs h).give number ≡ b
        → (if b then None else Some (not_fresh Accepted)) ≡ None → (record_of rs h).give ≤ number
    below rs true t k = let l = is_less (record_of rs h).give number t in omega (arith, l)
    below rs false t k = absurd (cc)

    by : (o : Option Done) → applied_before state fid.fileset h number ≡ o
        → IsNoLess (gave state id host) (gave (act_done state (Give h number fid pieces given)).state id host)
    by (Some done) e =
        no_less_same _ _ (ap (λ r. gave r.state id host)
        (give_is state h number fid pieces given limits low state (Some done) e))
    by None e =
        let at = slot_so (is_of fid.fileset) state.slots in
        let middle = with_held state at (held_given fid pieces given) in
        let same = given_place state at fid pieces given in
        subst (λ r. IsNoLess (gave state id host) (gave r.state id host))
        (sym (give_is state h number fid pieces given limits low state None e))
        (subst (λ o. IsNoLess o (gave (with_record middle fid.fileset h (give_applied number)) id host))
        (ap (option_map (λ (rs : List Record). (record_of rs host).give)) (same id))
        (noted_no_less middle fid.fileset h (give_applied number)
        (λ rs is. below rs (nat_lt (record_of rs h).give number) refl
        (sym (ap (given_by h number) (sym (same fid.fileset) ∙ is)) ∙ e)) id host))

-- what was given back is stale
pub give_stale : (state : StoreState) (h : HostId) (number : ℕ) (fid : Fid) (pieces : List Piece) (given : Option ℕ)
    (limits : KeepsLimits state) (low : h.0 ≤ HOSTS_MAX)
    → IsStale (act_done state (Give h number fid pieces given)).state fid.fileset h number
give_stale state h number fid pieces given limits low = by (applied_before state fid.fileset h number) refl
  where
    by : (o : Option Done) → applied_before state fid.fileset h number ≡ o
        → IsStale (act_done state (Give h number fid pieces given)).state fid.fileset h number
    by (Some done) e =
        subst (λ r. IsStale r.state fid.fileset h number)
        (sym (give_is state h number fid pieces given limits low state (Some done) e))
        (stale_by state fid.fileset h number done e)
    by None e =
        let (records, there) = given_first state h number fid pieces given limits low e in
        subst (λ r. IsStale r.state fid.fileset h number)
        (sym (give_is state h number fid pieces given limits low state None e))
        (stale_by (given_state state h number fid pieces given limits low) fid.fileset h number (not_fresh Accepted)
        (given_again state h number fid pieces given limits low records there))

-- and changes nothing
pub stale_idle : (state : StoreState) (h : HostId) (number : ℕ) (fid : Fid) (pieces : List Piece) (given : Option ℕ)
    (limits : KeepsLimits state) (low : h.0 ≤ HOSTS_MAX) → IsStale state fid.fileset h number
    → (act_done state (Give h number fid pieces given)).state ≡ state
stale_idle state h number fid pieces given limits low stale =
    let (done, e) = applied_so state fid.fileset h number stale in
    ap (λ r. r.state) (give_is state h number fid pieces given limits low state (Some done) e)

pub stale_stays : (old new : StoreState) (id : FilesetId) (host : HostId) (number : ℕ)
    → IsNoLess (gave old id host) (gave new id host) → IsStale old id host number → IsStale new id host number
stale_stays old new id host number less stale n is =
    let (m, was, below) = less n is in let l = stale m was in omega (arith, l, below)
