-- Each call of a run may be asked.
use Rattle.std.proofs.Common.{◌≡◌, ◌≤◌, ◌==◌, nat_le, not, Bool, true, false, List, [], ◌∷◌, ◌++◌, length, refl, sym, ap, subst, ◌∙◌}
use Rattle.std.specs.Prelude.{filter, if◌then◌else◌, map}
use Rattle.std.proofs.lemmas.Bool.{and_from, eqb-true, eq-eqb, le-leb, leb-true}
use Rattle.base_types.specs.declared.ids.HostId.{HostId}
use Rattle.tree_calls.specs.declared.entry.Entry.{Entry}
use Rattle.tree_calls.specs.declared.entry.Entry.TheVariants.{Call as Called, Stored, Down, Left}
use Rattle.tree_calls.specs.declared.roster.Roster.{Roster}
use Rattle.message_types.specs.Soundness.{Each, IsCall, IsHost}
use Rattle.store_acts.specs.Sound.{HasName}
use Rattle.script_lines.specs.Asks.{call_lines}
use Rattle.script_lines.specs.Sound.{IsSound}
use Rattle.script_lines.specs.declared.script.Line.{Line}
use Rattle.script_lines.specs.declared.script.Script.{Script}
use Rattle.service_plain.specs.Calls.{Asked, Asks, act_in, acts_in, is_asked}
use Rattle.service_plain.specs.Played.{IsPlayed, call_in, endings, is_implied, last_calls, stops}
use Rattle.service_plain.specs.Seats.{lines_at}
use Rattle.service_plain.specs.Uses.{ending, is_done, used_by, used_if, uses_from}
use Rattle.service_plain.specs.declared.played.Played.{Played}
use Rattle.service_plain.specs.declared.uses.Use.{Use}
use Rattle.service_plain.specs.declared.uses.Use.TheVariants.{Lock, Open}
use Rattle.service_stores.specs.Laws.{AreSayable}
use Rattle.service_stores.proofs.Asked.{IsMade, MayAct, acts_are_made}
use Rattle.service_stores.proofs.PlayedLists.{each_both, each_for, each_mapped, each_parts, each_tested}

-- what the lines bring about, entry by entry
abbrev ActsIn : Script → Entry → Type 0
ActsIn script entry = Each (MayAct script.roster) (act_in script entry)

abbrev IsAskedWell : Roster → Asked → Type 0
IsAskedWell roster asked = IsMade roster asked.host asked.call

-- an entry that is a call of a declared host which may be asked, or no call
abbrev pub IsCalled : Roster → Entry → Type 0
IsCalled roster (Called host k call reply) = IsMade roster host call
IsCalled roster _ = Unit {0}

-- a host that isn't declared has nothing in use
unused : (script : Script) (host : HostId) (history : List Entry) →
    nat_le host.0 (length script.roster.hosts) ≡ false → Each (ActsIn script) history →
    uses_from host [] (filter (is_asked script) history) ≡ []
unused script host [] gone h = refl
unused script host (Called caller k call reply ∷ entries) gone h =
    by (nat_le k (call_lines script caller.0)) h.0 (unused script host entries gone h.1)
  where
    other : IsHost script.roster caller → used_by host [] (Called caller k call reply) ≡ []
    other m = of_host (caller.0 == host.0) refl
      where
        of_host : (v : Bool) → (caller.0 == host.0) ≡ v →
            (if v then used_if (is_done reply) [] call else []) ≡ []
        of_host false e = refl
        of_host true e =
            let same : caller.0 ≡ host.0 = eqb-true caller.0 host.0 e in
            let yes : nat_le host.0 (length script.roster.hosts) ≡ true =
            le-leb host.0 (length script.roster.hosts) (subst (λ n. n ≤ length script.roster.hosts) same m) in
            let wrong : false ≡ true = sym gone ∙ yes in absurd (cc)

    by : (v : Bool) → Each (MayAct script.roster) (if v then Asks caller call ∷ [] else []) →
        uses_from host [] (filter (is_asked script) entries) ≡ [] →
        uses_from host []
        (if v then Called caller k call reply ∷ filter (is_asked script) entries else filter (is_asked script) entries)
        ≡ []
    by false m e = e
    by true m e = ap (λ uses. uses_from host uses (filter (is_asked script) entries)) (other m.0.0) ∙ e
unused script host (Stored by fid spans len ∷ entries) gone h = unused script host entries gone h.1
unused script host (Down by server ∷ entries) gone h = unused script host entries gone h.1
unused script host (Left server id ∷ entries) gone h = unused script host entries gone h.1

-- the call that ends a use may be asked
ends_well : (roster : Roster) (used : Use) → IsCall roster (ending used) × HasName (ending used)
ends_well roster (Lock label) =
    (record { servers = tt; paths = tt; objects = refl; groups = tt; bytes = tt }, tt)
ends_well roster (Open label) =
    (record { servers = tt; paths = tt; objects = refl; groups = tt; bytes = tt }, tt)

ends_made : (script : Script) (host : HostId) (history : List Entry) → Each (ActsIn script) history →
    Each (IsAskedWell script.roster) (endings script host history)
ends_made script host history h = by (nat_le host.0 (length script.roster.hosts)) refl
  where
    by : (v : Bool) → nat_le host.0 (length script.roster.hosts) ≡ v →
        Each (IsAskedWell script.roster) (endings script host history)
    by true e =
        each_mapped (IsAskedWell script.roster) (λ used. record { host = host; call = ending used })
        (uses_from host [] (filter (is_asked script) history))
        (λ used. let ends = ends_well script.roster used in
        (leb-true host.0 (length script.roster.hosts) e, ends.0, ends.1))
    by false e =
        subst
        (λ uses. Each (IsAskedWell script.roster) (map (λ used. record { host = host; call = ending used }) uses))
        (sym (unused script host history e h)) tt

last_made : (script : Script) (lines : List Line) (host : HostId) (history : List Entry) →
    Each (ActsIn script) history → Each (IsAskedWell script.roster) (last_calls script lines host history)
last_made script lines host history h = by (stops host lines)
  where
    by : (v : Bool) → Each (IsAskedWell script.roster) (if v then [] else endings script host history)
    by true = tt
    by false = ends_made script host history h

-- both kinds of calls
abbrev EndsIn : Script → Entry → Type 0
EndsIn script entry =
    (host : HostId) → is_implied script host entry ≡ true → Each (IsAskedWell script.roster) (call_in entry)

one_called : (script : Script) (entry : Entry) → ActsIn script entry → EndsIn script entry →
    IsCalled script.roster entry
one_called script (Called host k call reply) a b = by (nat_le k (call_lines script host.0)) refl a
  where
    by : (v : Bool) → nat_le k (call_lines script host.0) ≡ v →
        Each (MayAct script.roster) (if v then Asks host call ∷ [] else []) → IsMade script.roster host call
    by true e m = m.0
    by false e m =
        (b host
        (and_from (host.0 == host.0) (not (nat_le k (call_lines script host.0))) (eq-eqb host.0 host.0 refl) (ap not e))).0
one_called script (Stored host fid spans len) a b = tt
one_called script (Down host server) a b = tt
one_called script (Left server id) a b = tt

-- each call of a run
pub calls_are_made : (script : Script) (played : Played) → IsSound script → AreSayable script → IsPlayed script played →
    Each (IsCalled script.roster) played.history
calls_are_made script played s say p =
    let roster = script.roster in
    let history = played.history in
    let lines = script.setup ++ lines_at script.lines played.order in
    let acts : Each (MayAct roster) (acts_in script history) =
    subst (Each (MayAct roster)) (sym p.done.acts) (acts_are_made script played.order s say) in
    let asked : Each (ActsIn script) history = each_parts (MayAct roster) (act_in script) history acts in
    let ends : (host : HostId) →
    Each (λ entry. is_implied script host entry ≡ true → Each (IsAskedWell roster) (call_in entry)) history =
    (λ host. each_tested (λ entry. Each (IsAskedWell roster) (call_in entry)) (is_implied script host) history
    (each_parts (IsAskedWell roster) call_in (filter (is_implied script host) history)
    (subst (Each (IsAskedWell roster)) (sym (p.done.implied host)) (last_made script lines host history asked)))) in
    each_both (ActsIn script) (EndsIn script) (IsCalled roster) history (one_called script) asked
    (each_for (λ host entry. is_implied script host entry ≡ true → Each (IsAskedWell roster) (call_in entry)) history
    ends)
