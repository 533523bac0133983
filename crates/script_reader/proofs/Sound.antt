-- What is read of a script keeps the limits of the service.
use Rattle.std.proofs.Common.{◌≡◌, ℕ, ◌+◌, ◌≤◌, List, [], ◌∷◌, length, Bool, true, false, not, cond, ◌&&◌, nat_lt, nat_le, Option, Some, None, Result, Ok, Err, IfOk, refl, arith}
use Rattle.std.specs.List.{list_all}
use Rattle.std.proofs.lemmas.Bool.{and_from, ltb-false, le-leb}
use Rattle.base_types.specs.Outcomes.{and_then}
use Rattle.base_types.specs.declared.limits.TheConstants.{CACHED_TOKENS_MAX, CACHED_TOKENS_MIN, CAPACITY_MAX, CAPACITY_MIN, GROUPS_MAX, HOSTS_MAX, SCRIPT_LINES_MAX, SERVERS_MAX}
use Rattle.base_types.specs.declared.user.User.{User}
use Rattle.tree_calls.specs.Limits.{is_between, keeps_limits}
use Rattle.tree_calls.specs.declared.roster.Roster.{Roster}
use Rattle.tree_calls.specs.declared.roster.HostLine.{HostLine}
use Rattle.script_words.specs.declared.fault.BadWhy.{BadWhy}
use Rattle.script_words.specs.declared.fault.BadWhy.TheVariants.{Disks, Lines, Order}
use Rattle.script_words.specs.Lines.{lines_of}
use Rattle.script_lines.specs.Judge.{nothing_said, line_judged}
use Rattle.script_lines.specs.Clones.{with_clones}
use Rattle.script_lines.specs.Sound.{IsSound}
use Rattle.script_lines.proofs.Kept.{IsRosterKept, IsKept, KeepsOn, kept_start, kept_judged, kept_clones}
use Rattle.script_lines.proofs.Planned.{IsPlanned, planned_start, planned_judged, planned_clones}
use Rattle.script_lines.specs.declared.context.Context.{Context}
use Rattle.script_lines.specs.declared.script.Script.{Script}
use Rattle.script_reader.specs.Scripts.{entered, at_line, next_judged, judged_from, too_many, limited, ended_by, script_before_walk, unstuck, script_of}
use Rattle.script_reader.specs.Walk.{stuck_at}
use Rattle.script_reader.specs.declared.refused.ScriptRefused.{ScriptRefused}
use Rattle.script_reader.specs.declared.refused.ScriptRefused.TheVariants.{BadLine}

-- what follows a step keeps what is asked of the end
pub then : {A B : Type 0} (P : B → Type 0) (Q : A → Type 0) (read : Result A ScriptRefused) (next : A → Result B ScriptRefused) → IfOk read Q → ((a : A) → Q a → IfOk (next a) P) → IfOk (and_then read next) P
then P Q (Ok a) next q f = f a q
then P Q (Err refusal) next q f = tt

-- what is kept after all lines
abbrev pub IsKeptTo : Context → Type 0
IsKeptTo context = (number : ℕ) × (number ≤ SCRIPT_LINES_MAX + 1) × IsKept context number × IsPlanned context

abbrev pub GoesOn : ℕ → Context → Type 0
GoesOn number next = KeepsOn number next × IsPlanned next

pub entered_keeps : (context next : Context) (number : ℕ) (lines : List (List ℕ)) → IsKept next number → IsKept (entered context next lines) number
entered_keeps context next number lines h = by_begun next.begun refl (not context.begun)
  where
    by_begun : (begun : Bool) → next.begun ≡ begun → (new : Bool) → IsKept (cond (begun && new) (with_clones next lines) next) number
    by_begun true b true = kept_clones next number lines b h
    by_begun true b false = h
    by_begun false b new = h

pub entered_planned : (context next : Context) (lines : List (List ℕ)) → IsPlanned next → IsPlanned (entered context next lines)
entered_planned context next lines h = by_begun (next.begun && not context.begun)
  where
    by_begun : (v : Bool) → IsPlanned (cond v (with_clones next lines) next)
    by_begun true = planned_clones next lines h
    by_begun false = h

pub next_keeps : (context : Context) (disks number : ℕ) (line : List ℕ) (lines : List (List ℕ)) → IsKept context number → IsPlanned context → IfOk (next_judged context disks number line lines) (GoesOn number)
unfolding next_judged
next_keeps context disks number line lines h p = by_judged (line_judged context disks number line) (kept_judged context disks number line h) (planned_judged context disks number line p)
  where
    by_judged : (judged : Result Context BadWhy) → IfOk judged (KeepsOn number) → IfOk judged IsPlanned → IfOk (at_line number context lines judged) (GoesOn number)
    by_judged (Ok next) k q = (entered_keeps context next (number + 1) lines k, entered_planned context next lines q)
    by_judged (Err why) k q = tt

pub judged_keeps : (context : Context) (disks number : ℕ) (lines : List (List ℕ)) → number ≤ SCRIPT_LINES_MAX + 1 → IsKept context number → IsPlanned context → IfOk (judged_from context disks number lines) IsKeptTo
judged_keeps context disks number [] most h p = (number, most, h, p)
judged_keeps context disks number (line ∷ lines) most h p =
    by_number (nat_lt SCRIPT_LINES_MAX number) refl (λ next small k. judged_keeps next disks (number + 1) lines small k.0 k.1)
  where
    by_number : (v : Bool) → nat_lt SCRIPT_LINES_MAX number ≡ v → ((next : Context) → number + 1 ≤ SCRIPT_LINES_MAX + 1 → GoesOn number next → IfOk (judged_from next disks (number + 1) lines) IsKeptTo)
        → IfOk (cond v (Err (BadLine (SCRIPT_LINES_MAX + 1) Lines)) (and_then (next_judged context disks number line lines) (λ next. judged_from next disks (number + 1) lines))) IsKeptTo
    by_number true e rest = tt
    by_number false e rest =
        let small : number ≤ 10000 = ltb-false 10000 number e in
        then IsKeptTo (GoesOn number) (next_judged context disks number line lines) (λ next. judged_from next disks (number + 1) lines) (next_keeps context disks number line lines h p) (λ next k. rest next (omega arith) k)

pub too_many_refuses : (P : Context → Type 0) (judged : Result Context ScriptRefused) → IfOk (too_many judged) P
too_many_refuses P (Err (BadLine number Disks)) = tt
too_many_refuses P _ = tt

pub limited_keeps : (P : Context → Type 0) (lines : ℕ) (judged : Result Context ScriptRefused) → IfOk judged P → IfOk (limited lines judged) P
limited_keeps P lines judged h = elim (nat_lt SCRIPT_LINES_MAX lines) as (λ v. IfOk (cond v (too_many judged) judged) P) [
  | true ↦ too_many_refuses P judged
  | false ↦ h
]

pub limits_kept : (roster : Roster) (servers : ℕ) → 1 ≤ servers → IsRosterKept roster servers → keeps_limits roster ≡ true
limits_kept roster servers some k =
    let most : nat_le (length roster.capacity) SERVERS_MAX ≡ true = rw k.count at k.most in
    let least : nat_le 1 (length roster.capacity) ≡ true = le-leb 1 (length roster.capacity) (omega (arith, k.count)) in
    let capacities = list_all (is_between CAPACITY_MIN CAPACITY_MAX) roster.capacity in
    let users = list_all (λ (user : User). is_between 1 GROUPS_MAX (length user.groups)) roster.users in
    let hosts = list_all (λ (line : HostLine). nat_lt line.user (length roster.users) && is_between CACHED_TOKENS_MIN CACHED_TOKENS_MAX line.limit) roster.hosts in
    let servers_ok = is_between 1 SERVERS_MAX (length roster.capacity) in
    let hosts_ok = nat_le (length roster.hosts) HOSTS_MAX in
    and_from (servers_ok && hosts_ok && capacities && users) hosts
    (and_from (servers_ok && hosts_ok && capacities) users
    (and_from (servers_ok && hosts_ok) capacities
    (and_from servers_ok hosts_ok (and_from (nat_le 1 (length roster.capacity)) (nat_le (length roster.capacity) SERVERS_MAX) least most) k.host_count) k.capacities) k.users) k.host_lines

pub ended_sound : (lines : ℕ) (context : Context) → IsKeptTo context → IfOk (ended_by lines context) IsSound
ended_sound lines context h = by_begun context.begun refl
  where
    by_begun : (v : Bool) → context.begun ≡ v → IfOk (cond v (Ok context.script) (Err (BadLine (lines + 1) Order))) IsSound
    by_begun true b = record {
      servers = h.2.roster_kept.count;
      roster = limits_kept context.script.roster context.script.servers (h.2.some b) h.2.roster_kept;
      setup = h.2.setup_kept;
      lines = h.2.lines_kept;
      stops = h.2.stops;
      flags = rw h.3.flags at h.3.once;
      numbers = h.2.rise;
      count = omega (arith, h.1, h.2.few);
      plan = h.3.plans;
      net = h.3.limits;
    }
    by_begun false b = tt

pub before_walk_sound : (bytes : List ℕ) (disks : ℕ) → IfOk (script_before_walk bytes disks) IsSound
unfolding script_before_walk
before_walk_sound bytes disks =
    then IsSound IsKeptTo (limited (length (lines_of bytes)) (judged_from nothing_said disks 1 (lines_of bytes))) (λ context. ended_by (length (lines_of bytes)) context)
    (limited_keeps IsKeptTo (length (lines_of bytes)) (judged_from nothing_said disks 1 (lines_of bytes)) (judged_keeps nothing_said disks 1 (lines_of bytes) (omega arith) kept_start planned_start))
    (λ context k. ended_sound (length (lines_of bytes)) context k)

-- a script that is read is sound
pub script_sound : (bytes : List ℕ) (disks : ℕ) → IfOk (script_of bytes disks) IsSound
unfolding script_of
script_sound bytes disks =
    then IsSound IsSound (script_before_walk bytes disks) (λ script. unstuck script (stuck_at script.lines)) (before_walk_sound bytes disks) (λ script k. by_walk script (stuck_at script.lines) k)
  where
    by_walk : (script : Script) (stuck : Option ℕ) → IsSound script → IfOk (unstuck script stuck) IsSound
    by_walk script None k = k
    by_walk script (Some number) k = tt
