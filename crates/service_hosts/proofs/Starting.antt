-- What a run by hosts and servers starts from.
use Rattle.std.proofs.Common.{◌≡◌, ◌⊎◌, ⊎_elim, ℕ, zero, suc, ◌-◌, ◌<◌, ◌≤◌, ◌==◌, ◌&&◌, Bool, true}
use Rattle.std.proofs.Common.{false, not, List, [], ◌∷◌, ◌++◌, Option, Some, length, slice_get, refl}
use Rattle.std.proofs.Common.{sym, ap, ◌∙◌, subst, arith}
use Rattle.std.specs.List.{list_all, list_any}
use Rattle.std.specs.Option.{option_and_then, option_map_or}
use Rattle.std.specs.Prelude.{is_some, nat_le, nat_lt, if◌then◌else◌}
use Rattle.std.proofs.lemmas.Bool.{and_parts, eqb-true, leb-true, ltb-true}
use Rattle.base_types.specs.declared.ids.HostId.{HostId}
use Rattle.base_types.specs.declared.ids.Node.{Node}
use Rattle.base_types.specs.declared.ids.Node.TheVariants.{Host, Server}
use Rattle.base_types.specs.declared.limits.TheConstants.{CACHED_TOKENS_MAX, CACHED_TOKENS_MIN, CAPACITY_MAX}
use Rattle.base_types.specs.declared.limits.TheConstants.{CAPACITY_MIN, GROUPS_MAX, HOSTS_MAX, SERVERS_MAX}
use Rattle.tree_answers.specs.declared.tree.Tree.{Tree}
use Rattle.tree_calls.specs.Limits.{is_between, keeps_limits}
use Rattle.tree_calls.specs.Rosters.{admin, user_of}
use Rattle.tree_calls.specs.declared.call.Call.{Call as CallOf}
use Rattle.tree_calls.specs.declared.roster.HostLine.{HostLine}
use Rattle.tree_calls.specs.declared.roster.Roster.{Roster}
use Rattle.base_types.specs.declared.user.User.{User}
use Rattle.message_types.specs.Soundness.{Each, IsCall, IsHost}
use Rattle.script_lines.specs.Sound.{IsSound, is_setup_line, is_sound_line, is_server, is_server_deed}
use Rattle.script_lines.specs.declared.script.Deed.{Deed}
use Rattle.script_lines.specs.declared.script.Deed.TheVariants.{Await, Call, Raise, Restart, Stop}
use Rattle.script_lines.specs.declared.script.Line.{Line}
use Rattle.script_lines.specs.declared.script.Script.{Script}
use Rattle.run_rules.specs.Past.{In}
use Rattle.run_rules.specs.Runs.{IsValid}
use Rattle.hub_drive.specs.Driving.{CanStart}
use Rattle.host_node.specs.Standing.{IsPlayable}
use Rattle.service_plain.specs.Calls.{acts_by}
use Rattle.service_plain.specs.Played.{IsStart}
use Rattle.service_plain.specs.Seats.{lines_at}
use Rattle.service_stores.specs.Laws.{AreSayable}
use Rattle.service_stores.proofs.Asked.{MayAct, acts_are_made}
use Rattle.service_stores.proofs.PlayedLists.{each_left, each_parts, each_right}
use Rattle.service_hosts.specs.Homes.{is_home, is_move, may_host}

-- # A tree from which hosts and servers can start

no_more : {A : Type 0} (xs : List A) → (length xs == 0) ≡ true → xs ≡ []
no_more [] e = refl
no_more (x ∷ xs) e = (let some = eqb-true (length (x ∷ xs)) 0 e in absurd (omega (arith, some)))

pub is_valid : (script : Script) (start : Tree) → IsStart script.roster start → may_host script start ≡ true
    → IsValid start
is_valid script start s may =
    (let moved = not (list_any (λ (line : Line). is_move line.deed) script.lines) in
    let both = list_all is_home start.filesets && (length start.away == 0) in
    let parts = and_parts moved both may in
    let two = and_parts (list_all is_home start.filesets) (length start.away == 0) parts.1 in
    record {
      well_formed = s.formed;
      at_rest = s.rest;
      locks = s.locks;
      opens = s.opens;
      unmoved = no_more start.away two.1;
      at_home = two.0;
    })

-- # The limits of a roster

pub record HasLimits (roster : Roster) : Type 0 where
  pub servers : length roster.capacity ≤ SERVERS_MAX
  pub hosts : length roster.hosts ≤ HOSTS_MAX
  pub users : list_all (λ line. nat_lt line.user (length roster.users)
      && is_between CACHED_TOKENS_MIN CACHED_TOKENS_MAX line.limit) roster.hosts ≡ true

pub has_limits : (roster : Roster) → keeps_limits roster ≡ true → HasLimits roster
has_limits roster k =
    let servers = is_between 1 SERVERS_MAX (length roster.capacity) in
    let hosts = nat_le (length roster.hosts) HOSTS_MAX in
    let sizes = list_all (is_between CAPACITY_MIN CAPACITY_MAX) roster.capacity in
    let groups = list_all (λ user. is_between 1 GROUPS_MAX (length user.groups)) roster.users in
    let lines = list_all (λ line. nat_lt line.user (length roster.users)
    && is_between CACHED_TOKENS_MIN CACHED_TOKENS_MAX line.limit) roster.hosts in
    let p = and_parts (servers && hosts && sizes && groups) lines k in
    let q = and_parts (servers && hosts && sizes) groups p.0 in
    let r = and_parts (servers && hosts) sizes q.0 in
    let t = and_parts servers hosts r.0 in
    let u = and_parts (nat_le 1 (length roster.capacity)) (nat_le (length roster.capacity) SERVERS_MAX) t.0 in
    record {
      servers = leb-true (length roster.capacity) SERVERS_MAX u.1;
      hosts = leb-true (length roster.hosts) HOSTS_MAX t.1;
      users = p.1;
    }

pub can_start : (script : Script) (start : Tree) (epochs : List ℕ) → IsSound script → IsValid start
    → start.roster ≡ script.roster → length epochs ≡ length script.roster.capacity → CanStart script start epochs
can_start script start epochs s valid roster counted =
    (let limits = has_limits script.roster s.roster in
    let few = limits.servers in
    let servers = s.servers in
    record {
      valid = valid;
      roster = roster;
      counted = counted;
      servers = servers;
      hosts_few = limits.hosts;
      servers_few = omega (arith, few, servers);
    })

-- # Each host has a user

there : {A : Type 0} (xs : List A) (k : ℕ) → k < length xs → (x : A) × (slice_get xs k ≡ Some x)
there [] k lt = absurd (omega (arith, lt))
there (x ∷ xs) zero lt = (x, refl)
there (x ∷ xs) (suc k) lt = there xs k (omega (arith, lt))

all_at : {A : Type 0} (p : A → Bool) (xs : List A) (k : ℕ) (x : A) → list_all p xs ≡ true → slice_get xs k ≡ Some x
    → p x ≡ true
all_at p [] k x all e = absurd (cc)
all_at p (y ∷ xs) zero x all e = (let same : y ≡ x = cc in ap p (sym same) ∙ (and_parts (p y) (list_all p xs) all).0)
all_at p (y ∷ xs) (suc k) x all e = all_at p xs k x (and_parts (p y) (list_all p xs) all).1 e

pub has_user : (roster : Roster) (host : HostId) → keeps_limits roster ≡ true → IsHost roster host
    → is_some (user_of roster host) ≡ true
has_user roster host kept declared = by (host.0 == 0) refl
  where
    limits : HasLimits roster
    limits = has_limits roster kept

    picked : Bool → Option User
    picked c =
        if c then Some admin
        else option_and_then (λ (line : HostLine). slice_get roster.users line.user) (slice_get roster.hosts
        (host.0 - 1))

    by : (b : Bool) → b ≡ (host.0 == 0) → is_some (user_of roster host) ≡ true
    by true e = ap (λ (c : Bool). is_some (picked c)) (sym e)
    by false e =
        let some = not_zero host.0 e in
        let last = declared in
        let at : (host.0 - 1) < length roster.hosts = omega (arith, last, some) in
        let line = there roster.hosts (host.0 - 1) at in
        let kept_line = all_at (λ line. nat_lt line.user (length roster.users)
        && is_between CACHED_TOKENS_MIN CACHED_TOKENS_MAX line.limit) roster.hosts
        (host.0 - 1) line.0 limits.users line.1 in
        let less = ltb-true line.0.user (length roster.users)
        (and_parts (nat_lt line.0.user (length roster.users))
        (is_between CACHED_TOKENS_MIN CACHED_TOKENS_MAX line.0.limit) kept_line).0 in
        let user = there roster.users line.0.user less in
        ap (λ (c : Bool). is_some (picked c)) (sym e)
        ∙ ap (λ (o : Option HostLine).
        is_some (option_and_then (λ (line : HostLine). slice_get roster.users line.user) o)) line.1
        ∙ ap (λ (o : Option User). is_some o) user.1
      where
        not_zero : (n : ℕ) → false ≡ (n == 0) → 1 ≤ n
        not_zero zero e = absurd (cc)
        not_zero (suc n) e = omega arith

-- # Hosts can play each line of a script that can be said

each_in : {A : Type 0} (P : A → Type 0) (xs : List A) (x : A) → Each P xs → In x xs → P x
each_in P [] x all i = absurd i
each_in P (y ∷ xs) x all i = ⊎_elim
    (λ (e : x ≡ y). subst P (sym e) all.0) (λ (k : In x xs). each_in P xs x all.1 k) i

all_in : {A : Type 0} (p : A → Bool) (xs : List A) (x : A) → list_all p xs ≡ true → In x xs → p x ≡ true
all_in p [] x all i = absurd i
all_in p (y ∷ xs) x all i = ⊎_elim
    (λ (e : x ≡ y). ap p e ∙ (and_parts (p y) (list_all p xs) all).0)
    (λ (k : In x xs). all_in p xs x (and_parts (p y) (list_all p xs) all).1 k)
    i

abbrev call_line : ℕ → Node → CallOf → Line
call_line number node call = record { number = number; node = node; deed = Call call }

-- what a line brings about may be asked
abbrev ActsWell : Script → Line → Type 0
ActsWell script line = Each (MayAct script.roster) (acts_by (length script.roster.capacity) line.node line.deed)

place_of : (lines : List Line) (line : Line) → In line lines → (k : ℕ) × (slice_get lines k ≡ Some line)
place_of [] line i = absurd i
place_of (x ∷ lines) line i = ⊎_elim
    (λ (e : line ≡ x). (0, ap (λ (l : Line). Some l) (sym e)))
    (λ (k : In line lines). (let r = place_of lines line k in (suc r.0, r.1)))
    i

setup_well : (script : Script) → IsSound script → AreSayable script → (line : Line) → In line script.setup
    → ActsWell script line
setup_well script s say line i =
    (let acts = acts_are_made script [] s say in
    let all = each_parts (MayAct script.roster)
    (λ (l : Line). acts_by (length script.roster.capacity) l.node l.deed)
    (script.setup ++ lines_at script.lines []) acts in
    each_in (ActsWell script) script.setup line
    (each_left (ActsWell script) script.setup (lines_at script.lines []) all) i)

line_well : (script : Script) → IsSound script → AreSayable script → (line : Line) → In line script.lines
    → ActsWell script line
line_well script s say line i =
    (let place = place_of script.lines line i in
    let acts = acts_are_made script (place.0 ∷ []) s say in
    let all = each_parts (MayAct script.roster)
    (λ (l : Line). acts_by (length script.roster.capacity) l.node l.deed)
    (script.setup ++ lines_at script.lines (place.0 ∷ [])) acts in
    let here = each_right (ActsWell script) script.setup (lines_at script.lines (place.0 ∷ [])) all in
    (subst (λ (o : Option Line). Each (ActsWell script) (option_map_or (λ (l : Line). l ∷ []) o [] ++ [])) place.1
    here).0)

-- a call of a line that is sound, or of the setup, may be asked
line_call : (script : Script) (number : ℕ) (node : Node) (call : CallOf)
    → is_sound_line script.servers (length script.roster.hosts) (call_line number node call) ≡ true
    → ActsWell script (call_line number node call) → IsCall script.roster call
line_call script number (Host host) call h acts = acts.0.1
line_call script number (Server server) call h acts =
    (let bad : false ≡ true = (and_parts (is_server script.servers server) (is_server_deed (Call call)) h).1 in
    absurd (cc))

setup_call : (script : Script) (number : ℕ) (node : Node) (call : CallOf)
    → is_setup_line script.servers (call_line number node call) ≡ true
    → ActsWell script (call_line number node call) → IsCall script.roster call
setup_call script number (Host host) call h acts = acts.0.1
setup_call script number (Server server) call h acts = (let bad : false ≡ true = h in absurd (cc))

-- what holds of the lines of a kind is shown by their deeds; the first argument only says what that is
by_deed : {A : Type 0} {Q P : Line → Type 0} → (A → (line : Line) → Q line → P line)
    → ((number : ℕ) (node : Node) (call : CallOf) → Q (call_line number node call)
    → P (call_line number node call))
    → ((number : ℕ) (node : Node) (flag : List ℕ) → P (record { number = number; node = node; deed = Raise flag }))
    → ((number : ℕ) (node : Node) (flag : List ℕ) → P (record { number = number; node = node; deed = Await flag }))
    → ((number : ℕ) (node : Node) → P (record { number = number; node = node; deed = Stop }))
    → ((number : ℕ) (node : Node) → P (record { number = number; node = node; deed = Restart }))
    → (line : Line) → Q line → P line
by_deed {Q = Q} {P = P} is calls raises awaits stops restarts line = deeds line.number line.node line.deed
  where
    deeds : (number : ℕ) (node : Node) (deed : Deed) → Q (record { number = number; node = node; deed = deed })
        → P (record { number = number; node = node; deed = deed })
    deeds number node (Call call) q = calls number node call q
    deeds number node (Raise flag) q = raises number node flag
    deeds number node (Await flag) q = awaits number node flag
    deeds number node Stop q = stops number node
    deeds number node Restart q = restarts number node

pub playable : (script : Script) → IsSound script → AreSayable script → IsPlayable script
playable script s say = record {
  sound = s;
  askable = by_deed (λ (p : IsPlayable script). p.askable)
      (λ number node call i. ⊎_elim
      (λ (a : In (call_line number node call) script.setup).
      setup_call script number node call
      (all_in (is_setup_line script.servers) script.setup (call_line number node call) s.setup a)
      (setup_well script s say (call_line number node call) a))
      (λ (b : In (call_line number node call) script.lines).
      line_call script number node call
      (all_in (is_sound_line script.servers (length script.roster.hosts)) script.lines
      (call_line number node call) s.lines b)
      (line_well script s say (call_line number node call) b))
      i)
      (λ number node flag. tt)
      (λ number node flag. tt)
      (λ number node. tt)
      (λ number node. tt);
}
