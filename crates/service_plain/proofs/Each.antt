-- What each host does in a run.
use Rattle.std.proofs.Common.{◌≡◌, ℕ, zero, suc, ◌+◌, ◌<◌, ◌==◌, nat_le, ◌&&◌, ◌||◌, Bool, true, false, List, [], ◌∷◌, ◌++◌, refl, sym, ap, subst, ◌∙◌, arith}
use Rattle.std.specs.Prelude.{filter, if◌then◌else◌}
use Rattle.std.specs.List.{flat_map, list_any}
use Rattle.std.proofs.lemmas.Bool.{eqb-true}
use Rattle.std.proofs.lemmas.Grind.{common_steps, flat_map-append}
use Rattle.std.proofs.lemmas.List.{append-nil}
use Rattle.std.proofs.lemmas.List.Elements.{filter-append}
use Rattle.base_types.specs.declared.ids.HostId.{HostId}
use Rattle.base_types.specs.declared.ids.Node.{Node}
use Rattle.base_types.specs.declared.ids.Node.TheVariants.{Host, Server}
use Rattle.tree_calls.specs.declared.entry.Entry.{Entry}
use Rattle.tree_calls.specs.declared.entry.Entry.TheVariants.{Call as Called, Stored, Down, Left}
use Rattle.script_lines.specs.Asks.{call_lines}
use Rattle.script_lines.specs.Sound.{is_of, is_stop}
use Rattle.script_lines.specs.declared.script.Deed.{Deed}
use Rattle.script_lines.specs.declared.script.Deed.TheVariants.{Call, Stop}
use Rattle.script_lines.specs.declared.script.Line.{Line}
use Rattle.script_lines.specs.declared.script.Script.{Script}
use Rattle.service_plain.specs.Calls.{Act, Asks, Falls, Asked, asked_by, calls_of, own_calls, is_asked, falls_from, acts_by, acts_of, act_in, acts_in}
use Rattle.service_plain.specs.Laws.{CallsFollowLines}
use Rattle.service_plain.specs.Played.{calls_in, is_own, are_numbered, is_implied, stops, endings, last_calls}
use Rattle.service_plain.specs.Seats.{lines_at}
use Rattle.service_plain.proofs.Histories.{fst_true, snd_true, calls_append}
use Rattle.service_plain.proofs.Steps.{own_append, own_by, stops_append}

-- whether an entry is a call of a host that a line asks for
abbrev pub is_own_asked : Script → HostId → Entry → Bool
is_own_asked script host entry = is_own host entry && is_asked script entry

le_false : (a b : ℕ) → b < a → nat_le a b ≡ false
le_false a b h = grind (arith, common_steps)

false_lt : (a b : ℕ) → nat_le a b ≡ false → b < a
false_lt a b h = grind (arith, common_steps, h)

-- calls with numbers above those that lines ask for are none of them
late : (script : Script) (host : HostId) (k : ℕ) (entries : List Entry) → call_lines script host.0 < k → are_numbered host k entries ≡ true → filter (is_own_asked script host) entries ≡ []
late script host k [] l h = refl
late script host k (Called caller n call reply ∷ entries) l h = by (caller.0 == host.0) refl (fst_true _ _ h) (λ m w. late script host m entries w) (snd_true _ _ h)
  where
    by : (v : Bool) → (caller.0 == host.0) ≡ v → (if v then n == k else true) ≡ true → ((m : ℕ) → call_lines script host.0 < m → are_numbered host m entries ≡ true → filter (is_own_asked script host) entries ≡ []) →
        are_numbered host (if v then k + 1 else k) entries ≡ true → filter (is_own_asked script host) (Called caller n call reply ∷ entries) ≡ []
    by true e q more r =
        let same : n ≡ k = eqb-true n k q in
        let here : caller.0 ≡ host.0 = eqb-true caller.0 host.0 e in
        let no : nat_le n (call_lines script caller.0) ≡ false = rw here (le_false n (call_lines script host.0) (omega arith)) in
        rw (e, no) (more (k + 1) (omega arith) r)
    by false e q more r = rw e (more k l r)
late script host k (Stored writer fid spans len ∷ entries) l h = late script host k entries l h
late script host k (Down other server ∷ entries) l h = late script host k entries l h
late script host k (Left server id ∷ entries) l h = late script host k entries l h

-- a host's calls: those that lines ask for, and then the others
parted : (script : Script) (host : HostId) (k : ℕ) (entries : List Entry) → are_numbered host k entries ≡ true → filter (is_own host) entries ≡ filter (is_own_asked script host) entries ++ filter (is_implied script host) entries
parted script host k [] h = refl
parted script host k (Called caller n call reply ∷ entries) h =
    by (caller.0 == host.0) (nat_le n (call_lines script caller.0)) refl refl (fst_true _ _ h) (λ m r. parted script host m entries r) (snd_true _ _ h)
  where
    by : (v w : Bool) → (caller.0 == host.0) ≡ v → nat_le n (call_lines script caller.0) ≡ w → (if v then n == k else true) ≡ true →
        ((m : ℕ) → are_numbered host m entries ≡ true → filter (is_own host) entries ≡ filter (is_own_asked script host) entries ++ filter (is_implied script host) entries) →
        are_numbered host (if v then k + 1 else k) entries ≡ true →
        filter (is_own host) (Called caller n call reply ∷ entries) ≡ filter (is_own_asked script host) (Called caller n call reply ∷ entries) ++ filter (is_implied script host) (Called caller n call reply ∷ entries)
    by true true e f q more r = rw (e, f) (ap (λ l. Called caller n call reply ∷ l) (more (k + 1) r))
    by true false e f q more r =
        let same : n ≡ k = eqb-true n k q in
        let here : caller.0 ≡ host.0 = eqb-true caller.0 host.0 e in
        let above : call_lines script caller.0 < n = false_lt n (call_lines script caller.0) f in
        let past : call_lines script host.0 < k + 1 = subst (λ h. call_lines script h < k + 1) here (omega arith) in
        let none : filter (is_own_asked script host) entries ≡ [] = late script host (k + 1) entries past r in
        rw (e, f, none) (ap (λ l. Called caller n call reply ∷ l) (rw none at (more (k + 1) r)))
    by false w e f q more r = rw e (more k r)
parted script host k (Stored writer fid spans len ∷ entries) h = parted script host k entries h
parted script host k (Down other server ∷ entries) h = parted script host k entries h
parted script host k (Left server id ∷ entries) h = parted script host k entries h

-- the calls of a host among what is brought about
abbrev asks_by : HostId → Act → List Asked
asks_by host (Asks caller call) = if caller.0 == host.0 then record { host = caller; call = call } ∷ [] else []
asks_by host (Falls down server) = []

abbrev asks_in : HostId → List Act → List Asked
asks_in host acts = flat_map (asks_by host) acts

asks_entries : (script : Script) (host : HostId) (entries : List Entry) → asks_in host (acts_in script entries) ≡ calls_in (filter (is_own_asked script host) entries)
asks_entries script host [] = refl
asks_entries script host (Called caller n call reply ∷ entries) =
    flat_map-append (asks_by host) (act_in script (Called caller n call reply)) (acts_in script entries) ∙ by (caller.0 == host.0) (nat_le n (call_lines script caller.0)) refl refl (asks_entries script host entries)
  where
    by : (v w : Bool) → (caller.0 == host.0) ≡ v → nat_le n (call_lines script caller.0) ≡ w → asks_in host (acts_in script entries) ≡ calls_in (filter (is_own_asked script host) entries) →
        asks_in host (act_in script (Called caller n call reply)) ++ asks_in host (acts_in script entries) ≡ calls_in (filter (is_own_asked script host) (Called caller n call reply ∷ entries))
    by true true e f more = rw (e, f) (rw e (ap (λ l. record { host = caller; call = call } ∷ l) more))
    by true false e f more = rw (e, f) more
    by false true e f more = rw (e, f) (rw e more)
    by false false e f more = rw (e, f) more
asks_entries script host (Stored writer fid spans len ∷ entries) = asks_entries script host entries
asks_entries script host (Down other server ∷ entries) = asks_entries script host entries
asks_entries script host (Left server id ∷ entries) = asks_entries script host entries

asks_falls : (host down : HostId) (server n : ℕ) → asks_in host (falls_from down server n) ≡ []
asks_falls host down server zero = refl
asks_falls host down server (suc n) = asks_falls host down (server + 1) n

asks_line : (host : HostId) (servers : ℕ) (node : Node) (deed : Deed) → asks_in host (acts_by servers node deed) ≡ filter (λ asked. asked.host.0 == host.0) (asked_by node deed)
asks_line host servers (Host caller) (Call call) = append-nil _
asks_line host servers (Host caller) Stop = asks_falls host caller 1 servers
asks_line host servers (Host caller) deed = refl
asks_line host servers (Server server) deed = refl

asks_lines : (host : HostId) (servers : ℕ) (lines : List Line) → asks_in host (acts_of servers lines) ≡ own_calls host lines
asks_lines host servers [] = refl
asks_lines host servers (line ∷ lines) =
    flat_map-append (asks_by host) (acts_by servers line.node line.deed) (acts_of servers lines)
    ∙ (ap (λ l. l ++ asks_in host (acts_of servers lines)) (asks_line host servers line.node line.deed)
    ∙ (ap (λ l. filter (λ asked. asked.host.0 == host.0) (asked_by line.node line.deed) ++ l) (asks_lines host servers lines)
    ∙ sym (filter-append (λ asked. asked.host.0 == host.0) (asked_by line.node line.deed) (calls_of lines))))

-- a host stops at its own lines
stops_own : (host : HostId) (lines : List Line) → stops host lines ≡ list_any (λ line. is_stop line.deed) (filter (is_of (Host host)) lines)
stops_own host [] = refl
stops_own host (line ∷ lines) = by (is_of (Host host) line) refl (stops_own host lines)
  where
    by : (v : Bool) → is_of (Host host) line ≡ v → stops host lines ≡ list_any (λ line. is_stop line.deed) (filter (is_of (Host host)) lines) →
        ((v && is_stop line.deed) || stops host lines) ≡ list_any (λ line. is_stop line.deed) (if v then line ∷ filter (is_of (Host host)) lines else filter (is_of (Host host)) lines)
    by true e more = ap (λ v. is_stop line.deed || v) more
    by false e more = more

same_calls : (script : Script) (host : HostId) (order : List Line) → filter (is_of (Host host)) order ≡ filter (is_of (Host host)) script.lines → own_calls host (script.setup ++ order) ≡ own_calls host (script.setup ++ script.lines)
same_calls script host order e =
    let one : own_calls host order ≡ own_calls host script.lines = own_by host order ∙ (ap calls_of e ∙ sym (own_by host script.lines)) in
    own_append host script.setup order ∙ (ap (λ l. own_calls host script.setup ++ l) one ∙ sym (own_append host script.setup script.lines))

same_stops : (script : Script) (host : HostId) (order : List Line) → filter (is_of (Host host)) order ≡ filter (is_of (Host host)) script.lines → stops host (script.setup ++ order) ≡ stops host (script.setup ++ script.lines)
same_stops script host order e =
    let one : stops host order ≡ stops host script.lines = stops_own host order ∙ (ap (list_any (λ line. is_stop line.deed)) e ∙ sym (stops_own host script.lines)) in
    stops_append host script.setup order ∙ (ap (λ v. stops host script.setup || v) one ∙ sym (stops_append host script.setup script.lines))

pub calls_follow : CallsFollowLines
calls_follow script played host p =
    let history : List Entry = played.history in
    let order : List Line = lines_at script.lines played.order in
    let all : filter (is_own host) history ≡ filter (is_own_asked script host) history ++ filter (is_implied script host) history = parted script host 1 history (p.done.numbered host) in
    let each : filter (is_of (Host host)) order ≡ filter (is_of (Host host)) script.lines = p.order.each (Host host) in
    let asked : calls_in (filter (is_own_asked script host) history) ≡ own_calls host (script.setup ++ script.lines) =
    sym (asks_entries script host history) ∙ (ap (asks_in host) p.done.acts ∙ (asks_lines host _ (script.setup ++ order) ∙ same_calls script host order each)) in
    let last : calls_in (filter (is_implied script host) history) ≡ last_calls script (script.setup ++ script.lines) host history =
    p.done.implied host ∙ ap (λ v. if v then [] else endings script host history) (same_stops script host order each) in
    ap calls_in all ∙ (calls_append (filter (is_own_asked script host) history) (filter (is_implied script host) history) ∙ (ap (λ l. l ++ calls_in (filter (is_implied script host) history)) asked ∙ ap (λ l. own_calls host (script.setup ++ script.lines) ++ l) last))
