-- A host makes no call and stores nothing after it is down.
use Rattle.std.proofs.Common.{◌≡◌, ℕ, zero, suc, ◌+◌, ◌==◌, nat_le, ◌&&◌, ◌||◌, not, Bool, true, false, List, [], ◌∷◌, ◌++◌, length, Option, Some, None, refl, sym, ap, subst, ◌∙◌}
use Rattle.std.specs.Prelude.{filter, if◌then◌else◌}
use Rattle.std.specs.List.{list_any, list_all}
use Rattle.std.specs.Option.{option_map}
use Rattle.std.proofs.lemmas.Bool.{eqb-true, eq-eqb}
use Rattle.std.proofs.lemmas.List.Elements.{filter-append}
use Rattle.base_types.specs.Ids.{same_fid}
use Rattle.base_types.specs.declared.ids.Fid.{Fid}
use Rattle.base_types.specs.declared.ids.HostId.{HostId}
use Rattle.tree_calls.specs.declared.call.Call.{Call as CallOf}
use Rattle.tree_calls.specs.declared.call.Call.TheVariants.{Write}
use Rattle.tree_calls.specs.declared.reply.Reply.{Reply}
use Rattle.tree_answers.specs.declared.tree.Tree.{Tree}
use Rattle.tree_answers.specs.Histories.{after_entry, after_history}
use Rattle.tree_answers.specs.Stores.{stored_tree}
use Rattle.tree_saving.specs.Saving.{fid_named, is_store_by}
use Rattle.base_types.specs.declared.ids.ServerId.{ServerId}
use Rattle.base_types.specs.declared.ids.Node.{Node}
use Rattle.base_types.specs.declared.ids.Node.TheVariants.{Host, Server}
use Rattle.tree_calls.specs.declared.entry.Entry.{Entry}
use Rattle.tree_calls.specs.declared.entry.Entry.TheVariants.{Call as Called, Stored, Down, Left}
use Rattle.script_lines.specs.Asks.{call_lines}
use Rattle.script_lines.specs.Sound.{same_node, is_of, is_stop, stops_last, is_setup_line, is_setup_call}
use Rattle.script_lines.specs.declared.script.Deed.{Deed}
use Rattle.script_lines.specs.declared.script.Deed.TheVariants.{Call, Raise, Await, Stop, Restart}
use Rattle.script_lines.specs.declared.script.Line.{Line}
use Rattle.script_lines.specs.declared.script.Script.{Script}
use Rattle.service_plain.specs.Calls.{Act, Asks, Falls, is_asked, falls_from, acts_of, acts_in}
use Rattle.service_plain.specs.Laws.{DownIsLast}
use Rattle.service_plain.specs.Played.{calls_in, is_own, is_implied, stops, stops_at, endings, is_due, written_by, stores_stand}
use Rattle.service_plain.specs.Seats.{lines_at}
use Rattle.service_plain.proofs.Histories.{fst_true, snd_true, both_true, acts_append}
use Rattle.service_plain.proofs.Seats.{same_eq}
use Rattle.service_plain.proofs.Each.{is_own_asked}

self : (host : HostId) → (host.0 == host.0) ≡ true
self host = eq-eqb host.0 host.0 refl

-- whether a host is asked for a call, and whether it is down
abbrev asks_any : HostId → List Act → Bool
asks_any host [] = false
asks_any host (Asks caller call ∷ acts) = (caller.0 == host.0) || asks_any host acts
asks_any host (Falls down server ∷ acts) = asks_any host acts

abbrev falls_any : HostId → List Act → Bool
falls_any host [] = false
falls_any host (Asks caller call ∷ acts) = falls_any host acts
falls_any host (Falls down server ∷ acts) = (down.0 == host.0) || falls_any host acts

-- whether a host is asked for nothing once it is down
abbrev falls_last : HostId → List Act → Bool
falls_last host [] = true
falls_last host (Asks caller call ∷ acts) = falls_last host acts
falls_last host (Falls down server ∷ acts) = (if down.0 == host.0 then not (asks_any host acts) else true) && falls_last host acts

-- whether of one host's lines none comes after its stop
abbrev is_last : List Line → Bool
is_last [] = true
is_last (line ∷ lines) = false

abbrev stop_is_last : List Line → Bool
stop_is_last [] = true
stop_is_last (line ∷ lines) = (if is_stop line.deed then is_last lines else true) && stop_is_last lines

asks_falls : (host down : HostId) (server n : ℕ) (acts : List Act) → asks_any host (falls_from down server n ++ acts) ≡ asks_any host acts
asks_falls host down server zero acts = refl
asks_falls host down server (suc n) acts = asks_falls host down (server + 1) n acts

falls_others : (host down : HostId) (server n : ℕ) (acts : List Act) → (down.0 == host.0) ≡ false → falls_any host (falls_from down server n ++ acts) ≡ falls_any host acts
falls_others host down server zero acts d = refl
falls_others host down server (suc n) acts d = rw d (falls_others host down (server + 1) n acts d)

falls_then : (host down : HostId) (server n : ℕ) (acts : List Act) → ((down.0 == host.0) ≡ true → asks_any host acts ≡ false) → falls_last host acts ≡ true → falls_last host (falls_from down server n ++ acts) ≡ true
falls_then host down server zero acts f h = h
falls_then host down server (suc n) acts f h = both_true _ _ (by (down.0 == host.0) refl) (falls_then host down (server + 1) n acts f h)
  where
    by : (v : Bool) → (down.0 == host.0) ≡ v → (if v then not (asks_any host (falls_from down (server + 1) n ++ acts)) else true) ≡ true
    by true e = rw (asks_falls host down (server + 1) n acts, f e) refl
    by false e = refl

-- lines of others ask a host for nothing
asks_nothing : (servers : ℕ) (host : HostId) (lines : List Line) → filter (is_of (Host host)) lines ≡ [] → asks_any host (acts_of servers lines) ≡ false
asks_nothing servers host [] h = refl
asks_nothing servers host (line ∷ lines) h = by (is_of (Host host) line) refl h (λ k. asks_nothing servers host lines k)
  where
    line_of : (node : Node) (deed : Deed) → is_of (Host host) (record { node = node; deed = deed; number = line.number }) ≡ false → asks_any host (acts_of servers lines) ≡ false →
        asks_any host (acts_of servers (record { node = node; deed = deed; number = line.number } ∷ lines)) ≡ false
    line_of (Host caller) (Call call) e k = rw (e, k) refl
    line_of (Host caller) Stop e k = asks_falls host caller 1 servers (acts_of servers lines) ∙ k
    line_of (Host caller) deed e k = k
    line_of (Server server) deed e k = k

    by : (v : Bool) → is_of (Host host) line ≡ v → (if v then line ∷ filter (is_of (Host host)) lines else filter (is_of (Host host)) lines) ≡ [] →
        (filter (is_of (Host host)) lines ≡ [] → asks_any host (acts_of servers lines) ≡ false) → asks_any host (acts_of servers (line ∷ lines)) ≡ false
    by true e k more = cc
    by false e k more = line_of line.node line.deed e (more k)

none_after : (lines : List Line) → is_last lines ≡ true → lines ≡ []
none_after [] h = refl
none_after (line ∷ lines) h = cc

-- a host's stop is the last of its acts where it is the last of its lines
falls_are_last : (servers : ℕ) (host : HostId) (lines : List Line) → stop_is_last (filter (is_of (Host host)) lines) ≡ true → falls_last host (acts_of servers lines) ≡ true
falls_are_last servers host [] h = refl
falls_are_last servers host (line ∷ lines) h = by (is_of (Host host) line) refl h (λ k. falls_are_last servers host lines k)
  where
    line_of : (node : Node) (deed : Deed) → (is_of (Host host) (record { node = node; deed = deed; number = line.number }) ≡ true → is_stop deed ≡ true → filter (is_of (Host host)) lines ≡ []) → falls_last host (acts_of servers lines) ≡ true →
        falls_last host (acts_of servers (record { node = node; deed = deed; number = line.number } ∷ lines)) ≡ true
    line_of (Host caller) (Call call) f k = k
    line_of (Host caller) Stop f k = falls_then host caller 1 servers (acts_of servers lines) (λ e. asks_nothing servers host lines (f e refl)) k
    line_of (Host caller) deed f k = k
    line_of (Server server) deed f k = k

    by : (v : Bool) → is_of (Host host) line ≡ v → stop_is_last (if v then line ∷ filter (is_of (Host host)) lines else filter (is_of (Host host)) lines) ≡ true →
        (stop_is_last (filter (is_of (Host host)) lines) ≡ true → falls_last host (acts_of servers lines) ≡ true) → falls_last host (acts_of servers (line ∷ lines)) ≡ true
    by true e k more = line_of line.node line.deed (λ _ s. let q : (if is_stop line.deed then is_last (filter (is_of (Host host)) lines) else true) ≡ true = fst_true _ _ k in none_after (filter (is_of (Host host)) lines) (rw s at q)) (more (snd_true _ _ k))
    by false e k more = line_of line.node line.deed (λ q s. cc) (more k)

any_none : {X : Type 0} (p : X → Bool) (xs : List X) → list_any p xs ≡ false → filter p xs ≡ []
any_none p [] h = refl
any_none p (x ∷ xs) h = by (p x) refl h (λ k. any_none p xs k)
  where
    by : (v : Bool) → p x ≡ v → (v || list_any p xs) ≡ false → (list_any p xs ≡ false → filter p xs ≡ []) → filter p (x ∷ xs) ≡ []
    by true e k more = cc
    by false e k more = rw e (more k)

not_false : (a : Bool) → not a ≡ true → a ≡ false
not_false true h = cc
not_false false h = refl

stops_are_last : (node : Node) (lines : List Line) → stops_last lines ≡ true → stop_is_last (filter (is_of node) lines) ≡ true
stops_are_last node [] h = refl
stops_are_last node (line ∷ lines) h = by (is_of node line) refl (stops_are_last node lines (snd_true _ _ h))
  where
    by : (v : Bool) → is_of node line ≡ v → stop_is_last (filter (is_of node) lines) ≡ true → stop_is_last (if v then line ∷ filter (is_of node) lines else filter (is_of node) lines) ≡ true
    by true e k = both_true _ _ (stop (is_stop line.deed) refl) k
      where
        stop : (w : Bool) → is_stop line.deed ≡ w → (if w then is_last (filter (is_of node) lines) else true) ≡ true
        stop true s =
            let q : not (is_stop line.deed && list_any (is_of line.node) lines) ≡ true = fst_true _ _ h in
            let any : list_any (is_of line.node) lines ≡ false = not_false _ (rw s at q) in
            let none : filter (is_of node) lines ≡ [] = subst (λ n. filter (is_of n) lines ≡ []) (same_eq line.node node e) (any_none (is_of line.node) lines any) in
            rw none refl
        stop false s = refl
    by false e k = k

setup_calls : (servers : ℕ) (deed : Deed) → is_setup_call servers deed ≡ true → is_stop deed ≡ false
setup_calls servers (Call call) h = refl
setup_calls servers Stop h = cc
setup_calls servers (Raise flag) h = refl
setup_calls servers (Await flag) h = refl
setup_calls servers Restart h = refl

setup_first : (servers : ℕ) (node : Node) (setup lines : List Line) → list_all (is_setup_line servers) setup ≡ true → stop_is_last lines ≡ true → stop_is_last (filter (is_of node) setup ++ lines) ≡ true
setup_first servers node [] lines h k = k
setup_first servers node (line ∷ setup) lines h k = by (is_of node line) (setup_first servers node setup lines (snd_true _ _ h) k)
  where
    no : is_stop line.deed ≡ false
    no = setup_calls servers line.deed (snd_true (same_node line.node (Host (record { 0 = 0 }))) (is_setup_call servers line.deed) (fst_true (is_setup_line servers line) (list_all (is_setup_line servers) setup) h))

    by : (v : Bool) → stop_is_last (filter (is_of node) setup ++ lines) ≡ true → stop_is_last ((if v then line ∷ filter (is_of node) setup else filter (is_of node) setup) ++ lines) ≡ true
    by true m = both_true _ _ (rw no refl) m
    by false m = m

-- nothing is asked after a fall
nothing_after : (host : HostId) (server : ServerId) (before after : List Act) → falls_last host (before ++ Falls host server ∷ after) ≡ true → asks_any host after ≡ false
nothing_after host server [] after h = let q : (if host.0 == host.0 then not (asks_any host after) else true) ≡ true = fst_true _ _ h in not_false (asks_any host after) (rw (self host) at q)
nothing_after host server (Asks caller call ∷ before) after h = nothing_after host server before after h
nothing_after host server (Falls down at ∷ before) after h = nothing_after host server before after (snd_true _ _ h)

falls_there : (host : HostId) (server : ServerId) (before after : List Act) → falls_any host (before ++ Falls host server ∷ after) ≡ true
falls_there host server [] after = rw (self host) refl
falls_there host server (Asks caller call ∷ before) after = falls_there host server before after
falls_there host server (Falls down at ∷ before) after = or_true (down.0 == host.0) (falls_there host server before after)
  where
    or_true : (a : Bool) → falls_any host (before ++ Falls host server ∷ after) ≡ true → (a || falls_any host (before ++ Falls host server ∷ after)) ≡ true
    or_true true h = refl
    or_true false h = h

-- a host is down only where it stops
falls_none : (servers : ℕ) (host : HostId) (lines : List Line) → stops host lines ≡ false → falls_any host (acts_of servers lines) ≡ false
falls_none servers host [] h = refl
falls_none servers host (line ∷ lines) h = line_of line.node line.deed h (λ k. falls_none servers host lines k)
  where
    line_of : (node : Node) (deed : Deed) → (stops_at host (record { node = node; deed = deed; number = line.number }) || stops host lines) ≡ false → (stops host lines ≡ false → falls_any host (acts_of servers lines) ≡ false) →
        falls_any host (acts_of servers (record { node = node; deed = deed; number = line.number } ∷ lines)) ≡ false
    line_of (Host caller) (Call call) k more = more (other _ _ k)
      where
        other : (a b : Bool) → ((a && false) || b) ≡ false → b ≡ false
        other true b k = k
        other false b k = k
    line_of (Host caller) Stop k more = by (caller.0 == host.0) refl k
      where
        by : (v : Bool) → (caller.0 == host.0) ≡ v → ((v && true) || stops host lines) ≡ false → falls_any host (falls_from caller 1 servers ++ acts_of servers lines) ≡ false
        by true e g = cc
        by false e g = falls_others host caller 1 servers (acts_of servers lines) e ∙ more g
    line_of (Host caller) deed k more = more (other _ _ k)
      where
        other : (a b : Bool) → ((a && false) || b) ≡ false → b ≡ false
        other true b k = k
        other false b k = k
    line_of (Server server) deed k more = more k

-- what isn't asked for
asked_none : (script : Script) (host : HostId) (entries : List Entry) → asks_any host (acts_in script entries) ≡ false → filter (is_own_asked script host) entries ≡ []
asked_none script host [] h = refl
asked_none script host (Called caller n call reply ∷ entries) h = by (caller.0 == host.0) (nat_le n (call_lines script caller.0)) refl refl h (λ k. asked_none script host entries k)
  where
    by : (v w : Bool) → (caller.0 == host.0) ≡ v → nat_le n (call_lines script caller.0) ≡ w → asks_any host ((if w then Asks caller call ∷ [] else []) ++ acts_in script entries) ≡ false →
        (asks_any host (acts_in script entries) ≡ false → filter (is_own_asked script host) entries ≡ []) → filter (is_own_asked script host) (Called caller n call reply ∷ entries) ≡ []
    by true true e f k more = let z : (true || asks_any host (acts_in script entries)) ≡ false = rw e at k in cc
    by true false e f k more = rw (e, f) (more k)
    by false true e f k more = rw e (more (rw e at k))
    by false false e f k more = rw e (more k)
asked_none script host (Stored writer fid spans len ∷ entries) h = asked_none script host entries h
asked_none script host (Down other server ∷ entries) h = asked_none script host entries h
asked_none script host (Left server id ∷ entries) h = asked_none script host entries h

implied_none : (script : Script) (host : HostId) (entries : List Entry) → calls_in (filter (is_implied script host) entries) ≡ [] → filter (is_implied script host) entries ≡ []
implied_none script host [] h = refl
implied_none script host (Called caller n call reply ∷ entries) h = by (is_implied script host (Called caller n call reply)) h (λ k. implied_none script host entries k)
  where
    by : (v : Bool) → calls_in (if v then Called caller n call reply ∷ filter (is_implied script host) entries else filter (is_implied script host) entries) ≡ [] →
        (calls_in (filter (is_implied script host) entries) ≡ [] → filter (is_implied script host) entries ≡ []) → (if v then Called caller n call reply ∷ filter (is_implied script host) entries else filter (is_implied script host) entries) ≡ []
    by true k more = cc
    by false k more = more k
implied_none script host (Stored writer fid spans len ∷ entries) h = implied_none script host entries h
implied_none script host (Down other server ∷ entries) h = implied_none script host entries h
implied_none script host (Left server id ∷ entries) h = implied_none script host entries h

own_none : (script : Script) (host : HostId) (entries : List Entry) → filter (is_own_asked script host) entries ≡ [] → filter (is_implied script host) entries ≡ [] → filter (is_own host) entries ≡ []
own_none script host [] h k = refl
own_none script host (entry ∷ entries) h k = by (is_own host entry) (is_asked script entry) refl refl h k (λ a b. own_none script host entries a b)
  where
    by : (v w : Bool) → is_own host entry ≡ v → is_asked script entry ≡ w → (if v && w then entry ∷ filter (is_own_asked script host) entries else filter (is_own_asked script host) entries) ≡ [] →
        (if v && not w then entry ∷ filter (is_implied script host) entries else filter (is_implied script host) entries) ≡ [] →
        (filter (is_own_asked script host) entries ≡ [] → filter (is_implied script host) entries ≡ [] → filter (is_own host) entries ≡ []) → filter (is_own host) (entry ∷ entries) ≡ []
    by true true e f a b more = cc
    by true false e f a b more = cc
    by false w e f a b more = rw e (more a b)

right_none : {X : Type 0} (a b : List X) → a ++ b ≡ [] → b ≡ []
right_none [] b h = h
right_none (x ∷ a) b h = cc

-- what was written isn't a host's
abbrev IsOthers : HostId → Option (HostId × Fid) → Type 0
IsOthers host written = (by : HostId) (fid : Fid) → (by.0 == host.0) ≡ true → is_due written by fid ≡ false

others_call : (tree : Tree) (host caller : HostId) (n : ℕ) (call : CallOf) (reply : Reply) → (caller.0 == host.0) ≡ false → IsOthers host (written_by tree (Called caller n call reply))
others_call tree host caller n (Write place from bytes) reply d = named (fid_named tree place)
  where
    differs : (by : HostId) → (by.0 == host.0) ≡ true → (v : Bool) → (by.0 == caller.0) ≡ v → (rest : Bool) → (v && rest) ≡ false
    differs by own false e rest = refl
    differs by own true e rest = let z : (caller.0 == host.0) ≡ true = eq-eqb caller.0 host.0 (sym (eqb-true by.0 caller.0 e) ∙ eqb-true by.0 host.0 own) in cc

    named : (found : Option Fid) → IsOthers host (option_map (λ fid. (caller, fid)) found)
    named None by fid own = refl
    named (Some file) by fid own = differs by own (by.0 == caller.0) refl (same_fid fid file)
others_call tree host caller n call reply d = λ by fid own. refl

-- a host that calls no more stores no more
silent_stores : (host : HostId) (written : Option (HostId × Fid)) (tree : Tree) (entries : List Entry) → IsOthers host written → filter (is_own host) entries ≡ [] → stores_stand written tree entries ≡ true → list_any (is_store_by host) entries ≡ false
silent_stores host written tree [] o h k = refl
silent_stores host written tree (Called caller n call reply ∷ entries) o h k = by (caller.0 == host.0) refl h (λ e g. silent_stores host (written_by tree (Called caller n call reply)) (after_entry tree (Called caller n call reply)) entries (others_call tree host caller n call reply e) g (snd_true _ _ k))
  where
    by : (v : Bool) → (caller.0 == host.0) ≡ v → (if v then Called caller n call reply ∷ filter (is_own host) entries else filter (is_own host) entries) ≡ [] →
        ((caller.0 == host.0) ≡ false → filter (is_own host) entries ≡ [] → list_any (is_store_by host) entries ≡ false) → list_any (is_store_by host) entries ≡ false
    by true e g more = cc
    by false e g more = more e g
silent_stores host written tree (Stored writer fid spans len ∷ entries) o h k = by (writer.0 == host.0) refl (silent_stores host None (stored_tree tree writer fid spans len) entries (λ by fid own. refl) h (snd_true _ _ k))
  where
    by : (v : Bool) → (writer.0 == host.0) ≡ v → list_any (is_store_by host) entries ≡ false → (v || list_any (is_store_by host) entries) ≡ false
    by true e more = let due : is_due written writer fid ≡ true = fst_true _ _ (fst_true _ _ k) in let no : is_due written writer fid ≡ false = o writer fid e in cc
    by false e more = more
silent_stores host written tree (Down other server ∷ entries) o h k = silent_stores host None (after_entry tree (Down other server)) entries (λ by fid own. refl) h (snd_true _ _ k)
silent_stores host written tree (Left server id ∷ entries) o h k = silent_stores host None (after_entry tree (Left server id)) entries (λ by fid own. refl) h (snd_true _ _ k)

stand_behind : (written : Option (HostId × Fid)) (tree : Tree) (before : List Entry) (host : HostId) (server : ServerId) (after : List Entry) → stores_stand written tree (before ++ Down host server ∷ after) ≡ true →
    stores_stand None (after_entry (after_history tree before) (Down host server)) after ≡ true
stand_behind written tree [] host server after h = snd_true _ _ h
stand_behind written tree (Called caller n call reply ∷ before) host server after h = stand_behind (written_by tree (Called caller n call reply)) (after_entry tree (Called caller n call reply)) before host server after (snd_true _ _ h)
stand_behind written tree (Stored writer fid spans len ∷ before) host server after h = stand_behind None (stored_tree tree writer fid spans len) before host server after (snd_true _ _ h)
stand_behind written tree (Down other at ∷ before) host server after h = stand_behind None (after_entry tree (Down other at)) before host server after (snd_true _ _ h)
stand_behind written tree (Left at id ∷ before) host server after h = stand_behind None (after_entry tree (Left at id)) before host server after (snd_true _ _ h)

pub down_is_last : DownIsLast
down_is_last script played host server before after s p e =
    let order : List Line = lines_at script.lines played.order in
    let servers : ℕ = length script.roster.capacity in
    let lines : List Line = script.setup ++ order in
    let acts : acts_in script before ++ Falls host server ∷ acts_in script after ≡ acts_of servers lines = sym (acts_append script before (Down host server ∷ after)) ∙ (ap (acts_in script) (sym e) ∙ p.done.acts) in
    let own : filter (is_of (Host host)) lines ≡ filter (is_of (Host host)) script.setup ++ filter (is_of (Host host)) script.lines = filter-append (is_of (Host host)) script.setup order ∙ ap (λ l. filter (is_of (Host host)) script.setup ++ l) (p.order.each (Host host)) in
    let last : stop_is_last (filter (is_of (Host host)) lines) ≡ true = rw own (setup_first script.servers (Host host) script.setup _ s.setup (stops_are_last (Host host) script.lines s.stops)) in
    let falls : falls_last host (acts_in script before ++ Falls host server ∷ acts_in script after) ≡ true = rw acts (falls_are_last servers host lines last) in
    let asked : filter (is_own_asked script host) after ≡ [] = asked_none script host after (nothing_after host server (acts_in script before) (acts_in script after) falls) in
    let down : falls_any host (acts_of servers lines) ≡ true = rw (← acts) (falls_there host server (acts_in script before) (acts_in script after)) in
    let none : filter (is_implied script host) played.history ≡ [] = implied_none script host played.history (p.done.implied host ∙ by (stops host lines) refl down) in
    let rest : filter (is_implied script host) after ≡ [] = right_none (filter (is_implied script host) before) _ (sym (filter-append (is_implied script host) before (Down host server ∷ after)) ∙ (ap (filter (is_implied script host)) (sym e) ∙ none)) in
    let calls : filter (is_own host) after ≡ [] = own_none script host after asked rest in
    let stores : stores_stand None (after_entry (after_history played.start before) (Down host server)) after ≡ true = stand_behind None played.start before host server after (subst (λ list. stores_stand None played.start list ≡ true) e p.stores) in
    record { calls = calls; stores = silent_stores host None _ after (λ by fid own. refl) calls stores }
  where
    by : (v : Bool) → stops host (script.setup ++ lines_at script.lines played.order) ≡ v → falls_any host (acts_of (length script.roster.capacity) (script.setup ++ lines_at script.lines played.order)) ≡ true →
        (if v then [] else endings script host played.history) ≡ []
    by true f d = refl
    by false f d = let no : falls_any host (acts_of (length script.roster.capacity) (script.setup ++ lines_at script.lines played.order)) ≡ false = falls_none (length script.roster.capacity) host (script.setup ++ lines_at script.lines played.order) f in cc
