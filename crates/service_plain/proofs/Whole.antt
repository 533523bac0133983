-- A run from its first line to its last.
use Rattle.std.proofs.Common.{◌≡◌, ℕ, ◌+◌, ◌≤◌, Bool, nat_le, ◌&&◌, true, false, not, List, [], ◌++◌, length, refl, sym, ap, subst, ◌∙◌, arith, rules, length-append}
use Rattle.std.specs.Prelude.{◌==◌, ◌∷◌, if◌then◌else◌, cond, filter, count_by, IsPermutation}
use Rattle.std.specs.List.{list_all}
use Rattle.std.proofs.lemmas.Grind.{common_steps}
use Rattle.std.proofs.lemmas.List.{append-nil}
use Rattle.std.proofs.lemmas.List.Recursion.{is_count_by}
use Rattle.base_types.specs.declared.ids.HostId.{HostId}
use Rattle.std.proofs.lemmas.List.Elements.{filter-append}
use Rattle.base_types.specs.declared.ids.Node.{Node}
use Rattle.base_types.specs.declared.ids.Node.TheVariants.{Host, Server}
use Rattle.base_types.specs.declared.limits.TheConstants.{HOSTS_MAX, SERVERS_MAX}
use Rattle.tree_calls.specs.Limits.{keeps_limit}
use Rattle.tree_calls.specs.declared.call.Call.{Call as CallOf}
use Rattle.tree_calls.specs.declared.call.Call.TheVariants.{NewFileset}
use Rattle.tree_answers.specs.declared.tree.Tree.{Tree}
use Rattle.tree_answers.specs.Histories.{after_history}
use Rattle.script_lines.specs.Asks.{is_host, is_call, is_call_of, call_lines}
use Rattle.script_lines.specs.Sound.{is_of, is_sound_line, is_sound_deed, is_sound_call, makes_fileset, is_server, is_setup_line, is_setup_call, IsSound}
use Rattle.script_lines.specs.declared.script.Deed.{Deed}
use Rattle.script_lines.specs.declared.script.Deed.TheVariants.{Call, Raise, Await, Stop, Restart}
use Rattle.script_lines.specs.declared.script.Line.{Line}
use Rattle.script_lines.specs.declared.script.Script.{Script}
use Rattle.script_reader.specs.Orders.{IsOrder}
use Rattle.service_plain.specs.Calls.{Asked, asked_by, calls_of, own_calls}
use Rattle.service_plain.specs.Played.{IsStart, IsPlayed}
use Rattle.service_plain.specs.Seats.{is_seated, lines_at, all_places}
use Rattle.service_plain.specs.Underway.{IsUnderway, IsFit, AreCounted, GoesAlong, IsNew, may_go, keeps_deed, played_so}
use Rattle.service_plain.specs.declared.play.Play.{Play}
use Rattle.service_plain.proofs.Histories.{fst_true, snd_true, both_true, all_so}
use Rattle.service_plain.proofs.Seats.{same_eq}
use Rattle.service_plain.proofs.Steps.{own_append, own_by}

le_of : (a b : ℕ) → nat_le a b ≡ true → a ≤ b
le_of a b h = grind (arith, common_steps, h)

true_le : (a b : ℕ) → a ≤ b → nat_le a b ≡ true
true_le a b h = grind (arith, common_steps)

le_through : (a b c : ℕ) → nat_le a b ≡ true → nat_le b c ≡ true → nat_le a c ≡ true
le_through a b c h k = let x = le_of a b h in let y = le_of b c k in true_le a c (omega arith)

limit_of : (call : CallOf) → not (makes_fileset call) ≡ true → keeps_limit call ≡ true
limit_of (NewFileset server name objects owner) h = cc
limit_of call h = refl

hosts_within : (script : Script) → IsSound script → nat_le (length script.roster.hosts) HOSTS_MAX ≡ true
hosts_within script s = snd_true _ _ (fst_true _ _ (fst_true _ _ (fst_true _ _ s.roster)))

servers_within : (script : Script) → IsSound script → nat_le script.servers SERVERS_MAX ≡ true
servers_within script s = rw s.servers (snd_true _ _ (fst_true _ _ (fst_true _ _ (fst_true _ _ (fst_true _ _ s.roster)))))

deed_may : (script : Script) → IsSound script → (node : Node) (deed : Deed) → is_sound_deed script.servers (length script.roster.hosts) node deed ≡ true → (is_seated node && keeps_deed deed) ≡ true
deed_may script s (Host host) (Call call) h = both_true _ _ (le_through _ _ _ (snd_true _ _ (fst_true _ _ h)) (hosts_within script s)) (limit_of call (snd_true _ _ (snd_true _ _ h)))
deed_may script s (Host host) deed h = both_true _ _ (le_through _ _ _ (snd_true _ _ (fst_true _ _ h)) (hosts_within script s)) refl
deed_may script s (Server server) (Call call) h = absurd (search (rules, snd_true (is_server script.servers server) false h))
deed_may script s (Server server) deed h = both_true _ _ (both_true _ _ (fst_true _ _ (fst_true _ _ h)) (le_through _ _ _ (snd_true _ _ (fst_true _ _ h)) (servers_within script s))) refl

-- the lines of a script may go
pub lines_may : (script : Script) → IsSound script → list_all may_go script.lines ≡ true
lines_may script s = all_so (is_sound_line script.servers (length script.roster.hosts)) may_go (λ line h. deed_may script s line.node line.deed h) script.lines s.lines

setup_deed : (servers : ℕ) (deed : Deed) → is_setup_call servers deed ≡ true → keeps_deed deed ≡ true
setup_deed servers (Call (NewFileset server name objects owner)) h = snd_true _ _ (fst_true _ _ (fst_true _ _ h))
setup_deed servers (Call call) h = absurd (search (rules, snd_true (is_sound_call servers call) (makes_fileset call) h))
setup_deed servers deed h = refl

pub setup_may : (script : Script) → IsSound script → list_all may_go script.setup ≡ true
setup_may script s = all_so (is_setup_line script.servers) may_go (λ line h. let e = same_eq line.node (Host (record { 0 = 0 })) (fst_true _ _ h) in both_true _ _ (rw e refl) (setup_deed script.servers line.deed (snd_true _ _ h))) script.setup s.setup

pub lines_seated : (script : Script) → IsSound script → list_all (λ line. is_seated line.node) script.lines ≡ true
lines_seated script s = all_so may_go (λ line. is_seated line.node) (λ line h. fst_true _ _ h) script.lines (lines_may script s)

-- in any order a host is asked for as many calls
-- the calls that lines ask a host for, counted
one_asked : (host : HostId) (node : Node) (deed : Deed) → length (filter (λ asked. asked.host.0 == host.0) (asked_by node deed)) ≡ cond (is_host host.0 node && is_call deed) 1 0
one_asked host (Host id) (Call call) = let asked : Asked = record { host = id; call = call } in elim (id.0 == host.0) as (λ v. length (if v then asked ∷ [] else []) ≡ cond (v && true) 1 0) [ true ↦ refl | false ↦ refl ]
one_asked host (Host id) (Raise flag) = elim (id.0 == host.0) as (λ v. ◌≡◌ {A = ℕ} 0 (cond (v && false) 1 0)) [ true ↦ refl | false ↦ refl ]
one_asked host (Host id) (Await flag) = elim (id.0 == host.0) as (λ v. ◌≡◌ {A = ℕ} 0 (cond (v && false) 1 0)) [ true ↦ refl | false ↦ refl ]
one_asked host (Host id) Stop = elim (id.0 == host.0) as (λ v. ◌≡◌ {A = ℕ} 0 (cond (v && false) 1 0)) [ true ↦ refl | false ↦ refl ]
one_asked host (Host id) Restart = elim (id.0 == host.0) as (λ v. ◌≡◌ {A = ℕ} 0 (cond (v && false) 1 0)) [ true ↦ refl | false ↦ refl ]
one_asked host (Server id) deed = refl

one_more : (b : Bool) (n : ℕ) → cond b 1 0 + n ≡ cond b (1 + n) n
one_more true n = refl
one_more false n = omega arith

counted_calls : (host : HostId) (lines : List Line) → count_by (is_call_of host.0) lines ≡ length (own_calls host lines)
counted_calls host lines = sym (is_count_by (λ l. length (own_calls host l)) (is_call_of host.0) refl step lines)
  where
    step : (line : Line) (rest : List Line) → length (own_calls host (line ∷ rest)) ≡ cond (is_call_of host.0 line) (1 + length (own_calls host rest)) (length (own_calls host rest))
    step line rest =
        ap length (filter-append _ (asked_by line.node line.deed) (calls_of rest)) ∙ length-append (filter (λ asked. asked.host.0 == host.0) (asked_by line.node line.deed)) (own_calls host rest)
        ∙ ap (λ n. n + length (own_calls host rest)) (one_asked host line.node line.deed) ∙ one_more (is_call_of host.0 line) (length (own_calls host rest))

counted_order : (script : Script) (order : List Line) → IsOrder script.lines order → AreCounted script (script.setup ++ order)
unfolding call_lines
counted_order script order o host =
    let same : own_calls host order ≡ own_calls host script.lines = own_by host order ∙ (ap calls_of (o.each (Host host)) ∙ sym (own_by host script.lines)) in
    counted_calls host (script.setup ++ script.lines) ∙ ap length (own_append host script.setup script.lines ∙ (ap (λ l. own_calls host script.setup ++ l) (sym same) ∙ sym (own_append host script.setup order)))

-- before the first line
pub fit_first : (script : Script) (start : Tree) (play : Play) → IsStart script.roster start → IsNew script start play → IsFit play
fit_first script start play e n = record { desks = n.desks; formed = rw n.tree e.formed; rest = rw n.tree e.rest; rooms = rw n.tree e.rooms }

underway_first : (script : Script) (start : Tree) (order : List Line) (play : Play) → IsOrder script.lines order → IsStart script.roster start → IsNew script start play → IsUnderway script start [] (script.setup ++ order) play
underway_first script start order play o e n = record {
  steady = record { legal = rw n.history tt; tree = n.tree ∙ sym (ap (after_history start) n.history); formed = rw n.tree e.formed; rest = rw n.tree e.rest; lefts = rw n.history refl; stores = rw n.history e.rest; rooms = rw n.tree e.rooms; roster = rw n.tree e.roster };
  acts = rw n.history refl;
  numbered = λ host. rw n.history refl;
  desks = n.desks;
  desk = λ host desk h. rw (n.each host desk h) (record {
    left = sym (ap length (filter-append (is_of (Host host)) script.setup order) ∙ (length-append (filter (is_of (Host host)) script.setup) (filter (is_of (Host host)) order) ∙ ap (λ l. length (filter (is_of (Host host)) script.setup) + length l) (o.each (Host host))));
    stopped = refl;
    going = λ _. record { calls = refl; next = rw n.history refl; uses = rw n.history refl; implied = rw n.history refl };
  });
  closed = λ host _. rw n.history refl;
}

-- after the last line
pub all_played : (script : Script) (start : Tree) (places : List ℕ) (first between last : Play) → IsPermutation (all_places script.lines) places → IsOrder script.lines (lines_at script.lines places) → IsStart script.roster start → IsNew script start first →
    GoesAlong script.setup first between → GoesAlong (lines_at script.lines places) between last → IsPlayed script (played_so start last.past places)
all_played script start places first between last p o e n a b =
    let order : List Line = lines_at script.lines places in
    let c : AreCounted script (script.setup ++ order) = counted_order script order o in
    let mid : IsUnderway script start script.setup order between = a script start [] order c (underway_first script start order first o e n) in
    let done : IsUnderway script start (script.setup ++ order) [] last =
    b script start script.setup [] (subst (λ l. AreCounted script (script.setup ++ l)) (sym (append-nil order)) c) (subst (λ l. IsUnderway script start script.setup l between) (sym (append-nil order)) mid) in
    record {
      start = e;
      legal = done.steady.legal;
      places = p;
      order = o;
      done = record { acts = done.acts; numbered = done.numbered; implied = λ host. done.closed host refl };
      last = done.steady.tree;
      lefts = done.steady.lefts;
      stores = done.steady.stores;
      rooms = done.steady.rooms;
    }

pub ruleset whole = (lines_may, setup_may, lines_seated, fit_first, all_played)
