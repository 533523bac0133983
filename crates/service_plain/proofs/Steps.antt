-- How a run comes on, line by line.
use Rattle.std.proofs.Common.{◌≡◌, ℕ, zero, suc, ◌+◌, ◌-◌, ◌<◌, ◌≤◌, ◌==◌, nat_le, nat_lt, ◌&&◌, ◌||◌, Bool, true, false, List, [], ◌∷◌, ◌++◌, length, set, take, get_or, Some, refl, sym, ap, subst, append_assoc, ◌∙◌, arith, rules, length-append, add-one, ◌⊎◌, inl, inr}
use Rattle.std.specs.Prelude.{filter, slice_get, if◌then◌else◌}
use Rattle.std.specs.List.{list_all}
use Rattle.std.proofs.Math.ListN.{length-set}
use Rattle.std.proofs.Math.Seq.{take-suc}
use Rattle.std.proofs.lemmas.Bool.{eqb-true, eq-eqb}
use Rattle.std.proofs.lemmas.Bool.Decides.{eqb_tells}
use Rattle.std.proofs.lemmas.Grind.{common_steps, flat_map-append}
use Rattle.std.proofs.lemmas.List.{append-nil, take_all}
use Rattle.std.proofs.lemmas.List.Elements.{filter-append}
use Rattle.base_types.specs.declared.ids.HostId.{HostId}
use Rattle.base_types.specs.declared.ids.ServerId.{ServerId}
use Rattle.base_types.specs.declared.ids.Node.{Node}
use Rattle.base_types.specs.declared.ids.Node.TheVariants.{Host, Server}
use Rattle.tree_calls.specs.declared.call.Call.{Call as CallOf}
use Rattle.tree_calls.specs.declared.entry.Entry.{Entry}
use Rattle.tree_calls.specs.declared.entry.Entry.TheVariants.{Call as Called, Stored, Down, Left}
use Rattle.tree_calls.specs.declared.reply.Reply.{Reply}
use Rattle.tree_answers.specs.declared.tree.Tree.{Tree}
use Rattle.tree_saving.specs.Saving.{downs_from}
use Rattle.script_lines.specs.Asks.{call_lines}
use Rattle.script_lines.specs.Sound.{is_of, same_node}
use Rattle.service_plain.specs.Seats.{lines_at}
use Rattle.script_lines.specs.declared.script.Deed.{Deed}
use Rattle.script_lines.specs.declared.script.Deed.TheVariants.{Call, Stop}
use Rattle.script_lines.specs.declared.script.Line.{Line}
use Rattle.script_lines.specs.declared.script.Script.{Script}
use Rattle.service_plain.specs.Calls.{Asks, Asked, asked_by, calls_of, own_calls, is_asked, falls_from, acts_by, acts_of, acts_in}
use Rattle.service_plain.specs.Uses.{uses_from}
use Rattle.service_plain.specs.Played.{calls_in, is_own, are_numbered, is_implied, stops, stops_at, last_calls}
use Rattle.service_plain.specs.Underway.{is_down, is_aside, is_hers, is_above, next_from, GoesOn, IsOpen, IsAtDesk, IsClosed, IsUnderway, AreCounted, HasCalled, HasStopped, HasLeft, EndsUnless, HasActed, GoesAlong, AreNew, new_desk, desk_called, desk_stopped, desk_left}
use Rattle.service_plain.specs.declared.past.Past.{Past}
use Rattle.service_plain.specs.declared.play.Desk.{Desk}
use Rattle.service_plain.specs.declared.play.Play.{Play}
use Rattle.service_plain.proofs.Histories.{fst_true, snd_true, both_true, all_so, is_foreign, next_append, numbered_append, uses_append, next_foreign, numbered_foreign, uses_foreign, implied_foreign, stores_foreign, asked_store, down_store, downs_down, downs_foreign, acts_append, acts_none, acts_downs}
use Rattle.service_plain.proofs.Seats.{place_here, place_other, get_more}
use Rattle.service_plain.proofs.Goes.{steady_on, goes_nowhere}
use Rattle.service_plain.proofs.Ending.{take_next}
use Rattle.tree_saving.proofs.Lists.{filter_none}

-- what a host is asked for by two lots of lines
pub own_append : (host : HostId) (a b : List Line) → own_calls host (a ++ b) ≡ own_calls host a ++ own_calls host b
own_append host a b = ap (filter (λ asked. asked.host.0 == host.0)) (flat_map-append _ a b) ∙ filter-append _ (calls_of a) (calls_of b)

pub stops_append : (host : HostId) (a b : List Line) → stops host (a ++ b) ≡ (stops host a || stops host b)
stops_append host [] b = refl
stops_append host (line ∷ a) b = elim (stops_at host line) as (λ v. (v || stops host (a ++ b)) ≡ ((v || stops host a) || stops host b)) [ true ↦ refl | false ↦ stops_append host a b ]

-- a host of another number
abbrev Differ : HostId → HostId → Type 0
Differ a b = (a.0 == b.0) ≡ false

pub host_tells : (a b : HostId) → (a ≡ b) ⊎ Differ a b
host_tells a b = elim (eqb_tells a.0 b.0) as (λ _. (a ≡ b) ⊎ Differ a b) [ inl (h, e) ↦ inl (ap (λ n. record { 0 = n }) e) | inr (h, e) ↦ inr h ]

-- what another host's line says to a host: nothing
pub other_asks : (host other : HostId) (line : Line) → line.node ≡ Host host → Differ host other → own_calls other (line ∷ []) ≡ []
other_asks host other line n d = rw n (by line.deed)
  where
    by : (deed : Deed) → filter (λ asked. asked.host.0 == other.0) (asked_by (Host host) deed ++ []) ≡ []
    by (Call call) = rw d refl
    by deed = refl

pub other_stops : (host other : HostId) (line : Line) → line.node ≡ Host host → Differ host other → stops other (line ∷ []) ≡ false
other_stops host other line n d = rw (n, d) refl

-- no other host's entries or lines change what is known of a host
pub others_desk : (script : Script) (done rest : List Line) (history entries : List Entry) (host other : HostId) (line : Line) (desk : Desk) → line.node ≡ Host host → Differ host other → list_all (is_foreign other) entries ≡ true →
    IsAtDesk script done rest history other desk → IsAtDesk script (done ++ line ∷ []) rest (history ++ entries) other desk
others_desk script done rest history entries host other line desk n d f h = record {
  left = h.left;
  stopped = h.stopped ∙ sym (stops_append other done (line ∷ []) ∙ (rw (other_stops host other line n d) (or_false (stops other done))));
  going = λ k. let o = h.going k in record {
    calls = o.calls ∙ ap length (sym (own_append other done (line ∷ []) ∙ (rw (other_asks host other line n d) (append-nil (own_calls other done)))));
    next = next_append other 1 history entries ∙ (next_foreign other (next_from other 1 history) entries f ∙ o.next);
    uses = o.uses ∙ sym (ap (uses_from other []) (filter-append (is_asked script) history entries) ∙ (uses_append other [] (filter (is_asked script) history) (filter (is_asked script) entries) ∙ uses_foreign other (is_asked script) _ entries f));
    implied = filter-append (is_implied script other) history entries ∙ (rw (o.implied, implied_foreign script other entries f) refl);
  };
}
  where
    or_false : (a : Bool) → (a || false) ≡ a
    or_false true = refl
    or_false false = refl

-- nor that one has ended
pub others_closed : (script : Script) (done : List Line) (before after : Past) (entries : List Entry) (host other : HostId) (line : Line) → line.node ≡ Host host → Differ host other → list_all (is_foreign other) entries ≡ true →
    GoesOn before entries after → IsClosed script done before.history other → IsClosed script (done ++ line ∷ []) after.history other
others_closed script done before after entries host other line n d f g h =
    let same : filter (is_implied script other) after.history ≡ filter (is_implied script other) before.history = ap (filter (is_implied script other)) g.history ∙ (filter-append (is_implied script other) before.history entries ∙ (rw (implied_foreign script other entries f) (append-nil _))) in
    let held : uses_from other [] (filter (is_asked script) after.history) ≡ uses_from other [] (filter (is_asked script) before.history) =
    ap (λ l. uses_from other [] (filter (is_asked script) l)) g.history ∙ (ap (uses_from other []) (filter-append (is_asked script) before.history entries) ∙ (uses_append other [] (filter (is_asked script) before.history) (filter (is_asked script) entries) ∙ uses_foreign other (is_asked script) _ entries f)) in
    let stopped : stops other (done ++ line ∷ []) ≡ stops other done = stops_append other done (line ∷ []) ∙ (rw (other_stops host other line n d) (or_false (stops other done))) in
    rw (same, stopped, held) h
  where
    or_false : (a : Bool) → (a || false) ≡ a
    or_false true = refl
    or_false false = refl

-- what holds of each desk after one of them changed
each_desk : (P : HostId → Desk → Type 0) (desks : List Desk) (host : HostId) (old new : Desk) → slice_get desks host.0 ≡ Some old → P host new →
    ((other : HostId) (desk : Desk) → Differ host other → slice_get desks other.0 ≡ Some desk → P other desk) →
    (other : HostId) (desk : Desk) → slice_get (set desks host.0 new) other.0 ≡ Some desk → P other desk
each_desk P desks host old new w p f other desk h = by (host_tells host other)
  where
    by : (host ≡ other) ⊎ Differ host other → P other desk
    by (inl q) =
        let g : slice_get (set desks host.0 new) host.0 ≡ Some desk = subst (λ o. slice_get (set desks host.0 new) o.0 ≡ Some desk) (sym q) h in
        let e : Some new ≡ Some desk = sym (place_here desks host.0 old new w) ∙ g in
        let k : new ≡ desk = cc in
        subst (λ o. P o desk) q (subst (P host) k p)
    by (inr d) = f other desk d (sym (place_other desks host.0 other.0 new (λ e. let q = eq-eqb host.0 other.0 (sym e) in cc)) ∙ h)

-- what one host does changes nothing for the others
pub come_on : (script : Script) (start : Tree) (done now rest left : List Line) (entries : List Entry) (host : HostId) (old new : Desk) (before after : Play) → IsUnderway script start done rest before → GoesOn before.past entries after.past →
    acts_of (length script.roster.capacity) now ≡ acts_of (length script.roster.capacity) done ++ acts_in script entries →
    are_numbered host (next_from host 1 before.past.history) entries ≡ true → ((other : HostId) → Differ host other → list_all (is_foreign other) entries ≡ true) →
    slice_get before.desks host.0 ≡ Some old → after.desks ≡ set before.desks host.0 new → IsAtDesk script now left (before.past.history ++ entries) host new →
    ((other : HostId) (desk : Desk) → Differ host other → IsAtDesk script done rest before.past.history other desk → IsAtDesk script now left (before.past.history ++ entries) other desk) →
    ((other : HostId) → Differ host other → filter (is_of (Host other)) left ≡ [] → (filter (is_of (Host other)) rest ≡ []) × (IsClosed script done before.past.history other → IsClosed script now after.past.history other)) →
    (filter (is_of (Host host)) left ≡ [] → IsClosed script now after.past.history host) →
    IsUnderway script start now left after
come_on script start done now rest left entries host old new before after u g acts numbers foreign was desks own others closed ended = record {
  steady = steady_on script start before.past after.past entries u.steady g;
  acts = ap (acts_in script) g.history ∙ (acts_append script before.past.history entries ∙ (ap (λ l. l ++ acts_in script entries) u.acts ∙ sym acts));
  numbered = λ other. subst (λ l. are_numbered other 1 l ≡ true) (sym g.history) (numbered_append other 1 before.past.history entries (u.numbered other) (by other (host_tells host other)));
  desks = rw desks (length-set before.desks host.0 new ∙ u.desks);
  desk = subst (λ l. (other : HostId) (desk : Desk) → slice_get l other.0 ≡ Some desk → IsAtDesk script now left after.past.history other desk) (sym desks)
      (subst (λ l. (other : HostId) (desk : Desk) → slice_get (set before.desks host.0 new) other.0 ≡ Some desk → IsAtDesk script now left l other desk) (sym g.history)
      (each_desk (IsAtDesk script now left (before.past.history ++ entries)) before.desks host old new was own (λ other desk d h. others other desk d (u.desk other desk h))));
  closed = λ other e. to other e (host_tells host other);
}
  where
    by : (other : HostId) → (host ≡ other) ⊎ Differ host other → are_numbered other (next_from other 1 before.past.history) entries ≡ true
    by other (inl q) = subst (λ o. are_numbered o (next_from o 1 before.past.history) entries ≡ true) q numbers
    by other (inr d) = numbered_foreign other (next_from other 1 before.past.history) entries (foreign other d)

    to : (other : HostId) → filter (is_of (Host other)) left ≡ [] → (host ≡ other) ⊎ Differ host other → IsClosed script now after.past.history other
    to other e (inl q) = subst (λ o. filter (is_of (Host o)) left ≡ [] → IsClosed script now after.past.history o) q ended e
    to other e (inr d) = let (k, f) = closed other d e in f (u.closed other k)

-- a line of a host is one that it has left
own_line : (host : HostId) (line : Line) → line.node ≡ Host host → is_of (Host host) line ≡ true
own_line host line n = rw n (eq-eqb host.0 host.0 refl)

has_left : (host : HostId) (line : Line) (rest : List Line) → line.node ≡ Host host → length (filter (is_of (Host host)) (line ∷ rest)) ≡ suc (length (filter (is_of (Host host)) rest))
has_left host line rest n = rw (own_line host line n) refl

-- the host of a line still has one left
still_left : (A : Type 0) (host : HostId) (line : Line) (rest : List Line) → line.node ≡ Host host → filter (is_of (Host host)) (line ∷ rest) ≡ [] → A
still_left A host line rest n e = let k = has_left host line rest n in let z = ap length e in absurd (omega arith)

-- other hosts keep theirs
others_left : (host other : HostId) (line : Line) (rest : List Line) → line.node ≡ Host host → Differ host other → filter (is_of (Host other)) (line ∷ rest) ≡ filter (is_of (Host other)) rest
others_left host other line rest n d = rw (n, d) refl

acts_more : (servers : ℕ) (done : List Line) (line : Line) → acts_of servers (done ++ line ∷ []) ≡ acts_of servers done ++ acts_of servers (line ∷ [])
acts_more servers done line = flat_map-append _ done (line ∷ [])

own_differs : (host other : HostId) (k : ℕ) (call : CallOf) (reply : Reply) → Differ host other → is_foreign other (Called host k call reply) ≡ true
own_differs host other k call reply d = rw d refl

le_true : (a b : ℕ) → a ≤ b → nat_le a b ≡ true
le_true a b h = grind (arith, common_steps)

lt_false : (a b : ℕ) → b < a → nat_le a b ≡ false
lt_false a b h = grind (arith, common_steps)

-- a call that a line asks for has one of the numbers of the script's calls
asked_now : (script : Script) (done rest : List Line) (line : Line) (host : HostId) (call : CallOf) (reply : Reply) → line.node ≡ Host host → line.deed ≡ Call call → AreCounted script (done ++ line ∷ rest) →
    is_asked script (Called host (length (own_calls host done) + 1) call reply) ≡ true
asked_now script done rest line host call reply n d c =
    let one : length (own_calls host (line ∷ [])) ≡ 1 = rw (n, d, eq-eqb host.0 host.0 refl) refl in
    let all : own_calls host (done ++ line ∷ rest) ≡ own_calls host done ++ (own_calls host (line ∷ []) ++ own_calls host rest) = own_append host done (line ∷ rest) ∙ ap (λ l. own_calls host done ++ l) (own_append host (line ∷ []) rest) in
    let a = length-append (own_calls host done) (own_calls host (line ∷ []) ++ own_calls host rest) in
    let b = length-append (own_calls host (line ∷ [])) (own_calls host rest) in
    let e : call_lines script host.0 ≡ length (own_calls host done ++ (own_calls host (line ∷ []) ++ own_calls host rest)) = c host ∙ ap length all in
    le_true _ _ (omega arith)

-- stores are no calls of a script, nor losses
asked_stores : (script : Script) (entries : List Entry) → list_all is_aside entries ≡ true → filter (is_asked script) entries ≡ []
asked_stores script entries h = filter_none is_aside (is_asked script) (asked_store script) entries h

down_stores : (entries : List Entry) → list_all is_aside entries ≡ true → filter is_down entries ≡ []
down_stores entries h = filter_none is_aside is_down down_store entries h

-- a host made the call of its line
pub acted_call : (script : Script) (start : Tree) (done rest : List Line) (host : HostId) (call : CallOf) (line : Line) (before after : Play) → line.node ≡ Host host → line.deed ≡ Call call → AreCounted script (done ++ line ∷ rest) →
    IsUnderway script start done (line ∷ rest) before → HasCalled host call before after → IsUnderway script start (done ++ line ∷ []) (line ∷ rest) after
acted_call script start done rest host call line before after n d counted u h =
    let desk = h.desk in
    let m = h.makes in
    let made : Entry = Called host (desk.calls + 1) call m.reply in
    let entries : List Entry = made ∷ m.behind in
    let history = before.past.history in
    let at : IsAtDesk script done (line ∷ rest) history host desk = u.desk host desk h.was in
    let left : 0 < desk.left = (let k = has_left host line rest n in let l = at.left in omega arith) in
    let o : IsOpen script done history host desk = at.going left in
    let asks : acts_of (length script.roster.capacity) (line ∷ []) ≡ Asks host call ∷ [] = rw (n, d) refl in
    let own_asks : own_calls host (line ∷ []) ≡ record { host = host; call = call } ∷ [] = rw (n, d, eq-eqb host.0 host.0 refl) refl in
    let asked : is_asked script made ≡ true = subst (λ k. is_asked script (Called host (k + 1) call m.reply) ≡ true) (sym o.calls) (asked_now script done rest line host call m.reply n d counted) in
    let own : is_own host made ≡ true = eq-eqb host.0 host.0 refl in
    let kept : filter (is_asked script) entries ≡ made ∷ [] = rw (asked, asked_stores script m.behind m.asides) refl in
    let behind : list_all (is_foreign host) m.behind ≡ true = stores_foreign host m.behind m.asides in
    let others : (other : HostId) → Differ host other → list_all (is_foreign other) entries ≡ true = λ other e. both_true _ _ (own_differs host other (desk.calls + 1) call m.reply e) (stores_foreign other m.behind m.asides) in
    let implied : is_implied script host made ≡ false = rw (own, asked) refl in
    let told : acts_in script entries ≡ Asks host call ∷ [] = rw (asked, acts_none script m.behind (asked_stores script m.behind m.asides) (down_stores m.behind m.asides)) refl in
    come_on script start done (done ++ line ∷ []) (line ∷ rest) (line ∷ rest) entries host desk (desk_called desk h.done call) before after u m.goes
    (acts_more (length script.roster.capacity) done line ∙ ap (λ l. acts_of (length script.roster.capacity) done ++ l) (asks ∙ sym told))
    (rw (o.next, own, eq-eqb (desk.calls + 1) (desk.calls + 1) refl) (numbered_foreign host (desk.calls + 1 + 1) m.behind behind))
    others
    h.was h.desks
    (record {
      left = at.left;
      stopped = at.stopped ∙ sym (stops_append host done (line ∷ []) ∙ rw (n, d, eq-eqb host.0 host.0 refl) (or_false (stops host done)));
      going = λ _. record {
        calls = (let e = own_append host done (line ∷ []) in let l = length-append (own_calls host done) (own_calls host (line ∷ [])) in let q = o.calls in let z = ap length own_asks in let y = ap length e in omega arith);
        next = next_append host 1 history entries ∙ rw (o.next, own) (next_foreign host (desk.calls + 1 + 1) m.behind behind);
        uses = sym (ap (uses_from host []) (filter-append (is_asked script) history entries) ∙ (uses_append host [] (filter (is_asked script) history) (filter (is_asked script) entries) ∙ rw (kept, ← o.uses, eq-eqb host.0 host.0 refl, ← m.told) refl));
        implied = filter-append (is_implied script host) history entries ∙ rw (o.implied, implied) (implied_foreign script host m.behind behind);
      };
    })
    (λ other k e. others_desk script done (line ∷ rest) history entries host other line k n e (others other e))
    (λ other e k. (k, others_closed script done before.past after.past entries host other line n e (others other e) m.goes))
    (λ e. still_left _ host line rest n e)
  where
    or_false : (a : Bool) → (a || false) ≡ a
    or_false true = refl
    or_false false = refl

-- a host stopped
pub acted_stop : (script : Script) (start : Tree) (done rest : List Line) (host : HostId) (line : Line) (before after : Play) → line.node ≡ Host host → line.deed ≡ Stop →
    IsUnderway script start done (line ∷ rest) before → HasStopped host before after → IsUnderway script start (done ++ line ∷ []) (line ∷ rest) after
acted_stop script start done rest host line before after n d u h =
    let desk = h.desk in
    let servers = length script.roster.capacity in
    let entries : List Entry = downs_from host 1 servers in
    let history = before.past.history in
    let all : list_all is_down entries ≡ true = downs_down host 1 servers in
    let goes : GoesOn before.past entries after.past = subst (λ roster. GoesOn before.past (downs_from host 1 (length roster.capacity)) after.past) u.steady.roster h.down in
    let at : IsAtDesk script done (line ∷ rest) history host desk = u.desk host desk h.was in
    let left : 0 < desk.left = (let k = has_left host line rest n in let l = at.left in omega arith) in
    let o : IsOpen script done history host desk = at.going left in
    let none : list_all (is_foreign host) entries ≡ true = downs_foreign host entries all in
    let own_asks : own_calls host (line ∷ []) ≡ [] = rw (n, d) refl in
    let falls : acts_of servers (line ∷ []) ≡ falls_from host 1 servers = rw (n, d) (append-nil (falls_from host 1 servers)) in
    come_on script start done (done ++ line ∷ []) (line ∷ rest) (line ∷ rest) entries host desk (desk_stopped desk) before after u goes
    (acts_more servers done line ∙ ap (λ l. acts_of servers done ++ l) (falls ∙ sym (acts_downs script host 1 servers)))
    (numbered_foreign host (next_from host 1 history) entries none)
    (λ other e. downs_foreign other entries all)
    h.was h.desks
    (record {
      left = at.left;
      stopped = sym (stops_append host done (line ∷ []) ∙ rw (n, d, eq-eqb host.0 host.0 refl) (or_true (stops host done)));
      going = λ _. record {
        calls = o.calls ∙ ap length (sym (own_append host done (line ∷ []) ∙ (rw own_asks (append-nil (own_calls host done)))));
        next = next_append host 1 history entries ∙ (next_foreign host (next_from host 1 history) entries none ∙ o.next);
        uses = o.uses ∙ sym (ap (uses_from host []) (filter-append (is_asked script) history entries) ∙ (uses_append host [] (filter (is_asked script) history) (filter (is_asked script) entries) ∙ uses_foreign host (is_asked script) _ entries none));
        implied = filter-append (is_implied script host) history entries ∙ (rw (o.implied, implied_foreign script host entries none) refl);
      };
    })
    (λ other k e. others_desk script done (line ∷ rest) history entries host other line k n e (downs_foreign other entries all))
    (λ other e k. (k, others_closed script done before.past after.past entries host other line n e (downs_foreign other entries all) goes))
    (λ e. still_left _ host line rest n e)
  where
    or_true : (a : Bool) → (a || true) ≡ true
    or_true true = refl
    or_true false = refl

-- a line that no host is asked anything by
pub acted_none : (script : Script) (start : Tree) (done rest : List Line) (line : Line) (play : Play) → calls_of (line ∷ []) ≡ [] → acts_of (length script.roster.capacity) (line ∷ []) ≡ [] → ((host : HostId) → stops host (line ∷ []) ≡ false) →
    IsUnderway script start done rest play → IsUnderway script start (done ++ line ∷ []) rest play
acted_none script start done rest line play asks acts stop u = record {
  steady = u.steady;
  acts = u.acts ∙ sym (acts_more (length script.roster.capacity) done line ∙ (rw acts (append-nil (acts_of (length script.roster.capacity) done))));
  numbered = u.numbered;
  desks = u.desks;
  desk = λ host desk h. let at : IsAtDesk script done rest play.past.history host desk = u.desk host desk h in record {
    left = at.left;
    stopped = at.stopped ∙ sym (stopped host);
    going = λ k. let o : IsOpen script done play.past.history host desk = at.going k in record {
      calls = o.calls ∙ ap length (sym (own_append host done (line ∷ []) ∙ (rw (own host) (append-nil (own_calls host done)))));
      next = o.next;
      uses = o.uses;
      implied = o.implied;
    };
  };
  closed = λ host e. rw (stopped host) (u.closed host e);
}
  where
    or_false : (a : Bool) → (a || false) ≡ a
    or_false true = refl
    or_false false = refl

    stopped : (host : HostId) → stops host (done ++ line ∷ []) ≡ stops host done
    stopped host = stops_append host done (line ∷ []) ∙ (rw (stop host) (or_false (stops host done)))

    own : (host : HostId) → own_calls host (line ∷ []) ≡ []
    own host = ap (filter (λ asked. asked.host.0 == host.0)) asks

-- the calls by which a host ends what it had in use
ends_asked : (script : Script) (host : HostId) (n : ℕ) (entries : List Entry) → call_lines script host.0 ≡ n → list_all (is_hers host) entries ≡ true → list_all (is_above n) entries ≡ true →
    (filter (is_asked script) entries ≡ []) × (calls_in (filter (is_implied script host) entries) ≡ calls_in entries)
ends_asked script host n [] e h a = (refl, refl)
ends_asked script host n (Called caller k call reply ∷ entries) e h a =
    let own : (caller.0 == host.0) ≡ true = fst_true _ _ h in
    let same : caller ≡ host = ap (λ n. record { 0 = n }) (eqb-true caller.0 host.0 own) in
    let above : nat_lt n k ≡ true = fst_true _ _ a in
    let more : n < k = grind (arith, common_steps, above) in
    let count : call_lines script caller.0 ≡ n = rw same e in
    let no : nat_le k (call_lines script caller.0) ≡ false = lt_false k (call_lines script caller.0) (omega arith) in
    let (p, q) = ends_asked script host n entries e (snd_true _ _ h) (snd_true _ _ a) in
    (rw no p, rw (no, own) (ap (λ l. record { host = caller; call = call } ∷ l) q))
ends_asked script host n (Stored by fid spans len ∷ entries) e h a = ends_asked script host n entries e h a
ends_asked script host n (Down by server ∷ entries) e h a = cc
ends_asked script host n (Left server id ∷ entries) e h a = ends_asked script host n entries e h a

ends_down : (host : HostId) (entries : List Entry) → list_all (is_hers host) entries ≡ true → filter is_down entries ≡ []
ends_down host entries h = filter_none (is_hers host) is_down by entries h
  where
    by : (entry : Entry) → is_hers host entry ≡ true → is_down entry ≡ false
    by (Called caller k call reply) e = refl
    by (Stored other fid spans len) e = refl
    by (Down other server) e = cc
    by (Left server id) e = refl

ends_foreign : (host other : HostId) → Differ host other → (entries : List Entry) → list_all (is_hers host) entries ≡ true → list_all (is_foreign other) entries ≡ true
ends_foreign host other d = all_so (is_hers host) (is_foreign other) by
  where
    by : (entry : Entry) → is_hers host entry ≡ true → is_foreign other entry ≡ true
    by (Called caller k call reply) e = let q = eqb-true caller.0 host.0 e in rw (q, d) refl
    by (Stored writer fid spans len) e = refl
    by (Down down server) e = refl
    by (Left server id) e = refl

-- what is told of a host's desk while it has lines left stays when it has one less left
desk_on : (script : Script) (done rest : List Line) (history : List Entry) (host other : HostId) (line : Line) (desk : Desk) → line.node ≡ Host host → Differ host other → IsAtDesk script done (line ∷ rest) history other desk → IsAtDesk script done rest history other desk
desk_on script done rest history host other line desk n d h = record { left = h.left ∙ ap length (others_left host other line rest n d); stopped = h.stopped; going = h.going }

desk_foreign : (script : Script) (done rest : List Line) (history entries : List Entry) (other : HostId) (desk : Desk) → list_all (is_foreign other) entries ≡ true → IsAtDesk script done rest history other desk → IsAtDesk script done rest (history ++ entries) other desk
desk_foreign script done rest history entries other desk f h = record {
  left = h.left;
  stopped = h.stopped;
  going = λ k. let o : IsOpen script done history other desk = h.going k in record {
    calls = o.calls;
    next = next_append other 1 history entries ∙ (next_foreign other (next_from other 1 history) entries f ∙ o.next);
    uses = o.uses ∙ sym (ap (uses_from other []) (filter-append (is_asked script) history entries) ∙ (uses_append other [] (filter (is_asked script) history) (filter (is_asked script) entries) ∙ uses_foreign other (is_asked script) _ entries f));
    implied = filter-append (is_implied script other) history entries ∙ (rw (o.implied, implied_foreign script other entries f) refl);
  };
}

closed_foreign : (script : Script) (done : List Line) (before after : Past) (entries : List Entry) (other : HostId) → list_all (is_foreign other) entries ≡ true → GoesOn before entries after →
    IsClosed script done before.history other → IsClosed script done after.history other
closed_foreign script done before after entries other f g h =
    let same : filter (is_implied script other) after.history ≡ filter (is_implied script other) before.history = ap (filter (is_implied script other)) g.history ∙ (filter-append (is_implied script other) before.history entries ∙ (rw (implied_foreign script other entries f) (append-nil _))) in
    let held : uses_from other [] (filter (is_asked script) after.history) ≡ uses_from other [] (filter (is_asked script) before.history) =
    ap (λ l. uses_from other [] (filter (is_asked script) l)) g.history ∙ (ap (uses_from other []) (filter-append (is_asked script) before.history entries) ∙ (uses_append other [] (filter (is_asked script) before.history) (filter (is_asked script) entries) ∙ uses_foreign other (is_asked script) _ entries f)) in
    rw (same, held) h

-- a host that has further lines left
left_more : (script : Script) (start : Tree) (done rest : List Line) (host : HostId) (line : Line) (before after : Play) → line.node ≡ Host host →
    IsUnderway script start done (line ∷ rest) before → HasLeft host before after → 0 < length (filter (is_of (Host host)) rest) → IsUnderway script start done rest after
left_more script start done rest host line before after n u h k =
    let desk = h.desk in
    let at : IsAtDesk script done (line ∷ rest) before.past.history host desk = u.desk host desk h.was in
    let count : desk.left - 1 ≡ length (filter (is_of (Host host)) rest) = (let l = at.left in let m = has_left host line rest n in omega arith) in
    let same : after.past ≡ before.past = h.more (omega arith) in
    let goes : GoesOn before.past [] after.past = subst (λ past. GoesOn before.past [] past) (sym same) (goes_nowhere before.past u.steady.formed u.steady.rest u.steady.rooms) in
    come_on script start done done (line ∷ rest) rest [] host desk (desk_left desk) before after u goes (sym (append-nil _)) refl (λ other d. refl) h.was h.desks
    (desk_foreign script done rest before.past.history [] host (desk_left desk) refl (record { left = count; stopped = at.stopped; going = λ _. let o : IsOpen script done before.past.history host desk = at.going (omega arith) in record { calls = o.calls; next = o.next; uses = o.uses; implied = o.implied } }))
    (λ other d e a. desk_foreign script done rest before.past.history [] other d refl (desk_on script done rest before.past.history host other line d n e a))
    (λ other e w. (others_left host other line rest n e ∙ w, closed_foreign script done before.past after.past [] other refl goes))
    (λ e. let z = ap length e in absurd (omega arith))

-- a host whose last line it was
left_last : (script : Script) (start : Tree) (done rest : List Line) (host : HostId) (line : Line) (before after : Play) (entries : List Entry) (h : HasLeft host before after) → line.node ≡ Host host →
    IsUnderway script start done (line ∷ rest) before → filter (is_of (Host host)) rest ≡ [] → GoesOn before.past entries after.past → (filter (is_asked script) entries ≡ []) → filter is_down entries ≡ [] →
    are_numbered host (next_from host 1 before.past.history) entries ≡ true → ((other : HostId) → Differ host other → list_all (is_foreign other) entries ≡ true) →
    calls_in (filter (is_implied script host) entries) ≡ last_calls script done host before.past.history → IsUnderway script start done rest after
left_last script start done rest host line before after entries h n u k goes asked down numbered foreign calls =
    let desk = h.desk in
    let history = before.past.history in
    let at : IsAtDesk script done (line ∷ rest) history host desk = u.desk host desk h.was in
    let left : 0 < desk.left = (let m = has_left host line rest n in let l = at.left in omega arith) in
    let o : IsOpen script done history host desk = at.going left in
    let count : desk.left - 1 ≡ length (filter (is_of (Host host)) rest) = (let l = at.left in let m = has_left host line rest n in omega arith) in
    let zero : length (filter (is_of (Host host)) rest) ≡ 0 = ap length k in
    let kept : filter (is_asked script) after.past.history ≡ filter (is_asked script) history = ap (filter (is_asked script)) goes.history ∙ (filter-append (is_asked script) history entries ∙ (rw asked (append-nil _))) in
    come_on script start done done (line ∷ rest) rest entries host desk (desk_left desk) before after u goes (sym (rw (acts_none script entries asked down) (append-nil _))) numbered foreign h.was h.desks
    (record { left = count; stopped = at.stopped; going = λ w. absurd (omega arith) })
    (λ other d e a. desk_foreign script done rest history entries other d (foreign other e) (desk_on script done rest history host other line d n e a))
    (λ other e w. (others_left host other line rest n e ∙ w, closed_foreign script done before.past after.past entries other (foreign other e) goes))
    (λ _. ap (λ l. calls_in (filter (is_implied script host) l)) goes.history ∙ (ap calls_in (filter-append (is_implied script host) history entries) ∙ (rw o.implied (rw kept calls))))

-- a host's calls are those of its lines
abbrev no_calls : List Asked
no_calls = []

own_line_calls : (host : HostId) (node : Node) (deed : Deed) → filter (λ asked. asked.host.0 == host.0) (asked_by node deed) ≡ (if same_node node (Host host) then asked_by node deed else [])
own_line_calls host (Host other) (Call call) = refl
own_line_calls host (Host other) deed = same_if (other.0 == host.0)
  where
    same_if : (v : Bool) → no_calls ≡ (if v then no_calls else no_calls)
    same_if true = refl
    same_if false = refl
own_line_calls host (Server server) deed = refl

one_line : (host : HostId) (line : Line) → own_calls host (line ∷ []) ≡ (if is_of (Host host) line then asked_by line.node line.deed else [])
one_line host line = ap (filter (λ asked. asked.host.0 == host.0)) (append-nil (asked_by line.node line.deed)) ∙ own_line_calls host line.node line.deed

pub own_by : (host : HostId) (lines : List Line) → own_calls host lines ≡ calls_of (filter (is_of (Host host)) lines)
own_by host [] = refl
own_by host (line ∷ lines) = own_append host (line ∷ []) lines ∙ by (is_of (Host host) line) refl (own_by host lines)
  where
    by : (v : Bool) → is_of (Host host) line ≡ v → own_calls host lines ≡ calls_of (filter (is_of (Host host)) lines) → own_calls host (line ∷ []) ++ own_calls host lines ≡ calls_of (filter (is_of (Host host)) (line ∷ lines))
    by true e k =
        let one : own_calls host (line ∷ []) ≡ asked_by line.node line.deed = one_line host line ∙ ap (λ v. if v then asked_by line.node line.deed else []) e in
        let two : filter (is_of (Host host)) (line ∷ lines) ≡ line ∷ filter (is_of (Host host)) lines = rw e refl in
        rw (one, two) (ap (λ l. asked_by line.node line.deed ++ l) k)
    by false e k =
        let one : own_calls host (line ∷ []) ≡ [] = one_line host line ∙ ap (λ v. if v then asked_by line.node line.deed else []) e in
        let two : filter (is_of (Host host)) (line ∷ lines) ≡ filter (is_of (Host host)) lines = rw e refl in
        rw (one, two) k

no_more_calls : (script : Script) (done rest : List Line) (host : HostId) → AreCounted script (done ++ rest) → filter (is_of (Host host)) rest ≡ [] → call_lines script host.0 ≡ length (own_calls host done)
no_more_calls script done rest host c k =
    let none : own_calls host rest ≡ [] = own_by host rest ∙ ap calls_of k in
    c host ∙ ap length (own_append host done rest ∙ (rw none (append-nil (own_calls host done))))

pub left_end : (script : Script) (start : Tree) (done rest : List Line) (host : HostId) (line : Line) (before after : Play) → line.node ≡ Host host → AreCounted script (done ++ rest) →
    IsUnderway script start done (line ∷ rest) before → HasLeft host before after → filter (is_of (Host host)) rest ≡ [] → IsUnderway script start done rest after
left_end script start done rest host line before after n counted u h k = by h.desk.stopped refl (h.last none_left)
  where
    at : IsAtDesk script done (line ∷ rest) before.past.history host h.desk
    at = u.desk host h.desk h.was

    left : 0 < h.desk.left
    left = let m = has_left host line rest n in let l = at.left in omega arith

    none_left : h.desk.left - 1 ≡ 0
    none_left = let m = has_left host line rest n in let l = at.left in let z = ap length k in omega arith

    by : (v : Bool) → h.desk.stopped ≡ v → EndsUnless v host h.desk.calls h.desk.uses before.past after.past → IsUnderway script start done rest after
    by true e q =
        let goes : GoesOn before.past [] after.past = subst (λ past. GoesOn before.past [] past) (sym q) (goes_nowhere before.past u.steady.formed u.steady.rest u.steady.rooms) in
        left_last script start done rest host line before after [] h n u k goes refl refl refl (λ other d. refl) (rw (sym at.stopped ∙ e) refl)
    by false e q =
        let o : IsOpen script done before.past.history host h.desk = at.going left in
        let count : call_lines script host.0 ≡ h.desk.calls = no_more_calls script done rest host counted k ∙ sym o.calls in
        let (p, r) = ends_asked script host h.desk.calls q.entries count q.hers q.above in
        left_last script start done rest host line before after q.entries h n u k q.goes p (ends_down host q.entries q.hers) (rw o.next q.numbered) (λ other d. ends_foreign host other d q.entries q.hers)
        (r ∙ (q.calls ∙ rw (sym at.stopped ∙ e, ← o.uses) refl))

-- a host has a line less left
pub left_on : (script : Script) (start : Tree) (done rest : List Line) (host : HostId) (line : Line) (before after : Play) → line.node ≡ Host host → AreCounted script (done ++ rest) →
    IsUnderway script start done (line ∷ rest) before → HasLeft host before after → IsUnderway script start done rest after
left_on script start done rest host line before after n counted u h = by (filter (is_of (Host host)) rest) refl
  where
    by : (own : List Line) → filter (is_of (Host host)) rest ≡ own → IsUnderway script start done rest after
    by [] e = left_end script start done rest host line before after n counted u h e
    by (first ∷ own) e = left_more script start done rest host line before after n u h (let z = ap length e in omega arith)

-- no host has a line less left after a server's
pub left_server : (script : Script) (start : Tree) (done rest : List Line) (server : ServerId) (line : Line) (play : Play) → line.node ≡ Server server → IsUnderway script start done (line ∷ rest) play → IsUnderway script start done rest play
left_server script start done rest server line play n u = record {
  steady = u.steady;
  acts = u.acts;
  numbered = u.numbered;
  desks = u.desks;
  desk = λ host desk h. let at : IsAtDesk script done (line ∷ rest) play.past.history host desk = u.desk host desk h in record { left = at.left ∙ ap length (same host); stopped = at.stopped; going = at.going };
  closed = λ host e. u.closed host (same host ∙ e);
}
  where
    same : (host : HostId) → filter (is_of (Host host)) (line ∷ rest) ≡ filter (is_of (Host host)) rest
    same host = rw n refl

-- a host did what its line says
acted_by : (script : Script) (start : Tree) (done rest : List Line) (host : HostId) (deed : Deed) (line : Line) (before after : Play) → line.node ≡ Host host → line.deed ≡ deed → AreCounted script (done ++ line ∷ rest) →
    IsUnderway script start done (line ∷ rest) before → HasActed host deed before after → IsUnderway script start (done ++ line ∷ []) (line ∷ rest) after
acted_by script start done rest host (Call call) line before after n d c u h = acted_call script start done rest host call line before after n d c u h
acted_by script start done rest host Stop line before after n d c u h = acted_stop script start done rest host line before after n d u h
acted_by script start done rest host deed line before after n d c u h = rw h (acted_none script start done (line ∷ rest) line before (rw (n, d) refl) (rw (n, d) refl) (λ other. rw (n, d) (quiet (host.0 == other.0))) u)
  where
    quiet : (v : Bool) → ((v && false) || false) ≡ false
    quiet true = refl
    quiet false = refl

pub gone_by : (host : HostId) (line : Line) (before between after : Play) → line.node ≡ Host host → HasActed host line.deed before between → HasLeft host between after → GoesAlong (line ∷ []) before after
gone_by host line before between after n a h script start done rest c u =
    let c' : AreCounted script ((done ++ line ∷ []) ++ rest) = subst (AreCounted script) (sym (append_assoc done (line ∷ []) rest)) c in
    left_on script start (done ++ line ∷ []) rest host line between after n c' (acted_by script start done rest host line.deed line before between n refl c u a) h

pub gone_server : (server : ServerId) (line : Line) (play : Play) → line.node ≡ Server server → GoesAlong (line ∷ []) play play
gone_server server line play n script start done rest c u =
    left_server script start (done ++ line ∷ []) rest server line play n (acted_none script start done (line ∷ rest) line play (rw n (by line.deed)) (rw n (down line.deed)) (λ other. rw n refl) u)
  where
    by : (deed : Deed) → asked_by (Server server) deed ++ [] ≡ []
    by deed = refl

    down : (deed : Deed) → acts_by (length script.roster.capacity) (Server server) deed ++ [] ≡ []
    down deed = refl

pub along_none : (play : Play) → GoesAlong [] play play
along_none play script start done rest c u = rw (append-nil done) u

pub along_more : (lines more : List Line) (before between after : Play) → GoesAlong lines before between → GoesAlong more between after → GoesAlong (lines ++ more) before after
along_more lines more before between after h k script start done rest c u =
    let all : done ++ ((lines ++ more) ++ rest) ≡ done ++ (lines ++ (more ++ rest)) = ap (λ l. done ++ l) (append_assoc lines more rest) in
    let c' : AreCounted script (done ++ (lines ++ (more ++ rest))) = subst (AreCounted script) all c in
    let c'' : AreCounted script ((done ++ lines) ++ (more ++ rest)) = subst (AreCounted script) (sym (append_assoc done lines (more ++ rest))) c' in
    let u' : IsUnderway script start done (lines ++ (more ++ rest)) before = subst (λ l. IsUnderway script start done l before) (append_assoc lines more rest) u in
    subst (λ l. IsUnderway script start l rest after) (append_assoc done lines more) (k script start (done ++ lines) rest c'' (h script start done (more ++ rest) c' u'))

pub all_at : {X : Type 0} (p : X → Bool) (xs : List X) (i : ℕ) (x : X) → list_all p xs ≡ true → slice_get xs i ≡ Some x → p x ≡ true
all_at p [] i x h e = absurd (search (rules, e))
all_at p (y ∷ ys) zero x h e = let q : y ≡ x = cc in subst (λ z. p z ≡ true) q (fst_true _ _ h)
all_at p (y ∷ ys) (suc i) x h e = all_at p ys i x (snd_true _ _ h) e

pub new_more : (script : Script) (desks : List Desk) (host : HostId) (desk : Desk) → AreNew script desks → length desks ≡ host.0 → desk ≡ new_desk script host → AreNew script (desks ++ desk ∷ [])
new_more script desks host desk h n e other found g = by (get_more desks desk other.0 found g)
  where
    by : (slice_get desks other.0 ≡ Some found) ⊎ ((other.0 ≡ length desks) × (found ≡ desk)) → found ≡ new_desk script other
    by (inl k) = h other found k
    by (inr (k, q)) = let same : host ≡ other = ap (λ n. record { 0 = n }) (sym (k ∙ n)) in q ∙ (e ∙ ap (new_desk script) same)

pub new_none : (script : Script) → AreNew script []
new_none script host desk h = cc

pub along_next : (lines : List Line) (i : ℕ) (line : Line) (before between after : Play) → i < length lines → line ≡ get_or lines i line → GoesAlong (take i lines) before between → GoesAlong (line ∷ []) between after → GoesAlong (take (i + 1) lines) before after
along_next lines i line before between after h e a b = subst (λ l. GoesAlong l before after) (sym (take_next lines i line h e)) (along_more (take i lines) (line ∷ []) before between after a b)

pub along_all : (lines : List Line) (i : ℕ) (before after : Play) → length lines ≤ i → GoesAlong (take i lines) before after → GoesAlong lines before after
along_all lines i before after h a = subst (λ l. GoesAlong l before after) (take_all i lines h) a

pub follow_next : (lines : List Line) (places : List ℕ) (i place : ℕ) (before between after : Play) → i < length places → place ≡ get_or places i 0 → GoesAlong (lines_at lines (take i places)) before between → GoesAlong (lines_at lines (place ∷ [])) between after →
    GoesAlong (lines_at lines (take (i + 1) places)) before after
follow_next lines places i place before between after h e a b =
    let more : take (i + 1) places ≡ take i places ++ place ∷ [] = rw add-one (take-suc places i 0 h ∙ ap (λ one. take i places ++ one ∷ []) (sym e)) in
    subst (λ l. GoesAlong l before after) (sym (ap (lines_at lines) more ∙ flat_map-append _ (take i places) (place ∷ [])))
    (along_more (lines_at lines (take i places)) (lines_at lines (place ∷ [])) before between after a b)

pub follow_all : (lines : List Line) (places : List ℕ) (i : ℕ) (before after : Play) → length places ≤ i → GoesAlong (lines_at lines (take i places)) before after → GoesAlong (lines_at lines places) before after
follow_all lines places i before after h a = subst (λ l. GoesAlong (lines_at lines l) before after) (take_all i places h) a

pub ruleset steps = (along_none, new_more, new_none, all_at)
