-- What each line of a script keeps of plans, nets and flags.
use Rattle.std.proofs.Common.{◌≡◌, ℕ, zero, suc, ◌+◌, ◌≤◌, List, [], ◌∷◌, ◌++◌, length, flat_map, Bool, true, false, not, cond, ◌&&◌, ◌||◌, ◌==◌, nat_le, nat_lt, Option, Some, None, is_some, codes, Result, Ok, Err, IfOk, IfSome, refl, sym, ap, ◌∙◌, arith, append_assoc, append-nil, length-append}
use Rattle.std.specs.List.{list_all, list_any}
use Rattle.std.proofs.lemmas.Bool.{and_parts, and_from, or_parts, eqb-true, leb-true, le-leb, not-false, not-true}
use Rattle.std.proofs.lemmas.List.Folds.{list_any-append}
use Rattle.std.proofs.lemmas.Grind.{flat_map-append}
use Rattle.std.specs.Cmp.Lexicographic.{same_text}
use Rattle.base_types.specs.declared.limits.TheConstants.{CACHED_TOKENS_MAX, CACHED_TOKENS_MIN, CACHED_TOKENS_DEFAULT, CAPACITY_MAX, CAPACITY_MIN, GROUPS_MAX, OBJECTS_MAX, SERVERS_MAX}
use Rattle.base_types.specs.Name.{same_name, is_among}
use Rattle.base_types.specs.declared.ids.Node.{Node}
use Rattle.base_types.specs.declared.ids.Node.TheVariants.{Host, Server}
use Rattle.tree_calls.specs.Limits.{is_between}
use Rattle.script_words.specs.declared.fault.BadWhy.{BadWhy}
use Rattle.script_words.specs.declared.fault.BadWhy.TheVariants.{Word, Undeclared, Repeated, Order, Disks, Stopped}
use Rattle.script_words.specs.Outcome.{◌>>=◌, found, unless}
use Rattle.script_words.specs.Words.{words_of_line}
use Rattle.script_words.specs.Fields.{word_at, end_at, name_at, label_at, number_at, node_of, all_named, is_word}
use Rattle.script_lines.specs.Context.{server_of, user_place, is_declared, node_declared, host_named, server_at, is_elsewhere}
use Rattle.script_lines.specs.Deeds.{move_call, verb_of, only_label, call_by, raise_deed, host_deed, server_deed, node_deed, deed_of}
use Rattle.script_lines.specs.Plan.{plan_deed_of, node_named, is_pair, receiver_at, is_drop, flag_at, plan_of, plan_at, plan_line}
use Rattle.script_words.specs.Terms.{kind_of}
use Rattle.script_lines.specs.Headers.{header_of, servers_line, groups_at, user_line, limit_at, host_line, is_capped, has_fileset_at, capacity_line, owner_at, fileset_line, net_line, begin_line, header_by, is_servers, header_line}
use Rattle.script_lines.specs.Judge.{nothing_said, node_at, noted, with_line, line_of, deed_line, taken, line_judged}
use Rattle.script_lines.specs.Clones.{with_clones}
use Rattle.script_lines.specs.Sound.{is_server, are_ends, is_kind, is_flagged, is_sound_plan, is_sound_net, raised_by, raised_in, are_apart}
use Rattle.script_lines.specs.declared.context.Context.{Context}
use Rattle.script_lines.specs.declared.context.Placed.{Placed}
use Rattle.script_lines.specs.declared.deeds.Verb.{Verb}
use Rattle.script_lines.specs.declared.deeds.Verb.TheVariants as verbs
use Rattle.script_lines.specs.declared.headers.Header.{Header}
use Rattle.script_lines.specs.declared.headers.Header.TheVariants as headers
use Rattle.script_lines.specs.declared.script.TheConstants.{NUMBER_MAX, NET_MAX}
use Rattle.script_lines.specs.declared.script.Script.{Script}
use Rattle.script_lines.specs.declared.script.Net.{Net}
use Rattle.script_lines.specs.declared.script.PlanDeed.{PlanDeed}
use Rattle.script_lines.specs.declared.script.PlanDeed.TheVariants.{Drop, Hold, Again}
use Rattle.script_lines.specs.declared.script.PlanLine.{PlanLine}
use Rattle.script_lines.specs.declared.script.Line.{Line}
use Rattle.script_lines.specs.declared.script.Deed.{Deed}
use Rattle.script_lines.specs.declared.script.Deed.TheVariants.{Call, Raise, Await, Stop, Restart}
use Rattle.script_lines.proofs.Circles.{itself}
use Rattle.script_lines.proofs.Kept.{some_servers, then, after, past, where_found, ok_more, all_push, all_more, number_between, is_numbered, node_within, is_node, declared_is}

-- what is kept of plans, nets and flags
pub record ArePlanned (servers hosts : ℕ) (plan : List PlanLine) (net : Option Net) (lines : List Line) (raised : List (List ℕ)) : Type 0 where
  pub first : servers ≡ 0 → plan ≡ []
  pub plans : list_all (is_sound_plan servers hosts) plan ≡ true
  pub limits : is_sound_net net ≡ true
  pub flags : raised ≡ raised_in lines
  pub once : are_apart raised ≡ true

abbrev pub IsPlanned : Context → Type 0
IsPlanned context = ArePlanned context.script.servers (length context.script.roster.hosts) context.script.plan context.script.net context.script.lines context.raised

pub planned_start : IsPlanned nothing_said
planned_start = record { first = λ e. refl; plans = refl; limits = refl; flags = refl; once = refl }

-- a host more keeps what is declared
pub host_more : (hosts n : ℕ) (also : Bool) → (is_between 1 hosts n && also) ≡ true → (is_between 1 (hosts + 1) n && also) ≡ true
host_more hosts n also h =
    let parts = and_parts (is_between 1 hosts n) also h in
    let both = and_parts (nat_le 1 n) (nat_le n hosts) parts.0 in
    let most = leb-true n hosts both.1 in
    and_from (is_between 1 (hosts + 1) n) also (and_from (nat_le 1 n) (nat_le n (hosts + 1)) both.0 (le-leb n (hosts + 1) (omega arith))) parts.1

pub ends_more : (servers hosts : ℕ) (from to : Node) → are_ends servers hosts from to ≡ true → are_ends servers (hosts + 1) from to ≡ true
ends_more servers hosts (Host host) (Server server) h = host_more hosts host.0 (is_server servers server) h
ends_more servers hosts (Server server) (Host host) h = host_more hosts host.0 (is_server servers server) h
ends_more servers hosts (Host host) (Host other) h = absurd (cc)
ends_more servers hosts (Server server) (Server other) h = absurd (cc)

pub plan_more : (servers hosts : ℕ) (line : PlanLine) → is_sound_plan servers hosts line ≡ true → is_sound_plan servers (hosts + 1) line ≡ true
plan_more servers hosts line h =
    let flagged = and_parts (are_ends servers hosts line.from line.to && is_kind line.kind && is_between 1 NUMBER_MAX line.n) (is_flagged line.deed line.flag) h in
    let numbered = and_parts (are_ends servers hosts line.from line.to && is_kind line.kind) (is_between 1 NUMBER_MAX line.n) flagged.0 in
    let kinded = and_parts (are_ends servers hosts line.from line.to) (is_kind line.kind) numbered.0 in
    and_from (are_ends servers (hosts + 1) line.from line.to && is_kind line.kind && is_between 1 NUMBER_MAX line.n) (is_flagged line.deed line.flag)
    (and_from (are_ends servers (hosts + 1) line.from line.to && is_kind line.kind) (is_between 1 NUMBER_MAX line.n)
    (and_from (are_ends servers (hosts + 1) line.from line.to) (is_kind line.kind) (ends_more servers hosts line.from line.to kinded.0) kinded.1) numbered.1) flagged.1

-- a line of the plan
abbrev pub IsEnd : Script → Node → Type 0
IsEnd script node = is_node script.servers (length script.roster.hosts) node ≡ true

pub node_numbered : (words : List (List ℕ)) (i : ℕ) → IfOk (node_named words i) (λ node. is_numbered node ≡ true)
unfolding node_named
node_numbered words i = after (λ node. is_numbered node ≡ true) (word_at words i) _ (λ word. where_found (λ node. is_numbered node ≡ true) Word (node_of word) (node_within word))

pub are_ends_so : (servers hosts : ℕ) (from to : Node) → not (is_pair from to) ≡ false → is_node servers hosts from ≡ true → is_node servers hosts to ≡ true → are_ends servers hosts from to ≡ true
are_ends_so servers hosts (Host host) (Server server) p f t = and_from (is_between 1 hosts host.0) (is_server servers server) f t
are_ends_so servers hosts (Server server) (Host host) p f t = and_from (is_between 1 hosts host.0) (is_server servers server) t f
are_ends_so servers hosts (Host host) (Host other) p f t = absurd (cc)
are_ends_so servers hosts (Server server) (Server other) p f t = absurd (cc)

pub receiver_is : (script : Script) (from : Node) (words : List (List ℕ)) → IsEnd script from → IfOk (receiver_at script from words) (λ to. are_ends script.servers (length script.roster.hosts) from to ≡ true)
unfolding receiver_at
receiver_is script from words f =
    then (λ to. are_ends script.servers (length script.roster.hosts) from to ≡ true) (λ node. is_numbered node ≡ true) (node_named words 3) _ (node_numbered words 3) (λ to n.
    past (λ to. are_ends script.servers (length script.roster.hosts) from to ≡ true) (not (is_pair from to)) Word _ (λ p.
    same_node_only to p (declared_is script to n)))
  where
    same_node_only : (to : Node) → not (is_pair from to) ≡ false → IfOk (node_declared script to) (IsEnd script) → IfOk (node_declared script to) (λ to. are_ends script.servers (length script.roster.hosts) from to ≡ true)
    same_node_only to p h = elim (is_declared script to) as (λ v. IfOk (cond v (Ok to) (Err Undeclared)) (IsEnd script) → IfOk (cond v (Ok to) (Err Undeclared)) (λ to. are_ends script.servers (length script.roster.hosts) from to ≡ true)) [
      | true ↦ λ k. are_ends_so script.servers (length script.roster.hosts) from to p f k
      | false ↦ λ k. tt
    ] h

-- the number of a kind
pub kind_of_words : (hello fetch grant change done revoke returned kept giveback gone reclaim reclaimed restarted bye : Bool) → IfSome (cond hello (Some 1) (cond fetch (Some 2) (cond grant (Some 3) (cond change (Some 4) (cond done (Some 5) (cond revoke (Some 6) (cond returned (Some 7) (cond kept (Some 8) (cond giveback (Some 9) (cond gone (Some 10) (cond reclaim (Some 11) (cond reclaimed (Some 12) (cond restarted (Some 13) (cond bye (Some 15) None)))))))))))))) (λ kind. is_kind kind ≡ true)
kind_of_words true fetch grant change done revoke returned kept giveback gone reclaim reclaimed restarted bye = refl
kind_of_words false true grant change done revoke returned kept giveback gone reclaim reclaimed restarted bye = refl
kind_of_words false false true change done revoke returned kept giveback gone reclaim reclaimed restarted bye = refl
kind_of_words false false false true done revoke returned kept giveback gone reclaim reclaimed restarted bye = refl
kind_of_words false false false false true revoke returned kept giveback gone reclaim reclaimed restarted bye = refl
kind_of_words false false false false false true returned kept giveback gone reclaim reclaimed restarted bye = refl
kind_of_words false false false false false false true kept giveback gone reclaim reclaimed restarted bye = refl
kind_of_words false false false false false false false true giveback gone reclaim reclaimed restarted bye = refl
kind_of_words false false false false false false false false true gone reclaim reclaimed restarted bye = refl
kind_of_words false false false false false false false false false true reclaim reclaimed restarted bye = refl
kind_of_words false false false false false false false false false false true reclaimed restarted bye = refl
kind_of_words false false false false false false false false false false false true restarted bye = refl
kind_of_words false false false false false false false false false false false false true bye = refl
kind_of_words false false false false false false false false false false false false false true = refl
kind_of_words false false false false false false false false false false false false false false = tt

pub kind_is : (word : List ℕ) → IfSome (kind_of word) (λ kind. is_kind kind ≡ true)
unfolding kind_of
kind_is word =
    kind_of_words (is_word word (codes "hello")) (is_word word (codes "fetch")) (is_word word (codes "grant")) (is_word word (codes "change")) (is_word word (codes "done")) (is_word word (codes "revoke")) (is_word word (codes "returned")) (is_word word (codes "kept")) (is_word word (codes "giveback")) (is_word word (codes "gone")) (is_word word (codes "reclaim")) (is_word word (codes "reclaimed")) (is_word word (codes "restarted")) (is_word word (codes "bye"))

pub flag_is : (deed : PlanDeed) (words : List (List ℕ)) → IfOk (flag_at deed words) (λ flag. is_flagged deed flag ≡ true)
unfolding flag_at
flag_is Drop words = after (λ flag. is_flagged Drop flag ≡ true) (end_at words 6) _ (λ _. refl)
flag_is Hold words = after (λ flag. is_flagged Hold flag ≡ true) (label_at words 6) _ (λ flag. after (λ flag. is_flagged Hold flag ≡ true) (end_at words 7) _ (λ _. refl))
flag_is Again words = after (λ flag. is_flagged Again flag ≡ true) (label_at words 6) _ (λ flag. after (λ flag. is_flagged Again flag ≡ true) (end_at words 7) _ (λ _. refl))

abbrev pub IsSoundPlan : Script → PlanLine → Type 0
IsSoundPlan script line = is_sound_plan script.servers (length script.roster.hosts) line ≡ true

pub plan_is : (script : Script) (words : List (List ℕ)) → IfOk (plan_at script words) (IsSoundPlan script)
unfolding plan_at
plan_is script words =
    after (IsSoundPlan script) (word_at words 1) _ (λ deed_word.
    after (IsSoundPlan script) (found Word (plan_deed_of deed_word)) _ (λ deed.
    then (IsSoundPlan script) (λ node. is_numbered node ≡ true) (node_named words 2) _ (node_numbered words 2) (λ from_node n.
    then (IsSoundPlan script) (IsEnd script) (node_declared script from_node) _ (declared_is script from_node n) (λ from f.
    then (IsSoundPlan script) (λ to. are_ends script.servers (length script.roster.hosts) from to ≡ true) (receiver_at script from words) _ (receiver_is script from words f) (λ to e.
    after (IsSoundPlan script) (word_at words 4) _ (λ kind_word.
    then (IsSoundPlan script) (λ kind. is_kind kind ≡ true) (found Word (kind_of kind_word)) _ (where_found (λ kind. is_kind kind ≡ true) Word (kind_of kind_word) (kind_is kind_word)) (λ kind k.
    then (IsSoundPlan script) (λ n. is_between 1 NUMBER_MAX n ≡ true) (number_at 1 NUMBER_MAX words 5) _ (number_between 1 NUMBER_MAX words 5) (λ n m.
    then (IsSoundPlan script) (λ flag. is_flagged deed flag ≡ true) (flag_at deed words) _ (flag_is deed words) (λ flag g.
    and_from (are_ends script.servers (length script.roster.hosts) from to && is_kind kind && is_between 1 NUMBER_MAX n) (is_flagged deed flag)
    (and_from (are_ends script.servers (length script.roster.hosts) from to && is_kind kind) (is_between 1 NUMBER_MAX n)
    (and_from (are_ends script.servers (length script.roster.hosts) from to) (is_kind kind) e k) m) g)))))))))

-- each header keeps all this
pub planned_servers_line : (context : Context) (disks : ℕ) (words : List (List ℕ)) → IsPlanned context → IfOk (servers_line context disks words) IsPlanned
unfolding servers_line
planned_servers_line context disks words h =
    past IsPlanned (not (context.script.servers == 0)) Order _ (λ e.
    after IsPlanned (number_at 1 SERVERS_MAX words 1) _ (λ n.
    past IsPlanned (nat_lt n disks) Disks _ (λ _.
    after IsPlanned (end_at words 2) _ (λ _.
    declares n (eqb-true context.script.servers 0 (not-false (context.script.servers == 0) e))))))
  where
    declares : (n : ℕ) → context.script.servers ≡ 0 → ArePlanned n (length context.script.roster.hosts) context.script.plan context.script.net context.script.lines context.raised
    declares n e = record { first = λ _. h.first e; plans = rw (h.first e) refl; limits = h.limits; flags = h.flags; once = h.once }

pub planned_user_line : (context : Context) (words : List (List ℕ)) → IsPlanned context → IfOk (user_line context words) IsPlanned
unfolding user_line
planned_user_line context words h =
    after IsPlanned (name_at words 1) _ (λ name.
    past IsPlanned (is_some (user_place context.script.roster.users name)) Repeated _ (λ _.
    after IsPlanned (groups_at words) _ (λ group_words.
    after IsPlanned (all_named [] group_words) _ (λ groups.
    after IsPlanned (end_at words (GROUPS_MAX + 2)) _ (λ _. h)))))

pub planned_host_line : (context : Context) (words : List (List ℕ)) → IsPlanned context → IfOk (host_line context words) IsPlanned
unfolding host_line
planned_host_line context words h =
    after IsPlanned (host_named words 1) _ (λ host.
    past IsPlanned (not (host.0 == length context.script.roster.hosts + 1)) Repeated _ (λ _.
    after IsPlanned (name_at words 2) _ (λ name.
    after IsPlanned (found Undeclared (user_place context.script.roster.users name)) _ (λ user.
    after IsPlanned (limit_at words) _ (λ limit.
    after IsPlanned (end_at words 4) _ (λ _. declares user limit))))))
  where
    declares : (user limit : ℕ) → ArePlanned context.script.servers (length (context.script.roster.hosts ++ record { user = user; limit = limit } ∷ [])) context.script.plan context.script.net context.script.lines context.raised
    declares user limit =
        rw (length-append context.script.roster.hosts (record { user = user; limit = limit } ∷ []))
        (record {
          first = h.first;
          plans = all_more (is_sound_plan context.script.servers (length context.script.roster.hosts)) (is_sound_plan context.script.servers (length context.script.roster.hosts + 1)) context.script.plan (λ line k. plan_more context.script.servers (length context.script.roster.hosts) line k) h.plans;
          limits = h.limits;
          flags = h.flags;
          once = h.once;
        })

pub planned_capacity_line : (context : Context) (words : List (List ℕ)) → IsPlanned context → IfOk (capacity_line context words) IsPlanned
unfolding capacity_line
planned_capacity_line context words h =
    after IsPlanned (server_at context.script words 1) _ (λ server.
    past IsPlanned (is_capped context.capped server) Repeated _ (λ _.
    past IsPlanned (has_fileset_at context.placed server) Order _ (λ _.
    after IsPlanned (number_at CAPACITY_MIN CAPACITY_MAX words 2) _ (λ blocks.
    after IsPlanned (end_at words 3) _ (λ _. h)))))

pub planned_fileset_line : (context : Context) (number : ℕ) (words : List (List ℕ)) → IsPlanned context → IfOk (fileset_line context number words) IsPlanned
unfolding fileset_line
planned_fileset_line context number words h =
    after IsPlanned (name_at words 1) _ (λ name.
    after IsPlanned (server_at context.script words 2) _ (λ server.
    past IsPlanned (is_elsewhere (server_of context.placed name) server) Repeated _ (λ _.
    after IsPlanned (number_at 1 OBJECTS_MAX words 3) _ (λ objects.
    after IsPlanned (owner_at context.script.roster.users words) _ (λ owner.
    after IsPlanned (end_at words 5) _ (λ _. h))))))

pub planned_net_line : (context : Context) (words : List (List ℕ)) → IsPlanned context → IfOk (net_line context words) IsPlanned
unfolding net_line
planned_net_line context words h =
    past IsPlanned (is_some context.script.net) Repeated _ (λ _.
    after IsPlanned (number_at 0 18446744073709551615 words 1) _ (λ seed.
    then IsPlanned (λ n. is_between 0 NET_MAX n ≡ true) (number_at 0 NET_MAX words 2) _ (number_between 0 NET_MAX words 2) (λ losses l.
    then IsPlanned (λ n. is_between 0 NET_MAX n ≡ true) (number_at 0 NET_MAX words 3) _ (number_between 0 NET_MAX words 3) (λ repeats r.
    then IsPlanned (λ n. is_between 0 NET_MAX n ≡ true) (number_at 0 NET_MAX words 4) _ (number_between 0 NET_MAX words 4) (λ delays d.
    after IsPlanned (end_at words 5) _ (λ _.
    limited losses repeats delays l r d seed))))))
  where
    limited : (losses repeats delays : ℕ) → is_between 0 NET_MAX losses ≡ true → is_between 0 NET_MAX repeats ≡ true → is_between 0 NET_MAX delays ≡ true
        → (seed : ℕ) → ArePlanned context.script.servers (length context.script.roster.hosts) context.script.plan (Some (record { seed = seed; losses = losses; repeats = repeats; delays = delays })) context.script.lines context.raised
    limited losses repeats delays l r d seed = record {
      first = h.first;
      plans = h.plans;
      limits = and_from (nat_le losses NET_MAX && nat_le repeats NET_MAX) (nat_le delays NET_MAX)
          (and_from (nat_le losses NET_MAX) (nat_le repeats NET_MAX) (and_parts (nat_le 0 losses) (nat_le losses NET_MAX) l).1 (and_parts (nat_le 0 repeats) (nat_le repeats NET_MAX) r).1)
          (and_parts (nat_le 0 delays) (nat_le delays NET_MAX) d).1;
      flags = h.flags;
      once = h.once;
    }

pub planned_plan_line : (context : Context) (words : List (List ℕ)) → 1 ≤ context.script.servers → IsPlanned context → IfOk (plan_line context words) IsPlanned
unfolding plan_line
planned_plan_line context words some h =
    then IsPlanned (IsSoundPlan context.script) (plan_at context.script words) _ (plan_is context.script words) (λ line k. more line k)
  where
    more : (line : PlanLine) → IsSoundPlan context.script line → ArePlanned context.script.servers (length context.script.roster.hosts) (context.script.plan ++ line ∷ []) context.script.net context.script.lines context.raised
    more line k = record {
      first = λ e. absurd (omega arith);
      plans = all_push (is_sound_plan context.script.servers (length context.script.roster.hosts)) context.script.plan line h.plans k;
      limits = h.limits;
      flags = h.flags;
      once = h.once;
    }

pub planned_begin_line : (context : Context) (words : List (List ℕ)) → IsPlanned context → IfOk (begin_line context words) IsPlanned
unfolding begin_line
planned_begin_line context words h =
    past IsPlanned (length context.script.roster.hosts == 0) Order _ (λ _.
    after IsPlanned (end_at words 1) _ (λ _. h))

pub planned_header_by : (context : Context) (header : Header) (disks number : ℕ) (words : List (List ℕ)) → ((context.script.servers == 0) && not (is_servers header)) ≡ false → IsPlanned context → IfOk (header_by context header disks number words) IsPlanned
unfolding header_by
planned_header_by context headers.Servers disks number words e h = planned_servers_line context disks words h
planned_header_by context headers.User disks number words e h = planned_user_line context words h
planned_header_by context headers.Host disks number words e h = planned_host_line context words h
planned_header_by context headers.Capacity disks number words e h = planned_capacity_line context words h
planned_header_by context headers.Fileset disks number words e h = planned_fileset_line context number words h
planned_header_by context headers.Net disks number words e h = planned_net_line context words h
planned_header_by context headers.Plan disks number words e h = planned_plan_line context words (some_servers context.script.servers e) h
planned_header_by context headers.Begin disks number words e h = planned_begin_line context words h

pub planned_header_line : (context : Context) (disks number : ℕ) (words : List (List ℕ)) → IsPlanned context → IfOk (header_line context disks number words) IsPlanned
unfolding header_line
planned_header_line context disks number words h =
    after IsPlanned (word_at words 0) _ (λ word.
    after IsPlanned (found Word (header_of word)) _ (λ header.
    past IsPlanned ((context.script.servers == 0) && not (is_servers header)) Order _ (λ e.
    planned_header_by context header disks number words e h)))

-- a deed that raises a flag raises a new one
abbrev pub IsNew : List (List ℕ) → Deed → Type 0
IsNew raised (Raise flag) = is_among raised flag ≡ false
IsNew raised _ = Unit {0}

pub raise_new : (raised words : List (List ℕ)) → IfOk (raise_deed raised words) (IsNew raised)
unfolding raise_deed
raise_new raised words =
    after (IsNew raised) (label_at words 2) _ (λ flag.
    past (IsNew raised) (is_among raised flag) Repeated _ (λ e.
    after (IsNew raised) (end_at words 3) _ (λ _. e)))

pub call_new : (placed : List Placed) (raised : List (List ℕ)) (verb : Verb) (words : List (List ℕ)) → IfOk (call_by placed verb words >>= (λ call. Ok (Call call))) (IsNew raised)
call_new placed raised verb words = after (IsNew raised) (call_by placed verb words) _ (λ call. tt)

pub host_new : (script : Script) (disks : ℕ) (placed : List Placed) (raised : List (List ℕ)) (verb : Verb) (words : List (List ℕ)) → IfOk (host_deed script disks placed raised verb words) (IsNew raised)
unfolding host_deed
host_new script disks placed raised verbs.Raise words = raise_new raised words
host_new script disks placed raised verbs.Await words = after (IsNew raised) (only_label words) _ (λ flag. tt)
host_new script disks placed raised verbs.Stop words = after (IsNew raised) (end_at words 2) _ (λ _. tt)
host_new script disks placed raised verbs.Create words = call_new placed raised verbs.Create words
host_new script disks placed raised verbs.MakeDir words = call_new placed raised verbs.MakeDir words
host_new script disks placed raised verbs.Remove words = call_new placed raised verbs.Remove words
host_new script disks placed raised verbs.Rename words = call_new placed raised verbs.Rename words
host_new script disks placed raised verbs.Truncate words = call_new placed raised verbs.Truncate words
host_new script disks placed raised verbs.SetAcl words = call_new placed raised verbs.SetAcl words
host_new script disks placed raised verbs.GetAcl words = call_new placed raised verbs.GetAcl words
host_new script disks placed raised verbs.CloneFileset words = call_new placed raised verbs.CloneFileset words
host_new script disks placed raised verbs.Read words = call_new placed raised verbs.Read words
host_new script disks placed raised verbs.Write words = call_new placed raised verbs.Write words
host_new script disks placed raised verbs.List words = call_new placed raised verbs.List words
host_new script disks placed raised verbs.Stat words = call_new placed raised verbs.Stat words
host_new script disks placed raised verbs.Sync words = call_new placed raised verbs.Sync words
host_new script disks placed raised verbs.Unlock words = call_new placed raised verbs.Unlock words
host_new script disks placed raised verbs.CloseFile words = call_new placed raised verbs.CloseFile words
host_new script disks placed raised verbs.Lock words = call_new placed raised verbs.Lock words
host_new script disks placed raised verbs.OpenFile words = call_new placed raised verbs.OpenFile words
host_new script disks placed raised verbs.Restart words = call_new placed raised verbs.Restart words
host_new script disks placed raised verbs.Move words = after (IsNew raised) (move_call script disks placed words) _ (λ call. tt)

pub server_new : (raised : List (List ℕ)) (verb : Verb) (words : List (List ℕ)) → IfOk (server_deed raised verb words) (IsNew raised)
unfolding server_deed
server_new raised verbs.Raise words = raise_new raised words
server_new raised verbs.Await words = after (IsNew raised) (only_label words) _ (λ flag. tt)
server_new raised verbs.Restart words = after (IsNew raised) (end_at words 2) _ (λ _. tt)
server_new raised _ words = tt

pub deed_new : (script : Script) (disks : ℕ) (placed : List Placed) (raised : List (List ℕ)) (node : Node) (words : List (List ℕ)) → IfOk (deed_of script disks placed raised node words) (IsNew raised)
unfolding deed_of
deed_new script disks placed raised node words =
    after (IsNew raised) (word_at words 1) _ (λ word.
    after (IsNew raised) (found Word (verb_of word)) _ (λ verb. by_node node verb))
  where
    by_node : (node : Node) (verb : Verb) → IfOk (node_deed script disks placed raised node verb words) (IsNew raised)
    by_node (Host host) verb = host_new script disks placed raised verb words
    by_node (Server server) verb = server_new raised verb words

-- flags apart, and a new one
pub not_same : (names : List (List ℕ)) (name other : List ℕ) → is_among names name ≡ false → is_among names other ≡ true → same_name name other ≡ false
not_same names name other e h = by_same (same_name name other) refl
  where
    by_same : (v : Bool) → same_name name other ≡ v → v ≡ false
    by_same false k = refl
    by_same true k = let same : name ≡ other = same_text name other (sym k) in let wrong : is_among names other ≡ false = rw same at e in absurd (cc)

pub apart_push : (names : List (List ℕ)) (name : List ℕ) → are_apart names ≡ true → is_among names name ≡ false → are_apart (names ++ name ∷ []) ≡ true
apart_push [] name h e = refl
apart_push (first ∷ names) name h e =
    let parts = and_parts (not (is_among names first)) (are_apart names) h in
    let others = or_parts (same_name first name) (is_among names name) e in
    and_from (not (is_among (names ++ name ∷ []) first)) (are_apart (names ++ name ∷ []))
    (ap not (list_any-append (λ other. same_name other first) names (name ∷ []) ∙ both (is_among names first) (same_name name first) (not-true (is_among names first) parts.0) refl others.0))
    (apart_push names name parts.1 others.1)
  where
    both : (old new : Bool) → old ≡ false → same_name name first ≡ new → same_name first name ≡ false → (old || (new || false)) ≡ false
    both old false e k f = rw e refl
    both old true e k f = let same : name ≡ first = same_text name first (sym k) in let wrong : same_name first first ≡ false = rw same at f in let right = itself first in absurd (cc)

pub planned_noted : (context : Context) (number : ℕ) (node : Node) (deed : Deed) → IsPlanned context → IsNew context.raised deed → IsPlanned (with_line (noted context node deed) (line_of number node deed))
planned_noted context number node deed h k = by_deed node deed k
  where
    quiet : (node : Node) (deed : Deed) → raised_by deed ≡ [] → ArePlanned context.script.servers (length context.script.roster.hosts) context.script.plan context.script.net (context.script.lines ++ line_of number node deed ∷ []) context.raised
    quiet node deed e = record {
      first = h.first;
      plans = h.plans;
      limits = h.limits;
      flags = h.flags ∙ sym (flat_map-append (λ (line : Line). raised_by line.deed) context.script.lines (line_of number node deed ∷ []) ∙ (rw e (append-nil (raised_in context.script.lines))));
      once = h.once;
    }

    by_deed : (node : Node) (deed : Deed) → IsNew context.raised deed → IsPlanned (with_line (noted context node deed) (line_of number node deed))
    by_deed node (Raise flag) k = record {
      first = h.first;
      plans = h.plans;
      limits = h.limits;
      flags = ap (λ flags. flags ++ flag ∷ []) h.flags ∙ sym (flat_map-append (λ (line : Line). raised_by line.deed) context.script.lines (line_of number node (Raise flag) ∷ []));
      once = apart_push context.raised flag h.once k;
    }
    by_deed node (Call call) k = quiet node (Call call) refl
    by_deed node (Await flag) k = quiet node (Await flag) refl
    by_deed node Restart k = quiet node Restart refl
    by_deed (Host host) Stop k = quiet (Host host) Stop refl
    by_deed (Server server) Stop k = quiet (Server server) Stop refl

pub planned_deed_line : (context : Context) (disks number : ℕ) (words : List (List ℕ)) → IsPlanned context → IfOk (deed_line context disks number words) IsPlanned
unfolding deed_line
planned_deed_line context disks number words h =
    after IsPlanned (node_at context words) _ (λ node.
    then IsPlanned (IsNew context.raised) (deed_of context.script disks context.placed context.raised node words) _ (deed_new context.script disks context.placed context.raised node words) (λ deed k.
    planned_noted context number node deed h k))

-- each line keeps it
pub planned_taken : (context : Context) (disks number : ℕ) (words : List (List ℕ)) → IsPlanned context → IfOk (taken context disks number words) IsPlanned
unfolding taken
planned_taken context disks number words h = by_words (length words == 0) context.begun
  where
    by_words : (none begun : Bool) → IfOk (cond none (Ok context) (cond begun (deed_line context disks number words) (header_line context disks number words))) IsPlanned
    by_words true begun = h
    by_words false true = planned_deed_line context disks number words h
    by_words false false = planned_header_line context disks number words h

pub planned_judged : (context : Context) (disks number : ℕ) (line : List ℕ) → IsPlanned context → IfOk (line_judged context disks number line) IsPlanned
unfolding line_judged
planned_judged context disks number line h = after IsPlanned (words_of_line line) _ (λ words. planned_taken context disks number words h)

-- and so do the names of clones
pub planned_clones : (context : Context) (lines : List (List ℕ)) → IsPlanned context → IsPlanned (with_clones context lines)
unfolding with_clones
planned_clones context lines h = h
