-- What each line of a script keeps: the limits of the service, declared nodes, rising numbers.
use Rattle.std.proofs.Common.{◌≡◌, ℕ, zero, suc, ◌+◌, ◌-◌, ◌*◌, ◌<◌, ◌≤◌, min, List, [], ◌∷◌, ◌++◌, length, take, drop, Bool, true, false, not, cond, ◌&&◌, ◌||◌, ◌==◌, nat_le, nat_lt, Option, Some, None, is_some, Result, Ok, Err, IfOk, IfSome, find, slice_set, refl, sym, ap, ◌∙◌, arith, append_assoc, append-nil, length-append, length-take, length-drop, length-set}
use Rattle.std.specs.List.{list_any, list_all}
use Rattle.std.specs.Option.{option_map}
use Rattle.std.proofs.lemmas.Bool.{and_parts, and_from, or_left, or_right, eqb-true, eqb-false, eq-eqb, leb-true, le-leb, leb-false, ltb-true, lt-ltb, not-false}
use Rattle.std.proofs.lemmas.List.Folds.{list_any-append, list_all-append}
use Rattle.std.proofs.lemmas.List.Quantifiers.{position-Some}
use Rattle.base_types.specs.declared.limits.TheConstants.{CACHED_TOKENS_DEFAULT, CACHED_TOKENS_MAX, CACHED_TOKENS_MIN, CAPACITY_DEFAULT, CAPACITY_MAX, CAPACITY_MIN, GROUPS_MAX, HOSTS_MAX, OBJECTS_MAX, SERVERS_MAX}
use Rattle.base_types.specs.Name.{same_name, is_among}
use Rattle.base_types.specs.declared.ids.HostId.{HostId}
use Rattle.base_types.specs.declared.ids.ServerId.{ServerId}
use Rattle.base_types.specs.declared.ids.Node.{Node}
use Rattle.base_types.specs.declared.ids.Node.TheVariants.{Host, Server}
use Rattle.base_types.specs.declared.user.User.{User}
use Rattle.tree_calls.specs.Limits.{is_between}
use Rattle.tree_calls.specs.declared.call.Call.{Call as CallOf}
use Rattle.tree_calls.specs.declared.call.Call.TheVariants as calls
use Rattle.tree_calls.specs.declared.place.Place.{Place}
use Rattle.tree_calls.specs.declared.roster.Roster.{Roster}
use Rattle.tree_calls.specs.declared.roster.HostLine.{HostLine}
use Rattle.script_words.specs.declared.fault.BadWhy.{BadWhy}
use Rattle.script_words.specs.declared.fault.BadWhy.TheVariants.{Word, Number, Undeclared, Repeated, Order, Disks, Stopped}
use Rattle.script_words.specs.Outcome.{◌>>=◌, found, unless}
use Rattle.script_words.specs.Words.{is_in, words_of_line}
use Rattle.script_words.specs.Fields.{word_at, end_at, named, name_at, label_at, text_at, at_least, value_from, starts_with_zero, number_up_to, number_at, host_node, server_node, numbered, node_of, all_named, names_of}
use Rattle.script_words.specs.Lists.{list_at}
use Rattle.script_lines.specs.Context.{find_placed, server_of, has_stopped, user_place, place_at_server, place_of, place_at, is_declared, node_declared, only_host, host_named, only_server, server_named, server_at, is_elsewhere}
use Rattle.script_lines.specs.Deeds.{is_mixed, move_call, verb_of, which_at, only_label, only_place, rename_call, truncate_call, getacl_call, setacl_call, read_call, write_call, lock_call, open_call, clone_call, call_by, raise_deed, host_deed, server_deed, node_deed, deed_of}
use Rattle.script_words.specs.Terms.{lock_mode_of, open_kind_of}
use Rattle.script_lines.specs.Plan.{plan_at, plan_line}
use Rattle.script_lines.specs.Headers.{header_of, servers_line, groups_at, user_line, limit_at, host_line, is_capped, has_fileset_at, capacity_line, user_named, owner_at, setup_line, fileset_line, net_line, begin_line, header_by, is_servers, header_line}
use Rattle.script_lines.specs.Judge.{nothing_said, node_stopped, node_at, noted, with_line, line_of, deed_line, taken, line_judged}
use Rattle.script_lines.specs.Clones.{placed_also, placed_from, placed_by, places, place_by, most_steps, clone_place, by_source, found_server, clones_from, with_clones}
use Rattle.script_lines.specs.Sound.{same_node, is_of, is_server, is_sound_call, makes_fileset, is_host_deed, is_server_deed, is_sound_deed, is_sound_line, is_setup_line, is_stop, stops_last, numbers_rise}
use Rattle.script_lines.specs.declared.context.Context.{Context}
use Rattle.script_lines.specs.declared.context.Placed.{Placed}
use Rattle.script_lines.specs.declared.clones.CloneLine.{CloneLine}
use Rattle.script_lines.specs.declared.deeds.Verb.{Verb}
use Rattle.script_lines.specs.declared.deeds.Verb.TheVariants as verbs
use Rattle.script_lines.specs.declared.headers.Header.{Header}
use Rattle.script_lines.specs.declared.headers.Header.TheVariants as headers
use Rattle.script_lines.specs.declared.script.TheConstants.{NUMBER_MAX, NET_MAX}
use Rattle.script_lines.specs.declared.script.Script.{Script}
use Rattle.script_lines.specs.declared.script.Line.{Line}
use Rattle.script_lines.specs.declared.script.Deed.{Deed}
use Rattle.script_lines.specs.declared.script.Deed.TheVariants.{Call, Raise, Await, Stop, Restart}

-- what follows a step keeps what is asked of the end
pub then : {A B : Type 0} (P : B → Type 0) (Q : A → Type 0) (read : Result A BadWhy) (next : A → Result B BadWhy) → IfOk read Q → ((a : A) → Q a → IfOk (next a) P) → IfOk (read >>= next) P
then P Q (Ok a) next q f = f a q
then P Q (Err why) next q f = tt

pub after : {A B : Type 0} (P : B → Type 0) (read : Result A BadWhy) (next : A → Result B BadWhy) → ((a : A) → IfOk (next a) P) → IfOk (read >>= next) P
after P (Ok a) next f = f a
after P (Err why) next f = tt

pub past : {B : Type 0} (P : B → Type 0) (refused : Bool) (why : BadWhy) (next : Unit {0} → Result B BadWhy) → (refused ≡ false → IfOk (next tt) P) → IfOk (unless refused why >>= next) P
past P true why next f = tt
past P false why next f = f refl

pub where_found : {A : Type 0} (P : A → Type 0) (why : BadWhy) (option : Option A) → IfSome option P → IfOk (found why option) P
where_found P why None h = tt
where_found P why (Some a) h = h

pub ok_more : {A : Type 0} (P Q : A → Type 0) (read : Result A BadWhy) → ((a : A) → P a → Q a) → IfOk read P → IfOk read Q
ok_more P Q (Ok a) f h = f a h
ok_more P Q (Err why) f h = tt

pub some_servers : (servers : ℕ) → ((servers == 0) && true) ≡ false → 1 ≤ servers
some_servers zero e = absurd (cc)
some_servers (suc servers) e = omega arith

-- lists
pub all_push : {X : Type 0} (test : X → Bool) (xs : List X) (x : X) → list_all test xs ≡ true → test x ≡ true → list_all test (xs ++ x ∷ []) ≡ true
all_push test xs x h k = rw (list_all-append test xs (x ∷ [])) (and_from (list_all test xs) (test x && true) h (and_from (test x) true k refl))

pub all_more : {X : Type 0} (test also : X → Bool) (xs : List X) → ((x : X) → test x ≡ true → also x ≡ true) → list_all test xs ≡ true → list_all also xs ≡ true
all_more test also [] f h = refl
all_more test also (x ∷ xs) f h = let parts = and_parts (test x) (list_all test xs) h in and_from (also x) (list_all also xs) (f x parts.0) (all_more test also xs f parts.1)

pub found_all : {X : Type 0} (test which : X → Bool) (xs : List X) → list_all test xs ≡ true → IfSome (find which xs) (λ x. test x ≡ true)
found_all test which [] h = tt
found_all test which (x ∷ xs) h = elim (which x) as (λ v. IfSome (cond v (Some x) (find which xs)) (λ x. test x ≡ true)) [
  | true ↦ (and_parts (test x) (list_all test xs) h).0
  | false ↦ found_all test which xs (and_parts (test x) (list_all test xs) h).1
]

pub all_taken : {X : Type 0} (test : X → Bool) (n : ℕ) (xs : List X) → list_all test xs ≡ true → list_all test (take n xs) ≡ true
all_taken test zero xs h = refl
all_taken test (suc n) [] h = refl
all_taken test (suc n) (x ∷ xs) h = let parts = and_parts (test x) (list_all test xs) h in and_from (test x) (list_all test (take n xs)) parts.0 (all_taken test n xs parts.1)

pub all_set : {X : Type 0} (test : X → Bool) (xs : List X) (i : ℕ) (x : X) → list_all test xs ≡ true → test x ≡ true → list_all test (slice_set xs i x) ≡ true
all_set test [] i x h k = refl
all_set test (y ∷ xs) zero x h k = and_from (test x) (list_all test xs) k (and_parts (test y) (list_all test xs) h).1
all_set test (y ∷ xs) (suc i) x h k = and_from (test y) (list_all test (slice_set xs i x)) (and_parts (test y) (list_all test xs) h).0 (all_set test xs i x (and_parts (test y) (list_all test xs) h).1 k)

-- numbers are within their limits
pub value_small : (most value : ℕ) (bytes : List ℕ) → nat_le value most ≡ true → IfSome (value_from most value bytes) (λ n. nat_le n most ≡ true)
value_small most value [] h = h
value_small most value (byte ∷ bytes) h = by_test (is_in 48 57 byte && nat_le (value * 10 + (byte - 48)) most) refl (λ k. value_small most (value * 10 + (byte - 48)) bytes k)
  where
    by_test : (goes : Bool) → (is_in 48 57 byte && nat_le (value * 10 + (byte - 48)) most) ≡ goes
        → (nat_le (value * 10 + (byte - 48)) most ≡ true → IfSome (value_from most (value * 10 + (byte - 48)) bytes) (λ n. nat_le n most ≡ true))
        → IfSome (cond goes (value_from most (value * 10 + (byte - 48)) bytes) None) (λ n. nat_le n most ≡ true)
    by_test true e rest = rest (and_parts (is_in 48 57 byte) (nat_le (value * 10 + (byte - 48)) most) e).1
    by_test false e rest = tt

pub number_small : (most : ℕ) (word : List ℕ) → IfSome (number_up_to most word) (λ n. nat_le n most ≡ true)
unfolding number_up_to
number_small most word = elim ((length word == 0) || starts_with_zero word) as (λ v. IfSome (cond v None (value_from most 0 word)) (λ n. nat_le n most ≡ true)) [
  | true ↦ tt
  | false ↦ value_small most 0 word (le-leb 0 most (omega arith))
]

pub least_too : (least most : ℕ) (option : Option ℕ) → IfSome option (λ n. nat_le n most ≡ true) → IfSome (at_least least option) (λ n. is_between least most n ≡ true)
least_too least most None h = tt
least_too least most (Some n) h = by_test (nat_le least n) refl
  where
    by_test : (v : Bool) → nat_le least n ≡ v → IfSome (cond v (Some n) None) (λ n. is_between least most n ≡ true)
    by_test true e = and_from (nat_le least n) (nat_le n most) e h
    by_test false e = tt

pub number_between : (least most : ℕ) (words : List (List ℕ)) (i : ℕ) → IfOk (number_at least most words i) (λ n. is_between least most n ≡ true)
unfolding number_at
number_between least most words i = after (λ n. is_between least most n ≡ true) (word_at words i) (λ word. found Number (at_least least (number_up_to most word)))
    (λ word. where_found (λ n. is_between least most n ≡ true) Number (at_least least (number_up_to most word)) (least_too least most (number_up_to most word) (number_small most word)))

-- nodes have numbers from 1 on
abbrev pub is_numbered : Node → Bool
is_numbered (Host host) = is_between 1 HOSTS_MAX host.0
is_numbered (Server server) = is_between 1 SERVERS_MAX server.0

pub numbered_within : (node : ℕ → Node) (most : ℕ) (option : Option ℕ) → ((n : ℕ) → is_between 1 most n ≡ true → is_numbered (node n) ≡ true) → IfSome option (λ n. nat_le n most ≡ true) → IfSome (numbered node option) (λ node. is_numbered node ≡ true)
numbered_within node most None f h = tt
numbered_within node most (Some n) f h = by_test (n == 0) refl
  where
    by_test : (v : Bool) → (n == 0) ≡ v → IfSome (cond v None (Some (node n))) (λ node. is_numbered node ≡ true)
    by_test true e = tt
    by_test false e = f n (and_from (nat_le 1 n) (nat_le n most) (le-leb 1 n (omega (arith, eqb-false n 0 e))) h)

pub node_within : (word : List ℕ) → IfSome (node_of word) (λ node. is_numbered node ≡ true)
unfolding node_of
node_within [] = tt
node_within (letter ∷ digits) = elim (letter == 99) as (λ v. IfSome (cond v (numbered host_node (number_up_to HOSTS_MAX digits)) (cond (letter == 115) (numbered server_node (number_up_to SERVERS_MAX digits)) None)) (λ node. is_numbered node ≡ true)) [
  | true ↦ numbered_within host_node HOSTS_MAX (number_up_to HOSTS_MAX digits) (λ n h. h) (number_small HOSTS_MAX digits)
  | false ↦ elim (letter == 115) as (λ v. IfSome (cond v (numbered server_node (number_up_to SERVERS_MAX digits)) None) (λ node. is_numbered node ≡ true)) [
    | true ↦ numbered_within server_node SERVERS_MAX (number_up_to SERVERS_MAX digits) (λ n h. h) (number_small SERVERS_MAX digits)
    | false ↦ tt
  ]
]

-- a declared node is one of the service
abbrev pub is_node : ℕ → ℕ → Node → Bool
is_node servers hosts (Host host) = is_between 1 hosts host.0
is_node servers hosts (Server server) = is_server servers server

pub declared_is : (script : Script) (node : Node) → is_numbered node ≡ true → IfOk (node_declared script node) (λ node. is_node script.servers (length script.roster.hosts) node ≡ true)
declared_is script node h = by_test (is_declared script node) refl
  where
    within : (node : Node) → is_numbered node ≡ true → is_declared script node ≡ true → is_node script.servers (length script.roster.hosts) node ≡ true
    within (Host host) n d = and_from (nat_le 1 host.0) (nat_le host.0 (length script.roster.hosts)) (and_parts (nat_le 1 host.0) (nat_le host.0 HOSTS_MAX) n).0 d
    within (Server server) n d = and_from (nat_le 1 server.0) (nat_le server.0 script.servers) (and_parts (nat_le 1 server.0) (nat_le server.0 SERVERS_MAX) n).0 d

    by_test : (v : Bool) → is_declared script node ≡ v → IfOk (cond v (Ok node) (Err Undeclared)) (λ node. is_node script.servers (length script.roster.hosts) node ≡ true)
    by_test true e = within node h e
    by_test false e = tt

pub host_within : (words : List (List ℕ)) (i : ℕ) → IfOk (host_named words i) (λ host. is_between 1 HOSTS_MAX host.0 ≡ true)
unfolding host_named
host_within words i = after (λ host. is_between 1 HOSTS_MAX host.0 ≡ true) (word_at words i) (λ word. only_host (node_of word)) (λ word. by_node (node_of word) (node_within word))
  where
    by_node : (option : Option Node) → IfSome option (λ node. is_numbered node ≡ true) → IfOk (only_host option) (λ host. is_between 1 HOSTS_MAX host.0 ≡ true)
    by_node None h = tt
    by_node (Some (Host host)) h = h
    by_node (Some (Server server)) h = tt

pub server_within : (words : List (List ℕ)) (i : ℕ) → IfOk (server_named words i) (λ server. is_between 1 SERVERS_MAX server.0 ≡ true)
unfolding server_named
server_within words i = after (λ server. is_between 1 SERVERS_MAX server.0 ≡ true) (word_at words i) (λ word. only_server (node_of word)) (λ word. by_node (node_of word) (node_within word))
  where
    by_node : (option : Option Node) → IfSome option (λ node. is_numbered node ≡ true) → IfOk (only_server option) (λ server. is_between 1 SERVERS_MAX server.0 ≡ true)
    by_node None h = tt
    by_node (Some (Host host)) h = tt
    by_node (Some (Server server)) h = h

pub server_is : (script : Script) (words : List (List ℕ)) (i : ℕ) → IfOk (server_at script words i) (λ server. is_server script.servers server ≡ true)
unfolding server_at
server_is script words i = then (λ server. is_server script.servers server ≡ true) (λ server. is_between 1 SERVERS_MAX server.0 ≡ true) (server_named words i)
    (λ server. node_declared script (Server server) >>= (λ _. Ok server)) (server_within words i)
    (λ server h. then (λ server. is_server script.servers server ≡ true) (λ _. is_server script.servers server ≡ true) (node_declared script (Server server)) (λ _. Ok server) (kept_node server (declared_is script (Server server) h)) (λ node k. k))
  where
    kept_node : (server : ServerId) → IfOk (node_declared script (Server server)) (λ node. is_node script.servers (length script.roster.hosts) node ≡ true) → IfOk (node_declared script (Server server)) (λ _. is_server script.servers server ≡ true)
    kept_node server h = elim (is_declared script (Server server)) as (λ v. IfOk (cond v (Ok (Server server)) (Err Undeclared)) (λ node. is_node script.servers (length script.roster.hosts) node ≡ true) → IfOk (cond v (Ok (Server server)) (Err Undeclared)) (λ _. is_server script.servers server ≡ true)) [
      | true ↦ λ k. k
      | false ↦ λ k. tt
    ] h

-- places are at declared servers
pub fileset_is : (servers : ℕ) (placed : List Placed) (name : List ℕ) → list_all (λ p. is_server servers p.server) placed ≡ true → IfSome (server_of placed name) (λ server. is_server servers server ≡ true)
fileset_is servers placed name h = by_found (find_placed placed name) (found_all (λ (p : Placed). is_server servers p.server) (λ other. same_name other.name name) placed h)
  where
    by_found : (option : Option Placed) → IfSome option (λ p. is_server servers p.server ≡ true) → IfSome (option_map (λ p. p.server) option) (λ server. is_server servers server ≡ true)
    by_found None k = tt
    by_found (Some p) k = k

abbrev pub IsAt : ℕ → Place → Type 0
IsAt servers place = is_server servers place.server ≡ true

pub place_is : (servers : ℕ) (placed : List Placed) (words : List (List ℕ)) (i : ℕ) → list_all (λ p. is_server servers p.server) placed ≡ true → IfOk (place_at placed words i) (IsAt servers)
unfolding place_at
place_is servers placed words i h =
    after (IsAt servers) (word_at words i) (λ word. names_of word >>= (λ names. place_of placed names)) (λ word.
    after (IsAt servers) (names_of word) (λ names. place_of placed names) (λ names. of_names names))
  where
    of_names : (names : List (List ℕ)) → IfOk (place_of placed names) (IsAt servers)
    of_names [] = tt
    of_names (fileset ∷ path) =
        then (IsAt servers) (λ server. is_server servers server ≡ true) (found Undeclared (server_of placed fileset)) (λ server. Ok (place_at_server fileset path server))
        (where_found (λ server. is_server servers server ≡ true) Undeclared (server_of placed fileset) (fileset_is servers placed fileset h)) (λ server k. k)

-- a call of a line
abbrev pub IsLineCall : ℕ → CallOf → Type 0
IsLineCall servers call = (is_sound_call servers call && not (makes_fileset call)) ≡ true

pub only_place_is : (servers : ℕ) (placed : List Placed) (words : List (List ℕ)) → list_all (λ p. is_server servers p.server) placed ≡ true → IfOk (only_place placed words) (IsAt servers)
unfolding only_place
only_place_is servers placed words h =
    then (IsAt servers) (IsAt servers) (place_at placed words 2) _ (place_is servers placed words 2 h) (λ place k.
    after (IsAt servers) (end_at words 3) _ (λ _. k))

-- a call at one place
pub at_place : (servers : ℕ) (place : Place) → IsAt servers place → (is_server servers place.server && true) ≡ true
at_place servers place k = and_from (is_server servers place.server) true k refl

pub call_is : (servers : ℕ) (placed : List Placed) (verb : Verb) (words : List (List ℕ)) → list_all (λ p. is_server servers p.server) placed ≡ true → IfOk (call_by placed verb words) (IsLineCall servers)
unfolding call_by rename_call truncate_call getacl_call setacl_call read_call write_call lock_call open_call clone_call
call_is servers placed verbs.Create words h = then (IsLineCall servers) (IsAt servers) (only_place placed words) _ (only_place_is servers placed words h) (λ place k. at_place servers place k)
call_is servers placed verbs.MakeDir words h = then (IsLineCall servers) (IsAt servers) (only_place placed words) _ (only_place_is servers placed words h) (λ place k. at_place servers place k)
call_is servers placed verbs.Remove words h = then (IsLineCall servers) (IsAt servers) (only_place placed words) _ (only_place_is servers placed words h) (λ place k. at_place servers place k)
call_is servers placed verbs.List words h = then (IsLineCall servers) (IsAt servers) (only_place placed words) _ (only_place_is servers placed words h) (λ place k. at_place servers place k)
call_is servers placed verbs.Stat words h = then (IsLineCall servers) (IsAt servers) (only_place placed words) _ (only_place_is servers placed words h) (λ place k. at_place servers place k)
call_is servers placed verbs.Sync words h = then (IsLineCall servers) (IsAt servers) (only_place placed words) _ (only_place_is servers placed words h) (λ place k. at_place servers place k)
call_is servers placed verbs.Unlock words h = after (IsLineCall servers) (only_label words) _ (λ label. refl)
call_is servers placed verbs.CloseFile words h = after (IsLineCall servers) (only_label words) _ (λ label. refl)
call_is servers placed verbs.Rename words h =
    then (IsLineCall servers) (IsAt servers) (place_at placed words 2) _ (place_is servers placed words 2 h) (λ from k.
    then (IsLineCall servers) (IsAt servers) (place_at placed words 3) _ (place_is servers placed words 3 h) (λ to l.
    after (IsLineCall servers) (end_at words 4) _ (λ _.
    and_from (is_server servers from.server && is_server servers to.server) true (and_from (is_server servers from.server) (is_server servers to.server) k l) refl)))
call_is servers placed verbs.Truncate words h =
    then (IsLineCall servers) (IsAt servers) (place_at placed words 2) _ (place_is servers placed words 2 h) (λ place k.
    after (IsLineCall servers) (number_at 0 NUMBER_MAX words 3) _ (λ _.
    after (IsLineCall servers) (end_at words 4) _ (λ _. at_place servers place k)))
call_is servers placed verbs.GetAcl words h =
    then (IsLineCall servers) (IsAt servers) (place_at placed words 2) _ (place_is servers placed words 2 h) (λ place k.
    after (IsLineCall servers) (which_at words 3) _ (λ _.
    after (IsLineCall servers) (end_at words 4) _ (λ _. at_place servers place k)))
call_is servers placed verbs.SetAcl words h =
    then (IsLineCall servers) (IsAt servers) (place_at placed words 2) _ (place_is servers placed words 2 h) (λ place k.
    after (IsLineCall servers) (which_at words 3) _ (λ _.
    after (IsLineCall servers) (list_at words 4) _ (λ _.
    after (IsLineCall servers) (end_at words 5) _ (λ _. at_place servers place k))))
call_is servers placed verbs.Read words h =
    then (IsLineCall servers) (IsAt servers) (place_at placed words 2) _ (place_is servers placed words 2 h) (λ place k.
    after (IsLineCall servers) (number_at 0 NUMBER_MAX words 3) _ (λ _.
    after (IsLineCall servers) (number_at 0 NUMBER_MAX words 4) _ (λ _.
    after (IsLineCall servers) (end_at words 5) _ (λ _. at_place servers place k))))
call_is servers placed verbs.Write words h =
    then (IsLineCall servers) (IsAt servers) (place_at placed words 2) _ (place_is servers placed words 2 h) (λ place k.
    after (IsLineCall servers) (number_at 0 NUMBER_MAX words 3) _ (λ _.
    after (IsLineCall servers) (text_at words 4) _ (λ _.
    after (IsLineCall servers) (end_at words 5) _ (λ _. at_place servers place k))))
call_is servers placed verbs.Lock words h =
    after (IsLineCall servers) (label_at words 2) _ (λ _.
    then (IsLineCall servers) (IsAt servers) (place_at placed words 3) _ (place_is servers placed words 3 h) (λ place k.
    after (IsLineCall servers) (word_at words 4) _ (λ mode.
    after (IsLineCall servers) (found Word (lock_mode_of mode)) _ (λ _.
    after (IsLineCall servers) (number_at 0 NUMBER_MAX words 5) _ (λ _.
    after (IsLineCall servers) (number_at 1 NUMBER_MAX words 6) _ (λ _.
    after (IsLineCall servers) (end_at words 7) _ (λ _. at_place servers place k)))))))
call_is servers placed verbs.OpenFile words h =
    after (IsLineCall servers) (label_at words 2) _ (λ _.
    then (IsLineCall servers) (IsAt servers) (place_at placed words 3) _ (place_is servers placed words 3 h) (λ place k.
    after (IsLineCall servers) (word_at words 4) _ (λ word.
    after (IsLineCall servers) (found Word (open_kind_of word)) _ (λ _.
    after (IsLineCall servers) (end_at words 5) _ (λ _. at_place servers place k)))))
call_is servers placed verbs.CloneFileset words h =
    after (IsLineCall servers) (name_at words 2) _ (λ fileset.
    then (IsLineCall servers) (λ server. is_server servers server ≡ true) (found Undeclared (server_of placed fileset)) _
    (where_found (λ server. is_server servers server ≡ true) Undeclared (server_of placed fileset) (fileset_is servers placed fileset h)) (λ server k.
    after (IsLineCall servers) (name_at words 3) _ (λ new.
    after (IsLineCall servers) (unless (is_elsewhere (server_of placed new) server) Repeated) _ (λ _.
    after (IsLineCall servers) (end_at words 4) _ (λ _. and_from (is_server servers server) true k refl)))))
call_is servers placed verbs.Raise words h = tt
call_is servers placed verbs.Await words h = tt
call_is servers placed verbs.Stop words h = tt
call_is servers placed verbs.Restart words h = tt
call_is servers placed verbs.Move words h = tt

pub move_is : (script : Script) (disks : ℕ) (placed : List Placed) (words : List (List ℕ)) → list_all (λ p. is_server script.servers p.server) placed ≡ true → IfOk (move_call script disks placed words) (IsLineCall script.servers)
unfolding move_call
move_is script disks placed words h =
    after (IsLineCall script.servers) (name_at words 2) _ (λ fileset.
    then (IsLineCall script.servers) (λ server. is_server script.servers server ≡ true) (found Undeclared (server_of placed fileset)) _
    (where_found (λ server. is_server script.servers server ≡ true) Undeclared (server_of placed fileset) (fileset_is script.servers placed fileset h)) (λ server k.
    then (IsLineCall script.servers) (λ to. is_server script.servers to ≡ true) (server_at script words 3) _ (server_is script words 3) (λ to l.
    after (IsLineCall script.servers) (unless (is_mixed script.servers disks) Disks) _ (λ _.
    after (IsLineCall script.servers) (end_at words 4) _ (λ _. and_from (is_server script.servers server && is_server script.servers to) true (and_from (is_server script.servers server) (is_server script.servers to) k l) refl)))))

-- deeds of hosts and servers
pub raise_is : (P : Deed → Type 0) (raised words : List (List ℕ)) → ((flag : List ℕ) → P (Raise flag)) → IfOk (raise_deed raised words) P
unfolding raise_deed
raise_is P raised words f =
    after P (label_at words 2) _ (λ flag.
    after P (unless (is_among raised flag) Repeated) _ (λ _.
    after P (end_at words 3) _ (λ _. f flag)))

pub host_call_is : (servers : ℕ) (placed : List Placed) (verb : Verb) (words : List (List ℕ)) → list_all (λ p. is_server servers p.server) placed ≡ true → IfOk (call_by placed verb words >>= (λ call. Ok (Call call))) (λ deed. is_host_deed servers deed ≡ true)
host_call_is servers placed verb words h = then (λ deed. is_host_deed servers deed ≡ true) (IsLineCall servers) (call_by placed verb words) _ (call_is servers placed verb words h) (λ call k. k)

pub host_deed_is : (script : Script) (disks : ℕ) (placed : List Placed) (raised : List (List ℕ)) (verb : Verb) (words : List (List ℕ)) → list_all (λ p. is_server script.servers p.server) placed ≡ true → IfOk (host_deed script disks placed raised verb words) (λ deed. is_host_deed script.servers deed ≡ true)
unfolding host_deed
host_deed_is script disks placed raised verbs.Raise words h = raise_is (λ deed. is_host_deed script.servers deed ≡ true) raised words (λ flag. refl)
host_deed_is script disks placed raised verbs.Await words h = after (λ deed. is_host_deed script.servers deed ≡ true) (only_label words) _ (λ flag. refl)
host_deed_is script disks placed raised verbs.Stop words h = after (λ deed. is_host_deed script.servers deed ≡ true) (end_at words 2) _ (λ _. refl)
host_deed_is script disks placed raised verbs.Create words h = host_call_is script.servers placed verbs.Create words h
host_deed_is script disks placed raised verbs.MakeDir words h = host_call_is script.servers placed verbs.MakeDir words h
host_deed_is script disks placed raised verbs.Remove words h = host_call_is script.servers placed verbs.Remove words h
host_deed_is script disks placed raised verbs.Rename words h = host_call_is script.servers placed verbs.Rename words h
host_deed_is script disks placed raised verbs.Truncate words h = host_call_is script.servers placed verbs.Truncate words h
host_deed_is script disks placed raised verbs.SetAcl words h = host_call_is script.servers placed verbs.SetAcl words h
host_deed_is script disks placed raised verbs.GetAcl words h = host_call_is script.servers placed verbs.GetAcl words h
host_deed_is script disks placed raised verbs.CloneFileset words h = host_call_is script.servers placed verbs.CloneFileset words h
host_deed_is script disks placed raised verbs.Read words h = host_call_is script.servers placed verbs.Read words h
host_deed_is script disks placed raised verbs.Write words h = host_call_is script.servers placed verbs.Write words h
host_deed_is script disks placed raised verbs.List words h = host_call_is script.servers placed verbs.List words h
host_deed_is script disks placed raised verbs.Stat words h = host_call_is script.servers placed verbs.Stat words h
host_deed_is script disks placed raised verbs.Sync words h = host_call_is script.servers placed verbs.Sync words h
host_deed_is script disks placed raised verbs.Unlock words h = host_call_is script.servers placed verbs.Unlock words h
host_deed_is script disks placed raised verbs.CloseFile words h = host_call_is script.servers placed verbs.CloseFile words h
host_deed_is script disks placed raised verbs.Lock words h = host_call_is script.servers placed verbs.Lock words h
host_deed_is script disks placed raised verbs.OpenFile words h = host_call_is script.servers placed verbs.OpenFile words h
host_deed_is script disks placed raised verbs.Restart words h = host_call_is script.servers placed verbs.Restart words h
host_deed_is script disks placed raised verbs.Move words h = then (λ deed. is_host_deed script.servers deed ≡ true) (IsLineCall script.servers) (move_call script disks placed words) _ (move_is script disks placed words h) (λ call k. k)

pub server_deed_is : (raised : List (List ℕ)) (verb : Verb) (words : List (List ℕ)) → IfOk (server_deed raised verb words) (λ deed. is_server_deed deed ≡ true)
unfolding server_deed
server_deed_is raised verbs.Raise words = raise_is (λ deed. is_server_deed deed ≡ true) raised words (λ flag. refl)
server_deed_is raised verbs.Await words = after (λ deed. is_server_deed deed ≡ true) (only_label words) _ (λ flag. refl)
server_deed_is raised verbs.Restart words = after (λ deed. is_server_deed deed ≡ true) (end_at words 2) _ (λ _. refl)
server_deed_is raised _ words = tt

-- the deed of a declared node
pub deed_is : (script : Script) (disks hosts : ℕ) (placed : List Placed) (raised : List (List ℕ)) (node : Node) (words : List (List ℕ)) → list_all (λ p. is_server script.servers p.server) placed ≡ true → is_node script.servers hosts node ≡ true → IfOk (deed_of script disks placed raised node words) (λ deed. is_sound_deed script.servers hosts node deed ≡ true)
unfolding deed_of
deed_is script disks hosts placed raised node words h n =
    after (λ deed. is_sound_deed script.servers hosts node deed ≡ true) (word_at words 1) _ (λ word.
    after (λ deed. is_sound_deed script.servers hosts node deed ≡ true) (found Word (verb_of word)) _ (λ verb. by_node node n verb))
  where
    by_node : (node : Node) → is_node script.servers hosts node ≡ true → (verb : Verb) → IfOk (node_deed script disks placed raised node verb words) (λ deed. is_sound_deed script.servers hosts node deed ≡ true)
    by_node (Host host) n verb = ok_more (λ deed. is_host_deed script.servers deed ≡ true) (λ deed. is_sound_deed script.servers hosts (Host host) deed ≡ true) (host_deed script disks placed raised verb words)
        (λ deed k. and_from (is_between 1 hosts host.0) (is_host_deed script.servers deed) n k) (host_deed_is script disks placed raised verb words h)
    by_node (Server server) n verb = ok_more (λ deed. is_server_deed deed ≡ true) (λ deed. is_sound_deed script.servers hosts (Server server) deed ≡ true) (server_deed raised verb words)
        (λ deed k. and_from (is_server script.servers server) (is_server_deed deed) n k) (server_deed_is raised verb words)

-- what the roster keeps
pub record IsRosterKept (roster : Roster) (servers : ℕ) : Type 0 where
  pub count : servers ≡ length roster.capacity
  pub most : nat_le servers SERVERS_MAX ≡ true
  pub host_count : nat_le (length roster.hosts) HOSTS_MAX ≡ true
  pub capacities : list_all (is_between CAPACITY_MIN CAPACITY_MAX) roster.capacity ≡ true
  pub users : list_all (λ user. is_between 1 GROUPS_MAX (length user.groups)) roster.users ≡ true
  pub host_lines : list_all (λ line. nat_lt line.user (length roster.users) && is_between CACHED_TOKENS_MIN CACHED_TOKENS_MAX line.limit) roster.hosts ≡ true

-- what lines keep before the one with this number
pub record AreKept (roster : Roster) (servers : ℕ) (setup lines : List Line) (placed : List Placed) (stopped : List HostId) (begun : Bool) (number : ℕ) : Type 0 where
  pub roster_kept : IsRosterKept roster servers
  pub first : servers ≡ 0 → (placed ≡ []) × (setup ≡ [])
  pub some : begun ≡ true → 1 ≤ servers
  pub headers : begun ≡ false → lines ≡ []
  pub placed_kept : list_all (λ p. is_server servers p.server) placed ≡ true
  pub setup_kept : list_all (is_setup_line servers) setup ≡ true
  pub lines_kept : list_all (is_sound_line servers (length roster.hosts)) lines ≡ true
  pub stopped_kept : list_all (λ line. not (is_stop line.deed) || node_stopped stopped line.node) lines ≡ true
  pub stops : stops_last lines ≡ true
  pub rise : numbers_rise 0 (setup ++ lines) ≡ true
  pub below : list_all (λ line. nat_lt line.number number) (setup ++ lines) ≡ true
  pub few : length setup + length lines < number

abbrev pub IsKept : Context → ℕ → Type 0
IsKept context number = AreKept context.script.roster context.script.servers context.script.setup context.script.lines context.placed context.stopped context.begun number

abbrev pub KeepsOn : ℕ → Context → Type 0
KeepsOn number next = IsKept next (number + 1)

pub kept_start : IsKept nothing_said 1
kept_start = record {
  roster_kept = record { count = refl; most = refl; host_count = refl; capacities = refl; users = refl; host_lines = refl };
  first = λ e. (refl, refl);
  some = λ e. absurd (cc);
  headers = λ e. refl;
  placed_kept = refl;
  setup_kept = refl;
  lines_kept = refl;
  stopped_kept = refl;
  stops = refl;
  rise = refl;
  below = refl;
  few = omega arith;
}

pub below_more : (number : ℕ) (line : Line) → nat_lt line.number number ≡ true → nat_lt line.number (number + 1) ≡ true
below_more number line h = lt-ltb line.number (number + 1) (omega (arith, ltb-true line.number number h))

-- a line that changes nothing of this
pub kept_on : (roster : Roster) (servers : ℕ) (setup lines : List Line) (placed : List Placed) (stopped : List HostId) (begun : Bool) (number : ℕ) → AreKept roster servers setup lines placed stopped begun number → AreKept roster servers setup lines placed stopped begun (number + 1)
kept_on roster servers setup lines placed stopped begun number h = record {
  roster_kept = h.roster_kept;
  first = h.first;
  some = h.some;
  headers = h.headers;
  placed_kept = h.placed_kept;
  setup_kept = h.setup_kept;
  lines_kept = h.lines_kept;
  stopped_kept = h.stopped_kept;
  stops = h.stops;
  rise = h.rise;
  below = all_more (λ (line : Line). nat_lt line.number number) (λ (line : Line). nat_lt line.number (number + 1)) (setup ++ lines) (λ line k. below_more number line k) h.below;
  few = omega (arith, h.few);
}

-- another roster, with as many servers, before lines are there
pub with_another : (roster other : Roster) (servers : ℕ) (setup lines : List Line) (placed : List Placed) (stopped : List HostId) (number : ℕ) → AreKept roster servers setup lines placed stopped false number → IsRosterKept other servers → AreKept other servers setup lines placed stopped false (number + 1)
with_another roster other servers setup lines placed stopped number h k =
    let on = kept_on roster servers setup lines placed stopped false number h in
    record {
      roster_kept = k;
      first = h.first;
      some = h.some;
      headers = h.headers;
      placed_kept = h.placed_kept;
      setup_kept = h.setup_kept;
      lines_kept = rw (h.headers refl) refl;
      stopped_kept = h.stopped_kept;
      stops = h.stops;
      rise = h.rise;
      below = on.below;
      few = on.few;
    }

-- the first header
pub kept_servers : (roster : Roster) (servers n : ℕ) (setup lines : List Line) (placed : List Placed) (stopped : List HostId) (number : ℕ) → AreKept roster servers setup lines placed stopped false number → servers ≡ 0 → is_between 1 SERVERS_MAX n ≡ true
    → AreKept (record roster { capacity = take n (CAPACITY_DEFAULT ∷ CAPACITY_DEFAULT ∷ CAPACITY_DEFAULT ∷ CAPACITY_DEFAULT ∷ []) }) n setup lines placed stopped false (number + 1)
kept_servers roster servers n setup lines placed stopped number h zero_is between =
    let on = kept_on roster servers setup lines placed stopped false number h in
    let small : nat_le n SERVERS_MAX ≡ true = (and_parts (nat_le 1 n) (nat_le n SERVERS_MAX) between).1 in
    let n_small : n ≤ 4 = leb-true n 4 small in
    record {
      roster_kept = record {
        count = sym (length-take n (CAPACITY_DEFAULT ∷ CAPACITY_DEFAULT ∷ CAPACITY_DEFAULT ∷ CAPACITY_DEFAULT ∷ []) ∙ (omega arith));
        most = small;
        host_count = h.roster_kept.host_count;
        capacities = all_taken (is_between CAPACITY_MIN CAPACITY_MAX) n (CAPACITY_DEFAULT ∷ CAPACITY_DEFAULT ∷ CAPACITY_DEFAULT ∷ CAPACITY_DEFAULT ∷ []) refl;
        users = h.roster_kept.users;
        host_lines = h.roster_kept.host_lines;
      };
      first = λ e. h.first zero_is;
      some = λ e. absurd (cc);
      headers = h.headers;
      placed_kept = rw (h.first zero_is).0 refl;
      setup_kept = rw (h.first zero_is).1 refl;
      lines_kept = rw (h.headers refl) refl;
      stopped_kept = h.stopped_kept;
      stops = h.stops;
      rise = h.rise;
      below = on.below;
      few = on.few;
    }

-- the other headers
pub kept_user : (roster : Roster) (servers : ℕ) (name : List ℕ) (groups : List (List ℕ)) → is_between 1 GROUPS_MAX (length groups) ≡ true → IsRosterKept roster servers → IsRosterKept (record roster { users = roster.users ++ record { name = name; groups = groups } ∷ [] }) servers
kept_user roster servers name groups h k = record {
  count = k.count;
  most = k.most;
  host_count = k.host_count;
  capacities = k.capacities;
  users = all_push (λ (user : User). is_between 1 GROUPS_MAX (length user.groups)) roster.users (record { name = name; groups = groups }) k.users h;
  host_lines = all_more (λ (line : HostLine). nat_lt line.user (length roster.users) && is_between CACHED_TOKENS_MIN CACHED_TOKENS_MAX line.limit) (λ (line : HostLine). nat_lt line.user (length (roster.users ++ record { name = name; groups = groups } ∷ [])) && is_between CACHED_TOKENS_MIN CACHED_TOKENS_MAX line.limit) roster.hosts
      (λ line l. longer line l) k.host_lines;
}
  where
    longer : (line : HostLine) → (nat_lt line.user (length roster.users) && is_between CACHED_TOKENS_MIN CACHED_TOKENS_MAX line.limit) ≡ true → (nat_lt line.user (length (roster.users ++ record { name = name; groups = groups } ∷ [])) && is_between CACHED_TOKENS_MIN CACHED_TOKENS_MAX line.limit) ≡ true
    longer line l =
        let parts = and_parts (nat_lt line.user (length roster.users)) (is_between CACHED_TOKENS_MIN CACHED_TOKENS_MAX line.limit) l in
        let below : line.user < length roster.users = ltb-true line.user (length roster.users) parts.0 in
        and_from (nat_lt line.user (length (roster.users ++ record { name = name; groups = groups } ∷ []))) (is_between CACHED_TOKENS_MIN CACHED_TOKENS_MAX line.limit)
        (lt-ltb line.user (length (roster.users ++ record { name = name; groups = groups } ∷ [])) (omega (arith, length-append roster.users (record { name = name; groups = groups } ∷ [])))) parts.1

pub kept_host : (roster : Roster) (servers user limit : ℕ) → user < length roster.users → length roster.hosts + 1 ≤ HOSTS_MAX → is_between CACHED_TOKENS_MIN CACHED_TOKENS_MAX limit ≡ true → IsRosterKept roster servers → IsRosterKept (record roster { hosts = roster.hosts ++ record { user = user; limit = limit } ∷ [] }) servers
kept_host roster servers user limit below most between k = record {
  count = k.count;
  most = k.most;
  host_count = le-leb (length (roster.hosts ++ record { user = user; limit = limit } ∷ [])) HOSTS_MAX (omega (arith, most, length-append roster.hosts (record { user = user; limit = limit } ∷ [])));
  capacities = k.capacities;
  users = k.users;
  host_lines = all_push (λ (line : HostLine). nat_lt line.user (length roster.users) && is_between CACHED_TOKENS_MIN CACHED_TOKENS_MAX line.limit) roster.hosts (record { user = user; limit = limit }) k.host_lines
      (and_from (nat_lt user (length roster.users)) (is_between CACHED_TOKENS_MIN CACHED_TOKENS_MAX limit) (lt-ltb user (length roster.users) below) between);
}

pub kept_capacity : (roster : Roster) (servers i blocks : ℕ) → is_between CAPACITY_MIN CAPACITY_MAX blocks ≡ true → IsRosterKept roster servers → IsRosterKept (record roster { capacity = slice_set roster.capacity i blocks }) servers
kept_capacity roster servers i blocks between k = record {
  count = k.count ∙ sym (length-set roster.capacity i blocks);
  most = k.most;
  host_count = k.host_count;
  capacities = all_set (is_between CAPACITY_MIN CAPACITY_MAX) roster.capacity i blocks k.capacities between;
  users = k.users;
  host_lines = k.host_lines;
}

pub groups_between : (words : List (List ℕ)) → IfOk (groups_at words) (λ groups. is_between 1 GROUPS_MAX (length groups) ≡ true)
groups_between words = by_test (nat_le (length words) 2) refl
  where
    taken_between : (n : ℕ) → 2 < n → (1 ≤ min (min n 10 - 2) (n - 2)) × (min (min n 10 - 2) (n - 2) ≤ 8)
    taken_between n h = (omega arith, omega arith)

    by_test : (v : Bool) → nat_le (length words) 2 ≡ v → IfOk (cond v (Err Word) (Ok (take (min (length words) (GROUPS_MAX + 2) - 2) (drop 2 words)))) (λ groups. is_between 1 GROUPS_MAX (length groups) ≡ true)
    by_test true e = tt
    by_test false e =
        let len : length (take (min (length words) (GROUPS_MAX + 2) - 2) (drop 2 words)) ≡ min (min (length words) 10 - 2) (length words - 2) = length-take (min (length words) (GROUPS_MAX + 2) - 2) (drop 2 words) ∙ ap (λ n. min (min (length words) 10 - 2) n) (length-drop 2 words) in
        let both = taken_between (length words) (leb-false (length words) 2 e) in
        rw len (and_from (nat_le 1 (min (min (length words) 10 - 2) (length words - 2))) (nat_le (min (min (length words) 10 - 2) (length words - 2)) 8) (le-leb 1 (min (min (length words) 10 - 2) (length words - 2)) both.0) (le-leb (min (min (length words) 10 - 2) (length words - 2)) 8 both.1))

pub as_many_named : (names words : List (List ℕ)) → IfOk (all_named names words) (λ all. length all ≡ length names + length words)
as_many_named names [] = omega arith
as_many_named names (word ∷ words) = after (λ all. length all ≡ length names + length (word ∷ words)) (named word) _ (λ name.
    ok_more (λ all. length all ≡ length (names ++ name ∷ []) + length words) (λ all. length all ≡ length names + length (word ∷ words)) (all_named (names ++ name ∷ []) words)
    (λ all e. e ∙ (omega (arith, length-append names (name ∷ [])))) (as_many_named (names ++ name ∷ []) words))

-- a user's place is among the users
pub user_below : (users : List User) (name : List ℕ) → IfSome (user_place users name) (λ i. i < length users)
user_below users name = by_place (user_place users name) refl
  where
    by_place : (option : Option ℕ) → user_place users name ≡ option → IfSome option (λ i. i < length users)
    by_place None e = tt
    by_place (Some i) e = (position-Some (λ (user : User). same_name user.name name) users i (record { name = []; groups = [] }) e).0

-- lines and their numbers
pub rise_push : (low number : ℕ) (lines : List Line) (line : Line) → numbers_rise low lines ≡ true → nat_lt low line.number ≡ true → list_all (λ l. nat_lt l.number line.number) lines ≡ true → numbers_rise low (lines ++ line ∷ []) ≡ true
rise_push low number [] line h k b = and_from (nat_lt low line.number) true k refl
rise_push low number (first ∷ lines) line h k b =
    let parts = and_parts (nat_lt low first.number) (numbers_rise first.number lines) h in
    let under = and_parts (nat_lt first.number line.number) (list_all (λ (l : Line). nat_lt l.number line.number) lines) b in
    and_from (nat_lt low first.number) (numbers_rise first.number (lines ++ line ∷ [])) parts.0 (rise_push first.number number lines line parts.1 under.0 under.1)

pub below_push : (number : ℕ) (lines : List Line) (line : Line) → line.number ≡ number → list_all (λ l. nat_lt l.number number) lines ≡ true → list_all (λ l. nat_lt l.number (number + 1)) (lines ++ line ∷ []) ≡ true
below_push number lines line e h =
    all_push (λ (l : Line). nat_lt l.number (number + 1)) lines line (all_more (λ (l : Line). nat_lt l.number number) (λ (l : Line). nat_lt l.number (number + 1)) lines (λ l k. below_more number l k) h)
    (lt-ltb line.number (number + 1) (omega arith))

-- a fileset line
pub kept_fileset : (roster : Roster) (servers : ℕ) (setup lines : List Line) (placed : List Placed) (stopped : List HostId) (number : ℕ) (place : Placed) (line : Line)
    → AreKept roster servers setup lines placed stopped false number → is_server servers place.server ≡ true → is_setup_line servers line ≡ true → line.number ≡ number → 1 ≤ servers
    → AreKept roster servers (setup ++ line ∷ []) lines (placed ++ place ∷ []) stopped false (number + 1)
kept_fileset roster servers setup lines placed stopped number place line h is_at is_setup e some =
    let none : lines ≡ [] = h.headers refl in
    let rise : numbers_rise 0 (setup ++ []) ≡ true = rw none at h.rise in
    let below : list_all (λ (l : Line). nat_lt l.number number) (setup ++ []) ≡ true = rw none at h.below in
    let low : list_all (λ (l : Line). nat_lt l.number number) setup ≡ true = rw (append-nil setup) at below in
    let low_line : list_all (λ (l : Line). nat_lt l.number line.number) setup ≡ true = rw (sym e) at low in
    let long = length-append setup (line ∷ []) in
    record {
      roster_kept = h.roster_kept;
      first = λ z. absurd (omega arith);
      some = λ b. absurd (cc);
      headers = h.headers;
      placed_kept = all_push (λ (p : Placed). is_server servers p.server) placed place h.placed_kept is_at;
      setup_kept = all_push (is_setup_line servers) setup line h.setup_kept is_setup;
      lines_kept = h.lines_kept;
      stopped_kept = h.stopped_kept;
      stops = h.stops;
      rise = rw (none, append-nil (setup ++ line ∷ [])) (rise_push 0 number setup line (rw (append-nil setup) at rise) (lt-ltb 0 line.number (omega (arith, h.few))) low_line);
      below = rw (none, append-nil (setup ++ line ∷ [])) (below_push number setup line e low);
      few = omega (arith, h.few, long);
    }

-- a line of a node
pub stopped_more : (stopped : List HostId) (host : HostId) (node : Node) → node_stopped stopped node ≡ true → node_stopped (stopped ++ host ∷ []) node ≡ true
stopped_more stopped host (Host other) h = rw (list_any-append (λ h. h.0 == other.0) stopped (host ∷ [])) (or_left (has_stopped stopped other) _ h)
stopped_more stopped host (Server server) h = h

pub same_stopped : (stopped : List HostId) (a b : Node) → same_node a b ≡ true → node_stopped stopped a ≡ node_stopped stopped b
same_stopped stopped (Host a) (Host b) e = ap (λ (n : ℕ). has_stopped stopped (record { 0 = n })) (eqb-true a.0 b.0 e)
same_stopped stopped (Server a) (Server b) e = refl
same_stopped stopped (Host a) (Server b) e = absurd (cc)
same_stopped stopped (Server a) (Host b) e = absurd (cc)

pub stops_push : (stopped : List HostId) (lines : List Line) (line : Line) → stops_last lines ≡ true → list_all (λ l. not (is_stop l.deed) || node_stopped stopped l.node) lines ≡ true → node_stopped stopped line.node ≡ false → stops_last (lines ++ line ∷ []) ≡ true
stops_push stopped [] line h k f = by_stop (is_stop line.deed)
  where
    by_stop : (v : Bool) → (not (v && false) && true) ≡ true
    by_stop true = refl
    by_stop false = refl
stops_push stopped (first ∷ lines) line h k f =
    let parts = and_parts (not (is_stop first.deed && list_any (is_of first.node) lines)) (stops_last lines) h in
    let marks = and_parts (not (is_stop first.deed) || node_stopped stopped first.node) (list_all (λ (l : Line). not (is_stop l.deed) || node_stopped stopped l.node) lines) k in
    and_from (not (is_stop first.deed && list_any (is_of first.node) (lines ++ line ∷ []))) (stops_last (lines ++ line ∷ []))
    (rw (list_any-append (is_of first.node) lines (line ∷ [])) (by_tests (is_stop first.deed) (list_any (is_of first.node) lines) (is_of first.node line) refl parts.0 marks.0))
    (stops_push stopped lines line parts.1 marks.1 f)
  where
    by_tests : (stop later mine : Bool) → is_of first.node line ≡ mine → not (stop && later) ≡ true → (not stop || node_stopped stopped first.node) ≡ true → not (stop && (later || (mine || false))) ≡ true
    by_tests false later mine o n m = refl
    by_tests true true mine o n m = absurd (cc)
    by_tests true false false o n m = refl
    by_tests true false true o n m = let same = same_stopped stopped line.node first.node o in absurd (cc)

-- what a deed leaves of the hosts that have stopped
abbrev pub stopped_after : List HostId → Node → Deed → List HostId
stopped_after stopped (Host host) Stop = stopped ++ host ∷ []
stopped_after stopped _ _ = stopped

pub kept_line : (roster : Roster) (servers : ℕ) (setup lines : List Line) (placed : List Placed) (stopped more : List HostId) (number : ℕ) (line : Line)
    → AreKept roster servers setup lines placed stopped true number → is_sound_line servers (length roster.hosts) line ≡ true → node_stopped stopped line.node ≡ false → line.number ≡ number
    → ((node : Node) → node_stopped stopped node ≡ true → node_stopped more node ≡ true) → (not (is_stop line.deed) || node_stopped more line.node) ≡ true
    → AreKept roster servers setup (lines ++ line ∷ []) placed more true (number + 1)
kept_line roster servers setup lines placed stopped more number line h sound free e grows marked =
    let long = length-append lines (line ∷ []) in
    let low_line : list_all (λ (l : Line). nat_lt l.number line.number) (setup ++ lines) ≡ true = rw (sym e) at h.below in
    record {
      roster_kept = h.roster_kept;
      first = h.first;
      some = h.some;
      headers = λ b. absurd (cc);
      placed_kept = h.placed_kept;
      setup_kept = h.setup_kept;
      lines_kept = all_push (is_sound_line servers (length roster.hosts)) lines line h.lines_kept sound;
      stopped_kept = all_push (λ (l : Line). not (is_stop l.deed) || node_stopped more l.node) lines line
          (all_more (λ (l : Line). not (is_stop l.deed) || node_stopped stopped l.node) (λ (l : Line). not (is_stop l.deed) || node_stopped more l.node) lines (λ l k. marks (is_stop l.deed) l.node k) h.stopped_kept) marked;
      stops = stops_push stopped lines line h.stops h.stopped_kept free;
      rise = rw (← append_assoc) (rise_push 0 number (setup ++ lines) line h.rise (lt-ltb 0 line.number (omega (arith, h.few))) low_line);
      below = rw (← append_assoc) (below_push number (setup ++ lines) line e h.below);
      few = omega (arith, h.few, long);
    }
  where
    marks : (stop : Bool) (node : Node) → (not stop || node_stopped stopped node) ≡ true → (not stop || node_stopped more node) ≡ true
    marks true node k = grows node k
    marks false node k = refl

-- each header keeps all this
pub kept_servers_line : (context : Context) (disks number : ℕ) (words : List (List ℕ)) → context.begun ≡ false → IsKept context number → IfOk (servers_line context disks words) (KeepsOn number)
unfolding servers_line
kept_servers_line context disks number words b h =
    past (KeepsOn number) (not (context.script.servers == 0)) Order _ (λ e.
    then (KeepsOn number) (λ n. is_between 1 SERVERS_MAX n ≡ true) (number_at 1 SERVERS_MAX words 1) _ (number_between 1 SERVERS_MAX words 1) (λ n k.
    past (KeepsOn number) (nat_lt n disks) Disks _ (λ _.
    after (KeepsOn number) (end_at words 2) _ (λ _.
    rw b (kept_servers context.script.roster context.script.servers n context.script.setup context.script.lines context.placed context.stopped number (rw b at h) (eqb-true context.script.servers 0 (not-false (context.script.servers == 0) e)) k)))))

pub kept_user_line : (context : Context) (number : ℕ) (words : List (List ℕ)) → context.begun ≡ false → IsKept context number → IfOk (user_line context words) (KeepsOn number)
unfolding user_line
kept_user_line context number words b h =
    after (KeepsOn number) (name_at words 1) _ (λ name.
    past (KeepsOn number) (is_some (user_place context.script.roster.users name)) Repeated _ (λ _.
    then (KeepsOn number) (λ (groups : List (List ℕ)). is_between 1 GROUPS_MAX (length groups) ≡ true) (groups_at words) _ (groups_between words) (λ group_words k.
    then (KeepsOn number) (λ (all : List (List ℕ)). length all ≡ length {A = List ℕ} [] + length group_words) (all_named [] group_words) _ (as_many_named [] group_words) (λ groups l.
    after (KeepsOn number) (end_at words (GROUPS_MAX + 2)) _ (λ _.
    rw b (with_another context.script.roster (record context.script.roster { users = context.script.roster.users ++ record { name = name; groups = groups } ∷ [] }) context.script.servers context.script.setup context.script.lines context.placed context.stopped number (rw b at h)
    (kept_user context.script.roster context.script.servers name groups (as_many groups group_words l k) h.roster_kept)))))))
  where
    as_many : (groups group_words : List (List ℕ)) → length groups ≡ 0 + length group_words → is_between 1 GROUPS_MAX (length group_words) ≡ true → is_between 1 GROUPS_MAX (length groups) ≡ true
    as_many groups group_words l k = let same : length groups ≡ length group_words = omega arith in rw same k

pub kept_host_line : (context : Context) (number : ℕ) (words : List (List ℕ)) → context.begun ≡ false → IsKept context number → IfOk (host_line context words) (KeepsOn number)
unfolding host_line
kept_host_line context number words b h =
    then (KeepsOn number) (λ (host : HostId). is_between 1 HOSTS_MAX host.0 ≡ true) (host_named words 1) _ (host_within words 1) (λ host k.
    past (KeepsOn number) (not (host.0 == length context.script.roster.hosts + 1)) Repeated _ (λ e.
    after (KeepsOn number) (name_at words 2) _ (λ name.
    then (KeepsOn number) (λ user. user < length context.script.roster.users) (found Undeclared (user_place context.script.roster.users name)) _ (where_found (λ user. user < length context.script.roster.users) Undeclared (user_place context.script.roster.users name) (user_below context.script.roster.users name)) (λ user u.
    then (KeepsOn number) (λ limit. is_between CACHED_TOKENS_MIN CACHED_TOKENS_MAX limit ≡ true) (limit_at words) _ (limit_between (nat_le (length words) 3)) (λ limit l.
    after (KeepsOn number) (end_at words 4) _ (λ _.
    rw b (with_another context.script.roster (record context.script.roster { hosts = context.script.roster.hosts ++ record { user = user; limit = limit } ∷ [] }) context.script.servers context.script.setup context.script.lines context.placed context.stopped number (rw b at h)
    (kept_host context.script.roster context.script.servers user limit u (next_host host.0 k e) l h.roster_kept))))))))
  where
    limit_between : (v : Bool) → IfOk (cond v (Ok CACHED_TOKENS_DEFAULT) (number_at CACHED_TOKENS_MIN CACHED_TOKENS_MAX words 3)) (λ limit. is_between CACHED_TOKENS_MIN CACHED_TOKENS_MAX limit ≡ true)
    limit_between true = refl
    limit_between false = number_between CACHED_TOKENS_MIN CACHED_TOKENS_MAX words 3

    next_host : (n : ℕ) → is_between 1 HOSTS_MAX n ≡ true → not (n == length context.script.roster.hosts + 1) ≡ false → length context.script.roster.hosts + 1 ≤ HOSTS_MAX
    next_host n k e =
        let same : n ≡ length context.script.roster.hosts + 1 = eqb-true n (length context.script.roster.hosts + 1) (not-false (n == length context.script.roster.hosts + 1) e) in
        let most : n ≤ 16 = leb-true n 16 (and_parts (nat_le 1 n) (nat_le n HOSTS_MAX) k).1 in
        omega arith

pub kept_capacity_line : (context : Context) (number : ℕ) (words : List (List ℕ)) → context.begun ≡ false → IsKept context number → IfOk (capacity_line context words) (KeepsOn number)
unfolding capacity_line
kept_capacity_line context number words b h =
    after (KeepsOn number) (server_at context.script words 1) _ (λ server.
    past (KeepsOn number) (is_capped context.capped server) Repeated _ (λ _.
    past (KeepsOn number) (has_fileset_at context.placed server) Order _ (λ _.
    then (KeepsOn number) (λ blocks. is_between CAPACITY_MIN CAPACITY_MAX blocks ≡ true) (number_at CAPACITY_MIN CAPACITY_MAX words 2) _ (number_between CAPACITY_MIN CAPACITY_MAX words 2) (λ blocks k.
    after (KeepsOn number) (end_at words 3) _ (λ _.
    rw b (with_another context.script.roster (record context.script.roster { capacity = slice_set context.script.roster.capacity (server.0 - 1) blocks }) context.script.servers context.script.setup context.script.lines context.placed context.stopped number (rw b at h)
    (kept_capacity context.script.roster context.script.servers (server.0 - 1) blocks k h.roster_kept)))))))

pub kept_fileset_line : (context : Context) (number : ℕ) (words : List (List ℕ)) → context.begun ≡ false → 1 ≤ context.script.servers → IsKept context number → IfOk (fileset_line context number words) (KeepsOn number)
unfolding fileset_line owner_at
kept_fileset_line context number words b some h =
    after (KeepsOn number) (name_at words 1) _ (λ name.
    then (KeepsOn number) (λ server. is_server context.script.servers server ≡ true) (server_at context.script words 2) _ (server_is context.script words 2) (λ server k.
    past (KeepsOn number) (is_elsewhere (server_of context.placed name) server) Repeated _ (λ _.
    then (KeepsOn number) (λ objects. is_between 1 OBJECTS_MAX objects ≡ true) (number_at 1 OBJECTS_MAX words 3) _ (number_between 1 OBJECTS_MAX words 3) (λ objects l.
    then (KeepsOn number) (λ (owner : User). is_between 1 GROUPS_MAX (length owner.groups) ≡ true) (owner_at context.script.roster.users words) _ owner_is (λ owner m.
    after (KeepsOn number) (end_at words 5) _ (λ _.
    rw b (kept_fileset context.script.roster context.script.servers context.script.setup context.script.lines context.placed context.stopped number (record { name = name; server = server }) (setup_line number server name objects owner) (rw b at h) k
    (and_from (is_sound_call context.script.servers (calls.NewFileset server name objects owner)) true
    (and_from (is_server context.script.servers server && is_between 1 OBJECTS_MAX objects) (is_between 1 GROUPS_MAX (length owner.groups)) (and_from (is_server context.script.servers server) (is_between 1 OBJECTS_MAX objects) k l) m) refl) refl some)))))))
  where
    owner_is : IfOk (owner_at context.script.roster.users words) (λ (owner : User). is_between 1 GROUPS_MAX (length owner.groups) ≡ true)
    owner_is = after (λ (owner : User). is_between 1 GROUPS_MAX (length owner.groups) ≡ true) (name_at words 4) _ (λ name.
        where_found (λ (owner : User). is_between 1 GROUPS_MAX (length owner.groups) ≡ true) Undeclared (user_named context.script.roster.users name)
        (found_all (λ (user : User). is_between 1 GROUPS_MAX (length user.groups)) (λ user. same_name user.name name) context.script.roster.users h.roster_kept.users))

pub kept_net_line : (context : Context) (number : ℕ) (words : List (List ℕ)) → IsKept context number → IfOk (net_line context words) (KeepsOn number)
unfolding net_line
kept_net_line context number words h =
    past (KeepsOn number) (is_some context.script.net) Repeated _ (λ _.
    after (KeepsOn number) (number_at 0 18446744073709551615 words 1) _ (λ seed.
    after (KeepsOn number) (number_at 0 NET_MAX words 2) _ (λ losses.
    after (KeepsOn number) (number_at 0 NET_MAX words 3) _ (λ repeats.
    after (KeepsOn number) (number_at 0 NET_MAX words 4) _ (λ delays.
    after (KeepsOn number) (end_at words 5) _ (λ _.
    kept_on context.script.roster context.script.servers context.script.setup context.script.lines context.placed context.stopped context.begun number h))))))

pub kept_plan_line : (context : Context) (number : ℕ) (words : List (List ℕ)) → IsKept context number → IfOk (plan_line context words) (KeepsOn number)
unfolding plan_line
kept_plan_line context number words h =
    after (KeepsOn number) (plan_at context.script words) _ (λ line.
    kept_on context.script.roster context.script.servers context.script.setup context.script.lines context.placed context.stopped context.begun number h)

pub kept_begin_line : (context : Context) (number : ℕ) (words : List (List ℕ)) → context.begun ≡ false → 1 ≤ context.script.servers → IsKept context number → IfOk (begin_line context words) (KeepsOn number)
unfolding begin_line
kept_begin_line context number words b some h =
    past (KeepsOn number) (length context.script.roster.hosts == 0) Order _ (λ _.
    after (KeepsOn number) (end_at words 1) _ (λ _.
    begins (kept_on context.script.roster context.script.servers context.script.setup context.script.lines context.placed context.stopped context.begun number h)))
  where
    begins : AreKept context.script.roster context.script.servers context.script.setup context.script.lines context.placed context.stopped context.begun (number + 1)
        → AreKept context.script.roster context.script.servers context.script.setup context.script.lines context.placed context.stopped true (number + 1)
    begins on = record { roster_kept = on.roster_kept; first = on.first; some = λ _. some; headers = λ e. absurd (cc); placed_kept = on.placed_kept; setup_kept = on.setup_kept; lines_kept = on.lines_kept; stopped_kept = on.stopped_kept; stops = on.stops; rise = on.rise; below = on.below; few = on.few }

pub kept_header_by : (context : Context) (header : Header) (disks number : ℕ) (words : List (List ℕ)) → context.begun ≡ false → ((context.script.servers == 0) && not (is_servers header)) ≡ false → IsKept context number → IfOk (header_by context header disks number words) (KeepsOn number)
unfolding header_by
kept_header_by context headers.Servers disks number words b e h = kept_servers_line context disks number words b h
kept_header_by context headers.User disks number words b e h = kept_user_line context number words b h
kept_header_by context headers.Host disks number words b e h = kept_host_line context number words b h
kept_header_by context headers.Capacity disks number words b e h = kept_capacity_line context number words b h
kept_header_by context headers.Fileset disks number words b e h = kept_fileset_line context number words b (some_servers context.script.servers e) h
kept_header_by context headers.Net disks number words b e h = kept_net_line context number words h
kept_header_by context headers.Plan disks number words b e h = kept_plan_line context number words h
kept_header_by context headers.Begin disks number words b e h = kept_begin_line context number words b (some_servers context.script.servers e) h

pub kept_header_line : (context : Context) (disks number : ℕ) (words : List (List ℕ)) → context.begun ≡ false → IsKept context number → IfOk (header_line context disks number words) (KeepsOn number)
unfolding header_line
kept_header_line context disks number words b h =
    after (KeepsOn number) (word_at words 0) _ (λ word.
    after (KeepsOn number) (found Word (header_of word)) _ (λ header.
    past (KeepsOn number) ((context.script.servers == 0) && not (is_servers header)) Order _ (λ e.
    kept_header_by context header disks number words b e h)))

-- each line of a node keeps it
pub node_at_is : (context : Context) (words : List (List ℕ)) → IfOk (node_at context words) (λ node. (is_node context.script.servers (length context.script.roster.hosts) node ≡ true) × (node_stopped context.stopped node ≡ false))
unfolding node_at
node_at_is context words =
    after (λ node. (is_node context.script.servers (length context.script.roster.hosts) node ≡ true) × (node_stopped context.stopped node ≡ false)) (word_at words 0) _ (λ word.
    past (λ node. (is_node context.script.servers (length context.script.roster.hosts) node ≡ true) × (node_stopped context.stopped node ≡ false)) (is_some (header_of word)) Order _ (λ _.
    then (λ node. (is_node context.script.servers (length context.script.roster.hosts) node ≡ true) × (node_stopped context.stopped node ≡ false)) (λ node. is_numbered node ≡ true) (found Word (node_of word)) _ (where_found (λ node. is_numbered node ≡ true) Word (node_of word) (node_within word)) (λ named k.
    then (λ node. (is_node context.script.servers (length context.script.roster.hosts) node ≡ true) × (node_stopped context.stopped node ≡ false)) (λ node. is_node context.script.servers (length context.script.roster.hosts) node ≡ true) (node_declared context.script named) _ (declared_is context.script named k) (λ node l.
    past (λ node. (is_node context.script.servers (length context.script.roster.hosts) node ≡ true) × (node_stopped context.stopped node ≡ false)) (node_stopped context.stopped node) Stopped _ (λ f. (l, f))))))

pub kept_noted : (context : Context) (number : ℕ) (node : Node) (deed : Deed) → context.begun ≡ true → IsKept context number → node_stopped context.stopped node ≡ false → is_sound_deed context.script.servers (length context.script.roster.hosts) node deed ≡ true → KeepsOn number (with_line (noted context node deed) (line_of number node deed))
kept_noted context number node deed b h f s = by_deed node deed f s
  where
    same : (line : Line) → line.number ≡ number → is_sound_line context.script.servers (length context.script.roster.hosts) line ≡ true → node_stopped context.stopped line.node ≡ false → is_stop line.deed ≡ false
        → AreKept context.script.roster context.script.servers context.script.setup (context.script.lines ++ line ∷ []) context.placed context.stopped context.begun (number + 1)
    same line e s f n = rw b (kept_line context.script.roster context.script.servers context.script.setup context.script.lines context.placed context.stopped context.stopped number line (rw b at h) s f e (λ _ k. k) (rw n refl))

    by_deed : (node : Node) (deed : Deed) → node_stopped context.stopped node ≡ false → is_sound_deed context.script.servers (length context.script.roster.hosts) node deed ≡ true → KeepsOn number (with_line (noted context node deed) (line_of number node deed))
    by_deed node (Call call) f s = same (line_of number node (Call call)) refl s f refl
    by_deed node (Raise flag) f s = same (line_of number node (Raise flag)) refl s f refl
    by_deed node (Await flag) f s = same (line_of number node (Await flag)) refl s f refl
    by_deed node Restart f s = same (line_of number node Restart) refl s f refl
    by_deed (Host host) Stop f s =
        rw b (kept_line context.script.roster context.script.servers context.script.setup context.script.lines context.placed context.stopped (context.stopped ++ host ∷ []) number (line_of number (Host host) Stop) (rw b at h) s f refl (stopped_more context.stopped host)
        (rw (list_any-append (λ (other : HostId). other.0 == host.0) context.stopped (host ∷ [])) (or_right (has_stopped context.stopped host) _ (or_left (host.0 == host.0) _ (eq-eqb host.0 host.0 refl)))))
    by_deed (Server server) Stop f s = let wrong = (and_parts (is_server context.script.servers server) false s).1 in absurd (cc)

pub kept_deed_line : (context : Context) (disks number : ℕ) (words : List (List ℕ)) → context.begun ≡ true → IsKept context number → IfOk (deed_line context disks number words) (KeepsOn number)
unfolding deed_line
kept_deed_line context disks number words b h =
    then (KeepsOn number) (λ node. (is_node context.script.servers (length context.script.roster.hosts) node ≡ true) × (node_stopped context.stopped node ≡ false)) (node_at context words) _ (node_at_is context words) (λ node k.
    then (KeepsOn number) (λ deed. is_sound_deed context.script.servers (length context.script.roster.hosts) node deed ≡ true) (deed_of context.script disks context.placed context.raised node words) _ (deed_is context.script disks (length context.script.roster.hosts) context.placed context.raised node words h.placed_kept k.0) (λ deed s.
    kept_noted context number node deed b h k.1 s))

-- each line keeps it
pub kept_taken : (context : Context) (disks number : ℕ) (words : List (List ℕ)) → IsKept context number → IfOk (taken context disks number words) (KeepsOn number)
unfolding taken
kept_taken context disks number words h = by_words (length words == 0)
  where
    by_begun : (v : Bool) → context.begun ≡ v → IfOk (cond v (deed_line context disks number words) (header_line context disks number words)) (KeepsOn number)
    by_begun true b = kept_deed_line context disks number words b h
    by_begun false b = kept_header_line context disks number words b h

    by_words : (v : Bool) → IfOk (cond v (Ok context) (cond context.begun (deed_line context disks number words) (header_line context disks number words))) (KeepsOn number)
    by_words true = kept_on context.script.roster context.script.servers context.script.setup context.script.lines context.placed context.stopped context.begun number h
    by_words false = by_begun context.begun refl

pub kept_judged : (context : Context) (disks number : ℕ) (line : List ℕ) → IsKept context number → IfOk (line_judged context disks number line) (KeepsOn number)
unfolding line_judged
kept_judged context disks number line h = after (KeepsOn number) (words_of_line line) _ (λ words. kept_taken context disks number words h)

-- and so do the names of clones
pub clone_at : (servers steps : ℕ) (placed : List Placed) (clones : List CloneLine) (name : List ℕ) → list_all (λ p. is_server servers p.server) placed ≡ true → IfSome (place_by steps placed clones name) (λ server. is_server servers server ≡ true)
clone_at servers zero placed clones name h = fileset_is servers placed name h
clone_at servers (suc steps) placed clones name h = by_found (find_placed placed name) (found_all (λ (p : Placed). is_server servers p.server) (λ other. same_name other.name name) placed h) (by_clone (find (places (λ source. place_by steps placed clones source) name) clones) (λ source. clone_at servers steps placed clones source h))
  where
    by_clone : (option : Option CloneLine) → ((source : List ℕ) → IfSome (place_by steps placed clones source) (λ server. is_server servers server ≡ true)) → IfSome (by_source option (λ source. place_by steps placed clones source)) (λ server. is_server servers server ≡ true)
    by_clone None f = tt
    by_clone (Some clone) f = f clone.source

    by_found : (option : Option Placed) → IfSome option (λ p. is_server servers p.server ≡ true) → IfSome (by_source (find (places (λ source. place_by steps placed clones source) name) clones) (λ source. place_by steps placed clones source)) (λ server. is_server servers server ≡ true)
        → IfSome (found_server option (by_source (find (places (λ source. place_by steps placed clones source) name) clones) (λ source. place_by steps placed clones source))) (λ server. is_server servers server ≡ true)
    by_found None k l = l
    by_found (Some p) k l = k

pub clones_at : (servers : ℕ) (server_by : List ℕ → Option ServerId) (placed : List Placed) (clones : List CloneLine) → ((name : List ℕ) → IfSome (server_by name) (λ server. is_server servers server ≡ true)) → list_all (λ p. is_server servers p.server) placed ≡ true → list_all (λ p. is_server servers p.server) (placed_from server_by placed clones) ≡ true
clones_at servers server_by placed [] f h = h
clones_at servers server_by placed (clone ∷ clones) f h = clones_at servers server_by (placed_also placed clone.new (server_by clone.new)) clones f (also (server_by clone.new) (f clone.new))
  where
    also : (option : Option ServerId) → IfSome option (λ server. is_server servers server ≡ true) → list_all (λ p. is_server servers p.server) (placed_also placed clone.new option) ≡ true
    also None k = h
    also (Some server) k = all_push (λ (p : Placed). is_server servers p.server) placed (record { name = clone.new; server = server }) h k

pub kept_clones : (context : Context) (number : ℕ) (lines : List (List ℕ)) → context.begun ≡ true → IsKept context number → IsKept (with_clones context lines) number
unfolding with_clones
kept_clones context number lines b h = record {
  roster_kept = h.roster_kept;
  first = λ e. absurd (omega (arith, h.some b));
  some = h.some;
  headers = h.headers;
  placed_kept = rw (list_all-append (λ (p : Placed). is_server context.script.servers p.server) context.placed (placed_by context.placed (clones_from [] lines)))
      (and_from (list_all (λ (p : Placed). is_server context.script.servers p.server) context.placed) (list_all (λ (p : Placed). is_server context.script.servers p.server) (placed_by context.placed (clones_from [] lines))) h.placed_kept
      (clones_at context.script.servers (clone_place context.placed (clones_from [] lines)) [] (clones_from [] lines)
      (λ name. clone_at context.script.servers most_steps context.placed (clones_from [] lines) name h.placed_kept) refl));
  setup_kept = h.setup_kept;
  lines_kept = h.lines_kept;
  stopped_kept = h.stopped_kept;
  stops = h.stops;
  rise = h.rise;
  below = h.below;
  few = h.few;
}
