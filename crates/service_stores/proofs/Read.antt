-- What a script that is read asks for can be said, and it has a server for each disk.
use Rattle.std.proofs.Common.{◌≡◌, ◌≤◌, ℕ, ◌+◌, ◌==◌, ◌&&◌, not, nat_le, nat_lt, cond, Bool, true, false, List, [], ◌∷◌, ◌++◌, length, Option, Some, None, Result, Ok, Err, IfOk, refl, sym, subst, arith}
use Rattle.std.specs.Prelude.{codes, is_some, IsTrue}
use Rattle.std.proofs.lemmas.Bool.{and_parts, leb-true, ltb-false}
use Rattle.base_types.specs.Name.{is_among, is_name}
use Rattle.base_types.specs.Outcomes.{and_then}
use Rattle.base_types.specs.declared.ids.HostId.{HostId}
use Rattle.base_types.specs.declared.ids.Node.{Node}
use Rattle.base_types.specs.declared.ids.Node.TheVariants.{Host, Server}
use Rattle.base_types.specs.declared.limits.TheConstants.{GROUPS_MAX, LINE_BYTES_MAX, OBJECTS_MAX, SCRIPT_LINES_MAX, SERVERS_MAX}
use Rattle.base_types.specs.declared.limits.TheConstants.{CAPACITY_MAX, CAPACITY_MIN}
use Rattle.tree_calls.specs.declared.call.Call.{Call as CallOf}
use Rattle.tree_calls.specs.declared.call.Call.TheVariants as calls
use Rattle.tree_calls.specs.declared.place.Place.{Place}
use Rattle.message_types.specs.Soundness.{Each, HasCount, IsShort, places_in}
use Rattle.store_acts.specs.Sound.{HasName}
use Rattle.script_words.specs.Fields.{all_named, end_at, label_at, name_at, names_of, number_at, text_at, word_at}
use Rattle.script_words.specs.Fields.{is_word}
use Rattle.script_words.specs.Lines.{lines_of}
use Rattle.script_words.specs.Lists.{list_at}
use Rattle.script_words.specs.Outcome.{◌>>=◌, found, unless}
use Rattle.script_words.specs.Terms.{lock_mode_of, open_kind_of}
use Rattle.script_words.specs.Words.{words_of_line}
use Rattle.script_words.specs.declared.fault.BadWhy.{BadWhy}
use Rattle.script_words.specs.declared.fault.BadWhy.TheVariants.{Disks, Lines, Order, Repeated, Undeclared, Word}
use Rattle.script_lines.specs.Clones.{with_clones}
use Rattle.script_lines.specs.Context.{host_named, is_elsewhere, place_at, place_at_server, place_of}
use Rattle.script_lines.specs.Context.{server_at, server_of, user_place}
use Rattle.script_lines.specs.Deeds.{call_by, clone_call, deed_of, getacl_call, host_deed, is_mixed, lock_call, move_call, node_deed, only_label, only_place, open_call, raise_deed, read_call, rename_call, setacl_call, truncate_call, verb_of, which_at, write_call}
use Rattle.script_lines.specs.Headers.{
  begin_line,
  capacity_line,
  fileset_line,
  groups_at,
  has_fileset_at,
  header_by,
  header_line,
  header_of,
  host_line,
  is_capped,
  is_servers,
  limit_at,
  net_line,
  owner_at,
  servers_line,
  setup_line,
  user_line,
}
use Rattle.script_lines.specs.Judge.{deed_line, line_judged, line_of, node_at, noted, nothing_said, taken, with_line}
use Rattle.script_lines.specs.Plan.{plan_at, plan_line}
use Rattle.script_lines.specs.Sound.{IsSound}
use Rattle.script_lines.specs.declared.context.Context.{Context}
use Rattle.script_lines.specs.declared.script.Deed.{Deed}
use Rattle.script_lines.specs.declared.script.Deed.TheVariants.{Call, Raise, Await, Stop, Restart}
use Rattle.script_lines.specs.declared.script.Line.{Line}
use Rattle.script_lines.specs.declared.script.Script.{Script}
use Rattle.script_lines.specs.declared.script.TheConstants.{NET_MAX, NUMBER_MAX}
use Rattle.script_lines.proofs.Kept.{after, past, then}
use Rattle.script_reader.specs.Scripts.{at_line, ended_by, judged_from, limited, next_judged, script_before_walk, script_of, unstuck}
use Rattle.script_reader.specs.Walk.{stuck_at}
use Rattle.script_reader.specs.declared.refused.ScriptRefused.TheVariants.{BadLine}
use Rattle.script_reader.proofs.Sound.{limited_keeps, script_sound, then as and_on}
use Rattle.service_plain.specs.Calls.{asked_by}
use Rattle.service_stores.specs.Laws.{HaveServers, IsSayable, ReadIsSayable}
use Rattle.service_stores.proofs.Asked.{SaysWell}
use Rattle.service_stores.proofs.PlayedLists.{each_append, each_joined}
use Rattle.service_stores.proofs.Words.{AreWithin, line_within, name_is, names_few, text_is, word_within}

-- a place has a short path
abbrev IsShortPlace : Place → Type 0
IsShortPlace place = IsShort place.path

place_short : (context : Context) (words : List (List ℕ)) (i : ℕ) → AreWithin LINE_BYTES_MAX words →
    IfOk (place_at context.placed words i) IsShortPlace
unfolding place_at
place_short context words i h =
    then IsShortPlace (λ word. length word ≤ LINE_BYTES_MAX) (word_at words i) _ (word_within LINE_BYTES_MAX words i h)
    (λ word few.
    then IsShortPlace (λ names. length names ≤ length word) (names_of word) (λ names. place_of context.placed names)
    (names_few word) (λ names k. of_names names (omega (arith, few, k))))
  where
    of_names : (names : List (List ℕ)) → length names ≤ 8192 → IfOk (place_of context.placed names) IsShortPlace
    of_names [] k = tt
    of_names (fileset ∷ path) k =
        after IsShortPlace (found Undeclared (server_of context.placed fileset))
        (λ server. Ok (place_at_server fileset path server)) (λ server. omega (arith, k))

-- a call at a place
abbrev AtPlace : (Place → CallOf) → Type 0
AtPlace make = (place : Place) → IsShortPlace place → IsSayable (make place)

place_says : (context : Context) (words : List (List ℕ)) (make : Place → CallOf) → AreWithin LINE_BYTES_MAX words →
    AtPlace make → IfOk (only_place context.placed words >>= (λ place. Ok (make place))) IsSayable
unfolding only_place
place_says context words make h f =
    then IsSayable IsShortPlace (only_place context.placed words) _
    (then IsShortPlace IsShortPlace (place_at context.placed words 2) _ (place_short context words 2 h) (λ place k.
    after IsShortPlace (end_at words 3) _ (λ _. k))) f

label_says : (words : List (List ℕ)) (make : List ℕ → CallOf) → ((label : List ℕ) → IsSayable (make label)) →
    IfOk (only_label words >>= (λ label. Ok (make label))) IsSayable
label_says words make f = after IsSayable (only_label words) _ f

rename_says : (context : Context) (words : List (List ℕ)) → AreWithin LINE_BYTES_MAX words →
    IfOk (rename_call context.placed words) IsSayable
unfolding rename_call
rename_says context words h =
    then IsSayable IsShortPlace (place_at context.placed words 2) _ (place_short context words 2 h) (λ from k.
    then IsSayable IsShortPlace (place_at context.placed words 3) _ (place_short context words 3 h) (λ to l.
    after IsSayable (end_at words 4) _ (λ _. record { named = tt; paths = (k, (l, tt)); bytes = tt })))

truncate_says : (context : Context) (words : List (List ℕ)) → AreWithin LINE_BYTES_MAX words →
    IfOk (truncate_call context.placed words) IsSayable
unfolding truncate_call
truncate_says context words h =
    then IsSayable IsShortPlace (place_at context.placed words 2) _ (place_short context words 2 h) (λ place k.
    after IsSayable (number_at 0 NUMBER_MAX words 3) _ (λ _.
    after IsSayable (end_at words 4) _ (λ _. record { named = tt; paths = (k, tt); bytes = tt })))

getacl_says : (context : Context) (words : List (List ℕ)) → AreWithin LINE_BYTES_MAX words →
    IfOk (getacl_call context.placed words) IsSayable
unfolding getacl_call
getacl_says context words h =
    then IsSayable IsShortPlace (place_at context.placed words 2) _ (place_short context words 2 h) (λ place k.
    after IsSayable (which_at words 3) _ (λ _.
    after IsSayable (end_at words 4) _ (λ _. record { named = tt; paths = (k, tt); bytes = tt })))

setacl_says : (context : Context) (words : List (List ℕ)) → AreWithin LINE_BYTES_MAX words →
    IfOk (setacl_call context.placed words) IsSayable
unfolding setacl_call
setacl_says context words h =
    then IsSayable IsShortPlace (place_at context.placed words 2) _ (place_short context words 2 h) (λ place k.
    after IsSayable (which_at words 3) _ (λ _.
    after IsSayable (list_at words 4) _ (λ _.
    after IsSayable (end_at words 5) _ (λ _. record { named = tt; paths = (k, tt); bytes = tt }))))

read_says : (context : Context) (words : List (List ℕ)) → AreWithin LINE_BYTES_MAX words →
    IfOk (read_call context.placed words) IsSayable
unfolding read_call
read_says context words h =
    then IsSayable IsShortPlace (place_at context.placed words 2) _ (place_short context words 2 h) (λ place k.
    after IsSayable (number_at 0 NUMBER_MAX words 3) _ (λ _.
    after IsSayable (number_at 0 NUMBER_MAX words 4) _ (λ _.
    after IsSayable (end_at words 5) _ (λ _. record { named = tt; paths = (k, tt); bytes = tt }))))

write_says : (context : Context) (words : List (List ℕ)) → AreWithin LINE_BYTES_MAX words →
    IfOk (write_call context.placed words) IsSayable
unfolding write_call
write_says context words h =
    then IsSayable IsShortPlace (place_at context.placed words 2) _ (place_short context words 2 h) (λ place k.
    after IsSayable (number_at 0 NUMBER_MAX words 3) _ (λ _.
    then IsSayable (λ bytes. length bytes ≤ 1024) (text_at words 4) _ (text_is words 4) (λ bytes l.
    after IsSayable (end_at words 5) _ (λ _.
    record { named = tt; paths = (k, tt); bytes = omega (arith, l) }))))

lock_says : (context : Context) (words : List (List ℕ)) → AreWithin LINE_BYTES_MAX words →
    IfOk (lock_call context.placed words) IsSayable
unfolding lock_call
lock_says context words h =
    after IsSayable (label_at words 2) _ (λ _.
    then IsSayable IsShortPlace (place_at context.placed words 3) _ (place_short context words 3 h) (λ place k.
    after IsSayable (word_at words 4) _ (λ mode.
    after IsSayable (found Word (lock_mode_of mode)) _ (λ _.
    after IsSayable (number_at 0 NUMBER_MAX words 5) _ (λ _.
    after IsSayable (number_at 1 NUMBER_MAX words 6) _ (λ _.
    after IsSayable (end_at words 7) _ (λ _. record { named = tt; paths = (k, tt); bytes = tt })))))))

open_says : (context : Context) (words : List (List ℕ)) → AreWithin LINE_BYTES_MAX words →
    IfOk (open_call context.placed words) IsSayable
unfolding open_call
open_says context words h =
    after IsSayable (label_at words 2) _ (λ _.
    then IsSayable IsShortPlace (place_at context.placed words 3) _ (place_short context words 3 h) (λ place k.
    after IsSayable (word_at words 4) _ (λ word.
    after IsSayable (found Word (open_kind_of word)) _ (λ _.
    after IsSayable (end_at words 5) _ (λ _. record { named = tt; paths = (k, tt); bytes = tt })))))

clone_says : (context : Context) (words : List (List ℕ)) → IfOk (clone_call context.placed words) IsSayable
unfolding clone_call
clone_says context words =
    after IsSayable (name_at words 2) _ (λ fileset.
    after IsSayable (found Undeclared (server_of context.placed fileset)) _ (λ server.
    then IsSayable (λ new. IsTrue (is_name new)) (name_at words 3) _ (name_is words 3) (λ new k.
    after IsSayable (unless (is_elsewhere (server_of context.placed new) server) Repeated) _ (λ _.
    after IsSayable (end_at words 4) _ (λ _. record { named = k; paths = tt; bytes = tt })))))

move_says : (context : Context) (disks : ℕ) (words : List (List ℕ)) →
    IfOk (move_call context.script disks context.placed words) IsSayable
unfolding move_call
move_says context disks words =
    after IsSayable (name_at words 2) _ (λ fileset.
    after IsSayable (found Undeclared (server_of context.placed fileset)) _ (λ server.
    after IsSayable (server_at context.script words 3) _ (λ to.
    after IsSayable (unless (is_mixed context.script.servers disks) Disks) _ (λ _.
    after IsSayable (end_at words 4) _ (λ _. record { named = tt; paths = tt; bytes = tt })))))

-- a deed of a line
abbrev DeedSays : Node → Deed → Type 0
DeedSays node deed = Each (λ asked. IsSayable asked.call) (asked_by node deed)

call_deed : (host : HostId) (read : Result CallOf BadWhy) → IfOk read IsSayable →
    IfOk (read >>= (λ call. Ok (Call call))) (DeedSays (Host host))
call_deed host read h = then (DeedSays (Host host)) IsSayable read (λ call. Ok (Call call)) h (λ call k. (k, tt))

raise_says : (host : HostId) (raised words : List (List ℕ)) → IfOk (raise_deed raised words) (DeedSays (Host host))
unfolding raise_deed
raise_says host raised words =
    after (DeedSays (Host host)) (label_at words 2) _ (λ flag.
    after (DeedSays (Host host)) (unless (is_among raised flag) Repeated) _ (λ _.
    after (DeedSays (Host host)) (end_at words 3) _ (λ _. tt)))

any_ok : {A B : Type 0} (P : A → Type 0) (read : Result A B) → ((a : A) → P a) → IfOk read P
any_ok P (Ok a) f = f a
any_ok P (Err why) f = tt

-- what the first of some texts stands for that a word is
abbrev chosen : {X : Type 0} → (List ℕ → Option X) → List ℕ → List (List ℕ) → Option X
chosen of word [] = None
chosen of word (text ∷ texts) = cond (is_word word text) (of text) (chosen of word texts)

chosen_all : {X : Type 0} (of : List ℕ → Option X) (P : Option X → Type 0) (word : List ℕ) (texts : List (List ℕ)) →
    P None → Each (λ text. P (of text)) texts → P (chosen of word texts)
chosen_all of P word [] n h = n
chosen_all of P word (text ∷ texts) n h = by (is_word word text) h.0 (chosen_all of P word texts n h.1)
  where
    by : (v : Bool) → P (of text) → P (chosen of word texts) → P (cond v (of text) (chosen of word texts))
    by true a b = a
    by false a b = b

abbrev verb_words : List (List ℕ)
verb_words =
    codes "create" ∷ codes "mkdir" ∷ codes "remove" ∷ codes "rename" ∷ codes "truncate" ∷ codes "setacl"
    ∷ codes "getacl" ∷ codes "clone" ∷ codes "read" ∷ codes "write" ∷ codes "list" ∷ codes "stat" ∷ codes "sync"
    ∷ codes "unlock" ∷ codes "close" ∷ codes "lock" ∷ codes "open" ∷ codes "raise" ∷ codes "await" ∷ codes "stop"
    ∷ codes "restart" ∷ codes "move" ∷ []

verbs_are : (word : List ℕ) → verb_of word ≡ chosen verb_of word verb_words
unfolding verb_of is_word
verbs_are word = refl

abbrev header_words : List (List ℕ)
header_words =
    codes "servers" ∷ codes "user" ∷ codes "host" ∷ codes "capacity" ∷ codes "fileset" ∷ codes "net" ∷ codes "plan"
    ∷ codes "begin" ∷ []

headers_are : (word : List ℕ) → header_of word ≡ chosen header_of word header_words
unfolding header_of is_word
headers_are word = refl

-- a call at one place, and one with a label
one_place : (call : CallOf) → HasName call → Each (λ (place : Place). IsShort place.path) (places_in call) →
    HasCount call → IsSayable call
one_place call named paths bytes = record { named = named; paths = paths; bytes = bytes }

host_verb : (context : Context) (disks : ℕ) (host : HostId) (words : List (List ℕ)) (word : List ℕ) →
    AreWithin LINE_BYTES_MAX words →
    IfOk (found Word (verb_of word)
    >>= (λ verb. node_deed context.script disks context.placed context.raised (Host host) verb words))
    (DeedSays (Host host))
unfolding verb_of is_word host_deed call_by
host_verb context disks host words word h =
    subst
    (λ o. IfOk (found Word o
    >>= (λ verb. node_deed context.script disks context.placed context.raised (Host host) verb words))
    (DeedSays (Host host)))
    (sym (verbs_are word))
    (chosen_all verb_of
    (λ o. IfOk (found Word o
    >>= (λ verb. node_deed context.script disks context.placed context.raised (Host host) verb words))
    (DeedSays (Host host))) word verb_words tt (
      at (λ place. calls.Create place) (λ place k. one_place (calls.Create place) tt (k, tt) tt),
      (
        at (λ place. calls.MakeDir place) (λ place k. one_place (calls.MakeDir place) tt (k, tt) tt),
        (
          at (λ place. calls.Remove place) (λ place k. one_place (calls.Remove place) tt (k, tt) tt),
          (
            call_deed host (rename_call context.placed words) (rename_says context words h),
            (
              call_deed host (truncate_call context.placed words) (truncate_says context words h),
              (
                call_deed host (setacl_call context.placed words) (setacl_says context words h),
                (
                  call_deed host (getacl_call context.placed words) (getacl_says context words h),
                  (
                    call_deed host (clone_call context.placed words) (clone_says context words),
                    (
                      call_deed host (read_call context.placed words) (read_says context words h),
                      (
                        call_deed host (write_call context.placed words) (write_says context words h),
                        (
                          at (λ place. calls.List place) (λ place k. one_place (calls.List place) tt (k, tt) tt),
                          (
                            at (λ place. calls.Stat place) (λ place k. one_place (calls.Stat place) tt (k, tt) tt),
                            (
                              at (λ place. calls.Sync place) (λ place k. one_place (calls.Sync place) tt (k, tt) tt),
                              (
                                with_label (λ label. calls.Unlock label) (λ label. one_place (calls.Unlock label) tt tt tt),
                                (
                                  with_label (λ label. calls.CloseFile label) (λ label. one_place (calls.CloseFile label) tt tt tt),
                                  (
                                    call_deed host (lock_call context.placed words) (lock_says context words h),
                                    (
                                      call_deed host (open_call context.placed words) (open_says context words h),
                                      (
                                        raise_says host context.raised words,
                                        (
                                          after (DeedSays (Host host)) (only_label words) (λ flag. Ok (Await flag)) (λ flag. tt),
                                          (
                                            after (DeedSays (Host host)) (end_at words 2) (λ _. Ok Stop) (λ _. tt),
                                            (
                                              tt,
                                              (
                                                call_deed host (move_call context.script disks context.placed words) (move_says context disks words),
                                                tt,
                                              ),
                                            ),
                                          ),
                                        ),
                                      ),
                                    ),
                                  ),
                                ),
                              ),
                            ),
                          ),
                        ),
                      ),
                    ),
                  ),
                ),
              ),
            ),
          ),
        ),
      ),
    ))
  where
    at : (make : Place → CallOf) → AtPlace make →
        IfOk ((only_place context.placed words >>= (λ place. Ok (make place))) >>= (λ call. Ok (Call call)))
        (DeedSays (Host host))
    at make f =
        call_deed host (only_place context.placed words >>= (λ place. Ok (make place)))
        (place_says context words make h f)

    with_label : (make : List ℕ → CallOf) → ((label : List ℕ) → IsSayable (make label)) →
        IfOk ((only_label words >>= (λ label. Ok (make label))) >>= (λ call. Ok (Call call))) (DeedSays (Host host))
    with_label make f =
        call_deed host (only_label words >>= (λ label. Ok (make label))) (label_says words make f)

deed_says : (context : Context) (disks : ℕ) (node : Node) (words : List (List ℕ)) → AreWithin LINE_BYTES_MAX words →
    IfOk (deed_of context.script disks context.placed context.raised node words) (DeedSays node)
unfolding deed_of
deed_says context disks (Host host) words h =
    after (DeedSays (Host host)) (word_at words 1) _ (λ word. host_verb context disks host words word h)
deed_says context disks (Server server) words h =
    any_ok (DeedSays (Server server))
    (deed_of context.script disks context.placed context.raised (Server server) words) (λ deed. tt)

-- what lines that were read say
record SaysSo (disks servers : ℕ) (setup lines : List Line) : Type 0 where
  enough : 1 ≤ servers → disks ≤ servers
  first : Each SaysWell setup
  rest : Each SaysWell lines

abbrev Says : ℕ → Context → Type 0
Says disks context = SaysSo disks context.script.servers context.script.setup context.script.lines

says_start : (disks : ℕ) → Says disks nothing_said
says_start disks = record { enough = λ k. absurd (omega (arith, k)); first = tt; rest = tt }

-- header lines
says_servers : (context : Context) (disks : ℕ) (words : List (List ℕ)) → Says disks context →
    IfOk (servers_line context disks words) (Says disks)
unfolding servers_line
says_servers context disks words h =
    after (Says disks) (unless (not (context.script.servers == 0)) Order) _ (λ _.
    after (Says disks) (number_at 1 SERVERS_MAX words 1) _ (λ n.
    past (Says disks) (nat_lt n disks) Disks _ (λ e.
    after (Says disks) (end_at words 2) _ (λ _.
    let few = ltb-false n disks e in record { enough = λ k. few; first = h.first; rest = h.rest }))))

says_user : (context : Context) (disks : ℕ) (words : List (List ℕ)) → Says disks context →
    IfOk (user_line context words) (Says disks)
unfolding user_line
says_user context disks words h =
    after (Says disks) (name_at words 1) _ (λ name.
    after (Says disks) (unless (is_some (user_place context.script.roster.users name)) Repeated) _ (λ _.
    after (Says disks) (groups_at words) _ (λ group_words.
    after (Says disks) (all_named [] group_words) _ (λ groups.
    after (Says disks) (end_at words (GROUPS_MAX + 2)) _ (λ _.
    record { enough = h.enough; first = h.first; rest = h.rest })))))

says_host : (context : Context) (disks : ℕ) (words : List (List ℕ)) → Says disks context →
    IfOk (host_line context words) (Says disks)
unfolding host_line
says_host context disks words h =
    after (Says disks) (host_named words 1) _ (λ host.
    after (Says disks) (unless (not (host.0 == length context.script.roster.hosts + 1)) Repeated) _ (λ _.
    after (Says disks) (name_at words 2) _ (λ name.
    after (Says disks) (found Undeclared (user_place context.script.roster.users name)) _ (λ user.
    after (Says disks) (limit_at words) _ (λ limit.
    after (Says disks) (end_at words 4) _ (λ _.
    record { enough = h.enough; first = h.first; rest = h.rest }))))))

says_capacity : (context : Context) (disks : ℕ) (words : List (List ℕ)) → Says disks context →
    IfOk (capacity_line context words) (Says disks)
unfolding capacity_line
says_capacity context disks words h =
    after (Says disks) (server_at context.script words 1) _ (λ server.
    after (Says disks) (unless (is_capped context.capped server) Repeated) _ (λ _.
    after (Says disks) (unless (has_fileset_at context.placed server) Order) _ (λ _.
    after (Says disks) (number_at CAPACITY_MIN CAPACITY_MAX words 2) _ (λ blocks.
    after (Says disks) (end_at words 3) _ (λ _.
    record { enough = h.enough; first = h.first; rest = h.rest })))))

says_fileset : (context : Context) (disks number : ℕ) (words : List (List ℕ)) → Says disks context →
    IfOk (fileset_line context number words) (Says disks)
unfolding fileset_line
says_fileset context disks number words h =
    then (Says disks) (λ name. IsTrue (is_name name)) (name_at words 1) _ (name_is words 1) (λ name k.
    after (Says disks) (server_at context.script words 2) _ (λ server.
    after (Says disks) (unless (is_elsewhere (server_of context.placed name) server) Repeated) _ (λ _.
    after (Says disks) (number_at 1 OBJECTS_MAX words 3) _ (λ objects.
    after (Says disks) (owner_at context.script.roster.users words) _ (λ owner.
    after (Says disks) (end_at words 5) _ (λ _.
    record {
      enough = h.enough;
      first = each_append SaysWell context.script.setup (setup_line number server name objects owner ∷ []) h.first
          ((record { named = k; paths = tt; bytes = tt }, tt), tt);
      rest = h.rest;
    }))))))

says_net : (context : Context) (disks : ℕ) (words : List (List ℕ)) → Says disks context →
    IfOk (net_line context words) (Says disks)
unfolding net_line
says_net context disks words h =
    after (Says disks) (unless (is_some context.script.net) Repeated) _ (λ _.
    after (Says disks) (number_at 0 18446744073709551615 words 1) _ (λ seed.
    after (Says disks) (number_at 0 NET_MAX words 2) _ (λ losses.
    after (Says disks) (number_at 0 NET_MAX words 3) _ (λ repeats.
    after (Says disks) (number_at 0 NET_MAX words 4) _ (λ delays.
    after (Says disks) (end_at words 5) _ (λ _.
    record { enough = h.enough; first = h.first; rest = h.rest }))))))

says_plan : (context : Context) (disks : ℕ) (words : List (List ℕ)) → Says disks context →
    IfOk (plan_line context words) (Says disks)
unfolding plan_line
says_plan context disks words h =
    after (Says disks) (plan_at context.script words) _
    (λ line. record { enough = h.enough; first = h.first; rest = h.rest })

says_begin : (context : Context) (disks : ℕ) (words : List (List ℕ)) → Says disks context →
    IfOk (begin_line context words) (Says disks)
unfolding begin_line
says_begin context disks words h =
    after (Says disks) (unless (length context.script.roster.hosts == 0) Order) _ (λ _.
    after (Says disks) (end_at words 1) _ (λ _.
    record { enough = h.enough; first = h.first; rest = h.rest }))

header_says : (context : Context) (disks number : ℕ) (words : List (List ℕ)) (word : List ℕ) → Says disks context →
    IfOk (found Word (header_of word)
    >>= (λ header.
    unless ((context.script.servers == 0) && not (is_servers header)) Order
    >>= (λ _. header_by context header disks number words))) (Says disks)
unfolding header_of is_word header_by
header_says context disks number words word h =
    subst
    (λ o. IfOk (found Word o
    >>= (λ header.
    unless ((context.script.servers == 0) && not (is_servers header)) Order
    >>= (λ _. header_by context header disks number words))) (Says disks))
    (sym (headers_are word))
    (chosen_all header_of
    (λ o. IfOk (found Word o
    >>= (λ header.
    unless ((context.script.servers == 0) && not (is_servers header)) Order
    >>= (λ _. header_by context header disks number words))) (Says disks)) word header_words tt (
      passed false (servers_line context disks words) (says_servers context disks words h),
      (
        passed true (user_line context words) (says_user context disks words h),
        (
          passed true (host_line context words) (says_host context disks words h),
          (
            passed true (capacity_line context words) (says_capacity context disks words h),
            (
              passed true (fileset_line context number words) (says_fileset context disks number words h),
              (
                passed true (net_line context words) (says_net context disks words h),
                (
                  passed true (plan_line context words) (says_plan context disks words h),
                  (passed true (begin_line context words) (says_begin context disks words h), tt),
                ),
              ),
            ),
          ),
        ),
      ),
    ))
  where
    passed : (later : Bool) (read : Result Context BadWhy) → IfOk read (Says disks) →
        IfOk (unless ((context.script.servers == 0) && later) Order >>= (λ _. read)) (Says disks)
    passed later read k =
        after (Says disks) (unless ((context.script.servers == 0) && later) Order) (λ _. read) (λ _. k)

says_header : (context : Context) (disks number : ℕ) (words : List (List ℕ)) → Says disks context →
    IfOk (header_line context disks number words) (Says disks)
unfolding header_line
says_header context disks number words h =
    after (Says disks) (word_at words 0) _ (λ word. header_says context disks number words word h)

-- lines of nodes
same_script : (context : Context) (node : Node) (deed : Deed) → (noted context node deed).script ≡ context.script
same_script context node (Raise flag) = refl
same_script context (Host host) Stop = refl
same_script context (Server server) Stop = refl
same_script context node (Call call) = refl
same_script context node (Await flag) = refl
same_script context node Restart = refl

says_line : (context : Context) (disks number : ℕ) (node : Node) (deed : Deed) → Says disks context →
    DeedSays node deed → Says disks (with_line (noted context node deed) (line_of number node deed))
says_line context disks number node deed h k =
    subst
    (λ (script : Script). SaysSo disks script.servers script.setup (script.lines ++ line_of number node deed ∷ []))
    (sym (same_script context node deed))
    (record {
      enough = h.enough;
      first = h.first;
      rest = each_append SaysWell context.script.lines (line_of number node deed ∷ []) h.rest (k, tt);
    })

says_deed : (context : Context) (disks number : ℕ) (words : List (List ℕ)) → AreWithin LINE_BYTES_MAX words →
    Says disks context → IfOk (deed_line context disks number words) (Says disks)
unfolding deed_line
says_deed context disks number words few h =
    after (Says disks) (node_at context words) _ (λ node.
    then (Says disks) (DeedSays node) (deed_of context.script disks context.placed context.raised node words) _
    (deed_says context disks node words few)
    (λ deed k. says_line context disks number node deed h k))

-- each line
says_taken : (context : Context) (disks number : ℕ) (words : List (List ℕ)) → AreWithin LINE_BYTES_MAX words →
    Says disks context → IfOk (taken context disks number words) (Says disks)
unfolding taken
says_taken context disks number words few h = by_words (length words == 0)
  where
    by_begun : (v : Bool) →
        IfOk (cond v (deed_line context disks number words) (header_line context disks number words)) (Says disks)
    by_begun true = says_deed context disks number words few h
    by_begun false = says_header context disks number words h

    by_words : (v : Bool) →
        IfOk (cond v (Ok context)
        (cond context.begun (deed_line context disks number words) (header_line context disks number words)))
        (Says disks)
    by_words true = h
    by_words false = by_begun context.begun

says_judged : (context : Context) (disks number : ℕ) (line : List ℕ) → Says disks context →
    IfOk (line_judged context disks number line) (Says disks)
unfolding line_judged
says_judged context disks number line h =
    then (Says disks) (AreWithin LINE_BYTES_MAX) (words_of_line line) _ (line_within line)
    (λ words few. says_taken context disks number words few h)

says_clones : (context : Context) (disks : ℕ) (lines : List (List ℕ)) → Says disks context →
    Says disks (with_clones context lines)
unfolding with_clones
says_clones context disks lines h = record { enough = h.enough; first = h.first; rest = h.rest }

says_next : (context : Context) (disks number : ℕ) (line : List ℕ) (lines : List (List ℕ)) → Says disks context →
    IfOk (next_judged context disks number line lines) (Says disks)
unfolding next_judged
says_next context disks number line lines h =
    by (line_judged context disks number line) (says_judged context disks number line h)
  where
    enters : (next : Context) (v : Bool) → Says disks next → Says disks (cond v (with_clones next lines) next)
    enters next true k = says_clones next disks lines k
    enters next false k = k

    by : (judged : Result Context BadWhy) → IfOk judged (Says disks) →
        IfOk (at_line number context lines judged) (Says disks)
    by (Ok next) k = enters next (next.begun && not context.begun) k
    by (Err why) k = tt

says_from : (context : Context) (disks number : ℕ) (lines : List (List ℕ)) → Says disks context →
    IfOk (judged_from context disks number lines) (Says disks)
says_from context disks number [] h = h
says_from context disks number (line ∷ lines) h =
    by (nat_lt SCRIPT_LINES_MAX number) (λ next k. says_from next disks (number + 1) lines k)
  where
    by : (v : Bool) → ((next : Context) → Says disks next → IfOk (judged_from next disks (number + 1) lines) (Says disks))
        → IfOk (cond v (Err (BadLine (SCRIPT_LINES_MAX + 1) Lines))
        (and_then (next_judged context disks number line lines) (λ next. judged_from next disks (number + 1) lines)))
        (Says disks)
    by true rest = tt
    by false rest =
        and_on (Says disks) (Says disks) (next_judged context disks number line lines)
        (λ next. judged_from next disks (number + 1) lines) (says_next context disks number line lines h) rest

-- a script
abbrev ScriptSays : ℕ → Script → Type 0
ScriptSays disks script = SaysSo disks script.servers script.setup script.lines

says_ended : (disks lines : ℕ) (context : Context) → Says disks context →
    IfOk (ended_by lines context) (ScriptSays disks)
says_ended disks lines context h = by context.begun
  where
    by : (v : Bool) → IfOk (cond v (Ok context.script) (Err (BadLine (lines + 1) Order))) (ScriptSays disks)
    by true = h
    by false = tt

says_script : (bytes : List ℕ) (disks : ℕ) → IfOk (script_of bytes disks) (ScriptSays disks)
unfolding script_of script_before_walk
says_script bytes disks =
    let lines = lines_of bytes in
    let judged = judged_from nothing_said disks 1 lines in
    and_on (ScriptSays disks) (ScriptSays disks)
    (and_then (limited (length lines) judged) (λ context. ended_by (length lines) context))
    (λ script. unstuck script (stuck_at script.lines))
    (and_on (ScriptSays disks) (Says disks) (limited (length lines) judged) (λ context. ended_by (length lines) context)
    (limited_keeps (Says disks) (length lines) judged (says_from nothing_said disks 1 lines (says_start disks)))
    (λ context k. says_ended disks (length lines) context k))
    (λ script k. by script (stuck_at script.lines) k)
  where
    by : (script : Script) (stuck : Option ℕ) → ScriptSays disks script →
        IfOk (unstuck script stuck) (ScriptSays disks)
    by script None k = k
    by script (Some number) k = tt

-- in the words of the laws
it_is : {A B : Type 0} (P : A → Type 0) (read : Result A B) (a : A) → read ≡ Ok a → IfOk read P → P a
it_is P read a e h = subst (λ r. IfOk r P) e h

pub read_is_sayable : ReadIsSayable
read_is_sayable bytes disks script e =
    let says = it_is (ScriptSays disks) (script_of bytes disks) script e (says_script bytes disks) in
    each_joined (λ asked. IsSayable asked.call) (λ (line : Line). asked_by line.node line.deed)
    (script.setup ++ script.lines) (each_append SaysWell script.setup script.lines says.first says.rest)

pub have_servers : HaveServers
have_servers bytes disks script e =
    let says = it_is (ScriptSays disks) (script_of bytes disks) script e (says_script bytes disks) in
    let sound = it_is IsSound (script_of bytes disks) script e (script_sound bytes disks) in
    let n = length script.roster.capacity in
    let some : nat_le 1 n ≡ true = (and_parts _ _ (and_parts _ _ (and_parts _ _ (and_parts _ _ (and_parts _ _
    sound.roster).0).0).0).0).0 in
    subst (λ m. disks ≤ m) sound.servers
    (says.enough (subst (λ m. 1 ≤ m) (sym sound.servers) (leb-true 1 n some)))
