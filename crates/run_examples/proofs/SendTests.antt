-- How a server decides and sends, computed.
use Rattle.base_types.specs.Ids.{same_fid}
use Rattle.base_types.specs.declared.ids.FilesetId.{FilesetId}
use Rattle.base_types.specs.declared.ids.HostId.{HostId}
use Rattle.base_types.specs.declared.ids.ServerId.{ServerId}
use Rattle.tree_calls.specs.declared.call.Call.{Call}
use Rattle.tree_calls.specs.declared.call.Call.TheVariants.{Lock}
use Rattle.tree_calls.specs.declared.reply.Refusal.{Refusal}
use Rattle.tree_calls.specs.declared.reply.Refusal.TheVariants.{Locked, NoEntry}
use Rattle.tree_calls.specs.declared.reply.Reply.{Reply}
use Rattle.tree_calls.specs.declared.reply.Reply.TheVariants.{Refused}
use Rattle.tree_filesets.specs.declared.fileset.Fileset.{Fileset}
use Rattle.need_host.specs.Questions.{fileset_of}
use Rattle.tree_answers.specs.Finding.{fileset_named}
use Rattle.tree_answers.specs.declared.tree.Tree.{Tree}
use Rattle.message_types.specs.declared.asking.Change.{Change as ChangeOf}
use Rattle.message_types.specs.declared.asking.Fetch.{Fetch as FetchOf}
use Rattle.message_types.specs.declared.message.Body.{Body}
use Rattle.message_types.specs.declared.message.Body.TheVariants.{Change, Done, Fetch, Grant, Revoke}
use Rattle.message_types.specs.declared.message.Message.{Message}
use Rattle.message_types.specs.declared.telling.Done.{Done as DoneOf}
use Rattle.message_types.specs.declared.telling.DoneIs.{DoneIs}
use Rattle.message_types.specs.declared.telling.DoneIs.TheVariants.{Reply as HasReply, Known as IsFileset}
use Rattle.message_types.specs.declared.telling.DoneIs.TheVariants.{Granted as IsGranted}
use Rattle.message_types.specs.declared.telling.Grant.{Grant as GrantOf}
use Rattle.message_types.specs.declared.tokens.Revoke.{Revoke as RevokeOf}
use Rattle.run_examples.proofs.AnswerChecks.{call_is, same_call, same_place}
use Rattle.run_examples.proofs.FetchWords.{fetch_body, is_fetch, need_is, same_need}
use Rattle.run_examples.proofs.LapseChecks.{is_lapse, lapse_cause}
use Rattle.run_examples.proofs.MayTests.{exporter_free, free_yes, fresh_durable, fresh_sent, fresh_written, is_fresh}
use Rattle.run_examples.proofs.MayTests.{may_words, over, over_yes}
use Rattle.run_examples.proofs.ServerChecks.{is_taken}
use Rattle.run_examples.proofs.ServerLists.{asked_is, granted, granted_is, granted_yes, in_ids, pinned, pinned_is}
use Rattle.run_examples.proofs.ServerLists.{pinned_yes, queue, queue_is, queue_yes, revoked, revoked_is, revoked_yes}
use Rattle.run_examples.proofs.ServerLists.{same_asked, tokens_in}
use Rattle.run_examples.proofs.ServerWords.{heard, here, here_yes, live, live_yes, reclaimed, reclaimed_is}
use Rattle.run_examples.proofs.StanceChecks.{once_from}
use Rattle.run_examples.proofs.Tests.{AllTrue, all_true, any_of, apart, at_all, bool_is, fid_is, fileset_is, filesets}
use Rattle.run_examples.proofs.Tests.{host_is, hosts, id_is, implies, is_none, is_not, list_is, none_is, not_is}
use Rattle.run_examples.proofs.Tests.{only_one, passes, token_is}
use Rattle.run_examples.proofs.Tests.{same_bool, same_fileset, same_host, same_list, same_token, so, some_in}
use Rattle.run_examples.proofs.Words.{by_message}
use Rattle.run_examples.specs.Laws.{writing}
use Rattle.run_examples.specs.Steps.{label, needs}
use Rattle.std.proofs.Common.{Bool, Err, List, None, Ok, Option, Result, Some, [], ap, arith, false, inl, inr, is_some}
use Rattle.std.proofs.Common.{map, refl, subst, sym, true, ℕ, ◌&&◌, ◌==◌, ◌||◌, ◌∙◌, ◌∷◌, ◌≡◌, ◌≤◌}
use Rattle.std.proofs.lemmas.Bool.{and_from, and_parts, eq-eqb, eqb-true, leb-true, or_cases}
use Rattle.std.specs.List.{list_all, list_any}
use Rattle.std.specs.Prelude.{nat_le, not, ◌⊎◌}
use Rattle.token_types.specs.Conflicts.{blocks, need_of, same_id, wants_conflict}
use Rattle.token_types.specs.declared.token.Need.{Need}
use Rattle.token_types.specs.declared.token.Token.{Token}
use Rattle.token_types.specs.declared.token.TokenId.{TokenId}
use Rattle.tree_laws.specs.Parts.{cell_at}
use Rattle.tree_laws.specs.Parts.Part.{Traits}
use Rattle.run_rules.specs.Doings.{Doing, IsLive, NoGrace, Pinned, SentNow, SentTo, TakenNow, after_cause}
use Rattle.run_rules.specs.Doings.{decisions_of, epoch, sending}
use Rattle.run_rules.specs.Doings.Doing.{Sent, WritesDown}
use Rattle.run_rules.specs.Kept.{filesets_after, is_refusal}
use Rattle.run_rules.specs.Messages.{stay_of}
use Rattle.run_rules.specs.Past.{EachInTurn, In, Once, appended}
use Rattle.run_rules.specs.Plans.{kind_of}
use Rattle.run_rules.specs.ServerDecides.{IsAskedHere, IsDecidedHere, IsNewRequest, IsOfRow, MayDecide, MayDecideAll}
use Rattle.run_rules.specs.ServerDecides.{DecidedSo, NotRefused, kept_reply, refusal_of}
use Rattle.run_rules.specs.ServerDecides.DecidedSo.{IsRefusedByTable, MeetsPinned}
use Rattle.run_rules.specs.ServerDue.{AnswersChange, HasDecided, HasSent, IsOfChange}
use Rattle.run_rules.specs.ServerMay.{AreNeeds, DoneFor, GrantsSo, HasRevoked, HasWritten, IsAskedBack, IsLast, IsOwed}
use Rattle.run_rules.specs.ServerMay.{MaySend, TellsKept}
use Rattle.run_rules.specs.ServerMay.AnsweredSo.{IsEntered, TakesToken}
use Rattle.run_rules.specs.ServerMay.DoneFor.{Answered, OfWritten}
use Rattle.run_rules.specs.Wants.{CanDecide, CanGrant, CanRefuse, CannotBothWait, IsBehind, IsOld, IsQueued}
use Rattle.run_rules.specs.Wants.{IsQueuedBefore, NoneQueued, asker, body_of, has_effect, is_use, locks_nothing}
use Rattle.run_rules.specs.Wants.{moves_fileset}
use Rattle.run_rules.specs.Wants.{needs_for, row_needs}
use Rattle.run_rules.specs.declared.applied.Applied.TheVariants.{Done as IsDone, Wants as IsWanted}
use Rattle.run_rules.specs.declared.applied.Request.TheVariants.{Change as Changes, Fetch as Asks}
use Rattle.run_rules.specs.declared.applied.Applied.{Applied as AppliedOf}
use Rattle.run_rules.specs.declared.applied.Request.{Request}
use Rattle.run_rules.specs.declared.applied.Wanted.{Wanted}
use Rattle.run_rules.specs.declared.applied.Written.{Written}
use Rattle.run_rules.specs.declared.step.Cause.{Cause}
use Rattle.run_rules.specs.declared.step.Cause.TheVariants.{Message as Came, Lapse}
use Rattle.run_rules.specs.declared.step.Step.{Step}

unfoldable pub accepted : Tree → HostId → ChangeOf → Bool
accepted tree h c = not (is_refusal (kept_reply tree h c.call))

unfoldable pub row_right : Tree → Wanted → ChangeOf → Bool
row_right tree w c = same_list same_need w.needs (row_needs tree w.host c)

-- a lock's or an open's row is on the file that the host found
unfoldable pub of_row : Tree → Wanted → ChangeOf → Bool
of_row tree w c = row_right tree w c && list_all (λ need. same_fid need.fid c.fid) w.needs

unfoldable pub in_way : Wanted → Token → Bool
in_way w t = blocks (asker w) w.needs t

unfoldable pub is_ahead : Wanted → Wanted → Bool
is_ahead w v = wants_conflict (asker w) w.needs (asker v) v.needs

unfoldable pub grant_tests : ServerId → List Doing → Wanted → List Bool
grant_tests server past w =
    over past
    ∷ list_all (λ t. not (in_way w t)) (granted server past)
    ∷ exporter_free past
    ∷ list_all (λ v. not (is_ahead w v)) (queue past)
    ∷ []

unfoldable pub refuse_tests : ServerId → List Doing → Wanted → List Bool
refuse_tests server past w =
    over past
    ∷ list_any (in_way w) (pinned server past)
    ∷ list_all (λ v. not (is_ahead w v)) (queue past)
    ∷ []

-- a token that isn't pinned is in the way of a want that waits
unfoldable pub is_stuck : ServerId → List Doing → Wanted → Bool
is_stuck server past w =
    list_any (in_way w) (granted server past) && list_all (λ t. not (in_way w t)) (pinned server past)

-- a host of the list hasn't reclaimed yet, so that the grace period isn't over
unfoldable pub awaits_claim : List Doing → Bool
awaits_claim past = list_any (λ h. live past h && not (reclaimed past h)) (heard past)

-- a Change that neither is a use nor enters
unfoldable pub is_plain : Request → Bool
is_plain (Changes c) = not (is_use c.call) && not c.enter
is_plain (Asks f) = false

unfoldable pub meets_needs : List Need → List Token → Bool
meets_needs needs ts = same_list same_need (map need_of ts) needs

-- requests, part by part
unfoldable pub same_change : ChangeOf → ChangeOf → Bool
same_change a b =
    ((a.number == b.number) && (same_fileset a.fileset b.fileset && same_fid a.fid b.fid))
    && (same_bool a.enter b.enter && ((a.k == b.k) && same_call a.call b.call))

unfoldable pub is_body_of : Request → Body → Bool
is_body_of (Asks f) (Fetch g) = is_fetch f (Fetch g)
is_body_of (Changes c) (Change d) = same_change d c
is_body_of _ _ = false

unfoldable pub asks_such : Request → (FetchOf → Bool) → Bool
asks_such (Asks f) test = test f
asks_such (Changes c) test = false

unfoldable pub changes_such : Request → (ChangeOf → Bool) → Bool
changes_such (Changes c) test = test c
changes_such (Asks f) test = false

-- only Changes have to pass the test
unfoldable pub where_change : Request → (ChangeOf → Bool) → Bool
where_change (Changes c) test = test c
where_change (Asks f) test = true

-- what may be decided
unfoldable pub is_here_now : ServerId → List Doing → FilesetId → ℕ → Bool
is_here_now server past fs n = ((fs.0 == 0) && (n == 0)) || here server past fs n

unfoldable pub is_meant : ChangeOf → Bool
is_meant c =
    implies c.enter (is_some (fileset_of c.call))
    && (implies (is_use c.call) (same_fileset c.fid.fileset c.fileset) && not (locks_nothing c.call))

unfoldable pub asked_here : ServerId → List Doing → ℕ → Request → Bool
asked_here server past n (Asks f) = here server past f.fid.fileset n
asked_here server past n (Changes c) = is_here_now server past c.fileset n && is_meant c

unfoldable pub new_numbered : List Doing → HostId → Request → Bool
new_numbered past h (Asks f) = true
new_numbered past h (Changes c) = is_fresh past h c.fileset c.number

unfoldable pub comes_as : List Doing → Wanted → Message → Bool
comes_as before w m =
    (is_taken before m && (same_host m.host w.host && (m.moves == w.moves))) && is_body_of w.request m.body

unfoldable pub is_new : ServerId → List Doing → List Doing → Step → Wanted → Bool
is_new server before past s w =
    (by_message false (comes_as before w) s.cause && asked_here server before w.moves w.request)
    && (new_numbered past w.host w.request
    && list_all (λ v. not (same_host v.host w.host && same_asked v.request w.request)) (queue past))

unfoldable pub needs_right : Tree → Wanted → Request → Bool
needs_right tree w (Asks f) = same_list same_need w.needs f.needs
needs_right tree w (Changes c) = row_right tree w c

unfoldable pub is_locked : Reply → Bool
is_locked (Refused Locked) = true
is_locked _ = false

unfoldable pub is_lock_call : Call → Bool
is_lock_call (Lock label place writing from len) = true
is_lock_call _ = false

unfoldable pub is_missing : Reply → Bool
is_missing (Refused NoEntry) = true
is_missing _ = false

-- both are the same one of the two refusals
unfoldable pub alike : Reply → Reply → Bool
alike a b = (is_locked a && is_locked b) || (is_missing a && is_missing b)

-- the call table finds no entry of the call's name
unfoldable pub table_refuses : Tree → HostId → ChangeOf → Reply → Bool
table_refuses tree h c reply =
    (is_missing (kept_reply tree h c.call) && is_missing reply) && (not c.enter && not (moves_fileset c.call))

-- a use that meets a pinned token is refused
-- a use meets a pinned token
unfoldable pub pinned_refuses : ServerId → Tree → List Doing → Wanted → ChangeOf → Reply → Bool
pinned_refuses server tree past w c reply =
    (accepted tree w.host c && of_row tree w c)
    && (passes (refuse_tests server past w) && (is_locked reply && is_lock_call c.call))

-- a Change that waits is written down, with a reason for its reply
unfoldable pub writes_so : ServerId → Tree → List Doing → Written → Wanted → ChangeOf → Bool
writes_so server tree past d w c =
    ((same_fileset d.fileset c.fileset && (d.number == c.number)) && ((d.answer.k == c.k) && same_call d.answer.call c.call))
    && (table_refuses tree w.host c d.answer.reply || pinned_refuses server tree past w c d.answer.reply)

unfoldable pub decides_right : ServerId → Tree → List Doing → List Doing → Step → AppliedOf → Bool
decides_right server tree before past s (IsWanted w) = needs_right tree w w.request && is_new server before past s w
decides_right server tree before past s (IsDone d) =
    not d.answer.first
    && list_any (λ w. same_host d.answer.host w.host && changes_such w.request (writes_so server tree past d w))
    (queue past)
decides_right server tree before past s _ = false

unfoldable pub all_decided : ServerId → Tree → List Doing → List Doing → Step → List AppliedOf → Bool
all_decided server tree before past s [] = true
all_decided server tree before past s (x ∷ xs) =
    decides_right server tree before past s x
    && all_decided server (filesets_after s.cause tree x) before (appended (decisions_of x) past) s xs

-- what is so once it has decided
unfoldable pub wants_it : HostId → Body → AppliedOf → Bool
wants_it h b (IsWanted w) = same_host w.host h && is_body_of w.request b
wants_it h b _ = false

unfoldable pub is_request : Body → Bool
is_request (Fetch f) = true
is_request (Change c) = true
is_request _ = false

unfoldable pub is_meant_body : Body → Bool
is_meant_body (Change c) = is_meant c
is_meant_body b = true

-- a Change of the same fileset waits
unfoldable pub holds_up : Body → Request → Bool
holds_up (Change d) (Changes c) = same_fileset c.fileset d.fileset
holds_up _ _ = false

unfoldable pub waits_before : Message → Wanted → Bool
waits_before m v = same_host v.host m.host && holds_up m.body v.request

unfoldable pub wanted_now : List Doing → Step → Message → Bool
wanted_now before s m =
    implies (is_request m.body && is_meant_body m.body)
    (list_any (wants_it m.host m.body) s.applied || list_any (waits_before m) (queue (after_cause s.cause before)))

unfoldable pub left_open : ServerId → Tree → List Doing → Wanted → ChangeOf → Bool
left_open server tree past w c =
    (accepted tree w.host c && not (has_effect c)) && list_all (λ t. not (in_way w t)) (pinned server past)

unfoldable pub decided_tests : ServerId → Tree → List Doing → List Doing → Step → List Bool
decided_tests server tree before past s =
    by_message true (wanted_now before s) s.cause
    ∷ (awaits_claim past || list_all (λ w. where_change w.request (left_open server tree past w)) (queue past))
    ∷ []

-- what may be sent
unfoldable pub there_right : {A : Type 0} → Option A → Bool
there_right None = false
there_right (Some x) = true

unfoldable pub grants_such : GrantOf → FetchOf → Bool
grants_such g f =
    ((g.bring.number == f.number) && same_fid g.bring.fid f.fid) && meets_needs f.needs g.bring.tokens

unfoldable pub grants_for : ServerId → List Doing → HostId → ℕ → GrantOf → Wanted → Bool
grants_for server past h n g w =
    ((same_host w.host h && (w.moves == n)) && passes (grant_tests server past w)) && asks_such w.request (grants_such g)

unfoldable pub is_not_above : HostId → DoneOf → Doing → Bool
is_not_above h d (Sent host e n (Done o)) =
    implies (same_host host h && same_fileset o.fileset d.fileset) (nat_le o.bring.number d.bring.number)
is_not_above h d _ = true

unfoldable pub wrote_so : HostId → DoneOf → Reply → Doing → Bool
wrote_so h d reply (WritesDown w) =
    ((same_host w.answer.host h && same_fileset w.fileset d.fileset) && (w.number == d.bring.number))
    && alike reply w.answer.reply
wrote_so h d reply _ = false

unfoldable pub found_right : FilesetId → Result Fileset Refusal → Bool
found_right id (Ok fileset) = same_fileset fileset.id id
found_right id (Err refusal) = false

unfoldable pub named_right : Tree → FilesetId → Option (ServerId × List ℕ) → Bool
named_right tree id None = false
named_right tree id (Some place) = found_right id (fileset_named tree place.0 place.1)

unfoldable pub enters_such : Tree → DoneOf → FilesetId → ChangeOf → Bool
enters_such tree d id c =
    (same_fileset d.fileset c.fileset && (d.bring.number == c.number))
    && (c.enter && named_right tree id (fileset_of c.call))

unfoldable pub uses_such : ServerId → Tree → List Doing → DoneOf → Wanted → ChangeOf → Bool
uses_such server tree past d w c =
    (same_fileset d.fileset c.fileset && (d.bring.number == c.number))
    && ((is_use c.call && accepted tree w.host c)
    && ((of_row tree w c && passes (grant_tests server past w)) && meets_needs w.needs d.bring.tokens))

unfoldable pub settles_for : HostId → ℕ → (Wanted → ChangeOf → Bool) → Wanted → Bool
settles_for h n test w = (same_host w.host h && (w.moves == n)) && changes_such w.request (test w)

unfoldable pub outcome_right : ServerId → Tree → List Doing → HostId → ℕ → DoneOf → DoneIs → Bool
outcome_right server tree past h n d (HasReply reply) =
    is_none d.bring.tokens && (list_all (is_not_above h d) past && list_any (wrote_so h d reply) past)
outcome_right server tree past h n d (IsFileset id) =
    is_none d.bring.tokens && list_any (settles_for h n (λ w. enters_such tree d id)) (queue past)
outcome_right server tree past h n d IsGranted =
    list_any (settles_for h n (uses_such server tree past d)) (queue past)
outcome_right server tree past h n d _ = false

unfoldable pub blocks_some : ServerId → List Doing → Token → Bool
blocks_some server past t = list_any (λ w. in_way w t) (queue past)

unfoldable pub is_free : ServerId → List Doing → Token → Bool
is_free server past t = not (list_any (same_token t) (pinned server past))

-- it is asked back for the first time, or again
unfoldable pub asks_first : ServerId → List Doing → Token → Bool
asks_first server past t = (over past && blocks_some server past t) && not (revoked past t)

unfoldable pub asks_back : ServerId → List Doing → Step → HostId → TokenId → Token → Bool
asks_back server past s h i t =
    ((same_id t.id i && same_host t.host h) && is_free server past t)
    && (asks_first server past t || (is_lapse s.cause && revoked past t))

unfoldable pub send_right : ServerId → Tree → Step → List Doing → Doing → Bool
send_right server tree s past (Sent h e n (Grant g)) =
    there_right ((cell_at tree g.bring.fid Traits).kept) && list_any (grants_for server past h n g) (queue past)
send_right server tree s past (Sent h e n (Done d)) =
    (live past h && is_here_now server past d.fileset n) && outcome_right server tree past h n d d.outcome
send_right server tree s past (Sent h e n (Revoke r)) =
    list_all (λ i. list_any (asks_back server past s h i) (granted server past)) r.ids
send_right server tree s past _ = true

unfoldable pub sends_right : ServerId → Tree → Step → List Doing → List Doing → Bool
sends_right server tree s [] past = true
sends_right server tree s (a ∷ more) past =
    send_right server tree s past a && sends_right server tree s more (a ∷ past)

-- what is so at the end
unfoldable pub done_body : Body → FilesetId → ℕ → (DoneIs → Bool) → Bool
done_body (Done d) fs n such = (same_fileset d.fileset fs && (d.bring.number == n)) && such d.outcome
done_body _ fs n such = false

unfoldable pub is_done_of : HostId → FilesetId → ℕ → (DoneIs → Bool) → Message → Bool
is_done_of h fs n such m = same_host m.host h && done_body m.body fs n such

unfoldable pub says : Reply → DoneIs → Bool
says its (HasReply reply) = alike reply its
says its _ = false

unfoldable pub answered_now : Step → AppliedOf → Bool
answered_now s (IsDone w) =
    list_any (is_done_of w.answer.host w.fileset w.number (says w.answer.reply)) s.sent
answered_now s _ = true

unfoldable pub first_asked : List Doing → Step → Message → Body → Bool
first_asked before s m (Change c) =
    is_fresh before m.host c.fileset c.number || list_any (is_done_of m.host c.fileset c.number (λ o. true)) s.sent
first_asked before s m _ = true

-- a Revoke of the step names the token
unfoldable pub recalls_it : Token → Body → Bool
recalls_it t (Revoke r) = list_any (same_id t.id) r.ids
recalls_it t _ = false

unfoldable pub recalls_again : Step → Token → Bool
recalls_again s t = list_any (λ k. same_host k.host t.host && recalls_it t k.body) s.sent

-- no two messages of one kind go to one host
unfoldable pub same_sort : Message → Message → Bool
same_sort k m = same_host k.host m.host && (kind_of k.body == kind_of m.body)

-- a Done is of a Change that the step takes, or that waited
unfoldable pub is_change_of : DoneOf → ChangeOf → Bool
is_change_of d c = same_fileset c.fileset d.fileset && (c.number == d.bring.number)

unfoldable pub asks_for_done : DoneOf → Body → Bool
asks_for_done d (Change c) = is_change_of d c
asks_for_done d _ = false

unfoldable pub brings_change : List Doing → HostId → DoneOf → Message → Bool
brings_change before h d m = (is_taken before m && same_host m.host h) && asks_for_done d m.body

unfoldable pub waits_for : HostId → DoneOf → Wanted → Bool
waits_for h d w = same_host w.host h && changes_such w.request (is_change_of d)

unfoldable pub done_due : List Doing → Step → Message → Body → Bool
done_due before s k (Done d) =
    by_message false (brings_change before k.host d) s.cause || list_any (waits_for k.host d) (queue before)
done_due before s k _ = true

unfoldable pub sent_tests : ServerId → List Doing → List Doing → Step → List Bool
sent_tests server before past s =
    list_all (answered_now s) s.applied
    ∷ by_message true (λ m. first_asked before s m m.body) s.cause
    ∷ list_all (λ w. is_plain w.request || is_stuck server past w) (queue past)
    ∷ list_all (λ t. implies (blocks_some server past t) (revoked past t)) (granted server past)
    ∷ implies (is_lapse s.cause)
    (list_all (λ t. implies (is_free server past t && revoked past t) (recalls_again s t)) (granted server past))
    ∷ apart same_sort s.sent
    ∷ list_all (λ k. done_due before s k k.body) s.sent
    ∷ []

unfoldable pub send_words : ℕ
unfolding may_words same_call same_place is_fetch accepted row_right of_row in_way is_ahead grant_tests refuse_tests
    is_stuck awaits_claim is_plain is_missing alike table_refuses pinned_refuses meets_needs same_change is_body_of
    asks_such changes_such where_change is_here_now is_meant asked_here
    new_numbered comes_as is_new needs_right is_locked is_lock_call writes_so decides_right all_decided wants_it
    is_request is_meant_body holds_up waits_before wanted_now left_open decided_tests there_right grants_such
    grants_for is_not_above wrote_so found_right named_right enters_such uses_such settles_for outcome_right
    blocks_some is_free asks_first asks_back send_right sends_right is_done_of done_body says answered_now
    first_asked recalls_it recalls_again same_sort is_change_of asks_for_done brings_change waits_for done_due
    sent_tests
send_words = 0

-- each test, and what it tells
abbrev Such : (FetchOf → Bool) → Request → Type 0
Such test r = (f : FetchOf) × (r ≡ Asks f) × (test f ≡ true)

asks_yes : (r : Request) (test : FetchOf → Bool) → asks_such r test ≡ true → Such test r
unfolding send_words
asks_yes (Asks f) test e = (f, refl, e)
asks_yes (Changes c) test e = absurd (cc)

changes_yes : (r : Request) (test : ChangeOf → Bool) → changes_such r test ≡ true
    → (c : ChangeOf) × (r ≡ Changes c) × (test c ≡ true)
unfolding send_words
changes_yes (Changes c) test e = (c, refl, e)
changes_yes (Asks f) test e = absurd (cc)

change_where : (r : Request) (test : ChangeOf → Bool) (c : ChangeOf) → where_change r test ≡ true → r ≡ Changes c
    → test c ≡ true
unfolding send_words
change_where r test c e is =
    let p : where_change (Changes c) test ≡ true = subst (λ x. where_change x test ≡ true) is e in p

change_same : (a b : ChangeOf) → same_change a b ≡ true → a ≡ b
unfolding send_words
change_same a b e =
    let x = (a.number == b.number) && (same_fileset a.fileset b.fileset && same_fid a.fid b.fid) in
    let y = same_bool a.enter b.enter && ((a.k == b.k) && same_call a.call b.call) in
    let p = and_parts x y e in
    let q = and_parts (a.number == b.number) (same_fileset a.fileset b.fileset && same_fid a.fid b.fid) p.0 in
    let r = and_parts (same_fileset a.fileset b.fileset) (same_fid a.fid b.fid) q.1 in
    let t = and_parts (same_bool a.enter b.enter) ((a.k == b.k) && same_call a.call b.call) p.1 in
    let u = and_parts (a.k == b.k) (same_call a.call b.call) t.1 in
    let n = eqb-true a.number b.number q.0 in
    let f = fileset_is a.fileset b.fileset r.0 in
    let g = fid_is a.fid b.fid r.1 in
    let w = bool_is a.enter b.enter t.0 in
    let k = eqb-true a.k b.k u.0 in
    let c = call_is a.call b.call u.1 in
    λ i. record { number = n i; fileset = f i; fid = g i; enter = w i; k = k i; call = c i }

body_is : (r : Request) (b : Body) → is_body_of r b ≡ true → b ≡ body_of r
unfolding send_words
body_is (Asks f) (Fetch g) e = fetch_body f (Fetch g) e
body_is (Changes c) (Change d) e = let p = change_same d c e in λ i. Change (p i)
body_is r b e = absurd (cc)

-- a request that has this body is this one
request_is : (r q : Request) (b : Body) → is_body_of r b ≡ true → b ≡ body_of q → r ≡ q
unfolding send_words
request_is (Asks f) (Asks g) b e is =
    let p : Fetch g ≡ Fetch f = sym is ∙ body_is (Asks f) b e in let q : g ≡ f = cc in λ i. Asks (sym q i)
request_is (Changes c) (Changes d) b e is =
    let p : Change d ≡ Change c = sym is ∙ body_is (Changes c) b e in let q : d ≡ c = cc in λ i. Changes (sym q i)
request_is (Asks f) (Changes d) b e is =
    absurd (let p : Change d ≡ Fetch f = sym is ∙ body_is (Asks f) b e in cc)
request_is (Changes c) (Asks g) b e is =
    absurd (let p : Fetch g ≡ Change c = sym is ∙ body_is (Changes c) b e in cc)

accepted_is : (tree : Tree) (h : HostId) (c : ChangeOf) → accepted tree h c ≡ true → NotRefused tree h c
unfolding send_words
accepted_is tree h c e refusal (is, _, _) =
    is_not (is_refusal (kept_reply tree h c.call)) e (subst (λ x. is_refusal x ≡ true) (sym is) refl)

row_is : (tree : Tree) (w : Wanted) (c : ChangeOf) → row_right tree w c ≡ true → w.needs ≡ row_needs tree w.host c
unfolding send_words
row_is tree w c e = list_is same_need need_is w.needs (row_needs tree w.host c) e

of_row_is : (tree : Tree) (w : Wanted) (c : ChangeOf) → of_row tree w c ≡ true → IsOfRow tree w c
unfolding send_words
of_row_is tree w c e =
    let p = and_parts (row_right tree w c) (list_all (λ need. same_fid need.fid c.fid) w.needs) e in
    (row_is tree w c p.0, λ _ need i. fid_is need.fid c.fid (at_all (λ need. same_fid need.fid c.fid) w.needs need p.1 i))

before_waits : (past : List Doing) (v w : Wanted) → IsQueuedBefore past v w → IsQueued past v
before_waits [] v w b = elim b [ ]
before_waits (a ∷ past) v w b = b.1

none_ahead : (past : List Doing) (w : Wanted) → list_all (λ v. not (is_ahead w v)) (queue past) ≡ true
    → IsBehind past w → ⊥
unfolding is_ahead
none_ahead past w e (v, b, c) =
    is_not (is_ahead w v) (at_all (λ v. not (is_ahead w v)) (queue past) v e (queue_is past v (before_waits past v w b))) c

pub can_yes : (server : ServerId) (past : List Doing) (w : Wanted) → passes (grant_tests server past w) ≡ true
    → CanGrant server past w
unfolding grant_tests in_way
can_yes server past w e =
    let t = all_true (grant_tests server past w) e in
    record {
      over = over_yes past t.0;
      free = λ u held b. elim held [
        | inl g ↦ is_not (in_way w u) (at_all (λ u. not (in_way w u)) (granted server past) u t.1.0
            (granted_is server past u g)) b
        | inr r ↦ free_yes past u t.1.1.0 r
      ];
      first = none_ahead past w t.1.1.1.0;
    }

refuse_yes : (server : ServerId) (past : List Doing) (w : Wanted) → passes (refuse_tests server past w) ≡ true
    → CanRefuse server past w
unfolding refuse_tests in_way
refuse_yes server past w e =
    let t = all_true (refuse_tests server past w) e in
    let p = some_in (in_way w) (pinned server past) t.1.0 in
    record {
      over = over_yes past t.0;
      pinned = (p.0, pinned_yes server past p.0 p.1, p.2);
      first = none_ahead past w t.1.1.0;
    }

none_pinned : (server : ServerId) (past : List Doing) (w : Wanted)
    → list_all (λ t. not (in_way w t)) (pinned server past) ≡ true → CanRefuse server past w → ⊥
unfolding in_way
none_pinned server past w e can =
    is_not (in_way w can.pinned.0) (at_all (λ t. not (in_way w t)) (pinned server past) can.pinned.0 e
    (pinned_is server past can.pinned.0 can.pinned.1)) can.pinned.2

in_grace : (past : List Doing) → awaits_claim past ≡ true → NoGrace past → ⊥
unfolding awaits_claim
in_grace past e over_ =
    let p = some_in (λ h. live past h && not (reclaimed past h)) (heard past) e in
    let q = and_parts (live past p.0) (not (reclaimed past p.0)) p.2 in
    is_not (reclaimed past p.0) q.1 (reclaimed_is past p.0 (over_ p.0 (live_yes past p.0 q.0)))

ready_over : (server : ServerId) (past : List Doing) (w : Wanted) → CanDecide server past w → NoGrace past
ready_over server past w (inl can) = can.over
ready_over server past w (inr can) = can.over

plain_fetch : (r : Request) (f : FetchOf) → r ≡ Asks f → is_plain r ≡ true → ⊥
unfolding is_plain
plain_fetch r f is e = let p : is_plain (Asks f) ≡ true = subst (λ x. is_plain x ≡ true) is e in cc

plain_change : (r : Request) (c : ChangeOf) → r ≡ Changes c → is_plain r ≡ true
    → (not (is_use c.call) ≡ true) × (not c.enter ≡ true)
unfolding is_plain
plain_change r c is e =
    let p : is_plain (Changes c) ≡ true = subst (λ x. is_plain x ≡ true) is e in
    and_parts (not (is_use c.call)) (not c.enter) p

stuck_grant : (server : ServerId) (past : List Doing) (w : Wanted) → is_stuck server past w ≡ true
    → CanGrant server past w → ⊥
unfolding is_stuck in_way
stuck_grant server past w e can =
    let p = some_in (in_way w) (granted server past) (and_parts (list_any (in_way w) (granted server past))
    (list_all (λ t. not (in_way w t)) (pinned server past)) e).0 in
    can.free p.0 (inl (granted_yes server past p.0 p.1)) p.2

stuck_ready : (server : ServerId) (past : List Doing) (w : Wanted) → is_stuck server past w ≡ true
    → CanDecide server past w → ⊥
unfolding is_stuck
stuck_ready server past w e (inl can) = stuck_grant server past w e can
stuck_ready server past w e (inr can) =
    none_pinned server past w (and_parts (list_any (in_way w) (granted server past))
    (list_all (λ t. not (in_way w t)) (pinned server past)) e).1 can

needs_are : (needs : List Need) (ts : List Token) → meets_needs needs ts ≡ true → AreNeeds needs ts
unfolding meets_needs
needs_are needs ts e = list_is same_need need_is (map need_of ts) needs e

here_either : (server : ServerId) (past : List Doing) (fs : FilesetId) (n : ℕ) → is_here_now server past fs n ≡ true
    → IsDecidedHere server past fs n
unfolding is_here_now
here_either server past fs n e =
    elim (or_cases ((fs.0 == 0) && (n == 0)) (here server past fs n) e) [
      | inl p ↦ (let q = and_parts (fs.0 == 0) (n == 0) p in inl (eqb-true fs.0 0 q.0, eqb-true n 0 q.1))
      | inr p ↦ inr (here_yes server past fs n p)
    ]

-- the cause
pub at_cause : (f : Message → Bool) (s : Step) (m : Message) → by_message true f s.cause ≡ true → s.cause ≡ Came m
    → f m ≡ true
at_cause f s m t c = subst (λ x. by_message true f x ≡ true) c t

came : (f : Message → Bool) (c : Cause) → by_message false f c ≡ true → (m : Message) × (c ≡ Came m) × (f m ≡ true)
came f (Came m) e = (m, refl, e)
came f c e = absurd (cc)

taken_yes : (past : List Doing) (m : Message) → is_taken past m ≡ true → IsLive past m.host × (m.epoch ≡ epoch past)
unfolding is_taken
taken_yes past m e =
    let p = and_parts (live past m.host) (m.epoch == epoch past) e in
    (live_yes past m.host p.0, eqb-true m.epoch (epoch past) p.1)

new_yes : (server : ServerId) (before past : List Doing) (s : Step) (w : Wanted) → is_new server before past s w ≡ true
    → IsNewRequest server before past s w.host w.moves w.request
unfolding send_words
new_yes server before past s w e =
    let alone_ = list_all (λ v. not (same_host v.host w.host && same_asked v.request w.request)) (queue past) in
    let x = by_message false (comes_as before w) s.cause && asked_here server before w.moves w.request in
    let p = and_parts x (new_numbered past w.host w.request && alone_) e in
    let q = and_parts (by_message false (comes_as before w) s.cause) (asked_here server before w.moves w.request) p.0 in
    let r = and_parts (new_numbered past w.host w.request) alone_ p.1 in
    let c = came (comes_as before w) s.cause q.0 in
    let m = c.0 in
    let a = and_parts (is_taken before m && (same_host m.host w.host && (m.moves == w.moves)))
    (is_body_of w.request m.body) c.2 in
    let b = and_parts (is_taken before m) (same_host m.host w.host && (m.moves == w.moves)) a.0 in
    let d = and_parts (same_host m.host w.host) (m.moves == w.moves) b.1 in
    let at = host_is m.host w.host d.0 in
    let t = taken_yes before m b.0 in
    record {
      taken = (
        (m, c.1, at, t.1, eqb-true m.moves w.moves d.1, body_is w.request m.body a.1),
        subst (λ h. IsLive before h) at t.0,
      );
      here = here_it w.request q.1;
      fresh = fresh_it w.request r.0;
      alone = λ v waits h same.
          is_not (same_host v.host w.host && same_asked v.request w.request)
          (at_all (λ v. not (same_host v.host w.host && same_asked v.request w.request)) (queue past) v r.1
          (queue_is past v waits))
          (and_from (same_host v.host w.host) (same_asked v.request w.request) (hosts v.host w.host h)
          (asked_is v.request w.request same));
    }
  where
    is_off : (b : Bool) → not b ≡ true → b ≡ false
    is_off true h = cc
    is_off false h = refl

    here_it : (r : Request) → asked_here server before w.moves r ≡ true → IsAskedHere server before w.moves r
    here_it (Asks f) t = here_yes server before f.fid.fileset w.moves t
    here_it (Changes c) t =
        let p = and_parts (is_here_now server before c.fileset w.moves) (is_meant c) t in
        let named = is_some (fileset_of c.call) in
        let at_home = same_fileset c.fid.fileset c.fileset in
        let q = and_parts (implies c.enter named) (implies (is_use c.call) at_home && not (locks_nothing c.call)) p.1 in
        let r = and_parts (implies (is_use c.call) at_home) (not (locks_nothing c.call)) q.1 in (
          here_either server before c.fileset w.moves p.0,
          (
            (λ e. so c.enter named q.0 e),
            (λ e. fileset_is c.fid.fileset c.fileset (so (is_use c.call) at_home r.0 e)),
            is_off (locks_nothing c.call) r.1,
          ),
        )

    fresh_it : (r : Request) → new_numbered past w.host r ≡ true → IsOld past w.host r → ⊥
    fresh_it (Asks f) t old = old
    fresh_it (Changes c) t (inl x) = fresh_durable past w.host c.fileset c.number t x
    fresh_it (Changes c) t (inr (e, n, d, x, f, k)) =
        let low = fresh_sent past w.host c.fileset c.number t e n d x f in
        elim k [ inl y ↦ omega (arith, low, y) | inr y ↦ omega (arith, low, y.0) ]

locked_is : (r : Reply) → is_locked r ≡ true → r ≡ Refused Locked
unfolding is_locked
locked_is (Refused Locked) e = refl
locked_is r e = absurd (cc)

missing_is : (r : Reply) → is_missing r ≡ true → r ≡ Refused NoEntry
unfolding is_missing
missing_is (Refused NoEntry) e = refl
missing_is r e = absurd (cc)

alike_is : (a b : Reply) → alike a b ≡ true → a ≡ b
unfolding alike
alike_is a b e =
    elim (or_cases (is_locked a && is_locked b) (is_missing a && is_missing b) e) [
      | inl x ↦ (let p = and_parts (is_locked a) (is_locked b) x in locked_is a p.0 ∙ sym (locked_is b p.1))
      | inr x ↦ (let p = and_parts (is_missing a) (is_missing b) x in missing_is a p.0 ∙ sym (missing_is b p.1))
    ]

lock_refusal : (c : Call) → is_lock_call c ≡ true → refusal_of c ≡ Locked
unfolding is_lock_call
lock_refusal (Lock label place writing from len) e = refl
lock_refusal c e = absurd (cc)

by_table : (server : ServerId) (tree : Tree) (past : List Doing) (w : Wanted) (c : ChangeOf) (reply : Reply)
    → table_refuses tree w.host c reply ≡ true → DecidedSo server tree past w c reply
unfolding table_refuses
by_table server tree past w c reply e =
    let its = kept_reply tree w.host c.call in
    let p = and_parts (is_missing its && is_missing reply) (not c.enter && not (moves_fileset c.call)) e in
    let q = and_parts (is_missing its) (is_missing reply) p.0 in
    let r = and_parts (not c.enter) (not (moves_fileset c.call)) p.1 in
    IsRefusedByTable NoEntry (
      missing_is its q.0,
      λ x. absurd (is_not c.enter r.0 x),
      λ x. absurd (is_not (moves_fileset c.call) r.1 x),
    ) (missing_is reply q.1)

by_pinned : (server : ServerId) (tree : Tree) (past : List Doing) (w : Wanted) (c : ChangeOf) (reply : Reply)
    → pinned_refuses server tree past w c reply ≡ true → DecidedSo server tree past w c reply
unfolding pinned_refuses
by_pinned server tree past w c reply e =
    let y = passes (refuse_tests server past w) && (is_locked reply && is_lock_call c.call) in
    let f = and_parts (accepted tree w.host c && of_row tree w c) y e in
    let f1 = and_parts (accepted tree w.host c) (of_row tree w c) f.0 in
    let g = and_parts (passes (refuse_tests server past w)) (is_locked reply && is_lock_call c.call) f.1 in
    let g1 = and_parts (is_locked reply) (is_lock_call c.call) g.1 in
    MeetsPinned (accepted_is tree w.host c f1.0) (of_row_is tree w c f1.1) (refuse_yes server past w g.0)
    (locked_is reply g1.0 ∙ ap Refused (sym (lock_refusal c.call g1.1)))

decided_so : (server : ServerId) (tree : Tree) (past : List Doing) (w : Wanted) (c : ChangeOf) (reply : Reply)
    → (table_refuses tree w.host c reply || pinned_refuses server tree past w c reply) ≡ true
    → DecidedSo server tree past w c reply
decided_so server tree past w c reply e =
    elim (or_cases (table_refuses tree w.host c reply) (pinned_refuses server tree past w c reply) e) [
      | inl x ↦ by_table server tree past w c reply x
      | inr x ↦ by_pinned server tree past w c reply x
    ]

one_right : (server : ServerId) (tree : Tree) (before past : List Doing) (s : Step) (x : AppliedOf)
    → decides_right server tree before past s x ≡ true → MayDecide server tree before past s x
unfolding send_words
one_right server tree before past s (IsWanted w) e =
    let p = and_parts (needs_right tree w w.request) (is_new server before past s w) e in
    (needs_it w.request p.0, inl (new_yes server before past s w p.1))
  where
    needs_it : (r : Request) → needs_right tree w r ≡ true → w.needs ≡ needs_for tree w.host r
    needs_it (Asks f) t = list_is same_need need_is w.needs f.needs t
    needs_it (Changes c) t = row_is tree w c t
one_right server tree before past s (IsDone d) e =
    let test = λ (w : Wanted). same_host d.answer.host w.host && changes_such w.request (writes_so server tree past d w) in
    let p = and_parts (not d.answer.first) (list_any test (queue past)) e in
    let q = some_in test (queue past) p.1 in
    let w = q.0 in
    let r = and_parts (same_host d.answer.host w.host) (changes_such w.request (writes_so server tree past d w)) q.2 in
    let c = changes_yes w.request (writes_so server tree past d w) r.1 in
    let x = (same_fileset d.fileset c.0.fileset && (d.number == c.0.number)) && ((d.answer.k == c.0.k) &&
    same_call d.answer.call c.0.call) in
    let y = table_refuses tree w.host c.0 d.answer.reply || pinned_refuses server tree past w c.0 d.answer.reply in
    let a = and_parts x y c.2 in
    let b = and_parts (same_fileset d.fileset c.0.fileset && (d.number == c.0.number)) ((d.answer.k == c.0.k) &&
    same_call d.answer.call c.0.call) a.0 in
    let b1 = and_parts (same_fileset d.fileset c.0.fileset) (d.number == c.0.number) b.0 in
    let b2 = and_parts (d.answer.k == c.0.k) (same_call d.answer.call c.0.call) b.1 in
    record {
      w = w;
      waits = queue_yes past w q.1;
      change = c.0;
      request = c.1;
      host = host_is d.answer.host w.host r.0;
      fileset = fileset_is d.fileset c.0.fileset b1.0;
      number = eqb-true d.number c.0.number b1.1;
      k = eqb-true d.answer.k c.0.k b2.0;
      call = call_is d.answer.call c.0.call b2.1;
      later = not_first d.answer.first p.0;
      so = decided_so server tree past w c.0 d.answer.reply a.1;
    }
  where
    not_first : (b : Bool) → not b ≡ true → b ≡ false
    not_first true t = absurd (cc)
    not_first false t = refl
one_right server tree before past s x e = absurd (cc)

pub decides_all : (server : ServerId) (tree : Tree) (before past : List Doing) (s : Step) (xs : List AppliedOf)
    → all_decided server tree before past s xs ≡ true → MayDecideAll server tree before past s xs
unfolding all_decided
decides_all server tree before past s [] e = tt
decides_all server tree before past s (x ∷ xs) e =
    let more = all_decided server (filesets_after s.cause tree x) before (appended (decisions_of x) past) s xs in
    let p = and_parts (decides_right server tree before past s x) more e in (
      one_right server tree before past s x p.0,
      decides_all server (filesets_after s.cause tree x) before (appended (decisions_of x) past) s xs p.1,
    )

-- what was decided
pub has_decided : (server : ServerId) (tree : Tree) (before past : List Doing) (s : Step)
    → passes (decided_tests server tree before past s) ≡ true → HasDecided server tree before past s
unfolding send_words
has_decided server tree before past s e = record {
  news = λ h n r x. news h n r x.taken x.here x.alone;
  refused = λ w c refusal waits is so_ ready.
      let r = parts w c waits is (elim ready [ inl x ↦ ready_over server past w x | inr x ↦ x.0 ]) in
      accepted_is tree w.host c r.0 refusal so_;
  effects = λ w c waits is effect ok ready.
      let r = parts w c waits is (ready_over server past w ready) in is_not (has_effect c) r.1 effect;
  pinned = λ w c waits is row ok can.
      let r = parts w c waits is can.over in none_pinned server past w r.2 can;
}
  where
    t : AllTrue (decided_tests server tree before past s)
    t = all_true (decided_tests server tree before past s) e

    all_open : NoGrace past → list_all (λ w. where_change w.request (left_open server tree past w)) (queue past) ≡ true
    all_open over_ =
        let all_ = list_all (λ w. where_change w.request (left_open server tree past w)) (queue past) in
        elim (or_cases (awaits_claim past) all_ t.1.0) [ inl x ↦ absurd (in_grace past x over_) | inr x ↦ x ]

    parts : (w : Wanted) (c : ChangeOf) → IsQueued past w → w.request ≡ Changes c → NoGrace past
        → (accepted tree w.host c ≡ true) × (not (has_effect c) ≡ true)
        × (list_all (λ t. not (in_way w t)) (pinned server past) ≡ true)
    parts w c waits is over_ =
        let pins_ = list_all (λ t. not (in_way w t)) (pinned server past) in
        let p = and_parts (accepted tree w.host c && not (has_effect c)) pins_
        (change_where w.request (left_open server tree past w) c
        (at_all (λ w. where_change w.request (left_open server tree past w)) (queue past) w (all_open over_)
        (queue_is past w waits)) is) in
        let q = and_parts (accepted tree w.host c) (not (has_effect c)) p.0 in
        (q.0, q.1, p.1)

    asked : (r : Request) → is_request (body_of r) ≡ true
    asked (Asks f) = refl
    asked (Changes c) = refl

    found : (h : HostId) (m : Message) (b : Body) (r : Request) (x : AppliedOf) → In x s.applied
        → wants_it m.host b x ≡ true → b ≡ body_of r → m.host ≡ h
        → (w : Wanted) × In (IsWanted w) s.applied × (w.host ≡ h) × (w.request ≡ r)
    found h m b r (IsWanted w) i x is at =
        let p = and_parts (same_host w.host m.host) (is_body_of w.request b) x in
        (w, i, host_is w.host m.host p.0 ∙ at, request_is w.request r b p.1 is)
    found h m b r x i y is at = absurd (cc)

    held : (b : Body) (q r : Request) → holds_up b q ≡ true → b ≡ body_of r → CannotBothWait q r
    held (Change d) (Changes c) (Changes e) x is =
        let p : d ≡ e = cc in fileset_is c.fileset d.fileset x ∙ ap (λ (y : ChangeOf). y.fileset) p
    held (Change d) (Changes c) (Asks f) x is = absurd (cc)
    held (Change d) (Asks g) r x is = absurd (cc)
    held b q r x is = absurd (cc)

    implied : (a b : Bool) → (a ≡ true → b ≡ true) → implies a b ≡ true
    implied true b f = f refl
    implied false b f = refl

    meant : (n : ℕ) (r : Request) → IsAskedHere server before n r → is_meant_body (body_of r) ≡ true
    meant n (Asks f) x = refl
    meant n (Changes c) x =
        let named = is_some (fileset_of c.call) in
        let at_home = same_fileset c.fid.fileset c.fileset in
        let some = not (locks_nothing c.call) in
        and_from (implies c.enter named) (implies (is_use c.call) at_home && some) (implied c.enter named x.1.0)
        (and_from (implies (is_use c.call) at_home) some (implied (is_use c.call) at_home
        (λ e. filesets c.fid.fileset c.fileset (x.1.1 e))) (ap not x.1.2))

    news : (h : HostId) (n : ℕ) (r : Request) → TakenNow before s h n (body_of r)
        → IsAskedHere server before n r → NoneQueued (after_cause s.cause before) h r
        → (w : Wanted) × In (IsWanted w) s.applied × (w.host ≡ h) × (w.request ≡ r)
    news h n r ((m, c, at, _, _, is), _) here_ alone =
        let new = list_any (wants_it m.host m.body) s.applied in
        let waits_ = list_any (waits_before m) (queue (after_cause s.cause before)) in
        let asks_ = λ (b : Body). is_request b && is_meant_body b in
        let q = and_from (is_request (body_of r)) (is_meant_body (body_of r)) (asked r) (meant n r here_) in
        let p = so (asks_ m.body) (new || waits_) (at_cause (wanted_now before s) s m t.0 c) (subst (λ b. asks_ b ≡ true)
        (sym is) q) in
        elim (or_cases new waits_ p) [
          | inl y ↦ (
              let q = some_in (wants_it m.host m.body) s.applied y in
              found h m m.body r q.0 q.1 q.2 is at
              )
          | inr y ↦ (
              let q = some_in (waits_before m) (queue (after_cause s.cause before)) y in
              let k = and_parts (same_host q.0.host m.host) (holds_up m.body q.0.request) q.2 in
              absurd (alone q.0 (queue_yes (after_cause s.cause before) q.0 q.1) (host_is q.0.host m.host k.0 ∙ at)
              (held m.body q.0.request r k.1 is))
              )
        ]

-- what is told by the Grants of a list of messages
abbrev pub TellsBody : Tree → Body → Type 0
TellsBody tree (Grant g) = TellsKept tree g
TellsBody tree _ = Unit {0}

abbrev pub TellsAll : Tree → List Message → Type 0
TellsAll tree [] = Unit {0}
TellsAll tree (m ∷ ms) = TellsBody tree m.body × TellsAll tree ms

abbrev TellsAct : Tree → Doing → Type 0
TellsAct tree (Sent h e n b) = TellsBody tree b
TellsAct tree _ = Unit {0}

there_is : {A : Type 0} (o : Option A) → there_right o ≡ true → o ≡ None → ⊥
unfolding there_right
there_is None e is = cc
there_is (Some x) e is = cc

grant_so : (server : ServerId) (tree : Tree) (past : List Doing) (h : HostId) (n : ℕ) (g : GrantOf)
    → TellsKept tree g → there_right ((cell_at tree g.bring.fid Traits).kept) ≡ true
    → list_any (grants_for server past h n g) (queue past) ≡ true → GrantsSo server tree past h n g
unfolding send_words
grant_so server tree past h n g tells there e =
    let q = some_in (grants_for server past h n g) (queue past) e in
    let w = q.0 in
    let p = and_parts ((same_host w.host h && (w.moves == n)) && passes (grant_tests server past w))
    (asks_such w.request (grants_such g)) q.2 in
    let r = and_parts (same_host w.host h && (w.moves == n)) (passes (grant_tests server past w)) p.0 in
    let k = and_parts (same_host w.host h) (w.moves == n) r.0 in
    let f = asks_yes w.request (grants_such g) p.1 in
    let a = and_parts ((g.bring.number == f.0.number) && same_fid g.bring.fid f.0.fid)
    (meets_needs f.0.needs g.bring.tokens) f.2 in
    let b = and_parts (g.bring.number == f.0.number) (same_fid g.bring.fid f.0.fid) a.0 in
    record {
      w = w;
      waits = queue_yes past w q.1;
      fetch = f.0;
      request = f.1;
      host = host_is w.host h k.0;
      moves = eqb-true w.moves n k.1;
      number = eqb-true g.bring.number f.0.number b.0;
      fid = fid_is g.bring.fid f.0.fid b.1;
      free = can_yes server past w r.1;
      brings = inl (there_is ((cell_at tree g.bring.fid Traits).kept) there, needs_are f.0.needs g.bring.tokens a.1);
      tells = tells;
    }

module _ (server : ServerId) (tree : Tree) (past : List Doing) (h : HostId) (n : ℕ) (d : DoneOf) where
  last_yes : list_all (is_not_above h d) past ≡ true → IsLast past h d
  unfolding is_not_above
  last_yes t e m o x f = go past t x
    where
      go : (past : List Doing) → list_all (is_not_above h d) past ≡ true → SentTo past h e m (Done o)
          → o.bring.number ≤ d.bring.number
      go [] t x = elim x [ ]
      go (a ∷ past) t (inl is) =
          let p = (and_parts (is_not_above h d a) (list_all (is_not_above h d) past) t).0 in
          let q : is_not_above h d (Sent h e m (Done o)) ≡ true = subst (λ x. is_not_above h d x ≡ true) is p in
          leb-true o.bring.number d.bring.number (so (same_host h h && same_fileset o.fileset d.fileset)
          (nat_le o.bring.number d.bring.number) q (and_from (same_host h h) (same_fileset o.fileset d.fileset)
          (hosts h h refl) (filesets o.fileset d.fileset f)))
      go (a ∷ past) t (inr x) = go past (and_parts (is_not_above h d a) (list_all (is_not_above h d) past) t).1 x

  wrote_yes : (reply : Reply) → d.outcome ≡ HasReply reply → list_any (wrote_so h d reply) past ≡ true
      → HasWritten past h d
  unfolding wrote_so
  wrote_yes reply is t = go past t
    where
      now : (a : Doing) → wrote_so h d reply a ≡ true
          → (w : Written) × (a ≡ WritesDown w) × (w.answer.host ≡ h) × (w.fileset ≡ d.fileset)
          × (w.number ≡ d.bring.number) × (d.outcome ≡ HasReply w.answer.reply)
      now (WritesDown w) e =
          let x = (same_host w.answer.host h && same_fileset w.fileset d.fileset) && (w.number == d.bring.number) in
          let p = and_parts x (alike reply w.answer.reply) e in
          let q = and_parts (same_host w.answer.host h && same_fileset w.fileset d.fileset) (w.number == d.bring.number)
          p.0 in
          let r = and_parts (same_host w.answer.host h) (same_fileset w.fileset d.fileset) q.0 in (
            w,
            refl,
            host_is w.answer.host h r.0,
            fileset_is w.fileset d.fileset r.1,
            eqb-true w.number d.bring.number q.1,
            is ∙ ap HasReply (alike_is reply w.answer.reply p.1),
          )
      now a e = absurd (cc)

      go : (past : List Doing) → list_any (wrote_so h d reply) past ≡ true → HasWritten past h d
      go [] e = absurd (cc)
      go (a ∷ past) e =
          elim (or_cases (wrote_so h d reply a) (list_any (wrote_so h d reply) past) e) [
            | inl p ↦ inl (now a p)
            | inr p ↦ inr (go past p)
          ]

  abbrev Named : FilesetId → ChangeOf → Type 0
  Named id c = (place : ServerId × List ℕ) × (fileset : Fileset) × (fileset_of c.call ≡ Some place)
      × (fileset_named tree place.0 place.1 ≡ Ok fileset) × (fileset.id ≡ id)

  named_yes : (id : FilesetId) (c : ChangeOf) (o : Option (ServerId × List ℕ)) → fileset_of c.call ≡ o
      → named_right tree id o ≡ true → Named id c
  unfolding named_right found_right
  named_yes id c None is e = absurd (none e)
    where
      none : named_right tree id None ≡ true → ⊥
      none e = cc
  named_yes id c (Some place) is e = go (fileset_named tree place.0 place.1) refl (as_found e)
    where
      as_found : named_right tree id (Some place) ≡ true → found_right id (fileset_named tree place.0 place.1) ≡ true
      as_found e = e

      go : (r : Result Fileset Refusal) → fileset_named tree place.0 place.1 ≡ r → found_right id r ≡ true → Named id c
      go (Ok fileset) at e = (place, fileset, is, at, fileset_is fileset.id id e)
      go (Err refusal) at e = absurd (cc)

  abbrev SettledBy : (Wanted → ChangeOf → Bool) → Type 0
  SettledBy test = (w : Wanted) × (c : ChangeOf) × IsQueued past w × (w.request ≡ Changes c) × (w.host ≡ h) × (w.moves ≡ n)
      × (test w c ≡ true)

  settled_yes : (test : Wanted → ChangeOf → Bool) → list_any (settles_for h n test) (queue past) ≡ true → SettledBy test
  unfolding settles_for
  settled_yes test e =
      let q = some_in (settles_for h n test) (queue past) e in
      let w = q.0 in
      let p = and_parts (same_host w.host h && (w.moves == n)) (changes_such w.request (test w)) q.2 in
      let r = and_parts (same_host w.host h) (w.moves == n) p.0 in
      let c = changes_yes w.request (test w) p.1 in
      (w, c.0, queue_yes past w q.1, c.1, host_is w.host h r.0, eqb-true w.moves n r.1, c.2)

  outcome_is : (o : DoneIs) → d.outcome ≡ o → outcome_right server tree past h n d o ≡ true
      → DoneFor server tree past h n d
  unfolding outcome_right enters_such uses_such
  outcome_is (HasReply reply) is e =
      let x = list_all (is_not_above h d) past && list_any (wrote_so h d reply) past in
      let p = and_parts (is_none d.bring.tokens) x e in
      let q = and_parts (list_all (is_not_above h d) past) (list_any (wrote_so h d reply) past) p.1 in
      OfWritten (wrote_yes reply is q.1) (none_is d.bring.tokens p.0) (last_yes q.0)
  outcome_is (IsFileset id) is e =
      let test = λ (w : Wanted). enters_such tree d id in
      let p = and_parts (is_none d.bring.tokens) (list_any (settles_for h n test) (queue past)) e in
      let s = settled_yes test p.1 in
      let c = s.1 in
      let q = and_parts (same_fileset d.fileset c.fileset && (d.bring.number == c.number))
      (c.enter && named_right tree id (fileset_of c.call)) s.6 in
      let r = and_parts (same_fileset d.fileset c.fileset) (d.bring.number == c.number) q.0 in
      let k = and_parts c.enter (named_right tree id (fileset_of c.call)) q.1 in
      let f = named_yes id c (fileset_of c.call) refl k.1 in
      Answered (record {
        w = s.0;
        waits = s.2;
        change = c;
        request = s.3;
        host = s.4;
        moves = s.5;
        fileset = fileset_is d.fileset c.fileset r.0;
        number = eqb-true d.bring.number c.number r.1;
        so = IsEntered f.1 f.0 k.0 f.2 f.3 (is ∙ ap IsFileset (sym f.4)) (none_is d.bring.tokens p.0);
      })
  outcome_is IsGranted is e =
      let s = settled_yes (uses_such server tree past d) e in
      let w = s.0 in
      let c = s.1 in
      let x = (of_row tree w c && passes (grant_tests server past w)) && meets_needs w.needs d.bring.tokens in
      let q = and_parts (same_fileset d.fileset c.fileset && (d.bring.number == c.number))
      ((is_use c.call && accepted tree w.host c) && x) s.6 in
      let r = and_parts (same_fileset d.fileset c.fileset) (d.bring.number == c.number) q.0 in
      let k = and_parts (is_use c.call && accepted tree w.host c) x q.1 in
      let u = and_parts (is_use c.call) (accepted tree w.host c) k.0 in
      let v = and_parts (of_row tree w c && passes (grant_tests server past w)) (meets_needs w.needs d.bring.tokens) k.1 in
      let y = and_parts (of_row tree w c) (passes (grant_tests server past w)) v.0 in
      Answered (record {
        w = w;
        waits = s.2;
        change = c;
        request = s.3;
        host = s.4;
        moves = s.5;
        fileset = fileset_is d.fileset c.fileset r.0;
        number = eqb-true d.bring.number c.number r.1;
        so = TakesToken u.0 (accepted_is tree w.host c u.1) (of_row_is tree w c y.0) (can_yes server past w y.1) is
            (needs_are w.needs d.bring.tokens v.1);
      })
  outcome_is o is e = absurd (cc)

free_is : (server : ServerId) (past : List Doing) (t : Token) → is_free server past t ≡ true → Pinned server past t → ⊥
unfolding is_free
free_is server past t e pin =
    is_not (list_any (same_token t) (pinned server past)) e
    (tokens_in t (pinned server past) (pinned_is server past t pin))

is_free_yes : (server : ServerId) (past : List Doing) (t : Token) → (Pinned server past t → ⊥)
    → is_free server past t ≡ true
unfolding is_free
is_free_yes server past t none = not_is (list_any (same_token t) (pinned server past)) (λ e.
    let q = some_in (same_token t) (pinned server past) e in
    none (subst (Pinned server past) (sym (token_is t q.0 q.2)) (pinned_yes server past q.0 q.1)))

back_is : (server : ServerId) (past : List Doing) (s : Step) (h : HostId) (i : TokenId)
    → list_any (asks_back server past s h i) (granted server past) ≡ true
    → (t : Token) × (t.id ≡ i) × (t.host ≡ h)
    × ((IsAskedBack server past t × (HasRevoked past t → ⊥)) ⊎ ((s.cause ≡ Lapse) × IsOwed server past t))
unfolding asks_back asks_first blocks_some in_way
back_is server past s h i e =
    let p = some_in (asks_back server past s h i) (granted server past) e in
    let t = p.0 in
    let blocks_ = list_any (λ w. in_way w t) (queue past) in
    let first = (over past && blocks_) && not (revoked past t) in
    let again = is_lapse s.cause && revoked past t in
    let q = and_parts ((same_id t.id i && same_host t.host h) && is_free server past t) (first || again) p.2 in
    let r = and_parts (same_id t.id i && same_host t.host h) (is_free server past t) q.0 in
    let k = and_parts (same_id t.id i) (same_host t.host h) r.0 in (
      t,
      id_is t.id i k.0,
      host_is t.host h k.1,
      elim (or_cases first again q.1) [
        | inl x ↦ (
            let y = and_parts (over past && blocks_) (not (revoked past t)) x in
            let z = and_parts (over past) blocks_ y.0 in
            let w = some_in (λ w. in_way w t) (queue past) z.1 in
            inl (
              record {
                over = over_yes past z.0;
                granted = granted_yes server past t p.1;
                unpinned = free_is server past t r.1;
                w = w.0;
                waits = queue_yes past w.0 w.1;
                blocks_it = w.2;
              },
              λ v. is_not (revoked past t) y.1 (revoked_is past t v),
            )
            )
        | inr x ↦ (
            let y = and_parts (is_lapse s.cause) (revoked past t) x in
            inr (
              lapse_cause s.cause y.0,
              record {
                granted = granted_yes server past t p.1;
                unpinned = free_is server past t r.1;
                revoked = revoked_yes past t y.1;
              },
            )
            )
      ],
    )

may_send : (server : ServerId) (tree : Tree) (s : Step) (past : List Doing) (a : Doing) → TellsAct tree a
    → send_right server tree s past a ≡ true → MaySend server tree s past a
unfolding send_right
may_send server tree s past a tells e = record {
  grant_for = λ h f n g is.
      let p = and_parts (there_right ((cell_at tree g.bring.fid Traits).kept))
      (list_any (grants_for server past h n g) (queue past)) (at (Sent h f n (Grant g)) is) in
      grant_so server tree past h n g (subst (TellsAct tree) is tells) p.0 p.1;
  done_for = λ h f n d is.
      let p = and_parts (live past h && is_here_now server past d.fileset n) (outcome_right server tree past h n d d.outcome)
      (at (Sent h f n (Done d)) is) in
      let q = and_parts (live past h) (is_here_now server past d.fileset n) p.0 in (
        live_yes past h q.0,
        here_either server past d.fileset n q.1,
        outcome_is server tree past h n d d.outcome refl p.1,
      );
  revoke_for = λ h f n r i is m.
      back_is server past s h i
      (at_all (λ i. list_any (asks_back server past s h i) (granted server past)) r.ids i
      (at (Sent h f n (Revoke r)) is) m);
}
  where
    at : (x : Doing) → a ≡ x → send_right server tree s past x ≡ true
    at x is = subst (λ y. send_right server tree s past y ≡ true) is e

pub sends_all : (server : ServerId) (tree : Tree) (s : Step) (ms : List Message) (past : List Doing) → TellsAll tree ms
    → sends_right server tree s (sending ms) past ≡ true → EachInTurn (MaySend server tree s) (sending ms) past
unfolding sends_right
sends_all server tree s [] past tells e = tt
sends_all server tree s (m ∷ ms) past tells e =
    let a = Sent m.host m.epoch m.moves m.body in
    let p = and_parts (send_right server tree s past a) (sends_right server tree s (sending ms) (a ∷ past)) e in
    (may_send server tree s past a tells.0 p.0, sends_all server tree s ms (a ∷ past) tells.1 p.1)

-- the end of a step
done_at : (such : DoneIs → Bool) (m : Message) (b : Body) (fs : FilesetId) (n : ℕ) → m.body ≡ b
    → done_body b fs n such ≡ true
    → (d : DoneOf) × (m.body ≡ Done d) × (d.fileset ≡ fs) × (d.bring.number ≡ n) × (such d.outcome ≡ true)
unfolding done_body
done_at such m (Done d) fs n is e =
    let p = and_parts (same_fileset d.fileset fs && (d.bring.number == n)) (such d.outcome) e in
    let q = and_parts (same_fileset d.fileset fs) (d.bring.number == n) p.0 in
    (d, is, fileset_is d.fileset fs q.0, eqb-true d.bring.number n q.1, p.1)
done_at such m b fs n is e = absurd (cc)

done_sent : (s : Step) (h : HostId) (fs : FilesetId) (n : ℕ) (such : DoneIs → Bool)
    → list_any (is_done_of h fs n such) s.sent ≡ true
    → (d : DoneOf) × SentNow s h (Done d) × (d.fileset ≡ fs) × (d.bring.number ≡ n) × (such d.outcome ≡ true)
unfolding is_done_of
done_sent s h fs n such e =
    let p = some_in (is_done_of h fs n such) s.sent e in
    let q = and_parts (same_host p.0.host h) (done_body p.0.body fs n such) p.2 in
    let r = done_at such p.0 p.0.body fs n refl q.1 in
    (r.0, (p.0, p.1, host_is p.0.host h q.0, r.1), r.2, r.3, r.4)

says_is : (its : Reply) (o : DoneIs) → says its o ≡ true → o ≡ HasReply its
unfolding says
says_is its (HasReply r) e = ap HasReply (alike_is r its e)
says_is its o e = absurd (cc)

pub has_sent : (server : ServerId) (tree : Tree) (before past : List Doing) (s : Step)
    → passes (sent_tests server before past s) ≡ true → HasSent server tree before past s
unfolding sent_tests answered_now first_asked is_lapse blocks_some in_way recalls_it recalls_again same_sort
    is_change_of asks_for_done brings_change waits_for done_due
has_sent server tree before past s e = record {
  once = once_from same_sort s.sent (λ m. sorts m m refl refl) t.1.1.1.1.1.0;
  revokes_once = λ h r q i (m, j, at, is) (k, l, up, so_) _ _.
      let same = only_one same_sort s.sent m k t.1.1.1.1.1.0 j l (sorts m k (at ∙ sym up)
      (ap kind_of is ∙ sym (ap kind_of so_))) in
      let p : Revoke r ≡ Revoke q = sym is ∙ (ap (λ (x : Message). x.body) same ∙ so_) in cc;
  dones_only = λ h d (k, i, at, is).
      let p = subst (λ b. done_due before s k b ≡ true) is (at_all (λ k. done_due before s k k.body) s.sent k
      t.1.1.1.1.1.1.0 i) in
      subst (λ y. IsDue y d) at (due k d p);
  written = λ w m.
      let q = done_sent s w.answer.host w.fileset w.number (says w.answer.reply)
      (at_all (answered_now s) s.applied (IsDone w) t.0 m) in (
        q.0,
        q.1,
        says_is w.answer.reply q.0.outcome q.4,
        q.2,
        q.3,
      );
  repeats = λ h n c d x here_ f k last was. repeats h n c d x f k was;
  grants = λ w f waits is can. elim (stuck w waits) [
    | inl x ↦ plain_fetch w.request f is x
    | inr x ↦ stuck_grant server past w x can
  ];
  uses = λ w c waits is use_ ok can. elim (stuck w waits) [
    | inl x ↦ is_not (is_use c.call) (plain_change w.request c is x).0 use_
    | inr x ↦ stuck_grant server past w x can
  ];
  others = λ w c waits is use_ ok row ready. elim (stuck w waits) [
    | inl x ↦ is_not (is_use c.call) (plain_change w.request c is x).0 use_
    | inr x ↦ stuck_ready server past w x ready
  ];
  enters = λ w c waits is enter_ ok can. elim (stuck w waits) [
    | inl x ↦ is_not c.enter (plain_change w.request c is x).1 enter_
    | inr x ↦ stuck_grant server past w x can
  ];
  revokes = λ u k. revoked_yes past u (back u k);
  revokes_again = λ u c k.
      let owed_ = λ (t : Token). is_free server past t && revoked past t in
      let all_ = λ (t : Token). implies (owed_ t) (recalls_again s t) in
      let p = so (owed_ u) (recalls_again s u)
      (at_all all_ (granted server past) u (so (is_lapse s.cause) (list_all all_ (granted server past)) t.1.1.1.1.0
      (lapse c)) (granted_is server past u k.granted)) (and_from (is_free server past u) (revoked past u)
      (is_free_yes server past u k.unpinned) (revoked_is past u k.revoked)) in
      let q = some_in (λ (m : Message). same_host m.host u.host && recalls_it u m.body) s.sent p in
      let r = and_parts (same_host q.0.host u.host) (recalls_it u q.0.body) q.2 in
      let z = recalled u q.0.body r.1 in
      (z.0, (q.0, q.1, host_is q.0.host u.host r.0, z.1), z.2);
}
  where
    t : AllTrue (sent_tests server before past s)
    t = all_true (sent_tests server before past s) e

    sorts : (k m : Message) → k.host ≡ m.host → kind_of k.body ≡ kind_of m.body → same_sort k m ≡ true
    sorts k m at is =
        and_from (same_host k.host m.host) (kind_of k.body == kind_of m.body) (hosts k.host m.host at)
        (eq-eqb (kind_of k.body) (kind_of m.body) is)

    IsDue : HostId → DoneOf → Type 0
    IsDue h d = (c : ChangeOf) × IsOfChange c d × (((n : ℕ) × TakenNow before s h n (Change c))
        ⊎ ((w : Wanted) × IsQueued before w × (w.host ≡ h) × (w.request ≡ Changes c)))

    of_change : (d : DoneOf) (c : ChangeOf) → is_change_of d c ≡ true → IsOfChange c d
    of_change d c x =
        let p = and_parts (same_fileset c.fileset d.fileset) (c.number == d.bring.number) x in
        (fileset_is c.fileset d.fileset p.0, eqb-true c.number d.bring.number p.1)

    its_change : (d : DoneOf) (b : Body) → asks_for_done d b ≡ true → (c : ChangeOf) × (b ≡ Change c) × IsOfChange c d
    its_change d (Change c) x = (c, refl, of_change d c x)
    its_change d b x = absurd (cc)

    due : (k : Message) (d : DoneOf) → done_due before s k (Done d) ≡ true → IsDue k.host d
    due k d x =
        elim (or_cases (by_message false (brings_change before k.host d) s.cause) (list_any (waits_for k.host d)
        (queue before)) x) [
          | inl y ↦ (
              let z = came (brings_change before k.host d) s.cause y in
              let m = z.0 in
              let p = and_parts (is_taken before m && same_host m.host k.host) (asks_for_done d m.body) z.2 in
              let q = and_parts (is_taken before m) (same_host m.host k.host) p.0 in
              let at = host_is m.host k.host q.1 in
              let l = taken_yes before m q.0 in
              let c = its_change d m.body p.1 in
              (c.0, c.2, inl (m.moves, ((m, z.1, at, l.1, refl, c.1), subst (IsLive before) at l.0)))
              )
          | inr y ↦ (
              let z = some_in (waits_for k.host d) (queue before) y in
              let p = and_parts (same_host z.0.host k.host) (changes_such z.0.request (is_change_of d)) z.2 in
              let c = changes_yes z.0.request (is_change_of d) p.1 in
              (c.0, of_change d c.0 c.2, inr (z.0, queue_yes before z.0 z.1, host_is z.0.host k.host p.0, c.1))
              )
        ]

    stuck : (w : Wanted) → IsQueued past w → (is_plain w.request ≡ true) ⊎ (is_stuck server past w ≡ true)
    stuck w waits =
        or_cases (is_plain w.request) (is_stuck server past w)
        (at_all (λ w. is_plain w.request || is_stuck server past w) (queue past) w t.1.1.0 (queue_is past w waits))

    lapse : s.cause ≡ Lapse → is_lapse s.cause ≡ true
    lapse c = subst (λ x. is_lapse x ≡ true) (sym c) refl

    some_blocked : (u : Token) → IsAskedBack server past u → blocks_some server past u ≡ true
    some_blocked u k = any_of (λ w. in_way w u) (queue past) k.w (queue_is past k.w k.waits) k.blocks_it

    recalled : (u : Token) (b : Body) → recalls_it u b ≡ true → (r : RevokeOf) × (b ≡ Revoke r) × In u.id r.ids
    recalled u (Revoke r) e = (r, refl, in_ids u.id r.ids e)
    recalled u b e = absurd (cc)

    back : (u : Token) → IsAskedBack server past u → revoked past u ≡ true
    back u k =
        so (blocks_some server past u) (revoked past u)
        (at_all (λ t. implies (blocks_some server past t) (revoked past t)) (granted server past) u t.1.1.1.0
        (granted_is server past u k.granted))
        (some_blocked u k)

    repeats : (h : HostId) (n : ℕ) (c : ChangeOf) (d : DoneOf) → TakenNow before s h n (Change c) → d.fileset ≡ c.fileset
        → d.bring.number ≡ c.number
        → HasWritten before h d ⊎ ((m : ℕ) × SentTo before h (epoch before) m (Done d))
        → AnswersChange s h c.fileset c.number
    repeats h n c d ((m, is, at, _, _, body), _) f k was =
        let p : first_asked before s m (Change c) ≡ true =
        subst (λ b. first_asked before s m b ≡ true) body (at_cause (λ m. first_asked before s m m.body) s m t.1.0 is) in
        let fresh_ = is_fresh before m.host c.fileset c.number in
        elim (or_cases fresh_ (list_any (is_done_of m.host c.fileset c.number (λ o. true)) s.sent) p) [
          | inl q ↦ absurd (never (subst (λ h. is_fresh before h c.fileset c.number ≡ true) at q) f k was)
          | inr q ↦ (
              let r = done_sent s m.host c.fileset c.number (λ o. true) q in
              (r.0, subst (λ h. SentNow s h (Done r.0)) at r.1, r.2, r.3)
              )
        ]
      where
        once_of : (past : List Doing) → HasWritten past h d
            → (w : Written) × Once (λ before a. a ≡ WritesDown w) past × (w.answer.host ≡ h) × (w.fileset ≡ d.fileset)
            × (w.number ≡ d.bring.number)
        once_of [] x = elim x [ ]
        once_of (a ∷ past) (inl (w, is, at, f, k, _)) = (w, inl is, at, f, k)
        once_of (a ∷ past) (inr x) = let r = once_of past x in (r.0, inr r.1, r.2, r.3, r.4)

        never : is_fresh before h c.fileset c.number ≡ true → d.fileset ≡ c.fileset → d.bring.number ≡ c.number
            → HasWritten before h d ⊎ ((m : ℕ) × SentTo before h (epoch before) m (Done d)) → ⊥
        never t f k (inl x) =
            let r = once_of before x in
            let low = fresh_written before h c.fileset c.number t r.0 r.1 r.2 (r.3 ∙ f) in
            let e = r.4 ∙ k in omega (arith, low, e)
        never t f k (inr (m, x)) =
            let low = fresh_sent before h c.fileset c.number t (epoch before) m d x f in omega (arith, low, k)
