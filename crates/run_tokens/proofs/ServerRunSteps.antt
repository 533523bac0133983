-- The server of the small run meets all its rules in each of its steps.
use Rattle.std.proofs.Common.{List, None, Ok, [], ap, codes, inl, inr, refl, subst, sym, true, ℕ, ◌∙◌}
use Rattle.std.proofs.Common.{◌∷◌, ◌≡◌, ◌⊎◌}
use Rattle.std.specs.List.{list_all}
use Rattle.base_types.specs.declared.ids.FilesetId.{FilesetId}
use Rattle.base_types.specs.declared.ids.HostId.{HostId}
use Rattle.token_types.specs.declared.token.Token.{Token}
use Rattle.tree_laws.specs.Parts.{Part, cell_at}
use Rattle.run_rules.specs.Doings.{Doing, Granted, HasReclaimed, HeardNow, Hears, Here, IsLive, NoGrace, Pinned}
use Rattle.run_rules.specs.Doings.{SentNow, SentTo, TakenNow, TookNow, WasWritten, after_cause, epoch}
use Rattle.run_rules.specs.Doings.Doing.{BeginsEpoch, MakesWant, Reserves, Sent, Took, WritesDown}
use Rattle.run_rules.specs.Kept.{filesets_kept}
use Rattle.run_rules.specs.Messages.{home}
use Rattle.run_rules.specs.Past.{EachOnce, In}
use Rattle.run_rules.specs.ServerDecides.{IsDecidedHere, IsNewRequest, RefusedOn, ServerApplies, by_cause, decisions}
use Rattle.run_rules.specs.ServerDecides.{is_decision, kept_reply}
use Rattle.run_rules.specs.ServerDue.{HasDecided, HasSent, IsOfChange, ServerAnswers, ServerLines}
use Rattle.run_tokens.specs.ServerRest.{ServerMeets}
use Rattle.run_rules.specs.ServerMay.{AnswersSo, AreNeeds, DoneFor, GrantsSo, HasWritten, MaySend, NoHostStep}
use Rattle.run_rules.specs.ServerMay.{OnlyAnswers}
use Rattle.run_rules.specs.ServerMay.AnsweredSo.{IsEntered}
use Rattle.run_rules.specs.ServerMay.DoneFor.{Answered}
use Rattle.run_rules.specs.Steps.{lines_of}
use Rattle.run_rules.specs.Views.{part_told as told_of}
use Rattle.run_rules.specs.Wants.{CanGrant, CanRefuse, Decides, IsQueued, IsQueuedBefore, body_of, has_effect}
use Rattle.run_rules.specs.declared.applied.Request.TheVariants.{Change as Changes, Fetch as Asks}
use Rattle.run_tokens.specs.JournalWorked.{home_fileset, script, start}
use Rattle.run_tokens.specs.Worked.{asks_for, client, enter, entered, facts, granted, grants, root, site_one}
use Rattle.run_tokens.specs.Worked.{stat, tells, to_host, to_server, wants_enter, wants_root, welcome, welcomes}
use Rattle.run_rules.specs.declared.step.Step.{Step}
use Rattle.tree_calls.specs.declared.reply.Reply.TheVariants.{Refused}
use Rattle.tree_objects.specs.Spans.{whole}
use Rattle.run_rules.specs.declared.step.Cause.{Cause}
use Rattle.run_rules.specs.declared.step.Cause.TheVariants.{Message as Came, Lapse, Line, Restart, Evict, End}
use Rattle.message_types.specs.declared.message.Body.TheVariants.{Hello, Fetch, Grant, Change, Done, Revoke, GiveBack, Gone, Reclaim, Reclaimed, Restarted, Down, Bye}
use Rattle.message_types.specs.declared.message.Body.{Body}
use Rattle.message_types.specs.declared.message.Message.{Message}
use Rattle.message_types.specs.declared.giving.Reclaim.{Reclaim as ReclaimOf}
use Rattle.message_types.specs.declared.telling.Done.{Done as DoneOf}
use Rattle.message_types.specs.declared.telling.Grant.{Grant as GrantOf}
use Rattle.message_types.specs.declared.tokens.Revoke.{Revoke as RevokeOf}
use Rattle.message_types.specs.declared.asking.Fetch.{Fetch as FetchOf}
use Rattle.message_types.specs.declared.asking.Change.{Change as ChangeOf}
use Rattle.base_types.specs.declared.ids.Node.TheVariants.{Server}
use Rattle.run_rules.specs.declared.applied.Request.{Request}
use Rattle.run_rules.specs.declared.applied.Wanted.{Wanted}
use Rattle.run_rules.specs.declared.applied.Written.{Written}
use Rattle.tree_laws.specs.Parts.Part.{ByteAt, Size, Traits, Entries}
use Rattle.tree_answers.specs.declared.tree.Tree.{Tree}
use Rattle.tree_calls.specs.declared.reply.Refusal.{Refusal}
use Rattle.tree_answers.specs.Answers.{answer_to, answer_for, fileset_row}
use Rattle.tree_answers.specs.Finding.{fileset_place, fileset_named}
use Rattle.tree_filesets.specs.Rows.{fileset_answer}
use Rattle.tree_filesets.specs.Telling.{stat_reply}
use Rattle.tree_filesets.specs.Walk.{target}
use Rattle.run_tokens.proofs.Example.{IsNew, still_new, took_dull, wants_dull, welcomed_new, told_new, asked_new, welcomes_may, tells_may, grants_may}

at_one : home root.fileset ≡ site_one
unfolding home
at_one = refl

is_here : Here site_one [] root.fileset 0
unfolding home
is_here = refl

-- the server's doings before each step
abbrev pub began : List Doing
began = BeginsEpoch 1 ∷ []

abbrev pub greeted : List Doing
greeted = Took client 0 0 Hello ∷ began

abbrev pub welcomed : List Doing
welcomed = Reserves [] ∷ Sent client 1 0 (Reclaimed welcome) ∷ greeted

abbrev pub entering : List Doing
entering = Took client 1 0 (Change enter) ∷ welcomed

abbrev pub told : List Doing
told = Reserves [] ∷ Sent client 1 0 (Done entered) ∷ MakesWant wants_enter ∷ entering

abbrev pub fetching : List Doing
fetching = Took client 1 0 (Fetch (asks_for whole)) ∷ told

abbrev pub granted_now : List Doing
granted_now = Reserves [] ∷ Sent client 1 0 (Grant (granted whole)) ∷ MakesWant (wants_root whole) ∷ fetching

-- nothing was written down
abbrev none_written : (past : List Doing) → Type 0
none_written past = (h : HostId) (fs : FilesetId) (n : ℕ) → WasWritten past h fs n → ⊥

still_none : (past : List Doing) (a : Doing) → ((w : Written) → a ≡ WritesDown w → ⊥) → none_written past → none_written (a ∷ past)
still_none past a unlike none = λ h fs n w. elim w [ inl p ↦ unlike p.0 p.1 | inr p ↦ none h fs n p ]

none_written_entering : none_written entering
none_written_entering =
    still_none welcomed (Took client 1 0 (Change enter)) (λ w p. cc)
    (still_none (Sent client 1 0 (Reclaimed welcome) ∷ greeted) (Reserves []) (λ w p. cc)
    (still_none greeted (Sent client 1 0 (Reclaimed welcome)) (λ w p. cc)
    (still_none began (Took client 0 0 Hello) (λ w p. cc)
    (still_none [] (BeginsEpoch 1) (λ w p. cc) (λ h fs n w. elim w [ ])))))

-- no Done was sent before the first Change
none_done : (h : HostId) (e n : ℕ) (d : DoneOf) → SentTo entering h e n (Done d) → ⊥
none_done h e n d (inl p) = cc
none_done h e n d (inr (inl p)) = cc
none_done h e n d (inr (inr (inl p))) = cc
none_done h e n d (inr (inr (inr (inl p)))) = cc
none_done h e n d (inr (inr (inr (inr (inl p))))) = cc
none_done h e n d (inr (inr (inr (inr (inr p))))) = elim p [ ]

new_entering : IsNew whole entering
new_entering = still_new whole welcomed (Took client 1 0 (Change enter)) (welcomed_new whole) (took_dull whole client 1 0 (Change enter) (λ p. cc) (λ p. cc) (λ p. cc))

new_wanted : IsNew whole (MakesWant wants_enter ∷ entering)
new_wanted = still_new whole entering (MakesWant wants_enter) new_entering (wants_dull whole wants_enter)

over : (past : List Doing) → IsNew whole past → NoGrace past
over past is h l = subst (HasReclaimed past) (sym (is.listed_is h l.0)) is.reclaimed

live : (past : List Doing) → IsNew whole past → IsLive past client
live past is = (is.listed, is.here client)

-- which wants wait
none_waits_greeted : (w : Wanted) → IsQueued greeted w → ⊥
none_waits_greeted w (inl p) = cc
none_waits_greeted w (inr p) = elim p.0 [ inl q ↦ absurd (let r = q in cc) | inr q ↦ elim q.0 [ ] ]

none_waits_sent : (w : Wanted) → IsQueued (Sent client 1 0 (Reclaimed welcome) ∷ greeted) w → ⊥
none_waits_sent w (inl p) = cc
none_waits_sent w (inr p) = none_waits_greeted w p.0

none_waits_welcomed : (w : Wanted) → IsQueued welcomed w → ⊥
none_waits_welcomed w (inl p) = cc
none_waits_welcomed w (inr p) = none_waits_sent w p.0

none_waits_entering : (w : Wanted) → IsQueued entering w → ⊥
none_waits_entering w (inl p) = cc
none_waits_entering w (inr p) = none_waits_welcomed w p.0

waits_wanted : (w : Wanted) → IsQueued (MakesWant wants_enter ∷ entering) w → wants_enter ≡ w
waits_wanted w (inl p) = cc
waits_wanted w (inr p) = absurd (none_waits_entering w p.0)

decides_enter : Decides (Sent client 1 0 (Done entered)) client (Changes enter)
decides_enter = inr (1, 0, entered, refl, refl, refl)

none_waits_done : (w : Wanted) → IsQueued (Sent client 1 0 (Done entered) ∷ MakesWant wants_enter ∷ entering) w → ⊥
none_waits_done w (inl p) = cc
none_waits_done w (inr p) = p.1 (inl (subst (λ (x : Wanted). Decides (Sent client 1 0 (Done entered)) x.host x.request) (waits_wanted w p.0) decides_enter))

none_waits_told : (w : Wanted) → IsQueued told w → ⊥
none_waits_told w (inl p) = cc
none_waits_told w (inr p) = none_waits_done w p.0

none_waits_fetching : (w : Wanted) → IsQueued fetching w → ⊥
none_waits_fetching w (inl p) = cc
none_waits_fetching w (inr p) = none_waits_told w p.0

waits_root : (w : Wanted) → IsQueued (MakesWant (wants_root whole) ∷ fetching) w → wants_root whole ≡ w
waits_root w (inl p) = cc
waits_root w (inr p) = absurd (none_waits_fetching w p.0)

decides_root : Decides (Sent client 1 0 (Grant (granted whole))) client (Asks (asks_for whole))
decides_root = (1, 0, granted whole, refl, refl, refl)

none_waits_sent_grant : (w : Wanted) → IsQueued (Sent client 1 0 (Grant (granted whole)) ∷ MakesWant (wants_root whole) ∷ fetching) w → ⊥
none_waits_sent_grant w (inl p) = cc
none_waits_sent_grant w (inr p) = p.1 (inl (subst (λ (x : Wanted). Decides (Sent client 1 0 (Grant (granted whole))) x.host x.request) (waits_root w p.0) decides_root))

none_waits_granted : (w : Wanted) → IsQueued granted_now w → ⊥
none_waits_granted w (inl p) = cc
none_waits_granted w (inr p) = none_waits_sent_grant w p.0

-- the cause of a step is its own message
its_message : (s : Step) (m n : Message) → s.cause ≡ Came m → s.cause ≡ Came n → m ≡ n
its_message s m n a b = let p : Came m ≡ Came n = sym a ∙ b in cc

heard_is : (s : Step) (m : Message) (h : HostId) (b : Body) → s.cause ≡ Came m → HeardNow s h b → (m.host ≡ h) × (m.body ≡ b)
heard_is s m h b at x = let p = its_message s m x.0 at x.1 in (ap (λ (y : Message). y.host) p ∙ x.2, ap (λ (y : Message). y.body) p ∙ x.3)

taken_is : (past : List Doing) (s : Step) (m : Message) (h : HostId) (n : ℕ) (b : Body) → s.cause ≡ Came m → TakenNow past s h n b → (m.host ≡ h) × (m.moves ≡ n) × (m.body ≡ b)
taken_is past s m h n b at x = let p = its_message s m x.0.0 at x.0.1 in
    (ap (λ (y : Message). y.host) p ∙ x.0.2, ap (λ (y : Message). y.moves) p ∙ x.0.4, ap (λ (y : Message). y.body) p ∙ x.0.5)

sent_is : (s : Step) (m : Message) → s.sent ≡ m ∷ [] → (h : HostId) (b : Body) → SentNow s h b → (m.host ≡ h) × (m.body ≡ b)
sent_is s m is h b (n, i, at, body) = go (subst (In n) is i)
  where
    go : In n (m ∷ []) → (m.host ≡ h) × (m.body ≡ b)
    go (inl p) = (ap (λ (x : Message). x.host) (sym p) ∙ at, ap (λ (x : Message). x.body) (sym p) ∙ body)
    go (inr p) = elim p [ ]

lines_by_message : (steps : List Step) (s : Step) (m : Message) → s.cause ≡ Came m
    → ServerLines (lines_of script (Server site_one)) steps s
lines_by_message steps s m at = record {
  bare = λ n c. absurd (let p : Line n ≡ Came m = sym c ∙ at in cc);
  restarts = λ n c. absurd (let p : Restart n ≡ Came m = sym c ∙ at in cc);
}

no_host_by_message : (s : Step) (m : Message) → s.cause ≡ Came m
    → (s.asked ≡ None) × (s.taken ≡ []) × (s.answers ≡ []) × (s.wrote ≡ None) × (s.begun ≡ []) × (s.made ≡ []) × (s.dropped ≡ [])
    → NoHostStep s
no_host_by_message s m at none = record {
  causes = ((λ c. let p : Evict ≡ Came m = sym c ∙ at in cc), λ c. let p : End ≡ Came m = sym c ∙ at in cc);
  does_none = none;
}

-- a step that sends one message sends it once; where that is no Revoke, it names no token twice
once_one : (s : Step) (m : Message) → s.sent ≡ m ∷ [] → EachOnce s.sent
once_one s m is = subst (λ (xs : List Message). EachOnce xs) (sym is) ((λ i. i), tt)

names_none : (s : Step) (m : Message) → s.sent ≡ m ∷ [] → ((r : RevokeOf) → m.body ≡ Revoke r → ⊥) → (h : HostId) (r : RevokeOf) → SentNow s h (Revoke r) → ⊥
names_none s m is none h r x = none r (sent_is s m is h (Revoke r) x).1

-- the kept filesets haven't changed since the start
abbrev pub tree : Tree
tree = filesets_kept start site_one []

-- requests, and their answers
abbrev IsAsking : Body → Type 0
IsAsking (Fetch f) = Unit {0}
IsAsking (Change c) = Unit {0}
IsAsking _ = ⊥

abbrev IsTelling : Body → Type 0
IsTelling (Grant g) = Unit {0}
IsTelling (Done d) = Unit {0}
IsTelling _ = ⊥

-- a step whose cause is a message of the present epoch and is neither Hello, Bye, GiveBack, Reclaim nor Down, and that sends one that answers it
module _ (past : List Doing) (s : Step) (m reply : Message) (is_new : IsNew whole past) (at : s.cause ≡ Came m) (sends : s.sent ≡ reply ∷ [])
    (now : m.epoch ≡ epoch past) (asks : IsAsking m.body) (tells : IsTelling reply.body) where
  answers_request : ServerAnswers site_one past s
  answers_request = record {
    hello_old = λ h x. absurd (subst IsAsking (heard_is s m h Hello at x).1 asks);
    hello = λ h x. absurd (subst IsAsking (heard_is s m h Hello at x).1 asks);
    bye = λ h x. absurd (subst IsAsking (heard_is s m h Bye at x).1 asks);
    late = λ h n c is l other. absurd (other (ap (λ (y : Message). y.epoch) (sym (its_message s m n at c)) ∙ now));
    restarted = λ line h c. absurd (let p : Restart line ≡ Came m = sym c ∙ at in cc);
    restarted_again = λ h c. absurd (let p : Lapse ≡ Came m = sym c ∙ at in cc);
    restarted_only = λ h x. absurd (subst IsTelling (sent_is s reply sends h Restarted x).1 tells);
    gone = λ h n g x. absurd (subst IsAsking (taken_is past s m h n (GiveBack g) at x).2 asks);
    gone_only = λ h n x. absurd (subst IsTelling (sent_is s reply sends h (Gone n) x).1 tells);
    claim_now = λ h n claim took not alive. absurd (not (over past is_new h (before h alive)));
    claim_again = λ h n claim x. absurd (subst IsAsking (taken_is past s m h n (Reclaim claim) at x).2 asks);
  }
    where
      before : (h : HostId) → IsLive (after_cause s.cause past) h → IsLive past h
      before h alive = back (subst (λ (c : Cause). IsLive (after_cause c past) h) at alive)
        where
          body_of_took : Hears (Took m.host m.epoch m.moves m.body) h Hello → m.body ≡ Hello
          body_of_took x = let p = x.2 in cc

          back : IsLive (Took m.host m.epoch m.moves m.body ∷ past) h → IsLive past h
          back x = (elim x.0 [ inl p ↦ absurd (subst IsAsking (body_of_took p.0) asks) | inr p ↦ p ], λ w. x.1 (inr w))

  only_request : OnlyAnswers past s
  only_request = record {
    bye_only = λ h x. absurd (subst IsTelling (sent_is s reply sends h Bye x).1 tells);
    reclaimed_only = λ h r x. absurd (subst IsTelling (sent_is s reply sends h (Reclaimed r) x).1 tells);
  }

  applies_request : by_cause s.applied ≡ [] → list_all is_decision (decisions s.applied) ≡ true → s.reserved ≡ [] → ServerApplies site_one tree past s
  applies_request none all unreserved = record {
    given = λ h g x. absurd (subst IsAsking (taken_is past s m h x.0.0 (GiveBack g) at x.0.1).2 asks);
    down = λ h x. absurd (subst IsAsking (heard_is s m h Down at x.0).1 asks);
    else_none = λ a b. none;
    decided = all;
    reserves = λ t i. absurd (subst (In t) unreserved i);
  }

  still_new_now : IsNew whole past
  still_new_now = is_new

-- the first step: the host is welcomed
not_live : (h : HostId) → IsLive began h → ⊥
not_live h l = elim l.0 [ inl p ↦ (let q = p.0.2 in cc) | inr p ↦ elim p [ ] ]

answers_hello : ServerAnswers site_one began welcomes
answers_hello = record {
  hello_old = λ h x l. absurd (not_live h l);
  hello = λ h x up new. (to_host (Reclaimed welcome), inl refl, (heard_is welcomes (to_server 0 Hello) h Hello refl x).0, refl);
  bye = λ h x. absurd (let p = (heard_is welcomes (to_server 0 Hello) h Bye refl x).1 in cc);
  late = λ h m c is l. absurd (not_live h l);
  restarted = λ line h c. absurd (cc);
  restarted_again = λ h c. absurd (cc);
  restarted_only = λ h x. absurd (let p = (sent_is welcomes (to_host (Reclaimed welcome)) refl h Restarted x).1 in cc);
  gone = λ h n g x. absurd (not_live h x.1);
  gone_only = λ h n x. absurd (let p = (sent_is welcomes (to_host (Reclaimed welcome)) refl h (Gone n) x).1 in cc);
  claim_now = λ h n claim took. absurd (none_took h n claim took);
  claim_again = λ h n claim x. absurd (not_live h x.1);
}
  where
    none_took : (h : HostId) (n : ℕ) (claim : ReclaimOf) → TookNow greeted h n (Reclaim claim) → ⊥
    none_took h n claim (inl x) = let p = x.0 in cc
    none_took h n claim (inr x) = elim x.0 [ inl y ↦ (let p = y.0 in cc) | inr y ↦ elim y.0 [ ] ]

only_hello : OnlyAnswers began welcomes
only_hello = record {
  bye_only = λ h x. absurd (let p = (sent_is welcomes (to_host (Reclaimed welcome)) refl h Bye x).1 in cc);
  reclaimed_only = λ h r x. inl (
    (to_server 0 Hello, refl, (sent_is welcomes (to_host (Reclaimed welcome)) refl h (Reclaimed r) x).0, refl),
    (λ d. elim d [ inl y ↦ (let p = y.2 in cc) | inr y ↦ elim y [ ] ]),
    inl (not_live h),
  );
}

applies_hello : ServerApplies site_one tree began welcomes
applies_hello = record {
  given = λ h g x. absurd (not_live h x.0.1.1);
  down = λ h x. absurd (let p = (heard_is welcomes (to_server 0 Hello) h Down refl x.0).1 in cc);
  else_none = λ a b. refl;
  decided = refl;
  reserves = λ t i. elim i [ ];
}

decided_hello : HasDecided site_one tree began greeted welcomes
decided_hello = record {
  news = λ h n r x. absurd (not_live h x.taken.1);
  refused = λ w c refusal waits. absurd (none_waits_greeted w waits);
  effects = λ w c waits. absurd (none_waits_greeted w waits);
  pinned = λ w c waits. absurd (none_waits_greeted w waits);
}

sent_hello : HasSent site_one tree began welcomed welcomes
sent_hello = record {
  once = once_one welcomes (to_host (Reclaimed welcome)) refl;
  revokes_once = λ h r q i x. absurd (names_none welcomes (to_host (Reclaimed welcome)) refl (λ r p. cc) h r x);
  dones_only = λ h d x. absurd (let p = (sent_is welcomes (to_host (Reclaimed welcome)) refl h (Done d) x).1 in cc);
  written = λ w i. elim i [ ];
  repeats = λ h n c d x. absurd (not_live h x.1);
  grants = λ w f waits. absurd (none_waits_welcomed w waits);
  uses = λ w c waits. absurd (none_waits_welcomed w waits);
  others = λ w c waits. absurd (none_waits_welcomed w waits);
  enters = λ w c waits. absurd (none_waits_welcomed w waits);
  revokes = λ t k. absurd (none_waits_welcomed k.w k.waits);
  revokes_again = λ t c. absurd (cc);
}

pub meets_welcomes : ServerMeets script start site_one [] began welcomes
meets_welcomes = record {
  may = record {
    tokens = welcomes_may whole;
    no_host = no_host_by_message welcomes (to_server 0 Hello) refl (refl, refl, refl, refl, refl, refl, refl);
    answers = only_hello;
    works = record { applies = applies_hello; decides = tt; sends = (quiet_send greeted (Reclaimed welcome) (λ g p. cc) (λ d p. cc) (λ r p. cc), tt) };
  };
  due = record {
    lines = lines_by_message ([]) welcomes (to_server 0 Hello) refl;
    answers = answers_hello;
    decided = decided_hello;
    sent = sent_hello;
  };
}
  where
    quiet_send : (past : List Doing) (b : Body) → ((g : GrantOf) → b ≡ Grant g → ⊥) → ((d : DoneOf) → b ≡ Done d → ⊥) → ((r : RevokeOf) → b ≡ Revoke r → ⊥) → MaySend site_one tree welcomes past (Sent client 1 0 b)
    quiet_send past b no_grant no_done no_revoke = record {
      grant_for = λ h e n g p. absurd (no_grant g (let q : b ≡ Grant g = cc in q));
      done_for = λ h e n d p. absurd (no_done d (let q : b ≡ Done d = cc in q));
      revoke_for = λ h e n r i p. absurd (no_revoke r (let q : b ≡ Revoke r = cc in q));
    }

-- the second step: the host enters the fileset
new_request : IsNewRequest site_one welcomed entering tells client 0 (Changes enter)
new_request = record {
  taken = ((to_server 1 (Change enter), refl, refl, refl, refl, refl), live welcomed (welcomed_new whole));
  here = (inl (refl, refl), (λ e. refl, (λ e. absurd (cc)), refl));
  fresh = λ old. elim old [ inl d ↦ none_written_entering _ _ _ d.2 | inr d ↦ none_done client d.0 d.1 d.2 d.3 ];
  alone = λ w waits. absurd (none_waits_entering w waits);
}

-- a want that waits after the want was made, and its request
is_enter : (w : Wanted) → IsQueued (MakesWant wants_enter ∷ entering) w → Changes enter ≡ w.request
is_enter w waits = ap (λ (x : Wanted). x.request) (waits_wanted w waits)

replied : (refusal : Refusal) → kept_reply tree client stat ≡ Refused refusal → ⊥
unfolding answer_to answer_for fileset_row fileset_place fileset_answer stat_reply target
replied refusal r = let p : facts ≡ Refused refusal = r in cc

not_refused : (w : Wanted) (c : ChangeOf) (refusal : Refusal) → IsQueued (MakesWant wants_enter ∷ entering) w → w.request ≡ Changes c → RefusedOn tree w.host c refusal → ⊥
not_refused w c refusal waits is so =
    let e : Changes enter ≡ Changes c = is_enter w waits ∙ is in
    let c_is : enter ≡ c = cc in
    let h_is : client ≡ w.host = ap (λ (x : Wanted). x.host) (waits_wanted w waits) in
    let r : kept_reply tree client stat ≡ Refused refusal = subst (λ (x : HostId × ChangeOf). kept_reply tree x.0 x.1.call ≡ Refused refusal) (λ i. (sym h_is i, sym c_is i)) so.0 in
    replied refusal r

decided_enter : HasDecided site_one tree welcomed (MakesWant wants_enter ∷ entering) tells
decided_enter = record {
  news = λ h n r x. let t = taken_is welcomed tells (to_server 1 (Change enter)) h n (body_of r) refl x.taken in (wants_enter, inl refl, t.0, its r t.2);
  refused = λ w c refusal waits is so. absurd (not_refused w c refusal waits is so);
  effects = λ w c waits is effect. absurd (no_effect w c waits is effect);
  pinned = λ w c waits is row not r. absurd (no_pins r);
}
  where
    its : (r : Request) → Change enter ≡ body_of r → Changes enter ≡ r
    its (Asks f) e = absurd (cc)
    its (Changes c) e = let p : enter ≡ c = cc in ap (λ (x : ChangeOf). Changes x) p

    no_effect : (w : Wanted) (c : ChangeOf) → IsQueued (MakesWant wants_enter ∷ entering) w → w.request ≡ Changes c → has_effect c ≡ true → ⊥
    no_effect w c waits is effect =
        let e : Changes enter ≡ Changes c = is_enter w waits ∙ is in
        let c_is : enter ≡ c = cc in
        let f : has_effect enter ≡ true = subst (λ (x : ChangeOf). has_effect x ≡ true) (sym c_is) effect in cc

    granted_of : (t : Token) → Pinned site_one (MakesWant wants_enter ∷ entering) t → Granted site_one (MakesWant wants_enter ∷ entering) t
    granted_of t p = p.1

    no_pins : {w : Wanted} → CanRefuse site_one (MakesWant wants_enter ∷ entering) w → ⊥
    no_pins r = new_wanted.none_granted r.pinned.0 (granted_of r.pinned.0 r.pinned.1)

named : fileset_named tree site_one (codes "home") ≡ Ok home_fileset
unfolding fileset_named
named = refl

settles_enter : AnswersSo site_one tree (MakesWant wants_enter ∷ entering) client 0 entered
settles_enter = record {
  w = wants_enter;
  waits = inl refl;
  change = enter;
  request = refl;
  host = refl;
  moves = refl;
  fileset = refl;
  number = refl;
  so = IsEntered home_fileset (site_one, codes "home") refl refl named refl refl;
}

sends_entered : MaySend site_one tree tells (MakesWant wants_enter ∷ entering) (Sent client 1 0 (Done entered))
sends_entered = record {
  grant_for = λ h e n g p. absurd (cc);
  done_for = λ h e n d p. its h e n d (let q : client ≡ h = cc in q) (let q : 0 ≡ n = cc in q) (let q : entered ≡ d = cc in q);
  revoke_for = λ h e n r i p. absurd (cc);
}
  where
    Sendable : HostId → ℕ → DoneOf → Type 0
    Sendable h n d = IsLive (MakesWant wants_enter ∷ entering) h × IsDecidedHere site_one (MakesWant wants_enter ∷ entering) d.fileset n × DoneFor site_one tree (MakesWant wants_enter ∷ entering) h n d

    its : (h : HostId) (e n : ℕ) (d : DoneOf) → client ≡ h → 0 ≡ n → entered ≡ d → Sendable h n d
    its h e n d p q r = subst (λ (x : HostId × ℕ × DoneOf). Sendable x.0 x.1 x.2) (λ i. (p i, q i, r i))
        (live (MakesWant wants_enter ∷ entering) new_wanted, inl (refl, refl), Answered settles_enter)

sent_entered : HasSent site_one tree welcomed told tells
sent_entered = record {
  once = once_one tells (to_host (Done entered)) refl;
  revokes_once = λ h r q i x. absurd (names_none tells (to_host (Done entered)) refl (λ r p. cc) h r x);
  dones_only = λ h d x. let p = sent_is tells (to_host (Done entered)) refl h (Done d) x in its h d p.0 (let q : Done entered ≡ Done d = p.1 in cc);
  written = λ w i. elim i [ inl p ↦ absurd (cc) | inr p ↦ elim p [ ] ];
  repeats = λ h n c d x here f k last was. absurd (elim was [ inl y ↦ none_written_by welcomed h d y | inr y ↦ none_done h _ y.0 d (inr y.1) ]);
  grants = λ w f waits. absurd (none_waits_told w waits);
  uses = λ w c waits. absurd (none_waits_told w waits);
  others = λ w c waits. absurd (none_waits_told w waits);
  enters = λ w c waits. absurd (none_waits_told w waits);
  revokes = λ t k. absurd (none_waits_told k.w k.waits);
  revokes_again = λ t c. absurd (cc);
}
  where
    IsDue : HostId → DoneOf → Type 0
    IsDue h d = (c : ChangeOf) × IsOfChange c d × (((n : ℕ) × TakenNow welcomed tells h n (Change c))
        ⊎ ((w : Wanted) × IsQueued welcomed w × (w.host ≡ h) × (w.request ≡ Changes c)))

    its : (h : HostId) (d : DoneOf) → client ≡ h → entered ≡ d → IsDue h d
    its h d p q = subst (λ (x : HostId × DoneOf). IsDue x.0 x.1) (λ i. (p i, q i)) (enter, (refl, refl), inl (0, new_request.taken))

    none_written_by : (past : List Doing) (h : HostId) (d : DoneOf) → HasWritten welcomed h d → ⊥
    none_written_by past h d (inl p) = let q = p.1 in cc
    none_written_by past h d (inr (inl p)) = let q = p.1 in cc
    none_written_by past h d (inr (inr (inl p))) = let q = p.1 in cc
    none_written_by past h d (inr (inr (inr (inl p)))) = let q = p.1 in cc
    none_written_by past h d (inr (inr (inr (inr p)))) = elim p [ ]

pub meets_tells : ServerMeets script start site_one (welcomes ∷ []) welcomed tells
meets_tells = record {
  may = record {
    tokens = tells_may whole;
    no_host = no_host_by_message tells (to_server 1 (Change enter)) refl (refl, refl, refl, refl, refl, refl, refl);
    answers = only_request welcomed tells (to_server 1 (Change enter)) (to_host (Done entered)) (welcomed_new whole) refl refl refl tt tt;
    works = record { applies = applies_request welcomed tells (to_server 1 (Change enter)) (to_host (Done entered)) (welcomed_new whole) refl refl refl tt tt refl refl refl; decides = ((refl, inl new_request), tt); sends = (sends_entered, tt) };
  };
  due = record {
    lines = lines_by_message (welcomes ∷ []) tells (to_server 1 (Change enter)) refl;
    answers = answers_request welcomed tells (to_server 1 (Change enter)) (to_host (Done entered)) (welcomed_new whole) refl refl refl tt tt;
    decided = decided_enter;
    sent = sent_entered;
  };
}

-- the third step: the Fetch is granted
new_wanted_root : IsNew whole (MakesWant (wants_root whole) ∷ fetching)
new_wanted_root = asked_new whole

fetch_request : IsNewRequest site_one told fetching (grants whole) client 0 (Asks (asks_for whole))
fetch_request = record {
  taken = ((to_server 1 (Fetch (asks_for whole)), refl, refl, refl, refl, refl), live told (told_new whole));
  here = is_here;
  fresh = λ old. old;
  alone = λ w waits. absurd (none_waits_fetching w waits);
}

free_root : CanGrant site_one (MakesWant (wants_root whole) ∷ fetching) (wants_root whole)
free_root = record {
  over = over (MakesWant (wants_root whole) ∷ fetching) new_wanted_root;
  free = λ t g b. elim g [ inl p ↦ new_wanted_root.none_granted t p | inr p ↦ new_wanted_root.none_reserved t p ];
  first = λ b. no_before b.0 b.1;
}
  where
    none_before : (past : List Doing) (v w : Wanted) → IsQueuedBefore past v w → ((x : Wanted) → IsQueued past x → ⊥) → ⊥
    none_before [] v w b none = elim b [ ]
    none_before (a ∷ past) v w b none = none v b.1

    no_before : (v : Wanted) → IsQueuedBefore (MakesWant (wants_root whole) ∷ fetching) v (wants_root whole) → ⊥
    no_before v b = elim b.0 [ inl p ↦ none_waits_fetching v p.0 | inr p ↦ none_before fetching v (wants_root whole) p none_waits_fetching ]

are_needs : AreNeeds (asks_for whole).needs (granted whole).bring.tokens
are_needs = refl

tells_kept : (part : Part) → told_of (granted whole) part ≡ (cell_at tree root part).kept
tells_kept (ByteAt at) = refl
tells_kept Size = refl
tells_kept Traits = refl
tells_kept Entries = refl

grants_so : GrantsSo site_one tree (MakesWant (wants_root whole) ∷ fetching) client 0 (granted whole)
grants_so = record {
  w = wants_root whole;
  waits = inl refl;
  fetch = asks_for whole;
  request = refl;
  host = refl;
  moves = refl;
  number = refl;
  fid = refl;
  free = free_root;
  brings = inl ((λ q. cc), are_needs);
  tells = λ t part m s. tells_kept part;
}

sends_grant : MaySend site_one tree (grants whole) (MakesWant (wants_root whole) ∷ fetching) (Sent client 1 0 (Grant (granted whole)))
sends_grant = record {
  grant_for = λ h e n g p. its h n g (let q : client ≡ h = cc in q) (let q : 0 ≡ n = cc in q) (let q : granted whole ≡ g = cc in q);
  done_for = λ h e n d p. absurd (cc);
  revoke_for = λ h e n r i p. absurd (cc);
}
  where
    its : (h : HostId) (n : ℕ) (g : GrantOf) → client ≡ h → 0 ≡ n → granted whole ≡ g → GrantsSo site_one tree (MakesWant (wants_root whole) ∷ fetching) h n g
    its h n g p q r = subst (λ (x : HostId × ℕ × GrantOf). GrantsSo site_one tree (MakesWant (wants_root whole) ∷ fetching) x.0 x.1 x.2) (λ i. (p i, q i, r i)) grants_so

-- what waits then is the Fetch, which is no Change
no_change : (w : Wanted) (c : ChangeOf) → IsQueued (MakesWant (wants_root whole) ∷ fetching) w → w.request ≡ Changes c → ⊥
no_change w c waits is = let e : Asks (asks_for whole) ≡ Changes c = ap (λ (x : Wanted). x.request) (waits_root w waits) ∙ is in cc

decided_fetch : HasDecided site_one tree told (MakesWant (wants_root whole) ∷ fetching) (grants whole)
decided_fetch = record {
  news = λ h n r x. let t = taken_is told (grants whole) (to_server 1 (Fetch (asks_for whole))) h n (body_of r) refl x.taken in (wants_root whole, inl refl, t.0, its r t.2);
  refused = λ w c refusal waits is. absurd (no_change w c waits is);
  effects = λ w c waits is. absurd (no_change w c waits is);
  pinned = λ w c waits is. absurd (no_change w c waits is);
}
  where
    its : (r : Request) → Fetch (asks_for whole) ≡ body_of r → Asks (asks_for whole) ≡ r
    its (Changes c) e = absurd (cc)
    its (Asks f) e = let p : asks_for whole ≡ f = cc in ap (λ (x : FetchOf). Asks x) p

sent_grant : HasSent site_one tree told granted_now (grants whole)
sent_grant = record {
  once = once_one (grants whole) (to_host (Grant (granted whole))) refl;
  revokes_once = λ h r q i x. absurd (names_none (grants whole) (to_host (Grant (granted whole))) refl (λ r p. cc) h r x);
  dones_only = λ h d x. absurd (let p = (sent_is (grants whole) (to_host (Grant (granted whole))) refl h (Done d) x).1 in cc);
  written = λ w i. elim i [ inl p ↦ absurd (cc) | inr p ↦ elim p [ ] ];
  repeats = λ h n c d x. absurd (let p = (taken_is told (grants whole) (to_server 1 (Fetch (asks_for whole))) h n (Change c) refl x).2 in cc);
  grants = λ w f waits. absurd (none_waits_granted w waits);
  uses = λ w c waits. absurd (none_waits_granted w waits);
  others = λ w c waits. absurd (none_waits_granted w waits);
  enters = λ w c waits. absurd (none_waits_granted w waits);
  revokes = λ t k. absurd (none_waits_granted k.w k.waits);
  revokes_again = λ t c. absurd (cc);
}

pub meets_grants : ServerMeets script start site_one (tells ∷ welcomes ∷ []) told (grants whole)
meets_grants = record {
  may = record {
    tokens = grants_may whole;
    no_host = no_host_by_message (grants whole) (to_server 1 (Fetch (asks_for whole))) refl (refl, refl, refl, refl, refl, refl, refl);
    answers = only_request told (grants whole) (to_server 1 (Fetch (asks_for whole))) (to_host (Grant (granted whole))) (told_new whole) refl refl refl tt tt;
    works = record { applies = applies_request told (grants whole) (to_server 1 (Fetch (asks_for whole))) (to_host (Grant (granted whole))) (told_new whole) refl refl refl tt tt refl refl refl; decides = ((refl, inl fetch_request), tt); sends = (sends_grant, tt) };
  };
  due = record {
    lines = lines_by_message (tells ∷ welcomes ∷ []) (grants whole) (to_server 1 (Fetch (asks_for whole))) refl;
    answers = answers_request told (grants whole) (to_server 1 (Fetch (asks_for whole))) (to_host (Grant (granted whole))) (told_new whole) refl refl refl tt tt;
    decided = decided_fetch;
    sent = sent_grant;
  };
}
