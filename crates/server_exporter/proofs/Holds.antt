-- What holds while Changes are decided holds after each decision.
use Rattle.std.proofs.Common.{◌≡◌, ◌≤◌, ◌<◌, ℕ, Bool, true, false, List, [], ◌∷◌, ◌++◌, Option, None, Some, inl, inr}
use Rattle.std.proofs.Common.{length, refl, sym, ◌∙◌, ap, subst, arith}
use Rattle.std.specs.Prelude.{All, if◌then◌else◌, remove}
use Rattle.std.proofs.lemmas.Bool.{false≢true}
use Rattle.std.proofs.lemmas.List.Elements.{All-head, All-tail}
use Rattle.base_types.specs.declared.ids.FilesetId.{FilesetId}
use Rattle.base_types.specs.declared.ids.HostId.{HostId}
use Rattle.base_types.specs.declared.ids.ServerId.{ServerId}
use Rattle.base_types.specs.declared.limits.TheConstants.{NEEDS_MAX}
use Rattle.tree_answers.specs.Answers.{answer_to}
use Rattle.tree_answers.specs.declared.tree.Tree.{Tree}
use Rattle.tree_calls.specs.declared.call.Call.{Call}
use Rattle.tree_calls.specs.declared.call.Call.TheVariants.{Lock, OpenFile}
use Rattle.tree_calls.specs.declared.reply.Refusal.{Refusal}
use Rattle.tree_calls.specs.declared.reply.Reply.{Reply}
use Rattle.tree_calls.specs.declared.reply.Reply.TheVariants.{Ok as Accepted, Refused}
use Rattle.tree_calls.specs.declared.roster.Roster.{Roster}
use Rattle.token_manager.specs.Managers.{after_enqueue}
use Rattle.token_manager.specs.declared.grants.Grants.{Grants}
use Rattle.token_types.specs.declared.token.Need.{Need}
use Rattle.message_types.specs.Soundness.{IsCall, IsHost}
use Rattle.message_types.specs.declared.asking.Change.{Change as ChangeOf}
use Rattle.message_types.specs.declared.message.Message.{Message}
use Rattle.server_decides.proofs.Homes.{homes_after}
use Rattle.server_decides.specs.Changes.{are_home}
use Rattle.run_rules.specs.Doings.{Doing, NoGrace, after_cause, sending}
use Rattle.run_rules.specs.Doings.Doing.{MakesWant}
use Rattle.run_rules.specs.Kept.{filesets_through, is_refusal}
use Rattle.run_rules.specs.Past.{EachInTurn, In}
use Rattle.run_rules.specs.ServerDecides.{DecidedSo, IsAnew, kept_reply, refusal_of}
use Rattle.run_rules.specs.ServerDecides.DecidedSo.{IsRefusedByTable, MeetsPinned, TakesEffect}
use Rattle.run_rules.specs.Wants.{Decides, IsQueued, has_effect, row_needs}
use Rattle.run_rules.specs.declared.applied.Applied.{Applied}
use Rattle.run_rules.specs.declared.applied.Applied.TheVariants.{Done as IsDone, Wants as IsWanted}
use Rattle.run_rules.specs.declared.applied.Request.{Request}
use Rattle.run_rules.specs.declared.applied.Request.TheVariants.{Change as Changes, Fetch as Asks}
use Rattle.run_rules.specs.declared.applied.Wanted.{Wanted}
use Rattle.run_rules.specs.declared.applied.Written.{Written}
use Rattle.run_rules.specs.declared.step.Cause.{Cause}
use Rattle.store_acts.specs.Acts.{act_done}
use Rattle.store_acts.specs.Sound.{IsFor as IsForIt}
use Rattle.store_acts.specs.declared.act.Act.TheVariants.{Do, Refuse}
use Rattle.store_state.specs.Laws.{told_right}
use Rattle.store_state.specs.declared.state.StoreState.{StoreState}
use Rattle.server_decides.specs.Acting.{GivesBelow, KeepsSo, leaves_kept}
use Rattle.server_decides.proofs.Acting.{drafts_stand, left_same, through_more}
use Rattle.server_decides.proofs.Numbers.{numbers_stay}
use Rattle.server_decides.specs.Acts.{IsRepeatable, doing, next_number, numbered_at, refusing}
use Rattle.server_tables.specs.Gives.{last_give}
use Rattle.server_tables.specs.Listing.{no_grace}
use Rattle.server_tables.specs.Standing.{AnsweredStand, tokens_of, want_for}
use Rattle.server_tables.specs.Updates.{tokens_enqueued, unqueued}
use Rattle.server_tables.specs.declared.pending.Pending.{Pending}
use Rattle.server_tables.specs.declared.tables.Tables.{Tables}
use Rattle.server_tables.proofs.Alike.{want_inner}
use Rattle.server_tables.proofs.Carried.{answered_carried}
use Rattle.server_tables.proofs.Drafting.{wanted_more, wants_apart}
use Rattle.server_tables.proofs.Early.{IsEarly, each_grows, grows_inner}
use Rattle.server_tables.proofs.Greeting.{in_parts}
use Rattle.server_tables.proofs.Numbered.{in_removed}
use Rattle.server_decides.specs.Taking.{IsMadeOf, Made, want_made, wanted_for}
use Rattle.server_decides.specs.Draft.{Draft}
use Rattle.server_decides.specs.Writing.{written_made, written_of}
use Rattle.server_decides.specs.Deciding.{Decides as DecidesOne, HasEffect, IsDoneNow, IsDoing, IsDueOf, IsMadeBy}
use Rattle.server_decides.specs.Deciding.{IsPlaced}
use Rattle.server_decides.specs.Deciding.{IsRefusedNow, IsRefusing, anew_made, is_fresh, still_fresh}
use Rattle.server_decides.specs.declared.deciding.Decision.{Decision}
use Rattle.server_decides.specs.declared.deciding.Decision.TheVariants.{Anew, Do as DoIt, Refuse as RefuseIt}
use Rattle.server_decides.specs.Serving.{CameSo, IsServed}
use Rattle.server_decides.specs.Running.{Making, making}
use Rattle.server_exporter.proofs.DecidesAll.{anew_keeps, decided_end}
use Rattle.server_exporter.proofs.Decisions.{decided_by, said_by}
use Rattle.server_exporter.proofs.Doings.{accepted_is, done_again, done_stored, few_hosts, may_do_it, reply_is}
use Rattle.server_exporter.proofs.Epochs.{do_epoch, refuse_epoch}
use Rattle.server_exporter.proofs.Held.{IsHeld, IsStoredSo, answered_inner, written_held}
use Rattle.server_exporter.proofs.Making.{as_sent, change_home, words_back}
use Rattle.server_exporter.proofs.Reasons.{asks, its_user, why_anew, why_done, why_refused}
use Rattle.server_exporter.proofs.Rights.{low_refused}
use Rattle.server_decides.proofs.Served.{call_asks, came_in, decided_asks, effect_parts, host_asks, may_do, placed_in}
use Rattle.server_exporter.proofs.Stored.{refusal_again, refused_stored}

-- # The store

module _ (server : ServerId) (cause : Cause) (tree : Tree) (past : List Doing) (base : List Applied) where
  -- what leaves what is kept, and is no act of the store's
  pub stored_idle : (applied : List Applied) (a : Applied) (x y : Tables) (st : StoreState) → leaves_kept a ≡ true
      → last_give y.gives ≡ last_give x.gives → y.hosts.epoch ≡ x.hosts.epoch
      → IsStoredSo server cause tree past base applied x st
      → IsStoredSo server cause tree past base (applied ++ a ∷ []) y st
  stored_idle applied a x y st left gives epoch s = record {
    keeps = drafts_stand.idle cause tree applied st a left s.keeps;
    homes = subst (λ (t : Tree). are_home t ≡ true)
        (sym (through_more cause applied tree a
        ∙ left_same cause (filesets_through cause applied tree) a left)) s.homes;
    taken = subst (λ (f : HostId → FilesetId → ℕ). GivesBelow f st) (sym gives) s.taken;
    epoch = s.epoch ∙ sym epoch;
  }

  -- a Change that is refused
  pub stored_refused : (applied : List Applied) (x : Tables) (st next : StoreState) (host : HostId) (id : FilesetId)
      (r : Refusal) (v : Written) → v.answer.reply ≡ Refused r → IsHost st.roster host → told_right r < 64
      → (IsRepeatable st (refusing st host id r) → next ≡ (act_done st (refusing st host id r)).state)
      → IsStoredSo server cause tree past base applied x st
      → IsStoredSo server cause tree past base (applied ++ IsDone v ∷ []) x next
  stored_refused applied x st next host id r v reply known low stored s =
      let again = refusal_again st host id r s.keeps.keeps.storable.limits
      (few_hosts (filesets_through cause applied tree) st host s.keeps known) low in
      let n = next_number st host id in
      record {
        keeps = refused_stored cause tree applied st next host id r v s.keeps known reply again stored;
        homes = subst (λ (t : Tree). are_home t ≡ true)
            (sym (through_more cause applied tree (IsDone v)
            ∙ left_same cause (filesets_through cause applied tree) (IsDone v) (ap is_refusal reply))) s.homes;
        taken = subst (GivesBelow (last_give x.gives)) (sym (stored again))
            (numbers_stay.gives (last_give x.gives) n st (Refuse host id n r) (omega arith) s.taken);
        epoch = ap (λ (t : StoreState). t.epoch) (stored again) ∙ refuse_epoch st host n id r ∙ s.epoch;
      }

  -- and one that is done
  pub stored_done : (applied : List Applied) (x : Tables) (st next : StoreState) (host : HostId) (c : ChangeOf)
      (reply : Reply) → reply ≡ Accepted → next ≡ (act_done st (doing st host c.call)).state
      → KeepsSo cause tree (applied ++ IsDone (written_of host c reply) ∷ []) (act_done st (doing st host c.call)).state
      → are_home (answer_to (filesets_through cause applied tree) host c.call).tree ≡ true
      → IsStoredSo server cause tree past base applied x st
      → IsStoredSo server cause tree past base (applied ++ IsDone (written_of host c reply) ∷ []) x next
  stored_done applied x st next host c reply accepted stored keeps homes s =
      let n = next_number st host (numbered_at st c.call) in
      let v = written_of host c reply in
      let kept = filesets_through cause applied tree in
      record {
        keeps = subst (KeepsSo cause tree (applied ++ IsDone v ∷ [])) (sym stored) keeps;
        homes = subst (λ (t : Tree). are_home t ≡ true)
            (sym (through_more cause applied tree (IsDone v)
            ∙ ap (λ (r : Reply). if is_refusal r then kept else (answer_to kept host c.call).tree) accepted)) homes;
        taken = subst (GivesBelow (last_give x.gives)) (sym stored)
            (numbers_stay.gives (last_give x.gives) n st (Do host n c.call) (omega arith) s.taken);
        epoch = ap (λ (t : StoreState). t.epoch) stored ∙ do_epoch st host n c.call ∙ s.epoch;
      }

-- # A want is made anew

-- the tokens stay where a want is asked
pub same_grants : (x : Tables) (p : Pending) → (tokens_enqueued x p).grants ≡ x.tokens.grants
unfolding tokens_enqueued
same_grants x p = by (no_grace x.hosts)
  where
    by : (b : Bool) → (if b then after_enqueue x.tokens (want_for p) else x.tokens).grants ≡ x.tokens.grants
    by true = refl
    by false = refl

pub last_small : {A : Type 0} (P : A → Type 0) (xs : List A) (x : A) → All P (xs ++ x ∷ []) → P x
last_small P [] x a = All-head P x [] a
last_small P (y ∷ ys) x a = last_small P ys x (All-tail P y (ys ++ x ∷ []) a)

module _ (server : ServerId) (cause : Cause) (tree : Tree) (past : List Doing) (base : List Applied) (a : Making)
    (h : IsHeld server cause tree past base a) (at : ℕ) (p : Pending) (place : IsPlaced a.tables.pending at p)
    (c : ChangeOf) (is : p.wanted.request ≡ Changes c)
    (over : NoGrace (said_by server cause tree past a.draft)) where
  abbrev x : Tables
  x = a.tables

  abbrev d : Draft
  d = a.draft

  abbrev w : Wanted
  w = p.wanted

  abbrev kept : Tree
  kept = filesets_through cause d.applied tree

  abbrev said : List Doing
  said = said_by server cause tree past d

  abbrev decided : List Doing
  decided = decided_by server cause tree past d

  waits : IsQueued said w
  waits = h.deciding.stands.wants.pending p (placed_in x.pending at p place)

  module _ (needs : List Need) (enters : c.enter ≡ false) (needs_is : needs ≡ row_needs kept w.host c)
      (anew : IsAnew server kept said w (wanted_for w.host w.request needs)) where
    abbrev new : Wanted
    new = wanted_for w.host w.request needs

    abbrev out : Tables
    out = unqueued x at p.number

    abbrev both : Made
    both = want_made out d new

    grown_is : decided_by server cause tree past both.draft ≡ MakesWant new ∷ decided
    grown_is = decided_end (after_cause cause past) d.applied (IsWanted new) (MakesWant new) refl

    none_decides : (m : Message) → In m d.sent → Decides (as_sent m) new.host new.request → ⊥
    none_decides m i o = h.deciding.mute.decides m i w (words_back d.sent decided w waits) o

    answered_now : AnsweredStand (said_by server cause tree past both.draft) x.recovering.answers
    answered_now =
        answered_carried server (MakesWant new ∷ said) (said_by server cause tree past both.draft)
        (wanted_more server cause d.applied d.sent new past (wants_apart d.sent new none_decides))
        (answered_inner server said (MakesWant new) x.recovering.answers (want_inner new) (λ k ts q. cc) h.answered)

    early_now : EachInTurn (IsEarly server) (sending d.sent) (decided_by server cause tree past both.draft)
    early_now = subst (EachInTurn (IsEarly server) (sending d.sent)) (sym grown_is)
        (each_grows server decided (MakesWant new ∷ decided) (sending d.sent)
        (grows_inner server decided (MakesWant new) (want_inner new) (λ k e n b q. cc)) h.early)

    -- what enters wants nothing, and this one enters nothing
    enters_none : (q : Pending) (o : ChangeOf) → In q both.tables.pending → q.wanted.request ≡ Changes o
        → o.enter ≡ true → q.wanted.needs ≡ []
    enters_none q o i e t =
        elim (in_parts q (remove x.pending at) (record { number = x.next; wanted = new } ∷ []) i) [
          | inl j ↦ h.enters q o (in_removed x.pending at q j) e t
          | inr j ↦ absurd (its j)
        ]
      where
        its : In q (record { number = x.next; wanted = new } ∷ []) → ⊥
        its (inl f) =
            let r : Changes c ≡ Changes o =
            sym is ∙ sym (ap (λ (y : Pending). y.wanted.request) f) ∙ e in
            let s : c ≡ o = cc in
            false≢true (sym enters ∙ ap (λ (y : ChangeOf). y.enter) s ∙ t)
        its (inr k) = elim k [ ]

    held_wanted : IsServed both.tables a.state
        → IsHeld server cause tree past base (making both.tables both.draft a.state)
    held_wanted served =
        let few : length needs ≤ NEEDS_MAX =
        last_small (λ (q : Pending). length q.wanted.needs ≤ NEEDS_MAX) (remove x.pending at)
        (record { number = x.next; wanted = new }) served.counted.small in
        record {
          more = h.more ++ IsWanted new ∷ [];
          deciding = anew_keeps server cause tree past base h.more x d h.deciding h.served.counted.rising p c is over at
              place needs (λ e. anew.other e) few x.next anew
              (needs_is ∙ ap (λ (r : Request). needs_of r) (sym is));
          served = served;
          stored = stored_idle server cause tree past base d.applied (IsWanted new) x both.tables a.state refl refl refl
              h.stored;
          listed = h.listed;
          gives = h.gives;
          changes = h.changes;
          enters = enters_none;
          tokens = λ t i. h.tokens t
              (subst (λ (g : Grants). In t (tokens_of g))
              (same_grants out (record { number = x.next; wanted = new })) i);
          answered = answered_now;
          early = early_now;
          once = h.once;
          waits = h.waits;
          told = h.told;
        }
      where
        needs_of : Request → List Need
        needs_of (Asks f) = f.needs
        needs_of (Changes o) = row_needs kept w.host o

    pub anew_held : (y : Tables) (e : Draft) (next : StoreState)
        → IsMadeOf out d y e (anew_made out d p needs) → next ≡ a.state → IsServed y next
        → IsHeld server cause tree past base (making y e next)
    anew_held y e next made same served =
        subst (λ (m : Making). IsHeld server cause tree past base m)
        (λ i. making (sym made.tables i) (sym made.draft i) (sym same i))
        (fresh d.fresh (held_wanted (subst (λ (q : Tables × StoreState). IsServed q.0 q.1)
        (λ i. (made.tables i, same i)) served)))
      where
        fresh : (f : Option ℕ) → IsHeld server cause tree past base (making both.tables both.draft a.state)
            → IsHeld server cause tree past base (making both.tables (still_fresh f p.number both.draft) a.state)
        fresh f g = by (is_fresh f p.number)
          where
            by : (b : Bool) → IsHeld server cause tree past base (making both.tables
                (if b then both.draft else record both.draft { fresh = f }) a.state)
            by true = g
            by false = record {
              more = g.more;
              deciding = record {
                server_is = g.deciding.server_is;
                applied = g.deciding.applied;
                admitted = g.deciding.admitted;
                stands = g.deciding.stands;
                mute = g.deciding.mute;
                none = g.deciding.none;
                all = g.deciding.all;
                writes = g.deciding.writes;
                may = g.deciding.may;
              };
              served = g.served;
              stored = g.stored;
              listed = g.listed;
              gives = g.gives;
              changes = g.changes;
              enters = g.enters;
              tokens = g.tokens;
              answered = g.answered;
              early = g.early;
              once = g.once;
              waits = g.waits;
              told = g.told;
            }

-- # Each decision

low_pinned : (call : Call) → told_right (refusal_of call) < 64
low_pinned (Lock label place writing from len) = omega arith
low_pinned (OpenFile label place kind) = omega arith
low_pinned _ = omega arith

module _ (server : ServerId) (cause : Cause) (tree : Tree) (past : List Doing) (base : List Applied) (a b : Making)
    (h : IsHeld server cause tree past base a) (s : DecidesOne a b) where
  abbrev x_a : Tables
  x_a = a.tables

  abbrev d_a : Draft
  d_a = a.draft

  abbrev p : Pending
  p = s.p

  abbrev w_a : Wanted
  w_a = p.wanted

  abbrev kept_a : Tree
  kept_a = filesets_through cause d_a.applied tree

  abbrev said_a : List Doing
  said_a = said_by server cause tree past d_a

  i : In p x_a.pending
  i = placed_in x_a.pending s.due.at p s.place

  came : CameSo x_a.server x_a.roster w_a
  came = came_in x_a a.state h.served p i

  known : IsHost a.state.roster w_a.host
  known = subst (λ (r : Roster). IsHost r w_a.host) (sym h.served.store.roster)
      (host_asks x_a.server x_a.roster w_a came)

  -- of a Change
  module _ (c : ChangeOf) (is : w_a.request ≡ Changes c) where
    refused : (r : Refusal) → IsDueOf x_a a.state p (is_fresh d_a.fresh p.number) (Some (RefuseIt r)) w_a.request
        → IsRefusedNow (unqueued x_a s.due.at p.number) d_a a.state w_a.host c r b.tables b.draft b.state
        → IsHeld server cause tree past base b
    refused r due now =
        let why = why_refused said_a x_a a.state kept_a h.deciding.stands h.served h.stored.keeps p i c is
        (is_fresh d_a.fresh p.number) r due in
        let so : DecidedSo server kept_a said_a w_a c (Refused r) =
        subst (λ (v : ServerId). DecidedSo v kept_a said_a w_a c (Refused r)) h.deciding.server_is why.1 in
        let made = written_made (unqueued x_a s.due.at p.number) d_a w_a.host c (Refused r) in
        subst (λ (m : Making). IsHeld server cause tree past base m)
        (λ j. making (sym now.both.tables j) (sym now.both.draft j) b.state)
        (written_held server cause tree past base a h s.due.at p s.place c is why.0 (Refused r) so b.state
        (subst (λ (y : Tables). IsServed y b.state) now.both.tables s.served)
        (stored_refused server cause tree past base d_a.applied made.tables a.state b.state w_a.host c.fileset r
        (written_of w_a.host c (Refused r)) refl known (low why.1) now.stored (record {
          keeps = h.stored.keeps;
          homes = h.stored.homes;
          taken = h.stored.taken;
          epoch = h.stored.epoch;
        })))
      where
        same : (q : Refusal) → Refused r ≡ Refused q → q ≡ r
        same q e = cc

        low : DecidedSo x_a.server kept_a said_a w_a c (Refused r) → told_right r < 64
        low (IsRefusedByTable q on e) = subst (λ (o : Refusal). told_right o < 64) (same q e)
            (low_refused kept_a w_a.host x_a.server c q (decided_asks x_a.server x_a.roster w_a came c is) on)
        low (MeetsPinned o row can e) = subst (λ (q : Refusal). told_right q < 64) (same (refusal_of c.call) e)
            (low_pinned c.call)
        low (TakesEffect effect row can e) =
            low_refused kept_a w_a.host x_a.server c r (decided_asks x_a.server x_a.roster w_a came c is) (
              sym e,
              λ t. absurd (false≢true (sym (effect_parts c effect).0 ∙ t)),
              λ t. absurd (false≢true (sym (effect_parts c effect).2 ∙ t)),
            )

    done : IsDueOf x_a a.state p (is_fresh d_a.fresh p.number) (Some DoIt) w_a.request
        → IsDoneNow (unqueued x_a s.due.at p.number) d_a a.state w_a.host c b.tables b.draft b.state
        → IsHeld server cause tree past base b
    done due now =
        let why = why_done said_a x_a a.state kept_a h.deciding.stands h.served h.stored.keeps p i c is
        (is_fresh d_a.fresh p.number) due in
        let effect = why.1 in
        let f = effect_parts c effect in
        let its = its_user said_a x_a a.state kept_a h.deciding.stands h.served h.stored.keeps p i c is in
        let asked = asks said_a x_a a.state kept_a h.deciding.stands h.served h.stored.keeps p i c is in
        let may = may_do x_a.server x_a.roster w_a came c is (subst HasEffect (sym is) effect) in
        let for_it = subst (λ (v : ServerId). IsForIt v c.call) (sym h.served.store.server) may.1 in
        let call = subst (λ (r : Roster). IsCall r c.call) (sym h.served.store.roster)
        (call_asks x_a.server x_a.roster w_a came c is) in
        let again = done_again kept_a a.state w_a.host its.0 c asked why.2 f.0 may.0 f.2 known call for_it now.named in
        let accepted = accepted_is kept_a a.state w_a.host its.0 c asked why.2 f.0 may.0 f.2 known call for_it now.named
        in
        let reply : now.reply ≡ kept_reply kept_a w_a.host c.call = now.replied again
        ∙ reply_is kept_a a.state w_a.host its.0 c asked why.2 f.0 may.0 f.2 known call for_it now.named in
        let so : DecidedSo server kept_a said_a w_a c now.reply =
        subst (λ (v : ServerId). DecidedSo v kept_a said_a w_a c now.reply) h.deciding.server_is
        (TakesEffect effect why.3 why.4 reply) in
        let made = written_made (unqueued x_a s.due.at p.number) d_a w_a.host c now.reply in
        subst (λ (m : Making). IsHeld server cause tree past base m)
        (λ j. making (sym now.both.tables j) (sym now.both.draft j) b.state)
        (written_held server cause tree past base a h s.due.at p s.place c is why.0 now.reply so b.state
        (subst (λ (y : Tables). IsServed y b.state) now.both.tables s.served)
        (stored_done server cause tree past base d_a.applied made.tables a.state b.state w_a.host c now.reply
        (reply ∙ accepted) (now.stored again)
        (done_stored cause tree d_a.applied a.state (written_of w_a.host c now.reply) h.stored.keeps
        (may_do_it kept_a a.state w_a.host its.0 c asked why.2 f.0 may.0 f.2 known call for_it now.named)
        (ap is_refusal (reply ∙ accepted)))
        (homes_after kept_a h.stored.homes w_a.host c.call f.2) (record {
          keeps = h.stored.keeps;
          homes = h.stored.homes;
          taken = h.stored.taken;
          epoch = h.stored.epoch;
        })))

    anew : (needs : List Need)
        → IsDueOf x_a a.state p (is_fresh d_a.fresh p.number) (Some (Anew needs)) w_a.request
        → IsMadeOf (unqueued x_a s.due.at p.number) d_a b.tables b.draft
        (anew_made (unqueued x_a s.due.at p.number) d_a p needs)
        → b.state ≡ a.state → IsHeld server cause tree past base b
    anew needs due made same =
        let why = why_anew said_a x_a a.state kept_a h.deciding.stands h.served h.stored.keeps p i c is
        (is_fresh d_a.fresh p.number) needs due in
        let home : w_a.moves ≡ 0 = change_home said_a x_a h.deciding.stands w_a
        (h.deciding.stands.wants.pending p i) c is in
        let so : IsAnew server kept_a said_a w_a (wanted_for w_a.host w_a.request needs) =
        subst (λ (n : ℕ). IsAnew server kept_a said_a w_a
        (record { host = w_a.host; request = w_a.request; moves = n; needs = needs })) home
        (subst (λ (v : ServerId). IsAnew v kept_a said_a w_a
        (record w_a { needs = needs })) h.deciding.server_is why.2) in
        anew_held server cause tree past base a h s.due.at p s.place c is why.0 needs
        (effect_parts c (its_effect why.2)).0 why.1 so b.tables b.draft b.state made same s.served
      where
        its_effect : IsAnew x_a.server kept_a said_a w_a (record w_a { needs = needs }) → has_effect c ≡ true
        its_effect v =
            let e : Changes v.change ≡ Changes c = sym v.request ∙ is in
            let q : v.change ≡ c = cc in
            ap has_effect (sym q) ∙ v.effect

    by_decision : (dec : Decision) → s.due.decision ≡ dec → IsHeld server cause tree past base b
    by_decision dec e =
        by dec (subst (λ (o : Decision). IsDueOf x_a a.state p (is_fresh d_a.fresh p.number)
        (Some o) w_a.request) e s.is)
        (subst (IsMadeBy (unqueued x_a s.due.at p.number) d_a a.state p b.tables b.draft b.state) e s.so)
      where
        by : (dec : Decision) → IsDueOf x_a a.state p (is_fresh d_a.fresh p.number) (Some dec) w_a.request
            → IsMadeBy (unqueued x_a s.due.at p.number) d_a a.state p b.tables b.draft b.state dec
            → IsHeld server cause tree past base b
        by (RefuseIt r) due so = refused r due
            (subst (IsRefusing (unqueued x_a s.due.at p.number) d_a a.state w_a.host r b.tables b.draft b.state) is so)
        by DoIt due so = done due
            (subst (IsDoing (unqueued x_a s.due.at p.number) d_a a.state w_a.host b.tables b.draft b.state) is so)
        by (Anew needs) due so = anew needs due so.0 so.1

  pub decides_held : IsHeld server cause tree past base b
  decides_held = by w_a.request refl
    where
      by : (r : Request) → w_a.request ≡ r → IsHeld server cause tree past base b
      by (Changes c) is = by_decision c is s.due.decision refl
      by (Asks f) is = absurd (let e : Some s.due.decision ≡ None =
          subst (IsDueOf x_a a.state p (is_fresh d_a.fresh p.number) (Some s.due.decision)) is s.is in cc)
