-- The start of a step by which a host comes on the list, goes down, or ends.
use Rattle.std.proofs.Common.{◌≡◌, ◌⊎◌, ◌==◌, ℕ, true, false, not, List, [], ◌∷◌, ◌++◌, Option, inl, inr, refl, sym}
use Rattle.std.proofs.Common.{◌∙◌}
use Rattle.std.proofs.Common.{ap, subst, if◌then◌else◌}
use Rattle.std.specs.Prelude.{IfSome, Bool, filter}
use Rattle.base_types.specs.declared.ids.FilesetId.{FilesetId}
use Rattle.base_types.specs.declared.ids.HostId.{HostId}
use Rattle.server_tables.specs.Places.{is_of}
use Rattle.base_types.specs.declared.ids.ServerId.{ServerId}
use Rattle.tree_answers.specs.declared.tree.Tree.{Tree}
use Rattle.token_manager.specs.Laws.{IsNoted, KeepsLaws}
use Rattle.token_table.specs.Marks.{note_at}
use Rattle.token_table.specs.declared.notes.Note.{Note}
use Rattle.token_types.specs.declared.token.Token.{Token}
use Rattle.message_types.specs.Soundness.{IsHost}
use Rattle.message_types.specs.declared.giving.Reclaim.{Reclaim as ReclaimOf}
use Rattle.message_types.specs.declared.message.Body.{Body}
use Rattle.message_types.specs.declared.message.Body.TheVariants.{Bye, Down, Hello, Reclaim, Reclaimed}
use Rattle.message_types.specs.declared.message.Message.{Message}
use Rattle.run_rules.specs.Doings.{Doing, GoesAway, Granted, HasGoneDown, HasReclaimed, IsLive, Listed, deciding}
use Rattle.run_rules.specs.Doings.{SentTo, TookNow, epoch}
use Rattle.run_rules.specs.Doings.Doing.{Sent, Took}
use Rattle.run_rules.specs.Past.{EachOnce, In}
use Rattle.run_rules.specs.ServerDue.{empty_reclaimed}
use Rattle.run_rules.specs.Wants.{IsQueued, exporter}
use Rattle.run_rules.specs.declared.applied.Applied.{Applied}
use Rattle.run_rules.specs.declared.applied.Applied.TheVariants.{Done as IsDone, IsDown as GoesDown}
use Rattle.run_rules.specs.declared.applied.Wanted.{Wanted}
use Rattle.run_rules.specs.declared.applied.Written.{Written}
use Rattle.run_rules.specs.declared.step.Cause.{Cause}
use Rattle.run_rules.specs.declared.step.Cause.TheVariants.{Message as Came}
use Rattle.server_decides.specs.StoreKeeping.{StandsFor}
use Rattle.store_acts.specs.Acts.{act_done}
use Rattle.store_acts.specs.declared.act.Act.TheVariants.{Host}
use Rattle.store_state.specs.declared.state.HostState.{HostState}
use Rattle.store_state.specs.declared.state.HostState.TheVariants.{Ended, IsDown, Live}
use Rattle.store_state.specs.declared.state.StoreState.{StoreState}
use Rattle.server_decides.specs.Acting.{GivesBelow}
use Rattle.server_decides.proofs.Acting.{drafts_stand}
use Rattle.server_decides.proofs.Numbers.{numbers_stay}
use Rattle.server_decides.specs.Acts.{host_noted}
use Rattle.server_tables.specs.Gives.{last_give, AreLast}
use Rattle.server_tables.specs.Greetings.{welcoming}
use Rattle.server_tables.specs.Listing.{leaving, stopping, has_host}
use Rattle.server_tables.specs.Standing.{AnsweredStand, Stands, TokensStand, tokens_of}
use Rattle.server_tables.specs.Steps.{to_host}
use Rattle.server_tables.specs.Updates.{gone_away, wants_left}
use Rattle.server_tables.specs.declared.hosts.Hosts.{Hosts}
use Rattle.server_tables.specs.declared.pending.Pending.{Pending}
use Rattle.server_tables.specs.declared.recovering.Answered.{Answered}
use Rattle.server_tables.specs.declared.recovering.Claimed.{Claimed}
use Rattle.server_tables.specs.declared.tables.Tables.{Tables}
use Rattle.server_tables.proofs.Departing.{answered_bye, answered_down, differs, stands_bye, stands_down}
use Rattle.server_tables.proofs.Dropping.{down_away}
use Rattle.server_tables.proofs.Greeting.{goes, hosts_listed, in_end, in_front, in_parts, light}
use Rattle.server_tables.proofs.Idle.{light_answers, light_calm, light_tells, light_tokens, light_wants}
use Rattle.server_tables.proofs.Leaving.{reclaimed_back as left_reclaimed}
use Rattle.server_tables.proofs.Linking.{AreOwned}
use Rattle.server_tables.proofs.Numbered.{Rise}
use Rattle.server_tables.proofs.Still.{HostsCalm, live_still, reclaimed_was, took_listed}
use Rattle.server_tables.proofs.Without.{in_filter}
use Rattle.server_decides.specs.Drafts.{no_draft, word}
use Rattle.server_decides.specs.Running.{making}
use Rattle.server_decides.specs.Serving.{IsServed}
use Rattle.server_exporter.specs.Machines.{IsAt, Keeps}
use Rattle.server_exporter.specs.declared.exporter.Exporter.{Exporter}
use Rattle.server_exporter.proofs.Calls.{all_at}
use Rattle.server_exporter.proofs.Doings.{few_hosts}
use Rattle.server_exporter.proofs.Ending.{no_exporter}
use Rattle.server_exporter.proofs.Greets.{bye_blank, bye_word, took_is, welcome_blank, welcome_word}
use Rattle.server_exporter.proofs.Onsets.{HasBegun}
use Rattle.server_exporter.proofs.Openings.{IsOnset, begins, none_said, one_said, word_said}
use Rattle.server_exporter.proofs.Replies.{TakesNone, caused, caused_down, none_new, says_bye, says_none, says_welcome}
use Rattle.server_exporter.proofs.Replies.{taken_m}
use Rattle.server_tables.specs.Answers.{AreLastChanges}
use Rattle.server_tables.specs.declared.tables.LastGive.{LastGive}
use Rattle.tree_calls.specs.declared.roster.Roster.{Roster}
use Rattle.server_decides.specs.Changes.{are_home}
use Rattle.server_tables.proofs.Still.{changes_still, claims_of, dones_of, gives_still, queue_still, recovery_still}
use Rattle.server_tables.proofs.Still.{stamps_still, tokens_still, waits_back, wants_still}
use Rattle.run_rules.specs.Kept.{filesets_through}

-- # What the store notes of a host

pub host_keeps : (cause : Cause) (tree : Tree) (st : StoreState) (h : HostId) (known : HostState)
    → IsHost st.roster h → StandsFor tree st → StandsFor tree (host_noted st h known)
unfolding act_done
host_keeps cause tree st h known declared k = drafts_stand.host cause tree [] st h known k declared

pub host_below : (last : HostId → FilesetId → ℕ) (st : StoreState) (h : HostId) (known : HostState) → GivesBelow last st
    → GivesBelow last (host_noted st h known)
unfolding act_done
host_below last st h known k = numbers_stay.gives last 0 st (Host h known) tt k

-- # What is noted of tokens is their hosts'

pub owned : (x : Tables) (past : List Doing) → KeepsLaws x.tokens → TokensStand past x.server x.tokens.grants
    → AreOwned x.tokens.grants
unfolding KeepsLaws
owned x past laws s = record {
  noted = s.noted;
  hosts = λ t note i e. its_host t note (subst
      (λ (o : Option Note). IfSome o (IsNoted x.tokens.latest x.tokens.queue t)) e
      (all_at (λ (u : Token). IfSome (note_at x.tokens.grants.notes u.id) (IsNoted x.tokens.latest x.tokens.queue u))
      (tokens_of x.tokens.grants) laws.noted t i));
}
  where
    its_host : (t : Token) (note : Note) → IsNoted x.tokens.latest x.tokens.queue t note → note.host ≡ t.host
    its_host t note n = n.host

-- # A host comes on the list

once_last : (hs : List HostId) (h : HostId) → EachOnce hs → (In h hs → ⊥) → EachOnce (hs ++ h ∷ [])
once_last [] h o new = ((λ i. i), tt)
once_last (k ∷ hs) h o new = (
  (λ i. elim (in_parts k hs (h ∷ []) i) [
    | inl j ↦ o.0 j
    | inr j ↦ elim j [ inl e ↦ new (inl (sym e)) | inr n ↦ n ]
  ]),
  once_last hs h o.1 (λ i. new (inr i)),
)

module _ (tree : Tree) (past : List Doing) (x : Exporter) (z : IsAt past tree x) (m : Message) (st : StoreState)
    (k : Keeps x.tables tree st) (new : Listed past m.host → ⊥) (up : HasGoneDown past m.host → ⊥)
    (declared : IsHost x.tables.roster m.host) (same : st.roster ≡ x.tables.roster)
    (served : IsServed (welcoming x.tables m.host) (host_noted st m.host Live)) where
  abbrev t : Tables
  t = x.tables

  abbrev y : Tables
  y = welcoming t m.host

  -- the message, as it is known
  abbrev o : Message
  o = record m { body = Hello }

  abbrev had : Doing
  had = Took m.host m.epoch m.moves Hello

  abbrev now : List Doing
  now = had ∷ past

  abbrev w : Message
  w = word y m.host (Reclaimed empty_reclaimed)

  waiting : (v : Wanted) → IsQueued past v → GoesAway past had v.host → ⊥
  waiting v u g = (z.tables.wants.live v u).1 (goes past m.host m.epoch m.moves new up v.host g)

  calm : HostsCalm past had
  calm = light_calm t.server t.stamp past m.host m.epoch m.moves Hello (light past m.host m.epoch m.moves new up)
      waiting

  stands_had : Stands now y
  stands_had =
      let s = z.tables in
      let l = light past m.host m.epoch m.moves new up in
      let n = light_tokens t.server t.stamp past m.host m.epoch m.moves Hello l waiting in
      let v = light_wants t.server t.stamp past m.host m.epoch m.moves Hello l waiting in
      let a = light_answers t.server t.stamp past m.host m.epoch m.moves Hello l waiting in
      record {
        slots = s.slots;
        hosts = hosts_listed past m.host m.epoch m.moves new up t.hosts s.hosts;
        tokens = tokens_still past had calm t.server n s.tokens;
        stamps = stamps_still past had calm t.server n
            (light_tells t.server t.stamp past m.host m.epoch m.moves Hello l waiting) s.stamps;
        wants = wants_still past had calm t.server v s.wants;
        queue = queue_still past had calm s.queue;
        gives = gives_still past had calm t.server (claims_of t.server past had a) s.gives;
        changes = changes_still past had calm (dones_of t.server past had a)
            (waits_back past had calm t.server v) s.changes;
        recovery = recovery_still past had calm t.server (claims_of t.server past had a) n.names s.recovery;
      }

  is_new : (h : HostId) → HasReclaimed now h → (h ≡ m.host) ⊎ HasReclaimed past h
  is_new h (inl p) = elim p [
    | inl q ↦ absurd (let r = q.1 in cc)
    | inr q ↦ elim q.0 [
      | inl r ↦ inl (sym (took_is past o h r.0.0 r.0.1 Hello r.0.2).0)
      | inr r ↦ absurd (q.1 r)
    ]
  ]
  is_new h (inr p) = inr p.0

  said_new : (h : HostId) → HasReclaimed (Sent w.host w.epoch w.moves w.body ∷ now) h → HasReclaimed now h
  said_new h (inl p) = absurd (elim p [
    | inl q ↦ (let r = q.1 in cc)
    | inr q ↦ elim q.0 [ inl r ↦ (let n = r.0.2 in cc) | inr r ↦ q.1 r ]
  ])
  said_new h (inr p) = p.0

  abbrev entry : Answered
  entry = record { host = m.host; answer = empty_reclaimed }

  answered_had : AnsweredStand (Sent w.host w.epoch w.moves w.body ∷ now) y.recovering.answers
  answered_had = record {
    answers_all = λ h r. elim (is_new h (said_new h r)) [
      | inl e ↦ (entry, in_end entry t.recovering.answers, sym e)
      | inr p ↦ (let q = z.answered.answers_all h p in
          (q.0, in_front q.0 t.recovering.answers (entry ∷ []) q.1, q.2))
    ];
    answered = λ a i. elim (in_parts a t.recovering.answers (entry ∷ []) i) [
      | inl p ↦ (let q = z.answered.answered a p in (q.0, inr (inr q.1)))
      | inr p ↦ elim p [
        | inl e ↦ (
          0,
          subst (λ (b : Answered). SentTo (Sent w.host w.epoch w.moves w.body ∷ now) b.host (epoch past) 0
              (Reclaimed b.answer)) (sym e)
              (inl (ap (λ (n : ℕ). Sent m.host n 0 (Reclaimed empty_reclaimed)) z.tables.hosts.epoch_is)),
        )
        | inr n ↦ absurd n
      ]
    ];
  }

  reclaimed_had : HasReclaimed now m.host
  reclaimed_had = inl (inr (inl ((m.epoch, m.moves, refl), new, up), new))

  none_had : TakesNone t.server tree past o
  none_had s e h n b q = inl (sym (taken_m past o s e h n b q).3)

  never_had : (h : HostId) (n : ℕ) (claim : ReclaimOf) → TookNow now h n (Reclaim claim)
      → (HasReclaimed past h → ⊥) → HasReclaimed now h → ⊥
  never_had h n claim (inl p) never r = let q = (took_is past o h (epoch past) n (Reclaim claim) p.0).3 in cc
  never_had h n claim (inr p) never r =
      never (reclaimed_was past had calm h (took_listed past h n (Reclaim claim) p.0) r)

  onset_had : IsOnset t.server tree past o [] y (host_noted st m.host Live)
  onset_had = record {
    server_is = refl;
    none = refl;
    undone = λ v i. elim i [ ];
    served = served;
    keeps = host_keeps (Came o) tree st m.host Live
        (subst (λ (r : Roster). IsHost r m.host) (sym same) declared) k.stands;
    kept_homes = k.homes;
    below = host_below (last_give t.gives) st m.host Live k.taken;
    epoch = k.epoch;
    listed = once_last t.hosts.listed m.host z.once (λ i. new (z.tables.hosts.listed m.host i));
    known = λ h i. elim (in_parts h t.hosts.listed (m.host ∷ []) i) [
      | inl j ↦ z.known h j
      | inr j ↦ elim j [ inl e ↦ subst (IsHost t.roster) (sym e) declared | inr n ↦ absurd n ]
    ];
    gives = z.gives;
    changes = z.changes;
    enters = z.enters;
    tokens = z.homes;
    waits = λ c i. (let v = z.claims c i in (
      (λ r. v.0 (reclaimed_was past had calm c.host v.1.0 r)),
      live_still past had calm c.host v.1,
    ));
    queued = z.tables.wants.pending;
  }

  begins_o : HasBegun t.server (Came o) tree past
      (making y (record no_draft { sent = word t m.host (Reclaimed empty_reclaimed) ∷ [] }) (host_noted st m.host Live))
  begins_o =
      begins t.server tree past o [] y (host_noted st m.host Live) (w ∷ []) onset_had
      (word_said t.server now y stands_had m.host (Reclaimed empty_reclaimed) welcome_blank
      (welcome_word t.server now m.host) (λ r e. inl reclaimed_had) answered_had)
      (caused t.server tree past o none_had (w ∷ [])
      (says_welcome t.server tree past o none_had w refl refl refl up (inl (λ l. new l.0))) (λ e. absurd (cc))
      never_had) z.told (none_new t.server tree past o none_had)

  pub hello_opens : m.body ≡ Hello → HasBegun t.server (Came m) tree past
      (making y (record no_draft { sent = word t m.host (Reclaimed empty_reclaimed) ∷ [] }) (host_noted st m.host Live))
  hello_opens is = subst (λ (n : Message). HasBegun t.server (Came n) tree past (making y
      (record no_draft { sent = word t m.host (Reclaimed empty_reclaimed) ∷ [] }) (host_noted st m.host Live)))
      (λ i. record m { body = sym is i }) begins_o

-- # A host goes away

leaving_listed : (hs : Hosts) (h : HostId) → ((leaving hs h).listed ≡ hs.listed) × ((leaving hs h).epoch ≡ hs.epoch)
unfolding leaving
leaving_listed hs h = by (has_host hs.away h)
  where
    by : (b : Bool) → ((if b then hs else record hs { away = hs.away ++ h ∷ [] }).listed ≡ hs.listed)
        × ((if b then hs else record hs { away = hs.away ++ h ∷ [] }).epoch ≡ hs.epoch)
    by true = (refl, refl)
    by false = (refl, refl)

module _ (tree : Tree) (past : List Doing) (x : Exporter) (z : IsAt past tree x) (m : Message) (st next : StoreState)
    (k : Keeps x.tables tree st) (b : Body)
    (kind : (b ≡ Down) ⊎ ((b ≡ Bye) × (m.epoch ≡ epoch past) × Listed past m.host × (HasGoneDown past m.host → ⊥)))
    (base : List Applied) (y : Tables) where
  abbrev go : Doing
  go = Took m.host m.epoch m.moves b

  abbrev gone : List Doing
  gone = go ∷ past

  abbrev turned : Message
  turned = record m { body = b }

  -- what is left of the tables
  pub record IsLeft : Type 0 where
    pub stands : Stands gone y
    pub answered : AnsweredStand gone y.recovering.answers
    pub server : y.server ≡ x.tables.server
    pub roster : y.roster ≡ x.tables.roster
    pub listed : y.hosts.listed ≡ x.tables.hosts.listed
    pub epoch : y.hosts.epoch ≡ x.tables.hosts.epoch
    pub gives : y.gives ≡ x.tables.gives
    pub changes : y.changes ≡ x.tables.changes
    pub pending : y.pending ≡ wants_left x.tables.pending m.host
    pub claims : y.recovering.claims
        ≡ filter (λ (c : Claimed). not (c.host.0 == m.host.0)) x.tables.recovering.claims
    pub none : deciding base ≡ []
    pub undone : (v : Written) → In (IsDone v) base → ⊥
    pub served : IsServed y next
    pub keeps : StandsFor (filesets_through (Came turned) base tree) next
    pub kept_homes : are_home (filesets_through (Came turned) base tree) ≡ true
    pub below : GivesBelow (last_give x.tables.gives) next
    pub same : next.epoch ≡ st.epoch

  went : (h : HostId) → GoesAway past go h → m.host ≡ h
  went h (inl f) = (took_is past turned h f.0 f.1 Down f.2).0
  went h (inr f) = (took_is past turned h (epoch past) f.0.0 Bye f.0.1).0

  live_other : (h : HostId) → (h ≡ m.host → ⊥) → IsLive past h → IsLive gone h
  live_other h other l = (inr l.0, λ q. elim q [ inl g ↦ other (sym (went h g)) | inr g ↦ l.1 g ])

  granted_was : (u : Token) → Granted x.tables.server gone u → Granted x.tables.server past u
  granted_was u (inl (inl p)) = absurd (elim p.1.3 [ inl q ↦ (let v = q.1 in cc) | inr q ↦ (let v = q.1 in cc) ])
  granted_was u (inl (inr p)) = absurd (let q = p.1 in cc)
  granted_was u (inr p) = p.0

  left_onset : IsLeft → IsOnset x.tables.server tree past turned base y next
  left_onset l = record {
    server_is = l.server;
    none = l.none;
    undone = l.undone;
    served = l.served;
    keeps = l.keeps;
    kept_homes = l.kept_homes;
    below = subst (λ (g : List LastGive). GivesBelow (last_give g) next) (sym l.gives) l.below;
    epoch = l.same ∙ k.epoch ∙ sym l.epoch;
    listed = subst EachOnce (sym l.listed) z.once;
    known = λ h i. subst (λ (r : Roster). IsHost r h) (sym l.roster) (z.known h (subst (In h) l.listed i));
    gives = subst AreLast (sym l.gives) z.gives;
    changes = subst AreLastChanges (sym l.changes) z.changes;
    enters = λ p c i. z.enters p c (was_pending p i);
    tokens = λ u i. subst (λ (v : ServerId). is_of v u.fid.fileset ≡ true) (sym l.server)
        (z.homes u (z.tables.tokens.granted_all u (granted_was u (subst (λ (v : ServerId). Granted v gone u) l.server
        (l.stands.tokens.granted u i)))));
    waits = λ c i. (let f = in_filter (λ (q : Claimed). not (q.host.0 == m.host.0)) c x.tables.recovering.claims
        (subst (In c) l.claims i) in
        let v = z.claims c f.0 in (
          (λ r. v.0 (left_reclaimed past x.tables.server m.host m.epoch m.moves b kind c.host r)),
          live_other c.host (differs c.host m.host f.1) v.1,
        ));
    queued = λ p i. z.tables.wants.pending p (was_pending p i);
  }
    where
      was_pending : (p : Pending) → In p y.pending → In p x.tables.pending
      was_pending p i = (in_filter (λ (q : Pending). not (q.wanted.host.0 == m.host.0)) p x.tables.pending
          (subst (In p) l.pending i)).0

  left_never : (h : HostId) (n : ℕ) (claim : ReclaimOf) → TookNow gone h n (Reclaim claim)
      → (HasReclaimed past h → ⊥) → HasReclaimed gone h → ⊥
  left_never h n claim took never r =
      never (left_reclaimed past x.tables.server m.host m.epoch m.moves b kind h r)

-- It goes down.
module _ (tree : Tree) (past : List Doing) (x : Exporter) (z : IsAt past tree x) (m : Message) (st : StoreState)
    (k : Keeps x.tables tree st) (rise : Rise x.tables.pending) (laws : KeepsLaws x.tables.tokens)
    (declared : IsHost x.tables.roster m.host) (same : st.roster ≡ x.tables.roster) where
  not_own : m.host ≡ exporter → ⊥
  not_own = no_exporter m.host
      (few_hosts tree st m.host k.stands (subst (λ (r : Roster). IsHost r m.host) (sym same) declared))

  its_notes : AreOwned x.tables.tokens.grants
  its_notes = owned x.tables past laws z.tables.tokens

  module _ (up : HasGoneDown past m.host → ⊥)
      (served : IsServed (gone_away (record x.tables { hosts = stopping x.tables.hosts m.host }) m.host)
      (host_noted st m.host IsDown)) where
    abbrev down : Message
    down = record m { body = Down }

    abbrev y_down : Tables
    y_down = gone_away (record x.tables { hosts = stopping x.tables.hosts m.host }) m.host

    none_down : TakesNone x.tables.server tree past down
    none_down s e h n b q = inr (inr (sym (taken_m past down s e h n b q).3))

    left_down : IsLeft tree past x z m st (host_noted st m.host IsDown) k Down (inl refl) (GoesDown m.host ∷ []) y_down
    left_down = record {
      stands = stands_down past x.tables z.tables m.host m.epoch m.moves not_own rise its_notes;
      answered = answered_down past x.tables z.tables m.host m.epoch m.moves not_own rise its_notes z.answered;
      server = refl;
      roster = refl;
      listed = (leaving_listed (stopping x.tables.hosts m.host) m.host).0;
      epoch = (leaving_listed (stopping x.tables.hosts m.host) m.host).1;
      gives = refl;
      changes = refl;
      pending = refl;
      claims = refl;
      none = refl;
      undone = λ v i. elim i [ inl e ↦ (cc) | inr n ↦ n ];
      served = served;
      keeps = host_keeps (Came down) tree st m.host IsDown (subst (λ (r : Roster). IsHost r m.host) (sym same) declared)
          k.stands;
      kept_homes = k.homes;
      below = host_below (last_give x.tables.gives) st m.host IsDown k.taken;
      same = refl;
    }

    begins_down : HasBegun x.tables.server (Came down) tree past
        (making y_down (record no_draft { applied = GoesDown m.host ∷ [] }) (host_noted st m.host IsDown))
    begins_down =
        begins x.tables.server tree past down (GoesDown m.host ∷ []) y_down (host_noted st m.host IsDown) []
        (left_onset tree past x z m st (host_noted st m.host IsDown) k Down (inl refl) (GoesDown m.host ∷ []) y_down
        left_down)
        (none_said x.tables.server (Took m.host m.epoch m.moves Down ∷ past) y_down left_down.stands left_down.answered)
        (caused_down x.tables.server tree past down none_down refl up
        (says_none x.tables.server tree past down none_down (λ e. absurd (cc)) (λ e. absurd (cc)) (λ l q r n. n refl))
        (left_never tree past x z m st (host_noted st m.host IsDown) k Down (inl refl)
        (GoesDown m.host ∷ []) y_down)) z.told
        (none_new x.tables.server tree past down none_down)

    pub down_opens : m.body ≡ Down → HasBegun x.tables.server (Came m) tree past
        (making y_down (record no_draft { applied = GoesDown m.host ∷ [] }) (host_noted st m.host IsDown))
    down_opens is = subst (λ (n : Message). HasBegun x.tables.server (Came n) tree past
        (making y_down (record no_draft { applied = GoesDown m.host ∷ [] }) (host_noted st m.host IsDown)))
        (λ i. record m { body = sym is i }) begins_down

  -- It ends, in this epoch.
  module _ (live : IsLive past m.host) (current : m.epoch ≡ epoch past)
      (served : IsServed (gone_away x.tables m.host) (host_noted st m.host Ended)) where
    abbrev bye : Message
    bye = record m { body = Bye }

    abbrev y_bye : Tables
    y_bye = gone_away x.tables m.host

    is_up : HasGoneDown past m.host → ⊥
    is_up d = live.1 (down_away past m.host d)

    abbrev Ends : Type 0
    Ends = (Bye ≡ Down) ⊎ ((Bye ≡ Bye) × (m.epoch ≡ epoch past) × Listed past m.host × (HasGoneDown past m.host → ⊥))

    its_kind : Ends
    its_kind = inr (refl, current, live.0, is_up)

    none_bye : TakesNone x.tables.server tree past bye
    none_bye s e h n b q = inr (inl (sym (taken_m past bye s e h n b q).3))

    epoch_bye : y_bye.hosts.epoch ≡ x.tables.hosts.epoch
    epoch_bye = (leaving_listed x.tables.hosts m.host).1

    left_bye : IsLeft tree past x z m st (host_noted st m.host Ended) k Bye its_kind [] y_bye
    left_bye = record {
      stands = stands_bye past x.tables z.tables m.host m.epoch m.moves current live not_own rise its_notes;
      answered = answered_bye past x.tables z.tables m.host m.epoch m.moves current live not_own rise its_notes
          z.answered;
      server = refl;
      roster = refl;
      listed = (leaving_listed x.tables.hosts m.host).0;
      epoch = epoch_bye;
      gives = refl;
      changes = refl;
      pending = refl;
      claims = refl;
      none = refl;
      undone = λ v i. elim i [ ];
      served = served;
      keeps = host_keeps (Came bye) tree st m.host Ended (subst (λ (r : Roster). IsHost r m.host) (sym same) declared)
          k.stands;
      kept_homes = k.homes;
      below = host_below (last_give x.tables.gives) st m.host Ended k.taken;
      same = refl;
    }

    begins_bye : HasBegun x.tables.server (Came bye) tree past
        (making y_bye (record no_draft { sent = word y_bye m.host Bye ∷ [] }) (host_noted st m.host Ended))
    begins_bye =
        begins x.tables.server tree past bye [] y_bye (host_noted st m.host Ended) (word y_bye m.host Bye ∷ [])
        (left_onset tree past x z m st (host_noted st m.host Ended) k Bye its_kind [] y_bye left_bye)
        (one_said x.tables.server (Took m.host m.epoch m.moves Bye ∷ past) y_bye left_bye.stands m.host Bye bye_blank
        (bye_word x.tables.server (Took m.host m.epoch m.moves Bye ∷ past) m.host) (λ r e. absurd (cc))
        left_bye.answered)
        (caused x.tables.server tree past bye none_bye (word y_bye m.host Bye ∷ [])
        (says_bye x.tables.server tree past bye none_bye (word y_bye m.host Bye) refl refl refl is_up (λ l. current))
        (λ e. absurd (cc)) (left_never tree past x z m st (host_noted st m.host Ended) k Bye its_kind [] y_bye)) z.told
        (none_new x.tables.server tree past bye none_bye)

    pub ended_opens : m.body ≡ Bye → HasBegun x.tables.server (Came m) tree past
        (making y_bye (record no_draft { sent = word x.tables m.host Bye ∷ [] }) (host_noted st m.host Ended))
    ended_opens is = subst (λ (q : Message × ℕ). HasBegun x.tables.server (Came q.0) tree past
        (making y_bye (record no_draft { sent = to_host x.tables.server m.host q.1 0 Bye ∷ [] })
        (host_noted st m.host Ended))) (λ i. (record m { body = sym is i }, epoch_bye i)) begins_bye
