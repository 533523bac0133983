-- The phases of a step, one after the other: what holds at the end of each.
use Rattle.std.proofs.Common.{◌≡◌, ◌+◌, ◌++◌, ℕ, Bool, true, false, List, [], ◌∷◌, Option, None, Some}
use Rattle.std.proofs.Common.{if◌then◌else◌, inl, inr, refl, sym, ◌∙◌, ap, subst, eqb-true, eq-eqb}
use Rattle.std.proofs.lemmas.Bool.{false≢true}
use Rattle.std.specs.List.{list_any}
use Rattle.std.specs.Prelude.{remove}
use Rattle.base_types.specs.declared.ids.HostId.{HostId}
use Rattle.base_types.specs.declared.ids.ServerId.{ServerId}
use Rattle.tree_answers.specs.declared.tree.Tree.{Tree}
use Rattle.tree_calls.specs.declared.part.Status.{Status}
use Rattle.tree_calls.specs.declared.reply.Reply.{Reply}
use Rattle.tree_calls.specs.declared.reply.Reply.TheVariants.{Refused}
use Rattle.token_types.specs.declared.token.Need.{Need}
use Rattle.message_types.specs.declared.asking.Change.{Change as ChangeOf}
use Rattle.message_types.specs.declared.asking.Fetch.{Fetch as FetchOf}
use Rattle.message_types.specs.declared.message.Body.TheVariants.{Done, Grant as IsGrant}
use Rattle.message_types.specs.declared.message.Message.{Message}
use Rattle.server_decides.specs.Changes.{are_home}
use Rattle.run_rules.specs.Doings.{Doing, HasReclaimed, IsLive, admitting, after_cause, sending}
use Rattle.run_rules.specs.Past.{EachInTurn, In, appended}
use Rattle.run_rules.specs.ServerDecides.{IsNewRequest}
use Rattle.run_rules.specs.ServerTokens.{ServerTokens}
use Rattle.run_rules.specs.declared.applied.Admission.{Admission}
use Rattle.run_rules.specs.declared.applied.Applied.{Applied}
use Rattle.run_rules.specs.declared.applied.Applied.TheVariants.{Done as IsDone, Wants as IsWanted}
use Rattle.run_rules.specs.declared.applied.Request.{Request}
use Rattle.run_rules.specs.declared.applied.Request.TheVariants.{Change as Changes, Fetch as Asks}
use Rattle.run_rules.specs.declared.applied.Wanted.{Wanted}
use Rattle.run_rules.specs.declared.step.Cause.{Cause}
use Rattle.run_rules.specs.declared.step.Step.{Step}
use Rattle.server_decides.specs.StoreKeeping.{StandsFor}
use Rattle.store_state.specs.declared.state.StoreState.{StoreState}
use Rattle.server_tables.specs.Answers.{done_without}
use Rattle.server_tables.specs.Updates.{unqueued}
use Rattle.server_tables.specs.declared.pending.Pending.{Pending}
use Rattle.server_tables.specs.declared.tables.Tables.{Tables}
use Rattle.server_tables.proofs.Alike.{live_both}
use Rattle.server_tables.proofs.Greeting.{in_front, in_parts}
use Rattle.server_tables.proofs.Numbered.{in_removed, removed_other}
use Rattle.server_tables.specs.Standing.{AnsweredStand, Stands}
use Rattle.server_tables.proofs.Early.{IsEarly, each_may, each_tokens}
use Rattle.server_decides.specs.Drafts.{wanting, word}
use Rattle.server_decides.specs.Taking.{IsMadeOf, Made, wanted_for}
use Rattle.server_decides.specs.Draft.{Draft}
use Rattle.server_decides.specs.Claiming.{AdmitsOne}
use Rattle.server_decides.specs.Going.{GoesTo}
use Rattle.server_decides.specs.Writing.{written_made, written_of}
use Rattle.server_decides.proofs.Chains.{goes_keeps}
use Rattle.server_decides.proofs.Served.{placed_in}
use Rattle.server_decides.specs.Deciding.{Decides, IsDoing, IsDueOf, IsMadeBy, IsRefusing, anew_made, is_fresh}
use Rattle.server_decides.specs.Deciding.{still_fresh}
use Rattle.server_decides.specs.Running.{Making}
use Rattle.server_decides.specs.Sending.{IsAfter, Looking, Sends, empty_of, grant_made, grant_of, looking, sent_made}
use Rattle.server_decides.specs.Sending.{use_of}
use Rattle.server_decides.specs.declared.deciding.Decision.{Decision}
use Rattle.server_decides.specs.declared.deciding.Decision.TheVariants.{Anew, Do, Refuse}
use Rattle.server_decides.specs.declared.sending.Sending.{Sending}
use Rattle.server_decides.specs.declared.sending.Sending.TheVariants.{Grant, Say, Use}
use Rattle.store_memory.specs.Reading.{status_told}
use Rattle.server_exporter.proofs.Claims.{IsGranting, admitted_in, decided_in, said_in, sent_is, sent_was}
use Rattle.server_exporter.proofs.Counted.{applied_is, applied_was, said_heard}
use Rattle.server_exporter.proofs.Decisions.{AreMute, decided_by, said_by}
use Rattle.server_exporter.proofs.Held.{IsHeld}
use Rattle.server_exporter.proofs.Holds.{decides_held}
use Rattle.server_exporter.proofs.Making.{change_home}
use Rattle.server_exporter.proofs.Onsets.{HasBegun}
use Rattle.server_exporter.proofs.SendsAll.{sends_keep}
use Rattle.server_exporter.proofs.Sent.{AreAllowed}
use Rattle.run_tokens.specs.Unmoved.{is_move}
use Rattle.server_exporter.proofs.Decisions.{moves_none}
use Rattle.server_exporter.proofs.Words.{IsSaid, IsSpoken, admits_spoken, decides_spoken, sends_said}

-- # Decisions

module _ (server : ServerId) (cause : Cause) (tree : Tree) (past : List Doing) (a b : Making)
    (h : HasBegun server cause tree past a) (goes : GoesTo Decides a b) where
  pub all_held : IsHeld server cause tree past h.base b
  all_held = goes_keeps Decides (IsHeld server cause tree past h.base)
      (λ u v k s. decides_held server cause tree past h.base u v k s) a b goes h.held

  pub all_spoken : IsSpoken cause past a.draft b.tables b.draft
  all_spoken = goes_keeps Decides (λ (m : Making). IsSpoken cause past a.draft m.tables m.draft)
      (λ u v k s. decides_spoken cause past a.draft u v s k) a b goes (record {
        origin = h.origin;
        words = λ m i. inl i;
        kept = λ m i. i;
        written = λ v i. absurd (h.undone v i);
      })

-- what stays of the tables while Changes are decided, and of what was applied
pub record StaysDeciding (a b : Making) : Type 0 where
  pub roster : b.tables.roster ≡ a.tables.roster
  pub hosts : b.tables.hosts ≡ a.tables.hosts
  pub applied : (y : Applied) → In y a.draft.applied → In y b.draft.applied

in_still : (f : Option ℕ) (n : ℕ) (d : Draft) (y : Applied) → In y d.applied → In y (still_fresh f n d).applied
in_still f n d y i = by (is_fresh f n)
  where
    by : (q : Bool) → In y (if q then d else record d { fresh = f }).applied
    by true = i
    by false = i

module _ (a b c : Making) (z : StaysDeciding a b) (s : Decides b c) where
  abbrev out : Tables
  out = unqueued b.tables s.due.at s.p.number

  made_stays : (x : Tables) (d : Draft) → x.roster ≡ b.tables.roster → x.hosts ≡ b.tables.hosts
      → ((y : Applied) → In y b.draft.applied → In y d.applied) → c.tables ≡ x → c.draft ≡ d → StaysDeciding a c
  made_stays x d r h more e f = record {
    roster = ap (λ (t : Tables). t.roster) e ∙ r ∙ z.roster;
    hosts = ap (λ (t : Tables). t.hosts) e ∙ h ∙ z.hosts;
    applied = λ y i. subst (λ (o : Draft). In y o.applied) (sym f) (more y (z.applied y i));
  }

  wrote : (k : ChangeOf) (reply : Reply)
      → IsMadeOf out b.draft c.tables c.draft (written_made out b.draft s.p.wanted.host k reply) → StaysDeciding a c
  wrote k reply m =
      made_stays (written_made out b.draft s.p.wanted.host k reply).tables
      (written_made out b.draft s.p.wanted.host k reply).draft refl refl
      (λ y i. in_front y b.draft.applied (IsDone (written_of s.p.wanted.host k reply) ∷ []) i) m.tables m.draft

  anew : (needs : List Need) → IsMadeOf out b.draft c.tables c.draft (anew_made out b.draft s.p needs)
      → StaysDeciding a c
  anew needs m =
      let new = wanted_for s.p.wanted.host s.p.wanted.request needs in
      let drafted = wanting b.draft new out.next in
      made_stays (anew_made out b.draft s.p needs).tables (anew_made out b.draft s.p needs).draft refl refl
      (λ y i. in_still b.draft.fresh s.p.number drafted y (in_front y b.draft.applied (IsWanted new ∷ []) i)) m.tables
      m.draft

  change : (k : ChangeOf) → s.p.wanted.request ≡ Changes k → (dec : Decision)
      → IsMadeBy out b.draft b.state s.p c.tables c.draft c.state dec → StaysDeciding a c
  change k is (Refuse r) so =
      wrote k (Refused r)
      (subst (IsRefusing out b.draft b.state s.p.wanted.host r c.tables c.draft c.state) is so).both
  change k is Do so =
      let q = subst (IsDoing out b.draft b.state s.p.wanted.host c.tables c.draft c.state) is so in
      wrote k q.reply q.both
  change k is (Anew needs) so = anew needs so.0

  decides_stay : StaysDeciding a c
  decides_stay = by s.p.wanted.request refl
    where
      by : (r : Request) → s.p.wanted.request ≡ r → StaysDeciding a c
      by (Changes k) is = change k is s.due.decision s.so
      by (Asks f) is = absurd (let e : Some s.due.decision ≡ None =
          subst (IsDueOf b.tables b.state s.p (is_fresh b.draft.fresh s.p.number) (Some s.due.decision)) is s.is in cc)

pub decisions_stay : (a z : Making) → GoesTo Decides a z → StaysDeciding a z
decisions_stay a z goes = goes_keeps Decides (StaysDeciding a) (λ b c s one. decides_stay a b c s one) a z goes
    (record { roster = refl; hosts = refl; applied = λ y i. i })

-- # The want that has just come

same_fresh : (f : Option ℕ) (m n : ℕ) → is_fresh f m ≡ true → is_fresh f n ≡ true → m ≡ n
same_fresh None m n p q = absurd (false≢true p)
same_fresh (Some o) m n p q = sym (eqb-true o m p) ∙ eqb-true o n q

one_pending : (p q : Pending) → In p (q ∷ []) → p ≡ q
one_pending p q (inl e) = e
one_pending p q (inr i) = elim i [ ]

module _ (server : ServerId) (cause : Cause) (tree : Tree) (past : List Doing) (base : List Applied) (s : Step) where
  -- the step takes it as a new request
  abbrev pub IsNew : Wanted → Type 0
  IsNew w = IsNewRequest server past (after_cause s.cause past) s w.host w.moves w.request

  -- a want that waits of a new request is the fresh one
  abbrev pub AreFresh : Making → Type 0
  AreFresh m = (p : Pending) → In p m.tables.pending → IsNew p.wanted → is_fresh m.draft.fresh p.number ≡ true

  record IsHeldFresh (m : Making) : Type 0 where
    pub held : IsHeld server cause tree past base m
    pub fresh : AreFresh m

  module _ (b c : Making) (z : IsHeldFresh b) (one : Decides b c) where
    abbrev spot : ℕ
    spot = one.due.at

    abbrev its : Pending
    its = one.p

    abbrev without : Tables
    without = unqueued b.tables spot its.number

    its_in : In its b.tables.pending
    its_in = placed_in b.tables.pending spot its one.place

    -- it doesn't wait any more
    left_fresh : (y : Tables) (e : Draft) → y.pending ≡ remove b.tables.pending spot → e.fresh ≡ b.draft.fresh
        → c.tables ≡ y → c.draft ≡ e → AreFresh c
    left_fresh y e pending fresh is_y is_e q i n =
        subst (λ (o : Option ℕ). is_fresh o q.number ≡ true) (sym (ap (λ (d : Draft). d.fresh) is_e ∙ fresh))
        (z.fresh q (in_removed b.tables.pending spot q
        (subst (In q) (ap (λ (x : Tables). x.pending) is_y ∙ pending) i)) n)

    -- its want is made anew
    module _ (k : ChangeOf) (is : its.wanted.request ≡ Changes k) (needs : List Need) where
      abbrev want_new : Wanted
      want_new = wanted_for its.wanted.host its.wanted.request needs

      abbrev wait_new : Pending
      wait_new = record { number = without.next; wanted = want_new }

      abbrev draft_new : Draft
      draft_new = wanting b.draft want_new without.next

      its_home : its.wanted.moves ≡ 0
      its_home = change_home _ b.tables z.held.deciding.stands its.wanted
          (z.held.deciding.stands.wants.pending its its_in) k is

      -- it is a new request where the old one was
      was_new : IsNew want_new → IsNew its.wanted
      was_new n = subst (λ (m : ℕ). IsNewRequest server past (after_cause s.cause past) s its.wanted.host m
          its.wanted.request) (sym its_home) n

      by_fresh : (v : Bool) → is_fresh b.draft.fresh its.number ≡ v → (q : Pending)
          → In q (remove b.tables.pending spot ++ wait_new ∷ []) → IsNew q.wanted
          → is_fresh (if v then draft_new else record draft_new { fresh = b.draft.fresh }).fresh q.number ≡ true
      by_fresh true e q i n = elim (in_parts q (remove b.tables.pending spot) (wait_new ∷ []) i) [
        | inl j ↦ absurd (removed_other b.tables.pending spot its q z.held.served.counted.rising one.place.0 one.place.1
            j
            (same_fresh b.draft.fresh q.number its.number
            (z.fresh q (in_removed b.tables.pending spot q j) n) e))
        | inr j ↦ eq-eqb without.next q.number (sym (ap (λ (o : Pending). o.number) (one_pending q wait_new j)))
      ]
      by_fresh false e q i n = elim (in_parts q (remove b.tables.pending spot) (wait_new ∷ []) i) [
        | inl j ↦ z.fresh q (in_removed b.tables.pending spot q j) n
        | inr j ↦ absurd (false≢true (sym e
            ∙ z.fresh its its_in (was_new (subst (λ (o : Pending). IsNew o.wanted) (one_pending q wait_new j) n))))
      ]

      made_anew : IsMadeOf without b.draft c.tables c.draft (anew_made without b.draft its needs) → AreFresh c
      made_anew m q i n =
          subst (λ (d : Draft). is_fresh d.fresh q.number ≡ true) (sym m.draft)
          (by_fresh (is_fresh b.draft.fresh its.number) refl q (subst (λ (x : Tables). In q x.pending) m.tables i) n)

    change_fresh : (k : ChangeOf) → its.wanted.request ≡ Changes k → (dec : Decision)
        → IsMadeBy without b.draft b.state its c.tables c.draft c.state dec → AreFresh c
    change_fresh k is (Refuse r) so =
        let q = subst (IsRefusing without b.draft b.state its.wanted.host r c.tables c.draft c.state) is so in
        left_fresh (written_made without b.draft its.wanted.host k (Refused r)).tables
        (written_made without b.draft its.wanted.host k (Refused r)).draft refl refl q.both.tables q.both.draft
    change_fresh k is Do so =
        let q = subst (IsDoing without b.draft b.state its.wanted.host c.tables c.draft c.state) is so in
        left_fresh (written_made without b.draft its.wanted.host k q.reply).tables
        (written_made without b.draft its.wanted.host k q.reply).draft refl refl q.both.tables q.both.draft
    change_fresh k is (Anew needs) so = made_anew k is needs so.0

    decides_fresh : IsHeldFresh c
    decides_fresh = record {
      held = decides_held server cause tree past base b c z.held one;
      fresh = by its.wanted.request refl;
    }
      where
        by : (r : Request) → its.wanted.request ≡ r → AreFresh c
        by (Changes k) is = change_fresh k is one.due.decision one.so
        by (Asks f) is = absurd (let e : Some one.due.decision ≡ None =
            subst (IsDueOf b.tables b.state its (is_fresh b.draft.fresh its.number) (Some one.due.decision)) is one.is
            in cc)

  pub fresh_all : (a z : Making) → GoesTo Decides a z → IsHeld server cause tree past base a → AreFresh a → AreFresh z
  fresh_all a z goes h f = (goes_keeps Decides IsHeldFresh decides_fresh a z goes
      (record { held = h; fresh = f })).fresh

-- # Claims

-- behind the decisions claims can be granted
module _ (server : ServerId) (cause : Cause) (tree : Tree) (past : List Doing) (base : List Applied) (b : Making)
    (h : IsHeld server cause tree past base b) where
  pub said_same : said_by server cause tree past b.draft ≡ said_in cause past b.draft
  said_same = ap (λ (l : List Admission). appended (sending b.draft.sent)
      (appended (admitting l) (decided_by server cause tree past b.draft))) (sym h.deciding.admitted)

  admitted_same : decided_by server cause tree past b.draft ≡ admitted_in cause past b.draft
  admitted_same = ap (λ (l : List Admission). appended (admitting l) (decided_by server cause tree past b.draft))
      (sym h.deciding.admitted)

  pub moves_none_by : list_any is_move b.draft.applied ≡ false
  moves_none_by =
      ap (list_any is_move) h.deciding.applied
      ∙ moves_none server cause tree past base h.more h.deciding.none h.deciding.all

  pub reclaimed_was : (k : HostId) → HasReclaimed (said_by server cause tree past b.draft) k
      → HasReclaimed (after_cause cause past) k
  reclaimed_was k r = applied_was server b.draft.applied moves_none_by (after_cause cause past) k
      (sent_was server b.draft.sent (decided_by server cause tree past b.draft) k r)

  reclaimed_is : (k : HostId) → HasReclaimed (after_cause cause past) k
      → HasReclaimed (said_by server cause tree past b.draft) k
  reclaimed_is k r = sent_is server b.draft.sent (decided_by server cause tree past b.draft) k
      (applied_is server b.draft.applied moves_none_by (after_cause cause past) k r)

  pub live_is : (k : HostId) → IsLive (after_cause cause past) k → IsLive (said_in cause past b.draft) k
  live_is k = (live_both server (after_cause cause past) (said_in cause past b.draft)
      (said_heard server cause past b.draft moves_none_by) k).0

  live_was : (k : HostId) → IsLive (said_in cause past b.draft) k → IsLive (after_cause cause past) k
  live_was k = (live_both server (after_cause cause past) (said_in cause past b.draft)
      (said_heard server cause past b.draft moves_none_by) k).1

  pub granting_of : IsGranting cause past b.tables b.draft
  granting_of = record {
    none = moves_none_by;
    stands = subst (λ (l : List Doing). Stands l b.tables) said_same h.deciding.stands;
    answered = subst (λ (l : List Doing). AnsweredStand l b.tables.recovering.answers) said_same h.answered;
    waits = λ c i. (
      λ r. (h.waits c i).0 (reclaimed_was c.host (subst (λ l. HasReclaimed l c.host) (sym said_same) r)),
      live_is c.host (h.waits c i).1,
    );
    homes = h.tokens;
    mute = subst (λ (v : ServerId). AreMute v (decided_in cause past b.draft) b.draft.sent)
        (sym h.deciding.server_is) h.deciding.mute;
    admits = subst (λ (l : List Admission). EachInTurn (ServerTokens b.tables.server) (admitting l)
        (decided_in cause past b.draft)) (sym h.deciding.admitted) tt;
    words = subst (λ (v : ServerId). EachInTurn (IsEarly v) (sending b.draft.sent) (admitted_in cause past b.draft))
        (sym h.deciding.server_is)
        (subst (λ l. EachInTurn (IsEarly server) (sending b.draft.sent) l) admitted_same h.early);
    once = h.once;
    told = λ m r i e. elim (h.told m r i e) [
      | inl q ↦ inl (subst (λ l. HasReclaimed l m.host) said_same (reclaimed_is m.host q))
      | inr q ↦ inr (λ l. q (live_was m.host l))
    ];
  }

-- what stays of the tables and the draft where claims are granted
pub record StaysGranting (a b : Made) : Type 0 where
  pub server : b.tables.server ≡ a.tables.server
  pub roster : b.tables.roster ≡ a.tables.roster
  pub pending : b.tables.pending ≡ a.tables.pending
  pub gives : b.tables.gives ≡ a.tables.gives
  pub changes : b.tables.changes ≡ a.tables.changes
  pub listed : b.tables.hosts.listed ≡ a.tables.hosts.listed
  pub epoch : b.tables.hosts.epoch ≡ a.tables.hosts.epoch
  pub applied : b.draft.applied ≡ a.draft.applied

one_stays : (a b c : Made) → StaysGranting a b → AdmitsOne b c → StaysGranting a c
one_stays a b c s one = record {
  server = ap (λ (y : Tables). y.server) one.so.tables ∙ s.server;
  roster = ap (λ (y : Tables). y.roster) one.so.tables ∙ s.roster;
  pending = ap (λ (y : Tables). y.pending) one.so.tables ∙ s.pending;
  gives = ap (λ (y : Tables). y.gives) one.so.tables ∙ s.gives;
  changes = ap (λ (y : Tables). y.changes) one.so.tables ∙ s.changes;
  listed = ap (λ (y : Tables). y.hosts.listed) one.so.tables ∙ s.listed;
  epoch = ap (λ (y : Tables). y.hosts.epoch) one.so.tables ∙ s.epoch;
  applied = ap (λ (d : Draft). d.applied) one.so.draft ∙ s.applied;
}

pub grants_stay : (a z : Made) → GoesTo AdmitsOne a z → StaysGranting a z
grants_stay a z goes = goes_keeps AdmitsOne (StaysGranting a) (λ b c s one. one_stays a b c s one) a z goes (record {
  server = refl;
  roster = refl;
  pending = refl;
  gives = refl;
  changes = refl;
  listed = refl;
  epoch = refl;
  applied = refl;
})

pub grants_spoken : (cause : Cause) (past : List Doing) (first : Draft) (a z : Made) → GoesTo AdmitsOne a z
    → IsSpoken cause past first a.tables a.draft → IsSpoken cause past first z.tables z.draft
grants_spoken cause past first a z goes k = goes_keeps AdmitsOne
    (λ (m : Made). IsSpoken cause past first m.tables m.draft)
    (λ u v s one. admits_spoken cause past first u v one s) a z goes k

-- # Answers

-- what stays where wants are answered
pub record StaysSending (a b : Looking) : Type 0 where
  pub server : b.tables.server ≡ a.tables.server
  pub roster : b.tables.roster ≡ a.tables.roster
  pub gives : b.tables.gives ≡ a.tables.gives
  pub hosts : b.tables.hosts ≡ a.tables.hosts
  pub recovering : b.tables.recovering ≡ a.tables.recovering
  pub applied : b.draft.applied ≡ a.draft.applied
  pub admitted : b.draft.admitted ≡ a.draft.admitted
  pub words : (m : Message) → In m a.draft.sent → In m b.draft.sent

stays_then : (a b c : Looking) → StaysSending a b → StaysSending b c → StaysSending a c
stays_then a b c s t = record {
  server = t.server ∙ s.server;
  roster = t.roster ∙ s.roster;
  gives = t.gives ∙ s.gives;
  hosts = t.hosts ∙ s.hosts;
  recovering = t.recovering ∙ s.recovering;
  applied = t.applied ∙ s.applied;
  admitted = t.admitted ∙ s.admitted;
  words = λ m i. t.words m (s.words m i);
}

same_sending : (a b : Looking) → b ≡ a → StaysSending a b
same_sending a b e = record {
  server = ap (λ (l : Looking). l.tables.server) e;
  roster = ap (λ (l : Looking). l.tables.roster) e;
  gives = ap (λ (l : Looking). l.tables.gives) e;
  hosts = ap (λ (l : Looking). l.tables.hosts) e;
  recovering = ap (λ (l : Looking). l.tables.recovering) e;
  applied = ap (λ (l : Looking). l.draft.applied) e;
  admitted = ap (λ (l : Looking). l.draft.admitted) e;
  words = λ m i. subst (λ (l : Looking). In m l.draft.sent) (sym e) i;
}

abbrev After : StoreState → Looking → Pending → Sending → Looking
After st a p d = looking (sent_made a.tables a.draft st a.at p d).tables (sent_made a.tables a.draft st a.at p d).draft
    a.at

one_sends : (st : StoreState) (a b : Looking) → Sends st a b → StaysSending a b
one_sends st a b h = by h.sending h.so
  where
    granted : (o : Option Status) (f : FetchOf) → StaysSending a
        (looking (grant_made a.tables a.draft st a.at h.p f o).tables
        (grant_made a.tables a.draft st a.at h.p f o).draft a.at)
    granted None f = record {
      server = refl;
      roster = refl;
      gives = refl;
      hosts = refl;
      recovering = refl;
      applied = refl;
      admitted = refl;
      words = λ m i. in_front m a.draft.sent (word a.tables h.p.wanted.host (IsGrant (empty_of a.tables f)) ∷ []) i;
    }
    granted (Some status) f = record {
      server = refl;
      roster = refl;
      gives = refl;
      hosts = refl;
      recovering = refl;
      applied = refl;
      admitted = refl;
      words = λ m i. in_front m a.draft.sent
          (word a.tables h.p.wanted.host (IsGrant (grant_of a.tables st h.p f status)) ∷ []) i;
    }

    after : (d : Sending) → StaysSending a (After st a h.p d)
    after (Grant f) = granted (status_told st f.fid) f
    after (Use fileset number) = record {
      server = refl;
      roster = refl;
      gives = refl;
      hosts = refl;
      recovering = refl;
      applied = refl;
      admitted = refl;
      words = λ m i. in_front m a.draft.sent
          (word a.tables h.p.wanted.host (Done (use_of a.tables h.p fileset number)) ∷ []) i;
    }
    after (Say fileset number outcome) = record {
      server = refl;
      roster = refl;
      gives = refl;
      hosts = refl;
      recovering = refl;
      applied = refl;
      admitted = refl;
      words = λ m i. in_front m a.draft.sent
          (word a.tables h.p.wanted.host (Done (done_without fileset outcome number)) ∷ []) i;
    }

    by : (o : Option Sending) → IsAfter st a h.p b o → StaysSending a b
    by None so = stays_then a (looking a.tables a.draft (a.at + 1)) b
        (record {
          server = refl;
          roster = refl;
          gives = refl;
          hosts = refl;
          recovering = refl;
          applied = refl;
          admitted = refl;
          words = λ m i. i;
        }) (same_sending (looking a.tables a.draft (a.at + 1)) b so)
    by (Some d) so = stays_then a (After st a h.p d) b (after d) (same_sending (After st a h.p d) b so)

pub sends_stay : (st : StoreState) (a z : Looking) → GoesTo (Sends st) a z → StaysSending a z
sends_stay st a z goes = goes_keeps (Sends st) (StaysSending a)
    (λ b c s h. stays_then a b c s (one_sends st b c h)) a z goes (same_sending a a refl)

-- from the first want to the last one
module _ (cause : Cause) (past : List Doing) (first : Draft) (server : ServerId) (tree : Tree) (st : StoreState)
    (s : Step) (before : List Doing) (k : StandsFor tree st) (homes : are_home tree ≡ true) where
  pub all_said : (a z : Looking) → GoesTo (Sends st) a z
      → IsSaid cause past first server tree st s before k homes a
      → IsSaid cause past first server tree st s before k homes z
  all_said a z goes g = goes_keeps (Sends st) (IsSaid cause past first server tree st s before k homes)
      (λ b c q h. sends_said cause past first server tree st s before k homes b c q h
      (sends_keep server tree st s before k homes b c q.way h)) a z goes g

-- the words so far are allowed, whatever was decided and granted
pub early_allowed : (server : ServerId) (tree : Tree) (s : Step) (before : List Doing) (sent : List Message)
    → EachInTurn (IsEarly server) (sending sent) before → AreAllowed server tree s before sent
early_allowed server tree s before sent each = record {
  tokens = each_tokens server before (sending sent) each;
  may = each_may server tree s before (sending sent) each;
}
