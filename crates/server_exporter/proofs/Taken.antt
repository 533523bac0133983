-- The start of a step whose cause is a message, whichever it is.
use Rattle.std.proofs.Common.{◌≡◌, ◌≢◌, ◌⊎◌, ◌==◌, ◌≤◌, Bool, true, false, ◌&&◌, not, List, [], ◌∷◌, Option, arith}
use Rattle.std.proofs.Common.{Some}
use Rattle.std.proofs.Common.{inl, inr, refl, sym, ◌∙◌, ap, subst, eqb-true, eq-eqb, if◌then◌else◌, length}
use Rattle.std.proofs.lemmas.Bool.{and_from, and_parts, cases_Bool, false≢true}
use Rattle.std.specs.Prelude.{IsTrue, None}
use Rattle.base_types.specs.declared.ids.HostId.{HostId}
use Rattle.base_types.specs.declared.ids.ServerId.{ServerId}
use Rattle.base_types.specs.declared.user.User.{User}
use Rattle.tree_answers.specs.declared.tree.Tree.{Tree}
use Rattle.tree_calls.specs.Rosters.{user_of}
use Rattle.tree_calls.specs.declared.part.Status.{Status}
use Rattle.token_manager.specs.Laws.{KeepsLaws}
use Rattle.token_types.specs.declared.token.Need.{Need}
use Rattle.message_types.specs.Soundness.{IsHost, HasMoves, IsBody, IsChange}
use Rattle.message_types.specs.declared.asking.Change.{Change as ChangeOf}
use Rattle.message_types.specs.declared.asking.Fetch.{Fetch as FetchOf}
use Rattle.message_types.specs.declared.message.Body.{Body}
use Rattle.message_types.specs.declared.message.Body.TheVariants.{Bye, Change, Down, Fetch, GiveBack, Hello, Kept}
use Rattle.message_types.specs.declared.message.Body.TheVariants.{Reclaim}
use Rattle.message_types.specs.declared.message.Body.TheVariants.{Reclaimed, Restarted, Returned}
use Rattle.message_types.specs.declared.message.Message.{Message}
use Rattle.run_rules.specs.Doings.{Doing, HasGoneAway, HasGoneDown, IsLive, Listed, ListedNow, epoch, WasWritten}
use Rattle.run_rules.specs.Doings.Doing.{Took}
use Rattle.run_rules.specs.ServerDue.{empty_reclaimed}
use Rattle.run_rules.specs.declared.step.Cause.TheVariants.{Message as Came}
use Rattle.store_state.specs.declared.state.HostState.TheVariants.{Ended, IsDown, Live}
use Rattle.store_state.specs.declared.state.StoreState.{StoreState}
use Rattle.server_decides.specs.Acts.{host_noted}
use Rattle.server_tables.specs.Greetings.{welcoming}
use Rattle.server_tables.specs.Listing.{has_host, is_live}
use Rattle.server_tables.specs.Updates.{gone_away, enqueued}
use Rattle.server_tables.specs.declared.tables.Tables.{Tables}
use Rattle.server_tables.proofs.Dropping.{down_away}
use Rattle.server_tables.proofs.Listed.{has_in, in_has, is_live_all, live_is}
use Rattle.server_decides.specs.Drafts.{no_draft, saying, word, wanting}
use Rattle.server_decides.specs.Messages.{IsFor, body_state, needs_by, state_taken}
use Rattle.server_decides.specs.Taking.{down_tables}
use Rattle.server_decides.specs.Taking.{IsBodyTaken, IsMadeOf, Whether, is_late, made}
use Rattle.server_decides.specs.Draft.{Draft}
use Rattle.server_decides.specs.Running.{Making, making}
use Rattle.server_decides.specs.Serving.{IsServed}
use Rattle.server_exporter.specs.Machines.{IsAt, Keeps}
use Rattle.server_exporter.specs.declared.exporter.Exporter.{Exporter}
use Rattle.server_exporter.proofs.Comings.{down_opens, ended_opens, hello_opens}
use Rattle.server_exporter.proofs.Greets.{bye_mute, bye_opens, hello_mute, late_mute, mute_still, restarted_opens}
use Rattle.server_exporter.proofs.Greets.{silent_opens, vain_mute, welcome_opens, stays_answered}
use Rattle.server_exporter.proofs.Onsets.{HasBegun}
use Rattle.server_exporter.proofs.Replies.{TakesNone, taken_m}
use Rattle.server_exporter.proofs.Requested.{AreDones, IsRepeated, asked_still, begun_stands, request_opens, want_opens}
use Rattle.run_rules.specs.declared.applied.Request.TheVariants.{Fetch as Asks, Change as Changes}
use Rattle.message_types.specs.declared.message.Body.TheVariants.{Done, Gone, Grant, NotHere, Revoke, Ship, Shipped}
use Rattle.message_types.specs.declared.telling.Done.{Done as DoneOf}
use Rattle.message_types.specs.Soundness.{Goes}
use Rattle.run_rules.specs.declared.applied.Applied.TheVariants.{IsDown as GoesDown}
use Rattle.run_rules.specs.ServerMay.{HasWritten}
use Rattle.run_rules.specs.ServerDecides.{IsAskedHere, IsDecidedHere, IsMeantSo}
use Rattle.message_types.specs.Soundness.{IsDecided as IsDecidedAt}
use Rattle.run_rules.specs.Wants.{IsOld, NoneQueued, body_of, needs_for, row_needs}
use Rattle.server_decides.specs.Taking.{IsRequestTaken, IsTaken, give_draft, give_state, give_tables, is_decided_here}
use Rattle.server_decides.specs.Taking.{kept_tables, repeated, returned_tables, want_made, wanted_for}
use Rattle.base_types.specs.declared.limits.TheConstants.{NEEDS_MAX}
use Rattle.server_tables.specs.declared.pending.Pending.{Pending}
use Rattle.run_rules.specs.declared.applied.Request.{Request}
use Rattle.tree_calls.specs.declared.roster.Roster.{Roster}
use Rattle.server_tables.specs.Standing.{Stands}
use Rattle.message_types.specs.declared.message.Direction.TheVariants.{ToServer}
use Rattle.server_tables.specs.Answers.{answer_again, is_old}
use Rattle.server_decides.specs.Asking.{change_needs}
use Rattle.server_decides.proofs.Asking.{changes_are_told}
use Rattle.server_exporter.proofs.Reclaims.{claim_opens}
use Rattle.server_exporter.proofs.Known.{never_none, decided_is, is_decided, is_meant, meant_is, none_waits, old_all}
use Rattle.server_exporter.proofs.Known.{one_waits}
use Rattle.server_exporter.proofs.Gifts.{give_away, give_opens}
use Rattle.server_tables.proofs.Judged.{here_from, here_to}
use Rattle.server_tables.specs.Queue.{is_meant_so}
use Rattle.server_tables.specs.Places.{is_of}
use Rattle.server_tables.specs.Queue.{is_waiting}
use Rattle.server_exporter.proofs.Starts.{kept_away, kept_opens, returned_away, returned_opens}
use Rattle.server_exporter.proofs.Holds.{last_small}
use Rattle.server_exporter.proofs.Openings.{none_said}
use Rattle.server_exporter.proofs.Calls.{numbered}
use Rattle.store_memory.specs.Reading.{status_told}
use Rattle.server_decides.specs.Messages.{told_by}
use Rattle.server_exporter.proofs.Known.{old_is}

module _ (tree : Tree) (past : List Doing) (x : Exporter) (z : IsAt past tree x) (m : Message) (st : StoreState)
    (k : Keeps x.tables tree st) (served : IsServed x.tables st) (came : IsFor x.tables.server x.tables.roster m)
    (laws : KeepsLaws x.tables.tokens) (b : Making) (after : IsServed b.tables b.state) where
  abbrev t : Tables
  t = x.tables

  -- a Change that comes again is answered once more
  pub record IsAgainSaid : Type 0 where
    pub change : ChangeOf
    pub is : m.body ≡ Change change
    pub live : IsLive past m.host
    pub current : m.epoch ≡ epoch past
    pub here : IsDecidedHere t.server past change.fileset 0
    pub old : is_old t m.host change ≡ true
    pub done : DoneOf
    pub found : answer_again t m.host change ≡ Some done
    pub is_so : b ≡ making t (record no_draft { sent = word t m.host (Done done) ∷ [] }) st

  abbrev pub Begins : Type 0
  Begins = HasBegun t.server (Came m) tree past b ⊎ IsAgainSaid

  abbrev IsMade : Tables → Draft → StoreState → Type 0
  IsMade y d s = IsMadeOf t no_draft b.tables b.draft (made y d) × (b.state ≡ s)

  -- it is what was made
  arrives : (y : Tables) (d : Draft) (s : StoreState) → IsMade y d s
      → (IsServed y s → HasBegun t.server (Came m) tree past (making y d s)) → Begins
  arrives y d s q begins = inl (subst (HasBegun t.server (Came m) tree past)
      (λ i. making (sym q.0.tables i) (sym q.0.draft i) (sym q.1 i))
      (begins (subst (λ (v : Tables × StoreState). IsServed v.0 v.1) (λ i. (q.0.tables i, q.1 i)) after)))

  declared : IsHost t.roster m.host
  declared = came.sound.host

  -- # Nothing is taken of it

  -- its host isn't live
  vain : (IsLive past m.host → ⊥) → HasGoneDown past m.host ⊎ ((m.body ≢ Hello) × (m.body ≢ Bye) × (m.body ≢ Down))
      → IsMade t no_draft st → Begins
  vain dead silent q = arrives t no_draft st q (λ _. silent_opens tree past x z m st k served
      (mute_still past m t z.tables (vain_mute past m dead silent)) none (λ e. gone (λ n. n.2 e))
      (λ e. gone (λ n. n.0 e)) (λ e. gone (λ n. n.1 e)) (λ l o h d. dead l))
    where
      none : TakesNone t.server tree past m
      none s e h n c q = absurd (dead (let p = taken_m past m s e h n c q in subst (IsLive past) (sym p.0) p.4))

      gone : ((m.body ≢ Hello) × (m.body ≢ Bye) × (m.body ≢ Down) → ⊥) → HasGoneDown past m.host
      gone other = elim silent [ inl d ↦ d | inr n ↦ absurd (other n) ]

  -- it is of another epoch
  late : IsLive past m.host → m.epoch ≢ epoch past → m.body ≢ Hello → m.body ≢ Down
      → IsMade t (saying no_draft (word t m.host Restarted)) st → Begins
  late live other hello down q = arrives t (saying no_draft (word t m.host Restarted)) st q
      (λ _. restarted_opens tree past x z m st k served
      (mute_still past m t z.tables (late_mute past m other hello down)) none (λ e. absurd (down e)) live
      (λ e. absurd (hello e)) (λ _ e. other e) (inr (other, hello, down)))
    where
      none : TakesNone t.server tree past m
      none s e h n c q = absurd (other (taken_m past m s e h n c q).1)

  -- one that is neither
  others : (c : Body) → m.body ≡ c → (c ≡ Hello → ⊥) → (c ≡ Bye → ⊥) → (c ≡ Down → ⊥)
      → (m.body ≢ Hello) × (m.body ≢ Bye) × (m.body ≢ Down)
  others c is h e d = (λ q. h (sym is ∙ q), λ q. e (sym is ∙ q), λ q. d (sym is ∙ q))

  -- # Greetings

  is_up : has_host t.hosts.down m.host ≡ false → HasGoneDown past m.host → ⊥
  is_up e d = false≢true (sym e ∙ in_has t.hosts.down m.host (z.tables.hosts.down_all m.host d))

  hello_none : m.body ≡ Hello → TakesNone t.server tree past m
  hello_none is s e h n c q = inl (sym (taken_m past m s e h n c q).3 ∙ is)

  greets : m.body ≡ Hello → (HasGoneDown past m.host → ⊥) → (l : Bool) → is_late t m.host ≡ l → (o : Bool)
      → has_host t.hosts.listed m.host ≡ o
      → IsMade (if (not l && not o) then welcoming t m.host else t)
      (saying no_draft (word t m.host (if l then Restarted else Reclaimed empty_reclaimed)))
      (if (not l && not o) then host_noted st m.host Live else st) → Begins
  greets is up true e o f q =
      let p = and_parts (is_live t.hosts m.host) (not (has_host t.hosts.listed_now m.host)) e in
      let live = live_is past t.hosts z.tables.hosts m.host p.0 in
      arrives t (saying no_draft (word t m.host Restarted)) st q (λ _. restarted_opens tree past x z m st k served
      (mute_still past m t z.tables (hello_mute past m is live.0)) (hello_none is)
      (λ d. absurd (let n = sym is ∙ d in cc)) live
      (λ _ n. not_now (has_host t.hosts.listed_now m.host) refl p.1 n) (λ d. absurd (let n = sym is ∙ d in cc))
      (inl is))
    where
      not_now : (v : Bool) → has_host t.hosts.listed_now m.host ≡ v → not v ≡ true → ListedNow past m.host → ⊥
      not_now true e n w = false≢true n
      not_now false e n w = false≢true (sym e ∙ in_has t.hosts.listed_now m.host (z.tables.hosts.now_all m.host w))
  greets is up false e true f q =
      arrives t (saying no_draft (word t m.host (Reclaimed empty_reclaimed))) st q
      (λ _. welcome_opens tree past x z m st k served
      (mute_still past m t z.tables (hello_mute past m is (z.tables.hosts.listed m.host
      (has_in t.hosts.listed m.host f)))) (hello_none is) (λ d. absurd (let n = sym is ∙ d in cc)) is up
      (either (is_live t.hosts m.host) refl (has_host t.hosts.listed_now m.host) refl e))
    where
      either : (l : Bool) → is_live t.hosts m.host ≡ l → (n : Bool) → has_host t.hosts.listed_now m.host ≡ n
          → (l && not n) ≡ false → (IsLive past m.host → ⊥) ⊎ ListedNow past m.host
      either true a true c d = inr (z.tables.hosts.now m.host (has_in t.hosts.listed_now m.host c))
      either true a false c d = absurd (cc)
      either false a n c d = inl (λ l. false≢true (sym a ∙ is_live_all past t.hosts z.tables.hosts m.host l))
  greets is up false e false f q =
      arrives (welcoming t m.host) (saying no_draft (word t m.host (Reclaimed empty_reclaimed)))
      (host_noted st m.host Live) q (λ s. hello_opens tree past x z m st k
      (λ l. false≢true (sym f ∙ in_has t.hosts.listed m.host (z.tables.hosts.listed_all m.host l))) up declared
      served.store.roster s is)

  -- # Farewells

  bye_none : m.body ≡ Bye → TakesNone t.server tree past m
  bye_none is s e h n c q = inr (inl (sym (taken_m past m s e h n c q).3 ∙ is))

  parts : m.body ≡ Bye → (HasGoneDown past m.host → ⊥) → (l : Bool) → is_live t.hosts m.host ≡ l → (n : Bool)
      → (m.epoch == t.hosts.epoch) ≡ n
      → IsMade (if (l && n) then gone_away t m.host else t)
      (saying no_draft (word t m.host (if (l && not n) then Restarted else Bye)))
      (if (l && n) then host_noted st m.host Ended else st) → Begins
  parts is up true e true f q =
      arrives (gone_away t m.host) (saying no_draft (word t m.host Bye)) (host_noted st m.host Ended) q
      (λ s. ended_opens tree past x z m st k served.counted.rising laws declared served.store.roster
      (live_is past t.hosts z.tables.hosts m.host e)
      (eqb-true m.epoch t.hosts.epoch f ∙ z.tables.hosts.epoch_is) s is)
  parts is up true e false f q =
      late (live_is past t.hosts z.tables.hosts m.host e)
      (λ n. false≢true (sym f ∙ eq-eqb m.epoch t.hosts.epoch (n ∙ sym z.tables.hosts.epoch_is)))
      (λ n. let p = sym is ∙ n in cc) (λ n. let p = sym is ∙ n in cc) q
  parts is up false e n f q =
      arrives t (saying no_draft (word t m.host Bye)) st q
      (λ _. bye_opens tree past x z m st k served (mute_still past m t z.tables (bye_mute past m is away)) (bye_none is)
      (λ d. absurd (let p = sym is ∙ d in cc)) is up dead)
    where
      dead : IsLive past m.host → ⊥
      dead l = false≢true (sym e ∙ is_live_all past t.hosts z.tables.hosts m.host l)

      away : Listed past m.host → HasGoneAway past m.host
      away l = elim (cases_Bool (has_host t.hosts.away m.host)) [
        | inl a ↦ z.tables.hosts.away m.host (has_in t.hosts.away m.host a)
        | inr a ↦ absurd (false≢true (sym e ∙ and_from (has_host t.hosts.listed m.host)
            (not (has_host t.hosts.away m.host))
            (in_has t.hosts.listed m.host (z.tables.hosts.listed_all m.host l)) (ap not a)))
      ]

  -- # Any other

  -- one of a live host that is no greeting and no farewell: of another epoch, of another stay, or one that is taken
  asks : (taken : Type 0) (next : StoreState) → (m.body ≢ Hello) × (m.body ≢ Bye) × (m.body ≢ Down)
      → (IsLive past m.host → m.epoch ≡ epoch past → m.moves ≡ 0 → taken → b.state ≡ next → Begins)
      → (IsLive past m.host → m.epoch ≡ epoch past → (m.moves ≡ 0 → ⊥) → IsMade t no_draft st → Begins)
      → (l : Bool) → is_live t.hosts m.host ≡ l → (n : Bool) → (m.epoch == t.hosts.epoch) ≡ n → (v : Bool)
      → (m.moves == 0) ≡ v
      → Whether l (Whether n (Whether v taken (IsMadeOf t no_draft b.tables b.draft (made t no_draft)))
      (IsMadeOf t no_draft b.tables b.draft (made t (saying no_draft (word t m.host Restarted)))))
      (IsMadeOf t no_draft b.tables b.draft (made t no_draft))
      → b.state ≡ (if l && (n && v) then next else st) → Begins
  asks taken next plain one away true e true f true g q s = one (live_is past t.hosts z.tables.hosts m.host e)
      (eqb-true m.epoch t.hosts.epoch f ∙ z.tables.hosts.epoch_is) (eqb-true m.moves 0 g) q s
  asks taken next plain one away true e true f false g q s = away (live_is past t.hosts z.tables.hosts m.host e)
      (eqb-true m.epoch t.hosts.epoch f ∙ z.tables.hosts.epoch_is)
      (λ n. false≢true (sym g ∙ eq-eqb m.moves 0 n)) (q, s)
  asks taken next plain one away true e false f v g q s = late (live_is past t.hosts z.tables.hosts m.host e)
      (λ n. false≢true (sym f ∙ eq-eqb m.epoch t.hosts.epoch (n ∙ sym z.tables.hosts.epoch_is))) plain.0 plain.2 (q, s)
  asks taken next plain one away false e n f v g q s =
      vain (λ l. false≢true (sym e ∙ is_live_all past t.hosts z.tables.hosts m.host l)) (inr plain) (q, s)

  -- # Requests

  abbrev begun : List Doing
  begun = Took m.host m.epoch m.moves m.body ∷ past

  module _ (live : IsLive past m.host) (current : m.epoch ≡ epoch past) where
    module _ (r : Request) (is : m.body ≡ body_of r) where
      stands_r : Stands begun t
      stands_r = begun_stands tree past x z m st k served r is live current

      dones_none : AreDones t.server past m r is current []
      dones_none = record { host = λ n i. elim i [ ]; done = λ n i. elim i [ ] }

      -- it makes no want, and is answered by nothing
      no_want : IsMade t no_draft st → IsRepeated t.server past m r is current []
          → (IsAskedHere t.server past m.moves r → (IsOld begun m.host r → ⊥) → NoneQueued begun m.host r → ⊥)
          → Begins
      no_want q repeats none = arrives t no_draft st q (λ _.
          request_opens tree past x z m st k served r is live current [] (none_said t.server begun t stands_r
          (stays_answered tree past x z m st k served (asked_still tree past x z m st k served r is live current)))
          dones_none repeats none)

      -- it makes its want
      makes_want : (needs : List Need) → m.moves ≡ 0 → IsAskedHere t.server past 0 r
          → (IsOld begun m.host r → ⊥) → is_waiting t.pending m.host r ≡ false
          → needs ≡ needs_for tree m.host r → IsRepeated t.server past m r is current []
          → IsMade (enqueued t (wanted_for m.host r needs)) (wanting no_draft (wanted_for m.host r needs) t.next) st
          → Begins
      makes_want needs home here fresh alone needs_is repeats q =
          arrives (enqueued t (wanted_for m.host r needs)) (wanting no_draft (wanted_for m.host r needs) t.next) st q
          (λ s. want_opens tree past x z m st k served r is live current needs home here fresh
          (none_waits begun t stands_r m.host r alone) needs_is
          (last_small (λ (p : Pending). length p.wanted.needs ≤ NEEDS_MAX) t.pending
          (record { number = t.next; wanted = wanted_for m.host r needs }) s.counted.small) s repeats)

    -- a Fetch
    module _ (f : FetchOf) (is : m.body ≡ Fetch f) where
      never_again : IsRepeated t.server past m (Asks f) is current []
      never_again c d same here fs n last done = absurd (cc)

      fetch_here : m.moves ≡ 0 → (i : Bool) → is_of t.server f.fid.fileset ≡ i → (w : Bool)
          → is_waiting t.pending m.host (Asks f) ≡ w → b.state ≡ st
          → IsMadeOf t no_draft b.tables b.draft (if i && not w
          then want_made t no_draft (wanted_for m.host (Asks f) f.needs) else made t no_draft) → Begins
      fetch_here home true e false g s q = makes_want (Asks f) is f.needs home
          (here_to t.server past f.fid.fileset 0 z.tables.slots refl e) (λ o. o) g refl never_again
          (record { tables = q.tables; draft = q.draft }, s)
      fetch_here home true e true g s q = no_want (Asks f) is (q, s) never_again
          (λ here old none. one_waits begun t (stands_r (Asks f) is) m.host (Asks f) g none)
      fetch_here home false e w g s q = no_want (Asks f) is (q, s) never_again
          (λ here old none. false≢true (sym e ∙ (here_from t.server past f.fid.fileset m.moves z.tables.slots here).1))

      fetch_away : (m.moves ≡ 0 → ⊥) → IsMade t no_draft st → Begins
      fetch_away moved q = no_want (Asks f) is q never_again
          (λ here old none. moved (here_from t.server past f.fid.fileset m.moves z.tables.slots here).0)

    -- a Change
    module _ (c : ChangeOf) (is : m.body ≡ Change c) where
      its_own : (o : ChangeOf) → Changes c ≡ Changes o → c ≡ o
      its_own o e = cc

      -- one that isn't old isn't repeated
      not_repeated : is_old t m.host c ≡ false → IsRepeated t.server past m (Changes c) is current []
      not_repeated e o d same here fs n last done =
          let q = its_own o same in
          absurd (false≢true (sym e ∙ old_all past t z.tables m.host c z.changes (elim done [
            | inl w ↦ inl (
              c.number,
              omega arith,
              written_is past m.host d c (fs ∙ ap (λ (v : ChangeOf). v.fileset) (sym q))
                  (n ∙ ap (λ (v : ChangeOf). v.number) (sym q)) w,
            )
            | inr w ↦ inr (
              epoch past,
              w.0,
              d,
              w.1,
              fs ∙ ap (λ (v : ChangeOf). v.fileset) (sym q),
              inr (sym (n ∙ ap (λ (v : ChangeOf). v.number) (sym q)), refl),
            )
          ])))
        where
          written_is : (l : List Doing) (h : HostId) (d : DoneOf) (c : ChangeOf) → d.fileset ≡ c.fileset
              → d.bring.number ≡ c.number → HasWritten l h d → WasWritten l h c.fileset c.number
          written_is [] h d c fs n w = w
          written_is (a ∷ l) h d c fs n (inl w) = inl (w.0, w.1, w.2, w.3 ∙ fs, w.4 ∙ n)
          written_is (a ∷ l) h d c fs n (inr w) = inr (written_is l h d c fs n w)

      not_here : is_decided_here t c ≡ false → IsRepeated t.server past m (Changes c) is current []
      not_here e o d same here fs n last done = absurd (false≢true (sym e
          ∙ (is_decided past t c m.moves z.tables.slots (subst (λ (v : ChangeOf). IsDecidedHere t.server past v.fileset m.moves)
          (sym (its_own o same)) here)).0))

      -- it is old: it is answered once more
      once_more : IsDecidedHere t.server past c.fileset 0 → is_old t m.host c ≡ true → (o : Option DoneOf)
          → answer_again t m.host c ≡ o → IsMade t (repeated t no_draft m.host o) st → Begins
      once_more here old (Some d) f q = inr (record {
        change = c;
        is = is;
        live = live;
        current = current;
        here = here;
        old = old;
        done = d;
        found = f;
        is_so = λ i. making (q.0.tables i) (q.0.draft i) (q.1 i);
      })
      once_more here old None f q = no_want (Changes c) is q
          (λ o d same at_home fs n last done. absurd (never_none past t z.tables z.changes m.host c d
          (fs ∙ ap (λ (v : ChangeOf). v.fileset) (sym (its_own o same)))
          (n ∙ ap (λ (v : ChangeOf). v.number) (sym (its_own o same))) last f done))
          (λ at_home fresh none. fresh (old_is begun t (stands_r (Changes c) is) m.host c old))

      -- what it needs, by the store
      module _ (user : User) (known : user_of t.roster m.host ≡ Some user) where
        abbrev needs : List Need
        needs = change_needs st m.host user c

        needs_are : IsMeantSo c → needs ≡ row_needs tree m.host c
        needs_are meant = changes_are_told.needs tree st m.host user c (record {
          stands = k.stands;
          known = subst (λ (v : Roster). user_of v m.host ≡ Some user)
              (sym served.store.roster ∙ k.stands.keeps.roster) known;
          asked = record {
            decided = subst (λ (v : ServerId). (IsTrue c.enter) ⊎ IsDecidedAt v c.call)
                (came.own ∙ sym served.store.server) its_body.decided;
            meant = meant;
          };
        })
          where
            its_body : IsChange t.roster m c
            its_body = subst (IsBody t.roster m) is came.sound.body

        change_here : m.moves ≡ 0 → (h : Bool) → is_decided_here t c ≡ h → (o : Bool) → is_old t m.host c ≡ o
            → (v : Bool) → is_meant_so c ≡ v → (w : Bool) → is_waiting t.pending m.host (Changes c) ≡ w
            → b.state ≡ st
            → IsMadeOf t no_draft b.tables b.draft (if h && o
            then made t (repeated t no_draft m.host (answer_again t m.host c))
            else (if (h && not o) && (v && not w) then want_made t no_draft (wanted_for m.host (Changes c) needs)
            else made t no_draft)) → Begins
        change_here home true e true f v g w j s q = once_more (decided_is past t c z.tables.slots e) f (answer_again t m.host c) refl
            (q, s)
        change_here home true e false f true g false j s q =
            makes_want (Changes c) is needs home (decided_is past t c z.tables.slots e, meant_is c g)
            (λ o. false≢true (sym f ∙ old_all begun t (stands_r (Changes c) is) m.host c z.changes o)) j
            (needs_are (meant_is c g)) (not_repeated f) (record { tables = q.tables; draft = q.draft }, s)
        change_here home true e false f true g true j s q = no_want (Changes c) is (q, s) (not_repeated f)
            (λ here old none. one_waits begun t (stands_r (Changes c) is) m.host (Changes c) j none)
        change_here home true e false f false g w j s q = no_want (Changes c) is (q, s) (not_repeated f)
            (λ here old none. false≢true (sym g ∙ is_meant c here.1))
        change_here home false e o f v g w j s q = no_want (Changes c) is (q, s) (not_here e)
            (λ here old none. false≢true (sym e ∙ (is_decided past t c m.moves z.tables.slots here.0).0))

      change_away : (m.moves ≡ 0 → ⊥) → IsMade t no_draft st → Begins
      change_away moved q = no_want (Changes c) is q (λ o d same here fs n last done. absurd (moved
          (is_decided past t o m.moves z.tables.slots here).1)) (λ here old none. moved (is_decided past t c m.moves z.tables.slots here.0).1)

  -- # Whichever it is

  module _ (user : User) (known : user_of t.roster m.host ≡ Some user) where
    abbrev needs_m : List Need
    needs_m = needs_by st m user m.body

    abbrev told_m : Option Status
    told_m = told_by st m.body

    -- it isn't for a server
    not_for : Goes m.body ToServer
    not_for = subst (Goes m.body) came.way came.sound.way

    by_body : (c : Body) → m.body ≡ c → (HasGoneDown past m.host → ⊥)
        → IsBodyTaken t no_draft m needs_m told_m b.tables b.draft c → b.state ≡ body_state t m st c → Begins
    by_body Hello is up q s = greets is up (is_late t m.host) refl (has_host t.hosts.listed m.host) refl (q, s)
    by_body Bye is up q s =
        parts is up (is_live t.hosts m.host) refl (m.epoch == t.hosts.epoch) refl (q, s)
    by_body Down is up q s =
        arrives (down_tables t m.host) (record no_draft { applied = GoesDown m.host ∷ [] })
        (host_noted st m.host IsDown) (q, s)
        (λ v. down_opens tree past x z m st k served.counted.rising laws declared served.store.roster up v is)
    by_body (Fetch f) is up q s = asks _ st (others (Fetch f) is (λ e. cc) (λ e. cc) (λ e. cc))
        (λ l n home taken r. fetch_here l n f is home (is_of t.server f.fid.fileset) refl
        (is_waiting t.pending m.host (Asks f)) refl r
        (subst (IsRequestTaken t no_draft m.host needs_m told_m b.tables b.draft) is taken))
        (λ l n moved made_t. fetch_away l n f is moved made_t) (is_live t.hosts m.host) refl
        (m.epoch == t.hosts.epoch) refl (m.moves == 0) refl q s
    by_body (Change c) is up q s = asks _ st (others (Change c) is (λ e. cc) (λ e. cc) (λ e. cc))
        (λ l n home taken r. change_here l n c is user known home (is_decided_here t c) refl (is_old t m.host c) refl
        (is_meant_so c) refl (is_waiting t.pending m.host (Changes c)) refl r
        (subst (λ (d : Body). IsRequestTaken t no_draft m.host (needs_by st m user d) (told_by st d) b.tables b.draft d)
        is taken))
        (λ l n moved made_t. change_away l n c is moved made_t) (is_live t.hosts m.host) refl
        (m.epoch == t.hosts.epoch) refl (m.moves == 0) refl q s
    by_body (Returned g) is up q s = asks _ st (others (Returned g) is (λ e. cc) (λ e. cc) (λ e. cc))
        (λ l n home taken r. (let u = subst
        (IsRequestTaken t no_draft m.host needs_m told_m b.tables b.draft) is taken in
        arrives (returned_tables t m.host g) no_draft st (u, r)
        (λ v. returned_opens tree past x z m st k l n (numbered t laws) g is home v)))
        (λ l n moved made_t. arrives t no_draft st made_t
        (λ v. returned_away tree past x z m st k l n (numbered t laws) g is moved v)) (is_live t.hosts m.host) refl
        (m.epoch == t.hosts.epoch) refl (m.moves == 0) refl q s
    by_body (Kept g) is up q s = asks _ st (others (Kept g) is (λ e. cc) (λ e. cc) (λ e. cc))
        (λ l n home taken r. (let u = subst
        (IsRequestTaken t no_draft m.host needs_m told_m b.tables b.draft) is taken in
        arrives (kept_tables t m.host g) no_draft st (u, r)
        (λ v. kept_opens tree past x z m st k l n (numbered t laws) g came is home v)))
        (λ l n moved made_t. arrives t no_draft st made_t
        (λ v. kept_away tree past x z m st k l n (numbered t laws) g is moved v)) (is_live t.hosts m.host) refl
        (m.epoch == t.hosts.epoch) refl (m.moves == 0) refl q s
    by_body (GiveBack g) is up q s = asks _ (give_state t m.host g st)
        (others (GiveBack g) is (λ e. cc) (λ e. cc) (λ e. cc))
        (λ l n home taken r. (let u = subst (λ (d : Body). IsRequestTaken t no_draft m.host (needs_by st m user d)
        (told_by st d) b.tables b.draft d) is taken in
        arrives (give_tables t m.host g) (give_draft t no_draft m.host g (status_told st g.fid))
        (give_state t m.host g st) (u, r)
        (λ v. give_opens tree past x z m st k l n (numbered t laws) g is served home came v)))
        (λ l n moved made_t. arrives t no_draft st made_t
        (λ v. give_away tree past x z m st k l n (numbered t laws) g is served moved)) (is_live t.hosts m.host) refl
        (m.epoch == t.hosts.epoch) refl (m.moves == 0) refl q s
    by_body (Reclaim claim) is up q s = asks _ st (others (Reclaim claim) is (λ e. cc) (λ e. cc) (λ e. cc))
        (λ l n home taken r. (let u = subst
        (IsRequestTaken t no_draft m.host needs_m told_m b.tables b.draft) is taken in
        inl (subst (λ (v : StoreState). HasBegun t.server (Came m) tree past (making b.tables b.draft v)) (sym r)
        (claim_opens tree past x z m claim st k l n is b.tables b.draft u.0 u.1
        (subst (IsServed b.tables) r after)))))
        (λ l n moved made_t. absurd (moved (subst (λ (d : Body). HasMoves d m.moves) is came.sound.moves)))
        (is_live t.hosts m.host) refl (m.epoch == t.hosts.epoch) refl (m.moves == 0) refl q s
    by_body (Grant g) is up q s = absurd (let p = subst (λ (d : Body). Goes d ToServer) is not_for in cc)
    by_body (Done d) is up q s = absurd (let p = subst (λ (d : Body). Goes d ToServer) is not_for in cc)
    by_body (Revoke r) is up q s = absurd (let p = subst (λ (d : Body). Goes d ToServer) is not_for in cc)
    by_body (Gone g) is up q s = absurd (let p = subst (λ (d : Body). Goes d ToServer) is not_for in cc)
    by_body (Reclaimed r) is up q s = absurd (let p = subst (λ (d : Body). Goes d ToServer) is not_for in cc)
    by_body Restarted is up q s = absurd (let p = subst (λ (d : Body). Goes d ToServer) is not_for in cc)
    by_body (NotHere n) is up q s = absurd (let p = subst (λ (d : Body). Goes d ToServer) is not_for in cc)
    by_body (Ship p) is up q s = absurd (let p = subst (λ (d : Body). Goes d ToServer) is not_for in cc)
    by_body (Shipped p) is up q s = absurd (let p = subst (λ (d : Body). Goes d ToServer) is not_for in cc)

    -- nothing is taken of a host that is down
    by_down : (v : Bool) → has_host t.hosts.down m.host ≡ v
        → Whether v (IsMadeOf t no_draft b.tables b.draft (made t no_draft))
        (IsBodyTaken t no_draft m needs_m told_m b.tables b.draft m.body)
        → b.state ≡ (if v then st else body_state t m st m.body) → Begins
    by_down true e q s =
        let d = z.tables.hosts.down m.host (has_in t.hosts.down m.host e) in
        vain (λ l. l.1 (down_away past m.host d)) (inl d) (q, s)
    by_down false e q s = by_body m.body refl (is_up e) q s

    pub took_opens : IsTaken t no_draft m needs_m told_m b.tables b.draft → b.state ≡ state_taken t m st → Begins
    took_opens q s = by_down (has_host t.hosts.down m.host) refl q s
