-- The words of a step in the making: those that its cause has answered at once, and what is said after them.
use Rattle.std.proofs.Common.{◌≡◌, ◌⊎◌, ℕ, Bool, true, false, List, [], ◌∷◌, ◌++◌, Option, None, Some, inl, inr}
use Rattle.std.proofs.Common.{if◌then◌else◌, refl, sym, ◌∙◌, ap, subst}
use Rattle.std.specs.Prelude.{remove}
use Rattle.base_types.specs.declared.ids.HostId.{HostId}
use Rattle.base_types.specs.declared.ids.ServerId.{ServerId}
use Rattle.tree_answers.specs.declared.tree.Tree.{Tree}
use Rattle.tree_calls.specs.declared.part.Status.{Status}
use Rattle.tree_calls.specs.declared.reply.Reply.{Reply}
use Rattle.tree_calls.specs.declared.reply.Reply.TheVariants.{Refused}
use Rattle.base_types.specs.declared.ids.Fid.{Fid}
use Rattle.token_manager.specs.declared.want.Outlook.TheVariants.{Granted as CanBeGranted}
use Rattle.token_table.specs.Tables.{next_tokens}
use Rattle.token_types.specs.Conflicts.{need_of}
use Rattle.token_types.specs.declared.token.Need.{Need}
use Rattle.token_types.specs.declared.token.Token.{Token}
use Rattle.message_types.specs.Soundness.{IsBody, IsFetch}
use Rattle.message_types.specs.declared.asking.Change.{Change as ChangeOf}
use Rattle.message_types.specs.declared.asking.Fetch.{Fetch as FetchOf}
use Rattle.message_types.specs.declared.giving.Reclaimed.{Reclaimed as ReclaimedOf}
use Rattle.message_types.specs.declared.message.Body.TheVariants.{Change, Done, Grant, Reclaimed}
use Rattle.message_types.specs.declared.message.Message.{Message}
use Rattle.message_types.specs.declared.telling.Done.{Done as DoneOf}
use Rattle.message_types.specs.declared.telling.DoneIs.TheVariants.{Again, Known, Reply as HasReply}
use Rattle.message_types.specs.declared.telling.Grant.{Grant as GrantOf}
use Rattle.server_decides.specs.Changes.{are_home}
use Rattle.run_rules.specs.Doings.{Doing, NoGrace, TakenNow, sending}
use Rattle.run_rules.specs.Past.{EachOnce, In, appended}
use Rattle.run_rules.specs.ServerDue.{IsOfChange}
use Rattle.run_rules.specs.ServerDecides.{IsAskedHere, IsOfRow}
use Rattle.run_rules.specs.Wants.{Decides, IsQueued, body_of}
use Rattle.run_rules.specs.declared.applied.Admission.{Admission}
use Rattle.run_rules.specs.declared.applied.Applied.TheVariants.{Done as IsDone, Wants as IsWanted}
use Rattle.run_rules.specs.declared.applied.Request.{Request}
use Rattle.run_rules.specs.declared.applied.Request.TheVariants.{Change as Changes, Fetch as Asks}
use Rattle.run_rules.specs.declared.applied.Wanted.{Wanted}
use Rattle.run_rules.specs.declared.applied.Written.{Written}
use Rattle.run_rules.specs.declared.step.Cause.{Cause}
use Rattle.run_rules.specs.declared.step.Step.{Step}
use Rattle.server_decides.specs.StoreKeeping.{StandsFor}
use Rattle.store_memory.specs.Reading.{status_told}
use Rattle.store_state.specs.declared.state.StoreState.{StoreState}
use Rattle.server_tables.specs.Answers.{done_without}
use Rattle.server_tables.specs.Places.{is_of}
use Rattle.server_tables.specs.Standing.{AnsweredStand, tokens_of, want_for}
use Rattle.server_tables.specs.Updates.{enqueued, unqueued}
use Rattle.server_tables.specs.declared.pending.Pending.{Pending}
use Rattle.server_tables.specs.declared.tables.Tables.{Tables}
use Rattle.server_tables.proofs.Alike.{sent_inner}
use Rattle.server_tables.proofs.Drafting.{append_end}
use Rattle.server_tables.proofs.Greeting.{in_end, in_front, in_parts}
use Rattle.server_tables.proofs.Making.{sending_both}
use Rattle.server_tables.proofs.Granting.{are_for}
use Rattle.server_tables.proofs.Judged.{here_from}
use Rattle.server_tables.proofs.Numbered.{in_removed}
use Rattle.server_decides.specs.Drafts.{saying, wanting, word}
use Rattle.server_decides.specs.Taking.{IsMadeOf, Made, wanted_for}
use Rattle.server_decides.specs.Draft.{Draft}
use Rattle.server_decides.specs.Claiming.{AdmitsOne}
use Rattle.server_decides.specs.Writing.{done_of, written_made, written_of}
use Rattle.server_decides.specs.Deciding.{Decides as DecidesOne, IsDoing, IsDueOf, IsMadeBy, IsPlaced, IsRefusing}
use Rattle.server_decides.specs.Deciding.{outlook_at}
use Rattle.server_decides.specs.Deciding.{anew_made, is_fresh}
use Rattle.server_decides.specs.declared.deciding.Decision.{Decision}
use Rattle.server_decides.specs.declared.deciding.Decision.TheVariants.{Anew, Do, Refuse}
use Rattle.server_decides.specs.Serving.{CameSo}
use Rattle.server_decides.specs.Running.{Making}
use Rattle.server_decides.specs.Sending.{IsAfter, IsSending, Looking, Sends, empty_of, grant_made, grant_of}
use Rattle.server_decides.specs.Sending.{granted_out}
use Rattle.server_decides.specs.Sending.{sent_made, use_of}
use Rattle.server_decides.specs.declared.sending.Sending.{Sending}
use Rattle.server_exporter.proofs.Claims.{in_said, said_to}
use Rattle.server_exporter.proofs.Giving.{granted_out_is}
use Rattle.server_exporter.proofs.Held.{answered_inner, once_end}
use Rattle.server_exporter.proofs.Homes.{row_here}
use Rattle.server_exporter.proofs.Making.{as_sent, undecided}
use Rattle.server_exporter.proofs.Sendings.{Reason, fetch_granted, why}
use Rattle.server_exporter.proofs.Sendings.Reason.{HasEntered, IsOther, IsUsed}
use Rattle.server_exporter.proofs.Sends.{IsOnTheWay}
use Rattle.server_decides.proofs.Served.{came_at, of_each, placed_in}

-- a Change that is written down is answered by one of some words
abbrev pub IsAnsweredIn : List Message → Written → Type 0
IsAnsweredIn sent v = (m : Message) × In m sent × (m.host ≡ v.answer.host) × ((o : DoneOf) × (m.body ≡ Done o)
    × (o.outcome ≡ HasReply v.answer.reply) × (o.fileset ≡ v.fileset) × (o.bring.number ≡ v.number))

answered_on : (ms ns : List Message) (v : Written) → IsAnsweredIn ms v → IsAnsweredIn (ms ++ ns) v
answered_on ms ns v q = (q.0, in_front q.0 ms ns q.1, q.2, q.3)

abbrev pub HomesOf : Tables → Type 0
HomesOf y = (t : Token) → In t (tokens_of y.tokens.grants) → is_of y.server t.fid.fileset ≡ true

one_in : {A : Type 0} (x y : A) → In x (y ∷ []) → x ≡ y
one_in x y (inl e) = e
one_in x y (inr i) = elim i [ ]

-- `first` is the step once its cause was taken
module _ (cause : Cause) (past : List Doing) (first : Draft) where
  -- a Change that the step takes, or that waited before it
  abbrev pub Origin : HostId → ChangeOf → Type 0
  Origin h c = ((n : ℕ) × ((s : Step) → s.cause ≡ cause → TakenNow past s h n (Change c)))
      ⊎ ((w : Wanted) × IsQueued past w × (w.host ≡ h) × (w.request ≡ Changes c))

  -- a word that is said after those
  pub data IsLater (admitted : List Admission) (m : Message) : Type 0 where
    OfDone : (o : DoneOf) → m.body ≡ Done o → (c : ChangeOf) → IsOfChange c o → Origin m.host c → IsLater admitted m
    OfGrant : (g : GrantOf) → m.body ≡ Grant g → IsLater admitted m
    OfClaim : (r : ReclaimedOf) → m.body ≡ Reclaimed r → (a : Admission) → In a admitted → a.host ≡ m.host
        → IsLater admitted m

  pub record IsSpoken (x : Tables) (d : Draft) : Type 0 where
    pub origin : (p : Pending) (c : ChangeOf) → In p x.pending → p.wanted.request ≡ Changes c
        → Origin p.wanted.host c
    pub words : (m : Message) → In m d.sent → In m first.sent ⊎ IsLater d.admitted m
    pub kept : (m : Message) → In m first.sent → In m d.sent
    pub written : (v : Written) → In (IsDone v) d.applied → IsAnsweredIn d.sent v

  -- # Decisions

  module _ (x : Tables) (d : Draft) (z : IsSpoken x d) (at : ℕ) (p : Pending) (place : IsPlaced x.pending at p)
      (c : ChangeOf) (is : p.wanted.request ≡ Changes c) where
    its : Origin p.wanted.host c
    its = z.origin p c (placed_in x.pending at p place) is

    -- it is written down
    module _ (reply : Reply) where
      abbrev both : Made
      both = written_made (unqueued x at p.number) d p.wanted.host c reply

      abbrev told : Message
      told = word x p.wanted.host (Done (done_of c reply))

      written_so : (v : Written) → In (IsDone v) both.draft.applied → IsAnsweredIn both.draft.sent v
      written_so v i =
          elim (in_parts (IsDone v) d.applied (IsDone (written_of p.wanted.host c reply) ∷ []) i) [
            | inl j ↦ answered_on d.sent (told ∷ []) v (z.written v j)
            | inr j ↦ new (one_in (IsDone v) (IsDone (written_of p.wanted.host c reply)) j)
          ]
        where
          new : IsDone v ≡ IsDone (written_of p.wanted.host c reply) → IsAnsweredIn both.draft.sent v
          new e =
              let q : v ≡ written_of p.wanted.host c reply = cc in
              subst (IsAnsweredIn both.draft.sent) (sym q)
              (told, in_end told d.sent, refl, (done_of c reply, refl, refl, refl, refl))

      pub spoken_written : IsSpoken both.tables both.draft
      spoken_written = record {
        origin = λ q o i. z.origin q o (in_removed x.pending at q i);
        words = λ m i. elim (in_parts m d.sent (told ∷ []) i) [
          | inl j ↦ z.words m j
          | inr j ↦ inr (subst (IsLater d.admitted) (sym (one_in m told j))
              (OfDone (done_of c reply) refl c (refl, refl) its))
        ];
        kept = λ m i. in_front m d.sent (told ∷ []) (z.kept m i);
        written = written_so;
      }

    -- its want is made anew
    module _ (needs : List Need) where
      abbrev anew : Made
      anew = anew_made (unqueued x at p.number) d p needs

      abbrev new : Wanted
      new = wanted_for p.wanted.host p.wanted.request needs

      abbrev drafted : Draft
      drafted = wanting d new x.next

      its_written : (v : Written) → In (IsDone v) drafted.applied → IsAnsweredIn d.sent v
      its_written v i = elim (in_parts (IsDone v) d.applied (IsWanted new ∷ []) i) [
        | inl j ↦ z.written v j
        | inr j ↦ absurd (let e : IsDone v ≡ IsWanted new = one_in (IsDone v) (IsWanted new) j in cc)
      ]

      wanted_so : IsSpoken (enqueued (unqueued x at p.number) new) drafted
      wanted_so = record {
        origin = λ q o i. λ e. elim (in_parts q (remove x.pending at)
            (record { number = x.next; wanted = new } ∷ []) i) [
              | inl j ↦ z.origin q o (in_removed x.pending at q j) e
              | inr j ↦ (let f = one_in q (record { number = x.next; wanted = new }) j in
                  subst (λ (h : HostId). Origin h o) (sym (ap (λ (y : Pending). y.wanted.host) f))
                  (z.origin p o (placed_in x.pending at p place)
                  (sym (ap (λ (y : Pending). y.wanted.request) f) ∙ e)))
            ];
        words = z.words;
        kept = z.kept;
        written = its_written;
      }

      pub spoken_anew : IsSpoken anew.tables anew.draft
      spoken_anew = by (is_fresh d.fresh p.number)
        where
          by : (b : Bool) → IsSpoken anew.tables (if b then drafted else record drafted { fresh = d.fresh })
          by true = wanted_so
          by false = record {
            origin = wanted_so.origin;
            words = wanted_so.words;
            kept = wanted_so.kept;
            written = wanted_so.written;
          }

  made_of : (x' : Tables) (d' : Draft) (y : Tables) (e : Draft) (both : Made) → IsMadeOf x' d' y e both
      → IsSpoken both.tables both.draft → IsSpoken y e
  made_of x' d' y e _ h z = subst (λ (q : Tables × Draft). IsSpoken q.0 q.1)
      (λ i. (sym h.tables i, sym h.draft i)) z

  pub decides_spoken : (a b : Making) → DecidesOne a b → IsSpoken a.tables a.draft → IsSpoken b.tables b.draft
  decides_spoken a b s z = by s.p.wanted.request refl
    where
      change : (c : ChangeOf) → s.p.wanted.request ≡ Changes c → (dec : Decision)
          → IsMadeBy (unqueued a.tables s.due.at s.p.number) a.draft a.state s.p b.tables b.draft b.state dec
          → IsSpoken b.tables b.draft
      change c is (Refuse r) so =
          let q = subst (IsRefusing (unqueued a.tables s.due.at s.p.number) a.draft a.state s.p.wanted.host r b.tables
          b.draft b.state) is so in
          made_of (unqueued a.tables s.due.at s.p.number) a.draft b.tables b.draft _ q.both
          (spoken_written a.tables a.draft z s.due.at s.p s.place c is (Refused r))
      change c is Do so =
          let q = subst (IsDoing (unqueued a.tables s.due.at s.p.number) a.draft a.state s.p.wanted.host b.tables
          b.draft b.state) is so in
          made_of (unqueued a.tables s.due.at s.p.number) a.draft b.tables b.draft _ q.both
          (spoken_written a.tables a.draft z s.due.at s.p s.place c is q.reply)
      change c is (Anew needs) so =
          made_of (unqueued a.tables s.due.at s.p.number) a.draft b.tables b.draft _ so.0
          (spoken_anew a.tables a.draft z s.due.at s.p s.place c is needs)

      by : (r : Request) → s.p.wanted.request ≡ r → IsSpoken b.tables b.draft
      by (Changes c) is = change c is s.due.decision s.so
      by (Asks f) is = absurd (let e : Some s.due.decision ≡ None =
          subst (IsDueOf a.tables a.state s.p (is_fresh a.draft.fresh s.p.number) (Some s.due.decision)) is s.is in cc)

  -- # Claims

  later_on : (xs bs : List Admission) (m : Message) → IsLater xs m → IsLater (xs ++ bs) m
  later_on xs bs m (OfDone o e c of from) = OfDone o e c of from
  later_on xs bs m (OfGrant g e) = OfGrant g e
  later_on xs bs m (OfClaim r e a i h) = OfClaim r e a (in_front a xs bs i) h

  pub admits_spoken : (a b : Made) → AdmitsOne a b → IsSpoken a.tables a.draft → IsSpoken b.tables b.draft
  admits_spoken a b one z =
      let host = one.admission.host in
      let ad : Admission = record { host = host; tokens = one.admission.tokens } in
      let said = said_to a.tables host one.so.answers in
      subst (λ (q : Tables × Draft). IsSpoken q.0 q.1) (λ i. (sym one.so.tables i, sym one.so.draft i)) (record {
        origin = z.origin;
        words = λ m i. elim (in_parts m a.draft.sent said i) [
          | inl j ↦ elim (z.words m j) [
            | inl k ↦ inl k
            | inr l ↦ inr (later_on a.draft.admitted (ad ∷ []) m l)
          ]
          | inr j ↦ (let f = in_said a.tables host one.so.answers m j in
              inr (OfClaim f.0 (ap (λ (n : Message). n.body) (sym f.2)) ad (in_end ad a.draft.admitted)
              (ap (λ (n : Message). n.host) f.2)))
        ];
        kept = λ m i. in_front m a.draft.sent said (z.kept m i);
        written = λ v i. answered_on a.draft.sent said v (z.written v i);
      })

  -- # Answers

  said_so : (x y : Tables) (d : Draft) (m : Message) → IsSpoken x d → IsLater d.admitted m
      → ((q : Pending) → In q y.pending → In q x.pending) → IsSpoken y (saying d m)
  said_so x y d m z l less = record {
    origin = λ q o i. z.origin q o (less q i);
    words = λ n i. elim (in_parts n d.sent (m ∷ []) i) [
      | inl j ↦ z.words n j
      | inr j ↦ inr (subst (IsLater d.admitted) (sym (one_in n m j)) l)
    ];
    kept = λ n i. in_front n d.sent (m ∷ []) (z.kept n i);
    written = λ v i. answered_on d.sent (m ∷ []) v (z.written v i);
  }

  module _ (server : ServerId) (tree : Tree) (st : StoreState) (s : Step) (before : List Doing)
      (k : StandsFor tree st) (kept_homes : are_home tree ≡ true) where
    -- what is said of the words, and that each is said once
    pub record IsSaid (a : Looking) : Type 0 where
      pub way : IsOnTheWay server tree st s before k a
      pub spoken : IsSpoken a.tables a.draft
      pub once : EachOnce a.draft.sent
      pub homes : HomesOf a.tables
      pub answered : AnsweredStand (appended (sending a.draft.sent) before) a.tables.recovering.answers

    module _ (a : Looking) (g : IsSaid a) (p : Pending) (place : IsPlaced a.tables.pending a.at p) where
      abbrev x : Tables
      x = a.tables

      abbrev now : List Doing
      now = appended (sending a.draft.sent) before

      waits : IsQueued now p.wanted
      waits = g.way.stands.wants.pending p (placed_in x.pending a.at p place)

      -- a word that decides the want is new
      new_word : (m : Message) → Decides (as_sent m) p.wanted.host p.wanted.request → In m a.draft.sent → ⊥
      new_word m d i = undecided a.draft.sent before p.wanted waits m i d

      abbrev IsOut : Tables → Draft → Type 0
      IsOut y e = IsSpoken y e × EachOnce e.sent × HomesOf y
          × AnsweredStand (appended (sending e.sent) before) y.recovering.answers

      said : (y : Tables) (m : Message) → y.pending ≡ remove x.pending a.at
          → Decides (as_sent m) p.wanted.host p.wanted.request → IsLater a.draft.admitted m → HomesOf y
          → y.recovering.answers ≡ x.recovering.answers → IsOut y (saying a.draft m)
      said y m pending d l at_home answers = (
        said_so x y a.draft m g.spoken l
            (λ q i. in_removed x.pending a.at q (subst (In q) pending i)),
        once_end a.draft.sent m g.once (new_word m d),
        at_home,
        subst (λ (l : List Doing). AnsweredStand l y.recovering.answers)
            (sym (ap (λ (l : List Doing). appended l before) (sending_both a.draft.sent m)
            ∙ append_end (sending a.draft.sent) (as_sent m) before))
            (subst (AnsweredStand (as_sent m ∷ now)) (sym answers)
            (answered_inner server now (as_sent m) x.recovering.answers (sent_inner m.host m.epoch m.moves m.body)
            (λ h ts q. cc) g.answered)),
      )

      came : CameSo x.server x.roster p.wanted
      came = came_at x st g.way.served a.at p place

      -- a Fetch is of one file, which is here
      fetch_home : (f : FetchOf) → p.wanted.request ≡ Asks f → (need : Need) → In need p.wanted.needs
          → is_of x.server need.fid.fileset ≡ true
      fetch_home f is need i =
          let its : IsFetch came.m f = subst (λ (r : Request). IsBody x.roster came.m (body_of r)) is
          (subst (IsBody x.roster came.m) came.body came.came.sound.body) in
          let same : need.fid ≡ f.fid = of_each (λ (n : Need). n.fid ≡ f.fid) f.needs its.file need
          (subst (In need) (came.needs f is) i) in
          ap (λ (y : Fid). is_of x.server y.fileset) same
          ∙ (here_from x.server now f.fid.fileset p.wanted.moves g.way.stands.slots
          (subst (IsAskedHere x.server now p.wanted.moves) is (g.way.stands.wants.here p.wanted waits))).1

      -- the tokens that it is granted
      granted_home : NoGrace now → outlook_at x p.number ≡ CanBeGranted
          → ((need : Need) → In need p.wanted.needs → is_of x.server need.fid.fileset ≡ true)
          → HomesOf (granted_out x a.at p.number)
      granted_home over ready needs t i =
          let e = granted_out_is now x g.way.stands g.way.served.counted.rising p
          (placed_in x.pending a.at p place) over ready a.at in
          elim (in_parts t (tokens_of x.tokens.grants)
          (next_tokens x.tokens.grants.table (want_for p).host p.wanted.needs)
          (subst (λ (y : Tables). In t (tokens_of y.tokens.grants)) e i)) [
            | inl j ↦ g.homes t j
            | inr j ↦ needs (need_of t) (are_for x.tokens.grants.table.server x.tokens.grants.table.epoch
                x.tokens.grants.table.last (want_for p).host p.wanted.needs t j).need
          ]

      -- a Fetch
      fetched : (f : FetchOf) → p.wanted.request ≡ Asks f → NoGrace now → outlook_at x p.number ≡ CanBeGranted
          → (o : Option Status)
          → IsOut (grant_made x a.draft st a.at p f o).tables (grant_made x a.draft st a.at p f o).draft
      fetched f is over ready (Some status) =
          said _ (word x p.wanted.host (Grant (grant_of x st p f status))) refl
          (subst (λ (r : Request). Decides (as_sent (word x p.wanted.host (Grant (grant_of x st p f status))))
          p.wanted.host r) (sym is) (x.hosts.epoch, 0, grant_of x st p f status, refl, refl, refl))
          (OfGrant (grant_of x st p f status) refl) (granted_home over ready (fetch_home f is)) refl
      fetched f is over ready None =
          said _ (word x p.wanted.host (Grant (empty_of x f))) refl
          (subst (λ (r : Request). Decides (as_sent (word x p.wanted.host (Grant (empty_of x f)))) p.wanted.host r)
          (sym is) (x.hosts.epoch, 0, empty_of x f, refl, refl, refl))
          (OfGrant (empty_of x f) refl) g.homes refl

      -- a Change
      done : (c : ChangeOf) → p.wanted.request ≡ Changes c → (o : DoneOf) → o.fileset ≡ c.fileset
          → o.bring.number ≡ c.number → (y : Tables) → y.pending ≡ remove x.pending a.at → HomesOf y
          → y.recovering.answers ≡ x.recovering.answers → IsOut y (saying a.draft (word x p.wanted.host (Done o)))
      done c is o fileset number y pending at_home answers =
          said y (word x p.wanted.host (Done o)) pending
          (subst (λ (r : Request). Decides (as_sent (word x p.wanted.host (Done o))) p.wanted.host r) (sym is)
          (inr (x.hosts.epoch, 0, o, refl, fileset, number)))
          (OfDone o refl c (sym fileset, sym number)
          (g.spoken.origin p c (placed_in x.pending a.at p place) is)) at_home answers

      use_home : (c : ChangeOf) → IsOfRow tree p.wanted c → (need : Need) → In need p.wanted.needs
          → is_of x.server need.fid.fileset ≡ true
      use_home c row need i = subst (λ (v : ServerId). is_of v need.fid.fileset ≡ true) g.way.served.store.server
          (row_here tree st k kept_homes p.wanted.host c need (subst (In need) row.0 i))

      changed : (c : ChangeOf) (is : p.wanted.request ≡ Changes c) (d : Sending)
          → Reason now x st tree g.way.stands g.way.served k p (placed_in x.pending a.at p place) c is d
          → IsOut (sent_made x a.draft st a.at p d).tables (sent_made x a.draft st a.at p d).draft
      changed c is d (IsUsed e u n row can ready) =
          subst (λ (t : Sending). IsOut (sent_made x a.draft st a.at p t).tables
          (sent_made x a.draft st a.at p t).draft)
          (sym e) (done c is (use_of x p c.fileset c.number) refl refl _ refl
          (granted_home can.over ready (use_home c row)) refl)
      changed c is d (IsOther e u n row can) =
          subst (λ (t : Sending). IsOut (sent_made x a.draft st a.at p t).tables
          (sent_made x a.draft st a.at p t).draft)
          (sym e) (done c is (done_without c.fileset Again c.number) refl refl _ refl g.homes refl)
      changed c is d (HasEntered id e t _ can) =
          subst (λ (t : Sending). IsOut (sent_made x a.draft st a.at p t).tables
          (sent_made x a.draft st a.at p t).draft)
          (sym e) (done c is (done_without c.fileset (Known id) c.number) refl refl _ refl g.homes refl)

      answered : (d : Sending) → IsSending x st p (Some d) → (r : Request) → p.wanted.request ≡ r
          → IsOut (sent_made x a.draft st a.at p d).tables (sent_made x a.draft st a.at p d).draft
      answered d h (Asks f) is =
          let q = fetch_granted now x st tree g.way.stands g.way.served k p (placed_in x.pending a.at p place) f is d h
          in
          subst (λ (t : Sending). IsOut (sent_made x a.draft st a.at p t).tables
          (sent_made x a.draft st a.at p t).draft)
          (sym q.0) (fetched f is q.1.over q.2 (status_told st f.fid))
      answered d h (Changes c) is =
          changed c is d (why now x st tree g.way.stands g.way.served k p (placed_in x.pending a.at p place) c is d h)

    pub sends_said : (a b : Looking) → IsSaid a → Sends st a b → IsOnTheWay server tree st s before k b → IsSaid b
    sends_said a b g h way = by h.sending h.is h.so
      where
        by : (o : Option Sending) → IsSending a.tables st h.p o → IsAfter st a h.p b o → IsSaid b
        by None is so = record {
          way = way;
          spoken = subst (λ (l : Looking). IsSpoken l.tables l.draft) (sym so) g.spoken;
          once = subst (λ (l : Looking). EachOnce l.draft.sent) (sym so) g.once;
          homes = subst (λ (l : Looking). HomesOf l.tables) (sym so) g.homes;
          answered = subst (λ (l : Looking). AnsweredStand (appended (sending l.draft.sent) before)
              l.tables.recovering.answers) (sym so) g.answered;
        }
        by (Some d) is so =
            let q = answered a g h.p h.place d is h.p.wanted.request refl in
            record {
              way = way;
              spoken = subst (λ (l : Looking). IsSpoken l.tables l.draft) (sym so) q.0;
              once = subst (λ (l : Looking). EachOnce l.draft.sent) (sym so) q.1;
              homes = subst (λ (l : Looking). HomesOf l.tables) (sym so) q.2;
              answered = subst (λ (l : Looking). AnsweredStand (appended (sending l.draft.sent) before)
                  l.tables.recovering.answers) (sym so) q.3;
            }
