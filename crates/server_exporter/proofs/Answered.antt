-- A Fetch that waits is granted, or a Change answered that isn't written down: the tables stand, and the rules let it
-- be
-- sent.
use Rattle.std.proofs.Common.{◌≡◌, ◌+◌, ◌==◌, ℕ, Bool, true, false, List, [], ◌∷◌, Option, None, Some, map}
use Rattle.std.proofs.Common.{if◌then◌else◌}
use Rattle.std.proofs.Common.{inl, inr, refl, sym, ◌∙◌, ap, subst}
use Rattle.std.specs.Prelude.{remove}
use Rattle.std.specs.Option.{option_and_then}
use Rattle.std.proofs.lemmas.Bool.{and_from, and_parts, eq-eqb, eqb-true}
use Rattle.base_types.specs.declared.ids.Fid.{Fid}
use Rattle.base_types.specs.declared.ids.FilesetId.{FilesetId}
use Rattle.base_types.specs.declared.ids.HostId.{HostId}
use Rattle.base_types.specs.declared.ids.ServerId.{ServerId}
use Rattle.tree_answers.specs.declared.tree.Tree.{Tree}
use Rattle.tree_calls.specs.declared.part.Status.{Status}
use Rattle.token_manager.specs.Grants.{with_grant}
use Rattle.token_manager.specs.Managers.{after_decide}
use Rattle.token_manager.specs.declared.want.Outlook.TheVariants.{Granted as CanBeGranted}
use Rattle.token_manager.specs.declared.want.Want.{Want as WantOf}
use Rattle.token_table.specs.Tables.{next_tokens, tokens_from}
use Rattle.token_types.specs.Conflicts.{need_of}
use Rattle.token_types.specs.declared.token.Need.{Need}
use Rattle.token_types.specs.declared.token.Token.{Token}
use Rattle.message_types.specs.Soundness.{IsBody, IsFetch}
use Rattle.message_types.specs.declared.asking.Change.{Change as ChangeOf}
use Rattle.message_types.specs.declared.asking.Fetch.{Fetch as FetchOf}
use Rattle.message_types.specs.declared.message.Body.TheVariants.{Done as IsDone, Grant as IsGrant}
use Rattle.message_types.specs.declared.message.Message.{Message}
use Rattle.message_types.specs.declared.telling.Done.{Done as DoneOf}
use Rattle.message_types.specs.declared.telling.DoneIs.{DoneIs}
use Rattle.message_types.specs.declared.telling.DoneIs.TheVariants.{Granted as IsGranted}
use Rattle.message_types.specs.declared.telling.Grant.{Grant as GrantOf}
use Rattle.run_rules.specs.Doings.{Doing, NoGrace}
use Rattle.run_rules.specs.Doings.Doing.{Sent}
use Rattle.run_rules.specs.Past.{In}
use Rattle.run_rules.specs.ServerDecides.{IsAskedHere, IsMeantSo, IsOfRow, NotRefused}
use Rattle.run_rules.specs.ServerMay.{AnsweredSo, AreNeeds, IsEmptyGrant, IsThere, MaySend, TellsKept}
use Rattle.run_rules.specs.ServerMay.AnsweredSo.{TakesToken}
use Rattle.run_rules.specs.ServerTokens.{ServerTokens}
use Rattle.run_rules.specs.Wants.{CanGrant, IsQueued, asker, asker_of, body_of, exporter, is_use}
use Rattle.run_rules.specs.declared.applied.Request.{Request}
use Rattle.run_rules.specs.declared.applied.Request.TheVariants.{Change as Changes, Fetch as Asks}
use Rattle.run_rules.specs.declared.applied.Wanted.{Wanted}
use Rattle.run_rules.specs.declared.step.Step.{Step}
use Rattle.server_decides.specs.StoreKeeping.{StandsFor}
use Rattle.store_memory.specs.Reading.{status_told}
use Rattle.store_state.specs.declared.state.StoreState.{StoreState}
use Rattle.server_decides.proofs.Granting.{grants_tell}
use Rattle.server_tables.specs.Answers.{AreLastChanges, done_without, is_for_change, last_change, last_written, renewed}
use Rattle.server_tables.specs.Places.{is_of}
use Rattle.server_tables.specs.Standing.{Stands, want_for}
use Rattle.server_tables.specs.Updates.{unqueued}
use Rattle.server_tables.specs.declared.pending.Pending.{Pending}
use Rattle.server_tables.specs.declared.tables.LastChange.{LastChange}
use Rattle.server_tables.specs.declared.tables.Tables.{Tables}
use Rattle.server_tables.proofs.Answering.{StaysWritten, answer_may, stands_with, stands_without, tokens_with}
use Rattle.server_tables.proofs.Answering.{tokens_without}
use Rattle.server_tables.proofs.Granting.{IsFor, are_for}
use Rattle.server_tables.proofs.Judged.{found_first, here_from, here_to, none_found}
use Rattle.server_tables.proofs.Numbered.{Rise}
use Rattle.server_tables.proofs.Serving.{IsServed as IsFetched, are_needs, grant_may, grant_stands, grant_tokens}
use Rattle.server_tables.proofs.Serving.{IsLess, none_may, none_stands, none_tokens}
use Rattle.server_tables.proofs.Updated.{renewed_is}
use Rattle.server_tables.proofs.Unqueued.{is_less, left_decided, left_is}
use Rattle.run_rules.specs.declared.applied.Written.{Written}
use Rattle.server_decides.specs.Drafts.{no_draft, word}
use Rattle.server_decides.specs.Deciding.{IsPlaced, outlook_at}
use Rattle.server_decides.specs.Serving.{CameSo, IsServed}
use Rattle.server_decides.specs.Sending.{empty_of, file_of, grant_of, granted_out, granted_tokens, granting}
use Rattle.server_decides.specs.Sending.{left_out, said_made, use_made, use_of}
use Rattle.server_exporter.proofs.Giving.{granted_out_is, its_tokens}
use Rattle.server_exporter.proofs.Lone.{IsLone, row_lone}
use Rattle.server_exporter.proofs.Making.{as_sent, change_home}
use Rattle.server_decides.proofs.Served.{came_at, of_each, placed_in}

-- a message is sent, and these are the tables then
pub record IsAnswered (past : List Doing) (x : Tables) (tree : Tree) (m : Message) (y : Tables) : Type 0 where
  pub stands : Stands (as_sent m ∷ past) y
  pub tokens : ServerTokens x.server past (as_sent m)
  pub may : (s : Step) → MaySend x.server tree s past (as_sent m)

-- # A Fetch

module _ (past : List Doing) (x : Tables) (st : StoreState) (tree : Tree) (z : Stands past x) (s : IsServed x st)
    (k : StandsFor tree st) (at : ℕ) (p : Pending) (place : IsPlaced x.pending at p) (f : FetchOf)
    (is : p.wanted.request ≡ Asks f) (can : CanGrant x.server past p.wanted) where
  abbrev w : Wanted
  w = p.wanted

  abbrev rise : Rise x.pending
  rise = s.counted.rising

  came : CameSo x.server x.roster w
  came = came_at x st s at p place

  home : w.moves ≡ 0
  home = (here_from x.server past f.fid.fileset w.moves z.slots
      (subst (IsAskedHere x.server past w.moves) is
      (z.wants.here w (z.wants.pending p (placed_in x.pending at p place))))).0

  wanted_is : w ≡ record { host = w.host; request = Asks f; moves = 0; needs = f.needs }
  wanted_is = λ i. record { host = w.host; request = is i; moves = home i; needs = came.needs f is i }

  its_fetch : IsFetch came.m f
  its_fetch = subst (λ (r : Request). IsBody x.roster came.m (body_of r)) is
      (subst (IsBody x.roster came.m) came.body came.came.sound.body)

  fetched : IsFetched past x p w.host 0 f
  fetched = record {
    stands = z;
    waits = placed_in x.pending at p place;
    is = wanted_is;
    can = can;
    of_file = λ need i. of_each (λ (n : Need). n.fid ≡ f.fid) f.needs its_fetch.file need i;
  }

  -- the object is there
  module _ (ready : outlook_at x p.number ≡ CanBeGranted) (status : Status)
      (there : status_told st f.fid ≡ Some status) where
    abbrev grant : GrantOf
    grant = grant_of x st p f status

    abbrev want : WantOf
    want = record { number = p.number; host = w.host; needs = f.needs }

    want_is : want_for p ≡ want
    want_is = ap (λ (v : Wanted). want_for (record { number = p.number; wanted = v })) wanted_is

    tokens_are : grant.bring.tokens ≡ next_tokens x.tokens.grants.table w.host f.needs
    tokens_are =
        its_tokens past x z rise p (placed_in x.pending at p place) can.over ready
        ∙ ap (λ (v : WantOf). next_tokens x.tokens.grants.table v.host v.needs) want_is

    abbrev left : List WantOf
    left = (unqueued (record x { tokens = after_decide x.tokens p.number }) at p.number).tokens.queue

    queue_is : left ≡ map want_for (remove x.pending at)
    queue_is = left_decided past x z rise at p place.0 place.1 can.over

    less : IsLess x.pending (remove x.pending at)
        (record { host = w.host; request = Asks f; moves = 0; needs = f.needs })
    less = subst (IsLess x.pending (remove x.pending at)) wanted_is (is_less past x z rise at p place.0 place.1)

    tells : TellsKept tree grant
    tells = grants_tell.tells tree st f.needs status grant k (record {
      there = there;
      brings = are_needs past x p w.host 0 f fetched grant refl refl refl (remove x.pending at) less left queue_is
          tokens_are;
      status_is = refl;
      pieces_are = refl;
      entries_are = refl;
    })

    is_there : IsThere tree grant
    is_there = grants_tell.there tree st status grant k there

    pub fetch_told : IsAnswered past x tree (word x w.host (IsGrant grant)) (granted_out x at p.number)
    fetch_told = record {
      stands = subst (Stands (Sent w.host x.hosts.epoch 0 (IsGrant grant) ∷ past))
          (sym (granted_out_is past x z rise p (placed_in x.pending at p place) can.over ready at))
          (subst (λ (v : WantOf). Stands (Sent w.host x.hosts.epoch 0 (IsGrant grant) ∷ past) (record x {
            tokens = record x.tokens { grants = with_grant x.tokens.grants v; queue = left };
            stamp = x.stamp + 1;
            pending = remove x.pending at;
          })) (sym want_is)
          (grant_stands past x p w.host 0 f fetched grant refl refl refl (remove x.pending at) less left queue_is
          tokens_are));
      tokens = grant_tokens past x p w.host 0 f fetched grant refl refl refl (remove x.pending at) less left queue_is
          tokens_are;
      may = λ step. grant_may past x p w.host 0 f fetched grant refl refl refl (remove x.pending at) less left queue_is
          tokens_are tree step is_there tells;
    }

  -- it isn't
  module _ (gone : status_told st f.fid ≡ None) where
    abbrev empty : GrantOf
    empty = empty_of x f

    abbrev rest : List WantOf
    rest = (unqueued x at p.number).tokens.queue

    rest_is : rest ≡ map want_for (remove x.pending at)
    rest_is = left_is past x z rise at p place.0 place.1 can.over

    less_so : IsLess x.pending (remove x.pending at)
        (record { host = w.host; request = Asks f; moves = 0; needs = f.needs })
    less_so = subst (IsLess x.pending (remove x.pending at)) wanted_is (is_less past x z rise at p place.0 place.1)

    is_empty : IsEmptyGrant empty
    is_empty = record { tokens = refl; status = refl; pieces = refl; entries = refl }

    pub fetch_empty : IsAnswered past x tree (word x w.host (IsGrant empty)) (left_out x at p.number)
    fetch_empty = record {
      stands = none_stands past x p w.host 0 f fetched empty refl refl refl (remove x.pending at) less_so rest rest_is
          is_empty;
      tokens = none_tokens past x p w.host 0 f fetched empty refl refl refl (remove x.pending at) less_so rest rest_is
          is_empty;
      may = λ step. none_may past x p w.host 0 f fetched empty refl refl refl (remove x.pending at) less_so rest rest_is
          is_empty tree step (grants_tell.gone tree st empty k gone);
    }

-- # A Change

needs_are : (server : ServerId) (now last : ℕ) (host : HostId) (needs : List Need)
    → map need_of (tokens_from server now last host needs) ≡ needs
needs_are server now last host [] = refl
needs_are server now last host (n ∷ ns) = ap (λ l. n ∷ l) (needs_are server now (last + 1) host ns)

-- for one need there is one token
alone : (server : ServerId) (now last : ℕ) (host : HostId) (needs : List Need) → IsLone needs → (t u : Token)
    → In t (tokens_from server now last host needs) → In u (tokens_from server now last host needs) → t ≡ u
alone server now last host [] l t u i j = elim i [ ]
alone server now last host (n ∷ []) l t u (inl p) (inl q) = p ∙ sym q
alone server now last host (n ∷ []) l t u (inl p) (inr j) = elim j [ ]
alone server now last host (n ∷ []) l t u (inr i) j = elim i [ ]
alone server now last host (n ∷ m ∷ ns) l t u i j = absurd l

-- what was written down last stays so
module _ (x : Tables) (h : HostId) (f : FilesetId) (single : AreLastChanges x.changes) where
  by_some : (q : Option LastChange) → last_change x.changes h f ≡ q → (o : Written)
      → option_and_then (λ (last : LastChange). last.written) q ≡ Some o
      → (l : LastChange) × In l x.changes × (l.host ≡ h) × (l.fileset ≡ f) × (l.written ≡ Some o)
  by_some None e o r = absurd (cc)
  by_some (Some l) e o r =
      let p = found_first (is_for_change h f) x.changes l e in
      let k = and_parts (l.host.0 == h.0) (l.fileset.0 == f.0) p.1 in
      let a : l.host.0 ≡ h.0 = eqb-true l.host.0 h.0 k.0 in
      let b : l.fileset.0 ≡ f.0 = eqb-true l.fileset.0 f.0 k.1 in
      (l, p.0, (λ i. record { 0 = a i }), (λ i. record { 0 = b i }), r)

  by_all : (q : Option LastChange) → last_change x.changes h f ≡ q → (l : LastChange) → In l x.changes → l.host ≡ h
      → l.fileset ≡ f → l.written ≡ option_and_then (λ (last : LastChange). last.written) q
  by_all None e l i a b =
      absurd (none_found (is_for_change h f) x.changes e l i
      (and_from (l.host.0 == h.0) (l.fileset.0 == f.0) (eq-eqb l.host.0 h.0 (ap (λ (z : HostId). z.0) a))
      (eq-eqb l.fileset.0 f.0 (ap (λ (z : FilesetId). z.0) b))))
  by_all (Some m) e l i a b =
      let p = found_first (is_for_change h f) x.changes m e in
      let k = and_parts (m.host.0 == h.0) (m.fileset.0 == f.0) p.1 in
      let c : m.host.0 ≡ h.0 = eqb-true m.host.0 h.0 k.0 in
      let d : m.fileset.0 ≡ f.0 = eqb-true m.fileset.0 f.0 k.1 in
      ap (λ (z : LastChange). z.written)
      (single l m i p.0 (a ∙ (λ j. record { 0 = sym c j })) (b ∙ (λ j. record { 0 = sym d j })))

  stays_written : StaysWritten x.changes h f (last_written x.changes h f)
  stays_written = record {
    some = λ o e. by_some (last_change x.changes h f) refl o e;
    all = λ l i a b. by_all (last_change x.changes h f) refl l i a b;
  }

module _ (past : List Doing) (x : Tables) (st : StoreState) (tree : Tree) (z : Stands past x) (s : IsServed x st)
    (k : StandsFor tree st) (single : AreLastChanges x.changes) (at : ℕ) (p : Pending)
    (place : IsPlaced x.pending at p) (c : ChangeOf) (is : p.wanted.request ≡ Changes c) where
  abbrev v : Wanted
  v = p.wanted

  v_waits : IsQueued past v
  v_waits = z.wants.pending p (placed_in x.pending at p place)

  -- it brings no token
  module _ (over : NoGrace past) (outcome : DoneIs)
      (so : AnsweredSo x.server tree past v c (done_without c.fileset outcome c.number)) where
    abbrev said : DoneOf
    said = done_without c.fileset outcome c.number

    abbrev new : List LastChange
    new = renewed x v.host said None

    abbrev after : Tables
    after = (said_made x no_draft at p c.fileset c.number outcome).tables

    -- so it is of a message with these moves
    abbrev IsSaid : ℕ → Type 0
    IsSaid n = Stands (Sent v.host x.hosts.epoch n (IsDone said) ∷ past) after
        × ServerTokens x.server past (Sent v.host x.hosts.epoch n (IsDone said))
        × ((step : Step) → MaySend x.server tree step past (Sent v.host x.hosts.epoch n (IsDone said)))

    is_said : IsSaid v.moves
    is_said = (
      stands_without past x z v v_waits c is over said refl refl new (last_written x.changes v.host c.fileset)
          (stays_written x v.host c.fileset single) (renewed_is x v.host said None) (λ t i. elim i [ ])
          (remove x.pending at) (is_less past x z s.counted.rising at p place.0 place.1)
          (unqueued x at p.number).tokens.queue (left_is past x z s.counted.rising at p place.0 place.1 over) refl refl,
      tokens_without past x z v v_waits c is over said refl refl refl,
      (λ step. answer_may past x z v v_waits c is over said refl refl tree step so),
    )

    pub said_told : IsAnswered past x tree (word x v.host (IsDone said)) after
    said_told = let r : IsSaid 0 = subst IsSaid (change_home past x z v v_waits c is) is_said in
        record { stands = r.0; tokens = r.1; may = r.2 }

  -- its use is granted; what it wants is of filesets that are here
  module _ (label : is_use c.call ≡ true) (accepted : NotRefused tree v.host c) (of_row : IsOfRow tree v c)
      (can : CanGrant x.server past v) (ready : outlook_at x p.number ≡ CanBeGranted)
      (here : (need : Need) → In need v.needs → is_of x.server need.fid.fileset ≡ true) where
    abbrev granted : DoneOf
    granted = use_of x p c.fileset c.number

    abbrev its : List Token
    its = granted_tokens x.tokens p.number

    own : asker v ≡ v.host
    own = ap (λ (r : Request). asker_of v.host r) is ∙ by (is_use c.call) label
      where
        by : (b : Bool) → b ≡ true → (if b then v.host else exporter) ≡ v.host
        by true e = refl
        by false e = absurd (cc)

    its_are : its ≡ next_tokens x.tokens.grants.table v.host v.needs
    its_are = its_tokens past x z s.counted.rising p (placed_in x.pending at p place) can.over ready
        ∙ ap (λ (h : HostId). next_tokens x.tokens.grants.table h v.needs) own

    made_for : (t : Token) → In t its → IsFor x.tokens.grants.table.server x.tokens.grants.table.epoch
        x.tokens.grants.table.last v.host v.needs t
    made_for t i = are_for x.tokens.grants.table.server x.tokens.grants.table.epoch x.tokens.grants.table.last v.host
        v.needs t (subst (In t) its_are i)

    lone : IsLone v.needs
    lone = subst IsLone (sym of_row.0) (row_lone tree v.host c label)

    -- one token at most, of one need
    one_token : (t u : Token) → In t its → In u its → u ≡ t
    one_token t u i j = alone x.tokens.grants.table.server x.tokens.grants.table.epoch x.tokens.grants.table.last
        v.host v.needs lone u t (subst (In u) its_are j) (subst (In t) its_are i)

    brings : (t : Token) → In t its → (granted.outcome ≡ IsGranted) × (t.id.epoch ≡ x.hosts.epoch)
        × ((u : Token) → In u its → u ≡ t)
    brings t i = (refl, (made_for t i).now_is ∙ z.tokens.epoch_is ∙ sym z.hosts.epoch_is, λ u j. one_token t u i j)

    answered_so : AnsweredSo x.server tree past v c granted
    answered_so = TakesToken label accepted of_row can refl (subst (AreNeeds v.needs) (sym its_are)
        (needs_are x.tokens.grants.table.server x.tokens.grants.table.epoch x.tokens.grants.table.last v.host v.needs))

    meant : IsMeantSo c
    meant = (subst (IsAskedHere x.server past v.moves) is (z.wants.here v v_waits)).1

    tokens_may : (ts : List Token) → its ≡ ts
        → ServerTokens x.server past (Sent v.host x.hosts.epoch v.moves (IsDone granted))
    tokens_may [] e = tokens_without past x z v v_waits c is can.over granted refl refl e
    tokens_may (t ∷ ts) e =
        let i : In t its = subst (In t) (sym e) (inl refl) in
        let first : granted.bring.fid ≡ t.fid = ap file_of e in
        let own_fid : t.fid ≡ c.fid = of_row.1 label (need_of t) (made_for t i).need in
        let fid_is : granted.bring.fid ≡ c.fid = first ∙ own_fid in
        let under : c.fileset ≡ granted.bring.fid.fileset =
        sym (meant.1 label) ∙ ap (λ (f : Fid). f.fileset) (sym fid_is) in
        tokens_with past x z v v_waits c is can.over granted refl refl can own
        (here_to x.server past granted.bring.fid.fileset v.moves z.slots (change_home past x z v v_waits c is)
        (subst (λ (f : Fid). is_of x.server f.fileset ≡ true) (sym first) (here (need_of t) (made_for t i).need))) under
        (λ need j. of_row.1 label need j ∙ sym fid_is) its_are refl

    abbrev after_use : Tables
    after_use = (use_made x no_draft at p c.fileset c.number).tables

    abbrev IsUsed : ℕ → Type 0
    IsUsed n = Stands (Sent v.host x.hosts.epoch n (IsDone granted) ∷ past) after_use
        × ServerTokens x.server past (Sent v.host x.hosts.epoch n (IsDone granted))
        × ((step : Step) → MaySend x.server tree step past (Sent v.host x.hosts.epoch n (IsDone granted)))

    abbrev with_new : Tables → Tables
    with_new y = record y { changes = renewed y v.host granted None }

    use_stands : Stands (Sent v.host x.hosts.epoch v.moves (IsDone granted) ∷ past) after_use
    use_stands =
        subst (Stands (Sent v.host x.hosts.epoch v.moves (IsDone granted) ∷ past))
        (ap (λ (h : HostId). with_new (record x {
          tokens = record x.tokens {
            grants = with_grant x.tokens.grants (record { number = p.number; host = h; needs = v.needs });
            queue = (unqueued (granting x p.number) at p.number).tokens.queue;
          };
          stamp = x.stamp + 1;
          pending = remove x.pending at;
        })) (sym own)
        ∙ ap with_new (sym (granted_out_is past x z s.counted.rising p
        (placed_in x.pending at p place) can.over ready at)))
        (stands_with past x z v v_waits c is can.over granted refl refl
        (renewed x v.host granted None) (last_written x.changes v.host c.fileset)
        (stays_written x v.host c.fileset single) (renewed_is x v.host granted None) brings
        (remove x.pending at) (is_less past x z s.counted.rising at p place.0 place.1)
        (unqueued (granting x p.number) at p.number).tokens.queue
        (left_decided past x z s.counted.rising at p place.0 place.1 can.over) p.number its_are refl)

    pub use_told : IsAnswered past x tree (word x v.host (IsDone granted)) after_use
    use_told = let r : IsUsed 0 = subst IsUsed (change_home past x z v v_waits c is) (
      use_stands,
      tokens_may its refl,
      (λ step. answer_may past x z v v_waits c is can.over granted refl refl tree step answered_so),
    ) in record { stands = r.0; tokens = r.1; may = r.2 }
