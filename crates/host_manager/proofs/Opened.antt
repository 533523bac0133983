-- A call whose turn it is is left open, as the code goes on with it: it asks a server, lacks a token, or waits.
use Rattle.std.proofs.Common.{◌&&◌, ◌+◌, ◌==◌, ◌∙◌, ◌∷◌, ◌≡◌, ◌≤◌, ◌⊎◌}
use Rattle.base_types.specs.Ids.{same_fid}
use Rattle.base_types.specs.declared.ids.Fid.{Fid}
use Rattle.base_types.specs.declared.ids.FilesetId.{FilesetId}
use Rattle.base_types.specs.declared.ids.Node.TheVariants.{Host}
use Rattle.base_types.specs.declared.ids.ServerId.{ServerId}
use Rattle.host_asks.specs.Asking.{Doing, Fetches, asking_question, changing, coming_to, doing, fetching, fileset_of}
use Rattle.host_asks.specs.Asking.{greeting, is_entering, may_ask, next_change, server_of}
use Rattle.host_calls.specs.Looking.{asked_by}
use Rattle.host_calls.specs.declared.looking.Question.{Question}
use Rattle.host_calls.specs.declared.looking.Question.TheVariants.{At as AtServer, Enter, In as Within}
use Rattle.host_gives.specs.Giving.{IsSound as IsSoundGives, given_in, is_of_file}
use Rattle.host_leaves.specs.Owning.{is_use}
use Rattle.host_leaves.specs.Sending.{message_to, sending_due}
use Rattle.host_manager.proofs.Homely.{TakesUse, lack_declared, lack_used, seen_declared}
use Rattle.host_manager.proofs.TurnOpens.{IsAsked}
use Rattle.host_manager.proofs.Turns.{IsTurn, at_turn, turn_draft}
use Rattle.host_tables.proofs.Declared.{home_is}
use Rattle.host_tables.proofs.Lists.{by_test, in_any, same_fid_is, true_false}
use Rattle.host_tables.proofs.Resting.{ask_rests, lack_rests}
use Rattle.host_tables.proofs.Updating.{reads_after}
use Rattle.host_tables.specs.Asking.{FetchFrom}
use Rattle.host_tables.specs.Asking.FetchFrom.{OfKnown, OfNone, OfPlain, OfRoot}
use Rattle.host_tables.specs.AsksByLine.{CountsFetch}
use Rattle.host_tables.specs.Drafts.{step_of}
use Rattle.host_tables.specs.Half.{learning}
use Rattle.host_tables.specs.Quiet.{with_moved}
use Rattle.host_manager.specs.Running.{AsksForCall, RunsOn}
use Rattle.host_tables.specs.Stands.{AsksFrom, IsAtRest, IsCoveredFrom, IsLack, IsWaiting, Stands, needs_from}
use Rattle.host_tables.specs.Stands.{verdict_from}
use Rattle.host_tables.specs.Stands.IsWaiting.{ForDone, ForFile, ForGrant, ForNeed, ForQuestion}
use Rattle.host_tables.specs.Tables.{content, held_of, home_of, last_fetch, own_of, site_at}
use Rattle.host_tables.specs.Tidy.{IsTidyChange, IsTidyFetch}
use Rattle.host_tables.specs.Updates.{home_at, with_change, with_fetch}
use Rattle.host_tables.specs.declared.calls.Request.TheVariants.{Change as AChange, Fetch as AFetch}
use Rattle.host_tables.specs.declared.numbers.Fetched.{Fetched}
use Rattle.host_tables.specs.declared.tables.Tables.{Tables}
use Rattle.message_types.specs.Soundness.{Each, HasRoom, IsDecided, IsFetched, IsServer, IsShort, no_fid}
use Rattle.message_types.specs.Soundness.{servers_in as named_servers}
use Rattle.message_types.specs.declared.asking.Change.{Change as ChangeOf}
use Rattle.message_types.specs.declared.asking.Fetch.{Fetch as FetchOf}
use Rattle.message_types.specs.declared.giving.Give.{Give}
use Rattle.message_types.specs.declared.message.Body.{Body}
use Rattle.message_types.specs.declared.message.Body.TheVariants.{Change, Fetch, Hello}
use Rattle.message_types.specs.declared.message.Direction.TheVariants.{ToServer}
use Rattle.message_types.specs.declared.message.Message.{Message}
use Rattle.need_host.proofs.Asking.{questions_are_about_filesets}
use Rattle.need_host.proofs.Looking.{lacks_are_first}
use Rattle.need_host.specs.Calls.{call_look}
use Rattle.need_host.specs.Calls.Verdict.{Asks as AsksOf}
use Rattle.need_host.specs.Laws.{IsAbout}
use Rattle.need_host.specs.Looks.{CoverAll}
use Rattle.need_host.specs.Questions.{fileset_of as asked_fileset, is_change, numbered_under}
use Rattle.need_host.specs.Questions.Question.{ChangeAt, ChangeIn}
use Rattle.run_rules.specs.Messages.{HasGreeted, IsDecidedAt, IsWelcome, Stay, home, stay_of}
use Rattle.run_rules.specs.Past.{In}
use Rattle.run_rules.specs.Tokens.{GiveOpen, IsUseKind, Made}
use Rattle.run_rules.specs.Views.{is_entering as enters_by, stay_asked}
use Rattle.run_rules.specs.declared.step.Asked.{Asked}
use Rattle.run_rules.specs.declared.step.Cause.{Cause}
use Rattle.run_rules.specs.declared.step.Labelled.{Labelled}
use Rattle.run_rules.specs.declared.step.Step.{Step}
use Rattle.script_lines.specs.declared.script.Script.{Script}
use Rattle.std.proofs.Common.{Bool, List, None, Option, Some, [], ap, arith, eq-eqb, eqb-true, false, if◌then◌else◌}
use Rattle.std.proofs.Common.{inl, inr, refl, subst, sym, true, unwrap_or, ℕ, ◌&&◌, ◌+◌, ◌==◌, ◌∙◌, ◌∷◌, ◌≡◌, ◌≤◌}
use Rattle.std.proofs.Common.{◌⊎◌}
use Rattle.std.proofs.lemmas.Bool.{and_parts}
use Rattle.std.specs.List.{list_any}
use Rattle.std.specs.Option.{option_map_or}
use Rattle.std.specs.Prelude.{IsTrue}
use Rattle.token_types.specs.declared.token.Kind.{Kind}
use Rattle.token_types.specs.declared.token.Kind.TheVariants.{Bytes as BytesKind, Lock as LockKind}
use Rattle.token_types.specs.declared.token.Kind.TheVariants.{Opening as OpeningKind, Status as StatusKind}
use Rattle.token_types.specs.declared.token.Need.{Need}
use Rattle.token_types.specs.declared.token.Token.{Token}
use Rattle.tree_calls.specs.declared.call.Call.{Call}
use Rattle.tree_calls.specs.declared.call.Call.TheVariants.{CloneFileset, CloseFile, Create, GetAcl}
use Rattle.tree_calls.specs.declared.call.Call.TheVariants.{List as ListNames, Lock, MakeDir, MoveFileset, NewFileset}
use Rattle.tree_calls.specs.declared.call.Call.TheVariants.{OpenFile, Read, Remove, Rename, SetAcl, Stat, Sync}
use Rattle.tree_calls.specs.declared.call.Call.TheVariants.{Truncate, Unlock, Write}
use Rattle.tree_objects.specs.Spans.{whole}
use Rattle.host_manager.proofs.TurnOpens as opens
use Rattle.host_manager.proofs.Turns as turns
use Rattle.host_tables.proofs.Ending as ending

pub welcome_greets : (past : List Step) (v : ServerId) → IsWelcome past v → HasGreeted past v
welcome_greets [] v w = elim w [ ]
welcome_greets (s ∷ past) v (inl p) = (p.0.0, p.0.1, inr p.0.2)
welcome_greets (s ∷ past) v (inr w) = let g = welcome_greets past v w in (g.0, g.1, inr g.2)

-- the needs of a directory, or of a root
two : (fid : Fid) (n : Need)
    → In n (record { fid = fid; kind = StatusKind false } ∷ record { fid = fid; kind = BytesKind false whole } ∷ [])
    → (n.fid ≡ fid) × IsFetched n.kind
two fid n (inl e) = (ap (λ (x : Need). x.fid) e, subst (λ (x : Need). IsFetched x.kind) (sym e) tt)
two fid n (inr (inl e)) = (ap (λ (x : Need). x.fid) e, subst (λ (x : Need). IsFetched x.kind) (sym e) tt)
two fid n (inr (inr none)) = elim none [ ]

-- the counter of a fileset's Fetches, counted up
pub fetch_counts : (fetched : List Fetched) (f : FetchOf) → f.number ≡ last_fetch fetched f.fid.fileset + 1
    → CountsFetch fetched (with_fetch f.fid.fileset f.number fetched) f
fetch_counts fetched f number = record {
  at = reads_after.fetches fetched f.fid.fileset f.number f.fid.fileset
      ∙ ap (λ (b : Bool). if b then f.number else last_fetch fetched f.fid.fileset)
      (eq-eqb f.fid.fileset.0 f.fid.fileset.0 refl);
  up = λ fs. up_by fs (f.fid.fileset.0 == fs.0) refl (reads_after.fetches fetched f.fid.fileset f.number fs);
  other = λ fs. other_by fs (f.fid.fileset.0 == fs.0) refl (reads_after.fetches fetched f.fid.fileset f.number fs);
}
  where
    same_set : (fs : FilesetId) → (f.fid.fileset.0 == fs.0) ≡ true → f.fid.fileset ≡ fs
    same_set fs h = let p = eqb-true f.fid.fileset.0 fs.0 h in λ i. record { 0 = p i }

    up_by : (fs : FilesetId) (b : Bool) → (f.fid.fileset.0 == fs.0) ≡ b
        → last_fetch (with_fetch f.fid.fileset f.number fetched) fs ≡ (if b then f.number else last_fetch fetched fs)
        → last_fetch fetched fs ≤ last_fetch (with_fetch f.fid.fileset f.number fetched) fs
    up_by fs true h e =
        let q = ap (last_fetch fetched) (same_set fs h) in omega (arith, q, number, e)
    up_by fs false h e = omega (arith, e)

    other_by : (fs : FilesetId) (b : Bool) → (f.fid.fileset.0 == fs.0) ≡ b
        → last_fetch (with_fetch f.fid.fileset f.number fetched) fs ≡ (if b then f.number else last_fetch fetched fs)
        → (last_fetch (with_fetch f.fid.fileset f.number fetched) fs ≡ last_fetch fetched fs) ⊎ (f.fid.fileset ≡ fs)
    other_by fs true h e = inr (same_set fs h)
    other_by fs false h e = inl e

-- the server and the name of a call's fileset
abbrev named : ServerId → List ℕ → Option (ServerId × List ℕ)
named server name = Some (server, name)

same_named : (a b : ServerId) (x y : List ℕ) → named a x ≡ named b y → (a ≡ b) × (x ≡ y)
same_named a b x y e =
    let q = ap (λ (o : Option (ServerId × List ℕ)). unwrap_or o (a, x)) e in
    (ap (λ (p : ServerId × List ℕ). p.0) q, ap (λ (p : ServerId × List ℕ). p.1) q)

pub and_false : (a b : Bool) → (a && b) ≡ false → a ≡ true → b ≡ false
and_false true b e t = e
and_false false b e t = absurd (cc)

-- # Kinds
pub use_kind : (kind : Kind) → is_use kind ≡ true → IsUseKind kind
use_kind (LockKind writing span) e = tt
use_kind (OpeningKind opening) e = tt
use_kind (BytesKind update span) e = absurd (cc)
use_kind (StatusKind update) e = absurd (cc)

pub no_use_kind : (kind : Kind) → is_use kind ≡ false → IsUseKind kind → ⊥
no_use_kind (LockKind writing span) e u = absurd (cc)
no_use_kind (OpeningKind opening) e u = absurd (cc)
no_use_kind (BytesKind update span) e u = u
no_use_kind (StatusKind update) e u = u

pub used_decides : (c : Call) → TakesUse c → (v : ServerId) → IsDecided v c
used_decides (NewFileset there label objects owner) u v = elim u [ ]
used_decides (Create place) u v = elim u [ ]
used_decides (MakeDir place) u v = elim u [ ]
used_decides (Remove place) u v = elim u [ ]
used_decides (Rename from to) u v = elim u [ ]
used_decides (Truncate place len) u v = elim u [ ]
used_decides (SetAcl place which list) u v = elim u [ ]
used_decides (CloneFileset there source new) u v = elim u [ ]
used_decides (Read place from len) u v = elim u [ ]
used_decides (Write place from bytes) u v = elim u [ ]
used_decides (ListNames place) u v = elim u [ ]
used_decides (Stat place) u v = elim u [ ]
used_decides (GetAcl place which) u v = elim u [ ]
used_decides (Sync place) u v = elim u [ ]
used_decides (Lock label place writing from len) u v = tt
used_decides (Unlock label) u v = elim u [ ]
used_decides (OpenFile label place kind) u v = tt
used_decides (CloseFile label) u v = elim u [ ]
used_decides (MoveFileset there source to) u v = elim u [ ]

plain_kind : (kind : Kind) → (IsUseKind kind → ⊥) → IsFetched kind
plain_kind (LockKind writing span) u = absurd (u tt)
plain_kind (OpeningKind opening) u = absurd (u tt)
plain_kind (BytesKind update span) u = tt
plain_kind (StatusKind update) u = tt

-- what is asked for is of the file, and no use
pub asked_plain : (m : Tables) (lost : List Fid) (call : Call) (fid : Fid) (asked : List Need)
    → FetchFrom m lost call fid asked → (n : Need) → In n asked
    → (n.fid ≡ fid) × IsFetched n.kind
asked_plain m lost call fid asked (OfRoot e is) n i = two fid n (subst (In n) is i)
asked_plain m lost call fid asked (OfKnown nature covers seen dir is) n i = two fid n (subst (In n) is i)
asked_plain m lost call fid asked (OfNone other uncovered is) n i = elim (subst (In n) is i) [
  | inl e ↦ (
    ap (λ (x : Need). x.fid) e,
    subst (λ (x : Need). IsFetched x.kind) (sym e) tt,
  )
  | inr none ↦ elim none [ ]
]
asked_plain m lost call fid asked (OfPlain other covers plain from) n i =
    let r = from.only n i in (r.0, plain_kind n.kind r.1)

module _ (script : Script) (old m : Tables) (past : List Step) (cause : Cause) (came : List Token)
    (dues : List FilesetId) (c : Asked) (first : Bool) (turn : IsTurn script old m past cause came dues c first)
    (sound_m : IsSoundGives m.gives) where
  abbrev call : Call
  call = c.call

  abbrev k : ℕ
  k = c.k

  abbrev h : Step
  h = learning m.host cause came

  abbrev begun : Tables
  begun = at_turn m first

  abbrev at : Doing
  at = doing begun (turn_draft came dues)

  -- it is left open
  abbrev pub opened : Doing → Doing
  opened gone = doing (record gone.tables { call = Some c })
      (record gone.draft { asked = if first then Some c else None })

  abbrev pub Opens : Doing → Type 0
  Opens gone = RunsOn script old (opened gone).tables past
      (step_of (Host m.host) cause (sending_due (opened gone).tables (opened gone).draft))

  stands : Stands script m (h ∷ past)
  stands = turn.learnt

  -- a server that isn't welcome by the tables isn't by the steps
  unwelcome : (v : ServerId) → may_ask v at ≡ false → IsWelcome (h ∷ past) v → ⊥
  unwelcome v may w =
      let e = (stands.sites v).welcome.1 w in
      let g = (stands.sites v).greeted.1 (welcome_greets (h ∷ past) v w) in
      true_false (site_at m.sites v).welcome e
      (and_false (site_at m.sites v).greeted (site_at m.sites v).welcome may g)

  pub asked_one : (v : ServerId) (b : Body) → IsAsked b → (y : Message) → In y (message_to m v b ∷ []) → IsAsked y.body
  asked_one v b plain y (inl e) = subst (λ (x : Message). IsAsked x.body) (sym e) plain
  asked_one v b plain y (inr n) = elim n [ ]

  pub none_own : (y : Message) → In y [] → IsAsked y.body
  none_own y i = elim i [ ]

  -- # Nothing is said for it
  abbrev pub silent : Tables
  silent = with_moved m (opens.with_open script old m past cause came dues c first turn sound_m m.sites m.request
      m.fetched m.changed)

  abbrev pub sent_0 : List Message
  sent_0 = opens.sent_by script old m past cause came dues c first turn sound_m silent refl refl (λ v. refl) [] none_own

  pub with_0 : turns.SaysWith script old m past cause came dues c first turn [] sent_0
  with_0 = opens.with_by script old m past cause came dues c first turn sound_m silent refl refl (λ v. refl) [] none_own

  abbrev pub s_0 : Step
  s_0 = opens.s_0 script old m past cause came dues c first turn sound_m sent_0 with_0

  pub waits_code : IsAtRest silent (s_0 ∷ past) → Opens at
  waits_code rest = opens.by_code script old m past cause came dues c first turn sound_m silent refl refl (λ v. refl)
      [] none_own
      (opens.waits_now script old m past cause came dues c first turn sound_m sent_0 with_0 rest)

  -- # A server that may not be asked yet
  greeted_in : (s : Step) (v : ServerId) → (site_at m.sites v).greeted ≡ true → HasGreeted (s ∷ past) v
  greeted_in s v g =
      let r = (stands.sites v).greeted.0 g in
      elim r.2 [ inl p ↦ elim p.1 [ ] | inr q ↦ (r.0, r.1, inr q) ]

  module _ (v : ServerId) (declared : IsServer script.roster v) (may : may_ask v at ≡ false) where
    abbrev greets : Tables
    greets = with_moved m (opens.with_open script old m past cause came dues c first turn sound_m
        (opens.greeted_sites script old m past cause came dues c first turn sound_m v declared) m.request m.fetched
        m.changed)

    abbrev own_h : List Message
    own_h = message_to m v Hello ∷ []

    abbrev sent_h : List Message
    sent_h = opens.sent_by script old m past cause came dues c first turn sound_m greets refl refl
        (opens.kept_h script old m past cause came dues c first turn sound_m v declared).epoch own_h
        (asked_one v Hello tt)

    pub with_h : turns.SaysWith script old m past cause came dues c first turn own_h sent_h
    with_h = opens.with_by script old m past cause came dues c first turn sound_m greets refl refl
        (opens.kept_h script old m past cause came dues c first turn sound_m v declared).epoch own_h
        (asked_one v Hello tt)

    abbrev hello : Step
    hello = opens.hello script old m past cause came dues c first turn sound_m v declared sent_h with_h

    greets_code : IsAtRest greets (hello ∷ past) → Opens (greeting v at)
    greets_code rest =
        subst (λ (n : ℕ). RunsOn script old greets past (step_of (Host m.host) cause (sending_due greets
        (record (turn_draft came dues) {
          asked = if first then Some c else None;
          sent = record {
            direction = ToServer;
            host = m.host;
            server = v;
            epoch = n;
            moves = 0;
            body = Hello;
          } ∷ [];
        })))) (sym ((opens.kept_h script old m past cause came dues c first turn sound_m v declared).epoch v))
        (opens.by_code script old m past cause came dues c first turn sound_m greets refl refl
        (opens.kept_h script old m past cause came dues c first turn sound_m v declared).epoch own_h
        (asked_one v Hello tt)
        (opens.greets_now script old m past cause came dues c first turn sound_m v declared sent_h with_h rest))

    pub comes_to : ((site_at m.sites v).greeted ≡ true → IsAtRest silent (s_0 ∷ past))
        → IsAtRest greets (hello ∷ past) → Opens (coming_to v at)
    comes_to waits greeting_rests = by_greeted (site_at m.sites v).greeted refl
      where
        by_greeted : (b : Bool) → (site_at m.sites v).greeted ≡ b → Opens (if b then at else greeting v at)
        by_greeted true e = waits_code (waits e)
        by_greeted false e = greets_code greeting_rests

  -- # A request
  module _ (v : ServerId) (d : ChangeOf) where
    abbrev asking : Tables
    asking = with_moved m (opens.with_open script old m past cause came dues c first turn sound_m m.sites
        (Some (AChange v d)) m.fetched
        (with_change v d.fileset d.number m.changed))

    abbrev own_c : List Message
    own_c = message_to m v (Change d) ∷ []

    abbrev sent_c : List Message
    sent_c = opens.sent_by script old m past cause came dues c first turn sound_m asking refl refl (λ w. refl) own_c
        (asked_one v (Change d) tt)

    pub with_c : turns.SaysWith script old m past cause came dues c first turn own_c sent_c
    with_c = opens.with_by script old m past cause came dues c first turn sound_m asking refl refl (λ w. refl) own_c
        (asked_one v (Change d) tt)

    abbrev s_c : Step
    s_c = opens.s_1 script old m past cause came dues c first turn sound_m v (Change d) tt sent_c with_c

    changes_code : RunsOn script old asking past s_c → RunsOn script old asking past
        (step_of (Host m.host) cause (sending_due asking
        (record (turn_draft came dues) { asked = if first then Some c else None; sent = own_c })))
    changes_code runs = opens.by_code script old m past cause came dues c first turn sound_m asking refl refl
        (λ w. refl) own_c (asked_one v (Change d) tt) runs

  module _ (f : FetchOf) where
    abbrev fetching_t : Tables
    fetching_t = with_moved m (opens.with_open script old m past cause came dues c first turn sound_m m.sites
        (Some (AFetch f))
        (with_fetch f.fid.fileset f.number m.fetched) m.changed)

    abbrev own_f : List Message
    own_f = message_to m (home f.fid.fileset) (Fetch f) ∷ []

    abbrev sent_f : List Message
    sent_f = opens.sent_by script old m past cause came dues c first turn sound_m fetching_t refl refl (λ w. refl)
        own_f (asked_one (home f.fid.fileset) (Fetch f) tt)

    pub with_f : turns.SaysWith script old m past cause came dues c first turn own_f sent_f
    with_f = opens.with_by script old m past cause came dues c first turn sound_m fetching_t refl refl (λ w. refl)
        own_f (asked_one (home f.fid.fileset) (Fetch f) tt)

    abbrev s_f : Step
    s_f = opens.s_1 script old m past cause came dues c first turn sound_m (home f.fid.fileset) (Fetch f) tt sent_f
        with_f

  -- # A question
  -- the server of a place of a sound call is declared
  place_declared : (server : ServerId) (name : List ℕ) → asked_fileset call ≡ Some (server, name)
      → IsServer script.roster server
  place_declared server name of = by_call call turn.askable.servers of
    where
      first_is : (v : ServerId) (label : List ℕ) → named v label ≡ named server name → IsServer script.roster v
          → IsServer script.roster server
      first_is v label e d = subst (λ (w : ServerId). IsServer script.roster w) (same_named v server label name e).0 d

      by_call : (c : Call) → Each (IsServer script.roster) (named_servers c) → asked_fileset c ≡ Some (server, name)
          → IsServer script.roster server
      by_call (NewFileset there name objects owner) d e = absurd (cc)
      by_call (Create place) d e = first_is place.server place.fileset e d.0
      by_call (MakeDir place) d e = first_is place.server place.fileset e d.0
      by_call (Remove place) d e = first_is place.server place.fileset e d.0
      by_call (Rename from to) d e = first_is from.server from.fileset e d.0
      by_call (Truncate place len) d e = first_is place.server place.fileset e d.0
      by_call (SetAcl place which list) d e = first_is place.server place.fileset e d.0
      by_call (CloneFileset there source new) d e = absurd (cc)
      by_call (Read place from len) d e = first_is place.server place.fileset e d.0
      by_call (Write place from bytes) d e = first_is place.server place.fileset e d.0
      by_call (ListNames place) d e = first_is place.server place.fileset e d.0
      by_call (Stat place) d e = first_is place.server place.fileset e d.0
      by_call (GetAcl place which) d e = first_is place.server place.fileset e d.0
      by_call (Sync place) d e = first_is place.server place.fileset e d.0
      by_call (Lock label place writing from len) d e = first_is place.server place.fileset e d.0
      by_call (Unlock label) d e = absurd (cc)
      by_call (OpenFile label place kind) d e = first_is place.server place.fileset e d.0
      by_call (CloseFile label) d e = absurd (cc)
      by_call (MoveFileset there source to) d e = first_is there source e d.0

  -- a new fileset, and the clone of one, are asked at the server that the call names
  named_at : (c : Call) → asked_fileset c ≡ None → is_change c ≡ true → (server : ServerId)
      → verdict_from m c ≡ AsksOf (ChangeAt server) → Each (IsServer script.roster) (named_servers c)
      → IsServer script.roster server × IsDecided server c
  unfolding call_look
  named_at (NewFileset there name objects owner) of is server e d =
      let p : there ≡ server = cc in (subst (λ (w : ServerId). IsServer script.roster w) p d.0, p)
  named_at (CloneFileset there source new) of is server e d =
      let p : there ≡ server = cc in (subst (λ (w : ServerId). IsServer script.roster w) p d.0, tt)
  named_at (Create place) of is server e d = absurd (cc)
  named_at (MakeDir place) of is server e d = absurd (cc)
  named_at (Remove place) of is server e d = absurd (cc)
  named_at (Rename from to) of is server e d = absurd (cc)
  named_at (Truncate place len) of is server e d = absurd (cc)
  named_at (SetAcl place which list) of is server e d = absurd (cc)
  named_at (Read place from len) of is server e d = absurd (cc)
  named_at (Write place from bytes) of is server e d = absurd (cc)
  named_at (ListNames place) of is server e d = absurd (cc)
  named_at (Stat place) of is server e d = absurd (cc)
  named_at (GetAcl place which) of is server e d = absurd (cc)
  named_at (Sync place) of is server e d = absurd (cc)
  named_at (Lock label place writing from len) of is server e d = absurd (cc)
  named_at (Unlock label) of is server e d = absurd (cc)
  named_at (OpenFile label place kind) of is server e d = absurd (cc)
  named_at (CloseFile label) of is server e d = absurd (cc)
  named_at (MoveFileset there source to) of is server e d = absurd (cc)

  -- a call about a fileset that a server decides
  decided_in : (c : Call) (server : ServerId) (name : List ℕ) → asked_fileset c ≡ Some (server, name)
      → is_change c ≡ true → (v : ServerId) → IsDecided v c
  decided_in (NewFileset there label objects owner) server name of is v = absurd (cc)
  decided_in (Create place) server name of is v = tt
  decided_in (MakeDir place) server name of is v = tt
  decided_in (Remove place) server name of is v = tt
  decided_in (Rename from to) server name of is v = tt
  decided_in (Truncate place len) server name of is v = tt
  decided_in (SetAcl place which list) server name of is v = tt
  decided_in (CloneFileset there source new) server name of is v = tt
  decided_in (Read place from len) server name of is v = absurd (cc)
  decided_in (Write place from bytes) server name of is v = absurd (cc)
  decided_in (ListNames place) server name of is v = absurd (cc)
  decided_in (Stat place) server name of is v = absurd (cc)
  decided_in (GetAcl place which) server name of is v = absurd (cc)
  decided_in (Sync place) server name of is v = absurd (cc)
  decided_in (Lock label place writing from len) server name of is v = tt
  decided_in (Unlock label) server name of is v = absurd (cc)
  decided_in (OpenFile label place kind) server name of is v = tt
  decided_in (CloseFile label) server name of is v = absurd (cc)
  decided_in (MoveFileset there source to) server name of is v = tt

  -- # What is owed of a question
  module _ (question : Question) (verdict : verdict_from m call ≡ AsksOf (asked_by question)) where
    record IsGood : Type 0 where
      declared : IsServer script.roster (server_of question)
      enters : is_entering question ≡ enters_by (asked_by question)
      numbered : fileset_of question ≡ numbered_under (asked_by question)
      goes : stay_asked past (asked_by question) ≡ record { server = server_of question; moves = 0 }
      at_stay : (p : List Step) → (stay_asked p (asked_by question)).server ≡ server_of question
      stays : IsDecidedAt past (fileset_of question) (server_of question) 0
      fileset : ((fileset_of question).0 ≡ 0) ⊎ (home (fileset_of question) ≡ server_of question)
      decided : IsTrue (is_entering question) ⊎ IsDecided (server_of question) call
      entering : (w : ServerId) (name : List ℕ) → is_entering question ≡ true → asked_fileset call ≡ Some (w, name)
          → (w ≡ server_of question) × (home_of m.homes w name ≡ None)

  good : (question : Question) (verdict : verdict_from m call ≡ AsksOf (asked_by question)) → IsGood question verdict
  good question verdict =
      by_question question verdict (questions_are_about_filesets (own_of m) m.host m.user call (content m.cache)
      (asked_by question) verdict)
    where
      by_question : (q : Question) (e : verdict_from m call ≡ AsksOf (asked_by q))
          → IsAbout (own_of m) call (asked_by q) → IsGood q e
      by_question (Enter server) e about = record {
        declared = place_declared server about.0 about.1;
        enters = refl;
        numbered = refl;
        goes = refl;
        at_stay = λ p. refl;
        stays = inl (refl, refl);
        fileset = inl refl;
        decided = inl refl;
        entering = λ w name t of.
            let r = same_named w server name about.0 (sym of ∙ about.1) in
            (r.0, (λ i. home_of m.homes (r.0 i) (r.1 i)) ∙ about.2);
      }
      by_question (Within fs) e about =
          let d = seen_declared script.roster m turn.tidy about.0 about.1 fs about.3 in
          let h : home_at fs ≡ home fs = home_is script.roster m turn.tidy fs d in
          record {
            declared = subst (λ (w : ServerId). IsServer script.roster w) (sym h) d;
            enters = refl;
            numbered = refl;
            goes = ap (λ (w : ServerId). let stay : Stay = record { server = w; moves = 0 } in stay) (sym h);
            at_stay = λ p. sym h;
            stays = inr (ap (λ (w : ServerId). let stay : Stay = record { server = w; moves = 0 } in stay) (sym h));
            fileset = inr (sym h);
            decided = inr (decided_in call about.0 about.1 about.2 about.4 (home_at fs));
            entering = λ w name t of. absurd (cc);
          }
      by_question (AtServer server) e about =
          let r = named_at call about.0 about.1 server e turn.askable.servers in
          record {
            declared = r.0;
            enters = refl;
            numbered = refl;
            goes = refl;
            at_stay = λ p. refl;
            stays = inl (refl, refl);
            fileset = inl refl;
            decided = inr r.1;
            entering = λ w name t of. absurd (cc);
          }

  -- # The call asks a server
  module _ (question : Question) (verdict : verdict_from m call ≡ AsksOf (asked_by question))
      (covered : IsCoveredFrom m call) where
    abbrev g : IsGood question verdict
    g = good question verdict

    abbrev v : ServerId
    v = server_of question

    abbrev d : ChangeOf
    d = next_change begun v (fileset_of question) no_fid (is_entering question) k call

    asks : AsksFrom m call (asked_by question) no_fid
    asks = inl (verdict, covered, refl)

    none_end : (u : Labelled) → m.ending ≡ Some u → ⊥
    none_end u e = turns.none_ends script old m past cause came dues c first turn (λ w. let p = sym verdict ∙ w in cc)
        u e

    asks_for : (other : Tables) → other.call ≡ Some c → verdict_from other call ≡ AsksOf (asked_by question)
        → IsCoveredFrom other call → AsksForCall other
    asks_for other open_is asked all x e busy =
        let p : Some c ≡ Some x = sym open_is ∙ e in
        let is : c ≡ x = cc in
        inr (
          asked_by question,
          subst (λ (z : Asked). verdict_from other z.call ≡ AsksOf (asked_by question)) is asked,
          subst (λ (z : Asked). IsCoveredFrom other z.call) is all,
        )

    waits_in : (other : Tables) (s : Step) → (IsWelcome (s ∷ past) v → ⊥)
        → AsksFrom other call (asked_by question) no_fid → HasGreeted (s ∷ past) v → IsWaiting other (s ∷ past) call
    waits_in other s unwelcome_s so greeted =
        ForQuestion (asked_by question) no_fid so (subst (HasGreeted (s ∷ past)) (sym (g.at_stay (s ∷ past))) greeted)
        (λ w. unwelcome_s (subst (IsWelcome (s ∷ past)) (g.at_stay (s ∷ past)) w))

    tidy_d : IsTidyChange script.roster v d
    tidy_d = record {
      from = omega arith;
      declared = g.declared;
      numbered = g.fileset;
      call = turn.askable;
      decided = g.decided;
    }

    pub asks_question : Opens (asking_question question k call at)
    asks_question = by_may (may_ask v at) refl
      where
        by_may : (b : Bool) → may_ask v at ≡ b → Opens (if b then changing v d at else coming_to v at)
        by_may true may =
            changes_code v d (opens.asks_now script old m past cause came dues c first turn sound_m v d
            (asked_by question) asks g.enters g.numbered g.goes (refl, refl)
            refl g.stays (and_parts (site_at m.sites v).greeted (site_at m.sites v).welcome may).1 g.entering tidy_d
            (sent_c v d) (with_c v d)
            (ask_rests (asking v d) (s_c v d ∷ past) c (asked_by question) refl verdict (ForDone v d refl))
            none_end (asks_for (asking v d) refl verdict covered))
        by_may false may =
            comes_to v g.declared may
            (λ e. ask_rests silent (s_0 ∷ past) c (asked_by question) refl verdict
            (waits_in silent s_0 (unwelcome v may) asks (greeted_in s_0 v e)))
            (ask_rests (greets v g.declared may) (hello v g.declared may ∷ past) c (asked_by question) refl verdict
            (waits_in (greets v g.declared may) (hello v g.declared may) (unwelcome v may) asks
            (opens.has_greeted script old m past cause came dues c first turn sound_m v g.declared
            (sent_h v g.declared may) (with_h v g.declared may))))

  -- # The call lacks a token
  module _ (need : Need) (lack : IsLack m call need) where
    abbrev fs : FilesetId
    fs = need.fid.fileset

    at_home : IsServer script.roster (home fs)
    at_home = lack_declared script.roster m turn.tidy call need lack

    home_same : home_at fs ≡ home fs
    home_same = home_is script.roster m turn.tidy fs at_home

    abbrev v_n : ServerId
    v_n = home_at fs

    declared_n : IsServer script.roster v_n
    declared_n = subst (λ (w : ServerId). IsServer script.roster w) (sym home_same) at_home

    goes_n : stay_of past fs ≡ record { server = v_n; moves = 0 }
    goes_n = ap (λ (w : ServerId). let stay : Stay = record { server = w; moves = 0 } in stay) (sym home_same)

    none_end_n : (u : Labelled) → m.ending ≡ Some u → ⊥
    none_end_n u e = (lacks_are_first (held_of m) (needs_from m call)).none
        (subst (CoverAll (held_of m)) (sym (ap (needs_from m) (turn.ending u e).1 ∙ ending.end_needs m u)) tt) need lack

    lacks_still : (other : Tables) → other.call ≡ Some c → IsLack other call need → AsksForCall other
    lacks_still other open_is so x e busy =
        let p : Some c ≡ Some x = sym open_is ∙ e in
        let is : c ≡ x = cc in
        inl (need, subst (λ (z : Asked). IsLack other z.call need) is so)

    -- a give-back of the file is on its way
    give_open : list_any (is_of_file need.fid) m.gives.gives ≡ true → GiveOpen (s_0 ∷ past) need.fid
    give_open e =
        let r = in_any (is_of_file need.fid) m.gives.gives e in
        let q = stands.gives.made r.0 r.1 in
        let at_file : same_fid q.0.fid need.fid ≡ true =
        ap (λ (b : Body). option_map_or (λ give. same_fid give.fid need.fid) (given_in b) false) (sym q.1) ∙ r.2 in (
          q.0,
          made_still q.0 q.2,
          same_fid_is q.0.fid need.fid at_file,
          q.3,
        )
      where
        made_still : (g : Give) → Made (h ∷ past) g → Made (s_0 ∷ past) g
        made_still g (inl i) = elim i [ ]
        made_still g (inr i) = inr i

    pub waits_give : list_any (is_of_file need.fid) m.gives.gives ≡ true → Opens at
    waits_give e =
        waits_code (lack_rests silent (s_0 ∷ past) c need refl lack (ForFile need lack (give_open e)))

    waits_on : (other : Tables) (s : Step) → (IsWelcome (s ∷ past) v_n → ⊥) → IsLack other call need
        → HasGreeted (s ∷ past) v_n → IsWaiting other (s ∷ past) call
    waits_on other s unwelcome_s so greeted =
        ForNeed need so (subst (HasGreeted (s ∷ past)) home_same greeted)
        (λ w. unwelcome_s (subst (IsWelcome (s ∷ past)) (sym home_same) w))

    pub comes_for : may_ask v_n at ≡ false → Opens (coming_to v_n at)
    comes_for may =
        comes_to v_n declared_n may
        (λ e. lack_rests silent (s_0 ∷ past) c need refl lack
        (waits_on silent s_0 (unwelcome v_n may) lack (greeted_in s_0 v_n e)))
        (lack_rests (greets v_n declared_n may) (hello v_n declared_n may ∷ past) c need refl lack
        (waits_on (greets v_n declared_n may) (hello v_n declared_n may) (unwelcome v_n may) lack
        (opens.has_greeted script old m past cause came dues c first turn sound_m v_n declared_n
        (sent_h v_n declared_n may) (with_h v_n declared_n may))))

    abbrev d_n : ChangeOf
    d_n = next_change begun v_n fs need.fid false k call

    -- the token of a use is asked for by a Change
    pub changes_for : is_use need.kind ≡ true → may_ask v_n at ≡ true → Opens (changing v_n d_n at)
    changes_for used may =
        let asks : AsksFrom m call (ChangeIn fs) need.fid =
        inr (need, lack, use_kind need.kind used, refl, refl) in
        let welcome = (and_parts (site_at m.sites v_n).greeted (site_at m.sites v_n).welcome may).1 in
        let tidy : IsTidyChange script.roster v_n d_n = record {
          from = omega arith;
          declared = declared_n;
          numbered = inr (sym home_same);
          call = turn.askable;
          decided = inr (used_decides call
              (lack_used script.roster m turn.tidy call need lack (use_kind need.kind used)) v_n);
        } in
        changes_code v_n d_n (opens.asks_now script old m past cause came dues c first turn sound_m v_n d_n
        (ChangeIn fs) asks refl refl goes_n (refl, refl) refl
        (inr goes_n) welcome (λ w name t of. absurd (cc)) tidy (sent_c v_n d_n) (with_c v_n d_n)
        (lack_rests (asking v_n d_n) (s_c v_n d_n ∷ past) c need refl lack (ForDone v_n d_n refl)) none_end_n
        (lacks_still (asking v_n d_n) refl lack))

    -- # And is asked for by a Fetch
    abbrev lost_now : List Fid
    lost_now = if first then [] else m.lost

    fetch_same : (fid : Fid) (asked : List Need) → FetchFrom begun lost_now call fid asked
        → FetchFrom m lost_now call fid asked
    fetch_same fid asked (OfRoot e is) = OfRoot e is
    fetch_same fid asked (OfKnown nature covers seen dir is) = OfKnown nature covers seen dir is
    fetch_same fid asked (OfNone other uncovered is) = OfNone other uncovered is
    fetch_same fid asked (OfPlain other covers plain from) = OfPlain other covers plain (record {
      only = from.only;
      bytes = from.bytes;
      bytes_all = from.bytes_all;
      status = from.status;
      status_all = from.status_all;
    })

    module _ (gone : Doing) (fetches : Fetches call need.fid at gone) (room : (n : Need) → In n fetches.fetch.needs
        → HasRoom n.kind) (count : IsShort fetches.fetch.needs) where
      abbrev f : FetchOf
      f = fetches.fetch

      fs_is : f.fid.fileset ≡ fs
      fs_is = ap (λ (x : Fid). x.fileset) fetches.file

      pub fetches_for : is_use need.kind ≡ false → (list_any (is_of_file need.fid) m.gives.gives ≡ true → ⊥)
          → may_ask v_n at ≡ true → Opens gone
      fetches_for no_use no_give may = subst Opens (sym fetches.after) (by_home home_f)
        where
          home_f : home_at f.fid.fileset ≡ home f.fid.fileset
          home_f = ap home_at fs_is ∙ home_same ∙ ap home (sym fs_is)

          from : FetchFrom m lost_now call f.fid f.needs
          from = subst (λ (x : Fid). FetchFrom m lost_now call x f.needs) (sym fetches.file)
              (fetch_same need.fid f.needs (fetches.needs need lack refl (no_use_kind need.kind no_use)))

          no_give_f : list_any (is_of_file f.fid) m.gives.gives ≡ false
          no_give_f = elim (by_test (list_any (is_of_file f.fid) m.gives.gives)) [
            | inr n ↦ n
            | inl t ↦ absurd (no_give (ap (λ (x : Fid). list_any (is_of_file x) m.gives.gives) (sym fetches.file) ∙ t))
          ]

          welcome_f : (site_at m.sites (home f.fid.fileset)).welcome ≡ true
          welcome_f = ap (λ (w : ServerId). (site_at m.sites w).welcome) (ap home fs_is ∙ sym home_same)
              ∙ (and_parts (site_at m.sites v_n).greeted (site_at m.sites v_n).welcome may).1

          number_f : f.number ≡ last_fetch m.fetched f.fid.fileset + 1
          number_f = fetches.number ∙ ap (λ (x : FilesetId). last_fetch m.fetched x + 1) (sym fs_is)

          counts : CountsFetch m.fetched (with_fetch f.fid.fileset f.number m.fetched) f
          counts = fetch_counts m.fetched f number_f

          tidy : IsTidyFetch script.roster f
          tidy = record {
            from = let n = fetches.number in omega (arith, n);
            declared = subst (λ (x : FilesetId). IsServer script.roster (home x)) (sym fs_is) at_home;
            needs = λ n i. let r = asked_plain m lost_now call f.fid f.needs from n i in (r.0, r.1, room n i);
            count = count;
          }

          runs_f : RunsOn script old (fetching_t f) past (s_f f)
          runs_f = opens.fetches_now script old m past cause came dues c first turn sound_m f need lack
              (no_use_kind need.kind no_use) (sym fetches.file) no_give_f welcome_f
              from number_f counts tidy (sent_f f) (with_f f)
              (lack_rests (fetching_t f) (s_f f ∷ past) c need refl lack (ForGrant f refl)) none_end_n
              (lacks_still (fetching_t f) refl lack)

          by_home : home_at f.fid.fileset ≡ home f.fid.fileset → Opens (fetching f at)
          by_home e =
              subst (λ (w : ServerId). RunsOn script old (fetching_t f) past (step_of (Host m.host) cause
              (sending_due (fetching_t f) (record (turn_draft came dues) {
                asked = if first then Some c else None;
                sent = message_to m w (Fetch f) ∷ [];
              })))) (sym e)
              (opens.by_code script old m past cause came dues c first turn sound_m (fetching_t f) refl refl
              (λ w. refl) (own_f f)
              (asked_one (home f.fid.fileset) (Fetch f) tt) runs_f)
