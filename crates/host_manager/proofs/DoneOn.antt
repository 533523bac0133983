-- A Done comes that answers the outstanding Change: what the host has learnt and taken by it.
use Rattle.base_types.specs.Ids.{same_fid}
use Rattle.base_types.specs.Name.{same_name}
use Rattle.base_types.specs.declared.ids.FilesetId.{FilesetId}
use Rattle.base_types.specs.declared.ids.HostId.{HostId}
use Rattle.base_types.specs.declared.ids.Node.TheVariants.{Host}
use Rattle.base_types.specs.declared.ids.ServerId.{ServerId}
use Rattle.host_asks.specs.Asking.{Doing, doing}
use Rattle.host_asks.specs.Going.{GoesOn}
use Rattle.host_cache.specs.declared.held.Held.{Held}
use Rattle.host_gives.specs.Giving.{Giving, IsSound as IsSoundGives, given_in, is_of_file}
use Rattle.host_labels.specs.Labels.{IsSound as IsSoundUses}
use Rattle.host_leaves.specs.Sending.{sending_due}
use Rattle.host_manager.proofs.GrantedOn.{in_put, is_usable}
use Rattle.host_manager.proofs.Heard.{comes_so, half_by, hears_is, message_is, takes_none}
use Rattle.host_manager.proofs.HeardOn.{HasHeard, heard_on}
use Rattle.host_manager.proofs.Opened.{use_kind}
use Rattle.host_manager.proofs.Running.{asks_idle}
use Rattle.host_leaves.specs.Owning.{is_use}
use Rattle.host_manager.specs.Learning.{HasTaken, brings_uses, floor_by, may_use, taking, taking_from, with_floor_by}
use Rattle.host_manager.specs.Taking.{answers_change, homes_by, homes_named, told_by}
use Rattle.host_tables.proofs.HeardDone.{unused_done_stands}
use Rattle.host_tables.proofs.HeardUsed.{used_done_stands}
use Rattle.host_tables.proofs.Lists.{any_in, by_test, false_any, in_any, in_either, in_map, map_in, name_same}
use Rattle.host_tables.proofs.Lists.{names_are, none_in}
use Rattle.host_tables.proofs.Lists.{same_fid_is, true_false}
use Rattle.host_tables.proofs.Tidy.{done_tidy, home_number, tidy_stays}
use Rattle.host_tables.proofs.Updating.{reads_after}
use Rattle.host_tables.specs.Drafts.{no_draft, step_of}
use Rattle.host_tables.specs.Half.{learning}
use Rattle.host_tables.specs.HeardDone.{AnswersChange, NotesHome, call_after}
use Rattle.host_tables.specs.HeardDone.NotesHome.{NotesNone, NotesOne}
use Rattle.host_tables.specs.HeardUsed.{AfterDone, TakesAnew, UsesDone}
use Rattle.host_tables.specs.Hearing.{hears, saying as saying_of}
use Rattle.host_manager.specs.Running.{IsRunning, RunsOn}
use Rattle.host_tables.specs.Saying.{IsFirst}
use Rattle.host_tables.specs.Stands.{Stands}
use Rattle.host_tables.specs.Tables.{floor_of, held_of, home_of, last_change, site_at}
use Rattle.host_tables.specs.Tidy.{IsTidy, IsTidyToken, servers_in}
use Rattle.host_tables.specs.Updates.{is_floor, is_home, with_home}
use Rattle.host_tables.specs.WholeSteps.{TakesRight}
use Rattle.host_tables.specs.declared.calls.Home.{Home}
use Rattle.host_tables.specs.declared.calls.Request.{Request}
use Rattle.host_tables.specs.declared.calls.Request.TheVariants.{Change as AChange, Fetch as AFetch}
use Rattle.host_tables.specs.declared.draft.Draft.{Draft}
use Rattle.host_tables.specs.declared.files.Floor.{Floor}
use Rattle.host_tables.specs.declared.numbers.Changed.{Changed}
use Rattle.host_tables.specs.declared.sites.Site.{Site}
use Rattle.host_tables.specs.declared.tables.Tables.{Tables}
use Rattle.message_types.specs.Soundness.{IsBody, IsDone, IsOutcome, IsServer, IsSound}
use Rattle.message_types.specs.declared.asking.Change.{Change as ChangeOf}
use Rattle.message_types.specs.declared.giving.Give.{Give}
use Rattle.message_types.specs.declared.message.Body.{Body}
use Rattle.message_types.specs.declared.message.Body.TheVariants.{Done, Grant}
use Rattle.message_types.specs.declared.message.Direction.TheVariants.{ToHost}
use Rattle.message_types.specs.declared.message.Message.{Message}
use Rattle.message_types.specs.declared.telling.Bring.{Bring}
use Rattle.message_types.specs.declared.telling.Done.{Done as DoneOf}
use Rattle.message_types.specs.declared.telling.DoneIs.{DoneIs}
use Rattle.message_types.specs.declared.telling.DoneIs.TheVariants.{Again, Elsewhere, Granted, Known as IsFileset}
use Rattle.message_types.specs.declared.telling.DoneIs.TheVariants.{Reply as HasReply}
use Rattle.message_types.specs.declared.telling.Grant.{Grant as GrantOf}
use Rattle.need_host.specs.Questions.{fileset_of}
use Rattle.run_rules.specs.Messages.{ComesIn, DoneComes, home}
use Rattle.run_rules.specs.Past.{In}
use Rattle.run_rules.specs.Tokens.{AboveFloor, BringsUses, GiveOpen, IsUseKind, Uses}
use Rattle.run_rules.specs.declared.step.Asked.{Asked}
use Rattle.run_rules.specs.declared.step.Cause.{Cause}
use Rattle.run_rules.specs.declared.step.Cause.TheVariants.{Message as Came}
use Rattle.run_rules.specs.declared.step.Labelled.{Labelled}
use Rattle.run_rules.specs.declared.step.Step.{Step}
use Rattle.script_lines.specs.declared.script.Script.{Script}
use Rattle.std.proofs.Common.{Bool, List, None, Option, Some, [], ap, arith, eq-eqb, eqb-true, false, if◌then◌else◌}
use Rattle.std.proofs.Common.{inl, inr, not, refl, subst, sym, true, ℕ}
use Rattle.std.proofs.Common.{◌&&◌, ◌/◌, ◌<◌, ◌==◌, ◌∙◌, ◌∷◌, ◌≡◌, ◌≤◌, ◌⊎◌}
use Rattle.std.proofs.lemmas.Bool.{and_from, and_parts}
use Rattle.std.specs.List.{list_any}
use Rattle.std.specs.Option.{option_map_or}
use Rattle.token_types.specs.declared.token.Kind.{Kind}
use Rattle.token_types.specs.declared.token.Kind.TheVariants.{Bytes as BytesKind, Lock as LockKind}
use Rattle.token_types.specs.declared.token.Kind.TheVariants.{Opening as OpeningKind, Status as StatusKind}
use Rattle.token_types.specs.declared.token.Token.{Token}
use Rattle.tree_laws.specs.Parts.Part.{Size}
use Rattle.host_tables.proofs.HeardUsed as used_of

-- the Change that it answers
answered_change : (v : ServerId) (d : DoneOf) (r : Option Request) → answers_change v d r ≡ true
    → (c : ChangeOf) × (r ≡ Some (AChange v c)) × (c.fileset ≡ d.fileset) × (c.number ≡ d.bring.number)
answered_change v d None e = absurd (cc)
answered_change v d (Some (AFetch f)) e = absurd (cc)
answered_change v d (Some (AChange w c)) e =
    let p = and_parts (w.0 == v.0) ((c.number == d.bring.number) && (c.fileset.0 == d.fileset.0)) e in
    let q = and_parts (c.number == d.bring.number) (c.fileset.0 == d.fileset.0) p.1 in
    let w_is = eqb-true w.0 v.0 p.0 in
    let fs = eqb-true c.fileset.0 d.fileset.0 q.1 in (
      c,
      (λ i. Some (AChange (record { 0 = w_is i }) c)),
      (λ i. record { 0 = fs i }),
      eqb-true c.number d.bring.number q.0,
    )

-- # What it tells
-- what is noted of a fileset
named_notes : (homes : List Home) (c : ChangeOf) (id : FilesetId) → c.enter ≡ true → (o : Option (ServerId × List ℕ))
    → fileset_of c.call ≡ o
    → NotesHome homes (option_map_or (λ (server, name). with_home server name id homes) o homes) c (IsFileset id)
named_notes homes c id enters None of =
    NotesNone (λ w name other e at known. let p = sym of ∙ at in cc) refl
named_notes homes c id enters (Some (w, name)) of =
    NotesOne w name id enters of refl
    (reads_after.homes homes w name id w name
    ∙ ap (λ (b : Bool). if b then Some id else home_of homes w name)
    (and_from (w.0 == w.0) (same_name name name) (eq-eqb w.0 w.0 refl) (name_same name)))
    (λ v other apart. by_test_of v other apart
    ((w.0 == v.0) && same_name name other) refl (reads_after.homes homes w name id v other))
  where
    by_test_of : (v : ServerId) (other : List ℕ) → (v ≡ w → other ≡ name → ⊥) → (b : Bool)
        → ((w.0 == v.0) && same_name name other) ≡ b
        → home_of (with_home w name id homes) v other ≡ (if b then Some id else home_of homes v other)
        → home_of (with_home w name id homes) v other ≡ home_of homes v other
    by_test_of v other apart false e r = r
    by_test_of v other apart true e r =
        let p = and_parts (w.0 == v.0) (same_name name other) e in
        let n = eqb-true w.0 v.0 p.0 in
        absurd (apart (λ i. record { 0 = (sym n) i }) (sym (names_are name other p.1)))

abbrev homes_told : DoneIs → Option Request → List Home → List Home
homes_told (IsFileset id) r homes = homes_by r id homes
homes_told _ r homes = homes

homes_noted : (homes : List Home) (v : ServerId) (c : ChangeOf) (outcome : DoneIs) (r : Option Request)
    → r ≡ Some (AChange v c) → NotesHome homes (homes_told outcome r homes) c outcome
homes_noted homes v c outcome r asked = subst (λ (o : Option Request). NotesHome homes (homes_told outcome o homes) c
    outcome) (sym asked) (by_outcome outcome)
  where
    by_enter : (id : FilesetId) (b : Bool) → c.enter ≡ b
        → NotesHome homes (if b then homes_named c.call id homes else homes) c (IsFileset id)
    by_enter id true e = named_notes homes c id e (fileset_of c.call) refl
    by_enter id false e = NotesNone (λ w name other enters at known. let p = sym e ∙ enters in cc) refl

    by_outcome : (o : DoneIs) → NotesHome homes (homes_told o (Some (AChange v c)) homes) c o
    by_outcome (IsFileset id) = by_enter id c.enter refl
    by_outcome (HasReply reply) = NotesNone (λ w name id e at known. absurd (cc)) refl
    by_outcome Granted = NotesNone (λ w name id e at known. absurd (cc)) refl
    by_outcome Again = NotesNone (λ w name id e at known. absurd (cc)) refl
    by_outcome (Elsewhere server) = NotesNone (λ w name id e at known. absurd (cc)) refl

-- the tables once it is told
abbrev pub told_so : Tables → DoneIs → Tables
told_so m outcome = record m {
  request = None;
  homes = homes_told outcome m.request m.homes;
  call = call_after outcome m.call;
}

pub told_is : (m : Tables) (outcome : DoneIs) → told_by outcome m ≡ told_so m outcome
told_is m (IsFileset id) = refl
told_is m (HasReply reply) = refl
told_is m Granted = refl
told_is m Again = refl
told_is m (Elsewhere server) = refl

-- what is noted leads to a fileset at the server
homes_from : (m : Tables) (v : ServerId) (c : ChangeOf) (outcome : DoneIs) (r : Option Request) (h : Home)
    → r ≡ Some (AChange v c) → In h (homes_told outcome r m.homes)
    → In h m.homes ⊎ ((id : FilesetId) × (outcome ≡ IsFileset id) × (h.id ≡ id))
homes_from m v c outcome r h asked i =
    by_outcome outcome (subst (λ (o : Option Request). In h (homes_told outcome o m.homes)) asked i)
  where
    by_name : (id : FilesetId) (o : Option (ServerId × List ℕ))
        → In h (option_map_or (λ (server, name). with_home server name id m.homes) o m.homes)
        → In h m.homes ⊎ ((k : FilesetId) × (IsFileset id ≡ IsFileset k) × (h.id ≡ k))
    by_name id None j = inl j
    by_name id (Some (w, name)) j =
        elim (in_put (is_home w name) (record { server = w; name = name; id = id }) m.homes h j) [
          | inl e ↦ inr (id, refl, ap (λ (x : Home). x.id) e)
          | inr k ↦ inl k
        ]

    by_enter : (id : FilesetId) (b : Bool) → In h (if b then homes_named c.call id m.homes else m.homes)
        → In h m.homes ⊎ ((k : FilesetId) × (IsFileset id ≡ IsFileset k) × (h.id ≡ k))
    by_enter id true j = by_name id (fileset_of c.call) j
    by_enter id false j = inl j

    by_outcome : (o : DoneIs) → In h (homes_told o (Some (AChange v c)) m.homes)
        → In h m.homes ⊎ ((id : FilesetId) × (o ≡ IsFileset id) × (h.id ≡ id))
    by_outcome (IsFileset id) j = by_enter id c.enter j
    by_outcome (HasReply reply) j = inl j
    by_outcome Granted j = inl j
    by_outcome Again j = inl j
    by_outcome (Elsewhere server) j = inl j

-- the call that is open then was open
call_was : (outcome : DoneIs) (o : Option Asked) (c : Asked) → call_after outcome o ≡ Some c → o ≡ Some c
call_was (IsFileset id) o c e = e
call_was (HasReply reply) o c e = absurd (cc)
call_was Granted o c e = e
call_was Again o c e = e
call_was (Elsewhere server) o c e = e

-- kinds of locks and open files
use_is : (k : Kind) → IsUseKind k → is_use k ≡ true
use_is (BytesKind update span) u = elim u [ ]
use_is (StatusKind update) u = elim u [ ]
use_is (LockKind writing span) u = refl
use_is (OpeningKind kind) u = refl

not_flips : (b : Bool) → not b ≡ true → b ≡ false
not_flips true e = absurd (cc)
not_flips false e = refl

not_flops : (b : Bool) → not b ≡ false → b ≡ true
not_flops true e = refl
not_flops false e = absurd (cc)

pub brings_kinds : (w : Bring) → brings_uses w ≡ true → BringsUses w
brings_kinds w e t i = elim (by_test (is_use t.kind)) [
  | inl u ↦ use_kind t.kind u
  | inr n ↦ absurd (true_false (list_any (λ (token : Token). not (is_use token.kind)) w.tokens)
      (any_in (λ (token : Token). not (is_use token.kind)) w.tokens t i (ap not n))
      (not_flips (list_any (λ (token : Token). not (is_use token.kind)) w.tokens) e))
]

pub no_kinds : (w : Bring) → brings_uses w ≡ false → BringsUses w → ⊥
no_kinds w e uses =
    let r = in_any (λ (token : Token). not (is_use token.kind)) w.tokens
    (not_flops (list_any (λ (token : Token). not (is_use token.kind)) w.tokens) e) in
    true_false (is_use r.0.kind) (use_is r.0.kind (uses r.0 r.1)) (not_flips (is_use r.0.kind) r.2)

-- fileset 0 is nowhere
nowhere : (fs : FilesetId) → fs.0 ≡ 0 → (home fs).0 ≡ 0
nowhere fs e = sym (home_number fs) ∙ ap (λ (n : ℕ). n / 65536) e

module _ (script : Script) (m : Tables) (past : List Step) (message : Message) (running : IsRunning script m past)
    (sound : IsSound script.roster message) (host_is : message.host ≡ m.host) (way : message.direction ≡ ToHost)
    (d : DoneOf) (b : message.body ≡ Done d) (present : (site_at m.sites message.server).epoch ≡ message.epoch)
    (none_moved : message.moves ≡ 0) (gives : IsSoundGives m.gives)
    (answers : answers_change message.server d m.request ≡ true) where
  stands : Stands script m past
  stands = running.rests.stands

  abbrev v : ServerId
  v = message.server

  is_done : IsDone script.roster message d
  is_done = subst (IsBody script.roster message) b sound.body

  is : half_by m.host message ≡ hears m.host v message.epoch message.moves (Done d)
  is = hears_is m.host message host_is way ∙ ap (hears m.host v message.epoch message.moves) b

  change : (c : ChangeOf) × (m.request ≡ Some (AChange v c)) × (c.fileset ≡ d.fileset) × (c.number ≡ d.bring.number)
  change = answered_change v d m.request answers

  it_answers : AnswersChange m v message.epoch message.moves d
  it_answers = record {
    present = present;
    no_moves = none_moved;
    change = change.0;
    asked = change.1;
    of_fileset = change.2;
    number = change.3;
  }

  notes : NotesHome m.homes (homes_told d.outcome m.request m.homes) it_answers.change d.outcome
  unfolding it_answers change
  notes = homes_noted m.homes v change.0 d.outcome m.request change.1

  none_ending : (u : Labelled) → m.ending ≡ Some u → ⊥
  none_ending u e =
      let p : None ≡ Some (AChange v change.0) = sym (running.ending u e).3 ∙ change.1 in absurd (cc)

  not_granted : (taken : List Token) (c : GrantOf) (w : ServerId) (e n : ℕ)
      → ComesIn (learning m.host (Came message) taken) w e n (Grant c) → ⊥
  not_granted taken c w e n z =
      let p = comes_so m.host message past (Done d) b host_is way w e n (Grant c) (z.0, z.1, z.2, z.3, z.4, z.5) in cc

  done_is : (taken : List Token) (c : DoneOf) (w : ServerId) (e n : ℕ)
      → ComesIn (learning m.host (Came message) taken) w e n (Done c) → d ≡ c
  done_is taken c w e n z =
      let p = comes_so m.host message past (Done d) b host_is way w e n (Done c) (z.0, z.1, z.2, z.3, z.4, z.5) in cc

  from_server : (taken : List Token) (c : DoneOf) (w : ServerId) (e n : ℕ)
      → ComesIn (learning m.host (Came message) taken) w e n (Done c) → v ≡ w
  from_server taken c w e n z =
      let p : message ≡ z.0 = cc in ap (λ (x : Message). x.server) p ∙ z.2

  -- its number is one that the host has asked under
  counted : (taken : List Token) (w : ServerId) (c : DoneOf)
      → DoneComes past (learning m.host (Came message) taken) w c → c.bring.number ≤ last_change m.changed w c.fileset
  counted taken w c z =
      let same : d ≡ c = elim z [ inl k ↦ done_is taken c _ _ _ k.1 | inr k ↦ done_is taken c _ _ _ k ] in
      let has = (stands.request.change v change.0 change.1).0 in
      subst (λ (x : DoneOf). x.bring.number ≤ last_change m.changed w x.fileset) same
      (stands.numbers.changes w d.fileset d.bring.number (
        change.0,
        (
          has.0,
          has.1,
          has.2,
          has.3,
          λ none_is. has.4 none_is ∙ at_server (sym (ap (λ (x : FilesetId). x.0) change.2) ∙ none_is) same,
        ),
        change.2,
        change.3,
      ))
    where
      at_server : d.fileset.0 ≡ 0 → d ≡ c → v ≡ w
      at_server none_is same = elim z [
        | inl k ↦ from_server taken c _ _ _ k.1
        | inr k ↦ absurd (
            let at : v ≡ home c.fileset = from_server taken c _ _ _ k in
            let o = nowhere c.fileset (ap (λ (x : DoneOf). x.fileset.0) (sym same) ∙ none_is) in
            let q = ap (λ (x : ServerId). x.0) at in
            let low = sound.server.first in omega (arith, o, q, low)
            )
      ]

  abbrev m_d : Tables
  m_d = told_so m d.outcome

  home_known : (id : FilesetId) → d.outcome ≡ IsFileset id → IsServer script.roster (home id)
  home_known id e =
      let at = subst (IsOutcome script.roster message) e is_done.outcome in
      let p = at none_moved in
      let n = home_number id in
      let q : v.0 ≡ (home id).0 = sym p ∙ n in
      subst (IsServer script.roster) (λ i. record { 0 = q i }) sound.server

  homes_tidy : (h : Home) → In h m_d.homes → In h m.homes ⊎ IsServer script.roster (home h.id)
  homes_tidy h i = elim (homes_from m v change.0 d.outcome m.request h change.1 i) [
    | inl j ↦ inl j
    | inr r ↦ inr (subst (λ (x : FilesetId). IsServer script.roster (home x)) (sym r.2) (home_known r.0 r.1))
  ]

  tidy_d : IsTidy script.roster m_d
  tidy_d = tidy_stays script.roster m m_d running.tidy (record {
    host_is = refl;
    servers = refl;
    held = λ t i. inl i;
    sizes = λ fid. inl refl;
    leaving = λ z i. inl i;
    gives = λ z k i e. inl i;
    fetch = λ f e. absurd (cc);
    change = λ w c e. absurd (cc);
    call = λ c e. inl (call_was d.outcome m.call c e);
    homes = homes_tidy;
    floors = λ f i. inl i;
  })

  -- # It isn't used
  module _ (nothing : BringsUses d.bring → floor_of m.floors d.bring.fid < d.bring.stamp
      → list_any (is_of_file d.bring.fid) m.gives.gives ≡ false → ⊥) where
    learnt_d : Stands script m_d (half_by m.host message ∷ past)
    learnt_d = subst (λ (s : Step). Stands script m_d (s ∷ past)) (sym is)
        (unused_done_stands script m past v message.epoch message.moves d (homes_told d.outcome m.request m.homes)
        stands it_answers notes (record { unused = λ kinds at above none. nothing kinds above none }))

    no_done : (w : Bring) → (d.bring ≡ w) → BringsUses w → AboveFloor past w.fid w.stamp
        → (GiveOpen past w.fid → ⊥) → ⊥
    no_done w brings uses above free = nothing (subst BringsUses (sym brings) uses)
        (stands.floors.floor d.bring.fid d.bring.stamp
        (subst (λ (x : Bring). AboveFloor past x.fid x.stamp) (sym brings) above))
        (false_any (is_of_file d.bring.fid) m.gives.gives (λ y i t.
        let k = stands.gives.made y i in
        subst (λ (x : Bring). GiveOpen past x.fid → ⊥) (sym brings) free (
          k.0,
          k.2,
          same_fid_is k.0.fid d.bring.fid
              (subst (λ (c : Body). option_map_or (λ (give : Give). same_fid give.fid d.bring.fid)
              (given_in c) false ≡ true) k.1 t),
          k.3,
        )))

    no_uses : (w : Bring) → Uses past (half_by m.host message) w → ⊥
    no_uses w u = elim u.0 [
      | inl r ↦ not_granted [] r.0 _ _ _ r.1
      | inr r ↦ no_done w (ap (λ (x : DoneOf). x.bring) (done_is [] r.0 _ _ _ r.1) ∙ r.2) r.4 u.1 u.2
    ]

    pub heard_d : HasHeard script m m_d past message no_draft
    heard_d = record {
      running = running;
      host = refl;
      learnt = learnt_d;
      tidy = tidy_d;
      gives = gives;
      draft = refl;
      takes = takes_none past (half_by m.host message) refl no_uses;
      byes = λ w. refl;
      grants = λ fs c z at. absurd (not_granted [] c _ _ _ z);
      changes = counted [];
      says = λ s y i. elim i [ ];
      due = λ k first fresh. absurd (fresh first);
      ending = λ u e. absurd (none_ending u e);
      asking = asks_idle m_d refl;
      idle = λ e. refl;
      silent = λ c e q. refl;
    }

    pub unused_goes : IsSoundUses m.uses → (at : Doing) → GoesOn (doing m_d no_draft) at → IsSoundGives at.tables.gives
        → RunsOn script m at.tables past (step_of (Host m.host) (Came message) (sending_due at.tables at.draft))
    unused_goes uses at goes left = heard_on script m m_d past message no_draft heard_d uses at goes left

  -- # It is used
  module _ (kinds : brings_uses d.bring ≡ true) (usable : may_use m_d d.bring ≡ true) (new : Tables) (e : Draft)
      (its : HasTaken (with_floor_by d.bring m_d) no_draft (taking None d.bring.tokens (taking_from m_d no_draft)) new
      e)
      (anew : TakesAnew past d.bring e.taken) (after : AfterDone m new d e.taken) where
    at_server : home d.bring.fid.fileset ≡ v
    at_server = by_tokens d.bring.tokens refl
      where
        by_tokens : (ts : List Token) → d.bring.tokens ≡ ts → home d.bring.fid.fileset ≡ v
        by_tokens [] q = absurd (
            let stamp = (is_done.none q).1 in
            let up = (is_usable m_d d.bring usable).0 in omega (arith, stamp, up)
            )
        by_tokens (t ∷ ts) q =
            let p = is_done.brings.home t ts q none_moved in
            let n = sym (home_number d.bring.fid.fileset) ∙ p in λ i. record { 0 = n i }

    uses_done : UsesDone m v d.bring
    uses_done = record {
      kinds = brings_kinds d.bring kinds;
      at = at_server;
      above = (is_usable m_d d.bring usable).0;
      no_give = (is_usable m_d d.bring usable).1;
    }

    homes_are : new.homes ≡ homes_told d.outcome m.request m.homes
    homes_are = ap (λ (x : Tables). x.homes) its.tables

    notes_n : NotesHome m.homes new.homes it_answers.change d.outcome
    notes_n = subst (λ (hs : List Home). NotesHome m.homes hs it_answers.change d.outcome) (sym homes_are) notes

    came : Came message ≡ Came (saying_of m.host v message.epoch message.moves (Done d))
    came = ap Came (message_is m.host message host_is way
        ∙ ap (saying_of m.host v message.epoch message.moves) b)

    step_is : learning m.host (Came message) e.taken
        ≡ learning m.host (Came (saying_of m.host v message.epoch message.moves (Done d))) e.taken
    step_is = ap (λ (c : Cause). learning m.host c e.taken) came

    host_same : m.host ≡ new.host
    host_same = sym after.host

    learnt_n : Stands script new (learning new.host (Came message) e.taken ∷ past)
    learnt_n = subst (λ (h : HostId). Stands script new (learning h (Came message) e.taken ∷ past)) host_same
        (subst (λ (s : Step). Stands script new (s ∷ past)) (sym step_is)
        (used_done_stands script m new past v message.epoch message.moves d e.taken stands it_answers notes_n uses_done
        anew after))

    takes_d : TakesRight past (learning m.host (Came (saying_of m.host v message.epoch message.moves (Done d))) e.taken)
    takes_d = record {
      takes = used_of.takes script m new past v message.epoch message.moves d e.taken stands it_answers notes_n
          uses_done anew after;
      takes_all = used_of.takes_all script m new past v message.epoch message.moves d e.taken stands it_answers notes_n
          uses_done anew after;
    }

    takes_n : TakesRight past (learning new.host (Came message) e.taken)
    takes_n = subst (λ (h : HostId). TakesRight past (learning h (Came message) e.taken)) host_same
        (subst (TakesRight past) (sym step_is) takes_d)

    held_n : (t : Token) → In t (held_of new) → In t (held_of m) ⊎ IsTidyToken script.roster m.host t
    held_n t i =
        let k = in_map (λ (h : Held). h.token) new.cache.held t i in
        elim (in_either after.held m.cache.held k.0 (subst (In k.0) after.front k.1)) [
          | inr j ↦ inl (subst (λ (x : Token). In x (held_of m)) (sym k.2)
              (map_in (λ (h : Held). h.token) m.cache.held k.0 j))
          | inl j ↦
              let there = (after.taken_is k.0.token).0 (map_in (λ (h : Held). h.token) after.held k.0 j) in
              inr (subst (λ (x : Token). IsTidyToken script.roster m.host x) (sym k.2)
              (subst (λ (h : HostId). IsTidyToken script.roster h k.0.token) host_is
              (done_tidy script.roster message d sound b none_moved k.0.token (anew.from k.0.token there))))
        ]

    floors_n : (f : Floor) → In f new.floors → In f m.floors ⊎ IsServer script.roster (home f.fid.fileset)
    floors_n f i = elim (in_put (is_floor d.bring.fid) (floor_by d.bring) m.floors f
        (subst (In f) (ap (λ (x : Tables). x.floors) its.tables) i)) [
          | inl q ↦ inr (subst (λ (x : Floor). IsServer script.roster (home x.fid.fileset)) (sym q)
              (subst (IsServer script.roster) (sym at_server) sound.server))
          | inr j ↦ inl j
        ]

    tidy_n : IsTidy script.roster new
    tidy_n = tidy_stays script.roster m new running.tidy (record {
      host_is = after.host;
      servers = ap (λ (sites : List Site). servers_in sites) after.sites;
      held = held_n;
      sizes = λ fid. inl (after.content_is fid Size);
      leaving = λ z i. inl (subst (In z) after.leaving i);
      gives = λ z k i q. inl (subst (λ (x : Giving). In z x.gives) after.gives i);
      fetch = λ f q. absurd (let p = sym after.request ∙ q in cc);
      change = λ w c q. absurd (let p = sym after.request ∙ q in cc);
      call = λ c q. inl (call_was d.outcome m.call c (sym after.call ∙ q));
      homes = λ h i. homes_tidy h (subst (In h) homes_are i);
      floors = floors_n;
    })

    pub heard_n : HasHeard script m new past message e
    heard_n = record {
      running = running;
      host = host_same;
      learnt = learnt_n;
      tidy = tidy_n;
      gives = subst IsSoundGives (sym after.gives) gives;
      draft = its.draft_is ∙ (λ i. record no_draft { taken = taken_same i; sent = sent_same i; due = due_same i });
      takes = takes_n;
      byes = λ w. ap (λ (sites : List Site). (site_at sites w).said_bye) after.sites;
      grants = λ fs c z at. absurd (not_granted e.taken c _ _ _ (z.0, z.1, z.2, z.3, z.4, z.5));
      changes = λ w c z. subst (λ (n : ℕ). c.bring.number ≤ n)
          (sym (ap (λ (x : List Changed). last_change x w c.fileset) after.changed))
          (counted e.taken w c (elim z [
            | inl k ↦ inl (k.0, (k.1.0, k.1.1, k.1.2, k.1.3, k.1.4, k.1.5))
            | inr k ↦ inr (k.0, k.1, k.2, k.3, k.4, k.5)
          ]));
      says = λ s y i. absurd (none_in e.sent (ap (λ (x : Draft). x.sent) its.draft_is) y i);
      due = λ k first fresh. absurd (fresh (subst (λ (x : Giving). IsFirst x k) after.gives first));
      ending = λ u q. absurd (none_ending u (sym after.ending ∙ q));
      asking = asks_idle new after.request;
      idle = λ q. after.request;
      silent = λ c q r. ap (λ (x : Draft). x.sent) its.draft_is;
    }
      where
        taken_same : (taking None d.bring.tokens (taking_from m_d no_draft)).taken ≡ e.taken
        taken_same = sym (ap (λ (x : Draft). x.taken) its.draft_is)

        sent_same : no_draft.sent ≡ e.sent
        sent_same = sym (ap (λ (x : Draft). x.sent) its.draft_is)

        due_same : no_draft.due ≡ e.due
        due_same = sym (ap (λ (x : Draft). x.due) its.draft_is)

    pub used_goes : IsSoundUses m.uses → (at : Doing) → GoesOn (doing new e) at → IsSoundGives at.tables.gives
        → RunsOn script m at.tables past (step_of (Host m.host) (Came message) (sending_due at.tables at.draft))
    used_goes uses at goes left =
        subst (λ (h : HostId). RunsOn script m at.tables past
        (step_of (Host h) (Came message) (sending_due at.tables at.draft))) (sym host_same)
        (heard_on script m new past message e heard_n (subst IsSoundUses (sym after.uses) uses) at goes left)
