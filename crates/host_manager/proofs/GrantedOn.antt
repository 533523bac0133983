-- A Grant comes that answers the outstanding Fetch: what the host has learnt and taken by it.
use Rattle.base_types.specs.Ids.{same_fid}
use Rattle.base_types.specs.declared.ids.Fid.{Fid}
use Rattle.base_types.specs.declared.ids.FilesetId.{FilesetId}
use Rattle.base_types.specs.declared.ids.HostId.{HostId}
use Rattle.base_types.specs.declared.ids.Node.TheVariants.{Host}
use Rattle.base_types.specs.declared.ids.ServerId.{ServerId}
use Rattle.base_types.specs.declared.limits.TheConstants.{FILE_BYTES_MAX}
use Rattle.host_asks.specs.Asking.{Doing, doing}
use Rattle.host_asks.specs.Going.{GoesOn}
use Rattle.host_cache.specs.declared.held.Held.{Held}
use Rattle.host_gives.specs.Giving.{Giving, IsSound as IsSoundGives, given_in, is_of_file}
use Rattle.host_labels.specs.Labels.{IsSound as IsSoundUses}
use Rattle.host_leaves.specs.Sending.{sending_due}
use Rattle.host_manager.proofs.Heard.{comes_so, half_by, hears_is, message_is, stays_here, takes_none}
use Rattle.host_manager.proofs.HeardOn.{HasHeard, heard_on}
use Rattle.host_manager.proofs.Running.{asks_idle}
use Rattle.host_manager.specs.Learning.{HasTaken, floor_by, may_use, taking, taking_from, with_floor_by}
use Rattle.host_manager.specs.Taking.{answers_fetch}
use Rattle.host_tables.proofs.Heeding.{unused_grant_stands}
use Rattle.host_tables.proofs.Lists.{by_test, in_any, in_either, in_map, map_in, none_in, same_fid_is}
use Rattle.host_tables.proofs.Tidy.{grant_tidy, home_number, tidy_stays}
use Rattle.host_tables.specs.Drafts.{no_draft, step_of}
use Rattle.host_tables.specs.Granting.{AfterGrant, BringsAnew, IsUsed, grants}
use Rattle.host_tables.specs.Half.{learning}
use Rattle.host_tables.specs.Hearing.{hears}
use Rattle.host_tables.specs.Heeding.{AnswersUnused}
use Rattle.host_manager.specs.Running.{IsRunning, RunsOn}
use Rattle.host_tables.specs.Saying.{IsFirst}
use Rattle.host_tables.specs.Stands.{Stands}
use Rattle.host_tables.specs.Tables.{content, floor_of, held_of, last_fetch, site_at}
use Rattle.host_tables.specs.Tidy.{IsTidy, IsTidyToken, servers_in}
use Rattle.host_tables.specs.Updates.{is_floor, put_by}
use Rattle.host_tables.specs.WholeSteps.{TakesRight}
use Rattle.host_tables.specs.declared.calls.Request.{Request}
use Rattle.host_tables.specs.declared.calls.Request.TheVariants.{Change as AChange, Fetch as AFetch}
use Rattle.host_tables.specs.declared.draft.Draft.{Draft}
use Rattle.host_tables.specs.declared.files.Floor.{Floor}
use Rattle.host_tables.specs.declared.numbers.Fetched.{Fetched}
use Rattle.host_tables.specs.declared.sites.Site.{Site}
use Rattle.host_tables.specs.declared.tables.Tables.{Tables}
use Rattle.message_types.specs.Soundness.{IsBody, IsGrant, IsServer, IsSound}
use Rattle.message_types.specs.declared.asking.Fetch.{Fetch as FetchOf}
use Rattle.message_types.specs.declared.giving.Give.{Give}
use Rattle.message_types.specs.declared.message.Body.{Body}
use Rattle.message_types.specs.declared.message.Body.TheVariants.{Done, Grant}
use Rattle.message_types.specs.declared.message.Direction.TheVariants.{ToHost}
use Rattle.message_types.specs.declared.message.Message.{Message}
use Rattle.message_types.specs.declared.telling.Bring.{Bring}
use Rattle.message_types.specs.declared.telling.Done.{Done as DoneOf}
use Rattle.message_types.specs.declared.telling.Grant.{Grant as GrantOf}
use Rattle.run_rules.specs.Messages.{About, Asking, ComesIn, home, stay_of}
use Rattle.run_rules.specs.Past.{In}
use Rattle.run_rules.specs.Tokens.{AboveFloor, GiveOpen, Uses}
use Rattle.run_rules.specs.Views.{is_shown, part_told}
use Rattle.run_rules.specs.declared.step.Cause.TheVariants.{Message as Came}
use Rattle.run_rules.specs.declared.step.Labelled.{Labelled}
use Rattle.run_rules.specs.declared.step.Step.{Step}
use Rattle.script_lines.specs.declared.script.Script.{Script}
use Rattle.std.proofs.Common.{Bool, List, None, Option, Some, [], ap, arith, eqb-true, false, if◌then◌else◌, inl, inr}
use Rattle.std.proofs.Common.{nat_lt, not, refl, subst, sym, true, ℕ, ◌&&◌, ◌<◌, ◌==◌, ◌∙◌, ◌∷◌, ◌≡◌, ◌≤◌, ◌⊎◌}
use Rattle.std.proofs.lemmas.Bool.{and_parts, ltb-false}
use Rattle.std.proofs.Common.{ltb-true}
use Rattle.std.specs.List.{list_any}
use Rattle.std.specs.Prelude.{IfSome}
use Rattle.std.specs.Option.{option_map_or}
use Rattle.token_types.specs.declared.token.Token.{Token}
use Rattle.tree_calls.specs.declared.part.Status.{Status as StatusOf}
use Rattle.tree_laws.specs.Parts.Part.{Size}
use Rattle.host_tables.proofs.Granted as granted

-- what is put into a list is in it, or the rest was
pub in_put : {A : Type 0} (test : A → Bool) (new : A) (xs : List A) (z : A) → In z (put_by test new xs)
    → (z ≡ new) ⊎ In z xs
in_put test new [] z i = elim i [ inl e ↦ inl e | inr n ↦ elim n [ ] ]
in_put test new (x ∷ xs) z i = elim (by_test (test x)) [
  | inl t ↦ elim (subst (λ (b : Bool). In z (if b then new ∷ xs else x ∷ put_by test new xs)) t i) [
    | inl e ↦ inl e
    | inr k ↦ inr (inr k)
  ]
  | inr f ↦ elim (subst (λ (b : Bool). In z (if b then new ∷ xs else x ∷ put_by test new xs)) f i) [
    | inl e ↦ inr (inl e)
    | inr k ↦ elim (in_put test new xs z k) [ inl e ↦ inl e | inr l ↦ inr (inr l) ]
  ]
]

-- the Fetch that it answers
answered_fetch : (g : GrantOf) (r : Option Request) → answers_fetch g r ≡ true
    → (f : FetchOf) × (r ≡ Some (AFetch f)) × (f.fid.fileset ≡ g.bring.fid.fileset) × (f.number ≡ g.bring.number)
answered_fetch g None e = absurd (cc)
answered_fetch g (Some (AChange v c)) e = absurd (cc)
answered_fetch g (Some (AFetch f)) e =
    let p = and_parts (f.number == g.bring.number) (f.fid.fileset.0 == g.bring.fid.fileset.0) e in
    let fs = eqb-true f.fid.fileset.0 g.bring.fid.fileset.0 p.1 in
    (f, refl, (λ i. record { 0 = fs i }), eqb-true f.number g.bring.number p.0)

-- it isn't used: its stamp isn't above the floor, or a give-back of the file is on its way
pub not_used : (m : Tables) (w : Bring) → may_use m w ≡ false
    → (w.stamp ≤ floor_of m.floors w.fid) ⊎ (list_any (is_of_file w.fid) m.gives.gives ≡ true)
not_used m w e = by_parts (nat_lt (floor_of m.floors w.fid) w.stamp) (list_any (is_of_file w.fid) m.gives.gives) refl
    refl e
  where
    by_parts : (a b : Bool) → nat_lt (floor_of m.floors w.fid) w.stamp ≡ a
        → list_any (is_of_file w.fid) m.gives.gives ≡ b → (a && not b) ≡ false
        → (w.stamp ≤ floor_of m.floors w.fid) ⊎ (list_any (is_of_file w.fid) m.gives.gives ≡ true)
    by_parts a true p q k = inr q
    by_parts true false p q k = absurd (cc)
    by_parts false false p q k = inl (ltb-false (floor_of m.floors w.fid) w.stamp p)

pub is_usable : (m : Tables) (w : Bring) → may_use m w ≡ true
    → (floor_of m.floors w.fid < w.stamp) × (list_any (is_of_file w.fid) m.gives.gives ≡ false)
is_usable m w e =
    let p = and_parts (nat_lt (floor_of m.floors w.fid) w.stamp) (not (list_any (is_of_file w.fid) m.gives.gives)) e in
    (ltb-true (floor_of m.floors w.fid) w.stamp p.0, by_not (list_any (is_of_file w.fid) m.gives.gives) p.1)
  where
    by_not : (b : Bool) → not b ≡ true → b ≡ false
    by_not true q = absurd (cc)
    by_not false q = refl

module _ (script : Script) (m : Tables) (past : List Step) (message : Message) (running : IsRunning script m past)
    (sound : IsSound script.roster message) (host_is : message.host ≡ m.host) (way : message.direction ≡ ToHost)
    (g : GrantOf) (b : message.body ≡ Grant g) (present : (site_at m.sites message.server).epoch ≡ message.epoch)
    (none_moved : message.moves ≡ 0) (gives : IsSoundGives m.gives) (answers : answers_fetch g m.request ≡ true) where
  stands : Stands script m past
  stands = running.rests.stands

  abbrev v : ServerId
  v = message.server

  is_grant : IsGrant message g
  is_grant = subst (IsBody script.roster message) b sound.body

  is : half_by m.host message ≡ hears m.host v message.epoch message.moves (Grant g)
  is = hears_is m.host message host_is way ∙ ap (hears m.host v message.epoch message.moves) b

  came : message ≡ record {
    direction = ToHost;
    host = m.host;
    server = v;
    epoch = message.epoch;
    moves = message.moves;
    body = Grant g;
  }
  came = message_is m.host message host_is way ∙ (λ i. record {
    direction = ToHost;
    host = m.host;
    server = v;
    epoch = message.epoch;
    moves = message.moves;
    body = b i;
  })

  place_is : stay_of past g.bring.fid.fileset ≡ record { server = v; moves = message.moves }
  place_is = stays_here past message g.bring.fid.fileset is_grant.home none_moved

  fetch : (f : FetchOf) × (m.request ≡ Some (AFetch f)) × (f.fid.fileset ≡ g.bring.fid.fileset)
      × (f.number ≡ g.bring.number)
  fetch = answered_fetch g m.request answers

  -- its number is one that the host has asked under
  counted : g.bring.number ≤ last_fetch m.fetched g.bring.fid.fileset
  counted =
      let has = (stands.request.fetch fetch.0 fetch.1).0 in
      stands.numbers.fetches g.bring.fid.fileset g.bring.number (fetch.0, has, fetch.2, fetch.3)

  -- nothing is being ended while something is asked
  none_ending : (u : Labelled) → m.ending ≡ Some u → ⊥
  none_ending u e =
      let p : None ≡ Some (AFetch fetch.0) = sym (running.ending u e).3 ∙ fetch.1 in absurd (cc)

  granted_is : (taken : List Token) (c : GrantOf) (w : ServerId) (e n : ℕ)
      → ComesIn (learning m.host (Came message) taken) w e n (Grant c) → g ≡ c
  granted_is taken c w e n z =
      let p = comes_so m.host message past (Grant g) b host_is way w e n (Grant c) (z.0, z.1, z.2, z.3, z.4, z.5) in cc

  not_done : (taken : List Token) (c : DoneOf) (w : ServerId) (e n : ℕ)
      → ComesIn (learning m.host (Came message) taken) w e n (Done c) → ⊥
  not_done taken c w e n z =
      let p = comes_so m.host message past (Grant g) b host_is way w e n (Done c) (z.0, z.1, z.2, z.3, z.4, z.5) in cc

  home_declared : IsServer script.roster (home g.bring.fid.fileset)
  home_declared =
      let p = is_grant.home none_moved in
      let n = home_number g.bring.fid.fileset in
      let q : v.0 ≡ (home g.bring.fid.fileset).0 = sym p ∙ n in
      subst (IsServer script.roster) (λ i. record { 0 = q i }) sound.server

  -- # It isn't used
  module _ (no_use : may_use (record m { request = None }) g.bring ≡ false) where
    abbrev m_u : Tables
    m_u = record m { request = None }

    answers_u : AnswersUnused m past v message.epoch message.moves g
    answers_u = record {
      place_is = place_is;
      present = present;
      fetch = fetch.0;
      asked = fetch.1;
      of_fileset = fetch.2;
      number = fetch.3;
      unused = not_used m_u g.bring no_use;
    }

    learnt_u : Stands script m_u (half_by m.host message ∷ past)
    learnt_u = subst (λ (s : Step). Stands script m_u (s ∷ past)) (sym is)
        (unused_grant_stands script m past v message.epoch message.moves g stands answers_u)

    no_grant : (w : Bring) → (c : GrantOf) × About past (half_by m.host message) w.fid.fileset (Grant c)
        × (c.bring ≡ w) × Asking past w.fid.fileset w.number → AboveFloor past w.fid w.stamp
        → (GiveOpen past w.fid → ⊥) → ⊥
    no_grant w r above free =
        let brings : g.bring ≡ w = ap (λ (x : GrantOf). x.bring) (granted_is [] r.0 _ _ _ r.1) ∙ r.2 in
        elim (not_used m_u g.bring no_use) [
          | inl low ↦
              let l = stands.floors.floor g.bring.fid g.bring.stamp
              (subst (λ (x : Bring). AboveFloor past x.fid x.stamp) (sym brings) above) in omega (arith, low, l)
          | inr given ↦
              let y = in_any (is_of_file g.bring.fid) m.gives.gives given in
              let k = stands.gives.made y.0 y.1 in
              subst (λ (x : Bring). GiveOpen past x.fid → ⊥) (sym brings) free (
                k.0,
                k.2,
                same_fid_is k.0.fid g.bring.fid
                    (subst (λ (c : Body). option_map_or (λ (give : Give). same_fid give.fid g.bring.fid)
                    (given_in c) false ≡ true) k.1 y.2),
                k.3,
              )
        ]

    no_uses : (w : Bring) → Uses past (half_by m.host message) w → ⊥
    no_uses w u = elim u.0 [ inl r ↦ no_grant w r u.1 u.2 | inr r ↦ not_done [] r.0 _ _ _ r.1 ]

    pub heard_u : HasHeard script m m_u past message no_draft
    heard_u = record {
      running = running;
      host = refl;
      learnt = learnt_u;
      tidy = tidy_stays script.roster m m_u running.tidy (record {
        host_is = refl;
        servers = refl;
        held = λ t i. inl i;
        sizes = λ fid. inl refl;
        leaving = λ z i. inl i;
        gives = λ z k i e. inl i;
        fetch = λ f e. absurd (cc);
        change = λ w c e. absurd (cc);
        call = λ c e. inl e;
        homes = λ h i. inl i;
        floors = λ f i. inl i;
      });
      gives = gives;
      draft = refl;
      takes = takes_none past (half_by m.host message) refl no_uses;
      byes = λ w. refl;
      grants = λ fs c z at. subst (λ (x : FilesetId). c.bring.number ≤ last_fetch m.fetched x) at
          (subst (λ (x : GrantOf). x.bring.number ≤ last_fetch m.fetched x.bring.fid.fileset)
          (granted_is [] c _ _ _ z) counted);
      changes = λ w c z. absurd (elim z [
        | inl k ↦ not_done [] c _ _ _ k.1
        | inr k ↦ not_done [] c _ _ _ k
      ]);
      says = λ s y i. elim i [ ];
      due = λ k first fresh. absurd (fresh first);
      ending = λ u e. absurd (none_ending u e);
      asking = asks_idle m_u refl;
      idle = λ e. refl;
      silent = λ c e q. refl;
    }

    pub unused_goes : IsSoundUses m.uses → (at : Doing) → GoesOn (doing m_u no_draft) at → IsSoundGives at.tables.gives
        → RunsOn script m at.tables past (step_of (Host m.host) (Came message) (sending_due at.tables at.draft))
    unused_goes uses at goes left = heard_on script m m_u past message no_draft heard_u uses at goes left

  -- # It is used
  module _ (usable : may_use (record m { request = None }) g.bring ≡ true) (new : Tables) (d : Draft)
      (its : HasTaken (with_floor_by g.bring (record m { request = None })) no_draft
      (taking (Some g) g.bring.tokens (taking_from (record m { request = None }) no_draft)) new d)
      (anew : BringsAnew past g d.taken)
      (after : AfterGrant m new g d.taken past (grants m.host v message.epoch message.moves g d.taken)) where
    is_used : IsUsed m past v message.epoch message.moves g
    is_used = record {
      place_is = place_is;
      present = present;
      fetch = fetch.0;
      asked = fetch.1;
      of_fileset = fetch.2;
      number = fetch.3;
      above = (is_usable (record m { request = None }) g.bring usable).0;
      no_give = (is_usable (record m { request = None }) g.bring usable).1;
    }

    step_is : learning m.host (Came message) d.taken ≡ grants m.host v message.epoch message.moves g d.taken
    step_is = ap (λ (x : Message). learning m.host (Came x) d.taken) came

    host_same : m.host ≡ new.host
    host_same = sym after.host

    learnt_n : Stands script new (learning new.host (Came message) d.taken ∷ past)
    learnt_n = subst (λ (h : HostId). Stands script new (learning h (Came message) d.taken ∷ past)) host_same
        (subst (λ (s : Step). Stands script new (s ∷ past)) (sym step_is)
        (granted.learnt script m new past v message.epoch message.moves g d.taken stands is_used anew after))

    takes_g : TakesRight past (grants m.host v message.epoch message.moves g d.taken)
    takes_g = record {
      takes = granted.takes script m new past v message.epoch message.moves g d.taken stands is_used anew after;
      takes_all = granted.takes_all script m new past v message.epoch message.moves g d.taken stands is_used anew after;
    }

    takes_n : TakesRight past (learning new.host (Came message) d.taken)
    takes_n = subst (λ (h : HostId). TakesRight past (learning h (Came message) d.taken)) host_same
        (subst (TakesRight past) (sym step_is) takes_g)

    -- tokens are those of the Grant, or were held
    held_n : (t : Token) → In t (held_of new) → In t (held_of m) ⊎ IsTidyToken script.roster m.host t
    held_n t i =
        let k = in_map (λ (h : Held). h.token) new.cache.held t i in
        elim (in_either after.held m.cache.held k.0 (subst (In k.0) after.front k.1)) [
          | inr j ↦ inl (subst (λ (x : Token). In x (held_of m)) (sym k.2)
              (map_in (λ (h : Held). h.token) m.cache.held k.0 j))
          | inl j ↦
              let there = (after.taken_is k.0.token).0 (map_in (λ (h : Held). h.token) after.held k.0 j) in
              inr (subst (λ (x : Token). IsTidyToken script.roster m.host x) (sym k.2)
              (subst (λ (h : HostId). IsTidyToken script.roster h k.0.token) host_is
              (grant_tidy script.roster message g sound b none_moved k.0.token (anew.from k.0.token there))))
        ]

    size_told : option_map_or (λ status. status.length) g.status 0 ≤ FILE_BYTES_MAX
    size_told = by_status g.status is_grant.told.size
      where
        by_status : (o : Option StatusOf) → IfSome o (λ status. status.length ≤ FILE_BYTES_MAX)
            → option_map_or (λ status. status.length) o 0 ≤ FILE_BYTES_MAX
        by_status None h = omega arith
        by_status (Some status) h = h

    sizes_n : (fid : Fid) → (content new.cache fid Size ≡ content m.cache fid Size)
        ⊎ (content new.cache fid Size ≤ FILE_BYTES_MAX)
    sizes_n fid = by_shown (is_shown (grants m.host v message.epoch message.moves g d.taken) fid Size)
        (after.content_is fid Size)
      where
        by_shown : (t : Bool) → content new.cache fid Size ≡ (if t then part_told g Size else content m.cache fid Size)
            → (content new.cache fid Size ≡ content m.cache fid Size)
            ⊎ (content new.cache fid Size ≤ FILE_BYTES_MAX)
        by_shown true e = inr (subst (λ (n : ℕ). n ≤ FILE_BYTES_MAX) (sym e) size_told)
        by_shown false e = inl e

    floors_n : (f : Floor) → In f new.floors → In f m.floors ⊎ IsServer script.roster (home f.fid.fileset)
    floors_n f i = elim (in_put (is_floor g.bring.fid) (floor_by g.bring) m.floors f
        (subst (In f) (ap (λ (x : Tables). x.floors) its.tables) i)) [
          | inl e ↦ inr (subst (λ (x : Floor). IsServer script.roster (home x.fid.fileset)) (sym e) home_declared)
          | inr j ↦ inl j
        ]

    tidy_n : IsTidy script.roster new
    tidy_n = tidy_stays script.roster m new running.tidy (record {
      host_is = after.host;
      servers = ap (λ (sites : List Site). servers_in sites) after.sites;
      held = held_n;
      sizes = sizes_n;
      leaving = λ z i. inl (subst (In z) after.leaving i);
      gives = λ z k i e. inl (subst (λ (x : Giving). In z x.gives) after.gives i);
      fetch = λ f e. absurd (let p = sym after.request ∙ e in cc);
      change = λ w c e. absurd (let p = sym after.request ∙ e in cc);
      call = λ c e. inl (sym after.call ∙ e);
      homes = λ h i. inl (subst (In h) after.homes i);
      floors = floors_n;
    })

    pub heard_n : HasHeard script m new past message d
    heard_n = record {
      running = running;
      host = host_same;
      learnt = learnt_n;
      tidy = tidy_n;
      gives = subst IsSoundGives (sym after.gives) gives;
      draft = its.draft_is ∙ (λ i. record no_draft { taken = taken_same i; sent = sent_same i; due = due_same i });
      takes = takes_n;
      byes = λ w. ap (λ (sites : List Site). (site_at sites w).said_bye) after.sites;
      grants = λ fs c z at.
          subst (λ (n : ℕ). c.bring.number ≤ n) (sym (ap (λ (x : List Fetched). last_fetch x fs) after.fetched))
          (subst (λ (x : FilesetId). c.bring.number ≤ last_fetch m.fetched x) at
          (subst (λ (x : GrantOf). x.bring.number ≤ last_fetch m.fetched x.bring.fid.fileset)
          (granted_is d.taken c _ _ _ (z.0, z.1, z.2, z.3, z.4, z.5)) counted));
      changes = λ w c z. absurd (elim z [
        | inl k ↦ not_done d.taken c _ _ _ (k.1.0, k.1.1, k.1.2, k.1.3, k.1.4, k.1.5)
        | inr k ↦ not_done d.taken c _ _ _ (k.0, k.1, k.2, k.3, k.4, k.5)
      ]);
      says = λ s y i. absurd (none_in d.sent (ap (λ (x : Draft). x.sent) its.draft_is) y i);
      due = λ k first fresh. absurd (fresh (subst (λ (x : Giving). IsFirst x k) after.gives first));
      ending = λ u e. absurd (none_ending u (sym after.ending ∙ e));
      asking = asks_idle new after.request;
      idle = λ e. after.request;
      silent = λ c e q. ap (λ (x : Draft). x.sent) its.draft_is;
    }
      where
        taken_same : (taking (Some g) g.bring.tokens (taking_from (record m { request = None }) no_draft)).taken
            ≡ d.taken
        taken_same = sym (ap (λ (x : Draft). x.taken) its.draft_is)

        sent_same : no_draft.sent ≡ d.sent
        sent_same = sym (ap (λ (x : Draft). x.sent) its.draft_is)

        due_same : no_draft.due ≡ d.due
        due_same = sym (ap (λ (x : Draft). x.due) its.draft_is)

    pub used_goes : IsSoundUses m.uses → (at : Doing) → GoesOn (doing new d) at → IsSoundGives at.tables.gives
        → RunsOn script m at.tables past (step_of (Host m.host) (Came message) (sending_due at.tables at.draft))
    used_goes uses at goes left =
        subst (λ (h : HostId). RunsOn script m at.tables past
        (step_of (Host h) (Came message) (sending_due at.tables at.draft))) (sym host_same)
        (heard_on script m new past message d heard_n (subst IsSoundUses (sym after.uses) uses) at goes left)
