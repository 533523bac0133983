-- A call whose turn it is is left open: what is said for it, if anything, and that the machine runs on.
use Rattle.host_tables.proofs.HearingParts.{server_is}
use Rattle.std.proofs.Common.{◌&&◌, ◌+◌, ◌<◌, ◌==◌, ◌||◌, ◌↔◌, ◌∙◌, ◌∷◌, ◌≡◌, ◌≤◌, ◌⊎◌}
use Rattle.base_types.specs.declared.ids.Fid.{Fid}
use Rattle.base_types.specs.declared.ids.FilesetId.{FilesetId}
use Rattle.base_types.specs.declared.ids.Node.TheVariants.{Host}
use Rattle.base_types.specs.declared.ids.ServerId.{ServerId}
use Rattle.host_gives.specs.Giving.{IsSound as IsSoundGives, is_of_file}
use Rattle.host_leaves.specs.Sending.{message_to, sending_due}
use Rattle.host_manager.proofs.Running.{runs_on}
use Rattle.host_manager.proofs.Turns.{HasTurn, IsTurn, turn_draft}
use Rattle.host_tables.proofs.AskingNew.{new_fetch_may}
use Rattle.host_tables.proofs.Declared.{same_servers, site_number, site_put}
use Rattle.host_tables.proofs.Lists.{by_test, true_false}
use Rattle.host_tables.proofs.Moving.{change_moves_right, fetch_moves_right, new_change_may, request_moves_right}
use Rattle.host_tables.proofs.QuietStep.{quiet_right}
use Rattle.host_tables.proofs.Tidy.{again_sound, change_sound, fetch_sound, tidy_stays}
use Rattle.host_tables.proofs.Updating.{reads_after}
use Rattle.host_tables.specs.Asking.{FetchFrom}
use Rattle.host_tables.specs.AsksByLine.{CountsFetch}
use Rattle.host_tables.specs.Drafts.{no_draft, step_of}
use Rattle.host_tables.specs.Half.{half, learning}
use Rattle.host_tables.specs.Hearing.{ChangesSite}
use Rattle.host_tables.specs.Machine.{StepRight}
use Rattle.host_tables.specs.Moving.{CountsChange, IsNoRequest, SendsChangeNew, SendsFetchNew}
use Rattle.host_tables.specs.Quiet.{IsQuiet, Moved, MovesRight, with_moved}
use Rattle.host_tables.specs.QuietStep.{IsOfTables}
use Rattle.host_manager.specs.Running.{AsksForCall, RunsOn}
use Rattle.host_tables.specs.Saying.SaysAgain.{OfHello}
use Rattle.host_tables.specs.Sending.{MaySend}
use Rattle.host_tables.specs.Stands.{AsksFrom, IsAtRest, IsLack, NumbersStand, RequestStands, Stands}
use Rattle.host_tables.specs.Tables.{home_of, last_change, last_fetch, site_at}
use Rattle.host_tables.specs.Tidy.{IsTidy, IsTidyChange, IsTidyFetch, servers_in}
use Rattle.host_tables.specs.Updates.{with_change, with_fetch, with_site}
use Rattle.host_tables.specs.WholeSteps.{moved_of}
use Rattle.host_tables.specs.declared.calls.Request.{Request}
use Rattle.host_tables.specs.declared.calls.Request.TheVariants.{Change as AChange, Fetch as AFetch}
use Rattle.host_tables.specs.declared.draft.Draft.{Draft}
use Rattle.host_tables.specs.declared.numbers.Changed.{Changed}
use Rattle.host_tables.specs.declared.numbers.Fetched.{Fetched}
use Rattle.host_tables.specs.declared.sites.Site.{Site}
use Rattle.host_tables.specs.declared.tables.Tables.{Tables}
use Rattle.message_types.specs.Soundness.{IsCall, IsServer, IsSound}
use Rattle.message_types.specs.declared.asking.Change.{Change as ChangeOf}
use Rattle.message_types.specs.declared.asking.Fetch.{Fetch as FetchOf}
use Rattle.message_types.specs.declared.message.Body.{Body}
use Rattle.message_types.specs.declared.message.Body.TheVariants.{Bye, Change, Down, Fetch, GiveBack, Hello, Kept}
use Rattle.message_types.specs.declared.message.Body.TheVariants.{Reclaim, Returned}
use Rattle.message_types.specs.declared.message.Message.{Message}
use Rattle.need_host.specs.Questions.{Question, fileset_of, numbered_under}
use Rattle.run_rules.specs.HostAsks.{HasLost}
use Rattle.run_rules.specs.Messages.{HasGreeted, HasSaid, IsDecidedAt, Says, Sends, home}
use Rattle.run_rules.specs.Past.{In}
use Rattle.run_rules.specs.Tokens.{BeginsCall, IsOpen, IsUseKind, calls_begun}
use Rattle.run_rules.specs.Views.{Stance, is_entering, stay_asked}
use Rattle.run_rules.specs.declared.step.Asked.{Asked}
use Rattle.run_rules.specs.declared.step.Cause.{Cause}
use Rattle.run_rules.specs.declared.step.Labelled.{Labelled}
use Rattle.run_rules.specs.declared.step.Step.{Step}
use Rattle.script_lines.specs.declared.script.Script.{Script}
use Rattle.std.proofs.Common.{Bool, List, None, Option, Some, [], ap, arith, eq-eqb, eqb-true, false, if◌then◌else◌}
use Rattle.std.proofs.Common.{inl, inr, is_some, not, refl, subst, sym, true, ℕ, ◌&&◌, ◌+◌, ◌<◌, ◌==◌, ◌||◌, ◌↔◌, ◌∙◌}
use Rattle.std.proofs.Common.{◌∷◌, ◌≡◌, ◌≤◌, ◌⊎◌}
use Rattle.std.proofs.lemmas.Bool.{and_from, and_parts}
use Rattle.std.specs.List.{find, list_any}
use Rattle.std.specs.Option.{option_map_or}
use Rattle.token_types.specs.declared.token.Need.{Need}
use Rattle.token_types.specs.declared.token.Token.{Token}
use Rattle.tree_calls.specs.declared.call.Call.{Call}
use Rattle.host_manager.proofs.Turns as turns

-- what may be said for a call: a Hello, or a request
abbrev pub IsAsked : Body → Type 0
IsAsked Hello = Unit {0}
IsAsked (Fetch f) = Unit {0}
IsAsked (Change c) = Unit {0}
IsAsked _ = ⊥

-- the sites afterwards, but for what was greeted
pub record KeepsSites (m : Tables) (sites : List Site) : Type 0 where
  pub epoch : (w : ServerId) → (site_at sites w).epoch ≡ (site_at m.sites w).epoch
  pub welcome : (w : ServerId) → (site_at sites w).welcome ≡ (site_at m.sites w).welcome
  pub has_bye : (w : ServerId) → (site_at sites w).has_bye ≡ (site_at m.sites w).has_bye
  pub said_bye : (w : ServerId) → (site_at sites w).said_bye ≡ (site_at m.sites w).said_bye
  pub claimed : (w : ServerId) → (site_at sites w).claimed ≡ (site_at m.sites w).claimed
  pub servers : servers_in sites ≡ servers_in m.sites

-- what a step says with that
abbrev pub IsSpoken : Body → Type 0
IsSpoken (GiveBack g) = Unit {0}
IsSpoken b = IsAsked b

asked_spoken : (b : Body) → IsAsked b → IsSpoken b
asked_spoken Hello a = tt
asked_spoken (Fetch f) a = tt
asked_spoken (Change d) a = tt
asked_spoken b a = elim a [ ]

-- the counter of a numbered fileset is the same at each server
changes_any : (changed : List Changed) (u v : ServerId) (fs : FilesetId) → (fs.0 == 0) ≡ false
    → last_change changed u fs ≡ last_change changed v fs
changes_any changed u v fs f =
    ap (λ (p : Changed → Bool). option_map_or (λ (x : Changed). x.number) (find p changed) 0)
    (λ i x. (x.fileset.0 == fs.0) && (alike x i))
  where
    alike : (x : Changed) → (not (fs.0 == 0) || (x.server.0 == u.0)) ≡ (not (fs.0 == 0) || (x.server.0 == v.0))
    alike x = ap (λ (b : Bool). not b || (x.server.0 == u.0)) f ∙ ap (λ (b : Bool). not b || (x.server.0 == v.0))
        (sym f)

-- # The counters of Changes, with a new one
module _ (changed : List Changed) (v : ServerId) (d : ChangeOf)
    (number : d.number ≡ last_change changed v d.fileset + 1) where
  abbrev new_numbers : List Changed
  new_numbers = with_change v d.fileset d.number changed

  abbrev hits : ServerId → FilesetId → Bool
  hits w fs = (d.fileset.0 == fs.0) && (not (fs.0 == 0) || (v.0 == w.0))

  abbrev Reads : ServerId → FilesetId → Type 0
  Reads w fs = last_change new_numbers w fs ≡ (if hits w fs then d.number else last_change changed w fs)

  by_server : (w : ServerId) → Reads w d.fileset → (d.fileset.0 ≡ 0 → w ≡ v)
      → last_change new_numbers w d.fileset ≡ d.number
  by_server w r same =
      r ∙ ap (λ (b : Bool). if b then d.number else last_change changed w d.fileset)
      (and_from (d.fileset.0 == d.fileset.0) (not (d.fileset.0 == 0) || (v.0 == w.0))
      (eq-eqb d.fileset.0 d.fileset.0 refl) (by_zero (d.fileset.0 == 0) refl))
    where
      by_zero : (b : Bool) → (d.fileset.0 == 0) ≡ b → (not b || (v.0 == w.0)) ≡ true
      by_zero true e = eq-eqb v.0 w.0 (ap (λ (x : ServerId). x.0) (sym (same (eqb-true d.fileset.0 0 e))))
      by_zero false e = refl

  -- the counter that is hit is the new one's
  hit_is : (w : ServerId) (fs : FilesetId) → hits w fs ≡ true
      → (d.fileset ≡ fs) × (fs.0 ≡ 0 → w ≡ v)
  hit_is w fs h =
      let p = and_parts (d.fileset.0 == fs.0) (not (fs.0 == 0) || (v.0 == w.0)) h in
      let e = eqb-true d.fileset.0 fs.0 p.0 in (
        (λ i. record { 0 = e i }),
        λ z. sym (server_is v w (or_right_of (fs.0 == 0) (v.0 == w.0) p.1
            (eq-eqb fs.0 0 z))),
      )
    where
      or_right_of : (a b : Bool) → (not a || b) ≡ true → a ≡ true → b ≡ true
      or_right_of true b e t = e
      or_right_of false b e t = absurd (cc)

  last_same : (w : ServerId) (fs : FilesetId) → hits w fs ≡ true → last_change changed w fs < d.number
  last_same w fs h =
      let p = hit_is w fs h in
      let q : last_change changed w fs ≡ last_change changed v d.fileset =
      ap (last_change changed w) (sym p.0) ∙ same_counter w (λ z. p.1 (ap (λ (x : FilesetId). x.0) (sym p.0) ∙ z))
      in
      omega (arith, q, number)
    where
      same_counter : (u : ServerId) → (d.fileset.0 ≡ 0 → u ≡ v)
          → last_change changed u d.fileset ≡ last_change changed v d.fileset
      same_counter u same = elim (by_test (d.fileset.0 == 0)) [
        | inl t ↦ ap (λ (x : ServerId). last_change changed x d.fileset) (same (eqb-true d.fileset.0 0 t))
        | inr f ↦ changes_any changed u v d.fileset f
      ]

  up_by : (w : ServerId) (fs : FilesetId) → Reads w fs → last_change changed w fs ≤ last_change new_numbers w fs
  up_by w fs r = by_hit (hits w fs) refl r
    where
      by_hit : (b : Bool) → hits w fs ≡ b
          → last_change new_numbers w fs ≡ (if b then d.number else last_change changed w fs)
          → last_change changed w fs ≤ last_change new_numbers w fs
      by_hit true h e = let l = last_same w fs h in omega (arith, l, e)
      by_hit false h e = omega (arith, e)

  other_by : (w : ServerId) (fs : FilesetId) → Reads w fs
      → (last_change new_numbers w fs ≡ last_change changed w fs)
      ⊎ ((d.fileset ≡ fs) × (d.fileset.0 ≡ 0 → w ≡ v))
  other_by w fs r = by_hit (hits w fs) refl r
    where
      by_hit : (b : Bool) → hits w fs ≡ b
          → last_change new_numbers w fs ≡ (if b then d.number else last_change changed w fs)
          → (last_change new_numbers w fs ≡ last_change changed w fs)
          ⊎ ((d.fileset ≡ fs) × (d.fileset.0 ≡ 0 → w ≡ v))
      by_hit true h e =
          let p = hit_is w fs h in inr (p.0, λ z. p.1 (ap (λ (x : FilesetId). x.0) (sym p.0) ∙ z))
      by_hit false h e = inl e

  pub change_counts : CountsChange changed new_numbers v d
  change_counts = record {
    at = λ w same. by_server w (reads_after.changes changed v d.fileset d.number w d.fileset) same;
    up = λ w fs. let r = reads_after.changes changed v d.fileset d.number w fs in up_by w fs r;
    other = λ w fs. other_by w fs (reads_after.changes changed v d.fileset d.number w fs);
  }

-- # The sites when one more is greeted
module _ (script : Script) (m : Tables) (tidy : IsTidy script.roster m) (v : ServerId)
    (declared : IsServer script.roster v) where
  abbrev site : Site
  site = record (site_at m.sites v) { greeted = true }

  abbrev pub hello_sites : List Site
  hello_sites = with_site site m.sites

  number : site.server ≡ v
  number = site_number m.sites v

  put : ChangesSite m.sites hello_sites site.server site
  put = site_put script.roster m tidy site
      (subst (λ (w : ServerId). IsServer script.roster w) (sym number) declared)

  pub hello_at : (w : ServerId) → ((w ≡ v) × (site_at hello_sites w ≡ site))
      ⊎ ((w ≡ v → ⊥) × (site_at hello_sites w ≡ site_at m.sites w))
  hello_at w = elim (by_test (w.0 == v.0)) [
    | inl t ↦
        let e = server_is w v t in
        inl (e, ap (site_at hello_sites) (e ∙ sym number) ∙ put.here)
    | inr f ↦
        let other : w ≡ v → ⊥ = λ e. true_false (w.0 == v.0) (eq-eqb w.0 v.0 (ap (λ (x : ServerId). x.0) e)) f in
        inr (other, put.others w (λ e. other (e ∙ number)))
  ]

  pub hello_kept : KeepsSites m hello_sites
  hello_kept = record {
    epoch = λ w. elim (hello_at w) [
      | inl p ↦ ap (λ (x : Site). x.epoch) p.1 ∙ ap (λ (u : ServerId). (site_at m.sites u).epoch) (sym p.0)
      | inr q ↦ ap (λ (x : Site). x.epoch) q.1
    ];
    welcome = λ w. elim (hello_at w) [
      | inl p ↦ ap (λ (x : Site). x.welcome) p.1 ∙ ap (λ (u : ServerId). (site_at m.sites u).welcome) (sym p.0)
      | inr q ↦ ap (λ (x : Site). x.welcome) q.1
    ];
    has_bye = λ w. elim (hello_at w) [
      | inl p ↦ ap (λ (x : Site). x.has_bye) p.1 ∙ ap (λ (u : ServerId). (site_at m.sites u).has_bye) (sym p.0)
      | inr q ↦ ap (λ (x : Site). x.has_bye) q.1
    ];
    said_bye = λ w. elim (hello_at w) [
      | inl p ↦ ap (λ (x : Site). x.said_bye) p.1 ∙ ap (λ (u : ServerId). (site_at m.sites u).said_bye) (sym p.0)
      | inr q ↦ ap (λ (x : Site). x.said_bye) q.1
    ];
    claimed = λ w. elim (hello_at w) [
      | inl p ↦ ap (λ (x : Site). x.claimed) p.1 ∙ ap (λ (u : ServerId). (site_at m.sites u).claimed) (sym p.0)
      | inr q ↦ ap (λ (x : Site). x.claimed) q.1
    ];
    servers = same_servers site m.sites;
  }

module _ (script : Script) (old m : Tables) (past : List Step) (cause : Cause) (came : List Token)
    (dues : List FilesetId) (c : Asked) (first : Bool) (turn : IsTurn script old m past cause came dues c first)
    (sound_m : IsSoundGives m.gives) where
  abbrev h : Step
  h = learning m.host cause came

  turn_at : (b : Bool) → first ≡ b → HasTurn m c b
  turn_at b e = subst (HasTurn m c) e turn.turn

  pub no_bye : (v : ServerId) → HasSaid past v Bye → ⊥
  no_bye v b = turns.no_bye_said script old m past cause came dues c first turn v b

  abbrev pub with_open : List Site → Option Request → List Fetched → List Changed → Moved
  with_open sites request fetched changed = record {
    sites = sites;
    request = request;
    fetched = fetched;
    changed = changed;
    lost = if first then [] else m.lost;
    call = Some c;
    begun = if first then m.begun + 1 else m.begun;
  }

  tidy_open : (sites : List Site) (request : Option Request) (fetched : List Fetched) (changed : List Changed)
      → servers_in sites ≡ servers_in m.sites
      → ((f : FetchOf) → request ≡ Some (AFetch f) → IsTidyFetch script.roster f)
      → ((v : ServerId) (d : ChangeOf) → request ≡ Some (AChange v d) → IsTidyChange script.roster v d)
      → IsTidy script.roster (with_moved m (with_open sites request fetched changed))
  tidy_open sites request fetched changed same fetch change =
      tidy_stays script.roster m (with_moved m (with_open sites request fetched changed)) turn.tidy (record {
        host_is = refl;
        servers = same;
        held = λ u i. inl i;
        sizes = λ fid. inl refl;
        leaving = λ y i. inl i;
        gives = λ y g i e. inl i;
        fetch = λ f e. inr (fetch f e);
        change = λ v d e. inr (change v d e);
        call = λ d e. inr (let p : c ≡ d = cc in subst (λ (a : Asked). IsCall script.roster a.call) p turn.askable);
        homes = λ h i. inl i;
        floors = λ f i. inl i;
      })

  all_kept : KeepsSites m m.sites
  all_kept = record {
    epoch = λ w. refl;
    welcome = λ w. refl;
    has_bye = λ w. refl;
    said_bye = λ w. refl;
    claimed = λ w. refl;
    servers = refl;
  }

  no_fetch : (f : FetchOf) → m.request ≡ Some (AFetch f) → ⊥
  no_fetch f e = let p = sym turn.idle ∙ e in cc

  no_change : (v : ServerId) (d : ChangeOf) → m.request ≡ Some (AChange v d) → ⊥
  no_change v d e = let p = sym turn.idle ∙ e in cc

  -- # What the step says: of its own, and what is due
  module _ (own sent : List Message) (asked : (y : Message) → In y own → IsAsked y.body)
      (with_it : turns.SaysWith script old m past cause came dues c first turn own sent) where
    abbrev pub d_o : Draft
    d_o = record no_draft { asked = if first then Some c else None; taken = came; sent = sent }

    abbrev pub s : Step
    s = turns.by script old m past cause came dues c first turn d_o

    pub learnt : Stands script m (half s ∷ past)
    learnt = turn.learnt

    begins : turns.BeginsTurn script old m past cause came dues c first turn d_o
    begins = record {
      only = λ k call b. elim b [ inl e ↦ by_first first refl k call e | inr a ↦ elim a.1 [ ] ];
      there = λ e. inl (ap (λ (b : Bool). if b then Some c else None) e);
    }
      where
        by_first : (b : Bool) → first ≡ b → (k : ℕ) (call : Call)
            → (if first then Some c else None) ≡ Some (record { k = k; call = call })
            → (first ≡ true) × (k ≡ c.k) × (call ≡ c.call)
        by_first true f k call e =
            let p : Some c ≡ Some (record { k = k; call = call }) =
            sym (ap (λ (b : Bool). if b then Some c else None) f) ∙ e in
            let q : c ≡ record { k = k; call = call } = cc in
            (f, sym (ap (λ (a : Asked). a.k) q), sym (ap (λ (a : Asked). a.call) q))
        by_first false f k call e =
            let p : None ≡ Some (record { k = k; call = call }) =
            sym (ap (λ (b : Bool). if b then Some c else None) f) ∙ e in absurd (cc)

    pub is_open : IsOpen (s ∷ past) c
    is_open = by_first first refl
      where
        by_first : (b : Bool) → first ≡ b → IsOpen (s ∷ past) c
        by_first true e = inl (ap (λ (b : Bool). if b then Some c else None) e)
        by_first false e =
            let g = turns.goes_on script old m past cause came dues c first turn e in inr (g.0, g.1, λ a i. elim i [ ])

    -- no more than a Hello, a request, and give-backs
    spoken : (w : ServerId) (e n : ℕ) (b : Body) → Sends s w e n b → IsSpoken b
    spoken w e n b p = elim (with_it.said p.0 p.1) [
      | inl i ↦ subst IsSpoken p.5 (asked_spoken p.0.body (asked p.0 i))
      | inr due ↦ subst IsSpoken (sym due.body ∙ p.5) tt
    ]

    pub own_said : (w : ServerId) (e n : ℕ) (b : Body) → IsAsked b → Sends s w e n b
        → (y : Message) × In y own × (y.server ≡ w) × (y.body ≡ b)
    own_said w e n b a p = elim (with_it.said p.0 p.1) [
      | inl i ↦ (p.0, i, p.2, p.5)
      | inr due ↦ absurd (subst IsAsked (sym p.5 ∙ due.body) a)
    ]

    quiet : IsQuiet s
    quiet = record {
      answers = refl;
      wrote = refl;
      begun = refl;
      made = refl;
      dropped = refl;
      keeps = λ i k. spoken k.0 k.1 k.2 (Kept k.3) k.4;
      no_stop = λ k. spoken k.0 k.1 k.2 Down k.3;
    }

    -- what was lost since it was begun
    lost_half : first ≡ false → (fid : Fid) → HasLost (h ∷ past) fid ↔ HasLost (s ∷ past) fid
    lost_half e fid = (
      (λ x. elim x [ inl k ↦ elim k.0.1 [ ] | inr k ↦ inr (k.0, begins_none) ]),
      λ x. elim x [ inl k ↦ elim k.0.1 [ ] | inr k ↦ inr (k.0, no_begin) ],
    )
      where
        begins_none : ((k : ℕ) × (call : Call) × BeginsCall s k call) → ⊥
        begins_none (k, call, b) = let p = sym e ∙ (begins.only k call b).0 in cc

        no_begin : ((k : ℕ) × (call : Call) × BeginsCall h k call) → ⊥
        no_begin (k, call, inl q) = cc
        no_begin (k, call, inr a) = elim a.1 [ ]

    pub lost_is : (fid : Fid) → In fid (if first then [] else m.lost) ↔ HasLost (s ∷ past) fid
    lost_is fid = by_first first refl
      where
        by_first : (b : Bool) → first ≡ b → In fid (if first then [] else m.lost) ↔ HasLost (s ∷ past) fid
        by_first true e = (
          (λ i. elim (subst (λ (b : Bool). In fid (if b then [] else m.lost)) e i) [ ]),
          λ x. elim x [ inl k ↦ elim k.0.1 [ ] | inr k ↦ absurd (k.1 (c.k, c.call, begins.there e)) ],
        )
        by_first false e =
            let r = turn.learnt.lost c (turn_at false e) fid in
            let half_same = lost_half e fid in (
              (λ i. half_same.0 (r.0 (subst (λ (b : Bool). In fid (if b then [] else m.lost)) e i))),
              λ x. subst (λ (b : Bool). In fid (if b then [] else m.lost)) (sym e) (r.1 (half_same.1 x)),
            )

    begun_is : (if first then m.begun + 1 else m.begun) ≡ calls_begun (s ∷ past)
    begun_is = by_first first
      where
        by_first : (b : Bool) → (if b then m.begun + 1 else m.begun)
            ≡ (if is_some (if b then Some c else None) then 1 else 0) + calls_begun past
        by_first true = let b = turn.learnt.call.begun in omega (arith, b)
        by_first false = let b = turn.learnt.call.begun in omega (arith, b)

    module _ (sites : List Site) (request : Option Request) (fetched : List Fetched) (changed : List Changed)
        (kept : KeepsSites m sites)
        (greeted : (w : ServerId) → ((site_at sites w).greeted ≡ true)
        ↔ (((site_at m.sites w).greeted ≡ true) ⊎ Says s w Hello))
        (requests : RequestStands request (s ∷ past) × NumbersStand fetched changed (s ∷ past))
        (may : (stance : Stance script.roster m.host past s) → IsOfTables script.roster m past s stance
        → (y : Message) → In y own → MaySend script.roster m.host past s stance y)
        (rest : IsAtRest (with_moved m (with_open sites request fetched changed)) (s ∷ past))
        (fetch : (f : FetchOf) → request ≡ Some (AFetch f) → IsTidyFetch script.roster f)
        (change : (w : ServerId) (d : ChangeOf) → request ≡ Some (AChange w d) → IsTidyChange script.roster w d)
        (sound : (y : Message) → In y own → IsSound script.roster y)
        (ends : (u : Labelled) → m.ending ≡ Some u → request ≡ None)
        (asks : AsksForCall (with_moved m (with_open sites request fetched changed))) where
      abbrev pub x : Moved
      x = with_open sites request fetched changed

      moves : MovesRight m x past s
      moves = record {
        site_epoch = kept.epoch;
        site_welcome = kept.welcome;
        site_has_bye = kept.has_bye;
        site_greeted = greeted;
        site_said_bye = λ w. (
          (λ e. inl (sym (kept.said_bye w) ∙ e)),
          λ z. elim z [
            | inl e ↦ kept.said_bye w ∙ e
            | inr p ↦ absurd (spoken w p.0 p.1 Bye p.2)
          ],
        );
        site_claimed = λ w. (
          (λ e. inl (sym (kept.claimed w) ∙ e)),
          λ z. elim z [
            | inl e ↦ kept.claimed w ∙ e
            | inr p ↦ absurd (spoken w p.0 p.1 (Reclaim p.2) p.3)
          ],
        );
        claims_apart = λ w a p. absurd (spoken w p.0 p.1 (Reclaim p.2) p.3);
        request = requests.0;
        numbers = requests.1;
        call_from = λ d e. from_call first refl d e;
        call_asked = λ d e. is_asked first refl d e;
        call_stays = λ d e. stays_open first refl d e;
        begun = begun_is;
        lost = λ d e fid. lost_is fid;
        parted = λ v b. absurd (none_parted v b);
      }
        where
          from_call : (b : Bool) → first ≡ b → (d : Asked) → Some c ≡ Some d
              → ((if first then Some c else None) ≡ Some d) ⊎ (m.call ≡ Some d)
          from_call true f d e = inl (ap (λ (b : Bool). if b then Some c else None) f ∙ e)
          from_call false f d e = inr (turn_at false f ∙ e)

          is_asked : (b : Bool) → first ≡ b → (d : Asked) → (if first then Some c else None) ≡ Some d
              → Some c ≡ Some d
          is_asked true f d e = sym (ap (λ (b : Bool). if b then Some c else None) f) ∙ e
          is_asked false f d e =
              let p : None ≡ Some d = sym (ap (λ (b : Bool). if b then Some c else None) f) ∙ e in absurd (cc)

          stays_open : (b : Bool) → first ≡ b → (d : Asked) → m.call ≡ Some d → Some c ≡ Some d
          stays_open true f d e = let p = sym (turn_at true f).0 ∙ e in absurd (cc)
          stays_open false f d e = sym (turn_at false f) ∙ e

          none_parted : (v : ServerId) → HasSaid (s ∷ past) v Bye → ⊥
          none_parted v (e, n, inl p) = spoken v e n Bye p
          none_parted v (e, n, inr p) = no_bye v (e, n, p)

      abbrev pub after : Tables
      after = with_moved m x

      right : StepRight script old after past s
      right = quiet_right script old m x past s turn.host (turns.under script old m past cause came dues c first turn)
          turn.learnt quiet moves
          (turns.cause_may script old m past cause came dues c first turn d_o begins
          (turns.sends_new script old m past cause came dues c first turn d_o refl with_it.says))
          (λ t i r. spoken r.0 r.1 r.2 (Returned r.3) r.4)
          (λ stance of y i. elim (with_it.said y i) [
            | inl j ↦ may stance of y j
            | inr due ↦ turns.due_may script old m past cause came dues c first turn d_o refl stance y due
          ]) rest

      pub open_runs : RunsOn script old after past s
      open_runs = runs_on script old after past s right (sym turn.host)
          (tidy_open sites request fetched changed kept.servers fetch change)
          (λ u e. (c, refl, (turn.ending u e).1, ends u e, (turn.ending u e).2)) asks
          (λ v e. absurd (turn.no_bye v (sym (kept.said_bye v) ∙ e)))
          (λ y i. elim (with_it.said y i) [
            | inl j ↦ sound y j
            | inr due ↦ turns.due_sound script old m past cause came dues c first turn y due
          ])

  -- # Nothing of its own is said
  module _ (sent : List Message) (with_it : turns.SaysWith script old m past cause came dues c first turn [] sent) where
    abbrev pub s_0 : Step
    s_0 = s [] sent (λ y i. elim i [ ]) with_it

    abbrev pub silent : Tables
    silent = with_moved m (with_open m.sites m.request m.fetched m.changed)

    none_own : (w : ServerId) (e n : ℕ) (b : Body) → IsAsked b → Sends s_0 w e n b → ⊥
    none_own w e n b a p = elim (own_said [] sent (λ y i. elim i [ ]) with_it w e n b a p).1 [ ]

    pub waits_now : IsAtRest silent (s_0 ∷ past) → RunsOn script old silent past s_0
    waits_now rest =
        open_runs [] sent (λ y i. elim i [ ]) with_it m.sites m.request m.fetched m.changed all_kept
        (λ w. ((λ e. inl e), λ z. elim z [ inl e ↦ e | inr p ↦ absurd (none_own w p.0 p.1 Hello tt p.2) ]))
        (request_moves_right script m past s_0 turn.learnt (record {
          only = λ y i. elim (with_it.said y i) [
            | inl j ↦ elim j [ ]
            | inr due ↦ inl (subst IsNoRequest (sym due.body) tt)
          ];
        })) (λ stance of y i. elim i [ ]) rest (λ f e. absurd (no_fetch f e)) (λ v d e. absurd (no_change v d e))
        (λ y i. elim i [ ]) (λ u e. turn.idle) (λ d e busy. absurd (busy turn.idle))

  -- # One message of its own is said
  module _ (v : ServerId) (b : Body) (plain : IsAsked b) (sent : List Message)
      (with_it : turns.SaysWith script old m past cause came dues c first turn (message_to m v b ∷ []) sent) where
    abbrev pub y : Message
    y = message_to m v b

    pub asked_one : (z : Message) → In z (y ∷ []) → IsAsked z.body
    asked_one z (inl e) = subst (λ (x : Message). IsAsked x.body) (sym e) plain
    asked_one z (inr n) = elim n [ ]

    abbrev pub s_1 : Step
    s_1 = s (y ∷ []) sent asked_one with_it

    pub body_is : (w : ServerId) (e n : ℕ) (d : Body) → IsAsked d → Sends s_1 w e n d → (v ≡ w) × (b ≡ d)
    body_is w e n d a p =
        let r = own_said (y ∷ []) sent asked_one with_it w e n d a p in
        elim r.1 [
          | inl q ↦ (ap (λ (x : Message). x.server) (sym q) ∙ r.2, ap (λ (x : Message). x.body) (sym q) ∙ r.3)
          | inr n ↦ elim n [ ]
        ]

    pub it_said : In y sent
    it_said = with_it.keeps y (inl refl)

    module _ (sites : List Site) (request : Option Request) (fetched : List Fetched) (changed : List Changed)
        (kept : KeepsSites m sites)
        (greeted : (w : ServerId) → ((site_at sites w).greeted ≡ true)
        ↔ (((site_at m.sites w).greeted ≡ true) ⊎ Says s_1 w Hello))
        (requests : RequestStands request (s_1 ∷ past) × NumbersStand fetched changed (s_1 ∷ past))
        (may : (stance : Stance script.roster m.host past s_1) → IsOfTables script.roster m past s_1 stance
        → MaySend script.roster m.host past s_1 stance y)
        (rest : IsAtRest (with_moved m (with_open sites request fetched changed)) (s_1 ∷ past))
        (fetch : (f : FetchOf) → request ≡ Some (AFetch f) → IsTidyFetch script.roster f)
        (change : (w : ServerId) (d : ChangeOf) → request ≡ Some (AChange w d) → IsTidyChange script.roster w d)
        (sound : IsSound script.roster y) (ends : (u : Labelled) → m.ending ≡ Some u → request ≡ None)
        (asks : AsksForCall (with_moved m (with_open sites request fetched changed))) where
      pub says_one : RunsOn script old (with_moved m (with_open sites request fetched changed)) past s_1
      says_one =
          open_runs (y ∷ []) sent asked_one with_it sites request fetched changed kept greeted requests
          (λ stance of z i. elim i [
            | inl e ↦ subst (λ (x : Message). MaySend script.roster m.host past s_1 stance x) (sym e) (may stance of)
            | inr n ↦ elim n [ ]
          ]) rest fetch change
          (λ z i. elim i [
            | inl e ↦ subst (λ (x : Message). IsSound script.roster x) (sym e) sound
            | inr n ↦ elim n [ ]
          ]) ends asks

  -- # A Hello
  abbrev pub greeted_sites : (v : ServerId) → IsServer script.roster v → List Site
  greeted_sites v declared = hello_sites script m turn.tidy v declared

  abbrev pub kept_h : (v : ServerId) (declared : IsServer script.roster v) → KeepsSites m (greeted_sites v declared)
  kept_h v declared = hello_kept script m turn.tidy v declared

  module _ (v : ServerId) (declared : IsServer script.roster v) (sent : List Message)
      (with_it : turns.SaysWith script old m past cause came dues c first turn (message_to m v Hello ∷ []) sent) where
    abbrev pub hello : Step
    hello = s_1 v Hello tt sent with_it

    greeted_h : (w : ServerId) → ((site_at (greeted_sites v declared) w).greeted ≡ true)
        ↔ (((site_at m.sites w).greeted ≡ true) ⊎ Says hello w Hello)
    greeted_h w = (
      (λ e. elim (hello_at script m turn.tidy v declared w) [
        | inl p ↦ inr (
          (site_at m.sites v).epoch,
          0,
          (message_to m v Hello, it_said v Hello tt sent with_it, sym p.0, refl, refl, refl),
        )
        | inr q ↦ inl (ap (λ (x : Site). x.greeted) (sym q.1) ∙ e)
      ]),
      λ z. elim (hello_at script m turn.tidy v declared w) [
        | inl p ↦ ap (λ (x : Site). x.greeted) p.1
        | inr q ↦ elim z [
          | inl g ↦ ap (λ (x : Site). x.greeted) q.1 ∙ g
          | inr h ↦ absurd (q.0 (sym (body_is v Hello tt sent with_it w h.0 h.1 Hello tt h.2).0))
        ]
      ],
    )

    abbrev pub greets : Tables
    greets = with_moved m (with_open (greeted_sites v declared) m.request m.fetched m.changed)

    pub greets_now : IsAtRest greets (hello ∷ past) → RunsOn script old greets past hello
    greets_now rest =
        says_one v Hello tt sent with_it (greeted_sites v declared) m.request m.fetched m.changed (kept_h v declared)
        greeted_h
        (request_moves_right script m past hello turn.learnt (record {
          only = λ z i. elim (with_it.said z i) [
            | inl j ↦ elim j [
              | inl e ↦ inl (subst (λ (x : Message). IsNoRequest x.body) (sym e) tt)
              | inr n ↦ elim n [ ]
            ]
            | inr due ↦ inl (subst IsNoRequest (sym due.body) tt)
          ];
        }))
        (λ stance of. record { epoch_is = (turn.learnt.sites v).epoch; says = tt }) rest
        (λ f e. absurd (no_fetch f e)) (λ w d e. absurd (no_change w d e))
        (again_sound script.roster m (moved_of m) past hello (message_to m v Hello) turn.tidy
        (record { way = refl; host_is = refl; no_moves = refl; epoch_is = refl }) declared OfHello)
        (λ u e. turn.idle) (λ d e busy. absurd (busy turn.idle))

    pub has_greeted : HasGreeted (hello ∷ past) v
    has_greeted = (
      (site_at m.sites v).epoch,
      0,
      inl (message_to m v Hello, it_said v Hello tt sent with_it, refl, refl, refl, refl),
    )

  -- # A Change
  module _ (v : ServerId) (d : ChangeOf) (question : Question) (asks : AsksFrom m c.call question d.fid)
      (enters : d.enter ≡ is_entering question) (numbered : d.fileset ≡ numbered_under question)
      (goes : stay_asked past question ≡ record { server = v; moves = 0 })
      (its : (d.k ≡ c.k) × (d.call ≡ c.call)) (number : d.number ≡ last_change m.changed v d.fileset + 1)
      (decided : IsDecidedAt past d.fileset v 0) (welcome : (site_at m.sites v).welcome ≡ true)
      (entering : (w : ServerId) (name : List ℕ) → d.enter ≡ true → fileset_of d.call ≡ Some (w, name)
      → (w ≡ v) × (home_of m.homes w name ≡ None))
      (tidy : IsTidyChange script.roster v d) (sent : List Message)
      (with_it : turns.SaysWith script old m past cause came dues c first turn (message_to m v (Change d) ∷ []) sent)
    where
      abbrev pub asks_it : Step
      asks_it = s_1 v (Change d) tt sent with_it

      abbrev pub with_new : List Changed
      with_new = with_change v d.fileset d.number m.changed

      abbrev pub asking : Tables
      asking = with_moved m (with_open m.sites (Some (AChange v d)) m.fetched with_new)

      sends_new : SendsChangeNew m past asks_it v d
      sends_new = record {
        idle = turn.idle;
        there = (
          (site_at m.sites v).epoch,
          0,
          (message_to m v (Change d), it_said v (Change d) tt sent with_it, refl, refl, refl, refl),
        );
        only = λ z i. elim (with_it.said z i) [
          | inl j ↦ elim j [
            | inl e ↦ inl (ap (λ (x : Message). x.server) e, ap (λ (x : Message). x.body) e)
            | inr n ↦ elim n [ ]
          ]
          | inr due ↦ inr (subst IsNoRequest (sym due.body) tt)
        ];
        number = number;
        decided = decided;
        welcome = welcome;
        fresh = λ e comes same n.
            let l = turn.changes v e comes in
            let at = ap (λ (fs : FilesetId). last_change m.changed v fs) same in
            let up = number in omega (arith, l, at, up, n);
        enters = entering;
      }

      counts : CountsChange m.changed with_new v d
      counts = change_counts m.changed v d number

      says_new : (stance : Stance script.roster m.host past asks_it) → IsOfTables script.roster m past asks_it stance
          → MaySend script.roster m.host past asks_it stance (message_to m v (Change d))
      says_new stance of = record {
        epoch_is = (turn.learnt.sites v).epoch;
        says = new_change_may script m past asks_it v d turn.learnt sends_new (record {
          is_open = subst (IsOpen (asks_it ∷ past)) (λ i. record { k = sym its.0 i; call = sym its.1 i })
              (is_open (message_to m v (Change d) ∷ []) sent (asked_one v (Change d) tt sent with_it) with_it);
          question = question;
          asks = subst (λ (x : Call). AsksFrom m x question d.fid) (sym its.1) asks;
          enters = enters;
          numbered = numbered;
          goes = goes;
          no_bye = no_bye;
        }) stance of;
      }

      pub asks_now : IsAtRest asking (asks_it ∷ past) → ((u : Labelled) → m.ending ≡ Some u → ⊥)
          → AsksForCall asking → RunsOn script old asking past asks_it
      asks_now rest none asking_for =
          says_one v (Change d) tt sent with_it m.sites (Some (AChange v d)) m.fetched with_new all_kept
          (λ w. (
            (λ e. inl e),
            λ z. elim z [
              | inl e ↦ e
              | inr p ↦ absurd (let q = (body_is v (Change d) tt sent with_it w p.0 p.1 Hello tt p.2).1 in cc)
            ],
          ))
          (change_moves_right script m past asks_it v d with_new turn.learnt sends_new counts) says_new rest
          (λ f e. absurd (cc))
          (λ w x e. let q : (v ≡ w) × (d ≡ x) = ((cc), (cc)) in
          subst (λ (z : ServerId × ChangeOf). IsTidyChange script.roster z.0 z.1) (λ i. (q.0 i, q.1 i)) tidy)
          (change_sound script.roster m (message_to m v (Change d)) d turn.tidy
          (record { way = refl; host_is = refl; no_moves = refl; epoch_is = refl }) refl tidy)
          (λ u e. absurd (none u e)) asking_for

  -- # A Fetch
  module _ (f : FetchOf) (need : Need) (lack : IsLack m c.call need) (kind : IsUseKind need.kind → ⊥)
      (file : need.fid ≡ f.fid) (no_give : list_any (is_of_file f.fid) m.gives.gives ≡ false)
      (welcome : (site_at m.sites (home f.fid.fileset)).welcome ≡ true)
      (needs : FetchFrom m (if first then [] else m.lost) c.call f.fid f.needs)
      (number : f.number ≡ last_fetch m.fetched f.fid.fileset + 1)
      (counts : CountsFetch m.fetched (with_fetch f.fid.fileset f.number m.fetched) f)
      (tidy : IsTidyFetch script.roster f) (sent : List Message)
      (with_it : turns.SaysWith script old m past cause came dues c first turn
      (message_to m (home f.fid.fileset) (Fetch f) ∷ []) sent) where
    abbrev v_f : ServerId
    v_f = home f.fid.fileset

    abbrev pub fetches_it : Step
    fetches_it = s_1 v_f (Fetch f) tt sent with_it

    abbrev pub fetching_now : Tables
    fetching_now = with_moved m (with_open m.sites (Some (AFetch f)) (with_fetch f.fid.fileset f.number m.fetched)
        m.changed)

    sends_new_f : SendsFetchNew m past fetches_it f
    sends_new_f = record {
      idle = turn.idle;
      there = (
        (site_at m.sites v_f).epoch,
        0,
        (message_to m v_f (Fetch f), it_said v_f (Fetch f) tt sent with_it, refl, refl, refl, refl),
      );
      only = λ z i. elim (with_it.said z i) [
        | inl j ↦ elim j [
          | inl e ↦ inl (ap (λ (x : Message). x.body) e)
          | inr n ↦ elim n [ ]
        ]
        | inr due ↦ inr (subst IsNoRequest (sym due.body) tt)
      ];
      number = number;
      welcome = welcome;
      fresh = λ g about same n.
          let l = turn.grants f.fid.fileset g about same in
          let up = number in omega (arith, l, up, n);
    }

    says_fetch : (stance : Stance script.roster m.host past fetches_it)
        → IsOfTables script.roster m past fetches_it stance
        → MaySend script.roster m.host past fetches_it stance (message_to m v_f (Fetch f))
    says_fetch stance of = record {
      epoch_is = (turn.learnt.sites v_f).epoch;
      says = new_fetch_may script m past fetches_it c f turn.learnt
          (quiet (message_to m v_f (Fetch f) ∷ []) sent (asked_one v_f (Fetch f) tt sent with_it) with_it) sends_new_f
          (record {
            is_open = is_open (message_to m v_f (Fetch f) ∷ []) sent (asked_one v_f (Fetch f) tt sent with_it) with_it;
            need = need;
            lack = lack;
            kind = kind;
            file = file;
            no_give = no_give;
            no_bye = no_bye;
            lost = if first then [] else m.lost;
            lost_is = lost_is (message_to m v_f (Fetch f) ∷ []) sent (asked_one v_f (Fetch f) tt sent with_it) with_it;
            needs = needs;
          }) stance of;
    }

    pub fetches_now : IsAtRest fetching_now (fetches_it ∷ past) → ((u : Labelled) → m.ending ≡ Some u → ⊥)
        → AsksForCall fetching_now → RunsOn script old fetching_now past fetches_it
    fetches_now rest none asking_for =
        says_one v_f (Fetch f) tt sent with_it m.sites (Some (AFetch f)) (with_fetch f.fid.fileset f.number m.fetched)
        m.changed all_kept
        (λ w. (
          (λ e. inl e),
          λ z. elim z [
            | inl e ↦ e
            | inr p ↦ absurd (let q = (body_is v_f (Fetch f) tt sent with_it w p.0 p.1 Hello tt p.2).1 in cc)
          ],
        ))
        (fetch_moves_right script m past fetches_it f (with_fetch f.fid.fileset f.number m.fetched) turn.learnt
        sends_new_f counts) says_fetch rest
        (λ g e. let q : f ≡ g = cc in subst (λ (x : FetchOf). IsTidyFetch script.roster x) q tidy)
        (λ w x e. absurd (cc))
        (fetch_sound script.roster m (message_to m v_f (Fetch f)) f turn.tidy
        (record { way = refl; host_is = refl; no_moves = refl; epoch_is = refl }) refl refl tidy)
        (λ u e. absurd (none u e)) asking_for

  -- # By the code's words
  module _ (new : Tables) (host_new : new.host ≡ m.host) (gives_new : new.gives ≡ m.gives)
      (epochs : (v : ServerId) → (site_at new.sites v).epoch ≡ (site_at m.sites v).epoch) (own : List Message)
      (asked : (y : Message) → In y own → IsAsked y.body) where
    abbrev pub start : Draft
    start = record (turn_draft came dues) { asked = if first then Some c else None; sent = own }

    abbrev pub sent_by : List Message
    sent_by = (turns.sending script old m past cause came dues c first turn sound_m new host_new gives_new epochs
        start).sent

    pub with_by : turns.SaysWith script old m past cause came dues c first turn own sent_by
    with_by = turns.says_with script old m past cause came dues c first turn sound_m new host_new gives_new epochs start

    pub by_code : RunsOn script old new past (s own sent_by asked with_by)
        → RunsOn script old new past (step_of (Host m.host) cause (sending_due new start))
    by_code runs = subst (RunsOn script old new past) (sym (ap (step_of (Host m.host) cause)
        (turns.sends_only script old m past cause came dues c first turn sound_m new host_new gives_new epochs
        start))) runs
