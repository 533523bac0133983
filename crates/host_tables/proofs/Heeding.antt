-- The tables stand once a host has heard a message that brings it no token, by what the message is.
use Rattle.base_types.specs.Ids.{same_fid}
use Rattle.base_types.specs.declared.ids.FilesetId.{FilesetId}
use Rattle.base_types.specs.declared.ids.ServerId.{ServerId}
use Rattle.host_gives.specs.Giving.{Giving, given_in, is_of_file}
use Rattle.host_tables.proofs.Hearing.{hearing_stands}
use Rattle.host_tables.proofs.Lists.{by_test, in_any, same_fid_is}
use Rattle.host_tables.specs.Half.{learning}
use Rattle.host_tables.specs.Hearing.{ChangesSite, ClosesCall, ForgetsGives, RenewsFloors, heard_of, hears, saying}
use Rattle.host_tables.specs.Hearing.{with_heard}
use Rattle.host_tables.specs.Heeding.{IsIgnored, AnswersNoFetch, AnswersUnused}
use Rattle.host_tables.specs.Heeding.{ByeStands, FirstReclaimedStands, GoneStands}
use Rattle.host_tables.specs.Heeding.{IgnoredStands, IsForOthers, OthersStands, ReclaimedStands, RestartedStands}
use Rattle.host_tables.specs.Heeding.{UnaskedGrantStands, UnusedGrantStands, hearing}
use Rattle.host_tables.specs.Heeding.IsIgnored.{OfOld, OfOther, OfOthers}
use Rattle.host_tables.specs.Learning.{TeachesNothing}
use Rattle.host_tables.specs.Stands.{CallStands, FloorsStand, HomesStand, RequestStands, SitesStand, Stands}
use Rattle.host_tables.specs.Tables.{site_at}
use Rattle.host_tables.specs.declared.calls.Home.{Home}
use Rattle.host_gives.specs.declared.leavings.Leaving.{Leaving}
use Rattle.host_tables.specs.declared.calls.Request.{Request}
use Rattle.host_tables.specs.declared.calls.Request.TheVariants.{Change as AChange, Fetch as AFetch}
use Rattle.host_tables.specs.declared.files.Floor.{Floor}
use Rattle.host_lengths.specs.declared.given.Given.{Given}
use Rattle.host_tables.specs.declared.sites.Site.{Site}
use Rattle.host_tables.specs.declared.tables.Tables.{Tables}
use Rattle.message_types.specs.declared.asking.Fetch.{Fetch as FetchOf}
use Rattle.message_types.specs.declared.giving.AppliedGive.{AppliedGive}
use Rattle.message_types.specs.declared.giving.Give.{Give}
use Rattle.message_types.specs.declared.giving.Reclaimed.{Reclaimed as ReclaimedOf}
use Rattle.message_types.specs.declared.message.Body.{Body}
use Rattle.message_types.specs.declared.message.Body.TheVariants.{Bye, Done, Gone, Grant, Reclaimed, Restarted}
use Rattle.message_types.specs.declared.message.Body.TheVariants.{Revoke}
use Rattle.message_types.specs.declared.telling.Bring.{Bring}
use Rattle.message_types.specs.declared.telling.Done.{Done as DoneOf}
use Rattle.message_types.specs.declared.telling.Grant.{Grant as GrantOf}
use Rattle.message_types.specs.declared.tokens.Revoke.{Revoke as RevokeOf}
use Rattle.run_rules.specs.Messages.{About, Asking, Changing, Comes, ComesIn, DoneComes, RaisesEpoch, Renews, Stay}
use Rattle.run_rules.specs.Messages.{epoch_at, epoch_raised_by, home, stay_of}
use Rattle.run_rules.specs.Past.{In}
use Rattle.run_rules.specs.Tokens.{AboveFloor, AnswersRequest, CauseEnds, GiveOpen, Learns, Made, number_of}
use Rattle.run_rules.specs.declared.step.Asked.{Asked}
use Rattle.run_rules.specs.declared.step.Cause.{Cause}
use Rattle.run_rules.specs.declared.step.Cause.TheVariants.{Message as Came}
use Rattle.run_rules.specs.declared.step.Labelled.{Labelled}
use Rattle.run_rules.specs.declared.step.Step.{Step}
use Rattle.script_lines.specs.declared.script.Script.{Script}
use Rattle.std.proofs.Common.{Bool, List, None, Option, Some, [], ap, arith, eqb-true, false, if◌then◌else◌, inl, inr}
use Rattle.std.proofs.Common.{ltb-true, nat_lt, refl, subst, sym, true, ℕ, ◌&&◌, ◌<◌, ◌==◌, ◌∙◌, ◌∷◌, ◌≡◌, ◌≤◌, ◌⊎◌}
use Rattle.std.proofs.lemmas.Bool.{and_from, and_parts, eq-eqb, lt-ltb}
use Rattle.std.specs.Option.{option_map_or}
use Rattle.host_tables.proofs.Hearing as hearing_of
use Rattle.host_tables.proofs.HearingParts as parts
use Rattle.host_tables.proofs.Learning as learning_of

if_true : {A : Type 0} (b : Bool) (x y : A) → b ≡ true → (if b then x else y) ≡ x
if_true b x y e = rw e refl

if_false : {A : Type 0} (b : Bool) (x y : A) → b ≡ false → (if b then x else y) ≡ y
if_false b x y e = rw e refl

-- no give-back is learnt of
forgets_nothing : (m : Tables) → ForgetsGives m m.lengths m.gives m.leaving m.ending []
forgets_nothing m = record {
  gives_from = λ y i. (i, λ g e j. elim j [ ]);
  gives_old = λ y g i e n. i;
  counters_are = refl;
  leaving_from = λ y i. (i, λ g l a b. elim l.number [ ]);
  leaving_old = λ y i n. i;
  length_some = λ fid given e.
      (given, e, refl, refl, ((λ k. inl k), λ k. elim k [ inl o ↦ o | inr l ↦ elim l.1.number [ ] ]));
  length_none = λ fid e. e;
  ending_is = inl (refl, λ g ends l e. elim l.number [ ]);
}

module _ (script : Script) (m : Tables) (past : List Step) (cause : Cause) (stands : Stands script m past)
    (none_learnt : (n : AppliedGive) → Learns past (learning m.host cause []) n → ⊥) where
  abbrev t : Step
  t = learning m.host cause []

  learns : (g : Give) → Made past g → In (number_of g) [] → Learns past t (number_of g)
  learns g made i = elim i [ ]

  -- all tables, where nothing is learnt of give-backs
  pub plain : (floors : List Floor) (sites : List Site) (request : Option Request) (homes : List Home)
      (call : Option Asked)
      → FloorsStand floors (t ∷ past) → SitesStand sites (t ∷ past)
      → RequestStands request (t ∷ past) → (request ≡ m.request) ⊎ (request ≡ None)
      → HomesStand homes (t ∷ past) → CallStands call m.begun (t ∷ past) → (call ≡ m.call) ⊎ (call ≡ None)
      → Stands script (with_heard m (record (heard_of m) {
        floors = floors;
        sites = sites;
        request = request;
        homes = homes;
        call = call;
      })) (t ∷ past)
  plain floors sites request homes call f s r r_kept h c c_kept = hearing_stands script m (record (heard_of m) {
    floors = floors;
    sites = sites;
    request = request;
    homes = homes;
    call = call;
  }) past cause stands (record {
    lengths = hearing_of.lengths_learnt script m past cause [] stands learns none_learnt m.lengths m.gives m.leaving
        m.ending (forgets_nothing m);
    gives = hearing_of.gives_learnt script m past cause [] stands learns none_learnt m.lengths m.gives m.leaving
        m.ending (forgets_nothing m);
    leaving = hearing_of.leaving_learnt script m past cause [] stands learns none_learnt m.lengths m.gives m.leaving
        m.ending (forgets_nothing m);
    ending = inl refl;
    floors = f;
    sites = s;
    request = r;
    request_kept = r_kept;
    homes = h;
    call = c;
    call_kept = c_kept;
  })

-- # What is ignored

plain_epoch : (b : Body) (mine : Bool) (told now : ℕ) → (b ≡ Restarted → ⊥) → ((a : ReclaimedOf) → b ≡ Reclaimed a → ⊥)
    → epoch_raised_by b mine told now ≡ now
plain_epoch Restarted mine told now p q = absurd (p refl)
plain_epoch (Reclaimed a) mine told now p q = absurd (q a refl)
plain_epoch _ mine told now p q = refl

module _ (script : Script) (m : Tables) (past : List Step) (server : ServerId) (epoch moves : ℕ) (body : Body)
    (stands : Stands script m past) where
  abbrev a : Step
  a = hears m.host server epoch moves body

  is : (v : ServerId) (e n : ℕ) (b : Body) → ComesIn a v e n b → body ≡ b
  is v e n b c = (parts.comes_of m.host server epoch moves body past v e n b c).3

  -- it is of the present epoch and stay of what it speaks of
  present_about : (fs : FilesetId) (b : Body) → About past a fs b → ((site_at m.sites server).epoch ≡ epoch)
      × (moves ≡ 0)
  present_about fs b c =
      let p = parts.comes_of m.host server epoch moves body past (home fs) (epoch_at past (home fs)) 0 b c in
      ((stands.sites server).epoch ∙ (ap (epoch_at past) p.0 ∙ sym p.1), p.2)

  present_comes : (v : ServerId) (b : Body) → Comes past a v b → ((site_at m.sites server).epoch ≡ epoch) × (moves ≡ 0)
  present_comes v b c =
      let p = parts.comes_of m.host server epoch moves body past v (epoch_at past v) 0 b c in
      ((stands.sites server).epoch ∙ (ap (epoch_at past) p.0 ∙ sym p.1), p.2)

  other_teaches : ((site_at m.sites server).epoch ≡ epoch → moves ≡ 0 → ⊥) → (body ≡ Bye → ⊥) → (body ≡ Restarted → ⊥)
      → ((x : ReclaimedOf) → body ≡ Reclaimed x → ⊥) → TeachesNothing past a
  other_teaches other no_bye no_restart no_answer = record {
    epochs = λ v. plain_epoch body (server.0 == v.0) epoch (epoch_at past v) no_restart no_answer;
    none_granted = λ fs g c. none_about fs (Grant g) c;
    none_settled = λ v d c. elim c [ inl x ↦ none_comes v (Done d) x.1 | inr x ↦ none_about d.fileset (Done d) x ];
    none_used = λ w c. elim c [
      | inl x ↦ none_about w.fid.fileset (Grant x.0) x.1
      | inr x ↦ none_about w.fid.fileset (Done x.0) x.1
    ];
    none_revoked = λ fs r c. none_about fs (Revoke r) c;
    none_learnt = λ n c. elim c.1 [
      | inl x ↦ none_about n.fileset (Gone n) x
      | inr x ↦ none_comes x.0 (Reclaimed x.1) x.2
    ];
    none_reclaimed = λ v x c. none_comes v (Reclaimed x) c;
    welcomes = λ v w. elim w [
      | inl x ↦ absurd (no_answer x.1.0 (is v (epoch_at (a ∷ past) v) 0 (Reclaimed x.1.0) x.1.1))
      | inr x ↦ x
    ];
    byes = λ v w. elim w [ inl x ↦ absurd (no_bye (is v x.0 x.1 Bye x.2)) | inr x ↦ x ];
  }
    where
      none_about : (fs : FilesetId) (b : Body) → About past a fs b → ⊥
      none_about fs b c = let p = present_about fs b c in other p.0 p.1

      none_comes : (v : ServerId) (b : Body) → Comes past a v b → ⊥
      none_comes v b c = let p = present_comes v b c in other p.0 p.1

  quiet_stands : TeachesNothing past a → Stands script m (a ∷ past)
  quiet_stands quiet = learning_of.unmoved m.host (Came (saying m.host server epoch moves body)) past quiet script m
      refl stands

-- a restart that the host knows of
old_teaches : (script : Script) (m : Tables) (past : List Step) (server : ServerId) (epoch moves : ℕ)
    → Stands script m past
    → epoch ≤ (site_at m.sites server).epoch → TeachesNothing past (hears m.host server epoch moves Restarted)
old_teaches script m past server epoch moves stands old = record {
  epochs = epochs;
  none_granted = λ fs g c. let p = is _ _ _ (Grant g) c in cc;
  none_settled = λ v d c. elim c [
    | inl x ↦ absurd (let p = is _ _ _ (Done d) x.1 in cc)
    | inr x ↦ absurd (let p = is _ _ _ (Done d) x in cc)
  ];
  none_used = λ w c. elim c [
    | inl x ↦ absurd (let p = is _ _ _ (Grant x.0) x.1 in cc)
    | inr x ↦ absurd (let p = is _ _ _ (Done x.0) x.1 in cc)
  ];
  none_revoked = λ fs r c. let p = is _ _ _ (Revoke r) c in cc;
  none_learnt = λ n c. elim c.1 [
    | inl x ↦ absurd (let p = is _ _ _ (Gone n) x in cc)
    | inr x ↦ absurd (let p = is _ _ _ (Reclaimed x.1) x.2 in cc)
  ];
  none_reclaimed = λ v x c. let p = is _ _ _ (Reclaimed x) c in cc;
  welcomes = λ v w. elim w [ inl x ↦ absurd (let p = is v _ 0 (Reclaimed x.1.0) x.1.1 in cc) | inr x ↦ x ];
  byes = λ v w. elim w [ inl x ↦ absurd (let p = is v x.0 x.1 Bye x.2 in cc) | inr x ↦ x ];
}
  where
    is : (v : ServerId) (e n : ℕ) (b : Body) → ComesIn (hears m.host server epoch moves Restarted) v e n b
        → Restarted ≡ b
    is v e n b c = (parts.comes_of m.host server epoch moves Restarted past v e n b c).3

    epochs : (v : ServerId) → epoch_at (hears m.host server epoch moves Restarted ∷ past) v ≡ epoch_at past v
    epochs v = elim (by_test ((server.0 == v.0) && nat_lt (epoch_at past v) epoch)) [
      | inl e ↦ absurd (
          let p = and_parts (server.0 == v.0) (nat_lt (epoch_at past v) epoch) e in
          let l = ltb-true (epoch_at past v) epoch p.1 in
          let k : (site_at m.sites server).epoch ≡ epoch_at past v =
          (stands.sites server).epoch ∙ ap (epoch_at past) (parts.server_is server v p.0) in
          omega (arith, k, l, old)
          )
      | inr n ↦ if_false ((server.0 == v.0) && nat_lt (epoch_at past v) epoch) epoch (epoch_at past v) n
    ]

-- an answer to a Hello or a claim of another epoch
module _ (script : Script) (m : Tables) (past : List Step) (server : ServerId) (epoch moves : ℕ) (a : ReclaimedOf)
    (stands : Stands script m past) (known : (site_at m.sites server).epoch ≡ 0 → ⊥)
    (other : (site_at m.sites server).epoch ≡ epoch → ⊥) where
  abbrev s : Step
  s = hears m.host server epoch moves (Reclaimed a)

  answer_is : (v : ServerId) (e n : ℕ) (b : Body) → ComesIn s v e n b → Reclaimed a ≡ b
  answer_is v e n b c = (parts.comes_of m.host server epoch moves (Reclaimed a) past v e n b c).3

  no_answer_comes : (v : ServerId) (x : ReclaimedOf) → Comes past s v (Reclaimed x) → ⊥
  no_answer_comes v x c =
      let p = parts.comes_of m.host server epoch moves (Reclaimed a) past v (epoch_at past v) 0 (Reclaimed x) c in
      other ((stands.sites server).epoch ∙ (ap (epoch_at past) p.0 ∙ sym p.1))

  same_epochs : (v : ServerId) → epoch_at (s ∷ past) v ≡ epoch_at past v
  same_epochs v = elim (by_test ((server.0 == v.0) && (epoch_at past v == 0))) [
    | inl e ↦ absurd (
        let p = and_parts (server.0 == v.0) (epoch_at past v == 0) e in
        known ((stands.sites server).epoch ∙ (ap (epoch_at past) (parts.server_is server v p.0)
        ∙ eqb-true (epoch_at past v) 0 p.1))
        )
    | inr n ↦ if_false ((server.0 == v.0) && (epoch_at past v == 0)) epoch (epoch_at past v) n
  ]

  others_teaches : TeachesNothing past s
  others_teaches = record {
    epochs = same_epochs;
    none_granted = λ fs g c. let p = answer_is _ _ _ (Grant g) c in cc;
    none_settled = λ v d c. elim c [
      | inl x ↦ absurd (let p = answer_is _ _ _ (Done d) x.1 in cc)
      | inr x ↦ absurd (let p = answer_is _ _ _ (Done d) x in cc)
    ];
    none_used = λ w c. elim c [
      | inl x ↦ absurd (let p = answer_is _ _ _ (Grant x.0) x.1 in cc)
      | inr x ↦ absurd (let p = answer_is _ _ _ (Done x.0) x.1 in cc)
    ];
    none_revoked = λ fs r c. let p = answer_is _ _ _ (Revoke r) c in cc;
    none_learnt = λ n c. elim c.1 [
      | inl x ↦ absurd (let p = answer_is _ _ _ (Gone n) x in cc)
      | inr x ↦ no_answer_comes x.0 x.1 x.2
    ];
    none_reclaimed = no_answer_comes;
    welcomes = λ v w. elim w [
      | inl x ↦ absurd (
          let p = parts.comes_of m.host server epoch moves (Reclaimed a) past v (epoch_at (s ∷ past) v) 0
          (Reclaimed x.1.0) x.1.1 in
          other ((stands.sites server).epoch ∙ (ap (epoch_at past) p.0 ∙ (sym (same_epochs v) ∙ sym p.1)))
          )
      | inr x ↦ x
    ];
    byes = λ v w. elim w [ inl x ↦ absurd (let p = answer_is v x.0 x.1 Bye x.2 in cc) | inr x ↦ x ];
  }

pub ignored_teaches : (script : Script) (m : Tables) (past : List Step) (server : ServerId) (epoch moves : ℕ)
    (body : Body)
    → Stands script m past → IsIgnored m server epoch moves body
    → TeachesNothing past (hears m.host server epoch moves body)
ignored_teaches script m past server epoch moves body stands (OfOther _ other no_bye no_restart no_answer) =
    other_teaches script m past server epoch moves body stands other no_bye no_restart no_answer
ignored_teaches script m past server epoch moves body stands (OfOld old) =
    old_teaches script m past server epoch moves stands old
ignored_teaches script m past server epoch moves body stands (OfOthers a known other) =
    others_teaches script m past server epoch moves a stands known other

pub ignored_stands : IgnoredStands
ignored_stands script m past server epoch moves body stands (OfOther _ other no_bye no_restart no_answer) =
    quiet_stands script m past server epoch moves body stands
    (other_teaches script m past server epoch moves body stands other no_bye no_restart no_answer)
ignored_stands script m past server epoch moves body stands (OfOld old) =
    quiet_stands script m past server epoch moves Restarted stands (old_teaches script m past server epoch moves stands
    old)
ignored_stands script m past server epoch moves body stands (OfOthers a known other) =
    quiet_stands script m past server epoch moves (Reclaimed a) stands
    (others_teaches script m past server epoch moves a stands known other)

-- what no host is told
pub others_teach : (m : Tables) (past : List Step) (server : ServerId) (epoch moves : ℕ) (body : Body)
    → IsForOthers body
    → TeachesNothing past (hears m.host server epoch moves body)
others_teach m past server epoch moves body for_others = record {
  epochs = λ v. plain_epoch body (server.0 == v.0) epoch (epoch_at past v)
      (λ e. subst IsForOthers e for_others) (λ a e. subst IsForOthers e for_others);
  none_granted = λ fs g c. subst IsForOthers (is _ _ _ (Grant g) c) for_others;
  none_settled = λ v d c. elim c [
    | inl x ↦ subst IsForOthers (is _ _ _ (Done d) x.1) for_others
    | inr x ↦ subst IsForOthers (is _ _ _ (Done d) x) for_others
  ];
  none_used = λ w c. elim c [
    | inl x ↦ subst IsForOthers (is _ _ _ (Grant x.0) x.1) for_others
    | inr x ↦ subst IsForOthers (is _ _ _ (Done x.0) x.1) for_others
  ];
  none_revoked = λ fs r c. subst IsForOthers (is _ _ _ (Revoke r) c) for_others;
  none_learnt = λ n c. elim c.1 [
    | inl x ↦ subst IsForOthers (is _ _ _ (Gone n) x) for_others
    | inr x ↦ subst IsForOthers (is _ _ _ (Reclaimed x.1) x.2) for_others
  ];
  none_reclaimed = λ v x c. subst IsForOthers (is _ _ _ (Reclaimed x) c) for_others;
  welcomes = λ v w. elim w [
    | inl x ↦ absurd (subst IsForOthers (is v _ 0 (Reclaimed x.1.0) x.1.1) for_others)
    | inr x ↦ x
  ];
  byes = λ v w. elim w [ inl x ↦ absurd (subst IsForOthers (is v x.0 x.1 Bye x.2) for_others) | inr x ↦ x ];
}
  where
    is : (v : ServerId) (e n : ℕ) (b : Body) → ComesIn (hears m.host server epoch moves body) v e n b → body ≡ b
    is v e n b c = (parts.comes_of m.host server epoch moves body past v e n b c).3

pub others_stands : OthersStands
others_stands script m past server epoch moves body stands for_others =
    quiet_stands script m past server epoch moves body stands (others_teach m past server epoch moves body for_others)

-- # Grants that aren't used

module _ (script : Script) (m : Tables) (past : List Step) (server : ServerId) (epoch moves : ℕ) (g : GrantOf)
    (stands : Stands script m past) where
  abbrev cause_g : Cause
  cause_g = Came (saying m.host server epoch moves (Grant g))

  abbrev b : Step
  b = hears m.host server epoch moves (Grant g)

  grant_is : (v : ServerId) (e n : ℕ) (c : Body) → ComesIn b v e n c → Grant g ≡ c
  grant_is v e n c x = (parts.comes_of m.host server epoch moves (Grant g) past v e n c x).3

  none_done_g : (v : ServerId) (d : DoneOf) → DoneComes past b v d → ⊥
  none_done_g v d (inl x) = let p = grant_is _ _ _ (Done d) x.1 in absurd (cc)
  none_done_g v d (inr x) = let p = grant_is _ _ _ (Done d) x in absurd (cc)

  pub none_learnt_g : (n : AppliedGive) → Learns past b n → ⊥
  none_learnt_g n l = elim l.1 [
    | inl x ↦ (let p = grant_is _ _ _ (Gone n) x in absurd (cc))
    | inr x ↦ (let p = grant_is _ _ _ (Reclaimed x.1) x.2 in absurd (cc))
  ]

  none_revoked_g : (fs : FilesetId) (r : RevokeOf) → About past b fs (Revoke r) → ⊥
  none_revoked_g fs r c = let p = grant_is _ _ _ (Revoke r) c in absurd (cc)

  no_renew_g : (fs : FilesetId) → Renews past b fs → ⊥
  no_renew_g fs (inl r) = omega (arith, r)
  no_renew_g fs (inr r) = omega (arith, r)

  -- what it brings
  brings_g : (w : Bring) → AnswersRequest past b w → (g.bring ≡ w) × Asking past w.fid.fileset w.number
  brings_g w (inl (x, c, e, asks)) =
      let p = grant_is _ _ _ (Grant x) c in let q : g ≡ x = cc in (ap (λ (y : GrantOf). y.bring) q ∙ e, asks)
  brings_g w (inr (x, c, _, _, _)) = let p = grant_is _ _ _ (Done x) c in absurd (cc)

  sites_g : SitesStand m.sites (b ∷ past)
  sites_g = parts.sites_same m.host server epoch moves (Grant g) past m.sites stands.sites refl (λ a e. absurd (cc))
      (λ e. absurd (cc))

  homes_g : HomesStand m.homes (b ∷ past)
  homes_g = parts.homes_same m.host cause_g past (λ v name id x. none_done_g v x.1 x.7.0) m.homes stands.homes

  goes_on_g : (c : Asked) → CauseEnds past b c → ⊥
  goes_on_g c (inl (v, d, r, k, _)) = none_done_g v d k.0
  goes_on_g c (inr l) = none_learnt_g (number_of l.0) l.5

  call_g : CallStands m.call m.begun (b ∷ past)
  call_g = parts.call_same m.host cause_g past m.call m.begun (λ c e. goes_on_g c) stands.call

  module _ (unasked : AnswersNoFetch m g) where
    pub none_used_g : (w : Bring) → AnswersRequest past b w → ⊥
    none_used_g w u =
        let r = brings_g w u in
        let f = stands.request.asking w.fid.fileset w.number r.1 in
        unasked f.0 f.1 (f.2 ∙ ap (λ (x : Bring). x.fid.fileset) (sym r.0)) (f.3 ∙ ap (λ (x : Bring). x.number)
        (sym r.0))

    none_ends_g : (f : FetchOf) → m.request ≡ Some (AFetch f) → (x : GrantOf) → About past b f.fid.fileset (Grant x)
        → x.bring.fid.fileset ≡ f.fid.fileset → x.bring.number ≡ f.number → ⊥
    none_ends_g f e x c at number =
        let p = grant_is _ _ _ (Grant x) c in
        let q : g ≡ x = cc in
        unasked f e (sym at ∙ ap (λ (y : GrantOf). y.bring.fid.fileset) (sym q))
        (sym number ∙ ap (λ (y : GrantOf). y.bring.number) (sym q))

    pub unasked_grant : Stands script m (b ∷ past)
    unasked_grant = plain script m past cause_g stands none_learnt_g m.floors m.sites m.request m.homes m.call
        (parts.floors_same m.host cause_g past no_renew_g none_revoked_g (λ w u _ _. none_used_g w u) m.floors
        stands.floors)
        sites_g
        (parts.request_same m.host cause_g past m.request none_ends_g (λ v c e d x _ _. none_done_g v d x)
        stands.request)
        (inl refl) homes_g call_g (inl refl)

  module _ (answers : AnswersUnused m past server epoch moves g) where
    about_g : About past b g.bring.fid.fileset (Grant g)
    about_g =
        let at : home g.bring.fid.fileset ≡ server = ap (λ (x : Stay). x.server) answers.place_is in (
          saying m.host server epoch moves (Grant g),
          refl,
          sym at,
          sym answers.present ∙ ((stands.sites server).epoch ∙ ap (epoch_at past) (sym at)),
          sym (ap (λ (x : Stay). x.moves) answers.place_is),
          refl,
        )

    none_asking_g : (fs : FilesetId) (n : ℕ) → Asking (b ∷ past) fs n → ⊥
    none_asking_g fs n (inl x, _) = elim x.1.3.1 [ ]
    none_asking_g fs n (inr x, ended) =
        let r = stands.request.asking fs n x in
        let e : Some (AFetch answers.fetch) ≡ Some (AFetch r.0) = sym answers.asked ∙ r.1 in
        let q : answers.fetch ≡ r.0 = cc in
        let at : g.bring.fid.fileset ≡ fs = sym answers.of_fileset ∙ (ap (λ (f : FetchOf). f.fid.fileset) q ∙ r.2) in
        let number : g.bring.number ≡ n = sym answers.number ∙ (ap (λ (f : FetchOf). f.number) q ∙ r.3) in
        ended g (subst (λ (f : FilesetId). About past b f (Grant g)) at about_g) at number

    none_changing_g : (v : ServerId) (fs : FilesetId) (n : ℕ) → Changing (b ∷ past) v fs n → ⊥
    none_changing_g v fs n (inl x, _) = elim x.1.3.1 [ ]
    none_changing_g v fs n (inr x, _) =
        let r = stands.request.changing v fs n x in
        let e : Some (AFetch answers.fetch) ≡ Some (AChange r.0 r.1) = sym answers.asked ∙ r.2 in absurd (cc)

    none_taken_g : (w : Bring) → AnswersRequest past b w → AboveFloor past w.fid w.stamp → (GiveOpen past w.fid → ⊥) → ⊥
    none_taken_g w u up free =
        let e = (brings_g w u).0 in
        elim answers.unused [
          | inl low ↦ (
              let l = stands.floors.floor g.bring.fid g.bring.stamp
              (subst (λ (x : Bring). AboveFloor past x.fid x.stamp) (sym e) up) in omega (arith, low, l)
              )
          | inr given ↦ (
              let y = in_any (is_of_file g.bring.fid) m.gives.gives given in
              let z = stands.gives.made y.0 y.1 in
              subst (λ (x : Bring). GiveOpen past x.fid → ⊥) (sym e) free (
                z.0,
                z.2,
                of_file z.0
                    (subst (λ (c : Body). option_map_or (λ (give : Give). same_fid give.fid g.bring.fid)
                    (given_in c) false ≡ true) z.1 y.2),
                z.3,
              )
              )
        ]
      where
        of_file : (k : Give) → same_fid k.fid g.bring.fid ≡ true → k.fid ≡ g.bring.fid
        of_file k e = same_fid_is k.fid g.bring.fid e

    pub unused_grant : Stands script (with_heard m (record (heard_of m) { request = None })) (b ∷ past)
    unused_grant = plain script m past cause_g stands none_learnt_g m.floors m.sites None m.homes m.call
        (parts.floors_same m.host cause_g past no_renew_g none_revoked_g none_taken_g m.floors stands.floors)
        sites_g
        (parts.request_gone m.host cause_g past m.request stands.request none_asking_g none_changing_g)
        (inr refl) homes_g call_g (inl refl)

pub unasked_grant_stands : UnaskedGrantStands
unasked_grant_stands script m past server epoch moves g stands unasked =
    unasked_grant script m past server epoch moves g stands unasked

pub unused_grant_stands : UnusedGrantStands
unused_grant_stands script m past server epoch moves g stands answers =
    unused_grant script m past server epoch moves g stands answers

-- # Servers

module _ (script : Script) (m : Tables) (past : List Step) (server : ServerId) (epoch moves : ℕ)
    (stands : Stands script m past) where
  module _ (body : Body) (no_grant : (g : GrantOf) → body ≡ Grant g → ⊥) (no_done : (d : DoneOf) → body ≡ Done d → ⊥)
      (no_revoke : (r : RevokeOf) → body ≡ Revoke r → ⊥) where
    abbrev cause_s : Cause
    cause_s = Came (saying m.host server epoch moves body)

    abbrev e : Step
    e = hears m.host server epoch moves body

    of_body : (v : ServerId) (i n : ℕ) (c : Body) → ComesIn e v i n c → body ≡ c
    of_body v i n c x = (parts.comes_of m.host server epoch moves body past v i n c x).3

    none_done_s : (v : ServerId) (d : DoneOf) → DoneComes past e v d → ⊥
    none_done_s v d (inl x) = no_done d (of_body _ _ _ (Done d) x.1)
    none_done_s v d (inr x) = no_done d (of_body _ _ _ (Done d) x)

    none_used_s : (w : Bring) → AnswersRequest past e w → ⊥
    none_used_s w (inl x) = no_grant x.0 (of_body _ _ _ (Grant x.0) x.1)
    none_used_s w (inr x) = no_done x.0 (of_body _ _ _ (Done x.0) x.1)

    none_revoked_s : (fs : FilesetId) (r : RevokeOf) → About past e fs (Revoke r) → ⊥
    none_revoked_s fs r c = no_revoke r (of_body _ _ _ (Revoke r) c)

    request_s : RequestStands m.request (e ∷ past)
    request_s = parts.request_same m.host cause_s past m.request (λ f _ g c _ _. no_grant g (of_body _ _ _ (Grant g) c))
        (λ v c _ d x _ _. none_done_s v d x) stands.request

    homes_s : HomesStand m.homes (e ∷ past)
    homes_s = parts.homes_same m.host cause_s past (λ v name id x. none_done_s v x.1 x.7.0) m.homes stands.homes

    call_s : ((n : AppliedGive) → Learns past e n → ⊥) → CallStands m.call m.begun (e ∷ past)
    call_s none_learnt = parts.call_same m.host cause_s past m.call m.begun (λ c _ z. elim z [
      | inl x ↦ none_done_s x.0 x.1 x.3.0
      | inr l ↦ none_learnt (number_of l.0) l.5
    ]) stands.call

  none_learnt_by : (body : Body) → ((n : AppliedGive) → body ≡ Gone n → ⊥) → ((a : ReclaimedOf) → body ≡ Reclaimed a
      → ⊥)
      → (n : AppliedGive) → Learns past (hears m.host server epoch moves body) n → ⊥
  none_learnt_by body no_gone no_answer n l = elim l.1 [
    | inl x ↦ no_gone n (parts.comes_of m.host server epoch moves body past _ _ _ (Gone n) x).3
    | inr x ↦ no_answer x.1 (parts.comes_of m.host server epoch moves body past _ _ _ (Reclaimed x.1) x.2).3
  ]

  pub bye : (sites : List Site) → ChangesSite m.sites sites server (record (site_at m.sites server) { has_bye = true })
      → Stands script (with_heard m (record (heard_of m) { sites = sites })) (hears m.host server epoch moves Bye
      ∷ past)
  bye sites changes =
      let none = none_learnt_by Bye (λ n e. absurd (cc)) (λ a e. absurd (cc)) in
      plain script m past (Came (saying m.host server epoch moves Bye)) stands none m.floors sites m.request m.homes
      m.call
      (parts.floors_same m.host (Came (saying m.host server epoch moves Bye)) past
      (λ fs r. elim r [ inl x ↦ absurd (omega (arith, x)) | inr x ↦ absurd (omega (arith, x)) ])
      (none_revoked_s Bye (λ g e. absurd (cc)) (λ d e. absurd (cc)) (λ r e. absurd (cc)))
      (λ w u _ _. none_used_s Bye (λ g e. absurd (cc)) (λ d e. absurd (cc)) (λ r e. absurd (cc)) w u) m.floors
      stands.floors)
      (parts.sites_heard m.host server epoch moves Bye past m.sites sites (record (site_at m.sites server) {
        has_bye =
            true;
      })
      stands.sites changes
      (parts.site_parted m.host server epoch moves Bye past (site_at m.sites server) refl (stands.sites server)))
      (request_s Bye (λ g e. absurd (cc)) (λ d e. absurd (cc)) (λ r e. absurd (cc))) (inl refl)
      (homes_s Bye (λ g e. absurd (cc)) (λ d e. absurd (cc)) (λ r e. absurd (cc)))
      (call_s Bye (λ g e. absurd (cc)) (λ d e. absurd (cc)) (λ r e. absurd (cc)) none) (inl refl)

  -- the epoch rises by the body
  raised : (body : Body) (now : epoch_at (hears m.host server epoch moves body ∷ past) server ≡ epoch)
      → (site_at m.sites server).epoch < epoch → RaisesEpoch past (hears m.host server epoch moves body) server
  raised body now up = let p = (stands.sites server).epoch in omega (arith, now, up, p)

  not_raised : (body : Body) (v : ServerId) → (v ≡ server → ⊥) → RaisesEpoch past (hears m.host server epoch moves body)
      v → ⊥
  not_raised body v other r =
      let p = parts.epoch_elsewhere m.host server epoch moves body past v other in omega (arith, p, r)

  pub restarted : (sites : List Site) (floors : List Floor) → (site_at m.sites server).epoch < epoch
      → ChangesSite m.sites sites server (record (site_at m.sites server) { epoch = epoch; claimed = false })
      → RenewsFloors m.floors floors server
      → Stands script (with_heard m (record (heard_of m) { sites = sites; floors = floors }))
      (hears m.host server epoch moves Restarted ∷ past)
  restarted sites floors up changes renews =
      let none = none_learnt_by Restarted (λ n e. absurd (cc)) (λ a e. absurd (cc)) in
      let p = (stands.sites server).epoch in
      let low : epoch_at past server < epoch = omega (arith, p, up) in
      let now : epoch_at (hears m.host server epoch moves Restarted ∷ past) server ≡ epoch =
      if_true ((server.0 == server.0) && nat_lt (epoch_at past server) epoch) epoch (epoch_at past server)
      (and_from (server.0 == server.0) (nat_lt (epoch_at past server) epoch) (eq-eqb server.0 server.0 refl)
      (lt-ltb (epoch_at past server) epoch low)) in
      plain script m past (Came (saying m.host server epoch moves Restarted)) stands none floors sites m.request m.homes
      m.call
      (parts.floors_renewed m.host (Came (saying m.host server epoch moves Restarted)) past server
      (raised Restarted now up) (not_raised Restarted)
      (none_revoked_s Restarted (λ g e. absurd (cc)) (λ d e. absurd (cc)) (λ r e. absurd (cc)))
      (none_used_s Restarted (λ g e. absurd (cc)) (λ d e. absurd (cc)) (λ r e. absurd (cc))) m.floors floors renews
      stands.floors)
      (parts.sites_heard m.host server epoch moves Restarted past m.sites sites
      (record (site_at m.sites server) { epoch = epoch; claimed = false }) stands.sites changes
      (parts.site_renewed m.host server epoch moves Restarted past (site_at m.sites server) (stands.sites server) low
      now
      (λ a e. absurd (cc)) (λ e. absurd (cc))))
      (request_s Restarted (λ g e. absurd (cc)) (λ d e. absurd (cc)) (λ r e. absurd (cc))) (inl refl)
      (homes_s Restarted (λ g e. absurd (cc)) (λ d e. absurd (cc)) (λ r e. absurd (cc)))
      (call_s Restarted (λ g e. absurd (cc)) (λ d e. absurd (cc)) (λ r e. absurd (cc)) none) (inl refl)

pub bye_stands : ByeStands
bye_stands script m past server epoch moves sites stands changes = bye script m past server epoch moves stands sites
    changes

pub restarted_stands : RestartedStands
restarted_stands script m past server epoch moves sites floors stands up changes renews =
    restarted script m past server epoch moves stands sites floors up changes renews

module _ (script : Script) (m : Tables) (past : List Step) (server : ServerId) (epoch : ℕ) (a : ReclaimedOf)
    (stands : Stands script m past) where
  abbrev answer : Body
  answer = Reclaimed a

  no_grant_r : (g : GrantOf) → answer ≡ Grant g → ⊥
  no_grant_r g e = cc

  no_done_r : (d : DoneOf) → answer ≡ Done d → ⊥
  no_done_r d e = cc

  no_revoke_r : (r : RevokeOf) → answer ≡ Revoke r → ⊥
  no_revoke_r r e = cc

  abbrev cause_r : Cause
  cause_r = Came (saying m.host server epoch 0 answer)

  abbrev u : Step
  u = hears m.host server epoch 0 answer

  pub first_reclaimed : (sites : List Site) (floors : List Floor) → (site_at m.sites server).epoch ≡ 0 → 0 < epoch
      → ChangesSite m.sites sites server (hearing (site_at m.sites server) epoch) → RenewsFloors m.floors floors server
      → Stands script (with_heard m (record (heard_of m) { sites = sites; floors = floors })) (u ∷ past)
  first_reclaimed sites floors zero_now up changes renews =
      let p = (stands.sites server).epoch in
      let low : epoch_at past server < epoch = omega (arith, p, up, zero_now) in
      let first : epoch_at past server ≡ 0 = sym p ∙ zero_now in
      let now : epoch_at (u ∷ past) server ≡ epoch =
      if_true ((server.0 == server.0) && (epoch_at past server == 0)) epoch (epoch_at past server)
      (and_from (server.0 == server.0) (epoch_at past server == 0) (eq-eqb server.0 server.0 refl)
      (eq-eqb (epoch_at past server) 0 first)) in
      let site_up : (site_at m.sites server).epoch < epoch = omega (arith, zero_now, up) in
      let none : (n : AppliedGive) → Learns past u n → ⊥ = λ n l. elim l.1 [
        | inl x ↦ absurd (let q = (parts.comes_of m.host server epoch 0 answer past _ _ _ (Gone n) x).3 in cc)
        | inr x ↦ (
            let q = parts.comes_of m.host server epoch 0 answer past x.0 (epoch_at past x.0) 0 (Reclaimed x.1) x.2 in
            let k : epoch ≡ epoch_at past server = q.1 ∙ ap (epoch_at past) (sym q.0) in
            omega (arith, k, low)
            )
      ] in
      plain script m past cause_r stands none floors sites m.request m.homes m.call
      (parts.floors_renewed m.host cause_r past server
      (raised script m past server epoch 0 stands answer now site_up) (not_raised script m past server epoch 0 stands
      answer)
      (none_revoked_s script m past server epoch 0 stands answer no_grant_r no_done_r no_revoke_r)
      (none_used_s script m past server epoch 0 stands answer no_grant_r no_done_r no_revoke_r) m.floors floors renews
      stands.floors)
      (parts.sites_heard m.host server epoch 0 answer past m.sites sites (hearing (site_at m.sites server) epoch)
      stands.sites changes
      (parts.site_hearing m.host server epoch 0 answer past (site_at m.sites server) a (stands.sites server) refl refl
      now (inl low)))
      (request_s script m past server epoch 0 stands answer no_grant_r no_done_r no_revoke_r) (inl refl)
      (homes_s script m past server epoch 0 stands answer no_grant_r no_done_r no_revoke_r)
      (call_s script m past server epoch 0 stands answer no_grant_r no_done_r no_revoke_r none) (inl refl)

  module _ (sites : List Site) (lengths : List Given) (gives : Giving) (leaving : List Leaving)
      (ending : Option Labelled)
      (call : Option Asked) (present : (site_at m.sites server).epoch ≡ epoch)
      (changes : ChangesSite m.sites sites server (hearing (site_at m.sites server) epoch))
      (forgets : ForgetsGives m lengths gives leaving ending a.applied) (closes : ClosesCall m call a.applied) where
    here : epoch_at past server ≡ epoch
    here = sym (stands.sites server).epoch ∙ present

    comes : Comes past u server (Reclaimed a)
    comes = (saying m.host server epoch 0 answer, refl, refl, sym here, refl, refl)

    -- the epoch stays: it is the present one, also where that is 0
    now : epoch_at (u ∷ past) server ≡ epoch
    now = elim (by_test ((server.0 == server.0) && (epoch_at past server == 0))) [
      | inl y ↦ if_true ((server.0 == server.0) && (epoch_at past server == 0)) epoch (epoch_at past server) y
      | inr n ↦ if_false ((server.0 == server.0) && (epoch_at past server == 0)) epoch (epoch_at past server) n ∙ here
    ]

    no_raise : (v : ServerId) → RaisesEpoch past u v → ⊥
    no_raise v r = elim (parts.server_cases v server) [
      | inl e ↦ (
          let q : RaisesEpoch past u server = subst (RaisesEpoch past u) e r in
          let p = now in let h = here in omega (arith, p, h, q)
          )
      | inr other ↦ not_raised script m past server epoch 0 stands answer v other r
    ]

    learns_r : (g : Give) → Made past g → In (number_of g) a.applied → Learns past u (number_of g)
    learns_r g made i = ((g, made, refl), inr (server, a, comes, i))

    learns_only_r : (n : AppliedGive) → Learns past u n → In n a.applied
    learns_only_r n l = elim l.1 [
      | inl x ↦ absurd (let q = (parts.comes_of m.host server epoch 0 answer past _ _ _ (Gone n) x).3 in cc)
      | inr x ↦ (
          let q = (parts.comes_of m.host server epoch 0 answer past x.0 _ _ (Reclaimed x.1) x.2).3 in
          let same : a ≡ x.1 = cc in
          subst (λ (y : ReclaimedOf). In n y.applied) (sym same) x.3
          )
    ]

    pub reclaimed : Stands script (with_heard m (record (heard_of m) {
      sites = sites;
      lengths = lengths;
      gives = gives;
      leaving = leaving;
      ending = ending;
      call = call;
    })) (u ∷ past)
    reclaimed = hearing_stands script m (record (heard_of m) {
      sites = sites;
      lengths = lengths;
      gives = gives;
      leaving = leaving;
      ending = ending;
      call = call;
    }) past cause_r stands (record {
      lengths = hearing_of.lengths_learnt script m past cause_r a.applied stands learns_r learns_only_r lengths gives
          leaving ending forgets;
      gives = hearing_of.gives_learnt script m past cause_r a.applied stands learns_r learns_only_r lengths gives
          leaving ending forgets;
      leaving = hearing_of.leaving_learnt script m past cause_r a.applied stands learns_r learns_only_r lengths gives
          leaving ending forgets;
      ending = hearing_of.ending_kept script m past cause_r a.applied stands learns_r learns_only_r lengths gives
          leaving ending forgets;
      floors = parts.floors_same m.host cause_r past
          (λ fs r. elim r [ inl x ↦ no_raise (home fs) x | inr x ↦ absurd (omega (arith, x)) ])
          (none_revoked_s script m past server epoch 0 stands answer no_grant_r no_done_r no_revoke_r)
          (λ w z _ _. none_used_s script m past server epoch 0 stands answer no_grant_r no_done_r no_revoke_r w z)
          m.floors stands.floors;
      sites = parts.sites_heard m.host server epoch 0 answer past m.sites sites (hearing (site_at m.sites server) epoch)
          stands.sites changes (parts.site_hearing m.host server epoch 0 answer past (site_at m.sites server) a
          (stands.sites server) refl refl now (inr here));
      request = request_s script m past server epoch 0 stands answer no_grant_r no_done_r no_revoke_r;
      request_kept = inl refl;
      homes = homes_s script m past server epoch 0 stands answer no_grant_r no_done_r no_revoke_r;
      call = hearing_of.call_learnt script m past cause_r a.applied stands learns_r learns_only_r call closes
          (none_done_s script m past server epoch 0 stands answer no_grant_r no_done_r no_revoke_r);
      call_kept = hearing_of.call_kept script m past cause_r a.applied stands learns_r learns_only_r call closes
          (none_done_s script m past server epoch 0 stands answer no_grant_r no_done_r no_revoke_r);
    })

pub first_reclaimed_stands : FirstReclaimedStands
first_reclaimed_stands script m past server epoch a sites floors stands zero_now up changes renews =
    first_reclaimed script m past server epoch a stands sites floors zero_now up changes renews

pub reclaimed_stands : ReclaimedStands
reclaimed_stands script m past server epoch a sites lengths gives leaving ending call stands present changes forgets
    closes =
    reclaimed script m past server epoch a stands sites lengths gives leaving ending call present changes forgets closes

-- # A give-back is applied

module _ (script : Script) (m : Tables) (past : List Step) (server : ServerId) (epoch moves : ℕ) (n : AppliedGive)
    (stands : Stands script m past) (place_is : stay_of past n.fileset ≡ record { server = server; moves = moves })
    (present : (site_at m.sites server).epoch ≡ epoch) where
  abbrev tells : Body
  tells = Gone n

  no_grant_n : (g : GrantOf) → tells ≡ Grant g → ⊥
  no_grant_n g e = cc

  no_done_n : (d : DoneOf) → tells ≡ Done d → ⊥
  no_done_n d e = cc

  no_revoke_n : (r : RevokeOf) → tells ≡ Revoke r → ⊥
  no_revoke_n r e = cc

  abbrev cause_n : Cause
  cause_n = Came (saying m.host server epoch moves tells)

  abbrev q : Step
  q = hears m.host server epoch moves tells

  about_n : About past q n.fileset (Gone n)
  about_n =
      let at : home n.fileset ≡ server = ap (λ (x : Stay). x.server) place_is in (
        saying m.host server epoch moves tells,
        refl,
        sym at,
        sym present ∙ ((stands.sites server).epoch ∙ ap (epoch_at past) (sym at)),
        sym (ap (λ (x : Stay). x.moves) place_is),
        refl,
      )

  learns_n : (g : Give) → Made past g → In (number_of g) (n ∷ []) → Learns past q (number_of g)
  learns_n g made (inl i) =
      ((g, made, refl), inl (subst (λ (k : AppliedGive). About past q k.fileset (Gone k)) (sym i) about_n))
  learns_n g made (inr i) = elim i [ ]

  learns_only_n : (k : AppliedGive) → Learns past q k → In k (n ∷ [])
  learns_only_n k l = elim l.1 [
    | inl x ↦ (
        let p = (parts.comes_of m.host server epoch moves tells past _ _ _ (Gone k) x).3 in
        let same : n ≡ k = cc in inl (sym same)
        )
    | inr x ↦ absurd (let p = (parts.comes_of m.host server epoch moves tells past _ _ _ (Reclaimed x.1) x.2).3 in cc)
  ]

  module _ (lengths : List Given) (gives : Giving) (leaving : List Leaving) (ending : Option Labelled)
      (call : Option Asked)
      (forgets : ForgetsGives m lengths gives leaving ending (n ∷ [])) (closes : ClosesCall m call (n ∷ [])) where
    pub gone : Stands script (with_heard m (record (heard_of m) {
      lengths = lengths;
      gives = gives;
      leaving = leaving;
      ending = ending;
      call = call;
    })) (q ∷ past)
    gone = hearing_stands script m (record (heard_of m) {
      lengths = lengths;
      gives = gives;
      leaving = leaving;
      ending = ending;
      call = call;
    }) past cause_n stands (record {
      lengths = hearing_of.lengths_learnt script m past cause_n (n ∷ []) stands learns_n learns_only_n lengths gives
          leaving ending forgets;
      gives = hearing_of.gives_learnt script m past cause_n (n ∷ []) stands learns_n learns_only_n lengths gives leaving
          ending forgets;
      leaving = hearing_of.leaving_learnt script m past cause_n (n ∷ []) stands learns_n learns_only_n lengths gives
          leaving ending forgets;
      ending = hearing_of.ending_kept script m past cause_n (n ∷ []) stands learns_n learns_only_n lengths gives leaving
          ending forgets;
      floors = parts.floors_same m.host cause_n past
          (λ fs r. elim r [ inl x ↦ absurd (omega (arith, x)) | inr x ↦ absurd (omega (arith, x)) ])
          (none_revoked_s script m past server epoch moves stands tells no_grant_n no_done_n no_revoke_n)
          (λ w z _ _. none_used_s script m past server epoch moves stands tells no_grant_n no_done_n no_revoke_n w z)
          m.floors stands.floors;
      sites = parts.sites_same m.host server epoch moves tells past m.sites stands.sites refl (λ a e. absurd (cc))
          (λ e. absurd (cc));
      request = request_s script m past server epoch moves stands tells no_grant_n no_done_n no_revoke_n;
      request_kept = inl refl;
      homes = homes_s script m past server epoch moves stands tells no_grant_n no_done_n no_revoke_n;
      call = hearing_of.call_learnt script m past cause_n (n ∷ []) stands learns_n learns_only_n call closes
          (none_done_s script m past server epoch moves stands tells no_grant_n no_done_n no_revoke_n);
      call_kept = hearing_of.call_kept script m past cause_n (n ∷ []) stands learns_n learns_only_n call closes
          (none_done_s script m past server epoch moves stands tells no_grant_n no_done_n no_revoke_n);
    })

pub gone_stands : GoneStands
gone_stands script m past server epoch moves n lengths gives leaving ending call stands place_is present forgets
    closes =
    gone script m past server epoch moves n stands place_is present lengths gives leaving ending call forgets closes
