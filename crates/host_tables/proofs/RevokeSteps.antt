-- A step by a Revoke is right.
use Rattle.base_types.specs.Ids.{same_fid}
use Rattle.base_types.specs.declared.ids.Fid.{Fid}
use Rattle.base_types.specs.declared.ids.FilesetId.{FilesetId}
use Rattle.base_types.specs.declared.ids.ServerId.{ServerId}
use Rattle.host_cache.specs.Holding.{tokens_of}
use Rattle.host_cache.specs.declared.held.Held.{Held}
use Rattle.host_gives.specs.Giving.{given_in, names}
use Rattle.host_tables.proofs.LeavingWhole.{leaving_right}
use Rattle.host_tables.proofs.Lists.{any_false, any_in, by_test, fid_same, id_same, in_map, same_fid_is}
use Rattle.host_tables.proofs.Moving.{request_moves_right}
use Rattle.host_tables.specs.Causes.{CauseMay}
use Rattle.host_tables.specs.Giving.{GivesBack}
use Rattle.host_tables.specs.Half.{half}
use Rattle.host_tables.specs.Hearing.{hears, saying}
use Rattle.host_tables.specs.Learning.{TeachesLittle}
use Rattle.host_tables.specs.LeavingSteps.{IsSilent, LeavesRight, Left, with_left}
use Rattle.host_tables.specs.Letting.{IsAsked, Keeping}
use Rattle.host_tables.specs.Machine.{Rests, StepRight}
use Rattle.host_tables.specs.Moving.{IsNoRequest}
use Rattle.host_tables.specs.Quiet.{Moved, MovesRight, with_moved}
use Rattle.host_tables.specs.RevokeSteps.{Raises, RevokeCounts, RevokeStands, RevokeStepRight, SaysRevoked}
use Rattle.host_tables.specs.RevokeSteps.SaysRevoked.{BackGiven, BackKept, BackReturned}
use Rattle.host_tables.specs.Revoking.{InUseHere, revokes}
use Rattle.host_tables.specs.Saying.{IsFirst}
use Rattle.host_tables.specs.Sending.{MaySay, MaySend}
use Rattle.host_tables.specs.Stands.{CanReply, FloorsStand, GivesStand, IsAtRest, LostStands, NumbersStand}
use Rattle.host_tables.specs.Stands.{PartedStands, RequestStands, Stands}
use Rattle.host_tables.specs.Tables.{floor_of, held_of, own_of, site_at}
use Rattle.host_tables.specs.WholeSteps.{moved_of}
use Rattle.host_tables.specs.declared.files.Floor.{Floor}
use Rattle.host_tables.specs.declared.tables.Tables.{Tables}
use Rattle.message_types.specs.declared.giving.Give.{Give}
use Rattle.message_types.specs.declared.message.Body.{Body}
use Rattle.message_types.specs.declared.message.Body.TheVariants.{Bye, Change, Done, Down, Fetch, GiveBack, Gone}
use Rattle.message_types.specs.declared.message.Body.TheVariants.{Grant, Hello, Kept as KeptBody, NotHere, Reclaim}
use Rattle.message_types.specs.declared.message.Body.TheVariants.{Reclaimed, Restarted, Returned, Revoke, Ship}
use Rattle.message_types.specs.declared.message.Body.TheVariants.{Shipped}
use Rattle.message_types.specs.declared.message.Message.{Message}
use Rattle.message_types.specs.declared.tokens.Revoke.{Revoke as RevokeOf}
use Rattle.run_rules.specs.HostTokens.{MayLeave}
use Rattle.run_rules.specs.Messages.{About, ComesIn, HasSaid, Sends, SendsTo, Stay, epoch_at, stay_of}
use Rattle.run_rules.specs.Past.{In}
use Rattle.run_rules.specs.Steps.{limit_of}
use Rattle.run_rules.specs.Tokens.{HasCall, IsKnown, Made, TokenInUse}
use Rattle.run_rules.specs.Views.{Stance}
use Rattle.run_rules.specs.declared.applied.Leave.{Leave}
use Rattle.run_rules.specs.declared.applied.Why.{Why}
use Rattle.run_rules.specs.declared.applied.Why.TheVariants.{Revoked}
use Rattle.run_rules.specs.declared.step.Cause.TheVariants.{Message as Came}
use Rattle.run_rules.specs.declared.step.Step.{Step}
use Rattle.script_lines.specs.declared.script.Script.{Script}
use Rattle.std.proofs.Common.{Bool, List, Some, [], ap, arith, false, if◌then◌else◌, inl, inr, max, refl, subst, sym}
use Rattle.std.proofs.Common.{true, ℕ, ◌<◌, ◌∙◌, ◌∷◌, ◌≡◌}
use Rattle.std.specs.List.{list_any}
use Rattle.std.specs.Option.{option_map_or}
use Rattle.token_types.specs.Conflicts.{same_id}
use Rattle.token_types.specs.declared.token.Token.{Token}
use Rattle.token_types.specs.declared.token.TokenId.{TokenId}
use Rattle.tree_calls.specs.declared.call.Call.{Call}
use Rattle.host_tables.proofs.Learning as learning_of
use Rattle.host_tables.proofs.LeavingWhole as leaving_of
use Rattle.host_tables.proofs.Saying as saying_of
use Rattle.host_tables.proofs.Standing as standing

module _ (script : Script) (m : Tables) (past : List Step) (server : ServerId) (epoch moves : ℕ) (r : RevokeOf)
    (floors : List Floor) (stands : Stands script m past) (counts : RevokeCounts m past server epoch moves r)
    (raised : Raises m.floors floors r) where
  abbrev heard : Step
  heard = hears m.host server epoch moves (Revoke r)

  abbrev raised_to : Tables
  raised_to = record m { floors = floors }

  comes_is : (v : ServerId) (e n : ℕ) (b : Body) → ComesIn heard v e n b → Revoke r ≡ b
  comes_is v e n b c = let p = c.1 in let q : saying m.host server epoch moves (Revoke r) ≡ c.0 = cc in
      ap (λ (x : Message). x.body) q ∙ c.5

  place_server : (stay_of past r.fid.fileset).server ≡ server
  place_server = ap (λ (x : Stay). x.server) counts.place_is

  about : About past heard r.fid.fileset (Revoke r)
  about = (
    saying m.host server epoch moves (Revoke r),
    refl,
    sym place_server,
    sym counts.present
        ∙ ((stands.sites server).epoch ∙ ap (epoch_at past) (sym place_server)),
    sym (ap (λ (x : Stay). x.moves) counts.place_is),
    refl,
  )

  little : TeachesLittle past (half heard)
  little = record {
    epochs = λ v. refl;
    none_granted = λ fs g c. let p = comes_is _ _ _ (Grant g) c in absurd (cc);
    none_settled = λ v d c. elim c [
      | inl x ↦ absurd (let p = comes_is _ _ _ (Done d) x.1 in cc)
      | inr x ↦ absurd (let p = comes_is _ _ _ (Done d) x in cc)
    ];
    none_used = λ w c. elim c [
      | inl x ↦ absurd (let p = comes_is _ _ _ (Grant x.0) x.1 in cc)
      | inr x ↦ absurd (let p = comes_is _ _ _ (Done x.0) x.1 in cc)
    ];
    none_learnt = λ n c. elim c.1 [
      | inl x ↦ absurd (let p = comes_is _ _ _ (Gone n) x in cc)
      | inr x ↦ absurd (let p = comes_is _ _ _ (Reclaimed x.1) x.2 in cc)
    ];
    none_reclaimed = λ v a c. let p = comes_is _ _ _ (Reclaimed a) c in absurd (cc);
    welcomes = λ v w. elim w [ inl x ↦ absurd (let p = comes_is _ _ _ (Reclaimed x.1.0) x.1.1 in cc) | inr x ↦ x ];
    byes = λ v w. elim w [ inl x ↦ absurd (let p = comes_is _ _ _ Bye x.2 in cc) | inr x ↦ x ];
  }

  -- the floor of its file rises
  floor_is : (fid : Fid) (b : Bool) → same_fid r.fid fid ≡ b → floor_of floors fid
      ≡ (if b then max (floor_of m.floors fid) r.stamp else floor_of m.floors fid)
  floor_is fid b e = raised fid ∙ ap (λ (b : Bool). if b then max (floor_of m.floors fid) r.stamp
      else floor_of m.floors fid) e

  floors_stand : FloorsStand floors (half heard ∷ past)
  floors_stand = record {
    above = λ fid x a. inr (
      stands.floors.above fid x (elim (by_test (same_fid r.fid fid)) [
        | inl y ↦ (let e = floor_is fid true y in
            omega (arith, e, a))
        | inr n ↦ (let e = floor_is fid false n in omega (arith, e, a))
      ]),
      λ q c same.
          let p = comes_is _ _ _ (Revoke q) c in
          let z : r ≡ q = cc in
          let e = floor_is fid true (fid_same r.fid fid (ap (λ (q : RevokeOf). q.fid) z ∙ same)) in
          let k : r.stamp ≡ q.stamp = ap (λ (q : RevokeOf). q.stamp) z in
          omega (arith, e, a, k),
      λ w u _ _ _. absurd (little.none_used w u),
    );
    floor = λ fid x a. elim a [
      | inl q ↦ absurd (learning_of.no_renew m.host (Came (saying m.host server epoch moves (Revoke r))) past little
          fid.fileset q.0)
      | inr b ↦ (
          let k = stands.floors.floor fid x b.0 in
          elim (by_test (same_fid r.fid fid)) [
            | inl y ↦ (
                let e = floor_is fid true y in
                let same = same_fid_is r.fid fid y in
                let l : r.stamp < x = b.1 r (subst (λ (f : FilesetId). About past heard f (Revoke r))
                (ap (λ (f : Fid). f.fileset) same) about) same in
                omega (arith, e, k, l)
                )
            | inr n ↦ (let e = floor_is fid false n in omega (arith, e, k))
          ]
          )
    ];
  }

  pub learnt_r : Stands script raised_to (half heard ∷ past)
  learnt_r = learning_of.moved m.host (Came (saying m.host server epoch moves (Revoke r))) past little script m floors
      refl
      stands floors_stand

pub revoke_stands : RevokeStands
revoke_stands script m past server epoch moves r floors stands counts raised =
    learnt_r script m past server epoch moves r floors stands counts raised

module _ (script : Script) (old : Tables) (past : List Step) (server : ServerId) (epoch moves : ℕ) (r : RevokeOf)
    (made : List Give) (dropped : List Leave) (sent : List Message) (floors : List Floor) (l : Left) (lost : List Fid)
    (rests : Rests script old past) (counts : RevokeCounts old past server epoch moves r)
    (raised : Raises old.floors floors r)
    (leaves : LeavesRight (record old { floors = floors }) l past (revokes old.host server epoch moves r made dropped
    sent))
    (keeping : Keeping (record old { floors = floors }) past (revokes old.host server epoch moves r made dropped sent)
    (tokens_of l.cache.held))
    (gives : GivesBack (record old { floors = floors }) past (revokes old.host server epoch moves r made dropped sent)
    (tokens_of l.cache.held))
    (why : (d : Leave) → In d dropped → (d.why ≡ Revoked) × In d.token.id r.ids × (InUseHere old d.token.id → ⊥))
    (said : (y : Message) → In y sent → (y.epoch ≡ (site_at old.sites y.server).epoch) × (y.moves ≡ 0)
    × SaysRevoked old l r made y.server y.body)
    (due : (g : Give) → IsFirst l.gives g → (IsFirst old.gives g → ⊥)
    → SendsTo (revokes old.host server epoch moves r made dropped sent)
    (stay_of (revokes old.host server epoch moves r made dropped sent ∷ past) g.fid.fileset) (GiveBack g))
    (asks : (stance : Stance script.roster old.host past (revokes old.host server epoch moves r made dropped sent))
    → stance.kept ≡ tokens_of l.cache.held → stance.held ≡ held_of old → stance.own ≡ own_of old → stance.user
    ≡ old.user
    → IsAsked script.roster old.host past (revokes old.host server epoch moves r made dropped sent) stance)
    (loses : LostStands lost old.call (revokes old.host server epoch moves r made dropped sent ∷ past)) where
  abbrev s : Step
  s = revokes old.host server epoch moves r made dropped sent

  abbrev m : Tables
  m = record old { floors = floors }

  abbrev x : Moved
  x = record (moved_of m) { lost = lost }

  stands : Stands script old past
  stands = rests.stands

  learnt : Stands script m (half s ∷ past)
  learnt = revoke_stands script old past server epoch moves r floors stands counts raised

  counts_about : About past s r.fid.fileset (Revoke r)
  counts_about = about script old past server epoch moves r floors stands counts raised

  taught : TeachesLittle past (half s)
  taught = little script old past server epoch moves r floors stands counts raised

  going : (k : ℕ) (call : Call) → HasCall past s k call → old.call ≡ Some (record { k = k; call = call })
  going k call (inl (inl e)) = absurd (cc)
  going k call (inl (inr b)) = elim b.1 [ ]
  going k call (inr g) = stands.call.asked (record { k = k; call = call }) g.0

  -- which tokens are in use
  used_here : (i : TokenId) → TokenInUse past i → InUseHere old i
  used_here i u =
      let x = in_map (λ (h : Held). h.token) old.cache.held u.0.token
      (stands.cache.cached u.0.token (stands.uses.held u.0 u.1)) in
      let e : x.0.token.id ≡ i = ap (λ (t : Token). t.id) (sym x.2) ∙ u.2 in (
        x.0,
        x.1,
        e,
        elim (by_test x.0.in_use) [
          | inl y ↦ y
          | inr n ↦ absurd (stands.cache.unmarked x.0 x.1 n (u.0, u.1, u.2 ∙ sym e))
        ],
      )

  here_used : (i : TokenId) → InUseHere old i → TokenInUse past i
  here_used i (h, j, e, y) = subst (TokenInUse past) e (stands.cache.marked h j y)

  after : GivesStand l.gives (s ∷ past)
  after = leaving_of.gives_after script m l past s learnt leaves gives

  -- only answers are said, and give-backs
  abbrev IsAnswer : Body → Type 0
  IsAnswer (Returned w) = Unit {0}
  IsAnswer (KeptBody w) = Unit {0}
  IsAnswer (GiveBack g) = Unit {0}
  IsAnswer _ = ⊥

  answers_it : (v : ServerId) (b : Body) → SaysRevoked old l r made v b → IsAnswer b
  answers_it v b (BackReturned w at ok file) = tt
  answers_it v b (BackKept w at ok file) = tt
  answers_it v b (BackGiven g first at) = tt

  is_answer : (y : Message) → In y sent → IsAnswer y.body
  is_answer y i = answers_it y.server y.body (said y i).2

  answer_is : (v : ServerId) (e n : ℕ) (b : Body) → Sends s v e n b → IsAnswer b
  answer_is v e n b p = subst IsAnswer p.5 (is_answer p.0 p.1)

  no_request : (b : Body) → IsAnswer b → IsNoRequest b
  no_request (Fetch f) i = i
  no_request (Change c) i = i
  no_request Hello i = tt
  no_request (Returned w) i = tt
  no_request (KeptBody w) i = tt
  no_request (GiveBack g) i = tt
  no_request (Grant g) i = tt
  no_request (Done d) i = tt
  no_request (Revoke q) i = tt
  no_request (Gone n) i = tt
  no_request (Reclaim c) i = tt
  no_request (Reclaimed a) i = tt
  no_request Restarted i = tt
  no_request Down i = tt
  no_request Bye i = tt
  no_request (NotHere n) i = tt
  no_request (Ship k) i = tt
  no_request (Shipped k) i = tt

  requests : RequestStands m.request (s ∷ past) × NumbersStand m.fetched m.changed (s ∷ past)
  requests = request_moves_right script m past s learnt
      (record { only = λ y i. inl (no_request y.body (is_answer y i)) })

  silent : IsSilent s
  silent = record { answers = refl; wrote = refl; begun = refl; no_stop = λ k. answer_is k.0 k.1 k.2 Down k.3 }

  parted : (v : ServerId) → HasSaid (s ∷ past) v Bye → PartedStands m.request m.call v (s ∷ past)
  parted v (e, n, inl p) = absurd (answer_is v e n Bye p)
  parted v (e, n, inr p) = let q = stands.parted v (e, n, p) in record {
    greeted = (q.greeted.0, q.greeted.1, inr q.greeted.2);
    none_asked = q.none_asked;
    none_open = q.none_open;
    none_owned = λ t o. elim o.0 [ inl i ↦ elim i [ ] | inr k ↦ q.none_owned t k ];
    known = λ g i. elim i [
      | inl j ↦ absurd (no_ids g j g.ids refl (λ k z. let t = gives.ids g k j z in
          q.none_owned t.0 (stands.cache.owned t.0 t.1)))
      | inr j ↦ inr (q.known g j)
    ];
  }
    where
      no_ids : (g : Give) → In g made → (ids : List TokenId) → g.ids ≡ ids → ((k : TokenId) → In k g.ids → ⊥) → ⊥
      no_ids g j [] e none = gives.names g j e
      no_ids g j (k ∷ ids) e none = none k (subst (In k) (sym e) (inl refl))

  moves_right : MovesRight m x past s
  moves_right = record {
    site_epoch = λ v. refl;
    site_welcome = λ v. refl;
    site_has_bye = λ v. refl;
    site_greeted = λ v. ((λ e. inl e), λ z. elim z [ inl e ↦ e | inr p ↦ absurd (answer_is v p.0 p.1 Hello p.2) ]);
    site_said_bye = λ v. ((λ e. inl e), λ z. elim z [ inl e ↦ e | inr p ↦ absurd (answer_is v p.0 p.1 Bye p.2) ]);
    site_claimed = λ v. (
      (λ e. inl e),
      λ z. elim z [
        | inl e ↦ e
        | inr p ↦ absurd (answer_is v p.0 p.1 (Reclaim p.2) p.3)
      ],
    );
    claims_apart = λ v a p. absurd (answer_is v p.0 p.1 (Reclaim p.2) p.3);
    request = requests.0;
    numbers = requests.1;
    call_from = λ c e. inr e;
    call_asked = λ c e. absurd (cc);
    call_stays = λ c e. e;
    begun = let b = stands.call.begun in omega (arith, b);
    lost = loses;
    parted = parted;
  }

  cause : CauseMay script old.host past s
  cause = record {
    live = stands.live;
    takes = λ t i. elim i [ ];
    takes_all = record { all = λ w t u. absurd (taught.none_used w u.0); once = λ t u i. elim i [ ] };
    new_gives = λ g o fresh going. due g (saying_of.out_first l.gives (s ∷ past) after g o)
        (λ f. fresh (saying_of.first_out old.gives past stands.gives g f));
    lines = record {
      next = λ n c. absurd (cc);
      free = λ n c. absurd (cc);
      begins = λ k call b. absurd (elim b [ inl e ↦ absurd (cc) | inr y ↦ elim y.1 [ ] ]);
      no_server = (λ n c. cc, λ c. cc);
      applies_none = (refl, refl, refl);
      after = λ c. absurd (cc);
      implied = λ k call c. absurd (cc);
    };
  }

  may_leave : (d : Leave) → In d dropped → MayLeave script.roster old.host (limit_of script.roster old.host) past s
      d.why d.token
  may_leave d i =
      let w = why d i in
      subst (λ (y : Why). MayLeave script.roster old.host (limit_of script.roster old.host) past s y d.token) (sym w.0)
      ((r, counts_about, w.1), λ u. w.2 (used_here d.token.id u))

  unnamed_known : (i : TokenId) (g : Give) → list_any (names i) old.gives.gives ≡ false → Made past g → In i g.ids
      → IsKnown past g
  unnamed_known i g none made_it j = elim (stands.gives.all g made_it) [
    | inl k ↦ k
    | inr y ↦ absurd (any_false (names i) old.gives.gives none y.0 y.1
        (subst (λ (b : Body). option_map_or (λ (give : Give). list_any (λ other. same_id other i) give.ids)
        (given_in b) false ≡ true)
        (sym y.2) (any_in (λ (other : TokenId). same_id other i) g.ids i j (id_same i i refl))))
  ]

  says : (stance : Stance script.roster old.host past s) (v : ServerId) (b : Body) → SaysRevoked old l r made v b
      → MaySay script.roster old.host past s stance v 0 b
  says stance v b (BackReturned w at ok file) = (
    record {
      place = λ i. record { server = at i; moves = 0 };
      file = λ t h i. file t (standing.of_hand script m past s learnt t h) i;
    },
    λ i j. let o = ok i j in record {
      from = inr (r, counts_about, o.0);
      free = λ g mk k. elim mk [
        | inl y ↦ absurd (o.1.ungiven g y k)
        | inr y ↦ inr (unnamed_known i g o.1.unnamed y k)
      ];
      idle = λ u. o.1.idle (used_here i u);
    },
  )
  says stance v b (BackKept w at ok file) = (
    record {
      place = λ i. record { server = at i; moves = 0 };
      file = λ t h i. file t (standing.of_hand script m past s learnt t h) i;
    },
    λ i j. let o = ok i j in
        let h : Held = o.1.0 in
        let u = here_used i (h, o.1.1, o.1.2, o.1.3) in (
          (
            h.token,
            (
              standing.hand_of script m past s learnt h.token (keeping.were h.token o.1.4),
              (keeping.stay h.token o.1.4).1,
            ),
            o.1.2,
          ),
          (
            u.0,
            inr (
              u.1,
              (λ e. elim e.1 [ ]),
              λ g k gives_it. (keeping.stay h.token o.1.4).0
                  (inl (g, k, subst (λ (z : TokenId). In z g.ids) (u.2 ∙ sym o.1.2) gives_it.3)),
            ),
            u.2,
          ),
          (r, counts_about, o.0),
        ),
  )
  says stance v b (BackGiven g first at) =
      let o = saying_of.first_out l.gives (s ∷ past) after g first in
      record {
        made = o.made;
        place = λ i. record { server = at i; moves = 0 };
        first = λ k mk same less. elim (after.all k mk) [
          | inl q ↦ q
          | inr y ↦ absurd (first.least y.0 k y.1 y.2 same less)
        ];
      }

  may : (stance : Stance script.roster old.host past s) (y : Message) → In y sent
      → MaySend script.roster old.host past s stance y
  may stance y i = let q = said y i in record {
    epoch_is = q.0 ∙ (learnt.sites y.server).epoch;
    says = subst (λ (n : ℕ). MaySay script.roster old.host past s stance y.server n y.body) (sym q.1)
        (says stance y.server y.body q.2);
  }

  stuck : (k : ℕ) (call : Call) → HasCall past s k call → CanReply m call → ⊥
  stuck k call t can = rests.rest.stuck (record { k = k; call = call }) (going k call t)
      (record { covered = can.covered; reply = can.reply; settled = can.settled })

  pub revoke_step : IsAtRest (with_moved (with_left m l) x) (s ∷ past)
      → StepRight script old (with_moved (with_left m l) x) past s
  revoke_step rest = leaving_right script old m l x past s refl stands.dirty.under learnt silent leaves keeping gives
      moves_right
      stuck cause may_leave (λ stance k h o u. (may stance, asks stance k h o u)) rest

pub revoke_step_right : RevokeStepRight
revoke_step_right script old past server epoch moves r made dropped sent floors l lost rests counts raised leaves
    keeping gives
    why said due asks loses rest =
    revoke_step script old past server epoch moves r made dropped sent floors l lost rests counts raised leaves keeping
    gives
    why said due asks loses rest
