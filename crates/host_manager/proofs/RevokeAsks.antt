-- A Revoke comes while a call is open and nothing is asked for it: the host answers it, and says one thing more in the
-- same step, for the call.
use Rattle.base_types.specs.declared.ids.Fid.{Fid}
use Rattle.base_types.specs.declared.ids.ServerId.{ServerId}
use Rattle.host_cache.specs.Holding.{tokens_of}
use Rattle.host_cache.specs.declared.held.Held.{Held}
use Rattle.host_gives.specs.Giving.{given_in, names}
use Rattle.host_tables.proofs.LeavingWhole.{leaving_right}
use Rattle.host_tables.proofs.Lists.{any_false, any_in, by_test, id_same, in_map}
use Rattle.host_tables.proofs.RevokeSteps.{revoke_stands}
use Rattle.host_tables.proofs.Saying.{first_out, out_first}
use Rattle.host_tables.specs.Causes.{CauseMay}
use Rattle.host_tables.specs.Giving.{GivesBack}
use Rattle.host_tables.specs.Half.{half}
use Rattle.host_tables.specs.LeavingSteps.{IsSilent, LeavesRight, Left, with_left}
use Rattle.host_tables.specs.Letting.{Keeping}
use Rattle.host_tables.specs.Machine.{Rests, StepRight}
use Rattle.host_tables.specs.Quiet.{Moved, MovesRight, with_moved}
use Rattle.host_tables.specs.RevokeSteps.{Raises, RevokeCounts, SaysRevoked}
use Rattle.host_tables.specs.Revoking.{InUseHere}
use Rattle.host_tables.specs.Saying.{IsFirst}
use Rattle.host_tables.specs.Sending.{MaySay, MaySend}
use Rattle.host_tables.specs.Stands.{CanReply, GivesStand, IsAtRest, LostStands, NumbersStand, RequestStands, Stands}
use Rattle.host_tables.specs.Tables.{held_of, own_of, site_at}
use Rattle.host_tables.specs.declared.calls.Request.{Request}
use Rattle.host_tables.specs.declared.files.Floor.{Floor}
use Rattle.host_tables.specs.declared.numbers.Changed.{Changed}
use Rattle.host_tables.specs.declared.numbers.Fetched.{Fetched}
use Rattle.host_tables.specs.declared.sites.Site.{Site}
use Rattle.host_tables.specs.declared.tables.Tables.{Tables}
use Rattle.message_types.specs.declared.giving.Give.{Give}
use Rattle.message_types.specs.declared.message.Body.{Body}
use Rattle.message_types.specs.declared.message.Message.{Message}
use Rattle.message_types.specs.declared.telling.Bring.{Bring}
use Rattle.run_rules.specs.HostTokens.{MayLeave}
use Rattle.run_rules.specs.Messages.{About, ComesIn, Says, Sends, SendsTo, Stay, epoch_at, stay_of}
use Rattle.run_rules.specs.Past.{In}
use Rattle.run_rules.specs.Steps.{limit_of}
use Rattle.run_rules.specs.Tokens.{AnswersRequest, HasCall, IsKnown, Made, TokenInUse}
use Rattle.run_rules.specs.Views.{Stance}
use Rattle.run_rules.specs.declared.applied.Leave.{Leave}
use Rattle.run_rules.specs.declared.applied.Why.{Why}
use Rattle.run_rules.specs.declared.step.Step.{Step}
use Rattle.script_lines.specs.declared.script.Script.{Script}
use Rattle.std.proofs.Common.{List, Option, Some, ap, arith, false, inl, inr, refl, subst, sym, true, ℕ, ◌↔◌, ◌∙◌}
use Rattle.std.proofs.Common.{◌∷◌, ◌≡◌, ◌⊎◌}
use Rattle.std.specs.List.{list_any}
use Rattle.std.specs.Option.{option_map_or}
use Rattle.token_types.specs.Conflicts.{same_id}
use Rattle.token_types.specs.declared.token.Token.{Token}
use Rattle.token_types.specs.declared.token.TokenId.{TokenId}
use Rattle.tree_calls.specs.declared.call.Call.{Call}
use Rattle.host_tables.specs.Letting.{IsAsked as AsksNow}
use Rattle.host_manager.proofs.TurnOpens.{IsAsked, KeepsSites}
use Rattle.host_tables.proofs.Standing as standing
use Rattle.host_tables.proofs.LeavingWhole as leaving_of
use Rattle.host_tables.specs.Revoking.{revokes, revoking}
use Rattle.run_rules.specs.declared.applied.Why.TheVariants.{Revoked}
use Rattle.message_types.specs.declared.message.Body.TheVariants.{Bye, Change, Down, Fetch, GiveBack, Grant, Done}
use Rattle.message_types.specs.declared.message.Body.TheVariants.{Hello}
use Rattle.message_types.specs.declared.message.Body.TheVariants.{Reclaim, Returned, Revoke}
use Rattle.message_types.specs.declared.tokens.Revoke.{Revoke as RevokeOf}
use Rattle.message_types.specs.declared.message.Body.TheVariants.{Kept as KeptBody}
use Rattle.host_tables.specs.RevokeSteps.SaysRevoked.{BackGiven, BackKept, BackReturned}
use Rattle.run_rules.specs.Messages.{HasSaid}

-- what a step by a Revoke says: its answers, give-backs, and for the call a Hello or a request
abbrev pub IsTold : Body → Type 0
IsTold (Returned w) = Unit {0}
IsTold (KeptBody w) = Unit {0}
IsTold (GiveBack g) = Unit {0}
IsTold b = IsAsked b

asked_told : (b : Body) → IsAsked b → IsTold b
asked_told Hello a = tt
asked_told (Fetch f) a = tt
asked_told (Change d) a = tt
asked_told b a = elim a [ ]

module _ (script : Script) (old : Tables) (past : List Step) (server : ServerId) (epoch : ℕ) (r : RevokeOf)
    (made : List Give) (dropped : List Leave) (sent own : List Message) (floors : List Floor) (l : Left)
    (lost : List Fid) (rests : Rests script old past) (counts : RevokeCounts old past server epoch 0 r)
    (raised : Raises old.floors floors r) (asked_own : (y : Message) → In y own → IsAsked y.body) where
  abbrev pub s : Step
  s = revokes old.host server epoch 0 r made dropped sent

  abbrev pub m : Tables
  m = record old { floors = floors }

  stands : Stands script old past
  stands = rests.stands

  pub learnt : Stands script m (half s ∷ past)
  learnt = revoke_stands script old past server epoch 0 r floors stands counts raised

  comes_is : (v : ServerId) (e n : ℕ) (b : Body) → ComesIn s v e n b → Revoke r ≡ b
  comes_is v e n b x = let p = x.1 in let q : revoking old.host server epoch 0 r ≡ x.0 = cc in
      ap (λ (z : Message). z.body) q ∙ x.5

  place_server : (stay_of past r.fid.fileset).server ≡ server
  place_server = ap (λ (z : Stay). z.server) counts.place_is

  about : About past s r.fid.fileset (Revoke r)
  about = (
    revoking old.host server epoch 0 r,
    refl,
    sym place_server,
    sym counts.present ∙ ((stands.sites server).epoch ∙ ap (epoch_at past) (sym place_server)),
    sym (ap (λ (z : Stay). z.moves) counts.place_is),
    refl,
  )

  none_used : (w : Bring) → AnswersRequest past s w → ⊥
  none_used w (inl x) = let p = comes_is _ _ _ (Grant x.0) x.1 in cc
  none_used w (inr x) = let p = comes_is _ _ _ (Done x.0) x.1 in cc

  going : (k : ℕ) (call : Call) → HasCall past s k call → old.call ≡ Some (record { k = k; call = call })
  going k call (inl (inl e)) = absurd (cc)
  going k call (inl (inr b)) = elim b.1 [ ]
  going k call (inr g) = stands.call.asked (record { k = k; call = call }) g.0

  -- which tokens are in use
  used_here : (i : TokenId) → TokenInUse past i → InUseHere old i
  used_here i u =
      let x = in_map (λ (h : Held). h.token) old.cache.held u.0.token
      (stands.cache.cached u.0.token (stands.uses.held u.0 u.1)) in
      let e : x.0.token.id ≡ i = ap (λ (t : Token). t.id) (sym x.2) ∙ u.2 in (
        x.0,
        x.1,
        e,
        elim (by_test x.0.in_use) [
          | inl y ↦ y
          | inr n ↦ absurd (stands.cache.unmarked x.0 x.1 n (u.0, u.1, u.2 ∙ sym e))
        ],
      )

  here_used : (i : TokenId) → InUseHere old i → TokenInUse past i
  here_used i (h, j, e, y) = subst (TokenInUse past) e (stands.cache.marked h j y)

  -- # What leaves, and what is said
  module _ (leaves : LeavesRight m l past s) (keeping : Keeping m past s (tokens_of l.cache.held))
      (gives : GivesBack m past s (tokens_of l.cache.held))
      (why : (d : Leave) → In d dropped → (d.why ≡ Revoked) × In d.token.id r.ids × (InUseHere old d.token.id → ⊥))
      (said : (y : Message) → In y sent → ((y.epoch ≡ (site_at old.sites y.server).epoch) × (y.moves ≡ 0)
      × SaysRevoked old l r made y.server y.body) ⊎ In y own)
      (due : (g : Give) → IsFirst l.gives g → (IsFirst old.gives g → ⊥)
      → SendsTo s (stay_of (s ∷ past) g.fid.fileset) (GiveBack g))
      (loses : LostStands lost old.call (s ∷ past)) where
    after : GivesStand l.gives (s ∷ past)
    after = leaving_of.gives_after script m l past s learnt leaves gives

    answers_it : (v : ServerId) (b : Body) → SaysRevoked old l r made v b → IsTold b
    answers_it v b (BackReturned w at ok file) = tt
    answers_it v b (BackKept w at ok file) = tt
    answers_it v b (BackGiven g one at) = tt

    told : (v : ServerId) (e n : ℕ) (b : Body) → Sends s v e n b → IsTold b
    told v e n b p = elim (said p.0 p.1) [
      | inl q ↦ subst IsTold p.5 (answers_it p.0.server p.0.body q.2)
      | inr i ↦ subst IsTold p.5 (asked_told p.0.body (asked_own p.0 i))
    ]

    silent : IsSilent s
    silent = record { answers = refl; wrote = refl; begun = refl; no_stop = λ k. told k.0 k.1 k.2 Down k.3 }

    may_leave : (d : Leave) → In d dropped → MayLeave script.roster old.host (limit_of script.roster old.host) past s
        d.why d.token
    may_leave d i =
        let w = why d i in
        subst (λ (y : Why). MayLeave script.roster old.host (limit_of script.roster old.host) past s y d.token)
        (sym w.0) ((r, about, w.1), λ u. w.2 (used_here d.token.id u))

    unnamed_known : (i : TokenId) (g : Give) → list_any (names i) old.gives.gives ≡ false → Made past g → In i g.ids
        → IsKnown past g
    unnamed_known i g none made_it j = elim (stands.gives.all g made_it) [
      | inl k ↦ k
      | inr y ↦ absurd (any_false (names i) old.gives.gives none y.0 y.1
          (subst (λ (b : Body). option_map_or (λ (give : Give). list_any (λ other. same_id other i) give.ids)
          (given_in b) false ≡ true)
          (sym y.2) (any_in (λ (other : TokenId). same_id other i) g.ids i j (id_same i i refl))))
    ]

    says : (stance : Stance script.roster old.host past s) (v : ServerId) (b : Body) → SaysRevoked old l r made v b
        → MaySay script.roster old.host past s stance v 0 b
    says stance v b (BackReturned w at ok file) = (
      record {
        place = λ i. record { server = at i; moves = 0 };
        file = λ t h i. file t (standing.of_hand script m past s learnt t h) i;
      },
      λ i j. let o = ok i j in record {
        from = inr (r, about, o.0);
        free = λ g mk k. elim mk [
          | inl y ↦ absurd (o.1.ungiven g y k)
          | inr y ↦ inr (unnamed_known i g o.1.unnamed y k)
        ];
        idle = λ u. o.1.idle (used_here i u);
      },
    )
    says stance v b (BackKept w at ok file) = (
      record {
        place = λ i. record { server = at i; moves = 0 };
        file = λ t h i. file t (standing.of_hand script m past s learnt t h) i;
      },
      λ i j. let o = ok i j in
          let h : Held = o.1.0 in
          let u = here_used i (h, o.1.1, o.1.2, o.1.3) in (
            (
              h.token,
              (
                standing.hand_of script m past s learnt h.token (keeping.were h.token o.1.4),
                (keeping.stay h.token o.1.4).1,
              ),
              o.1.2,
            ),
            (
              u.0,
              inr (
                u.1,
                (λ e. elim e.1 [ ]),
                λ g k gives_it. (keeping.stay h.token o.1.4).0
                    (inl (g, k, subst (λ (z : TokenId). In z g.ids) (u.2 ∙ sym o.1.2) gives_it.3)),
              ),
              u.2,
            ),
            (r, about, o.0),
          ),
    )
    says stance v b (BackGiven g one at) =
        let o = first_out l.gives (s ∷ past) after g one in
        record {
          made = o.made;
          place = λ i. record { server = at i; moves = 0 };
          first = λ k mk same less. elim (after.all k mk) [
            | inl q ↦ q
            | inr y ↦ absurd (one.least y.0 k y.1 y.2 same less)
          ];
        }

    cause : CauseMay script old.host past s
    cause = record {
      live = stands.live;
      takes = λ t i. elim i [ ];
      takes_all = record { all = λ w t u. absurd (none_used w u.0); once = λ t u i. elim i [ ] };
      new_gives = λ g o fresh going. due g (out_first l.gives (s ∷ past) after g o)
          (λ f. fresh (first_out old.gives past stands.gives g f));
      lines = record {
        next = λ n x. absurd (cc);
        free = λ n x. absurd (cc);
        begins = λ k call b. absurd (elim b [ inl e ↦ absurd (cc) | inr y ↦ elim y.1 [ ] ]);
        no_server = (λ n x. cc, λ x. cc);
        applies_none = (refl, refl, refl);
        after = λ x. absurd (cc);
        implied = λ k call x. absurd (cc);
      };
    }

    stuck : (k : ℕ) (call : Call) → HasCall past s k call → CanReply m call → ⊥
    stuck k call t can = rests.rest.stuck (record { k = k; call = call }) (going k call t)
        (record { covered = can.covered; reply = can.reply; settled = can.settled })

    -- with what is known of servers and asked then
    module _ (sites : List Site) (request : Option Request) (fetched : List Fetched) (changed : List Changed)
        (kept : KeepsSites old sites) (no_bye : (v : ServerId) → HasSaid past v Bye → ⊥)
        (greeted : (w : ServerId) → ((site_at sites w).greeted ≡ true)
        ↔ (((site_at old.sites w).greeted ≡ true) ⊎ Says s w Hello))
        (requests : RequestStands request (s ∷ past) × NumbersStand fetched changed (s ∷ past))
        (may_own : (stance : Stance script.roster old.host past s) → stance.kept ≡ tokens_of l.cache.held
        → stance.held ≡ held_of old → stance.own ≡ own_of old → stance.user ≡ old.user → (y : Message) → In y own
        → MaySend script.roster old.host past s stance y)
        (asks : (stance : Stance script.roster old.host past s) → stance.kept ≡ tokens_of l.cache.held
        → stance.held ≡ held_of old → stance.own ≡ own_of old → stance.user ≡ old.user
        → AsksNow script.roster old.host past s stance) where
      abbrev pub x : Moved
      x = record {
        sites = sites;
        request = request;
        fetched = fetched;
        changed = changed;
        lost = lost;
        call = old.call;
        begun = old.begun;
      }

      moves_right : MovesRight m x past s
      moves_right = record {
        site_epoch = kept.epoch;
        site_welcome = kept.welcome;
        site_has_bye = kept.has_bye;
        site_greeted = greeted;
        site_said_bye = λ v. (
          (λ e. inl (sym (kept.said_bye v) ∙ e)),
          λ z. elim z [ inl e ↦ kept.said_bye v ∙ e | inr p ↦ absurd (told v p.0 p.1 Bye p.2) ],
        );
        site_claimed = λ v. (
          (λ e. inl (sym (kept.claimed v) ∙ e)),
          λ z. elim z [ inl e ↦ kept.claimed v ∙ e | inr p ↦ absurd (told v p.0 p.1 (Reclaim p.2) p.3) ],
        );
        claims_apart = λ v a p. absurd (told v p.0 p.1 (Reclaim p.2) p.3);
        request = requests.0;
        numbers = requests.1;
        call_from = λ d e. inr e;
        call_asked = λ d e. absurd (cc);
        call_stays = λ d e. e;
        begun = let b = stands.call.begun in omega (arith, b);
        lost = loses;
        parted = λ v b. absurd (none_parted v b);
      }
        where
          none_parted : (v : ServerId) → HasSaid (s ∷ past) v Bye → ⊥
          none_parted v (e, n, inl p) = told v e n Bye p
          none_parted v (e, n, inr p) = no_bye v (e, n, p)

      may : (stance : Stance script.roster old.host past s) → stance.kept ≡ tokens_of l.cache.held
          → stance.held ≡ held_of old → stance.own ≡ own_of old → stance.user ≡ old.user → (y : Message) → In y sent
          → MaySend script.roster old.host past s stance y
      may stance k h o u y i = elim (said y i) [
        | inr j ↦ may_own stance k h o u y j
        | inl q ↦ record {
          epoch_is = q.0 ∙ (learnt.sites y.server).epoch;
          says = subst (λ (n : ℕ). MaySay script.roster old.host past s stance y.server n y.body) (sym q.1)
              (says stance y.server y.body q.2);
        }
      ]

      pub asks_step : IsAtRest (with_moved (with_left m l) x) (s ∷ past)
          → StepRight script old (with_moved (with_left m l) x) past s
      asks_step rest = leaving_right script old m l x past s refl stands.dirty.under learnt silent leaves keeping gives
          moves_right stuck cause may_leave (λ stance k h o u. (may stance k h o u, asks stance k h o u)) rest
