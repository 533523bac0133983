-- Whole steps in which tokens leave.
use Rattle.base_types.specs.declared.ids.FilesetId.{FilesetId}
use Rattle.base_types.specs.declared.ids.HostId.{HostId}
use Rattle.base_types.specs.declared.ids.Node.TheVariants.{Host}
use Rattle.base_types.specs.declared.ids.ServerId.{ServerId}
use Rattle.host_cache.specs.Holding.{tokens_of}
use Rattle.host_cache.specs.declared.held.Held.{Held}
use Rattle.host_gives.specs.Counters.{last_of}
use Rattle.host_gives.specs.Giving.{given_in, names}
use Rattle.host_tables.proofs.LeavingSteps.{leaving_settles}
use Rattle.host_tables.proofs.Letting.{leaves_may}
use Rattle.host_tables.proofs.Lists.{any_false, any_in, id_same, map_in}
use Rattle.host_tables.proofs.Moving.{request_moves_right}
use Rattle.host_tables.proofs.QuietStep.{one_change, one_fetch, one_of_both}
use Rattle.host_tables.proofs.Settling.{settles_right}
use Rattle.host_tables.specs.Causes.{CauseMay}
use Rattle.host_tables.specs.Giving.{GivesBack}
use Rattle.host_tables.specs.Half.{half}
use Rattle.host_tables.specs.Learning.{IsOwnCause, TeachesNothing}
use Rattle.host_tables.specs.LeavingSteps.{IsSilent, LeavesRight, Left, with_left}
use Rattle.host_tables.specs.LeavingWhole.{GivesAfter, IsIdleHere, LeavingRight, OwnLeavesRight, OwnReason, SaysLeft}
use Rattle.host_tables.specs.LeavingWhole.{leaves_own}
use Rattle.host_tables.specs.LeavingWhole.OwnReason.{ToEnd, ToEvict}
use Rattle.host_tables.specs.LeavingWhole.SaysLeft.{OfGiven, OfReturned}
use Rattle.host_tables.specs.Letting.{Keeping}
use Rattle.host_tables.specs.Machine.{Rests, StepRight}
use Rattle.host_tables.specs.Moving.{IsNoRequest}
use Rattle.host_tables.specs.Quiet.{MovesRight, with_moved}
use Rattle.host_tables.specs.Saying.{IsFirst}
use Rattle.host_tables.specs.Sending.{LinesMay, MayReturn, MaySay, MaySend}
use Rattle.host_tables.specs.Stands.{GivesStand, NumbersStand, RequestStands, Stands}
use Rattle.host_tables.specs.Tables.{site_at}
use Rattle.host_tables.specs.WholeSteps.{moved_of}
use Rattle.host_tables.specs.declared.tables.Tables.{Tables}
use Rattle.message_types.specs.declared.giving.AppliedGive.{AppliedGive}
use Rattle.message_types.specs.declared.giving.Ends.{Ends}
use Rattle.message_types.specs.declared.giving.Give.{Give}
use Rattle.message_types.specs.declared.message.Body.{Body}
use Rattle.message_types.specs.declared.message.Body.TheVariants.{Bye, Change, Done, Down, Fetch, GiveBack, Gone}
use Rattle.message_types.specs.declared.message.Body.TheVariants.{Grant, Hello, Kept as KeptBody, NotHere, Reclaim}
use Rattle.message_types.specs.declared.message.Body.TheVariants.{Reclaimed, Restarted, Returned, Revoke, Ship}
use Rattle.message_types.specs.declared.message.Body.TheVariants.{Shipped}
use Rattle.message_types.specs.declared.message.Message.{Message}
use Rattle.run_rules.specs.HostMay.{HostMay}
use Rattle.run_rules.specs.HostTokens.{MayLeave}
use Rattle.run_rules.specs.Messages.{HasSaid, Sends, SendsTo, stay_of}
use Rattle.run_rules.specs.Past.{In}
use Rattle.run_rules.specs.Steps.{limit_of, lines_of, servers_of}
use Rattle.run_rules.specs.Tokens.{HasCall, IsKnown, IsOpen, Made, NoneOpen, TokenInUse, number_of}
use Rattle.run_rules.specs.Views.{Stance}
use Rattle.run_rules.specs.declared.applied.Leave.{Leave}
use Rattle.run_rules.specs.declared.applied.Why.{Why}
use Rattle.run_rules.specs.declared.step.Asked.{Asked}
use Rattle.run_rules.specs.declared.step.Cause.{Cause}
use Rattle.run_rules.specs.declared.step.Step.{Step}
use Rattle.script_lines.specs.declared.script.Script.{Script}
use Rattle.std.proofs.Common.{List, None, Some, ap, arith, false, inl, inr, refl, subst, sym, true, ℕ, ◌∙◌, ◌∷◌, ◌≡◌}
use Rattle.std.proofs.Common.{◌≤◌}
use Rattle.std.specs.List.{list_any}
use Rattle.std.specs.Option.{option_map_or}
use Rattle.token_types.specs.Conflicts.{same_id}
use Rattle.token_types.specs.declared.token.TokenId.{TokenId}
use Rattle.tree_calls.specs.declared.call.Call.{Call}
use Rattle.host_tables.proofs.Giving as giving_of
use Rattle.host_tables.proofs.Learning as learning_of
use Rattle.host_tables.proofs.LeavingSteps as leaving_of
use Rattle.host_tables.proofs.Saying as saying_of
use Rattle.host_tables.proofs.Standing as standing

pub leaving_right : LeavingRight
leaving_right script old m l x past s same under learnt silent right keeping gives moves stuck cause leaves sending
    rest =
    let done : HostMay script m.host past s = leaves_may script m past s learnt (tokens_of l.cache.held) keeping gives
    (record { answers = silent.answers; wrote = silent.wrote; begun = silent.begun; stuck = stuck }) cause leaves
    (λ stance k h o u. let r = sending stance k h o u in record {
      may = r.0;
      asks = r.1;
      one_fetch = one_fetch x.request (s ∷ past) moves.request;
      one_change = one_change x.request (s ∷ past) moves.request;
      one_of_both = one_of_both x.request (s ∷ past) moves.request;
    }) in
    record {
      may = subst (λ (h : HostId). HostMay script h past s) (sym same) done;
      rests = record {
        stands = settles_right script m (with_moved (with_left m l) x) past s learnt done
            (leaving_settles script m l x past s learnt done under silent right keeping gives moves);
        rest = rest;
      };
    }

module _ (script : Script) (m : Tables) (l : Left) (past : List Step) (s : Step)
    (learnt : Stands script m (half s ∷ past))
    (right : LeavesRight m l past s) (gives : GivesBack m past s (tokens_of l.cache.held)) where
  -- what is made now isn't known
  pub unknown : (g : Give) → In g s.made → IsKnown (s ∷ past) g → ⊥
  unknown g i k =
      let r : (y : Give) × Made past y × (number_of y ≡ number_of g) =
      elim k [ inl e ↦ e.0 | inr e ↦ leaving_of.known_made past (number_of g) e ] in
      let same : r.0.fid.fileset ≡ g.fid.fileset = ap (λ (n : AppliedGive). n.fileset) r.2 in
      let number : r.0.number ≡ g.number = ap (λ (n : AppliedGive). n.number) r.2 in
      let low : r.0.number ≤ last_of m.gives.counters g.fid.fileset =
      subst (λ (f : FilesetId). r.0.number ≤ last_of m.gives.counters f) same (learnt.gives.last r.0 (inr r.1)) in
      let up = gives.above g i in omega (arith, number, low, up)

  made_past : (g : Give) → Made (half s ∷ past) g → Made past g
  made_past g (inl i) = elim i [ ]
  made_past g (inr i) = i

  -- a number that is new isn't one of before
  number_new : (g k : Give) → In g s.made → Made past k → number_of g ≡ number_of k → ⊥
  number_new g k i j e =
      let at : k.fid.fileset ≡ g.fid.fileset = ap (λ (n : AppliedGive). n.fileset) (sym e) in
      let n : g.number ≡ k.number = ap (λ (n : AppliedGive). n.number) e in
      let low : k.number ≤ last_of m.gives.counters g.fid.fileset =
      subst (λ (f : FilesetId). k.number ≤ last_of m.gives.counters f) at (learnt.gives.last k (inr j)) in
      let up = gives.above g i in omega (arith, n, low, up)

  pub gives_after : GivesStand l.gives (s ∷ past)
  gives_after = record {
    made = λ y i. elim (right.gives_from y i) [
      | inl j ↦ (let r = learnt.gives.made y j in (r.0, r.1, inr (made_past r.0 r.2), r.3))
      | inr g ↦ (g.0, g.1, inl g.2, unknown g.0 g.2)
    ];
    all = λ g i. elim i [
      | inl j ↦ inr (right.gives_new g j)
      | inr j ↦ elim (learnt.gives.all g (inr j)) [ inl k ↦ inl k | inr y ↦ inr (y.0, right.gives_old y.0 y.1, y.2) ]
    ];
    one = λ g k a b e. elim a [
      | inl i ↦ elim b [ inl j ↦ gives.apart g k i j e | inr j ↦ absurd (number_new g k i j e) ]
      | inr i ↦ elim b [ inl j ↦ absurd (number_new k g j i (sym e)) | inr j ↦ learnt.gives.one g k (inr i) (inr j) e ]
    ];
    last = λ g i. elim i [
      | inl j ↦ right.last_new g j
      | inr j ↦ (let a = learnt.gives.last g (inr j) in let b = right.last_up g.fid.fileset in omega (arith, a, b))
    ];
    counted = λ fs. elim (right.last_is fs) [
      | inl e ↦ elim (learnt.gives.counted fs) [
        | inl z ↦ inl (e ∙ z)
        | inr r ↦ inr (r.0, inr (made_past r.0 r.1), r.2, r.3 ∙ sym e)
      ]
      | inr r ↦ inr (r.0, inl r.1, r.2, r.3)
    ];
  }

pub gives_after_right : GivesAfter
gives_after_right script m l past s learnt right gives = gives_after script m l past s learnt right gives

-- # With no call open

module _ (script : Script) (m : Tables) (l : Left) (past : List Step) (cause : Cause) (made : List Give)
    (dropped : List Leave) (sent : List Message) (rests : Rests script m past) (free : m.call ≡ None)
    (reason : OwnReason script m past dropped cause)
    (right : LeavesRight m l past (leaves_own m.host cause made dropped sent))
    (keeping : Keeping m past (leaves_own m.host cause made dropped sent) (tokens_of l.cache.held))
    (gives : GivesBack m past (leaves_own m.host cause made dropped sent) (tokens_of l.cache.held))
    (no_ends : (g : Give) (ends : Ends) → In g made → g.ends ≡ Some ends → ⊥)
    (said : (y : Message) → In y sent → (y.epoch ≡ (site_at m.sites y.server).epoch) × (y.moves ≡ 0)
    × SaysLeft m l (leaves_own m.host cause made dropped sent) y.server y.body)
    (due : (g : Give) → IsFirst l.gives g → (IsFirst m.gives g → ⊥)
    → SendsTo (leaves_own m.host cause made dropped sent) (stay_of (leaves_own m.host cause made dropped sent ∷ past)
    g.fid.fileset) (GiveBack g))
    (no_bye : (v : ServerId) → (site_at m.sites v).said_bye ≡ true → ⊥) where
  abbrev s : Step
  s = leaves_own m.host cause made dropped sent

  stands : Stands script m past
  stands = rests.stands

  own : IsOwnCause cause
  own = by_reason cause reason
    where
      by_reason : (c : Cause) → OwnReason script m past dropped c → IsOwnCause c
      by_reason c (ToEvict why) = tt
      by_reason c (ToEnd gone few unused why) = tt

  teaches : TeachesNothing past s
  teaches = learning_of.teaches_nothing past s own

  learnt : Stands script m (half s ∷ past)
  learnt = learning_of.unmoved m.host cause past (learning_of.teaches_nothing past (half s) own) script m refl stands

  not_open : (d : Asked) → m.call ≡ Some d → ⊥
  not_open d e = let p = sym free ∙ e in absurd (cc)

  none_open : NoneOpen past
  none_open d o = not_open d (stands.call.asked d o)

  idle : m.request ≡ None
  idle = rests.rest.alone free

  no_turn : (k : ℕ) (call : Call) → HasCall past s k call → ⊥
  no_turn k call (inl (inl e)) = absurd (cc)
  no_turn k call (inl (inr b)) = elim b.1 [ ]
  no_turn k call (inr g) = none_open _ g.0

  after : GivesStand l.gives (s ∷ past)
  after = gives_after script m l past s learnt right gives

  -- what is said
  said_is : (v : ServerId) (e n : ℕ) (b : Body) → Sends s v e n b → SaysLeft m l s v b
  said_is v e n b p = subst (λ (q : ServerId × Body). SaysLeft m l s q.0 q.1) (λ i. (p.2 i, p.5 i)) (said p.0 p.1).2

  abbrev IsLeft : Body → Type 0
  IsLeft (Returned w) = Unit {0}
  IsLeft (GiveBack g) = Unit {0}
  IsLeft _ = ⊥

  is_left : (v : ServerId) (b : Body) → SaysLeft m l s v b → IsLeft b
  is_left v b (OfReturned w at ids file) = tt
  is_left v b (OfGiven g first at) = tt

  left_is : (v : ServerId) (e n : ℕ) (b : Body) → Sends s v e n b → IsLeft b
  left_is v e n b p = is_left v b (said_is v e n b p)

  silent : IsSilent s
  silent = record { answers = refl; wrote = refl; begun = refl; no_stop = λ k. left_is k.0 k.1 k.2 Down k.3 }

  no_request : (b : Body) → IsLeft b → IsNoRequest b
  no_request (Returned w) i = tt
  no_request (GiveBack g) i = tt
  no_request (Fetch f) i = i
  no_request (Change c) i = i
  no_request Hello i = tt
  no_request (Grant g) i = tt
  no_request (Done d) i = tt
  no_request (Revoke r) i = tt
  no_request (KeptBody w) i = tt
  no_request (Gone n) i = tt
  no_request (Reclaim c) i = tt
  no_request (Reclaimed a) i = tt
  no_request Restarted i = tt
  no_request Down i = tt
  no_request Bye i = tt
  no_request (NotHere n) i = tt
  no_request (Ship k) i = tt
  no_request (Shipped k) i = tt

  requests : RequestStands m.request (s ∷ past) × NumbersStand m.fetched m.changed (s ∷ past)
  requests = request_moves_right script m past s learnt
      (record { only = λ y i. inl (no_request y.body (is_left y.server y.body (said y i).2)) })

  no_bye_said : (v : ServerId) → HasSaid (s ∷ past) v Bye → ⊥
  no_bye_said v (e, n, inl p) = left_is v e n Bye p
  no_bye_said v (e, n, inr p) = no_bye v ((stands.sites v).said_bye.1 (e, n, p))

  moves : MovesRight m (moved_of m) past s
  moves = record {
    site_epoch = λ v. refl;
    site_welcome = λ v. refl;
    site_has_bye = λ v. refl;
    site_greeted = λ v. ((λ e. inl e), λ z. elim z [ inl e ↦ e | inr p ↦ absurd (left_is v p.0 p.1 Hello p.2) ]);
    site_said_bye = λ v. ((λ e. inl e), λ z. elim z [ inl e ↦ e | inr p ↦ absurd (left_is v p.0 p.1 Bye p.2) ]);
    site_claimed = λ v. (
      (λ e. inl e),
      λ z. elim z [
        | inl e ↦ e
        | inr p ↦ absurd (left_is v p.0 p.1 (Reclaim p.2) p.3)
      ],
    );
    claims_apart = λ v a p. absurd (left_is v p.0 p.1 (Reclaim p.2) p.3);
    request = requests.0;
    numbers = requests.1;
    call_from = λ c e. inr e;
    call_asked = λ c e. absurd (cc);
    call_stays = λ c e. e;
    begun = let b = stands.call.begun in omega (arith, b);
    lost = λ c e. absurd (not_open c e);
    parted = λ v b. absurd (no_bye_said v b);
  }

  cause_may : CauseMay script m.host past s
  cause_may = record {
    live = stands.live;
    takes = λ t i. elim i [ ];
    takes_all = record { all = λ w t u. absurd (teaches.none_used w u.0); once = λ t u i. elim i [ ] };
    new_gives = λ g o fresh going. due g (saying_of.out_first l.gives (s ∷ past) after g o)
        (λ f. fresh (saying_of.first_out m.gives past stands.gives g f));
    lines = by_reason cause reason refl;
  }
    where
      by_reason : (c : Cause) → OwnReason script m past dropped c → cause ≡ c
          → LinesMay (lines_of script (Host m.host)) (limit_of script.roster m.host) (servers_of script.roster) past s
      by_reason c (ToEvict why) same = record {
        next = λ n e. absurd (let p = sym same ∙ e in cc);
        free = λ n e. absurd (let p = sym same ∙ e in cc);
        begins = λ k call b. absurd (no_turn k call (inl b));
        no_server = ((λ n e. let p = sym same ∙ e in cc), λ e. let p = sym same ∙ e in cc);
        applies_none = (refl, refl, refl);
        after = λ e. absurd (let p = sym same ∙ e in cc);
        implied = λ k call e b. absurd (no_turn k call (inl b));
      }
      by_reason c (ToEnd gone few unused why) same = record {
        next = λ n e. absurd (let p = sym same ∙ e in cc);
        free = λ n e. absurd (let p = sym same ∙ e in cc);
        begins = λ k call b. absurd (no_turn k call (inl b));
        no_server = ((λ n e. let p = sym same ∙ e in cc), λ e. let p = sym same ∙ e in cc);
        applies_none = (refl, refl, refl);
        after = λ e. (gone, none_open, few);
        implied = λ k call e b. absurd (no_turn k call (inl b));
      }

  leaves : (d : Leave) → In d dropped → MayLeave script.roster m.host (limit_of script.roster m.host) past s d.why
      d.token
  leaves d i = by_reason cause reason refl
    where
      by_reason : (c : Cause) → OwnReason script m past dropped c → cause ≡ c
          → MayLeave script.roster m.host (limit_of script.roster m.host) past s d.why d.token
      by_reason c (ToEvict why) same = let w = why d i in
          subst (λ (y : Why). MayLeave script.roster m.host (limit_of script.roster m.host) past s y d.token) (sym w.0)
          (same, w.1, w.2, w.3)
      by_reason c (ToEnd gone few unused why) same =
          subst (λ (y : Why). MayLeave script.roster m.host (limit_of script.roster m.host) past s y d.token)
          (sym (why d i))
          (same, unused)

  -- what is returned is idle, and in no give-back
  may_return : (i : TokenId) → IsIdleHere m i → list_any (names i) m.gives.gives ≡ false
      → ((g : Give) → In g made → In i g.ids → ⊥) → MayReturn past s i
  may_return i here unnamed ungiven = record {
    from = inl (
      here.0.token,
      standing.hand_of script m past s learnt here.0.token
          (map_in (λ (h : Held). h.token) m.cache.held here.0 here.1),
      here.2,
    );
    free = λ g mk j. elim mk [
      | inl k ↦ absurd (ungiven g k j)
      | inr k ↦ elim (stands.gives.all g k) [
        | inl q ↦ inr q
        | inr y ↦ absurd (any_false (names i) m.gives.gives unnamed y.0 y.1
            (subst (λ (b : Body). option_map_or (λ (give : Give). list_any (λ other. same_id other i) give.ids)
            (given_in b) false ≡ true)
            (sym y.2) (any_in (λ (other : TokenId). same_id other i) g.ids i j (id_same i i refl))))
      ]
    ];
    idle = λ u. stands.cache.unmarked here.0 here.1 here.3 (subst (TokenInUse past) (sym here.2) u);
  }

  says : (stance : Stance script.roster m.host past s) (v : ServerId) (b : Body) → SaysLeft m l s v b
      → MaySay script.roster m.host past s stance v 0 b
  says stance v b (OfReturned w at ids file) = (
    record {
      place = λ i. record { server = at i; moves = 0 };
      file = λ t h i. file t (standing.of_hand script m past s learnt t h) i;
    },
    λ i j. let r = ids i j in may_return i r.0 r.1 r.2,
  )
  says stance v b (OfGiven g first at) =
      let o = saying_of.first_out l.gives (s ∷ past) after g first in
      record {
        made = o.made;
        place = λ i. record { server = at i; moves = 0 };
        first = λ k mk same less. elim (after.all k mk) [
          | inl q ↦ q
          | inr y ↦ absurd (first.least y.0 k y.1 y.2 same less)
        ];
      }

  may : (stance : Stance script.roster m.host past s) (y : Message) → In y sent
      → MaySend script.roster m.host past s stance y
  may stance y i = let r = said y i in record {
    epoch_is = r.0 ∙ (learnt.sites y.server).epoch;
    says = subst (λ (n : ℕ). MaySay script.roster m.host past s stance y.server n y.body) (sym r.1)
        (says stance y.server y.body r.2);
  }

  none_open_after : (c : Asked) → IsOpen (s ∷ past) c → ⊥
  none_open_after c (inl e) = absurd (cc)
  none_open_after c (inr o) = none_open c o.0

  pub left_right : StepRight script m (with_left m l) past s
  left_right = leaving_right script m m l (moved_of m) past s refl stands.dirty.under learnt silent right keeping gives
      moves
      (λ k call t can. no_turn k call t) cause_may leaves
      (λ stance k h o u. (may stance, λ c z. absurd (none_open_after c z)))
      (record {
        stuck = λ c e. absurd (not_open c e);
        synced = λ c place fid t e. absurd (not_open c e);
        freed = λ c u e. absurd (not_open c e);
        waits = λ c e. absurd (not_open c e);
        alone = rests.rest.alone;
      })

pub own_leaves_right : OwnLeavesRight
own_leaves_right script m l past cause made dropped sent rests free reason right keeping gives no_ends said due no_bye =
    left_right script m l past cause made dropped sent rests free reason right keeping gives no_ends said due no_bye
