-- A step in which tokens leave in give-backs for a call whose turn it is, which is left open, is right.
use Rattle.base_types.specs.declared.ids.Fid.{Fid}
use Rattle.base_types.specs.declared.ids.FilesetId.{FilesetId}
use Rattle.base_types.specs.declared.ids.ServerId.{ServerId}
use Rattle.base_types.specs.declared.user.User.{User}
use Rattle.host_cache.specs.Holding.{tokens_of}
use Rattle.host_manager.proofs.Turns.{HasTurn, IsTurn}
use Rattle.host_tables.proofs.LeavingWhole.{leaving_right}
use Rattle.host_tables.proofs.Lists.{true_false}
use Rattle.host_tables.proofs.Moving.{request_moves_right}
use Rattle.host_tables.proofs.Saying.{first_out, out_first}
use Rattle.host_tables.specs.CallGives.{LeavesFor}
use Rattle.host_tables.specs.CallGives.LeavesFor.{ForEnd, ForSync}
use Rattle.host_tables.specs.Causes.{CauseMay}
use Rattle.host_tables.specs.Drafts.{no_draft}
use Rattle.host_tables.specs.Giving.{GivesBack}
use Rattle.host_tables.specs.Half.{half, learning}
use Rattle.host_tables.specs.LeavingSteps.{IsSilent, LeavesRight, Left, with_left}
use Rattle.host_tables.specs.Letting.{IsAsked, Keeping}
use Rattle.host_tables.specs.Machine.{StepRight}
use Rattle.host_tables.specs.Moving.{IsNoRequest}
use Rattle.host_tables.specs.Quiet.{Moved, MovesRight, with_moved}
use Rattle.host_tables.specs.Saying.{IsFirst}
use Rattle.host_tables.specs.Sending.{MayGive, MaySay, MaySend}
use Rattle.host_tables.specs.Stands.{CanReply, Finds, GivesStand, IsAtRest, IsCoveredFrom, IsDirtyFrom, NumbersStand}
use Rattle.host_tables.specs.Stands.{RequestStands, Stands, verdict_from}
use Rattle.host_tables.specs.Tables.{content, held_of, is_length_clean, own_of, site_at}
use Rattle.host_tables.specs.WholeSteps.{moved_of}
use Rattle.host_tables.specs.declared.draft.Draft.{Draft}
use Rattle.host_tables.specs.declared.tables.Tables.{Tables}
use Rattle.message_types.specs.declared.giving.Give.{Give}
use Rattle.message_types.specs.declared.message.Body.{Body}
use Rattle.message_types.specs.declared.message.Body.TheVariants.{Bye, Down, GiveBack, Hello, Reclaim}
use Rattle.message_types.specs.declared.message.Message.{Message}
use Rattle.need_host.proofs.Looking.{covered_alike, outcome_alike}
use Rattle.need_host.specs.Calls.{Own, call_look, reply_now}
use Rattle.need_host.specs.Calls.Verdict.{Gives}
use Rattle.need_host.specs.Looks.{outcome}
use Rattle.need_host.specs.Walks.{file_look, root_of}
use Rattle.run_rules.specs.HostAsks.{HasLost, LosesStatus}
use Rattle.run_rules.specs.HostTokens.{MayLeave}
use Rattle.run_rules.specs.Messages.{HasSaid, Sends, SendsTo, home, stay_of}
use Rattle.run_rules.specs.Past.{In}
use Rattle.run_rules.specs.Steps.{limit_of}
use Rattle.run_rules.specs.Tokens.{BeginsCall, HasCall, Held as HeldBy, IsOpen, calls_begun}
use Rattle.run_rules.specs.Views.{FindsFile, IsDirtyUnder, Stance, sees, verdict_in}
use Rattle.run_rules.specs.declared.applied.Leave.{Leave}
use Rattle.run_rules.specs.declared.applied.Why.{Why}
use Rattle.run_rules.specs.declared.applied.Why.TheVariants.{ForCall, Revoked}
use Rattle.run_rules.specs.declared.step.Asked.{Asked}
use Rattle.run_rules.specs.declared.step.Cause.{Cause}
use Rattle.run_rules.specs.declared.step.Step.{Step}
use Rattle.script_lines.specs.declared.script.Script.{Script}
use Rattle.std.proofs.Common.{Bool, List, None, Some, [], ap, arith, false, if◌then◌else◌, inl, inr, is_some, refl}
use Rattle.std.proofs.Common.{subst, sym, true, ℕ, ◌+◌, ◌↔◌, ◌∙◌, ◌∷◌, ◌≡◌, ◌⊎◌}
use Rattle.token_types.specs.declared.token.Token.{Token}
use Rattle.tree_calls.specs.declared.call.Call.{Call}
use Rattle.tree_calls.specs.declared.place.Place.{Place as NamedPlace}
use Rattle.host_manager.proofs.Turns as turns
use Rattle.host_tables.proofs.Answered as answered
use Rattle.host_tables.proofs.LeavingWhole as leaving_of
use Rattle.host_tables.proofs.Standing as standing

module _ (script : Script) (old m : Tables) (past : List Step) (cause : Cause) (came : List Token)
    (dues : List FilesetId) (c : Asked) (first : Bool) (turn : IsTurn script old m past cause came dues c first)
    (l : Left) (made : List Give) (dropped : List Leave) (sent : List Message) where
  abbrev h : Step
  h = learning m.host cause came

  abbrev pub d_g : Draft
  d_g = record no_draft {
    asked = if first then Some c else None;
    taken = came;
    made = made;
    dropped = dropped;
    sent = sent;
  }

  abbrev pub s : Step
  s = turns.by script old m past cause came dues c first turn d_g

  abbrev call : Call
  call = c.call

  -- what it makes of calls
  abbrev pub moved : Moved
  moved = record (moved_of m) {
    call = Some c;
    begun = if first then m.begun + 1 else m.begun;
    lost = if first then [] else m.lost;
  }

  pub learnt : Stands script m (half s ∷ past)
  learnt = turn.learnt

  turn_at : (b : Bool) → first ≡ b → HasTurn m c b
  turn_at b e = subst (HasTurn m c) e turn.turn

  begins : turns.BeginsTurn script old m past cause came dues c first turn d_g
  begins = record {
    only = λ k other b. elim b [ inl e ↦ by_first first refl k other e | inr a ↦ elim a.1 [ ] ];
    there = λ e. inl (ap (λ (b : Bool). if b then Some c else None) e);
  }
    where
      by_first : (b : Bool) → first ≡ b → (k : ℕ) (other : Call)
          → (if first then Some c else None) ≡ Some (record { k = k; call = other })
          → (first ≡ true) × (k ≡ c.k) × (other ≡ c.call)
      by_first true f k other e =
          let p : Some c ≡ Some (record { k = k; call = other }) =
          sym (ap (λ (b : Bool). if b then Some c else None) f) ∙ e in
          let q : c ≡ record { k = k; call = other } = cc in
          (f, sym (ap (λ (a : Asked). a.k) q), sym (ap (λ (a : Asked). a.call) q))
      by_first false f k other e =
          let p : None ≡ Some (record { k = k; call = other }) =
          sym (ap (λ (b : Bool). if b then Some c else None) f) ∙ e in absurd (cc)

  pub is_open : IsOpen (s ∷ past) c
  is_open = by_first first refl
    where
      by_first : (b : Bool) → first ≡ b → IsOpen (s ∷ past) c
      by_first true e = inl (ap (λ (b : Bool). if b then Some c else None) e)
      by_first false e =
          let g = turns.goes_on script old m past cause came dues c first turn e in inr (g.0, g.1, λ a i. elim i [ ])

  turn_it : HasCall past s c.k c.call
  turn_it = turns.has_it script old m past cause came dues c first turn d_g begins

  turn_is : (k : ℕ) (other : Call) → HasCall past s k other → call ≡ other
  turn_is k other t = sym (turns.only_it script old m past cause came dues c first turn d_g begins k other t).1

  only_open : (d : Asked) → IsOpen (s ∷ past) d → call ≡ d.call
  only_open d (inl e) = turn_is d.k d.call (inl (inl e))
  only_open d (inr o) = turn_is d.k d.call (inr (o.0, o.1))

  -- # What it owes
  module _ (covered : IsCoveredFrom m c.call) (verdict : verdict_from m c.call ≡ Gives) (one : Give)
      (one_made : In one made) (why : (d : Leave) → In d dropped → (d.why ≡ ForCall) × LeavesFor m past c.call d.token)
      (right : LeavesRight m l past s) (keeping : Keeping m past s (tokens_of l.cache.held))
      (gives : GivesBack m past s (tokens_of l.cache.held))
      (said : (y : Message) → In y sent → (y.epoch ≡ (site_at m.sites y.server).epoch) × (y.moves ≡ 0)
      × ((k : Give) × IsFirst l.gives k × (home k.fid.fileset ≡ y.server) × (y.body ≡ GiveBack k)))
      (due : (k : Give) → IsFirst l.gives k → (IsFirst old.gives k → ⊥)
      → SendsTo s (stay_of (s ∷ past) k.fid.fileset) (GiveBack k))
      (rest : IsAtRest (with_moved (with_left m l) moved) (s ∷ past)) where
    stuck : (k : ℕ) (other : Call) → HasCall past s k other → CanReply m other → ⊥
    stuck k other t can =
        let e = turn_is k other t in
        let p : None ≡ Some can.reply =
        sym (ap (λ (z : Call). reply_now (verdict_from m z)) (sym e) ∙ ap reply_now verdict) ∙ can.settled in
        absurd (cc)

    after : GivesStand l.gives (s ∷ past)
    after = leaving_of.gives_after script m l past s learnt right gives

    -- what is said
    body_is : (v : ServerId) (e n : ℕ) (b : Body) → Sends s v e n b → (k : Give) × (GiveBack k ≡ b)
    body_is v e n b p = let r = (said p.0 p.1).2 in (r.0, sym r.3 ∙ p.5)

    silent : IsSilent s
    silent = record {
      answers = refl;
      wrote = refl;
      begun = refl;
      no_stop = λ k. let p = (body_is k.0 k.1 k.2 Down k.3).1 in absurd (cc);
    }

    requests : RequestStands m.request (s ∷ past) × NumbersStand m.fetched m.changed (s ∷ past)
    requests = request_moves_right script m past s turn.learnt
        (record { only = λ y i. inl (subst IsNoRequest (sym (said y i).2.3) tt) })

    no_bye_said : (v : ServerId) → HasSaid (s ∷ past) v Bye → ⊥
    no_bye_said v (e, n, inl p) = let q = (body_is v e n Bye p).1 in absurd (cc)
    no_bye_said v (e, n, inr p) = turns.no_bye_said script old m past cause came dues c first turn v (e, n, p)

    moves : MovesRight m moved past s
    moves = record {
      site_epoch = λ v. refl;
      site_welcome = λ v. refl;
      site_has_bye = λ v. refl;
      site_greeted = λ v. (
        (λ e. inl e),
        λ z. elim z [
          | inl e ↦ e
          | inr p ↦ absurd (let q = (body_is v p.0 p.1 Hello p.2).1 in cc)
        ],
      );
      site_said_bye = λ v. (
        (λ e. inl e),
        λ z. elim z [
          | inl e ↦ e
          | inr p ↦ absurd (let q = (body_is v p.0 p.1 Bye p.2).1 in cc)
        ],
      );
      site_claimed = λ v. (
        (λ e. inl e),
        λ z. elim z [
          | inl e ↦ e
          | inr p ↦ absurd (let q = (body_is v p.0 p.1 (Reclaim p.2) p.3).1 in cc)
        ],
      );
      claims_apart = λ v a p. absurd (let q = (body_is v p.0 p.1 (Reclaim p.2) p.3).1 in cc);
      request = requests.0;
      numbers = requests.1;
      call_from = λ d e. from_call first refl d e;
      call_asked = λ d e. is_asked first refl d e;
      call_stays = λ d e. stays_open first refl d e;
      begun = begun_is first;
      lost = λ d e fid. lost_is fid;
      parted = λ v b. absurd (no_bye_said v b);
    }
      where
        from_call : (b : Bool) → first ≡ b → (d : Asked) → Some c ≡ Some d
            → ((if first then Some c else None) ≡ Some d) ⊎ (m.call ≡ Some d)
        from_call true f d e = inl (ap (λ (b : Bool). if b then Some c else None) f ∙ e)
        from_call false f d e = inr (turn_at false f ∙ e)

        is_asked : (b : Bool) → first ≡ b → (d : Asked) → (if first then Some c else None) ≡ Some d
            → Some c ≡ Some d
        is_asked true f d e = sym (ap (λ (b : Bool). if b then Some c else None) f) ∙ e
        is_asked false f d e =
            let p : None ≡ Some d = sym (ap (λ (b : Bool). if b then Some c else None) f) ∙ e in absurd (cc)

        stays_open : (b : Bool) → first ≡ b → (d : Asked) → m.call ≡ Some d → Some c ≡ Some d
        stays_open true f d e = let p = sym (turn_at true f).0 ∙ e in absurd (cc)
        stays_open false f d e = sym (turn_at false f) ∙ e

        begun_is : (b : Bool) → (if b then m.begun + 1 else m.begun)
            ≡ (if is_some (if b then Some c else None) then 1 else 0) + calls_begun past
        begun_is true = let b = turn.learnt.call.begun in omega (arith, b)
        begun_is false = let b = turn.learnt.call.begun in omega (arith, b)

        none_lost : (fid : Fid) → LosesStatus past s fid → ⊥
        none_lost fid x = by_token x.0.0 x.0.1
          where
            by_token : (t : Token) → In (record { token = t; why = Revoked }) dropped → ⊥
            by_token t i = let w = (why (record { token = t; why = Revoked }) i).0 in absurd (cc)

        lost_half : first ≡ false → (fid : Fid) → HasLost (h ∷ past) fid ↔ HasLost (s ∷ past) fid
        lost_half e fid = (
          (λ x. elim x [ inl k ↦ elim k.0.1 [ ] | inr k ↦ inr (k.0, begins_none) ]),
          λ x. elim x [ inl k ↦ absurd (none_lost fid k) | inr k ↦ inr (k.0, no_begin) ],
        )
          where
            begins_none : ((k : ℕ) × (call : Call) × BeginsCall s k call) → ⊥
            begins_none (k, other, b) = let p = sym e ∙ (begins.only k other b).0 in cc

            no_begin : ((k : ℕ) × (call : Call) × BeginsCall h k call) → ⊥
            no_begin (k, other, inl q) = cc
            no_begin (k, other, inr a) = elim a.1 [ ]

        lost_is : (fid : Fid) → In fid (if first then [] else m.lost) ↔ HasLost (s ∷ past) fid
        lost_is fid = by_first first refl
          where
            by_first : (b : Bool) → first ≡ b → In fid (if first then [] else m.lost) ↔ HasLost (s ∷ past) fid
            by_first true e = (
              (λ i. elim (subst (λ (b : Bool). In fid (if b then [] else m.lost)) e i) [ ]),
              λ x. elim x [ inl k ↦ absurd (none_lost fid k) | inr k ↦ absurd (k.1 (c.k, c.call, begins.there e)) ],
            )
            by_first false e =
                let r = turn.learnt.lost c (turn_at false e) fid in
                let half_same = lost_half e fid in (
                  (λ i. half_same.0 (r.0 (subst (λ (b : Bool). In fid (if b then [] else m.lost)) e i))),
                  λ x. subst (λ (b : Bool). In fid (if b then [] else m.lost)) (sym e) (r.1 (half_same.1 x)),
                )

    cause_may : CauseMay script m.host past s
    cause_may = turns.cause_may script old m past cause came dues c first turn d_g begins
        (λ g o fresh going. due g (out_first l.gives (s ∷ past) after g o)
        (λ f. fresh (first_out old.gives past turn.running.rests.stands.gives g f)))

    keeps : (t : Token) → In t (tokens_of l.cache.held) → HeldBy (s ∷ past) t
    keeps t i = (standing.hand_of script m past s learnt t (keeping.were t i), (keeping.stay t i).1)

    cached : (t : Token) → HeldBy (s ∷ past) t → In t (tokens_of l.cache.held)
    cached t h = elim (keeping.gone t (standing.of_hand script m past s learnt t h.0)) [
      | inl i ↦ i
      | inr k ↦ absurd (h.1 k.1)
    ]

    abbrev its : Stance script.roster m.host past s
    its = standing.stance script m past s learnt (tokens_of l.cache.held) keeps cached

    -- what leaves is dirty under the Sync
    dirty_there : (t : Token) → In t (held_of m) → IsDirtyFrom m past t → IsDirtyUnder past s t
    dirty_there t i (inl b) = inl b
    dirty_there t i (inr (k, e)) =
        let kind = standing.status_of script m past s learnt t.kind k in
        inr (
          (refl, kind),
          λ z. true_false (is_length_clean m.lengths (content m.cache) t.fid)
              (standing.clean_length script m past s learnt t.fid
              (standing.size_seen script m past s learnt t.fid t i refl
              kind) z) e,
        )

    finds_there : (place : NamedPlace) (fid : Fid) → Finds m place fid → FindsFile its place fid
    finds_there place fid f =
        let agree = answered.agree script m past s learnt in (
          f.id,
          f.nature,
          f.seen,
          covered_alike (held_of m) (content m.cache) (sees past s) agree (file_look m.user (root_of f.id) place.path)
              f.covered,
          sym (outcome_alike (held_of m) (content m.cache) (sees past s) agree
              (file_look m.user (root_of f.id) place.path) f.covered) ∙ f.found,
        )

    may_leave : (t : Token) → LeavesFor m past c.call t
        → MayLeave script.roster m.host (limit_of script.roster m.host) past s ForCall t
    may_leave t (ForSync place is finds held dirty) =
        inl (
          c.k,
          place,
          its,
          subst (HasCall past s c.k) is turn_it,
          finds_there place t.fid finds,
          dirty_there t held dirty,
        )
    may_leave t (ForEnd u is frees same) = inr (
      c.k,
      u,
      subst (HasCall past s c.k) is turn_it,
      frees,
      same,
    )

    leaves : (d : Leave) → In d dropped → MayLeave script.roster m.host (limit_of script.roster m.host) past s d.why
        d.token
    leaves d i = let w = why d i in
        subst (λ (y : Why). MayLeave script.roster m.host (limit_of script.roster m.host) past s y d.token) (sym w.0)
        (may_leave d.token w.1)

    gives_one : (stance : Stance script.roster m.host past s) (v : ServerId) (g : Give) → IsFirst l.gives g
        → home g.fid.fileset ≡ v → MayGive script.roster m.host past s stance v 0 g
    gives_one stance v g first at =
        let o = first_out l.gives (s ∷ past) after g first in
        record {
          made = o.made;
          place = λ i. record { server = at i; moves = 0 };
          first = λ k mk same less. elim (after.all k mk) [
            | inl q ↦ q
            | inr y ↦ absurd (first.least y.0 k y.1 y.2 same less)
          ];
        }

    may : (stance : Stance script.roster m.host past s) (y : Message) → In y sent
        → MaySend script.roster m.host past s stance y
    may stance y i = let r = said y i in record {
      epoch_is = r.0 ∙ (learnt.sites y.server).epoch;
      says = subst (λ (q : ℕ × Body). MaySay script.roster m.host past s stance y.server q.0 q.1)
          (λ k. (sym r.1 k, sym r.2.3 k)) (gives_one stance y.server r.2.0 r.2.1 r.2.2);
    }

    awaits : (stance : Stance script.roster m.host past s) → stance.own ≡ own_of m → stance.user ≡ m.user
        → IsAsked script.roster m.host past s stance
    awaits stance own_is user_is d o = inr (inr (inl (inr (
      subst (λ (z : Call). verdict_in stance z ≡ Gives) (only_open d o)
          (subst (λ (q : Own × User). outcome (sees past s) (call_look q.0 m.host q.1 call) ≡ Gives)
          (λ i. (sym own_is i, sym user_is i)) (sym (answered.verdict_is script m past s learnt call covered)
          ∙ verdict)),
      (one, inl one_made, leaving_of.unknown script m l past s learnt right gives one one_made),
    ))))

    pub gives_right : StepRight script old (with_moved (with_left m l) moved) past s
    gives_right = leaving_right script old m l moved past s turn.host
        (turns.under script old m past cause came dues c first turn) turn.learnt
        silent right keeping gives moves stuck cause_may leaves (λ stance k h o u. (may stance, awaits stance o u)) rest
