-- A Change that comes again is answered once more, and nothing else happens in its step.
use Rattle.std.proofs.Common.{◌≡◌, Bool, true, false, ◌&&◌, not, List, [], ◌∷◌, None}
use Rattle.std.proofs.Common.{Some}
use Rattle.std.proofs.Common.{inl, inr, refl, sym, ◌∙◌, ap, subst}
use Rattle.std.proofs.lemmas.Bool.{false≢true}
use Rattle.tree_answers.specs.declared.tree.Tree.{Tree}
use Rattle.tree_calls.specs.declared.reply.Refusal.{Refusal}
use Rattle.tree_calls.specs.declared.reply.Reply.TheVariants.{Refused}
use Rattle.message_types.specs.declared.asking.Change.{Change as ChangeOf}
use Rattle.message_types.specs.declared.message.Body.TheVariants.{Change, Done}
use Rattle.message_types.specs.declared.message.Message.{Message}
use Rattle.message_types.specs.declared.telling.Done.{Done as DoneOf}
use Rattle.run_rules.specs.Doings.{Doing, IsLive, epoch}
use Rattle.run_rules.specs.Doings.Doing.{Took}
use Rattle.run_rules.specs.Past.{In}
use Rattle.run_rules.specs.ServerDecides.{DecidedSo, IsDecidedHere}
use Rattle.run_rules.specs.ServerDecides.DecidedSo.{IsRefusedByTable, MeetsPinned, TakesEffect}
use Rattle.run_rules.specs.declared.applied.Request.{Request}
use Rattle.run_rules.specs.declared.applied.Request.TheVariants.{Change as Changes, Fetch as Asks}
use Rattle.run_rules.specs.declared.step.Cause.TheVariants.{Message as Came}
use Rattle.store_state.specs.declared.state.StoreState.{StoreState}
use Rattle.server_tables.specs.Answers.{answer_again, is_old}
use Rattle.server_tables.specs.Standing.{Stands}
use Rattle.server_tables.specs.declared.pending.Pending.{Pending}
use Rattle.server_tables.specs.declared.tables.Tables.{Tables}
use Rattle.server_tables.proofs.Again.{again_of_change, is_again}
use Rattle.server_tables.proofs.Drafting.{SameReady, decide_ready, ready_back, refuse_ready}
use Rattle.server_tables.proofs.Judged.{ripe_is}
use Rattle.server_tables.proofs.Still.{HostsStill, answered_still, live_still, reclaimed_back}
use Rattle.server_decides.specs.Drafts.{no_draft, word}
use Rattle.server_decides.specs.Taking.{Made, Whether, made}
use Rattle.server_decides.specs.Claiming.{AdmitsOne}
use Rattle.server_decides.specs.Going.{GoesTo, IsChain}
use Rattle.server_decides.proofs.Served.{effect_parts, placed_in}
use Rattle.server_decides.specs.Deciding.{Decides, IsDueOf, is_waiting, outlook_at}
use Rattle.server_decides.specs.Running.{Making, making}
use Rattle.server_decides.specs.Serving.{IsServed}
use Rattle.server_decides.specs.declared.deciding.Decision.{Decision}
use Rattle.server_decides.specs.declared.deciding.Decision.TheVariants.{Anew, Do, Refuse}
use Rattle.server_exporter.specs.Machines.{AreTold, IsAt, IsQuiet, IsRested, Keeps}
use Rattle.server_exporter.specs.declared.exporter.Exporter.{Exporter}
use Rattle.server_exporter.proofs.Greets.{live_too, never_more, stays_answered, stays_onset}
use Rattle.server_exporter.proofs.Known.{old_is}
use Rattle.server_exporter.proofs.Making.{as_sent}
use Rattle.server_exporter.proofs.Middle.{AreGranted, HasCause, IsMid}
use Rattle.server_exporter.proofs.Onsets.{IsPlain}
use Rattle.server_exporter.proofs.Reasons.{can_decide, why_anew, why_done, why_refused}
use Rattle.server_exporter.proofs.Repeated.{ready_again, stands_again}
use Rattle.server_exporter.proofs.Repeats.{again_may, again_tokens}
use Rattle.server_exporter.proofs.Requested.{AreDones, IsRepeated, asked_still, begun_stands, its_request}
use Rattle.server_exporter.proofs.Requested.{request_caused, request_says}
use Rattle.server_exporter.proofs.Resting.{even_still, quiet_even, rested_even}
use Rattle.server_exporter.proofs.Tolds.{told_caused}
use Rattle.run_rules.specs.Wants.{CanDecide, IsQueued}
use Rattle.server_tables.proofs.Idle.{up_to}

-- # Where nothing goes on

pub no_goes : {A : Type 0} (Goes : A → A → Type 0) (a z : A) → ((b : A) → Goes a b → ⊥) → GoesTo Goes a z → a ≡ z
no_goes Goes a z none r = by r.0 r.1
  where
    by : (more : List _) → IsChain Goes a more z → a ≡ z
    by [] e = e
    by (b ∷ more) p = absurd (none b p.0)

-- # It is answered once more

module _ (tree : Tree) (past : List Doing) (x : Exporter) (z : IsAt past tree x) (m : Message) (st : StoreState)
    (k : Keeps x.tables tree st) (served : IsServed x.tables st) (c : ChangeOf) (is : m.body ≡ Change c)
    (live : IsLive past m.host) (current : m.epoch ≡ epoch past)
    (here : IsDecidedHere x.tables.server past c.fileset 0) (old : is_old x.tables m.host c ≡ true) (d : DoneOf)
    (found_it : answer_again x.tables m.host c ≡ Some d) (rests : x.rested ≡ true) where
  abbrev t : Tables
  t = x.tables

  abbrev took : Doing
  took = Took m.host m.epoch m.moves m.body

  abbrev begun : List Doing
  begun = took ∷ past

  abbrev w : Message
  w = word t m.host (Done d)

  abbrev told : Doing
  told = as_sent w

  abbrev a : Making
  a = making t (record no_draft { sent = w ∷ [] }) st

  pub s_b : Stands begun t
  s_b = begun_stands tree past x z m st k served (Changes c) is live current

  live_b : IsLive begun m.host
  live_b = live_too tree past x z m st k served
      (asked_still tree past x z m st k served (Changes c) is live current) live

  here_b : IsDecidedHere t.server begun c.fileset 0
  here_b = here

  quiet_b : IsQuiet t.server tree begun
  quiet_b = quiet_even t.server past took
      (even_still past took t z.tables (asked_still tree past x z m st k served (Changes c) is live current))
      z.tables.tokens.none_reserved tree z.quiet

  rest_b : IsRested t.server tree begun
  rest_b = rested_even t.server past took
      (even_still past took t z.tables (asked_still tree past x z m st k served (Changes c) is live current))
      z.tables.tokens.none_reserved tree (z.rested rests)

  said_b : AreTold t.server begun
  said_b = told_caused t.server (Came m) past (λ n e. cc) z.told

  stands_w : Stands (told ∷ begun) t
  stands_w = stands_again begun t s_b m.host c live_b here_b old d found_it z.changes said_b

  ready_w : SameReady t.server (told ∷ begun) begun
  ready_w = ready_again begun t s_b m.host c live_b here_b old d found_it z.changes said_b

  rest_w : IsRested t.server tree (told ∷ begun)
  rest_w = record {
    refused = λ v o r u i on can. rest_b.refused v o r ((ready_w.queued v).0 u) i on
        (decide_ready t.server (told ∷ begun) begun ready_w v can);
    effects = λ v o u i e n can. rest_b.effects v o ((ready_w.queued v).0 u) i e n
        (decide_ready t.server (told ∷ begun) begun ready_w v can);
    pinned = λ v o u i row n can. rest_b.pinned v o ((ready_w.queued v).0 u) i row n
        (refuse_ready t.server (told ∷ begun) begun ready_w v can);
  }

  -- nothing is decided
  module _ (b : Making) (s : Decides a b) where
    abbrev p : Pending
    p = s.p

    p_in : In p t.pending
    p_in = placed_in t.pending s.due.at p s.place

    its_place : IsQueued (told ∷ begun) p.wanted
    its_place = stands_w.wants.pending p p_in

    module _ (o : ChangeOf) (it_is : p.wanted.request ≡ Changes o) where
      not_waiting : (e : Decision) → IsDueOf t st p false (Some e) (Changes o)
          → is_waiting (outlook_at t p.number) ≡ false
      not_waiting e due = by _ (is_waiting (outlook_at t p.number)) refl due
        where
          by : (Q : Type 0) (v : Bool) → is_waiting (outlook_at t p.number) ≡ v
              → Whether (v && not false) (Some e ≡ None) Q → is_waiting (outlook_at t p.number) ≡ false
          by Q true q u = absurd (cc)
          by Q false q u = q

      never_refused : (r : Refusal) → CanDecide t.server (told ∷ begun) p.wanted
          → DecidedSo t.server tree (told ∷ begun) p.wanted o (Refused r) → ⊥
      never_refused r can (IsRefusedByTable q on e) = rest_w.refused p.wanted o q its_place it_is on can
      never_refused r can (MeetsPinned n row f e) = rest_w.pinned p.wanted o its_place it_is row n f
      never_refused r can (TakesEffect effect row g e) = rest_w.refused p.wanted o r its_place it_is (
        sym e,
        λ q. absurd (false≢true (sym (effect_parts o effect).0 ∙ q)),
        λ q. absurd (false≢true (sym (effect_parts o effect).2 ∙ q)),
      ) can

      none_so : (e : Decision) → IsDueOf t st p false (Some e) p.wanted.request → ⊥
      none_so (Refuse r) due =
          let why = why_refused (told ∷ begun) t st tree stands_w served k.stands p p_in o it_is false r due in
          never_refused r (can_decide (told ∷ begun) t st tree stands_w served k.stands p p_in o it_is
          (not_waiting (Refuse r) (subst (IsDueOf t st p false (Some (Refuse r))) it_is due))) why.1
      none_so Do due =
          let why = why_done (told ∷ begun) t st tree stands_w served k.stands p p_in o it_is false due in
          rest_w.effects p.wanted o its_place it_is why.1 why.2 (inl why.4)
      none_so (Anew needs) due =
          let why = why_anew (told ∷ begun) t st tree stands_w served k.stands p p_in o it_is false needs due in
          let v = why.2 in
          rest_w.effects p.wanted v.change its_place v.request v.effect v.accepted v.ready

    none_decided : ⊥
    none_decided = by p.wanted.request refl
      where
        by : (r : Request) → p.wanted.request ≡ r → ⊥
        by (Changes o) q = none_so o q s.due.decision s.is
        by (Asks f) q = let e : Some s.due.decision ≡ None =
            subst (IsDueOf t st p false (Some s.due.decision)) q s.is in cc

  -- and no claim granted
  none_admitted : (b : Made) → AdmitsOne (made t a.draft) b → ⊥
  none_admitted b one =
      let f = ripe_is begun t.server t.recovering s_b.slots s_b.recovery one.next.claimed one.next.ripe in
      let q = s_b.recovery.claimed one.next.claimed f.0 in
      let v = (stays_onset tree past x z m st k served
      (asked_still tree past x z m st k served (Changes c) is live current)).waits one.next.claimed f.0 in
      quiet_b.claims one.next.claimed.host q.0 one.next.claimed.claim q.1 v.0 v.1 f.1

  -- # What is said

  of_change : (d.fileset ≡ c.fileset) × (d.bring.number ≡ c.number)
  of_change = again_of_change begun t s_b m.host c old d (is_again t m.host c d found_it)

  one : (n : Message) → In n (w ∷ []) → n ≡ w
  one n (inl e) = e
  one n (inr i) = elim i [ ]

  pub dones : AreDones t.server past m (Changes c) is current (w ∷ [])
  dones = record {
    host = λ n i. ap (λ (o : Message). o.host) (one n i);
    done = λ n i. (
      d,
      ap (λ (o : Message). o.body) (one n i),
      (c, refl, (sym of_change.0, sym of_change.1)),
    );
  }

  pub repeats : IsRepeated t.server past m (Changes c) is current (w ∷ [])
  repeats o v same at_home f n last done =
      let q : c ≡ o = cc in (
        d,
        (w, inl refl, refl, refl),
        of_change.0 ∙ ap (λ (y : ChangeOf). y.fileset) q,
        of_change.1 ∙ ap (λ (y : ChangeOf). y.number) q,
      )

  pub plain_a : IsPlain (Came m)
  plain_a = record {
    line = λ n e. cc;
    restart = λ n e. cc;
    lapse = λ e. cc;
    evict = λ e. cc;
    end = λ e. cc;
  }

  abbrev pub again_cause : HasCause t.server (Came m) tree past a
  again_cause =
      let q = request_caused t.server past m (Changes c) is current tree (w ∷ [])
      (request_says t.server past m (Changes c) is current (w ∷ []) dones repeats live)
      (never_more tree past x z m st k served
      (asked_still tree past x z m st k served (Changes c) is live current)) in
      record {
        base = [];
        plain = plain_a;
        told = z.told;
        known = z.known;
        given = q.given;
        down = q.down;
        else_none = q.else_none;
        at_once = q.at_once;
        news = λ s e h n r new. (let v = its_request t.server past m (Changes c) is current s e h n r new in
            absurd (v.4 (old_is begun t s_b m.host c old)));
        never = q.never;
      }

  mid_a : IsMid t.server (Came m) tree past [] a
  mid_a = record {
    more = [];
    server_is = refl;
    applied = refl;
    none = refl;
    all = refl;
    writes = tt;
    may = λ s e. tt;
    stands = stands_w;
    ready = ready_back ready_w;
    served = served;
    stored = record { keeps = k.stands; homes = k.homes; taken = k.taken; epoch = k.epoch };
    listed = z.once;
    gives = z.gives;
    changes = z.changes;
    enters = z.enters;
    fresh = λ s e p i new. (let v = its_request t.server past m (Changes c) is current s e p.wanted.host
        p.wanted.moves p.wanted.request new in
        absurd (v.4 (old_is begun t s_b m.host c old)));
  }

  word_hosts : HostsStill begun told
  word_hosts = record {
    calm = record {
      begin = λ v. let q = v.1 in cc;
      still = λ v. let q = v.1 in cc;
      away = λ h v. absurd (elim v [ inl f ↦ (let q = f.2 in cc) | inr f ↦ (let q = f.0.1 in cc) ]);
      admits = λ h ts q. cc;
    };
    hello = λ h f l o. let q = f.2 in cc;
    down = λ h f. absurd (let q = f.2 in cc);
    sends = up_to begun m.host t.hosts.epoch 0 (Done d) s_b.hosts.epoch_is;
  }

  granted_a : AreGranted t.server (Came m) tree past a.draft a (made t a.draft)
  granted_a = record {
    stands = stands_w;
    allowed = λ kept s. record {
      tokens = (again_tokens begun t s_b m.host c live_b here_b old d found_it, tt);
      may = (again_may begun t s_b m.host c live_b here_b old d found_it kept s, tt);
    };
    admits = tt;
    once = ((λ i. i), tt);
    homes = z.homes;
    answered = answered_still begun told word_hosts (stays_answered tree past x z m st k served
        (asked_still tree past x z m st k served (Changes c) is live current));
    waits = λ q i. (let v = (stays_onset tree past x z m st k served
        (asked_still tree past x z m st k served (Changes c) is live current)).waits q i in (
          (λ r. v.0 (reclaimed_back begun told word_hosts q.host r)),
          live_still begun told word_hosts.calm q.host v.1,
        ));
    spoken = record {
      origin = λ p o i e. inr (p.wanted, z.tables.wants.pending p i, refl, e);
      words = λ n i. inl i;
      kept = λ n i. i;
      written = λ v i. elim i [ ];
    };
    counts = λ h n claim took_it never l have. absurd (quiet_b.claims h n claim took_it
        (λ r. never_more tree past x z m st k served
        (asked_still tree past x z m st k served (Changes c) is live current) h n claim took_it never r) l have);
  }

  -- so it is once Changes were decided and claims granted
  module _ (mid : Making) (goes : GoesTo Decides a mid) where
    same_mid : a ≡ mid
    same_mid = no_goes Decides a mid none_decided goes

    pub again_mid : IsMid t.server (Came m) tree past [] mid
    again_mid = subst (IsMid t.server (Came m) tree past []) same_mid mid_a

    module _ (g : Made) (admits : GoesTo AdmitsOne (made mid.tables mid.draft) g) where
      same_granted : made mid.tables mid.draft ≡ g
      same_granted = no_goes AdmitsOne (made mid.tables mid.draft) g
          (λ b one. none_admitted b (subst (λ (v : Making). AdmitsOne (made v.tables v.draft) b) (sym same_mid) one))
          admits

      pub again_granted : AreGranted t.server (Came m) tree past a.draft mid g
      again_granted = subst (AreGranted t.server (Came m) tree past a.draft mid) same_granted
          (subst (λ (v : Making). AreGranted t.server (Came m) tree past a.draft v (made v.tables v.draft)) same_mid
          granted_a)
