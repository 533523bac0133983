-- The last steps of a host do what they may.
use Rattle.base_types.specs.declared.ids.FilesetId.{FilesetId}
use Rattle.base_types.specs.declared.ids.Node.TheVariants.{Host}
use Rattle.base_types.specs.declared.ids.ServerId.{ServerId}
use Rattle.host_cache.specs.Holding.{tokens_of}
use Rattle.host_cache.specs.declared.held.Held.{Held}
use Rattle.host_tables.proofs.Lists.{none_in}
use Rattle.host_tables.proofs.Moving.{request_moves_right}
use Rattle.host_tables.proofs.QuietStep.{quiet_right}
use Rattle.host_tables.specs.AtOnce.{IsFree}
use Rattle.host_tables.specs.Causes.{CauseMay}
use Rattle.host_tables.specs.Closing.{ByesFrom, ByesRight, DownFrom, StopMay, goes_down, parted_from, says_bye}
use Rattle.host_tables.specs.Half.{half}
use Rattle.host_tables.specs.Learning.{TeachesNothing}
use Rattle.host_tables.specs.Machine.{Rests, StepRight}
use Rattle.host_tables.specs.Moving.{IsNoRequest}
use Rattle.host_tables.specs.Quiet.{IsQuiet, Moved, MovesRight, with_moved}
use Rattle.host_tables.specs.Sending.{MayLeaveAll, MaySay}
use Rattle.host_tables.specs.Stands.{NumbersStand, RequestStands, Stands}
use Rattle.host_tables.specs.Tables.{held_of, site_at}
use Rattle.host_tables.specs.declared.sites.Site.{Site}
use Rattle.host_tables.specs.declared.tables.Tables.{Tables}
use Rattle.message_types.specs.declared.giving.Give.{Give}
use Rattle.message_types.specs.declared.message.Body.{Body}
use Rattle.message_types.specs.declared.message.Body.TheVariants.{Bye, Change, Down, Fetch, GiveBack, Hello}
use Rattle.message_types.specs.declared.message.Body.TheVariants.{Kept as KeptBody, Reclaim, Returned}
use Rattle.message_types.specs.declared.message.Message.{Message}
use Rattle.message_types.specs.declared.tokens.Named.{Named}
use Rattle.run_rules.specs.HostAsks.{HostAsks}
use Rattle.run_rules.specs.HostMay.{DoesLine, HostEnds, HostLines, HostMay}
use Rattle.run_rules.specs.HostTokens.{HostTokens, MayEvict, MayLeave}
use Rattle.run_rules.specs.Messages.{Asking, Changing, HasGreeted, HasSaid, Says, Sends, Stops, epoch_at}
use Rattle.run_rules.specs.Past.{In}
use Rattle.run_rules.specs.Steps.{IsNextLine, limit_of, lines_gone, lines_of, servers_of}
use Rattle.run_rules.specs.Tokens.{BeginsCall, Drops, HasCall, Held as HeldBy, IsKnown, IsOutstanding, LeavesHost}
use Rattle.run_rules.specs.Tokens.{Made, NoneOpen, Owns, number_of}
use Rattle.run_rules.specs.Views.{Stance}
use Rattle.run_rules.specs.declared.applied.Leave.{Leave}
use Rattle.run_rules.specs.declared.applied.Why.{Why}
use Rattle.run_rules.specs.declared.step.Asked.{Asked}
use Rattle.run_rules.specs.declared.step.Cause.TheVariants.{End, Line as LineOf}
use Rattle.run_rules.specs.declared.step.Step.{Step}
use Rattle.script_lines.specs.declared.script.Deed.TheVariants.{Stop}
use Rattle.script_lines.specs.declared.script.Line.{Line}
use Rattle.script_lines.specs.declared.script.Script.{Script}
use Rattle.std.proofs.Common.{List, None, Some, [], ap, arith, inl, inr, length, refl, subst, sym, true, ℕ, ◌∙◌, ◌∷◌}
use Rattle.std.proofs.Common.{◌≡◌, ◌⊎◌}
use Rattle.token_types.specs.declared.token.Token.{Token}
use Rattle.token_types.specs.declared.token.TokenId.{TokenId}
use Rattle.tree_calls.specs.declared.call.Call.{Call}
use Rattle.host_tables.proofs.Learning as learning_of
use Rattle.host_tables.proofs.AtOnce as at_once
use Rattle.host_tables.proofs.Standing as standing
use Rattle.host_tables.proofs.Unanswered as unanswered

module _ (script : Script) (m : Tables) (sites : List Site) (past : List Step) (sent : List Message)
    (rests : Rests script m past)
    (free : m.call ≡ None) (gone : lines_gone past ≡ length (lines_of script (Host m.host)))
    (few : MayEvict past (limit_of script.roster m.host) → ⊥) (empty : m.cache.held ≡ []) (none_given : m.gives.gives
    ≡ [])
    (byes : ByesFrom m sites sent) where
  abbrev s : Step
  s = says_bye m.host sent

  abbrev x : Moved
  x = parted_from m sites

  stands : Stands script m past
  stands = rests.stands

  teaches : TeachesNothing past s
  teaches = learning_of.teaches_nothing past s tt

  learnt : Stands script m (half s ∷ past)
  learnt = learning_of.unmoved m.host End past (learning_of.teaches_nothing past (half s) tt) script m refl stands

  not_open : (d : Asked) → m.call ≡ Some d → ⊥
  not_open d e = let p = sym free ∙ e in absurd (cc)

  none_open : NoneOpen past
  none_open d o = not_open d (stands.call.asked d o)

  idle : m.request ≡ None
  idle = rests.rest.alone free

  bye_is : (v : ServerId) (e n : ℕ) (b : Body) → Sends s v e n b → Bye ≡ b
  bye_is v e n b p = sym (byes.each p.0 p.1).2 ∙ p.5

  greeted_it : (v : ServerId) → Says s v Bye → HasGreeted past v
  greeted_it v p = subst (HasGreeted past) p.2.2 ((stands.sites p.2.0.server).greeted.0 (byes.each p.2.0 p.2.1).3)

  quiet : IsQuiet s
  quiet = record {
    answers = refl;
    wrote = refl;
    begun = refl;
    made = refl;
    dropped = refl;
    keeps = λ i k. let p = bye_is k.0 k.1 k.2 (KeptBody k.3) k.4 in absurd (cc);
    no_stop = λ k. let p = bye_is k.0 k.1 k.2 Down k.3 in absurd (cc);
  }

  none_held : (t : Token) → In t (held_of m) → ⊥
  none_held t i = elim (subst (λ (h : List Held). In t (tokens_of h)) empty i) [ ]

  none_owned : (t : Token) → Owns past t → ⊥
  none_owned t o = none_held t (stands.cache.owns t o)

  all_known : (g : Give) → Made past g → IsKnown past g
  all_known g i = elim (stands.gives.all g i) [ inl k ↦ k | inr y ↦ absurd (none_in m.gives.gives none_given y.0 y.1) ]

  owned_after : (t : Token) → Owns (s ∷ past) t → ⊥
  owned_after t (inl i, _) = elim i [ ]
  owned_after t (inr o, _) = none_owned t o

  known_after : (g : Give) → Made (s ∷ past) g → IsKnown (s ∷ past) g
  known_after g (inl i) = elim i [ ]
  known_after g (inr i) = inr (all_known g i)

  no_request : (b : Body) → Bye ≡ b → IsNoRequest b
  no_request b e = subst IsNoRequest e tt

  requests : RequestStands m.request (s ∷ past) × NumbersStand m.fetched m.changed (s ∷ past)
  requests = request_moves_right script m past s learnt
      (record { only = λ y i. inl (no_request y.body (sym (byes.each y i).2)) })

  none_asking : (fs : FilesetId) (n : ℕ) → Asking (s ∷ past) fs n → ⊥
  none_asking fs n a = let r = requests.0.asking fs n a in absurd (let p = sym idle ∙ r.1 in cc)

  none_changing : (v : ServerId) (fs : FilesetId) (n : ℕ) → Changing (s ∷ past) v fs n → ⊥
  none_changing v fs n a = let r = requests.0.changing v fs n a in absurd (let p = sym idle ∙ r.2 in cc)

  same_site : (v : ServerId) → ((site_at sites v).epoch ≡ (site_at m.sites v).epoch)
      × ((site_at sites v).welcome ≡ (site_at m.sites v).welcome)
      × ((site_at sites v).has_bye ≡ (site_at m.sites v).has_bye)
      × ((site_at sites v).greeted ≡ (site_at m.sites v).greeted)
      × ((site_at sites v).claimed ≡ (site_at m.sites v).claimed)
  same_site v = elim (byes.noted v) [
    | inl e ↦ (
      ap (λ (z : Site). z.epoch) e,
      ap (λ (z : Site). z.welcome) e,
      ap (λ (z : Site). z.has_bye) e,
      ap (λ (z : Site). z.greeted) e,
      ap (λ (z : Site). z.claimed) e,
    )
    | inr r ↦ (
      ap (λ (z : Site). z.epoch) r.0,
      ap (λ (z : Site). z.welcome) r.0,
      ap (λ (z : Site). z.has_bye) r.0,
      ap (λ (z : Site). z.greeted) r.0,
      ap (λ (z : Site). z.claimed) r.0,
    )
  ]

  says_it : (y : Message) → In y sent → (v : ServerId) → y.server ≡ v → Says s v Bye
  says_it y i v e = (y.epoch, y.moves, (y, i, e, refl, refl, (byes.each y i).2))

  moves : MovesRight m x past s
  moves = record {
    site_epoch = λ v. (same_site v).0;
    site_welcome = λ v. (same_site v).1;
    site_has_bye = λ v. (same_site v).2;
    site_greeted = λ v. (
      (λ e. inl (sym (same_site v).3 ∙ e)),
      λ z. (same_site v).3 ∙ elim z [ inl e ↦ e | inr p ↦ absurd (let q = bye_is v p.0 p.1 Hello p.2 in cc) ],
    );
    site_said_bye = λ v. (
      (λ e. elim (byes.noted v) [
        | inl same ↦ inl (ap (λ (z : Site). z.said_bye) (sym same) ∙ e)
        | inr r ↦ inr (says_it r.1.0 r.1.1 v r.1.2)
      ]),
      λ z. elim z [
        | inl e ↦ elim (byes.noted v) [
          | inl same ↦ ap (λ (z : Site). z.said_bye) same ∙ e
          | inr r ↦ ap (λ (z : Site). z.said_bye) r.0
        ]
        | inr p ↦ subst (λ (w : ServerId). (site_at sites w).said_bye ≡ true) p.2.2 (byes.all p.2.0 p.2.1)
      ],
    );
    site_claimed = λ v. (
      (λ e. inl (sym (same_site v).4 ∙ e)),
      λ z. (same_site v).4 ∙ elim z [ inl e ↦ e | inr p ↦ absurd (let q = bye_is v p.0 p.1 (Reclaim p.2) p.3 in cc) ],
    );
    claims_apart = λ v a p. absurd (let q = bye_is v p.0 p.1 (Reclaim p.2) p.3 in cc);
    request = requests.0;
    numbers = requests.1;
    call_from = λ c e. inr e;
    call_asked = λ c e. absurd (cc);
    call_stays = λ c e. e;
    begun = let b = stands.call.begun in omega (arith, b);
    lost = λ c e. absurd (not_open c e);
    parted = λ v b. record {
      greeted = said_greeted v b;
      none_asked = idle;
      none_open = free;
      none_owned = owned_after;
      known = known_after;
    };
  }
    where
      said_greeted : (v : ServerId) → HasSaid (s ∷ past) v Bye → HasGreeted (s ∷ past) v
      said_greeted v (e, n, inl p) = let g = greeted_it v (e, n, p) in (g.0, g.1, inr g.2)
      said_greeted v (e, n, inr p) = let g = (stands.parted v (e, n, p)).greeted in (g.0, g.1, inr g.2)

  no_turn : (k : ℕ) (call : Call) → BeginsCall s k call → ⊥
  no_turn k call (inl e) = absurd (cc)
  no_turn k call (inr a) = elim a.1 [ ]

  none_new : (g : Give) → IsOutstanding (s ∷ past) g → ⊥
  none_new g o = o.unknown (known_after g o.made)

  cause : CauseMay script m.host past s
  cause = record {
    live = stands.live;
    takes = λ t i. elim i [ ];
    takes_all = record { all = λ w t u. absurd (teaches.none_used w u.0); once = λ t u i. elim i [ ] };
    new_gives = λ g o. absurd (none_new g o);
    lines = record {
      next = λ n e. absurd (cc);
      free = λ n e. absurd (cc);
      begins = λ k call b. absurd (no_turn k call b);
      no_server = (λ n e. cc, λ e. cc);
      applies_none = (refl, refl, refl);
      after = λ e. (gone, none_open, few);
      implied = λ k call e b. absurd (no_turn k call b);
    };
  }

  held_after : (t : Token) → HeldBy (s ∷ past) t → ⊥
  held_after t (inl i, _) = elim i [ ]
  held_after t (inr h, _) = none_held t (stands.cache.cached t h)

  leaves_all : (stance : Stance script.roster m.host past s) (v : ServerId) → HasGreeted past v
      → MayLeaveAll script.roster m.host past s stance v
  leaves_all stance v g = record {
    greeted = g;
    none_held = held_after;
    none_owned = owned_after;
    why = inl refl;
    known = known_after;
    none_asked = none_asking;
    none_changing = none_changing;
  }

  pub byes_said : StepRight script m (with_moved m x) past s
  byes_said = quiet_right script m m x past s refl stands.dirty.under learnt quiet moves cause
      (λ t i. absurd (none_held t i))
      (λ stance from y i. let r = byes.each y i in record {
        epoch_is = r.0 ∙ (learnt.sites y.server).epoch;
        says = subst (MaySay script.roster m.host past s stance y.server y.moves) (sym r.2)
            (leaves_all stance y.server ((stands.sites y.server).greeted.0 r.3));
      })
      (record {
        stuck = λ c e. absurd (not_open c e);
        synced = λ c place fid t e. absurd (not_open c e);
        freed = λ c u e. absurd (not_open c e);
        waits = λ c e. absurd (not_open c e);
        alone = λ e. idle;
      })

pub byes_right : ByesRight
byes_right script m sites past sent rests free gone few empty none_given byes =
    byes_said script m sites past sent rests free gone few empty none_given byes

-- # It stops

module _ (script : Script) (m : Tables) (past : List Step) (number : ℕ) (dropped : List Leave) (sent : List Message)
    (rests : Rests script m past) (free : IsFree m) (line : Line)
    (next : IsNextLine (lines_of script (Host m.host)) past number line) (stop : line.deed ≡ Stop)
    (down : DownFrom script m dropped sent) where
  abbrev d : Step
  d = goes_down m.host number dropped sent

  stands_d : Stands script m past
  stands_d = rests.stands

  teaches_d : TeachesNothing past d
  teaches_d = learning_of.teaches_nothing past d tt

  learnt_d : Stands script m (half d ∷ past)
  learnt_d = learning_of.unmoved m.host (LineOf number) past (learning_of.teaches_nothing past (half d) tt) script m
      refl stands_d

  none_open_d : NoneOpen past
  none_open_d c o = let p = sym free.none_open ∙ stands_d.call.asked c o in absurd (cc)

  down_is : (v : ServerId) (e n : ℕ) (b : Body) → Sends d v e n b → Down ≡ b
  down_is v e n b p = sym (down.each p.0 p.1).1 ∙ p.5

  down_says : (y : Message) → In y sent → (v : ServerId) → y.server ≡ v → Says d v Down
  down_says y i v e = (y.epoch, y.moves, (y, i, e, refl, refl, (down.each y i).1))

  stops : Stops d
  stops = let y = down.some in let z = down_says y.0 y.1 y.0.server refl in (y.0.server, z.0, z.1, z.2)

  no_leaves : (i : TokenId) → LeavesHost d i → ⊥
  no_leaves i (inl k) = elim k.1 [ ]
  no_leaves i (inr r) = let p = down_is r.0 r.1 r.2 (Returned r.3) r.4 in absurd (cc)

  drops_all : (t : Token) → HeldBy past t → Drops d t
  drops_all t h = down.drops_all t (stands_d.cache.cached t h)

  none_left : (t : Token) → HeldBy (d ∷ past) t → ⊥
  none_left t (inl i, _) = elim i [ ]
  none_left t (inr h, stays) = stays (drops_all t h)

  abbrev its : Stance script.roster m.host past d
  its = standing.stance script m past d learnt_d [] (λ t i. elim i [ ]) (λ t h. absurd (none_left t h))

  no_turn_d : (k : ℕ) (call : Call) → HasCall past d k call → ⊥
  no_turn_d k call (inl (inl e)) = absurd (cc)
  no_turn_d k call (inl (inr b)) = elim b.1 [ ]
  no_turn_d k call (inr g) = none_open_d _ g.0

  requests_d : RequestStands m.request (d ∷ past) × NumbersStand m.fetched m.changed (d ∷ past)
  requests_d = request_moves_right script m past d learnt_d
      (record { only = λ y i. inl (subst IsNoRequest (sym (down.each y i).1) tt) })

  idle_d : m.request ≡ None
  idle_d = rests.rest.alone free.none_open

  not_asking : (fs : FilesetId) (n : ℕ) → Asking (d ∷ past) fs n → ⊥
  not_asking fs n a = let r = requests_d.0.asking fs n a in absurd (let p = sym idle_d ∙ r.1 in cc)

  not_changing : (v : ServerId) (fs : FilesetId) (n : ℕ) → Changing (d ∷ past) v fs n → ⊥
  not_changing v fs n a = let r = requests_d.0.changing v fs n a in absurd (let p = sym idle_d ∙ r.2 in cc)

  made_before : (g : Give) → Made (d ∷ past) g → Made past g
  made_before g (inl i) = elim i [ ]
  made_before g (inr i) = i

  none_new_d : (g : Give) → IsOutstanding (d ∷ past) g → IsOutstanding past g
  none_new_d g o = record {
    made = made_before g o.made;
    unknown = λ k. o.unknown (inr k);
    first = λ w. o.first (
      w.0,
      inr w.1,
      w.2,
      w.3,
      λ k. w.4 (elim k [
        | inl l ↦ absurd (teaches_d.none_learnt (number_of w.0) l)
        | inr q ↦ q
      ]),
    );
  }

  named : (w : Named) (v : ServerId) (e n : ℕ) → Sends d v e n (Returned w) ⊎ Sends d v e n (KeptBody w) → ⊥
  named w v e n (inl p) = let q = down_is v e n (Returned w) p in absurd (cc)
  named w v e n (inr p) = let q = down_is v e n (KeptBody w) p in absurd (cc)

  tokens : HostTokens past d
  tokens = record {
    live = stands_d.live;
    stops_alone = λ v e n b _ p. sym (down_is v e n b p);
    epochs = λ v e n b p. let y = p.0 in
        sym p.3 ∙ ((down.each y p.1).0 ∙ ((stands_d.sites y.server).epoch ∙ ap (epoch_at past) p.2));
    takes = λ t i. elim i [ ];
    drops = λ t h k. absurd (no_leaves t.id k);
    drops_only = λ t k. inr stops;
    returns = λ i r. absurd (let p = down_is r.0 r.1 r.2 (Returned r.3) r.4 in cc);
    returns_free = λ i g r. absurd (let p = down_is r.0 r.1 r.2 (Returned r.3) r.4 in cc);
    answers = λ w v e n p. absurd (named w v e n p);
    answers_file = λ w v e n t p. absurd (named w v e n p);
    makes = λ g i j. elim j [ ];
    makes_once = λ g k i j. elim j [ ];
    makes_from = λ g j. elim j [ ];
    makes_apart = λ g k j. elim j [ ];
    makes_new = λ g k j. elim j [ ];
    gives = λ g v e n p. absurd (let q = down_is v e n (GiveBack g) p in cc);
    gives_first = λ g k v e n p. absurd (let q = down_is v e n (GiveBack g) p in cc);
    fetches = λ f v e n p. absurd (let q = down_is v e n (Fetch f) p in cc);
    changes = λ c v e n p. absurd (let q = down_is v e n (Change c) p in cc);
    claims = λ v e n c p. absurd (let q = down_is v e n (Reclaim c) p in cc);
    bye_held = λ v e n t p. absurd (let q = down_is v e n Bye p in cc);
    bye_gives = λ v e n g p. absurd (let q = down_is v e n Bye p in cc);
    bye_asking = λ v e n fs k p. absurd (let q = down_is v e n Bye p in cc);
    bye_changing = λ v w e n fs k p. absurd (let q = down_is v e n Bye p in cc);
  }

  asks : HostAsks script.roster m.host past d its
  asks = record {
    fetches = λ f p. absurd (let q = down_is p.0 p.1 p.2 (Fetch f) p.3 in cc);
    changes = λ v e n c p. absurd (let q = down_is v e n (Change c) p in cc);
    one_fetch = λ fs gs n k a. absurd (not_asking fs n a);
    one_change = λ v w fs gs n k a. absurd (not_changing v fs n a);
    one_of_both = λ v fs gs n k a. absurd (not_asking fs n a);
    fetches_welcome = λ v e n f p. absurd (let q = down_is v e n (Fetch f) p in cc);
    changes_welcome = λ v e n c p. absurd (let q = down_is v e n (Change c) p in cc);
    asks = λ c o going. absurd (elim o [ inl e ↦ (let p : None ≡ Some c = e in cc) | inr z ↦ none_open_d c z.0 ]);
  }

  deed : DoesLine (servers_of script.roster) past d Stop
  deed = ((λ v i. let y = down.all v i in down_says y.0 y.1 v y.2), drops_all, refl, refl, refl)

  lines : HostLines (lines_of script (Host m.host)) (servers_of script.roster) (limit_of script.roster m.host) past d
  lines = record {
    next = λ n e. (
      line,
      (next.0, next.1 ∙ (let p = e in cc)),
      subst (DoesLine (servers_of script.roster) past d)
          (sym stop) deed,
    );
    free = λ n e. (none_open_d, at_once.not_many script m past stands_d free.few);
    begins = λ k call b. absurd (no_turn_d k call (inl b));
    stops = λ _. (number, line, refl, next, stop);
    no_server = (λ n e. cc, λ e. cc);
    applies_none = (refl, refl, refl);
  }

  ends : HostEnds (lines_of script (Host m.host)) (limit_of script.roster m.host) past d
  ends = record {
    after = λ e. absurd (cc);
    implied = λ k call e. absurd (cc);
    bye = λ v p. absurd (let q = down_is v p.0 p.1 Bye p.2 in cc);
  }

  pub stopped : HostMay script m.host past d
  stopped = record {
    tokens = tokens;
    takes = record { all = λ w t u. absurd (teaches_d.none_used w u.0); once = λ t u i. elim i [ ] };
    stance = its;
    answers = unanswered.answers script m past d learnt_d [] (λ t i. elim i [ ]) (λ t h. absurd (none_left t h))
        (record { answers = refl; wrote = refl; begun = refl; stuck = λ k call t. absurd (no_turn_d k call t) });
    asks = asks;
    gives = unanswered.gives_none past d refl (λ t o. (inr o, no_leaves t.id))
        (λ g o new. absurd (new (none_new_d g o)));
    revoked = record {
      keeps = λ i k. absurd (let p = down_is k.0 k.1 k.2 (KeptBody k.3) k.4 in cc);
      returns_idle = λ i r. absurd (let p = down_is r.0 r.1 r.2 (Returned r.3) r.4 in cc);
    };
    resends = record { claims_only = λ v c. absurd (let p = down_is v c.0 c.1 (Reclaim c.2) c.3 in cc) };
    leaves = record {
      leaves = λ y i. subst (λ (w : Why). MayLeave script.roster m.host (limit_of script.roster m.host) past d w
          y.token)
          (sym (down.drops y i).0) stops;
    };
    lines = lines;
    ends = ends;
  }

pub stop_may : StopMay
stop_may script m past number dropped sent rests free line next stop down =
    stopped script m past number dropped sent rests free line next stop down
