-- The tables once a Done has come: one that answers nothing, and one that answers the Change and isn't used.
use Rattle.base_types.specs.Ids.{same_fid}
use Rattle.base_types.specs.Name.{same_name}
use Rattle.base_types.specs.declared.ids.FilesetId.{FilesetId}
use Rattle.base_types.specs.declared.ids.ServerId.{ServerId}
use Rattle.host_gives.specs.Giving.{given_in, is_of_file}
use Rattle.host_tables.proofs.Lists.{by_test, false_any, name_same, names_are, same_fid_is, true_false}
use Rattle.host_tables.specs.Half.{learning}
use Rattle.host_tables.specs.HeardDone.{AnswersChange, BringsNothing, NotesHome, UnusedDoneStands, call_after}
use Rattle.host_tables.specs.HeardDone.NotesHome.{NotesNone, NotesOne}
use Rattle.host_tables.specs.Hearing.{heard_of, hears, saying, with_heard}
use Rattle.host_tables.specs.Heeding.{AnswersNoChange, IsOfServer, UnaskedDoneStands}
use Rattle.host_tables.specs.Stands.{CallStands, HomesStand, SitesStand, Stands}
use Rattle.host_tables.specs.Tables.{home_of}
use Rattle.host_tables.specs.declared.calls.Home.{Home}
use Rattle.host_tables.specs.declared.calls.Request.TheVariants.{Change as AChange, Fetch as AFetch}
use Rattle.host_tables.specs.declared.tables.Tables.{Tables}
use Rattle.message_types.specs.declared.asking.Change.{Change as ChangeOf}
use Rattle.message_types.specs.declared.giving.AppliedGive.{AppliedGive}
use Rattle.message_types.specs.declared.giving.Give.{Give}
use Rattle.message_types.specs.declared.message.Body.{Body}
use Rattle.message_types.specs.declared.message.Body.TheVariants.{Done, Gone, Grant, Reclaimed, Revoke}
use Rattle.message_types.specs.declared.message.Message.{Message}
use Rattle.message_types.specs.declared.telling.Bring.{Bring}
use Rattle.message_types.specs.declared.telling.Done.{Done as DoneOf}
use Rattle.message_types.specs.declared.telling.DoneIs.{DoneIs}
use Rattle.message_types.specs.declared.telling.DoneIs.TheVariants.{Known as IsFileset, Reply as HasReply}
use Rattle.message_types.specs.declared.telling.Grant.{Grant as GrantOf}
use Rattle.message_types.specs.declared.tokens.Revoke.{Revoke as RevokeOf}
use Rattle.need_host.specs.Questions.{fileset_of}
use Rattle.run_rules.specs.HostAsks.{HasChanged}
use Rattle.run_rules.specs.Messages.{About, Asking, Changing, Comes, ComesIn, DoneComes, IsDecidedAt, IsWelcome}
use Rattle.run_rules.specs.Messages.{Renews, Stay, epoch_at, home}
use Rattle.run_rules.specs.Tokens.{AboveFloor, AnswersRequest, BringsUses, DoneCounts, GiveOpen, Learns, number_of}
use Rattle.run_rules.specs.Views.{Entered, Enters}
use Rattle.run_rules.specs.declared.step.Asked.{Asked}
use Rattle.run_rules.specs.declared.step.Cause.{Cause}
use Rattle.run_rules.specs.declared.step.Cause.TheVariants.{Message as Came}
use Rattle.run_rules.specs.declared.step.Step.{Step}
use Rattle.script_lines.specs.declared.script.Script.{Script}
use Rattle.std.proofs.Common.{List, None, Option, Some, [], ap, arith, false, inl, inr, refl, subst, sym, true, ℕ}
use Rattle.std.proofs.Common.{◌/◌, ◌↔◌, ◌∙◌, ◌∷◌, ◌≡◌, ◌⊎◌}
use Rattle.std.specs.Option.{option_map_or}
use Rattle.token_types.specs.declared.token.Token.{Token}
use Rattle.tree_calls.specs.declared.reply.Reply.{Reply}
use Rattle.host_tables.proofs.Heeding as heeding
use Rattle.host_tables.proofs.HearingParts as parts

-- fileset 0 is nowhere
nowhere : (fs : FilesetId) → fs.0 ≡ 0 → (home fs).0 ≡ 0
unfolding home
nowhere fs e = ap (λ (n : ℕ). n / 65536) e

module _ (script : Script) (m : Tables) (past : List Step) (server : ServerId) (epoch moves : ℕ) (d : DoneOf)
    (stands : Stands script m past) where
  abbrev cause : Cause
  cause = Came (saying m.host server epoch moves (Done d))

  abbrev s : Step
  s = hears m.host server epoch moves (Done d)

  pub done_is : (v : ServerId) (e n : ℕ) (c : Body) → ComesIn s v e n c → Done d ≡ c
  done_is v e n c x = (parts.comes_of m.host server epoch moves (Done d) past v e n c x).3

  same_done : (x : DoneOf) → Done d ≡ Done x → d ≡ x
  same_done x e = cc

  -- it is this one, of this server or under its fileset
  pub settled_is : (v : ServerId) (x : DoneOf) → DoneComes past s v x → d ≡ x
  settled_is v x (inl c) = same_done x (done_is _ _ _ (Done x) c.1)
  settled_is v x (inr c) = same_done x (done_is _ _ _ (Done x) c)

  pub none_learnt : (n : AppliedGive) → Learns past s n → ⊥
  none_learnt n l = elim l.1 [
    | inl x ↦ (let p = done_is _ _ _ (Gone n) x in absurd (cc))
    | inr x ↦ (let p = done_is _ _ _ (Reclaimed x.1) x.2 in absurd (cc))
  ]

  pub none_revoked : (fs : FilesetId) (r : RevokeOf) → About past s fs (Revoke r) → ⊥
  none_revoked fs r c = let p = done_is _ _ _ (Revoke r) c in absurd (cc)

  pub none_granted : (fs : FilesetId) (g : GrantOf) → About past s fs (Grant g) → ⊥
  none_granted fs g c = let p = done_is _ _ _ (Grant g) c in absurd (cc)

  pub no_renew : (fs : FilesetId) → Renews past s fs → ⊥
  no_renew fs (inl r) = omega (arith, r)
  no_renew fs (inr r) = omega (arith, r)

  pub sites : SitesStand m.sites (s ∷ past)
  sites = parts.sites_same m.host server epoch moves (Done d) past m.sites stands.sites refl (λ a e. absurd (cc))
      (λ e. absurd (cc))

  -- what it brings
  pub brings_is : (w : Bring) → AnswersRequest past s w
      → (d.bring ≡ w) × (home w.fid.fileset ≡ server) × BringsUses w
      × Changing past (home w.fid.fileset) d.fileset w.number
  brings_is w (inl (x, c, _, _)) = let p = done_is _ _ _ (Grant x) c in absurd (cc)
  brings_is w (inr (x, c, e, changing, uses)) =
      let same : d ≡ x = same_done x (done_is _ _ _ (Done x) c) in (
        ap (λ (y : DoneOf). y.bring) same ∙ e,
        sym (parts.comes_of m.host server epoch moves (Done d) past (home w.fid.fileset) _ _ (Done x) c).0,
        uses,
        subst (λ (y : DoneOf). Changing past (home w.fid.fileset) y.fileset w.number) (sym same) changing,
      )

  module _ (of : IsOfServer server d) (unasked : AnswersNoChange m server d) where
    -- the server of a Change is that of a Done with its fileset
    of_server : (v : ServerId) (c : ChangeOf) → m.request ≡ Some (AChange v c) → (x : DoneOf) → DoneComes past s v x
        → x.fileset ≡ c.fileset → v ≡ server
    of_server v c e x (inl y) at = sym (parts.comes_of m.host server epoch moves (Done d) past v _ _ (Done x) y.1).0
    of_server v c e x (inr y) at = elim (stands.request.change v c e).2 [
      | inl z ↦ absurd (
          let q = parts.comes_of m.host server epoch moves (Done d) past (home x.fileset) _ _ (Done x) y in
          let o = nowhere x.fileset (ap (λ (f : FilesetId). f.0) at ∙ z.0) in
          let k : server.0 ≡ (home x.fileset).0 = ap (λ (w : ServerId). w.0) q.0 in
          let l = of.declared in omega (arith, o, k, l)
          )
      | inr z ↦ (
          let q : home x.fileset ≡ v = ap home at ∙ ap (λ (k : Stay). k.server) z in
          sym q ∙ sym (parts.comes_of m.host server epoch moves (Done d) past (home x.fileset) _ _ (Done x) y).0
          )
    ]

    -- the request goes on
    not_done : (v : ServerId) (c : ChangeOf) → m.request ≡ Some (AChange v c) → (x : DoneOf) → DoneComes past s v x
        → x.fileset ≡ c.fileset → x.bring.number ≡ c.number → ⊥
    not_done v c e x comes at number =
        let same = settled_is v x comes in
        unasked v c e (of_server v c e x comes at) (sym at ∙ ap (λ (y : DoneOf). y.fileset) (sym same))
        (sym number ∙ ap (λ (y : DoneOf). y.bring.number) (sym same))

    none_counts : (v : ServerId) (x : DoneOf) → DoneCounts past s v x → ⊥
    none_counts v x c =
        let y = stands.request.changing v x.fileset x.bring.number c.1 in
        not_done y.0 y.1 y.2 x
        (elim c.0 [
          | inl z ↦ inl (z.0, subst (λ (w : ServerId). Comes past s w (Done x)) (sym (y.5 z.0)) z.1)
          | inr z ↦ inr z
        ]) (sym y.3) (sym y.4)

    pub none_used : (w : Bring) → AnswersRequest past s w → ⊥
    none_used w u =
        let r = brings_is w u in
        let y = stands.request.changing (home w.fid.fileset) d.fileset w.number r.3 in
        unasked y.0 y.1 y.2 (elim of.numbered [
          | inl z ↦ y.5 z ∙ r.1
          | inr z ↦ elim (stands.request.change y.0 y.1 y.2).2 [
            | inl k ↦ y.5 (ap (λ (f : FilesetId). f.0) (sym y.3) ∙ k.0) ∙ r.1
            | inr k ↦ sym (ap (λ (q : Stay). q.server) k) ∙ (ap home y.3 ∙ z)
          ]
        ]) y.3 (y.4 ∙ ap (λ (b : Bring). b.number) (sym r.0))

    pub unasked_done : Stands script m (s ∷ past)
    unasked_done = heeding.plain script m past cause stands none_learnt m.floors m.sites m.request m.homes m.call
        (parts.floors_same m.host cause past no_renew none_revoked (λ w u _ _. none_used w u) m.floors stands.floors)
        sites
        (parts.request_same m.host cause past m.request (λ f _ g c _ _. none_granted _ g c) not_done stands.request)
        (inl refl)
        (parts.homes_same m.host cause past (λ v name id x. none_counts v x.1 x.7) m.homes stands.homes)
        (parts.call_same m.host cause past m.call m.begun (λ c _ z. elim z [
          | inl x ↦ none_counts x.0 x.1 x.3
          | inr l ↦ none_learnt (number_of l.0) l.5
        ]) stands.call)
        (inl refl)

pub unasked_done_stands : UnaskedDoneStands
unasked_done_stands script m past server epoch moves d stands of unasked =
    unasked_done script m past server epoch moves d stands of unasked

-- # It answers the Change

by_option : {A : Type 0} (o : Option A) → (o ≡ None) ⊎ ((a : A) × (o ≡ Some a))
by_option None = inl refl
by_option (Some a) = inr (a, refl)

-- names, equal or not
name_cases : (a b : List ℕ) → (a ≡ b) ⊎ (a ≡ b → ⊥)
name_cases a b = elim (by_test (same_name a b)) [
  | inl e ↦ inl (names_are a b e)
  | inr n ↦ inr (λ e. true_false (same_name a b) (subst (λ (x : List ℕ). same_name a x ≡ true) e (name_same a)) n)
]

-- an outcome is a reply, or it isn't
by_outcome : (o : DoneIs) (call : Option Asked) → ((r : Reply) × (o ≡ HasReply r) × (call_after o call ≡ None))
    ⊎ (((r : Reply) → o ≡ HasReply r → ⊥) × (call_after o call ≡ call))
by_outcome (HasReply r) call = inl (r, refl, refl)
by_outcome _ call = inr ((λ r e. cc), refl)

module _ (script : Script) (m : Tables) (past : List Step) (server : ServerId) (epoch moves : ℕ) (d : DoneOf)
    (stands : Stands script m past) (answers : AnswersChange m server epoch moves d) (taken : List Token) where
  abbrev c : ChangeOf
  c = answers.change

  abbrev came : Cause
  came = Came (saying m.host server epoch moves (Done d))

  abbrev a : Step
  a = learning m.host came taken

  -- the request is of this Change, at this server
  pub its : HasChanged past server c × Changing past server c.fileset c.number × IsDecidedAt past c.fileset server 0
      × IsWelcome past server
  its = stands.request.change server c answers.asked

  here : epoch ≡ epoch_at past server
  here = sym answers.present ∙ (stands.sites server).epoch

  -- it counts
  pub counts_at : (v : ServerId) → (d.fileset.0 ≡ 0 → server ≡ v) → DoneComes past a v d
  counts_at v same = elim its.2 [
    | inl z ↦ (
        let k : d.fileset.0 ≡ 0 = ap (λ (f : FilesetId). f.0) (sym answers.of_fileset) ∙ z.0 in
        let e = same k in
        inl (
          k,
          (
            saying m.host server epoch moves (Done d),
            refl,
            e,
            here ∙ ap (epoch_at past) e,
            answers.no_moves,
            refl,
          ),
        )
        )
    | inr z ↦ (
        let e : server ≡ home d.fileset = sym (ap home (sym answers.of_fileset) ∙ ap (λ (k : Stay). k.server) z) in
        inr (saying m.host server epoch moves (Done d), refl, e, here ∙ ap (epoch_at past) e, answers.no_moves, refl)
        )
  ]

  pub counts : DoneCounts past a server d
  counts = (
    counts_at server (λ e. refl),
    subst (λ (x : FilesetId × ℕ). Changing past server x.0 x.1) (λ i. (answers.of_fileset i, answers.number i)) its.1,
  )

  -- and nothing is asked any more
  pub none_asking : (fs : FilesetId) (n : ℕ) → Asking (a ∷ past) fs n → ⊥
  none_asking fs n (inl x, _) = elim x.1.3.1 [ ]
  none_asking fs n (inr x, _) =
      let r = stands.request.asking fs n x in
      let e : Some (AChange server c) ≡ Some (AFetch r.0) = sym answers.asked ∙ r.1 in absurd (cc)

  change_is : (w : ServerId) (k : ChangeOf) → m.request ≡ Some (AChange w k) → (server ≡ w) × (c ≡ k)
  change_is w k e = both w k (sym answers.asked ∙ e)
    where
      both : (w : ServerId) (k : ChangeOf) → Some (AChange server c) ≡ Some (AChange w k) → (server ≡ w) × (c ≡ k)
      both w k e = (cc, cc)

  pub none_changing : (v : ServerId) (fs : FilesetId) (n : ℕ) → Changing (a ∷ past) v fs n → ⊥
  none_changing v fs n (inl x, _) = elim x.1.3.1 [ ]
  none_changing v fs n (inr x, ended) =
      let r = stands.request.changing v fs n x in
      let q = change_is r.0 r.1 r.2 in
      let at : d.fileset ≡ fs = sym answers.of_fileset ∙ (ap (λ (k : ChangeOf). k.fileset) q.1 ∙ r.3) in
      let number : d.bring.number ≡ n = sym answers.number ∙ (ap (λ (k : ChangeOf). k.number) q.1 ∙ r.4) in
      ended d (counts_at v (λ z. q.0 ∙ r.5 (ap (λ (f : FilesetId). f.0) (sym at) ∙ z))) at number

  -- the Done that comes is this one
  by_body : (x : DoneOf) (v : ServerId) (e n : ℕ) → ComesIn a v e n (Done x) → d ≡ x
  by_body x v e n z =
      let p = z.1 in
      let q : saying m.host server epoch moves (Done d) ≡ z.0 = cc in
      let b : Done d ≡ Done x = ap (λ (k : Message). k.body) q ∙ z.5 in cc

  one_done : (x : DoneOf) (v : ServerId) → DoneComes past a v x → d ≡ x
  one_done x v (inl y) = by_body x _ _ _ y.1
  one_done x v (inr y) = by_body x _ _ _ y

  -- what is entered by it
  pub enters_is : (w : ServerId) (name : List ℕ) (id : FilesetId) → Enters past a w name id
      → (c.enter ≡ true) × (fileset_of c.call ≡ Some (w, name)) × (d.outcome ≡ IsFileset id)
  enters_is w name id (k, x, e, n, said, enter, at, done, number, fileset, outcome) =
      let same_x : d ≡ x = one_done x w done.0 in
      let r = stands.request.changing w x.fileset x.bring.number done.1 in
      let q = change_is r.0 r.1 r.2 in
      let fs : k.fileset ≡ c.fileset = sym fileset ∙ (ap (λ (y : DoneOf). y.fileset) (sym same_x)
      ∙ sym answers.of_fileset) in
      let no : k.number ≡ c.number = sym number ∙ (ap (λ (y : DoneOf). y.bring.number) (sym same_x)
      ∙ sym answers.number) in
      let same : k ≡ c = stands.request.one_change server k c
      (w, e, n, said, λ z. sym (q.0 ∙ r.5 (ap (λ (f : FilesetId). f.0) fileset ∙ z))) its.0 fs no in (
        subst (λ (y : ChangeOf). y.enter ≡ true) same enter,
        subst (λ (y : ChangeOf). fileset_of y.call ≡ Some (w, name)) same at,
        ap (λ (y : DoneOf). y.outcome) same_x ∙ outcome,
      )

  pub is_entered : (w : ServerId) (name : List ℕ) (id : FilesetId) → c.enter ≡ true → fileset_of c.call ≡ Some (w, name)
      → d.outcome ≡ IsFileset id → Enters past a w name id
  is_entered w name id enter at outcome =
      let r = stands.request.entering server c w name answers.asked enter at in (
        c,
        d,
        r.1.0,
        r.1.1,
        r.1.2,
        enter,
        at,
        (
          counts_at w (λ _. sym r.0),
          subst (λ (v : ServerId). Changing past v d.fileset d.bring.number) (sym r.0) counts.1,
        ),
        sym answers.number,
        sym answers.of_fileset,
        outcome,
      )

  pub homes_noted : (homes : List Home) → NotesHome m.homes homes c d.outcome → HomesStand homes (a ∷ past)
  homes_noted homes (NotesNone none same) = subst (λ (h : List Home). HomesStand h (a ∷ past)) (sym same) (record {
    seen = λ w name id. (
      (λ e. inr ((stands.homes.seen w name id).0 e)),
      λ e. elim e [
        | inl x ↦ absurd (let r = enters_is w name id x in none w name id r.0 r.1 r.2)
        | inr x ↦ (stands.homes.seen w name id).1 x
      ],
    );
  })
  homes_noted homes (NotesOne w name id enter at outcome noted others) = record {
    seen = λ v other k. elim (parts.server_cases v w) [
      | inl e ↦ elim (name_cases other name) [
        | inl f ↦ subst (λ (x : ServerId × List ℕ). (home_of homes x.0 x.1 ≡ Some k) ↔ Entered (a ∷ past) x.0 x.1 k)
            (λ i. (sym e i, sym f i)) (the_one k)
        | inr n ↦ another v other k (λ _ f. n f)
      ]
      | inr n ↦ another v other k (λ e _. n e)
    ];
  }
    where
      the_one : (k : FilesetId) → (home_of homes w name ≡ Some k) ↔ Entered (a ∷ past) w name k
      the_one k = (
        (λ e.
            let p : Some id ≡ Some k = sym noted ∙ e in
            let q : id ≡ k = cc in
            inl (subst (Enters past a w name) q (is_entered w name id enter at outcome))),
        λ e. elim e [
          | inl x ↦ (
              let p : IsFileset id ≡ IsFileset k = sym outcome ∙ (enters_is w name k x).2 in
              let q : id ≡ k = cc in noted ∙ ap Some q
              )
          | inr x ↦ absurd ((stands.request.entering server c w name answers.asked enter at).2 k x)
        ],
      )

      another : (v : ServerId) (other : List ℕ) (k : FilesetId) → (v ≡ w → other ≡ name → ⊥)
          → (home_of homes v other ≡ Some k) ↔ Entered (a ∷ past) v other k
      another v other k not = (
        (λ e. inr ((stands.homes.seen v other k).0 (sym (others v other not) ∙ e))),
        λ e. others v other not ∙ elim e [
          | inl x ↦ absurd (
              let r = (enters_is v other k x).1 in
              let q = pair_is (w, name) (v, other) (sym at ∙ r) in
              not (sym (ap (λ (x : ServerId × List ℕ). x.0) q)) (sym (ap (λ (x : ServerId × List ℕ). x.1) q))
              )
          | inr x ↦ (stands.homes.seen v other k).1 x
        ],
      )
        where
          pair_is : (x y : ServerId × List ℕ) → Some x ≡ Some y → x ≡ y
          pair_is x y p = cc

  -- what becomes of the call
  pub call_ended : ((n : AppliedGive) → Learns past a n → ⊥) → CallStands (call_after d.outcome m.call) m.begun
      (a ∷ past)
  call_ended none_learnt = elim (by_outcome d.outcome m.call) [
    | inl r ↦ subst (λ (o : Option Asked). CallStands o m.begun (a ∷ past)) (sym r.2) (record {
      is_open = λ k e. absurd (cc);
      asked = λ k o. elim o [ inl e ↦ absurd (cc) | inr x ↦ absurd (x.1 (inl (server, d, r.0, counts, r.1))) ];
      begun = let b = stands.call.begun in omega (arith, b);
    })
    | inr r ↦ subst (λ (o : Option Asked). CallStands o m.begun (a ∷ past)) (sym r.1) (record {
      is_open = λ k e. inr (
        stands.call.is_open k e,
        (λ z. elim z [
          | inl x ↦ r.0 x.2 (ap (λ (y : DoneOf). y.outcome) (one_done x.1 x.0 x.3.0) ∙ x.4)
          | inr l ↦ none_learnt (number_of l.0) l.5
        ]),
        λ y i. elim i [ ],
      );
      asked = λ k o. stands.call.asked k (elim o [ inl e ↦ absurd (cc) | inr x ↦ x.0 ]);
      begun = let b = stands.call.begun in omega (arith, b);
    })
  ]

  pub call_kept : (call_after d.outcome m.call ≡ m.call) ⊎ (call_after d.outcome m.call ≡ None)
  call_kept = elim (by_outcome d.outcome m.call) [ inl r ↦ inr r.2 | inr r ↦ inl r.1 ]

module _ (script : Script) (m : Tables) (past : List Step) (server : ServerId) (epoch moves : ℕ) (d : DoneOf)
    (homes : List Home) (stands : Stands script m past) (answers : AnswersChange m server epoch moves d)
    (notes : NotesHome m.homes homes answers.change d.outcome) (nothing : BringsNothing m server d.bring) where
  abbrev came_u : Cause
  came_u = Came (saying m.host server epoch moves (Done d))

  abbrev b : Step
  b = hears m.host server epoch moves (Done d)

  -- it isn't used
  not_used : (w : Bring) → AnswersRequest past b w → AboveFloor past w.fid w.stamp → (GiveOpen past w.fid → ⊥) → ⊥
  not_used w u up free =
      let r = brings_is script m past server epoch moves d stands w u in
      let e = r.0 in
      nothing.unused
      (subst BringsUses (sym e) r.2)
      (ap (λ (x : Bring). home x.fid.fileset) e ∙ r.1)
      (stands.floors.floor d.bring.fid d.bring.stamp (subst (λ (x : Bring). AboveFloor past x.fid x.stamp) (sym e) up))
      (false_any (is_of_file d.bring.fid) m.gives.gives (λ y i t.
      let z = stands.gives.made y i in
      subst (λ (x : Bring). GiveOpen past x.fid → ⊥) (sym e) free (
        z.0,
        z.2,
        of_file z.0
            (subst (λ (c : Body). option_map_or (λ (give : Give). same_fid give.fid d.bring.fid)
            (given_in c) false ≡ true)
            z.1 t),
        z.3,
      )))
    where
      of_file : (k : Give) → same_fid k.fid d.bring.fid ≡ true → k.fid ≡ d.bring.fid
      of_file k e = same_fid_is k.fid d.bring.fid e

  pub unused_done : Stands script (with_heard m (record (heard_of m) {
    request = None;
    homes = homes;
    call = call_after d.outcome m.call;
  })) (b ∷ past)
  unused_done =
      let none = none_learnt script m past server epoch moves d stands in
      heeding.plain script m past came_u stands none m.floors m.sites None homes (call_after d.outcome m.call)
      (parts.floors_same m.host came_u past (no_renew script m past server epoch moves d stands)
      (none_revoked script m past server epoch moves d stands) not_used m.floors stands.floors)
      (sites script m past server epoch moves d stands)
      (parts.request_gone m.host came_u past m.request stands.request
      (none_asking script m past server epoch moves d stands answers [])
      (none_changing script m past server epoch moves d stands answers []))
      (inr refl)
      (homes_noted script m past server epoch moves d stands answers [] homes notes)
      (call_ended script m past server epoch moves d stands answers [] none)
      (call_kept script m past server epoch moves d stands answers [])

pub unused_done_stands : UnusedDoneStands
unused_done_stands script m past server epoch moves d homes stands answers notes nothing =
    unused_done script m past server epoch moves d homes stands answers notes nothing
