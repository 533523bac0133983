-- What a host says again may be said.
use Rattle.base_types.specs.declared.ids.Fid.{Fid}
use Rattle.base_types.specs.declared.ids.FilesetId.{FilesetId}
use Rattle.base_types.specs.declared.ids.ServerId.{ServerId}
use Rattle.host_gives.specs.Giving.{Giving}
use Rattle.host_tables.proofs.Lists.{by_test, none_in, true_false}
use Rattle.host_tables.specs.Half.{half}
use Rattle.host_tables.specs.Quiet.{IsQuiet, Moved, MovesRight}
use Rattle.host_tables.specs.Saying.{AgainMay, ClaimFrom, IsFirst, IsOld, SaysAgain}
use Rattle.host_tables.specs.Saying.SaysAgain.{OfBye, OfChange, OfClaim, OfFetch, OfGive, OfHello}
use Rattle.host_tables.specs.Sending.{MayChange, MayFetch, MayGive, MayLeaveAll, MaySay, MaySend}
use Rattle.host_tables.specs.Stands.{GivesStand, Stands}
use Rattle.host_tables.specs.Tables.{site_at}
use Rattle.host_gives.specs.declared.leavings.Leaving.{Leaving}
use Rattle.host_tables.specs.declared.calls.Request.{Request}
use Rattle.host_tables.specs.declared.calls.Request.TheVariants.{Change as AChange, Fetch as AFetch}
use Rattle.host_tables.specs.declared.tables.Tables.{Tables}
use Rattle.message_types.specs.declared.asking.Change.{Change as ChangeOf}
use Rattle.message_types.specs.declared.asking.Fetch.{Fetch as FetchOf}
use Rattle.message_types.specs.declared.giving.Give.{Give}
use Rattle.message_types.specs.declared.giving.Reclaim.{Reclaim as ReclaimOf}
use Rattle.message_types.specs.declared.message.Body.{Body}
use Rattle.message_types.specs.declared.message.Body.TheVariants.{Bye, GiveBack}
use Rattle.message_types.specs.declared.message.Message.{Message}
use Rattle.run_rules.specs.HostAsks.{HasChanged, HasFetched}
use Rattle.run_rules.specs.HostTokens.{Claims, IsClaimable, IsInGive}
use Rattle.run_rules.specs.Messages.{Asking, Changing, HasSaid, IsWelcome, SendsChange, SendsFetch, epoch_at, home}
use Rattle.run_rules.specs.Past.{In}
use Rattle.run_rules.specs.Tokens.{EverHeld, Held as HeldBy, IsKnown, IsOutstanding, Made, NamesGive, Owns}
use Rattle.run_rules.specs.Tokens.{WaitsBehind}
use Rattle.run_rules.specs.Views.{Stance}
use Rattle.run_rules.specs.declared.step.Step.{Step}
use Rattle.script_lines.specs.declared.script.Script.{Script}
use Rattle.std.proofs.Common.{List, Some, [], ap, arith, eqb-true, inl, inr, ltb-true, nat_lt, refl, subst, sym, true}
use Rattle.std.proofs.Common.{ℕ, ◌<◌, ◌==◌, ◌∙◌, ◌∷◌, ◌≡◌, ◌≤◌, ◌⊎◌}
use Rattle.std.proofs.lemmas.Bool.{eq-eqb, ltb-false}
use Rattle.token_types.specs.declared.token.Token.{Token}
use Rattle.token_types.specs.declared.token.TokenId.{TokenId}

-- the first give-back of a fileset is outstanding, and the other way round
pub first_out : (gives : Giving) (past : List Step) → GivesStand gives past → (g : Give) → IsFirst gives g
    → IsOutstanding past g
first_out gives past stands g first =
    let r = stands.made first.message first.within in
    let e : GiveBack g ≡ GiveBack r.0 = sym first.body ∙ r.1 in
    let q : r.0 ≡ g = cc in
    record {
      made = subst (Made past) q r.2;
      unknown = λ k. r.3 (subst (IsKnown past) (sym q) k);
      first = λ w. elim (stands.all w.0 w.1) [ inl k ↦ w.4 k | inr y ↦ first.least y.0 w.0 y.1 y.2 w.2 w.3 ];
    }

pub out_first : (gives : Giving) (past : List Step) → GivesStand gives past → (g : Give) → IsOutstanding past g
    → IsFirst gives g
out_first gives past stands g o = elim (stands.all g o.made) [
  | inl k ↦ absurd (o.unknown k)
  | inr y ↦ record {
    message = y.0;
    within = y.1;
    body = y.2;
    least = λ other k i e same less.
        let r = stands.made other i in
        let b : GiveBack k ≡ GiveBack r.0 = sym e ∙ r.1 in
        let q : r.0 ≡ k = cc in
        o.first (k, subst (Made past) q r.2, same, less, λ z. r.3 (subst (IsKnown past) (sym q) z));
  }
]

-- two numbers, two filesets
less_or : (a b : ℕ) → (a < b) ⊎ (b ≤ a)
less_or a b = elim (by_test (nat_lt a b)) [ inl e ↦ inl (ltb-true a b e) | inr n ↦ inr (ltb-false a b n) ]

fileset_or : (a b : FilesetId) → (a ≡ b) ⊎ (a ≡ b → ⊥)
fileset_or a b = elim (by_test (a.0 == b.0)) [
  | inl e ↦ (let p = eqb-true a.0 b.0 e in inl (λ i. record { 0 = p i }))
  | inr n ↦ inr (λ e. true_false (a.0 == b.0) (eq-eqb a.0 b.0 (ap (λ (x : FilesetId). x.0) e)) n)
]

-- either no give-back of the fileset has a smaller number, or one has
none_less : (xs : List Message) (g : Give) → ((y : Message) → In y xs → (k : Give) × (y.body ≡ GiveBack k))
    → ((y : Message) (k : Give) → In y xs → y.body ≡ GiveBack k → k.fid.fileset ≡ g.fid.fileset → k.number < g.number
    → ⊥)
    ⊎ ((y : Message) × (k : Give) × In y xs × (y.body ≡ GiveBack k) × (k.fid.fileset ≡ g.fid.fileset)
    × (k.number < g.number))
none_less [] g are = inl (λ y k i. elim i [ ])
none_less (x ∷ xs) g are =
    let r = are x (inl refl) in
    elim (none_less xs g (λ y i. are y (inr i))) [
      | inr z ↦ inr (z.0, z.1, inr z.2, z.3, z.4, z.5)
      | inl none ↦ elim (fileset_or r.0.fid.fileset g.fid.fileset) [
        | inl same ↦ elim (less_or r.0.number g.number) [
          | inl less ↦ inr (x, r.0, inl refl, r.1, same, less)
          | inr more ↦ inl (λ y k i e s l. elim i [
            | inl p ↦ (
                let b : GiveBack k ≡ GiveBack r.0 = sym e ∙ (ap (λ (z : Message). z.body) p ∙ r.1) in
                let q = number_same k r.0 b in omega (arith, more, l, q)
                )
            | inr j ↦ none y k j e s l
          ])
        ]
        | inr other ↦ inl (λ y k i e s l. elim i [
          | inl p ↦ (
              let b : GiveBack k ≡ GiveBack r.0 = sym e ∙ (ap (λ (z : Message). z.body) p ∙ r.1) in
              other (sym (fileset_same k r.0 b) ∙ s)
              )
          | inr j ↦ none y k j e s l
        ])
      ]
    ]
  where
    same_give : (k j : Give) → GiveBack k ≡ GiveBack j → k ≡ j
    same_give k j e = cc

    number_same : (k j : Give) → GiveBack k ≡ GiveBack j → k.number ≡ j.number
    number_same k j e = ap (λ (z : Give). z.number) (same_give k j e)

    fileset_same : (k j : Give) → GiveBack k ≡ GiveBack j → k.fid.fileset ≡ j.fid.fileset
    fileset_same k j e = ap (λ (z : Give). z.fid.fileset) (same_give k j e)

-- a Change that is numbered under a fileset is outstanding at any server
changing_any : (past : List Step) (v w : ServerId) (fs : FilesetId) (n : ℕ) → (fs.0 ≡ 0 → ⊥) → Changing past w fs n
    → Changing past v fs n
changing_any [] v w fs n some c = elim c [ ]
changing_any (a ∷ past) v w fs n some (x, ends) = (
  elim x [
    | inl k ↦ inl (
      k.0,
      (k.1.0, k.1.1, k.1.2, k.1.3, λ z. absurd (some (ap (λ (f : FilesetId). f.0) (sym k.2) ∙ z))),
      k.2,
      k.3,
    )
    | inr c ↦ inr (changing_any past v w fs n some c)
  ],
  λ d comes at number. ends d (elim comes [
    | inl z ↦ absurd (some (ap (λ (f : FilesetId). f.0) (sym at) ∙ z.0))
    | inr z ↦ inr z
  ]) at number,
)

nought_or : (n : ℕ) → (n ≡ 0) ⊎ (n ≡ 0 → ⊥)
nought_or n = elim (by_test (n == 0)) [
  | inl e ↦ inl (eqb-true n 0 e)
  | inr k ↦ inr (λ e. true_false (n == 0) (eq-eqb n 0 e) k)
]

-- what is held was taken
held_ever : (past : List Step) (t : Token) → HeldBy past t → EverHeld past t
held_ever [] t h = elim h [ ]
held_ever (a ∷ past) t (inl i, _) = inl i
held_ever (a ∷ past) t (inr h, _) = inr (held_ever past t h)

module _ (script : Script) (m : Tables) (x : Moved) (past : List Step) (s : Step)
    (learnt : Stands script m (half s ∷ past))
    (quiet : IsQuiet s) (moves : MovesRight m x past s) where
  made_half : (g : Give) → Made (s ∷ past) g → Made (half s ∷ past) g
  made_half g (inl i) = absurd (none_in s.made quiet.made g i)
  made_half g (inr i) = inr i

  half_made : (g : Give) → Made (half s ∷ past) g → Made (s ∷ past) g
  half_made g (inl i) = elim i [ ]
  half_made g (inr i) = inr i

  pub gives : GivesStand m.gives (s ∷ past)
  gives = record {
    made = λ y i. let r = learnt.gives.made y i in (r.0, r.1, half_made r.0 r.2, r.3);
    all = λ g i. learnt.gives.all g (made_half g i);
    one = λ g k a b. learnt.gives.one g k (made_half g a) (made_half k b);
    last = λ g i. learnt.gives.last g (made_half g i);
    counted = λ fs. elim (learnt.gives.counted fs) [ inl e ↦ inl e | inr r ↦ inr (r.0, half_made r.0 r.1, r.2, r.3) ];
  }

  held_half : (t : Token) → HeldBy (s ∷ past) t → HeldBy (half s ∷ past) t
  held_half t h = (h.0, λ d. elim d.1 [ ])

  half_held : (t : Token) → HeldBy (half s ∷ past) t → HeldBy (s ∷ past) t
  half_held t h = (h.0, λ d. none_in s.dropped quiet.dropped d.0 d.1)

  owned_half : (t : Token) → Owns (s ∷ past) t → Owns (half s ∷ past) t
  owned_half t o = (o.0, λ l. elim l [ inl k ↦ elim k.1 [ ] | inr k ↦ elim k.4.1 [ ] ])

  -- give-backs
  pub give_may : (stance : Stance script.roster m.host past s) (v : ServerId) (g : Give) → IsFirst m.gives g
      → home g.fid.fileset ≡ v → MayGive script.roster m.host past s stance v 0 g
  give_may stance v g first at =
      let o = first_out m.gives (s ∷ past) gives g first in
      record {
        made = o.made;
        place = λ i. record { server = at i; moves = 0 };
        first = λ k made same less. elim (gives.all k made) [
          | inl q ↦ q
          | inr y ↦ absurd (first.least y.0 k y.1 y.2 same less)
        ];
      }

  -- requests
  said_none : (w : ServerId) → HasSaid past w Bye → (r : Request) → m.request ≡ Some r → ⊥
  said_none w b r e = let p = sym (learnt.parted w (b.0, b.1, inr b.2)).none_asked ∙ e in absurd (cc)

  pub fetch_may : (stance : Stance script.roster m.host past s) (v : ServerId) (f : FetchOf)
      → m.request ≡ Some (AFetch f)
      → home f.fid.fileset ≡ v → MayFetch script.roster m.host past s stance v 0 f
  fetch_may stance v f e at =
      let r = learnt.request.fetch f e in
      record {
        place = λ i. record { server = at i; moves = 0 };
        no_bye = λ w b. said_none w b (AFetch f) e;
        why = inl (before r.0, asked_before r.1.0);
        welcome = subst (IsWelcome (s ∷ past)) at r.2;
      }
    where
      before : HasFetched (half s ∷ past) f → HasFetched past f
      before (w, e, n, inl p) = elim p.1 [ ]
      before (w, e, n, inr p) = (w, e, n, p)

      asked_before : ((k : FetchOf) × SendsFetch (half s) k × (k.fid.fileset ≡ f.fid.fileset) × (k.number ≡ f.number))
          ⊎ Asking past f.fid.fileset f.number → Asking past f.fid.fileset f.number
      asked_before (inl k) = elim k.1.3.1 [ ]
      asked_before (inr a) = a

  pub change_may : (stance : Stance script.roster m.host past s) (v : ServerId) (c : ChangeOf)
      → m.request ≡ Some (AChange v c)
      → MayChange script.roster m.host past s stance v 0 c
  change_may stance v c e =
      let r = learnt.request.change v c e in
      record {
        place = r.2;
        no_bye = λ w b. said_none w b (AChange v c) e;
        why = inl (before r.0, asked_before r.1.0);
        welcome = r.3;
      }
    where
      before : HasChanged (half s ∷ past) v c → HasChanged past v c
      before (w, e, n, inl p, q) = elim p.1 [ ]
      before (w, e, n, inr p, q) = (w, e, n, p, q)

      asked_before : ((k : ChangeOf) × SendsChange (half s) v k × (k.fileset ≡ c.fileset) × (k.number ≡ c.number))
          ⊎ Changing past v c.fileset c.number → Changing past v c.fileset c.number
      asked_before (inl k) = elim k.1.3.1 [ ]
      asked_before (inr a) = a

  -- Bye again
  pub bye_may : (stance : Stance script.roster m.host past s) (v : ServerId) → (site_at m.sites v).said_bye ≡ true
      → MayLeaveAll script.roster m.host past s stance v
  bye_may stance v e =
      let said = (learnt.sites v).said_bye.0 e in
      let p = learnt.parted v said in
      let now = moves.parted v (said_now said) in
      record {
        greeted = before p.greeted;
        none_held = λ t h. p.none_owned t (learnt.cache.owned t (learnt.cache.cached t (held_half t h)));
        none_owned = λ t o. p.none_owned t (owned_half t o);
        why = inr (before said);
        known = λ g i. p.known g (made_half g i);
        none_asked = λ fs k a. absurd (let r = moves.request.asking fs k a in let q = sym now.none_asked ∙ r.1 in cc);
        none_changing = λ w fs k a. absurd (let r = moves.request.changing w fs k a in let q = sym now.none_asked
            ∙ r.2 in cc);
      }
    where
      before : {b : Body} → HasSaid (half s ∷ past) v b → HasSaid past v b
      before (e, n, inl p) = elim p.1 [ ]
      before (e, n, inr p) = (e, n, p)

      said_now : HasSaid (half s ∷ past) v Bye → HasSaid (s ∷ past) v Bye
      said_now (e, n, inl p) = elim p.1 [ ]
      said_now (e, n, inr p) = (e, n, inr p)

  -- a claim
  module _ (v : ServerId) (claim : ReclaimOf) (from : ClaimFrom m v claim) (same : x.request ≡ m.request) where
    epoch_is : (site_at m.sites v).epoch ≡ epoch_at (s ∷ past) v
    epoch_is = (learnt.sites v).epoch

    old : (id : TokenId) → IsClaimable (s ∷ past) v id → IsOld v (site_at m.sites v).epoch id
    old id (at, l) = (at, (let e = epoch_is in omega (arith, e, l)))

    claimable : (id : TokenId) → IsOld v (site_at m.sites v).epoch id → IsClaimable (s ∷ past) v id
    claimable id (at, l) = (at, (let e = epoch_is in omega (arith, e, l)))

    changing_half : (fs : FilesetId) (n : ℕ) → Changing (half s ∷ past) v fs n → Changing (s ∷ past) v fs n
    changing_half fs n (inl k, _) = elim k.1.3.1 [ ]
    changing_half fs n (inr a, ends) = (inr a, ends)

    in_give : (t : Token) (y : Leaving) → In y m.leaving → y.token ≡ t → In t claim.tokens → IsInGive (s ∷ past) claim t
    in_give t y i same k =
        let r = learnt.leaving.from y i in
        let g = r.1.0 in (
          g,
          half_made g r.1.1,
          sym r.1.4 ∙ ap (λ (z : Token). z.fid) same,
          subst (λ (z : Token). In z.id g.ids) same r.1.3,
          by_place g r.1.1 r.1.2 (ap (λ (z : Token). z.fid) (sym same)
              ∙ r.1.4),
        )
      where
        by_place : (g : Give) → Made (half s ∷ past) g → (IsKnown (half s ∷ past) g → ⊥) → t.fid ≡ g.fid
            → NamesGive claim.numbers g ⊎ WaitsBehind (s ∷ past) g
        by_place g made unknown at = elim (learnt.gives.all g made) [
          | inl q ↦ absurd (unknown q)
          | inr z ↦ elim (none_less m.gives.gives g (λ y j. let r = learnt.gives.made y j in (r.0, r.1))) [
            | inl none ↦ (
                let first : IsFirst m.gives g = record { message = z.0; within = z.1; body = z.2; least = none } in
                let o = from.numbers t k in
                let at_o : g.fid.fileset ≡ o.0.fileset = ap (λ (f : Fid). f.fileset) (sym at) ∙ sym o.2 in
                inl (o.0, o.1, sym at_o, from.gives_all o.0 g o.1 first at_o)
                )
            | inr b ↦ (
                let r = learnt.gives.made b.0 b.2 in
                let e : GiveBack r.0 ≡ GiveBack b.1 = sym r.1 ∙ b.3 in
                let q : r.0 ≡ b.1 = cc in
                inr (
                  b.1,
                  half_made b.1 (subst (Made (half s ∷ past)) q r.2),
                  b.4,
                  b.5,
                  λ known. r.3 (subst (IsKnown (half s ∷ past)) (sym q) known),
                )
                )
          ]
        ]

    pub claims : Claims (s ∷ past) v claim
    claims = record {
      held = λ t h c. from.held t (learnt.cache.cached t (held_half t h)) (old t.id c);
      given = λ g i made j c unknown.
          let y = learnt.leaving.tokens g i (made_half g made) j unknown in
          (y.0.token, from.given y.0 y.1 (old y.0.token.id (subst (IsClaimable (s ∷ past) v) (sym y.2) c)), y.2);
      only = λ t i. let r = from.only t i in elim r.1 [
        | inl h ↦ (
            let k = half_held t (learnt.cache.held t h) in
            (held_ever (s ∷ past) t k, claimable t.id r.0, inl k)
            )
        | inr y ↦ (
          subst (EverHeld (s ∷ past)) y.2 (learnt.leaving.from y.0 y.1).0,
          claimable t.id r.0,
          inr (in_give t y.0 y.1 y.2 i),
        )
      ];
      numbers = from.numbers;
      moves = from.moves;
      gives = λ o i l. let r = from.gives o i l in
          (r.0, first_out m.gives (s ∷ past) gives r.0 r.1, λ k. record { fileset = r.2 k; number = r.3 k });
      gives_all = λ o g i out at. from.gives_all o g i (out_first m.gives (s ∷ past) gives g out) at;
      changes = λ o i l.
          let r = from.changes o i l in
          let z = (learnt.request.change r.0 r.1 r.2).1 in
          changing_half o.fileset o.change (subst (λ (y : FilesetId × ℕ). Changing (half s ∷ past) v y.0 y.1)
          (λ k. (r.3 k, r.4 k)) (of_server r.0 r.1.fileset r.1.number z
          (λ e. r.5 (ap (λ (f : FilesetId). f.0) (sym r.3) ∙ e))));
      changes_all = λ o n i a.
          let r = moves.request.changing v o.fileset n a in
          from.changes_all o r.0 r.1 i (sym same ∙ r.2) r.3 r.5 ∙ r.4;
    }
      where
        of_server : (w : ServerId) (fs : FilesetId) (n : ℕ) → Changing (half s ∷ past) w fs n → (fs.0 ≡ 0 → w ≡ v)
            → Changing (half s ∷ past) v fs n
        of_server w fs n c at = elim (nought_or fs.0) [
          | inl z ↦ subst (λ (k : ServerId). Changing (half s ∷ past) k fs n) (at z) c
          | inr some ↦ changing_any (half s ∷ past) v w fs n some c
        ]

  says : (stance : Stance script.roster m.host past s) (v : ServerId) (b : Body) → SaysAgain m x past s v b
      → MaySay script.roster m.host past s stance v 0 b
  says stance v b OfHello = tt
  says stance v b (OfGive g first at) = give_may stance v g first at
  says stance v b (OfFetch f e at) = fetch_may stance v f e at
  says stance v b (OfChange c e) = change_may stance v c e
  says stance v b (OfClaim claim from same why) = record {
    claims = claims v claim from same;
    why = elim why [
      | inl l ↦ inl l
      | inr l ↦ inr (l.0, elim ((learnt.sites v).claimed.0 l.1).0 [ inl k ↦ elim k.3.1 [ ] | inr k ↦ k.0 ])
    ];
  }
  says stance v b (OfBye e) = bye_may stance v e

  pub again : (stance : Stance script.roster m.host past s) (y : Message) → y.epoch ≡ (site_at m.sites y.server).epoch
      → y.moves ≡ 0 → SaysAgain m x past s y.server y.body → MaySend script.roster m.host past s stance y
  again stance y epoch_now no_moves why = record {
    epoch_is = epoch_now ∙ (learnt.sites y.server).epoch;
    says = subst (λ (n : ℕ). MaySay script.roster m.host past s stance y.server n y.body) (sym no_moves)
        (says stance y.server y.body why);
  }

pub again_may : AgainMay
again_may script m x past s learnt quiet moves stance from y epoch_now no_moves why =
    again script m x past s learnt quiet moves stance y epoch_now no_moves why
